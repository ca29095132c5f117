-- Builds that a plan brings in go together with the loaded ones.
use Rattle.std.proofs.Common.{◌≡◌, ℕ, suc, ◌+◌, List, [], ◌∷◌, ◌++◌, map, Bool, true, false, cond, refl, sym, ap, ◌∙◌, subst, append_assoc, arith, Option, Some, None, inl, inr}
use Rattle.std.specs.Prelude.{◌||◌, bytes_eq, codes, Contains, ◌⊎◌}
use Rattle.std.specs.List.{AllByRecursion}
use Rattle.std.proofs.lemmas.Bool.{false≢true}
use Rattle.std.proofs.lemmas.List.{append-nil}
use Rattle.std.proofs.lemmas.Slice.Eq.{bytes_eq-Decides}
use Rattle.ob_tree.specs.declared.names.QName.{QName}
use Rattle.ob_types.specs.declared.face.Aspect.{Aspect}
use Rattle.ob_format.specs.Format.{◌>>=◌}
use Rattle.ob_desc.specs.Grammar.{text_of}
use Rattle.ob_env.specs.Faces.{Face, Wanted, face_named, object_named, text_in}
use Rattle.ob_link.specs.Plan.{named, is_there, kept_by, present, words_of}
use Rattle.ob_compile_model.specs.Compiling.{Compiled}
use Rattle.law_load_plan.specs.Seen.{IsAmong, is_among, IsMet, GoesBehind, GoInTurn}
use Rattle.ob_builds.specs.Builds.{Text, Build, IsValid, shows_of, name_of, asks}
use Rattle.ob_builds.specs.Local.{AreAsWanted}
use Rattle.ob_builds.specs.Afresh.{IsBehind, AreTogether}
use Rattle.law_builds.proofs.Members.{has_head, has_more, to_in, of_in, In}
use Rattle.law_lists.proofs.Lists.{bytes_same, second_false}

-- NAMES

named_in : (n : List ℕ) (bs : List Build) → is_there (named asks n bs) ≡ true → Contains (map name_of bs) n
named_in n [] e = absurd (false≢true e)
named_in n (b ∷ bs) e = go (bytes_eq n (name_of b)) refl e (named_in n bs)
  where
    go : (t : Bool) → bytes_eq n (name_of b) ≡ t → is_there (cond t (Some b) (named asks n bs)) ≡ true → (is_there (named asks n bs) ≡ true → Contains (map name_of bs) n) → Contains (name_of b ∷ map name_of bs) n
    go true i h rest = subst (λ x. Contains (x ∷ map name_of bs) n) ((bytes_eq-Decides n (name_of b)).0 i) (has_head n (map name_of bs))
    go false i h rest = has_more (name_of b) (map name_of bs) n (rest h)

in_named : (n : List ℕ) (bs : List Build) → In (map name_of bs) n → is_there (named asks n bs) ≡ true
in_named n [] i = absurd i
in_named n (b ∷ bs) (inl e) = ap (λ t. is_there (cond t (Some b) (named asks n bs))) (bytes_same n (name_of b) (sym e))
in_named n (b ∷ bs) (inr i) = go (bytes_eq n (name_of b)) (in_named n bs i)
  where
    go : (t : Bool) → is_there (named asks n bs) ≡ true → is_there (cond t (Some b) (named asks n bs)) ≡ true
    go true h = refl
    go false h = h

among : (n : List ℕ) (bs : List Build) → IsAmong asks bs n → (n ≡ codes "Out") ⊎ Contains (map name_of bs) n
among n bs e = go (bytes_eq n (codes "Out")) refl e
  where
    go : (t : Bool) → bytes_eq n (codes "Out") ≡ t → t || is_there (named asks n bs) ≡ true → (n ≡ codes "Out") ⊎ Contains (map name_of bs) n
    go true i h = inl ((bytes_eq-Decides n (codes "Out")).0 i)
    go false i h = inr (named_in n bs h)

all_among : (ns : List (List ℕ)) (bs : List Build) → AllByRecursion (IsAmong asks bs) ns → AllByRecursion (λ n. (n ≡ codes "Out") ⊎ Contains (map name_of bs) n) ns
all_among [] bs h = tt
all_among (n ∷ ns) bs h = (among n bs h.0, all_among ns bs h.1)

not_among : (n : List ℕ) (bs : List Build) → is_among asks bs n ≡ false → Contains (map name_of bs) n → ⊥
not_among n bs e c = false≢true (sym (second_false (bytes_eq n (codes "Out")) (is_there (named asks n bs)) e) ∙ in_named n bs (to_in (map name_of bs) n c))

-- TEXTS

abbrev of_found : QName → Aspect → Option (Face Text) → Option Text
of_found q a o = (o >>= λ f. object_named f.objects q.object) >>= λ d. text_of q d a

abbrev within : List ℕ → List ℕ → QName
within m x = record { «module» = m; object = x }

present_is : (bs : List Build) (q : QName) (a : Aspect) → present asks bs q a ≡ text_in (map shows_of bs) q a
present_is [] q a = refl
present_is (b ∷ bs) q a = go (bytes_eq q.«module» (name_of b)) refl (present_is bs q a)
  where
    go : (t : Bool) → bytes_eq q.«module» (name_of b) ≡ t → kept_by asks (named asks q.«module» bs) q.object a ≡ text_in (map shows_of bs) q a → kept_by asks (cond t (Some b) (named asks q.«module» bs)) q.object a ≡ of_found q a (cond t (Some (shows_of b)) (face_named (map shows_of bs) q.«module»))
    go true i rest =
        ap (λ t. of_found (within (name_of b) q.object) a (cond t (Some (shows_of b)) None)) (bytes_same (name_of b) (name_of b) refl)
        ∙ ap (λ m. of_found (within m q.object) a (Some (shows_of b))) (sym ((bytes_eq-Decides q.«module» (name_of b)).0 i))
    go false i rest = rest

all_met : (us : List (Wanted Text)) (bs : List Build) → AllByRecursion (IsMet asks bs) us → AreAsWanted (map shows_of bs) us
all_met [] bs h = tt
all_met (u ∷ us) bs h = (sym (present_is bs u.object u.aspect) ∙ h.0.is ∙ ap Some (sym ((bytes_eq-Decides u.kept h.0.found).0 h.0.same)), all_met us bs h.1)

-- IN TURN

abbrev IsSome : Build → Type 0
IsSome b = (c : Compiled Text) × IsValid b c

behind : (before : List Build) (b : Build) → GoesBehind asks before b → IsSome b → IsBehind before b
behind before b g v = record {
  imports = all_among (shows_of b).imports before g.imports;
  new = not_among (name_of b) before g.other;
  uses = all_met (shows_of b).uses before g.uses;
  few = g.few;
  valid = v;
}

in_turn : (bs before : List Build) → GoInTurn asks before bs → AllByRecursion IsSome bs → AreTogether before bs
in_turn [] before g v = tt
in_turn (b ∷ bs) before g v = (behind before b g.0 v.0, in_turn bs (before ++ b ∷ []) g.1 v.1)

all_together : (xs before ys : List Build) → AreTogether before xs → AreTogether (before ++ xs) ys → AreTogether before (xs ++ ys)
all_together [] before ys a b = subst (λ z. AreTogether z ys) (append-nil before) b
all_together (x ∷ xs) before ys a b = (a.0, all_together xs (before ++ x ∷ []) ys a.1 (subst (λ z. AreTogether z ys) (sym (append_assoc before (x ∷ []) xs)) b))

pub go_together : (loaded bs : List Build) → AreTogether [] loaded → GoInTurn asks loaded bs → AllByRecursion IsSome bs → AreTogether [] (loaded ++ bs)
go_together loaded bs t g v = all_together loaded [] bs t (in_turn bs loaded g v)

-- a loaded build is valid
valid_in : (bs before : List Build) → AreTogether before bs → AllByRecursion IsSome bs
valid_in [] before t = tt
valid_in (b ∷ bs) before t = (t.0.valid, valid_in bs (before ++ b ∷ []) t.1)

pub all_valid : (bs : List Build) → AreTogether [] bs → AllByRecursion IsSome bs
all_valid bs t = valid_in bs [] t

-- WORDS

pub words_both : (xs ys : List Build) → words_of asks (xs ++ ys) ≡ words_of asks xs + words_of asks ys
words_both [] ys = omega arith
words_both (x ∷ xs) ys = let e = words_both xs ys in omega (arith, e)
