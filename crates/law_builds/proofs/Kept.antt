-- The texts that the uses of a build keep.
use Rattle.std.proofs.Common.{◌≡◌, ℕ, List, [], ◌∷◌, Bool, true, false, cond, refl, sym, ap, ◌∙◌, subst, Option, Some, None, inr}
use Rattle.std.specs.Prelude.{bytes_eq, Contains}
use Rattle.std.specs.Option.{option_map}
use Rattle.std.specs.List.{AllByRecursion, flat_map}
use Rattle.std.proofs.lemmas.Bool.{false≢true}
use Rattle.ob_tree.specs.declared.names.QName.{QName}
use Rattle.ob_types.specs.declared.face.Aspect.{Aspect}
use Rattle.ob_types.specs.declared.desc.Desc.{Desc}
use Rattle.ob_types.specs.Maps.{listed}
use Rattle.ob_format.specs.Format.{◌>>=◌}
use Rattle.ob_desc.specs.Grammar.{text_of}
use Rattle.ob_env.specs.Faces.{Face, Wanted, face_named, object_named, text_in}
use Rattle.ob_uses.specs.declared.pair.Pair.{Pair}
use Rattle.ob_uses.specs.Uses.{with_kept}
use Rattle.ob_compile_model.specs.Compiling.{Compiled, texts, made}
use Rattle.ob_builds.specs.Builds.{Text, Build, IsValid}
use Rattle.ob_builds.specs.Local.{AreAsWanted}
use Rattle.ob_builds.specs.Apart.{IsTextOf, IsTextOfBuild}
use Rattle.law_builds.proofs.Members.{has_head, has_more}
use Rattle.law_builds.proofs.Compiled.{Comes, comes}
use Rattle.law_lists.proofs.Lists.{all_both}

abbrev is_some : {A : Type 0} → Option A → Bool
is_some None = false
is_some (Some x) = true

pub none_no : {A : Type 0} (t : A) → None ≡ Some t → ⊥
none_no t e = false≢true (ap is_some e)

abbrev wanted : Pair → Text → Wanted Text
wanted p k = record { object = p.object; aspect = p.aspect; kept = k }

one_kept : (has : QName → Aspect → Option Text) (p : Pair) (o : Option Text) → has p.object p.aspect ≡ o → AllByRecursion (λ u. has u.object u.aspect ≡ Some u.kept) (listed (option_map (wanted p) o))
one_kept has p None e = tt
one_kept has p (Some k) e = (e, tt)

all_kept : (has : QName → Aspect → Option Text) (ps : List Pair) → AllByRecursion (λ u. has u.object u.aspect ≡ Some u.kept) (flat_map (with_kept has) ps)
all_kept has [] = tt
all_kept has (p ∷ ps) = all_both (λ u. has u.object u.aspect ≡ Some u.kept) (with_kept has p) (flat_map (with_kept has) ps) (one_kept has p (has p.object p.aspect) refl) (all_kept has ps)

-- each use of a valid build has its text in the interfaces that it was compiled against
pub uses_kept : (b : Build) (c : Compiled Text) → IsValid b c → AreAsWanted c.against c.shows.uses
uses_kept b c v =
    let h : Comes texts c = comes texts _ (Some b.source) c v.is in
    subst (λ (x : Compiled Text). AreAsWanted x.against x.shows.uses) (sym h.is) (all_kept (text_in h.faces) _)

-- a text among interfaces is one of an interface of them
abbrev of_found : QName → Aspect → Option (Face Text) → Option Text
of_found q a o = (o >>= λ f. object_named f.objects q.object) >>= λ d. text_of q d a

text_among : (faces : List (Face Text)) (q : QName) (a : Aspect) (t : Text) → text_in faces q a ≡ Some t → (f : Face Text) × Contains faces f × IsTextOf f t
text_among [] q a t e = absurd (none_no t e)
text_among (f ∷ fs) q a t e = go (bytes_eq q.«module» f.«module») refl e (text_among fs q a t)
  where
    go : (b : Bool) → bytes_eq q.«module» f.«module» ≡ b → of_found q a (cond b (Some f) (face_named fs q.«module»)) ≡ Some t → (text_in fs q a ≡ Some t → (g : Face Text) × Contains fs g × IsTextOf g t) → (g : Face Text) × Contains (f ∷ fs) g × IsTextOf g t
    go true i h rest = (f, has_head f fs, (q, a, ap (λ b. of_found q a (cond b (Some f) None)) i ∙ h))
    go false i h rest = let r = rest h in (r.0, has_more f fs r.0 r.1, r.2)

-- a text that a use of a valid build keeps is a text of the build
pub kept_text : (b : Build) (c : Compiled Text) → IsValid b c → (u : Wanted Text) → text_in c.against u.object u.aspect ≡ Some u.kept → IsTextOfBuild b u.kept
kept_text b c v u e = inr (text_among b.against u.object u.aspect u.kept (subst (λ fs. text_in fs u.object u.aspect ≡ Some u.kept) v.whole e))

-- a text of the interface of a module of that name
pub shown_text : (f : Face Text) (q : QName) (a : Aspect) (t : Text) → q.«module» ≡ f.«module» → bytes_eq q.«module» f.«module» ≡ true → (object_named f.objects q.object >>= λ d. text_of q d a) ≡ Some t → IsTextOf f t
shown_text f q a t n e h = (q, a, ap (λ b. of_found q a (cond b (Some f) None)) e ∙ h)
