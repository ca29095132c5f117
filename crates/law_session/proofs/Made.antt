-- The builds behind an answer: those that were there before, and those that it made.
use Rattle.std.proofs.Common.{◌≡◌, ℕ, List, [], ◌∷◌, ◌++◌, Bool, true, false, cond, length, sym, ap, subst, Result, Ok, Err, ⊎_elim, inl, inr}
use Rattle.std.specs.Prelude.{bytes_eq, Contains, ◌⊎◌}
use Rattle.ob_link.specs.Plan.{Entry, Holds}
use Rattle.ob_compile_model.specs.Compiling as compile
use Rattle.ob_compile_model.specs.Compiling.{Compiled}
use Rattle.ob_make.specs.declared.turns.Turn.{Turn}
use Rattle.ob_make.specs.declared.turns.Turn.TheVariants as turn
use Rattle.ob_make.specs.Order.{MakeEnd}
use Rattle.ob_make.specs.Folder.{source_name as source_file}
use Rattle.ob_builds.specs.Builds.{Text, Build}
use Rattle.ob_shell_model.specs.Folds.{Answer, made_by}
use Rattle.ob_shell_model.specs.Library.{Library, IsLibrary, Change, ObjectBecomes, SymbolBecomes, with_entry, after_all}
use Rattle.ob_shell_model.specs.Making.{by_turn, turn_at, in_turn, behind, and_on, behind_turns, made_in, make_answer, HasTurn}
use Rattle.ob_shell_model.specs.Model.{World, becomes, new_build, or_empty, compile_answer, compiled_in, maker}
use Rattle.ob_shell_model.specs.Headline.{IsIn}
use Rattle.law_builds.proofs.Members.{has_left, has_right, has_head, has_none, has_either}
use Rattle.law_session.specs.New.{NewIsValid}
use Rattle.law_session.proofs.Parts.{made_append, at_end}
use Rattle.law_session.proofs.Libraries.{library_stays, turns_good}

-- ---- an entry that becomes a build

abbrev held_or : Build → Entry Build → Build
held_or d (Holds b) = b
held_or d e = d

in_after : (entries : List ℕ → Entry Build) (name : List ℕ) (b x : Build) (n : List ℕ) → with_entry entries name b n ≡ Holds x → (entries n ≡ Holds x) ⊎ (x ≡ b)
in_after entries name b x n e = go (bytes_eq n name) e
  where
    go : (t : Bool) → cond t (Holds b) (entries n) ≡ Holds x → (entries n ≡ Holds x) ⊎ (x ≡ b)
    go true e = inr (sym (ap (held_or b) e))
    go false e = inl e

in_becomes : (l : Library) (text : List ℕ) (d : Compiled Text) (x : Build) → IsIn (after_all l (becomes text d)) x → IsIn l x ⊎ (x ≡ new_build text d)
in_becomes l text d x i =
    let name = d.shows.«module» in
    let b = new_build text d in
    ⊎_elim
    (λ (o : with_entry l.objects name b i.0 ≡ Holds x). ⊎_elim (λ (k : l.objects i.0 ≡ Holds x). inl (i.0, inl k)) (λ (e : x ≡ b). inr e) (in_after l.objects name b x i.0 o))
    (λ (o : with_entry l.symbols name b i.0 ≡ Holds x). ⊎_elim (λ (k : l.symbols i.0 ≡ Holds x). inl (i.0, inr k)) (λ (e : x ≡ b). inr e) (in_after l.symbols name b x i.0 o))
    i.1

-- BEHIND AN ANSWER

-- the library of a world has the build, or it is loaded
abbrev pub IsThere : World → Build → Type 0
IsThere v b = IsIn v.library b ⊎ Contains v.loaded b

-- an object file becomes the build
abbrev pub IsMadeIn : Answer World Change → Build → Type 0
IsMadeIn a b = (name : List ℕ) × Contains (made_by a.parts) (ObjectBecomes name b)

-- each build behind the answer was there in the world before it, or it made it
abbrev pub AreFrom : World → Answer World Change → Type 0
AreFrom v a = (b : Build) → IsThere a.world b → IsThere v b ⊎ IsMadeIn a b

pub by_compile : (v : World) (name text : List ℕ) (r : Result (Compiled Text) (compile.Refusal Text)) → AreFrom v (compile_answer v name text r)
by_compile v name text (Err r) b i = inl i
by_compile v name text (Ok c) b (inr i) = inl (inr i)
by_compile v name text (Ok c) b (inl i) = ⊎_elim
    (λ (j : IsIn v.library b). inl (inl j))
    (λ (e : b ≡ new_build text c). inr (c.shows.«module», subst (λ x. Contains (becomes text c) (ObjectBecomes c.shows.«module» x)) (sym e) (has_head (ObjectBecomes c.shows.«module» (new_build text c)) (SymbolBecomes c.shows.«module» (new_build text c) ∷ []))))
    (in_becomes v.library text c b i)

-- ---- answers behind one another

-- an answer, and more behind it unless it was refused
abbrev After : Bool → Answer World Change → (World → Answer World Change) → Answer World Change
After t a more = cond t a (behind a.parts (more a.world))

of_left : (a : Answer World Change) (more : World → Answer World Change) (b : Build) → IsMadeIn a b → IsMadeIn (behind a.parts (more a.world)) b
of_left a more b k = (k.0, subst (λ cs. Contains cs (ObjectBecomes k.0 b)) (sym (made_append a.parts (more a.world).parts)) (has_left (made_by a.parts) (made_by (more a.world).parts) (ObjectBecomes k.0 b) k.1))

of_right : (a : Answer World Change) (more : World → Answer World Change) (b : Build) → IsMadeIn (more a.world) b → IsMadeIn (behind a.parts (more a.world)) b
of_right a more b k = (k.0, subst (λ cs. Contains cs (ObjectBecomes k.0 b)) (sym (made_append a.parts (more a.world).parts)) (has_right (made_by a.parts) (made_by (more a.world).parts) (ObjectBecomes k.0 b) k.1))

of_either : (a : Answer World Change) (more : World → Answer World Change) (b : Build) → IsMadeIn (behind a.parts (more a.world)) b → IsMadeIn a b ⊎ IsMadeIn (more a.world) b
of_either a more b k = ⊎_elim
    (λ (c : Contains (made_by a.parts) (ObjectBecomes k.0 b)). inl (k.0, c))
    (λ (c : Contains (made_by (more a.world).parts) (ObjectBecomes k.0 b)). inr (k.0, c))
    (has_either (made_by a.parts) (made_by (more a.world).parts) (ObjectBecomes k.0 b) (subst (λ cs. Contains cs (ObjectBecomes k.0 b)) (made_append a.parts (more a.world).parts) k.1))

of_first : (a : Answer World Change) (more : World → Answer World Change) (b : Build) → IsMadeIn a b → IsMadeIn (and_on a more) b
of_first a more b k = go a.refused
  where
    go : (t : Bool) → IsMadeIn (After t a more) b
    go true = k
    go false = of_left a more b k

from_on : (v : World) (a : Answer World Change) (more : World → Answer World Change) → AreFrom v a → AreFrom a.world (more a.world) → AreFrom v (and_on a more)
from_on v a more f g = go a.refused
  where
    go : (t : Bool) → AreFrom v (After t a more)
    go true = f
    go false = λ b i. ⊎_elim
        (λ (j : IsThere a.world b). ⊎_elim (λ (k : IsThere v b). inl k) (λ (k : IsMadeIn a b). inr (of_left a more b k)) (f b j))
        (λ (k : IsMadeIn (more a.world) b). inr (of_right a more b k))
        (g b i)

-- what more makes is made where the first is the same
more_on : (a : Answer World Change) (one two : World → Answer World Change) (b : Build) → (IsMadeIn (one a.world) b → IsMadeIn (two a.world) b) → IsMadeIn (and_on a one) b → IsMadeIn (and_on a two) b
more_on a one two b h k = go a.refused k
  where
    go : (t : Bool) → IsMadeIn (After t a one) b → IsMadeIn (After t a two) b
    go true k = k
    go false k = ⊎_elim (λ (j : IsMadeIn a b). of_left a two b j) (λ (j : IsMadeIn (one a.world) b). of_right a two b (h j)) (of_either a one b k)

-- ---- a make

turn_from : (m : List ℕ) (v : World) (x : List ℕ) → AreFrom v (in_turn maker m v x)
turn_from m v x = go (turn_at maker m v x)
  where
    go : (t : Turn) → AreFrom v (by_turn maker t v x)
    go turn.Stays = λ b i. inl i
    go turn.Compiles = by_compile v (source_file x) (or_empty (v.files (source_file x))) (compiled_in v (v.files (source_file x)))
    go turn.LacksSource = λ b i. inl i

turns_from : (m : List ℕ) (xs : List (List ℕ)) (v : World) → AreFrom v (behind_turns maker m xs v)
unfolding behind_turns
turns_from m [] v = λ b i. inl i
turns_from m (x ∷ xs) v = from_on v (in_turn maker m v x) (behind_turns maker m xs) (turn_from m v x) (turns_from m xs (in_turn maker m v x).world)

pub make_from : (m : List ℕ) (r : Result (List (List ℕ)) MakeEnd) (v : World) → AreFrom v (made_in maker m r v)
make_from m (Ok xs) v = let a = behind_turns maker m xs v in from_on v a (at_end m (length a.parts)) (turns_from m xs v) (λ b i. inl i)
make_from m (Err e) v = λ b i. inl i

-- the first turns make nothing that all of them do not make
turns_front : (m : List ℕ) (xs ys : List (List ℕ)) (v : World) (b : Build) → IsMadeIn (behind_turns maker m xs v) b → IsMadeIn (behind_turns maker m (xs ++ ys) v) b
unfolding behind_turns
turns_front m [] ys v b k = absurd (has_none (ObjectBecomes k.0 b) k.1)
turns_front m (x ∷ xs) ys v b k = more_on (in_turn maker m v x) (behind_turns maker m xs) (behind_turns maker m (xs ++ ys)) b (λ j. turns_front m xs ys (in_turn maker m v x).world b j) k

-- a build in the world of a turn was there before the line, or the line makes it
pub at_turn : (m : List ℕ) (v : World) (x : List ℕ) (u : World) → HasTurn maker m v x u → (b : Build) → IsThere u b → IsThere v b ⊎ IsMadeIn (make_answer maker m v) b
at_turn m v x u t b i = ⊎_elim
    (λ (j : IsThere v b). inl j)
    (λ (k : IsMadeIn (behind_turns maker m t.front v) b).
    let all : List (List ℕ) = t.front ++ x ∷ t.back in
    let turns : IsMadeIn (behind_turns maker m all v) b = turns_front m t.front (x ∷ t.back) v b k in
    inr (subst (λ (r : Result (List (List ℕ)) MakeEnd). IsMadeIn (made_in maker m r v) b) (sym t.order) (of_first (behind_turns maker m all v) (at_end m (length (behind_turns maker m all v).parts)) b turns)))
    (turns_from m t.front v b (subst (λ z. IsThere z b) (sym t.world) i))

-- the world of a turn has a library
pub library_at : NewIsValid → (m : List ℕ) (v : World) (x : List ℕ) (u : World) → IsLibrary v.library → HasTurn maker m v x u → IsLibrary u.library
library_at valid m v x u h t =
    let a = behind_turns maker m t.front v in
    let g = turns_good valid m t.front v h in
    subst (λ (z : World). IsLibrary z.library) t.world (subst IsLibrary (sym g.1) (library_stays (made_by a.parts) v.library h g.0))
