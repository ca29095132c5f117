-- A walk that left some interfaces leaves them again where there are no others.
use Rattle.std.proofs.Common.{◌≡◌, ℕ, ◌+◌, List, [], ◌∷◌, ◌++◌, length, Bool, true, false, cond, refl, sym, ap, ◌∙◌, subst, Option, Some, None}
use Rattle.std.specs.Prelude.{zero, suc, bytes_eq, nat_le, ◌||◌, codes}
use Rattle.std.specs.List.{AllByRecursion, list_any}
use Rattle.std.proofs.lemmas.Bool.{false≢true}
use Rattle.std.proofs.lemmas.Slice.Eq.{bytes_eq-Decides}
use Rattle.ob_env.specs.Faces.{Face, face_named}
use Rattle.ob_env_walk.specs.Walk.{Entry, Missing, Junk, Holds, Walked, Left, NoInterface, Damaged, Cycle, TooMany, go_on, is_among, is_passed_over, through, entered, at_entry, at_module, importer_of, entering, visit, walk}
use Rattle.ob_builds.specs.Builds.{Text, entry_of}
use Rattle.law_lists.proofs.Lists.{bytes_same, second_false}

abbrev left_or : List (Face Text) → Walked Text → List (Face Text)
left_or d (Left faces) = faces
left_or d w = d

abbrev has_left : Walked Text → Bool
has_left (Left faces) = true
has_left w = false

left_is : (a b : List (Face Text)) → Left a ≡ Left b → a ≡ b
left_is a b e = ap (left_or a) e

-- THE FIRST INTERFACE OF A NAME

-- what has a name in the first list has it in the second
abbrev pub Extends : List (Face Text) → List (Face Text) → Type 0
Extends xs ys = (n : List ℕ) (f : Face Text) → face_named xs n ≡ Some f → face_named ys n ≡ Some f

none_else : (f : Face Text) → None ≡ Some f → ⊥
none_else f e = false≢true (ap is_some e)
  where
    is_some : Option (Face Text) → Bool
    is_some None = false
    is_some (Some x) = true

pub extends_more : (xs ys : List (Face Text)) → Extends xs (xs ++ ys)
extends_more [] ys n f e = absurd (none_else f e)
extends_more (x ∷ xs) ys n f e = go (bytes_eq n x.«module») e (extends_more xs ys n f)
  where
    go : (b : Bool) → cond b (Some x) (face_named xs n) ≡ Some f → (face_named xs n ≡ Some f → face_named (xs ++ ys) n ≡ Some f) → cond b (Some x) (face_named (xs ++ ys) n) ≡ Some f
    go true h rest = h
    go false h rest = rest h

-- an interface behind others, none of which has its name
last_named : (xs : List (Face Text)) (f : Face Text) (n : List ℕ) → f.«module» ≡ n → list_any (λ g. bytes_eq n g.«module») xs ≡ false → face_named (xs ++ f ∷ []) n ≡ Some f
last_named [] f n e h = ap (λ b. cond b (Some f) None) (bytes_same n f.«module» (sym e))
last_named (x ∷ xs) f n e h = go (bytes_eq n x.«module») h (last_named xs f n e)
  where
    go : (b : Bool) → b || list_any (λ g. bytes_eq n g.«module») xs ≡ false → (list_any (λ g. bytes_eq n g.«module») xs ≡ false → face_named (xs ++ f ∷ []) n ≡ Some f) → cond b (Some x) (face_named (xs ++ f ∷ []) n) ≡ Some f
    go true k rest = absurd (false≢true (sym k))
    go false k rest = rest k

-- WHAT A WALK KEEPS

-- no interface has a name of the path
abbrev Fresh : List (List ℕ) → List (Face Text) → Type 0
Fresh path left = AllByRecursion (λ n. list_any (λ g. bytes_eq n g.«module») left ≡ false) path

abbrev pub IsHeld : (List ℕ → Entry Text) → Face Text → Type 0
IsHeld find f = (n : List ℕ) × (find n ≡ Holds f)

abbrev pub AreHeld : (List ℕ → Entry Text) → List (Face Text) → Type 0
AreHeld find faces = AllByRecursion (IsHeld find) faces

-- what a name has is an interface of that name
abbrev pub AreNamed : (List ℕ → Entry Text) → Type 0
AreNamed find = (n : List ℕ) (f : Face Text) → find n ≡ Holds f → f.«module» ≡ n

-- where there are just these interfaces
abbrev pub only : List (Face Text) → List ℕ → Entry Text
only faces n = entry_of (face_named faces n)

record Again (find : List ℕ → Entry Text) (path : List (List ℕ)) (left more : List (Face Text)) (redo : (List ℕ → Entry Text) → Walked Text) : Type 0 where
  extends : Extends left more
  fresh : Fresh path more
  held : AreHeld find more
  again : (final : List (Face Text)) → Extends more final → redo (only final) ≡ Left more

held_last : (find : List ℕ → Entry Text) (xs : List (Face Text)) (f : Face Text) → AreHeld find xs → IsHeld find f → AreHeld find (xs ++ f ∷ [])
held_last find [] f h i = (i, tt)
held_last find (x ∷ xs) f h i = (h.0, held_last find xs f h.1 i)

not_any : (xs : List (Face Text)) (f : Face Text) (n : List ℕ) → list_any (λ g. bytes_eq n g.«module») xs ≡ false → bytes_eq n f.«module» ≡ false → list_any (λ g. bytes_eq n g.«module») (xs ++ f ∷ []) ≡ false
not_any [] f n h e = ap (λ b. b || false) e
not_any (x ∷ xs) f n h e = go (bytes_eq n x.«module») h (λ k. not_any xs f n k e)
  where
    go : (b : Bool) → b || list_any (λ g. bytes_eq n g.«module») xs ≡ false → (list_any (λ g. bytes_eq n g.«module») xs ≡ false → list_any (λ g. bytes_eq n g.«module») (xs ++ f ∷ []) ≡ false) → b || list_any (λ g. bytes_eq n g.«module») (xs ++ f ∷ []) ≡ false
    go true k rest = k
    go false k rest = rest k

-- a module that does not stand on the path is not of its names
other : (a b : List ℕ) → bytes_eq a b ≡ false → bytes_eq b a ≡ false
other a b e = go (bytes_eq b a) refl
  where
    go : (t : Bool) → bytes_eq b a ≡ t → bytes_eq b a ≡ false
    go true h = absurd (false≢true (sym e ∙ bytes_same a b (sym ((bytes_eq-Decides b a).0 h))))
    go false h = h

fresh_last : (path : List (List ℕ)) (xs : List (Face Text)) (f : Face Text) (m : List ℕ) → f.«module» ≡ m → is_among m path ≡ false → Fresh path xs → Fresh path (xs ++ f ∷ [])
fresh_last [] xs f m e a h = tt
fresh_last (n ∷ path) xs f m e a h = go (bytes_eq m n) refl a (λ k. fresh_last path xs f m e k h.1)
  where
    go : (b : Bool) → bytes_eq m n ≡ b → b || is_among m path ≡ false → (is_among m path ≡ false → Fresh path (xs ++ f ∷ [])) → Fresh (n ∷ path) (xs ++ f ∷ [])
    go true i k rest = absurd (false≢true (sym k))
    go false i k rest = (not_any xs f n h.0 (ap (bytes_eq n) e ∙ other m n i), rest k)

stays : (find : List ℕ → Entry Text) (path : List (List ℕ)) (left more : List (Face Text)) (redo : (List ℕ → Entry Text) → Walked Text) → Fresh path left → AreHeld find left → Left left ≡ Left more → ((g : List ℕ → Entry Text) → redo g ≡ Left left) → Again find path left more redo
stays find path left more redo fresh held e same = subst (λ x. Again find path left x redo) (left_is left more e) (record {
  extends = λ n f h. h;
  fresh = fresh;
  held = held;
  again = λ final x. same (only final);
})

no_left : (w : Walked Text) (more : List (Face Text)) → has_left w ≡ false → w ≡ Left more → ⊥
no_left w more h e = false≢true (sym h ∙ ap has_left e)

abbrev Visited : (List ℕ → Entry Text) → ℕ → List (List ℕ) → Type 0
Visited find k path = (m : List ℕ) (left more : List (Face Text)) → Fresh path left → AreHeld find left → visit find k path m left ≡ Left more → Again find path left more (λ g. visit g k path m left)

-- ---- the imports of a module

through_again : (find : List ℕ → Entry Text) (k : ℕ) (path : List (List ℕ)) → Visited find k path → (ms : List (List ℕ)) (left more : List (Face Text)) → Fresh path left → AreHeld find left → through (visit find k path) ms left ≡ Left more → Again find path left more (λ g. through (visit g k path) ms left)
through_again find k path at [] left more fresh held e = stays find path left more (λ g. Left left) fresh held e (λ g. refl)
through_again find k path at (m ∷ ms) left more fresh held e = go (visit find k path m left) refl e (λ mid x y z. through_again find k path at ms mid more x y z)
  where
    go : (w : Walked Text) → visit find k path m left ≡ w → go_on w (λ next. through (visit find k path) ms next) ≡ Left more →
        ((mid : List (Face Text)) → Fresh path mid → AreHeld find mid → through (visit find k path) ms mid ≡ Left more → Again find path mid more (λ g. through (visit g k path) ms mid)) →
        Again find path left more (λ g. go_on (visit g k path m left) (λ next. through (visit g k path) ms next))
    go (Left mid) i h rest =
        let a = at m left mid fresh held i in
        let b = rest mid a.fresh a.held h in
        record {
          extends = λ n f x. b.extends n f (a.extends n f x);
          fresh = b.fresh;
          held = b.held;
          again = λ final x. ap (λ w. go_on w (λ next. through (visit (only final) k path) ms next)) (a.again final (λ n f y. x n f (b.extends n f y))) ∙ b.again final x;
        }
    go (NoInterface n) i h rest = absurd (no_left (NoInterface n) more refl h)
    go (Damaged n) i h rest = absurd (no_left (Damaged n) more refl h)
    go (Cycle n) i h rest = absurd (no_left (Cycle n) more refl h)
    go TooMany i h rest = absurd (no_left TooMany more refl h)

-- ---- a module

abbrev room_for : List (List ℕ) → List (Face Text) → Bool
room_for path left = nat_le (length left + length path) 255

abbrev into : (List ℕ → Entry Text) → ℕ → List (List ℕ) → List ℕ → List (Face Text) → List (List ℕ) → Walked Text
into g k path m left imports = through (visit g k (m ∷ path)) imports left

abbrev redone : ℕ → List (List ℕ) → List ℕ → List (Face Text) → (List ℕ → Entry Text) → Walked Text
redone k path m left g = at_module (is_passed_over m left) (is_among m path) path left (λ _. entering g (through (visit g k (m ∷ path))) path m left)

left_again : (find : List ℕ → Entry Text) → AreNamed find → (k : ℕ) (path : List (List ℕ)) (m : List ℕ) (left mid more : List (Face Text)) (face : Face Text) → is_passed_over m left ≡ false → is_among m path ≡ false → Fresh path left → find m ≡ Holds face → room_for path left ≡ true → Again find (m ∷ path) left mid (λ g. into g k path m left face.imports) → Left (mid ++ face ∷ []) ≡ Left more → Again find path left more (redone k path m left)
left_again find named k path m left mid more face passed among fresh holds room a e =
    let is : face.«module» ≡ m = named m face holds in
    subst (λ x. Again find path left x (redone k path m left)) (left_is (mid ++ face ∷ []) more e) (record {
      extends = λ n f x. extends_more mid (face ∷ []) n f (a.extends n f x);
      fresh = fresh_last path mid face m is among a.fresh.1;
      held = held_last find mid face a.held (m, holds);
      again = λ final x.
          let here : only final m ≡ Holds face = ap entry_of (x m face (last_named mid face m is a.fresh.0)) in
          ap (λ p. at_module p (is_among m path) path left (λ _. entering (only final) (through (visit (only final) k (m ∷ path))) path m left)) passed
          ∙ ap (λ p. at_module false p path left (λ _. entering (only final) (through (visit (only final) k (m ∷ path))) path m left)) among
          ∙ ap (λ y. at_entry y (room_for path left) (into (only final) k path m left) m) here
          ∙ ap (λ r. entered r (into (only final) k path m left) face) room
          ∙ ap (λ w. go_on w (λ next. Left (next ++ face ∷ []))) (a.again final (λ n f y. x n f (extends_more mid (face ∷ []) n f y)));
    })

through_entry : (find : List ℕ → Entry Text) → AreNamed find → (k : ℕ) (path : List (List ℕ)) → ((m : List ℕ) → Visited find k (m ∷ path)) → (m : List ℕ) (left more : List (Face Text)) → Fresh path left → AreHeld find left → is_passed_over m left ≡ false → is_among m path ≡ false →
    (x : Entry Text) → find m ≡ x → at_entry x (room_for path left) (into find k path m left) m ≡ Left more → Again find path left more (redone k path m left)
through_entry find named k path below m left more fresh held passed among Missing holds e = absurd (no_left (NoInterface m) more refl e)
through_entry find named k path below m left more fresh held passed among Junk holds e = absurd (no_left (Damaged m) more refl e)
through_entry find named k path below m left more fresh held passed among (Holds face) holds e = by_room (room_for path left) refl e
  where
    unseen : Fresh (m ∷ path) left
    unseen = (second_false (bytes_eq m (codes "Out") || bytes_eq m (codes "SYSTEM")) (list_any (λ g. bytes_eq m g.«module») left) passed, fresh)

    by_walk : room_for path left ≡ true → (w : Walked Text) → into find k path m left face.imports ≡ w → go_on w (λ next. Left (next ++ face ∷ [])) ≡ Left more → Again find path left more (redone k path m left)
    by_walk room (Left mid) i h = left_again find named k path m left mid more face passed among fresh holds room (through_again find k (m ∷ path) (below m) face.imports left mid unseen held i) h
    by_walk room (NoInterface n) i h = absurd (no_left (NoInterface n) more refl h)
    by_walk room (Damaged n) i h = absurd (no_left (Damaged n) more refl h)
    by_walk room (Cycle n) i h = absurd (no_left (Cycle n) more refl h)
    by_walk room TooMany i h = absurd (no_left TooMany more refl h)

    by_room : (r : Bool) → room_for path left ≡ r → entered r (into find k path m left) face ≡ Left more → Again find path left more (redone k path m left)
    by_room true room h = by_walk room (into find k path m left face.imports) refl h
    by_room false room h = absurd (no_left TooMany more refl h)

by_passed : (find : List ℕ → Entry Text) → AreNamed find → (k : ℕ) (path : List (List ℕ)) → ((m : List ℕ) → Visited find k (m ∷ path)) → (m : List ℕ) (left more : List (Face Text)) → Fresh path left → AreHeld find left →
    (p a : Bool) → is_passed_over m left ≡ p → is_among m path ≡ a → at_module p a path left (λ _. entering find (through (visit find k (m ∷ path))) path m left) ≡ Left more → Again find path left more (redone k path m left)
by_passed find named k path below m left more fresh held true a i j h = stays find path left more (redone k path m left) fresh held h (λ g. ap (λ p. at_module p (is_among m path) path left (λ _. entering g (through (visit g k (m ∷ path))) path m left)) i)
by_passed find named k path below m left more fresh held false true i j h = absurd (no_left (Cycle (importer_of path)) more refl h)
by_passed find named k path below m left more fresh held false false i j h = through_entry find named k path below m left more fresh held i j (find m) refl h

visited : (find : List ℕ → Entry Text) → AreNamed find → (k : ℕ) (path : List (List ℕ)) → Visited find k path
unfolding visit
visited find named zero path m left more fresh held e = absurd (no_left TooMany more refl e)
visited find named (suc k) path m left more fresh held e = by_passed find named k path (λ n. visited find named k (n ∷ path)) m left more fresh held (is_passed_over m left) (is_among m path) refl refl e

-- THE WALK

pub walk_again : (find : List ℕ → Entry Text) → AreNamed find → (root : List ℕ) (imports : List (List ℕ)) (faces : List (Face Text)) → walk find root imports ≡ Left faces → (walk (only faces) root imports ≡ Left faces) × AreHeld find faces
walk_again find named root imports faces e =
    let a = through_again find 257 (root ∷ []) (visited find named 257 (root ∷ [])) imports [] faces (refl, tt) tt e in
    (a.again faces (λ n f x. x), a.held)
