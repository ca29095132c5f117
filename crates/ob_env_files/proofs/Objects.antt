-- Objects that ascend by name, under their names.
use Rattle.std.proofs.Common.{◌≡◌, ℕ, zero, suc, ◌+◌, ◌<◌, ◌≤◌, Bool, true, false, not, cond, List, [], ◌∷◌, ◌++◌, length, get_or, position, Option, Some, None, refl, sym, ap, subst, ◌∙◌, arith, ⊎_elim}
use Rattle.std.specs.Prelude.{nat_eq, nat_lt, bytes_eq}
use Rattle.std.specs.List.{AllByRecursion, HoldsAt, position_or_len}
use Rattle.std.specs.List.Sorted.{IsStrictlySortedBy, IsNonDecreasingBy, IsPartitionPoint}
use Rattle.std.specs.Map.{keys_of, values_of, lookup}
use Rattle.std.specs.Cmp.Lexicographic.{slice_cmp, pointwise, bytes_decides, texts_ties}
use Rattle.std.specs.Ordering.{nat_cmp, is_eq, ordering_index, ordering_reverse}
use Rattle.std.specs.declared.cmp.Ordering.{Ordering}
use Rattle.std.specs.declared.cmp.Ordering.TheVariants.{Less, Equal, Greater}
use Rattle.std.proofs.lemmas.Bool.{cases_lt}
use Rattle.std.proofs.lemmas.Bool.Decides.{nat_tests}
use Rattle.std.proofs.lemmas.Cmp.{nat_list_cmp_total}
use Rattle.std.proofs.lemmas.List.Sorted.{IsNonDecreasingBy-from_default}
use Rattle.std.proofs.lemmas.Map.Keys.{Less-from_sorted}
use Rattle.indexmap.specs.IndexMap.{insert_entry, values}
use Rattle.ob_types.specs.declared.face.Object.{Object}
use Rattle.ob_types.specs.declared.face.Interface.{Interface}
use Rattle.ob_format.specs.Format.{list_of, IsBytes, whole}
use Rattle.ob_sym.specs.Grammar.{face, body, by_name}
use Rattle.ob_layout.specs.Index.{position_from, first_by}
use Rattle.ob_env_files.proofs.Readings.{reading_found}
use Rattle.ob_env_files.specs.Names.{names_of, under_names, ObjectIndex, spelled_face}

fitting : (f : Interface) → face.fits f → IsStrictlySortedBy by_name f.objects
unfolding face body list_of
fitting f h = h.0.1.0.1

-- the objects of an interface that bytes spell ascend by name
pub rising : (bytes : List ℕ) (f : Interface) → IsBytes bytes → whole face bytes ≡ Some f → IsStrictlySortedBy by_name f.objects
rising bytes f are e = fitting f (reading_found bytes f are e).0

-- ---- names

same : (x y : List ℕ) → slice_cmp nat_cmp x y ≡ Equal → x ≡ y
same x y e = (bytes_decides x y).0 (texts_ties x y ∙ ap is_eq e)

apart : (x y : List ℕ) → slice_cmp nat_cmp x y ≡ Less → bytes_eq y x ≡ false
apart x y l = texts_ties y x ∙ ap is_eq (nat_list_cmp_total.antisymm y x ∙ ap ordering_reverse l)

other : (x y : List ℕ) → slice_cmp nat_cmp y x ≡ Greater → bytes_eq x y ≡ false
other x y g = texts_ties x y ∙ ap is_eq (nat_list_cmp_total.antisymm x y ∙ ap ordering_reverse g)

itself : (x : List ℕ) → bytes_eq x x ≡ true
itself x = (bytes_decides x x).1 refl

-- ---- what a map of them holds

values_are : (os : List Object) → values_of (under_names os) ≡ os
values_are [] = refl
values_are (o ∷ os) = ap (λ l. o ∷ l) (values_are os)

keys_are : (os : List Object) → keys_of (under_names os) ≡ names_of os
keys_are [] = refl
keys_are (o ∷ os) = ap (λ l. o.name ∷ l) (keys_are os)

pub held : (m : ObjectIndex) (os : List Object) → m.entries ≡ under_names os → values m ≡ os
held m os e = ap values_of e ∙ values_are os

pub named_again : (m : ObjectIndex) (os : List Object) → m.entries ≡ under_names os → m.entries ≡ under_names (values m)
named_again m os e = e ∙ ap under_names (sym (held m os e))

pub parts_are : (f : Interface) (m : ObjectIndex) → m.entries ≡ under_names f.objects → spelled_face f.«module» f.imports m f.uses ≡ f
parts_are f m e = ap (λ (os : List Object). record f { objects = os }) (held m f.objects e)

pub held_rise : (bytes : List ℕ) (f : Interface) (m : ObjectIndex) → IsBytes bytes → whole face bytes ≡ Some f → m.entries ≡ under_names f.objects → IsStrictlySortedBy by_name (values m)
held_rise bytes f m are is e = subst (IsStrictlySortedBy by_name) (sym (held m f.objects e)) (rising bytes f are is)

-- one more object, which comes behind all others
in_turn : (o p : Object) (seen rest : List Object) → AllByRecursion (λ y. by_name p y ≡ Less) (seen ++ o ∷ rest) → slice_cmp nat_cmp p.name o.name ≡ Less
in_turn o p [] rest all = all.0
in_turn o p (q ∷ seen) rest all = in_turn o p seen rest all.1

enters : (o : Object) (seen rest : List Object) → IsStrictlySortedBy by_name (seen ++ o ∷ rest) → insert_entry (pointwise nat_eq) (under_names seen) o.name o ≡ under_names (seen ++ o ∷ [])
unfolding IsStrictlySortedBy
enters o [] rest sorted = refl
enters o (p ∷ seen) rest sorted =
    ap (λ b. cond b ((p.name, o) ∷ under_names seen) ((p.name, p) ∷ insert_entry (pointwise nat_eq) (under_names seen) o.name o)) (apart p.name o.name (in_turn o p seen rest sorted.0))
    ∙ ap (λ l. (p.name, p) ∷ l) (enters o seen rest sorted.1)

pub entered : (os seen rest : List Object) (o : Object) (name : List ℕ) (entries : List (List ℕ × Object)) → IsStrictlySortedBy by_name os → seen ++ o ∷ rest ≡ os → entries ≡ under_names seen → name ≡ o.name → insert_entry (pointwise nat_eq) entries name o ≡ under_names (seen ++ o ∷ [])
entered os seen rest o name entries sorted all so_far is =
    ap (λ l. insert_entry (pointwise nat_eq) l name o) so_far
    ∙ ap (λ x. insert_entry (pointwise nat_eq) (under_names seen) x o) is
    ∙ enters o seen rest (subst (IsStrictlySortedBy by_name) (sym all) sorted)

-- ---- what is found in it

found_in : (os : List Object) (x : List ℕ) → lookup (pointwise nat_eq x) (under_names os) ≡ first_by (λ (o : Object). o.name) os x
found_in [] x = refl
found_in (o ∷ os) x = ap (λ r. cond (bytes_eq x o.name) (Some o) r) (found_in os x)

pub object_is : (m : ObjectIndex) (os : List Object) (x : List ℕ) → m.entries ≡ under_names os → lookup (pointwise nat_eq x) m.entries ≡ first_by (λ (o : Object). o.name) os x
object_is m os x e = ap (lookup (pointwise nat_eq x)) e ∙ found_in os x

abbrev at_most : ℕ → ℕ → ℕ → Option ℕ
at_most n p l = cond (nat_lt p l) (Some (n + p)) None

lt_suc : (p l : ℕ) → nat_lt (1 + p) (suc l) ≡ nat_lt p l
lt_suc p l = go (nat_lt p l) refl
  where
    go : (b : Bool) → nat_lt p l ≡ b → nat_lt (1 + p) (suc l) ≡ b
    go true e = grind (arith, nat_tests)
    go false e = grind (arith, nat_tests)

zero_lt : (l : ℕ) → nat_lt 0 (suc l) ≡ true
zero_lt l = grind (arith, nat_tests)

counted : (n : ℕ) (x : List ℕ) (ys : List (List ℕ)) → at_most n (position_or_len (bytes_eq x) ys) (length ys) ≡ position_from n x ys
counted n x [] = refl
counted n x (y ∷ ys) = go (bytes_eq x y) (counted (suc n) x ys)
  where
    go : (b : Bool) → at_most (suc n) (position_or_len (bytes_eq x) ys) (length ys) ≡ position_from (suc n) x ys → at_most n (cond (not b) (1 + position_or_len (bytes_eq x) ys) 0) (suc (length ys)) ≡ cond b (Some n) (position_from (suc n) x ys)
    go true h =
        let none : n + 0 ≡ n = omega arith in
        ap (λ (c : Bool). cond c (Some (n + 0)) None) (zero_lt (length ys)) ∙ ap (λ (k : ℕ). Some k) none
    go false h =
        let p = position_or_len (bytes_eq x) ys in
        let next : n + (1 + p) ≡ suc n + p = omega arith in
        ap (λ (c : Bool). cond c (Some (n + (1 + p))) None) (lt_suc p (length ys))
        ∙ ap (λ (k : ℕ). cond (nat_lt p (length ys)) (Some k) None) next
        ∙ h

plain : (x : List ℕ) (ys : List (List ℕ)) → position (pointwise nat_eq x) ys ≡ at_most 0 (position_or_len (bytes_eq x) ys) (length ys)
plain x ys =
    let z : position_or_len (bytes_eq x) ys ≡ 0 + position_or_len (bytes_eq x) ys = omega arith in
    ap (λ (k : ℕ). cond (nat_lt (position_or_len (bytes_eq x) ys) (length ys)) (Some k) None) z

pub position_is : (m : ObjectIndex) (os : List Object) (x : List ℕ) → m.entries ≡ under_names os → position (pointwise nat_eq x) (keys_of m.entries) ≡ position_from 0 x (names_of os)
position_is m os x e = ap (λ l. position (pointwise nat_eq x) l) (ap keys_of e ∙ keys_are os) ∙ plain x (names_of os) ∙ counted 0 x (names_of os)

-- ---- a search by halves

behind : (o : Object) (os : List Object) → IsStrictlySortedBy by_name (o ∷ os) → IsStrictlySortedBy by_name os
unfolding IsStrictlySortedBy
behind o os s = s.1

one_at : (os : List Object) (n i : ℕ) (d : Object) (x : List ℕ) → IsStrictlySortedBy by_name os → i < length os → (get_or os i d).name ≡ x → position_from n x (names_of os) ≡ Some (n + i)
one_at [] n i d x s lt e = absurd (omega (arith, lt))
one_at (o ∷ os) n zero d x s lt e =
    ap (λ b. cond b (Some n) (position_from (suc n) x (names_of os))) (subst (λ (y : List ℕ). bytes_eq x y ≡ true) (sym e) (itself x)) ∙ ap Some (omega arith)
one_at (o ∷ os) n (suc i) d x s lt e =
    ap (λ b. cond b (Some n) (position_from (suc n) x (names_of os))) (apart o.name x (subst (λ (y : List ℕ). slice_cmp nat_cmp o.name y ≡ Less) e (Less-from_sorted by_name (o ∷ os) zero (suc i) d s (omega arith) lt)))
    ∙ one_at os (suc n) i d x (behind o os s) (omega (arith, lt)) e
    ∙ ap Some (omega arith)

none_at : (os : List Object) (n : ℕ) (x : List ℕ) → ((j : ℕ) (d : Object) → j < length os → bytes_eq x (get_or os j d).name ≡ false) → position_from n x (names_of os) ≡ None
none_at [] n x all = refl
none_at (o ∷ os) n x all =
    ap (λ b. cond b (Some n) (position_from (suc n) x (names_of os))) (all zero o (omega arith))
    ∙ none_at os (suc n) x (λ j d lt. all (suc j) d (omega (arith, lt)))

rising_index : (a b x : List ℕ) → slice_cmp nat_cmp a b ≡ Less → ordering_index (slice_cmp nat_cmp a x) ≤ ordering_index (slice_cmp nat_cmp b x)
rising_index a b x less = go (slice_cmp nat_cmp a x) (slice_cmp nat_cmp b x) refl refl
  where
    go : (r s : Ordering) → slice_cmp nat_cmp a x ≡ r → slice_cmp nat_cmp b x ≡ s → ordering_index r ≤ ordering_index s
    go Less s e f = omega arith
    go Equal Less e f = let no : slice_cmp nat_cmp a x ≡ Less = nat_list_cmp_total.trans a b x less f in absurd cc
    go Equal Equal e f = omega arith
    go Equal Greater e f = omega arith
    go Greater Less e f = let no : slice_cmp nat_cmp a x ≡ Less = nat_list_cmp_total.trans a b x less f in absurd cc
    go Greater Equal e f = let no : slice_cmp nat_cmp a x ≡ Less = subst (λ (y : List ℕ). slice_cmp nat_cmp a y ≡ Less) (same b x f) less in absurd cc
    go Greater Greater e f = omega arith

rises : (os : List Object) (d : Object) (x : List ℕ) → IsStrictlySortedBy by_name os → (i j : ℕ) → i ≤ j → j < length os → ordering_index (slice_cmp nat_cmp (get_or os i d).name x) ≤ ordering_index (slice_cmp nat_cmp (get_or os j d).name x)
rises os d x s i j le lt = ⊎_elim
    (λ before. rising_index (get_or os i d).name (get_or os j d).name x (Less-from_sorted by_name os i j d s before lt))
    (λ behind. let one : i ≡ j = omega (arith, le, behind) in subst (λ (k : ℕ). ordering_index (slice_cmp nat_cmp (get_or os i d).name x) ≤ ordering_index (slice_cmp nat_cmp (get_or os k d).name x)) one (omega arith))
    (cases_lt i j)

pub halved : (os : List Object) (x : List ℕ) (i : ℕ) → IsStrictlySortedBy by_name os → i < length os → HoldsAt (λ (y : Object). slice_cmp nat_cmp y.name x ≡ Equal) os i → position_from 0 x (names_of os) ≡ Some i
halved [] x i s lt h = absurd (omega (arith, lt))
halved (o ∷ os) x i s lt h =
    let z : 0 + i ≡ i = omega arith in
    one_at (o ∷ os) 0 i o x s lt (same (get_or (o ∷ os) i o).name x (h o)) ∙ ap (λ (k : ℕ). Some k) z

pub missed : (os : List Object) (x : List ℕ) (i : ℕ) → IsStrictlySortedBy by_name os → (IsNonDecreasingBy (λ (y : Object). ordering_index (slice_cmp nat_cmp y.name x)) os → IsPartitionPoint (λ (y : Object). slice_cmp nat_cmp y.name x ≡ Less) (λ (y : Object). slice_cmp nat_cmp y.name x ≡ Greater) os i) → position_from 0 x (names_of os) ≡ None
missed [] x i s parted = refl
missed (o ∷ os) x i s parted =
    let p = parted (IsNonDecreasingBy-from_default (λ (y : Object). ordering_index (slice_cmp nat_cmp y.name x)) (o ∷ os) o (rises (o ∷ os) o x s)) in
    none_at (o ∷ os) 0 x (λ j d lt. ⊎_elim
    (λ below. apart (get_or (o ∷ os) j d).name x (p.0 j d (omega arith) below))
    (λ above. other x (get_or (o ∷ os) j d).name (p.1 j d above lt))
    (cases_lt j i))
