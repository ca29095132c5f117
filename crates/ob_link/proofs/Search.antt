-- What a search by halves finds among entries that rise by their keys.
use Rattle.std.proofs.Common.{◌≡◌, ℕ, zero, suc, ◌<◌, ◌≤◌, Bool, true, false, List, [], ◌∷◌, length, get_or, Option, Some, None, refl, sym, ap, subst, ◌∙◌, arith, ⊎_elim}
use Rattle.std.specs.Prelude.{if◌then◌else◌, bytes_eq, ◌&&◌, ◌||◌}
use Rattle.std.specs.Option.{option_map}
use Rattle.std.specs.List.{AllByRecursion, HoldsAt}
use Rattle.std.specs.List.Sorted.{IsStrictlySortedBy, IsNonDecreasingBy, IsPartitionPoint}
use Rattle.std.specs.Cmp.{IsTotalOrder}
use Rattle.std.specs.Ordering.{is_eq, ordering_index, ordering_reverse, ordering_then, nat_cmp}
use Rattle.std.specs.declared.cmp.Ordering.{Ordering}
use Rattle.std.specs.declared.cmp.Ordering.TheVariants.{Less, Equal, Greater}
use Rattle.std.proofs.lemmas.Bool.{cases_lt}
use Rattle.std.proofs.lemmas.Cmp.{nat_list_cmp_total, nat_cmp_total, on_total, then_total}
use Rattle.std.proofs.lemmas.List.Sorted.{IsNonDecreasingBy-from_default}
use Rattle.std.proofs.lemmas.Map.Text.{is_eq-slice_cmp}
use Rattle.ob_tree.specs.declared.print.Print.{Print}
use Rattle.ob_types.specs.declared.face.Aspect.{Aspect}
use Rattle.ob_types.specs.declared.face.Aspect.TheVariants as aspect
use Rattle.ob_types.specs.Spelled.{aspect_number}
use Rattle.ob_obj.specs.declared.parts.Export.{Export}
use Rattle.ob_obj.specs.declared.parts.Variable.{Variable}
use Rattle.ob_obj.specs.Grammar.{by_name, by_export, by_variable}
use Rattle.ob_link.specs.declared.exported.Exported.{Exported}
use Rattle.ob_link.specs.Files.{exported, has_variable, same_aspect}
use Rattle.ob_link.specs.Members.{by_export_name, by_exported, procedure_named}

-- ORDERS

at_most_two : (o : Ordering) → ordering_index o ≤ 2
at_most_two Less = omega arith
at_most_two Equal = omega arith
at_most_two Greater = omega arith

-- what is below one that is as high as another is below that
strictly : {K : Type 0} (R : K → K → Ordering) → IsTotalOrder R → (a b t : K) → R a b ≡ Less → R b t ≡ Equal → R a t ≡ Less
strictly R laws a b t lt e =
    let back : R b a ≡ Greater = laws.antisymm b a ∙ ap ordering_reverse lt in
    let other : R t a ≡ Greater = sym (laws.congr b t a e) ∙ back in
    laws.antisymm a t ∙ ap ordering_reverse other

lower : {K : Type 0} (R : K → K → Ordering) → IsTotalOrder R → (a b t : K) → R a b ≡ Less → ordering_index (R a t) ≤ ordering_index (R b t)
lower R laws a b t lt = go (R b t) refl
  where
    go : (o : Ordering) → R b t ≡ o → ordering_index (R a t) ≤ ordering_index o
    go Less e = subst (λ r. ordering_index r ≤ 0) (sym (laws.trans a b t lt e)) (omega arith)
    go Equal e = subst (λ r. ordering_index r ≤ 1) (sym (strictly R laws a b t lt e)) (omega arith)
    go Greater e = at_most_two (R a t)

-- ENTRIES

abbrev by_key : {E K : Type 0} → (K → K → Ordering) → (E → K) → E → E → Ordering
by_key R key x y = R (key x) (key y)

abbrev first_with : {E : Type 0} → (E → Bool) → List E → Option E
first_with test [] = None
first_with test (x ∷ l) = if test x then Some x else first_with test l

at_each : {E : Type 0} (P : E → Type 0) (l : List E) (i : ℕ) (d : E) → AllByRecursion P l → i < length l → P (get_or l i d)
at_each P [] i d all lt = absurd (omega arith)
at_each P (x ∷ l) zero d all lt = all.0
at_each P (x ∷ l) (suc i) d all lt = at_each P l i d all.1 (omega arith)

rising : {E K : Type 0} (R : K → K → Ordering) (key : E → K) → IsTotalOrder R → (l : List E) (t : K) (d : E) → IsStrictlySortedBy (by_key R key) l → (i j : ℕ) → i ≤ j → j < length l → ordering_index (R (key (get_or l i d)) t) ≤ ordering_index (R (key (get_or l j d)) t)
unfolding IsStrictlySortedBy
rising R key laws [] t d s i j le lt = absurd (omega arith)
rising R key laws (x ∷ l) t d s zero zero le lt = omega arith
rising R key laws (x ∷ l) t d s zero (suc j) le lt = lower R laws (key x) (key (get_or l j d)) t (at_each (λ y. by_key R key x y ≡ Less) l j d s.0 (omega arith))
rising R key laws (x ∷ l) t d s (suc i) zero le lt = absurd (omega arith)
rising R key laws (x ∷ l) t d s (suc i) (suc j) le lt = rising R key laws l t d s.1 i j (omega arith) (omega arith)

none_with : {E : Type 0} (test : E → Bool) (l : List E) → ((j : ℕ) (d : E) → j < length l → test (get_or l j d) ≡ false) → first_with test l ≡ None
none_with test [] apart = refl
none_with test (x ∷ l) apart = let e : test x ≡ false = apart 0 x (omega arith) in rw e (none_with test l (λ j d lt. apart (suc j) d (omega arith)))

first_at : {E K : Type 0} (R : K → K → Ordering) (key : E → K) → IsTotalOrder R → (l : List E) (t : K) (i : ℕ) (d : E) → IsStrictlySortedBy (by_key R key) l → i < length l → R (key (get_or l i d)) t ≡ Equal → first_with (λ x. is_eq (R (key x) t)) l ≡ Some (get_or l i d)
unfolding IsStrictlySortedBy
first_at R key laws [] t i d s lt e = absurd (omega arith)
first_at R key laws (x ∷ l) t zero d s lt e = let h : is_eq (R (key x) t) ≡ true = ap is_eq e in rw h refl
first_at R key laws (x ∷ l) t (suc i) d s lt e =
    let h : is_eq (R (key x) t) ≡ false = ap is_eq (strictly R laws (key x) (key (get_or l i d)) t (at_each (λ y. by_key R key x y ≡ Less) l i d s.0 (omega arith)) e) in
    rw h (first_at R key laws l t i d s.1 (omega arith) e)

-- THE SEARCH

found : {E K : Type 0} (R : K → K → Ordering) (key : E → K) → IsTotalOrder R → (l : List E) (t : K) (i : ℕ) (d : E) → IsStrictlySortedBy (by_key R key) l → i < length l → HoldsAt (λ y. R (key y) t ≡ Equal) l i → first_with (λ x. is_eq (R (key x) t)) l ≡ Some (get_or l i d)
found R key laws l t i d s lt h = first_at R key laws l t i d s lt (h d)

below_apart : (o : Ordering) → o ≡ Less → is_eq o ≡ false
below_apart o e = ap is_eq e

above_apart : (o : Ordering) → o ≡ Greater → is_eq o ≡ false
above_apart o e = ap is_eq e

absent : {E K : Type 0} (R : K → K → Ordering) (key : E → K) → IsTotalOrder R → (l : List E) (t : K) (i : ℕ) (d : E) → IsStrictlySortedBy (by_key R key) l → (IsNonDecreasingBy (λ y. ordering_index (R (key y) t)) l → IsPartitionPoint (λ y. R (key y) t ≡ Less) (λ y. R (key y) t ≡ Greater) l i) → first_with (λ x. is_eq (R (key x) t)) l ≡ None
absent R key laws l t i d s parted =
    let p = parted (IsNonDecreasingBy-from_default (λ y. ordering_index (R (key y) t)) l d (rising R key laws l t d s)) in
    none_with (λ x. is_eq (R (key x) t)) l (λ j e lt. ⊎_elim (λ below. below_apart (R (key (get_or l j e)) t) (p.0 j e (omega arith) below)) (λ above. above_apart (R (key (get_or l j e)) t) (p.1 j e above lt)) (cases_lt j i))

-- BY NAMES

order_back : (o : Ordering) → is_eq (ordering_reverse o) ≡ is_eq o
order_back Less = refl
order_back Equal = refl
order_back Greater = refl

-- an order tells the same names as equal, from either side
pub named_so : (a b : List ℕ) → is_eq (by_name a b) ≡ bytes_eq b a
named_so a b = ap is_eq (nat_list_cmp_total.antisymm a b) ∙ order_back (by_name b a) ∙ is_eq-slice_cmp b a

first_same : {E : Type 0} (test other : E → Bool) (l : List E) → ((x : E) → test x ≡ other x) → first_with test l ≡ first_with other l
first_same test other [] same = refl
first_same test other (x ∷ l) same = rw (same x, first_same test other l same) refl

-- VARIABLES

abbrev is_some : {E : Type 0} → Option E → Bool
is_some None = false
is_some (Some x) = true

one_or : (b : Bool) (v : Variable) (more : Bool) (rest : Option Variable) → more ≡ is_some rest → (b || more) ≡ is_some (if b then Some v else rest)
one_or true v more rest e = refl
one_or false v more rest e = e

has_first : (name : List ℕ) (l : List Variable) → has_variable name l ≡ is_some (first_with (λ v. bytes_eq name v.name) l)
has_first name [] = refl
has_first name (v ∷ l) = one_or (bytes_eq name v.name) v (has_variable name l) (first_with (λ w. bytes_eq name w.name) l) (has_first name l)

variables_found : (name : List ℕ) (l : List Variable) → has_variable name l ≡ is_some (first_with (λ v. is_eq (by_name v.name name)) l)
variables_found name l = has_first name l ∙ ap is_some (first_same (λ v. bytes_eq name v.name) (λ v. is_eq (by_name v.name name)) l (λ v. sym (named_so v.name name)))

pub variable_there : (name : List ℕ) (l : List Variable) (i : ℕ) (d : Variable) → IsStrictlySortedBy by_variable l → i < length l → HoldsAt (λ v. by_name v.name name ≡ Equal) l i → has_variable name l ≡ true
variable_there name l i d s lt h = variables_found name l ∙ ap is_some (found by_name (λ v. v.name) nat_list_cmp_total l name i d s lt h)

pub no_variable : (name : List ℕ) (l : List Variable) (i : ℕ) → IsStrictlySortedBy by_variable l → (IsNonDecreasingBy (λ v. ordering_index (by_name v.name name)) l → IsPartitionPoint (λ v. by_name v.name name ≡ Less) (λ v. by_name v.name name ≡ Greater) l i) → has_variable name l ≡ false
no_variable name l i s p = variables_found name l ∙ ap is_some (absent by_name (λ v. v.name) nat_list_cmp_total l name i (record { name = []; place = 0 }) s p)

-- PROCEDURES

procedures_found : (name : List ℕ) (l : List Exported) → procedure_named name l ≡ first_with (λ x. is_eq (by_name x.name name)) l
procedures_found name [] = refl
procedures_found name (x ∷ l) = rw (named_so x.name name, procedures_found name l) refl

pub procedure_there : (name : List ℕ) (l : List Exported) (i : ℕ) (d : Exported) → IsStrictlySortedBy by_exported l → i < length l → HoldsAt (λ x. by_name x.name name ≡ Equal) l i → procedure_named name l ≡ Some (get_or l i d)
procedure_there name l i d s lt h = procedures_found name l ∙ found by_name (λ x. x.name) nat_list_cmp_total l name i d s lt h

pub no_procedure : (name : List ℕ) (l : List Exported) (i : ℕ) → IsStrictlySortedBy by_exported l → (IsNonDecreasingBy (λ x. ordering_index (by_name x.name name)) l → IsPartitionPoint (λ x. by_name x.name name ≡ Less) (λ x. by_name x.name name ≡ Greater) l i) → procedure_named name l ≡ None
no_procedure name l i s p = procedures_found name l ∙ absent by_name (λ x. x.name) nat_list_cmp_total l name i (record { name = []; procedure = 0; is_command = false }) s p

-- EXPORTS

abbrev key_of : Export → List ℕ × ℕ
key_of e = (e.name, aspect_number e.aspect)

export_total : IsTotalOrder by_export_name
export_total = then_total (on_total (λ p. p.0) nat_list_cmp_total) (on_total (λ p. p.1) nat_cmp_total)

both_equal : (o p : Ordering) → is_eq (ordering_then o p) ≡ (is_eq o && is_eq p)
both_equal Less p = refl
both_equal Equal p = refl
both_equal Greater p = refl

aspects_so : (a b : Aspect) → is_eq (nat_cmp (aspect_number b) (aspect_number a)) ≡ same_aspect a b
aspects_so aspect.Shape aspect.Shape = refl
aspects_so aspect.Shape aspect.Layout = refl
aspects_so aspect.Layout aspect.Shape = refl
aspects_so aspect.Layout aspect.Layout = refl

export_so : (name : List ℕ) (a : Aspect) (e : Export) → is_eq (by_export_name (key_of e) (name, aspect_number a)) ≡ (bytes_eq name e.name && same_aspect a e.aspect)
export_so name a e = both_equal (by_name e.name name) (nat_cmp (aspect_number e.aspect) (aspect_number a)) ∙ rw (named_so e.name name, aspects_so a e.aspect) refl

one_print : (b t : Bool) (e : Export) (more : Option Print) (rest : Option Export) → b ≡ t → more ≡ option_map (λ (x : Export). x.print) rest → (if t then Some e.print else more) ≡ option_map (λ (x : Export). x.print) (if b then Some e else rest)
one_print b true e more rest same h = rw same refl
one_print b false e more rest same h = rw same h

exports_found : (name : List ℕ) (a : Aspect) (l : List Export) → exported name a l ≡ option_map (λ (e : Export). e.print) (first_with (λ e. is_eq (by_export_name (key_of e) (name, aspect_number a))) l)
exports_found name a [] = refl
exports_found name a (e ∷ l) = one_print (is_eq (by_export_name (key_of e) (name, aspect_number a))) (bytes_eq name e.name && same_aspect a e.aspect) e (exported name a l) (first_with (λ x. is_eq (by_export_name (key_of x) (name, aspect_number a))) l) (export_so name a e) (exports_found name a l)

pub export_there : (name : List ℕ) (a : Aspect) (l : List Export) (i : ℕ) (d : Export) → IsStrictlySortedBy by_export l → i < length l → HoldsAt (λ e. by_export_name (key_of e) (name, aspect_number a) ≡ Equal) l i → exported name a l ≡ Some (get_or l i d).print
export_there name a l i d s lt h = exports_found name a l ∙ ap (option_map (λ (e : Export). e.print)) (found by_export_name key_of export_total l (name, aspect_number a) i d s lt h)

pub no_export : (name : List ℕ) (a : Aspect) (l : List Export) (i : ℕ) (d : Export) → IsStrictlySortedBy by_export l → (IsNonDecreasingBy (λ e. ordering_index (by_export_name (key_of e) (name, aspect_number a))) l → IsPartitionPoint (λ e. by_export_name (key_of e) (name, aspect_number a) ≡ Less) (λ e. by_export_name (key_of e) (name, aspect_number a) ≡ Greater) l i) → exported name a l ≡ None
no_export name a l i d s p = exports_found name a l ∙ ap (option_map (λ (e : Export). e.print)) (absent by_export_name key_of export_total l (name, aspect_number a) i d s p)
