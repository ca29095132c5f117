-- What a procedure table has at a number.
use Rattle.std.proofs.Common.{◌≡◌, ℕ, zero, suc, ◌<◌, ◌≤◌, Bool, true, false, List, [], ◌∷◌, ◌++◌, take, replicate, Option, Some, None, refl, ap, ◌∙◌, subst, arith}
use Rattle.std.specs.Prelude.{nat_eq, ◌≢◌, if◌then◌else◌, slice_get, slice_set}
use Rattle.std.specs.List.{AllByRecursion}
use Rattle.std.specs.declared.cmp.Ordering.TheVariants.{Less}
use Rattle.std.specs.List.Sorted.{IsStrictlySortedBy}
use Rattle.std.proofs.lemmas.Bool.Decides.{nat_tests}
use Rattle.ob_tree.specs.declared.proc_ref.ProcRef.{ProcRef}
use Rattle.ob_tdesc.specs.declared.descriptor.Descriptor.{Descriptor}
use Rattle.ob_tdesc.specs.declared.declaration.OwnMethod.{OwnMethod}
use Rattle.ob_tdesc.specs.declared.descriptors.Entry.{Entry}
use Rattle.ob_tdesc.specs.declared.descriptors.Descriptors.TheInside.{Inside}
use Rattle.ob_tdesc.specs.Bases.{base_in, method_in}
use Rattle.ob_tdesc.specs.Tables.{by_number, defined, table_in, base_table, with_defined, table_of}
use Rattle.ob_tdesc.specs.Entries.{own_of, described, list_of, IsKept}
use Rattle.ob_tdesc.proofs.Kept.{descriptor_at}
use Rattle.ob_tdesc.proofs.Find.{above_all}

abbrev Table : Type 0
Table = List (Option ProcRef)

abbrev no_procedure : Option ProcRef
no_procedure = None

-- A PLACE THAT IS SET

set_here : (t : Table) (n : ℕ) (p x : Option ProcRef) → slice_get t n ≡ Some x → slice_get (slice_set t n p) n ≡ Some p
set_here [] n p x e = absurd cc
set_here (y ∷ t) zero p x e = refl
set_here (y ∷ t) (suc n) p x e = set_here t n p x e

set_other : (t : Table) (k n : ℕ) (p : Option ProcRef) → k ≢ n → slice_get (slice_set t k p) n ≡ slice_get t n
set_other [] k n p apart = refl
set_other (y ∷ t) zero zero p apart = absurd (apart refl)
set_other (y ∷ t) zero (suc n) p apart = refl
set_other (y ∷ t) (suc k) zero p apart = refl
set_other (y ∷ t) (suc k) (suc n) p apart = set_other t k n p (λ e. apart (ap suc e))

set_none : (t : Table) (k n : ℕ) (p : Option ProcRef) → slice_get t n ≡ None → slice_get (slice_set t k p) n ≡ None
set_none [] k n p e = refl
set_none (y ∷ t) k zero p e = absurd cc
set_none (y ∷ t) zero (suc n) p e = e
set_none (y ∷ t) (suc k) (suc n) p e = set_none t k n p e

-- WHAT IS DEFINED

none_defined : (own : List OwnMethod) (t : Table) (n : ℕ) → slice_get t n ≡ None → slice_get (with_defined own t) n ≡ None
none_defined [] t n e = e
none_defined (x ∷ own) t n e = none_defined own (slice_set t x.number (Some x.procedure)) n (set_none t x.number n (Some x.procedure) e)

not_defined : (own : List OwnMethod) (t : Table) (n : ℕ) → defined own n ≡ None → slice_get (with_defined own t) n ≡ slice_get t n
not_defined [] t n e = refl
not_defined (x ∷ own) t n e = go (nat_eq x.number n) refl e (λ s d. not_defined own s n d)
  where
    go : (b : Bool) → nat_eq x.number n ≡ b → (if b then Some x.procedure else defined own n) ≡ None → ((s : Table) → defined own n ≡ None → slice_get (with_defined own s) n ≡ slice_get s n) → slice_get (with_defined own (slice_set t x.number (Some x.procedure))) n ≡ slice_get t n
    go true h d rest = absurd cc
    go false h d rest =
        let apart : x.number ≢ n = grind (arith, nat_tests) in
        rest (slice_set t x.number (Some x.procedure)) d ∙ set_other t x.number n (Some x.procedure) apart

none_below : (own : List OwnMethod) (x : OwnMethod) → AllByRecursion (λ y. by_number x y ≡ Less) own → defined own x.number ≡ None
none_below [] x all = refl
none_below (y ∷ own) x all =
    let above = above_all (y ∷ own) x 0 y all (omega arith) in
    let e : nat_eq y.number x.number ≡ false = grind (arith, nat_tests) in
    rw e (none_below own x all.1)

is_defined : (own : List OwnMethod) (t : Table) (n : ℕ) (p : ProcRef) (old : Option ProcRef) → IsStrictlySortedBy by_number own → defined own n ≡ Some p → slice_get t n ≡ Some old → slice_get (with_defined own t) n ≡ Some (Some p)
unfolding IsStrictlySortedBy
is_defined [] t n p old s e there = absurd cc
is_defined (x ∷ own) t n p old s e there = go (nat_eq x.number n) refl e (λ t o d h. is_defined own t n p o s.1 d h)
  where
    go : (b : Bool) → nat_eq x.number n ≡ b → (if b then Some x.procedure else defined own n) ≡ Some p → ((t : Table) (o : Option ProcRef) → defined own n ≡ Some p → slice_get t n ≡ Some o → slice_get (with_defined own t) n ≡ Some (Some p)) → slice_get (with_defined own (slice_set t x.number (Some x.procedure))) n ≡ Some (Some p)
    go true h d rest =
        let same : x.number ≡ n = grind (arith, nat_tests) in
        let it : x.procedure ≡ p = cc in
        let none : defined own n ≡ None = subst (λ k. defined own k ≡ None) same (none_below own x s.0) in
        not_defined own (slice_set t x.number (Some x.procedure)) n none ∙ ap (λ k. slice_get (slice_set t k (Some x.procedure)) n) same ∙ set_here t n (Some x.procedure) old there ∙ ap (λ q. Some (Some q)) it
    go false h d rest =
        let apart : x.number ≢ n = grind (arith, nat_tests) in
        rest (slice_set t x.number (Some x.procedure)) old d (set_other t x.number n (Some x.procedure) apart ∙ there)

-- THE BASE'S TABLE

filled : (t : Table) (count many n : ℕ) → count ≤ many → n < count → slice_get (take count (t ++ replicate many no_procedure)) n ≡ Some (method_in (slice_get t n))
filled t zero many n le lt = absurd (omega arith)
filled [] (suc count) zero n le lt = absurd (omega arith)
filled [] (suc count) (suc many) zero le lt = refl
filled [] (suc count) (suc many) (suc n) le lt = filled [] count many n (omega arith) (omega arith)
filled (x ∷ t) (suc count) many zero le lt = refl
filled (x ∷ t) (suc count) many (suc n) le lt = filled t count many n (omega arith) (omega arith)

cut_off : (t : Table) (count n : ℕ) → count ≤ n → slice_get (take count t) n ≡ None
cut_off t zero n le = refl
cut_off [] (suc count) n le = refl
cut_off (x ∷ t) (suc count) zero le = absurd (omega arith)
cut_off (x ∷ t) (suc count) (suc n) le = cut_off t count n (omega arith)

-- A TABLE AT A NUMBER

table_beyond : (count : ℕ) (own : List OwnMethod) (t : Table) (n : ℕ) → count ≤ n → method_in (slice_get (table_of count own t) n) ≡ None
table_beyond count own t n le = ap method_in (none_defined own (take count (t ++ replicate count None)) n (cut_off (t ++ replicate count None) count n le))

table_own : (count : ℕ) (own : List OwnMethod) (t : Table) (n : ℕ) (p : ProcRef) → IsStrictlySortedBy by_number own → n < count → defined own n ≡ Some p → method_in (slice_get (table_of count own t) n) ≡ Some p
table_own count own t n p s lt e = ap method_in (is_defined own (take count (t ++ replicate count None)) n p (method_in (slice_get t n)) s e (filled t count count n (omega arith) lt))

table_based : (count : ℕ) (own : List OwnMethod) (t : Table) (n : ℕ) → n < count → defined own n ≡ None → method_in (slice_get (table_of count own t) n) ≡ method_in (slice_get t n)
table_based count own t n lt e = ap method_in (not_defined own (take count (t ++ replicate count None)) n e ∙ filled t count count n (omega arith) lt)

-- AN ENTRY THAT WAS READ

-- the procedure of a number of a type, where there is one
abbrev pub method_above : List Descriptor → Option ℕ → ℕ → Option ProcRef
method_above list at n = method_in (slice_get (base_table list at) n)

-- how many descriptors there are up to one
abbrev pub places_left : Option ℕ → ℕ
places_left None = 0
places_left (Some b) = suc b

take_get : (list : List Descriptor) (k b : ℕ) → b < k → slice_get (take k list) b ≡ slice_get list b
take_get list zero b lt = absurd (omega arith)
take_get [] (suc k) b lt = refl
take_get (d ∷ list) (suc k) zero lt = refl
take_get (d ∷ list) (suc k) (suc b) lt = take_get list k b (omega arith)

-- What a type's table has at a number: nothing beyond its number of procedures, else what it defines, else
-- what its base has.
pub record HasMethods (list : List Descriptor) (a : ℕ) (e : Entry) (methods : List OwnMethod) : Type 0 where
  pub below : (b : ℕ) → e.base ≡ Some b → b < a
  pub beyond : (n : ℕ) → e.count ≤ n → method_above list (Some a) n ≡ None
  pub own : (n : ℕ) (p : ProcRef) → n < e.count → defined methods n ≡ Some p → method_above list (Some a) n ≡ Some p
  pub based : (n : ℕ) → n < e.count → defined methods n ≡ None → method_above list (Some a) n ≡ method_above list e.base n

pub has_methods : (d : Inside) (list : List Descriptor) (a : ℕ) (e : Entry) → IsKept d → list_of d.methods.items d.entries.items ≡ list → slice_get d.entries.items a ≡ Some e → HasMethods list a e (own_of d.methods.items e)
has_methods d list a e kept is at = record {
  below = below;
  beyond = λ n le. here n ∙ table_beyond e.count mine (base_table (take a list) e.base) n le;
  own = λ n p lt h. here n ∙ table_own e.count mine (base_table (take a list) e.base) n p (kept.rising a e at) lt h;
  based = λ n lt h. here n ∙ table_based e.count mine (base_table (take a list) e.base) n lt h ∙ ap (λ t. method_in (slice_get t n)) (bases e.base below);
}
  where
    mine : List OwnMethod
    mine = own_of d.methods.items e

    there : slice_get list a ≡ Some (described d.methods.items (take a list) e)
    there = descriptor_at d.methods.items d.entries.items list a e is at

    below : (b : ℕ) → e.base ≡ Some b → b < a
    below b h = (kept.placed a e at).below b (ap (λ (l : List Descriptor). base_in (slice_get l a)) is ∙ ap base_in there ∙ h)

    here : (n : ℕ) → method_above list (Some a) n ≡ method_in (slice_get (table_of e.count mine (base_table (take a list) e.base)) n)
    here n = ap (λ o. method_in (slice_get (table_in o) n)) there

    bases : (o : Option ℕ) → ((b : ℕ) → o ≡ Some b → b < a) → base_table (take a list) o ≡ base_table list o
    bases None lower = refl
    bases (Some b) lower = ap table_in (take_get list a b (lower b refl))
