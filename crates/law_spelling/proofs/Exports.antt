-- What an object file exports has a spelling.
use Rattle.std.proofs.Common.{◌≡◌, ℕ, suc, ◌+◌, ◌*◌, ◌≤◌, Bool, true, false, List, [], ◌∷◌, ◌++◌, length, Option, Some, None, refl, sym, ap, arith, length-append}
use Rattle.std.specs.Prelude.{if◌then◌else◌, IfSome}
use Rattle.std.specs.List.{AllByRecursion, flat_map}
use Rattle.std.specs.List.Sorted.{IsStrictlySortedBy}
use Rattle.std.specs.Ordering.{nat_cmp, is_eq, ordering_reverse, ordering_then}
use Rattle.std.specs.Cmp.Lexicographic.{slice_cmp}
use Rattle.std.specs.declared.cmp.Ordering.{Ordering}
use Rattle.std.specs.declared.cmp.Ordering.TheVariants.{Less, Equal, Greater}
use Rattle.std.proofs.lemmas.Cmp.{nat_list_cmp_total}
use Rattle.ob_tree.specs.declared.print.Print.{Print}
use Rattle.ob_types.specs.declared.face.Object.{Object}
use Rattle.ob_types.specs.declared.face.Aspect.TheVariants as aspect
use Rattle.ob_types.specs.Spelled.{aspect as aspect_form, aspect_number, print_form}
use Rattle.ob_format.specs.Names.{object_name}
use Rattle.ob_sym.specs.Grammar as sym
use Rattle.ob_obj.specs.declared.parts.Export.{Export}
use Rattle.ob_obj.specs.Grammar.{by_name, export, by_export, repeats, names_in}
use Rattle.ob_compile_model.specs.Compiling.{layout_export, object_exports}
use Rattle.law_lists.proofs.Lists.{all_both}

pub record ObjectIsPrinted (o : Object) : Type 0 where
  pub name : object_name.fits o.name
  pub shape : length o.shape.0 ≡ 8
  pub layout : IfSome o.layout (λ p. length p.0 ≡ 8)

equal_if : (o : Ordering) → o ≡ ordering_reverse o → o ≡ Equal
equal_if Less e = absurd cc
equal_if Equal e = refl
equal_if Greater e = absurd cc

pub equal_itself : (x : List ℕ) → slice_cmp nat_cmp x x ≡ Equal
equal_itself x = equal_if (slice_cmp nat_cmp x x) (nat_list_cmp_total.antisymm x x)

-- ---- each export

one_fits : (o : Object) → ObjectIsPrinted o → AllByRecursion export.fits (object_exports o)
unfolding export aspect_form print_form
one_fits o h = ((h.name, (tt, h.shape)), go o.layout h.layout)
  where
    go : (p : Option Print) → IfSome p (λ p. length p.0 ≡ 8) → AllByRecursion export.fits (layout_export o.name p)
    go None k = tt
    go (Some p) k = ((h.name, (tt, k)), tt)

pub exports_fit : (os : List Object) → AllByRecursion ObjectIsPrinted os → AllByRecursion export.fits (flat_map object_exports os)
exports_fit [] h = tt
exports_fit (o ∷ os) h = all_both export.fits (object_exports o) (flat_map object_exports os) (one_fits o h.0) (exports_fit os h.1)

-- ---- in their order

before : (e f : Export) → by_name e.name f.name ≡ Less → by_export e f ≡ Less
before e f l = ap (λ o. ordering_then o (nat_cmp (aspect_number e.aspect) (aspect_number f.aspect))) l

-- what stands before an object stands before all its exports
before_one : (e : Export) (o : Object) → by_name e.name o.name ≡ Less → AllByRecursion (λ f. by_export e f ≡ Less) (object_exports o)
before_one e o l = (before e (record { name = o.name; aspect = aspect.Shape; print = o.shape }) l, go o.layout)
  where
    go : (p : Option Print) → AllByRecursion (λ f. by_export e f ≡ Less) (layout_export o.name p)
    go None = tt
    go (Some p) = (before e (record { name = o.name; aspect = aspect.Layout; print = p }) l, tt)

before_all : (e : Export) (os : List Object) → AllByRecursion (λ o. by_name e.name o.name ≡ Less) os → AllByRecursion (λ f. by_export e f ≡ Less) (flat_map object_exports os)
before_all e [] h = tt
before_all e (o ∷ os) h = all_both (λ f. by_export e f ≡ Less) (object_exports o) (flat_map object_exports os) (before_one e o h.0) (before_all e os h.1)

shape_before : (x : List ℕ) (p q : Print) → by_export (record { name = x; aspect = aspect.Shape; print = p }) (record { name = x; aspect = aspect.Layout; print = q }) ≡ Less
shape_before x p q = ap (λ o. ordering_then o (nat_cmp 0 1)) (equal_itself x)

pub exports_rise : (os : List Object) → IsStrictlySortedBy sym.by_name os → IsStrictlySortedBy by_export (flat_map object_exports os)
unfolding IsStrictlySortedBy
exports_rise [] s = tt
exports_rise (o ∷ os) s = go o.layout (exports_rise os s.1)
  where
    e : Export
    e = record { name = o.name; aspect = aspect.Shape; print = o.shape }

    go : (p : Option Print) → IsStrictlySortedBy by_export (flat_map object_exports os) → IsStrictlySortedBy by_export (e ∷ (layout_export o.name p ++ flat_map object_exports os))
    go None more = (before_all e os s.0, more)
    go (Some p) more = ((shape_before o.name o.shape p, before_all e os s.0), (before_all (record { name = o.name; aspect = aspect.Layout; print = p }) os s.0, more))

-- ---- how many

names_more : (e : Export) (es : List Export) → names_in (e ∷ es) ≤ suc (names_in es)
names_more e es = go (repeats e es)
  where
    go : (b : Bool) → (if b then names_in es else names_in es + 1) ≤ suc (names_in es)
    go true = omega arith
    go false = omega arith

names_again : (e f : Export) (es : List Export) → is_eq (by_name e.name f.name) ≡ true → names_in (e ∷ f ∷ es) ≤ names_in (f ∷ es)
names_again e f es h =
    let same : names_in (e ∷ f ∷ es) ≡ names_in (f ∷ es) = ap (λ b. if b then names_in (f ∷ es) else names_in (f ∷ es) + 1) h in
    omega (arith, same)

pub names_few : (os : List Object) → names_in (flat_map object_exports os) ≤ length os
names_few [] = omega arith
names_few (o ∷ os) = go o.layout (names_few os)
  where
    e : Export
    e = record { name = o.name; aspect = aspect.Shape; print = o.shape }

    go : (p : Option Print) → names_in (flat_map object_exports os) ≤ length os → names_in (e ∷ (layout_export o.name p ++ flat_map object_exports os)) ≤ suc (length os)
    go None h = let a = names_more e (flat_map object_exports os) in omega (arith, a, h)
    go (Some p) h =
        let f : Export = record { name = o.name; aspect = aspect.Layout; print = p } in
        let a = names_again e f (flat_map object_exports os) (ap is_eq (equal_itself o.name)) in
        let b = names_more f (flat_map object_exports os) in
        omega (arith, a, b, h)

few_each : (o : Object) → length (object_exports o) ≤ 2
few_each o = go o.layout
  where
    go : (p : Option Print) → suc (length (layout_export o.name p)) ≤ 2
    go None = omega arith
    go (Some p) = omega arith

pub exports_many : (os : List Object) → length (flat_map object_exports os) ≤ 2 * length os
exports_many [] = omega arith
exports_many (o ∷ os) =
    let e = length-append (object_exports o) (flat_map object_exports os) in
    let a = few_each o in
    let b = exports_many os in
    omega (arith, e, a, b)
