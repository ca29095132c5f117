-- The imported modules of a checked module: few, each once, none of those that no file has.
use Rattle.std.proofs.Common.{◌≡◌, ◌≢◌, ℕ, suc, ◌≤◌, Bool, true, false, List, [], ◌∷◌, ◌++◌, length, map, Option, Some, None, refl, sym, subst, ◌∙◌, arith, codes}
use Rattle.std.specs.Prelude.{bytes_eq, ◌||◌}
use Rattle.std.specs.List.{AllByRecursion, IsDistinct}
use Rattle.std.specs.Ordering.{nat_cmp, is_eq}
use Rattle.std.specs.Cmp.Lexicographic.{slice_cmp}
use Rattle.std.proofs.lemmas.Bool.{false≢true}
use Rattle.std.proofs.lemmas.Slice.Eq.{bytes_eq-Decides}
use Rattle.std.proofs.lemmas.Map.Text.{is_eq-slice_cmp}
use Rattle.ob_tree.specs.declared.pos.Pos.{Pos}
use Rattle.ob_tree.specs.declared.ident.Ident.{Ident}
use Rattle.ob_tree.specs.declared.ident.Import.{Import}
use Rattle.ob_rules.specs.declared.broken.Rule.TheVariants as rule
use Rattle.ob_rules.specs.declared.broken.Rule.{Rule}
use Rattle.ob_rules.specs.Judged.{notes_if}
use Rattle.ob_rules.specs.Names.{Around, is_out, is_among}
use Rattle.ob_rules.specs.Declarations.{twice, in_order, is_system, import_declared, target_of, import_if, imported}
use Rattle.ob_compile_model.specs.Compiling.{imported as imported_name}
use Rattle.law_spelling.specs.Trees.{IsNamed, AreImports}
use Rattle.law_lists.proofs.Lists.{or_parts}

-- ---- names

target_is : (i : Import) → (target_of i).name ≡ imported_name i
target_is i = go i.target
  where
    go : (o : Option Ident) → (target_of (record i { target = o })).name ≡ imported_name (record i { target = o })
    go None = refl
    go (Some t) = refl

-- ---- each once

fewer : (b : Bool) (x : List ℕ) (xs : List (List ℕ)) → length (import_if b x xs) ≤ suc (length xs)
fewer true x xs = omega arith
fewer false x xs = omega arith

few_of : (before : List (List ℕ)) (is : List Import) → length (imported before is) ≤ length is
few_of before [] = omega arith
few_of before (i ∷ is) =
    let x = (target_of i).name in
    let a = fewer (is_out x || is_among x before) x (imported (x ∷ before) is) in
    let b = few_of (x ∷ before) is in
    omega (arith, a, b)

if_all : (P : List ℕ → Type 0) (b : Bool) (x : List ℕ) (xs : List (List ℕ)) → (b ≡ false → P x) → AllByRecursion P xs → AllByRecursion P (import_if b x xs)
if_all P true x xs h k = k
if_all P false x xs h k = (h refl, k)

named_of : (before : List (List ℕ)) (is : List Import) → AllByRecursion (λ i. IsNamed (imported_name i)) is → AllByRecursion IsNamed (imported before is)
named_of before [] h = tt
named_of before (i ∷ is) h =
    let x = (target_of i).name in
    if_all IsNamed (is_out x || is_among x before) x (imported (x ∷ before) is) (λ e. subst IsNamed (sym (target_is i)) h.0) (named_of (x ∷ before) is h.1)

not_same : (x y : List ℕ) → bytes_eq x y ≡ false → x ≢ y
not_same x y e same = absurd (false≢true (sym e ∙ (bytes_eq-Decides x y).1 same))

-- none of them is one before
apart_from : (before : List (List ℕ)) (is : List Import) → AllByRecursion (λ x. is_among x before ≡ false) (imported before is)
apart_from before [] = tt
apart_from before (i ∷ is) =
    let x = (target_of i).name in
    if_all (λ x. is_among x before ≡ false) (is_out x || is_among x before) x (imported (x ∷ before) is) (λ e. (or_parts (is_out x) (is_among x before) e).1) (fewer_before (imported (x ∷ before) is) x (apart_from (x ∷ before) is))
  where
    fewer_before : (ys : List (List ℕ)) (x : List ℕ) → AllByRecursion (λ y. is_among y (x ∷ before) ≡ false) ys → AllByRecursion (λ y. is_among y before ≡ false) ys
    fewer_before [] x h = tt
    fewer_before (y ∷ ys) x h = ((or_parts (bytes_eq x y) (is_among y before) h.0).1, fewer_before ys x h.1)

first_apart : (x : List ℕ) (before ys : List (List ℕ)) → AllByRecursion (λ y. is_among y (x ∷ before) ≡ false) ys → AllByRecursion (λ y. is_eq (slice_cmp nat_cmp x y) ≡ false) ys
first_apart x before [] h = tt
first_apart x before (y ∷ ys) h = (is_eq-slice_cmp x y ∙ (or_parts (bytes_eq x y) (is_among y before) h.0).0, first_apart x before ys h.1)

once_of : (before : List (List ℕ)) (is : List Import) → IsDistinct (λ a b. is_eq (slice_cmp nat_cmp a b)) (imported before is)
unfolding IsDistinct
once_of before [] = tt
once_of before (i ∷ is) =
    let x = (target_of i).name in
    go (is_out x || is_among x before) x (imported (x ∷ before) is) (first_apart x before (imported (x ∷ before) is) (apart_from (x ∷ before) is)) (once_of (x ∷ before) is)
  where
    go : (b : Bool) (x : List ℕ) (ys : List (List ℕ)) → AllByRecursion (λ y. is_eq (slice_cmp nat_cmp x y) ≡ false) ys → IsDistinct (λ a b. is_eq (slice_cmp nat_cmp a b)) ys → IsDistinct (λ a b. is_eq (slice_cmp nat_cmp a b)) (import_if b x ys)
    go true x ys h k = k
    go false x ys h k = (h, k)

-- ---- SYSTEM breaks a rule

pub nothing_both : {A : Type 0} (xs ys : List A) → xs ++ ys ≡ [] → (xs ≡ []) × (ys ≡ [])
nothing_both [] ys e = (refl, e)
nothing_both (x ∷ xs) ys e = absurd cc

quiet_if : (b : Bool) (which : Rule) (at : Pos) → (notes_if b which at).broken ≡ [] → b ≡ false
quiet_if true which at e = absurd cc
quiet_if false which at e = refl

no_system : (is : List Import) (u : Around) → (in_order (map (λ i. import_declared i (target_of i)) is) u).part.notes.broken ≡ [] → AllByRecursion (λ i. is_system (target_of i).name ≡ false) is
no_system [] u e = tt
no_system (i ∷ is) u e =
    let d = import_declared i (target_of i) u in
    let p = nothing_both d.part.notes.broken (in_order (map (λ i. import_declared i (target_of i)) is) d.around).part.notes.broken e in
    let q = nothing_both (notes_if (is_system (target_of i).name) rule.ReservedModule (target_of i).pos).broken (twice u i.ident).broken p.0 in
    (quiet_if (is_system (target_of i).name) rule.ReservedModule (target_of i).pos q.0, no_system is d.around p.1)

allowed_of : (before : List (List ℕ)) (is : List Import) → AllByRecursion (λ i. is_system (target_of i).name ≡ false) is → AllByRecursion (λ m. (m ≢ codes "Out") × (m ≢ codes "SYSTEM")) (imported before is)
allowed_of before [] h = tt
allowed_of before (i ∷ is) h =
    let x = (target_of i).name in
    if_all (λ m. (m ≢ codes "Out") × (m ≢ codes "SYSTEM")) (is_out x || is_among x before) x (imported (x ∷ before) is) (λ e. (not_same x (codes "Out") (or_parts (is_out x) (is_among x before) e).0, not_same x (codes "SYSTEM") h.0)) (allowed_of (x ∷ before) is h.1)

-- THE IMPORTS, where the text has few, named by identifiers, and none breaks a rule
pub imports_are : (is : List Import) (u : Around) → length is ≤ 64 → AllByRecursion (λ i. IsNamed (imported_name i)) is → (in_order (map (λ i. import_declared i (target_of i)) is) u).part.notes.broken ≡ [] → AreImports (imported [] is)
imports_are is u l h e = let a = few_of [] is in record { few = omega (arith, a, l); names = named_of [] is h; once = once_of [] is; others = allowed_of [] is (no_system is u e) }
