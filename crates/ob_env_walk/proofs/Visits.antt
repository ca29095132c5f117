-- Steps of a walk.
use Rattle.std.proofs.Common.{◌≡◌, ℕ, zero, suc, ◌<◌, ◌-◌, true, false, List, [], ◌∷◌, length, refl, sym, ◌∙◌, arith}
use Rattle.std.specs.Prelude.{reverse, bytes_eq}
use Rattle.std.proofs.lemmas.List.Sorted.{list_any-IsPermutation, IsPermutation-reverse}
use Rattle.ob_env.specs.Faces.{Face}
use Rattle.ob_env_walk.specs.Walk.{Entry, Left, Cycle, TooMany, is_among, is_passed_over, importer_of, through, entering, at_module, visit}

pub visit_more : {K : Type 0} (find : List ℕ → Entry K) (n : ℕ) (path : List (List ℕ)) (m : List ℕ) (left : List (Face K)) → 0 < n → visit find n path m left ≡ at_module (is_passed_over m left) (is_among m path) path left (λ _. entering find (through (visit find (n - 1) (m ∷ path))) path m left)
unfolding visit
visit_more find zero path m left l = absurd (omega (arith, l))
visit_more find (suc n) path m left l = let e : suc n - 1 ≡ n = omega arith in rw e refl

pub passed : {K : Type 0} (find : List ℕ → Entry K) (n : ℕ) (path : List (List ℕ)) (m : List ℕ) (left : List (Face K)) → 0 < n → is_passed_over m left ≡ true → visit find n path m left ≡ Left left
passed find n path m left l e = rw (visit_more find n path m left l, e) refl

pub circled : {K : Type 0} (find : List ℕ → Entry K) (n : ℕ) (path : List (List ℕ)) (m : List ℕ) (left : List (Face K)) → 0 < n → is_passed_over m left ≡ false → is_among m path ≡ true → visit find n path m left ≡ Cycle (importer_of path)
circled find n path m left l e f = rw (visit_more find n path m left l, e, f) refl

pub entered_on : {K : Type 0} (find : List ℕ → Entry K) (n : ℕ) (path : List (List ℕ)) (m : List ℕ) (left : List (Face K)) → 0 < n → is_passed_over m left ≡ false → is_among m path ≡ false → visit find n path m left ≡ entering find (through (visit find (n - 1) (m ∷ path))) path m left
entered_on find n path m left l e f = rw (visit_more find n path m left l, e, f) refl

pub on_path : (m : List ℕ) (path : List (List ℕ)) → is_among m path ≡ true → is_among m (reverse path) ≡ true
on_path m path e = sym (list_any-IsPermutation (λ n. bytes_eq m n) path (reverse path) (IsPermutation-reverse path)) ∙ e

pub off_path : (m : List ℕ) (path : List (List ℕ)) → is_among m path ≡ false → is_among m (reverse path) ≡ false
off_path m path e = sym (list_any-IsPermutation (λ n. bytes_eq m n) path (reverse path) (IsPermutation-reverse path)) ∙ e

pub no_steps : {K : Type 0} (find : List ℕ → Entry K) (n : ℕ) (path ms : List (List ℕ)) (left : List (Face K)) → n ≡ 0 → 0 < length ms → through (visit find n path) ms left ≡ TooMany
unfolding visit
no_steps find n path [] left e l = absurd (omega (arith, l))
no_steps find n path (m ∷ ms) left e l = rw e refl
