-- Parts of rows, at the operands that stand.
use Rattle.std.proofs.Common.{◌≡◌, List, ◌∷◌, ℤ, Bool, true, ap, sym, ◌∙◌, w32, w64, to_z, of_z}
use Rattle.std.specs.Prelude.{if◌then◌else◌}
use Rattle.std.specs.Int.RustNames.{FitsSigned}
use Rattle.std.proofs.lemmas.Int.{to_z-of_z}
use Rattle.ob_instr.specs.Image.{World}
use Rattle.ob_instr.specs.Rows.{Effect, on_one, on_two, on_three, on_width, in_type, word}

pub in_type_of_two : (f : ℤ → ℤ → ℤ) (b : ℤ) (ops rest : List ℤ) (x y v : ℤ) (w : World) (e : Effect) → FitsSigned w32 b → FitsSigned w64 v → ops ≡ y ∷ x ∷ rest → v ≡ f x y → on_width (to_z w32 (of_z w32 b)) (λ n. in_type n (to_z w64 (of_z w64 v)) rest w) ≡ e → on_width b (λ n. on_two ops (λ s t u. in_type n (f s t) u w)) ≡ e
in_type_of_two f b ops rest x y v w e bf vf is number done =
    ap (λ o. on_width b (λ n. on_two o (λ s t u. in_type n (f s t) u w))) is
    ∙ ap (λ k. on_width k (λ n. in_type n (f x y) rest w)) (sym (to_z-of_z w32 b bf))
    ∙ ap (λ k. on_width (to_z w32 (of_z w32 b)) (λ n. in_type n k rest w)) (sym number)
    ∙ ap (λ k. on_width (to_z w32 (of_z w32 b)) (λ n. in_type n k rest w)) (sym (to_z-of_z w64 v vf))
    ∙ done

pub in_type_of_one : (f : ℤ → ℤ) (b : ℤ) (ops rest : List ℤ) (x v : ℤ) (w : World) (e : Effect) → FitsSigned w32 b → FitsSigned w64 v → ops ≡ x ∷ rest → v ≡ f x → on_width (to_z w32 (of_z w32 b)) (λ n. in_type n (to_z w64 (of_z w64 v)) rest w) ≡ e → on_width b (λ n. on_one ops (λ s u. in_type n (f s) u w)) ≡ e
in_type_of_one f b ops rest x v w e bf vf is number done =
    ap (λ o. on_width b (λ n. on_one o (λ s u. in_type n (f s) u w))) is
    ∙ ap (λ k. on_width k (λ n. in_type n (f x) rest w)) (sym (to_z-of_z w32 b bf))
    ∙ ap (λ k. on_width (to_z w32 (of_z w32 b)) (λ n. in_type n k rest w)) (sym number)
    ∙ ap (λ k. on_width (to_z w32 (of_z w32 b)) (λ n. in_type n k rest w)) (sym (to_z-of_z w64 v vf))
    ∙ done

pub word_of_two : (g : ℤ → ℤ → Bool) (f : ℤ → ℤ → ℤ) (otherwise : World → Effect) (ops rest : List ℤ) (x i v : ℤ) (w : World) (e : Effect) → FitsSigned w64 v → ops ≡ i ∷ x ∷ rest → g x i ≡ true → v ≡ f x i → word (to_z w64 (of_z w64 v)) rest w ≡ e → on_two ops (λ s t u. if g s t then word (f s t) u w else otherwise w) ≡ e
word_of_two g f otherwise ops rest x i v w e vf is passes number done =
    ap (λ o. on_two o (λ s t u. if g s t then word (f s t) u w else otherwise w)) is
    ∙ ap (λ b. if b then word (f x i) rest w else otherwise w) passes
    ∙ ap (λ k. word k rest w) (sym number)
    ∙ ap (λ k. word k rest w) (sym (to_z-of_z w64 v vf))
    ∙ done

pub word_of_three : (g : ℤ → ℤ → Bool) (f : ℤ → ℤ → ℤ → ℤ) (otherwise : World → Effect) (ops rest : List ℤ) (x l i v : ℤ) (w : World) (e : Effect) → FitsSigned w64 v → ops ≡ i ∷ l ∷ x ∷ rest → g l i ≡ true → v ≡ f x l i → word (to_z w64 (of_z w64 v)) rest w ≡ e → on_three ops (λ s r t u. if g r t then word (f s r t) u w else otherwise w) ≡ e
word_of_three g f otherwise ops rest x l i v w e vf is passes number done =
    ap (λ o. on_three o (λ s r t u. if g r t then word (f s r t) u w else otherwise w)) is
    ∙ ap (λ b. if b then word (f x l i) rest w else otherwise w) passes
    ∙ ap (λ k. word k rest w) (sym number)
    ∙ ap (λ k. word k rest w) (sym (to_z-of_z w64 v vf))
    ∙ done
