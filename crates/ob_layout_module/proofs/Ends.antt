-- Where each chain of names ends within the steps, more steps change nothing.
use Rattle.std.proofs.Common.{◌≡◌, ℕ, zero, suc, ◌+◌, Bool, true, false, cond, List, [], ◌∷◌, Option, Some, None, refl, sym, ap, subst, ◌∙◌, arith}
use Rattle.std.specs.Prelude.{◌&&◌, ◌*◌, map as each}
use Rattle.ob_tree.specs.declared.names.QName.{QName}
use Rattle.ob_types.specs.declared.types.TypeRef.{TypeRef}
use Rattle.ob_types.specs.declared.types.TypeRef.TheVariants as ref
use Rattle.ob_types.specs.declared.desc.Desc.{Desc}
use Rattle.ob_types.specs.declared.desc.Desc.TheVariants as desc
use Rattle.ob_types.specs.declared.desc.Field.{Field}
use Rattle.ob_types.specs.declared.typed.TypedType.{TypedType}
use Rattle.ob_types.specs.TypedSyntax.{Module}
use Rattle.ob_layout.specs.Lists.{sum_of}
use Rattle.ob_layout.specs.LaidOut.{summed, declared_words, base_of, kept, is_own, viewed}
use Rattle.ob_layout_module.specs.Sums.{own_ref, base_ends, fields_end, declared_ends, ends_in, sum_in, row_at, all_end}
use Rattle.ob_layout_module.specs.declared.sums.Sum.{Sum}

both_true : (x y : Bool) → (x && y) ≡ true → (x ≡ true) × (y ≡ true)
both_true true y e = (refl, e)
both_true false y e = absurd cc

and_true : (x y : Bool) → x ≡ true → y ≡ true → (x && y) ≡ true
and_true x y e f = ap (λ b. b && y) e ∙ f

-- ---- a type that ends by the types that it names

-- what ends has the same words and ends, by both
Alike : (TypeRef → Bool) → (TypeRef → Bool) → (TypeRef → ℕ) → (TypeRef → ℕ) → Type 0
Alike before after less more = (t : TypeRef) → before t ≡ true → (more t ≡ less t) × (after t ≡ true)

base_alike : (before after : TypeRef → Bool) (less more : TypeRef → ℕ) → Alike before after less more → (b : Option TypeRef) → base_ends before b ≡ true → (base_of more b ≡ base_of less b) × (base_ends after b ≡ true)
unfolding Alike
base_alike before after less more h None e = (refl, refl)
base_alike before after less more h (Some t) e = h t e

fields_alike : (before after : TypeRef → Bool) (less more : TypeRef → ℕ) → Alike before after less more → (fs : List Field) → fields_end before fs ≡ true → (sum_of (λ f. more f.of) fs ≡ sum_of (λ f. less f.of) fs) × (fields_end after fs ≡ true)
unfolding Alike
fields_alike before after less more h [] e = (refl, refl)
fields_alike before after less more h (f ∷ fs) e =
    let p = both_true (before f.of) (fields_end before fs) e in
    let one = h f.of p.0 in
    let rest = fields_alike before after less more h fs p.1 in
    (ap (λ (n : ℕ). n + sum_of (λ (g : Field). more g.of) fs) one.0 ∙ ap (λ (n : ℕ). less f.of + n) rest.0, and_true (after f.of) (fields_end after fs) one.1 rest.1)

declared_alike : (before after : TypeRef → Bool) (less more : TypeRef → ℕ) → Alike before after less more → (own : Bool) (o : Option Desc) → declared_ends before own o ≡ true → (declared_words more own o ≡ declared_words less own o) × (declared_ends after own o ≡ true)
unfolding Alike
declared_alike before after less more h own None e = (refl, refl)
declared_alike before after less more h own (Some (desc.Const v)) e = (refl, refl)
declared_alike before after less more h own (Some (desc.Var m t)) e = (refl, refl)
declared_alike before after less more h own (Some (desc.Proc s)) e = (refl, refl)
declared_alike before after less more h own (Some (desc.Alias m t)) e = h t e
declared_alike before after less more h own (Some (desc.Array m n t)) e = let r = h t e in (ap (λ (w : ℕ). n * w) r.0, r.1)
declared_alike before after less more h own (Some (desc.OpenArray m t)) e = (refl, refl)
declared_alike before after less more h own (Some (desc.Pointer m t)) e = (refl, refl)
declared_alike before after less more h own (Some (desc.ProcType m s)) e = (refl, refl)
declared_alike before after less more h false (Some (desc.Record r)) e = (refl, refl)
declared_alike before after less more h true (Some (desc.Record r)) e =
    let p = both_true (base_ends before r.base) (fields_end before r.fields) e in
    let b = base_alike before after less more h r.base p.0 in
    let f = fields_alike before after less more h r.fields p.1 in
    (ap (λ (n : ℕ). n + sum_of (λ (g : Field). more g.of) r.fields) b.0 ∙ ap (λ (n : ℕ). base_of less r.base + n) f.0, and_true (base_ends after r.base) (fields_end after r.fields) b.1 f.1)

-- ---- one step more

one_more : (map : QName → Option Desc) (m : Module) (n : ℕ) → Alike (ends_in map m n) (ends_in map m (suc n)) (summed map m n) (summed map m (suc n))
unfolding Alike
one_more map m zero (ref.Basic b) e = (refl, refl)
one_more map m (suc n) (ref.Basic b) e = (refl, refl)
one_more map m zero (ref.Named q) e = absurd cc
one_more map m (suc n) (ref.Named q) e = declared_alike (ends_in map m n) (ends_in map m (suc n)) (summed map m n) (summed map m (suc n)) (one_more map m n) (is_own m q) (viewed map m q) e

sum_stays : (map : QName → Option Desc) (m : Module) (n : ℕ) (t : TypeRef) → ends_in map m n t ≡ true → sum_in map m (suc n) t ≡ sum_in map m n t
unfolding Alike
sum_stays map m n t e =
    let r = one_more map m n t e in
    ap (λ (w : ℕ). let s : Sum = record { words = kept w; ends = ends_in map m (suc n) t } in s) r.0
    ∙ ap (λ (b : Bool). let s : Sum = record { words = kept (summed map m n t); ends = b } in s) (r.1 ∙ sym e)

-- ---- rows

row_stays : (map : QName → Option Desc) (m : Module) (n : ℕ) → all_end (row_at map m n) ≡ true → row_at map m (suc n) ≡ row_at map m n
row_stays map m n e = go m.types e
  where
    go : (ts : List TypedType) → all_end (each (λ t. sum_in map m n (own_ref m.name t.name)) ts) ≡ true → each (λ t. sum_in map m (suc n) (own_ref m.name t.name)) ts ≡ each (λ t. sum_in map m n (own_ref m.name t.name)) ts
    go [] h = refl
    go (t ∷ ts) h =
        let p = both_true (ends_in map m n (own_ref m.name t.name)) (all_end (each (λ (u : TypedType). sum_in map m n (own_ref m.name u.name)) ts)) h in
        ap (λ (s : Sum). s ∷ each (λ (u : TypedType). sum_in map m (suc n) (own_ref m.name u.name)) ts) (sum_stays map m n (own_ref m.name t.name) p.0)
        ∙ ap (λ (l : List Sum). sum_in map m n (own_ref m.name t.name) ∷ l) (go ts p.1)

pub all_stay : (map : QName → Option Desc) (m : Module) (n k : ℕ) → all_end (row_at map m n) ≡ true → row_at map m (n + k) ≡ row_at map m n
all_stay map m n zero e = let z : n + 0 ≡ n = omega arith in ap (row_at map m) z
all_stay map m n (suc k) e =
    let s : n + suc k ≡ suc (n + k) = omega arith in
    let same : row_at map m (n + k) ≡ row_at map m n = all_stay map m n k e in
    ap (row_at map m) s ∙ row_stays map m (n + k) (ap all_end same ∙ e) ∙ same
