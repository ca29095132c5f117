-- How long the chains are, one type after the other.
use Rattle.std.proofs.Common.{◌≡◌, ℕ, zero, suc, ◌+◌, ◌-◌, ◌≤◌, Bool, true, false, List, ◌∷◌, Some, refl, sym, ap, subst, ◌∙◌, cond, arith}
use Rattle.std.specs.Prelude.{◌&&◌, nat_le, nat_lt, bytes_eq, if◌then◌else◌}
use Rattle.std.specs.List.{find, list_all}
use Rattle.std.specs.Option.{option_map}
use Rattle.std.proofs.lemmas.Bool.Decides.{nat_tests}
use Rattle.std.proofs.lemmas.Slice.Eq.{bytes_eq-Decides}
use Rattle.ob_tree.specs.declared.names.QName.{QName}
use Rattle.ob_types.specs.declared.types.TypeRef.{TypeRef}
use Rattle.ob_types.specs.declared.types.TypeRef.TheVariants as ref
use Rattle.ob_types.specs.declared.desc.Desc.{Desc}
use Rattle.ob_types.specs.Maps.{stands_on}
use Rattle.ob_rules.specs.Shapes.{Map}
use Rattle.ob_rules.specs.Depth.{is_within, chain_of}
use Rattle.ob_cdecl_heading.specs.Keys.{key}
use Rattle.ob_cdecl_heading.proofs.KeyLaws.{keys_same}
use Rattle.ob_cdecl_bound.specs.declared.depth.Height.{Height}
use Rattle.ob_cdecl_bound.specs.Heights.{HasHeight, HaveHeight, HeightOf, AreHeights, greater_of}

both_true : (a b : Bool) → a && b ≡ true → (a ≡ true) × (b ≡ true)
both_true true true e = (refl, refl)
both_true true false e = absurd cc
both_true false b e = absurd cc

none_above : (h : ℕ) → false ≡ nat_le (h + 1) 0
none_above h = grind (arith, nat_tests)

one_more : (h n : ℕ) → nat_le h n ≡ nat_le (h + 1) (suc n)
one_more h n = grind (arith, nat_tests)

pub named_more : (types : Map) (q : QName) (d : Desc) (left : ℕ) → types q ≡ Some d → list_all (λ t. is_within types (left - 1) t) (stands_on d) ≡ false → is_within types left (ref.Named q) ≡ false
named_more types q d zero e f = refl
named_more types q d (suc n) e f =
    let down : suc n - 1 ≡ n = omega arith in
    ap (chain_of (λ t. is_within types n t)) e ∙ ap (λ k. list_all (λ t. is_within types k t) (stands_on d)) (sym down) ∙ f

pub named_has : (types : Map) (q : QName) (d : Desc) (h : ℕ) → types q ≡ Some d → HaveHeight types (stands_on d) h → HasHeight types (ref.Named q) (h + 1)
named_has types q d h e f zero = none_above h
named_has types q d h e f (suc n) = ap (chain_of (λ t. is_within types n t)) e ∙ f n ∙ one_more h n

-- the name of that key
pub key_is : (p q : QName) → bytes_eq (key p.«module» p.object) (key q.«module» q.object) ≡ true → p ≡ q
key_is p q e =
    let h = both_true (bytes_eq p.object q.object) (bytes_eq q.«module» p.«module») (sym (keys_same p.«module» q.«module» p.object q.object) ∙ e) in
    let o : p.object ≡ q.object = (bytes_eq-Decides p.object q.object).0 h.0 in
    let m : q.«module» ≡ p.«module» = (bytes_eq-Decides q.«module» p.«module»).0 h.1 in
    ap (λ x. record { «module» = x; object = p.object }) (sym m) ∙ ap (λ x. record { «module» = q.«module»; object = x }) o

pub heights_added : (types : Map) (hs : List Height) (e : Height) (p : QName) → AreHeights types hs → e.key ≡ key p.«module» p.object → HasHeight types (ref.Named p) e.height → AreHeights types (e ∷ hs)
heights_added types hs e p all k f q = go (bytes_eq e.key (key q.«module» q.object)) refl
  where
    go : (b : Bool) → bytes_eq e.key (key q.«module» q.object) ≡ b → HeightOf types q (option_map (λ h. h.height) (cond b (Some e) (find (λ h. bytes_eq h.key (key q.«module» q.object)) hs)))
    go true g = subst (λ x. HasHeight types (ref.Named x) e.height) (key_is p q (ap (λ x. bytes_eq x (key q.«module» q.object)) (sym k) ∙ g)) f
    go false g = all q

-- THE GREATEST

and_split : (a b c n : ℕ) (x : Bool) → nat_le (greater_of a b) n && x ≡ nat_le a n && (nat_le b n && x)
and_split a b c n x = go (nat_lt a b) refl (nat_le a n) (nat_le b n) refl refl
  where
    go : (l : Bool) → nat_lt a b ≡ l → (p q : Bool) → nat_le a n ≡ p → nat_le b n ≡ q → nat_le (if l then b else a) n && x ≡ p && (q && x)
    go true e true q f g = ap (λ y. y && x) g
    go true e false true f g = absurd (lower e f g)
      where
        lower : nat_lt a b ≡ true → nat_le a n ≡ false → nat_le b n ≡ true → ⊥
        lower i j k = grind (arith, nat_tests)
    go true e false false f g = ap (λ y. y && x) g
    go false e false q f g = ap (λ y. y && x) f
    go false e true true f g = ap (λ y. y && x) f
    go false e true false f g = absurd (lower e f g)
      where
        lower : nat_lt a b ≡ false → nat_le a n ≡ true → nat_le b n ≡ false → ⊥
        lower i j k = grind (arith, nat_tests)

pub greater_within : (a b n : ℕ) → a ≤ n → b ≤ n → greater_of a b ≤ n
greater_within a b n e f = go (nat_lt a b)
  where
    go : (l : Bool) → (if l then b else a) ≤ n
    go true = f
    go false = e

pub more_heights : (types : Map) (part : TypeRef) (more all total : List TypeRef) (most h : ℕ) → all ≡ part ∷ more → HasHeight types part h → ((n : ℕ) → list_all (λ t. is_within types n t) total ≡ nat_le most n && list_all (λ t. is_within types n t) all) → (n : ℕ) → list_all (λ t. is_within types n t) total ≡ nat_le (greater_of most h) n && list_all (λ t. is_within types n t) more
more_heights types part more all total most h step f inv n =
    let rest = list_all (λ t. is_within types n t) more in
    inv n ∙ ap (λ l. nat_le most n && list_all (λ t. is_within types n t) l) step ∙ ap (λ b. nat_le most n && (b && rest)) (f n) ∙ sym (and_split most h h n rest)
