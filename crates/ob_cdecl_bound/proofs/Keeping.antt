-- Those that name only types that are there.
use Rattle.std.proofs.Common.{◌≡◌, ℕ, zero, suc, ◌+◌, ◌-◌, ◌<◌, ◌≤◌, Bool, true, false, List, [], ◌∷◌, length, Option, refl, sym, ap, ◌∙◌, arith}
use Rattle.std.specs.Prelude.{bytes_eq, not}
use Rattle.std.specs.List.{list_any}
use Rattle.ob_tree.specs.declared.names.QName.{QName}
use Rattle.ob_types.specs.declared.desc.Desc.{Desc}
use Rattle.ob_types.specs.declared.types.TypeRef.TheVariants as ref
use Rattle.ob_types.specs.declared.typed.TypedType.{TypedType}
use Rattle.ob_rules.specs.Shapes.{Map, same_name}
use Rattle.ob_rules.specs.Names.{Around, map_of, type_desc, out_string}
use Rattle.ob_rules.specs.Depth.{kept, kept_of, keep_if, kept_within, names_held, is_deep, deep_among, is_within}
use Rattle.ob_cdecl_scopes.specs.Scopes.{at_start}

kept_shorter : (test : TypedType → Bool) (ts : List TypedType) → length (kept_of test ts) ≤ length ts
kept_shorter test [] = omega arith
kept_shorter test (t ∷ ts) = go (test t) (kept_shorter test ts)
  where
    go : (b : Bool) → length (kept_of test ts) ≤ length ts → length (keep_if b t (kept_of test ts)) ≤ length (t ∷ ts)
    go true r = omega (arith, r)
    go false r = omega (arith, r)

kept_same : (test : TypedType → Bool) (ts : List TypedType) → length (kept_of test ts) ≡ length ts → kept_of test ts ≡ ts
kept_same test [] e = refl
kept_same test (t ∷ ts) e = go (test t) (kept_same test ts) (kept_shorter test ts) e
  where
    go : (b : Bool) → (length (kept_of test ts) ≡ length ts → kept_of test ts ≡ ts) → length (kept_of test ts) ≤ length ts → length (keep_if b t (kept_of test ts)) ≡ length (t ∷ ts) → keep_if b t (kept_of test ts) ≡ t ∷ ts
    go true r s f = ap (λ l. t ∷ l) (r (omega (arith, f)))
    go false r s f = absurd (omega (arith, s, f))

all_kept : (u : Around) (n : ℕ) (ts : List TypedType) → kept_of (names_held (map_of (record u { own = ts }))) ts ≡ ts → kept_within u n ts ≡ ts
all_kept u zero ts e = refl
all_kept u (suc n) ts e = ap (kept_within u n) e ∙ all_kept u n ts e

-- no more goes
pub rounds_end : (u : Around) (n : ℕ) (ts next total : List TypedType) → next ≡ kept_of (names_held (map_of (record u { own = ts }))) ts → length next ≡ length ts → kept_within u n ts ≡ total → next ≡ total
rounds_end u n ts next total is same inv =
    let fixed = kept_same (names_held (map_of (record u { own = ts }))) ts (ap length (sym is) ∙ same) in
    is ∙ fixed ∙ sym (all_kept u n ts fixed) ∙ inv

pub round_more : (u : Around) (n i : ℕ) (ts next total : List TypedType) → i < n → next ≡ kept_of (names_held (map_of (record u { own = ts }))) ts → kept_within u (n - i) ts ≡ total → kept_within u (n - (i + 1)) next ≡ total
round_more u n i ts next total lt is inv =
    let down : n - i ≡ suc (n - (i + 1)) = omega arith in
    ap (kept_within u (n - (i + 1))) is ∙ ap (λ k. kept_within u k ts) (sym down) ∙ inv

pub rounds_over : (u : Around) (n i : ℕ) (ts total : List TypedType) → n ≤ i → kept_within u (n - i) ts ≡ total → ts ≡ total
rounds_over u n i ts total le inv = let none : n - i ≡ 0 = omega arith in ap (λ k. kept_within u k ts) (sym none) ∙ inv

-- WHERE THE UNIT, THE IMPORTS AND THE TYPES ARE THESE

same_desc : (u : Around) (unit : List ℕ) (shown : QName → Option Desc) (ts : List TypedType) (q : QName) (a b : Bool) → type_desc a b (record (at_start unit shown) { own = ts }) q ≡ type_desc a b (record u { unit = unit; shown = shown; own = ts }) q
same_desc u unit shown ts q true b = refl
same_desc u unit shown ts q false true = refl
same_desc u unit shown ts q false false = refl

same_map : (u : Around) (unit : List ℕ) (shown : QName → Option Desc) (ts : List TypedType) → map_of (record (at_start unit shown) { own = ts }) ≡ map_of (record u { unit = unit; shown = shown; own = ts })
same_map u unit shown ts = λ i. λ q. same_desc u unit shown ts q (bytes_eq q.«module» unit) (same_name q out_string) i

same_within : (u : Around) (unit : List ℕ) (shown : QName → Option Desc) (own : List TypedType) (n : ℕ) (ts : List TypedType) → kept_within (record (at_start unit shown) { own = own }) n ts ≡ kept_within (record u { unit = unit; shown = shown; own = own }) n ts
same_within u unit shown own zero ts = refl
same_within u unit shown own (suc n) ts =
    let v : Around = record u { unit = unit; shown = shown; own = own } in
    ap (λ m. kept_within (record (at_start unit shown) { own = own }) n (kept_of (names_held m) ts)) (same_map u unit shown ts)
    ∙ same_within u unit shown own n (kept_of (names_held (map_of (record v { own = ts }))) ts)

deep_in : Map → ℕ → List ℕ → List TypedType → Bool
deep_in m n unit ts = list_any (λ t. not (is_within m n (ref.Named (record { «module» = unit; object = t.name })))) ts

deep_among_in : (u : Around) (ts : List TypedType) → deep_among u ts ≡ deep_in (map_of (record u { own = ts })) 200 u.unit ts
unfolding deep_in
deep_among_in u ts = refl

same_deep : (u : Around) (unit : List ℕ) (shown : QName → Option Desc) (own : List TypedType) → is_deep (record (at_start unit shown) { own = own }) ≡ is_deep (record u { unit = unit; shown = shown; own = own })
same_deep u unit shown own =
    let a : Around = record (at_start unit shown) { own = own } in
    let b : Around = record u { unit = unit; shown = shown; own = own } in
    let ks = kept b in
    ap (deep_among a) (same_within u unit shown own (length own) own)
    ∙ deep_among_in a ks ∙ ap (λ m. deep_in m 200 unit ks) (same_map u unit shown ks) ∙ sym (deep_among_in b ks)

pub deep_around : (u : Around) (unit : List ℕ) (shown : QName → Option Desc) (own : List TypedType) → u.unit ≡ unit → u.shown ≡ shown → u.own ≡ own → is_deep (record (at_start unit shown) { own = own }) ≡ is_deep u
deep_around u unit shown own e f g =
    same_deep u unit shown own ∙ ap (λ x. is_deep (record u { unit = x; shown = shown; own = own })) (sym e) ∙ ap (λ x. is_deep (record u { unit = u.unit; shown = x; own = own })) (sym f) ∙ ap (λ x. is_deep (record u { unit = u.unit; shown = u.shown; own = x })) (sym g)

-- the answer of those that are kept
pub deep_kept : (unit : List ℕ) (shown : QName → Option Desc) (own all s r : List TypedType) (a : Around) (deep : Bool) → a ≡ record (at_start unit shown) { own = s } → s ≡ all → r ≡ all → all ≡ kept (record (at_start unit shown) { own = own }) → deep ≡ list_any (λ t. not (is_within (map_of a) 200 (ref.Named (record { «module» = unit; object = t.name })))) r → deep ≡ is_deep (record (at_start unit shown) { own = own })
unfolding deep_in
deep_kept unit shown own all s r a deep e f g h d =
    let v : Around = record (at_start unit shown) { own = own } in
    let M : List TypedType → Map = λ l. map_of (record v { own = l }) in
    d ∙ ap (λ x. deep_in (map_of x) 200 unit r) e ∙ ap (λ l. deep_in (M l) 200 unit r) (f ∙ h) ∙ ap (deep_in (M (kept v)) 200 unit) (g ∙ h) ∙ sym (deep_among_in v (kept v))
