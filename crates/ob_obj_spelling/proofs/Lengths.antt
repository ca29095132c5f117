-- How long the text of a procedure may be.
use Rattle.std.proofs.Common.{◌≡◌, ℕ, zero, suc, ◌+◌, ◌*◌, ◌<◌, ◌≤◌, ◌^◌, List, [], ◌∷◌, ◌++◌, length, drop, Option, Some, None, refl, ap, ◌∙◌, length-append, arith}
use Rattle.std.specs.Prelude.{codes}
use Rattle.std.specs.List.{AllByRecursion, flat_map}
use Rattle.ob_tree.specs.declared.names.QName.{QName}
use Rattle.ob_types.specs.declared.types.Mode.{Mode}
use Rattle.ob_types.specs.declared.types.Basic.{Basic}
use Rattle.ob_types.specs.declared.types.Basic.TheVariants as basic
use Rattle.ob_types.specs.declared.types.TypeRef.{TypeRef}
use Rattle.ob_types.specs.declared.types.TypeRef.TheVariants as ref
use Rattle.ob_types.specs.declared.types.Signature.{Signature}
use Rattle.ob_types.specs.declared.desc.Desc.TheVariants as desc
use Rattle.ob_desc.specs.Grammar.{shape_text, type_print, base_print, param, params_print}

pub basic_short : (b : Basic) → length (type_print (ref.Basic b)) ≤ 131071
basic_short basic.Boolean = let l : length (codes "BOOLEAN") ≡ 7 = refl in omega (arith, l)
basic_short basic.Char = let l : length (codes "CHAR") ≡ 4 = refl in omega (arith, l)
basic_short basic.ShortInt = let l : length (codes "SHORTINT") ≡ 8 = refl in omega (arith, l)
basic_short basic.Integer = let l : length (codes "INTEGER") ≡ 7 = refl in omega (arith, l)
basic_short basic.LongInt = let l : length (codes "LONGINT") ≡ 7 = refl in omega (arith, l)
basic_short basic.Set = let l : length (codes "SET") ≡ 3 = refl in omega (arith, l)

pub no_base_short : length (base_print None) ≤ 131071
no_base_short = let l : length (codes "NONE") ≡ 4 = refl in omega (arith, l)

pub named_short : (q : QName) → length q.«module» ≤ 65535 → length q.object ≤ 65535 → length (type_print (ref.Named q)) ≤ 131071
named_short q m o = let l : length (q.«module» ++ 46 ∷ q.object) ≡ length q.«module» + suc (length q.object) = length-append q.«module» (46 ∷ q.object) in omega (arith, l, m, o)

-- each with a comma and its mode
listed_short : (ps : List (Mode × TypeRef)) → AllByRecursion (λ p. length (type_print p.1) ≤ 131071) ps → length (flat_map (λ p. 44 ∷ param.print p) ps) ≤ length ps * 131073
listed_short [] all = omega arith
listed_short (p ∷ ps) all =
    let l : length ((44 ∷ param.print p) ++ flat_map (λ q. 44 ∷ param.print q) ps) ≡ length (44 ∷ param.print p) + length (flat_map (λ q. 44 ∷ param.print q) ps) = length-append (44 ∷ param.print p) (flat_map (λ q. 44 ∷ param.print q) ps) in
    let rest = listed_short ps all.1 in
    let one : length (type_print p.1) ≤ 131071 = all.0 in
    omega (arith, l, rest, one)

behind_first : (l : List ℕ) → length (drop 1 l) ≤ length l
behind_first [] = omega arith
behind_first (x ∷ l) = omega arith

pub params_short : (ps : List (Mode × TypeRef)) → length ps ≤ 16384 → AllByRecursion (λ p. length (type_print p.1) ≤ 131071) ps → length (params_print ps) ≤ 16384 * 131073
params_short ps few all =
    let l = listed_short ps all in
    let d = behind_first (flat_map (λ p. 44 ∷ param.print p) ps) in
    omega (arith, l, d, few)

pub procedure_short : (q : QName) (s : Signature) → length q.«module» ≤ 65535 → length q.object ≤ 65535 → length (params_print s.params) ≤ 16384 * 131073 → length (base_print s.result) ≤ 131071 → length (shape_text q (desc.Proc s)) < 2 ^ 32
procedure_short q s m o ps b =
    let r : length (params_print s.params ++ 41 ∷ base_print s.result) ≡ length (params_print s.params) + suc (length (base_print s.result)) = length-append (params_print s.params) (41 ∷ base_print s.result) in
    let n : length (q.«module» ++ 46 ∷ q.object) ≡ length q.«module» + suc (length q.object) = length-append q.«module» (46 ∷ q.object) in
    let a : length ((q.«module» ++ 46 ∷ q.object) ++ 32 ∷ 40 ∷ (params_print s.params ++ 41 ∷ base_print s.result)) ≡ length (q.«module» ++ 46 ∷ q.object) + suc (suc (length (params_print s.params ++ 41 ∷ base_print s.result))) = length-append (q.«module» ++ 46 ∷ q.object) (32 ∷ 40 ∷ (params_print s.params ++ 41 ∷ base_print s.result)) in
    let t : shape_text q (desc.Proc s) ≡ codes "proc" ++ 32 ∷ ((q.«module» ++ 46 ∷ q.object) ++ 32 ∷ 40 ∷ (params_print s.params ++ 41 ∷ base_print s.result)) = refl in
    let c : length (codes "proc" ++ 32 ∷ ((q.«module» ++ 46 ∷ q.object) ++ 32 ∷ 40 ∷ (params_print s.params ++ 41 ∷ base_print s.result))) ≡ length (codes "proc") + suc (length ((q.«module» ++ 46 ∷ q.object) ++ 32 ∷ 40 ∷ (params_print s.params ++ 41 ∷ base_print s.result))) = length-append (codes "proc") (32 ∷ ((q.«module» ++ 46 ∷ q.object) ++ 32 ∷ 40 ∷ (params_print s.params ++ 41 ∷ base_print s.result))) in
    let k : length (codes "proc") ≡ 4 = refl in
    let whole = ap (λ (l : List ℕ). length l) t in
    omega (arith, r, n, a, c, k, whole, m, o, ps, b)
