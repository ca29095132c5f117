-- A string whose description's text a file can hold has fewer than 2^31 characters, with the one that ends it.
use Rattle.std.proofs.Common.{◌≡◌, ℕ, suc, ◌*◌, ◌<◌, ◌^◌, List, [], ◌∷◌, ◌++◌, length, refl, arith}
use Rattle.std.specs.Prelude.{codes}
use Rattle.std.proofs.lemmas.List.{length-append}
use Rattle.ob_tree.specs.declared.names.QName.{QName}
use Rattle.ob_types.specs.declared.value.Value.{Value}
use Rattle.ob_types.specs.declared.value.Value.TheVariants as literal
use Rattle.ob_types.specs.declared.desc.Desc.TheVariants as desc
use Rattle.ob_desc.specs.Grammar.{hex_print, value_print, const_text, shape_text, dotted}
use Rattle.law_spelling_stmts.proofs.Setting.{Short}

hex_length : (s : List ℕ) → length (hex_print s) ≡ 2 * length s
hex_length [] = refl
hex_length (c ∷ s) = let h = hex_length s in omega (arith, h)

text_short : (q : QName) (s : List ℕ) → length (shape_text q (desc.Const (literal.Str s))) < 2 ^ 32 → suc (length s) < 2 ^ 31
text_short q s h =
    let h0 = hex_length s in
    let h1 = length-append (hex_print s) (34 ∷ []) in
    let h2 = length-append (codes "STRING") (32 ∷ 34 ∷ hex_print s ++ 34 ∷ []) in
    let h3 = length-append (32 ∷ dotted.print q) (32 ∷ value_print (literal.Str s)) in
    let h4 = length-append (codes "const") (const_text.print (q, literal.Str s)) in
    omega (arith, h, h0, h1, h2, h3, h4)

pub value_short : (q : QName) (v : Value) → length (shape_text q (desc.Const v)) < 2 ^ 32 → Short v
value_short q (literal.Str s) h = text_short q s h
value_short q (literal.Bool b) h = tt
value_short q (literal.Char c) h = tt
value_short q (literal.Int z) h = tt
value_short q (literal.Set n) h = tt
value_short q literal.Nil h = tt
