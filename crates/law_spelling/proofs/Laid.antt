-- What the layout makes of descriptions that have a spelling: places, numbers and words that have one, in their order.
use Rattle.std.proofs.Common.{◌≡◌, ℕ, suc, ◌+◌, ◌<◌, ◌≤◌, List, [], ◌∷◌, length, map, Option, arith}
use Rattle.std.specs.List.{AllByRecursion}
use Rattle.std.specs.List.Sorted.{IsStrictlySortedBy}
use Rattle.std.specs.Ordering.{nat_cmp}
use Rattle.std.specs.Cmp.{IsTotalOrder}
use Rattle.std.specs.declared.cmp.Ordering.TheVariants.{Less}
use Rattle.std.proofs.lemmas.Cmp.{nat_cmp_total, nat_list_cmp_total, on_total, then_total}
use Rattle.ob_tree.specs.declared.names.QName.{QName}
use Rattle.ob_types.specs.declared.types.TypeRef.{TypeRef}
use Rattle.ob_types.specs.declared.desc.Desc.{Desc}
use Rattle.ob_types.specs.declared.desc.Desc.TheVariants as desc
use Rattle.ob_types.specs.declared.desc.Field.{Field}
use Rattle.ob_types.specs.declared.desc.Method.{Method}
use Rattle.ob_types.specs.declared.typed.TypedType.{TypedType}
use Rattle.ob_types.specs.TypedSyntax.{Module}
use Rattle.ob_desc.specs.Grammar.{by_place, by_number}
use Rattle.ob_layout.specs.Words.{most_words}
use Rattle.ob_layout.specs.LaidOut.{base_of, kept, placed, numbered, laid_desc, laid_type}
use Rattle.law_spelling.specs.Trees.{FieldIsSpelled, MethodIsSpelled, TypeIsSpelled, TypedTypeIsSpelled, IsSmall}
use Rattle.law_lists.proofs.Lists.{all_from}

pub places_total : IsTotalOrder by_place
places_total = then_total (on_total (λ f. f.place) nat_cmp_total) (on_total (λ f. f.name) nat_list_cmp_total)

-- ---- names and types stay

placed_spelled : (words : TypeRef → ℕ) (at : ℕ) (fs : List Field) → AllByRecursion FieldIsSpelled fs → AllByRecursion FieldIsSpelled (placed words at fs)
placed_spelled words at [] h = tt
placed_spelled words at (f ∷ fs) h = (h.0, placed_spelled words (at + words f.of) fs h.1)

numbered_spelled : (n : ℕ) (ps : List Method) → AllByRecursion MethodIsSpelled ps → AllByRecursion MethodIsSpelled (numbered n ps)
numbered_spelled n [] h = tt
numbered_spelled n (p ∷ ps) h = (record { name = h.0.name; mark = h.0.mark; signature_is = h.0.signature_is }, numbered_spelled (suc n) ps h.1)

desc_spelled : (words procedures : TypeRef → ℕ) (q : QName) (d : Desc) → TypeIsSpelled d → TypeIsSpelled (laid_desc words procedures q d)
desc_spelled words procedures q (desc.Const v) h = h
desc_spelled words procedures q (desc.Var m t) h = h
desc_spelled words procedures q (desc.Proc s) h = h
desc_spelled words procedures q (desc.Alias m t) h = h
desc_spelled words procedures q (desc.Array m n t) h = h
desc_spelled words procedures q (desc.OpenArray m t) h = h
desc_spelled words procedures q (desc.Pointer m t) h = h
desc_spelled words procedures q (desc.ProcType m s) h = h
desc_spelled words procedures q (desc.Record r) h = record {
  base = h.base;
  fields = placed_spelled words (base_of words r.base) r.fields h.fields;
  methods = numbered_spelled (base_of procedures r.base) r.methods h.methods;
}

pub types_spelled : (types : QName → Option Desc) (m : Module) (ts : List TypedType) → AllByRecursion TypedTypeIsSpelled ts → AllByRecursion TypedTypeIsSpelled (map (laid_type types m) ts)
types_spelled types m [] h = tt
types_spelled types m (t ∷ ts) h = ((h.0.0, desc_spelled _ _ _ t.desc h.0.1), types_spelled types m ts h.1)

-- ---- places, and numbers

pub kept_few : (n : ℕ) → kept n ≤ suc most_words
kept_few n = omega arith

pub placed_few : (words : TypeRef → ℕ) (at : ℕ) (fs : List Field) → AllByRecursion (λ f. f.place ≤ suc most_words) (placed words at fs)
placed_few words at [] = tt
placed_few words at (f ∷ fs) = (kept_few at, placed_few words (at + words f.of) fs)

pub few_small : (n : ℕ) → n ≤ suc most_words → IsSmall n
few_small n h = omega (arith, h)

pub numbers_below : (n : ℕ) (ps : List Method) → AllByRecursion (λ p. p.number < n + length ps) (numbered n ps)
numbers_below n [] = tt
numbers_below n (p ∷ ps) = (omega arith, all_from (λ q. q.number < suc n + length ps) (λ q. q.number < n + suc (length ps)) (λ q l. omega (arith, l)) (numbered (suc n) ps) (numbers_below (suc n) ps))

numbers_from : (n : ℕ) (ps : List Method) → AllByRecursion (λ p. n ≤ p.number) (numbered n ps)
numbers_from n [] = tt
numbers_from n (p ∷ ps) = (omega arith, all_from (λ q. suc n ≤ q.number) (λ q. n ≤ q.number) (λ q l. omega (arith, l)) (numbered (suc n) ps) (numbers_from (suc n) ps))

is_less : (a b : ℕ) → a < b → nat_cmp a b ≡ Less
is_less a b l = grind (arith, l)

pub numbers_rise : (n : ℕ) (ps : List Method) → IsStrictlySortedBy by_number (numbered n ps)
unfolding IsStrictlySortedBy
numbers_rise n [] = tt
numbers_rise n (p ∷ ps) = (all_from (λ q. suc n ≤ q.number) (λ q. nat_cmp n q.number ≡ Less) (λ q l. is_less n q.number (omega (arith, l))) (numbered (suc n) ps) (numbers_from (suc n) ps), numbers_rise (suc n) ps)
