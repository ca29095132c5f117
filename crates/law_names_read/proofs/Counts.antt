-- Sections have no more names than tokens.
use Rattle.std.proofs.Common.{◌≡◌, ℕ, ◌+◌, ◌≤◌, Bool, List, [], ◌∷◌, length, length-append, map, Option, Some, None, refl, ap, ◌∙◌, subst, arith}
use Rattle.ob_tree.specs.declared.symbol.Symbol.{Symbol}
use Rattle.ob_tree.specs.declared.symbol.Symbol.TheVariants as s
use Rattle.ob_tree.specs.declared.ident.Ident.{Ident}
use Rattle.ob_tree.specs.declared.type_node.TypeNode.{TypeNode}
use Rattle.ob_tree.specs.declared.type_node.FieldList.{FieldList}
use Rattle.ob_tree.specs.declared.type_node.FormalPars.{FormalPars}
use Rattle.ob_tree.specs.declared.type_node.Section.{Section, roll-Section}
use Rattle.ob_tree.specs.declared.type_node.TypeNode.TheOpen.{Section-F}
use Rattle.ob_tree.specs.declared.type_node.TypeNode.TheFolds.{fold-roll-Section}
use Rattle.ob_parse_grammar.specs.Phrase.{Tokens, Phrase, maybe, spells_as, spells_many}
use Rattle.ob_parse_grammar.specs.Expressions.{list_of, ident, next_of, separated, optional}
use Rattle.ob_parse_grammar.specs.Types.{section, sections}
use Rattle.ob_layout.specs.Lists.{sum_of}
use Rattle.law_names_distinct.specs.Named.{node_layer, fields_layer, parameters_layer, section_layer, section_named, type_named}
use Rattle.law_names_read.proofs.Phrases.{Any}

-- ---- lists

-- where each has no more than its tokens, all of them have no more than theirs
module _ {A : Type 0} (by : Symbol) (p : Phrase A) (w : A → ℕ) (one : (x : A) (ts : Tokens) → spells_as Any p x ts → w x ≤ length ts) where
  next_count : (x : A) (ts : Tokens) → spells_as Any (next_of by p) x ts → w x ≤ length ts
  next_count x ts h =
      let k = h.2 in
      let n = subst (λ x. w x ≤ length k.1) h.1 (one h.0.1 k.1 k.4) in
      let m = ap length k.2 ∙ length-append k.0 k.1 in
      omega (arith, n, m)

  many_count : (xs : List A) (ts : Tokens) → spells_many (λ x us. spells_as Any (next_of by p) x us) xs ts → sum_of w xs ≤ length ts
  many_count [] ts h = omega arith
  many_count (x ∷ xs) ts h =
      let n = next_count x h.0 h.3 in
      let r = many_count xs h.1 h.4 in
      let m = ap length h.2 ∙ length-append h.0 h.1 in
      omega (arith, n, r, m)

  pub separated_count : (xs : List A) (ts : Tokens) → spells_as Any (separated by p) xs ts → sum_of w xs ≤ length ts
  separated_count xs ts h =
      let k = h.2 in
      let n = one h.0.0 k.0 k.3 in
      let r = many_count h.0.1 k.1 k.4 in
      let m = ap length k.2 ∙ length-append k.0 k.1 in
      subst (λ xs. sum_of w xs ≤ length ts) h.1 (omega (arith, n, r, m))

-- ---- sections

ident_count : (x : Ident) (ts : Tokens) → spells_as Any ident x ts → 1 ≤ length ts
ident_count x ts h = let m = ap length h.2.0 in omega (arith, m)

ones : {A : Type 0} (xs : List A) → sum_of (λ x. 1) xs ≡ length xs
ones [] = refl
ones (x ∷ xs) = let r = ones xs in omega (arith, r)

section_is : (x : Section-F TypeNode FieldList FormalPars Section) → section_named (roll-Section x) ≡ section_layer (record { is_var = x.is_var; names = x.names; node = type_named x.node })
section_is x = fold-roll-Section Bool Bool Bool (Bool × ℕ) node_layer fields_layer parameters_layer section_layer x

section_count : (x : Section) (ts : Tokens) → spells_as Any section x ts → (section_named x).1 ≤ length ts
section_count x ts h =
    let y = h.0 in
    let k = h.2 in
    let names = k.4 in
    let n = separated_count s.Comma ident (λ i. 1) ident_count y.1.0 names.0 names.3 in
    let a = ap length k.2 ∙ length-append k.0 k.1 in
    let b = ap length names.2 ∙ length-append names.0 names.1 in
    let is = ap (λ (x : Bool × ℕ). x.1) (section_is (record { is_var = y.0; names = y.1.0; node = y.1.1.1 })) in
    let c = ones y.1.0 in
    subst (λ (x : Section). (section_named x).1 ≤ length ts) h.1 (omega (arith, n, a, b, is, c))

pub sections_count : (xs : List Section) (ts : Tokens) → spells_as Any (optional sections) xs ts → sum_of (λ (x : Section). (section_named x).1) xs ≤ length ts
sections_count xs ts h = subst (λ xs. sum_of (λ (x : Section). (section_named x).1) xs ≤ length ts) h.1 (go h.0 h.2)
  where
    go : (o : Option (List Section)) → spells_as Any (maybe sections) o ts → sum_of (λ (x : Section). (section_named x).1) (list_of o) ≤ length ts
    go None k = omega arith
    go (Some ys) k = separated_count s.Semicolon section (λ x. (section_named x).1) section_count ys ts k

pub sum_mapped : {A B : Type 0} (f : A → B) (w : B → ℕ) (xs : List A) → sum_of w (map f xs) ≡ sum_of (λ x. w (f x)) xs
sum_mapped f w [] = refl
sum_mapped f w (x ∷ xs) = ap (λ n. w (f x) + n) (sum_mapped f w xs)
