-- The imports of a module that is read are named by identifiers.
use Rattle.std.proofs.Common.{◌≡◌, ℕ, suc, true, List, [], ◌∷◌, length, Option, Some, None, Result, Ok, Err, refl, sym, ap, subst}
use Rattle.std.specs.Prelude.{map as each}
use Rattle.std.specs.List.{AllByRecursion}
use Rattle.ob_tree.specs.declared.symbol.Symbol.{Symbol}
use Rattle.ob_tree.specs.declared.symbol.Symbol.TheVariants as s
use Rattle.ob_tree.specs.declared.token.Token.{Token}
use Rattle.ob_tree.specs.declared.ident.Ident.{Ident}
use Rattle.ob_tree.specs.declared.ident.Import.{Import}
use Rattle.ob_tree.specs.declared.decl.Module.{Module as Tree}
use Rattle.ob_scan.specs.declared.fault.ScanFault.{ScanFault}
use Rattle.ob_scan.specs.Scanning.{Input, start_of}
use Rattle.ob_parse_grammar.specs.Phrase.{Tokens, Nest, Tree as Nested, Spelling, spells_as, spells_maybe, spells_many}
use Rattle.ob_parse_grammar.specs.Expressions.{next_of, separated, list_of, ident}
use Rattle.ob_parse_grammar.specs.Declarations.{import_item, imports, «module»}
use Rattle.ob_parse_grammar.specs.Reading.{Read, Found, Fails, Wrong, Deep}
use Rattle.ob_parse_grammar.specs.Grammar.{reads, spells}
use Rattle.ob_parse_grammar.proofs.Verdicts.{verdict}
use Rattle.ob_parse_grammar.specs.Depth.{limit}
use Rattle.ob_parse_grammar.specs.Texts.{tokens_of}
use Rattle.ob_parse_grammar.specs.TextReading.{NoModule, fault_of, parsed, by_fault, reading}
use Rattle.ob_compile_model.specs.Compiling.{target_of, imported}
use Rattle.ob_parse_grammar.specs.Identifiers.{is_identifier}
use Rattle.law_session.specs.Named.{AreIdentifiers, ImportsAreNamed}
use Rattle.law_names_procedures.proofs.Tokens.{is_name, tokens_named}
use Rattle.law_names_procedures.proofs.Texts.{AreNamed, left, right}

abbrev IsNamedImport : Import → Type 0
IsNamedImport i = is_identifier (imported i) ≡ true

module _ (S : (n : Nest) → Spelling (Nested n)) where
  ident_named : (i : Ident) (ts : Tokens) → AreNamed ts → spells_as S ident i ts → is_identifier i.name ≡ true
  ident_named i ts all h =
      let t : Token = h.0 in
      let one : AreNamed (t ∷ []) = subst AreNamed h.2.0 all in
      subst (λ (j : Ident). is_identifier j.name ≡ true) h.1 (one.0 (named (sym h.2.1)))
    where
      named : {x : Symbol} → s.Ident ≡ x → is_name (Some x) ≡ true
      named e = subst (λ (x : Symbol). is_name (Some x) ≡ true) e refl

  target_named : (i : Ident) (o : Option Ident) (ts : Tokens) → AreNamed ts → is_identifier i.name ≡ true → spells_maybe (spells_as S (next_of s.Becomes ident)) o ts → is_identifier (target_of o i.name) ≡ true
  target_named i None ts all e h = e
  target_named i (Some j) ts all e h =
      -- the symbol, and the name behind it
      subst (λ (k : Ident). is_identifier k.name ≡ true) h.1 (ident_named h.0.1 h.2.1 (right h.2.0 h.2.1 ts h.2.2 all) h.2.4)

  item_named : (i : Import) (ts : Tokens) → AreNamed ts → spells_as S import_item i ts → IsNamedImport i
  item_named i ts all h =
      subst IsNamedImport h.1
      (target_named h.0.0 h.0.1 h.2.1 (right h.2.0 h.2.1 ts h.2.2 all)
      (ident_named h.0.0 h.2.0 (left h.2.0 h.2.1 ts h.2.2 all) h.2.3) h.2.4)

  many_named : (is : List Import) (ts : Tokens) → AreNamed ts → spells_many (spells_as S (next_of s.Comma import_item)) is ts → AllByRecursion IsNamedImport is
  many_named [] ts all h = tt
  many_named (i ∷ is) ts all h =
      let here : AreNamed h.0 = left h.0 h.1 ts h.2 all in
      let x = h.3 in
      (subst IsNamedImport x.1 (item_named x.0.1 x.2.1 (right x.2.0 x.2.1 h.0 x.2.2 here) x.2.4), many_named is h.1 (right h.0 h.1 ts h.2 all) h.4)

  separated_named : (is : List Import) (ts : Tokens) → AreNamed ts → spells_as S (separated s.Comma import_item) is ts → AllByRecursion IsNamedImport is
  separated_named is ts all h =
      subst (AllByRecursion IsNamedImport) h.1 (
        item_named h.0.0 h.2.0 (left h.2.0 h.2.1 ts h.2.2 all) h.2.3,
        many_named h.0.1 h.2.1 (right h.2.0 h.2.1 ts h.2.2 all) h.2.4,
      )

  imports_named : (is : List Import) (ts : Tokens) → AreNamed ts → spells_as S imports is ts → AllByRecursion IsNamedImport is
  imports_named is ts all h =
      let behind = h.2.4 in
      let rest : AreNamed h.2.1 = right h.2.0 h.2.1 ts h.2.2 all in
      subst (AllByRecursion IsNamedImport) h.1 (separated_named h.0.1.0 behind.0 (left behind.0 behind.1 h.2.1 behind.2 rest) behind.3)

  maybe_named : (o : Option (List Import)) (ts : Tokens) → AreNamed ts → spells_maybe (spells_as S imports) o ts → AllByRecursion IsNamedImport (list_of o)
  maybe_named None ts all h = tt
  maybe_named (Some is) ts all h = imports_named is ts all h

  module_named : (m : Tree) (ts : Tokens) → AreNamed ts → spells_as S «module» m ts → AllByRecursion IsNamedImport m.imports
  module_named m ts all h =
      let one = h.2 in
      let all1 : AreNamed one.1 = right one.0 one.1 ts one.2 all in
      let two = one.4 in
      let all2 : AreNamed two.1 = right two.0 two.1 one.1 two.2 all1 in
      let three = two.4 in
      let all3 : AreNamed three.1 = right three.0 three.1 two.1 three.2 all2 in
      let four = three.4 in
      let all4 : AreNamed four.0 = left four.0 four.1 three.1 four.2 all3 in
      let listed = four.3 in
      subst (AllByRecursion IsNamedImport) (ap (λ (m : Tree). m.imports) h.1) (subst (AllByRecursion IsNamedImport) listed.1 (maybe_named listed.0 four.0 all4 listed.2))

-- ---- a text that is read

abbrev NamedBy : Result Tree NoModule → Type 0
NamedBy (Ok tree) = AllByRecursion IsNamedImport tree.imports
NamedBy (Err f) = Unit {0}

parsed_named : (d : ℕ) (ts : Tokens) (r : Read Tree) → AreNamed ts → reads d «module» ts ≡ r → NamedBy (parsed r)
parsed_named d ts (Found m rest) all e =
    let v = verdict d ts (Found m rest) e in
    module_named (spells d) m v.0 (left v.0 rest ts v.1 all) v.2
parsed_named d ts (Fails Wrong rest) all e = tt
parsed_named d ts (Fails Deep rest) all e = tt

fault_named : (o : Option ScanFault) (i : Input) → NamedBy (by_fault o i)
fault_named (Some f) i = tt
fault_named None i = parsed_named limit (tokens_of i) (reads limit «module» (tokens_of i)) (tokens_named (suc (length i.text)) i) refl

reading_named : (text : List ℕ) → NamedBy (reading text)
unfolding reading
reading_named text = fault_named (fault_of (start_of text)) (start_of text)

mapped : (is : List Import) → AllByRecursion IsNamedImport is → AreIdentifiers (each imported is)
mapped [] all = tt
mapped (i ∷ is) all = (all.0, mapped is all.1)

pub imports_are_named : ImportsAreNamed
imports_are_named text tree e = mapped tree.imports (subst NamedBy e (reading_named text))
