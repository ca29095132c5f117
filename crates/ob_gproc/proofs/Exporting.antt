-- What a module exports, found part by part.
use Rattle.std.specs.Prelude.{Bool, true, false, ◌&&◌, map, if◌then◌else◌}
use Rattle.std.proofs.Common.{◌≡◌, ◌<◌, ◌≤◌, ℕ, suc, ◌+◌, List, [], ◌∷◌, ◌++◌, length, drop, get_or, Option, refl, sym, ap, subst, ◌∙◌, arith, append_assoc, append-nil}
use Rattle.std.proofs.lemmas.List.{drop_more, drop_all}
use Rattle.ob_tree.specs.declared.names.QName.{QName}
use Rattle.ob_types.specs.declared.desc.Desc.{Desc}
use Rattle.ob_types.specs.declared.typed.TypedVariable.{TypedVariable}
use Rattle.ob_types.specs.declared.typed.TypedProcedure.{TypedProcedure}
use Rattle.ob_types.specs.TypedSyntax.{Procedure, Module}
use Rattle.ob_types.specs.TypedView.{procedure_view}
use Rattle.ob_obj.specs.declared.parts.Variable.{Variable}
use Rattle.ob_obj.specs.declared.parts.Command.{Command}
use Rattle.ob_obj.specs.declared.parts.Definition.{Definition}
use Rattle.ob_obj.specs.declared.parts.RecordType.{RecordType}
use Rattle.ob_types.specs.declared.typed.TypedType.{TypedType}
use Rattle.ob_scheme.specs.Lines.{Line}
use Rattle.ob_scheme.specs.Numbers.{nothing_named, instrs_in, positions_at, with_lines}
use Rattle.ob_scheme.specs.Coded.{Coded, nothing_coded, appended}
use Rattle.ob_scheme.specs.Object.{is_seen, is_full, is_free, seen_variables, commands_among, is_bound_to, definitions_among, record_in, records_in}

one_or_none : {A : Type 0} (b : Bool) (x : A) (l : List A) → (if b then x ∷ l else l) ≡ (if b then x ∷ [] else []) ++ l
one_or_none true x l = refl
one_or_none false x l = refl

module _ (types : QName → Option Desc) (m : Module) where
  pub seen_turn : (vs : List TypedVariable) (i : ℕ) (d : TypedVariable) (old new whole : List Variable) → i < length vs → new ≡ old ++ seen_variables types m (get_or vs i d ∷ [])
      → old ++ seen_variables types m (drop i vs) ≡ whole → new ++ seen_variables types m (drop (i + 1) vs) ≡ whole
  seen_turn vs i d old new whole lt h inv =
      let v = get_or vs i d in
      let rest = seen_variables types m (drop (i + 1) vs) in
      ap (λ l. l ++ rest) h ∙ append_assoc old (seen_variables types m (v ∷ [])) rest
      ∙ ap (λ l. old ++ l) (sym (one_or_none (is_seen v.mark) _ rest))
      ∙ ap (λ l. old ++ seen_variables types m l) (sym (drop_more vs i d lt)) ∙ inv

  pub commands_turn : (ps : List TypedProcedure) (i : ℕ) (d : TypedProcedure) (n k : ℕ) (old new whole : List Command) → i < length ps → new ≡ old ++ commands_among types m (procedure_view (get_or ps i d) ∷ []) n → k ≡ n + 1
      → old ++ commands_among types m (map procedure_view (drop i ps)) n ≡ whole → new ++ commands_among types m (map procedure_view (drop (i + 1) ps)) k ≡ whole
  commands_turn ps i d n k old new whole lt h e inv =
      let p = get_or ps i d in
      let one : k ≡ suc n = omega (arith, e) in
      let rest = commands_among types m (map procedure_view (drop (i + 1) ps)) (suc n) in
      ap (λ q. new ++ commands_among types m (map procedure_view (drop (i + 1) ps)) q) one
      ∙ ap (λ l. l ++ rest) h ∙ append_assoc old (commands_among types m (procedure_view p ∷ []) n) rest
      ∙ ap (λ l. old ++ l) (sym (one_or_none (is_full p.mark && is_free p.binding) _ rest))
      ∙ ap (λ l. old ++ commands_among types m (map procedure_view l) n) (sym (drop_more ps i d lt)) ∙ inv

  pub commands_over : (ps : List TypedProcedure) (i n : ℕ) (l whole : List Command) → length ps ≤ i → l ++ commands_among types m (map procedure_view (drop i ps)) n ≡ whole → l ≡ whole
  commands_over ps i n l whole past inv = sym (append-nil l) ∙ ap (λ r. l ++ commands_among types m (map procedure_view r) n) (sym (drop_all i ps past)) ∙ inv

  pub definitions_turn : (x : List ℕ) (ps : List TypedProcedure) (i : ℕ) (d : TypedProcedure) (n k : ℕ) (old new whole : List Definition) → i < length ps → new ≡ old ++ definitions_among types m x (procedure_view (get_or ps i d) ∷ []) n → k ≡ n + 1
      → old ++ definitions_among types m x (map procedure_view (drop i ps)) n ≡ whole → new ++ definitions_among types m x (map procedure_view (drop (i + 1) ps)) k ≡ whole
  definitions_turn x ps i d n k old new whole lt h e inv =
      let p = get_or ps i d in
      let one : k ≡ suc n = omega (arith, e) in
      let rest = definitions_among types m x (map procedure_view (drop (i + 1) ps)) (suc n) in
      ap (λ q. new ++ definitions_among types m x (map procedure_view (drop (i + 1) ps)) q) one
      ∙ ap (λ l. l ++ rest) h ∙ append_assoc old (definitions_among types m x (procedure_view p ∷ []) n) rest
      ∙ ap (λ l. old ++ l) (sym (one_or_none (is_bound_to types m x p.binding) _ rest))
      ∙ ap (λ l. old ++ definitions_among types m x (map procedure_view l) n) (sym (drop_more ps i d lt)) ∙ inv

  pub definitions_over : (x : List ℕ) (ps : List TypedProcedure) (i n : ℕ) (l whole : List Definition) → length ps ≤ i → l ++ definitions_among types m x (map procedure_view (drop i ps)) n ≡ whole → l ≡ whole
  definitions_over x ps i n l whole past inv = sym (append-nil l) ∙ ap (λ r. l ++ definitions_among types m x (map procedure_view r) n) (sym (drop_all i ps past)) ∙ inv

  pub records_turn : (links : List QName) (ts : List TypedType) (i : ℕ) (d : TypedType) (old new whole : List RecordType) → i < length ts → new ≡ old ++ record_in types m links (get_or ts i d).name (get_or ts i d).desc
      → old ++ records_in types m links (drop i ts) ≡ whole → new ++ records_in types m links (drop (i + 1) ts) ≡ whole
  records_turn links ts i d old new whole lt h inv =
      let t = get_or ts i d in
      let rest = records_in types m links (drop (i + 1) ts) in
      ap (λ l. l ++ rest) h ∙ append_assoc old (record_in types m links t.name t.desc) rest
      ∙ ap (λ l. old ++ records_in types m links l) (sym (drop_more ts i d lt)) ∙ inv

-- ---- the parts of the code

pub whole_code : (c : Coded) (words : ℕ) (ls : List Line) → c ≡ appended (nothing_coded words) ls → c ≡ record { instrs = instrs_in (nothing_named words) ls; positions = positions_at 0 ls; named = with_lines (nothing_named words) ls }
unfolding appended
whole_code c words ls h = h
