-- The command of a name has the number of its procedure.
use Rattle.std.proofs.Common.{◌≡◌, ℕ, suc, ◌+◌, Bool, true, false, List, [], ◌∷◌, map, Option, Some, None, refl, sym, ap, ◌∙◌, arith}
use Rattle.std.specs.Prelude.{if◌then◌else◌, bytes_eq, ◌&&◌, not, slice_get}
use Rattle.std.specs.List.{AllByRecursion, IsDistinct}
use Rattle.std.proofs.lemmas.Bool.{false≢true}
use Rattle.ob_tree.specs.declared.names.QName.{QName}
use Rattle.ob_types.specs.declared.desc.Desc.{Desc}
use Rattle.ob_types.specs.declared.face.Use.{Use}
use Rattle.ob_obj.specs.declared.parts.Export.{Export}
use Rattle.ob_types.specs.TypedSyntax.{Procedure, Module}
use Rattle.ob_format.specs.Names.{is_identifier}
use Rattle.ob_obj.specs.declared.parts.Command.{Command}
use Rattle.ob_meaning.specs.Values.{procedure_named}
use Rattle.ob_meaning.specs.Commands.{is_hidden, is_command, when_command, command_named}
use Rattle.ob_scheme.specs.Context.{before, procedure_index}
use Rattle.ob_scheme.specs.Procedures.{body_of, all_procedures, rows_of, module_rows}
use Rattle.ob_scheme.specs.Object.{is_full, is_free, commands_among, own, object_file}
use Rattle.ob_link.specs.Files.{command_number, is_plain, command_in}
use Rattle.law_load_plan.specs.Laws.{CommandsAreNumbered}
use Rattle.law_load_plan.proofs.Commands.{plain_procedure, plain_at, rows_plain, StandFrom, one_further, from_start, numbered_by, command_told, order_found, apart_among, distinct_from, first_or}

abbrev AreMarked : List Procedure → Type 0
AreMarked ps = AllByRecursion (λ p. is_full p.mark ≡ not (is_hidden p.mark)) ps

told_parts : (full identifier free plain : Bool) → (full && (identifier && (free && plain))) ≡ true → ((full && free) ≡ true) × (plain ≡ true)
told_parts true true true true e = (refl, refl)
told_parts true true true false e = absurd (false≢true e)
told_parts true true false plain e = absurd (false≢true e)
told_parts true false free plain e = absurd (false≢true e)
told_parts false identifier free plain e = absurd (false≢true e)

is_one : (b : Bool) (p q : Procedure) → (if b then Some p else None) ≡ Some q → b ≡ true
is_one true p q e = refl
is_one false p q e = absurd cc

number_if : (b : Bool) (k : ℕ) → b ≡ true → (if b then Some k else None) ≡ Some k
number_if true k e = refl
number_if false k e = absurd (false≢true e)

-- how many procedures stand before the first of a name
abbrev count_before : List Procedure → List ℕ → ℕ
count_before ps n = before (λ p. p.name) (λ p. 1) ps n

module _ (types : QName → Option Desc) (m : Module) where
  abbrev number_in : List Procedure → Option ℕ → Option ℕ
  number_in all o = numbered_by types m (rows_of types m all 0) o

  here : (all : List Procedure) (k : ℕ) (p q : Procedure) → slice_get all k ≡ Some p → is_full p.mark ≡ not (is_hidden p.mark) → when_command (Some p) ≡ Some q → ((is_full p.mark && is_free p.binding) ≡ true) × (number_in all (Some k) ≡ Some k)
  here all k p q at mark e =
      let c = is_one (is_command p) p q e in
      let t = told_parts (is_full p.mark) (is_identifier p.name) (is_free p.binding) (plain_procedure p) (sym (command_told types m p mark) ∙ c) in
      (t.0, number_if (is_plain (slice_get (rows_of types m all 0) k)) k (rows_plain types m all 0 k ∙ ap plain_at at ∙ t.1))

  abbrev with_command : Bool → Procedure → ℕ → List Command → List Command
  with_command b p k cs = if b then record { name = p.name; procedure = k } ∷ cs else cs

  passed : (b t : Bool) (n : List ℕ) (p : Procedure) (k : ℕ) (cs : List Command) → bytes_eq n p.name ≡ false → command_number n (with_command b p k cs) ≡ command_number n cs
  passed true t n p k cs e = ap (λ x. first_or x k (command_number n cs)) e
  passed false t n p k cs e = refl

  step : (all : List Procedure) (n : List ℕ) (p : Procedure) (k : ℕ) (ps : List Procedure) (q : Procedure) → slice_get all k ≡ Some p → is_full p.mark ≡ not (is_hidden p.mark) → (when_command (procedure_named ps n) ≡ Some q → number_in all (command_number n (commands_among types m ps (suc k))) ≡ Some (suc k + count_before ps n)) → (t : Bool) → bytes_eq n p.name ≡ t → when_command (if t then Some p else procedure_named ps n) ≡ Some q → number_in all (command_number n (with_command (is_full p.mark && is_free p.binding) p k (commands_among types m ps (suc k)))) ≡ Some (k + (if t then 0 else 1 + count_before ps n))
  step all n p k ps q at mark rest true f e =
      let h = here all k p q at mark e in
      ap (λ b. number_in all (command_number n (with_command b p k (commands_among types m ps (suc k))))) h.0
      ∙ ap (λ b. number_in all (first_or b k (command_number n (commands_among types m ps (suc k))))) f
      ∙ h.1 ∙ ap (λ i. Some i) (omega arith)
  step all n p k ps q at mark rest false f e =
      ap (number_in all) (passed (is_full p.mark && is_free p.binding) false n p k (commands_among types m ps (suc k)) f)
      ∙ rest e ∙ ap (λ i. Some i) (omega arith)

  among : (all : List Procedure) (n : List ℕ) (ps : List Procedure) (k : ℕ) (q : Procedure) → StandFrom all k ps → AreMarked ps → when_command (procedure_named ps n) ≡ Some q → number_in all (command_number n (commands_among types m ps k)) ≡ Some (k + count_before ps n)
  among all n [] k q st h e = absurd cc
  among all n (p ∷ ps) k q st h e = step all n p k ps q st.0 h.0 (λ i. among all n ps (suc k) q st.1 h.1 i) (bytes_eq n p.name) refl e

-- so it is by the names and the marks of procedures
pub numbered_by_names : (types : QName → Option Desc) (m : Module) (exports : List Export) (uses : List Use) → IsDistinct bytes_eq (map (λ p. p.name) m.procedures) → AreMarked m.procedures → (x : List ℕ) (p : Procedure) → command_named m x ≡ Some p → command_in (object_file types m exports uses) x ≡ Some (procedure_index (own types m) x)
numbered_by_names types m exports uses names marks x p e =
    ap (numbered_by types m (module_rows types m)) (order_found x (commands_among types m m.procedures 1) (apart_among types m m.procedures 1 (distinct_from m.procedures names)))
    ∙ among types m (all_procedures m) x m.procedures 1 p (one_further (body_of m) m.procedures 0 m.procedures (from_start m.procedures)) marks e
    ∙ ap (λ i. Some i) (omega arith)

pub commands_numbered : CommandsAreNumbered
commands_numbered types m exports uses named x p e = numbered_by_names types m exports uses named.names named.marks x p e
