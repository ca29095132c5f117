-- Procedures, and sequences of declarations with their statements: their types stand in the order of the text.
use Rattle.std.proofs.Common.{◌≡◌, refl, sym, subst, ℕ, Bool, true, false, List, [], ◌∷◌, ◌++◌, map, Option, Some, None}
use Rattle.std.specs.List.{AllByRecursion, cons_option, filter_map}
use Rattle.ob_tree.specs.declared.names.QName.{QName}
use Rattle.ob_tree.specs.declared.decl.Decl.{Decl, roll-Decl, map-Decl}
use Rattle.ob_tree.specs.declared.decl.Decl.TheOpen.{Decl-F}
use Rattle.ob_tree.specs.declared.decl.Decl.TheFolds.{ind-Decl, fold-roll-Decl}
use Rattle.ob_types.specs.declared.desc.Desc.{Desc}
use Rattle.ob_types.specs.declared.typed.TypedType.{TypedType}
use Rattle.ob_rules.specs.declared.entity.Known.{Known}
use Rattle.ob_rules.specs.Names.{Around, is_out}
use Rattle.ob_rules.specs.Expressions.{phrase_of}
use Rattle.ob_rules.specs.Types.{Parameters, is_module_level, written}
use Rattle.ob_rules.specs.Statements.{Judging, judging}
use Rattle.ob_rules.specs.Headings.{Head, Heads, reversed, types_of}
use Rattle.ob_rules.specs.Declarations.{Part, Written_procedure, Declaration, Plain, Procedure, plain_of, type_name_of, procedure_of, in_order, headings_in_order, around_body, types_of_head, procedure_judged, procedures_judged, with_bound, binding_at, block, decl_rule, declaration}
use Rattle.law_typing.specs.Makes.{IfThere}
use Rattle.law_body_context.specs.Knows.{Grows, Stands, EntityStands}
use Rattle.law_body_context.specs.Order.{IsOver}
use Rattle.law_body_context.proofs.Lists.{all_of}
use Rattle.law_body_context.proofs.Standing.{grows_front, grows_same, all_grown}
use Rattle.law_body_context.proofs.InOrder.{over_all}
use Rattle.law_body_context.proofs.Blocks.{all_reversed}
use Rattle.law_body_context.proofs.Over.{AreSectionsOver, written_over, written_parameters_over}
use Rattle.law_acyclic.proofs.Firm.{AnyValue}
use Rattle.law_builds_written.proofs.based_laws.Order.{AreInText, text_made, text_joined, Text}
use Rattle.law_builds_written.proofs.based_laws.Written.{written_itself}
use Rattle.law_builds_written.proofs.based_laws.Plain.{IsGoing, constant_goes, type_goes, variables_go, order_goes}
use Rattle.law_builds_written.proofs.based_laws.Headings.{HeadIs, headings_are}
use Rattle.law_lists.proofs.Lists.{all_both, append_none}

one_kept : {B : Type 0} (Q : B → Type 0) (o : Option B) (ys : List B) → IfThere Q o → AllByRecursion Q ys → AllByRecursion Q (cons_option o ys)
one_kept Q None ys h k = k
one_kept Q (Some y) ys h k = (h, k)

kept_all : {A B : Type 0} (P : A → Type 0) (Q : B → Type 0) (f : A → Option B) → ((x : A) → P x → IfThere Q (f x)) → (xs : List A) → AllByRecursion P xs → AllByRecursion Q (filter_map f xs)
kept_all P Q f k [] h = tt
kept_all P Q f k (x ∷ xs) h = one_kept Q (f x) (filter_map f xs) (k x h.0) (kept_all P Q f k xs h.1)

module _ (unit : List ℕ) (shown : QName → Option Desc) (out : is_out unit ≡ false) where
  abbrev In : List TypedType → List TypedType → Type 0
  In before ts = AreInText unit shown before ts

  abbrev H : List TypedType → Head → Type 0
  H before h = HeadIs unit shown out before h

  abbrev pub IsBlock : (Around → Part) → Type 0
  IsBlock f = (before : List TypedType) (u : Around) → Text unit shown before u → In before (f u).contents.types

  pub record IsProcedure (p : Written_procedure) : Type 0 where
    pub sections : AreSectionsOver AnyValue unit shown out p.heading.parameters.sections
    pub inside : IsBlock p.inside

  same_types : (o : Option Parameters) → types_of o ≡ types_of_head o
  same_types None = refl
  same_types (Some p) = refl

  head_made : (base before : List TypedType) → Grows base before → (h : Head) → H base h → In before (types_of_head h.parameters)
  head_made base before g h s = text_made unit shown before (types_of_head h.parameters) (subst (AllByRecursion (IsOver (Stands unit shown before))) (same_types h.parameters) (over_all unit shown base before g (types_of h.parameters) s.made))

  -- what stands around a procedure's own declarations
  body_text : (base before : List TypedType) → Grows base before → (u : Around) → u.unit ≡ unit → u.shown ≡ shown → (h : Head) → H base h → Text unit shown before (around_body u h)
  body_text base before g u e f h s = record {
    unit_is = e;
    shown_is = f;
    known = all_grown unit shown AnyValue base before g (h.inside ++ h.known) (all_both (λ (k : Known). EntityStands AnyValue unit shown base k.what) h.inside h.known s.inside s.known);
  }

  one_is : (base before : List TypedType) → Grows base before → (u : Around) → u.unit ≡ unit → u.shown ≡ shown → (p : Written_procedure) → IsProcedure p → (h : Head) → H base h → (forward : Bool) → In before (procedure_judged u p h forward).contents.types
  one_is base before g u e f p i h s true = head_made base before g h s
  one_is base before g u e f p i h s false =
      let ts = types_of_head h.parameters in
      text_joined unit shown before ts (p.inside (around_body u h)).contents.types (head_made base before g h s)
      (i.inside (ts ++ before) (around_body u h) (body_text base (ts ++ before) (λ x k. grows_front ts before x (g x k)) u e f h s))

  pub procedures_are : (base before : List TypedType) → Grows base before → (u : Around) → u.unit ≡ unit → u.shown ≡ shown → (ps : List Written_procedure) → AllByRecursion IsProcedure ps → (hs : List Head) → AllByRecursion (H base) hs → In before (procedures_judged u ps hs).contents.types
  procedures_are base before g u e f [] i hs s = tt
  procedures_are base before g u e f (p ∷ ps) i [] s = tt
  procedures_are base before g u e f (p ∷ ps) i (h ∷ hs) s =
      let a = (procedure_judged u p h p.forward).contents.types in
      text_joined unit shown before a (procedures_judged u ps hs).contents.types (one_is base before g u e f p i.0 h s.0 p.forward)
      (procedures_are base (a ++ before) (λ x k. grows_front a before x (g x k)) u e f ps i.1 hs s.1)

  -- SEQUENCES

  abbrev pub IsGood : Declaration → Type 0
  IsGood (Plain x f) = IsGoing unit shown out f
  IsGood (Procedure p) = IsProcedure p

  abbrev pub AreGood : List Declaration → Type 0
  AreGood ds = AllByRecursion IsGood ds

  plain_good : (d : Declaration) → IsGood d → IfThere (IsGoing unit shown out) (plain_of d)
  plain_good (Plain x f) h = h
  plain_good (Procedure p) h = tt

  procedure_good : (d : Declaration) → IsGood d → IfThere IsProcedure (procedure_of d)
  procedure_good (Plain x f) h = tt
  procedure_good (Procedure p) h = h

  pub block_is : (ds : List Declaration) → AreGood ds → (body : List Judging) → IsBlock (block ds body)
  block_is ds g body before u t =
      let v : Around = record u { later_types = filter_map type_name_of ds } in
      let ps = filter_map procedure_of ds in
      let d = in_order (filter_map plain_of ds) v in
      let a = order_goes unit shown out (filter_map plain_of ds) (kept_all IsGood (IsGoing unit shown out) plain_of plain_good ds g) before v (record { unit_is = t.unit_is; shown_is = t.shown_is; known = t.known }) in
      let first : Heads = record { around = d.around; before = [] } in
      let hs = headings_in_order ps first in
      let i = kept_all IsGood IsProcedure procedure_of procedure_good ds g in
      let base = d.part.contents.types ++ before in
      let s = headings_are unit shown out base ps (all_of IsProcedure (λ (p : Written_procedure). AreSectionsOver AnyValue unit shown out p.heading.parameters.sections) ps (λ p i. i.sections) i) first (record { around = a.around; heads = tt }) in
      let U = with_bound hs.around (binding_at (is_module_level u) hs.around (reversed hs.before)) in
      let Q = procedures_judged U ps (reversed hs.before) in
      text_joined unit shown before d.part.contents.types (Q.contents.types ++ []) a.types
      (subst (In base) (sym (append_none Q.contents.types)) (procedures_are base base (grows_same base) U s.around.unit_is s.around.shown_is ps i (reversed hs.before) (all_reversed (H base) hs.before s.heads)))

  -- BY INDUCTION OVER DECLARATIONS

  abbrev PD : Decl → Type 0
  PD x = IsGood (declaration x)

  abbrev SD : Type 0
  SD = (x : Decl) × PD x

  all_good : (xs : List SD) → AreGood (map declaration (map (λ (x : SD). x.0) xs))
  all_good [] = tt
  all_good (x ∷ xs) = (x.1, all_good xs)

  layer : (x : Decl-F Decl) → IsGood (decl_rule (map-Decl Decl Declaration declaration x)) → PD (roll-Decl x)
  layer x h = subst IsGood (sym (fold-roll-Decl Declaration decl_rule x)) h

  decl_cases : (y : Decl-F SD) → PD (roll-Decl (map-Decl SD Decl (λ x. x.0) y))
  decl_cases (Decl-F.Constant d x) = layer (Decl-F.Constant d x) (constant_goes unit shown out d (phrase_of x))
  decl_cases (Decl-F.NamedType d n) = layer (Decl-F.NamedType d n) (type_goes unit shown out d (written n) (written_over AnyValue unit shown out n) (written_itself n))
  decl_cases (Decl-F.Variables ds n) = layer (Decl-F.Variables ds n) (variables_go unit shown out ds (written n) (written_over AnyValue unit shown out n))
  decl_cases (Decl-F.Procedure h ds body closing) = layer (Decl-F.Procedure h (map (λ (x : SD). x.0) ds) body closing) (record {
    sections = written_parameters_over AnyValue unit shown out h.parameters;
    inside = block_is (map declaration (map (λ (x : SD). x.0) ds)) (all_good ds) (map judging body);
  })
  decl_cases (Decl-F.Forward h) = layer (Decl-F.Forward h) (record { sections = written_parameters_over AnyValue unit shown out h.parameters; inside = λ before u t. tt })

  decl_good : (x : Decl) → PD x
  decl_good = ind-Decl PD (λ x y is. subst (λ z. PD (roll-Decl z)) is (decl_cases y))

  pub decls_good : (xs : List Decl) → AreGood (map declaration xs)
  decls_good [] = tt
  decls_good (x ∷ xs) = (decl_good x, decls_good xs)
