-- Procedures, and sequences of declarations with the procedures among them: all parameters are passed well.
use Rattle.std.proofs.Common.{◌≡◌, ⊎_elim, refl, sym, ◌∙◌, subst, ℕ, Bool, true, false, List, [], ◌∷◌, ◌++◌, map, Option, Some, None}
use Rattle.std.specs.Prelude.{◌&&◌}
use Rattle.std.specs.List.{AllByRecursion, filter_map}
use Rattle.ob_tree.specs.declared.names.QName.{QName}
use Rattle.ob_tree.specs.declared.ident.Ident.{Ident}
use Rattle.ob_tree.specs.declared.type_node.FormalPars.{FormalPars}
use Rattle.ob_tree.specs.declared.decl.Decl.{Decl, roll-Decl, map-Decl}
use Rattle.ob_tree.specs.declared.decl.Decl.TheOpen.{Decl-F}
use Rattle.ob_tree.specs.declared.decl.Decl.TheFolds.{ind-Decl, fold-roll-Decl}
use Rattle.ob_types.specs.declared.types.Mode.{Mode}
use Rattle.ob_types.specs.declared.types.TypeRef.{TypeRef}
use Rattle.ob_types.specs.declared.types.TypeRef.TheVariants as ref
use Rattle.ob_types.specs.declared.desc.Desc.{Desc}
use Rattle.ob_types.specs.declared.desc.Desc.TheVariants as desc
use Rattle.ob_types.specs.declared.desc.Method.{Method}
use Rattle.ob_types.specs.declared.typed.TypedType.{TypedType}
use Rattle.ob_types.specs.declared.typed.TypedVariable.{TypedVariable}
use Rattle.ob_types.specs.declared.typed.TypedParameter.{TypedParameter}
use Rattle.ob_types.specs.declared.typed.TypedProcedure.{TypedProcedure}
use Rattle.ob_types.specs.declared.typed.TypedModule.{TypedModule}
use Rattle.ob_types.specs.Maps.{listed}
use Rattle.ob_rules.specs.declared.entity.Known.{Known}
use Rattle.ob_rules.specs.Shapes.{Map, is_structured, passing_of}
use Rattle.ob_rules.specs.Names.{Around, map_of, is_out}
use Rattle.ob_rules.specs.Expressions.{phrase_of}
use Rattle.ob_rules.specs.Types.{Parameters, WrittenSection, written_parameters, is_module_level}
use Rattle.ob_rules.specs.Statements.{Judging, judging}
use Rattle.ob_rules.specs.Headings.{Head, Heads, BoundAs, self_by, self_parameter, reversed}
use Rattle.ob_rules.specs.Declarations.{Contents, Part, Written_procedure, Declaration, Plain, Procedure, plain_of, procedure_of, type_name_of, in_order, headings_in_order, heads_later, pointers_judged, closing_judged, around_body, self_parameters, typed_procedure, types_of_head, procedure_judged, procedures_judged, with_bound, binding_at, block_headed, block, decl_rule, declaration}
use Rattle.law_typing_forms.specs.Said.{IsOneOf}
use Rattle.law_typing_forms.specs.Formed.{IsDeclared}
use Rattle.law_names_distinct.proofs.Blocks.{headed_none}
use Rattle.law_typing.specs.Spelled.{all_true}
use Rattle.law_typing.specs.Bodies.{stmt_spelled}
use Rattle.law_body_context.specs.Spelled.{parameters_spelled, decl_layer, decl_spelled}
use Rattle.law_body_context.specs.Knows.{Grows, EntityStands}
use Rattle.law_body_context.specs.Judged.{with_methods}
use Rattle.law_body_context.proofs.Lists.{one_left, one_right, one_joined, one_all, all_one, all_of}
use Rattle.law_body_context.proofs.More.{more_same, more_then}
use Rattle.law_body_context.proofs.Standing.{Lies, lies_same, all_grown}
use Rattle.law_body_context.proofs.Binding.{IsFrom, binding_changes}
use Rattle.law_body_context.proofs.Headings.{Aligned, aligned_in_order, types_of_all, IsUnbroken, lies_in_order, types_lie}
use Rattle.law_body_context.proofs.Blocks.{heads_unbroken, types_there, one_reversed}
use Rattle.law_body_context.proofs.Sections.{AreGoodSections}
use Rattle.law_body_context.proofs.Written.{written_parameters_good as parameters_stand}
use Rattle.law_methods_bound.proofs.Blocks.{order_good as order_bound, plains_good as plains_bound, decls_good as decls_bound, AreGood as AreBound}
use Rattle.law_builds_ruled.specs.ruled_laws.Variables.{AliasStands}
use Rattle.law_builds_ruled.proofs.ruled_laws.Shut.{AreGoodSections as AreShutSections}
use Rattle.law_builds_ruled.proofs.ruled_laws.Written.{written_parameters_good as parameters_shut}
use Rattle.law_builds_ruled.proofs.ruled_laws.Plain.{Any, Fine, VariableIn, IsPlain, constants, alias_grown, constant_plain, type_plain, variables_plain, order_plain, later_fine}
use Rattle.law_builds_ruled.proofs.passed_laws.Sections.{S, Fair, GoodSections, node_good, Passed, PlainAt}
use Rattle.law_builds_ruled.proofs.passed_laws.Heads.{HeadIn, GoodHeadings, heads_fair}
use Rattle.law_lists.proofs.Lists.{IfThere, all_both, and_parts, back_empty, front_empty}

-- a module of that name
abbrev only_name : List ℕ → TypedModule
only_name x = record { name = x; imports = []; constants = []; types = []; variables = []; procedures = []; body = []; mentioned = record { objects = []; types = []; lengths = [] } }

alias_more : (unit : List ℕ) (shown : QName → Option Desc) (own : List TypedType) (ms : List Method) (d : Desc) → AliasStands unit shown own d → AliasStands unit shown own (with_methods ms d)
alias_more unit shown own ms (desc.Alias m t) h = h
alias_more unit shown own ms (desc.Record r) h = tt
alias_more unit shown own ms (desc.Const v) h = tt
alias_more unit shown own ms (desc.Var m t) h = tt
alias_more unit shown own ms (desc.Proc s) h = tt
alias_more unit shown own ms (desc.Array m n t) h = tt
alias_more unit shown own ms (desc.OpenArray m t) h = tt
alias_more unit shown own ms (desc.Pointer m t) h = tt
alias_more unit shown own ms (desc.ProcType m s) h = tt

module _ (unit : List ℕ) (shown : QName → Option Desc) (out : is_out unit ≡ false) (all : List TypedType) where
  -- a type that the module makes, perhaps with procedures that are bound to it
  abbrev pub Among : TypedType → Type 0
  Among s = IsFrom Any all s

  abbrev pub raw : (s : TypedType) → IsOneOf all s → Among s
  raw s i = (s, (i, (refl, more_same s.desc s.desc refl)))

  abbrev pub G : Around → Type 0
  G u = Fine unit shown out all Among raw u

  fair : (u : Around) → G u → Fair unit shown out u
  fair u f = record { knows = f.knows; aliases = f.aliases; lies = λ s i. tt }

  pub record PassedIn (x : TypedParameter) : Type 0 where
    pub w : Around
    pub fine : G w
    pub stands : S unit shown out w.own x.of
    pub mode : Mode
    pub is : x.passing ≡ passing_of (map_of w) mode x.of

  pub record PlainIn (t : TypeRef) : Type 0 where
    pub w : Around
    pub fine : G w
    pub stands : S unit shown out w.own t
    pub plain : is_structured (map_of w) t ≡ false

  abbrev pub AreDeclared : List TypedVariable → Type 0
  AreDeclared vs = AllByRecursion (VariableIn unit shown out all Among raw) vs

  pub record ProcedureIn (p : TypedProcedure) : Type 0 where
    pub parameters : AllByRecursion PassedIn p.parameters
    pub result : AllByRecursion PlainIn (listed p.result)
    pub locals : AreDeclared p.locals

  abbrev pub AreIn : List TypedProcedure → Type 0
  AreIn ps = AllByRecursion ProcedureIn ps

  pub declared : (own : List TypedType) (t : TypeRef) → S unit shown out own t → IsDeclared t
  declared own (ref.Basic b) h = tt
  declared own (ref.Named q) h = h.0

  -- ---- one procedure

  module _ (own : List TypedType) (within : (s : TypedType) → IsOneOf own s → Among s) where
    passed_in : (x : TypedParameter) → Passed unit shown out own x → PassedIn x
    passed_in x h = record { w = h.w; fine = record { knows = h.fair.knows; aliases = h.fair.aliases; lies = λ s i. within s (h.within s i) }; stands = h.stands; mode = h.mode; is = h.is }

    self_in : (h : Head) (s : Option Ident) (b : Option BoundAs) → ((x : Ident) → IfThere (λ (b : BoundAs). Passed unit shown out own (self_by x b b.receiver)) b) → AllByRecursion PassedIn (self_parameters h s b)
    self_in h (Some x) (Some b) k = (passed_in (self_parameter x b) (k x), tt)
    self_in h (Some x) None k = tt
    self_in h None b k = tt

    result_in : (o : Option TypeRef) → IfThere (PlainAt unit shown out own) o → AllByRecursion PlainIn (listed o)
    result_in None h = tt
    result_in (Some t) h = (record { w = h.w; fine = record { knows = h.fair.knows; aliases = h.fair.aliases; lies = λ s i. within s (h.within s i) }; stands = h.stands; plain = h.plain }, tt)

    typed_in : (types : Map) (h : Head) → HeadIn unit shown out own h → (o : Option Parameters) → IfThere (λ (p : Parameters). AllByRecursion (Passed unit shown out own) p.parameters × IfThere (PlainAt unit shown out own) p.signature.result) o → (c : Contents) → AreDeclared c.variables → AreIn (typed_procedure types h o c)
    typed_in types h g None k c vs = tt
    typed_in types h g (Some p) k c vs = (
      record {
        parameters = all_both PassedIn (self_parameters h h.self h.bound) p.parameters (self_in h h.self h.bound g.self) (all_of (Passed unit shown out own) PassedIn p.parameters passed_in k.0);
        result = result_in p.signature.result k.1;
        locals = vs;
      },
      tt,
    )

  -- ---- procedures in their order

  -- its procedures, and the variables that it declares
  pub record PartIn (c : Contents) : Type 0 where
    pub procedures : AreIn c.procedures
    pub variables : AreDeclared c.variables

  abbrev pub IsBlock : (Around → Part) → Type 0
  IsBlock f = (u : Around) → G u → (f u).notes.broken ≡ [] → Lies (f u).contents.types all → PartIn (f u).contents

  pub record GoodProcedure (p : Written_procedure) : Type 0 where
    pub heading : GoodSections unit shown out p.heading.parameters.sections
    pub inside : IsBlock p.inside

  abbrev AreGoodProcedures : List Written_procedure → Type 0
  AreGoodProcedures ps = AllByRecursion GoodProcedure ps

  headings : (ps : List Written_procedure) → AreGoodProcedures ps → GoodHeadings unit shown out ps
  headings [] g = tt
  headings (p ∷ ps) g = (g.0.heading, headings ps g.1)

  module _ (own : List TypedType) (within : (s : TypedType) → IsOneOf own s → Among s) (u : Around) (f : G u) (grows : Grows own u.own) where
    body_fine : (h : Head) → HeadIn unit shown out own h → G (around_body u h)
    body_fine h g = record {
      knows = record {
        unit_is = f.knows.unit_is;
        shown_is = f.knows.shown_is;
        own = f.knows.own;
        known = all_both (λ (k : Known). EntityStands Any unit shown u.own k.what) h.inside h.known (all_grown unit shown Any own u.own grows h.inside g.inside) (all_grown unit shown Any own u.own grows h.known g.known);
      };
      aliases = f.aliases;
      lies = f.lies;
    }

    judged_in : (p : Written_procedure) → GoodProcedure p → (h : Head) → HeadIn unit shown out own h → (forward : Bool) → (procedure_judged u p h forward).notes.broken ≡ [] → Lies (procedure_judged u p h forward).contents.types all → AreIn (procedure_judged u p h forward).contents.procedures
    judged_in p g h k true n l = tt
    judged_in p g h k false n l =
        let c = (p.inside (around_body u h)).contents in
        let quiet = back_empty (closing_judged h.name p.closing).broken _ (back_empty h.notes.broken _ n) in
        let r = g.inside (around_body u h) (body_fine h k) quiet (λ t i. l t (one_right (types_of_head h.parameters) c.types t i)) in
        all_both ProcedureIn (typed_procedure (map_of u) h h.parameters c) c.procedures (typed_in own within (map_of u) h k h.parameters k.parameters c r.variables) r.procedures

    procedures_in : (ps : List Written_procedure) → AreGoodProcedures ps → (hs : List Head) → AllByRecursion (HeadIn unit shown out own) hs → (procedures_judged u ps hs).notes.broken ≡ [] → Lies (procedures_judged u ps hs).contents.types all → AreIn (procedures_judged u ps hs).contents.procedures
    procedures_in [] g hs k n l = tt
    procedures_in (p ∷ ps) g [] k n l = tt
    procedures_in (p ∷ ps) g (h ∷ hs) k n l =
        let one = procedure_judged u p h p.forward in
        let rest = procedures_judged u ps hs in
        all_both ProcedureIn one.contents.procedures rest.contents.procedures
        (judged_in p g.0 h k.0 p.forward (front_empty one.notes.broken rest.notes.broken n) (λ t i. l t (one_left one.contents.types rest.contents.types t i)))
        (procedures_in ps g.1 hs k.1 (back_empty one.notes.broken rest.notes.broken n) (λ t i. l t (one_right one.contents.types rest.contents.types t i)))

  -- ---- sequences

  abbrev GoodDeclaration : Declaration → Type 0
  GoodDeclaration (Plain x f) = IsPlain unit shown out all Among raw f
  GoodDeclaration (Procedure p) = GoodProcedure p

  abbrev pub AreGood : List Declaration → Type 0
  AreGood ds = AllByRecursion GoodDeclaration ds

  plains : (ds : List Declaration) → AreGood ds → AllByRecursion (IsPlain unit shown out all Among raw) (filter_map plain_of ds)
  plains [] g = tt
  plains (Plain x f ∷ ds) g = (g.0, plains ds g.1)
  plains (Procedure p ∷ ds) g = plains ds g.1

  procedures : (ds : List Declaration) → AreGood ds → AreGoodProcedures (filter_map procedure_of ds)
  procedures [] g = tt
  procedures (Plain x f ∷ ds) g = procedures ds g.1
  procedures (Procedure p ∷ ds) g = (g.0, procedures ds g.1)

  reversed_all : {A : Type 0} (P : A → Type 0) (xs : List A) → AllByRecursion P xs → AllByRecursion P (reversed xs)
  reversed_all P [] h = tt
  reversed_all P (x ∷ xs) h = all_both P (reversed xs) (x ∷ []) (reversed_all P xs h.1) (h.0, tt)

  pub block_in : (ds : List Declaration) → AreGood ds → AreBound ds → (body : List Judging) → IsBlock (block ds body)
  block_in ds g bound body u f n l =
      let base : Around = record u { later_types = filter_map type_name_of ds } in
      let fs = filter_map plain_of ds in
      let ps = filter_map procedure_of ds in
      let plain = in_order fs base in
      let start : Heads = record { around = plain.around; before = [] } in
      let hs = headings_in_order ps start in
      let heads = reversed hs.before in
      let B = binding_at (is_module_level u) hs.around heads in
      let w = with_bound hs.around B in
      let judged = procedures_judged w ps heads in
      let plain_lie : Lies plain.part.contents.types all = λ t i. l t (one_left plain.part.contents.types _ t i) in
      let judged_lie : Lies judged.contents.types all = λ t i. l t (one_right plain.part.contents.types _ t (one_left judged.contents.types [] t i)) in
      let r = order_plain unit shown out all Among raw fs (plains ds g) base (later_fine unit shown out all Among raw u (filter_map type_name_of ds) f) plain_lie in
      let k = heads_fair unit shown out ps (headings ps (procedures ds g)) start (record { around = fair plain.around r.around; before = tt }) in
      let aligned : Aligned ps heads = (let a = aligned_in_order ps start in subst (Aligned ps) (sym a.is) a.aligned) in
      let headed = back_empty (plain.part.notes.broken ++ (pointers_judged hs.around (plain.part.notes.later ++ heads_later hs.before)).broken) _ n in
      let quiet : judged.notes.broken ≡ [] = front_empty judged.notes.broken _ (back_empty _ (judged.notes.broken ++ _) headed) in
      let unbroken : (x : Head) → IsOneOf hs.before x → IsUnbroken x = λ x i. heads_unbroken Any shown (only_name unit) (record { constants = []; types = []; variables = []; procedures = []; body = []; bound = [] }) out w ps heads aligned quiet x (one_reversed hs.before x i) in
      let makes : Lies (types_of_all hs.before) judged.contents.types = types_lie hs.before judged.contents.types (λ x i. types_there Any shown (only_name unit) (record { constants = []; types = []; variables = []; procedures = []; body = []; bound = [] }) out w ps heads aligned x (one_reversed hs.before x i)) in
      let behind = lies_in_order plain.around.own ps start unbroken (lies_same plain.around.own) in
      let within : (s : TypedType) → IsOneOf hs.around.own s → Among s = λ s i. ⊎_elim (λ j. raw s (judged_lie s (makes s j))) (λ j. r.around.lies s j) (one_joined (types_of_all hs.before) plain.around.own s (behind s i)) in
      let ch = binding_changes Any (is_module_level u) hs.around heads in
      let aliases : AllByRecursion (λ (s : TypedType). AliasStands unit shown B.own s.desc) B.own =
      all_one (λ (s : TypedType). AliasStands unit shown B.own s.desc) B.own
      (λ b i.
      let t = ch.from b i in
      let a = alias_more unit shown hs.around.own t.1.1.1.0 t.0.desc (one_all (λ (s : TypedType). AliasStands unit shown hs.around.own s.desc) hs.around.own t.0 k.around.aliases t.1.0) in
      alias_grown unit shown out all Among raw hs.around.own B.own ch.grows b.desc (subst (AliasStands unit shown hs.around.own) (sym t.1.1.1.1) a)) in
      let fine : G w = record {
        knows = record { unit_is = k.around.knows.unit_is; shown_is = k.around.knows.shown_is; own = ch.described k.around.knows.own; known = all_grown unit shown Any hs.around.own B.own ch.grows hs.around.known k.around.knows.known };
        aliases = aliases;
        lies = λ b i. let t = ch.from b i in let s = within t.0 t.1.0 in (s.0, (s.1.0, (s.1.1.0 ∙ t.1.1.0, more_then s.0.desc t.0.desc b.desc s.1.1.1 t.1.1.1)));
      } in
      record {
        procedures = all_both ProcedureIn plain.part.contents.procedures _ (subst AreIn (sym (order_bound fs (plains_bound ds bound) base).procedures) tt)
            (all_both ProcedureIn judged.contents.procedures [] (procedures_in hs.around.own within w fine ch.grows ps (procedures ds g) heads (reversed_all (HeadIn unit shown out hs.around.own) hs.before k.before) quiet judged_lie) tt);
        variables = all_both (VariableIn unit shown out all Among raw) plain.part.contents.variables (block_headed u plain.part.notes.later ps body hs).contents.variables r.variables (subst AreDeclared (sym (headed_none u plain.part.notes.later ps body hs)) tt);
      }

  -- ---- by induction over declarations

  both_good : (ss : List WrittenSection) → AreGoodSections Any unit shown out ss → AreShutSections ss → GoodSections unit shown out ss
  both_good [] g s = tt
  both_good (x ∷ ss) g s = (node_good unit shown out x.node g.0 s.0, both_good ss g.1 s.1)

  sections_good : (p : FormalPars) → parameters_spelled p ≡ true → GoodSections unit shown out (written_parameters p).sections
  sections_good p e = both_good (written_parameters p).sections (parameters_stand Any unit shown out (constants unit shown out all Among raw) p e) (parameters_shut p)

  abbrev PD : Decl → Type 0
  PD x = decl_spelled x ≡ true → GoodDeclaration (declaration x)

  abbrev SD : Type 0
  SD = (x : Decl) × PD x

  abbrev decls_in : List SD → List Decl
  decls_in xs = map (λ (x : SD). x.0) xs

  all_in : (xs : List SD) → all_true (map decl_spelled (decls_in xs)) ≡ true → AreGood (map declaration (decls_in xs))
  all_in [] e = tt
  all_in (x ∷ xs) e = let p = and_parts (decl_spelled x.0) (all_true (map decl_spelled (decls_in xs))) e in (x.1 p.0, all_in xs p.1)

  layer : (x : Decl-F Decl) → (decl_layer (map-Decl Decl Bool decl_spelled x) ≡ true → GoodDeclaration (decl_rule (map-Decl Decl Declaration declaration x))) → PD (roll-Decl x)
  layer x h e = subst GoodDeclaration (sym (fold-roll-Decl Declaration decl_rule x)) (h (sym (fold-roll-Decl Bool decl_layer x) ∙ e))

  decl_cases : (y : Decl-F SD) → PD (roll-Decl (map-Decl SD Decl (λ x. x.0) y))
  decl_cases (Decl-F.Constant d x) = layer (Decl-F.Constant d x) (λ e. constant_plain unit shown out all Among raw d (phrase_of x))
  decl_cases (Decl-F.NamedType d n) = layer (Decl-F.NamedType d n) (λ e. type_plain unit shown out all Among raw d n e)
  decl_cases (Decl-F.Variables ds n) = layer (Decl-F.Variables ds n) (λ e. variables_plain unit shown out all Among raw ds n e)
  decl_cases (Decl-F.Procedure h ds body closing) = layer (Decl-F.Procedure h (decls_in ds) body closing) (λ e.
      let p = and_parts (parameters_spelled h.parameters) (all_true (map decl_spelled (decls_in ds)) && all_true (map stmt_spelled body)) e in
      let q = and_parts (all_true (map decl_spelled (decls_in ds))) (all_true (map stmt_spelled body)) p.1 in
      record { heading = sections_good h.parameters p.0; inside = block_in (map declaration (decls_in ds)) (all_in ds q.0) (decls_bound (decls_in ds)) (map judging body) })
  decl_cases (Decl-F.Forward h) = layer (Decl-F.Forward h) (λ e. record { heading = sections_good h.parameters e; inside = λ u f n l. record { procedures = tt; variables = tt } })

  decl_good : (x : Decl) → PD x
  decl_good = ind-Decl PD (λ x y is. subst (λ z. PD (roll-Decl z)) is (decl_cases y))

  pub decls_good : (xs : List Decl) → all_true (map decl_spelled xs) ≡ true → AreGood (map declaration xs)
  decls_good [] e = tt
  decls_good (x ∷ xs) e = let p = and_parts (decl_spelled x) (all_true (map decl_spelled xs)) e in (decl_good x p.0, decls_good xs p.1)
