-- Sequences of declarations and the procedures among them: names are those of the text, and so are the places of FOR and CASE in bodies.
use Rattle.std.proofs.Common.{◌≡◌, refl, sym, ap, ◌∙◌, subst, Bool, true, false, List, [], ◌∷◌, ◌++◌, map, Option, Some, None}
use Rattle.std.specs.Prelude.{◌&&◌, codes}
use Rattle.std.specs.List.{AllByRecursion, filter_map, list_all}
use Rattle.ob_tree.specs.declared.ident.Ident.{Ident}
use Rattle.ob_tree.specs.declared.ident.IdentDef.{IdentDef}
use Rattle.ob_tree.specs.declared.ident.Import.{Import}
use Rattle.ob_tree.specs.declared.ident.Mark.{Mark}
use Rattle.ob_tree.specs.declared.ident.Mark.TheVariants as mark
use Rattle.ob_tree.specs.declared.stmt.Stmt.{Stmt}
use Rattle.ob_tree.specs.declared.decl.Receiver.{Receiver as RawReceiver}
use Rattle.ob_tree.specs.declared.decl.Heading.{Heading}
use Rattle.ob_tree.specs.declared.decl.Decl.{Decl, roll-Decl, map-Decl}
use Rattle.ob_tree.specs.declared.decl.Decl.TheOpen.{Decl-F}
use Rattle.ob_tree.specs.declared.decl.Decl.TheFolds.{ind-Decl, fold-roll-Decl}
use Rattle.ob_types.specs.declared.value.Value.{Value}
use Rattle.ob_types.specs.declared.typed.TypedStmt.{TypedStmt}
use Rattle.ob_types.specs.declared.typed.TypedVariable.{TypedVariable}
use Rattle.ob_types.specs.declared.typed.TypedParameter.{TypedParameter}
use Rattle.ob_rules.specs.Judged.{Judged, both, ◌▷◌}
use Rattle.ob_rules.specs.Shapes.{Map}
use Rattle.ob_rules.specs.Names.{Around, map_of}
use Rattle.ob_rules.specs.Expressions.{phrase_of, constant_value}
use Rattle.ob_rules.specs.Phrases.{Phrase}
use Rattle.ob_rules.specs.Types.{Typing, Written, WrittenSection, Parameters, written, is_module_level, marked, with_types}
use Rattle.ob_rules.specs.Statements.{judging, in_turn}
use Rattle.ob_rules.specs.Headings.{heading_of, Head, Heads, reversed, add_heading}
use Rattle.ob_rules.specs.Declarations.{Contents, Declared, no_nil, constant_contents, constant_declared, type_declared, variable_contents, paired_typing, variable_marked, variables_with, first_name, made_in, variables_typed, variables_declared, Written_procedure, Declaration, Plain, Procedure, plain_of, procedure_of, type_name_of, in_order, headings_in_order, around_body, self_parameters, typed_procedure, procedure_judged, procedures_judged, stmts_in, with_bound, binding_at, block_headed, block, decl_rule, declaration, target_of, import_declared}
use Rattle.law_names_distinct.proofs.Blocks.{headed_none}
use Rattle.law_typing.specs.Spelled.{all_true}
use Rattle.law_spelling_read.specs.Placed as rising
use Rattle.law_spelling_read.specs.Placed.{are_rising, places_of, decl_placed}
use Rattle.law_builds_bodies.specs.built_laws.Lettered.{is_lettered, receiver_lettered, section_lettered, heading_lettered, decl_layer, decl_lettered}
use Rattle.law_builds_bodies.specs.built_laws.Procedures.{IsPlaced, IsGiven}
use Rattle.law_builds_bodies.proofs.built_laws.Heads.{Lettered, AreLettered, GoodHeading, GoodHead, added_good, self_good}
use Rattle.law_builds_bodies.proofs.built_laws.Places.{places_are_those}
use Rattle.law_lists.proofs.Lists.{IfThere, all_both, and_parts, both_empty}

-- ---- bodies

pub body_placed : (xs : List Stmt) → are_rising (places_of xs) ≡ true → (u : Around) → IsPlaced (stmts_in (in_turn (map judging xs) u).node)
body_placed xs r u = by (in_turn (map judging xs) u).node refl
  where
    by : (o : Option (List TypedStmt)) → (in_turn (map judging xs) u).node ≡ o → IsPlaced (stmts_in o)
    by None e = refl
    by (Some ys) e = ap are_rising (places_are_those xs u ys e) ∙ r

-- ---- what a part adds

abbrev AreNames : List TypedVariable → Type 0
AreNames vs = AllByRecursion (λ (v : TypedVariable). Lettered v.name) vs

pub record PartIs (c : Contents) : Type 0 where
  pub variables : AreNames c.variables
  pub procedures : AllByRecursion IsGiven c.procedures
  pub body : IsPlaced c.body

-- a declaration that is no procedure
pub record PlainIs (c : Contents) : Type 0 where
  pub variables : AreNames c.variables
  pub procedures : c.procedures ≡ []
  pub body : c.body ≡ []

pub record GoodProcedure (p : Written_procedure) : Type 0 where
  pub heading : GoodHeading p.heading
  pub inside : (u : Around) → PartIs (p.inside u).contents

abbrev AreGoodProcedures : List Written_procedure → Type 0
AreGoodProcedures ps = AllByRecursion GoodProcedure ps

-- ---- procedures

headings_good : (ps : List Written_procedure) → AreGoodProcedures ps → (hs : Heads) → AllByRecursion GoodHead hs.before → AllByRecursion GoodHead (headings_in_order ps hs).before
headings_good [] g hs k = k
headings_good (p ∷ ps) g hs k = headings_good ps g.1 (add_heading hs p.heading p.forward) (added_good hs k p.heading p.forward g.0.heading)

parameters_map : (ps : List TypedParameter) → AreLettered ps → AllByRecursion Lettered (map (λ (x : TypedParameter). x.name) ps)
parameters_map [] h = tt
parameters_map (p ∷ ps) h = (h.0, parameters_map ps h.1)

variables_map : (vs : List TypedVariable) → AreNames vs → AllByRecursion Lettered (map (λ (v : TypedVariable). v.name) vs)
variables_map [] h = tt
variables_map (v ∷ vs) h = (h.0, variables_map vs h.1)

typed_given : (types : Map) (h : Head) → GoodHead h → (o : Option Parameters) → IfThere (λ (p : Parameters). AreLettered p.parameters) o → (c : Contents) → PartIs c → AllByRecursion IsGiven (typed_procedure types h o c)
typed_given types h g None k c is = tt
typed_given types h g (Some p) k c is =
    let all : AreLettered (self_parameters h h.self h.bound ++ p.parameters) = all_both (λ (x : TypedParameter). Lettered x.name) (self_parameters h h.self h.bound) p.parameters (self_good h h.self h.bound g.self) k in (
      record {
        named = g.path;
        names = all_both Lettered (map (λ (x : TypedParameter). x.name) (self_parameters h h.self h.bound ++ p.parameters)) (map (λ (v : TypedVariable). v.name) c.variables) (parameters_map (self_parameters h h.self h.bound ++ p.parameters) all) (variables_map c.variables is.variables);
        placed = is.body;
      },
      tt,
    )

judged_given : (u : Around) (p : Written_procedure) → GoodProcedure p → (h : Head) → GoodHead h → (forward : Bool) → AllByRecursion IsGiven (procedure_judged u p h forward).contents.procedures
judged_given u p g h k true = tt
judged_given u p g h k false =
    let c = (p.inside (around_body u h)).contents in
    let is = g.inside (around_body u h) in
    all_both IsGiven (typed_procedure (map_of u) h h.parameters c) c.procedures (typed_given (map_of u) h k h.parameters k.parameters c is) is.procedures

procedures_given : (u : Around) (ps : List Written_procedure) → AreGoodProcedures ps → (hs : List Head) → AllByRecursion GoodHead hs → AllByRecursion IsGiven (procedures_judged u ps hs).contents.procedures
procedures_given u [] g hs k = tt
procedures_given u (p ∷ ps) g [] k = tt
procedures_given u (p ∷ ps) g (h ∷ hs) k =
    all_both IsGiven (procedure_judged u p h p.forward).contents.procedures (procedures_judged u ps hs).contents.procedures (judged_given u p g.0 h k.0 p.forward) (procedures_given u ps g.1 hs k.1)

-- no statements among procedures
judged_body : (u : Around) (p : Written_procedure) (h : Head) (forward : Bool) → (procedure_judged u p h forward).contents.body ≡ []
judged_body u p h true = refl
judged_body u p h false = refl

procedures_body : (u : Around) (ps : List Written_procedure) (hs : List Head) → (procedures_judged u ps hs).contents.body ≡ []
procedures_body u [] hs = refl
procedures_body u (p ∷ ps) [] = refl
procedures_body u (p ∷ ps) (h ∷ hs) = ap (λ l. l ++ (procedures_judged u ps hs).contents.body) (judged_body u p h p.forward) ∙ procedures_body u ps hs

reversed_all : {A : Type 0} (P : A → Type 0) (xs : List A) → AllByRecursion P xs → AllByRecursion P (reversed xs)
reversed_all P [] h = tt
reversed_all P (x ∷ xs) h = all_both P (reversed xs) (x ∷ []) (reversed_all P xs h.1) (h.0, tt)

-- ---- declarations in their order

abbrev GoodPlain : (Around → Declared) → Type 0
GoodPlain f = (u : Around) → PlainIs (f u).part.contents

pub order_good : (fs : List (Around → Declared)) → AllByRecursion GoodPlain fs → GoodPlain (in_order fs)
order_good [] h u = record { variables = tt; procedures = refl; body = refl }
order_good (f ∷ fs) h u =
    let a = h.0 u in
    let c = (f u).part.contents in
    let d = (in_order fs (f u).around).part.contents in
    let b = order_good fs h.1 (f u).around in
    record {
      variables = all_both (λ (v : TypedVariable). Lettered v.name) c.variables d.variables a.variables b.variables;
      procedures = both_empty c.procedures d.procedures a.procedures b.procedures;
      body = both_empty c.body d.body a.body b.body;
    }

constant_is : (b : Bool) (x : Ident) (p : Option (Mark × Value)) → PlainIs (constant_contents b x p)
constant_is true x None = record { variables = tt; procedures = refl; body = refl }
constant_is true x (Some p) = record { variables = tt; procedures = refl; body = refl }
constant_is false x p = record { variables = tt; procedures = refl; body = refl }

constant_good : (d : IdentDef) (x : Phrase) → GoodPlain (constant_declared d x)
constant_good d x u = constant_is (is_module_level u) d.ident (both (marked u false d) (constant_value u x ▷ no_nil x.start)).node

type_good : (d : IdentDef) (n : Written) → GoodPlain (type_declared d n)
type_good d n u = record { variables = tt; procedures = refl; body = refl }

variable_is : (x : Ident) → Lettered x.name → (o : Option (Mark × Typing)) → PlainIs (variable_contents x o)
variable_is x h None = record { variables = tt; procedures = refl; body = refl }
variable_is x h (Some p) = record { variables = (h, tt); procedures = refl; body = refl }

variables_good : (ds : List IdentDef) → AllByRecursion (λ (d : IdentDef). Lettered d.ident.name) ds → (t : Option Typing) → GoodPlain (variables_with ds t)
variables_good [] h t u = record { variables = tt; procedures = refl; body = refl }
variables_good (d ∷ ds) h t u =
    let m = marked u true d in
    let c = variable_contents d.ident (paired_typing m.node t) in
    let v = (variable_marked u d.ident m t).around in
    let a = variable_is d.ident h.0 (paired_typing m.node t) in
    let b = variables_good ds h.1 t v in
    let k = (variables_with ds t v).part.contents in
    record {
      variables = all_both (λ (v : TypedVariable). Lettered v.name) c.variables k.variables a.variables b.variables;
      procedures = both_empty c.procedures k.procedures a.procedures b.procedures;
      body = both_empty c.body k.body a.body b.body;
    }

variables_typed_good : (ds : List IdentDef) → AllByRecursion (λ (d : IdentDef). Lettered d.ident.name) ds → (u : Around) (t : Judged Typing) → PlainIs (variables_typed ds u t).part.contents
variables_typed_good ds h u t = let k = variables_good ds h t.node (with_types u (made_in t.node)) in record { variables = k.variables; procedures = k.procedures; body = k.body }

variables_declared_good : (ds : List IdentDef) → AllByRecursion (λ (d : IdentDef). Lettered d.ident.name) ds → (n : Written) → GoodPlain (variables_declared ds n)
variables_declared_good ds h n u = variables_typed_good ds h u (n.typing u (u.path ++ first_name ds ++ codes ":") mark.Hidden false)

pub imports_good : (is : List Import) → AllByRecursion GoodPlain (map (λ i. import_declared i (target_of i)) is)
imports_good [] = tt
imports_good (i ∷ is) = (λ u. record { variables = tt; procedures = refl; body = refl }, imports_good is)

-- ---- sequences

abbrev pub GoodDeclaration : Declaration → Type 0
GoodDeclaration (Plain x f) = GoodPlain f
GoodDeclaration (Procedure p) = GoodProcedure p

abbrev pub AreGood : List Declaration → Type 0
AreGood ds = AllByRecursion GoodDeclaration ds

plain_kept : (ds : List Declaration) → AreGood ds → AllByRecursion GoodPlain (filter_map plain_of ds)
plain_kept [] h = tt
plain_kept (Plain x f ∷ ds) h = (h.0, plain_kept ds h.1)
plain_kept (Procedure p ∷ ds) h = plain_kept ds h.1

procedures_kept : (ds : List Declaration) → AreGood ds → AreGoodProcedures (filter_map procedure_of ds)
procedures_kept [] h = tt
procedures_kept (Plain x f ∷ ds) h = procedures_kept ds h.1
procedures_kept (Procedure p ∷ ds) h = (h.0, procedures_kept ds h.1)

pub block_given : (ds : List Declaration) → AreGood ds → (xs : List Stmt) → are_rising (places_of xs) ≡ true → (u : Around) → PartIs (block ds (map judging xs) u).contents
block_given ds g xs r u =
    let v : Around = record u { later_types = filter_map type_name_of ds } in
    let fs = filter_map plain_of ds in
    let ps = filter_map procedure_of ds in
    let d = in_order fs v in
    let c = d.part.contents in
    let plain = order_good fs (plain_kept ds g) v in
    let first : Heads = record { around = d.around; before = [] } in
    let hs = headings_in_order ps first in
    let heads = reversed hs.before in
    let w = with_bound hs.around (binding_at (is_module_level u) hs.around heads) in
    let judged = (procedures_judged w ps heads).contents in
    let statements = stmts_in (in_turn (map judging xs) w).node in
    let good = reversed_all GoodHead hs.before (headings_good ps (procedures_kept ds g) first tt) in
    let whole : c.body ++ (judged.body ++ statements) ≡ statements = ap (λ l. l ++ (judged.body ++ statements)) plain.body ∙ ap (λ l. l ++ statements) (procedures_body w ps heads) in
    record {
      variables = all_both (λ (v : TypedVariable). Lettered v.name) c.variables (block_headed u d.part.notes.later ps (map judging xs) hs).contents.variables plain.variables (subst AreNames (sym (headed_none u d.part.notes.later ps (map judging xs) hs)) tt);
      procedures = all_both IsGiven c.procedures _ (subst (AllByRecursion IsGiven) (sym plain.procedures) tt) (all_both IsGiven judged.procedures [] (procedures_given w ps (procedures_kept ds g) heads good) tt);
      body = subst IsPlaced (sym whole) (body_placed xs r w);
    }

-- ---- by induction over declarations

list_names : {A : Type 0} (f : A → Bool) (xs : List A) → list_all f xs ≡ true → AllByRecursion (λ x. f x ≡ true) xs
list_names f [] e = tt
list_names f (x ∷ xs) e = let p = and_parts (f x) (list_all f xs) e in (p.0, list_names f xs p.1)

sections_good : (ss : List WrittenSection) → list_all section_lettered ss ≡ true → AllByRecursion (λ (s : WrittenSection). AllByRecursion (λ (x : Ident). Lettered x.name) s.names) ss
sections_good [] e = tt
sections_good (s ∷ ss) e = let p = and_parts (section_lettered s) (list_all section_lettered ss) e in (list_names (λ (x : Ident). is_lettered x.name) s.names p.0, sections_good ss p.1)

receiver_good : (o : Option RawReceiver) → receiver_lettered o ≡ true → IfThere (λ (r : RawReceiver). Lettered r.ident.name) o
receiver_good None e = tt
receiver_good (Some r) e = e

heading_good : (h : Heading) → heading_lettered h ≡ true → GoodHeading (heading_of h)
heading_good h e =
    let w = heading_of h in
    let p = and_parts (is_lettered h.name.ident.name) (receiver_lettered h.receiver && list_all section_lettered w.parameters.sections) e in
    let q = and_parts (receiver_lettered h.receiver) (list_all section_lettered w.parameters.sections) p.1 in
    record { name = p.0; receiver = receiver_good h.receiver q.0; sections = sections_good w.parameters.sections q.1 }

abbrev PD : Decl → Type 0
PD x = decl_lettered x ≡ true → decl_placed x ≡ true → GoodDeclaration (declaration x)

abbrev SD : Type 0
SD = (x : Decl) × PD x

abbrev decls_in : List SD → List Decl
decls_in xs = map (λ (x : SD). x.0) xs

all_in : (xs : List SD) → all_true (map decl_lettered (decls_in xs)) ≡ true → all_true (map decl_placed (decls_in xs)) ≡ true → AreGood (map declaration (decls_in xs))
all_in [] e f = tt
all_in (x ∷ xs) e f =
    let p = and_parts (decl_lettered x.0) (all_true (map decl_lettered (decls_in xs))) e in
    let q = and_parts (decl_placed x.0) (all_true (map decl_placed (decls_in xs))) f in
    (x.1 p.0 q.0, all_in xs p.1 q.1)

layer : (x : Decl-F Decl) → (decl_layer (map-Decl Decl Bool decl_lettered x) ≡ true → rising.decl_layer (map-Decl Decl Bool decl_placed x) ≡ true → GoodDeclaration (decl_rule (map-Decl Decl Declaration declaration x))) → PD (roll-Decl x)
layer x h e f = subst GoodDeclaration (sym (fold-roll-Decl Declaration decl_rule x)) (h (sym (fold-roll-Decl Bool decl_layer x) ∙ e) (sym (fold-roll-Decl Bool rising.decl_layer x) ∙ f))

decl_cases : (y : Decl-F SD) → PD (roll-Decl (map-Decl SD Decl (λ x. x.0) y))
decl_cases (Decl-F.Constant d x) = layer (Decl-F.Constant d x) (λ e f. constant_good d (phrase_of x))
decl_cases (Decl-F.NamedType d n) = layer (Decl-F.NamedType d n) (λ e f. type_good d (written n))
decl_cases (Decl-F.Variables ds n) = layer (Decl-F.Variables ds n) (λ e f. variables_declared_good ds (list_names (λ (d : IdentDef). is_lettered d.ident.name) ds e) (written n))
decl_cases (Decl-F.Procedure h ds body closing) = layer (Decl-F.Procedure h (decls_in ds) body closing) (λ e f.
    let p = and_parts (heading_lettered h) (all_true (map decl_lettered (decls_in ds))) e in
    let q = and_parts (all_true (map decl_placed (decls_in ds))) (are_rising (places_of body)) f in
    record { heading = heading_good h p.0; inside = block_given (map declaration (decls_in ds)) (all_in ds p.1 q.0) body q.1 })
decl_cases (Decl-F.Forward h) = layer (Decl-F.Forward h) (λ e f. record { heading = heading_good h e; inside = λ u. record { variables = tt; procedures = tt; body = refl } })

decl_good : (x : Decl) → PD x
decl_good = ind-Decl PD (λ x y is. subst (λ z. PD (roll-Decl z)) is (decl_cases y))

pub decls_good : (xs : List Decl) → all_true (map decl_lettered xs) ≡ true → all_true (map decl_placed xs) ≡ true → AreGood (map declaration xs)
decls_good [] e f = tt
decls_good (x ∷ xs) e f =
    let p = and_parts (decl_lettered x) (all_true (map decl_lettered xs)) e in
    let q = and_parts (decl_placed x) (all_true (map decl_placed xs)) f in
    (decl_good x p.0 q.0, decls_good xs p.1 q.1)
