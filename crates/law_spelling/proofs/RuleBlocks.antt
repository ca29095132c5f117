-- Declarations in their order, procedures, and modules: names and types that have a spelling.
use Rattle.std.proofs.Common.{◌≡◌, ℕ, Bool, true, false, List, [], ◌∷◌, ◌++◌, map, Option, Some, None, refl, sym, subst, ◌∙◌, codes}
use Rattle.std.specs.Prelude.{bytes_eq}
use Rattle.std.specs.List.{AllByRecursion, cons_option, find, filter_map}
use Rattle.std.proofs.lemmas.Bool.{false≢true, and_parts}
use Rattle.ob_tree.specs.declared.names.QName.{QName}
use Rattle.ob_tree.specs.declared.ident.Ident.{Ident}
use Rattle.ob_tree.specs.declared.ident.IdentDef.{IdentDef}
use Rattle.ob_tree.specs.declared.ident.Import.{Import}
use Rattle.ob_tree.specs.declared.ident.Mark.{Mark}
use Rattle.ob_tree.specs.declared.ident.Qualident.{Qualident}
use Rattle.ob_tree.specs.declared.decl.Decl.{Decl, roll-Decl, map-Decl}
use Rattle.ob_tree.specs.declared.decl.Decl.TheOpen.{Decl-F}
use Rattle.ob_tree.specs.declared.decl.Decl.TheFolds.{ind-Decl, fold-roll-Decl}
use Rattle.ob_types.specs.declared.desc.Desc.{Desc}
use Rattle.ob_types.specs.declared.desc.Receiver.{Receiver}
use Rattle.ob_types.specs.declared.desc.Receiver.TheVariants as receiver
use Rattle.ob_types.specs.declared.value.Value.{Value}
use Rattle.ob_types.specs.declared.value.Value.TheVariants as literal
use Rattle.ob_tree.specs.declared.pos.Pos.{Pos}
use Rattle.ob_types.specs.declared.typed.TypedType.{TypedType}
use Rattle.ob_types.specs.declared.typed.TypedModule.{TypedModule}
use Rattle.ob_format.specs.Names.{is_object}
use Rattle.ob_desc.specs.Grammar.{type_fits}
use Rattle.ob_rules.specs.declared.entity.Entity.{Entity}
use Rattle.ob_rules.specs.declared.entity.Known.{Known}
use Rattle.ob_rules.specs.declared.broken.Broken.{Broken}
use Rattle.ob_rules.specs.declared.notes.Later.{Later}
use Rattle.ob_rules.specs.Judged.{Judged, sound, both, ◌▷◌}
use Rattle.ob_rules.specs.Shapes.{Map}
use Rattle.ob_rules.specs.Names.{Around, map_of, found_in_scope, predeclared}
use Rattle.ob_rules.specs.Expressions.{phrase_of, constant_value}
use Rattle.ob_rules.specs.Phrases.{Phrase}
use Rattle.ob_rules.specs.Types.{Parameters, Typing, Written, written, is_module_level, marked, with_types}
use Rattle.ob_rules.specs.Statements.{Judging, judging}
use Rattle.ob_rules.specs.Headings.{BoundAs, Head, Heads, Binding, self_by, add_heading, reversed, mark_or_hidden}
use Rattle.ob_rules.specs.Declarations.{Contents, no_contents, together, Part, Declared, declare_if, declare, constant_contents, constant_entity, no_nil, constant_declared, equated, typing_as, types_made, type_entity, type_declared, variable_entity, variable_contents, paired_typing, first_name, variables_with, made_in, variables_typed, variables_declared, Written_procedure, Declaration, Plain, Procedure, plain_of, procedure_of, type_name_of, in_order, headings_in_order, around_body, self_parameters, typed_procedure, types_of_head, procedure_contents, procedure_judged, procedures_judged, block_inside, with_bound, binding_at, block_bound, heads_later, block_headed, block_declared, block, decl_rule, declaration, import_entity, import_declared, target_of, is_system, imports_declared, around_module, module_of, described, all_described, typed_module, if_unbroken, newly}
use Rattle.law_methods_described.proofs.Nodes.{Has, then_has, second_has}
use Rattle.law_spelling.specs.Trees.{IsNamed, VariableIsSpelled}
use Rattle.law_spelling.specs.Raw.{all_true, is_named, all_named, are_named, type_named, parameters_named, heading_named, decl_layer, decl_named}
use Rattle.law_spelling.specs.Ruled.{IsValue, TypeOk, EntityOk, KnownOk, ShownOk, AroundOk, ConstantOk, ProcedureTypes, ModuleOk, ModulesAreNamed}
use Rattle.law_spelling.proofs.Names.{named_object}
use Rattle.law_spelling.proofs.RuleNames.{object_more, object_bytes, find_all}
use Rattle.law_spelling.proofs.RuleTypes.{AreOk, TypingOk, HasTyping, IsOk, typed_around, ParametersOk}
use Rattle.law_spelling.proofs.RuleWritten.{written_ok, written_parameters_ok}
use Rattle.law_spelling.proofs.RuleHeads.{BoundOk, HeadingOk, HeadOk, AreOkHeads, HeadsOk, add_ok, reversed_ok, bindings_ok}
use Rattle.law_lists.proofs.Lists.{IfThere, all_both}

-- ---- what a part adds

record ContentsOk (c : Contents) : Type 0 where
  pub constants : AllByRecursion ConstantOk c.constants
  pub types : AreOk c.types
  pub variables : AllByRecursion VariableIsSpelled c.variables
  pub procedures : AllByRecursion ProcedureTypes c.procedures
  pub bound : AreOk c.bound

ok_none : ContentsOk no_contents
ok_none = record { constants = tt; types = tt; variables = tt; procedures = tt; bound = tt }

ok_types : (ts : List TypedType) → AreOk ts → ContentsOk (record no_contents { types = ts })
ok_types ts h = record { constants = tt; types = h; variables = tt; procedures = tt; bound = tt }

ok_both : (a b : Contents) → ContentsOk a → ContentsOk b → ContentsOk (together a b)
ok_both a b g h = record {
  constants = all_both ConstantOk a.constants b.constants g.constants h.constants;
  types = all_both TypeOk a.types b.types g.types h.types;
  variables = all_both VariableIsSpelled a.variables b.variables g.variables h.variables;
  procedures = all_both ProcedureTypes a.procedures b.procedures g.procedures h.procedures;
  bound = all_both TypeOk a.bound b.bound g.bound h.bound;
}

record DeclaredOk (d : Declared) : Type 0 where
  pub contents : ContentsOk d.part.contents
  pub around : AroundOk d.around

abbrev PlainOk : (Around → Declared) → Type 0
PlainOk f = (u : Around) → AroundOk u → DeclaredOk (f u)

if_declared : (o : Option Known) (u : Around) → AroundOk u → (x : Ident) (e : Entity) → EntityOk e → AroundOk (declare_if o u x e)
if_declared (Some k) u g x e h = g
if_declared None u g x e h = record { unit = g.unit; front = g.front; later = g.later; known = (h, g.known); own = g.own; shown = g.shown }

name_declared : (u : Around) → AroundOk u → (x : Ident) (e : Entity) → EntityOk e → AroundOk (declare u x e)
name_declared u g x e h = if_declared (found_in_scope u x.name) u g x e h

-- ---- constants

value_ok : (at : Pos) (v : Value) → Has IsValue (no_nil at v)
value_ok at (literal.Bool b) = tt
value_ok at (literal.Char c) = tt
value_ok at (literal.Int z) = tt
value_ok at (literal.Set n) = tt
value_ok at (literal.Str text) = tt
value_ok at literal.Nil = tt

any_value : (o : Option Value) → IfThere (λ v. Unit {0}) o
any_value None = tt
any_value (Some v) = tt

constants_ok : (b : Bool) (x : Ident) (p : Option (Mark × Value)) → IsNamed x.name → IfThere (λ p. Unit {0} × IsValue p.1) p → ContentsOk (constant_contents b x p)
constants_ok true x None n h = ok_none
constants_ok true x (Some p) n h = record { constants = ((n, h.1), tt); types = tt; variables = tt; procedures = tt; bound = tt }
constants_ok false x p n h = ok_none

constant_known : (o : Option (Mark × Value)) → EntityOk (constant_entity o)
constant_known None = tt
constant_known (Some p) = tt

constant_ok : (d : IdentDef) (x : Phrase) → is_named d ≡ true → PlainOk (constant_declared d x)
constant_ok d x n u g =
    let v = constant_value u x ▷ no_nil x.start in
    let h = then_has (λ v. Unit {0}) IsValue (constant_value u x) (no_nil x.start) (any_value (constant_value u x).node) (λ v k. value_ok x.start v) in
    let j = both (marked u false d) v in
    record { contents = constants_ok (is_module_level u) d.ident j.node n (second_has IsValue (marked u false d) v h); around = name_declared u g d.ident (constant_entity j.node) (constant_known j.node) }

-- ---- types

as_ok : (u : Around) → AroundOk u → (name : List ℕ) → is_object name ≡ true → (m : Mark) (w : Written) → IsOk w → (o : Option Qualident) → HasTyping (typing_as u name m w o)
as_ok u a name n m w g (Some q) = then_has TypingOk TypingOk (w.typing u name m false) (λ t. sound (equated u name m t)) (g u a name n m false) (λ t h. record { of = (a.unit, n); made = ((n, h.of), h.made) })
as_ok u a name n m w g None = g u a name n m false

made_ok : (o : Option (Mark × Typing)) → IfThere (λ p. Unit {0} × TypingOk p.1) o → AreOk (types_made o)
made_ok None h = tt
made_ok (Some p) h = h.1.made

type_known : (o : Option (Mark × Typing)) → IfThere (λ p. Unit {0} × TypingOk p.1) o → EntityOk (type_entity o)
type_known None h = tt
type_known (Some p) h = h.1.of

type_ok : (d : IdentDef) (w : Written) → is_named d ≡ true → IsOk w → PlainOk (type_declared d w)
type_ok d w n g u h =
    let m = newly u d in
    let name = u.path ++ d.ident.name in
    let t = typing_as u name (mark_or_hidden m.node) w w.name in
    let k = second_has TypingOk m t (as_ok u h name (h.front d.ident.name (named_object d.ident.name n)) (mark_or_hidden m.node) w g w.name) in
    let made = made_ok (both m t).node k in
    record { contents = ok_types (types_made (both m t).node) made; around = name_declared (with_types u (types_made (both m t).node)) (typed_around u (types_made (both m t).node) made h) d.ident (type_entity (both m t).node) (type_known (both m t).node k) }

-- ---- variables

variable_known : (u : Around) (x : Ident) (o : Option (Mark × Typing)) → EntityOk (variable_entity u x o)
variable_known u x None = tt
variable_known u x (Some p) = tt

paired_ok : (m : Option Mark) (t : Option Typing) → IfThere TypingOk t → IfThere (λ p. TypingOk p.1) (paired_typing m t)
paired_ok None None h = tt
paired_ok None (Some t) h = tt
paired_ok (Some m) None h = tt
paired_ok (Some m) (Some t) h = h

variable_ok : (x : Ident) (o : Option (Mark × Typing)) → IsNamed x.name → IfThere (λ p. TypingOk p.1) o → ContentsOk (variable_contents x o)
variable_ok x None n h = ok_none
variable_ok x (Some p) n h = record { constants = tt; types = tt; variables = ((n, h.of), tt); procedures = tt; bound = tt }

variables_ok : (ds : List IdentDef) (t : Option Typing) → all_named ds ≡ true → IfThere TypingOk t → PlainOk (variables_with ds t)
variables_ok [] t n h u g = record { contents = ok_none; around = g }
variables_ok (d ∷ ds) t n h u g =
    let p = paired_typing (marked u true d).node t in
    let v = declare u d.ident (variable_entity u d.ident p) in
    let both_named = and_parts (is_named d) (all_named ds) n in
    let rest = variables_ok ds t both_named.1 h v (name_declared u g d.ident (variable_entity u d.ident p) (variable_known u d.ident p)) in
    record { contents = ok_both (variable_contents d.ident p) (variables_with ds t v).part.contents (variable_ok d.ident p both_named.0 (paired_ok (marked u true d).node t h)) rest.contents; around = rest.around }

in_ok : (o : Option Typing) → IfThere TypingOk o → AreOk (made_in o)
in_ok None h = tt
in_ok (Some t) h = h.made

typed_ok : (ds : List IdentDef) (u : Around) → all_named ds ≡ true → AroundOk u → (t : Judged Typing) → HasTyping t → DeclaredOk (variables_typed ds u t)
typed_ok ds u n g t h =
    let k = in_ok t.node h in
    let v = with_types u (made_in t.node) in
    let rest = variables_ok ds t.node n h v (typed_around u (made_in t.node) k g) in
    record { contents = ok_both (record no_contents { types = made_in t.node }) (variables_with ds t.node v).part.contents (ok_types (made_in t.node) k) rest.contents; around = rest.around }

first_named : (ds : List IdentDef) → are_named ds ≡ true → is_object (first_name ds) ≡ true
first_named [] e = absurd (false≢true e)
first_named (d ∷ ds) e = named_object d.ident.name (and_parts (is_named d) (all_named ds) e).0

all_are : (ds : List IdentDef) → are_named ds ≡ true → all_named ds ≡ true
all_are [] e = refl
all_are (d ∷ ds) e = e

variables_declared_ok : (ds : List IdentDef) (w : Written) → are_named ds ≡ true → IsOk w → PlainOk (variables_declared ds w)
variables_declared_ok ds w n g u a = typed_ok ds u (all_are ds n) a _ (g u a (u.path ++ first_name ds ++ codes ":") (object_more (u.path ++ first_name ds) (codes ":") (a.front (first_name ds) (first_named ds n)) refl) _ false)

-- ---- in order

order_ok : (fs : List (Around → Declared)) → AllByRecursion PlainOk fs → PlainOk (in_order fs)
order_ok [] h u g = record { contents = ok_none; around = g }
order_ok (f ∷ fs) h u g =
    let a = h.0 u g in
    let b = order_ok fs h.1 (f u).around a.around in
    record { contents = ok_both (f u).part.contents (in_order fs (f u).around).part.contents a.contents b.contents; around = b.around }

-- ---- procedures

record ProcedureOk (p : Written_procedure) : Type 0 where
  pub heading : HeadingOk p.heading
  pub inside : (u : Around) → AroundOk u → ContentsOk (p.inside u).contents

abbrev AreOkProcedures : List Written_procedure → Type 0
AreOkProcedures ps = AllByRecursion ProcedureOk ps

headings_ok : (ps : List Written_procedure) → AreOkProcedures ps → (hs : Heads) → HeadsOk hs → HeadsOk (headings_in_order ps hs)
headings_ok [] g hs h = h
headings_ok (p ∷ ps) g hs h = headings_ok ps g.1 (add_heading hs p.heading p.forward) (add_ok hs h p.heading g.0.heading p.forward)

head_types : (o : Option Parameters) → IfThere ParametersOk o → AreOk (types_of_head o)
head_types None h = tt
head_types (Some p) h = h.made

by_ok : (x : Ident) (b : BoundAs) (r : Receiver) → BoundOk b → type_fits (self_by x b r).of
by_ok x b receiver.Record h = h.of
by_ok x b receiver.Pointer h = h.of

self_ok : (h : Head) (x : Option Ident) (b : Option BoundAs) → IfThere BoundOk b → AllByRecursion (λ p. type_fits p.of) (self_parameters h x b)
self_ok h (Some x) (Some b) k = (by_ok x b b.receiver k, tt)
self_ok h (Some x) None k = tt
self_ok h None (Some b) k = tt
self_ok h None None k = tt

typed_procedure_ok : (map : Map) (h : Head) → HeadOk h → (o : Option Parameters) → IfThere ParametersOk o → (c : Contents) → AllByRecursion ProcedureTypes (typed_procedure map h o c)
typed_procedure_ok map h g None k c = tt
typed_procedure_ok map h g (Some p) k c = (record { parameters = all_both (λ x. type_fits x.of) (self_parameters h h.self h.bound) p.parameters (self_ok h h.self h.bound g.bound) k.parameters; result = k.result }, tt)

procedure_ok : (map : Map) (h : Head) → HeadOk h → (c : Contents) → ContentsOk c → ContentsOk (procedure_contents map h c)
procedure_ok map h g c k = record {
  constants = tt;
  types = all_both TypeOk (types_of_head h.parameters) c.types (head_types h.parameters g.parameters) k.types;
  variables = tt;
  procedures = all_both ProcedureTypes (typed_procedure map h h.parameters c) c.procedures (typed_procedure_ok map h g h.parameters g.parameters c) k.procedures;
  bound = tt;
}

body_around : (u : Around) → AroundOk u → (h : Head) → HeadOk h → AroundOk (around_body u h)
body_around u g h k = record {
  unit = g.unit;
  front = λ x n. object_more (h.path ++ codes "/") x (object_more h.path (codes "/") k.path refl) (object_bytes x n);
  later = tt;
  known = all_both KnownOk h.inside h.known k.inside k.known;
  own = g.own;
  shown = g.shown;
}

judged_ok : (u : Around) → AroundOk u → (p : Written_procedure) → ProcedureOk p → (h : Head) → HeadOk h → (forward : Bool) → ContentsOk (procedure_judged u p h forward).contents
judged_ok u a p g h k true = ok_types (types_of_head h.parameters) (head_types h.parameters k.parameters)
judged_ok u a p g h k false = procedure_ok (map_of u) h k (p.inside (around_body u h)).contents (g.inside (around_body u h) (body_around u a h k))

procedures_ok : (u : Around) → AroundOk u → (ps : List Written_procedure) → AreOkProcedures ps → (hs : List Head) → AreOkHeads hs → ContentsOk (procedures_judged u ps hs).contents
procedures_ok u a [] g hs k = ok_none
procedures_ok u a (p ∷ ps) g [] k = ok_none
procedures_ok u a (p ∷ ps) g (h ∷ hs) k = ok_both (procedure_judged u p h p.forward).contents (procedures_judged u ps hs).contents (judged_ok u a p g.0 h k.0 p.forward) (procedures_ok u a ps g.1 hs k.1)

-- ---- sequences of declarations

inside_ok : (u : Around) → AroundOk u → (ps : List Written_procedure) → AreOkProcedures ps → (hs : List Head) → AreOkHeads hs → (body : List Judging) → ContentsOk (block_inside u ps hs body).contents
inside_ok u a ps g hs k body = ok_both (procedures_judged u ps hs).contents _ (procedures_ok u a ps g hs k) (record { constants = tt; types = tt; variables = tt; procedures = tt; bound = tt })

bound_around : (u : Around) → AroundOk u → (b : Binding) → AreOk b.own → AroundOk (with_bound u b)
bound_around u g b h = record { unit = g.unit; front = g.front; later = g.later; known = g.known; own = h; shown = g.shown }

bound_ok : (outer u : Around) → AroundOk u → (later : List Later) (ps : List Written_procedure) → AreOkProcedures ps → (hs : List Head) → AreOkHeads hs → (body : List Judging) (b : Binding) → AreOk b.own → ContentsOk (block_bound outer u later ps hs body b).contents
bound_ok outer u a later ps g hs k body b h =
    ok_both no_contents _ ok_none
    (ok_both (record no_contents { bound = b.own }) (block_inside (with_bound u b) ps hs body).contents (record { constants = tt; types = tt; variables = tt; procedures = tt; bound = h }) (inside_ok (with_bound u b) (bound_around u a b h) ps g hs k body))

binding_ok : (level : Bool) (u : Around) → AroundOk u → (hs : List Head) → AreOkHeads hs → AreOk (binding_at level u hs).own
binding_ok true u a hs k = bindings_ok u hs k a.own
binding_ok false u a hs k = a.own

headed_ok : (outer : Around) (later : List Later) (ps : List Written_procedure) → AreOkProcedures ps → (body : List Judging) (hs : Heads) → HeadsOk hs → ContentsOk (block_headed outer later ps body hs).contents
headed_ok outer later ps g body hs h =
    let k = reversed_ok HeadOk hs.before h.before in
    bound_ok outer hs.around h.around (later ++ heads_later hs.before) ps g (reversed hs.before) k body (binding_at (is_module_level outer) hs.around (reversed hs.before)) (binding_ok (is_module_level outer) hs.around h.around (reversed hs.before) k)

block_declared_ok : (outer : Around) (ps : List Written_procedure) → AreOkProcedures ps → (body : List Judging) (d : Declared) → DeclaredOk d → ContentsOk (block_declared outer ps body d).contents
block_declared_ok outer ps g body d h =
    ok_both d.part.contents _ h.contents
    (headed_ok outer d.part.notes.later ps g body (headings_in_order ps (record { around = d.around; before = [] })) (headings_ok ps g (record { around = d.around; before = [] }) (record { around = h.around; before = tt })))

-- ---- declarations

abbrev DeclarationOk : Declaration → Type 0
DeclarationOk (Plain x f) = IfThere IsNamed x × PlainOk f
DeclarationOk (Procedure p) = ProcedureOk p

abbrev AreAll : List Declaration → Type 0
AreAll ds = AllByRecursion DeclarationOk ds

one_kept : {B : Type 0} (Q : B → Type 0) (o : Option B) (ys : List B) → IfThere Q o → AllByRecursion Q ys → AllByRecursion Q (cons_option o ys)
one_kept Q None ys h k = k
one_kept Q (Some y) ys h k = (h, k)

kept_all : {A B : Type 0} (P : A → Type 0) (Q : B → Type 0) (f : A → Option B) → ((x : A) → P x → IfThere Q (f x)) → (xs : List A) → AllByRecursion P xs → AllByRecursion Q (filter_map f xs)
kept_all P Q f k [] h = tt
kept_all P Q f k (x ∷ xs) h = one_kept Q (f x) (filter_map f xs) (k x h.0) (kept_all P Q f k xs h.1)

plain_ok : (d : Declaration) → DeclarationOk d → IfThere PlainOk (plain_of d)
plain_ok (Plain x f) h = h.1
plain_ok (Procedure p) h = tt

written_procedure_ok : (d : Declaration) → DeclarationOk d → IfThere ProcedureOk (procedure_of d)
written_procedure_ok (Plain x f) h = tt
written_procedure_ok (Procedure p) h = h

name_ok : (d : Declaration) → DeclarationOk d → IfThere IsNamed (type_name_of d)
name_ok (Plain x f) h = h.0
name_ok (Procedure p) h = tt

later_around : (u : Around) → AroundOk u → (ds : List Declaration) → AreAll ds → AroundOk (record u { later_types = filter_map type_name_of ds })
later_around u g ds h = record { unit = g.unit; front = g.front; later = kept_all DeclarationOk IsNamed type_name_of name_ok ds h; known = g.known; own = g.own; shown = g.shown }

block_ok : (ds : List Declaration) → AreAll ds → (body : List Judging) (u : Around) → AroundOk u → ContentsOk (block ds body u).contents
block_ok ds g body u a =
    let v : Around = record u { later_types = filter_map type_name_of ds } in
    block_declared_ok u (filter_map procedure_of ds) (kept_all DeclarationOk ProcedureOk procedure_of written_procedure_ok ds g) body
    (in_order (filter_map plain_of ds) v)
    (order_ok (filter_map plain_of ds) (kept_all DeclarationOk PlainOk plain_of plain_ok ds g) v (later_around u a ds g))

-- ---- by induction over declarations

abbrev PD : Decl → Type 0
PD x = decl_named x ≡ true → DeclarationOk (declaration x)

abbrev SD : Type 0
SD = (x : Decl) × PD x

all_of : (xs : List SD) → all_true (map decl_named (map (λ (x : SD). x.0) xs)) ≡ true → AreAll (map declaration (map (λ (x : SD). x.0) xs))
all_of [] e = tt
all_of (x ∷ xs) e = let p = and_parts (decl_named x.0) (all_true (map decl_named (map (λ (x : SD). x.0) xs))) e in (x.1 p.0, all_of xs p.1)

layer : (x : Decl-F Decl) → (decl_layer (map-Decl Decl Bool decl_named x) ≡ true → DeclarationOk (decl_rule (map-Decl Decl Declaration declaration x))) → PD (roll-Decl x)
layer x h e = subst DeclarationOk (sym (fold-roll-Decl Declaration decl_rule x)) (h (sym (fold-roll-Decl Bool decl_layer x) ∙ e))

decl_cases : (y : Decl-F SD) → PD (roll-Decl (map-Decl SD Decl (λ x. x.0) y))
decl_cases (Decl-F.Constant d x) = layer (Decl-F.Constant d x) (λ e. (tt, constant_ok d (phrase_of x) e))
decl_cases (Decl-F.NamedType d n) = layer (Decl-F.NamedType d n) (λ e. let p = and_parts (is_named d) (type_named n) e in (p.0, type_ok d (written n) p.0 (written_ok n p.1)))
decl_cases (Decl-F.Variables ds n) = layer (Decl-F.Variables ds n) (λ e. let p = and_parts (are_named ds) (type_named n) e in (tt, variables_declared_ok ds (written n) p.0 (written_ok n p.1)))
decl_cases (Decl-F.Procedure h ds body closing) = layer (Decl-F.Procedure h (map (λ (x : SD). x.0) ds) body closing) (λ e.
    let p = and_parts (heading_named h) (all_true (map decl_named (map (λ (x : SD). x.0) ds))) e in
    let q = and_parts (is_named h.name) (parameters_named h.parameters) p.0 in
    record {
      heading = record { name = q.0; parameters = written_parameters_ok h.parameters q.1 };
      inside = λ u a. block_ok (map declaration (map (λ (x : SD). x.0) ds)) (all_of ds p.1) (map judging body) u a;
    })
decl_cases (Decl-F.Forward h) = layer (Decl-F.Forward h) (λ e.
    let q = and_parts (is_named h.name) (parameters_named h.parameters) e in
    record { heading = record { name = q.0; parameters = written_parameters_ok h.parameters q.1 }; inside = λ u a. ok_none })

decl_ok : (x : Decl) → PD x
decl_ok = ind-Decl PD (λ x y is. subst (λ z. PD (roll-Decl z)) is (decl_cases y))

decls_ok : (xs : List Decl) → AllByRecursion (λ d. decl_named d ≡ true) xs → AreAll (map declaration xs)
decls_ok [] h = tt
decls_ok (x ∷ xs) h = (decl_ok x h.0, decls_ok xs h.1)

-- ---- a module

imported_ok : (b : Bool) (t : Ident) → EntityOk (import_entity b t)
imported_ok true t = tt
imported_ok false t = tt

import_ok : (i : Import) (t : Ident) → PlainOk (import_declared i t)
import_ok i t u g = record { contents = ok_none; around = name_declared u g i.ident (import_entity (is_system t.name) t) (imported_ok (is_system t.name) t) }

imports_ok : (is : List Import) → AllByRecursion PlainOk (map (λ i. import_declared i (target_of i)) is)
imports_ok [] = tt
imports_ok (i ∷ is) = (import_ok i (target_of i), imports_ok is)

predeclared_ok : AllByRecursion KnownOk predeclared
predeclared_ok = (tt, (tt, (tt, (tt, (tt, (tt, (tt, (tt, (tt, (tt, (tt, (tt, (tt, (tt, (tt, (tt, (tt, (tt, (tt, (tt, (tt, (tt, (tt, (tt, (tt, (tt, (tt, (tt, (tt, (tt, (tt, tt)))))))))))))))))))))))))))))))

around_ok : (shown : QName → Option Desc) → ShownOk shown → (name : List ℕ) → IsNamed name → (ds : List Declaration) → AroundOk (around_module shown name ds)
around_ok shown h name n ds = record { unit = n; front = λ x e. e; later = tt; known = predeclared_ok; own = tt; shown = h }

module_ok : (shown : QName → Option Desc) → ShownOk shown → (name : Ident) → IsNamed name.name → (imports : List Import) (ds : List Declaration) → AreAll ds → (body : List Judging) (closing : Ident) → ContentsOk (module_of shown name imports ds body closing).contents
module_ok shown h name n imports ds g body closing =
    let u = around_module shown name.name ds in
    let d = imports_declared imports u in
    let k = order_ok (map (λ i. import_declared i (target_of i)) imports) (imports_ok imports) u (around_ok shown h name.name n ds) in
    ok_both no_contents _ ok_none (ok_both d.part.contents (block ds body d.around).contents k.contents (block_ok ds g body d.around k.around))

-- ---- the checked module

found_ok : (o : Option TypedType) → IfThere TypeOk o → (t : TypedType) → TypeOk t → TypeOk (described o t)
found_ok None h t k = k
found_ok (Some b) h t k = (k.0, h.1)

all_described_ok : (bound : List TypedType) → AreOk bound → (ts : List TypedType) → AreOk ts → AreOk (all_described bound ts)
all_described_ok bound g [] h = tt
all_described_ok bound g (t ∷ ts) h = (found_ok (find (λ b. bytes_eq b.name t.name) bound) (find_all TypeOk (λ b. bytes_eq b.name t.name) bound g) t h.0, all_described_ok bound g ts h.1)

-- what is made of the parts, where nothing is broken
unbroken_is : (bs : List Broken) (x m : TypedModule) → if_unbroken bs x ≡ Some m → x ≡ m
unbroken_is [] x m e = cc
unbroken_is (b ∷ bs) x m e = absurd cc

pub modules_are_named : ModulesAreNamed
modules_are_named shown h tree n m e =
    let parts : Part = module_of shown tree.name tree.imports (map declaration tree.decls) (map judging tree.body) tree.closing in
    let whole : TypedModule = typed_module shown tree.name tree.imports (map declaration tree.decls) parts in
    let k = module_ok shown h tree.name n.name tree.imports (map declaration tree.decls) (decls_ok tree.decls n.decls) (map judging tree.body) tree.closing in
    subst ModuleOk (unbroken_is parts.notes.broken whole m e) (record {
      constants = k.constants;
      types = all_described_ok parts.contents.bound k.bound parts.contents.types k.types;
      variables = k.variables;
      procedures = k.procedures;
    })
