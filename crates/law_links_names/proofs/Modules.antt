-- Declarations, procedures and modules name what their notes mention.
use Rattle.std.proofs.Common.{◌≡◌, ℕ, ◌+◌, Bool, true, false, List, [], ◌∷◌, ◌++◌, length, map, Option, Some, None, refl, sym, subst, ◌∙◌, inl, inr}
use Rattle.std.specs.Prelude.{bytes_eq}
use Rattle.std.specs.List.{AllByRecursion, filter, filter_map}
use Rattle.std.proofs.lemmas.Bool.{false≢true}
use Rattle.std.proofs.lemmas.Slice.Eq.{bytes_eq-Decides}
use Rattle.ob_tree.specs.declared.names.QName.{QName}
use Rattle.ob_tree.specs.declared.ident.Ident.{Ident}
use Rattle.ob_tree.specs.declared.ident.IdentDef.{IdentDef}
use Rattle.ob_tree.specs.declared.ident.Import.{Import}
use Rattle.ob_tree.specs.declared.ident.Mark.{Mark}
use Rattle.ob_tree.specs.declared.decl.Receiver.{Receiver as RawReceiver}
use Rattle.ob_tree.specs.declared.decl.Decl.{Decl, roll-Decl, map-Decl}
use Rattle.ob_tree.specs.declared.decl.Decl.TheOpen.{Decl-F}
use Rattle.ob_tree.specs.declared.decl.Decl.TheFolds.{ind-Decl, fold-roll-Decl}
use Rattle.ob_types.specs.declared.types.Mode.{Mode}
use Rattle.ob_types.specs.declared.types.Signature.{Signature}
use Rattle.ob_types.specs.declared.value.Value.{Value}
use Rattle.ob_types.specs.declared.desc.Receiver.{Receiver}
use Rattle.ob_types.specs.declared.desc.Receiver.TheVariants as receiver
use Rattle.ob_types.specs.declared.typed.TypedType.{TypedType}
use Rattle.ob_types.specs.declared.typed.TypedProcedure.{TypedProcedure}
use Rattle.ob_types.specs.declared.typed.TypedModule.{TypedModule}
use Rattle.ob_types.specs.declared.typed.TypedStmt.{TypedStmt}
use Rattle.ob_types.specs.TypedView.{stmts_view}
use Rattle.ob_rules.specs.declared.broken.Broken.{Broken}
use Rattle.ob_rules.specs.declared.entity.Entity.{Entity}
use Rattle.ob_rules.specs.declared.entity.Known.{Known}
use Rattle.ob_rules.specs.Judged.{Judged, joined, both, ◌▷◌}
use Rattle.ob_rules.specs.Shapes.{Map}
use Rattle.ob_rules.specs.Names.{Around, map_of, in_unit, found_in_scope, predeclared}
use Rattle.ob_rules.specs.Expressions.{phrase_of, constant_value}
use Rattle.ob_rules.specs.Phrases.{Phrase}
use Rattle.ob_rules.specs.Types.{Typing, Written, written, Parameters, WrittenSection, mode_of, parameter_as, knows, declare_all, with_made, sections, section_name, inner, with_types, is_module_level, marked}
use Rattle.ob_tree.specs.declared.ident.Mark.TheVariants as mark
use Rattle.ob_rules.specs.Statements.{Judging, judging, in_turn}
use Rattle.ob_rules.specs.Headings.{WrittenHeading, Head, Heads, BoundAs, head_of, heading_parameters, self_of, knows_receiver, owner_if, entity_as, head_entity, declared_head, knows_procedure, known_behind, name_twice, types_of, add_heading, forwards_judged, reversed, mark_or_hidden}
use Rattle.ob_rules.specs.Declarations.{Contents, no_contents, together, Declared, declare_if, constant_entity, constant_contents, constant_declared, no_nil, type_entity, types_made, type_declared, typing_as, variable_of, variable_entity, variable_contents, paired_typing, variable_marked, variables_with, made_in, variables_typed, Written_procedure, Declaration, Plain, Procedure, plain_of, procedure_of, type_name_of, in_order, headings_in_order, around_body, procedure_contents, closing_judged, procedure_judged, procedures_judged, body_part, stmts_in, with_bound, binding_at, all_judged, field_judged, heads_later, block, pointers_judged, decl_rule, declaration, is_system, import_entity, import_declared, target_of, imports_declared, around_module, module_of, name_judged, typed_module, if_unbroken, newly}
use Rattle.law_links_names.specs.Trees.{StmtsNamed}
use Rattle.law_links_names.specs.Mentions.{IsAmong, AreMentioned as Mention, ModulesMention}
use Rattle.law_links_names.proofs.Setting.{Setting, S, IsVar, IsProc, Any, V, EntityOk, Stands, AreMentioned}
use Rattle.law_links_names.proofs.Statements.{AreOk, AreJudging, stmts_named, turn_keeps}
use Rattle.law_links_names.proofs.Bodies.{stmts_ok}
use Rattle.law_lists.proofs.Lists.{IfThere, all_back, all_both, all_front, filter_if}

filter_all : {A : Type 0} (Q : A → Type 0) (test : A → Bool) (xs : List A) → AllByRecursion Q xs → AllByRecursion Q (filter test xs)
filter_all Q test [] h = tt
filter_all Q test (x ∷ xs) h = filter_if Q (test x) x (filter test xs) h.0 (filter_all Q test xs h.1)

abbrev AreKnown : Setting → List Known → Type 0
AreKnown k ks = AllByRecursion (λ (n : Known). EntityOk k n.what) ks

-- ---- what is the module's own

own_name : (k : Setting) (u : Around) → Stands k u → {A : Type 0} → bytes_eq u.unit k.unit ≡ false → A
own_name k u s e = absurd (false≢true (sym e ∙ (bytes_eq-Decides u.unit k.unit).1 s.unit))

variable_own : (k : Setting) (u : Around) → Stands k u → (b : Bool) (x : List ℕ) → V k (variable_of b u x)
variable_own k u s true x = λ e. own_name k u s e
variable_own k u s false x = tt

as_own : (k : Setting) (u : Around) → Stands k u → (f : Bool) (x : List ℕ) (g : Signature) → EntityOk k (entity_as f (in_unit u x) g)
as_own k u s true x g = λ e. own_name k u s e
as_own k u s false x g = λ e. own_name k u s e

-- ---- what a part adds

record ContentsOk (k : Setting) (c : Contents) : Type 0 where
  procedures : AllByRecursion (λ (p : TypedProcedure). StmtsNamed k.types k.unit (IsVar k) (IsProc k) Any (stmts_view p.body)) c.procedures
  body : AreOk k c.body

ok_both : (k : Setting) (a b : Contents) → ContentsOk k a → ContentsOk k b → ContentsOk k (together a b)
ok_both k a b g h = record {
  procedures = all_both (λ (p : TypedProcedure). StmtsNamed k.types k.unit (IsVar k) (IsProc k) Any (stmts_view p.body)) a.procedures b.procedures g.procedures h.procedures;
  body = all_both (S k) a.body b.body g.body h.body;
}

record DeclaredOk (k : Setting) (d : Declared) : Type 0 where
  contents : ContentsOk k d.part.contents
  around : Stands k d.around

abbrev GoodPlain : Setting → (Around → Declared) → Type 0
GoodPlain k f = (u : Around) → Stands k u → DeclaredOk k (f u)

if_declared : (k : Setting) (o : Option Known) (u : Around) → Stands k u → (x : Ident) (e : Entity) → EntityOk k e → Stands k (declare_if o u x e)
if_declared k (Some y) u s x e h = s
if_declared k None u s x e h = record { unit = s.unit; shown = s.shown; known = (h, s.known) }

typed_stands : (k : Setting) (u : Around) (ts : List TypedType) → Stands k u → Stands k (with_types u ts)
typed_stands k u ts s = record { unit = s.unit; shown = s.shown; known = s.known }

constant_e : (k : Setting) (o : Option (Mark × Value)) → EntityOk k (constant_entity o)
constant_e k None = tt
constant_e k (Some p) = tt

constant_c : (k : Setting) (b : Bool) (x : Ident) (o : Option (Mark × Value)) → ContentsOk k (constant_contents b x o)
constant_c k true x None = record { procedures = tt; body = tt }
constant_c k true x (Some p) = record { procedures = tt; body = tt }
constant_c k false x o = record { procedures = tt; body = tt }

constant_good : (k : Setting) (d : IdentDef) (x : Phrase) → GoodPlain k (constant_declared d x)
constant_good k d x u s =
    let j = both (marked u false d) (constant_value u x ▷ no_nil x.start) in
    record { contents = constant_c k (is_module_level u) d.ident j.node; around = if_declared k (found_in_scope u d.ident.name) u s d.ident _ (constant_e k j.node) }

type_e : (k : Setting) (o : Option (Mark × Typing)) → EntityOk k (type_entity o)
type_e k None = tt
type_e k (Some p) = tt

type_good : (k : Setting) (d : IdentDef) (w : Written) → GoodPlain k (type_declared d w)
type_good k d w u s =
    let m = newly u d in
    let j = both m (typing_as u (u.path ++ d.ident.name) (mark_or_hidden m.node) w w.name) in
    let v = with_types u (types_made j.node) in
    record { contents = record { procedures = tt; body = tt }; around = if_declared k (found_in_scope v d.ident.name) v (typed_stands k u (types_made j.node) s) d.ident _ (type_e k j.node) }

variable_e : (k : Setting) (u : Around) → Stands k u → (x : Ident) (o : Option (Mark × Typing)) → EntityOk k (variable_entity u x o)
variable_e k u s x None = tt
variable_e k u s x (Some p) = variable_own k u s (is_module_level u) x.name

variable_c : (k : Setting) (x : Ident) (o : Option (Mark × Typing)) → ContentsOk k (variable_contents x o)
variable_c k x None = record { procedures = tt; body = tt }
variable_c k x (Some p) = record { procedures = tt; body = tt }

variables_good : (k : Setting) (ds : List IdentDef) (t : Option Typing) → GoodPlain k (variables_with ds t)
variables_good k [] t u s = record { contents = record { procedures = tt; body = tt }; around = s }
variables_good k (d ∷ ds) t u s =
    let o = paired_typing (marked u true d).node t in
    let a = variable_marked u d.ident (marked u true d) t in
    let rest = variables_good k ds t a.around (if_declared k (found_in_scope u d.ident.name) u s d.ident (variable_entity u d.ident o) (variable_e k u s d.ident o)) in
    record { contents = ok_both k (variable_contents d.ident o) (variables_with ds t a.around).part.contents (variable_c k d.ident o) rest.contents; around = rest.around }

typed_good : (k : Setting) (ds : List IdentDef) (u : Around) → Stands k u → (t : Judged Typing) → DeclaredOk k (variables_typed ds u t)
typed_good k ds u s t =
    let rest = variables_good k ds t.node (with_types u (made_in t.node)) (typed_stands k u (made_in t.node) s) in
    record { contents = ok_both k (record no_contents { types = made_in t.node }) (variables_with ds t.node (with_types u (made_in t.node))).part.contents (record { procedures = tt; body = tt }) rest.contents; around = rest.around }

order_good : (k : Setting) (fs : List (Around → Declared)) → AllByRecursion (GoodPlain k) fs → GoodPlain k (in_order fs)
order_good k [] g u s = record { contents = record { procedures = tt; body = tt }; around = s }
order_good k (f ∷ fs) g u s =
    let a = g.0 u s in
    let b = order_good k fs g.1 (f u).around a.around in
    record { contents = ok_both k (f u).part.contents (in_order fs (f u).around).part.contents a.contents b.contents; around = b.around }

import_e : (k : Setting) (b : Bool) (t : Ident) → EntityOk k (import_entity b t)
import_e k true t = tt
import_e k false t = tt

imports_good : (k : Setting) (is : List Import) → AllByRecursion (GoodPlain k) (map (λ i. import_declared i (target_of i)) is)
imports_good k [] = tt
imports_good k (i ∷ is) = ((λ u s. record { contents = record { procedures = tt; body = tt }; around = if_declared k (found_in_scope u i.ident.name) u s i.ident _ (import_e k (is_system (target_of i).name) (target_of i)) }), imports_good k is)

-- ---- headings

parameter_e : (k : Setting) (u : Around) (m : Mode) (x : Ident) (o : Option Typing) → EntityOk k (parameter_as u m x o)
parameter_e k u m x None = tt
parameter_e k u m x (Some t) = tt

all_known : (k : Setting) (xs : List Ident) (u : Around) (m : Mode) (o : Option Typing) → AreKnown k u.known → AreKnown k (declare_all u m o xs).around.known
all_known k [] u m o h = h
all_known k (x ∷ xs) u m o h = all_known k xs (knows u x (parameter_as u m x o)) m o (parameter_e k u m x o, h)

made_known : (k : Setting) (u : Around) (o : Option Typing) → AreKnown k u.known → AreKnown k (with_made u o).known
made_known k u None h = h
made_known k u (Some t) h = h

sections_known : (k : Setting) (ss : List WrittenSection) (u : Around) (name : List ℕ) (i : ℕ) → AreKnown k u.known → AreKnown k (sections u name i ss).known
sections_known k [] u name i h = h
sections_known k (s ∷ ss) u name i h =
    let t = s.node.typing u (section_name name i) mark.Hidden true in
    let n = declare_all u (mode_of s.is_var) t.node s.names in
    sections_known k ss (with_made n.around t.node) name (i + length s.names) (made_known k n.around t.node (all_known k s.names u (mode_of s.is_var) t.node h))

self_e : (k : Setting) (x : Ident) (r : Receiver) → V k (self_of x r)
self_e k x receiver.Record = tt
self_e k x receiver.Pointer = tt

receiver_known : (k : Setting) (u : Around) (r : Option RawReceiver) (b : Option (Option BoundAs)) → AreKnown k u.known → AreKnown k (knows_receiver u r b).known
receiver_known k u None b h = h
receiver_known k u (Some r) None h = (tt, h)
receiver_known k u (Some r) (Some None) h = (tt, h)
receiver_known k u (Some r) (Some (Some b)) h = (self_e k r.ident b.receiver, h)

record HeadOk (k : Setting) (h : Head) : Type 0 where
  inside : AreKnown k h.inside
  known : AreKnown k h.known

head_good : (k : Setting) (u : Around) → Stands k u → (w : WrittenHeading) (f : Bool) → HeadOk k (head_of u w f)
head_good k u s w f =
    let b = owner_if u w.receiver in
    let g = heading_parameters u w f b in
    record { inside = filter_all (λ (n : Known). EntityOk k n.what) _ g.known (sections_known k w.parameters.sections (knows_receiver (inner u) w.receiver b.node) _ 1 (receiver_known k (inner u) w.receiver b.node s.known)); known = s.known }

record HeadsOk (k : Setting) (hs : Heads) : Type 0 where
  around : Stands k hs.around
  before : AllByRecursion (HeadOk k) hs.before

head_e : (k : Setting) (u : Around) → Stands k u → (h : Head) (o : Option Parameters) → EntityOk k (head_entity u h o)
head_e k u s h None = tt
head_e k u s h (Some p) = as_own k u s h.forward h.path p.signature

procedure_stands : (k : Setting) (u : Around) → Stands k u → (h : Head) (b : Bool) → Stands k (knows_procedure u h b)
procedure_stands k u s h true = s
procedure_stands k u s h false = record { unit = s.unit; shown = s.shown; known = (head_e k u s h h.parameters, s.known) }

behind_stands : (k : Setting) (u : Around) → Stands k u → (t : Bool) (h : Head) → Stands k (known_behind u t h)
behind_stands k u s true h = s
behind_stands k u s false h = procedure_stands k u s h h.is_bound

declared_ok : (k : Setting) (t : Bool) (h : Head) (u : Around) → AreKnown k h.inside → AreKnown k u.known → HeadOk k (declared_head t h u)
declared_ok k true h u i n = record { inside = i; known = n }
declared_ok k false h u i n = record { inside = i; known = n }

add_good : (k : Setting) (hs : Heads) → HeadsOk k hs → (w : WrittenHeading) (f : Bool) → HeadsOk k (add_heading hs w f)
add_good k hs g w f =
    let d = head_of hs.around w f in
    let e = head_good k hs.around g.around w f in
    let v = with_types hs.around (types_of d.parameters) in
    let t = name_twice v hs.before d in
    let s = behind_stands k v (typed_stands k hs.around (types_of d.parameters) g.around) t d in
    record { around = s; before = (declared_ok k t d (known_behind v t d) e.inside s.known, g.before) }

headings_good : (k : Setting) (ps : List Written_procedure) (hs : Heads) → HeadsOk k hs → HeadsOk k (headings_in_order ps hs)
headings_good k [] hs g = g
headings_good k (p ∷ ps) hs g = headings_good k ps (add_heading hs p.heading p.forward) (add_good k hs g p.heading p.forward)

reversed_all : {A : Type 0} (Q : A → Type 0) (xs : List A) → AllByRecursion Q xs → AllByRecursion Q (reversed xs)
reversed_all Q [] h = tt
reversed_all Q (x ∷ xs) h = all_both Q (reversed xs) (x ∷ []) (reversed_all Q xs h.1) (h.0, tt)

-- ---- procedures

abbrev GoodProcedure : Setting → Written_procedure → Type 0
GoodProcedure k p = (u : Around) → Stands k u → AreMentioned k (p.inside u).notes.objects → ContentsOk k (p.inside u).contents

typed_ok : (k : Setting) (m : Map) (h : Head) (o : Option Parameters) (c : Contents) → ContentsOk k c → ContentsOk k (procedure_contents m (record h { parameters = o }) c)
typed_ok k m h None c g = record { procedures = g.procedures; body = tt }
typed_ok k m h (Some p) c g = record { procedures = (stmts_named k c.body g.body, g.procedures); body = tt }

judged_ok : (k : Setting) (u : Around) → Stands k u → (p : Written_procedure) → GoodProcedure k p → (h : Head) → HeadOk k h → (f : Bool) → AreMentioned k (procedure_judged u p h f).notes.objects → ContentsOk k (procedure_judged u p h f).contents
judged_ok k u s p g h e true n = record { procedures = tt; body = tt }
judged_ok k u s p g h e false n =
    let i = p.inside (around_body u h) in
    let m = all_back k.Mentioned (closing_judged h.name p.closing).objects i.notes.objects (all_back k.Mentioned h.notes.objects (joined (closing_judged h.name p.closing) i.notes).objects n) in
    typed_ok k (map_of u) h h.parameters i.contents (g (around_body u h) (record { unit = s.unit; shown = s.shown; known = all_both (λ (n : Known). EntityOk k n.what) h.inside h.known e.inside e.known }) m)

procedures_ok : (k : Setting) (u : Around) → Stands k u → (ps : List Written_procedure) → AllByRecursion (GoodProcedure k) ps → (hs : List Head) → AllByRecursion (HeadOk k) hs → AreMentioned k (procedures_judged u ps hs).notes.objects → ContentsOk k (procedures_judged u ps hs).contents
procedures_ok k u s [] g hs e n = record { procedures = tt; body = tt }
procedures_ok k u s (p ∷ ps) g [] e n = record { procedures = tt; body = tt }
procedures_ok k u s (p ∷ ps) g (h ∷ hs) e n =
    let a = procedure_judged u p h p.forward in
    let b = procedures_judged u ps hs in
    ok_both k a.contents b.contents (judged_ok k u s p g.0 h e.0 p.forward (all_front k.Mentioned a.notes.objects b.notes.objects n)) (procedures_ok k u s ps g.1 hs e.1 (all_back k.Mentioned a.notes.objects b.notes.objects n))

body_ok : (k : Setting) (j : Judged (List TypedStmt)) → IfThere (AreOk k) j.node → ContentsOk k (body_part j).contents
body_ok k j h = record { procedures = tt; body = by j.node h }
  where
    by : (o : Option (List TypedStmt)) → IfThere (AreOk k) o → AreOk k (stmts_in o)
    by None h = tt
    by (Some ss) h = h

-- ---- blocks

abbrev GoodDeclaration : Setting → Declaration → Type 0
GoodDeclaration k (Plain x f) = GoodPlain k f
GoodDeclaration k (Procedure p) = GoodProcedure k p

abbrev AreGood : Setting → List Declaration → Type 0
AreGood k ds = AllByRecursion (GoodDeclaration k) ds

plains : (k : Setting) (ds : List Declaration) → AreGood k ds → AllByRecursion (GoodPlain k) (filter_map plain_of ds)
plains k [] g = tt
plains k (Plain x f ∷ ds) g = (g.0, plains k ds g.1)
plains k (Procedure p ∷ ds) g = plains k ds g.1

written_procedures : (k : Setting) (ds : List Declaration) → AreGood k ds → AllByRecursion (GoodProcedure k) (filter_map procedure_of ds)
written_procedures k [] g = tt
written_procedures k (Plain x f ∷ ds) g = written_procedures k ds g.1
written_procedures k (Procedure p ∷ ds) g = (g.0, written_procedures k ds g.1)

block_ok : (k : Setting) (ds : List Declaration) → AreGood k ds → (body : List Judging) → AreJudging k body → (u : Around) → Stands k u → AreMentioned k (block ds body u).notes.objects → ContentsOk k (block ds body u).contents
block_ok k ds g body j u s n =
    let names = filter_map type_name_of ds in
    let v : Around = record u { later_types = names } in
    let d = in_order (filter_map plain_of ds) v in
    let ps = filter_map procedure_of ds in
    let start : Heads = record { around = d.around; before = [] } in
    let hs = headings_in_order ps start in
    let b = binding_at (is_module_level u) hs.around (reversed hs.before) in
    let U = with_bound hs.around b in
    let Q = procedures_judged U ps (reversed hs.before) in
    let B = body_part (in_turn body U) in
    let later = d.part.notes.later ++ heads_later hs.before in
    let m = joined b.notes (joined (all_judged (field_judged (map_of U)) later) (forwards_judged (map_of hs.around) (reversed hs.before) (reversed hs.before))) in
    let front = d.part.notes.objects ++ (pointers_judged hs.around later).objects in
    let two = all_back k.Mentioned m.objects (Q.notes.objects ++ B.notes.objects) (all_back k.Mentioned front (m.objects ++ (Q.notes.objects ++ B.notes.objects)) n) in
    let o : DeclaredOk k d = order_good k (filter_map plain_of ds) (plains k ds g) v (record { unit = s.unit; shown = s.shown; known = s.known }) in
    let h : HeadsOk k hs = headings_good k ps start (record { around = o.around; before = tt }) in
    let w : Stands k U = record { unit = h.around.unit; shown = h.around.shown; known = h.around.known } in
    let q : ContentsOk k Q.contents = procedures_ok k U w ps (written_procedures k ds g) (reversed hs.before) (reversed_all (HeadOk k) hs.before h.before) (all_front k.Mentioned Q.notes.objects B.notes.objects two) in
    let c : ContentsOk k B.contents = body_ok k (in_turn body U) (turn_keeps k U w body j (all_back k.Mentioned Q.notes.objects B.notes.objects two)) in
    ok_both k d.part.contents (together no_contents (together (record no_contents { bound = b.own }) (together Q.contents B.contents))) o.contents
    (ok_both k no_contents (together (record no_contents { bound = b.own }) (together Q.contents B.contents)) (record { procedures = tt; body = tt })
    (ok_both k (record no_contents { bound = b.own }) (together Q.contents B.contents) (record { procedures = tt; body = tt }) (ok_both k Q.contents B.contents q c)))

module _ (k : Setting) where
  abbrev PD : Decl → Type 0
  PD x = GoodDeclaration k (declaration x)

  abbrev SD : Type 0
  SD = (x : Decl) × PD x

  all_of : (xs : List SD) → AreGood k (map declaration (map (λ (x : SD). x.0) xs))
  all_of [] = tt
  all_of (x ∷ xs) = (x.1, all_of xs)

  layer : (x : Decl-F Decl) → GoodDeclaration k (decl_rule (map-Decl Decl Declaration declaration x)) → PD (roll-Decl x)
  layer x h = subst (GoodDeclaration k) (sym (fold-roll-Decl Declaration decl_rule x)) h

  decl_cases : (y : Decl-F SD) → PD (roll-Decl (map-Decl SD Decl (λ x. x.0) y))
  decl_cases (Decl-F.Constant d x) = layer (Decl-F.Constant d x) (constant_good k d (phrase_of x))
  decl_cases (Decl-F.NamedType d n) = layer (Decl-F.NamedType d n) (type_good k d (written n))
  decl_cases (Decl-F.Variables ds n) = layer (Decl-F.Variables ds n) (λ u s. typed_good k ds u s _)
  decl_cases (Decl-F.Procedure h ds body closing) = layer (Decl-F.Procedure h (map (λ (x : SD). x.0) ds) body closing) (λ u s n. block_ok k (map declaration (map (λ (x : SD). x.0) ds)) (all_of ds) (map judging body) (stmts_ok k body) u s n)
  decl_cases (Decl-F.Forward h) = layer (Decl-F.Forward h) (λ u s n. record { procedures = tt; body = tt })

  decl_good : (x : Decl) → PD x
  decl_good = ind-Decl PD (λ x y is. subst (λ z. PD (roll-Decl z)) is (decl_cases y))

  decls_good : (xs : List Decl) → AreGood k (map declaration xs)
  decls_good [] = tt
  decls_good (x ∷ xs) = (decl_good x, decls_good xs)

-- ---- modules

predeclared_known : (k : Setting) → AreKnown k predeclared
predeclared_known k = (tt, (tt, (tt, (tt, (tt, (tt, (tt, (tt, (tt, (tt, (tt, (tt, (tt, (tt, (tt, (tt, (tt, (tt, (tt, (tt, (tt, (tt, (tt, (tt, (tt, (tt, (tt, (tt, (tt, (tt, (tt, tt)))))))))))))))))))))))))))))))

among_front : (qs : List QName) (ps : List QName) → AllByRecursion (IsAmong ps) qs → (p : QName) → AllByRecursion (IsAmong (p ∷ ps)) qs
among_front [] ps h p = tt
among_front (q ∷ qs) ps h p = (inr h.0, among_front qs ps h.1 p)

all_among : (qs : List QName) → AllByRecursion (IsAmong qs) qs
all_among [] = tt
all_among (q ∷ qs) = (inl refl, among_front qs qs (all_among qs) q)

unbroken_is : (bs : List Broken) (x m : TypedModule) → if_unbroken bs x ≡ Some m → x ≡ m
unbroken_is [] x m e = cc
unbroken_is (b ∷ bs) x m e = absurd cc

pub modules_mention : ModulesMention
modules_mention shown types tree m e =
    let p = module_of shown tree.name tree.imports (map declaration tree.decls) (map judging tree.body) tree.closing in
    let x = typed_module shown tree.name tree.imports (map declaration tree.decls) p in
    let k : Setting = record { types = types; unit = tree.name.name; shown = shown; Mentioned = IsAmong p.notes.objects } in
    let u = around_module shown tree.name.name (map declaration tree.decls) in
    let d = imports_declared tree.imports u in
    let b = block (map declaration tree.decls) (map judging tree.body) d.around in
    let n : AreMentioned k p.notes.objects = all_among p.notes.objects in
    let r = all_back k.Mentioned d.part.notes.objects b.notes.objects (all_back k.Mentioned (name_judged tree.name tree.closing).objects (d.part.notes.objects ++ b.notes.objects) n) in
    let i : DeclaredOk k d = order_good k (map (λ i. import_declared i (target_of i)) tree.imports) (imports_good k tree.imports) u (record { unit = refl; shown = refl; known = predeclared_known k }) in
    let c : ContentsOk k b.contents = block_ok k (map declaration tree.decls) (decls_good k tree.decls) (map judging tree.body) (stmts_ok k tree.body) d.around i.around r in
    let o : ContentsOk k (together d.part.contents b.contents) = ok_both k d.part.contents b.contents i.contents c in
    subst (Mention shown types) (unbroken_is p.notes.broken x m e) (record { body = stmts_named k p.contents.body o.body; procedures = procedures_view k p.contents.procedures o.procedures })
  where
    procedures_view : (k : Setting) (ps : List TypedProcedure) → AllByRecursion (λ (p : TypedProcedure). StmtsNamed k.types k.unit (IsVar k) (IsProc k) Any (stmts_view p.body)) ps → AllByRecursion (λ (p : TypedProcedure). StmtsNamed k.types k.unit (IsVar k) (IsProc k) Any (stmts_view p.body)) ps
    procedures_view k ps h = h
