-- Declarations, procedures and modules name record types, and the bases of their records are such.
use Rattle.std.proofs.Common.{◌≡◌, ◌≢◌, ℕ, Bool, true, false, List, [], ◌∷◌, ◌++◌, length, map, Option, Some, None, refl, sym, ap, subst, ◌∙◌, inl, inr, cond, arith}
use Rattle.std.specs.Prelude.{◌⊎◌, bytes_eq}
use Rattle.std.specs.List.{AllByRecursion, filter_map, find}
use Rattle.std.proofs.lemmas.Slice.Eq.{bytes_eq-Decides}
use Rattle.ob_tree.specs.declared.names.QName.{QName}
use Rattle.ob_tree.specs.declared.ident.Ident.{Ident}
use Rattle.ob_tree.specs.declared.ident.IdentDef.{IdentDef}
use Rattle.ob_tree.specs.declared.ident.Import.{Import}
use Rattle.ob_tree.specs.declared.ident.Mark.{Mark}
use Rattle.ob_tree.specs.declared.ident.Mark.TheVariants as mark
use Rattle.ob_tree.specs.declared.ident.Qualident.{Qualident}
use Rattle.ob_tree.specs.declared.decl.Module.{Module as Tree}
use Rattle.ob_tree.specs.declared.decl.Decl.{Decl, roll-Decl, map-Decl}
use Rattle.ob_tree.specs.declared.decl.Decl.TheOpen.{Decl-F}
use Rattle.ob_tree.specs.declared.decl.Decl.TheFolds.{ind-Decl, fold-roll-Decl}
use Rattle.ob_types.specs.declared.value.Value.{Value}
use Rattle.ob_types.specs.declared.desc.Desc.{Desc}
use Rattle.ob_types.specs.declared.desc.Desc.TheVariants as desc
use Rattle.ob_types.specs.declared.typed.TypedType.{TypedType}
use Rattle.ob_types.specs.declared.typed.TypedProcedure.{TypedProcedure}
use Rattle.ob_types.specs.declared.typed.TypedModule.{TypedModule}
use Rattle.ob_types.specs.declared.typed.TypedStmt.{TypedStmt}
use Rattle.ob_types.specs.TypedView.{stmts_view}
use Rattle.ob_rules.specs.declared.broken.Broken.{Broken}
use Rattle.ob_rules.specs.declared.entity.Entity.{Entity}
use Rattle.ob_rules.specs.declared.entity.Known.{Known}
use Rattle.ob_rules.specs.Judged.{Judged, joined, both, ◌▷◌}
use Rattle.ob_rules.specs.Shapes.{Map}
use Rattle.ob_rules.specs.Names.{Around, map_of, found_in_scope}
use Rattle.ob_rules.specs.Expressions.{phrase_of, constant_value}
use Rattle.ob_rules.specs.Phrases.{Phrase}
use Rattle.ob_rules.specs.Types.{Typing, Written, written, Parameters, with_types, is_module_level, marked}
use Rattle.ob_rules.specs.Statements.{Judging, judging, in_turn}
use Rattle.ob_rules.specs.Headings.{Head, Heads, forwards_judged, reversed, mark_or_hidden, types_of}
use Rattle.ob_rules.specs.Declarations.{Contents, no_contents, together, Declared, declare_if, constant_contents, constant_entity, constant_declared, no_nil, equated, typing_as, type_entity, types_made, type_declared, variable_entity, variable_contents, paired_typing, variable_marked, variables_with, made_in, first_name, variables_typed, Written_procedure, Declaration, Plain, Procedure, plain_of, procedure_of, type_name_of, in_order, headings_in_order, around_body, types_of_head, procedure_contents, closing_judged, procedure_judged, procedures_judged, body_part, stmts_in, with_bound, binding_at, all_judged, field_judged, heads_later, block, pointers_judged, decl_rule, declaration, import_declared, target_of, imports_declared, around_module, module_of, name_judged, described, all_described, typed_module, if_unbroken, newly}
use Rattle.std.specs.Prelude.{codes}
use Rattle.law_names_distinct.specs.Distinct.{AreDistinct}
use Rattle.law_links_types.specs.Trees.{StmtsRecorded, TypeRecorded, ModuleRecorded}
use Rattle.law_links_types.specs.Told.{core, is_linked, IsTold, AreTold, ModulesRecorded}
use Rattle.law_links_types.proofs.Setting.{Setting, HasType, S, Stands, Keeps, any_keeps, both_keep, made_keeps, IsFound, found_in}
use Rattle.law_links_types.proofs.Statements.{AreOk, AreJudging, stmts_named, turn_keeps}
use Rattle.law_links_types.proofs.Bodies.{stmts_ok}
use Rattle.law_links_types.proofs.Typings.{Have, AreMade, TypingOk, IsGood, typed_stands}
use Rattle.law_links_types.proofs.Written.{written_good}
use Rattle.law_links_types.proofs.Heads.{received_ok, HeadOk, IsSettled, AreSettled, IsWritten, HeadsOk, headings_ok, reversed_all, reversed_back, as_many, binding_has}
use Rattle.law_lists.proofs.Lists.{Anything, IfThere, all_back, all_both, all_front, back_empty, differ_false, front_empty}

-- ---- what a part adds

abbrev ProcedureOk : Setting → TypedProcedure → Type 0
ProcedureOk k p = StmtsRecorded k.types k.unit (stmts_view p.body)

record ContentsOk (k : Setting) (c : Contents) : Type 0 where
  types : AreMade k c.types
  procedures : AllByRecursion (ProcedureOk k) c.procedures
  body : AreOk k c.body
  bound : Have k c.bound

ok_both : (k : Setting) (a b : Contents) → ContentsOk k a → ContentsOk k b → ContentsOk k (together a b)
ok_both k a b g h = record {
  types = all_both (λ (t : TypedType). TypeRecorded k.types k.unit t.desc) a.types b.types g.types h.types;
  procedures = all_both (ProcedureOk k) a.procedures b.procedures g.procedures h.procedures;
  body = all_both (S k) a.body b.body g.body h.body;
  bound = all_both (HasType k) a.bound b.bound g.bound h.bound;
}

record DeclaredOk (k : Setting) (d : Declared) : Type 0 where
  contents : ContentsOk k d.part.contents
  around : Stands k d.around

-- a declaration whose types are the module's
abbrev GoodPlain : Setting → (Around → Declared) → Type 0
GoodPlain k f = (u : Around) → Stands k u → Have k (f u).part.contents.types → DeclaredOk k (f u)

if_declared : (k : Setting) (o : Option Known) (u : Around) → Stands k u → (x : Ident) (e : Entity) → Stands k (declare_if o u x e)
if_declared k (Some y) u s x e = s
if_declared k None u s x e = record { unit = s.unit; shown = s.shown; own = s.own; receiver = s.receiver }

constant_c : (k : Setting) (b : Bool) (x : Ident) (o : Option (Mark × Value)) → ContentsOk k (constant_contents b x o)
constant_c k true x None = record { types = tt; procedures = tt; body = tt; bound = tt }
constant_c k true x (Some p) = record { types = tt; procedures = tt; body = tt; bound = tt }
constant_c k false x o = record { types = tt; procedures = tt; body = tt; bound = tt }

constant_good : (k : Setting) (d : IdentDef) (x : Phrase) → GoodPlain k (constant_declared d x)
constant_good k d x u s h =
    let j = both (marked u false d) (constant_value u x ▷ no_nil x.start) in
    record { contents = constant_c k (is_module_level u) d.ident j.node; around = if_declared k (found_in_scope u d.ident.name) u s d.ident (constant_entity j.node) }

typing_ok : (k : Setting) (u : Around) → Stands k u → (name : List ℕ) (m : Mark) (w : Written) → IsGood k w → (o : Option Qualident) → Keeps k (TypingOk k) (typing_as u name m w o)
typing_ok k u s name m w g (Some q) = made_keeps k (TypingOk k) (TypingOk k) (equated u name m) (w.typing u name m false) (g u s name m false) (λ t h. λ i. (tt, h i.1))
typing_ok k u s name m w g None = g u s name m false

made_ok : (k : Setting) (o : Option (Mark × Typing)) → IfThere (λ (p : Mark × Typing). Unit {0} × TypingOk k p.1) o → Have k (types_made o) → AreMade k (types_made o)
made_ok k None h i = tt
made_ok k (Some p) h i = h.1 i

type_good : (k : Setting) (d : IdentDef) (w : Written) → IsGood k w → GoodPlain k (type_declared d w)
type_good k d w g u s h =
    let m = newly u d in
    let t = typing_as u (u.path ++ d.ident.name) (mark_or_hidden m.node) w w.name in
    let j = both m t in
    let v = with_types u (types_made j.node) in
    let is : IfThere (λ (p : Mark × Typing). Unit {0} × TypingOk k p.1) j.node = both_keep k Anything (TypingOk k) m t (any_keeps k m) (typing_ok k u s (u.path ++ d.ident.name) (mark_or_hidden m.node) w g w.name) in
    record {
      contents = record { types = made_ok k j.node is h; procedures = tt; body = tt; bound = tt };
      around = if_declared k (found_in_scope v d.ident.name) v (typed_stands k u (types_made j.node) s h) d.ident (type_entity j.node);
    }

variable_c : (k : Setting) (x : Ident) (o : Option (Mark × Typing)) → ContentsOk k (variable_contents x o)
variable_c k x None = record { types = tt; procedures = tt; body = tt; bound = tt }
variable_c k x (Some p) = record { types = tt; procedures = tt; body = tt; bound = tt }

variables_good : (k : Setting) (ds : List IdentDef) (t : Option Typing) (u : Around) → Stands k u → DeclaredOk k (variables_with ds t u)
variables_good k [] t u s = record { contents = record { types = tt; procedures = tt; body = tt; bound = tt }; around = s }
variables_good k (d ∷ ds) t u s =
    let o = paired_typing (marked u true d).node t in
    let a = variable_marked u d.ident (marked u true d) t in
    let rest = variables_good k ds t a.around (if_declared k (found_in_scope u d.ident.name) u s d.ident (variable_entity u d.ident o)) in
    record { contents = ok_both k (variable_contents d.ident o) (variables_with ds t a.around).part.contents (variable_c k d.ident o) rest.contents; around = rest.around }

in_made : (k : Setting) (o : Option Typing) → IfThere (TypingOk k) o → Have k (made_in o) → AreMade k (made_in o)
in_made k None h i = tt
in_made k (Some t) h i = h i

typed_good : (k : Setting) (ds : List IdentDef) (u : Around) → Stands k u → (t : Judged Typing) → Keeps k (TypingOk k) t → Have k (variables_typed ds u t).part.contents.types → DeclaredOk k (variables_typed ds u t)
typed_good k ds u s t g h =
    let there = all_front (HasType k) (made_in t.node) _ h in
    let rest = variables_good k ds t.node (with_types u (made_in t.node)) (typed_stands k u (made_in t.node) s there) in
    record { contents = ok_both k (record no_contents { types = made_in t.node }) (variables_with ds t.node (with_types u (made_in t.node))).part.contents (record { types = in_made k t.node g there; procedures = tt; body = tt; bound = tt }) rest.contents; around = rest.around }

order_good : (k : Setting) (fs : List (Around → Declared)) → AllByRecursion (GoodPlain k) fs → GoodPlain k (in_order fs)
order_good k [] g u s h = record { contents = record { types = tt; procedures = tt; body = tt; bound = tt }; around = s }
order_good k (f ∷ fs) g u s h =
    let a = g.0 u s (all_front (HasType k) (f u).part.contents.types (in_order fs (f u).around).part.contents.types h) in
    let b = order_good k fs g.1 (f u).around a.around (all_back (HasType k) (f u).part.contents.types (in_order fs (f u).around).part.contents.types h) in
    record { contents = ok_both k (f u).part.contents (in_order fs (f u).around).part.contents a.contents b.contents; around = b.around }

imports_good : (k : Setting) (is : List Import) → AllByRecursion (GoodPlain k) (map (λ i. import_declared i (target_of i)) is)
imports_good k [] = tt
imports_good k (i ∷ is) = ((λ u s h. record { contents = record { types = tt; procedures = tt; body = tt; bound = tt }; around = if_declared k (found_in_scope u i.ident.name) u s i.ident _ }), imports_good k is)

-- ---- procedures

abbrev GoodProcedure : Setting → Written_procedure → Type 0
GoodProcedure k p = (u : Around) → Stands k u → (p.inside u).notes.broken ≡ [] → Have k (p.inside u).contents.types → ContentsOk k (p.inside u).contents

same_have : (k : Setting) (o : Option Parameters) → Have k (types_of_head o) → Have k (types_of o)
same_have k None h = h
same_have k (Some p) h = h

same_made : (k : Setting) (o : Option Parameters) → AreMade k (types_of o) → AreMade k (types_of_head o)
same_made k None h = h
same_made k (Some p) h = h

typed_ok : (k : Setting) (m : Map) (h : Head) (o : Option Parameters) (c : Contents) → AreMade k (types_of_head o) → ContentsOk k c → ContentsOk k (procedure_contents m (record h { parameters = o }) c)
typed_ok k m h None c i g = record { types = g.types; procedures = g.procedures; body = tt; bound = tt }
typed_ok k m h (Some p) c i g = record { types = all_both (λ (t : TypedType). TypeRecorded k.types k.unit t.desc) p.made c.types i g.types; procedures = (stmts_named k c.body g.body, g.procedures); body = tt; bound = tt }

judged_ok : (k : Setting) (u : Around) → Stands k u → (p : Written_procedure) → GoodProcedure k p → (h : Head) → HeadOk k h → (f : Bool) → (procedure_judged u p h f).notes.broken ≡ [] → Have k (procedure_judged u p h f).contents.types → ContentsOk k (procedure_judged u p h f).contents
judged_ok k u s p g h e true n t = record { types = same_made k h.parameters e.types; procedures = tt; body = tt; bound = tt }
judged_ok k u s p g h e false n t =
    let v = around_body u h in
    let i = p.inside v in
    let quiet = back_empty (closing_judged h.name p.closing).broken i.notes.broken (back_empty h.notes.broken (joined (closing_judged h.name p.closing) i.notes).broken n) in
    typed_ok k (map_of u) h h.parameters i.contents (same_made k h.parameters e.types)
    (g v (record { unit = s.unit; shown = s.shown; own = s.own; receiver = received_ok k h.self h.bound e.bound }) quiet (all_back (HasType k) (types_of_head h.parameters) i.contents.types t))

procedures_ok : (k : Setting) (u : Around) → Stands k u → (ps : List Written_procedure) → AllByRecursion (GoodProcedure k) ps → (hs : List Head) → AllByRecursion (HeadOk k) hs → (procedures_judged u ps hs).notes.broken ≡ [] → Have k (procedures_judged u ps hs).contents.types → ContentsOk k (procedures_judged u ps hs).contents
procedures_ok k u s [] g hs e n t = record { types = tt; procedures = tt; body = tt; bound = tt }
procedures_ok k u s (p ∷ ps) g [] e n t = record { types = tt; procedures = tt; body = tt; bound = tt }
procedures_ok k u s (p ∷ ps) g (h ∷ hs) e n t =
    let a = procedure_judged u p h p.forward in
    let b = procedures_judged u ps hs in
    ok_both k a.contents b.contents (judged_ok k u s p g.0 h e.0 p.forward (front_empty a.notes.broken b.notes.broken n) (all_front (HasType k) a.contents.types b.contents.types t))
    (procedures_ok k u s ps g.1 hs e.1 (back_empty a.notes.broken b.notes.broken n) (all_back (HasType k) a.contents.types b.contents.types t))

-- where nothing is broken, and all types are the module's, each heading is settled
settled : (k : Setting) (u : Around) (p : Written_procedure) (h : Head) (f : Bool) → (procedure_judged u p h f).notes.broken ≡ [] → Have k (procedure_judged u p h f).contents.types → IsSettled k h
settled k u p h true n t = (n, same_have k h.parameters t)
settled k u p h false n t = (front_empty h.notes.broken _ n, same_have k h.parameters (all_front (HasType k) (types_of_head h.parameters) _ t))

all_settled : (k : Setting) (u : Around) (ps : List Written_procedure) (hs : List Head) → length ps ≡ length hs → (procedures_judged u ps hs).notes.broken ≡ [] → Have k (procedures_judged u ps hs).contents.types → AreSettled k hs
all_settled k u [] [] l n t = tt
all_settled k u [] (h ∷ hs) l n t = absurd (omega (arith, l))
all_settled k u (p ∷ ps) [] l n t = tt
all_settled k u (p ∷ ps) (h ∷ hs) l n t =
    let a = procedure_judged u p h p.forward in
    let b = procedures_judged u ps hs in
    (settled k u p h p.forward (front_empty a.notes.broken b.notes.broken n) (all_front (HasType k) a.contents.types b.contents.types t), all_settled k u ps hs (omega (arith, l)) (back_empty a.notes.broken b.notes.broken n) (all_back (HasType k) a.contents.types b.contents.types t))

body_ok : (k : Setting) (j : Judged (List TypedStmt)) → IfThere (AreOk k) j.node → ContentsOk k (body_part j).contents
body_ok k j h = record { types = tt; procedures = tt; body = by j.node h; bound = tt }
  where
    by : (o : Option (List TypedStmt)) → IfThere (AreOk k) o → AreOk k (stmts_in o)
    by None h = tt
    by (Some ss) h = h

-- ---- blocks

abbrev GoodDeclaration : Setting → Declaration → Type 0
GoodDeclaration k (Plain x f) = GoodPlain k f
GoodDeclaration k (Procedure p) = IsWritten p × GoodProcedure k p

abbrev AreGood : Setting → List Declaration → Type 0
AreGood k ds = AllByRecursion (GoodDeclaration k) ds

plains : (k : Setting) (ds : List Declaration) → AreGood k ds → AllByRecursion (GoodPlain k) (filter_map plain_of ds)
plains k [] g = tt
plains k (Plain x f ∷ ds) g = (g.0, plains k ds g.1)
plains k (Procedure p ∷ ds) g = plains k ds g.1

all_written : (k : Setting) (ds : List Declaration) → AreGood k ds → AllByRecursion IsWritten (filter_map procedure_of ds)
all_written k [] g = tt
all_written k (Plain x f ∷ ds) g = all_written k ds g.1
all_written k (Procedure p ∷ ds) g = (g.0.0, all_written k ds g.1)

good_procedures : (k : Setting) (ds : List Declaration) → AreGood k ds → AllByRecursion (GoodProcedure k) (filter_map procedure_of ds)
good_procedures k [] g = tt
good_procedures k (Plain x f ∷ ds) g = good_procedures k ds g.1
good_procedures k (Procedure p ∷ ds) g = (g.0.1, good_procedures k ds g.1)

block_ok : (k : Setting) (ds : List Declaration) → AreGood k ds → (body : List Judging) → AreJudging k body → (u : Around) → Stands k u → (block ds body u).notes.broken ≡ [] → Have k (block ds body u).contents.types → ContentsOk k (block ds body u).contents
block_ok k ds g body j u s n t =
    let names = filter_map type_name_of ds in
    let v : Around = record u { later_types = names } in
    let d = in_order (filter_map plain_of ds) v in
    let ps = filter_map procedure_of ds in
    let start : Heads = record { around = d.around; before = [] } in
    let hs = headings_in_order ps start in
    let heads = reversed hs.before in
    let b = binding_at (is_module_level u) hs.around heads in
    let U = with_bound hs.around b in
    let Q = procedures_judged U ps heads in
    let B = body_part (in_turn body U) in
    let later = d.part.notes.later ++ heads_later hs.before in
    let m = joined b.notes (joined (all_judged (field_judged (map_of U)) later) (forwards_judged (map_of hs.around) heads heads)) in
    let front = d.part.notes.broken ++ (pointers_judged hs.around later).broken in
    let two = back_empty m.broken (Q.notes.broken ++ B.notes.broken) (back_empty front (m.broken ++ (Q.notes.broken ++ B.notes.broken)) n) in
    let quiet = front_empty Q.notes.broken B.notes.broken two in
    let its = all_front (HasType k) Q.contents.types [] (all_back (HasType k) d.part.contents.types (Q.contents.types ++ []) t) in
    let o : DeclaredOk k d = order_good k (filter_map plain_of ds) (plains k ds g) v (record { unit = s.unit; shown = s.shown; own = s.own; receiver = s.receiver }) (all_front (HasType k) d.part.contents.types (Q.contents.types ++ []) t) in
    let begun : AreSettled k [] → HeadsOk k start = λ i. record { around = o.around; before = tt } in
    let done = reversed_back (IsSettled k) hs.before (all_settled k U ps heads (as_many ps d.around) quiet its) in
    let h : HeadsOk k hs = headings_ok k ps (all_written k ds g) start begun done in
    let has : Have k b.own = binding_has k (is_module_level u) hs.around heads h.around.own in
    let w : Stands k U = record { unit = h.around.unit; shown = h.around.shown; own = has; receiver = h.around.receiver } in
    let q : ContentsOk k Q.contents = procedures_ok k U w ps (good_procedures k ds g) heads (reversed_all (HeadOk k) hs.before h.before) quiet its in
    let c : ContentsOk k B.contents = body_ok k (in_turn body U) (turn_keeps k U w body j) in
    ok_both k d.part.contents (together no_contents (together (record no_contents { bound = b.own }) (together Q.contents B.contents))) o.contents
    (ok_both k no_contents (together (record no_contents { bound = b.own }) (together Q.contents B.contents)) (record { types = tt; procedures = tt; body = tt; bound = tt })
    (ok_both k (record no_contents { bound = b.own }) (together Q.contents B.contents) (record { types = tt; procedures = tt; body = tt; bound = has }) (ok_both k Q.contents B.contents q c)))

module _ (k : Setting) where
  abbrev PD : Decl → Type 0
  PD x = GoodDeclaration k (declaration x)

  abbrev SD : Type 0
  SD = (x : Decl) × PD x

  all_of : (xs : List SD) → AreGood k (map declaration (map (λ (x : SD). x.0) xs))
  all_of [] = tt
  all_of (x ∷ xs) = (x.1, all_of xs)

  layer : (x : Decl-F Decl) → GoodDeclaration k (decl_rule (map-Decl Decl Declaration declaration x)) → PD (roll-Decl x)
  layer x h = subst (GoodDeclaration k) (sym (fold-roll-Decl Declaration decl_rule x)) h

  decl_cases : (y : Decl-F SD) → PD (roll-Decl (map-Decl SD Decl (λ x. x.0) y))
  decl_cases (Decl-F.Constant d x) = layer (Decl-F.Constant d x) (constant_good k d (phrase_of x))
  decl_cases (Decl-F.NamedType d n) = layer (Decl-F.NamedType d n) (type_good k d (written n) (written_good k n))
  decl_cases (Decl-F.Variables ds n) = layer (Decl-F.Variables ds n) (λ u s h. typed_good k ds u s _ (written_good k n u s (u.path ++ first_name ds ++ codes ":") mark.Hidden false) h)
  decl_cases (Decl-F.Procedure h ds body closing) = layer (Decl-F.Procedure h (map (λ (x : SD). x.0) ds) body closing) ((h, refl), λ u s n t. block_ok k (map declaration (map (λ (x : SD). x.0) ds)) (all_of ds) (map judging body) (stmts_ok k body) u s n t)
  decl_cases (Decl-F.Forward h) = layer (Decl-F.Forward h) ((h, refl), λ u s n t. record { types = tt; procedures = tt; body = tt; bound = tt })

  decl_good : (x : Decl) → PD x
  decl_good = ind-Decl PD (λ x y is. subst (λ z. PD (roll-Decl z)) is (decl_cases y))

  decls_good : (xs : List Decl) → AreGood k (map declaration xs)
  decls_good [] = tt
  decls_good (x ∷ xs) = (decl_good x, decls_good xs)

-- ---- the types of a module, by name and core

abbrev pub IsOf : List TypedType → List ℕ → Desc → Type 0
IsOf [] x c = ⊥
IsOf (t ∷ ts) x c = ((t.name ≡ x) × (core t.desc ≡ c)) ⊎ IsOf ts x c

of_front : (t : TypedType) (ts us : List TypedType) → AllByRecursion (λ (y : TypedType). IsOf us y.name (core y.desc)) ts → AllByRecursion (λ (y : TypedType). IsOf (t ∷ us) y.name (core y.desc)) ts
of_front t [] us h = tt
of_front t (y ∷ ts) us h = (inr h.0, of_front t ts us h.1)

pub all_are_of : (ts : List TypedType) → AllByRecursion (λ (y : TypedType). IsOf ts y.name (core y.desc)) ts
all_are_of [] = tt
all_are_of (t ∷ ts) = (inl (refl, refl), of_front t ts ts (all_are_of ts))

abbrev first : List TypedType → List ℕ → Option Desc
first [] x = None
first (t ∷ ts) x = cond (bytes_eq x t.name) (Some t.desc) (first ts x)

another : (ts : List TypedType) (x y : List ℕ) (c : Desc) → AllByRecursion (λ (t : TypedType). t.name ≢ y) ts → IsOf ts x c → x ≢ y
another [] x y c h i = absurd i
another (t ∷ ts) x y c h (inl e) = λ k. h.0 (e.0 ∙ k)
another (t ∷ ts) x y c h (inr i) = another ts x y c h.1 i

first_is : (ts : List TypedType) → AreDistinct (λ t. t.name) ts → (x : List ℕ) (c : Desc) → IsOf ts x c → (e : Desc) × ((first ts x ≡ Some e) × (core e ≡ c))
first_is [] d x c i = absurd i
first_is (t ∷ ts) d x c (inl e) = (t.desc, (ap (λ b. cond b (Some t.desc) (first ts x)) ((bytes_eq-Decides x t.name).1 (sym e.0)), e.1))
first_is (t ∷ ts) d x c (inr i) = let r = first_is ts d.1 x c i in (r.0, (ap (λ b. cond b (Some t.desc) (first ts x)) (differ_false x t.name (another ts x t.name c d.0 i)) ∙ r.1.0, r.1.1))

one_core : (ts : List TypedType) → AreDistinct (λ t. t.name) ts → (x : List ℕ) (a b : Desc) → IsOf ts x a → IsOf ts x b → a ≡ b
one_core ts d x a b i j =
    let p = first_is ts d x a i in
    let q = first_is ts d x b j in
    let same : p.0 ≡ q.0 = (let e : Some p.0 ≡ Some q.0 = sym p.1.0 ∙ q.1.0 in cc) in
    sym p.1.1 ∙ ap core same ∙ q.1.1

-- ---- cores

linked_core : (d : Desc) → is_linked (core d) ≡ is_linked d
linked_core (desc.Const v) = refl
linked_core (desc.Var m t) = refl
linked_core (desc.Proc s) = refl
linked_core (desc.Alias m t) = refl
linked_core (desc.Array m n t) = refl
linked_core (desc.OpenArray m t) = refl
linked_core (desc.Pointer m t) = refl
linked_core (desc.ProcType m s) = refl
linked_core (desc.Record r) = refl

told_core : (types : QName → Option Desc) (q : QName) (a b : Desc) → core a ≡ core b → IsTold types q a → IsTold types q b
told_core types q a b e h = λ l. let r = h (sym (linked_core a) ∙ ap is_linked e ∙ linked_core b ∙ l) in (r.0, (r.1.0, r.1.1 ∙ e))

module _ (types : QName → Option Desc) (unit : List ℕ) where
  to_core : (d : Desc) → TypeRecorded types unit d → TypeRecorded types unit (core d)
  to_core (desc.Const v) h = h
  to_core (desc.Var m t) h = h
  to_core (desc.Proc s) h = h
  to_core (desc.Alias m t) h = h
  to_core (desc.Array m n t) h = h
  to_core (desc.OpenArray m t) h = h
  to_core (desc.Pointer m t) h = h
  to_core (desc.ProcType m s) h = h
  to_core (desc.Record r) h = h

  from_core : (d : Desc) → TypeRecorded types unit (core d) → TypeRecorded types unit d
  from_core (desc.Const v) h = h
  from_core (desc.Var m t) h = h
  from_core (desc.Proc s) h = h
  from_core (desc.Alias m t) h = h
  from_core (desc.Array m n t) h = h
  from_core (desc.OpenArray m t) h = h
  from_core (desc.Pointer m t) h = h
  from_core (desc.ProcType m s) h = h
  from_core (desc.Record r) h = h

-- ---- types with what is bound

pub described_name : (o : Option TypedType) (t : TypedType) → (described o t).name ≡ t.name
described_name None t = refl
described_name (Some b) t = refl

module _ (bound : List TypedType) where
  abbrev pub with_its : TypedType → TypedType
  with_its t = described (find (λ b. bytes_eq b.name t.name) bound) t

  pub distinct_back : (ts : List TypedType) → AreDistinct (λ t. t.name) (all_described bound ts) → AreDistinct (λ t. t.name) ts
  distinct_back [] d = tt
  distinct_back (t ∷ ts) d = (others ts d.0, distinct_back ts d.1)
    where
      others : (us : List TypedType) → AllByRecursion (λ (y : TypedType). y.name ≢ (with_its t).name) (all_described bound us) → AllByRecursion (λ (y : TypedType). y.name ≢ t.name) us
      others [] h = tt
      others (y ∷ us) h = (λ e. h.0 (described_name (find (λ b. bytes_eq b.name y.name) bound) y ∙ e ∙ sym (described_name (find (λ b. bytes_eq b.name t.name) bound) t)), others us h.1)

  module _ (ts : List TypedType) (distinct : AreDistinct (λ t. t.name) ts) (of : AllByRecursion (λ (b : TypedType). IsOf ts b.name (core b.desc)) bound) where
    pub its_core : (t : TypedType) → IsOf ts t.name (core t.desc) → core (with_its t).desc ≡ core t.desc
    its_core t i = by (find (λ b. bytes_eq b.name t.name) bound) (found_in (λ (b : TypedType). IsOf ts b.name (core b.desc)) (λ (b : TypedType). bytes_eq b.name t.name) bound of)
      where
        by : (o : Option TypedType) → IfThere (IsFound (λ (b : TypedType). IsOf ts b.name (core b.desc)) (λ (b : TypedType). bytes_eq b.name t.name)) o → core (described o t).desc ≡ core t.desc
        by None f = refl
        by (Some b) f = one_core ts distinct t.name (core b.desc) (core t.desc) (subst (λ x. IsOf ts x (core b.desc)) ((bytes_eq-Decides b.name t.name).0 f.is) f.has) i

    recorded : (types : QName → Option Desc) (unit : List ℕ) (us : List TypedType) → AllByRecursion (λ (t : TypedType). IsOf ts t.name (core t.desc)) us → AllByRecursion (λ (t : TypedType). TypeRecorded types unit t.desc) us → AllByRecursion (λ (t : TypedType). TypeRecorded types unit t.desc) (all_described bound us)
    recorded types unit [] h g = tt
    recorded types unit (t ∷ us) h g = (from_core types unit (with_its t).desc (subst (TypeRecorded types unit) (sym (its_core t h.0)) (to_core types unit t.desc g.0)), recorded types unit us h.1 g.1)

    told : (types : QName → Option Desc) (unit : List ℕ) (us : List TypedType) → AllByRecursion (λ (t : TypedType). IsOf ts t.name (core t.desc)) us → AllByRecursion (λ (t : TypedType). IsTold types (record { «module» = unit; object = t.name }) t.desc) (all_described bound us) → (x : List ℕ) (d : Desc) → IsOf us x (core d) → IsTold types (record { «module» = unit; object = x }) d
    told types unit [] h g x d i = absurd i
    told types unit (t ∷ us) h g x d (inl e) =
        subst (λ y. IsTold types (record { «module» = unit; object = y }) d) (described_name (find (λ b. bytes_eq b.name t.name) bound) t ∙ e.0) (told_core types (record { «module» = unit; object = (with_its t).name }) (with_its t).desc d (its_core t h.0 ∙ e.1) g.0)
    told types unit (t ∷ us) h g x d (inr i) = told types unit us h.1 g.1 x d i

-- ---- modules

pub unbroken_is : (bs : List Broken) (x m : TypedModule) → if_unbroken bs x ≡ Some m → (bs ≡ []) × (x ≡ m)
unbroken_is [] x m e = (refl, cc)
unbroken_is (b ∷ bs) x m e = absurd cc

module _ (shown : QName → Option Desc) (tree : Tree) where
  abbrev unit : List ℕ
  unit = tree.name.name

  abbrev ds : List Declaration
  ds = map declaration tree.decls

  abbrev contents : Contents
  contents = (module_of shown tree.name tree.imports ds (map judging tree.body) tree.closing).contents

  abbrev broken : List Broken
  broken = (module_of shown tree.name tree.imports ds (map judging tree.body) tree.closing).notes.broken

  contents_ok : (k : Setting) → k.unit ≡ unit → k.shown ≡ shown → broken ≡ [] → Have k contents.types → ContentsOk k contents
  contents_ok k n s e t =
      let u = around_module shown unit ds in
      let d = imports_declared tree.imports u in
      let b = block ds (map judging tree.body) d.around in
      let rest = back_empty d.part.notes.broken b.notes.broken (back_empty (name_judged tree.name tree.closing).broken (d.part.notes.broken ++ b.notes.broken) e) in
      let i : DeclaredOk k d = order_good k (map (λ i. import_declared i (target_of i)) tree.imports) (imports_good k tree.imports) u (record { unit = sym n; shown = sym s; own = tt; receiver = tt }) (all_front (HasType k) d.part.contents.types b.contents.types t) in
      ok_both k d.part.contents b.contents i.contents (block_ok k ds (decls_good k tree.decls) (map judging tree.body) (stmts_ok k tree.body) d.around i.around rest (all_back (HasType k) d.part.contents.types b.contents.types t))

  abbrev its : TypedModule
  its = typed_module shown tree.name tree.imports ds (module_of shown tree.name tree.imports ds (map judging tree.body) tree.closing)

  -- descriptions that tell of the module's own types as they are first named
  abbrev as_named : QName → Option Desc
  as_named q = cond (bytes_eq q.«module» unit) (first contents.types q.object) (shown q)

  own_first : AreDistinct (λ t. t.name) contents.types → (x : List ℕ) (d : Desc) → IsOf contents.types x (core d) → IsTold as_named (record { «module» = unit; object = x }) d
  own_first distinct x d i = λ l. let r = first_is contents.types distinct x (core d) i in (r.0, (ap (λ b. cond b (first contents.types x) (shown (record { «module» = unit; object = x }))) ((bytes_eq-Decides unit unit).1 refl) ∙ r.1.0, r.1.1))

  others_first : (q : QName) (d : Desc) → bytes_eq q.«module» unit ≡ false → shown q ≡ Some d → IsTold as_named q d
  others_first q d e h = λ l. (d, (ap (λ b. cond b (first contents.types q.object) (shown q)) e ∙ h, refl))

  -- what is bound has the names and cores of the module's types
  pub bound_are : broken ≡ [] → AreDistinct (λ t. t.name) contents.types → AllByRecursion (λ (b : TypedType). IsOf contents.types b.name (core b.desc)) contents.bound
  bound_are e distinct =
      let one : Setting = record { types = as_named; unit = unit; shown = shown; Has = IsOf contents.types; own = own_first distinct; others = others_first } in
      (contents_ok one refl refl e (all_are_of contents.types)).bound

  its_recorded : (types : QName → Option Desc) → broken ≡ [] → AreDistinct (λ t. t.name) its.types → AreTold shown types its → ModuleRecorded types its
  its_recorded types e d told_so =
      let distinct = distinct_back contents.bound contents.types d in
      let of = all_are_of contents.types in
      let bound = bound_are e distinct in
      let two : Setting = record { types = types; unit = unit; shown = shown; Has = IsOf contents.types; own = told contents.bound contents.types distinct bound types unit contents.types of told_so.own; others = told_so.others } in
      let c = contents_ok two refl refl e of in
      record { types_are = recorded contents.bound contents.types distinct bound types unit contents.types of c.types; procedures = c.procedures; body = stmts_named two contents.body c.body }

pub modules_recorded : ModulesRecorded
modules_recorded shown types tree m e =
    let k = unbroken_is (broken shown tree) (its shown tree) m e in
    subst (λ (x : TypedModule). AreDistinct (λ t. t.name) x.types → AreTold shown types x → ModuleRecorded types x) k.1 (its_recorded shown tree types k.0)
