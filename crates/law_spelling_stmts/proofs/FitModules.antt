-- Declarations, procedures and modules: what their parts add.
use Rattle.std.proofs.Common.{◌≡◌, ℕ, Bool, true, false, List, [], ◌∷◌, ◌++◌, length, map, Option, Some, None, refl, sym, subst, ◌∙◌, arith}
use Rattle.std.specs.Prelude.{◌&&◌}
use Rattle.std.specs.List.{AllByRecursion, filter_map}
use Rattle.ob_tree.specs.declared.names.QName.{QName}
use Rattle.ob_tree.specs.declared.ident.Ident.{Ident}
use Rattle.ob_tree.specs.declared.ident.IdentDef.{IdentDef}
use Rattle.ob_tree.specs.declared.ident.Import.{Import}
use Rattle.ob_tree.specs.declared.ident.Mark.{Mark}
use Rattle.ob_tree.specs.declared.decl.Module.{Module as Tree}
use Rattle.ob_tree.specs.declared.decl.Decl.{Decl, roll-Decl, map-Decl}
use Rattle.ob_tree.specs.declared.decl.Decl.TheOpen.{Decl-F}
use Rattle.ob_tree.specs.declared.decl.Decl.TheFolds.{ind-Decl, fold-roll-Decl}
use Rattle.ob_types.specs.declared.value.Value.{Value}
use Rattle.ob_types.specs.declared.desc.Desc.{Desc}
use Rattle.ob_types.specs.declared.typed.TypedProcedure.{TypedProcedure}
use Rattle.ob_types.specs.declared.typed.TypedStmt.{TypedStmt}
use Rattle.ob_rules.specs.declared.broken.Broken.{Broken}
use Rattle.ob_rules.specs.declared.entity.Entity.{Entity}
use Rattle.ob_rules.specs.declared.entity.Known.{Known}
use Rattle.ob_rules.specs.Judged.{Judged, joined, both, ◌▷◌}
use Rattle.ob_rules.specs.Shapes.{Map}
use Rattle.ob_rules.specs.Names.{Around, map_of, found_in_scope, predeclared}
use Rattle.ob_rules.specs.Expressions.{phrase_of, constant_value}
use Rattle.ob_rules.specs.Types.{Typing, Written, written, Parameters, with_types, is_module_level, marked}
use Rattle.ob_rules.specs.Statements.{judging, in_turn}
use Rattle.ob_rules.specs.Headings.{Head, Heads, forwards_judged, reversed, mark_or_hidden, types_of}
use Rattle.ob_rules.specs.Declarations.{import_entity, is_system, Contents, no_contents, together, Declared, declare_if, constant_contents, constant_entity, constant_declared, no_nil, typing_as, type_entity, types_made, type_declared, variable_entity, variable_contents, paired_typing, variable_marked, variables_with, made_in, variables_typed, Written_procedure, Declaration, Plain, Procedure, plain_of, procedure_of, type_name_of, in_order, headings_in_order, around_body, types_of_head, procedure_contents, closing_judged, procedure_judged, procedures_judged, body_part, stmts_in, with_bound, binding_at, all_judged, field_judged, heads_later, block, pointers_judged, decl_rule, declaration, import_declared, target_of, imports_declared, around_module, module_of, name_judged, newly}
use Rattle.std.specs.Prelude.{◌&&◌}
use Rattle.ob_tree.specs.declared.pos.Pos.{Pos}
use Rattle.ob_tree.specs.declared.expr.Expr.{Expr}
use Rattle.ob_tree.specs.declared.stmt.Stmt.{Stmt}
use Rattle.ob_types.specs.declared.value.Value.TheVariants as literal
use Rattle.law_links_types.proofs.Heads.{reversed_all, reversed_back, as_many}
use Rattle.law_typing.specs.Spelled.{all_true}
use Rattle.law_spelling.specs.Coded.{PosFits}
use Rattle.law_spelling_read.specs.ReadPlaces.{pos_fits, expr_fits, stmt_fits, decl_layer, decl_fits, tree_fits}
use Rattle.law_spelling_stmts.proofs.Setting.{Keeps, any_keeps, then_keeps, both_keep}
use Rattle.law_spelling_stmts.proofs.Expressions.{pos_ok}
use Rattle.law_spelling_stmts.proofs.Heads.{Level, HasType, Have, FixedIn, AreKnown, Stands, Judges, HeadOk, IsSettled, AreSettled, IsPlaced, HeadsOk, typed_stands, headings_ok, binding_has}
use Rattle.law_lists.proofs.Lists.{Anything, IfThere, all_back, all_both, all_front, and_parts, back_empty, front_empty}

-- ---- what a part adds

abbrev pub ProcedureOk : Level → TypedProcedure → Type 0
ProcedureOk a p = PosFits p.«pos» × AllByRecursion a.StmtOk p.body

pub record ContentsOk (a : Level) (c : Contents) : Type 0 where
  pub procedures : AllByRecursion (ProcedureOk a) c.procedures
  pub body : AllByRecursion a.StmtOk c.body
  pub bound : Have a c.bound

ok_both : (k : Level) (a b : Contents) → ContentsOk k a → ContentsOk k b → ContentsOk k (together a b)
ok_both k a b g h = record {
  procedures = all_both (ProcedureOk k) a.procedures b.procedures g.procedures h.procedures;
  body = all_both k.StmtOk a.body b.body g.body h.body;
  bound = all_both (HasType k) a.bound b.bound g.bound h.bound;
}

pub record DeclaredOk (k : Level) (d : Declared) : Type 0 where
  pub contents : ContentsOk k d.part.contents
  pub around : Stands k d.around

-- a declaration whose types are the module's
abbrev GoodPlain : Level → (Around → Declared) → Type 0
GoodPlain k f = (u : Around) → Stands k u → Have k (f u).part.contents.types → DeclaredOk k (f u)

if_declared : (k : Level) (o : Option Known) (u : Around) → Stands k u → (x : Ident) (e : Entity) → FixedIn k e → Stands k (declare_if o u x e)
if_declared k (Some y) u s x e h = s
if_declared k None u s x e h = record { unit = s.unit; shown = s.shown; own = s.own; known = (h, s.known); in_loop = s.in_loop }

constant_c : (k : Level) (b : Bool) (x : Ident) (o : Option (Mark × Value)) → ContentsOk k (constant_contents b x o)
constant_c k true x None = record { procedures = tt; body = tt; bound = tt }
constant_c k true x (Some p) = record { procedures = tt; body = tt; bound = tt }
constant_c k false x o = record { procedures = tt; body = tt; bound = tt }

nil_keeps : (k : Level) (at : Pos) (v : Value) → k.Fixed v → Keeps k.Fixed (no_nil at v)
nil_keeps k at literal.Nil h = tt
nil_keeps k at (literal.Bool b) h = h
nil_keeps k at (literal.Char c) h = h
nil_keeps k at (literal.Int z) h = h
nil_keeps k at (literal.Set n) h = h
nil_keeps k at (literal.Str t) h = h

constant_e : (k : Level) (o : Option (Mark × Value)) → IfThere (λ (p : Mark × Value). Unit {0} × k.Fixed p.1) o → FixedIn k (constant_entity o)
constant_e k None h = tt
constant_e k (Some p) h = h.1

constant_good : (k : Level) → Judges k → (d : IdentDef) (x : Expr) → expr_fits x ≡ true → GoodPlain k (constant_declared d (phrase_of x))
constant_good k judges d x e u s h =
    let m = marked u false d in
    let v = constant_value u (phrase_of x) ▷ no_nil (phrase_of x).start in
    let j = both m v in
    let is : IfThere (λ (p : Mark × Value). Unit {0} × k.Fixed p.1) j.node = both_keep Anything k.Fixed m v (any_keeps m) (then_keeps k.Fixed k.Fixed (constant_value u (phrase_of x)) (no_nil (phrase_of x).start) (judges.fixed u s x e) (λ w i. nil_keeps k (phrase_of x).start w i)) in
    record { contents = constant_c k (is_module_level u) d.ident j.node; around = if_declared k (found_in_scope u d.ident.name) u s d.ident (constant_entity j.node) (constant_e k j.node is) }

type_e : (k : Level) (o : Option (Mark × Typing)) → FixedIn k (type_entity o)
type_e k None = tt
type_e k (Some p) = tt

type_good : (k : Level) (d : IdentDef) (w : Written) → GoodPlain k (type_declared d w)
type_good k d w u s h =
    let m = newly u d in
    let t = typing_as u (u.path ++ d.ident.name) (mark_or_hidden m.node) w w.name in
    let j = both m t in
    let v = with_types u (types_made j.node) in
    record { contents = record { procedures = tt; body = tt; bound = tt }; around = if_declared k (found_in_scope v d.ident.name) v (typed_stands k u (types_made j.node) s h) d.ident (type_entity j.node) (type_e k j.node) }

variable_c : (k : Level) (x : Ident) (o : Option (Mark × Typing)) → ContentsOk k (variable_contents x o)
variable_c k x None = record { procedures = tt; body = tt; bound = tt }
variable_c k x (Some p) = record { procedures = tt; body = tt; bound = tt }

variable_e : (k : Level) (u : Around) (x : Ident) (o : Option (Mark × Typing)) → FixedIn k (variable_entity u x o)
variable_e k u x None = tt
variable_e k u x (Some p) = tt

variables_good : (k : Level) (ds : List IdentDef) (t : Option Typing) (u : Around) → Stands k u → DeclaredOk k (variables_with ds t u)
variables_good k [] t u s = record { contents = record { procedures = tt; body = tt; bound = tt }; around = s }
variables_good k (d ∷ ds) t u s =
    let o = paired_typing (marked u true d).node t in
    let a = variable_marked u d.ident (marked u true d) t in
    let rest = variables_good k ds t a.around (if_declared k (found_in_scope u d.ident.name) u s d.ident (variable_entity u d.ident o) (variable_e k u d.ident o)) in
    record { contents = ok_both k (variable_contents d.ident o) (variables_with ds t a.around).part.contents (variable_c k d.ident o) rest.contents; around = rest.around }

typed_good : (k : Level) (ds : List IdentDef) (u : Around) → Stands k u → (t : Judged Typing) → Have k (variables_typed ds u t).part.contents.types → DeclaredOk k (variables_typed ds u t)
typed_good k ds u s t h =
    let there = all_front (HasType k) (made_in t.node) _ h in
    let rest = variables_good k ds t.node (with_types u (made_in t.node)) (typed_stands k u (made_in t.node) s there) in
    record { contents = ok_both k (record no_contents { types = made_in t.node }) (variables_with ds t.node (with_types u (made_in t.node))).part.contents (record { procedures = tt; body = tt; bound = tt }) rest.contents; around = rest.around }

order_good : (k : Level) (fs : List (Around → Declared)) → AllByRecursion (GoodPlain k) fs → GoodPlain k (in_order fs)
order_good k [] g u s h = record { contents = record { procedures = tt; body = tt; bound = tt }; around = s }
order_good k (f ∷ fs) g u s h =
    let a = g.0 u s (all_front (HasType k) (f u).part.contents.types (in_order fs (f u).around).part.contents.types h) in
    let b = order_good k fs g.1 (f u).around a.around (all_back (HasType k) (f u).part.contents.types (in_order fs (f u).around).part.contents.types h) in
    record { contents = ok_both k (f u).part.contents (in_order fs (f u).around).part.contents a.contents b.contents; around = b.around }

import_e : (k : Level) (b : Bool) (t : Ident) → FixedIn k (import_entity b t)
import_e k true t = tt
import_e k false t = tt

imports_good : (k : Level) (is : List Import) → AllByRecursion (GoodPlain k) (map (λ i. import_declared i (target_of i)) is)
imports_good k [] = tt
imports_good k (i ∷ is) = ((λ u s h. record { contents = record { procedures = tt; body = tt; bound = tt }; around = if_declared k (found_in_scope u i.ident.name) u s i.ident _ (import_e k (is_system (target_of i).name) (target_of i)) }), imports_good k is)

-- ---- procedures

abbrev GoodProcedure : Level → Written_procedure → Type 0
GoodProcedure k p = (u : Around) → Stands k u → (p.inside u).notes.broken ≡ [] → Have k (p.inside u).contents.types → ContentsOk k (p.inside u).contents

same_have : (k : Level) (o : Option Parameters) → Have k (types_of_head o) → Have k (types_of o)
same_have k None h = h
same_have k (Some p) h = h

typed_ok : (k : Level) (m : Map) (h : Head) → PosFits h.at → (o : Option Parameters) (c : Contents) → ContentsOk k c → ContentsOk k (procedure_contents m (record h { parameters = o }) c)
typed_ok k m h f None c g = record { procedures = g.procedures; body = tt; bound = tt }
typed_ok k m h f (Some p) c g = record { procedures = ((f, g.body), g.procedures); body = tt; bound = tt }

judged_ok : (k : Level) (u : Around) → Stands k u → (p : Written_procedure) → GoodProcedure k p → (h : Head) → HeadOk k h → (f : Bool) → (procedure_judged u p h f).notes.broken ≡ [] → Have k (procedure_judged u p h f).contents.types → ContentsOk k (procedure_judged u p h f).contents
judged_ok k u s p g h e true n t = record { procedures = tt; body = tt; bound = tt }
judged_ok k u s p g h e false n t =
    let v = around_body u h in
    let i = p.inside v in
    let quiet = back_empty (closing_judged h.name p.closing).broken i.notes.broken (back_empty h.notes.broken (joined (closing_judged h.name p.closing) i.notes).broken n) in
    typed_ok k (map_of u) h e.at h.parameters i.contents
    (g v (record { unit = s.unit; shown = s.shown; own = s.own; known = all_both (λ (n : Known). FixedIn k n.what) h.inside h.known e.inside e.known; in_loop = refl }) quiet (all_back (HasType k) (types_of_head h.parameters) i.contents.types t))

procedures_ok : (k : Level) (u : Around) → Stands k u → (ps : List Written_procedure) → AllByRecursion (GoodProcedure k) ps → (hs : List Head) → AllByRecursion (HeadOk k) hs → (procedures_judged u ps hs).notes.broken ≡ [] → Have k (procedures_judged u ps hs).contents.types → ContentsOk k (procedures_judged u ps hs).contents
procedures_ok k u s [] g hs e n t = record { procedures = tt; body = tt; bound = tt }
procedures_ok k u s (p ∷ ps) g [] e n t = record { procedures = tt; body = tt; bound = tt }
procedures_ok k u s (p ∷ ps) g (h ∷ hs) e n t =
    let a = procedure_judged u p h p.forward in
    let b = procedures_judged u ps hs in
    ok_both k a.contents b.contents (judged_ok k u s p g.0 h e.0 p.forward (front_empty a.notes.broken b.notes.broken n) (all_front (HasType k) a.contents.types b.contents.types t))
    (procedures_ok k u s ps g.1 hs e.1 (back_empty a.notes.broken b.notes.broken n) (all_back (HasType k) a.contents.types b.contents.types t))

-- where nothing is broken, and all types are the module's, each heading is settled
settled : (k : Level) (u : Around) (p : Written_procedure) (h : Head) (f : Bool) → (procedure_judged u p h f).notes.broken ≡ [] → Have k (procedure_judged u p h f).contents.types → IsSettled k h
settled k u p h true n t = (n, same_have k h.parameters t)
settled k u p h false n t = (front_empty h.notes.broken _ n, same_have k h.parameters (all_front (HasType k) (types_of_head h.parameters) _ t))

all_settled : (k : Level) (u : Around) (ps : List Written_procedure) (hs : List Head) → length ps ≡ length hs → (procedures_judged u ps hs).notes.broken ≡ [] → Have k (procedures_judged u ps hs).contents.types → AreSettled k hs
all_settled k u [] [] l n t = tt
all_settled k u [] (h ∷ hs) l n t = absurd (omega (arith, l))
all_settled k u (p ∷ ps) [] l n t = tt
all_settled k u (p ∷ ps) (h ∷ hs) l n t =
    let a = procedure_judged u p h p.forward in
    let b = procedures_judged u ps hs in
    (settled k u p h p.forward (front_empty a.notes.broken b.notes.broken n) (all_front (HasType k) a.contents.types b.contents.types t), all_settled k u ps hs (omega (arith, l)) (back_empty a.notes.broken b.notes.broken n) (all_back (HasType k) a.contents.types b.contents.types t))

body_ok : (k : Level) (j : Judged (List TypedStmt)) → IfThere (AllByRecursion k.StmtOk) j.node → ContentsOk k (body_part j).contents
body_ok k j h = record { procedures = tt; body = by j.node h; bound = tt }
  where
    by : (o : Option (List TypedStmt)) → IfThere (AllByRecursion k.StmtOk) o → AllByRecursion k.StmtOk (stmts_in o)
    by None h = tt
    by (Some ss) h = h

-- ---- blocks

abbrev GoodDeclaration : Level → Declaration → Type 0
GoodDeclaration k (Plain x f) = GoodPlain k f
GoodDeclaration k (Procedure p) = IsPlaced p × GoodProcedure k p

abbrev AreGood : Level → List Declaration → Type 0
AreGood k ds = AllByRecursion (GoodDeclaration k) ds

plains : (k : Level) (ds : List Declaration) → AreGood k ds → AllByRecursion (GoodPlain k) (filter_map plain_of ds)
plains k [] g = tt
plains k (Plain x f ∷ ds) g = (g.0, plains k ds g.1)
plains k (Procedure p ∷ ds) g = plains k ds g.1

all_placed : (k : Level) (ds : List Declaration) → AreGood k ds → AllByRecursion IsPlaced (filter_map procedure_of ds)
all_placed k [] g = tt
all_placed k (Plain x f ∷ ds) g = all_placed k ds g.1
all_placed k (Procedure p ∷ ds) g = (g.0.0, all_placed k ds g.1)

good_procedures : (k : Level) (ds : List Declaration) → AreGood k ds → AllByRecursion (GoodProcedure k) (filter_map procedure_of ds)
good_procedures k [] g = tt
good_procedures k (Plain x f ∷ ds) g = good_procedures k ds g.1
good_procedures k (Procedure p ∷ ds) g = (g.0.1, good_procedures k ds g.1)

block_ok : (k : Level) → Judges k → (ds : List Declaration) → AreGood k ds → (body : List Stmt) → all_true (map stmt_fits body) ≡ true → (u : Around) → Stands k u → (block ds (map judging body) u).notes.broken ≡ [] → Have k (block ds (map judging body) u).contents.types → ContentsOk k (block ds (map judging body) u).contents
block_ok k judges ds g body j u s n t =
    let names = filter_map type_name_of ds in
    let v : Around = record u { later_types = names } in
    let d = in_order (filter_map plain_of ds) v in
    let ps = filter_map procedure_of ds in
    let start : Heads = record { around = d.around; before = [] } in
    let hs = headings_in_order ps start in
    let heads = reversed hs.before in
    let b = binding_at (is_module_level u) hs.around heads in
    let U = with_bound hs.around b in
    let Q = procedures_judged U ps heads in
    let B = body_part (in_turn (map judging body) U) in
    let later = d.part.notes.later ++ heads_later hs.before in
    let m = joined b.notes (joined (all_judged (field_judged (map_of U)) later) (forwards_judged (map_of hs.around) heads heads)) in
    let front = d.part.notes.broken ++ (pointers_judged hs.around later).broken in
    let two = back_empty m.broken (Q.notes.broken ++ B.notes.broken) (back_empty front (m.broken ++ (Q.notes.broken ++ B.notes.broken)) n) in
    let quiet = front_empty Q.notes.broken B.notes.broken two in
    let its = all_front (HasType k) Q.contents.types [] (all_back (HasType k) d.part.contents.types (Q.contents.types ++ []) t) in
    let o : DeclaredOk k d = order_good k (filter_map plain_of ds) (plains k ds g) v (record { unit = s.unit; shown = s.shown; own = s.own; known = s.known; in_loop = s.in_loop }) (all_front (HasType k) d.part.contents.types (Q.contents.types ++ []) t) in
    let begun : AreSettled k [] → HeadsOk k start = λ i. record { around = o.around; before = tt } in
    let done = reversed_back (IsSettled k) hs.before (all_settled k U ps heads (as_many ps d.around) quiet its) in
    let h : HeadsOk k hs = headings_ok k ps (all_placed k ds g) start begun done in
    let has : Have k b.own = binding_has k (is_module_level u) hs.around heads h.around.own in
    let w : Stands k U = record { unit = h.around.unit; shown = h.around.shown; own = has; known = h.around.known; in_loop = h.around.in_loop } in
    let q : ContentsOk k Q.contents = procedures_ok k U w ps (good_procedures k ds g) heads (reversed_all (HeadOk k) hs.before h.before) quiet its in
    let c : ContentsOk k B.contents = body_ok k (in_turn (map judging body) U) (judges.body U w body j) in
    ok_both k d.part.contents (together no_contents (together (record no_contents { bound = b.own }) (together Q.contents B.contents))) o.contents
    (ok_both k no_contents (together (record no_contents { bound = b.own }) (together Q.contents B.contents)) (record { procedures = tt; body = tt; bound = tt })
    (ok_both k (record no_contents { bound = b.own }) (together Q.contents B.contents) (record { procedures = tt; body = tt; bound = has }) (ok_both k Q.contents B.contents q c)))

module _ (k : Level) (judges : Judges k) where
  abbrev PD : Decl → Type 0
  PD x = decl_fits x ≡ true → GoodDeclaration k (declaration x)

  abbrev SD : Type 0
  SD = (x : Decl) × PD x

  abbrev decls_in : List SD → List Decl
  decls_in xs = map (λ (x : SD). x.0) xs

  all_of : (xs : List SD) → all_true (map decl_fits (decls_in xs)) ≡ true → AreGood k (map declaration (decls_in xs))
  all_of [] e = tt
  all_of (x ∷ xs) e = let p = and_parts (decl_fits x.0) (all_true (map decl_fits (decls_in xs))) e in (x.1 p.0, all_of xs p.1)

  layer : (x : Decl-F Decl) → (decl_layer (map-Decl Decl Bool decl_fits x) ≡ true → GoodDeclaration k (decl_rule (map-Decl Decl Declaration declaration x))) → PD (roll-Decl x)
  layer x h e = subst (GoodDeclaration k) (sym (fold-roll-Decl Declaration decl_rule x)) (h (sym (fold-roll-Decl Bool decl_layer x) ∙ e))

  decl_cases : (y : Decl-F SD) → PD (roll-Decl (map-Decl SD Decl (λ x. x.0) y))
  decl_cases (Decl-F.Constant d x) = layer (Decl-F.Constant d x) (λ e. constant_good k judges d x e)
  decl_cases (Decl-F.NamedType d n) = layer (Decl-F.NamedType d n) (λ e. type_good k d (written n))
  decl_cases (Decl-F.Variables ds n) = layer (Decl-F.Variables ds n) (λ e. λ u s h. typed_good k ds u s _ h)
  decl_cases (Decl-F.Procedure h ds body closing) = layer (Decl-F.Procedure h (decls_in ds) body closing) (λ e.
      let p = and_parts (pos_fits h.name.ident.pos) (all_true (map decl_fits (decls_in ds)) && all_true (map stmt_fits body)) e in
      let q = and_parts (all_true (map decl_fits (decls_in ds))) (all_true (map stmt_fits body)) p.1 in
      (pos_ok h.name.ident.pos p.0, λ u s n t. block_ok k judges (map declaration (decls_in ds)) (all_of ds q.0) body q.1 u s n t))
  decl_cases (Decl-F.Forward h) = layer (Decl-F.Forward h) (λ e. (pos_ok h.name.ident.pos e, λ u s n t. record { procedures = tt; body = tt; bound = tt }))

  decl_good : (x : Decl) → PD x
  decl_good = ind-Decl PD (λ x y is. subst (λ z. PD (roll-Decl z)) is (decl_cases y))

  decls_good : (xs : List Decl) → all_true (map decl_fits xs) ≡ true → AreGood k (map declaration xs)
  decls_good [] e = tt
  decls_good (x ∷ xs) e = let p = and_parts (decl_fits x) (all_true (map decl_fits xs)) e in (decl_good x p.0, decls_good xs p.1)

predeclared_known : (k : Level) → AreKnown k predeclared
predeclared_known k = (tt, (tt, (tt, (tt, (tt, (tt, (k.truths true, (k.truths false, (tt, (tt, (tt, (tt, (tt, (tt, (tt, (tt, (tt, (tt, (tt, (tt, (tt, (tt, (tt, (tt, (tt, (tt, (tt, (tt, (tt, (tt, (tt, tt)))))))))))))))))))))))))))))))

module _ (shown : QName → Option Desc) (tree : Tree) (placed : tree_fits tree ≡ true) where
  abbrev pub unit : List ℕ
  unit = tree.name.name

  abbrev pub ds : List Declaration
  ds = map declaration tree.decls

  abbrev pub contents : Contents
  contents = (module_of shown tree.name tree.imports ds (map judging tree.body) tree.closing).contents

  abbrev pub broken : List Broken
  broken = (module_of shown tree.name tree.imports ds (map judging tree.body) tree.closing).notes.broken

  pub contents_ok : (k : Level) → Judges k → k.unit ≡ unit → k.shown ≡ shown → broken ≡ [] → Have k contents.types → ContentsOk k contents
  contents_ok k judges n s e t =
      let u = around_module shown unit ds in
      let d = imports_declared tree.imports u in
      let b = block ds (map judging tree.body) d.around in
      let f = and_parts (all_true (map decl_fits tree.decls)) (all_true (map stmt_fits tree.body)) placed in
      let rest = back_empty d.part.notes.broken b.notes.broken (back_empty (name_judged tree.name tree.closing).broken (d.part.notes.broken ++ b.notes.broken) e) in
      let i : DeclaredOk k d = order_good k (map (λ i. import_declared i (target_of i)) tree.imports) (imports_good k tree.imports) u (record { unit = sym n; shown = sym s; own = tt; known = predeclared_known k; in_loop = refl }) (all_front (HasType k) d.part.contents.types b.contents.types t) in
      ok_both k d.part.contents b.contents i.contents (block_ok k judges ds (decls_good k judges tree.decls f.0) tree.body f.1 d.around i.around rest (all_back (HasType k) d.part.contents.types b.contents.types t))
