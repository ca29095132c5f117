-- The rules look at nothing of other modules but what counts.
use Rattle.std.proofs.Common.{◌≡◌, ℕ, List, [], ◌∷◌, ◌++◌, Bool, true, false, cond, Option, Some, None, map, refl, sym, ap, ◌∙◌, subst}
use Rattle.std.specs.Prelude.{bytes_eq, codes}
use Rattle.std.specs.List.{AllByRecursion, find, filter_map}
use Rattle.std.proofs.lemmas.Bool.{false≢true}
use Rattle.std.proofs.lemmas.Slice.Eq.{bytes_eq-Decides}
use Rattle.ob_tree.specs.declared.names.QName.{QName}
use Rattle.ob_tree.specs.declared.ident.Ident.{Ident}
use Rattle.ob_tree.specs.declared.ident.IdentDef.{IdentDef}
use Rattle.ob_tree.specs.declared.ident.Import.{Import}
use Rattle.ob_tree.specs.declared.ident.Mark.{Mark}
use Rattle.ob_tree.specs.declared.ident.Mark.TheVariants as mark
use Rattle.ob_tree.specs.declared.decl.Module.{Module as Tree}
use Rattle.ob_types.specs.declared.desc.Desc.{Desc}
use Rattle.ob_types.specs.declared.value.Value.{Value}
use Rattle.ob_types.specs.declared.typed.TypedType.{TypedType}
use Rattle.ob_types.specs.declared.typed.TypedProcedure.{TypedProcedure}
use Rattle.ob_types.specs.declared.typed.TypedModule.{TypedModule}
use Rattle.ob_types.specs.TypedView.{procedure_view, module_view}
use Rattle.ob_uses_roots.specs.Counts.{counts_of_procedure}
use Rattle.ob_env.specs.Faces.{Face, face_named}
use Rattle.ob_env.specs.Shown.{shown}
use Rattle.ob_rules.specs.declared.broken.Broken.{Broken}
use Rattle.ob_rules.specs.declared.entity.Entity.{Entity}
use Rattle.ob_rules.specs.declared.entity.Known.{Known}
use Rattle.ob_rules.specs.Judged.{joined, both, ◌▷◌}
use Rattle.ob_rules.specs.Names.{Around, map_of, predeclared, found_in_scope}
use Rattle.ob_rules.specs.Expressions.{phrase_of, constant_value}
use Rattle.ob_rules.specs.Types.{Typing, written, is_module_level, marked, with_types}
use Rattle.ob_rules.specs.Statements.{judging, in_turn}
use Rattle.ob_rules.specs.Headings.{Head, Heads, forwards_judged, counts, counted, reversed, add_heading, head_of, name_twice, known_behind, knows_procedure, types_of}
use Rattle.ob_rules.specs.Declarations.{Part, Declared, Declaration, Plain, Procedure, plain_of, type_name_of, procedure_of, Written_procedure, in_order, headings_in_order, declare_if, pointers_judged, field_judged, all_judged, nothing_later, heads_later, procedures_judged, body_part, only_notes, with_bound, binding_at, declaration, is_system, import_entity, import_declared, imports_declared, target_of, around_module, name_judged, module_part, typed_module, if_unbroken, checked, all_described, constant_contents, no_nil, first_name, made_in, paired_typing, variable_contents, variable_marked, variables_with}
use Rattle.law_names_distinct.specs.Distinct.{AreDistinct}
use Rattle.law_names_procedures.specs.Procedures.{ShowBases, all_true, is_named_plainly}
use Rattle.law_names_procedures.proofs.Judges.{Has}
use Rattle.law_names_procedures.proofs.Knowing.{AreKnown}
use Rattle.law_names_procedures.proofs.Plain.{OrderIs, order_one, imports_good}
use Rattle.law_names_procedures.proofs.Texts.{headings_are_named}
use Rattle.law_names_procedures.proofs.Faces.{faces_show}
use Rattle.law_local_judged.specs.Said.{CountsIn}
use Rattle.law_local_judged.specs.Declared.{OwnIn, IsPlain, a_constant, a_type, variables}
use Rattle.law_local_judged.specs.Headed.{BindingsIn}
use Rattle.law_local_judged.proofs.Heading.{kept_filter}
use Rattle.law_local_nodes.specs.Quiet.{IsNamed, AreNamed}
use Rattle.law_local_files.specs.Laws.{Text, HaveNoOut, view}
use Rattle.law_local_module.specs.Laws.{LeavesIn, declares_variables, module_heads, IsSameThere}
use Rattle.law_local_module.proofs.Steady.{AllHeld, Start, declared_based, Names, order_named}
use Rattle.law_local_module.proofs.Heads.{HeadsAre, HeadOk, GoodHeading, heads_of, heads_are, heads_are_ok}
use Rattle.law_local_module.proofs.Bound.{Signed, counted_judged}
use Rattle.law_local_module.proofs.Blocks.{AreGood}
use Rattle.law_local_module.proofs.Modules.{decls_good, agree_on}
use Rattle.law_local_module.proofs.Orders.{leaves_in}
use Rattle.law_local_module.proofs.Texts.{readings_declare}
use Rattle.law_local_methods.specs.Laws.{with_own, IsOwned, RedefinesIn}
use Rattle.law_local_methods.proofs.Bindings.{bindings_in}
use Rattle.law_local_methods.proofs.Owned.{heads_are_owned}
use Rattle.law_local_uses.proofs.Around.{found_has}
use Rattle.law_local_uses.proofs.Heads.{reversed_all}
use Rattle.law_local_rules.specs.Laws.{CountsFor, ShowAlike, AreApart, RulesAreLocal}
use Rattle.law_local_rules.proofs.Counting.{not_there, mentions, procedures_count, shows}
use Rattle.law_local_rules.proofs.Types.{has_name, whole, made, distinct_back, bound_named}
use Rattle.law_local_rules.proofs.Redefining.{each_counted, HeadCounts, heads_count, AreLaid, laid_types, all_redefine}
use mathlib.Core.Logic.{inr}
use Rattle.law_lists.proofs.Lists.{IfThere, all_back, all_from, all_front, back_empty, front_empty}

-- ---- lists

found_front : {A : Type 0} (f : A → Bool) (xs ys : List A) (y : A) → find f xs ≡ Some y → find f (xs ++ ys) ≡ Some y
found_front f [] ys y e = absurd cc
found_front f (x ∷ xs) ys y e = go (f x) (λ i. found_front f xs ys y i) e
  where
    go : (b : Bool) → (find f xs ≡ Some y → find f (xs ++ ys) ≡ Some y) → cond b (Some x) (find f xs) ≡ Some y → cond b (Some x) (find f (xs ++ ys)) ≡ Some y
    go true h e = e
    go false h e = h e

unbroken_parts : (bs : List Broken) (x m : TypedModule) → if_unbroken bs x ≡ Some m → (bs ≡ []) × (x ≡ m)
unbroken_parts [] x m e = (refl, cc)
unbroken_parts (b ∷ bs) x m e = absurd cc

-- ---- declarations of constants, types and variables bind no procedure

constant_bound : (l : Bool) (x : Ident) (o : Option (Mark × Value)) → (constant_contents l x o).bound ≡ []
constant_bound true x (Some p) = refl
constant_bound true x None = refl
constant_bound false x o = refl

variable_bound : (x : Ident) (o : Option (Mark × Typing)) → (variable_contents x o).bound ≡ []
variable_bound x None = refl
variable_bound x (Some p) = refl

none_both : (xs ys : List TypedType) → xs ≡ [] → ys ≡ [] → xs ++ ys ≡ []
none_both [] ys e f = f
none_both (x ∷ xs) ys e f = absurd cc

variables_bound : (ds : List IdentDef) (o : Option Typing) (u : Around) → (variables_with ds o u).part.contents.bound ≡ []
variables_bound [] o u = refl
variables_bound (d ∷ ds) o u =
    let a = variable_marked u d.ident (marked u true d) o in
    none_both a.part.contents.bound (variables_with ds o a.around).part.contents.bound (variable_bound d.ident (paired_typing (marked u true d).node o)) (variables_bound ds o a.around)

plain_bound : (f : Around → Declared) → IsPlain f → (u : Around) → (f u).part.contents.bound ≡ []
plain_bound f (a_constant d x) u = constant_bound (is_module_level u) d.ident (both (marked u false d) (constant_value u (phrase_of x) ▷ no_nil (phrase_of x).start)).node
plain_bound f (a_type d n) u = refl
plain_bound f (variables d ds n) u =
    let t = (written n).typing u (u.path ++ first_name (d ∷ ds) ++ codes ":") mark.Hidden false in
    variables_bound (d ∷ ds) t.node (with_types u (made_in t.node))

order_bound : (fs : List (Around → Declared)) → AllByRecursion IsPlain fs → (u : Around) → (in_order fs u).part.contents.bound ≡ []
order_bound [] p u = refl
order_bound (f ∷ fs) p u =
    let x = f u in
    none_both x.part.contents.bound (in_order fs x.around).part.contents.bound (plain_bound f p.0 u) (order_bound fs p.1 x.around)

found_named : (ts : List TypedType) (x : List ℕ) (y : TypedType) (o : Option TypedType) → o ≡ Some y → IfThere (λ z. (has_name ts z.name ≡ true) × (bytes_eq z.name x ≡ true)) o → has_name ts x ≡ true
found_named ts x y None e h = absurd cc
found_named ts x y (Some z) e h = subst (λ n. has_name ts n ≡ true) ((bytes_eq-Decides z.name x).0 h.1) h.0

-- ---- imports

module_named : (unit x : List ℕ) (b : Bool) (t : Ident) → bytes_eq t.name unit ≡ false → IsNamed unit x (import_entity b t)
module_named unit x true t h = tt
module_named unit x false t h = h

declared_named : (o : Option Known) (u : Around) (x : Ident) (e : Entity) → Names u → IsNamed u.unit x.name e → Names (declare_if o u x e)
declared_named (Some k) u x e n i = n
declared_named None u x e n i = (i, n)

declared_unit : (o : Option Known) (u : Around) (x : Ident) (e : Entity) → (declare_if o u x e).unit ≡ u.unit
declared_unit (Some k) u x e = refl
declared_unit None u x e = refl

imports_named : (is : List Import) (u : Around) → Names u → AllByRecursion (λ i. bytes_eq (target_of i).name u.unit ≡ false) is → Names (in_order (map (λ i. import_declared i (target_of i)) is) u).around
imports_named [] u n h = n
imports_named (i ∷ is) u n h =
    let t = target_of i in
    let e = import_entity (is_system t.name) t in
    let o = found_in_scope u i.ident.name in
    imports_named is (declare_if o u i.ident e) (declared_named o u i.ident e n (module_named u.unit i.ident.name (is_system t.name) t h.0))
    (subst (λ m. AllByRecursion (λ i. bytes_eq (target_of i).name m ≡ false) is) (sym (declared_unit o u i.ident e)) h.1)

imports_bound : (is : List Import) (u : Around) → (in_order (map (λ i. import_declared i (target_of i)) is) u).part.contents.bound ≡ []
imports_bound [] u = refl
imports_bound (i ∷ is) u = imports_bound is _

predeclared_known : AreKnown predeclared
predeclared_known = (tt, (tt, (tt, (tt, (tt, (tt, (tt, (tt, (tt, (tt, (tt, (tt, (tt, (tt, (tt, (tt, (tt, (tt, (tt, (tt, (tt, (tt, (tt, (tt, (tt, (tt, (tt, (tt, (tt, (tt, (tt, tt)))))))))))))))))))))))))))))))

predeclared_named : (unit : List ℕ) → AreNamed unit predeclared
predeclared_named unit = (tt, (tt, (tt, (tt, (tt, (tt, (tt, (tt, (tt, (tt, (tt, (tt, (tt, (tt, (tt, (tt, (tt, (tt, (tt, (tt, (tt, (tt, (tt, (tt, (tt, (tt, (tt, (tt, (tt, (tt, (tt, tt)))))))))))))))))))))))))))))))

-- ---- headings leave what is shown

behind_shown : (w : Around) (b : Bool) (x : Head) → (known_behind w b x).shown ≡ w.shown
behind_shown w true x = refl
behind_shown w false x = go x.is_bound
  where
    go : (c : Bool) → (knows_procedure w x c).shown ≡ w.shown
    go true = refl
    go false = refl

headings_shown : (ps : List Written_procedure) (hs : Heads) → (headings_in_order ps hs).around.shown ≡ hs.around.shown
headings_shown [] hs = refl
headings_shown (p ∷ ps) hs =
    let d = head_of hs.around p.heading p.forward in
    let w = with_types hs.around (types_of d.parameters) in
    headings_shown ps (add_heading hs p.heading p.forward) ∙ behind_shown w (name_twice w hs.before d) d

-- ---- declarations of the grammar

module _ (P : QName → Type 0) (s : QName → Option Desc) (leaves : LeavesIn P s) where
  order_is : (ds : List Declaration) → AreGood P s leaves ds → (u : Around) → AreKnown u.known → (in_order (filter_map plain_of ds) u).part.notes.broken ≡ [] → OrderIs (filter_map type_name_of ds) u (in_order (filter_map plain_of ds) u)
  order_is [] g u k e = record { more = u.known; made = []; around = refl; known = k; points = tt; named = λ x h. absurd (false≢true h); none = refl }
  order_is (Procedure p ∷ ds) g u k e = order_is ds g.1 u k e
  order_is (Plain o f ∷ ds) g u k e =
      let a = f u in
      let rest = in_order (filter_map plain_of ds) a.around in
      let p = g.0.0 u k (front_empty a.part.notes.broken rest.part.notes.broken e) in
      order_one o (filter_map type_name_of ds) u a rest p (order_is ds g.1 a.around (subst (λ (v : Around). AreKnown v.known) (sym p.around) p.known) (back_empty a.part.notes.broken rest.part.notes.broken e))

  plains_are : (ds : List Declaration) → AreGood P s leaves ds → AllByRecursion IsPlain (filter_map plain_of ds)
  plains_are [] g = tt
  plains_are (Plain o f ∷ ds) g = (g.0.1, plains_are ds g.1)
  plains_are (Procedure p ∷ ds) g = plains_are ds g.1

  headings_are : (ds : List Declaration) → AreGood P s leaves ds → AllByRecursion GoodHeading (filter_map procedure_of ds)
  headings_are [] g = tt
  headings_are (Plain o f ∷ ds) g = headings_are ds g.1
  headings_are (Procedure p ∷ ds) g = (g.0.heading, headings_are ds g.1)

-- ---- a module against interfaces, and others that show alike what counts for it

module _ (faces others : List (Face Text)) (tree : Tree) (t : TypedModule) (is : checked (shown faces) tree ≡ Some t) (differ : AreDistinct (λ t. t.name) t.types) (apart : AreApart faces tree) (plain : all_true (map is_named_plainly tree.decls) ≡ true) (there : all_true (map declares_variables tree.decls) ≡ true) where
  abbrev P : QName → Type 0
  P q = CountsFor faces (module_view t) q

  abbrev Counted : TypedProcedure → Type 0
  Counted p = CountsIn P (counts_of_procedure (view faces (module_view t)) (procedure_view p))

  abbrev all : Part
  all = module_part (shown faces) tree

  abbrev ds : List Declaration
  ds = map declaration tree.decls

  parts : (all.notes.broken ≡ []) × (typed_module (shown faces) tree.name tree.imports ds all ≡ t)
  parts = unbroken_parts all.notes.broken (typed_module (shown faces) tree.name tree.imports ds all) t is

  name_is : t.name ≡ tree.name.name
  name_is = sym (ap (λ (x : TypedModule). x.name) parts.1)

  bases : ShowBases (shown faces) tree.name.name
  bases = faces_show tree.name.name faces apart.others apart.fit

  none : face_named faces t.name ≡ None
  none = ap (face_named faces) name_is ∙ not_there faces tree.name.name apart.others

  good : AreGood P (shown others) (leaves_in P (shown others)) (map declaration tree.decls)
  good = decls_good P (shown others) (leaves_in P (shown others)) tree.decls plain there

  redefined : BindingsIn P (module_heads (shown faces) tree).around (reversed (module_heads (shown faces) tree).before)
  redefined =
      let s = shown others in
      let leaves = leaves_in P (shown others) in
      let u = around_module (shown faces) tree.name.name (map declaration tree.decls) in
      let D = imports_declared tree.imports u in
      let J = map judging tree.body in
      let W = whole (shown faces) tree in
      let names = filter_map type_name_of (map declaration tree.decls) in
      let fs = filter_map plain_of (map declaration tree.decls) in
      let ps = filter_map procedure_of (map declaration tree.decls) in
      let v : Around = record D.around { later_types = names } in
      let d = in_order fs v in
      let first : Heads = record { around = d.around; before = [] } in
      let hs = headings_in_order ps first in
      let w = hs.around in
      let R = reversed hs.before in
      let l = is_module_level D.around in
      let b = binding_at l w R in
      let U = with_bound w b in
      let T = procedures_judged U ps R in
      let j = in_turn J U in
      let B = body_part j in
      let L = d.part.notes.later ++ heads_later hs.before in
      let fj = all_judged (field_judged (map_of U)) L in
      let wj = forwards_judged (map_of w) R R in
      let n = joined b.notes (joined fj wj) in
      let pj = pointers_judged w L in
      let A : Part = record { notes = joined (nothing_later d.part.notes) pj; contents = d.part.contents } in
      -- what is broken: nothing
      let N : Part = only_notes (name_judged tree.name tree.closing) in
      let eF = back_empty N.notes.broken (D.part.notes.broken ++ W.notes.broken) parts.0 in
      let eD = front_empty D.part.notes.broken W.notes.broken eF in
      let e = back_empty D.part.notes.broken W.notes.broken eF in
      let e1 : n.broken ++ (T.notes.broken ++ B.notes.broken) ≡ [] = back_empty A.notes.broken (n.broken ++ (T.notes.broken ++ B.notes.broken)) e in
      let ed : d.part.notes.broken ≡ [] = front_empty d.part.notes.broken pj.broken (front_empty A.notes.broken (n.broken ++ (T.notes.broken ++ B.notes.broken)) e) in
      let en : n.broken ≡ [] = front_empty n.broken (T.notes.broken ++ B.notes.broken) e1 in
      let ew : wj.broken ≡ [] = back_empty fj.broken wj.broken (back_empty b.notes.broken (fj.broken ++ wj.broken) en) in
      let eT : T.notes.broken ≡ [] = front_empty T.notes.broken B.notes.broken (back_empty n.broken (T.notes.broken ++ B.notes.broken) e1) in
      -- what stands around
      let i = imports_good tree.imports u predeclared_known eD in
      let start : Start D.around = record {
        known = subst (λ (z : Around). AreKnown z.known) (sym i.around) i.known;
        named = imports_named tree.imports u (predeclared_named tree.name.name) apart.imports;
        held = subst (λ (z : Around). AllHeld z) (sym i.around) tt;
        shown = subst (λ (z : Around). ShowBases z.shown z.unit) (sym i.around) bases;
        bound = subst (λ (z : Around). Signed z.bound) (sym i.around) tt;
        guards = subst (λ (z : Around). z.guards ≡ []) (sym i.around) refl;
      } in
      let o : OrderIs names v d = order_is P s leaves (map declaration tree.decls) good v start.known ed in
      let are_plain = plains_are P s leaves (map declaration tree.decls) good in
      let start_heads : HeadsAre d.around.unit first = record {
        unit_is = refl;
        known = subst (λ (z : Around). AreKnown z.known) (sym o.around) o.known;
        named = order_named fs are_plain v start.named;
        based = declared_based names D.around start d o;
        bound = subst (λ (z : Around). Signed z.bound) (sym o.around) start.bound;
        guards = subst (λ (z : Around). z.guards ≡ []) (sym o.around) start.guards;
      } in
      let before_is : R ≡ heads_of ps first = heads_are ps first in
      let ok = heads_are_ok d.around.unit U ps (headings_are P s leaves (map declaration tree.decls) good) first start_heads (subst (λ hs. (procedures_judged U ps hs).notes.broken ≡ []) before_is eT) in
      let have : AllByRecursion (λ (h : Head). Has (λ p. Unit {0}) h.parameters) (heads_of ps first) = all_from (HeadOk d.around.unit) (λ (h : Head). Has (λ p. Unit {0}) h.parameters) (λ h k. k.parameters) (heads_of ps first) ok.1 in
      let unit_d : d.around.unit ≡ tree.name.name = ap (λ (z : Around). z.unit) o.around ∙ ap (λ (z : Around). z.unit) i.around in
      let unit_w : w.unit ≡ t.name = ok.0.unit_is ∙ unit_d ∙ sym name_is in
      let shown_w : w.shown ≡ shown faces = headings_shown ps first ∙ ap (λ (z : Around). z.shown) o.around ∙ ap (λ (z : Around). z.shown) i.around in
      let level : l ≡ true = ap is_module_level i.around in
      -- what procedures count
      let counts_t = each_counted faces t t.procedures (procedures_count faces t) in
      let counts_p : AllByRecursion Counted (D.part.contents.procedures ++ (d.part.contents.procedures ++ (T.contents.procedures ++ []))) = subst (λ (x : TypedModule). AllByRecursion Counted x.procedures) (sym parts.1) counts_t in
      let counts_T = all_front Counted T.contents.procedures [] (all_back Counted d.part.contents.procedures (T.contents.procedures ++ []) (all_back Counted D.part.contents.procedures (d.part.contents.procedures ++ (T.contents.procedures ++ [])) counts_p)) in
      let heads = heads_count faces t U ps first have (subst (λ hs. AllByRecursion Counted (procedures_judged U ps hs).contents.procedures) before_is counts_T) in
      let heads_R : AllByRecursion (HeadCounts faces t U) R = subst (AllByRecursion (HeadCounts faces t U)) (sym before_is) heads in
      let have_R = subst (AllByRecursion (λ (h : Head). Has (λ p. Unit {0}) h.parameters)) (sym before_is) have in
      let judged = counted_judged (map_of w) R ew have_R in
      let counting = kept_filter (HeadCounts faces t U) (counts R) R heads_R in
      -- the types
      let types_are : t.types ≡ all_described (D.part.contents.bound ++ W.contents.bound) (made (shown faces) tree) = sym (ap (λ (x : TypedModule). x.types) parts.1) in
      let apart_types = distinct_back (D.part.contents.bound ++ W.contents.bound) (made (shown faces) tree) (subst (AreDistinct (λ t. t.name)) types_are differ) in
      let names_W = bound_named (shown faces) tree e apart_types in
      let nothing_D = imports_bound tree.imports u in
      let nothing_d = order_bound fs are_plain v in
      let rest = T.contents.bound ++ [] in
      let names_b : AllByRecursion (λ (y : TypedType). has_name (made (shown faces) tree) y.name ≡ true) b.own = all_front (λ (y : TypedType). has_name (made (shown faces) tree) y.name ≡ true) b.own rest (all_back (λ (y : TypedType). has_name (made (shown faces) tree) y.name ≡ true) d.part.contents.bound (b.own ++ rest) names_W) in
      let laid : AreLaid faces t b.own = laid_types faces t (D.part.contents.bound ++ W.contents.bound) (made (shown faces) tree) b.own types_are (λ x y f. (
        ap (λ (zs : List TypedType). find (λ (s : TypedType). bytes_eq s.name x) (zs ++ W.contents.bound)) nothing_D ∙ ap (λ (zs : List TypedType). find (λ (s : TypedType). bytes_eq s.name x) (zs ++ (b.own ++ rest))) nothing_d ∙ found_front (λ (s : TypedType). bytes_eq s.name x) b.own rest y f,
        found_named (made (shown faces) tree) x y (find (λ (s : TypedType). bytes_eq s.name x) b.own) f (found_has (λ (y : TypedType). has_name (made (shown faces) tree) y.name ≡ true) (λ (s : TypedType). bytes_eq s.name x) b.own names_b),
      )) in
      let all_in = all_redefine faces t w b unit_w shown_w laid (counted R) judged counting in
      let owned = subst (λ m. AllByRecursion (λ (h : Head). IsOwned m h.bound) hs.before) (sym ok.0.unit_is) (heads_are_owned d.around ps) in
      let owned_R = kept_filter (λ (h : Head). IsOwned w.unit h.bound) (counts R) R (reversed_all (λ (h : Head). IsOwned w.unit h.bound) hs.before owned) in
      bindings_in P w R owned_R (subst (λ z. AllByRecursion (λ (h : Head). RedefinesIn P (with_own w (binding_at z w R).own) h h.bound) (counted R)) level all_in)

  own_in : OwnIn P tree.name.name
  own_in x = inr ((bytes_eq-Decides tree.name.name t.name).1 (sym name_is))

  pub is_same : HaveNoOut others → ShowAlike faces others (module_view t) → IsSameThere (shown others) tree t
  is_same out alike = agree_on P (shown others) (leaves_in P (shown others)) (shown faces) tree t is
      (record {
        shows = shows faces t none others apart.out out alike;
        own = own_in;
        bases = bases;
        imports = apart.imports;
        plain = plain;
        variables = there;
        redefined = redefined;
        mentions = mentions faces t;
      })

pub rules_are_local : RulesAreLocal
rules_are_local faces others text tree m read is differ apart out alike = is_same faces others tree m is differ apart (headings_are_named text tree read) (readings_declare text tree read) out alike
