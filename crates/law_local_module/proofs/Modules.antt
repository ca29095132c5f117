-- Each declaration of the grammar, and modules, with other interfaces around.
use Rattle.std.proofs.Common.{◌≡◌, refl, sym, ap, ◌∙◌, subst, ℕ, Bool, true, false, List, [], ◌∷◌, ◌++◌, map, Option, Some, None}
use Rattle.std.specs.Prelude.{bytes_eq, not, ◌||◌, ◌==◌}
use Rattle.std.specs.List.{AllByRecursion}
use Rattle.std.proofs.lemmas.Bool.{false≢true, and_parts}
use Rattle.ob_tree.specs.declared.names.QName.{QName}
use Rattle.ob_tree.specs.declared.ident.Ident.{Ident}
use Rattle.ob_tree.specs.declared.ident.IdentDef.{IdentDef}
use Rattle.ob_tree.specs.declared.ident.Import.{Import}
use Rattle.ob_tree.specs.declared.stmt.Stmt.{Stmt}
use Rattle.ob_tree.specs.declared.type_node.TypeNode.{TypeNode}
use Rattle.ob_tree.specs.declared.decl.Decl.{Decl, roll-Decl, map-Decl}
use Rattle.ob_tree.specs.declared.decl.Decl.TheOpen.{Decl-F}
use Rattle.ob_tree.specs.declared.decl.Decl.TheFolds.{ind-Decl, fold-roll-Decl}
use Rattle.ob_tree.specs.declared.decl.Module.{Module as Tree}
use Rattle.ob_types.specs.declared.desc.Desc.{Desc}
use Rattle.ob_types.specs.declared.typed.TypedModule.{TypedModule}
use Rattle.ob_rules.specs.declared.broken.Broken.{Broken}
use Rattle.ob_rules.specs.declared.entity.Known.{Known}
use Rattle.ob_rules.specs.declared.entity.Entity.{Entity}
use Rattle.ob_rules.specs.declared.entity.Entity.TheVariants as entity
use Rattle.ob_rules.specs.Judged.{joined, least, no_notes}
use Rattle.ob_rules.specs.Names.{Around, predeclared, found_in_scope, is_out}
use Rattle.ob_rules.specs.Expressions.{phrase_of}
use Rattle.ob_rules.specs.Types.{written}
use Rattle.ob_rules.specs.Statements.{judging}
use Rattle.ob_rules.specs.Headings.{reversed}
use Rattle.ob_rules.specs.Declarations.{Part, Declared, Declaration, with_part, only_notes, declare_if, in_order, headings_in_order, plain_of, procedure_of, type_name_of, block, decl_rule, declaration, is_system, import_entity, import_declared, imports_declared, target_of, around_module, name_judged, module_of, module_part, first_break, typed_module, if_unbroken, checked_part, checked}
use Rattle.law_names_procedures.specs.Procedures.{ShowBases, is_plain, all_true, heading_layer, is_named_plainly}
use Rattle.law_names_procedures.proofs.Knowing.{AreKnown}
use Rattle.law_names_procedures.proofs.Apart.{IsPlain as IsPlainName}
use Rattle.law_names_procedures.proofs.Written.{written_well, written_parameters_well}
use Rattle.law_names_procedures.proofs.Plain.{constant_good, type_good, variables_good, imports_good}
use Rattle.law_local_judged.specs.Agreement.{DescIn}
use Rattle.law_local_judged.specs.Said.{SaidIn, ModuleIn}
use Rattle.law_local_judged.specs.Followed.{beside, EntityIn, Agrees}
use Rattle.law_local_judged.specs.Declared.{OwnIn, a_constant, a_type, variables}
use Rattle.law_local_judged.specs.Headed.{KnownIn, BindingsIn}
use Rattle.law_local_judged.proofs.Following.{said_right}
use Rattle.law_local_judged.proofs.Tests.{two}
use Rattle.law_local_judged.proofs.Parameters.{agrees_known}
use Rattle.law_local_nodes.specs.Quiet.{IsNamed, AreNamed}
use Rattle.law_local_module.specs.Laws.{LeavesIn, ContentsIn, is_there, variables_layer, declares_variables, AreOthers, module_heads, ShowSame, CountsAlike, IsSameThere, ModulesAgree}
use Rattle.law_local_module.proofs.Steady.{AllHeld, Start, Names}
use Rattle.law_local_module.proofs.Bound.{Signed}
use Rattle.law_local_module.proofs.Blocks.{GoodProcedure, GoodDeclaration, AreGood, block_same, contents_right}
use Rattle.law_lists.proofs.Lists.{back_empty, front_empty, not_false, or_parts}

-- ---- names of procedures

differs : (b c : ℕ) → (c == c) ≡ true → (b == c) ≡ false → b ≡ c → ⊥
differs b c r e i = false≢true (sym e ∙ (ap (λ n. n == c) i ∙ r))

plain_from : (x : List ℕ) → is_plain x ≡ true → IsPlainName x
plain_from [] e = (tt, tt)
plain_from (b ∷ x) e =
    let p = and_parts (not (b == 46 || b == 47)) (is_plain x) e in
    let q = or_parts (b == 46) (b == 47) (not_false (b == 46 || b == 47) p.0) in
    let r = plain_from x p.1 in
    ((differs b 46 refl q.0, r.0), (differs b 47 refl q.1, r.1))

module _ (P : QName → Type 0) (s : QName → Option Desc) (leaves : LeavesIn P s) where
  -- ---- by induction over declarations

  abbrev Good : Declaration → Type 0
  Good d = GoodDeclaration P s leaves d

  abbrev PD : Decl → Type 0
  PD x = is_named_plainly x ≡ true → declares_variables x ≡ true → GoodDeclaration P s leaves (declaration x)

  abbrev SD : Type 0
  SD = (x : Decl) × PD x

  all_of : (xs : List SD) → all_true (map is_named_plainly (map (λ (x : SD). x.0) xs)) ≡ true → all_true (map declares_variables (map (λ (x : SD). x.0) xs)) ≡ true → AreGood P s leaves (map declaration (map (λ (x : SD). x.0) xs))
  all_of [] e f = tt
  all_of (x ∷ xs) e f =
      let p = and_parts (is_named_plainly x.0) (all_true (map is_named_plainly (map (λ (x : SD). x.0) xs))) e in
      let q = and_parts (declares_variables x.0) (all_true (map declares_variables (map (λ (x : SD). x.0) xs))) f in
      (x.1 p.0 q.0, all_of xs p.1 q.1)

  layer : (x : Decl-F Decl) → (heading_layer (map-Decl Decl Bool is_named_plainly x) ≡ true → variables_layer (map-Decl Decl Bool declares_variables x) ≡ true → Good (decl_rule (map-Decl Decl Declaration declaration x))) → PD (roll-Decl x)
  layer x h = λ e f. subst Good (sym (fold-roll-Decl Declaration decl_rule x)) (h (sym (fold-roll-Decl Bool heading_layer x) ∙ e) (sym (fold-roll-Decl Bool variables_layer x) ∙ f))

  variables_by : (ds : List IdentDef) (n : TypeNode) → is_there ds ≡ true → Good (decl_rule (Decl-F.Variables ds n))
  variables_by [] n e = absurd (false≢true e)
  variables_by (d ∷ ds) n e = (variables_good (d ∷ ds) (written n) (written_well n), variables d ds n)

  decl_cases : (y : Decl-F SD) → PD (roll-Decl (map-Decl SD Decl (λ x. x.0) y))
  decl_cases (Decl-F.Constant d x) = layer (Decl-F.Constant d x) (λ e f. (constant_good d (phrase_of x), a_constant d x))
  decl_cases (Decl-F.NamedType d n) = layer (Decl-F.NamedType d n) (λ e f. (type_good d (written n) (written_well n), a_type d n))
  decl_cases (Decl-F.Variables ds n) = layer (Decl-F.Variables ds n) (λ e f. variables_by ds n f)
  decl_cases (Decl-F.Procedure h ds body closing) = layer (Decl-F.Procedure h (map (λ (x : SD). x.0) ds) body closing) (λ e f.
      let p = and_parts (is_plain h.name.ident.name) (all_true (map is_named_plainly (map (λ (x : SD). x.0) ds))) e in
      record {
        heading = record { well = written_parameters_well h.parameters; plain = plain_from h.name.ident.name p.0 };
        grammar = (h, refl);
        inside = λ u start level a own n said m. block_same P s leaves (map declaration (map (λ (x : SD). x.0) ds)) (all_of ds p.1 f) body u start a own (λ l. absurd (false≢true (sym level ∙ l))) n said m;
      })
  decl_cases (Decl-F.Forward h) = layer (Decl-F.Forward h) (λ e f. record {
    heading = record { well = written_parameters_well h.parameters; plain = plain_from h.name.ident.name e };
    grammar = (h, refl);
    inside = λ u start level a own n said m. refl;
  })

  decl_good : (x : Decl) → PD x
  decl_good = ind-Decl PD (λ x y is. subst (λ z. PD (roll-Decl z)) is (decl_cases y))

  pub decls_good : (xs : List Decl) → all_true (map is_named_plainly xs) ≡ true → all_true (map declares_variables xs) ≡ true → AreGood P s leaves (map declaration xs)
  decls_good [] e f = tt
  decls_good (x ∷ xs) e f =
      let p = and_parts (is_named_plainly x) (all_true (map is_named_plainly xs)) e in
      let q = and_parts (declares_variables x) (all_true (map declares_variables xs)) f in
      (decl_good x p.0 q.0, decls_good xs p.1 q.1)

  -- ---- imports

  -- imports say the same there, and add names of modules
  record ImportsSame (u : Around) (x y : Declared) : Type 0 where
    part : y.part ≡ x.part
    around : y.around ≡ beside x.around s
    agrees : Agrees P x.around s
    named : Names x.around
    unit : x.around.unit ≡ u.unit

  module_in : (b : Bool) (t : Ident) → EntityIn P (import_entity b t)
  module_in true t = tt
  module_in false t = tt

  module_named : (unit x : List ℕ) (b : Bool) (t : Ident) → bytes_eq t.name unit ≡ false → IsNamed unit x (import_entity b t)
  module_named unit x true t h = tt
  module_named unit x false t h = h

  declared : (o : Option Known) (u : Around) (x : Ident) (e : Entity) (p : Part) → Agrees P u s → Names u → EntityIn P e → IsNamed u.unit x.name e → ImportsSame u (record { part = p; around = declare_if o u x e }) (record { part = p; around = declare_if o (beside u s) x e })
  declared (Some k) u x e p a n h i = record { part = refl; around = refl; agrees = a; named = n; unit = refl }
  declared None u x e p a n h i = record { part = refl; around = refl; agrees = agrees_known P u s (record { name = x.name; scope = u.scope; what = e } ∷ u.known) a (h, a.known); named = (i, n); unit = refl }

  imports_same : (is : List Import) (u : Around) → Agrees P u s → Names u → AllByRecursion (λ i. bytes_eq (target_of i).name u.unit ≡ false) is → ImportsSame u (in_order (map (λ i. import_declared i (target_of i)) is) u) (in_order (map (λ i. import_declared i (target_of i)) is) (beside u s))
  imports_same [] u a n h = record { part = refl; around = refl; agrees = a; named = n; unit = refl }
  imports_same (i ∷ is) u a n h =
      let fs = map (λ i. import_declared i (target_of i)) is in
      let t = target_of i in
      let e = import_entity (is_system t.name) t in
      let x = import_declared i t u in
      let one = declared (found_in_scope u i.ident.name) u i.ident e x.part a n (module_in (is_system t.name) t) (module_named u.unit i.ident.name (is_system t.name) t h.0) in
      let rest = imports_same is x.around one.agrees one.named (subst (λ m. AllByRecursion (λ i. bytes_eq (target_of i).name m ≡ false) is) (sym one.unit) h.1) in
      let moved = ap (in_order fs) one.around in
      record {
        part = ap (λ (z : Declared). with_part x.part z.part) moved ∙ ap (with_part x.part) rest.part;
        around = ap (λ (z : Declared). z.around) moved ∙ rest.around;
        agrees = rest.agrees;
        named = rest.named;
        unit = rest.unit ∙ one.unit;
      }

  -- ---- modules

  predeclared_known : AreKnown predeclared
  predeclared_known = (tt, (tt, (tt, (tt, (tt, (tt, (tt, (tt, (tt, (tt, (tt, (tt, (tt, (tt, (tt, (tt, (tt, (tt, (tt, (tt, (tt, (tt, (tt, (tt, (tt, (tt, (tt, (tt, (tt, (tt, (tt, tt)))))))))))))))))))))))))))))))

  predeclared_in : KnownIn P predeclared
  predeclared_in = (tt, (tt, (tt, (tt, (tt, (tt, (tt, (tt, (tt, (tt, (tt, (tt, (tt, (tt, (tt, (tt, (tt, (tt, (tt, (tt, (tt, (tt, (tt, (tt, (tt, (tt, (tt, (tt, (tt, (tt, (tt, tt)))))))))))))))))))))))))))))))

  predeclared_named : (unit : List ℕ) → AreNamed unit predeclared
  predeclared_named unit = (tt, (tt, (tt, (tt, (tt, (tt, (tt, (tt, (tt, (tt, (tt, (tt, (tt, (tt, (tt, (tt, (tt, (tt, (tt, (tt, (tt, (tt, (tt, (tt, (tt, (tt, (tt, (tt, (tt, (tt, (tt, tt)))))))))))))))))))))))))))))))

  -- A MODULE
  pub module_same : (shown : QName → Option Desc) (tree : Tree) → ShowSame P shown s → OwnIn P tree.name.name → ShowBases shown tree.name.name → AreOthers tree.name.name tree.imports → all_true (map is_named_plainly tree.decls) ≡ true → all_true (map declares_variables tree.decls) ≡ true →
      BindingsIn P (module_heads shown tree).around (reversed (module_heads shown tree).before) → (module_part shown tree).notes.broken ≡ [] → SaidIn P (module_part shown tree).notes → ContentsIn P (module_part shown tree).contents → module_part s tree ≡ module_part shown tree
  module_same shown tree w own bases imports plain there bound e said m =
      let ds = map declaration tree.decls in
      let J = map judging tree.body in
      let u = around_module shown tree.name.name ds in
      let d = imports_declared tree.imports u in
      let b = block ds J d.around in
      let N : Part = only_notes (name_judged tree.name tree.closing) in
      let F = with_part d.part b in
      let eF = back_empty N.notes.broken (d.part.notes.broken ++ b.notes.broken) e in
      let eb = back_empty d.part.notes.broken b.notes.broken eF in
      let mb = said_right P d.part.notes b.notes (said_right P N.notes F.notes said) in
      let cb = contents_right P s leaves d.part b (contents_right P s leaves N F m) in
      let a : Agrees P u s = record { same = w.same; near = w.near; out = w.out; own = tt; known = predeclared_in; guards = tt; receiver = tt; result = tt } in
      let i = imports_good tree.imports u predeclared_known (front_empty d.part.notes.broken b.notes.broken eF) in
      let I = imports_same tree.imports u a (predeclared_named tree.name.name) imports in
      let start : Start d.around = record {
        known = subst (λ (z : Around). AreKnown z.known) (sym i.around) i.known;
        named = I.named;
        held = subst (λ (z : Around). AllHeld z) (sym i.around) tt;
        shown = subst (λ (z : Around). ShowBases z.shown z.unit) (sym i.around) bases;
        bound = subst (λ (z : Around). Signed z.bound) (sym i.around) tt;
        guards = subst (λ (z : Around). z.guards ≡ []) (sym i.around) refl;
      } in
      let B = block_same P s leaves ds (decls_good tree.decls plain there) tree.body d.around start I.agrees (subst (OwnIn P) (sym I.unit) own) (λ l. bound) eb mb cb in
      two (λ x y. with_part N (with_part x (block ds J y))) I.part I.around ∙ ap (λ x. with_part N (with_part d.part x)) B

unbroken_parts : (bs : List Broken) (x m : TypedModule) → if_unbroken bs x ≡ Some m → (bs ≡ []) × (x ≡ m)
unbroken_parts [] x m e = (refl, cc)
unbroken_parts (b ∷ bs) x m e = absurd cc

pub agree_on : (P : QName → Type 0) (s : QName → Option Desc) → LeavesIn P s → (shown : QName → Option Desc) (tree : Tree) (t : TypedModule) → checked shown tree ≡ Some t → CountsAlike P shown s tree t → IsSameThere s tree t
agree_on P s leaves shown tree t is c =
    let p = module_part shown tree in
    let ds = map declaration tree.decls in
    let k = unbroken_parts p.notes.broken (typed_module shown tree.name tree.imports ds p) t is in
    let m : ModuleIn P (typed_module shown tree.name tree.imports ds p) = subst (ModuleIn P) (sym k.1) c.mentions in
    let same = module_same P s leaves shown tree c.shows c.own c.bases c.imports c.plain c.variables c.redefined k.0 (record { objects = m.objects; types = m.types; lengths = m.lengths }) (m.bodies, m.body) in
    (ap (checked_part s tree.name tree.imports ds) same ∙ is, ap (λ (p : Part). least p.notes.broken) same ∙ ap least k.0)

pub modules_agree : ModulesAgree
modules_agree names s leaves shown tree t is c = agree_on (λ q. names q ≡ true) s leaves shown tree t is c
