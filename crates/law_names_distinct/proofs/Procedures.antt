-- Procedures, and sequences of declarations: the names in each procedure differ.
use Rattle.std.proofs.Common.{◌≡◌, ◌≢◌, ℕ, suc, Bool, true, false, List, [], ◌∷◌, ◌++◌, map, Option, Some, None, refl, sym, ap, subst, ◌∙◌}
use Rattle.std.specs.Prelude.{cond, is_some, codes}
use Rattle.std.specs.List.{AllByRecursion, cons_option, find, filter_map}
use Rattle.ob_tree.specs.declared.names.QName.{QName}
use Rattle.ob_tree.specs.declared.ident.Ident.{Ident}
use Rattle.ob_tree.specs.declared.ident.IdentDef.{IdentDef}
use Rattle.ob_tree.specs.declared.ident.Import.{Import}
use Rattle.ob_tree.specs.declared.ident.Mark.{Mark}
use Rattle.ob_tree.specs.declared.ident.Mark.TheVariants as mark
use Rattle.ob_tree.specs.declared.decl.Decl.{Decl, roll-Decl, map-Decl}
use Rattle.ob_tree.specs.declared.decl.Decl.TheOpen.{Decl-F}
use Rattle.ob_tree.specs.declared.decl.Decl.TheFolds.{ind-Decl, fold-roll-Decl}
use Rattle.ob_tree.specs.declared.decl.Module.{Module as Tree}
use Rattle.ob_types.specs.declared.value.Value.{Value}
use Rattle.ob_types.specs.declared.desc.Desc.{Desc}
use Rattle.ob_types.specs.declared.typed.TypedVariable.{TypedVariable}
use Rattle.ob_types.specs.declared.typed.TypedProcedure.{TypedProcedure}
use Rattle.ob_types.specs.declared.typed.TypedModule.{TypedModule}
use Rattle.ob_rules.specs.declared.entity.Known.{Known}
use Rattle.ob_rules.specs.declared.broken.Broken.{Broken}
use Rattle.ob_rules.specs.declared.notes.Later.{Later}
use Rattle.ob_rules.specs.Judged.{Judged, Notes, both, joined, ◌▷◌}
use Rattle.ob_rules.specs.Shapes.{Map}
use Rattle.ob_rules.specs.Names.{Around, map_of, in_scope, found_in_scope}
use Rattle.ob_rules.specs.Expressions.{phrase_of, constant_value}
use Rattle.ob_rules.specs.Phrases.{Phrase}
use Rattle.ob_rules.specs.Types.{Typing, Written, Parameters, written, is_module_level, marked, with_types}
use Rattle.ob_rules.specs.Statements.{Judging, judging, in_turn}
use Rattle.ob_rules.specs.Headings.{WrittenHeading, heading_of, Head, Heads, Binding, head_of, types_of, name_twice, declared_head, knows_procedure, known_behind, add_heading, forwards_judged, reversed}
use Rattle.ob_rules.specs.Declarations.{Contents, Part, no_part, Declared, first_name, constant_contents, no_nil, constant_declared, type_declared, variable_contents, variable_with, variables_with, paired_typing, made_in, variables_declared, Written_procedure, Declaration, Plain, Procedure, plain_of, procedure_of, type_name_of, in_order, headings_in_order, pointers_judged, field_judged, all_judged, nothing_later, closing_judged, around_body, typed_procedure, procedure_contents, procedure_judged, procedures_judged, body_part, block_inside, with_bound, binding_at, block_bound, heads_later, block_headed, block_declared, block, decl_rule, declaration, target_of, import_declared, imports_declared, around_module, module_of, typed_module}
use Rattle.law_names_distinct.specs.Distinct.{AreDistinct}
use Rattle.law_names_distinct.specs.Procedures.{names_in, HasNames, ProceduresHaveNames}
use Rattle.law_names_distinct.proofs.Fresh.{distinct_both, is_known, IsFresh}
use Rattle.law_names_distinct.proofs.Blocks.{FreshPlain, constant_fresh, type_fresh, variables_declared_fresh, order_fresh, headed_none, no_more, unbroken_is}
use Rattle.law_names_distinct.proofs.Parameters.{known_in, head_names, IsInside, GoodHead, head_good}
use Rattle.law_lists.proofs.Lists.{IfThere, all_both, all_from, back_empty, front_empty}

-- ---- headings in order

record GoodHeads (n : ℕ) (hs : Heads) : Type 0 where
  scope : suc hs.around.scope ≡ n
  before : AllByRecursion (GoodHead n) hs.before

behind_scope : (u : Around) (twice : Bool) (h : Head) → (known_behind u twice h).scope ≡ u.scope
behind_scope u true h = refl
behind_scope u false h = by h.is_bound
  where
    by : (b : Bool) → (knows_procedure u h b).scope ≡ u.scope
    by true = refl
    by false = refl

declared_good : (n : ℕ) (twice : Bool) (h : Head) (u : Around) → GoodHead n h → GoodHead n (declared_head twice h u)
declared_good n true h u g = λ e. tt
declared_good n false h u g = λ e. by h.parameters (g e)
  where
    by : (o : Option Parameters) → IfThere (IsInside n h) o → IfThere (IsInside n (record h { known = u.known })) o
    by None k = tt
    by (Some p) k = record { there = k.there; differ = k.differ }

heading_good : (n : ℕ) (hs : Heads) → GoodHeads n hs → (w : WrittenHeading) (forward : Bool) → GoodHeads n (add_heading hs w forward)
heading_good n hs g w forward =
    let h = head_of hs.around w forward in
    let u = with_types hs.around (types_of h.parameters) in
    let t = name_twice u hs.before h in
    record {
      scope = ap suc (behind_scope u t h) ∙ g.scope;
      before = (declared_good n t h (known_behind u t h) (subst (λ k. GoodHead k h) g.scope (head_good hs.around w forward)), g.before);
    }

headings_good : (n : ℕ) (ps : List Written_procedure) (hs : Heads) → GoodHeads n hs → GoodHeads n (headings_in_order ps hs)
headings_good n [] hs g = g
headings_good n (p ∷ ps) hs g = headings_good n ps (add_heading hs p.heading p.forward) (heading_good n hs g p.heading p.forward)

reversed_all : {A : Type 0} (P : A → Type 0) (xs : List A) → AllByRecursion P xs → AllByRecursion P (reversed xs)
reversed_all P [] h = tt
reversed_all P (x ∷ xs) h = all_both P (reversed xs) (x ∷ []) (reversed_all P xs h.1) (h.0, tt)

-- ---- a procedure

-- what is inside it: local variables are new, and differ; and so it is of the procedures inside
record IsWell (u : Around) (p : Part) : Type 0 where
  new : p.notes.broken ≡ [] → AllByRecursion (λ v. is_known u v.name ≡ false) p.contents.variables
  differ : p.notes.broken ≡ [] → AreDistinct (λ v. v.name) p.contents.variables
  procedures : p.notes.broken ≡ [] → AllByRecursion HasNames p.contents.procedures

abbrev GoodProcedure : Written_procedure → Type 0
GoodProcedure p = (u : Around) → IsWell u (p.inside u)

known_front : (n : ℕ) (ks ls : List Known) (x : List ℕ) → known_in n ks x ≡ true → known_in n (ks ++ ls) x ≡ true
known_front n [] ls x h = absurd cc
known_front n (k ∷ ks) ls x h = by (in_scope n k x) h (λ h. known_front n ks ls x h)
  where
    by : (b : Bool) → is_some (cond b (Some k) (find (λ k. in_scope n k x) ks)) ≡ true → (known_in n ks x ≡ true → known_in n (ks ++ ls) x ≡ true) → is_some (cond b (Some k) (find (λ k. in_scope n k x) (ks ++ ls))) ≡ true
    by true h r = refl
    by false h r = r h

variable_names : (vs : List TypedVariable) → AreDistinct (λ v. v.name) vs → AreDistinct (λ x. x) (map (λ (v : TypedVariable). v.name) vs)
variable_names [] h = tt
variable_names (v ∷ vs) h = (others vs h.0, variable_names vs h.1)
  where
    others : (ws : List TypedVariable) → AllByRecursion (λ w. w.name ≢ v.name) ws → AllByRecursion (λ y. y ≢ v.name) (map (λ (v : TypedVariable). v.name) ws)
    others [] k = tt
    others (w ∷ ws) k = (k.0, others ws k.1)

variable_new : (known : List ℕ → Bool) (vs : List TypedVariable) → AllByRecursion (λ v. known v.name ≡ false) vs → AllByRecursion (λ x. known x ≡ false) (map (λ (v : TypedVariable). v.name) vs)
variable_new known [] h = tt
variable_new known (v ∷ vs) h = (h.0, variable_new known vs h.1)

typed_good : (u : Around) (map_ : Map) (h : Head) (o : Option Parameters) → IfThere (IsInside (suc u.scope) h) o → (c : Contents) → AllByRecursion (λ v. is_known (around_body u h) v.name ≡ false) c.variables → AreDistinct (λ v. v.name) c.variables → AllByRecursion HasNames (typed_procedure map_ h o c)
typed_good u map_ h None g c new differ = tt
typed_good u map_ h (Some p) g c new differ = (
  distinct_both (λ x. x) (is_known (around_body u h)) (head_names h p) (map (λ (v : TypedVariable). v.name) c.variables) g.differ (variable_names c.variables differ)
      (all_from (λ x. known_in (suc u.scope) h.inside x ≡ true) (λ x. is_known (around_body u h) x ≡ true) (λ x k. known_front (suc u.scope) h.inside h.known x k) (head_names h p) g.there)
      (variable_new (is_known (around_body u h)) c.variables new),
  tt,
)

judged_good : (u : Around) (p : Written_procedure) → GoodProcedure p → (h : Head) → GoodHead (suc u.scope) h → (forward : Bool) → (procedure_judged u p h forward).notes.broken ≡ [] → AllByRecursion HasNames (procedure_judged u p h forward).contents.procedures
judged_good u p g h k true e = tt
judged_good u p g h k false e =
    let part = p.inside (around_body u h) in
    let w = g (around_body u h) in
    let rest = (closing_judged h.name p.closing).broken ++ part.notes.broken in
    let quiet = back_empty (closing_judged h.name p.closing).broken part.notes.broken (back_empty h.notes.broken rest e) in
    all_both HasNames (typed_procedure (map_of u) h h.parameters part.contents) part.contents.procedures
    (typed_good u (map_of u) h h.parameters (k (front_empty h.notes.broken rest e)) part.contents (w.new quiet) (w.differ quiet)) (w.procedures quiet)

procedures_good : (u : Around) (ps : List Written_procedure) → AllByRecursion GoodProcedure ps → (hs : List Head) → AllByRecursion (GoodHead (suc u.scope)) hs → (procedures_judged u ps hs).notes.broken ≡ [] → AllByRecursion HasNames (procedures_judged u ps hs).contents.procedures
procedures_good u [] g hs k e = tt
procedures_good u (p ∷ ps) g [] k e = tt
procedures_good u (p ∷ ps) g (h ∷ hs) k e =
    let a = procedure_judged u p h p.forward in
    let b = procedures_judged u ps hs in
    all_both HasNames a.contents.procedures b.contents.procedures (judged_good u p g.0 h k.0 p.forward (front_empty a.notes.broken b.notes.broken e)) (procedures_good u ps g.1 hs k.1 (back_empty a.notes.broken b.notes.broken e))

-- ---- sequences of declarations

nothing_behind : (xs : List TypedProcedure) → AllByRecursion HasNames xs → AllByRecursion HasNames (xs ++ [])
nothing_behind xs h = all_both HasNames xs [] h tt

headed_good : (outer : Around) (later : List Later) (ps : List Written_procedure) → AllByRecursion GoodProcedure ps → (body : List Judging) (hs : Heads) → GoodHeads (suc hs.around.scope) hs → (block_headed outer later ps body hs).notes.broken ≡ [] → AllByRecursion HasNames (block_headed outer later ps body hs).contents.procedures
headed_good outer later ps g body hs k e =
    let b = binding_at (is_module_level outer) hs.around (reversed hs.before) in
    let u = with_bound hs.around b in
    let all = procedures_judged u ps (reversed hs.before) in
    let inside = back_empty _ _ e in
    nothing_behind all.contents.procedures (procedures_good u ps g (reversed hs.before) (reversed_all (GoodHead (suc u.scope)) hs.before k.before) (front_empty all.notes.broken (in_turn body u).notes.broken inside))

-- a declaration that is no procedure adds none
abbrev PlainGood : (Around → Declared) → Type 0
PlainGood f = (u : Around) → IsFresh u (f u) × ((f u).part.contents.procedures ≡ [])

order_none : (fs : List (Around → Declared)) → AllByRecursion PlainGood fs → (u : Around) → (in_order fs u).part.contents.procedures ≡ []
order_none [] h u = refl
order_none (f ∷ fs) h u = subst (λ ps. ps ++ (in_order fs (f u).around).part.contents.procedures ≡ []) (sym (h.0 u).1) (order_none fs h.1 (f u).around)

only_fresh : (fs : List (Around → Declared)) → AllByRecursion PlainGood fs → AllByRecursion FreshPlain fs
only_fresh [] h = tt
only_fresh (f ∷ fs) h = (λ u. (h.0 u).0, only_fresh fs h.1)

abbrev GoodDeclaration : Declaration → Type 0
GoodDeclaration (Plain x f) = PlainGood f
GoodDeclaration (Procedure p) = GoodProcedure p

abbrev AreGood : List Declaration → Type 0
AreGood ds = AllByRecursion GoodDeclaration ds

plain_kept : (ds : List Declaration) → AreGood ds → AllByRecursion PlainGood (filter_map plain_of ds)
plain_kept [] h = tt
plain_kept (d ∷ ds) h = by d h.0 (plain_kept ds h.1)
  where
    by : (d : Declaration) → GoodDeclaration d → AllByRecursion PlainGood (filter_map plain_of ds) → AllByRecursion PlainGood (cons_option (plain_of d) (filter_map plain_of ds))
    by (Plain x f) g r = (g, r)
    by (Procedure p) g r = r

procedures_kept : (ds : List Declaration) → AreGood ds → AllByRecursion GoodProcedure (filter_map procedure_of ds)
procedures_kept [] h = tt
procedures_kept (d ∷ ds) h = by d h.0 (procedures_kept ds h.1)
  where
    by : (d : Declaration) → GoodDeclaration d → AllByRecursion GoodProcedure (filter_map procedure_of ds) → AllByRecursion GoodProcedure (cons_option (procedure_of d) (filter_map procedure_of ds))
    by (Plain x f) g r = r
    by (Procedure p) g r = (g, r)

block_good : (ds : List Declaration) → AreGood ds → (body : List Judging) (u : Around) → IsWell u (block ds body u)
block_good ds g body u =
    let v : Around = record u { later_types = filter_map type_name_of ds } in
    let fs = filter_map plain_of ds in
    let ps = filter_map procedure_of ds in
    let d = in_order fs v in
    let plain = plain_kept ds g in
    let fresh = order_fresh fs (only_fresh fs plain) v in
    let first : Heads = record { around = d.around; before = [] } in
    let hs = headings_in_order ps first in
    let heads = headings_good (suc d.around.scope) ps first (record { scope = refl; before = tt }) in
    let rest = block_headed u d.part.notes.later ps body hs in
    let pointers = (pointers_judged hs.around (d.part.notes.later ++ heads_later hs.before)).broken in
    let no_variables : rest.contents.variables ≡ [] = headed_none u d.part.notes.later ps body hs in
    let its : d.part.contents.variables ++ rest.contents.variables ≡ d.part.contents.variables = ap (λ vs. d.part.contents.variables ++ vs) no_variables ∙ no_more d.part.contents.variables in
    record {
      new = λ e. subst (λ vs. AllByRecursion (λ v. is_known u v.name ≡ false) vs) (sym its) (fresh.new (front_empty d.part.notes.broken pointers (front_empty (d.part.notes.broken ++ pointers) rest.notes.broken e)));
      differ = λ e. subst (λ vs. AreDistinct (λ (v : TypedVariable). v.name) vs) (sym its) (fresh.differ (front_empty d.part.notes.broken pointers (front_empty (d.part.notes.broken ++ pointers) rest.notes.broken e)));
      procedures = λ e. subst (λ qs. AllByRecursion HasNames (qs ++ rest.contents.procedures)) (sym (order_none fs plain v)) (headed_good u d.part.notes.later ps (procedures_kept ds g) body hs (subst (λ n. GoodHeads n hs) (sym heads.scope) heads) (back_empty (d.part.notes.broken ++ pointers) rest.notes.broken e));
    }

-- ---- declarations

constants_none : (b : Bool) (x : Ident) (p : Option (Mark × Value)) → (constant_contents b x p).procedures ≡ []
constants_none true x None = refl
constants_none true x (Some p) = refl
constants_none false x p = refl

variable_none : (x : Ident) (o : Option (Mark × Typing)) → (variable_contents x o).procedures ≡ []
variable_none x None = refl
variable_none x (Some p) = refl

variables_none : (ds : List IdentDef) (t : Option Typing) (u : Around) → (variables_with ds t u).part.contents.procedures ≡ []
variables_none [] t u = refl
variables_none (d ∷ ds) t u =
    let m = marked u true d in
    let a = variable_with u d.ident m.notes (paired_typing m.node t) in
    subst (λ ps. ps ++ (variables_with ds t a.around).part.contents.procedures ≡ []) (sym (variable_none d.ident (paired_typing m.node t))) (variables_none ds t a.around)

constant_good : (d : IdentDef) (x : Phrase) → PlainGood (constant_declared d x)
constant_good d x u = (constant_fresh d x u, constants_none (is_module_level u) d.ident (both (marked u false d) (constant_value u x ▷ no_nil x.start)).node)

type_good : (d : IdentDef) (w : Written) → PlainGood (type_declared d w)
type_good d w u = (type_fresh d w u, refl)

variables_good : (ds : List IdentDef) (w : Written) → PlainGood (variables_declared ds w)
variables_good ds w u =
    let t : Judged Typing = w.typing u (u.path ++ first_name ds ++ codes ":") mark.Hidden false in
    (variables_declared_fresh ds w u, variables_none ds t.node (with_types u (made_in t.node)))

abbrev PD : Decl → Type 0
PD x = GoodDeclaration (declaration x)

abbrev SD : Type 0
SD = (x : Decl) × PD x

all_of : (xs : List SD) → AreGood (map declaration (map (λ (x : SD). x.0) xs))
all_of [] = tt
all_of (x ∷ xs) = (x.1, all_of xs)

layer : (x : Decl-F Decl) → GoodDeclaration (decl_rule (map-Decl Decl Declaration declaration x)) → PD (roll-Decl x)
layer x h = subst GoodDeclaration (sym (fold-roll-Decl Declaration decl_rule x)) h

nothing_well : (u : Around) → IsWell u no_part
nothing_well u = record { new = λ e. tt; differ = λ e. tt; procedures = λ e. tt }

decl_cases : (y : Decl-F SD) → PD (roll-Decl (map-Decl SD Decl (λ x. x.0) y))
decl_cases (Decl-F.Constant d x) = layer (Decl-F.Constant d x) (constant_good d (phrase_of x))
decl_cases (Decl-F.NamedType d n) = layer (Decl-F.NamedType d n) (type_good d (written n))
decl_cases (Decl-F.Variables ds n) = layer (Decl-F.Variables ds n) (variables_good ds (written n))
decl_cases (Decl-F.Procedure h ds body closing) = layer (Decl-F.Procedure h (map (λ (x : SD). x.0) ds) body closing) (λ u. block_good (map declaration (map (λ (x : SD). x.0) ds)) (all_of ds) (map judging body) u)
decl_cases (Decl-F.Forward h) = layer (Decl-F.Forward h) (λ u. nothing_well u)

decl_good : (x : Decl) → PD x
decl_good = ind-Decl PD (λ x y is. subst (λ z. PD (roll-Decl z)) is (decl_cases y))

decls_good : (xs : List Decl) → AreGood (map declaration xs)
decls_good [] = tt
decls_good (x ∷ xs) = (decl_good x, decls_good xs)

-- ---- a module

imports_none : (is : List Import) (u : Around) → (in_order (map (λ i. import_declared i (target_of i)) is) u).part.contents.procedures ≡ []
imports_none [] u = refl
imports_none (i ∷ is) u = imports_none is _

module _ (shown : QName → Option Desc) (tree : Tree) where
  abbrev parts : Part
  parts = module_of shown tree.name tree.imports (map declaration tree.decls) (map judging tree.body) tree.closing

  abbrev imports : Declared
  imports = imports_declared tree.imports (around_module shown tree.name.name (map declaration tree.decls))

  parts_good : parts.notes.broken ≡ [] → AllByRecursion HasNames parts.contents.procedures
  parts_good e =
      let whole = block (map declaration tree.decls) (map judging tree.body) imports.around in
      let a = back_empty _ _ e in
      let k = block_good (map declaration tree.decls) (decls_good tree.decls) (map judging tree.body) imports.around in
      subst (λ ps. AllByRecursion HasNames (ps ++ whole.contents.procedures)) (sym (imports_none tree.imports (around_module shown tree.name.name (map declaration tree.decls)))) (k.procedures (back_empty imports.part.notes.broken whole.notes.broken a))

pub procedures_have_names : ProceduresHaveNames
procedures_have_names shown tree m e =
    let p = parts shown tree in
    let k = unbroken_is p.notes.broken (typed_module shown tree.name tree.imports (map declaration tree.decls) p) m e in
    subst (λ (x : TypedModule). AllByRecursion HasNames x.procedures) k.1 (parts_good shown tree k.0)
