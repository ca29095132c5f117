-- Declarations in their order, procedures, and modules: the records that they add have fields of different names.
use Rattle.std.proofs.Common.{ℕ, Bool, true, false, List, [], ◌∷◌, ◌++◌, map, Option, Some, None, sym, subst}
use Rattle.std.specs.Prelude.{bytes_eq, cond}
use Rattle.std.specs.List.{AllByRecursion, cons_option, find, filter_map}
use Rattle.ob_tree.specs.declared.names.QName.{QName}
use Rattle.ob_tree.specs.declared.ident.Ident.{Ident}
use Rattle.ob_tree.specs.declared.ident.IdentDef.{IdentDef}
use Rattle.ob_tree.specs.declared.ident.Import.{Import}
use Rattle.ob_tree.specs.declared.ident.Mark.{Mark}
use Rattle.ob_tree.specs.declared.ident.Qualident.{Qualident}
use Rattle.ob_tree.specs.declared.decl.Decl.{Decl, roll-Decl, map-Decl}
use Rattle.ob_tree.specs.declared.decl.Decl.TheOpen.{Decl-F}
use Rattle.ob_tree.specs.declared.decl.Decl.TheFolds.{ind-Decl, fold-roll-Decl}
use Rattle.ob_tree.specs.declared.decl.Module.{Module as Tree}
use Rattle.ob_types.specs.declared.value.Value.{Value}
use Rattle.ob_types.specs.declared.desc.Desc.{Desc}
use Rattle.ob_types.specs.declared.typed.TypedType.{TypedType}
use Rattle.ob_types.specs.declared.typed.TypedModule.{TypedModule}
use Rattle.ob_rules.specs.declared.entity.Entity.{Entity}
use Rattle.ob_rules.specs.declared.entity.Known.{Known}
use Rattle.ob_rules.specs.declared.broken.Broken.{Broken}
use Rattle.ob_rules.specs.declared.notes.Later.{Later}
use Rattle.ob_rules.specs.Judged.{Judged, sound, both, ◌▷◌}
use Rattle.ob_rules.specs.Shapes.{Map}
use Rattle.ob_rules.specs.Names.{Around, map_of, found_in_scope}
use Rattle.ob_rules.specs.Expressions.{phrase_of, constant_value}
use Rattle.ob_rules.specs.Phrases.{Phrase}
use Rattle.ob_rules.specs.Types.{Parameters, Typing, Written, written, is_module_level, marked, with_types}
use Rattle.ob_rules.specs.Statements.{Judging, judging}
use Rattle.ob_rules.specs.Headings.{Head, Heads, Binding, add_heading, reversed, mark_or_hidden}
use Rattle.ob_rules.specs.Declarations.{Contents, no_contents, together, Part, Declared, declare_if, declare, constant_contents, no_nil, constant_declared, equated, typing_as, types_made, type_declared, variable_contents, paired_typing, variables_with, made_in, variables_typed, variables_declared, Written_procedure, Declaration, Plain, Procedure, plain_of, procedure_of, type_name_of, in_order, headings_in_order, around_body, typed_procedure, types_of_head, procedure_contents, procedure_judged, procedures_judged, block_inside, with_bound, binding_at, block_bound, heads_later, block_headed, block_declared, block, decl_rule, declaration, import_declared, target_of, imports_declared, around_module, module_of, described, all_described, typed_module, if_unbroken, newly}
use Rattle.law_names_distinct.specs.Fields.{FieldsDiffer, AreApart, FieldsDifferAll}
use Rattle.law_methods_described.proofs.Nodes.{Has, then_has, second_has}
use Rattle.law_names_distinct.proofs.FieldTypings.{IsGood, AreGoodSections, MakesApart, MakeApart}
use Rattle.law_names_distinct.proofs.FieldWritten.{written_good, written_parameters_good}
use Rattle.law_names_distinct.proofs.Blocks.{unbroken_is}
use Rattle.law_names_distinct.proofs.FieldHeads.{GoodAround, typed_around, GoodHead, AreGoodHeads, GoodHeads, add_good, reversed_good, bindings_good}
use Rattle.law_lists.proofs.Lists.{IfThere, all_both}

-- ---- what a part adds

record GoodContents (c : Contents) : Type 0 where
  pub types : AreApart c.types
  pub bound : AreApart c.bound

good_none : GoodContents no_contents
good_none = record { types = tt; bound = tt }

good_both : (a b : Contents) → GoodContents a → GoodContents b → GoodContents (together a b)
good_both a b g h = record {
  types = all_both (λ t. FieldsDiffer t.desc) a.types b.types g.types h.types;
  bound = all_both (λ t. FieldsDiffer t.desc) a.bound b.bound g.bound h.bound;
}

record GoodDeclared (d : Declared) : Type 0 where
  pub contents : GoodContents d.part.contents
  pub around : GoodAround d.around

abbrev GoodPlain : (Around → Declared) → Type 0
GoodPlain f = (u : Around) → GoodAround u → GoodDeclared (f u)

if_declared : (o : Option Known) (u : Around) → GoodAround u → (x : Ident) (e : Entity) → GoodAround (declare_if o u x e)
if_declared (Some k) u g x e = g
if_declared None u g x e = g

name_declared : (u : Around) → GoodAround u → (x : Ident) (e : Entity) → GoodAround (declare u x e)
name_declared u g x e = if_declared (found_in_scope u x.name) u g x e

-- ---- constants

constants_good : (b : Bool) (x : Ident) (p : Option (Mark × Value)) → GoodContents (constant_contents b x p)
constants_good true x None = good_none
constants_good true x (Some p) = record { types = tt; bound = tt }
constants_good false x p = good_none

constant_good : (d : IdentDef) (x : Phrase) → GoodPlain (constant_declared d x)
constant_good d x u g =
    let j = both (marked u false d) (constant_value u x ▷ no_nil x.start) in
    record { contents = constants_good (is_module_level u) d.ident j.node; around = name_declared u g d.ident _ }

-- ---- types

as_good : (u : Around) (name : List ℕ) (m : Mark) (w : Written) → IsGood w → (o : Option Qualident) → Has MakesApart (typing_as u name m w o)
as_good u name m w g (Some q) = then_has MakesApart MakesApart (w.typing u name m false) (λ t. sound (equated u name m t)) (g u name m false) (λ t h. (tt, h))
as_good u name m w g None = g u name m false

made_good : (o : Option (Mark × Typing)) → IfThere (λ p. Unit {0} × MakesApart p.1) o → AreApart (types_made o)
made_good None h = tt
made_good (Some p) h = h.1

type_good : (d : IdentDef) (w : Written) → IsGood w → GoodPlain (type_declared d w)
type_good d w g u h =
    let m = newly u d in
    let t = typing_as u (u.path ++ d.ident.name) (mark_or_hidden m.node) w w.name in
    let k : AreApart (types_made (both m t).node) = made_good (both m t).node (second_has MakesApart m t (as_good u (u.path ++ d.ident.name) (mark_or_hidden m.node) w g w.name)) in
    record { contents = record { types = k; bound = tt }; around = name_declared (with_types u (types_made (both m t).node)) (typed_around u (types_made (both m t).node) k h) d.ident _ }

-- ---- variables

variable_good : (x : Ident) (o : Option (Mark × Typing)) → GoodContents (variable_contents x o)
variable_good x None = good_none
variable_good x (Some p) = record { types = tt; bound = tt }

variables_good : (ds : List IdentDef) (t : Option Typing) → GoodPlain (variables_with ds t)
variables_good [] t u g = record { contents = good_none; around = g }
variables_good (d ∷ ds) t u g =
    let v = declare u d.ident _ in
    let rest = variables_good ds t v (name_declared u g d.ident _) in
    record { contents = good_both (variable_contents d.ident (paired_typing (marked u true d).node t)) (variables_with ds t v).part.contents (variable_good d.ident (paired_typing (marked u true d).node t)) rest.contents; around = rest.around }

in_good : (o : Option Typing) → IfThere MakesApart o → AreApart (made_in o)
in_good None h = tt
in_good (Some t) h = h

typed_good : (ds : List IdentDef) (u : Around) → GoodAround u → (t : Judged Typing) → Has MakesApart t → GoodDeclared (variables_typed ds u t)
typed_good ds u g t h =
    let k = in_good t.node h in
    let rest = variables_good ds t.node (with_types u (made_in t.node)) (typed_around u (made_in t.node) k g) in
    record { contents = good_both (record no_contents { types = made_in t.node }) (variables_with ds t.node (with_types u (made_in t.node))).part.contents (record { types = k; bound = tt }) rest.contents; around = rest.around }

-- ---- in order

order_good : (fs : List (Around → Declared)) → AllByRecursion GoodPlain fs → GoodPlain (in_order fs)
order_good [] h u g = record { contents = good_none; around = g }
order_good (f ∷ fs) h u g =
    let a = h.0 u g in
    let b = order_good fs h.1 (f u).around a.around in
    record { contents = good_both (f u).part.contents (in_order fs (f u).around).part.contents a.contents b.contents; around = b.around }

-- ---- procedures

record GoodProcedure (p : Written_procedure) : Type 0 where
  pub heading : AreGoodSections p.heading.parameters.sections
  pub inside : (u : Around) → GoodAround u → GoodContents (p.inside u).contents

abbrev AreGoodProcedures : List Written_procedure → Type 0
AreGoodProcedures ps = AllByRecursion GoodProcedure ps

headings_good : (ps : List Written_procedure) → AreGoodProcedures ps → (hs : Heads) → GoodHeads hs → GoodHeads (headings_in_order ps hs)
headings_good [] g hs h = h
headings_good (p ∷ ps) g hs h = headings_good ps g.1 (add_heading hs p.heading p.forward) (add_good hs h p.heading g.0.heading p.forward)

head_types : (o : Option Parameters) → IfThere MakeApart o → AreApart (types_of_head o)
head_types None h = tt
head_types (Some p) h = h

procedure_good : (map : Map) (h : Head) → GoodHead h → (c : Contents) → GoodContents c → GoodContents (procedure_contents map h c)
procedure_good map h g c k = record {
  types = all_both (λ t. FieldsDiffer t.desc) (types_of_head h.parameters) c.types (head_types h.parameters g) k.types;
  bound = tt;
}

judged_good : (u : Around) → GoodAround u → (p : Written_procedure) → GoodProcedure p → (h : Head) → GoodHead h → (forward : Bool) → GoodContents (procedure_judged u p h forward).contents
judged_good u a p g h k true = record { types = head_types h.parameters k; bound = tt }
judged_good u a p g h k false = procedure_good (map_of u) h k (p.inside (around_body u h)).contents (g.inside (around_body u h) a)

procedures_good : (u : Around) → GoodAround u → (ps : List Written_procedure) → AreGoodProcedures ps → (hs : List Head) → AreGoodHeads hs → GoodContents (procedures_judged u ps hs).contents
procedures_good u a [] g hs k = good_none
procedures_good u a (p ∷ ps) g [] k = good_none
procedures_good u a (p ∷ ps) g (h ∷ hs) k = good_both (procedure_judged u p h p.forward).contents (procedures_judged u ps hs).contents (judged_good u a p g.0 h k.0 p.forward) (procedures_good u a ps g.1 hs k.1)

-- ---- sequences of declarations

inside_good : (u : Around) → GoodAround u → (ps : List Written_procedure) → AreGoodProcedures ps → (hs : List Head) → AreGoodHeads hs → (body : List Judging) → GoodContents (block_inside u ps hs body).contents
inside_good u a ps g hs k body = good_both (procedures_judged u ps hs).contents _ (procedures_good u a ps g hs k) (record { types = tt; bound = tt })

bound_good : (outer u : Around) (later : List Later) (ps : List Written_procedure) → AreGoodProcedures ps → (hs : List Head) → AreGoodHeads hs → (body : List Judging) (b : Binding) → AreApart b.own → GoodContents (block_bound outer u later ps hs body b).contents
bound_good outer u later ps g hs k body b h =
    good_both no_contents _ good_none
    (good_both (record no_contents { bound = b.own }) (block_inside (with_bound u b) ps hs body).contents (record { types = tt; bound = h }) (inside_good (with_bound u b) h ps g hs k body))

binding_good : (level : Bool) (u : Around) → GoodAround u → (hs : List Head) → AreApart (binding_at level u hs).own
binding_good true u a hs = bindings_good u hs a
binding_good false u a hs = a

headed_good : (outer : Around) (later : List Later) (ps : List Written_procedure) → AreGoodProcedures ps → (body : List Judging) (hs : Heads) → GoodHeads hs → GoodContents (block_headed outer later ps body hs).contents
headed_good outer later ps g body hs h =
    bound_good outer hs.around (later ++ heads_later hs.before) ps g (reversed hs.before) (reversed_good GoodHead hs.before h.before) body (binding_at (is_module_level outer) hs.around (reversed hs.before)) (binding_good (is_module_level outer) hs.around h.around (reversed hs.before))

block_declared_good : (outer : Around) (ps : List Written_procedure) → AreGoodProcedures ps → (body : List Judging) (d : Declared) → GoodDeclared d → GoodContents (block_declared outer ps body d).contents
block_declared_good outer ps g body d h =
    good_both d.part.contents _ h.contents
    (headed_good outer d.part.notes.later ps g body (headings_in_order ps (record { around = d.around; before = [] })) (headings_good ps g (record { around = d.around; before = [] }) (record { around = h.around; before = tt })))

-- ---- declarations

abbrev GoodDeclaration : Declaration → Type 0
GoodDeclaration (Plain x f) = GoodPlain f
GoodDeclaration (Procedure p) = GoodProcedure p

abbrev AreGood : List Declaration → Type 0
AreGood ds = AllByRecursion GoodDeclaration ds

one_kept : {B : Type 0} (Q : B → Type 0) (o : Option B) (ys : List B) → IfThere Q o → AllByRecursion Q ys → AllByRecursion Q (cons_option o ys)
one_kept Q None ys h k = k
one_kept Q (Some y) ys h k = (h, k)

kept_all : {A B : Type 0} (P : A → Type 0) (Q : B → Type 0) (f : A → Option B) → ((x : A) → P x → IfThere Q (f x)) → (xs : List A) → AllByRecursion P xs → AllByRecursion Q (filter_map f xs)
kept_all P Q f k [] h = tt
kept_all P Q f k (x ∷ xs) h = one_kept Q (f x) (filter_map f xs) (k x h.0) (kept_all P Q f k xs h.1)

plain_good : (d : Declaration) → GoodDeclaration d → IfThere GoodPlain (plain_of d)
plain_good (Plain x f) h = h
plain_good (Procedure p) h = tt

written_procedure_good : (d : Declaration) → GoodDeclaration d → IfThere GoodProcedure (procedure_of d)
written_procedure_good (Plain x f) h = tt
written_procedure_good (Procedure p) h = h

block_good : (ds : List Declaration) → AreGood ds → (body : List Judging) (u : Around) → GoodAround u → GoodContents (block ds body u).contents
block_good ds g body u a =
    let v : Around = record u { later_types = filter_map type_name_of ds } in
    block_declared_good u (filter_map procedure_of ds) (kept_all GoodDeclaration GoodProcedure procedure_of written_procedure_good ds g) body
    (in_order (filter_map plain_of ds) v)
    (order_good (filter_map plain_of ds) (kept_all GoodDeclaration GoodPlain plain_of plain_good ds g) v a)

-- ---- by induction over declarations

abbrev PD : Decl → Type 0
PD x = GoodDeclaration (declaration x)

abbrev SD : Type 0
SD = (x : Decl) × PD x

all_of : (xs : List SD) → AreGood (map declaration (map (λ (x : SD). x.0) xs))
all_of [] = tt
all_of (x ∷ xs) = (x.1, all_of xs)

layer : (x : Decl-F Decl) → GoodDeclaration (decl_rule (map-Decl Decl Declaration declaration x)) → PD (roll-Decl x)
layer x h = subst GoodDeclaration (sym (fold-roll-Decl Declaration decl_rule x)) h

variables_declared_good : (ds : List IdentDef) (w : Written) → IsGood w → GoodPlain (variables_declared ds w)
variables_declared_good ds w g u a = typed_good ds u a _ (g u _ _ false)

decl_cases : (y : Decl-F SD) → PD (roll-Decl (map-Decl SD Decl (λ x. x.0) y))
decl_cases (Decl-F.Constant d x) = layer (Decl-F.Constant d x) (constant_good d (phrase_of x))
decl_cases (Decl-F.NamedType d n) = layer (Decl-F.NamedType d n) (type_good d (written n) (written_good n))
decl_cases (Decl-F.Variables ds n) = layer (Decl-F.Variables ds n) (variables_declared_good ds (written n) (written_good n))
decl_cases (Decl-F.Procedure h ds body closing) = layer (Decl-F.Procedure h (map (λ (x : SD). x.0) ds) body closing) (record {
  heading = written_parameters_good h.parameters;
  inside = λ u a. block_good (map declaration (map (λ (x : SD). x.0) ds)) (all_of ds) (map judging body) u a;
})
decl_cases (Decl-F.Forward h) = layer (Decl-F.Forward h) (record { heading = written_parameters_good h.parameters; inside = λ u a. good_none })

decl_good : (x : Decl) → PD x
decl_good = ind-Decl PD (λ x y is. subst (λ z. PD (roll-Decl z)) is (decl_cases y))

decls_good : (xs : List Decl) → AreGood (map declaration xs)
decls_good [] = tt
decls_good (x ∷ xs) = (decl_good x, decls_good xs)

-- ---- a module

import_good : (i : Import) (t : Ident) → GoodPlain (import_declared i t)
import_good i t u g = record { contents = good_none; around = name_declared u g i.ident _ }

imports_good : (is : List Import) → AllByRecursion GoodPlain (map (λ i. import_declared i (target_of i)) is)
imports_good [] = tt
imports_good (i ∷ is) = (import_good i (target_of i), imports_good is)

module_good : (shown : QName → Option Desc) (name : Ident) (imports : List Import) (ds : List Declaration) → AreGood ds → (body : List Judging) (closing : Ident) → GoodContents (module_of shown name imports ds body closing).contents
module_good shown name imports ds g body closing =
    let u = around_module shown name.name ds in
    let d = imports_declared imports u in
    let k = order_good (map (λ i. import_declared i (target_of i)) imports) (imports_good imports) u tt in
    good_both no_contents _ good_none (good_both d.part.contents (block ds body d.around).contents k.contents (block_good ds g body d.around k.around))

-- ---- the checked module

found_good : (o : Option TypedType) → IfThere (λ t. FieldsDiffer t.desc) o → (t : TypedType) → FieldsDiffer t.desc → FieldsDiffer (described o t).desc
found_good None h t k = k
found_good (Some b) h t k = h

first_if : (b : Bool) (x : TypedType) (o : Option TypedType) → FieldsDiffer x.desc → IfThere (λ t. FieldsDiffer t.desc) o → IfThere (λ t. FieldsDiffer t.desc) (cond b (Some x) o)
first_if true x o h k = h
first_if false x o h k = k

find_good : (test : TypedType → Bool) (ts : List TypedType) → AreApart ts → IfThere (λ t. FieldsDiffer t.desc) (find test ts)
find_good test [] h = tt
find_good test (t ∷ ts) h = first_if (test t) t (find test ts) h.0 (find_good test ts h.1)

all_described_good : (bound : List TypedType) → AreApart bound → (ts : List TypedType) → AreApart ts → AreApart (all_described bound ts)
all_described_good bound g [] h = tt
all_described_good bound g (t ∷ ts) h = (found_good (find (λ b. bytes_eq b.name t.name) bound) (find_good (λ b. bytes_eq b.name t.name) bound g) t h.0, all_described_good bound g ts h.1)

module _ (shown : QName → Option Desc) (tree : Tree) where
  abbrev parts : Part
  parts = module_of shown tree.name tree.imports (map declaration tree.decls) (map judging tree.body) tree.closing

  parts_good : GoodContents parts.contents
  parts_good = module_good shown tree.name tree.imports (map declaration tree.decls) (decls_good tree.decls) (map judging tree.body) tree.closing

  abbrev whole : TypedModule
  whole = typed_module shown tree.name tree.imports (map declaration tree.decls) parts

pub fields_differ : FieldsDifferAll
fields_differ shown tree m e =
    let k = parts_good shown tree in
    subst (λ (x : TypedModule). AreApart x.types) (unbroken_is (parts shown tree).notes.broken (whole shown tree) m e).1 (all_described_good (parts shown tree).contents.bound k.bound (parts shown tree).contents.types k.types)
