-- Declarations in their order, and the procedures among them: the types that they make have no bound procedures yet.
use Rattle.std.proofs.Common.{◌≡◌, ℕ, Bool, true, false, List, [], ◌∷◌, ◌++◌, map, Option, Some, None, refl, sym, ◌∙◌, subst}
use Rattle.std.specs.List.{AllByRecursion, cons_option, filter_map}
use Rattle.ob_tree.specs.declared.ident.Ident.{Ident}
use Rattle.ob_tree.specs.declared.ident.IdentDef.{IdentDef}
use Rattle.ob_tree.specs.declared.ident.Import.{Import}
use Rattle.ob_tree.specs.declared.ident.Mark.{Mark}
use Rattle.ob_tree.specs.declared.ident.Qualident.{Qualident}
use Rattle.ob_tree.specs.declared.decl.Decl.{Decl, roll-Decl, map-Decl}
use Rattle.ob_tree.specs.declared.decl.Decl.TheOpen.{Decl-F}
use Rattle.ob_tree.specs.declared.decl.Decl.TheFolds.{ind-Decl, fold-roll-Decl}
use Rattle.ob_types.specs.declared.value.Value.{Value}
use Rattle.ob_types.specs.declared.typed.TypedType.{TypedType}
use Rattle.ob_rules.specs.declared.entity.Entity.{Entity}
use Rattle.ob_rules.specs.declared.entity.Known.{Known}
use Rattle.ob_rules.specs.Judged.{Judged, sound, both, ◌▷◌}
use Rattle.ob_rules.specs.Names.{Around, found_in_scope}
use Rattle.ob_rules.specs.Expressions.{phrase_of, constant_value}
use Rattle.ob_rules.specs.Phrases.{Phrase}
use Rattle.ob_rules.specs.Types.{Parameters, Typing, Written, written, is_module_level, marked, with_types}
use Rattle.ob_rules.specs.Statements.{Judging, judging}
use Rattle.ob_rules.specs.Headings.{Head, Heads, add_heading, reversed, mark_or_hidden}
use Rattle.ob_rules.specs.Declarations.{Declared, declare_if, declare, constant_contents, no_nil, constant_declared, equated, typing_as, types_made, type_declared, variable_contents, paired_typing, variables_with, made_in, variables_typed, variables_declared, Written_procedure, Declaration, Plain, Procedure, plain_of, procedure_of, type_name_of, in_order, headings_in_order, around_body, types_of_head, procedure_judged, procedures_judged, block_declared, block, decl_rule, declaration, import_declared, target_of, newly}
use Rattle.law_methods_described.proofs.Nodes.{Has, then_has, second_has}
use Rattle.law_methods_bound.proofs.Typings.{IsRaw, AreRaw, IsGood, AreGoodSections, MakesRaw, MakeRaw}
use Rattle.law_methods_bound.proofs.Written.{written_good, written_parameters_good}
use Rattle.law_methods_bound.proofs.Heads.{GoodHead, AreGoodHeads, GoodHeads, add_good, add_raw}
use Rattle.law_lists.proofs.Lists.{IfThere, all_both, both_empty}

both_raw : (xs ys : List TypedType) → AreRaw xs → AreRaw ys → AreRaw (xs ++ ys)
both_raw xs ys h k = all_both IsRaw xs ys h k

-- ---- a declaration

pub record GoodDeclared (u : Around) (d : Declared) : Type 0 where
  pub types : AreRaw d.part.contents.types
  pub bound : d.part.contents.bound ≡ []
  pub procedures : d.part.contents.procedures ≡ []
  pub own : AreRaw u.own → AreRaw d.around.own
  pub path : d.around.path ≡ u.path

abbrev pub GoodPlain : (Around → Declared) → Type 0
GoodPlain f = (u : Around) → GoodDeclared u (f u)

if_own : (o : Option Known) (u : Around) (x : Ident) (e : Entity) → (declare_if o u x e).own ≡ u.own
if_own (Some k) u x e = refl
if_own None u x e = refl

if_path : (o : Option Known) (u : Around) (x : Ident) (e : Entity) → (declare_if o u x e).path ≡ u.path
if_path (Some k) u x e = refl
if_path None u x e = refl

declared_own : (u : Around) (x : Ident) (e : Entity) → AreRaw u.own → AreRaw (declare u x e).own
declared_own u x e h = subst AreRaw (sym (if_own (found_in_scope u x.name) u x e)) h

declared_path : (u : Around) (x : Ident) (e : Entity) → (declare u x e).path ≡ u.path
declared_path u x e = if_path (found_in_scope u x.name) u x e

-- ---- constants

constant_types : (b : Bool) (x : Ident) (p : Option (Mark × Value)) → AreRaw (constant_contents b x p).types × (((constant_contents b x p).bound ≡ []) × ((constant_contents b x p).procedures ≡ []))
constant_types true x None = (tt, (refl, refl))
constant_types true x (Some p) = (tt, (refl, refl))
constant_types false x p = (tt, (refl, refl))

constant_good : (d : IdentDef) (x : Phrase) → GoodPlain (constant_declared d x)
constant_good d x u =
    let j = both (marked u false d) (constant_value u x ▷ no_nil x.start) in
    let c = constant_types (is_module_level u) d.ident j.node in
    record { types = c.0; bound = c.1.0; procedures = c.1.1; own = λ h. declared_own u d.ident _ h; path = declared_path u d.ident _ }

-- ---- types

as_good : (u : Around) (name : List ℕ) (m : Mark) (w : Written) → IsGood w → (o : Option Qualident) → Has MakesRaw (typing_as u name m w o)
as_good u name m w g (Some q) = then_has MakesRaw MakesRaw (w.typing u name m false) (λ t. sound (equated u name m t)) (g u name m false) (λ t h. ((refl, tt), h))
as_good u name m w g None = g u name m false

made_good : (o : Option (Mark × Typing)) → IfThere (λ p. Unit {0} × MakesRaw p.1) o → AreRaw (types_made o)
made_good None h = tt
made_good (Some p) h = h.1

type_good : (d : IdentDef) (w : Written) → IsGood w → GoodPlain (type_declared d w)
type_good d w g u =
    let m = newly u d in
    let t = typing_as u (u.path ++ d.ident.name) (mark_or_hidden m.node) w w.name in
    let ts = types_made (both m t).node in
    let k : AreRaw ts = made_good (both m t).node (second_has MakesRaw m t (as_good u (u.path ++ d.ident.name) (mark_or_hidden m.node) w g w.name)) in
    record { types = k; bound = refl; procedures = refl; own = λ h. declared_own (with_types u ts) d.ident _ (both_raw ts u.own k h); path = declared_path (with_types u ts) d.ident _ }

-- ---- variables

variable_types : (x : Ident) (o : Option (Mark × Typing)) → AreRaw (variable_contents x o).types × (((variable_contents x o).bound ≡ []) × ((variable_contents x o).procedures ≡ []))
variable_types x None = (tt, (refl, refl))
variable_types x (Some p) = (tt, (refl, refl))

variables_good : (ds : List IdentDef) (t : Option Typing) → GoodPlain (variables_with ds t)
variables_good [] t u = record { types = tt; bound = refl; procedures = refl; own = λ h. h; path = refl }
variables_good (d ∷ ds) t u =
    let c = variable_contents d.ident (paired_typing (marked u true d).node t) in
    let v = declare u d.ident _ in
    let one = variable_types d.ident (paired_typing (marked u true d).node t) in
    let rest = variables_good ds t v in
    record {
      types = both_raw c.types (variables_with ds t v).part.contents.types one.0 rest.types;
      bound = both_empty c.bound (variables_with ds t v).part.contents.bound one.1.0 rest.bound;
      procedures = both_empty c.procedures (variables_with ds t v).part.contents.procedures one.1.1 rest.procedures;
      own = λ h. rest.own (declared_own u d.ident _ h);
      path = rest.path ∙ declared_path u d.ident _;
    }

in_good : (o : Option Typing) → IfThere MakesRaw o → AreRaw (made_in o)
in_good None h = tt
in_good (Some t) h = h

typed_good : (ds : List IdentDef) (u : Around) (t : Judged Typing) → Has MakesRaw t → GoodDeclared u (variables_typed ds u t)
typed_good ds u t h =
    let k = in_good t.node h in
    let v = with_types u (made_in t.node) in
    let rest = variables_good ds t.node v in
    record {
      types = both_raw (made_in t.node) (variables_with ds t.node v).part.contents.types k rest.types;
      bound = rest.bound;
      procedures = rest.procedures;
      own = λ r. rest.own (both_raw (made_in t.node) u.own k r);
      path = rest.path;
    }

variables_declared_good : (ds : List IdentDef) (w : Written) → IsGood w → GoodPlain (variables_declared ds w)
variables_declared_good ds w g u = typed_good ds u _ (g u _ _ false)

-- ---- in order

pub order_good : (fs : List (Around → Declared)) → AllByRecursion GoodPlain fs → GoodPlain (in_order fs)
order_good [] h u = record { types = tt; bound = refl; procedures = refl; own = λ h. h; path = refl }
order_good (f ∷ fs) h u =
    let a = h.0 u in
    let v = (f u).around in
    let b = order_good fs h.1 v in
    record {
      types = both_raw (f u).part.contents.types (in_order fs v).part.contents.types a.types b.types;
      bound = both_empty (f u).part.contents.bound (in_order fs v).part.contents.bound a.bound b.bound;
      procedures = both_empty (f u).part.contents.procedures (in_order fs v).part.contents.procedures a.procedures b.procedures;
      own = λ r. b.own (a.own r);
      path = b.path ∙ a.path;
    }

-- ---- procedures

pub record GoodProcedure (p : Written_procedure) : Type 0 where
  pub heading : AreGoodSections p.heading.parameters.sections
  pub inside : (u : Around) → AreRaw (p.inside u).contents.types

abbrev pub AreGoodProcedures : List Written_procedure → Type 0
AreGoodProcedures ps = AllByRecursion GoodProcedure ps

pub headings_good : (path : List ℕ) (ps : List Written_procedure) → AreGoodProcedures ps → (hs : Heads) → GoodHeads path hs → GoodHeads path (headings_in_order ps hs)
headings_good path [] g hs h = h
headings_good path (p ∷ ps) g hs h = headings_good path ps g.1 (add_heading hs p.heading p.forward) (add_good path hs h p.heading g.0.heading p.forward)

pub headings_raw : (ps : List Written_procedure) → AreGoodProcedures ps → (hs : Heads) → AreRaw hs.around.own → AreRaw (headings_in_order ps hs).around.own
headings_raw [] g hs h = h
headings_raw (p ∷ ps) g hs h = headings_raw ps g.1 (add_heading hs p.heading p.forward) (add_raw hs p.heading g.0.heading p.forward h)

head_types : (o : Option Parameters) → IfThere MakeRaw o → AreRaw (types_of_head o)
head_types None h = tt
head_types (Some p) h = h.0

judged_good : (path : List ℕ) (u : Around) (p : Written_procedure) → GoodProcedure p → (h : Head) → GoodHead path h → (forward : Bool) → AreRaw (procedure_judged u p h forward).contents.types
judged_good path u p g h k true = head_types h.parameters k.parameters
judged_good path u p g h k false = both_raw (types_of_head h.parameters) (p.inside (around_body u h)).contents.types (head_types h.parameters k.parameters) (g.inside (around_body u h))

pub procedures_good : (path : List ℕ) (u : Around) (ps : List Written_procedure) → AreGoodProcedures ps → (hs : List Head) → AreGoodHeads path hs → AreRaw (procedures_judged u ps hs).contents.types
procedures_good path u [] g hs k = tt
procedures_good path u (p ∷ ps) g [] k = tt
procedures_good path u (p ∷ ps) g (h ∷ hs) k = both_raw (procedure_judged u p h p.forward).contents.types (procedures_judged u ps hs).contents.types (judged_good path u p g.0 h k.0 p.forward) (procedures_good path u ps g.1 hs k.1)

pub reversed_good : {A : Type 0} (P : A → Type 0) (xs : List A) → AllByRecursion P xs → AllByRecursion P (reversed xs)
reversed_good P [] h = tt
reversed_good P (x ∷ xs) h = all_both P (reversed xs) (x ∷ []) (reversed_good P xs h.1) (h.0, tt)

-- ---- sequences of declarations

pub block_declared_good : (outer : Around) (ps : List Written_procedure) → AreGoodProcedures ps → (body : List Judging) (u : Around) (d : Declared) → GoodDeclared u d → AreRaw (block_declared outer ps body d).contents.types
block_declared_good outer ps g body u d h =
    let hs = headings_in_order ps (record { around = d.around; before = [] }) in
    let k = headings_good d.around.path ps g (record { around = d.around; before = [] }) (record { path_is = refl; before = tt }) in
    both_raw d.part.contents.types _ h.types
    (both_raw _ [] (procedures_good d.around.path _ ps g (reversed hs.before) (reversed_good (GoodHead d.around.path) hs.before k.before)) tt)

-- ---- declarations

abbrev pub GoodDeclaration : Declaration → Type 0
GoodDeclaration (Plain x f) = GoodPlain f
GoodDeclaration (Procedure p) = GoodProcedure p

abbrev pub AreGood : List Declaration → Type 0
AreGood ds = AllByRecursion GoodDeclaration ds

one_kept : {B : Type 0} (Q : B → Type 0) (o : Option B) (ys : List B) → IfThere Q o → AllByRecursion Q ys → AllByRecursion Q (cons_option o ys)
one_kept Q None ys h k = k
one_kept Q (Some y) ys h k = (h, k)

kept_all : {A B : Type 0} (P : A → Type 0) (Q : B → Type 0) (f : A → Option B) → ((x : A) → P x → IfThere Q (f x)) → (xs : List A) → AllByRecursion P xs → AllByRecursion Q (filter_map f xs)
kept_all P Q f k [] h = tt
kept_all P Q f k (x ∷ xs) h = one_kept Q (f x) (filter_map f xs) (k x h.0) (kept_all P Q f k xs h.1)

plain_good : (d : Declaration) → GoodDeclaration d → IfThere GoodPlain (plain_of d)
plain_good (Plain x f) h = h
plain_good (Procedure p) h = tt

written_procedure_good : (d : Declaration) → GoodDeclaration d → IfThere GoodProcedure (procedure_of d)
written_procedure_good (Plain x f) h = tt
written_procedure_good (Procedure p) h = h

pub plains_good : (ds : List Declaration) → AreGood ds → AllByRecursion GoodPlain (filter_map plain_of ds)
plains_good ds g = kept_all GoodDeclaration GoodPlain plain_of plain_good ds g

pub all_procedures : (ds : List Declaration) → AreGood ds → AreGoodProcedures (filter_map procedure_of ds)
all_procedures ds g = kept_all GoodDeclaration GoodProcedure procedure_of written_procedure_good ds g

pub block_good : (ds : List Declaration) → AreGood ds → (body : List Judging) (u : Around) → AreRaw (block ds body u).contents.types
block_good ds g body u =
    let v : Around = record u { later_types = filter_map type_name_of ds } in
    block_declared_good u (filter_map procedure_of ds) (all_procedures ds g) body v (in_order (filter_map plain_of ds) v) (order_good (filter_map plain_of ds) (plains_good ds g) v)

-- ---- by induction over declarations

abbrev PD : Decl → Type 0
PD x = GoodDeclaration (declaration x)

abbrev SD : Type 0
SD = (x : Decl) × PD x

all_of : (xs : List SD) → AreGood (map declaration (map (λ (x : SD). x.0) xs))
all_of [] = tt
all_of (x ∷ xs) = (x.1, all_of xs)

layer : (x : Decl-F Decl) → GoodDeclaration (decl_rule (map-Decl Decl Declaration declaration x)) → PD (roll-Decl x)
layer x h = subst GoodDeclaration (sym (fold-roll-Decl Declaration decl_rule x)) h

decl_cases : (y : Decl-F SD) → PD (roll-Decl (map-Decl SD Decl (λ x. x.0) y))
decl_cases (Decl-F.Constant d x) = layer (Decl-F.Constant d x) (constant_good d (phrase_of x))
decl_cases (Decl-F.NamedType d n) = layer (Decl-F.NamedType d n) (type_good d (written n) (written_good n))
decl_cases (Decl-F.Variables ds n) = layer (Decl-F.Variables ds n) (variables_declared_good ds (written n) (written_good n))
decl_cases (Decl-F.Procedure h ds body closing) = layer (Decl-F.Procedure h (map (λ (x : SD). x.0) ds) body closing) (record {
  heading = written_parameters_good h.parameters;
  inside = λ u. block_good (map declaration (map (λ (x : SD). x.0) ds)) (all_of ds) (map judging body) u;
})
decl_cases (Decl-F.Forward h) = layer (Decl-F.Forward h) (record { heading = written_parameters_good h.parameters; inside = λ u. tt })

decl_good : (x : Decl) → PD x
decl_good = ind-Decl PD (λ x y is. subst (λ z. PD (roll-Decl z)) is (decl_cases y))

pub decls_good : (xs : List Decl) → AreGood (map declaration xs)
decls_good [] = tt
decls_good (x ∷ xs) = (decl_good x, decls_good xs)

-- ---- imports

import_good : (i : Import) (t : Ident) → GoodPlain (import_declared i t)
import_good i t u = record { types = tt; bound = refl; procedures = refl; own = λ h. declared_own u i.ident _ h; path = declared_path u i.ident _ }

pub imports_good : (is : List Import) → AllByRecursion GoodPlain (map (λ i. import_declared i (target_of i)) is)
imports_good [] = tt
imports_good (i ∷ is) = (import_good i (target_of i), imports_good is)
