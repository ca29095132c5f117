-- The variables of a sequence of declarations, and of a module.
use Rattle.std.proofs.Common.{◌≡◌, ℕ, Bool, true, false, List, [], ◌∷◌, ◌++◌, map, Option, Some, None, refl, sym, subst, ◌∙◌}
use Rattle.std.specs.Prelude.{codes, ◌||◌}
use Rattle.std.specs.List.{AllByRecursion, cons_option, filter_map}
use Rattle.ob_tree.specs.declared.names.QName.{QName}
use Rattle.ob_tree.specs.declared.ident.Ident.{Ident}
use Rattle.ob_tree.specs.declared.ident.IdentDef.{IdentDef}
use Rattle.ob_tree.specs.declared.ident.Import.{Import}
use Rattle.ob_tree.specs.declared.ident.Mark.{Mark}
use Rattle.ob_tree.specs.declared.ident.Mark.TheVariants as mark
use Rattle.ob_tree.specs.declared.decl.Decl.{Decl, roll-Decl, map-Decl}
use Rattle.ob_tree.specs.declared.decl.Decl.TheOpen.{Decl-F}
use Rattle.ob_tree.specs.declared.decl.Decl.TheFolds.{ind-Decl, fold-roll-Decl}
use Rattle.ob_tree.specs.declared.decl.Module.{Module as Tree}
use Rattle.ob_types.specs.declared.value.Value.{Value}
use Rattle.ob_types.specs.declared.desc.Desc.{Desc}
use Rattle.ob_types.specs.declared.typed.TypedVariable.{TypedVariable}
use Rattle.ob_types.specs.declared.typed.TypedModule.{TypedModule}
use Rattle.ob_rules.specs.declared.broken.Broken.{Broken}
use Rattle.ob_rules.specs.declared.notes.Later.{Later}
use Rattle.ob_rules.specs.declared.broken.Rule.TheVariants as rule
use Rattle.ob_rules.specs.Judged.{Judged, Notes, notes_if, both, joined, ◌▷◌}
use Rattle.ob_rules.specs.Shapes.{Map}
use Rattle.ob_rules.specs.Names.{Around, map_of, found_in_scope, is_out}
use Rattle.ob_rules.specs.Expressions.{phrase_of, constant_value}
use Rattle.ob_rules.specs.Phrases.{Phrase}
use Rattle.ob_rules.specs.Types.{Typing, Written, written, is_module_level, marked, with_types}
use Rattle.ob_rules.specs.Statements.{Judging, judging}
use Rattle.ob_rules.specs.Headings.{Head, Heads, Binding, reversed}
use Rattle.ob_rules.specs.Declarations.{Contents, no_contents, first_name, Part, Declared, declare, twice, constant_contents, no_nil, constant_declared, types_made, type_declared, variable_contents, variable_entity, paired_typing, variable_with, variables_with, made_in, variables_typed, variables_declared, Written_procedure, Declaration, Plain, Procedure, plain_of, procedure_of, type_name_of, in_order, headings_in_order, around_body, typed_procedure, procedure_judged, procedures_judged, block_inside, with_bound, binding_at, block_bound, heads_later, block_headed, block_declared, block, pointers_judged, decl_rule, declaration, import_declared, target_of, imports_declared, around_module, module_of, typed_module, if_unbroken, is_system, name_judged, closing_judged, with_part, behind_part, then_declared}
use Rattle.law_names_distinct.specs.Distinct.{AreDistinct, VariablesDiffer, ModulesAreNotOut}
use Rattle.law_names_distinct.proofs.Fresh.{quiet_if, is_known, stays_known, same_scope, is_declared, once, IsFresh, then_fresh, plain_fresh}
use Rattle.law_lists.proofs.Lists.{back_empty, first_false, front_empty}

abbrev pub FreshPlain : (Around → Declared) → Type 0
FreshPlain f = (u : Around) → IsFresh u (f u)

-- ---- constants and types

no_variables : (b : Bool) (x : Ident) (p : Option (Mark × Value)) → (constant_contents b x p).variables ≡ []
no_variables true x None = refl
no_variables true x (Some p) = refl
no_variables false x p = refl

pub constant_fresh : (d : IdentDef) (x : Phrase) → FreshPlain (constant_declared d x)
constant_fresh d x u =
    let j = both (marked u false d) (constant_value u x ▷ no_nil x.start) in
    plain_fresh u _ None u d.ident _ refl (λ y. refl) (no_variables (is_module_level u) d.ident j.node)

pub type_fresh : (d : IdentDef) (w : Written) → FreshPlain (type_declared d w)
type_fresh d w u = plain_fresh u _ None (with_types u _) d.ident _ refl (λ y. refl) refl

import_fresh : (i : Import) (t : Ident) → FreshPlain (import_declared i t)
import_fresh i t u = plain_fresh u _ None u i.ident _ refl (λ y. refl) refl

-- ---- variables

module _ (u : Around) (x : Ident) (n : Notes) where
  abbrev one : Option (Mark × Typing) → Declared
  one p = variable_with u x n p

  variable_fresh : (p : Option (Mark × Typing)) → IsFresh u (one p)
  variable_fresh None = plain_fresh u _ None u x _ refl (λ y. refl) refl
  variable_fresh (Some p) =
      let e = variable_entity u x (Some p) in
      record {
        scope = same_scope (found_in_scope u x.name) u x e;
        keeps = λ y h. stays_known (found_in_scope u x.name) u x e y h;
        there = (is_declared (found_in_scope u x.name) u x e refl, tt);
        new = λ b. (once u x (back_empty n.broken (twice u x).broken b), tt);
        differ = λ b. (tt, tt);
      }

nothing_fresh : (u : Around) (d : Declared) → d.around ≡ u → d.part.contents.variables ≡ [] → IsFresh u d
nothing_fresh u d e n = record {
  scope = subst (λ (v : Around). v.scope ≡ u.scope) (sym e) refl;
  keeps = λ x h. subst (λ v. is_known v x ≡ true) (sym e) h;
  there = subst (λ vs. AllByRecursion (λ w. is_known d.around w.name ≡ true) vs) (sym n) tt;
  new = λ b. subst (λ vs. AllByRecursion (λ w. is_known u w.name ≡ false) vs) (sym n) tt;
  differ = λ b. subst (λ vs. AreDistinct (λ w. w.name) vs) (sym n) tt;
}

variables_fresh : (ds : List IdentDef) (t : Option Typing) → FreshPlain (variables_with ds t)
variables_fresh [] t u = nothing_fresh u _ refl refl
variables_fresh (d ∷ ds) t u =
    let m = marked u true d in
    then_fresh u (variable_with u d.ident m.notes (paired_typing m.node t)) (λ v. variables_with ds t v) (variable_fresh u d.ident m.notes (paired_typing m.node t)) (variables_fresh ds t _)

-- the part before has no variables, and what is known is the same
behind_fresh : (u v : Around) (a : Part) (d : Declared) → v.scope ≡ u.scope → ((y : List ℕ) → is_known v y ≡ is_known u y) → a.contents.variables ≡ [] → IsFresh v d → IsFresh u (behind_part a d)
behind_fresh u v a d s k n g =
    let front : List Broken = a.notes.broken in
    let back : List Broken = d.part.notes.broken in
    let ws : List TypedVariable = d.part.contents.variables in
    record {
      scope = g.scope ∙ s;
      keeps = λ x h. g.keeps x (k x ∙ h);
      there = subst (λ vs. AllByRecursion (λ w. is_known d.around w.name ≡ true) (vs ++ ws)) (sym n) g.there;
      new = λ b. subst (λ vs. AllByRecursion (λ w. is_known u w.name ≡ false) (vs ++ ws)) (sym n) (same_unknown ws (g.new (back_empty front back b)));
      differ = λ b. subst (λ vs. AreDistinct (λ (w : TypedVariable). w.name) (vs ++ ws)) (sym n) (g.differ (back_empty front back b));
    }
  where
    same_unknown : (vs : List TypedVariable) → AllByRecursion (λ w. is_known v w.name ≡ false) vs → AllByRecursion (λ w. is_known u w.name ≡ false) vs
    same_unknown [] h = tt
    same_unknown (w ∷ vs) h = (sym (k w.name) ∙ h.0, same_unknown vs h.1)

pub variables_declared_fresh : (ds : List IdentDef) (w : Written) → FreshPlain (variables_declared ds w)
variables_declared_fresh ds w u =
    let t : Judged Typing = w.typing u (u.path ++ first_name ds ++ codes ":") mark.Hidden false in
    let a : Part = record { notes = t.notes; contents = record no_contents { types = made_in t.node } } in
    behind_fresh u (with_types u (made_in t.node)) a (variables_with ds t.node (with_types u (made_in t.node))) refl (λ y. refl) refl (variables_fresh ds t.node (with_types u (made_in t.node)))

-- ---- in their order

pub order_fresh : (fs : List (Around → Declared)) → AllByRecursion FreshPlain fs → FreshPlain (in_order fs)
order_fresh [] g u = nothing_fresh u _ refl refl
order_fresh (f ∷ fs) g u = then_fresh u (f u) (λ v. in_order fs v) (g.0 u) (order_fresh fs g.1 (f u).around)

abbrev FreshDeclaration : Declaration → Type 0
FreshDeclaration (Plain x f) = FreshPlain f
FreshDeclaration (Procedure p) = Unit {0}

abbrev PD : Decl → Type 0
PD x = FreshDeclaration (declaration x)

abbrev SD : Type 0
SD = (x : Decl) × PD x

layer : (x : Decl-F Decl) → FreshDeclaration (decl_rule (map-Decl Decl Declaration declaration x)) → PD (roll-Decl x)
layer x h = subst FreshDeclaration (sym (fold-roll-Decl Declaration decl_rule x)) h

decl_cases : (y : Decl-F SD) → PD (roll-Decl (map-Decl SD Decl (λ x. x.0) y))
decl_cases (Decl-F.Constant d x) = layer (Decl-F.Constant d x) (constant_fresh d (phrase_of x))
decl_cases (Decl-F.NamedType d n) = layer (Decl-F.NamedType d n) (type_fresh d (written n))
decl_cases (Decl-F.Variables ds n) = layer (Decl-F.Variables ds n) (variables_declared_fresh ds (written n))
decl_cases (Decl-F.Procedure h ds body closing) = layer (Decl-F.Procedure h (map (λ (x : SD). x.0) ds) body closing) tt
decl_cases (Decl-F.Forward h) = layer (Decl-F.Forward h) tt

decl_fresh : (x : Decl) → PD x
decl_fresh = ind-Decl PD (λ x y is. subst (λ z. PD (roll-Decl z)) is (decl_cases y))

plain_kept : (d : Declaration) → FreshDeclaration d → (fs : List (Around → Declared)) → AllByRecursion FreshPlain fs → AllByRecursion FreshPlain (cons_option (plain_of d) fs)
plain_kept (Plain x f) h fs k = (h, k)
plain_kept (Procedure p) h fs k = k

decls_fresh : (xs : List Decl) → AllByRecursion FreshPlain (filter_map plain_of (map declaration xs))
decls_fresh [] = tt
decls_fresh (x ∷ xs) = plain_kept (declaration x) (decl_fresh x) (filter_map plain_of (map declaration xs)) (decls_fresh xs)

imports_fresh : (is : List Import) → AllByRecursion FreshPlain (map (λ i. import_declared i (target_of i)) is)
imports_fresh [] = tt
imports_fresh (i ∷ is) = (import_fresh i (target_of i), imports_fresh is)

-- ---- no more variables come behind

pub no_more : (xs : List TypedVariable) → xs ++ [] ≡ xs
no_more [] = refl
no_more (x ∷ xs) = subst (λ ys. x ∷ (xs ++ []) ≡ x ∷ ys) (no_more xs) refl

judged_none : (u : Around) (p : Written_procedure) (h : Head) (forward : Bool) → (procedure_judged u p h forward).contents.variables ≡ []
judged_none u p h true = refl
judged_none u p h false = refl

procedures_none : (u : Around) (ps : List Written_procedure) (hs : List Head) → (procedures_judged u ps hs).contents.variables ≡ []
procedures_none u [] hs = refl
procedures_none u (p ∷ ps) [] = refl
procedures_none u (p ∷ ps) (h ∷ hs) = subst (λ vs. vs ++ (procedures_judged u ps hs).contents.variables ≡ []) (sym (judged_none u p h p.forward)) (procedures_none u ps hs)

pub headed_none : (outer : Around) (later : List Later) (ps : List Written_procedure) (body : List Judging) (hs : Heads) → (block_headed outer later ps body hs).contents.variables ≡ []
headed_none outer later ps body hs =
    let b = binding_at (is_module_level outer) hs.around (reversed hs.before) in
    subst (λ vs. vs ++ [] ≡ []) (sym (procedures_none (with_bound hs.around b) ps (reversed hs.before))) refl

module _ (shown : QName → Option Desc) (tree : Tree) where
  abbrev parts : Part
  parts = module_of shown tree.name tree.imports (map declaration tree.decls) (map judging tree.body) tree.closing

  abbrev imports : Declared
  imports = imports_declared tree.imports (around_module shown tree.name.name (map declaration tree.decls))

  abbrev start : Around
  start = record imports.around { later_types = filter_map type_name_of (map declaration tree.decls) }

  abbrev plain : Declared
  plain = in_order (filter_map plain_of (map declaration tree.decls)) start

  imports_none : (is : List Import) (u : Around) → (in_order (map (λ i. import_declared i (target_of i)) is) u).part.contents.variables ≡ []
  imports_none [] u = refl
  imports_none (i ∷ is) u = imports_none is _

  abbrev rest : Part
  rest = block_headed imports.around plain.part.notes.later (filter_map procedure_of (map declaration tree.decls)) (map judging tree.body) (headings_in_order (filter_map procedure_of (map declaration tree.decls)) (record { around = plain.around; before = [] }))

  abbrev pointers : Notes
  pointers =
      let hs = headings_in_order (filter_map procedure_of (map declaration tree.decls)) (record { around = plain.around; before = [] }) in
      pointers_judged hs.around (plain.part.notes.later ++ heads_later hs.before)

  its_variables : parts.contents.variables ≡ plain.part.contents.variables
  its_variables =
      let r = headed_none imports.around plain.part.notes.later (filter_map procedure_of (map declaration tree.decls)) (map judging tree.body) (headings_in_order (filter_map procedure_of (map declaration tree.decls)) (record { around = plain.around; before = [] })) in
      subst (λ vs. imports.part.contents.variables ++ (plain.part.contents.variables ++ vs) ≡ plain.part.contents.variables) (sym r)
      (subst (λ vs. vs ++ (plain.part.contents.variables ++ []) ≡ plain.part.contents.variables) (sym (imports_none tree.imports (around_module shown tree.name.name (map declaration tree.decls)))) (no_more plain.part.contents.variables))

  quiet : parts.notes.broken ≡ [] → plain.part.notes.broken ≡ []
  quiet e =
      let a = back_empty _ _ e in
      let b = back_empty imports.part.notes.broken _ a in
      front_empty plain.part.notes.broken pointers.broken (front_empty (plain.part.notes.broken ++ pointers.broken) _ b)

-- what is made of the parts, where nothing is broken
pub unbroken_is : (bs : List Broken) (x m : TypedModule) → if_unbroken bs x ≡ Some m → (bs ≡ []) × (x ≡ m)
unbroken_is [] x m e = (refl, cc)
unbroken_is (b ∷ bs) x m e = absurd cc

pub variables_differ : VariablesDiffer
variables_differ shown tree m e =
    let p = parts shown tree in
    let k = unbroken_is p.notes.broken (typed_module shown tree.name tree.imports (map declaration tree.decls) p) m e in
    let f = order_fresh (filter_map plain_of (map declaration tree.decls)) (decls_fresh tree.decls) (start shown tree) in
    subst (λ (x : TypedModule). AreDistinct (λ v. v.name) x.variables) k.1 (subst (λ vs. AreDistinct (λ (v : TypedVariable). v.name) vs) (sym (its_variables shown tree)) (f.differ (quiet shown tree k.0)))

pub not_out : ModulesAreNotOut
not_out shown tree m e =
    let p = parts shown tree in
    let k = unbroken_is p.notes.broken (typed_module shown tree.name tree.imports (map declaration tree.decls) p) m e in
    let judged = notes_if (is_out tree.name.name || is_system tree.name.name) rule.ReservedModule tree.name.pos in
    let a = front_empty (name_judged tree.name tree.closing).broken _ k.0 in
    let b = front_empty judged.broken (closing_judged tree.name.name (Some tree.closing)).broken a in
    subst (λ (x : TypedModule). is_out x.name ≡ false) k.1 (first_false (is_out tree.name.name) (is_system tree.name.name) (quiet_if (is_out tree.name.name || is_system tree.name.name) rule.ReservedModule tree.name.pos b))
