-- The variables of a checked module are declared well.
use Rattle.std.proofs.Common.{◌≡◌, ◌⊎◌, ⊎_elim, refl, sym, ap, ◌∙◌, subst, ℕ, Bool, true, false, List, [], ◌∷◌, ◌++◌, map, Option, Some, None, inl, inr, cond}
use Rattle.std.specs.Prelude.{◌≢◌, bytes_eq}
use Rattle.std.specs.List.{AllByRecursion, find, filter_map}
use Rattle.ob_tree.specs.declared.names.QName.{QName}
use Rattle.ob_tree.specs.declared.decl.Module.{Module as Tree}
use Rattle.ob_types.specs.declared.desc.Desc.{Desc}
use Rattle.ob_types.specs.declared.typed.TypedType.{TypedType}
use Rattle.ob_types.specs.declared.typed.TypedVariable.{TypedVariable}
use Rattle.ob_types.specs.declared.typed.TypedModule.{TypedModule}
use Rattle.ob_rules.specs.Names.{Around, is_out}
use Rattle.ob_rules.specs.Types.{is_module_level}
use Rattle.ob_rules.specs.Statements.{judging}
use Rattle.ob_rules.specs.Headings.{Head, Heads, Binding, reversed}
use Rattle.ob_rules.specs.Declarations.{no_contents, Part, Declared, Written_procedure, declaration, plain_of, procedure_of, type_name_of, in_order, headings_in_order, heads_later, pointers_judged, name_judged, binding_at, with_bound, procedure_judged, procedures_judged, imports_declared, import_declared, target_of, around_module, module_of, typed_module, described, all_described}
use Rattle.law_simulation_relation.proofs.Names.{bytes_true}
use Rattle.law_typing_forms.specs.Said.{IsOneOf}
use Rattle.law_names_distinct.specs.Distinct.{AreDistinct}
use Rattle.law_names_distinct.proofs.Blocks.{not_out}
use Rattle.law_typing.specs.Spelled.{all_true}
use Rattle.law_typing.specs.Bodies.{stmt_spelled}
use Rattle.law_body_context.specs.Spelled.{decl_spelled}
use Rattle.law_body_context.specs.Judged.{HasMore, IsTold}
use Rattle.law_body_context.specs.Laws.{AreOthers}
use Rattle.law_body_context.proofs.Lists.{one_left, one_right, one_joined, one_all, all_of}
use Rattle.law_body_context.proofs.More.{more_same}
use Rattle.law_body_context.proofs.Held.{one_mapped}
use Rattle.law_body_context.proofs.Standing.{Lies, lies_same}
use Rattle.law_body_context.proofs.Binding.{binding_changes}
use Rattle.law_body_context.proofs.Headings.{Aligned, aligned_in_order, types_of_all, IsUnbroken, lies_in_order, types_lie}
use Rattle.law_body_context.proofs.Blocks.{procedures_bound, heads_unbroken, types_there, one_reversed}
use Rattle.law_body_context.proofs.Modules.{unbroken_is}
use Rattle.law_methods_bound.proofs.Blocks.{order_good, imports_good as imports_bound, plains_good, decls_good}
use Rattle.law_builds_ruled.specs.ruled_laws.Variables.{IsDeclaredWell, VariablesAreDeclared}
use Rattle.law_builds_ruled.proofs.ruled_laws.Plain.{Any, VariableIn, DeclaredFine, order_plain, imports_plain, decls_plain, start_fine, later_fine}
use Rattle.law_lists.proofs.Lists.{all_both, and_parts, back_empty, front_empty}

-- ---- types of one name are one

-- the type with the bound procedures that it introduces
same_named : (o : Option TypedType) (t : TypedType) → (described o t).name ≡ t.name
same_named None t = refl
same_named (Some b) t = refl

module _ (bound : List TypedType) where
  abbrev for_name : TypedType → Option TypedType
  for_name t = find (λ b. bytes_eq b.name t.name) bound

  name_is : (t : TypedType) → (described (for_name t) t).name ≡ t.name
  name_is t = same_named (for_name t) t

  there : (ts : List TypedType) (t : TypedType) → IsOneOf ts t → IsOneOf (all_described bound ts) (described (for_name t) t)
  there ts t i = one_mapped (λ t. described (find (λ b. bytes_eq b.name t.name) bound) t) ts t i

  pub same_of : (ts : List TypedType) → AreDistinct (λ (t : TypedType). t.name) (all_described bound ts) → (a b : TypedType) → IsOneOf ts a → IsOneOf ts b → a.name ≡ b.name → a ≡ b
  same_of [] d a b i j e = absurd i
  same_of (t ∷ ts) d a b (inl i) (inl j) e = sym i ∙ j
  same_of (t ∷ ts) d a b (inl i) (inr j) e = absurd (one_all (λ (y : TypedType). y.name ≢ (described (for_name t) t).name) (all_described bound ts) (described (for_name b) b) d.0 (there ts b j) (name_is b ∙ sym e ∙ sym (ap (λ (y : TypedType). y.name) i) ∙ sym (name_is t)))
  same_of (t ∷ ts) d a b (inr i) (inl j) e = absurd (one_all (λ (y : TypedType). y.name ≢ (described (for_name t) t).name) (all_described bound ts) (described (for_name a) a) d.0 (there ts a i) (name_is a ∙ e ∙ sym (ap (λ (y : TypedType). y.name) j) ∙ sym (name_is t)))
  same_of (t ∷ ts) d a b (inr i) (inr j) e = same_of ts d.1 a b i j e

found_is : (x : List ℕ) (bs : List TypedType) (b : TypedType) → find (λ b. bytes_eq b.name x) bs ≡ Some b → IsOneOf bs b × (b.name ≡ x)
found_is x [] b e = absurd cc
found_is x (c ∷ bs) b e = by (bytes_eq c.name x) refl e (found_is x bs b)
  where
    by : (k : Bool) → bytes_eq c.name x ≡ k → cond k (Some c) (find (λ b. bytes_eq b.name x) bs) ≡ Some b → (find (λ b. bytes_eq b.name x) bs ≡ Some b → IsOneOf bs b × (b.name ≡ x)) → IsOneOf (c ∷ bs) b × (b.name ≡ x)
    by true i e r = let k : c ≡ b = cc in (inl k, sym (ap (λ (y : TypedType). y.name) k) ∙ bytes_true c.name x i)
    by false i e r = let k = r e in (inr k.0, k.1)

-- a type, which has perhaps more procedures in the module
pub told : (types bound : List TypedType) → ((b : TypedType) → IsOneOf bound b → (t : TypedType) × (IsOneOf types t × ((t.name ≡ b.name) × HasMore t.desc b.desc))) → AreDistinct (λ (t : TypedType). t.name) (all_described bound types) → (t : TypedType) → IsOneOf types t → IsTold (all_described bound types) t
told types bound from differ t i = (described (for_name bound t) t, (there bound types t i, (name_is bound t, by (for_name bound t) refl)))
  where
    by : (o : Option TypedType) → for_name bound t ≡ o → HasMore t.desc (described o t).desc
    by None e = more_same t.desc t.desc refl
    by (Some b) e =
        let f = found_is t.name bound b e in
        let r = from b f.0 in
        subst (λ (y : TypedType). HasMore y.desc b.desc) (same_of bound types differ r.0 t r.1.0 i (r.1.1.0 ∙ f.1)) r.1.1.1

-- ---- a module

abbrev pub parts : (QName → Option Desc) → Tree → Part
parts shown tree = module_of shown tree.name tree.imports (map declaration tree.decls) (map judging tree.body) tree.closing

abbrev pub module_is : (QName → Option Desc) → Tree → TypedModule
module_is shown tree = typed_module shown tree.name tree.imports (map declaration tree.decls) (parts shown tree)

module _ (shown : QName → Option Desc) (tree : Tree) (out : is_out (module_is shown tree).name ≡ false) (quiet : (parts shown tree).notes.broken ≡ []) where
  abbrev whole : Part
  whole = parts shown tree

  abbrev made : TypedModule
  made = module_is shown tree

  abbrev start : Around
  start = around_module shown tree.name.name (map declaration tree.decls)

  abbrev imports : Declared
  imports = imports_declared tree.imports start

  abbrev base : Around
  base = record imports.around { later_types = filter_map type_name_of (map declaration tree.decls) }

  abbrev plain : Declared
  plain = in_order (filter_map plain_of (map declaration tree.decls)) base

  abbrev ps : List Written_procedure
  ps = filter_map procedure_of (map declaration tree.decls)

  abbrev hs : Heads
  hs = headings_in_order ps (record { around = plain.around; before = [] })

  abbrev heads : List Head
  heads = reversed hs.before

  abbrev B : Binding
  B = binding_at (is_module_level imports.around) hs.around heads

  abbrev w : Around
  w = with_bound hs.around B

  abbrev judged : Part
  judged = procedures_judged w ps heads

  abbrev all : List TypedType
  all = whole.contents.types

  aligned : Aligned ps heads
  aligned = let a = aligned_in_order ps (record { around = plain.around; before = [] }) in subst (Aligned ps) (sym a.is) a.aligned

  judged_quiet : judged.notes.broken ≡ []
  judged_quiet =
      let block_quiet = back_empty imports.part.notes.broken _ (back_empty (name_judged tree.name tree.closing).broken _ quiet) in
      let headed = back_empty (plain.part.notes.broken ++ (pointers_judged hs.around (plain.part.notes.later ++ heads_later hs.before)).broken) _ block_quiet in
      front_empty judged.notes.broken _ (back_empty _ (judged.notes.broken ++ _) headed)

  plain_lie : Lies plain.part.contents.types all
  plain_lie t i = one_right imports.part.contents.types _ t (one_left plain.part.contents.types _ t i)

  imports_lie : Lies imports.part.contents.types all
  imports_lie t i = one_left imports.part.contents.types _ t i

  judged_lie : Lies judged.contents.types all
  judged_lie t i = one_right imports.part.contents.types _ t (one_right plain.part.contents.types _ t (one_left judged.contents.types [] t i))

  module _ (spelled : all_true (map decl_spelled tree.decls) ≡ true) (others : AreOthers tree.name.name tree.imports) where
    imports_are : DeclaredFine tree.name.name shown out all (IsOneOf all) (λ s i. i) imports
    imports_are = order_plain tree.name.name shown out all (IsOneOf all) (λ s i. i) (map (λ i. import_declared i (target_of i)) tree.imports) (imports_plain tree.name.name shown out all (IsOneOf all) (λ s i. i) tree.imports others) start (start_fine tree.name.name shown out all (IsOneOf all) (λ s i. i) tree.name.name (map declaration tree.decls) refl) imports_lie

    plain_is : DeclaredFine tree.name.name shown out all (IsOneOf all) (λ s i. i) plain
    plain_is = order_plain tree.name.name shown out all (IsOneOf all) (λ s i. i) (filter_map plain_of (map declaration tree.decls)) (decls_plain tree.name.name shown out all (IsOneOf all) (λ s i. i) tree.decls spelled) base (later_fine tree.name.name shown out all (IsOneOf all) (λ s i. i) imports.around (filter_map type_name_of (map declaration tree.decls)) imports_are.around) plain_lie

    -- what is bound are types of the module, perhaps with more bound procedures
    heads_lie : Lies hs.around.own all
    heads_lie t i =
        let unbroken : (x : Head) → IsOneOf hs.before x → IsUnbroken x = λ x k. heads_unbroken Any shown made no_contents out w ps heads aligned judged_quiet x (one_reversed hs.before x k) in
        let makes : Lies (types_of_all hs.before) judged.contents.types = types_lie hs.before judged.contents.types (λ x k. types_there Any shown made no_contents out w ps heads aligned x (one_reversed hs.before x k)) in
        let behind = lies_in_order plain.around.own ps (record { around = plain.around; before = [] }) unbroken (lies_same plain.around.own) in
        ⊎_elim (λ y. judged_lie t (makes t y)) (λ y. plain_is.around.lies t y) (one_joined (types_of_all hs.before) plain.around.own t (behind t i))

    pub bound_from : (b : TypedType) → IsOneOf whole.contents.bound b → (t : TypedType) × (IsOneOf all t × ((t.name ≡ b.name) × HasMore t.desc b.desc))
    bound_from b i =
        let k : IsOneOf B.own b = ⊎_elim (λ j. no_one imports.part.contents.bound (order_good (map (λ i. import_declared i (target_of i)) tree.imports) (imports_bound tree.imports) start).bound j) (λ j. ⊎_elim (λ j. no_one plain.part.contents.bound (order_good (filter_map plain_of (map declaration tree.decls)) (plains_good (map declaration tree.decls) (decls_good tree.decls)) base).bound j) (λ j. ⊎_elim (λ j. j) (λ j. ⊎_elim (λ j. no_one judged.contents.bound (procedures_bound Any shown made no_contents out w ps heads) j) (λ j. absurd j) (one_joined judged.contents.bound [] b j)) (one_joined B.own _ b j)) (one_joined plain.part.contents.bound _ b j)) (one_joined imports.part.contents.bound _ b i) in
        let r = (binding_changes Any (is_module_level imports.around) hs.around heads).from b k in
        (r.0, (heads_lie r.0 r.1.0, r.1.1))
      where
        no_one : (xs : List TypedType) → xs ≡ [] → IsOneOf xs b → IsOneOf B.own b
        no_one xs e j = absurd (subst (λ ys. IsOneOf ys b) e j)

    judged_variables : (u : Around) (qs : List Written_procedure) (gs : List Head) → (procedures_judged u qs gs).contents.variables ≡ []
    judged_variables u [] gs = refl
    judged_variables u (p ∷ qs) [] = refl
    judged_variables u (p ∷ qs) (h ∷ gs) = ap (λ l. l ++ (procedures_judged u qs gs).contents.variables) (one p h p.forward) ∙ judged_variables u qs gs
      where
        one : (p : Written_procedure) (h : Head) (f : Bool) → (procedure_judged u p h f).contents.variables ≡ []
        one p h true = refl
        one p h false = refl

    module _ (differ : AreDistinct (λ (t : TypedType). t.name) made.types) where
      well : (v : TypedVariable) → VariableIn tree.name.name shown out all (IsOneOf all) (λ s i. i) v → IsDeclaredWell tree.name.name shown made.types v
      well v h = record {
        w = h.w;
        unit_is = h.fine.knows.unit_is;
        shown_is = h.fine.knows.shown_is;
        aliases = h.fine.aliases;
        told = λ t i. let k = told all whole.contents.bound bound_from differ t (h.fine.lies t i) in record { s = k.0; there = k.1.0; name = k.1.1.0; d = t.desc; here = more_same t.desc t.desc refl; told = k.1.1.1 };
        stands = h.stands;
        closed = h.closed;
      }

      variables_well : AllByRecursion (IsDeclaredWell tree.name.name shown made.types) made.variables
      variables_well =
          all_of (VariableIn tree.name.name shown out all (IsOneOf all) (λ s i. i)) (IsDeclaredWell tree.name.name shown made.types) made.variables well
          (all_both (VariableIn tree.name.name shown out all (IsOneOf all) (λ s i. i)) imports.part.contents.variables _ imports_are.variables
          (all_both (VariableIn tree.name.name shown out all (IsOneOf all) (λ s i. i)) plain.part.contents.variables _ plain_is.variables
          (subst (λ vs. AllByRecursion (VariableIn tree.name.name shown out all (IsOneOf all) (λ s i. i)) (vs ++ [])) (sym (judged_variables w ps heads)) tt)))

pub variables_declared_well : VariablesAreDeclared
variables_declared_well shown tree m e spelled others differ =
    let k = unbroken_is (parts shown tree).notes.broken (module_is shown tree) m e in
    let out : is_out (module_is shown tree).name ≡ false = ap (λ (x : TypedModule). is_out x.name) k.1 ∙ not_out shown tree m e in
    let s = and_parts (all_true (map decl_spelled tree.decls)) (all_true (map stmt_spelled tree.body)) spelled in
    subst (λ (x : TypedModule). AllByRecursion (IsDeclaredWell x.name shown x.types) x.variables) k.1
    (variables_well shown tree out k.0 s.0 others (subst (λ (x : TypedModule). AreDistinct (λ t. t.name) x.types) (sym k.1) differ))
