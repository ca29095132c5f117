-- A checked module: its bound procedures are there.
use Rattle.std.proofs.Common.{◌≡◌, refl, sym, ap, ◌∙◌, subst, ℕ, Bool, true, false, List, [], ◌∷◌, ◌++◌, map, Option, Some, None, cond, inl, inr}
use Rattle.std.specs.Prelude.{bytes_eq, codes}
use Rattle.std.specs.List.{AllByRecursion, find, filter_map}
use Rattle.std.proofs.lemmas.Slice.Eq.{bytes_eq-Decides}
use Rattle.ob_tree.specs.declared.names.QName.{QName}
use Rattle.ob_tree.specs.declared.decl.Module.{Module as Tree}
use Rattle.ob_types.specs.declared.types.Signature.{Signature}
use Rattle.ob_types.specs.declared.desc.Desc.{Desc}
use Rattle.ob_types.specs.declared.desc.Method.{Method}
use Rattle.ob_types.specs.declared.typed.TypedType.{TypedType}
use Rattle.ob_types.specs.declared.typed.TypedProcedure.{TypedProcedure}
use Rattle.ob_types.specs.declared.typed.TypedModule.{TypedModule}
use Rattle.ob_rules.specs.Names.{Around, map_of, is_out}
use Rattle.ob_rules.specs.Types.{Parameters, nothing, is_module_level}
use Rattle.ob_rules.specs.Statements.{judging}
use Rattle.ob_rules.specs.Headings.{Head, Heads, Binding, forwards_judged, counts, counted, signature_if, signature_or_none, reversed}
use Rattle.ob_rules.specs.Declarations.{no_contents, Part, Declared, Written_procedure, declaration, plain_of, procedure_of, type_name_of, in_order, headings_in_order, heads_later, pointers_judged, name_judged, binding_at, all_judged, field_judged, with_bound, procedures_judged, self_parameters, imports_declared, import_declared, target_of, around_module, module_of, typed_module, described, all_described}
use Rattle.law_typing_forms.specs.Said.{IsOneOf}
use Rattle.law_typing.specs.Makes.{IfThere}
use Rattle.law_names_distinct.proofs.Blocks.{not_out}
use Rattle.law_body_context.specs.Judged.{AreOf}
use Rattle.law_body_context.proofs.Lists.{one_left, one_right, one_all, all_of}
use Rattle.law_body_context.proofs.Headings.{Aligned, aligned_in_order}
use Rattle.law_body_context.proofs.Blocks.{procedures_bound, heading_there}
use Rattle.law_body_context.proofs.Modules.{unbroken_is}
use Rattle.law_methods_bound.specs.Bound.{methods_of, HasElements, IsThere, MethodsAreThere, ArraysHaveElements}
use Rattle.law_methods_bound.proofs.Typings.{IsRaw, AreRaw, MakeRaw}
use Rattle.law_methods_bound.proofs.Heads.{GoodHead, GoodHeads}
use Rattle.law_methods_bound.proofs.Binding.{one_filtered, counted_whole, IsNew, TypeNew, AreNew, bindings_new}
use Rattle.law_methods_bound.proofs.Blocks.{GoodDeclared, order_good, imports_good, plains_good, all_procedures, decls_good, headings_good, headings_raw, reversed_good, block_good}
use Rattle.law_lists.proofs.Lists.{all_both, back_empty, front_empty}

-- the parts of a module
abbrev pub parts : (QName → Option Desc) → Tree → Part
parts shown tree = module_of shown tree.name tree.imports (map declaration tree.decls) (map judging tree.body) tree.closing

abbrev pub M : (QName → Option Desc) → Tree → TypedModule
M shown tree = typed_module shown tree.name tree.imports (map declaration tree.decls) (parts shown tree)

module _ (shown : QName → Option Desc) (tree : Tree) (out : is_out (M shown tree).name ≡ false) where
  abbrev pub whole : Part
  whole = parts shown tree

  abbrev pub made : TypedModule
  made = M shown tree

  abbrev pub start : Around
  start = around_module shown tree.name.name (map declaration tree.decls)

  abbrev pub imports : Declared
  imports = imports_declared tree.imports start

  abbrev pub base : Around
  base = record imports.around { later_types = filter_map type_name_of (map declaration tree.decls) }

  abbrev pub plain : Declared
  plain = in_order (filter_map plain_of (map declaration tree.decls)) base

  abbrev pub ps : List Written_procedure
  ps = filter_map procedure_of (map declaration tree.decls)

  abbrev pub hs : Heads
  hs = headings_in_order ps (record { around = plain.around; before = [] })

  abbrev pub heads : List Head
  heads = reversed hs.before

  abbrev pub B : Binding
  B = binding_at (is_module_level imports.around) hs.around heads

  abbrev pub w : Around
  w = with_bound hs.around B

  abbrev pub judged : Part
  judged = procedures_judged w ps heads

  pub imports_are : GoodDeclared start imports
  imports_are = order_good (map (λ i. import_declared i (target_of i)) tree.imports) (imports_good tree.imports) start

  pub plain_is : GoodDeclared base plain
  plain_is = order_good (filter_map plain_of (map declaration tree.decls)) (plains_good (map declaration tree.decls) (decls_good tree.decls)) base

  pub level : imports.around.path ≡ []
  level = imports_are.path

  pub heads_are : GoodHeads [] hs
  heads_are = headings_good [] ps (all_procedures (map declaration tree.decls) (decls_good tree.decls)) (record { around = plain.around; before = [] }) (record { path_is = plain_is.path ∙ level; before = tt })

  pub known_raw : AreRaw hs.around.own
  known_raw = headings_raw ps (all_procedures (map declaration tree.decls) (decls_good tree.decls)) (record { around = plain.around; before = [] }) (plain_is.own (imports_are.own tt))

  bound_new : AreNew (counted heads) B.own
  bound_new = subst (λ (p : List ℕ). AreNew (counted heads) (binding_at (nothing p) hs.around heads).own) (sym level) (bindings_new hs.around heads known_raw)

  pub aligned : Aligned ps heads
  aligned = let a = aligned_in_order ps (record { around = plain.around; before = [] }) in subst (Aligned ps) (sym a.is) a.aligned

  all_bound : AreNew (counted heads) whole.contents.bound
  all_bound =
      subst (λ bs. AreNew (counted heads) (bs ++ (plain.part.contents.bound ++ (B.own ++ (judged.contents.bound ++ []))))) (sym imports_are.bound)
      (subst (λ bs. AreNew (counted heads) (bs ++ (B.own ++ (judged.contents.bound ++ [])))) (sym plain_is.bound)
      (all_both (TypeNew (counted heads)) B.own (judged.contents.bound ++ []) bound_new
      (subst (λ bs. AreNew (counted heads) (bs ++ [])) (sym (procedures_bound (λ v. Unit {0}) shown made no_contents out w ps heads)) tt)))

  pub all_types : AreRaw whole.contents.types
  all_types = all_both IsRaw imports.part.contents.types _ imports_are.types (block_good (map declaration tree.decls) (decls_good tree.decls) (map judging tree.body) imports.around)

  module _ (quiet : whole.notes.broken ≡ []) where
    forwards_quiet : (forwards_judged (map_of hs.around) heads heads).broken ≡ []
    forwards_quiet =
        let block_quiet = back_empty imports.part.notes.broken _ (back_empty (name_judged tree.name tree.closing).broken _ quiet) in
        let headed = back_empty (plain.part.notes.broken ++ (pointers_judged hs.around (plain.part.notes.later ++ heads_later hs.before)).broken) _ block_quiet in
        let told = front_empty (B.notes.broken ++ ((all_judged (field_judged (map_of w)) (plain.part.notes.later ++ heads_later hs.before)).broken ++ (forwards_judged (map_of hs.around) heads heads).broken)) _ headed in
        back_empty (all_judged (field_judged (map_of w)) (plain.part.notes.later ++ heads_later hs.before)).broken _ (back_empty B.notes.broken _ told)

    pub among : (p : TypedProcedure) → IsOneOf judged.contents.procedures p → IsOneOf made.procedures p
    among p i = one_right imports.part.contents.procedures _ p (one_right plain.part.contents.procedures _ p (one_left judged.contents.procedures [] p i))

    from_head : (t : TypedType) (k : Method) → IsNew (counted heads) t.name k → IsThere made.procedures t k
    from_head t k n = by n.h.parameters refl
      where
        by : (o : Option Parameters) → n.h.parameters ≡ o → IsThere made.procedures t k
        by None e = inl (ap (λ (x : Method). x.signature) n.is ∙ ap (λ o. signature_or_none (signature_if o)) e)
        by (Some q) e =
            let i : IsOneOf heads n.h = one_filtered (counts heads) heads n.h n.there in
            let r = heading_there (λ v. Unit {0}) shown made no_contents out w ps heads aligned n.h i q e (counted_whole (map_of hs.around) heads heads forwards_quiet n.h n.there) in
            let g = one_all (GoodHead []) heads n.h (reversed_good (GoodHead []) hs.before heads_are.before) i in
            let makes : MakeRaw q = subst (IfThere MakeRaw) e g.parameters in
            let sig : k.signature ≡ q.signature = ap (λ (x : Method). x.signature) n.is ∙ ap (λ o. signature_or_none (signature_if o)) e in
            let same : n.h.name ≡ k.name = sym (ap (λ (x : Method). x.name) n.is) in
            inr (record {
              p = r.p;
              there = among r.p r.there;
              name = r.name ∙ g.named n.b n.bound ∙ ap (λ (x : List ℕ). x ++ codes "." ++ n.h.name) (sym n.name) ∙ ap (λ (y : List ℕ). t.name ++ codes "." ++ y) same;
              self = self_parameters n.h n.h.self n.h.bound;
              rest = q.parameters;
              parameters = r.parameters;
              are = subst (λ (s : Signature). AreOf q.parameters s.params) (sym sig) makes.1;
              result = r.result ∙ ap (λ (s : Signature). s.result) (sym sig);
            })

    abbrev Good : TypedType → Type 0
    Good t = AllByRecursion (IsThere made.procedures t) (methods_of t.desc) × HasElements t.desc

    found_there : (t : TypedType) → IsRaw t → (o : Option TypedType) → IfThere (λ b. TypeNew (counted heads) b × (bytes_eq b.name t.name ≡ true)) o → Good (described o t)
    found_there t e None h = (subst (AllByRecursion (IsThere made.procedures t)) (sym e.0) tt, e.1)
    found_there t e (Some b) h =
        let same : b.name ≡ t.name = (bytes_eq-Decides b.name t.name).0 h.1 in (
          all_of (IsNew (counted heads) b.name) (IsThere made.procedures (record { name = t.name; desc = b.desc })) (methods_of b.desc)
              (λ k n. from_head (record { name = t.name; desc = b.desc }) k (subst (λ x. IsNew (counted heads) x k) same n)) h.0.0,
          h.0.1,
        )

    first_if : (b : Bool) (P : TypedType → Type 0) (test : TypedType → Bool) (x : TypedType) (o : Option TypedType) → test x ≡ b → P x → IfThere (λ x. P x × (test x ≡ true)) o → IfThere (λ x. P x × (test x ≡ true)) (cond b (Some x) o)
    first_if true P test x o e h k = (h, e)
    first_if false P test x o e h k = k

    pub found_has : (P : TypedType → Type 0) (test : TypedType → Bool) (xs : List TypedType) → AllByRecursion P xs → IfThere (λ x. P x × (test x ≡ true)) (find test xs)
    found_has P test [] h = tt
    found_has P test (x ∷ xs) h = first_if (test x) P test x (find test xs) refl h.0 (found_has P test xs h.1)

    types_there : (ts : List TypedType) → AreRaw ts → AllByRecursion Good (all_described whole.contents.bound ts)
    types_there [] h = tt
    types_there (t ∷ ts) h = (found_there t h.0 (find (λ b. bytes_eq b.name t.name) whole.contents.bound) (found_has (TypeNew (counted heads)) (λ b. bytes_eq b.name t.name) whole.contents.bound all_bound), types_there ts h.1)

    methods_good : AllByRecursion Good made.types
    methods_good = types_there whole.contents.types all_types

pub methods_there : MethodsAreThere
methods_there shown tree m e =
    let k = unbroken_is (parts shown tree).notes.broken (M shown tree) m e in
    let out : is_out (M shown tree).name ≡ false = ap (λ (x : TypedModule). is_out x.name) k.1 ∙ not_out shown tree m e in
    subst (λ (x : TypedModule). AllByRecursion (λ t. AllByRecursion (IsThere x.procedures t) (methods_of t.desc)) x.types) k.1 (all_of (Good shown tree out k.0) (λ t. AllByRecursion (IsThere (M shown tree).procedures t) (methods_of t.desc)) (M shown tree).types (λ t g. g.0) (methods_good shown tree out k.0))

pub arrays_have : ArraysHaveElements
arrays_have shown tree m e =
    let k = unbroken_is (parts shown tree).notes.broken (M shown tree) m e in
    let out : is_out (M shown tree).name ≡ false = ap (λ (x : TypedModule). is_out x.name) k.1 ∙ not_out shown tree m e in
    subst (λ (x : TypedModule). AllByRecursion (λ t. HasElements t.desc) x.types) k.1 (all_of (Good shown tree out k.0) (λ t. HasElements t.desc) (M shown tree).types (λ t g. g.1) (methods_good shown tree out k.0))
