-- Modules: their types stand in the order of the text, with what is bound to them too.
use Rattle.std.proofs.Common.{◌≡◌, refl, sym, ap, subst, ◌∙◌, ℕ, false, List, [], ◌∷◌, ◌++◌, map, Option, Some, None, inl, inr}
use Rattle.std.specs.Prelude.{bytes_eq}
use Rattle.std.specs.List.{AllByRecursion, find}
use Rattle.ob_tree.specs.declared.names.QName.{QName}
use Rattle.ob_tree.specs.declared.decl.Module.{Module as Tree}
use Rattle.ob_types.specs.declared.types.TypeRef.{TypeRef}
use Rattle.ob_types.specs.declared.desc.Desc.{Desc}
use Rattle.ob_types.specs.declared.desc.Desc.TheVariants as desc
use Rattle.ob_types.specs.declared.desc.Method.{Method}
use Rattle.ob_types.specs.declared.typed.TypedType.{TypedType}
use Rattle.ob_types.specs.declared.typed.TypedModule.{TypedModule}
use Rattle.ob_rules.specs.Names.{Around, is_out}
use Rattle.ob_rules.specs.Statements.{judging}
use Rattle.ob_rules.specs.Declarations.{Declaration, block, declaration, target_of, imports_declared, import_declared, around_module, module_part, described, all_described, typed_module}
use Rattle.law_typing_forms.specs.Said.{IsOneOf}
use Rattle.law_typing.specs.Makes.{IfThere}
use Rattle.law_names_distinct.specs.Distinct.{AreDistinct}
use Rattle.law_names_distinct.proofs.Blocks.{unbroken_is, not_out}
use Rattle.law_body_context.specs.Knows.{Grows, Stands}
use Rattle.law_body_context.specs.Judged.{with_methods, HasMore}
use Rattle.law_body_context.specs.Order.{IsBased}
use Rattle.law_body_context.proofs.More.{more_same}
use Rattle.law_body_context.proofs.Standing.{grows_same, stands_grown}
use Rattle.law_body_context.proofs.Binding.{AreOne, IsFrom}
use Rattle.law_acyclic.proofs.Stand.{found_name}
use Rattle.law_acyclic.proofs.Modules.{bound_from}
use Rattle.law_acyclic.proofs.Names.{one_of}
use Rattle.law_acyclic.proofs.Grounded.{grounded_closed}
use Rattle.law_builds_written.specs.based_laws.Based.{AreBased}
use Rattle.law_builds_written.specs.based_laws.Laws.{ModulesAreBased}
use Rattle.law_acyclic.proofs.Firm.{AnyValue}
use Rattle.law_builds_written.proofs.based_laws.Order.{AreInText, text_joined, Text}
use Rattle.law_builds_written.proofs.based_laws.Plain.{imports_go, order_goes}
use Rattle.law_builds_written.proofs.based_laws.Blocks.{block_is, decls_good}

predeclared_stand : (unit : List ℕ) (shown : QName → Option Desc) (ds : List Declaration) → Text unit shown [] (around_module shown unit ds)
predeclared_stand unit shown ds = record { unit_is = refl; shown_is = refl; known = (tt, (tt, (tt, (tt, (tt, (tt, (tt, (tt, (tt, (tt, (tt, (tt, (tt, (tt, (tt, (tt, (tt, (tt, (tt, (tt, (tt, (tt, (tt, (tt, (tt, (tt, (tt, (tt, (tt, (tt, (tt, tt))))))))))))))))))))))))))))))) }

-- ---- the types that a module makes

module _ (shown : QName → Option Desc) (tree : Tree) (out : is_out tree.name.name ≡ false) (imports : AllByRecursion (λ i. bytes_eq (target_of i).name tree.name.name ≡ false) tree.imports) where
  abbrev ds : List Declaration
  ds = map declaration tree.decls

  abbrev u : Around
  u = around_module shown tree.name.name ds

  pub module_in_text : AreInText tree.name.name shown [] (module_part shown tree).contents.types
  module_in_text =
      let d = imports_declared tree.imports u in
      let i = order_goes tree.name.name shown out (map (λ i. import_declared i (target_of i)) tree.imports) (imports_go tree.name.name shown out tree.imports imports) [] u (predeclared_stand tree.name.name shown ds) in
      text_joined tree.name.name shown [] d.part.contents.types (block ds (map judging tree.body) d.around).contents.types i.types
      (block_is tree.name.name shown out ds (decls_good tree.name.name shown out tree.decls) (map judging tree.body) (d.part.contents.types ++ []) d.around i.around)

-- ---- with what is bound to them

-- each has its name, and perhaps more bound procedures
abbrev pub AreMore : List TypedType → List TypedType → Type 0
AreMore [] [] = Unit {0}
AreMore [] (s ∷ ss) = ⊥
AreMore (t ∷ ts) [] = ⊥
AreMore (t ∷ ts) (s ∷ ss) = ((s.name ≡ t.name) × HasMore t.desc s.desc) × AreMore ts ss

module _ (unit : List ℕ) (shown : QName → Option Desc) where
  abbrev S : List TypedType → TypeRef → Type 0
  S before t = Stands unit shown before t

  based_more : (a b : List TypedType) → Grows a b → (d : Desc) (ms : List Method) → IsBased (S a) d → IsBased (S b) (with_methods ms d)
  based_more a b g (desc.Alias m t) ms h = stands_grown unit shown a b g t h
  based_more a b g (desc.Record r) ms h = base r.base h
    where
      base : (o : Option TypeRef) → IfThere (S a) o → IfThere (S b) o
      base None h = tt
      base (Some t) h = stands_grown unit shown a b g t h
  based_more a b g (desc.Const v) ms h = tt
  based_more a b g (desc.Var m t) ms h = tt
  based_more a b g (desc.Proc s) ms h = tt
  based_more a b g (desc.Array m n t) ms h = tt
  based_more a b g (desc.OpenArray m t) ms h = tt
  based_more a b g (desc.Pointer m t) ms h = tt
  based_more a b g (desc.ProcType m s) ms h = tt

  names_grow : (a b : List TypedType) (t s : TypedType) → s.name ≡ t.name → Grows a b → Grows (t ∷ a) (s ∷ b)
  names_grow a b t s e g x (y, (inl i, f)) = (s, (inl refl, e ∙ ap (λ (r : TypedType). r.name) i ∙ f))
  names_grow a b t s e g x (y, (inr i, f)) = let r = g x (y, (i, f)) in (r.0, (inr r.1.0, r.1.1))

  pub more_based : (a b : List TypedType) → Grows a b → (ts ss : List TypedType) → AreMore ts ss → AreInText unit shown a ts → AreBased unit shown b ss
  more_based a b g [] [] m h = tt
  more_based a b g [] (s ∷ ss) m h = absurd m
  more_based a b g (t ∷ ts) [] m h = absurd m
  more_based a b g (t ∷ ts) (s ∷ ss) m h =
      (subst (IsBased (S b)) (sym m.0.1.1) (based_more a b g t.desc m.0.1.0 h.0.based), more_based (t ∷ a) (s ∷ b) (names_grow a b t s m.0.0 g) ts ss m.1 h.1)

module _ (X F : List TypedType) (from : (s : TypedType) → IsOneOf X s → IsFrom AnyValue F s) (one : AreOne AnyValue F) where
  abbrev for_name : TypedType → Option TypedType
  for_name t = find (λ b. bytes_eq b.name t.name) X

  with_bound_more : (t : TypedType) → IsOneOf F t → (o : Option TypedType) → for_name t ≡ o → ((described o t).name ≡ t.name) × HasMore t.desc (described o t).desc
  with_bound_more t i None e = (refl, more_same t.desc t.desc refl)
  with_bound_more t i (Some b) e =
      let f = found_name X t.name b e in
      let r = from b f.0 in
      (refl, subst (λ (d : Desc). HasMore d b.desc) (one r.0 t r.1.0 i (r.1.1.0 ∙ f.1)) r.1.1.1)

  pub all_more : (ts : List TypedType) → ((t : TypedType) → IsOneOf ts t → IsOneOf F t) → AreMore ts (all_described X ts)
  all_more [] f = tt
  all_more (t ∷ ts) f = (with_bound_more t (f t (inl refl)) (for_name t) refl, all_more ts (λ s i. f s (inr i)))

pub modules_are_based : ModulesAreBased
modules_are_based shown tree m c =
    let p = module_part shown tree in
    let k = unbroken_is p.notes.broken (typed_module shown tree.name tree.imports (map declaration tree.decls) p) m c.is in
    let out : is_out tree.name.name ≡ false = ap (λ (x : TypedModule). is_out x.name) k.1 ∙ not_out shown tree m c.is in
    let X = p.contents.bound in
    let F = p.contents.types in
    let distinct : AreDistinct (λ (t : TypedType). t.name) (all_described X F) = subst (λ (x : TypedModule). AreDistinct (λ (t : TypedType). t.name) x.types) (sym k.1) c.names in
    let one = one_of X F distinct in
    let from = bound_from shown tree (grounded_closed shown c.grounded) c.apart out c.imports k.0 one in
    subst (λ (x : TypedModule). AreBased tree.name.name shown [] x.types) k.1
    (more_based tree.name.name shown [] [] (grows_same []) F (all_described X F) (all_more X F from one F (λ t i. i)) (module_in_text shown tree out c.imports))
