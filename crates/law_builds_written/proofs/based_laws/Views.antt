-- A module with its records laid out: the bases of its records stand before them.
use Rattle.std.proofs.Common.{◌≡◌, ◌≢◌, refl, ap, subst, ◌∙◌, ℕ, List, [], ◌∷◌, map as each, Option, Some, None, inl, inr}
use Rattle.std.specs.Prelude.{bytes_eq}
use Rattle.std.specs.Option.{option_map}
use Rattle.std.specs.List.{AllByRecursion}
use Rattle.ob_tree.specs.declared.names.QName.{QName}
use Rattle.ob_types.specs.declared.types.TypeRef.{TypeRef}
use Rattle.ob_types.specs.declared.desc.Desc.{Desc}
use Rattle.ob_types.specs.declared.desc.Desc.TheVariants as desc
use Rattle.ob_types.specs.declared.typed.TypedType.{TypedType}
use Rattle.ob_types.specs.declared.typed.TypedModule.{TypedModule}
use Rattle.ob_types.specs.TypedSyntax.{Module}
use Rattle.ob_types.specs.TypedView.{module_view}
use Rattle.ob_rules.specs.Declarations.{declaration, module_part, typed_module}
use Rattle.ob_layout.specs.LaidOut.{laid_desc, laid_type}
use Rattle.ob_env.specs.Faces.{described}
use Rattle.ob_env.specs.Shown.{blank, shown}
use Rattle.law_typing.specs.Makes.{IfThere}
use Rattle.law_spelling.proofs.Names.{described_fits}
use Rattle.law_names_distinct.specs.Distinct.{AreDistinct}
use Rattle.law_names_distinct.proofs.Blocks.{unbroken_is}
use Rattle.law_body_context.specs.Knows.{Grows, IsTypeDesc, Stands}
use Rattle.law_body_context.specs.Order.{IsBased}
use Rattle.law_body_context.proofs.Standing.{grows_same, stands_grown}
use Rattle.law_builds_written.specs.Laws.{laid}
use Rattle.law_builds_written.proofs.Views.{checked_so, views_are_grounded}
use Rattle.law_builds_written.specs.based_laws.Based.{AreBased}
use Rattle.law_builds_written.specs.based_laws.Laws.{ViewsAreBased}
use Rattle.law_builds_written.proofs.based_laws.Modules.{modules_are_based}
use Rattle.law_builds_written.proofs.based_laws.Bases.{bases_fit}

-- ---- the layout leaves names and bases

module _ (types : QName → Option Desc) (m : Module) where
  laid_fresh : (x : List ℕ) (ts : List TypedType) → AllByRecursion (λ (y : TypedType). y.name ≢ x) ts → AllByRecursion (λ (y : TypedType). y.name ≢ x) (each (laid_type types m) ts)
  laid_fresh x [] h = tt
  laid_fresh x (t ∷ ts) h = (h.0, laid_fresh x ts h.1)

  laid_distinct : (ts : List TypedType) → AreDistinct (λ (t : TypedType). t.name) ts → AreDistinct (λ (t : TypedType). t.name) (each (laid_type types m) ts)
  laid_distinct [] h = tt
  laid_distinct (t ∷ ts) h = (laid_fresh t.name ts h.0, laid_distinct ts h.1)

  module _ (unit : List ℕ) (shows : QName → Option Desc) where
    abbrev S : List TypedType → TypeRef → Type 0
    S before t = Stands unit shows before t

    desc_based : (a b : List TypedType) → Grows a b → (words procedures : TypeRef → ℕ) (q : QName) (d : Desc) → IsBased (S a) d → IsBased (S b) (laid_desc words procedures q d)
    desc_based a b g words procedures q (desc.Alias k t) h = stands_grown unit shows a b g t h
    desc_based a b g words procedures q (desc.Record r) h = base r.base h
      where
        base : (o : Option TypeRef) → IfThere (S a) o → IfThere (S b) o
        base None h = tt
        base (Some t) h = stands_grown unit shows a b g t h
    desc_based a b g words procedures q (desc.Const v) h = tt
    desc_based a b g words procedures q (desc.Var k t) h = tt
    desc_based a b g words procedures q (desc.Proc s) h = tt
    desc_based a b g words procedures q (desc.Array k n t) h = tt
    desc_based a b g words procedures q (desc.OpenArray k t) h = tt
    desc_based a b g words procedures q (desc.Pointer k t) h = tt
    desc_based a b g words procedures q (desc.ProcType k s) h = tt

    laid_grows : (a b : List TypedType) (t : TypedType) → Grows a b → Grows (t ∷ a) (laid_type types m t ∷ b)
    laid_grows a b t g x (s, (inl i, f)) = (laid_type types m t, (inl refl, ap (λ (r : TypedType). r.name) i ∙ f))
    laid_grows a b t g x (s, (inr i, f)) = let r = g x (s, (i, f)) in (r.0, (inr r.1.0, r.1.1))

    laid_based : (a b : List TypedType) → Grows a b → (ts : List TypedType) → AreBased unit shows a ts → AreBased unit shows b (each (laid_type types m) ts)
    laid_based a b g [] h = tt
    laid_based a b g (t ∷ ts) h = (desc_based a b g _ _ _ t.desc h.0, laid_based (t ∷ a) (laid_type types m t ∷ b) (laid_grows a b t g) ts h.1)

-- ---- what is shown

type_shown : (d : Desc) → IsTypeDesc (Some (blank d)) → IsTypeDesc (Some d)
type_shown (desc.Const v) h = h
type_shown (desc.Var k t) h = h
type_shown (desc.Proc s) h = h
type_shown (desc.Alias k t) h = h
type_shown (desc.Array k n t) h = h
type_shown (desc.OpenArray k t) h = h
type_shown (desc.Pointer k t) h = h
type_shown (desc.ProcType k s) h = h
type_shown (desc.Record r) h = h

types_shown : (o : Option Desc) → IsTypeDesc (option_map blank o) → IsTypeDesc o
types_shown None h = h
types_shown (Some d) h = type_shown d h

none_shown : (o : Option Desc) → option_map blank o ≡ None → o ≡ None
none_shown None e = refl
none_shown (Some d) e = absurd cc

-- ---- the view

pub views_are_based : ViewsAreBased
views_are_based faces tree m c spelled =
    let k = unbroken_is (module_part (shown faces) tree).notes.broken (typed_module (shown faces) tree.name tree.imports (each declaration tree.decls) (module_part (shown faces) tree)) m c.is in
    let name : tree.name.name ≡ m.name = ap (λ (x : TypedModule). x.name) k.1 in
    let checked = checked_so faces tree m c in
    let based : AreBased m.name (shown faces) [] m.types = subst (λ (n : List ℕ). AreBased n (shown faces) [] m.types) name (modules_are_based (shown faces) tree m checked) in
    bases_fit (described faces) (laid faces m) (shown faces) (record {
      view = views_are_grounded faces tree m c;
      outer = c.grounded;
      apart = λ q e. none_shown (described faces q) (checked.apart.own q (ap (λ n. bytes_eq q.«module» n) name ∙ e));
      known = λ q h. types_shown (described faces q) h;
      coded = λ q d e other. let r = described_fits faces spelled q d e in (r.«module», r.object);
      differ = laid_distinct (described faces) (module_view m) m.types c.names;
      based = laid_based (described faces) (module_view m) m.name (shown faces) [] [] (grows_same []) m.types based;
    })
