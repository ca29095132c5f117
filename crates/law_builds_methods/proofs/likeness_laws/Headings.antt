-- The headings of the bound procedures of a checked module, over early types of the module.
use Rattle.std.proofs.Common.{◌≡◌, sym, ap, ◌∙◌, subst, true, false, ℕ, List, [], ◌∷◌, ◌++◌, map, Option, Some}
use Rattle.std.specs.List.{AllByRecursion}
use Rattle.ob_tree.specs.declared.names.QName.{QName}
use Rattle.ob_tree.specs.declared.ident.Ident.{Ident}
use Rattle.ob_tree.specs.declared.decl.Module.{Module as Tree}
use Rattle.ob_types.specs.declared.desc.Desc.{Desc}
use Rattle.ob_types.specs.declared.desc.Method.{Method}
use Rattle.ob_types.specs.declared.typed.Binding.{Binding}
use Rattle.ob_types.specs.declared.typed.TypedType.{TypedType}
use Rattle.ob_types.specs.declared.typed.TypedProcedure.{TypedProcedure}
use Rattle.ob_types.specs.declared.typed.TypedModule.{TypedModule}
use Rattle.ob_rules.specs.Shapes.{AMethod, member}
use Rattle.ob_rules.specs.Names.{Around, map_of, is_out}
use Rattle.ob_rules.specs.Types.{Parameters}
use Rattle.ob_rules.specs.Operators.{signatures_match}
use Rattle.ob_rules.specs.Headings.{BoundAs, Head, same_kind, signature_if, self_parameter}
use Rattle.ob_rules.specs.Declarations.{checked, self_parameters}
use Rattle.law_typing.specs.Makes.{IfThere}
use Rattle.law_names_distinct.specs.Distinct.{AreDistinct}
use Rattle.law_names_distinct.proofs.Blocks.{not_out}
use Rattle.law_spelling.specs.Raw.{decl_named}
use Rattle.law_names_procedures.specs.Procedures.{ShowBases, all_true, is_named_plainly}
use Rattle.law_typing_env.specs.Views.{IsEarly}
use Rattle.law_body_context.specs.Judged.{AreOf}
use Rattle.law_body_context.proofs.Lists.{one_all, all_one, all_of}
use Rattle.law_body_context.proofs.Receivers.{received_as, IsBoundAmong, bound_in_order}
use Rattle.law_body_context.proofs.Modules.{unbroken_is}
use Rattle.law_methods_introduced.proofs.Blocks as outward
use Rattle.law_methods_bound.specs.Procedures.{IsBoundBy}
use Rattle.law_methods_bound.proofs.Procedures.{procedures_match}
use Rattle.law_methods_bound.proofs.Typings.{MakeRaw}
use Rattle.law_methods_bound.proofs.Heads.{GoodHead}
use Rattle.law_methods_bound.proofs.Blocks.{reversed_good}
use Rattle.law_methods_bound.proofs.Modules.{parts, M, whole, plain, ps, hs, heads, heads_are}
use Rattle.law_methods_bound.proofs.IntroducedModules.{IsSelfed, heads_selfed}
use Rattle.law_builds_methods.proofs.likeness_laws.Types.{are_early, headings_early}

-- where early types of the module are known, and what is shown to it
pub record IsIn (shown : QName → Option Desc) (m : TypedModule) (w : Around) : Type 0 where
  pub unit_is : w.unit ≡ m.name
  pub shown_is : w.shown ≡ shown
  pub own : AllByRecursion (IsEarly m.types) w.own

-- somewhere the method was known as one that its record takes over, and was found to match
pub record IsMatched (shown : QName → Option Desc) (m : TypedModule) (x : List ℕ) (k : BoundAs) (q : Parameters) (owner : QName) (method : Method) : Type 0 where
  pub w : Around
  pub inside : IsIn shown m w
  pub found : member (map_of w) k.owner x ≡ Some (AMethod owner method)
  pub kind : same_kind method.receiver k.receiver ≡ true
  pub match : signatures_match (map_of w) (Some method.signature) (Some q.signature) ≡ true

-- the receiver of the procedure, and its parameters behind it; where another record introduces the method of its family, it matches that
pub record IsHeading (shown : QName → Option Desc) (m : TypedModule) (p : TypedProcedure) (b : Binding) : Type 0 where
  pub x : Ident
  pub k : BoundAs
  pub q : Parameters
  pub owner : b.owner ≡ k.owner
  pub w : Around
  pub inside : IsIn shown m w
  pub receives : received_as (map_of w) k.receiver k.of ≡ Some k.owner
  pub parameters : p.parameters ≡ self_parameter x k ∷ q.parameters
  pub are : AreOf q.parameters q.signature.params
  pub result : p.result ≡ q.signature.result
  pub method : Method
  pub name : b.family.name ≡ method.name
  pub called : List ℕ
  pub matches : (b.family.owner ≡ k.owner → ⊥) → IsMatched shown m called k q b.family.owner method

-- ---- a module that breaks no rule

module _ (shown : QName → Option Desc) (tree : Tree) (out : is_out (M shown tree).name ≡ false) (named : AllByRecursion (λ d. decl_named d ≡ true) tree.decls) (quiet : (whole shown tree out).notes.broken ≡ []) (differ : AreDistinct (λ t. t.name) (M shown tree).types) where
  abbrev U : Around
  U = (hs shown tree out).around

  abbrev all : List Head
  all = heads shown tree out

  abbrev m : TypedModule
  m = M shown tree

  unit_is : U.unit ≡ m.name
  unit_is = (outward.heads_gain (ps shown tree out) (outward.start shown tree named)).unit ∙ (outward.plain_is shown tree named).unit ∙ (outward.imports_are shown tree named).unit

  shown_is : U.shown ≡ shown
  shown_is = (outward.heads_gain (ps shown tree out) (outward.start shown tree named)).shown ∙ (outward.plain_is shown tree named).shown ∙ (outward.imports_are shown tree named).shown

  plain_unit : (plain shown tree out).around.unit ≡ m.name
  plain_unit = (outward.plain_is shown tree named).unit ∙ (outward.imports_are shown tree named).unit

  plain_shown : (plain shown tree out).around.shown ≡ shown
  plain_shown = (outward.plain_is shown tree named).shown ∙ (outward.imports_are shown tree named).shown

  selfed : AllByRecursion IsSelfed all
  selfed = reversed_good IsSelfed (hs shown tree out).before (heads_selfed (ps shown tree out) (record { around = (plain shown tree out).around; before = [] }) tt)

  received : AllByRecursion (λ (h : Head). IfThere (IsBoundAmong m.name shown U.own) h.bound) all
  received = reversed_good (λ (h : Head). IfThere (IsBoundAmong m.name shown U.own) h.bound) (hs shown tree out).before
      (bound_in_order m.name shown (ps shown tree out) (record { around = (plain shown tree out).around; before = [] }) plain_unit plain_shown tt)

  inside : (own : List TypedType) → AllByRecursion (IsEarly m.types) own → IsIn shown m (record U { own = own })
  inside own h = record { unit_is = unit_is; shown_is = shown_is; own = h }

  heading : (p : TypedProcedure) (b : Binding) → IsBoundBy U all p b → IsHeading shown m p b
  heading p b g =
      let i : IsBoundAmong m.name shown U.own g.k = subst (IfThere (IsBoundAmong m.name shown U.own)) g.bound (one_all (λ (h : Head). IfThere (IsBoundAmong m.name shown U.own) h.bound) all g.h received g.there) in
      let s = one_all IsSelfed all g.h selfed g.there g.k g.bound in
      let good = one_all (GoodHead []) all g.h (reversed_good (GoodHead []) (hs shown tree out).before (heads_are shown tree out).before) g.there in
      let makes : MakeRaw g.q = subst (IfThere MakeRaw) g.has good.parameters in
      let early = headings_early shown tree out named quiet differ in
      record {
        x = s.0;
        k = g.k;
        q = g.q;
        owner = g.owner;
        w = i.w;
        inside = record { unit_is = i.unit_is; shown_is = i.shown_is; own = all_one (IsEarly m.types) i.w.own (λ t j. one_all (IsEarly m.types) U.own t early (i.lies t j)) };
        receives = i.is;
        parameters = g.parameters ∙ ap (λ o. self_parameters g.h o (Some g.k) ++ g.q.parameters) s.1;
        are = makes.1;
        result = g.result;
        method = g.m;
        name = g.name;
        called = g.h.name;
        matches = λ never.
            let a = g.matches never in
            record {
              w = record U { own = a.own };
              inside = inside a.own (are_early shown tree out named quiet differ a.own a.early);
              found = a.found;
              kind = a.kind;
              match = ap (λ o. signatures_match (map_of (record U { own = a.own })) (Some g.m.signature) (signature_if o)) (sym g.has) ∙ a.match;
            };
      }

pub headed : (shown : QName → Option Desc) (tree : Tree) (m : TypedModule) → ShowBases shown tree.name.name → all_true (map is_named_plainly tree.decls) ≡ true → checked shown tree ≡ Some m → AreDistinct (λ t. t.name) m.types → AllByRecursion (λ d. decl_named d ≡ true) tree.decls →
    AllByRecursion (λ (p : TypedProcedure). (b : Binding) → p.binding ≡ Some b → IsHeading shown m p b) m.procedures
headed shown tree m bases plainly e differ named =
    let k = unbroken_is (parts shown tree).notes.broken (M shown tree) m e in
    let out : is_out (M shown tree).name ≡ false = ap (λ (x : TypedModule). is_out x.name) k.1 ∙ not_out shown tree m e in
    let apart : AreDistinct (λ t. t.name) (M shown tree).types = subst (λ (x : TypedModule). AreDistinct (λ t. t.name) x.types) (sym k.1) differ in
    subst (λ (x : TypedModule). AllByRecursion (λ (p : TypedProcedure). (b : Binding) → p.binding ≡ Some b → IsHeading shown x p b) x.procedures) k.1
    (all_of (λ (p : TypedProcedure). (b : Binding) → p.binding ≡ Some b → IsBoundBy (hs shown tree out).around (heads shown tree out) p b) (λ (p : TypedProcedure). (b : Binding) → p.binding ≡ Some b → IsHeading shown (M shown tree) p b) (M shown tree).procedures
    (λ p h b i. heading shown tree out named k.0 apart p b (h b i))
    (procedures_match shown tree (M shown tree) bases plainly (e ∙ ap (λ (x : TypedModule). Some x) (sym k.1)) apart named))
