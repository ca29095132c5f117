-- The map of the types of a checked module says what the program declares.
use Rattle.std.proofs.Common.{◌≡◌, inl, refl, sym, ap, subst, ◌∙◌, ℕ, Bool, true, false, List, Option, Some, None}
use Rattle.std.specs.Prelude.{bytes_eq}
use Rattle.std.specs.Option.{option_map}
use Rattle.ob_tree.specs.declared.names.QName.{QName}
use Rattle.ob_tree.specs.declared.ident.Mark.TheVariants as mark
use Rattle.ob_tree.specs.declared.decl.Module.{Module as Tree}
use Rattle.ob_types.specs.declared.types.Basic.TheVariants as basic
use Rattle.ob_types.specs.declared.types.TypeRef.TheVariants as ref
use Rattle.ob_types.specs.declared.desc.Desc.{Desc}
use Rattle.ob_types.specs.declared.desc.Desc.TheVariants as desc
use Rattle.ob_types.specs.declared.typed.TypedModule.{TypedModule}
use Rattle.ob_types.specs.TypedSyntax.{Module}
use Rattle.ob_types.specs.TypedView.{module_view}
use Rattle.ob_meaning.specs.Values.{Program, description}
use Rattle.ob_layout.specs.LaidOut.{laid_type, laid_out}
use Rattle.ob_env.specs.Faces.{Face, described}
use Rattle.ob_env.specs.Shown.{shown, blank}
use Rattle.ob_rules.specs.Shapes.{same_name}
use Rattle.ob_rules.specs.Names.{type_desc, out_string}
use Rattle.law_simulation_relation.proofs.Names.{bytes_true}
use Rattle.law_typing_forms.specs.Said.{IsOneOf, IsSaid, IsSound}
use Rattle.law_typing_forms.specs.Whole.{IsWhole}
use Rattle.law_typing_forms.proofs.Modules.{type_there}
use Rattle.law_typing_env.specs.Ages.{AreShown}
use Rattle.law_typing_env.proofs.Shown.{described_said}
use Rattle.law_typing_env.proofs.Views.{one_each, own_found, checked_said, blank_said}
use Rattle.law_acyclic.specs.Laws.{around_types, types_of}

module _ (program : Program) (sound : IsSound program) (whole : IsWhole program) (faces : List (Face (List ℕ))) (age : AreShown program faces) (m : Module) (there : IsOneOf program m) (types : QName → Option Desc) (t : TypedModule) (is : m ≡ laid_out types (module_view t)) (tree : Tree) (unit : tree.name.name ≡ m.name) where
  pub types_said : (q : QName) (d : Desc) → types_of (shown faces) tree t q ≡ Some d → IsSaid program q d
  types_said q d e = by (bytes_eq q.«module» tree.name.name) (same_name q out_string) refl refl e
    where
      shown_said : (o : Option Desc) → described faces q ≡ o → option_map blank o ≡ Some d → IsSaid program q d
      shown_said None f e = absurd cc
      shown_said (Some x) f e = let k : blank x ≡ d = cc in subst (λ d. IsSaid program q d) k (blank_said program sound q x (described_said program sound whole faces age q x f))

      by : (a b : Bool) → bytes_eq q.«module» tree.name.name ≡ a → same_name q out_string ≡ b → type_desc a b (around_types (shown faces) tree t) q ≡ Some d → IsSaid program q d
      by true b n s e =
          let k = own_found t.types q.object d e in
          let laid = laid_type types (module_view t) k.t in
          let in_m : IsOneOf m.types laid = subst (λ ts. IsOneOf ts laid) (sym (ap (λ (k : Module). k.types) is)) (one_each (laid_type types (module_view t)) t.types k.t k.there) in
          let at : description program (record { «module» = m.name; object = k.t.name }) ≡ Some laid.desc = type_there program whole m laid there in_m in
          let name : q.«module» ≡ m.name = bytes_true q.«module» tree.name.name n ∙ unit in
          let at_q : description program q ≡ Some laid.desc = ap (λ (x : List ℕ). description program (let p : QName = record { «module» = x; object = q.object } in p)) name ∙ ap (λ (x : List ℕ). description program (let p : QName = record { «module» = m.name; object = x } in p)) (sym k.name) ∙ at in
          subst (λ d. IsSaid program q d) k.desc (checked_said program sound types (module_view t) q (record { «module» = (module_view t).name; object = k.t.name }) k.t.desc at_q)
      by false true n s e = let k : desc.OpenArray mark.Hidden (ref.Basic basic.Char) ≡ d = cc in subst (λ d. IsSaid program q d) k (inl (s, refl))
      by false false n s e = shown_said (described faces q) refl e
