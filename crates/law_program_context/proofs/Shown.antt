-- What the interfaces of full modules show of constants and lengths is in range.
use Rattle.std.proofs.Common.{◌≡◌, ⊎_elim, refl, subst, ℕ, List, [], ◌∷◌, ◌++◌, map as each, Option, Some, None, true}
use Rattle.std.specs.Prelude.{pos}
use Rattle.std.specs.Option.{option_map}
use Rattle.std.specs.List.{AllByRecursion, filter}
use Rattle.ob_tree.specs.declared.names.QName.{QName}
use Rattle.ob_types.specs.declared.types.TypeRef.{TypeRef}
use Rattle.ob_types.specs.declared.value.Value.TheVariants as literal
use Rattle.ob_types.specs.declared.desc.Desc.{Desc}
use Rattle.ob_types.specs.declared.desc.Desc.TheVariants as desc
use Rattle.ob_types.specs.declared.typed.TypedConstant.{TypedConstant}
use Rattle.ob_types.specs.declared.typed.TypedType.{TypedType}
use Rattle.ob_types.specs.Maps.{is_type}
use Rattle.ob_types.specs.TypedSyntax.{Module}
use Rattle.ob_meaning.specs.Values.{Program}
use Rattle.ob_desc.specs.Grammar.{is_shown, seen}
use Rattle.ob_layout.specs.LaidOut.{laid_desc, laid_type, words_in, procedures_in}
use Rattle.ob_env.specs.Faces.{Face, described}
use Rattle.ob_env.specs.Shown.{blank, shown}
use Rattle.ob_uses.specs.Closed.{is_among}
use Rattle.ob_uses_roots.specs.Counts.{own_name}
use Rattle.ob_uses.specs.Objects.{is_exported, constant_object, variable_object, procedure_object, in_places, type_object, types_among, reached_types, by_name, objects_of}
use Rattle.law_typing_forms.specs.Said.{IsOneOf}
use Rattle.law_typing_env.specs.Ages as ages
use Rattle.law_typing_env.proofs.Shown.{one_joined, one_filtered, one_mapped, one_ordered, object_found, face_found}
use Rattle.law_typing.specs.Known.{ConstantIs}
use Rattle.law_body_context.specs.Knows.{LengthIs, IsDescribed}
use Rattle.law_body_context.proofs.Lists.{one_all}
use Rattle.law_program_context.specs.ShownLaws.{IsFull, FullAreShown, LaidAreFull}

-- what a description says of constants and lengths
abbrev DescFits : Desc → Type 0
DescFits (desc.Const v) = ConstantIs v
DescFits (desc.Array m n t) = ConstantIs (literal.Int (pos n))
DescFits d = Unit {0}

type_fits : (d : Desc) → is_type d ≡ true → LengthIs ConstantIs d → DescFits (seen (in_places d))
type_fits (desc.Const v) t h = absurd cc
type_fits (desc.Var m u) t h = tt
type_fits (desc.Proc s) t h = tt
type_fits (desc.Alias m u) t h = tt
type_fits (desc.Array m n u) t h = h.0
type_fits (desc.OpenArray m u) t h = tt
type_fits (desc.Pointer m u) t h = tt
type_fits (desc.ProcType m s) t h = tt
type_fits (desc.Record r) t h = tt

blank_fits : (d : Desc) → DescFits d → DescFits (blank d)
blank_fits (desc.Const v) h = h
blank_fits (desc.Var m u) h = h
blank_fits (desc.Proc s) h = h
blank_fits (desc.Alias m u) h = h
blank_fits (desc.Array m n u) h = h
blank_fits (desc.OpenArray m u) h = h
blank_fits (desc.Pointer m u) h = h
blank_fits (desc.ProcType m s) h = h
blank_fits (desc.Record r) h = h

object_fits : (m : Module) → IsFull m → (o : List ℕ × Desc) → IsOneOf (objects_of m) o → DescFits o.1
object_fits m full o j =
    let cs = each constant_object (filter (λ c. is_shown c.mark) m.constants) in
    let vs = each variable_object (filter (λ v. is_shown v.mark) m.variables) in
    let ps = each procedure_object (filter is_exported m.procedures) in
    let ts = each type_object (types_among m (reached_types m)) in
    ⊎_elim
    (λ k. ⊎_elim
    (λ k. ⊎_elim
    (λ k.
    let x = one_mapped constant_object (filter (λ c. is_shown c.mark) m.constants) o k in
    subst (λ (o : List ℕ × Desc). DescFits o.1) x.1.1 (one_all (λ (c : TypedConstant). ConstantIs c.value) m.constants x.0 full.constants (one_filtered (λ c. is_shown c.mark) m.constants x.0 x.1.0)))
    (λ k. let x = one_mapped variable_object (filter (λ v. is_shown v.mark) m.variables) o k in subst (λ (o : List ℕ × Desc). DescFits o.1) x.1.1 tt)
    (one_joined cs vs o k))
    (λ k. let x = one_mapped procedure_object (filter is_exported m.procedures) o k in subst (λ (o : List ℕ × Desc). DescFits o.1) x.1.1 tt)
    (one_joined (cs ++ vs) ps o k))
    (λ k.
    let x = one_mapped type_object (types_among m (reached_types m)) o k in
    let d = one_all (IsDescribed ConstantIs) m.types x.0 full.types (one_filtered (λ t. is_among (reached_types m) (own_name m t)) m.types x.0 x.1.0) in
    subst (λ (o : List ℕ × Desc). DescFits o.1) x.1.1 (type_fits x.0.desc d.type d.length))
    (one_joined ((cs ++ vs) ++ ps) ts o (one_ordered by_name (((cs ++ vs) ++ ps) ++ ts) o j))

module _ (program : Program) (faces : List (Face (List ℕ))) (age : ages.AreShown program faces) (full : AllByRecursion IsFull program) where
  described_fits : (q : QName) (d : Desc) → described faces q ≡ Some d → DescFits d
  described_fits q d e =
      let f = face_found faces q d e in
      let s = one_all (λ f. ages.IsShownBy program f) faces f.f age f.there in
      object_fits s.m (one_all IsFull program s.m full s.there) (q.object, d) (subst (λ os. IsOneOf os (q.object, d)) s.objects (object_found f.f.objects q.object d f.object))

  shown_fits : (q : QName) (d : Desc) → shown faces q ≡ Some d → DescFits d
  shown_fits q d e = by (described faces q) refl e
    where
      by : (o : Option Desc) → described faces q ≡ o → option_map blank o ≡ Some d → DescFits d
      by None g h = absurd cc
      by (Some c) g h = let k : blank c ≡ d = cc in subst DescFits k (blank_fits c (described_fits q c g))

pub full_are_shown : FullAreShown
full_are_shown program faces age full = record { constants = λ q v e. shown_fits program faces age full q (desc.Const v) e; lengths = λ q m n t e. shown_fits program faces age full q (desc.Array m n t) e }

laid_fits : (words procedures : TypeRef → ℕ) (q : QName) (d : Desc) → (is_type d ≡ true) × LengthIs ConstantIs d → (is_type (laid_desc words procedures q d) ≡ true) × LengthIs ConstantIs (laid_desc words procedures q d)
laid_fits w p q (desc.Const v) h = h
laid_fits w p q (desc.Var m u) h = h
laid_fits w p q (desc.Proc s) h = h
laid_fits w p q (desc.Alias m u) h = h
laid_fits w p q (desc.Array m n u) h = h
laid_fits w p q (desc.OpenArray m u) h = h
laid_fits w p q (desc.Pointer m u) h = h
laid_fits w p q (desc.ProcType m s) h = h
laid_fits w p q (desc.Record r) h = (refl, tt)

all_laid : (types : QName → Option Desc) (m : Module) (ts : List TypedType) → AllByRecursion (IsDescribed ConstantIs) ts → AllByRecursion (IsDescribed ConstantIs) (each (laid_type types m) ts)
all_laid types m [] h = tt
all_laid types m (t ∷ ts) h =
    let r = laid_fits (words_in types m) (procedures_in types m) (record { «module» = m.name; object = t.name }) t.desc (h.0.type, h.0.length) in
    (record { type = r.0; length = r.1 }, all_laid types m ts h.1)

pub laid_are_full : LaidAreFull
laid_are_full types m full = record { constants = full.constants; types = all_laid types m m.types full.types }
