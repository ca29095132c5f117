-- A record type of a program is declared as one, and has a descriptor among those of its module.
use Rattle.std.proofs.Common.{◌≡◌, ◌⊎◌, inl, inr, ℕ, zero, suc, List, [], ◌∷◌, ◌++◌, map, Option, Some, None, refl, sym, ap, ◌∙◌, subst}
use Rattle.std.specs.Prelude.{Bool, true, false, bytes_eq, if◌then◌else◌}
use Rattle.ob_tree.specs.declared.names.QName.{QName}
use Rattle.ob_types.specs.declared.types.TypeRef.{TypeRef}
use Rattle.ob_types.specs.declared.types.TypeRef.TheVariants as ref
use Rattle.ob_types.specs.declared.desc.Desc.{Desc}
use Rattle.ob_types.specs.declared.desc.Desc.TheVariants as desc
use Rattle.ob_types.specs.declared.desc.RecordDesc.{RecordDesc}
use Rattle.ob_types.specs.declared.typed.TypedType.{TypedType}
use Rattle.ob_types.specs.TypedSyntax.{Module}
use Rattle.ob_meaning.specs.Values.{Program, Form, RecordForm, Fields, form_within, described, description, type_named}
use Rattle.ob_scheme.specs.Context.{is_record, records_among}
use Rattle.law_simulation_relation.specs.Relation.{OrElse}
use Rattle.law_image_links.proofs.TypeNumbers.{IsName}

abbrev first_name : QName → Form → QName
first_name q (RecordForm (p ∷ line) fs) = p
first_name q t = q

-- the first type of a record type's line is declared as a record type
pub declared_record : (types : QName → Option Desc) (n : ℕ) (t : TypeRef) (p : QName) (line : List QName) (fs : Fields) → form_within types n t ≡ RecordForm (p ∷ line) fs → (r : RecordDesc) × (types p ≡ Some (desc.Record r))
declared_record types zero (ref.Basic b) p line fs e = absurd (cc)
declared_record types zero (ref.Named q) p line fs e = absurd (cc)
declared_record types (suc n) (ref.Basic b) p line fs e = absurd (cc)
declared_record types (suc n) (ref.Named q) p line fs e = go (types q) refl e (λ t f. declared_record types n t p line fs f)
  where
    go : (o : Option Desc) → types q ≡ o → described (form_within types n) q o ≡ RecordForm (p ∷ line) fs → ((t : TypeRef) → form_within types n t ≡ RecordForm (p ∷ line) fs → (r : RecordDesc) × (types p ≡ Some (desc.Record r))) → (r : RecordDesc) × (types p ≡ Some (desc.Record r))
    go (Some (desc.Alias m t)) f e more = more t e
    go (Some (desc.Record r)) f e more = (r, ap types (sym (ap (first_name q) e)) ∙ f)
    go o f e more = absurd (cc)

-- what is declared in the modules of a program with one more
pub description_two : (ms : Program) (m : Module) (q : QName) (d : Desc) → description (ms ++ m ∷ []) q ≡ Some d → (description ms q ≡ Some d) ⊎ ((bytes_eq q.«module» m.name ≡ true) × (type_named m.types q.object ≡ Some d))
description_two [] m q d e = go (bytes_eq q.«module» m.name) refl e
  where
    go : (b : Bool) → bytes_eq q.«module» m.name ≡ b → (if b then type_named m.types q.object else None) ≡ Some d → (description [] q ≡ Some d) ⊎ ((bytes_eq q.«module» m.name ≡ true) × (type_named m.types q.object ≡ Some d))
    go true f e = inr (f, e)
    go false f e = absurd (cc)
description_two (k ∷ ms) m q d e = go (bytes_eq q.«module» k.name) e (λ f. description_two ms m q d f)
  where
    go : (b : Bool) → (if b then type_named k.types q.object else description (ms ++ m ∷ []) q) ≡ Some d → (description (ms ++ m ∷ []) q ≡ Some d → (description ms q ≡ Some d) ⊎ ((bytes_eq q.«module» m.name ≡ true) × (type_named m.types q.object ≡ Some d))) → ((if b then type_named k.types q.object else description ms q) ≡ Some d) ⊎ ((bytes_eq q.«module» m.name ≡ true) × (type_named m.types q.object ≡ Some d))
    go true e more = inl e
    go false e more = more e

pub declared_name : (ts : List TypedType) (x : List ℕ) (r : RecordDesc) → type_named ts x ≡ Some (desc.Record r) → IsName (map (λ t. t.name) (records_among ts)) x
declared_name [] x r e = absurd (cc)
declared_name (t ∷ ts) x r e = go (bytes_eq x t.name) refl t.desc e (λ f. declared_name ts x r f)
  where
    rest : List (List ℕ)
    rest = map (λ t. t.name) (records_among ts)

    go : (b : Bool) → bytes_eq x t.name ≡ b → (d : Desc) → (if b then Some d else type_named ts x) ≡ Some (desc.Record r) → (type_named ts x ≡ Some (desc.Record r) → IsName rest x) → IsName (map (λ t. t.name) (if is_record d then t ∷ records_among ts else records_among ts)) x
    go true f (desc.Record s) e more = subst (λ b. OrElse b (Unit {0}) (IsName rest x)) (sym f) tt
    go true f d e more = absurd (cc)
    go false f (desc.Record s) e more = subst (λ b. OrElse b (Unit {0}) (IsName rest x)) (sym f) (more e)
    go false f d e more = more e
