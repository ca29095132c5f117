-- What a description names and keeps, what is seen of it names and keeps too, and so it does without places and numbers.
use Rattle.std.proofs.Common.{◌≡◌, true, List, [], ◌∷◌, ◌++◌, map as each, Option, Some, None, refl, ap, ◌∙◌}
use Rattle.std.specs.Prelude.{IfSome}
use Rattle.std.specs.List.{filter, flat_map, AllByRecursion}
use Rattle.ob_tree.specs.declared.names.QName.{QName}
use Rattle.ob_types.specs.declared.types.TypeRef.{TypeRef}
use Rattle.ob_types.specs.declared.desc.Desc.{Desc}
use Rattle.ob_types.specs.declared.desc.Desc.TheVariants as desc
use Rattle.ob_types.specs.declared.desc.Field.{Field}
use Rattle.ob_types.specs.declared.desc.Method.{Method}
use Rattle.ob_types.specs.Maps.{is_type, listed, signature_types, named_by, IsHeld}
use Rattle.ob_types.specs.Relations.{Is, is_open, is_record, is_structure, IsPlainResult, Keeps}
use Rattle.ob_desc.specs.Grammar.{is_shown, by_place, seen}
use Rattle.ob_layout.specs.Lists.{in_order}
use Rattle.ob_env.specs.Shown.{unplaced, unnumbered, blank}
use Rattle.ob_uses.specs.Objects.{in_places, shown_types}
use Rattle.law_spelling.proofs.Lists.{all_filtered, all_flat, all_in_order}
use Rattle.law_typing_env.specs.Near.{core}
use Rattle.law_typing_env.proofs.Keeping.{record_kind, structure_kind, open_kind, Says, kind_forward, kind_held, structure_type}
use Rattle.law_builds_types.proofs.closed_laws.Lists.{sifted, all_parts}
use Rattle.law_lists.proofs.Lists.{all_back, all_both, all_each, all_from, all_front, all_made}

abbrev Map : Type 0
Map = QName → Option Desc

-- ---- without places and numbers

pub blank_type : (d : Desc) → is_type (blank d) ≡ is_type d
blank_type (desc.Const v) = refl
blank_type (desc.Var m t) = refl
blank_type (desc.Proc s) = refl
blank_type (desc.Alias m t) = refl
blank_type (desc.Array m n t) = refl
blank_type (desc.OpenArray m t) = refl
blank_type (desc.Pointer m t) = refl
blank_type (desc.ProcType m s) = refl
blank_type (desc.Record r) = refl

pub blank_core : (d : Desc) → core (blank d) ≡ core d
blank_core (desc.Const v) = refl
blank_core (desc.Var m t) = refl
blank_core (desc.Proc s) = refl
blank_core (desc.Alias m t) = refl
blank_core (desc.Array m n t) = refl
blank_core (desc.OpenArray m t) = refl
blank_core (desc.Pointer m t) = refl
blank_core (desc.ProcType m s) = refl
blank_core (desc.Record r) = refl

fields_same : (fs : List Field) → each (λ f. f.of) (each unplaced fs) ≡ each (λ f. f.of) fs
fields_same [] = refl
fields_same (f ∷ fs) = ap (λ ts. f.of ∷ ts) (fields_same fs)

methods_same : (ms : List Method) → flat_map (λ m. signature_types m.signature) (each unnumbered ms) ≡ flat_map (λ m. signature_types m.signature) ms
methods_same [] = refl
methods_same (m ∷ ms) = ap (λ ts. signature_types m.signature ++ ts) (methods_same ms)

pub blank_named : (d : Desc) → named_by (blank d) ≡ named_by d
blank_named (desc.Const v) = refl
blank_named (desc.Var m t) = refl
blank_named (desc.Proc s) = refl
blank_named (desc.Alias m t) = refl
blank_named (desc.Array m n t) = refl
blank_named (desc.OpenArray m t) = refl
blank_named (desc.Pointer m t) = refl
blank_named (desc.ProcType m s) = refl
blank_named (desc.Record r) =
    ap (λ ts. (listed r.base ++ ts) ++ flat_map (λ m. signature_types m.signature) (each unnumbered r.methods)) (fields_same r.fields)
    ∙ ap (λ ts. (listed r.base ++ each (λ f. f.of) r.fields) ++ ts) (methods_same r.methods)

pub keeps_blank : (map : Map) (d : Desc) → Keeps map d → Keeps map (blank d)
keeps_blank map (desc.Const v) h = h
keeps_blank map (desc.Var m t) h = h
keeps_blank map (desc.Proc s) h = h
keeps_blank map (desc.Alias m t) h = h
keeps_blank map (desc.Array m n t) h = h
keeps_blank map (desc.OpenArray m t) h = h
keeps_blank map (desc.Pointer m t) h = h
keeps_blank map (desc.ProcType m s) h = h
keeps_blank map (desc.Record r) h = (
  h.0,
  (
    all_each unplaced (λ f. Is map is_open f.of → ⊥) r.fields h.1.0,
    all_each unnumbered (λ m. IsPlainResult map m.signature) r.methods h.1.1,
  ),
)

-- ---- what is seen

pub keeps_seen : (map : Map) (d : Desc) → Keeps map d → Keeps map (seen (in_places d))
keeps_seen map (desc.Const v) h = h
keeps_seen map (desc.Var m t) h = h
keeps_seen map (desc.Proc s) h = h
keeps_seen map (desc.Alias m t) h = h
keeps_seen map (desc.Array m n t) h = h
keeps_seen map (desc.OpenArray m t) h = h
keeps_seen map (desc.Pointer m t) h = h
keeps_seen map (desc.ProcType m s) h = h
keeps_seen map (desc.Record r) h =
    let F : Field → Type 0 = λ f. Is map is_open f.of → ⊥ in
    let M : Method → Type 0 = λ m. IsPlainResult map m.signature in
    let fs = in_order by_place r.fields in (
      h.0,
      (
        all_filtered (λ f. is_shown f.mark) F fs (all_from F (λ f. is_shown f.mark ≡ true → F f) (λ f k i. k) fs (all_in_order by_place F r.fields h.1.0)),
        all_filtered (λ m. is_shown m.mark) M r.methods (all_from M (λ m. is_shown m.mark ≡ true → M m) (λ m k i. k) r.methods h.1.1),
      ),
    )

-- a type shows no more than it names
pub shown_less : (P : TypeRef → Type 0) (d : Desc) → is_type d ≡ true → AllByRecursion P (named_by d) → AllByRecursion P (shown_types d)
shown_less P (desc.Const v) ty h = tt
shown_less P (desc.Var m t) ty h = tt
shown_less P (desc.Proc s) ty h = tt
shown_less P (desc.Alias m t) ty h = h
shown_less P (desc.Array m n t) ty h = h
shown_less P (desc.OpenArray m t) ty h = h
shown_less P (desc.Pointer m t) ty h = h
shown_less P (desc.ProcType m s) ty h = h
shown_less P (desc.Record r) ty h =
    let F : Field → Type 0 = λ f. P f.of in
    let M : Method → Type 0 = λ m. AllByRecursion P (signature_types m.signature) in
    let front = all_front P (listed r.base ++ each (λ f. f.of) r.fields) (flat_map (λ m. signature_types m.signature) r.methods) h in
    let bound = all_back P (listed r.base ++ each (λ f. f.of) r.fields) (flat_map (λ m. signature_types m.signature) r.methods) h in
    let fields : AllByRecursion F r.fields = all_made (λ (f : Field). f.of) P r.fields (all_back P (listed r.base) (each (λ f. f.of) r.fields) front) in
    let methods : AllByRecursion M r.methods = all_parts (λ (m : Method). signature_types m.signature) P r.methods (λ ys zs k. (all_front P ys zs k, all_back P ys zs k)) bound in
    let fs = filter (λ f. is_shown f.mark) r.fields in
    let ms = filter (λ m. is_shown m.mark) r.methods in
    all_both P (listed r.base ++ each (λ f. f.of) fs) (flat_map (λ m. signature_types m.signature) ms)
    (all_both P (listed r.base) (each (λ f. f.of) fs) (all_front P (listed r.base) (each (λ f. f.of) r.fields) front)
    (all_each (λ (f : Field). f.of) P fs (all_filtered (λ f. is_shown f.mark) F r.fields (all_from F (λ f. is_shown f.mark ≡ true → F f) (λ f k i. k) r.fields fields))))
    (all_flat (λ (m : Method). signature_types m.signature) P ms (all_filtered (λ m. is_shown m.mark) M r.methods (all_from M (λ m. is_shown m.mark ≡ true → M m) (λ m k i. k) r.methods methods)))

-- what is seen of a type names what the type shows
pub seen_named : (P : TypeRef → Type 0) (d : Desc) → is_type d ≡ true → AllByRecursion P (shown_types d) → AllByRecursion P (named_by (seen (in_places d)))
seen_named P (desc.Const v) ty h = absurd cc
seen_named P (desc.Var m t) ty h = absurd cc
seen_named P (desc.Proc s) ty h = absurd cc
seen_named P (desc.Alias m t) ty h = h
seen_named P (desc.Array m n t) ty h = h
seen_named P (desc.OpenArray m t) ty h = h
seen_named P (desc.Pointer m t) ty h = h
seen_named P (desc.ProcType m s) ty h = h
seen_named P (desc.Record r) ty h =
    let F : Field → Type 0 = λ f. P f.of in
    let fs = filter (λ f. is_shown f.mark) r.fields in
    let ms = filter (λ m. is_shown m.mark) r.methods in
    let ordered = filter (λ f. is_shown f.mark) (in_order by_place r.fields) in
    let front = all_front P (listed r.base ++ each (λ f. f.of) fs) (flat_map (λ m. signature_types m.signature) ms) h in
    let fields : AllByRecursion F fs = all_made (λ (f : Field). f.of) P fs (all_back P (listed r.base) (each (λ f. f.of) fs) front) in
    all_both P (listed r.base ++ each (λ f. f.of) ordered) (flat_map (λ m. signature_types m.signature) ms)
    (all_both P (listed r.base) (each (λ f. f.of) ordered) (all_front P (listed r.base) (each (λ f. f.of) fs) front)
    (all_each (λ (f : Field). f.of) P ordered (all_filtered (λ f. is_shown f.mark) F (in_order by_place r.fields) (all_in_order by_place (λ f. is_shown f.mark ≡ true → F f) r.fields (sifted (λ f. is_shown f.mark) F r.fields fields)))))
    (all_back P (listed r.base ++ each (λ f. f.of) fs) (flat_map (λ m. signature_types m.signature) ms) h)

-- ---- a map that says of each type what a larger one does, perhaps without members of records

open_type : (d : Desc) → is_open d ≡ true → is_type d ≡ true
open_type (desc.Const v) e = absurd cc
open_type (desc.Var m t) e = absurd cc
open_type (desc.Proc s) e = absurd cc
open_type (desc.Alias m t) e = absurd cc
open_type (desc.Array m n t) e = absurd cc
open_type (desc.OpenArray m t) e = refl
open_type (desc.Pointer m t) e = absurd cc
open_type (desc.ProcType m s) e = absurd cc
open_type (desc.Record r) e = absurd cc

module _ (small large : Map) (says : (q : QName) (d : Desc) → small q ≡ Some d → is_type d ≡ true → (e : Desc) × ((large q ≡ Some e) × Says e d)) (held : (q : QName) (d : Desc) → small q ≡ Some d → AllByRecursion (λ t. IsHeld small t) (named_by d)) where
  closed : (t : TypeRef) → (Is large is_open t → ⊥) → Is small is_open t → ⊥
  closed t n h = n (kind_forward small large says held is_open open_kind open_type t h)

  plain : (o : Option TypeRef) → IfSome o (λ t. Is large is_structure t → ⊥) → IfSome o (λ t. Is small is_structure t → ⊥)
  plain None k = tt
  plain (Some t) k = λ h. k (kind_forward small large says held is_structure structure_kind (structure_type small large says held) t h)

  base : (o : Option TypeRef) → AllByRecursion (λ t. IsHeld small t) (listed o) → IfSome o (Is large is_record) → IfSome o (Is small is_record)
  base None h k = tt
  base (Some t) h k = kind_held small large says held is_record record_kind t h.0 k

  -- what a description keeps by the larger map it keeps by the smaller
  pub keeps_smaller : (d : Desc) → AllByRecursion (λ t. IsHeld small t) (named_by d) → Keeps large d → Keeps small d
  keeps_smaller (desc.Const v) h k = tt
  keeps_smaller (desc.Var m t) h k = closed t k
  keeps_smaller (desc.Proc s) h k = plain s.result k
  keeps_smaller (desc.Alias m t) h k = closed t k
  keeps_smaller (desc.Array m n t) h k = closed t k
  keeps_smaller (desc.OpenArray m t) h k = closed t k
  keeps_smaller (desc.Pointer m t) h k = kind_held small large says held is_structure structure_kind t h.0 k
  keeps_smaller (desc.ProcType m s) h k = plain s.result k
  keeps_smaller (desc.Record r) h k =
      let front = all_front (λ t. IsHeld small t) (listed r.base ++ each (λ f. f.of) r.fields) (flat_map (λ m. signature_types m.signature) r.methods) h in (
        base r.base (all_front (λ t. IsHeld small t) (listed r.base) (each (λ f. f.of) r.fields) front) k.0,
        (
          all_from (λ f. Is large is_open f.of → ⊥) (λ f. Is small is_open f.of → ⊥) (λ f n. closed f.of n) r.fields k.1.0,
          all_from (λ m. IsPlainResult large m.signature) (λ m. IsPlainResult small m.signature) (λ m n. plain m.signature.result n) r.methods k.1.1,
        ),
      )
