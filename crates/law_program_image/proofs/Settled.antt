-- Each type of a sound program is what its declaration says.
use Rattle.std.proofs.Common.{◌≡◌, Option, Some, None, refl, sym, ap, subst, ◌∙◌}
use Rattle.std.specs.Prelude.{true, false, IfSome, MatchOption}
use Rattle.ob_tree.specs.declared.names.QName.{QName}
use Rattle.ob_types.specs.declared.types.TypeRef.{TypeRef}
use Rattle.ob_types.specs.declared.types.TypeRef.TheVariants as ref
use Rattle.ob_types.specs.declared.desc.Desc.TheVariants as desc
use Rattle.ob_types.specs.declared.desc.RecordDesc.{RecordDesc}
use Rattle.ob_types.specs.Relations.{StandsFor, itself, is_alias, Is, is_open, is_record}
use Rattle.ob_types.proofs.Targets.{unique}
use Rattle.ob_meaning.specs.Values.{Program, own_fields, description, form_in, record_in}
use Rattle.law_simulation_relation.specs.Relation.{FormOk}
use Rattle.law_simulation_relation.specs.Typed.{IsRecordForm}
use Rattle.law_typing_forms.specs.Said.{IsSound}
use Rattle.law_typing_forms.proofs.Within.{form_described}
use Rattle.law_typing_forms.proofs.Built.{Found, found, record_base, built}
use Rattle.law_image_tables.specs.Settled.{IsSettled}
use Rattle.law_program_image.specs.Laws.{SoundAreSettled}

module _ (program : Program) (sound : IsSound program) where
  -- a record type is no open array
  not_open : (q : QName) (r : RecordDesc) → description program q ≡ Some (desc.Record r) → Is (description program) is_open (ref.Named q) → ⊥
  not_open q r e h = by (found program sound is_open (ref.Named q) h)
    where
      by : Found program sound is_open (ref.Named q) → ⊥
      by x =
          let own : StandsFor (description program) (ref.Named q) (ref.Named q) = itself (subst (λ o. MatchOption o (Unit {0}) (λ d. is_alias d ≡ false)) (sym e) refl) in
          let same : ref.Named q ≡ ref.Named x.q = unique (description program) own x.stands in
          let n : q ≡ x.q = cc in
          let d : Some (desc.Record r) ≡ Some x.d = sym e ∙ ap (description program) n ∙ x.has in
          let k : desc.Record r ≡ x.d = cc in
          let bad : false ≡ true = ap is_open k ∙ x.is in
          absurd cc

  record_fits : (q : QName) (r : RecordDesc) → description program q ≡ Some (desc.Record r) → FormOk program (record_in program q)
  record_fits q r e = let n = sound.ends q (desc.Record r) e in built program sound n.0 (ref.Named q) n.1 (not_open q r e)

  base_is : (b : Option TypeRef) → IfSome b (Is (description program) is_record) → IfSome b (λ t. IsRecordForm (form_in program t))
  base_is None h = tt
  base_is (Some t) h = record_base program sound t h

  record_settled : (q : QName) (r : RecordDesc) → description program q ≡ Some (desc.Record r) → IsSettled program q r
  record_settled q r e = record {
    own = own_fields (form_in program) q r.fields;
    is = form_described program sound q (desc.Record r) e;
    base = base_is r.base (sound.keeps q (desc.Record r) e).0;
    fits = record_fits q r e;
  }

pub sound_are_settled : SoundAreSettled
sound_are_settled program sound = record {
  aliases = λ q m t e. form_described program sound q (desc.Alias m t) e;
  records = record_settled program sound;
}
