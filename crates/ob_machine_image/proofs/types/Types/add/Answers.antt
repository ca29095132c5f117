use Rattle.std.proofs.Common.{◌≡◌, ◌+◌, ◌<◌, ◌++◌, List, ◌∷◌, [], IsOk, length, map, vec_len, vec_capacity, ap, sym, subst, refl, ◌∙◌, arith}
use Rattle.std.specs.Prelude.{IfSome}
use Rattle.std.proofs.lemmas.List.{length-append, length-map}
use Rattle.ob_tdesc.specs.declared.descriptor.Descriptor.{Descriptor}
use Rattle.ob_tdesc.specs.Tables.{declared}
use Rattle.ob_machine_image.specs.Names.{name_of}
use Rattle.ob_machine_image.proofs.Bases.{bases_added}
use Rattle.ob_machine_image.specs.Index.{Notes, IsIndexed}
use Rattle.ob_machine_image.proofs.Indexing.{indexed_more, names_more}
use Rattle.ob_machine_image.proofs.Entering.{pushed}
use Rattle.ob_machine_image.proofs.types.Types.add.Goals as goal

pub invariant_of-self-2 : goal.invariant_of-self-2
invariant_of-self-2 c =
    let old = c.self.inside.table.list in
    let d = declared old c.args.d in
    let list : c.add.new.self.list ≡ old ++ d ∷ [] = ap (λ t. t.list) c.add.ensures.after ∙ ap (λ t. t.list ++ declared t.list c.args.d ∷ []) c.in_ok-reserve.ensures.ok in
    let base : IfSome d.base (λ b. b < length old) = subst (λ l. IfSome d.base (λ b. b < length l)) (sym c.self.view_is) c.requires.base in
    let few : length old + 1 < 4294967296 = subst (λ (l : List Descriptor). length l + 1 < 4294967296) (sym c.self.view_is) c.requires.few in
    let object : c.in_ok-object.object ≡ d.name = c.in_ok-object.ensures.cases in
    let unit : c.in_ok-module.«module» ≡ d.«module» = c.in_ok-module.ensures in
    let room : vec_len c.reserve-2.new.self < vec_capacity c.reserve-2.new.self = omega (arith, c.in_ok-reserve-2.ensures.ok) in
    let ok : IsOk c.push.result = c.push.ensures.succeeds room in
    let names : c.push.new.self.items ≡ map name_of old ++ name_of d ∷ [] = c.push.ensures.items ∙ pushed c.push.result _ _ ok ∙ rw (c.reserve-2.ensures.items, c.self.invariant.0, object, unit) refl in
    let number : c.len-2.result ≡ length old = c.len-2.ensures ∙ c.reserve-2.ensures.len ∙ c.self.inside.names.ok.0 ∙ ap length c.self.invariant.0 ∙ length-map old name_of in
    let before = c.self.inside.index.modules in
    let after = c.note.new.self.modules in
    let notes : Notes before after (name_of d) (length old) = subst (λ n. Notes before after (name_of d) n) number (subst (λ m. Notes before after (record { «module» = m; object = d.name }) c.len-2.result) unit (subst (λ o. Notes before after (record { «module» = c.in_ok-module.«module»; object = o }) c.len-2.result) object c.in_ok-note.ensures.ok)) in (
      names ∙ sym (ap (map name_of) list ∙ names_more old d),
      rw list (omega (arith, few, length-append old (d ∷ []))),
      rw list (bases_added old d c.self.invariant.2 base),
      subst (IsIndexed after) (sym list) (indexed_more before after old d c.self.invariant.3 notes),
    )
