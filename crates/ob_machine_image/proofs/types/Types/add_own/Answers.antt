use Rattle.std.proofs.Common.{◌≡◌, ◌++◌, ◌∷◌, [], ap, sym, subst, ◌∙◌}
use Rattle.std.specs.Prelude.{OnOk}
use Rattle.std.specs.List.Sorted.{IsStrictlySortedBy}
use Rattle.ob_tdesc.specs.declared.descriptor.Descriptor.{Descriptor}
use Rattle.ob_tdesc.specs.declared.declaration.Declaration.{Declaration}
use Rattle.ob_tdesc.specs.Tables.{by_number as by_method, declared}
use Rattle.ob_machine_image.proofs.Declaring.{declared_is, methods_rise}
use Rattle.ob_machine_image.proofs.types.Types.add_own.Goals as goal

pub add-requires-clause-rising : goal.add-requires-clause-rising
add-requires-clause-rising c = subst (IsStrictlySortedBy by_method) (sym (ap Declaration.methods c.in_ok-d.ensures)) (methods_rise c.args.number c.args.own.now.definitions c.requires.rising)

pub returns-clause-ok : goal.returns-clause-ok
returns-clause-ok c =
    let old = c.args.self.now in
    let d = ap (declared old) c.in_ok-d.ensures ∙ declared_is c.args.«module» c.args.first c.args.links.now c.args.number old c.args.own.now in
    subst (λ (x : Descriptor). OnOk c.add.result (c.add.new.self ≡ old ++ x ∷ [])) d c.add.ensures.ok
