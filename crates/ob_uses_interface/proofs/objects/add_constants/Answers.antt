use Rattle.std.proofs.Common.{List, [], ◌∷◌, refl, map}
use Rattle.std.specs.List.{filter}
use Rattle.ob_types.specs.declared.typed.TypedConstant.{TypedConstant}
use Rattle.ob_desc.specs.Grammar.{is_shown}
use Rattle.ob_uses_interface.specs.Entries.{entry_of}
use Rattle.ob_uses.specs.Objects.{constant_object}
use Rattle.ob_uses.proofs.Looping.{one_more, all_done}
use Rattle.ob_uses_interface.proofs.Objecting.{entries_cons}
use Rattle.ob_uses_interface.proofs.objects.add_constants.Goals as goal

pub constants-preserved : goal.constants-preserved
constants-preserved c =
    one_more (λ (x : TypedConstant). map (entry_of c.args.«module».now) (map constant_object (filter (λ (c : TypedConstant). is_shown c.mark) (x ∷ [])))) (λ (xs : List TypedConstant). map (entry_of c.args.«module».now) (map constant_object (filter (λ (c : TypedConstant). is_shown c.mark) (xs)))) (λ x xs. entries_cons c.args.«module».now constant_object (λ (c : TypedConstant). is_shown c.mark) (x) (xs))
    c.args.constants.now c.constants.constant-index c.constant-item.result c.constants.found.items c.add_constant.new.found.items _ c.constants-test.true c.constant-item.is c.in_ok-add_constant.ensures c.constants.invariant

pub returns : goal.returns
returns c = all_done (λ (xs : List TypedConstant). map (entry_of c.args.«module».now) (map constant_object (filter (λ (c : TypedConstant). is_shown c.mark) (xs)))) refl c.args.constants.now c.constants.constant-index c.constants.found.items _ c.constants-test.false c.constants.invariant
