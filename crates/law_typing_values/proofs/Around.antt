-- The procedures that may be values, as they are asked for around a part of a text.
use Rattle.std.proofs.Common.{◌≡◌, true, List, [], ◌∷◌, Option, subst}
use Rattle.ob_tree.specs.declared.names.QName.{QName}
use Rattle.ob_types.specs.declared.types.Mode.{Mode}
use Rattle.ob_types.specs.declared.types.TypeRef.{TypeRef}
use Rattle.ob_types.specs.declared.desc.Desc.{Desc}
use Rattle.law_typing.specs.Forms.{AreKnown}
use Rattle.law_typing_values.specs.Valued.{values}
use Rattle.law_typing_values.specs.Laws.{AreDeclared}
use Rattle.law_typing_values.specs.Around.{ValuesAround}
use Rattle.law_typing_values.proofs.Equal.{matching_are_alike}
use Rattle.law_typing_values.proofs.Values.{values_are_made}

params_declared : (map : QName → Option Desc) (ks : List (Mode × TypeRef)) → AreKnown map ks → AreDeclared ks
params_declared map [] a = tt
params_declared map (k ∷ ks) a = (a.0.0, params_declared map ks a.1)

-- THE LAW
pub values_around : ValuesAround
values_around program map typed formed = record {
  values = λ q s i k v. values_are_made program typed q s i v;
  alike = λ q s t i k l v e. subst (λ fs. values program fs q ≡ true) (matching_are_alike program map formed s t (params_declared map s.params k.params) (params_declared map t.params l.params) e) (values_are_made program typed q s i v);
}
