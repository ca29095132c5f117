-- Types that the rules take for equal are of one form, and procedure types whose signatures match are one.
use Rattle.std.proofs.Common.{List, [], ◌∷◌}
use Rattle.ob_types.specs.declared.types.Mode.{Mode}
use Rattle.ob_types.specs.declared.types.TypeRef.{TypeRef}
use Rattle.law_typing_forms.proofs.Shapes.{same_form}
use Rattle.law_typing_forms.proofs.Alike as alike
use Rattle.law_typing_forms.proofs.Alike.{equal_form, alike_formals}
use Rattle.law_typing_values.specs.Laws.{EqualAreForms, AreDeclared, MatchingAreAlike}

pub equal_are_forms : EqualAreForms
equal_are_forms program map formed = record {
  same = λ t u e. same_form map program formed t u e;
  equal = λ t u d c e. equal_form map program formed 201 t u d c e;
}

each_declared : (ks : List (Mode × TypeRef)) → AreDeclared ks → alike.AreDeclared ks
each_declared [] h = tt
each_declared (k ∷ ks) h = (h.0, each_declared ks h.1)

pub matching_are_alike : MatchingAreAlike
matching_are_alike program map formed s t h k e = alike_formals map program formed s t (each_declared s.params h) (each_declared t.params k) e
