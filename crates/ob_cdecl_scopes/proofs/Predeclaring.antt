-- The predeclared names are those of the kinds together, all of the scope 0.
use Rattle.std.proofs.Common.{◌≡◌, true, refl}
use Rattle.ob_rules.specs.Names.{predeclared}
use Rattle.ob_cdecl_scopes.specs.Descending.{are_within}
use Rattle.ob_cdecl_scopes.specs.Predeclaring.{all, types, constants, early_functions, late_functions, proper, left_out, predeclared_names}

pub all_of_them : all ≡ predeclared_names
unfolding types constants early_functions late_functions proper left_out predeclared_names
all_of_them = refl

pub predeclared_are : predeclared_names ≡ predeclared
unfolding predeclared_names
predeclared_are = refl

pub within_one : are_within 1 predeclared_names ≡ true
unfolding predeclared_names
within_one = refl
