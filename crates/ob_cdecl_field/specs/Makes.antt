-- What types and parameters make, as the definitions have it.
use Rattle.ob_cdecl_field.specs.declared.made.Typed.{Typed}
use Rattle.ob_cdecl_field.specs.declared.made.Parameters.{Parameters as Made}
use Rattle.ob_rules.specs.Types.{Typing, Parameters}

abbrev pub typing_of : Typed → Typing
typing_of t = record { of = t.of; made = t.made }

abbrev pub parameters_of : Made → Parameters
parameters_of p = record { signature = p.signature; parameters = p.parameters; made = p.made }
