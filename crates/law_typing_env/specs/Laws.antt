-- What the laws say: the maps of a module have to do with the program.
use Rattle.std.specs.Prelude.{◌≡◌, List, None}
use Rattle.ob_tree.specs.declared.print.Print.{Print}
use Rattle.ob_types.specs.Relations.{IsGrounded}
use Rattle.ob_types.specs.TypedSyntax.{Module}
use Rattle.ob_meaning.specs.Values.{Program}
use Rattle.ob_layout.specs.LaidOut.{viewed}
use Rattle.ob_env.specs.Faces.{Face, described}
use Rattle.ob_rules.specs.Names.{Around, map_of, out_string}
use Rattle.law_typing_forms.specs.Formed.{Formed}
use Rattle.law_typing_forms.specs.Said.{IsOneOf, IsSound}
use Rattle.law_typing_forms.specs.Whole.{IsWhole}
use Rattle.law_typing_env.specs.Ages.{AreShown}
use Rattle.law_typing_env.specs.Views.{IsAround}
use Rattle.law_typing_env.specs.Sized.{IsSized, Describes}

-- the map that the rules have around a part of a module
abbrev pub RuledIsFormed : Type 0
RuledIsFormed = (program : Program) → IsSound program → IsWhole program → (faces : List (Face Print)) (u : Around) → IsAround program faces u → Formed (map_of u) program

-- the map that a module's code is made with
abbrev pub ViewedIsFormed : Type 0
ViewedIsFormed = (program : Program) → IsSound program → IsWhole program → (faces : List (Face Print)) → AreShown program faces → (m : Module) → IsOneOf program m → Formed (viewed (described faces) m) program

-- what code takes from it, where it is grounded and has nothing of Out
abbrev pub ViewedDescribes : Type 0
ViewedDescribes = (program : Program) → IsSound program → IsWhole program → IsSized program → (faces : List (Face Print)) → AreShown program faces → (m : Module) → IsOneOf program m → IsGrounded (viewed (described faces) m) → viewed (described faces) m out_string ≡ None → Describes (viewed (described faces) m) program
