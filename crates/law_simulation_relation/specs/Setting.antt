-- A program in an image, and what it means that words stand for a state.
use Rattle.std.specs.Prelude.{◌≡◌, ℕ, ◌≤◌, Bool, true, List, ℤ}
use Rattle.ob_tree.specs.declared.names.QName.{QName}
use Rattle.ob_instr.specs.Image as image
use Rattle.ob_instr.specs.Image.{Image, World, End}
use Rattle.ob_meaning.specs.Values.{Program, Active, AnObject, State, Formals}
use Rattle.ob_meaning.specs.Results.{Why, Trapped, Spent}
use Rattle.law_simulation_relation.specs.Layout.{module_number}
use Rattle.law_simulation_relation.specs.Relation.{ModulesOk, StandsIn, StandsAt}

-- a program in an image, with a heap of so many words, and the words behind the globals of its modules
pub record Setting : Type 0 where
  pub program : Program
  -- whether a procedure may be the value of a variable of the procedure type with these parameters and this result
  pub has : Formals → QName → Bool
  pub img : Image
  pub heap : ℕ
  pub behind : List ℤ
  pub ok : ModulesOk program program
  pub globals : img.room.globals ≡ 262144
  pub stack : img.room.stack ≡ 1048576
  pub activations : img.room.activations ≡ 4096
  pub operands : img.room.operands ≡ 256
  pub heap_few : heap ≤ 4194304

abbrev pub has_of : Setting → Formals → QName → Type 0
has_of c fs q = c.has fs q ≡ true

module _ (c : Setting) where
  abbrev pub Stands : State → World → Type 0
  Stands s w = StandsIn c.program (has_of c) c.img c.heap c.behind s.calls s w

  abbrev pub StandIn : List Active → State → World → Type 0
  StandIn cs s w = StandsIn c.program (has_of c) c.img c.heap c.behind cs s w

  abbrev pub Kept : List Active → ℕ → List AnObject → State → World → Type 0
  Kept cs b os s w = StandsAt c.program (has_of c) c.img c.heap c.behind cs b os s w

  -- how the machine ends where the meaning stops so
  abbrev pub stopped : Why → End
  stopped (Trapped kind number unit at) = image.Trapped kind number (module_number c.program unit) at
  stopped (Spent unit at) = image.Spent (module_number c.program unit) at
