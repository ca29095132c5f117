-- The names of procedures in a text that is read, and in a source that compiles.
use Rattle.std.specs.Prelude.{◌≡◌, ℕ, true, false, List, map, Option, Ok, bytes_eq}
use Rattle.std.specs.List.{IsDistinct}
use Rattle.ob_tree.specs.declared.decl.Module.{Module as Tree}
use Rattle.ob_env.specs.Faces.{Face}
use Rattle.ob_env_walk.specs.Walk.{Entry, Holds}
use Rattle.ob_rules.specs.Names.{is_out}
use Rattle.ob_parse_grammar.specs.TextReading.{reading}
use Rattle.ob_compile_model.specs.Compiling.{Compiled, compiled, texts}
use Rattle.law_names_procedures.specs.Procedures.{all_true, is_named_plainly}

-- The procedures of a module that is read are named without stops and strokes.
abbrev pub HeadingsAreNamed : Type 0
HeadingsAreNamed = (text : List ℕ) (tree : Tree) → reading text ≡ Ok tree → all_true (map is_named_plainly tree.decls) ≡ true

-- each name has an interface of that name, or none
abbrev pub AreEntriesNamed : (List ℕ → Entry (List ℕ)) → Type 0
AreEntriesNamed entry = (m : List ℕ) (f : Face (List ℕ)) → entry m ≡ Holds f → f.«module» ≡ m

-- a module is not named Out, and its procedures have different names
pub record AreNamedApart (c : Compiled (List ℕ)) : Type 0 where
  pub out : is_out c.tree.name ≡ false
  pub procedures : IsDistinct bytes_eq (map (λ p. p.name) c.tree.procedures)

-- So it is of a module that compiles.
abbrev pub CompiledNamesDiffer : Type 0
CompiledNamesDiffer = (entry : List ℕ → Entry (List ℕ)) → AreEntriesNamed entry → (source : Option (List ℕ)) (c : Compiled (List ℕ)) → compiled texts entry source ≡ Ok c → AreNamedApart c
