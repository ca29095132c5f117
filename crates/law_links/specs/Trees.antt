-- What a module that compiles names of other modules.
use Rattle.std.specs.Prelude.{◌≡◌}
use Rattle.std.specs.List.{AllByRecursion}
use Rattle.ob_env.specs.Faces.{text_in}
use Rattle.ob_uses.specs.Made.{face_of_laid}
use Rattle.ob_compile_model.specs.Compiling.{Compiled}
use Rattle.law_load_plan.specs.Compiled.{Text, is_variable, is_procedure, is_record, AreLinksUsed}
use Rattle.law_links_names.specs.Trees.{StmtsNamed}
use Rattle.law_links.specs.Linked.{types_of, IsCounted, IsTypeCounted}

-- What the statements of a module that compiles name of other modules counts, and is of the kind that it is named as; and so do the
-- bases of its record types.
pub record IsTreeCounted (c : Compiled Text) : Type 0 where
  pub body : StmtsNamed (types_of c) c.tree.name (IsCounted is_variable c) (IsCounted is_procedure c) (IsCounted is_record c) c.tree.body
  pub procedures : AllByRecursion (λ p. StmtsNamed (types_of c) c.tree.name (IsCounted is_variable c) (IsCounted is_procedure c) (IsCounted is_record c) p.body) c.tree.procedures
  pub bases : AllByRecursion (λ t. IsTypeCounted c t.desc) c.tree.types

-- Then the links of its object file name what it uses.
abbrev pub LinksFollowTrees : Type 0
LinksFollowTrees = (c : Compiled Text) → c.shows ≡ face_of_laid (text_in c.against) c.against c.tree → IsTreeCounted c → AreLinksUsed c
