-- Sequences of declarations with their statements, as they are judged.
use Rattle.std.specs.Prelude.{List, [], map}
use Rattle.ob_tree.specs.declared.decl.Decl.{Decl}
use Rattle.ob_tree.specs.declared.stmt.Stmt.{Stmt}
use Rattle.ob_rules.specs.Names.{Around}
use Rattle.ob_rules.specs.Statements.{judging}
use Rattle.ob_rules.specs.Declarations.{Contents, Part, declaration, block}

-- a sequence of declarations with its statements
abbrev pub block_of : List Decl → List Stmt → Around → Part
block_of ds body u = block (map declaration ds) (map judging body) u

-- without the types of the module level
abbrev pub unbound : Contents → Contents
unbound c = record c { bound = [] }
