-- A module whose bodies name no variables but those of their procedures and of modules.
use Rattle.std.specs.Prelude.{Option}
use Rattle.std.specs.List.{AllByRecursion}
use Rattle.ob_tree.specs.declared.names.QName.{QName}
use Rattle.ob_types.specs.declared.desc.Desc.{Desc}
use Rattle.ob_types.specs.TypedSyntax.{Procedure, Module}
use Rattle.ob_scheme.specs.Procedures.{body_of, within}
use Rattle.law_image_code.specs.There.{StmtsThere}

-- the local variables and the parameters that the body of a procedure names are its own, and FOR has steps other than 0
abbrev pub BodyIsScoped : (QName → Option Desc) → Module → Procedure → Type 0
BodyIsScoped types m p = StmtsThere (within types m p) p.body

-- so it is of all procedures of the module, and of its body
pub record BodiesAreScoped (types : QName → Option Desc) (m : Module) : Type 0 where
  pub procedures : AllByRecursion (BodyIsScoped types m) m.procedures
  pub body : BodyIsScoped types m (body_of m)
