-- The predeclared names, by their kinds.
use Rattle.std.specs.Prelude.{ℕ, true, false, List, [], ◌∷◌, ◌++◌, codes}
use Rattle.ob_types.specs.declared.types.Basic.{Basic}
use Rattle.ob_types.specs.declared.types.Basic.TheVariants as basic
use Rattle.ob_types.specs.declared.types.TypeRef.TheVariants as ref
use Rattle.ob_types.specs.declared.value.Value.TheVariants as literal
use Rattle.ob_rules.specs.declared.entity.Known.{Known}
use Rattle.ob_rules.specs.declared.entity.Entity.TheVariants as entity
use Rattle.ob_rules.specs.declared.broken.Predeclared.{Predeclared}
use Rattle.ob_rules.specs.declared.broken.Predeclared.TheVariants as pre
use Rattle.ob_rules.specs.Names.{a, predeclared}

abbrev pub a_type : List ℕ → Basic → Known
a_type x b = a x (entity.TypeName (ref.Basic b))

abbrev pub a_procedure : List ℕ → Predeclared → Known
a_procedure x p = a x (entity.Predeclared p)

unfoldable pub types : List Known
types = a_type (codes "BOOLEAN") basic.Boolean ∷ a_type (codes "CHAR") basic.Char ∷ a_type (codes "SHORTINT") basic.ShortInt ∷ a_type (codes "INTEGER") basic.Integer ∷ a_type (codes "LONGINT") basic.LongInt ∷ a_type (codes "SET") basic.Set ∷ []

unfoldable pub constants : List Known
constants = a (codes "TRUE") (entity.Constant (literal.Bool true)) ∷ a (codes "FALSE") (entity.Constant (literal.Bool false)) ∷ []

unfoldable pub early_functions : List Known
early_functions = a_procedure (codes "ABS") pre.Abs ∷ a_procedure (codes "ASH") pre.Ash ∷ a_procedure (codes "CAP") pre.Cap ∷ a_procedure (codes "CHR") pre.Chr ∷ a_procedure (codes "LEN") pre.Len ∷ a_procedure (codes "LONG") pre.Long ∷ []

unfoldable pub late_functions : List Known
late_functions = a_procedure (codes "MAX") pre.Max ∷ a_procedure (codes "MIN") pre.Min ∷ a_procedure (codes "ODD") pre.Odd ∷ a_procedure (codes "ORD") pre.Ord ∷ a_procedure (codes "SHORT") pre.Short ∷ []

unfoldable pub proper : List Known
proper = a_procedure (codes "ASSERT") pre.Assert ∷ a_procedure (codes "COPY") pre.Copy ∷ a_procedure (codes "DEC") pre.Dec ∷ a_procedure (codes "EXCL") pre.Excl ∷ a_procedure (codes "HALT") pre.Halt ∷ a_procedure (codes "INC") pre.Inc ∷ a_procedure (codes "INCL") pre.Incl ∷ a_procedure (codes "NEW") pre.New ∷ []

unfoldable pub left_out : List Known
left_out = a (codes "REAL") entity.LeftOut ∷ a (codes "LONGREAL") entity.LeftOut ∷ a (codes "ENTIER") entity.LeftOut ∷ a (codes "SIZE") entity.LeftOut ∷ []

abbrev pub all : List Known
all = types ++ (constants ++ (early_functions ++ (late_functions ++ (proper ++ (left_out ++ [])))))

-- all of them
unfoldable pub predeclared_names : List Known
predeclared_names = predeclared
