-- Members of records as they are copied.
use Rattle.ob_rules.specs.Shapes.{Member as AMember, AField, AMethod}
use Rattle.ob_cexpr_name.specs.declared.shapes.Member.{Member}
use Rattle.ob_cexpr_name.specs.declared.shapes.Member.TheVariants as member

abbrev pub member_seen : Member → AMember
member_seen (member.Field owner f) = AField owner f
member_seen (member.Method owner m) = AMethod owner m
