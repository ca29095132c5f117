-- What the name at the front of a designator comes to.
use Rattle.std.specs.Prelude.{Option}
use Rattle.ob_tree.specs.declared.ident.Ident.{Ident}
use Rattle.ob_rules.specs.declared.meant.Meant.{Meant}
use Rattle.ob_rules.specs.Judged.{Judged, made, ◌▷◌}
use Rattle.ob_rules.specs.Names.{Around, named}
use Rattle.ob_rules.specs.Designators.{front_of, is_module}
use Rattle.ob_cexpr_designator.specs.declared.front.Front.{Front}

-- what it comes to, and whether the name behind its dot belongs to it
abbrev pub front_judged : Around → Ident → Option Ident → Judged Front
front_judged u x dot = named u x ▷ λ k. made (λ m. record { meant = m; with_name = is_module k }) (front_of u x k dot)
