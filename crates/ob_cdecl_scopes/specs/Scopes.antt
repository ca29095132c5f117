-- What stands around, as a scope keeps it.
use Rattle.std.specs.Prelude.{ℕ, List, [], Option, None, false}
use Rattle.ob_tree.specs.declared.names.QName.{QName}
use Rattle.ob_types.specs.declared.desc.Desc.{Desc}
use Rattle.ob_rules.specs.Names.{Around}
use Rattle.ob_cdecl_scopes.specs.Predeclaring.{predeclared_names}
use Rattle.ob_cdecl_scopes.specs.declared.scope.Scope.{Scope}

abbrev pub around_of : {E : Type 0} → (E → QName → Option Desc) → Scope E → Around
around_of shown s = record {
  unit = s.unit;
  shown = shown s.imported.now;
  own = s.own;
  known = s.known;
  scope = s.scope;
  level = s.level;
  path = s.path;
  later_types = s.later_types;
  coming = s.coming;
  bound = s.bound;
  guards = s.guards.items;
  receiver = s.receiver;
  result = s.result_type;
  in_loop = s.in_loop;
}

-- no name is known yet
abbrev pub at_start : List ℕ → (QName → Option Desc) → Around
at_start unit shown = record {
  unit = unit;
  shown = shown;
  own = [];
  known = [];
  scope = 0;
  level = 1;
  path = [];
  later_types = [];
  coming = [];
  bound = [];
  guards = [];
  receiver = None;
  result = None;
  in_loop = false;
}

-- a module begins: the predeclared names are known, around the module's scope
abbrev pub at_module : List ℕ → (QName → Option Desc) → Around
at_module unit shown = record (at_start unit shown) { known = predeclared_names; scope = 1 }
