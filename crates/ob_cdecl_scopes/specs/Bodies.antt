-- Names that are put aside, and what stands around the body of a procedure.
use Rattle.std.specs.Prelude.{ℕ, suc, ◌-◌, false, nat_le, List, [], ◌++◌, length, drop, Option}
use Rattle.std.specs.List.{filter}
use Rattle.ob_types.specs.declared.types.TypeRef.{TypeRef}
use Rattle.ob_rules.specs.declared.entity.Known.{Known}
use Rattle.ob_rules.specs.declared.entity.Received.{Received}
use Rattle.ob_rules.specs.Names.{Around}
use Rattle.ob_cdecl_scopes.specs.declared.inside.Inside.{Inside}
use Rattle.ob_cdecl_scopes.specs.declared.inside.Outside.{Outside}

-- the names that are put aside, the latest first
abbrev pub names_in : Inside → List Known
names_in i = i.names.items

-- those of the scopes up to n
abbrev pub outer_names : ℕ → List Known → List Known
outer_names n ks = filter (λ k. nat_le k.scope n) ks

-- what stands around the body of a procedure, where it is known what stands behind its heading
abbrev pub body_around : Around → List Known → List ℕ → Option Received → Option TypeRef → Around
body_around u inside path receiver of = record u {
  known = inside ++ u.known;
  scope = suc u.scope;
  level = suc u.scope;
  path = path;
  later_types = [];
  guards = [];
  receiver = receiver;
  result = of;
  in_loop = false;
}

-- what stands around behind the body
abbrev pub restored : Outside → Around → Around
restored o v = record v {
  own = drop (length v.own - o.own) v.own;
  known = drop (length v.known - o.known) v.known;
  scope = v.scope - 1;
  level = o.level;
  path = o.path;
  later_types = o.later_types;
  guards = o.guards.items;
  receiver = o.receiver;
  result = o.result_type;
  in_loop = o.in_loop;
}
