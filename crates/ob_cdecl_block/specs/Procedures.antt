-- Procedures in turn, each with its heading as it is kept.
use Rattle.std.specs.Prelude.{◌≡◌, ◌≤◌, ◌+◌, ℕ, false, List, [], ◌∷◌, ◌++◌, length, drop, Option, Some, None, Vec, codes}
use Rattle.std.specs.Option.{option_map}
use Rattle.std.specs.declared.alloc.Global.{Global}
use Rattle.ob_tree.specs.declared.decl.Decl.{Decl}
use Rattle.ob_tree.specs.declared.stmt.Stmt.{Stmt}
use Rattle.ob_tree.specs.declared.ident.Ident.{Ident}
use Rattle.ob_types.specs.declared.typed.Binding.{Binding}
use Rattle.ob_types.specs.declared.typed.TypedParameter.{TypedParameter}
use Rattle.ob_types.specs.declared.typed.TypedVariable.{TypedVariable}
use Rattle.ob_types.specs.declared.typed.TypedStmt.{TypedStmt}
use Rattle.ob_types.specs.declared.typed.TypedProcedure.{TypedProcedure}
use Rattle.ob_rules.specs.declared.entity.Known.{Known}
use Rattle.ob_rules.specs.Judged.{no_notes}
use Rattle.ob_rules.specs.Shapes.{Map, member}
use Rattle.ob_rules.specs.Names.{Around}
use Rattle.ob_rules.specs.Headings.{Head, BoundAs, self_parameter}
use Rattle.ob_rules.specs.Declarations.{Part, Written_procedure, no_part, no_contents, procedures_judged, procedure_judged, procedure_part, around_body, received_by, result_in, binding_of, typed_procedure}
use Rattle.ob_cdecl_scopes.specs.Bodies.{names_in, body_around}
use Rattle.ob_cdecl_field.specs.Makes.{parameters_of}
use Rattle.ob_cdecl_heading.specs.declared.head.Head.{Head as Kept}
use Rattle.ob_cdecl_heading.specs.Kept.{bound_seen}
use Rattle.ob_cdecl_block.specs.declared.opened.Opened.{Opened}
use Rattle.ob_cdecl_block.specs.Blocks.{block_of}
use Rattle.ob_cdecl_block.specs.Steps.{procedures_in}

-- what is around, with the names that are put aside
abbrev pub whole : Around → Vec Known Global → Around
whole u aside = record u { known = aside.items ++ u.known }

-- the heading's names are of the scope in the scope n, and there are as many names as it is behind
pub record IsReady (n : ℕ) (known : List Known) (h : Kept) : Type 0 where
  pub scope : h.inside.scope ≡ n + 1
  pub behind : h.behind ≤ length known

abbrev pub AreReady : ℕ → List Known → List Kept → Type 0
AreReady n known [] = Unit {0}
AreReady n known (h ∷ hs) = IsReady n known h × AreReady n known hs

-- what is known behind the heading is known here, behind later names
pub record IsBehind (known : List Known) (h : Head) : Type 0 where
  pub later : List Known
  pub is : known ≡ later ++ h.known

abbrev pub AreBehind : List Known → List Head → Type 0
AreBehind known [] = Unit {0}
AreBehind known (h ∷ hs) = IsBehind known h × AreBehind known hs

-- the procedures of the declarations, with their headings
abbrev pub judged_from : Around → List Decl → List Head → Part
judged_from u ds hs = procedures_judged u (procedures_in ds) hs

-- the first procedure, if there is one
abbrev pub judged_with : Around → Written_procedure → List Head → Part
judged_with u p [] = no_part
judged_with u p (h ∷ hs) = procedure_judged u p h p.forward

abbrev pub judged_first : Around → Option Written_procedure → List Head → Part
judged_first u None hs = no_part
judged_first u (Some p) hs = judged_with u p hs

-- the headings behind that of the procedure
abbrev pub behind_first : {A : Type 0} → Option Written_procedure → List A → List A
behind_first None hs = hs
behind_first (Some p) hs = drop 1 hs

-- a procedure with that heading
abbrev pub procedure_inside : Around → Head → List Decl → List Stmt → Ident → Part
procedure_inside u h ds body closing = procedure_part u h (Some closing) (block_of ds body (around_body u h))

-- what is left of a heading while its procedure is judged
abbrev pub left_of : Opened → Head
left_of o = record {
  at = o.at;
  name = o.name;
  forward = false;
  is_bound = false;
  bound = option_map bound_seen o.bound;
  mark = o.mark;
  path = o.path;
  self = o.receiver;
  parameters = option_map parameters_of o.parameters;
  notes = no_notes;
  inside = [];
  known = [];
}

abbrev pub blank : Head → Head
blank h = record h { forward = false; is_bound = false; notes = no_notes; inside = []; known = [] }

-- what is around inside a procedure, whose heading is kept so
abbrev pub entered : Around → Kept → Around
entered u h = body_around u (names_in h.inside) (h.path ++ codes "/") (received_by h.receiver (option_map bound_seen h.bound)) (result_in (option_map parameters_of h.parameters))

-- the procedure of that name that is bound so
abbrev pub bound_by : Map → List ℕ → Option BoundAs → Option Binding
bound_by types x None = None
bound_by types x (Some b) = binding_of b.owner b (member types b.owner x)

-- the parameters with the receiver before them
abbrev pub with_self : Option Ident → Option BoundAs → List TypedParameter → List TypedParameter
with_self (Some x) (Some b) ps = self_parameter x b ∷ ps
with_self x b ps = ps

-- a procedure of these locals and this body
abbrev pub typed_with : Map → Head → List TypedVariable → List TypedStmt → List TypedProcedure
typed_with types h locals body = typed_procedure types h h.parameters (record no_contents { variables = locals; body = body })
