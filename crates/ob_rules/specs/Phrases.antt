-- What the rules ask of an expression before it is judged, and what a designator comes to.
use Rattle.std.specs.Prelude.{ℕ, Bool, true, false, ◌||◌, List, [], ◌∷◌, Option, Some, None}
use Rattle.ob_tree.specs.declared.pos.Pos.{Pos}
use Rattle.ob_tree.specs.declared.names.QName.{QName}
use Rattle.ob_tree.specs.declared.ident.Ident.{Ident}
use Rattle.ob_tree.specs.declared.ident.Qualident.{Qualident}
use Rattle.ob_types.specs.declared.types.TypeRef.{TypeRef}
use Rattle.ob_types.specs.declared.types.Signature.{Signature}
use Rattle.ob_types.specs.declared.typed.Designator.TheVariants as d
use Rattle.ob_types.specs.declared.value.Value.{Value}
use Rattle.ob_types.specs.declared.desc.Method.{Method}
use Rattle.ob_types.specs.declared.typed.OutProcedure.{OutProcedure}
use Rattle.ob_types.specs.declared.typed.TypedStmt.{TypedStmt}
use Rattle.ob_rules.specs.declared.meant.Chosen.{Chosen}
use Rattle.ob_rules.specs.declared.meant.Meant.{Meant}
use Rattle.ob_rules.specs.declared.meant.Where.{Where}
use Rattle.ob_rules.specs.declared.meant.Meant.TheVariants as means
use Rattle.ob_rules.specs.declared.meant.Where.TheVariants.{InExpression, AsStatement, Elsewhere}
use Rattle.ob_rules.specs.declared.broken.Predeclared.{Predeclared}
use Rattle.ob_rules.specs.Judged.{Judged}
use Rattle.ob_rules.specs.Names.{Around}
use Rattle.ob_rules.specs.declared.values.Place.{Place}
use Rattle.ob_rules.specs.declared.values.Valued.{Valued}

-- what a place points to, dereferenced at that position; by a selector that is written, or without one
abbrev pub dereferenced : Place → Pos → TypeRef → Bool → Place
dereferenced p at t written = record { designator = record { inner = d.Deref p.designator.inner at t }; of = t; root = p.root; selected = p.selected || written; read_only = false; var_record = false; guarded = false }

-- the place itself, or what it points to as the receiver of a call that begins there
abbrev pub record_receiver : Pos → Place → Option TypeRef → Place
record_receiver start p None = p
record_receiver start p (Some t) = dereferenced p start t false

-- the record that is the receiver of a bound procedure
abbrev pub receiver_place : Chosen → Place
receiver_place c = record_receiver c.start c.receiver c.pointed

-- an expression: its first symbol; the qualified name that it is, if it is one; what it comes to, if it is a designator; its value
pub record Phrase : Type 0 where
  pub start : Pos
  pub name : Option Qualident
  pub meant : Option (Around → Judged Meant)
  pub value : Around → Judged Valued

-- a selector with its judged parts
pub data Behind : Type 0 where
  Dot : (at : Pos) → (x : Ident) → Behind
  Index : (at : Pos) → (i : Phrase) → Behind
  Up : (at : Pos) → Behind
  Round : (at : Pos) → (xs : List Phrase) → Behind
