-- A place that is not noted as guarded is no guarded pointer.
use Rattle.std.proofs.Common.{◌≡◌, sym, subst, ℕ, Option, Bool, false}
use Rattle.ob_tree.specs.declared.pos.Pos.{Pos}
use Rattle.ob_tree.specs.declared.names.QName.{QName}
use Rattle.ob_types.specs.declared.types.TypeRef.{TypeRef}
use Rattle.ob_types.specs.declared.desc.Field.{Field}
use Rattle.ob_types.specs.declared.typed.Variable.{Variable}
use Rattle.ob_types.specs.declared.typed.Guarded.{Guarded}
use Rattle.ob_types.specs.declared.typed.Guarded.TheVariants as guarded
use Rattle.ob_types.specs.TypedSyntax.{Guard}
use Rattle.ob_types.specs.TypedView.{designator_view}
use Rattle.ob_types.proofs.TypedViews.{view_variable, view_field, view_index, view_deref, view_guard}
use Rattle.law_simulation_relation.specs.Passed.{IsUnguarded}
use Rattle.ob_rules.specs.declared.values.Place.{Place}
use Rattle.ob_rules.specs.declared.values.Valued.{Valued}
use Rattle.ob_rules.specs.Names.{Around}
use Rattle.ob_rules.specs.Phrases.{dereferenced}
use Rattle.ob_rules.specs.Values.{tree}
use Rattle.ob_rules.specs.Designators.{variable_at, guarded_by, is_pointer_guard, indexed, field_of}
use Rattle.law_typing.specs.Meant.{GuardIs}
use Rattle.law_typing.proofs.Basics.{not_true}

pub variable_unguarded : (v : Variable) (t : TypeRef) (read_only : Bool) → GuardIs (variable_at v t read_only)
variable_unguarded v t read_only e = subst IsUnguarded (sym (view_variable v t)) tt

pub field_unguarded : (u : Around) (p : Place) (o : QName) (f : Field) → GuardIs (field_of u p o f)
field_unguarded u p o f e = subst IsUnguarded (sym (view_field p.designator.inner o f.name f.of)) tt

pub index_unguarded : (p : Place) (at : Pos) (x : Valued) (a : Option ℕ × TypeRef) → GuardIs (indexed p at x a)
index_unguarded p at x a e = subst IsUnguarded (sym (view_index p.designator.inner a.0 (tree x) at a.1)) tt

pub deref_unguarded : (p : Place) (at : Pos) (t : TypeRef) (written : Bool) → GuardIs (dereferenced p at t written)
deref_unguarded p at t written e = subst IsUnguarded (sym (view_deref p.designator.inner at t)) tt

pub guard_unguarded : (p : Place) (g : Guarded × QName) (t : TypeRef) (at : Pos) (written : Bool) → GuardIs (guarded_by p g t at written)
guard_unguarded p g t at written e = subst IsUnguarded (sym (view_guard p.designator.inner g.0 g.1 at t)) (by g.0 e)
  where
    by : (k : Guarded) → is_pointer_guard k ≡ false → IsUnguarded (Guard (designator_view p.designator.inner) k g.1 at t)
    by guarded.Pointer e = not_true (sym e)
    by guarded.Record e = tt
