-- The name of a type names one that stands.
use Rattle.std.proofs.Common.{◌≡◌, refl, sym, ap, ◌∙◌, subst, ℕ, Bool, true, false, List, Option, Some, None}
use Rattle.std.specs.Prelude.{bytes_eq, codes, ◌&&◌}
use Rattle.ob_tree.specs.declared.pos.Pos.{Pos}
use Rattle.ob_tree.specs.declared.names.QName.{QName}
use Rattle.ob_tree.specs.declared.ident.Ident.{Ident}
use Rattle.ob_tree.specs.declared.ident.Mark.{Mark}
use Rattle.ob_tree.specs.declared.ident.Mark.TheVariants as mark
use Rattle.ob_tree.specs.declared.ident.Qualident.{Qualident}
use Rattle.ob_types.specs.declared.types.TypeRef.{TypeRef}
use Rattle.ob_types.specs.declared.types.TypeRef.TheVariants as ref
use Rattle.ob_types.specs.declared.value.Value.{Value}
use Rattle.ob_types.specs.declared.desc.Desc.{Desc}
use Rattle.ob_types.specs.declared.desc.Desc.TheVariants as desc
use Rattle.ob_types.specs.declared.typed.OutProcedure.{OutProcedure}
use Rattle.ob_rules.specs.declared.entity.Entity.{Entity}
use Rattle.ob_rules.specs.declared.entity.Entity.TheVariants as entity
use Rattle.ob_rules.specs.declared.entity.Known.{Known}
use Rattle.ob_rules.specs.Judged.{◌▷◌}
use Rattle.ob_rules.specs.Names.{Around, find_name, is_out, unless_hidden, shown_of, export_known, out_procedure, type_of_desc, out_type, type_in, type_of_entity, type_behind, unless_variable_is, unless_variable, type_by, type_named}
use Rattle.law_methods_described.proofs.Nodes.{Has}
use Rattle.law_typing.specs.Makes.{IfThere}
use Rattle.law_body_context.specs.Knows.{IsTypeDesc, StandsBy, Stands, EntityStands, Knows}
use Rattle.law_body_context.proofs.Lists.{find_has}

module _ (IsConstant : Value → Type 0) (unit : List ℕ) (shown : QName → Option Desc) (u : Around) (knows : Knows IsConstant unit shown u) where
  abbrev S : TypeRef → Type 0
  S t = Stands unit shown u.own t

  -- what is known by a name
  pub name_stands : (x : List ℕ) → IfThere (λ k. EntityStands IsConstant unit shown u.own k.what) (find_name u.known x)
  name_stands x = find_has (λ k. EntityStands IsConstant unit shown u.own k.what) (λ k. bytes_eq k.name x) u.known knows.known

  entity_type : (x : Ident) (k : Known) (w : Entity) → EntityStands IsConstant unit shown u.own w → Has S (unless_variable_is u x k w (type_of_entity x.pos))
  entity_type x k (entity.Constant v) h = tt
  entity_type x k (entity.TypeName t) h = h
  entity_type x k (entity.Variable v t) h = tt
  entity_type x k (entity.Procedure q s) h = tt
  entity_type x k (entity.Forward q s) h = tt
  entity_type x k (entity.Module m) h = tt
  entity_type x k (entity.Predeclared p) h = tt
  entity_type x k entity.LeftOut h = tt
  entity_type x k entity.Unsound h = tt

  module _ (n : List ℕ) (x : Ident) (out : is_out n ≡ false) (other : bytes_eq n unit ≡ false) where
    abbrev q : QName
    q = record { «module» = n; object = x.name }

    imported_type : (d : Desc) → u.shown q ≡ Some d → IsTypeDesc (Some d) → S (ref.Named q)
    imported_type d e h = (ap (λ b. b && bytes_eq x.name (codes "String(1")) out, subst (λ b. StandsBy b shown u.own q) (sym other) (subst IsTypeDesc (sym e ∙ ap (λ f. f q) knows.shown_is) h))

    marked_type : (m : Mark) (d : Desc) → Has S (type_of_desc x.pos q d) → Has S (export_known q x.pos (unless_hidden m d) ▷ λ e. type_of_desc x.pos e.0 e.1)
    marked_type mark.Full d h = h
    marked_type mark.ReadOnly d h = h
    marked_type mark.Hidden d h = tt

    shown_type : (o : Option Desc) → u.shown q ≡ o → Has S (export_known q x.pos (shown_of o) ▷ λ e. type_of_desc x.pos e.0 e.1)
    shown_type None e = tt
    shown_type (Some (desc.Const v)) e = tt
    shown_type (Some (desc.Var m t)) e = marked_type m (desc.Var m t) tt
    shown_type (Some (desc.Proc s)) e = tt
    shown_type (Some (desc.Alias m t)) e = marked_type m (desc.Alias m t) (imported_type (desc.Alias m t) e refl)
    shown_type (Some (desc.Array m k t)) e = marked_type m (desc.Array m k t) (imported_type (desc.Array m k t) e refl)
    shown_type (Some (desc.OpenArray m t)) e = marked_type m (desc.OpenArray m t) (imported_type (desc.OpenArray m t) e refl)
    shown_type (Some (desc.Pointer m t)) e = marked_type m (desc.Pointer m t) (imported_type (desc.Pointer m t) e refl)
    shown_type (Some (desc.ProcType m s)) e = marked_type m (desc.ProcType m s) (imported_type (desc.ProcType m s) e refl)
    shown_type (Some (desc.Record r)) e = marked_type r.mark (desc.Record r) (imported_type (desc.Record r) e refl)

  out_is : (at : Pos) (o : Option OutProcedure) → Has S (out_type at o)
  out_is at None = tt
  out_is at (Some p) = tt

  module_type : (b : Bool) (n : List ℕ) (x : Ident) → is_out n ≡ b → bytes_eq n unit ≡ false → Has S (type_in b u n x)
  module_type true n x e f = out_is x.pos (out_procedure x.name)
  module_type false n x e f = shown_type n x e f (u.shown (record { «module» = n; object = x.name })) refl

  behind_type : (m x : Ident) (k : Known) (w : Entity) → EntityStands IsConstant unit shown u.own w → Has S (unless_variable_is u m k w (type_behind u m x))
  behind_type m x k (entity.Constant v) h = tt
  behind_type m x k (entity.TypeName t) h = tt
  behind_type m x k (entity.Variable v t) h = tt
  behind_type m x k (entity.Procedure q s) h = tt
  behind_type m x k (entity.Forward q s) h = tt
  behind_type m x k (entity.Module n) h = module_type (is_out n) n x refl h
  behind_type m x k (entity.Predeclared p) h = tt
  behind_type m x k entity.LeftOut h = tt
  behind_type m x k entity.Unsound h = tt

  own_type : (x : Ident) (o : Option Known) → IfThere (λ k. EntityStands IsConstant unit shown u.own k.what) o → Has S (unless_variable u x o (type_of_entity x.pos))
  own_type x None h = tt
  own_type x (Some k) h = entity_type x k k.what h

  qualified_type : (m x : Ident) (o : Option Known) → IfThere (λ k. EntityStands IsConstant unit shown u.own k.what) o → Has S (unless_variable u m o (type_behind u m x))
  qualified_type m x None h = tt
  qualified_type m x (Some k) h = behind_type m x k k.what h

  by_qualifier : (o : Option Ident) (x : Ident) → Has S (type_by u o x)
  by_qualifier None x = own_type x (find_name u.known x.name) (name_stands x.name)
  by_qualifier (Some m) x = qualified_type m x (find_name u.known m.name) (name_stands m.name)

  pub type_named_stands : (q : Qualident) → Has S (type_named u q)
  type_named_stands q = by_qualifier q.qualifier q.ident
