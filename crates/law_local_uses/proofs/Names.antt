-- Names: what they mean, and what types are named by them.
use Rattle.std.proofs.Common.{◌≡◌, ℕ, Bool, true, false, List, Option, Some, None, refl, sym, ap, ◌∙◌}
use Rattle.std.specs.Prelude.{bytes_eq}
use Rattle.ob_tree.specs.declared.pos.Pos.{Pos}
use Rattle.ob_tree.specs.declared.names.QName.{QName}
use Rattle.ob_tree.specs.declared.ident.Ident.{Ident}
use Rattle.ob_tree.specs.declared.ident.Mark.{Mark}
use Rattle.ob_tree.specs.declared.ident.Mark.TheVariants as mark
use Rattle.ob_tree.specs.declared.ident.Qualident.{Qualident}
use Rattle.ob_types.specs.declared.types.TypeRef.{TypeRef}
use Rattle.ob_types.specs.declared.desc.Desc.{Desc}
use Rattle.ob_types.specs.declared.desc.Desc.TheVariants as desc
use Rattle.ob_types.specs.declared.typed.OutProcedure.{OutProcedure}
use Rattle.ob_rules.specs.declared.entity.Entity.{Entity}
use Rattle.ob_rules.specs.declared.entity.Known.{Known}
use Rattle.ob_rules.specs.declared.entity.Entity.TheVariants as entity
use Rattle.ob_rules.specs.Judged.{Judged}
use Rattle.ob_rules.specs.Names.{Around, own_desc, type_desc, map_of, out_string, find_name, is_enclosing, variable_known, entity_known, name_known, named, unless_hidden, record_unless_hidden, shown_of, export_known, exported, is_out, out_procedure, type_of_desc, out_type, type_in, type_of_entity, type_behind, unless_variable_is, unless_variable, type_by, type_named}
use Rattle.std.specs.List.{AllByRecursion, find}
use Rattle.ob_types.specs.declared.typed.TypedType.{TypedType}
use Rattle.ob_types.specs.declared.typed.Variable.{Variable}
use Rattle.ob_rules.specs.declared.entity.Received.{Received}
use Rattle.ob_rules.specs.Shapes.{same_name}
use Rattle.law_local_uses.specs.Settled.{MeansIn, GuardIn, NamesIn}
use Rattle.law_local_uses.proofs.Setting.{Setting, Stands, In, none, Keeps, then_keeps, find_has}
use Rattle.law_lists.proofs.Lists.{IfThere}

abbrev pub EntityOk : Setting → Entity → Type 0
EntityOk k e = MeansIn k.Held e

-- ---- what stands around stays settled

desc_same : (b c : Bool) (u v : Around) (q : QName) → v.own ≡ u.own → v.shown ≡ u.shown → type_desc b c v q ≡ type_desc b c u q
desc_same true c u v q o s = ap (λ ts. own_desc (find (λ (t : TypedType). bytes_eq t.name q.object) ts)) o
desc_same false true u v q o s = refl
desc_same false false u v q o s = ap (λ (f : QName → Option Desc). f q) s

map_same : (u v : Around) → v.unit ≡ u.unit → v.own ≡ u.own → v.shown ≡ u.shown → (q : QName) → map_of v q ≡ map_of u q
map_same u v i o s q = ap (λ m. type_desc (bytes_eq q.«module» m) (same_name q out_string) v q) i ∙ desc_same (bytes_eq q.«module» u.unit) (same_name q out_string) u v q o s

-- where types and what is shown are the same
pub stays : (k : Setting) (u v : Around) → v.unit ≡ u.unit → v.own ≡ u.own → v.shown ≡ u.shown → AllByRecursion (λ (n : Known). MeansIn k.Held n.what) v.known → AllByRecursion (λ (g : Variable × Option TypeRef). GuardIn k.Held g.1) v.guards → ((r : Received) → v.receiver ≡ Some r → k.Own r.owner) → Stands k u → Stands k v
stays k u v i o s known guards receiver st = record {
  says = λ q d e. st.says q d (sym (map_same u v i o s q) ∙ e);
  named = λ q d e. st.named q d (sym (map_same u v i o s q) ∙ e);
  shown = λ q d e. st.shown q d (sym (ap (λ (f : QName → Option Desc). f q) s) ∙ e);
  out = st.out;
  known = known;
  guards = guards;
  receiver = receiver;
}

-- ---- what other modules show

unless_is : (m : Mark) (d e : Desc) → unless_hidden m d ≡ Some e → d ≡ e
unless_is mark.Hidden d e h = absurd cc
unless_is mark.Full d e h = cc
unless_is mark.ReadOnly d e h = cc

shown_desc : (d e : Desc) → record_unless_hidden d ≡ Some e → d ≡ e
shown_desc (desc.Const v) e h = cc
shown_desc (desc.Var m t) e h = unless_is m (desc.Var m t) e h
shown_desc (desc.Proc s) e h = cc
shown_desc (desc.Alias m t) e h = unless_is m (desc.Alias m t) e h
shown_desc (desc.Array m n t) e h = unless_is m (desc.Array m n t) e h
shown_desc (desc.OpenArray m t) e h = unless_is m (desc.OpenArray m t) e h
shown_desc (desc.Pointer m t) e h = unless_is m (desc.Pointer m t) e h
shown_desc (desc.ProcType m s) e h = unless_is m (desc.ProcType m s) e h
shown_desc (desc.Record r) e h = unless_is r.mark (desc.Record r) e h

shown_is : (o : Option Desc) (e : Desc) → shown_of o ≡ Some e → o ≡ Some e
shown_is None e h = absurd cc
shown_is (Some d) e h = ap (λ x. Some x) (shown_desc d e h)

-- an object of another module that is held, with the types that its description names
abbrev pub ExportOk : Setting → QName × Desc → Type 0
ExportOk k e = k.Held e.0 × NamesIn k.Held e.1

export_keeps : (k : Setting) (q : QName) (at : Pos) (o : Option Desc) → ((d : Desc) → o ≡ Some d → k.Held q × NamesIn k.Held d) → Keeps k (ExportOk k) (export_known q at o)
export_keeps k q at None h = (tt, none)
export_keeps k q at (Some d) h = let x = h d refl in (x, ((x.0, tt), tt, tt))

pub exported_keeps : (k : Setting) (u : Around) → Stands k u → (m : List ℕ) (x : Ident) → Keeps k (ExportOk k) (exported u m x)
exported_keeps k u st m x =
    let q : QName = record { «module» = m; object = x.name } in
    export_keeps k q x.pos (shown_of (u.shown q)) (λ d e. st.shown q d (shown_is (u.shown q) d e))

-- ---- what is known

variable_known_keeps : (k : Setting) (b : Bool) (at : Pos) (e : Entity) → EntityOk k e → Keeps k (EntityOk k) (variable_known b at e)
variable_known_keeps k true at e h = (tt, none)
variable_known_keeps k false at e h = (h, none)

entity_keeps : (k : Setting) (u : Around) (at : Pos) (scope : ℕ) (e : Entity) → EntityOk k e → Keeps k (EntityOk k) (entity_known u at scope e)
entity_keeps k u at scope entity.LeftOut h = (tt, none)
entity_keeps k u at scope entity.Unsound h = (tt, none)
entity_keeps k u at scope (entity.Variable v t) h = variable_known_keeps k (is_enclosing u scope) at (entity.Variable v t) h
entity_keeps k u at scope e h = (h, none)

name_keeps : (k : Setting) (u : Around) (at : Pos) (o : Option Known) → IfThere (λ (n : Known). EntityOk k n.what) o → Keeps k (EntityOk k) (name_known u at o)
name_keeps k u at None h = (tt, none)
name_keeps k u at (Some x) h = entity_keeps k u at x.scope x.what h

known_has : (k : Setting) (u : Around) → Stands k u → (x : List ℕ) → IfThere (λ (n : Known). EntityOk k n.what) (find_name u.known x)
known_has k u st x = find_has (λ (n : Known). EntityOk k n.what) (λ n. bytes_eq n.name x) u.known st.known

pub named_keeps : (k : Setting) (u : Around) → Stands k u → (x : Ident) → Keeps k (EntityOk k) (named u x)
named_keeps k u st x = name_keeps k u x.pos (find_name u.known x.name) (known_has k u st x.name)

-- ---- the names of types

desc_keeps : (k : Setting) (at : Pos) (q : QName) (d : Desc) → k.Held q → Keeps k (In k) (type_of_desc at q d)
desc_keeps k at q (desc.Const v) h = (tt, none)
desc_keeps k at q (desc.Var m t) h = (tt, none)
desc_keeps k at q (desc.Proc s) h = (tt, none)
desc_keeps k at q d h = (h, none)

out_keeps : (k : Setting) (at : Pos) (o : Option OutProcedure) → Keeps k (In k) (out_type at o)
out_keeps k at None = (tt, none)
out_keeps k at (Some p) = (tt, none)

in_keeps : (k : Setting) (u : Around) → Stands k u → (b : Bool) (m : List ℕ) (x : Ident) → Keeps k (In k) (type_in b u m x)
in_keeps k u st true m x = out_keeps k x.pos (out_procedure x.name)
in_keeps k u st false m x = then_keeps k (ExportOk k) (In k) (exported u m x) (λ e. type_of_desc x.pos e.0 e.1) (exported_keeps k u st m x) (λ e h. desc_keeps k x.pos e.0 e.1 h.0)

of_keeps : (k : Setting) (at : Pos) (e : Entity) → EntityOk k e → Keeps k (In k) (type_of_entity at e)
of_keeps k at (entity.TypeName t) h = (h, none)
of_keeps k at e h = (tt, none)

behind_keeps : (k : Setting) (u : Around) → Stands k u → (m x : Ident) (e : Entity) → Keeps k (In k) (type_behind u m x e)
behind_keeps k u st m x (entity.Module n) = in_keeps k u st (is_out n) n x
behind_keeps k u st m x e = (tt, none)

unless_is_keeps : (k : Setting) (u : Around) (x : Ident) (y : Known) (e : Entity) → EntityOk k e → (f : Entity → Judged TypeRef) → ((e : Entity) → EntityOk k e → Keeps k (In k) (f e)) → Keeps k (In k) (unless_variable_is u x y e f)
unless_is_keeps k u x y (entity.Variable v t) h f g = (tt, none)
unless_is_keeps k u x y e h f g = then_keeps k (EntityOk k) (In k) (entity_known u x.pos y.scope e) f (entity_keeps k u x.pos y.scope e h) g

unless_keeps : (k : Setting) (u : Around) (x : Ident) (o : Option Known) → IfThere (λ (n : Known). EntityOk k n.what) o → (f : Entity → Judged TypeRef) → ((e : Entity) → EntityOk k e → Keeps k (In k) (f e)) → Keeps k (In k) (unless_variable u x o f)
unless_keeps k u x None h f g = (tt, none)
unless_keeps k u x (Some y) h f g = unless_is_keeps k u x y y.what h f g

by_keeps : (k : Setting) (u : Around) → Stands k u → (m : Option Ident) (x : Ident) → Keeps k (In k) (type_by u m x)
by_keeps k u st None x = unless_keeps k u x (find_name u.known x.name) (known_has k u st x.name) (type_of_entity x.pos) (λ e h. of_keeps k x.pos e h)
by_keeps k u st (Some m) x = unless_keeps k u m (find_name u.known m.name) (known_has k u st m.name) (type_behind u m x) (λ e h. behind_keeps k u st m x e)

-- A TYPE THAT IS NAMED is held
pub type_keeps : (k : Setting) (u : Around) → Stands k u → (q : Qualident) → Keeps k (In k) (type_named u q)
type_keeps k u st q = by_keeps k u st q.qualifier q.ident
