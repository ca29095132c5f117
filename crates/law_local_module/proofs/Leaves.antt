-- What is judged without leaving anything for later.
use Rattle.std.proofs.Common.{◌≡◌, refl, ℕ, Bool, true, false, List, [], ◌∷◌, Option, Some, None}
use Rattle.std.specs.List.{AllByRecursion}
use Rattle.ob_tree.specs.declared.pos.Pos.{Pos}
use Rattle.ob_tree.specs.declared.names.QName.{QName}
use Rattle.ob_tree.specs.declared.ident.Ident.{Ident}
use Rattle.ob_tree.specs.declared.ident.Qualident.{Qualident}
use Rattle.ob_types.specs.declared.types.TypeRef.{TypeRef}
use Rattle.ob_types.specs.declared.desc.Desc.{Desc}
use Rattle.ob_types.specs.declared.desc.Desc.TheVariants as desc
use Rattle.ob_types.specs.declared.typed.OutProcedure.{OutProcedure}
use Rattle.ob_rules.specs.declared.entity.Entity.{Entity}
use Rattle.ob_rules.specs.declared.entity.Entity.TheVariants as entity
use Rattle.ob_rules.specs.declared.entity.Known.{Known}
use Rattle.ob_rules.specs.declared.broken.Rule.{Rule}
use Rattle.ob_rules.specs.Judged.{Judged, sound, breaks, if_sound, both, made, each_sound, unless, wants, also, found_or, ◌▷◌}
use Rattle.ob_rules.specs.Names.{Around, find_name, variable_known, is_enclosing, entity_known, name_known, named, shown_of, export_known, exported, is_out, out_procedure, out_type, type_of_desc, type_in, type_of_entity, type_behind, unless_variable_is, unless_variable, type_by, type_named}
use Rattle.law_lists.proofs.Lists.{both_empty}

-- nothing is left for later
abbrev pub Nil : {A : Type 0} → Judged A → Type 0
Nil j = j.notes.later ≡ []

abbrev pub AllNil : {A : Type 0} → List (Judged A) → Type 0
AllNil js = AllByRecursion (λ j. j.notes.later ≡ []) js

if_nil : {A B : Type 0} (o : Option A) (f : A → Judged B) → ((x : A) → Nil (f x)) → Nil (if_sound o f)
if_nil None f k = refl
if_nil (Some x) f k = k x

pub then_nil : {A B : Type 0} (j : Judged A) (f : A → Judged B) → Nil j → ((x : A) → Nil (f x)) → Nil (j ▷ f)
then_nil j f h k = both_empty j.notes.later (if_sound j.node f).notes.later h (if_nil j.node f k)

pub both_nil : {A B : Type 0} (a : Judged A) (b : Judged B) → Nil a → Nil b → Nil (both a b)
both_nil a b h k = both_empty a.notes.later b.notes.later h k

pub made_nil : {A B : Type 0} (f : A → B) (j : Judged A) → Nil j → Nil (made f j)
made_nil f j h = then_nil j (λ x. sound (f x)) h (λ x. refl)

pub each_nil : {A : Type 0} (js : List (Judged A)) → AllNil js → Nil (each_sound js)
each_nil [] h = refl
each_nil (j ∷ js) h = made_nil (λ p. p.0 ∷ p.1) (both j (each_sound js)) (both_nil j (each_sound js) h.0 (each_nil js h.1))

pub unless_nil : {A : Type 0} (b : Bool) (rule : Rule) (at : Pos) (x : A) → Nil (unless b rule at x)
unless_nil true rule at x = refl
unless_nil false rule at x = refl

pub wants_nil : {A : Type 0} (b : Bool) (rule : Rule) (at : Pos) (x : A) → Nil (wants b rule at x)
wants_nil true rule at x = refl
wants_nil false rule at x = refl

pub also_nil : {A : Type 0} (b : Bool) (rule : Rule) (at : Pos) (j : Judged A) → Nil j → Nil (also b rule at j)
also_nil true rule at j h = h
also_nil false rule at j h = h

pub found_nil : {A : Type 0} (rule : Rule) (at : Pos) (o : Option A) → Nil (found_or rule at o)
found_nil rule at None = refl
found_nil rule at (Some x) = refl

-- ---- names

variable_nil : (b : Bool) (at : Pos) (e : Entity) → Nil (variable_known b at e)
variable_nil true at e = refl
variable_nil false at e = refl

entity_nil : (u : Around) (at : Pos) (scope : ℕ) (e : Entity) → Nil (entity_known u at scope e)
entity_nil u at scope (entity.Variable v t) = variable_nil (is_enclosing u scope) at (entity.Variable v t)
entity_nil u at scope e = refl

known_nil : (u : Around) (at : Pos) (o : Option Known) → Nil (name_known u at o)
known_nil u at None = refl
known_nil u at (Some k) = entity_nil u at k.scope k.what

pub named_nil : (u : Around) (x : Ident) → Nil (named u x)
named_nil u x = known_nil u x.pos (find_name u.known x.name)

of_entity : (at : Pos) (e : Entity) → Nil (type_of_entity at e)
of_entity at (entity.TypeName t) = refl
of_entity at e = refl

of_desc : (at : Pos) (q : QName) (d : Desc) → Nil (type_of_desc at q d)
of_desc at q (desc.Const v) = refl
of_desc at q (desc.Var m t) = refl
of_desc at q (desc.Proc s) = refl
of_desc at q d = refl

of_out : (at : Pos) (o : Option OutProcedure) → Nil (out_type at o)
of_out at None = refl
of_out at (Some p) = refl

export_nil : (q : QName) (at : Pos) (o : Option Desc) → Nil (export_known q at o)
export_nil q at None = refl
export_nil q at (Some d) = refl

pub exported_nil : (u : Around) (m : List ℕ) (x : Ident) → Nil (exported u m x)
exported_nil u m x = export_nil (record { «module» = m; object = x.name }) x.pos (shown_of (u.shown (record { «module» = m; object = x.name })))

in_nil : (b : Bool) (u : Around) (m : List ℕ) (x : Ident) → Nil (type_in b u m x)
in_nil true u m x = of_out x.pos (out_procedure x.name)
in_nil false u m x = then_nil (exported u m x) (λ e. type_of_desc x.pos e.0 e.1) (exported_nil u m x) (λ e. of_desc x.pos e.0 e.1)

behind_nil : (u : Around) (m x : Ident) (e : Entity) → Nil (type_behind u m x e)
behind_nil u m x (entity.Module n) = in_nil (is_out n) u n x
behind_nil u m x e = refl

variable_is : (u : Around) (x : Ident) (k : Known) (e : Entity) (f : Entity → Judged TypeRef) → ((e : Entity) → Nil (f e)) → Nil (unless_variable_is u x k e f)
variable_is u x k (entity.Variable v t) f g = refl
variable_is u x k e f g = then_nil (entity_known u x.pos k.scope e) f (entity_nil u x.pos k.scope e) g

variable_of : (u : Around) (x : Ident) (o : Option Known) (f : Entity → Judged TypeRef) → ((e : Entity) → Nil (f e)) → Nil (unless_variable u x o f)
variable_of u x None f g = refl
variable_of u x (Some k) f g = variable_is u x k k.what f g

by_nil : (u : Around) (o : Option Ident) (x : Ident) → Nil (type_by u o x)
by_nil u None x = variable_of u x (find_name u.known x.name) (type_of_entity x.pos) (of_entity x.pos)
by_nil u (Some m) x = variable_of u m (find_name u.known m.name) (type_behind u m x) (behind_nil u m x)

pub type_nil : (u : Around) (q : Qualident) → Nil (type_named u q)
type_nil u q = by_nil u q.qualifier q.ident
