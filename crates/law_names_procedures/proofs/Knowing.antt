-- What is known around a text, where no declaration broke a rule; and names of types.
use Rattle.std.proofs.Common.{ℕ, Bool, true, false, List, [], ◌∷◌, Option, Some, None, cond}
use Rattle.std.specs.Prelude.{bytes_eq}
use Rattle.std.specs.List.{AllByRecursion, find, filter}
use Rattle.ob_tree.specs.declared.pos.Pos.{Pos}
use Rattle.ob_tree.specs.declared.names.QName.{QName}
use Rattle.ob_tree.specs.declared.ident.Ident.{Ident}
use Rattle.ob_tree.specs.declared.ident.Qualident.{Qualident}
use Rattle.ob_types.specs.declared.types.TypeRef.{TypeRef}
use Rattle.ob_types.specs.declared.desc.Desc.{Desc}
use Rattle.ob_types.specs.declared.desc.Desc.TheVariants as desc
use Rattle.ob_types.specs.declared.typed.OutProcedure.{OutProcedure}
use Rattle.ob_rules.specs.declared.entity.Entity.{Entity}
use Rattle.ob_rules.specs.declared.entity.Known.{Known}
use Rattle.ob_rules.specs.declared.entity.Entity.TheVariants as entity
use Rattle.ob_rules.specs.declared.broken.Rule.TheVariants as rule
use Rattle.ob_rules.specs.Judged.{Judged}
use Rattle.ob_rules.specs.Names.{Around, find_name, variable_known, is_enclosing, entity_known, shown_of, export_known, exported, is_out, out_procedure, out_type, type_of_desc, type_in, type_of_entity, type_behind, unless_variable_is, unless_variable, type_by, type_named}
use Rattle.law_names_procedures.proofs.Judges.{Speaks, breaks_speaks, then_speaks}
use Rattle.law_lists.proofs.Lists.{Anything, IfThere, filter_if}

-- a name whose declaration broke no rule
abbrev pub IsKnown : Entity → Type 0
IsKnown entity.Unsound = ⊥
IsKnown e = Unit {0}

abbrev pub AreKnown : List Known → Type 0
AreKnown ks = AllByRecursion (λ k. IsKnown k.what) ks

find_if : {A : Type 0} (P : A → Type 0) (b : Bool) (x : A) (o : Option A) → P x → IfThere P o → IfThere P (cond b (Some x) o)
find_if P true x o h k = h
find_if P false x o h k = k

pub find_has : {A : Type 0} (P : A → Type 0) (test : A → Bool) (xs : List A) → AllByRecursion P xs → IfThere P (find test xs)
find_has P test [] h = tt
find_has P test (x ∷ xs) h = find_if P (test x) x (find test xs) h.0 (find_has P test xs h.1)

pub filter_has : {A : Type 0} (P : A → Type 0) (test : A → Bool) (xs : List A) → AllByRecursion P xs → AllByRecursion P (filter test xs)
filter_has P test [] h = tt
filter_has P test (x ∷ xs) h = filter_if P (test x) x (filter test xs) h.0 (filter_has P test xs h.1)

-- ---- entities

variable_speaks : (b : Bool) (at : Pos) (e : Entity) → IsKnown e → Speaks IsKnown (variable_known b at e)
variable_speaks true at e h = breaks_speaks IsKnown rule.OuterVariable at
variable_speaks false at e h = λ n. h

entity_speaks : (u : Around) (at : Pos) (scope : ℕ) (e : Entity) → IsKnown e → Speaks IsKnown (entity_known u at scope e)
entity_speaks u at scope entity.LeftOut h = breaks_speaks IsKnown rule.LeftOut at
entity_speaks u at scope entity.Unsound h = absurd h
entity_speaks u at scope (entity.Variable v t) h = variable_speaks (is_enclosing u scope) at (entity.Variable v t) h
entity_speaks u at scope e h = λ n. h

-- ---- names of types

of_entity : (at : Pos) (e : Entity) → Speaks Anything (type_of_entity at e)
of_entity at (entity.TypeName t) = λ n. tt
of_entity at e = breaks_speaks {A = TypeRef} Anything rule.WrongKind at

of_desc : (at : Pos) (q : QName) (d : Desc) → Speaks Anything (type_of_desc at q d)
of_desc at q (desc.Const v) = breaks_speaks {A = TypeRef} Anything rule.WrongKind at
of_desc at q (desc.Var m t) = breaks_speaks {A = TypeRef} Anything rule.WrongKind at
of_desc at q (desc.Proc s) = breaks_speaks {A = TypeRef} Anything rule.WrongKind at
of_desc at q d = λ n. tt

of_out : (at : Pos) (o : Option OutProcedure) → Speaks Anything (out_type at o)
of_out at None = breaks_speaks {A = TypeRef} Anything rule.NotDeclared at
of_out at (Some p) = breaks_speaks {A = TypeRef} Anything rule.WrongKind at

export_speaks : (q : QName) (at : Pos) (o : Option Desc) → Speaks Anything (export_known q at o)
export_speaks q at None = breaks_speaks {A = QName × Desc} Anything rule.NotDeclared at
export_speaks q at (Some d) = λ n. tt

in_speaks : (b : Bool) (u : Around) (m : List ℕ) (x : Ident) → Speaks Anything (type_in b u m x)
in_speaks true u m x = of_out x.pos (out_procedure x.name)
in_speaks false u m x = then_speaks Anything Anything (exported u m x) (λ e. type_of_desc x.pos e.0 e.1) (export_speaks (record { «module» = m; object = x.name }) x.pos (shown_of (u.shown (record { «module» = m; object = x.name })))) (λ e h. of_desc x.pos e.0 e.1)

behind_speaks : (u : Around) (m x : Ident) (e : Entity) → Speaks Anything (type_behind u m x e)
behind_speaks u m x (entity.Module n) = in_speaks (is_out n) u n x
behind_speaks u m x e = breaks_speaks {A = TypeRef} Anything rule.WrongKind m.pos

variable_is : (u : Around) (x : Ident) (k : Known) (e : Entity) (f : Entity → Judged TypeRef) → IsKnown e → ((e : Entity) → Speaks Anything (f e)) → Speaks Anything (unless_variable_is u x k e f)
variable_is u x k (entity.Variable v t) f h g = breaks_speaks {A = TypeRef} Anything rule.WrongKind x.pos
variable_is u x k e f h g = then_speaks IsKnown Anything (entity_known u x.pos k.scope e) f (entity_speaks u x.pos k.scope e h) (λ e h. g e)

variable_speaks_of : (u : Around) (x : Ident) (o : Option Known) (f : Entity → Judged TypeRef) → IfThere (λ k. IsKnown k.what) o → ((e : Entity) → Speaks Anything (f e)) → Speaks Anything (unless_variable u x o f)
variable_speaks_of u x None f h g = breaks_speaks {A = TypeRef} Anything rule.NotDeclared x.pos
variable_speaks_of u x (Some k) f h g = variable_is u x k k.what f h g

by_speaks : (u : Around) → AreKnown u.known → (o : Option Ident) (x : Ident) → Speaks Anything (type_by u o x)
by_speaks u h None x = variable_speaks_of u x (find_name u.known x.name) (type_of_entity x.pos) (find_has (λ k. IsKnown k.what) (λ k. bytes_eq k.name x.name) u.known h) (of_entity x.pos)
by_speaks u h (Some m) x = variable_speaks_of u m (find_name u.known m.name) (type_behind u m x) (find_has (λ k. IsKnown k.what) (λ k. bytes_eq k.name m.name) u.known h) (behind_speaks u m x)

pub name_speaks : (u : Around) (q : Qualident) → AreKnown u.known → Speaks Anything (type_named u q)
name_speaks u q h = by_speaks u h q.qualifier q.ident
