-- What stands around only grows behind declarations.
use Rattle.std.proofs.Common.{◌≡◌, List, [], ◌∷◌, ◌++◌, Bool, true, false, Option, Some, None, Result, OnOk, refl, sym, ap, subst, ◌∙◌}
use Rattle.ob_rules.proofs.BookLaws.{on_ok}
use Rattle.std.specs.Prelude.{codes}
use Rattle.ob_tree.specs.declared.ident.Mark.TheVariants as mark
use Rattle.ob_rules.specs.Judged.{both, ◌▷◌}
use Rattle.ob_rules.specs.Expressions.{constant_value}
use Rattle.ob_rules.specs.Headings.{mark_or_hidden}
use Rattle.std.proofs.lemmas.List.{append_assoc}
use Rattle.ob_tree.specs.declared.ident.Ident.{Ident}
use Rattle.ob_tree.specs.declared.ident.IdentDef.{IdentDef}
use Rattle.ob_types.specs.declared.typed.TypedType.{TypedType}
use Rattle.ob_rules.specs.declared.entity.Known.{Known}
use Rattle.ob_rules.specs.declared.entity.Entity.{Entity}
use Rattle.ob_rules.specs.Names.{Around, found_in_scope}
use Rattle.ob_rules.specs.Phrases.{Phrase}
use Rattle.ob_rules.specs.Types.{Typing, Written, with_types, marked}
use Rattle.ob_rules.specs.Declarations.{declare, declare_if, constant_declared, constant_entity, no_nil, type_declared, typing_as, types_made, type_entity, variables_with, variables_declared, variable_entity, paired_typing, made_in, first_name, newly}
use Rattle.ob_cdecl.specs.Growing.{Grows}

pub grows_not : (u : Around) → Grows u u
grows_not u = record { names = []; types = []; grown = refl }

pub grows_on : (u v w : Around) → Grows u v → Grows v w → Grows u w
grows_on u v w g h =
    let more : List Known → List TypedType → Around = λ ks ts. record u { known = ks; own = ts } in
    let F : Around → Around = λ a. record a { known = h.names ++ a.known; own = h.types ++ a.own } in
    record {
      names = h.names ++ g.names;
      types = h.types ++ g.types;
      grown = h.grown ∙ ap F g.grown ∙ sym (ap (λ ks. more ks ((h.types ++ g.types) ++ u.own)) (append_assoc h.names g.names u.known) ∙ ap (λ ts. more (h.names ++ (g.names ++ u.known)) ts) (append_assoc h.types g.types u.own));
    }

grows_if : (o : Option Known) (u : Around) (x : Ident) (e : Entity) → Grows u (declare_if o u x e)
grows_if None u x e = record { names = record { name = x.name; scope = u.scope; what = e } ∷ []; types = []; grown = refl }
grows_if (Some k) u x e = grows_not u

pub grows_declared : (u : Around) (x : Ident) (e : Entity) → Grows u (declare u x e)
grows_declared u x e = grows_if (found_in_scope u x.name) u x e

pub grows_types : (u : Around) (ts : List TypedType) → Grows u (with_types u ts)
grows_types u ts = record { names = []; types = ts; grown = refl }

typed_then : (u : Around) (ts : List TypedType) (x : Ident) (e : Entity) → Grows u (declare (with_types u ts) x e)
typed_then u ts x e = grows_on u (with_types u ts) (declare (with_types u ts) x e) (grows_types u ts) (grows_declared (with_types u ts) x e)

pub grows_variables : (ds : List IdentDef) (t : Option Typing) (u : Around) → Grows u (variables_with ds t u).around
grows_variables [] t u = grows_not u
grows_variables (d ∷ ds) t u =
    let e = variable_entity u d.ident (paired_typing (marked u true d).node t) in
    grows_on u (declare u d.ident e) (variables_with ds t (declare u d.ident e)).around (grows_declared u d.ident e) (grows_variables ds t (declare u d.ident e))

pub constant_grows : (d : IdentDef) (x : Phrase) (u v : Around) → v ≡ (constant_declared d x u).around → Grows u v
constant_grows d x u v e = subst (Grows u) (sym e) (grows_declared u d.ident (constant_entity (both (marked u false d) (constant_value u x ▷ no_nil x.start)).node))

pub type_grows : (d : IdentDef) (n : Written) (u v : Around) → v ≡ (type_declared d n u).around → Grows u v
type_grows d n u v e =
    let j = (both (newly u d) (typing_as u (u.path ++ d.ident.name) (mark_or_hidden (newly u d).node) n n.name)).node in
    subst (Grows u) (sym e) (typed_then u (types_made j) d.ident (type_entity j))

pub variables_grow : (ds : List IdentDef) (n : Written) (u v : Around) → v ≡ (variables_declared ds n u).around → Grows u v
variables_grow ds n u v e =
    let t = (n.typing u (u.path ++ first_name ds ++ codes ":") mark.Hidden false).node in
    let w = with_types u (made_in t) in
    subst (Grows u) (sym e) (grows_on u w (variables_with ds t w).around (grows_types u (made_in t)) (grows_variables ds t w))

pub constant_grows_ok : {T F : Type 0} (r : Result T F) (d : IdentDef) (x : Phrase) (u v : Around) → OnOk r (v ≡ (constant_declared d x u).around) → OnOk r (Grows u v)
constant_grows_ok r d x u v h = on_ok r (constant_grows d x u v) h

pub type_grows_ok : {T F : Type 0} (r : Result T F) (d : IdentDef) (n : Written) (u v : Around) → OnOk r (v ≡ (type_declared d n u).around) → OnOk r (Grows u v)
type_grows_ok r d n u v h = on_ok r (type_grows d n u v) h

pub variables_grow_ok : {T F : Type 0} (r : Result T F) (ds : List IdentDef) (n : Written) (u v : Around) → OnOk r (v ≡ (variables_declared ds n u).around) → OnOk r (Grows u v)
variables_grow_ok r ds n u v h = on_ok r (variables_grow ds n u v) h
