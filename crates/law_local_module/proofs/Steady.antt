-- What stands around the declarations of a block that breaks no rule.
use Rattle.std.proofs.Common.{◌≡◌, refl, sym, subst, ℕ, Bool, true, false, List, [], ◌∷◌, ◌++◌, Option, Some, None, inl, inr}
use Rattle.std.specs.Prelude.{bytes_eq, is_some, codes}
use Rattle.std.specs.List.{AllByRecursion, find}
use Rattle.std.proofs.lemmas.Bool.{false≢true}
use Rattle.ob_tree.specs.declared.names.QName.{QName}
use Rattle.ob_tree.specs.declared.ident.Ident.{Ident}
use Rattle.ob_tree.specs.declared.ident.IdentDef.{IdentDef}
use Rattle.ob_tree.specs.declared.ident.Mark.{Mark}
use Rattle.ob_tree.specs.declared.ident.Mark.TheVariants as mark
use Rattle.ob_types.specs.declared.value.Value.{Value}
use Rattle.ob_types.specs.declared.types.TypeRef.{TypeRef}
use Rattle.ob_types.specs.declared.types.TypeRef.TheVariants as ref
use Rattle.ob_types.specs.declared.desc.Desc.{Desc}
use Rattle.ob_types.specs.declared.desc.Desc.TheVariants as desc
use Rattle.ob_types.specs.declared.typed.TypedType.{TypedType}
use Rattle.ob_types.specs.Tests.{target, shape_at, pointer_of}
use Rattle.ob_rules.specs.declared.entity.Entity.{Entity}
use Rattle.ob_rules.specs.declared.entity.Entity.TheVariants as entity
use Rattle.ob_rules.specs.declared.entity.Known.{Known}
use Rattle.ob_rules.specs.declared.entity.Bound.{Bound}
use Rattle.ob_rules.specs.Judged.{both, ◌▷◌}
use Rattle.ob_rules.specs.Shapes.{pointed, is_held, same_name}
use Rattle.ob_rules.specs.Names.{Around, map_of, type_desc, own_desc, out_string, in_unit, is_among, found_in_scope}
use Rattle.ob_rules.specs.Expressions.{phrase_of, constant_value}
use Rattle.ob_rules.specs.Types.{Typing, Written, written, is_module_level, marked, with_types}
use Rattle.ob_rules.specs.Headings.{mark_or_hidden}
use Rattle.ob_rules.specs.Declarations.{Declared, first_name, declare_if, no_nil, constant_entity, constant_declared, typing_as, type_entity, types_made, type_declared, variable_of, variable_entity, paired_typing, variable_marked, variables_with, made_in, variables_declared, in_order, newly}
use Rattle.law_names_procedures.specs.Procedures.{IsShown, ShowBases}
use Rattle.law_names_procedures.proofs.Knowing.{IsKnown, AreKnown, find_has}
use Rattle.law_names_procedures.proofs.Points.{holds, Covers, front_covers, back_covers, IsLater, PointsWell, points_alike}
use Rattle.law_names_procedures.proofs.Headings.{AreBased}
use Rattle.law_names_procedures.proofs.Plain.{OrderIs}
use Rattle.law_local_judged.specs.Declared.{IsSound, AreSound, IsPlain, a_constant, a_type, variables}
use Rattle.law_local_nodes.specs.Quiet.{IsNamed, AreNamed}
use Rattle.law_lists.proofs.Lists.{IfThere, all_both, all_from, bytes_itself}

-- ---- what is held

-- it stays so where more types are declared
pub held_to : (u w : Around) → u.unit ≡ w.unit → u.shown ≡ w.shown → Covers u.own w.own → (t : TypeRef) → is_held (map_of u) t ≡ true → is_held (map_of w) t ≡ true
held_to u w e f c (ref.Basic b) h = refl
held_to u w e f c (ref.Named q) h = subst (λ n. is_some (type_desc (bytes_eq q.«module» n) (same_name q out_string) w q) ≡ true) e (go (bytes_eq q.«module» u.unit) (same_name q out_string) h)
  where
    go : (b d : Bool) → is_some (type_desc b d u q) ≡ true → is_some (type_desc b d w q) ≡ true
    go true d k = c q.object k
    go false true k = refl
    go false false k = subst (λ g. is_some (g q) ≡ true) f k

abbrev pub HeldWell : Around → Desc → Type 0
HeldWell u (desc.Pointer m t) = is_held (map_of u) t ≡ true
HeldWell u d = Unit {0}

-- what the pointers among its own types point to is held
abbrev pub AllHeld : Around → Type 0
AllHeld u = AllByRecursion (λ t. HeldWell u t.desc) u.own

pub well_to : (u w : Around) → u.unit ≡ w.unit → u.shown ≡ w.shown → Covers u.own w.own → (d : Desc) → HeldWell u d → HeldWell w d
well_to u w e f c (desc.Pointer m t) h = held_to u w e f c t h
well_to u w e f c (desc.Const v) h = tt
well_to u w e f c (desc.Var m t) h = tt
well_to u w e f c (desc.Proc s) h = tt
well_to u w e f c (desc.Alias m t) h = tt
well_to u w e f c (desc.Array m n t) h = tt
well_to u w e f c (desc.OpenArray m t) h = tt
well_to u w e f c (desc.ProcType m s) h = tt
well_to u w e f c (desc.Record r) h = tt

shown_held : (u : Around) (p : QName) (b c : Bool) → b ≡ false → is_some (u.shown p) ≡ true → is_some (type_desc b c u p) ≡ true
shown_held u p true c e h = absurd (false≢true (sym e))
shown_held u p false true e h = refl
shown_held u p false false e h = h

base_shown : (u : Around) (b : TypeRef) → IsShown u.shown u.unit b → is_held (map_of u) b ≡ true
base_shown u (ref.Basic b) h = refl
base_shown u (ref.Named p) h = shown_held u p (bytes_eq p.«module» u.unit) (same_name p out_string) h.0 h.1

module _ (u : Around) (held : AllHeld u) (shown : ShowBases u.shown u.unit) where
  desc_base : (d : Desc) → HeldWell u d → (b : TypeRef) → pointer_of (Some d) ≡ Some b → is_held (map_of u) b ≡ true
  desc_base (desc.Pointer m t) h b e = let i : t ≡ b = cc in subst (λ t. is_held (map_of u) t ≡ true) i h
  desc_base (desc.Const x) h b e = absurd cc
  desc_base (desc.Var m t) h b e = absurd cc
  desc_base (desc.Proc s) h b e = absurd cc
  desc_base (desc.Alias m t) h b e = absurd cc
  desc_base (desc.Array m n t) h b e = absurd cc
  desc_base (desc.OpenArray m t) h b e = absurd cc
  desc_base (desc.ProcType m s) h b e = absurd cc
  desc_base (desc.Record r) h b e = absurd cc

  found_base : (o : Option TypedType) → IfThere (λ t. HeldWell u t.desc) o → (b : TypeRef) → pointer_of (own_desc o) ≡ Some b → is_held (map_of u) b ≡ true
  found_base None h b e = absurd cc
  found_base (Some t) h b e = desc_base t.desc h b e

  at_base : (q : QName) (c d : Bool) (b : TypeRef) → pointer_of (type_desc c d u q) ≡ Some b → is_held (map_of u) b ≡ true
  at_base q true d b e = found_base (find (λ t. bytes_eq t.name q.object) u.own) (find_has (λ t. HeldWell u t.desc) (λ t. bytes_eq t.name q.object) u.own held) b e
  at_base q false true b e = absurd cc
  at_base q false false b e = base_shown u b (shown q b e)

  target_base : (t b : TypeRef) → pointer_of (shape_at (map_of u) t) ≡ Some b → is_held (map_of u) b ≡ true
  target_base (ref.Basic x) b e = absurd cc
  target_base (ref.Named q) b e = at_base q (bytes_eq q.«module» u.unit) (same_name q out_string) b e

  -- whatever a pointer points to is held
  pub base_held : (t b : TypeRef) → pointed (map_of u) t ≡ Some b → is_held (map_of u) b ≡ true
  base_held t b e = target_base (target (map_of u) 201 t) b e

-- ---- types that are declared later are there in the end

own_held : (u : Around) (x : List ℕ) (b c : Bool) → b ≡ true → holds u.own x ≡ true → is_some (type_desc b c u (in_unit u x)) ≡ true
own_held u x true c e h = h
own_held u x false c e h = absurd (false≢true e)

points_held : (u : Around) → AreBased u → (d : Desc) → PointsWell u d → HeldWell u d
points_held u g (desc.Pointer m t) (inl h) = h
points_held u g (desc.Pointer m t) (inr h) = subst (λ t. is_held (map_of u) t ≡ true) (sym h.2) (own_held u (u.path ++ h.0) (bytes_eq u.unit u.unit) (same_name (in_unit u (u.path ++ h.0)) out_string) (bytes_itself u.unit) (g.later h.0 h.1))
points_held u g (desc.Const x) h = tt
points_held u g (desc.Var m t) h = tt
points_held u g (desc.Proc s) h = tt
points_held u g (desc.Alias m t) h = tt
points_held u g (desc.Array m n t) h = tt
points_held u g (desc.OpenArray m t) h = tt
points_held u g (desc.ProcType m s) h = tt
points_held u g (desc.Record r) h = tt

pub based_held : (u : Around) → AreBased u → AllHeld u
based_held u g = all_from (λ t. PointsWell u t.desc) (λ t. HeldWell u t.desc) (λ t h. points_held u g t.desc h) u.own g.pointed

held_points : (u : Around) (d : Desc) → HeldWell u d → PointsWell u d
held_points u (desc.Pointer m t) h = inl h
held_points u (desc.Const x) h = tt
held_points u (desc.Var m t) h = tt
held_points u (desc.Proc s) h = tt
held_points u (desc.Alias m t) h = tt
held_points u (desc.Array m n t) h = tt
held_points u (desc.OpenArray m t) h = tt
held_points u (desc.ProcType m s) h = tt
held_points u (desc.Record r) h = tt

-- ---- where a block begins

pub record Start (u : Around) : Type 0 where
  pub known : AreKnown u.known
  pub named : AreNamed u.unit u.known
  pub held : AllHeld u
  pub shown : ShowBases u.shown u.unit
  pub bound : AllByRecursion (λ (b : Bound). is_some b.signature ≡ true) u.bound
  pub guards : u.guards ≡ []

pub declared_based : (names : List (List ℕ)) (u : Around) → Start u → (d : Declared) → OrderIs names (record u { later_types = names }) d → AreBased d.around
declared_based names u s d o =
    let v : Around = record u { later_types = names } in
    let w : Around = record u { later_types = names; known = o.more; own = o.made ++ u.own } in
    subst AreBased (sym o.around) (record {
      pointed = all_both (λ t. PointsWell w t.desc) o.made u.own (points_alike (with_types v o.made) w (record { unit = refl; shown = refl; own = refl; later_types = refl; path = refl }) o.made o.points)
          (all_from (λ t. HeldWell u t.desc) (λ t. PointsWell w t.desc) (λ t h. held_points w t.desc (well_to u w refl refl (back_covers o.made u.own) t.desc h)) u.own s.held);
      later = λ x e. front_covers o.made u.own (u.path ++ x) (o.named x e);
      shown = s.shown;
    })

known_one : (e : Entity) → IsKnown e → IsSound e
known_one entity.Unsound h = h
known_one e h = tt

pub known_sound : (ks : List Known) → AreKnown ks → AreSound ks
known_sound [] h = tt
known_sound (k ∷ ks) h = (known_one k.what h.0, known_sound ks h.1)

-- ---- variables are known under their own names

abbrev pub Names : Around → Type 0
Names u = AreNamed u.unit u.known

declared_named : (o : Option Known) (u : Around) (x : Ident) (e : Entity) → IsNamed u.unit x.name e → Names u → Names (declare_if o u x e)
declared_named (Some k) u x e h n = n
declared_named None u x e h n = (h, n)

constant_named : (unit x : List ℕ) (o : Option (Mark × Value)) → IsNamed unit x (constant_entity o)
constant_named unit x None = tt
constant_named unit x (Some p) = tt

type_named : (unit x : List ℕ) (o : Option (Mark × Typing)) → IsNamed unit x (type_entity o)
type_named unit x None = tt
type_named unit x (Some p) = tt

variable_named : (u : Around) (x : Ident) (o : Option (Mark × Typing)) → IsNamed u.unit x.name (variable_entity u x o)
variable_named u x None = tt
variable_named u x (Some p) = by (is_module_level u)
  where
    by : (b : Bool) → IsNamed u.unit x.name (entity.Variable (variable_of b u x.name) p.1.of)
    by true = (refl, refl)
    by false = (refl, tt)

variables_named : (ds : List IdentDef) (o : Option Typing) (u : Around) → Names u → Names (variables_with ds o u).around
variables_named [] o u n = n
variables_named (d ∷ ds) o u n =
    let p = paired_typing (marked u true d).node o in
    variables_named ds o (variable_marked u d.ident (marked u true d) o).around (declared_named (found_in_scope u d.ident.name) u d.ident (variable_entity u d.ident p) (variable_named u d.ident p) n)

plain_named : (f : Around → Declared) → IsPlain f → (u : Around) → Names u → Names (f u).around
plain_named f (a_constant d x) u n =
    let j = both (marked u false d) (constant_value u (phrase_of x) ▷ no_nil (phrase_of x).start) in
    declared_named (found_in_scope u d.ident.name) u d.ident (constant_entity j.node) (constant_named u.unit d.ident.name j.node) n
plain_named f (a_type d m) u n =
    let j = both (newly u d) (typing_as u (u.path ++ d.ident.name) (mark_or_hidden (newly u d).node) (written m) (written m).name) in
    let w = with_types u (types_made j.node) in
    declared_named (found_in_scope w d.ident.name) w d.ident (type_entity j.node) (type_named u.unit d.ident.name j.node) n
plain_named f (variables d ds m) u n =
    let j = (written m).typing u (u.path ++ first_name (d ∷ ds) ++ codes ":") mark.Hidden false in
    variables_named (d ∷ ds) j.node (with_types u (made_in j.node)) n

pub order_named : (fs : List (Around → Declared)) → AllByRecursion IsPlain fs → (u : Around) → Names u → Names (in_order fs u).around
order_named [] p u n = n
order_named (f ∷ fs) p u n = order_named fs p.1 (f u).around (plain_named f p.0 u n)
