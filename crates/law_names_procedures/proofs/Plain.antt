-- Constants, types and variables in their order, where nothing is broken.
use Rattle.std.proofs.Common.{◌≡◌, ℕ, Bool, true, false, List, [], ◌∷◌, ◌++◌, map, Option, Some, None, refl, sym, ap, subst, ◌∙◌, append_assoc, codes}
use Rattle.std.specs.Prelude.{bytes_eq, ◌||◌}
use Rattle.std.specs.List.{cons_option}
use Rattle.std.proofs.lemmas.Slice.Eq.{bytes_eq-Decides}
use Rattle.ob_tree.specs.declared.pos.Pos.{Pos}
use Rattle.ob_tree.specs.declared.ident.Ident.{Ident}
use Rattle.ob_tree.specs.declared.ident.IdentDef.{IdentDef}
use Rattle.ob_tree.specs.declared.ident.Import.{Import}
use Rattle.ob_tree.specs.declared.ident.Mark.{Mark}
use Rattle.ob_tree.specs.declared.ident.Mark.TheVariants as mark
use Rattle.ob_tree.specs.declared.ident.Qualident.{Qualident}
use Rattle.ob_types.specs.declared.value.Value.{Value}
use Rattle.ob_types.specs.declared.value.Value.TheVariants as literal
use Rattle.ob_types.specs.declared.desc.Desc.TheVariants as desc
use Rattle.ob_types.specs.declared.typed.TypedType.{TypedType}
use Rattle.ob_rules.specs.declared.entity.Entity.{Entity}
use Rattle.ob_rules.specs.declared.entity.Known.{Known}
use Rattle.ob_rules.specs.declared.broken.Broken.{Broken}
use Rattle.ob_rules.specs.declared.broken.Rule.TheVariants as rule
use Rattle.ob_rules.specs.Judged.{both, notes_if, ◌▷◌}
use Rattle.ob_rules.specs.Names.{Around, found_in_scope, is_among}
use Rattle.ob_rules.specs.Expressions.{constant_value}
use Rattle.ob_rules.specs.Phrases.{Phrase}
use Rattle.ob_rules.specs.Types.{Typing, Written, is_module_level, marked, with_types}
use Rattle.ob_rules.specs.Headings.{mark_or_hidden}
use Rattle.ob_rules.specs.Declarations.{Declared, declare_if, no_nil, constant_entity, constant_contents, constant_declared, equated, typing_as, type_entity, types_made, type_declared, variable_entity, variable_contents, paired_typing, variable_marked, variables_with, made_in, behind_part, variables_declared, first_name, in_order, is_system, target_of, import_entity, import_declared, twice, newly}
use Rattle.law_names_procedures.proofs.Judges.{Has, Speaks, not_empty, has_more, breaks_speaks, then_speaks, both_speak, made_speaks}
use Rattle.law_names_procedures.proofs.Knowing.{IsKnown, AreKnown}
use Rattle.law_names_procedures.proofs.Points.{holds, Covers, holds_join, front_covers, back_covers, PointsWell, Points, points_more, points_one, points_alike}
use Rattle.law_names_procedures.proofs.Typings.{IsMade, IsWell, constant_speaks, mark_speaks, one_holds, newly_has}
use Rattle.law_lists.proofs.Lists.{Anything, IfThere, all_both, back_empty, front_empty}

-- What stands around behind a part: more is known, and there are more types, which are made with pointers that have bases. The names are
-- those of types that it declares.
pub record OrderIs (names : List (List ℕ)) (u : Around) (d : Declared) : Type 0 where
  pub more : List Known
  pub made : List TypedType
  pub around : d.around ≡ record u { known = more; own = made ++ u.own }
  pub known : AreKnown more
  pub points : Points u made
  pub named : (x : List ℕ) → is_among x names ≡ true → holds made (u.path ++ x) ≡ true
  pub none : d.part.contents.procedures ≡ []

pub record PlainIs (o : Option (List ℕ)) (u : Around) (d : Declared) : Type 0 where
  pub more : List Known
  pub made : List TypedType
  pub around : d.around ≡ record u { known = more; own = made ++ u.own }
  pub known : AreKnown more
  pub points : Points u made
  pub named : IfThere (λ x. holds made (u.path ++ x) ≡ true) o
  pub none : d.part.contents.procedures ≡ []

abbrev pub GoodPlain : Option (List ℕ) → (Around → Declared) → Type 0
GoodPlain o f = (u : Around) → AreKnown u.known → (f u).part.notes.broken ≡ [] → PlainIs o u (f u)

declare_is : (o : Option Known) (u : Around) (x : Ident) (e : Entity) → declare_if o u x e ≡ record u { known = (declare_if o u x e).known }
declare_is (Some k) u x e = refl
declare_is None u x e = refl

declare_known : (o : Option Known) (u : Around) (x : Ident) (e : Entity) → AreKnown u.known → IsKnown e → AreKnown (declare_if o u x e).known
declare_known (Some k) u x e h i = h
declare_known None u x e h i = (i, h)

-- ---- constants

nil_speaks : (at : Pos) (v : Value) → Speaks Anything (no_nil at v)
nil_speaks at literal.Nil = breaks_speaks {A = Value} Anything rule.NotConstant at
nil_speaks at v = λ e. tt

constant_is : (o : Option (Mark × Value)) → Has (λ p. Unit {0} × Unit {0}) o → IsKnown (constant_entity o)
constant_is None h = absurd h
constant_is (Some p) h = tt

constant_none : (b : Bool) (x : Ident) (o : Option (Mark × Value)) → (constant_contents b x o).procedures ≡ []
constant_none true x None = refl
constant_none true x (Some p) = refl
constant_none false x o = refl

pub constant_good : (d : IdentDef) (x : Phrase) → GoodPlain None (constant_declared d x)
constant_good d x u k e =
    let j = both (marked u false d) (constant_value u x ▷ no_nil x.start) in
    let f : j.notes.broken ≡ [] = front_empty j.notes.broken (twice u d.ident).broken e in
    let h = both_speak Anything Anything (marked u false d) (constant_value u x ▷ no_nil x.start) (mark_speaks u false d) (then_speaks Anything Anything (constant_value u x) (no_nil x.start) (constant_speaks u x) (λ v i. nil_speaks x.start v)) f in
    record {
      more = (declare_if (found_in_scope u d.ident.name) u d.ident (constant_entity j.node)).known;
      made = [];
      around = declare_is (found_in_scope u d.ident.name) u d.ident (constant_entity j.node);
      known = declare_known (found_in_scope u d.ident.name) u d.ident (constant_entity j.node) k (constant_is j.node h);
      points = tt;
      named = tt;
      none = constant_none (is_module_level u) d.ident j.node;
    }

-- ---- types

abbrev IsNamed : Around → List ℕ → Typing → Type 0
IsNamed u name t = Points u t.made × (holds t.made name ≡ true)

as_well : (u : Around) (name : List ℕ) (m : Mark) (w : Written) → IsWell w → AreKnown u.known → (o : Option Qualident) → w.name ≡ o → Speaks (IsNamed u name) (typing_as u name m w o)
as_well u name m w g k (Some q) e =
    made_speaks (IsMade u name w.name) (IsNamed u name) (equated u name m) (w.typing u name m false) (g u name m false k)
    (λ t h. (points_one u (record { name = name; desc = desc.Alias m t.of }) t.made tt h.0, one_holds name (record { name = name; desc = desc.Alias m t.of }) t.made refl))
as_well u name m w g k None e = λ n. has_more (IsMade u name w.name) (IsNamed u name) (w.typing u name m false).node (λ t h. (h.0, h.1 e)) (g u name m false k n)

type_is : (P : Mark × Typing → Type 0) (o : Option (Mark × Typing)) → Has P o → IsKnown (type_entity o)
type_is P None h = absurd h
type_is P (Some p) h = tt

types_point : (u : Around) (name : List ℕ) (o : Option (Mark × Typing)) → Has (λ p. Unit {0} × IsNamed u name p.1) o → Points u (types_made o) × (holds (types_made o) name ≡ true)
types_point u name None h = absurd h
types_point u name (Some p) h = h.1

pub type_good : (d : IdentDef) (w : Written) → IsWell w → GoodPlain (Some d.ident.name) (type_declared d w)
type_good d w g u k e =
    let m = newly u d in
    let name = u.path ++ d.ident.name in
    let t = typing_as u name (mark_or_hidden m.node) w w.name in
    let j = both m t in
    let f : j.notes.broken ≡ [] = front_empty j.notes.broken (twice u d.ident).broken e in
    let h : Has (λ p. Unit {0} × IsNamed u name p.1) j.node = both_speak Anything (IsNamed u name) m t (λ i. newly_has u d (back_empty j.notes.broken (twice u d.ident).broken e) (mark_speaks u false d i)) (as_well u name (mark_or_hidden m.node) w g k w.name refl) f in
    let v = with_types u (types_made j.node) in
    record {
      more = (declare_if (found_in_scope v d.ident.name) v d.ident (type_entity j.node)).known;
      made = types_made j.node;
      around = declare_is (found_in_scope v d.ident.name) v d.ident (type_entity j.node);
      known = declare_known (found_in_scope v d.ident.name) v d.ident (type_entity j.node) k (type_is (λ p. Unit {0} × IsNamed u name p.1) j.node h);
      points = (types_point u name j.node h).0;
      named = (types_point u name j.node h).1;
      none = refl;
    }

-- ---- variables

-- only more is known behind a part
pub record VariablesAre (u : Around) (d : Declared) : Type 0 where
  pub more : List Known
  pub around : d.around ≡ record u { known = more }
  pub known : AreKnown more
  pub none : d.part.contents.procedures ≡ []

variable_is : (u : Around) (x : Ident) (m : Option Mark) (t : Typing) → Has Anything m → IsKnown (variable_entity u x (paired_typing m (Some t)))
variable_is u x None t h = absurd h
variable_is u x (Some m) t h = tt

variable_none : (x : Ident) (o : Option (Mark × Typing)) → (variable_contents x o).procedures ≡ []
variable_none x None = refl
variable_none x (Some p) = refl

variables_are : (ds : List IdentDef) (t : Typing) (u : Around) → AreKnown u.known → (variables_with ds (Some t) u).part.notes.broken ≡ [] → VariablesAre u (variables_with ds (Some t) u)
variables_are [] t u k e = record { more = u.known; around = refl; known = k; none = refl }
variables_are (d ∷ ds) t u k e =
    let m = marked u true d in
    let a = variable_marked u d.ident m (Some t) in
    let v = a.around in
    let rest = variables_with ds (Some t) v in
    let h = mark_speaks u true d (front_empty m.notes.broken (twice u d.ident).broken (front_empty a.part.notes.broken rest.part.notes.broken e)) in
    let n = variable_entity u d.ident (paired_typing m.node (Some t)) in
    let r = variables_are ds t v (declare_known (found_in_scope u d.ident.name) u d.ident n k (variable_is u d.ident m.node t h)) (back_empty a.part.notes.broken rest.part.notes.broken e) in
    record {
      more = r.more;
      around = r.around ∙ ap (λ (z : Around). record z { known = r.more }) (declare_is (found_in_scope u d.ident.name) u d.ident n);
      known = r.known;
      none = ap (λ ps. ps ++ rest.part.contents.procedures) (variable_none d.ident (paired_typing m.node (Some t))) ∙ r.none;
    }

typed_is : (ds : List IdentDef) (u : Around) (o : Option Typing) → Has (λ t. Points u t.made) o → AreKnown u.known → (variables_with ds o (with_types u (made_in o))).part.notes.broken ≡ [] → VariablesAre (with_types u (made_in o)) (variables_with ds o (with_types u (made_in o))) × Points u (made_in o)
typed_is ds u None h k e = absurd h
typed_is ds u (Some t) h k e = (variables_are ds t (with_types u t.made) k e, h)

pub variables_good : (ds : List IdentDef) (w : Written) → IsWell w → GoodPlain None (variables_declared ds w)
variables_good ds w g u k e =
    let name = u.path ++ first_name ds ++ codes ":" in
    let t = w.typing u name mark.Hidden false in
    let rest = variables_with ds t.node (with_types u (made_in t.node)) in
    let h : Has (λ t. Points u t.made) t.node = has_more (IsMade u name w.name) (λ t. Points u t.made) t.node (λ t i. i.0) (g u name mark.Hidden false k (front_empty t.notes.broken rest.part.notes.broken e)) in
    let r = typed_is ds u t.node h k (back_empty t.notes.broken rest.part.notes.broken e) in
    record { more = r.0.more; made = made_in t.node; around = r.0.around; known = r.0.known; points = r.1; named = tt; none = r.0.none }

-- ---- imports

system_or : (b : Bool) (i : Import) (t : Ident) (bs : List Broken) → (notes_if b rule.ReservedModule t.pos).broken ++ bs ≡ [] → IsKnown (import_entity b t)
system_or true i t bs e = not_empty _ bs e
system_or false i t bs e = tt

import_good : (i : Import) (u : Around) → AreKnown u.known → (import_declared i (target_of i) u).part.notes.broken ≡ [] → VariablesAre u (import_declared i (target_of i) u)
import_good i u k e =
    let t = target_of i in
    let n = import_entity (is_system t.name) t in
    record {
      more = (declare_if (found_in_scope u i.ident.name) u i.ident n).known;
      around = declare_is (found_in_scope u i.ident.name) u i.ident n;
      known = declare_known (found_in_scope u i.ident.name) u i.ident n k (system_or (is_system t.name) i t (twice u i.ident).broken e);
      none = refl;
    }

pub imports_good : (is : List Import) (u : Around) → AreKnown u.known → (in_order (map (λ i. import_declared i (target_of i)) is) u).part.notes.broken ≡ [] → VariablesAre u (in_order (map (λ i. import_declared i (target_of i)) is) u)
imports_good [] u k e = record { more = u.known; around = refl; known = k; none = refl }
imports_good (i ∷ is) u k e =
    let a = import_declared i (target_of i) u in
    let rest = in_order (map (λ i. import_declared i (target_of i)) is) a.around in
    let p = import_good i u k (front_empty a.part.notes.broken rest.part.notes.broken e) in
    let r = imports_good is a.around (subst (λ (v : Around). AreKnown v.known) (sym p.around) p.known) (back_empty a.part.notes.broken rest.part.notes.broken e) in
    record { more = r.more; around = r.around ∙ ap (λ (z : Around). record z { known = r.more }) p.around; known = r.known; none = r.none }

-- ---- in order

associated : (a b c : Bool) → (a || (b || c)) ≡ true → ((a || b) || c) ≡ true
associated true b c h = refl
associated false b c h = h

ahead_covers : (a b c : List TypedType) → Covers (a ++ (b ++ c)) ((a ++ b) ++ c)
ahead_covers a b c x h =
    holds_join (a ++ b) c x ∙ ap (λ d. d || holds c x) (holds_join a b x)
    ∙ associated (holds a x) (holds b x) (holds c x) (ap (λ d. holds a x || d) (sym (holds_join b c x)) ∙ (sym (holds_join a (b ++ c) x) ∙ h))

-- first a, and then b, which is made where a is known
points_ahead : (u : Around) (ks : List Known) (a b : List TypedType) → Points u a → Points (record u { known = ks; own = a ++ u.own }) b → Points u (b ++ a)
points_ahead u ks a b h k =
    all_both (λ t. PointsWell (with_types u (b ++ a)) t.desc) b a
    (points_more u (b ++ (a ++ u.own)) ((b ++ a) ++ u.own) (ahead_covers b a u.own) b (points_alike (record u { known = ks; own = b ++ (a ++ u.own) }) (record u { own = b ++ (a ++ u.own) }) (record { unit = refl; shown = refl; own = refl; later_types = refl; path = refl }) b k))
    (points_more u (a ++ u.own) ((b ++ a) ++ u.own) (λ x l. ahead_covers b a u.own x (back_covers b (a ++ u.own) x l)) a h)

names_in : (o : Option (List ℕ)) (names : List (List ℕ)) (path : List ℕ) (a b : List TypedType) → IfThere (λ x. holds a (path ++ x) ≡ true) o → ((x : List ℕ) → is_among x names ≡ true → holds b (path ++ x) ≡ true) → (x : List ℕ) → is_among x (cons_option o names) ≡ true → holds (b ++ a) (path ++ x) ≡ true
names_in None names path a b h k x e = front_covers b a (path ++ x) (k x e)
names_in (Some y) names path a b h k x e = go (bytes_eq y x) refl e
  where
    go : (c : Bool) → bytes_eq y x ≡ c → (c || is_among x names) ≡ true → holds (b ++ a) (path ++ x) ≡ true
    go true i e = back_covers b a (path ++ x) (subst (λ z. holds a (path ++ z) ≡ true) ((bytes_eq-Decides y x).0 i) h)
    go false i e = front_covers b a (path ++ x) (k x e)

pub order_one : (o : Option (List ℕ)) (names : List (List ℕ)) (u : Around) (a d : Declared) → PlainIs o u a → OrderIs names a.around d → OrderIs (cons_option o names) u (behind_part a.part d)
order_one o names u a d p q =
    let r : OrderIs names (record u { known = p.more; own = p.made ++ u.own }) d = subst (λ (v : Around). OrderIs names v d) p.around q in
    record {
      more = r.more;
      made = r.made ++ p.made;
      around = r.around ∙ ap (λ ts. let z : Around = record u { known = r.more; own = ts } in z) (sym (append_assoc r.made p.made u.own));
      known = r.known;
      points = points_ahead u p.more p.made r.made p.points r.points;
      named = names_in o names u.path p.made r.made p.named r.named;
      none = ap (λ ps. ps ++ d.part.contents.procedures) p.none ∙ r.none;
    }
