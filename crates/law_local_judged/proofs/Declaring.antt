-- Declarations of constants, types and variables in their order, with other interfaces around.
use Rattle.std.proofs.Common.{◌≡◌, refl, sym, ap, ◌∙◌, subst, ℕ, List, [], ◌∷◌, ◌++◌, Option, Some, None, Bool, true, false}
use Rattle.std.specs.Prelude.{is_some, codes}
use Rattle.std.specs.List.{AllByRecursion}
use Rattle.ob_tree.specs.declared.pos.Pos.{Pos}
use Rattle.ob_tree.specs.declared.names.QName.{QName}
use Rattle.ob_tree.specs.declared.ident.Ident.{Ident}
use Rattle.ob_tree.specs.declared.ident.IdentDef.{IdentDef}
use Rattle.ob_tree.specs.declared.ident.Mark.{Mark}
use Rattle.ob_tree.specs.declared.ident.Mark.TheVariants as mark
use Rattle.ob_tree.specs.declared.ident.Qualident.{Qualident}
use Rattle.ob_tree.specs.declared.expr.Expr.{Expr}
use Rattle.ob_tree.specs.declared.type_node.TypeNode.{TypeNode}
use Rattle.ob_types.specs.declared.desc.Desc.{Desc}
use Rattle.ob_types.specs.declared.value.Value.{Value}
use Rattle.ob_rules.specs.declared.entity.Entity.{Entity}
use Rattle.ob_rules.specs.declared.entity.Entity.TheVariants as entity
use Rattle.ob_rules.specs.declared.entity.Known.{Known}
use Rattle.ob_rules.specs.declared.broken.Rule.TheVariants as rule
use Rattle.ob_rules.specs.Judged.{notes_if, both, ◌▷◌, Notes}
use Rattle.ob_rules.specs.Names.{Around, found_in_scope}
use Rattle.ob_rules.specs.Expressions.{phrase_of, constant_value}
use Rattle.ob_rules.specs.Types.{Typing, written, is_module_level, marked, with_types}
use Rattle.ob_rules.specs.Headings.{mark_or_hidden}
use Rattle.ob_rules.specs.Declarations.{with_part, Declared, no_contents, declare_if, twice, no_nil, constant_entity, constant_with, constant_declared, equated, typing_as, type_entity, types_made, type_with, type_declared, variable_of, variable_entity, paired_typing, variable_marked, variables_with, first_name, made_in, variables_typed, variables_declared, in_order, newly, of_new}
use Rattle.law_local_judged.specs.Agreement.{IsIn}
use Rattle.law_local_judged.specs.Said.{SaidIn}
use Rattle.law_local_judged.specs.Followed.{beside, EntityIn, Agrees, Follows}
use Rattle.law_local_judged.specs.Declared.{MadeIn, TypingIn, OwnIn, IsSound, AreSound, IsPlain, a_constant, a_type, variables, DeclaredSame}
use Rattle.law_local_judged.proofs.Following.{said_left, said_right, follows_then, follows_made, follows_both}
use Rattle.law_local_judged.proofs.Expressions.{expr_follows, constant_value_follows}
use Rattle.law_local_judged.proofs.Typings.{TF, agrees_with}
use Rattle.law_local_judged.proofs.Parameters.{agrees_known}
use Rattle.law_local_judged.proofs.Written.{written_follows}
use Rattle.law_lists.proofs.Lists.{back_empty, front_empty}

not_empty : {A B : Type 0} {x : A} {xs : List A} → x ∷ xs ≡ [] → B
not_empty {A} {B} {x} {xs} e = absurd cc

-- ---- what is declared

-- what is declared once is known
declared_sound : (o : Option Known) (u : Around) (x : Ident) (e : Entity) → (notes_if (is_some o) rule.DeclaredTwice x.pos).broken ≡ [] → AreSound (declare_if o u x e).known → IsSound e
declared_sound None u x e q h = h.0
declared_sound (Some k) u x e q h = not_empty q

known_grows : (o : Option Known) (u : Around) (x : Ident) (e : Entity) → AreSound (declare_if o u x e).known → AreSound u.known
known_grows None u x e h = h.1
known_grows (Some k) u x e h = h

constant_there : (o : Option (Mark × Value)) → IsSound (constant_entity o) → (p : Mark × Value) × (o ≡ Some p)
constant_there None h = absurd h
constant_there (Some p) h = (p, refl)

type_there : (o : Option (Mark × Typing)) → IsSound (type_entity o) → (p : Mark × Typing) × (o ≡ Some p)
type_there None h = absurd h
type_there (Some p) h = (p, refl)

module _ (P : QName → Type 0) (s : QName → Option Desc) where
  agrees_declared : (o : Option Known) (u : Around) (x : Ident) (e : Entity) → Agrees P u s → EntityIn P e → Agrees P (declare_if o u x e) s
  agrees_declared None u x e a h = agrees_known P u s (record { name = x.name; scope = u.scope; what = e } ∷ u.known) a (h, a.known)
  agrees_declared (Some k) u x e a h = a

  declared_beside : (o : Option Known) (u : Around) (x : Ident) (e : Entity) → declare_if o (beside u s) x e ≡ beside (declare_if o u x e) s
  declared_beside None u x e = refl
  declared_beside (Some k) u x e = refl

  unit_stays : (o : Option Known) (u : Around) (x : Ident) (e : Entity) → (declare_if o u x e).unit ≡ u.unit
  unit_stays None u x e = refl
  unit_stays (Some k) u x e = refl

  module _ (u : Around) (a : Agrees P u s) (own : OwnIn P u.unit) where
    abbrev v : Around
    v = beside u s

    -- ---- constants

    no_nil_follows : (at : Pos) (c : Value) → TF P (λ c. Unit {0}) (no_nil at c) (no_nil at c)
    no_nil_follows at c = record { keeps = λ x e said. tt; same = λ x e said m. (tt, refl) }

    marked_follows : (b : Bool) (d : IdentDef) → TF P (λ m. Unit {0}) (marked u b d) (marked v b d)
    marked_follows b d = record { keeps = λ x e said. tt; same = λ x e said m. (tt, refl) }

    constant_follows : (d : IdentDef) (x : Expr) → Follows P (λ (p : Mark × Value). Unit {0} × Unit {0}) (λ p. Unit {0} × Unit {0}) (Unit {0} × Unit {0}) (both (marked u false d) (constant_value u (phrase_of x) ▷ no_nil (phrase_of x).start)) (both (marked v false d) (constant_value v (phrase_of x) ▷ no_nil (phrase_of x).start))
    constant_follows d x =
        follows_both P (λ m. Unit {0}) (λ m. Unit {0}) (λ c. Unit {0}) (λ c. Unit {0}) (Unit {0}) (Unit {0}) (marked u false d) (marked v false d) (constant_value u (phrase_of x) ▷ no_nil (phrase_of x).start) (constant_value v (phrase_of x) ▷ no_nil (phrase_of x).start) (marked_follows false d)
        (follows_then P (λ c. Unit {0}) (λ c. Unit {0}) (λ c. Unit {0}) (λ c. Unit {0}) (Unit {0}) (constant_value u (phrase_of x)) (constant_value v (phrase_of x)) (no_nil (phrase_of x).start) (no_nil (phrase_of x).start) (constant_value_follows P u s a (phrase_of x) (expr_follows P u s a x)) (λ c t. no_nil_follows (phrase_of x).start c))

    constant_in : (o : Option (Mark × Value)) → EntityIn P (constant_entity o)
    constant_in None = tt
    constant_in (Some p) = tt

    constant_same : (d : IdentDef) (x : Expr) → (constant_declared d (phrase_of x) u).part.notes.broken ≡ [] → SaidIn P (constant_declared d (phrase_of x) u).part.notes → AreSound (constant_declared d (phrase_of x) u).around.known → DeclaredSame P u s (constant_declared d (phrase_of x) u) (constant_declared d (phrase_of x) v)
    constant_same d x quiet said h =
        let j = both (marked u false d) (constant_value u (phrase_of x) ▷ no_nil (phrase_of x).start) in
        let o = found_in_scope u d.ident.name in
        let t = constant_there j.node (declared_sound o u d.ident (constant_entity j.node) (back_empty j.notes.broken (twice u d.ident).broken quiet) h) in
        let same = ((constant_follows d x).same t.0 t.1 (said_left P j.notes (twice u d.ident) said) (tt, tt)).1 in
        let moved : constant_declared d (phrase_of x) v ≡ constant_with v d.ident j = ap (constant_with v d.ident) same in
        record {
          part = ap (λ (z : Declared). z.part) moved;
          around = ap (λ (z : Declared). z.around) moved ∙ declared_beside o u d.ident (constant_entity j.node);
          agrees = agrees_declared o u d.ident (constant_entity j.node) a (constant_in j.node);
          unit = unit_stays o u d.ident (constant_entity j.node);
        }

    -- ---- types

    equated_in : (name : List ℕ) (m : Mark) (t : Typing) → TypingIn P t → TypingIn P (equated u name m t)
    equated_in name m t h = (own name, ((h.0, tt), h.1))

    as_follows : (name : List ℕ) (m : Mark) (n : TypeNode) (o : Option Qualident) → TF P (TypingIn P) (typing_as u name m (written n) o) (typing_as v name m (written n) o)
    as_follows name m n (Some q) = follows_made P (TypingIn P) (λ t. Unit {0}) (TypingIn P) (λ t. Unit {0}) (Unit {0}) (equated u name m) ((written n).typing u name m false) ((written n).typing v name m false) (written_follows P n u s a own name m false) (λ t h. equated_in name m t h) (λ t h k. tt)
    as_follows name m n None = written_follows P n u s a own name m false

    newly_follows : (d : IdentDef) → TF P (λ m. Unit {0}) (newly u d) (newly v d)
    newly_follows d = record { keeps = λ x e said. tt; same = λ x e said m. (tt, refl) }

    said_new : (x : Ident) (n : Notes) → SaidIn P (of_new u x n) → SaidIn P n
    said_new x n said = record { objects = said.objects; types = said.types; lengths = said.lengths }

    type_follows : (d : IdentDef) (n : TypeNode) → Follows P (λ (p : Mark × Typing). Unit {0} × TypingIn P p.1) (λ p. Unit {0} × Unit {0}) (Unit {0} × Unit {0}) (both (newly u d) (typing_as u (u.path ++ d.ident.name) (mark_or_hidden (newly u d).node) (written n) (written n).name)) (both (newly v d) (typing_as v (v.path ++ d.ident.name) (mark_or_hidden (newly v d).node) (written n) (written n).name))
    type_follows d n =
        follows_both P (λ m. Unit {0}) (λ m. Unit {0}) (TypingIn P) (λ t. Unit {0}) (Unit {0}) (Unit {0}) (newly u d) (newly v d) (typing_as u (u.path ++ d.ident.name) (mark_or_hidden (newly u d).node) (written n) (written n).name) (typing_as v (v.path ++ d.ident.name) (mark_or_hidden (newly v d).node) (written n) (written n).name)
        (newly_follows d) (as_follows (u.path ++ d.ident.name) (mark_or_hidden (newly u d).node) n (written n).name)

    made_there : (o : Option (Mark × Typing)) (p : Mark × Typing) → o ≡ Some p → TypingIn P p.1 → MadeIn P (types_made o) × EntityIn P (type_entity o)
    made_there o p e h = subst (λ o. MadeIn P (types_made o) × EntityIn P (type_entity o)) (sym e) (h.1, h.0)

    type_same : (d : IdentDef) (n : TypeNode) → (type_declared d (written n) u).part.notes.broken ≡ [] → SaidIn P (type_declared d (written n) u).part.notes → AreSound (type_declared d (written n) u).around.known → DeclaredSame P u s (type_declared d (written n) u) (type_declared d (written n) v)
    type_same d n quiet said h =
        let j = both (newly u d) (typing_as u (u.path ++ d.ident.name) (mark_or_hidden (newly u d).node) (written n) (written n).name) in
        let w = with_types u (types_made j.node) in
        let o = found_in_scope w d.ident.name in
        let t = type_there j.node (declared_sound o w d.ident (type_entity j.node) (back_empty j.notes.broken (twice u d.ident).broken quiet) h) in
        let f = type_follows d n in
        let said_j = said_new d.ident j.notes (said_left P (of_new u d.ident j.notes) (twice u d.ident) said) in
        let same = (f.same t.0 t.1 said_j (tt, tt)).1 in
        let m = made_there j.node t.0 t.1 (f.keeps t.0 t.1 said_j).1 in
        let moved : type_declared d (written n) v ≡ type_with v d.ident j = ap (type_with v d.ident) same in
        record {
          part = ap (λ (z : Declared). z.part) moved;
          around = ap (λ (z : Declared). z.around) moved ∙ declared_beside o w d.ident (type_entity j.node);
          agrees = agrees_declared o w d.ident (type_entity j.node) (agrees_with P u s (types_made j.node) a m.0) m.1;
          unit = unit_stays o w d.ident (type_entity j.node);
        }

  -- ---- variables

  variable_in : (u : Around) (x : Ident) (o : Option (Mark × Typing)) (t : Typing) → IsIn P t.of → (m : Option Mark) → o ≡ paired_typing m (Some t) → EntityIn P (variable_entity u x o)
  variable_in u x o t h None e = subst (λ o. EntityIn P (variable_entity u x o)) (sym e) tt
  variable_in u x o t h (Some m) e = subst (λ o. EntityIn P (variable_entity u x o)) (sym e) h

  entity_same : (u : Around) (x : Ident) (o : Option (Mark × Typing)) → variable_entity (beside u s) x o ≡ variable_entity u x o
  entity_same u x None = refl
  entity_same u x (Some p) = by (is_module_level u)
    where
      by : (b : Bool) → entity.Variable (variable_of b (beside u s) x.name) p.1.of ≡ entity.Variable (variable_of b u x.name) p.1.of
      by true = refl
      by false = refl

  one_variable : (u : Around) → Agrees P u s → (d : IdentDef) (t : Typing) → IsIn P t.of → DeclaredSame P u s (variable_marked u d.ident (marked u true d) (Some t)) (variable_marked (beside u s) d.ident (marked (beside u s) true d) (Some t))
  one_variable u a d t h =
      let p = paired_typing (marked u true d).node (Some t) in
      let e = variable_entity u d.ident p in
      let o = found_in_scope u d.ident.name in
      record {
        part = refl;
        around = ap (λ e. declare_if o (beside u s) d.ident e) (entity_same u d.ident p) ∙ declared_beside o u d.ident e;
        agrees = agrees_declared o u d.ident e a (variable_in u d.ident p t h (marked u true d).node refl);
        unit = unit_stays o u d.ident e;
      }

  more_variables : (ds : List IdentDef) (t : Typing) → IsIn P t.of → (u : Around) → Agrees P u s → DeclaredSame P u s (variables_with ds (Some t) u) (variables_with ds (Some t) (beside u s))
  more_variables [] t h u a = record { part = refl; around = refl; agrees = a; unit = refl }
  more_variables (d ∷ ds) t h u a =
      let f = one_variable u a d t h in
      let x = variable_marked u d.ident (marked u true d) (Some t) in
      let y = variable_marked (beside u s) d.ident (marked (beside u s) true d) (Some t) in
      let g = more_variables ds t h x.around f.agrees in
      let moved = ap (λ w. variables_with ds (Some t) w) f.around in
      record {
        part = ap (λ p. with_part p (variables_with ds (Some t) y.around).part) f.part ∙ ap (λ (z : Declared). with_part x.part z.part) moved ∙ ap (with_part x.part) g.part;
        around = ap (λ (z : Declared). z.around) moved ∙ g.around;
        agrees = g.agrees;
        unit = g.unit ∙ f.unit;
      }

  variables_grow : (ds : List IdentDef) (o : Option Typing) (u : Around) → AreSound (variables_with ds o u).around.known → AreSound u.known
  variables_grow [] o u h = h
  variables_grow (d ∷ ds) o u h =
      let x = variable_marked u d.ident (marked u true d) o in
      known_grows (found_in_scope u d.ident.name) u d.ident (variable_entity u d.ident (paired_typing (marked u true d).node o)) (variables_grow ds o x.around h)

  no_type : (m : Option Mark) (u : Around) (x : Ident) → IsSound (variable_entity u x (paired_typing m None)) → ⊥
  no_type None u x h = h
  no_type (Some m) u x h = h

  typed_there : (d : IdentDef) (ds : List IdentDef) (o : Option Typing) (u : Around) → (variables_with (d ∷ ds) o u).part.notes.broken ≡ [] → AreSound (variables_with (d ∷ ds) o u).around.known → (t : Typing) × (o ≡ Some t)
  typed_there d ds (Some t) u quiet h = (t, refl)
  typed_there d ds None u quiet h =
      let m = marked u true d in
      let x = variable_marked u d.ident m None in
      let first = front_empty x.part.notes.broken (variables_with ds None x.around).part.notes.broken quiet in
      absurd (no_type m.node u d.ident (declared_sound (found_in_scope u d.ident.name) u d.ident (variable_entity u d.ident (paired_typing m.node None)) (back_empty m.notes.broken (twice u d.ident).broken first) (variables_grow ds None x.around h)))

  variables_same : (u : Around) → Agrees P u s → OwnIn P u.unit → (d : IdentDef) (ds : List IdentDef) (n : TypeNode) → (variables_declared (d ∷ ds) (written n) u).part.notes.broken ≡ [] → SaidIn P (variables_declared (d ∷ ds) (written n) u).part.notes → AreSound (variables_declared (d ∷ ds) (written n) u).around.known
      → DeclaredSame P u s (variables_declared (d ∷ ds) (written n) u) (variables_declared (d ∷ ds) (written n) (beside u s))
  variables_same u a own d ds n quiet said h =
      let v = beside u s in
      let name = u.path ++ first_name (d ∷ ds) ++ codes ":" in
      let j = (written n).typing u name mark.Hidden false in
      let w = with_types u (made_in j.node) in
      let rest = variables_with (d ∷ ds) j.node w in
      let t = typed_there d ds j.node w (back_empty j.notes.broken rest.part.notes.broken quiet) h in
      let f = written_follows P n u s a own name mark.Hidden false in
      let said_j = said_left P j.notes rest.part.notes said in
      let tied = f.keeps t.0 t.1 said_j in
      let made_in_it : MadeIn P (made_in j.node) = subst (λ o. MadeIn P (made_in o)) (sym t.1) tied.1 in
      let g = subst (λ o. DeclaredSame P w s (variables_with (d ∷ ds) o w) (variables_with (d ∷ ds) o (beside w s))) (sym t.1) (more_variables (d ∷ ds) t.0 tied.0 w (agrees_with P u s (made_in j.node) a made_in_it)) in
      let moved : variables_declared (d ∷ ds) (written n) v ≡ variables_typed (d ∷ ds) v j = ap (variables_typed (d ∷ ds) v) (f.same t.0 t.1 said_j tt).1 in
      record {
        part = ap (λ (z : Declared). z.part) moved ∙ ap (with_part (record { notes = j.notes; contents = record no_contents { types = made_in j.node } })) g.part;
        around = ap (λ (z : Declared). z.around) moved ∙ g.around;
        agrees = g.agrees;
        unit = g.unit;
      }

  -- ---- declarations in their order

  plain_same : (f : Around → Declared) → IsPlain f → (u : Around) → Agrees P u s → OwnIn P u.unit → (f u).part.notes.broken ≡ [] → SaidIn P (f u).part.notes → AreSound (f u).around.known → DeclaredSame P u s (f u) (f (beside u s))
  plain_same f (a_constant d x) u a own quiet said h = constant_same u a own d x quiet said h
  plain_same f (a_type d n) u a own quiet said h = type_same u a own d n quiet said h
  plain_same f (variables d ds n) u a own quiet said h = variables_same u a own d ds n quiet said h

  plain_grows : (f : Around → Declared) → IsPlain f → (u : Around) → AreSound (f u).around.known → AreSound u.known
  plain_grows f (a_constant d x) u h = known_grows (found_in_scope u d.ident.name) u d.ident (constant_entity (both (marked u false d) (constant_value u (phrase_of x) ▷ no_nil (phrase_of x).start)).node) h
  plain_grows f (a_type d n) u h =
      let j = both (newly u d) (typing_as u (u.path ++ d.ident.name) (mark_or_hidden (newly u d).node) (written n) (written n).name) in
      let w = with_types u (types_made j.node) in
      known_grows (found_in_scope w d.ident.name) w d.ident (type_entity j.node) h
  plain_grows f (variables d ds n) u h =
      let j = (written n).typing u (u.path ++ first_name (d ∷ ds) ++ codes ":") mark.Hidden false in
      variables_grow (d ∷ ds) j.node (with_types u (made_in j.node)) h

  order_grows : (fs : List (Around → Declared)) → AllByRecursion IsPlain fs → (u : Around) → AreSound (in_order fs u).around.known → AreSound u.known
  order_grows [] p u h = h
  order_grows (f ∷ fs) p u h = plain_grows f p.0 u (order_grows fs p.1 (f u).around h)

  pub order_same : (fs : List (Around → Declared)) → AllByRecursion IsPlain fs → (u : Around) → Agrees P u s → OwnIn P u.unit → (in_order fs u).part.notes.broken ≡ [] → SaidIn P (in_order fs u).part.notes → AreSound (in_order fs u).around.known → DeclaredSame P u s (in_order fs u) (in_order fs (beside u s))
  order_same [] p u a own quiet said h = record { part = refl; around = refl; agrees = a; unit = refl }
  order_same (f ∷ fs) p u a own quiet said h =
      let x = f u in
      let y = f (beside u s) in
      let rest = in_order fs x.around in
      let k = plain_same f p.0 u a own (front_empty x.part.notes.broken rest.part.notes.broken quiet) (said_left P x.part.notes rest.part.notes said) (order_grows fs p.1 x.around h) in
      let g = order_same fs p.1 x.around k.agrees (subst (OwnIn P) (sym k.unit) own) (back_empty x.part.notes.broken rest.part.notes.broken quiet) (said_right P x.part.notes rest.part.notes said) h in
      let moved = ap (λ w. in_order fs w) k.around in
      record {
        part = ap (λ p. with_part p (in_order fs y.around).part) k.part ∙ ap (λ (z : Declared). with_part x.part z.part) moved ∙ ap (with_part x.part) g.part;
        around = ap (λ (z : Declared). z.around) moved ∙ g.around;
        agrees = g.agrees;
        unit = g.unit ∙ k.unit;
      }
