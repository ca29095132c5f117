-- Declarations in their order: the types that they make are known behind them, and no procedure is among what they add.
use Rattle.std.proofs.Common.{⊎_elim, ◌≡◌, Bool, true, false, List, [], ◌∷◌, ◌++◌, map, Option, Some, None, refl, sym, subst, ◌∙◌, ℕ}
use Rattle.std.specs.List.{AllByRecursion}
use Rattle.ob_tree.specs.declared.ident.Ident.{Ident}
use Rattle.ob_tree.specs.declared.ident.IdentDef.{IdentDef}
use Rattle.ob_tree.specs.declared.ident.Import.{Import}
use Rattle.ob_tree.specs.declared.ident.Mark.{Mark}
use Rattle.ob_types.specs.declared.value.Value.{Value}
use Rattle.ob_types.specs.declared.typed.TypedType.{TypedType}
use Rattle.ob_rules.specs.declared.entity.Entity.{Entity}
use Rattle.ob_rules.specs.declared.entity.Known.{Known}
use Rattle.ob_rules.specs.Judged.{Judged, both, ◌▷◌}
use Rattle.ob_rules.specs.Names.{Around, found_in_scope}
use Rattle.ob_rules.specs.Expressions.{constant_value}
use Rattle.ob_rules.specs.Phrases.{Phrase}
use Rattle.ob_rules.specs.Types.{Typing, Written, is_module_level, marked, with_types}
use Rattle.ob_rules.specs.Headings.{mark_or_hidden}
use Rattle.ob_rules.specs.Declarations.{Contents, no_contents, Part, Declared, declare_if, declare, constant_contents, no_nil, constant_declared, typing_as, types_made, type_declared, variable_contents, paired_typing, variables_with, made_in, variables_typed, variables_declared, then_declared, in_order, import_declared, target_of, newly}
use Rattle.law_methods_introduced.proofs.Binding.{Named, named_front, named_back, named_parts}
use Rattle.law_methods_introduced.proofs.Lists.{Differ, swap, joined_right}
use Rattle.law_lists.proofs.Lists.{both_empty}

pub record Moves (u : Around) (d : Declared) : Type 0 where
  pub path : d.around.path ≡ u.path
  pub unit : d.around.unit ≡ u.unit
  pub shown : d.around.shown ≡ u.shown
  pub own : (rest : List TypedType) → Differ (u.own ++ (d.part.contents.types ++ rest)) → Differ (d.around.own ++ rest)
  pub procedures : d.part.contents.procedures ≡ []
  pub bound : d.part.contents.bound ≡ []
  -- no type is known that was not known before and is not made
  pub names : (x : List ℕ) → Named x d.around.own → Named x (u.own ++ d.part.contents.types)

abbrev pub GoodPlain : (Around → Declared) → Type 0
GoodPlain f = (u : Around) → Moves u (f u)

-- what is declared leaves the rest as it is
pub record IsLike (u v : Around) : Type 0 where
  pub path : v.path ≡ u.path
  pub unit : v.unit ≡ u.unit
  pub shown : v.shown ≡ u.shown
  pub own : v.own ≡ u.own

declared_if : (o : Option Known) (u : Around) (x : Ident) (e : Entity) → IsLike u (declare_if o u x e)
declared_if (Some k) u x e = record { path = refl; unit = refl; shown = refl; own = refl }
declared_if None u x e = record { path = refl; unit = refl; shown = refl; own = refl }

declared : (u : Around) (x : Ident) (e : Entity) → IsLike u (declare u x e)
declared u x e = declared_if (found_in_scope u x.name) u x e

pub then_moves : (u : Around) (a : Declared) (f : Around → Declared) → Moves u a → Moves a.around (f a.around) → Moves u (then_declared a f)
then_moves u a f g h =
    let ts = a.part.contents.types in
    let us = (f a.around).part.contents.types in
    record {
      path = h.path ∙ g.path;
      unit = h.unit ∙ g.unit;
      shown = h.shown ∙ g.shown;
      own = λ rest d. h.own rest (g.own ((f a.around).part.contents.types ++ rest) (joined_right u.own a.part.contents.types (f a.around).part.contents.types rest d));
      procedures = both_empty a.part.contents.procedures (f a.around).part.contents.procedures g.procedures h.procedures;
      bound = both_empty a.part.contents.bound (f a.around).part.contents.bound g.bound h.bound;
      names = λ x k. ⊎_elim (λ i. ⊎_elim (λ j. named_front x u.own (ts ++ us) j) (λ j. named_back x u.own (ts ++ us) (named_front x ts us j)) (named_parts x u.own ts (g.names x i))) (λ i. named_back x u.own (ts ++ us) (named_back x ts us i)) (named_parts x a.around.own us (h.names x k));
    }

-- without types
plain_moves : (u : Around) (p : Part) (v : Around) → IsLike u v → p.contents.types ≡ [] → p.contents.procedures ≡ [] → p.contents.bound ≡ [] → Moves u (record { part = p; around = v })
plain_moves u p v l t q b = record {
  path = l.path;
  unit = l.unit;
  shown = l.shown;
  own = λ rest d. subst (λ o. Differ (o ++ rest)) (sym l.own) (subst (λ ts. Differ (u.own ++ (ts ++ rest))) t d);
  procedures = q;
  bound = b;
  names = λ x k. named_front x u.own p.contents.types (subst (Named x) l.own k);
}

-- with types that are known behind them
types_move : (u : Around) (p : Part) (v : Around) → IsLike (with_types u p.contents.types) v → p.contents.procedures ≡ [] → p.contents.bound ≡ [] → Moves u (record { part = p; around = v })
types_move u p v l q b = record {
  path = l.path;
  unit = l.unit;
  shown = l.shown;
  own = λ rest d. subst (λ o. Differ (o ++ rest)) (sym l.own) (swap u.own p.contents.types rest d);
  procedures = q;
  bound = b;
  names = λ x k. ⊎_elim (λ i. named_back x u.own p.contents.types i) (λ i. named_front x u.own p.contents.types i) (named_parts x p.contents.types u.own (subst (Named x) l.own k));
}

abbrev IsNone : Contents → Type 0
IsNone c = c.types ≡ [] × (c.procedures ≡ [] × (c.bound ≡ []))

constants_none : (b : Bool) (x : Ident) (p : Option (Mark × Value)) → IsNone (constant_contents b x p)
constants_none true x None = (refl, (refl, refl))
constants_none true x (Some p) = (refl, (refl, refl))
constants_none false x p = (refl, (refl, refl))

pub constant_moves : (d : IdentDef) (x : Phrase) → GoodPlain (constant_declared d x)
constant_moves d x u =
    let j = both (marked u false d) (constant_value u x ▷ no_nil x.start) in
    let n = constants_none (is_module_level u) d.ident j.node in
    plain_moves u (constant_declared d x u).part (constant_declared d x u).around (declared u d.ident _) n.0 n.1.0 n.1.1

pub type_moves : (d : IdentDef) (w : Written) → GoodPlain (type_declared d w)
type_moves d w u =
    let m = newly u d in
    let t = typing_as u (u.path ++ d.ident.name) (mark_or_hidden m.node) w w.name in
    types_move u (type_declared d w u).part (type_declared d w u).around (declared (with_types u (types_made (both m t).node)) d.ident _) refl refl

variable_none : (x : Ident) (p : Option (Mark × Typing)) → IsNone (variable_contents x p)
variable_none x None = (refl, (refl, refl))
variable_none x (Some p) = (refl, (refl, refl))

variables_move : (ds : List IdentDef) (t : Option Typing) → GoodPlain (variables_with ds t)
variables_move [] t u = plain_moves u (variables_with [] t u).part u (record { path = refl; unit = refl; shown = refl; own = refl }) refl refl refl
variables_move (d ∷ ds) t u =
    let p = paired_typing (marked u true d).node t in
    let n = variable_none d.ident p in
    let v = declare u d.ident _ in
    then_moves u (record { part = record { notes = _; contents = variable_contents d.ident p }; around = v }) (λ v. variables_with ds t v)
    (plain_moves u (record { notes = _; contents = variable_contents d.ident p }) v (declared u d.ident _) n.0 n.1.0 n.1.1) (variables_move ds t v)

typed_move : (ds : List IdentDef) (u : Around) (t : Judged Typing) → Moves u (variables_typed ds u t)
typed_move ds u t =
    let p : Part = record { notes = t.notes; contents = record no_contents { types = made_in t.node } } in
    let v = with_types u (made_in t.node) in
    then_moves u (record { part = p; around = v }) (λ v. variables_with ds t.node v) (types_move u p v (record { path = refl; unit = refl; shown = refl; own = refl }) refl refl) (variables_move ds t.node v)

pub variables_declared_move : (ds : List IdentDef) (w : Written) → GoodPlain (variables_declared ds w)
variables_declared_move ds w u = typed_move ds u _

pub order_moves : (fs : List (Around → Declared)) → AllByRecursion GoodPlain fs → GoodPlain (in_order fs)
order_moves [] g u = plain_moves u (in_order [] u).part u (record { path = refl; unit = refl; shown = refl; own = refl }) refl refl refl
order_moves (f ∷ fs) g u = then_moves u (f u) (λ v. in_order fs v) (g.0 u) (order_moves fs g.1 (f u).around)

import_moves : (i : Import) (t : Ident) → GoodPlain (import_declared i t)
import_moves i t u = plain_moves u (import_declared i t u).part (import_declared i t u).around (declared u i.ident _) refl refl refl

pub imports_move : (is : List Import) → AllByRecursion GoodPlain (map (λ i. import_declared i (target_of i)) is)
imports_move [] = tt
imports_move (i ∷ is) = (import_moves i (target_of i), imports_move is)
