-- The variables of a procedure have different names, where those of the text do, and the places of FOR and CASE rise.
use Rattle.std.proofs.Common.{◌≡◌, ◌≢◌, inl, inr, refl, sym, ap, ◌∙◌, subst, ℕ, ◌<◌, Bool, true, false, List, [], ◌∷◌, ◌++◌, map, arith}
use Rattle.std.specs.Prelude.{◌&&◌, ◌||◌, nat_lt, nat_eq}
use Rattle.std.specs.List.{AllByRecursion}
use Rattle.std.proofs.lemmas.Bool.{eqb-true}
use Rattle.ob_tree.specs.declared.pos.Pos.{Pos}
use Rattle.ob_types.specs.declared.types.TypeRef.{TypeRef}
use Rattle.ob_types.specs.declared.typed.Passing.{Passing}
use Rattle.ob_types.specs.declared.typed.Passing.TheVariants as passing
use Rattle.ob_types.specs.declared.typed.TypedVariable.{TypedVariable}
use Rattle.ob_types.specs.declared.typed.TypedParameter.{TypedParameter}
use Rattle.ob_types.specs.TypedSyntax.{Procedure}
use Rattle.ob_meaning.specs.Values.{Program, Held}
use Rattle.ob_meaning.specs.Meaning.{hidden}
use Rattle.ob_meaning.specs.Calls.{hidden_of_all, hidden_held, held_variable}
use Rattle.law_simulation_relation.specs.Layout.{held_name, static_parameter, static_held}
use Rattle.law_simulation_relation.specs.Relation.{Fresh, AreDifferent}
use Rattle.law_typing_forms.proofs.Modules.{other_name}
use Rattle.law_names_distinct.specs.Distinct.{AreDistinct}
use Rattle.law_names_distinct.proofs.Fresh.{distinct_both}
use Rattle.law_spelling_read.specs.Placed.{is_before, rise_behind, are_rising}
use Rattle.law_spelling_read.proofs.Order.{Before, before_then}
use Rattle.law_builds_bodies.specs.built_laws.Lettered.{is_lettered}
use Rattle.law_lists.proofs.Lists.{all_from, and_parts, less}

abbrev AreApart : List (List ℕ) → Type 0
AreApart xs = AreDistinct (λ (x : List ℕ). x) xs

-- ---- places that rise

later_line : (p q : Pos) (a b c : Bool) → nat_lt p.line q.line ≡ a → nat_eq p.line q.line ≡ b → nat_lt p.col q.col ≡ c → (a || (b && c)) ≡ true → Before p q
later_line p q true b c i j k e = inl (less p.line q.line i)
later_line p q false true true i j k e = inr (eqb-true p.line q.line j, less p.col q.col k)
later_line p q false true false i j k e = absurd cc
later_line p q false false c i j k e = absurd cc

before_is : (p q : Pos) → is_before p q ≡ true → Before p q
before_is p q e = later_line p q (nat_lt p.line q.line) (nat_eq p.line q.line) (nat_lt p.col q.col) refl refl refl e

rising_all : (p : Pos) (qs : List Pos) → rise_behind p qs ≡ true → AllByRecursion (λ q. Before p q) qs
rising_all p [] e = tt
rising_all p (q ∷ qs) e =
    let k = and_parts (is_before p q) (rise_behind q qs) e in
    let b = before_is p q k.0 in
    (b, all_from (λ r. Before q r) (λ r. Before p r) (λ r h. before_then p q r b h) qs (rising_all q qs k.1))

not_less : (a b : ℕ) → a < b → b ≡ a → ⊥
not_less a b l e = omega (arith, l, e)

differ : (p q : Pos) → Before p q → hidden q ≡ hidden p → ⊥
differ p q (inl l) e = let f : 0 ∷ q.line ∷ q.col ∷ [] ≡ 0 ∷ p.line ∷ p.col ∷ [] = e in let k : q.line ≡ p.line = cc in not_less p.line q.line l k
differ p q (inr h) e = let f : 0 ∷ q.line ∷ q.col ∷ [] ≡ 0 ∷ p.line ∷ p.col ∷ [] = e in let k : q.col ≡ p.col = cc in not_less p.col q.col h.1 k

hidden_differ : (p : Pos) (qs : List Pos) → AllByRecursion (λ q. Before p q) qs → AllByRecursion (λ y. y ≢ hidden p) (map hidden qs)
hidden_differ p [] h = tt
hidden_differ p (q ∷ qs) h = (differ p q h.0, hidden_differ p qs h.1)

behind_rising : (p : Pos) (qs : List Pos) → rise_behind p qs ≡ true → are_rising qs ≡ true
behind_rising p [] e = refl
behind_rising p (q ∷ qs) e = (and_parts (is_before p q) (rise_behind q qs) e).1

hidden_apart : (ps : List Pos) → are_rising ps ≡ true → AreApart (map hidden ps)
hidden_apart [] e = tt
hidden_apart (p ∷ ps) e = (hidden_differ p ps (rising_all p ps e), hidden_apart ps (behind_rising p ps e))

hidden_new : (ps : List Pos) → AllByRecursion (λ y. is_lettered y ≡ false) (map hidden ps)
hidden_new [] = tt
hidden_new (p ∷ ps) = (refl, hidden_new ps)

-- ---- variables by their names

fresh_all : (x : List ℕ) (hs : List Held) → AllByRecursion (λ y. y ≢ x) (map held_name hs) → Fresh x hs
fresh_all x [] h = tt
fresh_all x (k ∷ hs) h = (other_name x (held_name k) (λ e. h.0 (sym e)), fresh_all x hs h.1)

different_from : (hs : List Held) → AreApart (map held_name hs) → AreDifferent hs
different_from [] d = tt
different_from (h ∷ hs) d = (fresh_all (held_name h) hs d.0, different_from hs d.1)

module _ (program : Program) where
  parameter_name : (x : List ℕ) (how : Passing) (of : TypeRef) → held_name (static_parameter program (record { name = x; passing = how; of = of })) ≡ x
  parameter_name x passing.Scalar of = refl
  parameter_name x passing.Structure of = refl
  parameter_name x passing.OpenArray of = refl
  parameter_name x passing.Variable of = refl
  parameter_name x passing.VariableRecord of = refl
  parameter_name x passing.VariableOpenArray of = refl

  hidden_names : (ats : List Pos) → map held_name (map hidden_held ats) ≡ map hidden ats
  hidden_names [] = refl
  hidden_names (at ∷ ats) = ap (λ l. hidden at ∷ l) (hidden_names ats)

  local_names : (vs : List TypedVariable) (hs : List Held) → map held_name (map (held_variable program) vs ++ hs) ≡ map (λ (v : TypedVariable). v.name) vs ++ map held_name hs
  local_names [] hs = refl
  local_names (v ∷ vs) hs = ap (λ l. v.name ∷ l) (local_names vs hs)

  parameter_names : (ps : List TypedParameter) (hs : List Held) → map held_name (map (static_parameter program) ps ++ hs) ≡ map (λ (p : TypedParameter). p.name) ps ++ map held_name hs
  parameter_names [] hs = refl
  parameter_names (p ∷ ps) hs = ap (λ l. held_name (static_parameter program p) ∷ l) (parameter_names ps hs) ∙ ap (λ x. x ∷ (map (λ (p : TypedParameter). p.name) ps ++ map held_name hs)) (parameter_name p.name p.passing p.of)

  joined : (xs ys zs : List (List ℕ)) → xs ++ (ys ++ zs) ≡ (xs ++ ys) ++ zs
  joined [] ys zs = refl
  joined (x ∷ xs) ys zs = ap (λ l. x ∷ l) (joined xs ys zs)

  -- the names of a procedure, and those that FOR and CASE keep there
  abbrev own_names : Procedure → List (List ℕ)
  own_names p = map (λ (x : TypedParameter). x.name) p.parameters ++ map (λ (v : TypedVariable). v.name) p.locals

  all_names : (p : Procedure) → map held_name (static_held program p) ≡ own_names p ++ map hidden (hidden_of_all p.body)
  all_names p =
      parameter_names p.parameters (map (held_variable program) p.locals ++ map hidden_held (hidden_of_all p.body))
      ∙ ap (λ l. map (λ (x : TypedParameter). x.name) p.parameters ++ l) (local_names p.locals (map hidden_held (hidden_of_all p.body)) ∙ ap (λ l. map (λ (v : TypedVariable). v.name) p.locals ++ l) (hidden_names (hidden_of_all p.body)))
      ∙ joined (map (λ (x : TypedParameter). x.name) p.parameters) (map (λ (v : TypedVariable). v.name) p.locals) (map hidden (hidden_of_all p.body))

  pub are_different : (p : Procedure) → AreApart (own_names p) → AllByRecursion (λ x. is_lettered x ≡ true) (own_names p) → are_rising (hidden_of_all p.body) ≡ true → AreDifferent (static_held program p)
  are_different p apart lettered rising =
      different_from (static_held program p) (subst AreApart (sym (all_names p))
      (distinct_both (λ (x : List ℕ). x) is_lettered (own_names p) (map hidden (hidden_of_all p.body)) apart (hidden_apart (hidden_of_all p.body) rising) lettered (hidden_new (hidden_of_all p.body))))
