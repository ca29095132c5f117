-- What is asked of an argument, once it is judged.
use Rattle.std.proofs.Common.{◌≡◌, refl, sym, ap, ◌∙◌, Option, Some, None, List, [], ◌∷◌}
use Rattle.std.specs.Prelude.{is_some}
use Rattle.ob_tree.specs.declared.pos.Pos.{Pos}
use Rattle.ob_types.specs.declared.types.Mode.{Mode}
use Rattle.ob_types.specs.declared.types.Mode.TheVariants as mode
use Rattle.ob_types.specs.declared.types.TypeRef.{TypeRef}
use Rattle.ob_rules.specs.declared.notes.Notebook.{Notebook}
use Rattle.ob_rules.specs.declared.values.Valued.{Valued}
use Rattle.ob_rules.specs.declared.meant.Meant.{Meant}
use Rattle.ob_rules.specs.declared.meant.Asked.{Asked}
use Rattle.ob_rules.specs.declared.meant.Asked.TheVariants as asked
use Rattle.ob_rules.specs.declared.broken.Predeclared.{Predeclared}
use Rattle.ob_rules.specs.declared.broken.Rule.TheVariants as rule
use Rattle.ob_rules.specs.Judged.{Judged, breaks, wants, sound, ◌▷◌}
use Rattle.ob_rules.specs.Books.{book_after}
use Rattle.ob_rules.specs.Names.{Around, map_of}
use Rattle.ob_rules.specs.Phrases.{Phrase}
use Rattle.ob_rules.specs.Calls.{actual, var_actual, value_actual, meant_actual}
use Rattle.ob_rules.specs.Operators.{only_value}
use Rattle.ob_rules.specs.Values.{constant_in}
use Rattle.ob_rules.specs.Predeclared.{parameter, parameters, parameters_behind, values, changed_as, changed_meant, asked_first, asked_second}
use Rattle.ob_rules.specs.Expressions.{value_meant}
use Rattle.ob_cexpr_arguments.specs.Arguments.{argument_of, argument_says, value_left, meant_left, left_of, parameters_asked}
use Rattle.ob_cexpr_arguments.specs.Rounds.{Leaves}
use Rattle.ob_cexpr_arguments.proofs.JudgedLaws.{plain_left, then_left}

-- the value of a designator is by what it comes to
abbrev pub by_meant : Around → Pos → Option (Around → Judged Meant) → Judged Valued → Judged Valued
by_meant u at None v = v
by_meant u at (Some m) v = m u ▷ (λ x. value_meant at x)

value_by : (u : Around) (at : Pos) (o : Option (Around → Judged Meant)) (v : Judged Valued) (k : Notebook) → v ≡ by_meant u at o v → Leaves k v (book_after k (argument_says u o v)) (value_left at (argument_of u o v))
value_by u at None v k h = plain_left v k
value_by u at (Some m) v k h =
    let t = then_left (m u) _ (λ (x : Meant). value_meant at x) k _ (plain_left (m u) k) in (
      ap (λ j. j.node) h ∙ t.0,
      ap (λ j. book_after k j.notes) h ∙ t.1,
    )

var_by : (u : Around) (t : TypeRef) (p : Phrase) (o : Option (Around → Judged Meant)) (k : Notebook)
    → Leaves k (var_actual u t p o) (book_after k (argument_says u o (p.value u))) (var_actual u t (left_of p.start (argument_of u o (p.value u))) (meant_left (argument_of u o (p.value u))))
var_by u t p None k = then_left (p.value u) _ (λ x. breaks rule.UnfitParameter p.start) k _ (plain_left (p.value u) k)
var_by u t p (Some m) k = then_left (m u) _ (meant_actual (map_of u) t p.start) k _ (plain_left (m u) k)

pub actual_by : (u : Around) (how : Mode) (t : TypeRef) (p : Phrase) (k : Notebook) → p.value u ≡ by_meant u p.start p.meant (p.value u)
    → Leaves k (actual u how t p) (book_after k (argument_says u p.meant (p.value u))) (actual u how t (left_of p.start (argument_of u p.meant (p.value u))))
actual_by u mode.Value t p k h = then_left (p.value u) _ (value_actual (map_of u) t p.start) k _ (value_by u p.start p.meant (p.value u) k h)
actual_by u mode.Var t p k h = var_by u t p p.meant k

-- a value that no formal parameter takes
pub extra_by : (u : Around) (p : Phrase) (k : Notebook) → p.value u ≡ by_meant u p.start p.meant (p.value u)
    → Leaves k (p.value u) (book_after k (argument_says u p.meant (p.value u))) ((left_of p.start (argument_of u p.meant (p.value u))).value u)
extra_by u p k h = value_by u p.start p.meant (p.value u) k h

changed_by : (u : Around) (p : Phrase) (o : Option (Around → Judged Meant)) (k : Notebook)
    → Leaves k (changed_as u p o) (book_after k (argument_says u o (p.value u))) (changed_as u (left_of p.start (argument_of u o (p.value u))) (meant_left (argument_of u o (p.value u))))
changed_by u p None k = then_left (p.value u) _ (λ x. sound (only_value x)) k _ (plain_left (p.value u) k)
changed_by u p (Some m) k = then_left (m u) _ (changed_meant p.start) k _ (plain_left (m u) k)

pub parameter_by : (u : Around) (a : Asked) (p : Phrase) (k : Notebook) → p.value u ≡ by_meant u p.start p.meant (p.value u)
    → Leaves k (parameter u a p) (book_after k (argument_says u p.meant (p.value u))) (parameter u a (left_of p.start (argument_of u p.meant (p.value u))))
parameter_by u asked.Value p k h = extra_by u p k h
parameter_by u asked.Changed p k h = changed_by u p p.meant k
parameter_by u asked.Constant p k h = then_left (p.value u) _ (λ x. wants (is_some (constant_in x)) rule.NotConstant p.start x) k _ (extra_by u p k h)

-- the parameters of a predeclared procedure, by what is asked of the first two
pub values_asked : (u : Around) (ps : List Phrase) → values u ps ≡ parameters_asked u asked.Value asked.Value ps
values_asked u [] = refl
values_asked u (p ∷ ps) = ap (λ vs. p.value u ∷ vs) (values_asked u ps)

behind_asked : (u : Around) (f : Predeclared) (ps : List Phrase) → parameters_behind u f ps ≡ parameters_asked u (asked_second f) asked.Value ps
behind_asked u f [] = refl
behind_asked u f (p ∷ ps) = ap (λ vs. parameter u (asked_second f) p ∷ vs) (values_asked u ps)

pub all_asked : (u : Around) (f : Predeclared) (ps : List Phrase) → parameters u f ps ≡ parameters_asked u (asked_first f) (asked_second f) ps
all_asked u f [] = refl
all_asked u f (p ∷ ps) = ap (λ vs. parameter u (asked_first f) p ∷ vs) (behind_asked u f ps)
