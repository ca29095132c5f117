-- Calls of predeclared procedures, with other interfaces around.
use Rattle.std.proofs.Common.{◌≡◌, refl, ap, subst, List, [], ◌∷◌, Option, Some, None, Bool, true, false}
use Rattle.std.specs.Prelude.{is_some}
use Rattle.std.specs.List.{AllByRecursion}
use Rattle.ob_tree.specs.declared.pos.Pos.{Pos}
use Rattle.ob_tree.specs.declared.names.QName.{QName}
use Rattle.ob_tree.specs.declared.ident.Qualident.{Qualident}
use Rattle.ob_types.specs.declared.types.Basic.{Basic}
use Rattle.ob_types.specs.declared.types.TypeRef.{TypeRef}
use Rattle.ob_types.specs.declared.desc.Desc.{Desc}
use Rattle.ob_rules.specs.declared.broken.Predeclared.{Predeclared}
use Rattle.ob_rules.specs.declared.broken.Predeclared.TheVariants as pre
use Rattle.ob_rules.specs.declared.meant.Asked.{Asked}
use Rattle.ob_rules.specs.declared.meant.Asked.TheVariants as asked
use Rattle.ob_rules.specs.declared.meant.Meant.{Meant}
use Rattle.ob_rules.specs.declared.meant.Meant.TheVariants as means
use Rattle.ob_rules.specs.declared.meant.Where.{Where}
use Rattle.ob_rules.specs.declared.values.Valued.{Valued}
use Rattle.ob_rules.specs.declared.broken.Rule.TheVariants as rule
use Rattle.ob_rules.specs.Judged.{Judged, sound, breaks, also, wants, each_sound, both, ◌▷◌}
use Rattle.ob_rules.specs.Names.{Around, map_of, type_named}
use Rattle.ob_rules.specs.Values.{value_at, type, constant_in}
use Rattle.ob_rules.specs.Operators.{only_value}
use Rattle.ob_rules.specs.Calls.{misplaced}
use Rattle.ob_rules.specs.Phrases.{Phrase}
use Rattle.ob_rules.specs.Designators.{takes_type}
use Rattle.ob_rules.specs.Predeclared.{changed_meant, changed_as, values, asked_first, asked_second, parameter, parameters_behind, parameters, is_function, fit, if_fit, call_fit, extreme, type_parameter, extreme_of, basic_if, extreme_call, call_predeclared}
use Rattle.law_local_judged.specs.Agreement.{IsIn, Agree}
use Rattle.law_local_judged.specs.Said.{KindIn, SaidIn, PlaceIn, ValuedIn, ValuedTied, MeantIn, MeantTied}
use Rattle.law_local_judged.specs.Followed.{beside, Agrees, Follows}
use Rattle.law_local_judged.proofs.Tests.{target_basics}
use Rattle.law_local_judged.proofs.Following.{said_left, follows_none, follows_sound, follows_to, follows_wants, follows_unless, follows_also, follows_then, follows_made, none_then, twice_none, then_node, both_nodes, front_said, Both}
use Rattle.law_local_judged.proofs.Mentioned.{constant_kind}
use Rattle.law_local_judged.proofs.Names.{maps_agree, type_named_follows}
use Rattle.law_local_judged.proofs.Operators.{only_tied, only_mentions, each_follows}
use Rattle.law_local_judged.proofs.Actuals.{PhraseFollows, PhrasesFollow, NameSame, MeantFollows, MeantNamed}
use Rattle.law_local_judged.proofs.Fitting.{fit_self, fit_same}
use Rattle.law_lists.proofs.Lists.{some_same}

module _ (P : QName → Type 0) where
  abbrev VF : Type 0 → Judged Valued → Judged Valued → Type 0
  VF R i j = Follows P (ValuedTied P) (ValuedIn P) R i j

  abbrev MF : Type 0 → Judged Meant → Judged Meant → Type 0
  MF R i j = Follows P (MeantTied P) (MeantIn P) R i j

  pub meant_none : (R : Type 0) (i j : Judged Meant) → i.node ≡ None → MF R i j
  meant_none R i j e = follows_none P (MeantTied P) (MeantIn P) R i j e

  changed_breaks : (R : Type 0) (start : Pos) → VF R (breaks rule.NotChangeable start) (breaks rule.NotChangeable start)
  changed_breaks R start = follows_none P (ValuedTied P) (ValuedIn P) R (breaks rule.NotChangeable start) (breaks rule.NotChangeable start) refl

  changed_meant_follows : (start : Pos) (m : Meant) → MeantTied P m → VF (MeantIn P m) (changed_meant start m) (changed_meant start m)
  changed_meant_follows start (means.Place p) h = follows_unless P (ValuedTied P) (ValuedIn P) (PlaceIn P p) p.read_only p.read_only rule.NotChangeable start (value_at p) h (λ m. m) (λ r. refl)
  changed_meant_follows start (means.Call x) h = follows_sound P (ValuedTied P) (ValuedIn P) (ValuedIn P x) (only_value x) (only_tied P x h) (λ m. only_mentions P x m)
  changed_meant_follows start (means.Constant c) h = changed_breaks (Unit {0}) start
  changed_meant_follows start (means.Procedure q s) h = changed_breaks (Unit {0}) start
  changed_meant_follows start (means.Bound c) h = changed_breaks (PlaceIn P c.receiver) start
  changed_meant_follows start (means.Out p) h = changed_breaks (Unit {0}) start
  changed_meant_follows start (means.Predeclared p) h = changed_breaks (Unit {0}) start
  changed_meant_follows start (means.Statement s) h = changed_breaks (MeantIn P (means.Statement s)) start

  kinds_in : (xs : List Valued) → AllByRecursion (ValuedTied P) xs → AllByRecursion (ValuedIn P) xs → AllByRecursion (λ x. KindIn P (type x)) xs
  kinds_in [] t m = tt
  kinds_in (x ∷ xs) t m = (t.0 m.0, kinds_in xs t.1 m.1)

  module _ (u : Around) (s : QName → Option Desc) (a : Agrees P u s) where
    abbrev v : Around
    v = beside u s

    abbrev maps : Agree P (map_of u) (map_of v)
    maps = maps_agree P u s a

    abbrev Ph : Phrase → Type 0
    Ph p = PhraseFollows P u s a p

    abbrev Phs : List Phrase → Type 0
    Phs ps = PhrasesFollow P u s a ps

    -- ---- parameters

    changed_follows : (p : Phrase) (o : Option (Around → Judged Meant)) → Ph p → MeantFollows P u s a o → VF (Unit {0}) (changed_as u p o) (changed_as v p o)
    changed_follows p None h k = follows_made P (ValuedTied P) (ValuedIn P) (ValuedTied P) (ValuedIn P) (Unit {0}) only_value (p.value u) (p.value v) h.value (λ x t. only_tied P x t) (λ x t m. only_mentions P x m)
    changed_follows p (Some w) h k = follows_then P (MeantTied P) (MeantIn P) (ValuedTied P) (ValuedIn P) (Unit {0}) (w u) (w v) (changed_meant p.start) (changed_meant p.start) k (λ m t. changed_meant_follows p.start m t)

    parameter_follows : (o : Asked) (p : Phrase) → Ph p → VF (Unit {0}) (parameter u o p) (parameter v o p)
    parameter_follows asked.Value p h = h.value
    parameter_follows asked.Changed p h = changed_follows p p.meant h h.meant
    parameter_follows asked.Constant p h =
        follows_then P (ValuedTied P) (ValuedIn P) (ValuedTied P) (ValuedIn P) (Unit {0}) (p.value u) (p.value v) (λ x. wants (is_some (constant_in x)) rule.NotConstant p.start x) (λ x. wants (is_some (constant_in x)) rule.NotConstant p.start x) h.value
        (λ x t. follows_wants P (ValuedTied P) (ValuedIn P) (ValuedIn P x) (is_some (constant_in x)) (is_some (constant_in x)) rule.NotConstant p.start x t (λ m. m) (λ r. refl))

    values_follow : (ps : List Phrase) → Phs ps → Both P (ValuedTied P) (ValuedIn P) (values u ps) (values v ps)
    values_follow [] h = tt
    values_follow (p ∷ ps) h = (h.0.value, values_follow ps h.1)

    behind_follow : (f : Predeclared) (ps : List Phrase) → Phs ps → Both P (ValuedTied P) (ValuedIn P) (parameters_behind u f ps) (parameters_behind v f ps)
    behind_follow f [] h = tt
    behind_follow f (p ∷ ps) h = (parameter_follows (asked_second f) p h.0, values_follow ps h.1)

    parameters_follow : (f : Predeclared) (ps : List Phrase) → Phs ps → Both P (ValuedTied P) (ValuedIn P) (parameters u f ps) (parameters v f ps)
    parameters_follow f [] h = tt
    parameters_follow f (p ∷ ps) h = (parameter_follows (asked_first f) p h.0, behind_follow f ps h.1)

    fit_follows : (w : Where) (f : Predeclared) (at : Pos) (xs : List Valued) → AllByRecursion (ValuedTied P) xs → MF (AllByRecursion (ValuedIn P) xs) (call_fit u w f at xs) (call_fit v w f at xs)
    fit_follows w f at xs t =
        follows_also P (MeantTied P) (MeantIn P) (AllByRecursion (ValuedIn P) xs) (misplaced w (is_function f)) (misplaced w (is_function f)) rule.MisplacedCall at (if_fit at (fit (map_of u) f at xs)) (if_fit at (fit (map_of v) f at xs))
        (follows_to P (MeantTied P) (MeantIn P) (AllByRecursion (ValuedIn P) xs) (if_fit at (fit (map_of u) f at xs)) (if_fit at (fit (map_of v) f at xs)) (fit_self P at (map_of u) f xs)
        (λ r. ap (if_fit at) (fit_same P (map_of u) (map_of v) maps at f xs (kinds_in xs t r)))) (λ r. refl)

    plain_follows : (w : Where) (at : Pos) (f : Predeclared) (ps : List Phrase) → Phs ps → MF (Unit {0}) (each_sound (parameters u f ps) ▷ call_fit u w f at) (each_sound (parameters v f ps) ▷ call_fit v w f at)
    plain_follows w at f ps h =
        follows_then P (AllByRecursion (ValuedTied P)) (AllByRecursion (ValuedIn P)) (MeantTied P) (MeantIn P) (Unit {0}) (each_sound (parameters u f ps)) (each_sound (parameters v f ps)) (call_fit u w f at) (call_fit v w f at)
        (each_follows P (ValuedTied P) (ValuedIn P) (parameters u f ps) (parameters v f ps) (parameters_follow f ps h)) (λ xs t. fit_follows w f at xs t)

    -- ---- MAX and MIN

    extreme_self : (max : Bool) (at : Pos) (t : TypeRef) (o : Option Basic) → MF (Unit {0}) (extreme_of max at (Some t) o) (extreme_of max at (Some t) o)
    extreme_self max at t None = meant_none (Unit {0}) (breaks rule.UnfitPredeclaredParameters at) (breaks rule.UnfitPredeclaredParameters at) refl
    extreme_self max at t (Some b) = record { keeps = λ x k said. subst (MeantTied P) (some_same k) (λ m. constant_kind P (extreme max b)); same = λ x k said m. (tt, refl) }

    abbrev TypeThere : Option TypeRef → Type 0
    TypeThere None = Unit {0}
    TypeThere (Some t) = IsIn P t

    extreme_follows : (max : Bool) (w : Where) (at : Pos) (o : Option TypeRef) → TypeThere o → MF (Unit {0}) (also (misplaced w true) rule.MisplacedCall at (extreme_of max at o (basic_if (map_of u) o))) (also (misplaced w true) rule.MisplacedCall at (extreme_of max at o (basic_if (map_of v) o)))
    extreme_follows max w at None h = follows_also P (MeantTied P) (MeantIn P) (Unit {0}) (misplaced w true) (misplaced w true) rule.MisplacedCall at (breaks rule.UnfitPredeclaredParameters at) (breaks rule.UnfitPredeclaredParameters at) (meant_none (Unit {0}) (breaks rule.UnfitPredeclaredParameters at) (breaks rule.UnfitPredeclaredParameters at) refl) (λ r. refl)
    extreme_follows max w at (Some t) h =
        follows_also P (MeantTied P) (MeantIn P) (Unit {0}) (misplaced w true) (misplaced w true) rule.MisplacedCall at (extreme_of max at (Some t) (basic_if (map_of u) (Some t))) (extreme_of max at (Some t) (basic_if (map_of v) (Some t)))
        (follows_to P (MeantTied P) (MeantIn P) (Unit {0}) (extreme_of max at (Some t) (basic_if (map_of u) (Some t))) (extreme_of max at (Some t) (basic_if (map_of v) (Some t))) (extreme_self max at t (basic_if (map_of u) (Some t)))
        (λ r. ap (extreme_of max at (Some t)) (target_basics P (map_of u) (map_of v) maps t h))) (λ r. refl)

    type_follows : (p : Phrase) (q : Qualident) → Follows P TypeThere (λ x. Unit {0}) (Unit {0}) (type_parameter u p (Some q)) (type_parameter v p (Some q))
    type_follows p q = follows_made P (IsIn P) (λ x. Unit {0}) TypeThere (λ x. Unit {0}) (Unit {0}) (λ t. Some t) (type_named u q) (type_named v q) (type_named_follows P u s a q) (λ t k. k) (λ t k m. tt)

    misfit : (w : Where) (at : Pos) → (also {A = Meant} (misplaced w true) rule.MisplacedCall at (breaks rule.UnfitPredeclaredParameters at)).node ≡ None
    misfit w at = by (misplaced w true)
      where
        by : (b : Bool) → (also {A = Meant} b rule.MisplacedCall at (breaks rule.UnfitPredeclaredParameters at)).node ≡ None
        by true = refl
        by false = refl

    no_extreme : (max : Bool) (w : Where) (at : Pos) (map : Option Basic) → (also (misplaced w true) rule.MisplacedCall at (extreme_of max at None map)).node ≡ None
    no_extreme max w at o = by (misplaced w true)
      where
        by : (b : Bool) → (also b rule.MisplacedCall at (extreme_of max at None o)).node ≡ None
        by true = refl
        by false = refl

    one_follows : (max : Bool) (w : Where) (at : Pos) (p : Phrase) (o : Option Qualident) → Ph p
        → MF (Unit {0}) (type_parameter u p o ▷ λ t. also (misplaced w true) rule.MisplacedCall at (extreme_of max at t (basic_if (map_of u) t))) (type_parameter v p o ▷ λ t. also (misplaced w true) rule.MisplacedCall at (extreme_of max at t (basic_if (map_of v) t)))
    one_follows max w at p (Some q) h =
        follows_then P TypeThere (λ x. Unit {0}) (MeantTied P) (MeantIn P) (Unit {0}) (type_parameter u p (Some q)) (type_parameter v p (Some q)) (λ t. also (misplaced w true) rule.MisplacedCall at (extreme_of max at t (basic_if (map_of u) t))) (λ t. also (misplaced w true) rule.MisplacedCall at (extreme_of max at t (basic_if (map_of v) t)))
        (type_follows p q) (λ t k. extreme_follows max w at t k)
    one_follows max w at p None h =
        meant_none (Unit {0}) (type_parameter u p None ▷ λ t. also (misplaced w true) rule.MisplacedCall at (extreme_of max at t (basic_if (map_of u) t))) (type_parameter v p None ▷ λ t. also (misplaced w true) rule.MisplacedCall at (extreme_of max at t (basic_if (map_of v) t)))
        (twice_none (p.value u) (λ x. None) (λ t. also (misplaced w true) rule.MisplacedCall at (extreme_of max at t (basic_if (map_of u) t))) (λ x. no_extreme max w at None))

    extreme_call_follows : (max : Bool) (w : Where) (at : Pos) (ps : List Phrase) → Phs ps → MF (Unit {0}) (extreme_call max u w at ps) (extreme_call max v w at ps)
    extreme_call_follows max w at [] h = meant_none (Unit {0}) (extreme_call max u w at []) (extreme_call max v w at []) (misfit w at)
    extreme_call_follows max w at (p ∷ []) h = one_follows max w at p p.name h.0
    extreme_call_follows max w at (p ∷ q ∷ ps) h =
        meant_none (Unit {0}) (extreme_call max u w at (p ∷ q ∷ ps)) (extreme_call max v w at (p ∷ q ∷ ps))
        (none_then (type_parameter u p p.name) (λ t. each_sound (values u (q ∷ ps)) ▷ λ xs. also (misplaced w true) rule.MisplacedCall at (breaks rule.UnfitPredeclaredParameters at)) (λ t. none_then (each_sound (values u (q ∷ ps))) (λ xs. also (misplaced w true) rule.MisplacedCall at (breaks rule.UnfitPredeclaredParameters at)) (λ xs. misfit w at)))

    pub call_predeclared_follows : (w : Where) (at : Pos) (f : Predeclared) (ps : List Phrase) → Phs ps → MF (Unit {0}) (call_predeclared u w at f ps) (call_predeclared v w at f ps)
    call_predeclared_follows w at pre.Max ps h = extreme_call_follows true w at ps h
    call_predeclared_follows w at pre.Min ps h = extreme_call_follows false w at ps h
    call_predeclared_follows w at pre.Abs ps h = plain_follows w at pre.Abs ps h
    call_predeclared_follows w at pre.Ash ps h = plain_follows w at pre.Ash ps h
    call_predeclared_follows w at pre.Cap ps h = plain_follows w at pre.Cap ps h
    call_predeclared_follows w at pre.Chr ps h = plain_follows w at pre.Chr ps h
    call_predeclared_follows w at pre.Len ps h = plain_follows w at pre.Len ps h
    call_predeclared_follows w at pre.Long ps h = plain_follows w at pre.Long ps h
    call_predeclared_follows w at pre.Odd ps h = plain_follows w at pre.Odd ps h
    call_predeclared_follows w at pre.Ord ps h = plain_follows w at pre.Ord ps h
    call_predeclared_follows w at pre.Short ps h = plain_follows w at pre.Short ps h
    call_predeclared_follows w at pre.Assert ps h = plain_follows w at pre.Assert ps h
    call_predeclared_follows w at pre.Copy ps h = plain_follows w at pre.Copy ps h
    call_predeclared_follows w at pre.Dec ps h = plain_follows w at pre.Dec ps h
    call_predeclared_follows w at pre.Excl ps h = plain_follows w at pre.Excl ps h
    call_predeclared_follows w at pre.Halt ps h = plain_follows w at pre.Halt ps h
    call_predeclared_follows w at pre.Inc ps h = plain_follows w at pre.Inc ps h
    call_predeclared_follows w at pre.Incl ps h = plain_follows w at pre.Incl ps h
    call_predeclared_follows w at pre.New ps h = plain_follows w at pre.New ps h

    -- ---- what one parameter tells

    changed_named : (p : Phrase) (o : Option (Around → Judged Meant)) → Ph p → MeantNamed P u s a p.name o → (x : Valued) → (changed_as u p o).node ≡ Some x → SaidIn P (changed_as u p o).notes → NameSame P u s a p.name
    changed_named p None h k x e said =
        let n = then_node (p.value u) (λ x. sound (only_value x)) x e in
        h.named n.0 n.1 (front_said P (p.value u) (λ x. sound (only_value x)) said)
    changed_named p (Some w) h k x e said =
        let n = then_node (w u) (changed_meant p.start) x e in
        k n.0 n.1 (front_said P (w u) (changed_meant p.start) said)

    parameter_named : (o : Asked) (p : Phrase) → Ph p → (x : Valued) → (parameter u o p).node ≡ Some x → SaidIn P (parameter u o p).notes → NameSame P u s a p.name
    parameter_named asked.Value p h x e said = h.named x e said
    parameter_named asked.Changed p h x e said = changed_named p p.meant h h.meant_named x e said
    parameter_named asked.Constant p h x e said =
        let n = then_node (p.value u) (λ x. wants (is_some (constant_in x)) rule.NotConstant p.start x) x e in
        h.named n.0 n.1 (front_said P (p.value u) (λ x. wants (is_some (constant_in x)) rule.NotConstant p.start x) said)

    plain_named : (w : Where) (at : Pos) (f : Predeclared) (p : Phrase) → Ph p → (m : Meant) → (each_sound (parameters u f (p ∷ [])) ▷ call_fit u w f at).node ≡ Some m → SaidIn P (each_sound (parameters u f (p ∷ [])) ▷ call_fit u w f at).notes → NameSame P u s a p.name
    plain_named w at f p h m e said =
        let j = parameter u (asked_first f) p in
        let n = then_node (each_sound (j ∷ [])) (call_fit u w f at) m e in
        let b = then_node (both j (sound [])) (λ p. sound (p.0 ∷ p.1)) n.0 n.1 in
        let c = both_nodes j (sound []) b.0 b.1 in
        parameter_named (asked_first f) p h c.0.0 c.0.1 (said_left P j.notes (sound {A = List Valued} []).notes (front_said P (both j (sound [])) (λ p. sound (p.0 ∷ p.1)) (front_said P (each_sound (j ∷ [])) (call_fit u w f at) said)))

    pub predeclared_named : (w : Where) (at : Pos) (f : Predeclared) (p : Phrase) → takes_type (means.Predeclared f) ≡ false → Ph p → (m : Meant) → (call_predeclared u w at f (p ∷ [])).node ≡ Some m → SaidIn P (call_predeclared u w at f (p ∷ [])).notes → NameSame P u s a p.name
    predeclared_named w at pre.Max p other h m e said = true_not other
      where
        true_not : {B : Type 0} → true ≡ false → B
        true_not {B} e = absurd cc
    predeclared_named w at pre.Min p other h m e said = true_not other
      where
        true_not : {B : Type 0} → true ≡ false → B
        true_not {B} e = absurd cc
    predeclared_named w at pre.Abs p other h m e said = plain_named w at pre.Abs p h m e said
    predeclared_named w at pre.Ash p other h m e said = plain_named w at pre.Ash p h m e said
    predeclared_named w at pre.Cap p other h m e said = plain_named w at pre.Cap p h m e said
    predeclared_named w at pre.Chr p other h m e said = plain_named w at pre.Chr p h m e said
    predeclared_named w at pre.Len p other h m e said = plain_named w at pre.Len p h m e said
    predeclared_named w at pre.Long p other h m e said = plain_named w at pre.Long p h m e said
    predeclared_named w at pre.Odd p other h m e said = plain_named w at pre.Odd p h m e said
    predeclared_named w at pre.Ord p other h m e said = plain_named w at pre.Ord p h m e said
    predeclared_named w at pre.Short p other h m e said = plain_named w at pre.Short p h m e said
    predeclared_named w at pre.Assert p other h m e said = plain_named w at pre.Assert p h m e said
    predeclared_named w at pre.Copy p other h m e said = plain_named w at pre.Copy p h m e said
    predeclared_named w at pre.Dec p other h m e said = plain_named w at pre.Dec p h m e said
    predeclared_named w at pre.Excl p other h m e said = plain_named w at pre.Excl p h m e said
    predeclared_named w at pre.Halt p other h m e said = plain_named w at pre.Halt p h m e said
    predeclared_named w at pre.Inc p other h m e said = plain_named w at pre.Inc p h m e said
    predeclared_named w at pre.Incl p other h m e said = plain_named w at pre.Incl p h m e said
    predeclared_named w at pre.New p other h m e said = plain_named w at pre.New p h m e said
