-- Selectors in turn, with other interfaces around.
use Rattle.std.proofs.Common.{◌≡◌, refl, sym, ap, ◌∙◌, subst, ℕ, List, [], ◌∷◌, Option, Some, None, Bool, true, false}
use Rattle.std.specs.Prelude.{◌&&◌, is_none}
use Rattle.std.specs.List.{AllByRecursion}
use Rattle.ob_tree.specs.declared.pos.Pos.{Pos}
use Rattle.ob_tree.specs.declared.names.QName.{QName}
use Rattle.ob_tree.specs.declared.ident.Ident.{Ident}
use Rattle.ob_tree.specs.declared.ident.Qualident.{Qualident}
use Rattle.ob_types.specs.declared.types.TypeRef.{TypeRef}
use Rattle.ob_types.specs.declared.types.Signature.{Signature}
use Rattle.ob_types.specs.declared.desc.Desc.{Desc}
use Rattle.ob_types.specs.declared.typed.Actual.{Actual}
use Rattle.ob_types.specs.declared.typed.TypedExpr.{TypedExpr}
use Rattle.ob_types.specs.declared.typed.TypedExpr.TheVariants as typed
use Rattle.ob_types.specs.declared.typed.Callee.TheVariants as callee
use Rattle.ob_rules.specs.declared.entity.Entity.{Entity}
use Rattle.ob_rules.specs.declared.entity.Entity.TheVariants as entity
use Rattle.ob_rules.specs.declared.entity.Known.{Known}
use Rattle.ob_rules.specs.declared.meant.Chosen.{Chosen}
use Rattle.ob_rules.specs.declared.meant.Meant.{Meant}
use Rattle.ob_rules.specs.declared.meant.Meant.TheVariants as means
use Rattle.ob_rules.specs.declared.meant.Where.{Where}
use Rattle.ob_rules.specs.declared.values.Place.{Place}
use Rattle.ob_rules.specs.declared.values.Valued.{Valued}
use Rattle.ob_rules.specs.declared.broken.Rule.TheVariants as rule
use Rattle.ob_rules.specs.Judged.{Judged, sound, silent, breaks, also, noted}
use Rattle.ob_rules.specs.Shapes.{signature_at}
use Rattle.ob_rules.specs.Names.{Around, map_of, find_name, entity_known, exported, export_known, shown_of, is_out, type_in, type_of_desc, type_behind, unless_variable_is, unless_variable, type_by, type_named, is_type_desc, is_type_behind, known_is, is_type_name, is_type_by}
use Rattle.ob_rules.specs.Phrases.{Phrase, Behind, Dot, Index, Up, Round}
use Rattle.ob_rules.specs.Calls.{called, call_procedure, call_variable, call_out, out_signature, call_bound, call_bound_sound, nearest_sound, where_from, bound_callee, receiver_actual, is_record_receiver, actuals}
use Rattle.ob_rules.specs.Phrases.{receiver_place}
use Rattle.ob_rules.specs.Designators.{is_one_type, if_type, type_in_round, as_call, place_round, guard, index, call_meant, takes_type, is_callable, is_guardable, other_round, dereference, step_dot, step_index, step_up, step_round, step, where_of, nothing_behind, go_on_with, go_on, through}
use Rattle.law_local_judged.specs.Agreement.{IsIn, Agree}
use Rattle.law_local_judged.specs.Said.{SaidIn, PlaceIn, PlaceTied, ValuedIn, ValuedTied, MeantIn, MeantTied}
use Rattle.law_local_judged.specs.Followed.{beside, Agrees, Follows}
use Rattle.law_local_judged.proofs.Tests.{two, signature_same}
use Rattle.law_local_judged.proofs.Following.{said_left, said_right, follows_none, follows_sound, follows_with, follows_weaker, follows_then, none_then, then_node, front_said}
use Rattle.law_local_judged.proofs.Names.{maps_agree, type_named_follows}
use Rattle.law_local_judged.proofs.Actuals.{PhraseFollows, PhrasesFollow, NameSame}
use Rattle.law_local_judged.proofs.Calls.{call_procedure_follows, call_variable_follows, call_out_follows, call_bound_follows, called_named}
use Rattle.law_local_judged.proofs.Predeclared.{call_predeclared_follows, predeclared_named}
use Rattle.law_local_judged.proofs.Selecting.{of_variable_follows, guard_follows, dereference_follows, index_follows, select_follows, super_follows}
use Rattle.law_lists.proofs.Lists.{none_some}

if_type_is : (b : Bool) (o : Option Qualident) (q : Qualident) → if_type b o ≡ Some q → o ≡ Some q
if_type_is true o q e = e
if_type_is false o q e = none_some e

true_not : {B : Type 0} → true ≡ false → B
true_not {B} e = absurd cc

module _ (P : QName → Type 0) (u : Around) (s : QName → Option Desc) (a : Agrees P u s) where
  abbrev v : Around
  v = beside u s

  abbrev maps : Agree P (map_of u) (map_of v)
  maps = maps_agree P u s a

  abbrev Ph : Phrase → Type 0
  Ph p = PhraseFollows P u s a p

  abbrev Phs : List Phrase → Type 0
  Phs ps = PhrasesFollow P u s a ps

  abbrev Named : Option Qualident → Type 0
  Named o = NameSame P u s a o

  abbrev MF : Type 0 → Judged Meant → Judged Meant → Type 0
  MF R i j = Follows P (MeantTied P) (MeantIn P) R i j

  meant_none : (R : Type 0) (i j : Judged Meant) → i.node ≡ None → MF R i j
  meant_none R i j e = follows_none P (MeantTied P) (MeantIn P) R i j e

  -- ---- names of types that are found

  export_in : (q : QName) (at : Pos) (o : Option Desc) (y : QName × Desc) → (export_known q at o).node ≡ Some y → SaidIn P (export_known q at o).notes → P q
  export_in q at None y e said = none_some e
  export_in q at (Some d) y e said = said.objects.0

  pub exported_in : (m : List ℕ) (x : Ident) (y : QName × Desc) → (exported u m x).node ≡ Some y → SaidIn P (exported u m x).notes → P (record { «module» = m; object = x.name })
  exported_in m x y e said = export_in (record { «module» = m; object = x.name }) x.pos (shown_of (u.shown (record { «module» = m; object = x.name }))) y e said

  pub shown_same : (q : QName) → s q ≡ u.shown q → is_type_desc (shown_of (s q)) ≡ is_type_desc (shown_of (u.shown q))
  shown_same q e = ap (λ o. is_type_desc (shown_of o)) e

  in_same : (b : Bool) (n : List ℕ) (x : Ident) (t : TypeRef) → is_out n ≡ b → (type_in b u n x).node ≡ Some t → SaidIn P (type_in b u n x).notes → is_type_desc (shown_of (s (record { «module» = n; object = x.name }))) ≡ is_type_desc (shown_of (u.shown (record { «module» = n; object = x.name })))
  in_same true n x t o e said = shown_same (record { «module» = n; object = x.name }) (a.out (record { «module» = n; object = x.name }) o)
  in_same false n x t o e said =
      let k = then_node (exported u n x) (λ e. type_of_desc x.pos e.0 e.1) t e in
      shown_same (record { «module» = n; object = x.name }) (a.same (record { «module» = n; object = x.name }) (exported_in n x k.0 k.1 (front_said P (exported u n x) (λ e. type_of_desc x.pos e.0 e.1) said)))

  behind_same : (m x : Ident) (k : Known) (w : Entity) (t : TypeRef) → (unless_variable_is u m k w (type_behind u m x)).node ≡ Some t → SaidIn P (unless_variable_is u m k w (type_behind u m x)).notes → is_type_behind v x.name w ≡ is_type_behind u x.name w
  behind_same m x k (entity.Module n) t e said = in_same (is_out n) n x t refl e (said_right P (entity_known u m.pos k.scope (entity.Module n)).notes (type_behind u m x (entity.Module n)).notes said)
  behind_same m x k (entity.Variable w y) t e said = refl
  behind_same m x k (entity.TypeName y) t e said = refl
  behind_same m x k (entity.Constant c) t e said = refl
  behind_same m x k (entity.Procedure n g) t e said = refl
  behind_same m x k (entity.Forward n g) t e said = refl
  behind_same m x k (entity.Predeclared f) t e said = refl
  behind_same m x k entity.LeftOut t e said = refl
  behind_same m x k entity.Unsound t e said = refl

  known_same : (m x : Ident) (o : Option Known) (t : TypeRef) → (unless_variable u m o (type_behind u m x)).node ≡ Some t → SaidIn P (unless_variable u m o (type_behind u m x)).notes → known_is (is_type_behind v x.name) o ≡ known_is (is_type_behind u x.name) o
  known_same m x None t e said = refl
  known_same m x (Some k) t e said = behind_same m x k k.what t e said

  type_by_same : (m : Option Ident) (x : Ident) (t : TypeRef) → (type_by u m x).node ≡ Some t → SaidIn P (type_by u m x).notes → is_type_by v m x ≡ is_type_by u m x
  type_by_same None x t e said = refl
  type_by_same (Some m) x t e said = known_same m x (find_name u.known m.name) t e said

  named_type_same : (q : Qualident) (t : TypeRef) → (type_named u q).node ≡ Some t → SaidIn P (type_named u q).notes → is_type_name v q ≡ is_type_name u q
  named_type_same q t e said = type_by_same q.qualifier q.ident t e said

  -- ---- one name of a type in round brackets

  abbrev OneNamed : List Phrase → Type 0
  OneNamed [] = Unit {0}
  OneNamed (p ∷ []) = Named p.name
  OneNamed (p ∷ q ∷ ps) = Unit {0}

  round_same : (ps : List Phrase) → OneNamed ps → type_in_round v ps ≡ type_in_round u ps
  round_same [] h = refl
  round_same (p ∷ []) h = ap (λ b. if_type b p.name) h
  round_same (p ∷ q ∷ ps) h = refl

  round_named : (ps : List Phrase) (q : Qualident) (t : TypeRef) → type_in_round u ps ≡ Some q → (type_named u q).node ≡ Some t → SaidIn P (type_named u q).notes → OneNamed ps
  round_named [] q t k e said = tt
  round_named (p ∷ []) q t k e said = subst Named (sym (if_type_is (is_one_type u p.name) p.name q k)) (named_type_same q t e said)
  round_named (p ∷ r ∷ ps) q t k e said = tt

  -- ---- calls of what is meant

  pub as_call_follows : (R : Type 0) (i j : Judged Valued) → Follows P (ValuedTied P) (ValuedIn P) R i j → MF R (as_call i) (as_call j)
  as_call_follows R i j h = follows_then P (ValuedTied P) (ValuedIn P) (MeantTied P) (MeantIn P) R i j (λ x. sound (means.Call x)) (λ x. sound (means.Call x)) h (λ x t. follows_sound P (MeantTied P) (MeantIn P) (ValuedIn P x) (means.Call x) t (λ m. m))

  pub call_meant_follows : (w : Where) (start : Pos) (m : Meant) (ps : List Phrase) → MeantTied P m → Phs ps → MF (MeantIn P m) (call_meant u w start m ps) (call_meant v w start m ps)
  call_meant_follows w start (means.Procedure q g) ps t h = as_call_follows (Unit {0}) (call_procedure u w start q g ps) (call_procedure v w start q g ps) (call_procedure_follows P u s a w start q g ps h)
  call_meant_follows w start (means.Bound c) ps t h = as_call_follows (PlaceIn P c.receiver) (call_bound u w start c ps) (call_bound v w start c ps) (call_bound_follows P u s a w start c ps h t)
  call_meant_follows w start (means.Out p) ps t h = as_call_follows (Unit {0}) (call_out u w start p ps) (call_out v w start p ps) (call_out_follows P u s a w start p ps h)
  call_meant_follows w start (means.Predeclared f) ps t h = call_predeclared_follows P u s a w start f ps h
  call_meant_follows w start (means.Place p) ps t h = meant_none (PlaceIn P p) silent silent refl
  call_meant_follows w start (means.Constant c) ps t h = meant_none (Unit {0}) silent silent refl
  call_meant_follows w start (means.Call x) ps t h = meant_none (ValuedIn P x) silent silent refl
  call_meant_follows w start (means.Statement x) ps t h = meant_none (MeantIn P (means.Statement x)) silent silent refl

  as_call_named : (w : Where) (at : Pos) (g : Signature) (p : Phrase) (F : List Actual → TypedExpr) → Ph p → (y : Meant) → (as_call (called u w at g (p ∷ []) F)).node ≡ Some y → SaidIn P (as_call (called u w at g (p ∷ []) F)).notes → Named p.name
  as_call_named w at g p F h y e said =
      let n = then_node (called u w at g (p ∷ []) F) (λ x. sound (means.Call x)) y e in
      called_named P u s a w at g p F h n.0 n.1 (front_said P (called u w at g (p ∷ []) F) (λ x. sound (means.Call x)) said)

  also_named : (b : Bool) (w : Where) (at : Pos) (g : Signature) (p : Phrase) (F : List Actual → TypedExpr) → Ph p → (x : Valued) → (also b rule.NotChangeable at (called u w at g (p ∷ []) F)).node ≡ Some x → SaidIn P (also b rule.NotChangeable at (called u w at g (p ∷ []) F)).notes → Named p.name
  also_named true w at g p F h x e said = none_some e
  also_named false w at g p F h x e said = called_named P u s a w at g p F h x e said

  bound_named : (t : Bool) (w : Where) (at : Pos) (c : Chosen) (p : Phrase) → Ph p → (x : Valued) → (call_bound_sound t u w at c (p ∷ [])).node ≡ Some x → SaidIn P (call_bound_sound t u w at c (p ∷ [])).notes → Named p.name
  bound_named false w at c p h x e said = none_some (sym (none_then (actuals u [] (p ∷ [])) (λ xs. silent) (λ x. refl)) ∙ e)
  bound_named true w at c p h x e said =
      also_named (is_record_receiver c.method.receiver && ((receiver_place c).read_only && is_none c.base)) w at c.method.signature p (λ xs. typed.Call (bound_callee c c.base) (receiver_actual c.method.receiver c ∷ xs) at c.method.signature.result) h x e said

  meant_named : (w : Where) (start : Pos) (m : Meant) (p : Phrase) → takes_type m ≡ false → Ph p → (y : Meant) → (call_meant u w start m (p ∷ [])).node ≡ Some y → SaidIn P (call_meant u w start m (p ∷ [])).notes → Named p.name
  meant_named w start (means.Procedure q g) p other h y e said = as_call_named w start g p (λ xs. typed.Call (callee.Declared q) xs start g.result) h y e said
  meant_named w start (means.Bound c) p other h y e said =
      let n = then_node (call_bound u w start c (p ∷ [])) (λ x. sound (means.Call x)) y e in
      bound_named (nearest_sound u 201 (where_from c c.base) c.method.name) w start c p h n.0 n.1 (front_said P (call_bound u w start c (p ∷ [])) (λ x. sound (means.Call x)) said)
  meant_named w start (means.Out o) p other h y e said = as_call_named w start (out_signature o) p (λ xs. typed.Call (callee.Out o) xs start None) h y e said
  meant_named w start (means.Predeclared f) p other h y e said = predeclared_named P u s a w start f p other h y e said
  meant_named w start (means.Place q) p other h y e said = none_some e
  meant_named w start (means.Constant c) p other h y e said = none_some e
  meant_named w start (means.Call x) p other h y e said = none_some e
  meant_named w start (means.Statement x) p other h y e said = none_some e

  all_named : (w : Where) (start : Pos) (m : Meant) (ps : List Phrase) → takes_type m ≡ false → Phs ps → (y : Meant) → (call_meant u w start m ps).node ≡ Some y → SaidIn P (call_meant u w start m ps).notes → OneNamed ps
  all_named w start m [] other h y e said = tt
  all_named w start m (p ∷ []) other h y e said = meant_named w start m p other h.0 y e said
  all_named w start m (p ∷ q ∷ ps) other h y e said = tt

  -- ---- round brackets behind a variable

  place_round_self : (w : Where) (start at : Pos) (p : Place) (ps : List Phrase) (q : Option Qualident) (g : Option Signature) → PlaceTied P p → Phs ps → MF (PlaceIn P p) (place_round u w start at p ps q g) (place_round v w start at p ps q g)
  place_round_self w start at p ps (Some q) g t h =
      follows_then P (IsIn P) (λ y. Unit {0} × PlaceIn P p) (MeantTied P) (MeantIn P) (PlaceIn P p) (type_named u q) (type_named v q) (guard (map_of u) at p) (guard (map_of v) at p)
      (follows_with P (IsIn P) (λ y. Unit {0}) (PlaceIn P p) (type_named u q) (type_named v q) (type_named_follows P u s a q))
      (λ y i. follows_weaker P (MeantTied P) (MeantIn P) (PlaceIn P p) (Unit {0} × PlaceIn P p) (guard (map_of u) at p y) (guard (map_of v) at p y) (λ r. (tt, r)) (guard_follows P (map_of u) (map_of v) maps at p y t i))
  place_round_self w start at p ps None (Some g) t h = as_call_follows (PlaceIn P p) (call_variable u w start p g ps) (call_variable v w start p g ps) (call_variable_follows P u s a w start p g ps h)
  place_round_self w start at p ps None None t h = meant_none (PlaceIn P p) (place_round u w start at p ps None None) (place_round v w start at p ps None None) refl

  place_round_named : (w : Where) (start at : Pos) (p : Place) (ps : List Phrase) (q : Option Qualident) (g : Option Signature) → Phs ps → type_in_round u ps ≡ q → (y : Meant) → (place_round u w start at p ps q g).node ≡ Some y → SaidIn P (place_round u w start at p ps q g).notes → OneNamed ps
  place_round_named w start at p ps (Some q) g h k y e said =
      let n = then_node (type_named u q) (guard (map_of u) at p) y e in
      round_named ps q n.0 k n.1 (front_said P (type_named u q) (guard (map_of u) at p) said)
  place_round_named w start at p [] None (Some g) h k y e said = tt
  place_round_named w start at p (r ∷ []) None (Some g) h k y e said = as_call_named w start g r (λ xs. typed.CallVariable p.designator.inner xs start g.result) h.0 y e said
  place_round_named w start at p (r ∷ q ∷ ps) None (Some g) h k y e said = tt
  place_round_named w start at p ps None None h k y e said = none_some e

  place_follows : (w : Where) (start at : Pos) (p : Place) (ps : List Phrase) → PlaceTied P p → Phs ps → MF (PlaceIn P p) (place_round u w start at p ps (type_in_round u ps) (signature_at (map_of u) p.of)) (place_round v w start at p ps (type_in_round v ps) (signature_at (map_of v) p.of))
  place_follows w start at p ps t h =
      let k = place_round_self w start at p ps (type_in_round u ps) (signature_at (map_of u) p.of) t h in
      record {
        keeps = k.keeps;
        same = λ y e said m.
            let z = k.same y e said m in
            (z.0, two (place_round v w start at p ps) (round_same ps (place_round_named w start at p ps (type_in_round u ps) (signature_at (map_of u) p.of) h refl y e said)) (signature_same P (map_of u) (map_of v) maps p.of (t z.0)) ∙ z.1);
      }

  -- ---- round brackets behind something else

  other_self : (w : Where) (start at : Pos) (m : Meant) (ps : List Phrase) (q : Option Qualident) (t g c : Bool) → MeantTied P m → Phs ps → MF (MeantIn P m) (other_round u w start at m ps q t g c) (other_round v w start at m ps q t g c)
  other_self w start at m ps q true g c k h = call_meant_follows w start m ps k h
  other_self w start at m ps (Some q) false true c k h = meant_none (MeantIn P m) (other_round u w start at m ps (Some q) false true c) (other_round v w start at m ps (Some q) false true c) (none_then (type_named u q) (λ t. breaks rule.UnfitTypeTest at) (λ t. refl))
  other_self w start at m ps None false g true k h = call_meant_follows w start m ps k h
  other_self w start at m ps (Some q) false false c k h = meant_none (MeantIn P m) (other_round u w start at m ps (Some q) false false c) (other_round v w start at m ps (Some q) false false c) refl
  other_self w start at m ps None false g false k h = meant_none (MeantIn P m) (other_round u w start at m ps None false g false) (other_round v w start at m ps None false g false) refl

  other_named : (w : Where) (start at : Pos) (m : Meant) (ps : List Phrase) (q : Option Qualident) (g c : Bool) → takes_type m ≡ false → Phs ps → (y : Meant) → (other_round u w start at m ps q false g c).node ≡ Some y → SaidIn P (other_round u w start at m ps q false g c).notes → OneNamed ps
  other_named w start at m ps (Some q) true c other h y e said = none_some (sym (none_then (type_named u q) (λ t. breaks rule.UnfitTypeTest at) (λ t. refl)) ∙ e)
  other_named w start at m ps (Some q) false c other h y e said = none_some e
  other_named w start at m ps None g true other h y e said = all_named w start m ps other h y e said
  other_named w start at m ps None g false other h y e said = none_some e

  other_by : (w : Where) (start at : Pos) (m : Meant) (ps : List Phrase) (t g c : Bool) → takes_type m ≡ t → MeantTied P m → Phs ps → MF (MeantIn P m) (other_round u w start at m ps (type_in_round u ps) t g c) (other_round v w start at m ps (type_in_round v ps) t g c)
  other_by w start at m ps true g c k t h = call_meant_follows w start m ps t h
  other_by w start at m ps false g c k t h =
      let i = other_self w start at m ps (type_in_round u ps) false g c t h in
      record {
        keeps = i.keeps;
        same = λ y e said n.
            let z = i.same y e said n in
            (z.0, ap (λ q. other_round v w start at m ps q false g c) (round_same ps (other_named w start at m ps (type_in_round u ps) g c k h y e said)) ∙ z.1);
      }

  other_follows : (w : Where) (start at : Pos) (m : Meant) (ps : List Phrase) → MeantTied P m → Phs ps → MF (MeantIn P m) (other_round u w start at m ps (type_in_round u ps) (takes_type m) (is_guardable m) (is_callable m)) (other_round v w start at m ps (type_in_round v ps) (takes_type m) (is_guardable m) (is_callable m))
  other_follows w start at m ps t h = other_by w start at m ps (takes_type m) (is_guardable m) (is_callable m) refl t h

  round_follows : (w : Where) (start at : Pos) (ps : List Phrase) (m : Meant) → MeantTied P m → Phs ps → MF (MeantIn P m) (step_round u w start at ps m) (step_round v w start at ps m)
  round_follows w start at ps (means.Place p) t h = place_follows w start at p ps t h
  round_follows w start at ps (means.Constant c) t h = other_follows w start at (means.Constant c) ps t h
  round_follows w start at ps (means.Procedure q g) t h = other_follows w start at (means.Procedure q g) ps t h
  round_follows w start at ps (means.Bound c) t h = other_follows w start at (means.Bound c) ps t h
  round_follows w start at ps (means.Out o) t h = other_follows w start at (means.Out o) ps t h
  round_follows w start at ps (means.Predeclared f) t h = other_follows w start at (means.Predeclared f) ps t h
  round_follows w start at ps (means.Call x) t h = other_follows w start at (means.Call x) ps t h
  round_follows w start at ps (means.Statement x) t h = other_follows w start at (means.Statement x) ps t h

  -- ---- one selector

  dot_follows : (start at : Pos) (x : Ident) (last : Bool) (m : Meant) → MeantTied P m → MF (MeantIn P m) (step_dot u start at x last m) (step_dot v start at x last m)
  dot_follows start at x last (means.Place p) t = select_follows P u s a start at x p last t
  dot_follows start at x last (means.Constant c) t = meant_none (Unit {0}) (breaks rule.UnfitSelector at) (breaks rule.UnfitSelector at) refl
  dot_follows start at x last (means.Procedure q g) t = meant_none (Unit {0}) (breaks rule.UnfitSelector at) (breaks rule.UnfitSelector at) refl
  dot_follows start at x last (means.Bound c) t = meant_none (PlaceIn P c.receiver) (breaks rule.UnfitSelector at) (breaks rule.UnfitSelector at) refl
  dot_follows start at x last (means.Out o) t = meant_none (Unit {0}) (breaks rule.UnfitSelector at) (breaks rule.UnfitSelector at) refl
  dot_follows start at x last (means.Predeclared f) t = meant_none (Unit {0}) (breaks rule.UnfitSelector at) (breaks rule.UnfitSelector at) refl
  dot_follows start at x last (means.Call y) t = meant_none (ValuedIn P y) (breaks rule.UnfitSelector at) (breaks rule.UnfitSelector at) refl
  dot_follows start at x last (means.Statement y) t = meant_none (MeantIn P (means.Statement y)) (breaks rule.UnfitSelector at) (breaks rule.UnfitSelector at) refl

  index_breaks : (R : Type 0) (at : Pos) (i j : Judged Valued) → MF R (noted i.notes (breaks rule.UnfitSelector at)) (noted j.notes (breaks rule.UnfitSelector at))
  index_breaks R at i j = meant_none R (noted i.notes (breaks rule.UnfitSelector at)) (noted j.notes (breaks rule.UnfitSelector at)) refl

  step_index_follows : (at : Pos) (i j : Judged Valued) (m : Meant) → MeantTied P m → Follows P (ValuedTied P) (ValuedIn P) (Unit {0}) i j → MF (MeantIn P m) (step_index (map_of u) at i m) (step_index (map_of v) at j m)
  step_index_follows at i j (means.Place p) t h = of_variable_follows P (PlaceIn P p) (index (map_of u) at p i) (index (map_of v) at p j) (index_follows P (map_of u) (map_of v) maps at p i j t h)
  step_index_follows at i j (means.Constant c) t h = index_breaks (Unit {0}) at i j
  step_index_follows at i j (means.Procedure q g) t h = index_breaks (Unit {0}) at i j
  step_index_follows at i j (means.Bound c) t h = index_breaks (PlaceIn P c.receiver) at i j
  step_index_follows at i j (means.Out o) t h = index_breaks (Unit {0}) at i j
  step_index_follows at i j (means.Predeclared f) t h = index_breaks (Unit {0}) at i j
  step_index_follows at i j (means.Call y) t h = index_breaks (ValuedIn P y) at i j
  step_index_follows at i j (means.Statement y) t h = index_breaks (MeantIn P (means.Statement y)) at i j

  up_follows : (at : Pos) (m : Meant) → MeantTied P m → MF (MeantIn P m) (step_up u at m) (step_up v at m)
  up_follows at (means.Place p) t = of_variable_follows P (PlaceIn P p) (dereference (map_of u) at p) (dereference (map_of v) at p) (dereference_follows P (map_of u) (map_of v) maps at p t)
  up_follows at (means.Bound c) t = super_follows P u s a at c t
  up_follows at (means.Constant c) t = meant_none (Unit {0}) (breaks rule.UnfitSelector at) (breaks rule.UnfitSelector at) refl
  up_follows at (means.Procedure q g) t = meant_none (Unit {0}) (breaks rule.UnfitSelector at) (breaks rule.UnfitSelector at) refl
  up_follows at (means.Out o) t = meant_none (Unit {0}) (breaks rule.UnfitSelector at) (breaks rule.UnfitSelector at) refl
  up_follows at (means.Predeclared f) t = meant_none (Unit {0}) (breaks rule.UnfitSelector at) (breaks rule.UnfitSelector at) refl
  up_follows at (means.Call y) t = meant_none (ValuedIn P y) (breaks rule.UnfitSelector at) (breaks rule.UnfitSelector at) refl
  up_follows at (means.Statement y) t = meant_none (MeantIn P (means.Statement y)) (breaks rule.UnfitSelector at) (breaks rule.UnfitSelector at) refl

  -- a selector whose parts follow
  abbrev pub BehindFollows : Behind → Type 0
  BehindFollows (Dot at x) = Unit {0}
  BehindFollows (Index at i) = PhraseFollows P u s a i
  BehindFollows (Up at) = Unit {0}
  BehindFollows (Round at ps) = PhrasesFollow P u s a ps

  abbrev pub AreBehind : List Behind → Type 0
  AreBehind bs = AllByRecursion BehindFollows bs

  step_follows : (w : Where) (start : Pos) (m : Meant) (b : Behind) (last : Bool) → MeantTied P m → BehindFollows b → MF (MeantIn P m) (step u w start m b last) (step v w start m b last)
  step_follows w start m (Dot at x) last t h = dot_follows start at x last m t
  step_follows w start m (Index at i) last t h = step_index_follows at (i.value u) (i.value v) m t h.value
  step_follows w start m (Up at) last t h = up_follows at m t
  step_follows w start m (Round at ps) last t h = round_follows w start at ps m t h

  -- ---- each selector in turn

  go_follows : (R : Type 0) (bs : List Behind) (i j : Judged Meant) (f g : Meant → Judged Meant) → MF R i j → ((m : Meant) → MeantTied P m → MF (MeantIn P m) (f m) (g m)) → MF R (go_on u bs i f) (go_on v bs j g)
  go_follows R bs i j f g h k = record { keeps = λ y e said. kept i.node refl y e said; same = λ y e said m. same i.node refl y e said m }
    where
      kept : (o : Option Meant) → i.node ≡ o → (y : Meant) → (go_on_with u bs f o).node ≡ Some y → SaidIn P (noted i.notes (go_on_with u bs f o)).notes → MeantTied P y
      kept None l y e said = none_some e
      kept (Some x) l y e said = (k x (h.keeps x l (said_left P i.notes (f x).notes said))).keeps y e (said_right P i.notes (f x).notes said)

      same : (o : Option Meant) → i.node ≡ o → (y : Meant) → (go_on_with u bs f o).node ≡ Some y → SaidIn P (noted i.notes (go_on_with u bs f o)).notes → MeantIn P y → R × (go_on v bs j g ≡ noted i.notes (go_on_with u bs f o))
      same None l y e said m = none_some e
      same (Some x) l y e said m =
          let r = (k x (h.keeps x l (said_left P i.notes (f x).notes said))).same y e (said_right P i.notes (f x).notes said) m in
          let q = h.same x l (said_left P i.notes (f x).notes said) r.0 in
          (q.0, ap (λ z. go_on v bs z g) q.1 ∙ ap (λ o. noted i.notes (go_on_with v bs g o)) l ∙ ap (noted i.notes) r.1)

  pub through_follows : (w : Where) (start : Pos) (bs : List Behind) (m : Meant) → MeantTied P m → AreBehind bs → MF (MeantIn P m) (through u w start bs m) (through v w start bs m)
  through_follows w start [] m t h = follows_sound P (MeantTied P) (MeantIn P) (MeantIn P m) m t (λ k. k)
  through_follows w start (b ∷ bs) m t h =
      go_follows (MeantIn P m) bs (step u (where_of w (nothing_behind bs)) start m b (nothing_behind bs)) (step v (where_of w (nothing_behind bs)) start m b (nothing_behind bs)) (λ n. through u w start bs n) (λ n. through v w start bs n)
      (step_follows (where_of w (nothing_behind bs)) start m b (nothing_behind bs) t h.0) (λ n k. through_follows w start bs n k h.1)
