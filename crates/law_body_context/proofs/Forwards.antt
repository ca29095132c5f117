-- Forward declarations, where nothing is said against them: each has its procedure, of a signature that matches.
use Rattle.std.proofs.Common.{◌≡◌, refl, sym, ap, ◌∙◌, subst, ℕ, Bool, true, false, List, [], ◌∷◌, ◌++◌, Option, Some, None, inl, inr}
use Rattle.std.specs.Prelude.{bytes_eq, cond, not, ◌&&◌}
use Rattle.std.specs.List.{AllByRecursion, find}
use Rattle.ob_tree.specs.declared.pos.Pos.{Pos}
use Rattle.ob_rules.specs.declared.broken.Rule.TheVariants as rule
use Rattle.ob_rules.specs.Judged.{notes_if}
use Rattle.ob_rules.specs.Shapes.{Map}
use Rattle.ob_rules.specs.Operators.{signatures_match}
use Rattle.ob_rules.specs.Types.{Parameters}
use Rattle.ob_rules.specs.Headings.{BoundAs, Head, answers_by, answers, same_receiver, signature_if, both_sound, forward_broken, forward_if, forwards_judged}
use Rattle.law_simulation_relation.proofs.Names.{bytes_true}
use Rattle.law_typing_forms.specs.Said.{IsOneOf}
use Rattle.law_names_procedures.proofs.Judges.{Has}
use Rattle.law_body_context.proofs.Lists.{one_all}
use Rattle.law_body_context.proofs.Quiet.{IsQuietHead}
use Rattle.law_lists.proofs.Lists.{and_parts, back_empty, front_empty, not_false, not_true}

-- the heading of the procedure that a forward declaration, which is not bound, stands for
pub record IsAnswered (map : Map) (all : List Head) (f : Head) (q : Parameters) : Type 0 where
  pub g : Head
  pub there : IsOneOf all g
  pub written : g.forward ≡ false
  pub free : g.is_bound ≡ false
  pub path : g.path ≡ f.path
  pub r : Parameters
  pub is : g.parameters ≡ Some r
  pub alike : signatures_match map (Some q.signature) (Some r.signature) ≡ true

quiet_false : (b : Bool) (at : Pos) → (notes_if b rule.UnmatchedForward at).broken ≡ [] → b ≡ false
quiet_false true at e = absurd cc
quiet_false false at e = refl

has_one : {A : Type 0} (o : Option A) → Has (λ x. Unit {0}) o → (x : A) × (o ≡ Some x)
has_one None h = absurd h
has_one (Some x) h = (x, refl)

found_one : (test : Head → Bool) (all : List Head) (g : Head) → find test all ≡ Some g → IsOneOf all g × (test g ≡ true)
found_one test [] g e = absurd cc
found_one test (h ∷ all) g e = by (test h) refl e (λ k. found_one test all g k)
  where
    by : (b : Bool) → test h ≡ b → cond b (Some h) (find test all) ≡ Some g → (find test all ≡ Some g → IsOneOf all g × (test g ≡ true)) → IsOneOf (h ∷ all) g × (test g ≡ true)
    by true i k r = let s : h ≡ g = cc in (inl s, ap test (sym s) ∙ i)
    by false i k r = let x = r k in (inr x.0, x.1)

answer_parts : (p q : Bool) (a b : Option BoundAs) (x y : List ℕ) → p ≡ false → answers_by p q a b x y ≡ true → (q ≡ false) × (bytes_eq x y ≡ true)
answer_parts true q a b x y e f = absurd cc
answer_parts false false a b x y e f = (refl, f)
answer_parts false true a b x y e f = absurd cc

module _ (map : Map) (all : List Head) (path : List ℕ) (quiet : AllByRecursion (IsQuietHead path) all) where
  matched : (f g : Head) (q r : Parameters) → f.parameters ≡ Some q → g.parameters ≡ Some r → forward_broken map f (Some g) ≡ false → signatures_match map (Some q.signature) (Some r.signature) ≡ true
  matched f g q r a b e = by f.parameters g.parameters a b e
    where
      by : (o p : Option Parameters) → o ≡ Some q → p ≡ Some r → (both_sound o p && not (signatures_match map (signature_if o) (signature_if p) && same_receiver map f.bound g.bound)) ≡ false → signatures_match map (Some q.signature) (Some r.signature) ≡ true
      by None p a b e = absurd cc
      by (Some o) None a b e = absurd cc
      by (Some o) (Some p) a b e =
          let m = and_parts (signatures_match map (Some o.signature) (Some p.signature)) (same_receiver map f.bound g.bound) (not_true _ e) in
          let s : o ≡ q = cc in
          let t : p ≡ r = cc in
          subst (λ (z : Parameters). signatures_match map (Some q.signature) (Some z.signature) ≡ true) t (subst (λ (z : Parameters). signatures_match map (Some z.signature) (Some p.signature) ≡ true) s m.0)

  answered : (f : Head) → IsOneOf all f → f.is_bound ≡ false → (q : Parameters) → f.parameters ≡ Some q → (o : Option Head) → find (answers f) all ≡ o → forward_broken map f o ≡ false → IsAnswered map all f q
  answered f i free q a None e b = absurd cc
  answered f i free q a (Some g) e b =
      let x = found_one (answers f) all g e in
      let y = and_parts (not g.forward) (answers_by f.is_bound g.is_bound f.bound g.bound f.name g.name) x.1 in
      let z = answer_parts f.is_bound g.is_bound f.bound g.bound f.name g.name free y.1 in
      let mine = one_all (IsQuietHead path) all f quiet i in
      let theirs = one_all (IsQuietHead path) all g quiet x.0 in
      let r = has_one g.parameters theirs.parameters in
      record {
        g = g;
        there = x.0;
        written = not_false g.forward y.0;
        free = z.0;
        path = theirs.path_is z.0 ∙ ap (λ n. path ++ n) (sym (bytes_true f.name g.name z.1)) ∙ sym (mine.path_is free);
        r = r.0;
        is = r.1;
        alike = matched f g q r.0 a r.1 b;
      }

  one_answered : (f : Head) → IsOneOf all f → (b : Bool) → f.forward ≡ b → (forward_if b map all f).broken ≡ [] → f.forward ≡ true → f.is_bound ≡ false → (q : Parameters) → f.parameters ≡ Some q → IsAnswered map all f q
  one_answered f i true e n w free q a = answered f i free q a (find (answers f) all) refl (quiet_false (forward_broken map f (find (answers f) all)) f.at n)
  one_answered f i false e n w free q a = absurd cc

  pub all_answered : (hs : List Head) → ((h : Head) → IsOneOf hs h → IsOneOf all h) → (forwards_judged map all hs).broken ≡ [] → (f : Head) → IsOneOf hs f → f.forward ≡ true → f.is_bound ≡ false → (q : Parameters) → f.parameters ≡ Some q → IsAnswered map all f q
  all_answered [] lies n f i w free q a = absurd i
  all_answered (h ∷ hs) lies n f (inl e) w free q a =
      subst (λ (x : Head). x.forward ≡ true → x.is_bound ≡ false → x.parameters ≡ Some q → IsAnswered map all x q) e (λ w free a. one_answered h (lies h (inl refl)) h.forward refl (front_empty (forward_if h.forward map all h).broken _ n) w free q a) w free a
  all_answered (h ∷ hs) lies n f (inr i) w free q a = all_answered hs (λ g j. lies g (inr j)) (back_empty (forward_if h.forward map all h).broken _ n) f i w free q a
