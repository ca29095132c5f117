-- Judgements that follow one another, of parts that do.
use Rattle.std.proofs.Common.{◌≡◌, refl, sym, ap, ◌∙◌, subst, List, [], ◌∷◌, Option, Some, None, Bool, true, false}
use Rattle.ob_tree.specs.declared.pos.Pos.{Pos}
use Rattle.ob_tree.specs.declared.names.QName.{QName}
use Rattle.ob_rules.specs.declared.broken.Rule.{Rule}
use Rattle.ob_rules.specs.Judged.{Judged, Notes, sound, breaks, noted, joined, if_sound, paired, both, made, wants, also, unless, found_or, ◌▷◌}
use Rattle.law_local_judged.specs.Agreement.{IsIn}
use Rattle.law_local_judged.specs.Said.{DesignatorIn, SaidIn}
use Rattle.law_local_judged.specs.Followed.{Follows}
use Rattle.law_local_judged.proofs.Tests.{two}
use Rattle.law_lists.proofs.Lists.{all_back, all_front, none_some, some_same}

pub none_then : {A B : Type 0} (j : Judged A) (f : A → Judged B) → ((x : A) → (f x).node ≡ None) → (j ▷ f).node ≡ None
none_then {A} {B} j f h = by j.node
  where
    by : (o : Option A) → (if_sound o f).node ≡ None
    by None = refl
    by (Some x) = h x

-- what comes of a sound part of a sound part is none
pub twice_none : {A B C : Type 0} (j : Judged A) (h : A → B) (f : B → Judged C) → ((x : A) → (f (h x)).node ≡ None) → ((j ▷ λ x. sound (h x)) ▷ f).node ≡ None
twice_none {A} {B} {C} j h f e = by j.node
  where
    by : (o : Option A) → (if_sound (if_sound o (λ x. sound (h x))).node f).node ≡ None
    by None = refl
    by (Some x) = e x

pub then_node : {A B : Type 0} (j : Judged A) (f : A → Judged B) (y : B) → (j ▷ f).node ≡ Some y → (x : A) × (j.node ≡ Some x)
then_node {A} {B} j f y = by j.node refl
  where
    by : (o : Option A) → j.node ≡ o → (if_sound o f).node ≡ Some y → (x : A) × (j.node ≡ Some x)
    by None k e = none_some e
    by (Some x) k e = (x, k)

-- what a node is made of
pub made_node : {A B : Type 0} (f : A → B) (j : Judged A) (y : B) → (made f j).node ≡ Some y → (x : A) × ((j.node ≡ Some x) × (f x ≡ y))
made_node {A} {B} f j y = by j.node refl
  where
    by : (o : Option A) → j.node ≡ o → (if_sound o (λ x. sound (f x))).node ≡ Some y → (x : A) × ((j.node ≡ Some x) × (f x ≡ y))
    by None k e = none_some e
    by (Some x) k e = (x, (k, some_same e))

pub both_node : {A B : Type 0} (a : Judged A) (b : Judged B) (y : A × B) → (both a b).node ≡ Some y → (a.node ≡ Some y.0) × (b.node ≡ Some y.1)
both_node {A} {B} a b y = by a.node b.node refl refl
  where
    by : (o : Option A) (p : Option B) → a.node ≡ o → b.node ≡ p → paired o p ≡ Some y → (a.node ≡ Some y.0) × (b.node ≡ Some y.1)
    by None p k l e = none_some e
    by (Some x) None k l e = none_some e
    by (Some x) (Some z) k l e = (k ∙ ap (λ (w : A × B). Some w.0) (some_same e), l ∙ ap (λ (w : A × B). Some w.1) (some_same e))

pub both_nodes : {A B : Type 0} (a : Judged A) (b : Judged B) (y : A × B) → (both a b).node ≡ Some y → ((x : A) × (a.node ≡ Some x)) × ((x : B) × (b.node ≡ Some x))
both_nodes {A} {B} a b y = by a.node b.node refl refl
  where
    by : (o : Option A) (p : Option B) → a.node ≡ o → b.node ≡ p → paired o p ≡ Some y → ((x : A) × (a.node ≡ Some x)) × ((x : B) × (b.node ≡ Some x))
    by None p k l e = none_some e
    by (Some x) None k l e = none_some e
    by (Some x) (Some z) k l e = ((x, k), (z, l))

module _ (P : QName → Type 0) where
  pub said_left : (a b : Notes) → SaidIn P (joined a b) → SaidIn P a
  said_left a b h = record { objects = all_front P a.objects b.objects h.objects; types = all_front (IsIn P) a.types b.types h.types; lengths = all_front (DesignatorIn P) a.lengths b.lengths h.lengths }

  pub said_right : (a b : Notes) → SaidIn P (joined a b) → SaidIn P b
  said_right a b h = record { objects = all_back P a.objects b.objects h.objects; types = all_back (IsIn P) a.types b.types h.types; lengths = all_back (DesignatorIn P) a.lengths b.lengths h.lengths }

  pub front_said : {A B : Type 0} (j : Judged A) (f : A → Judged B) → SaidIn P (j ▷ f).notes → SaidIn P j.notes
  front_said j f h = said_left j.notes (if_sound j.node f).notes h

  -- what has no node is followed by all
  pub follows_none : {A : Type 0} (T M : A → Type 0) (R : Type 0) (a b : Judged A) → a.node ≡ None → Follows P T M R a b
  follows_none T M R a b e = record { keeps = λ x k s. none_some (sym e ∙ k); same = λ x k s m. none_some (sym e ∙ k) }

  pub follows_sound : {A : Type 0} (T M : A → Type 0) (R : Type 0) (x : A) → T x → (M x → R) → Follows P T M R (sound x) (sound x)
  follows_sound T M R x t r = record { keeps = λ y k s. subst T (some_same k) t; same = λ y k s m. (r (subst M (sym (some_same k)) m), refl) }

  -- the same, where what is retained of it makes it so
  pub follows_same : {A : Type 0} (T M : A → Type 0) (R : Type 0) (a b : Judged A) → ((x : A) → a.node ≡ Some x → SaidIn P a.notes → T x) → ((x : A) → a.node ≡ Some x → SaidIn P a.notes → M x → R) → (R → b ≡ a) → Follows P T M R a b
  follows_same T M R a b t r e = record { keeps = t; same = λ x k s m. let h = r x k s m in (h, e h) }

  pub follows_to : {A : Type 0} (T M : A → Type 0) (R : Type 0) (a b : Judged A) → Follows P T M R a a → (R → b ≡ a) → Follows P T M R a b
  follows_to T M R a b h e = record { keeps = h.keeps; same = λ x k s m. let r = h.same x k s m in (r.0, e r.0) }

  pub follows_weaker : {A : Type 0} (T M : A → Type 0) (Q R : Type 0) (a b : Judged A) → (Q → R) → Follows P T M Q a b → Follows P T M R a b
  follows_weaker T M Q R a b f h = record { keeps = h.keeps; same = λ x k s m. let r = h.same x k s m in (f r.0, r.1) }

  -- with more that is mentioned
  pub follows_with : {A : Type 0} (T M : A → Type 0) (R : Type 0) (a b : Judged A) → Follows P T M (Unit {0}) a b → Follows P T (λ x. M x × R) R a b
  follows_with T M R a b h = record { keeps = h.keeps; same = λ x k s m. (m.1, (h.same x k s m.0).1) }

  pub follows_noted : {A : Type 0} (T M : A → Type 0) (R : Type 0) (n : Notes) (a b : Judged A) → Follows P T M R a b → Follows P T M R (noted n a) (noted n b)
  follows_noted T M R n a b h = record {
    keeps = λ x k s. h.keeps x k (said_right n a.notes s);
    same = λ x k s m. let r = h.same x k (said_right n a.notes s) m in (r.0, ap (noted n) r.1);
  }

  pub follows_then : {A B : Type 0} (T M : A → Type 0) (U N : B → Type 0) (R : Type 0) (j k : Judged A) (f g : A → Judged B) → Follows P T M R j k → ((x : A) → T x → Follows P U N (M x) (f x) (g x)) → Follows P U N R (j ▷ f) (k ▷ g)
  follows_then {A} {B} T M U N R j k f g h i = record { keeps = λ y e s. kept j.node refl y e s; same = λ y e s n. same j.node refl y e s n }
    where
      kept : (o : Option A) → j.node ≡ o → (y : B) → (if_sound o f).node ≡ Some y → SaidIn P (joined j.notes (if_sound o f).notes) → U y
      kept None l y e s = none_some e
      kept (Some x) l y e s = (i x (h.keeps x l (said_left j.notes (f x).notes s))).keeps y e (said_right j.notes (f x).notes s)

      same : (o : Option A) → j.node ≡ o → (y : B) → (if_sound o f).node ≡ Some y → SaidIn P (joined j.notes (if_sound o f).notes) → N y → R × (k ▷ g ≡ noted j.notes (if_sound o f))
      same None l y e s n = none_some e
      same (Some x) l y e s n =
          let r = (i x (h.keeps x l (said_left j.notes (f x).notes s))).same y e (said_right j.notes (f x).notes s) n in
          let q = h.same x l (said_left j.notes (f x).notes s) r.0 in
          (q.0, ap (λ z. z ▷ g) q.1 ∙ ap (λ o. noted j.notes (if_sound o g)) l ∙ ap (noted j.notes) r.1)

  pub follows_made : {A B : Type 0} (T M : A → Type 0) (U N : B → Type 0) (R : Type 0) (f : A → B) (j k : Judged A) → Follows P T M R j k → ((x : A) → T x → U (f x)) → ((x : A) → T x → N (f x) → M x) → Follows P U N R (made f j) (made f k)
  follows_made T M U N R f j k h t m = follows_then T M U N R j k (λ x. sound (f x)) (λ x. sound (f x)) h (λ x p. follows_sound U N (M x) (f x) (t x p) (m x p))

  pub follows_both : {A B : Type 0} (T M : A → Type 0) (U N : B → Type 0) (Q R : Type 0) (a c : Judged A) (b d : Judged B) → Follows P T M Q a c → Follows P U N R b d → Follows P (λ p. T p.0 × U p.1) (λ p. M p.0 × N p.1) (Q × R) (both a b) (both c d)
  follows_both {A} {B} T M U N Q R a c b d h i = record { keeps = λ y e s. kept a.node b.node refl refl y e s; same = λ y e s n. same a.node b.node refl refl y e s n }
    where
      kept : (o : Option A) (p : Option B) → a.node ≡ o → b.node ≡ p → (y : A × B) → paired o p ≡ Some y → SaidIn P (joined a.notes b.notes) → T y.0 × U y.1
      kept None p k l y e s = none_some e
      kept (Some x) None k l y e s = none_some e
      kept (Some x) (Some z) k l y e s = subst (λ (y : A × B). T y.0 × U y.1) (some_same e) (h.keeps x k (said_left a.notes b.notes s), i.keeps z l (said_right a.notes b.notes s))

      same : (o : Option A) (p : Option B) → a.node ≡ o → b.node ≡ p → (y : A × B) → paired o p ≡ Some y → SaidIn P (joined a.notes b.notes) → M y.0 × N y.1 → (Q × R) × (both c d ≡ both a b)
      same None p k l y e s n = none_some e
      same (Some x) None k l y e s n = none_some e
      same (Some x) (Some z) k l y e s n =
          let m : M x × N z = subst (λ (y : A × B). M y.0 × N y.1) (sym (some_same e)) n in
          let q = h.same x k (said_left a.notes b.notes s) m.0 in
          let r = i.same z l (said_right a.notes b.notes s) m.1 in
          ((q.0, r.0), two (λ x y. both x y) q.1 r.1)

  -- a condition that comes out the same where its parts are among the names
  pub follows_wants : {A : Type 0} (T M : A → Type 0) (R : Type 0) (b c : Bool) (rule : Rule) (at : Pos) (x : A) → T x → (M x → R) → (R → c ≡ b) → Follows P T M R (wants b rule at x) (wants c rule at x)
  follows_wants T M R true c rule at x t r e = record { keeps = λ y k s. subst T (some_same k) t; same = λ y k s m. let h = r (subst M (sym (some_same k)) m) in (h, ap (λ z. wants z rule at x) (e h)) }
  follows_wants T M R false c rule at x t r e = follows_none T M R (breaks rule at) (wants c rule at x) refl

  pub follows_unless : {A : Type 0} (T M : A → Type 0) (R : Type 0) (b c : Bool) (rule : Rule) (at : Pos) (x : A) → T x → (M x → R) → (R → c ≡ b) → Follows P T M R (unless b rule at x) (unless c rule at x)
  follows_unless T M R false c rule at x t r e = record { keeps = λ y k s. subst T (some_same k) t; same = λ y k s m. let h = r (subst M (sym (some_same k)) m) in (h, ap (λ z. unless z rule at x) (e h)) }
  follows_unless T M R true c rule at x t r e = follows_none T M R (breaks rule at) (unless c rule at x) refl

  pub follows_also : {A : Type 0} (T M : A → Type 0) (R : Type 0) (b c : Bool) (rule : Rule) (at : Pos) (i j : Judged A) → Follows P T M R i j → (R → c ≡ b) → Follows P T M R (also b rule at i) (also c rule at j)
  follows_also T M R true c rule at i j h e = follows_none T M R (also true rule at i) (also c rule at j) refl
  follows_also T M R false c rule at i j h e = record { keeps = h.keeps; same = λ y k s m. let r = h.same y k s m in (r.0, two (λ z w. also z rule at w) (e r.0) r.1) }

  pub follows_found : {A : Type 0} (T M : A → Type 0) (R : Type 0) (rule : Rule) (at : Pos) (o p : Option A) → ((x : A) → o ≡ Some x → T x) → ((x : A) → o ≡ Some x → M x → R × (p ≡ o)) → Follows P T M R (found_or rule at o) (found_or rule at p)
  follows_found T M R rule at None p t r = follows_none T M R (breaks rule at) (found_or rule at p) refl
  follows_found T M R rule at (Some x) p t r = record { keeps = λ y k s. subst T (some_same k) (t x refl); same = λ y k s m. let h = r x refl (subst M (sym (some_same k)) m) in (h.0, ap (found_or rule at) h.1) }

-- judgements that follow one another, one by one
abbrev pub Both : {A : Type 0} → (QName → Type 0) → (T M : A → Type 0) → List (Judged A) → List (Judged A) → Type 0
Both P T M [] [] = Unit {0}
Both P T M (j ∷ js) (k ∷ ks) = Follows P T M (Unit {0}) j k × Both P T M js ks
Both P T M js ks = ⊥
