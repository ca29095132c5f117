-- Headings of procedures that are not bound and keep the rules differ in their name or in being forward, and have no name that is declared before them.
use Rattle.std.proofs.Common.{◌≡◌, ℕ, Bool, true, false, List, [], ◌∷◌, Option, Some, None, refl, sym, ap, ◌∙◌, subst}
use Rattle.std.specs.Prelude.{cond, bytes_eq, is_some, not, ◌&&◌, ◌||◌}
use Rattle.std.proofs.lemmas.Bool.{eq-eqb}
use Rattle.std.proofs.lemmas.Slice.Eq.{bytes_eq-Decides}
use Rattle.ob_rules.specs.declared.entity.Entity.{Entity}
use Rattle.ob_rules.specs.declared.entity.Known.{Known}
use Rattle.ob_rules.specs.declared.broken.Rule.TheVariants as rule
use Rattle.ob_rules.specs.Judged.{broken_at}
use Rattle.ob_rules.specs.Names.{Around, in_unit, in_scope, found_in_scope}
use Rattle.ob_rules.specs.Types.{Parameters, with_types}
use Rattle.ob_rules.specs.Headings.{Head, Heads, head_of, entity_as, head_entity, leaves_room, is_twice, head_twice, twice_by, name_twice, declared_head, knows_procedure, known_behind, types_of, add_heading}
use Rattle.ob_rules.specs.Declarations.{Written_procedure, headings_in_order}
use Rattle.law_names_distinct.proofs.Fresh.{is_known}
use Rattle.law_names_types.specs.Once.{plain_before, IsPlainOnce, ArePlainOnce, HasNoForward, AreQuiet, HeadingsAreOnce}
use Rattle.law_names_types.proofs.Keys.{before_quiet, headings_once}
use Rattle.law_lists.proofs.Lists.{back_empty, not_true}

-- what is known of a name behind headings: what was known before them, or the latest heading's
abbrev pub Status : Option Known → Option Head → Option Known → Type 0
Status before None now = now ≡ before
Status before (Some h) now = (k : Known) × (now ≡ Some k) × (leaves_room false k.what ≡ true → h.forward ≡ true)

pub record AreKnownBehind (v : Around) (hs : Heads) : Type 0 where
  pub scope : hs.around.scope ≡ v.scope
  pub status : (x : List ℕ) → Status (found_in_scope v x) (plain_before hs.before x) (found_in_scope hs.around x)
  pub once : ArePlainOnce v hs.before

-- ---- a heading more

entity_forward : (f : Bool) (u : Around) (h : Head) (o : Option Parameters) → h.forward ≡ f → leaves_room false (head_entity u h o) ≡ true → f ≡ true
entity_forward f u h None i e = absurd cc
entity_forward f u h (Some p) i e = sym i ∙ by h.forward e
  where
    by : (b : Bool) → leaves_room false (entity_as b (in_unit u h.path) p.signature) ≡ true → b ≡ true
    by true e = refl
    by false e = absurd cc

room_forward : (f : Bool) (e : Entity) → leaves_room f e ≡ true → (f ≡ false) × (leaves_room false e ≡ true)
room_forward true e h = absurd cc
room_forward false e h = (refl, h)

-- the name is new behind the declarations, and none of its kind stands before it
module _ (v : Around) (none : HasNoForward v) (h : Head) (hs : List Head) (now : Option Known) where
  new_name : (o : Option Known) → found_in_scope v h.name ≡ o → is_twice h.forward o ≡ false → is_known v h.name ≡ false
  new_name None i e = ap is_some i
  new_name (Some k) i e =
      let r = room_forward h.forward k.what (not_true (leaves_room h.forward k.what) e) in
      let bad : true ≡ false = sym r.1 ∙ none h.name k i in
      absurd cc

  earlier_new : (o : Option Head) → plain_before hs h.name ≡ o → ArePlainOnce v hs → (k : Head) → o ≡ Some k → is_known v h.name ≡ false
  earlier_new o i all k e = go hs (i ∙ e) all
    where
      go : (hs : List Head) → plain_before hs h.name ≡ Some k → ArePlainOnce v hs → is_known v h.name ≡ false
      go [] i all = absurd cc
      go (j ∷ hs) i all = by (not j.is_bound) (bytes_eq j.name h.name) refl refl i (λ i. go hs i all.1)
        where
          true_not : (b : Bool) → not b ≡ true → b ≡ false
          true_not true e = absurd cc
          true_not false e = refl

          by : (a b : Bool) → not j.is_bound ≡ a → bytes_eq j.name h.name ≡ b → cond (a && b) (Some j) (plain_before hs h.name) ≡ Some k → (plain_before hs h.name ≡ Some k → is_known v h.name ≡ false) → is_known v h.name ≡ false
          by true true p n i r = let n' = (bytes_eq-Decides j.name h.name).0 n in subst (λ x. is_known v x ≡ false) n' (all.0 (true_not j.is_bound p)).new
          by true false p n i r = r i
          by false b p n i r = r i

  plain_once : (o : Option Head) → plain_before hs h.name ≡ o → ArePlainOnce v hs → Status (found_in_scope v h.name) o now → is_twice h.forward now ≡ false → IsPlainOnce v h hs
  plain_once None i all s e = record {
    once = ap (head_twice h.forward) i;
    new = new_name (found_in_scope v h.name) refl (subst (λ (o : Option Known). is_twice h.forward o ≡ false) s e);
  }
  plain_once (Some k) i all s e =
      let t : is_twice h.forward (Some s.0) ≡ false = subst (λ (o : Option Known). is_twice h.forward o ≡ false) s.1 e in
      let r = room_forward h.forward s.0.what (not_true (leaves_room h.forward s.0.what) t) in
      record {
        once = ap (head_twice h.forward) i ∙ ap (λ b. b || not k.forward) r.0 ∙ ap not (s.2 r.1);
        new = earlier_new (Some k) i all k refl;
      }

-- what is known behind it
one_status : (v u : Around) (hs : List Head) (h g : Head) → g.name ≡ h.name → g.is_bound ≡ false → g.forward ≡ h.forward → (x : List ℕ) →
    Status (found_in_scope v x) (plain_before hs x) (found_in_scope u x) → Status (found_in_scope v x) (plain_before (g ∷ hs) x) (found_in_scope (knows_procedure u h false) x)
one_status v u hs h g n p f x s =
    let k : Known = record { name = h.name; scope = u.scope; what = head_entity u h h.parameters } in
    let named : in_scope u.scope k x ≡ bytes_eq h.name x = ap (λ b. b && bytes_eq h.name x) (eq-eqb u.scope u.scope refl) in
    let test : not g.is_bound && bytes_eq g.name x ≡ bytes_eq h.name x = ap (λ b. not b && bytes_eq g.name x) p ∙ ap (λ y. bytes_eq y x) n in
    subst (λ b. Status (found_in_scope v x) (cond b (Some g) (plain_before hs x)) (found_in_scope (knows_procedure u h false) x)) (sym test)
    (subst (λ b. Status (found_in_scope v x) (cond (bytes_eq h.name x) (Some g) (plain_before hs x)) (cond b (Some k) (found_in_scope u x))) (sym named) (by k (bytes_eq h.name x) (λ e. entity_forward g.forward u h h.parameters (sym f) e) s))
  where
    by : (k : Known) (b : Bool) → (leaves_room false k.what ≡ true → g.forward ≡ true) → Status (found_in_scope v x) (plain_before hs x) (found_in_scope u x) → Status (found_in_scope v x) (cond b (Some g) (plain_before hs x)) (cond b (Some k) (found_in_scope u x))
    by k true r s = (k, refl, r)
    by k false r s = s

module _ (v : Around) (none : HasNoForward v) (hs : Heads) (known : AreKnownBehind v hs) (h : Head) where
  abbrev typed : Around
  typed = with_types hs.around (types_of h.parameters)

  abbrev behind : Bool → Around
  behind t = known_behind typed t h

  bound_status : (g : Head) → g.is_bound ≡ true → (x : List ℕ) → Status (found_in_scope v x) (plain_before (g ∷ hs.before) x) (found_in_scope typed x)
  bound_status g p x = subst (λ b. Status (found_in_scope v x) (cond (not b && bytes_eq g.name x) (Some g) (plain_before hs.before x)) (found_in_scope hs.around x)) (sym p) (known.status x)

  added_by : (b : Bool) → h.is_bound ≡ b → (g : Head) → g.name ≡ h.name → g.is_bound ≡ h.is_bound → g.forward ≡ h.forward → twice_by typed hs.before h b h.bound ≡ false → AreKnownBehind v (record { around = knows_procedure typed h b; before = g ∷ hs.before })
  added_by true p g n i f t = record { scope = known.scope; status = λ x. bound_status g (i ∙ p) x; once = ((λ q. let bad : true ≡ false = sym p ∙ sym i ∙ q in absurd cc), known.once) }
  added_by false p g n i f t = record {
    scope = known.scope;
    status = λ x. one_status v typed hs.before h g n (i ∙ p) f x (known.status x);
    once = (
      (λ q. let o = plain_once v none h hs.before (found_in_scope hs.around h.name) (plain_before hs.before h.name) refl known.once (known.status h.name) t in
          record {
            once = ap (λ x. head_twice g.forward (plain_before hs.before x)) n ∙ ap (λ b. head_twice b (plain_before hs.before h.name)) f ∙ o.once;
            new = ap (is_known v) n ∙ o.new;
          }),
      known.once,
    );
  }

  added : (t : Bool) → name_twice typed hs.before h ≡ t → (declared_head t h (behind t)).notes.broken ≡ [] → AreKnownBehind v (record { around = behind t; before = declared_head t h (behind t) ∷ hs.before })
  added true n e = let bad : (broken_at rule.DeclaredTwice h.at).broken ≡ [] = back_empty h.notes.broken (broken_at rule.DeclaredTwice h.at).broken e in absurd cc
  added false n e = added_by h.is_bound refl (declared_head false h (behind false)) refl refl refl n

-- ---- headings in order

pub headings_known : (v : Around) → HasNoForward v → (ps : List Written_procedure) (hs : Heads) → AreKnownBehind v hs → AreQuiet (headings_in_order ps hs).before → AreKnownBehind v (headings_in_order ps hs)
headings_known v none [] hs known q = known
headings_known v none (p ∷ ps) hs known q =
    let h = head_of hs.around p.heading p.forward in
    let mine = before_quiet ps (add_heading hs p.heading p.forward) q in
    headings_known v none ps (add_heading hs p.heading p.forward) (added v none hs known h (name_twice (with_types hs.around (types_of h.parameters)) hs.before h) refl mine.0) q

-- HEADINGS HAVE NAMES OF THEIR OWN
pub headings_are_once : HeadingsAreOnce
headings_are_once v none ps q =
    let first : Heads = record { around = v; before = [] } in
    (headings_once ps first tt q, (headings_known v none ps first (record { scope = refl; status = λ x. refl; once = tt }) q).once)
