-- Headings of bound procedures that keep the rules differ in their record, their name, or in being forward.
use Rattle.std.proofs.Common.{◌≡◌, ℕ, Bool, true, false, List, [], ◌∷◌, Option, Some, None, refl, sym, ap, ◌∙◌, subst}
use Rattle.std.specs.Prelude.{cond, bytes_eq, is_some, not, ◌&&◌}
use Rattle.std.specs.List.{AllByRecursion}
use Rattle.std.proofs.lemmas.Bool.{and_from, or_parts}
use Rattle.std.proofs.lemmas.Slice.Eq.{bytes_eq-Decides}
use Rattle.ob_tree.specs.declared.names.QName.{QName}
use Rattle.ob_tree.specs.declared.decl.Receiver.{Receiver as RawReceiver}
use Rattle.ob_rules.specs.declared.broken.Rule.TheVariants as rule
use Rattle.ob_rules.specs.Judged.{broken_at}
use Rattle.ob_rules.specs.Names.{Around}
use Rattle.ob_rules.specs.Types.{with_types}
use Rattle.ob_rules.specs.Headings.{Head, Heads, BoundAs, owner_if, bound_in, head_of, key_is, same_key, bound_before, head_twice, twice_by, name_twice, declared_head, known_behind, types_of, add_heading}
use Rattle.ob_rules.specs.Declarations.{Written_procedure, headings_in_order}
use Rattle.law_names_types.specs.Once.{IsOnce, AreOnce, AreQuiet}
use Rattle.law_lists.proofs.Lists.{back_empty, not_true}

-- ---- what is so of two of them

key_true : (h : Head) (b : BoundAs) (q : QName) (x : List ℕ) → h.bound ≡ Some b → b.owner.object ≡ q.object → h.name ≡ x → same_key q x h ≡ true
key_true h b q x i o n =
    ap (λ (a : Option BoundAs). key_is a q x h.name) i
    ∙ and_from (bytes_eq b.owner.object q.object) (bytes_eq x h.name) ((bytes_eq-Decides b.owner.object q.object).1 o) ((bytes_eq-Decides x h.name).1 (sym n))

-- of that record and name, and forward or not as said
abbrev IsLike : QName → List ℕ → Bool → Head → Type 0
IsLike q x f k = (b : BoundAs) × (k.bound ≡ Some b) × (b.owner.object ≡ q.object) × (k.name ≡ x) × (k.forward ≡ f)

abbrev AreNotLike : QName → List ℕ → Bool → List Head → Type 0
AreNotLike q x f hs = AllByRecursion (λ k. IsLike q x f k → ⊥) hs

forward_twice : (o : Option Head) → head_twice true o ≡ false → o ≡ None
forward_twice None e = refl
forward_twice (Some h) e = absurd cc

none_like : (q : QName) (x : List ℕ) (f : Bool) (hs : List Head) → bound_before hs q x ≡ None → AreNotLike q x f hs
none_like q x f [] e = tt
none_like q x f (k ∷ hs) e = by (same_key q x k) refl e (λ i. none_like q x f hs i)
  where
    by : (b : Bool) → same_key q x k ≡ b → cond b (Some k) (bound_before hs q x) ≡ None → (bound_before hs q x ≡ None → AreNotLike q x f hs) → AreNotLike q x f (k ∷ hs)
    by true i e r = absurd cc
    by false i e r = ((λ l. let bad : true ≡ false = sym (key_true k l.0 q x l.1 l.2 l.3) ∙ i in absurd cc), r e)

both_keys : (k : Head) (q : QName) (x : List ℕ) → same_key q x k ≡ true → (b : BoundAs) × (k.bound ≡ Some b) × (b.owner.object ≡ q.object) × (k.name ≡ x)
both_keys k q x e = by k.bound refl e
  where
    parts : (a b : Bool) → (a && b) ≡ true → (a ≡ true) × (b ≡ true)
    parts true b e = (refl, e)
    parts false b e = absurd cc

    by : (o : Option BoundAs) → k.bound ≡ o → key_is o q x k.name ≡ true → (b : BoundAs) × (k.bound ≡ Some b) × (b.owner.object ≡ q.object) × (k.name ≡ x)
    by None i e = absurd cc
    by (Some b) i e = let p = parts (bytes_eq b.owner.object q.object) (bytes_eq x k.name) e in (b, i, (bytes_eq-Decides b.owner.object q.object).0 p.0, sym ((bytes_eq-Decides x k.name).0 p.1))

same_keys : (q r : QName) (x y n : List ℕ) (o : Option BoundAs) → q.object ≡ r.object → x ≡ y → key_is o q x n ≡ key_is o r y n
same_keys q r x y n None o e = refl
same_keys q r x y n (Some b) o e = ap (λ z. bytes_eq b.owner.object z && bytes_eq x n) o ∙ ap (λ z. bytes_eq b.owner.object r.object && bytes_eq z n) e

found_before : (q r : QName) (x y : List ℕ) (hs : List Head) → q.object ≡ r.object → x ≡ y → bound_before hs q x ≡ bound_before hs r y
found_before q r x y [] o n = refl
found_before q r x y (k ∷ hs) o n = ap (λ b. cond b (Some k) (bound_before hs q x)) (same_keys q r x y k.name k.bound o n) ∙ ap (λ m. cond (same_key r y k) (Some k) m) (found_before q r x y hs o n)

not_like : (q : QName) (x : List ℕ) (f : Bool) (hs : List Head) → head_twice f (bound_before hs q x) ≡ false → AreOnce hs → AreNotLike q x f hs
not_like q x f [] e once = tt
not_like q x f (k ∷ hs) e once = by (same_key q x k) refl e (λ i. not_like q x f hs i once.1)
  where
    here : (s : (b : BoundAs) × (k.bound ≡ Some b) × (b.owner.object ≡ q.object) × (k.name ≡ x)) → (f ≡ false) × (k.forward ≡ true) → AreNotLike q x f (k ∷ hs)
    here s p =
        let none : bound_before hs s.0.owner k.name ≡ None = forward_twice (bound_before hs s.0.owner k.name) (subst (λ g. head_twice g (bound_before hs s.0.owner k.name) ≡ false) p.1 (once.0 s.0 s.1)) in (
          (λ l. let bad : true ≡ false = sym p.1 ∙ l.4 ∙ p.0 in absurd cc),
          none_like q x f hs (sym (found_before s.0.owner q k.name x hs s.2 s.3) ∙ none),
        )

    by : (b : Bool) → same_key q x k ≡ b → head_twice f (cond b (Some k) (bound_before hs q x)) ≡ false → (head_twice f (bound_before hs q x) ≡ false → AreNotLike q x f hs) → AreNotLike q x f (k ∷ hs)
    by true i e r = let p = or_parts f (not k.forward) e in here (both_keys k q x i) (p.0, not_true k.forward p.1)
    by false i e r = ((λ l. let bad : true ≡ false = sym (key_true k l.0 q x l.1 l.2 l.3) ∙ i in absurd cc), r e)

-- none before is for the same record and of the same name, and forward as it is
pub once_differ : (h : Head) (hs : List Head) → IsOnce h hs → AreOnce hs → (a : BoundAs) → h.bound ≡ Some a → AllByRecursion (λ k. IsLike a.owner h.name h.forward k → ⊥) hs
once_differ h hs o all a i = not_like a.owner h.name h.forward hs (o a i) all

-- ---- headings in order

bound_is : (u : Around) (o : Option RawReceiver) (a : BoundAs) → bound_in (owner_if u o).node ≡ Some a → is_some o ≡ true
bound_is u None a e = absurd cc
bound_is u (Some r) a e = refl

twice_once : (u : Around) (hs : List Head) (h : Head) (a : BoundAs) (b : Bool) (o : Option BoundAs) → b ≡ true → o ≡ Some a → twice_by u hs h b o ≡ false → head_twice h.forward (bound_before hs a.owner h.name) ≡ false
twice_once u hs h a true None e i n = absurd cc
twice_once u hs h a true (Some c) e i n = let same : c ≡ a = cc in subst (λ (c : BoundAs). head_twice h.forward (bound_before hs c.owner h.name) ≡ false) same n
twice_once u hs h a false o e i n = absurd cc

declared_once : (u v : Around) (hs : List Head) (h : Head) → ((a : BoundAs) → h.bound ≡ Some a → h.is_bound ≡ true) → (t : Bool) → name_twice u hs h ≡ t → (declared_head t h v).notes.broken ≡ [] → IsOnce (declared_head t h v) hs
declared_once u v hs h b true n e = let bad : (broken_at rule.DeclaredTwice h.at).broken ≡ [] = back_empty h.notes.broken (broken_at rule.DeclaredTwice h.at).broken e in absurd cc
declared_once u v hs h b false n e = λ a i. twice_once u hs h a h.is_bound h.bound (b a i) i n

pub before_quiet : (ps : List Written_procedure) (hs : Heads) → AreQuiet (headings_in_order ps hs).before → AreQuiet hs.before
before_quiet [] hs q = q
before_quiet (p ∷ ps) hs q = (before_quiet ps (add_heading hs p.heading p.forward) q).1

pub headings_once : (ps : List Written_procedure) (hs : Heads) → AreOnce hs.before → AreQuiet (headings_in_order ps hs).before → AreOnce (headings_in_order ps hs).before
headings_once [] hs o q = o
headings_once (p ∷ ps) hs o q =
    let h = head_of hs.around p.heading p.forward in
    let u = with_types hs.around (types_of h.parameters) in
    let t = name_twice u hs.before h in
    let mine = before_quiet ps (add_heading hs p.heading p.forward) q in
    headings_once ps (add_heading hs p.heading p.forward) (declared_once u (known_behind u t h) hs.before h (λ a i. bound_is hs.around p.heading.receiver a i) t refl mine.0, o) q
