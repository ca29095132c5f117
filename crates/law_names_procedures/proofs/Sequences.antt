-- The headings of a sequence, where nothing is broken: the keys of its procedures differ.
use Rattle.std.proofs.Common.{◌≡◌, ℕ, Bool, true, false, List, [], ◌∷◌, Option, Some, None, refl, sym, ap, subst, ◌∙◌, cond}
use Rattle.std.specs.Prelude.{bytes_eq, is_some, not, ◌&&◌, nat_eq}
use Rattle.std.specs.List.{AllByRecursion, find}
use Rattle.std.proofs.lemmas.Bool.{false≢true, and_parts}
use Rattle.std.proofs.lemmas.Slice.Eq.{bytes_eq-Decides}
use Rattle.ob_tree.specs.declared.names.QName.{QName}
use Rattle.ob_types.specs.declared.types.Signature.{Signature}
use Rattle.ob_types.specs.declared.typed.TypedType.{TypedType}
use Rattle.ob_rules.specs.declared.entity.Known.{Known}
use Rattle.ob_rules.specs.declared.broken.Rule.TheVariants as rule
use Rattle.ob_rules.specs.Judged.{broken_at}
use Rattle.ob_rules.specs.Names.{Around, in_scope, found_in_scope, in_unit}
use Rattle.ob_rules.specs.Types.{Parameters, with_types, is_module_level}
use Rattle.ob_rules.specs.Headings.{BoundAs, Head, path_by, entity_as, head_entity, leaves_room, is_twice, key_is, same_key, bound_before, head_twice, twice_by, name_twice, declared_head, knows_procedure, Heads, types_of}
use Rattle.law_names_procedures.proofs.Judges.{Has, not_empty}
use Rattle.law_names_procedures.proofs.Knowing.{IsKnown, AreKnown}
use Rattle.law_names_procedures.proofs.Points.{Points}
use Rattle.law_names_procedures.proofs.Headings.{AreBased, known_based, more_based}
use Rattle.law_names_procedures.proofs.Apart.{IsPlain, AreSame, same_keys}
use Rattle.law_lists.proofs.Lists.{back_empty, bytes_itself, nat_itself}

abbrev pub key_of : Head → List ℕ
key_of h = path_by (Some h.bound) h.name

-- a procedure that is not bound is known, and leaves its name for no other
abbrev pub IsFree : Around → Head → Type 0
IsFree u h = h.forward ≡ false → h.bound ≡ None → Has (λ (k : Known). leaves_room false k.what ≡ false) (found_in_scope u h.name)

-- a bound one is the latest of its record and name, or another procedure is
abbrev pub IsBound : List Head → Head → Type 0
IsBound all h = h.forward ≡ false → (b : BoundAs) → h.bound ≡ Some b → Has (λ (k : Head). k.forward ≡ false) (bound_before all b.owner h.name)

pub record GoodHeads (hs : Heads) : Type 0 where
  pub known : AreKnown hs.around.known
  pub based : is_module_level hs.around ≡ true → AreBased hs.around
  pub plain : AllByRecursion (λ h. IsPlain h.name) hs.before
  pub free : AllByRecursion (IsFree hs.around) hs.before
  pub bound : AllByRecursion (IsBound hs.before) hs.before

-- ---- two of one key

twice_found : (forward : Bool) (o : Option Known) → Has (λ (k : Known). leaves_room false k.what ≡ false) o → is_twice forward o ≡ true
twice_found forward None h = absurd h
twice_found true (Some k) h = refl
twice_found false (Some k) h = ap not h

twice_head : (forward : Bool) (o : Option Head) → Has (λ (k : Head). k.forward ≡ false) o → head_twice forward o ≡ true
twice_head forward None h = absurd h
twice_head true (Some k) h = refl
twice_head false (Some k) h = ap not h

key_same : (o : Option BoundAs) (q p : QName) (x y z : List ℕ) → q.object ≡ p.object → x ≡ y → key_is o q x z ≡ key_is o p y z
key_same None q p x y z e f = refl
key_same (Some b) q p x y z e f = ap (λ n. bytes_eq b.owner.object n && bytes_eq x z) e ∙ ap (λ n. bytes_eq b.owner.object p.object && bytes_eq n z) f

before_same : (all : List Head) (q p : QName) (x y : List ℕ) → q.object ≡ p.object → x ≡ y → bound_before all q x ≡ bound_before all p y
before_same [] q p x y e f = refl
before_same (h ∷ all) q p x y e f =
    ap (λ c. cond c (Some h) (find (same_key q x) all)) (key_same h.bound q p x y h.name e f)
    ∙ ap (λ o. cond (key_is h.bound p y h.name) (Some h) o) (before_same all q p x y e f)

-- where the latter is declared once, no two have one key
pub one_differs : (u : Around) (all : List Head) (d h : Head) (a b : Option BoundAs) → d.bound ≡ a → h.bound ≡ b → is_some d.bound ≡ d.is_bound → name_twice u all d ≡ false → IsFree u h → IsBound all h → h.forward ≡ false → AreSame a b d.name h.name → ⊥
one_differs u all d h None None e f g t free bound w s =
    let t2 : twice_by u all d false None ≡ false = subst (λ o. twice_by u all d (is_some o) o ≡ false) e (subst (λ c. twice_by u all d c d.bound ≡ false) (sym g) t) in
    let k : is_twice d.forward (found_in_scope u d.name) ≡ true = twice_found d.forward (found_in_scope u d.name) (subst (λ x. Has (λ (k : Known). leaves_room false k.what ≡ false) (found_in_scope u x)) (sym s) (free w f)) in
    false≢true (sym t2 ∙ k)
one_differs u all d h None (Some c) e f g t free bound w s = s
one_differs u all d h (Some a) None e f g t free bound w s = s
one_differs u all d h (Some a) (Some c) e f g t free bound w s =
    let t2 : twice_by u all d true (Some a) ≡ false = subst (λ o. twice_by u all d (is_some o) o ≡ false) e (subst (λ c. twice_by u all d c d.bound ≡ false) (sym g) t) in
    let k : head_twice d.forward (bound_before all a.owner d.name) ≡ true = twice_head d.forward (bound_before all a.owner d.name) (subst (Has (λ (k : Head). k.forward ≡ false)) (sym (before_same all a.owner c.owner d.name h.name s.0 s.1)) (bound w c f)) in
    false≢true (sym t2 ∙ k)

-- its key is none of those before
pub keys_differ : (hs : Heads) → GoodHeads hs → (d : Head) → IsPlain d.name → is_some d.bound ≡ d.is_bound → name_twice hs.around hs.before d ≡ false → AllByRecursion (λ h. h.forward ≡ false → key_of d ≡ key_of h → ⊥) hs.before
keys_differ hs g d pl b t = all hs.before g.plain g.free g.bound
  where
    all : (ks : List Head) → AllByRecursion (λ h. IsPlain h.name) ks → AllByRecursion (IsFree hs.around) ks → AllByRecursion (IsBound hs.before) ks → AllByRecursion (λ h. h.forward ≡ false → key_of d ≡ key_of h → ⊥) ks
    all [] p f c = tt
    all (h ∷ ks) p f c = (λ w e. one_differs hs.around hs.before d h d.bound h.bound refl refl b t f.0 c.0 w (same_keys d.bound h.bound d.name h.name pl.0 p.0.0 e), all ks p.1 f.1 c.1)

-- ---- one more

key_true : (o : Option BoundAs) (q : QName) (x y : List ℕ) → key_is o q x y ≡ true → (b : BoundAs) × (o ≡ Some b) × (b.owner.object ≡ q.object) × (x ≡ y)
key_true None q x y e = absurd (false≢true e)
key_true (Some b) q x y e =
    let p = and_parts (bytes_eq b.owner.object q.object) (bytes_eq x y) e in
    (b, refl, (bytes_eq-Decides b.owner.object q.object).0 p.0, (bytes_eq-Decides x y).0 p.1)

entity_full : (u : Around) (d : Head) (o : Option Parameters) → d.forward ≡ false → leaves_room false (head_entity u d o) ≡ false
entity_full u d None e = refl
entity_full u d (Some p) e = ap (λ f. leaves_room false (entity_as f (in_unit u d.path) p.signature)) e

as_known : (f : Bool) (q : QName) (s : Signature) → IsKnown (entity_as f q s)
as_known true q s = tt
as_known false q s = tt

entity_sound : (u : Around) (d : Head) (o : Option Parameters) → Has (λ p. Unit {0}) o → IsKnown (head_entity u d o)
entity_sound u d None h = absurd h
entity_sound u d (Some p) h = as_known d.forward (in_unit u d.path) p.signature

pub types_pointed : (u : Around) (o : Option Parameters) → Has (λ p. Points u p.made) o → Points u (types_of o)
types_pointed u None h = absurd h
types_pointed u (Some p) h = h

any_has : (u : Around) (o : Option Parameters) → Has (λ p. Points u p.made) o → Has (λ p. Unit {0}) o
any_has u None h = absurd h
any_has u (Some p) h = tt

-- the types that a heading makes leave headings good
pub typed_good : (hs : Heads) (ts : List TypedType) → Points hs.around ts → GoodHeads hs → GoodHeads (record { around = with_types hs.around ts; before = hs.before })
typed_good hs ts p g = record { known = g.known; based = λ e. more_based hs.around ts p (g.based e); plain = g.plain; free = g.free; bound = g.bound }

module _ (hs : Heads) (g : GoodHeads hs) (d : Head) (pl : IsPlain d.name) (has : Has (λ p. Unit {0}) d.parameters) (b : is_some d.bound ≡ d.is_bound) (t : name_twice hs.around hs.before d ≡ false) where
  abbrev u : Around
  u = hs.around

  abbrev own : Known
  own = record { name = d.name; scope = u.scope; what = head_entity u d d.parameters }

  none_if : (o : Option BoundAs) → is_some o ≡ false → o ≡ None
  none_if None e = refl
  none_if (Some x) e = absurd (false≢true (sym e))

  -- found as before, where the names differ
  found_old : (c e : Bool) (h : Head) → (e ≡ true → ⊥) → (o : Option Known) → Has (λ (k : Known). leaves_room false k.what ≡ false) o → Has (λ (k : Known). leaves_room false k.what ≡ false) (cond (c && e) (Some own) o)
  found_old c true h n o k = absurd (n refl)
  found_old true false h n o k = k
  found_old false false h n o k = k

  free_old : (h : Head) → d.is_bound ≡ false → IsFree u h → IsBound hs.before h → IsFree (record u { known = own ∷ u.known }) h
  free_old h c f k = λ w e. found_old (nat_eq u.scope u.scope) (bytes_eq d.name h.name) h (λ i. one_differs u hs.before d h None None (none_if d.bound (b ∙ c)) e b t f k w ((bytes_eq-Decides d.name h.name).0 i)) (found_in_scope u h.name) (f w e)

  free_new : (ks : List Known) → d.forward ≡ false → Has (λ (k : Known). leaves_room false k.what ≡ false) (find (λ k. in_scope u.scope k d.name) (own ∷ ks))
  free_new ks w =
      subst (λ c. Has (λ (k : Known). leaves_room false k.what ≡ false) (cond c (Some own) (find (λ k. in_scope u.scope k d.name) ks)))
      (sym (ap (λ c. c && bytes_eq d.name d.name) (nat_itself u.scope) ∙ bytes_itself d.name)) (entity_full u d d.parameters w)

  all_free : (ks : List Head) → d.is_bound ≡ false → AllByRecursion (IsFree u) ks → AllByRecursion (IsBound hs.before) ks → AllByRecursion (IsFree (record u { known = own ∷ u.known })) ks
  all_free [] c f k = tt
  all_free (h ∷ ks) c f k = (free_old h c f.0 k.0, all_free ks c f.1 k.1)

  module _ (e : Head) (same_bound : e.bound ≡ d.bound) (same_name : e.name ≡ d.name) (same_forward : e.forward ≡ d.forward) where
    bound_if : (c : Bool) (h : Head) (q : QName) (x : List ℕ) → (c ≡ true → ⊥) → (o : Option Head) → Has (λ (k : Head). k.forward ≡ false) o → Has (λ (k : Head). k.forward ≡ false) (cond c (Some e) o)
    bound_if true h q x n o k = absurd (n refl)
    bound_if false h q x n o k = k

    bound_old : (h : Head) → IsFree u h → IsBound hs.before h → IsBound (e ∷ hs.before) h
    bound_old h f k = λ w c i. bound_if (key_is e.bound c.owner h.name e.name) h c.owner h.name (λ z.
        let y = key_true e.bound c.owner h.name e.name z in
        one_differs u hs.before d h (Some y.0) (Some c) (sym same_bound ∙ y.1) i b t f k w (y.2, sym (y.3 ∙ same_name))) (bound_before hs.before c.owner h.name) (k w c i)

    all_bound : (ks : List Head) → AllByRecursion (IsFree u) ks → AllByRecursion (IsBound hs.before) ks → AllByRecursion (IsBound (e ∷ hs.before)) ks
    all_bound [] f k = tt
    all_bound (h ∷ ks) f k = (bound_old h f.0 k.0, all_bound ks f.1 k.1)

    bound_new : IsBound (e ∷ hs.before) e
    bound_new w c i =
        subst (λ z. Has (λ (k : Head). k.forward ≡ false) (cond z (Some e) (bound_before hs.before c.owner e.name)))
        (sym (ap (λ o. key_is o c.owner e.name e.name) i ∙ ap (λ z. z && bytes_eq e.name e.name) (bytes_itself c.owner.object) ∙ bytes_itself e.name)) w

    pub added : GoodHeads (record { around = knows_procedure u d d.is_bound; before = e ∷ hs.before })
    added = by d.is_bound refl
      where
        by : (c : Bool) → d.is_bound ≡ c → GoodHeads (record { around = knows_procedure u d c; before = e ∷ hs.before })
        by true i = record {
          known = g.known;
          based = g.based;
          plain = (subst IsPlain (sym same_name) pl, g.plain);
          free = (λ w n. absurd (false≢true (ap is_some (sym n) ∙ (ap is_some same_bound ∙ (b ∙ i)))), g.free);
          bound = (bound_new, all_bound hs.before g.free g.bound);
        }
        by false i = record {
          known = (entity_sound u d d.parameters has, g.known);
          based = λ l. known_based u (own ∷ u.known) (g.based l);
          plain = (subst IsPlain (sym same_name) pl, g.plain);
          free = (λ w n. subst (λ x. Has (λ (k : Known). leaves_room false k.what ≡ false) (find (λ k. in_scope u.scope k x) (own ∷ u.known))) (sym same_name) (free_new u.known (sym same_forward ∙ w)), all_free hs.before i g.free g.bound);
          bound = (bound_new, all_bound hs.before g.free g.bound);
        }

-- the notes of a heading that is declared once
pub not_twice : (t : Bool) (d : Head) (u : Around) → (declared_head t d u).notes.broken ≡ [] → (t ≡ false) × (d.notes.broken ≡ [])
not_twice true d u e = not_empty _ [] (back_empty d.notes.broken (broken_at rule.DeclaredTwice d.at).broken e)
not_twice false d u e = (refl, e)
