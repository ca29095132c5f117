-- Headings in their order: what each is bound to is there behind them, and all types that are there are of before, or of one of them.
use Rattle.std.proofs.Common.{◌≡◌, ◌⊎◌, inl, inr, Bool, true, false, List, [], ◌∷◌, ◌++◌, Option, Some, None, refl, sym, ap, subst, ◌∙◌}
use Rattle.std.specs.Prelude.{bytes_eq}
use Rattle.std.specs.List.{AllByRecursion}
use Rattle.ob_types.specs.declared.typed.TypedType.{TypedType}
use Rattle.ob_rules.specs.declared.broken.Rule.TheVariants as rule
use Rattle.ob_rules.specs.Judged.{broken_at}
use Rattle.ob_rules.specs.Names.{Around}
use Rattle.ob_rules.specs.Types.{Parameters, with_types}
use Rattle.ob_rules.specs.Headings.{WrittenHeading, Head, Heads, BoundAs, forward_name, head_of, name_twice, declared_head, knows_procedure, known_behind, types_of, add_heading}
use Rattle.ob_rules.specs.Declarations.{Written_procedure, headings_in_order}
use Rattle.law_names_distinct.specs.Parts.{IsWord}
use Rattle.law_names_distinct.proofs.Typings.{ParametersIn}
use Rattle.law_names_types.specs.Nested.{AreNested}
use Rattle.law_names_types.specs.Once.{AreQuiet}
use Rattle.law_names_types.proofs.Keys.{before_quiet}
use Rattle.law_names_types.proofs.Items.{IsAmong, in_either, in_back}
use Rattle.law_names_types.proofs.DifferentHeads.{IsWellWritten, IsBound, IsSound, bound_sound, head_sound, head_nested, head_parameters}
use Rattle.law_lists.proofs.Lists.{IfThere, all_from, back_empty}

-- what is so of a heading, with what stands around
pub record HasFacts (w : Around) (h : Head) : Type 0 where
  pub word : IsWord h.name
  pub bound : (a : BoundAs) → h.bound ≡ Some a → IsBound w h a
  pub sound : (p : Parameters) → h.parameters ≡ Some p → IsSound w h h.bound
  pub types : IfThere (ParametersIn (forward_name h.forward h.path) 1) h.parameters
  pub nested : IfThere (λ (p : Parameters). AreNested p.made p.made) h.parameters

-- more types around, of the same scope
record IsWider (w v : Around) : Type 0 where
  unit : v.unit ≡ w.unit
  path : v.path ≡ w.path
  own : (t : TypedType) → IsAmong t w.own → IsAmong t v.own

-- the same, but for what is known behind it
record IsSameHead (h k : Head) : Type 0 where
  name : k.name ≡ h.name
  forward : k.forward ≡ h.forward
  flag : k.is_bound ≡ h.is_bound
  bound : k.bound ≡ h.bound
  path : k.path ≡ h.path
  parameters : k.parameters ≡ h.parameters

wider_bound : (w v : Around) → IsWider w v → (h k : Head) → IsSameHead h k → (a : BoundAs) → IsBound w h a → IsBound v k a
wider_bound w v g h k s a b =
    let o = b.owner in
    let r = o.holds in
    record {
      flag = s.flag ∙ b.flag;
      is = s.path ∙ b.is ∙ ap (λ x. a.owner.object ++ 46 ∷ x) (sym s.name);
      owner = record { path = g.path ∙ o.path; scope = o.scope; unit = subst (λ x. bytes_eq a.owner.«module» x ≡ true) (sym g.unit) o.unit; holds = record { of = r.of; there = g.own r.of r.there; is = r.is; fields = r.fields; described = r.described } };
    }

wider_sound : (w v : Around) → IsWider w v → (h k : Head) → IsSameHead h k → (o : Option BoundAs) → IsSound w h o → IsSound v k o
wider_sound w v g h k s (Some a) b = wider_bound w v g h k s a b
wider_sound w v g h k s None b = record { flag = s.flag ∙ b.flag; is = s.path ∙ b.is ∙ ap (λ p. p ++ h.name) (sym g.path) ∙ ap (λ x. v.path ++ x) (sym s.name) }

wider_facts : (w v : Around) → IsWider w v → (h k : Head) → IsSameHead h k → HasFacts w h → HasFacts v k
wider_facts w v g h k s f = record {
  word = subst IsWord (sym s.name) f.word;
  bound = λ a e. wider_bound w v g h k s a (f.bound a (sym s.bound ∙ e));
  sound = λ p e. subst (IsSound v k) (sym s.bound) (wider_sound w v g h k s h.bound (f.sound p (sym s.parameters ∙ e)));
  types = subst (λ o. IfThere (ParametersIn (forward_name k.forward k.path) 1) o) (sym s.parameters)
      (subst (λ b. IfThere (ParametersIn (forward_name b k.path) 1) h.parameters) (sym s.forward) (subst (λ x. IfThere (ParametersIn (forward_name h.forward x) 1) h.parameters) (sym s.path) f.types));
  nested = subst (λ o. IfThere (λ (p : Parameters). AreNested p.made p.made) o) (sym s.parameters) f.nested;
}

-- a heading's own
head_facts : (w : Around) (h : WrittenHeading) (forward : Bool) → IsWellWritten h → (head_of w h forward).notes.broken ≡ [] → HasFacts w (head_of w h forward)
head_facts w h forward well e = record {
  word = well.word;
  bound = λ a i. bound_sound w h forward a i;
  sound = λ p i. head_sound w h forward p i;
  types = head_parameters w h forward well e;
  nested = head_nested w h forward well e;
}

-- a type that one of them makes
pub record IsMade (hs : List Head) (t : TypedType) : Type 0 where
  pub by : Head
  pub with : Parameters
  pub there : IsAmong by hs
  pub is : by.parameters ≡ Some with
  pub among : IsAmong t with.made

pub record AreHeads (v : Around) (hs : Heads) : Type 0 where
  pub unit : hs.around.unit ≡ v.unit
  pub path : hs.around.path ≡ v.path
  pub made : (t : TypedType) → IsAmong t hs.around.own → IsAmong t v.own ⊎ IsMade hs.before t
  pub heads : AllByRecursion (HasFacts hs.around) hs.before

of_parameters : (o : Option Parameters) (t : TypedType) → IsAmong t (types_of o) → (p : Parameters) × (o ≡ Some p) × IsAmong t p.made
of_parameters None t i = absurd i
of_parameters (Some p) t i = (p, refl, i)

record KeepsAround (u v : Around) : Type 0 where
  unit : v.unit ≡ u.unit
  path : v.path ≡ u.path
  own : v.own ≡ u.own

keeps : (u : Around) (h : Head) (b : Bool) → KeepsAround u (knows_procedure u h b)
keeps u h true = record { unit = refl; path = refl; own = refl }
keeps u h false = record { unit = refl; path = refl; own = refl }

heading_added : (v : Around) (hs : Heads) → AreHeads v hs → (w : WrittenHeading) → IsWellWritten w → (forward twice : Bool) →
    (declared_head twice (head_of hs.around w forward) (known_behind (with_types hs.around (types_of (head_of hs.around w forward).parameters)) twice (head_of hs.around w forward))).notes.broken ≡ [] →
    AreHeads v (record { around = known_behind (with_types hs.around (types_of (head_of hs.around w forward).parameters)) twice (head_of hs.around w forward); before = declared_head twice (head_of hs.around w forward) (known_behind (with_types hs.around (types_of (head_of hs.around w forward).parameters)) twice (head_of hs.around w forward)) ∷ hs.before })
heading_added v hs g w well forward true e = let h = head_of hs.around w forward in let bad : (broken_at rule.DeclaredTwice h.at).broken ≡ [] = back_empty h.notes.broken (broken_at rule.DeclaredTwice h.at).broken e in absurd cc
heading_added v hs g w well forward false e = record {
  unit = same.unit ∙ g.unit;
  path = same.path ∙ g.path;
  made = λ t i. of t (in_either (types_of h.parameters) hs.around.own t (subst (λ ts. IsAmong t ts) same.own i));
  heads = (wider_facts hs.around b wide h k (record { name = refl; forward = refl; flag = refl; bound = refl; path = refl; parameters = refl }) (head_facts hs.around w forward well e), all_from (HasFacts hs.around) (HasFacts b) (λ j f. wider_facts hs.around b wide j j (itself j) f) hs.before g.heads);
}
  where
    h : Head
    h = head_of hs.around w forward

    u : Around
    u = with_types hs.around (types_of h.parameters)

    b : Around
    b = knows_procedure u h h.is_bound

    k : Head
    k = declared_head false h b

    same : KeepsAround u b
    same = keeps u h h.is_bound

    wide : IsWider hs.around b
    wide = record { unit = same.unit; path = same.path; own = λ t i. subst (λ ts. IsAmong t ts) (sym same.own) (in_back (types_of h.parameters) hs.around.own t i) }

    itself : (j : Head) → IsSameHead j j
    itself j = record { name = refl; forward = refl; flag = refl; bound = refl; path = refl; parameters = refl }

    earlier : (t : TypedType) → IsAmong t v.own ⊎ IsMade hs.before t → IsAmong t v.own ⊎ IsMade (k ∷ hs.before) t
    earlier t (inl i) = inl i
    earlier t (inr m) = inr (record { by = m.by; with = m.with; there = inr m.there; is = m.is; among = m.among })

    of : (t : TypedType) → IsAmong t (types_of h.parameters) ⊎ IsAmong t hs.around.own → IsAmong t v.own ⊎ IsMade (k ∷ hs.before) t
    of t (inl i) = let m = of_parameters h.parameters t i in inr (record { by = k; with = m.0; there = inl refl; is = m.1; among = m.2 })
    of t (inr i) = earlier t (g.made t i)

pub headings_all : (v : Around) (ps : List Written_procedure) → AllByRecursion (λ p. IsWellWritten p.heading) ps → (hs : Heads) → AreHeads v hs → AreQuiet (headings_in_order ps hs).before → AreHeads v (headings_in_order ps hs)
headings_all v [] well hs g q = g
headings_all v (p ∷ ps) well hs g q =
    let h = head_of hs.around p.heading p.forward in
    let mine = before_quiet ps (add_heading hs p.heading p.forward) q in
    headings_all v ps well.1 (add_heading hs p.heading p.forward) (heading_added v hs g p.heading well.0 p.forward (name_twice (with_types hs.around (types_of h.parameters)) hs.before h) mine.0) q
