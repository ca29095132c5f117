-- The parameters of a heading have different names, which are known inside.
use Rattle.law_methods_described.proofs.Nodes.{quiet_has}
use Rattle.std.proofs.Common.{◌≡◌, ◌≢◌, ℕ, suc, ◌+◌, Bool, true, false, List, [], ◌∷◌, ◌++◌, length, map, Option, Some, None, refl, sym, ap, subst, ◌∙◌, arith}
use Rattle.std.proofs.lemmas.Bool.{eq-eqb, eqb-true}
use Rattle.std.specs.Prelude.{nat_eq, nat_lt, bytes_eq, ◌&&◌, cond, is_some}
use Rattle.std.specs.Option.{option_map}
use Rattle.std.specs.List.{AllByRecursion, find}
use Rattle.ob_tree.specs.declared.pos.Pos.{Pos}
use Rattle.ob_tree.specs.declared.ident.Ident.{Ident}
use Rattle.ob_tree.specs.declared.ident.Mark.{Mark}
use Rattle.ob_tree.specs.declared.ident.Mark.TheVariants as mark
use Rattle.ob_tree.specs.declared.decl.Receiver.{Receiver as RawReceiver}
use Rattle.ob_types.specs.declared.types.Mode.{Mode}
use Rattle.ob_types.specs.declared.types.TypeRef.{TypeRef}
use Rattle.ob_types.specs.declared.desc.Receiver.{Receiver}
use Rattle.ob_types.specs.declared.desc.Receiver.TheVariants as receiver
use Rattle.ob_types.specs.declared.typed.TypedParameter.{TypedParameter}
use Rattle.ob_rules.specs.declared.entity.Entity.{Entity}
use Rattle.ob_rules.specs.declared.entity.Entity.TheVariants as entity
use Rattle.ob_rules.specs.declared.entity.Known.{Known}
use Rattle.ob_rules.specs.Judged.{Judged, sound, both, made, ◌▷◌, behind_quiet}
use Rattle.ob_rules.specs.Shapes.{passing_of}
use Rattle.ob_rules.specs.Names.{Around, map_of, in_scope, found_in_scope}
use Rattle.ob_rules.specs.Types.{Typing, section_name, Parameters, WrittenSection, WrittenParameters, mode_of, twice_if, new_name, parameter_as, knows, Named, declare_all, parameters_of, parameters_joined, with_made, sections, result_of, with_result, parameters_in, inner, marked, with_types}
use Rattle.ob_rules.specs.Headings.{WrittenHeading, Head, BoundAs, bound_in, of_scope, as_parameters, owner_if, self_of, self_by, self_parameter, knows_receiver, forward_name, path_by, heading_parameters, head_of, anew}
use Rattle.ob_rules.specs.Declarations.{self_parameters}
use Rattle.law_names_distinct.specs.Distinct.{AreDistinct}
use Rattle.law_names_distinct.proofs.Fresh.{distinct_both, not_before}
use Rattle.law_names_distinct.proofs.Quiet.{Quiet, any_quiet, then_quiet, first_quiet, both_quiet, anew_quiet}
use Rattle.law_lists.proofs.Lists.{Anything, IfThere, all_both, all_from, back_empty, bytes_itself, front_empty}

-- a name of that scope is known
abbrev pub known_in : ℕ → List Known → List ℕ → Bool
known_in n ks x = is_some (find (λ k. in_scope n k x) ks)

-- names that come to be known, and differ
pub record AreNew (n : ℕ) (ks ls : List Known) (xs : List (List ℕ)) : Type 0 where
  pub new : AllByRecursion (λ x. known_in n ks x ≡ false) xs
  pub there : AllByRecursion (λ x. known_in n ls x ≡ true) xs
  pub differ : AreDistinct (λ x. x) xs

none_new : (n : ℕ) (ks ls : List Known) → AreNew n ks ls []
none_new n ks ls = record { new = tt; there = tt; differ = tt }

abbrev Keeps : ℕ → List Known → List Known → Type 0
Keeps n ks ls = (x : List ℕ) → known_in n ks x ≡ true → known_in n ls x ≡ true

new_both : (n : ℕ) (ks ls ms : List Known) (xs ys : List (List ℕ)) → Keeps n ks ls → Keeps n ls ms → AreNew n ks ls xs → AreNew n ls ms ys → AreNew n ks ms (xs ++ ys)
new_both n ks ls ms xs ys before behind g h = record {
  new = all_both (λ x. known_in n ks x ≡ false) xs ys g.new (all_from (λ x. known_in n ls x ≡ false) (λ x. known_in n ks x ≡ false) (λ x e. not_before (known_in n ks x) (known_in n ls x) (before x) e) ys h.new);
  there = all_both (λ x. known_in n ms x ≡ true) xs ys (all_from (λ x. known_in n ls x ≡ true) (λ x. known_in n ms x ≡ true) (λ x e. behind x e) xs g.there) h.there;
  differ = distinct_both (λ x. x) (known_in n ls) xs ys g.differ h.differ g.there h.new;
}

first_some : (b : Bool) (k : Known) (o : Option Known) → is_some o ≡ true → is_some (cond b (Some k) o) ≡ true
first_some true k o h = refl
first_some false k o h = h

quiet_twice : (o : Option Known) (at : Pos) → (twice_if o at).broken ≡ [] → is_some o ≡ false
quiet_twice None at e = refl
quiet_twice (Some k) at e = absurd cc

-- ---- the names of a section

record Declares (n : ℕ) (u : Around) (xs : List (List ℕ)) (d : Named) : Type 0 where
  scope : d.around.scope ≡ n
  keeps : Keeps n u.known d.around.known
  names : d.notes.broken ≡ [] → AreNew n u.known d.around.known xs

-- one name more is known
one_known : (n : ℕ) (u : Around) → u.scope ≡ n → (x : Ident) (e : Entity) → known_in n (knows u x e).known x.name ≡ true
one_known n u s x e =
    let k : Known = record { name = x.name; scope = u.scope; what = e } in
    let here : in_scope n k x.name ≡ true = ap (λ b. b && bytes_eq x.name x.name) (eq-eqb u.scope n s) ∙ bytes_itself x.name in
    ap (λ b. is_some (cond b (Some k) (find (λ k. in_scope n k x.name) u.known))) here

keeps_known : (n : ℕ) (u : Around) (x : Ident) (e : Entity) → Keeps n u.known (knows u x e).known
keeps_known n u x e y h =
    let k : Known = record { name = x.name; scope = u.scope; what = e } in
    first_some (in_scope n k y) k (find (λ k. in_scope n k y) u.known) h

declare_names : (n : ℕ) (m : Mode) (t : Option Typing) (xs : List Ident) (u : Around) → u.scope ≡ n → Declares n u (map (λ (x : Ident). x.name) xs) (declare_all u m t xs)
declare_names n m t [] u s = record { scope = s; keeps = λ x h. h; names = λ e. none_new n u.known u.known }
declare_names n m t (x ∷ xs) u s =
    let e = parameter_as u m x t in
    let v = knows u x e in
    let rest = declare_names n m t xs v s in
    let d = declare_all v m t xs in
    record {
      scope = rest.scope;
      keeps = λ y h. rest.keeps y (keeps_known n u x e y h);
      names = λ b. new_both n u.known v.known d.around.known (x.name ∷ []) (map (λ (x : Ident). x.name) xs) (keeps_known n u x e) rest.keeps
          (record { new = (subst (λ k. known_in k u.known x.name ≡ false) s (quiet_twice (found_in_scope u x.name) x.pos (front_empty (new_name u x).broken d.notes.broken b)), tt); there = (one_known n u s x e, tt); differ = (tt, tt) })
          (rest.names (back_empty (new_name u x).broken d.notes.broken b));
    }

made_known : (u : Around) (o : Option Typing) → (with_made u o).known ≡ u.known
made_known u None = refl
made_known u (Some t) = refl

made_scope : (u : Around) (o : Option Typing) → (with_made u o).scope ≡ u.scope
made_scope u None = refl
made_scope u (Some t) = refl

-- ---- sections

abbrev parameter_names : Parameters → List (List ℕ)
parameter_names p = map (λ x. x.name) p.parameters

names_of : (f : Ident → TypedParameter) → ((x : Ident) → (f x).name ≡ x.name) → (xs : List Ident) → map (λ (x : TypedParameter). x.name) (map f xs) ≡ map (λ (x : Ident). x.name) xs
names_of f h [] = refl
names_of f h (x ∷ xs) = ap (λ n. n ∷ map (λ (x : TypedParameter). x.name) (map f xs)) (h x) ∙ ap (λ ns. x.name ∷ ns) (names_of f h xs)

-- a parameter of a section
abbrev parameter_of : Around → Mode → Typing → Ident → TypedParameter
parameter_of u m t x = record { name = x.name; passing = passing_of (map_of (with_types u t.made)) m t.of; of = t.of }

names_joined : (xs ys : List TypedParameter) → map (λ (x : TypedParameter). x.name) (xs ++ ys) ≡ map (λ (x : TypedParameter). x.name) xs ++ map (λ (x : TypedParameter). x.name) ys
names_joined [] ys = refl
names_joined (x ∷ xs) ys = ap (λ ns. x.name ∷ ns) (names_joined xs ys)

sections_keep : (n : ℕ) (name : List ℕ) (ss : List WrittenSection) (i : ℕ) (u : Around) → u.scope ≡ n → Keeps n u.known (sections u name i ss).known
sections_keep n name [] i u s = λ x h. h
sections_keep n name (p ∷ ss) i u s =
    let t = p.node.typing u (section_name name i) mark.Hidden true in
    let d = declare_all u (mode_of p.is_var) t.node p.names in
    let k = declare_names n (mode_of p.is_var) t.node p.names u s in
    let v = with_made d.around t.node in
    λ x h. sections_keep n name ss (i + length p.names) v (made_scope d.around t.node ∙ k.scope) x (subst (λ ls. known_in n ls x ≡ true) (sym (made_known d.around t.node)) (k.keeps x h))

sections_names : (n : ℕ) (name : List ℕ) (ss : List WrittenSection) (i : ℕ) (u : Around) → u.scope ≡ n → Quiet (λ p. AreNew n u.known (sections u name i ss).known (parameter_names p)) (sections u name i ss).found
sections_names n name [] i u s = λ e. none_new n u.known u.known
sections_names n name (w ∷ ss) i u s =
    let t = w.node.typing u (section_name name i) mark.Hidden true in
    let d = declare_all u (mode_of w.is_var) t.node w.names in
    let k = declare_names n (mode_of w.is_var) t.node w.names u s in
    let v = with_made d.around t.node in
    let vs : v.scope ≡ n = made_scope d.around t.node ∙ k.scope in
    let rest = sections v name (i + length w.names) ss in
    let mine : Judged Parameters = made (parameters_of u (mode_of w.is_var) w.names) t in
    let own : List (List ℕ) = map (λ (x : Ident). x.name) w.names in
    let f : Parameters × Parameters → Judged Parameters = λ q. sound (parameters_joined q.0 q.1) in
    λ e.
    let quiet = first_quiet (both (behind_quiet d.notes mine) rest.found) f e in
    let here = front_empty (d.notes.broken ++ mine.notes.broken) rest.found.notes.broken quiet in
    let first = k.names (front_empty d.notes.broken mine.notes.broken here) in
    then_quiet (λ (p : Parameters × Parameters). (parameter_names p.0 ≡ own) × AreNew n v.known rest.known (parameter_names p.1)) (λ p. AreNew n u.known rest.known (parameter_names p)) (both (behind_quiet d.notes mine) rest.found) f
    (both_quiet (λ (p : Parameters). parameter_names p ≡ own) (λ p. AreNew n v.known rest.known (parameter_names p)) (behind_quiet d.notes mine) rest.found
    (λ b. quiet_has (λ (p : Parameters). parameter_names p ≡ own) d.notes mine (then_quiet Anything (λ (p : Parameters). parameter_names p ≡ own) t (λ x. sound (parameters_of u (mode_of w.is_var) w.names x)) (any_quiet t) (λ q h. λ b. names_of (parameter_of u (mode_of w.is_var) q) (λ y. refl) w.names) (back_empty d.notes.broken mine.notes.broken b)))
    (sections_names n name ss (i + length w.names) v vs))
    (λ p h. λ b.
    subst (AreNew n u.known rest.known) (sym (names_joined p.0.parameters p.1.parameters ∙ ap (λ ns. ns ++ parameter_names p.1) h.0))
    (new_both n u.known d.around.known rest.known own (parameter_names p.1) k.keeps
    (subst (λ ls. Keeps n ls rest.known) (made_known d.around t.node) (sections_keep n name ss (i + length w.names) v vs))
    first (subst (λ ls. AreNew n ls rest.known (parameter_names p.1)) (made_known d.around t.node) h.1)))
    e

parameters_names : (n : ℕ) (u : Around) → u.scope ≡ n → (name : List ℕ) (p : WrittenParameters) → Quiet (λ q. AreNew n u.known (parameters_in u name p).known (parameter_names q)) (parameters_in u name p).found
parameters_names n u s name p =
    let ss = sections u name 1 p.sections in
    let r = result_of (record u { known = ss.known }) p.result in
    then_quiet (λ (q : Parameters × Option TypeRef). AreNew n u.known ss.known (parameter_names q.0) × Anything q.1) (λ q. AreNew n u.known ss.known (parameter_names q)) (both ss.found r) (λ q. sound (with_result q.0 q.1))
    (both_quiet (λ q. AreNew n u.known ss.known (parameter_names q)) Anything ss.found r (sections_names n name p.sections 1 u s) (any_quiet r))
    (λ q h. λ e. h.0)

-- ---- headings

-- what is known of an inner scope is known among the names of inner scopes
inside_has : (n : ℕ) (ks : List Known) (x : List ℕ) → known_in (suc n) ks x ≡ true → known_in (suc n) (of_scope n ks) x ≡ true
inside_has n [] x h = h
inside_has n (k ∷ ks) x h = by (in_scope (suc n) k x) (nat_lt n k.scope) refl refl h (λ h. inside_has n ks x h)
  where
    known_first : (ls : List Known) → in_scope (suc n) k x ≡ true → is_some (find (λ k. in_scope (suc n) k x) (k ∷ ls)) ≡ true
    known_first ls i = ap (λ b. is_some (cond b (Some k) (find (λ k. in_scope (suc n) k x) ls))) i

    deeper : in_scope (suc n) k x ≡ true → nat_lt n k.scope ≡ false → ⊥
    deeper i l =
        let e : nat_eq k.scope (suc n) ≡ true = both_true (nat_eq k.scope (suc n)) (bytes_eq k.name x) i in
        let s : k.scope ≡ suc n = eqb-true k.scope (suc n) e in
        let lt : nat_lt n (suc n) ≡ true = grind arith in
        let bad : true ≡ false = sym lt ∙ ap (nat_lt n) (sym s) ∙ l in
        absurd cc
      where
        both_true : (a b : Bool) → (a && b) ≡ true → a ≡ true
        both_true true b e = refl
        both_true false b e = absurd cc

    by : (b c : Bool) → in_scope (suc n) k x ≡ b → nat_lt n k.scope ≡ c → is_some (cond b (Some k) (find (λ k. in_scope (suc n) k x) ks)) ≡ true → (known_in (suc n) ks x ≡ true → known_in (suc n) (of_scope n ks) x ≡ true) → known_in (suc n) (cond c (k ∷ of_scope n ks) (of_scope n ks)) x ≡ true
    by true true i l h r = known_first (of_scope n ks) i
    by true false i l h r = absurd (deeper i l)
    by false true i l h r = first_some (in_scope (suc n) k x) k (find (λ k. in_scope (suc n) k x) (of_scope n ks)) (r h)
    by false false i l h r = r h

abbrev pub head_names : Head → Parameters → List (List ℕ)
head_names h p = map (λ x. x.name) (self_parameters h h.self h.bound ++ p.parameters)

-- its parameters are known inside, and differ
pub record IsInside (n : ℕ) (h : Head) (p : Parameters) : Type 0 where
  pub there : AllByRecursion (λ x. known_in n h.inside x ≡ true) (head_names h p)
  pub differ : AreDistinct (λ x. x) (head_names h p)

abbrev pub GoodHead : ℕ → Head → Type 0
GoodHead n h = h.notes.broken ≡ [] → IfThere (IsInside n h) h.parameters

receiver_scope : (u : Around) (r : Option RawReceiver) (b : Option (Option BoundAs)) → (knows_receiver u r b).scope ≡ u.scope
receiver_scope u None b = refl
receiver_scope u (Some r) None = refl
receiver_scope u (Some r) (Some None) = refl
receiver_scope u (Some r) (Some (Some b)) = refl

receiver_known : (n : ℕ) (u : Around) → u.scope ≡ n → (r : RawReceiver) (b : Option (Option BoundAs)) → known_in n (knows_receiver u (Some r) b).known r.ident.name ≡ true
receiver_known n u s r None = one_known n u s r.ident entity.Unsound
receiver_known n u s r (Some None) = one_known n u s r.ident entity.Unsound
receiver_known n u s r (Some (Some b)) = one_known n u s r.ident (entity.Variable (self_of r.ident b.receiver) b.of)

self_named : (x : Ident) (b : BoundAs) (k : Receiver) → (self_by x b k).name ≡ x.name
self_named x b receiver.Record = refl
self_named x b receiver.Pointer = refl

inside_all : (n : ℕ) (ks : List Known) (xs : List (List ℕ)) → AllByRecursion (λ x. known_in (suc n) ks x ≡ true) xs → AllByRecursion (λ x. known_in (suc n) (of_scope n ks) x ≡ true) xs
inside_all n ks xs h = all_from (λ x. known_in (suc n) ks x ≡ true) (λ x. known_in (suc n) (of_scope n ks) x ≡ true) (λ x k. inside_has n ks x k) xs h

-- a receiver before new names
with_self : (n : ℕ) (ks ls : List Known) (y : List ℕ) (xs : List (List ℕ)) → known_in n ks y ≡ true → Keeps n ks ls → AreNew n ks ls xs → AllByRecursion (λ x. known_in n ls x ≡ true) (y ∷ xs) × AreDistinct (λ x. x) (y ∷ xs)
with_self n ks ls y xs k keeps h = (
  (keeps y k, h.there),
  (all_from (λ x. known_in n ks x ≡ false) (λ x. x ≢ y) (λ x e same. let bad : true ≡ false = sym k ∙ ap (known_in n ks) (sym same) ∙ e in absurd cc) xs h.new, h.differ),
)

module _ (u : Around) (h : WrittenHeading) (forward : Bool) where
  abbrev head : Head
  head = head_of u h forward

  abbrev bound : Judged (Option BoundAs)
  bound = owner_if u h.receiver

  abbrev start : Around
  start = knows_receiver (inner u) h.receiver bound.node

  abbrev name : List ℕ
  name = forward_name forward (u.path ++ path_by bound.node h.name.ident.name)

  abbrev last : List Known
  last = (parameters_in start name h.parameters).known

  inside_names : (r : Option RawReceiver) (o : Option (Option BoundAs)) (p : Parameters) → ((x : RawReceiver) → r ≡ Some x → known_in (suc u.scope) start.known x.ident.name ≡ true) → AreNew (suc u.scope) start.known last (parameter_names p) →
      AllByRecursion (λ x. known_in (suc u.scope) last x ≡ true) (map (λ x. x.name) (self_parameters head (option_map (λ r. r.ident) r) (bound_in o) ++ p.parameters)) × AreDistinct (λ x. x) (map (λ x. x.name) (self_parameters head (option_map (λ r. r.ident) r) (bound_in o) ++ p.parameters))
  inside_names None o p k g = (g.there, g.differ)
  inside_names (Some r) None p k g = (g.there, g.differ)
  inside_names (Some r) (Some None) p k g = (g.there, g.differ)
  inside_names (Some r) (Some (Some b)) p k g =
      subst (λ y. AllByRecursion (λ x. known_in (suc u.scope) last x ≡ true) (y ∷ parameter_names p) × AreDistinct (λ x. x) (y ∷ parameter_names p)) (sym (self_named r.ident b b.receiver))
      (with_self (suc u.scope) start.known last r.ident.name (parameter_names p) (k r refl) (sections_keep (suc u.scope) name h.parameters.sections 1 start (receiver_scope (inner u) h.receiver bound.node)) g)

  there_parameters : (o : Option ((Mark × Option BoundAs) × Parameters)) → IfThere (λ q. Anything q.0 × AreNew (suc u.scope) start.known last (parameter_names q.1)) o → IfThere (λ p. AreNew (suc u.scope) start.known last (parameter_names p)) (as_parameters o)
  there_parameters None g = tt
  there_parameters (Some q) g = g.1

  known_receiver : (x : RawReceiver) → h.receiver ≡ Some x → known_in (suc u.scope) start.known x.ident.name ≡ true
  known_receiver x e = subst (λ r. known_in (suc u.scope) (knows_receiver (inner u) r bound.node).known x.ident.name ≡ true) (sym e) (receiver_known (suc u.scope) (inner u) refl x bound.node)

  finish : (o : Option Parameters) → IfThere (λ p. AreNew (suc u.scope) start.known last (parameter_names p)) o → IfThere (IsInside (suc u.scope) head) o
  finish None g = tt
  finish (Some p) g =
      let k = inside_names h.receiver bound.node p known_receiver g in
      record { there = inside_all u.scope last (head_names head p) k.0; differ = k.1 }

  pub head_good : GoodHead (suc u.scope) head
  head_good e =
      let m = marked u false h.name in
      let s = (anew u h.name.ident.«pos» (parameters_in start name h.parameters)).found in
      finish head.parameters (there_parameters (both (both m bound) s).node
      (both_quiet Anything (λ p. AreNew (suc u.scope) start.known last (parameter_names p)) (both m bound) s (any_quiet (both m bound)) (anew_quiet (λ p. AreNew (suc u.scope) start.known last (parameter_names p)) u h.name.ident.«pos» (parameters_in start name h.parameters) (parameters_names (suc u.scope) start (receiver_scope (inner u) h.receiver bound.node) name h.parameters)) e))
