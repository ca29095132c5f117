-- Descriptions as others see them, and what is reached of a module's own types.
use Rattle.std.proofs.Common.{◌≡◌, ℕ, suc, Bool, true, false, cond, ◌&&◌, List, [], ◌∷◌, ◌++◌, length, map, Option, Some, None, refl, sym, ap, subst, ◌∙◌}
use Rattle.std.specs.Prelude.{◌⊎◌, bytes_eq}
use Rattle.std.specs.List.{filter, flat_map}
use Rattle.ob_tree.specs.declared.names.QName.{QName}
use Rattle.ob_types.specs.declared.desc.Desc.{Desc}
use Rattle.ob_types.specs.declared.desc.Desc.TheVariants as desc
use Rattle.ob_types.specs.declared.desc.Field.{Field}
use Rattle.ob_types.specs.declared.desc.Method.{Method}
use Rattle.ob_types.specs.declared.typed.TypedType.{TypedType}
use Rattle.ob_types.specs.declared.face.Aspect.TheVariants.{Shape}
use Rattle.ob_types.specs.TypedSyntax.{Module}
use Rattle.ob_types.specs.Maps.{signature_types}
use Rattle.ob_desc.specs.Grammar.{is_shown, seen, same_object}
use Rattle.ob_desc.specs.Laws.{object_decides}
use Rattle.ob_layout.specs.LaidOut.{type_named, is_own}
use Rattle.ob_env.specs.Shown.{is_visible}
use Rattle.ob_uses_roots.specs.Counts.{own_name}
use Rattle.ob_uses_roots.specs.Noted.{names_of}
use Rattle.ob_uses.specs.declared.pair.Pair.{Pair}
use Rattle.ob_uses.specs.declared.way.Way.TheVariants as way
use Rattle.ob_uses.specs.Closed.{is_among, of_found, reached_from}
use Rattle.ob_uses.specs.Reaching.{Reaches, first, onward, AreEnough}
use Rattle.ob_uses.specs.Objects.{own_names, first_shown, signature_of, is_exported, shown_types, reached_types, types_among, HasOwnTypes}
use Rattle.ob_uses.specs.Ways.{paired, has_pair, AreReached, leads_by, desc_leads}
use Rattle.ob_uses.proofs.Searching.{itself, either, left_of, right_of, in_which, exact_here}
use Rattle.ob_uses.proofs.Pairing.{has_of_among, kept_only}
use mathlib.Core.Logic.{inl, inr}

-- ---- descriptions as others see them

filter_step : {X : Type 0} (f : X → Bool) (x : X) (ks : List X) (b : Bool) → f x ≡ b → filter f ks ≡ ks → filter f (cond b (x ∷ ks) ks) ≡ cond b (x ∷ ks) ks
filter_step f x ks true is h = ap (λ c. cond c (x ∷ filter f ks) (filter f ks)) is ∙ ap (λ l. x ∷ l) h
filter_step f x ks false is h = h

filter_twice : {X : Type 0} (f : X → Bool) (xs : List X) → filter f (filter f xs) ≡ filter f xs
filter_twice f [] = refl
filter_twice f (x ∷ xs) = filter_step f x (filter f xs) (f x) refl (filter_twice f xs)

pub seen_twice : (d : Desc) → seen (seen d) ≡ seen d
seen_twice (desc.Const v) = refl
seen_twice (desc.Var m t) = refl
seen_twice (desc.Proc s) = refl
seen_twice (desc.Alias m t) = refl
seen_twice (desc.Array m n t) = refl
seen_twice (desc.OpenArray m t) = refl
seen_twice (desc.Pointer m t) = refl
seen_twice (desc.ProcType m s) = refl
seen_twice (desc.Record r) =
    ap (λ (l : List Field). desc.Record (record r { fields = l; methods = filter (λ m. is_shown m.mark) (filter (λ m. is_shown m.mark) r.methods) })) (filter_twice (λ (f : Field). is_shown f.mark) r.fields)
    ∙ ap (λ (l : List Method). desc.Record (record r { fields = filter (λ f. is_shown f.mark) r.fields; methods = l })) (filter_twice (λ (m : Method). is_shown m.mark) r.methods)

-- ---- what is reached of the module's own types

left_true : (a b : Bool) → (a && b) ≡ true → a ≡ true
left_true true b e = refl
left_true false b e = e

right_true : (a b : Bool) → (a && b) ≡ true → b ≡ true
right_true true b e = e
right_true false b e = absurd cc

pub both_true : (a b : Bool) → a ≡ true → b ≡ true → (a && b) ≡ true
both_true true b e h = h
both_true false b e h = e

bytes_itself : (q : QName) → bytes_eq q.«module» q.«module» ≡ true
bytes_itself q = left_true (bytes_eq q.«module» q.«module») (bytes_eq q.object q.object) (itself q)

own_itself : (m : Module) (t : TypedType) → is_own m (own_name m t) ≡ true
own_itself m t = bytes_itself (own_name m t)

own_among : (m : Module) (ts : List TypedType) (q : QName) → is_among (map (own_name m) ts) q ≡ true → is_own m q ≡ true
own_among m [] q e = absurd cc
own_among m (t ∷ ts) q e = elim (either (same_object q (own_name m t)) (is_among (map (own_name m) ts) q) e) as (λ _. is_own m q ≡ true) [
  | inl is ↦ ap (is_own m) ((object_decides q (own_name m t)).0 is) ∙ own_itself m t
  | inr more ↦ own_among m ts q more
]

own_filtered : (m : Module) (qs : List QName) (q : QName) → is_among (filter (is_own m) qs) q ≡ true → is_own m q ≡ true
own_filtered m qs q e = (kept_only (is_own m) q qs (has_of_among (filter (is_own m) qs) q e)).1

first_own : (m : Module) (q : QName) → is_among (first_shown m) q ≡ true → is_own m q ≡ true
first_own m q e =
    let us : List QName = map (own_name m) (filter (λ t. is_visible t.desc) m.types) in
    let bs : List QName = own_names m (map (λ v. v.of) (filter (λ v. is_shown v.mark) m.variables)) in
    let cs : List QName = own_names m (flat_map (λ p. signature_types (signature_of p)) (filter is_exported m.procedures)) in
    elim (in_which (us ++ bs) cs q e) as (λ _. is_own m q ≡ true) [
      | inl ab ↦ elim (in_which us bs q ab) as (λ _. is_own m q ≡ true) [
        | inl a ↦ own_among m (filter (λ t. is_visible t.desc) m.types) q a
        | inr b ↦ own_filtered m (names_of (map (λ v. v.of) (filter (λ v. is_shown v.mark) m.variables))) q b
      ]
      | inr c ↦ own_filtered m (names_of (flat_map (λ p. signature_types (signature_of p)) (filter is_exported m.procedures))) q c
    ]

led_own : (m : Module) (p q : QName) (o : Option Desc) → is_among (of_found (desc_leads way.Shown m.name p) o) q ≡ true → is_own m q ≡ true
led_own m p q None e = absurd cc
led_own m p q (Some d) e = own_filtered m (names_of (shown_types d)) q e

own_reached : (m : Module) (map : QName → Option Desc) (q : QName) → Reaches (leads_by way.Shown map m.name) (first_shown m) q → is_own m q ≡ true
own_reached m map q (first e) = first_own m q e
own_reached m map q (onward {p} r l) = led_own m p q (map p) l

-- maps that agree on the module's own names reach the same
alike : (m : Module) (a b : QName → Option Desc) → ((q : QName) → is_own m q ≡ true → a q ≡ b q) → (q : QName) → Reaches (leads_by way.Shown a m.name) (first_shown m) q → Reaches (leads_by way.Shown b m.name) (first_shown m) q
alike m a b same q (first e) = first e
alike m a b same q (onward {p} r l) =
    onward (alike m a b same p r) (subst (λ (o : Option Desc). is_among (of_found (desc_leads way.Shown m.name p) o) q ≡ true) (same p (own_reached m a p r)) l)

abbrev own_map : Module → QName → Option Desc
own_map m q = type_named m.types q.object

pub full_name : (m : Module) (q : QName) → is_own m q ≡ true → q ≡ record { «module» = m.name; object = q.object }
full_name m q e = (object_decides q (record { «module» = m.name; object = q.object })).0 (both_true (bytes_eq q.«module» m.name) (bytes_eq q.object q.object) e (right_true (bytes_eq q.«module» q.«module») (bytes_eq q.object q.object) (itself q)))

-- a name that has a description is that of a type of the module
named_step : (m : Module) (x : List ℕ) (t : TypedType) (ts : List TypedType) (b : Bool) → bytes_eq x t.name ≡ b → ((d : Desc) → type_named ts x ≡ Some d → is_among (map (own_name m) ts) (record { «module» = m.name; object = x }) ≡ true) → (d : Desc) → cond b (Some t.desc) (type_named ts x) ≡ Some d → is_among (map (own_name m) (t ∷ ts)) (record { «module» = m.name; object = x }) ≡ true
named_step m x t ts true is g d e = left_of (same_object (record { «module» = m.name; object = x }) (own_name m t)) (is_among (map (own_name m) ts) (record { «module» = m.name; object = x })) (both_true (bytes_eq m.name m.name) (bytes_eq x t.name) (bytes_itself (own_name m t)) is)
named_step m x t ts false is g d e = right_of (same_object (record { «module» = m.name; object = x }) (own_name m t)) (is_among (map (own_name m) ts) (record { «module» = m.name; object = x })) (g d e)

pub named_there : (m : Module) (x : List ℕ) (ts : List TypedType) (d : Desc) → type_named ts x ≡ Some d → is_among (map (own_name m) ts) (record { «module» = m.name; object = x }) ≡ true
named_there m x [] d e = absurd cc
named_there m x (t ∷ ts) d e = named_step m x t ts (bytes_eq x t.name) refl (named_there m x ts) d e

enough_at : (m : Module) (q : QName) (o : Option Desc) → type_named m.types q.object ≡ o → is_own m q ≡ true → (of_found (desc_leads way.Shown m.name q) o ≡ []) ⊎ (is_among (map (own_name m) m.types) q ≡ true)
enough_at m q None e own = inl refl
enough_at m q (Some d) e own = inr (subst (λ (p : QName). is_among (map (own_name m) m.types) p ≡ true) (sym (full_name m q own)) (named_there m q.object m.types d e))

own_enough : (m : Module) → AreEnough (leads_by way.Shown (own_map m) m.name) (first_shown m) (map (own_name m) m.types)
own_enough m = λ q r. enough_at m q (type_named m.types q.object) refl (own_reached m (own_map m) q r)

-- ---- the types that are objects

both_ways : (a b : Bool) → (a ≡ true → b ≡ true) → (b ≡ true → a ≡ true) → a ≡ b
both_ways true true f g = refl
both_ways true false f g = sym (f refl)
both_ways false true f g = g refl
both_ways false false f g = refl

filter_same : {X : Type 0} (f g : X → Bool) (xs : List X) → ((x : X) → f x ≡ g x) → filter f xs ≡ filter g xs
filter_same f g [] h = refl
filter_same f g (x ∷ xs) h = ap (λ b. cond b (x ∷ filter f xs) (filter f xs)) (h x) ∙ ap (λ l. cond (g x) (x ∷ l) l) (filter_same f g xs h)

pub length_each : {X Y : Type 0} (f : X → Y) (xs : List X) → length (map f xs) ≡ length xs
length_each f [] = refl
length_each f (x ∷ xs) = ap suc (length_each f xs)

reached_exactly : (m : Module) (q : QName) → ((is_among (reached_types m) q ≡ true) → Reaches (leads_by way.Shown (own_map m) m.name) (first_shown m) q) × (Reaches (leads_by way.Shown (own_map m) m.name) (first_shown m) q → is_among (reached_types m) q ≡ true)
reached_exactly m q =
    let leads : QName → List QName = leads_by way.Shown (own_map m) m.name in
    let n : length (map (own_name m) m.types) ≡ length m.types = length_each (own_name m) m.types in
    let x = exact_here leads (first_shown m) (map (own_name m) m.types) (own_enough m) q in
    (λ e. x.0 (ap (λ k. is_among (reached_from leads k (first_shown m)) q) n ∙ e), λ r. sym (ap (λ k. is_among (reached_from leads k (first_shown m)) q) n) ∙ x.1 r)

pub types_are : (m : Module) (map : QName → Option Desc) → HasOwnTypes map m → (starts : List QName) → starts ≡ first_shown m → (ps : List Pair) → AreReached (leads_by way.Shown map m.name) starts Shape ps → filter (λ t. has_pair ps (paired Shape (own_name m t))) m.types ≡ types_among m (reached_types m)
types_are m map has starts begin ps r =
    let s : AreReached (leads_by way.Shown map m.name) (first_shown m) Shape ps = subst (λ (l : List QName). AreReached (leads_by way.Shown map m.name) l Shape ps) begin r in
    filter_same (λ t. has_pair ps (paired Shape (own_name m t))) (λ t. is_among (reached_types m) (own_name m t)) m.types
    (λ t. let q : QName = own_name m t in both_ways (has_pair ps (paired Shape q)) (is_among (reached_types m) q)
    (λ e. (reached_exactly m q).1 (alike m map (own_map m) has q (s.right (paired Shape q) e).1))
    (λ e. s.whole q (alike m (own_map m) map (λ p o. sym (has p o)) q ((reached_exactly m q).0 e))))
