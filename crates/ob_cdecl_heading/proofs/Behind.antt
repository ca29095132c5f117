-- What is known behind the headings so far.
use Rattle.std.proofs.Common.{◌≡◌, ℕ, zero, suc, ◌+◌, ◌-◌, ◌≤◌, Bool, true, false, List, [], ◌∷◌, ◌++◌, length, drop, refl, sym, ap, subst, ◌∙◌, arith}
use Rattle.std.proofs.lemmas.List.{append_assoc, length-append}
use Rattle.ob_types.specs.declared.typed.TypedType.{TypedType}
use Rattle.ob_rules.specs.declared.entity.Known.{Known}
use Rattle.ob_rules.specs.Names.{Around}
use Rattle.ob_rules.specs.Types.{with_types}
use Rattle.ob_rules.specs.Headings.{Head, Heads, WrittenHeading, head_of, head_entity, known_behind, knows_procedure, name_twice, types_of, declared_head, add_heading}

-- more names are known, and there are more types
pub record Grows (u v : Around) : Type 0 where
  pub names : List Known
  pub types : List TypedType
  pub is : v ≡ record u { known = names ++ u.known; own = types ++ u.own }

pub grows_none : (u : Around) → Grows u u
grows_none u = record { names = []; types = []; is = refl }

pub grows_then : (u v w : Around) → Grows u v → Grows v w → Grows u w
grows_then u v w g h =
    let F : Around → Around = λ x. record x { known = h.names ++ x.known; own = h.types ++ x.own } in
    record {
      names = h.names ++ g.names;
      types = h.types ++ g.types;
      is = h.is ∙ ap F g.is ∙ ap (λ l. record u { known = l; own = h.types ++ (g.types ++ u.own) }) (sym (append_assoc h.names g.names u.known)) ∙ ap (λ l. record u { known = (h.names ++ g.names) ++ u.known; own = l }) (sym (append_assoc h.types g.types u.own));
    }

grows_by : (u : Around) (ts : List TypedType) (s : Head) (twice : Bool) → Grows u (known_behind (with_types u ts) twice s)
grows_by u ts s true = record { names = []; types = ts; is = refl }
grows_by u ts s false = go s.is_bound
  where
    go : (p : Bool) → Grows u (knows_procedure (with_types u ts) s p)
    go true = record { names = []; types = ts; is = refl }
    go false = record { names = record { name = s.name; scope = u.scope; what = head_entity (with_types u ts) s s.parameters } ∷ []; types = ts; is = refl }

-- a heading makes more known
pub heading_grows : (hs : Heads) (h : WrittenHeading) (forward : Bool) → Grows hs.around (add_heading hs h forward).around
heading_grows hs h forward =
    let s = head_of hs.around h forward in
    grows_by hs.around (types_of s.parameters) s (name_twice (with_types hs.around (types_of s.parameters)) hs.before s)

-- what is known behind a heading is known still, but for what is later
pub record IsBehind (ks : List Known) (s : Head) : Type 0 where
  pub within : length s.known ≤ length ks
  pub is : s.known ≡ drop (length ks - length s.known) ks

abbrev pub AreBehind : List Known → List Head → Type 0
AreBehind ks [] = Unit {0}
AreBehind ks (s ∷ ss) = IsBehind ks s × AreBehind ks ss

drop_front : {A : Type 0} (xs ys : List A) (j n : ℕ) → n ≡ length xs + j → drop n (xs ++ ys) ≡ drop j ys
drop_front [] ys j n e = let same : n ≡ j = omega arith in ap (λ m. drop m ys) same
drop_front (x ∷ xs) ys j zero e = absurd (omega arith)
drop_front (x ∷ xs) ys j (suc n) e = drop_front xs ys j n (omega arith)

one_behind : (ns ks : List Known) (s : Head) → IsBehind ks s → IsBehind (ns ++ ks) s
one_behind ns ks s b =
    let long = length-append ns ks in
    let within = b.within in
    record {
      within = omega (arith, long, within);
      is = b.is ∙ sym (drop_front ns ks (length ks - length s.known) (length (ns ++ ks) - length s.known) (omega (arith, long, within)));
    }

all_behind : (ns ks : List Known) (ss : List Head) → AreBehind ks ss → AreBehind (ns ++ ks) ss
all_behind ns ks [] b = tt
all_behind ns ks (s ∷ ss) b = (one_behind ns ks s b.0, all_behind ns ks ss b.1)

last_behind : (u : Around) (s : Head) (twice : Bool) → IsBehind u.known (declared_head twice s u)
last_behind u s true = let none : length u.known - length u.known ≡ 0 = omega arith in record { within = omega arith; is = ap (λ n. drop n u.known) (sym none) }
last_behind u s false = let none : length u.known - length u.known ≡ 0 = omega arith in record { within = omega arith; is = ap (λ n. drop n u.known) (sym none) }

-- so it is of all headings, and of one more
pub heads_behind : (hs : Heads) (h : WrittenHeading) (forward : Bool) → AreBehind hs.around.known hs.before → AreBehind (add_heading hs h forward).around.known (add_heading hs h forward).before
heads_behind hs h forward b =
    let g = heading_grows hs h forward in
    let s = head_of hs.around h forward in
    let v = (add_heading hs h forward).around in
    let K : Around → List Known = λ x. x.known in
    (last_behind v s (name_twice (with_types hs.around (types_of s.parameters)) hs.before s), subst (λ ks. AreBehind ks hs.before) (sym (ap K g.is)) (all_behind g.names hs.around.known hs.before b))
