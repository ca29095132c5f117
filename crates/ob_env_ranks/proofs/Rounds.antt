-- Rounds of marks.
use Rattle.std.proofs.Common.{◌≡◌, ℕ, zero, suc, ◌+◌, ◌-◌, ◌≤◌, Bool, true, false, List, [], ◌∷◌, Option, Some, None, refl, sym, ap, subst, ◌∙◌, arith}
use Rattle.std.specs.Prelude.{◌&&◌, map, slice_get, unwrap_or}
use Rattle.std.specs.Option.{option_map}
use Rattle.std.specs.List.{list_all}
use Rattle.std.proofs.lemmas.Option.{slice_get-map}
use Rattle.ob_format.specs.Format.{◌>>=◌}
use Rattle.ob_tree.specs.declared.names.QName.{QName}
use Rattle.ob_types.specs.declared.types.TypeRef.{TypeRef}
use Rattle.ob_types.specs.declared.types.TypeRef.TheVariants as ref
use Rattle.ob_types.specs.declared.desc.Desc.{Desc}
use Rattle.ob_types.specs.declared.face.Object.{Object}
use Rattle.ob_types.specs.declared.face.Interface.{Interface}
use Rattle.ob_types.specs.Maps.{stands_on}
use Rattle.ob_layout.specs.Index.{position_from}
use Rattle.ob_layout.proofs.Names.{first_at, first_none}
use Rattle.ob_env.specs.Found.{object_by_name, object_found, module_names, object_names}
use Rattle.ob_env.specs.Mapped.{map_of}
use Rattle.ob_env.specs.Laws.{described_found}
use Rattle.ob_env.specs.Fit.{chain_described, is_within}
use Rattle.ob_env_ranks.specs.Marks.{mark_at, is_marked, marks_by, are_all, SayWithin, is_basic}
use Rattle.ob_env.specs.Found.{place_in, place_of}

-- ---- tests that agree

all_agree : (p q : TypeRef → Bool) → ((t : TypeRef) → p t ≡ q t) → (ts : List TypeRef) → list_all p ts ≡ list_all q ts
all_agree p q e [] = refl
all_agree p q e (t ∷ ts) = ap (λ b. b && list_all p ts) (e t) ∙ ap (λ b. q t && b) (all_agree p q e ts)

chain_agree : (p q : TypeRef → Bool) → ((t : TypeRef) → p t ≡ q t) → (o : Option Desc) → chain_described p o ≡ chain_described q o
chain_agree p q e None = refl
chain_agree p q e (Some d) = all_agree p q e (stands_on d)

-- ---- the marks of a round

module _ (p : TypeRef → Bool) where
  row : List Object → List Bool
  row os = map (λ o. list_all p (stands_on o.desc)) os

  in_row : (os : List Object) (x : List ℕ) (k : ℕ) (o : Option ℕ) → position_from 0 x (object_names os) ≡ o → ((o >>= λ j. Some (k, j)) >>= λ (y : ℕ × ℕ). slice_get (map (λ o. list_all p (stands_on o.desc)) os) y.1) ≡ option_map (λ (o : Object). list_all p (stands_on o.desc)) (object_by_name os x)
  in_row os x k None e = sym (ap (option_map (λ (o : Object). list_all p (stands_on o.desc))) (first_none (λ (o : Object). o.name) os x e))
  in_row os x k (Some j) e = slice_get-map (λ (o : Object). list_all p (stands_on o.desc)) os j ∙ sym (ap (option_map (λ (o : Object). list_all p (stands_on o.desc))) (first_at (λ (o : Object). o.name) os x j e))

  -- at a position of an interface
  in_rows : (is : List Interface) (k : ℕ) (x : List ℕ) (o : Option Interface) → slice_get is k ≡ o → (((o >>= λ i. position_from 0 x (object_names i.objects)) >>= λ j. Some (k, j)) >>= mark_at (marks_by p is)) ≡ option_map (λ (o : Object). list_all p (stands_on o.desc)) (o >>= λ i. object_by_name i.objects x)
  in_rows is k x None e = refl
  in_rows is k x (Some i) e = marked_at (position_from 0 x (object_names i.objects)) ∙ in_row i.objects x k (position_from 0 x (object_names i.objects)) refl
    where
      here : slice_get (marks_by p is) k ≡ Some (map (λ o. list_all p (stands_on o.desc)) i.objects)
      here = slice_get-map (λ (i : Interface). map (λ o. list_all p (stands_on o.desc)) i.objects) is k ∙ ap (option_map (λ (i : Interface). map (λ o. list_all p (stands_on o.desc)) i.objects)) e

      marked_at : (o : Option ℕ) → ((o >>= λ j. Some (k, j)) >>= mark_at (marks_by p is)) ≡ ((o >>= λ j. Some (k, j)) >>= λ (y : ℕ × ℕ). slice_get (map (λ o. list_all p (stands_on o.desc)) i.objects) y.1)
      marked_at None = refl
      marked_at (Some j) = ap (λ (r : Option (List Bool)). r >>= λ m. slice_get m j) here

  placed_mark : (is : List Interface) (q : QName) (o : Option ℕ) → position_from 0 q.«module» (module_names is) ≡ o → ((o >>= λ k. place_in is k q.object >>= λ j. Some (k, j)) >>= mark_at (marks_by p is)) ≡ option_map (λ (o : Object). list_all p (stands_on o.desc)) (object_found is q)
  placed_mark is q None e = sym (ap (λ (o : Option Interface). option_map (λ (o : Object). list_all p (stands_on o.desc)) (o >>= λ i. object_by_name i.objects q.object)) (first_none (λ (i : Interface). i.«module») is q.«module» e))
  placed_mark is q (Some k) e = in_rows is k q.object (slice_get is k) refl ∙ sym (ap (λ (o : Option Interface). option_map (λ (o : Object). list_all p (stands_on o.desc)) (o >>= λ i. object_by_name i.objects q.object)) (first_at (λ (i : Interface). i.«module») is q.«module» k e))

  chained : (o : Option Object) → unwrap_or (option_map (λ (o : Object). list_all p (stands_on o.desc)) o) true ≡ chain_described p (option_map (λ (o : Object). o.desc) o)
  chained None = refl
  chained (Some o) = refl

  pub round_marks : (is : List Interface) (q : QName) → is_marked is (marks_by p is) (ref.Named q) ≡ chain_described p (map_of is q)
  round_marks is q =
      ap (λ (o : Option Bool). unwrap_or o true) (placed_mark is q (position_from 0 q.«module» (module_names is)) refl)
      ∙ chained (object_found is q)
      ∙ sym (ap (chain_described p) (described_found is q))

-- ---- rounds

basic_within : (map : QName → Option Desc) (t : TypeRef) → is_within map 0 t ≡ is_basic t
basic_within map (ref.Basic b) = refl
basic_within map (ref.Named q) = refl

first_at_basic : (is : List Interface) (t : TypeRef) → is_within (map_of is) 1 t ≡ is_marked is (marks_by is_basic is) t
first_at_basic is (ref.Basic b) = refl
first_at_basic is (ref.Named q) = chain_agree (λ t. is_within (map_of is) 0 t) is_basic (basic_within (map_of is)) (map_of is q) ∙ sym (round_marks is_basic is q)

pub first_round : (is : List Interface) (marks : List (List Bool)) → marks ≡ marks_by is_basic is → SayWithin is 1 marks
first_round is marks e t = first_at_basic is t ∙ sym (ap (λ (ms : List (List Bool)). is_marked is ms t) e)

next_at : (is : List Interface) (n : ℕ) (marks : List (List Bool)) → SayWithin is n marks → (t : TypeRef) → is_within (map_of is) (suc n) t ≡ is_marked is (marks_by (λ t. is_marked is marks t) is) t
next_at is n marks say (ref.Basic b) = refl
next_at is n marks say (ref.Named q) = chain_agree (λ t. is_within (map_of is) n t) (λ t. is_marked is marks t) say (map_of is q) ∙ sym (round_marks (λ t. is_marked is marks t) is q)

pub next_round : (is faces : List Interface) (n : ℕ) (marks next : List (List Bool)) → SayWithin is n marks → faces ≡ is → next ≡ marks_by (λ t. is_marked is marks t) faces → SayWithin is (n + 1) next
next_round is faces n marks next say same e t =
    let one : n + 1 ≡ suc n = omega arith in
    ap (λ k. is_within (map_of is) k t) one ∙ next_at is n marks say t ∙ sym (ap (λ (ms : List (List Bool)). is_marked is ms t) (e ∙ ap (marks_by (λ t. is_marked is marks t)) same))

-- ---- where all are marked

pub true_left : (a b : Bool) → (a && b) ≡ true → a ≡ true
true_left true b e = refl
true_left false b e = absurd cc

pub true_right : (a b : Bool) → (a && b) ≡ true → b ≡ true
true_right true b e = e
true_right false b e = absurd cc

all_in : {X : Type 0} (p : X → Bool) (xs : List X) (k : ℕ) (x : X) → list_all p xs ≡ true → slice_get xs k ≡ Some x → p x ≡ true
all_in p [] k x e s = absurd cc
all_in p (y ∷ xs) zero x e s = let f : y ≡ x = cc in subst (λ z. p z ≡ true) f (true_left (p y) (list_all p xs) e)
all_in p (y ∷ xs) (suc k) x e s = all_in p xs k x (true_right (p y) (list_all p xs) e) s

marked_if_all : (marks : List (List Bool)) (o : Option (ℕ × ℕ)) → are_all marks ≡ true → unwrap_or (o >>= mark_at marks) true ≡ true
marked_if_all marks None e = refl
marked_if_all marks (Some p) e = row_cases (slice_get marks p.0) refl
  where
    cell : (m : List Bool) (o : Option Bool) → list_all (λ b. b) m ≡ true → slice_get m p.1 ≡ o → unwrap_or o true ≡ true
    cell m None a s = refl
    cell m (Some b) a s = all_in (λ b. b) m p.1 b a s

    row_cases : (o : Option (List Bool)) → slice_get marks p.0 ≡ o → unwrap_or (o >>= λ m. slice_get m p.1) true ≡ true
    row_cases None s = refl
    row_cases (Some m) s = cell m (slice_get m p.1) (all_in (λ m. list_all (λ b. b) m) marks p.0 m e s) refl

all_marked : (is : List Interface) (marks : List (List Bool)) → are_all marks ≡ true → (t : TypeRef) → is_marked is marks t ≡ true
all_marked is marks e (ref.Basic b) = refl
all_marked is marks e (ref.Named q) = marked_if_all marks (place_of is q) e

all_true : (p : TypeRef → Bool) → ((t : TypeRef) → p t ≡ true) → (ts : List TypeRef) → list_all p ts ≡ true
all_true p e [] = refl
all_true p e (t ∷ ts) = ap (λ b. b && list_all p ts) (e t) ∙ all_true p e ts

chain_true : (p : TypeRef → Bool) → ((t : TypeRef) → p t ≡ true) → (o : Option Desc) → chain_described p o ≡ true
chain_true p e None = refl
chain_true p e (Some d) = all_true p e (stands_on d)

all_later : (map : QName → Option Desc) (n : ℕ) → ((t : TypeRef) → is_within map n t ≡ true) → (t : TypeRef) → is_within map (suc n) t ≡ true
all_later map n e (ref.Basic b) = refl
all_later map n e (ref.Named q) = chain_true (λ t. is_within map n t) e (map q)

all_from : (map : QName → Option Desc) (k n : ℕ) → ((t : TypeRef) → is_within map n t ≡ true) → (t : TypeRef) → is_within map (k + n) t ≡ true
all_from map zero n e t = let z : 0 + n ≡ n = omega arith in ap (λ m. is_within map m t) z ∙ e t
all_from map (suc k) n e t = let z : suc k + n ≡ suc (k + n) = omega arith in ap (λ m. is_within map m t) z ∙ all_later map (k + n) (all_from map k n e) t

pub all_rounds : (is : List Interface) (n : ℕ) (marks : List (List Bool)) → n ≤ 201 → SayWithin is n marks → are_all marks ≡ true → SayWithin is 201 marks
all_rounds is n marks le say e t =
    let z : (201 - n) + n ≡ 201 = omega arith in
    ap (λ m. is_within (map_of is) m t) (sym z) ∙ all_from (map_of is) (201 - n) n (λ t. say t ∙ all_marked is marks e t) t ∙ sym (all_marked is marks e t)
