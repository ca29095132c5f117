-- What holds of an order.
use Rattle.std.proofs.Common.{◌≡◌, ℕ, zero, suc, ◌+◌, Bool, true, false, List, [], ◌∷◌, ◌++◌, length, None, Result, Ok, Err, append_assoc, append-nil, refl, sym, ap, subst, ◌∙◌}
use Rattle.std.specs.Prelude.{if◌then◌else◌, ◌||◌, nat_le}
use Rattle.std.specs.List.{AllByRecursion}
use Rattle.ob_link.specs.Walk.{visit, has, enters, all_in_turn, and_then, leaves}
use Rattle.ob_make.specs.Seen.{Seen, needs}
use Rattle.ob_make.specs.Order.{MakeEnd, Cycle, newest, met_if, steps, order}
use Rattle.ob_make.specs.Laws.{StandsInOrder}
use Rattle.ob_make.proofs.Visits.{Visit, has_end, settles}
use Rattle.ob_make.proofs.Names.{has_left, has_first, has_later, has_none, apart}

-- Behind those that are seen these stand in order: each for the first time, and behind its needs.
abbrev pub Ordered : {K : Type 0} → Seen K → List (List ℕ) → List (List ℕ) → Type 0
Ordered s seen [] = Unit {0}
Ordered s seen (x ∷ xs) = (has x seen ≡ false) × AllByRecursion (λ n. has n seen ≡ true) (needs s x) × Ordered s (seen ++ x ∷ []) xs

-- one more at the end
pub one_more : {K : Type 0} (s : Seen K) (seen xs : List (List ℕ)) (x : List ℕ) → Ordered s seen xs → has x (seen ++ xs) ≡ false → AllByRecursion (λ n. has n (seen ++ xs) ≡ true) (needs s x) → Ordered s seen (xs ++ x ∷ [])
one_more s seen [] x o h all = (subst (λ (l : List (List ℕ)). has x l ≡ false) (append-nil seen) h, subst (λ (l : List (List ℕ)). AllByRecursion (λ n. has n l ≡ true) (needs s x)) (append-nil seen) all, tt)
one_more s seen (y ∷ ys) x o h all =
    let e : seen ++ y ∷ ys ≡ (seen ++ y ∷ []) ++ ys = sym (append_assoc seen (y ∷ []) ys) in
    (o.0, o.1, one_more s (seen ++ y ∷ []) ys x o.2 (subst (λ (l : List (List ℕ)). has x l ≡ false) e h) (subst (λ (l : List (List ℕ)). AllByRecursion (λ n. has n l ≡ true) (needs s x)) e all))

-- any one of them
pub each_one : {K : Type 0} (s : Seen K) (seen front back : List (List ℕ)) (x : List ℕ) → Ordered s seen (front ++ x ∷ back) → (has x (seen ++ front) ≡ false) × AllByRecursion (λ n. has n (seen ++ front) ≡ true) (needs s x)
each_one s seen [] back x o = (subst (λ (l : List (List ℕ)). has x l ≡ false) (sym (append-nil seen)) o.0, subst (λ (l : List (List ℕ)). AllByRecursion (λ n. has n l ≡ true) (needs s x)) (sym (append-nil seen)) o.1)
each_one s seen (y ∷ front) back x o =
    let e : (seen ++ y ∷ []) ++ front ≡ seen ++ y ∷ front = append_assoc seen (y ∷ []) front in
    let r = each_one s (seen ++ y ∷ []) front back x o.2 in
    (subst (λ (l : List (List ℕ)). has x l ≡ false) e r.0, subst (λ (l : List (List ℕ)). AllByRecursion (λ n. has n l ≡ true) (needs s x)) e r.1)

-- none that was seen is among them
pub none_again : {K : Type 0} (s : Seen K) (seen xs : List (List ℕ)) (k : List ℕ) → Ordered s seen xs → has k seen ≡ true → has k xs ≡ false
none_again s seen [] k o h = refl
none_again s seen (x ∷ xs) k o h = ap (λ b. b || has k xs) (apart k x seen h o.0) ∙ none_again s (seen ++ x ∷ []) xs k o.2 (has_left k seen (x ∷ []) h)

pub none_behind : {K : Type 0} (s : Seen K) (seen front back : List (List ℕ)) (x : List ℕ) → Ordered s seen (front ++ x ∷ back) → has x back ≡ false
none_behind s seen [] back x o = none_again s (seen ++ x ∷ []) back x o.2 (has_end x seen)
none_behind s seen (y ∷ front) back x o = none_behind s (seen ++ y ∷ []) front back x o.2

-- ---- a walk

-- From what was left on, a walk on a path leaves modules in order; it leaves none of the path.
pub record Walked {K : Type 0} (s : Seen K) (path left now : List (List ℕ)) : Type 0 where
  pub ordered : Ordered s [] now
  pub grows : (k : List ℕ) → has k left ≡ true → has k now ≡ true
  pub spares : (k : List ℕ) → has k path ≡ true → has k left ≡ false → has k now ≡ false

pub standing : {K : Type 0} (s : Seen K) (path left : List (List ℕ)) → Ordered s [] left → Walked s path left left
standing s path left o = record { ordered = o; grows = λ k h. h; spares = λ k p h. h }

pub onward : {K : Type 0} (s : Seen K) (path left mid now : List (List ℕ)) → Walked s path left mid → Walked s path mid now → Walked s path left now
onward s path left mid now a b = record { ordered = b.ordered; grows = λ k h. b.grows k (a.grows k h); spares = λ k p h. b.spares k p (a.spares k p h) }

-- a module is left behind its needs
pub left_behind : {K : Type 0} (s : Seen K) (path left mid : List (List ℕ)) (n : List ℕ) → Walked s (n ∷ path) left mid → AllByRecursion (λ k. has k mid ≡ true) (needs s n) → has n left ≡ false → has n path ≡ false → Walked s path left (mid ++ n ∷ [])
left_behind s path left mid n w all off out = record {
  ordered = one_more s [] mid n w.ordered (w.spares n (has_first n path) off) all;
  grows = λ k h. has_left k mid (n ∷ []) (w.grows k h);
  spares = λ k p h. has_none k mid (n ∷ []) (w.spares k (has_later k n path p) h) (ap (λ b. b || false) (apart k n path p out));
}

-- a visit on a path, wherever it begins
abbrev pub IsWalk : {K : Type 0} → Seen K → List (List ℕ) → Visit → Type 0
IsWalk s path v = (n : List ℕ) (left now : List (List ℕ)) → Ordered s [] left → v n left ≡ Ok now → Walked s path left now × (has n now ≡ true)

first_walked : {K : Type 0} (s : Seen K) (path : List (List ℕ)) (v : Visit) → IsWalk s path v → (n : List ℕ) (ns left now : List (List ℕ)) → ((mid : List (List ℕ)) → Ordered s [] mid → all_in_turn v ns mid ≡ Ok now → Walked s path mid now × AllByRecursion (λ k. has k now ≡ true) ns) → Ordered s [] left → (r : Result (List (List ℕ)) MakeEnd) → v n left ≡ r → and_then r (all_in_turn v ns) ≡ Ok now → Walked s path left now × AllByRecursion (λ k. has k now ≡ true) (n ∷ ns)
first_walked s path v walk n ns left now more o (Ok mid) f h =
    let a = walk n left mid o f in
    let b = more mid a.0.ordered h in
    (onward s path left mid now a.0 b.0, (b.0.grows n a.1, b.1))
first_walked s path v walk n ns left now more o (Err r) f h = absurd cc

pub all_walked : {K : Type 0} (s : Seen K) (path : List (List ℕ)) (v : Visit) → IsWalk s path v → (ns left now : List (List ℕ)) → Ordered s [] left → all_in_turn v ns left ≡ Ok now → Walked s path left now × AllByRecursion (λ k. has k now ≡ true) ns
all_walked s path v walk [] left now o e = let is : left ≡ now = cc in (subst (λ (l : List (List ℕ)). Walked s path left l) is (standing s path left o), tt)
all_walked s path v walk (n ∷ ns) left now o e = first_walked s path v walk n ns left now (λ mid p h. all_walked s path v walk ns mid now p h) o (v n left) refl e

by_needs : {K : Type 0} (s : Seen K) (path : List (List ℕ)) (v : Visit) (n : List ℕ) → IsWalk s (n ∷ path) v → (left now : List (List ℕ)) → Ordered s [] left → has n left ≡ false → has n path ≡ false → (r : Result (List (List ℕ)) MakeEnd) → all_in_turn v (needs s n) left ≡ r → and_then r (λ l. leaves {R = MakeEnd} None n l) ≡ Ok now → Walked s path left now
by_needs s path v n walk left now o off out (Ok mid) f h =
    let a = all_walked s (n ∷ path) v walk (needs s n) left mid o f in
    let is : mid ++ n ∷ [] ≡ now = cc in
    subst (λ (l : List (List ℕ)). Walked s path left l) is (left_behind s path left mid n a.0 a.1 off out)
by_needs s path v n walk left now o off out (Err r) f h = absurd cc

by_room : {K : Type 0} (b : Bool) (s : Seen K) (path : List (List ℕ)) (v : Visit) (n : List ℕ) → IsWalk s (n ∷ path) v → (left now : List (List ℕ)) → Ordered s [] left → has n left ≡ false → has n path ≡ false → enters (steps s) v (met_if b n) left ≡ Ok now → Walked s path left now
by_room true s path v n walk left now o off out e = by_needs s path v n walk left now o off out (all_in_turn v (needs s n) left) refl e
by_room false s path v n walk left now o off out e = absurd cc

by_left : {K : Type 0} (b : Bool) (s : Seen K) (path : List (List ℕ)) (v : Visit) (m n : List ℕ) → IsWalk s (n ∷ path) v → (left now : List (List ℕ)) → Ordered s [] left → (a : Bool) → has n left ≡ a → (c : Bool) → has n path ≡ c → (if a then Ok left else if c then Err (Cycle m) else enters (steps s) v (met_if b n) left) ≡ Ok now → Walked s path left now
by_left b s path v m n walk left now o true h c f e = let is : left ≡ now = cc in subst (λ (l : List (List ℕ)). Walked s path left l) is (standing s path left o)
by_left b s path v m n walk left now o false h true f e = absurd cc
by_left b s path v m n walk left now o false h false f e = by_room b s path v n walk left now o h f e

pub visits_walk : {K : Type 0} (s : Seen K) (d : ℕ) (path : List (List ℕ)) → IsWalk s path (visit (steps s) d path)
unfolding visit
visits_walk s zero path n left now o e = absurd cc
visits_walk s (suc d) path n left now o e = (by_left (nat_le (suc (length left + length path)) 255) s path (visit (steps s) d (n ∷ path)) (newest n path) n (visits_walk s d (n ∷ path)) left now o (has n left) refl (has n path) refl e, settles s (suc d) path n left now e)

-- ---- the module that is visited is left last, unless it was left before

abbrev pub EndsWith : List ℕ → List (List ℕ) → Type 0
EndsWith n now = (others : List (List ℕ)) × (now ≡ others ++ n ∷ [])

ends_by : (r : Result (List (List ℕ)) MakeEnd) (n : List ℕ) (now : List (List ℕ)) → and_then r (λ l. leaves {R = MakeEnd} None n l) ≡ Ok now → EndsWith n now
ends_by (Ok l) n now e = let is : now ≡ l ++ n ∷ [] = cc in (l, is)
ends_by (Err r) n now e = absurd cc

ends_in : {K : Type 0} (b : Bool) (s : Seen K) (v : Visit) (n : List ℕ) (left now : List (List ℕ)) → enters (steps s) v (met_if b n) left ≡ Ok now → EndsWith n now
ends_in true s v n left now e = ends_by (all_in_turn v (needs s n) left) n now e
ends_in false s v n left now e = absurd cc

ends_from : {K : Type 0} (a b c : Bool) (s : Seen K) (v : Visit) (m n : List ℕ) (left now : List (List ℕ)) → a ≡ false → (if a then Ok left else if c then Err (Cycle m) else enters (steps s) v (met_if b n) left) ≡ Ok now → EndsWith n now
ends_from true b c s v m n left now h e = absurd cc
ends_from false b true s v m n left now h e = absurd cc
ends_from false b false s v m n left now h e = ends_in b s v n left now e

pub visit_ends : {K : Type 0} (s : Seen K) (d : ℕ) (path : List (List ℕ)) (n : List ℕ) (left now : List (List ℕ)) → has n left ≡ false → visit (steps s) d path n left ≡ Ok now → EndsWith n now
unfolding visit
visit_ends s zero path n left now h e = absurd cc
visit_ends s (suc d) path n left now h e = ends_from (has n left) (nat_le (suc (length left + length path)) 255) (has n path) s (visit (steps s) d (n ∷ path)) (newest n path) n left now h e

-- ---- the whole walk

pub order_ordered : {K : Type 0} (s : Seen K) (m : List ℕ) (xs : List (List ℕ)) → order s m ≡ Ok xs → Ordered s [] xs
order_ordered s m xs e = (visits_walk s 257 [] m [] xs tt e).0.ordered

pub order_stands : {K : Type 0} (s : Seen K) (m : List ℕ) (xs : List (List ℕ)) → order s m ≡ Ok xs → StandsInOrder s m xs
order_stands s m xs e =
    let o = order_ordered s m xs e in
    let l = visit_ends s 257 [] m [] xs refl e in
    record {
      once = λ front back x is. let p = subst (λ (l : List (List ℕ)). Ordered s [] l) is o in ((each_one s [] front back x p).0, none_behind s [] front back x p);
      others = l.0;
      last = l.1;
      behind = λ front back x is. (each_one s [] front back x (subst (λ (l : List (List ℕ)). Ordered s [] l) is o)).1;
    }
