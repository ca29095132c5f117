-- Steps of the walk.
use Rattle.std.proofs.Common.{◌≡◌, ℕ, zero, suc, ◌+◌, ◌<◌, ◌-◌, Bool, true, false, List, [], ◌∷◌, ◌++◌, length, None, Result, Ok, Err, append_assoc, refl, sym, ap, subst, ◌∙◌, arith}
use Rattle.std.specs.Prelude.{if◌then◌else◌, cond, reverse, bytes_eq, nat_le, ◌||◌, map as each}
use Rattle.std.specs.List.{filter, list_any}
use Rattle.std.proofs.lemmas.List.Sorted.{list_any-IsPermutation, IsPermutation-reverse}
use Rattle.std.specs.Cmp.Lexicographic.{bytes_decides}
use Rattle.std.proofs.lemmas.List.{length-reverse}
use Rattle.std.proofs.lemmas.List.Elements.{filter-append}
use Rattle.ob_env.specs.Faces.{Wanted}
use Rattle.ob_cmp.specs.Check.{Present, NotThere, TooLong, Refused, There}
use Rattle.ob_cmp.proofs.Merging.{eq_itself}
use Rattle.ob_link.specs.Walk.{visit, has, enters, all_in_turn, and_then, leaves}
use Rattle.ob_make.specs.Seen.{Has, Seen, needs, is_needed, object_needs, symbol_needs, source_needs}
use Rattle.ob_make.specs.Walking.{Goes, begins, singled, object_lean, lean_needs}
use Rattle.ob_make.specs.declared.fault.MakeFault.{MakeFault}
use Rattle.ob_make.specs.declared.fault.MakeFault.TheVariants as fault
use Rattle.ob_make.specs.Order.{MakeEnd, Cycle, newest, met_if, steps}

-- ---- names on the path

has_any : (name : List ℕ) (names : List (List ℕ)) → has name names ≡ list_any (λ n. bytes_eq name n) names
has_any name [] = refl
has_any name (n ∷ names) = ap (λ b. bytes_eq name n || b) (has_any name names)

pub has_turned : (name : List ℕ) (path : List (List ℕ)) → has name (reverse path) ≡ has name path
has_turned name path = has_any name (reverse path) ∙ sym (list_any-IsPermutation (λ n. bytes_eq name n) path (reverse path) (IsPermutation-reverse path)) ∙ sym (has_any name path)

-- ---- one visit

pub none_deep : {K : Type 0} (s : Seen K) (d : ℕ) (path : List (List ℕ)) (name : List ℕ) (left : List (List ℕ)) → d ≡ 0 → visit (steps s) d path name left ≡ Err (Cycle (newest name path))
unfolding visit
none_deep s d path name left e = rw e refl

visit_more : {K : Type 0} (s : Seen K) (d : ℕ) (path : List (List ℕ)) (name : List ℕ) (left : List (List ℕ)) → 0 < d → visit (steps s) d path name left ≡ (if has name left then Ok left else if has name path then Err (Cycle (newest name path)) else enters (steps s) (visit (steps s) (d - 1) (name ∷ path)) (met_if (nat_le (suc (length left + length path)) 255) name) left)
unfolding visit
visit_more s zero path name left lt = absurd (omega (arith, lt))
visit_more s (suc d) path name left lt = let e : suc d - 1 ≡ d = omega arith in rw e refl

pub passed : {K : Type 0} (s : Seen K) (d : ℕ) (path : List (List ℕ)) (name : List ℕ) (left : List (List ℕ)) → 0 < d → has name left ≡ true → visit (steps s) d path name left ≡ Ok left
passed s d path name left lt e = rw (visit_more s d path name left lt, e) refl

pub circled : {K : Type 0} (s : Seen K) (d : ℕ) (path : List (List ℕ)) (name : List ℕ) (left : List (List ℕ)) → 0 < d → has name left ≡ false → has name path ≡ true → visit (steps s) d path name left ≡ Err (Cycle (newest name path))
circled s d path name left lt e f = rw (visit_more s d path name left lt, e, f) refl

pub entered : {K : Type 0} (s : Seen K) (d : ℕ) (path : List (List ℕ)) (name : List ℕ) (left : List (List ℕ)) → 0 < d → has name left ≡ false → has name path ≡ false → visit (steps s) d path name left ≡ enters (steps s) (visit (steps s) (d - 1) (name ∷ path)) (met_if (nat_le (suc (length left + length path)) 255) name) left
entered s d path name left lt e f = rw (visit_more s d path name left lt, e, f) refl

-- ---- a module that a visit has left, or had left before, is passed over from there on

or_true : (b : Bool) → (b || true) ≡ true
or_true true = refl
or_true false = refl

pub has_end : (n : List ℕ) (xs : List (List ℕ)) → has n (xs ++ n ∷ []) ≡ true
has_end n [] = ap (λ b. b || false) (eq_itself n)
has_end n (x ∷ xs) = ap (λ b. bytes_eq n x || b) (has_end n xs) ∙ or_true (bytes_eq n x)

by_needs : (r : Result (List (List ℕ)) MakeEnd) (n : List ℕ) (now : List (List ℕ)) → and_then r (λ l. leaves {R = MakeEnd} None n l) ≡ Ok now → has n now ≡ true
by_needs (Ok l) n now e = let is : l ++ n ∷ [] ≡ now = cc in subst (λ z. has n z ≡ true) is (has_end n l)
by_needs (Err r) n now e = absurd cc

by_room : {K : Type 0} (b : Bool) (s : Seen K) (v : List ℕ → List (List ℕ) → Result (List (List ℕ)) MakeEnd) (n : List ℕ) (left now : List (List ℕ)) → enters (steps s) v (met_if b n) left ≡ Ok now → has n now ≡ true
by_room true s v n left now e = by_needs (all_in_turn v (needs s n) left) n now e
by_room false s v n left now e = absurd cc

by_path : {K : Type 0} (b c : Bool) (s : Seen K) (v : List ℕ → List (List ℕ) → Result (List (List ℕ)) MakeEnd) (m n : List ℕ) (left now : List (List ℕ)) → (if c then Err (Cycle m) else enters (steps s) v (met_if b n) left) ≡ Ok now → has n now ≡ true
by_path b true s v m n left now e = absurd cc
by_path b false s v m n left now e = by_room b s v n left now e

by_left : {K : Type 0} (a b c : Bool) (s : Seen K) (v : List ℕ → List (List ℕ) → Result (List (List ℕ)) MakeEnd) (m n : List ℕ) (left now : List (List ℕ)) → has n left ≡ a → (if a then Ok left else if c then Err (Cycle m) else enters (steps s) v (met_if b n) left) ≡ Ok now → has n now ≡ true
by_left true b c s v m n left now h e = let is : left ≡ now = cc in subst (λ z. has n z ≡ true) is h
by_left false b c s v m n left now h e = by_path b c s v m n left now e

pub settles : {K : Type 0} (s : Seen K) (d : ℕ) (path : List (List ℕ)) (n : List ℕ) (left now : List (List ℕ)) → visit (steps s) d path n left ≡ Ok now → has n now ≡ true
unfolding visit
settles s zero path n left now e = absurd cc
settles s (suc d) path n left now e = by_left (has n left) (nat_le (suc (length left + length path)) 255) (has n path) s (visit (steps s) d (n ∷ path)) (newest n path) n left now refl e

pub stays : {K : Type 0} (s : Seen K) (d : ℕ) (path : List (List ℕ)) (n : List ℕ) (left now : List (List ℕ)) → visit (steps s) d path n left ≡ Ok now → visit (steps s) d path n now ≡ Ok now
unfolding visit
stays s zero path n left now e = absurd cc
stays s (suc d) path n left now e = ap (λ b. if b then Ok now else if has n path then Err (Cycle (newest n path)) else enters (steps s) (visit (steps s) d (n ∷ path)) (met_if (nat_le (suc (length now + length path)) 255) n) now) (settles s (suc d) path n left now e)

-- ---- so needs may be left out where they stand twice

abbrev pub Visit : Type 0
Visit = List ℕ → List (List ℕ) → Result (List (List ℕ)) MakeEnd

abbrev pub Stays : Visit → Type 0
Stays v = (n : List ℕ) (left now : List (List ℕ)) → v n left ≡ Ok now → v n now ≡ Ok now

twice : (v : Visit) → Stays v → (n : List ℕ) (left : List (List ℕ)) (r : Result (List (List ℕ)) MakeEnd) (rest : List (List ℕ) → Result (List (List ℕ)) MakeEnd) → v n left ≡ r → and_then r rest ≡ and_then r (λ l. and_then (v n l) rest)
twice v stay n left (Ok now) rest e = sym (ap (λ x. and_then x rest) (stay n left now e))
twice v stay n left (Err r) rest e = refl

joined : (r : Result (List (List ℕ)) MakeEnd) (both one more : List (List ℕ) → Result (List (List ℕ)) MakeEnd) → ((l : List (List ℕ)) → both l ≡ and_then (one l) more) → and_then r both ≡ and_then (and_then r one) more
joined (Ok l) both one more h = h l
joined (Err e) both one more h = refl

pub in_turn_joined : (v : Visit) (xs ys left : List (List ℕ)) → all_in_turn v (xs ++ ys) left ≡ and_then (all_in_turn v xs left) (all_in_turn v ys)
in_turn_joined v [] ys left = refl
in_turn_joined v (x ∷ xs) ys left = joined (v x left) (all_in_turn v (xs ++ ys)) (all_in_turn v xs) (all_in_turn v ys) (in_turn_joined v xs ys)

and_same : (r : Result (List (List ℕ)) MakeEnd) (f g : List (List ℕ) → Result (List (List ℕ)) MakeEnd) → ((l : List (List ℕ)) → f l ≡ g l) → and_then r f ≡ and_then r g
and_same (Ok l) f g h = h l
and_same (Err r) f g h = refl

one_more : (v : Visit) (b : Bool) (n : List ℕ) (xs ys : List (List ℕ)) → ((l : List (List ℕ)) → all_in_turn v xs l ≡ all_in_turn v ys l) → (left : List (List ℕ)) → all_in_turn v (cond b (n ∷ xs) xs) left ≡ all_in_turn v (cond b (n ∷ ys) ys) left
one_more v true n xs ys h left = and_same (v n left) (all_in_turn v xs) (all_in_turn v ys) h
one_more v false n xs ys h left = h left

one_again : (v : Visit) → Stays v → (b : Bool) (n : List ℕ) (xs left : List (List ℕ)) → all_in_turn v (cond b (n ∷ xs) xs) left ≡ all_in_turn v (cond b (n ∷ cond b (n ∷ xs) xs) (cond b (n ∷ xs) xs)) left
one_again v stay true n xs left = twice v stay n left (v n left) (all_in_turn v xs) refl
one_again v stay false n xs left = refl

again_is : (v : Visit) → Stays v → (p : List ℕ → Bool) (n : List ℕ) (ns : List (List ℕ)) → begins n ns ≡ true → (left : List (List ℕ)) → all_in_turn v (filter p ns) left ≡ all_in_turn v (filter p (n ∷ ns)) left
again_is v stay p n [] e left = absurd cc
again_is v stay p n (m ∷ ns) e left = subst (λ k. all_in_turn v (filter p (k ∷ ns)) left ≡ all_in_turn v (filter p (n ∷ k ∷ ns)) left) ((bytes_decides n m).0 e) (one_again v stay (p n) n (filter p ns) left)

single_by : (v : Visit) → Stays v → (p : List ℕ → Bool) (n : List ℕ) (ns : List (List ℕ)) → ((l : List (List ℕ)) → all_in_turn v (filter p (singled ns)) l ≡ all_in_turn v (filter p ns) l) → (left : List (List ℕ)) (b : Bool) → begins n ns ≡ b → all_in_turn v (filter p (cond b (singled ns) (n ∷ singled ns))) left ≡ all_in_turn v (filter p (n ∷ ns)) left
single_by v stay p n ns h left true e = h left ∙ again_is v stay p n ns e left
single_by v stay p n ns h left false e = one_more v (p n) n (filter p (singled ns)) (filter p ns) h left

pub singled_in_turn : (v : Visit) → Stays v → (p : List ℕ → Bool) (ns left : List (List ℕ)) → all_in_turn v (filter p (singled ns)) left ≡ all_in_turn v (filter p ns) left
singled_in_turn v stay p [] left = refl
singled_in_turn v stay p (n ∷ ns) left = single_by v stay p n ns (singled_in_turn v stay p ns) left (begins n ns) refl

three : (v : Visit) (p : List ℕ → Bool) (xs ys zs left : List (List ℕ)) → all_in_turn v (filter p ((xs ++ ys) ++ zs)) left ≡ and_then (all_in_turn v (filter p xs) left) (λ l. and_then (all_in_turn v (filter p ys) l) (all_in_turn v (filter p zs)))
three v p xs ys zs left =
    ap (λ l. all_in_turn v l left) (ap (filter p) (append_assoc xs ys zs) ∙ filter-append p xs (ys ++ zs))
    ∙ in_turn_joined v (filter p xs) (filter p (ys ++ zs)) left
    ∙ and_same (all_in_turn v (filter p xs) left) (all_in_turn v (filter p (ys ++ zs))) (λ l. and_then (all_in_turn v (filter p ys) l) (all_in_turn v (filter p zs))) (λ l. ap (λ k. all_in_turn v k l) (filter-append p ys zs) ∙ in_turn_joined v (filter p ys) (filter p zs) l)

lean_by : {K : Type 0} (v : Visit) → Stays v → (p : List ℕ → Bool) (o : Present (Has K)) (rest left : List (List ℕ)) → all_in_turn v (filter p (object_lean o ++ rest)) left ≡ all_in_turn v (filter p (object_needs o ++ rest)) left
lean_by v stay p NotThere rest left = refl
lean_by v stay p TooLong rest left = refl
lean_by v stay p Refused rest left = refl
lean_by v stay p (There h) rest left =
    let used = each (λ (w : Wanted _). w.object.«module») h.uses in
    three v p h.imports (singled used) rest left
    ∙ and_same (all_in_turn v (filter p h.imports) left) (λ l. and_then (all_in_turn v (filter p (singled used)) l) (all_in_turn v (filter p rest))) (λ l. and_then (all_in_turn v (filter p used) l) (all_in_turn v (filter p rest))) (λ l. ap (λ r. and_then r (all_in_turn v (filter p rest))) (singled_in_turn v stay p used l))
    ∙ sym (three v p h.imports used rest left)

-- the needs without doubles come to the same
pub lean_in_turn : {K : Type 0} (v : Visit) → Stays v → (s : Seen K) (n : List ℕ) (left : List (List ℕ)) → all_in_turn v (lean_needs s n) left ≡ all_in_turn v (needs s n) left
lean_in_turn v stay s n left = lean_by v stay (is_needed n) (s.object n) (symbol_needs (s.symbols n) ++ source_needs (s.source n)) left

-- ---- a module is entered

pub enters_lean : {K : Type 0} (s : Seen K) (d : ℕ) (path : List (List ℕ)) (n : List ℕ) (left ns : List (List ℕ)) (b : Bool) → b ≡ true → lean_needs s n ≡ ns → enters (steps s) (visit (steps s) d (n ∷ path)) (met_if b n) left ≡ and_then (all_in_turn (visit (steps s) d (n ∷ path)) ns left) (λ l. Ok (l ++ n ∷ []))
enters_lean s d path n left ns b e is =
    let v = visit (steps s) d (n ∷ path) in
    ap (λ c. enters (steps s) v (met_if c n) left) e
    ∙ ap (λ r. and_then r (λ l. Ok (l ++ n ∷ []))) (sym (lean_in_turn v (stays s d (n ∷ path)) s n left) ∙ ap (λ l. all_in_turn v l left) is)

-- a fault behind which nothing goes on
pub goes_no_more : (o : Result (List (List ℕ)) MakeEnd) (more : List (List ℕ) → Result (List (List ℕ)) MakeEnd) (left now : List (List ℕ)) (f : MakeFault) → Goes o left (Err f) → Goes (and_then o more) now (Err f)
goes_no_more o more left now (fault.Cycle m) h = ap (λ r. and_then r more) h
goes_no_more o more left now (fault.TooMany count) h = ap (λ r. and_then r more) h
goes_no_more o more left now fault.Folder h = tt
goes_no_more o more left now fault.Memory h = tt

-- the room for one more, as the code sees it
pub room : (left l path p : List (List ℕ)) → l ≡ left → p ≡ path → nat_le (suc (length l + length p)) 255 ≡ true → nat_le (suc (length left + length (reverse path))) 255 ≡ true
room left l path p e f h =
    ap (λ k. nat_le (suc (length left + k)) 255) (length-reverse path)
    ∙ ap (λ (q : List (List ℕ)). nat_le (suc (length left + length q)) 255) (sym f)
    ∙ ap (λ (q : List (List ℕ)). nat_le (suc (length q + length p)) 255) (sym e)
    ∙ h

-- ---- what the code says of a visit

-- one that stands on the path
pub circled_on : {K : Type 0} (s : Seen K) (d : ℕ) (path : List (List ℕ)) (name : List ℕ) (left : List (List ℕ)) → 0 < d → has name left ≡ false → has name path ≡ true → visit (steps s) d (reverse path) name left ≡ Err (Cycle (newest name (reverse path)))
circled_on s d path name left lt e f = circled s d (reverse path) name left lt e (has_turned name path ∙ f)

-- one that is entered
pub entered_on : {K : Type 0} (s : Seen K) (d : ℕ) (path : List (List ℕ)) (name : List ℕ) (left now : List (List ℕ)) (r : Result (Unit {0}) MakeFault) → 0 < d → has name left ≡ false → has name path ≡ false → Goes (enters (steps s) (visit (steps s) (d - 1) (name ∷ reverse path)) (met_if (nat_le (suc (length left + length (reverse path))) 255) name) left) now r → Goes (visit (steps s) d (reverse path) name left) now r
entered_on s d path name left now r lt e f h = subst (λ o. Goes o now r) (sym (entered s d (reverse path) name left lt e (has_turned name path ∙ f))) h
