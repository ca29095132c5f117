-- A stack of names when the latest is taken away.
use Rattle.std.proofs.Common.{◌≡◌, ℕ, zero, suc, ◌+◌, ◌-◌, ◌<◌, ◌≤◌, Bool, true, false, List, [], ◌∷◌, ◌++◌, length, map, drop, get_or, min, Some, refl, sym, ap, subst, ◌∙◌, arith}
use Rattle.std.specs.Prelude.{if◌then◌else◌, bytes_eq, reverse, IsSome}
use Rattle.std.proofs.lemmas.List.{reverse-append, length-reverse, length-map, length-drop, get_or-reverse}
use Rattle.ob_cdecl_scopes.specs.declared.stack.Key.{Key}
use Rattle.ob_cdecl_scopes.specs.Stacks.{Places, place_at, Puts, latest, before_first, before_at, name_of, names_of, AreLinked, AreLinkedBack, IsIndexed}
use Rattle.ob_cdecl_scopes.proofs.Places.{equal_names, same_name}

pub reverse_more : {A : Type 0} (xs : List A) (x : A) → reverse (xs ++ x ∷ []) ≡ x ∷ reverse xs
reverse_more xs x = reverse-append xs (x ∷ [])

pub names_more : (ks : List Key) (k : Key) → names_of (ks ++ k ∷ []) ≡ k.name ∷ names_of ks
names_more ks k = ap (map name_of) (reverse_more ks k)

pub linked_less : (all ks : List Key) (k : Key) → all ≡ ks ++ k ∷ [] → AreLinked all → (k.before ≡ latest (names_of ks) k.name) × AreLinked ks
linked_less all ks k e h = subst AreLinkedBack (ap reverse e ∙ reverse_more ks k) h

pub is_there : (m : Places) (all ks : List Key) (k : Key) → all ≡ ks ++ k ∷ [] → IsIndexed m all → IsSome (place_at m k.name)
is_there m all ks k e h = subst IsSome (sym (h k.name ∙ ap (λ l. latest l k.name) (ap names_of e ∙ names_more ks k) ∙ ap (λ b. if b then Some (length (names_of ks)) else latest (names_of ks) k.name) (same_name k.name k.name refl))) refl

pub indexed_less : (m n : Places) (all ks : List Key) (k : Key) → all ≡ ks ++ k ∷ [] → AreLinked all → IsIndexed m all → Puts m n k.name k.before → AreLinked ks × IsIndexed n ks
indexed_less m n all ks k e linked indexed puts = ((linked_less all ks k e linked).1, λ x. go x (bytes_eq k.name x) refl)
  where
    back : k.before ≡ latest (names_of ks) k.name
    back = (linked_less all ks k e linked).0

    old : (x : List ℕ) → place_at m x ≡ (if bytes_eq k.name x then Some (length (names_of ks)) else latest (names_of ks) x)
    old x = indexed x ∙ ap (λ l. latest l x) (ap names_of e ∙ names_more ks k)

    go : (x : List ℕ) (b : Bool) → bytes_eq k.name x ≡ b → place_at n x ≡ latest (names_of ks) x
    go x true e = puts x ∙ ap (λ b. if b then k.before else place_at m x) e ∙ back ∙ ap (latest (names_of ks)) (equal_names k.name x e)
    go x false e = puts x ∙ ap (λ b. if b then k.before else place_at m x) e ∙ old x ∙ ap (λ b. if b then Some (length (names_of ks)) else latest (names_of ks) x) e

-- ONE LESS, AGAIN AND AGAIN

drop_one_more : {A : Type 0} (n : ℕ) (xs : List A) → drop 1 (drop n xs) ≡ drop (suc n) xs
drop_one_more zero xs = refl
drop_one_more (suc n) [] = refl
drop_one_more (suc n) (x ∷ xs) = drop_one_more n xs

pub dropped : {A : Type 0} (all s t : List A) (left : ℕ) → t ≡ drop 1 s → s ≡ drop (length all - length s) all → length s ≤ length all → left < length s → (t ≡ drop (length all - length t) all) × (length t ≤ length all)
dropped all s t left e f le lt = (e ∙ ap (drop 1) f ∙ drop_one_more (length all - length s) all ∙ ap (λ n. drop n all) same, omega (arith, shorter))
  where
    shorter : length t ≡ length s - 1
    shorter = ap length e ∙ length-drop 1 s

    same : suc (length all - length s) ≡ length all - length t
    same = omega (arith, shorter)

pub cut_to : {A : Type 0} (all s : List A) (left : ℕ) → s ≡ drop (length all - length s) all → length s ≤ length all → min left (length all) ≤ length s → length s ≤ left → s ≡ drop (length all - left) all
cut_to all s left e le most lt = let same : length all - length s ≡ length all - left = omega arith in e ∙ ap (λ n. drop n all) same

-- THE PLACE BEFORE

linked_at : (rs : List Key) (n : ℕ) (d : Key) → AreLinkedBack rs → n < length rs → Some (get_or rs n d).before ≡ before_first (drop n (map name_of rs))
linked_at [] n d h lt = absurd (omega arith)
linked_at (k ∷ rs) zero d h lt = ap Some h.0
linked_at (k ∷ rs) (suc n) d h lt = linked_at rs n d h.1 (omega arith)

pub before_place : (ks : List Key) (place : ℕ) (d : Key) → AreLinked ks → place < length ks → Some (get_or ks place d).before ≡ before_at (names_of ks) (length (names_of ks) - (place + 1))
before_place ks place d h lt = ap (λ k. Some k.before) (sym back) ∙ linked_at (reverse ks) (length ks - (place + 1)) d h within ∙ ap (λ m. before_at (names_of ks) m) same
  where
    long : length (reverse ks) ≡ length ks
    long = length-reverse ks

    within : length ks - (place + 1) < length (reverse ks)
    within = omega (arith, long)

    back : get_or (reverse ks) (length ks - (place + 1)) d ≡ get_or ks place d
    back = get_or-reverse ks (length ks - (place + 1)) d (omega arith) ∙ ap (λ m. get_or ks m d) (omega arith)

    same : length ks - (place + 1) ≡ length (names_of ks) - (place + 1)
    same = ap (λ m. m - (place + 1)) (sym (length-map (reverse ks) name_of ∙ long))
