-- Types whose names differ, beside the names that stood before.
use Rattle.std.proofs.Common.{◌≡◌, ℕ, zero, suc, ◌+◌, ◌<◌, List, [], ◌∷◌, ◌++◌, length, take, drop, get_or, Bool, true, false, refl, sym, ap, ◌∙◌, arith}
use Rattle.std.specs.Prelude.{◌&&◌, ◌||◌, not, cond}
use Rattle.std.specs.List.{list_all, list_any}
use Rattle.std.specs.Ordering.{is_eq, ordering_reverse}
use Rattle.std.specs.declared.cmp.Ordering.{Ordering}
use Rattle.std.specs.declared.cmp.Ordering.TheVariants as ordering
use Rattle.std.proofs.lemmas.Cmp.{nat_list_cmp_total}
use Rattle.std.proofs.lemmas.List.{take_more}
use Rattle.std.proofs.lemmas.List.Folds.{list_all-append, list_any-append}
use Rattle.ob_format.specs.Order.{differ}
use Rattle.ob_obj.specs.declared.parts.RecordType.{RecordType}
use Rattle.ob_obj.specs.Grammar.{by_name, by_type}

reversed : (o : Ordering) → is_eq (ordering_reverse o) ≡ is_eq o
reversed ordering.Less = refl
reversed ordering.Equal = refl
reversed ordering.Greater = refl

either_way : (a b : List ℕ) → is_eq (by_name a b) ≡ is_eq (by_name b a)
either_way a b = ap is_eq (nat_list_cmp_total.antisymm a b) ∙ reversed (by_name b a)

or_false : (a b : Bool) → (a || b) ≡ false → (a ≡ false) × (b ≡ false)
or_false false b e = (refl, e)
or_false true b e = cc

and_true : (a b : Bool) → (a && b) ≡ true → (a ≡ true) × (b ≡ true)
and_true true b e = (refl, e)
and_true false b e = cc

both_true : (a b : Bool) → a ≡ true → b ≡ true → (a && b) ≡ true
both_true true b e f = f
both_true false b e f = cc

left_false : (a b : Bool) → a ≡ false → (a && b) ≡ false
left_false false b e = refl
left_false true b e = cc

right_false : (a b : Bool) → b ≡ false → (a && b) ≡ false
right_false false b e = refl
right_false true b e = e

held : (b : Bool) → not b ≡ false → b ≡ true
held true e = refl
held false e = cc

not_held : (b : Bool) → not b ≡ true → b ≡ false
not_held false e = refl
not_held true e = cc

last_or : (e v : Bool) → cond e true v ≡ (v || (e || false))
last_or true true = refl
last_or true false = refl
last_or false true = refl
last_or false false = refl

-- whether a type has the name
abbrev has_name : List ℕ → RecordType → Bool
has_name n t = is_eq (by_name n t.name)

-- whether two types have different names
abbrev apart : RecordType → RecordType → Bool
apart x y = not (is_eq (by_type x y))

differ_more : (xs : List RecordType) (x : RecordType) → list_any (has_name x.name) xs ≡ false → differ by_type xs ≡ true → differ by_type (xs ++ x ∷ []) ≡ true
differ_more [] x n d = refl
differ_more (y ∷ ys) x n d =
    let o = or_false (has_name x.name y) (list_any (has_name x.name) ys) n in
    let a = and_true (list_all (apart y) ys) (differ by_type ys) d in
    let last : not (is_eq (by_name y.name x.name)) ≡ true = ap not (either_way y.name x.name ∙ o.0) in
    both_true (list_all (apart y) (ys ++ x ∷ [])) (differ by_type (ys ++ x ∷ []))
    (list_all-append (apart y) ys (x ∷ []) ∙ both_true (list_all (apart y) ys) (apart y x && true) a.0 (both_true (apart y x) true last refl))
    (differ_more ys x o.1 a.1)

differ_no_more : (xs zs : List RecordType) (x : RecordType) → list_any (has_name x.name) xs ≡ true → differ by_type (xs ++ x ∷ zs) ≡ false
differ_no_more [] zs x e = cc
differ_no_more (y ∷ ys) zs x e = by_first (has_name x.name y) refl e (differ_no_more ys zs x)
  where
    by_first : (b : Bool) → has_name x.name y ≡ b → (b || list_any (has_name x.name) ys) ≡ true → (list_any (has_name x.name) ys ≡ true → differ by_type (ys ++ x ∷ zs) ≡ false) → differ by_type ((y ∷ ys) ++ x ∷ zs) ≡ false
    by_first true here e later =
        let last : not (is_eq (by_name y.name x.name)) ≡ false = ap not (either_way y.name x.name ∙ here) in
        left_false (list_all (apart y) (ys ++ x ∷ zs)) (differ by_type (ys ++ x ∷ zs))
        (list_all-append (apart y) ys (x ∷ zs) ∙ right_false (list_all (apart y) ys) (apart y x && list_all (apart y) zs) (left_false (apart y x) (list_all (apart y) zs) last))
    by_first false here e later = right_false (list_all (apart y) (ys ++ x ∷ zs)) (differ by_type (ys ++ x ∷ zs)) (later e)

split : (i : ℕ) (xs : List RecordType) (d : RecordType) → i < length xs → xs ≡ take i xs ++ (get_or xs i d ∷ drop (suc i) xs)
split i [] d lt = absurd (omega arith)
split zero (x ∷ xs) d lt = refl
split (suc i) (x ∷ xs) d lt = ap (λ (l : List RecordType). x ∷ l) (split i xs d (omega arith))

-- the types so far have the name of the next one
pub repeated : (types : List RecordType) (i : ℕ) (item : RecordType) (key : List ℕ) (has new : Bool) → i < length types → item ≡ get_or types i item → key ≡ item.name → has ≡ list_any (λ t. is_eq (by_name key t.name)) (take i types) → new ≡ not has → new ≡ false → false ≡ differ by_type types
repeated types i item key has new lt is name seen e old =
    sym (
    ap (differ by_type) (split i types item lt)
    ∙ ap (λ (x : RecordType). differ by_type (take i types ++ (x ∷ drop (suc i) types))) (sym is)
    ∙ differ_no_more (take i types) (drop (suc i) types) item (ap (λ n. list_any (has_name n) (take i types)) (sym name) ∙ sym seen ∙ held has (sym e ∙ old))
    )

-- they have it not, and go on with that one
pub still_differ : (types : List RecordType) (i : ℕ) (item : RecordType) (key : List ℕ) (has new : Bool) → i < length types → item ≡ get_or types i item → key ≡ item.name → has ≡ list_any (λ t. is_eq (by_name key t.name)) (take i types) → new ≡ not has → new ≡ true → differ by_type (take i types) ≡ true → differ by_type (take (i + 1) types) ≡ true
still_differ types i item key has new lt is name seen e fresh so_far =
    ap (differ by_type) (take_more types i item lt)
    ∙ ap (λ (x : RecordType). differ by_type (take i types ++ x ∷ [])) (sym is)
    ∙ differ_more (take i types) item (ap (λ n. list_any (has_name n) (take i types)) (sym name) ∙ sym seen ∙ not_held has (sym e ∙ fresh)) so_far

-- the names of the types, with one more
pub seen_more : (types : List RecordType) (i : ℕ) (item : RecordType) (key q : List ℕ) (found before : Bool) → i < length types → item ≡ get_or types i item → key ≡ item.name → found ≡ cond (is_eq (by_name key q)) true before → before ≡ list_any (λ t. is_eq (by_name q t.name)) (take i types) → found ≡ list_any (λ t. is_eq (by_name q t.name)) (take (i + 1) types)
seen_more types i item key q found before lt is name f b =
    f
    ∙ ap (λ n. cond (is_eq (by_name n q)) true before) name
    ∙ ap (λ e. cond e true before) (either_way item.name q)
    ∙ ap (cond (has_name q item) true) b
    ∙ last_or (has_name q item) (list_any (has_name q) (take i types))
    ∙ sym (list_any-append (has_name q) (take i types) (item ∷ []))
    ∙ sym (ap (list_any (has_name q)) (take_more types i item lt) ∙ ap (λ (x : RecordType). list_any (has_name q) (take i types ++ x ∷ [])) (sym is))
