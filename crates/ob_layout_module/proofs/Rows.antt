-- What stands in the rows.
use Rattle.std.proofs.Common.{◌≡◌, ℕ, zero, suc, ◌+◌, ◌*◌, ◌-◌, ◌<◌, ◌≤◌, Bool, true, false, cond, List, [], ◌∷◌, ◌++◌, length, Option, Some, None, refl, sym, ap, subst, ◌∙◌, arith}
use Rattle.std.specs.Prelude.{map as each, slice_get, nat_lt, bytes_eq}
use Rattle.std.specs.Option.{option_or}
use Rattle.std.specs.Cmp.Lexicographic.{bytes_decides}
use Rattle.ob_tree.specs.declared.ident.Mark.{Mark}
use Rattle.ob_tree.specs.declared.names.QName.{QName}
use Rattle.ob_types.specs.declared.types.TypeRef.{TypeRef}
use Rattle.ob_types.specs.declared.types.TypeRef.TheVariants as ref
use Rattle.ob_types.specs.declared.types.Basic.{Basic}
use Rattle.ob_types.specs.declared.desc.Desc.{Desc}
use Rattle.ob_types.specs.declared.desc.Desc.TheVariants as desc
use Rattle.ob_types.specs.declared.typed.TypedType.{TypedType}
use Rattle.ob_types.specs.TypedSyntax.{Module}
use Rattle.ob_layout.specs.Index.{position_from}
use Rattle.ob_layout.specs.LaidOut.{summed, counted, declared_words, declared_procedures, kept, type_named, is_own, viewed}
use Rattle.ob_env.specs.Viewed.{type_names}
use Rattle.ob_layout_module.specs.Sums.{own_name, own_ref, declared_ends, ends_in, sum_in, row_at, all_end, rows_below, row_in, Hold}
use Rattle.ob_layout_module.specs.declared.sums.Sum.{Sum}
use Rattle.ob_layout_module.proofs.Keeping.{kept_times}
use Rattle.ob_layout_module.proofs.Ends.{all_stay}

-- ---- lists

get_last : {A : Type 0} (xs : List A) (x : A) (k : ℕ) → k ≡ length xs → slice_get (xs ++ x ∷ []) k ≡ Some x
get_last [] x zero e = refl
get_last [] x (suc k) e = absurd (omega (arith, e))
get_last (y ∷ xs) x zero e = absurd (omega (arith, e))
get_last (y ∷ xs) x (suc k) e = get_last xs x k (omega (arith, e))

get_front : {A : Type 0} (xs ys : List A) (k : ℕ) → k < length xs → slice_get (xs ++ ys) k ≡ slice_get xs k
get_front [] ys k l = absurd (omega (arith, l))
get_front (x ∷ xs) ys zero l = refl
get_front (x ∷ xs) ys (suc k) l = get_front xs ys k (omega (arith, l))

length_more : {A : Type 0} (xs : List A) (x : A) → length (xs ++ x ∷ []) ≡ suc (length xs)
length_more [] x = refl
length_more (y ∷ xs) x = ap suc (length_more xs x)

-- ---- rows

pub rows_length : (map : QName → Option Desc) (m : Module) (n : ℕ) → length (rows_below map m n) ≡ n
rows_length map m zero = refl
rows_length map m (suc n) = length_more (rows_below map m n) (row_at map m n) ∙ ap suc (rows_length map m n)

below_is : (k n : ℕ) → nat_lt k n ≡ true → k < n
below_is k n e = grind arith

not_less : (k n : ℕ) → nat_lt k n ≡ false → n ≤ k
not_less k n e = grind arith

above_none : (n : ℕ) → nat_lt 0 (suc n) ≡ true
above_none n = grind arith

not_below : (k n : ℕ) → k < suc n → nat_lt k n ≡ false → k ≡ n
not_below k n l e = grind arith

pub row_found : (map : QName → Option Desc) (m : Module) (n k : ℕ) → k < n → slice_get (rows_below map m n) k ≡ Some (row_at map m k)
row_found map m zero k l = absurd (omega (arith, l))
row_found map m (suc n) k l = go (nat_lt k n) refl (λ h. row_found map m n k h)
  where
    go : (b : Bool) → nat_lt k n ≡ b → (k < n → slice_get (rows_below map m n) k ≡ Some (row_at map m k)) → slice_get (rows_below map m n ++ row_at map m n ∷ []) k ≡ Some (row_at map m k)
    go true e more = let h : k < n = below_is k n e in get_front (rows_below map m n) (row_at map m n ∷ []) k (subst (λ j. k < j) (sym (rows_length map m n)) h) ∙ more h
    go false e more =
        let h : k ≡ n = not_below k n l e in
        get_last (rows_below map m n) (row_at map m n) k (h ∙ sym (rows_length map m n)) ∙ ap (λ j. Some (row_at map m j)) (sym h)

-- ---- names

placed_at : {A : Type 0} (f : List ℕ → A) (ts : List TypedType) (x : List ℕ) (n p : ℕ) → position_from n x (type_names ts) ≡ Some p → (n ≤ p) × (slice_get (each (λ t. f t.name) ts) (p - n) ≡ Some (f x))
placed_at f [] x n p e = absurd cc
placed_at f (t ∷ ts) x n p e = go (bytes_eq x t.name) refl (λ h. placed_at f ts x (suc n) p h) e
  where
    go : (b : Bool) → bytes_eq x t.name ≡ b → (position_from (suc n) x (type_names ts) ≡ Some p → (suc n ≤ p) × (slice_get (each (λ t. f t.name) ts) (p - suc n) ≡ Some (f x))) → cond b (Some n) (position_from (suc n) x (type_names ts)) ≡ Some p → (n ≤ p) × (slice_get (f t.name ∷ each (λ t. f t.name) ts) (p - n) ≡ Some (f x))
    go true s more h =
        let is : n ≡ p = cc in
        let none : p - n ≡ 0 = omega (arith, is) in
        (omega (arith, is), rw none (ap (λ l. Some (f l)) (sym ((bytes_decides x t.name).0 s))))
    go false s more h =
        let r : (suc n ≤ p) × (slice_get (each (λ t. f t.name) ts) (p - suc n) ≡ Some (f x)) = more h in
        let l : suc n ≤ p = r.0 in
        let one : p - n ≡ suc (p - suc n) = omega (arith, l) in
        (omega (arith, l), rw one r.1)

pub sum_placed : (map : QName → Option Desc) (m : Module) (k : ℕ) (x : List ℕ) (p : ℕ) → position_from 0 x (type_names m.types) ≡ Some p → slice_get (row_at map m k) p ≡ Some (sum_in map m k (own_ref m.name x))
sum_placed map m k x p e = let r = placed_at (λ y. sum_in map m k (own_ref m.name y)) m.types x 0 p e in let z : p - 0 ≡ p = omega arith in subst (λ j. slice_get (row_at map m k) j ≡ Some (sum_in map m k (own_ref m.name x))) z r.1

absent : (ts : List TypedType) (x : List ℕ) (n : ℕ) → position_from n x (type_names ts) ≡ None → type_named ts x ≡ None
absent [] x n e = refl
absent (t ∷ ts) x n e = go (bytes_eq x t.name) (λ h. absent ts x (suc n) h) e
  where
    go : (b : Bool) → (position_from (suc n) x (type_names ts) ≡ None → type_named ts x ≡ None) → cond b (Some n) (position_from (suc n) x (type_names ts)) ≡ None → cond b (Some t.desc) (type_named ts x) ≡ None
    go true more h = absurd cc
    go false more h = more h

-- ---- own types

same_name : (x : List ℕ) → bytes_eq x x ≡ true
same_name x = (bytes_decides x x).1 refl

pub own_summed : (map : QName → Option Desc) (m : Module) (n : ℕ) (x : List ℕ) → summed map m (suc n) (own_ref m.name x) ≡ declared_words (summed map m n) true (type_named m.types x)
own_summed map m n x = rw (same_name m.name) refl

pub own_counted : (map : QName → Option Desc) (m : Module) (n : ℕ) (x : List ℕ) → counted map m (suc n) (own_ref m.name x) ≡ declared_procedures (counted map m n) true (type_named m.types x)
own_counted map m n x = rw (same_name m.name) refl

own_ends : (map : QName → Option Desc) (m : Module) (n : ℕ) (x : List ℕ) → ends_in map m (suc n) (own_ref m.name x) ≡ declared_ends (ends_in map m n) true (type_named m.types x)
own_ends map m n x = rw (same_name m.name) refl

own_sum : (map : QName → Option Desc) (m : Module) (n : ℕ) (x : List ℕ) (d : Option Desc) → d ≡ type_named m.types x → (let s : Sum = record { words = kept (declared_words (summed map m n) true d); ends = declared_ends (ends_in map m n) true d } in s) ≡ sum_in map m (suc n) (own_ref m.name x)
own_sum map m n x d e =
    let w : kept (declared_words (summed map m n) true d) ≡ kept (summed map m (suc n) (own_ref m.name x)) = ap kept (ap (declared_words (summed map m n) true) e ∙ sym (own_summed map m n x)) in
    let f : declared_ends (ends_in map m n) true d ≡ ends_in map m (suc n) (own_ref m.name x) = ap (declared_ends (ends_in map m n) true) e ∙ sym (own_ends map m n x) in
    ap (λ (k : ℕ). let s : Sum = record { words = k; ends = declared_ends (ends_in map m n) true d } in s) w ∙ ap (λ (b : Bool). let s : Sum = record { words = kept (summed map m (suc n) (own_ref m.name x)); ends = b } in s) f

pub absent_sum : (map : QName → Option Desc) (m : Module) (k : ℕ) (x : List ℕ) → position_from 0 x (type_names m.types) ≡ None → (let s : Sum = record { words = 1; ends = nat_lt 0 k } in s) ≡ sum_in map m k (own_ref m.name x)
absent_sum map m zero x e = refl
absent_sum map m (suc n) x e =
    let some : nat_lt 0 (suc n) ≡ true = above_none n in
    ap (λ (b : Bool). let s : Sum = record { words = 1; ends = b } in s) some ∙ own_sum map m n x None (sym (absent m.types x 0 e))

-- a name of the module
pub own_is : (m : Module) (q : QName) → is_own m q ≡ true → own_ref m.name q.object ≡ ref.Named q
own_is m q e = ap (λ l. own_ref l q.object) (sym ((bytes_decides q.«module» m.name).0 e))

-- ---- as the code asks them

found_row : (map : QName → Option Desc) (m : Module) (rows : List (List Sum)) (k : ℕ) → rows ≡ rows_below map m (length rows) → k < length rows → slice_get rows k ≡ Some (row_at map m k)
found_row map m rows k e l = subst (λ r. slice_get r k ≡ Some (row_at map m k)) (sym e) (row_found map m (length rows) k l)

some_first : {A : Type 0} (o p : Option A) (a : A) → o ≡ Some a → option_or o p ≡ Some a
some_first o p a e = ap (λ q. option_or q p) e

in_row : (map : QName → Option Desc) (m : Module) (rows : List (List Sum)) (k : ℕ) → rows ≡ rows_below map m (length rows) → k < length rows → row_in rows k ≡ Some (row_at map m k)
in_row map m rows k e l = some_first (slice_get rows k) (slice_get rows (length rows - 1)) (row_at map m k) (found_row map m rows k e l)

pub hold_below : (map : QName → Option Desc) (m : Module) (rows : List (List Sum)) (n : ℕ) → rows ≡ rows_below map m (length rows) → n < length rows → Hold map m rows n
hold_below map m rows n e l = λ k le. in_row map m rows k e (omega (arith, l, le))

pub hold_less : (map : QName → Option Desc) (m : Module) (rows : List (List Sum)) (n : ℕ) → Hold map m rows n → Hold map m rows (n - 1)
hold_less map m rows n h = λ k le. h k (omega (arith, le))

get_past : {A : Type 0} (xs : List A) (k : ℕ) → length xs ≤ k → slice_get xs k ≡ None
get_past [] k l = refl
get_past (x ∷ xs) zero l = absurd (omega (arith, l))
get_past (x ∷ xs) (suc k) l = get_past xs k (omega (arith, l))

hold_ended : (map : QName → Option Desc) (m : Module) (rows : List (List Sum)) (row : List Sum) (n : ℕ) → rows ≡ rows_below map m (length rows) → 0 < length rows → row ≡ row_at map m (length rows - 1) → all_end row ≡ true → Hold map m rows n
hold_ended map m rows row n e l is ends = λ k le. go k (nat_lt k (length rows)) refl
  where
    go : (k : ℕ) (b : Bool) → nat_lt k (length rows) ≡ b → row_in rows k ≡ Some (row_at map m k)
    go k true h = in_row map m rows k e (below_is k (length rows) h)
    go k false h =
        let past : length rows ≤ k = not_less k (length rows) h in
        let last : length rows - 1 < length rows = omega (arith, l) in
        let more : (length rows - 1) + (k - (length rows - 1)) ≡ k = omega (arith, l, past) in
        ap (λ o. option_or o (slice_get rows (length rows - 1))) (get_past rows k past)
        ∙ found_row map m rows (length rows - 1) e last
        ∙ sym (ap Some (all_stay map m (length rows - 1) (k - (length rows - 1)) (ap all_end (sym is) ∙ ends)))
        ∙ ap (λ j. Some (row_at map m j)) more

pub more_rows : (map : QName → Option Desc) (m : Module) (rows : List (List Sum)) (row : List Sum) → rows ≡ rows_below map m (length rows) → 0 < length rows → row ≡ row_at map m (suc (length rows - 1)) → rows ++ row ∷ [] ≡ rows_below map m (length (rows ++ row ∷ []))
more_rows map m rows row e l is =
    let s : suc (length rows - 1) ≡ length rows = omega (arith, l) in
    ap (λ (r : List (List Sum)). r ++ row ∷ []) e
    ∙ ap (λ (r : List Sum). rows_below map m (length rows) ++ r ∷ []) (is ∙ ap (row_at map m) s)
    ∙ ap (rows_below map m) (sym (length_more rows row))

pub hold_more : (map : QName → Option Desc) (m : Module) (rows : List (List Sum)) (row : List Sum) (n : ℕ) → rows ≡ rows_below map m (length rows) → 0 < length rows → row ≡ row_at map m (suc (length rows - 1)) → all_end row ≡ true → Hold map m (rows ++ row ∷ []) n
hold_more map m rows row n e l is ends =
    let long : length (rows ++ row ∷ []) ≡ suc (length rows) = length_more rows row in
    let last : suc (length rows - 1) ≡ length (rows ++ row ∷ []) - 1 = omega (arith, long, l) in
    hold_ended map m (rows ++ row ∷ []) row n (more_rows map m rows row e l is) (omega (arith, long)) (is ∙ ap (row_at map m) last) ends

pub own_kept : (map : QName → Option Desc) (m : Module) (k : ℕ) (q : QName) → is_own m q ≡ true → sum_in map m k (own_ref m.name q.object) ≡ sum_in map m k (ref.Named q)
own_kept map m k q e = ap (sum_in map m k) (own_is m q e)

pub basic_words : (map : QName → Option Desc) (m : Module) (k : ℕ) (b : Basic) → (let s : Sum = record { words = kept 1; ends = true } in s) ≡ sum_in map m k (ref.Basic b)
basic_words map m zero b = refl
basic_words map m (suc n) b = refl

pub next_is : (map : QName → Option Desc) (m : Module) (n : ℕ) (x : List ℕ) (d : Desc) → Some d ≡ type_named m.types x → (let s : Sum = record { words = kept (declared_words (summed map m n) true (Some d)); ends = declared_ends (ends_in map m n) true (Some d) } in s) ≡ sum_in map m (suc n) (own_ref m.name x)
next_is map m n x d e = own_sum map m n x (Some d) e

pub next_none : (map : QName → Option Desc) (m : Module) (n : ℕ) (x : List ℕ) → None ≡ type_named m.types x → (let s : Sum = record { words = kept 1; ends = true } in s) ≡ sum_in map m (suc n) (own_ref m.name x)
next_none map m n x e = own_sum map m n x None e

-- an array of another module
pub array_sum : (map : QName → Option Desc) (m : Module) (k : ℕ) (q : QName) (mark : Mark) (n : ℕ) (t : TypeRef) → is_own m q ≡ false → 0 < k → Some (desc.Array mark n t) ≡ viewed map m q → (let s : Sum = record { words = kept (n * (sum_in map m (k - 1) t).words); ends = (sum_in map m (k - 1) t).ends } in s) ≡ sum_in map m k (ref.Named q)
array_sum map m zero q mark n t own l e = absurd (omega (arith, l))
array_sum map m (suc k) q mark n t own l e =
    let j : suc k - 1 ≡ k = omega arith in
    let w : kept (n * kept (summed map m k t)) ≡ kept (declared_words (summed map m k) (is_own m q) (viewed map m q)) = kept_times n (summed map m k t) ∙ ap (λ d. kept (declared_words (summed map m k) (is_own m q) d)) e in
    let f : ends_in map m k t ≡ declared_ends (ends_in map m k) (is_own m q) (viewed map m q) = ap (declared_ends (ends_in map m k) (is_own m q)) e in
    ap (λ (i : ℕ). let s : Sum = record { words = kept (n * (sum_in map m i t).words); ends = (sum_in map m i t).ends } in s) j
    ∙ ap (λ (i : ℕ). let s : Sum = record { words = i; ends = ends_in map m k t } in s) w
    ∙ ap (λ (b : Bool). let s : Sum = record { words = kept (declared_words (summed map m k) (is_own m q) (viewed map m q)); ends = b } in s) f

pub count_is : (map : QName → Option Desc) (m : Module) (n : ℕ) (x : List ℕ) (d : Desc) → Some d ≡ type_named m.types x → declared_procedures (counted map m n) true (Some d) ≡ counted map m (suc n) (own_ref m.name x)
count_is map m n x d e = ap (declared_procedures (counted map m n) true) e ∙ sym (own_counted map m n x)

pub count_none : (map : QName → Option Desc) (m : Module) (n : ℕ) (x : List ℕ) → None ≡ type_named m.types x → 0 ≡ counted map m (suc n) (own_ref m.name x)
count_none map m n x e = ap (declared_procedures (counted map m n) true) e ∙ sym (own_counted map m n x)

pub count_own : (map : QName → Option Desc) (m : Module) (k : ℕ) (q : QName) → is_own m q ≡ true → counted map m k (own_ref m.name q.object) ≡ counted map m k (ref.Named q)
count_own map m k q e = ap (counted map m k) (own_is m q e)

pub count_basic : (map : QName → Option Desc) (m : Module) (k : ℕ) (b : Basic) → 0 ≡ counted map m k (ref.Basic b)
count_basic map m zero b = refl
count_basic map m (suc n) b = refl

pub count_other : (map : QName → Option Desc) (m : Module) (n : ℕ) (q : QName) (d : Option Desc) → is_own m q ≡ false → d ≡ viewed map m q → declared_procedures (counted map m n) false d ≡ counted map m (suc n) (ref.Named q)
count_other map m n q d own e = ap (declared_procedures (counted map m n) false) e ∙ ap (λ (b : Bool). declared_procedures (counted map m n) b (viewed map m q)) (sym own)
