-- Lists that grow and are cut.
use Rattle.std.proofs.Common.{◌≡◌, ℕ, zero, suc, ◌+◌, ◌-◌, ◌<◌, ◌≤◌, List, [], ◌∷◌, ◌++◌, length, get_or, take, drop, Option, Some, None, refl, sym, ap, ◌∙◌, subst, inl, inr, append_assoc, append-nil, arith}
use Rattle.std.specs.Prelude.{slice_get, ◌⊎◌}
use Rattle.std.proofs.lemmas.List.{take-append-le}
use Rattle.ob_tdesc.specs.declared.descriptor.Descriptor.{Descriptor}
use Rattle.ob_tdesc.specs.declared.descriptors.Entry.{Entry}
use Rattle.ob_tdesc.specs.Bases.{base_in, base_of, with_bases, line_from}
use Rattle.ob_tdesc.specs.Tables.{declared}
use Rattle.ob_tdesc.specs.Entries.{Methods, own_of, described, list_behind, list_of, Tiles, IsPlaced}
use Rattle.ob_tdesc.proofs.Lines.{AreBelow}

pub get_append : {A : Type 0} (xs ys : List A) (k : ℕ) → k < length xs → slice_get (xs ++ ys) k ≡ slice_get xs k
get_append [] ys k lt = absurd (omega arith)
get_append (x ∷ xs) ys zero lt = refl
get_append (x ∷ xs) ys (suc k) lt = get_append xs ys k (omega arith)

-- what follows in the list does not bear on the line of one before it
pub line_append : (types more : List Descriptor) → AreBelow types → (n a : ℕ) → a < length types → line_from (types ++ more) n a ≡ line_from types n a
line_append types more below zero a lt = refl
line_append types more below (suc n) a lt = ap (λ d. with_bases a (base_in d) (λ b. line_from (types ++ more) n b)) (get_append types more a lt) ∙ go (base_of types a) refl (λ b x. line_append types more below n b x)
  where
    go : (o : Option ℕ) → base_of types a ≡ o → ((b : ℕ) → b < length types → line_from (types ++ more) n b ≡ line_from types n b) → with_bases a o (λ b. line_from (types ++ more) n b) ≡ with_bases a o (λ b. line_from types n b)
    go None e rest = refl
    go (Some b) e rest = let lower = below a b e in ap (λ l. a ∷ l) (rest b (omega arith))

pub get_take : {A : Type 0} (xs : List A) (n k : ℕ) (x : A) → slice_get (take n xs) k ≡ Some x → (k < n) × (slice_get xs k ≡ Some x)
get_take xs zero k x e = absurd cc
get_take [] (suc n) k x e = absurd cc
get_take (y ∷ xs) (suc n) zero x e = (omega arith, e)
get_take (y ∷ xs) (suc n) (suc k) x e = let rest = get_take xs n k x e in (omega arith, rest.1)

pub get_within : {A : Type 0} (xs : List A) (k : ℕ) (x : A) → slice_get xs k ≡ Some x → k < length xs
get_within [] k x e = absurd cc
get_within (y ∷ xs) zero x e = omega arith
get_within (y ∷ xs) (suc k) x e = let rest = get_within xs k x e in omega arith

pub get_last : {A : Type 0} (xs : List A) (y : A) (k : ℕ) (x : A) → slice_get (xs ++ y ∷ []) k ≡ Some x → ((k < length xs) × (slice_get xs k ≡ Some x)) ⊎ ((k ≡ length xs) × (x ≡ y))
get_last [] y zero x e = inr (refl, cc)
get_last [] y (suc k) x e = absurd cc
get_last (z ∷ xs) y zero x e = inl (omega arith, e)
get_last (z ∷ xs) y (suc k) x e = elim (get_last xs y k x e) [ inl h ↦ inl (omega arith, h.1) | inr h ↦ inr (omega arith, h.1) ]

-- WHAT TYPES DEFINE

pub tiles_le : (n : ℕ) (entries : List Entry) (len : ℕ) → Tiles n entries len → n ≤ len
tiles_le n [] len t = omega arith
tiles_le n (e ∷ entries) len t = let rest = tiles_le (n + e.own) entries len t.1 in omega arith

pub part_append : (methods more : Methods) (first count : ℕ) → first + count ≤ length methods → take count (drop first (methods ++ more)) ≡ take count (drop first methods)
part_append methods more first zero le = refl
part_append methods more zero (suc count) le = start methods le
  where
    start : (methods : Methods) → zero + suc count ≤ length methods → take (suc count) (methods ++ more) ≡ take (suc count) methods
    start methods le = take-append-le (suc count) methods more (omega arith)
part_append [] more (suc first) (suc count) le = absurd (omega arith)
part_append (m ∷ methods) more (suc first) (suc count) le = part_append methods more first (suc count) (omega arith)

pub tile_within : (n : ℕ) (entries : List Entry) (len k : ℕ) (e : Entry) → Tiles n entries len → slice_get entries k ≡ Some e → e.first + e.own ≤ len
tile_within n [] len k e t h = absurd cc
tile_within n (x ∷ entries) len zero e t h =
    let same : x ≡ e = cc in
    let le = tiles_le (n + x.own) entries len t.1 in
    let first = t.0 in
    subst (λ y. Entry.first y + Entry.own y ≤ len) same (omega arith)
tile_within n (x ∷ entries) len (suc k) e t h = tile_within (n + x.own) entries len k e t.1 h

pub own_same : (methods more : Methods) (entries : List Entry) (k : ℕ) (e : Entry) → Tiles 0 entries (length methods) → slice_get entries k ≡ Some e → own_of (methods ++ more) e ≡ own_of methods e
own_same methods more entries k e t h = part_append methods more e.first e.own (tile_within 0 entries (length methods) k e t h)

described_by : (methods : Methods) (types : List Descriptor) (e : Entry) (own : Methods) → own_of methods e ≡ own → described methods types e ≡ declared types (record { «module» = e.«module»; name = e.name; base = e.base; words = e.words; count = e.count; methods = own })
described_by methods types e own is = ap (λ own. declared types (record { «module» = e.«module»; name = e.name; base = e.base; words = e.words; count = e.count; methods = own })) is

pub tiles_same : (methods more : Methods) (n : ℕ) (types : List Descriptor) (entries : List Entry) → Tiles n entries (length methods) → list_behind (methods ++ more) types entries ≡ list_behind methods types entries
tiles_same methods more n types [] t = refl
tiles_same methods more n types (e ∷ entries) t =
    let le = tiles_le (n + e.own) entries (length methods) t.1 in
    let first = t.0 in
    let here : described (methods ++ more) types e ≡ described methods types e = described_by (methods ++ more) types e (own_of methods e) (part_append methods more e.first e.own (omega arith)) in
    ap (λ d. d ∷ list_behind (methods ++ more) (types ++ d ∷ []) entries) here ∙ ap (λ l. described methods types e ∷ l) (tiles_same methods more (n + e.own) (types ++ described methods types e ∷ []) entries t.1)

pub tiles_more : (n : ℕ) (entries : List Entry) (len : ℕ) (e : Entry) → Tiles n entries len → e.first ≡ len → Tiles n (entries ++ e ∷ []) (len + e.own)
tiles_more n [] len e t first = (first ∙ sym t, ap (λ k. k + e.own) t)
tiles_more n (x ∷ entries) len e t first = (t.0, tiles_more (n + x.own) entries len e t.1 first)

pub tiles_cut : (n : ℕ) (entries : List Entry) (len k : ℕ) (e : Entry) → Tiles n entries len → slice_get entries k ≡ Some e → Tiles n (take k entries) e.first
tiles_cut n [] len k e t h = absurd cc
tiles_cut n (x ∷ entries) len zero e t h = let same : x ≡ e = cc in subst (λ y. n ≡ Entry.first y) same (sym t.0)
tiles_cut n (x ∷ entries) len (suc k) e t h = (t.0, tiles_cut (n + x.own) entries len k e t.1 h)

-- THE DESCRIPTORS OF ENTRIES

pub length_behind : (methods : Methods) (types : List Descriptor) (entries : List Entry) → length (list_behind methods types entries) ≡ length entries
length_behind methods types [] = refl
length_behind methods types (e ∷ entries) = ap suc (length_behind methods (types ++ described methods types e ∷ []) entries)

pub length_list : (methods : Methods) (entries : List Entry) → length (list_of methods entries) ≡ length entries
length_list methods entries = length_behind methods [] entries

pub take_behind : (methods : Methods) (types : List Descriptor) (k : ℕ) (entries : List Entry) → list_behind methods types (take k entries) ≡ take k (list_behind methods types entries)
take_behind methods types zero entries = refl
take_behind methods types (suc k) [] = refl
take_behind methods types (suc k) (e ∷ entries) = ap (λ l. described methods types e ∷ l) (take_behind methods (types ++ described methods types e ∷ []) k entries)

pub behind_end : (methods : Methods) (types : List Descriptor) (entries : List Entry) (x : Entry) → list_behind methods types (entries ++ x ∷ []) ≡ list_behind methods types entries ++ described methods (types ++ list_behind methods types entries) x ∷ []
behind_end methods types [] x = ap (λ l. described methods l x ∷ []) (sym (append-nil types))
behind_end methods types (e ∷ entries) x =
    let d = described methods types e in
    ap (λ l. d ∷ l) (behind_end methods (types ++ d ∷ []) entries x ∙ ap (λ l. list_behind methods (types ++ d ∷ []) entries ++ described methods l x ∷ []) (append_assoc types (d ∷ []) (list_behind methods (types ++ d ∷ []) entries)))

-- the descriptor of an entry that is there
pub behind_at : (methods : Methods) (types : List Descriptor) (entries : List Entry) (k : ℕ) (x : Entry) → slice_get entries k ≡ Some x → slice_get (list_behind methods types entries) k ≡ Some (described methods (types ++ take k (list_behind methods types entries)) x)
behind_at methods types [] k x h = absurd cc
behind_at methods types (e ∷ entries) zero x h = let same : e ≡ x = cc in ap (λ (l : List Descriptor). Some (described methods l e)) (sym (append-nil types)) ∙ ap (λ y. Some (described methods (types ++ []) y)) same
behind_at methods types (e ∷ entries) (suc k) x h =
    let d = described methods types e in
    behind_at methods (types ++ d ∷ []) entries k x h ∙ ap (λ l. Some (described methods l x)) (append_assoc types (d ∷ []) (take k (list_behind methods (types ++ d ∷ []) entries)))

-- LEVELS AND ANCESTORS

pub front_below : (front more : List Descriptor) → AreBelow (front ++ more) → AreBelow front
front_below front more below k b e =
    let within : k < length front = go k b e in
    below k b (ap base_in (get_append front more k within) ∙ e)
  where
    go : (k b : ℕ) → base_of front k ≡ Some b → k < length front
    go k b e = has (slice_get front k) refl e
      where
        has : (o : Option Descriptor) → slice_get front k ≡ o → base_in o ≡ Some b → k < length front
        has None f g = absurd cc
        has (Some d) f g = get_within front k d f

pub placed_append : (front more : List Descriptor) → AreBelow front → (k : ℕ) (e : Entry) → k < length front → IsPlaced front k e → IsPlaced (front ++ more) k e
placed_append front more below k e lt p =
    let same = line_append front more below (suc k) k lt in
    record {
      below = λ b h. p.below b (sym (ap base_in (get_append front more k lt)) ∙ h);
      level = p.level ∙ sym (ap (λ (l : List ℕ). length l - 1) same);
      long = p.long;
      table = λ l le lt. p.table l le lt ∙ sym (ap (λ (line : List ℕ). get_or line (e.level - l) 0) same);
    }

pub placed_front : (front more : List Descriptor) → AreBelow front → (k : ℕ) (e : Entry) → k < length front → IsPlaced (front ++ more) k e → IsPlaced front k e
placed_front front more below k e lt p =
    let same = line_append front more below (suc k) k lt in
    record {
      below = λ b h. p.below b (ap base_in (get_append front more k lt) ∙ h);
      level = p.level ∙ ap (λ (l : List ℕ). length l - 1) same;
      long = p.long;
      table = λ l le lt. p.table l le lt ∙ ap (λ (line : List ℕ). get_or line (e.level - l) 0) same;
    }
