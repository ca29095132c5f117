-- What the descriptors keep, as their methods need it.
use Rattle.std.proofs.Common.{◌≡◌, ℕ, suc, ◌+◌, ◌<◌, ◌≤◌, ◌^◌, Bool, true, false, List, [], ◌∷◌, ◌++◌, length, get_or, take, drop, Option, Some, None, refl, sym, ap, ◌∙◌, subst, inl, inr, length-append, arith}
use Rattle.std.specs.Prelude.{slice_get, IfSome, Result, IsOk, is_ok, nat_lt, slice_set, if◌then◌else◌, vec_len, vec_capacity}
use Rattle.std.specs.List.Sorted.{IsStrictlySortedBy}
use Rattle.std.proofs.lemmas.Option.{slice_get_read}
use Rattle.std.proofs.lemmas.List.{take-append-drop, length-take-le, length-set}
use Rattle.ob_tdesc.specs.declared.descriptor.Descriptor.{Descriptor}
use Rattle.ob_tdesc.specs.declared.declaration.Declaration.{Declaration}
use Rattle.ob_tdesc.specs.declared.descriptors.Entry.{Entry}
use Rattle.ob_tdesc.specs.declared.descriptors.Descriptors.TheInside.{Inside}
use Rattle.ob_tdesc.specs.Bases.{base_in}
use Rattle.ob_tdesc.specs.Tables.{by_number, declared}
use Rattle.ob_tdesc.specs.Entries.{Methods, own_of, declaration_of, described, list_of, Tiles, AreRising, IsPlaced, ArePlaced, IsKept, level_above, ancestors_above, with_own}
use Rattle.ob_tdesc.proofs.Lines.{AreBelow, level_within}
use Rattle.ob_tdesc.proofs.Tables.{get_take, get_last, get_within, tile_within, own_same, tiles_same, tiles_more, tiles_cut, length_list, take_behind, behind_end, behind_at, placed_append, placed_front, front_below}
use Rattle.ob_tdesc.proofs.New.{get_some, new_placed}

pub kept_same : (d e : Inside) → IsKept d → e.entries.items ≡ d.entries.items → e.methods.items ≡ d.methods.items → vec_len e.entries + e.types_room < 2 ^ 32 → vec_len e.entries + e.types_room ≤ vec_capacity e.entries → vec_len e.methods + e.methods_room ≤ vec_capacity e.methods → IsKept e
kept_same d e kept entries methods few types room = record {
  tiles = subst (λ (l : List Entry). Tiles 0 l (length e.methods.items)) (sym entries) (subst (λ (m : Methods). Tiles 0 d.entries.items (length m)) (sym methods) kept.tiles);
  rising = subst (λ (l : List Entry). AreRising e.methods.items l) (sym entries) (subst (λ (m : Methods). AreRising m d.entries.items) (sym methods) kept.rising);
  placed = subst (λ (l : List Entry). ArePlaced (list_of e.methods.items l) l) (sym entries) (subst (λ (m : Methods). ArePlaced (list_of m d.entries.items) d.entries.items) (sym methods) kept.placed);
  few = few;
  types = types;
  methods = room;
}

-- an entry that was read
pub entry_at : (methods : Methods) (entries : List Entry) (list : List Descriptor) (a : ℕ) (e : Entry) → list_of methods entries ≡ list → a < length list → e ≡ get_or entries a e → slice_get entries a ≡ Some e
entry_at methods entries list a e is lt read =
    let long : length list ≡ length entries = ap length (sym is) ∙ length_list methods entries in
    slice_get_read entries (length entries) a e refl (omega arith) read

pub descriptor_at : (methods : Methods) (entries : List Entry) (list : List Descriptor) (a : ℕ) (e : Entry) → list_of methods entries ≡ list → slice_get entries a ≡ Some e → slice_get list a ≡ Some (described methods (take a list) e)
descriptor_at methods entries list a e is at = subst (λ (l : List Descriptor). slice_get l a ≡ Some (described methods (take a l) e)) is (behind_at methods [] entries a e at)

pub below_of : (types : List Descriptor) (entries : List Entry) → length types ≡ length entries → ArePlaced types entries → AreBelow types
below_of types entries long placed k b e = go (slice_get types k) refl e
  where
    go : (o : Option Descriptor) → slice_get types k ≡ o → base_in o ≡ Some b → b < k
    go None f g = absurd cc
    go (Some d) f g =
        let within = get_within types k d f in
        let some = get_some entries k (omega arith) in
        (placed k some.0 some.1).below b (ap base_in f ∙ g)

pub level_small : (types : List Descriptor) (entries : List Entry) (base : Option ℕ) → length types ≡ length entries → ArePlaced types entries → length entries < 2 ^ 32 → IfSome base (λ b. b < length types) → level_above entries base < 2 ^ 32
level_small types entries None long placed few has = omega arith
level_small types entries (Some b) long placed few has =
    let some = get_some entries b (omega arith) in
    let level = (placed b some.0 some.1).level in
    let within = level_within types (below_of types entries long placed) (suc b) b (omega arith) in
    rw some.1 (omega arith)

pub drop_front : {A : Type 0} (xs ys : List A) → drop (length xs) (xs ++ ys) ≡ ys
drop_front [] ys = refl
drop_front (x ∷ xs) ys = drop_front xs ys

pub take_whole : {A : Type 0} (xs : List A) → take (length xs) xs ≡ xs
take_whole [] = refl
take_whole (x ∷ xs) = ap (λ l. x ∷ l) (take_whole xs)

-- a declared type as it is kept
pub record IsEntryOf (d : Declaration) (start : ℕ) (x : Entry) : Type 0 where
  pub «module» : x.«module» ≡ d.«module»
  pub name : x.name ≡ d.name
  pub base : x.base ≡ d.base
  pub words : x.words ≡ d.words
  pub count : x.count ≡ d.count
  pub first : x.first ≡ start
  pub own : x.own ≡ length d.methods

own_new : (methods : Methods) (d : Declaration) (x : Entry) → IsEntryOf d (length methods) x → own_of (methods ++ d.methods) x ≡ d.methods
own_new methods d x is =
    ap (λ n. take n (drop x.first (methods ++ d.methods))) is.own ∙ ap (λ n. take (length d.methods) (drop n (methods ++ d.methods))) is.first ∙ ap (take (length d.methods)) (drop_front methods d.methods) ∙ take_whole d.methods

declaration_new : (methods : Methods) (d : Declaration) (x : Entry) → IsEntryOf d (length methods) x → declaration_of (methods ++ d.methods) x ≡ d
declaration_new methods d x is = rw (is.«module», is.name, is.base, is.words, is.count) (ap (λ (own : Methods). record d { methods = own }) (own_new methods d x is))

pub list_added : (methods : Methods) (entries : List Entry) (d : Declaration) (x : Entry) → Tiles 0 entries (length methods) → IsEntryOf d (length methods) x → list_of (methods ++ d.methods) (entries ++ x ∷ []) ≡ list_of methods entries ++ declared (list_of methods entries) d ∷ []
list_added methods entries d x tiles is =
    behind_end (methods ++ d.methods) [] entries x ∙ ap (λ l. l ++ described (methods ++ d.methods) l x ∷ []) (tiles_same methods d.methods 0 [] entries tiles) ∙ ap (λ t. list_of methods entries ++ declared (list_of methods entries) t ∷ []) (declaration_new methods d x is)

pub rising_added : (methods : Methods) (entries : List Entry) (d : Declaration) (x : Entry) → Tiles 0 entries (length methods) → AreRising methods entries → IsEntryOf d (length methods) x → IsStrictlySortedBy by_number d.methods → AreRising (methods ++ d.methods) (entries ++ x ∷ [])
rising_added methods entries d x tiles rising is new k e at = elim (get_last entries x k e at) [
  | inl h ↦ subst (IsStrictlySortedBy by_number) (sym (own_same methods d.methods entries k e tiles h.1)) (rising k e h.1)
  | inr h ↦ subst (IsStrictlySortedBy by_number) (sym (ap (own_of (methods ++ d.methods)) h.1 ∙ own_new methods d x is)) new
]

pub placed_added : (types : List Descriptor) (entries : List Entry) (d : Descriptor) (x : Entry) → length types ≡ length entries → ArePlaced types entries → IsPlaced (types ++ d ∷ []) (length entries) x → ArePlaced (types ++ d ∷ []) (entries ++ x ∷ [])
placed_added types entries d x long placed p k e at = elim (get_last entries x k e at) [
  | inl h ↦ let lt = h.0 in placed_append types (d ∷ []) (below_of types entries long placed) k e (omega arith) (placed k e h.1)
  | inr h ↦ subst (λ y. IsPlaced (types ++ d ∷ []) k y) (sym h.1) (subst (λ n. IsPlaced (types ++ d ∷ []) n x) (sym h.0) p)
]

own_long : (n l : ℕ) (v : List ℕ) → length (with_own n l v) ≡ length v
own_long n l v = go (nat_lt l 16)
  where
    go : (t : Bool) → length (if t then slice_set v l n else v) ≡ length v
    go true = length-set v l n
    go false = refl

ancestors_long : (types : List Descriptor) (entries : List Entry) (base : Option ℕ) → length types ≡ length entries → ArePlaced types entries → IfSome base (λ b. b < length types) → length (ancestors_above entries base) ≡ 16
ancestors_long types entries None long placed has = refl
ancestors_long types entries (Some b) long placed has =
    let some = get_some entries b (omega arith) in
    rw some.1 (placed b some.0 some.1).long

pub ok_items : {T E A : Type 0} (r : Result T E) (a b : A) → IsOk r → (if is_ok r then a else b) ≡ a
ok_items r a b h = rw h refl

pub kept_added : (d e : Inside) (t : Declaration) (x : Entry) → IsKept d → e.entries.items ≡ d.entries.items ++ x ∷ [] → e.methods.items ≡ d.methods.items ++ t.methods → IsEntryOf t (length d.methods.items) x → IsStrictlySortedBy by_number t.methods → IfSome t.base (λ b. b < length (list_of d.methods.items d.entries.items)) → x.level ≡ level_above d.entries.items t.base → x.ancestors ≡ with_own (length d.entries.items) (level_above d.entries.items t.base) (ancestors_above d.entries.items t.base) → vec_len e.entries + e.types_room < 2 ^ 32 → vec_len e.entries + e.types_room ≤ vec_capacity e.entries → vec_len e.methods + e.methods_room ≤ vec_capacity e.methods → IsKept e
kept_added d e t x kept entries methods is rises base level ancestors few types room =
    let old = list_of d.methods.items d.entries.items in
    let long = length_list d.methods.items d.entries.items in
    let long16 = ap length ancestors ∙ own_long (length d.entries.items) (level_above d.entries.items t.base) (ancestors_above d.entries.items t.base) ∙ ancestors_long old d.entries.items t.base long kept.placed base in
    let below = below_of old d.entries.items long kept.placed in
    let p = new_placed old d.entries.items (declared old t) x long kept.placed below base level ancestors long16 in
    let placed = placed_added old d.entries.items (declared old t) x long kept.placed p in
    let list = list_added d.methods.items d.entries.items t x kept.tiles is in
    let tiles = tiles_more 0 d.entries.items (length d.methods.items) x kept.tiles is.first in
    let rising = rising_added d.methods.items d.entries.items t x kept.tiles kept.rising is rises in
    let end : length d.methods.items + x.own ≡ length (d.methods.items ++ t.methods) = ap (λ n. length d.methods.items + n) is.own ∙ sym (length-append d.methods.items t.methods) in
    record {
      tiles = subst (λ (l : List Entry). Tiles 0 l (length e.methods.items)) (sym entries) (subst (λ (m : Methods). Tiles 0 (d.entries.items ++ x ∷ []) (length m)) (sym methods) (subst (λ n. Tiles 0 (d.entries.items ++ x ∷ []) n) end tiles));
      rising = subst (λ (l : List Entry). AreRising e.methods.items l) (sym entries) (subst (λ (m : Methods). AreRising m (d.entries.items ++ x ∷ [])) (sym methods) rising);
      placed = subst (λ (l : List Entry). ArePlaced (list_of e.methods.items l) l) (sym entries) (subst (λ (m : Methods). ArePlaced (list_of m (d.entries.items ++ x ∷ [])) (d.entries.items ++ x ∷ [])) (sym methods) (subst (λ (l : List Descriptor). ArePlaced l (d.entries.items ++ x ∷ [])) (sym list) placed));
      few = few;
      types = types;
      methods = room;
    }

-- A CUT

-- what ends where the entry k begins is a front
front_is : (methods : Methods) (entries : List Entry) (k : ℕ) (e : Entry) → Tiles 0 entries (length methods) → slice_get entries k ≡ Some e → Tiles 0 (take k entries) (length (take e.first methods))
front_is methods entries k e tiles at =
    let within = tile_within 0 entries (length methods) k e tiles at in
    subst (λ n. Tiles 0 (take k entries) n) (sym (length-take-le e.first methods (omega arith))) (tiles_cut 0 entries (length methods) k e tiles at)

pub list_cut : (methods : Methods) (entries : List Entry) (k : ℕ) (e : Entry) → Tiles 0 entries (length methods) → slice_get entries k ≡ Some e → list_of (take e.first methods) (take k entries) ≡ take k (list_of methods entries)
list_cut methods entries k e tiles at =
    let front = tiles_same (take e.first methods) (drop e.first methods) 0 [] (take k entries) (front_is methods entries k e tiles at) in
    sym front ∙ ap (λ m. list_of m (take k entries)) (take-append-drop e.first methods) ∙ take_behind methods [] k entries

rising_cut : (methods : Methods) (entries : List Entry) (k : ℕ) (e : Entry) → Tiles 0 entries (length methods) → slice_get entries k ≡ Some e → AreRising methods entries → AreRising (take e.first methods) (take k entries)
rising_cut methods entries k e tiles at rising j x h =
    let same = own_same (take e.first methods) (drop e.first methods) (take k entries) j x (front_is methods entries k e tiles at) h in
    let there = get_take entries k j x h in
    subst (IsStrictlySortedBy by_number) (ap (λ m. own_of m x) (sym (take-append-drop e.first methods)) ∙ same) (rising j x there.1)

pub placed_cut : (types : List Descriptor) (entries : List Entry) (k : ℕ) → length types ≡ length entries → k ≤ length types → ArePlaced types entries → ArePlaced (take k types) (take k entries)
placed_cut types entries k long le placed j e at =
    let h = get_take entries k j e at in
    let lt = h.0 in
    let all = take-append-drop k types in
    let below : AreBelow (take k types ++ drop k types) = subst AreBelow (sym all) (below_of types entries long placed) in
    let len = length-take-le k types le in
    placed_front (take k types) (drop k types) (front_below (take k types) (drop k types) below) j e (omega arith) (subst (λ (l : List Descriptor). IsPlaced l j e) (sym all) (placed j e h.1))

pub kept_cut : (d e : Inside) (k : ℕ) (x : Entry) → IsKept d → slice_get d.entries.items k ≡ Some x → e.entries.items ≡ take k d.entries.items → e.methods.items ≡ take x.first d.methods.items → vec_len e.entries + e.types_room < 2 ^ 32 → vec_len e.entries + e.types_room ≤ vec_capacity e.entries → vec_len e.methods + e.methods_room ≤ vec_capacity e.methods → IsKept e
kept_cut d e k x kept at entries methods few types room =
    let long = length_list d.methods.items d.entries.items in
    let lt = get_within d.entries.items k x at in
    let within = tile_within 0 d.entries.items (length d.methods.items) k x kept.tiles at in
    let cut = tiles_cut 0 d.entries.items (length d.methods.items) k x kept.tiles at in
    let len : x.first ≡ length (take x.first d.methods.items) = sym (length-take-le x.first d.methods.items (omega arith)) in
    let list = list_cut d.methods.items d.entries.items k x kept.tiles at in
    let rising = rising_cut d.methods.items d.entries.items k x kept.tiles at kept.rising in
    let placed = placed_cut (list_of d.methods.items d.entries.items) d.entries.items k long (omega arith) kept.placed in
    record {
      tiles = subst (λ (l : List Entry). Tiles 0 l (length e.methods.items)) (sym entries) (subst (λ (m : Methods). Tiles 0 (take k d.entries.items) (length m)) (sym methods) (subst (λ n. Tiles 0 (take k d.entries.items) n) len cut));
      rising = subst (λ (l : List Entry). AreRising e.methods.items l) (sym entries) (subst (λ (m : Methods). AreRising m (take k d.entries.items)) (sym methods) rising);
      placed = subst (λ (l : List Entry). ArePlaced (list_of e.methods.items l) l) (sym entries) (subst (λ (m : Methods). ArePlaced (list_of m (take k d.entries.items)) (take k d.entries.items)) (sym methods) (subst (λ (l : List Descriptor). ArePlaced l (take k d.entries.items)) (sym list) placed));
      few = few;
      types = types;
      methods = room;
    }
