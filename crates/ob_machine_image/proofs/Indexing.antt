-- The index of types when a descriptor is added or taken out.
use Rattle.std.proofs.Common.{◌≡◌, ℕ, zero, suc, ◌+◌, ◌≤◌, Bool, true, false, List, [], ◌∷◌, ◌++◌, length, take, get_or, map, Option, Some, None, refl, sym, ap, subst, ◌∙◌, arith}
use Rattle.std.specs.Prelude.{◌&&◌, if◌then◌else◌}
use Rattle.std.specs.Option.{option_or}
use Rattle.ob_tree.specs.declared.names.QName.{QName}
use Rattle.ob_tdesc.specs.declared.descriptor.Descriptor.{Descriptor}
use Rattle.ob_obj.specs.Images.{same, type_from}
use Rattle.ob_machine_image.specs.Names.{name_of}
use Rattle.ob_machine_image.specs.Index.{Modules, number_of, same_type, Notes, Forgets, IsIndexed, without}
use Rattle.ob_machine_image.proofs.Maps.{none_else, this_one, another}
use Rattle.ob_machine_image.proofs.Standing.{Below, type_below}

-- ONE TYPE MORE

abbrev last_one : QName → Descriptor → ℕ → Option ℕ
last_one q d n = if same_type q (name_of d) then Some n else None

-- with what the rest of the list finds, and where the last one stands
one_before : (b : Bool) (n : ℕ) (rest front : Option ℕ) (last : Option ℕ) → rest ≡ option_or front last → (if b then Some n else rest) ≡ option_or (if b then Some n else front) last
one_before true n rest front last e = refl
one_before false n rest front last e = e

type_behind : (n : ℕ) (types : List Descriptor) (d : Descriptor) (q : QName) (k : ℕ) → k ≡ n + length types → type_from n (types ++ d ∷ []) q ≡ option_or (type_from n types q) (last_one q d k)
type_behind n [] d q k e = let f : n ≡ k = omega arith in ap (last_one q d) f
type_behind n (x ∷ types) d q k e = one_before (same q.«module» x.«module» && same q.object x.name) n (type_from (suc n) (types ++ d ∷ []) q) (type_from (suc n) types q) (last_one q d k) (type_behind (suc n) types d q k (omega arith))

pub indexed_more : (old new : Modules) (types : List Descriptor) (d : Descriptor) → IsIndexed old types → Notes old new (name_of d) (length types) → IsIndexed new (types ++ d ∷ [])
indexed_more old new types d is notes q = notes q ∙ ap (λ o. option_or o (last_one q d (length types))) (is q) ∙ sym (type_behind 0 types d q (length types) (omega arith))

pub names_more : (types : List Descriptor) (d : Descriptor) → map name_of (types ++ d ∷ []) ≡ map name_of types ++ name_of d ∷ []
names_more [] d = refl
names_more (x ∷ types) d = ap (λ l. name_of x ∷ l) (names_more types d)

-- ONE TYPE LESS

cut_back : (k : ℕ) (o : Option ℕ) → Below k o → without k (option_or o (Some k)) ≡ o
cut_back k None below = this_one k
cut_back k (Some n) below = another k n (λ e. omega arith)

indexed_front : (old new : Modules) (types : List Descriptor) (d : Descriptor) → IsIndexed old (types ++ d ∷ []) → Forgets old new (name_of d) (length types) → IsIndexed new types
indexed_front old new types d is forgets q = go (same_type q (name_of d)) (forgets q) (is q ∙ type_behind 0 types d q (length types) (omega arith))
  where
    below : Below (length types) (type_from 0 types q)
    below = let e : 0 + length types ≡ length types = omega arith in subst (λ n. Below n (type_from 0 types q)) e (type_below 0 types q)

    go : (b : Bool) → number_of new q ≡ (if b then without (length types) (number_of old q) else number_of old q) → number_of old q ≡ option_or (type_from 0 types q) (if b then Some (length types) else None) → number_of new q ≡ type_from 0 types q
    go true e f = e ∙ ap (without (length types)) f ∙ cut_back (length types) (type_from 0 types q) below
    go false e f = e ∙ f ∙ none_else (type_from 0 types q)

-- the last one of a list
record Ending (k : ℕ) (types : List Descriptor) (x : QName) : Type 0 where
  last : Descriptor
  whole : types ≡ take k types ++ last ∷ []
  name : get_or (map name_of types) k x ≡ name_of last

ending : (k : ℕ) (types : List Descriptor) (x : QName) → length types ≡ suc k → Ending k types x
ending k [] x e = absurd (omega arith)
ending zero (d ∷ []) x e = record { last = d; whole = refl; name = refl }
ending zero (d ∷ y ∷ types) x e = absurd (omega arith)
ending (suc k) (d ∷ types) x e = let r = ending k types x (omega arith) in record { last = r.last; whole = ap (λ l. d ∷ l) r.whole; name = r.name }

length_front : (k : ℕ) (types : List Descriptor) → k ≤ length types → length (take k types) ≡ k
length_front zero types le = refl
length_front (suc k) [] le = absurd (omega arith)
length_front (suc k) (d ∷ types) le = ap suc (length_front k types (omega arith))

pub indexed_less : (old new : Modules) (types : List Descriptor) (k : ℕ) (x : QName) → length types ≡ suc k → x ≡ get_or (map name_of types) k x → IsIndexed old types → Forgets old new x k → IsIndexed new (take k types)
indexed_less old new types k x e at is forgets =
    let r = ending k types x e in
    let n : length (take k types) ≡ k = length_front k types (omega arith) in
    let name : x ≡ name_of r.last = at ∙ r.name in
    indexed_front old new (take k types) r.last (subst (IsIndexed old) r.whole is) (subst (λ m. Forgets old new (name_of r.last) m) (sym n) (subst (λ y. Forgets old new y k) name forgets))
