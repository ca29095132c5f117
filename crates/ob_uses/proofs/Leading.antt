-- Names that are added part by part.
use Rattle.std.proofs.Common.{◌≡◌, ◌<◌, ◌≤◌, ℕ, ◌+◌, Bool, true, false, cond, List, [], ◌∷◌, ◌++◌, length, drop, get_or, append_assoc, append-nil, map, refl, sym, ap, ◌∙◌}
use Rattle.std.specs.List.{filter, flat_map}
use Rattle.std.proofs.lemmas.List.{drop_more, drop_all}
use Rattle.ob_tree.specs.declared.names.QName.{QName}
use Rattle.ob_types.specs.declared.types.TypeRef.{TypeRef}
use Rattle.ob_types.specs.declared.types.TypeRef.TheVariants as ref
use Rattle.ob_types.specs.declared.types.Mode.{Mode}
use Rattle.ob_types.specs.declared.desc.Field.{Field}
use Rattle.ob_types.specs.declared.desc.Method.{Method}
use Rattle.ob_types.specs.Maps.{signature_types}
use Rattle.ob_desc.specs.Grammar.{is_shown}
use Rattle.ob_uses_roots.specs.Noted.{names_of}
use Rattle.ob_uses.specs.Ways.{is_of, type_names}

names_join : (ts us : List TypeRef) → names_of (ts ++ us) ≡ names_of ts ++ names_of us
names_join [] us = refl
names_join (ref.Basic b ∷ ts) us = names_join ts us
names_join (ref.Named q ∷ ts) us = ap (λ l. q ∷ l) (names_join ts us)

pub filter_join : {X : Type 0} (p : X → Bool) (xs ys : List X) → filter p (xs ++ ys) ≡ filter p xs ++ filter p ys
filter_join p [] ys = refl
filter_join p (x ∷ xs) ys = elim (p x) as (λ b. cond b (x ∷ filter p (xs ++ ys)) (filter p (xs ++ ys)) ≡ cond b (x ∷ filter p xs) (filter p xs) ++ filter p ys) [ true ↦ ap (λ l. x ∷ l) (filter_join p xs ys) | false ↦ filter_join p xs ys ]

pub type_names_join : (b : Bool) (m : List ℕ) (ts us : List TypeRef) → type_names b m (ts ++ us) ≡ type_names b m ts ++ type_names b m us
type_names_join true m ts us = ap (filter (is_of m)) (names_join ts us) ∙ filter_join (is_of m) (names_of ts) (names_of us)
type_names_join false m ts us = names_join ts us

-- two parts, one after the other
pub names_two : (b : Bool) (m : List ℕ) (ts us : List TypeRef) (v0 v1 v2 : List QName) → v1 ≡ v0 ++ type_names b m ts → v2 ≡ v1 ++ type_names b m us → v2 ≡ v0 ++ type_names b m (ts ++ us)
names_two b m ts us v0 v1 v2 h k =
    k ∙ ap (λ l. l ++ type_names b m us) h ∙ append_assoc v0 (type_names b m ts) (type_names b m us) ∙ ap (λ l. v0 ++ l) (sym (type_names_join b m ts us))

pub names_three : (b : Bool) (m : List ℕ) (ts us ws : List TypeRef) (v0 v1 v2 v3 : List QName) → v1 ≡ v0 ++ type_names b m ts → v2 ≡ v1 ++ type_names b m us → v3 ≡ v2 ++ type_names b m ws → v3 ≡ v0 ++ type_names b m ((ts ++ us) ++ ws)
names_three b m ts us ws v0 v1 v2 v3 h k l = names_two b m (ts ++ us) ws v0 v2 v3 (names_two b m ts us v0 v1 v2 h k) l

-- nothing is added
pub names_none : (b : Bool) (m : List ℕ) (v : List QName) → v ≡ v ++ type_names b m []
names_none true m v = sym (append-nil v)
names_none false m v = sym (append-nil v)

-- ---- a part for each item of a list, in a loop

pub turn : {X : Type 0} (b : Bool) (m : List ℕ) (F : List X → List TypeRef) → ((x : X) (xs : List X) → F (x ∷ xs) ≡ F (x ∷ []) ++ F xs) → (xs : List X) (i : ℕ) (x : X) (v0 v1 whole : List QName) → i < length xs → x ≡ get_or xs i x → v1 ≡ v0 ++ type_names b m (F (x ∷ [])) → v0 ++ type_names b m (F (drop i xs)) ≡ whole → v1 ++ type_names b m (F (drop (i + 1) xs)) ≡ whole
turn b m F cons xs i x v0 v1 whole lt is h inv =
    let y = get_or xs i x in
    let rest = drop (i + 1) xs in
    names_two b m (F (y ∷ [])) (F rest) v0 v1 (v1 ++ type_names b m (F rest)) (h ∙ ap (λ z. v0 ++ type_names b m (F (z ∷ []))) is) refl
    ∙ ap (λ l. v0 ++ type_names b m l) (sym (cons y rest) ∙ sym (ap F (drop_more xs i x lt))) ∙ inv

pub over : {X : Type 0} (b : Bool) (m : List ℕ) (F : List X → List TypeRef) → F [] ≡ [] → (xs : List X) (i : ℕ) (v0 whole : List QName) → length xs ≤ i → v0 ++ type_names b m (F (drop i xs)) ≡ whole → v0 ≡ whole
over b m F none xs i v0 whole past inv = names_none b m v0 ∙ ap (λ l. v0 ++ type_names b m l) (sym (ap F (drop_all i xs past) ∙ none)) ∙ inv

-- ---- the parts

pub params_cons : (x : Mode × TypeRef) (xs : List (Mode × TypeRef)) → map (λ p. p.1) (x ∷ xs) ≡ map (λ p. p.1) (x ∷ []) ++ map (λ p. p.1) xs
params_cons x xs = refl

pub fields_cons : (x : Field) (xs : List Field) → map (λ f. f.of) (x ∷ xs) ≡ map (λ f. f.of) (x ∷ []) ++ map (λ f. f.of) xs
fields_cons x xs = refl

pub map_join : {X Y : Type 0} (f : X → Y) (xs ys : List X) → map f (xs ++ ys) ≡ map f xs ++ map f ys
map_join f [] ys = refl
map_join f (x ∷ xs) ys = ap (λ l. f x ∷ l) (map_join f xs ys)

pub flat_join : {X Y : Type 0} (f : X → List Y) (xs ys : List X) → flat_map f (xs ++ ys) ≡ flat_map f xs ++ flat_map f ys
flat_join f [] ys = refl
flat_join f (x ∷ xs) ys = ap (λ l. f x ++ l) (flat_join f xs ys) ∙ sym (append_assoc (f x) (flat_map f xs) (flat_map f ys))

pub shown_fields_cons : (x : Field) (xs : List Field) → map (λ f. f.of) (filter (λ f. is_shown f.mark) (x ∷ xs)) ≡ map (λ f. f.of) (filter (λ f. is_shown f.mark) (x ∷ [])) ++ map (λ f. f.of) (filter (λ f. is_shown f.mark) xs)
shown_fields_cons x xs = ap (map (λ f. f.of)) (filter_join (λ (f : Field). is_shown f.mark) (x ∷ []) xs) ∙ map_join (λ (f : Field). f.of) (filter (λ f. is_shown f.mark) (x ∷ [])) (filter (λ f. is_shown f.mark) xs)

pub shown_methods_cons : (x : Method) (xs : List Method) → flat_map (λ p. signature_types p.signature) (filter (λ p. is_shown p.mark) (x ∷ xs)) ≡ flat_map (λ p. signature_types p.signature) (filter (λ p. is_shown p.mark) (x ∷ [])) ++ flat_map (λ p. signature_types p.signature) (filter (λ p. is_shown p.mark) xs)
shown_methods_cons x xs = ap (flat_map (λ p. signature_types p.signature)) (filter_join (λ (p : Method). is_shown p.mark) (x ∷ []) xs) ∙ flat_join (λ (p : Method). signature_types p.signature) (filter (λ p. is_shown p.mark) (x ∷ [])) (filter (λ p. is_shown p.mark) xs)

-- of one shown bound procedure
pub one_method : (b : Bool) (m : List ℕ) (x : Method) (v0 v1 : List QName) → v1 ≡ v0 ++ type_names b m (signature_types x.signature) → v1 ≡ v0 ++ type_names b m (flat_map (λ p. signature_types p.signature) (x ∷ []))
one_method b m x v0 v1 h = h ∙ ap (λ l. v0 ++ type_names b m l) (sym (append-nil (signature_types x.signature)))
