-- What is noted part by part.
use Rattle.std.proofs.Common.{◌≡◌, ◌<◌, ◌≤◌, ℕ, ◌+◌, List, [], ◌∷◌, ◌++◌, length, drop, get_or, append_assoc, append-nil, refl, sym, ap, ◌∙◌}
use Rattle.std.proofs.lemmas.List.{drop_more, drop_all, map-append}
use Rattle.ob_tree.specs.declared.names.QName.{QName}
use Rattle.ob_types.specs.declared.types.TypeRef.{TypeRef}
use Rattle.ob_types.specs.declared.types.TypeRef.TheVariants as ref
use Rattle.ob_uses_roots.specs.declared.noted.Noted.{Noted}
use Rattle.std.specs.List.{flat_map}
use Rattle.std.proofs.lemmas.List.Concat.{flat_map-cons}
use Rattle.ob_uses_roots.specs.Counts.{Count, Shapes, Layouts, shapes, both}
use Rattle.ob_uses_roots.specs.Noted.{names_of, shape_starts, layout_starts, noted}

names_two : (ts us : List TypeRef) → names_of (ts ++ us) ≡ names_of ts ++ names_of us
names_two [] us = refl
names_two (ref.Basic b ∷ ts) us = names_two ts us
names_two (ref.Named q ∷ ts) us = ap (λ l. q ∷ l) (names_two ts us)

shapes_two : (a b : List Count) → shape_starts (a ++ b) ≡ shape_starts a ++ shape_starts b
shapes_two [] b = refl
shapes_two (Shapes t ∷ a) b = ap (λ l. t ∷ l) (shapes_two a b)
shapes_two (Layouts t ∷ a) b = shapes_two a b

layouts_two : (a b : List Count) → layout_starts (a ++ b) ≡ layout_starts a ++ layout_starts b
layouts_two [] b = refl
layouts_two (Shapes t ∷ a) b = layouts_two a b
layouts_two (Layouts t ∷ a) b = ap (λ l. t ∷ l) (layouts_two a b)

joined : (f : List Count → List TypeRef) → ((a b : List Count) → f (a ++ b) ≡ f a ++ f b) → (s : List QName) (a b : List Count) → (s ++ names_of (f a)) ++ names_of (f b) ≡ s ++ names_of (f (a ++ b))
joined f two s a b = append_assoc s (names_of (f a)) (names_of (f b)) ∙ ap (λ l. s ++ l) (sym (names_two (f a) (f b)) ∙ ap names_of (sym (two a b)))

pub noted_two : (n : Noted) (a b : List Count) → noted (noted n a) b ≡ noted n (a ++ b)
unfolding noted
noted_two n a b =
    ap (λ (l : List QName). record { shapes = l; layouts = (n.layouts ++ names_of (layout_starts a)) ++ names_of (layout_starts b) }) (joined shape_starts shapes_two n.shapes a b)
    ∙ ap (λ (l : List QName). record { shapes = n.shapes ++ names_of (shape_starts (a ++ b)); layouts = l }) (joined layout_starts layouts_two n.layouts a b)

pub noted_none : (n : Noted) → noted n [] ≡ n
unfolding noted
noted_none n =
    ap (λ (l : List QName). record { shapes = l; layouts = n.layouts ++ [] }) (append-nil n.shapes)
    ∙ ap (λ (l : List QName). record { shapes = n.shapes; layouts = l }) (append-nil n.layouts)

-- nothing more counts
pub note_none : (n : Noted) → n ≡ noted n []
note_none n = sym (noted_none n)

-- two parts, one after the other
pub note_two : (n0 n1 n2 : Noted) (a b : List Count) → n1 ≡ noted n0 a → n2 ≡ noted n1 b → n2 ≡ noted n0 (a ++ b)
note_two n0 n1 n2 a b h k = k ∙ ap (λ n. noted n b) h ∙ noted_two n0 a b

pub note_three : (n0 n1 n2 n3 : Noted) (a b c : List Count) → n1 ≡ noted n0 a → n2 ≡ noted n1 b → n3 ≡ noted n2 c → n3 ≡ noted n0 ((a ++ b) ++ c)
note_three n0 n1 n2 n3 a b c h k l = note_two n0 n2 n3 (a ++ b) c (note_two n0 n1 n2 a b h k) l

pub note_four : (n0 n1 n2 n3 n4 : Noted) (a b c d : List Count) → n1 ≡ noted n0 a → n2 ≡ noted n1 b → n3 ≡ noted n2 c → n4 ≡ noted n3 d → n4 ≡ noted n0 (((a ++ b) ++ c) ++ d)
note_four n0 n1 n2 n3 n4 a b c d h k l m = note_two n0 n3 n4 ((a ++ b) ++ c) d (note_three n0 n1 n2 n3 a b c h k l) m

pub note_five : (n0 n1 n2 n3 n4 n5 : Noted) (a b c d e : List Count) → n1 ≡ noted n0 a → n2 ≡ noted n1 b → n3 ≡ noted n2 c → n4 ≡ noted n3 d → n5 ≡ noted n4 e → n5 ≡ noted n0 ((((a ++ b) ++ c) ++ d) ++ e)
note_five n0 n1 n2 n3 n4 n5 a b c d e h k l m o = note_two n0 n4 n5 (((a ++ b) ++ c) ++ d) e (note_four n0 n1 n2 n3 n4 a b c d h k l m) o

pub note_one_none : (n0 n1 : Noted) (a : List Count) → n1 ≡ noted n0 a → n1 ≡ noted n0 (a ++ [])
note_one_none n0 n1 a h = note_two n0 n1 n1 a [] h (note_none n1)

pub note_two_none : (n0 n1 n2 : Noted) (a b : List Count) → n1 ≡ noted n0 a → n2 ≡ noted n1 b → n2 ≡ noted n0 ((a ++ b) ++ [])
note_two_none n0 n1 n2 a b h k = note_one_none n0 n2 (a ++ b) (note_two n0 n1 n2 a b h k)

-- a first one, and more
pub note_first : (n0 n1 n2 : Noted) (c : Count) (b : List Count) → n1 ≡ noted n0 (c ∷ []) → n2 ≡ noted n1 b → n2 ≡ noted n0 (c ∷ b)
note_first n0 n1 n2 c b h k = note_two n0 n1 n2 (c ∷ []) b h k

pub note_all_types : (n0 n1 n2 : Noted) (ts us : List TypeRef) → n1 ≡ noted n0 (shapes ts) → n2 ≡ noted n1 (shapes us) → n2 ≡ noted n0 (shapes (ts ++ us))
note_all_types n0 n1 n2 ts us h k = note_two n0 n1 n2 (shapes ts) (shapes us) h k ∙ ap (noted n0) (sym (map-append Shapes ts us))

pub note_base_none : (n : Noted) → n ≡ noted n (flat_map both [])
note_base_none n = note_none n

pub note_base_some : (n0 n1 : Noted) (t : TypeRef) → n1 ≡ noted n0 (both t) → n1 ≡ noted n0 (flat_map both (t ∷ []))
note_base_some n0 n1 t h = h ∙ ap (noted n0) (sym (append-nil (both t)) ∙ sym (flat_map-cons both t []))

-- ---- a part for each item of a list, in a loop

pub turn : {X : Type 0} (f : X → List Count) (F : List X → List Count) → ((x : X) (xs : List X) → F (x ∷ xs) ≡ f x ++ F xs) → (xs : List X) (i : ℕ) (x : X) (n0 n1 whole : Noted) → i < length xs → x ≡ get_or xs i x → n1 ≡ noted n0 (f x) → noted n0 (F (drop i xs)) ≡ whole → noted n1 (F (drop (i + 1) xs)) ≡ whole
turn f F cons xs i x n0 n1 whole lt is h inv =
    let rest = F (drop (i + 1) xs) in
    ap (λ n. noted n rest) (h ∙ ap (λ y. noted n0 (f y)) is) ∙ noted_two n0 (f (get_or xs i x)) rest
    ∙ ap (noted n0) (sym (cons (get_or xs i x) (drop (i + 1) xs)) ∙ sym (ap F (drop_more xs i x lt))) ∙ inv

pub over : {X : Type 0} (F : List X → List Count) → F [] ≡ [] → (xs : List X) (i : ℕ) (n0 whole : Noted) → length xs ≤ i → noted n0 (F (drop i xs)) ≡ whole → n0 ≡ whole
over F none xs i n0 whole past inv = note_none n0 ∙ ap (noted n0) (sym (ap F (drop_all i xs past) ∙ none)) ∙ inv
