-- What is found by a name in lists with numbers, and in modules.
use Rattle.std.proofs.Common.{◌≡◌, ℕ, zero, suc, List, [], ◌∷◌, ◌++◌, length, map, refl, sym, ap, ◌∙◌, subst, append_assoc, Option, Some, None}
use Rattle.std.specs.Prelude.{Bool, true, false, bytes_eq, slice_get, IsSome, if◌then◌else◌}
use Rattle.std.specs.List.{AllByRecursion}
use Rattle.std.specs.declared.cmp.Ordering.{Ordering}
use Rattle.std.specs.declared.cmp.Ordering.TheVariants as order
use Rattle.std.proofs.lemmas.Option.{none-some}
use Rattle.std.proofs.lemmas.Map.Text.{is_eq-slice_cmp}
use Rattle.ob_instr.specs.Image.{ModuleImage}
use Rattle.ob_obj.specs.Images.{same, named, module_from, module_at}
use Rattle.ob_layout.specs.Lists.{put_before, put_in, in_order}
use Rattle.law_simulation_relation.proofs.Names.{bytes_same, bytes_true}
use Rattle.law_lists.proofs.Lists.{length_last}

pub same_is : (a b : List ℕ) → same a b ≡ bytes_eq a b
same_is a b = is_eq-slice_cmp a b

-- LISTS

pub all_at : {A : Type 0} (P : A → Type 0) (l : List A) (k : ℕ) (x : A) → AllByRecursion P l → slice_get l k ≡ Some x → P x
all_at P [] k x h e = absurd (none-some _ e)
all_at P (y ∷ l) zero x h e = subst P (inside y x e) h.0
  where
    inside : {A : Type 0} (a b : A) → Some a ≡ Some b → a ≡ b
    inside a b e = cc
all_at P (y ∷ l) (suc k) x h e = all_at P l k x h.1 e

pub map_at : {A B : Type 0} (g : A → B) (l : List A) (k : ℕ) (x : A) → slice_get l k ≡ Some x → slice_get (map g l) k ≡ Some (g x)
map_at g [] k x e = absurd (none-some _ e)
map_at g (y ∷ l) zero x e = inside y x e
  where
    inside : (a b : _) → Some a ≡ Some b → Some (g a) ≡ Some (g b)
    inside a b e = cc
map_at g (y ∷ l) (suc k) x e = map_at g l k x e

-- NUMBERS BY NAMES: each item has the number that a name stands for

module _ {A : Type 0} (name : A → List ℕ) (number : A → ℕ) (f : List ℕ → ℕ) where
  abbrev pub Numbered : List A → Type 0
  Numbered [] = Unit {0}
  Numbered (x ∷ xs) = (number x ≡ f (name x)) × Numbered xs

  put_numbered : (o : Ordering) (x y : A) (ys more : List A) → number x ≡ f (name x) → Numbered (y ∷ ys) → Numbered more → Numbered (put_before o x y ys more)
  put_numbered order.Less x y ys more e h m = (e, h)
  put_numbered order.Equal x y ys more e h m = h
  put_numbered order.Greater x y ys more e h m = (h.0, m)

  in_numbered : (R : A → A → Ordering) (x : A) (l : List A) → number x ≡ f (name x) → Numbered l → Numbered (put_in R x l)
  in_numbered R x [] e h = (e, tt)
  in_numbered R x (y ∷ l) e h = put_numbered (R x y) x y l (put_in R x l) e h (in_numbered R x l e h.1)

  pub order_numbered : (R : A → A → Ordering) (l : List A) → Numbered l → Numbered (in_order R l)
  order_numbered R [] h = tt
  order_numbered R (x ∷ l) h = in_numbered R x (in_order R l) h.0 (order_numbered R l h.1)

  abbrev pub entries : (ℕ → ℕ) → List A → List (List ℕ × ℕ)
  entries g l = map (λ x. (name x, g (number x))) l

  -- what is found is that number
  pub named_is : (g : ℕ → ℕ) (l : List A) (x : List ℕ) → Numbered l → IsSome (named (entries g l) x) → named (entries g l) x ≡ Some (g (f x))
  named_is g [] x h s = absurd (cc)
  named_is g (y ∷ l) x h s = go (same x (name y)) refl s (λ t. named_is g l x h.1 t)
    where
      go : (b : Bool) → same x (name y) ≡ b → IsSome (if b then Some (g (number y)) else named (entries g l) x) → (IsSome (named (entries g l) x) → named (entries g l) x ≡ Some (g (f x))) → (if b then Some (g (number y)) else named (entries g l) x) ≡ Some (g (f x))
      go true e s more = ap (λ n. Some (g n)) (h.0 ∙ ap f (sym (bytes_true x (name y) (sym (same_is x (name y)) ∙ e))))
      go false e s more = more s

-- MODULES BY NAMES

abbrev pub find : List ModuleImage → List ℕ → Option ModuleImage
find [] name = None
find (u ∷ us) name = if same name u.name then Some u else find us name

pub item_at : {A : Type 0} (front : List A) (x : A) (back : List A) → slice_get (front ++ x ∷ back) (length front) ≡ Some x
item_at [] x back = refl
item_at (y ∷ front) x back = item_at front x back

found_from : (front us : List ModuleImage) (name : List ℕ) → module_at (front ++ us) (module_from (length front) us name) ≡ find us name
found_from front [] name = refl
found_from front (u ∷ us) name =
    let more : module_at (front ++ u ∷ us) (module_from (suc (length front)) us name) ≡ find us name = subst (λ l. module_at l (module_from (suc (length front)) us name) ≡ find us name) (append_assoc front (u ∷ []) us) (subst (λ n. module_at ((front ++ u ∷ []) ++ us) (module_from n us name) ≡ find us name) (length_last front u) (found_from (front ++ u ∷ []) us name)) in
    go (same name u.name) more
  where
    go : (b : Bool) → module_at (front ++ u ∷ us) (module_from (suc (length front)) us name) ≡ find us name → module_at (front ++ u ∷ us) (if b then Some (length front) else module_from (suc (length front)) us name) ≡ (if b then Some u else find us name)
    go true h = item_at front u us
    go false h = h

pub found : (us : List ModuleImage) (name : List ℕ) → module_at us (module_from 0 us name) ≡ find us name
found us name = found_from [] us name

-- one more module

pub none_in_front : (n : ℕ) (us vs : List ModuleImage) (name : List ℕ) → module_from n (us ++ vs) name ≡ None → module_from n us name ≡ None
none_in_front n [] vs name e = refl
none_in_front n (u ∷ us) vs name e = go (same name u.name) e (λ f. none_in_front (suc n) us vs name f)
  where
    go : (b : Bool) → (if b then Some n else module_from (suc n) (us ++ vs) name) ≡ None → (module_from (suc n) (us ++ vs) name ≡ None → module_from (suc n) us name ≡ None) → (if b then Some n else module_from (suc n) us name) ≡ None
    go true e more = e
    go false e more = more e

pub none_at_last : (n : ℕ) (us : List ModuleImage) (u : ModuleImage) (name : List ℕ) → module_from n (us ++ u ∷ []) name ≡ None → bytes_eq name u.name ≡ false
none_at_last n [] u name e = sym (same_is name u.name) ∙ go (same name u.name) e
  where
    go : (b : Bool) → (if b then Some n else None) ≡ None → b ≡ false
    go true e = absurd (none-some _ (sym e))
    go false e = refl
none_at_last n (v ∷ us) u name e = go (same name v.name) e (λ f. none_at_last (suc n) us u name f)
  where
    go : (b : Bool) → (if b then Some n else module_from (suc n) (us ++ u ∷ []) name) ≡ None → (module_from (suc n) (us ++ u ∷ []) name ≡ None → bytes_eq name u.name ≡ false) → bytes_eq name u.name ≡ false
    go true e more = absurd (none-some _ (sym e))
    go false e more = more e

-- a module of the name is there
abbrev pub IsAmong : List ModuleImage → List ℕ → Type 0
IsAmong us name = (n : ℕ) → module_from n us name ≡ None → ⊥

pub among_last : (us : List ModuleImage) (u : ModuleImage) → IsAmong (us ++ u ∷ []) u.name
among_last us u n e = absurd (differ (sym (same_name) ∙ none_at_last n us u u.name e))
  where
    same_name : bytes_eq u.name u.name ≡ true
    same_name = bytes_same u.name

    differ : true ≡ false → ⊥
    differ e = cc

pub among_more : (us vs : List ModuleImage) (name : List ℕ) → IsAmong us name → IsAmong (us ++ vs) name
among_more us vs name h n e = h n (none_in_front n us vs name e)
