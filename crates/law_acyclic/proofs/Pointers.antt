-- Pointers that were left, where nothing is broken: each has the name of one whose base is no wrong one.
use Rattle.std.proofs.Common.{◌≡◌, ◌⊎◌, ⊎_elim, inl, inr, refl, sym, ap, ◌∙◌, ℕ, zero, suc, Bool, true, false, List, [], ◌∷◌, length, Option, Some, None, cond}
use Rattle.std.specs.Prelude.{bytes_eq, not, ◌&&◌, ◌||◌, ◌==◌}
use Rattle.std.specs.List.{AllByRecursion, find, filter}
use Rattle.ob_rules.specs.declared.notes.Later.{Later}
use Rattle.ob_rules.specs.declared.notes.Later.TheVariants as later
use Rattle.ob_rules.specs.Judged.{no_notes}
use Rattle.ob_rules.specs.Names.{Around, map_of, is_among}
use Rattle.ob_rules.specs.Declarations.{Pointers, pointer_name, base_name, is_inline, is_wrong, notes_of_wrong, comes_back, add_if, is_told, ring_left, pointer_judged, judge_base, judge_unless, judge_pointer, judge_pointers, is_pointer_left, pointers_judged}
use Rattle.law_simulation_relation.proofs.Names.{bytes_same, bytes_true}
use Rattle.law_typing_forms.specs.Said.{IsOneOf}
use Rattle.law_names_procedures.proofs.Judges.{not_empty}
use Rattle.law_body_context.proofs.Lists.{one_all}
use Rattle.law_lists.proofs.Lists.{back_empty, front_empty}

abbrev IsPointer : Later → Type 0
IsPointer l = is_pointer_left l ≡ true

filter_all : (ls : List Later) → AllByRecursion IsPointer (filter is_pointer_left ls)
filter_all [] = tt
filter_all (later.PointsTo x at t inline ∷ ls) = (refl, filter_all ls)
filter_all (later.Inherits x t ∷ ls) = filter_all ls

filter_there : (ls : List Later) (l : Later) → IsOneOf ls l → IsPointer l → IsOneOf (filter is_pointer_left ls) l
filter_there [] l i p = absurd i
filter_there (later.PointsTo x at t inline ∷ ls) l (inl e) p = inl e
filter_there (later.PointsTo x at t inline ∷ ls) l (inr i) p = inr (filter_there ls l i p)
filter_there (later.Inherits x t ∷ ls) l (inl e) p = let bad : false ≡ true = ap is_pointer_left e ∙ p in absurd cc
filter_there (later.Inherits x t ∷ ls) l (inr i) p = filter_there ls l i p

filter_back : (ls : List Later) (l : Later) → IsOneOf (filter is_pointer_left ls) l → IsOneOf ls l
filter_back [] l i = i
filter_back (later.PointsTo x at t inline ∷ ls) l (inl e) = inl e
filter_back (later.PointsTo x at t inline ∷ ls) l (inr i) = inr (filter_back ls l i)
filter_back (later.Inherits x t ∷ ls) l i = inr (filter_back ls l i)

find_there : (f : Later → Bool) (ls : List Later) (l : Later) → find f ls ≡ Some l → IsOneOf ls l
find_there f [] l e = absurd cc
find_there f (k ∷ ls) l e = by (f k) e (λ i. find_there f ls l i)
  where
    by : (b : Bool) → cond b (Some k) (find f ls) ≡ Some l → (find f ls ≡ Some l → IsOneOf ls l) → IsOneOf (k ∷ ls) l
    by true e r = inl (let h : k ≡ l = cc in h)
    by false e r = inr (r e)

among_first : (x y : List ℕ) (ys : List (List ℕ)) → is_among x (y ∷ ys) ≡ true → (y ≡ x) ⊎ (is_among x ys ≡ true)
among_first x y ys e = by (bytes_eq y x) refl e
  where
    by : (b : Bool) → bytes_eq y x ≡ b → (b || is_among x ys) ≡ true → (y ≡ x) ⊎ (is_among x ys ≡ true)
    by true f e = inl (bytes_true y x f)
    by false f e = inr e

among_same : (x : List ℕ) (ys : List (List ℕ)) → is_among x (x ∷ ys) ≡ true
among_same x ys = ap (λ b. b || is_among x ys) (bytes_same x)

among_more : (x y : List ℕ) (ys : List (List ℕ)) → is_among x ys ≡ true → is_among x (y ∷ ys) ≡ true
among_more x y ys e = by (bytes_eq y x)
  where
    by : (b : Bool) → (b || is_among x ys) ≡ true
    by true = refl
    by false = e

module _ (u : Around) (all : List Later) (pointers : AllByRecursion IsPointer all) where
  -- one of that name whose base is no wrong one
  pub record IsRight (x : List ℕ) : Type 0 where
    pub l : Later
    pub there : IsOneOf all l
    pub name : pointer_name l ≡ x
    pub right : is_wrong (map_of u) l ≡ false

  -- nothing was told of so far
  record IsQuiet (s : Pointers) : Type 0 where
    pub unsound : s.unsound ≡ []
    pub rings : s.rings ≡ []

  -- From s to r, where nothing is told of up to r: nothing was up to s; and what is judged more is right.
  record Goes (s r : Pointers) : Type 0 where
    pub broken : r.notes.broken ≡ [] → s.notes.broken ≡ []
    pub quiet : r.notes.broken ≡ [] → IsQuiet s → IsQuiet r
    pub right : r.notes.broken ≡ [] → IsQuiet s → (x : List ℕ) → is_among x r.judged ≡ true → (is_among x s.judged ≡ true) ⊎ IsRight x
    pub more : (x : List ℕ) → is_among x s.judged ≡ true → is_among x r.judged ≡ true

  goes_same : (s : Pointers) → Goes s s
  goes_same s = record { broken = λ e. e; quiet = λ e q. q; right = λ e q x h. inl h; more = λ x h. h }

  goes_then : (a b c : Pointers) → Goes a b → Goes b c → Goes a c
  goes_then a b c f g = record {
    broken = λ e. f.broken (g.broken e);
    quiet = λ e q. g.quiet e (f.quiet (g.broken e) q);
    right = λ e q x h. ⊎_elim (λ i. f.right (g.broken e) q x i) (λ i. inr i) (g.right e (f.quiet (g.broken e) q) x h);
    more = λ x h. g.more x (f.more x h);
  }

  wrong_noted : (told : Bool) (l : Later) → IsPointer l → (notes_of_wrong told l).broken ≡ [] → told ≡ false
  wrong_noted true (later.PointsTo x at t inline) p e = not_empty _ [] e
  wrong_noted true (later.Inherits x t) p e = absurd cc
  wrong_noted false l p e = refl

  -- what is not told of, where nothing is unsound and in no ring, is right
  not_told : (w c : Bool) (xs : List (List ℕ)) → xs ≡ [] → (w && not false && (c || length xs == 0)) ≡ false → w ≡ false
  not_told true true xs e f = absurd cc
  not_told true false xs e f = let g : (length xs == 0) ≡ true = ap (λ ys. length ys == 0) e in absurd cc
  not_told false c xs e f = refl

  -- one pointer behind its base
  judged_goes : (l : Later) → IsOneOf all l → IsPointer l → (s v : Pointers) → Goes (record s { judged = pointer_name l ∷ s.judged }) v → Goes s (pointer_judged u l v)
  judged_goes l i p s v g =
      let w = is_wrong (map_of u) l in
      let un = is_among (base_name u l) v.unsound in
      let back = comes_back (base_name u l) v in
      let told = is_told w un back v in
      let quiet_v : (pointer_judged u l v).notes.broken ≡ [] → v.notes.broken ≡ [] = λ e. front_empty v.notes.broken (notes_of_wrong told l).broken e in
      let no : (pointer_judged u l v).notes.broken ≡ [] → told ≡ false = λ e. wrong_noted told l p (back_empty v.notes.broken (notes_of_wrong told l).broken e) in
      let free : v.unsound ≡ [] → un ≡ false = λ q. ap (λ xs. is_among (base_name u l) xs) q in
      record {
        broken = λ e. g.broken (quiet_v e);
        quiet = λ e q. let k = g.quiet (quiet_v e) (record { unsound = q.unsound; rings = q.rings }) in record {
          unsound = ap (λ b. add_if (b || (un && is_inline l)) (pointer_name l) v.unsound) (no e) ∙ ap (λ b. add_if (b && is_inline l) (pointer_name l) v.unsound) (free k.unsound) ∙ k.unsound;
          rings = ap (λ b. ring_left (is_among (pointer_name l) (add_if (b && back) (base_name u l) v.rings)) (add_if (b && back) (base_name u l) v.rings)) (no e) ∙ ap (λ xs. ring_left (is_among (pointer_name l) xs) xs) k.rings;
        };
        right = λ e q x h.
            let k = g.quiet (quiet_v e) (record { unsound = q.unsound; rings = q.rings }) in
            let r : w ≡ false = not_told w back v.rings k.rings (ap (λ b. w && not b && (back || length v.rings == 0)) (sym (free k.unsound)) ∙ no e) in
            ⊎_elim (λ j. ⊎_elim (λ y. inr (record { l = l; there = i; name = y; right = r })) (λ y. inl y) (among_first x (pointer_name l) s.judged j)) (λ j. inr j) (g.right (quiet_v e) (record { unsound = q.unsound; rings = q.rings }) x h);
        more = λ x h. g.more x (among_more x (pointer_name l) s.judged h);
      }

  base_goes : (o : Option Later) (s : Pointers) (f : Later → Pointers → Pointers) → ((l : Later) → o ≡ Some l → Goes s (f l s)) → Goes s (judge_base o s f)
  base_goes None s f h = goes_same s
  base_goes (Some l) s f h = h l refl

  pointer_goes : (n : ℕ) (l : Later) → IsOneOf all l → (s : Pointers) → Goes s (judge_pointer u all n l s)
  pointer_goes zero l i s = goes_same s
  pointer_goes (suc n) l i s = by (is_among (pointer_name l) s.judged) (λ k j t. pointer_goes n k j t)
    where
      by : (b : Bool) → ((k : Later) → IsOneOf all k → (t : Pointers) → Goes t (judge_pointer u all n k t)) → Goes s (judge_unless b s (λ t. pointer_judged u l (judge_base (find (λ k. bytes_eq (pointer_name k) (base_name u l)) all) t (λ k v. judge_pointer u all n k v))) (pointer_name l))
      by true r = goes_same s
      by false r =
          let t : Pointers = record s { judged = pointer_name l ∷ s.judged } in
          let f = find (λ k. bytes_eq (pointer_name k) (base_name u l)) all in
          judged_goes l i (one_all IsPointer all l pointers i) s (judge_base f t (λ k v. judge_pointer u all n k v)) (base_goes f t (λ k v. judge_pointer u all n k v) (λ k e. r k (find_there (λ k. bytes_eq (pointer_name k) (base_name u l)) all k e) t))

  -- it is judged
  pointer_there : (n : ℕ) (l : Later) → IsOneOf all l → (s : Pointers) → is_among (pointer_name l) (judge_pointer u all (suc n) l s).judged ≡ true
  pointer_there n l i s = by (is_among (pointer_name l) s.judged) refl
    where
      by : (b : Bool) → is_among (pointer_name l) s.judged ≡ b → is_among (pointer_name l) (judge_unless b s (λ t. pointer_judged u l (judge_base (find (λ k. bytes_eq (pointer_name k) (base_name u l)) all) t (λ k v. judge_pointer u all n k v))) (pointer_name l)).judged ≡ true
      by true e = e
      by false e =
          let t : Pointers = record s { judged = pointer_name l ∷ s.judged } in
          let f = find (λ k. bytes_eq (pointer_name k) (base_name u l)) all in
          (base_goes f t (λ k v. judge_pointer u all n k v) (λ k e. pointer_goes n k (find_there (λ k. bytes_eq (pointer_name k) (base_name u l)) all k e) t)).more (pointer_name l) (among_same (pointer_name l) s.judged)

  abbrev IsJudged : Pointers → Later → Type 0
  IsJudged s l = is_among (pointer_name l) s.judged ≡ true

  list_goes : (ls : List Later) → ((l : Later) → IsOneOf ls l → IsOneOf all l) → (s : Pointers) → Goes s (judge_pointers u all ls s) × AllByRecursion (IsJudged (judge_pointers u all ls s)) ls
  list_goes [] h s = (goes_same s, tt)
  list_goes (l ∷ ls) h s =
      let t = judge_pointer u all (suc (length all)) l s in
      let r = list_goes ls (λ k i. h k (inr i)) t in
      (goes_then s t (judge_pointers u all ls t) (pointer_goes (suc (length all)) l (h l (inl refl)) s) r.0, (r.0.more (pointer_name l) (pointer_there (length all) l (h l (inl refl)) s), r.1))

  abbrev nothing : Pointers
  nothing = record { judged = []; unsound = []; through = []; rings = []; notes = no_notes }

  each_right : (judge_pointers u all all nothing).notes.broken ≡ [] → (l : Later) → IsOneOf all l → IsRight (pointer_name l)
  each_right e l i =
      let r = list_goes all (λ k j. j) nothing in
      let j : is_among (pointer_name l) (judge_pointers u all all nothing).judged ≡ true = one_all (IsJudged (judge_pointers u all all nothing)) all l r.1 i in
      ⊎_elim (λ h. let bad : false ≡ true = h in absurd cc) (λ h. h) (r.0.right e (record { unsound = refl; rings = refl }) (pointer_name l) j)

-- one of these of that name whose base is no wrong one
pub record HasRight (u : Around) (ls : List Later) (x : List ℕ) : Type 0 where
  pub l : Later
  pub there : IsOneOf ls l
  pub pointer : is_pointer_left l ≡ true
  pub name : pointer_name l ≡ x
  pub right : is_wrong (map_of u) l ≡ false

pub pointers_right : (u : Around) (ls : List Later) → (pointers_judged u ls).broken ≡ [] → (l : Later) → IsOneOf ls l → is_pointer_left l ≡ true → HasRight u ls (pointer_name l)
pointers_right u ls e l i p =
    let all = filter is_pointer_left ls in
    let a = filter_all ls in
    let r = each_right u all a e l (filter_there ls l i p) in
    record { l = r.l; there = filter_back ls r.l r.there; pointer = one_all IsPointer all r.l a r.there; name = r.name; right = r.right }
