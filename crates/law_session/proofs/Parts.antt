-- The parts of answers, and those that are the same in another kind of worlds.
use Rattle.std.proofs.Common.{◌≡◌, ℕ, List, [], ◌∷◌, ◌++◌, false, length, take, drop, refl, sym, ap, ◌∙◌, append_assoc, arith}
use Rattle.std.specs.Prelude.{zero, suc, map}
use Rattle.ob_link.specs.Files.{Files}
use Rattle.ob_shell_reports.specs.Texts.{made_text}
use Rattle.ob_shell_model.specs.Folds.{Part, Answer, part, printed_by, made_by}
use Rattle.ob_shell_model.specs.Session.{PartsCut, first_part, part_at, changes_up_to}
use Rattle.law_session.specs.Agreeing.{part_as}

pub map_append : {A B : Type 0} (f : A → B) (xs ys : List A) → map f (xs ++ ys) ≡ map f xs ++ map f ys
map_append f [] ys = refl
map_append f (x ∷ xs) ys = ap (λ r. f x ∷ r) (map_append f xs ys)

map_take : {A B : Type 0} (f : A → B) (n : ℕ) (xs : List A) → take n (map f xs) ≡ map f (take n xs)
map_take f zero [] = refl
map_take f (suc n) [] = refl
map_take f zero (x ∷ xs) = refl
map_take f (suc n) (x ∷ xs) = ap (λ r. f x ∷ r) (map_take f n xs)

map_drop : {A B : Type 0} (f : A → B) (n : ℕ) (xs : List A) → drop n (map f xs) ≡ map f (drop n xs)
map_drop f zero [] = refl
map_drop f (suc n) [] = refl
map_drop f zero (x ∷ xs) = refl
map_drop f (suc n) (x ∷ xs) = map_drop f n xs

pub map_length : {A B : Type 0} (f : A → B) (xs : List A) → length (map f xs) ≡ length xs
map_length f [] = refl
map_length f (x ∷ xs) = let e = map_length f xs in omega (arith, e)

-- ---- what parts behind parts print and make

pub printed_append : {C : Type 0} (ps qs : List (Part C)) → printed_by (ps ++ qs) ≡ printed_by ps ++ printed_by qs
printed_append [] qs = refl
printed_append (p ∷ ps) qs = ap (λ t. p.text ++ t) (printed_append ps qs) ∙ sym (append_assoc p.text (printed_by ps) (printed_by qs))

pub made_append : {C : Type 0} (ps qs : List (Part C)) → made_by (ps ++ qs) ≡ made_by ps ++ made_by qs
made_append [] qs = refl
made_append (p ∷ ps) qs = ap (λ t. p.changes ++ t) (made_append ps qs) ∙ sym (append_assoc p.changes (made_by ps) (made_by qs))

-- the end of a make behind so many compiles
abbrev pub at_end : {W C : Type 0} → List ℕ → ℕ → W → Answer W C
at_end m n w = record { world = w; parts = part [] (made_text m n); refused = false }

-- ---- the same parts

module _ {C D : Type 0} (f : D → C) where
  pub printed_same : (ps : List (Part D)) → printed_by (map (part_as f) ps) ≡ printed_by ps
  printed_same [] = refl
  printed_same (p ∷ ps) = ap (λ t. p.text ++ t) (printed_same ps)

  pub made_same : (ps : List (Part D)) → made_by (map (part_as f) ps) ≡ map f (made_by ps)
  made_same [] = refl
  made_same (p ∷ ps) = ap (λ t. map f p.changes ++ t) (made_same ps) ∙ sym (map_append f p.changes (made_by ps))

  first_same : (ps : List (Part D)) → first_part (map (part_as f) ps) ≡ part_as f (first_part ps)
  first_same [] = refl
  first_same (p ∷ ps) = refl

  part_same : (k : ℕ) (ps : List (Part D)) → part_at k (map (part_as f) ps) ≡ part_as f (part_at k ps)
  part_same k ps = ap first_part (map_drop (part_as f) k ps) ∙ first_same (drop k ps)

  up_to_same : (ps : List (Part D)) (k made : ℕ) → changes_up_to (map (part_as f) ps) k made ≡ map f (changes_up_to ps k made)
  up_to_same ps k made =
      let qs = map (part_as f) ps in
      ap (λ x. made_by x ++ take made (part_at k qs).changes) (map_take (part_as f) k ps)
      ∙ ap (λ x. x ++ take made (part_at k qs).changes) (made_same (take k ps))
      ∙ ap (λ (p : Part C). map f (made_by (take k ps)) ++ take made p.changes) (part_same k ps)
      ∙ ap (λ x. map f (made_by (take k ps)) ++ x) (map_take f made (part_at k ps).changes)
      ∙ sym (map_append f (made_by (take k ps)) (take made (part_at k ps).changes))

  -- parts that are the same are cut alike
  pub parts_cut : (ps : List (Part C)) (qs : List (Part D)) → ps ≡ map (part_as f) qs →
      (one : List C → Files) (two : List D → Files) → ((ds : List D) → one (map f ds) ≡ two ds) →
      (before behind now : List ℕ) → before ≡ behind → (new : Files) (status : ℕ) → PartsCut ps one before now new status → PartsCut qs two behind now new status
  parts_cut ps qs e one two make before behind now b new status c =
      let part : part_at c.whole ps ≡ part_as f (part_at c.whole qs) = ap (part_at c.whole) e ∙ part_same c.whole qs in
      record {
        whole = c.whole;
        piece = c.piece;
        left = c.left;
        made = c.made;
        written = c.written ∙ ap (λ x. x ++ (printed_by (take c.whole ps) ++ c.piece)) b ∙ ap (λ x. behind ++ (printed_by (take c.whole x) ++ c.piece)) e
            ∙ ap (λ x. behind ++ (printed_by x ++ c.piece)) (map_take (part_as f) c.whole qs) ∙ ap (λ x. behind ++ (x ++ c.piece)) (printed_same (take c.whole qs));
        front = sym (ap (λ (p : Part C). p.text) part) ∙ c.front;
        files = c.files ∙ ap (λ x. one (changes_up_to x c.whole c.made)) e ∙ ap one (up_to_same qs c.whole c.made) ∙ make (changes_up_to qs c.whole c.made);
        sink = λ z. let h = c.sink z in let k = ap (λ (p : Part C). length p.changes) part ∙ map_length f (part_at c.whole qs).changes in omega (arith, h, k);
        memory = λ z. let h = c.memory z in let k = ap length e ∙ map_length (part_as f) qs in let l = h.2 in (h.0, h.1, omega (arith, l, k));
        folder = c.folder;
        read = c.read;
      }

-- ---- a front of the changes of parts is a front of all changes

no_part : {C : Type 0} (k made : ℕ) → changes_up_to {C = C} [] k made ≡ []
no_part zero zero = refl
no_part zero (suc made) = refl
no_part (suc k) zero = refl
no_part (suc k) (suc made) = refl

take_none : {A : Type 0} (xs : List A) → take 0 xs ≡ []
take_none [] = refl
take_none (x ∷ xs) = refl

-- a front of some elements behind others
pub front_behind : {A : Type 0} (p y x : List A) (k : ℕ) → take k y ≡ x → (j : ℕ) × (take j (p ++ y) ≡ p ++ x)
front_behind [] y x k e = (k, e)
front_behind (a ∷ p) y x k e = let r = front_behind p y x k e in (suc r.0, ap (λ t. a ∷ t) r.1)

-- a front of some elements with others behind them
front_before : {A : Type 0} (x y : List A) (k : ℕ) → (j : ℕ) × (take j (x ++ y) ≡ take k x)
front_before [] y zero = (0, take_none y)
front_before [] y (suc k) = (0, take_none y)
front_before (a ∷ x) y zero = (0, refl)
front_before (a ∷ x) y (suc k) = let r = front_before x y k in (suc r.0, ap (λ t. a ∷ t) r.1)

pub parts_front : {C : Type 0} (ps : List (Part C)) (y : List C) (k made : ℕ) → (j : ℕ) × (take j (made_by ps ++ y) ≡ changes_up_to ps k made)
parts_front [] y k made = (0, take_none y ∙ sym (no_part k made))
parts_front (p ∷ ps) y zero made =
    let r = front_before p.changes (made_by ps ++ y) made in
    (r.0, ap (take r.0) (append_assoc p.changes (made_by ps) y) ∙ r.1)
parts_front (p ∷ ps) y (suc k) made =
    let r = parts_front ps y k made in
    let q = front_behind p.changes (made_by ps ++ y) (changes_up_to ps k made) r.0 r.1 in
    (q.0, ap (take q.0) (append_assoc p.changes (made_by ps) y) ∙ q.1 ∙ sym (append_assoc p.changes (made_by (take k ps)) (take made (part_at k ps).changes)))
