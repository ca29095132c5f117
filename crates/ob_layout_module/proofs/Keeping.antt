-- Words above the limit are kept as the next number.
use Rattle.std.proofs.Common.{◌≡◌, ℕ, ◌+◌, ◌*◌, ◌<◌, Bool, true, false, List, [], ◌∷◌, ◌++◌, suc, length, drop, get_or, refl, sym, ap, subst, ◌∙◌, arith}
use Rattle.std.proofs.lemmas.List.{drop_more}
use Rattle.std.specs.Prelude.{min, ◌&&◌}
use Rattle.ob_types.specs.declared.types.TypeRef.{TypeRef}
use Rattle.ob_types.specs.declared.desc.Field.{Field}
use Rattle.ob_layout.specs.LaidOut.{kept, placed, numbered}
use Rattle.ob_layout_module.specs.Placed.{placed_behind}
use Rattle.ob_types.specs.declared.desc.Method.{Method}

pub kept_plus : (a b : ℕ) → kept (kept a + kept b) ≡ kept (a + b)
kept_plus a b = grind arith

pub kept_left : (a b : ℕ) → kept (kept a + b) ≡ kept (a + b)
kept_left a b = grind arith

pub kept_times : (n w : ℕ) → kept (n * kept w) ≡ kept (n * w)
kept_times n w = grind arith

-- one more of a list
pub kept_more : (total n rest whole : ℕ) → kept (total + (n + rest)) ≡ whole → kept (kept (total + kept n) + rest) ≡ whole
kept_more total n rest whole e = grind arith

pub behind : (words : TypeRef → ℕ) (at : ℕ) (fs : List Field) → placed_behind words (kept at) fs ≡ placed words at fs
behind words at [] = refl
behind words at (f ∷ fs) =
    let rest : placed_behind words (kept (kept at + words f.of)) fs ≡ placed words (at + words f.of) fs = ap (λ (n : ℕ). placed_behind words n fs) (kept_left at (words f.of)) ∙ behind words (at + words f.of) fs in
    ap (λ (l : List Field). let g : Field = record f { place = kept at } in g ∷ l) rest

-- ---- one more of a list

pub kept_right : (a b : ℕ) → kept (a + kept b) ≡ kept (a + b)
kept_right a b = grind arith

appended : {A : Type 0} (xs : List A) (x : A) (ys : List A) → (xs ++ x ∷ []) ++ ys ≡ xs ++ x ∷ ys
appended [] x ys = refl
appended (z ∷ xs) x ys = ap (λ l. z ∷ l) (appended xs x ys)

pub numbered_more : (xs : List Method) (n : ℕ) (p : Method) (ps whole : List Method) → xs ++ numbered n (p ∷ ps) ≡ whole → (xs ++ (let q : Method = record p { number = n } in q) ∷ []) ++ numbered (suc n) ps ≡ whole
numbered_more xs n p ps whole e = appended xs (let q : Method = record p { number = n } in q) (numbered (suc n) ps) ∙ e

-- a turn of the loop over fields
pub placed_step : (words : TypeRef → ℕ) (xs : List Field) (x : Field) (at next : ℕ) (fs : List Field) (i : ℕ) (f : Field) (ys whole : List Field) → i < length fs → f ≡ get_or fs i f → xs ++ placed_behind words at (drop i fs) ≡ whole → x ≡ (let g : Field = record f { place = at } in g) → ys ≡ xs ++ x ∷ [] → next ≡ kept (at + words f.of) → ys ++ placed_behind words next (drop (i + 1) fs) ≡ whole
placed_step words xs x at next fs i f ys whole l is e one all behind =
    let d : drop i fs ≡ f ∷ drop (i + 1) fs = drop_more fs i f l ∙ ap (λ (g : Field). g ∷ drop (i + 1) fs) (sym is) in
    let inv : xs ++ placed_behind words at (f ∷ drop (i + 1) fs) ≡ whole = subst (λ (l : List Field). xs ++ placed_behind words at l ≡ whole) d e in
    ap (λ (l : List Field). l ++ placed_behind words next (drop (i + 1) fs)) all
    ∙ ap (λ (n : ℕ). (xs ++ x ∷ []) ++ placed_behind words n (drop (i + 1) fs)) behind
    ∙ appended xs x (placed_behind words (kept (at + words f.of)) (drop (i + 1) fs))
    ∙ ap (λ (g : Field). xs ++ g ∷ placed_behind words (kept (at + words f.of)) (drop (i + 1) fs)) one
    ∙ inv

-- ---- whether all end

pub ends_more : (a b c whole : Bool) → (a && (b && c)) ≡ whole → ((a && b) && c) ≡ whole
ends_more true b c whole e = e
ends_more false b c whole e = e

pub ends_last : (a whole : Bool) → (a && true) ≡ whole → a ≡ whole
ends_last true whole e = e
ends_last false whole e = e
