-- Pointers whose base was left for later, one after the other.
use Rattle.std.proofs.Common.{◌≡◌, ℕ, suc, Bool, true, false, List, ◌∷◌, length, sym, ap, subst, ◌∙◌, cond}
use Rattle.ob_rules.specs.declared.notes.Later.{Later}
use Rattle.ob_rules.specs.declared.notes.Notebook.{Notebook}
use Rattle.ob_rules.specs.Books.{book_after}
use Rattle.ob_rules.specs.Judged.{Notes}
use Rattle.ob_rules.specs.Names.{Around, map_of, is_among}
use Rattle.ob_rules.specs.Declarations.{Pointers, pointer_name, base_name, is_wrong, comes_back, is_told, pointer_told, pointer_judged, judge_unless, judge_pointer, judge_pointers, is_pointer_left}
use Rattle.ob_cdecl_bound.specs.declared.pointers.Progress.{Progress}
use Rattle.ob_cdecl_bound.specs.Told.{at_notes, Told, left_pointers, base_judged}

pub told_state : (b book : Notebook) (s : Pointers) (p : Progress) → Told b s p book → at_notes p s.notes ≡ s
told_state b book s p t =
    ap (λ x. record { judged = x; unsound = p.unsound; through = p.through; rings = p.rings; notes = s.notes }) t.judged
    ∙ ap (λ x. record { judged = s.judged; unsound = x; through = p.through; rings = p.rings; notes = s.notes }) t.unsound
    ∙ ap (λ x. record { judged = s.judged; unsound = s.unsound; through = x; rings = p.rings; notes = s.notes }) t.through
    ∙ ap (λ x. record { judged = s.judged; unsound = s.unsound; through = s.through; rings = x; notes = s.notes }) t.rings

-- one more of those in a row
pub more_pointers : (u : Around) (ls all more : List Later) (l : Later) (fuel : ℕ) (b book : Notebook) (p q : Progress) (t : Notes) (total : Pointers) → all ≡ l ∷ more → is_pointer_left l ≡ true → fuel ≡ suc (length ls) → Told b (judge_pointer u ls fuel l (at_notes p t)) q book → judge_pointers u ls (left_pointers all) (at_notes p t) ≡ total → (n : Notes) × (book ≡ book_after b n) × (judge_pointers u ls (left_pointers more) (at_notes q n) ≡ total)
more_pointers u ls all more l fuel b book p q t total step is long told inv =
    let s = judge_pointer u ls fuel l (at_notes p t) in (
      s.notes,
      told.noted,
      ap (judge_pointers u ls (left_pointers more)) (told_state b book s q told ∙ ap (λ k. judge_pointer u ls k l (at_notes p t)) long)
          ∙ sym (ap (λ x. judge_pointers u ls x (at_notes p t)) (ap left_pointers step ∙ ap (λ c. cond c (l ∷ left_pointers more) (left_pointers more)) is))
          ∙ inv,
    )

pub no_pointer : (u : Around) (ls all more : List Later) (l : Later) (s total : Pointers) → all ≡ l ∷ more → is_pointer_left l ≡ false → judge_pointers u ls (left_pointers all) s ≡ total → judge_pointers u ls (left_pointers more) s ≡ total
no_pointer u ls all more l s total step is inv =
    sym (ap (λ x. judge_pointers u ls x s) (ap left_pointers step ∙ ap (λ c. cond c (l ∷ left_pointers more) (left_pointers more)) is)) ∙ inv

-- the same, where the branches joined
pub next_pointers : (u : Around) (ls all more : List Later) (l : Later) (fuel : ℕ) (b book joint : Notebook) (p q after : Progress) (t : Notes) (total : Pointers) → joint ≡ book → after ≡ q → all ≡ l ∷ more → is_pointer_left l ≡ true → fuel ≡ suc (length ls) → Told b (judge_pointer u ls fuel l (at_notes p t)) q book → judge_pointers u ls (left_pointers all) (at_notes p t) ≡ total → (n : Notes) × (joint ≡ book_after b n) × (judge_pointers u ls (left_pointers more) (at_notes after n) ≡ total)
next_pointers u ls all more l fuel b book joint p q after t total e f step is long told inv =
    let r = more_pointers u ls all more l fuel b book p q t total step is long told inv in
    (r.0, e ∙ r.1, ap (λ x. judge_pointers u ls (left_pointers more) (at_notes x r.0)) f ∙ r.2)

pub same_pointers : (u : Around) (ls all more : List Later) (l : Later) (b book joint : Notebook) (p after : Progress) (t : Notes) (total : Pointers) → joint ≡ book → after ≡ p → all ≡ l ∷ more → is_pointer_left l ≡ false → book ≡ book_after b t → judge_pointers u ls (left_pointers all) (at_notes p t) ≡ total → (n : Notes) × (joint ≡ book_after b n) × (judge_pointers u ls (left_pointers more) (at_notes after n) ≡ total)
same_pointers u ls all more l b book joint p after t total e f step is noted inv =
    (t, e ∙ noted, ap (λ x. judge_pointers u ls (left_pointers more) (at_notes x t)) f ∙ no_pointer u ls all more l (at_notes p t) total step is inv)

-- what is told of a pointer whose base was gone through
pub judged_one : (u : Around) (l : Later) (b book : Notebook) (s : Pointers) (q : Progress) (base : List ℕ) (wrong unsound back told : Bool) → base ≡ base_name u l → unsound ≡ is_among base s.unsound → back ≡ comes_back base s → wrong ≡ is_wrong (map_of u) l → told ≡ is_told wrong unsound back s → Told b (pointer_told l base told unsound back s) q book → Told b (pointer_judged u l s) q book
judged_one u l b book s q base wrong unsound back told of unsound_is back_is wrong_is told_is t =
    let W = is_wrong (map_of u) l in
    subst
    (λ x. Told b x q book)
    (ap (λ x. pointer_told l base x unsound back s) told_is
    ∙ ap (λ x. pointer_told l base (is_told x unsound back s) unsound back s) wrong_is
    ∙ ap (λ x. pointer_told l base (is_told W x back s) x back s) unsound_is
    ∙ ap (λ x. pointer_told l base (is_told W (is_among base s.unsound) x s) (is_among base s.unsound) x s) back_is
    ∙ ap (λ x. pointer_told l x (is_told W (is_among x s.unsound) (comes_back x s) s) (is_among x s.unsound) (comes_back x s) s) of)
    t

-- a pointer that was not judged before: its base is gone through, and it is judged
pub judged_next : (u : Around) (ls : List Later) (n fuel : ℕ) (l : Later) (b between book : Notebook) (p entered through q : Progress) (t : Notes) → fuel ≡ suc n → is_among (pointer_name l) p.judged ≡ false → entered ≡ record p { judged = pointer_name l ∷ p.judged } → Told b (base_judged u ls n l (at_notes entered t)) through between → ((m : Notes) → between ≡ book_after b m → Told b (pointer_judged u l (at_notes through m)) q book) → Told b (judge_pointer u ls fuel l (at_notes p t)) q book
judged_next u ls n fuel l b between book p entered through q t long new e base one =
    let s = base_judged u ls n l (at_notes entered t) in
    let f : Pointers → Pointers = λ v. pointer_judged u l (base_judged u ls n l v) in
    subst
    (λ x. Told b x q book)
    (ap (pointer_judged u l) (told_state b between s through base)
    ∙ ap (λ x. f (at_notes x t)) e
    ∙ sym (ap (λ c. judge_unless c (at_notes p t) f (pointer_name l)) new)
    ∙ sym (ap (λ k. judge_pointer u ls k l (at_notes p t)) long))
    (one s.notes base.noted)
