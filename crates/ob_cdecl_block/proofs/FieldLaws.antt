-- What headings have left for later.
use Rattle.std.proofs.Common.{◌≡◌, ℕ, zero, suc, ◌<◌, List, [], ◌∷◌, ◌++◌, length, take, get_or, refl, sym, ap, ◌∙◌, arith}
use Rattle.std.specs.Prelude.{reverse}
use Rattle.std.proofs.lemmas.List.{append_assoc, reverse-append}
use Rattle.ob_tree.specs.declared.names.QName.{QName}
use Rattle.ob_types.specs.declared.types.TypeRef.{TypeRef}
use Rattle.ob_types.specs.declared.typed.Designator.{Designator}
use Rattle.ob_rules.specs.declared.broken.Broken.{Broken}
use Rattle.ob_rules.specs.declared.notes.Later.{Later}
use Rattle.ob_rules.specs.declared.notes.Notebook.{Notebook}
use Rattle.ob_rules.specs.Judged.{Notes, joined}
use Rattle.ob_rules.specs.Books.{book_after}
use Rattle.ob_rules.specs.Headings.{Head, reversed}
use Rattle.ob_rules.specs.Declarations.{all_judged, heads_later}
use Rattle.ob_rules.proofs.BookLaws.{after_none, after_joined}
use Rattle.ob_cdecl.proofs.BookJoins.{later_in}
use Rattle.ob_cdecl_heading.specs.declared.head.Head.{Head as Kept}
use Rattle.ob_cdecl_heading.specs.Kept.{IsKept, AreKept}
use Rattle.ob_cdecl_block.specs.Steps.{kept_later}

-- the last heading, and those before it
record Last (n : ℕ) (hs : List Kept) (ss : List Head) (s : Head) : Type 0 where
  first : List Kept
  last : Kept
  all : hs ≡ first ++ last ∷ []
  before : AreKept n first ss
  this : IsKept n last s

kept_last : (n : ℕ) (hs : List Kept) (ss : List Head) (s : Head) → AreKept n hs (ss ++ s ∷ []) → Last n hs ss s
kept_last n [] [] s k = absurd k
kept_last n [] (t ∷ ss) s k = absurd k
kept_last n (h ∷ []) [] s k = record { first = []; last = h; all = refl; before = tt; this = k.0 }
kept_last n (h ∷ g ∷ hs) [] s k = absurd k.1
kept_last n (h ∷ hs) (t ∷ ss) s k =
    let rest = kept_last n hs ss s k.1 in
    record { first = h ∷ rest.first; last = rest.last; all = ap (λ l. h ∷ l) rest.all; before = (k.0, rest.before); this = rest.this }

pub later_kept : (n : ℕ) (hs : List Kept) (before : List Head) → AreKept n hs (reversed before) → kept_later (reverse hs) ≡ heads_later before
later_kept n [] [] k = refl
later_kept n (h ∷ hs) [] k = absurd k
later_kept n hs (s ∷ before) k =
    let l = kept_last n hs (reversed before) s k in
    ap (λ x. kept_later (reverse x)) l.all
    ∙ ap kept_later (reverse-append l.first (l.last ∷ []))
    ∙ ap (λ x. x ++ kept_later (reverse l.first)) (later_in l.last.notes s.notes l.this.notes)
    ∙ ap (λ x. s.notes.later ++ x) (later_kept n l.first before l.before)

abbrev notes : List Broken → List QName → List TypeRef → List Designator → List Later → Notes
notes bs os ts ds ls = record { broken = bs; objects = os; types = ts; lengths = ds; later = ls }

joined_assoc : (a b c : Notes) → joined a (joined b c) ≡ joined (joined a b) c
joined_assoc a b c =
    let d = joined b c in
    let e = joined (joined a b) c in
    ap (λ x. notes x (a.objects ++ d.objects) (a.types ++ d.types) (a.lengths ++ d.lengths) (a.later ++ d.later)) (sym (append_assoc a.broken b.broken c.broken))
    ∙ ap (λ x. notes e.broken x (a.types ++ d.types) (a.lengths ++ d.lengths) (a.later ++ d.later)) (sym (append_assoc a.objects b.objects c.objects))
    ∙ ap (λ x. notes e.broken e.objects x (a.lengths ++ d.lengths) (a.later ++ d.later)) (sym (append_assoc a.types b.types c.types))
    ∙ ap (λ x. notes e.broken e.objects e.types x (a.later ++ d.later)) (sym (append_assoc a.lengths b.lengths c.lengths))
    ∙ ap (λ x. notes e.broken e.objects e.types e.lengths x) (sym (append_assoc a.later b.later c.later))

pub judged_joined : (f : Later → Notes) (ks ls : List Later) → all_judged f (ks ++ ls) ≡ joined (all_judged f ks) (all_judged f ls)
judged_joined f [] ls = refl
judged_joined f (k ∷ ks) ls = ap (joined (f k)) (judged_joined f ks ls) ∙ joined_assoc (f k) (all_judged f ks) (all_judged f ls)

-- behind declarations those of the headings
pub fields_after : (f : Later → Notes) (n : ℕ) (hs : List Kept) (before : List Head) (later : List Later) (b c d : Notebook) → AreKept n hs (reversed before) → c ≡ book_after b (all_judged f later) → d ≡ book_after c (all_judged f (kept_later (reverse hs))) → d ≡ book_after b (all_judged f (later ++ heads_later before))
fields_after f n hs before later b c d k e g =
    g ∙ ap (λ x. book_after c (all_judged f x)) (later_kept n hs before k)
    ∙ ap (λ x. book_after x (all_judged f (heads_later before))) e
    ∙ after_joined b (all_judged f later) (all_judged f (heads_later before))
    ∙ ap (book_after b) (sym (judged_joined f later (heads_later before)))

-- THE HEADINGS FROM THE LAST ON

take_last : {A : Type 0} (xs : List A) (i : ℕ) (x : A) → i < length xs → x ≡ get_or xs i x → take (suc i) xs ≡ take i xs ++ x ∷ []
take_last [] i x lt e = absurd (omega arith)
take_last (y ∷ xs) zero x lt e = ap (λ z. z ∷ []) (sym e)
take_last (y ∷ xs) (suc i) x lt e = ap (λ l. y ∷ l) (take_last xs i x (omega arith) e)

pub one_fewer : (f : Later → Notes) (hs : List Kept) (i j : ℕ) (h : Kept) (b c total : Notebook) → j ≡ suc i → i < length hs → h ≡ get_or hs i h → c ≡ book_after b (all_judged f h.notes.later) → book_after b (all_judged f (kept_later (reverse (take j hs)))) ≡ total → book_after c (all_judged f (kept_later (reverse (take i hs)))) ≡ total
one_fewer f hs i j h b c total e lt is noted inv =
    let rest = kept_later (reverse (take i hs)) in
    ap (λ x. book_after x (all_judged f rest)) noted
    ∙ after_joined b (all_judged f h.notes.later) (all_judged f rest)
    ∙ ap (book_after b) (sym (judged_joined f h.notes.later rest))
    ∙ ap (λ l. book_after b (all_judged f (kept_later l))) (sym (ap reverse (ap (λ k. take k hs) e ∙ take_last hs i h lt is) ∙ reverse-append (take i hs) (h ∷ [])))
    ∙ inv

take_all : {A : Type 0} (xs : List A) (n : ℕ) → n ≡ length xs → take n xs ≡ xs
take_all [] zero e = refl
take_all [] (suc n) e = refl
take_all (x ∷ xs) zero e = absurd (omega arith)
take_all (x ∷ xs) (suc n) e = ap (λ l. x ∷ l) (take_all xs n (omega arith))

pub all_of_them : (f : Later → Notes) (hs : List Kept) (i : ℕ) (b : Notebook) → i ≡ length hs → book_after b (all_judged f (kept_later (reverse (take i hs)))) ≡ book_after b (all_judged f (kept_later (reverse hs)))
all_of_them f hs i b e = ap (λ l. book_after b (all_judged f (kept_later (reverse l)))) (take_all hs i e)

pub none_of_them : (f : Later → Notes) (hs : List Kept) (i : ℕ) (b total : Notebook) → i ≡ 0 → book_after b (all_judged f (kept_later (reverse (take i hs)))) ≡ total → b ≡ total
none_of_them f hs i b total e inv = sym (after_none b) ∙ ap (λ k. book_after b (all_judged f (kept_later (reverse (take k hs))))) (sym e) ∙ inv
