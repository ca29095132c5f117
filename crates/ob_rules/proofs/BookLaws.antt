-- Laws of notebooks.
use Rattle.std.proofs.Common.{◌≡◌, refl, sym, ap, ◌∙◌, Bool, true, false, List, [], ◌∷◌, ◌++◌, Option, Some, None, cond, arith, Result, Ok, Err, OnOk}
use Rattle.std.proofs.lemmas.List.{append-nil, append_assoc}
use Rattle.ob_tree.specs.declared.names.QName.{QName}
use Rattle.ob_tree.specs.declared.pos.Pos.{Pos}
use Rattle.ob_types.specs.declared.types.TypeRef.{TypeRef}
use Rattle.ob_types.specs.declared.typed.Designator.{Designator}
use Rattle.ob_types_trees.specs.declared.designator.DesignatorTrees.{DesignatorTrees}
use Rattle.ob_rules.specs.declared.broken.Broken.{Broken}
use Rattle.ob_rules.specs.declared.notes.Notebook.{Notebook}
use Rattle.ob_rules.specs.declared.notes.Later.{Later}
use Rattle.ob_rules.specs.declared.broken.Rule.{Rule}
use Rattle.ob_rules.specs.Judged.{Notes, before, earlier, least, joined, no_notes, broken_at, naming, naming_type, naming_length, left_for_later, is_quiet}
use Rattle.ob_rules.specs.Books.{book_after}
use Rattle.ob_rules.proofs.Least.{earlier_none, earlier_assoc, least_append}

abbrev book : Option Broken → List QName → List TypeRef → List Designator → List Later → Notebook
book b os ts ds ls = record { broken = b; objects = os; types = ts; lengths = record { inner = ds }; later = ls }

same_books : {b c : Option Broken} {os ps : List QName} {ts us : List TypeRef} {ds es : List Designator} {ls ms : List Later} → b ≡ c → os ≡ ps → ts ≡ us → ds ≡ es → ls ≡ ms → book b os ts ds ls ≡ book c ps us es ms
same_books {b = b} {c = c} {os = os} {ps = ps} {ts = ts} {us = us} {ds = ds} {es = es} {ls = ls} {ms = ms} e f g h i =
    ap (λ x. book x os ts ds ls) e ∙ ap (λ x. book c x ts ds ls) f ∙ ap (λ x. book c ps x ds ls) g ∙ ap (λ x. book c ps us x ls) h ∙ ap (λ x. book c ps us es x) i

-- with nothing behind it is the same
pub after_none : (b : Notebook) → book_after b no_notes ≡ b
unfolding book_after
after_none b = same_books (earlier_none b.broken) (append-nil b.objects) (append-nil b.types) (append-nil b.lengths.inner) (append-nil b.later)

-- notes behind notes
pub after_joined : (b : Notebook) (m n : Notes) → book_after (book_after b m) n ≡ book_after b (joined m n)
unfolding book_after
after_joined b m n =
    same_books
    (earlier_assoc b.broken (least m.broken) (least n.broken) ∙ ap (earlier b.broken) (sym (least_append m.broken n.broken)))
    (append_assoc b.objects m.objects n.objects)
    (append_assoc b.types m.types n.types)
    (append_assoc b.lengths.inner m.lengths n.lengths)
    (append_assoc b.later m.later n.later)

pub after_broken : (b : Notebook) (rule : Rule) (at : Pos) (o : Option Broken) → o ≡ earlier b.broken (Some (record { rule = rule; «pos» = at })) → record b { broken = o } ≡ book_after b (broken_at rule at)
unfolding book_after
after_broken b rule at o e = same_books e (sym (append-nil b.objects)) (sym (append-nil b.types)) (sym (append-nil b.lengths.inner)) (sym (append-nil b.later))

pub after_object : (b : Notebook) (q : QName) (os : List QName) → os ≡ b.objects ++ q ∷ [] → record b { objects = os } ≡ book_after b (naming q)
unfolding book_after
after_object b q os e = same_books (sym (earlier_none b.broken)) e (sym (append-nil b.types)) (sym (append-nil b.lengths.inner)) (sym (append-nil b.later))

pub after_type : (b : Notebook) (t : TypeRef) (ts : List TypeRef) → ts ≡ b.types ++ t ∷ [] → record b { types = ts } ≡ book_after b (naming_type t)
unfolding book_after
after_type b t ts e = same_books (sym (earlier_none b.broken)) (sym (append-nil b.objects)) e (sym (append-nil b.lengths.inner)) (sym (append-nil b.later))

pub after_length : (b : Notebook) (d : Designator) (ds : DesignatorTrees) → ds.inner ≡ b.lengths.inner ++ d ∷ [] → record b { lengths = ds } ≡ book_after b (naming_length d)
unfolding book_after
after_length b d ds e = same_books (sym (earlier_none b.broken)) (sym (append-nil b.objects)) (sym (append-nil b.types)) e (sym (append-nil b.later))

pub after_later : (b : Notebook) (l : Later) (ls : List Later) → ls ≡ b.later ++ l ∷ [] → record b { later = ls } ≡ book_after b (left_for_later l)
unfolding book_after
after_later b l ls e = same_books (sym (earlier_none b.broken)) (sym (append-nil b.objects)) (sym (append-nil b.types)) (sym (append-nil b.lengths.inner)) e

none_not : (b : Broken) (o : Option Broken) → None ≡ earlier (Some b) o → ⊥
none_not b None e = none_some b e
  where
    none_some : (b : Broken) → None ≡ Some b → ⊥
    none_some b f = cc
none_not b (Some c) e = by_test (before c b) e
  where
    by_test : (t : Bool) → None ≡ cond t (Some c) (Some b) → ⊥
    by_test true f = cc
    by_test false f = cc

pub quiet_if : (bs : List Broken) → None ≡ least bs → true ≡ is_quiet bs
quiet_if [] e = refl
quiet_if (b ∷ bs) e = absurd (none_not b (least bs) e)

pub loud_if : (bs : List Broken) (b : Broken) → Some b ≡ least bs → false ≡ is_quiet bs
loud_if [] b e = cc
loud_if (c ∷ bs) b e = refl

broken_after : (b : Notebook) (n : Notes) → (book_after (record b { broken = None }) n).broken ≡ least n.broken
unfolding book_after
broken_after b n = refl

-- what was broken since it was set aside
pub broken_since : (c b : Notebook) (n : Notes) → c ≡ book_after (record b { broken = None }) n → c.broken ≡ least n.broken
broken_since c b n e = let F : Notebook → Option Broken = λ x. x.broken in ap F e ∙ broken_after b n

put_back_after : (b : Notebook) (n : Notes) → record (book_after (record b { broken = None }) n) { broken = earlier b.broken (book_after (record b { broken = None }) n).broken } ≡ book_after b n
unfolding book_after
put_back_after b n = refl

-- what was set aside is put back
pub put_back_before : (c b : Notebook) (n : Notes) (o p : Option Broken) → c ≡ book_after (record b { broken = None }) n → o ≡ b.broken → p ≡ earlier o c.broken → record c { broken = p } ≡ book_after b n
put_back_before c b n o p e f g =
    let F : Option Broken → Notebook = λ x. record c { broken = x } in
    let G : Notebook → Notebook = λ x. record x { broken = earlier b.broken x.broken } in
    ap F (g ∙ ap (λ x. earlier x c.broken) f) ∙ ap G e ∙ put_back_after b n

pub on_ok : {T E : Type 0} {P Q : Type 0} (r : Result T E) → (P → Q) → OnOk r P → OnOk r Q
on_ok (Ok x) f p = f p
on_ok (Err e) f p = p
