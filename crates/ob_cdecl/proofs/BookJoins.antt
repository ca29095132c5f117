-- Notebooks that are joined.
use Rattle.std.specs.Prelude.{is_some}
use Rattle.ob_rules.specs.declared.entity.Known.{Known}
use Rattle.ob_tree.specs.declared.ident.Ident.{Ident}
use Rattle.ob_rules.specs.Names.{Around, found_in_scope}
use Rattle.std.proofs.Common.{◌≡◌, ℕ, List, [], ◌++◌, Option, Result, OnOk, refl, sym, ap, ◌∙◌, true, false, Some, None}
use Rattle.ob_tree.specs.declared.names.QName.{QName}
use Rattle.ob_types.specs.declared.types.TypeRef.{TypeRef}
use Rattle.ob_types.specs.declared.typed.Designator.{Designator}
use Rattle.ob_types_trees.specs.declared.designator.DesignatorTrees.{DesignatorTrees}
use Rattle.ob_rules.specs.declared.broken.Broken.{Broken}
use Rattle.ob_rules.specs.declared.notes.Notebook.{Notebook}
use Rattle.ob_rules.specs.declared.notes.Later.{Later}
use Rattle.ob_rules.specs.Judged.{Notes, earlier, least}
use Rattle.ob_rules.specs.Books.{book_after, empty_book}
use Rattle.ob_rules.specs.Declarations.{nothing_later, of_new, later_if_new}
use Rattle.ob_rules.proofs.BookLaws.{on_ok}

abbrev both_of : Notebook → Notebook → Notebook
both_of a b = record {
  broken = earlier a.broken b.broken;
  objects = a.objects ++ b.objects;
  types = a.types ++ b.types;
  lengths = record { inner = a.lengths.inner ++ b.lengths.inner };
  later = a.later ++ b.later;
}

both_after : (a : Notebook) (n : Notes) → both_of a (book_after empty_book n) ≡ book_after a n
unfolding book_after
both_after a n = refl

pub appended : (a o c : Notebook) (n : Notes) → o ≡ book_after empty_book n → c.broken ≡ earlier a.broken o.broken → c.objects ≡ a.objects ++ o.objects → c.types ≡ a.types ++ o.types → c.lengths.inner ≡ a.lengths.inner ++ o.lengths.inner → c.later ≡ a.later ++ o.later → c ≡ book_after a n
appended a o c n e f g h i j = same f g h i j ∙ ap (both_of a) e ∙ both_after a n
  where
    put : Option Broken → List QName → List TypeRef → List Designator → List Later → Notebook
    put b os ts ds ls = record { broken = b; objects = os; types = ts; lengths = record { inner = ds }; later = ls }

    same : {b d : Option Broken} {os ps : List QName} {ts us : List TypeRef} {ds es : List Designator} {ls ms : List Later} → b ≡ d → os ≡ ps → ts ≡ us → ds ≡ es → ls ≡ ms → put b os ts ds ls ≡ put d ps us es ms
    same {b = b} {d = d} {os = os} {ps = ps} {ts = ts} {us = us} {ds = ds} {es = es} {ls = ls} {ms = ms} p q r s t =
        ap (λ x. put x os ts ds ls) p ∙ ap (λ x. put d x ts ds ls) q ∙ ap (λ x. put d ps x ds ls) r ∙ ap (λ x. put d ps us x ls) s ∙ ap (λ x. put d ps us es x) t

-- what is judged later is taken out
pub without_later : (o c : Notebook) (n : Notes) → o ≡ book_after empty_book n → c ≡ record o { later = [] } → c ≡ book_after empty_book (nothing_later n)
unfolding book_after
without_later o c n e f = let F : Notebook → Notebook = λ x. record x { later = [] } in f ∙ ap F e

-- where a name is not new
pub forgets : (u : Around) (x : Ident) (o c : Notebook) (n : Notes) → o ≡ book_after empty_book n → is_some (found_in_scope u x.name) ≡ true → c ≡ record o { later = [] } → c ≡ book_after empty_book (of_new u x n)
forgets u x o c n e b f = by (found_in_scope u x.name) b
  where
    by : (k : Option Known) → is_some k ≡ true → c ≡ book_after empty_book (record { broken = n.broken; objects = n.objects; types = n.types; lengths = n.lengths; later = later_if_new k n.later })
    by None b = absurd cc
    by (Some k) b = without_later o c n e f

-- where it is new
pub remembers : (u : Around) (x : Ident) (o : Notebook) (n : Notes) → o ≡ book_after empty_book n → is_some (found_in_scope u x.name) ≡ false → o ≡ book_after empty_book (of_new u x n)
remembers u x o n e b = by (found_in_scope u x.name) b
  where
    by : (k : Option Known) → is_some k ≡ false → o ≡ book_after empty_book (record { broken = n.broken; objects = n.objects; types = n.types; lengths = n.lengths; later = later_if_new k n.later })
    by None b = e
    by (Some k) b = absurd cc

pub later_in : (o : Notebook) (n : Notes) → o ≡ book_after empty_book n → o.later ≡ n.later
unfolding book_after
later_in o n e = let F : Notebook → List Later = λ x. x.later in ap F e

pub appended_ok : {T F : Type 0} (r : Result T F) (a o : Notebook) (b : Option Broken) (os : List QName) (ts : List TypeRef) (ds : DesignatorTrees) (ls : List Later) (n : Notes) → o ≡ book_after empty_book n → b ≡ earlier a.broken o.broken → os ≡ a.objects ++ o.objects → ts ≡ a.types ++ o.types → ds.inner ≡ a.lengths.inner ++ o.lengths.inner → OnOk r (ls ≡ a.later ++ o.later) → OnOk r (record { broken = b; objects = os; types = ts; lengths = ds; later = ls } ≡ book_after a n)
appended_ok r a o b os ts ds ls n e f g h i j =
    let whole : Notebook = record { broken = b; objects = os; types = ts; lengths = ds; later = ls } in
    let G : ls ≡ a.later ++ o.later → whole ≡ book_after a n = λ k. appended a o whole n e f g h i k in
    on_ok r G j
