-- A file that becomes a build keeps the library in which its entry becomes that build.
use Rattle.std.proofs.Common.{◌≡◌, ℕ, List, [], ◌∷◌, ◌++◌, Bool, true, false, refl, sym, ap, ◌∙◌, subst, Some, codes, arith, ⊎_elim, inl, inr}
use Rattle.std.specs.Prelude.{◌⊎◌, cond, bytes_eq}
use Rattle.std.proofs.lemmas.Bool.{false≢true}
use Rattle.std.proofs.lemmas.Slice.Eq.{bytes_eq-Decides}
use Rattle.std.proofs.lemmas.List.{append_cancel_right}
use Rattle.ob_io.specs.Io.{put}
use Rattle.ob_link.specs.Plan.{Entry, Holds}
use Rattle.ob_link.specs.Files.{Files, object_file_name}
use Rattle.ob_env_walk.specs.Walk.{symbol_name}
use Rattle.ob_demo.specs.Source.{module_name}
use Rattle.ob_shell_model.specs.Bytes.{source_name}
use Rattle.ob_builds.specs.Builds.{Build, bytes_of, symbols_of}
use Rattle.ob_shell_model.specs.Library.{Library, Kept, ObjectKept, SymbolKept, with_entry, Change, ObjectBecomes, SymbolBecomes, after, after_all}
use Rattle.ob_shell_model.specs.Model.{written, written_all}
use Rattle.law_session.specs.Composing.{EmptyIsKept}

by_bool : (b : Bool) → (b ≡ true) ⊎ (b ≡ false)
by_bool true = inl refl
by_bool false = inr refl

-- whether two names are the same, as the test says
pub same_or : (a b : List ℕ) → ((a ≡ b) × (bytes_eq a b ≡ true)) ⊎ (bytes_eq a b ≡ false)
same_or a b = ⊎_elim (λ e. inl ((bytes_eq-Decides a b).0 e, e)) (λ e. inr e) (by_bool (bytes_eq a b))

self : (a b : List ℕ) → a ≡ b → bytes_eq a b ≡ true
self a b e = (bytes_eq-Decides a b).1 e

other : (a b : List ℕ) → (a ≡ b → ⊥) → bytes_eq a b ≡ false
other a b n = ⊎_elim (λ e. absurd (n ((bytes_eq-Decides a b).0 e))) (λ e. e) (by_bool (bytes_eq a b))

abbrev last_of : List ℕ → ℕ
last_of [] = 0
last_of (x ∷ []) = x
last_of (x ∷ y ∷ ys) = last_of (y ∷ ys)

last_is : (xs : List ℕ) (a b c d : ℕ) → last_of (xs ++ (a ∷ b ∷ c ∷ d ∷ [])) ≡ d
last_is [] a b c d = refl
last_is (x ∷ []) a b c d = refl
last_is (x ∷ y ∷ xs) a b c d = last_is (y ∷ xs) a b c d

differ : (m n : List ℕ) → object_file_name m ≡ symbol_name n → ⊥
differ m n e = let x : 106 ≡ 109 = sym (last_is m 46 79 98 106) ∙ ap last_of e ∙ last_is n 46 83 121 109 in omega (arith, x)

put_here : (files : Files) (a : List ℕ) (bytes : List ℕ) (x : List ℕ) → a ≡ x → put files a bytes x ≡ Some bytes
put_here files a bytes x e = ap (λ t. cond t (Some bytes) (files x)) (self a x e)

put_there : (files : Files) (a : List ℕ) (bytes : List ℕ) (x : List ℕ) → (a ≡ x → ⊥) → put files a bytes x ≡ files x
put_there files a bytes x n = ap (λ t. cond t (Some bytes) (files x)) (other a x n)

object_stays : (files : Files) (entries : List ℕ → Entry Build) (name : List ℕ) (b : Build) (n : List ℕ) → ObjectKept n (files (object_file_name n)) (entries n) → ObjectKept n (put files (object_file_name name) (bytes_of b) (object_file_name n)) (with_entry entries name b n)
object_stays files entries name b n k = ⊎_elim
    (λ s. subst (λ x. ObjectKept n x (with_entry entries name b n)) (sym (put_here files (object_file_name name) (bytes_of b) (object_file_name n) (ap object_file_name (sym s.0))))
    (subst (λ e. ObjectKept n (Some (bytes_of b)) e) (sym (ap (λ t. cond t (Holds b) (entries n)) s.1)) refl))
    (λ f. subst (λ x. ObjectKept n x (with_entry entries name b n)) (sym (put_there files (object_file_name name) (bytes_of b) (object_file_name n) (λ e. false≢true (sym f ∙ self n name (sym (append_cancel_right name n (codes ".Obj") e))))))
    (subst (λ e. ObjectKept n (files (object_file_name n)) e) (sym (ap (λ t. cond t (Holds b) (entries n)) f)) k))
    (same_or n name)

symbol_stays : (files : Files) (entries : List ℕ → Entry Build) (name : List ℕ) (b : Build) (n : List ℕ) → SymbolKept n (files (symbol_name n)) (entries n) → SymbolKept n (put files (symbol_name name) (symbols_of b) (symbol_name n)) (with_entry entries name b n)
symbol_stays files entries name b n k = ⊎_elim
    (λ s. subst (λ x. SymbolKept n x (with_entry entries name b n)) (sym (put_here files (symbol_name name) (symbols_of b) (symbol_name n) (ap symbol_name (sym s.0))))
    (subst (λ e. SymbolKept n (Some (symbols_of b)) e) (sym (ap (λ t. cond t (Holds b) (entries n)) s.1)) refl))
    (λ f. subst (λ x. SymbolKept n x (with_entry entries name b n)) (sym (put_there files (symbol_name name) (symbols_of b) (symbol_name n) (λ e. false≢true (sym f ∙ self n name (sym (append_cancel_right name n (codes ".Sym") e))))))
    (subst (λ e. SymbolKept n (files (symbol_name n)) e) (sym (ap (λ t. cond t (Holds b) (entries n)) f)) k))
    (same_or n name)

pub stays : (files : Files) (l : Library) (c : Change) → Kept files l → Kept (written files c) (after l c)
stays files l (ObjectBecomes name b) k = record {
  objects = λ n i. object_stays files l.objects name b n (k.objects n i);
  symbols = λ n i. subst (λ x. SymbolKept n x (l.symbols n)) (sym (put_there files (object_file_name name) (bytes_of b) (symbol_name n) (λ e. differ name n e))) (k.symbols n i);
}
stays files l (SymbolBecomes name b) k = record {
  objects = λ n i. subst (λ x. ObjectKept n x (l.objects n)) (sym (put_there files (symbol_name name) (symbols_of b) (object_file_name n) (λ e. differ n name (sym e)))) (k.objects n i);
  symbols = λ n i. symbol_stays files l.symbols name b n (k.symbols n i);
}

pub all_stay : (cs : List Change) (files : Files) (l : Library) → Kept files l → Kept (written_all files cs) (after_all l cs)
all_stay [] files l k = k
all_stay (c ∷ cs) files l k = all_stay cs (written files c) (after l c) (stays files l c k)

-- a source keeps no library
differ_source : (n : List ℕ) (i : ℕ) → (source_name i ≡ object_file_name n → ⊥) × (source_name i ≡ symbol_name n → ⊥)
differ_source n i = (
  λ e. let x : 100 ≡ 106 = sym (last_is (module_name i) 46 77 111 100) ∙ ap last_of e ∙ last_is n 46 79 98 106 in omega (arith, x),
  λ e. let x : 100 ≡ 109 = sym (last_is (module_name i) 46 77 111 100) ∙ ap last_of e ∙ last_is n 46 83 121 109 in omega (arith, x),
)

pub source_stays : (files : Files) (l : Library) (i : ℕ) (text : List ℕ) → Kept files l → Kept (put files (source_name i) text) l
source_stays files l i text k = record {
  objects = λ n h. subst (λ x. ObjectKept n x (l.objects n)) (sym (put_there files (source_name i) text (object_file_name n) (differ_source n i).0)) (k.objects n h);
  symbols = λ n h. subst (λ x. SymbolKept n x (l.symbols n)) (sym (put_there files (source_name i) text (symbol_name n) (differ_source n i).1)) (k.symbols n h);
}

pub empty_kept : EmptyIsKept
empty_kept = (record { objects = λ n. tt; symbols = λ n. tt }, record { objects = λ n i. refl; symbols = λ n i. refl })
