-- Declarations in turn.
use Rattle.std.proofs.Common.{◌≡◌, ℕ, List, [], ◌∷◌, ◌++◌, Option, Some, None, Result, OnOk, map, refl, sym, ap, subst, ◌∙◌}
use Rattle.std.specs.List.{filter_map, cons_option}
use Rattle.ob_tree.specs.declared.ident.Ident.{Ident}
use Rattle.ob_tree.specs.declared.ident.IdentDef.{IdentDef}
use Rattle.ob_tree.specs.declared.ident.Mark.{Mark}
use Rattle.ob_tree.specs.declared.decl.Decl.{Decl}
use Rattle.std.specs.Prelude.{true, false}
use Rattle.ob_types.specs.declared.types.TypeRef.{TypeRef}
use Rattle.ob_rules.specs.declared.notes.Notebook.{Notebook}
use Rattle.ob_types.specs.declared.typed.TypedType.{TypedType}
use Rattle.ob_rules.specs.Judged.{Notes, paired, joined}
use Rattle.ob_rules.specs.Books.{book_after, empty_book}
use Rattle.ob_rules.specs.Names.{Around}
use Rattle.ob_rules.specs.Types.{Typing, Written, marked, with_types}
use Rattle.ob_rules.specs.Headings.{mark_or_hidden}
use Rattle.ob_rules.specs.Declarations.{Declared, Contents, together, behind_part, then_declared, declare, typing_as, types_made, type_entity, type_declared, in_order, plain_of, declaration, variables_with, variable_marked, variable_with, paired_typing, newly, of_new, twice}
use Rattle.ob_rules.proofs.BookLaws.{after_none, after_joined}
use Rattle.ob_cdecl.specs.Seen.{holds_types}
use Rattle.ob_cdecl.specs.Order.{declared_by, plain_declared, plain_in_order, typing_only, type_around}
use Rattle.ob_cdecl.proofs.ContentsLaws.{added_in_turn, adds_nothing}

-- A DECLARATION, AND WHAT STANDS BEHIND IT

pub then_around : (a : Declared) (f : Around → Declared) (w total : Around) → w ≡ a.around → (then_declared a f).around ≡ total → (f w).around ≡ total
then_around a f w total is inv = ap (λ x. (f x).around) is ∙ inv

pub then_notes : (a : Declared) (f : Around → Declared) (w : Around) (b c total : Notebook) → w ≡ a.around → c ≡ book_after b a.part.notes → book_after b (then_declared a f).part.notes ≡ total → book_after c (f w).part.notes ≡ total
then_notes a f w b c total is noted inv =
    ap (λ x. book_after c (f x).part.notes) is
    ∙ ap (λ k. book_after k (f a.around).part.notes) noted
    ∙ after_joined b a.part.notes (f a.around).part.notes
    ∙ inv

pub then_contents : (a : Declared) (f : Around → Declared) (w : Around) (b c total : Contents) → w ≡ a.around → c ≡ together b a.part.contents → together b (then_declared a f).part.contents ≡ total → together c (f w).part.contents ≡ total
then_contents a f w b c total is added inv =
    ap (λ x. together c (f x).part.contents) is
    ∙ ap (λ k. together k (f a.around).part.contents) added
    ∙ added_in_turn b a.part.contents (f a.around).part.contents
    ∙ inv

-- DECLARATIONS THAT ARE NO PROCEDURES

step_by : (o : Option (Around → Declared)) (fs : List (Around → Declared)) (u : Around) → in_order (cons_option o fs) u ≡ then_declared (declared_by o u) (λ v. in_order fs v)
step_by None fs u = refl
step_by (Some f) fs u = refl

pub plain_step : (d : Decl) (more all : List Decl) (u : Around) → all ≡ d ∷ more → plain_in_order all u ≡ then_declared (plain_declared d u) (λ v. plain_in_order more v)
plain_step d more all u step = ap (λ l. plain_in_order l u) step ∙ step_by (plain_of (declaration d)) (filter_map plain_of (map declaration more)) u

pub more_around : (d : Decl) (more all : List Decl) (v w total : Around) → all ≡ d ∷ more → w ≡ (plain_declared d v).around → (plain_in_order all v).around ≡ total → (plain_in_order more w).around ≡ total
more_around d more all v w total step is inv = then_around (plain_declared d v) (λ x. plain_in_order more x) w total is (sym (ap (λ r. r.around) (plain_step d more all v step)) ∙ inv)

pub more_notes : (d : Decl) (more all : List Decl) (v w : Around) (b c total : Notebook) → all ≡ d ∷ more → w ≡ (plain_declared d v).around → c ≡ book_after b (plain_declared d v).part.notes → book_after b (plain_in_order all v).part.notes ≡ total → book_after c (plain_in_order more w).part.notes ≡ total
more_notes d more all v w b c total step is noted inv = then_notes (plain_declared d v) (λ x. plain_in_order more x) w b c total is noted (sym (ap (λ r. book_after b r.part.notes) (plain_step d more all v step)) ∙ inv)

pub more_contents : (d : Decl) (more all : List Decl) (v w : Around) (b c total : Contents) → all ≡ d ∷ more → w ≡ (plain_declared d v).around → c ≡ together b (plain_declared d v).part.contents → together b (plain_in_order all v).part.contents ≡ total → together c (plain_in_order more w).part.contents ≡ total
more_contents d more all v w b c total step is added inv = then_contents (plain_declared d v) (λ x. plain_in_order more x) w b c total is added (sym (ap (λ r. together b r.part.contents) (plain_step d more all v step)) ∙ inv)

pub no_more_around : (all : List Decl) (v total : Around) → all ≡ [] → (plain_in_order all v).around ≡ total → v ≡ total
no_more_around all v total e inv = ap (λ l. (plain_in_order l v).around) (sym e) ∙ inv

pub no_more_notes : (all : List Decl) (v : Around) (b total : Notebook) → all ≡ [] → book_after b (plain_in_order all v).part.notes ≡ total → b ≡ total
no_more_notes all v b total e inv = sym (after_none b) ∙ ap (λ l. book_after b (plain_in_order l v).part.notes) (sym e) ∙ inv

pub no_more_contents : (all : List Decl) (v : Around) (b total : Contents) → all ≡ [] → together b (plain_in_order all v).part.contents ≡ total → b ≡ total
no_more_contents all v b total e inv = adds_nothing b ∙ ap (λ l. together b (plain_in_order l v).part.contents) (sym e) ∙ inv

-- VARIABLES

abbrev pub one_variable : IdentDef → Option Typing → Around → Declared
one_variable d t v = variable_marked v d.ident (marked v true d) t

pub more_variables_around : (d : IdentDef) (more all : List IdentDef) (t : Option Typing) (v w total : Around) → all ≡ d ∷ more → w ≡ (one_variable d t v).around → (variables_with all t v).around ≡ total → (variables_with more t w).around ≡ total
more_variables_around d more all t v w total step is inv = then_around (one_variable d t v) (λ x. variables_with more t x) w total is (sym (ap (λ l. (variables_with l t v).around) step) ∙ inv)

pub more_variables_notes : (d : IdentDef) (more all : List IdentDef) (t : Option Typing) (v w : Around) (b c total : Notebook) → all ≡ d ∷ more → w ≡ (one_variable d t v).around → c ≡ book_after b (one_variable d t v).part.notes → book_after b (variables_with all t v).part.notes ≡ total → book_after c (variables_with more t w).part.notes ≡ total
more_variables_notes d more all t v w b c total step is noted inv = then_notes (one_variable d t v) (λ x. variables_with more t x) w b c total is noted (sym (ap (λ l. book_after b (variables_with l t v).part.notes) step) ∙ inv)

pub more_variables_contents : (d : IdentDef) (more all : List IdentDef) (t : Option Typing) (v w : Around) (b c total : Contents) → all ≡ d ∷ more → w ≡ (one_variable d t v).around → c ≡ together b (one_variable d t v).part.contents → together b (variables_with all t v).part.contents ≡ total → together c (variables_with more t w).part.contents ≡ total
more_variables_contents d more all t v w b c total step is added inv = then_contents (one_variable d t v) (λ x. variables_with more t x) w b c total is added (sym (ap (λ l. together b (variables_with l t v).part.contents) step) ∙ inv)

pub no_more_variables_around : (all : List IdentDef) (t : Option Typing) (v total : Around) → all ≡ [] → (variables_with all t v).around ≡ total → v ≡ total
no_more_variables_around all t v total e inv = ap (λ l. (variables_with l t v).around) (sym e) ∙ inv

pub no_more_variables_notes : (all : List IdentDef) (t : Option Typing) (v : Around) (b total : Notebook) → all ≡ [] → book_after b (variables_with all t v).part.notes ≡ total → b ≡ total
no_more_variables_notes all t v b total e inv = sym (after_none b) ∙ ap (λ l. book_after b (variables_with l t v).part.notes) (sym e) ∙ inv

pub no_more_variables_contents : (all : List IdentDef) (t : Option Typing) (v : Around) (b total : Contents) → all ≡ [] → together b (variables_with all t v).part.contents ≡ total → b ≡ total
no_more_variables_contents all t v b total e inv = adds_nothing b ∙ ap (λ l. together b (variables_with l t v).part.contents) (sym e) ∙ inv

-- of the type of variables no more is asked than what it is

only_paired : (u : Around) (x : Ident) (n : Notes) (m : Option Mark) (t : Typing) → variable_with u x n (paired_typing m (Some t)) ≡ variable_with u x n (paired_typing m (typing_only (Some t.of)))
only_paired u x n None t = refl
only_paired u x n (Some m) t = refl

same_behind : (a : Declared) (f g : Around → Declared) → f a.around ≡ g a.around → then_declared a f ≡ then_declared a g
same_behind a f g e = ap (behind_part a.part) e

pub only_type : (ds : List IdentDef) (t : Typing) (u : Around) → variables_with ds (typing_only (Some t.of)) u ≡ variables_with ds (Some t) u
only_type [] t u = refl
only_type (d ∷ ds) t u =
    ap (λ a. then_declared a (λ v. variables_with ds (typing_only (Some t.of)) v)) (sym (only_paired u d.ident (marked u true d).notes (marked u true d).node t))
    ∙ same_behind (one_variable d (Some t) u) (λ v. variables_with ds (typing_only (Some t.of)) v) (λ v. variables_with ds (Some t) v) (only_type ds t (one_variable d (Some t) u).around)

-- with the types that it makes
typed_same : (ds : List IdentDef) (t : Typing) (u v : Around) (ts : List TypedType) → v ≡ with_types u ts → ts ≡ t.made → variables_with ds (typing_only (Some t.of)) v ≡ variables_with ds (Some t) (with_types u t.made)
typed_same ds t u v ts e f = only_type ds t v ∙ ap (variables_with ds (Some t)) (e ∙ ap (with_types u) f)

pub sound_around : {T F : Type 0} (r : Result T F) (ds : List IdentDef) (t : Typing) (u v w : Around) (ts : List TypedType) → v ≡ with_types u ts → ts ≡ t.made → OnOk r (w ≡ (variables_with ds (typing_only (Some t.of)) v).around) → OnOk r (w ≡ (variables_with ds (Some t) (with_types u t.made)).around)
sound_around r ds t u v w ts e f h = let P : Declared → Type 0 = λ x. OnOk r (w ≡ x.around) in subst P (typed_same ds t u v ts e f) h

pub sound_notes : {T F : Type 0} (r : Result T F) (ds : List IdentDef) (t : Typing) (u v : Around) (ts : List TypedType) (b c : Notebook) → v ≡ with_types u ts → ts ≡ t.made → OnOk r (c ≡ book_after b (variables_with ds (typing_only (Some t.of)) v).part.notes) → OnOk r (c ≡ book_after b (variables_with ds (Some t) (with_types u t.made)).part.notes)
sound_notes r ds t u v ts b c e f h = let P : Declared → Type 0 = λ x. OnOk r (c ≡ book_after b x.part.notes) in subst P (typed_same ds t u v ts e f) h

pub sound_contents : {T F : Type 0} (r : Result T F) (ds : List IdentDef) (t : Typing) (u v : Around) (ts : List TypedType) (a b c : Contents) → v ≡ with_types u ts → ts ≡ t.made → b ≡ together a (holds_types t.made) → OnOk r (c ≡ together b (variables_with ds (typing_only (Some t.of)) v).part.contents) → OnOk r (c ≡ together a (together (holds_types t.made) (variables_with ds (Some t) (with_types u t.made)).part.contents))
sound_contents r ds t u v ts a b c e f g h =
    let X = (variables_with ds (Some t) (with_types u t.made)).part.contents in
    let P : Declared → Type 0 = λ x. OnOk r (c ≡ together b x.part.contents) in
    let Q : Contents → Type 0 = λ x. OnOk r (c ≡ x) in
    subst Q (ap (λ y. together y X) g ∙ added_in_turn a (holds_types t.made) X) (subst P (typed_same ds t u v ts e f) h)

-- TYPES

pub type_around_is : {T F : Type 0} (r : Result T F) (u v w : Around) (d : IdentDef) (n : Written) (m : Option Mark) (o : Option Typing) (x : List ℕ) (k : Mark) → v ≡ u → m ≡ (newly u d).node → x ≡ u.path ++ d.ident.name → k ≡ mark_or_hidden m → o ≡ (typing_as u x k n n.name).node → OnOk r (w ≡ declare (with_types v (types_made (paired m o))) d.ident (type_entity (paired m o))) → OnOk r (w ≡ type_around d n u)
unfolding type_around
type_around_is r u v w d n m o x k ev em ex ek eo h =
    let F : Around → Option (Mark × Typing) → Around = λ a p. declare (with_types a (types_made p)) d.ident (type_entity p) in
    let M = (newly u d).node in
    let typed : o ≡ (typing_as u (u.path ++ d.ident.name) (mark_or_hidden M) n n.name).node = eo ∙ ap (λ y. (typing_as u y k n n.name).node) ex ∙ ap (λ y. (typing_as u (u.path ++ d.ident.name) y n n.name).node) (ek ∙ ap mark_or_hidden em) in
    let Q : Around → Type 0 = λ y. OnOk r (w ≡ y) in
    subst Q (ap (λ a. F a (paired m o)) ev ∙ ap (F u) (ap (λ y. paired y o) em ∙ ap (paired M) typed)) h

pub type_opened : (d : IdentDef) (n : Written) (u : Around) → type_around d n u ≡ (type_declared d n u).around
unfolding type_around
type_opened d n u = refl

-- what is said of it
pub type_noted : {T F : Type 0} (r : Result T F) (u v : Around) (d : IdentDef) (n : Written) (m : Option Mark) (x : List ℕ) (k : Mark) (start marked_in typed_in b c e : Notebook) → start ≡ empty_book → marked_in ≡ book_after start (newly u d).notes → m ≡ (newly u d).node → x ≡ u.path ++ d.ident.name → k ≡ mark_or_hidden m
    → typed_in ≡ book_after marked_in (typing_as u x k n n.name).notes → v ≡ u → ((ns : Notes) → typed_in ≡ book_after empty_book ns → c ≡ book_after b (of_new v d.ident ns)) → OnOk r (e ≡ book_after c (twice v d.ident)) → OnOk r (e ≡ book_after b (type_declared d n u).part.notes)
type_noted r u v d n m x k start marked_in typed_in b c e new em node ex ek et ev keep h =
    let M = (newly u d).notes in
    let K = mark_or_hidden (newly u d).node in
    let N = (typing_as u (u.path ++ d.ident.name) K n n.name).notes in
    let typed : (typing_as u x k n n.name).notes ≡ N = ap (λ y. (typing_as u y k n n.name).notes) ex ∙ ap (λ y. (typing_as u (u.path ++ d.ident.name) y n n.name).notes) (ek ∙ ap mark_or_hidden node) in
    let said : typed_in ≡ book_after empty_book (joined M N) = et ∙ ap (book_after marked_in) typed ∙ ap (λ y. book_after y N) (em ∙ ap (λ y. book_after y M) new) ∙ after_joined empty_book M N in
    let F : Around → Notebook = λ a. book_after (book_after b (of_new a d.ident (joined M N))) (twice a d.ident) in
    let all : book_after c (twice v d.ident) ≡ book_after b (type_declared d n u).part.notes = ap (λ y. book_after y (twice v d.ident)) (keep (joined M N) said) ∙ ap F ev ∙ after_joined b (of_new u d.ident (joined M N)) (twice u d.ident) in
    let Q : Notebook → Type 0 = λ y. OnOk r (e ≡ y) in
    subst Q all h
