-- A name with nothing behind it, as a designator.
use Rattle.std.proofs.Common.{◌≡◌, refl, sym, ap, ◌∙◌, Bool, true, false, List, [], Option, Some, None, Result, IfOk, OnOk, ◌==◌, length, map, subst}
use Rattle.std.proofs.lemmas.Bool.{eqb-true}
use Rattle.std.proofs.lemmas.List.{nil_from_length}
use Rattle.ob_tree.specs.declared.expr.Designator.{Designator}
use Rattle.ob_tree.specs.declared.expr.Selector.{Selector}
use Rattle.ob_tree.specs.declared.pos.Pos.{Pos}
use Rattle.ob_tree.specs.declared.ident.Ident.{Ident}
use Rattle.ob_rules.specs.declared.entity.Entity.{Entity}
use Rattle.ob_rules.specs.declared.meant.Meant.{Meant}
use Rattle.ob_rules.specs.declared.meant.Where.{Where}
use Rattle.ob_rules.specs.declared.notes.Notebook.{Notebook}
use Rattle.ob_rules.specs.Books.{book_after}
use Rattle.ob_rules.specs.Judged.{Judged, Notes, joined, made, no_notes, noted, ◌▷◌}
use Rattle.ob_rules.specs.Names.{Around, named}
use Rattle.ob_rules.specs.Phrases.{Behind}
use Rattle.ob_rules.specs.Designators.{behind, designates, front, front_of, from_front, is_module}
use Rattle.ob_rules.specs.Expressions.{behind_of, meant_by, named_of}
use Rattle.ob_rules.proofs.BookLaws.{after_none, after_joined}
use Rattle.ob_cexpr_trait.proofs.NamedViews.{named_is}

-- notes, and then nothing
then_none : (b : Notebook) (n : Notes) → book_after b (joined n no_notes) ≡ book_after b n
then_none b n = sym (after_joined b n no_notes) ∙ after_none (book_after b n)

-- a front that says o, and n before
abbrev fronted : Notes → Bool → Option Meant → Notes → Judged (Meant × List Behind)
fronted n taken m o = noted n (made (λ x. (x, behind taken [])) (record { node = m; notes = o }))

front_node : {A : Type 0} (u : Around) (w : Where) (at : Pos) (n : Notes) (taken : Bool) (m : Option Meant) (o : Notes) (f : Meant → Judged A)
    → (from_front u w at [] (fronted n taken m o) ▷ f).node ≡ (record { node = m; notes = o } ▷ f).node
front_node u w at n taken None o f = refl
front_node u w at n true (Some x) o f = refl
front_node u w at n false (Some x) o f = refl

none_noted : (b : Notebook) (n o : Notes) → book_after b (joined (joined (joined n (joined o no_notes)) (joined no_notes no_notes)) no_notes) ≡ book_after b (joined n (joined o no_notes))
none_noted b n o =
    let k = joined n (joined o no_notes) in
    then_none b (joined k (joined no_notes no_notes)) ∙ sym (after_joined b k (joined no_notes no_notes)) ∙ then_none (book_after b k) no_notes ∙ after_none (book_after b k)

some_noted : (b : Notebook) (n o p : Notes) → book_after b (joined (joined (joined n (joined o no_notes)) no_notes) p) ≡ book_after b (joined n (joined o p))
some_noted b n o p =
    let k = joined n (joined o no_notes) in
    sym (after_joined b (joined k no_notes) p)
    ∙ ap (λ y. book_after y p) (then_none b k ∙ sym (after_joined b n (joined o no_notes)) ∙ then_none (book_after b n) o)
    ∙ after_joined (book_after b n) o p ∙ after_joined b n (joined o p)

front_noted : {A : Type 0} (u : Around) (w : Where) (at : Pos) (b : Notebook) (n : Notes) (taken : Bool) (m : Option Meant) (o : Notes) (f : Meant → Judged A)
    → book_after b (from_front u w at [] (fronted n taken m o) ▷ f).notes ≡ book_after b (joined n (record { node = m; notes = o } ▷ f).notes)
front_noted u w at b n taken None o f = none_noted b n o
front_noted u w at b n true (Some x) o f = some_noted b n o (f x).notes
front_noted u w at b n false (Some x) o f = some_noted b n o (f x).notes

abbrev named_by : Option Entity → Notes → Judged Entity
named_by e n = record { node = e; notes = n }

named_node : {A : Type 0} (u : Around) (w : Where) (x : Ident) (e : Option Entity) (n : Notes) (f : Meant → Judged A)
    → (from_front u w x.pos [] (front u x [] (named_by e n)) ▷ f).node ≡ (named_by e n ▷ λ k. front_of u x k None ▷ f).node
named_node u w x None n f = refl
named_node u w x (Some k) n f = front_node u w x.pos n (is_module k) (front_of u x k None).node (front_of u x k None).notes f

named_noted : {A : Type 0} (u : Around) (w : Where) (x : Ident) (b : Notebook) (e : Option Entity) (n : Notes) (f : Meant → Judged A)
    → book_after b (from_front u w x.pos [] (front u x [] (named_by e n)) ▷ f).notes ≡ book_after b (named_by e n ▷ λ k. front_of u x k None ▷ f).notes
named_noted u w x b None n f =
    let k = joined n no_notes in
    then_none b (joined k (joined no_notes no_notes)) ∙ sym (after_joined b k (joined no_notes no_notes)) ∙ then_none (book_after b k) no_notes ∙ after_none (book_after b k)
named_noted u w x b (Some k) n f = front_noted u w x.pos b n (is_module k) (front_of u x k None).node (front_of u x k None).notes f

-- a designator says what its name says, and then what that stands for
designates_node : {A : Type 0} (u : Around) (w : Where) (x : Ident) (f : Meant → Judged A) → (designates u w x [] ▷ f).node ≡ (named u x ▷ λ k. front_of u x k None ▷ f).node
designates_node u w x f = named_node u w x (named u x).node (named u x).notes f

designates_noted : {A : Type 0} (u : Around) (w : Where) (x : Ident) (b : Notebook) (f : Meant → Judged A) → book_after b (designates u w x [] ▷ f).notes ≡ book_after b (named u x ▷ λ k. front_of u x k None ▷ f).notes
designates_noted u w x b f = named_noted u w x b (named u x).node (named u x).notes f

no_selector : (d : Designator) (ss : List Selector) → ss ≡ d.selectors → true ≡ (length ss == 0) → d.selectors ≡ []
no_selector d ss e t = sym e ∙ nil_from_length ss (eqb-true (length ss) 0 (sym t))

alone_node : {A : Type 0} (u : Around) (w : Where) (d : Designator) (ss : List Selector) (f : Pos → Meant → Judged A) → ss ≡ d.selectors → true ≡ (length ss == 0)
    → (named u d.ident ▷ λ k. front_of u d.ident k None ▷ f d.ident.pos).node ≡ (meant_by w (named_of d) u ▷ f (named_of d).ident.pos).node
alone_node u w d ss f e t =
    sym (designates_node u w d.ident (f d.ident.pos))
    ∙ ap (λ s. (designates u w d.ident (map behind_of s) ▷ f d.ident.pos).node) (sym (no_selector d ss e t))
    ∙ ap (λ n. (meant_by w n u ▷ f n.ident.pos).node) (sym (named_is d))

alone_noted : {A : Type 0} (u : Around) (w : Where) (d : Designator) (ss : List Selector) (f : Pos → Meant → Judged A) (b : Notebook) → ss ≡ d.selectors → true ≡ (length ss == 0)
    → book_after b (named u d.ident ▷ λ k. front_of u d.ident k None ▷ f d.ident.pos).notes ≡ book_after b (meant_by w (named_of d) u ▷ f (named_of d).ident.pos).notes
alone_noted u w d ss f b e t =
    sym (designates_noted u w d.ident b (f d.ident.pos))
    ∙ ap (λ s. book_after b (designates u w d.ident (map behind_of s) ▷ f d.ident.pos).notes) (sym (no_selector d ss e t))
    ∙ ap (λ n. book_after b (meant_by w n u ▷ f n.ident.pos).notes) (sym (named_is d))

-- what is made of a name alone is made of the designator
pub alone_made : {A E : Type 0} (u : Around) (w : Where) (d : Designator) (ss : List Selector) (f : Pos → Meant → Judged A) (r : Result (Option A) E) (x : Ident) → x ≡ d.ident → ss ≡ d.selectors → true ≡ (length ss == 0)
    → IfOk r (λ o. o ≡ (named u x ▷ λ k. front_of u x k None ▷ λ m. f x.pos m).node) → IfOk r (λ o. o ≡ (meant_by w (named_of d) u ▷ λ m. f (named_of d).ident.pos m).node)
alone_made u w d ss f r x i e t h = subst (λ z. IfOk r (λ o. o ≡ z)) (ap (λ (y : Ident). (named u y ▷ λ k. front_of u y k None ▷ λ m. f y.pos m).node) i ∙ alone_node u w d ss f e t) h

pub alone_said : {A T E : Type 0} (u : Around) (w : Where) (d : Designator) (ss : List Selector) (f : Pos → Meant → Judged A) (r : Result T E) (b n : Notebook) (x : Ident) → x ≡ d.ident → ss ≡ d.selectors → true ≡ (length ss == 0)
    → OnOk r (n ≡ book_after b (named u x ▷ λ k. front_of u x k None ▷ λ m. f x.pos m).notes) → OnOk r (n ≡ book_after b (meant_by w (named_of d) u ▷ λ m. f (named_of d).ident.pos m).notes)
alone_said u w d ss f r b n x i e t h = subst (λ z. OnOk r (n ≡ z)) (ap (λ (y : Ident). book_after b (named u y ▷ λ k. front_of u y k None ▷ λ m. f y.pos m).notes) i ∙ alone_noted u w d ss f b e t) h
