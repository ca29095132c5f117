-- Binding from what is around goes on rest from the start.
use Rattle.std.proofs.Common.{◌≡◌, ℕ, Bool, true, false, List, [], ◌∷◌, Option, Some, None, refl, sym, ap, subst, ◌∙◌}
use Rattle.std.specs.Prelude.{bytes_eq, not, ◌&&◌}
use Rattle.ob_tree.specs.declared.names.QName.{QName}
use Rattle.ob_types.specs.declared.desc.Method.{Method}
use Rattle.ob_types.specs.declared.typed.TypedType.{TypedType}
use Rattle.ob_rules.specs.declared.entity.Bound.{Bound}
use Rattle.ob_rules.specs.declared.notes.Notebook.{Notebook}
use Rattle.ob_rules.specs.declared.broken.Rule.TheVariants as rule
use Rattle.ob_rules.specs.Books.{book_after}
use Rattle.ob_rules.specs.Judged.{Notes, joined, no_notes, notes_if, broken_at}
use Rattle.ob_rules.specs.Shapes.{Map, Member, AField, AMethod, member, same_name}
use Rattle.ob_rules.specs.Names.{Around, map_of, type_desc, out_string}
use Rattle.ob_rules.specs.Headings.{Head, BoundAs, Binding, bind_one, bind_in, bind_by, bind_method, redefined, of_record, counts}
use Rattle.ob_rules.proofs.BookLaws.{after_none, after_joined}
use Rattle.ob_cdecl_bound.specs.Running.{Step, run, start, put, one, one_if, chosen, record_bound}

same_desc : (u : Around) (own x : List TypedType) (y : List Bound) (q : QName) (a b : Bool) → type_desc a b (record u { own = own; bound = y }) q ≡ type_desc a b (record u { own = own }) q
same_desc u own x y q true b = refl
same_desc u own x y q false true = refl
same_desc u own x y q false false = refl

pub same_map : (u : Around) (own x : List TypedType) (y : List Bound) → map_of (record u { own = own; bound = y }) ≡ map_of (record u { own = own })
same_map u own x y = λ i. λ q. same_desc u own x y q (bytes_eq q.«module» u.unit) (same_name q out_string) i

-- the same is bound, and of the notes those that are later
pub record Follows (n : Notes) (r t : Binding) : Type 0 where
  pub notes : Notes
  pub same : t ≡ record r { notes = notes }
  pub noted : (b : Notebook) → book_after b r.notes ≡ book_after (book_after b n) notes

abbrev pub Later : Notes → Notes → Notes → Type 0
Later n s t = (b : Notebook) → book_after b s ≡ book_after (book_after b n) t

abbrev pub Rebases : {X : Type 0} → Step X → Type 0
Rebases {X = X} f = (u : Around) (x : List TypedType) (y : List Bound) (s : Binding) (t n : Notes) (a : X) → Later n s.notes t → Follows n (f u s a) (f (record u { own = x; bound = y }) (record s { notes = t }) a)

later_more : (n s t m : Notes) → Later n s t → Later n (joined s m) (joined t m)
later_more n s t m h b = sym (after_joined b s m) ∙ ap (λ k. book_after k m) (h b) ∙ after_joined (book_after b n) t m

redefined_follows : (s : Binding) (t n : Notes) (h : Head) (b : BoundAs) → Later n s.notes t → (d : Bool) → Follows n (redefined d s h b) (redefined d (record s { notes = t }) h b)
redefined_follows s t n h b l true = record { notes = joined t (broken_at rule.UnmatchedRedefinition h.at); same = refl; noted = later_more n s.notes t (broken_at rule.UnmatchedRedefinition h.at) l }
redefined_follows s t n h b l false = record { notes = t; same = refl; noted = l }

method_follows : (u : Around) (x : List TypedType) (y : List Bound) (map : Map) (s : Binding) (t n : Notes) (h : Head) (b : BoundAs) → Later n s.notes t → (q : QName) (m : Method) (d : Bool) → Follows n (bind_method d u map s h b q m) (bind_method d (record u { own = x; bound = y }) map (record s { notes = t }) h b q m)
method_follows u x y map s t n h b l q m true = record { notes = t; same = refl; noted = l }
method_follows u x y map s t n h b l q m false = redefined_follows s t n h b l _

by_follows : (u : Around) (x : List TypedType) (y : List Bound) (map : Map) (s : Binding) (t n : Notes) (h : Head) (b : BoundAs) → Later n s.notes t → (m : Option Member) → Follows n (bind_by u map s h b m) (bind_by (record u { own = x; bound = y }) map (record s { notes = t }) h b m)
by_follows u x y map s t n h b l None = record { notes = t; same = refl; noted = l }
by_follows u x y map s t n h b l (Some (AField q f)) = record { notes = joined t (notes_if (not h.forward) rule.DeclaredTwice h.at); same = refl; noted = later_more n s.notes t (notes_if (not h.forward) rule.DeclaredTwice h.at) l }
by_follows u x y map s t n h b l (Some (AMethod q m)) = method_follows u x y map s t n h b l q m (bytes_eq q.object b.owner.object && bytes_eq q.«module» u.unit)

one_follows : (u : Around) (x : List TypedType) (y : List Bound) (s : Binding) (t n : Notes) (h : Head) → Later n s.notes t → (o : Option BoundAs) → Follows n (bind_one u s h o) (bind_one (record u { own = x; bound = y }) (record s { notes = t }) h o)
one_follows u x y s t n h l None = record { notes = t; same = refl; noted = l }
one_follows u x y s t n h l (Some b) =
    let m = map_of (record u { own = s.own }) in
    subst (λ k. Follows n (bind_in u m s h b) (bind_in (record u { own = x; bound = y }) k (record s { notes = t }) h b)) (sym (same_map u s.own x y)) (by_follows u x y m s t n h b l (member m b.owner h.name))

pub one_rebases : Rebases one
one_rebases u x y s t n h l = one_follows u x y s t n h l h.bound

chosen_follows : (u : Around) (x : List TypedType) (y : List Bound) (s : Binding) (t n : Notes) (h : Head) → Later n s.notes t → (d : Bool) → Follows n (one_if d u s h) (one_if d (record u { own = x; bound = y }) (record s { notes = t }) h)
chosen_follows u x y s t n h l true = one_rebases u x y s t n h l
chosen_follows u x y s t n h l false = record { notes = t; same = refl; noted = l }

pub chosen_rebases : (hs : List Head) (name : List ℕ) → Rebases (chosen hs name)
chosen_rebases hs name u x y s t n h l = chosen_follows u x y s t n h l (of_record name h && counts hs h)

pub run_rebases : {X : Type 0} (f : Step X) → Rebases f → (u : Around) (x : List TypedType) (y : List Bound) (s : Binding) (t n : Notes) (rest : List X) → Later n s.notes t → Follows n (run f u s rest) (run f (record u { own = x; bound = y }) (record s { notes = t }) rest)
run_rebases f r u x y s t n [] l = record { notes = t; same = refl; noted = l }
run_rebases f r u x y s t n (a ∷ rest) l =
    let w : Around = record u { own = x; bound = y } in
    let e = r u x y s t n a l in
    subst (λ k. Follows n (run f u (f u s a) rest) (run f w k rest)) (sym e.same) (run_rebases f r u x y (f u s a) e.notes n rest e.noted)

pub record_rebases : (hs : List Head) → Rebases (record_bound hs)
record_rebases hs u x y s t n name l = run_rebases (chosen hs name) (chosen_rebases hs name) u x y s t n hs l

-- A STEP OF A LOOP

-- from the start, one and then the rest
goes_on : {X : Type 0} (f : Step X) → Rebases f → (v : Around) (a : X) (rest : List X) → Follows (f v (start v) a).notes (run f v (start v) (a ∷ rest)) (run f (put v (f v (start v) a)) (start (put v (f v (start v) a))) rest)
goes_on f r v a rest =
    let s = f v (start v) a in
    run_rebases f r v s.own s.bound s no_notes s.notes rest (λ b. sym (after_none (book_after b s.notes)))

pub more_around : {X : Type 0} (f : Step X) → Rebases f → (v w total : Around) (a : X) (rest all : List X) → all ≡ a ∷ rest → w ≡ put v (f v (start v) a) → put v (run f v (start v) all) ≡ total → put w (run f w (start w) rest) ≡ total
more_around f r v w total a rest all step is inv =
    let e = goes_on f r v a rest in
    ap (λ x. put x (run f x (start x) rest)) is
    ∙ ap (λ k. put (put v (f v (start v) a)) k) e.same
    ∙ ap (λ l. put v (run f v (start v) l)) (sym step)
    ∙ inv

pub more_notes : {X : Type 0} (f : Step X) → Rebases f → (v w : Around) (a : X) (rest all : List X) (b c total : Notebook) → all ≡ a ∷ rest → w ≡ put v (f v (start v) a) → c ≡ book_after b (f v (start v) a).notes → book_after b (run f v (start v) all).notes ≡ total → book_after c (run f w (start w) rest).notes ≡ total
more_notes f r v w a rest all b c total step is noted inv =
    let e = goes_on f r v a rest in
    let N : Binding → Notes = λ k. k.notes in
    ap (λ x. book_after c (run f x (start x) rest).notes) is
    ∙ ap (λ k. book_after c (N k)) e.same
    ∙ ap (λ k. book_after k e.notes) noted
    ∙ sym (e.noted b)
    ∙ ap (λ l. book_after b (run f v (start v) l).notes) (sym step)
    ∙ inv

pub no_more_around : {X : Type 0} (f : Step X) (v total : Around) (all : List X) → all ≡ [] → put v (run f v (start v) all) ≡ total → v ≡ total
no_more_around f v total all end inv = ap (λ l. put v (run f v (start v) l)) (sym end) ∙ inv

pub no_more_notes : {X : Type 0} (f : Step X) (v : Around) (all : List X) (b total : Notebook) → all ≡ [] → book_after b (run f v (start v) all).notes ≡ total → b ≡ total
no_more_notes f v all b total end inv = sym (after_none b) ∙ ap (λ l. book_after b (run f v (start v) l).notes) (sym end) ∙ inv
