-- Maps by names, and the index over two of them.
use Rattle.std.proofs.Common.{◌≡◌, ◌≢◌, ℕ, Bool, true, false, List, [], Option, Some, None, Result, Ok, Err, OnOk, OnErr, refl, sym, ap, subst, ◌∙◌, arith}
use Rattle.std.specs.Prelude.{◌&&◌, nat_eq, if◌then◌else◌, Vec}
use Rattle.std.specs.Option.{option_or}
use Rattle.std.specs.Ordering.{nat_cmp}
use Rattle.std.specs.Cmp.{Equal-is}
use Rattle.std.specs.Cmp.Lexicographic.{slice_cmp}
use Rattle.std.specs.declared.cmp.Ordering.{Ordering}
use Rattle.std.specs.BTreeMap.{UpdatesBy}
use Rattle.std.specs.Map.{KeepsOthers, lookup}
use Rattle.std.specs.declared.alloc.Global.{Global}
use Rattle.std.proofs.lemmas.Bool.Decides.{nat_tests}
use Rattle.std.proofs.lemmas.Map.Lookups.{exact_bytes}
use Rattle.ob_tree.specs.declared.names.QName.{QName}
use Rattle.ob_obj.specs.Images.{same}
use Rattle.ob_machine_image.specs.Index.{Held, Numbers, Modules, at_name, in_numbers, number_of, same_type, Puts, PutsType, Notes, Forgets, IsAsBefore, without}

-- NAMES

pub equal_names : (a b : List ℕ) → same a b ≡ true → a ≡ b
equal_names a b e = exact_bytes a b ((Equal-is (slice_cmp nat_cmp a b)).0 e)

both : (a b : Bool) → a && b ≡ true → (a ≡ true) × (b ≡ true)
both true true e = (refl, refl)
both true false e = absurd cc
both false b e = absurd cc

-- ONE MAP

abbrev by_items : Vec ℕ Global → Vec ℕ Global → Ordering
by_items x y = slice_cmp nat_cmp x.items y.items

other_name : {X : Type 0} (name n : List ℕ) (old new : Held X) (w : Option X) → UpdatesBy by_items (λ k. slice_cmp nat_cmp name k.items) old new w → same n name ≡ false → at_name new n ≡ at_name old n
unfolding KeepsOthers
other_name name n old new w h e = h.3 (λ k. same n k.items) (λ x y t. ap (λ l. same l y.items) (equal_names n x.items t)) (λ k t. subst (λ l. same n l ≡ false) (equal_names name k.items t) e)

pub puts : {X : Type 0} (name : List ℕ) (old new : Held X) (w : Option X) → UpdatesBy by_items (λ k. slice_cmp nat_cmp name k.items) old new w → Puts old new name w
puts name old new w h n = go (same n name) refl
  where
    go : (b : Bool) → same n name ≡ b → at_name new n ≡ (if b then w else at_name old n)
    go true e = subst (λ l. at_name new l ≡ w) (sym (equal_names n name e)) h.1
    go false e = other_name name n old new w h e

pub puts_at : {X : Type 0} (bytes name : List ℕ) (old new : Held X) (w : Option X) → bytes ≡ name → UpdatesBy by_items (λ k. slice_cmp nat_cmp bytes k.items) old new w → Puts old new name w
puts_at bytes name old new w e h = subst (λ l. Puts old new l w) e (puts bytes old new w h)

-- the same entries
pub same_at : {X : Type 0} (old new : Held X) (n : List ℕ) → new.entries ≡ old.entries → at_name new n ≡ at_name old n
same_at old new n e = ap (λ es. lookup (λ k. same n k.items) es) e

-- what stands at the module is what was found there
pub was_there : (old : Modules) (bytes m n : List ℕ) (inner : Numbers) → bytes ≡ m → Some inner ≡ at_name old bytes → in_numbers (at_name old m) n ≡ at_name inner n
was_there old bytes m n inner e h = ap (λ o. in_numbers o n) (sym (subst (λ l. Some inner ≡ at_name old l) e h))

pub was_empty : (old : Modules) (bytes m n : List ℕ) (inner : Numbers) → bytes ≡ m → None ≡ at_name old bytes → inner.entries ≡ [] → in_numbers (at_name old m) n ≡ at_name inner n
was_empty old bytes m n inner e h empty = ap (λ o. in_numbers o n) (sym (subst (λ l. None ≡ at_name old l) e h)) ∙ sym (ap (λ es. lookup (λ k. same n k.items) es) empty)

-- a clause at the same result
pub on_ok : {T E : Type 0} (r : Result T E) (P Q : Type 0) → OnOk r P → (P → Q) → OnOk r Q
on_ok (Ok x) P Q h f = f h
on_ok (Err e) P Q h f = tt

pub on_err : {T E : Type 0} (r : Result T E) (P Q : Type 0) → OnErr r P → (P → Q) → OnErr r Q
on_err (Ok x) P Q h f = tt
on_err (Err e) P Q h f = f h

-- TWO MAPS

pub put_in : (old new : Modules) (r : QName) (inner after : Numbers) (w : Option ℕ) → Puts old new r.«module» (Some after) → Puts inner after r.object w → ((n : List ℕ) → in_numbers (at_name old r.«module») n ≡ at_name inner n) → PutsType old new r w
put_in old new r inner after w outer put was q = go (same q.«module» r.«module») refl
  where
    go : (b : Bool) → same q.«module» r.«module» ≡ b → number_of new q ≡ (if b && same q.object r.object then w else number_of old q)
    go true e =
        let there : at_name new q.«module» ≡ Some after = outer q.«module» ∙ ap (λ b. if b then Some after else at_name old q.«module») e in
        let before : number_of old q ≡ at_name inner q.object = ap (λ l. in_numbers (at_name old l) q.object) (equal_names q.«module» r.«module» e) ∙ was q.object in
        ap (λ o. in_numbers o q.object) there ∙ put q.object ∙ ap (λ x. if same q.object r.object then w else x) (sym before)
    go false e = ap (λ o. in_numbers o q.object) (outer q.«module» ∙ ap (λ b. if b then Some after else at_name old q.«module») e)

pub same_in : (old new : Modules) (m : List ℕ) (after : Numbers) → Puts old new m (Some after) → ((n : List ℕ) → at_name after n ≡ in_numbers (at_name old m) n) → IsAsBefore old new
same_in old new m after outer kept q = go (same q.«module» m) refl
  where
    go : (b : Bool) → same q.«module» m ≡ b → number_of new q ≡ number_of old q
    go true e = ap (λ o. in_numbers o q.object) (outer q.«module» ∙ ap (λ b. if b then Some after else at_name old q.«module») e) ∙ kept q.object ∙ ap (λ l. in_numbers (at_name old l) q.object) (sym (equal_names q.«module» m e))
    go false e = ap (λ o. in_numbers o q.object) (outer q.«module» ∙ ap (λ b. if b then Some after else at_name old q.«module») e)

-- a map that has nothing at the module has nothing at its types
pub none_there : (modules : Modules) (r : QName) (bytes : List ℕ) → bytes ≡ r.«module» → None ≡ at_name modules bytes → PutsType modules modules r None
none_there modules r bytes is none q = go (same_type q r) refl
  where
    here : at_name modules r.«module» ≡ None
    here = sym (subst (λ l. None ≡ at_name modules l) is none)

    go : (b : Bool) → same_type q r ≡ b → number_of modules q ≡ (if b then None else number_of modules q)
    go true e =
        let p = both (same q.«module» r.«module») (same q.object r.object) e in
        ap (λ l. in_numbers (at_name modules l) q.object) (equal_names q.«module» r.«module» p.0) ∙ ap (λ o. in_numbers o q.object) here
    go false e = refl

-- NOTING AND FORGETTING

number_same : (modules : Modules) (q r : QName) → same_type q r ≡ true → number_of modules q ≡ number_of modules r
number_same modules q r e =
    let p = both (same q.«module» r.«module») (same q.object r.object) e in
    ap (λ l. in_numbers (at_name modules l) q.object) (equal_names q.«module» r.«module» p.0) ∙ ap (λ l. in_numbers (at_name modules r.«module») l) (equal_names q.object r.object p.1)

pub none_else : (o : Option ℕ) → option_or o None ≡ o
none_else None = refl
none_else (Some n) = refl

pub notes_new : (old new : Modules) (r : QName) (number : ℕ) → number_of old r ≡ None → PutsType old new r (Some number) → Notes old new r number
notes_new old new r number none put q = go (same_type q r) refl
  where
    go : (b : Bool) → same_type q r ≡ b → number_of new q ≡ option_or (number_of old q) (if b then Some number else None)
    go true e = put q ∙ ap (λ b. if b then Some number else number_of old q) e ∙ sym (ap (λ o. option_or o (Some number)) (number_same old q r e ∙ none))
    go false e = put q ∙ ap (λ b. if b then Some number else number_of old q) e ∙ sym (none_else (number_of old q))

pub notes_none : (modules : Modules) (r : QName) (number n : ℕ) → number_of modules r ≡ Some n → Notes modules modules r number
notes_none modules r number n there q = go (same_type q r) refl
  where
    go : (b : Bool) → same_type q r ≡ b → number_of modules q ≡ option_or (number_of modules q) (if b then Some number else None)
    go true e = let f = number_same modules q r e ∙ there in f ∙ sym (ap (λ o. option_or o (Some number)) f)
    go false e = sym (none_else (number_of modules q))

pub this_one : (n : ℕ) → without n (Some n) ≡ None
this_one n = let e : nat_eq n n ≡ true = grind (arith, nat_tests) in ap (λ b. if b then None else Some n) e

pub another : (number n : ℕ) → n ≢ number → without number (Some n) ≡ Some n
another number n ne = let e : nat_eq n number ≡ false = grind (arith, nat_tests) in ap (λ b. if b then None else Some n) e

pub forgets_it : (old new : Modules) (r : QName) (number : ℕ) → number_of old r ≡ Some number → PutsType old new r None → Forgets old new r number
forgets_it old new r number there put q = go (same_type q r) refl
  where
    go : (b : Bool) → same_type q r ≡ b → number_of new q ≡ (if b then without number (number_of old q) else number_of old q)
    go true e = put q ∙ ap (λ b. if b then None else number_of old q) e ∙ sym (ap (without number) (number_same old q r e ∙ there) ∙ this_one number)
    go false e = put q ∙ ap (λ b. if b then None else number_of old q) e

forgets_none : (modules : Modules) (r : QName) (number : ℕ) → without number (number_of modules r) ≡ number_of modules r → Forgets modules modules r number
forgets_none modules r number kept q = go (same_type q r) refl
  where
    go : (b : Bool) → same_type q r ≡ b → number_of modules q ≡ (if b then without number (number_of modules q) else number_of modules q)
    go true e = let f = number_same modules q r e in f ∙ sym kept ∙ sym (ap (without number) f)
    go false e = refl

pub forgets_another : (modules : Modules) (r : QName) (number n : ℕ) → number_of modules r ≡ Some n → n ≢ number → Forgets modules modules r number
forgets_another modules r number n there ne = forgets_none modules r number (ap (without number) there ∙ another number n ne ∙ sym there)

pub forgets_nothing : (modules : Modules) (r : QName) (number : ℕ) → number_of modules r ≡ None → Forgets modules modules r number
forgets_nothing modules r number none = forgets_none modules r number (ap (without number) none ∙ sym none)
