-- A walk by steps over a path that is kept in a list.
use Rattle.std.proofs.Common.{◌≡◌, ℕ, zero, suc, ◌+◌, ◌-◌, ◌<◌, true, false, List, [], ◌∷◌, ◌++◌, length, Some, None, Result, Ok, Err, refl, sym, ap, ◌∙◌, arith}
use Rattle.std.specs.Prelude.{if◌then◌else◌}
use Rattle.ob_tree.specs.declared.print.Print.{Print}
use Rattle.ob_obj.specs.declared.file.ObjFile.{ObjFile}
use Rattle.ob_link.specs.declared.walking.Frame.{Frame}
use Rattle.ob_link.specs.Walk.{Steps, visit, has, enters, all_in_turn, and_then, leaves}
use Rattle.ob_link.specs.Plan.{Refusal}
use Rattle.ob_link.specs.Walking.{Opened, open_of, stack_on, path_of, resume, visits}

abbrev pub Step : Type 0
Step = Steps ObjFile (Refusal Print)

pub chained : {A B C R : Type 0} (x : Result A R) (f : A → Result B R) (g : B → Result C R) → and_then (and_then x f) g ≡ and_then x (λ a. and_then (f a) g)
chained (Ok a) f g = refl
chained (Err r) f g = refl

-- ONE VISIT

pub visit_more : (s : Step) (d : ℕ) (path : List (List ℕ)) (name : List ℕ) (left : List ObjFile) → 0 < d → visit s d path name left ≡ (if s.passes left name then Ok left else if has name path then Err (s.cycles path name) else enters s (visit s (d - 1) (name ∷ path)) (s.finds left path name) left)
unfolding visit
visit_more s zero path name left lt = absurd (omega arith)
visit_more s (suc d) path name left lt = let e : suc d - 1 ≡ d = omega arith in rw e refl

some_deep : (deep : ℕ) (os : List Opened) → length os < deep → 0 < deep - length os
some_deep deep os lt = omega arith

-- a module that is passed over
pub passed : (s : Step) (deep : ℕ) (os : List Opened) (name : List ℕ) (left : List ObjFile) → length os < deep → s.passes left name ≡ true → visits s deep os name left ≡ resume s deep os left
passed s deep os name left lt e = ap (λ x. and_then x (resume s deep os)) (visit_more s (deep - length os) (path_of os) name left (some_deep deep os lt) ∙ ap (λ b. if b then Ok left else if has name (path_of os) then Err (s.cycles (path_of os) name) else enters s (visit s (deep - length os - 1) (name ∷ path_of os)) (s.finds left (path_of os) name) left) e)

-- a module that stands on the path
pub circled : (s : Step) (deep : ℕ) (os : List Opened) (name : List ℕ) (left : List ObjFile) → length os < deep → s.passes left name ≡ false → has name (path_of os) ≡ true → visits s deep os name left ≡ Err (s.cycles (path_of os) name)
circled s deep os name left lt e h = ap (λ x. and_then x (resume s deep os)) (visit_more s (deep - length os) (path_of os) name left (some_deep deep os lt) ∙ ap (λ b. if b then Ok left else if has name (path_of os) then Err (s.cycles (path_of os) name) else enters s (visit s (deep - length os - 1) (name ∷ path_of os)) (s.finds left (path_of os) name) left) e ∙ ap (λ b. if b then Err (s.cycles (path_of os) name) else enters s (visit s (deep - length os - 1) (name ∷ path_of os)) (s.finds left (path_of os) name) left) h)

pub searched : (s : Step) (deep : ℕ) (os : List Opened) (name : List ℕ) (left : List ObjFile) → length os < deep → s.passes left name ≡ false → has name (path_of os) ≡ false → visits s deep os name left ≡ and_then (enters s (visit s (deep - length os - 1) (name ∷ path_of os)) (s.finds left (path_of os) name) left) (resume s deep os)
searched s deep os name left lt e h = ap (λ x. and_then x (resume s deep os)) (visit_more s (deep - length os) (path_of os) name left (some_deep deep os lt) ∙ ap (λ b. if b then Ok left else if has name (path_of os) then Err (s.cycles (path_of os) name) else enters s (visit s (deep - length os - 1) (name ∷ path_of os)) (s.finds left (path_of os) name) left) e ∙ ap (λ b. if b then Err (s.cycles (path_of os) name) else enters s (visit s (deep - length os - 1) (name ∷ path_of os)) (s.finds left (path_of os) name) left) h)

-- a module for which nothing is found
pub refused : (s : Step) (deep : ℕ) (os : List Opened) (name : List ℕ) (left : List ObjFile) (r : Refusal Print) → length os < deep → s.passes left name ≡ false → has name (path_of os) ≡ false → s.finds left (path_of os) name ≡ Err r → visits s deep os name left ≡ Err r
refused s deep os name left r lt e h f = searched s deep os name left lt e h ∙ ap (λ x. and_then (enters s (visit s (deep - length os - 1) (name ∷ path_of os)) x left) (resume s deep os)) f

-- a module that is entered
pub opened : (s : Step) (deep : ℕ) (os : List Opened) (name : List ℕ) (left : List ObjFile) (x : ObjFile) → length os < deep → s.passes left name ≡ false → has name (path_of os) ≡ false → s.finds left (path_of os) name ≡ Ok x → x.head.«module» ≡ name → visits s deep os name left ≡ resume s deep ((x, s.imports x) ∷ os) left
unfolding resume
opened s deep os name left x lt e h f n =
    let d : deep - length os - 1 ≡ deep - suc (length os) = omega arith in
    searched s deep os name left lt e h ∙ ap (λ y. and_then (enters s (visit s (deep - length os - 1) (name ∷ path_of os)) y left) (resume s deep os)) f ∙ ap (λ k. and_then (enters s (visit s k (name ∷ path_of os)) (Ok x) left) (resume s deep os)) d ∙ ap (λ m. and_then (enters s (visit s (deep - suc (length os)) (m ∷ path_of os)) (Ok x) left) (resume s deep os)) (sym n)

-- THE REST OF A WALK

-- to the next import
pub goes_on : (s : Step) (deep : ℕ) (x : ObjFile) (n : List ℕ) (ns : List (List ℕ)) (os : List Opened) (left : List ObjFile) → resume s deep ((x, n ∷ ns) ∷ os) left ≡ visits s deep ((x, ns) ∷ os) n left
unfolding resume
goes_on s deep x n ns os left =
    let v = visit s (deep - suc (length os)) (x.head.«module» ∷ path_of os) in
    let leave = λ (now : List ObjFile). leaves (s.refuses now x) x now in
    chained (all_in_turn v (n ∷ ns) left) leave (resume s deep os) ∙ chained (v n left) (all_in_turn v ns) (λ now. and_then (leave now) (resume s deep os)) ∙ ap (and_then (v n left)) (λ i l. sym (chained (all_in_turn v ns l) leave (resume s deep os)) i)

-- a file whose imports are done
pub left_by : (s : Step) (deep : ℕ) (x : ObjFile) (os : List Opened) (left : List ObjFile) → s.refuses left x ≡ None → resume s deep ((x, []) ∷ os) left ≡ resume s deep os (left ++ x ∷ [])
unfolding resume
left_by s deep x os left e = ap (λ o. and_then (leaves o x left) (resume s deep os)) e

pub stopped : (s : Step) (deep : ℕ) (x : ObjFile) (os : List Opened) (left : List ObjFile) (r : Refusal Print) → s.refuses left x ≡ Some r → resume s deep ((x, []) ∷ os) left ≡ Err r
unfolding resume
stopped s deep x os left r e = ap (λ o. and_then (leaves o x left) (resume s deep os)) e

pub over : (s : Step) (deep : ℕ) (left : List ObjFile) → resume s deep [] left ≡ Ok left
unfolding resume
over s deep left = refl

-- THE PATH

pub stack_more : (os : List Opened) (fs : List Frame) (f : Frame) → stack_on os (fs ++ f ∷ []) ≡ open_of f ∷ stack_on os fs
stack_more os [] f = refl
stack_more os (g ∷ fs) f = stack_more (open_of g ∷ os) fs f

pub stack_length : (os : List Opened) (fs : List Frame) → length (stack_on os fs) ≡ length os + length fs
stack_length os [] = omega arith
stack_length os (f ∷ fs) = let h = stack_length (open_of f ∷ os) fs in omega (arith, h)
