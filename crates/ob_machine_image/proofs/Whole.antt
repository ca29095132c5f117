-- Each descriptor is of a module, and each module names types that are there, when one is entered or cut.
use Rattle.std.proofs.Common.{◌≡◌, ℕ, zero, suc, ◌*◌, ◌^◌, ◌<◌, ◌≤◌, Bool, true, false, List, [], ◌∷◌, ◌++◌, length, take, None, refl, ap, subst, ◌∙◌, arith, ⊎_elim}
use Rattle.std.specs.Prelude.{slice_get, if◌then◌else◌}
use Rattle.std.specs.List.{AllByRecursion}
use Rattle.std.specs.Ordering.{is_eq, ordering_reverse, nat_cmp}
use Rattle.std.specs.Cmp.Lexicographic.{slice_cmp}
use Rattle.std.specs.declared.cmp.Ordering.{Ordering}
use Rattle.std.specs.declared.cmp.Ordering.TheVariants.{Less, Equal, Greater}
use Rattle.std.proofs.lemmas.Cmp.{nat_list_cmp_total}
use Rattle.std.proofs.lemmas.Bool.{cases_lt}
use Rattle.std.proofs.Math.Seq.{take-length}
use Rattle.std.proofs.lemmas.List.{length-append, length-take, take-append-le, take_all}
use Rattle.ob_tdesc.specs.declared.descriptor.Descriptor.{Descriptor}
use Rattle.ob_instr.specs.Image.{ModuleImage, Image}
use Rattle.ob_obj.specs.declared.parts.RecordType.{RecordType}
use Rattle.ob_obj.specs.declared.file.ObjFile.{ObjFile}
use Rattle.ob_obj.specs.Images.{same, entered, module_of, type_links, with_types, descriptor_of, module_from, IsEnterable}
use Rattle.ob_machine_image.specs.Cut.{has, types_of, first_of, cut_to}
use Rattle.ob_machine_image.specs.Room.{room}
use Rattle.ob_machine_image.specs.Whole.{IsImage}
use Rattle.ob_machine_image.proofs.Standing.{with_types_length}

-- NAMES

equal_to_itself : (o : Ordering) → o ≡ ordering_reverse o → is_eq o ≡ true
equal_to_itself Less e = absurd cc
equal_to_itself Equal e = refl
equal_to_itself Greater e = absurd cc

same_itself : (name : List ℕ) → same name name ≡ true
same_itself name = equal_to_itself (slice_cmp nat_cmp name name) (nat_list_cmp_total.antisymm name name)

has_more : (xs ys : List ModuleImage) (name : List ℕ) → has xs name ≡ true → has (xs ++ ys) name ≡ true
has_more [] ys name h = absurd cc
has_more (u ∷ xs) ys name h = go (same name u.name) refl (λ t. has_more xs ys name t)
  where
    go : (b : Bool) → same name u.name ≡ b → (has xs name ≡ true → has (xs ++ ys) name ≡ true) → has (u ∷ (xs ++ ys)) name ≡ true
    go true e rest = rw e refl
    go false e rest = rw e (rest (rw e at h))

has_last : (xs : List ModuleImage) (u : ModuleImage) → has (xs ++ u ∷ []) u.name ≡ true
has_last [] u = rw (same_itself u.name) refl
has_last (v ∷ xs) u = go (same u.name v.name) refl (has_last xs u)
  where
    go : (b : Bool) → same u.name v.name ≡ b → has (xs ++ u ∷ []) u.name ≡ true → has (v ∷ (xs ++ u ∷ [])) u.name ≡ true
    go true e rest = rw e refl
    go false e rest = rw e rest

has_taken : (xs : List ModuleImage) (j k : ℕ) (name : List ℕ) → j ≤ k → has (take j xs) name ≡ true → has (take k xs) name ≡ true
has_taken xs zero k name le h = absurd cc
has_taken [] (suc j) k name le h = absurd cc
has_taken (u ∷ xs) (suc j) zero name le h = absurd (omega arith)
has_taken (u ∷ xs) (suc j) (suc k) name le h = go (same name u.name) refl (λ t. has_taken xs j k name (omega arith) t)
  where
    go : (b : Bool) → same name u.name ≡ b → (has (take j xs) name ≡ true → has (take k xs) name ≡ true) → has (u ∷ take k xs) name ≡ true
    go true e rest = rw e refl
    go false e rest = rw e (rest (rw e at h))

-- DESCRIPTORS OF MODULES

-- what is of some modules is of more
abbrev Wider : List ModuleImage → List ModuleImage → Type 0
Wider ms ns = (name : List ℕ) → has ms name ≡ true → has ns name ≡ true

of_fewer : (ms ns : List ModuleImage) (types : List Descriptor) → Wider ms ns → types_of ms (types_of ns types) ≡ types_of ms types
of_fewer ms ns [] w = refl
of_fewer ms ns (d ∷ types) w = go (has ms d.«module») refl (has ns d.«module») refl (of_fewer ms ns types w)
  where
    go : (b : Bool) → has ms d.«module» ≡ b → (c : Bool) → has ns d.«module» ≡ c → types_of ms (types_of ns types) ≡ types_of ms types → types_of ms (types_of ns (d ∷ types)) ≡ types_of ms (d ∷ types)
    go true e true f rest = rw f (rw e (ap (λ l. d ∷ l) rest))
    go true e false f rest = absurd (let t : has ns d.«module» ≡ true = w d.«module» e in cc)
    go false e true f rest = rw f (rw e refl)
    go false e false f rest = rw f (rw e refl)

not_one : (ms : List ModuleImage) (types : List Descriptor) (d : Descriptor) → has ms d.«module» ≡ false → types_of ms (types ++ d ∷ []) ≡ types_of ms types
not_one ms [] d h = rw h refl
not_one ms (x ∷ types) d h = ap (λ l. if has ms x.«module» then x ∷ l else []) (not_one ms types d h)

all_of : (ms : List ModuleImage) (types : List Descriptor) → types_of ms types ≡ types → AllByRecursion (λ d. has ms d.«module» ≡ true) types
all_of ms [] e = tt
all_of ms (d ∷ types) e = go (has ms d.«module») refl (λ t. all_of ms types t)
  where
    go : (b : Bool) → has ms d.«module» ≡ b → (types_of ms types ≡ types → AllByRecursion (λ x. has ms x.«module» ≡ true) types) → (has ms d.«module» ≡ true) × AllByRecursion (λ x. has ms x.«module» ≡ true) types
    go true h rest = (h, rest (let f = rw h at e in cc))
    go false h rest = absurd (let f = rw h at e in cc)

types_whole : (ms : List ModuleImage) (types : List Descriptor) → AllByRecursion (λ d. has ms d.«module» ≡ true) types → types_of ms types ≡ types
types_whole ms [] all = refl
types_whole ms (d ∷ types) all = rw (all.0) (ap (λ l. d ∷ l) (types_whole ms types all.1))

all_wider : (ms ns : List ModuleImage) (types : List Descriptor) → Wider ms ns → AllByRecursion (λ d. has ms d.«module» ≡ true) types → AllByRecursion (λ d. has ns d.«module» ≡ true) types
all_wider ms ns [] w all = tt
all_wider ms ns (d ∷ types) w all = (w d.«module» all.0, all_wider ms ns types w all.1)

all_more : (ms : List ModuleImage) (types : List Descriptor) (d : Descriptor) → AllByRecursion (λ x. has ms x.«module» ≡ true) types → has ms d.«module» ≡ true → AllByRecursion (λ x. has ms x.«module» ≡ true) (types ++ d ∷ [])
all_more ms [] d all h = (h, tt)
all_more ms (x ∷ types) d all h = (all.0, all_more ms types d all.1 h)

all_own : (ms : List ModuleImage) (name : List ℕ) (first : ℕ) (links : List ℕ) (m : ℕ) (types : List Descriptor) (own : List RecordType) → has ms name ≡ true → AllByRecursion (λ x. has ms x.«module» ≡ true) types → AllByRecursion (λ x. has ms x.«module» ≡ true) (with_types name first links m types own)
all_own ms name first links m types [] h all = all
all_own ms name first links m types (t ∷ own) h all = all_own ms name first links m (types ++ descriptor_of name first links types m t ∷ []) own h (all_more ms types (descriptor_of name first links types m t) all h)

-- ENTERING

pub entered_whole : (img : Image) (f : ObjFile) → types_of img.modules img.types ≡ img.types → types_of (entered img f).modules (entered img f).types ≡ (entered img f).types
entered_whole img f e =
    let u = module_of img f in
    let ms = img.modules ++ u ∷ [] in
    let before = all_wider img.modules ms img.types (has_more img.modules (u ∷ [])) (all_of img.modules img.types e) in
    types_whole ms (entered img f).types (all_own ms f.head.«module» (length img.types) (type_links img f) (length img.modules) img.types f.body.types (has_last img.modules u) before)

-- what is of none of the modules ends their descriptors
none_own : (ms : List ModuleImage) (name : List ℕ) (first : ℕ) (links : List ℕ) (m : ℕ) (types : List Descriptor) (own : List RecordType) → has ms name ≡ false → types_of ms (with_types name first links m types own) ≡ types_of ms types
none_own ms name first links m types [] h = refl
none_own ms name first links m types (t ∷ own) h =
    let d = descriptor_of name first links types m t in
    none_own ms name first links m (types ++ d ∷ []) own h ∙ not_one ms types d h

has_from : (n : ℕ) (ms : List ModuleImage) (name : List ℕ) → module_from n ms name ≡ None → has ms name ≡ false
has_from n [] name e = refl
has_from n (u ∷ ms) name e = go (same name u.name) refl (λ t. has_from (suc n) ms name t)
  where
    go : (b : Bool) → same name u.name ≡ b → (module_from (suc n) ms name ≡ None → has ms name ≡ false) → has (u ∷ ms) name ≡ false
    go true h rest = absurd (let f = rw h at e in cc)
    go false h rest = rw h (rest (rw h at e))

not_taken : (ms : List ModuleImage) (k : ℕ) (name : List ℕ) → has ms name ≡ false → has (take k ms) name ≡ false
not_taken ms zero name h = refl
not_taken [] (suc k) name h = refl
not_taken (u ∷ ms) (suc k) name h = go (same name u.name) refl (λ t. not_taken ms k name t)
  where
    go : (b : Bool) → same name u.name ≡ b → (has ms name ≡ false → has (take k ms) name ≡ false) → has (u ∷ take k ms) name ≡ false
    go true e rest = absurd (let f = rw e at h in cc)
    go false e rest = rw e (rest (rw e at h))

pub entered_types : (img : Image) (f : ObjFile) → IsImage img → IsEnterable img f → length f.body.types ≤ 1048576 → (k : ℕ) → length (types_of (take k (entered img f).modules) (entered img f).types) ≤ 1048576 * k
entered_types img f is can few k = ⊎_elim last front (cases_lt (length img.modules) k)
  where
    new : ModuleImage
    new = module_of img f

    front : k ≤ length img.modules → length (types_of (take k (entered img f).modules) (entered img f).types) ≤ 1048576 * k
    front le =
        let e : take k (img.modules ++ new ∷ []) ≡ take k img.modules = take-append-le k img.modules (new ∷ []) le in
        let none = not_taken img.modules k f.head.«module» (has_from 0 img.modules f.head.«module» can.new) in
        let o = none_own (take k img.modules) f.head.«module» (length img.types) (type_links img f) (length img.modules) img.types f.body.types none in
        rw (e, o) (is.types k)

    last : length img.modules < k → length (types_of (take k (entered img f).modules) (entered img f).types) ≤ 1048576 * k
    last lt =
        let all : take k (img.modules ++ new ∷ []) ≡ img.modules ++ new ∷ [] = take_all k (img.modules ++ new ∷ []) (omega (arith, length-append img.modules (new ∷ []))) in
        let w = entered_whole img f is.whole in
        let n = with_types_length f.head.«module» (length img.types) (type_links img f) (length img.modules) img.types f.body.types in
        let before = subst (λ ms. length (types_of ms img.types) ≤ 1048576 * length img.modules) (take-length img.modules) (is.types (length img.modules)) in
        let old : length img.types ≤ 1048576 * length img.modules = subst (λ ts. length ts ≤ 1048576 * length img.modules) is.whole before in
        rw (all, w, n) (omega arith)

-- CUTTING

pub taken_twice : {A : Type 0} (j n : ℕ) (xs : List A) → j ≤ n → take j (take n xs) ≡ take j xs
taken_twice zero n xs le = refl
taken_twice (suc j) zero xs le = absurd (omega arith)
taken_twice (suc j) (suc n) [] le = refl
taken_twice (suc j) (suc n) (x ∷ xs) le = ap (λ l. x ∷ l) (taken_twice j n xs (omega arith))

pub cut_whole : (n : ℕ) (img : Image) → types_of (cut_to n img).modules (cut_to n img).types ≡ (cut_to n img).types
cut_whole n img = of_fewer (take n img.modules) (take n img.modules) img.types (λ name h. h)

pub cut_types : (n : ℕ) (img : Image) → IsImage img → (k : ℕ) → length (types_of (take k (cut_to n img).modules) (cut_to n img).types) ≤ 1048576 * k
cut_types n img is k = ⊎_elim front last (cases_lt k n)
  where
    kept : (j : ℕ) → j ≤ n → types_of (take j (take n img.modules)) (types_of (take n img.modules) img.types) ≡ types_of (take j img.modules) img.types
    kept j le = ap (λ ms. types_of ms (types_of (take n img.modules) img.types)) (taken_twice j n img.modules le) ∙ of_fewer (take j img.modules) (take n img.modules) img.types (λ name t. has_taken img.modules j n name le t)

    front : k < n → length (types_of (take k (take n img.modules)) (types_of (take n img.modules) img.types)) ≤ 1048576 * k
    front lt = rw (kept k (omega arith)) (is.types k)

    last : n ≤ k → length (types_of (take k (take n img.modules)) (types_of (take n img.modules) img.types)) ≤ 1048576 * k
    last le =
        let all : take k (take n img.modules) ≡ take n img.modules = take_all k (take n img.modules) (omega (arith, length-take n img.modules)) in
        let h = is.types n in
        rw (all, cut_whole n img) (omega arith)

-- WHOLE IMAGES

pub entered_image : (img : Image) (f : ObjFile) → IsImage img → IsEnterable img f → length f.body.types ≤ 1048576 → img.room ≡ room → IsImage (entered img f)
entered_image img f is can types e =
    let g : img.room.globals ≡ 262144 = ap (λ r. r.globals) e in
    record {
      some = omega (arith, is.some);
      within = omega (arith, can.room);
      few = omega (arith, can.few, length-append img.modules (module_of img f ∷ []));
      whole = entered_whole img f is.whole;
      types = entered_types img f is can types;
    }

pub cut_image : (n next : ℕ) (img : Image) → IsImage img → next ≡ first_of (slice_get img.modules n) img.next → 0 < next → next ≤ 262145 → IsImage (cut_to n img)
cut_image n next img is e some within = record {
  some = omega arith;
  within = omega arith;
  few = omega (arith, is.few, length-take n img.modules);
  whole = cut_whole n img;
  types = cut_types n img is;
}

pub few_types : (img : Image) → IsImage img → length img.types < 2 ^ 31
few_types img is =
    let before = subst (λ ms. length (types_of ms img.types) ≤ 1048576 * length img.modules) (take-length img.modules) (is.types (length img.modules)) in
    let old : length img.types ≤ 1048576 * length img.modules = subst (λ ts. length ts ≤ 1048576 * length img.modules) is.whole before in
    omega (arith, is.few)

pub cut_is : (img : Image) (n : ℕ) (modules : List ModuleImage) (types : List Descriptor) (next : ℕ) → modules ≡ take n img.modules → types ≡ types_of (take n img.modules) img.types → next ≡ first_of (slice_get img.modules n) img.next → room ≡ img.room → record { modules = modules; types = types; next = next; room = room } ≡ cut_to n img
cut_is img n modules types next e1 e2 e3 e4 = rw (e1, e2, e3, e4) refl
