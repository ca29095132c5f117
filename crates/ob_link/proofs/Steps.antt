-- The steps of a walk.
use Rattle.std.proofs.Common.{◌≡◌, ℕ, suc, ◌+◌, ◌-◌, ◌<◌, ◌≤◌, Bool, true, false, List, [], ◌∷◌, ◌++◌, length, map, take, drop, get_or, Option, Some, None, Result, Ok, Err, refl, sym, ap, subst, ◌∙◌, arith, append_assoc}
use Rattle.std.specs.Prelude.{if◌then◌else◌, bytes_eq, ◌||◌, codes, nat_le}
use Rattle.std.specs.Option.{option_map, option_or}
use Rattle.std.specs.List.{AllByRecursion}
use Rattle.std.proofs.lemmas.List.{length-append, append-nil, take_at}
use Rattle.std.proofs.lemmas.Bool.{false≢true}
use Rattle.std.proofs.lemmas.Map.Text.{is_eq-slice_cmp}
use Rattle.std.proofs.lemmas.Slice.Eq.{bytes_eq-Decides}
use Rattle.ob_tree.specs.declared.print.Print.{Print}
use Rattle.ob_obj.specs.declared.file.ObjFile.{ObjFile}
use Rattle.ob_obj.specs.Grammar.{file}
use Rattle.ob_obj.specs.Images.{same}
use Rattle.ob_link.specs.declared.walking.Frame.{Frame}
use Rattle.ob_link.specs.declared.fault.LoadFault.{LoadFault}
use Rattle.ob_link.specs.declared.fault.LoadFault.TheVariants as fault
use Rattle.ob_link.specs.declared.fault.LoadRefusal.{LoadRefusal}
use Rattle.ob_link.specs.declared.fault.LoadRefusal.TheVariants as refusal
use Rattle.ob_link.specs.Index.{place_from}
use Rattle.ob_format.specs.Exact.{le_decides}
use Rattle.ob_link.specs.Walk.{visit, has, and_then, most_deep, or_first, first_of}
use Rattle.ob_link.specs.Plan as plan
use Rattle.ob_link.specs.Plan.{Entry, Missing, TooLong, Junk, Holds, Refusal, steps, is_there, named, newest, fails, entered, absent, too_many}
use Rattle.ob_link.specs.Files.{Files, asks, object_entry, answered}
use Rattle.ob_link.specs.Members.{Known, member_of, member_named}
use Rattle.ob_link.specs.Judging.{is_passed, breaks, use_break, missing}
use Rattle.ob_link.specs.Walking.{Opened, open_of, stack_on, stack, path_of, names_on, Visited, resume, visits, Stops, Goes, Visits, Advances, Apart, IsWalk, Begins, Stand}
use Rattle.ob_link.proofs.Places.{member_or}
use Rattle.ob_link.proofs.Indexing.{ending}
use Rattle.ob_link.proofs.Resume.{passed, circled, refused, opened, goes_on, left_by, stopped, over, Step, stack_more, stack_length}
use Rattle.ob_link.proofs.Bridges.{map_both, all_known, passes_so, breaks_so}

-- NAMES ON THE PATH

or_apart : (a b c : Bool) → ((a || b) || c) ≡ (b || (a || c))
or_apart true true c = refl
or_apart true false c = refl
or_apart false b c = refl

or_none : (b : Bool) → b ≡ (b || false)
or_none true = refl
or_none false = refl

on_stack : (q : List ℕ) (os : List Opened) (fs : List Frame) → has q (path_of (stack_on os fs)) ≡ (has q (path_of os) || has q (names_on fs))
on_stack q os [] = or_none (has q (path_of os))
on_stack q os (f ∷ fs) = on_stack q (open_of f ∷ os) fs ∙ or_apart (bytes_eq q f.file.head.«module») (has q (path_of os)) (has q (names_on fs))

one_has : (b t : Bool) (n : ℕ) (o : Option ℕ) (more : Bool) → b ≡ t → is_there o ≡ more → is_there (if b then Some n else o) ≡ (t || more)
one_has true t n o more e h = rw (sym e) refl
one_has false t n o more e h = rw (sym e) h

has_place : (n : ℕ) (names : List (List ℕ)) (q : List ℕ) → is_there (place_from n names q) ≡ has q names
has_place n [] q = refl
has_place n (x ∷ names) q = one_has (same q x) (bytes_eq q x) n (place_from (suc n) names q) (has q names) (is_eq-slice_cmp q x) (has_place (suc n) names q)

pub on_path : (q : List ℕ) (on : List (List ℕ)) (fs : List Frame) (o : Option ℕ) → on ≡ names_on fs → o ≡ place_from 0 on q → has q (path_of (stack fs)) ≡ is_there o
on_path q on fs o e h = on_stack q [] fs ∙ sym (ap is_there h ∙ has_place 0 on q ∙ ap (has q) e)

pub last_name : (fs : List Frame) (f : Frame) (name : List ℕ) → 0 < length fs → f ≡ get_or fs (length fs - 1) f → f.file.head.«module» ≡ newest name (path_of (stack fs))
last_name fs f name some at =
    let k : length fs ≡ suc (length fs - 1) = omega arith in
    let r = ending (length fs - 1) fs f k in
    let s : stack fs ≡ open_of r.last ∷ stack (take (length fs - 1) fs) = ap stack r.whole ∙ stack_more [] (take (length fs - 1) fs) r.last in
    ap (λ (g : Frame). g.file.head.«module») (at ∙ r.at) ∙ sym (ap (λ (os : List Opened). newest name (path_of os)) s)

-- VISITS

deep_enough : (fs : List Frame) → length fs ≤ 65536 → length (stack fs) < most_deep
deep_enough fs le = let h = stack_length [] fs in omega (arith, h)

passes_as : (loaded planned : List Known) (fs left : List ObjFile) (name : List ℕ) (b : Bool) → loaded ≡ map member_of fs → planned ≡ map member_of left → is_passed (loaded ++ planned) name ≡ b → (bytes_eq name (codes "Out") || is_there (named asks name (fs ++ left))) ≡ b
passes_as loaded planned fs left name b e h is = sym (passes_so name (fs ++ left)) ∙ ap (λ ks. is_passed ks name) (sym (all_known loaded planned fs left e h)) ∙ is

pub visit_passed : (files : Files) (loaded planned : List Known) (frames : List Frame) (on : List (List ℕ)) (left : List ObjFile) (name : List ℕ) → IsWalk loaded frames on left planned → is_passed (loaded ++ planned) name ≡ true → Visits files loaded frames left name frames left (Ok tt)
visit_passed files loaded planned frames on left name w is fs h = passed (steps asks (object_entry files) fs) most_deep (stack frames) name left (deep_enough frames w.short) (passes_as loaded planned fs left name true h.members w.known is)

stops_at : (v : Visited) (r : Refusal Print) (s : LoadRefusal) → v ≡ Err r → s ≡ answered r → Stops v s
stops_at v r s e h = subst (λ x. Stops x s) (sym e) h

pub visit_circled : (files : Files) (loaded planned : List Known) (frames : List Frame) (on : List (List ℕ)) (left : List ObjFile) (name m : List ℕ) (new : List Frame) (now : List ObjFile) → IsWalk loaded frames on left planned → is_passed (loaded ++ planned) name ≡ false → has name (path_of (stack frames)) ≡ true → m ≡ newest name (path_of (stack frames)) → Visits files loaded frames left name new now (Err (fault.Refused (refusal.Cycle m)))
visit_circled files loaded planned frames on left name m new now w is on_it e fs h = stops_at _ (plan.Cycle (newest name (path_of (stack frames)))) (refusal.Cycle m) (circled (steps asks (object_entry files) fs) most_deep (stack frames) name left (deep_enough frames w.short) (passes_as loaded planned fs left name false h.members w.known is) on_it) (ap refusal.Cycle e)

pub visit_refused : (files : Files) (loaded planned : List Known) (frames : List Frame) (on : List (List ℕ)) (left : List ObjFile) (name : List ℕ) (r : Refusal Print) (s : LoadRefusal) (new : List Frame) (now : List ObjFile) → IsWalk loaded frames on left planned → is_passed (loaded ++ planned) name ≡ false → has name (path_of (stack frames)) ≡ false → entered name (object_entry files name) ≡ Err r → s ≡ answered r → Visits files loaded frames left name new now (Err (fault.Refused s))
visit_refused files loaded planned frames on left name r s new now w is off e a fs h = stops_at _ r s (refused (steps asks (object_entry files) fs) most_deep (stack frames) name left r (deep_enough frames w.short) (passes_as loaded planned fs left name false h.members w.known is) off e) a

pub visit_opened : (files : Files) (loaded planned : List Known) (frames : List Frame) (on : List (List ℕ)) (left : List ObjFile) (name : List ℕ) (x : ObjFile) (new : List Frame) (now : List ObjFile) → IsWalk loaded frames on left planned → is_passed (loaded ++ planned) name ≡ false → has name (path_of (stack frames)) ≡ false → object_entry files name ≡ Holds x → x.head.«module» ≡ name → new ≡ frames ++ (record { file = x; next = 0 }) ∷ [] → now ≡ left → Visits files loaded frames left name new now (Ok tt)
visit_opened files loaded planned frames on left name x new now w is off e n path same fs h =
    let s = steps asks (object_entry files) fs in
    let more : stack new ≡ (x, x.head.imports) ∷ stack frames = ap stack path ∙ stack_more [] frames (record { file = x; next = 0 }) in
    opened s most_deep (stack frames) name left x (deep_enough frames w.short) (passes_as loaded planned fs left name false h.members w.known is) off (ap (entered name) e) n ∙ ap (λ (os : List Opened). resume s most_deep os left) (sym more) ∙ ap (resume s most_deep (stack new)) (sym same)

-- WHAT IS SO ALL ALONG

all_more : (P : Frame → Type 0) (fs : List Frame) (f : Frame) → AllByRecursion P fs → P f → AllByRecursion P (fs ++ f ∷ [])
all_more P [] f all h = (h, tt)
all_more P (g ∷ fs) f all h = (all.0, all_more P fs f all.1 h)

all_front : (P : Frame → Type 0) (fs : List Frame) (f : Frame) → AllByRecursion P (fs ++ f ∷ []) → AllByRecursion P fs × P f
all_front P [] f all = (tt, all.0)
all_front P (g ∷ fs) f all = let r = all_front P fs f all.1 in ((all.0, r.0), r.1)

names_more : (fs : List Frame) (f : Frame) → names_on (fs ++ f ∷ []) ≡ names_on fs ++ f.file.head.«module» ∷ []
names_more [] f = refl
names_more (g ∷ fs) f = ap (λ l. g.file.head.«module» ∷ l) (names_more fs f)

second_false : (a b : Bool) → (a || b) ≡ false → b ≡ false
second_false true b e = absurd (false≢true (sym e))
second_false false b e = e

first_false : (a b : Bool) → (a || b) ≡ false → a ≡ false
first_false true b e = absurd (false≢true (sym e))
first_false false b e = refl

apart_more : (ks : List Known) (fs : List Frame) (f : Frame) (name : List ℕ) → Apart ks (path_of (stack fs)) → is_passed ks name ≡ false → has name (path_of (stack fs)) ≡ false → f.file.head.«module» ≡ name → Apart ks (path_of (stack (fs ++ f ∷ [])))
apart_more ks fs f name a is off n =
    let one : Apart ks (name ∷ path_of (stack fs)) = (second_false (bytes_eq name (codes "Out")) (is_there (member_named name ks)) is, off, a) in
    let e : name ∷ path_of (stack fs) ≡ path_of (stack (fs ++ f ∷ [])) = ap (λ m. m ∷ path_of (stack fs)) (sym n) ∙ ap path_of (sym (stack_more [] fs f)) in
    subst (Apart ks) e one

pub walk_opened : (loaded planned : List Known) (frames : List Frame) (on : List (List ℕ)) (left : List ObjFile) (name : List ℕ) (x : ObjFile) (frames2 : List Frame) (on2 : List (List ℕ)) (left2 : List ObjFile) (planned2 : List Known) → IsWalk loaded frames on left planned → is_passed (loaded ++ planned) name ≡ false → has name (path_of (stack frames)) ≡ false → file.fits x → x.head.«module» ≡ name → length frames < 65536 → frames2 ≡ frames ++ (record { file = x; next = 0 }) ∷ [] → on2 ≡ on ++ name ∷ [] → left2 ≡ left → planned2 ≡ planned → IsWalk loaded frames2 on2 left2 planned2
walk_opened loaded planned frames on left name x frames2 on2 left2 planned2 w is off fits n short e1 e2 e3 e4 =
    let f : Frame = record { file = x; next = 0 } in
    let now : IsWalk loaded (frames ++ f ∷ []) (on ++ name ∷ []) left planned = record {
      known = w.known;
      names = ap (λ l. l ++ name ∷ []) w.names ∙ ap (λ m. names_on frames ++ m ∷ []) (sym n) ∙ sym (names_more frames f);
      fits = all_more (λ g. file.fits g.file) frames f w.fits fits;
      apart = apart_more (loaded ++ planned) frames f name w.apart is off n;
      short = omega (arith, length-append frames (f ∷ []), short);
      few = w.few;
      stand = w.stand;
    } in
    rw (e1, e2, e3, e4) now

-- another place on the same file
pub walk_next : (loaded planned : List Known) (frames : List Frame) (f g : Frame) (on : List (List ℕ)) (left : List ObjFile) (frames2 : List Frame) → IsWalk loaded (frames ++ f ∷ []) on left planned → g.file ≡ f.file → frames2 ≡ frames ++ g ∷ [] → IsWalk loaded frames2 on left planned
walk_next loaded planned frames f g on left frames2 w e path =
    let a = all_front (λ h. file.fits h.file) frames f w.fits in
    let now : IsWalk loaded (frames ++ g ∷ []) on left planned = record {
      known = w.known;
      names = w.names ∙ names_more frames f ∙ ap (λ (x : ObjFile). names_on frames ++ x.head.«module» ∷ []) (sym e) ∙ sym (names_more frames g);
      fits = all_more (λ h. file.fits h.file) frames g a.0 (subst (λ x. file.fits x) (sym e) a.1);
      apart = subst (Apart (loaded ++ planned)) (ap path_of (stack_more [] frames f) ∙ ap (λ (x : ObjFile). x.head.«module» ∷ path_of (stack frames)) (sym e) ∙ ap path_of (sym (stack_more [] frames g))) w.apart;
      short = omega (arith, w.short, length-append frames (f ∷ []), length-append frames (g ∷ []));
      few = w.few;
      stand = w.stand;
    } in
    rw path now

bytes_back : (a b : List ℕ) → bytes_eq a b ≡ false → bytes_eq b a ≡ false
bytes_back a b e = go (bytes_eq b a) refl
  where
    go : (t : Bool) → bytes_eq b a ≡ t → t ≡ false
    go true h = absurd (false≢true (sym e ∙ (bytes_eq-Decides a b).1 (sym ((bytes_eq-Decides b a).0 h))))
    go false h = refl

there_or : (o : Option Known) (b : Bool) (k : Known) → is_there o ≡ false → b ≡ false → is_there (option_or o (if b then Some k else None)) ≡ false
there_or None true k h e = absurd (false≢true (sym e))
there_or None false k h e = refl
there_or (Some x) b k h e = absurd (false≢true (sym h))

-- a module that leaves the path is apart from those that stay on it
apart_left : (ks : List Known) (k : Known) (n : List ℕ) (path : List (List ℕ)) → k.name ≡ n → has n path ≡ false → Apart ks path → Apart (ks ++ k ∷ []) path
apart_left ks k n [] e h a = tt
apart_left ks k n (m ∷ path) e h a =
    let differ : bytes_eq m k.name ≡ false = bytes_back k.name m (subst (λ l. bytes_eq l m ≡ false) (sym e) (first_false (bytes_eq n m) (has n path) h)) in
    let there : is_there (member_named m (ks ++ k ∷ [])) ≡ false = ap is_there (member_or m ks (k ∷ [])) ∙ there_or (member_named m ks) (bytes_eq m k.name) k a.0 differ in
    (there, a.1, apart_left ks k n path e (second_false (bytes_eq n m) (has n path) h) a.2)

pub front_of : (on : List (List ℕ)) (frames : List Frame) (f : Frame) → on ≡ names_on (frames ++ f ∷ []) → take (length on - 1) on ≡ names_on frames
front_of on frames f e =
    let whole : on ≡ names_on frames ++ f.file.head.«module» ∷ [] = e ∙ names_more frames f in
    let n : length (names_on frames) ≡ length on - 1 = omega (arith, ap length whole, length-append (names_on frames) (f.file.head.«module» ∷ [])) in
    ap (take (length on - 1)) whole ∙ take_at (names_on frames) (f.file.head.«module» ∷ []) (length on - 1) n

pub on_some : (on : List (List ℕ)) (frames : List Frame) (f : Frame) → on ≡ names_on (frames ++ f ∷ []) → 0 < length on
on_some on frames f e = omega (arith, ap length (e ∙ names_more frames f), length-append (names_on frames) (f.file.head.«module» ∷ []))

none_last : (a b c : Option (Refusal Print)) → or_first a (or_first b c) ≡ None → c ≡ None
none_last None None c e = e
none_last None (Some r) c e = absurd cc
none_last (Some r) b c e = absurd cc

abbrev few_or : Bool → ℕ → Option (Refusal Print)
few_or b n = if b then None else Some (plan.TooMany n)

few_so : (b : Bool) (n : ℕ) → few_or b n ≡ None → b ≡ true
few_so true n e = refl
few_so false n e = absurd cc

-- a file that nothing refuses is not one too many
pub few_more : (ks : List Known) (x : ObjFile) → breaks ks x ≡ None → length ks + 1 ≤ 255
few_more ks x ok =
    let last = none_last (first_of (use_break ks x.head.«module») x.head.uses) (absent x.head.«module» (missing ks x.links)) (too_many (length ks + 1)) ok in
    (le_decides (length ks + 1) 255).0 (few_so (nat_le (length ks + 1) 255) (length ks + 1) last)

-- one file more that stands
pub stand_more : (ks : List Known) (fs : List ObjFile) (f : ObjFile) → Stand ks fs → file.fits f → is_there (member_named f.head.«module» (ks ++ map member_of fs)) ≡ false → breaks (ks ++ map member_of fs) f ≡ None → Stand ks (fs ++ f ∷ [])
stand_more ks [] f s fits new ok =
    let e : ks ++ [] ≡ ks = append-nil ks in
    (fits, subst (λ l. is_there (member_named f.head.«module» l) ≡ false) e new, subst (λ l. breaks l f ≡ None) e ok, tt)
stand_more ks (g ∷ fs) f s fits new ok =
    let e : ks ++ (member_of g ∷ map member_of fs) ≡ (ks ++ member_of g ∷ []) ++ map member_of fs = sym (append_assoc ks (member_of g ∷ []) (map member_of fs)) in
    (s.0, s.1, s.2, stand_more (ks ++ member_of g ∷ []) fs f s.3 fits (subst (λ l. is_there (member_named f.head.«module» l) ≡ false) e new) (subst (λ l. breaks l f ≡ None) e ok))

pub walk_left : (loaded planned : List Known) (frames : List Frame) (f : Frame) (on : List (List ℕ)) (left : List ObjFile) (frames2 : List Frame) (on2 : List (List ℕ)) (left2 : List ObjFile) (planned2 : List Known) → IsWalk loaded (frames ++ f ∷ []) on left planned → breaks (loaded ++ planned) f.file ≡ None → frames2 ≡ frames → on2 ≡ take (length on - 1) on → left2 ≡ left ++ f.file ∷ [] → planned2 ≡ planned ++ member_of f.file ∷ [] → IsWalk loaded frames2 on2 left2 planned2
walk_left loaded planned frames f on left frames2 on2 left2 planned2 w ok e1 e2 e3 e4 =
    let x = f.file in
    let a = all_front (λ h. file.fits h.file) frames f w.fits in
    let apart : Apart (loaded ++ planned) (x.head.«module» ∷ path_of (stack frames)) = subst (Apart (loaded ++ planned)) (ap path_of (stack_more [] frames f)) w.apart in
    let assoc : (loaded ++ planned) ++ member_of x ∷ [] ≡ loaded ++ (planned ++ member_of x ∷ []) = append_assoc loaded planned (member_of x ∷ []) in
    let now : IsWalk loaded frames (take (length on - 1) on) (left ++ x ∷ []) (planned ++ member_of x ∷ []) = record {
      known = ap (λ l. l ++ member_of x ∷ []) w.known ∙ sym (map_both left (x ∷ []));
      names = front_of on frames f w.names;
      fits = a.0;
      apart = subst (λ ks. Apart ks (path_of (stack frames))) assoc (apart_left (loaded ++ planned) (member_of x) x.head.«module» (path_of (stack frames)) refl apart.1 apart.2);
      short = omega (arith, w.short, length-append frames (f ∷ []));
      few = subst (λ ks. length ks ≤ 255) assoc (omega (arith, few_more (loaded ++ planned) x ok, length-append (loaded ++ planned) (member_of x ∷ [])));
      stand = stand_more loaded left x w.stand a.1 (subst (λ l. is_there (member_named x.head.«module» (loaded ++ l)) ≡ false) w.known apart.0) (subst (λ l. breaks (loaded ++ l) x ≡ None) w.known ok);
    } in
    rw (e1, e2, e3, e4) now

-- STEPS

fails_as : (loaded planned : List Known) (fs left : List ObjFile) (x : ObjFile) (o : Option (Refusal Print)) → loaded ≡ map member_of fs → planned ≡ map member_of left → breaks (loaded ++ planned) x ≡ o → fails asks (fs ++ left) x ≡ o
fails_as loaded planned fs left x o e h is = sym (breaks_so (fs ++ left) x) ∙ ap (λ ks. breaks ks x) (sym (all_known loaded planned fs left e h)) ∙ is

some_answered : (o : Option (Refusal Print)) (s : LoadRefusal) → Some s ≡ option_map answered o → (r : Refusal Print) × ((o ≡ Some r) × (s ≡ answered r))
some_answered None s e = absurd cc
some_answered (Some r) s e = (r, (refl, cc))

pub advance_on : (files : Files) (loaded : List Known) (frames : List Frame) (f g : Frame) (left : List ObjFile) (n : List ℕ) (mid new : List Frame) (now : List ObjFile) (result : Result (Unit {0}) LoadFault) → drop f.next f.file.head.imports ≡ n ∷ drop g.next f.file.head.imports → g.file ≡ f.file → mid ≡ frames ++ g ∷ [] → Visits files loaded mid left n new now result → Advances files loaded (frames ++ f ∷ []) left new now result
advance_on files loaded frames f g left n mid new now result next e path v fs h =
    let s = steps asks (object_entry files) fs in
    let before : stack (frames ++ f ∷ []) ≡ (f.file, n ∷ drop g.next f.file.head.imports) ∷ stack frames = stack_more [] frames f ∙ ap (λ (ns : List (List ℕ)). (f.file, ns) ∷ stack frames) next in
    let after : stack mid ≡ (f.file, drop g.next f.file.head.imports) ∷ stack frames = ap stack path ∙ stack_more [] frames g ∙ ap (λ (x : ObjFile). (x, drop g.next x.head.imports) ∷ stack frames) e in
    let whole : resume s most_deep (stack (frames ++ f ∷ [])) left ≡ visits s most_deep (stack mid) n left = ap (λ (os : List Opened). resume s most_deep os left) before ∙ goes_on s most_deep f.file n (drop g.next f.file.head.imports) (stack frames) left ∙ ap (λ (os : List Opened). visits s most_deep os n left) (sym after) in
    subst (λ x. Goes x (resume s most_deep (stack new) now) result) (sym whole) (v fs h)

pub advance_left : (files : Files) (loaded planned : List Known) (frames : List Frame) (f : Frame) (on : List (List ℕ)) (left : List ObjFile) (new : List Frame) (now : List ObjFile) → IsWalk loaded (frames ++ f ∷ []) on left planned → drop f.next f.file.head.imports ≡ [] → breaks (loaded ++ planned) f.file ≡ None → new ≡ frames → now ≡ left ++ f.file ∷ [] → Advances files loaded (frames ++ f ∷ []) left new now (Ok tt)
advance_left files loaded planned frames f on left new now w done ok e1 e2 fs h =
    let s = steps asks (object_entry files) fs in
    let before : stack (frames ++ f ∷ []) ≡ (f.file, []) ∷ stack frames = stack_more [] frames f ∙ ap (λ (ns : List (List ℕ)). (f.file, ns) ∷ stack frames) done in
    let none : fails asks (fs ++ left) f.file ≡ None = fails_as loaded planned fs left f.file None h.members w.known ok in
    ap (λ (os : List Opened). resume s most_deep os left) before ∙ left_by s most_deep f.file (stack frames) left none ∙ sym (ap (λ (gs : List Frame). resume s most_deep (stack gs) now) e1 ∙ ap (resume s most_deep (stack frames)) e2)

pub advance_stopped : (files : Files) (loaded planned : List Known) (frames : List Frame) (f : Frame) (on : List (List ℕ)) (left : List ObjFile) (new : List Frame) (now : List ObjFile) (s : LoadRefusal) → IsWalk loaded (frames ++ f ∷ []) on left planned → drop f.next f.file.head.imports ≡ [] → Some s ≡ option_map answered (breaks (loaded ++ planned) f.file) → Advances files loaded (frames ++ f ∷ []) left new now (Err (fault.Refused s))
advance_stopped files loaded planned frames f on left new now s w done because fs h =
    let st = steps asks (object_entry files) fs in
    let before : stack (frames ++ f ∷ []) ≡ (f.file, []) ∷ stack frames = stack_more [] frames f ∙ ap (λ (ns : List (List ℕ)). (f.file, ns) ∷ stack frames) done in
    let r = some_answered (breaks (loaded ++ planned) f.file) s because in
    stops_at _ r.0 s (ap (λ (os : List Opened). resume st most_deep os left) before ∙ stopped st most_deep f.file (stack frames) left r.0 (fails_as loaded planned fs left f.file (Some r.0) h.members w.known r.1.0)) r.1.1

pub none_answered : (o : Option (Refusal Print)) → None ≡ option_map answered o → o ≡ None
none_answered None e = refl
none_answered (Some r) e = absurd cc

-- A WHOLE WALK

pub walk_begins : (loaded : List Known) (frames : List Frame) (on : List (List ℕ)) (left : List ObjFile) (planned : List Known) → length loaded ≤ 255 → frames ≡ [] → on ≡ [] → left ≡ [] → planned ≡ [] → IsWalk loaded frames on left planned
walk_begins loaded frames on left planned few e1 e2 e3 e4 =
    let now : IsWalk loaded [] [] [] [] = record { known = refl; names = refl; fits = tt; apart = tt; short = omega arith; few = subst (λ (l : List Known). length l ≤ 255) (sym (append-nil loaded)) few; stand = tt } in
    rw (e1, e2, e3, e4) now

and_ok : (s : Step) (d : ℕ) (v : Visited) → and_then v (resume s d []) ≡ v
and_ok s d (Ok left) = over s d left
and_ok s d (Err r) = refl

pub begun : (s : Step) (deep : ℕ) (frames : List Frame) (left : List ObjFile) (name : List ℕ) → frames ≡ [] → left ≡ [] → visits s deep (stack frames) name left ≡ visit s deep [] name []
begun s deep frames left name e h = ap (λ (fs : List Frame). visits s deep (stack fs) name left) e ∙ ap (visits s deep [] name) h ∙ and_ok s deep (visit s (deep - 0) [] name []) ∙ (let z : deep - 0 ≡ deep = omega arith in ap (λ d. visit s d [] name []) z)

-- what comes of a walk's part is what comes of the whole
pub part_stops : (v w after : Visited) (e : LoadFault) → v ≡ w → Goes w after (Err e) → Goes v after (Err e)
part_stops v w after e same h = subst (λ x. Goes x after (Err e)) (sym same) h

pub begins_err : (st : Step) (deep : ℕ) (v after : Visited) (e : LoadFault) → Goes v after (Err e) → Begins st deep v (Err e)
begins_err st deep v after (fault.Refused s) h = h
begins_err st deep v after fault.Folder h = tt
begins_err st deep v after fault.Memory h = tt

pub none_left : (frames : List Frame) (n : ℕ) → n ≡ length frames → n ≡ 0 → frames ≡ []
none_left [] n e z = refl
none_left (f ∷ frames) n e z = absurd (omega arith)

pub walked_off : (s : Step) (deep : ℕ) (frames : List Frame) (left : List ObjFile) → frames ≡ [] → resume s deep (stack frames) left ≡ Ok left
walked_off s deep frames left e = ap (λ (fs : List Frame). resume s deep (stack fs) left) e ∙ over s deep left
