-- Interfaces, and more that come after them.
use Rattle.std.proofs.Common.{◌≡◌, ℕ, zero, suc, ◌≤◌, Bool, true, false, cond, List, [], ◌∷◌, ◌++◌, length, Option, Some, None, refl, sym, ap, subst, ◌∙◌, arith, drop}
use Rattle.std.specs.Prelude.{◌&&◌, nat_lt, slice_get, bytes_eq}
use Rattle.std.specs.Option.{option_map}
use Rattle.std.specs.List.{list_all, AllByRecursion}
use Rattle.std.specs.Cmp.Lexicographic.{bytes_decides}
use Rattle.ob_format.specs.Format.{◌>>=◌}
use Rattle.ob_tree.specs.declared.names.QName.{QName}
use Rattle.ob_tree.specs.declared.print.Print.{Print}
use Rattle.ob_types.specs.declared.types.TypeRef.{TypeRef}
use Rattle.ob_types.specs.declared.types.TypeRef.TheVariants as ref
use Rattle.ob_types.specs.declared.desc.Desc.{Desc}
use Rattle.ob_types.specs.declared.face.Object.{Object}
use Rattle.ob_types.specs.declared.face.Use.{Use}
use Rattle.ob_types.specs.declared.face.Interface.{Interface}
use Rattle.ob_types.specs.Maps.{stands_on}
use Rattle.ob_desc.specs.Grammar.{text_of}
use Rattle.ob_fprint.specs.Print.{print_from}
use Rattle.ob_layout.specs.Lists.{or_else}
use Rattle.ob_layout.specs.Index.{position_from}
use Rattle.ob_env.specs.declared.fault.EnvFault.{EnvFault}
use Rattle.ob_env.specs.declared.fault.EnvFault.TheVariants as fault
use Rattle.ob_env.specs.Faces.{Face, wanted_of, face_of, faces_of, object_named, face_named}
use Rattle.ob_env.specs.Stale.{compared, prints_agree, first_among}
use Rattle.ob_env.specs.Found.{module_names, object_names}
use Rattle.ob_env.specs.Mapped.{map_of}
use Rattle.ob_env.specs.Fit.{fits, steps_of, unless}
use Rattle.ob_env_ranks.specs.Marks.{height_at, is_less, is_below, keeps_height, row_keeps, rows_keep, are_ranked}
use Rattle.ob_env.specs.Found.{place_in, place_of}
use Rattle.ob_env.specs.Building.{use_fault, use_answer, uses_answer, stale_answer, unfit_answer, object_answer, objects_answer}
use Rattle.ob_env_coherent.proofs.Fits.{faces_unfit, unfit_is}
use Rattle.ob_env_ranks.proofs.Ranks.{all_pass}
use Rattle.ob_env.proofs.Grounded.{left_of, right_of, or_none, fit_if, faces_fit, none_mapped}
use Rattle.ob_env_coherent.proofs.Grown.{Grows, still_fits}

-- ---- lists

all_more : {A : Type 0} (P Q : A → Type 0) → ((x : A) → P x → Q x) → (xs : List A) → AllByRecursion P xs → AllByRecursion Q xs
all_more P Q f [] h = tt
all_more P Q f (x ∷ xs) h = (f x h.0, all_more P Q f xs h.1)

none_both : {A : Type 0} (o p : Option A) → o ≡ None → p ≡ None → or_else o p ≡ None
none_both o p e f = ap (λ x. or_else x p) e ∙ f

-- there is none among the items for the first, and so for the second
none_more : {A B : Type 0} (P : A → Type 0) (f g : A → Option B) → ((x : A) → P x → f x ≡ None → g x ≡ None) → (xs : List A) → AllByRecursion P xs → first_among f xs ≡ None → first_among g xs ≡ None
none_more P f g step [] h e = refl
none_more P f g step (x ∷ xs) h e =
    let parts = or_none (f x) (first_among f xs) e in
    none_both (g x) (first_among g xs) (step x h.0 parts.0) (none_more P f g step xs h.1 parts.1)

all_unit : {A : Type 0} (xs : List A) → AllByRecursion (λ (x : A). Unit {0}) xs
all_unit [] = tt
all_unit (x ∷ xs) = (tt, all_unit xs)

none_all : {A B : Type 0} (f g : A → Option B) → ((x : A) → f x ≡ None → g x ≡ None) → (xs : List A) → first_among f xs ≡ None → first_among g xs ≡ None
none_all f g step xs e = none_more (λ x. Unit {0}) f g (λ x u h. step x h) xs (all_unit xs) e

none_append : {A B : Type 0} (f : A → Option B) (xs ys : List A) → first_among f xs ≡ None → first_among f ys ≡ None → first_among f (xs ++ ys) ≡ None
none_append f [] ys e h = h
none_append f (x ∷ xs) ys e h =
    let parts = or_none (f x) (first_among f xs) e in
    none_both (f x) (first_among f (xs ++ ys)) parts.0 (none_append f xs ys parts.1 h)

get_more : {A : Type 0} (xs ys : List A) (k : ℕ) (x : A) → slice_get xs k ≡ Some x → slice_get (xs ++ ys) k ≡ Some x
get_more [] ys k x e = absurd cc
get_more (y ∷ xs) ys zero x e = e
get_more (y ∷ xs) ys (suc k) x e = get_more xs ys k x e

cond_more : {A : Type 0} (b : Bool) (x : A) (o p : Option A) (y : A) → (o ≡ Some y → p ≡ Some y) → cond b (Some x) o ≡ Some y → cond b (Some x) p ≡ Some y
cond_more true x o p y f e = e
cond_more false x o p y f e = f e

-- ---- the map

face_more : (fs gs : List Interface) (m : List ℕ) (f : Face Print) → face_named (faces_of fs) m ≡ Some f → face_named (faces_of (fs ++ gs)) m ≡ Some f
face_more [] gs m f e = absurd cc
face_more (i ∷ fs) gs m f e = cond_more (bytes_eq m i.«module») (face_of i) (face_named (faces_of fs) m) (face_named (faces_of (fs ++ gs)) m) f (face_more fs gs m f) e

map_more : (fs gs : List Interface) (q : QName) (d : Desc) → map_of fs q ≡ Some d → map_of (fs ++ gs) q ≡ Some d
map_more fs gs q d e = go (face_named (faces_of fs) q.«module») refl e
  where
    go : (o : Option (Face Print)) → face_named (faces_of fs) q.«module» ≡ o → (o >>= λ f. object_named f.objects q.object) ≡ Some d → map_of (fs ++ gs) q ≡ Some d
    go None s h = absurd cc
    go (Some f) s h = ap (λ (o : Option (Face Print)). o >>= λ f. object_named f.objects q.object) (face_more fs gs q.«module» f s) ∙ h

-- the interface's module is known, and stays what it is
abbrev Known : (fs gs : List Interface) → Interface → Type 0
Known fs gs i = face_named (faces_of (fs ++ gs)) i.«module» ≡ face_named (faces_of fs) i.«module»

all_known : (fs gs : List Interface) → AllByRecursion (Known fs gs) fs
all_known [] gs = tt
all_known (f ∷ fs) gs = (
  ap (λ (b : Bool). cond b (Some (face_of f)) (face_named (faces_of (fs ++ gs)) f.«module»)) itself ∙ sym (ap (λ (b : Bool). cond b (Some (face_of f)) (face_named (faces_of fs) f.«module»)) itself),
  all_more (Known fs gs) (Known (f ∷ fs) gs) (λ i e. ap (λ (o : Option (Face Print)). cond (bytes_eq i.«module» f.«module») (Some (face_of f)) o) e) fs (all_known fs gs),
)
  where
    itself : bytes_eq f.«module» f.«module» ≡ true
    itself = (bytes_decides f.«module» f.«module»).1 refl

-- ---- uses

-- what a use comes to, by the description of its object
abbrev use_at : List ℕ → Use → Option Desc → Option EnvFault
use_at client u o = use_fault client (wanted_of u) (compared prints_agree u.print (option_map print_from (o >>= λ d. text_of u.object d u.aspect)))

use_more : (fs gs : List Interface) (client : List ℕ) (u : Use) → use_answer fs client u ≡ None → use_answer (fs ++ gs) client u ≡ None
use_more fs gs client u e = go (map_of fs u.object) refl e
  where
    go : (o : Option Desc) → map_of fs u.object ≡ o → use_at client u o ≡ None → use_at client u (map_of (fs ++ gs) u.object) ≡ None
    go None s h = absurd cc
    go (Some d) s h = ap (use_at client u) (map_more fs gs u.object d s) ∙ h

pub uses_more : (fs gs : List Interface) → first_among (uses_answer fs) fs ≡ None → first_among (uses_answer (fs ++ gs)) fs ≡ None
uses_more fs gs e = none_all (uses_answer fs) (uses_answer (fs ++ gs)) (λ i h. none_all (use_answer fs i.«module») (use_answer (fs ++ gs) i.«module») (use_more fs gs i.«module») i.uses h) fs e

-- ---- objects

grows : (fs gs : List Interface) (n m : ℕ) → 201 ≤ n → 201 ≤ m → first_among (objects_answer fs n) fs ≡ None → Grows (map_of fs) (map_of (fs ++ gs)) n m
grows fs gs n m le me e = record {
  fit = record { enough = le; fit = λ q d h. faces_fit (map_of fs) n (faces_of fs) q d (none_mapped _ (faces_unfit fs fs n ∙ e)) h };
  enough = me;
  keeps = map_more fs gs;
}

object_more : (fs gs : List Interface) (n m : ℕ) → Grows (map_of fs) (map_of (fs ++ gs)) n m → (i : Interface) → Known fs gs i → (o : Object) → object_answer fs n i.«module» o ≡ None → object_answer (fs ++ gs) m i.«module» o ≡ None
object_more fs gs n m g i same o e =
    let q : QName = record { «module» = i.«module»; object = o.name } in
    let at : map_of (fs ++ gs) q ≡ map_of fs q = ap (λ (p : Option (Face Print)). p >>= λ f. object_named f.objects o.name) same in
    let old : fits (map_of fs) n q o.desc ≡ true = fit_if (fits (map_of fs) n q o.desc) q (none_mapped (unless (fits (map_of fs) n q o.desc) q) e) in
    let new : fits (map_of (fs ++ gs)) m q o.desc ≡ true = still_fits (map_of fs) (map_of (fs ++ gs)) n m g q o.desc at old in
    ap (λ (b : Bool). option_map fault.Unfit (unless b q)) new

pub objects_more : (fs gs : List Interface) (n m : ℕ) → 201 ≤ n → 201 ≤ m → first_among (objects_answer fs n) fs ≡ None → first_among (objects_answer (fs ++ gs) m) fs ≡ None
objects_more fs gs n m le me e =
    none_more (Known fs gs) (objects_answer fs n) (objects_answer (fs ++ gs) m)
    (λ i same h. none_all (object_answer fs n i.«module») (object_answer (fs ++ gs) m i.«module») (object_more fs gs n m (grows fs gs n m le me e) i same) i.objects h)
    fs (all_known fs gs) e

-- ---- heights

position_more : (n : ℕ) (x : List ℕ) (fs gs : List Interface) (k : ℕ) → position_from n x (module_names fs) ≡ Some k → position_from n x (module_names (fs ++ gs)) ≡ Some k
position_more n x [] gs k e = absurd cc
position_more n x (f ∷ fs) gs k e = cond_more (bytes_eq x f.«module») n (position_from (suc n) x (module_names fs)) (position_from (suc n) x (module_names (fs ++ gs))) k (position_more (suc n) x fs gs k) e

-- a height that is less stays so
module _ (fs gs : List Interface) (rows more : List (List ℕ)) (n : ℕ) where
  height_more : (k j : ℕ) (o : Option (List ℕ)) → slice_get rows k ≡ o → is_less (o >>= λ m. slice_get m j) n ≡ true → is_less (height_at (rows ++ more) (k, j)) n ≡ true
  height_more k j None s e = absurd cc
  height_more k j (Some r) s e = ap (λ (o : Option (List ℕ)). is_less (o >>= λ m. slice_get m j) n) (get_more rows more k r s) ∙ e

  object_below : (k : ℕ) (o : Option ℕ) → is_less ((o >>= λ j. Some (k, j)) >>= height_at rows) n ≡ true → is_less ((o >>= λ j. Some (k, j)) >>= height_at (rows ++ more)) n ≡ true
  object_below k None e = absurd cc
  object_below k (Some j) e = height_more k j (slice_get rows k) refl e

  face_below : (k : ℕ) (x : List ℕ) (o : Option Interface) → slice_get fs k ≡ o → is_less (((o >>= λ i. position_from 0 x (object_names i.objects)) >>= λ j. Some (k, j)) >>= height_at rows) n ≡ true → is_less ((place_in (fs ++ gs) k x >>= λ j. Some (k, j)) >>= height_at (rows ++ more)) n ≡ true
  face_below k x None s e = absurd cc
  face_below k x (Some i) s e = ap (λ (o : Option Interface). is_less (((o >>= λ i. position_from 0 x (object_names i.objects)) >>= λ j. Some (k, j)) >>= height_at (rows ++ more)) n) (get_more fs gs k i s) ∙ object_below k (position_from 0 x (object_names i.objects)) e

  name_below : (q : QName) (o : Option ℕ) → position_from 0 q.«module» (module_names fs) ≡ o → is_less ((o >>= λ k. place_in fs k q.object >>= λ j. Some (k, j)) >>= height_at rows) n ≡ true → is_less (place_of (fs ++ gs) q >>= height_at (rows ++ more)) n ≡ true
  name_below q None s e = absurd cc
  name_below q (Some k) s e = ap (λ (o : Option ℕ). is_less ((o >>= λ k. place_in (fs ++ gs) k q.object >>= λ j. Some (k, j)) >>= height_at (rows ++ more)) n) (position_more 0 q.«module» fs gs k s) ∙ face_below k q.object (slice_get fs k) refl e

  below_more : (t : TypeRef) → is_below fs rows n t ≡ true → is_below (fs ++ gs) (rows ++ more) n t ≡ true
  below_more (ref.Basic b) e = refl
  below_more (ref.Named q) e = name_below q (position_from 0 q.«module» (module_names fs)) refl e

both_true : (a b : Bool) → a ≡ true → b ≡ true → (a && b) ≡ true
both_true a b e f = ap (λ x. x && b) e ∙ f

-- what is below is below by the second too
module _ (below wider : ℕ → TypeRef → Bool) (widens : (n : ℕ) (t : TypeRef) → below n t ≡ true → wider n t ≡ true) where
  row_more : (os : List Object) (hs : List ℕ) → row_keeps below os hs ≡ true → row_keeps wider os hs ≡ true
  row_more [] hs e = refl
  row_more (o ∷ os) [] e = absurd cc
  row_more (o ∷ os) (h ∷ hs) e =
      let kept : keeps_height below o h ≡ true = left_of (keeps_height below o h) (row_keeps below os hs) e in
      let low = left_of (nat_lt h 201) (list_all (below h) (stands_on o.desc)) kept in
      let all = all_pass (below h) (wider h) (widens h) (stands_on o.desc) (right_of (nat_lt h 201) (list_all (below h) (stands_on o.desc)) kept) in
      both_true (keeps_height wider o h) (row_keeps wider os hs) (both_true (nat_lt h 201) (list_all (wider h) (stands_on o.desc)) low all) (row_more os hs (right_of (keeps_height below o h) (row_keeps below os hs) e))

  rows_more : (fs gs : List Interface) (rows more : List (List ℕ)) → length rows ≡ length fs → rows_keep below fs rows ≡ true → rows_keep wider gs more ≡ true → rows_keep wider (fs ++ gs) (rows ++ more) ≡ true
  rows_more [] gs [] more l e f = f
  rows_more [] gs (r ∷ rows) more l e f = absurd (omega (arith, l))
  rows_more (i ∷ fs) gs [] more l e f = absurd cc
  rows_more (i ∷ fs) gs (r ∷ rows) more l e f =
      both_true (row_keeps wider i.objects r) (rows_keep wider (fs ++ gs) (rows ++ more))
      (row_more i.objects r (left_of (row_keeps below i.objects r) (rows_keep below fs rows) e))
      (rows_more fs gs rows more (omega (arith, l)) (right_of (row_keeps below i.objects r) (rows_keep below fs rows) e) f)

pub ranked_more : (fs gs : List Interface) (rows more : List (List ℕ)) → length rows ≡ length fs → are_ranked fs rows ≡ true → rows_keep (is_below (fs ++ gs) (rows ++ more)) gs more ≡ true → are_ranked (fs ++ gs) (rows ++ more) ≡ true
ranked_more fs gs rows more l e f = rows_more (is_below fs rows) (is_below (fs ++ gs) (rows ++ more)) (λ n t h. below_more fs gs rows more n t h) fs gs rows more l e f

-- ---- the answer

appended_stands : (fs gs : List Interface) → stale_answer fs ≡ None → unfit_answer fs ≡ None → first_among (uses_answer (fs ++ gs)) gs ≡ None → first_among (objects_answer (fs ++ gs) (steps_of (faces_of (fs ++ gs)))) gs ≡ None → (stale_answer (fs ++ gs) ≡ None) × (unfit_answer (fs ++ gs) ≡ None)
appended_stands fs gs fresh fit uses objects =
    let old : first_among (objects_answer fs (steps_of (faces_of fs))) fs ≡ None = unfit_is fs fs (steps_of (faces_of fs)) refl refl ∙ fit in
    let kept : first_among (objects_answer (fs ++ gs) (steps_of (faces_of (fs ++ gs)))) fs ≡ None = objects_more fs gs (steps_of (faces_of fs)) (steps_of (faces_of (fs ++ gs))) (omega arith) (omega arith) old in (
      none_append (uses_answer (fs ++ gs)) fs gs (uses_more fs gs fresh) uses,
      sym (unfit_is (fs ++ gs) (fs ++ gs) (steps_of (faces_of (fs ++ gs))) refl refl) ∙ none_append (objects_answer (fs ++ gs) (steps_of (faces_of (fs ++ gs)))) fs gs kept objects,
    )

-- INTERFACES THAT STAND, and more whose uses are met and whose objects fit
pub grown_stands : (is fs gs : List Interface) → is ≡ fs ++ gs → stale_answer fs ≡ None → unfit_answer fs ≡ None → first_among (uses_answer is) gs ≡ None → first_among (objects_answer is (steps_of (faces_of is))) gs ≡ None → (stale_answer is ≡ None) × (unfit_answer is ≡ None)
grown_stands is fs gs e fresh fit uses objects =
    subst (λ (l : List Interface). (stale_answer l ≡ None) × (unfit_answer l ≡ None)) (sym e)
    (appended_stands fs gs fresh fit
    (subst (λ (l : List Interface). first_among (uses_answer l) gs ≡ None) e uses)
    (subst (λ (l : List Interface). first_among (objects_answer l (steps_of (faces_of l))) gs ≡ None) e objects))

-- with heights that are known in front, and those of what is new behind them
pub ranked_behind : (is fs gs : List Interface) (all rows : List (List ℕ)) (known : ℕ) → is ≡ fs ++ gs → are_ranked fs rows ≡ true → known ≡ length rows → known ≡ length fs → all ≡ rows ++ drop (length rows) all → rows_keep (is_below is all) gs (drop known all) ≡ true → are_ranked is all ≡ true
ranked_behind is fs gs all rows known same ranked n m whole keeps =
    let rest : List (List ℕ) = drop (length rows) all in
    let here : rows_keep (is_below is all) gs rest ≡ true = subst (λ (k : ℕ). rows_keep (is_below is all) gs (drop k all) ≡ true) n keeps in
    let there : rows_keep (is_below (fs ++ gs) all) gs rest ≡ true = subst (λ (l : List Interface). rows_keep (is_below l all) gs rest ≡ true) same here in
    let parted : rows_keep (is_below (fs ++ gs) (rows ++ rest)) gs rest ≡ true = subst (λ (a : List (List ℕ)). rows_keep (is_below (fs ++ gs) a) gs rest ≡ true) whole there in
    let joined : are_ranked (fs ++ gs) (rows ++ rest) ≡ true = ranked_more fs gs rows rest (sym n ∙ m) ranked parted in
    let back : are_ranked (fs ++ gs) all ≡ true = subst (λ (a : List (List ℕ)). are_ranked (fs ++ gs) a ≡ true) (sym whole) joined in
    subst (λ (l : List Interface). are_ranked l all ≡ true) (sym same) back
