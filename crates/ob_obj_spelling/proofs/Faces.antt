-- What the conditions of a symbol file come to.
use Rattle.std.proofs.Common.{◌≡◌, ◌≢◌, ℕ, ◌<◌, ◌≤◌, ◌^◌, Bool, true, false, List, [], ◌∷◌, length, Option, Some, None, subst, arith}
use Rattle.std.specs.Prelude.{IfSome, codes}
use Rattle.std.specs.List.{list_all, AllByRecursion}
use Rattle.std.specs.Cmp.{IsTotalOrder}
use Rattle.std.proofs.lemmas.Cmp.{nat_list_cmp_total, on_total}
use Rattle.ob_format.specs.Format.{few, rising, list_of, text32, optional}
use Rattle.ob_format.specs.Names.{name, object_name}
use Rattle.ob_format.specs.Order.{rises}
use Rattle.ob_types.specs.declared.face.Object.{Object}
use Rattle.ob_types.specs.declared.face.Interface.{Interface}
use Rattle.ob_types.specs.Spelled.{use_form, by_object}
use Rattle.ob_desc.specs.Grammar.{shape_text, layout_text, IsSpelled}
use Rattle.ob_obj.specs.Grammar.{by_name as by_bytes, is_import as is_allowed}
use Rattle.ob_sym.specs.Grammar.{face as face_form, head, body, object_in, object_of, by_name, IsObjectOf}
use Rattle.ob_obj_spelling.specs.Prints.{HasPrints, AllHavePrints}
use Rattle.ob_obj_spelling.proofs.Sorted.{both_true, rises_sorted}

layout_short : (o : Option (List ℕ)) → IfSome o (λ t. length t < 2 ^ 32) → (optional text32).fits o
unfolding optional text32
layout_short None h = tt
layout_short (Some t) h = h

pub is_object : (m : List ℕ) (o : Object) → HasPrints m o → object_name.fits o.name → IsSpelled (object_of m o.name) o.desc → length (shape_text (object_of m o.name) o.desc) < 2 ^ 32 → IfSome (layout_text (object_of m o.name) o.desc) (λ t. length t < 2 ^ 32) → IsObjectOf m o
unfolding text32
is_object m o p n s short l = record { spelled = s; within = (n, (short, layout_short (layout_text (object_of m o.name) o.desc) l)); shape = p.shape; layout = p.layout }

names_total : IsTotalOrder by_name
names_total = on_total (λ o. o.name) nat_list_cmp_total

allowed : (n : List ℕ) → is_allowed n ≡ true → (n ≢ codes "Out") × (n ≢ codes "SYSTEM")
allowed n h = (
  λ e. absurd (let f : is_allowed (codes "Out") ≡ true = subst (λ (l : List ℕ). is_allowed l ≡ true) e h in let g : false ≡ true = f in cc),
  λ e. absurd (let f : is_allowed (codes "SYSTEM") ≡ true = subst (λ (l : List ℕ). is_allowed l ≡ true) e h in let g : false ≡ true = f in cc),
)

all_allowed : (ns : List (List ℕ)) → list_all is_allowed ns ≡ true → AllByRecursion (λ n. (n ≢ codes "Out") × (n ≢ codes "SYSTEM")) ns
all_allowed [] e = tt
all_allowed (n ∷ ns) e = let b = both_true (is_allowed n) (list_all is_allowed ns) e in (allowed n b.0, all_allowed ns b.1)

objects_in : (m : List ℕ) (os : List Object) → AllByRecursion (IsObjectOf m) os → AllByRecursion (object_in m).fits os
unfolding object_in
objects_in m [] a = tt
objects_in m (o ∷ os) a = (a.0, objects_in m os a.1)

object_list : (m : List ℕ) (os : List Object) → AllByRecursion (IsObjectOf m) os → rises by_name os ≡ true → length os ≤ 4096 → (rising (object_in m) by_name).fits os
unfolding list_of
object_list m os a r n = ((omega (arith, n), objects_in m os a), rises_sorted by_name os names_total r)

pub is_face : (f : Interface) → AllByRecursion (IsObjectOf f.«module») f.objects → name.fits f.«module» → (few 64 name by_bytes).fits f.imports → rises by_name f.objects ≡ true → (rising use_form by_object).fits f.uses → length f.objects ≤ 4096 → list_all is_allowed f.imports ≡ true → face_form.fits f
unfolding face_form head body
is_face f a m is r us n al = (((m, is), (object_list f.«module» f.objects a r n, us)), record { objects = n; imports = all_allowed f.imports al })

pub from_parts : (f : Interface) (objects frame order : Bool) → (AllHavePrints f → objects ≡ true → AllByRecursion (λ o. IsObjectOf f.«module» o) f.objects) → (frame ≡ true → name.fits f.«module» × ((few 64 name by_bytes).fits f.imports × (rising use_form by_object).fits f.uses)) → (order ≡ true → (rises by_name f.objects ≡ true) × ((length f.objects ≤ 4096) × (list_all is_allowed f.imports ≡ true))) → objects ≡ true → frame ≡ true → AllHavePrints f → order ≡ true → face_form.fits f
from_parts f objects frame order a b c x y p z = let u = b y in let v = c z in is_face f (a p x) u.0 u.1.0 v.0 u.1.1 v.1.0 v.1.1
