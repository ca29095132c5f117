-- What an interface of a file has of an object.
use Rattle.std.proofs.Common.{◌≡◌, ℕ, Bool, true, false, cond, List, [], ◌∷◌, length, Option, Some, None, refl, sym, ap, subst, ◌∙◌}
use Rattle.std.specs.Prelude.{map as each, bytes_eq}
use Rattle.std.specs.Option.{option_map}
use Rattle.std.specs.List.{AllByRecursion}
use Rattle.std.specs.List.Sorted.{IsStrictlySortedBy}
use Rattle.std.specs.Cmp.Lexicographic.{bytes_decides}
use Rattle.ob_format.specs.Format.{◌>>=◌, list_of}
use Rattle.ob_tree.specs.declared.names.QName.{QName}
use Rattle.ob_types.specs.declared.desc.Desc.{Desc}
use Rattle.ob_types.specs.declared.face.Aspect.{Aspect}
use Rattle.ob_types.specs.declared.face.Aspect.TheVariants.{Shape, Layout}
use Rattle.ob_types.specs.declared.face.Object.{Object}
use Rattle.ob_types.specs.declared.face.Interface.{Interface}
use Rattle.ob_desc.specs.Grammar.{shape_text, layout_text, seen}
use Rattle.ob_fprint.specs.Print.{print_from}
use Rattle.ob_sym.specs.Grammar.{face, body, object_in, by_name, object_of, IsObjectOf}
use Rattle.ob_sym.proofs.Seen.{seen_is}
use Rattle.ob_env.specs.Faces.{face_of, object_named}
use Rattle.ob_env.specs.Found.{carried_print}
use Rattle.ob_cmp.specs.Rising.{object_at}
use Rattle.ob_cmp.specs.Check.{in_face, print_of_desc}

pub rising : (f : Interface) → face.fits f → IsStrictlySortedBy by_name f.objects
unfolding face body list_of
rising f h = h.0.1.0.1

all_objects : (m : List ℕ) (os : List Object) → AllByRecursion (object_in m).fits os → AllByRecursion (IsObjectOf m) os
unfolding object_in
all_objects m [] a = tt
all_objects m (o ∷ os) a = (a.0, all_objects m os a.1)

objects_in : (f : Interface) → face.fits f → AllByRecursion (IsObjectOf f.«module») f.objects
unfolding face body list_of
objects_in f h = all_objects f.«module» f.objects h.0.1.0.0.1

named_at : (os : List Object) (x : List ℕ) → object_named (each (λ o. (o.name, o.desc)) os) x ≡ option_map (λ (o : Object). o.desc) (object_at x os)
named_at [] x = refl
named_at (o ∷ os) x = go (bytes_eq x o.name) (named_at os x)
  where
    go : (b : Bool) → object_named (each (λ o. (o.name, o.desc)) os) x ≡ option_map (λ (o : Object). o.desc) (object_at x os) → cond b (Some o.desc) (object_named (each (λ o. (o.name, o.desc)) os) x) ≡ option_map (λ (o : Object). o.desc) (cond b (Some o) (object_at x os))
    go true e = refl
    go false e = e

found_is : (m : List ℕ) (os : List Object) (x : List ℕ) (p : Object) → AllByRecursion (IsObjectOf m) os → object_at x os ≡ Some p → IsObjectOf m p × (x ≡ p.name)
found_is m [] x p a e = absurd cc
found_is m (o ∷ os) x p a e = go (bytes_eq x o.name) refl (found_is m os x p a.1) e
  where
    go : (b : Bool) → bytes_eq x o.name ≡ b → (object_at x os ≡ Some p → IsObjectOf m p × (x ≡ p.name)) → cond b (Some o) (object_at x os) ≡ Some p → IsObjectOf m p × (x ≡ p.name)
    go true s h f = let is : o ≡ p = cc in (subst (λ (q : Object). IsObjectOf m q) is a.0, subst (λ (q : Object). x ≡ q.name) is ((bytes_decides x o.name).0 s))
    go false s h f = h f

carried_is : (m : List ℕ) (o : Object) (q : QName) (aspect : Aspect) → IsObjectOf m o → object_of m o.name ≡ q → carried_print o aspect ≡ print_of_desc q o.desc aspect
carried_is m o q Shape h e =
    ap Some (h.shape ∙ ap (λ (d : Desc). print_from (shape_text (object_of m o.name) d)) (sym (seen_is (object_of m o.name) o.desc h.spelled.shape)) ∙ ap (λ (r : QName). print_from (shape_text r (seen o.desc))) e)
carried_is m o q Layout h e = h.layout ∙ ap (λ (r : QName). option_map print_from (layout_text r o.desc)) e

pub none_there : (i : Interface) (q : QName) (aspect : Aspect) → None ≡ object_at q.object i.objects → None ≡ in_face print_of_desc (face_of i) q aspect
none_there i q aspect e = sym (ap (λ o. o >>= λ d. print_of_desc q d aspect) (named_at i.objects q.object ∙ ap (option_map (λ (o : Object). o.desc)) (sym e)))

pub one_there : (i : Interface) (q : QName) (aspect : Aspect) (o : Object) → face.fits i → i.«module» ≡ q.«module» → Some o ≡ object_at q.object i.objects → carried_print o aspect ≡ in_face print_of_desc (face_of i) q aspect
one_there i q aspect o fits m e =
    let f = found_is i.«module» i.objects q.object o (objects_in i fits) (sym e) in
    let name : object_of i.«module» o.name ≡ q = ap (λ (l : List ℕ). object_of l o.name) m ∙ ap (λ (l : List ℕ). object_of q.«module» l) (sym f.1) in
    carried_is i.«module» o q aspect f.0 name
    ∙ sym (ap (λ p. p >>= λ d. print_of_desc q d aspect) (named_at i.objects q.object ∙ ap (option_map (λ (o : Object). o.desc)) (sym e)))
