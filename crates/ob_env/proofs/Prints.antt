-- The print that an object carries is that of its text.
use Rattle.std.proofs.Common.{◌≡◌, ℕ, Bool, true, false, cond, List, [], ◌∷◌, Option, Some, None, refl, sym, ap, ◌∙◌}
use Rattle.std.specs.Prelude.{bytes_eq}
use Rattle.std.specs.Option.{option_map}
use Rattle.std.specs.List.{AllByRecursion}
use Rattle.std.specs.Cmp.Lexicographic.{bytes_decides}
use Rattle.ob_format.specs.Format.{◌>>=◌}
use Rattle.ob_tree.specs.declared.names.QName.{QName}
use Rattle.ob_tree.specs.declared.print.Print.{Print}
use Rattle.ob_types.specs.declared.desc.Desc.{Desc}
use Rattle.ob_types.specs.declared.face.Aspect.{Aspect}
use Rattle.ob_types.specs.declared.face.Aspect.TheVariants as aspect
use Rattle.ob_types.specs.declared.face.Object.{Object}
use Rattle.ob_types.specs.declared.face.Interface.{Interface}
use Rattle.ob_desc.specs.Grammar.{shape_text, text_of}
use Rattle.ob_fprint.specs.Print.{print_from}
use Rattle.ob_sym.specs.Grammar.{IsObjectOf, object_of}
use Rattle.ob_sym.proofs.Seen.{seen_is}
use Rattle.ob_env.specs.Faces.{print_in}
use Rattle.ob_env.specs.Found.{object_by_name, interface_by_name, object_found, carried_print, CarryPrints}
use Rattle.ob_env.specs.Faces.{faces_of}
use Rattle.ob_env.specs.Laws.{described_found}

carries : (m : List ℕ) (o : Object) (a : Aspect) → IsObjectOf m o → option_map print_from (text_of (object_of m o.name) o.desc a) ≡ carried_print o a
carries m o aspect.Shape is = ap (λ (d : Desc). Some (print_from (shape_text (object_of m o.name) d))) (seen_is (object_of m o.name) o.desc is.spelled.shape) ∙ ap Some (sym is.shape)
carries m o aspect.Layout is = sym is.layout

objects_print : (m : List ℕ) (os : List Object) (x : List ℕ) (a : Aspect) → AllByRecursion (λ o. IsObjectOf m o) os → option_map print_from (option_map (λ (o : Object). o.desc) (object_by_name os x) >>= λ d. text_of (object_of m x) d a) ≡ (object_by_name os x >>= λ o. carried_print o a)
objects_print m [] x a all = refl
objects_print m (o ∷ os) x a all = go (bytes_eq x o.name) refl (objects_print m os x a all.1)
  where
    go : (b : Bool) → bytes_eq x o.name ≡ b → option_map print_from (option_map (λ (o : Object). o.desc) (object_by_name os x) >>= λ d. text_of (object_of m x) d a) ≡ (object_by_name os x >>= λ o. carried_print o a) → option_map print_from (option_map (λ (o : Object). o.desc) (cond b (Some o) (object_by_name os x)) >>= λ d. text_of (object_of m x) d a) ≡ (cond b (Some o) (object_by_name os x) >>= λ o. carried_print o a)
    go true e h = ap (λ (l : List ℕ). option_map print_from (text_of (object_of m l) o.desc a)) ((bytes_decides x o.name).0 e) ∙ carries m o a all.0
    go false e h = h

faces_print : (is : List Interface) (q : QName) (a : Aspect) → CarryPrints is → option_map print_from (option_map (λ (o : Object). o.desc) (object_found is q) >>= λ d. text_of q d a) ≡ (object_found is q >>= λ o. carried_print o a)
faces_print [] q a all = refl
faces_print (i ∷ is) q a all = go (bytes_eq q.«module» i.«module») refl (faces_print is q a all.1)
  where
    go : (b : Bool) → bytes_eq q.«module» i.«module» ≡ b → option_map print_from (option_map (λ (o : Object). o.desc) (object_found is q) >>= λ d. text_of q d a) ≡ (object_found is q >>= λ o. carried_print o a) → option_map print_from (option_map (λ (o : Object). o.desc) (cond b (Some i) (interface_by_name is q.«module») >>= λ i. object_by_name i.objects q.object) >>= λ d. text_of q d a) ≡ ((cond b (Some i) (interface_by_name is q.«module») >>= λ i. object_by_name i.objects q.object) >>= λ o. carried_print o a)
    go true e h = ap (λ (l : List ℕ). option_map print_from (option_map (λ (o : Object). o.desc) (object_by_name i.objects q.object) >>= λ d. text_of (object_of l q.object) d a)) ((bytes_decides q.«module» i.«module»).0 e) ∙ objects_print i.«module» i.objects q.object a all.0
    go false e h = h

-- the print of a name is the one that its object carries
pub prints_found : (is : List Interface) (q : QName) (a : Aspect) → CarryPrints is → print_in (faces_of is) q a ≡ (object_found is q >>= λ o. carried_print o a)
prints_found is q a all = ap (λ (o : Option Desc). option_map print_from (o >>= λ d. text_of q d a)) (described_found is q) ∙ faces_print is q a all

pub print_none : (is : List Interface) (q : QName) (a : Aspect) → CarryPrints is → None ≡ object_found is q → None ≡ print_in (faces_of is) q a
print_none is q a all e = ap (λ (o : Option Object). o >>= λ o. carried_print o a) e ∙ sym (prints_found is q a all)

pub print_some : (is : List Interface) (q : QName) (a : Aspect) (o : Object) (p : Option Print) → CarryPrints is → Some o ≡ object_found is q → p ≡ carried_print o a → p ≡ print_in (faces_of is) q a
print_some is q a o p all e f = f ∙ ap (λ (o : Option Object). o >>= λ o. carried_print o a) e ∙ sym (prints_found is q a all)
