-- The interface of what is compiled.
use Rattle.std.proofs.Common.{◌≡◌, ◌+◌, List, [], ◌∷◌, ℕ, Bool, cond, length, Option, refl, sym, ap, subst, ◌∙◌}
use Rattle.std.specs.Prelude.{map as each}
use Rattle.std.specs.List.{AllByRecursion}
use Rattle.std.proofs.lemmas.List.{length-map}
use Rattle.ob_tree.specs.declared.names.QName.{QName}
use Rattle.ob_tree.specs.declared.print.Print.{Print}
use Rattle.ob_types.specs.declared.desc.Desc.{Desc}
use Rattle.ob_types.specs.declared.face.Interface.{Interface}
use Rattle.ob_types.specs.declared.typed.TypedModule.{TypedModule}
use Rattle.ob_types.specs.TypedSyntax.{Module}
use Rattle.ob_types.specs.TypedView.{module_view}
use Rattle.ob_layout.specs.LaidOut.{viewed, type_named}
use Rattle.ob_env.specs.Faces.{faces_of, described, print_in, interface_of, object_of}
use Rattle.ob_env.specs.Fit.{count_of}
use Rattle.ob_uses.specs.Objects.{HasOwnTypes}
use Rattle.ob_uses.specs.Made.{face_over}
use Rattle.ob_obj_spelling.specs.Prints.{HasPrints, AllHavePrints}
use Rattle.ob_compile_model.specs.Compiling.{Compiled, interface_by, prints}
use Rattle.ob_compile.specs.Steps.{compiled_of}
use Rattle.ob_compile.specs.Showing.{IsShown}

pub own_types : (map : QName → Option Desc) (m : Module) → HasOwnTypes (viewed map m) m
own_types map m q e = ap (λ (b : Bool). cond b (type_named m.types q.object) (map q)) e

pub shown_is : (is js : List Interface) (m k : TypedModule) (n : ℕ) (i : Interface) → js ≡ is → k ≡ m → n ≡ length m.types + count_of (faces_of is) → i ≡ interface_of (face_over (viewed (described (faces_of is)) (module_view m)) n (print_in (faces_of js)) (module_view k)) → IsShown i is m
unfolding IsShown
shown_is is js m k n i same_faces same_module same_number h =
    h ∙ ap (λ (x : List Interface). interface_of (face_over (viewed (described (faces_of is)) (module_view m)) n (print_in (faces_of x)) (module_view k))) same_faces
    ∙ ap (λ (x : TypedModule). interface_of (face_over (viewed (described (faces_of is)) (module_view m)) n (print_in (faces_of is)) (module_view x))) same_module
    ∙ ap (λ (x : ℕ). interface_of (face_over (viewed (described (faces_of is)) (module_view m)) x (print_in (faces_of is)) (module_view m))) same_number

pub as_shown : (i : Interface) (is : List Interface) (m : TypedModule) → IsShown i is m → i ≡ interface_by prints (compiled_of is m)
unfolding IsShown
as_shown i is m h = h

pub objects_are : (c : Compiled Print) (i : Interface) → i ≡ interface_by prints c → length i.objects ≡ length c.shows.objects
objects_are c i is = ap (λ (x : Interface). length x.objects) is ∙ length-map c.shows.objects (object_of c.shows.«module»)

all_print : (m : List ℕ) (os : List (List ℕ × Desc)) → AllByRecursion (HasPrints m) (each (object_of m) os)
all_print m [] = tt
all_print m (o ∷ os) = (record { shape = refl; layout = refl }, all_print m os)

pub have_prints : (c : Compiled Print) (i : Interface) → i ≡ interface_by prints c → AllHavePrints i
have_prints c i is = subst AllHavePrints (sym is) (all_print c.shows.«module» c.shows.objects)
