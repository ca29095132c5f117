-- What a module comes to by the rules.
use Rattle.std.proofs.Common.{◌≡◌, Bool, true, false, List, [], ◌∷◌, Option, Some, None, Result, refl, sym, subst, ◌∙◌}
use Rattle.std.specs.Prelude.{IsSome, if◌then◌else◌}
use Rattle.std.specs.Option.{option_map}
use Rattle.ob_tree.specs.declared.names.QName.{QName}
use Rattle.ob_tree.specs.declared.decl.Module.{Module as Tree}
use Rattle.ob_types.specs.TypedSyntax.{Module}
use Rattle.ob_types.specs.declared.face.Interface.{Interface}
use Rattle.ob_types.specs.declared.typed.TypedModule.{TypedModule}
use Rattle.ob_rules.specs.declared.broken.Broken.{Broken}
use Rattle.ob_types.specs.declared.desc.Desc.{Desc}
use Rattle.ob_rules.specs.Judged.{before, earlier, least}
use Rattle.ob_rules.specs.Declarations.{checked, first_break, if_unbroken, module_part}
use Rattle.ob_env.specs.Faces.{faces_of}
use Rattle.ob_env.specs.Answer.{Stands}
use Rattle.ob_env.specs.Shown.{shown}
use Rattle.ob_env.specs.Building.{stands_as}
use Rattle.ob_compile_trait.specs.declared.shape.Built.{Built}
use Rattle.ob_compile_model.specs.declared.fault.CompileFault.{CompileFault}
use Rattle.ob_compile_model.specs.Compiling.{of_standing, of_faces, unless_deep, is_deep, and_limits, of_break, within, exceeds, made, prints}
use Rattle.ob_compile.specs.Steps.{Makes}
use Rattle.ob_compile.specs.Ruled.{IsChecked}

pub stands : (tree : Tree) (is env : List Interface) (r : Result Built CompileFault) → stands_as is ≡ Stands (faces_of is) → env ≡ is → Makes (of_faces prints (faces_of env) tree) r → Makes (of_standing prints tree (stands_as is)) r
stands tree is env r e same h =
    subst (λ s. Makes (of_standing prints tree s) r) (sym e)
    (subst (λ (js : List Interface). Makes (of_faces prints (faces_of js) tree) r) same h)

judged_by : (is : List Interface) (d d' : Bool) (t t' : Option TypedModule) (b b' : Option Broken) (r : Result Built CompileFault) → d ≡ d' → t ≡ t' → b ≡ b' → Makes (unless_deep d (and_limits prints (of_break prints (faces_of is) t b))) r → Makes (unless_deep d' (and_limits prints (of_break prints (faces_of is) t' b'))) r
judged_by is d d' t t' b b' r deep tree broken h =
    subst (λ (x : Bool). Makes (unless_deep x (and_limits prints (of_break prints (faces_of is) t' b'))) r) deep
    (subst (λ (x : Option TypedModule). Makes (unless_deep d (and_limits prints (of_break prints (faces_of is) x b'))) r) tree
    (subst (λ (x : Option Broken). Makes (unless_deep d (and_limits prints (of_break prints (faces_of is) t x))) r) broken h))

pub judged_as : (is : List Interface) (tree : Tree) (d : Bool) (t : Option TypedModule) (b : Option Broken) (r : Result Built CompileFault) → d ≡ is_deep (faces_of is) tree → t ≡ checked (shown (faces_of is)) tree → b ≡ first_break (shown (faces_of is)) tree → Makes (unless_deep d (and_limits prints (of_break prints (faces_of is) t b))) r → Makes (of_faces prints (faces_of is) tree) r
judged_as is tree d t b r = judged_by is d (is_deep (faces_of is) tree) t (checked (shown (faces_of is)) tree) b (first_break (shown (faces_of is)) tree) r

pub laid_as : (is : List Interface) (m k : Module) (r : Result Built CompileFault) → k ≡ m → Makes (within (made prints (faces_of is) k) (exceeds prints (made prints (faces_of is) k))) r → Makes (within (made prints (faces_of is) m) (exceeds prints (made prints (faces_of is) m))) r
laid_as is m k r e h = subst (λ (x : Module). Makes (within (made prints (faces_of is) x) (exceeds prints (made prints (faces_of is) x))) r) e h

-- ---- a module that breaks no rule has its checked module

either_is_some : (t : Bool) (a b : Broken) → (if t then Some a else Some b) ≡ None → ⊥
either_is_some true a b e = cc
either_is_some false a b e = cc

some_is_earlier : (b : Broken) (o : Option Broken) → earlier (Some b) o ≡ None → ⊥
some_is_earlier b None e = cc
some_is_earlier b (Some d) e = either_is_some (before d b) d b e

none_broken : {A : Type 0} (bs : List Broken) (x : A) → least bs ≡ None → IsSome (if_unbroken bs x)
none_broken [] x e = refl
none_broken (b ∷ bs) x e = absurd (some_is_earlier b (least bs) e)

below_map : {A B : Type 0} (f : A → B) (o : Option A) → IsSome (option_map f o) → IsSome o
below_map f None h = h
below_map f (Some x) h = refl

pub is_checked : {A : Type 0} (f : A → TypedModule) (shown : QName → Option Desc) (tree : Tree) (o : Option A) (b : Option Broken) → option_map f o ≡ checked shown tree → b ≡ first_break shown tree → IsChecked b o
is_checked f shown tree o b found broken none = below_map f o (subst IsSome (sym found) (none_broken (module_part shown tree).notes.broken _ (sym broken ∙ none)))
