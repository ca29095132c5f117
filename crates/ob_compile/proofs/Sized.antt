-- The limits of sizes and operands of a module that is laid out.
use Rattle.std.proofs.Common.{◌≡◌, ℕ, Bool, List, length, Option, Some, None, Result, Err, sym, ap, subst, ◌∙◌}
use Rattle.ob_tree.specs.declared.names.QName.{QName}
use Rattle.ob_tree.specs.declared.which.Which.{Which}
use Rattle.ob_tree.specs.declared.which.Which.TheVariants as which
use Rattle.ob_types.specs.declared.desc.Desc.{Desc}
use Rattle.ob_types.specs.declared.face.Interface.{Interface}
use Rattle.ob_types.specs.declared.typed.TypedModule.{TypedModule}
use Rattle.ob_types.specs.TypedView.{module_view}
use Rattle.ob_layout.specs.LaidOut.{viewed}
use Rattle.ob_layout.specs.Room.{first_limit}
use Rattle.ob_env.specs.Faces.{faces_of, described}
use Rattle.ob_types.specs.declared.face.Use.{Use}
use Rattle.ob_obj.specs.declared.parts.Export.{Export}
use Rattle.ob_obj.specs.declared.file.ObjFile.{ObjFile}
use Rattle.ob_scheme.specs.Needs.{has_few_operands, has_short_code}
use Rattle.ob_scheme.specs.Object.{object_file}
use Rattle.ob_compile_trait.specs.declared.shape.Built.{Built}
use Rattle.ob_compile_model.specs.declared.fault.CompileRefusal.TheVariants as refusal
use Rattle.ob_compile_model.specs.declared.fault.CompileFault.{CompileFault}
use Rattle.ob_compile_model.specs.declared.fault.CompileFault.TheVariants as fault
use Rattle.ob_compile_model.specs.Compiling.{within, exceeded, exceeds, limit_of_operands, limit_of_code, exports_of, object_with, interface_by, prints}
use Rattle.ob_compile.specs.Steps.{compiled_of, short_code, Makes}
use Rattle.ob_compile.proofs.Limited.{over_first, then_more}
use Rattle.ob_compile.proofs.Facing.{objects_are}

-- the map that a module over these interfaces sees
abbrev sees : List Interface → TypedModule → QName → Option Desc
sees is m = viewed (described (faces_of is)) (module_view m)

operands_at : (is : List Interface) (m k : TypedModule) (o : Option Which) → k ≡ m → ((types : QName → Option Desc) → o ≡ exceeded (has_few_operands types (module_view k)) which.Operands) → exceeded (has_few_operands (sees is m) (module_view m)) which.Operands ≡ o
operands_at is m k o same h = sym (h (sees is m) ∙ ap (λ (x : TypedModule). exceeded (has_few_operands (sees is m) (module_view x)) which.Operands) same)

pub many_operands : (is : List Interface) (m k : TypedModule) (w : Which) (x : CompileFault) → k ≡ m → ((types : QName → Option Desc) → Some w ≡ exceeded (has_few_operands types (module_view k)) which.Operands) → x ≡ fault.Refused (refusal.Limit w) → Makes (within (compiled_of is m) (limit_of_operands prints (compiled_of is m))) (Err x)
many_operands is m k w x same h e = over_first (compiled_of is m) (exceeded (has_few_operands (sees is m) (module_view m)) which.Operands) (limit_of_code prints (compiled_of is m)) w x (operands_at is m k (Some w) same h) e

pub few_operands : (is : List Interface) (m k : TypedModule) (r : Result Built CompileFault) → k ≡ m → ((types : QName → Option Desc) → None ≡ exceeded (has_few_operands types (module_view k)) which.Operands) → Makes (within (compiled_of is m) (limit_of_code prints (compiled_of is m))) r → Makes (within (compiled_of is m) (limit_of_operands prints (compiled_of is m))) r
few_operands is m k r same h made = then_more (compiled_of is m) (exceeded (has_few_operands (sees is m) (module_view m)) which.Operands) (limit_of_code prints (compiled_of is m)) r (operands_at is m k None same h) made

limit_at : (is : List Interface) (m k : TypedModule) (i : Interface) (n : ℕ) (o : Option Which) → i ≡ interface_by prints (compiled_of is m) → k ≡ m → n ≡ length i.objects → o ≡ first_limit (sees is m) (module_view k) n → o ≡ first_limit (sees is m) (module_view m) (length (compiled_of is m).shows.objects)
limit_at is m k i n o face same number h =
    h ∙ ap (λ (x : TypedModule). first_limit (sees is m) (module_view x) n) same
    ∙ ap (λ (x : ℕ). first_limit (sees is m) (module_view m) x) (number ∙ objects_are (compiled_of is m) i face)

pub large : (is : List Interface) (m k : TypedModule) (i : Interface) (n : ℕ) (o : Option Which) (w : Which) (x : CompileFault) → i ≡ interface_by prints (compiled_of is m) → k ≡ m → n ≡ length i.objects → o ≡ first_limit (sees is m) (module_view k) n → o ≡ Some w → x ≡ fault.Refused (refusal.Limit w) → Makes (within (compiled_of is m) (exceeds prints (compiled_of is m))) (Err x)
large is m k i n o w x face same number h some e =
    over_first (compiled_of is m) (first_limit (sees is m) (module_view m) (length (compiled_of is m).shows.objects)) (limit_of_operands prints (compiled_of is m)) w x (sym (limit_at is m k i n o face same number h) ∙ some) e

pub small : (is : List Interface) (m k : TypedModule) (i : Interface) (n : ℕ) (o : Option Which) (r : Result Built CompileFault) → i ≡ interface_by prints (compiled_of is m) → k ≡ m → n ≡ length i.objects → o ≡ first_limit (sees is m) (module_view k) n → o ≡ None → Makes (within (compiled_of is m) (limit_of_operands prints (compiled_of is m))) r → Makes (within (compiled_of is m) (exceeds prints (compiled_of is m))) r
small is m k i n o r face same number h none made =
    then_more (compiled_of is m) (first_limit (sees is m) (module_view m) (length (compiled_of is m).shows.objects)) (limit_of_operands prints (compiled_of is m)) r (sym (limit_at is m k i n o face same number h) ∙ none) made

pub seen_as : (is js : List Interface) (m k : TypedModule) (r : Result Built CompileFault) → js ≡ is → k ≡ m → Makes (within (compiled_of js k) (exceeds prints (compiled_of js k))) r → Makes (within (compiled_of is m) (exceeds prints (compiled_of is m))) r
seen_as is js m k r faces same h =
    subst (λ (x : TypedModule). Makes (within (compiled_of is x) (exceeds prints (compiled_of is x))) r) same
    (subst (λ (ys : List Interface). Makes (within (compiled_of ys k) (exceeds prints (compiled_of ys k))) r) faces h)

pub object_made : (is : List Interface) (m k : TypedModule) (i : Interface) (es : List Export) (us : List Use) (f : ObjFile) → k ≡ m → es ≡ exports_of i → us ≡ i.uses → f ≡ object_file (sees is m) (module_view k) es us → f ≡ object_with (compiled_of is m) i
object_made is m k i es us f same exports uses h =
    h ∙ ap (λ (x : TypedModule). object_file (sees is m) (module_view x) es us) same
    ∙ ap (λ (x : List Export). object_file (sees is m) (module_view m) x us) exports
    ∙ ap (λ (x : List Use). object_file (sees is m) (module_view m) (exports_of i) x) uses

pub short_made : (is : List Interface) (m k : TypedModule) (b : Bool) → k ≡ m → has_short_code (sees is m) (module_view k) ≡ b → short_code (compiled_of is m) ≡ b
short_made is m k b same h = sym (ap (λ (x : TypedModule). has_short_code (sees is m) (module_view x)) same) ∙ h
