-- What a module shows.
use Rattle.std.specs.Prelude.{◌≡◌, List}
use Rattle.ob_types.specs.declared.face.Interface.{Interface}
use Rattle.ob_types.specs.declared.typed.TypedModule.{TypedModule}
use Rattle.ob_compile_model.specs.Compiling.{interface_by, prints}
use Rattle.ob_compile.specs.Steps.{compiled_of}

-- It is the interface of the module, laid out over these interfaces.
unfoldable pub IsShown : Interface → List Interface → TypedModule → Type 0
IsShown i is m = i ≡ interface_by prints (compiled_of is m)
