use Rattle.std.proofs.Common.{List, subst}
use Rattle.ob_types.specs.declared.face.Interface.{Interface}
use Rattle.ob_env.specs.Building.{stands_as}
use Rattle.ob_env.specs.Faces.{faces_of}
use Rattle.ob_compile_model.specs.Compiling.{of_faces, prints}
use Rattle.ob_compile.specs.Steps.{Makes}
use Rattle.ob_compile.proofs.Ruled.{stands}
use Rattle.ob_compile.proofs.faces.compile_over.Goals as goal

pub returns-in-Ok : goal.returns-in-Ok
returns-in-Ok c =
    let made = subst (λ (l : List Interface). Makes (of_faces prints (faces_of l) c.args.tree.now) c.compile_in-made.result) c.env.ensures c.compile_in-made.ensures in
    rw c.kept.ensures (stands c.args.tree.now c.args.faces c.in-Ok.env c.compile_in-made.result c.in-Ok.ensures.0 c.in-Ok.ensures.1 made)

pub returns-in-Err : goal.returns-in-Err
returns-in-Err c = c.fault_of_env.ensures c.args.tree.now (stands_as c.args.faces) c.in-Err.ensures
