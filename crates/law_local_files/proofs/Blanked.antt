-- What is shown to the rules is told by shapes.
use Rattle.std.proofs.Common.{◌≡◌, Option, Some, None, refl, sym, ap, ◌∙◌}
use Rattle.std.specs.Option.{option_map}
use Rattle.ob_types.specs.declared.desc.Desc.{Desc}
use Rattle.ob_types.specs.declared.desc.Desc.TheVariants as desc
use Rattle.ob_env.specs.Faces.{described}
use Rattle.ob_env.specs.Shown.{blank}
use Rattle.law_local_files.specs.Agreeing.{as_shape}
use Rattle.law_local_files.specs.Laws.{over, ShapesAreTold}
use Rattle.law_local_files.proofs.Agreed.{shapes_met}

blank_shape : (o : Option Desc) → option_map blank o ≡ option_map blank (option_map as_shape o)
blank_shape None = refl
blank_shape (Some (desc.Const v)) = refl
blank_shape (Some (desc.Var m t)) = refl
blank_shape (Some (desc.Proc s)) = refl
blank_shape (Some (desc.Alias m t)) = refl
blank_shape (Some (desc.Array m n t)) = refl
blank_shape (Some (desc.OpenArray m t)) = refl
blank_shape (Some (desc.Pointer m t)) = refl
blank_shape (Some (desc.ProcType m s)) = refl
blank_shape (Some (desc.Record r)) = refl

pub shapes_are_told : ShapesAreTold
shapes_are_told faces others m spelled spelled_too out out_too held met q near other =
    blank_shape (described others q)
    ∙ ap (option_map blank) (sym (shapes_met faces others (over faces m) spelled spelled_too out out_too met q near (held q near) other))
    ∙ sym (blank_shape (described faces q))
