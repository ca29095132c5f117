use Rattle.std.proofs.Common.{◌≡◌, List, ◌∷◌, [], ◌++◌, ap, refl, sym, ◌∙◌, append_assoc}
use Rattle.std.specs.Vec.Iter.{into_iter_items}
use Rattle.ob_types.specs.declared.face.Object.{Object}
use Rattle.ob_env_files.proofs.Objects.{entered}
use Rattle.ob_env_files.proofs.file.indexed.Goals as goal

pub objects-preserved : goal.objects-preserved
objects-preserved c =
    let rest = into_iter_items c.next.new.self in
    let all : c.objects.yielded ++ c.in-Some.object ∷ rest ≡ c.args.objects = ap (λ (l : List Object). c.objects.yielded ++ l) (sym c.in-Some.ensures.steps.0) ∙ c.objects.invariant.rest in
    record {
      entries = c.in_ok-put.ensures ∙ entered c.args.objects c.objects.yielded rest c.in-Some.object c.in-Some.object.name c.objects.index.entries c.requires all c.objects.invariant.entries refl;
      rest = append_assoc c.objects.yielded (c.in-Some.object ∷ []) rest ∙ all;
    }
