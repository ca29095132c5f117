use Rattle.std.proofs.Common.{◌≡◌, ◌<◌, ◌-◌, ◌*◌, false, Some, ap, sym, ◌∙◌, rules, arith}
use Rattle.ob_types.specs.TypedView.{module_view}
use Rattle.ob_types.specs.declared.types.TypeRef.TheVariants as ref
use Rattle.ob_types.specs.declared.desc.Desc.TheVariants as desc
use Rattle.ob_layout.specs.LaidOut.{kept, is_own, viewed}
use Rattle.ob_env.specs.Faces.{faces_of, described}
use Rattle.ob_layout_module.specs.Sums.{sum_in}
use Rattle.ob_layout_module.specs.declared.sums.Sum.{Sum}
use Rattle.ob_layout_module.proofs.Rows.{array_sum}
use Rattle.ob_layout_module.proofs.sums.+words_at.Goals as goal

pub returns-in-Some-Array : goal.returns-in-Some-Array
returns-in-Some-Array t c =
    let map = described (faces_of c.args.view.now.env.now) in
    let m = module_view c.args.view.now.«module».now in
    let own : is_own m c.in-Named.name ≡ false = search rules in
    let some : 0 < c.args.steps = omega arith in
    let is : Some (desc.Array c.in-Some-Array.field-0-0 c.in-Some-Array.length c.in-Some-Array.of) ≡ viewed map m c.in-Named.name = search rules in
    let named : ref.Named c.in-Named.name ≡ c.args.t.now = search rules in
    c.times.ensures
    ∙ ap (λ (s : Sum). let r : Sum = record { words = kept (c.in-Some-Array.length * s.words); ends = s.ends } in r) c.words_at-in-Some-Array.ensures
    ∙ array_sum map m c.args.steps c.in-Named.name c.in-Some-Array.field-0-0 c.in-Some-Array.length c.in-Some-Array.of own some is
    ∙ ap (sum_in map m c.args.steps) named
