use Rattle.std.proofs.Common.{◌≡◌, List, ℕ, subst, ◌∙◌}
use Rattle.ob_format.specs.Format.{Adds, text32}
use Rattle.ob_format.specs.Exact.{then_adds}
use Rattle.ob_desc.specs.Grammar.{shape_text}
use Rattle.ob_sym.specs.Grammar.{object_of, object_in}
use Rattle.ob_sym.proofs.Written.{shape_is, is_small}
use Rattle.ob_sym.proofs.object.write_object.Goals as goal

pub write-requires : goal.write-requires
unfolding object_in
write-requires c = c.requires.within.0

pub write_text-requires : goal.write_text-requires
unfolding object_in
write_text-requires c =
    let is : c.as_slice.result.now ≡ shape_text (object_of c.args.«module».now c.args.object.now.name) c.args.object.now.desc = c.as_slice.ensures ∙ shape_is (object_of c.args.«module».now c.args.object.now.name) c.args.object.now.desc c.in_ok-shape.shape c.requires.spelled.shape c.in_ok-shape.ensures in
    is_small c.as_slice.result.now (shape_text (object_of c.args.«module».now c.args.object.now.name) c.args.object.now.desc) is c.requires.within.1.0

pub returns : goal.returns
unfolding object_in
returns c =
    let is : c.as_slice.result.now ≡ shape_text (object_of c.args.«module».now c.args.object.now.name) c.args.object.now.desc = c.as_slice.ensures ∙ shape_is (object_of c.args.«module».now c.args.object.now.name) c.args.object.now.desc c.in_ok-shape.shape c.requires.spelled.shape c.in_ok-shape.ensures in
    let text = subst (λ (t : List ℕ). Adds c.write.new.out.items c.write_text.new.out.items (text32.spell t)) is c.in_ok-write_text.ensures in
    then_adds c.in_ok-write.ensures (then_adds text c.in_ok-write_layout.ensures)
