use Rattle.std.proofs.Common.{◌≡◌, take, ap, sym, subst, ◌∙◌}
use Rattle.std.specs.Prelude.{slice_get}
use Rattle.ob_machine_image.specs.Cut.{types_of, first_of}
use Rattle.ob_machine_image.specs.Whole.{IsImage}
use Rattle.ob_machine_image.proofs.Whole.{cut_image, cut_is}
use Rattle.ob_machine_image.proofs.image.Image.cut.Goals as goal

pub invariant_of-self : goal.invariant_of-self
invariant_of-self c =
    let img = c.args.self.now in
    let n = c.args.modules in
    let m : c.truncate.new.self.items ≡ take n img.modules = c.truncate.ensures.items ∙ ap (λ i. take n i.modules) c.self.view_is in
    let t : c.cut.new.self ≡ types_of (take n img.modules) img.types = c.cut.ensures ∙ c.count_of-types.ensures.types ∙ ap (λ ms. types_of ms c.self.inside.types) (c.deref.ensures.value ∙ m) ∙ ap (λ i. types_of (take n img.modules) i.types) c.self.view_is in
    let x : c.first_of-next.result ≡ first_of (slice_get img.modules n) img.next = c.first_of-next.ensures.first in
    let is = subst IsImage c.self.view_is c.self.invariant in
    subst IsImage (sym (cut_is img n _ _ _ m t x (ap (λ i. i.room) c.self.view_is))) (cut_image n c.first_of-next.result img is x c.first_of-next.ensures.some c.first_of-next.ensures.within)

pub returns : goal.returns
returns c =
    let img = c.args.self.now in
    let n = c.args.modules in
    let m : c.truncate.new.self.items ≡ take n img.modules = c.truncate.ensures.items ∙ ap (λ i. take n i.modules) c.self.view_is in
    let t : c.cut.new.self ≡ types_of (take n img.modules) img.types = c.cut.ensures ∙ c.count_of-types.ensures.types ∙ ap (λ ms. types_of ms c.self.inside.types) (c.deref.ensures.value ∙ m) ∙ ap (λ i. types_of (take n img.modules) i.types) c.self.view_is in
    let x : c.first_of-next.result ≡ first_of (slice_get img.modules n) img.next = c.first_of-next.ensures.first in
    cut_is img n _ _ _ m t x (ap (λ i. i.room) c.self.view_is)
