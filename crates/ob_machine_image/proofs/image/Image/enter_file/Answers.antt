use Rattle.std.proofs.Common.{◌≡◌, ◌+◌, ◌<◌, ◌++◌, ◌∷◌, [], IsOk, length, map, vec_len, vec_capacity, ap, sym, subst, refl, ◌∙◌, arith}
use Rattle.ob_obj.specs.Images.{linked_type, or_zero, module_of, type_links, with_types, global_words}
use Rattle.ob_machine_image.proofs.Fits.{sound, few_types}
use Rattle.ob_machine_image.proofs.Standing.{bases_there}
use Rattle.ob_machine_image.proofs.Declaring.{definitions_rise}
use Rattle.ob_machine_image.specs.Whole.{IsImage}
use Rattle.ob_machine_image.proofs.Whole.{entered_image}
use Rattle.ob_machine_image.proofs.Entering.{pushed, entered_is}
use Rattle.ob_machine_image.proofs.image.Image.enter_file.Goals as goal

pub add_all-requires-clause-bases : goal.add_all-requires-clause-bases
add_all-requires-clause-bases c =
    let f = c.args.file.now in
    let img = c.args.self.now in
    let t : c.self.inside.types ≡ img.types = ap (λ i. i.types) c.self.view_is in
    let l : c.as_slice-3.result.now ≡ map (λ q. or_zero (linked_type img.types q)) f.links.types = c.as_slice-3.ensures ∙ c.in_ok-links.ensures ∙ ap (λ n. map (λ q. or_zero (linked_type c.self.inside.types q)) n) c.as_slice.ensures ∙ ap (λ ts. map (λ q. or_zero (linked_type ts q)) f.links.types) t in
    rw (t, l, c.as_slice-4.ensures) (bases_there img.types f.links.types f.body.types c.requires.types (sound f c.requires.fits).bases)

pub add_all-requires-clause-rising : goal.add_all-requires-clause-rising
add_all-requires-clause-rising c = rw c.as_slice-4.ensures (definitions_rise c.args.file.now c.requires.fits)

pub returns-clause-ok : goal.returns-clause-ok
returns-clause-ok c =
    let f = c.args.file.now in
    let img = c.args.self.now in
    let t : c.self.inside.types ≡ img.types = ap (λ i. i.types) c.self.view_is in
    let n : c.self.inside.next ≡ img.next = ap (λ i. i.next) c.self.view_is in
    let m : c.self.inside.modules.items ≡ img.modules = ap (λ i. i.modules) c.self.view_is in
    let l : c.as_slice-3.result.now ≡ type_links img f = c.as_slice-3.ensures ∙ c.in_ok-links.ensures ∙ ap (λ n. map (λ q. or_zero (linked_type c.self.inside.types q)) n) c.as_slice.ensures ∙ ap (λ ts. map (λ q. or_zero (linked_type ts q)) f.links.types) t in
    let room : vec_len c.reserve.new.self < vec_capacity c.reserve.new.self = omega (arith, c.in_ok-reserve.ensures.ok) in
    let ok : IsOk c.push.result = c.push.ensures.succeeds room in
    let e1 : c.push.new.self.items ≡ img.modules ++ module_of img f ∷ [] = c.push.ensures.items ∙ pushed c.push.result _ _ ok ∙ rw (c.reserve.ensures.items, m, c.in_ok-unit.ensures) refl in
    let k : c.len-number.result ≡ length img.modules = c.len-number.ensures ∙ c.self.inside.modules.ok.0 ∙ ap length m in
    let e2 : c.add_all.new.self ≡ with_types f.head.«module» (length img.types) (type_links img f) (length img.modules) img.types f.body.types = c.in_ok-add_all.ensures.ok ∙ rw (t, l, k, c.as_slice-4.ensures) refl in
    let e3 : c.self.inside.next + c.count_globals.result ≡ img.next + global_words f = rw (n, c.count_globals.ensures) refl in
    entered_is img f c.push.new.self.items c.add_all.new.self (c.self.inside.next + c.count_globals.result) e1 e2 e3 (ap (λ i. i.room) c.self.view_is)

pub invariant_of-self-2 : goal.invariant_of-self-2
invariant_of-self-2 c =
    let f = c.args.file.now in
    let img = c.args.self.now in
    let t : c.self.inside.types ≡ img.types = ap (λ i. i.types) c.self.view_is in
    let n : c.self.inside.next ≡ img.next = ap (λ i. i.next) c.self.view_is in
    let m : c.self.inside.modules.items ≡ img.modules = ap (λ i. i.modules) c.self.view_is in
    let l : c.as_slice-3.result.now ≡ type_links img f = c.as_slice-3.ensures ∙ c.in_ok-links.ensures ∙ ap (λ n. map (λ q. or_zero (linked_type c.self.inside.types q)) n) c.as_slice.ensures ∙ ap (λ ts. map (λ q. or_zero (linked_type ts q)) f.links.types) t in
    let room : vec_len c.reserve.new.self < vec_capacity c.reserve.new.self = omega (arith, c.in_ok-reserve.ensures.ok) in
    let ok : IsOk c.push.result = c.push.ensures.succeeds room in
    let e1 : c.push.new.self.items ≡ img.modules ++ module_of img f ∷ [] = c.push.ensures.items ∙ pushed c.push.result _ _ ok ∙ rw (c.reserve.ensures.items, m, c.in_ok-unit.ensures) refl in
    let k : c.len-number.result ≡ length img.modules = c.len-number.ensures ∙ c.self.inside.modules.ok.0 ∙ ap length m in
    let e2 : c.add_all.new.self ≡ with_types f.head.«module» (length img.types) (type_links img f) (length img.modules) img.types f.body.types = c.in_ok-add_all.ensures.ok ∙ rw (t, l, k, c.as_slice-4.ensures) refl in
    let e3 : c.self.inside.next + c.count_globals.result ≡ img.next + global_words f = rw (n, c.count_globals.ensures) refl in
    let is = subst IsImage c.self.view_is c.self.invariant in
    let whole = entered_is img f c.push.new.self.items c.add_all.new.self (c.self.inside.next + c.count_globals.result) e1 e2 e3 (ap (λ i. i.room) c.self.view_is) in
    subst IsImage (sym whole) (entered_image img f is c.requires (few_types f c.requires.fits) (sym (ap (λ i. i.room) c.self.view_is)))
