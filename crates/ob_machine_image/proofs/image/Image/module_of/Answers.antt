use Rattle.std.proofs.Common.{◌≡◌, ◌+◌, ◌++◌, length, map, ap, refl, ◌∙◌}
use Rattle.ob_obj.specs.Images.{string_places, linked_variable, linked_procedure, or_zero, or_first, numbers, type_links}
use Rattle.ob_machine_image.proofs.Fits.{sound, short, variables_rise, commands_rise}
use Rattle.ob_machine_image.proofs.Entering.{made}
use Rattle.ob_machine_image.proofs.image.Image.module_of.Goals as goal

pub returns : goal.returns
returns c =
    let img = c.args.self.now in
    let f = c.args.file.now in
    let n : c.self.inside.next ≡ img.next = ap (λ i. i.next) c.self.view_is in
    let m : c.self.inside.modules.items ≡ img.modules = ap (λ i. i.modules) c.self.view_is in
    let t : c.self.inside.types ≡ img.types = ap (λ i. i.types) c.self.view_is in
    let e1 : c.in_ok-code.code ≡ f.body.code = c.in_ok-code.ensures ∙ c.as_slice.ensures in
    let e2 : c.in_ok-positions.positions ≡ f.body.positions = c.in_ok-positions.ensures ∙ c.as_slice-2.ensures in
    let e3 : c.in_ok-procedures.procedures ≡ f.body.procedures = c.in_ok-procedures.ensures ∙ c.as_slice-3.ensures in
    let e5 : c.in_ok-variables.variables ≡ map (λ v. (v.name, img.next + v.place)) f.globals.variables = c.in_ok-variables.ensures ∙ rw (c.as_slice-4.ensures, n) refl in
    let e6 : c.in_ok-commands.commands ≡ map (λ k. (k.name, k.procedure)) f.body.commands = c.in_ok-commands.ensures ∙ rw (c.as_slice-5.ensures) refl in
    let e7 : c.in_ok-strings.strings ≡ string_places (img.next + f.globals.variable_words) f.globals.strings = c.in_ok-strings.ensures ∙ rw (c.as_slice-6.ensures, n) refl in
    let e8 : c.in_ok-variable_links.variable_links ≡ map (λ k. or_zero (linked_variable img.modules k)) f.links.variables = c.in_ok-variable_links.ensures ∙ ap (λ ms. map (λ k. or_zero (linked_variable ms k)) c.as_slice-7.result.now) (c.deref.ensures.value ∙ m) ∙ ap (map (λ k. or_zero (linked_variable img.modules k))) c.as_slice-7.ensures in
    let e9 : c.in_ok-procedure_links.procedure_links ≡ map (λ k. or_first (linked_procedure img.modules k)) f.links.procedures = c.in_ok-procedure_links.ensures ∙ ap (λ ms. map (λ k. or_first (linked_procedure ms k)) c.as_slice-8.result.now) (c.deref-2.ensures.value ∙ m) ∙ ap (map (λ k. or_first (linked_procedure img.modules k))) c.as_slice-8.ensures in
    let e10 : c.in_ok-types.types ≡ numbers (length img.types) (length f.body.types) ++ type_links img f = c.in_ok-types.ensures ∙ rw (c.count.ensures.count, t, c.as_slice-9.ensures, c.requires.links) refl in
    made img f c.in_ok-code.code c.in_ok-positions.positions c.in_ok-procedures.procedures c.self.inside.next c.in_ok-variables.variables c.in_ok-commands.commands c.in_ok-strings.strings c.in_ok-variable_links.variable_links c.in_ok-procedure_links.procedure_links c.in_ok-types.types e1 e2 e3 n e5 e6 e7 e8 e9 e10

pub invariant_of-result : goal.invariant_of-result
invariant_of-result c =
    let f = c.args.file.now in
    let e1 : c.in_ok-code.code ≡ f.body.code = c.in_ok-code.ensures ∙ c.as_slice.ensures in
    let e3 : c.in_ok-procedures.procedures ≡ f.body.procedures = c.in_ok-procedures.ensures ∙ c.as_slice-3.ensures in
    let e5 : c.in_ok-variables.variables ≡ map (λ v. (v.name, c.self.inside.next + v.place)) f.globals.variables = c.in_ok-variables.ensures ∙ rw (c.as_slice-4.ensures) refl in
    let e6 : c.in_ok-commands.commands ≡ map (λ k. (k.name, k.procedure)) f.body.commands = c.in_ok-commands.ensures ∙ rw (c.as_slice-5.ensures) refl in
    record {
      some = c.self.invariant.some;
      within = c.self.invariant.within;
      short = rw e1 (sound f c.requires.can.fits).few_instructions;
      few = rw e3 (sound f c.requires.can.fits).few_procedures;
      words = rw e3 (short f c.requires.can.fits);
      variables = rw e5 (variables_rise c.self.inside.next f c.requires.can.fits);
      commands = rw e6 (commands_rise f c.requires.can.fits);
    }

pub new-requires : goal.new-requires
new-requires c =
    let f = c.args.file.now in
    rw c.as_slice.ensures (sound f c.requires.can.fits).few_instructions

pub copy_procedures-requires : goal.copy_procedures-requires
copy_procedures-requires c =
    let f = c.args.file.now in
    rw c.as_slice-3.ensures (short f c.requires.can.fits)
