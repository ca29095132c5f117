use Rattle.std.proofs.Common.{◌≡◌, List, [], ◌∷◌, ◌++◌, ◌∙◌, ap, sym, subst}
use Rattle.ob_obj.specs.declared.file.ObjFile.{ObjFile}
use Rattle.ob_obj.specs.Images.{image_of, AreEnterable}
use Rattle.ob_machine.specs.Machine.{Held, made}
use Rattle.test_codes.proofs.Entering.{alone, entry}
use Rattle.test_codes.proofs.alone.machine_of.Goals as goal

pub enter-requires : goal.enter-requires
enter-requires c =
    let files : c.push.new.self ≡ c.args.file ∷ [] = c.in_ok-push.ensures.ok ∙ ap (λ (l : List ObjFile). l ++ (c.args.file ∷ [])) c.new-files.ensures in
    subst (λ (h : Held). AreEnterable h.image c.push.new.self) (sym c.in_ok-machine.ensures) (subst (λ (l : List ObjFile). AreEnterable (made c.args.heap).image l) (sym files) (alone c.args.heap c.args.file c.requires.fits c.requires.alone))

pub returns-clause-entry : goal.returns-clause-entry
returns-clause-entry c =
    let files : c.push.new.self ≡ c.args.file ∷ [] = c.in_ok-push.ensures.ok ∙ ap (λ (l : List ObjFile). l ++ (c.args.file ∷ [])) c.new-files.ensures in
    let image : c.enter.new.self.image ≡ image_of (made c.args.heap).image (c.args.file ∷ []) = ap (λ (h : Held). h.image) c.in_ok-enter.ensures.1 ∙ (ap (λ (h : Held). image_of h.image c.push.new.self) c.in_ok-machine.ensures ∙ ap (λ (l : List ObjFile). image_of (made c.args.heap).image l) files) in
    entry c.args.heap c.args.file c.enter.new.self.image c.requires.fits image
