use Rattle.std.proofs.Common.{◌≡◌, ℕ, List, refl, sym, ap, subst, ◌∙◌}
use Rattle.ob_format.specs.Format.{whole}
use Rattle.ob_sym.specs.Grammar.{face as form}
use Rattle.ob_env_walk.specs.Walk.{symbol_name}
use Rattle.ob_cmp.specs.Check.{symbols_of, face_found}
use Rattle.ob_cmp.specs.Checking.{SeesFace}
use Rattle.ob_cmp.proofs.Finding.{none_found, some_found, long_found}
use Rattle.ob_cmp.proofs.present.find_face.Goals as goal

pub returns-in-Ok-None-clause-sees : goal.returns-in-Ok-None-clause-sees
unfolding symbols_of
returns-in-Ok-None-clause-sees g c = λ told.
    let t : c.in-Ok-from_utf8.text.now ≡ symbol_name c.args.«module».now = c.in-Ok-from_utf8.ensures.cases.0 ∙ c.deref.ensures.value ∙ c.in-Ok.ensures in
    none_found (λ bytes. face_found c.args.«module».now (whole form bytes)) (g.F.Shelf.files c.args.folder.now) (symbol_name c.args.«module».now) c.in-Ok-from_utf8.text.now _ t c.in-Ok-None.field-0-is (c.in-Ok-None.ensures.bytes told)

pub returns-in-Ok-Some-clause-sees : goal.returns-in-Ok-Some-clause-sees
unfolding symbols_of
returns-in-Ok-Some-clause-sees g c = λ told.
    let t : c.in-Ok-from_utf8.text.now ≡ symbol_name c.args.«module».now = c.in-Ok-from_utf8.ensures.cases.0 ∙ c.deref.ensures.value ∙ c.in-Ok.ensures in
    let f = some_found (λ bytes. face_found c.args.«module».now (whole form bytes)) (g.F.Shelf.files c.args.folder.now) (symbol_name c.args.«module».now) c.in-Ok-from_utf8.text.now _ c.in-Ok-Some.bytes t c.in-Ok-Some.field-0-is (c.in-Ok-Some.ensures.bytes told) in
    subst (λ p. SeesFace c.args.«module».now p c.as_face.result) (sym f) (subst (λ (l : List ℕ). SeesFace c.args.«module».now (face_found c.args.«module».now (whole form l)) c.as_face.result) c.deref-in-Ok-Some.ensures.value c.as_face.ensures.sees)

pub returns-in-Err-Long-clause-sees : goal.returns-in-Err-Long-clause-sees
unfolding symbols_of
returns-in-Err-Long-clause-sees g c = λ told.
    let t : c.in-Ok-from_utf8.text.now ≡ symbol_name c.args.«module».now = c.in-Ok-from_utf8.ensures.cases.0 ∙ c.deref.ensures.value ∙ c.in-Ok.ensures in
    (refl, long_found (λ bytes. face_found c.args.«module».now (whole form bytes)) (g.F.Shelf.files c.args.folder.now) (symbol_name c.args.«module».now) c.in-Ok-from_utf8.text.now _ t c.in-Err-Long.field-0-is (c.in-Err-Long.ensures.bytes told))
