use Rattle.std.proofs.Common.{◌≡◌, ℕ, List, sym, subst, ◌∙◌}
use Rattle.ob_format.specs.Format.{whole}
use Rattle.ob_sym.specs.Grammar.{face as face_form}
use Rattle.ob_env_walk.specs.Walk.{symbol_entry, symbol_name, named_face}
use Rattle.ob_env_walk.specs.Walking.{Looks}
use Rattle.ob_env_walk.proofs.Files.{none_found, some_found, long_found}
use Rattle.ob_env_walk.proofs.walking.look.Goals as goal

pub returns-in-Ok-None-clause-found : goal.returns-in-Ok-None-clause-found
unfolding symbol_entry
returns-in-Ok-None-clause-found g c = λ told.
    let t : c.in-Ok-from_utf8.text.now ≡ symbol_name c.args.m.now = c.in-Ok-from_utf8.ensures.cases.0 ∙ c.deref.ensures.value ∙ c.in-Ok.ensures in
    none_found (g.F.Shelf.files c.args.folder.now) (symbol_name c.args.m.now) c.in-Ok-from_utf8.text.now c.args.m.now _ t c.in-Ok-None.field-0-is (c.in-Ok-None.ensures.bytes told)

pub returns-in-Ok-Some-clause-found : goal.returns-in-Ok-Some-clause-found
unfolding symbol_entry
returns-in-Ok-Some-clause-found g c = λ told.
    let t : c.in-Ok-from_utf8.text.now ≡ symbol_name c.args.m.now = c.in-Ok-from_utf8.ensures.cases.0 ∙ c.deref.ensures.value ∙ c.in-Ok.ensures in
    let f = some_found (g.F.Shelf.files c.args.folder.now) (symbol_name c.args.m.now) c.in-Ok-from_utf8.text.now c.args.m.now _ c.in-Ok-Some.bytes t c.in-Ok-Some.field-0-is (c.in-Ok-Some.ensures.bytes told) in
    subst (λ e. Looks e c.look_at.result) (sym f) (subst (λ (l : List ℕ). Looks (named_face c.args.m.now (whole face_form l)) c.look_at.result) c.deref-in-Ok-Some.ensures.value c.look_at.ensures.looks)

pub returns-in-Err-Long-clause-found : goal.returns-in-Err-Long-clause-found
unfolding symbol_entry
returns-in-Err-Long-clause-found g c = λ told.
    let t : c.in-Ok-from_utf8.text.now ≡ symbol_name c.args.m.now = c.in-Ok-from_utf8.ensures.cases.0 ∙ c.deref.ensures.value ∙ c.in-Ok.ensures in
    long_found (g.F.Shelf.files c.args.folder.now) (symbol_name c.args.m.now) c.in-Ok-from_utf8.text.now c.args.m.now _ t c.in-Err-Long.field-0-is (c.in-Err-Long.ensures.bytes told)
