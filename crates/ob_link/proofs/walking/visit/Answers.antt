use Rattle.std.proofs.Common.{◌≡◌, true, false, ap, sym, subst, ◌∙◌, refl, List}
use Rattle.ob_link.specs.declared.walking.Frame.{Frame}
use Rattle.ob_link.specs.declared.fault.LoadRefusal.TheVariants as refusal
use Rattle.ob_link.specs.Walk.{has}
use Rattle.ob_link.specs.Plan as plan
use Rattle.ob_link.specs.Plan.{newest, entered}
use Rattle.ob_link.specs.Walking.{entry_for, IsFound, path_of, stack}
use Rattle.ob_link.proofs.Steps.{visit_passed, visit_circled, visit_refused, visit_opened, walk_opened, on_path}
use Rattle.ob_link.proofs.walking.visit.Goals as goal

pub returns-then-is_passed-clause-walked : goal.returns-then-is_passed-clause-walked
returns-then-is_passed-clause-walked g c = λ told. visit_passed (g.F.Shelf.files c.args.folder.now) c.args.loaded.now c.args.walk.now.planned c.args.walk.now.path.items c.args.walk.now.on_path c.args.walk.now.files c.args.name.now c.requires (sym c.is_passed.ensures ∙ c.if-is_passed.true)

pub returns-then-is_on-clause-walked : goal.returns-then-is_on-clause-walked
returns-then-is_on-clause-walked g c =
    let frames = c.args.walk.now.path.items in
    let it : has c.args.name.now (path_of (stack frames)) ≡ true = on_path c.args.name.now c.args.walk.now.on_path frames _ c.requires.names refl ∙ sym c.is_on.ensures ∙ c.if-is_on.true in
    let m : c.newest_of-module.result ≡ newest c.args.name.now (path_of (stack frames)) = c.newest_of-module.ensures ∙ ap (λ (l : List Frame). newest c.args.name.now (path_of (stack l))) c.deref.ensures.value in
    λ told. visit_circled (g.F.Shelf.files c.args.folder.now) c.args.loaded.now c.args.walk.now.planned frames c.args.walk.now.on_path c.args.walk.now.files c.args.name.now c.newest_of-module.result frames c.args.walk.now.files c.requires (sym c.is_passed.ensures ∙ c.if-is_passed.false) it m

pub returns-in-Missing-clause-walked : goal.returns-in-Missing-clause-walked
returns-in-Missing-clause-walked g c =
    let frames = c.args.walk.now.path.items in
    let off : has c.args.name.now (path_of (stack frames)) ≡ false = on_path c.args.name.now c.args.walk.now.on_path frames _ c.requires.names refl ∙ sym c.is_on.ensures ∙ c.if-is_on.false in
    λ told. visit_refused (g.F.Shelf.files c.args.folder.now) c.args.loaded.now c.args.walk.now.planned frames c.args.walk.now.on_path c.args.walk.now.files c.args.name.now (plan.NoObject c.args.name.now) (refusal.NoObject c.args.name.now) frames c.args.walk.now.files c.requires (sym c.is_passed.ensures ∙ c.if-is_passed.false) off (ap (entered c.args.name.now) (c.in_ok-look.ensures.found told ∙ ap entry_for c.in-Missing.is)) refl

pub returns-in-Long-clause-walked : goal.returns-in-Long-clause-walked
returns-in-Long-clause-walked g c =
    let frames = c.args.walk.now.path.items in
    let off : has c.args.name.now (path_of (stack frames)) ≡ false = on_path c.args.name.now c.args.walk.now.on_path frames _ c.requires.names refl ∙ sym c.is_on.ensures ∙ c.if-is_on.false in
    λ told. visit_refused (g.F.Shelf.files c.args.folder.now) c.args.loaded.now c.args.walk.now.planned frames c.args.walk.now.on_path c.args.walk.now.files c.args.name.now (plan.Long c.args.name.now) (refusal.Limit c.args.name.now) frames c.args.walk.now.files c.requires (sym c.is_passed.ensures ∙ c.if-is_passed.false) off (ap (entered c.args.name.now) (c.in_ok-look.ensures.found told ∙ ap entry_for c.in-Long.is)) refl

pub returns-in-Junk-clause-walked : goal.returns-in-Junk-clause-walked
returns-in-Junk-clause-walked g c =
    let frames = c.args.walk.now.path.items in
    let off : has c.args.name.now (path_of (stack frames)) ≡ false = on_path c.args.name.now c.args.walk.now.on_path frames _ c.requires.names refl ∙ sym c.is_on.ensures ∙ c.if-is_on.false in
    λ told. visit_refused (g.F.Shelf.files c.args.folder.now) c.args.loaded.now c.args.walk.now.planned frames c.args.walk.now.on_path c.args.walk.now.files c.args.name.now (plan.Damaged c.args.name.now) (refusal.Damaged c.args.name.now) frames c.args.walk.now.files c.requires (sym c.is_passed.ensures ∙ c.if-is_passed.false) off (ap (entered c.args.name.now) (c.in_ok-look.ensures.found told ∙ ap entry_for c.in-Junk.is)) refl

pub returns-in-Ok-clause-walk : goal.returns-in-Ok-clause-walk
returns-in-Ok-clause-walk g c =
    let frames = c.args.walk.now.path.items in
    let off : has c.args.name.now (path_of (stack frames)) ≡ false = on_path c.args.name.now c.args.walk.now.on_path frames _ c.requires.names refl ∙ sym c.is_on.ensures ∙ c.if-is_on.false in
    let found = subst (IsFound c.args.name.now) c.in-Holds.is c.in_ok-look.ensures.fits in
    walk_opened c.args.loaded.now c.args.walk.now.planned frames c.args.walk.now.on_path c.args.walk.now.files c.args.name.now c.in-Holds.file c.enter.new.walk.path.items c.enter.new.walk.on_path c.enter.new.walk.files c.enter.new.walk.planned c.requires (sym c.is_passed.ensures ∙ c.if-is_passed.false) off found.0 found.1 c.in-Ok.ensures.short c.in-Ok.ensures.path c.in-Ok.ensures.names c.enter.ensures.files c.enter.ensures.known

pub returns-in-Ok-clause-walked : goal.returns-in-Ok-clause-walked
returns-in-Ok-clause-walked g c =
    let frames = c.args.walk.now.path.items in
    let off : has c.args.name.now (path_of (stack frames)) ≡ false = on_path c.args.name.now c.args.walk.now.on_path frames _ c.requires.names refl ∙ sym c.is_on.ensures ∙ c.if-is_on.false in
    let found = subst (IsFound c.args.name.now) c.in-Holds.is c.in_ok-look.ensures.fits in
    λ told. visit_opened (g.F.Shelf.files c.args.folder.now) c.args.loaded.now c.args.walk.now.planned frames c.args.walk.now.on_path c.args.walk.now.files c.args.name.now c.in-Holds.file c.enter.new.walk.path.items c.enter.new.walk.files c.requires (sym c.is_passed.ensures ∙ c.if-is_passed.false) off (c.in_ok-look.ensures.found told ∙ ap entry_for c.in-Holds.is) found.1 c.in-Ok.ensures.path c.enter.ensures.files
