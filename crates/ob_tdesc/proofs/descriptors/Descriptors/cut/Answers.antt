use Rattle.std.proofs.Common.{◌≡◌, ◌+◌, ◌<◌, ◌≤◌, length, take, drop, Some, ap, sym, ◌∙◌, refl, arith}
use Rattle.std.specs.Prelude.{slice_get, sum}
use Rattle.std.proofs.lemmas.Option.{slice_get_read}
use Rattle.std.proofs.lemmas.List.{take-map, take_all}
use Rattle.ob_tdesc.specs.declared.descriptors.Entry.{Entry}
use Rattle.ob_tdesc.proofs.Cut.{methods_cut}
use Rattle.ob_tdesc.proofs.Tables.{tile_within, length_list}
use Rattle.ob_tdesc.proofs.Kept.{kept_cut, list_cut}
use Rattle.ob_tdesc.proofs.descriptors.Descriptors.cut.Goals as goal

pub returns-then-types-len-clause-list : goal.returns-then-types-len-clause-list
returns-then-types-len-clause-list c =
    let d = c.self.inside in
    let len : length c.args.self.now.list ≡ length d.entries.items = ap length (sym (ap (λ v. v.list) c.self.view_is)) ∙ length_list d.methods.items d.entries.items in
    sym (take_all c.args.types c.args.self.now.list (omega arith))

pub overflow_sub-self : goal.overflow_sub-self
overflow_sub-self c =
    let d = c.self.inside in
    let len : length c.args.self.now.list ≡ length d.entries.items = ap length (sym (ap (λ v. v.list) c.self.view_is)) ∙ length_list d.methods.items d.entries.items in
    let le : c.args.types ≤ length c.args.self.now.list = c.requires in
    let lt : c.args.types < length d.entries.items = omega arith in
    let at : slice_get d.entries.items c.args.types ≡ Some c.index.result.now = slice_get_read d.entries.items (length d.entries.items) c.args.types c.index.result.now refl lt c.index.ensures in
    let within = tile_within 0 d.entries.items (length d.methods.items) c.args.types c.index.result.now c.self.invariant.tiles at in
    omega arith

pub invariant_of-self : goal.invariant_of-self
invariant_of-self c =
    let d = c.self.inside in
    let len : length c.args.self.now.list ≡ length d.entries.items = ap length (sym (ap (λ v. v.list) c.self.view_is)) ∙ length_list d.methods.items d.entries.items in
    let le : c.args.types ≤ length c.args.self.now.list = c.requires in
    let lt : c.args.types < length d.entries.items = omega arith in
    let at : slice_get d.entries.items c.args.types ≡ Some c.index.result.now = slice_get_read d.entries.items (length d.entries.items) c.args.types c.index.result.now refl lt c.index.ensures in
    let within = tile_within 0 d.entries.items (length d.methods.items) c.args.types c.index.result.now c.self.invariant.tiles at in
    kept_cut d _ c.args.types c.index.result.now c.self.invariant at c.truncate-2.ensures.items c.truncate.ensures.items (omega arith) (omega arith) (omega arith)

pub returns-clause-list : goal.returns-clause-list
returns-clause-list c =
    let d = c.self.inside in
    let is = ap (λ v. v.list) c.self.view_is in
    let len : length c.args.self.now.list ≡ length d.entries.items = ap length (sym is) ∙ length_list d.methods.items d.entries.items in
    let le : c.args.types ≤ length c.args.self.now.list = c.requires in
    let lt : c.args.types < length d.entries.items = omega arith in
    let at : slice_get d.entries.items c.args.types ≡ Some c.index.result.now = slice_get_read d.entries.items (length d.entries.items) c.args.types c.index.result.now refl lt c.index.ensures in
    rw (c.truncate-2.ensures.items, c.truncate.ensures.items) (list_cut d.methods.items d.entries.items c.args.types c.index.result.now c.self.invariant.tiles at ∙ ap (take c.args.types) is)

pub returns-clause-own : goal.returns-clause-own
returns-clause-own c = rw c.truncate-2.ensures.items (sym (take-map Entry.own c.args.types c.self.inside.entries.items) ∙ ap (take c.args.types) (ap (λ v. v.own) c.self.view_is))

pub returns-clause-methods : goal.returns-clause-methods
returns-clause-methods c =
    let d = c.self.inside in
    let is = ap (λ v. v.list) c.self.view_is in
    let room : d.methods_room ≡ c.args.self.now.methods_room = ap (λ v. v.methods_room) c.self.view_is in
    let len : length c.args.self.now.list ≡ length d.entries.items = ap length (sym is) ∙ length_list d.methods.items d.entries.items in
    let le : c.args.types ≤ length c.args.self.now.list = c.requires in
    let lt : c.args.types < length d.entries.items = omega arith in
    let at : slice_get d.entries.items c.args.types ≡ Some c.index.result.now = slice_get_read d.entries.items (length d.entries.items) c.args.types c.index.result.now refl lt c.index.ensures in
    let own = ap (λ v. v.own) c.self.view_is in
    let rest : c.index.result.now.first + sum (drop c.args.types c.args.self.now.own) ≡ length d.methods.items = rw (sym own) (methods_cut d.entries.items (length d.methods.items) c.args.types c.index.result.now c.self.invariant.tiles at) in
    omega arith
