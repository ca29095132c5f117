use Rattle.std.proofs.Common.{◌≡◌, ◌+◌, ◌-◌, ◌≤◌, ◌∷◌, ◌∙◌, [], List, length, take, drop, ap, arith, refl, Err}
use Rattle.ob_tree.specs.declared.name.Name.{Name}
use Rattle.ob_make.specs.declared.turns.Turn.TheVariants as turn
use Rattle.ob_shell_reports.proofs.Along.{front_is}
use Rattle.ob_shell_session.proofs.Makes.{at_turn, make_stays, make_lacks, make_refused, make_goes_on, make_cut, make_told, turn_cut, compile_of}
use Rattle.ob_shell_reports.specs.declared.stop.Stop.{Stop}
use Rattle.ob_shell_session.proofs.making.+do_turns.Goals as goal

none_of : {A : Type 0} (xs : List A) → length xs + 1 ≤ 1 → xs ≡ []
none_of [] h = refl
none_of (x ∷ xs) h = absurd (omega (arith, h))

pub returns-in-empty-clause-does : goal.returns-in-empty-clause-does
returns-in-empty-clause-does g t c = λ w s le h tf to.
    let n = c.in-empty.len_below in
    make_told c.args.made.now c.args.count c.args.modules.now w (g.O.Sink.tells c.args.out.now) (g.O.Sink.taken c.args.out.now) (g.O.Sink.taken c.put_made.new.out) (g.F.Shelf.files c.args.folder.now) s c.put_made.result (none_of c.args.modules.now (omega (arith, n))) to h c.put_made.ensures.does

pub returns-in-Ok-Stays-clause-does : goal.returns-in-Ok-Stays-clause-does
returns-in-Ok-Stays-clause-does g t c = λ w s le h tf to.
    let x = c.module-item.result in
    let xs = take (length c.args.modules.now - 1) (drop 1 c.args.modules.now) in
    let e : c.args.modules.now ≡ x ∷ xs = front_is c.args.modules.now x c.in-len1-up.len_at_least c.module-item.is in
    let m = c.args.made.now in
    let before = g.O.Sink.taken c.args.out.now in
    let old = g.F.Shelf.files c.args.folder.now in
    let mid = g.F.Shelf.files c.turn_of.new.folder in
    let a = at_turn m c.args.modules.now x xs w old mid s c.in-Ok-Stays.field-0 turn.Stays e (c.in-Ok-Stays.ensures.turn tf) c.in-Ok-Stays.field-0-is (c.in-Ok-Stays.ensures.files tf) h in
    let n : length c.args.modules.now ≡ length (x ∷ xs) = ap (λ (l : List Name). length l) e in
    make_stays m c.args.count c.args.modules.now x xs w before (g.O.Sink.taken c.do_turns.new.out) old mid (g.F.Shelf.files c.do_turns.new.folder) s c.do_turns.result a
    (c.do_turns.ensures.does w s (omega (arith, n, le)) a.shows (c.in-Ok-Stays.ensures.told ∙ tf) to)

pub returns-in-Ok-true-clause-does : goal.returns-in-Ok-true-clause-does
returns-in-Ok-true-clause-does g t c = λ w s le h tf to.
    let x = c.module-item.result in
    let xs = take (length c.args.modules.now - 1) (drop 1 c.args.modules.now) in
    let e : c.args.modules.now ≡ x ∷ xs = front_is c.args.modules.now x c.in-len1-up.len_at_least c.module-item.is in
    let m = c.args.made.now in
    let before = g.O.Sink.taken c.args.out.now in
    let old = g.F.Shelf.files c.args.folder.now in
    let mid = g.F.Shelf.files c.turn_of.new.folder in
    let a = at_turn m c.args.modules.now x xs w old mid s c.in-Ok-Compiles.field-0 turn.Compiles e (c.in-Ok-Compiles.ensures.turn tf) c.in-Ok-Compiles.field-0-is (c.in-Ok-Compiles.ensures.files tf) h in
    make_refused m c.args.count c.args.modules.now x xs w before (g.O.Sink.taken c.compile_module.new.out) old mid (g.F.Shelf.files c.compile_module.new.folder) s c.in-Ok-true.field-0 a c.in-Ok-true.field-0-test
    (c.in-Ok-true.ensures.does w a.shows.files (c.in-Ok-Compiles.ensures.told ∙ tf) to)

pub returns-in-Ok-false-clause-does : goal.returns-in-Ok-false-clause-does
returns-in-Ok-false-clause-does g t c = λ w s le h tf to.
    let x = c.module-item.result in
    let xs = take (length c.args.modules.now - 1) (drop 1 c.args.modules.now) in
    let e : c.args.modules.now ≡ x ∷ xs = front_is c.args.modules.now x c.in-len1-up.len_at_least c.module-item.is in
    let m = c.args.made.now in
    let before = g.O.Sink.taken c.args.out.now in
    let old = g.F.Shelf.files c.args.folder.now in
    let mid = g.F.Shelf.files c.turn_of.new.folder in
    let a = at_turn m c.args.modules.now x xs w old mid s c.in-Ok-Compiles.field-0 turn.Compiles e (c.in-Ok-Compiles.ensures.turn tf) c.in-Ok-Compiles.field-0-is (c.in-Ok-Compiles.ensures.files tf) h in
    let n : length c.args.modules.now ≡ length (x ∷ xs) = ap (λ (l : List Name). length l) e in
    let one : c.saturating_add-count.result ≡ c.args.count + 1 = omega (arith, n, le, c.saturating_add-count.ensures) in
    make_goes_on m c.args.count c.saturating_add-count.result c.args.modules.now x xs w before (g.O.Sink.taken c.compile_module.new.out) (g.O.Sink.taken c.do_turns-in-Ok-false.new.out) old mid (g.F.Shelf.files c.compile_module.new.folder) (g.F.Shelf.files c.do_turns-in-Ok-false.new.folder) s c.in-Ok-false.field-0 c.do_turns-in-Ok-false.result a c.in-Ok-false.field-0-test one
    (c.in-Ok-false.ensures.does w a.shows.files (c.in-Ok-Compiles.ensures.told ∙ tf) to)
    (λ k. c.do_turns-in-Ok-false.ensures.does (compile_of w x).world s (omega (arith, n, le, one)) k (c.in-Ok-false.ensures.told_folder ∙ c.in-Ok-Compiles.ensures.told ∙ tf) (c.in-Ok-false.ensures.told_sink ∙ to))

pub returns-in-Err-compile_module-clause-does : goal.returns-in-Err-compile_module-clause-does
returns-in-Err-compile_module-clause-does g t c = λ w s le h tf to.
    let x = c.module-item.result in
    let xs = take (length c.args.modules.now - 1) (drop 1 c.args.modules.now) in
    let e : c.args.modules.now ≡ x ∷ xs = front_is c.args.modules.now x c.in-len1-up.len_at_least c.module-item.is in
    let m = c.args.made.now in
    let before = g.O.Sink.taken c.args.out.now in
    let old = g.F.Shelf.files c.args.folder.now in
    let mid = g.F.Shelf.files c.turn_of.new.folder in
    let a = at_turn m c.args.modules.now x xs w old mid s c.in-Ok-Compiles.field-0 turn.Compiles e (c.in-Ok-Compiles.ensures.turn tf) c.in-Ok-Compiles.field-0-is (c.in-Ok-Compiles.ensures.files tf) h in
    make_cut m c.args.count c.args.modules.now x xs w before (g.O.Sink.taken c.compile_module.new.out) old mid (g.F.Shelf.files c.compile_module.new.folder) s c.in-Err-compile_module.stop a
    (c.in-Err-compile_module.ensures.does w a.shows.files (c.in-Ok-Compiles.ensures.told ∙ tf) to)

pub returns-in-Ok-LacksSource-clause-does : goal.returns-in-Ok-LacksSource-clause-does
returns-in-Ok-LacksSource-clause-does g t c = λ w s le h tf to.
    let x = c.module-item.result in
    let xs = take (length c.args.modules.now - 1) (drop 1 c.args.modules.now) in
    let e : c.args.modules.now ≡ x ∷ xs = front_is c.args.modules.now x c.in-len1-up.len_at_least c.module-item.is in
    let m = c.args.made.now in
    let before = g.O.Sink.taken c.args.out.now in
    let old = g.F.Shelf.files c.args.folder.now in
    let mid = g.F.Shelf.files c.turn_of.new.folder in
    let a = at_turn m c.args.modules.now x xs w old mid s c.in-Ok-LacksSource.field-0 turn.LacksSource e (c.in-Ok-LacksSource.ensures.turn tf) c.in-Ok-LacksSource.field-0-is (c.in-Ok-LacksSource.ensures.files tf) h in
    make_lacks m c.args.count c.args.modules.now x xs w (g.O.Sink.tells c.args.out.now) before (g.O.Sink.taken c.refuse_sourceless.new.out) old mid s c.refuse_sourceless.result a to c.refuse_sourceless.ensures.does

pub returns-in-Err-clause-does : goal.returns-in-Err-clause-does
returns-in-Err-clause-does g t c = λ w s le h tf to.
    turn_cut c.args.made.now c.args.count c.args.modules.now w (g.O.Sink.taken c.args.out.now) (g.F.Shelf.files c.args.folder.now) (g.F.Shelf.files c.turn_of.new.folder) c.in-Err.stop (λ e. c.in-Err.ensures.cause.no_sink (ap (λ (y : Stop). Err y) e)) (c.in-Err.ensures.files tf)
