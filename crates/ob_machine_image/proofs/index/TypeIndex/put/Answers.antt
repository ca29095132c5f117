use Rattle.std.proofs.Common.{rules, ◌≡◌, Some, sym, subst, ◌∙◌}
use Rattle.ob_machine_image.specs.Index.{Puts, PutsType, IsAsBefore}
use Rattle.ob_machine_image.proofs.Maps.{puts_at, put_in, same_in, same_at, was_there, was_empty, on_ok, on_err}
use Rattle.ob_machine_image.proofs.index.TypeIndex.put.Goals as goal

pub returns-in-Some-clause-ok : goal.returns-in-Some-clause-ok
returns-in-Some-clause-ok c =
    let old = c.args.self.now.modules in
    let name = c.args.name.now in
    let inner = c.in-Some.numbers.now in
    let after = c.put_number.new.numbers in
    let new = c.get_mut.follows.lender after in
    let bytes = c.as_bytes-in-Some.result.now in
    let outer = puts_at c.as_bytes.result.now name.«module» old new (Some after) c.as_bytes.ensures ((c.get_mut.follows.holds after).3 (search rules)) in
    on_ok c.put_number.result (Puts inner after bytes (Some c.args.number)) (PutsType old new name (Some c.args.number)) c.put_number.ensures.ok (λ put.
    put_in old new name inner after (Some c.args.number) outer (subst (λ l. Puts inner after l (Some c.args.number)) c.as_bytes-in-Some.ensures put) (λ n. was_there old c.as_bytes.result.now name.«module» n inner c.as_bytes.ensures c.in-Some.ensures.value))

pub returns-in-Some-clause-err : goal.returns-in-Some-clause-err
returns-in-Some-clause-err c =
    let old = c.args.self.now.modules in
    let name = c.args.name.now in
    let inner = c.in-Some.numbers.now in
    let after = c.put_number.new.numbers in
    let new = c.get_mut.follows.lender after in
    let outer = puts_at c.as_bytes.result.now name.«module» old new (Some after) c.as_bytes.ensures ((c.get_mut.follows.holds after).3 (search rules)) in
    on_err c.put_number.result (after.entries ≡ inner.entries) (IsAsBefore old new) c.put_number.ensures.err (λ same.
    same_in old new name.«module» after outer (λ n. same_at inner after n same ∙ sym (was_there old c.as_bytes.result.now name.«module» n inner c.as_bytes.ensures c.in-Some.ensures.value)))

pub returns-in_ok-insert-in-None-clause-ok : goal.returns-in_ok-insert-in-None-clause-ok
returns-in_ok-insert-in-None-clause-ok c =
    let old = c.args.self.now.modules in
    let name = c.args.name.now in
    let inner = c.new-numbers.result in
    let after = c.put_number-in-None.new.numbers in
    let new = c.insert.new.self in
    let put : Puts inner after name.object (Some c.args.number) = subst (λ l. Puts inner after l (Some c.args.number)) c.as_bytes-in-None.ensures c.in_ok-put_number-in-None.ensures.ok in
    let bytes : c.in_ok-key-in-None.key.items ≡ name.«module» = c.in_ok-key-in-None.ensures.items ∙ c.as_bytes-in-None-2.ensures in
    let inserted = puts_at c.in_ok-key-in-None.key.items name.«module» c.get_mut.follows.lender-at-none new (Some after) bytes c.in_ok-insert-in-None.ensures.updates in
    let outer : Puts old new name.«module» (Some after) = subst (λ m. Puts m new name.«module» (Some after)) c.get_mut.follows.holds-at-none inserted in
    put_in old new name inner after (Some c.args.number) outer put (λ n. was_empty old c.as_bytes.result.now name.«module» n inner c.as_bytes.ensures c.in-None.ensures.value c.new-numbers.ensures.empty)
