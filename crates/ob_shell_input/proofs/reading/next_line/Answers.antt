use Rattle.std.proofs.Common.{rules, arith, ◌≡◌, ◌<◌, ◌≤◌, ◌+◌, ◌++◌, ◌∷◌, [], ℕ, List, Bool, true, false, refl, sym, ap, ◌∙◌, subst, length, Option, Some, None, Ok}
use Rattle.std.specs.Prelude.{◌==◌}
use Rattle.std.proofs.lemmas.List.{length-append}
use Rattle.std.proofs.lemmas.Bool.{eqb-true}
use Rattle.ob_shell_input.specs.Reading.{Takes, is_open}
use Rattle.ob_shell_input.specs.Opens.{open_more}
use Rattle.ob_shell_input.proofs.Nexts.{line_does, last_does, far_does, long_does, one_more}
use Rattle.ob_shell_input.proofs.reading.next_line.Goals as goal

ends : (x : Option ℕ) (old new : List ℕ) → x ≡ None → Takes old new (Ok x) → (old ≡ []) × (new ≡ [])
ends x old new e t = subst (λ (y : Option ℕ). Takes old new (Ok y)) e t

first : (x : Option ℕ) (b : ℕ) (old new : List ℕ) → x ≡ Some b → Takes old new (Ok x) → old ≡ b ∷ new
first x b old new e t = subst (λ (y : Option ℕ). Takes old new (Ok y)) e t

pub returns-in_default-clause-does : goal.returns-in_default-clause-does
returns-in_default-clause-does g c = λ told whole w.
    let i = c.bytes.invariant in
    let none : c.in_ok-byte.field-0 ≡ None = search rules in
    let t = ends c.in_ok-byte.field-0 _ _ none (c.in_ok-byte.ensures.takes (i.4 ∙ told)) in
    let some : 0 < length c.bytes.line.items = search rules in
    last_does whole c.args.taken c.bytes.count _ c.bytes.line.items _ _ i.3 i.0 i.2 i.1 w (i.6 told) some t.0 t.1

pub returns-then-count-ge-MOST-clause-does : goal.returns-then-count-ge-MOST-clause-does
returns-then-count-ge-MOST-clause-does g c = λ told whole w.
    let i = c.bytes.invariant in
    let t = first c.in_ok-byte.field-0 c.in-Some.byte _ _ c.in-Some.is (c.in_ok-byte.ensures.takes (i.4 ∙ told)) in
    far_does whole c.args.taken c.bytes.count c.in-Some.byte _ c.bytes.line.items _ _ i.3 i.0 (omega (arith, c.if-count-ge-MOST.true)) w (i.6 told) t

pub returns-then-byte-eq10-clause-does : goal.returns-then-byte-eq10-clause-does
returns-then-byte-eq10-clause-does g c = λ told whole w.
    let i = c.bytes.invariant in
    let t = first c.in_ok-byte.field-0 c.in-Some.byte _ _ c.in-Some.is (c.in_ok-byte.ensures.takes (i.4 ∙ told)) in
    let ten : c.in-Some.byte ≡ 10 = search (rules, c.if-byte-eq10.true) in
    line_does whole c.args.taken c.bytes.count _ c.bytes.line.items _ _ i.3 i.0 (omega (arith, c.if-count-ge-MOST.false)) i.1 w (i.6 told) (t ∙ ap (λ b. b ∷ (c.next.new.self ++ g.I.Source.left c.next.new.script)) ten)

pub returns-then-len-ge-LONGEST-clause-does : goal.returns-then-len-ge-LONGEST-clause-does
returns-then-len-ge-LONGEST-clause-does g c = λ told whole w.
    let i = c.bytes.invariant in
    let t = first c.in_ok-byte.field-0 c.in-Some.byte _ _ c.in-Some.is (c.in_ok-byte.ensures.takes (i.4 ∙ told)) in
    let no : (c.in-Some.byte == 10) ≡ false = search (rules, c.if-byte-eq10.false) in
    let big : 1024 ≤ length c.bytes.line.items = search (arith, c.len.ensures, c.if-len-ge-LONGEST.true) in
    long_does whole c.args.taken c.in-Some.byte _ c.bytes.line.items _ _ i.3 no big (i.6 told) t

pub bytes-preserved : goal.bytes-preserved
bytes-preserved g c =
    let i = c.bytes.invariant in
    let p : c.push.new.self.items ≡ c.bytes.line.items ++ c.in-Some.byte ∷ [] = search (rules, c.push.ensures.items, c.if-is_err.false, c.is_err.ensures.value) in
    let n : length c.push.new.self.items ≡ length c.bytes.line.items + 1 = ap length p ∙ length-append c.bytes.line.items (c.in-Some.byte ∷ []) in
    let no : (c.in-Some.byte == 10) ≡ false = search (rules, c.if-byte-eq10.false) in
    let small : length c.bytes.line.items < 1024 = search (arith, c.len.ensures, c.if-len-ge-LONGEST.false) in
    let k = i.0 in
    let cause = c.in_ok-byte.ensures.cause.later in
    let before = i.5 in (
      omega (arith, n, k),
      omega (arith, n, small),
      omega (arith, c.if-count-ge-MOST.false),
      ap is_open p ∙ open_more c.bytes.line.items c.in-Some.byte i.3 no,
      c.in_ok-byte.ensures.told ∙ i.4,
      omega (arith, cause, before),
      λ told. one_more _ c.bytes.line.items _ _ c.in-Some.byte (i.6 told) (first c.in_ok-byte.field-0 c.in-Some.byte _ _ c.in-Some.is (c.in_ok-byte.ensures.takes (i.4 ∙ told))) ∙ ap (λ l. l ++ (c.next.new.self ++ g.I.Source.left c.next.new.script)) (sym p),
    )
