-- Words that are counted up to 2^32.
use Rattle.std.proofs.Common.{◌≡◌, ℕ, suc, ◌+◌, ◌*◌, arith}
use Rattle.std.specs.Prelude.{min}
use Rattle.ob_types.proofs.TypedViews.{view_if, view_case_none, view_case_some, view_while, view_repeat, view_for, view_loop, view_with_none, view_with_some, view_assign, view_call_proper, view_updated, view_copy, view_new, view_new_open_array, view_assert, view_halt, view_exit, view_return}

pub capped_times : (n w : ℕ) → min (n * min w 4294967296) 4294967296 ≡ min (n * w) 4294967296
capped_times n w = grind arith

pub capped_plus : (a b : ℕ) → min (min a 4294967296 + min b 4294967296) 4294967296 ≡ min (a + b) 4294967296
capped_plus a b = grind arith

pub capped_frame : (a b c : ℕ) → min (min a 4294967296 + min (min b 4294967296 + min c 4294967296) 4294967296) 4294967296 ≡ min (a + (b + c)) 4294967296
capped_frame a b c = grind (arith, capped_plus)

-- one more of a list
pub capped_more : (total n rest whole : ℕ) → min (total + (n + rest)) 4294967296 ≡ whole → min (min (total + min n 4294967296) 4294967296 + rest) 4294967296 ≡ whole
capped_more total n rest whole e = grind arith

-- one more, which is not capped
pub capped_next : (total n rest whole : ℕ) → min (total + (n + rest)) 4294967296 ≡ whole → min (min (total + n) 4294967296 + rest) 4294967296 ≡ whole
capped_next total n rest whole e = grind arith

pub one_plus : (n : ℕ) → min (1 + min n 4294967296) 4294967296 ≡ min (suc n) 4294967296
one_plus n = grind arith

pub ruleset hidden_steps = (capped_plus, one_plus, view_if, view_case_none, view_case_some, view_while, view_repeat, view_for, view_loop, view_with_none, view_with_some, view_assign, view_call_proper, view_updated, view_copy, view_new, view_new_open_array, view_assert, view_halt, view_exit, view_return)
