use Rattle.std.proofs.Common.{◌≡◌, ◌≤◌, ◌+◌, ◌++◌, length, map, take}
use Rattle.std.specs.List.{AllByRecursion}
use Rattle.ob_obj.specs.Grammar.{file}
use Rattle.ob_link.specs.Members.{member_of}
use Rattle.ob_link.proofs.loaded.Loaded.add.Given as goal

abbrev pub invariant-loop-rest : goal.invariant-loop-rest
invariant-loop-rest l = (l.self ++ map member_of l.rest ≡ l.fn.self ++ map member_of l.files) × (AllByRecursion (λ f. file.fits f) l.rest) × (length l.fn.self ≤ length l.self) × (take (length l.fn.self) l.self ≡ l.fn.self) × (length l.self + length l.rest ≡ length l.fn.self + length l.files)

abbrev pub decreases-loop-rest : goal.decreases-loop-rest
decreases-loop-rest l = length l.rest
