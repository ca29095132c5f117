use Rattle.std.proofs.Common.{◌≡◌, ◌+◌, ◌*◌, ℕ, List, drop}
use Rattle.std.specs.Prelude.{reverse}
use Rattle.ob_cdecl_scopes.specs.Scopes.{around_of}
use Rattle.ob_rules.specs.Headings.{Head}
use Rattle.ob_cdecl_heading.specs.Kept.{AreKept}
use Rattle.ob_cdecl.specs.Seen.{contents_of}
use Rattle.ob_cdecl_block.specs.Procedures.{whole, AreReady, AreBehind, judged_from}
use Rattle.ob_cdecl_block.proofs.Depths.{procedures_of, procedures_among}
use Rattle.ob_cdecl_block.proofs.ProcedureLaws.{PartSo}
use Rattle.ob_cdecl_block.proofs.blocks.+block.Given as goal

-- the names that are put aside and those that are known are together what was known; what was judged so far, with what is left, is the whole
abbrev pub invariant-procedures-declarations : goal.invariant-procedures-declarations
invariant-procedures-declarations g l = record {
  around : whole (around_of g.E.Types.types l.scope) l.aside ≡ around_of g.E.Types.types l.initial.scope;
  ready : AreReady (around_of g.E.Types.types l.initial.scope).scope (around_of g.E.Types.types l.initial.scope).known (reverse l.left.items);
  parts : (n : ℕ) (hs : List Head) → AreKept n (reverse l.initial.left.items) hs → AreBehind (around_of g.E.Types.types l.initial.scope).known hs → PartSo (λ u ss. judged_from u l.decls ss) (around_of g.E.Types.types l.initial.scope) (drop l.d-index l.decls) (reverse l.left.items) n hs l.initial.book l.book (contents_of l.initial.contents) (contents_of l.contents);
}

-- the fewer procedures there are, the sooner it ends
abbrev pub decreases-procedure_if : goal.decreases-procedure_if
decreases-procedure_if g l = procedures_of l.d.now * 5

abbrev pub decreases-procedures : goal.decreases-procedures
decreases-procedures g l = procedures_among l.decls.now * 5 + 1

abbrev pub decreases-block : goal.decreases-block
decreases-block g l = procedures_among l.decls.now * 5 + 2

abbrev pub decreases-procedure_here : goal.decreases-procedure_here
decreases-procedure_here g l = procedures_among l.decls.now * 5 + 3

abbrev pub decreases-procedure : goal.decreases-procedure
decreases-procedure g l = procedures_among l.decls.now * 5 + 4
