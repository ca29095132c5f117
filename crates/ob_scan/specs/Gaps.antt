-- A position among blanks and comments.
use Rattle.std.specs.Prelude.{◌≡◌, ◌≤◌, ◌<◌, ◌==◌, if◌then◌else◌, length, drop, Option, Some, None}
use Rattle.ob_tree.specs.declared.pos.Pos.{Pos}
use Rattle.ob_scan.specs.declared.gap.GapPosition.{GapPosition}
use Rattle.ob_scan.specs.Vocabulary.{Bytes}
use Rattle.ob_scan.specs.Scanning.{Gap, Behind, behind, HasRoom}

-- what stands behind the gap from there on
abbrev pub gap_of : Bytes → GapPosition → Gap
gap_of text p = behind p.depth p.start p.here (drop p.at text)

-- where the outermost comment began, once one more is open
abbrev pub outer_start : GapPosition → Pos
outer_start p = if p.depth == 0 then p.here else p.start

pub record IsRoomy (text : Bytes) (p : GapPosition) : Type 0 where
  pub within : p.at ≤ length text
  pub room : HasRoom p.here (drop p.at text)
  pub shallow : p.depth ≤ p.at

-- a further position, or none where a symbol begins
abbrev pub Turns : Bytes → GapPosition → Option GapPosition → Type 0
Turns text p (Some q) = (gap_of text p ≡ gap_of text q) × IsRoomy text q × (p.at < q.at)
Turns text p None = (gap_of text p ≡ Behind (record { text = drop p.at text; pos = p.here })) × (p.depth ≡ 0)
