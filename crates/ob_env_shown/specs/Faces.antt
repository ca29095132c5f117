-- What the rules of the language see of the objects of interfaces: no places, numbers and words.
use Rattle.std.specs.Prelude.{ℕ, suc, cond, nat_eq, List, [], ◌∷◌, ◌++◌, map as each, Option, Some, None, slice_get}
use Rattle.std.specs.Option.{option_map}
use Rattle.std.specs.Ordering.{nat_cmp}
use Rattle.std.specs.declared.cmp.Ordering.{Ordering}
use Rattle.std.proofs.Common.{ap}
use Rattle.ob_format.specs.Format.{◌>>=◌}
use Rattle.ob_types.specs.declared.desc.Desc.{Desc}
use Rattle.ob_types.specs.declared.desc.Desc.TheVariants as desc
use Rattle.ob_types.specs.declared.face.Object.{Object}
use Rattle.ob_types.specs.declared.face.Interface.{Interface}
use Rattle.ob_types.specs.Maps.{IsFinite}
use Rattle.ob_env.specs.Faces.{Face}
use Rattle.ob_env.specs.Laws.{names_of, among, contains, either}
use Rattle.ob_env.specs.Shown.{blank, shown}
use Rattle.ob_env_shown.specs.declared.blank.BlankRecord.{BlankRecord}

-- a record without them, at the position of its object; what is no record has none
abbrev pub blank_of : ℕ → Desc → List BlankRecord
blank_of at (desc.Record r) = record { at = at; desc = blank (desc.Record r) } ∷ []
blank_of at d = []

-- the records among objects, whose positions are counted on from n
abbrev pub blanks_from : ℕ → List Object → List BlankRecord
blanks_from n [] = []
blanks_from n (o ∷ os) = blank_of n o.desc ++ blanks_from (suc n) os

abbrev pub by_place : BlankRecord → BlankRecord → Ordering
by_place a b = nat_cmp a.at b.at

-- the record of the object at a position
abbrev pub blank_at : List BlankRecord → ℕ → Option Desc
blank_at [] at = None
blank_at (b ∷ bs) at = cond (nat_eq b.at at) (Some b.desc) (blank_at bs at)

abbrev pub rows_of : List Interface → List (List BlankRecord)
rows_of is = each (λ i. blanks_from 0 i.objects) is

-- what is seen of the object at a place: the position of its module, and its own
abbrev pub seen_at : List Interface → ℕ × ℕ → Option Desc
seen_at is p = slice_get is p.0 >>= λ i. option_map (λ o. blank o.desc) (slice_get i.objects p.1)

-- what is seen at the place of a name, where it has one
abbrev pub seen_of : List Interface → Option (ℕ × ℕ) → Option Desc
seen_of is place = place >>= seen_at is

-- what is shown holds no more names than the interfaces
pub shown_finite : {K : Type 0} (fs : List (Face K)) → IsFinite (shown fs)
shown_finite fs = (names_of fs, λ q. either (λ n. ap (option_map blank) n) (λ k. contains (names_of fs) q k) (among fs q))
