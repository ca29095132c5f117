-- The way up from a descriptor to the level of another.
use Rattle.std.proofs.Common.{◌≡◌, ℕ, ◌<◌, ◌≤◌, List, length}
use Rattle.ob_tdesc.specs.declared.descriptor.Descriptor.{Descriptor}
use Rattle.ob_tdesc.specs.Bases.{is_or_has_base, level_of}

pub record Going (list : List Descriptor) (a b at high low now then : ℕ) : Type 0 where
  pub within : at < length list
  pub level : level_of list at ≡ high
  pub same : is_or_has_base list at b ≡ is_or_has_base list a b
  pub above : low ≤ high
  pub steps : now ≡ then
