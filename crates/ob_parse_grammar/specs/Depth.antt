-- How deep phrases nest in a text.
use Rattle.std.specs.Prelude.{ℕ}

-- how many levels of nesting there are
unfoldable pub limit : ℕ
limit = 200
