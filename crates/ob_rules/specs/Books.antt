-- What a checker has written down: of what is broken, the least alone.
use Rattle.std.specs.Prelude.{◌≡◌, [], ◌++◌, Option, None}
use Rattle.ob_rules.specs.declared.notes.Notebook.{Notebook}
use Rattle.ob_rules.specs.Judged.{Notes, Judged, earlier, least}

abbrev pub empty_book : Notebook
empty_book = record { broken = None; objects = []; types = []; lengths = record { inner = [] }; later = [] }

-- the notebook with these notes behind
unfoldable pub book_after : Notebook → Notes → Notebook
book_after b n = record {
  broken = earlier b.broken (least n.broken);
  objects = b.objects ++ n.objects;
  types = b.types ++ n.types;
  lengths = record { inner = b.lengths.inner ++ n.lengths };
  later = b.later ++ n.later;
}

-- what is made of a part is its node, and its notes are written down
abbrev pub Says : {A : Type 0} → Judged A → Option A → Notebook → Notebook → Type 0
Says j made old new = (made ≡ j.node) × (new ≡ book_after old j.notes)
