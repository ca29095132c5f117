-- How the verdicts on two interfaces are counted: an object with two of them once.
use Rattle.std.specs.Prelude.{ℕ, ◌+◌, List, [], ◌∷◌, Bool, true, false, ◌&&◌, length, Option, Some, None, bytes_eq}
use Rattle.ob_env.specs.Faces.{Face}
use Rattle.ob_cmp.specs.declared.verdict.Kind.{Kind}
use Rattle.ob_cmp.specs.declared.verdict.Kind.TheVariants as kind
use Rattle.ob_cmp.specs.declared.verdict.Verdict.{Verdict}
use Rattle.ob_cmp.specs.Verdicts.{is_new, is_changed, is_gone, count_where}
use Rattle.ob_shell_reports.specs.declared.counts.Counts.{Counts}

abbrev pub is_shape : Kind → Bool
is_shape kind.Added = false
is_shape kind.Gone = false
is_shape kind.ShapeChanged = true
is_shape kind.LayoutChanged = false

abbrev pub is_layout : Kind → Bool
is_layout kind.Added = false
is_layout kind.Gone = false
is_layout kind.ShapeChanged = false
is_layout kind.LayoutChanged = true

-- whether a verdict is the second one on the object of the verdict before it
abbrev pub follows : Option Verdict → Verdict → Bool
follows None v = false
follows (Some u) v = is_shape u.kind && (is_layout v.kind && bytes_eq u.object v.object)

-- one verdict more
abbrev pub and_one : Counts → Bool → Kind → Counts
and_one c again kind.Added = record c { added = c.added + 1 }
and_one c again kind.Gone = record c { gone = c.gone + 1 }
and_one c again kind.ShapeChanged = record c { changed = c.changed + 1 }
and_one c true kind.LayoutChanged = c
and_one c false kind.LayoutChanged = record c { changed = c.changed + 1 }

-- the counts with these verdicts, before which there was one or none
unfoldable pub counts_from : Counts → Option Verdict → List Verdict → Counts
counts_from c last [] = c
counts_from c last (v ∷ vs) = counts_from (and_one c (follows last v) v.kind) (Some v) vs

-- nothing was counted yet
abbrev pub no_counts : ℕ → Counts
no_counts objects = record { objects = objects; added = 0; changed = 0; gone = 0 }

-- the objects of an interface beside one that stood there
abbrev pub counts_between : {K : Type 0} → Face K → Face K → Counts
counts_between old new = record { objects = length new.objects; added = count_where is_new old new; changed = count_where is_changed old new; gone = count_where is_gone old new }
