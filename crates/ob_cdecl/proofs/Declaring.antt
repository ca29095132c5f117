-- A name that is declared, where it was not.
use Rattle.std.proofs.Common.{◌≡◌, Bool, true, false, List, ◌∷◌, Option, Some, None, refl, sym, ap, ◌∙◌}
use Rattle.std.specs.Prelude.{is_some}
use Rattle.ob_tree.specs.declared.ident.Ident.{Ident}
use Rattle.ob_rules.specs.declared.entity.Known.{Known}
use Rattle.ob_rules.specs.declared.entity.Entity.{Entity}
use Rattle.ob_rules.specs.Judged.{no_notes, broken_at}
use Rattle.ob_rules.specs.Names.{Around, found_in_scope}
use Rattle.ob_rules.specs.Declarations.{declare, declare_if, twice}

there_if : (o : Option Known) (u : Around) (x : Ident) (e : Entity) → is_some o ≡ true → u ≡ declare_if o u x e
there_if None u x e h = absurd cc
there_if (Some k) u x e h = refl

absent_if : (o : Option Known) (u : Around) (x : Ident) (e : Entity) → is_some o ≡ false → record u { known = record { name = x.name; scope = u.scope; what = e } ∷ u.known } ≡ declare_if o u x e
absent_if None u x e h = refl
absent_if (Some k) u x e h = absurd cc

pub there : (u : Around) (x : Ident) (e : Entity) → is_some (found_in_scope u x.name) ≡ true → u ≡ declare u x e
there u x e h = there_if (found_in_scope u x.name) u x e h

pub absent : (u : Around) (x : Ident) (e : Entity) → is_some (found_in_scope u x.name) ≡ false → record u { known = record { name = x.name; scope = u.scope; what = e } ∷ u.known } ≡ declare u x e
absent u x e h = absent_if (found_in_scope u x.name) u x e h
