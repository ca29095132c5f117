-- When two maps of descriptions say the same of what a module names, by what it reads.
use Rattle.std.specs.Prelude.{◌≡◌, ℕ, List}
use Rattle.ob_tree.specs.declared.names.QName.{QName}
use Rattle.ob_types.specs.declared.types.TypeRef.{TypeRef}
use Rattle.ob_types.specs.declared.typed.Family.{Family}
use Rattle.ob_types.specs.TypedSyntax.{Module}
use Rattle.ob_scheme.specs.Descriptions.{open_words}
use Rattle.ob_env.specs.Faces.{Face}
use Rattle.law_local_files.specs.Agreeing.{Map, On, IsNear}
use Rattle.law_local_files.specs.Laws.{Text, over, view, IsLaid, IsTied}
use Rattle.law_image_links.specs.Same.{IsSame, IsSameSize, IsSameField, IsSameFamily, ModuleSame}
use Rattle.law_builds_seen.specs.Seen.{FieldSeen, FamilySeen, ModuleSeen}

-- Two maps agree: of names whose shapes are read, on what types they are and on the members that the first has of them; of names whose
-- layouts are read, on the words.
pub record AgreeAs (a b : Map) (Shapes Layouts : QName → Type 0) : Type 0 where
  pub shapes : (t : TypeRef) → On Shapes t → IsSame a b t
  pub fields : (o : QName) (x : List ℕ) → Shapes o → FieldSeen a o x → IsSameField a b o x
  pub families : (f : Family) → Shapes f.owner → FamilySeen a f → IsSameFamily a b f
  pub layouts : (t : TypeRef) → On Layouts t → IsSameSize a b t
  pub opens : (t : TypeRef) → On Layouts t → open_words a t ≡ open_words b t

-- THE LAW: where they agree so on what the view of a module reads, they say the same of the module, whose members the view has.
abbrev pub ReadAreSame : Type 0
ReadAreSame = (faces : List (Face Text)) (m : Module) → IsTied faces m → (other : Map) → AgreeAs (view faces m) other (IsNear (view faces m) (over faces m)) (IsLaid (view faces m) (over faces m)) → ModuleSeen (view faces m) (over faces m) → ModuleSame (view faces m) other (over faces m)
