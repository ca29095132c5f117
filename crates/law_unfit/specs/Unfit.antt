-- Where the interfaces around a compile do not fit one another, though each is that of a build.
use Rattle.std.specs.Prelude.{◌≡◌, ◌⊎◌, ℕ, Bool, true, false, ◌&&◌, List, Option, Some, None, Err, bytes_eq}
use Rattle.std.specs.List.{AllByRecursion}
use Rattle.ob_tree.specs.declared.names.QName.{QName}
use Rattle.ob_types.specs.declared.types.TypeRef.TheVariants as ref
use Rattle.ob_types.specs.declared.desc.Desc.{Desc}
use Rattle.ob_types.specs.declared.desc.Desc.TheVariants as desc
use Rattle.ob_types.specs.declared.desc.RecordDesc.{RecordDesc}
use Rattle.ob_types.specs.Maps.{is_type}
use Rattle.ob_env.specs.Faces.{Face, face_named, described, text_in}
use Rattle.ob_env.specs.Stale.{first_stale}
use Rattle.ob_env.specs.Fit.{is_within, names_types, has_bases, keeps_places, has_few_words, has_sound_sizes, has_distinct_names, steps_of, first_unfit}
use Rattle.ob_env_walk.specs.Walk.{Left, walk}
use Rattle.ob_compile_model.specs.Compiling.{NoFit, compiled, texts}
use Rattle.ob_link.specs.Plan.{Holds}
use Rattle.ob_builds.specs.Builds.{Text, Build}
use Rattle.ob_shell_model.specs.Library.{Library, IsLibrary}
use Rattle.ob_shell_model.specs.Model.{interface_in}

-- the sizes of a record are sound
abbrev pub is_sized : (QName → Option Desc) → ℕ → Desc → Bool
is_sized types steps (desc.Record r) = has_sound_sizes types steps r
is_sized types steps d = true

-- all conditions on an object but two: that no chain of types from it on is too long, and that the names visible in a record differ
abbrev pub fits_else : (QName → Option Desc) → ℕ → QName → Desc → Bool
fits_else types steps q d = names_types types steps d && (has_bases types steps d && (keeps_places types steps d && (has_few_words types steps q d && is_sized types steps d)))

-- a type that stands on itself, or on a chain of more than 200 others
abbrev pub IsDeep : (QName → Option Desc) → QName → Desc → Type 0
IsDeep types q d = (is_type d ≡ true) × (is_within types 201 (ref.Named q) ≡ false)

-- a record in which two visible names are the same
pub record IsTwice (types : QName → Option Desc) (steps : ℕ) (d : Desc) : Type 0 where
  pub r : RecordDesc
  pub is : d ≡ desc.Record r
  pub twice : has_distinct_names types steps r ≡ false

-- what does not fit is one of these
pub record IsUnfit (types : QName → Option Desc) (steps : ℕ) (q : QName) : Type 0 where
  pub d : Desc
  pub is : types q ≡ Some d
  pub why : IsDeep types q d ⊎ IsTwice types steps d

-- each interface that a build was compiled against is there now
abbrev pub IsOfThisAge : List (Face Text) → Build → Type 0
IsOfThisAge faces b = AllByRecursion (λ f. face_named faces f.«module» ≡ Some f) b.against

-- The interfaces of a walk over a library, each of them that of a valid build, whose stored uses agree: each object keeps all else, and
-- the first that does not fit is a type that stands on a chain of more than 200 others, or a record in which two visible names are the
-- same. A type stands on such a chain only where an interface that its module was compiled against is another one by now, or none.
pub record FitElse (l : Library) (faces : List (Face Text)) : Type 0 where
  pub else : (q : QName) (d : Desc) → described faces q ≡ Some d → fits_else (described faces) (steps_of faces) q d ≡ true
  pub unfit : (q : QName) → first_unfit faces ≡ Some q → IsUnfit (described faces) (steps_of faces) q
  pub grown : (q : QName) (d : Desc) → described faces q ≡ Some d → IsDeep (described faces) q d → (b : Build) → l.symbols q.«module» ≡ Holds b → IsOfThisAge faces b → ⊥

-- A compile is refused for an object: it is the first that does not fit, among the interfaces of its walk, whose stored uses agree.
pub record IsRefusedFor (l : Library) (q : QName) : Type 0 where
  pub root : List ℕ
  pub imports : List (List ℕ)
  pub faces : List (Face Text)
  pub walked : walk (interface_in l) root imports ≡ Left faces
  pub agree : first_stale bytes_eq (text_in faces) faces ≡ None
  pub first : first_unfit faces ≡ Some q
  pub is : FitElse l faces

pub record FitElseIn (l : Library) : Type 0 where
  pub around : (root : List ℕ) (imports : List (List ℕ)) (faces : List (Face Text)) → walk (interface_in l) root imports ≡ Left faces → first_stale bytes_eq (text_in faces) faces ≡ None → FitElse l faces
  pub refused : (source : Option (List ℕ)) (q : QName) → compiled texts (interface_in l) source ≡ Err (NoFit q) → IsRefusedFor l q

abbrev pub BuildsFitElse : Type 0
BuildsFitElse = (l : Library) → IsLibrary l → FitElseIn l
