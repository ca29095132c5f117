-- The law: a module that was checked is the same module against all interfaces that have the texts of its uses.
use Rattle.std.specs.Prelude.{◌≡◌, ℕ, List, map as each, Some, true, false, Contains, IsSome, codes}
use Rattle.std.specs.List.{AllByRecursion}
use Rattle.ob_tree.specs.declared.names.QName.{QName}
use Rattle.ob_types.specs.declared.desc.Desc.{Desc}
use Rattle.ob_types.specs.declared.desc.Desc.TheVariants as desc
use Rattle.ob_types.specs.declared.desc.RecordDesc.{RecordDesc}
use Rattle.ob_types.specs.declared.face.Use.{Use}
use Rattle.ob_types.specs.Relations.{is_record}
use Rattle.ob_types.specs.TypedSyntax.{Module}
use Rattle.ob_obj.specs.declared.parts.Export.{Export}
use Rattle.ob_sym.specs.Grammar.{face}
use Rattle.ob_layout.specs.LaidOut.{is_own, laid_out, viewed}
use Rattle.ob_env.specs.Faces.{Face, Wanted, described, text_in, printed, interface_of}
use Rattle.ob_env.specs.Shown.{shown}
use Rattle.ob_uses.specs.declared.way.Way.TheVariants as way
use Rattle.ob_uses.specs.Closed.{is_among}
use Rattle.ob_uses.specs.Ways.{leads_by}
use Rattle.ob_uses.specs.Uses.{is_imported}
use Rattle.ob_uses.specs.Made.{face_from}
use Rattle.ob_scheme.specs.Object.{object_file}
use Rattle.law_local_files.specs.Agreeing.{Map, IsNear, IsFlat}
use Rattle.law_local_files.specs.Read.{ModuleRead}

abbrev pub Text : Type 0
Text = List ℕ

-- interfaces that symbol files can hold
abbrev pub AreSpelled : List (Face Text) → Type 0
AreSpelled faces = AllByRecursion (λ f. face.fits (interface_of (printed f))) faces

-- Out is built in: none of them is of it
abbrev pub HaveNoOut : List (Face Text) → Type 0
HaveNoOut faces = Contains (each (λ f. f.«module») faces) (codes "Out") → ⊥

-- these uses have their texts in these interfaces
abbrev pub AreMet : List (Face Text) → List (Wanted Text) → Type 0
AreMet faces uses = AllByRecursion (λ u. text_in faces u.object u.aspect ≡ Some u.kept) uses

-- a name whose words its shape tells, with those of what it is made of: no record is among them
pub data IsRoom (map : Map) (m : List ℕ) : QName → Type 0 where
  room : {q : QName} (d : Desc) → map q ≡ Some d → is_record d ≡ false → ((r : QName) → is_among (leads_by way.Flat map m q) r ≡ true → IsRoom map m r) → IsRoom map m q

-- a name whose layout is known of a module: it counts, or it is a record of the module, or its shape tells its words
pub data IsLaid (map : Map) (m : Module) : QName → Type 0 where
  flat : {q : QName} → IsFlat map m q → IsLaid map m q
  own : {q : QName} (r : RecordDesc) → is_own m q ≡ true → map q ≡ Some (desc.Record r) → IsLaid map m q
  told : {q : QName} → IsNear map m q → IsRoom map m.name q → IsLaid map m q

-- the module laid out against interfaces, and the view from it
abbrev pub over : List (Face Text) → Module → Module
over faces m = laid_out (described faces) m

abbrev pub view : List (Face Text) → Module → Map
view faces m = viewed (described faces) (over faces m)

-- What the rules see to, of a checked module and the interfaces that it was checked against: what counts is there, of what has a
-- layout the shape counts too, and what layout and code read counts.
pub record IsTied (faces : List (Face Text)) (m : Module) : Type 0 where
  pub held : (q : QName) → IsNear (view faces m) (over faces m) q → is_imported m q ≡ true → IsSome (described faces q)
  pub flat : (q : QName) → IsFlat (view faces m) (over faces m) q → IsNear (view faces m) (over faces m) q
  pub read : ModuleRead (IsNear (view faces m) (over faces m)) (IsLaid (view faces m) (over faces m)) m

-- the same module: laid out, as it shows, and its code
pub record IsSame (faces others : List (Face Text)) (m : Module) : Type 0 where
  pub tree : over others m ≡ over faces m
  pub shows : face_from text_in others m ≡ face_from text_in faces m
  pub object : (exports : List Export) (uses : List Use) → object_file (view others m) (over others m) exports uses ≡ object_file (view faces m) (over faces m) exports uses

-- THE LAW
abbrev pub ModulesAreLocal : Type 0
ModulesAreLocal = (faces others : List (Face Text)) (m : Module) → AreSpelled faces → AreSpelled others → HaveNoOut faces → HaveNoOut others → IsTied faces m → AreMet others (face_from text_in faces m).uses → IsSame faces others m

-- THE LAW OF SHAPES: what other interfaces show to the rules of what counts is the same.
abbrev pub ShapesAreTold : Type 0
ShapesAreTold = (faces others : List (Face Text)) (m : Module) → AreSpelled faces → AreSpelled others → HaveNoOut faces → HaveNoOut others →
    ((q : QName) → IsNear (view faces m) (over faces m) q → is_imported m q ≡ true → IsSome (described faces q)) → AreMet others (face_from text_in faces m).uses →
    (q : QName) → IsNear (view faces m) (over faces m) q → is_own m q ≡ false → shown others q ≡ shown faces q
