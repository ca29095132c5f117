-- What is asked of the descriptors of an image: each says how many words the record type of its name has.
use Rattle.std.specs.Prelude.{◌≡◌, ℕ, List, [], ◌∷◌, bytes_eq, ◌&&◌}
use Rattle.ob_tree.specs.declared.names.QName.{QName}
use Rattle.ob_types.specs.declared.desc.Desc.{Desc}
use Rattle.ob_types.specs.declared.desc.Desc.TheVariants as desc
use Rattle.ob_types.specs.declared.typed.TypedType.{TypedType}
use Rattle.ob_tdesc.specs.declared.descriptor.Descriptor.{Descriptor}
use Rattle.ob_meaning.specs.Values.{Program, RecordForm, fields_of, record_in, words}
use Rattle.ob_obj.specs.declared.parts.RecordType.{RecordType}
use Rattle.ob_obj.specs.declared.file.ObjFile.{ObjFile}
use Rattle.law_simulation_relation.specs.Relation.{OrElse, FormOk}
use Rattle.law_simulation_relation.specs.Setting.{Setting}

abbrev pub named : List ℕ → List ℕ → QName
named m x = record { «module» = m; object = x }

-- descriptors with the words of what they are named after
abbrev pub DescriptorsFit : Program → List Descriptor → Type 0
DescriptorsFit program [] = Unit {0}
DescriptorsFit program (d ∷ ds) = (d.words ≡ words (record_in program (named d.«module» d.name))) × DescriptorsFit program ds

-- a descriptor of that name is there
abbrev pub IsDescriptor : List Descriptor → QName → Type 0
IsDescriptor [] q = ⊥
IsDescriptor (d ∷ ds) q = OrElse (bytes_eq q.«module» d.«module» && bytes_eq q.object d.name) (Unit {0}) (IsDescriptor ds q)

-- the record types of a file, with the words of the types of the module that they are named after
abbrev pub RecordsFit : Program → List ℕ → List RecordType → Type 0
RecordsFit program m [] = Unit {0}
RecordsFit program m (t ∷ ts) = (t.words ≡ words (record_in program (named m t.name))) × RecordsFit program m ts

abbrev pub FilesFit : Program → List ObjFile → Type 0
FilesFit program [] = Unit {0}
FilesFit program (f ∷ fs) = RecordsFit program f.head.«module» f.body.types × FilesFit program fs

-- a record's description says the words that it has
abbrev pub DescFits : Program → QName → Desc → Type 0
DescFits program q (desc.Record r) = r.words ≡ words (record_in program q)
DescFits program q d = Unit {0}

-- the same of the declarations that they come from
abbrev pub DeclarationsFit : Program → List ℕ → List TypedType → Type 0
DeclarationsFit program m [] = Unit {0}
DeclarationsFit program m (t ∷ ts) = DescFits program (named m t.name) t.desc × DeclarationsFit program m ts

-- Every record type of the program is well built and has a descriptor.
abbrev pub TypesThere : Setting → Type 0
TypesThere c = (q : QName) (line : List QName) → record_in c.program q ≡ RecordForm (q ∷ line) (fields_of (record_in c.program q)) → FormOk c.program (record_in c.program q) × IsDescriptor c.img.types q
