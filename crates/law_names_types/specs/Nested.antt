-- Types whose names go on with a stop behind a record's name are those of its fields.
use Rattle.std.specs.Prelude.{◌≡◌, ◌⊎◌, ℕ, Bool, true, List, [], ◌∷◌, ◌++◌, map as each, Some}
use Rattle.std.specs.Fmt.{decimal}
use Rattle.std.specs.List.{AllByRecursion, filter_map}
use Rattle.ob_tree.specs.declared.ident.Mark.{Mark}
use Rattle.ob_tree.specs.declared.type_node.TypeNode.{TypeNode}
use Rattle.ob_tree.specs.declared.decl.Heading.{Heading}
use Rattle.ob_tree.specs.declared.decl.Decl.{Decl}
use Rattle.ob_types.specs.declared.desc.Desc.{Desc}
use Rattle.ob_types.specs.declared.desc.Desc.TheVariants as desc
use Rattle.ob_types.specs.declared.desc.Field.{Field}
use Rattle.ob_types.specs.declared.typed.TypedType.{TypedType}
use Rattle.ob_rules.specs.Names.{Around}
use Rattle.ob_rules.specs.Types.{Parameters, Typing, written}
use Rattle.ob_rules.specs.Headings.{heading_of, forward_name, head_of}
use Rattle.law_names_distinct.specs.Parts.{IsWord, IsPart}
use Rattle.ob_rules.specs.Declarations.{plain_of, in_order, declaration}
use Rattle.law_names_distinct.specs.Distinct.{AreDistinct}
use Rattle.law_names_distinct.specs.Named.{all_true, type_named, parameters_named, decl_named}

-- a field of that name is among them
abbrev pub IsNameOf : List Field → List ℕ → Type 0
IsNameOf [] x = ⊥
IsNameOf (f ∷ fs) x = (f.name ≡ x) ⊎ IsNameOf fs x

-- of a record: it has a field of that name
abbrev pub HasField : Desc → List ℕ → Type 0
HasField (desc.Record r) x = IsNameOf r.fields x
HasField d x = Unit {0}

-- what is named behind a stop behind the name of t is of a field of t
abbrev pub IsBehind : TypedType → TypedType → Type 0
IsBehind t s = (x : List ℕ) → IsWord x → IsPart (t.name ++ 46 ∷ x) s.name → HasField t.desc x

abbrev pub AreNested : List TypedType → List TypedType → Type 0
AreNested ts us = AllByRecursion (λ t. AllByRecursion (IsBehind t) us) ts

-- the types that a written type makes
abbrev pub WrittenAreNested : Type 0
WrittenAreNested = (n : TypeNode) → type_named n ≡ true → (u : Around) (name : List ℕ) (m : Mark) (open_ok : Bool) → ((written n).typing u name m open_ok).notes.broken ≡ [] → (t : Typing) → ((written n).typing u name m open_ok).node ≡ Some t → AreNested t.made t.made

-- the types that the declarations of a sequence make
abbrev pub SequencesAreNested : Type 0
SequencesAreNested =
    (xs : List Decl) → all_true (each decl_named xs) ≡ true → (u : Around) → (in_order (filter_map plain_of (each declaration xs)) u).part.notes.broken ≡ []
    → AreNested (in_order (filter_map plain_of (each declaration xs)) u).part.contents.types (in_order (filter_map plain_of (each declaration xs)) u).part.contents.types

-- the name goes on, behind that of a procedure, with the place of a parameter
abbrev pub IsOfParameter : List ℕ → List ℕ → Type 0
IsOfParameter name n = (i : ℕ) × IsPart (name ++ 40 ∷ decimal i) n

-- the types that a heading makes
abbrev pub HeadingsDiffer : Type 0
HeadingsDiffer =
    (h : Heading) → parameters_named h.parameters ≡ true → (u : Around) (forward : Bool) → (head_of u (heading_of h) forward).notes.broken ≡ [] → (p : Parameters) → (head_of u (heading_of h) forward).parameters ≡ Some p
    → AreDistinct (λ t. t.name) p.made × AllByRecursion (λ t. IsOfParameter (forward_name forward (head_of u (heading_of h) forward).path) t.name) p.made
