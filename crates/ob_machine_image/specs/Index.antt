-- Numbers of types by their names: the module's, and the type's in it.
use Rattle.std.specs.Prelude.{◌≡◌, ℕ, Bool, List, Option, Some, None, ◌&&◌, nat_eq, if◌then◌else◌, Vec}
use Rattle.std.specs.Option.{option_or}
use Rattle.std.specs.Ordering.{nat_cmp}
use Rattle.std.specs.Cmp.Lexicographic.{slice_cmp}
use Rattle.std.specs.BTreeMap.{BTreeMap, get_by}
use Rattle.std.specs.declared.alloc.Global.{Global}
use Rattle.ob_tree.specs.declared.names.QName.{QName}
use Rattle.ob_tdesc.specs.declared.descriptor.Descriptor.{Descriptor}
use Rattle.ob_obj.specs.Images.{same, linked_type}

abbrev pub Held : Type 0 → Type 0
Held X = BTreeMap (Vec ℕ Global) X

abbrev pub Numbers : Type 0
Numbers = Held ℕ

abbrev pub Modules : Type 0
Modules = Held Numbers

-- what stands at a name
abbrev pub at_name : {X : Type 0} → Held X → List ℕ → Option X
at_name m name = get_by (λ k. slice_cmp nat_cmp name k.items) m

abbrev pub in_numbers : Option Numbers → List ℕ → Option ℕ
in_numbers None name = None
in_numbers (Some m) name = at_name m name

-- the number at the name of a type
abbrev pub number_of : Modules → QName → Option ℕ
number_of modules q = in_numbers (at_name modules q.«module») q.object

abbrev pub same_type : QName → QName → Bool
same_type q r = same q.«module» r.«module» && same q.object r.object

-- the second map has x at the name, or nothing there, and is as the first at each other name
abbrev pub Puts : {X : Type 0} → Held X → Held X → List ℕ → Option X → Type 0
Puts old new name x = (n : List ℕ) → at_name new n ≡ (if same n name then x else at_name old n)

abbrev pub PutsType : Modules → Modules → QName → Option ℕ → Type 0
PutsType old new name x = (q : QName) → number_of new q ≡ (if same_type q name then x else number_of old q)

-- the name has the number that it had, or else this one
abbrev pub Notes : Modules → Modules → QName → ℕ → Type 0
Notes old new name number = (q : QName) → number_of new q ≡ option_or (number_of old q) (if same_type q name then Some number else None)

abbrev pub without : ℕ → Option ℕ → Option ℕ
without number None = None
without number (Some n) = if nat_eq n number then None else Some n

-- the name has the number that it had, where it is not this one
abbrev pub Forgets : Modules → Modules → QName → ℕ → Type 0
Forgets old new name number = (q : QName) → number_of new q ≡ (if same_type q name then without number (number_of old q) else number_of old q)

abbrev pub IsAsBefore : Modules → Modules → Type 0
IsAsBefore old new = (q : QName) → number_of new q ≡ number_of old q

-- each name has the number of the type that a link of it names
abbrev pub IsIndexed : Modules → List Descriptor → Type 0
IsIndexed modules types = (q : QName) → number_of modules q ≡ linked_type types q
