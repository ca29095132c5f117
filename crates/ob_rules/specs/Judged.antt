-- What is made of a part of a text: its node, where it keeps all rules; all that is broken in it; and what it names.
use Rattle.std.specs.Prelude.{◌≡◌, ◌⊎◌, ℕ, Bool, true, false, ◌||◌, ◌&&◌, ◌==◌, nat_lt, if◌then◌else◌, List, [], ◌∷◌, ◌++◌, Option, Some, None}
use Rattle.ob_tree.specs.declared.pos.Pos.{Pos}
use Rattle.ob_tree.specs.declared.names.QName.{QName}
use Rattle.ob_tree.specs.declared.ident.Ident.{Ident}
use Rattle.ob_types.specs.declared.types.TypeRef.{TypeRef}
use Rattle.ob_types.specs.declared.typed.Designator.{Designator}
use Rattle.ob_rules.specs.declared.notes.Later.{Later}
use Rattle.ob_rules.specs.declared.notes.Later.TheVariants as later
use Rattle.ob_rules.specs.declared.broken.Broken.{Broken}
use Rattle.ob_rules.specs.declared.broken.Rule.{Rule}
use Rattle.ob_rules.specs.declared.broken.Rule.TheVariants as rule

-- what is broken; the objects of other modules that the text names; the types that MAX and MIN name; the designators of each LEN that is a constant; and what is judged later
pub record Notes : Type 0 where
  pub broken : List Broken
  pub objects : List QName
  pub types : List TypeRef
  pub lengths : List Designator
  pub later : List Later

pub record Judged (A : Type 0) : Type 0 where
  pub node : Option A
  pub notes : Notes

abbrev pub no_notes : Notes
no_notes = record { broken = []; objects = []; types = []; lengths = []; later = [] }

abbrev pub joined : Notes → Notes → Notes
joined a b = record { broken = a.broken ++ b.broken; objects = a.objects ++ b.objects; types = a.types ++ b.types; lengths = a.lengths ++ b.lengths; later = a.later ++ b.later }

abbrev pub sound : {A : Type 0} → A → Judged A
sound x = record { node = Some x; notes = no_notes }

-- there is no node, and nothing more is said
abbrev pub silent : {A : Type 0} → Judged A
silent = record { node = None; notes = no_notes }

abbrev pub broken_at : Rule → Pos → Notes
broken_at which at = record { broken = record { rule = which; «pos» = at } ∷ []; objects = []; types = []; lengths = []; later = [] }

-- the rule is broken there, if it is so
abbrev pub notes_if : Bool → Rule → Pos → Notes
notes_if true which at = broken_at which at
notes_if false which at = no_notes

abbrev pub breaks : {A : Type 0} → Rule → Pos → Judged A
breaks which at = record { node = None; notes = broken_at which at }

-- the node, and more notes before it
abbrev pub noted : {A : Type 0} → Notes → Judged A → Judged A
noted n a = record { node = a.node; notes = joined n a.notes }

abbrev pub naming : QName → Notes
naming q = record { broken = []; objects = q ∷ []; types = []; lengths = []; later = [] }

abbrev pub naming_type : TypeRef → Notes
naming_type t = record { broken = []; objects = []; types = t ∷ []; lengths = []; later = [] }

abbrev pub naming_length : Designator → Notes
naming_length d = record { broken = []; objects = []; types = []; lengths = d ∷ []; later = [] }

abbrev pub left_for_later : Later → Notes
left_for_later l = record { broken = []; objects = []; types = []; lengths = []; later = l ∷ [] }

abbrev pub names : {A : Type 0} → QName → Judged A → Judged A
names q a = noted (naming q) a

abbrev pub names_type : {A : Type 0} → TypeRef → Judged A → Judged A
names_type t a = noted (naming_type t) a

abbrev pub names_length : {A : Type 0} → Designator → Judged A → Judged A
names_length d a = noted (naming_length d) a

abbrev pub judge_later : {A : Type 0} → List Later → Judged A → Judged A
judge_later [] a = a
judge_later (l ∷ ls) a = noted (left_for_later l) (judge_later ls a)

-- A RULE SPEAKS ONLY WHERE THE PARTS IT NAMES KEEP ALL RULES

abbrev pub if_sound : {A B : Type 0} → Option A → (A → Judged B) → Judged B
if_sound None f = silent
if_sound (Some x) f = f x

-- what a says, and then, where a is sound, what f says of it
infixl 10 ◌▷◌
abbrev pub ◌▷◌ : {A B : Type 0} → Judged A → (A → Judged B) → Judged B
a ▷ f = noted a.notes (if_sound a.node f)

abbrev pub paired : {A B : Type 0} → Option A → Option B → Option (A × B)
paired None b = None
paired (Some x) None = None
paired (Some x) (Some y) = Some (x, y)

-- two parts side by side: each is judged by itself
abbrev pub both : {A B : Type 0} → Judged A → Judged B → Judged (A × B)
both a b = record { node = paired a.node b.node; notes = joined a.notes b.notes }

abbrev pub made : {A B : Type 0} → (A → B) → Judged A → Judged B
made f a = a ▷ λ x. sound (f x)

-- parts in a row
abbrev pub each_sound : {A : Type 0} → List (Judged A) → Judged (List A)
each_sound [] = sound []
each_sound (a ∷ rest) = made (λ p. p.0 ∷ p.1) (both a (each_sound rest))

-- a part that may be left out
abbrev pub if_there : {A : Type 0} → Option (Judged A) → Judged (Option A)
if_there None = sound None
if_there (Some a) = made (λ x. Some x) a

-- the part is sound, or the rule is broken there
abbrev pub unless : {A : Type 0} → Bool → Rule → Pos → A → Judged A
unless true which at x = breaks which at
unless false which at x = sound x

abbrev pub wants : {A : Type 0} → Bool → Rule → Pos → A → Judged A
wants true which at x = sound x
wants false which at x = breaks which at

-- there is something, or the rule is broken there
abbrev pub found_or : {A : Type 0} → Rule → Pos → Option A → Judged A
found_or which at None = breaks which at
found_or which at (Some x) = sound x

-- several conditions of one node: each speaks for itself
abbrev pub also : {A : Type 0} → Bool → Rule → Pos → Judged A → Judged A
also true which at a = record { node = None; notes = joined (broken_at which at) a.notes }
also false which at a = a

abbrev pub notes_of : {A : Type 0} → List (Judged A) → Notes
notes_of [] = no_notes
notes_of (a ∷ rest) = joined a.notes (notes_of rest)

-- nothing is broken
abbrev pub is_quiet : {A : Type 0} → List A → Bool
is_quiet [] = true
is_quiet (b ∷ bs) = false

-- more notes before a part, of which a node is made only where nothing is broken in them
abbrev pub if_quiet : {A : Type 0} → Bool → Option A → Option A
if_quiet true x = x
if_quiet false x = None

abbrev pub behind_quiet : {A : Type 0} → Notes → Judged A → Judged A
behind_quiet n a = record { node = if_quiet (is_quiet n.broken) a.node; notes = joined n a.notes }

-- THE LEAST BROKEN RULE: THE FIRST BY POSITION, THEN BY NUMBER

-- the number by which a rule is told
abbrev pub number_of : Rule → ℕ
number_of rule.DeclaredTwice = 1
number_of rule.NotDeclared = 2
number_of rule.WrongKind = 3
number_of rule.WrongClosingName = 4
number_of rule.ReservedModule = 5
number_of rule.MisplacedMark = 6
number_of rule.LeftOut = 7
number_of rule.OuterVariable = 8
number_of rule.LiteralTooLarge = 9
number_of rule.NotConstant = 10
number_of rule.ConstantOutOfRange = 11
number_of rule.UnfitLength = 12
number_of rule.MisplacedOpenArray = 13
number_of rule.UnfitBase = 14
number_of rule.UnfitPointerBase = 15
number_of rule.StructuredResult = 17
number_of rule.UnmatchedForward = 18
number_of rule.UnfitReceiver = 19
number_of rule.UnmatchedRedefinition = 20
number_of rule.UnfitOperands = 21
number_of rule.UnfitSelector = 22
number_of rule.UnfitTypeTest = 23
number_of rule.WrongParameterCount = 24
number_of rule.UnfitParameter = 25
number_of rule.NotChangeable = 26
number_of rule.MisplacedCall = 27
number_of rule.UnfitPredeclaredParameters = 28
number_of rule.NotAssignable = 31
number_of rule.NotBoolean = 32
number_of rule.UnfitCase = 33
number_of rule.UnfitFor = 34
number_of rule.MisplacedExit = 35
number_of rule.UnfitReturn = 36
number_of rule.UnfitWith = 37
number_of rule.GuardedVarParameter = 38
number_of rule.UnfitProcedureValue = 39
number_of rule.UnfitSuperCall = 40

abbrev pub before : Broken → Broken → Bool
before a b =
    nat_lt a.pos.line b.pos.line
    || (a.pos.line == b.pos.line && (nat_lt a.pos.col b.pos.col || (a.pos.col == b.pos.col && nat_lt (number_of a.rule) (number_of b.rule))))

abbrev pub earlier : Option Broken → Option Broken → Option Broken
earlier None b = b
earlier (Some a) None = Some a
earlier (Some a) (Some b) = if before b a then Some b else Some a

abbrev pub least : List Broken → Option Broken
least [] = None
least (b ∷ bs) = earlier (Some b) (least bs)

-- one of them
abbrev pub IsAmong : Broken → List Broken → Type 0
IsAmong b [] = ⊥
IsAmong b (c ∷ cs) = (b ≡ c) ⊎ IsAmong b cs

-- none of them is before it
abbrev pub NoneBefore : List Broken → Broken → Type 0
NoneBefore [] b = Unit {0}
NoneBefore (c ∷ cs) b = (before c b ≡ false) × NoneBefore cs b

abbrev pub IsLeast : List Broken → Option Broken → Type 0
IsLeast bs None = bs ≡ []
IsLeast bs (Some b) = IsAmong b bs × NoneBefore bs b
