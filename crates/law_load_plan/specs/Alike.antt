-- Modules of which a load is told alike: one kind of modules, and another that stand for them.
use Rattle.std.specs.Prelude.{◌≡◌, ℕ, true, List, map, Some, None, Result, Ok, Err, bytes_eq}
use Rattle.std.specs.Option.{option_map}
use Rattle.std.specs.List.{AllByRecursion}
use Rattle.ob_types.specs.declared.face.Aspect.{Aspect}
use Rattle.ob_env.specs.Faces.{Wanted}
use Rattle.ob_link.specs.Walk.{first_of}
use Rattle.ob_link.specs.Plan.{Entry, Missing, TooLong, Junk, Holds, Asks, Refusal, NoObject, Damaged, Absent, Changed, Cycle, NoRoom, TooMany, NoCommand, Long, use_fails}

-- a use, with what is kept in place of what it keeps
abbrev pub wanted_as : {K L : Type 0} → (K → L) → Wanted K → Wanted L
wanted_as short w = record { object = w.object; aspect = w.aspect; kept = short w.kept }

-- what a name has, with the module that stands for the one that is there
abbrev pub entry_as : {A B : Type 0} → (A → B) → Entry A → Entry B
entry_as twin Missing = Missing
entry_as twin TooLong = TooLong
entry_as twin Junk = Junk
entry_as twin (Holds x) = Holds (twin x)

abbrev pub refusal_as : {K L : Type 0} → (K → L) → Refusal K → Refusal L
refusal_as short (NoObject m) = NoObject m
refusal_as short (Damaged m) = Damaged m
refusal_as short (Absent client object) = Absent client object
refusal_as short (Changed client object aspect wanted found) = Changed client object aspect (short wanted) (short found)
refusal_as short (Cycle m) = Cycle m
refusal_as short (NoRoom used asked) = NoRoom used asked
refusal_as short (TooMany count) = TooMany count
refusal_as short (NoCommand m command) = NoCommand m command
refusal_as short (Long m) = Long m

-- the modules that stand for those of an answer, or the same refusal
abbrev pub answer_as : {A B K L : Type 0} → (A → B) → (K → L) → Result (List A) (Refusal K) → Result (List B) (Refusal L)
answer_as twin short (Ok xs) = Ok (map twin xs)
answer_as twin short (Err r) = Err (refusal_as short r)

-- a use agrees with what the module that it names has of its object just where the two that are kept in their place agree
abbrev pub FindsAlike : {A B K L : Type 0} → Asks A K → Asks B L → (K → L) → A → Wanted K → Type 0
FindsAlike {A} {B} {K} {L} asks others short x u = (found : K) → bytes_eq u.object.«module» (asks.name x) ≡ true → asks.keeps x u.object.object u.aspect ≡ Some found → others.same (short u.kept) (short found) ≡ asks.same u.kept found

-- so does each use of a module with what known modules have
abbrev pub UsesFindAlike : {A B K L : Type 0} → Asks A K → Asks B L → (K → L) → (A → Type 0) → A → Type 0
UsesFindAlike {A} {B} {K} {L} asks others short IsKnown x = AllByRecursion (λ u. (y : A) → IsKnown y → FindsAlike asks others short y u) (asks.uses x)

-- each use of a module agrees with what there is in these
abbrev pub AreMet : {A K : Type 0} → Asks A K → List A → A → Type 0
AreMet asks xs x = first_of (use_fails asks xs (asks.name x)) (asks.uses x) ≡ None

-- What is asked of a known module is told alike of the one that stands for it. Of the links it is enough that they are found where the
-- uses are met.
pub record AreAskedAlike {A B K L : Type 0} (asks : Asks A K) (others : Asks B L) (twin : A → B) (short : K → L) (IsKnown : A → Type 0) : Type 0 where
  pub name : (x : A) → IsKnown x → others.name (twin x) ≡ asks.name x
  pub imports : (x : A) → IsKnown x → others.imports (twin x) ≡ asks.imports x
  pub uses : (x : A) → IsKnown x → others.uses (twin x) ≡ map (wanted_as short) (asks.uses x)
  pub keeps : (x : A) → IsKnown x → (name : List ℕ) (aspect : Aspect) → others.keeps (twin x) name aspect ≡ option_map short (asks.keeps x name aspect)
  pub links : (xs : List A) → AllByRecursion IsKnown xs → (x : A) → IsKnown x → AreMet asks xs x → others.unlinked (map twin xs) (twin x) ≡ asks.unlinked xs x
  pub words : (x : A) → IsKnown x → others.words (twin x) ≡ asks.words x
  pub has_command : (x : A) → IsKnown x → (name : List ℕ) → others.has_command (twin x) name ≡ asks.has_command x name

abbrev pub EntryHas : {A : Type 0} → (A → Type 0) → Entry A → Type 0
EntryHas P (Holds x) = P x
EntryHas P e = Unit {0}

-- Each name that is asked for has alike on both sides what it has, and a module that is known. Asked for are the imports of such a
-- module, too, and its uses find alike what known modules have.
pub record AreEntriesAlike {A B K L : Type 0} (asks : Asks A K) (others : Asks B L) (entry : List ℕ → Entry A) (other : List ℕ → Entry B) (twin : A → B) (short : K → L) (IsKnown : A → Type 0) (IsAsked : List ℕ → Type 0) : Type 0 where
  pub is : (name : List ℕ) → IsAsked name → other name ≡ entry_as twin (entry name)
  pub known : (name : List ℕ) → IsAsked name → EntryHas IsKnown (entry name)
  pub imports : (name : List ℕ) (x : A) → IsAsked name → entry name ≡ Holds x → AllByRecursion IsAsked (asks.imports x)
  pub uses : (name : List ℕ) (x : A) → IsAsked name → entry name ≡ Holds x → UsesFindAlike asks others short IsKnown x

abbrev pub AreKnown : {A K : Type 0} → (A → Type 0) → Result (List A) (Refusal K) → Type 0
AreKnown IsKnown (Ok xs) = AllByRecursion IsKnown xs
AreKnown IsKnown (Err r) = Unit {0}

-- The two answers are alike, and the modules in them are known.
pub record Agrees {A B K L : Type 0} (twin : A → B) (short : K → L) (IsKnown : A → Type 0) (answer : Result (List A) (Refusal K)) (other : Result (List B) (Refusal L)) : Type 0 where
  pub is : other ≡ answer_as twin short answer
  pub known : AreKnown IsKnown answer
