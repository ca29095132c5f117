-- What the calls of a session do, by their answers.
use Rattle.std.specs.Prelude.{◌≡◌, ℕ, ◌+◌, ◌≤◌, List, ◌++◌, length, Bool, true, take, Option, Some, None, Result, Ok, Err}
use Rattle.ob_io.specs.Io.{AddsFront, Rose, SameFiles}
use Rattle.ob_io.specs.declared.traits.Failed.{Failed}
use Rattle.ob_link.specs.Files.{Files}
use Rattle.ob_load.specs.Standing.{Standing, Stands}
use Rattle.ob_shell_reports.specs.declared.stop.Stop.{Stop}
use Rattle.ob_shell_reports.specs.declared.stop.Stop.TheVariants.{Sink, Folder, Memory}
use Rattle.ob_shell_model.specs.Folds.{Part, Answer, part, printed_by, made_by}
use Rattle.ob_shell_model.specs.Bytes.{World, Change, Said, Making, changed}
use Rattle.ob_shell_model.specs.Session.{first_part, part_at, changes_up_to}

-- the system and the folder have what the model keeps
pub record Shows (s : Standing) (there : Files) (w : World) : Type 0 where
  pub stands : Stands s w.loaded
  pub words : s.machine.words ≡ w.words
  pub heap : s.machine.heap ≡ w.heap
  pub files : SameFiles there w.files

-- Where a line stopped among its parts. At a fault of the sink the parts before one were done, all changes of that one are made and a
-- front of its text was written; at one of the folder its first changes are made and none of its text was written; where memory was
-- wanting nothing of it was done, and at least one was left.
abbrev pub PartsStop : List (Part Change) → List ℕ → List ℕ → Files → Files → Stop → Type 0
PartsStop ps before now old files Sink = (k : ℕ) × AddsFront (before ++ printed_by (take k ps)) now (part_at k ps).text × SameFiles files (changed old (made_by (take k ps) ++ (part_at k ps).changes))
PartsStop ps before now old files Folder = (k : ℕ) × (j : ℕ) × (now ≡ before ++ printed_by (take k ps)) × SameFiles files (changed old (changes_up_to ps k j))
PartsStop ps before now old files Memory = (k : ℕ) × (k + 1 ≤ length ps) × (now ≡ before ++ printed_by (take k ps)) × SameFiles files (changed old (made_by (take k ps)))

-- WHAT A LINE DOES: its answer, or a front of it.
abbrev pub LineDoes : List ℕ → List ℕ → Files → Files → Standing → Answer World Change → Result Bool Stop → Type 0
LineDoes before now old files new a (Ok refused) = (now ≡ before ++ printed_by a.parts) × Shows new files a.world × (refused ≡ a.refused)
LineDoes before now old files new a (Err stop) = PartsStop a.parts before now old files stop

-- the answer has one part
abbrev pub IsOne : Answer World Change → Type 0
IsOne a = a.parts ≡ part (first_part a.parts).changes (first_part a.parts).text

-- What a line of one part does: at a fault of the sink all its changes are made and a front of its text was written; at one of the
-- folder its first changes are made and nothing was written; where memory was wanting nothing was done.
abbrev pub OneDoes : List ℕ → List ℕ → Files → Files → Standing → Answer World Change → Result Bool Stop → Type 0
OneDoes before now old files new a (Ok refused) = (now ≡ before ++ (first_part a.parts).text) × Shows new files a.world × (refused ≡ a.refused)
OneDoes before now old files new a (Err Sink) = AddsFront before now (first_part a.parts).text × SameFiles files (changed old (first_part a.parts).changes)
OneDoes before now old files new a (Err Folder) = (now ≡ before) × ((k : ℕ) × SameFiles files (changed old (take k (first_part a.parts).changes)))
OneDoes before now old files new a (Err Memory) = (now ≡ before) × SameFiles files old

-- What a line that changes nothing does: it prints its text. At a fault of the sink a front of it was written, and else nothing.
abbrev pub SaidDoes : Bool → List ℕ → List ℕ → Said → Result Bool Stop → Type 0
SaidDoes told before now s (Ok refused) = (told ≡ true → now ≡ before ++ s.text) × (refused ≡ s.refused)
SaidDoes told before now s (Err Sink) = told ≡ true → AddsFront before now s.text
SaidDoes told before now s (Err Folder) = told ≡ true → now ≡ before
SaidDoes told before now s (Err Memory) = told ≡ true → now ≡ before

-- What a line that leaves the system does: these changes of the files, and then this text.
abbrev pub FilesDo : List ℕ → List ℕ → Files → Files → List Change → List ℕ → Bool → Result Bool Stop → Type 0
FilesDo before now old files changes text value (Ok refused) = (now ≡ before ++ text) × SameFiles files (changed old changes) × (refused ≡ value)
FilesDo before now old files changes text value (Err Sink) = AddsFront before now text × SameFiles files (changed old changes)
FilesDo before now old files changes text value (Err Folder) = (now ≡ before) × ((k : ℕ) × SameFiles files (changed old (take k changes)))
FilesDo before now old files changes text value (Err Memory) = (now ≡ before) × SameFiles files old

-- the same of an answer of one part
abbrev pub AnswerDo : List ℕ → List ℕ → Files → Files → Answer World Change → Result Bool Stop → Type 0
AnswerDo before now old files a result = FilesDo before now old files (first_part a.parts).changes (first_part a.parts).text a.refused result

-- the changes are made in order, or at a fault the first of them
abbrev pub ChangesDo : Files → Files → List Change → Result (Unit {0}) Failed → Type 0
ChangesDo old files changes (Ok u) = SameFiles files (changed old changes)
ChangesDo old files changes (Err e) = (k : ℕ) × SameFiles files (changed old (take k changes))

-- What a line that leaves system and files does: it prints the texts of its parts. At a fault of the sink a front of them was written;
-- where memory was wanting the first of them, and at least one was left.
abbrev pub TextDoes : List ℕ → List ℕ → Answer World Change → Result Bool Stop → Type 0
TextDoes before now a (Ok refused) = (now ≡ before ++ printed_by a.parts) × (refused ≡ a.refused)
TextDoes before now a (Err Sink) = (k : ℕ) × AddsFront (before ++ printed_by (take k a.parts)) now (part_at k a.parts).text
TextDoes before now a (Err Folder) = ⊥
TextDoes before now a (Err Memory) = (k : ℕ) × (k + 1 ≤ length a.parts) × (now ≡ before ++ printed_by (take k a.parts))

-- what an answer says
abbrev pub said_of : Answer World Change → Said
said_of a = record { text = printed_by a.parts; refused = a.refused }

-- the modules of a demo that were made; none where one is refused
abbrev pub MakesSo : Making → Files → Option ℕ → Type 0
MakesSo m files None = m ≡ None
MakesSo m files (Some n) = m ≡ Some (n, files)

-- the objects of a module
abbrev pub AreFew : Option ℕ → Type 0
AreFew None = Unit {0}
AreFew (Some n) = n ≤ 4096

-- the fault of a folder is answered only where its count rose
pub record FolderCause {T : Type 0} (before now : ℕ) (result : Result T Stop) : Type 0 where
  pub later : before ≤ now
  pub failed : result ≡ Err Folder → Rose before now
  pub no_sink : result ≡ Err Sink → ⊥

-- a fault is answered only where the count of its object rose, and the counts never fall
pub record Cause {T : Type 0} (s t f g : ℕ) (result : Result T Stop) : Type 0 where
  pub later_sink : s ≤ t
  pub later_folder : f ≤ g
  pub sink : result ≡ Err Sink → Rose s t
  pub folder : result ≡ Err Folder → Rose f g
