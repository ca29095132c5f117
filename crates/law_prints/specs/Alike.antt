-- The law: a compile by prints and a compile by texts come to the same, where prints tell apart what is compared.
use Rattle.std.specs.Prelude.{◌≡◌, ℕ, List, map as each, Option, Some, Bool, true, Result, Ok, Err, Contains}
use Rattle.std.specs.List.{AllByRecursion}
use Rattle.ob_tree.specs.declared.print.Print.{Print}
use Rattle.ob_tree.specs.declared.decl.Module.{Module as Tree}
use Rattle.ob_fprint.specs.Print.{print_from}
use Rattle.ob_env.specs.Faces.{Wanted, Face, text_in, printed}
use Rattle.ob_env_walk.specs.Walk.{Entry, Holds, Left, walk}
use Rattle.ob_parse_grammar.specs.TextReading.{reading}
use Rattle.ob_compile_model.specs.Compiling.{Refusal, Compiled, compiled, texts, prints, imported, object_bytes, symbol_bytes}
use Rattle.law_prints.specs.Printed.{Text, entry_printed, refusal_printed}

-- ---- what is compared

-- of a use of one of these interfaces the text that it keeps, and the text that its object has among them
abbrev pub AreCompared : List (Face Text) → Text → Text → Type 0
AreCompared faces kept found = (f : Face Text) × Contains faces f × (u : Wanted Text) × Contains f.uses u × (u.kept ≡ kept) × (text_in faces u.object u.aspect ≡ Some found)

-- by a compile of the source: the uses of the interfaces of its walk, with these
abbrev pub ByCompile : (List ℕ → Entry Text) → Option (List ℕ) → Text → Text → Type 0
ByCompile finds source kept found = (text : List ℕ) × (tree : Tree) × (faces : List (Face Text)) × (source ≡ Some text) × (reading text ≡ Ok tree) × (walk finds tree.name.name (each imported tree.imports) ≡ Left faces) × AreCompared faces kept found

-- their prints tell apart each two that are compared so
abbrev pub AreToldApart : (Text → Text → Type 0) → Type 0
AreToldApart R = (kept found : Text) → R kept found → print_from kept ≡ print_from found → kept ≡ found

-- ---- the same

-- The same module: its tree, what it was compiled against, what it shows, and the bytes of its two files.
pub record IsSameModule (c : Compiled Print) (d : Compiled Text) : Type 0 where
  pub tree : c.tree ≡ d.tree
  pub against : c.against ≡ each printed d.against
  pub shows : c.shows ≡ printed d.shows
  pub object : object_bytes prints c ≡ object_bytes texts d
  pub symbol : symbol_bytes prints c ≡ symbol_bytes texts d

-- the same module, or the same refusal
abbrev pub ComeToTheSame : Result (Compiled Print) (Refusal Print) → Result (Compiled Text) (Refusal Text) → Type 0
ComeToTheSame (Ok c) (Ok d) = IsSameModule c d
ComeToTheSame (Err r) (Err q) = r ≡ refusal_printed q
ComeToTheSame (Ok c) (Err q) = ⊥
ComeToTheSame (Err r) (Ok d) = ⊥

-- THE LAW: where what is found by prints is what is found by texts
abbrev pub CompilesAlike : Type 0
CompilesAlike =
    (finds : List ℕ → Entry Text) (files : List ℕ → Entry Print) (source : Option (List ℕ)) →
    ((m : List ℕ) → files m ≡ entry_printed (finds m)) → AreToldApart (ByCompile finds source) →
    ComeToTheSame (compiled prints files source) (compiled texts finds source)

-- ---- where the same is found for some names alone

abbrev pub AreAll : (List ℕ → Bool) → List (List ℕ) → Type 0
AreAll test ms = AllByRecursion (λ m. test m ≡ true) ms

-- all names that a compile of the source looks up pass the test
pub record LooksUp (test : List ℕ → Bool) (finds : List ℕ → Entry Text) (source : Option (List ℕ)) : Type 0 where
  pub first : (text : List ℕ) (tree : Tree) → source ≡ Some text → reading text ≡ Ok tree → AreAll test (each imported tree.imports)
  pub further : (m : List ℕ) (f : Face Text) → test m ≡ true → finds m ≡ Holds f → AreAll test f.imports

-- THE LAW among the names that are looked up
abbrev pub CompilesAlikeAmong : Type 0
CompilesAlikeAmong =
    (test : List ℕ → Bool) (finds : List ℕ → Entry Text) (files : List ℕ → Entry Print) (source : Option (List ℕ)) →
    LooksUp test finds source →
    ((m : List ℕ) → test m ≡ true → files m ≡ entry_printed (finds m)) → AreToldApart (ByCompile finds source) →
    ComeToTheSame (compiled prints files source) (compiled texts finds source)
