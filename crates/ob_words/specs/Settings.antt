-- The settings that words say, by the matches that clap defines for a command of two options.
use Rattle.std.specs.Prelude.{◌≡◌, ℕ, List, [], ◌∷◌, true, Option, Some, None, Result, Ok, Err, codes}
use Rattle.clap.specs.Words.{App, Row, Rule, Text, first_of, new_app, new_rule, with_rule, fault_of, matches_of, Kinds}
use Rattle.clap.specs.Simple.{on_top}
use Rattle.clap.specs.declared.builder.action.ArgAction.TheVariants.{Set}
use Rattle.ob_words.specs.declared.asked.Settings.{Settings}
use Rattle.ob_words.specs.declared.asked.WordsFault.{WordsFault}
use Rattle.ob_words.specs.declared.asked.WordsFault.TheVariants as fault
use Rattle.ob_words.specs.Numbers.{number_of}

-- an option with one value
abbrev pub option_named : Text → Rule
option_named name = record (new_rule name) { long = Some name; action = Some Set }

-- the words are those behind the program's name, and nothing asks for help or a version
abbrev pub without_flags : App → App
without_flags a = on_top (λ s. record s { no_binary_name = true; disable_help_flag = true; disable_version_flag = true }) a

-- oberon [--turns N] [--heap N]
abbrev pub oberon : App
oberon = with_rule (with_rule (without_flags (new_app (codes "oberon"))) (option_named (codes "turns"))) (option_named (codes "heap"))

-- a number that a word says, or the usual one
abbrev pub number_or : ℕ → ℕ → Option Text → Option ℕ
number_or usual most None = Some usual
number_or usual most (Some text) = number_of most text

abbrev pub chosen : Option ℕ → Option ℕ → Option Settings
chosen (Some turns) (Some heap) = Some (record { turns = turns; heap = heap })
chosen (Some turns) None = None
chosen None (Some heap) = None
chosen None None = None

abbrev pub chosen_in : List Row → Option Settings
chosen_in rows = chosen (number_or 10000000 1000000000 (first_of (codes "turns") rows)) (number_or 1048576 4194304 (first_of (codes "heap") rows))

-- words with a fault are refused
abbrev pub taken : Kinds → List Row → Option Settings
taken [] rows = chosen_in rows
taken (k ∷ ks) rows = None

-- the settings of some words; none where they are refused
unfoldable pub settings_of : List Text → Option Settings
settings_of words = taken (fault_of oberon words) (matches_of oberon words)

-- the settings, or exactly a refusal; want of memory says nothing
abbrev pub SettingsAre : Option Settings → Result Settings WordsFault → Type 0
SettingsAre found (Ok s) = found ≡ Some s
SettingsAre found (Err fault.Refused) = found ≡ None
SettingsAre found (Err fault.Memory) = Unit {0}
