-- The room for globals that a load counts is that of the declarations.
use Rattle.std.proofs.Common.{◌≡◌, ℕ, suc, ◌+◌, ◌-◌, ◌≤◌, List, [], ◌∷◌, ◌++◌, length, pos, refl, sym, ap, ◌∙◌, arith, length-append}
use Rattle.std.proofs.lemmas.List.{length-replicate}
use Rattle.std.specs.Prelude.{map, replicate, not, nat_lt, nat_le, Contains}
use Rattle.std.specs.List.{AllByRecursion}
use Rattle.ob_obj.specs.declared.parts.StringConst.{StringConst}
use Rattle.ob_obj.specs.Grammar.{words_of as string_room}
use Rattle.ob_obj.specs.Images.{string_words}
use Rattle.ob_types.specs.declared.typed.TypedVariable.{TypedVariable}
use Rattle.ob_meaning.specs.Values.{Program, form_in, words}
use Rattle.ob_meaning.specs.Calls.{held_variable}
use Rattle.ob_meaning.specs.Globals.{words_of_variables, globals_words, all_globals}
use Rattle.law_simulation_relation.specs.Layout.{slots_words}
use Rattle.law_simulation_relation.proofs.Lengths.{module_length}
use Rattle.ob_link.specs.Plan.{words_of}
use Rattle.ob_builds.specs.Builds.{Build, tree_of, file_of, asks}
use Rattle.law_builds.proofs.Members.{has_head, has_more}
use Rattle.law_builds.proofs.Gone.{words_both}
use Rattle.law_program_runs.specs.Builds.{program_of, AreLoaded, HasModule}
use Rattle.law_program_runs.proofs.Settings.{are_few}
use Rattle.law_headline.specs.Room.{RoomIsDeclared}
use Rattle.law_headline.proofs.Whole.{stand}

length_map : (text : List ℕ) → length (map pos text) ≡ length text
length_map [] = refl
length_map (c ∷ text) = ap suc (length_map text)

strings_length : (ss : List StringConst) → AllByRecursion (λ s. length s.text ≤ s.words) ss → length (string_words ss) ≡ string_room ss
strings_length [] h = refl
strings_length (s ∷ ss) h =
    let pad = replicate (s.words - length s.text) (pos 0) in
    let rest = strings_length ss h.1 in
    let a = length-append (map pos s.text) (pad ++ string_words ss) in
    let b = length-append pad (string_words ss) in
    let p = length-replicate (s.words - length s.text) (pos 0) in
    let m = length_map s.text in
    let le = h.0 in
    omega (arith, a, b, p, m, rest, le)

variables_words : (program : Program) (vs : List TypedVariable) → slots_words (map (held_variable program) vs) ≡ words_of_variables program vs
variables_words program [] = refl
variables_words program (v ∷ vs) = ap (λ n. words (form_in program v.of) + n) (variables_words program vs)

module_words : (program : Program) (b : Build) → HasModule program b → asks.words b ≡ globals_words program (tree_of b)
module_words program b h =
    let w = h.words in
    let v = h.variables in
    let s = variables_words program (tree_of b).variables in
    let t = ap length h.strings in
    let n = strings_length (file_of b).globals.strings h.long in
    let k = module_length program (tree_of b) in
    omega (arith, w, v, s, t, n, k)

all_words : (program : Program) (bs : List Build) → ((b : Build) → Contains bs b → asks.words b ≡ globals_words program (tree_of b)) → words_of asks bs ≡ all_globals program (program_of bs)
all_words program [] h = refl
all_words program (b ∷ bs) h =
    let a = h b (has_head b bs) in
    let r = all_words program bs (λ x i. h x (has_more b bs x i)) in
    omega (arith, a, r)

not_less : (m n : ℕ) → nat_lt m n ≡ not (nat_le n m)
not_less m n = grind arith

pub room_is_declared : RoomIsDeclared
room_is_declared loaded new together =
    let bs = loaded ++ new in
    let l : AreLoaded bs = record { together = together; few = are_few bs together } in
    let one = λ (b : Build) (i : Contains bs b). module_words (program_of bs) b (stand.modules bs l b i) in
    let all : words_of asks loaded + words_of asks new ≡ all_globals (program_of bs) (program_of bs) = sym (words_both loaded new) ∙ all_words (program_of bs) bs one in
    record { each = one; all = all; refused = ap (nat_lt 262144) all ∙ not_less 262144 (all_globals (program_of bs) (program_of bs)) }
