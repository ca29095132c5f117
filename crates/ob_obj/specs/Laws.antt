-- Each format of the grammar is exact.
use Rattle.std.proofs.Common.{◌≡◌, ℕ, zero, suc, ◌+◌, ◌<◌, ◌≤◌, Bool, ltb, leb, List, [], ◌∷◌, ◌++◌, length, Some, refl, ap, subst}
use Rattle.std.specs.Prelude.{IsTrue, nat_le, nat_lt}
use Rattle.std.specs.Bool.{Decides}
use Rattle.std.specs.List.{list_all}
use Rattle.std.proofs.lemmas.Bool.Decides.{Decides-and, Decides-ltb}
use Rattle.std.proofs.lemmas.Cmp.{nat_cmp_total, nat_list_cmp_total, on_total, then_total}
use Rattle.ob_format.specs.Format.{IsBytes, IsExact, word32}
use Rattle.ob_format.specs.Exact.{bind_some, some_is, word32_exact, text32_exact, list_exact, rising_exact, few_exact, le_decides, each_decides, such_that_exact, made_exact, lead_exact, pair_exact}
use Rattle.ob_format.specs.NameLaws.{name_exact, object_name_exact, qname_exact}
use Rattle.ob_types.specs.Spelled.{aspect_number}
use Rattle.ob_types.specs.SpelledLaws.{aspect_exact, print_form_exact, use_exact, objects_total}
use Rattle.ob_instr.specs.SpellingLaws.{instr_exact}
use Rattle.ob_instr.specs.Parts.{most_words}
use Rattle.ob_instr.specs.PartLaws.{procedure_exact, position_exact}
use Rattle.ob_obj.specs.declared.parts.Base.{Base}
use Rattle.ob_obj.specs.declared.parts.Base.TheVariants as base
use Rattle.ob_obj.specs.declared.parts.RecordType.{RecordType}
use Rattle.ob_obj.specs.declared.file.Head.{Head}
use Rattle.ob_obj.specs.declared.file.ObjFile.{ObjFile}
use Rattle.ob_obj.specs.Grammar.{by_name, export, string, variable, link, base_at, base_bytes, base_fits, base_form, definition, is_record, IsRecord, record_parts, record_type, by_type, command, is_import, names_in, is_head, IsHead, head, words_of, globals, links, body, bases_stand, has_procedures, begins_with_body, are_placed, is_sound, IsSound, magic, file}

is_true : (b : Bool) → Decides b (IsTrue b)
is_true b = ((λ e. e), (λ e. e))

pub export_exact : IsExact export
unfolding export
export_exact = made_exact (λ p. record { name = p.0; aspect = p.1.0; print = p.1.1 }) (λ e. (e.name, (e.aspect, e.print))) (pair_exact object_name_exact (pair_exact aspect_exact print_form_exact)) (λ _. refl) (λ _. refl)

pub string_exact : IsExact string
unfolding string
string_exact = such_that_exact (λ s. nat_lt (length s.text) s.words) (λ s. length s.text < s.words) (λ s. Decides-ltb (length s.text) s.words) (made_exact (λ p. record { text = p.0; words = p.1 }) (λ s. (s.text, s.words)) (pair_exact text32_exact word32_exact) (λ _. refl) (λ _. refl))

pub variable_exact : IsExact variable
unfolding variable
variable_exact = made_exact (λ p. record { name = p.0; place = p.1 }) (λ v. (v.name, v.place)) (pair_exact name_exact word32_exact) (λ _. refl) (λ _. refl)

pub link_exact : IsExact link
unfolding link
link_exact = made_exact (λ p. record { «module» = p.0; name = p.1 }) (λ l. (l.«module», l.name)) (pair_exact name_exact name_exact) (λ _. refl) (λ _. refl)

rest_bytes : (b : ℕ) (bytes : List ℕ) → IsBytes (b ∷ bytes) → IsBytes bytes
rest_bytes b bytes h i = h (suc i)

base_found : (bytes : List ℕ) (x : Base × List ℕ) → IsBytes bytes → base_at bytes ≡ Some x → (bytes ≡ base_bytes x.0 ++ x.1) × base_fits x.0 × IsBytes x.1
unfolding base_at
base_found [] x fits e = absurd cc
base_found (zero ∷ rest) x fits e = subst (λ (y : Base × List ℕ). (0 ∷ rest ≡ base_bytes y.0 ++ y.1) × base_fits y.0 × IsBytes y.1) (some_is (base.None, rest) x e) (refl, tt, rest_bytes 0 rest fits)
base_found (suc zero ∷ rest) x fits e =
    let n = bind_some (word32.take rest) (λ n. Some (base.Own n.0, n.1)) x e in
    let t = word32_exact.found rest n.0 (rest_bytes 1 rest fits) n.1 in
    subst (λ (y : Base × List ℕ). (1 ∷ rest ≡ base_bytes y.0 ++ y.1) × base_fits y.0 × IsBytes y.1) (some_is (base.Own n.0.0, n.0.1) x n.2) (ap (λ (l : List ℕ). 1 ∷ l) t.0, t.1, t.2)
base_found (suc (suc zero) ∷ rest) x fits e =
    let n = bind_some (word32.take rest) (λ n. Some (base.Link n.0, n.1)) x e in
    let t = word32_exact.found rest n.0 (rest_bytes 2 rest fits) n.1 in
    subst (λ (y : Base × List ℕ). (2 ∷ rest ≡ base_bytes y.0 ++ y.1) × base_fits y.0 × IsBytes y.1) (some_is (base.Link n.0.0, n.0.1) x n.2) (ap (λ (l : List ℕ). 2 ∷ l) t.0, t.1, t.2)
base_found (suc (suc (suc b)) ∷ rest) x fits e = absurd cc

base_again : (x : Base) (rest : List ℕ) → base_fits x → base_at (base_bytes x ++ rest) ≡ Some (x, rest)
unfolding base_at
base_again base.None rest fits = refl
base_again (base.Own n) rest fits = rw (word32_exact.again n rest fits) refl
base_again (base.Link n) rest fits = rw (word32_exact.again n rest fits) refl

pub base_exact : IsExact base_form
unfolding base_form
base_exact = record { found = base_found; again = base_again }

pub definition_exact : IsExact definition
unfolding definition
definition_exact = made_exact (λ p. record { number = p.0; procedure = p.1 }) (λ d. (d.number, d.procedure)) (pair_exact word32_exact word32_exact) (λ _. refl) (λ _. refl)

record_decides : (t : RecordType) → Decides (is_record t) (IsRecord t)
record_decides t =
    let numbers = each_decides (λ d. ltb d.number t.count) (λ d. d.number < t.count) (λ d. Decides-ltb d.number t.count) t.definitions in
    let all = Decides-and (leb t.words most_words) _ (le_decides t.words most_words) (Decides-and (leb t.count most_words) _ (le_decides t.count most_words) numbers) in
    (λ e. let h = all.0 e in record { words = h.0; count = h.1.0; numbers = h.1.1 }, λ s. all.1 (s.words, (s.count, s.numbers)))

pub record_parts_exact : IsExact record_parts
unfolding record_parts
record_parts_exact = made_exact (λ p. record { name = p.0; base = p.1.0; words = p.1.1.0; count = p.1.1.1.0; definitions = p.1.1.1.1 }) (λ t. (t.name, (t.base, (t.words, (t.count, t.definitions))))) (pair_exact object_name_exact (pair_exact base_exact (pair_exact word32_exact (pair_exact word32_exact (rising_exact (on_total (λ d. d.number) nat_cmp_total) definition_exact))))) (λ _. refl) (λ _. refl)

pub record_type_exact : IsExact record_type
unfolding record_type
record_type_exact = such_that_exact is_record IsRecord record_decides record_parts_exact

pub command_exact : IsExact command
unfolding command
command_exact = made_exact (λ p. record { name = p.0; procedure = p.1 }) (λ c. (c.name, c.procedure)) (pair_exact name_exact word32_exact) (λ _. refl) (λ _. refl)

head_decides : (h : Head) → Decides (is_head h) (IsHead h)
head_decides h =
    let imports = each_decides is_import (λ n. IsTrue (is_import n)) (λ n. is_true (is_import n)) h.imports in
    let all = Decides-and (list_all is_import h.imports) _ imports (le_decides (names_in h.exports) 4096) in
    (λ e. let t = all.0 e in record { imports = t.0; names = t.1 }, λ s. all.1 (s.imports, s.names))

pub head_exact : IsExact head
unfolding head
head_exact = such_that_exact is_head IsHead head_decides (made_exact (λ p. record { «module» = p.0; imports = p.1.0; exports = p.1.1.0; uses = p.1.1.1 }) (λ h. (h.«module», (h.imports, (h.exports, h.uses)))) (pair_exact name_exact (pair_exact (few_exact 64 by_name name_exact) (pair_exact (rising_exact (then_total (on_total (λ e. e.name) nat_list_cmp_total) (on_total (λ e. aspect_number e.aspect) nat_cmp_total)) export_exact) (rising_exact objects_total use_exact)))) (λ _. refl) (λ _. refl))

pub globals_exact : IsExact globals
unfolding globals
globals_exact = such_that_exact (λ d. nat_le (d.variable_words + words_of d.strings) 262144) (λ d. d.variable_words + words_of d.strings ≤ 262144) (λ d. le_decides (d.variable_words + words_of d.strings) 262144) (made_exact (λ p. record { variable_words = p.0; strings = p.1.0; variables = p.1.1 }) (λ d. (d.variable_words, (d.strings, d.variables))) (pair_exact word32_exact (pair_exact (list_exact string_exact) (rising_exact (on_total (λ v. v.name) nat_list_cmp_total) variable_exact))) (λ _. refl) (λ _. refl))

pub links_exact : IsExact links
unfolding links
links_exact = made_exact (λ p. record { variables = p.0; procedures = p.1.0; types = p.1.1 }) (λ l. (l.variables, (l.procedures, l.types))) (pair_exact (list_exact link_exact) (pair_exact (list_exact link_exact) (list_exact qname_exact))) (λ _. refl) (λ _. refl)

pub body_exact : IsExact body
unfolding body
body_exact = made_exact (λ p. record { types = p.0; procedures = p.1.0; commands = p.1.1.0; code = p.1.1.1.0; positions = p.1.1.1.1 }) (λ b. (b.types, (b.procedures, (b.commands, (b.code, b.positions))))) (pair_exact (few_exact 1048576 by_type record_type_exact) (pair_exact (list_exact procedure_exact) (pair_exact (rising_exact (on_total (λ c. c.name) nat_list_cmp_total) command_exact) (pair_exact (list_exact instr_exact) (list_exact position_exact))))) (λ _. refl) (λ _. refl)

sound_decides : (f : ObjFile) → Decides (is_sound f) (IsSound f)
sound_decides f =
    let definitions = each_decides (has_procedures (length f.body.procedures)) (λ t. IsTrue (has_procedures (length f.body.procedures) t)) (λ t. is_true (has_procedures (length f.body.procedures) t)) f.body.types in
    let entries = each_decides (λ q. ltb q.entry (length f.body.code)) (λ q. q.entry < length f.body.code) (λ q. Decides-ltb q.entry (length f.body.code)) f.body.procedures in
    let commands = each_decides (λ c. ltb c.procedure (length f.body.procedures)) (λ c. c.procedure < length f.body.procedures) (λ c. Decides-ltb c.procedure (length f.body.procedures)) f.body.commands in
    let all = Decides-and (leb (length f.body.procedures) 4096) _ (le_decides (length f.body.procedures) 4096) (Decides-and (leb (length f.body.code) 262144) _ (le_decides (length f.body.code) 262144) (Decides-and (bases_stand (length f.links.types) 0 f.body.types) _ (is_true (bases_stand (length f.links.types) 0 f.body.types)) (Decides-and _ _ definitions (Decides-and (begins_with_body f.body.procedures) _ (is_true (begins_with_body f.body.procedures)) (Decides-and _ _ entries (Decides-and _ (are_placed 0 f.body.code f.body.positions) commands (is_true (are_placed 0 f.body.code f.body.positions)))))))) in
    (λ e. let t = all.0 e in record { few_procedures = t.0; few_instructions = t.1.0; bases = t.1.1.0; definitions = t.1.1.1.0; main = t.1.1.1.1.0; entries = t.1.1.1.1.1.0; commands = t.1.1.1.1.1.1.0; positions = t.1.1.1.1.1.1.1 }, λ s. all.1 (s.few_procedures, (s.few_instructions, (s.bases, (s.definitions, (s.main, (s.entries, (s.commands, s.positions))))))))

pub file_exact : IsExact file
unfolding file
file_exact = such_that_exact is_sound IsSound sound_decides (lead_exact magic (made_exact (λ p. record { head = p.0; globals = p.1.0; links = p.1.1.0; body = p.1.1.1 }) (λ f. (f.head, (f.globals, (f.links, f.body)))) (pair_exact head_exact (pair_exact globals_exact (pair_exact links_exact body_exact))) (λ _. refl) (λ _. refl)))
