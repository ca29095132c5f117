-- Lists whose items rise or differ, and what the conditions of an object file come to.
use Rattle.std.proofs.Common.{◌≡◌, ℕ, ◌<◌, ◌≤◌, Bool, true, false, not, List, [], ◌∷◌, length, refl, subst, arith}
use Rattle.std.specs.Prelude.{nat_le, nat_lt, ◌&&◌, IsTrue, ℤ}
use Rattle.std.specs.List.{list_all, AllByRecursion, IsDistinct}
use Rattle.std.specs.List.Sorted.{IsStrictlySortedBy}
use Rattle.std.specs.Cmp.{IsTotalOrder}
use Rattle.std.specs.Ordering.{is_eq}
use Rattle.std.specs.declared.cmp.Ordering.{Ordering}
use Rattle.std.proofs.lemmas.Cmp.{nat_cmp_total, nat_list_cmp_total, on_total, then_total}
use Rattle.ob_format.specs.Order.{rises, differ}
use Rattle.ob_format.specs.Exact.{rises_decides, le_decides}
use Rattle.ob_types.specs.Spelled.{aspect_number, by_object}
use Rattle.ob_types.specs.SpelledLaws.{objects_total}
use Rattle.ob_desc.specs.Grammar.{by_place, by_number as by_method}
use Rattle.ob_format.specs.Format.{int}
use Rattle.ob_instr.specs.declared.instr.Instr.{Instr}
use Rattle.ob_instr.specs.Parts.{most_words}
use Rattle.ob_instr.specs.declared.opcode.Opcode.{Opcode}
use Rattle.ob_instr.specs.Spelling.{instr, opcode, IsInstr}
use Rattle.ob_obj.specs.declared.parts.RecordType.{RecordType}
use Rattle.ob_obj.specs.declared.file.Head.{Head}
use Rattle.ob_obj.specs.declared.file.ObjFile.{ObjFile}
use Rattle.ob_obj.specs.Grammar.{by_export, by_variable, by_command, by_number, is_import, names_in, IsHead, bases_stand, has_procedures, begins_with_body, are_placed, IsRecord, IsSound}

pub rises_sorted : {A : Type 0} (R : A → A → Ordering) (xs : List A) → IsTotalOrder R → rises R xs ≡ true → IsStrictlySortedBy R xs
rises_sorted R xs total e = (rises_decides R total xs).0 e

pub exports_total : IsTotalOrder by_export
exports_total = then_total (on_total (λ e. e.name) nat_list_cmp_total) (on_total (λ e. aspect_number e.aspect) nat_cmp_total)

pub uses_total : IsTotalOrder by_object
uses_total = objects_total

pub variables_total : IsTotalOrder by_variable
variables_total = on_total (λ v. v.name) nat_list_cmp_total

pub commands_total : IsTotalOrder by_command
commands_total = on_total (λ c. c.name) nat_list_cmp_total

pub places_total : IsTotalOrder by_place
places_total = then_total (on_total (λ f. f.place) nat_cmp_total) (on_total (λ f. f.name) nat_list_cmp_total)

pub numbers_total : IsTotalOrder by_method
numbers_total = on_total (λ m. m.number) nat_cmp_total

pub definitions_total : IsTotalOrder by_number
definitions_total = on_total (λ d. d.number) nat_cmp_total

-- ---- conditions

pub both_true : (a b : Bool) → a && b ≡ true → (a ≡ true) × (b ≡ true)
both_true true b e = (refl, e)
both_true false b e = absurd cc

not_is : (b : Bool) → not b ≡ true → b ≡ false
not_is true e = absurd cc
not_is false e = refl

is_truth : (b : Bool) → b ≡ true → IsTrue b
is_truth b e = e

all_hold : {A : Type 0} (f : A → Bool) (P : A → Type 0) → ((x : A) → f x ≡ true → P x) → (xs : List A) → list_all f xs ≡ true → AllByRecursion P xs
all_hold f P h [] e = tt
all_hold f P h (x ∷ xs) e = let b = both_true (f x) (list_all f xs) e in (h x b.0, all_hold f P h xs b.1)

pub differ_distinct : {A : Type 0} (R : A → A → Ordering) (xs : List A) → differ R xs ≡ true → IsDistinct (λ x y. is_eq (R x y)) xs
unfolding IsDistinct
differ_distinct R [] e = tt
differ_distinct R (x ∷ xs) e =
    let b = both_true (list_all (λ y. not (is_eq (R x y))) xs) (differ R xs) e in
    (all_hold (λ y. not (is_eq (R x y))) (λ y. is_eq (R x y) ≡ false) (λ y. not_is (is_eq (R x y))) xs b.0, differ_distinct R xs b.1)

pub head_is : (h : Head) → list_all is_import h.imports ≡ true → names_in h.exports ≤ 4096 → IsHead h
head_is h e n = record { imports = all_hold is_import (λ i. IsTrue (is_import i)) (λ i. is_truth (is_import i)) h.imports e; names = n }

pub few_words : (n : ℕ) → nat_le n 262144 ≡ true → n ≤ 262144
few_words n e = (le_decides n 262144).0 e

below : (m n : ℕ) → nat_lt m n ≡ true → m < n
below m n e = grind arith

pub sound_is : (f : ObjFile) → length f.body.procedures ≤ 4096 → length f.body.code ≤ 262144 → bases_stand (length f.links.types) 0 f.body.types ≡ true → list_all (has_procedures (length f.body.procedures)) f.body.types ≡ true → begins_with_body f.body.procedures ≡ true → list_all (λ q. nat_lt q.entry (length f.body.code)) f.body.procedures ≡ true → list_all (λ c. nat_lt c.procedure (length f.body.procedures)) f.body.commands ≡ true → are_placed 0 f.body.code f.body.positions ≡ true → IsSound f
sound_is f p c b d m e k q = record {
  few_procedures = p;
  few_instructions = c;
  bases = is_truth (bases_stand (length f.links.types) 0 f.body.types) b;
  definitions = all_hold (has_procedures (length f.body.procedures)) (λ t. IsTrue (has_procedures (length f.body.procedures) t)) (λ t. is_truth (has_procedures (length f.body.procedures) t)) f.body.types d;
  main = is_truth (begins_with_body f.body.procedures) m;
  entries = all_hold (λ q. nat_lt q.entry (length f.body.code)) (λ q. q.entry < length f.body.code) (λ q. below q.entry (length f.body.code)) f.body.procedures e;
  commands = all_hold (λ c. nat_lt c.procedure (length f.body.procedures)) (λ c. c.procedure < length f.body.procedures) (λ c. below c.procedure (length f.body.procedures)) f.body.commands k;
  positions = is_truth (are_placed 0 f.body.code f.body.positions) q;
}

pub is_record : (t : RecordType) → t.words ≤ most_words → t.count ≤ most_words → AllByRecursion (λ d. d.number < t.count) t.definitions → IsRecord t
is_record t w c n = record { words = w; count = c; numbers = n }

pub same_instr : (i j : Instr) → IsInstr j → j.op ≡ i.op → j.a ≡ i.a → j.b ≡ i.b → IsInstr i
same_instr i j h e f g =
    let x : IsInstr (record { op = i.op; a = j.a; b = j.b }) = subst (λ (o : Opcode). let k : Instr = record { op = o; a = j.a; b = j.b } in IsInstr k) e h in
    let y : IsInstr (record { op = i.op; a = i.a; b = j.b }) = subst (λ (z : ℤ). let k : Instr = record { op = i.op; a = z; b = j.b } in IsInstr k) f x in
    subst (λ (z : ℤ). let k : Instr = record { op = i.op; a = i.a; b = z } in IsInstr k) g y

pub instr_fits : (i : Instr) → IsInstr i → instr.fits i
unfolding instr opcode int
instr_fits i h = ((tt, (h.a_fits, h.b_fits)), h.named)
