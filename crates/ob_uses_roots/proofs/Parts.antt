-- The parts one behind the other.
use Rattle.std.proofs.Common.{◌≡◌, ℕ, suc, ◌+◌, ◌<◌, List, [], ◌∷◌, ◌++◌, sym, ap, ◌∙◌, append-nil, append_assoc, arith, Result, OnOk}
use Rattle.std.proofs.lemmas.Result.{on_ok_weaker}
use Rattle.ob_types.proofs.TypedViews.{view_variable, view_field, view_index, view_deref, view_guard, view_constant, view_value_of, view_procedure_value, view_monadic, view_dyadic, view_logical, view_compare_texts, view_is_pointer, view_is_record, view_length, view_call, view_call_variable}
use Rattle.ob_uses_roots.specs.declared.exprs.Part.{Part}
use Rattle.ob_uses_roots.specs.declared.noted.Noted.{Noted}
use Rattle.ob_uses_roots.specs.Counts.{Count}
use Rattle.ob_uses_roots.specs.Noted.{noted}
use Rattle.ob_uses_roots.specs.Parts.{counts_of_part, counts_of_parts, size_of_part, size_of_parts}
use Rattle.ob_uses_roots.proofs.Parting.{noted_two, noted_none}

-- one part more
pub part_more : (ps : List Part) (p : Part) → counts_of_parts (ps ++ p ∷ []) ≡ counts_of_part p ++ counts_of_parts ps
part_more [] p = sym (append-nil (counts_of_part p))
part_more (q ∷ ps) p = ap (λ l. l ++ counts_of_part q) (part_more ps p) ∙ append_assoc (counts_of_part p) (counts_of_parts ps) (counts_of_part q)

pub size_more : (ps : List Part) (p : Part) → size_of_parts (ps ++ p ∷ []) ≡ size_of_part p + size_of_parts ps
size_more [] p = omega arith
size_more (q ∷ ps) p = let h = size_more ps p in omega arith

-- two parts more
pub parts_behind : (old mid new : List Part) (p q : Part) (whole : List Count) → mid ≡ old ++ p ∷ [] → new ≡ mid ++ q ∷ [] → whole ≡ counts_of_part q ++ counts_of_part p → counts_of_parts new ≡ whole ++ counts_of_parts old
parts_behind old mid new p q whole m n w =
    ap counts_of_parts n ∙ part_more mid q ∙ ap (λ l. counts_of_part q ++ l) (ap counts_of_parts m ∙ part_more old p)
    ∙ sym (append_assoc (counts_of_part q) (counts_of_part p) (counts_of_parts old)) ∙ ap (λ l. l ++ counts_of_parts old) (sym w)

pub sizes_behind : (old mid new : List Part) (p q : Part) (whole : ℕ) → mid ≡ old ++ p ∷ [] → new ≡ mid ++ q ∷ [] → size_of_part q + size_of_part p < whole → size_of_parts new < whole + size_of_parts old
sizes_behind old mid new p q whole m n w =
    let a = size_more mid q in let b = size_more old p in let c = ap size_of_parts m in let d = ap size_of_parts n in omega arith

pub parts_put : {T E : Type 0} (r : Result T E) (old mid new : List Part) (p q : Part) (whole : List Count) → mid ≡ old ++ p ∷ [] → OnOk r (new ≡ mid ++ q ∷ []) → whole ≡ counts_of_part q ++ counts_of_part p → OnOk r (counts_of_parts new ≡ whole ++ counts_of_parts old)
parts_put r old mid new p q whole m n w = on_ok_weaker {P = new ≡ mid ++ q ∷ []} r (λ h. parts_behind old mid new p q whole m h w) n

pub sizes_put : {T E : Type 0} (r : Result T E) (old mid new : List Part) (p q : Part) (whole : ℕ) → mid ≡ old ++ p ∷ [] → OnOk r (new ≡ mid ++ q ∷ []) → size_of_part q + size_of_part p < whole → OnOk r (size_of_parts new < whole + size_of_parts old)
sizes_put r old mid new p q whole m n w = on_ok_weaker {P = new ≡ mid ++ q ∷ []} r (λ h. sizes_behind old mid new p q whole m h w) n

-- the part that is taken next is apart
pub counts_next : (found left whole : Noted) (parts rest : List Part) (p : Part) → left ≡ noted found (counts_of_part p ++ counts_of_parts rest) → parts ≡ rest ++ p ∷ [] → noted found (counts_of_parts parts) ≡ whole → left ≡ whole
counts_next found left whole parts rest p h m inv = h ∙ ap (noted found) (sym (part_more rest p) ∙ ap counts_of_parts (sym m)) ∙ inv

pub size_next : (n : ℕ) (parts rest : List Part) (p : Part) → n < size_of_part p + size_of_parts rest → parts ≡ rest ++ p ∷ [] → n < size_of_parts parts
size_next n parts rest p h m = let s = size_more rest p in let same = ap size_of_parts m in omega arith

pub ruleset parts = (part_more, size_more, noted_two, noted_none, append_assoc, append-nil, view_variable, view_field, view_index, view_deref, view_guard, view_constant, view_value_of, view_procedure_value, view_monadic, view_dyadic, view_logical, view_compare_texts, view_is_pointer, view_is_record, view_length, view_call, view_call_variable)
