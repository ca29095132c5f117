-- The kind of an object is told by its shape text.
use Rattle.std.proofs.Common.{◌≡◌, ℕ, true, false, List, [], ◌∷◌, refl, sym, ap, ◌∙◌}
use Rattle.std.specs.Prelude.{nat_eq}
use Rattle.std.proofs.lemmas.Bool.{false≢true, eq-eqb}
use Rattle.ob_tree.specs.declared.names.QName.{QName}
use Rattle.ob_types.specs.declared.desc.Desc.{Desc}
use Rattle.ob_types.specs.declared.desc.Desc.TheVariants as desc
use Rattle.ob_desc.specs.Grammar.{seen, shape_text}
use Rattle.law_load_plan.specs.Compiled.{is_variable, is_procedure, is_record}

-- the first character, the second, and the fifth
abbrev at_first : List ℕ → ℕ
at_first [] = 0
at_first (x ∷ xs) = x

abbrev rest_of : List ℕ → List ℕ
rest_of [] = []
rest_of (x ∷ xs) = xs

abbrev at_second : List ℕ → ℕ
at_second t = at_first (rest_of t)

abbrev at_fifth : List ℕ → ℕ
at_fifth t = at_first (rest_of (rest_of (rest_of (rest_of t))))

no_same : (a b : ℕ) → nat_eq a b ≡ false → a ≡ b → ⊥
no_same a b d h = false≢true (sym d ∙ eq-eqb a b h)

pub variables_told : (q p : QName) (d e : Desc) → shape_text q d ≡ shape_text p e → is_variable d ≡ true → is_variable e ≡ true
variables_told q p (desc.Var m t) (desc.Var n u) h k = refl
variables_told q p (desc.Var m t) (desc.Const v) h k = absurd (no_same 118 99 refl (ap at_first h))
variables_told q p (desc.Var m t) (desc.Proc s) h k = absurd (no_same 118 112 refl (ap at_first h))
variables_told q p (desc.Var m t) (desc.Alias n u) h k = absurd (no_same 118 97 refl (ap at_first h))
variables_told q p (desc.Var m t) (desc.Array n l u) h k = absurd (no_same 118 97 refl (ap at_first h))
variables_told q p (desc.Var m t) (desc.OpenArray n u) h k = absurd (no_same 118 111 refl (ap at_first h))
variables_told q p (desc.Var m t) (desc.Pointer n u) h k = absurd (no_same 118 112 refl (ap at_first h))
variables_told q p (desc.Var m t) (desc.ProcType n s) h k = absurd (no_same 118 112 refl (ap at_first h))
variables_told q p (desc.Var m t) (desc.Record r) h k = absurd (no_same 118 114 refl (ap at_first h))
variables_told q p (desc.Const v) e h k = absurd cc
variables_told q p (desc.Proc s) e h k = absurd cc
variables_told q p (desc.Alias n u) e h k = absurd cc
variables_told q p (desc.Array n l u) e h k = absurd cc
variables_told q p (desc.OpenArray n u) e h k = absurd cc
variables_told q p (desc.Pointer n u) e h k = absurd cc
variables_told q p (desc.ProcType n s) e h k = absurd cc
variables_told q p (desc.Record r) e h k = absurd cc

pub procedures_told : (q p : QName) (d e : Desc) → shape_text q d ≡ shape_text p e → is_procedure d ≡ true → is_procedure e ≡ true
procedures_told q p (desc.Proc s) (desc.Proc t) h k = refl
procedures_told q p (desc.Proc s) (desc.Var n u) h k = absurd (no_same 112 118 refl (ap at_first h))
procedures_told q p (desc.Proc s) (desc.Const v) h k = absurd (no_same 112 99 refl (ap at_first h))
procedures_told q p (desc.Proc s) (desc.Alias n u) h k = absurd (no_same 112 97 refl (ap at_first h))
procedures_told q p (desc.Proc s) (desc.Array n l u) h k = absurd (no_same 112 97 refl (ap at_first h))
procedures_told q p (desc.Proc s) (desc.OpenArray n u) h k = absurd (no_same 112 111 refl (ap at_first h))
procedures_told q p (desc.Proc s) (desc.Pointer n u) h k = absurd (no_same 114 111 refl (ap at_second h))
procedures_told q p (desc.Proc s) (desc.ProcType n t) h k = absurd (no_same 32 116 refl (ap at_fifth h))
procedures_told q p (desc.Proc s) (desc.Record r) h k = absurd (no_same 112 114 refl (ap at_first h))
procedures_told q p (desc.Const v) e h k = absurd cc
procedures_told q p (desc.Var m t) e h k = absurd cc
procedures_told q p (desc.Alias n u) e h k = absurd cc
procedures_told q p (desc.Array n l u) e h k = absurd cc
procedures_told q p (desc.OpenArray n u) e h k = absurd cc
procedures_told q p (desc.Pointer n u) e h k = absurd cc
procedures_told q p (desc.ProcType n s) e h k = absurd cc
procedures_told q p (desc.Record r) e h k = absurd cc

pub records_told : (q p : QName) (d e : Desc) → shape_text q d ≡ shape_text p e → is_record d ≡ true → is_record e ≡ true
records_told q p (desc.Record r) (desc.Record s) h k = refl
records_told q p (desc.Record r) (desc.Var n u) h k = absurd (no_same 114 118 refl (ap at_first h))
records_told q p (desc.Record r) (desc.Const v) h k = absurd (no_same 114 99 refl (ap at_first h))
records_told q p (desc.Record r) (desc.Proc s) h k = absurd (no_same 114 112 refl (ap at_first h))
records_told q p (desc.Record r) (desc.Alias n u) h k = absurd (no_same 114 97 refl (ap at_first h))
records_told q p (desc.Record r) (desc.Array n l u) h k = absurd (no_same 114 97 refl (ap at_first h))
records_told q p (desc.Record r) (desc.OpenArray n u) h k = absurd (no_same 114 111 refl (ap at_first h))
records_told q p (desc.Record r) (desc.Pointer n u) h k = absurd (no_same 114 112 refl (ap at_first h))
records_told q p (desc.Record r) (desc.ProcType n s) h k = absurd (no_same 114 112 refl (ap at_first h))
records_told q p (desc.Const v) e h k = absurd cc
records_told q p (desc.Var m t) e h k = absurd cc
records_told q p (desc.Proc s) e h k = absurd cc
records_told q p (desc.Alias n u) e h k = absurd cc
records_told q p (desc.Array n l u) e h k = absurd cc
records_told q p (desc.OpenArray n u) e h k = absurd cc
records_told q p (desc.Pointer n u) e h k = absurd cc
records_told q p (desc.ProcType n s) e h k = absurd cc

-- what others see of an object is of its kind
pub variable_seen : (d : Desc) → is_variable (seen d) ≡ is_variable d
variable_seen (desc.Const v) = refl
variable_seen (desc.Var m t) = refl
variable_seen (desc.Proc s) = refl
variable_seen (desc.Alias n u) = refl
variable_seen (desc.Array n l u) = refl
variable_seen (desc.OpenArray n u) = refl
variable_seen (desc.Pointer n u) = refl
variable_seen (desc.ProcType n s) = refl
variable_seen (desc.Record r) = refl

pub procedure_seen : (d : Desc) → is_procedure (seen d) ≡ is_procedure d
procedure_seen (desc.Const v) = refl
procedure_seen (desc.Var m t) = refl
procedure_seen (desc.Proc s) = refl
procedure_seen (desc.Alias n u) = refl
procedure_seen (desc.Array n l u) = refl
procedure_seen (desc.OpenArray n u) = refl
procedure_seen (desc.Pointer n u) = refl
procedure_seen (desc.ProcType n s) = refl
procedure_seen (desc.Record r) = refl

pub record_seen : (d : Desc) → is_record (seen d) ≡ is_record d
record_seen (desc.Const v) = refl
record_seen (desc.Var m t) = refl
record_seen (desc.Proc s) = refl
record_seen (desc.Alias n u) = refl
record_seen (desc.Array n l u) = refl
record_seen (desc.OpenArray n u) = refl
record_seen (desc.Pointer n u) = refl
record_seen (desc.ProcType n s) = refl
record_seen (desc.Record r) = refl
