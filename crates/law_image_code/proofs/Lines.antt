-- Single lines that stand in the code.
use Rattle.std.proofs.Common.{◌≡◌, ℕ, suc, ◌+◌, ◌<◌, List, [], ◌∷◌, ◌++◌, length, ℤ, refl, sym, ap, ◌∙◌, subst, arith, append_assoc, Option, Some, None, inr}
use Rattle.std.proofs.lemmas.Option.{slice_get_within}
use Rattle.std.specs.Prelude.{pos, Bool, true, false, bytes_eq, if◌then◌else◌, slice_get}
use Rattle.ob_tree.specs.declared.pos.Pos.{Pos}
use Rattle.ob_tree.specs.declared.names.QName.{QName}
use Rattle.ob_tree.specs.declared.proc_ref.ProcRef.{ProcRef}
use Rattle.ob_instr.specs.declared.opcode.Opcode.{Opcode}
use Rattle.ob_instr.specs.declared.opcode.Opcode.TheVariants as op
use Rattle.ob_instr.specs.Table.{position_at}
use Rattle.ob_scheme.specs.Lines.{Number, OtherVariable, OtherProcedure, OtherType, Line, line_of, none, count, plain, placed}
use Rattle.ob_scheme.specs.Context.{Context, is_own, variable_place, procedure_index, type_index, own_types, type_operand, records}
use Rattle.ob_scheme.specs.Expressions.{module_line, procedure_line, declared_line}
use Rattle.law_simulation_relation.specs.Layout.{type_number, slot, variables_in}
use Rattle.law_simulation_relation.specs.Relation.{OrElse, number_of}
use Rattle.law_simulation_relation.specs.Stands as code
use Rattle.law_simulation_relation.specs.Stands.{Scope, instr, with_a, never_stops}
use Rattle.law_image_code.specs.Standing.{past, OperandIs, LineStands, Behind}
use Rattle.law_image_code.specs.Fits.{IsNamed, IsKnown, AmongTypes}
use Rattle.law_image_code.specs.Agrees.{Agrees}

module _ (sc : Scope) where
  -- REGROUPED

  pub apart : (a b rest : List Line) (pc at : ℕ) → Behind sc ((a ++ b) ++ rest) pc at → Behind sc (a ++ (b ++ rest)) pc at
  apart a b rest pc at h = subst (λ l. Behind sc l pc at) (append_assoc a b rest) h

  pub apart_two : (a b d rest : List Line) (pc at : ℕ) → Behind sc ((a ++ (b ++ d)) ++ rest) pc at → Behind sc (a ++ (b ++ (d ++ rest))) pc at
  apart_two a b d rest pc at h = subst (λ l. Behind sc l pc at) (append_assoc a (b ++ d) rest ∙ ap (λ l. a ++ l) (append_assoc b d rest)) h

  pub next : {l : Line} {ls : List Line} {pc at : ℕ} → Behind sc (l ∷ ls) pc at → Behind sc ls (suc pc) (past l.b (past l.a at))
  next h = record { lines = h.lines.1 }

  pub moved : {ls : List Line} {pc at : ℕ} (p q : ℕ) → pc ≡ p → at ≡ q → Behind sc ls pc at → Behind sc ls p q
  moved {ls} {pc} {at} p q e f h = subst (λ k. Behind sc ls k q) e (subst (λ k. Behind sc ls pc k) f h)

  pub texts_on : {ls : List Line} {pc : ℕ} (at a b : ℕ) → Behind sc ls pc (at + a + b) → Behind sc ls pc (at + (a + b))
  texts_on {ls} {pc} at a b h = let e : at + a + b ≡ at + (a + b) = omega arith in subst (λ k. Behind sc ls pc k) e h

  pub no_texts : {ls : List Line} {pc at : ℕ} → Behind sc ls pc at → Behind sc ls pc (at + 0)
  no_texts {ls} {pc} {at} h = let e : at ≡ at + 0 = omega arith in subst (λ k. Behind sc ls pc k) e h

  -- INSIDE

  pub inside : (ls : List Line) (pc at : ℕ) → Behind sc ls pc at → pc < length sc.u.code
  inside [] pc at h = h.lines
  inside (l ∷ ls) pc at h = slice_get_within sc.u.code pc _ h.lines.0.is

  -- LINES OF NUMBERS

  pub has_line : (o : Opcode) (a b : ℤ) (p : Option Pos) (pc at : ℕ) → LineStands sc (line_of o (Number a) (Number b) p) pc at → code.Has sc pc (instr o a b)
  has_line o a b p pc at h = record { is = h.is ∙ ap (λ x. Some (instr o x h.b)) (h.first (inr tt)) ∙ ap (λ x. Some (instr o a x)) (h.second (inr tt)) }

  or_place : {A : Type 0} (b : Bool) → A → OrElse b (Unit {0}) A
  or_place true x = tt
  or_place false x = x

  pub has_at : (o : Opcode) (a b : ℤ) (p : Pos) (pc at : ℕ) → LineStands sc (line_of o (Number a) (Number b) (Some p)) pc at → code.HasAt sc pc (instr o a b) p
  has_at o a b p pc at h = record { has = has_line o a b (Some p) pc at h; place = or_place (never_stops o) h.place }

  -- an operator that never stops
  pub has_quiet : (o : Opcode) (p : Pos) (pc at : ℕ) → never_stops o ≡ true → LineStands sc (line_of o (Number (pos 0)) (Number (pos 0)) None) pc at → code.HasAt sc pc (instr o (pos 0) (pos 0)) p
  has_quiet o p pc at e h = record { has = has_line o (pos 0) (pos 0) None pc at h; place = subst (λ b. OrElse b (Unit {0}) (position_at sc.u.positions pc ≡ p)) (sym e) tt }

  module _ (c : Context) (ag : Agrees sc c) where
    -- RECORD TYPES

    pub type_found : (q : QName) (at : ℕ) (k : ℤ) → IsKnown c q → OperandIs sc (type_operand c q) at k → (n : ℕ) × (k ≡ pos n) × (slice_get sc.u.types n ≡ Some (type_number sc.img.types q))
    type_found q at k known h = go (is_own c q.module) refl known h
      where
        go : (b : Bool) → is_own c q.module ≡ b → OrElse b (AmongTypes (records c) q.object) (Unit {0}) → OperandIs sc (if b then count (type_index c q.object) else OtherType (own_types c) q) at k → (n : ℕ) × (k ≡ pos n) × (slice_get sc.u.types n ≡ Some (type_number sc.img.types q))
        go true e i h = (type_index c q.object, h, ag.types q e i)
        go false e i h = (h.0, h.1, h.2 ag.own)

    pub type_past : (q : QName) (at : ℕ) → past (type_operand c q) at ≡ at
    type_past q at = go (is_own c q.module)
      where
        go : (b : Bool) → past (if b then count (type_index c q.object) else OtherType (own_types c) q) at ≡ at
        go true = refl
        go false = refl

    pub has_type : (o : Opcode) (q : QName) (p : Option Pos) (pc at : ℕ) → IsKnown c q → LineStands sc (line_of o (type_operand c q) none p) pc at → code.HasType sc pc o q
    has_type o q p pc at known h =
        let r = type_found q at h.a known (h.first (inr tt)) in
        record { number = r.0; has = record { is = h.is ∙ ap (λ x. Some (instr o x h.b)) r.1 ∙ ap (λ x. Some (instr o (pos r.0) x)) (h.second (inr tt)) }; is = r.2 }

    pub has_type_at : (o : Opcode) (q : QName) (p : Pos) (pc at : ℕ) → IsKnown c q → LineStands sc (line_of o (type_operand c q) none (Some p)) pc at → code.HasTypeAt sc pc o q p
    has_type_at o q p pc at known h = record { type = has_type o q (Some p) pc at known h; place = h.place }

    pub next_type : {o : Opcode} {p : Option Pos} {ls : List Line} {pc at : ℕ} (q : QName) → Behind sc (line_of o (type_operand c q) none p ∷ ls) pc at → Behind sc ls (suc pc) at
    next_type {o} {p} {ls} {pc} {at} q h = subst (λ k. Behind sc ls (suc pc) k) (type_past q at) (next h)

    -- VARIABLES OF MODULES

    pub module_stands : (m x : List ℕ) (ls : List Line) (pc at : ℕ) → Behind sc (module_line c m x ∷ ls) pc at → OrElse (bytes_eq m sc.unit) (code.Has sc pc (with_a op.Global (slot (variables_in sc.program sc.program m) x))) (code.HasLink sc pc m x) × Behind sc ls (suc pc) at
    module_stands m x ls pc at h = (subst (λ u. OrElse (bytes_eq m u) (code.Has sc pc (with_a op.Global (slot (variables_in sc.program sc.program m) x))) (code.HasLink sc pc m x)) ag.unit (go (is_own c m) refl h.lines.0), subst (λ k. Behind sc ls (suc pc) k) (none_past (is_own c m)) (next h))
      where
        go : (b : Bool) → is_own c m ≡ b → LineStands sc (if b then plain op.Global (count (variable_place c x)) else plain op.ExtVar (OtherVariable m x)) pc at → OrElse b (code.Has sc pc (with_a op.Global (slot (variables_in sc.program sc.program m) x))) (code.HasLink sc pc m x)
        go true e h = subst (λ n. code.Has sc pc (with_a op.Global n)) (ag.variables m x e) (has_line op.Global (pos (variable_place c x)) (pos 0) None pc at h)
        go false e h = record { number = (h.first (inr tt)).0; has = record { is = h.is ∙ ap (λ k. Some (instr op.ExtVar k h.b)) (h.first (inr tt)).1 ∙ ap (λ k. Some (instr op.ExtVar (pos (h.first (inr tt)).0) k)) (h.second (inr tt)) }; is = (h.first (inr tt)).2 }

        none_past : (b : Bool) → past (if b then plain op.Global (count (variable_place c x)) else plain op.ExtVar (OtherVariable m x)).b (past (if b then plain op.Global (count (variable_place c x)) else plain op.ExtVar (OtherVariable m x)).a at) ≡ at
        none_past true = refl
        none_past false = refl

    -- PROCEDURES

    abbrev number : QName → ProcRef
    number q = number_of sc.program (λ s p. Unit {0}) sc.img q

    pub procedure_stands : (q : QName) (ls : List Line) (pc at : ℕ) → IsNamed q.object → Behind sc (procedure_line c q ∷ ls) pc at → code.HasProcedure sc pc q op.Proc op.ProcX × Behind sc ls (suc pc) at
    procedure_stands q ls pc at named h = (record { is = subst (λ u. OrElse (bytes_eq q.module u) (code.Has sc pc (with_a op.Proc (number q).proc)) ((k : ℕ) × code.Has sc pc (with_a op.ProcX k) × (slice_get sc.u.procedure_links k ≡ Some (number q)))) ag.unit (go (is_own c q.module) refl h.lines.0) }, subst (λ k. Behind sc ls (suc pc) k) (none_past (is_own c q.module)) (next h))
      where
        go : (b : Bool) → is_own c q.module ≡ b → LineStands sc (if b then plain op.Proc (count (procedure_index c q.object)) else plain op.ProcX (OtherProcedure q.module q.object)) pc at → OrElse b (code.Has sc pc (with_a op.Proc (number q).proc)) ((k : ℕ) × code.Has sc pc (with_a op.ProcX k) × (slice_get sc.u.procedure_links k ≡ Some (number q)))
        go true e h = subst (λ n. code.Has sc pc (with_a op.Proc n)) (ag.procedures q e named) (has_line op.Proc (pos (procedure_index c q.object)) (pos 0) None pc at h)
        go false e h = ((h.first (inr tt)).0, record { is = h.is ∙ ap (λ k. Some (instr op.ProcX k h.b)) (h.first (inr tt)).1 ∙ ap (λ k. Some (instr op.ProcX (pos (h.first (inr tt)).0) k)) (h.second (inr tt)) }, (h.first (inr tt)).2)

        none_past : (b : Bool) → past (if b then plain op.Proc (count (procedure_index c q.object)) else plain op.ProcX (OtherProcedure q.module q.object)).b (past (if b then plain op.Proc (count (procedure_index c q.object)) else plain op.ProcX (OtherProcedure q.module q.object)).a at) ≡ at
        none_past true = refl
        none_past false = refl

    pub declared_stands : (q : QName) (p : Pos) (ls : List Line) (pc at : ℕ) → IsNamed q.object → Behind sc (declared_line c q p ∷ ls) pc at → (code.HasProcedure sc pc q op.Call op.CallX × (position_at sc.u.positions pc ≡ p)) × Behind sc ls (suc pc) at
    declared_stands q p ls pc at named h = (
      (
        record { is = subst (λ u. OrElse (bytes_eq q.module u) (code.Has sc pc (with_a op.Call (number q).proc)) ((k : ℕ) × code.Has sc pc (with_a op.CallX k) × (slice_get sc.u.procedure_links k ≡ Some (number q)))) ag.unit (go (is_own c q.module) refl h.lines.0) },
        place (is_own c q.module) h.lines.0,
      ),
      subst (λ k. Behind sc ls (suc pc) k) (none_past (is_own c q.module)) (next h),
    )
      where
        go : (b : Bool) → is_own c q.module ≡ b → LineStands sc (if b then placed op.Call (count (procedure_index c q.object)) p else placed op.CallX (OtherProcedure q.module q.object) p) pc at → OrElse b (code.Has sc pc (with_a op.Call (number q).proc)) ((k : ℕ) × code.Has sc pc (with_a op.CallX k) × (slice_get sc.u.procedure_links k ≡ Some (number q)))
        go true e h = subst (λ n. code.Has sc pc (with_a op.Call n)) (ag.procedures q e named) (has_line op.Call (pos (procedure_index c q.object)) (pos 0) (Some p) pc at h)
        go false e h = ((h.first (inr tt)).0, record { is = h.is ∙ ap (λ k. Some (instr op.CallX k h.b)) (h.first (inr tt)).1 ∙ ap (λ k. Some (instr op.CallX (pos (h.first (inr tt)).0) k)) (h.second (inr tt)) }, (h.first (inr tt)).2)

        place : (b : Bool) → LineStands sc (if b then placed op.Call (count (procedure_index c q.object)) p else placed op.CallX (OtherProcedure q.module q.object) p) pc at → position_at sc.u.positions pc ≡ p
        place true h = h.place
        place false h = h.place

        none_past : (b : Bool) → past (if b then placed op.Call (count (procedure_index c q.object)) p else placed op.CallX (OtherProcedure q.module q.object) p).b (past (if b then placed op.Call (count (procedure_index c q.object)) p else placed op.CallX (OtherProcedure q.module q.object) p).a at) ≡ at
        none_past true = refl
        none_past false = refl
