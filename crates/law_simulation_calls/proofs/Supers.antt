-- Super calls follow their meaning.
use Rattle.std.proofs.Common.{◌≡◌, ℕ, suc, ◌+◌, ◌≤◌, List, [], ◌++◌, length, Option, Some, None, ℤ, sym, ap, ◌∙◌, subst, arith}
use Rattle.ob_tree.specs.declared.pos.Pos.{Pos}
use Rattle.ob_tree.specs.declared.names.QName.{QName}
use Rattle.ob_types.specs.declared.types.TypeRef.{TypeRef}
use Rattle.ob_types.specs.declared.typed.Callee.TheVariants as callee
use Rattle.ob_types.specs.declared.typed.Family.{Family}
use Rattle.ob_types.specs.declared.desc.Receiver.{Receiver}
use Rattle.ob_types.specs.TypedSyntax.{Call, Actuals, CallProper, Procedure}
use Rattle.ob_instr.specs.declared.instr.Instr.{Instr}
use Rattle.ob_instr.specs.declared.opcode.Opcode.TheVariants as op
use Rattle.ob_instr.specs.Parts.{slots}
use Rattle.ob_instr.specs.Image.{World}
use Rattle.ob_instr.specs.Rows.{on_found, on_args, calls}
use Rattle.ob_instr.specs.Table.{position_at}
use Rattle.ob_instr.proofs.Goes as rows
use Rattle.std.specs.Prelude.{pos}
use Rattle.ob_meaning.specs.Values as values
use Rattle.ob_meaning.specs.Values.{bases_in, AnObject, State}
use Rattle.ob_meaning.specs.Results.{Passed, Caller}
use Rattle.ob_meaning.specs.Meaning.{nearest, call_found}
use Rattle.law_simulation_relation.specs.Layout.{type_number}
use Rattle.law_simulation_relation.specs.Relation.{number_of}
use Rattle.law_simulation_relation.specs.Ends.{end_actuals}
use Rattle.law_simulation_relation.specs.Stands as code
use Rattle.law_simulation_relation.specs.Typed.{IsRecordType}
use Rattle.law_simulation_relation.specs.Stands.{instr}
use Rattle.law_simulation_relation.proofs.Steps.{here, Follows, follows_bind, follows_value}
use Rattle.law_simulation_relation.proofs.Statements.{Activation, scope, go, fb, K, here_in, Keeps, onto, ExprFollows, ActualsFollow, StmtFollows, ArgumentsFit, CallsFollow, ResultFine, result_words, result_slots}
use Rattle.law_simulation_relation.proofs.Moves.{has_it, effect}
use Rattle.law_simulation_relation.proofs.Actuals.{procedure_found, slots_fit}
use Rattle.law_simulation_relation.specs.Linked.{Linked}
use Rattle.law_simulation_relation.specs.Setting.{Setting, has_of}
use Rattle.law_simulation_calls.specs.Tables.{TablesStand}
use Rattle.law_simulation_calls.proofs.Fits.{args_are}
use Rattle.law_simulation_calls.proofs.Named.{NamedGoes, result_goes, named_value, named_proper}

module _ (c : Setting) (a : Activation c) (n : ℕ) (call : Caller) (b : ℕ) where
  -- an instruction that calls a procedure of the program
  pub known_goes : (calls_follow : CallsFollow c call b) (q : QName) (p : Procedure) (xs : List Passed) (ws ops all : List ℤ) (at : Pos) (pc : ℕ) (i : Instr) (os : List AnObject) (s : State) (w : World) → values.procedure_of c.program q ≡ Some p → code.Has (scope c a) pc i → position_at a.u.positions pc ≡ at → effect c a pc all w i ≡ calls c.img (number_of c.program (has_of c) c.img q) ws ops w → ArgumentsFit c s.made (K c a) p.parameters xs ws → length ops + 1 ≤ 256 → Keeps c a n call b os s w →
      Follows c (go c a pc all w) (λ r s w. go c a (suc pc) (result_words c s.made r ++ ops) w) (λ r s w. ResultFine c p.result s.made r × Keeps c a n call b os s w) (call q xs a.unit at s)
  known_goes calls_follow q p xs ws ops all at pc i os s w found has place is fit le st =
      let depth : length (K c a) ≡ suc (length a.acts) = ap suc a.depth in
      calls_follow q p xs ws ops a.unit at a.m a.p (fb c a) pc a.u i (K c a) a.acts all os s w a.is a.named (has_it c a has) place is found fit (by p.result le) depth st
    where
      by : (r : Option TypeRef) → length ops + 1 ≤ 256 → length ops + result_slots c r ≤ 256
      by None le = omega (arith, le)
      by (Some t) le = le

  module _ (link : Linked c) (tables : TablesStand c a.methods) (calls_follow : CallsFollow c call b) where
    super_goes : (base : QName) (f : Family) (k : Receiver) (es : Actuals) (at : Pos) (pc : ℕ) (ops : List ℤ) (os : List AnObject) (q : QName) (p : Procedure) → IsRecordType c.program base → nearest c.program (bases_in c.program base) f ≡ Some q → values.procedure_of c.program q ≡ Some p → code.CallCode (scope c a) (callee.Super base f k) es pc at → length ops + 1 ≤ 256 → NamedGoes c a n call b (callee.Super base f k) at p.result p.parameters pc ops os
    super_goes base f k es at pc ops os q p built near found has le xs ws s w fit st =
        let ps = link q p found in
        let len = slots_fit c s.made (K c a) p.parameters ps.entry.params xs ws ps.kinds fit in
        let r = number_of c.program (has_of c) c.img q in
        let is : effect c a pc (onto ws ops) w (instr op.CallS (pos has.0) (pos (a.methods f))) ≡ calls c.img r ws ops w =
        rows.call_s_is c.img a.u a.m a.p (fb c a) pc w has.0 (a.methods f) (type_number c.img.types base) r (onto ws ops) has.2 (tables base f q built near)
        ∙ ap (λ o. on_found o (λ q. on_args (slots q.params) (onto ws ops) (λ args rest. calls c.img r args rest w))) (procedure_found c a n call b link q p ps)
        ∙ args_are (slots ps.entry.params) ws ops (λ args rest. calls c.img r args rest w) len in
        subst (λ o. Follows c (go c a pc (onto ws ops) w) (λ r s w. go c a (suc pc) (result_words c s.made r ++ ops) w) (λ v s w. ResultFine c p.result s.made v × Keeps c a n call b os s w) (call_found o xs (here_in c a n call b) at s)) (sym near)
        (known_goes calls_follow q p xs ws ops (onto ws ops) at pc _ os s w found has.1.has has.1.place is fit le st)

    pub super_case : (base : QName) (f : Family) (k : Receiver) (es : Actuals) (at : Pos) (r : Option TypeRef) → ActualsFollow c a n call b es → ExprFollows c a n call b (Call (callee.Super base f k) es at r)
    super_case base f k es at r ih t pc j ops os s w le has ok st =
        let q = ok.0.0 in
        let p = ok.0.1 in
        let goes = super_goes base f k es at (end_actuals c.program es pc) ops os q p ok.0.2 ok.0.3 ok.0.4 has.1 (omega (arith, le)) in
        named_value c a n call b (callee.Super base f k) es at r t p.parameters pc j ops os s w ih (omega (arith, le)) has.0 ok.0.6 ok.1 (result_goes c a n call b (callee.Super base f k) at p.result r p.parameters (end_actuals c.program es pc) ops os ok.0.5 goes) st

    pub super_proper_case : (base : QName) (f : Family) (k : Receiver) (es : Actuals) (at : Pos) (r : Option TypeRef) → ActualsFollow c a n call b es → StmtFollows c a n call b (CallProper (Call (callee.Super base f k) es at r))
    super_proper_case base f k es at r ih l exit pc j os s w le inside lies has ok st =
        let q = ok.0.0 in
        let p = ok.0.1 in
        let goes = super_goes base f k es at (end_actuals c.program es pc) [] os q p ok.0.2 ok.0.3 ok.0.4 has.1 (omega arith) in
        follows_bind c
        (named_proper c a n call b (callee.Super base f k) es at p.parameters pc j os s w r ok.1 ih (omega (arith, le)) has.0 ok.0.6 (result_goes c a n call b (callee.Super base f k) at p.result r p.parameters (end_actuals c.program es pc) [] os ok.0.5 goes) st)
        λ v s2 w2 k2. follows_value c w2 (here c _) (tt, k2)
