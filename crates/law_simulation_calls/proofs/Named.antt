-- Calls that name what is called, from what the call's own instruction does.
use Rattle.std.proofs.Common.{◌≡◌, ℕ, suc, ◌+◌, ◌≤◌, List, [], ◌∷◌, ◌++◌, length, Option, Some, None, ℤ, sym, subst, arith}
use Rattle.ob_tree.specs.declared.pos.Pos.{Pos}
use Rattle.ob_types.specs.declared.types.TypeRef.{TypeRef}
use Rattle.ob_types.specs.declared.typed.Callee.{Callee}
use Rattle.ob_types.specs.declared.typed.TypedParameter.{TypedParameter}
use Rattle.ob_types.specs.TypedSyntax.{Call, Actuals}
use Rattle.ob_instr.specs.Image.{World}
use Rattle.ob_meaning.specs.Values.{Form, form_in, AnObject, State}
use Rattle.ob_meaning.specs.Results.{give, Passed, Caller}
use Rattle.ob_meaning.specs.Meaning.{call_named, value, result_of}
use Rattle.law_simulation_relation.specs.Layout.{static_held}
use Rattle.law_simulation_relation.specs.Relation.{Fine, word_of}
use Rattle.law_simulation_relation.specs.Need.{need_actuals}
use Rattle.law_simulation_relation.specs.Ends.{end_actuals}
use Rattle.law_simulation_relation.specs.Stands as code
use Rattle.law_simulation_relation.specs.Typed as typed
use Rattle.law_simulation_relation.specs.Typed.{result_form}
use Rattle.law_simulation_relation.proofs.Steps.{here, Follows, follows_bind, follows_map, follows_value, by_bind}
use Rattle.law_simulation_relation.proofs.Statements.{Activation, scope, go, K, here_in, Keeps, onto, ActualsFollow, ArgumentsFit, ResultFine, result_fine, result_words}
use Rattle.law_simulation_relation.proofs.Values.{widen}
use Rattle.law_simulation_relation.specs.Setting.{Setting, has_of}

module _ (c : Setting) (a : Activation c) (n : ℕ) (call : Caller) (b : ℕ) where
  -- the instruction behind the arguments follows the call
  abbrev pub NamedGoes : Callee → Pos → Option TypeRef → List TypedParameter → ℕ → List ℤ → List AnObject → Type 0
  NamedGoes e at r ps pc ops os = (xs : List Passed) (ws : List ℤ) (s : State) (w : World) → ArgumentsFit c s.made (K c a) ps xs ws → Keeps c a n call b os s w →
      Follows c (go c a pc (onto ws ops) w) (λ r s w. go c a (suc pc) (result_words c s.made r ++ ops) w) (λ v s w. ResultFine c r s.made v × Keeps c a n call b os s w) (call_named e xs (here_in c a n call b) at s)

  -- by the form of the result alone
  pub result_goes : (e : Callee) (at : Pos) (r z : Option TypeRef) (ps : List TypedParameter) (pc : ℕ) (ops : List ℤ) (os : List AnObject) → result_form c.program r ≡ result_form c.program z → NamedGoes e at r ps pc ops os → NamedGoes e at z ps pc ops os
  result_goes e at r z ps pc ops os same goes xs ws s w fit st = follows_map c (goes xs ws s w fit st) (λ v s w k. here c _) (λ v s w k. (result_fine c r z s.made v same k.0, k.1))

  abbrev Ok : Actuals → List TypedParameter → Type 0
  Ok es ps = typed.ActualsOk c.program (has_of c) a.unit (static_held c.program a.procedure) a.procedure.result es ps

  pub named_value : (e : Callee) (es : Actuals) (at : Pos) (r : Option TypeRef) (t : Form) (ps : List TypedParameter) (pc k : ℕ) (ops : List ℤ) (os : List AnObject) (s : State) (w : World) → ActualsFollow c a n call b es → length ops + need_actuals es ≤ 256 → code.ActualsCode (scope c a) es pc k → Ok es ps → typed.ResultOk c.program (has_of c) a.unit (static_held c.program a.procedure) a.procedure.result r t → NamedGoes e at r ps (end_actuals c.program es pc) ops os → Keeps c a n call b os s w →
      Follows c (go c a pc ops w) (λ v s w. go c a (suc (end_actuals c.program es pc)) (word_of c.program (has_of c) c.img s.made v ∷ ops) w) (λ v s w. Fine c.program (has_of c) s.made t v × Keeps c a n call b os s w) (value (Call e es at r) (here_in c a n call b) s)
  named_value e es at None t ps pc k ops os s w ih le has ok h goes st = absurd h
  named_value e es at (Some u) t ps pc k ops os s w ih le has ok h goes st =
      let p1 = end_actuals c.program es pc in
      by_bind c (ih ps pc k ops os s w le has ok st) λ ws xs s1 w1 k1.
      follows_bind c (goes xs ws s1 w1 k1.0 k1.1) λ v s2 w2 k2.
      let g = k2.0 in
      subst (λ v. Follows c (go c a (suc p1) (result_words c s2.made v ++ ops) w2) (λ v s w. go c a (suc p1) (word_of c.program (has_of c) c.img s.made v ∷ ops) w) (λ v s w. Fine c.program (has_of c) s.made t v × Keeps c a n call b os s w) (give (result_of v) s2)) (sym g.1)
      (follows_value c w2 (here c _) (widen c s2.made a (form_in c.program u) t g.0 h.1 g.3, k2.1))

  pub named_proper : (e : Callee) (es : Actuals) (at : Pos) (ps : List TypedParameter) (pc k : ℕ) (os : List AnObject) (s : State) (w : World) (r : Option TypeRef) → r ≡ None → ActualsFollow c a n call b es → need_actuals es ≤ 256 → code.ActualsCode (scope c a) es pc k → Ok es ps → NamedGoes e at r ps (end_actuals c.program es pc) [] os → Keeps c a n call b os s w →
      Follows c (go c a pc [] w) (λ v s w. go c a (suc (end_actuals c.program es pc)) [] w) (λ v s w. Keeps c a n call b os s w) (value (Call e es at r) (here_in c a n call b) s)
  named_proper e es at ps pc k os s w r none ih le has ok goes st =
      let p1 = end_actuals c.program es pc in
      by_bind c (ih ps pc k [] os s w (omega (arith, le)) has ok st) λ ws xs s1 w1 k1.
      follows_bind c (goes xs ws s1 w1 k1.0 k1.1) λ v s2 w2 k2.
      let g : v ≡ None = subst (λ r. ResultFine c r s2.made v) none k2.0 in
      subst (λ v. Follows c (go c a (suc p1) (result_words c s2.made v ++ []) w2) (λ v s w. go c a (suc p1) [] w) (λ v s w. Keeps c a n call b os s w) (give (result_of v) s2)) (sym g)
      (follows_value c w2 (here c _) k2.1)
