-- What is to be proved of each kind of tree: its code follows its meaning.
use Rattle.std.proofs.Common.{◌≡◌, ◌⊎◌, ℕ, suc, ◌+◌, ◌≤◌, ◌<◌, List, [], ◌∷◌, ◌++◌, length, Option, Some, None, ℤ, subst}
use Rattle.std.specs.Prelude.{pos, Bool, true, false, map, slice_get}
use Rattle.ob_tree.specs.declared.pos.Pos.{Pos}
use Rattle.ob_tree.specs.declared.names.QName.{QName}
use Rattle.ob_types.specs.declared.types.TypeRef.{TypeRef}
use Rattle.ob_types.specs.declared.typed.Passing.{Passing}
use Rattle.ob_types.specs.declared.typed.Passing.TheVariants as passing
use Rattle.ob_types.specs.declared.typed.TypedParameter.{TypedParameter}
use Rattle.ob_types.specs.declared.typed.Family.{Family}
use Rattle.ob_types.specs.TypedSyntax.{Desig, Expr, Actuals, Stmt, Stmts, Branches, Procedure}
use Rattle.ob_instr.specs.declared.instr.Instr.{Instr}
use Rattle.ob_instr.specs.declared.procedure.Procedure as machine_procedure
use Rattle.ob_instr.specs.Image.{ModuleImage, World, Act, Point, Go, Over}
use Rattle.ob_instr.specs.Rows.{calls}
use Rattle.ob_instr.specs.Table.{row, position_at, left}
use Rattle.ob_instr.proofs.Steps as machine
use Rattle.ob_meaning.specs.Values.{Program, procedure_of, Form, ArrayForm, OpenForm, form_in, Value, Place, Held, Own, Referred, Copied, Active, AnObject, State}
use Rattle.ob_meaning.specs.Results.{Spent, M, Passed, ByValue, ByPlace, ByText, Caller, Around}
use Rattle.ob_meaning.specs.Meaning.{Flow, Done, Leaves, Back, Round, Again, Leave, place, value, actuals, exec, execs, exec_branches}
use Rattle.ob_meaning.specs.Calls.{hidden_of_all, hidden_held, held_variable, element_form, around}
use Rattle.law_simulation_relation.specs.Layout.{static_held, address, place_form, module_number, module_offset}
use Rattle.law_simulation_relation.specs.Relation.{Fine, word_of, second_word, number_of, PlaceOf, call_start, Scalar, flat_modules}
use Rattle.law_simulation_relation.specs.Texts.{text_words}
use Rattle.law_simulation_relation.specs.Ends as ends
use Rattle.law_simulation_relation.specs.Stands as code
use Rattle.law_simulation_relation.specs.Stands.{Scope}
use Rattle.law_simulation_relation.specs.Need.{need_place, need_tagged, need_open, need_expr, need_actuals, need_stmt, need_stmts, need_branches}
use Rattle.law_simulation_relation.specs.Typed as typed
use Rattle.law_simulation_relation.specs.Typed.{AreCharacters, char, result_form}
use Rattle.law_simulation_relation.proofs.Copies.{WordsAt}
use Rattle.law_simulation_relation.proofs.Steps.{Follows, FollowsBy}
use Rattle.law_simulation_relation.specs.Linked.{has_one}
use Rattle.law_simulation_relation.specs.Setting.{Kept, Setting, stopped, has_of}

-- the operands behind words that were put on them in order
abbrev pub onto : List ℤ → List ℤ → List ℤ
onto [] ops = ops
onto (x ∷ xs) ops = onto xs (x ∷ ops)

-- a parameter's variable in a call
abbrev pub ParameterHeld : Program → TypedParameter → Held → Type 0
ParameterHeld program p h = by p.passing
  where
    by : Passing → Type 0
    by passing.Scalar = h ≡ Own p.name (form_in program p.of)
    by passing.Structure = h ≡ Copied p.name 1 (form_in program p.of)
    by passing.OpenArray = (n : ℕ) × (h ≡ Copied p.name 2 (ArrayForm n (element_form (form_in program p.of))))
    by passing.Variable = h ≡ Referred p.name 1 (form_in program p.of)
    by passing.VariableRecord = h ≡ Referred p.name 2 (form_in program p.of)
    by passing.VariableOpenArray = h ≡ Referred p.name 2 (form_in program p.of)

abbrev pub ParametersHeld : Program → List TypedParameter → List Held → Type 0
ParametersHeld program [] [] = Unit {0}
ParametersHeld program [] (h ∷ hs) = ⊥
ParametersHeld program (p ∷ ps) [] = ⊥
ParametersHeld program (p ∷ ps) (h ∷ hs) = ParameterHeld program p h × ParametersHeld program ps hs

-- a call of a procedure has its variables
pub record IsCallOf (program : Program) (p : Procedure) (a : Active) : Type 0 where
  pub parameters : List Held
  pub is : a.held ≡ parameters ++ (map (held_variable program) p.locals ++ map hidden_held (hidden_of_all p.body))
  pub fit : ParametersHeld program p.parameters parameters

-- a result fits the operands of the caller
abbrev pub ResultFits : Option TypeRef → List Act → Type 0
ResultFits r [] = Unit {0}
ResultFits None (x ∷ acts) = length x.ops ≤ 256
ResultFits (Some t) (x ∷ acts) = length x.ops + 1 ≤ 256

-- The active call in which a part stands: its module and procedure, over the calls that wait.
pub record Activation (c : Setting) : Type 0 where
  pub m : ℕ
  pub u : ModuleImage
  pub is : machine.InModule c.img m u
  pub unit : List ℕ
  pub named : module_number c.program unit ≡ m
  pub first : u.first ≡ suc (module_offset c.program c.program unit)
  pub p : ℕ
  pub procedure : Procedure
  pub methods : Family → ℕ
  pub entry : machine_procedure.Procedure
  pub here_it_is : slice_get u.procedures p ≡ Some entry
  pub gives : entry.has_result ≡ has_one procedure.result
  pub active : Active
  pub cs : List Active
  pub acts : List Act
  pub depth : length cs ≡ length acts
  pub result_fits : ResultFits procedure.result acts
  pub call : IsCallOf c.program procedure active

module _ (c : Setting) where
  -- the place of a variable is passed: its address, or its tag or length with it
  abbrev pub PlaceFits : List AnObject → List Active → Form → Passed → List ℤ → Type 0
  PlaceFits os cs t x ws = (q : Place) × (x ≡ ByPlace q) × (ws ≡ pos (address c.program c.img os cs q) ∷ []) × PlaceOf c.program (has_of c) c.img os cs t q

  abbrev pub LongPlaceFits : List AnObject → List Active → Form → Passed → List ℤ → Type 0
  LongPlaceFits os cs t x ws = (q : Place) × (x ≡ ByPlace q) × (ws ≡ pos (address c.program c.img os cs q) ∷ second_word c.program (has_of c) c.img (place_form c.program c.img os cs q) ∷ []) × PlaceOf c.program (has_of c) c.img os cs t q

  -- words that stand among those of the modules, whatever the values of their variables
  abbrev pub AlwaysAt : ℕ → List ℤ → Type 0
  AlwaysAt a ws = (os : List AnObject) (g : List ℕ → List ℕ → Value) → WordsAt (flat_modules c.program (has_of c) c.img os c.program g) a ws

  -- a string is passed: where it stands, filled with 0X to an array's length, or its length with it
  abbrev pub TextFits : Form → Passed → List ℤ → Type 0
  TextFits t x ws = (text : List ℕ) × (a : ℕ) × (n : ℕ) × (x ≡ ByText text) × (ws ≡ pos a ∷ []) × (t ≡ ArrayForm n char) × AreCharacters text × AlwaysAt a (text_words text n)

  abbrev pub LongTextFits : Form → Passed → List ℤ → Type 0
  LongTextFits t x ws = (text : List ℕ) × (a : ℕ) × (x ≡ ByText text) × (ws ≡ pos a ∷ pos (suc (length text)) ∷ []) × (t ≡ OpenForm char) × AreCharacters text × AlwaysAt a (text_words text (suc (length text)))

  -- what is passed fits a parameter, and these are its words
  abbrev pub ArgumentFits : List AnObject → List Active → TypedParameter → Passed → List ℤ → Type 0
  ArgumentFits os cs p x ws = by p.passing
    where
      by : Passing → Type 0
      by passing.Scalar = (v : Value) × (x ≡ ByValue v) × (ws ≡ word_of c.program (has_of c) c.img os v ∷ []) × Scalar (form_in c.program p.of) × Fine c.program (has_of c) os (form_in c.program p.of) v
      by passing.Variable = PlaceFits os cs (form_in c.program p.of) x ws
      by passing.Structure = PlaceFits os cs (form_in c.program p.of) x ws ⊎ TextFits (form_in c.program p.of) x ws
      by passing.OpenArray = LongPlaceFits os cs (form_in c.program p.of) x ws ⊎ LongTextFits (form_in c.program p.of) x ws
      by passing.VariableRecord = LongPlaceFits os cs (form_in c.program p.of) x ws
      by passing.VariableOpenArray = LongPlaceFits os cs (form_in c.program p.of) x ws

  abbrev pub ArgumentsFit : List AnObject → List Active → List TypedParameter → List Passed → List ℤ → Type 0
  ArgumentsFit os cs [] [] ws = ws ≡ []
  ArgumentsFit os cs [] (x ∷ xs) ws = ⊥
  ArgumentsFit os cs (p ∷ ps) [] ws = ⊥
  ArgumentsFit os cs (p ∷ ps) (x ∷ xs) ws = (vs : List ℤ) × (us : List ℤ) × (ws ≡ vs ++ us) × ArgumentFits os cs p x vs × ArgumentsFit os cs ps xs us

  -- a result's words, and what it is
  abbrev pub result_words : List AnObject → Option Value → List ℤ
  result_words os None = []
  result_words os (Some v) = word_of c.program (has_of c) c.img os v ∷ []

  abbrev pub ResultFine : Option TypeRef → List AnObject → Option Value → Type 0
  ResultFine None os r = r ≡ None
  ResultFine (Some t) os r = (v : Value) × (r ≡ Some v) × Scalar (form_in c.program t) × Fine c.program (has_of c) os (form_in c.program t) v

  -- by the form of the result alone
  pub result_fine : (r z : Option TypeRef) (os : List AnObject) (v : Option Value) → result_form c.program r ≡ result_form c.program z → ResultFine r os v → ResultFine z os v
  result_fine None None os v e h = h
  result_fine None (Some u) os v e h = absurd (cc)
  result_fine (Some t) None os v e h = absurd (cc)
  result_fine (Some t) (Some u) os v e h =
      let f : form_in c.program t ≡ form_in c.program u = cc in
      (h.0, h.1, subst (λ z. Scalar z) f h.2, subst (λ z. Fine c.program (has_of c) os z h.0) f h.3)

  abbrev pub result_slots : Option TypeRef → ℕ
  result_slots None = 0
  result_slots (Some t) = 1

  -- A call follows its meaning: from any instruction that calls this procedure with these words.
  abbrev pub CallsFollow : Caller → ℕ → Type 0
  CallsFollow call b = (q : QName) (p : Procedure) (xs : List Passed) (ws rest : List ℤ) (unit : List ℕ) (at : Pos)
      (m pn fb pc : ℕ) (u : ModuleImage) (i : Instr) (cs : List Active) (acts : List Act) (ops : List ℤ) (os : List AnObject) (s : State) (w : World) →
      machine.InModule c.img m u → module_number c.program unit ≡ m → machine.Has u pc i → position_at u.positions pc ≡ at →
      row c.img u m pn fb pc i.op i.a i.b ops w ≡ calls c.img (number_of c.program (has_of c) c.img q) ws rest w →
      procedure_of c.program q ≡ Some p → ArgumentsFit s.made cs p.parameters xs ws → length rest + result_slots p.result ≤ 256 → length cs ≡ suc (length acts) → Kept c cs b os s w →
      Follows c (Go m pn fb acts pc ops w) (λ r s w. Go m pn fb acts (suc pc) (result_words s.made r ++ rest) w) (λ r s w. ResultFine p.result s.made r × Kept c cs b os s w) (call q xs unit at s)

  module _ (a : Activation c) where
    abbrev pub K : List Active
    K = a.active ∷ a.cs

    abbrev pub fb : ℕ
    fb = call_start c.program (has_of c) c.img a.cs

    abbrev pub scope : Scope
    scope = record { program = c.program; img = c.img; u = a.u; unit = a.unit; held = static_held c.program a.procedure; method_number = a.methods }

    abbrev pub go : ℕ → List ℤ → World → Point
    go pc ops w = Go a.m a.p fb a.acts pc ops w

    module _ (n : ℕ) (call : Caller) (b : ℕ) where
      abbrev pub here_in : Around
      here_in = around c.program c.heap n call a.unit

      abbrev pub Keeps : List AnObject → State → World → Type 0
      Keeps os s w = Kept c K b os s w

      -- DESIGNATORS: the address; with the tag or length behind it

      abbrev pub PlaceTo : ℕ → List ℤ → Place → State → World → Point
      PlaceTo pc ops p s w = go pc (pos (address c.program c.img s.made K p) ∷ ops) w

      abbrev pub LongTo : ℕ → List ℤ → Place → State → World → Point
      LongTo pc ops p s w = go pc (second_word c.program (has_of c) c.img (place_form c.program c.img s.made K p) ∷ pos (address c.program c.img s.made K p) ∷ ops) w

      abbrev pub PlaceKept : Form → List AnObject → Place → State → World → Type 0
      PlaceKept t os p s w = PlaceOf c.program (has_of c) c.img s.made K t p × Keeps os s w

      abbrev pub ValueTo : ℕ → List ℤ → Value → State → World → Point
      ValueTo pc ops v s w = go pc (word_of c.program (has_of c) c.img s.made v ∷ ops) w

      abbrev pub ValueKept : Form → List AnObject → Value → State → World → Type 0
      ValueKept t os v s w = Fine c.program (has_of c) s.made t v × Keeps os s w

      abbrev pub DesigOk : Desig → Type 0
      DesigOk d = typed.DesigOk c.program (has_of c) a.unit (static_held c.program a.procedure) a.procedure.result d

      abbrev pub ExprOk : Expr → Form → Type 0
      ExprOk e t = typed.ExprOk c.program (has_of c) a.unit (static_held c.program a.procedure) a.procedure.result e t

      abbrev pub PlaceFollows : Desig → Type 0
      PlaceFollows d = (pc at : ℕ) (ops : List ℤ) (os : List AnObject) (s : State) (w : World) → length ops + need_place d ≤ 256 → code.PlaceCode scope d pc at → DesigOk d → Keeps os s w →
          Follows c (go pc ops w) (PlaceTo (ends.end_place c.program d pc) ops) (PlaceKept (code.form_of scope d) os) (place d here_in s)

      -- a record with its tag, and an open array with its length
      abbrev pub RecordFollows : Desig → Type 0
      RecordFollows d = (pc at : ℕ) (ops : List ℤ) (os : List AnObject) (s : State) (w : World) → length ops + need_tagged d ≤ 256 → code.TaggedCode scope d pc at → DesigOk d → typed.IsRecordForm (code.form_of scope d) → Keeps os s w →
          Follows c (go pc ops w) (LongTo (ends.end_tagged c.program d pc) ops) (PlaceKept (code.form_of scope d) os) (place d here_in s)

      abbrev pub OpenArrayFollows : Desig → Type 0
      OpenArrayFollows d = (u : Form) (pc at : ℕ) (ops : List ℤ) (os : List AnObject) (s : State) (w : World) → length ops + need_open d ≤ 256 → code.OpenCode scope d pc at → DesigOk d → code.form_of scope d ≡ OpenForm u → Keeps os s w →
          Follows c (go pc ops w) (LongTo (ends.end_open c.program d pc) ops) (PlaceKept (code.form_of scope d) os) (place d here_in s)

      -- the tag alone, as IS on a parameter by VAR takes it
      abbrev pub TagFollows : Desig → Type 0
      TagFollows d = (pc : ℕ) (ops : List ℤ) (os : List AnObject) (s : State) (w : World) → length ops + 1 ≤ 256 → code.TagCode scope d pc → DesigOk d → Keeps os s w →
          Follows c (go pc ops w) (λ p s w. go (ends.end_tag c.program d pc) (second_word c.program (has_of c) c.img (place_form c.program c.img s.made K p) ∷ ops) w) (PlaceKept (code.form_of scope d) os) (place d here_in s)

      -- EXPRESSIONS
      abbrev pub ExprFollows : Expr → Type 0
      ExprFollows e = (t : Form) (pc at : ℕ) (ops : List ℤ) (os : List AnObject) (s : State) (w : World) → length ops + need_expr e ≤ 256 → code.ExprCode scope e pc at → ExprOk e t → Keeps os s w →
          Follows c (go pc ops w) (ValueTo (ends.end_expr c.program e pc) ops) (ValueKept t os) (value e here_in s)

      -- ACTUAL PARAMETERS: their words stand in order. The values do not tell them: a string's address is its place in the code's module.
      abbrev pub ActualsFollow : Actuals → Type 0
      ActualsFollow es = (ps : List TypedParameter) (pc at : ℕ) (ops : List ℤ) (os : List AnObject) (s : State) (w : World) → length ops + need_actuals es ≤ 256 → code.ActualsCode scope es pc at → typed.ActualsOk c.program (has_of c) a.unit (static_held c.program a.procedure) a.procedure.result es ps → Keeps os s w →
          FollowsBy c (go pc ops w) (λ ws xs s w. go (ends.end_actuals c.program es pc) (onto ws ops) w) (λ ws xs s w. ArgumentsFit s.made K ps xs ws × Keeps os s w) (actuals es here_in s)

      -- STATEMENTS: to their end, to the end of the LOOP, or back to the caller
      abbrev pub FlowTo : ℕ → ℕ → Flow → State → World → Point
      FlowTo next exit Done s w = go next [] w
      FlowTo next exit Leaves s w = go exit [] w
      FlowTo next exit (Back v) s w = left fb a.acts (result_words s.made v) w

      abbrev pub FlowFine : Bool → List AnObject → Flow → Type 0
      FlowFine l os Done = Unit {0}
      FlowFine l os Leaves = l ≡ true
      FlowFine l os (Back v) = ResultFine a.procedure.result os v

      abbrev pub FlowKept : Bool → List AnObject → Flow → State → World → Type 0
      FlowKept l os f s w = FlowFine l s.made f × Keeps os s w

      abbrev pub ExitLies : Bool → ℕ → ℕ → Type 0
      ExitLies true end exit = (end ≤ exit) × (exit < length a.u.code)
      ExitLies false end exit = Unit {0}

      abbrev pub StmtFollows : Stmt → Type 0
      StmtFollows t = (l : Bool) (exit pc at : ℕ) (os : List AnObject) (s : State) (w : World) → need_stmt t ≤ 256 → ends.end_stmt c.program t pc < length a.u.code → ExitLies l (ends.end_stmt c.program t pc) exit → code.StmtCode scope t exit pc at → typed.StmtOk c.program (has_of c) a.unit (static_held c.program a.procedure) a.procedure.result t l → Keeps os s w →
          Follows c (go pc [] w) (FlowTo (ends.end_stmt c.program t pc) exit) (FlowKept l os) (exec t here_in s)

      abbrev pub StmtsFollow : Stmts → Type 0
      StmtsFollow t = (l : Bool) (exit pc at : ℕ) (os : List AnObject) (s : State) (w : World) → need_stmts t ≤ 256 → ends.end_stmts c.program t pc < length a.u.code → ExitLies l (ends.end_stmts c.program t pc) exit → code.StmtsCode scope t exit pc at → typed.StmtsOk c.program (has_of c) a.unit (static_held c.program a.procedure) a.procedure.result t l → Keeps os s w →
          Follows c (go pc [] w) (FlowTo (ends.end_stmts c.program t pc) exit) (FlowKept l os) (execs t here_in s)

      -- branches end at an index; where none is taken, what is other follows from behind them
      abbrev pub OtherFollows : Bool → ℕ → ℕ → ℕ → List AnObject → M Flow → Type 0
      OtherFollows l from end exit os other = (s : State) (w : World) → Keeps os s w → Follows c (go from [] w) (FlowTo end exit) (FlowKept l os) (other s)

      abbrev pub BranchesFollow : Branches → Type 0
      BranchesFollow t = (l : Bool) (end exit pc at : ℕ) (os : List AnObject) (s : State) (w : World) (other : M Flow) → need_branches t ≤ 256 → ends.end_branches c.program t pc ≤ end → end < length a.u.code → ExitLies l end exit → code.BranchesCode scope t end exit pc at → typed.BranchesOk c.program (has_of c) a.unit (static_held c.program a.procedure) a.procedure.result t l → OtherFollows l (ends.end_branches c.program t pc) end exit os other → Keeps os s w →
          Follows c (go pc [] w) (FlowTo end exit) (FlowKept l os) (exec_branches t here_in other s)

      -- LOOPS: a round goes back to the jump, or leaves
      abbrev pub RoundTo : (World → Point) → ℕ → ℕ → Round → State → World → Point
      RoundTo again next exit Again s w = again w
      RoundTo again next exit (Leave f) s w = FlowTo next exit f s w

      abbrev pub RoundKept : Bool → List AnObject → Round → State → World → Type 0
      RoundKept l os Again s w = Keeps os s w
      RoundKept l os (Leave f) s w = FlowKept l os f s w

      -- the jump back spends a turn, or none is left
      pub record BackAt (again : World → Point) (start : ℕ) (at : Pos) : Type 0 where
        pub goes : (w : World) (t : ℕ) → w.turns ≡ suc t → machine.Reach c.img (again w) (go start [] (record w { turns = t }))
        pub ends : (w : World) → w.turns ≡ 0 → machine.Reach c.img (again w) (Over (stopped c (Spent a.unit at)) w)
