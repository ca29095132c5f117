-- Where the bodies of a checked module are judged: what is known there is as the module has it.
use Rattle.std.specs.Prelude.{◌≡◌, ◌⊎◌, ℕ, ◌≤◌, true, false, nat_lt, List, [], ◌∷◌, ◌++◌, Option, Some, None, map}
use Rattle.std.specs.List.{AllByRecursion}
use Rattle.ob_tree.specs.declared.names.QName.{QName}
use Rattle.ob_tree.specs.declared.stmt.Stmt.{Stmt}
use Rattle.ob_types.specs.declared.types.Mode.{Mode}
use Rattle.ob_types.specs.declared.types.Mode.TheVariants as mode
use Rattle.ob_types.specs.declared.types.TypeRef.{TypeRef}
use Rattle.ob_types.specs.declared.types.Signature.{Signature}
use Rattle.ob_types.specs.declared.value.Value.{Value}
use Rattle.ob_types.specs.declared.desc.Desc.{Desc}
use Rattle.ob_types.specs.declared.typed.Passing.{Passing}
use Rattle.ob_types.specs.declared.typed.Passing.TheVariants as passing
use Rattle.ob_types.specs.declared.typed.Variable.{Variable}
use Rattle.ob_types.specs.declared.typed.Variable.TheVariants as variable
use Rattle.ob_types.specs.declared.typed.TypedType.{TypedType}
use Rattle.ob_types.specs.declared.typed.TypedConstant.{TypedConstant}
use Rattle.ob_types.specs.declared.typed.TypedVariable.{TypedVariable}
use Rattle.ob_types.specs.declared.typed.TypedParameter.{TypedParameter}
use Rattle.ob_types.specs.declared.typed.TypedProcedure.{TypedProcedure}
use Rattle.ob_types.specs.declared.typed.TypedStmt.{TypedStmt}
use Rattle.ob_types.specs.declared.typed.TypedModule.{TypedModule}
use Rattle.ob_rules.specs.declared.entity.Entity.{Entity}
use Rattle.ob_rules.specs.declared.entity.Entity.TheVariants as entity
use Rattle.ob_rules.specs.declared.entity.Received.{Received}
use Rattle.ob_rules.specs.Shapes.{Map, record_of, pointed_record}
use Rattle.ob_rules.specs.Names.{Around, map_of, is_out}
use Rattle.ob_rules.specs.Operators.{signatures_match}
use Rattle.ob_types.specs.declared.desc.Method.{Method}
use Rattle.ob_rules.specs.Headings.{change_desc, bindings, reversed}
use Rattle.law_typing_forms.specs.Whole.{Different}
use Rattle.ob_rules.specs.Statements.{judging, in_turn}
use Rattle.ob_rules.specs.Declarations.{Contents, Written_procedure, headings_in_order, stmts_in, all_described}
use Rattle.law_typing_forms.specs.Said.{IsOneOf}
use Rattle.law_typing.specs.Makes.{IfThere}
use Rattle.law_typing.specs.Spelled.{all_true}
use Rattle.law_typing.specs.Bodies.{stmt_spelled}
use Rattle.law_body_context.specs.Knows.{Stands, IsDescribed, Knows, IsPlain}
use Rattle.law_body_context.specs.Order.{IsOver, AreInOrder}

-- by value or by VAR
abbrev pub mode_of : Passing → Mode
mode_of passing.Scalar = mode.Value
mode_of passing.Structure = mode.Value
mode_of passing.OpenArray = mode.Value
mode_of passing.Variable = mode.Var
mode_of passing.VariableRecord = mode.Var
mode_of passing.VariableOpenArray = mode.Var

-- parameters have the modes and types of a signature
abbrev pub AreOf : List TypedParameter → List (Mode × TypeRef) → Type 0
AreOf [] [] = Unit {0}
AreOf [] (k ∷ ks) = ⊥
AreOf (p ∷ ps) [] = ⊥
AreOf (p ∷ ps) (k ∷ ks) = ((p.of ≡ k.1) × (mode_of p.passing ≡ k.0)) × AreOf ps ks

-- one of these parameters, by its name
abbrev pub IsParameter : List TypedParameter → Variable → TypeRef → Type 0
IsParameter ps v t = (p : TypedParameter) × (IsOneOf ps p × ((v ≡ variable.Parameter p.passing p.name) × (t ≡ p.of)))

-- one of these variables of a procedure
abbrev pub IsLocal : List TypedVariable → Variable → TypeRef → Type 0
IsLocal xs v t = (x : TypedVariable) × (IsOneOf xs x × ((v ≡ variable.Local x.name) × (t ≡ x.of)))

-- one of these variables of the module
abbrev pub IsGlobal : List ℕ → List TypedVariable → Variable → TypeRef → Type 0
IsGlobal unit xs v t = (x : TypedVariable) × (IsOneOf xs x × ((v ≡ variable.Module unit x.name) × (t ≡ x.of)))

-- a variable or parameter of the procedure at hand; nothing is said of a procedure whose heading breaks a rule
abbrev pub IsInside : (TypeRef → Type 0) → Option TypedProcedure → Variable → TypeRef → Type 0
IsInside Known None v t = Unit {0}
IsInside Known (Some p) v t = (IsLocal p.locals v t ⊎ IsParameter p.parameters v t) × Known t

abbrev pub result_of : Option TypedProcedure → Option TypeRef
result_of None = None
result_of (Some p) = p.result

-- a type that the module makes, or with the procedures that are bound to it
abbrev pub IsMade : Contents → TypedType → Type 0
IsMade c t = IsOneOf c.types t ⊎ IsOneOf c.bound t

-- a description with these bound procedures more, if it is of a record
abbrev pub with_methods : List Method → Desc → Desc
with_methods ms d = change_desc (λ r. record r { methods = r.methods ++ ms }) d

abbrev pub HasMore : Desc → Desc → Type 0
HasMore d e = (ms : List Method) × (e ≡ with_methods ms d)

-- one of these types, before more procedures are bound to it
abbrev pub IsTold : List TypedType → TypedType → Type 0
IsTold ts t = (s : TypedType) × (IsOneOf ts s × ((s.name ≡ t.name) × HasMore t.desc s.desc))

-- a receiver: of the record by VAR, or of a pointer to it by value
abbrev pub IsReceivedAs : Map → Passing → TypeRef → QName → Type 0
IsReceivedAs map passing.VariableRecord t q = record_of map t ≡ Some q
IsReceivedAs map passing.Scalar t q = pointed_record map t ≡ Some q
IsReceivedAs map how t q = ⊥

module _ (IsConstant : Value → Type 0) (shown : QName → Option Desc) (m : TypedModule) (content : Contents) where
  -- what is known somewhere in the module: what is shown to it, and types that it makes
  pub record IsWithin (w : Around) : Type 0 where
    pub unit_is : w.unit ≡ m.name
    pub shown_is : w.shown ≡ shown
    pub own : (t : TypedType) → IsOneOf w.own t → IsMade content t

  -- the receiver of a procedure is one of its parameters, and was received as its type is known in its heading
  pub record IsReceived (p : TypedProcedure) (r : Received) : Type 0 where
    pub x : TypedParameter
    pub there : IsOneOf p.parameters x
    pub is : r.variable ≡ variable.Parameter x.passing x.name
    pub w : Around
    pub within : IsWithin w
    pub record_is : IsReceivedAs (map_of w) x.passing x.of r.owner

  -- nothing is said of a procedure whose heading breaks a rule
  abbrev pub ReceiverStands : Option TypedProcedure → Option Received → Type 0
  ReceiverStands None o = Unit {0}
  ReceiverStands (Some p) None = Unit {0}
  ReceiverStands (Some p) (Some r) = IsReceived p r

  abbrev pub StandsIn : List TypedType → TypeRef → Type 0
  StandsIn own t = Stands m.name shown own t

  -- the module has a procedure of that name and signature
  pub record IsProcedureIn (own : List TypedType) (q : QName) (s : Signature) : Type 0 where
    pub p : TypedProcedure
    pub there : IsOneOf m.procedures p
    pub name : q ≡ record { «module» = m.name; object = p.name }
    pub result : p.result ≡ s.result
    pub parameters : AreOf p.parameters s.params
    -- the types of its signature stand
    pub params : AllByRecursion (λ k. StandsIn own k.1) s.params
    pub result_stands : IfThere (StandsIn own) s.result

  -- What a forward declaration stands for: a procedure of the module of that name, whose signature matches that of the declaration by what
  -- is known somewhere in the module.
  pub record IsForwardIn (own : List TypedType) (q : QName) (s : Signature) : Type 0 where
    pub t : Signature
    pub procedure : IsProcedureIn own q t
    pub w : Around
    pub within : IsWithin w
    pub alike : signatures_match (map_of w) (Some s) (Some t) ≡ true
    -- the types of its own signature stand
    pub params : AllByRecursion (λ k. StandsIn own k.1) s.params
    pub result_stands : IfThere (StandsIn own) s.result

  -- in the scope of that number, where the variables of the scope `level` may be named
  pub record VariableStands (own : List TypedType) (p : Option TypedProcedure) (level scope : ℕ) (v : Variable) (t : TypeRef) : Type 0 where
    pub outside : nat_lt 1 scope ≡ false → IsGlobal m.name m.variables v t × StandsIn own t
    pub inside : nat_lt 1 scope ≡ true → nat_lt scope level ≡ false → IsInside (StandsIn own) p v t

  -- what a known name is, in a procedure of the module
  abbrev pub NameIs : List TypedType → Option TypedProcedure → (level scope : ℕ) → Entity → Type 0
  NameIs own p level scope (entity.Variable v t) = VariableStands own p level scope v t
  NameIs own p level scope (entity.Procedure q s) = IsProcedureIn own q s
  NameIs own p level scope (entity.Forward q s) = IsForwardIn own q s
  NameIs own p level scope e = Unit {0}

  -- what stands around the statements of a procedure, or of the module
  pub record StandsAround (p : Option TypedProcedure) (u : Around) : Type 0 where
    pub knows : Knows IsConstant m.name shown u
    pub below : AllByRecursion (λ k. k.scope ≤ u.scope) u.known
    pub names : AllByRecursion (λ k. NameIs u.own p u.level k.scope k.what) u.known
    pub guards : u.guards ≡ []
    pub result : u.result ≡ result_of p
    pub in_loop : u.in_loop ≡ false
    pub within : IsWithin u
    pub receiver : ReceiverStands p u.receiver

  -- Statements of the text are judged there, and this is what they come to, or nothing.
  pub record IsJudged (p : Option TypedProcedure) (body : List TypedStmt) : Type 0 where
    pub u : Around
    pub xs : List Stmt
    pub is : body ≡ stmts_in (in_turn (map judging xs) u).node
    pub spelled : all_true (map stmt_spelled xs) ≡ true
    pub stands : StandsAround p u

  -- a procedure's body, and its result; the types of its parameters and of its result stand in the module
  pub record ProcedureIsJudged (p : TypedProcedure) : Type 0 where
    pub body : IsJudged (Some p) p.body
    pub result : IfThere (IsPlain IsConstant m.name shown) p.result
    pub parameters : AllByRecursion (λ (x : TypedParameter). StandsIn m.types x.of) p.parameters
    pub answer : IfThere (StandsIn m.types) p.result

-- What is bound: some of these types, in their order, with the procedures that headings introduce.
pub record IsBoundBy (unit : List ℕ) (shown : QName → Option Desc) (types bound : List TypedType) : Type 0 where
  pub base : Around
  pub ps : List Written_procedure
  pub base_unit : base.unit ≡ unit
  pub unit_is : (headings_in_order ps (record { around = base; before = [] })).around.unit ≡ unit
  pub shown_is : (headings_in_order ps (record { around = base; before = [] })).around.shown ≡ shown
  pub order : AreInOrder unit shown (headings_in_order ps (record { around = base; before = [] })).around.own
  pub lies : (t : TypedType) → IsOneOf (headings_in_order ps (record { around = base; before = [] })).around.own t → IsOneOf types t
  pub is : bound ≡ (bindings (headings_in_order ps (record { around = base; before = [] })).around (reversed (headings_in_order ps (record { around = base; before = [] })).before)).own

module _ (IsConstant : Value → Type 0) (shown : QName → Option Desc) (m : TypedModule) where
  -- the bodies of the procedures, and the body of the module
  pub record BodiesAreJudged : Type 0 where
    -- what the parts of the module make
    pub content : Contents
    -- it is in the module, which has perhaps more procedures bound to it
    pub told : Different (λ t. t.name) m.types → (t : TypedType) → IsMade content t → IsTold m.types t
    -- its types are those that it makes, with what is bound to them
    pub types_are : m.types ≡ all_described content.bound content.types
    pub over : AllByRecursion (IsOver (Stands m.name shown m.types)) content.types
    pub from : (b : TypedType) → IsOneOf content.bound b → (t : TypedType) × (IsOneOf content.types t × ((t.name ≡ b.name) × HasMore t.desc b.desc))
    pub bound : (content.bound ≡ []) ⊎ IsBoundBy m.name shown content.types content.bound
    pub procedures : AllByRecursion (ProcedureIsJudged IsConstant shown m content) m.procedures
    pub body : IsJudged IsConstant shown m content None m.body
    -- it knows what is bound
    pub own : (content.bound ≡ []) ⊎ (body.u.own ≡ content.bound)
    -- in the scope of the module, and of no procedure
    pub scope : body.u.scope ≡ 1
    pub receiver : body.u.receiver ≡ None
    -- the module is not Out
    pub name : is_out m.name ≡ false
    -- its constants are constants, its types are described as types, and arrays have lengths
    pub constants : AllByRecursion (λ (c : TypedConstant). IsConstant c.value) m.constants
    pub types : AllByRecursion (IsDescribed IsConstant) m.types
