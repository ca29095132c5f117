-- What the rules know around a part of a text, as it is in a program.
use Rattle.std.specs.Prelude.{◌≡◌, ℕ, ◌<◌, ◌^◌, List, length, Option, Some, None, true, false, bytes_eq, codes}
use Rattle.std.specs.List.{AllByRecursion}
use Rattle.ob_tree.specs.declared.names.QName.{QName}
use Rattle.ob_types.specs.declared.types.TypeRef.{TypeRef}
use Rattle.ob_types.specs.declared.types.Signature.{Signature}
use Rattle.ob_types.specs.declared.value.Value.{Value as Literal}
use Rattle.ob_types.specs.declared.value.Value.TheVariants as literal
use Rattle.ob_types.specs.declared.desc.Desc.TheVariants as desc
use Rattle.ob_types.specs.declared.desc.Method.{Method}
use Rattle.ob_tree.specs.declared.ident.Mark.{Mark}
use Rattle.ob_types.specs.declared.typed.Width.TheVariants as width
use Rattle.ob_types.specs.declared.typed.Variable.{Variable}
use Rattle.ob_types.specs.declared.typed.Variable.TheVariants as variable
use Rattle.ob_types.specs.AssigningTests.{is_value}
use Rattle.ob_types.specs.TypedSyntax.{Procedure}
use Rattle.ob_meaning.specs.Values.{Program, procedure_of, Formals, form_in, record_in, formals_in, bases_in, Held}
use Rattle.ob_meaning.specs.Meaning.{nearest}
use Rattle.law_simulation_relation.specs.Relation.{Sub}
use Rattle.ob_types.specs.Numbers.{is_in}
use Rattle.law_simulation_relation.specs.Passed.{IsPassed}
use Rattle.law_simulation_relation.specs.Typed as typed
use Rattle.law_simulation_relation.specs.Typed.{AreCharacters, IsRecordForm, IsRecordType, ReceiverOk, passing_for, result_form}
use Rattle.ob_rules.specs.declared.entity.Entity.TheVariants as entity
use Rattle.ob_rules.specs.declared.entity.Known.{Known}
use Rattle.ob_rules.specs.declared.entity.Received.{Received}
use Rattle.ob_rules.specs.Shapes.{Map, AMethod, member, base_record, is_record, record_of, pointed}
use Rattle.ob_rules.specs.Names.{Around, map_of, find_name, is_enclosing, is_out}
use Rattle.ob_rules.specs.Designators.{is_var_record, same_variable}
pub use Rattle.law_typing_forms.specs.Formed.{AreParameters, behind}
use Rattle.law_typing.specs.Makes.{IfThere}
use Rattle.law_typing.specs.Forms.{IsKnown, ResultIs, SignatureIs, Forms}
use Rattle.law_typing.specs.Redefined.{AreOfOneKind}

-- a constant is one of LONGINT or of another basic type, NIL, or a string that is no single character
abbrev pub ConstantIs : Literal → Type 0
ConstantIs (literal.Bool b) = Unit {0}
ConstantIs (literal.Char c) = c < 256
ConstantIs (literal.Int z) = is_in width.LongInt z ≡ true
ConstantIs (literal.Set n) = n < 2 ^ 32
ConstantIs (literal.Str text) = AreCharacters text × (length text ≡ 1 → ⊥)
ConstantIs literal.Nil = Unit {0}

-- what a pointer points to, or the type itself
abbrev pub pointee : TypeRef → Option TypeRef → TypeRef
pointee t None = t
pointee t (Some u) = u

-- a type of the receiver's variable, perhaps guarded: its record is the receiver's or extends it
pub record ReceiverIs (program : Program) (map : Map) (r : Received) (t : TypeRef) : Type 0 where
  pub below : (q : QName) → record_of map (pointee t (pointed map t)) ≡ Some q → Sub (record_in program q) (record_in program r.owner)

module _ (program : Program) (Has : Formals → QName → Type 0) (unit : List ℕ) (held : List Held) (result : Option TypeRef) where
  -- a variable by its name, of that type
  pub record VariableIs (map : Map) (v : Variable) (t : TypeRef) : Type 0 where
    pub fits : typed.VariableOk program Has unit held result v (form_in program t)
    pub declared : IsKnown map t
    pub passed : IsPassed v (form_in program t)
    pub var_record : is_var_record v ≡ true → is_record map t ≡ true

  -- a procedure by its name, of that signature; where it may be a value, it is one of a procedure type of that signature
  pub record ProcedureIs (map : Map) (name : QName) (s : Signature) : Type 0 where
    pub p : Procedure
    pub found : procedure_of program name ≡ Some p
    pub result_is : result_form program p.result ≡ result_form program s.result
    pub parameters : AreParameters program p.parameters s.params
    pub signature : SignatureIs program map s
    pub own : is_value name ≡ true → Has (formals_in program s) name

  -- a bound procedure where it is introduced, with its receiver and then the parameters of its signature
  pub record MethodIs (map : Map) (o : QName) (m : Method) : Type 0 where
    pub name : QName
    pub p : Procedure
    pub type_is : IsRecordType program o
    pub near : nearest program (bases_in program o) (record { owner = o; name = m.name }) ≡ Some name
    pub found : procedure_of program name ≡ Some p
    pub receives : ReceiverOk program m.receiver o p.parameters
    pub result_is : result_form program p.result ≡ result_form program m.signature.result
    pub parameters : AreParameters program (behind p.parameters) m.signature.params
    pub signature : SignatureIs program map m.signature

  -- a bound procedure as it is called from a base on: the nearest declaration, whose receiver is of a record that the base extends
  pub record SuperIs (map : Map) (b o : QName) (m : Method) : Type 0 where
    pub name : QName
    pub p : Procedure
    pub base_is : IsRecordType program b
    pub near : nearest program (bases_in program b) (record { owner = o; name = m.name }) ≡ Some name
    pub found : procedure_of program name ≡ Some p
    pub t : QName
    pub type_is : IsRecordForm (record_in program t)
    pub receives : ReceiverOk program m.receiver t p.parameters
    pub above : Sub (record_in program b) (record_in program t)
    pub result_is : result_form program p.result ≡ result_form program m.signature.result
    pub parameters : AreParameters program (behind p.parameters) m.signature.params
    pub signature : SignatureIs program map m.signature

  -- what is known around is so in the program: in that module, in a procedure with those variables and that result
  pub record IsScoped (u : Around) : Type 0 where
    pub forms : Forms program Has unit held result (map_of u)
    pub variables : (x : List ℕ) (k : Known) (v : Variable) (t : TypeRef) → find_name u.known x ≡ Some k → k.what ≡ entity.Variable v t → is_enclosing u k.scope ≡ false → VariableIs (map_of u) v t
    pub constants : (x : List ℕ) (k : Known) (v : Literal) → find_name u.known x ≡ Some k → k.what ≡ entity.Constant v → ConstantIs v
    pub procedures : (x : List ℕ) (k : Known) (q : QName) (s : Signature) → find_name u.known x ≡ Some k → k.what ≡ entity.Procedure q s → ProcedureIs (map_of u) q s
    pub forwards : (x : List ℕ) (k : Known) (q : QName) (s : Signature) → find_name u.known x ≡ Some k → k.what ≡ entity.Forward q s → ProcedureIs (map_of u) q s
    pub shown_variables : (q : QName) (m : Mark) (t : TypeRef) → is_out q.«module» ≡ false → bytes_eq q.«module» u.unit ≡ false → u.shown q ≡ Some (desc.Var m t) → VariableIs (map_of u) (variable.Module q.«module» q.object) t
    pub shown_constants : (q : QName) (v : Literal) → u.shown q ≡ Some (desc.Const v) → ConstantIs v
    pub shown_procedures : (q : QName) (s : Signature) → is_out q.«module» ≡ false → bytes_eq q.«module» u.unit ≡ false → u.shown q ≡ Some (desc.Proc s) → ProcedureIs (map_of u) q s
    pub types : (x : List ℕ) (k : Known) (t : TypeRef) → find_name u.known x ≡ Some k → k.what ≡ entity.TypeName t → IsKnown (map_of u) t
    pub guards : AllByRecursion (λ (g : Variable × Option TypeRef). IfThere (IsKnown (map_of u)) g.1) u.guards
    pub result_is : u.result ≡ result
    pub result_plain : ResultIs program result
    -- a module does not import itself
    pub imports : (x : List ℕ) (k : Known) (m : List ℕ) → find_name u.known x ≡ Some k → k.what ≡ entity.Module m → bytes_eq m u.unit ≡ false
    pub methods : (q o : QName) (x : List ℕ) (m : Method) → member (map_of u) q x ≡ Some (AMethod o m) → MethodIs (map_of u) o m × Sub (record_in program q) (record_in program o)
    pub names : (q o : QName) (x : List ℕ) (m : Method) → member (map_of u) q x ≡ Some (AMethod o m) → m.name ≡ x
    pub kinds : AreOfOneKind program (map_of u)
    -- the receiver of the procedure at hand, and what a super call reaches: the bound procedure of a base
    pub receivers : (r : Received) (v : Variable) (t : TypeRef) → u.receiver ≡ Some r → same_variable v r.variable ≡ true → VariableIs (map_of u) v t → ReceiverIs program (map_of u) r t
    pub supers : (q b o : QName) (x : List ℕ) (m : Method) → base_record (map_of u) q ≡ Some b → member (map_of u) b x ≡ Some (AMethod o m) → SuperIs (map_of u) b o m × Sub (record_in program q) (record_in program b)
    -- the module is not Out
    pub outside : bytes_eq (codes "Out") u.unit ≡ false
