-- What is left to ask of what stands around a part of a text, where the map of types is formed and steady.
use Rattle.std.specs.Prelude.{◌≡◌, ℕ, List, Option, Some, true, false, bytes_eq, codes}
use Rattle.std.specs.List.{AllByRecursion}
use Rattle.ob_tree.specs.declared.names.QName.{QName}
use Rattle.ob_types.specs.declared.types.TypeRef.{TypeRef}
use Rattle.ob_types.specs.declared.types.Signature.{Signature}
use Rattle.ob_types.specs.declared.value.Value.{Value as Literal}
use Rattle.ob_types.specs.declared.desc.Desc.TheVariants as desc
use Rattle.ob_types.specs.declared.typed.Variable.{Variable}
use Rattle.ob_types.specs.AssigningTests.{is_value}
use Rattle.ob_meaning.specs.Values.{Program, Formals, formals_in, Held}
use Rattle.ob_rules.specs.declared.entity.Entity.TheVariants as entity
use Rattle.ob_rules.specs.declared.entity.Known.{Known}
use Rattle.ob_rules.specs.declared.entity.Received.{Received}
use Rattle.ob_rules.specs.Names.{Around, map_of, find_name, is_enclosing}
use Rattle.ob_rules.specs.Designators.{same_variable}
use Rattle.law_typing_forms.specs.Formed.{Formed, IsProcedureOf}
use Rattle.law_typing_forms.specs.Steady.{IsSteady}
use Rattle.law_typing.specs.Makes.{IfThere}
use Rattle.law_typing.specs.Forms.{IsKnown, ResultIs, SignatureIs}
use Rattle.law_typing.specs.Known.{ConstantIs, VariableIs, ProcedureIs, ReceiverIs}
use Rattle.law_typing.specs.Redefined.{AreRedefined, AreOfOneKind}

-- What is known around is so in the program: the map of types by `Formed`, and the names that are declared one by one.
pub record IsSurrounded (program : Program) (Has : Formals → QName → Type 0) (unit : List ℕ) (held : List Held) (result : Option TypeRef) (u : Around) : Type 0 where
  pub formed : Formed (map_of u) program
  pub steady : IsSteady (map_of u)
  -- declared names
  pub variables : (x : List ℕ) (k : Known) (v : Variable) (t : TypeRef) → find_name u.known x ≡ Some k → k.what ≡ entity.Variable v t → is_enclosing u k.scope ≡ false → VariableIs program Has unit held result (map_of u) v t
  pub constants : (x : List ℕ) (k : Known) (v : Literal) → find_name u.known x ≡ Some k → k.what ≡ entity.Constant v → ConstantIs v
  pub procedures : (x : List ℕ) (k : Known) (q : QName) (s : Signature) → find_name u.known x ≡ Some k → k.what ≡ entity.Procedure q s → ProcedureIs program Has unit held result (map_of u) q s
  pub forwards : (x : List ℕ) (k : Known) (q : QName) (s : Signature) → find_name u.known x ≡ Some k → k.what ≡ entity.Forward q s → ProcedureIs program Has unit held result (map_of u) q s
  pub types : (x : List ℕ) (k : Known) (t : TypeRef) → find_name u.known x ≡ Some k → k.what ≡ entity.TypeName t → IsKnown (map_of u) t
  pub imports : (x : List ℕ) (k : Known) (m : List ℕ) → find_name u.known x ≡ Some k → k.what ≡ entity.Module m → bytes_eq m u.unit ≡ false
  pub guards : AllByRecursion (λ (g : Variable × Option TypeRef). IfThere (IsKnown (map_of u)) g.1) u.guards
  -- constants of other modules
  pub shown_constants : (q : QName) (v : Literal) → u.shown q ≡ Some (desc.Const v) → ConstantIs v
  -- the procedures that may be values of a procedure type: those of its signature
  pub values : (q : QName) (s : Signature) → IsProcedureOf program q s → SignatureIs program (map_of u) s → is_value q ≡ true → Has (formals_in program s) q
  -- the procedure at hand
  pub result_is : u.result ≡ result
  pub result_plain : ResultIs program result
  pub receivers : (r : Received) (v : Variable) (t : TypeRef) → u.receiver ≡ Some r → same_variable v r.variable ≡ true → VariableIs program Has unit held result (map_of u) v t → ReceiverIs program (map_of u) r t
  -- bound procedures
  pub redefined : AreRedefined program
  pub kinds : AreOfOneKind program (map_of u)
  -- the module is not Out
  pub outside : bytes_eq (codes "Out") u.unit ≡ false
