-- The laws: what the rules look at is what counts.
use Rattle.std.specs.Prelude.{◌≡◌, ℕ, Bool, true, List, [], map, Option, Some}
use Rattle.std.specs.List.{AllByRecursion}
use Rattle.ob_tree.specs.declared.names.QName.{QName}
use Rattle.ob_tree.specs.declared.ident.Mark.{Mark}
use Rattle.ob_tree.specs.declared.ident.Qualident.{Qualident}
use Rattle.ob_tree.specs.declared.expr.Expr.{Expr}
use Rattle.ob_tree.specs.declared.expr.Designator.{Designator}
use Rattle.ob_tree.specs.declared.stmt.Stmt.{Stmt}
use Rattle.ob_tree.specs.declared.type_node.TypeNode.{TypeNode}
use Rattle.ob_types.specs.declared.types.Mode.{Mode}
use Rattle.ob_types.specs.declared.types.TypeRef.{TypeRef}
use Rattle.ob_types.specs.declared.types.Signature.{Signature}
use Rattle.ob_types.specs.declared.typed.TypedModule.{TypedModule}
use Rattle.ob_types.specs.TypedView.{module_view}
use Rattle.ob_uses_roots.specs.Counts.{counts_of_module}
use Rattle.ob_uses_roots.specs.Noted.{names_of, shape_starts}
use Rattle.ob_types.specs.Tests.{target, same_at, extends_at, equal_at}
use Rattle.ob_types.specs.AssigningTests.{alike_to}
use Rattle.ob_types.specs.declared.value.Value.{Value}
use Rattle.ob_types.specs.declared.typed.ExprType.{ExprType}
use Rattle.ob_rules.specs.Shapes.{Map, shape, basic_of, record_of, pointed, pointed_record, array_of, signature_at, is_held, passing_of, member, base_record}
use Rattle.ob_types.specs.declared.desc.Desc.{Desc}
use Rattle.ob_rules.specs.declared.meant.Where.{Where}
use Rattle.ob_rules.specs.declared.notes.Later.{Later}
use Rattle.ob_rules.specs.Names.{Around, map_of, type_named}
use Rattle.ob_rules.specs.Headings.{Head, bindings, forwards_judged}
use Rattle.ob_rules.specs.Values.{takes_by}
use Rattle.ob_rules.specs.Expressions.{phrase_of, named_of, meant_by, constant_value}
use Rattle.ob_rules.specs.Types.{written}
use Rattle.ob_rules.specs.Statements.{judging, in_turn}
use Rattle.ob_rules.specs.Declarations.{Declared, in_order, Written_procedure, headings_in_order, around_body, pointers_judged, field_judged, all_judged}
use Rattle.law_local_judged.specs.Agreement.{IsIn, Agree}
use Rattle.law_local_judged.specs.Declared.{TypingIn, OwnIn, LaterIn, AreSound, IsPlain, DeclaredSame}
use Rattle.law_local_judged.specs.Headed.{FromGrammar, HeadSaid, HeadIn, HeadsSame, BindingsIn}
use Rattle.law_local_judged.specs.Said.{SaidIn, SignatureIn, KindIn, ValuedIn, ValuedTied, MeantIn, MeantTied, StmtIn, ModuleIn}
use Rattle.law_local_judged.specs.Followed.{beside, Agrees, Follows}

-- Two maps are alike for the rules on these names: each test of types that the rules make comes out the same.
pub record Alike (P : QName → Type 0) (f g : Map) : Type 0 where
  pub targets : (t : TypeRef) → IsIn P t → target g 201 t ≡ target f 201 t
  pub shapes : (t : TypeRef) → IsIn P t → shape g t ≡ shape f t
  pub basics : (t : TypeRef) → IsIn P t → basic_of g t ≡ basic_of f t
  pub held : (t : TypeRef) → IsIn P t → is_held g t ≡ is_held f t
  pub pointers : (t : TypeRef) → IsIn P t → pointed g t ≡ pointed f t
  pub arrays : (t : TypeRef) → IsIn P t → array_of g t ≡ array_of f t
  pub signatures : (t : TypeRef) → IsIn P t → signature_at g t ≡ signature_at f t
  pub records : (t : TypeRef) → IsIn P t → record_of g t ≡ record_of f t
  pub pointed_records : (t : TypeRef) → IsIn P t → pointed_record g t ≡ pointed_record f t
  pub passings : (m : Mode) (t : TypeRef) → IsIn P t → passing_of g m t ≡ passing_of f m t
  pub bases : (q : QName) → P q → base_record g q ≡ base_record f q
  pub members : (q : QName) (x : List ℕ) → P q → member g q x ≡ member f q x
  pub sames : (a b : TypeRef) → IsIn P a → IsIn P b → same_at g a b ≡ same_at f a b
  pub extensions : (a b : TypeRef) → IsIn P a → IsIn P b → extends_at g a b ≡ extends_at f a b
  pub equals : (n : ℕ) (a b : TypeRef) → IsIn P a → IsIn P b → equal_at g n a b ≡ equal_at f n a b
  pub matches : (s : Signature) (t : Option Signature) → SignatureIn P s → ((u : Signature) → t ≡ Some u → SignatureIn P u) → alike_to g s t ≡ alike_to f s t
  pub taken : (v : TypeRef) (c : Option Value) (k : ExprType) → IsIn P v → KindIn P k → takes_by g v c k ≡ takes_by f v c k

-- TYPES: two maps that agree on these names are alike for the rules on them.
abbrev pub TypesAgree : Type 0
TypesAgree = (names : QName → Bool) (f g : Map) → Agree (λ q. names q ≡ true) f g → Alike (λ q. names q ≡ true) f g

-- THE NAMES OF TYPES: where what stands around agrees on the names that count, a name that is judged a type is judged the same there.
abbrev pub NamesAgree : Type 0
NamesAgree = (names : QName → Bool) (u : Around) (shown : QName → Option Desc) → Agrees (λ q. names q ≡ true) u shown → (q : Qualident) →
    Follows (λ q. names q ≡ true) (IsIn (λ q. names q ≡ true)) (λ t. Unit {0}) (Unit {0}) (type_named u q) (type_named (beside u shown) q)

-- EXPRESSIONS: one that has a value is judged the same there, node and notes, where all that its value and its notes mention is among these names.
abbrev pub ExpressionsAgree : Type 0
ExpressionsAgree = (names : QName → Bool) (u : Around) (shown : QName → Option Desc) → Agrees (λ q. names q ≡ true) u shown → (e : Expr) →
    Follows (λ q. names q ≡ true) (ValuedTied (λ q. names q ≡ true)) (ValuedIn (λ q. names q ≡ true)) (Unit {0}) ((phrase_of e).value u) ((phrase_of e).value (beside u shown))

-- DESIGNATORS likewise
abbrev pub DesignatorsAgree : Type 0
DesignatorsAgree = (names : QName → Bool) (u : Around) (shown : QName → Option Desc) → Agrees (λ q. names q ≡ true) u shown → (w : Where) (d : Designator) →
    Follows (λ q. names q ≡ true) (MeantTied (λ q. names q ≡ true)) (MeantIn (λ q. names q ≡ true)) (Unit {0}) (meant_by w (named_of d) u) (meant_by w (named_of d) (beside u shown))

-- CONSTANTS: the notes of one mention all that it rests on.
abbrev pub ConstantsAgree : Type 0
ConstantsAgree = (names : QName → Bool) (u : Around) (shown : QName → Option Desc) → Agrees (λ q. names q ≡ true) u shown → (e : Expr) →
    Follows (λ q. names q ≡ true) (λ c. Unit {0}) (λ c. Unit {0}) (Unit {0}) (constant_value u (phrase_of e)) (constant_value (beside u shown) (phrase_of e))

-- STATEMENTS: a sequence of them that has nodes is judged the same there, where all that the nodes and the notes mention is among these names.
abbrev pub StatementsAgree : Type 0
StatementsAgree = (names : QName → Bool) (u : Around) (shown : QName → Option Desc) → Agrees (λ q. names q ≡ true) u shown → (xs : List Stmt) →
    Follows (λ q. names q ≡ true) (λ ys. Unit {0}) (AllByRecursion (StmtIn (λ q. names q ≡ true))) (Unit {0}) (in_turn (map judging xs) u) (in_turn (map judging xs) (beside u shown))

-- TYPES AS THEY ARE WRITTEN: what one makes is judged the same there, where all that its notes mention and the names of the module at hand are among these names.
abbrev pub WrittenAgree : Type 0
WrittenAgree = (names : QName → Bool) (u : Around) (shown : QName → Option Desc) → Agrees (λ q. names q ≡ true) u shown → OwnIn (λ q. names q ≡ true) u.unit → (n : TypeNode) (name : List ℕ) (m : Mark) (open_ok : Bool) →
    Follows (λ q. names q ≡ true) (TypingIn (λ q. names q ≡ true)) (λ t. Unit {0}) (Unit {0}) ((written n).typing u name m open_ok) ((written n).typing (beside u shown) name m open_ok)

-- DECLARATIONS of constants, types and variables in their order: where they break no rule, and all that their notes mention is among
-- these names, they say and add the same there, and what stands around what follows them agrees again.
abbrev pub DeclarationsAgree : Type 0
DeclarationsAgree = (names : QName → Bool) (u : Around) (shown : QName → Option Desc) → Agrees (λ q. names q ≡ true) u shown → OwnIn (λ q. names q ≡ true) u.unit → (fs : List (Around → Declared)) → AllByRecursion IsPlain fs →
    (in_order fs u).part.notes.broken ≡ [] → SaidIn (λ q. names q ≡ true) (in_order fs u).part.notes → AreSound (in_order fs u).around.known →
    DeclaredSame (λ q. names q ≡ true) u shown (in_order fs u) (in_order fs (beside u shown))

-- HEADINGS in their order: where each keeps all rules, and what its notes mention is among these names, they come to the same there.
abbrev pub HeadingsAgree : Type 0
HeadingsAgree = (names : QName → Bool) (u : Around) (shown : QName → Option Desc) → Agrees (λ q. names q ≡ true) u shown → OwnIn (λ q. names q ≡ true) u.unit → (ps : List Written_procedure) → AllByRecursion FromGrammar ps →
    AllByRecursion (HeadSaid (λ q. names q ≡ true)) (headings_in_order ps (record { around = u; before = [] })).before →
    HeadsSame (λ q. names q ≡ true) shown (headings_in_order ps (record { around = u; before = [] })) (headings_in_order ps (record { around = beside u shown; before = [] }))

-- WHAT COUNTS: where the names of the types whose shapes count for a module's uses are among these names, all that it mentions is.
abbrev pub CountedIsSaid : Type 0
CountedIsSaid = (names : QName → Bool) (map : QName → Option Desc) (m : TypedModule) → AllByRecursion (λ q. names q ≡ true) (names_of (shape_starts (counts_of_module map (module_view m)))) → ModuleIn (λ q. names q ≡ true) m

-- BOUND PROCEDURES are bound to the records of the module the same there, where what the headings come to, and what they redefine, is among these names.
abbrev pub BindingsAgree : Type 0
BindingsAgree = (names : QName → Bool) (u : Around) (shown : QName → Option Desc) → Agrees (λ q. names q ≡ true) u shown → (hs : List Head) → AllByRecursion (HeadIn (λ q. names q ≡ true)) hs → BindingsIn (λ q. names q ≡ true) u hs → bindings (beside u shown) hs ≡ bindings u hs

-- FORWARD DECLARATIONS are judged the same there.
abbrev pub ForwardsAgree : Type 0
ForwardsAgree = (names : QName → Bool) (u : Around) (shown : QName → Option Desc) → Agrees (λ q. names q ≡ true) u shown → (hs : List Head) → AllByRecursion (HeadIn (λ q. names q ≡ true)) hs → forwards_judged (map_of (beside u shown)) hs hs ≡ forwards_judged (map_of u) hs hs

-- WHAT IS LEFT FOR LATER, pointers and fields of records with bases, is judged the same there.
abbrev pub LaterAgrees : Type 0
LaterAgrees = (names : QName → Bool) (u : Around) (shown : QName → Option Desc) → Agrees (λ q. names q ≡ true) u shown → (ls : List Later) → AllByRecursion (LaterIn (λ q. names q ≡ true)) ls →
    (pointers_judged (beside u shown) ls ≡ pointers_judged u ls) × (all_judged (field_judged (map_of (beside u shown))) ls ≡ all_judged (field_judged (map_of u)) ls)

-- THE BODY OF A PROCEDURE: what stands around it agrees where what stands around the procedure does, and what its heading comes to is among these names.
abbrev pub BodiesAgree : Type 0
BodiesAgree = (names : QName → Bool) (u : Around) (shown : QName → Option Desc) → Agrees (λ q. names q ≡ true) u shown → (h : Head) → HeadIn (λ q. names q ≡ true) h →
    Agrees (λ q. names q ≡ true) (around_body u h) shown × (around_body (beside u shown) h ≡ beside (around_body u h) shown)
