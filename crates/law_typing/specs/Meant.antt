-- What designators come to where the rules are kept.
use Rattle.std.specs.Prelude.{◌≡◌, ℕ, List, [], ◌∷◌, Option, Some, None, Bool, true, false, is_some}
use Rattle.ob_tree.specs.declared.names.QName.{QName}
use Rattle.ob_types.specs.declared.types.TypeRef.{TypeRef}
use Rattle.ob_types.specs.TypedView.{designator_view, expr_view, stmt_view}
use Rattle.ob_meaning.specs.Values.{Program, record_in, Formals, Held}
use Rattle.law_simulation_relation.specs.Relation.{Sub}
use Rattle.law_simulation_relation.specs.Passed.{IsUnguarded}
use Rattle.law_simulation_relation.specs.Typed as typed
use Rattle.ob_types.specs.declared.desc.Method.{Method}
use Rattle.ob_rules.specs.declared.entity.Received.{Received}
use Rattle.ob_rules.specs.declared.values.Place.{Place}
use Rattle.ob_rules.specs.Designators.{same_variable}
use Rattle.ob_rules.specs.declared.meant.Chosen.{Chosen}
use Rattle.ob_rules.specs.declared.meant.Meant.{Meant}
use Rattle.ob_rules.specs.declared.meant.Meant.TheVariants as means
use Rattle.ob_rules.specs.declared.meant.Where.{Where}
use Rattle.ob_rules.specs.declared.meant.Where.TheVariants.{InExpression, AsStatement, Elsewhere}
use Rattle.ob_rules.specs.declared.values.Valued.{Valued}
use Rattle.ob_rules.specs.Judged.{Judged}
use Rattle.ob_types.specs.declared.desc.Receiver.TheVariants as receiving
use Rattle.ob_rules.specs.Shapes.{Map, AMethod, member, pointed, is_held, record_of}
use Rattle.ob_rules.specs.Names.{Around, map_of}
use Rattle.ob_rules.specs.Values.{tree}
use Rattle.ob_rules.specs.Phrases.{Phrase, Behind, Dot, Index, Up, Round}
use Rattle.ob_rules.specs.Expressions.{Named, Ranged, Tailed}
use Rattle.law_typing.specs.Makes.{IfThere, Makes}
use Rattle.law_typing.specs.Known.{pointee, ReceiverIs, ConstantIs, ProcedureIs, SuperIs, IsScoped}
use Rattle.law_typing.specs.Kept.{PlaceIs, ValuedIs}

-- a place that is not noted as guarded is no guarded pointer
abbrev pub GuardIs : Place → Type 0
GuardIs p = p.guarded ≡ false → IsUnguarded (designator_view p.designator.inner)

module _ (program : Program) (Has : Formals → QName → Type 0) (unit : List ℕ) (held : List Held) (result : Option TypeRef) where
  -- a call: a value in an expression, a proper call as a statement
  abbrev pub CalledIs : Map → Where → Valued → Type 0
  CalledIs map InExpression x = ValuedIs program Has unit held result map x
  CalledIs map AsStatement x = typed.ProperOk program Has unit held result (expr_view (tree x))
  CalledIs map Elsewhere x = Unit {0}

  -- where a variable is the receiver's, with no selector but guards of WITH
  abbrev pub RootIs : Map → Option Received → Place → Type 0
  RootIs map o p = (r : Received) → o ≡ Some r → same_variable p.root r.variable ≡ true → p.selected ≡ false → ReceiverIs program map r p.of

  -- what a call of a bound procedure reaches: by the record that it is selected of, or from a base on
  abbrev pub CallsAt : Map → Chosen → Option QName → Type 0
  CallsAt map c None = (x : List ℕ) × (member map c.owner x ≡ Some (AMethod c.introduced c.method))
  CallsAt map c (Some b) = SuperIs program Has unit held result map b c.introduced c.method × Sub (record_in program c.owner) (record_in program b)

  -- the record has a bound procedure of that name, with a receiver of that kind
  pub record IsNamed (map : Map) (c : Chosen) : Type 0 where
    pub introduced : QName
    pub method : Method
    pub there : member map c.owner c.method.name ≡ Some (AMethod introduced method)
    pub kind : method.receiver ≡ c.method.receiver

  -- a bound procedure that is selected of a variable: of its record, or of what it points to
  pub record ChosenIs (map : Map) (o : Option Received) (c : Chosen) : Type 0 where
    pub receiver : PlaceIs program Has unit held result map c.receiver
    pub rooted : RootIs map o c.receiver
    pub pointed_is : pointed map c.receiver.of ≡ c.pointed
    pub held_is : (t : TypeRef) → c.pointed ≡ Some t → is_held map t ≡ true
    pub owner_is : record_of map (pointee c.receiver.of c.pointed) ≡ Some c.owner
    pub by_pointer : c.method.receiver ≡ receiving.Pointer → is_some c.pointed ≡ true
    pub named : IsNamed map c
    pub calls : CallsAt map c c.base

  abbrev pub MeantIs : Map → Option Received → Where → Meant → Type 0
  MeantIs map o w (means.Place p) = PlaceIs program Has unit held result map p × RootIs map o p × GuardIs p
  MeantIs map o w (means.Constant v) = ConstantIs v
  MeantIs map o w (means.Procedure name s) = ProcedureIs program Has unit held result map name s
  MeantIs map o w (means.Bound c) = ChosenIs map o c
  MeantIs map o w (means.Out p) = Unit {0}
  MeantIs map o w (means.Predeclared f) = Unit {0}
  MeantIs map o w (means.Call x) = CalledIs map w x
  MeantIs map o w (means.Statement s) = (in_loop : Bool) → typed.StmtOk program Has unit held result (stmt_view s.inner) in_loop

  -- an expression before it is judged: its value and what it comes to as a designator are well typed wherever it stands
  abbrev pub MeantBy : Option (Around → Judged Meant) → Around → Type 0
  MeantBy None u = Unit {0}
  MeantBy (Some f) u = Makes (MeantIs (map_of u) u.receiver InExpression) (f u)

  pub record PhraseIs (p : Phrase) : Type 0 where
    pub value : (u : Around) → IsScoped program Has unit held result u → Makes (ValuedIs program Has unit held result (map_of u)) (p.value u)
    pub meant : (u : Around) → IsScoped program Has unit held result u → MeantBy p.meant u

  abbrev pub ArePhrases : List Phrase → Type 0
  ArePhrases [] = Unit {0}
  ArePhrases (p ∷ ps) = PhraseIs p × ArePhrases ps

  abbrev pub BehindIs : Behind → Type 0
  BehindIs (Dot at x) = Unit {0}
  BehindIs (Index at i) = PhraseIs i
  BehindIs (Up at) = Unit {0}
  BehindIs (Round at ps) = ArePhrases ps

  abbrev pub AreBehind : List Behind → Type 0
  AreBehind [] = Unit {0}
  AreBehind (b ∷ bs) = BehindIs b × AreBehind bs

  abbrev pub NamedIs : Named → Type 0
  NamedIs n = AreBehind n.behind

  pub record RangedIs (r : Ranged) : Type 0 where
    pub low : PhraseIs r.low
    pub high : IfThere PhraseIs r.high

  abbrev pub AreRanged : List Ranged → Type 0
  AreRanged [] = Unit {0}
  AreRanged (r ∷ rs) = RangedIs r × AreRanged rs

  abbrev pub AreTailed : List Tailed → Type 0
  AreTailed [] = Unit {0}
  AreTailed (t ∷ ts) = PhraseIs t.operand × AreTailed ts
