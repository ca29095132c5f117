-- What the rules owe of the record types of a program, and of their declarations in a module.
use Rattle.std.specs.Prelude.{◌≡◌, ◌<◌, ℕ, suc, List, [], ◌∷◌, Option, Some, None, true}
use Rattle.ob_tree.specs.declared.names.QName.{QName}
use Rattle.ob_types.specs.declared.desc.Desc.{Desc}
use Rattle.ob_types.specs.declared.desc.Desc.TheVariants as desc
use Rattle.ob_types.specs.declared.typed.TypedType.{TypedType}
use Rattle.ob_types.specs.TypedSyntax.{Module}
use Rattle.ob_meaning.specs.Values.{Program, RecordForm, Fields, joined, fields_of, record_in, bases_in}
use Rattle.ob_scheme.specs.Context.{is_own, type_index}
use Rattle.ob_scheme.specs.Object.{own, base_type}
use Rattle.law_simulation_relation.specs.Relation.{head}

-- the types that a type extends, without itself
abbrev pub above : List QName → List QName
above [] = []
above (q ∷ line) = line

-- the record type that a record type extends
abbrev pub base_of : Program → QName → Option QName
base_of program q = head (above (bases_in program q))

-- A record type has the bases and the fields of the one that it extends, which is a record type, and its own fields behind them.
abbrev pub BasesBuilt : Program → Type 0
BasesBuilt program = (q b : QName) (line : List QName) → record_in program q ≡ RecordForm (q ∷ b ∷ line) (fields_of (record_in program q)) →
    (record_in program b ≡ RecordForm (b ∷ line) (fields_of (record_in program b))) × ((gs : Fields) × (fields_of (record_in program q) ≡ joined (fields_of (record_in program b)) gs))

abbrev pub typed : List ℕ → List ℕ → QName
typed m x = record { «module» = m; object = x }

module _ (program : Program) (types : QName → Option Desc) (md : Module) where
  -- a base of the same module is declared before
  abbrev pub IsBefore : ℕ → Option QName → Type 0
  IsBefore i None = Unit {0}
  IsBefore i (Some b) = is_own (own types md) b.module ≡ true → type_index (own types md) b.object < i

  -- the description of a record type has the base of the type, and it is the i-th of its module
  abbrev pub HasItsBase : List ℕ → Desc → ℕ → Type 0
  HasItsBase x (desc.Record r) i = (base_type types md r.base ≡ base_of program (typed md.name x)) × IsBefore i (base_of program (typed md.name x))
  HasItsBase x d i = Unit {0}

  abbrev pub past : Desc → ℕ → ℕ
  past (desc.Record r) i = suc i
  past d i = i

  abbrev pub BasesDeclared : List TypedType → ℕ → Type 0
  BasesDeclared [] i = Unit {0}
  BasesDeclared (t ∷ ts) i = HasItsBase t.name t.desc i × BasesDeclared ts (past t.desc i)
