-- What the rules have seen to of a module that is laid out, so that its object file has a spelling.
use Rattle.std.specs.Prelude.{◌≡◌, ℕ, ◌+◌, ◌<◌, ◌≤◌, List, [], ◌∷◌, Option, Some, None, true, false}
use Rattle.std.specs.List.{AllByRecursion}
use Rattle.ob_tree.specs.declared.names.QName.{QName}
use Rattle.ob_types.specs.declared.types.TypeRef.{TypeRef}
use Rattle.ob_types.specs.declared.desc.Desc.{Desc}
use Rattle.ob_types.specs.declared.desc.Desc.TheVariants as desc
use Rattle.ob_types.specs.declared.typed.TypedType.{TypedType}
use Rattle.ob_types.specs.TypedSyntax.{Module}
use Rattle.ob_layout.specs.Words.{words_of}
use Rattle.ob_scheme.specs.Context.{is_own, type_index}
use Rattle.ob_scheme.specs.Procedures.{body_of, within}
use Rattle.ob_scheme.specs.Object.{own, base_type, definitions}
use Rattle.law_spelling.specs.Coded.{BodyIsCoded, StmtsAreCoded, RecordIsCoded}

module _ (types : QName → Option Desc) (m : Module) where
  -- a base of the module stands before the record type with that number; one of another module has its names
  abbrev pub BaseFits : ℕ → Option QName → Type 0
  BaseFits n None = Unit {0}
  BaseFits n (Some q) = (is_own (own types m) q.«module» ≡ true → type_index (own types m) q.object < n) × RecordIsCoded (own types m) q

  abbrev pub DescBaseFits : ℕ → Desc → Type 0
  DescBaseFits n (desc.Record r) = BaseFits n (base_type types m r.base)
  DescBaseFits n d = Unit {0}

  abbrev pub number_behind : ℕ → Desc → ℕ
  number_behind n (desc.Record r) = n + 1
  number_behind n d = n

  -- the record types among these, from that number on
  abbrev pub BasesFit : ℕ → List TypedType → Type 0
  BasesFit n [] = Unit {0}
  BasesFit n (t ∷ ts) = DescBaseFits n t.desc × BasesFit (number_behind n t.desc) ts

  -- the procedures bound to a record have numbers below its number of bound procedures
  abbrev pub NumbersFit : TypedType → Desc → Type 0
  NumbersFit t (desc.Record r) = AllByRecursion (λ d. d.number < r.procedures) (definitions types m t.name)
  NumbersFit t d = Unit {0}

  pub record IsCodedTree : Type 0 where
    pub words : (t : TypeRef) → words_of types t ≤ 1048576
    pub bodies : AllByRecursion (BodyIsCoded types m) m.procedures
    pub body : StmtsAreCoded (within types m (body_of m)) false m.body
    pub bases : BasesFit 0 m.types
    pub numbers : AllByRecursion (λ t. NumbersFit t t.desc) m.types
