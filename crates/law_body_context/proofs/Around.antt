-- A property of what stands around bodies, which is handed on from what stands around a sequence of declarations.
use Rattle.std.proofs.Common.{◌≡◌, true, List, [], ◌∷◌, Option}
use Rattle.std.specs.List.{AllByRecursion, filter_map}
use Rattle.ob_tree.specs.declared.names.QName.{QName}
use Rattle.ob_types.specs.declared.value.Value.{Value}
use Rattle.ob_types.specs.declared.desc.Desc.{Desc}
use Rattle.ob_types.specs.declared.typed.TypedType.{TypedType}
use Rattle.ob_types.specs.declared.typed.TypedProcedure.{TypedProcedure}
use Rattle.ob_types.specs.declared.typed.TypedModule.{TypedModule}
use Rattle.ob_rules.specs.Names.{Around}
use Rattle.ob_rules.specs.Types.{is_module_level}
use Rattle.ob_rules.specs.Headings.{Head, Heads, reversed}
use Rattle.ob_rules.specs.Statements.{Judging}
use Rattle.ob_rules.specs.Declarations.{Contents, Written_procedure, Declaration, plain_of, procedure_of, type_name_of, in_order, headings_in_order, binding_at, with_bound, around_body, block}
use Rattle.law_typing_forms.specs.Said.{IsOneOf}
use Rattle.law_body_context.specs.Judged.{IsMade, ProcedureIsJudged, BodiesAreJudged}
use Rattle.law_body_context.specs.Around.{IsAroundEach, IsAround}
use Rattle.law_body_context.proofs.Standing.{Lies}

-- behind headings that begin there
abbrev pub behind : Around → List Written_procedure → Heads
behind base ps = headings_in_order ps (record { around = base; before = [] })

-- what stands around the procedures of these headings, and around the statements
abbrev pub around_inner : (outer base : Around) → List Written_procedure → Around
around_inner outer base ps = with_bound (behind base ps).around (binding_at (is_module_level outer) (behind base ps).around (reversed (behind base ps).before))

module _ (Also : Around → Type 0) where
  -- it holds there, and around what is inside each procedure
  abbrev pub HoldsInside : Around → List Head → Type 0
  HoldsInside w hs = Also w × AllByRecursion (λ h. Also (around_body w h)) hs

  abbrev pub HoldsBehind : (outer base : Around) → List Written_procedure → Type 0
  HoldsBehind outer base ps = HoldsInside (around_inner outer base ps) (reversed (behind base ps).before)

  -- Where it holds around declarations that break no rule, and what they make is the module's, it holds inside.
  abbrev pub HandsOn : Contents → List Declaration → List Judging → Type 0
  HandsOn content ds body =
      (u : Around) → Also u → (block ds body u).notes.broken ≡ [] → Lies (block ds body u).contents.types content.types → (is_module_level u ≡ true → (t : TypedType) → IsOneOf (block ds body u).contents.bound t → IsMade content t)
      → HoldsBehind u (in_order (filter_map plain_of ds) (record u { later_types = filter_map type_name_of ds })).around (filter_map procedure_of ds)

  module _ (IsConstant : Value → Type 0) (shown : QName → Option Desc) (m : TypedModule) (content : Contents) where
    -- a procedure whose body is judged where it holds
    abbrev pub IsJudgedAlso : TypedProcedure → Type 0
    IsJudgedAlso p = (h : ProcedureIsJudged IsConstant shown m content p) × Also h.body.u

    pub both_of : (ps : List TypedProcedure) → AllByRecursion IsJudgedAlso ps → (h : AllByRecursion (ProcedureIsJudged IsConstant shown m content) ps) × IsAroundEach Also IsConstant shown m content ps h
    both_of [] h = (tt, tt)
    both_of (p ∷ ps) h = let r = both_of ps h.1 in ((h.0.0, r.0), (h.0.1, r.1))

module _ (P Q : Around → Type 0) (more : (u : Around) → P u → Q u) (IsConstant : Value → Type 0) (shown : QName → Option Desc) (m : TypedModule) where
  each_more : (content : Contents) (ps : List TypedProcedure) (h : AllByRecursion (ProcedureIsJudged IsConstant shown m content) ps) → IsAroundEach P IsConstant shown m content ps h → IsAroundEach Q IsConstant shown m content ps h
  each_more content [] h k = tt
  each_more content (p ∷ ps) h k = (more h.0.body.u k.0, each_more content ps h.1 k.1)

  -- what follows from it holds too
  pub around_more : (j : BodiesAreJudged IsConstant shown m) → IsAround P IsConstant shown m j → IsAround Q IsConstant shown m j
  around_more j h = record { procedures = each_more j.content m.procedures j.procedures h.procedures; body = more j.body.u h.body }

all_hold : {A : Type 0} (xs : List A) → AllByRecursion (λ (x : A). Unit {0}) xs
all_hold [] = tt
all_hold (x ∷ xs) = (tt, all_hold xs)

-- nothing is handed on of what says nothing
pub nothing_handed : (content : Contents) (ds : List Declaration) (body : List Judging) → HandsOn (λ u. Unit {0}) content ds body
nothing_handed content ds body u a n l b = (tt, all_hold (reversed (behind (in_order (filter_map plain_of ds) (record u { later_types = filter_map type_name_of ds })).around (filter_map procedure_of ds)).before))
