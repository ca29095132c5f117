-- Procedures keep by one map the limits that they keep by another that says the same of them.
use Rattle.std.proofs.Common.{◌≡◌, ◌+◌, ◌≤◌, true, List, [], ◌∷◌, map, Option, refl, sym, ap, subst, ◌∙◌, arith}
use Rattle.std.specs.Prelude.{nat_le}
use Rattle.std.specs.List.{AllByRecursion}
use Rattle.std.proofs.lemmas.Bool.{and_parts, leb-true}
use Rattle.ob_tree.specs.declared.names.QName.{QName}
use Rattle.ob_types.specs.declared.types.TypeRef.{TypeRef}
use Rattle.ob_types.specs.declared.desc.Desc.{Desc}
use Rattle.ob_types.specs.declared.typed.Passing.{Passing}
use Rattle.ob_types.specs.declared.typed.Passing.TheVariants as passing
use Rattle.ob_types.specs.declared.typed.TypedParameter.{TypedParameter}
use Rattle.ob_types.specs.TypedSyntax.{Procedure, Module}
use Rattle.ob_instr.specs.Parts.{slots_of, slots as slots_in}
use Rattle.ob_layout.specs.Lists.{sum_of}
use Rattle.ob_layout.specs.Words.{words_of}
use Rattle.ob_layout.specs.Room.{slots, hidden_of_all, frame_words}
use Rattle.ob_scheme.specs.Context.{local_words}
use Rattle.ob_scheme.specs.Needs.{need_stmts, most_operands, have_few_operands, has_few_operands}
use Rattle.ob_scheme.specs.Procedures.{body_of, within, all_local_words, param_for}
use Rattle.ob_gproc_operands.proofs.Anywhere.{stmts_need}
use Rattle.law_spelling.proofs.Stmts.{stmts_next}
use Rattle.law_image_links.specs.Same.{IsSameSize, ProcedureSame, ModuleSame}
use Rattle.law_image_links.proofs.SameCode.{sum_same}
use Rattle.law_builds_bodies.specs.limits_laws.Limits.{KeepsLimits, AllKeepLimits}

module _ (types : QName → Option Desc) (md : Module) where
  param_slots : (p : Procedure) (how : Passing) (t : TypeRef) → slots_of (param_for types md (within types md p) how t) ≡ slots how
  param_slots p passing.Scalar t = refl
  param_slots p passing.Structure t = refl
  param_slots p passing.OpenArray t = refl
  param_slots p passing.Variable t = refl
  param_slots p passing.VariableRecord t = refl
  param_slots p passing.VariableOpenArray t = refl

  params_slots : (p : Procedure) (xs : List TypedParameter) → slots_in (map (λ x. param_for types md (within types md p) x.passing x.of) xs) ≡ sum_of (λ x. slots x.passing) xs
  params_slots p [] = refl
  params_slots p (x ∷ xs) = let a = param_slots p x.passing x.of in let b = params_slots p xs in omega (arith, a, b)

  -- an activation has the words that the layout counts
  pub frame_is : (p : Procedure) → slots_in (map (λ x. param_for types md (within types md p) x.passing x.of) p.parameters) + all_local_words types md p ≡ frame_words (words_of types) p
  frame_is p = let a = params_slots p p.parameters in let n = stmts_next (within types md p) p.body (local_words (within types md p)) in omega (arith, a, n)

module _ (a b : QName → Option Desc) where
  frame_same : (p : Procedure) → AllByRecursion (λ v. IsSameSize a b v.of) p.locals → frame_words (words_of a) p ≡ frame_words (words_of b) p
  frame_same p h = ap (λ n. sum_of (λ x. slots x.passing) p.parameters + (n + hidden_of_all p.body)) (sum_same (λ v. words_of a v.of) (λ v. words_of b v.of) p.locals h)

  module _ (md : Module) where
    small_by : (p : Procedure) → AllByRecursion (λ v. IsSameSize a b v.of) p.locals → frame_words (words_of a) p ≤ 1048576 → slots_in (map (λ x. param_for b md (within b md p) x.passing x.of) p.parameters) + all_local_words b md p ≤ 1048576
    small_by p h l = subst (λ n. n ≤ 1048576) (frame_same p h ∙ sym (frame_is b md p)) l

    few_by : (p : Procedure) → nat_le (need_stmts (within a md p) p.body) most_operands ≡ true → need_stmts (within b md p) p.body ≤ 256
    few_by p e = subst (λ n. n ≤ 256) (stmts_need (within a md p) (within b md p) p.body) (leb-true (need_stmts (within a md p) p.body) 256 e)

    one_keeps : (p : Procedure) → AllByRecursion (λ v. IsSameSize a b v.of) p.locals → frame_words (words_of a) p ≤ 1048576 → nat_le (need_stmts (within a md p) p.body) most_operands ≡ true → KeepsLimits b md p
    one_keeps p h l e = record { small = small_by p h l; few = few_by p e }

    all_keep : (ps : List Procedure) → AllByRecursion (ProcedureSame a b) ps → AllByRecursion (λ p. frame_words (words_of a) p ≤ 1048576) ps → have_few_operands a md ps ≡ true → AllByRecursion (KeepsLimits b md) ps
    all_keep [] h l e = tt
    all_keep (p ∷ ps) h l e =
        let few = and_parts (nat_le (need_stmts (within a md p) p.body) most_operands) (have_few_operands a md ps) e in
        (one_keeps p h.0.locals l.0 few.0, all_keep ps h.1 l.1 few.1)

    -- the procedures and the body of a module
    pub module_keeps : ModuleSame a b md → AllByRecursion (λ p. frame_words (words_of a) p ≤ 1048576) md.procedures → hidden_of_all md.body ≤ 1048576 → has_few_operands a md ≡ true → AllKeepLimits b md
    module_keeps h frames hidden e =
        let few = and_parts (nat_le (need_stmts (within a md (body_of md)) md.body) most_operands) (have_few_operands a md md.procedures) e in
        record { procedures = all_keep md.procedures h.procedures frames few.1; body = one_keeps (body_of md) tt (omega (arith, hidden)) few.0 }
