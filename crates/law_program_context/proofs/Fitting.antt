-- A body that is judged where what is known is so in the program is well typed.
use Rattle.std.proofs.Common.{◌≡◌, refl, sym, ap, ◌∙◌, subst, List, map, Option, Some, None, Bool, false}
use Rattle.ob_tree.specs.declared.names.QName.{QName}
use Rattle.ob_types.specs.declared.desc.Desc.{Desc}
use Rattle.ob_types.specs.declared.typed.TypedStmt.{TypedStmt}
use Rattle.ob_types.specs.declared.typed.TypedProcedure.{TypedProcedure}
use Rattle.ob_types.specs.declared.typed.TypedModule.{TypedModule}
use Rattle.ob_types.specs.TypedSyntax.{Procedure, Stmts}
use Rattle.ob_types.specs.TypedView.{stmts_view}
use Rattle.ob_meaning.specs.Values.{Formals, Program}
use Rattle.law_simulation_relation.specs.Layout.{static_held}
use Rattle.law_simulation_relation.specs.Relation.{AreDifferent}
use Rattle.law_simulation_relation.specs.Typed.{StmtsOk}
use Rattle.ob_rules.specs.Statements.{judging, in_turn}
use Rattle.ob_rules.specs.Declarations.{Contents, stmts_in}
use Rattle.law_typing.specs.Known.{ConstantIs}
use Rattle.law_typing.specs.Laws.{Having}
use Rattle.law_typing.specs.Surrounded.{IsSurrounded}
use Rattle.law_typing.proofs.Whole.{statements_fit, surroundings_fit}
use Rattle.law_body_context.specs.Judged.{IsJudged}
use Rattle.law_body_context.proofs.Held.{hidden_stand}
use Rattle.law_program_context.specs.Laws.{BodiesFit}

module _ (program : Program) (has : Formals → QName → Bool) (shown : QName → Option Desc) (checked : TypedModule) (content : Contents) (f : Option TypedProcedure) (body : List TypedStmt) (j : IsJudged ConstantIs shown checked content f body) (p : Procedure) (b : p.body ≡ stmts_view body) (different : AreDifferent (static_held program p)) (s : IsSurrounded program (Having has) checked.name (static_held program p) p.result j.u) where
  abbrev Ok : Stmts → Bool → Type 0
  Ok x l = StmtsOk program (Having has) checked.name (static_held program p) p.result x l

  some_fit : (ys : List TypedStmt) → (in_turn (map judging j.xs) j.u).node ≡ Some ys → body ≡ ys → Ok (stmts_view ys) false
  some_fit ys e k =
      subst (λ l. Ok (stmts_view ys) l) j.stands.in_loop
      (statements_fit program has checked.name (static_held program p) p.result j.u (surroundings_fit program has checked.name (static_held program p) p.result j.u s) j.xs j.spelled
      (hidden_stand program has checked.name p.result j.u j.xs ys e p (b ∙ ap stmts_view k) different) ys e)

  by_node : (o : Option (List TypedStmt)) → (in_turn (map judging j.xs) j.u).node ≡ o → Ok (stmts_view body) false
  by_node None e = subst (λ x. Ok (stmts_view x) false) (sym (j.is ∙ ap stmts_in e)) tt
  by_node (Some ys) e = let k : body ≡ ys = j.is ∙ ap stmts_in e in subst (λ x. Ok (stmts_view x) false) (sym k) (some_fit ys e k)

pub bodies_fit : BodiesFit
bodies_fit program has shown checked content f body j p b different s = subst (λ x. Ok program has shown checked content f body j p b different s x false) (sym b) (by_node program has shown checked content f body j p b different s (in_turn (map judging j.xs) j.u).node refl)
