-- The bodies of judged modules name variables that are there.
use Rattle.std.proofs.Common.{◌≡◌, ⊎_elim, inl, inr, refl, sym, ap, ◌∙◌, subst, ℕ, ◌≤◌, List, [], ◌∷◌, map, Option, Some, None, Bool, true, false, arith}
use Rattle.std.specs.Prelude.{◌&&◌, bytes_eq, nat_lt}
use Rattle.std.specs.List.{AllByRecursion}
use Rattle.std.proofs.lemmas.Bool.Decides.{nat_tests}
use Rattle.ob_tree.specs.declared.names.QName.{QName}
use Rattle.ob_types.specs.declared.types.TypeRef.{TypeRef}
use Rattle.ob_types.specs.declared.value.Value.{Value}
use Rattle.ob_types.specs.declared.desc.Desc.{Desc}
use Rattle.ob_types.specs.declared.typed.Variable.{Variable}
use Rattle.ob_types.specs.declared.typed.TypedVariable.{TypedVariable}
use Rattle.ob_types.specs.declared.typed.TypedParameter.{TypedParameter}
use Rattle.ob_types.specs.declared.typed.TypedProcedure.{TypedProcedure}
use Rattle.ob_types.specs.declared.typed.TypedModule.{TypedModule}
use Rattle.ob_types.specs.declared.typed.TypedStmt.{TypedStmt}
use Rattle.ob_types.specs.TypedSyntax.{Module}
use Rattle.ob_types.specs.TypedView.{stmts_view, procedure_view, module_view}
use Rattle.ob_scheme.specs.Context.{Context}
use Rattle.ob_scheme.specs.Procedures.{body_of, within}
use Rattle.ob_layout.specs.LaidOut.{laid_out}
use Rattle.law_simulation_relation.specs.Relation.{OrElse}
use Rattle.law_simulation_relation.proofs.Names.{bytes_same}
use Rattle.ob_rules.specs.declared.entity.Known.{Known}
use Rattle.ob_rules.specs.Names.{Around, find_name, is_enclosing}
use Rattle.ob_rules.specs.Statements.{judging, in_turn}
use Rattle.ob_rules.specs.Declarations.{Contents, stmts_in}
use Rattle.law_image_code.specs.Fits.{IsThere, AmongLocals, AmongParameters}
use Rattle.law_image_code.specs.There.{StmtsThere}
use Rattle.law_typing_forms.specs.Said.{IsOneOf}
use Rattle.law_typing.specs.Makes.{IfThere as Where}
use Rattle.law_body_context.specs.Judged.{IsGlobal, IsLocal, IsParameter, IsInside, StandsIn, VariableStands, NameIs, StandsAround, IsJudged, ProcedureIsJudged, BodiesAreJudged}
use Rattle.law_body_context.proofs.Lists.{find_has, all_of}
use Rattle.law_program_context.specs.Judged.{IsJudgedModule}
use Rattle.law_program_scope.specs.Scoped.{BodyIsScoped, BodiesAreScoped}
use Rattle.law_program_scope.specs.Laws.{ModulesAreScoped, ProgramsAreScoped}
use Rattle.law_program_scope.proofs.Setting.{Stands}
use Rattle.law_program_scope.proofs.Statements.{AreOk, stmts_named, turn_keeps}
use Rattle.law_program_scope.proofs.Bodies.{stmts_ok}
use Rattle.law_lists.proofs.Lists.{IfThere}

-- ---- names in lists

or_later : {A : Type 0} (b : Bool) → A → OrElse b (Unit {0}) A
or_later true h = tt
or_later false h = h

found : (A : Type 0) (b : Bool) → b ≡ true → OrElse b (Unit {0}) A
found A true e = tt
found A false e = absurd cc

among_locals : (xs : List TypedVariable) (x : TypedVariable) → IsOneOf xs x → AmongLocals xs x.name
among_locals [] x i = absurd i
among_locals (y ∷ xs) x (inl e) = found (AmongLocals xs x.name) (bytes_eq x.name y.name) (ap (λ (z : TypedVariable). bytes_eq x.name z.name) e ∙ bytes_same x.name)
among_locals (y ∷ xs) x (inr i) = or_later (bytes_eq x.name y.name) (among_locals xs x i)

among_parameters : (xs : List TypedParameter) (x : TypedParameter) → IsOneOf xs x → AmongParameters xs x.name
among_parameters [] x i = absurd i
among_parameters (y ∷ xs) x (inl e) = found (AmongParameters xs x.name) (bytes_eq x.name y.name) (ap (λ (z : TypedParameter). bytes_eq x.name z.name) e ∙ bytes_same x.name)
among_parameters (y ∷ xs) x (inr i) = or_later (bytes_eq x.name y.name) (among_parameters xs x i)

local_there : (c : Context) (v : Variable) (t : TypeRef) → IsLocal c.locals v t → IsThere c v
local_there c v t h = subst (IsThere c) (sym h.1.1.0) (among_locals c.locals h.0 h.1.0)

parameter_there : (c : Context) (v : Variable) (t : TypeRef) → IsParameter c.parameters v t → IsThere c v
parameter_there c v t h = subst (IsThere c) (sym h.1.1.0) (among_parameters c.parameters h.0 h.1.0)

global_there : (c : Context) (unit : List ℕ) (xs : List TypedVariable) (v : Variable) (t : TypeRef) → IsGlobal unit xs v t → IsThere c v
global_there c unit xs v t h = subst (IsThere c) (sym h.1.1.0) tt

-- what is found by a name holds what all hold
at_name : (P : Known → Type 0) (ks : List Known) (x : List ℕ) (k : Known) → AllByRecursion P ks → find_name ks x ≡ Some k → P k
at_name P ks x k h e = subst (Where P) e (find_has P (λ k. bytes_eq k.name x) ks h)

second_false : (a b : Bool) → a ≡ true → (a && b) ≡ false → b ≡ false
second_false true b e f = f
second_false false b e f = absurd cc

no_scope : (k n : ℕ) → k ≤ n → n ≡ 1 → nat_lt 1 k ≡ true → ⊥
no_scope k n h e f = grind (arith, nat_tests)

module _ (IsConstant : Value → Type 0) (shown : QName → Option Desc) (m : TypedModule) (content : Contents) where
  -- ---- around a body

  module _ (c : Context) (p : Option TypedProcedure) (u : Around) (around : StandsAround IsConstant shown m content p u) (inside : (scope : ℕ) (v : Variable) (t : TypeRef) → scope ≤ u.scope → nat_lt 1 scope ≡ true → IsInside (StandsIn IsConstant shown m content u.own) p v t → IsThere c v) where
    variable_there : (k : Known) (v : Variable) (t : TypeRef) → k.scope ≤ u.scope → VariableStands IsConstant shown m content u.own p u.level k.scope v t → is_enclosing u k.scope ≡ false → IsThere c v
    variable_there k v t b h e = by (nat_lt 1 k.scope) refl
      where
        by : (i : Bool) → nat_lt 1 k.scope ≡ i → IsThere c v
        by false f = global_there c m.name m.variables v t (h.outside f).0
        by true f = inside k.scope v t b f (h.inside f (second_false (nat_lt 1 k.scope) (nat_lt k.scope u.level) f e))

    all_stands : Stands c u
    all_stands = record {
      known = λ x k v t e f g.
          variable_there k v t (at_name (λ (k : Known). k.scope ≤ u.scope) u.known x k around.below e)
          (subst (NameIs IsConstant shown m content u.own p u.level k.scope) f (at_name (λ (k : Known). NameIs IsConstant shown m content u.own p u.level k.scope k.what) u.known x k around.names e)) g;
    }

  -- ---- a body

  by_node : (c : Context) (o : Option (List TypedStmt)) → IfThere (AreOk c) o → StmtsThere c (stmts_view (stmts_in o))
  by_node c None h = tt
  by_node c (Some ys) h = stmts_named c ys h

  body_there : (c : Context) (p : Option TypedProcedure) (body : List TypedStmt) (j : IsJudged IsConstant shown m content p body) → Stands c j.u → StmtsThere c (stmts_view body)
  body_there c p body j s = subst (λ (b : List TypedStmt). StmtsThere c (stmts_view b)) (sym j.is) (by_node c (in_turn (map judging j.xs) j.u).node (turn_keeps c j.u s (map judging j.xs) (stmts_ok c j.xs)))

  module _ (types : QName → Option Desc) (md : Module) where
    procedure_scoped : (p : TypedProcedure) → ProcedureIsJudged IsConstant shown m content p → BodyIsScoped types md (procedure_view p)
    procedure_scoped p h =
        let c = within types md (procedure_view p) in
        body_there c (Some p) p.body h.body (all_stands c (Some p) h.body.u h.body.stands (λ scope v t b e g. ⊎_elim (λ l. local_there c v t l) (λ l. parameter_there c v t l) g.0))

    procedures_scoped : (ps : List TypedProcedure) → AllByRecursion (ProcedureIsJudged IsConstant shown m content) ps → AllByRecursion (BodyIsScoped types md) (map procedure_view ps)
    procedures_scoped [] h = tt
    procedures_scoped (p ∷ ps) h = (procedure_scoped p h.0, procedures_scoped ps h.1)

    -- nothing of a procedure is known there
    module_scoped : (j : IsJudged IsConstant shown m content None m.body) → j.u.scope ≡ 1 → StmtsThere (within types md (body_of md)) (stmts_view m.body)
    module_scoped j one =
        let c = within types md (body_of md) in
        body_there c None m.body j (all_stands c None j.u j.stands (λ scope v t b e g. absurd (no_scope scope j.u.scope b one e)))

-- ---- modules and programs

pub bodies_scoped : (IsConstant : Value → Type 0) (shown : QName → Option Desc) (m : TypedModule) → BodiesAreJudged IsConstant shown m → (laid types : QName → Option Desc) → BodiesAreScoped types (laid_out laid (module_view m))
bodies_scoped IsConstant shown m h laid types = record {
  procedures = procedures_scoped IsConstant shown m h.content types (laid_out laid (module_view m)) m.procedures h.procedures;
  body = module_scoped IsConstant shown m h.content types (laid_out laid (module_view m)) h.body h.scope;
}

pub modules_are_scoped : ModulesAreScoped
modules_are_scoped shown m h laid types = bodies_scoped _ shown m h laid types

pub programs_are_scoped : ProgramsAreScoped
programs_are_scoped program judged = all_of (IsJudgedModule program) (λ m. (types : QName → Option Desc) → BodiesAreScoped types m) program (λ m j types. subst (BodiesAreScoped types) (sym j.is) (bodies_scoped _ _ j.checked j.bodies j.types types)) judged
