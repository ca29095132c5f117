-- Statements in a row, and what stands around them.
use Rattle.std.proofs.Common.{◌≡◌, refl, sym, ap, ◌∙◌, subst, ℕ, List, [], ◌∷◌, ◌++◌, Option, Some, None, Bool, true, false}
use Rattle.std.specs.List.{AllByRecursion}
use Rattle.std.specs.Prelude.{bytes_eq}
use Rattle.ob_tree.specs.declared.names.QName.{QName}
use Rattle.ob_types.specs.declared.types.TypeRef.{TypeRef}
use Rattle.ob_types.specs.declared.typed.Variable.{Variable}
use Rattle.ob_types.specs.declared.typed.Variable.TheVariants as variable
use Rattle.ob_types.specs.declared.typed.TypedStmt.{TypedStmt}
use Rattle.ob_types.specs.TypedView.{stmt_view, stmts_view}
use Rattle.ob_meaning.specs.Values.{Program, Formals, Held}
use Rattle.law_simulation_relation.specs.Typed as typed
use Rattle.ob_rules.specs.Judged.{sound, both}
use Rattle.ob_rules.specs.Names.{Around, map_of, type_desc, out_string}
use Rattle.ob_rules.specs.Shapes.{same_name, member, base_record}
use Rattle.ob_rules.specs.Statements.{Judging, in_turn, in_turn_if, one}
use Rattle.law_typing.specs.Makes.{IfThere, Makes}
use Rattle.law_typing.specs.Forms.{IsKnown, Forms}
use Rattle.law_typing.specs.Redefined.{AreOfOneKind}
use Rattle.law_typing.specs.Known.{VariableIs, ProcedureIs, MethodIs, ReceiverIs, SuperIs, IsScoped}
use Rattle.law_typing.specs.Bodies.{AreStatements, AreJudging}
use Rattle.law_typing.proofs.Makes.{makes_then, makes_made, makes_both}
use Rattle.law_lists.proofs.Lists.{all_both}

-- THE SAME TYPES AROUND

-- what stands around, with other guards, inside a LOOP or not
abbrev pub with_others : Around → List (Variable × Option TypeRef) → Bool → Around
with_others u gs l = record u { guards = gs; in_loop = l }

same_desc : (u : Around) (gs : List (Variable × Option TypeRef)) (l a b : Bool) (q : QName) → type_desc a b (with_others u gs l) q ≡ type_desc a b u q
same_desc u gs l true b q = refl
same_desc u gs l false true q = refl
same_desc u gs l false false q = refl

pub same_map : (u : Around) (gs : List (Variable × Option TypeRef)) (l : Bool) → map_of (with_others u gs l) ≡ map_of u
same_map u gs l = λ i q. same_desc u gs l (bytes_eq q.«module» u.unit) (same_name q out_string) q i

module _ (program : Program) (Has : Formals → QName → Type 0) (unit : List ℕ) (held : List Held) (result : Option TypeRef) where
  pub scoped_with : (u : Around) (gs : List (Variable × Option TypeRef)) (l : Bool) → IsScoped program Has unit held result u → AllByRecursion (λ (g : Variable × Option TypeRef). IfThere (IsKnown (map_of u)) g.1) gs → IsScoped program Has unit held result (with_others u gs l)
  scoped_with u gs l s h =
      let m = sym (same_map u gs l) in
      record {
        forms = subst (λ z. Forms program Has unit held result z) m s.forms;
        variables = λ x k v t e f g. subst (λ z. VariableIs program Has unit held result z v t) m (s.variables x k v t e f g);
        constants = s.constants;
        procedures = λ x k q t e f. subst (λ z. ProcedureIs program Has unit held result z q t) m (s.procedures x k q t e f);
        forwards = λ x k q t e f. subst (λ z. ProcedureIs program Has unit held result z q t) m (s.forwards x k q t e f);
        shown_variables = λ q k t x y e. subst (λ z. VariableIs program Has unit held result z (variable.Module q.«module» q.object) t) m (s.shown_variables q k t x y e);
        shown_constants = s.shown_constants;
        shown_procedures = λ q t x y e. subst (λ z. ProcedureIs program Has unit held result z q t) m (s.shown_procedures q t x y e);
        types = λ x k t e f. subst (λ z. IsKnown z t) m (s.types x k t e f);
        guards = subst (λ z. AllByRecursion (λ (g : Variable × Option TypeRef). IfThere (IsKnown z) g.1) gs) m h;
        result_is = s.result_is;
        result_plain = s.result_plain;
        imports = s.imports;
        methods = λ q o x k e. let r = s.methods q o x k (ap (λ z. member z q x) m ∙ e) in (subst (λ z. MethodIs program Has unit held result z o k) m r.0, r.1);
        receivers = λ r v t e f h. subst (λ z. ReceiverIs program z r t) m (s.receivers r v t e f (subst (λ z. VariableIs program Has unit held result z v t) (same_map u gs l) h));
        names = λ q o x k e. s.names q o x k (ap (λ z. member z q x) m ∙ e);
        kinds = subst (AreOfOneKind program) m s.kinds;
        supers = λ q b o x k f g. let c = s.supers q b o x k (ap (λ z. base_record z q) m ∙ f) (ap (λ z. member z b x) m ∙ g) in (subst (λ z. SuperIs program Has unit held result z b o k) m c.0, c.1);
        outside = s.outside;
      }

  -- STATEMENTS IN A ROW

  abbrev Ss : Bool → List TypedStmt → Type 0
  Ss l xs = AreStatements program Has unit held result l xs

  pub one_is : (l : Bool) (s : TypedStmt) → typed.StmtOk program Has unit held result (stmt_view s) l → Makes (Ss l) (one s)
  one_is l s h = record { node = (h, tt) }

  pub stmts_ok : (l : Bool) (xs : List TypedStmt) → Ss l xs → typed.StmtsOk program Has unit held result (stmts_view xs) l
  stmts_ok l [] h = tt
  stmts_ok l (x ∷ xs) h = (h.0, stmts_ok l xs h.1)

  pub in_turn_is : (u : Around) → IsScoped program Has unit held result u → (fs : List Judging) → AreJudging program Has unit held result fs → Makes (Ss u.in_loop) (in_turn fs u)
  in_turn_is u s [] h = record { node = tt }
  in_turn_is u s (f ∷ fs) h =
      makes_then (λ p. Ss u.in_loop p.0 × Ss u.in_loop p.1) (Ss u.in_loop) (both (f u) (in_turn fs u)) (λ p. sound (p.0 ++ p.1)) (makes_both (Ss u.in_loop) (Ss u.in_loop) (f u) (in_turn fs u) (h.0 u s) (in_turn_is u s fs h.1))
      (λ p k. record { node = all_both (λ x. typed.StmtOk program Has unit held result (stmt_view x) u.in_loop) p.0 p.1 k.0 k.1 })

  -- behind ELSE
  pub otherwise_is : (u : Around) → IsScoped program Has unit held result u → (o : Option (List Judging)) → IfThere (AreJudging program Has unit held result) o → Makes (IfThere (Ss u.in_loop)) (in_turn_if o u)
  otherwise_is u s None h = record { node = tt }
  otherwise_is u s (Some fs) h = makes_made (Ss u.in_loop) (IfThere (Ss u.in_loop)) (in_turn fs u) (λ x. Some x) (in_turn_is u s fs h) (λ x k. k)
