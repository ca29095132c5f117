-- The code of assignments, NEW and labels stands as the law of simulation asks.
use Rattle.std.proofs.Common.{◌≡◌, ℕ, suc, ◌+◌, ◌<◌, List, [], ◌∷◌, ◌++◌, ℤ, refl, sym, ap, ◌∙◌, subst, arith, Some, None, inl}
use Rattle.std.proofs.lemmas.Bool.Decides.{nat_tests}
use Rattle.std.specs.Prelude.{pos, negsuc, zero, length, nat_lt, Bool, true, false, if◌then◌else◌}
use Rattle.ob_tree.specs.declared.pos.Pos.{Pos}
use Rattle.ob_tree.specs.declared.names.QName.{QName}
use Rattle.ob_types.specs.declared.types.TypeRef.TheVariants as ref
use Rattle.ob_types.specs.declared.value.Value.TheVariants as literal
use Rattle.ob_types.specs.declared.typed.Passing.TheVariants as passing
use Rattle.ob_types.specs.declared.typed.Variable.TheVariants as variable
use Rattle.ob_types.specs.declared.typed.Guarded.TheVariants as guarded
use Rattle.ob_types.specs.declared.typed.Assigned.{Assigned}
use Rattle.ob_types.specs.declared.typed.Assigned.TheVariants as assigned
use Rattle.ob_types.specs.declared.typed.Made.{Made}
use Rattle.ob_types.specs.declared.typed.Made.TheVariants as made
use Rattle.ob_types.specs.declared.typed.Label.{Label}
use Rattle.ob_types.specs.TypedSyntax.{Desig, OfVariable, Field, Index, Deref, Guard, Expr, Constant}
use Rattle.ob_types.specs.TypedKinds.{variable_type}
use Rattle.ob_instr.specs.declared.opcode.Opcode.TheVariants as op
use Rattle.ob_meaning.specs.Values.{record_in, words as words_in}
use Rattle.ob_meaning.specs.Meaning.{hidden}
use Rattle.ob_scheme.specs.Lines.{Line, count, plain, bare, jump}
use Rattle.ob_scheme.specs.Context.{Context, words}
use Rattle.ob_scheme.specs.declared.want.Want.TheVariants as want
use Rattle.ob_scheme.specs.Expressions as scheme
use Rattle.ob_scheme.specs.Statements as scheme_of
use Rattle.ob_scheme.specs.Statements.{target_want, source_want, record_want, has_tag, copy_record, assign_line, text_words, new_line, within, end_label, labels_code}
use Rattle.law_simulation_relation.specs.Layout.{slot}
use Rattle.law_simulation_relation.specs.Relation.{OrElse}
use Rattle.law_simulation_relation.specs.Ends.{end_place, end_tagged, end_expr, end_address, end_assigned}
use Rattle.law_simulation_relation.specs.Stands as code
use Rattle.law_simulation_relation.specs.Stands.{Scope, Has, HasAt, HasCopyRec, PlaceCode, TaggedCode, AddressCode, AssignedCode, MadeCode, LabelsCode, with_a, instr, form_of, dt, et}
use Rattle.law_image_code.specs.Standing.{LineStands, Behind}
use Rattle.law_image_code.specs.Fits.{IsKnown, IsNoPointer, StepFits, DesigFits, ExprFits, AssignedFits, MadeFits}
use Rattle.law_image_code.specs.Agrees.{Agrees}
use Rattle.law_image_code.specs.Wanted.{desig_end}
use Rattle.law_image_code.proofs.Ends.{desig_ends, target_end}
use Rattle.law_image_code.proofs.Lines.{apart, apart_two, next, moved, inside, has_line, has_at, has_type_at, next_type, type_found, type_past}
use Rattle.law_image_code.proofs.Expressions.{D, E, value_texts, place_texts, on_expr, desig_stands, expr_stands}

differ_same : (sc : Scope) (d : Desig) → IsNoPointer d → has_tag d ≡ code.may_differ sc d
differ_same sc (OfVariable (variable.Module m x) t) h = refl
differ_same sc (OfVariable (variable.Local x) t) h = refl
differ_same sc (OfVariable (variable.Parameter passing.Scalar x) t) h = refl
differ_same sc (OfVariable (variable.Parameter passing.Structure x) t) h = refl
differ_same sc (OfVariable (variable.Parameter passing.OpenArray x) t) h = refl
differ_same sc (OfVariable (variable.Parameter passing.Variable x) t) h = refl
differ_same sc (OfVariable (variable.Parameter passing.VariableRecord x) t) h = refl
differ_same sc (OfVariable (variable.Parameter passing.VariableOpenArray x) t) h = refl
differ_same sc (Field d o x t) h = refl
differ_same sc (Index d n i at t) h = refl
differ_same sc (Deref d at t) h = refl
differ_same sc (Guard d guarded.Record q at t) h = refl
differ_same sc (Guard d guarded.Pointer q at t) h = absurd h

text_same : (sc : Scope) (e : Expr) → text_words e ≡ code.text_words_of sc e
text_same sc (Constant (literal.Bool b)) = refl
text_same sc (Constant (literal.Char b)) = refl
text_same sc (Constant (literal.Int b)) = refl
text_same sc (Constant (literal.Set b)) = refl
text_same sc (Constant (literal.Str b)) = refl
text_same sc (Constant literal.Nil) = refl
text_same sc e = refl

pub within_same : (sc : Scope) (c : Context) (step : ℤ) → StepFits step → within c step ≡ code.for_code sc step
within_same sc c (pos zero) h = absurd h
within_same sc c (pos (suc n)) h = let e : nat_lt 0 (suc n) ≡ true = grind (arith, nat_tests) in ap (λ b. if b then op.Le else op.Ge) (sym e)
within_same sc c (negsuc n) h = refl

module _ (sc : Scope) (c : Context) (ag : Agrees sc c) where
  -- one record copied over another, with a test of its tag or without
  record_stands : (b : Bool) (q : QName) (d : Desig) (e : Expr) (p : Pos) (pc at : ℕ) (rest : List Line) → form_of sc d ≡ record_in sc.program q → IsKnown c q → DesigFits sc.program c (record_want b) d → ExprFits sc.program c want.Place e → Behind sc ((D sc c ag (record_want b) d pc ++ (E sc c ag want.Place e (scheme.end_desig c (record_want b) d pc) ++ copy_record c b q p ∷ [])) ++ rest) pc at → OrElse b (TaggedCode sc d pc at × (AddressCode sc e (end_tagged sc.program d pc) (at + dt sc d) × HasCopyRec sc (end_address sc.program e (end_tagged sc.program d pc)) (words_in (form_of sc d)) q p)) (PlaceCode sc d pc at × (AddressCode sc e (end_place sc.program d pc) (at + dt sc d) × Has sc (end_address sc.program e (end_place sc.program d pc)) (with_a op.Copy (words_in (form_of sc d))))) × Behind sc rest (suc (end_address sc.program e (desig_end sc.program (record_want b) d pc))) (at + dt sc d + et sc e)
  record_stands true q d e p pc at rest same known f g h =
      let k = scheme.end_desig c want.PlaceAndTag d pc in
      let p1 = end_tagged sc.program d pc in
      let p2 = end_address sc.program e p1 in
      let r = desig_stands sc c ag want.PlaceAndTag d pc at (E sc c ag want.Place e k ++ (copy_record c true q p ∷ rest)) f (apart_two sc (D sc c ag want.PlaceAndTag d pc) (E sc c ag want.Place e k) _ rest pc at h) in
      let s = expr_stands sc c ag want.Place e p1 (at + dt sc d) (copy_record c true q p ∷ rest) g (on_expr sc c ag want.Place e k p1 _ _ _ (desig_ends c sc.program ag.described want.PlaceAndTag d pc f) refl r.1) in
      let l = s.1.lines.0 in
      let t = type_found sc c ag q _ l.b known (l.second (inl tt)) in
      let n : words c (ref.Named q) ≡ words_in (form_of sc d) = ag.described.sizes (ref.Named q) ∙ ap words_in (sym same) in
      let i : Some (instr op.CopyRec l.a l.b) ≡ Some (instr op.CopyRec (pos (words_in (form_of sc d))) (pos t.0)) = ap (λ x. Some (instr op.CopyRec x l.b)) ((l.first (inl tt)) ∙ ap pos n) ∙ ap (λ x. Some (instr op.CopyRec (pos (words_in (form_of sc d))) x)) t.1 in
      ((r.0, (s.0, record { number = t.0; has = record { has = record { is = l.is ∙ i }; place = l.place }; is = t.2 })), moved sc _ _ refl (type_past sc c ag q _ ∙ ap (λ m. at + dt sc d + m) (place_texts sc c ag e)) (next sc s.1))
  record_stands false q d e p pc at rest same known f g h =
      let k = scheme.end_desig c want.Place d pc in
      let p1 = end_place sc.program d pc in
      let p2 = end_address sc.program e p1 in
      let r = desig_stands sc c ag want.Place d pc at (E sc c ag want.Place e k ++ (copy_record c false q p ∷ rest)) f (apart_two sc (D sc c ag want.Place d pc) (E sc c ag want.Place e k) _ rest pc at h) in
      let s = expr_stands sc c ag want.Place e p1 (at + dt sc d) (copy_record c false q p ∷ rest) g (on_expr sc c ag want.Place e k p1 _ _ _ (desig_ends c sc.program ag.described want.Place d pc f) refl r.1) in
      let n : words c (ref.Named q) ≡ words_in (form_of sc d) = ag.described.sizes (ref.Named q) ∙ ap words_in (sym same) in
      ((r.0, (s.0, subst (λ m. Has sc p2 (with_a op.Copy m)) n (has_line sc op.Copy (pos (words c (ref.Named q))) (pos 0) None p2 _ s.1.lines.0))), moved sc _ _ refl (ap (λ m. at + dt sc d + m) (place_texts sc c ag e)) (next sc s.1))

  -- the front of an assignment of a text or an array
  place_and_source : (d : Desig) (e : Expr) (l : Line) (pc at : ℕ) (rest : List Line) → DesigFits sc.program c want.Place d → ExprFits sc.program c want.Place e → Behind sc ((D sc c ag want.Place d pc ++ (E sc c ag want.Place e (scheme.end_desig c want.Place d pc) ++ l ∷ [])) ++ rest) pc at → PlaceCode sc d pc at × (AddressCode sc e (end_place sc.program d pc) (at + dt sc d) × Behind sc (l ∷ rest) (end_address sc.program e (end_place sc.program d pc)) (at + dt sc d + et sc e))
  place_and_source d e l pc at rest f g h =
      let k = scheme.end_desig c want.Place d pc in
      let p1 = end_place sc.program d pc in
      let r = desig_stands sc c ag want.Place d pc at (E sc c ag want.Place e k ++ (l ∷ rest)) f (apart_two sc (D sc c ag want.Place d pc) (E sc c ag want.Place e k) _ rest pc at h) in
      let s = expr_stands sc c ag want.Place e p1 (at + dt sc d) (l ∷ rest) g (on_expr sc c ag want.Place e k p1 _ _ _ (desig_ends c sc.program ag.described want.Place d pc f) refl r.1) in
      (r.0, (s.0, moved sc _ _ refl (ap (λ m. at + dt sc d + m) (place_texts sc c ag e)) s.1))

  -- and of a value
  pub place_and_value : (d : Desig) (e : Expr) (l : Line) (pc at : ℕ) (rest : List Line) → DesigFits sc.program c want.Place d → ExprFits sc.program c want.Value e → Behind sc ((D sc c ag want.Place d pc ++ (E sc c ag want.Value e (scheme.end_desig c want.Place d pc) ++ l ∷ [])) ++ rest) pc at → PlaceCode sc d pc at × (code.ExprCode sc e (end_place sc.program d pc) (at + dt sc d) × Behind sc (l ∷ rest) (end_expr sc.program e (end_place sc.program d pc)) (at + dt sc d + et sc e))
  place_and_value d e l pc at rest f g h =
      let k = scheme.end_desig c want.Place d pc in
      let p1 = end_place sc.program d pc in
      let r = desig_stands sc c ag want.Place d pc at (E sc c ag want.Value e k ++ (l ∷ rest)) f (apart_two sc (D sc c ag want.Place d pc) (E sc c ag want.Value e k) _ rest pc at h) in
      let s = expr_stands sc c ag want.Value e p1 (at + dt sc d) (l ∷ rest) g (on_expr sc c ag want.Value e k p1 _ _ _ (desig_ends c sc.program ag.described want.Place d pc f) refl r.1) in
      (r.0, (s.0, moved sc _ _ refl (ap (λ m. at + dt sc d + m) (value_texts sc c ag e)) s.1))

  pub assigned_stands : (how : Assigned) (d : Desig) (e : Expr) (p : Pos) (pc at : ℕ) (rest : List Line) → DesigFits sc.program c (target_want how d) d → ExprFits sc.program c (source_want how) e → AssignedFits sc.program c how d → Behind sc ((D sc c ag (target_want how d) d pc ++ (E sc c ag (source_want how) e (scheme.end_desig c (target_want how d) d pc) ++ assign_line c how d e p ∷ [])) ++ rest) pc at → AssignedCode sc how d e p pc at × Behind sc rest (end_assigned sc.program how d e pc) (at + dt sc d + et sc e)
  assigned_stands assigned.Scalar d e p pc at rest f g a h =
      let r = place_and_value d e (bare op.Store) pc at rest f g h in
      ((r.0, (r.1.0, has_line sc op.Store (pos 0) (pos 0) None _ _ r.1.1.lines.0)), next sc r.1.1)
  assigned_stands assigned.Text d e p pc at rest f g a h =
      let r = place_and_source d e (plain op.Copy (count (text_words e))) pc at rest f g h in
      let p2 = end_address sc.program e (end_place sc.program d pc) in
      ((r.0, (r.1.0, subst (λ n. Has sc p2 (with_a op.Copy n)) (text_same sc e) (has_line sc op.Copy (pos (text_words e)) (pos 0) None p2 _ r.1.1.lines.0))), next sc r.1.1)
  assigned_stands assigned.Array d e p pc at rest f g a h =
      let r = place_and_source d e (plain op.Copy (count (words c (variable_type d)))) pc at rest f g h in
      let p2 = end_address sc.program e (end_place sc.program d pc) in
      ((r.0, (r.1.0, subst (λ n. Has sc p2 (with_a op.Copy n)) (ag.described.sizes (variable_type d)) (has_line sc op.Copy (pos (words c (variable_type d))) (pos 0) None p2 _ r.1.1.lines.0))), next sc r.1.1)
  assigned_stands (assigned.Record q) d e p pc at rest f g a h =
      let r = record_stands (has_tag d) q d e p pc at rest a.1.0 a.1.1 f g h in
      (subst (λ b. OrElse b (TaggedCode sc d pc at × (AddressCode sc e (end_tagged sc.program d pc) (at + dt sc d) × HasCopyRec sc (end_address sc.program e (end_tagged sc.program d pc)) (words_in (form_of sc d)) q p)) (PlaceCode sc d pc at × (AddressCode sc e (end_place sc.program d pc) (at + dt sc d) × Has sc (end_address sc.program e (end_place sc.program d pc)) (with_a op.Copy (words_in (form_of sc d)))))) (differ_same sc d a.0) r.0, moved sc _ _ (ap (λ n. suc (end_address sc.program e n)) (target_end c sc.program ag.described d pc a.0)) refl r.1)

  pub made_stands : (what : Made) (p : Pos) (pc at : ℕ) (rest : List Line) → MadeFits sc.program c what → Behind sc (new_line c what p ∷ rest) pc at → MadeCode sc what pc p × Behind sc rest (suc pc) at
  made_stands (made.Record q) p pc at rest f h = (has_type_at sc c ag op.NewR q p pc at f h.lines.0, next_type sc c ag q h)
  made_stands (made.Array t) p pc at rest f h = (subst (λ n. HasAt sc pc (with_a op.NewA n) p) (ag.described.sizes t) (has_at sc op.NewA (pos (words c t)) (pos 0) p pc at h.lines.0), next sc h)

  -- LABELS

  pub labels_past : (k : ℕ) (ls : List Label) (pc body at : ℕ) (rest : List Line) → Behind sc (labels_code c k ls pc body ++ rest) pc at → Behind sc rest (scheme_of.end_labels c ls pc) at
  labels_past k [] pc body at rest h = h
  labels_past k (l ∷ ls) pc body at rest h =
      let n = apart sc (scheme_of.label_code c k l pc body) (labels_code c k ls (end_label c pc) body) rest pc at h in
      labels_past k ls (end_label c pc) body at rest (next sc (next sc (next sc (next sc (next sc (next sc (next sc (next sc (next sc (next sc (next sc n)))))))))))

  local_at : (k : ℕ) (p : Pos) (pc at : ℕ) → slot sc.held (hidden p) ≡ k → LineStands sc (plain op.Local (count k)) pc at → Has sc pc (with_a op.Local (code.hidden_slot sc p))
  local_at k p pc at e h = subst (λ n. Has sc pc (with_a op.Local n)) (sym e) (has_line sc op.Local (pos k) (pos 0) None pc at h)

  pub labels_stand : (k : ℕ) (p : Pos) (ls : List Label) (pc body past_it at : ℕ) (rest : List Line) → slot sc.held (hidden p) ≡ k → body < length sc.u.code → past_it < length sc.u.code → Behind sc (labels_code c k ls pc body ++ (jump past_it ∷ rest)) pc at → LabelsCode sc ls p pc body past_it
  labels_stand k p [] pc body past_it at rest e ib ip h = (has_line sc op.Jump (pos past_it) (pos 0) None pc at h.lines.0, ip)
  labels_stand k p (l ∷ ls) pc body past_it at rest e ib ip h =
      let n = apart sc (scheme_of.label_code c k l pc body) (labels_code c k ls (end_label c pc) body) (jump past_it ∷ rest) pc at h in
      let a = end_label c pc in
      let x = n.lines in
      let more = next sc (next sc (next sc (next sc (next sc (next sc (next sc (next sc (next sc (next sc (next sc n)))))))))) in (
        (
          local_at k p _ at e x.0,
          (has_line sc op.Load (pos 0) (pos 0) None _ at x.1.0, (has_line sc op.Int l.low (pos 0) None _ at x.1.1.0, (has_line sc op.Ge (pos 0) (pos 0) None _ at x.1.1.1.0, has_line sc op.JumpF (pos a) (pos 0) None _ at x.1.1.1.1.0))),
        ),
        (
          (
            local_at k p _ at e x.1.1.1.1.1.0,
            (
              has_line sc op.Load (pos 0) (pos 0) None _ at x.1.1.1.1.1.1.0,
              (
                has_line sc op.Int l.high (pos 0) None _ at x.1.1.1.1.1.1.1.0,
                (has_line sc op.Le (pos 0) (pos 0) None _ at x.1.1.1.1.1.1.1.1.0, (has_line sc op.JumpF (pos a) (pos 0) None _ at x.1.1.1.1.1.1.1.1.1.0, has_line sc op.Jump (pos body) (pos 0) None _ at x.1.1.1.1.1.1.1.1.1.1.0)),
              ),
            ),
          ),
          (inside sc _ a at more, (ib, labels_stand k p ls a body past_it at rest e ib ip more)),
        ),
      )
