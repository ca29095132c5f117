-- A row, one part further.
use Rattle.std.proofs.Common.{◌≡◌, refl, sym, ap, ◌∙◌, subst, List, [], ◌∷◌, ◌++◌, Option, Some, None}
use Rattle.std.proofs.lemmas.List.{append-nil, append_assoc}
use Rattle.ob_types.specs.declared.typed.TypedExpr.{TypedExpr}
use Rattle.ob_types.specs.declared.typed.TypedStmt.{TypedStmt}
use Rattle.ob_types.specs.declared.typed.TypedBranch.{TypedBranch, roll-TypedBranch}
use Rattle.ob_types.specs.declared.typed.TypedCase.{TypedCase, roll-TypedCase}
use Rattle.ob_types.specs.declared.typed.Label.{Label}
use Rattle.ob_rules.specs.declared.notes.Notebook.{Notebook}
use Rattle.ob_rules.specs.Judged.{Judged, sound, both, paired, if_sound, ◌▷◌}
use Rattle.ob_rules.specs.Names.{Around}
use Rattle.ob_rules.specs.Books.{book_after}
use Rattle.ob_rules.specs.Statements.{Judging, in_turn, branch_of as judged_branch, case_of as judged_case}
use Rattle.ob_rules.proofs.RowLaws.{both_noted}
use Rattle.ob_cstmt_parts.specs.Seen.{rejoined, singly, branch_of, case_of}

pub ends : {A : Type 0} (a : Option (List A)) → rejoined a (Some []) ≡ a
ends None = refl
ends (Some xs) = ap Some (append-nil xs)

pub begins : {A : Type 0} (o : Option (List A)) → o ≡ rejoined (Some []) o
begins None = refl
begins (Some xs) = refl

rows_join : {A : Type 0} (a j r : Option (List A)) → rejoined a (if_sound (paired j r) (λ p. sound (p.0 ++ p.1))).node ≡ rejoined (rejoined a j) r
rows_join None j r = refl
rows_join (Some xs) None r = refl
rows_join (Some xs) (Some ys) None = refl
rows_join (Some xs) (Some ys) (Some zs) = ap Some (sym (append_assoc xs ys zs))

parts_join : {A : Type 0} (a : Option (List A)) (j : Option A) (r : Option (List A)) → rejoined a (if_sound (paired j r) (λ p. sound (p.0 ∷ p.1))).node ≡ rejoined (rejoined a (singly j)) r
parts_join None j r = refl
parts_join (Some xs) None r = refl
parts_join (Some xs) (Some y) None = refl
parts_join (Some xs) (Some y) (Some zs) = ap Some (sym (append_assoc xs (y ∷ []) zs))

-- statements: one more is made
pub row_made : {A : Type 0} (w a b c : Option (List A)) (j r : Judged (List A)) → w ≡ rejoined a (both j r ▷ λ p. sound (p.0 ++ p.1)).node → b ≡ j.node → c ≡ rejoined a b → w ≡ rejoined c r.node
row_made w a b c j r h e f = h ∙ rows_join a j.node r.node ∙ ap (λ x. rejoined (rejoined a x) r.node) (sym e) ∙ ap (λ x. rejoined x r.node) (sym f)

-- parts: one more is made
pub part_made : {A : Type 0} (w a c : Option (List A)) (b : Option A) (j : Judged A) (r : Judged (List A)) → w ≡ rejoined a (both j r ▷ λ p. sound (p.0 ∷ p.1)).node → b ≡ j.node → c ≡ rejoined a (singly b) → w ≡ rejoined c r.node
part_made w a c b j r h e f = h ∙ parts_join a j.node r.node ∙ ap (λ x. rejoined (rejoined a (singly x)) r.node) (sym e) ∙ ap (λ x. rejoined x r.node) (sym f)

-- one more is noted
pub row_noted : {A B C : Type 0} (f : A × B → C) (w b c : Notebook) (j : Judged A) (r : Judged B) → w ≡ book_after b (both j r ▷ λ p. sound (f p)).notes → c ≡ book_after b j.notes → w ≡ book_after c r.notes
row_noted f w b c j r h e = h ∙ both_noted f b j r ∙ ap (λ x. book_after x r.notes) (sym e)

pub branch_made : (c : Judged TypedExpr) (b : Judged (List TypedStmt)) → branch_of c.node b.node ≡ (judged_branch c b).node
branch_made c b = by_parts c.node b.node
  where
    by_parts : (t : Option TypedExpr) (b : Option (List TypedStmt)) → branch_of t b ≡ (if_sound (paired t b) (λ p. sound (roll-TypedBranch (record { test = p.0; body = p.1 })))).node
    by_parts None b = refl
    by_parts (Some t) None = refl
    by_parts (Some t) (Some b) = refl

pub case_made : (ls : Judged (List Label)) (b : Judged (List TypedStmt)) → case_of ls.node b.node ≡ (judged_case ls b).node
case_made ls b = by_parts ls.node b.node
  where
    by_parts : (t : Option (List Label)) (b : Option (List TypedStmt)) → case_of t b ≡ (if_sound (paired t b) (λ p. sound (roll-TypedCase (record { labels = p.0; body = p.1 })))).node
    by_parts None b = refl
    by_parts (Some t) None = refl
    by_parts (Some t) (Some b) = refl
