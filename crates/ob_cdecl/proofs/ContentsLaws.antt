-- What is added to the contents of a module.
use Rattle.std.proofs.Common.{◌≡◌, List, [], ◌∷◌, ◌++◌, refl, sym, ap, ◌∙◌}
use Rattle.std.proofs.lemmas.List.{append-nil, append_assoc}
use Rattle.ob_types.specs.declared.typed.TypedConstant.{TypedConstant}
use Rattle.ob_types.specs.declared.typed.TypedVariable.{TypedVariable}
use Rattle.ob_types.specs.declared.typed.TypedType.{TypedType}
use Rattle.ob_types.specs.declared.typed.TypedProcedure.{TypedProcedure}
use Rattle.ob_types.specs.declared.typed.TypedStmt.{TypedStmt}
use Rattle.ob_rules.specs.declared.notes.Notebook.{Notebook}
use Rattle.ob_rules.specs.Judged.{no_notes}
use Rattle.ob_rules.specs.Books.{book_after}
use Rattle.ob_rules.proofs.BookLaws.{after_none}
use Rattle.ob_rules.specs.Declarations.{Contents, no_contents, together}
use Rattle.ob_cdecl.specs.Seen.{holds_body, holds_constant, holds_variable, holds_types}

abbrev put : List TypedConstant → List TypedType → List TypedVariable → List TypedProcedure → List TypedStmt → List TypedType → Contents
put cs ts vs ps ss bs = record { constants = cs; types = ts; variables = vs; procedures = ps; body = ss; bound = bs }

same : {cs ds : List TypedConstant} {ts us : List TypedType} {vs ws : List TypedVariable} {ps qs : List TypedProcedure} {ss rs : List TypedStmt} {bs es : List TypedType} → cs ≡ ds → ts ≡ us → vs ≡ ws → ps ≡ qs → ss ≡ rs → bs ≡ es → put cs ts vs ps ss bs ≡ put ds us ws qs rs es
same {cs = cs} {ds = ds} {ts = ts} {us = us} {vs = vs} {ws = ws} {ps = ps} {qs = qs} {ss = ss} {rs = rs} {bs = bs} {es = es} a b c d e f =
    ap (λ x. put x ts vs ps ss bs) a ∙ ap (λ x. put ds x vs ps ss bs) b ∙ ap (λ x. put ds us x ps ss bs) c ∙ ap (λ x. put ds us ws x ss bs) d ∙ ap (λ x. put ds us ws qs x bs) e ∙ ap (λ x. put ds us ws qs rs x) f

pub adds_constant : (c : Contents) (k : TypedConstant) (cs : List TypedConstant) → cs ≡ c.constants ++ k ∷ [] → record c { constants = cs } ≡ together c (holds_constant k)
adds_constant c k cs e = same e (sym (append-nil c.types)) (sym (append-nil c.variables)) (sym (append-nil c.procedures)) (sym (append-nil c.body)) (sym (append-nil c.bound))

pub adds_variable : (c : Contents) (v : TypedVariable) (vs : List TypedVariable) → vs ≡ c.variables ++ v ∷ [] → record c { variables = vs } ≡ together c (holds_variable v)
adds_variable c v vs e = same (sym (append-nil c.constants)) (sym (append-nil c.types)) e (sym (append-nil c.procedures)) (sym (append-nil c.body)) (sym (append-nil c.bound))

pub adds_types : (c : Contents) (ts us : List TypedType) → us ≡ c.types ++ ts → record c { types = us } ≡ together c (holds_types ts)
adds_types c ts us e = same (sym (append-nil c.constants)) e (sym (append-nil c.variables)) (sym (append-nil c.procedures)) (sym (append-nil c.body)) (sym (append-nil c.bound))

pub adds_nothing : (c : Contents) → c ≡ together c no_contents
adds_nothing c = same (sym (append-nil c.constants)) (sym (append-nil c.types)) (sym (append-nil c.variables)) (sym (append-nil c.procedures)) (sym (append-nil c.body)) (sym (append-nil c.bound))

-- what is added in turn
pub added_in_turn : (a b c : Contents) → together (together a b) c ≡ together a (together b c)
added_in_turn a b c = same (append_assoc a.constants b.constants c.constants) (append_assoc a.types b.types c.types) (append_assoc a.variables b.variables c.variables) (append_assoc a.procedures b.procedures c.procedures) (append_assoc a.body b.body c.body) (append_assoc a.bound b.bound c.bound)

pub adds_body : (c : Contents) (ss rs : List TypedStmt) → rs ≡ c.body ++ ss → record c { body = rs } ≡ together c (holds_body ss)
adds_body c ss rs e = same (sym (append-nil c.constants)) (sym (append-nil c.types)) (sym (append-nil c.variables)) (sym (append-nil c.procedures)) e (sym (append-nil c.bound))

pub adds_all : (c d e : Contents) → e.constants ≡ c.constants ++ d.constants → e.types ≡ c.types ++ d.types → e.variables ≡ c.variables ++ d.variables → e.procedures ≡ c.procedures ++ d.procedures → e.body ≡ c.body ++ d.body → e.bound ≡ c.bound ++ d.bound → e ≡ together c d
adds_all c d e p q r s t u = same p q r s t u

pub notes_nothing : (b : Notebook) → b ≡ book_after b no_notes
notes_nothing b = sym (after_none b)
