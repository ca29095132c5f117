-- What procedures add to a module.
use Rattle.std.proofs.Common.{◌≡◌, List, [], ◌∷◌, ◌++◌, Option, Some, None, refl, sym, ap, ◌∙◌}
use Rattle.ob_types.specs.declared.typed.Binding.{Binding}
use Rattle.ob_types.specs.declared.typed.TypedConstant.{TypedConstant}
use Rattle.ob_types.specs.declared.typed.TypedType.{TypedType}
use Rattle.ob_types.specs.declared.typed.TypedVariable.{TypedVariable}
use Rattle.ob_types.specs.declared.typed.TypedParameter.{TypedParameter}
use Rattle.ob_types.specs.declared.typed.TypedProcedure.{TypedProcedure}
use Rattle.ob_types.specs.declared.typed.TypedStmt.{TypedStmt}
use Rattle.ob_tree.specs.declared.ident.Ident.{Ident}
use Rattle.ob_rules.specs.Shapes.{Map}
use Rattle.ob_rules.specs.Types.{Parameters}
use Rattle.ob_rules.specs.Headings.{Head, BoundAs}
use Rattle.ob_rules.specs.Declarations.{Contents, typed_procedure, procedure_contents, bound_to, self_parameters}
use Rattle.ob_cdecl_heading.specs.Kept.{bare}
use Rattle.ob_cdecl_block.specs.Blocks.{unbound}
use Rattle.ob_cdecl_block.specs.Procedures.{bound_by, with_self, blank}

abbrev put : List TypedConstant → List TypedType → List TypedVariable → List TypedProcedure → List TypedStmt → List TypedType → Contents
put cs ts vs ps ss bs = record { constants = cs; types = ts; variables = vs; procedures = ps; body = ss; bound = bs }

same : {cs ds : List TypedConstant} {ts us : List TypedType} {vs ws : List TypedVariable} {ps qs : List TypedProcedure} {ss rs : List TypedStmt} {bs es : List TypedType} → cs ≡ ds → ts ≡ us → vs ≡ ws → ps ≡ qs → ss ≡ rs → bs ≡ es → put cs ts vs ps ss bs ≡ put ds us ws qs rs es
same {cs = cs} {ds = ds} {ts = ts} {us = us} {vs = vs} {ws = ws} {ps = ps} {qs = qs} {ss = ss} {rs = rs} {bs = bs} {es = es} a b c d e f =
    ap (λ x. put x ts vs ps ss bs) a ∙ ap (λ x. put ds x vs ps ss bs) b ∙ ap (λ x. put ds us x ps ss bs) c ∙ ap (λ x. put ds us ws x ss bs) d ∙ ap (λ x. put ds us ws qs x bs) e ∙ ap (λ x. put ds us ws qs rs x) f

-- A PROCEDURE

pub bound_is : (types : Map) (h : Head) (b : Option BoundAs) → bound_to types h b ≡ bound_by types h.name b
bound_is types h None = refl
bound_is types h (Some b) = refl

pub self_is : (h : Head) (x : Option Ident) (b : Option BoundAs) (ps : List TypedParameter) → self_parameters h x b ++ ps ≡ with_self x b ps
self_is h None b ps = refl
self_is h (Some x) None ps = refl
self_is h (Some x) (Some b) ps = refl

abbrev one : Head → Parameters → Contents → Option Binding → List TypedParameter → TypedProcedure
one h p c b ps = record { name = h.path; mark = h.mark; «pos» = h.at; binding = b; parameters = ps; result = p.signature.result; locals = c.variables; body = c.body }

typed_blank : (types : Map) (h : Head) (p : Option Parameters) (c : Contents) → typed_procedure types (blank h) p (unbound c) ≡ typed_procedure types h p c
typed_blank types h None c = refl
typed_blank types h (Some p) c =
    ap (λ b. one h p c b (self_parameters (blank h) h.self h.bound ++ p.parameters) ∷ []) (bound_is types (blank h) h.bound ∙ sym (bound_is types h h.bound))
    ∙ ap (λ ps. one h p c (bound_to types h h.bound) ps ∷ []) (self_is (blank h) h.self h.bound p.parameters ∙ sym (self_is h h.self h.bound p.parameters))

contents_blank : (types : Map) (h : Head) (c : Contents) → procedure_contents types (blank h) (unbound c) ≡ procedure_contents types h c
contents_blank types h c = ap (λ ps. record (procedure_contents types h c) { procedures = ps ++ c.procedures }) (typed_blank types h h.parameters c)

-- what is left of a heading is enough
pub contents_left : (types : Map) (left s h : Head) (c d : Contents) → left ≡ blank s → s ≡ bare h → d ≡ unbound c → procedure_contents types left d ≡ procedure_contents types h c
contents_left types left s h c d e f g = ap (λ x. procedure_contents types x d) (e ∙ ap blank f) ∙ ap (procedure_contents types (blank h)) g ∙ contents_blank types h c
