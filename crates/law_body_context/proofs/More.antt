-- Descriptions with more bound procedures.
use Rattle.std.proofs.Common.{◌≡◌, refl, sym, ap, ◌∙◌, List, [], ◌++◌, append_assoc}
use Rattle.ob_types.specs.declared.desc.Desc.{Desc}
use Rattle.ob_types.specs.declared.desc.Desc.TheVariants as desc
use Rattle.ob_types.specs.declared.desc.Method.{Method}
use Rattle.law_body_context.specs.Judged.{with_methods, HasMore}
use Rattle.law_lists.proofs.Lists.{append_none}

none_more : (d : Desc) → with_methods [] d ≡ d
none_more (desc.Const v) = refl
none_more (desc.Var m t) = refl
none_more (desc.Proc s) = refl
none_more (desc.Alias m t) = refl
none_more (desc.Array m n t) = refl
none_more (desc.OpenArray m t) = refl
none_more (desc.Pointer m t) = refl
none_more (desc.ProcType m s) = refl
none_more (desc.Record r) = ap (λ ms. desc.Record (record r { methods = ms })) (append_none r.methods)

two_more : (ms ns : List Method) (d : Desc) → with_methods ns (with_methods ms d) ≡ with_methods (ms ++ ns) d
two_more ms ns (desc.Const v) = refl
two_more ms ns (desc.Var m t) = refl
two_more ms ns (desc.Proc s) = refl
two_more ms ns (desc.Alias m t) = refl
two_more ms ns (desc.Array m n t) = refl
two_more ms ns (desc.OpenArray m t) = refl
two_more ms ns (desc.Pointer m t) = refl
two_more ms ns (desc.ProcType m s) = refl
two_more ms ns (desc.Record r) = ap (λ l. desc.Record (record r { methods = l })) (append_assoc r.methods ms ns)

pub more_same : (d e : Desc) → d ≡ e → HasMore d e
more_same d e f = ([], sym f ∙ sym (none_more d))

pub more_then : (a b c : Desc) → HasMore a b → HasMore b c → HasMore a c
more_then a b c h k = (h.0 ++ k.0, k.1 ∙ ap (with_methods k.0) h.1 ∙ two_more h.0 k.0 a)
