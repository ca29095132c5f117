-- What is written of an object is its spelling.
use Rattle.std.proofs.Common.{◌≡◌, ℕ, ◌^◌, ◌<◌, true, false, List, [], ◌∷◌, length, Option, Some, None, refl, sym, ap, subst, ◌∙◌}
use Rattle.std.specs.Prelude.{IsSome}
use Rattle.ob_format.specs.Format.{Adds, text32, optional}
use Rattle.ob_format.specs.Exact.{then_adds}
use Rattle.ob_tree.specs.declared.names.QName.{QName}
use Rattle.ob_types.specs.declared.desc.Desc.{Desc}
use Rattle.ob_types.specs.declared.desc.Desc.TheVariants as desc
use Rattle.ob_types.specs.declared.face.Aspect.TheVariants.{Shape, Layout}
use Rattle.ob_desc.specs.Grammar.{shape_text, shape_fits, layout_text, seen, text_of}
use Rattle.ob_sym.specs.Grammar.{has_layout}
use Rattle.ob_sym.proofs.Seen.{seen_is}

-- ---- shapes

pub shape_is : (q : QName) (d : Desc) (t : List ℕ) → shape_fits q d → text_of q d Shape ≡ Some t → t ≡ shape_text q d
shape_is q d t fits e =
    let one : shape_text q (seen d) ≡ t = cc in
    sym one ∙ ap (shape_text q) (seen_is q d fits)

pub is_small : (t u : List ℕ) → t ≡ u → text32.fits u → length t < 2 ^ 32
unfolding text32
is_small t u e fits = subst (λ (l : List ℕ). length l < 2 ^ 32) (sym e) fits

-- ---- layouts

pub layout_some : (q : QName) (d : Desc) → has_layout d ≡ true → IsSome (text_of q d Layout)
layout_some q (desc.Record r) e = refl
layout_some q (desc.Const v) e = absurd cc
layout_some q (desc.Var m t) e = absurd cc
layout_some q (desc.Proc s) e = absurd cc
layout_some q (desc.Alias m t) e = absurd cc
layout_some q (desc.Array m n t) e = absurd cc
layout_some q (desc.OpenArray m t) e = absurd cc
layout_some q (desc.Pointer m t) e = absurd cc
layout_some q (desc.ProcType m s) e = absurd cc

layout_none : (q : QName) (d : Desc) → has_layout d ≡ false → layout_text q d ≡ None
layout_none q (desc.Record r) e = absurd cc
layout_none q (desc.Const v) e = refl
layout_none q (desc.Var m t) e = refl
layout_none q (desc.Proc s) e = refl
layout_none q (desc.Alias m t) e = refl
layout_none q (desc.Array m n t) e = refl
layout_none q (desc.OpenArray m t) e = refl
layout_none q (desc.Pointer m t) e = refl
layout_none q (desc.ProcType m s) e = refl

pub layout_small : (q : QName) (d : Desc) (t : List ℕ) → (optional text32).fits (layout_text q d) → text_of q d Layout ≡ Some t → length t < 2 ^ 32
unfolding optional text32
layout_small q d t fits e = subst (λ (o : Option (List ℕ)). (optional text32).fits o) e fits

pub none_adds : (q : QName) (d : Desc) (a b : List ℕ) → has_layout d ≡ false → Adds a b (0 ∷ []) → Adds a b ((optional text32).spell (layout_text q d))
unfolding optional
none_adds q d a b e adds = subst (λ (o : Option (List ℕ)). Adds a b ((optional text32).spell o)) (sym (layout_none q d e)) adds

pub some_adds : (q : QName) (d : Desc) (t a b c : List ℕ) → text_of q d Layout ≡ Some t → Adds a b (1 ∷ []) → Adds b c (text32.spell t) → Adds a c ((optional text32).spell (layout_text q d))
unfolding optional
some_adds q d t a b c e first second = subst (λ (o : Option (List ℕ)). Adds a c ((optional text32).spell o)) (sym e) (then_adds first second)
