-- An object of a file has no hidden members.
use Rattle.std.proofs.Common.{◌≡◌, List, [], ◌∷◌, true, refl, ap, ◌∙◌}
use Rattle.std.specs.List.{AllByRecursion, filter}
use Rattle.ob_tree.specs.declared.names.QName.{QName}
use Rattle.ob_types.specs.declared.desc.Desc.{Desc}
use Rattle.ob_types.specs.declared.desc.Desc.TheVariants as desc
use Rattle.ob_types.specs.declared.desc.Field.{Field}
use Rattle.ob_types.specs.declared.desc.Method.{Method}
use Rattle.ob_desc.specs.Grammar.{is_shown, field, method, seen, shape_fits}

shown_is : (f : Field) → field.fits f → is_shown f.mark ≡ true
unfolding field
shown_is f fits = fits.1.0.1

fields_seen : (fs : List Field) → AllByRecursion field.fits fs → filter (λ f. is_shown f.mark) fs ≡ fs
fields_seen [] fits = refl
fields_seen (f ∷ fs) fits = rw (shown_is f fits.0) (ap (λ (l : List Field). f ∷ l) (fields_seen fs fits.1))

full_is : (m : Method) → method.fits m → is_shown m.mark ≡ true
unfolding method
full_is m fits = ap is_shown fits.1

methods_seen : (ms : List Method) → AllByRecursion method.fits ms → filter (λ m. is_shown m.mark) ms ≡ ms
methods_seen [] fits = refl
methods_seen (m ∷ ms) fits = rw (full_is m fits.0) (ap (λ (l : List Method). m ∷ l) (methods_seen ms fits.1))

pub seen_is : (q : QName) (d : Desc) → shape_fits q d → seen d ≡ d
seen_is q (desc.Record r) fits =
    ap (λ (l : List Field). desc.Record (record r { fields = l; methods = filter (λ m. is_shown m.mark) r.methods })) (fields_seen r.fields fits.1.0.0)
    ∙ ap (λ (l : List Method). desc.Record (record r { methods = l })) (methods_seen r.methods fits.1.0.1)
seen_is q (desc.Const v) fits = refl
seen_is q (desc.Var m t) fits = refl
seen_is q (desc.Proc s) fits = refl
seen_is q (desc.Alias m t) fits = refl
seen_is q (desc.Array m n t) fits = refl
seen_is q (desc.OpenArray m t) fits = refl
seen_is q (desc.Pointer m t) fits = refl
seen_is q (desc.ProcType m s) fits = refl
