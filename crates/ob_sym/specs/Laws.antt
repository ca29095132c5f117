-- The grammar of a symbol file is exact.
use Rattle.std.proofs.Common.{◌≡◌, ◌≢◌, ℕ, cond, not, leb, List, ◌++◌, length, Option, Some, None, refl, sym, ap, subst, ◌∙◌, append_assoc}
use Rattle.std.specs.Prelude.{codes, bytes_eq}
use Rattle.std.specs.Option.{option_map}
use Rattle.std.specs.Bool.{Decides}
use Rattle.std.specs.List.{list_all}
use Rattle.std.specs.Ordering.{nat_cmp}
use Rattle.std.specs.Cmp.Lexicographic.{slice_cmp, bytes_decides}
use Rattle.std.proofs.lemmas.Cmp.{nat_list_cmp_total, on_total}
use Rattle.std.proofs.lemmas.Bool.Decides.{Decides-and, Decides-not}
use Rattle.std.proofs.lemmas.Option.{cond_some}
use Rattle.ob_format.specs.Format.{Format, IsBytes, IsExact, ◌>>=◌}
use Rattle.ob_format.specs.Exact.{bind_some, some_is, text32_exact, optional_exact, few_exact, rising_exact, such_that_exact, parsed_exact, made_exact, lead_exact, pair_exact, each_decides, le_decides}
use Rattle.ob_format.specs.NameLaws.{name_exact, object_name_exact}
use Rattle.ob_tree.specs.declared.names.QName.{QName}
use Rattle.ob_types.specs.declared.face.Object.{Object}
use Rattle.ob_types.specs.declared.face.Interface.{Interface}
use Rattle.ob_types.specs.SpelledLaws.{use_exact, objects_total}
use Rattle.ob_desc.specs.Grammar.{description_at, same_object, shape_text, layout_text, IsSpelled}
use Rattle.ob_desc.specs.Laws.{object_decides, description_found, description_again}
use Rattle.ob_fprint.specs.Print.{print_from}
use Rattle.ob_sym.specs.Grammar.{Entry, entry, object_of, described_as, texts_of, IsObjectOf, object_in, depending_at, depending, Head, head, body, magic, is_import, is_sound, IsSound, to_face, from_face, face}

-- ---- a format that depends on a value

depending_found : {A B : Type 0} (f : Format A) (g : A → Format B) → IsExact f → ((a : A) → IsExact (g a)) → (bytes : List ℕ) (x : (A × B) × List ℕ) → IsBytes bytes → depending_at f.take (λ a. (g a).take) bytes ≡ Some x → (bytes ≡ (f.spell x.0.0 ++ (g x.0.0).spell x.0.1) ++ x.1) × (f.fits x.0.0 × (g x.0.0).fits x.0.1) × IsBytes x.1
unfolding depending_at
depending_found {A = A} {B = B} f g ef eg bytes x fits e =
    let a = bind_some (f.take bytes) (λ a. (g a.0).take a.1 >>= λ b. Some ((a.0, b.0), b.1)) x e in
    let b = bind_some ((g a.0.0).take a.0.1) (λ b. Some ((a.0.0, b.0), b.1)) x a.2 in
    let t = ef.found bytes a.0 fits a.1 in
    let u = (eg a.0.0).found a.0.1 b.0 t.2 b.1 in
    subst (λ (y : (A × B) × List ℕ). (bytes ≡ (f.spell y.0.0 ++ (g y.0.0).spell y.0.1) ++ y.1) × (f.fits y.0.0 × (g y.0.0).fits y.0.1) × IsBytes y.1) (some_is ((a.0.0, b.0.0), b.0.1) x b.2)
    (t.0 ∙ ap (λ (r : List ℕ). f.spell a.0.0 ++ r) u.0 ∙ sym (append_assoc (f.spell a.0.0) ((g a.0.0).spell b.0.0) b.0.1), (t.1, u.1), u.2)

depending_again : {A B : Type 0} (f : Format A) (g : A → Format B) → IsExact f → ((a : A) → IsExact (g a)) → (x : A × B) (rest : List ℕ) → f.fits x.0 × (g x.0).fits x.1 → depending_at f.take (λ a. (g a).take) ((f.spell x.0 ++ (g x.0).spell x.1) ++ rest) ≡ Some (x, rest)
unfolding depending_at
depending_again f g ef eg x rest fits =
    ap (depending_at f.take (λ a. (g a).take)) (append_assoc (f.spell x.0) ((g x.0).spell x.1) rest) ∙
    rw (ef.again x.0 ((g x.0).spell x.1 ++ rest) fits.0, (eg x.0).again x.1 rest fits.1) refl

pub depending_exact : {A B : Type 0} {f : Format A} (g : A → Format B) → IsExact f → ((a : A) → IsExact (g a)) → IsExact (depending f g)
depending_exact {f = f} g ef eg = record { found = depending_found f g ef eg; again = depending_again f g ef eg }

-- ---- objects

entry_exact : IsExact entry
entry_exact = pair_exact object_name_exact (pair_exact text32_exact (optional_exact text32_exact))

object_found : (m : List ℕ) (e : Entry) (o : Object) → entry.fits e → described_as m e ≡ Some o → (texts_of m o ≡ e) × IsObjectOf m o
unfolding described_as
object_found m e o fits is =
    let x = bind_some (description_at e.1.0 e.1.1) (λ x. cond (same_object x.0 (object_of m e.0)) (Some (record { name = e.0; desc = x.1; shape = print_from e.1.0; layout = option_map print_from e.1.1 })) None) o is in
    let made : Object = record { name = e.0; desc = x.0.1; shape = print_from e.1.0; layout = option_map print_from e.1.1 } in
    let g = cond_some (same_object x.0.0 (object_of m e.0)) made o x.2 in
    let same = (object_decides x.0.0 (object_of m e.0)).0 g.0 in
    let t = description_found e.1.0 e.1.1 x.0 x.1 in
    let shape : shape_text (object_of m e.0) x.0.1 ≡ e.1.0 = ap (λ (q : QName). shape_text q x.0.1) (sym same) ∙ sym t.shape_is in
    let layout : layout_text (object_of m e.0) x.0.1 ≡ e.1.1 = ap (λ (q : QName). layout_text q x.0.1) (sym same) ∙ sym t.layout_is in
    let whole : texts_of m made ≡ e = ap (λ (s : List ℕ). (e.0, (s, layout_text (object_of m e.0) x.0.1))) shape ∙ ap (λ (l : Option (List ℕ)). (e.0, (e.1.0, l))) layout in
    subst (λ (z : Object). (texts_of m z ≡ e) × IsObjectOf m z) g.1 (
      whole,
      record {
        spelled = subst (λ (q : QName). IsSpelled q x.0.1) same t.spelled;
        within = subst (λ (z : Entry). entry.fits z) (sym whole) fits;
        shape = ap print_from (sym shape);
        layout = ap (option_map print_from) (sym layout);
      },
    )

object_again : (m : List ℕ) (o : Object) → IsObjectOf m o → described_as m (texts_of m o) ≡ Some o
unfolding described_as
object_again m o fits =
    let q = object_of m o.name in
    let same = (object_decides q q).1 refl in
    let back : record { name = o.name; desc = o.desc; shape = print_from (shape_text q o.desc); layout = option_map print_from (layout_text q o.desc) } ≡ o = rw (← fits.shape, ← fits.layout) refl in
    rw (description_again q o.desc fits.spelled, same) (ap (λ (z : Object). Some z) back)

pub object_exact : (m : List ℕ) → IsExact (object_in m)
unfolding object_in
object_exact m = parsed_exact (record { found = λ e o fits bytes is. object_found m e o fits is; again = λ o fits. (fits.within, object_again m o fits) }) entry_exact

-- ---- the file

head_exact : IsExact head
unfolding head
head_exact = pair_exact name_exact (few_exact 64 (slice_cmp nat_cmp) name_exact)

body_exact : (h : Head) → IsExact (body h)
unfolding body
body_exact h = pair_exact (rising_exact (on_total (λ o. o.name) nat_list_cmp_total) (object_exact h.0)) (rising_exact objects_total use_exact)

import_decides : (n : List ℕ) → Decides (is_import n) ((n ≢ codes "Out") × (n ≢ codes "SYSTEM"))
import_decides n = Decides-and (not (bytes_eq n (codes "Out"))) (not (bytes_eq n (codes "SYSTEM"))) (Decides-not (bytes_eq n (codes "Out")) (bytes_decides n (codes "Out"))) (Decides-not (bytes_eq n (codes "SYSTEM")) (bytes_decides n (codes "SYSTEM")))

sound_decides : (f : Interface) → Decides (is_sound f) (IsSound f)
sound_decides f =
    let all = Decides-and (leb (length f.objects) 4096) (list_all is_import f.imports) (le_decides (length f.objects) 4096) (each_decides is_import (λ n. (n ≢ codes "Out") × (n ≢ codes "SYSTEM")) import_decides f.imports) in
    (λ e. let t = all.0 e in record { objects = t.0; imports = t.1 }, λ s. all.1 (s.objects, s.imports))

pub face_exact : IsExact face
unfolding face
face_exact = such_that_exact is_sound IsSound sound_decides (lead_exact magic (made_exact to_face from_face (depending_exact body head_exact body_exact) (λ _. refl) (λ _. refl)))
