-- What a read of a symbol file finds.
use Rattle.std.proofs.Common.{◌≡◌, ℕ, ◌<◌, ◌≤◌, Bool, true, false, cond, leb, List, length, Option, Some, None, Ok, Err, refl, sym, ap, subst, ◌∙◌, arith}
use Rattle.std.specs.Prelude.{Vec}
use Rattle.std.specs.declared.alloc.Global.{Global}
use Rattle.ob_format.specs.Format.{IsBytes, whole}
use Rattle.ob_format.specs.Exact.{whole_found, whole_again, le_decides}
use Rattle.ob_io.specs.Io.{Finds}
use Rattle.ob_io.specs.declared.traits.FolderFault.{FolderFault}
use Rattle.ob_io.specs.declared.traits.FolderFault.TheVariants as fault
use Rattle.ob_types.specs.declared.face.Interface.{Interface}
use Rattle.ob_sym.specs.Grammar.{face as face_form}
use Rattle.ob_sym.specs.Laws.{face_exact}
use Rattle.ob_shell_model.specs.Files.{IsMissing, IsLong, decoded_file, sym_file_of}

within : (b : Bool) → b ≡ true → (bytes : List ℕ) → cond b (decoded_file (whole face_form bytes)) IsLong ≡ decoded_file (whole face_form bytes)
within true e bytes = refl
within false e bytes = absurd cc

beyond : (b : Bool) → (b ≡ true → ⊥) → (bytes : List ℕ) → cond b (decoded_file (whole face_form bytes)) IsLong ≡ IsLong
beyond true e bytes = absurd (e refl)
beyond false e bytes = refl

pub none_found : (o : Option (List ℕ)) (x : Option (Vec ℕ Global)) → x ≡ None → Finds o 16777216 (Ok x) → sym_file_of o ≡ IsMissing
none_found None x is f = refl
none_found (Some bytes) x is f = absurd (subst (λ (y : Option (Vec ℕ Global)). Finds (Some bytes) 16777216 (Ok y)) is f)

pub some_found : (o : Option (List ℕ)) (x : Option (Vec ℕ Global)) (v : Vec ℕ Global) → x ≡ Some v → Finds o 16777216 (Ok x) → sym_file_of o ≡ decoded_file (whole face_form v.items)
some_found None x v is f = absurd (subst (λ (y : Option (Vec ℕ Global)). Finds None 16777216 (Ok y)) is f)
some_found (Some bytes) x v is f =
    let g : Finds (Some bytes) 16777216 (Ok (Some v)) = subst (λ (y : Option (Vec ℕ Global)). Finds (Some bytes) 16777216 (Ok y)) is f in
    within (leb (length bytes) 16777216) ((le_decides (length bytes) 16777216).1 g.1) bytes ∙ ap (λ (l : List ℕ). decoded_file (whole face_form l)) (sym g.0)

pub long_found : (o : Option (List ℕ)) (e : FolderFault) → e ≡ fault.Long → Finds o 16777216 (Err e) → sym_file_of o ≡ IsLong
long_found None e is f = absurd (subst (λ (y : FolderFault). Finds None 16777216 (Err y)) is f)
long_found (Some bytes) e is f =
    let g : 16777216 < length bytes = subst (λ (y : FolderFault). Finds (Some bytes) 16777216 (Err y)) is f in
    beyond (leb (length bytes) 16777216) (λ t. let h : length bytes ≤ 16777216 = (le_decides (length bytes) 16777216).0 t in absurd (omega (arith, g, h))) bytes

pub spelled : (bytes : List ℕ) (f : Interface) → face_form.fits f → bytes ≡ face_form.spell f → whole face_form bytes ≡ Some f
spelled bytes f fits is = ap (whole face_form) is ∙ whole_again face_form face_exact f fits

none_of : {A : Type 0} (o : Option A) → ((x : A) → o ≡ Some x → ⊥) → o ≡ None
none_of None h = refl
none_of (Some x) h = absurd (h x refl)

pub not_spelled : (bytes : List ℕ) → IsBytes bytes → ((f : Interface) → face_form.fits f → bytes ≡ face_form.spell f → ⊥) → whole face_form bytes ≡ None
not_spelled bytes are h = none_of (whole face_form bytes) (λ f e. let u = whole_found face_form face_exact bytes f are e in h f u.0 u.1)
