-- Bytes have one reading.
use Rattle.std.proofs.Common.{◌≡◌, ℕ, List, Some, sym, ap, ◌∙◌}
use Rattle.ob_format.specs.Format.{IsBytes, whole}
use Rattle.ob_format.specs.Exact.{whole_found, whole_again}
use Rattle.ob_types.specs.declared.face.Interface.{Interface}
use Rattle.ob_sym.specs.Grammar.{face as face_form}
use Rattle.ob_sym.specs.Laws.{face_exact}

pub reading_found : (bytes : List ℕ) (f : Interface) → IsBytes bytes → whole face_form bytes ≡ Some f → face_form.fits f × (bytes ≡ face_form.spell f)
reading_found bytes f are e = whole_found face_form face_exact bytes f are e

pub spelling_read : (bytes : List ℕ) (f : Interface) → face_form.fits f → bytes ≡ face_form.spell f → whole face_form bytes ≡ Some f
spelling_read bytes f fits is = ap (whole face_form) is ∙ whole_again face_form face_exact f fits

same_of : (f g : Interface) → Some g ≡ Some f → g ≡ f
same_of f g e = cc

pub one_reading : (bytes : List ℕ) (f g : Interface) → whole face_form bytes ≡ Some g → face_form.fits f → bytes ≡ face_form.spell f → g ≡ f
one_reading bytes f g e fits is = same_of f g (sym e ∙ spelling_read bytes f fits is)
