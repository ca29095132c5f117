-- What a read of a symbol file finds.
use Rattle.std.proofs.Common.{◌≡◌, ℕ, ◌<◌, ◌≤◌, Bool, true, false, cond, leb, List, length, Option, Some, None, Ok, Err, refl, sym, ap, subst, ◌∙◌, arith}
use Rattle.std.specs.Prelude.{Vec}
use Rattle.std.specs.declared.alloc.Global.{Global}
use Rattle.ob_format.specs.Format.{IsBytes, whole}
use Rattle.ob_format.specs.Exact.{whole_found, whole_again, le_decides}
use Rattle.ob_io.specs.Io.{Finds}
use Rattle.ob_io.specs.declared.traits.FolderFault.{FolderFault}
use Rattle.ob_io.specs.declared.traits.FolderFault.TheVariants as fault
use Rattle.ob_types.specs.declared.face.Interface.{Interface}
use Rattle.ob_sym.specs.Grammar.{face as face_form}
use Rattle.ob_sym.specs.Laws.{face_exact}
use Rattle.ob_env_walk.specs.Walk.{Missing, Junk, entry_from, named_face}

within : (b : Bool) → b ≡ true → (m : List ℕ) (bytes : List ℕ) → cond b (named_face m (whole face_form bytes)) Junk ≡ named_face m (whole face_form bytes)
within true e m bytes = refl
within false e m bytes = absurd cc

beyond : (b : Bool) → (b ≡ true → ⊥) → (m : List ℕ) (bytes : List ℕ) → cond b (named_face m (whole face_form bytes)) Junk ≡ Junk
beyond true e m bytes = absurd (e refl)
beyond false e m bytes = refl

found_none : (o : Option (List ℕ)) (m : List ℕ) (x : Option (Vec ℕ Global)) → x ≡ None → Finds o 16777216 (Ok x) → entry_from m o ≡ Missing
found_none None m x is f = refl
found_none (Some bytes) m x is f = absurd (subst (λ (y : Option (Vec ℕ Global)). Finds (Some bytes) 16777216 (Ok y)) is f)

found_some : (o : Option (List ℕ)) (m : List ℕ) (x : Option (Vec ℕ Global)) (v : Vec ℕ Global) → x ≡ Some v → Finds o 16777216 (Ok x) → entry_from m o ≡ named_face m (whole face_form v.items)
found_some None m x v is f = absurd (subst (λ (y : Option (Vec ℕ Global)). Finds None 16777216 (Ok y)) is f)
found_some (Some bytes) m x v is f =
    let g : Finds (Some bytes) 16777216 (Ok (Some v)) = subst (λ (y : Option (Vec ℕ Global)). Finds (Some bytes) 16777216 (Ok y)) is f in
    within (leb (length bytes) 16777216) ((le_decides (length bytes) 16777216).1 g.1) m bytes ∙ ap (λ (l : List ℕ). named_face m (whole face_form l)) (sym g.0)

found_long : (o : Option (List ℕ)) (m : List ℕ) (e : FolderFault) → e ≡ fault.Long → Finds o 16777216 (Err e) → entry_from m o ≡ Junk
found_long None m e is f = absurd (subst (λ (y : FolderFault). Finds None 16777216 (Err y)) is f)
found_long (Some bytes) m e is f =
    let g : 16777216 < length bytes = subst (λ (y : FolderFault). Finds (Some bytes) 16777216 (Err y)) is f in
    beyond (leb (length bytes) 16777216) (λ t. let h : length bytes ≤ 16777216 = (le_decides (length bytes) 16777216).0 t in absurd (omega (arith, g, h))) m bytes

pub none_found : (files : List ℕ → Option (List ℕ)) (name text m : List ℕ) (x : Option (Vec ℕ Global)) → text ≡ name → x ≡ None → Finds (files text) 16777216 (Ok x) → entry_from m (files name) ≡ Missing
none_found files name text m x t is f = found_none (files name) m x is (subst (λ (l : List ℕ). Finds (files l) 16777216 (Ok x)) t f)

pub some_found : (files : List ℕ → Option (List ℕ)) (name text m : List ℕ) (x : Option (Vec ℕ Global)) (v : Vec ℕ Global) → text ≡ name → x ≡ Some v → Finds (files text) 16777216 (Ok x) → entry_from m (files name) ≡ named_face m (whole face_form v.items)
some_found files name text m x v t is f = found_some (files name) m x v is (subst (λ (l : List ℕ). Finds (files l) 16777216 (Ok x)) t f)

pub long_found : (files : List ℕ → Option (List ℕ)) (name text m : List ℕ) (e : FolderFault) → text ≡ name → e ≡ fault.Long → Finds (files text) 16777216 (Err e) → entry_from m (files name) ≡ Junk
long_found files name text m e t is f = found_long (files name) m e is (subst (λ (l : List ℕ). Finds (files l) 16777216 (Err e)) t f)

-- ---- the bytes

pub spelled : (bytes : List ℕ) (f : Interface) → face_form.fits f → bytes ≡ face_form.spell f → whole face_form bytes ≡ Some f
spelled bytes f fits is = ap (whole face_form) is ∙ whole_again face_form face_exact f fits

none_of : {A : Type 0} (o : Option A) → ((x : A) → o ≡ Some x → ⊥) → o ≡ None
none_of None h = refl
none_of (Some x) h = absurd (h x refl)

pub not_spelled : (bytes : List ℕ) → IsBytes bytes → ((f : Interface) → face_form.fits f → bytes ≡ face_form.spell f → ⊥) → whole face_form bytes ≡ None
not_spelled bytes are h = none_of (whole face_form bytes) (λ f e. let u = whole_found face_form face_exact bytes f are e in h f u.0 u.1)
