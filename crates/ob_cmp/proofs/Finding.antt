-- What a read of a module's file finds.
use Rattle.std.proofs.Common.{◌≡◌, ℕ, ◌<◌, ◌≤◌, Bool, true, false, cond, leb, List, [], ◌∷◌, length, Option, Some, None, Ok, Err, refl, sym, ap, subst, ◌∙◌, arith}
use Rattle.std.specs.Prelude.{Vec, map as each, bytes_eq}
use Rattle.std.specs.Option.{option_map}
use Rattle.std.specs.declared.alloc.Global.{Global}
use Rattle.ob_format.specs.Format.{IsBytes, ◌>>=◌, whole}
use Rattle.ob_format.specs.Exact.{whole_found, whole_again, le_decides}
use Rattle.ob_io.specs.Io.{Finds}
use Rattle.ob_io.specs.declared.traits.FolderFault.{FolderFault}
use Rattle.ob_io.specs.declared.traits.FolderFault.TheVariants as fault
use Rattle.ob_types.specs.declared.face.Interface.{Interface}
use Rattle.ob_obj.specs.declared.file.ObjFile.{ObjFile}
use Rattle.ob_obj.specs.Grammar.{file as object_form}
use Rattle.ob_obj.specs.Laws.{file_exact}
use Rattle.ob_sym.specs.Grammar.{face as face_form}
use Rattle.ob_sym.specs.Laws.{face_exact}
use Rattle.ob_cmp.specs.Check.{Present, NotThere, TooLong, within}

held : {X : Type 0} (b : Bool) → b ≡ true → (p : Present X) → cond b p TooLong ≡ p
held true e p = refl
held false e p = absurd cc

beyond : {X : Type 0} (b : Bool) → (b ≡ true → ⊥) → (p : Present X) → cond b p TooLong ≡ TooLong
beyond true e p = absurd (e refl)
beyond false e p = refl

found_none : {X : Type 0} (read : List ℕ → Present X) (o : Option (List ℕ)) (x : Option (Vec ℕ Global)) → x ≡ None → Finds o 16777216 (Ok x) → within read o ≡ NotThere
found_none read None x is f = refl
found_none read (Some bytes) x is f = absurd (subst (λ (y : Option (Vec ℕ Global)). Finds (Some bytes) 16777216 (Ok y)) is f)

found_some : {X : Type 0} (read : List ℕ → Present X) (o : Option (List ℕ)) (x : Option (Vec ℕ Global)) (v : Vec ℕ Global) → x ≡ Some v → Finds o 16777216 (Ok x) → within read o ≡ read v.items
found_some read None x v is f = absurd (subst (λ (y : Option (Vec ℕ Global)). Finds None 16777216 (Ok y)) is f)
found_some read (Some bytes) x v is f =
    let g : Finds (Some bytes) 16777216 (Ok (Some v)) = subst (λ (y : Option (Vec ℕ Global)). Finds (Some bytes) 16777216 (Ok y)) is f in
    held (leb (length bytes) 16777216) ((le_decides (length bytes) 16777216).1 g.1) (read bytes) ∙ ap read (sym g.0)

found_long : {X : Type 0} (read : List ℕ → Present X) (o : Option (List ℕ)) (e : FolderFault) → e ≡ fault.Long → Finds o 16777216 (Err e) → within read o ≡ TooLong
found_long read None e is f = absurd (subst (λ (y : FolderFault). Finds None 16777216 (Err y)) is f)
found_long read (Some bytes) e is f =
    let g : 16777216 < length bytes = subst (λ (y : FolderFault). Finds (Some bytes) 16777216 (Err y)) is f in
    beyond (leb (length bytes) 16777216) (λ t. let h : length bytes ≤ 16777216 = (le_decides (length bytes) 16777216).0 t in absurd (omega (arith, g, h))) (read bytes)

pub none_found : {X : Type 0} (read : List ℕ → Present X) (files : List ℕ → Option (List ℕ)) (name text : List ℕ) (x : Option (Vec ℕ Global)) → text ≡ name → x ≡ None → Finds (files text) 16777216 (Ok x) → within read (files name) ≡ NotThere
none_found read files name text x t is f = found_none read (files name) x is (subst (λ (l : List ℕ). Finds (files l) 16777216 (Ok x)) t f)

pub some_found : {X : Type 0} (read : List ℕ → Present X) (files : List ℕ → Option (List ℕ)) (name text : List ℕ) (x : Option (Vec ℕ Global)) (v : Vec ℕ Global) → text ≡ name → x ≡ Some v → Finds (files text) 16777216 (Ok x) → within read (files name) ≡ read v.items
some_found read files name text x v t is f = found_some read (files name) x v is (subst (λ (l : List ℕ). Finds (files l) 16777216 (Ok x)) t f)

pub long_found : {X : Type 0} (read : List ℕ → Present X) (files : List ℕ → Option (List ℕ)) (name text : List ℕ) (e : FolderFault) → text ≡ name → e ≡ fault.Long → Finds (files text) 16777216 (Err e) → within read (files name) ≡ TooLong
long_found read files name text e t is f = found_long read (files name) e is (subst (λ (l : List ℕ). Finds (files l) 16777216 (Err e)) t f)

-- ---- the bytes

none_of : {A : Type 0} (o : Option A) → ((x : A) → o ≡ Some x → ⊥) → o ≡ None
none_of None h = refl
none_of (Some x) h = absurd (h x refl)

pub face_spelled : (bytes : List ℕ) (f : Interface) → face_form.fits f → bytes ≡ face_form.spell f → whole face_form bytes ≡ Some f
face_spelled bytes f fits is = ap (whole face_form) is ∙ whole_again face_form face_exact f fits

pub no_face : (bytes : List ℕ) → IsBytes bytes → ((f : Interface) → face_form.fits f → bytes ≡ face_form.spell f → ⊥) → whole face_form bytes ≡ None
no_face bytes are h = none_of (whole face_form bytes) (λ f e. let u = whole_found face_form face_exact bytes f are e in h f u.0 u.1)

pub file_spelled : (bytes : List ℕ) (f : ObjFile) → object_form.fits f → bytes ≡ object_form.spell f → whole object_form bytes ≡ Some f
file_spelled bytes f fits is = ap (whole object_form) is ∙ whole_again object_form file_exact f fits

pub no_file : (bytes : List ℕ) → IsBytes bytes → ((f : ObjFile) → object_form.fits f → bytes ≡ object_form.spell f → ⊥) → whole object_form bytes ≡ None
no_file bytes are h = none_of (whole object_form bytes) (λ f e. let u = whole_found object_form file_exact bytes f are e in h f u.0 u.1)
