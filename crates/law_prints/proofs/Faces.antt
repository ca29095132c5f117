-- Interfaces whose uses keep prints for texts have the same objects, and their prints are those of the texts.
use Rattle.std.proofs.Common.{◌≡◌, ℕ, ◌+◌, Bool, true, false, cond, List, [], ◌∷◌, Option, Some, None, length, refl, ap, ◌∙◌}
use Rattle.std.specs.Prelude.{map as each, bytes_eq}
use Rattle.std.specs.Option.{option_map}
use Rattle.ob_format.specs.Format.{◌>>=◌}
use Rattle.ob_tree.specs.declared.names.QName.{QName}
use Rattle.ob_tree.specs.declared.print.Print.{Print}
use Rattle.ob_types.specs.declared.desc.Desc.{Desc}
use Rattle.ob_types.specs.declared.face.Aspect.{Aspect}
use Rattle.ob_desc.specs.Grammar.{text_of}
use Rattle.ob_fprint.specs.Print.{print_from}
use Rattle.ob_env.specs.Faces.{Face, object_named, face_named, described, text_in, print_in, printed}
use Rattle.ob_env.specs.Fit.{count_of, steps_of}
use Rattle.ob_env.specs.Shown.{blank, shown}
use Rattle.law_prints.specs.Printed.{Text}

named : (fs : List (Face Text)) (m : List ℕ) → face_named (each printed fs) m ≡ option_map printed (face_named fs m)
named [] m = refl
named (f ∷ fs) m = go (bytes_eq m f.«module») (named fs m)
  where
    go : (b : Bool) → face_named (each printed fs) m ≡ option_map printed (face_named fs m) → cond b (Some (printed f)) (face_named (each printed fs) m) ≡ option_map printed (cond b (Some f) (face_named fs m))
    go true e = refl
    go false e = e

described_at : (fs : List (Face Text)) (q : QName) → described (each printed fs) q ≡ described fs q
described_at fs q = ap (λ (o : Option (Face Print)). o >>= λ f. object_named f.objects q.object) (named fs q.«module») ∙ go (face_named fs q.«module»)
  where
    go : (o : Option (Face Text)) → (option_map printed o >>= λ f. object_named f.objects q.object) ≡ (o >>= λ f. object_named f.objects q.object)
    go None = refl
    go (Some f) = refl

-- the map says the same
pub described_same : (fs : List (Face Text)) → described (each printed fs) ≡ described fs
described_same fs = λ i q. described_at fs q i

pub shown_same : (fs : List (Face Text)) → shown (each printed fs) ≡ shown fs
shown_same fs = λ i q. option_map blank (described_at fs q i)

-- an object and aspect has the print of its text
pub print_is : (fs : List (Face Text)) (q : QName) (a : Aspect) → print_in (each printed fs) q a ≡ option_map print_from (text_in fs q a)
print_is fs q a = ap (λ (o : Option Desc). option_map print_from (o >>= λ d. text_of q d a)) (described_at fs q)

pub count_same : (fs : List (Face Text)) → count_of (each printed fs) ≡ count_of fs
count_same [] = refl
count_same (f ∷ fs) = ap (λ n. length f.objects + n) (count_same fs)

pub steps_same : (fs : List (Face Text)) → steps_of (each printed fs) ≡ steps_of fs
steps_same fs = ap (λ n. 201 + n) (count_same fs)
