-- What a build and its interface are read back as.
use Rattle.std.proofs.Common.{◌≡◌, ℕ, ◌<◌, ◌≤◌, List, [], ◌∷◌, length, Bool, true, false, refl, ap, ◌∙◌, arith, Some}
use Rattle.std.specs.Prelude.{map, nat_le}
use Rattle.std.proofs.lemmas.Bool.{leb-true}
use Rattle.ob_tree.specs.declared.print.Print.{Print}
use Rattle.ob_format.specs.Format.{whole}
use Rattle.ob_format.specs.Exact.{whole_again}
use Rattle.ob_types.specs.declared.desc.Desc.{Desc}
use Rattle.ob_sym.specs.Grammar.{face as face_form}
use Rattle.ob_sym.specs.Laws.{face_exact}
use Rattle.ob_env.specs.Faces.{Face, Wanted, face_of, object_of, use_of, wanted_of, interface_of}
use Rattle.ob_env_walk.specs.Walk.{file_limit}
use Rattle.ob_compile_model.specs.Compiling.{Compiled, texts, interface_by, symbol_bytes}
use Rattle.ob_builds.specs.Builds.{Text, Build, IsValid, or_none, of, symbols_of}
use Rattle.ob_builds.specs.Written.{IsWritten}
use Rattle.law_builds.proofs.Compiled.{comes, short}

-- a build is what it compiles to
pub of_is : (b : Build) (c : Compiled Text) → IsValid b c → of b ≡ c
of_is b c v = ap or_none v.is

-- ---- an interface behind its file

objects_back : (m : List ℕ) (os : List (List ℕ × Desc)) → map (λ o. (o.name, o.desc)) (map (object_of m) os) ≡ os
objects_back m [] = refl
objects_back m (o ∷ os) = ap (λ r. o ∷ r) (objects_back m os)

pub uses_back : (us : List (Wanted Print)) → map wanted_of (map use_of us) ≡ us
uses_back [] = refl
uses_back (u ∷ us) = ap (λ r. u ∷ r) (uses_back us)

abbrev with_parts : Face Print → List (List ℕ × Desc) → List (Wanted Print) → Face Print
with_parts f os us = record { «module» = f.«module»; imports = f.imports; objects = os; uses = us }

pub face_back : (f : Face Print) → face_of (interface_of f) ≡ f
face_back f = ap (λ os. with_parts f os (map wanted_of (map use_of f.uses))) (objects_back f.«module» f.objects) ∙ ap (λ us. with_parts f f.objects us) (uses_back f.uses)

-- ---- bytes

pub not_beyond : (n limit : ℕ) → limit < n → nat_le n limit ≡ false
not_beyond n limit h = go (nat_le n limit) refl
  where
    go : (b : Bool) → nat_le n limit ≡ b → nat_le n limit ≡ false
    go true e = let k = leb-true n limit e in absurd (omega (arith, h, k))
    go false e = e

pub within_limit : (n limit : ℕ) → n ≤ limit → nat_le n limit ≡ true
within_limit n limit h = grind (arith, h)

-- ---- the symbol file of a build

pub whole_symbols : (b : Build) (c : Compiled Text) → IsValid b c → IsWritten c → whole face_form (symbols_of b) ≡ Some (interface_by texts c)
whole_symbols b c v w = ap (λ x. whole face_form (symbol_bytes texts x)) (of_is b c v) ∙ whole_again face_form face_exact (interface_by texts c) w.symbols

pub short_symbols : (b : Build) (c : Compiled Text) → IsValid b c → nat_le (length (symbols_of b)) file_limit ≡ true
short_symbols b c v = ap (λ x. nat_le (length (symbol_bytes texts x)) file_limit) (of_is b c v) ∙ (short texts c (comes texts _ (Some b.source) c v.is).limits).1
