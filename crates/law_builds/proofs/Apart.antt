-- The names in a valid build.
use Rattle.std.proofs.Common.{◌≡◌, ℕ, Bool, true, false, cond, List, [], ◌∷◌, Option, Some, None, refl, sym, ap, ◌∙◌}
use Rattle.std.specs.Prelude.{bytes_eq}
use Rattle.std.proofs.lemmas.Slice.Eq.{bytes_eq-Decides}
use Rattle.ob_env.specs.Faces.{Face, face_named}
use Rattle.ob_env_walk.specs.Walk.{Holds}
use Rattle.ob_compile_model.specs.Compiling.{Compiled}
use Rattle.law_names_procedures.specs.Named.{AreEntriesNamed, AreNamedApart}
use Rattle.law_names_procedures.proofs.Compiled.{compiled_apart}
use Rattle.ob_builds.specs.Builds.{Text, Build, IsValid, entry_of}

found_named : (fs : List (Face Text)) (m : List ℕ) (f : Face Text) → face_named fs m ≡ Some f → f.«module» ≡ m
found_named [] m f e = absurd cc
found_named (g ∷ fs) m f e = go (bytes_eq m g.«module») refl (λ i. found_named fs m f i) e
  where
    go : (b : Bool) → bytes_eq m g.«module» ≡ b → (face_named fs m ≡ Some f → f.«module» ≡ m) → cond b (Some g) (face_named fs m) ≡ Some f → f.«module» ≡ m
    go true i more e = let j : g ≡ f = cc in sym ((bytes_eq-Decides m g.«module»).0 i ∙ ap (λ (h : Face Text). h.«module») j)
    go false i more e = more e

pub entry_named : (fs : List (Face Text)) → AreEntriesNamed (λ name. entry_of (face_named fs name))
entry_named fs m f e = go (face_named fs m) refl e
  where
    go : (o : Option (Face Text)) → face_named fs m ≡ o → entry_of o ≡ Holds f → f.«module» ≡ m
    go None i h = absurd cc
    go (Some g) i h = let j : g ≡ f = cc in found_named fs m f (i ∙ ap (λ x. Some x) j)

-- it is not named Out, and its procedures have different names
pub build_apart : (b : Build) (c : Compiled Text) → IsValid b c → AreNamedApart c
build_apart b c v = compiled_apart (λ name. entry_of (face_named b.against name)) (entry_named b.against) (Some b.source) c v.is
