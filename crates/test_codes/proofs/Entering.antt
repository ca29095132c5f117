-- A file without links can be entered into a machine without modules, and its body can be run.
use Rattle.std.proofs.Common.{◌≡◌, ℕ, ◌+◌, ◌≤◌, List, [], ◌∷◌, length, refl, arith, subst, sym, ap}
use Rattle.std.specs.Prelude.{Bool, true, false, Some, IsTrue, IsSome, slice_get, nat_eq, ◌&&◌, not}
use Rattle.ob_tree.specs.declared.proc_ref.ProcRef.{ProcRef}
use Rattle.std.specs.List.{AllByRecursion}
use Rattle.std.proofs.lemmas.Bool.{false≢true}
use Rattle.std.proofs.lemmas.Bool.Decides.{nat_tests}
use Rattle.ob_tree.specs.declared.names.QName.{QName}
use Rattle.ob_instr.specs.declared.procedure.Param.{Param}
use Rattle.ob_instr.specs.declared.procedure.Procedure.{Procedure}
use Rattle.ob_instr.specs.Image.{Image}
use Rattle.ob_obj.specs.declared.parts.Link.{Link}
use Rattle.ob_obj.specs.declared.file.ObjFile.{ObjFile}
use Rattle.ob_obj.specs.Grammar.{file, globals, body, words_of, begins_with_body, IsSound}
use Rattle.ob_obj.specs.Images.{image_of, linked_variable, linked_procedure, linked_type, IsEnterable, AreEnterable}
use Rattle.ob_machine.specs.Machine.{made, IsEntry}
use Rattle.test_codes.specs.Alone.{HasNoLinks}

sound : (f : ObjFile) → file.fits f → IsSound f
unfolding file
sound f fits = fits.1

few_words : (f : ObjFile) → file.fits f → f.globals.variable_words + words_of f.globals.strings ≤ 262144
unfolding file globals
few_words f fits = fits.0.1.0.1

few_types : (f : ObjFile) → file.fits f → length f.body.types ≤ 1048576
unfolding file body
few_types f fits = fits.0.1.1.1.0.1.0

pub alone : (heap : ℕ) (f : ObjFile) → file.fits f → HasNoLinks f → AreEnterable (made heap).image (f ∷ [])
alone heap f fits n = (
  record {
    fits = fits;
    new = refl;
    variables = subst (AllByRecursion (λ l. IsSome (linked_variable [] l))) (sym n.variables) tt;
    procedures = subst (AllByRecursion (λ l. IsSome (linked_procedure [] l))) (sym n.procedures) tt;
    types = subst (AllByRecursion (λ q. IsSome (linked_type [] q))) (sym n.types) tt;
    room = omega (arith, few_words f fits);
    few = omega arith;
    few_types = omega (arith, few_types f fits);
  },
  tt,
)

-- the first procedure is the body
is_body : (params : List Param) (has : Bool) → IsTrue (nat_eq (length params) 0 && not has) → (params ≡ []) × (has ≡ false)
is_body [] false t = (refl, refl)
is_body [] true t = absurd (false≢true t)
is_body (p ∷ params) true t = absurd (grind (t, arith, nat_tests))
is_body (p ∷ params) false t = absurd (grind (t, arith, nat_tests))

first_of : (l : List Procedure) → IsTrue (begins_with_body l) → (q : Procedure) × (slice_get l 0 ≡ Some q) × (q.params ≡ []) × (q.has_result ≡ false)
first_of [] t = absurd (false≢true t)
first_of (q ∷ l) t = let b = is_body q.params q.has_result t in (q, refl, b.0, b.1)

pub entry : (heap : ℕ) (f : ObjFile) (img : Image) → file.fits f → img ≡ image_of (made heap).image (f ∷ []) → IsEntry img (record { «module» = 0; proc = 0 })
entry heap f img fits e =
    let b = first_of f.body.procedures (sound f fits).main in
    subst (λ (i : Image). IsEntry i (record { «module» = 0; proc = 0 })) (sym e) (record { procedure = b.0; there = b.1; params = b.2; no_result = b.3 })
