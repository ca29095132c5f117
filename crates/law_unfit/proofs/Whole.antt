-- The interfaces of builds that agree fit one another, but for chains that are too long and names that are twice.
use Rattle.std.proofs.Common.{◌≡◌, ℕ, zero, suc, ◌+◌, ◌≤◌, Bool, true, false, not, List, Option, Some, None, refl, sym, ap, subst, ◌∙◌, arith, Err}
use Rattle.std.specs.Prelude.{◌||◌, nat_le, bytes_eq}
use Rattle.std.specs.List.{AllByRecursion}
use Rattle.std.proofs.lemmas.Bool.{false≢true}
use Rattle.ob_tree.specs.declared.names.QName.{QName}
use Rattle.ob_types.specs.declared.types.Basic.{Basic}
use Rattle.ob_types.specs.declared.types.TypeRef.{TypeRef}
use Rattle.ob_types.specs.declared.types.TypeRef.TheVariants as ref
use Rattle.ob_types.specs.declared.desc.Desc.{Desc}
use Rattle.ob_types.specs.declared.desc.Desc.TheVariants as desc
use Rattle.ob_types.specs.Maps.{is_type}
use Rattle.ob_format.specs.Format.{◌>>=◌}
use Rattle.ob_layout.specs.Words.{described_words, words_within, words_of, most_words}
use Rattle.ob_env.specs.Faces.{Face, object_named, face_named, described, text_in}
use Rattle.ob_env.specs.Fit.{is_within, has_few_words, steps_of, first_unfit}
use Rattle.ob_uses_roots.specs.Counts.{own_name}
use Rattle.ob_uses.specs.Objects.{objects_of}
use Rattle.law_spelling.proofs.Objects.{objects_rise}
use Rattle.law_typing_forms.specs.Said.{IsOneOf}
use Rattle.law_typing_forms.proofs.Modules.{of_all}
use Rattle.law_builds_types.proofs.closed_laws.Objects.{exact}
use Rattle.law_lists.proofs.Lists.{both_true}
use Rattle.ob_builds.specs.Builds.{Text, Build, of, tree_of}
use Rattle.ob_link.specs.Plan.{Holds}
use Rattle.ob_compile_model.specs.Compiling.{NoFit, compiled, texts}
use Rattle.ob_env.specs.Stale.{first_stale}
use Rattle.ob_env_walk.specs.Walk.{Left, walk}
use Rattle.ob_shell_model.specs.Model.{interface_in}
use Rattle.ob_shell_model.specs.Library.{Library, IsLibrary}
use Rattle.law_builds.proofs.Faces.{within_limit}
use Rattle.law_typing_env.specs.Shallow.{passes_to, IsShallow}
use Rattle.law_unfit.specs.Unfit.{is_sized, fits_else, IsDeep, IsUnfit, IsOfThisAge, FitElse, IsRefusedFor, BuildsFitElse}
use Rattle.law_unfit.proofs.Around.{IsOf, named_has, Agreed, Described, agreed_of, is_described}
use Rattle.law_unfit.proofs.Built.{shown_objects, valid, type_short, OwnType, own_type, own_line, type_words, type_sizes, objects_good, names_fit, bases_fit, places_fit, name_is}
use Rattle.law_unfit.proofs.Words.{Line}
use Rattle.law_unfit.proofs.Refused.{no_fit, by_compile}
use Rattle.law_unfit.proofs.First.{unfit_so, at_name, first_face, same_face, named_there, held_build}

module _ (l : Library) (faces : List (Face Text)) (a : Agreed l faces) where
  -- the type of a name among them
  module _ (q : QName) (d : Desc) (k : Described l faces q d) (ty : is_type d ≡ true) where
    type_at : OwnType faces a.spelled a.out k.build k.compiled k.valid k.met k.here q.object d
    type_at = own_type faces a.spelled a.out k.build k.compiled k.valid k.met k.here q.object d k.object ty

    name_at : own_name (tree_of k.build) type_at.t ≡ q
    name_at =
        ap (λ (y : List ℕ). let p : QName = record { «module» = (tree_of k.build).name; object = y } in p) type_at.name
        ∙ ap (λ (y : List ℕ). let p : QName = record { «module» = y; object = q.object } in p) (sym (name_is faces a.spelled a.out k.build k.compiled k.valid k.met k.here) ∙ sym k.name)

  -- ---- words

  words_few : (m n : ℕ) → m + n ≡ 201 → (q : QName) (d : Desc) → described faces q ≡ Some d → IsShallow (described faces) n (ref.Named q) → words_within (described faces) n (ref.Named q) ≤ most_words
  unfolding IsShallow
  words_few m zero e q d i line = absurd line
  words_few m (suc n) e q d i line =
      let k = is_described l faces a q d i in
      let at : Line (described faces) n (Some d) = subst (Line (described faces) n) i line in
      let t = type_at q d k at.0 in
      subst (λ o. described_words (words_within (described faces) n) o ≤ most_words) (sym i)
      (type_words faces a.spelled a.out k.build k.compiled k.valid k.met k.here t.t t.there t.reached (suc m) n (omega (arith, e)) d t.is at.1 (λ c u is. one (λ p d i h. words_few (suc m) n (omega (arith, e)) p d i h) u (subst (λ x. AllByRecursion (λ u. IsShallow (described faces) n u) (passes_to x)) is at.1).0))
    where
      basic : (n : ℕ) (b : Basic) → words_within (described faces) n (ref.Basic b) ≤ most_words
      basic zero b = omega arith
      basic (suc n) b = omega arith

      there : (n : ℕ) (p : QName) (o : Option Desc) → described faces p ≡ o → IsShallow (described faces) n (ref.Named p) → (d : Desc) × (described faces p ≡ Some d)
      there zero p o i h = absurd h
      there (suc n) p None i h = absurd (subst (Line (described faces) n) i h)
      there (suc n) p (Some d) i h = (d, i)

      one : ((p : QName) (d : Desc) → described faces p ≡ Some d → IsShallow (described faces) n (ref.Named p) → words_within (described faces) n (ref.Named p) ≤ most_words) → (u : TypeRef) → IsShallow (described faces) n u → words_within (described faces) n u ≤ most_words
      one r (ref.Basic b) h = basic n b
      one r (ref.Named p) h = let t = there n p (described faces p) refl h in r p t.0 t.1 h

  few_fit : (q : QName) (d : Desc) → described faces q ≡ Some d → has_few_words (described faces) (steps_of faces) q d ≡ true
  few_fit q d i = by (is_type d) refl
    where
      by : (t : Bool) → is_type d ≡ t → (not t || nat_le (words_of (described faces) (ref.Named q)) most_words) ≡ true
      by false ty = refl
      by true ty =
          let k = is_described l faces a q d i in
          let t = type_at q d k ty in
          let line : IsShallow (described faces) 201 (ref.Named q) = subst (λ p. IsShallow (described faces) 201 (ref.Named p)) (name_at q d k ty) (own_line faces a.spelled a.out k.build k.compiled k.valid k.met k.here t.t t.there t.reached) in
          within_limit (words_of (described faces) (ref.Named q)) most_words (words_few 0 201 refl q d i line)

  sized_fit : (q : QName) (d : Desc) → described faces q ≡ Some d → is_sized (described faces) (steps_of faces) d ≡ true
  sized_fit q d i = by d refl
    where
      at : (y : Desc) → d ≡ y → is_type y ≡ true → is_sized (described faces) (steps_of faces) y ≡ true
      at y e ty =
          let k = is_described l faces a q d i in
          let t = type_at q d k (ap is_type e ∙ ty) in
          type_sizes faces a.spelled a.out k.build k.compiled k.valid k.met k.here t.t t.there t.reached (steps_of faces) (omega arith) y (t.is ∙ e)

      by : (y : Desc) → d ≡ y → is_sized (described faces) (steps_of faces) d ≡ true
      by (desc.Record r) e = ap (is_sized (described faces) (steps_of faces)) e ∙ at (desc.Record r) e refl
      by (desc.Alias m u) e = ap (is_sized (described faces) (steps_of faces)) e
      by (desc.Array m n u) e = ap (is_sized (described faces) (steps_of faces)) e
      by (desc.OpenArray m u) e = ap (is_sized (described faces) (steps_of faces)) e
      by (desc.Const v) e = ap (is_sized (described faces) (steps_of faces)) e
      by (desc.Var m u) e = ap (is_sized (described faces) (steps_of faces)) e
      by (desc.Proc s) e = ap (is_sized (described faces) (steps_of faces)) e
      by (desc.Pointer m u) e = ap (is_sized (described faces) (steps_of faces)) e
      by (desc.ProcType m s) e = ap (is_sized (described faces) (steps_of faces)) e

  pub else_fits : (q : QName) (d : Desc) → described faces q ≡ Some d → fits_else (described faces) (steps_of faces) q d ≡ true
  else_fits q d i =
      let k = is_described l faces a q d i in
      let g = objects_good faces a.spelled a.out k.build k.compiled k.valid k.met k.here q.object d k.object in
      let n = steps_of faces in
      both_true _ _ (names_fit faces a.spelled a.out k.build k.compiled k.valid k.met k.here n (omega arith) d g)
      (both_true _ _ (bases_fit faces a.spelled a.out k.build k.compiled k.valid k.met k.here n (omega arith) d g)
      (both_true _ _ (places_fit faces a.spelled a.out k.build k.compiled k.valid k.met k.here n (omega arith) d g)
      (both_true _ _ (few_fit q d i) (sized_fit q d i))))

module _ (l : Library) (faces : List (Face Text)) (a : Agreed l faces) where
  here : (f : Face Text) → IsOneOf faces f → face_named faces f.«module» ≡ Some f
  here f i =
      let n = named_there faces f i in
      let g = named_has (IsOf l) faces f.«module» n.0 a.builds n.1 in
      n.1 ∙ ap (λ (x : Face Text). Some x) (same_face l f n.0 (of_all (IsOf l) faces f a.builds i) g.has g.name)

  object_here : (f : Face Text) → IsOneOf faces f → (o : List ℕ × Desc) → IsOneOf f.objects o → object_named f.objects o.0 ≡ Some o.1
  object_here f i o j =
      let k = (of_all (IsOf l) faces f a.builds i).1 in
      let objects : f.objects ≡ objects_of (tree_of k.build) = ap (λ (x : Face Text). x.objects) (sym k.shows) ∙ shown_objects k.build k.compiled k.valid in
      ap (λ os. object_named os o.0) objects ∙ exact (objects_of (tree_of k.build)) o (objects_rise (tree_of k.build)) (subst (λ os. IsOneOf os o) objects j)

  first_unfit_is : (q : QName) → first_unfit faces ≡ Some q → IsUnfit (described faces) (steps_of faces) q
  unfolding at_name
  first_unfit_is q e =
      let k = first_face (described faces) (steps_of faces) faces q e in
      let o = k.object.o in
      let i : described faces q ≡ Some o.1 =
      ap (described faces) k.object.name ∙ ap (λ x. x >>= λ (f : Face Text). object_named f.objects o.0) (here k.f k.there) ∙ object_here k.f k.there o k.object.there in
      unfit_so (described faces) (steps_of faces) q o.1 i (else_fits l faces a q o.1 i) k.object.unfit

  not_deep : (q : QName) (d : Desc) → described faces q ≡ Some d → IsDeep (described faces) q d → (b : Build) → l.symbols q.«module» ≡ Holds b → IsOfThisAge faces b → ⊥
  unfolding held_build
  not_deep q d i deep b holds age =
      let k = is_described l faces a q d i in
      let t = type_at l faces a q d k deep.0 in
      let same : k.build ≡ b = ap (held_build b) (sym k.holds ∙ holds) in
      let whole = (valid faces a.spelled a.out k.build k.compiled k.valid k.met k.here).whole in
      let now : AllByRecursion (λ (f : Face Text). face_named faces f.«module» ≡ Some f) (of k.build).against = subst (λ fs. AllByRecursion (λ (f : Face Text). face_named faces f.«module» ≡ Some f) fs) (ap (λ (y : Build). y.against) (sym same) ∙ sym whole) age in
      let s = subst (λ p. is_within (described faces) 201 (ref.Named p) ≡ true) (name_at l faces a q d k deep.0) (type_short faces a.spelled a.out k.build k.compiled k.valid k.met k.here now t.t t.there t.reached) in
      false≢true (sym deep.1 ∙ s)

around_fits : (l : Library) → IsLibrary l → (root : List ℕ) (imports : List (List ℕ)) (faces : List (Face Text)) → walk (interface_in l) root imports ≡ Left faces → first_stale bytes_eq (text_in faces) faces ≡ None → FitElse l faces
around_fits l lib root imports faces w agree =
    let a = agreed_of l lib root imports faces w agree in
    record { else = else_fits l faces a; unfit = first_unfit_is l faces a; grown = not_deep l faces a }

refused_for : (l : Library) → IsLibrary l → (source : Option (List ℕ)) (q : QName) → compiled texts (interface_in l) source ≡ Err (NoFit q) → IsRefusedFor l q
unfolding no_fit
refused_for l lib source q e = by_compile (IsRefusedFor l) (interface_in l) (λ root imports faces w agree q i. record { root = root; imports = imports; faces = faces; walked = w; agree = agree; first = i; is = around_fits l lib root imports faces w agree }) source q (ap no_fit e)

pub builds_fit_else : BuildsFitElse
builds_fit_else l lib = record { around = around_fits l lib; refused = refused_for l lib }
