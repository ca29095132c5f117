-- The first object that does not fit, where all else of it does.
use Rattle.std.proofs.Common.{◌≡◌, ◌⊎◌, inl, inr, ℕ, Bool, true, false, cond, not, List, [], ◌∷◌, Option, Some, None, refl, sym, ap, subst, ◌∙◌}
use Rattle.std.specs.Prelude.{◌&&◌, ◌||◌, bytes_eq}
use Rattle.std.specs.Cmp.Lexicographic.{bytes_decides}
use Rattle.ob_tree.specs.declared.names.QName.{QName}
use Rattle.ob_types.specs.declared.types.TypeRef.TheVariants as ref
use Rattle.ob_types.specs.declared.desc.Desc.{Desc}
use Rattle.ob_types.specs.declared.desc.Desc.TheVariants as desc
use Rattle.ob_types.specs.Maps.{is_type}
use Rattle.ob_env.specs.Faces.{Face, face_named}
use Rattle.ob_env.specs.Fit.{is_within, names_types, has_bases, keeps_places, has_few_words, has_few_procedures, covers_base, has_fields_inside, has_own_numbers, has_distinct_names, is_sound_record, stands, fits, misfit, unless}
use Rattle.ob_env.specs.Stale.{first_among}
use Rattle.ob_layout.specs.Lists.{or_else}
use Rattle.law_typing_forms.specs.Said.{IsOneOf}
use Rattle.ob_builds.specs.Builds.{Text, Build, shows_of}
use Rattle.ob_link.specs.Plan.{Entry, Holds}
use Rattle.ob_shell_model.specs.Library.{Library}
use Rattle.law_unfit.specs.Unfit.{is_sized, fits_else, IsDeep, IsTwice, IsUnfit}
use Rattle.law_unfit.proofs.Around.{IsOf}

-- ---- what does not fit, where all else does

deep_or : (types : QName → Option Desc) (steps : ℕ) (q : QName) (d : Desc) → stands types steps q d ≡ false → IsDeep types q d
deep_or types steps q d e = by (is_type d) (is_within types 201 (ref.Named q)) refl refl e
  where
    by : (t w : Bool) → is_type d ≡ t → is_within types 201 (ref.Named q) ≡ w → (not t || w) ≡ false → IsDeep types q d
    by true false i j h = (i, j)
    by true true i j h = absurd cc
    by false w i j h = absurd cc

record_else : (few covers inside numbers names : Bool) → (few && (covers && (inside && numbers))) ≡ true → (few && (covers && (inside && (numbers && names)))) ≡ false → names ≡ false
record_else true true true true n h e = e
record_else true true true false n h e = absurd cc
record_else true true false m n h e = absurd cc
record_else true false i m n h e = absurd cc
record_else false c i m n h e = absurd cc

twice_or : (types : QName → Option Desc) (steps : ℕ) (d : Desc) → is_sized types steps d ≡ true → is_sound_record types steps d ≡ false → IsTwice types steps d
twice_or types steps (desc.Record r) h e = record { r = r; is = refl; twice = record_else (has_few_procedures types steps r) (covers_base types steps r) (has_fields_inside types steps r) (has_own_numbers types steps r) (has_distinct_names types steps r) h e }
twice_or types steps (desc.Alias m u) h e = absurd cc
twice_or types steps (desc.Array m n u) h e = absurd cc
twice_or types steps (desc.OpenArray m u) h e = absurd cc
twice_or types steps (desc.Const v) h e = absurd cc
twice_or types steps (desc.Var m u) h e = absurd cc
twice_or types steps (desc.Proc s) h e = absurd cc
twice_or types steps (desc.Pointer m u) h e = absurd cc
twice_or types steps (desc.ProcType m s) h e = absurd cc

unfit_by : (n b p w z s r : Bool) → (n && (b && (p && (w && z)))) ≡ true → (n && (s && (b && (p && (w && r))))) ≡ false → (s ≡ false) ⊎ ((z ≡ true) × (r ≡ false))
unfit_by true true true true true false r h e = inl refl
unfit_by true true true true true true r h e = inr (refl, e)
unfit_by true true true true false s r h e = absurd cc
unfit_by true true true false z s r h e = absurd cc
unfit_by true true false w z s r h e = absurd cc
unfit_by true false p w z s r h e = absurd cc
unfit_by false b p w z s r h e = absurd cc

pub unfit_so : (types : QName → Option Desc) (steps : ℕ) (q : QName) (d : Desc) → types q ≡ Some d → fits_else types steps q d ≡ true → fits types steps q d ≡ false → IsUnfit types steps q
unfit_so types steps q d i h e =
    by (unfit_by (names_types types steps d) (has_bases types steps d) (keeps_places types steps d) (has_few_words types steps q d) (is_sized types steps d) (stands types steps q d) (is_sound_record types steps d) h e)
  where
    by : (stands types steps q d ≡ false) ⊎ ((is_sized types steps d ≡ true) × (is_sound_record types steps d ≡ false)) → IsUnfit types steps q
    by (inl s) = record { d = d; is = i; why = inl (deep_or types steps q d s) }
    by (inr r) = record { d = d; is = i; why = inr (twice_or types steps d r.0 r.1) }

-- ---- the first

unfoldable pub at_name : List ℕ → List ℕ → QName
at_name m x = record { «module» = m; object = x }

some_name : (p q : QName) → Some p ≡ Some q → p ≡ q
some_name p q e = cc

-- an object of these that does not fit
pub record FirstObject (types : QName → Option Desc) (steps : ℕ) (m : List ℕ) (os : List (List ℕ × Desc)) (q : QName) : Type 0 where
  pub o : List ℕ × Desc
  pub there : IsOneOf os o
  pub name : q ≡ at_name m o.0
  pub unfit : fits types steps q o.1 ≡ false

first_object : (types : QName → Option Desc) (steps : ℕ) (m : List ℕ) (os : List (List ℕ × Desc)) (q : QName) → first_among (misfit types steps m) os ≡ Some q → FirstObject types steps m os q
unfolding at_name
first_object types steps m [] q e = absurd cc
first_object types steps m (o ∷ os) q e = by (fits types steps (at_name m o.0) o.1) refl e (first_object types steps m os q)
  where
    by : (b : Bool) → fits types steps (at_name m o.0) o.1 ≡ b → or_else (unless b (at_name m o.0)) (first_among (misfit types steps m) os) ≡ Some q → (first_among (misfit types steps m) os ≡ Some q → FirstObject types steps m os q) → FirstObject types steps m (o ∷ os) q
    by true i h r = let k = r h in record { o = k.o; there = inr k.there; name = k.name; unfit = k.unfit }
    by false i h r =
        let same : at_name m o.0 ≡ q = some_name (at_name m o.0) q h in
        record { o = o; there = inl refl; name = sym same; unfit = subst (λ p. fits types steps p o.1 ≡ false) same i }

pub record FirstFace (types : QName → Option Desc) (steps : ℕ) (fs : List (Face Text)) (q : QName) : Type 0 where
  pub f : Face Text
  pub there : IsOneOf fs f
  pub object : FirstObject types steps f.«module» f.objects q

pub first_face : (types : QName → Option Desc) (steps : ℕ) (fs : List (Face Text)) (q : QName) → first_among (λ (f : Face Text). first_among (misfit types steps f.«module») f.objects) fs ≡ Some q → FirstFace types steps fs q
first_face types steps [] q e = absurd cc
first_face types steps (f ∷ fs) q e = by (first_among (misfit types steps f.«module») f.objects) refl e (first_face types steps fs q)
  where
    by : (o : Option QName) → first_among (misfit types steps f.«module») f.objects ≡ o → or_else o (first_among (λ (f : Face Text). first_among (misfit types steps f.«module») f.objects) fs) ≡ Some q → (first_among (λ (f : Face Text). first_among (misfit types steps f.«module») f.objects) fs ≡ Some q → FirstFace types steps fs q) → FirstFace types steps (f ∷ fs) q
    by None i h r = let k = r h in record { f = k.f; there = inr k.there; object = k.object }
    by (Some p) i h r = record { f = f; there = inl refl; object = first_object types steps f.«module» f.objects q (i ∙ h) }

-- one of the name of an interface is there
pub named_there : (fs : List (Face Text)) (f : Face Text) → IsOneOf fs f → (g : Face Text) × (face_named fs f.«module» ≡ Some g)
named_there [] f i = absurd i
named_there (h ∷ hs) f (inl e) = (h, ap (λ b. cond b (Some h) (face_named hs f.«module»)) ((bytes_decides f.«module» h.«module»).1 (ap (λ (x : Face Text). x.«module») (sym e))))
named_there (h ∷ hs) f (inr i) = by (bytes_eq f.«module» h.«module») (named_there hs f i)
  where
    by : (b : Bool) → (g : Face Text) × (face_named hs f.«module» ≡ Some g) → (g : Face Text) × (cond b (Some h) (face_named hs f.«module») ≡ Some g)
    by true k = (h, refl)
    by false k = k

unfoldable pub held_build : Build → Entry Build → Build
held_build d (Holds b) = b
held_build d e = d

-- in a library two interfaces of one name are the same
pub same_face : (l : Library) (f g : Face Text) → IsOf l f → IsOf l g → f.«module» ≡ g.«module» → g ≡ f
unfolding held_build
same_face l f g p q e =
    let b = p.1.build in
    let holds : l.symbols q.0 ≡ Holds b = ap l.symbols (sym q.1.named ∙ sym e ∙ p.1.named) ∙ p.1.holds in
    let same : q.1.build ≡ b = ap (held_build b) (sym q.1.holds ∙ holds) in
    sym q.1.shows ∙ ap shows_of same ∙ p.1.shows
