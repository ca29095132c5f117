-- What those before a build show is apart from it; and the fields of the records of a checked module differ.
use Rattle.std.proofs.Common.{◌≡◌, ◌≢◌, inl, inr, refl, sym, ap, subst, ◌∙◌, ℕ, Bool, true, false, cond, codes, List, [], ◌∷◌, map, Option, Some, None}
use Rattle.std.specs.Prelude.{Contains, bytes_eq}
use Rattle.std.specs.Option.{option_map}
use Rattle.std.specs.List.{AllByRecursion}
use Rattle.std.proofs.lemmas.Bool.{false≢true}
use Rattle.ob_tree.specs.declared.names.QName.{QName}
use Rattle.ob_types.specs.declared.desc.Desc.{Desc}
use Rattle.ob_types.specs.declared.desc.Desc.TheVariants as desc
use Rattle.ob_types.specs.declared.desc.Field.{Field}
use Rattle.ob_types.specs.declared.typed.TypedType.{TypedType}
use Rattle.ob_format.specs.Format.{◌>>=◌}
use Rattle.ob_env.specs.Faces.{Face, object_named, face_named}
use Rattle.ob_env.specs.Shown.{shown, blank}
use Rattle.ob_rules.specs.Names.{is_out, out_string}
use Rattle.law_simulation_relation.proofs.Names.{bytes_true}
use Rattle.ob_compile_model.specs.Compiling.{Compiled, texts}
use Rattle.law_typing_forms.specs.Said.{IsFreshName, HaveNames}
use Rattle.law_typing_env.specs.Views as view
use Rattle.law_names_distinct.specs.Distinct.{AreDistinct}
use Rattle.law_names_distinct.specs.Fields.{FieldsDiffer, AreApart}
use Rattle.law_acyclic.specs.Laws.{IsApart}
use Rattle.ob_builds.specs.Builds.{Text, Build, shows_of, name_of}
use Rattle.law_builds.proofs.Apart.{build_apart}
use Rattle.law_builds.proofs.Compiled.{comes}
use Rattle.law_builds.proofs.Members.{In, has_head, has_more}
use Rattle.law_builds.proofs.Faces.{of_is}
use Rattle.law_builds_loaded.proofs.inherited_laws.Loaded.{IsSome}

-- ---- names

pub not_same : (a b : List ℕ) → (a ≡ b → ⊥) → bytes_eq a b ≡ false
not_same a b h = by (bytes_eq a b) refl
  where
    by : (t : Bool) → bytes_eq a b ≡ t → t ≡ false
    by true e = absurd (h (bytes_true a b e))
    by false e = refl

names_there : (xs : List Build) (x : Build) → In xs x → Contains (map name_of xs) (name_of x)
names_there [] x i = absurd i
names_there (y ∷ xs) x (inl e) = subst (λ (z : Build). Contains (name_of y ∷ map name_of xs) (name_of z)) e (has_head (name_of y) (map name_of xs))
names_there (y ∷ xs) x (inr i) = has_more (name_of y) (map name_of xs) (name_of x) (names_there xs x i)

-- no build is of Out
named_apart : (x : Build) → IsSome x → is_out (name_of x) ≡ false
named_apart x v =
    subst (λ (y : Compiled Text). is_out y.shows.«module» ≡ false) (sym (of_is x v.0 v.1))
    (subst (λ (n : List ℕ). is_out n ≡ false) (subst (λ (y : Compiled Text). y.tree.name ≡ y.shows.«module») (sym (comes texts _ (Some x.source) v.0 v.1.is).is) refl) (build_apart x v.0 v.1).out)

no_face : (xs : List Build) (n : List ℕ) → ((x : Build) → In xs x → bytes_eq n (name_of x) ≡ false) → face_named (map shows_of xs) n ≡ None
no_face [] n h = refl
no_face (x ∷ xs) n h = ap (λ (b : Bool). cond b (Some (shows_of x)) (face_named (map shows_of xs) n)) (h x (inl refl)) ∙ no_face xs n (λ y i. h y (inr i))

pub shown_apart : (before : List Build) → ((x : Build) → In before x → IsSome x) → (unit : List ℕ) → (Contains (map name_of before) unit → ⊥) → IsApart (shown (map shows_of before)) unit
shown_apart before valid unit new = record {
  own = λ q e. none q (no_face before q.«module» (λ x i. not_same q.«module» (name_of x) (λ f. new (subst (Contains (map name_of before)) (sym f ∙ bytes_true q.«module» unit e) (names_there before x i)))));
  out = none out_string (no_face before (codes "Out") (λ x i. not_same (codes "Out") (name_of x) (λ f. false≢true (sym (named_apart x (valid x i)) ∙ ap is_out (sym f)))));
}
  where
    none : (q : QName) → face_named (map shows_of before) q.«module» ≡ None → shown (map shows_of before) q ≡ None
    none q e = ap (λ (o : Option (Face Text)). option_map blank (o >>= λ f. object_named f.objects q.object)) e

-- ---- fields

fresh : (x : List ℕ) (fs : List Field) → AllByRecursion (λ (f : Field). f.name ≢ x) fs → IsFreshName x fs
fresh x [] h = tt
fresh x (f ∷ fs) h = ((λ e. h.0 (sym e)), fresh x fs h.1)

have_names : (fs : List Field) → AreDistinct (λ (f : Field). f.name) fs → HaveNames fs
have_names [] h = tt
have_names (f ∷ fs) h = (fresh f.name fs h.0, have_names fs h.1)

fields_named : (d : Desc) → FieldsDiffer d → view.FieldsDiffer d
fields_named (desc.Const v) h = tt
fields_named (desc.Var m t) h = tt
fields_named (desc.Proc s) h = tt
fields_named (desc.Alias m t) h = tt
fields_named (desc.Array m n t) h = tt
fields_named (desc.OpenArray m t) h = tt
fields_named (desc.Pointer m t) h = tt
fields_named (desc.ProcType m s) h = tt
fields_named (desc.Record r) h = have_names r.fields h

pub all_named : (ts : List TypedType) → AreApart ts → AllByRecursion (λ (t : TypedType). view.FieldsDiffer t.desc) ts
all_named [] h = tt
all_named (t ∷ ts) h = (fields_named t.desc h.0, all_named ts h.1)
