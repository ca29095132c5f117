-- What is seen at a name's place is what is shown of the name.
use Rattle.std.proofs.Common.{◌≡◌, ℕ, List, Option, Some, None, refl, sym, ap, ◌∙◌}
use Rattle.std.specs.Prelude.{map as each, slice_get}
use Rattle.std.specs.Option.{option_map}
use Rattle.ob_format.specs.Format.{◌>>=◌}
use Rattle.ob_tree.specs.declared.names.QName.{QName}
use Rattle.ob_types.specs.declared.desc.Desc.{Desc}
use Rattle.ob_types.specs.declared.face.Object.{Object}
use Rattle.ob_types.specs.declared.face.Interface.{Interface}
use Rattle.ob_layout.specs.Index.{position_from}
use Rattle.ob_layout.proofs.Names.{first_at, first_none}
use Rattle.ob_env.specs.Faces.{face_of}
use Rattle.ob_env.specs.Found.{object_by_name, object_names, module_names, object_found}
use Rattle.ob_env.specs.Laws.{described_found}
use Rattle.ob_env.specs.Found.{place_in, place_of}
use Rattle.ob_env.specs.Shown.{blank, shown}
use Rattle.ob_env_shown.specs.Faces.{seen_at}

-- ---- of a name

described_in : Option Object → Option Desc
described_in o = option_map (λ (p : Object). p.desc) o

blank_in : (o : Option Object) → option_map blank (described_in o) ≡ option_map (λ (p : Object). blank p.desc) o
unfolding described_in
blank_in None = refl
blank_in (Some p) = refl

at_face : (is : List Interface) (x : List ℕ) (k : ℕ) (g : Option Interface) → slice_get is k ≡ g → option_map blank (described_in (g >>= λ i. object_by_name i.objects x)) ≡ ((g >>= λ i. position_from 0 x (object_names i.objects)) >>= λ j. Some (k, j)) >>= seen_at is
unfolding described_in
at_face is x k None e = refl
at_face is x k (Some i) e = go (position_from 0 x (object_names i.objects)) refl
  where
    go : (p : Option ℕ) → position_from 0 x (object_names i.objects) ≡ p → option_map blank (described_in (object_by_name i.objects x)) ≡ (p >>= λ j. Some (k, j)) >>= seen_at is
    go None h = ap (λ r. option_map blank (described_in r)) (first_none (λ (o : Object). o.name) i.objects x h)
    go (Some j) h =
        ap (λ r. option_map blank (described_in r)) (first_at (λ (o : Object). o.name) i.objects x j h)
        ∙ blank_in (slice_get i.objects j)
        ∙ sym (ap (λ (g : Option Interface). g >>= λ i. option_map (λ o. blank o.desc) (slice_get i.objects j)) e)

at_module : (is : List Interface) (q : QName) (o : Option ℕ) → position_from 0 q.«module» (module_names is) ≡ o → option_map blank (described_in (object_found is q)) ≡ (o >>= λ k. place_in is k q.object >>= λ j. Some (k, j)) >>= seen_at is
unfolding described_in
at_module is q None e = ap (λ (r : Option Interface). option_map blank (described_in (r >>= λ i. object_by_name i.objects q.object))) (first_none (λ (i : Interface). i.«module») is q.«module» e)
at_module is q (Some k) e =
    ap (λ (r : Option Interface). option_map blank (described_in (r >>= λ i. object_by_name i.objects q.object))) (first_at (λ (i : Interface). i.«module») is q.«module» k e)
    ∙ at_face is q.object k (slice_get is k) refl

pub is_shown : (is : List Interface) (q : QName) → place_of is q >>= seen_at is ≡ shown (each face_of is) q
unfolding described_in
is_shown is q = sym (ap (option_map blank) (described_found is q) ∙ at_module is q (position_from 0 q.«module» (module_names is)) refl)

-- what was found at a place
pub seen_through : (is inside l : List Interface) (place : ℕ × ℕ) (o : Option Desc) → inside ≡ is → l ≡ inside → o ≡ seen_at l place → o ≡ seen_at is place
seen_through is inside l place o e f h = h ∙ ap (λ (m : List Interface). seen_at m place) (f ∙ e)

-- what was found at the place of a name
pub shown_at : (is inside : List Interface) (q : QName) (place : Option (ℕ × ℕ)) (o : Option Desc) → inside ≡ is → place ≡ place_of inside q → o ≡ place >>= seen_at is → o ≡ shown (each face_of is) q
shown_at is inside q place o e f h =
    h ∙ ap (λ (p : Option (ℕ × ℕ)). p >>= seen_at is) (f ∙ ap (λ (l : List Interface). place_of l q) e) ∙ is_shown is q

-- what was found at the place of a name, by its bytes
pub shown_by : (is inside : List Interface) (m x : List ℕ) (q : QName) (place : Option (ℕ × ℕ)) (o : Option Desc) → inside ≡ is → m ≡ q.«module» → x ≡ q.object → place ≡ place_of inside (record { «module» = m; object = x }) → o ≡ place >>= seen_at is → o ≡ shown (each face_of is) q
shown_by is inside m x q place o e n k f h =
    shown_at is inside q place o e
    (f ∙ ap (λ (l : List ℕ). let r : QName = record { «module» = l; object = x } in place_of inside r) n ∙ ap (λ (l : List ℕ). let r : QName = record { «module» = q.«module»; object = l } in place_of inside r) k) h
