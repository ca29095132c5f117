-- Verdicts, counted one by one, are counted by their objects.
use Rattle.std.proofs.Common.{◌≡◌, ◌≤◌, ℕ, ◌+◌, List, [], ◌∷◌, ◌++◌, length, Bool, true, false, cond, refl, sym, ap, ◌∙◌, bytes_eq, Option, Some, None, arith}
use Rattle.std.specs.Prelude.{map as each, ◌&&◌}
use Rattle.std.specs.List.{flat_map, filter, IsDistinct}
use Rattle.std.specs.List.Sorted.{IsStrictlySortedBy}
use Rattle.std.proofs.lemmas.Bool.{false≢true}
use Rattle.std.proofs.lemmas.Slice.Eq.{bytes_eq-Decides}
use Rattle.ob_format.specs.Format.{list_of}
use Rattle.ob_types.specs.declared.face.Interface.{Interface}
use Rattle.ob_sym.specs.Grammar.{face as face_form, head, body}
use Rattle.ob_env.specs.Faces.{Face}
use Rattle.ob_cmp.specs.declared.verdict.Kind.{Kind}
use Rattle.ob_cmp.specs.declared.verdict.Kind.TheVariants as kind
use Rattle.ob_cmp.specs.declared.verdict.Verdict.{Verdict}
use Rattle.ob_cmp.specs.Verdicts.{Texts, layouts_agree, unless, kinds_between, kinds_in, texts_in, names_in, verdict_of, verdicts, is_new, is_changed, is_gone}
use Rattle.ob_shell_reports.specs.declared.counts.Counts.{Counts}
use Rattle.ob_shell_session.specs.Counting.{is_shape, is_layout, follows, and_one, counts_from, no_counts, counts_between}

-- THE VERDICTS ON ONE OBJECT

data Group : Type 0 where
  IsSame : Group
  IsAdded : Group
  IsGone : Group
  HasShape : Group
  HasLayout : Group
  HasBoth : Group

abbrev kinds_of : Group → List Kind
kinds_of IsSame = []
kinds_of IsAdded = kind.Added ∷ []
kinds_of IsGone = kind.Gone ∷ []
kinds_of HasShape = kind.ShapeChanged ∷ []
kinds_of HasLayout = kind.LayoutChanged ∷ []
kinds_of HasBoth = kind.ShapeChanged ∷ kind.LayoutChanged ∷ []

of_texts : (a b : Bool) → (g : Group) × (unless a kind.ShapeChanged ++ unless b kind.LayoutChanged ≡ kinds_of g)
of_texts true true = (IsSame, refl)
of_texts true false = (HasLayout, refl)
of_texts false true = (HasShape, refl)
of_texts false false = (HasBoth, refl)

group_between : (a b : Option Texts) → (g : Group) × (kinds_between a b ≡ kinds_of g)
group_between None None = (IsSame, refl)
group_between None (Some b) = (IsAdded, refl)
group_between (Some a) None = (IsGone, refl)
group_between (Some a) (Some b) = of_texts (bytes_eq a.0 b.0) (layouts_agree a.1 b.1)

-- COUNTS

abbrev counts : ℕ → ℕ → ℕ → ℕ → Counts
counts o a c g = record { objects = o; added = a; changed = c; gone = g }

same_counts : (o : ℕ) {a b c d g h : ℕ} → a ≡ b → c ≡ d → g ≡ h → counts o a c g ≡ counts o b d h
same_counts o p q r = λ i. counts o (p i) (q i) (r i)

-- the objects on which the kinds are so
abbrev number : (List ℕ → List Kind) → (List Kind → Bool) → List (List ℕ) → ℕ
number kinds p names = length (filter (λ x. p (kinds x)) names)

abbrev bit : Bool → ℕ
bit true = 1
bit false = 0

number_if : (b : Bool) (x : List ℕ) (xs : List (List ℕ)) → length (cond b (x ∷ xs) xs) ≡ bit b + length xs
number_if true x xs = omega arith
number_if false x xs = omega arith

number_more : (kinds : List ℕ → List Kind) (p : List Kind → Bool) (x : List ℕ) (xs : List (List ℕ)) (ks : List Kind) → kinds x ≡ ks → number kinds p (x ∷ xs) ≡ bit (p ks) + number kinds p xs
number_more kinds p x xs ks e = number_if (p (kinds x)) x (filter (λ y. p (kinds y)) xs) ∙ ap (λ k. bit (p k) + number kinds p xs) e

abbrev all_of : (List ℕ → List Kind) → List (List ℕ) → List Verdict
all_of kinds names = flat_map (λ x. each (verdict_of x) (kinds x)) names

-- ONE OBJECT MORE

abbrev starts_layout : List Kind → Bool
starts_layout [] = false
starts_layout (k ∷ ks) = is_layout k

-- the verdict before is none on a shape that a verdict on the layout of its object follows at once
abbrev Quiet : (List ℕ → List Kind) → Option Verdict → Type 0
Quiet kinds None = Unit {0}
Quiet kinds (Some u) = is_shape u.kind ≡ true → starts_layout (kinds u.object) ≡ false

pub step : (c : Counts) (last : Option Verdict) (v : Verdict) (vs : List Verdict) → counts_from c last (v ∷ vs) ≡ counts_from (and_one c (follows last v) v.kind) (Some v) vs
unfolding counts_from
step c last v vs = refl

none_more : (c : Counts) (last : Option Verdict) → counts_from c last [] ≡ c
unfolding counts_from
none_more c last = refl

follows_none : (kinds : List ℕ → List Kind) (u : Verdict) (x : List ℕ) (ks : List Kind) (a b : Bool) → Quiet kinds (Some u) → kinds x ≡ kind.LayoutChanged ∷ ks → is_shape u.kind ≡ a → bytes_eq u.object x ≡ b → (a && b) ≡ false
follows_none kinds u x ks false b q e f g = refl
follows_none kinds u x ks true false q e f g = refl
follows_none kinds u x ks true true q e f g =
    let same : u.object ≡ x = (bytes_eq-Decides u.object x).0 g in
    absurd (false≢true (sym (q f) ∙ ap (λ y. starts_layout (kinds y)) same ∙ ap starts_layout e))

quiet_layout : (kinds : List ℕ → List Kind) (last : Option Verdict) (x : List ℕ) (ks : List Kind) → Quiet kinds last → kinds x ≡ kind.LayoutChanged ∷ ks → follows last (verdict_of x kind.LayoutChanged) ≡ false
quiet_layout kinds None x ks q e = refl
quiet_layout kinds (Some u) x ks q e = follows_none kinds u x ks (is_shape u.kind) (bytes_eq u.object x) q e refl refl

itself : (x : List ℕ) → follows (Some (verdict_of x kind.ShapeChanged)) (verdict_of x kind.LayoutChanged) ≡ true
itself x = (bytes_eq-Decides x x).1 refl

-- what the rest comes to, behind any verdict that is quiet
abbrev Rest : (List ℕ → List Kind) → List (List ℕ) → Type 0
Rest kinds xs = (o a c g : ℕ) (last : Option Verdict) → Quiet kinds last → counts_from (counts o a c g) last (all_of kinds xs) ≡ counts o (a + number kinds is_new xs) (c + number kinds is_changed xs) (g + number kinds is_gone xs)

abbrev Numbers : (List ℕ → List Kind) → List ℕ → List (List ℕ) → List Kind → Type 0
Numbers kinds x xs ks = (number kinds is_new (x ∷ xs) ≡ bit (is_new ks) + number kinds is_new xs) × (number kinds is_changed (x ∷ xs) ≡ bit (is_changed ks) + number kinds is_changed xs) × (number kinds is_gone (x ∷ xs) ≡ bit (is_gone ks) + number kinds is_gone xs)

-- the verdicts on the object, and then the others
one_more : (kinds : List ℕ → List Kind) (x : List ℕ) (xs : List (List ℕ)) (g : Group) → kinds x ≡ kinds_of g → Numbers kinds x xs (kinds_of g) → Rest kinds xs → (o a c d : ℕ) (last : Option Verdict) → Quiet kinds last → counts_from (counts o a c d) last (each (verdict_of x) (kinds_of g) ++ all_of kinds xs) ≡ counts o (a + number kinds is_new (x ∷ xs)) (c + number kinds is_changed (x ∷ xs)) (d + number kinds is_gone (x ∷ xs))
one_more kinds x xs IsSame e n r o a c d last q =
    let n0 = n.0 in let n1 = n.1 in let n2 = n.2 in
    r o a c d last q ∙ same_counts o (omega (arith, n0)) (omega (arith, n1)) (omega (arith, n2))
one_more kinds x xs IsAdded e n r o a c d last q =
    let n0 = n.0 in let n1 = n.1 in let n2 = n.2 in
    step (counts o a c d) last (verdict_of x kind.Added) (all_of kinds xs)
    ∙ r o (a + 1) c d (Some (verdict_of x kind.Added)) (λ s. absurd (false≢true s)) ∙ same_counts o (omega (arith, n0)) (omega (arith, n1)) (omega (arith, n2))
one_more kinds x xs IsGone e n r o a c d last q =
    let n0 = n.0 in let n1 = n.1 in let n2 = n.2 in
    step (counts o a c d) last (verdict_of x kind.Gone) (all_of kinds xs)
    ∙ r o a c (d + 1) (Some (verdict_of x kind.Gone)) (λ s. absurd (false≢true s)) ∙ same_counts o (omega (arith, n0)) (omega (arith, n1)) (omega (arith, n2))
one_more kinds x xs HasShape e n r o a c d last q =
    let n0 = n.0 in let n1 = n.1 in let n2 = n.2 in
    step (counts o a c d) last (verdict_of x kind.ShapeChanged) (all_of kinds xs)
    ∙ r o a (c + 1) d (Some (verdict_of x kind.ShapeChanged)) (λ s. ap starts_layout e) ∙ same_counts o (omega (arith, n0)) (omega (arith, n1)) (omega (arith, n2))
one_more kinds x xs HasLayout e n r o a c d last q =
    let n0 = n.0 in let n1 = n.1 in let n2 = n.2 in
    let v = verdict_of x kind.LayoutChanged in
    step (counts o a c d) last v (all_of kinds xs)
    ∙ ap (λ b. counts_from (and_one (counts o a c d) b kind.LayoutChanged) (Some v) (all_of kinds xs)) (quiet_layout kinds last x [] q e)
    ∙ r o a (c + 1) d (Some v) (λ s. absurd (false≢true s)) ∙ same_counts o (omega (arith, n0)) (omega (arith, n1)) (omega (arith, n2))
one_more kinds x xs HasBoth e n r o a c d last q =
    let n0 = n.0 in let n1 = n.1 in let n2 = n.2 in
    let u = verdict_of x kind.ShapeChanged in
    let v = verdict_of x kind.LayoutChanged in
    step (counts o a c d) last u (v ∷ all_of kinds xs)
    ∙ step (counts o a (c + 1) d) (Some u) v (all_of kinds xs)
    ∙ ap (λ b. counts_from (and_one (counts o a (c + 1) d) b kind.LayoutChanged) (Some v) (all_of kinds xs)) (itself x)
    ∙ r o a (c + 1) d (Some v) (λ s. absurd (false≢true s)) ∙ same_counts o (omega (arith, n0)) (omega (arith, n1)) (omega (arith, n2))

counted : (kinds : List ℕ → List Kind) → ((x : List ℕ) → (g : Group) × (kinds x ≡ kinds_of g)) → (names : List (List ℕ)) → Rest kinds names
counted kinds groups [] o a c g last q = none_more (counts o a c g) last ∙ same_counts o (omega arith) (omega arith) (omega arith)
counted kinds groups (x ∷ xs) o a c g last q =
    let w = groups x in
    ap (λ ks. counts_from (counts o a c g) last (each (verdict_of x) ks ++ all_of kinds xs)) w.1
    ∙ one_more kinds x xs w.0 w.1 (number_more kinds is_new x xs (kinds_of w.0) w.1, number_more kinds is_changed x xs (kinds_of w.0) w.1, number_more kinds is_gone x xs (kinds_of w.0) w.1) (counted kinds groups xs) o a c g last q

pub counts_are : {K : Type 0} (old new : Face K) → counts_from (no_counts (length new.objects)) None (verdicts old new) ≡ counts_between old new
counts_are old new =
    counted (kinds_in old.«module» old.objects new.«module» new.objects) (λ x. group_between (texts_in old.«module» old.objects x) (texts_in new.«module» new.objects x)) (names_in old.objects new.objects) (length new.objects) 0 0 0 None tt
    ∙ same_counts (length new.objects) (omega arith) (omega arith) (omega arith)

-- AN INTERFACE WITHOUT OBJECTS

pub no_face_fits : (f : Interface) → face_form.fits f → face_form.fits (record { «module» = f.«module»; imports = []; objects = []; uses = [] })
unfolding face_form head body list_of IsStrictlySortedBy IsDistinct
no_face_fits f h = (((h.0.0.0, ((omega arith, tt), (omega arith, tt))), (((omega arith, tt), tt), ((omega arith, tt), tt))), record { objects = omega arith; imports = tt })

-- THE LOOP

pub one_counts : (c : Counts) (again : Bool) (k : Kind) → (and_one c again k).added + (and_one c again k).changed + (and_one c again k).gone ≤ c.added + c.changed + c.gone + 1
one_counts c again kind.Added = omega arith
one_counts c again kind.Gone = omega arith
one_counts c again kind.ShapeChanged = omega arith
one_counts c true kind.LayoutChanged = omega arith
one_counts c false kind.LayoutChanged = omega arith

pub all_counted : (c : Counts) (last : Option Verdict) (vs : List Verdict) → length vs ≤ 0 → counts_from c last vs ≡ c
all_counted c last [] h = none_more c last
all_counted c last (v ∷ vs) h = absurd (omega (arith, h))
