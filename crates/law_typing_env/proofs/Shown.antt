-- What interfaces of one age describe is what the program declares.
use Rattle.std.proofs.Common.{◌≡◌, ◌⊎◌, ⊎_elim, inl, inr, ℕ, zero, suc, List, [], ◌∷◌, ◌++◌, map as each, Option, Some, refl, sym, ap, subst, ◌∙◌}
use Rattle.std.specs.Prelude.{Bool, true, false, cond, bytes_eq, MatchOption, IsTrue}
use Rattle.std.specs.List.{filter, AllByRecursion}
use Rattle.std.specs.declared.cmp.Ordering.{Ordering}
use Rattle.std.specs.declared.cmp.Ordering.TheVariants as order
use Rattle.ob_tree.specs.declared.names.QName.{QName}
use Rattle.ob_types.specs.declared.types.Mode.{Mode}
use Rattle.ob_types.specs.declared.types.Mode.TheVariants as mode
use Rattle.ob_types.specs.declared.types.TypeRef.TheVariants as ref
use Rattle.ob_types.specs.declared.desc.Desc.{Desc}
use Rattle.ob_types.specs.declared.desc.Desc.TheVariants as desc
use Rattle.ob_types.specs.declared.desc.RecordDesc.{RecordDesc}
use Rattle.ob_types.specs.declared.desc.Field.{Field}
use Rattle.ob_types.specs.declared.desc.Method.{Method}
use Rattle.ob_types.specs.declared.typed.TypedParameter.{TypedParameter}
use Rattle.ob_types.specs.TypedSyntax.{Procedure, Module}
use Rattle.ob_types.specs.Maps.{is_type, stands_on, listed, IsWithin}
use Rattle.ob_meaning.specs.Values.{Program, Form, BasicForm, PointerForm, ProcedureForm, ArrayForm, OpenForm, RecordForm, form_in, description, number_of_types}
use Rattle.law_simulation_relation.specs.Typed.{passing_for}
use Rattle.law_simulation_relation.proofs.Names.{bytes_true}
use Rattle.ob_format.specs.Format.{◌>>=◌}
use Rattle.ob_desc.specs.Grammar.{is_shown, by_place, seen}
use Rattle.ob_layout.specs.Lists.{put_before, put_in, in_order}
use Rattle.ob_env.specs.Faces.{Face, object_named, face_named, described}
use Rattle.ob_uses_roots.specs.Counts.{mode_of, own_name}
use Rattle.ob_uses.specs.Objects.{formal_of, signature_of, is_exported, constant_object, variable_object, procedure_object, in_places, type_object, types_among, reached_types, by_name, objects_of}
use Rattle.ob_uses.specs.Closed.{is_among}
use Rattle.law_typing_forms.specs.Formed.{IsDeclared, AreParameters, IsProcedureOf}
use Rattle.law_typing_forms.proofs.Chains.{chains}
use Rattle.law_typing_forms.specs.Said.{IsOneOf, IsAmong, IsBoundAmong, IsPartOf, IsSaid, IsSound}
use Rattle.law_typing_forms.specs.Whole.{IsPassed, HeadingOk, IsWhole}
use Rattle.law_typing_forms.proofs.Modules.{of_all, own, type_there, procedure_there, variable_there}
use Rattle.law_typing_env.specs.Ages.{IsShownBy, AreShown}
use Rattle.law_lists.proofs.Lists.{all_both}

-- ---- members of lists

pub one_joined : {A : Type 0} (xs ys : List A) (x : A) → IsOneOf (xs ++ ys) x → IsOneOf xs x ⊎ IsOneOf ys x
one_joined [] ys x h = inr h
one_joined (y ∷ xs) ys x h = ⊎_elim (λ e. inl (inl e)) (λ k. ⊎_elim (λ i. inl (inr i)) (λ i. inr i) (one_joined xs ys x k)) h

pub one_filtered : {A : Type 0} (f : A → Bool) (xs : List A) (x : A) → IsOneOf (filter f xs) x → IsOneOf xs x
one_filtered f [] x h = h
one_filtered f (y ∷ ys) x h = by (f y) h (λ h. one_filtered f ys x h)
  where
    by : (b : Bool) → IsOneOf (cond b (y ∷ filter f ys) (filter f ys)) x → (IsOneOf (filter f ys) x → IsOneOf ys x) → (y ≡ x) ⊎ IsOneOf ys x
    by true (inl e) r = inl e
    by true (inr k) r = inr (r k)
    by false k r = inr (r k)

pub one_mapped : {A B : Type 0} (f : A → B) (xs : List A) (y : B) → IsOneOf (each f xs) y → (x : A) × (IsOneOf xs x × (f x ≡ y))
one_mapped f [] y h = absurd h
one_mapped f (x ∷ xs) y (inl e) = (x, (inl refl, e))
one_mapped f (x ∷ xs) y (inr k) = let r = one_mapped f xs y k in (r.0, (inr r.1.0, r.1.1))

one_put : {A : Type 0} (R : A → A → Ordering) (x : A) (ys : List A) (z : A) → IsOneOf (put_in R x ys) z → (x ≡ z) ⊎ IsOneOf ys z
one_put R x [] z h = h
one_put R x (y ∷ ys) z h = by (R x y) h (λ h. one_put R x ys z h)
  where
    by : (o : Ordering) → IsOneOf (put_before o x y ys (put_in R x ys)) z → (IsOneOf (put_in R x ys) z → (x ≡ z) ⊎ IsOneOf ys z) → (x ≡ z) ⊎ ((y ≡ z) ⊎ IsOneOf ys z)
    by order.Less h r = h
    by order.Equal h r = inr h
    by order.Greater (inl e) r = inr (inl e)
    by order.Greater (inr k) r = ⊎_elim (λ e. inl e) (λ i. inr (inr i)) (r k)

pub one_ordered : {A : Type 0} (R : A → A → Ordering) (xs : List A) (z : A) → IsOneOf (in_order R xs) z → IsOneOf xs z
one_ordered R [] z h = h
one_ordered R (x ∷ xs) z h = ⊎_elim (λ e. inl e) (λ k. inr (one_ordered R xs z k)) (one_put R x (in_order R xs) z h)

-- ---- what is found

pub object_found : (os : List (List ℕ × Desc)) (x : List ℕ) (d : Desc) → object_named os x ≡ Some d → IsOneOf os (x, d)
object_found [] x d e = absurd cc
object_found (o ∷ os) x d e = by (bytes_eq x o.0) refl e (λ e. object_found os x d e)
  where
    by : (b : Bool) → bytes_eq x o.0 ≡ b → cond b (Some o.1) (object_named os x) ≡ Some d → (object_named os x ≡ Some d → IsOneOf os (x, d)) → (o ≡ (x, d)) ⊎ IsOneOf os (x, d)
    by true t e r =
        let n : x ≡ o.0 = bytes_true x o.0 t in
        let k : o.1 ≡ d = cc in
        inl (ap (λ (y : List ℕ). (y, o.1)) (sym n) ∙ ap (λ (y : Desc). (x, y)) k)
    by false t e r = inr (r e)

pub record FaceFound {K : Type 0} (faces : List (Face K)) (n x : List ℕ) (d : Desc) : Type 0 where
  pub f : Face K
  pub there : IsOneOf faces f
  pub name : n ≡ f.«module»
  pub object : object_named f.objects x ≡ Some d

pub face_found : {K : Type 0} (faces : List (Face K)) (q : QName) (d : Desc) → described faces q ≡ Some d → FaceFound faces q.«module» q.object d
face_found [] q d e = absurd cc
face_found (f ∷ fs) q d e = by (bytes_eq q.«module» f.«module») refl e (λ e. face_found fs q d e)
  where
    by : (b : Bool) → bytes_eq q.«module» f.«module» ≡ b → (cond b (Some f) (face_named fs q.«module») >>= λ f. object_named f.objects q.object) ≡ Some d → ((face_named fs q.«module» >>= λ f. object_named f.objects q.object) ≡ Some d → FaceFound fs q.«module» q.object d) → FaceFound (f ∷ fs) q.«module» q.object d
    by true t e r = record { f = f; there = inl refl; name = bytes_true q.«module» f.«module» t; object = e }
    by false t e r = let k = r e in record { f = k.f; there = inr k.there; name = k.name; object = k.object }

-- ---- less is said

among_those : (s fs : List Field) → ((f : Field) → IsOneOf fs f → IsOneOf s f) → AllByRecursion (λ f. IsAmong s f) fs
among_those s [] r = tt
among_those s (f ∷ fs) r = (record { g = f; there = r f (inl refl); name = refl; of = refl }, among_those s fs (λ g i. r g (inr i)))

among_itself : (fs : List Field) → AllByRecursion (λ f. IsAmong fs f) fs
among_itself fs = among_those fs fs (λ f i. i)

bound_itself : (ms : List Method) → AllByRecursion (λ m. IsBoundAmong ms m) ms
bound_itself ms = by ms ms (λ m i. i)
  where
    by : (ms ks : List Method) → ((m : Method) → IsOneOf ks m → IsOneOf ms m) → AllByRecursion (λ m. IsBoundAmong ms m) ks
    by ms [] r = tt
    by ms (k ∷ ks) r = (record { k = k; there = r k (inl refl); name = refl; receiver = refl; signature = refl }, by ms ks (λ m i. r m (inr i)))

all_filtered : {A : Type 0} (P : A → Type 0) (f : A → Bool) (xs : List A) → AllByRecursion P xs → AllByRecursion P (filter f xs)
all_filtered P f [] h = tt
all_filtered P f (x ∷ xs) h = by (f x) (all_filtered P f xs h.1)
  where
    by : (b : Bool) → AllByRecursion P (filter f xs) → AllByRecursion P (cond b (x ∷ filter f xs) (filter f xs))
    by true k = (h.0, k)
    by false k = k

pub part_itself : (r : RecordDesc) → IsPartOf r r
part_itself r = record { base = refl; fields = among_itself r.fields; methods = bound_itself r.methods }

-- what an interface leaves out, with the fields in the order of their places
part_seen : (s : RecordDesc) → IsPartOf (record s { fields = filter (λ f. is_shown f.mark) (in_order by_place s.fields); methods = filter (λ m. is_shown m.mark) s.methods }) s
part_seen s = record {
  base = refl;
  fields = among_those s.fields (filter (λ f. is_shown f.mark) (in_order by_place s.fields)) (λ f i. one_ordered by_place s.fields f (one_filtered (λ f. is_shown f.mark) (in_order by_place s.fields) f i));
  methods = all_filtered (λ m. IsBoundAmong s.methods m) (λ m. is_shown m.mark) s.methods (bound_itself s.methods);
}

pub within_type : (types : QName → Option Desc) (n : ℕ) (q : QName) (d : Desc) → types q ≡ Some d → IsWithin types n (ref.Named q) → is_type d ≡ true
unfolding IsWithin
within_type types zero q d e h = absurd h
within_type types (suc n) q d e h = (subst (λ (o : Option Desc). MatchOption o ⊥ (λ d. IsTrue (is_type d) × AllByRecursion (λ t. IsWithin types n t) (stands_on d))) e h).0

-- ---- parameters

mode_passed : (k : Mode) (t : Form) → mode_of (passing_for k t) ≡ k
mode_passed mode.Value (BasicForm b) = refl
mode_passed mode.Value (PointerForm t) = refl
mode_passed mode.Value (ProcedureForm s) = refl
mode_passed mode.Value (ArrayForm n t) = refl
mode_passed mode.Value (OpenForm t) = refl
mode_passed mode.Value (RecordForm line fs) = refl
mode_passed mode.Var (BasicForm b) = refl
mode_passed mode.Var (PointerForm t) = refl
mode_passed mode.Var (ProcedureForm s) = refl
mode_passed mode.Var (ArrayForm n t) = refl
mode_passed mode.Var (OpenForm t) = refl
mode_passed mode.Var (RecordForm line fs) = refl

parameters_are : (program : Program) (xs : List TypedParameter) → AllByRecursion (λ x. IsPassed program x) xs → AreParameters program xs (each formal_of xs)
parameters_are program [] h = tt
parameters_are program (x ∷ xs) h =
    let k : mode_of x.passing ≡ h.0.mode = ap mode_of h.0.passing ∙ mode_passed h.0.mode (form_in program x.of) in
    (refl, (h.0.passing ∙ ap (λ m. passing_for m (form_in program x.of)) (sym k), parameters_are program xs h.1))

parameters_declared : (program : Program) (xs : List TypedParameter) → AllByRecursion (λ x. IsPassed program x) xs → AllByRecursion IsDeclared (each (λ p. p.1) (each formal_of xs))
parameters_declared program [] h = tt
parameters_declared program (x ∷ xs) h = (h.0.declared, parameters_declared program xs h.1)

module _ (program : Program) (sound : IsSound program) where
  -- a type that the program declares says itself, and what is seen of it
  pub type_said : (q : QName) (d : Desc) → description program q ≡ Some d → IsSaid program q (seen (in_places d))
  type_said q d e = by d e (within_type (description program) (number_of_types program) q d e (chains program sound q d e))
    where
      by : (d : Desc) → description program q ≡ Some d → is_type d ≡ true → IsSaid program q (seen (in_places d))
      by (desc.Const v) e t = tt
      by (desc.Var m u) e t = absurd cc
      by (desc.Proc s) e t = absurd cc
      by (desc.Alias m u) e t = (m, e)
      by (desc.Array m n u) e t = (m, e)
      by (desc.OpenArray m u) e t = inr (m, e)
      by (desc.Pointer m u) e t = (m, e)
      by (desc.ProcType m s) e t = (m, e)
      by (desc.Record s) e t = (s, (e, part_seen s))

  module _ (whole : IsWhole program) where
    abbrev at : Module → List ℕ → QName
    at m x = record { «module» = m.name; object = x }

    procedure_said : (m : Module) (p : Procedure) → IsOneOf program m → IsOneOf m.procedures p → IsSaid program (at m p.name) (desc.Proc (signature_of p))
    procedure_said m p i j =
        let h : HeadingOk program p = of_all (HeadingOk program) m.procedures p (own program whole m i).headings j in
        let is : IsProcedureOf program (at m p.name) (signature_of p) = record { p = p; found = procedure_there program whole m p i j; result = refl; parameters = parameters_are program p.parameters h.0 } in
        (is, all_both IsDeclared (each (λ p. p.1) (each formal_of p.parameters)) (listed p.result) (parameters_declared program p.parameters h.0) h.1)

    object_said : (m : Module) (o : List ℕ × Desc) → IsOneOf program m → IsOneOf (objects_of m) o → IsSaid program (at m o.0) o.1
    object_said m o i j =
        let cs = each constant_object (filter (λ c. is_shown c.mark) m.constants) in
        let vs = each variable_object (filter (λ v. is_shown v.mark) m.variables) in
        let ps = each procedure_object (filter is_exported m.procedures) in
        let ts = each type_object (types_among m (reached_types m)) in
        ⊎_elim
        (λ k. ⊎_elim
        (λ k. ⊎_elim
        (λ k. let x = one_mapped constant_object (filter (λ c. is_shown c.mark) m.constants) o k in subst (λ (o : List ℕ × Desc). IsSaid program (at m o.0) o.1) x.1.1 tt)
        (λ k.
        let x = one_mapped variable_object (filter (λ v. is_shown v.mark) m.variables) o k in
        let there = one_filtered (λ v. is_shown v.mark) m.variables x.0 x.1.0 in
        subst (λ (o : List ℕ × Desc). IsSaid program (at m o.0) o.1) x.1.1 (variable_there program whole m x.0 i there, of_all (λ v. IsDeclared v.of) m.variables x.0 (own program whole m i).declared there))
        (one_joined cs vs o k))
        (λ k.
        let x = one_mapped procedure_object (filter is_exported m.procedures) o k in
        subst (λ (o : List ℕ × Desc). IsSaid program (at m o.0) o.1) x.1.1 (procedure_said m x.0 i (one_filtered is_exported m.procedures x.0 x.1.0)))
        (one_joined (cs ++ vs) ps o k))
        (λ k.
        let x = one_mapped type_object (types_among m (reached_types m)) o k in
        let there = one_filtered (λ t. is_among (reached_types m) (own_name m t)) m.types x.0 x.1.0 in
        subst (λ (o : List ℕ × Desc). IsSaid program (at m o.0) o.1) x.1.1 (type_said (at m x.0.name) x.0.desc (type_there program whole m x.0 i there)))
        (one_joined ((cs ++ vs) ++ ps) ts o (one_ordered by_name (((cs ++ vs) ++ ps) ++ ts) o j))

    -- WHAT INTERFACES DESCRIBE is what the program declares
    pub described_said : {K : Type 0} (faces : List (Face K)) → AreShown program faces → (q : QName) (d : Desc) → described faces q ≡ Some d → IsSaid program q d
    described_said {K} faces h q d e =
        let f = face_found faces q d e in
        let s : IsShownBy program f.f = of_all (λ f. IsShownBy program f) faces f.f h f.there in
        let o : IsOneOf (objects_of s.m) (q.object, d) = subst (λ os. IsOneOf os (q.object, d)) s.objects (object_found f.f.objects q.object d f.object) in
        let n : q.«module» ≡ s.m.name = f.name ∙ s.name in
        subst (λ (x : List ℕ). IsSaid program (let p : QName = record { «module» = x; object = q.object } in p) d) (sym n) (object_said s.m (q.object, d) s.there o)
