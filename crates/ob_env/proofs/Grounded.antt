-- Interfaces that fit have a grounded map.
use Rattle.std.proofs.Common.{◌≡◌, ℕ, zero, suc, ◌≤◌, Bool, true, false, cond, not, List, [], ◌∷◌, ◌++◌, Option, Some, None, refl, sym, subst, arith}
use Rattle.std.specs.Prelude.{◌&&◌, ◌||◌, map as each, bytes_eq, MatchOption, IfSome, IsTrue}
use Rattle.std.specs.Option.{option_map}
use Rattle.std.specs.List.{list_all, flat_map, AllByRecursion}
use Rattle.std.specs.Cmp.Lexicographic.{bytes_decides}
use Rattle.ob_format.specs.Format.{◌>>=◌}
use Rattle.ob_tree.specs.declared.names.QName.{QName}
use Rattle.ob_tree.specs.declared.print.Print.{Print}
use Rattle.ob_types.specs.declared.types.TypeRef.{TypeRef}
use Rattle.ob_types.specs.declared.types.TypeRef.TheVariants as ref
use Rattle.ob_types.specs.declared.types.Signature.{Signature}
use Rattle.ob_types.specs.declared.desc.Desc.{Desc}
use Rattle.ob_types.specs.declared.desc.Desc.TheVariants as desc
use Rattle.ob_types.specs.declared.desc.Field.{Field}
use Rattle.ob_types.specs.declared.desc.Method.{Method}
use Rattle.ob_types.specs.declared.face.Interface.{Interface}
use Rattle.ob_types.specs.Maps.{is_type, listed, signature_types, stands_on, named_by, IsHeld, IsWithin}
use Rattle.ob_types.specs.Relations.{StandsFor, Is, is_record, is_structure, is_open, IsPlainResult, Keeps, IsGrounded}
use Rattle.ob_types.specs.Tests.{target, shape_at}
use Rattle.ob_types.specs.AssigningTests.{described as is_described}
use Rattle.ob_types.proofs.Targets.{unique, is_target}
use Rattle.ob_layout.specs.Lists.{or_else}
use Rattle.ob_env.specs.declared.fault.EnvFault.TheVariants as fault
use Rattle.ob_env.specs.Faces.{Face, object_named, face_named}
use Rattle.ob_env.specs.Stale.{first_among}
use Rattle.ob_env.specs.Fit.{chain_described, is_within, is as is_kind, is_held, names_types, stands, has_bases, has_plain_result, is_closed_field, is_plain_method, keeps_places, fits, steps_of, unless, misfit, first_unfit, if_some}
use Rattle.ob_env.specs.Mapped.{map_of}
use Rattle.ob_env.specs.Faces.{faces_of}
use Rattle.ob_env.specs.Building.{unfit_answer}

pub left_of : (a b : Bool) → (a && b) ≡ true → a ≡ true
left_of true b e = refl
left_of false b e = absurd cc

pub right_of : (a b : Bool) → (a && b) ≡ true → b ≡ true
right_of true b e = e
right_of false b e = absurd cc

implied : (a b : Bool) → (not a || b) ≡ true → a ≡ true → b ≡ true
implied true b e h = e
implied false b e h = absurd cc

unlike : (b : Bool) → not b ≡ true → b ≡ true → ⊥
unlike true e h = absurd cc
unlike false e h = absurd cc

pub all_left : {X : Type 0} (P : X → Type 0) (xs ys : List X) → AllByRecursion P (xs ++ ys) → AllByRecursion P xs
all_left P [] ys h = tt
all_left P (x ∷ xs) ys h = (h.0, all_left P xs ys h.1)

pub all_right : {X : Type 0} (P : X → Type 0) (xs ys : List X) → AllByRecursion P (xs ++ ys) → AllByRecursion P ys
all_right P [] ys h = h
all_right P (x ∷ xs) ys h = all_right P xs ys h.1

-- ---- one description

held_option : (o : Option Desc) → is_described is_type o ≡ true → MatchOption o ⊥ (λ d. IsTrue (is_type d))
held_option None e = absurd cc
held_option (Some d) e = e

held_is : (map : QName → Option Desc) (steps : ℕ) (t : TypeRef) → is_held map steps t ≡ true → IsHeld map t
held_is map steps (ref.Basic b) e = tt
held_is map steps (ref.Named q) e = held_option (map q) e

pub all_held : (map : QName → Option Desc) (steps : ℕ) (ts : List TypeRef) → list_all (is_held map steps) ts ≡ true → AllByRecursion (λ t. IsHeld map t) ts
all_held map steps [] e = tt
all_held map steps (t ∷ ts) e = (held_is map steps t (left_of (is_held map steps t) (list_all (is_held map steps) ts) e), all_held map steps ts (right_of (is_held map steps t) (list_all (is_held map steps) ts) e))

pub stood_held : (map : QName → Option Desc) (d : Desc) → AllByRecursion (λ t. IsHeld map t) (named_by d) → AllByRecursion (λ t. IsHeld map t) (stands_on d)
stood_held map (desc.Const v) h = tt
stood_held map (desc.Var m t) h = tt
stood_held map (desc.Proc s) h = tt
stood_held map (desc.Alias m t) h = h
stood_held map (desc.Array m n t) h = h
stood_held map (desc.OpenArray m t) h = h
stood_held map (desc.Pointer m t) h = tt
stood_held map (desc.ProcType m s) h = h
stood_held map (desc.Record r) h = all_left (λ t. IsHeld map t) (listed r.base ++ each (λ f. f.of) r.fields) (flat_map (λ m. signature_types m.signature) r.methods) h

-- ---- chains

all_within : (map : QName → Option Desc) (n : ℕ) → ((t : TypeRef) → IsHeld map t → is_within map n t ≡ true → IsWithin map n t) → (ts : List TypeRef) → AllByRecursion (λ t. IsHeld map t) ts → list_all (is_within map n) ts ≡ true → AllByRecursion (λ t. IsWithin map n t) ts
all_within map n below [] h e = tt
all_within map n below (t ∷ ts) h e = (below t h.0 (left_of (is_within map n t) (list_all (is_within map n) ts) e), all_within map n below ts h.1 (right_of (is_within map n t) (list_all (is_within map n) ts) e))

chain_step : (map : QName → Option Desc) (n : ℕ) (q : QName) → ((q : QName) (d : Desc) → map q ≡ Some d → AllByRecursion (λ t. IsHeld map t) (named_by d)) → ((t : TypeRef) → IsHeld map t → is_within map n t ≡ true → IsWithin map n t) → (o : Option Desc) → map q ≡ o → MatchOption o ⊥ (λ d. IsTrue (is_type d)) → chain_described (is_within map n) o ≡ true → MatchOption o ⊥ (λ d. IsTrue (is_type d) × AllByRecursion (λ t. IsWithin map n t) (stands_on d))
chain_step map n q held below None m h e = absurd h
chain_step map n q held below (Some d) m h e = (h, all_within map n below (stands_on d) (stood_held map d (held q d m)) e)

within_is : (map : QName → Option Desc) → ((q : QName) (d : Desc) → map q ≡ Some d → AllByRecursion (λ t. IsHeld map t) (named_by d)) → (n : ℕ) (t : TypeRef) → IsHeld map t → is_within map n t ≡ true → IsWithin map n t
unfolding IsWithin
within_is map held n (ref.Basic b) h e = tt
within_is map held zero (ref.Named q) h e = absurd cc
within_is map held (suc n) (ref.Named q) h e = chain_step map n q held (λ t h e. within_is map held n t h e) (map q) refl h e

-- ---- what a type stands for

kind_option : (kind : Desc → Bool) (o : Option Desc) → is_described kind o ≡ true → MatchOption o ⊥ (λ d. IsTrue (kind d))
kind_option kind None e = absurd cc
kind_option kind (Some d) e = e

kind_told : (kind : Desc → Bool) (o : Option Desc) → MatchOption o ⊥ (λ d. IsTrue (kind d)) → is_described kind o ≡ true
kind_told kind None h = absurd h
kind_told kind (Some d) h = h

is_from : (map : QName → Option Desc) (kind : Desc → Bool) (t u : TypeRef) → StandsFor map t u → is_described kind (shape_at map u) ≡ true → Is map kind t
is_from map kind t (ref.Basic b) s e = absurd cc
is_from map kind t (ref.Named q) s e = (q, (s, kind_option kind (map q) e))

is_to : (map : QName → Option Desc) (kind : Desc → Bool) (t u : TypeRef) → StandsFor map t u → Is map kind t → is_described kind (shape_at map u) ≡ true
is_to map kind t u s h = subst (λ (w : TypeRef). is_described kind (shape_at map w) ≡ true) (sym (unique map s h.1.0)) (kind_told kind (map h.0) h.1.1)

-- ---- a map of which all descriptions fit

pub record AllFit (map : QName → Option Desc) (steps : ℕ) : Type 0 where
  pub enough : 201 ≤ steps
  pub fit : (q : QName) (d : Desc) → map q ≡ Some d → fits map steps q d ≡ true

pub held_in : (map : QName → Option Desc) (steps : ℕ) → AllFit map steps → (q : QName) (d : Desc) → map q ≡ Some d → AllByRecursion (λ t. IsHeld map t) (named_by d)
held_in map steps all q d e = all_held map steps (named_by d) (left_of (names_types map steps d) _ (all.fit q d e))

pub chain_in : (map : QName → Option Desc) (steps : ℕ) → AllFit map steps → (t : TypeRef) → IsHeld map t → IsWithin map 201 t
chain_in map steps all (ref.Basic b) h = within_is map (held_in map steps all) 201 (ref.Basic b) h refl
chain_in map steps all (ref.Named q) h = within_is map (held_in map steps all) 201 (ref.Named q) h (go (map q) refl h)
  where
    go : (o : Option Desc) → map q ≡ o → MatchOption o ⊥ (λ d. IsTrue (is_type d)) → is_within map 201 (ref.Named q) ≡ true
    go None e h = absurd h
    go (Some d) e h = implied (is_type d) (is_within map 201 (ref.Named q)) (left_of (stands map steps q d) _ (right_of (names_types map steps d) _ (all.fit q d e))) h

stands_in : (map : QName → Option Desc) (steps : ℕ) → AllFit map steps → (t : TypeRef) → IsHeld map t → StandsFor map t (target map steps t)
stands_in map steps all t h = (is_target map 201 steps t all.enough (chain_in map steps all t h)).stands

ever : (map : QName → Option Desc) (steps : ℕ) → AllFit map steps → (kind : Desc → Bool) (t : TypeRef) → IsHeld map t → is_kind map steps kind t ≡ true → Is map kind t
ever map steps all kind t h e = is_from map kind t (target map steps t) (stands_in map steps all t h) e

never : (map : QName → Option Desc) (steps : ℕ) → AllFit map steps → (kind : Desc → Bool) (t : TypeRef) → IsHeld map t → not (is_kind map steps kind t) ≡ true → Is map kind t → ⊥
never map steps all kind t h e i = unlike (is_kind map steps kind t) e (is_to map kind t (target map steps t) (stands_in map steps all t h) i)

plain : (map : QName → Option Desc) (steps : ℕ) → AllFit map steps → (o : Option TypeRef) → AllByRecursion (λ t. IsHeld map t) (listed o) → if_some (λ t. not (is_kind map steps is_structure t)) o ≡ true → IfSome o (λ t. Is map is_structure t → ⊥)
plain map steps all None h e = tt
plain map steps all (Some t) h e = never map steps all is_structure t h.0 e

plain_result : (map : QName → Option Desc) (steps : ℕ) → AllFit map steps → (s : Signature) → AllByRecursion (λ t. IsHeld map t) (signature_types s) → has_plain_result map steps s ≡ true → IsPlainResult map s
plain_result map steps all s h e = plain map steps all s.result (all_right (λ t. IsHeld map t) (each (λ p. p.1) s.params) (listed s.result) h) e

fields_closed : (map : QName → Option Desc) (steps : ℕ) → AllFit map steps → (fs : List Field) → AllByRecursion (λ t. IsHeld map t) (each (λ f. f.of) fs) → list_all (is_closed_field map steps) fs ≡ true → AllByRecursion (λ f. Is map is_open f.of → ⊥) fs
fields_closed map steps all [] h e = tt
fields_closed map steps all (f ∷ fs) h e = (never map steps all is_open f.of h.0 (left_of (is_closed_field map steps f) (list_all (is_closed_field map steps) fs) e), fields_closed map steps all fs h.1 (right_of (is_closed_field map steps f) (list_all (is_closed_field map steps) fs) e))

methods_plain : (map : QName → Option Desc) (steps : ℕ) → AllFit map steps → (ms : List Method) → AllByRecursion (λ t. IsHeld map t) (flat_map (λ m. signature_types m.signature) ms) → list_all (is_plain_method map steps) ms ≡ true → AllByRecursion (λ m. IsPlainResult map m.signature) ms
methods_plain map steps all [] h e = tt
methods_plain map steps all (m ∷ ms) h e = (plain_result map steps all m.signature (all_left (λ t. IsHeld map t) (signature_types m.signature) (flat_map (λ m. signature_types m.signature) ms) h) (left_of (is_plain_method map steps m) (list_all (is_plain_method map steps) ms) e), methods_plain map steps all ms (all_right (λ t. IsHeld map t) (signature_types m.signature) (flat_map (λ m. signature_types m.signature) ms) h) (right_of (is_plain_method map steps m) (list_all (is_plain_method map steps) ms) e))

base_is : (map : QName → Option Desc) (steps : ℕ) → AllFit map steps → (o : Option TypeRef) → AllByRecursion (λ t. IsHeld map t) (listed o) → if_some (is_kind map steps is_record) o ≡ true → IfSome o (Is map is_record)
base_is map steps all None h e = tt
base_is map steps all (Some t) h e = ever map steps all is_record t h.0 e

keeps : (map : QName → Option Desc) (steps : ℕ) → AllFit map steps → (d : Desc) → AllByRecursion (λ t. IsHeld map t) (named_by d) → has_bases map steps d ≡ true → keeps_places map steps d ≡ true → Keeps map d
keeps map steps all (desc.Const v) h b e = tt
keeps map steps all (desc.Var m t) h b e = never map steps all is_open t h.0 e
keeps map steps all (desc.Proc s) h b e = plain_result map steps all s h e
keeps map steps all (desc.Alias m t) h b e = never map steps all is_open t h.0 e
keeps map steps all (desc.Array m n t) h b e = never map steps all is_open t h.0 e
keeps map steps all (desc.OpenArray m t) h b e = never map steps all is_open t h.0 e
keeps map steps all (desc.Pointer m t) h b e = ever map steps all is_structure t h.0 b
keeps map steps all (desc.ProcType m s) h b e = plain_result map steps all s h e
keeps map steps all (desc.Record r) h b e =
    let front = all_left (λ t. IsHeld map t) (listed r.base ++ each (λ f. f.of) r.fields) (flat_map (λ m. signature_types m.signature) r.methods) h in (
      base_is map steps all r.base (all_left (λ t. IsHeld map t) (listed r.base) (each (λ f. f.of) r.fields) front) b,
      (
        fields_closed map steps all r.fields (all_right (λ t. IsHeld map t) (listed r.base) (each (λ f. f.of) r.fields) front) (left_of (list_all (is_closed_field map steps) r.fields) (list_all (is_plain_method map steps) r.methods) e),
        methods_plain map steps all r.methods (all_right (λ t. IsHeld map t) (listed r.base ++ each (λ f. f.of) r.fields) (flat_map (λ m. signature_types m.signature) r.methods) h) (right_of (list_all (is_closed_field map steps) r.fields) (list_all (is_plain_method map steps) r.methods) e),
      ),
    )

keeps_in : (map : QName → Option Desc) (steps : ℕ) → AllFit map steps → (q : QName) (d : Desc) → map q ≡ Some d → Keeps map d
keeps_in map steps all q d e =
    let rest = right_of (stands map steps q d) _ (right_of (names_types map steps d) _ (all.fit q d e)) in
    keeps map steps all d (held_in map steps all q d e) (left_of (has_bases map steps d) _ rest) (left_of (keeps_places map steps d) _ (right_of (has_bases map steps d) _ rest))

grounded : (map : QName → Option Desc) (steps : ℕ) → AllFit map steps → IsGrounded map
grounded map steps all = record { held = held_in map steps all; chains = chain_in map steps all; keeps = keeps_in map steps all }

-- ---- where no object is unfit

pub or_none : {A : Type 0} (o p : Option A) → or_else o p ≡ None → (o ≡ None) × (p ≡ None)
or_none None p e = (refl, e)
or_none (Some a) p e = absurd cc

pub fit_if : (b : Bool) (q : QName) → unless b q ≡ None → b ≡ true
fit_if true q e = refl
fit_if false q e = absurd cc

abbrev at_name : List ℕ → List ℕ → QName
at_name m x = record { «module» = m; object = x }

object_step : (types : QName → Option Desc) (steps : ℕ) (m : List ℕ) (o : List ℕ × Desc) (x : List ℕ) (d : Desc) (later : Option Desc) → (later ≡ Some d → fits types steps (at_name m x) d ≡ true) → fits types steps (at_name m o.0) o.1 ≡ true → (b : Bool) → bytes_eq x o.0 ≡ b → cond b (Some o.1) later ≡ Some d → fits types steps (at_name m x) d ≡ true
object_step types steps m o x d later more fit true t h =
    let e : o.1 ≡ d = cc in
    subst (λ (l : List ℕ). fits types steps (at_name m l) d ≡ true) (sym ((bytes_decides x o.0).0 t)) (subst (λ (c : Desc). fits types steps (at_name m o.0) c ≡ true) e fit)
object_step types steps m o x d later more fit false t h = more h

object_fits : (types : QName → Option Desc) (steps : ℕ) (m : List ℕ) (os : List (List ℕ × Desc)) (x : List ℕ) (d : Desc) → first_among (misfit types steps m) os ≡ None → object_named os x ≡ Some d → fits types steps (at_name m x) d ≡ true
object_fits types steps m [] x d none e = absurd cc
object_fits types steps m (o ∷ os) x d none e =
    let parts = or_none (misfit types steps m o) (first_among (misfit types steps m) os) none in
    object_step types steps m o x d (object_named os x) (λ h. object_fits types steps m os x d parts.1 h) (fit_if (fits types steps (at_name m o.0) o.1) (at_name m o.0) parts.0) (bytes_eq x o.0) refl e

face_step : (types : QName → Option Desc) (steps : ℕ) (f : Face Print) (q : QName) (d : Desc) (later : Option (Face Print)) → ((later >>= λ g. object_named g.objects q.object) ≡ Some d → fits types steps q d ≡ true) → first_among (misfit types steps f.«module») f.objects ≡ None → (b : Bool) → bytes_eq q.«module» f.«module» ≡ b → (cond b (Some f) later >>= λ g. object_named g.objects q.object) ≡ Some d → fits types steps q d ≡ true
face_step types steps f q d later more none true t h = subst (λ (l : List ℕ). fits types steps (at_name l q.object) d ≡ true) (sym ((bytes_decides q.«module» f.«module»).0 t)) (object_fits types steps f.«module» f.objects q.object d none h)
face_step types steps f q d later more none false t h = more h

pub faces_fit : (types : QName → Option Desc) (steps : ℕ) (fs : List (Face Print)) (q : QName) (d : Desc) → first_among (λ (f : Face Print). first_among (misfit types steps f.«module») f.objects) fs ≡ None → (face_named fs q.«module» >>= λ g. object_named g.objects q.object) ≡ Some d → fits types steps q d ≡ true
faces_fit types steps [] q d none e = absurd cc
faces_fit types steps (f ∷ fs) q d none e =
    let parts = or_none (first_among (misfit types steps f.«module») f.objects) (first_among (λ (f : Face Print). first_among (misfit types steps f.«module») f.objects) fs) none in
    face_step types steps f q d (face_named fs q.«module») (λ h. faces_fit types steps fs q d parts.1 h) parts.0 (bytes_eq q.«module» f.«module») refl e

pub none_mapped : (o : Option QName) → option_map fault.Unfit o ≡ None → o ≡ None
none_mapped None e = refl
none_mapped (Some q) e = absurd cc

-- THE MAP of interfaces that fit
pub fit_grounded : (is : List Interface) → unfit_answer is ≡ None → IsGrounded (map_of is)
fit_grounded is none =
    grounded (map_of is) (steps_of (faces_of is)) (record {
      enough = omega arith;
      fit = λ q d e. faces_fit (map_of is) (steps_of (faces_of is)) (faces_of is) q d (none_mapped (first_unfit (faces_of is)) none) e;
    })
