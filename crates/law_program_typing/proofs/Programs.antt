-- In a program whose modules were judged in their order, bound procedures are introduced once.
use Rattle.std.proofs.Common.{◌≡◌, ◌≢◌, ◌⊎◌, ⊎_elim, inl, inr, refl, sym, ap, subst, ◌∙◌, ℕ, zero, suc, ◌<◌, Bool, true, false, List, [], ◌∷◌, ◌++◌, length, map as each, Option, Some, None, arith}
use Rattle.std.specs.Prelude.{bytes_eq, cond, if◌then◌else◌, MatchOption, IsTrue}
use Rattle.std.specs.Option.{option_map}
use Rattle.std.specs.List.{AllByRecursion, find}
use Rattle.ob_tree.specs.declared.names.QName.{QName}
use Rattle.ob_tree.specs.declared.ident.Mark.TheVariants as mark
use Rattle.ob_types.specs.declared.types.Basic.TheVariants as basic
use Rattle.ob_types.specs.declared.types.TypeRef.{TypeRef}
use Rattle.ob_types.specs.declared.types.TypeRef.TheVariants as ref
use Rattle.ob_types.specs.declared.desc.Desc.{Desc}
use Rattle.ob_types.specs.declared.desc.Desc.TheVariants as desc
use Rattle.ob_types.specs.declared.desc.Method.{Method}
use Rattle.ob_types.specs.declared.desc.RecordDesc.{RecordDesc}
use Rattle.ob_types.specs.declared.typed.TypedType.{TypedType}
use Rattle.ob_types.specs.Maps.{is_type}
use Rattle.ob_types.specs.TypedSyntax.{Module}
use Rattle.ob_types.specs.TypedView.{module_view}
use Rattle.ob_meaning.specs.Values.{Program, line_of, description, type_named}
use Rattle.law_simulation_relation.proofs.Names.{bytes_true, bytes_same}
use Rattle.ob_layout.specs.LaidOut.{words_in, procedures_in, laid_type}
use Rattle.ob_desc.specs.Grammar.{seen}
use Rattle.ob_uses.specs.Objects.{in_places}
use Rattle.ob_env.specs.Faces.{described}
use Rattle.ob_env.specs.Shown.{blank, shown}
use Rattle.ob_rules.specs.Judged.{no_notes}
use Rattle.ob_rules.specs.Shapes.{Map, AMethod, same_name, field_or, own_member}
use Rattle.ob_rules.specs.Names.{Around, map_of, own_desc, type_desc, out_string}
use Rattle.ob_rules.specs.Headings.{Head, counts, counted, reversed, bindings}
use Rattle.ob_rules.specs.Declarations.{headings_in_order, described as described_by, all_described}
use Rattle.ob_types.specs.declared.desc.Field.{Field}
use Rattle.law_typing_env.specs.Ages.{IsShownBy}
use Rattle.law_typing_env.proofs.Shown.{one_mapped, face_found}
use Rattle.law_typing_env.proofs.Sounds.{types_shown}
use Rattle.law_typing_forms.specs.Said.{IsOneOf, IsSound}
use Rattle.law_typing_forms.specs.Whole.{Different, IsWhole}
use Rattle.law_typing_forms.specs.Formed.{Formed}
use Rattle.law_typing_forms.specs.Steady.{IsSteady}
use Rattle.law_typing_forms.proofs.Modules.{of_all, other_name, own as whole_module, type_there}
use Rattle.law_typing.specs.Known.{ConstantIs}
use Rattle.law_typing.specs.Makes.{IfThere}
use Rattle.law_local_judged.proofs.Heading.{kept_filter}
use Rattle.law_local_methods.specs.Laws.{IsOwned}
use Rattle.law_local_methods.proofs.Owned.{heads_are_owned}
use Rattle.law_methods_introduced.specs.Families.{Introduces}
use Rattle.law_methods_introduced.proofs.Grown.{MapGrows, base_record_same}
use Rattle.law_body_context.specs.Knows.{StandsBy, Stands}
use Rattle.law_body_context.specs.Judged.{IsWithin, IsTold, IsBoundBy}
use Rattle.law_body_context.specs.Order.{IsBased, IsOver, AreInOrder}
use Rattle.law_body_context.proofs.Lists.{one_right, one_all}
use Rattle.law_body_context.proofs.Blocks.{all_reversed}
use Rattle.law_program_context.specs.Left.{AreIntroducedOnce}
use Rattle.law_program_context.specs.Judged.{IsJudgedModule, AreJudgedModules}
use Rattle.law_program_context.proofs.Age.{age_in}
use Rattle.law_program_context.proofs.Formed.{unlaid_differ}
use Rattle.law_program_typing.specs.Once.{AreOnce, IsOther, ShowOthers}
use Rattle.law_program_typing.proofs.Ranks.{AreOne, based_more}
use Rattle.law_program_typing.proofs.Bound.{line_same, bound_once}
use Rattle.law_program_typing.proofs.Walk.{above}
use Rattle.law_program_typing.proofs.Descs.{HasIn, laid_has, laid_back, blank_back_has, seen_back, more_has, fresh_not, more_based, laid_based, shown_based}

-- ---- places of modules

place : List Module → List ℕ → ℕ
place [] x = zero
place (m ∷ ms) x = cond (bytes_eq m.name x) zero (suc (place ms x))

place_before : (ms rest : List Module) (m : Module) → IsOneOf ms m → place (ms ++ rest) m.name < length ms
unfolding place
place_before [] rest m i = absurd i
place_before (k ∷ ms) rest m i = by (bytes_eq k.name m.name) refl i (place_before ms rest m)
  where
    by : (b : Bool) → bytes_eq k.name m.name ≡ b → IsOneOf (k ∷ ms) m → (IsOneOf ms m → place (ms ++ rest) m.name < length ms) → cond b zero (suc (place (ms ++ rest) m.name)) < suc (length ms)
    by true e i up = omega arith
    by false e (inl f) up = let bad : true ≡ false = sym (bytes_same m.name) ∙ ap (λ (z : Module). bytes_eq z.name m.name) (sym f) ∙ e in absurd cc
    by false e (inr j) up = let r = up j in omega (arith, r)

place_at : (ms rest : List Module) (m : Module) → Different (λ (k : Module). k.name) (ms ++ m ∷ rest) → place (ms ++ m ∷ rest) m.name ≡ length ms
unfolding place
place_at [] rest m d = ap (λ b. cond b zero (suc (place rest m.name))) (bytes_same m.name)
place_at (k ∷ ms) rest m d =
    let n : bytes_eq k.name m.name ≡ false = other_name k.name m.name (λ e. one_all (λ (y : Module). y.name ≢ k.name) (ms ++ m ∷ rest) m d.0 (one_right ms (m ∷ rest) m (inl refl)) (sym e)) in
    ap (λ b. cond b zero (suc (place (ms ++ m ∷ rest) m.name))) n ∙ ap suc (place_at ms rest m d.1)

-- ---- what is found

module_of : (ms : List Module) (q : QName) (e : Desc) → description ms q ≡ Some e → (m : Module) × (IsOneOf ms m × ((q.«module» ≡ m.name) × (type_named m.types q.object ≡ Some e)))
module_of [] q e h = absurd cc
module_of (m ∷ ms) q e h = by (bytes_eq q.«module» m.name) refl h (module_of ms q e)
  where
    by : (b : Bool) → bytes_eq q.«module» m.name ≡ b → (if b then type_named m.types q.object else description ms q) ≡ Some e → (description ms q ≡ Some e → (k : Module) × (IsOneOf ms k × ((q.«module» ≡ k.name) × (type_named k.types q.object ≡ Some e)))) → (k : Module) × (IsOneOf (m ∷ ms) k × ((q.«module» ≡ k.name) × (type_named k.types q.object ≡ Some e)))
    by true i h up = (m, (inl refl, (bytes_true q.«module» m.name i, h)))
    by false i h up = let r = up h in (r.0, (inr r.1.0, r.1.1))

type_of : (ts : List TypedType) (x : List ℕ) (e : Desc) → type_named ts x ≡ Some e → (t : TypedType) × (IsOneOf ts t × ((t.name ≡ x) × (t.desc ≡ e)))
type_of [] x e h = absurd cc
type_of (t ∷ ts) x e h = by (bytes_eq x t.name) refl h (type_of ts x e)
  where
    by : (b : Bool) → bytes_eq x t.name ≡ b → (if b then Some t.desc else type_named ts x) ≡ Some e → (type_named ts x ≡ Some e → (s : TypedType) × (IsOneOf ts s × ((s.name ≡ x) × (s.desc ≡ e)))) → (s : TypedType) × (IsOneOf (t ∷ ts) s × ((s.name ≡ x) × (s.desc ≡ e)))
    by true i h up = (t, (inl refl, (sym (bytes_true x t.name i), cc)))
    by false i h up = let r = up h in (r.0, (inr r.1.0, r.1.1))

same_module : (ms : List Module) → Different (λ (k : Module). k.name) ms → (a b : Module) → IsOneOf ms a → IsOneOf ms b → a.name ≡ b.name → a ≡ b
same_module [] d a b i j e = absurd i
same_module (m ∷ ms) d a b (inl i) (inl j) e = sym i ∙ j
same_module (m ∷ ms) d a b (inl i) (inr j) e = absurd (one_all (λ (y : Module). y.name ≢ m.name) ms b d.0 j (sym e ∙ sym (ap (λ (y : Module). y.name) i)))
same_module (m ∷ ms) d a b (inr i) (inl j) e = absurd (one_all (λ (y : Module). y.name ≢ m.name) ms a d.0 i (e ∙ sym (ap (λ (y : Module). y.name) j)))
same_module (m ∷ ms) d a b (inr i) (inr j) e = same_module ms d.1 a b i j e

-- a type as it is described by what is bound
described_from : (bound ts : List TypedType) (t : TypedType) → IsOneOf (all_described bound ts) t → (s : TypedType) × (IsOneOf ts s × (described_by (find (λ b. bytes_eq b.name s.name) bound) s ≡ t))
described_from bound [] t i = absurd i
described_from bound (s ∷ ts) t (inl e) = (s, (inl refl, e))
described_from bound (s ∷ ts) t (inr i) = let r = described_from bound ts t i in (r.0, (inr r.1.0, r.1.1))

found_in : (ts : List TypedType) (x : List ℕ) (t : TypedType) → find (λ b. bytes_eq b.name x) ts ≡ Some t → IsOneOf ts t × (t.name ≡ x)
found_in [] x t e = absurd cc
found_in (s ∷ ts) x t e = by (bytes_eq s.name x) refl e (found_in ts x t)
  where
    by : (b : Bool) → bytes_eq s.name x ≡ b → cond b (Some s) (find (λ b. bytes_eq b.name x) ts) ≡ Some t → (find (λ b. bytes_eq b.name x) ts ≡ Some t → IsOneOf ts t × (t.name ≡ x)) → IsOneOf (s ∷ ts) t × (t.name ≡ x)
    by true i e up = let same : s ≡ t = cc in (inl same, ap (λ (z : TypedType). z.name) (sym same) ∙ bytes_true s.name x i)
    by false i e up = let r = up e in (inr r.0, r.1)

-- types whose names differ are one where their names are
differ_one : (bound ts : List TypedType) → Different (λ (t : TypedType). t.name) (all_described bound ts) → AreOne ts
differ_one bound [] d a b i j e = absurd i
differ_one bound (t ∷ ts) d a b i j e = by i j (λ k l. differ_one bound ts d.1 a b k l e)
  where
    name_kept : (o : Option TypedType) (s : TypedType) → (described_by o s).name ≡ s.name
    name_kept None s = refl
    name_kept (Some b) s = refl

    there : (ts : List TypedType) (s : TypedType) → IsOneOf ts s → (k : TypedType) × (IsOneOf (all_described bound ts) k × (k.name ≡ s.name))
    there [] s i = absurd i
    there (r ∷ rs) s (inl e) = (described_by (find (λ b. bytes_eq b.name r.name) bound) r, (inl refl, name_kept (find (λ b. bytes_eq b.name r.name) bound) r ∙ ap (λ (z : TypedType). z.name) e))
    there (r ∷ rs) s (inr i) = let k = there rs s i in (k.0, (inr k.1.0, k.1.1))

    not_there : (s : TypedType) → IsOneOf ts s → s.name ≡ t.name → ⊥
    not_there s i e =
        let k = there ts s i in
        one_all (λ (y : TypedType). y.name ≢ (described_by (find (λ b. bytes_eq b.name t.name) bound) t).name) (all_described bound ts) k.0 d.0 k.1.0 (k.1.1 ∙ e ∙ sym (name_kept (find (λ b. bytes_eq b.name t.name) bound) t))

    by : IsOneOf (t ∷ ts) a → IsOneOf (t ∷ ts) b → (IsOneOf ts a → IsOneOf ts b → a.desc ≡ b.desc) → a.desc ≡ b.desc
    by (inl i) (inl j) up = ap (λ (z : TypedType). z.desc) (sym i ∙ j)
    by (inl i) (inr j) up = absurd (not_there b j (sym e ∙ sym (ap (λ (z : TypedType). z.name) i)))
    by (inr i) (inl j) up = absurd (not_there a i (e ∙ sym (ap (λ (z : TypedType). z.name) j)))
    by (inr i) (inr j) up = up i j

introduces_in : (map : Map) (q : QName) (d : Desc) (x : List ℕ) → map q ≡ Some d → HasIn d x → Introduces map q x
introduces_in map q d x e h = record { r = h.r; is = e ∙ ap (λ z. Some z) h.is; m = h.k; found = h.found }

none_some : {A : Type 0} (x : A) → None ≡ Some x → ⊥
none_some x e = absurd cc

same_map : (u v : Around) → u.unit ≡ v.unit → u.shown ≡ v.shown → u.own ≡ v.own → (q : QName) → map_of u q ≡ map_of v q
same_map u v e f g q = ap (λ (n : List ℕ). type_desc (bytes_eq q.«module» n) (same_name q out_string) u q) e ∙ by (bytes_eq q.«module» v.unit) (same_name q out_string)
  where
    by : (b c : Bool) → type_desc b c u q ≡ type_desc b c v q
    by true c = ap (λ ts. own_desc (find (λ t. bytes_eq t.name q.object) ts)) g
    by false true = refl
    by false false = ap (λ (s : QName → Option Desc). s q) f

module _ (program : Program) (sound : IsSound program) (whole : IsWhole program) where
  abbrev D : QName → Option Desc
  D = description program

  abbrev at : List ℕ → ℕ
  at x = place program x

  -- ---- a module that was judged

  module _ (m : Module) (there : IsOneOf program m) (j : IsJudgedModule program m) where
    name_is : m.name ≡ j.checked.name
    name_is = ap (λ (k : Module). k.name) j.is

    types_is : m.types ≡ each (laid_type j.types (module_view j.checked)) j.checked.types
    types_is = ap (λ (k : Module). k.types) j.is

    differ : Different (λ (t : TypedType). t.name) j.checked.types
    differ = unlaid_differ j.types (module_view j.checked) j.checked.types (subst (Different (λ (t : TypedType). t.name)) types_is (whole_module program whole m there).types)

    one : AreOne j.bodies.content.types
    one = differ_one j.bodies.content.bound j.bodies.content.types (subst (Different (λ (t : TypedType). t.name)) j.bodies.types_are differ)

    my_place : at m.name ≡ length j.before
    my_place = subst (λ (p : Program). place p m.name ≡ length j.before) (sym j.order) (place_at j.before j.rest m (subst (Different (λ (k : Module). k.name)) j.order whole.names))

    -- what is shown to it is of modules before it
    shown_before : (q : QName) (d : Desc) → described j.faces q ≡ Some d → at q.«module» < at m.name
    shown_before q d e =
        let f = face_found j.faces q d e in
        let s = of_all (λ f. IsShownBy j.before f) j.faces f.f j.age f.there in
        let n : q.«module» ≡ s.m.name = f.name ∙ s.name in
        let b : place program s.m.name < length j.before = subst (λ (p : Program). place p s.m.name < length j.before) (sym j.order) (place_before j.before (m ∷ j.rest) s.m s.there) in
        subst (λ (x : List ℕ). at x < at m.name) (sym n) (subst (λ k. at s.m.name < k) (sym my_place) b)

    before_other : (x : List ℕ) → at x < at m.name → bytes_eq x j.checked.name ≡ false
    before_other x h = other_name x j.checked.name (λ e. not_less (at x) (subst (λ y. at x < at y) (name_is ∙ sym e) h))
      where
        not_less : (k : ℕ) → k < k → ⊥
        not_less k h = omega (arith, h)

    blank_type : (d : Desc) → is_type (blank d) ≡ is_type d
    blank_type (desc.Const v) = refl
    blank_type (desc.Var m t) = refl
    blank_type (desc.Proc s) = refl
    blank_type (desc.Alias m t) = refl
    blank_type (desc.Array m n t) = refl
    blank_type (desc.OpenArray m t) = refl
    blank_type (desc.Pointer m t) = refl
    blank_type (desc.ProcType m s) = refl
    blank_type (desc.Record r) = refl

    -- what its types are based on is of modules up to it
    abbrev UpTo : TypeRef → Type 0
    UpTo (ref.Basic b) = Unit {0}
    UpTo (ref.Named q) = at q.«module» < suc (at m.name)

    stands_up : (t : TypeRef) → Stands j.checked.name (shown j.faces) j.checked.types t → UpTo t
    stands_up (ref.Basic b) h = tt
    stands_up (ref.Named q) h = by (bytes_eq q.«module» j.checked.name) refl h.1
      where
        itself : (x : List ℕ) → x ≡ m.name → at x < suc (at m.name)
        itself x e = subst (λ y. at y < suc (at m.name)) (sym e) (omega arith)

        below : (k l : ℕ) → k < l → k < suc l
        below k l h = omega (arith, h)

        other : (o : Option Desc) → described j.faces q ≡ o → MatchOption (option_map blank o) ⊥ (λ d. IsTrue (is_type d)) → at q.«module» < suc (at m.name)
        other None e h = absurd h
        other (Some d) e h = below (at q.«module») (at m.name) (shown_before q d e)

        by : (b : Bool) → bytes_eq q.«module» j.checked.name ≡ b → StandsBy b (shown j.faces) j.checked.types q → at q.«module» < suc (at m.name)
        by true e k = itself q.«module» (bytes_true q.«module» j.checked.name e ∙ sym name_is)
        by false e k = other (described j.faces q) refl k

    based_up : (d : Desc) → IsBased (Stands j.checked.name (shown j.faces) j.checked.types) d → IsBased UpTo d
    based_up (desc.Alias m t) h = stands_up t h
    based_up (desc.Record r) h = by r.base h
      where
        by : (o : Option TypeRef) → IfThere (Stands j.checked.name (shown j.faces) j.checked.types) o → IfThere UpTo o
        by None h = tt
        by (Some t) h = stands_up t h
    based_up (desc.Const v) h = tt
    based_up (desc.Var m t) h = tt
    based_up (desc.Proc s) h = tt
    based_up (desc.Array m n t) h = tt
    based_up (desc.OpenArray m t) h = tt
    based_up (desc.Pointer m t) h = tt
    based_up (desc.ProcType m s) h = tt

    made_based : (t : TypedType) → IsOneOf j.bodies.content.types t → IsBased (Stands j.checked.name (shown j.faces) j.checked.types) t.desc
    made_based t i = (one_all (IsOver (Stands j.checked.name (shown j.faces) j.checked.types)) j.bodies.content.types t j.bodies.over i).based

    bound_based : (b : TypedType) → IsOneOf j.bodies.content.bound b → IsBased (Stands j.checked.name (shown j.faces) j.checked.types) b.desc
    bound_based b i =
        let r = j.bodies.from b i in
        subst (IsBased (Stands j.checked.name (shown j.faces) j.checked.types)) (sym r.1.1.1.1) (more_based (Stands j.checked.name (shown j.faces) j.checked.types) r.1.1.1.0 r.0.desc (made_based r.0 r.1.0))

    checked_based : (t : TypedType) → IsOneOf j.checked.types t → IsBased UpTo t.desc
    checked_based t i =
        let s = described_from j.bodies.content.bound j.bodies.content.types t (subst (λ ts. IsOneOf ts t) j.bodies.types_are i) in
        by s.0 s.1.0 (find (λ b. bytes_eq b.name s.0.name) j.bodies.content.bound) refl s.1.1
      where
        by : (s : TypedType) → IsOneOf j.bodies.content.types s → (o : Option TypedType) → find (λ b. bytes_eq b.name s.name) j.bodies.content.bound ≡ o → described_by o s ≡ t → IsBased UpTo t.desc
        by s k None e f = subst (λ (z : TypedType). IsBased UpTo z.desc) f (based_up s.desc (made_based s k))
        by s k (Some b) e f = subst (λ (z : TypedType). IsBased UpTo z.desc) f (based_up b.desc (bound_based b (found_in j.bodies.content.bound s.name b e).0))

    -- a type of the program that the module declares
    declared_based : (x : List ℕ) (e : Desc) → type_named m.types x ≡ Some e → IsBased UpTo e
    declared_based x e h =
        let t = type_of m.types x e h in
        let s = one_mapped (laid_type j.types (module_view j.checked)) j.checked.types t.0 (subst (λ ts. IsOneOf ts t.0) types_is t.1.0) in
        subst (IsBased UpTo) (ap (λ (z : TypedType). z.desc) s.1.1 ∙ t.1.1.1) (laid_based UpTo (words_in j.types (module_view j.checked)) (procedures_in j.types (module_view j.checked)) _ s.0.desc (checked_based s.0 s.1.0))

    -- ---- what it introduces

    -- what is known in its body
    abbrev F : Map
    F = map_of j.bodies.body.u

    known_unit : j.bodies.body.u.unit ≡ j.checked.name
    known_unit = j.bodies.body.stands.within.unit_is

    known_shown : j.bodies.body.u.shown ≡ shown j.faces
    known_shown = j.bodies.body.stands.within.shown_is

    own_at : (q : QName) → q.«module» ≡ m.name → F q ≡ own_desc (find (λ t. bytes_eq t.name q.object) j.bodies.body.u.own)
    own_at q e = ap (λ b. type_desc b (same_name q out_string) j.bodies.body.u q) (ap (λ (x : List ℕ). bytes_eq x j.bodies.body.u.unit) (e ∙ name_is ∙ sym known_unit) ∙ bytes_same j.bodies.body.u.unit)

    bound_known : (q : QName) → q.«module» ≡ m.name → (b : TypedType) → find (λ t. bytes_eq t.name q.object) j.bodies.content.bound ≡ Some b → F q ≡ Some b.desc
    bound_known q e b f = own_at q e ∙ (ap (λ ts. own_desc (find (λ t. bytes_eq t.name q.object) ts)) (known j.bodies.own f) ∙ ap own_desc f)
      where
        known : (j.bodies.content.bound ≡ []) ⊎ (j.bodies.body.u.own ≡ j.bodies.content.bound) → find (λ t. bytes_eq t.name q.object) j.bodies.content.bound ≡ Some b → j.bodies.body.u.own ≡ j.bodies.content.bound
        known (inl e) f = absurd (none_some b (sym (ap (find (λ (t : TypedType). bytes_eq t.name q.object)) e) ∙ f))
        known (inr e) f = e

    declared_introduces : (q : QName) → q.«module» ≡ m.name → (e : Desc) → type_named m.types q.object ≡ Some e → (x : List ℕ) → HasIn e x → Introduces F q x × (j.bodies.content.bound ≡ [] → ⊥)
    declared_introduces q n e h x k =
        let t = type_of m.types q.object e h in
        let s = one_mapped (laid_type j.types (module_view j.checked)) j.checked.types t.0 (subst (λ ts. IsOneOf ts t.0) types_is t.1.0) in
        let has : HasIn s.0.desc x = laid_back (words_in j.types (module_view j.checked)) (procedures_in j.types (module_view j.checked)) _ s.0.desc x (subst (λ d. HasIn d x) (sym (ap (λ (z : TypedType). z.desc) s.1.1 ∙ t.1.1.1)) k) in
        let named : s.0.name ≡ q.object = ap (λ (z : TypedType). z.name) s.1.1 ∙ t.1.1.0 in
        let r = described_from j.bodies.content.bound j.bodies.content.types s.0 (subst (λ ts. IsOneOf ts s.0) j.bodies.types_are s.1.0) in
        by s.0 r.0 r.1.0 (find (λ b. bytes_eq b.name r.0.name) j.bodies.content.bound) refl r.1.1 has named
      where
        by : (s r : TypedType) → IsOneOf j.bodies.content.types r → (o : Option TypedType) → find (λ b. bytes_eq b.name r.name) j.bodies.content.bound ≡ o → described_by o r ≡ s → HasIn s.desc x → s.name ≡ q.object → Introduces F q x × (j.bodies.content.bound ≡ [] → ⊥)
        by s r i None f g has named = absurd (fresh_not r.desc x (one_all (IsOver (Stands j.checked.name (shown j.faces) j.checked.types)) j.bodies.content.types r j.bodies.over i).fresh (subst (λ (z : TypedType). HasIn z.desc x) (sym g) has))
        by s r i (Some b) f g has named =
            let same : r.name ≡ q.object = ap (λ (z : TypedType). z.name) g ∙ named in
            (introduces_in F q b.desc x (bound_known q n b (ap (λ y. find (λ (t : TypedType). bytes_eq t.name y) j.bodies.content.bound) (sym same) ∙ f)) (subst (λ (z : TypedType). HasIn z.desc x) (sym g) has), λ e. none_some b (sym (ap (find (λ (t : TypedType). bytes_eq t.name r.name)) e) ∙ f))

  -- ---- what is shown is of other modules

  not_type : (S : TypeRef → Type 0) (d : Desc) → is_type d ≡ false → IsBased S (blank d)
  not_type S (desc.Const v) e = tt
  not_type S (desc.Var m t) e = tt
  not_type S (desc.Proc s) e = tt
  not_type S (desc.Alias m t) e = absurd cc
  not_type S (desc.Array m n t) e = absurd cc
  not_type S (desc.OpenArray m t) e = absurd cc
  not_type S (desc.Pointer m t) e = absurd cc
  not_type S (desc.ProcType m s) e = absurd cc
  not_type S (desc.Record r) e = absurd cc

  below_then : (k l n : ℕ) → k < suc l → l < n → k < n
  below_then k l n g h = omega (arith, g, h)

  module _ (judged : AreJudgedModules program) (m : Module) (there : IsOneOf program m) (j : IsJudgedModule program m) where
    up_other : (n : Module) → at n.name < at m.name → (jn : IsJudgedModule program n) (i : IsOneOf program n) (t : TypeRef) → UpTo n i jn t → IsOther j.checked.name t
    up_other n h jn i (ref.Basic b) k = tt
    up_other n h jn i (ref.Named q) k = before_other m there j q.«module» (below_then (at q.«module») (at n.name) (at m.name) k h)

    shows_others : ShowOthers (shown j.faces) j.checked.name
    shows_others p d o e = by (described j.faces p) refl e
      where
        of_type : (c : Desc) → described j.faces p ≡ Some c → (b : Bool) → is_type c ≡ b → IsBased (IsOther j.checked.name) (blank c)
        of_type c i false t = not_type (IsOther j.checked.name) c t
        of_type c i true t =
            let s = types_shown program whole j.faces (age_in program m j) p c i t in
            let k = module_of program p s.0 s.1.0 in
            let n = k.0 in
            let jn = of_all (IsJudgedModule program) program n judged k.1.0 in
            let lower : at n.name < at m.name = subst (λ (x : List ℕ). at x < at m.name) k.1.1.0 (shown_before m there j p c i) in
            subst (λ z. IsBased (IsOther j.checked.name) (blank z)) s.1.1
            (based_more (UpTo n k.1.0 jn) (IsOther j.checked.name) (up_other n lower jn k.1.0) (blank (seen (in_places s.0))) (shown_based (UpTo n k.1.0 jn) s.0 (declared_based n k.1.0 jn p.object s.0 k.1.1.1)))

        by : (c : Option Desc) → described j.faces p ≡ c → option_map blank c ≡ Some d → IsBased (IsOther j.checked.name) d
        by None i e = absurd (none_some d e)
        by (Some c) i e = let same : blank c ≡ d = cc in subst (IsBased (IsOther j.checked.name)) same (of_type c i (is_type c) refl)

    -- ---- what the module introduces, it introduces once

    once_same : (f g : Map) → ((q : QName) → f q ≡ g q) → (unit : List ℕ) → AreOnce g unit → AreOnce f unit
    once_same f g s unit o q c b x h i e l k =
        o q c b x h (moved q i) (sym (base_record_same f g grows q) ∙ e) (line_same f g (λ q. base_record_same f g grows q) 200 c b l) (moved b k)
      where
        grows : MapGrows f g
        grows q = inl (s q)

        moved : (q : QName) → Introduces f q x → Introduces g q x
        moved q i = record { r = i.r; is = sym (s q) ∙ i.is; m = i.m; found = i.found }

    once_by : IsBoundBy j.checked.name (shown j.faces) j.bodies.content.types j.bodies.content.bound → j.bodies.body.u.own ≡ j.bodies.content.bound → AreOnce (F m there j) j.checked.name
    once_by y own =
        let hs = headings_in_order y.ps (record { around = y.base; before = [] }) in
        let u0 = hs.around in
        let heads = reversed hs.before in
        let order = subst (λ (n : List ℕ). AreInOrder n u0.shown u0.own) (sym y.unit_is) (subst (λ (s : QName → Option Desc). AreInOrder j.checked.name s u0.own) (sym y.shown_is) y.order) in
        let others = subst (λ (n : List ℕ). ShowOthers u0.shown n) (sym y.unit_is) (subst (λ (s : QName → Option Desc). ShowOthers s j.checked.name) (sym y.shown_is) shows_others) in
        let owned = kept_filter (λ (h : Head). IsOwned u0.unit h.bound) (counts heads) heads (all_reversed (λ (h : Head). IsOwned u0.unit h.bound) hs.before (subst (λ (n : List ℕ). AllByRecursion (λ (h : Head). IsOwned n h.bound) hs.before) (y.base_unit ∙ sym y.unit_is) (heads_are_owned y.base y.ps))) in
        let w : Around = record u0 { own = (bindings u0 heads).own } in
        let o = bound_once u0 u0.own order (λ a b i k e. one m there j a b (y.lies a i) (y.lies b k) e) others (counted heads) owned (record { own = u0.own; bound = []; notes = no_notes }) refl in
        once_same (F m there j) (map_of w) (same_map j.bodies.body.u w (known_unit m there j ∙ sym y.unit_is) (known_shown m there j ∙ sym y.shown_is) (own ∙ y.is)) j.checked.name (subst (AreOnce (map_of w)) y.unit_is o)

    once : (j.bodies.content.bound ≡ [] → ⊥) → AreOnce (F m there j) j.checked.name
    once n = by j.bodies.bound j.bodies.own
      where
        by : (j.bodies.content.bound ≡ []) ⊎ IsBoundBy j.checked.name (shown j.faces) j.bodies.content.types j.bodies.content.bound → (j.bodies.content.bound ≡ []) ⊎ (j.bodies.body.u.own ≡ j.bodies.content.bound) → AreOnce (F m there j) j.checked.name
        by (inl e) o = absurd (n e)
        by (inr y) (inl e) = absurd (n e)
        by (inr y) (inr own) = once_by y own

    -- ---- what is seen around a body of the module

    -- a description that says so in the program; of another module the one that is shown
    record Seen (u : Around) (q : QName) (x : List ℕ) : Type 0 where
      pub e : Desc
      pub is : D q ≡ Some e
      pub has : HasIn e x
      pub where_is : (q.«module» ≡ m.name) ⊎ ((d : Desc) × ((described j.faces q ≡ Some d) × ((map_of u q ≡ Some (blank d)) × (seen (in_places e) ≡ d))))

    module _ (u : Around) (within : IsWithin ConstantIs (shown j.faces) j.checked j.bodies.content u) where
      seen_own : (q : QName) (x : List ℕ) → q.«module» ≡ m.name → (o : Option TypedType) → find (λ t. bytes_eq t.name q.object) u.own ≡ o → Introduces (λ p. own_desc o) q x → Seen u q x
      seen_own q x e None f i = absurd (none_some (desc.Record i.r) i.is)
      seen_own q x e (Some t) f i =
          let k = found_in u.own q.object t f in
          ⊎_elim (λ y. absurd (fresh_not t.desc x (one_all (IsOver (Stands j.checked.name (shown j.faces) j.checked.types)) j.bodies.content.types t j.bodies.over y).fresh has)) (λ y. bound k.1 (j.bodies.told (differ m there j) t (inr y))) (within.own t k.0)
        where
          some_same : (a b : Desc) → Some a ≡ Some b → a ≡ b
          some_same a b e = cc

          has : HasIn t.desc x
          has = record { r = i.r; is = some_same t.desc (desc.Record i.r) i.is; k = i.m; found = i.found }

          bound : t.name ≡ q.object → IsTold j.checked.types t → Seen u q x
          bound n s =
              let l = laid_type j.types (module_view j.checked) s.0 in
              let there_is : IsOneOf m.types l = subst (λ ts. IsOneOf ts l) (sym (types_is m there j)) (one_mapped_to s.0 s.1.0) in
              let name : l.name ≡ q.object = s.1.1.0 ∙ n in
              record {
                e = l.desc;
                is = ap (λ (y : List ℕ). D (let p : QName = record { «module» = y; object = q.object } in p)) e ∙ (ap (λ (y : List ℕ). D (let p : QName = record { «module» = m.name; object = y } in p)) (sym name) ∙ type_there program whole m l there there_is);
                has = laid_has (words_in j.types (module_view j.checked)) (procedures_in j.types (module_view j.checked)) _ s.0.desc x (subst (λ d. HasIn d x) (sym s.1.1.1.1) (more_has s.1.1.1.0 t.desc x has));
                where_is = inl e;
              }
            where
              one_mapped_to : (s : TypedType) → IsOneOf j.checked.types s → IsOneOf (each (laid_type j.types (module_view j.checked)) j.checked.types) (laid_type j.types (module_view j.checked) s)
              one_mapped_to s i = mapped j.checked.types i
                where
                  mapped : (ts : List TypedType) → IsOneOf ts s → IsOneOf (each (laid_type j.types (module_view j.checked)) ts) (laid_type j.types (module_view j.checked) s)
                  mapped [] i = absurd i
                  mapped (t ∷ ts) (inl e) = inl (ap (laid_type j.types (module_view j.checked)) e)
                  mapped (t ∷ ts) (inr i) = inr (mapped ts i)

      seen_other : (q : QName) (x : List ℕ) → (o : Option Desc) → described j.faces q ≡ o → map_of u q ≡ option_map blank o → Introduces (λ p. option_map blank o) q x → Seen u q x
      seen_other q x None f g i = absurd (none_some (desc.Record i.r) i.is)
      seen_other q x (Some d) f g i =
          let same : blank d ≡ desc.Record i.r = some_same (blank d) (desc.Record i.r) i.is in
          let type : is_type d ≡ true = sym (blank_type m there j d) ∙ ap is_type same in
          let s = types_shown program whole j.faces (age_in program m j) q d f type in
          let has : HasIn (blank d) x = record { r = i.r; is = same; k = i.m; found = i.found } in
          record { e = s.0; is = s.1.0; has = seen_back s.0 x (subst (λ z. HasIn z x) (sym s.1.1) (blank_back_has d x has)); where_is = inr (d, (f, (g, s.1.1))) }
        where
          some_same : (a b : Desc) → Some a ≡ Some b → a ≡ b
          some_same a b e = cc

      seen_at : (q : QName) (x : List ℕ) → Introduces (map_of u) q x → Seen u q x
      seen_at q x i = by (bytes_eq q.«module» u.unit) (same_name q out_string) refl refl
        where
          moved : (o : Option Desc) → map_of u q ≡ o → Introduces (λ p. o) q x
          moved o e = record { r = i.r; is = sym e ∙ i.is; m = i.m; found = i.found }

          by : (b c : Bool) → bytes_eq q.«module» u.unit ≡ b → same_name q out_string ≡ c → Seen u q x
          by true c e f =
              let is : map_of u q ≡ own_desc (find (λ t. bytes_eq t.name q.object) u.own) = ap (λ b. type_desc b (same_name q out_string) u q) e in
              seen_own q x (bytes_true q.«module» u.unit e ∙ within.unit_is ∙ sym (name_is m there j)) (find (λ t. bytes_eq t.name q.object) u.own) refl (moved (own_desc (find (λ t. bytes_eq t.name q.object) u.own)) is)
          by false true e f = absurd (open_not (sym (ap (λ b. type_desc b (same_name q out_string) u q) e ∙ ap (λ c. type_desc false c u q) f) ∙ i.is))
            where
              open_not : Some (desc.OpenArray mark.Hidden (ref.Basic basic.Char)) ≡ Some (desc.Record i.r) → ⊥
              open_not e = cc
          by false false e f =
              let is : map_of u q ≡ shown j.faces q = ap (λ b. type_desc b (same_name q out_string) u q) e ∙ (ap (λ c. type_desc false c u q) f ∙ ap (λ (s : QName → Option Desc). s q) within.shown_is) in
              seen_other q x (described j.faces q) refl is (moved (option_map blank (described j.faces q)) is)

  -- ---- of a record and one that it extends

  -- the bodies of all modules know what the program has, and their maps are steady
  abbrev pub AllKnow : Type 0
  AllKnow = (n : Module) → IsOneOf program n → (j : IsJudgedModule program n) × (IsSteady (map_of j.bodies.body.u) × Formed (map_of j.bodies.body.u) program)

  own_introduces : (map : Map) (q : QName) (x : List ℕ) (k : Method) → own_member q (map q) x ≡ Some (AMethod q k) → Introduces map q x
  own_introduces map q x k e = by (map q) refl e
    where
      of_record : (r : RecordDesc) → map q ≡ Some (desc.Record r) → (f : Option Field) (n : Option Method) → find (λ (m : Method). bytes_eq m.name x) r.methods ≡ n → field_or q f n ≡ Some (AMethod q k) → Introduces map q x
      of_record r i None None g e = absurd cc
      of_record r i None (Some m) g e = record { r = r; is = i; m = m; found = g }
      of_record r i (Some f) n g e = absurd cc

      by : (o : Option Desc) → map q ≡ o → own_member q o x ≡ Some (AMethod q k) → Introduces map q x
      by (Some (desc.Record r)) i e = of_record r i (find (λ (f : Field). bytes_eq f.name x) r.fields) (find (λ (m : Method). bytes_eq m.name x) r.methods) refl e
      by None i e = absurd cc
      by (Some (desc.Const v)) i e = absurd cc
      by (Some (desc.Var n t)) i e = absurd cc
      by (Some (desc.Proc s)) i e = absurd cc
      by (Some (desc.Alias n t)) i e = absurd cc
      by (Some (desc.Array n l t)) i e = absurd cc
      by (Some (desc.OpenArray n t)) i e = absurd cc
      by (Some (desc.Pointer n t)) i e = absurd cc
      by (Some (desc.ProcType n s)) i e = absurd cc

  is_same : (q b : QName) → (q ≡ b) ⊎ (q ≡ b → ⊥)
  is_same q b = by (bytes_eq q.«module» b.«module») (bytes_eq q.object b.object) refl refl
    where
      by : (c d : Bool) → bytes_eq q.«module» b.«module» ≡ c → bytes_eq q.object b.object ≡ d → (q ≡ b) ⊎ (q ≡ b → ⊥)
      by true true e f = inl (ap (λ n. let r : QName = record { «module» = n; object = q.object } in r) (bytes_true q.«module» b.«module» e) ∙ ap (λ o. let r : QName = record { «module» = b.«module»; object = o } in r) (bytes_true q.object b.object f))
      by true false e f = inr (λ g. let bad : true ≡ false = sym (bytes_same q.object) ∙ ap (λ (p : QName). bytes_eq q.object p.object) g ∙ f in absurd cc)
      by false d e f = inr (λ g. let bad : true ≡ false = sym (bytes_same q.«module») ∙ ap (λ (p : QName). bytes_eq q.«module» p.«module») g ∙ e in absurd cc)

  not_both : (k l : ℕ) → k < l → l < k → ⊥
  not_both k l g h = omega (arith, g, h)

  module _ (judged : AreJudgedModules program) (know : AllKnow) (m : Module) (there : IsOneOf program m) (j : IsJudgedModule program m) (u : Around) (within : IsWithin ConstantIs (shown j.faces) j.checked j.bodies.content u) (formed : Formed (map_of u) program) where
    abbrev S : QName → List ℕ → Type 0
    S q x = Seen judged m there j u q x

    same_desc : (a b : Desc) (q : QName) → D q ≡ Some a → D q ≡ Some b → a ≡ b
    same_desc a b q e f = let h : Some a ≡ Some b = sym e ∙ f in some_same h
      where
        some_same : Some a ≡ Some b → a ≡ b
        some_same e = cc

    -- a base that introduces it is known so where the record is declared
    known_there : (n : Module) (i : IsOneOf program n) (jn : IsJudgedModule program n) (q b : QName) (x : List ℕ) → q.«module» ≡ n.name → S q x → S b x → Introduces (map_of u) b x → (r : RecordDesc) → map_of jn.bodies.body.u b ≡ Some (desc.Record r) → Introduces (map_of jn.bodies.body.u) b x
    known_there n i jn q b x of s t seen_b r e = by (bytes_eq b.«module» jn.bodies.body.u.unit) refl
      where
        mine : b.«module» ≡ n.name → Introduces (map_of jn.bodies.body.u) b x
        mine h =
            let k = module_of program b t.e t.is in
            let same : k.0 ≡ n = same_module program whole.names k.0 n k.1.0 i (sym k.1.1.0 ∙ h) in
            (declared_introduces n i jn b h t.e (subst (λ (z : Module). type_named z.types b.object ≡ Some t.e) same k.1.1.1) x t.has).0

        -- of another module, whose interface shows it
        of_shown : (c : Desc) → described jn.faces b ≡ Some c → map_of jn.bodies.body.u b ≡ Some (blank c) → Introduces (map_of jn.bodies.body.u) b x
        of_shown c f g = shown_by t.where_is
          where
            record_of : (z : Desc) → Some (blank c) ≡ Some z → blank c ≡ z
            record_of z e = cc

            type : is_type c ≡ true
            type = sym (blank_type n i jn c) ∙ ap is_type (record_of (desc.Record r) (sym g ∙ e))

            -- a module before the one of the record is not behind it
            never : b.«module» ≡ m.name → (q.«module» ≡ m.name) ⊎ ((d : Desc) × ((described j.faces q ≡ Some d) × ((map_of u q ≡ Some (blank d)) × (seen (in_places s.e) ≡ d)))) → ⊥
            never h (inl k) =
                let l = shown_before n i jn b c f in
                not_both (at m.name) (at m.name) (here l h k) (here l h k)
              where
                here : at b.«module» < at n.name → b.«module» ≡ m.name → q.«module» ≡ m.name → at m.name < at m.name
                here l h k = subst (λ y. at m.name < at y) (sym of ∙ k) (subst (λ y. at y < at n.name) h l)
            never h (inr (d, (k, rest))) = not_both (at m.name) (at n.name) (subst (λ y. at y < at n.name) h (shown_before n i jn b c f)) (subst (λ y. at y < at m.name) of (shown_before m there j q d k))

            shown_by : (b.«module» ≡ m.name) ⊎ ((d : Desc) × ((described j.faces b ≡ Some d) × ((map_of u b ≡ Some (blank d)) × (seen (in_places t.e) ≡ d)))) → Introduces (map_of jn.bodies.body.u) b x
            shown_by (inl h) = absurd (never h s.where_is)
            shown_by (inr (d, (k, (z, w)))) =
                let y = types_shown program whole jn.faces (age_in program n jn) b c f type in
                let same : blank c ≡ blank d = ap blank (sym y.1.1 ∙ ap (λ e. seen (in_places e)) (same_desc y.0 t.e b y.1.0 t.is) ∙ w) in
                record { r = seen_b.r; is = g ∙ (ap (λ z. Some z) same ∙ (sym z ∙ seen_b.is)); m = seen_b.m; found = seen_b.found }

        other : (o : Option Desc) → described jn.faces b ≡ o → map_of jn.bodies.body.u b ≡ option_map blank o → Introduces (map_of jn.bodies.body.u) b x
        other None f g = absurd (none_some (desc.Record r) (sym g ∙ e))
        other (Some c) f g = of_shown c f g

        foreign : (c : Bool) → same_name b out_string ≡ c → bytes_eq b.«module» jn.bodies.body.u.unit ≡ false → Introduces (map_of jn.bodies.body.u) b x
        foreign true f h = absurd (open_not (sym (ap (λ z. type_desc z (same_name b out_string) jn.bodies.body.u b) h ∙ ap (λ c. type_desc false c jn.bodies.body.u b) f) ∙ e))
          where
            open_not : Some (desc.OpenArray mark.Hidden (ref.Basic basic.Char)) ≡ Some (desc.Record r) → ⊥
            open_not e = cc
        foreign false f h = other (described jn.faces b) refl (ap (λ z. type_desc z (same_name b out_string) jn.bodies.body.u b) h ∙ (ap (λ c. type_desc false c jn.bodies.body.u b) f ∙ ap (λ (s : QName → Option Desc). s b) (known_shown n i jn)))

        by : (c : Bool) → bytes_eq b.«module» jn.bodies.body.u.unit ≡ c → Introduces (map_of jn.bodies.body.u) b x
        by true h = mine (bytes_true b.«module» jn.bodies.body.u.unit h ∙ known_unit n i jn ∙ sym (name_is n i jn))
        by false h = foreign (same_name b out_string) refl h

    pub introduced_once : AreIntroducedOnce program (map_of u)
    introduced_once q b x k l below e f =
        let iq = own_introduces (map_of u) q x k e in
        let ib = own_introduces (map_of u) b x l f in
        let s = seen_at judged m there j u within q x iq in
        let t = seen_at judged m there j u within b x ib in
        let d = module_of program q s.e s.is in
        let n = d.0 in
        let jn = (know n d.1.0).0 in
        let w = (know n d.1.0).1 in
        let own = declared_introduces n d.1.0 jn q d.1.1.0 s.e d.1.1.1 x s.has in
        ⊎_elim (λ h. h)
        (λ different.
        let a = above program (map_of jn.bodies.body.u) w.1 w.0 b _ (ap line_of (formed.records b ib.r ib.is).is) q own.0.r own.0.is below.0 below.1 different in
        absurd
        (once judged n d.1.0 jn own.1 q a.0 b x (ap (λ (y : List ℕ). bytes_eq y jn.checked.name) (d.1.1.0 ∙ name_is n d.1.0 jn) ∙ bytes_same jn.checked.name) own.0 a.1.0 a.1.1.line
        (known_there n d.1.0 jn q b x d.1.1.0 s t ib a.1.1.r a.1.1.is)))
        (is_same q b)
