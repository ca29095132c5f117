-- A map that fits, and one that says as much and more.
use Rattle.std.proofs.Common.{◌≡◌, ℕ, zero, suc, ◌≤◌, ◌+◌, ◌*◌, Bool, true, not, List, [], ◌∷◌, ◌++◌, Option, Some, None, refl, sym, ap, ◌∙◌, arith}
use Rattle.std.specs.Prelude.{◌&&◌, ◌||◌, map as each, nat_le, MatchOption, IsTrue}
use Rattle.std.specs.List.{list_all, flat_map, AllByRecursion}
use Rattle.ob_format.specs.Format.{◌>>=◌}
use Rattle.ob_tree.specs.declared.names.QName.{QName}
use Rattle.ob_types.specs.declared.types.TypeRef.{TypeRef}
use Rattle.ob_types.specs.declared.types.TypeRef.TheVariants as ref
use Rattle.ob_types.specs.declared.types.Signature.{Signature}
use Rattle.ob_types.specs.declared.desc.Desc.{Desc}
use Rattle.ob_types.specs.declared.desc.Desc.TheVariants as desc
use Rattle.ob_types.specs.declared.desc.RecordDesc.{RecordDesc}
use Rattle.ob_types.specs.declared.desc.Field.{Field}
use Rattle.ob_types.specs.declared.desc.Method.{Method}
use Rattle.ob_types.specs.Maps.{is_type, listed, signature_types, stands_on, named_by, IsHeld, IsWithin}
use Rattle.ob_types.specs.Relations.{is_record, is_structure, is_open}
use Rattle.ob_types.specs.Tests.{target_of, follow, target, shape_at}
use Rattle.ob_types.specs.AssigningTests.{described as is_described}
use Rattle.ob_types.proofs.Targets.{is_target}
use Rattle.ob_layout.specs.Words.{described_words, words_within, most_words}
use Rattle.ob_env.specs.Fit.{if_some, chain_described, is_within, record_of, words_before, procedures_before, own_names, names_from, are_distinct, is_inside, is_numbered, is as is_kind, is_held, names_types, stands, has_bases, has_plain_result, is_closed_field, is_plain_method, keeps_places, has_few_words, base_of, has_few_procedures, covers_base, has_fields_inside, has_own_numbers, visible_names, has_distinct_names, is_sound_record, fits}
use Rattle.ob_env.proofs.Grounded.{left_of, all_left, all_right, all_held, stood_held, AllFit, held_in, chain_in}

-- the first map fits, and the second has all that it has
pub record Grows (old new : QName → Option Desc) (few many : ℕ) : Type 0 where
  pub fit : AllFit old few
  pub enough : 201 ≤ many
  pub keeps : (q : QName) (d : Desc) → old q ≡ Some d → new q ≡ Some d

joined : {a b c d : Bool} → a ≡ b → c ≡ d → (a && c) ≡ (b && d)
joined {b = b} {c = c} e f = ap (λ x. x && c) e ∙ ap (λ x. b && x) f

recorded : (o : Option Desc) (r : RecordDesc) → record_of o ≡ Some r → o ≡ Some (desc.Record r)
recorded (Some (desc.Record b)) r e = let f : b ≡ r = cc in ap (λ x. Some (desc.Record x)) f
recorded None r e = absurd cc
recorded (Some (desc.Const v)) r e = absurd cc
recorded (Some (desc.Var m t)) r e = absurd cc
recorded (Some (desc.Proc s)) r e = absurd cc
recorded (Some (desc.Alias m t)) r e = absurd cc
recorded (Some (desc.Array m n t)) r e = absurd cc
recorded (Some (desc.OpenArray m t)) r e = absurd cc
recorded (Some (desc.Pointer m t)) r e = absurd cc
recorded (Some (desc.ProcType m s)) r e = absurd cc

module _ (map : QName → Option Desc) where
  abbrev AllHeld : List TypeRef → Type 0
  AllHeld ts = AllByRecursion (λ t. IsHeld map t) ts

  -- the types of a description's parts
  base_held : (r : RecordDesc) → AllHeld (named_by (desc.Record r)) → AllHeld (listed r.base)
  base_held r h = all_left (λ t. IsHeld map t) (listed r.base) (each (λ f. f.of) r.fields) (all_left (λ t. IsHeld map t) (listed r.base ++ each (λ f. f.of) r.fields) (flat_map (λ m. signature_types m.signature) r.methods) h)

  fields_held : (r : RecordDesc) → AllHeld (named_by (desc.Record r)) → AllHeld (each (λ f. f.of) r.fields)
  fields_held r h = all_right (λ t. IsHeld map t) (listed r.base) (each (λ f. f.of) r.fields) (all_left (λ t. IsHeld map t) (listed r.base ++ each (λ f. f.of) r.fields) (flat_map (λ m. signature_types m.signature) r.methods) h)

  methods_held : (r : RecordDesc) → AllHeld (named_by (desc.Record r)) → AllHeld (flat_map (λ m. signature_types m.signature) r.methods)
  methods_held r h = all_right (λ t. IsHeld map t) (listed r.base ++ each (λ f. f.of) r.fields) (flat_map (λ m. signature_types m.signature) r.methods) h

  result_held : (s : Signature) → AllHeld (signature_types s) → AllHeld (listed s.result)
  result_held s h = all_right (λ t. IsHeld map t) (each (λ p. p.1) s.params) (listed s.result) h

  all_same : (p r : TypeRef → Bool) → ((t : TypeRef) → IsHeld map t → p t ≡ r t) → (ts : List TypeRef) → AllHeld ts → list_all p ts ≡ list_all r ts
  all_same p r same [] h = refl
  all_same p r same (t ∷ ts) h = joined (same t h.0) (all_same p r same ts h.1)

  described_held : (o : Option Desc) → MatchOption o ⊥ (λ d. IsTrue (is_type d) × AllByRecursion (λ t. IsWithin map 200 t) (stands_on d)) → MatchOption o ⊥ (λ d. IsTrue (is_type d))
  described_held None h = absurd h
  described_held (Some d) h = h.0

  within_held : (t : TypeRef) → IsWithin map 201 t → IsHeld map t
  unfolding IsWithin
  within_held (ref.Basic b) h = tt
  within_held (ref.Named q) h = described_held (map q) h

  -- where a base is described
  base_known : (steps : ℕ) (r b : RecordDesc) → base_of map steps r ≡ Some b → (q : QName) × (map q ≡ Some (desc.Record b))
  base_known steps r b e = go r.base e
    where
      shaped : (t : TypeRef) → record_of (shape_at map t) ≡ Some b → (q : QName) × (map q ≡ Some (desc.Record b))
      shaped (ref.Basic k) e = absurd cc
      shaped (ref.Named q) e = (q, recorded (map q) b e)

      go : (o : Option TypeRef) → (o >>= λ t. record_of (shape_at map (target map steps t))) ≡ Some b → (q : QName) × (map q ≡ Some (desc.Record b))
      go None e = absurd cc
      go (Some t) e = shaped (target map steps t) e

module _ (old new : QName → Option Desc) (few many : ℕ) (g : Grows old new few many) where
  -- ---- what is held is the same in both

  named_same : (q : QName) → IsHeld old (ref.Named q) → new q ≡ old q
  named_same q h = go (old q) refl h
    where
      go : (o : Option Desc) → old q ≡ o → MatchOption o ⊥ (λ d. IsTrue (is_type d)) → new q ≡ old q
      go None e h = absurd h
      go (Some d) e h = g.keeps q d e ∙ sym e

  held_same : (t : TypeRef) → IsHeld old t → is_held new many t ≡ is_held old few t
  held_same (ref.Basic b) h = refl
  held_same (ref.Named q) h = ap (is_described is_type) (named_same q h)

  -- a chain from a name of which both say the same
  chain_same : (q : QName) (n : ℕ) → new q ≡ old q → ((t : TypeRef) → IsHeld old t → is_within new n t ≡ is_within old n t) → chain_described (is_within new n) (new q) ≡ chain_described (is_within old n) (old q)
  chain_same q n e below = ap (chain_described (is_within new n)) e ∙ go (old q) refl
    where
      go : (o : Option Desc) → old q ≡ o → chain_described (is_within new n) o ≡ chain_described (is_within old n) o
      go None f = refl
      go (Some d) f = all_same old (is_within new n) (is_within old n) below (stands_on d) (stood_held old d (held_in old few g.fit q d f))

  within_same : (n : ℕ) (t : TypeRef) → IsHeld old t → is_within new n t ≡ is_within old n t
  within_same n (ref.Basic b) h = refl
  within_same zero (ref.Named q) h = refl
  within_same (suc n) (ref.Named q) h = chain_same q n (named_same q h) (λ t k. within_same n t k)

  -- words
  sized_same : (d : Desc) (n : ℕ) → AllHeld old (named_by d) → ((t : TypeRef) → IsHeld old t → words_within new n t ≡ words_within old n t) → described_words (words_within new n) (Some d) ≡ described_words (words_within old n) (Some d)
  sized_same (desc.Const v) n h below = refl
  sized_same (desc.Var m t) n h below = refl
  sized_same (desc.Proc s) n h below = refl
  sized_same (desc.Alias m t) n h below = below t h.0
  sized_same (desc.Array m k t) n h below = ap (λ (w : ℕ). k * w) (below t h.0)
  sized_same (desc.OpenArray m t) n h below = refl
  sized_same (desc.Pointer m t) n h below = refl
  sized_same (desc.ProcType m s) n h below = refl
  sized_same (desc.Record r) n h below = refl

  name_words : (q : QName) (n : ℕ) → new q ≡ old q → ((t : TypeRef) → IsHeld old t → words_within new n t ≡ words_within old n t) → described_words (words_within new n) (new q) ≡ described_words (words_within old n) (old q)
  name_words q n e below = ap (described_words (words_within new n)) e ∙ go (old q) refl
    where
      go : (o : Option Desc) → old q ≡ o → described_words (words_within new n) o ≡ described_words (words_within old n) o
      go None f = refl
      go (Some d) f = sized_same d n (held_in old few g.fit q d f) below

  words_same : (n : ℕ) (t : TypeRef) → IsHeld old t → words_within new n t ≡ words_within old n t
  words_same zero t h = refl
  words_same (suc n) (ref.Basic b) h = refl
  words_same (suc n) (ref.Named q) h = name_words q n (named_same q h) (λ t k. words_same n t k)

  -- ---- what a type stands for

  follow_same : (q : QName) (n a b : ℕ) (o : Option Desc) → old q ≡ o → ((t : TypeRef) → IsWithin old n t → target new a t ≡ target old b t) → MatchOption o ⊥ (λ d. IsTrue (is_type d) × AllByRecursion (λ t. IsWithin old n t) (stands_on d)) → follow (target_of (new q)) (ref.Named q) (λ u. target new a u) ≡ follow (target_of o) (ref.Named q) (λ u. target old b u)
  follow_same q n a b None e below h = absurd h
  follow_same q n a b (Some d) e below h = ap (λ (o : Option Desc). follow (target_of o) (ref.Named q) (λ u. target new a u)) (g.keeps q d e) ∙ go d h.1
    where
      go : (d : Desc) → AllByRecursion (λ t. IsWithin old n t) (stands_on d) → follow (target_of (Some d)) (ref.Named q) (λ u. target new a u) ≡ follow (target_of (Some d)) (ref.Named q) (λ u. target old b u)
      go (desc.Const v) h = refl
      go (desc.Var m t) h = refl
      go (desc.Proc s) h = refl
      go (desc.Alias m t) h = below t h.0
      go (desc.Array m k t) h = refl
      go (desc.OpenArray m t) h = refl
      go (desc.Pointer m t) h = refl
      go (desc.ProcType m s) h = refl
      go (desc.Record r) h = refl

  target_same : (n a b : ℕ) (t : TypeRef) → n ≤ a → n ≤ b → IsWithin old n t → target new a t ≡ target old b t
  unfolding IsWithin target
  target_same n zero zero (ref.Basic k) la lb h = refl
  target_same n zero (suc b) (ref.Basic k) la lb h = refl
  target_same n (suc a) zero (ref.Basic k) la lb h = refl
  target_same n (suc a) (suc b) (ref.Basic k) la lb h = refl
  target_same zero a b (ref.Named q) la lb h = absurd h
  target_same (suc n) zero b (ref.Named q) la lb h = absurd (omega (arith, la))
  target_same (suc n) (suc a) zero (ref.Named q) la lb h = absurd (omega (arith, lb))
  target_same (suc n) (suc a) (suc b) (ref.Named q) la lb h = follow_same q n a b (old q) refl (λ t k. target_same n a b t (omega (arith, la)) (omega (arith, lb)) k) h

  shape_held : (t : TypeRef) → IsHeld old t → shape_at new t ≡ shape_at old t
  shape_held (ref.Basic b) h = refl
  shape_held (ref.Named q) h = named_same q h

  shape_same : (t : TypeRef) → IsHeld old t → shape_at new (target new many t) ≡ shape_at old (target old few t)
  shape_same t h =
      let chain = chain_in old few g.fit t h in
      ap (shape_at new) (target_same 201 many few t g.enough g.fit.enough chain) ∙ shape_held (target old few t) (within_held old (target old few t) (is_target old 201 few t g.fit.enough chain).within)

  kind_same : (kind : Desc → Bool) (t : TypeRef) → IsHeld old t → is_kind new many kind t ≡ is_kind old few kind t
  kind_same kind t h = ap (is_described kind) (shape_same t h)

  base_same : (r : RecordDesc) → AllHeld old (listed r.base) → base_of new many r ≡ base_of old few r
  base_same r h = go r.base h
    where
      go : (o : Option TypeRef) → AllHeld old (listed o) → (o >>= λ t. record_of (shape_at new (target new many t))) ≡ (o >>= λ t. record_of (shape_at old (target old few t)))
      go None h = refl
      go (Some t) h = ap record_of (shape_same t h.0)

  names_step : (r : RecordDesc) (n : ℕ) → ((b : RecordDesc) → AllHeld old (listed b.base) → visible_names new many n b ≡ visible_names old few n b) → (o : Option RecordDesc) → base_of old few r ≡ o → names_from (visible_names new many n) o ≡ names_from (visible_names old few n) o
  names_step r n below None e = refl
  names_step r n below (Some b) e =
      let k = base_known old few r b e in
      below b (base_held old b (held_in old few g.fit k.0 (desc.Record b) k.1))

  names_same : (n : ℕ) (r : RecordDesc) → AllHeld old (listed r.base) → visible_names new many n r ≡ visible_names old few n r
  names_same zero r h = refl
  names_same (suc n) r h = ap (λ (o : Option RecordDesc). own_names r ++ names_from (visible_names new many n) o) (base_same r h) ∙ ap (λ (xs : List (List ℕ)). own_names r ++ xs) (names_step r n (λ b k. names_same n b k) (base_of old few r) refl)

  -- ---- an object whose types are held

  some_same : (p r : TypeRef → Bool) → ((t : TypeRef) → IsHeld old t → p t ≡ r t) → (o : Option TypeRef) → AllHeld old (listed o) → if_some p o ≡ if_some r o
  some_same p r same None h = refl
  some_same p r same (Some t) h = same t h.0

  bases_same : (d : Desc) → AllHeld old (named_by d) → has_bases new many d ≡ has_bases old few d
  bases_same (desc.Const v) h = refl
  bases_same (desc.Var m t) h = refl
  bases_same (desc.Proc s) h = refl
  bases_same (desc.Alias m t) h = refl
  bases_same (desc.Array m n t) h = refl
  bases_same (desc.OpenArray m t) h = refl
  bases_same (desc.Pointer m t) h = kind_same is_structure t h.0
  bases_same (desc.ProcType m s) h = refl
  bases_same (desc.Record r) h = some_same (is_kind new many is_record) (is_kind old few is_record) (kind_same is_record) r.base (base_held old r h)

  not_same : (kind : Desc → Bool) (t : TypeRef) → IsHeld old t → not (is_kind new many kind t) ≡ not (is_kind old few kind t)
  not_same kind t h = ap not (kind_same kind t h)

  result_same : (s : Signature) → AllHeld old (signature_types s) → has_plain_result new many s ≡ has_plain_result old few s
  result_same s h = some_same (λ t. not (is_kind new many is_structure t)) (λ t. not (is_kind old few is_structure t)) (not_same is_structure) s.result (result_held old s h)

  fields_same : (fs : List Field) → AllHeld old (each (λ f. f.of) fs) → list_all (is_closed_field new many) fs ≡ list_all (is_closed_field old few) fs
  fields_same [] h = refl
  fields_same (f ∷ fs) h = joined (not_same is_open f.of h.0) (fields_same fs h.1)

  methods_same : (ms : List Method) → AllHeld old (flat_map (λ m. signature_types m.signature) ms) → list_all (is_plain_method new many) ms ≡ list_all (is_plain_method old few) ms
  methods_same [] h = refl
  methods_same (m ∷ ms) h = joined (result_same m.signature (all_left (λ t. IsHeld old t) (signature_types m.signature) (flat_map (λ m. signature_types m.signature) ms) h)) (methods_same ms (all_right (λ t. IsHeld old t) (signature_types m.signature) (flat_map (λ m. signature_types m.signature) ms) h))

  places_same : (d : Desc) → AllHeld old (named_by d) → keeps_places new many d ≡ keeps_places old few d
  places_same (desc.Const v) h = refl
  places_same (desc.Var m t) h = not_same is_open t h.0
  places_same (desc.Proc s) h = result_same s h
  places_same (desc.Alias m t) h = not_same is_open t h.0
  places_same (desc.Array m n t) h = not_same is_open t h.0
  places_same (desc.OpenArray m t) h = not_same is_open t h.0
  places_same (desc.Pointer m t) h = refl
  places_same (desc.ProcType m s) h = result_same s h
  places_same (desc.Record r) h = joined (fields_same r.fields (fields_held old r h)) (methods_same r.methods (methods_held old r h))

  inside_same : (before words : ℕ) (fs : List Field) → AllHeld old (each (λ f. f.of) fs) → list_all (is_inside new before words) fs ≡ list_all (is_inside old before words) fs
  inside_same before words [] h = refl
  inside_same before words (f ∷ fs) h = joined (ap (λ (w : ℕ). nat_le before f.place && nat_le (f.place + w) words) (words_same 201 f.of h.0)) (inside_same before words fs h.1)

  sound_same : (d : Desc) → AllHeld old (named_by d) → is_sound_record new many d ≡ is_sound_record old few d
  sound_same (desc.Const v) h = refl
  sound_same (desc.Var m t) h = refl
  sound_same (desc.Proc s) h = refl
  sound_same (desc.Alias m t) h = refl
  sound_same (desc.Array m n t) h = refl
  sound_same (desc.OpenArray m t) h = refl
  sound_same (desc.Pointer m t) h = refl
  sound_same (desc.ProcType m s) h = refl
  sound_same (desc.Record r) h =
      let base = base_same r (base_held old r h) in
      let covers : covers_base new many r ≡ covers_base old few r = ap (λ (o : Option RecordDesc). nat_le (words_before o) r.words && nat_le (procedures_before o) r.procedures) base in
      let inside : has_fields_inside new many r ≡ has_fields_inside old few r = ap (λ (o : Option RecordDesc). list_all (is_inside new (words_before o) r.words) r.fields) base ∙ inside_same (words_before (base_of old few r)) r.words r.fields (fields_held old r h) in
      let numbers : has_own_numbers new many r ≡ has_own_numbers old few r = ap (λ (o : Option RecordDesc). list_all (is_numbered (procedures_before o) r.procedures) r.methods) base in
      let distinct : has_distinct_names new many r ≡ has_distinct_names old few r = ap are_distinct (names_same 201 r (base_held old r h)) in
      ap (λ (b : Bool). has_few_procedures old few r && b) (joined covers (joined inside (joined numbers distinct)))

  -- AN OBJECT of a name of which both maps say the same
  pub fits_same : (q : QName) (d : Desc) → new q ≡ old q → AllHeld old (named_by d) → fits new many q d ≡ fits old few q d
  fits_same q d e h =
      let named : names_types new many d ≡ names_types old few d = all_same old (is_held new many) (is_held old few) held_same (named_by d) h in
      let chains : stands new many q d ≡ stands old few q d = ap (λ (b : Bool). not (is_type d) || b) (chain_same q 200 e (within_same 200)) in
      let words : has_few_words new many q d ≡ has_few_words old few q d = ap (λ (w : ℕ). not (is_type d) || nat_le w most_words) (name_words q 200 e (words_same 200)) in
      joined named (joined chains (joined (bases_same d h) (joined (places_same d h) (joined words (sound_same d h)))))

  pub still_fits : (q : QName) (d : Desc) → new q ≡ old q → fits old few q d ≡ true → fits new many q d ≡ true
  still_fits q d e f = fits_same q d e (all_held old few (named_by d) (left_of (names_types old few d) _ f)) ∙ f
