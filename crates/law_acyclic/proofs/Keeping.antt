-- What descriptions keep, in maps that say the same of the types of a set but for bound procedures.
use Rattle.std.proofs.Common.{◌≡◌, sym, ap, ◌∙◌, Bool, false, List, [], ◌∷◌, ◌++◌, map, Option, Some, None}
use Rattle.std.specs.Prelude.{MatchOption, IfSome, IsTrue}
use Rattle.std.specs.List.{AllByRecursion, flat_map}
use Rattle.ob_tree.specs.declared.names.QName.{QName}
use Rattle.ob_tree.specs.declared.ident.Mark.{Mark}
use Rattle.ob_types.specs.declared.types.TypeRef.{TypeRef}
use Rattle.ob_types.specs.declared.types.TypeRef.TheVariants as ref
use Rattle.ob_types.specs.declared.types.Signature.{Signature}
use Rattle.ob_types.specs.declared.desc.Desc.{Desc}
use Rattle.ob_types.specs.declared.desc.Desc.TheVariants as desc
use Rattle.ob_types.specs.declared.desc.Field.{Field}
use Rattle.ob_types.specs.declared.desc.Method.{Method}
use Rattle.ob_types.specs.Maps.{named_by, signature_types, listed}
use Rattle.ob_types.specs.Relations.{IsOwn as IsOwnType, is_alias, StandsFor, itself, equated, Is, is_structure, is_open as is_open_desc, is_record as is_record_desc, IsPlainResult, Keeps}
use Rattle.ob_rules.specs.Shapes.{Map}
use Rattle.law_acyclic.proofs.Sorts.{strip, stripped, alias_is, alias_stripped, structure_stripped, open_desc_stripped, record_desc_stripped}
use Rattle.law_lists.proofs.Lists.{all_back, all_front}

-- ---- what descriptions have that are the same but for bound procedures

kind_at : (f : Desc → Bool) → ((d : Desc) → f (strip d) ≡ f d) → (x y : Option Desc) → stripped x ≡ stripped y → MatchOption x ⊥ (λ d. IsTrue (f d)) → MatchOption y ⊥ (λ d. IsTrue (f d))
kind_at f k None y e h = absurd h
kind_at f k (Some d) None e h = absurd cc
kind_at f k (Some d) (Some c) e h = let i : strip d ≡ strip c = cc in sym (k c) ∙ ap f (sym i) ∙ k d ∙ h

own_kind : (x y : Option Desc) → stripped x ≡ stripped y → MatchOption x (Unit {0}) (λ d. is_alias d ≡ false) → MatchOption y (Unit {0}) (λ d. is_alias d ≡ false)
own_kind x None e h = tt
own_kind None (Some c) e h = absurd cc
own_kind (Some d) (Some c) e h = let i : strip d ≡ strip c = cc in sym (alias_stripped c) ∙ ap is_alias (sym i) ∙ alias_stripped d ∙ h

alias_at : (m : Mark) (t : TypeRef) (x y : Option Desc) → stripped x ≡ stripped y → x ≡ Some (desc.Alias m t) → y ≡ Some (desc.Alias m t)
alias_at m t x None e f = let bad : Some (desc.Alias m t) ≡ None = sym (ap stripped f) ∙ e in absurd cc
alias_at m t x (Some c) e f = let i : Some (strip c) ≡ Some (desc.Alias m t) = sym e ∙ ap stripped f in ap (λ d. Some d) (alias_is m t c cc)

-- ---- two maps that say the same of the types of a set, but for bound procedures; each of these names others of the set

module _ (P : TypeRef → Type 0) (one two : Map) (names : (q : QName) (d : Desc) → P (ref.Named q) → two q ≡ Some d → AllByRecursion P (named_by d)) (same : (q : QName) → P (ref.Named q) → stripped (two q) ≡ stripped (one q)) where
  own_two : (t : TypeRef) → P t → IsOwnType one t → IsOwnType two t
  own_two (ref.Basic b) s h = tt
  own_two (ref.Named q) s h = own_kind (one q) (two q) (sym (same q s)) h

  own_one : (t : TypeRef) → P t → IsOwnType two t → IsOwnType one t
  own_one (ref.Basic b) s h = tt
  own_one (ref.Named q) s h = own_kind (two q) (one q) (same q s) h

  stands_two : {t u : TypeRef} → StandsFor one t u → P t → StandsFor two t u × P u
  stands_two (itself {t = t} a) s = (itself (own_two t s a), s)
  stands_two (equated {q = q} {m = m} {t = t} f r) s =
      let g : two q ≡ Some (desc.Alias m t) = alias_at m t (one q) (two q) (sym (same q s)) f in
      let k = stands_two r (names q (desc.Alias m t) s g).0 in
      (equated g k.0, k.1)

  stands_one : {t u : TypeRef} → StandsFor two t u → P t → StandsFor one t u × P u
  stands_one (itself {t = t} a) s = (itself (own_one t s a), s)
  stands_one (equated {q = q} {m = m} {t = t} f r) s =
      let k = stands_one r (names q (desc.Alias m t) s f).0 in
      (equated (alias_at m t (two q) (one q) (same q s) f) k.0, k.1)

  is_two : (f : Desc → Bool) → ((d : Desc) → f (strip d) ≡ f d) → (t : TypeRef) → P t → Is one f t → Is two f t
  is_two f k t s h = let r = stands_two h.1.0 s in (h.0, (r.0, kind_at f k (one h.0) (two h.0) (sym (same h.0 r.1)) h.1.1))

  not_two : (f : Desc → Bool) → ((d : Desc) → f (strip d) ≡ f d) → (t : TypeRef) → P t → (Is one f t → ⊥) → Is two f t → ⊥
  not_two f k t s n h = let r = stands_one h.1.0 s in n (h.0, (r.0, kind_at f k (two h.0) (one h.0) (same h.0 r.1) h.1.1))

  -- ---- what descriptions keep

  abbrev All : List TypeRef → Type 0
  All ts = AllByRecursion P ts

  plain : (s : Signature) → All (signature_types s) → IsPlainResult one s → IsPlainResult two s
  plain s h k = by s.result (all_back P (map (λ p. p.1) s.params) (listed s.result) h) k
    where
      by : (o : Option TypeRef) → All (listed o) → IfSome o (λ t. Is one is_structure t → ⊥) → IfSome o (λ t. Is two is_structure t → ⊥)
      by None h k = tt
      by (Some t) h k = not_two is_structure structure_stripped t h.0 k

  fields : (fs : List Field) → All (map (λ f. f.of) fs) → AllByRecursion (λ (f : Field). Is one is_open_desc f.of → ⊥) fs → AllByRecursion (λ (f : Field). Is two is_open_desc f.of → ⊥) fs
  fields [] h k = tt
  fields (f ∷ fs) h k = (not_two is_open_desc open_desc_stripped f.of h.0 k.0, fields fs h.1 k.1)

  methods : (ms : List Method) → All (flat_map (λ (m : Method). signature_types m.signature) ms) → AllByRecursion (λ (m : Method). IsPlainResult one m.signature) ms → AllByRecursion (λ (m : Method). IsPlainResult two m.signature) ms
  methods [] h k = tt
  methods (m ∷ ms) h k = (plain m.signature (all_front P (signature_types m.signature) _ h) k.0, methods ms (all_back P (signature_types m.signature) _ h) k.1)

  base : (o : Option TypeRef) → All (listed o) → IfSome o (Is one is_record_desc) → IfSome o (Is two is_record_desc)
  base None h k = tt
  base (Some t) h k = is_two is_record_desc record_desc_stripped t h.0 k

  -- what a description keeps by the one it keeps by the other
  pub keeps_same : (d : Desc) → All (named_by d) → Keeps one d → Keeps two d
  keeps_same (desc.Const v) h k = tt
  keeps_same (desc.Var m t) h k = not_two is_open_desc open_desc_stripped t h.0 k
  keeps_same (desc.Proc s) h k = plain s h k
  keeps_same (desc.Alias m t) h k = not_two is_open_desc open_desc_stripped t h.0 k
  keeps_same (desc.Array m n t) h k = not_two is_open_desc open_desc_stripped t h.0 k
  keeps_same (desc.OpenArray m t) h k = not_two is_open_desc open_desc_stripped t h.0 k
  keeps_same (desc.Pointer m t) h k = is_two is_structure structure_stripped t h.0 k
  keeps_same (desc.ProcType m s) h k = plain s h k
  keeps_same (desc.Record r) h k =
      let front = listed r.base ++ map (λ f. f.of) r.fields in
      (base r.base (all_front P (listed r.base) (map (λ f. f.of) r.fields) (all_front P front _ h)) k.0, (fields r.fields (all_back P (listed r.base) (map (λ f. f.of) r.fields) (all_front P front _ h)) k.1.0, methods r.methods (all_back P front _ h) k.1.1))
