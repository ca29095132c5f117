-- What a description keeps by a map it keeps by a map that has more, or the same with more said of records.
use Rattle.std.proofs.Common.{◌≡◌, ◌⊎◌, ⊎_elim, inl, inr, List, [], ◌∷◌, ◌++◌, map as each, Option, Some, None, refl, sym, ap, subst, ◌∙◌}
use Rattle.std.specs.Prelude.{Bool, true, false, MatchOption, IfSome, IsTrue}
use Rattle.std.specs.List.{flat_map, AllByRecursion}
use Rattle.ob_tree.specs.declared.names.QName.{QName}
use Rattle.ob_tree.specs.declared.ident.Mark.{Mark}
use Rattle.ob_types.specs.declared.types.TypeRef.{TypeRef}
use Rattle.ob_types.specs.declared.types.TypeRef.TheVariants as ref
use Rattle.ob_types.specs.declared.types.Signature.{Signature}
use Rattle.ob_types.specs.declared.desc.Desc.{Desc}
use Rattle.ob_types.specs.declared.desc.Desc.TheVariants as desc
use Rattle.ob_types.specs.declared.desc.Field.{Field}
use Rattle.ob_types.specs.declared.desc.Method.{Method}
use Rattle.ob_types.specs.Maps.{is_type, named_by, signature_types, listed, IsHeld}
use Rattle.ob_types.specs.Relations.{is_alias, StandsFor, itself, equated, Is, is_record, is_structure, is_open, IsPlainResult, Keeps}
use Rattle.law_typing_env.specs.Ordered.{bare}
use Rattle.law_typing_env.specs.Near.{core}
use Rattle.law_lists.proofs.Lists.{all_back, all_front}

pub core_bare : (d : Desc) → core (bare d) ≡ core d
core_bare (desc.Const v) = refl
core_bare (desc.Var m t) = refl
core_bare (desc.Proc s) = refl
core_bare (desc.Alias m t) = refl
core_bare (desc.Array m n t) = refl
core_bare (desc.OpenArray m t) = refl
core_bare (desc.Pointer m t) = refl
core_bare (desc.ProcType m s) = refl
core_bare (desc.Record r) = refl

-- a kind of description that does not ask for the members of records
abbrev pub IsPlainKind : (Desc → Bool) → Type 0
IsPlainKind kind = (d : Desc) → kind (core d) ≡ kind d

alias_kind : IsPlainKind is_alias
alias_kind (desc.Const v) = refl
alias_kind (desc.Var m t) = refl
alias_kind (desc.Proc s) = refl
alias_kind (desc.Alias m t) = refl
alias_kind (desc.Array m n t) = refl
alias_kind (desc.OpenArray m t) = refl
alias_kind (desc.Pointer m t) = refl
alias_kind (desc.ProcType m s) = refl
alias_kind (desc.Record r) = refl

pub record_kind : IsPlainKind is_record
record_kind (desc.Const v) = refl
record_kind (desc.Var m t) = refl
record_kind (desc.Proc s) = refl
record_kind (desc.Alias m t) = refl
record_kind (desc.Array m n t) = refl
record_kind (desc.OpenArray m t) = refl
record_kind (desc.Pointer m t) = refl
record_kind (desc.ProcType m s) = refl
record_kind (desc.Record r) = refl

pub structure_kind : IsPlainKind is_structure
structure_kind (desc.Const v) = refl
structure_kind (desc.Var m t) = refl
structure_kind (desc.Proc s) = refl
structure_kind (desc.Alias m t) = refl
structure_kind (desc.Array m n t) = refl
structure_kind (desc.OpenArray m t) = refl
structure_kind (desc.Pointer m t) = refl
structure_kind (desc.ProcType m s) = refl
structure_kind (desc.Record r) = refl

pub open_kind : IsPlainKind is_open
open_kind (desc.Const v) = refl
open_kind (desc.Var m t) = refl
open_kind (desc.Proc s) = refl
open_kind (desc.Alias m t) = refl
open_kind (desc.Array m n t) = refl
open_kind (desc.OpenArray m t) = refl
open_kind (desc.Pointer m t) = refl
open_kind (desc.ProcType m s) = refl
open_kind (desc.Record r) = refl

type_kind : IsPlainKind is_type
type_kind (desc.Const v) = refl
type_kind (desc.Var m t) = refl
type_kind (desc.Proc s) = refl
type_kind (desc.Alias m t) = refl
type_kind (desc.Array m n t) = refl
type_kind (desc.OpenArray m t) = refl
type_kind (desc.Pointer m t) = refl
type_kind (desc.ProcType m s) = refl
type_kind (desc.Record r) = refl

bare_alias : (e : Desc) (m : Mark) (t : TypeRef) → core e ≡ desc.Alias m t → e ≡ desc.Alias m t
bare_alias (desc.Const v) m t h = h
bare_alias (desc.Var k u) m t h = h
bare_alias (desc.Proc s) m t h = h
bare_alias (desc.Alias k u) m t h = h
bare_alias (desc.Array k n u) m t h = h
bare_alias (desc.OpenArray k u) m t h = h
bare_alias (desc.Pointer k u) m t h = h
bare_alias (desc.ProcType k s) m t h = h
bare_alias (desc.Record r) m t h = absurd cc

-- e says what d says, and of a record perhaps more
abbrev pub Says : Desc → Desc → Type 0
Says e d = (e ≡ d) ⊎ (core e ≡ core d)

kind_same : (kind : Desc → Bool) → IsPlainKind kind → (e d : Desc) → Says e d → kind e ≡ kind d
kind_same kind plain e d (inl h) = ap kind h
kind_same kind plain e d (inr h) = sym (plain e) ∙ ap kind h ∙ plain d

module _ (small large : QName → Option Desc) (says : (q : QName) (d : Desc) → small q ≡ Some d → is_type d ≡ true → (e : Desc) × ((large q ≡ Some e) × Says e d)) (held : (q : QName) (d : Desc) → small q ≡ Some d → AllByRecursion (λ t. IsHeld small t) (named_by d)) where
  Over : (Desc → Bool) → Option Desc → Type 0
  Over kind o = MatchOption o ⊥ (λ d. IsTrue (kind d))

  -- a kind is found in the larger map
  forward : (t : TypeRef) (p : QName) (d : Desc) → StandsFor small t (ref.Named p) → small p ≡ Some d → is_type d ≡ true → StandsFor large t (ref.Named p)
  forward _ p d (itself own) e ty =
      let s = says p d e ty in
      let a : is_alias d ≡ false = subst (λ o. MatchOption o (Unit {0}) (λ d. is_alias d ≡ false)) e own in
      itself (subst (λ o. MatchOption o (Unit {0}) (λ d. is_alias d ≡ false)) (sym s.1.0) (kind_same is_alias alias_kind s.0 d s.1.1 ∙ a))
  forward _ p d (equated {q = q} {m = m} {t = t} e s) f ty =
      let k = says q (desc.Alias m t) e refl in
      let a : k.0 ≡ desc.Alias m t = ⊎_elim (λ h. h) (λ h. bare_alias k.0 m t h) k.1.1 in
      equated (k.1.0 ∙ ap (λ x. Some x) a) (forward t p d s f ty)

  here : (kind : Desc → Bool) → IsPlainKind kind → (p : QName) (d : Desc) → small p ≡ Some d → is_type d ≡ true → kind d ≡ true → MatchOption (large p) ⊥ (λ d. IsTrue (kind d))
  here kind plain p d e ty k = let s = says p d e ty in subst (λ o. MatchOption o ⊥ (λ d. IsTrue (kind d))) (sym s.1.0) (kind_same kind plain s.0 d s.1.1 ∙ k)

  pub kind_forward : (kind : Desc → Bool) → IsPlainKind kind → ((d : Desc) → kind d ≡ true → is_type d ≡ true) → (t : TypeRef) → Is small kind t → Is large kind t
  kind_forward kind plain types t h = by (small h.0) refl h.1.1
    where
      by : (o : Option Desc) → small h.0 ≡ o → MatchOption o ⊥ (λ d. IsTrue (kind d)) → Is large kind t
      by None e k = absurd k
      by (Some d) e k = (h.0, (forward t h.0 d h.1.0 e (types d k), here kind plain h.0 d e (types d k) k))

  -- what a held type stands for in the larger map it stands for in the smaller
  record Back (t : TypeRef) (p : QName) (e : Desc) : Type 0 where
    stands : StandsFor small t (ref.Named p)
    d : Desc
    has : small p ≡ Some d
    says_it : Says e d

  back : (t : TypeRef) (p : QName) (e : Desc) → StandsFor large t (ref.Named p) → large p ≡ Some e → IsHeld small t → Back t p e
  back _ p e (itself own) f h = by (small p) refl h
    where
      by : (o : Option Desc) → small p ≡ o → MatchOption o ⊥ (λ d. IsTrue (is_type d)) → Back (ref.Named p) p e
      by None g h = absurd h
      by (Some d) g h =
          let s = says p d g h in
          let k : s.0 ≡ e = let j : Some s.0 ≡ Some e = sym s.1.0 ∙ f in cc in
          let a : is_alias e ≡ false = subst (λ o. MatchOption o (Unit {0}) (λ d. is_alias d ≡ false)) f own in
          let b : is_alias d ≡ false = sym (kind_same is_alias alias_kind s.0 d s.1.1) ∙ ap is_alias k ∙ a in
          record { stands = itself (subst (λ o. MatchOption o (Unit {0}) (λ d. is_alias d ≡ false)) (sym g) b); d = d; has = g; says_it = subst (λ x. Says x d) k s.1.1 }
  back _ p e (equated {q = q} {m = m} {t = t} g s) f h = by (small q) refl h (λ w. back t p e s f w)
    where
      by : (o : Option Desc) → small q ≡ o → MatchOption o ⊥ (λ d. IsTrue (is_type d)) → (IsHeld small t → Back t p e) → Back (ref.Named q) p e
      by None i h r = absurd h
      by (Some d) i h r =
          let s = says q d i h in
          let k : s.0 ≡ desc.Alias m t = let j : Some s.0 ≡ Some (desc.Alias m t) = sym s.1.0 ∙ g in cc in
          let a : desc.Alias m t ≡ d = ⊎_elim (λ x. sym k ∙ x) (λ x. sym (bare_alias d m t (sym x ∙ ap core k))) s.1.1 in
          let j : small q ≡ Some (desc.Alias m t) = i ∙ ap (λ x. Some x) (sym a) in
          let b = r (held q (desc.Alias m t) j).0 in
          record { stands = equated j b.stands; d = b.d; has = b.has; says_it = b.says_it }

  pub kind_back : (kind : Desc → Bool) → IsPlainKind kind → (t : TypeRef) → IsHeld small t → (Is small kind t → ⊥) → Is large kind t → ⊥
  kind_back kind plain t h never k = by (large k.0) refl k.1.1
    where
      by : (o : Option Desc) → large k.0 ≡ o → MatchOption o ⊥ (λ d. IsTrue (kind d)) → ⊥
      by None e i = i
      by (Some e) f i =
          let b = back t k.0 e k.1.0 f h in
          never (k.0, (b.stands, subst (λ o. MatchOption o ⊥ (λ d. IsTrue (kind d))) (sym b.has) (sym (kind_same kind plain e b.d b.says_it) ∙ i)))

  -- a kind of a held type in the larger map is found in the smaller
  pub kind_held : (kind : Desc → Bool) → IsPlainKind kind → (t : TypeRef) → IsHeld small t → Is large kind t → Is small kind t
  kind_held kind plain t h k = by (large k.0) refl k.1.1
    where
      by : (o : Option Desc) → large k.0 ≡ o → MatchOption o ⊥ (λ d. IsTrue (kind d)) → Is small kind t
      by None e i = absurd i
      by (Some e) f i = let b = back t k.0 e k.1.0 f h in (k.0, (b.stands, subst (λ o. MatchOption o ⊥ (λ d. IsTrue (kind d))) (sym b.has) (sym (kind_same kind plain e b.d b.says_it) ∙ i)))

  pub structure_type : (d : Desc) → is_structure d ≡ true → is_type d ≡ true
  structure_type (desc.Const v) e = absurd cc
  structure_type (desc.Var m t) e = absurd cc
  structure_type (desc.Proc s) e = absurd cc
  structure_type (desc.Alias m t) e = absurd cc
  structure_type (desc.Array m n t) e = refl
  structure_type (desc.OpenArray m t) e = refl
  structure_type (desc.Pointer m t) e = absurd cc
  structure_type (desc.ProcType m s) e = absurd cc
  structure_type (desc.Record r) e = refl

  pub record_type : (d : Desc) → is_record d ≡ true → is_type d ≡ true
  record_type (desc.Const v) e = absurd cc
  record_type (desc.Var m t) e = absurd cc
  record_type (desc.Proc s) e = absurd cc
  record_type (desc.Alias m t) e = absurd cc
  record_type (desc.Array m n t) e = absurd cc
  record_type (desc.OpenArray m t) e = absurd cc
  record_type (desc.Pointer m t) e = absurd cc
  record_type (desc.ProcType m s) e = absurd cc
  record_type (desc.Record r) e = refl

  result_plain : (o : Option TypeRef) → AllByRecursion (λ t. IsHeld small t) (listed o) → IfSome o (λ t. Is small is_structure t → ⊥) → IfSome o (λ t. Is large is_structure t → ⊥)
  result_plain None h k = tt
  result_plain (Some t) h k = kind_back is_structure structure_kind t h.0 k

  plain : (s : Signature) → AllByRecursion (λ t. IsHeld small t) (signature_types s) → IsPlainResult small s → IsPlainResult large s
  plain s h k = result_plain s.result (all_back (λ t. IsHeld small t) (each (λ p. p.1) s.params) (listed s.result) h) k

  base_keeps : (o : Option TypeRef) → IfSome o (Is small is_record) → IfSome o (Is large is_record)
  base_keeps None k = tt
  base_keeps (Some t) k = kind_forward is_record record_kind record_type t k

  fields_keep : (fs : List Field) → AllByRecursion (λ t. IsHeld small t) (each (λ f. f.of) fs) → AllByRecursion (λ f. Is small is_open f.of → ⊥) fs → AllByRecursion (λ f. Is large is_open f.of → ⊥) fs
  fields_keep [] h k = tt
  fields_keep (f ∷ fs) h k = (kind_back is_open open_kind f.of h.0 k.0, fields_keep fs h.1 k.1)

  methods_keep : (ms : List Method) → AllByRecursion (λ t. IsHeld small t) (flat_map (λ m. signature_types m.signature) ms) → AllByRecursion (λ m. IsPlainResult small m.signature) ms → AllByRecursion (λ m. IsPlainResult large m.signature) ms
  methods_keep [] h k = tt
  methods_keep (m ∷ ms) h k = (plain m.signature (all_front (λ t. IsHeld small t) (signature_types m.signature) (flat_map (λ m. signature_types m.signature) ms) h) k.0, methods_keep ms (all_back (λ t. IsHeld small t) (signature_types m.signature) (flat_map (λ m. signature_types m.signature) ms) h) k.1)

  pub keeps_larger : (d : Desc) → AllByRecursion (λ t. IsHeld small t) (named_by d) → Keeps small d → Keeps large d
  keeps_larger (desc.Const v) h k = tt
  keeps_larger (desc.Var m t) h k = kind_back is_open open_kind t h.0 k
  keeps_larger (desc.Proc s) h k = plain s h k
  keeps_larger (desc.Alias m t) h k = kind_back is_open open_kind t h.0 k
  keeps_larger (desc.Array m n t) h k = kind_back is_open open_kind t h.0 k
  keeps_larger (desc.OpenArray m t) h k = kind_back is_open open_kind t h.0 k
  keeps_larger (desc.Pointer m t) h k = kind_forward is_structure structure_kind structure_type t k
  keeps_larger (desc.ProcType m s) h k = plain s h k
  keeps_larger (desc.Record r) h k =
      let front = all_front (λ t. IsHeld small t) (listed r.base ++ each (λ f. f.of) r.fields) (flat_map (λ m. signature_types m.signature) r.methods) h in
      let bound = all_back (λ t. IsHeld small t) (listed r.base ++ each (λ f. f.of) r.fields) (flat_map (λ m. signature_types m.signature) r.methods) h in
      (base_keeps r.base k.0, (fields_keep r.fields (all_back (λ t. IsHeld small t) (listed r.base) (each (λ f. f.of) r.fields) front) k.1.0, methods_keep r.methods bound k.1.1))
