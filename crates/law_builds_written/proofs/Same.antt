-- Maps that say the same but for places, numbers and words: where one is grounded, so is the other.
use Rattle.std.proofs.Common.{◌≡◌, ◌⊎◌, ⊎_elim, inl, inr, refl, sym, ap, subst, ◌∙◌, ℕ, zero, suc, Bool, true, false, List, [], ◌∷◌, ◌++◌, map as each, Option, Some, None}
use Rattle.std.specs.Prelude.{◌&&◌, MatchOption, IfSome, IsTrue}
use Rattle.std.specs.List.{AllByRecursion, flat_map, list_all}
use Rattle.ob_tree.specs.declared.names.QName.{QName}
use Rattle.ob_tree.specs.declared.ident.Mark.{Mark}
use Rattle.ob_types.specs.declared.types.TypeRef.{TypeRef}
use Rattle.ob_types.specs.declared.types.TypeRef.TheVariants as ref
use Rattle.ob_types.specs.declared.types.Signature.{Signature}
use Rattle.ob_types.specs.declared.desc.Desc.{Desc}
use Rattle.ob_types.specs.declared.desc.Desc.TheVariants as desc
use Rattle.ob_types.specs.declared.desc.RecordDesc.{RecordDesc}
use Rattle.ob_types.specs.declared.desc.Field.{Field}
use Rattle.ob_types.specs.declared.desc.Method.{Method}
use Rattle.ob_types.specs.Maps.{listed, signature_types, is_type, stands_on, named_by, IsHeld, IsWithin}
use Rattle.ob_types.specs.Relations.{IsOwn, is_alias, StandsFor, itself, equated, Is, is_structure, is_open, is_record, IsPlainResult, Keeps, IsGrounded}
use Rattle.ob_rules.specs.Shapes.{same_name}
use Rattle.ob_rules.specs.Names.{out_string}
use Rattle.ob_rules.specs.Depth.{chain_of, is_within}
use Rattle.ob_env.specs.Fit as fit
use Rattle.ob_env.specs.Shown.{unplaced, unnumbered, blank}
use Rattle.law_body_context.proofs.Lists.{all_of}
use Rattle.law_acyclic.specs.Laws.{IsNotOut}
use Rattle.law_acyclic.proofs.Maps.{stood_on}
use Rattle.law_lists.proofs.Lists.{and_parts}

abbrev pub blanked : Option Desc → Option Desc
blanked None = None
blanked (Some d) = Some (blank d)

-- ---- what does not depend on places, numbers and words

two : {A B C : Type 0} (f : A → B → C) {a b : A} {c d : B} → a ≡ b → c ≡ d → f a c ≡ f b d
two f {b = b} {c = c} e g = ap (λ x. f x c) e ∙ ap (f b) g

fields_blank : (fs : List Field) → each (λ f. f.of) (each unplaced fs) ≡ each (λ f. f.of) fs
fields_blank [] = refl
fields_blank (f ∷ fs) = ap (λ ts. f.of ∷ ts) (fields_blank fs)

methods_blank : (ms : List Method) → flat_map (λ m. signature_types m.signature) (each unnumbered ms) ≡ flat_map (λ m. signature_types m.signature) ms
methods_blank [] = refl
methods_blank (m ∷ ms) = ap (λ ts. signature_types m.signature ++ ts) (methods_blank ms)

named_blank : (d : Desc) → named_by (blank d) ≡ named_by d
named_blank (desc.Record r) = two (λ xs ys. (listed r.base ++ xs) ++ ys) (fields_blank r.fields) (methods_blank r.methods)
named_blank (desc.Const v) = refl
named_blank (desc.Var m t) = refl
named_blank (desc.Proc s) = refl
named_blank (desc.Alias m t) = refl
named_blank (desc.Array m n t) = refl
named_blank (desc.OpenArray m t) = refl
named_blank (desc.Pointer m t) = refl
named_blank (desc.ProcType m s) = refl

stands_blank : (d : Desc) → stands_on (blank d) ≡ stands_on d
stands_blank (desc.Record r) = ap (λ xs. listed r.base ++ xs) (fields_blank r.fields)
stands_blank (desc.Const v) = refl
stands_blank (desc.Var m t) = refl
stands_blank (desc.Proc s) = refl
stands_blank (desc.Alias m t) = refl
stands_blank (desc.Array m n t) = refl
stands_blank (desc.OpenArray m t) = refl
stands_blank (desc.Pointer m t) = refl
stands_blank (desc.ProcType m s) = refl

-- a kind of descriptions
abbrev Kind : (Desc → Bool) → Type 0
Kind f = (d : Desc) → f (blank d) ≡ f d

type_kind : Kind is_type
type_kind (desc.Record r) = refl
type_kind (desc.Const v) = refl
type_kind (desc.Var m t) = refl
type_kind (desc.Proc s) = refl
type_kind (desc.Alias m t) = refl
type_kind (desc.Array m n t) = refl
type_kind (desc.OpenArray m t) = refl
type_kind (desc.Pointer m t) = refl
type_kind (desc.ProcType m s) = refl

alias_kind : Kind is_alias
alias_kind (desc.Record r) = refl
alias_kind (desc.Const v) = refl
alias_kind (desc.Var m t) = refl
alias_kind (desc.Proc s) = refl
alias_kind (desc.Alias m t) = refl
alias_kind (desc.Array m n t) = refl
alias_kind (desc.OpenArray m t) = refl
alias_kind (desc.Pointer m t) = refl
alias_kind (desc.ProcType m s) = refl

open_kind : Kind is_open
open_kind (desc.Record r) = refl
open_kind (desc.Const v) = refl
open_kind (desc.Var m t) = refl
open_kind (desc.Proc s) = refl
open_kind (desc.Alias m t) = refl
open_kind (desc.Array m n t) = refl
open_kind (desc.OpenArray m t) = refl
open_kind (desc.Pointer m t) = refl
open_kind (desc.ProcType m s) = refl

structure_kind : Kind is_structure
structure_kind (desc.Record r) = refl
structure_kind (desc.Const v) = refl
structure_kind (desc.Var m t) = refl
structure_kind (desc.Proc s) = refl
structure_kind (desc.Alias m t) = refl
structure_kind (desc.Array m n t) = refl
structure_kind (desc.OpenArray m t) = refl
structure_kind (desc.Pointer m t) = refl
structure_kind (desc.ProcType m s) = refl

record_kind : Kind is_record
record_kind (desc.Record r) = refl
record_kind (desc.Const v) = refl
record_kind (desc.Var m t) = refl
record_kind (desc.Proc s) = refl
record_kind (desc.Alias m t) = refl
record_kind (desc.Array m n t) = refl
record_kind (desc.OpenArray m t) = refl
record_kind (desc.Pointer m t) = refl
record_kind (desc.ProcType m s) = refl

alias_of : (m : Mark) (t : TypeRef) (e : Desc) → blank e ≡ desc.Alias m t → e ≡ desc.Alias m t
alias_of m t (desc.Alias k u) h = h
alias_of m t (desc.Record r) h = absurd cc
alias_of m t (desc.Const v) h = absurd cc
alias_of m t (desc.Var k u) h = absurd cc
alias_of m t (desc.Proc s) h = absurd cc
alias_of m t (desc.Array k n u) h = absurd cc
alias_of m t (desc.OpenArray k u) h = absurd cc
alias_of m t (desc.Pointer k u) h = absurd cc
alias_of m t (desc.ProcType k s) h = absurd cc

pub blank_twice : (d : Desc) → blank (blank d) ≡ blank d
blank_twice (desc.Record r) = two (λ fs ms. desc.Record (record r { fields = fs; methods = ms; words = 0; procedures = 0 })) (fields r.fields) (methods r.methods)
  where
    fields : (fs : List Field) → each unplaced (each unplaced fs) ≡ each unplaced fs
    fields [] = refl
    fields (f ∷ fs) = ap (λ gs. unplaced f ∷ gs) (fields fs)

    methods : (ms : List Method) → each unnumbered (each unnumbered ms) ≡ each unnumbered ms
    methods [] = refl
    methods (m ∷ ms) = ap (λ gs. unnumbered m ∷ gs) (methods ms)
blank_twice (desc.Const v) = refl
blank_twice (desc.Var m t) = refl
blank_twice (desc.Proc s) = refl
blank_twice (desc.Alias m t) = refl
blank_twice (desc.Array m n t) = refl
blank_twice (desc.OpenArray m t) = refl
blank_twice (desc.Pointer m t) = refl
blank_twice (desc.ProcType m s) = refl

-- ---- two maps

module _ (A B : QName → Option Desc) (agree : (q : QName) → same_name q out_string ≡ false → blanked (A q) ≡ blanked (B q)) (closed : (q : QName) (d : Desc) → same_name q out_string ≡ false → A q ≡ Some d → AllByRecursion IsNotOut (named_by d)) (none : (q : QName) → same_name q out_string ≡ true → B q ≡ None) where
  -- what both have
  pub record AreBoth (q : QName) : Type 0 where
    pub d : Desc
    pub e : Desc
    pub a : A q ≡ Some d
    pub b : B q ≡ Some e
    pub same : blank d ≡ blank e

  both_at : (q : QName) → same_name q out_string ≡ false → (x y : Option Desc) → A q ≡ x → B q ≡ y → MatchOption x ⊥ (λ d. Unit {0}) ⊎ MatchOption y ⊥ (λ d. Unit {0}) → AreBoth q
  both_at q o None None f g h = absurd (⊎_elim (λ k. k) (λ k. k) h)
  both_at q o None (Some e) f g h = let bad : None ≡ Some (blank e) = ap blanked (sym f) ∙ agree q o ∙ ap blanked g in absurd cc
  both_at q o (Some d) None f g h = let bad : Some (blank d) ≡ None = ap blanked (sym f) ∙ agree q o ∙ ap blanked g in absurd cc
  both_at q o (Some d) (Some e) f g h = let i : Some (blank d) ≡ Some (blank e) = ap blanked (sym f) ∙ agree q o ∙ ap blanked g in record { d = d; e = e; a = f; b = g; same = cc }

  from_a : (q : QName) (d : Desc) → same_name q out_string ≡ false → A q ≡ Some d → AreBoth q
  from_a q d o f = both_at q o (Some d) (B q) f refl (inl tt)

  from_b : (q : QName) (e : Desc) → same_name q out_string ≡ false → B q ≡ Some e → AreBoth q
  from_b q e o g = both_at q o (A q) (Some e) refl g (inr tt)

  some_same : (d e : Desc) → Some d ≡ Some e → d ≡ e
  some_same d e h = cc

  kind_to : (f : Desc → Bool) → Kind f → (q : QName) → same_name q out_string ≡ false → MatchOption (A q) ⊥ (λ d. IsTrue (f d)) → MatchOption (B q) ⊥ (λ d. IsTrue (f d))
  kind_to f k q o h = by (A q) refl h
    where
      by : (x : Option Desc) → A q ≡ x → MatchOption x ⊥ (λ d. IsTrue (f d)) → MatchOption (B q) ⊥ (λ d. IsTrue (f d))
      by None g h = absurd h
      by (Some d) g h =
          let r = from_a q d o g in
          let i : f r.e ≡ true = sym (k r.e) ∙ ap f (sym r.same) ∙ k r.d ∙ ap f (some_same r.d d (sym r.a ∙ g)) ∙ h in
          subst (λ x. MatchOption x ⊥ (λ d. IsTrue (f d))) (sym r.b) i

  kind_back : (f : Desc → Bool) → Kind f → (q : QName) → same_name q out_string ≡ false → MatchOption (B q) ⊥ (λ d. IsTrue (f d)) → MatchOption (A q) ⊥ (λ d. IsTrue (f d))
  kind_back f k q o h = by (B q) refl h
    where
      by : (x : Option Desc) → B q ≡ x → MatchOption x ⊥ (λ d. IsTrue (f d)) → MatchOption (A q) ⊥ (λ d. IsTrue (f d))
      by None g h = absurd h
      by (Some e) g h =
          let r = from_b q e o g in
          let i : f r.d ≡ true = sym (k r.d) ∙ ap f r.same ∙ k r.e ∙ ap f (some_same r.e e (sym r.b ∙ g)) ∙ h in
          subst (λ x. MatchOption x ⊥ (λ d. IsTrue (f d))) (sym r.a) i

  held_to : (t : TypeRef) → IsNotOut t → IsHeld A t → IsHeld B t
  held_to (ref.Basic b) o h = tt
  held_to (ref.Named q) o h = kind_to is_type type_kind q o h

  -- it is no type of Out
  not_out : (q : QName) (e : Desc) → B q ≡ Some e → (b : Bool) → same_name q out_string ≡ b → b ≡ false
  not_out q e g false f = refl
  not_out q e g true f = let bad : None ≡ Some e = sym (none q f) ∙ g in absurd cc

  -- ---- what a type stands for

  own_to : (t : TypeRef) → IsNotOut t → IsOwn A t → IsOwn B t
  own_to (ref.Basic b) o h = tt
  own_to (ref.Named q) o h = by (B q) refl
    where
      by : (y : Option Desc) → B q ≡ y → IsOwn B (ref.Named q)
      by None g = subst (λ x. MatchOption x (Unit {0}) (λ d. is_alias d ≡ false)) (sym g) tt
      by (Some e) g =
          let r = from_b q e o g in
          let i : is_alias r.d ≡ false = subst (λ x. MatchOption x (Unit {0}) (λ d. is_alias d ≡ false)) r.a h in
          subst (λ x. MatchOption x (Unit {0}) (λ d. is_alias d ≡ false)) (sym r.b) (sym (alias_kind r.e) ∙ ap is_alias (sym r.same) ∙ alias_kind r.d ∙ i)

  own_back : (t : TypeRef) → IsNotOut t → IsOwn B t → IsOwn A t
  own_back (ref.Basic b) o h = tt
  own_back (ref.Named q) o h = by (A q) refl
    where
      by : (y : Option Desc) → A q ≡ y → IsOwn A (ref.Named q)
      by None g = subst (λ x. MatchOption x (Unit {0}) (λ d. is_alias d ≡ false)) (sym g) tt
      by (Some d) g =
          let r = from_a q d o g in
          let i : is_alias r.e ≡ false = subst (λ x. MatchOption x (Unit {0}) (λ d. is_alias d ≡ false)) r.b h in
          subst (λ x. MatchOption x (Unit {0}) (λ d. is_alias d ≡ false)) (sym r.a) (sym (alias_kind r.d) ∙ ap is_alias r.same ∙ alias_kind r.e ∙ i)

  stands_to : {t u : TypeRef} → StandsFor A t u → IsNotOut t → StandsFor B t u × IsNotOut u
  stands_to (itself {t = t} a) o = (itself (own_to t o a), o)
  stands_to (equated {q = q} {m = m} {t = t} f s) o =
      let r = from_a q (desc.Alias m t) o f in
      let i : r.d ≡ desc.Alias m t = some_same r.d (desc.Alias m t) (sym r.a ∙ f) in
      let j : B q ≡ Some (desc.Alias m t) = r.b ∙ ap (λ d. Some d) (alias_of m t r.e (sym r.same ∙ ap blank i)) in
      let k = stands_to s (closed q (desc.Alias m t) o f).0 in
      (equated j k.0, k.1)

  stands_back : {t u : TypeRef} → StandsFor B t u → IsNotOut t → StandsFor A t u × IsNotOut u
  stands_back (itself {t = t} a) o = (itself (own_back t o a), o)
  stands_back (equated {q = q} {m = m} {t = t} f s) o =
      let r = from_b q (desc.Alias m t) o f in
      let i : r.e ≡ desc.Alias m t = some_same r.e (desc.Alias m t) (sym r.b ∙ f) in
      let j : A q ≡ Some (desc.Alias m t) = r.a ∙ ap (λ d. Some d) (alias_of m t r.d (r.same ∙ ap blank i)) in
      let k = stands_back s (closed q (desc.Alias m t) o j).0 in
      (equated j k.0, k.1)

  is_to : (f : Desc → Bool) → Kind f → (t : TypeRef) → IsNotOut t → Is A f t → Is B f t
  is_to f k t o h = let r = stands_to h.1.0 o in (h.0, (r.0, kind_to f k h.0 r.1 h.1.1))

  not_to : (f : Desc → Bool) → Kind f → (t : TypeRef) → IsNotOut t → (Is A f t → ⊥) → Is B f t → ⊥
  not_to f k t o n h = let r = stands_back h.1.0 o in n (h.0, (r.0, kind_back f k h.0 r.1 h.1.1))

  -- ---- what descriptions keep

  abbrev NO : List TypeRef → Type 0
  NO ts = AllByRecursion IsNotOut ts

  left_of : (xs ys : List TypeRef) → NO (xs ++ ys) → NO xs
  left_of [] ys h = tt
  left_of (x ∷ xs) ys h = (h.0, left_of xs ys h.1)

  right_of : (xs ys : List TypeRef) → NO (xs ++ ys) → NO ys
  right_of [] ys h = h
  right_of (x ∷ xs) ys h = right_of xs ys h.1

  plain_to : (s : Signature) → NO (signature_types s) → IsPlainResult A s → IsPlainResult B s
  plain_to s h k = by s.result (right_of (each (λ p. p.1) s.params) (listed s.result) h) k
    where
      by : (o : Option TypeRef) → NO (listed o) → IfSome o (λ t. Is A is_structure t → ⊥) → IfSome o (λ t. Is B is_structure t → ⊥)
      by None h k = tt
      by (Some t) h k = not_to is_structure structure_kind t h.0 k

  fields_to : (fs gs : List Field) → each unplaced fs ≡ each unplaced gs → NO (each (λ f. f.of) gs) → AllByRecursion (λ (f : Field). Is A is_open f.of → ⊥) fs → AllByRecursion (λ (f : Field). Is B is_open f.of → ⊥) gs
  fields_to [] [] e h k = tt
  fields_to [] (g ∷ gs) e h k = absurd cc
  fields_to (f ∷ fs) [] e h k = absurd cc
  fields_to (f ∷ fs) (g ∷ gs) e h k =
      let i : unplaced f ≡ unplaced g = cc in
      let j : each unplaced fs ≡ each unplaced gs = cc in
      (not_to is_open open_kind g.of h.0 (subst (λ t. Is A is_open t → ⊥) (ap (λ (f : Field). f.of) i) k.0), fields_to fs gs j h.1 k.1)

  methods_to : (ms ns : List Method) → each unnumbered ms ≡ each unnumbered ns → NO (flat_map (λ (m : Method). signature_types m.signature) ns) → AllByRecursion (λ (m : Method). IsPlainResult A m.signature) ms → AllByRecursion (λ (m : Method). IsPlainResult B m.signature) ns
  methods_to [] [] e h k = tt
  methods_to [] (n ∷ ns) e h k = absurd cc
  methods_to (m ∷ ms) [] e h k = absurd cc
  methods_to (m ∷ ms) (n ∷ ns) e h k =
      let i : unnumbered m ≡ unnumbered n = cc in
      let j : each unnumbered ms ≡ each unnumbered ns = cc in
      let same : m.signature ≡ n.signature = ap (λ (m : Method). m.signature) i in
      (plain_to n.signature (left_of (signature_types n.signature) (flat_map (λ (m : Method). signature_types m.signature) ns) h) (subst (IsPlainResult A) same k.0), methods_to ms ns j (right_of (signature_types n.signature) (flat_map (λ (m : Method). signature_types m.signature) ns) h) k.1)

  base_to : (o : Option TypeRef) → NO (listed o) → IfSome o (Is A is_record) → IfSome o (Is B is_record)
  base_to None h k = tt
  base_to (Some t) h k = is_to is_record record_kind t h.0 k

  -- one that is no record is the same
  plain_same : (d : Desc) → is_record d ≡ false → blank d ≡ d
  plain_same (desc.Record r) h = absurd cc
  plain_same (desc.Const v) h = refl
  plain_same (desc.Var m t) h = refl
  plain_same (desc.Proc s) h = refl
  plain_same (desc.Alias m t) h = refl
  plain_same (desc.Array m n t) h = refl
  plain_same (desc.OpenArray m t) h = refl
  plain_same (desc.Pointer m t) h = refl
  plain_same (desc.ProcType m s) h = refl

  keeps_one : (d : Desc) → is_record d ≡ false → NO (named_by d) → Keeps A d → Keeps B d
  keeps_one (desc.Record r) n h k = absurd cc
  keeps_one (desc.Const v) n h k = tt
  keeps_one (desc.Var m t) n h k = not_to is_open open_kind t h.0 k
  keeps_one (desc.Proc s) n h k = plain_to s h k
  keeps_one (desc.Alias m t) n h k = not_to is_open open_kind t h.0 k
  keeps_one (desc.Array m c t) n h k = not_to is_open open_kind t h.0 k
  keeps_one (desc.OpenArray m t) n h k = not_to is_open open_kind t h.0 k
  keeps_one (desc.Pointer m t) n h k = is_to is_structure structure_kind t h.0 k
  keeps_one (desc.ProcType m s) n h k = plain_to s h k

  record_same : (x y : RecordDesc) → desc.Record x ≡ desc.Record y → x ≡ y
  record_same x y e = cc

  record_to : (r s : RecordDesc) → blank (desc.Record r) ≡ blank (desc.Record s) → NO (named_by (desc.Record s)) → Keeps A (desc.Record r) → Keeps B (desc.Record s)
  record_to r s e h k =
      let front = listed s.base ++ each (λ f. f.of) s.fields in
      let behind = flat_map (λ (m : Method). signature_types m.signature) s.methods in
      let x : RecordDesc = record r { fields = each unplaced r.fields; methods = each unnumbered r.methods; words = 0; procedures = 0 } in
      let y : RecordDesc = record s { fields = each unplaced s.fields; methods = each unnumbered s.methods; words = 0; procedures = 0 } in
      let i : x ≡ y = record_same x y e in
      let b : r.base ≡ s.base = ap (λ (x : RecordDesc). x.base) i in
      let f : each unplaced r.fields ≡ each unplaced s.fields = ap (λ (x : RecordDesc). x.fields) i in
      let m : each unnumbered r.methods ≡ each unnumbered s.methods = ap (λ (x : RecordDesc). x.methods) i in
      (base_to s.base (left_of (listed s.base) (each (λ f. f.of) s.fields) (left_of front behind h)) (subst (λ o. IfSome o (Is A is_record)) b k.0), (fields_to r.fields s.fields f (right_of (listed s.base) (each (λ f. f.of) s.fields) (left_of front behind h)) k.1.0, methods_to r.methods s.methods m (right_of front behind h) k.1.1))

  keeps_same : (d e : Desc) → is_record d ≡ false → blank d ≡ blank e → NO (named_by e) → Keeps A d → Keeps B e
  keeps_same d e n i h k =
      let m : is_record e ≡ false = sym (record_kind e) ∙ ap is_record (sym i) ∙ record_kind d ∙ n in
      let j : d ≡ e = sym (plain_same d n) ∙ i ∙ plain_same e m in
      keeps_one e m h (subst (Keeps A) j k)

  keeps_to : (d e : Desc) → blank d ≡ blank e → NO (named_by e) → Keeps A d → Keeps B e
  keeps_to (desc.Record r) (desc.Record s) i h k = record_to r s i h k
  keeps_to (desc.Record r) (desc.Const v) i h k = absurd cc
  keeps_to (desc.Record r) (desc.Var m t) i h k = absurd cc
  keeps_to (desc.Record r) (desc.Proc s) i h k = absurd cc
  keeps_to (desc.Record r) (desc.Alias m t) i h k = absurd cc
  keeps_to (desc.Record r) (desc.Array m n t) i h k = absurd cc
  keeps_to (desc.Record r) (desc.OpenArray m t) i h k = absurd cc
  keeps_to (desc.Record r) (desc.Pointer m t) i h k = absurd cc
  keeps_to (desc.Record r) (desc.ProcType m s) i h k = absurd cc
  keeps_to (desc.Const v) e i h k = keeps_same (desc.Const v) e refl i h k
  keeps_to (desc.Var m t) e i h k = keeps_same (desc.Var m t) e refl i h k
  keeps_to (desc.Proc s) e i h k = keeps_same (desc.Proc s) e refl i h k
  keeps_to (desc.Alias m t) e i h k = keeps_same (desc.Alias m t) e refl i h k
  keeps_to (desc.Array m n t) e i h k = keeps_same (desc.Array m n t) e refl i h k
  keeps_to (desc.OpenArray m t) e i h k = keeps_same (desc.OpenArray m t) e refl i h k
  keeps_to (desc.Pointer m t) e i h k = keeps_same (desc.Pointer m t) e refl i h k
  keeps_to (desc.ProcType m s) e i h k = keeps_same (desc.ProcType m s) e refl i h k

  -- ---- chains

  within_to : (n : ℕ) (t : TypeRef) → IsNotOut t → IsWithin A n t → IsWithin B n t
  unfolding IsWithin
  within_to n (ref.Basic b) o h = tt
  within_to zero (ref.Named q) o h = absurd h
  within_to (suc n) (ref.Named q) o h = by (A q) refl h (λ t o i. within_to n t o i)
    where
      all : (ts : List TypeRef) → NO ts → ((t : TypeRef) → IsNotOut t → IsWithin A n t → IsWithin B n t) → AllByRecursion (λ t. IsWithin A n t) ts → AllByRecursion (λ t. IsWithin B n t) ts
      all [] o f h = tt
      all (t ∷ ts) o f h = (f t o.0 h.0, all ts o.1 f h.1)

      by : (x : Option Desc) → A q ≡ x → MatchOption x ⊥ (λ d. IsTrue (is_type d) × AllByRecursion (λ t. IsWithin A n t) (stands_on d)) → ((t : TypeRef) → IsNotOut t → IsWithin A n t → IsWithin B n t) → MatchOption (B q) ⊥ (λ d. IsTrue (is_type d) × AllByRecursion (λ t. IsWithin B n t) (stands_on d))
      by None g h f = absurd h
      by (Some d) g h f =
          let r = from_a q d o g in
          let i : d ≡ r.d = some_same d r.d (sym g ∙ r.a) in
          let s : stands_on d ≡ stands_on r.e = ap stands_on i ∙ sym (stands_blank r.d) ∙ ap stands_on r.same ∙ stands_blank r.e in
          let y : is_type r.e ≡ true = sym (type_kind r.e) ∙ ap is_type (sym r.same) ∙ type_kind r.d ∙ ap is_type (sym i) ∙ h.0 in
          subst (λ x. MatchOption x ⊥ (λ d. IsTrue (is_type d) × AllByRecursion (λ t. IsWithin B n t) (stands_on d))) (sym r.b) (y, subst (λ ts. AllByRecursion (λ t. IsWithin B n t) ts) s (all (stands_on d) (stood_on IsNotOut d (closed q d o g)) f h.1))

  -- the test of a chain that ends
  pub short_to : (n : ℕ) (t : TypeRef) → IsNotOut t → is_within A n t ≡ true → fit.is_within B n t ≡ true
  short_to n (ref.Basic b) o h = refl
  short_to zero (ref.Named q) o h = absurd cc
  short_to (suc n) (ref.Named q) o h = by (A q) refl h (λ t o i. short_to n t o i)
    where
      all : (ts : List TypeRef) → NO ts → ((t : TypeRef) → IsNotOut t → is_within A n t ≡ true → fit.is_within B n t ≡ true) → list_all (λ t. is_within A n t) ts ≡ true → list_all (fit.is_within B n) ts ≡ true
      all [] o f h = refl
      all (t ∷ ts) o f h = let p = and_parts (is_within A n t) (list_all (λ t. is_within A n t) ts) h in ap (λ b. b && list_all (fit.is_within B n) ts) (f t o.0 p.0) ∙ all ts o.1 f p.1

      by : (x : Option Desc) → A q ≡ x → chain_of (λ t. is_within A n t) x ≡ true → ((t : TypeRef) → IsNotOut t → is_within A n t ≡ true → fit.is_within B n t ≡ true) → fit.chain_described (fit.is_within B n) (B q) ≡ true
      by None g h f = absurd cc
      by (Some d) g h f =
          let r = from_a q d o g in
          let i : d ≡ r.d = some_same d r.d (sym g ∙ r.a) in
          let s : stands_on d ≡ stands_on r.e = ap stands_on i ∙ sym (stands_blank r.d) ∙ ap stands_on r.same ∙ stands_blank r.e in
          ap (fit.chain_described (fit.is_within B n)) r.b ∙ subst (λ ts. list_all (fit.is_within B n) ts ≡ true) s (all (stands_on d) (stood_on IsNotOut d (closed q d o g)) f h)

  -- ---- all

  module _ (grounded : IsGrounded A) where
    held_b : (q : QName) (e : Desc) → B q ≡ Some e → AllByRecursion (λ t. IsHeld B t) (named_by e)
    held_b q e g =
        let o = not_out q e g (same_name q out_string) refl in
        let r = from_b q e o g in
        let s : named_by r.d ≡ named_by e = sym (named_blank r.d) ∙ ap named_by r.same ∙ named_blank r.e ∙ ap named_by (some_same r.e e (sym r.b ∙ g)) in
        subst (λ ts. AllByRecursion (λ t. IsHeld B t) ts) s (all (named_by r.d) (closed q r.d o r.a) (grounded.held q r.d r.a))
      where
        all : (ts : List TypeRef) → NO ts → AllByRecursion (λ t. IsHeld A t) ts → AllByRecursion (λ t. IsHeld B t) ts
        all [] o h = tt
        all (t ∷ ts) o h = (held_to t o.0 h.0, all ts o.1 h.1)

    chains_b : (t : TypeRef) → IsHeld B t → IsWithin B 201 t
    chains_b (ref.Basic b) h = within_to 201 (ref.Basic b) tt (grounded.chains (ref.Basic b) tt)
    chains_b (ref.Named q) h = by (B q) refl h
      where
        by : (y : Option Desc) → B q ≡ y → MatchOption y ⊥ (λ d. IsTrue (is_type d)) → IsWithin B 201 (ref.Named q)
        by None g h = absurd h
        by (Some e) g i =
            let o = not_out q e g (same_name q out_string) refl in
            within_to 201 (ref.Named q) o (grounded.chains (ref.Named q) (kind_back is_type type_kind q o h))

    keeps_b : (q : QName) (e : Desc) → B q ≡ Some e → Keeps B e
    keeps_b q e g =
        let o = not_out q e g (same_name q out_string) refl in
        let r = from_b q e o g in
        let i : r.e ≡ e = some_same r.e e (sym r.b ∙ g) in
        let s : named_by r.d ≡ named_by e = sym (named_blank r.d) ∙ ap named_by r.same ∙ named_blank r.e ∙ ap named_by i in
        keeps_to r.d e (r.same ∙ ap blank i) (subst NO s (closed q r.d o r.a)) (grounded.keeps q r.d r.a)

    pub same_grounded : IsGrounded B
    same_grounded = record { held = held_b; chains = chains_b; keeps = keeps_b }
