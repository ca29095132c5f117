-- What types stand for by descriptions that tell what a map does.
use Rattle.std.proofs.Common.{◌≡◌, ℕ, zero, suc, true, List, Option, Some, None, refl, sym, ap, subst, ◌∙◌}
use Rattle.ob_tree.specs.declared.names.QName.{QName}
use Rattle.ob_types.specs.declared.types.TypeRef.{TypeRef}
use Rattle.ob_types.specs.declared.types.TypeRef.TheVariants as ref
use Rattle.ob_types.specs.declared.desc.Desc.{Desc}
use Rattle.ob_types.specs.declared.desc.Desc.TheVariants as desc
use Rattle.ob_types.specs.declared.desc.RecordDesc.{RecordDesc}
use Rattle.ob_tree.specs.declared.ident.Mark.{Mark}
use Rattle.ob_types.specs.Tests.{target, target_of, follow, shape_at, pointer_of}
use Rattle.ob_rules.specs.Shapes.{record_at, record_of, pointed, record_if, pointed_record, base_type, base_record}
use Rattle.std.specs.Prelude.{bytes_eq}
use Rattle.law_links_types.specs.Trees.{IsRecordType, StandsFor, PointsTo, IsBase}
use Rattle.law_links_types.specs.Told.{core, is_linked, IsTold}

-- ---- cores

alias_is : (e : Desc) (m : Mark) (t : TypeRef) → core e ≡ desc.Alias m t → e ≡ desc.Alias m t
alias_is (desc.Const v) m t h = h
alias_is (desc.Var k u) m t h = h
alias_is (desc.Proc s) m t h = h
alias_is (desc.Alias k u) m t h = h
alias_is (desc.Array k n u) m t h = h
alias_is (desc.OpenArray k u) m t h = h
alias_is (desc.Pointer k u) m t h = h
alias_is (desc.ProcType k s) m t h = h
alias_is (desc.Record r) m t h = absurd cc

pointer_is : (e : Desc) (m : Mark) (t : TypeRef) → core e ≡ desc.Pointer m t → e ≡ desc.Pointer m t
pointer_is (desc.Const v) m t h = h
pointer_is (desc.Var k u) m t h = h
pointer_is (desc.Proc s) m t h = h
pointer_is (desc.Alias k u) m t h = h
pointer_is (desc.Array k n u) m t h = h
pointer_is (desc.OpenArray k u) m t h = h
pointer_is (desc.Pointer k u) m t h = h
pointer_is (desc.ProcType k s) m t h = h
pointer_is (desc.Record r) m t h = absurd cc

-- a record with the same base
pub record IsLike (e : Desc) (r : RecordDesc) : Type 0 where
  of : RecordDesc
  is : e ≡ desc.Record of
  base : of.base ≡ r.base

abbrev base_in : Desc → Option TypeRef
base_in (desc.Record r) = r.base
base_in d = None

record_is : (e : Desc) (r : RecordDesc) → core e ≡ core (desc.Record r) → IsLike e r
record_is (desc.Const v) r h = absurd cc
record_is (desc.Var k u) r h = absurd cc
record_is (desc.Proc s) r h = absurd cc
record_is (desc.Alias k u) r h = absurd cc
record_is (desc.Array k n u) r h = absurd cc
record_is (desc.OpenArray k u) r h = absurd cc
record_is (desc.Pointer k u) r h = absurd cc
record_is (desc.ProcType k s) r h = absurd cc
record_is (desc.Record s) r h = record { of = s; is = refl; base = ap base_in h }

-- ---- what is linked stands for the same

module _ (f g : QName → Option Desc) (told : (q : QName) (d : Desc) → f q ≡ Some d → IsTold g q d) where
  stays : (q : QName) (d : Desc) → f q ≡ Some d → is_linked d ≡ true → target_of (Some d) ≡ None → target_of (g q) ≡ None
  stays q d e l n = let k = told q d e l in subst (λ o. target_of o ≡ None) (sym k.1.0) (none d k.0 k.1.1 n)
    where
      none : (d e : Desc) → core e ≡ core d → target_of (Some d) ≡ None → target_of (Some e) ≡ None
      none (desc.Alias m t) e h n = absurd cc
      none d (desc.Const v) h n = refl
      none d (desc.Var k u) h n = refl
      none d (desc.Proc s) h n = refl
      none d (desc.Array k m u) h n = refl
      none d (desc.OpenArray k u) h n = refl
      none d (desc.Pointer k u) h n = refl
      none d (desc.ProcType k s) h n = refl
      none d (desc.Record r) h n = refl
      none (desc.Const v) (desc.Alias k u) h n = absurd cc
      none (desc.Var m t) (desc.Alias k u) h n = absurd cc
      none (desc.Proc s) (desc.Alias k u) h n = absurd cc
      none (desc.Array m i t) (desc.Alias k u) h n = absurd cc
      none (desc.OpenArray m t) (desc.Alias k u) h n = absurd cc
      none (desc.Pointer m t) (desc.Alias k u) h n = absurd cc
      none (desc.ProcType m s) (desc.Alias k u) h n = absurd cc
      none (desc.Record r) (desc.Alias k u) h n = absurd cc

  abbrev Same : ℕ → TypeRef → Type 0
  Same n t = (d : Desc) → shape_at f (target f n t) ≡ Some d → is_linked d ≡ true → target g n t ≡ target f n t

  same_next : (n : ℕ) → ((t : TypeRef) → Same n t) → (q : QName) (d : Desc) → is_linked d ≡ true → (o : Option Desc) → f q ≡ o → shape_at f (follow (target_of o) (ref.Named q) (λ u. target f n u)) ≡ Some d → follow (target_of (g q)) (ref.Named q) (λ u. target g n u) ≡ follow (target_of o) (ref.Named q) (λ u. target f n u)
  same_next n more q d l o e i = by o e i
    where
      kept : (c : Desc) → f q ≡ Some c → target_of (Some c) ≡ None → f q ≡ Some d → follow (target_of (g q)) (ref.Named q) (λ u. target g n u) ≡ ref.Named q
      kept c e i j = ap (λ o. follow o (ref.Named q) (λ u. target g n u)) (stays q c e (subst (λ x. is_linked x ≡ true) (let k : d ≡ c = cc in k) l) i)

      by : (o : Option Desc) → f q ≡ o → shape_at f (follow (target_of o) (ref.Named q) (λ u. target f n u)) ≡ Some d → follow (target_of (g q)) (ref.Named q) (λ u. target g n u) ≡ follow (target_of o) (ref.Named q) (λ u. target f n u)
      by None e i = absurd cc
      by (Some (desc.Alias m u)) e i =
          let k = told q (desc.Alias m u) e refl in
          let there : g q ≡ Some (desc.Alias m u) = k.1.0 ∙ ap (λ x. Some x) (alias_is k.0 m u k.1.1) in
          ap (λ o. follow (target_of o) (ref.Named q) (λ u. target g n u)) there ∙ more u d i l
      by (Some (desc.Const v)) e i = kept (desc.Const v) e refl i
      by (Some (desc.Var m t)) e i = kept (desc.Var m t) e refl i
      by (Some (desc.Proc s)) e i = kept (desc.Proc s) e refl i
      by (Some (desc.Array m k t)) e i = kept (desc.Array m k t) e refl i
      by (Some (desc.OpenArray m t)) e i = kept (desc.OpenArray m t) e refl i
      by (Some (desc.Pointer m t)) e i = kept (desc.Pointer m t) e refl i
      by (Some (desc.ProcType m s)) e i = kept (desc.ProcType m s) e refl i
      by (Some (desc.Record r)) e i = kept (desc.Record r) e refl i

  same_target : (n : ℕ) (t : TypeRef) → Same n t
  unfolding target
  same_target zero t d h l = refl
  same_target (suc n) (ref.Basic b) d h l = refl
  same_target (suc n) (ref.Named q) d h l = same_next n (λ t. same_target n t) q d l (f q) refl h

  module _ (unit : List ℕ) where
    record_there : (q : QName) (r : RecordDesc) → f q ≡ Some (desc.Record r) → IsRecordType g unit q
    record_there q r e = let k = told q (desc.Record r) e refl in let l = record_is k.0 r k.1.1 in record { of = l.of; is = k.1.0 ∙ ap (λ x. Some x) l.is }

    pub record_told : (t : TypeRef) (q : QName) → record_of f t ≡ Some q → StandsFor g unit t q
    record_told t q h = by (target f 201 t) refl h
      where
        named : (p : QName) (o : Option Desc) → target f 201 t ≡ ref.Named p → f p ≡ o → record_at (ref.Named p) o ≡ Some q → StandsFor g unit t q
        named p None i e h = absurd cc
        named p (Some (desc.Const v)) i e h = absurd cc
        named p (Some (desc.Var m u)) i e h = absurd cc
        named p (Some (desc.Proc s)) i e h = absurd cc
        named p (Some (desc.Alias m u)) i e h = absurd cc
        named p (Some (desc.Array m n u)) i e h = absurd cc
        named p (Some (desc.OpenArray m u)) i e h = absurd cc
        named p (Some (desc.Pointer m u)) i e h = absurd cc
        named p (Some (desc.ProcType m s)) i e h = absurd cc
        named p (Some (desc.Record r)) i e h =
            let same : p ≡ q = cc in
            let at : f q ≡ Some (desc.Record r) = subst (λ (x : QName). f x ≡ Some (desc.Record r)) same e in
            let its : target f 201 t ≡ ref.Named q = i ∙ ap (λ x. ref.Named x) same in
            record { same = same_target 201 t (desc.Record r) (ap (shape_at f) its ∙ at) refl ∙ its; type = record_there q r at }

        by : (w : TypeRef) → target f 201 t ≡ w → record_at w (shape_at f w) ≡ Some q → StandsFor g unit t q
        by (ref.Basic b) i h = absurd cc
        by (ref.Named p) i h = named p (f p) i refl h

    pub pointed_told : (t u : TypeRef) → pointed f t ≡ Some u → pointer_of (shape_at g (target g 201 t)) ≡ Some u
    pointed_told t u h = by (target f 201 t) refl h
      where
        named : (p : QName) (o : Option Desc) → target f 201 t ≡ ref.Named p → f p ≡ o → pointer_of o ≡ Some u → pointer_of (shape_at g (target g 201 t)) ≡ Some u
        named p None i e h = absurd cc
        named p (Some (desc.Const v)) i e h = absurd cc
        named p (Some (desc.Var m w)) i e h = absurd cc
        named p (Some (desc.Proc s)) i e h = absurd cc
        named p (Some (desc.Alias m w)) i e h = absurd cc
        named p (Some (desc.Array m n w)) i e h = absurd cc
        named p (Some (desc.OpenArray m w)) i e h = absurd cc
        named p (Some (desc.ProcType m s)) i e h = absurd cc
        named p (Some (desc.Record r)) i e h = absurd cc
        named p (Some (desc.Pointer m w)) i e h =
            let k = told p (desc.Pointer m w) e refl in
            let there : g p ≡ Some (desc.Pointer m w) = k.1.0 ∙ ap (λ x. Some x) (pointer_is k.0 m w k.1.1) in
            ap (λ x. pointer_of (shape_at g x)) (same_target 201 t (desc.Pointer m w) (ap (shape_at f) i ∙ e) refl ∙ i) ∙ (ap pointer_of there ∙ h)

        by : (w : TypeRef) → target f 201 t ≡ w → pointer_of (shape_at f w) ≡ Some u → pointer_of (shape_at g (target g 201 t)) ≡ Some u
        by (ref.Basic b) i h = absurd cc
        by (ref.Named p) i h = named p (f p) i refl h

    pub points_told : (t : TypeRef) (q : QName) → pointed_record f t ≡ Some q → PointsTo g unit t q
    points_told t q h = by (pointed f t) refl h
      where
        by : (o : Option TypeRef) → pointed f t ≡ o → record_if f o ≡ Some q → PointsTo g unit t q
        by None e h = absurd cc
        by (Some u) e h = record { base = u; pointed = pointed_told t u e; stands = record_told u q h }

    pub base_told : (o q : QName) → bytes_eq o.«module» unit ≡ true → base_record f o ≡ Some q → IsBase g unit q
    base_told o q own h = by (f o) refl h
      where
        based : (r : RecordDesc) (b : Option TypeRef) → f o ≡ Some (desc.Record r) → r.base ≡ b → record_if f b ≡ Some q → IsBase g unit q
        based r None e i h = absurd cc
        based r (Some t) e i h =
            let k = told o (desc.Record r) e refl in
            let l = record_is k.0 r k.1.1 in
            record { extension = o; own = own; of = l.of; is = k.1.0 ∙ ap (λ x. Some x) l.is; base = t; has = l.base ∙ i; stands = record_told t q h }

        by : (d : Option Desc) → f o ≡ d → record_if f (base_type d) ≡ Some q → IsBase g unit q
        by None e h = absurd cc
        by (Some (desc.Const v)) e h = absurd cc
        by (Some (desc.Var m t)) e h = absurd cc
        by (Some (desc.Proc s)) e h = absurd cc
        by (Some (desc.Alias m t)) e h = absurd cc
        by (Some (desc.Array m n t)) e h = absurd cc
        by (Some (desc.OpenArray m t)) e h = absurd cc
        by (Some (desc.Pointer m t)) e h = absurd cc
        by (Some (desc.ProcType m s)) e h = absurd cc
        by (Some (desc.Record r)) e h = based r r.base e refl h
