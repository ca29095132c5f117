-- Chains of types of a module end before it is laid out, where they do behind.
use Rattle.std.proofs.Common.{◌≡◌, refl, sym, ap, ◌∙◌, subst, ℕ, zero, suc, ◌+◌, Bool, true, false, List, [], ◌∷◌, ◌++◌, map as each, Option, Some, None, cond}
use Rattle.std.specs.Prelude.{bytes_eq, MatchOption, IsTrue}
use Rattle.std.specs.List.{AllByRecursion}
use Rattle.ob_tree.specs.declared.names.QName.{QName}
use Rattle.ob_types.specs.declared.types.TypeRef.{TypeRef}
use Rattle.ob_types.specs.declared.types.TypeRef.TheVariants as ref
use Rattle.ob_types.specs.declared.desc.Desc.{Desc}
use Rattle.ob_types.specs.declared.desc.Desc.TheVariants as desc
use Rattle.ob_types.specs.declared.desc.Field.{Field}
use Rattle.ob_types.specs.declared.typed.TypedType.{TypedType}
use Rattle.ob_types.specs.Maps.{is_type, listed, signature_types, stands_on, named_by, IsHeld, IsWithin}
use Rattle.std.specs.List.{flat_map}
use Rattle.ob_types.specs.TypedSyntax.{Module}
use Rattle.ob_layout.specs.LaidOut.{type_named, is_own, viewed, base_of, words_in, procedures_in, placed, laid_desc, laid_type}
use Rattle.law_lists.proofs.Lists.{all_back, all_both, all_front}

unplaced : (P : TypeRef → Type 0) (w : TypeRef → ℕ) (n : ℕ) (fs : List Field) → AllByRecursion P (each (λ f. f.of) (placed w n fs)) → AllByRecursion P (each (λ f. f.of) fs)
unplaced P w n [] h = tt
unplaced P w n (f ∷ fs) h = (h.0, unplaced P w (n + w f.of) fs h.1)

stands_laid : (P : TypeRef → Type 0) (w p : TypeRef → ℕ) (q : QName) (d : Desc) → AllByRecursion P (stands_on (laid_desc w p q d)) → AllByRecursion P (stands_on d)
stands_laid P w p q (desc.Record r) h = all_both P (listed r.base) (each (λ f. f.of) r.fields) (all_front P (listed r.base) (each (λ f. f.of) (placed w (base_of w r.base) r.fields)) h) (unplaced P w (base_of w r.base) r.fields (all_back P (listed r.base) (each (λ f. f.of) (placed w (base_of w r.base) r.fields)) h))
stands_laid P w p q (desc.Const v) h = h
stands_laid P w p q (desc.Var m t) h = h
stands_laid P w p q (desc.Proc s) h = h
stands_laid P w p q (desc.Alias m t) h = h
stands_laid P w p q (desc.Array m n t) h = h
stands_laid P w p q (desc.OpenArray m t) h = h
stands_laid P w p q (desc.Pointer m t) h = h
stands_laid P w p q (desc.ProcType m s) h = h

named_stands : (P : TypeRef → Type 0) (d : Desc) → AllByRecursion P (named_by d) → AllByRecursion P (stands_on d)
named_stands P (desc.Record r) h = all_front P (listed r.base ++ each (λ f. f.of) r.fields) (flat_map (λ m. signature_types m.signature) r.methods) h
named_stands P (desc.Const v) h = tt
named_stands P (desc.Var m t) h = tt
named_stands P (desc.Proc s) h = tt
named_stands P (desc.Alias m t) h = h
named_stands P (desc.Array m n t) h = h
named_stands P (desc.OpenArray m t) h = h
named_stands P (desc.Pointer m t) h = tt
named_stands P (desc.ProcType m s) h = h

laid_type_is : (w p : TypeRef → ℕ) (q : QName) (d : Desc) → is_type (laid_desc w p q d) ≡ is_type d
laid_type_is w p q (desc.Record r) = refl
laid_type_is w p q (desc.Const v) = refl
laid_type_is w p q (desc.Var m t) = refl
laid_type_is w p q (desc.Proc s) = refl
laid_type_is w p q (desc.Alias m t) = refl
laid_type_is w p q (desc.Array m n t) = refl
laid_type_is w p q (desc.OpenArray m t) = refl
laid_type_is w p q (desc.Pointer m t) = refl
laid_type_is w p q (desc.ProcType m s) = refl

-- the types of a module stand on what they do when they are laid out
pub all_stand : (P : TypeRef → Type 0) (map : QName → Option Desc) (m : Module) (ts : List TypedType) → AllByRecursion (λ t. AllByRecursion P (named_by t.desc)) (each (laid_type map m) ts) → AllByRecursion (λ t. AllByRecursion P (stands_on t.desc)) ts
all_stand P map m [] h = tt
all_stand P map m (t ∷ ts) h = (stands_laid P (words_in map m) (procedures_in map m) (record { «module» = m.name; object = t.name }) t.desc (named_stands P (laid_type map m t).desc h.0), all_stand P map m ts h.1)

module _ (m checked : Module) (name : m.name ≡ checked.name) (map : QName → Option Desc) (types_are : m.types ≡ each (laid_type map checked) checked.types) (others : QName → Option Desc) where
  abbrev words : TypeRef → ℕ
  words = words_in map checked

  abbrev procedures : TypeRef → ℕ
  procedures = procedures_in map checked

  -- a type of the module, laid out and as it was checked
  record Found (x : List ℕ) (e : Desc) (ts : List TypedType) : Type 0 where
    d : Desc
    q : QName
    of : type_named ts x ≡ Some d
    is : e ≡ laid_desc words procedures q d

  found : (ts : List TypedType) (x : List ℕ) (e : Desc) → type_named (each (laid_type map checked) ts) x ≡ Some e → Found x e ts
  found [] x e h = absurd cc
  found (t ∷ ts) x e h = by (bytes_eq x t.name) refl h (found ts x e)
    where
      by : (b : Bool) → bytes_eq x t.name ≡ b → cond b (Some (laid_type map checked t).desc) (type_named (each (laid_type map checked) ts) x) ≡ Some e → (type_named (each (laid_type map checked) ts) x ≡ Some e → Found x e ts) → Found x e (t ∷ ts)
      by true i h r = let k : (laid_type map checked t).desc ≡ e = cc in record { d = t.desc; q = record { «module» = checked.name; object = t.name }; of = ap (λ b. cond b (Some t.desc) (type_named ts x)) i; is = sym k }
      by false i h r = let k = r h in record { d = k.d; q = k.q; of = ap (λ b. cond b (Some t.desc) (type_named ts x)) i ∙ k.of; is = k.is }

  there : (ts : List TypedType) (x : List ℕ) (d : Desc) → type_named ts x ≡ Some d → (q : QName) × (type_named (each (laid_type map checked) ts) x ≡ Some (laid_desc words procedures q d))
  there [] x d h = absurd cc
  there (t ∷ ts) x d h = by (bytes_eq x t.name) refl h (there ts x d)
    where
      by : (b : Bool) → bytes_eq x t.name ≡ b → cond b (Some t.desc) (type_named ts x) ≡ Some d → (type_named ts x ≡ Some d → (q : QName) × (type_named (each (laid_type map checked) ts) x ≡ Some (laid_desc words procedures q d))) → (q : QName) × (cond (bytes_eq x t.name) (Some (laid_type map checked t).desc) (type_named (each (laid_type map checked) ts) x) ≡ Some (laid_desc words procedures q d))
      by true i h r =
          let k : t.desc ≡ d = cc in
          let q : QName = record { «module» = checked.name; object = t.name } in
          (q, ap (λ b. cond b (Some (laid_type map checked t).desc) (type_named (each (laid_type map checked) ts) x)) i ∙ ap (λ y. Some (laid_desc words procedures q y)) k)
      by false i h r = let k = r h in (k.0, ap (λ b. cond b (Some (laid_type map checked t).desc) (type_named (each (laid_type map checked) ts) x)) i ∙ k.1)

  abbrev W : QName → Option Desc
  W = viewed others m

  abbrev V : QName → Option Desc
  V = viewed others checked

  -- what the module sees of its own types, and of others
  own_seen : (q : QName) → is_own checked q ≡ true → W q ≡ type_named (each (laid_type map checked) checked.types) q.object
  own_seen q e = ap (λ b. cond b (type_named m.types q.object) (others q)) (ap (λ (x : List ℕ). bytes_eq q.«module» x) name ∙ e) ∙ ap (λ ts. type_named ts q.object) types_are

  other_seen : (q : QName) → is_own checked q ≡ false → W q ≡ others q
  other_seen q e = ap (λ b. cond b (type_named m.types q.object) (others q)) (ap (λ (x : List ℕ). bytes_eq q.«module» x) name ∙ e)

  abbrev IsTypeIn : Option Desc → Type 0
  IsTypeIn o = MatchOption o ⊥ (λ d. IsTrue (is_type d))

  held : (t : TypeRef) → IsHeld V t → IsHeld W t
  held (ref.Basic b) h = tt
  held (ref.Named q) h = by (is_own checked q) refl h
    where
      own : is_own checked q ≡ true → (o : Option Desc) → type_named checked.types q.object ≡ o → IsTypeIn o → IsTypeIn (W q)
      own e None i h = absurd h
      own e (Some d) i h = let k = there checked.types q.object d i in subst IsTypeIn (sym (own_seen q e ∙ k.1)) (laid_type_is words procedures k.0 d ∙ h)

      by : (b : Bool) → is_own checked q ≡ b → IsTypeIn (cond b (type_named checked.types q.object) (others q)) → IsTypeIn (W q)
      by true e h = own e (type_named checked.types q.object) refl h
      by false e h = subst IsTypeIn (sym (other_seen q e)) h

  abbrev IsWithinIn : (QName → Option Desc) → ℕ → Option Desc → Type 0
  IsWithinIn types n o = MatchOption o ⊥ (λ d. IsTrue (is_type d) × AllByRecursion (λ t. IsWithin types n t) (stands_on d))

  all_from : (P Q : TypeRef → Type 0) → ((t : TypeRef) → P t → Q t) → (ts : List TypeRef) → AllByRecursion P ts → AllByRecursion Q ts
  all_from P Q f [] h = tt
  all_from P Q f (t ∷ ts) h = (f t h.0, all_from P Q f ts h.1)

  within : (n : ℕ) (t : TypeRef) → IsWithin W n t → IsWithin V n t
  unfolding IsWithin
  within n (ref.Basic b) w = tt
  within zero (ref.Named q) w = absurd w
  within (suc n) (ref.Named q) w = by (is_own checked q) refl (λ t k. within n t k)
    where
      own : is_own checked q ≡ true → (o : Option Desc) → type_named (each (laid_type map checked) checked.types) q.object ≡ o → IsWithinIn W n o → ((t : TypeRef) → IsWithin W n t → IsWithin V n t) → IsWithinIn V n (type_named checked.types q.object)
      own e None i h r = absurd h
      own e (Some x) i h r =
          let k = found checked.types q.object x i in
          let ty : is_type k.d ≡ true = sym (laid_type_is words procedures k.q k.d) ∙ ap is_type (sym k.is) ∙ h.0 in
          let parts = stands_laid (λ t. IsWithin W n t) words procedures k.q k.d (subst (λ y. AllByRecursion (λ t. IsWithin W n t) (stands_on y)) k.is h.1) in
          subst (IsWithinIn V n) (sym k.of) (ty, all_from (λ t. IsWithin W n t) (λ t. IsWithin V n t) r (stands_on k.d) parts)

      other : (o : Option Desc) → IsWithinIn W n o → ((t : TypeRef) → IsWithin W n t → IsWithin V n t) → IsWithinIn V n o
      other None h r = absurd h
      other (Some d) h r = (h.0, all_from (λ t. IsWithin W n t) (λ t. IsWithin V n t) r (stands_on d) h.1)

      by : (b : Bool) → is_own checked q ≡ b → ((t : TypeRef) → IsWithin W n t → IsWithin V n t) → IsWithinIn V n (cond b (type_named checked.types q.object) (others q))
      by true e r = own e (type_named (each (laid_type map checked) checked.types) q.object) refl (subst (IsWithinIn W n) (own_seen q e) w) r
      by false e r = other (others q) (subst (IsWithinIn W n) (other_seen q e) w) r

  -- CHAINS END
  pub chains_end : ((t : TypeRef) → IsHeld W t → IsWithin W 201 t) → (t : TypeRef) → IsHeld V t → IsWithin V 201 t
  chains_end w t h = within 201 t (w t (held t h))
