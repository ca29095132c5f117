-- The words of all types keep the limit, where the chains in which types stand on types come to an end.
use Rattle.std.proofs.Common.{◌≡◌, ℕ, zero, suc, ◌+◌, ◌*◌, ◌≤◌, Bool, true, false, cond, List, [], ◌∷◌, ◌++◌, map, Option, Some, None, refl, sym, ap, subst, ◌∙◌, arith}
use Rattle.std.specs.Prelude.{◌&&◌, ◌||◌, not, nat_le, bytes_eq}
use Rattle.std.specs.List.{AllByRecursion, list_all}
use Rattle.std.proofs.lemmas.Bool.{false≢true, and_parts, leb-true}
use Rattle.std.proofs.lemmas.Slice.Eq.{bytes_eq-Decides}
use Rattle.ob_tree.specs.declared.names.QName.{QName}
use Rattle.ob_types.specs.declared.types.TypeRef.{TypeRef}
use Rattle.ob_types.specs.declared.types.TypeRef.TheVariants as ref
use Rattle.ob_types.specs.declared.desc.Desc.{Desc}
use Rattle.ob_types.specs.declared.desc.Desc.TheVariants as desc
use Rattle.ob_types.specs.declared.typed.TypedType.{TypedType}
use Rattle.ob_types.specs.Maps.{is_type, stands_on, named_by}
use Rattle.ob_types.specs.AssigningTests.{described as is_described}
use Rattle.ob_types.specs.TypedSyntax.{Module}
use Rattle.ob_layout.specs.Words.{described_words, words_within, words_of, most_words}
use Rattle.ob_layout.specs.LaidOut.{is_own, type_named, viewed}
use Rattle.ob_env.specs.Faces.{Face, described}
use Rattle.ob_env.specs.Fit.{chain_described, is_within, is_held, names_types, stands, has_bases, keeps_places, has_few_words, first_unfit, steps_of}
use Rattle.law_spelling.specs.Laws.{Text}
use Rattle.law_spelling.proofs.Fit.{described_fit}

-- what a description says of words, by those of the types on which it stands
desc_same : (f g : TypeRef → ℕ) (d : Desc) → AllByRecursion (λ t. f t ≡ g t) (stands_on d) → described_words f (Some d) ≡ described_words g (Some d)
desc_same f g (desc.Const v) h = refl
desc_same f g (desc.Var m t) h = refl
desc_same f g (desc.Proc s) h = refl
desc_same f g (desc.Alias m t) h = h.0
desc_same f g (desc.Array m n t) h = ap (λ w. n * w) h.0
desc_same f g (desc.OpenArray m t) h = refl
desc_same f g (desc.Pointer m t) h = refl
desc_same f g (desc.ProcType m s) h = refl
desc_same f g (desc.Record r) h = refl

-- ---- more steps change nothing where chains end

module _ (types : QName → Option Desc) where
  all_same : (n : ℕ) → ((t : TypeRef) → is_within types n t ≡ true → words_within types (suc n) t ≡ words_within types n t) → (ts : List TypeRef) → list_all (λ t. is_within types n t) ts ≡ true → AllByRecursion (λ t. words_within types (suc n) t ≡ words_within types n t) ts
  all_same n more [] h = tt
  all_same n more (t ∷ ts) h =
      let p = and_parts (is_within types n t) (list_all (λ t. is_within types n t) ts) h in
      (more t p.0, all_same n more ts p.1)

  named_same : (n : ℕ) → ((t : TypeRef) → is_within types n t ≡ true → words_within types (suc n) t ≡ words_within types n t) → (o : Option Desc) → chain_described (λ t. is_within types n t) o ≡ true → described_words (words_within types (suc n)) o ≡ described_words (words_within types n) o
  named_same n more None h = refl
  named_same n more (Some d) h = desc_same (words_within types (suc n)) (words_within types n) d (all_same n more (stands_on d) h)

  pub same_words : (n : ℕ) (t : TypeRef) → is_within types n t ≡ true → words_within types (suc n) t ≡ words_within types n t
  same_words zero (ref.Basic b) h = refl
  same_words (suc n) (ref.Basic b) h = refl
  same_words zero (ref.Named q) h = absurd (false≢true h)
  same_words (suc n) (ref.Named q) h = named_same n (λ t k. same_words n t k) (types q) h

  both_true : (a b : Bool) → a ≡ true → b ≡ true → a && b ≡ true
  both_true true b e f = f
  both_true false b e f = e

  all_within : (n : ℕ) → ((t : TypeRef) → is_within types n t ≡ true → is_within types (suc n) t ≡ true) → (ts : List TypeRef) → list_all (λ t. is_within types n t) ts ≡ true → list_all (λ t. is_within types (suc n) t) ts ≡ true
  all_within n more [] h = refl
  all_within n more (t ∷ ts) h =
      let p = and_parts (is_within types n t) (list_all (λ t. is_within types n t) ts) h in
      both_true (is_within types (suc n) t) (list_all (λ t. is_within types (suc n) t) ts) (more t p.0) (all_within n more ts p.1)

  named_within : (n : ℕ) → ((t : TypeRef) → is_within types n t ≡ true → is_within types (suc n) t ≡ true) → (o : Option Desc) → chain_described (λ t. is_within types n t) o ≡ true → chain_described (λ t. is_within types (suc n) t) o ≡ true
  named_within n more None h = refl
  named_within n more (Some d) h = all_within n more (stands_on d) h

  pub more_within : (n : ℕ) (t : TypeRef) → is_within types n t ≡ true → is_within types (suc n) t ≡ true
  more_within zero (ref.Basic b) h = refl
  more_within (suc n) (ref.Basic b) h = refl
  more_within zero (ref.Named q) h = absurd (false≢true h)
  more_within (suc n) (ref.Named q) h = named_within n (λ t k. more_within n t k) (types q) h

-- ---- a part of a map by itself

-- names that a map has, and that lead to no others
pub record IsClosed (others : QName → Option Desc) (IsOther : QName → Type 0) : Type 0 where
  pub leads : (q : QName) (d : Desc) → IsOther q → others q ≡ Some d → AllByRecursion (λ t. (p : QName) → t ≡ ref.Named p → IsOther p) (stands_on d)

module _ (others types : QName → Option Desc) (IsOther : QName → Type 0) (same : (q : QName) → IsOther q → types q ≡ others q) (closed : IsClosed others IsOther) where
  abbrev IsOfOthers : TypeRef → Type 0
  IsOfOthers t = (p : QName) → t ≡ ref.Named p → IsOther p

  all_alike : (n : ℕ) → ((t : TypeRef) → IsOfOthers t → words_within types n t ≡ words_within others n t) → (ts : List TypeRef) → AllByRecursion IsOfOthers ts → AllByRecursion (λ t. words_within types n t ≡ words_within others n t) ts
  all_alike n more [] h = tt
  all_alike n more (t ∷ ts) h = (more t h.0, all_alike n more ts h.1)

  desc_alike : (n : ℕ) → ((t : TypeRef) → IsOfOthers t → words_within types n t ≡ words_within others n t) → (q : QName) (o : Option Desc) → others q ≡ o → IsOther q → described_words (words_within types n) o ≡ described_words (words_within others n) o
  desc_alike n more q None e h = refl
  desc_alike n more q (Some d) e h = desc_same (words_within types n) (words_within others n) d (all_alike n more (stands_on d) (closed.leads q d h e))

  pub alike : (n : ℕ) (t : TypeRef) → IsOfOthers t → words_within types n t ≡ words_within others n t
  alike zero t h = refl
  alike (suc n) (ref.Basic b) h = refl
  alike (suc n) (ref.Named q) h = ap (described_words (words_within types n)) (same q (h q refl)) ∙ desc_alike n (λ t k. alike n t k) q (others q) refl (h q refl)

-- ---- THE WORDS

module _ (fs : List (Face Text)) (fit : first_unfit fs ≡ None) (m : Module) where
  abbrev types : QName → Option Desc
  types = viewed (described fs) m

  -- a name of another module that the interfaces describe as a type
  abbrev IsOther : QName → Type 0
  IsOther q = (is_own m q ≡ false) × (is_described is_type (described fs q) ≡ true)

  other_same : (q : QName) → IsOther q → types q ≡ described fs q
  other_same q h = ap (λ b. cond b (type_named m.types q.object) (described fs q)) h.0

  -- no interface is of the module itself
  module _ (apart : (q : QName) (d : Desc) → described fs q ≡ Some d → is_own m q ≡ false) where
    held_other : (t : TypeRef) → is_held (described fs) (steps_of fs) t ≡ true → (p : QName) → t ≡ ref.Named p → IsOther p
    held_other t h p e = go (described fs p) refl (subst (λ t. is_held (described fs) (steps_of fs) t ≡ true) e h)
      where
        go : (o : Option Desc) → described fs p ≡ o → is_described is_type o ≡ true → IsOther p
        go None i k = absurd (false≢true k)
        go (Some d) i k = (apart p d i, ap (is_described is_type) i ∙ k)

    all_held : (ts : List TypeRef) → list_all (is_held (described fs) (steps_of fs)) ts ≡ true → AllByRecursion (λ t. (p : QName) → t ≡ ref.Named p → IsOther p) ts
    all_held [] h = tt
    all_held (t ∷ ts) h = let k = and_parts (is_held (described fs) (steps_of fs) t) (list_all (is_held (described fs) (steps_of fs)) ts) h in (held_other t k.0, all_held ts k.1)

    left_part : (ts us : List TypeRef) → list_all (is_held (described fs) (steps_of fs)) (ts ++ us) ≡ true → list_all (is_held (described fs) (steps_of fs)) ts ≡ true
    left_part [] us h = refl
    left_part (t ∷ ts) us h =
        let k = and_parts (is_held (described fs) (steps_of fs) t) (list_all (is_held (described fs) (steps_of fs)) (ts ++ us)) h in
        go (is_held (described fs) (steps_of fs) t) k.0 (left_part ts us k.1)
      where
        go : (b : Bool) → b ≡ true → list_all (is_held (described fs) (steps_of fs)) ts ≡ true → b && list_all (is_held (described fs) (steps_of fs)) ts ≡ true
        go true e f = f
        go false e f = e

    stood_on : (d : Desc) → is_type d ≡ true → list_all (is_held (described fs) (steps_of fs)) (named_by d) ≡ true → list_all (is_held (described fs) (steps_of fs)) (stands_on d) ≡ true
    stood_on (desc.Const v) t h = h
    stood_on (desc.Var a u) t h = absurd (false≢true t)
    stood_on (desc.Proc s) t h = absurd (false≢true t)
    stood_on (desc.Alias a u) t h = h
    stood_on (desc.Array a n u) t h = h
    stood_on (desc.OpenArray a u) t h = h
    stood_on (desc.Pointer a u) t h = refl
    stood_on (desc.ProcType a s) t h = h
    stood_on (desc.Record r) t h = left_part (stands_on (desc.Record r)) _ h

    is_kind : (q : QName) (d : Desc) → IsOther q → described fs q ≡ Some d → is_type d ≡ true
    is_kind q d h e = ap (is_described is_type) (sym e) ∙ h.1

    others_closed : IsClosed (described fs) IsOther
    others_closed = record { leads = λ q d h e. all_held (stands_on d) (stood_on d (is_kind q d h e) (and_parts (names_types (described fs) (steps_of fs) d) _ (described_fit fs fit q d e)).0) }

    -- a type of another module has few words
    other_few : (q : QName) (d : Desc) → IsOther q → described fs q ≡ Some d → words_of types (ref.Named q) ≤ 1048576
    other_few q d h e =
        let k = described_fit fs fit q d e in
        let a = and_parts (names_types (described fs) (steps_of fs) d) _ k in
        let b = and_parts (stands (described fs) (steps_of fs) q d) _ a.1 in
        let c = and_parts (has_bases (described fs) (steps_of fs) d) _ b.1 in
        let f = and_parts (keeps_places (described fs) (steps_of fs) d) _ c.1 in
        let g = and_parts (has_few_words (described fs) (steps_of fs) q d) _ f.1 in
        let w : words_of (described fs) (ref.Named q) ≤ 1048576 = few (is_type d) (is_kind q d h e) g.0 in
        let same : words_of types (ref.Named q) ≡ words_of (described fs) (ref.Named q) = alike (described fs) types IsOther other_same others_closed 201 (ref.Named q) (λ p i. named q p i h) in
        omega (arith, w, same)
      where
        few : (b : Bool) → b ≡ true → (not b || nat_le (words_of (described fs) (ref.Named q)) most_words) ≡ true → words_of (described fs) (ref.Named q) ≤ 1048576
        few true i k = leb-true _ _ k
        few false i k = absurd (false≢true i)

        named : (q p : QName) → ref.Named q ≡ ref.Named p → IsOther q → IsOther p
        named q p i h = let same : q ≡ p = cc in subst IsOther same h

    abbrev OwnIsFew : List ℕ → Type 0
    OwnIsFew x = (d : Desc) → type_named m.types x ≡ Some d → (is_within types 200 (ref.Named (record { «module» = m.name; object = x })) ≡ true) × (described_words (words_of types) (Some d) ≤ 1048576)

    one_word : (o : Option Desc) (n : ℕ) → ((d : Desc) → o ≡ Some d → is_type d ≡ false) → described_words (words_within types n) o ≤ 1048576
    one_word None n h = omega arith
    one_word (Some (desc.Const v)) n h = omega arith
    one_word (Some (desc.Var a t)) n h = omega arith
    one_word (Some (desc.Proc s)) n h = omega arith
    one_word (Some (desc.Alias a t)) n h = absurd (false≢true (sym (h (desc.Alias a t) refl)))
    one_word (Some (desc.Array a k t)) n h = absurd (false≢true (sym (h (desc.Array a k t) refl)))
    one_word (Some (desc.OpenArray a t)) n h = absurd (false≢true (sym (h (desc.OpenArray a t) refl)))
    one_word (Some (desc.Pointer a t)) n h = absurd (false≢true (sym (h (desc.Pointer a t) refl)))
    one_word (Some (desc.ProcType a s)) n h = absurd (false≢true (sym (h (desc.ProcType a s) refl)))
    one_word (Some (desc.Record r)) n h = absurd (false≢true (sym (h (desc.Record r) refl)))

    -- a type of the module by its name
    own_few : (q : QName) → is_own m q ≡ true → OwnIsFew q.object → (o : Option Desc) → type_named m.types q.object ≡ o → described_words (words_within types 200) o ≤ 1048576
    own_few q e h None i = omega arith
    own_few q e h (Some d) i =
        let k = h d i in
        let same : q ≡ record { «module» = m.name; object = q.object } = ap (λ (x : List ℕ). let p : QName = record { «module» = x; object = q.object } in p) ((bytes_eq-Decides q.«module» m.name).0 e) in
        let near : is_within types 201 (ref.Named q) ≡ true = more_within types 200 (ref.Named q) (subst (λ (p : QName). is_within types 200 (ref.Named p) ≡ true) (sym same) k.0) in
        let far : words_within types 202 (ref.Named q) ≡ words_within types 201 (ref.Named q) = same_words types 201 (ref.Named q) near in
        let here : types q ≡ Some d = ap (λ b. cond b (type_named m.types q.object) (described fs q)) e ∙ i in
        let a : words_within types 202 (ref.Named q) ≡ described_words (words_within types 201) (Some d) = ap (described_words (words_within types 201)) here in
        let b : words_within types 201 (ref.Named q) ≡ described_words (words_within types 200) (Some d) = ap (described_words (words_within types 200)) here in
        let w = k.1 in
        omega (arith, far, a, b, w)

    all_few : (ts : List TypedType) → AllByRecursion (λ t. is_within types 200 (ref.Named (record { «module» = m.name; object = t.name })) ≡ true) ts → AllByRecursion (λ t. described_words (words_of types) (Some t.desc) ≤ 1048576) ts → (x : List ℕ) (d : Desc) → type_named ts x ≡ Some d → (is_within types 200 (ref.Named (record { «module» = m.name; object = x })) ≡ true) × (described_words (words_of types) (Some d) ≤ 1048576)
    all_few [] g l x d e = absurd cc
    all_few (t ∷ ts) g l x d e = go (bytes_eq x t.name) refl e (all_few ts g.1 l.1 x d)
      where
        go : (b : Bool) → bytes_eq x t.name ≡ b → cond b (Some t.desc) (type_named ts x) ≡ Some d → (type_named ts x ≡ Some d → (is_within types 200 (ref.Named (record { «module» = m.name; object = x })) ≡ true) × (described_words (words_of types) (Some d) ≤ 1048576)) → (is_within types 200 (ref.Named (record { «module» = m.name; object = x })) ≡ true) × (described_words (words_of types) (Some d) ≤ 1048576)
        go true f i rest =
            let same : t.desc ≡ d = cc in
            let name : t.name ≡ x = sym ((bytes_eq-Decides x t.name).0 f) in
            (subst (λ (y : List ℕ). is_within types 200 (ref.Named (record { «module» = m.name; object = y })) ≡ true) name g.0, subst (λ (d : Desc). described_words (words_of types) (Some d) ≤ 1048576) same l.0)
        go false f i rest = rest i

    other_type : (q : QName) → is_own m q ≡ false → (o : Option Desc) → described fs q ≡ o → words_of types (ref.Named q) ≤ 1048576
    other_type q e None i =
        let here : types q ≡ None = ap (λ b. cond b (type_named m.types q.object) (described fs q)) e ∙ i in
        let a : words_of types (ref.Named q) ≡ 1 = ap (described_words (words_within types 200)) here in
        omega (arith, a)
    other_type q e (Some d) i = go (is_type d) refl
      where
        go : (b : Bool) → is_type d ≡ b → words_of types (ref.Named q) ≤ 1048576
        go true k = other_few q d (e, ap (is_described is_type) i ∙ k) i
        go false k =
            let here : types q ≡ Some d = ap (λ b. cond b (type_named m.types q.object) (described fs q)) e ∙ i in
            let a : words_of types (ref.Named q) ≡ described_words (words_within types 200) (Some d) = ap (described_words (words_within types 200)) here in
            let w = one_word (Some d) 200 (λ x j. let same : d ≡ x = cc in ap is_type (sym same) ∙ k) in
            omega (arith, a, w)

    -- THE WORDS OF EACH TYPE, where the chains of own types end and they keep the limit
    pub words_few : AllByRecursion (λ t. is_within types 200 (ref.Named (record { «module» = m.name; object = t.name })) ≡ true) m.types → AllByRecursion (λ t. described_words (words_of types) (Some t.desc) ≤ 1048576) m.types → (t : TypeRef) → words_of types t ≤ 1048576
    words_few grounded few (ref.Basic b) = omega arith
    words_few grounded few (ref.Named q) = go (is_own m q) refl
      where
        go : (b : Bool) → is_own m q ≡ b → words_of types (ref.Named q) ≤ 1048576
        go true e =
            let l = own_few q e (all_few m.types grounded few q.object) (type_named m.types q.object) refl in
            let a : words_of types (ref.Named q) ≡ described_words (words_within types 200) (type_named m.types q.object) = ap (λ b. described_words (words_within types 200) (cond b (type_named m.types q.object) (described fs q))) e in
            omega (arith, l, a)
        go false e = other_type q e (described fs q) refl
