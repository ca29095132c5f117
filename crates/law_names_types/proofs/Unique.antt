-- The types of a sequence and of headings differ in name, by the length of their names, and by that of the names of headings.
use Rattle.std.proofs.Common.{◌≡◌, ◌⊎◌, inl, inr, ℕ, zero, suc, ◌+◌, ◌<◌, Bool, true, false, List, [], ◌∷◌, ◌++◌, length, Option, Some, None, refl, sym, ap, subst, ◌∙◌, append_assoc, length-append, arith}
use Rattle.std.specs.Prelude.{◌≢◌, ◌==◌}
use Rattle.std.specs.List.{AllByRecursion}
use Rattle.std.proofs.lemmas.List.{append-nil}
use Rattle.ob_types.specs.declared.typed.TypedType.{TypedType}
use Rattle.law_names_distinct.specs.Distinct.{AreDistinct}
use Rattle.law_names_distinct.specs.Parts.{IsWord, IsTail, IsPart}
use Rattle.law_names_distinct.proofs.Parts.{word_scope}
use Rattle.law_names_types.specs.Nested.{HasField, IsBehind, AreNested}
use Rattle.law_names_types.proofs.Meets.{Meeting, meets, word_front}
use Rattle.law_names_types.specs.Unlike.{IsWithin}
use Rattle.law_names_types.proofs.Items.{Item, stem_by, stem, hat, Behind, IsAmong, all_at, all_of, in_either, distinct_same, distinct_joined, words_front, hat_tail, hats_same, joined_tail, all_scope, shorter, behind_longer, behind_on, behind_part, behind_stop, behind_path}
use Rattle.law_lists.proofs.Lists.{all_both, same_behind}

-- of a name that is known
pub record IsOfKnown (path : List ℕ) (known : List ℕ → Bool) (n : List ℕ) : Type 0 where
  pub word : List ℕ
  pub is : IsWord word
  pub there : known word ≡ true
  pub part : IsPart (path ++ word) n

-- a type of the sequence, or of a heading
abbrev pub IsPlaced : List TypedType → List Item → TypedType → Type 0
IsPlaced ss its t = IsAmong t ss ⊎ ((a : Item) × IsAmong a its × IsAmong t a.made)

-- shorter names are each of one type
abbrev pub AreUnique : List TypedType → List Item → ℕ → Type 0
AreUnique ss its l = (t s : TypedType) → IsPlaced ss its t → IsPlaced ss its s → length t.name < l → t.name ≡ s.name → t ≡ s

-- a record of that name that has no field of that name
pub record HasOwner (ss : List TypedType) (its : List Item) (o x : List ℕ) : Type 0 where
  pub of : TypedType
  pub placed : IsPlaced ss its of
  pub is : of.name ≡ o
  pub free : HasField of.desc x → ⊥

-- a name that is not known, or that of a procedure that is bound to a record
abbrev pub Stands : List ℕ → (List ℕ → Bool) → List TypedType → List Item → List ℕ → Option (List ℕ) → Type 0
Stands path known ss its x None = known x ≡ false
Stands path known ss its x (Some o) = (path ≡ []) × ((l : ℕ) → AreUnique ss its l → length o < l → HasOwner ss its o x)

pub record IsGood (path : List ℕ) (known : List ℕ → Bool) (ss : List TypedType) (its : List Item) (a : Item) : Type 0 where
  pub word : IsWord a.called
  pub parts : AllByRecursion (λ t. Behind (stem path a) a.forward t.name) a.made
  pub within : AllByRecursion (λ t. IsWithin path t.name) a.made
  pub differ : AreDistinct (λ t. t.name) a.made
  pub nested : AreNested a.made a.made
  pub stands : Stands path known ss its a.called a.owner

abbrev pub SameKey : Item → Item → Type 0
SameKey a b = (a.owner ≡ b.owner) × (a.called ≡ b.called) × (a.forward ≡ b.forward)

abbrev pub KeysDiffer : List Item → Type 0
KeysDiffer [] = Unit {0}
KeysDiffer (a ∷ its) = AllByRecursion (λ b. SameKey a b → ⊥) its × KeysDiffer its

abbrev pub made_by : List Item → List TypedType
made_by [] = []
made_by (a ∷ its) = a.made ++ made_by its

pub made_from : (js : List Item) (t : TypedType) → IsAmong t (made_by js) → (a : Item) × IsAmong a js × IsAmong t a.made
made_from [] t i = absurd i
made_from (a ∷ js) t i = by (in_either a.made (made_by js) t i) (λ j. made_from js t j)
  where
    by : IsAmong t a.made ⊎ IsAmong t (made_by js) → (IsAmong t (made_by js) → (b : Item) × IsAmong b js × IsAmong t b.made) → (b : Item) × IsAmong b (a ∷ js) × IsAmong t b.made
    by (inl j) g = (a, inl refl, j)
    by (inr j) g = let h = g j in (h.0, inr h.1, h.2)

same_item : (its : List Item) → KeysDiffer its → (a b : Item) → IsAmong a its → IsAmong b its → SameKey a b → a ≡ b
same_item [] d a b i j s = absurd i
same_item (k ∷ its) d a b (inl p) (inl q) s = p ∙ sym q
same_item (k ∷ its) d a b (inl p) (inr j) s = absurd (all_at (λ z. SameKey k z → ⊥) its d.0 b j (subst (λ z. SameKey z b) p s))
same_item (k ∷ its) d a b (inr i) (inl q) s = absurd (all_at (λ z. SameKey k z → ⊥) its d.0 a i (subst (λ z. SameKey z a) q (sym s.0, sym s.1, sym s.2)))
same_item (k ∷ its) d a b (inr i) (inr j) s = same_item its d.1 a b i j s

-- bound to a record that a heading makes
record IsUp (its : List Item) (a k : Item) : Type 0 where
  owner : List ℕ
  of : TypedType
  bound : a.owner ≡ Some owner
  is : of.name ≡ owner
  there : IsAmong k its
  makes : IsAmong of k.made
  free : HasField of.desc a.called → ⊥

-- in so many steps
abbrev Leads : List Item → ℕ → Item → Item → Type 0
Leads its zero a b = a ≡ b
Leads its (suc n) a b = (k : Item) × IsUp its a k × Leads its n k b

abbrev Reaches : List Item → Item → Item → Type 0
Reaches its a b = (n : ℕ) × Leads its n a b

step : (its : List Item) (n : ℕ) (a k b : Item) → IsUp its a k → Leads its n k b → Reaches its a b
step its n a k b u l = let more : Leads its (suc n) a b = (k, u, l) in (suc n, more)

-- a name of the sequence, that goes on, is of the same word
word_same : (path x : List ℕ) (known : List ℕ → Bool) (s n z : List ℕ) (f : Bool) → IsWord x → IsOfKnown path known s → n ≡ s ++ z → IsTail z → Behind (path ++ x) f n → known x ≡ true
word_same path x known s n z f w k e t b =
    let whole : path ++ (k.word ++ (k.part.rest ++ z)) ≡ path ++ (x ++ (hat f ++ 40 ∷ b.0)) =
    sym (append_assoc path k.word (k.part.rest ++ z)) ∙ sym (append_assoc (path ++ k.word) k.part.rest z) ∙ ap (λ y. y ++ z) (sym k.part.is) ∙ sym e ∙ behind_path path x f n b in
    let h = words_front k.word x (k.part.rest ++ z) (hat f ++ 40 ∷ b.0) k.is w (joined_tail k.part.rest z k.part.tail t) (hat_tail f b.0) (same_behind path (k.word ++ (k.part.rest ++ z)) (x ++ (hat f ++ 40 ∷ b.0)) whole) in
    ap known (sym h.0) ∙ k.there

-- what goes on behind a shorter name goes on behind the longer one's owner
hat_stop : (f : Bool) (r m q : List ℕ) → hat f ++ 40 ∷ r ≡ m ++ 46 ∷ q → (z : List ℕ) × (m ≡ hat f ++ 40 ∷ z)
hat_stop true r [] q e = let bad : ◌≡◌ {A = ℕ} 94 46 = cc in absurd (omega (arith, bad))
hat_stop true r (c ∷ []) q e = let bad : ◌≡◌ {A = ℕ} 40 46 = cc in absurd (omega (arith, bad))
hat_stop true r (c ∷ (d ∷ m)) q e = (m, cc)
hat_stop false r [] q e = let bad : ◌≡◌ {A = ℕ} 40 46 = cc in absurd (omega (arith, bad))
hat_stop false r (c ∷ m) q e = (m, cc)

inside_behind : (o x b m q : List ℕ) (f : Bool) (r : List ℕ) → IsWord x → b ≡ o ++ 46 ∷ m → x ++ (hat f ++ 40 ∷ r) ≡ m ++ 46 ∷ q → Behind (o ++ 46 ∷ x) f b
inside_behind o x b m q f r w e g =
    let h = word_front x m (hat f ++ 40 ∷ r) q 46 w refl g in
    let z = hat_stop f r h.0 q h.2 in
    (z.0, e ∙ ap (λ y. o ++ 46 ∷ y) (h.1 ∙ ap (λ y. x ++ y) z.1) ∙ sym (append_assoc o (46 ∷ x) (hat f ++ 40 ∷ z.0)))

module _ (path : List ℕ) (known : List ℕ → Bool) (ss : List TypedType) (its : List Item) (parts : AllByRecursion (λ t. IsOfKnown path known t.name) ss) (differ : AreDistinct (λ t. t.name) ss) (nested : AreNested ss ss) (goods : AllByRecursion (IsGood path known ss its) its) (keys : KeysDiffer its) where
  abbrev Free : Item → Type 0
  Free a = IsGood path known ss its a

  good : (a : Item) → IsAmong a its → Free a
  good a i = all_at (IsGood path known ss its) its goods a i

  abbrev On : Item → List ℕ → Type 0
  On a n = Behind (stem path a) a.forward n

  makes_on : (a : Item) → IsAmong a its → (t : TypedType) → IsAmong t a.made → On a t.name
  makes_on a i t j = all_at (λ t. On a t.name) a.made (good a i).parts t j

  makes_within : (a : Item) → IsAmong a its → (t : TypedType) → IsAmong t a.made → IsWithin path t.name
  makes_within a i t j = all_at (λ t. IsWithin path t.name) a.made (good a i).within t j

  seq_within : (t : TypedType) → IsAmong t ss → IsWithin path t.name
  seq_within t i =
      let k = all_at (λ t. IsOfKnown path known t.name) ss parts t i in
      record { rest = k.word ++ k.part.rest; is = k.part.is ∙ append_assoc path k.word k.part.rest; scope = all_both (λ c. (c == 47) ≡ false) k.word k.part.rest (word_scope k.word k.is) k.part.scope }

  -- behind a stop behind the name of a record with no such field
  never : (r : TypedType) (o x : List ℕ) (f : Bool) (ts : List TypedType) → AreNested ts ts → IsWord x → r.name ≡ o → IsAmong r ts → (HasField r.desc x → ⊥) → (s : TypedType) → IsAmong s ts → path ≡ [] → IsWithin path s.name → Behind (o ++ 46 ∷ x) f s.name → ⊥
  never r o x f ts nest w e i free s j p within b =
      let part : IsPart (r.name ++ 46 ∷ x) s.name = subst (λ o. IsPart (o ++ 46 ∷ x) s.name) (sym e) (behind_part o x f s.name b (all_scope path s.name p within)) in
      free (all_at (IsBehind r) ts (all_at (λ t. AllByRecursion (IsBehind t) ts) ts nest r i) s j x w part)

  -- what goes on behind a heading that makes a type whose name goes on
  further : (k : Item) → IsAmong k its → (r : TypedType) → IsAmong r k.made → (o x : List ℕ) → r.name ≡ o → (f : Bool) (n : List ℕ) → Behind (o ++ 46 ∷ x) f n → On k n
  further k i r j o x e f n b = behind_on (stem path k) k.forward r.name (46 ∷ (x ++ (hat f ++ 40 ∷ b.0))) n (makes_on k i r j) (behind_stop o x f n b ∙ ap (λ y. y ++ 46 ∷ (x ++ (hat f ++ 40 ∷ b.0))) (sym e))

  owner_longer : (k : Item) → IsAmong k its → (r : TypedType) → IsAmong r k.made → (o x : List ℕ) → r.name ≡ o → length (stem path k) < length (o ++ 46 ∷ x)
  owner_longer k i r j o x e =
      let a = behind_longer (stem path k) k.forward r.name (makes_on k i r j) in
      let b = ap length e in
      let c = length-append o (46 ∷ x) in
      omega (arith, a, b, c)

  -- ---- no type of the sequence is of a heading

  no_seq : (d : ℕ) (a : Item) → IsAmong a its → length (stem path a) < d → (s : TypedType) → IsAmong s ss → AreUnique ss its (length s.name) → On a s.name → ⊥
  no_seq zero a i less s j u b = absurd (omega (arith, less))
  no_seq (suc d) a i less s j u b = by a.owner (good a i).stands b less (λ k h l e. no_seq d k h l s j u e)
    where
      by : (o : Option (List ℕ)) → Stands path known ss its a.called o → Behind (stem_by path o a.called) a.forward s.name → length (stem_by path o a.called) < suc d → ((k : Item) → IsAmong k its → length (stem path k) < d → On k s.name → ⊥) → ⊥
      by None h b l g =
          let bad : true ≡ false = sym (word_same path a.called known s.name s.name [] a.forward (good a i).word (all_at (λ t. IsOfKnown path known t.name) ss parts s j) (sym (append-nil s.name)) tt b) ∙ h in
          absurd cc
      by (Some o) h b l g =
          let w = h.1 (length s.name) u (shorter o s.name (a.called ++ (hat a.forward ++ 40 ∷ b.0)) 46 (behind_stop o a.called a.forward s.name b)) in
          at w w.placed
        where
          at : (w : HasOwner ss its o a.called) → IsPlaced ss its w.of → ⊥
          at w (inl m) = never w.of o a.called a.forward ss nested (good a i).word w.is m w.free s j h.0 (seq_within s j) b
          at w (inr m) = g m.0 m.1 (let c = owner_longer m.0 m.1 w.of m.2 o a.called w.is in omega (arith, c, l)) (further m.0 m.1 w.of m.2 o a.called w.is a.forward s.name b)

  -- ---- a type of a heading that goes on behind one that leads to it is its own

  only_one : (n : ℕ) (a b : Item) → Leads its n a b → IsAmong a its → IsAmong b its → (s : TypedType) → IsAmong s b.made → On a s.name → a ≡ b
  only_one zero a b l i j s m e = l
  only_one (suc n) a b l i j s m e =
      let k = l.0 in
      let up = l.1 in
      let e' : Behind (up.owner ++ 46 ∷ a.called) a.forward s.name = subst (λ o. Behind (stem_by path o a.called) a.forward s.name) up.bound e in
      let same : k ≡ b = only_one n k b l.2 up.there j s m (further k up.there up.of up.makes up.owner a.called up.is a.forward s.name e') in
      let st : Stands path known ss its a.called (Some up.owner) = subst (Stands path known ss its a.called) up.bound (good a i).stands in
      absurd (never up.of up.owner a.called a.forward b.made (good b j).nested (good a i).word up.is (subst (λ (x : Item). IsAmong up.of x.made) same up.makes) up.free s m st.0 (makes_within b j s m) e')

  -- ---- of two headings behind which a name goes on, one leads to the other

  abbrev Either : Item → Item → Type 0
  Either a b = Reaches its a b ⊎ Reaches its b a

  swapped : (a b : Item) → Either a b → Either b a
  swapped a b (inl h) = inr h
  swapped a b (inr h) = inl h

  one_up : (b k : Item) (o : List ℕ) → b.owner ≡ Some o → (w : HasOwner ss its o b.called) → IsAmong k its → IsAmong w.of k.made → IsUp its b k
  one_up b k o e w i j = record { owner = o; of = w.of; bound = e; is = w.is; there = i; makes = j; free = w.free }

  module _ (n : List ℕ) (u : AreUnique ss its (length n)) where
    owned : (b : Item) → IsAmong b its → (o : List ℕ) → b.owner ≡ Some o → Behind (o ++ 46 ∷ b.called) b.forward n → HasOwner ss its o b.called
    owned b j o e h =
        let st : Stands path known ss its b.called (Some o) = subst (Stands path known ss its b.called) e (good b j).stands in
        st.1 (length n) u (shorter o n (b.called ++ (hat b.forward ++ 40 ∷ h.0)) 46 (behind_stop o b.called b.forward n h))

    plain_bound : (a b : Item) → IsAmong a its → IsAmong b its → a.owner ≡ None → (o : List ℕ) → b.owner ≡ Some o → Behind (path ++ a.called) a.forward n → Behind (o ++ 46 ∷ b.called) b.forward n →
        ((k : Item) → IsAmong k its → length (stem path k) < length (o ++ 46 ∷ b.called) → On k n → Either a k) → Reaches its b a
    plain_bound a b i j p o q e h g = at (owned b j o q h) (owned b j o q h).placed
      where
        other : (w : HasOwner ss its o b.called) (k : Item) → IsAmong k its → IsAmong w.of k.made → Either a k → Reaches its b a
        other w k x y (inl (zero, l)) = step its 0 b k a (one_up b k o q w x y) (sym l)
        other w k x y (inl (suc m, l)) = let bad : None ≡ Some l.1.owner = sym p ∙ l.1.bound in absurd cc
        other w k x y (inr l) = step its l.0 b k a (one_up b k o q w x y) l.1

        at : (w : HasOwner ss its o b.called) → IsPlaced ss its w.of → Reaches its b a
        at w (inl m) =
            let st : Stands path known ss its a.called None = subst (Stands path known ss its a.called) p (good a i).stands in
            let known' = word_same path a.called known w.of.name n (46 ∷ (b.called ++ (hat b.forward ++ 40 ∷ h.0))) a.forward (good a i).word (all_at (λ t. IsOfKnown path known t.name) ss parts w.of m) (behind_stop o b.called b.forward n h ∙ ap (λ y. y ++ 46 ∷ (b.called ++ (hat b.forward ++ 40 ∷ h.0))) (sym w.is)) refl e in
            let bad : true ≡ false = sym known' ∙ st in
            absurd cc
        at w (inr m) = other w m.0 m.1 m.2 (g m.0 m.1 (owner_longer m.0 m.1 w.of m.2 o b.called w.is) (further m.0 m.1 w.of m.2 o b.called w.is b.forward n h))

    -- the longer one's owner goes on behind the shorter one
    bound_over : (a b : Item) → IsAmong a its → IsAmong b its → (o : List ℕ) → b.owner ≡ Some o → Behind (o ++ 46 ∷ b.called) b.forward n → On a o →
        ((k : Item) → IsAmong k its → length (stem path k) < length (o ++ 46 ∷ b.called) → On k n → Either a k) → Reaches its b a
    bound_over a b i j o q h on g = at (owned b j o q h) (owned b j o q h).placed
      where
        on_it : (w : HasOwner ss its o b.called) → On a w.of.name
        on_it w = subst (λ x. On a x) (sym w.is) on

        other : (w : HasOwner ss its o b.called) (k : Item) → IsAmong k its → IsAmong w.of k.made → Either a k → Reaches its b a
        other w k x y (inl l) = step its 0 b k a (one_up b k o q w x y) (sym (only_one l.0 a k l.1 i x w.of y (on_it w)))
        other w k x y (inr l) = step its l.0 b k a (one_up b k o q w x y) l.1

        at : (w : HasOwner ss its o b.called) → IsPlaced ss its w.of → Reaches its b a
        at w (inl m) =
            let less = shorter o n (b.called ++ (hat b.forward ++ 40 ∷ h.0)) 46 (behind_stop o b.called b.forward n h) in
            let long = ap length w.is in
            absurd (no_seq (suc (length (stem path a))) a i (omega arith) w.of m (λ t s x y l e. u t s x y (omega (arith, l, less, long)) e) (on_it w))
        at w (inr m) = other w m.0 m.1 m.2 (g m.0 m.1 (owner_longer m.0 m.1 w.of m.2 o b.called w.is) (further m.0 m.1 w.of m.2 o b.called w.is b.forward n h))

    same_names : (a b : Item) → IsAmong a its → IsAmong b its → a.owner ≡ b.owner → (r q : List ℕ) → a.called ++ (hat a.forward ++ 40 ∷ r) ≡ b.called ++ (hat b.forward ++ 40 ∷ q) → a ≡ b
    same_names a b i j e r q same =
        let h = words_front a.called b.called (hat a.forward ++ 40 ∷ r) (hat b.forward ++ 40 ∷ q) (good a i).word (good b j).word (hat_tail a.forward r) (hat_tail b.forward q) same in
        same_item its keys a b i j (e, h.0, hats_same a.forward b.forward r q h.1)

    both_bound : (a b : Item) → IsAmong a its → IsAmong b its → (o p : List ℕ) → a.owner ≡ Some o → b.owner ≡ Some p → (x : Behind (o ++ 46 ∷ a.called) a.forward n) (y : Behind (p ++ 46 ∷ b.called) b.forward n) →
        ((k : Item) → IsAmong k its → length (stem path k) < length (p ++ 46 ∷ b.called) → On k n → Either a k) → ((k : Item) → IsAmong k its → length (stem path k) < length (o ++ 46 ∷ a.called) → On k n → Either b k) → Either a b
    both_bound a b i j o p e f x y g h = by (meets o p 46 46 r q (sym (behind_stop o a.called a.forward n x) ∙ behind_stop p b.called b.forward n y))
      where
        r : List ℕ
        r = a.called ++ (hat a.forward ++ 40 ∷ x.0)

        q : List ℕ
        q = b.called ++ (hat b.forward ++ 40 ∷ y.0)

        by : Meeting o p 46 46 r q → Either a b
        by (inl m) = inl (0, same_names a b i j (e ∙ ap (λ z. Some z) m.0 ∙ sym f) x.0 y.0 m.2)
        by (inr (inl m)) = inr (bound_over a b i j p f y (subst (λ z. Behind (stem_by path z a.called) a.forward p) (sym e) (inside_behind o a.called p m.0 q a.forward x.0 (good a i).word m.1 m.2)) g)
        by (inr (inr m)) = inl (bound_over b a j i o e x (subst (λ z. Behind (stem_by path z b.called) b.forward o) (sym f) (inside_behind p b.called o m.0 r b.forward y.0 (good b j).word m.1 m.2)) h)

    meet : (d : ℕ) (a b : Item) → IsAmong a its → IsAmong b its → length (stem path a) + length (stem path b) < d → On a n → On b n → Either a b
    meet zero a b i j less x y = absurd (omega (arith, less))
    meet (suc d) a b i j less x y = by a.owner b.owner refl refl x y less (λ k h l e. meet d a k i h l x e) (λ k h l e. meet d b k j h l y e)
      where
        by : (o p : Option (List ℕ)) → a.owner ≡ o → b.owner ≡ p → Behind (stem_by path o a.called) a.forward n → Behind (stem_by path p b.called) b.forward n → length (stem_by path o a.called) + length (stem_by path p b.called) < suc d →
            ((k : Item) → IsAmong k its → length (stem path a) + length (stem path k) < d → On k n → Either a k) → ((k : Item) → IsAmong k its → length (stem path b) + length (stem path k) < d → On k n → Either b k) → Either a b
        by None None e f x y l g h = inl (0, same_names a b i j (e ∙ sym f) x.0 y.0 (same_behind path _ _ (sym (behind_path path a.called a.forward n x) ∙ behind_path path b.called b.forward n y)))
        by None (Some p) e f x y l g h = inr (plain_bound a b i j e p f x y (λ k m s on. g k m (let c = ap (λ o. length (stem_by path o a.called)) e in omega (arith, s, l, c)) on))
        by (Some o) None e f x y l g h = inl (plain_bound b a j i f o e y x (λ k m s on. h k m (let c = ap (λ o. length (stem_by path o b.called)) f in omega (arith, s, l, c)) on))
        by (Some o) (Some p) e f x y l g h =
            both_bound a b i j o p e f x y (λ k m s on. g k m (let c = ap (λ o. length (stem_by path o a.called)) e in omega (arith, s, l, c)) on)
            (λ k m s on. h k m (let c = ap (λ o. length (stem_by path o b.called)) f in omega (arith, s, l, c)) on)

  -- ---- a name is of one type

  of_one : (a b : Item) → IsAmong a its → IsAmong b its → (t s : TypedType) → IsAmong t a.made → IsAmong s b.made → t.name ≡ s.name → AreUnique ss its (length t.name) → a ≡ b
  of_one a b i j t s p q e u =
      let x = makes_on a i t p in
      let y = makes_on b j s q in
      by (meet t.name u (suc (length (stem path a) + length (stem path b))) a b i j (omega arith) x (subst (λ n. On b n) (sym e) y)) x y
    where
      by : Either a b → On a t.name → On b s.name → a ≡ b
      by (inl l) x y = only_one l.0 a b l.1 i j s q (subst (λ n. On a n) e x)
      by (inr l) x y = sym (only_one l.0 b a l.1 j i t p (subst (λ n. On b n) (sym e) y))

  not_both : (a : Item) → IsAmong a its → (t s : TypedType) → IsAmong t ss → IsAmong s a.made → t.name ≡ s.name → AreUnique ss its (length t.name) → ⊥
  not_both a i t s p q e u = no_seq (suc (length (stem path a))) a i (omega arith) t p u (subst (λ n. On a n) (sym e) (makes_on a i s q))

  unique : (l : ℕ) → AreUnique ss its l
  unique zero t s p q less e = absurd (omega (arith, less))
  unique (suc l) t s p q less e = by p q (λ x y i j k f. unique l x y i j (omega (arith, less, k)) f)
    where
      by : IsPlaced ss its t → IsPlaced ss its s → AreUnique ss its (length t.name) → t ≡ s
      by (inl i) (inl j) u = distinct_same ss differ t s i j e
      by (inl i) (inr j) u = absurd (not_both j.0 j.1 t s i j.2 e u)
      by (inr i) (inl j) u = absurd (not_both i.0 i.1 s t j i.2 (sym e) (subst (λ n. AreUnique ss its (length n)) e u))
      by (inr i) (inr j) u =
          let same = of_one i.0 j.0 i.1 j.1 t s i.2 j.2 e u in
          distinct_same j.0.made (good j.0 j.1).differ t s (subst (λ (a : Item). IsAmong t a.made) same i.2) j.2 e

  -- ---- all differ

  made_differ : (js : List Item) → ((a : Item) → IsAmong a js → IsAmong a its) → KeysDiffer js → AreDistinct (λ t. t.name) (made_by js)
  made_differ [] f d = tt
  made_differ (a ∷ js) f d = distinct_joined a.made (made_by js) (good a (f a (inl refl))).differ (made_differ js (λ b i. f b (inr i)) d.1) other
    where
      other : (t s : TypedType) → IsAmong t a.made → IsAmong s (made_by js) → s.name ≢ t.name
      other t s i j e =
          let m = made_from js s j in
          let same = of_one a m.0 (f a (inl refl)) (f m.0 (inr m.1)) t s i m.2 (sym e) (unique (length t.name)) in
          all_at (λ b. SameKey a b → ⊥) js d.0 m.0 m.1 (subst (λ b. SameKey a b) same (refl, refl, refl))

  pub all_differ : AreDistinct (λ t. t.name) (ss ++ made_by its)
  all_differ = distinct_joined ss (made_by its) differ (made_differ its (λ a i. i) keys) (λ t s i j e. let m = made_from its s j in not_both m.0 m.1 t s i m.2 (sym e) (unique (length t.name)))

  pub all_within : AllByRecursion (λ t. IsWithin path t.name) (ss ++ made_by its)
  all_within = all_both (λ t. IsWithin path t.name) ss (made_by its) (all_of (λ t. IsWithin path t.name) ss seq_within) (all_of (λ t. IsWithin path t.name) (made_by its) (λ t i. let m = made_from its t i in makes_within m.0 m.1 t m.2))
