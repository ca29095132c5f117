-- Sets of symbols, and inversions of reads.
use Rattle.std.proofs.Common.{◌≡◌, refl, ap, Bool, true, false, ◌||◌, ◌&&◌, cond, [], ◌∷◌, ◌++◌, ◌⊎◌, inl, inr}
use Rattle.ob_tree.specs.declared.symbol.Symbol.{Symbol}
use Rattle.ob_parse_grammar.specs.Phrase.{Tokens}
use Rattle.ob_parse_grammar.specs.Reading.{Read, Found, Fails, ◌>>=◌, Set, starts}

pub chosen : {A : Type 0} (b : Bool) (x y z : A) → cond b x y ≡ z → ((b ≡ true) × (x ≡ z)) ⊎ ((b ≡ false) × (y ≡ z))
chosen true x y z e = inl (refl, e)
chosen false x y z e = inr (refl, e)

pub bind_found : {A B : Type 0} (r : Read A) (f : A → Tokens → Read B) (y : B) (end : Tokens) → (r >>= f) ≡ Found y end → (x : A) × (mid : Tokens) × (r ≡ Found x mid) × (f x mid ≡ Found y end)
bind_found (Found x mid) f y end e = (x, mid, refl, e)
bind_found (Fails k mid) f y end e = let no : ⊥ = cc in absurd no

pub found_value : {A : Type 0} (x y : A) (a b : Tokens) → Found x a ≡ Found y b → x ≡ y
found_value x y a b e = cc

pub found_rest : {A : Type 0} (x y : A) (a b : Tokens) → Found x a ≡ Found y b → a ≡ b
found_rest x y a b e = cc

pub record Apart (m g : Set) : Type 0 where
  pub at : (s : Symbol) → (m s && g s) ≡ false

or_true : (a b : Bool) → a ≡ true → (a || b) ≡ true
or_true true b e = refl
or_true false b e = let no : ⊥ = cc in absurd no

or_right : (a b : Bool) → b ≡ true → (a || b) ≡ true
or_right true b e = refl
or_right false b e = e

and_true : (a b : Bool) → a ≡ true → b ≡ true → (a && b) ≡ true
and_true true b e h = h
and_true false b e h = e

or_false_left : (a b : Bool) → (a || b) ≡ false → a ≡ false
or_false_left true b e = e
or_false_left false b e = refl

or_false_right : (a b : Bool) → (a || b) ≡ false → b ≡ false
or_false_right true b e = let no : ⊥ = cc in absurd no
or_false_right false b e = e

and_right_false : (a b : Bool) → (a && b) ≡ false → b ≡ true → a ≡ false
and_right_false true b e h = let no : ⊥ = cc in absurd no
and_right_false false b e h = refl

and_left_false : (a b : Bool) → (a && b) ≡ false → a ≡ true → b ≡ false
and_left_false true b e h = e
and_left_false false b e h = let no : ⊥ = cc in absurd no

pub false_not_true : (b : Bool) → b ≡ false → b ≡ true → ⊥
false_not_true b e h = cc

-- what is behind a front that starts with a token of the set
pub starts_more : (f : Set) (a r : Tokens) → starts f a ≡ true → starts f (a ++ r) ≡ true
starts_more f [] r h = let no : ⊥ = cc in absurd no
starts_more f (t ∷ a) r h = h

pub apart_starts : (m g : Set) → Apart m g → (a r : Tokens) → starts g a ≡ true → starts m (a ++ r) ≡ false
apart_starts m g ap [] r h = let no : ⊥ = cc in absurd no
apart_starts m g apart (t ∷ a) r h = and_right_false _ _ (apart.at t.symbol) h

pub stops_left : (n m : Set) (r : Tokens) → starts (λ t. n t || m t) r ≡ false → starts n r ≡ false
stops_left n m [] h = refl
stops_left n m (t ∷ r) h = or_false_left _ _ h

pub stops_right : (n m : Set) (r : Tokens) → starts (λ t. n t || m t) r ≡ false → starts m r ≡ false
stops_right n m [] h = refl
stops_right n m (t ∷ r) h = or_false_right _ _ h

pub stops_when : (k : Bool) (m : Set) (r : Tokens) → starts (λ t. k && m t) r ≡ false → k ≡ true → starts m r ≡ false
stops_when k m [] h e = refl
stops_when k m (t ∷ r) h e = and_left_false _ _ h e

pub starts_left : (n m : Set) (r : Tokens) → starts n r ≡ true → starts (λ t. n t || m t) r ≡ true
starts_left n m [] h = h
starts_left n m (t ∷ r) h = or_true _ _ h

pub starts_right : (n m : Set) (r : Tokens) → starts m r ≡ true → starts (λ t. n t || m t) r ≡ true
starts_right n m [] h = h
starts_right n m (t ∷ r) h = or_right _ _ h

pub starts_when : (k : Bool) (m : Set) (r : Tokens) → k ≡ true → starts m r ≡ true → starts (λ t. k && m t) r ≡ true
starts_when k m [] e h = h
starts_when k m (t ∷ r) e h = and_true _ _ e h

-- a front is empty, where it may be, or starts so
abbrev pub Begins : Set → Bool → Tokens → Type 0
Begins f e a = ((a ≡ []) × (e ≡ true)) ⊎ (starts f a ≡ true)
