-- The settings that words say keep their limits.
use Rattle.std.proofs.Common.{◌≡◌, ℕ, ◌≤◌, List, [], ◌∷◌, Bool, true, false, cond, refl, ap, subst, arith, Option, Some, None}
use Rattle.std.specs.Prelude.{nat_le, ◌&&◌, codes}
use Rattle.std.proofs.lemmas.Bool.{false≢true, leb-true, and_parts}
use Rattle.clap.specs.Words.{Row, Text, Kinds, first_of, fault_of, matches_of}
use Rattle.ob_words.specs.declared.asked.Settings.{Settings}
use Rattle.ob_words.specs.Numbers.{is_number, value_from, up_to, number_of}
use Rattle.ob_words.specs.Settings.{oberon, number_or, chosen, taken, settings_of}
use Rattle.ob_builds.specs.Simulated.{AreSettings}

abbrev or_zero : Option ℕ → ℕ
or_zero None = 0
or_zero (Some n) = n

abbrev is_some : {A : Type 0} → Option A → Bool
is_some None = false
is_some (Some x) = true

none_no : {A : Type 0} (x : A) → None ≡ Some x → ⊥
none_no x e = false≢true (ap is_some e)

abbrev InLimits : ℕ → ℕ → Type 0
InLimits most n = (1 ≤ n) × (n ≤ most)

up_to_in : (most n k : ℕ) → up_to most n ≡ Some k → InLimits most k
up_to_in most n k e = go (nat_le 1 n && nat_le n most) refl e
  where
    go : (b : Bool) → (nat_le 1 n && nat_le n most) ≡ b → cond b (Some n) None ≡ Some k → InLimits most k
    go true i h =
        let p = and_parts (nat_le 1 n) (nat_le n most) i in
        subst (InLimits most) (ap or_zero h) (leb-true 1 n p.0, leb-true n most p.1)
    go false i h = absurd (none_no k h)

number_in : (most : ℕ) (text : List ℕ) (k : ℕ) → number_of most text ≡ Some k → InLimits most k
number_in most text k e = go (is_number text) e
  where
    go : (b : Bool) → cond b (up_to most (value_from 0 text)) None ≡ Some k → InLimits most k
    go true h = up_to_in most (value_from 0 text) k h
    go false h = absurd (none_no k h)

or_in : (usual most : ℕ) → InLimits most usual → (o : Option Text) (k : ℕ) → number_or usual most o ≡ Some k → InLimits most k
or_in usual most h None k e = subst (InLimits most) (ap or_zero e) h
or_in usual most h (Some text) k e = number_in most text k e

abbrev settings_or : Settings → Option Settings → Settings
settings_or d None = d
settings_or d (Some s) = s

abbrev settings : ℕ → ℕ → Settings
settings turns heap = record { turns = turns; heap = heap }

chosen_limits : (t h : Option ℕ) → ((k : ℕ) → t ≡ Some k → InLimits 1000000000 k) → ((k : ℕ) → h ≡ Some k → InLimits 4194304 k) → (s : Settings) → chosen t h ≡ Some s → AreSettings s
chosen_limits (Some t) (Some h) a b s e =
    let x = a t refl in
    let y = b h refl in
    subst AreSettings (ap (settings_or (settings t h)) e) (record { some_turns = x.0; most_turns = x.1; some_heap = y.0; most_heap = y.1 })
chosen_limits (Some t) None a b s e = absurd (none_no s e)
chosen_limits None (Some h) a b s e = absurd (none_no s e)
chosen_limits None None a b s e = absurd (none_no s e)

taken_in : (k : Kinds) (rows : List Row) (s : Settings) → taken k rows ≡ Some s → AreSettings s
taken_in [] rows s e =
    chosen_limits (number_or 10000000 1000000000 (first_of (codes "turns") rows)) (number_or 1048576 4194304 (first_of (codes "heap") rows))
    (λ k i. or_in 10000000 1000000000 (omega arith, omega arith) (first_of (codes "turns") rows) k i)
    (λ k i. or_in 1048576 4194304 (omega arith, omega arith) (first_of (codes "heap") rows) k i)
    s e
taken_in (k ∷ ks) rows s e = absurd (none_no s e)

pub settings_in : (words : List Text) (s : Settings) → settings_of words ≡ Some s → AreSettings s
unfolding settings_of
settings_in words s e = taken_in (fault_of oberon words) (matches_of oberon words) s e
