-- Judged parts, by what holds of their nodes.
use Rattle.std.proofs.Common.{◌≡◌, refl, List, [], ◌∷◌, Option, Some, None, Bool, true, false}
use Rattle.ob_tree.specs.declared.pos.Pos.{Pos}
use Rattle.std.specs.Prelude.{ℕ}
use Rattle.ob_rules.specs.declared.broken.Rule.{Rule}
use Rattle.ob_rules.specs.Judged.{Judged, Notes, sound, silent, breaks, noted, if_sound, paired, both, made, wants, also, unless, found_or, each_sound, ◌▷◌}
use Rattle.law_typing.specs.Makes.{IfThere, Makes}

pub makes_sound : {A : Type 0} (P : A → Type 0) (x : A) → P x → Makes P (sound x)
makes_sound P x h = record { node = h }

pub makes_silent : {A : Type 0} (P : A → Type 0) → Makes P silent
makes_silent P = record { node = tt }

pub makes_breaks : {A : Type 0} (P : A → Type 0) (rule : Rule) (at : Pos) → Makes P (breaks rule at)
makes_breaks P rule at = record { node = tt }

pub makes_noted : {A : Type 0} (P : A → Type 0) (n : Notes) (j : Judged A) → Makes P j → Makes P (noted n j)
makes_noted P n j h = record { node = h.node }

then_there : {A B : Type 0} (P : A → Type 0) (Q : B → Type 0) (f : A → Judged B) (o : Option A) → IfThere P o → ((x : A) → P x → Makes Q (f x)) → IfThere Q (if_sound o f).node
then_there P Q f None h k = tt
then_there P Q f (Some x) h k = (k x h).node

pub makes_then : {A B : Type 0} (P : A → Type 0) (Q : B → Type 0) (j : Judged A) (f : A → Judged B) → Makes P j → ((x : A) → P x → Makes Q (f x)) → Makes Q (j ▷ f)
makes_then P Q j f h k = record { node = then_there P Q f j.node h.node k }

pub makes_made : {A B : Type 0} (P : A → Type 0) (Q : B → Type 0) (j : Judged A) (f : A → B) → Makes P j → ((x : A) → P x → Q (f x)) → Makes Q (made f j)
makes_made P Q j f h k = makes_then P Q j (λ x. sound (f x)) h (λ x p. makes_sound Q (f x) (k x p))

paired_there : {A B : Type 0} (P : A → Type 0) (Q : B → Type 0) (a : Option A) (b : Option B) → IfThere P a → IfThere Q b → IfThere (λ p. P p.0 × Q p.1) (paired a b)
paired_there P Q None b h k = tt
paired_there P Q (Some x) None h k = tt
paired_there P Q (Some x) (Some y) h k = (h, k)

pub makes_both : {A B : Type 0} (P : A → Type 0) (Q : B → Type 0) (a : Judged A) (b : Judged B) → Makes P a → Makes Q b → Makes (λ p. P p.0 × Q p.1) (both a b)
makes_both P Q a b h k = record { node = paired_there P Q a.node b.node h.node k.node }

pub makes_wants : {A : Type 0} (P : A → Type 0) (b : Bool) (rule : Rule) (at : Pos) (x : A) → (b ≡ true → P x) → Makes P (wants b rule at x)
makes_wants P true rule at x h = record { node = h refl }
makes_wants P false rule at x h = record { node = tt }

pub makes_also : {A : Type 0} (P : A → Type 0) (b : Bool) (rule : Rule) (at : Pos) (j : Judged A) → (b ≡ false → Makes P j) → Makes P (also b rule at j)
makes_also P true rule at j h = record { node = tt }
makes_also P false rule at j h = h refl

pub makes_unless : {A : Type 0} (P : A → Type 0) (b : Bool) (rule : Rule) (at : Pos) (x : A) → (b ≡ false → P x) → Makes P (unless b rule at x)
makes_unless P true rule at x h = record { node = tt }
makes_unless P false rule at x h = record { node = h refl }

pub makes_found : {A : Type 0} (P : A → Type 0) (rule : Rule) (at : Pos) (o : Option A) → IfThere P o → Makes P (found_or rule at o)
makes_found P rule at None h = record { node = tt }
makes_found P rule at (Some x) h = record { node = h }

-- parts in a row
abbrev pub Each : {A : Type 0} → (A → Type 0) → List A → Type 0
Each P [] = Unit {0}
Each P (x ∷ xs) = P x × Each P xs

pub makes_each : {A : Type 0} (P : A → Type 0) (js : List (Judged A)) → Each (Makes P) js → Makes (Each P) (each_sound js)
makes_each P [] h = record { node = tt }
makes_each P (j ∷ js) h = makes_made (λ p. P p.0 × Each P p.1) (Each P) (both j (each_sound js)) (λ p. p.0 ∷ p.1) (makes_both P (Each P) j (each_sound js) h.0 (makes_each P js h.1)) (λ x k. k)
