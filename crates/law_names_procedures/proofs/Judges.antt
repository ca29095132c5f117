-- What is judged and breaks no rule has a node.
use Rattle.std.proofs.Common.{◌≡◌, Bool, true, false, List, [], ◌∷◌, Option, Some, None}
use Rattle.std.specs.List.{AllByRecursion}
use Rattle.ob_tree.specs.declared.pos.Pos.{Pos}
use Rattle.ob_rules.specs.declared.notes.Later.{Later}
use Rattle.ob_rules.specs.declared.broken.Rule.{Rule}
use Rattle.ob_rules.specs.Judged.{Judged, sound, breaks, if_sound, paired, both, made, each_sound, unless, wants, also, judge_later, ◌▷◌}
use Rattle.law_lists.proofs.Lists.{Anything, back_empty, front_empty}

-- there is one, and it has the property
abbrev pub Has : {A : Type 0} → (A → Type 0) → Option A → Type 0
Has P None = ⊥
Has P (Some x) = P x

-- where nothing is broken there is a node with the property
abbrev pub Speaks : {A : Type 0} → (A → Type 0) → Judged A → Type 0
Speaks P j = j.notes.broken ≡ [] → Has P j.node

pub not_empty : {A C : Type 0} (x : A) (xs : List A) → x ∷ xs ≡ [] → C
not_empty x xs e = absurd cc

pub has_more : {A : Type 0} (P Q : A → Type 0) (o : Option A) → ((x : A) → P x → Q x) → Has P o → Has Q o
has_more P Q None f h = absurd h
has_more P Q (Some x) f h = f x h

pub speaks_more : {A : Type 0} (P Q : A → Type 0) (j : Judged A) → ((x : A) → P x → Q x) → Speaks P j → Speaks Q j
speaks_more P Q j f h = λ e. has_more P Q j.node f (h e)

pub sound_speaks : {A : Type 0} (P : A → Type 0) (x : A) → P x → Speaks P (sound x)
sound_speaks P x h = λ e. h

pub breaks_speaks : {A : Type 0} (P : A → Type 0) (rule : Rule) (at : Pos) → Speaks P (breaks rule at)
breaks_speaks P rule at = λ e. not_empty _ [] e

if_speaks : {A B : Type 0} (P : A → Type 0) (Q : B → Type 0) (o : Option A) (f : A → Judged B) → Has P o → ((x : A) → P x → Speaks Q (f x)) → Speaks Q (if_sound o f)
if_speaks P Q None f h k = absurd h
if_speaks P Q (Some x) f h k = k x h

pub then_speaks : {A B : Type 0} (P : A → Type 0) (Q : B → Type 0) (j : Judged A) (f : A → Judged B) → Speaks P j → ((x : A) → P x → Speaks Q (f x)) → Speaks Q (j ▷ f)
then_speaks P Q j f h k = λ e. if_speaks P Q j.node f (h (front_empty j.notes.broken (if_sound j.node f).notes.broken e)) k (back_empty j.notes.broken (if_sound j.node f).notes.broken e)

pub paired_has : {A B : Type 0} (P : A → Type 0) (Q : B → Type 0) (a : Option A) (b : Option B) → Has P a → Has Q b → Has (λ (p : A × B). P p.0 × Q p.1) (paired a b)
paired_has P Q None b h k = absurd h
paired_has P Q (Some x) None h k = absurd k
paired_has P Q (Some x) (Some y) h k = (h, k)

pub both_speak : {A B : Type 0} (P : A → Type 0) (Q : B → Type 0) (a : Judged A) (b : Judged B) → Speaks P a → Speaks Q b → Speaks (λ (p : A × B). P p.0 × Q p.1) (both a b)
both_speak P Q a b h k = λ e. paired_has P Q a.node b.node (h (front_empty a.notes.broken b.notes.broken e)) (k (back_empty a.notes.broken b.notes.broken e))

-- the second speaks where the first has a node
pub both_after : {A B : Type 0} (P : A → Type 0) (Q : B → Type 0) (a : Judged A) (b : Judged B) → Speaks P a → (Has P a.node → Speaks Q b) → Speaks (λ (p : A × B). P p.0 × Q p.1) (both a b)
both_after P Q a b h k = λ e.
    let x = h (front_empty a.notes.broken b.notes.broken e) in
    paired_has P Q a.node b.node x (k x (back_empty a.notes.broken b.notes.broken e))

pub made_speaks : {A B : Type 0} (P : A → Type 0) (Q : B → Type 0) (f : A → B) (j : Judged A) → Speaks P j → ((x : A) → P x → Q (f x)) → Speaks Q (made f j)
made_speaks P Q f j h k = then_speaks P Q j (λ x. sound (f x)) h (λ x p. λ e. k x p)

pub each_speaks : {A : Type 0} (js : List (Judged A)) → AllByRecursion (Speaks Anything) js → Speaks Anything (each_sound js)
each_speaks [] h = λ e. tt
each_speaks (j ∷ js) h = made_speaks (λ p. Unit {0} × Unit {0}) Anything (λ p. p.0 ∷ p.1) (both j (each_sound js)) (both_speak Anything Anything j (each_sound js) h.0 (each_speaks js h.1)) (λ x p. tt)

pub unless_speaks : {A : Type 0} (P : A → Type 0) (b : Bool) (rule : Rule) (at : Pos) (x : A) → P x → Speaks P (unless b rule at x)
unless_speaks P true rule at x h = breaks_speaks P rule at
unless_speaks P false rule at x h = λ e. h

pub wants_speaks : {A : Type 0} (P : A → Type 0) (b : Bool) (rule : Rule) (at : Pos) (x : A) → P x → Speaks P (wants b rule at x)
wants_speaks P true rule at x h = λ e. h
wants_speaks P false rule at x h = breaks_speaks P rule at

pub also_speaks : {A : Type 0} (P : A → Type 0) (b : Bool) (rule : Rule) (at : Pos) (j : Judged A) → Speaks P j → Speaks P (also b rule at j)
also_speaks P true rule at j h = λ e. not_empty _ j.notes.broken e
also_speaks P false rule at j h = h

pub later_speaks : {A : Type 0} (P : A → Type 0) (ls : List Later) (j : Judged A) → Speaks P j → Speaks P (judge_later ls j)
later_speaks P [] j h = h
later_speaks P (l ∷ ls) j h = later_speaks P ls j h
