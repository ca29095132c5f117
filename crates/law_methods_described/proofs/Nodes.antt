-- What holds of the node that is judged.
use Rattle.std.proofs.Common.{Bool, true, false, List, [], ◌∷◌, Option, Some, None}
use Rattle.ob_tree.specs.declared.pos.Pos.{Pos}
use Rattle.ob_rules.specs.declared.notes.Later.{Later}
use Rattle.ob_rules.specs.declared.broken.Rule.{Rule}
use Rattle.ob_rules.specs.declared.broken.Rule.TheVariants as rules
use Rattle.ob_rules.specs.Judged.{Judged, Notes, if_sound, paired, both, unless, also, is_quiet, if_quiet, behind_quiet, judge_later, ◌▷◌}
use Rattle.ob_rules.specs.Names.{Around}
use Rattle.ob_rules.specs.Types.{Parameters, Sections}
use Rattle.ob_rules.specs.Headings.{are_there, made_anew, anew}
use Rattle.law_lists.proofs.Lists.{IfThere}

-- the node has it, where there is one
abbrev pub Has : {A : Type 0} → (A → Type 0) → Judged A → Type 0
Has P j = IfThere P j.node

if_has : {A B : Type 0} (P : A → Type 0) (Q : B → Type 0) (o : Option A) (f : A → Judged B) → IfThere P o → ((x : A) → P x → Has Q (f x)) → Has Q (if_sound o f)
if_has P Q None f h k = tt
if_has P Q (Some x) f h k = k x h

pub then_has : {A B : Type 0} (P : A → Type 0) (Q : B → Type 0) (j : Judged A) (f : A → Judged B) → Has P j → ((x : A) → P x → Has Q (f x)) → Has Q (j ▷ f)
then_has P Q j f h k = if_has P Q j.node f h k

sure : {A : Type 0} (o : Option A) → IfThere (λ x. Unit {0}) o
sure None = tt
sure (Some x) = tt

-- whatever was judged before
pub any_then : {A B : Type 0} (Q : B → Type 0) (j : Judged A) (f : A → Judged B) → ((x : A) → Has Q (f x)) → Has Q (j ▷ f)
any_then Q j f k = if_has (λ x. Unit {0}) Q j.node f (sure j.node) (λ x h. k x)

pub paired_has : {A B : Type 0} (P : A → Type 0) (Q : B → Type 0) (a : Option A) (b : Option B) → IfThere P a → IfThere Q b → IfThere (λ (p : A × B). P p.0 × Q p.1) (paired a b)
paired_has P Q None b h k = tt
paired_has P Q (Some x) None h k = tt
paired_has P Q (Some x) (Some y) h k = (h, k)

pub both_have : {A B : Type 0} (P : A → Type 0) (Q : B → Type 0) (a : Judged A) (b : Judged B) → Has P a → Has Q b → Has (λ (p : A × B). P p.0 × Q p.1) (both a b)
both_have P Q a b h k = paired_has P Q a.node b.node h k

pub first_has : {A B : Type 0} (P : A → Type 0) (a : Judged A) (b : Judged B) → Has P a → Has (λ (p : A × B). P p.0 × Unit {0}) (both a b)
first_has P a b h = paired_has P (λ x. Unit {0}) a.node b.node h (sure b.node)

pub second_has : {A B : Type 0} (Q : B → Type 0) (a : Judged A) (b : Judged B) → Has Q b → Has (λ (p : A × B). Unit {0} × Q p.1) (both a b)
second_has Q a b h = paired_has (λ x. Unit {0}) Q a.node b.node (sure a.node) h

pub also_has : {A : Type 0} (P : A → Type 0) (b : Bool) (rule : Rule) (at : Pos) (j : Judged A) → Has P j → Has P (also b rule at j)
also_has P true rule at j h = tt
also_has P false rule at j h = h

pub unless_has : {A : Type 0} (P : A → Type 0) (b : Bool) (rule : Rule) (at : Pos) (x : A) → P x → Has P (unless b rule at x)
unless_has P true rule at x h = tt
unless_has P false rule at x h = h

pub later_has : {A : Type 0} (P : A → Type 0) (ls : List Later) (j : Judged A) → Has P j → Has P (judge_later ls j)
later_has P [] j h = h
later_has P (l ∷ ls) j h = later_has P ls j h

-- where nothing is broken before it
pub quiet_has : {A : Type 0} (P : A → Type 0) (n : Notes) (j : Judged A) → Has P j → Has P (behind_quiet n j)
quiet_has {A = A} P n j h = by (is_quiet n.broken) j.node h
  where
    by : (b : Bool) (o : Option A) → IfThere P o → IfThere P (if_quiet b o)
    by true o k = k
    by false o k = tt

-- parameters whose types no other declaration has made
pub anew_has : (P : Parameters → Type 0) (u : Around) (at : Pos) (s : Sections) → Has P s.found → Has P (anew u at s).found
anew_has P u at s h = then_has P P s.found (made_anew u at) h (λ p k. unless_has P (are_there u p.made) rules.DeclaredTwice at p k)
