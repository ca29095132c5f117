-- What holds of what is judged, where nothing is broken in it.
use Rattle.ob_rules.specs.declared.broken.Rule.TheVariants as rules
use Rattle.ob_rules.specs.Names.{Around}
use Rattle.ob_rules.specs.Headings.{are_there, made_anew, anew}
use Rattle.ob_rules.specs.Types.{Parameters, Sections}
use Rattle.std.proofs.Common.{◌≡◌, Bool, true, false, List, [], ◌∷◌, Option, Some, None}
use Rattle.ob_tree.specs.declared.pos.Pos.{Pos}
use Rattle.ob_rules.specs.declared.notes.Later.{Later}
use Rattle.ob_rules.specs.declared.broken.Broken.{Broken}
use Rattle.ob_rules.specs.declared.broken.Rule.{Rule}
use Rattle.ob_rules.specs.Judged.{Judged, Notes, sound, if_sound, paired, both, made, unless, also, judge_later, ◌▷◌}
use Rattle.law_lists.proofs.Lists.{Anything, IfThere, back_empty, front_empty}

abbrev pub Quiet : {A : Type 0} → (A → Type 0) → Judged A → Type 0
Quiet P j = j.notes.broken ≡ [] → IfThere P j.node

any_there : {A : Type 0} (o : Option A) → IfThere Anything o
any_there None = tt
any_there (Some x) = tt

pub any_quiet : {A : Type 0} (j : Judged A) → Quiet Anything j
any_quiet j = λ e. any_there j.node

pub there_more : {A : Type 0} (P Q : A → Type 0) (o : Option A) → ((x : A) → P x → Q x) → IfThere P o → IfThere Q o
there_more P Q None f h = tt
there_more P Q (Some x) f h = f x h

if_quiet : {A B : Type 0} (P : A → Type 0) (Q : B → Type 0) (o : Option A) (f : A → Judged B) → IfThere P o → ((x : A) → P x → Quiet Q (f x)) → Quiet Q (if_sound o f)
if_quiet P Q None f h k = λ e. tt
if_quiet P Q (Some x) f h k = k x h

pub then_quiet : {A B : Type 0} (P : A → Type 0) (Q : B → Type 0) (j : Judged A) (f : A → Judged B) → Quiet P j → ((x : A) → P x → Quiet Q (f x)) → Quiet Q (j ▷ f)
then_quiet P Q j f h k = λ e. if_quiet P Q j.node f (h (front_empty j.notes.broken (if_sound j.node f).notes.broken e)) k (back_empty j.notes.broken (if_sound j.node f).notes.broken e)

-- what was judged first is quiet where all is
pub first_quiet : {A B : Type 0} (j : Judged A) (f : A → Judged B) → (j ▷ f).notes.broken ≡ [] → j.notes.broken ≡ []
first_quiet j f e = front_empty j.notes.broken (if_sound j.node f).notes.broken e

paired_there : {A B : Type 0} (P : A → Type 0) (Q : B → Type 0) (a : Option A) (b : Option B) → IfThere P a → IfThere Q b → IfThere (λ (p : A × B). P p.0 × Q p.1) (paired a b)
paired_there P Q None b h k = tt
paired_there P Q (Some x) None h k = tt
paired_there P Q (Some x) (Some y) h k = (h, k)

pub both_quiet : {A B : Type 0} (P : A → Type 0) (Q : B → Type 0) (a : Judged A) (b : Judged B) → Quiet P a → Quiet Q b → Quiet (λ (p : A × B). P p.0 × Q p.1) (both a b)
both_quiet P Q a b h k = λ e. paired_there P Q a.node b.node (h (front_empty a.notes.broken b.notes.broken e)) (k (back_empty a.notes.broken b.notes.broken e))

pub unless_quiet : {A : Type 0} (P : A → Type 0) (b : Bool) (rule : Rule) (at : Pos) (x : A) → P x → Quiet P (unless b rule at x)
unless_quiet P true rule at x h = λ e. tt
unless_quiet P false rule at x h = λ e. h

pub also_quiet : {A : Type 0} (P : A → Type 0) (b : Bool) (rule : Rule) (at : Pos) (j : Judged A) → Quiet P j → Quiet P (also b rule at j)
also_quiet P true rule at j h = λ e. tt
also_quiet P false rule at j h = h

pub later_quiet : {A : Type 0} (P : A → Type 0) (ls : List Later) (j : Judged A) → Quiet P j → Quiet P (judge_later ls j)
later_quiet P [] j h = h
later_quiet P (l ∷ ls) j h = later_quiet P ls j h

pub later_broken : {A : Type 0} (ls : List Later) (j : Judged A) → (judge_later ls j).notes.broken ≡ [] → j.notes.broken ≡ []
later_broken [] j e = e
later_broken (l ∷ ls) j e = later_broken ls j e

-- with what is so besides
pub and_there : {A : Type 0} (P : A → Type 0) (Q : Type 0) (o : Option A) → IfThere P o → Q → IfThere (λ x. P x × Q) o
and_there P Q None h q = tt
and_there P Q (Some x) h q = (h, q)

-- parameters whose types no other declaration has made
pub anew_quiet : (P : Parameters → Type 0) (u : Around) (at : Pos) (s : Sections) → Quiet P s.found → Quiet P (anew u at s).found
anew_quiet P u at s h = then_quiet P P s.found (made_anew u at) h (λ p k. unless_quiet P (are_there u p.made) rules.DeclaredTwice at p k)
