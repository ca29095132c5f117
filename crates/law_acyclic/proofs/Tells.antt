-- What is judged and breaks no rule: its node, beside what its notes leave for later.
use Rattle.std.proofs.Common.{◌≡◌, Bool, true, false, List, [], ◌++◌, Option, Some, None, refl, sym, subst, append-nil}
use Rattle.ob_tree.specs.declared.pos.Pos.{Pos}
use Rattle.ob_rules.specs.declared.notes.Later.{Later}
use Rattle.ob_rules.specs.declared.broken.Rule.{Rule}
use Rattle.ob_rules.specs.Judged.{Judged, Notes, sound, if_sound, paired, both, made, noted, unless, wants, also, ◌▷◌}
use Rattle.law_names_procedures.proofs.Judges.{Has, not_empty, has_more}
use Rattle.law_lists.proofs.Lists.{back_empty, front_empty}

-- where nothing is broken there is a node, which has the property with what is left for later
abbrev pub Tell : {A : Type 0} → (List Later → A → Type 0) → Judged A → Type 0
Tell P j = j.notes.broken ≡ [] → Has (P j.notes.later) j.node

if_tell : {A B : Type 0} (P : A → Type 0) (Q : List Later → B → Type 0) (o : Option A) (f : A → Judged B) → Has P o → ((x : A) → P x → Tell Q (f x)) → Tell Q (if_sound o f)
if_tell P Q None f h k = absurd h
if_tell P Q (Some x) f h k = k x h

pub then_tell : {A B : Type 0} (P : List Later → A → Type 0) (Q : List Later → B → Type 0) (j : Judged A) (f : A → Judged B) → Tell P j → ((x : A) → P j.notes.later x → Tell (λ ms. Q (j.notes.later ++ ms)) (f x)) → Tell Q (j ▷ f)
then_tell P Q j f h k = λ e. if_tell (P j.notes.later) (λ ms. Q (j.notes.later ++ ms)) j.node f (h (front_empty j.notes.broken (if_sound j.node f).notes.broken e)) k (back_empty j.notes.broken (if_sound j.node f).notes.broken e)

-- a node that is made of another
pub made_tell : {A B : Type 0} (P : List Later → A → Type 0) (Q : List Later → B → Type 0) (f : A → B) (j : Judged A) → Tell P j → ((x : A) → P j.notes.later x → Q j.notes.later (f x)) → Tell Q (made f j)
made_tell P Q f j h k = then_tell P Q j (λ x. sound (f x)) h (λ x p. λ e. subst (λ ls. Q ls (f x)) (sym (append-nil j.notes.later)) (k x p))

paired_tell : {A B : Type 0} (P : A → Type 0) (Q : B → Type 0) (R : A × B → Type 0) (a : Option A) (b : Option B) → Has P a → Has Q b → ((x : A) (y : B) → P x → Q y → R (x, y)) → Has R (paired a b)
paired_tell P Q R None b h k f = absurd h
paired_tell P Q R (Some x) None h k f = absurd k
paired_tell P Q R (Some x) (Some y) h k f = f x y h k

-- the second is told of where the first has a node
pub both_after : {A B : Type 0} (P : List Later → A → Type 0) (Q : List Later → B → Type 0) (R : List Later → A × B → Type 0) (a : Judged A) (b : Judged B) → Tell P a → (Has (P a.notes.later) a.node → Tell Q b) → ((x : A) (y : B) → P a.notes.later x → Q b.notes.later y → R (a.notes.later ++ b.notes.later) (x, y)) → Tell R (both a b)
both_after P Q R a b h k f = λ e.
    let x = h (front_empty a.notes.broken b.notes.broken e) in
    paired_tell (P a.notes.later) (Q b.notes.later) (R (a.notes.later ++ b.notes.later)) a.node b.node x (k x (back_empty a.notes.broken b.notes.broken e)) f

pub both_tell : {A B : Type 0} (P : List Later → A → Type 0) (Q : List Later → B → Type 0) (R : List Later → A × B → Type 0) (a : Judged A) (b : Judged B) → Tell P a → Tell Q b → ((x : A) (y : B) → P a.notes.later x → Q b.notes.later y → R (a.notes.later ++ b.notes.later) (x, y)) → Tell R (both a b)
both_tell P Q R a b h k f = both_after P Q R a b h (λ x. k) f

pub unless_tell : {A : Type 0} (P : List Later → A → Type 0) (b : Bool) (rule : Rule) (at : Pos) (x : A) → (b ≡ false → P [] x) → Tell P (unless b rule at x)
unless_tell P true rule at x h = λ e. not_empty _ [] e
unless_tell P false rule at x h = λ e. h refl

pub wants_tell : {A : Type 0} (P : List Later → A → Type 0) (b : Bool) (rule : Rule) (at : Pos) (x : A) → (b ≡ true → P [] x) → Tell P (wants b rule at x)
wants_tell P true rule at x h = λ e. h refl
wants_tell P false rule at x h = λ e. not_empty _ [] e

pub also_tell : {A : Type 0} (P : List Later → A → Type 0) (b : Bool) (rule : Rule) (at : Pos) (j : Judged A) → (b ≡ false → Tell P j) → Tell P (also b rule at j)
also_tell P true rule at j h = λ e. not_empty _ j.notes.broken e
also_tell P false rule at j h = h refl

pub tell_more : {A : Type 0} (P Q : List Later → A → Type 0) (j : Judged A) → Tell P j → ((x : A) → P j.notes.later x → Q j.notes.later x) → Tell Q j
tell_more P Q j h f = λ e. has_more (P j.notes.later) (Q j.notes.later) j.node f (h e)

pub noted_tell : {A : Type 0} (P Q : List Later → A → Type 0) (n : Notes) (j : Judged A) → Tell P j → ((x : A) → P j.notes.later x → Q (n.later ++ j.notes.later) x) → Tell Q (noted n j)
noted_tell P Q n j h f = λ e. has_more (P j.notes.later) (Q (n.later ++ j.notes.later)) j.node f (h (back_empty n.broken j.notes.broken e))
