-- What is asked of modules is told alike of lists of them.
use Rattle.std.proofs.Common.{◌≡◌, ℕ, ◌+◌, Bool, true, false, List, [], ◌∷◌, ◌++◌, length, map, Option, Some, None, refl, ap, ◌∙◌}
use Rattle.std.specs.Prelude.{if◌then◌else◌, bytes_eq, nat_le}
use Rattle.std.specs.Option.{option_map}
use Rattle.std.specs.List.{AllByRecursion}
use Rattle.std.proofs.lemmas.List.{length-map}
use Rattle.ob_tree.specs.declared.names.QName.{QName}
use Rattle.ob_types.specs.declared.face.Aspect.{Aspect}
use Rattle.ob_env.specs.Faces.{Wanted}
use Rattle.ob_link.specs.Walk.{first_of, or_first}
use Rattle.ob_link.specs.Plan.{Asks, Refusal, Changed, TooMany, named, is_there, kept_by, present, use_against, use_fails, absent, most_modules, too_many, fails, words_of, has_command}
use Rattle.law_load_plan.specs.Alike.{wanted_as, refusal_as, FindsAlike, UsesFindAlike, AreMet, AreAskedAlike}

abbrev pub IfSome : {A : Type 0} → (A → Type 0) → Option A → Type 0
IfSome P None = Unit {0}
IfSome P (Some x) = P x

-- ---- choices

chosen : {A B : Type 0} (twin : A → B) (b : Bool) (x : A) (o : Option A) → (if b then Some (twin x) else option_map twin o) ≡ option_map twin (if b then Some x else o)
chosen twin true x o = refl
chosen twin false x o = refl

holds_if : {A : Type 0} (P : A → Type 0) (b : Bool) (x : A) (o : Option A) → P x → IfSome P o → IfSome P (if b then Some x else o)
holds_if P true x o h k = h
holds_if P false x o h k = k

refused_if : {K L : Type 0} (short : K → L) (b : Bool) (r : Refusal K) → (if b then None else Some (refusal_as short r)) ≡ option_map (refusal_as short) (if b then None else Some r)
refused_if short true r = refl
refused_if short false r = refl

first_mapped : {R S : Type 0} (f : R → S) (a b : Option R) → or_first (option_map f a) (option_map f b) ≡ option_map f (or_first a b)
first_mapped f (Some r) b = refl
first_mapped f None b = refl

there_mapped : {A B : Type 0} (f : A → B) (o : Option A) → is_there (option_map f o) ≡ is_there o
there_mapped f (Some x) = refl
there_mapped f None = refl

absent_as : {K L : Type 0} (short : K → L) (client : List ℕ) (o : Option QName) → absent {K = L} client o ≡ option_map (refusal_as short) (absent {K = K} client o)
absent_as short client None = refl
absent_as short client (Some q) = refl

many_as : {K L : Type 0} (short : K → L) (n : ℕ) → too_many {K = L} n ≡ option_map (refusal_as short) (too_many {K = K} n)
many_as {K} {L} short n = refused_if short (nat_le n most_modules) (TooMany n)

against_as : {K L : Type 0} (short : K → L) (same : K → K → Bool) (other : L → L → Bool) (client : List ℕ) (u : Wanted K) (o : Option K) → ((found : K) → o ≡ Some found → other (short u.kept) (short found) ≡ same u.kept found) → use_against other client (wanted_as short u) (option_map short o) ≡ option_map (refusal_as short) (use_against same client u o)
against_as short same other client u None h = refl
against_as short same other client u (Some found) h =
    ap (λ b. if b then None else Some (Changed client u.object u.aspect (short u.kept) (short found))) (h found refl)
    ∙ refused_if short (same u.kept found) (Changed client u.object u.aspect u.kept found)

pub all_joined : {A : Type 0} (P : A → Type 0) (xs ys : List A) → AllByRecursion P xs → AllByRecursion P ys → AllByRecursion P (xs ++ ys)
all_joined P [] ys h k = k
all_joined P (x ∷ xs) ys h k = (h.0, all_joined P xs ys h.1 k)

-- ---- lists of modules

module _ {A B K L : Type 0} (asks : Asks A K) (others : Asks B L) (twin : A → B) (short : K → L) (IsKnown : A → Type 0) (alike : AreAskedAlike asks others twin short IsKnown) where
  pub named_as : (name : List ℕ) (xs : List A) → AllByRecursion IsKnown xs → named others name (map twin xs) ≡ option_map twin (named asks name xs)
  named_as name [] k = refl
  named_as name (x ∷ xs) k =
      ap (λ n. if bytes_eq name n then Some (twin x) else named others name (map twin xs)) (alike.name x k.0)
      ∙ ap (λ o. if bytes_eq name (asks.name x) then Some (twin x) else o) (named_as name xs k.1)
      ∙ chosen twin (bytes_eq name (asks.name x)) x (named asks name xs)

  pub named_known : (name : List ℕ) (xs : List A) → AllByRecursion IsKnown xs → IfSome IsKnown (named asks name xs)
  named_known name [] k = tt
  named_known name (x ∷ xs) k = holds_if IsKnown (bytes_eq name (asks.name x)) x (named asks name xs) k.0 (named_known name xs k.1)

  -- the module that a name has is of that name
  named_so : (name : List ℕ) (xs : List A) → IfSome (λ y. bytes_eq name (asks.name y) ≡ true) (named asks name xs)
  named_so name [] = tt
  named_so name (x ∷ xs) = go (bytes_eq name (asks.name x)) refl (named_so name xs)
    where
      go : (b : Bool) → bytes_eq name (asks.name x) ≡ b → IfSome (λ y. bytes_eq name (asks.name y) ≡ true) (named asks name xs) → IfSome (λ y. bytes_eq name (asks.name y) ≡ true) (if b then Some x else named asks name xs)
      go true e h = e
      go false e h = h

  kept_as : (o : Option A) → IfSome IsKnown o → (name : List ℕ) (aspect : Aspect) → kept_by others (option_map twin o) name aspect ≡ option_map short (kept_by asks o name aspect)
  kept_as None h name aspect = refl
  kept_as (Some x) h name aspect = alike.keeps x h name aspect

  present_as : (xs : List A) → AllByRecursion IsKnown xs → (q : QName) (aspect : Aspect) → present others (map twin xs) q aspect ≡ option_map short (present asks xs q aspect)
  present_as xs k q aspect =
      ap (λ o. kept_by others o q.object aspect) (named_as q.module xs k)
      ∙ kept_as (named asks q.module xs) (named_known q.module xs k) q.object aspect

  found_as : (u : Wanted K) (o : Option A) → IfSome IsKnown o → IfSome (λ y. bytes_eq u.object.module (asks.name y) ≡ true) o → ((y : A) → IsKnown y → FindsAlike asks others short y u) → (found : K) → kept_by asks o u.object.object u.aspect ≡ Some found → others.same (short u.kept) (short found) ≡ asks.same u.kept found
  found_as u None h n f found e = absurd cc
  found_as u (Some y) h n f found e = f y h found n e

  use_as : (xs : List A) → AllByRecursion IsKnown xs → (client : List ℕ) (u : Wanted K) → ((y : A) → IsKnown y → FindsAlike asks others short y u) → use_fails others (map twin xs) client (wanted_as short u) ≡ option_map (refusal_as short) (use_fails asks xs client u)
  use_as xs k client u f =
      ap (use_against others.same client (wanted_as short u)) (present_as xs k u.object u.aspect)
      ∙ against_as short asks.same others.same client u (present asks xs u.object u.aspect) (found_as u (named asks u.object.module xs) (named_known u.object.module xs k) (named_so u.object.module xs) f)

  uses_as : (xs : List A) → AllByRecursion IsKnown xs → (client : List ℕ) (us : List (Wanted K)) → AllByRecursion (λ u. (y : A) → IsKnown y → FindsAlike asks others short y u) us → first_of (use_fails others (map twin xs) client) (map (wanted_as short) us) ≡ option_map (refusal_as short) (first_of (use_fails asks xs client) us)
  uses_as xs k client [] f = refl
  uses_as xs k client (u ∷ us) f =
      ap (λ o. or_first o (first_of (use_fails others (map twin xs) client) (map (wanted_as short) us))) (use_as xs k client u f.0)
      ∙ ap (or_first (option_map (refusal_as short) (use_fails asks xs client u))) (uses_as xs k client us f.1)
      ∙ first_mapped (refusal_as short) (use_fails asks xs client u) (first_of (use_fails asks xs client) us)

  -- the uses with the module's own name and uses on the other side
  own_uses_as : (xs : List A) → AllByRecursion IsKnown xs → (x : A) → IsKnown x → UsesFindAlike asks others short IsKnown x → first_of (use_fails others (map twin xs) (others.name (twin x))) (others.uses (twin x)) ≡ option_map (refusal_as short) (first_of (use_fails asks xs (asks.name x)) (asks.uses x))
  own_uses_as xs k x h f =
      ap (λ n. first_of (use_fails others (map twin xs) n) (others.uses (twin x))) (alike.name x h)
      ∙ ap (first_of (use_fails others (map twin xs) (asks.name x))) (alike.uses x h)
      ∙ uses_as xs k (asks.name x) (asks.uses x) f

  links_as : (xs : List A) → AllByRecursion IsKnown xs → (x : A) → IsKnown x → AreMet asks xs x → absent {K = L} (others.name (twin x)) (others.unlinked (map twin xs) (twin x)) ≡ option_map (refusal_as short) (absent {K = K} (asks.name x) (asks.unlinked xs x))
  links_as xs k x h met =
      ap (λ n. absent {K = L} n (others.unlinked (map twin xs) (twin x))) (alike.name x h)
      ∙ ap (absent {K = L} (asks.name x)) (alike.links xs k x h met)
      ∙ absent_as short (asks.name x) (asks.unlinked xs x)

  number_as : (xs : List A) → too_many {K = L} (length (map twin xs) + 1) ≡ option_map (refusal_as short) (too_many {K = K} (length xs + 1))
  number_as xs = ap (λ n. too_many {K = L} (n + 1)) (length-map xs twin) ∙ many_as short (length xs + 1)

  behind_uses : (xs : List A) → AllByRecursion IsKnown xs → (x : A) → IsKnown x → (o : Option (Refusal K)) → first_of (use_fails asks xs (asks.name x)) (asks.uses x) ≡ o → or_first (option_map (refusal_as short) o) (or_first (absent {K = L} (others.name (twin x)) (others.unlinked (map twin xs) (twin x))) (too_many {K = L} (length (map twin xs) + 1))) ≡ option_map (refusal_as short) (or_first o (or_first (absent {K = K} (asks.name x) (asks.unlinked xs x)) (too_many {K = K} (length xs + 1))))
  behind_uses xs k x h (Some r) e = refl
  behind_uses xs k x h None e =
      ap (λ o. or_first o (too_many {K = L} (length (map twin xs) + 1))) (links_as xs k x h e)
      ∙ ap (or_first (option_map (refusal_as short) (absent {K = K} (asks.name x) (asks.unlinked xs x)))) (number_as xs)
      ∙ first_mapped (refusal_as short) (absent {K = K} (asks.name x) (asks.unlinked xs x)) (too_many {K = K} (length xs + 1))

  -- WHAT REFUSES A MODULE behind these
  pub fails_as : (xs : List A) → AllByRecursion IsKnown xs → (x : A) → IsKnown x → UsesFindAlike asks others short IsKnown x → fails others (map twin xs) (twin x) ≡ option_map (refusal_as short) (fails asks xs x)
  fails_as xs k x h f =
      ap (λ o. or_first o (or_first (absent {K = L} (others.name (twin x)) (others.unlinked (map twin xs) (twin x))) (too_many {K = L} (length (map twin xs) + 1)))) (own_uses_as xs k x h f)
      ∙ behind_uses xs k x h (first_of (use_fails asks xs (asks.name x)) (asks.uses x)) refl

  pub words_as : (xs : List A) → AllByRecursion IsKnown xs → words_of others (map twin xs) ≡ words_of asks xs
  words_as [] k = refl
  words_as (x ∷ xs) k = ap (λ n. n + words_of others (map twin xs)) (alike.words x k.0) ∙ ap (λ n. asks.words x + n) (words_as xs k.1)

  command_kept : (o : Option A) → IfSome IsKnown o → (command : List ℕ) → has_command others (option_map twin o) command ≡ has_command asks o command
  command_kept None h command = refl
  command_kept (Some x) h command = alike.has_command x h command

  pub command_as : (xs : List A) → AllByRecursion IsKnown xs → (name command : List ℕ) → has_command others (named others name (map twin xs)) command ≡ has_command asks (named asks name xs) command
  command_as xs k name command = ap (λ o. has_command others o command) (named_as name xs k) ∙ command_kept (named asks name xs) (named_known name xs k) command

  pub there_as : (xs : List A) → AllByRecursion IsKnown xs → (name : List ℕ) → is_there (named others name (map twin xs)) ≡ is_there (named asks name xs)
  there_as xs k name = ap is_there (named_as name xs k) ∙ there_mapped twin (named asks name xs)
