-- What a parse by the command of the two options gives.
use Rattle.std.proofs.Common.{◌≡◌, ℕ, List, [], ◌∷◌, true, refl, ap, ◌∙◌, subst, sym, codes, IfOk, IfErr, ◌⊎◌, ⊎_elim}
use Rattle.std.specs.Prelude.{Result, Ok, Err, Option, Some, None, option_map}
use Rattle.std.specs.Borrow.{Bor}
use Rattle.clap.specs.Words.{App, Kinds, Row, Text, first_of, first_value, FailsBy, HasMatchesOf, IsAmong, fault_of, found_of, is_simple, is_simple_and_free, kind_of, matches_of, rows_of}
use Rattle.clap.specs.declared.parser.matches.ArgMatches.{ArgMatches}
use Rattle.clap.specs.declared.error.Error.{Error}
use Rattle.clap.specs.declared.error.kind.ErrorKind.TheVariants.{OutOfMemory}
use Rattle.clap.proofs.OnLiterals.{clap_on_literals}
use Rattle.clap.specs.declared.error.kind.ErrorKind.{ErrorKind}
use Rattle.clap.proofs.WalkLemmas.{first_value-rows}
use Rattle.ob_words.specs.declared.asked.Settings.{Settings}
use Rattle.ob_words.specs.Settings.{oberon, number_or, chosen, taken, settings_of}

simple : is_simple oberon ≡ true
unfolding clap_on_literals
simple = refl

free : is_simple_and_free oberon ≡ true
unfolding clap_on_literals
free = refl

pub takes_so : (app : App) (texts words : List Text) (r : Result ArgMatches Error) → app ≡ oberon → texts ≡ words → IfOk r (HasMatchesOf app texts) → (is_simple_and_free app ≡ true → FailsBy (fault_of app texts) r) → IfOk r (λ m. (fault_of oberon words ≡ []) × (rows_of (found_of m) ≡ matches_of oberon words))
takes_so app texts words (Ok m) e w h f =
    let k : fault_of app texts ≡ [] = f (ap is_simple_and_free e ∙ free) in
    let p : rows_of (found_of m) ≡ matches_of app texts = (h (ap is_simple e ∙ simple)).0 in
    (sym (ap (λ a. fault_of a words) e) ∙ sym (ap (fault_of app) w) ∙ k, p ∙ ap (matches_of app) w ∙ ap (λ a. matches_of a words) e)
takes_so app texts words (Err x) e w h f = tt

pub fails_so : (app : App) (texts words : List Text) (r : Result ArgMatches Error) → app ≡ oberon → texts ≡ words → (is_simple_and_free app ≡ true → FailsBy (fault_of app texts) r) → IfErr r (λ x. (kind_of x ≡ OutOfMemory) ⊎ IsAmong (kind_of x) (fault_of oberon words))
fails_so app texts words (Ok m) e w f = tt
fails_so app texts words (Err x) e w f = subst (λ ks. (kind_of x ≡ OutOfMemory) ⊎ IsAmong (kind_of x) ks) (ap (fault_of app) w ∙ ap (λ a. fault_of a words) e) (f (ap is_simple_and_free e ∙ free))

pub settles : (words : List Text) (m : ArgMatches) (turns heap : Option (Bor (List ℕ))) (t h : Option ℕ) (found : Option Settings) → fault_of oberon words ≡ [] → rows_of (found_of m) ≡ matches_of oberon words → option_map (λ s. s.now) turns ≡ first_value (found_of m) (codes "turns") → option_map (λ s. s.now) heap ≡ first_value (found_of m) (codes "heap") → t ≡ number_or 10000000 1000000000 (option_map (λ s. s.now) turns) → h ≡ number_or 1048576 4194304 (option_map (λ s. s.now) heap) → found ≡ chosen t h → settings_of words ≡ found
unfolding settings_of
settles words m turns heap t h found k r et eh nt nh f =
    let rows = matches_of oberon words in
    let a : t ≡ number_or 10000000 1000000000 (first_of (codes "turns") rows) = nt ∙ ap (number_or 10000000 1000000000) (et ∙ first_value-rows (found_of m) (codes "turns") ∙ ap (first_of (codes "turns")) r) in
    let b : h ≡ number_or 1048576 4194304 (first_of (codes "heap") rows) = nh ∙ ap (number_or 1048576 4194304) (eh ∙ first_value-rows (found_of m) (codes "heap") ∙ ap (first_of (codes "heap")) r) in
    ap (λ ks. taken ks rows) k ∙ sym (f ∙ ap (λ x. chosen x h) a ∙ ap (chosen (number_or 10000000 1000000000 (first_of (codes "turns") rows))) b)

faulty : (k : ErrorKind) (ks : Kinds) (rows : List Row) → IsAmong k ks → taken ks rows ≡ None
faulty k [] rows a = absurd a
faulty k (x ∷ ks) rows a = refl

pub refuses : (words : List Text) (k : ErrorKind) → (k ≡ OutOfMemory) ⊎ IsAmong k (fault_of oberon words) → (k ≡ OutOfMemory → ⊥) → settings_of words ≡ None
unfolding settings_of
refuses words k a n = ⊎_elim (λ e. absurd (n e)) (λ x. faulty k (fault_of oberon words) (matches_of oberon words) x) a
