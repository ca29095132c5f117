-- What a plan that is not refused has seen to.
use Rattle.std.proofs.Common.{◌≡◌, ℕ, zero, suc, ◌+◌, ◌≤◌, Bool, true, false, List, [], ◌∷◌, ◌++◌, length, Option, Some, None, Result, Ok, Err, refl, sym, ap, subst, ◌∙◌, arith, append_assoc}
use Rattle.std.specs.Prelude.{if◌then◌else◌, bytes_eq, codes, nat_lt, nat_le}
use Rattle.std.specs.List.{AllByRecursion}
use Rattle.std.proofs.lemmas.List.{append-nil}
use Rattle.std.proofs.lemmas.Bool.{leb-true, ltb-false}
use Rattle.ob_tree.specs.declared.names.QName.{QName}
use Rattle.ob_env.specs.Faces.{Wanted}
use Rattle.ob_link.specs.Walk.{has, or_first, first_of, and_then, all_in_turn, leaves, enters, visit, most_deep}
use Rattle.ob_link.specs.Plan.{Entry, Missing, TooLong, Junk, Holds, Asks, Refusal, NoObject, Changed, Cycle, NoRoom, TooMany, NoCommand, named, is_there, present, use_against, use_fails, absent, too_many, most_modules, fails, newest, entered, steps, most_globals, words_of, has_command, planned, plan}
use Rattle.law_load_plan.specs.Seen.{is_among, IsAmong, IsMet, GoesBehind, GoInTurn, IsSeenTo, AreNamed}
use Rattle.law_load_plan.proofs.Asked.{all_joined}
use Rattle.law_load_plan.proofs.Turns.{bytes_back, neither, both_false, second_true, none_named, last_named, among_more, turn_joined}

-- ---- no refusal

no_first : {R : Type 0} (a b : Option R) → or_first a b ≡ None → (a ≡ None) × (b ≡ None)
no_first None b e = (refl, e)
no_first (Some r) b e = absurd cc

let_pass : {R : Type 0} (b : Bool) (r : R) → (if b then None else Some r) ≡ None → b ≡ true
let_pass true r e = refl
let_pass false r e = absurd cc

no_absent : {K : Type 0} (client : List ℕ) (o : Option QName) → absent {K = K} client o ≡ None → o ≡ None
no_absent client None e = refl
no_absent client (Some q) e = absurd cc

module _ {A K : Type 0} (asks : Asks A K) where
  met_by : (xs : List A) (client : List ℕ) (u : Wanted K) (o : Option K) → present asks xs u.object u.aspect ≡ o → use_against asks.same client u o ≡ None → IsMet asks xs u
  met_by xs client u None is e = absurd cc
  met_by xs client u (Some f) is e = record { found = f; is = is; same = let_pass (asks.same u.kept f) (Changed client u.object u.aspect u.kept f) e }

  pub met_all : (xs : List A) (client : List ℕ) (us : List (Wanted K)) → first_of (use_fails asks xs client) us ≡ None → AllByRecursion (IsMet asks xs) us
  met_all xs client [] e = tt
  met_all xs client (u ∷ us) e =
      let p = no_first (use_fails asks xs client u) (first_of (use_fails asks xs client) us) e in
      (met_by xs client u (present asks xs u.object u.aspect) refl p.0, met_all xs client us p.1)

  pub behind : (xs : List A) (x : A) → fails asks xs x ≡ None → AllByRecursion (IsAmong asks xs) (asks.imports x) → is_among asks xs (asks.name x) ≡ false → GoesBehind asks xs x
  behind xs x e imports other =
      let p = no_first (first_of (use_fails asks xs (asks.name x)) (asks.uses x)) (or_first (absent (asks.name x) (asks.unlinked xs x)) (too_many (length xs + 1))) e in
      let q = no_first (absent (asks.name x) (asks.unlinked xs x)) (too_many (length xs + 1)) p.1 in
      let many : Refusal K = TooMany (length xs + 1) in
      let le : length xs + 1 ≤ most_modules = leb-true (length xs + 1) most_modules (let_pass (nat_le (length xs + 1) most_modules) many q.1) in
      record {
        imports = imports;
        other = other;
        uses = met_all xs (asks.name x) (asks.uses x) p.0;
        links = no_absent (asks.name x) (asks.unlinked xs x) q.0;
        few = omega (arith, le);
      }

  module _ (entry : List ℕ → Entry A) (are_named : AreNamed asks entry) (loaded : List A) where
    abbrev IsFound : A → Type 0
    IsFound x = entry (asks.name x) ≡ Holds x

    -- what a visit on a path brings behind what had left the walk before
    pub record Brings (path : List (List ℕ)) (left now : List A) : Type 0 where
      pub new : List A
      pub is : now ≡ left ++ new
      pub in_turn : GoInTurn asks (loaded ++ left) new
      pub found : AllByRecursion IsFound new
      pub off : AllByRecursion (λ x. has (asks.name x) path ≡ false) new

    brings_none : (path : List (List ℕ)) (left : List A) → Brings path left left
    brings_none path left = record { new = []; is = sym (append-nil left); in_turn = tt; found = tt; off = tt }

    brings_both : (path : List (List ℕ)) (left mid now : List A) → Brings path left mid → Brings path mid now → Brings path left now
    brings_both path left mid now a b = record {
      new = a.new ++ b.new;
      is = b.is ∙ ap (λ l. l ++ b.new) a.is ∙ append_assoc left a.new b.new;
      in_turn = turn_joined asks (loaded ++ left) a.new b.new a.in_turn (subst (λ l. GoInTurn asks l b.new) (ap (λ l. loaded ++ l) a.is ∙ sym (append_assoc loaded left a.new)) b.in_turn);
      found = all_joined IsFound a.new b.new a.found b.found;
      off = all_joined (λ x. has (asks.name x) path ≡ false) a.new b.new a.off b.off;
    }

    abbrev VisitBrings : List (List ℕ) → List ℕ → List A → Result (List A) (Refusal K) → Type 0
    VisitBrings path name left (Ok now) = Brings path left now × IsAmong asks (loaded ++ now) name
    VisitBrings path name left (Err r) = Unit {0}

    abbrev AllBring : List (List ℕ) → List (List ℕ) → List A → Result (List A) (Refusal K) → Type 0
    AllBring path names left (Ok now) = Brings path left now × AllByRecursion (IsAmong asks (loaded ++ now)) names
    AllBring path names left (Err r) = Unit {0}

    among_now : (path : List (List ℕ)) (mid now : List A) (name : List ℕ) → Brings path mid now → IsAmong asks (loaded ++ mid) name → IsAmong asks (loaded ++ now) name
    among_now path mid now name b h = subst (λ l. IsAmong asks l name) (append_assoc loaded mid b.new ∙ ap (λ l. loaded ++ l) (sym b.is)) (among_more asks (loaded ++ mid) b.new name h)

    one_more : (path : List (List ℕ)) (name : List ℕ) (names : List (List ℕ)) (left mid : List A) → Brings path left mid → IsAmong asks (loaded ++ mid) name → (s : Result (List A) (Refusal K)) → AllBring path names mid s → AllBring path (name ∷ names) left s
    one_more path name names left mid a h (Err r) b = tt
    one_more path name names left mid a h (Ok now) b = (brings_both path left mid now a b.0, (among_now path mid now name b.0 h, b.1))

    and_more : (path : List (List ℕ)) (name : List ℕ) (names : List (List ℕ)) (left : List A) (visit : List ℕ → List A → Result (List A) (Refusal K)) → ((mid : List A) → AllBring path names mid (all_in_turn visit names mid)) → (r : Result (List A) (Refusal K)) → VisitBrings path name left r → AllBring path (name ∷ names) left (and_then r (all_in_turn visit names))
    and_more path name names left visit h (Err r) a = tt
    and_more path name names left visit h (Ok mid) a = one_more path name names left mid a.0 a.1 (all_in_turn visit names mid) (h mid)

    all_bring : (path : List (List ℕ)) (visit : List ℕ → List A → Result (List A) (Refusal K)) → ((name : List ℕ) (left : List A) → VisitBrings path name left (visit name left)) → (names : List (List ℕ)) (left : List A) → AllBring path names left (all_in_turn visit names left)
    all_bring path visit h [] left = (brings_none path left, tt)
    all_bring path visit h (name ∷ names) left = and_more path name names left visit (all_bring path visit h names) (visit name left) (h name left)

    -- ---- a module that leaves the walk

    apart : (name : List ℕ) (path : List (List ℕ)) (ys : List A) → AllByRecursion (λ y. has (asks.name y) (name ∷ path) ≡ false) ys → AllByRecursion (λ y. bytes_eq name (asks.name y) ≡ false) ys
    apart name path [] h = tt
    apart name path (y ∷ ys) h = (bytes_back (asks.name y) name (neither (bytes_eq (asks.name y) name) (has (asks.name y) path) h.0).0, apart name path ys h.1)

    off_rest : (name : List ℕ) (path : List (List ℕ)) (ys : List A) → AllByRecursion (λ y. has (asks.name y) (name ∷ path) ≡ false) ys → AllByRecursion (λ y. has (asks.name y) path ≡ false) ys
    off_rest name path [] h = tt
    off_rest name path (y ∷ ys) h = ((neither (bytes_eq (asks.name y) name) (has (asks.name y) path) h.0).1, off_rest name path ys h.1)

    not_among : (name : List ℕ) (path : List (List ℕ)) (left now : List A) → is_among asks (loaded ++ left) name ≡ false → Brings (name ∷ path) left now → is_among asks (loaded ++ now) name ≡ false
    not_among name path left now e b =
        let p = neither (bytes_eq name (codes "Out")) (is_there (named asks name (loaded ++ left))) e in
        subst (λ l. is_among asks l name ≡ false) (append_assoc loaded left b.new ∙ ap (λ l. loaded ++ l) (sym b.is))
        (both_false (bytes_eq name (codes "Out")) (is_there (named asks name ((loaded ++ left) ++ b.new))) p.0 (none_named asks name (loaded ++ left) b.new p.1 (apart name path b.new b.off)))

    leaves_bring : (path : List (List ℕ)) (name : List ℕ) (x : A) → entry name ≡ Holds x → (left : List A) → is_among asks (loaded ++ left) name ≡ false → has name path ≡ false → (now : List A) → AllBring (name ∷ path) (asks.imports x) left (Ok now) → (o : Option (Refusal K)) → fails asks (loaded ++ now) x ≡ o → VisitBrings path name left (leaves o x now)
    leaves_bring path name x is left passed off now b (Some r) e = tt
    leaves_bring path name x is left passed off now b None e =
        let n : asks.name x ≡ name = are_named name x is in
        let here = behind (loaded ++ now) x e b.1 (subst (λ m. is_among asks (loaded ++ now) m ≡ false) (sym n) (not_among name path left now passed b.0)) in
        let turn : GoInTurn asks ((loaded ++ left) ++ b.0.new) (x ∷ []) = (subst (λ l. GoesBehind asks l x) (ap (λ l. loaded ++ l) b.0.is ∙ sym (append_assoc loaded left b.0.new)) here, tt) in (
          record {
            new = b.0.new ++ x ∷ [];
            is = ap (λ l. l ++ x ∷ []) b.0.is ∙ append_assoc left b.0.new (x ∷ []);
            in_turn = turn_joined asks (loaded ++ left) b.0.new (x ∷ []) b.0.in_turn turn;
            found = all_joined IsFound b.0.new (x ∷ []) b.0.found (subst (λ m. entry m ≡ Holds x) (sym n) is, tt);
            off = all_joined (λ y. has (asks.name y) path ≡ false) b.0.new (x ∷ []) (off_rest name path b.0.new b.0.off) (subst (λ m. has m path ≡ false) (sym n) off, tt);
          },
          subst (λ l. IsAmong asks l name) (append_assoc loaded now (x ∷ [])) (second_true (bytes_eq name (codes "Out")) (is_there (named asks name ((loaded ++ now) ++ x ∷ []))) (last_named asks name (loaded ++ now) x n)),
        )

    then_leaves : (path : List (List ℕ)) (name : List ℕ) (x : A) → entry name ≡ Holds x → (left : List A) → is_among asks (loaded ++ left) name ≡ false → has name path ≡ false → (r : Result (List A) (Refusal K)) → AllBring (name ∷ path) (asks.imports x) left r → VisitBrings path name left (and_then r (λ now. leaves (fails asks (loaded ++ now) x) x now))
    then_leaves path name x is left passed off (Err r) b = tt
    then_leaves path name x is left passed off (Ok now) b = leaves_bring path name x is left passed off now b (fails asks (loaded ++ now) x) refl

    enters_bring : (path : List (List ℕ)) (name : List ℕ) (visit : List ℕ → List A → Result (List A) (Refusal K)) → ((m : List ℕ) (before : List A) → VisitBrings (name ∷ path) m before (visit m before)) → (left : List A) → is_among asks (loaded ++ left) name ≡ false → has name path ≡ false → (e : Entry A) → entry name ≡ e → VisitBrings path name left (enters (steps asks entry loaded) visit (entered name e) left)
    enters_bring path name visit h left passed off Missing is = tt
    enters_bring path name visit h left passed off TooLong is = tt
    enters_bring path name visit h left passed off Junk is = tt
    enters_bring path name visit h left passed off (Holds x) is = then_leaves path name x is left passed off (all_in_turn visit (asks.imports x) left) (all_bring (name ∷ path) visit h (asks.imports x) left)

    tested : (path : List (List ℕ)) (name : List ℕ) (left : List A) (r : Result (List A) (Refusal K)) (b c : Bool) → is_among asks (loaded ++ left) name ≡ b → has name path ≡ c → (is_among asks (loaded ++ left) name ≡ false → has name path ≡ false → VisitBrings path name left r) → VisitBrings path name left (if b then Ok left else if c then Err (Cycle (newest name path)) else r)
    tested path name left r true c e f h = (brings_none path left, e)
    tested path name left r false true e f h = tt
    tested path name left r false false e f h = h e f

    pub visits_bring : (deep : ℕ) (path : List (List ℕ)) (name : List ℕ) (left : List A) → VisitBrings path name left (visit (steps asks entry loaded) deep path name left)
    unfolding visit
    visits_bring zero path name left = tt
    visits_bring (suc deep) path name left = tested path name left (enters (steps asks entry loaded) (visit (steps asks entry loaded) deep (name ∷ path)) (entered name (entry name)) left) (is_among asks (loaded ++ left) name) (has name path) refl refl
        (λ passed off. enters_bring path name (visit (steps asks entry loaded) deep (name ∷ path)) (visits_bring deep (name ∷ path)) left passed off (entry name) refl)

    -- ---- the checks behind the walk

    abbrev ended : Bool → Bool → ℕ → ℕ → List ℕ → List ℕ → List A → Result (List A) (Refusal K)
    ended b c used asked name command now = if b then Err (NoRoom used asked) else if c then Ok now else Err (NoCommand name command)

    checked : (b c : Bool) (used asked : ℕ) (name command : List ℕ) (now new : List A) → ended b c used asked name command now ≡ Ok new → (b ≡ false) × (c ≡ true) × (now ≡ new)
    checked true c used asked name command now new e = absurd cc
    checked false true used asked name command now new e = (refl, refl, cc)
    checked false false used asked name command now new e = absurd cc

    behind_walk : (name command : List ℕ) (new : List A) (r : Result (List A) (Refusal K)) → VisitBrings [] name [] r → and_then r (planned asks loaded name command) ≡ Ok new → IsSeenTo asks entry loaded name command new
    behind_walk name command new (Err r) b e = absurd cc
    behind_walk name command new (Ok now) b e =
        let p = checked (nat_lt most_globals (words_of asks loaded + words_of asks now)) (has_command asks (named asks name (loaded ++ now)) command) (words_of asks loaded) (words_of asks now) name command now new e in
        subst (λ l. IsSeenTo asks entry loaded name command l) p.2 (record {
          in_turn = subst (λ l. GoInTurn asks loaded l) (sym b.0.is) (subst (λ l. GoInTurn asks l b.0.new) (append-nil loaded) b.0.in_turn);
          found = subst (λ l. AllByRecursion IsFound l) (sym b.0.is) b.0.found;
          words = ltb-false most_globals (words_of asks loaded + words_of asks now) p.0;
          command_there = p.1;
        })

    out_refused : (b : Bool) (name : List ℕ) (r : Result (List A) (Refusal K)) (new : List A) → (if b then Err (NoObject name) else r) ≡ Ok new → r ≡ Ok new
    out_refused true name r new e = absurd cc
    out_refused false name r new e = e

    -- WHAT A PLAN HAS SEEN TO
    pub plan_sees : (name command : List ℕ) (new : List A) → plan asks entry loaded name command ≡ Ok new → IsSeenTo asks entry loaded name command new
    unfolding plan
    plan_sees name command new e = behind_walk name command new (visit (steps asks entry loaded) most_deep [] name []) (visits_bring most_deep [] name [])
        (out_refused (bytes_eq name (codes "Out")) name (and_then (visit (steps asks entry loaded) most_deep [] name []) (planned asks loaded name command)) new e)
