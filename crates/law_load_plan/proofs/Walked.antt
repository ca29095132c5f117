-- The plans agree: one induction over the walk, and then the checks behind it.
use Rattle.std.proofs.Common.{◌≡◌, ℕ, zero, suc, ◌+◌, Bool, true, false, List, [], ◌∷◌, ◌++◌, map, Option, Some, None, Result, Ok, Err, refl, sym, ap, subst, ◌∙◌}
use Rattle.std.specs.Prelude.{if◌then◌else◌, bytes_eq, codes, nat_lt, ◌||◌}
use Rattle.std.specs.Option.{option_map}
use Rattle.std.specs.List.{AllByRecursion}
use Rattle.std.proofs.lemmas.List.{map-append}
use Rattle.ob_link.specs.Walk.{has, and_then, all_in_turn, leaves, enters, visit, most_deep}
use Rattle.ob_link.specs.Plan.{Entry, Missing, TooLong, Junk, Holds, Asks, Refusal, NoObject, Cycle, NoRoom, NoCommand, named, is_there, fails, newest, entered, steps, most_globals, words_of, has_command, planned, plan}
use Rattle.law_load_plan.specs.Alike.{entry_as, refusal_as, UsesFindAlike, AreAskedAlike, EntryHas, AreEntriesAlike, Agrees}
use Rattle.law_load_plan.proofs.Asked.{all_joined, fails_as, words_as, command_as, there_as}

module _ {A B K L : Type 0} (asks : Asks A K) (others : Asks B L) (twin : A → B) (short : K → L) (IsKnown : A → Type 0) (alike : AreAskedAlike asks others twin short IsKnown) where
  abbrev Answer : Type 0
  Answer = Result (List A) (Refusal K)

  abbrev Other : Type 0
  Other = Result (List B) (Refusal L)

  abbrev Agree : Answer → Other → Type 0
  Agree r s = Agrees twin short IsKnown r s

  abbrev AllKnown : List A → Type 0
  AllKnown xs = AllByRecursion IsKnown xs

  then_agree : (r : Answer) (s : Other) → Agree r s → (f : List A → Answer) (g : List B → Other) → ((xs : List A) → AllKnown xs → Agree (f xs) (g (map twin xs))) → Agree (and_then r f) (and_then s g)
  then_agree (Ok xs) s a f g h = subst (λ t. Agree (f xs) (and_then t g)) (sym a.is) (h xs a.known)
  then_agree (Err r) s a f g h = record { is = ap (λ t. and_then t g) a.is; known = tt }

  -- ---- the walk

  abbrev Visit : Type 0
  Visit = List ℕ → List A → Answer

  abbrev OtherVisit : Type 0
  OtherVisit = List ℕ → List B → Other

  abbrev VisitsAgree : (List ℕ → Type 0) → Visit → OtherVisit → Type 0
  VisitsAgree IsAsked v w = (name : List ℕ) → IsAsked name → (left : List A) → AllKnown left → Agree (v name left) (w name (map twin left))

  all_agree : (IsAsked : List ℕ → Type 0) (v : Visit) (w : OtherVisit) → VisitsAgree IsAsked v w → (names : List (List ℕ)) → AllByRecursion IsAsked names → (left : List A) → AllKnown left → Agree (all_in_turn v names left) (all_in_turn w names (map twin left))
  all_agree IsAsked v w h [] n left k = record { is = refl; known = k }
  all_agree IsAsked v w h (name ∷ names) n left k = then_agree (v name left) (w name (map twin left)) (h name n.0 left k) (all_in_turn v names) (all_in_turn w names) (λ xs kx. all_agree IsAsked v w h names n.1 xs kx)

  left_case : (o : Option (Refusal K)) (x : A) → IsKnown x → (now : List A) → AllKnown now → Agree (leaves o x now) (leaves (option_map (refusal_as short) o) (twin x) (map twin now))
  left_case None x h now k = record { is = ap Ok (sym (map-append twin now (x ∷ []))); known = all_joined IsKnown now (x ∷ []) k (h, tt) }
  left_case (Some r) x h now k = record { is = refl; known = tt }

  module _ (loaded : List A) (known : AllKnown loaded) where
    both_known : (left : List A) → AllKnown left → AllKnown (loaded ++ left)
    both_known left k = all_joined IsKnown loaded left known k

    leaves_agree : (x : A) → IsKnown x → UsesFindAlike asks others short IsKnown x → (now : List A) → AllKnown now → Agree (leaves (fails asks (loaded ++ now) x) x now) (leaves (fails others (map twin loaded ++ map twin now) (twin x)) (twin x) (map twin now))
    leaves_agree x h f now k =
        subst (λ xs. Agree (leaves (fails asks (loaded ++ now) x) x now) (leaves (fails others xs (twin x)) (twin x) (map twin now))) (map-append twin loaded now)
        (subst (λ o. Agree (leaves (fails asks (loaded ++ now) x) x now) (leaves o (twin x) (map twin now))) (sym (fails_as asks others twin short IsKnown alike (loaded ++ now) (both_known now k) x h f))
        (left_case (fails asks (loaded ++ now) x) x h now k))

    module _ (entry : List ℕ → Entry A) (other : List ℕ → Entry B) (IsAsked : List ℕ → Type 0) (entries : AreEntriesAlike asks others entry other twin short IsKnown IsAsked) where
      enters_agree : (v : Visit) (w : OtherVisit) → VisitsAgree IsAsked v w → (name : List ℕ) → IsAsked name → (e : Entry A) → entry name ≡ e → EntryHas IsKnown e → (left : List A) → AllKnown left → Agree (enters (steps asks entry loaded) v (entered name e) left) (enters (steps others other (map twin loaded)) w (entered name (entry_as twin e)) (map twin left))
      enters_agree v w h name n Missing is e left k = record { is = refl; known = tt }
      enters_agree v w h name n TooLong is e left k = record { is = refl; known = tt }
      enters_agree v w h name n Junk is e left k = record { is = refl; known = tt }
      enters_agree v w h name n (Holds x) is e left k =
          subst (λ names. Agree (and_then (all_in_turn v (asks.imports x) left) (λ now. leaves (fails asks (loaded ++ now) x) x now)) (and_then (all_in_turn w names (map twin left)) (λ now. leaves (fails others (map twin loaded ++ now) (twin x)) (twin x) now))) (sym (alike.imports x e))
          (then_agree (all_in_turn v (asks.imports x) left) (all_in_turn w (asks.imports x) (map twin left)) (all_agree IsAsked v w h (asks.imports x) (entries.imports name x n is) left k)
          (λ now. leaves (fails asks (loaded ++ now) x) x now) (λ now. leaves (fails others (map twin loaded ++ now) (twin x)) (twin x) now) (leaves_agree x e (entries.uses name x n is)))

      visited_agree : (b c : Bool) (path : List (List ℕ)) (name : List ℕ) (left : List A) → AllKnown left → (r : Answer) (s : Other) → Agree r s → Agree (if b then Ok left else if c then Err (Cycle (newest name path)) else r) (if b then Ok (map twin left) else if c then Err (Cycle (newest name path)) else s)
      visited_agree true c path name left k r s a = record { is = refl; known = k }
      visited_agree false true path name left k r s a = record { is = refl; known = tt }
      visited_agree false false path name left k r s a = a

      passed_as : (name : List ℕ) (left : List A) → AllKnown left → is_there (named others name (map twin loaded ++ map twin left)) ≡ is_there (named asks name (loaded ++ left))
      passed_as name left k = ap (λ xs. is_there (named others name xs)) (sym (map-append twin loaded left)) ∙ there_as asks others twin short IsKnown alike (loaded ++ left) (both_known left k) name

      pub visits_agree : (deep : ℕ) (path : List (List ℕ)) → VisitsAgree IsAsked (visit (steps asks entry loaded) deep path) (visit (steps others other (map twin loaded)) deep path)
      unfolding visit
      visits_agree zero path name n left k = record { is = refl; known = tt }
      visits_agree (suc deep) path name n left k =
          let into : Answer = enters (steps asks entry loaded) (visit (steps asks entry loaded) deep (name ∷ path)) (entered name (entry name)) left in
          let other_into : Entry B → Other = λ e. enters (steps others other (map twin loaded)) (visit (steps others other (map twin loaded)) deep (name ∷ path)) (entered name e) (map twin left) in
          subst (λ b. Agree (visit (steps asks entry loaded) (suc deep) path name left) (if bytes_eq name (codes "Out") || b then Ok (map twin left) else if has name path then Err (Cycle (newest name path)) else other_into (other name))) (sym (passed_as name left k))
          (subst (λ e. Agree (visit (steps asks entry loaded) (suc deep) path name left) (if bytes_eq name (codes "Out") || is_there (named asks name (loaded ++ left)) then Ok (map twin left) else if has name path then Err (Cycle (newest name path)) else other_into e)) (sym (entries.is name n))
          (visited_agree (bytes_eq name (codes "Out") || is_there (named asks name (loaded ++ left))) (has name path) path name left k into (other_into (entry_as twin (entry name)))
          (enters_agree (visit (steps asks entry loaded) deep (name ∷ path)) (visit (steps others other (map twin loaded)) deep (name ∷ path)) (visits_agree deep (name ∷ path)) name n (entry name) refl (entries.known name n) left k)))

      -- ---- behind the walk

      checked_agree : (b c : Bool) (used asked : ℕ) (name command : List ℕ) (new : List A) → AllKnown new → Agree (if b then Err (NoRoom used asked) else if c then Ok new else Err (NoCommand name command)) (if b then Err (NoRoom used asked) else if c then Ok (map twin new) else Err (NoCommand name command))
      checked_agree true c used asked name command new k = record { is = refl; known = tt }
      checked_agree false true used asked name command new k = record { is = refl; known = k }
      checked_agree false false used asked name command new k = record { is = refl; known = tt }

      other_checked : ℕ → ℕ → Bool → List ℕ → List ℕ → List A → Other
      other_checked used asked c name command new = if nat_lt most_globals (used + asked) then Err (NoRoom used asked) else if c then Ok (map twin new) else Err (NoCommand name command)

      checked_as : (name command : List ℕ) (new : List A) → AllKnown new → planned others (map twin loaded) name command (map twin new) ≡ other_checked (words_of asks loaded) (words_of asks new) (has_command asks (named asks name (loaded ++ new)) command) name command new
      unfolding other_checked
      checked_as name command new k =
          ap (λ n. other_checked n (words_of others (map twin new)) (has_command others (named others name (map twin loaded ++ map twin new)) command) name command new) (words_as asks others twin short IsKnown alike loaded known)
          ∙ ap (λ n. other_checked (words_of asks loaded) n (has_command others (named others name (map twin loaded ++ map twin new)) command) name command new) (words_as asks others twin short IsKnown alike new k)
          ∙ ap (λ xs. other_checked (words_of asks loaded) (words_of asks new) (has_command others (named others name xs) command) name command new) (sym (map-append twin loaded new))
          ∙ ap (λ c. other_checked (words_of asks loaded) (words_of asks new) c name command new) (command_as asks others twin short IsKnown alike (loaded ++ new) (both_known new k) name command)

      planned_agree : (name command : List ℕ) (new : List A) → AllKnown new → Agree (planned asks loaded name command new) (planned others (map twin loaded) name command (map twin new))
      unfolding other_checked
      planned_agree name command new k =
          subst (λ t. Agree (planned asks loaded name command new) t) (sym (checked_as name command new k))
          (checked_agree (nat_lt most_globals (words_of asks loaded + words_of asks new)) (has_command asks (named asks name (loaded ++ new)) command) (words_of asks loaded) (words_of asks new) name command new k)

      out_or : (b : Bool) (name : List ℕ) (r : Answer) (s : Other) → Agree r s → Agree (if b then Err (NoObject name) else r) (if b then Err (NoObject name) else s)
      out_or true name r s a = record { is = refl; known = tt }
      out_or false name r s a = a

      -- THE PLAN of what stands for these modules
      pub plans_agree : (name command : List ℕ) → IsAsked name → Agrees twin short IsKnown (plan asks entry loaded name command) (plan others other (map twin loaded) name command)
      unfolding plan
      plans_agree name command n = out_or (bytes_eq name (codes "Out")) name _ _
          (then_agree (visit (steps asks entry loaded) most_deep [] name []) (visit (steps others other (map twin loaded)) most_deep [] name [])
          (visits_agree most_deep [] name n [] tt) (planned asks loaded name command) (planned others (map twin loaded) name command) (planned_agree name command))
