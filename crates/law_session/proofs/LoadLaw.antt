-- The law of loads.
use Rattle.std.proofs.Common.{◌≡◌, ℕ, suc, List, [], ◌∷◌, map, true, refl, sym, ap, subst, arith, Result, Ok, Err, inl, inr}
use Rattle.std.specs.Prelude.{Contains, ◌⊎◌}
use Rattle.std.specs.List.{AllByRecursion}
use Rattle.ob_tree.specs.declared.print.Print.{Print}
use Rattle.ob_fprint.specs.Print.{print_from}
use Rattle.ob_obj.specs.declared.file.ObjFile.{ObjFile}
use Rattle.ob_env.specs.Faces.{Face}
use Rattle.ob_link.specs.Plan as load
use Rattle.ob_link.specs.Plan.{Entry, Missing, TooLong, Junk, Holds, plan}
use Rattle.ob_link.specs.Files as files
use Rattle.ob_link.specs.Files.{Files, object_entry, file_plan}
use Rattle.ob_compile_model.specs.Compiling.{Compiled}
use Rattle.ob_parse_grammar.specs.Identifiers.{is_identifier}
use Rattle.ob_shell_reports.specs.Texts.{load_refused}
use Rattle.law_load_plan.specs.Alike.{refusal_as, answer_as, EntryHas, AreEntriesAlike, Agrees}
use Rattle.law_load_plan.specs.Seen.{IsSeenTo}
use Rattle.law_load_plan.proofs.Whole.{plans_agree, plan_sees}
use Rattle.ob_builds.specs.Builds.{Text, Build, IsValid, shows_of, file_of, asks}
use Rattle.ob_shell_model.specs.Library.{Library, IsLibrary, IsEntry, Kept}
use Rattle.ob_shell_model.specs.Model.{build_plan}
use Rattle.ob_builds.specs.Afresh.{AreTogether}
use Rattle.ob_builds.specs.Written.{BuildsAreWritten}
use Rattle.ob_shell_model.specs.Headline.{IsIn}
use Rattle.ob_shell_model.specs.OneAge.{IsReached, IsNeeded, ByLoad, AreToldApart}
use Rattle.law_session.specs.Composing.{SameBuilds, SamePlan}
use Rattle.law_builds.proofs.Members.{In, of_in, to_in, has_head, has_more}
use Rattle.law_builds.proofs.Faces.{of_is}
use Rattle.law_session.proofs.Spelled.{AreIdentifiers, imports_named}
use Rattle.law_builds.specs.Linked.{BuildsAreLinked}
use Rattle.law_session.specs.Loads.{LoadsAlike}
use Rattle.law_session.proofs.ObjectEntries.{entries_same}
use Rattle.law_session.proofs.Known.{IsFit, fit, asked_alike, uses_alike}
use Rattle.law_builds.proofs.Gone.{go_together, all_valid, words_both}

-- the same refusal is printed
same_refusal : (m : List ℕ) (r : load.Refusal Text) → load_refused m (refusal_as print_from r) ≡ load_refused m r
same_refusal m (load.NoObject n) = refl
same_refusal m (load.Damaged n) = refl
same_refusal m (load.Absent client object) = refl
same_refusal m (load.Changed client object aspect wanted found) = refl
same_refusal m (load.Cycle n) = refl
same_refusal m (load.NoRoom used asked) = refl
same_refusal m (load.TooMany count) = refl
same_refusal m (load.NoCommand n command) = refl
same_refusal m (load.Long n) = refl

-- what a plan brings in are builds of the library
new_found : (l : Library) (bs : List Build) → AllByRecursion (λ b. l.objects (asks.name b) ≡ Holds b) bs → (b : Build) → In bs b → IsIn l b
new_found l [] h b i = absurd i
new_found l (x ∷ bs) h b (inl e) = subst (IsIn l) e (asks.name x, inl h.0)
new_found l (x ∷ bs) h b (inr i) = new_found l bs h.1 b i

pub named_so : (l : Library) → IsLibrary l → (n : List ℕ) (b : Build) → l.objects n ≡ Holds b → asks.name b ≡ n
named_so l library n b e = let k : IsEntry n (Holds b) = subst (IsEntry n) e (library.objects n) in k.2

pub plan_found : (l : Library) → IsLibrary l → (loaded : List Build) (m name : List ℕ) (bs : List Build) → plan asks l.objects loaded m name ≡ Ok bs → (b : Build) → Contains bs b → IsIn l b
plan_found l library loaded m name bs e b c = new_found l bs (plan_sees Build Text asks l.objects (named_so l library) loaded m name bs e).found b (to_in bs b c)

module _ (written : BuildsAreWritten) (linked : BuildsAreLinked) (folder : Files) (l : Library) (loaded : List Build) (library : IsLibrary l) (kept : Kept folder l) (together : AreTogether [] loaded) (m : List ℕ) (told : AreToldApart (ByLoad l loaded m)) where
  -- a build that the load comes to, or that is loaded
  abbrev IsMet : Build → Type 0
  IsMet b = IsNeeded l m b ⊎ Contains loaded b

  abbrev One : Build → Type 0
  One b = IsFit IsMet b

  abbrev IsAsked : List ℕ → Type 0
  IsAsked n = (is_identifier n ≡ true) × ((steps : ℕ) × IsReached l m steps n)

  entry_fit : (n : List ℕ) → (steps : ℕ) × IsReached l m steps n → (e : Entry Build) → l.objects n ≡ e → IsEntry n e → EntryHas One e
  entry_fit n r Missing e i = tt
  entry_fit n r TooLong e i = tt
  entry_fit n r Junk e i = tt
  entry_fit n r (Holds b) e i = fit written IsMet b i.0 i.1 (inl (r.0, n, r.1, e))

  and_reached : (n : List ℕ) (b : Build) → (steps : ℕ) × IsReached l m steps n → l.objects n ≡ Holds b → (ns : List (List ℕ)) → AreIdentifiers ns → ((x : List ℕ) → Contains ns x → Contains (shows_of b).imports x) → AllByRecursion IsAsked ns
  and_reached n b r e [] all among = tt
  and_reached n b r e (x ∷ ns) all among = ((all.0, (suc r.0, (b, n, r.1, e, among x (has_head x ns)))), and_reached n b r e ns all.1 (λ y c. among y (has_more x ns y c)))

  imports_asked : (n : List ℕ) (b : Build) → IsAsked n → l.objects n ≡ Holds b → AllByRecursion IsAsked (shows_of b).imports
  imports_asked n b a e =
      let k : IsEntry n (Holds b) = subst (IsEntry n) e (library.objects n) in
      and_reached n b a.1 e (shows_of b).imports
      (subst (λ (f : Face Text). AreIdentifiers f.imports) (ap (λ (x : Compiled Text). x.shows) (sym (of_is b k.0 k.1))) (imports_named k.0.shows (written b k.0 k.1).symbols))
      (λ x c. c)

  entries : AreEntriesAlike asks files.asks l.objects (object_entry folder) file_of print_from One IsAsked
  entries = record {
    is = λ n a. entries_same written folder l library kept n a.0;
    known = λ n a. entry_fit n a.1 (l.objects n) refl (library.objects n);
    imports = λ n b a e. imports_asked n b a e;
    uses = λ n b a e. uses_alike IsMet b (λ y k p found c same. told p found (b, y, (a.1.0, n, a.1.1, e), k, c) same);
  }

  loaded_fit : (bs : List Build) → ((b : Build) → In bs b → Contains loaded b) → AllByRecursion (λ b. (c : Compiled Text) × IsValid b c) bs → AllByRecursion One bs
  loaded_fit [] i v = tt
  loaded_fit (b ∷ bs) i v = (fit written IsMet b v.0.0 v.0.1 (inr (i b (inl refl))), loaded_fit bs (λ x j. i x (inr j)) v.1)

  -- what a plan brings in
  abbrev IsFound : Build → Type 0
  IsFound b = (n : List ℕ) × (l.objects n ≡ Holds b)

  found_valid : (b : Build) (n : List ℕ) (e : Entry Build) → e ≡ Holds b → IsEntry n e → (c : Compiled Text) × IsValid b c
  found_valid b n e is i = let k : IsEntry n (Holds b) = subst (IsEntry n) is i in (k.0, k.1)

  new_valid : (bs : List Build) → AllByRecursion (λ b. l.objects (asks.name b) ≡ Holds b) bs → AllByRecursion (λ b. (c : Compiled Text) × IsValid b c) bs
  new_valid [] h = tt
  new_valid (b ∷ bs) h = (found_valid b (asks.name b) (l.objects (asks.name b)) h.0 (library.objects (asks.name b)), new_valid bs h.1)

  builds_so : (name : List ℕ) (bs : List Build) → plan asks l.objects loaded m name ≡ Ok bs → SameBuilds l loaded m name (map file_of bs) bs
  builds_so name bs e =
      let s : IsSeenTo asks l.objects loaded m name bs = plan_sees Build Text asks l.objects (named_so l library) loaded m name bs e in
      record {
        are = refl;
        together = go_together loaded bs together s.in_turn (new_valid bs s.found);
        planned = record {
          words = let h = s.words in let w = words_both loaded bs in omega (arith, h, w);
          command = s.command_there;
        };
        found = λ b c. plan_found l library loaded m name bs e b c;
      }

  by_answer : (name : List ℕ) (q : Result (List Build) (load.Refusal Text)) → plan asks l.objects loaded m name ≡ q → SamePlan l loaded m name (answer_as file_of print_from q) q
  by_answer name (Ok bs) e = builds_so name bs e
  by_answer name (Err r) e = same_refusal m r

  load_so : (name : List ℕ) → is_identifier m ≡ true → SamePlan l loaded m name (file_plan folder (map file_of loaded) m name) (build_plan l loaded m name)
  unfolding file_plan
  load_so name i =
      let a : Agrees file_of print_from One (plan asks l.objects loaded m name) (plan files.asks (object_entry folder) (map file_of loaded) m name) =
      plans_agree Build ObjFile Text Print asks files.asks file_of print_from One IsAsked l.objects (object_entry folder) (asked_alike IsMet linked) entries loaded (loaded_fit loaded (λ b j. of_in loaded b j) (all_valid loaded together)) m name (i, (0, refl)) in
      subst (λ r. SamePlan l loaded m name r (plan asks l.objects loaded m name)) (sym a.is) (by_answer name (plan asks l.objects loaded m name) refl)

pub loads_so : LoadsAlike
loads_so written linked folder l loaded m name i j library kept together told = load_so written linked folder l loaded library kept together m told name i
