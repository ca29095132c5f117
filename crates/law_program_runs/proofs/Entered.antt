-- One more module of builds joins.
use Rattle.std.proofs.Common.{◌≡◌, ℕ, suc, ◌+◌, ◌≤◌, List, [], ◌∷◌, ◌++◌, ℤ, Some, refl, ap, sym, ◌∙◌, subst, append_assoc}
use Rattle.std.proofs.lemmas.List.{append-nil}
use Rattle.std.specs.Prelude.{map, true, false, Bool, Contains, bytes_eq, if◌then◌else◌}
use Rattle.std.specs.List.{AllByRecursion}
use Rattle.ob_tree.specs.declared.names.QName.{QName}
use Rattle.ob_types.specs.TypedSyntax.{Procedure, Module}
use Rattle.ob_instr.specs.Image.{World}
use Rattle.ob_meaning.specs.Values.{changed, Program, procedure_of, procedure_named, Value, AnObject, State, Formals}
use Rattle.ob_meaning.specs.Commands.{first_globals, with_module}
use Rattle.law_simulation_relation.specs.Layout.{module_number, procedure_index, procedures_in, module_held}
use Rattle.law_simulation_relation.specs.Relation.{AreDifferent, number_of, no_places}
use Rattle.law_simulation_relation.specs.Texts.{module_texts}
use Rattle.law_simulation_relation.specs.Setting.{Setting, StandIn, has_of}
use Rattle.law_simulation_relation.proofs.Names.{bytes_same}
use Rattle.law_simulation_relation.proofs.Places.{Hs}
use Rattle.law_simulation_relation.proofs.Firsts.{zeros}
use Rattle.law_simulation_relation.proofs.Modules.{M}
use Rattle.ob_builds.specs.Builds.{Build, tree_of, file_of}
use Rattle.law_builds.proofs.Members.{has_left, to_in, of_in, In}
use Rattle.law_program_runs.specs.Builds.{program_of, AreEntered, HasModule, FormsStay, BuildsStand}
use Rattle.law_program_runs.proofs.Carried.{Carries}
use Rattle.law_program_runs.proofs.Joins.{Stays, Differs, Follows, stands_on, first_slots, first_held, others_differ, last_different}
use Rattle.law_program_runs.proofs.Images.{own_words}
use Rattle.law_program_runs.proofs.Settings.{map_both, all_of, all_map, all_two, front, setting, all_stand}
use Rattle.std.proofs.Common.{inl, inr}

-- a procedure of a program has its number also with more modules behind
module_stays : (P more : Program) (q : QName) (p : Procedure) → procedure_of P q ≡ Some p → module_number (P ++ more) q.«module» ≡ module_number P q.«module»
module_stays [] more q p e = absurd (cc)
module_stays (m ∷ ms) more q p e = go (bytes_eq q.«module» m.name) refl (λ f. module_stays ms more q p f)
  where
    go : (b : Bool) → bytes_eq q.«module» m.name ≡ b → (procedure_of ms q ≡ Some p → module_number (ms ++ more) q.«module» ≡ module_number ms q.«module») → (if b then 0 else suc (module_number (ms ++ more) q.«module»)) ≡ (if b then 0 else suc (module_number ms q.«module»))
    go true f rest = refl
    go false f rest = ap suc (rest (sym (ap (λ b. if b then procedure_named m.procedures q.object else procedure_of ms q) f) ∙ e))

procedures_stay : (P more : Program) (q : QName) (p : Procedure) → procedure_of P q ≡ Some p → procedures_in (P ++ more) q.«module» ≡ procedures_in P q.«module»
procedures_stay [] more q p e = absurd (cc)
procedures_stay (m ∷ ms) more q p e = go (bytes_eq q.«module» m.name) refl (λ f. procedures_stay ms more q p f)
  where
    go : (b : Bool) → bytes_eq q.«module» m.name ≡ b → (procedure_of ms q ≡ Some p → procedures_in (ms ++ more) q.«module» ≡ procedures_in ms q.«module») → (if b then m.procedures else procedures_in (ms ++ more) q.«module») ≡ (if b then m.procedures else procedures_in ms q.«module»)
    go true f rest = refl
    go false f rest = rest (sym (ap (λ b. if b then procedure_named m.procedures q.object else procedure_of ms q) f) ∙ e)

in_map : {A B : Type 0} (f : A → B) (xs : List A) (x : A) → In xs x → In (map f xs) (f x)
in_map f [] x i = absurd i
in_map f (y ∷ xs) x (inl e) = inl (ap f e)
in_map f (y ∷ xs) x (inr i) = inr (in_map f xs x i)

module _ (S : BuildsStand) (heap : ℕ) (few : heap ≤ 4194304) (all : List Build) (l : AreEntered all) (bs : List Build) (b : Build) (more : List Build) (P : Program) (e : all ≡ bs ++ (b ∷ more)) (p : P ≡ program_of bs) (rest : List ℤ) where
  abbrev m : Module
  m = tree_of b

  abbrev pub next : Program
  next = P ++ m ∷ []

  abbrev pub e2 : all ≡ (bs ++ b ∷ []) ++ more
  e2 = e ∙ sym (append_assoc bs (b ∷ []) more)

  abbrev pub p2 : next ≡ program_of (bs ++ b ∷ [])
  p2 = ap (λ x. x ++ m ∷ []) p ∙ sym (map_both tree_of bs (b ∷ []))

  abbrev pub before : Setting
  before = setting S heap few all l bs (b ∷ more) P e p (own_words (file_of b) ++ rest)

  abbrev pub behind : Setting
  behind = setting S heap few all l (bs ++ b ∷ []) more next e2 p2 rest

  abbrev pub loaded : AreEntered (bs ++ b ∷ [])
  loaded = front S heap few all l (bs ++ b ∷ []) more next e2 p2

  stay : FormsStay P m
  stay = subst (λ x. FormsStay x m) (sym p) (S.forms_stay bs b loaded.loaded)

  numbers : (fs : Formals) (q : QName) → has_of before fs q → number_of next (has_of behind) behind.img q ≡ number_of P (has_of before) before.img q
  numbers s q h =
      let n = (all_stand S heap few all l bs (b ∷ more) P e p (own_words (file_of b) ++ rest)).image.numbered s q h in
      ap (λ k. record { «module» = k; proc = procedure_index (procedures_in next q.«module») q.object }) (module_stays P (m ∷ []) q n.p n.is)
      ∙ ap (λ ps. record { «module» = module_number P q.«module»; proc = procedure_index ps q.object }) (procedures_stay P (m ∷ []) q n.p n.is)

  carries : Carries before behind
  carries = record {
    types = λ q t e. stay.types q t e;
    has = λ s q h. subst (λ x. S.values x s q ≡ true → S.values (x ++ m ∷ []) s q ≡ true) (sym p) (S.values_stay bs b loaded.loaded s q) h;
    numbers = numbers;
    tags = λ q line fs is. refl;
  }

  abbrev firsts : List ℕ → Value
  firsts = first_globals next m.variables

  -- the file of the module has its words
  has : HasModule next b
  has = subst (λ x. HasModule x b) (sym p2) (S.modules (bs ++ b ∷ []) loaded.loaded b (has_last bs b))
    where
      in_last : (xs : List Build) (b : Build) → In (xs ++ b ∷ []) b
      in_last [] b = inl refl
      in_last (x ∷ xs) b = inr (in_last xs b)

      has_last : (xs : List Build) (b : Build) → Contains (xs ++ b ∷ []) b
      has_last xs b = of_in (xs ++ b ∷ []) b (in_last xs b)

  module _ (os : List AnObject) (g : List ℕ → List ℕ → Value) where
    abbrev h : List ℕ → List ℕ → Value
    h = changed g m.name firsts

    own : h m.name ≡ firsts
    own = ap (λ b. if b then firsts else g m.name) (bytes_same m.name)

    different : AreDifferent (module_held next m)
    different = last_different next P m behind.ok

    words : M behind os m (h m.name) ≡ own_words (file_of b)
    words =
        ap (λ v. M behind os m v) own
        ∙ ap (λ l. l ++ module_texts next m) (first_slots behind os m.variables different has.forms)
        ∙ ap (λ n. zeros n ++ module_texts next m) (sym has.variables)
        ∙ ap (λ l. zeros (file_of b).globals.variable_words ++ l) (sym has.strings)

    module_as_before : (k : Build) → Contains bs k → (module_held next (tree_of k) ≡ module_held P (tree_of k)) × (module_texts next (tree_of k) ≡ module_texts P (tree_of k))
    module_as_before k c =
        let inside : Contains P (tree_of k) = subst (λ x. Contains x (tree_of k)) (sym p) (of_in (program_of bs) (tree_of k) (in_map tree_of bs k (to_in bs k c))) in
        let now = S.modules (bs ++ b ∷ []) loaded.loaded k (has_left bs (b ∷ []) k c) in
        let old = S.modules bs (front S heap few all l bs (b ∷ more) P e p).loaded k c in
        (stay.variables (tree_of k) inside, ap (λ x. module_texts x (tree_of k)) p2 ∙ sym now.strings ∙ old.strings ∙ ap (λ x. module_texts x (tree_of k)) (sym p))

    abbrev AsBefore : Module → Type 0
    AsBefore k = (module_held next k ≡ module_held P k) × (module_texts next k ≡ module_texts P k)

    all_as_before : AllByRecursion AsBefore P
    all_as_before = subst (λ x. AllByRecursion AsBefore x) (sym p) (all_map tree_of AsBefore bs (all_of (λ k. AsBefore (tree_of k)) bs (λ k c. module_as_before k c)))

    follows : Follows before behind os g h
    follows = record {
      carries = carries;
      more = m ∷ [];
      program = refl;
      heap = refl;
      behind = ap (λ l. l ++ rest) (sym words ∙ sym (append-nil (M behind os m (h m.name))));
      stay = all_two AsBefore (Differs m) (Stays before behind g h) P (λ k x d. record { held = x.0; texts = x.1; values = ap (λ b. if b then firsts else g k.name) d }) all_as_before (others_differ next P m behind.ok);
      fine = (subst (λ v. Hs behind os [] (no_places next (has_of behind) behind.img) (module_held next m) v) (sym own) (first_held behind os m.variables different has.forms), tt);
    }

  -- the words stand also behind the joining
  pub joins : (s : State) (w : World) → StandIn before [] s w → StandIn behind [] (with_module next m s) w
  joins s w st = stands_on before behind s (h s.made s.store.globals) w (follows s.made s.store.globals) st
