-- Words that stand for a state stand also for that state with one more module, whose words have stood behind.
use Rattle.std.proofs.Common.{◌≡◌, ℕ, suc, ◌+◌, List, [], ◌∷◌, ◌++◌, length, refl, sym, ap, ◌∙◌, subst, arith, append_assoc, length-append}
use Rattle.std.specs.Prelude.{map, false, bytes_eq}
use Rattle.std.specs.List.{AllByRecursion}
use Rattle.ob_types.specs.declared.typed.TypedVariable.{TypedVariable}
use Rattle.ob_types.specs.TypedSyntax.{Module}
use Rattle.ob_instr.specs.Image.{World}
use Rattle.ob_meaning.specs.Values.{changed, Program, form_in, words, first, Value, AnObject, State}
use Rattle.ob_meaning.specs.Meaning.{costs_of}
use Rattle.ob_meaning.specs.Calls.{held_variable}
use Rattle.ob_meaning.specs.Commands.{first_globals}
use Rattle.law_simulation_relation.specs.Layout.{slots_words, module_held, module_number}
use Rattle.law_simulation_relation.specs.Relation.{AreDifferent, FreshModule, ModulesOk, no_places, flat_objects}
use Rattle.law_simulation_relation.specs.Texts.{module_texts}
use Rattle.law_simulation_relation.specs.Linked.{OwnFormsOk}
use Rattle.law_simulation_relation.specs.Setting.{Setting, StandIn, has_of}
use Rattle.law_simulation_relation.proofs.Names.{bytes_same, bytes_sym}
use Rattle.law_simulation_relation.proofs.Parts.{F, W}
use Rattle.law_simulation_relation.proofs.Places.{S, Hs, changed_own, slots_fresh, fresh_fine}
use Rattle.law_simulation_relation.proofs.Firsts.{zeros, zeros_both, first_words, first_fine}
use Rattle.law_simulation_relation.proofs.Modules.{M, Ms, MsFine}
use Rattle.law_program_runs.proofs.Carried.{Carries, Built, are_built, fine_stays, words_stay, form_ok, objects_fine, objects_stay, heap_same}

-- A MODULE AS IT WAS

-- its variables and its strings are the same in the second setting, and so are their values
pub record Stays (c d : Setting) (g h : List ℕ → List ℕ → Value) (m : Module) : Type 0 where
  pub held : module_held d.program m ≡ module_held c.program m
  pub texts : module_texts d.program m ≡ module_texts c.program m
  pub values : h m.name ≡ g m.name

module _ (c d : Setting) (k : Carries c d) (os : List AnObject) (built : Built os) where
  slots_stay : (vs : List TypedVariable) (g : List ℕ → Value) → Hs c os [] (no_places c.program (has_of c) c.img) (map (held_variable c.program) vs) g → S d os [] (no_places d.program (has_of d) d.img) 0 (map (held_variable c.program) vs) g ≡ S c os [] (no_places c.program (has_of c) c.img) 0 (map (held_variable c.program) vs) g
  slots_stay [] g h = refl
  slots_stay (v ∷ vs) g h =
      ap (λ l. l ++ S d os [] (no_places d.program (has_of d) d.img) 0 (map (held_variable c.program) vs) g) (words_stay c d k os built (form_in c.program v.of) (g v.name) h.1.0)
      ∙ ap (λ l. W c os (form_in c.program v.of) (g v.name) ++ l) (slots_stay vs g h.1.1)

  held_stays : (vs : List TypedVariable) (g : List ℕ → Value) → Hs c os [] (no_places c.program (has_of c) c.img) (map (held_variable c.program) vs) g → Hs d os [] (no_places d.program (has_of d) d.img) (map (held_variable c.program) vs) g
  held_stays [] g h = tt
  held_stays (v ∷ vs) g h = (form_ok c d k (form_in c.program v.of) h.0, (fine_stays c d k os built (form_in c.program v.of) (g v.name) h.1.0, held_stays vs g h.1.1))

  module_stays : (m : Module) (g h : List ℕ → List ℕ → Value) → Stays c d g h m → Hs c os [] (no_places c.program (has_of c) c.img) (module_held c.program m) (g m.name) → M d os m (h m.name) ≡ M c os m (g m.name)
  module_stays m g h s fine =
      ap (λ v. M d os m v) s.values
      ∙ ap (λ hs. S d os [] (no_places d.program (has_of d) d.img) 0 hs (g m.name) ++ module_texts d.program m) s.held
      ∙ ap (λ l. S d os [] (no_places d.program (has_of d) d.img) 0 (module_held c.program m) (g m.name) ++ l) s.texts
      ∙ ap (λ l. l ++ module_texts c.program m) (slots_stay m.variables (g m.name) fine)

  module_fine : (m : Module) (g h : List ℕ → List ℕ → Value) → Stays c d g h m → Hs c os [] (no_places c.program (has_of c) c.img) (module_held c.program m) (g m.name) → Hs d os [] (no_places d.program (has_of d) d.img) (module_held d.program m) (h m.name)
  module_fine m g h s fine =
      subst (λ v. Hs d os [] (no_places d.program (has_of d) d.img) (module_held d.program m) v) (sym s.values)
      (subst (λ hs. Hs d os [] (no_places d.program (has_of d) d.img) hs (g m.name)) (sym s.held) (held_stays m.variables (g m.name) fine))

  modules_stay : (ms : List Module) (g h : List ℕ → List ℕ → Value) → AllByRecursion (Stays c d g h) ms → MsFine c os ms g → Ms d os ms h ≡ Ms c os ms g
  modules_stay [] g h s fine = refl
  modules_stay (m ∷ ms) g h s fine = ap (λ l. l ++ Ms d os ms h) (module_stays m g h s.0 fine.0) ∙ ap (λ l. M c os m (g m.name) ++ l) (modules_stay ms g h s.1 fine.1)

  modules_fine : (ms : List Module) (g h : List ℕ → List ℕ → Value) → AllByRecursion (Stays c d g h) ms → MsFine c os ms g → MsFine d os ms h
  modules_fine [] g h s fine = tt
  modules_fine (m ∷ ms) g h s fine = (module_fine m g h s.0 fine.0, modules_fine ms g h s.1 fine.1)

-- ONE BEHIND THE OTHER

module _ (d : Setting) (os : List AnObject) where
  both_words : (ms ns : List Module) (h : List ℕ → List ℕ → Value) → Ms d os (ms ++ ns) h ≡ Ms d os ms h ++ Ms d os ns h
  both_words [] ns h = refl
  both_words (m ∷ ms) ns h = ap (λ l. M d os m (h m.name) ++ l) (both_words ms ns h) ∙ sym (append_assoc (M d os m (h m.name)) (Ms d os ms h) (Ms d os ns h))

  both_fine : (ms ns : List Module) (h : List ℕ → List ℕ → Value) → MsFine d os ms h → MsFine d os ns h → MsFine d os (ms ++ ns) h
  both_fine [] ns h x y = y
  both_fine (m ∷ ms) ns h x y = (x.0, both_fine ms ns h x.1 y)

-- FROM ONE SETTING TO ANOTHER ONE

-- the state with other values of the modules' variables
abbrev pub with_globals : State → (List ℕ → List ℕ → Value) → State
with_globals s h = record s { store = record s.store { globals = h } }

-- the program is the first's with some modules behind it, whose words the first has behind its own
pub record Follows (c d : Setting) (os : List AnObject) (g h : List ℕ → List ℕ → Value) : Type 0 where
  pub carries : Carries c d
  pub more : List Module
  pub program : d.program ≡ c.program ++ more
  pub heap : d.heap ≡ c.heap
  pub behind : c.behind ≡ Ms d os more h ++ d.behind
  pub stay : AllByRecursion (Stays c d g h) c.program
  pub fine : MsFine d os more h

pub stands_on : (c d : Setting) (s : State) (h : List ℕ → List ℕ → Value) (w : World) → Follows c d s.made s.store.globals h → StandIn c [] s w → StandIn d [] (with_globals s h) w
stands_on c d s h w f st =
    let os = s.made in
    let built = are_built c os os s.store.objects st.objects_fine in
    let k = f.carries in
    let A = Ms c os c.program s.store.globals in
    let B = Ms d os f.more h in
    let Oc = flat_objects c.program (has_of c) c.img os os s.store.objects in
    let Od = flat_objects d.program (has_of d) d.img os os s.store.objects in
    let old = modules_stay c d k os built c.program s.store.globals h f.stay st.modules_fine in
    let all : Ms d os d.program h ≡ A ++ B = ap (λ p. Ms d os p h) f.program ∙ both_words d os c.program f.more h ∙ ap (λ l. l ++ B) old in
    let objects = objects_stay c d k os built os s.store.objects st.objects_fine in
    let len = length-append A B in
    let size = ap length all in
    let behind = ap length f.behind ∙ length-append B d.behind in
    record {
      stack_free = st.stack_free;
      heap_free = st.heap_free;
      words = st.words
          ∙ ap (λ l. A ++ (l ++ (st.stack_free ++ (Oc ++ st.heap_free)))) f.behind
          ∙ ap (λ l. A ++ l) (append_assoc B d.behind (st.stack_free ++ (Oc ++ st.heap_free)))
          ∙ sym (append_assoc A B (d.behind ++ (st.stack_free ++ (Oc ++ st.heap_free))))
          ∙ ap (λ l. l ++ (d.behind ++ (st.stack_free ++ (Oc ++ st.heap_free)))) (sym all)
          ∙ ap (λ l. Ms d os d.program h ++ (d.behind ++ (st.stack_free ++ (l ++ st.heap_free)))) (sym objects);
      globals_size = omega (arith, size, len, behind, st.globals_size, c.globals, d.globals);
      stack_size = st.stack_size ∙ c.stack ∙ sym d.stack;
      heap_size = st.heap_size ∙ sym f.heap;
      stack = st.stack ∙ omega (arith, c.globals, d.globals);
      heap_next = st.heap_next ∙ ap (λ n. n + costs_of os) (sym (heap_same c d k));
      turns = st.turns;
      out = st.out;
      modules_fine = subst (λ p. MsFine d os p h) (sym f.program) (both_fine d os c.program f.more h (modules_fine c d k os built c.program s.store.globals h f.stay st.modules_fine) f.fine);
      calls_fine = tt;
      objects_fine = objects_fine c d k os built os s.store.objects st.objects_fine;
    }

-- A MODULE WITH ITS FIRST VALUES

module _ (d : Setting) (os : List AnObject) where
  abbrev P : Program
  P = d.program

  pub first_slots : (vs : List TypedVariable) → AreDifferent (map (held_variable P) vs) → OwnFormsOk P (map (held_variable P) vs) → S d os [] (no_places P (has_of d) d.img) 0 (map (held_variable P) vs) (first_globals P vs) ≡ zeros (slots_words (map (held_variable P) vs))
  first_slots [] different ok = refl
  first_slots (v ∷ vs) different ok =
      let t = form_in P v.of in
      let g = first_globals P vs in
      let hs = map (held_variable P) vs in
      let g2 = changed g v.name (first t) in
      ap (λ x. W d os t x ++ S d os [] (no_places P (has_of d) d.img) 0 hs g2) (changed_own g v.name v.name (first t) (bytes_same v.name))
      ∙ ap (λ l. W d os t (first t) ++ l) (slots_fresh d os [] (no_places P (has_of d) d.img) hs v.name 0 g (first t) different.0 ∙ first_slots vs different.1 ok.1)
      ∙ ap (λ l. l ++ zeros (slots_words hs)) (first_words d os t ok.0)
      ∙ zeros_both (words t) (slots_words hs)

  pub first_held : (vs : List TypedVariable) → AreDifferent (map (held_variable P) vs) → OwnFormsOk P (map (held_variable P) vs) → Hs d os [] (no_places P (has_of d) d.img) (map (held_variable P) vs) (first_globals P vs)
  first_held [] different ok = tt
  first_held (v ∷ vs) different ok =
      let t = form_in P v.of in
      let g = first_globals P vs in
      (ok.0, (subst (λ x. F d os t x) (sym (changed_own g v.name v.name (first t) (bytes_same v.name))) (first_fine d os t ok.0), fresh_fine d os [] (no_places P (has_of d) d.img) (map (held_variable P) vs) v.name g (first t) different.0 (first_held vs different.1 ok.1)))

-- NAMES

fresh_last : (x : List ℕ) (ms : List Module) (m : Module) → FreshModule x (ms ++ m ∷ []) → bytes_eq x m.name ≡ false
fresh_last x [] m fresh = fresh.0
fresh_last x (n ∷ ms) m fresh = fresh_last x ms m fresh.1

abbrev pub Differs : Module → Module → Type 0
Differs m n = bytes_eq n.name m.name ≡ false

pub others_differ : (program : Program) (ms : List Module) (m : Module) → ModulesOk program (ms ++ m ∷ []) → AllByRecursion (Differs m) ms
others_differ program [] m ok = tt
others_differ program (n ∷ ms) m ok = (fresh_last n.name ms m ok.0, others_differ program ms m ok.1.1)

pub last_different : (program : Program) (ms : List Module) (m : Module) → ModulesOk program (ms ++ m ∷ []) → AreDifferent (module_held program m)
last_different program [] m ok = ok.1.0
last_different program (n ∷ ms) m ok = last_different program ms m ok.1.1

pub last_number : (ms : List Module) (m : Module) → AllByRecursion (Differs m) ms → module_number (ms ++ m ∷ []) m.name ≡ length ms
last_number [] m d = rw (bytes_same m.name) refl
last_number (n ∷ ms) m d = rw (bytes_sym m.name n.name ∙ d.0) (ap suc (last_number ms m d.1))
