-- The words of the modules' variables.
use Rattle.std.proofs.Common.{◌≡◌, ℕ, suc, ◌+◌, List, [], ◌∷◌, ◌++◌, length, refl, sym, ap, ◌∙◌, subst, arith, append_assoc, length-append}
use Rattle.std.specs.Prelude.{ℤ, map, Bool, true, false, bytes_eq, if◌then◌else◌}
use Rattle.ob_types.specs.declared.typed.TypedVariable.{TypedVariable}
use Rattle.ob_types.specs.TypedSyntax.{Module}
use Rattle.ob_meaning.specs.Values.{changed, Program, Form, form_in, words, Value, Held, AnObject}
use Rattle.ob_meaning.specs.Globals.{words_of_variables, globals_words, all_globals}
use Rattle.ob_meaning.specs.Calls.{held_variable}
use Rattle.law_simulation_relation.specs.Layout.{slot, slots_words, form_named, has_copy, module_held, module_offset, variables_in}
use Rattle.law_simulation_relation.specs.Relation.{ValueIn, FormOk, FreshModule, ModulesOk, no_places, flat_module, flat_modules, ModulesFine}
use Rattle.law_simulation_relation.specs.Texts.{module_texts, texts_in}
use Rattle.law_simulation_relation.proofs.Names.{bytes_true, bytes_sym}
use Rattle.law_simulation_relation.proofs.Lengths.{module_length}
use Rattle.law_simulation_relation.proofs.Copies.{WordsAt}
use Rattle.law_simulation_relation.proofs.Parts.{part_same, part_before, part_behind, Known, F}
use Rattle.law_simulation_relation.proofs.Places.{S, Hs, in_frame, slots-length}
use Rattle.law_simulation_relation.specs.Setting.{Setting, has_of}

no_copies : (program : Program) (vs : List TypedVariable) (x : List ℕ) → has_copy (map (held_variable program) vs) x ≡ false
no_copies program [] x = refl
no_copies program (v ∷ vs) x = go (bytes_eq x v.name) (no_copies program vs x)
  where
    go : (b : Bool) → has_copy (map (held_variable program) vs) x ≡ false → (if b then false else has_copy (map (held_variable program) vs) x) ≡ false
    go true h = refl
    go false h = h

variables_length : (program : Program) (vs : List TypedVariable) → slots_words (map (held_variable program) vs) ≡ words_of_variables program vs
variables_length program [] = refl
variables_length program (v ∷ vs) = ap (λ n. words (form_in program v.of) + n) (variables_length program vs)

module _ (c : Setting) (os : List AnObject) where
  abbrev pub Sm : Module → (List ℕ → Value) → List ℤ
  Sm m g = S c os [] (no_places c.program (has_of c) c.img) 0 (module_held c.program m) g

  abbrev pub M : Module → (List ℕ → Value) → List ℤ
  M m g = flat_module c.program (has_of c) c.img os m g

  abbrev pub Ms : List Module → (List ℕ → List ℕ → Value) → List ℤ
  Ms ms g = flat_modules c.program (has_of c) c.img os ms g

  abbrev pub MsFine : List Module → (List ℕ → List ℕ → Value) → Type 0
  MsFine ms g = ModulesFine c.program (has_of c) c.img os ms g

  pub one-length : (m : Module) (g : List ℕ → Value) → length (M m g) ≡ globals_words c.program m
  one-length m g = length-append (Sm m g) (module_texts c.program m) ∙ omega (arith, slots-length c os [] (no_places c.program (has_of c) c.img) (module_held c.program m) 0 g, variables_length c.program m.variables, module_length c.program m)

  pub modules-length : (ms : List Module) (g : List ℕ → List ℕ → Value) → length (Ms ms g) ≡ all_globals c.program ms
  modules-length [] g = refl
  modules-length (m ∷ ms) g = length-append (M m (g m.name)) (Ms ms g) ∙ omega (arith, one-length m (g m.name), modules-length ms g)

  map_other : (g : List ℕ → List ℕ → Value) (m n : List ℕ) (h : List ℕ → Value) → bytes_eq m n ≡ false → changed g m h n ≡ g n
  map_other g m n h e = ap (λ b. if b then h else g n) (bytes_sym n m ∙ e)

  map_own : (g : List ℕ → List ℕ → Value) (m n : List ℕ) (h : List ℕ → Value) → bytes_eq m n ≡ true → changed g m h n ≡ h
  map_own g m n h e = ap (λ b. if b then h else g n) (bytes_sym n m ∙ e)

  other_modules : (ms : List Module) (g : List ℕ → List ℕ → Value) (m : List ℕ) (h : List ℕ → Value) → FreshModule m ms → Ms ms (changed g m h) ≡ Ms ms g
  other_modules [] g m h fresh = refl
  other_modules (n ∷ ms) g m h fresh = ap (λ v. M n v ++ Ms ms (changed g m h)) (map_other g m n.name h fresh.0) ∙ ap (λ l. M n (g n.name) ++ l) (other_modules ms g m h fresh.1)

  other_modules_fine : (ms : List Module) (g : List ℕ → List ℕ → Value) (m : List ℕ) (h : List ℕ → Value) → FreshModule m ms → MsFine ms g → MsFine ms (changed g m h)
  other_modules_fine [] g m h fresh fine = tt
  other_modules_fine (n ∷ ms) g m h fresh fine = (subst (λ v. Hs c os [] (no_places c.program (has_of c) c.img) (module_held c.program n) v) (sym (map_other g m n.name h fresh.0)) fine.0, other_modules_fine ms g m h fresh.1 fine.1)

  -- a module's variable, with its type's form in order
  pub record ModuleKnown (t : Form) (v : Value) (now : List ℤ) (after : Value → List ℤ) (n : ℕ) (Fits : Value → Type 0) : Type 0 where
    pub known : Known c os t v now after n Fits
    pub ok : FormOk c.program t

  pub module_known : (ms : List Module) (g : List ℕ → List ℕ → Value) (m x : List ℕ) → ModulesOk c.program ms → ValueIn (variables_in c.program ms m) x → MsFine ms g → ModuleKnown (form_named (variables_in c.program ms m) x) (g m x) (Ms ms g) (λ w. Ms ms (changed g m (changed (g m) x w))) (module_offset c.program ms m + slot (variables_in c.program ms m) x) (λ w. MsFine ms (changed g m (changed (g m) x w)))
  module_known [] g m x ok here fine = absurd here
  module_known (n ∷ ms) g m x ok here fine = go (λ h. module_known ms g m x ok.1.1 h fine.1) (bytes_eq m n.name) refl here
    where
      new : Value → List ℕ → List ℕ → Value
      new w = changed g m (changed (g m) x w)

      hs : List Held
      hs = module_held c.program n

      go : (ValueIn (variables_in c.program ms m) x → ModuleKnown (form_named (variables_in c.program ms m) x) (g m x) (Ms ms g) (λ w. Ms ms (new w)) (module_offset c.program ms m + slot (variables_in c.program ms m) x) (λ w. MsFine ms (new w))) → (b : Bool) → bytes_eq m n.name ≡ b → ValueIn (if b then hs else variables_in c.program ms m) x → ModuleKnown (form_named (if b then hs else variables_in c.program ms m) x) (g m x) (M n (g n.name) ++ Ms ms g) (λ w. M n (new w n.name) ++ Ms ms (new w)) ((if b then 0 else globals_words c.program n + module_offset c.program ms m) + slot (if b then hs else variables_in c.program ms m) x) (λ w. Hs c os [] (no_places c.program (has_of c) c.img) hs (new w n.name) × MsFine ms (new w))
      go rest true e here =
          let same = bytes_true m n.name e in
          let r = in_frame c os [] (no_places c.program (has_of c) c.img) hs 0 x (g n.name) here ok.1.0 in
          let own = r.own (no_copies c.program n.variables x) in
          let top : (w : Value) → new w n.name ≡ changed (g n.name) x w = λ w. map_own g m n.name (changed (g m) x w) e ∙ ap (λ j. changed (g j) x w) same in
          let fresh : FreshModule m ms = subst (λ z. FreshModule z ms) (sym same) ok.0 in
          record {
            known = record {
              part = part_same c os _ (g n.name x) (g m x) _ _ _ (λ w. M n (new w n.name) ++ Ms ms (new w)) _ _
                  (part_behind c os _ _ (Ms ms g) _ _ _ (part_behind c os _ _ (module_texts c.program n) _ _ _ own))
                  (ap (λ j. g j x) (sym same)) refl
                  (λ w f. ap (λ h. M n h ++ Ms ms (new w)) (top w) ∙ ap (λ l. M n (changed (g n.name) x w) ++ l) (other_modules ms g m (changed (g m) x w) fresh))
                  (omega arith);
              fine = subst (λ j. F c os (form_named hs x) (g j x)) (sym same) (r.fine fine.0);
              keeps = λ w f. (subst (λ h. Hs c os [] (no_places c.program (has_of c) c.img) hs h) (sym (top w)) (r.keeps fine.0 w f), other_modules_fine ms g m (changed (g m) x w) fresh fine.1);
            };
            ok = r.ok fine.0;
          }
      go rest false e here =
          let r = rest here in
          let top : (w : Value) → new w n.name ≡ g n.name = λ w. map_other g m n.name (changed (g m) x w) e in
          record {
            known = record {
              part = part_same c os _ (g m x) (g m x) _ _ _ (λ w. M n (new w n.name) ++ Ms ms (new w)) _ _
                  (part_before c os _ _ (M n (g n.name)) (Ms ms g) (λ w. Ms ms (new w)) _ r.known.part)
                  refl refl
                  (λ w f. ap (λ h. M n h ++ Ms ms (new w)) (top w))
                  (ap (λ k. k + (module_offset c.program ms m + slot (variables_in c.program ms m) x)) (one-length n (g n.name)) ∙ omega arith);
              fine = r.known.fine;
              keeps = λ w f. (subst (λ h. Hs c os [] (no_places c.program (has_of c) c.img) hs h) (sym (top w)) fine.0, r.known.keeps w f);
            };
            ok = r.ok;
          }

  -- a part of a module's strings, among the words of all modules
  pub texts_at : (ms : List Module) (g : List ℕ → List ℕ → Value) (x : List ℕ) (before ws behind : List ℤ) → texts_in c.program ms x ≡ before ++ (ws ++ behind) → WordsAt (Ms ms g) (suc (module_offset c.program ms x + (slots_words (variables_in c.program ms x) + length before))) ws
  texts_at [] g x before ws behind e = record { before = before; behind = behind; at = omega arith; is = e }
  texts_at (m ∷ ms) g x before ws behind e = go (bytes_eq x m.name) e (λ e. texts_at ms g x before ws behind e)
    where
      go : (b : Bool) → (if b then module_texts c.program m else texts_in c.program ms x) ≡ before ++ (ws ++ behind) → (texts_in c.program ms x ≡ before ++ (ws ++ behind) → WordsAt (Ms ms g) (suc (module_offset c.program ms x + (slots_words (variables_in c.program ms x) + length before))) ws) → WordsAt (M m (g m.name) ++ Ms ms g) (suc ((if b then 0 else globals_words c.program m + module_offset c.program ms x) + (slots_words (if b then module_held c.program m else variables_in c.program ms x) + length before))) ws
      go true e rest =
          let len = slots-length c os [] (no_places c.program (has_of c) c.img) (module_held c.program m) 0 (g m.name) in
          record {
            before = Sm m (g m.name) ++ before;
            behind = behind ++ Ms ms g;
            at = omega (arith, length-append (Sm m (g m.name)) before, len);
            is = ap (λ l. (Sm m (g m.name) ++ l) ++ Ms ms g) e ∙ simp append_assoc;
          }
      go false e rest =
          let r = rest e in
          record {
            before = M m (g m.name) ++ r.before;
            behind = r.behind;
            at = omega (arith, length-append (M m (g m.name)) r.before, one-length m (g m.name), r.at);
            is = ap (λ l. M m (g m.name) ++ l) r.is ∙ simp append_assoc;
          }
