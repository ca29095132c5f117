-- A compile and a make in worlds that are alike.
use Rattle.std.proofs.Common.{◌≡◌, ℕ, List, [], ◌∷◌, ◌++◌, Bool, true, false, cond, length, refl, sym, ap, ◌∙◌, subst, Result, Ok, Err, inl, inr}
use Rattle.std.specs.Prelude.{map, ◌⊎◌}
use Rattle.ob_tree.specs.declared.print.Print.{Print}
use Rattle.ob_env_walk.specs.Walk.{symbol_entry}
use Rattle.ob_link.specs.Files.{Files}
use Rattle.ob_compile_model.specs.Compiling as compile
use Rattle.ob_compile_model.specs.Compiling.{Compiled, compiled, texts, prints}
use Rattle.ob_parse_grammar.specs.Identifiers.{is_identifier}
use Rattle.ob_make.specs.declared.turns.Turn.{Turn}
use Rattle.ob_make.specs.declared.turns.Turn.TheVariants as turn
use Rattle.ob_make.specs.Order.{MakeEnd, order}
use Rattle.ob_make.specs.Stale.{turn_in}
use Rattle.ob_make.specs.Folder.{seen_in, source_name as source_file, prints as print_marks}
use Rattle.ob_words.specs.declared.asked.Settings.{Settings}
use Rattle.ob_shell_reports.specs.Texts.{refused, made_text}
use Rattle.ob_shell_model.specs.Folds.{Answer, part}
use Rattle.ob_shell_model.specs.Making.{turn_at, by_turn, in_turn, behind, and_on, behind_turns, made_in, make_answer}
use Rattle.ob_shell_model.specs.Bytes as bytes
use Rattle.ob_shell_model.specs.Bytes.{files_of, counted}
use Rattle.ob_builds.specs.Builds.{Text}
use Rattle.ob_builds.specs.Written.{BuildsAreWritten}
use Rattle.ob_shell_model.specs.Library.{Change}
use Rattle.ob_shell_model.specs.Model as model
use Rattle.ob_shell_model.specs.Model.{World, interface_in, becomes, or_empty, compile_answer, compiled_in, maker}
use Rattle.ob_shell_model.specs.OneAge.{ByCompile, ByCheck, ByMake, AreToldApart}
use Rattle.law_session.specs.Agreeing.{part_as}
use Rattle.law_session.specs.Named.{AreIdentifiers}
use Rattle.law_session.specs.New.{NewIsValid}
use Rattle.law_session.specs.Composing.{as_bytes, CompilesAlike}
use Rattle.law_session.proofs.Parts.{map_append, map_length, at_end}
use Rattle.law_session.proofs.Core.{Core, CompilesSo, compiles_so}
use Rattle.law_session.proofs.Commanded.{Alright, one_part}
use Rattle.law_session.proofs.MakesOrder.{IsOfIdentifiers}
use Rattle.law_session.proofs.MakesSeen.{orders_seen, orders_named, turns_same}

-- A COMPILE

compiled_so : (s : Settings) (w : bytes.World) (v : World) (name text : List ℕ) (r : Result (Compiled Print) (compile.Refusal Print)) (q : Result (Compiled Text) (compile.Refusal Text)) → Core s w v → CompilesSo s w v text r q → Alright s (bytes.compile_answer w name r) (compile_answer v name text q)
compiled_so s w v name text (Ok c) (Ok d) h k = record {
  same = record { parts = ap (λ cs. part cs (counted w.files c.shows)) k.changes ∙ ap (λ t. part (map as_bytes (becomes text d)) t) k.counts; refused = refl };
  core = k.core;
}
compiled_so s w v name text (Err r) (Err q) h k = record { same = record { parts = ap (λ t. one_part (refused name t)) k; refused = refl }; core = h }
compiled_so s w v name text (Ok c) (Err q) h k = absurd k
compiled_so s w v name text (Err r) (Ok d) h k = absurd k

-- of what stands in a file
pub compile_so : (s : Settings) → CompilesAlike → BuildsAreWritten → NewIsValid → (w : bytes.World) (v : World) (name : List ℕ) → Core s w v → AreToldApart (ByCompile v.library (v.files name)) → Alright s (bytes.compile_answer w name (bytes.compiled_in w (w.files name))) (compile_answer v name (or_empty (v.files name)) (compiled_in v (v.files name)))
compile_so s compiles written valid w v name h told =
    let file = v.files name in
    let q = compiled texts (interface_in v.library) file in
    compiled_so s w v name (or_empty file) (compiled prints (symbol_entry w.files) (w.files name)) q h
    (subst (λ x. CompilesSo s w v (or_empty file) (compiled prints (symbol_entry w.files) x) q) (sym (ap (λ (f : Files). f name) h.files))
    (compiles_so s w v file compiles written valid h told))

-- ONE BEHIND THE OTHER

-- answers of the byte session, and of the meaning
abbrev Ours : Type 0
Ours = Answer bytes.World bytes.Change

abbrev Theirs : Type 0
Theirs = Answer World Change

on_so : (s : Settings) (a : Ours) (b : Theirs) (one : bytes.World → Ours) (two : World → Theirs) → Alright s a b → (b.refused ≡ false → Alright s (one a.world) (two b.world)) → Alright s (and_on a one) (and_on b two)
on_so s a b one two h k = subst (λ t. Alright s (cond t a (behind a.parts (one a.world))) (and_on b two)) (sym h.same.refused) (go b.refused refl)
  where
    go : (t : Bool) → b.refused ≡ t → Alright s (cond t a (behind a.parts (one a.world))) (cond t b (behind b.parts (two b.world)))
    go true e = h
    go false e =
        let n = k e in
        let as_part = part_as as_bytes in
        record {
          same = record {
            parts = ap (λ ps. ps ++ (one a.world).parts) h.same.parts ∙ ap (λ ps. map as_part b.parts ++ ps) n.same.parts ∙ sym (map_append as_part b.parts (two b.world).parts);
            refused = n.same.refused;
          };
          core = n.core;
        }

-- A MAKE

-- what is compared at a turn
abbrev AtTurn : List ℕ → World → List ℕ → Text → Text → Type 0
AtTurn m u x kept found = ByCheck u.library x kept found ⊎ ((turn_at maker m u x ≡ turn.Compiles) × ByCompile u.library (u.files (source_file x)) kept found)

-- prints tell apart what is compared at each of these turns
abbrev AreTurnsTold : List ℕ → List (List ℕ) → World → Type 0
AreTurnsTold m xs v = (front back : List (List ℕ)) (x : List ℕ) (u : World) → xs ≡ front ++ x ∷ back → (behind_turns maker m front v).refused ≡ false → (behind_turns maker m front v).world ≡ u → AreToldApart (AtTurn m u x)

module _ (s : Settings) (compiles : CompilesAlike) (written : BuildsAreWritten) (valid : NewIsValid) where
  turn_so : (w : bytes.World) (v : World) (m x : List ℕ) → is_identifier x ≡ true → Core s w v → AreToldApart (AtTurn m v x) → Alright s (in_turn bytes.maker m w x) (in_turn maker m v x)
  turn_so w v m x i h told =
      let same : turn_at bytes.maker m w x ≡ turn_at maker m v x =
      ap (λ f. turn_in print_marks (seen_in f) m x) h.files ∙ turns_same written v h.library h.kept x i (λ kept found c p. told kept found (inl c) p) m in
      subst (λ t. Alright s (by_turn bytes.maker t w x) (in_turn maker m v x)) (sym same) (go (turn_at maker m v x) refl)
    where
      go : (t : Turn) → turn_at maker m v x ≡ t → Alright s (by_turn bytes.maker t w x) (by_turn maker t v x)
      go turn.Stays e = record { same = record { parts = refl; refused = refl }; core = h }
      go turn.Compiles e = compile_so s compiles written valid w v (source_file x) h (λ kept found c p. told kept found (inr (e, c)) p)
      go turn.LacksSource e = record { same = record { parts = refl; refused = refl }; core = h }

  turns_so : (m : List ℕ) (xs : List (List ℕ)) (w : bytes.World) (v : World) → AreIdentifiers xs → Core s w v → AreTurnsTold m xs v → Alright s (behind_turns bytes.maker m xs w) (behind_turns maker m xs v)
  unfolding behind_turns
  turns_so m [] w v i h told = record { same = record { parts = refl; refused = refl }; core = h }
  turns_so m (x ∷ xs) w v i h told =
      let a = in_turn bytes.maker m w x in
      let b = in_turn maker m v x in
      let k = turn_so w v m x i.0 h (told [] xs x v refl refl refl) in
      on_so s a b (behind_turns bytes.maker m xs) (behind_turns maker m xs) k
      (λ e. turns_so m xs a.world b.world i.1 k.core
      (λ front back y u split goes world.
      let rest = behind_turns maker m front b.world in
      told (x ∷ front) back y u (ap (λ l. x ∷ l) split)
      (ap (λ t. (cond t b (behind b.parts rest)).refused) e ∙ goes)
      (ap (λ t. (cond t b (behind b.parts rest)).world) e ∙ world)))

  made_so : (m : List ℕ) (w : bytes.World) (v : World) (r : Result (List (List ℕ)) MakeEnd) → IsOfIdentifiers r → Core s w v → ((xs : List (List ℕ)) → r ≡ Ok xs → AreTurnsTold m xs v) → Alright s (made_in bytes.maker m r w) (made_in maker m r v)
  made_so m w v (Ok xs) i h told =
      let a = behind_turns bytes.maker m xs w in
      let b = behind_turns maker m xs v in
      let k = turns_so m xs w v i h (told xs refl) in
      let as_part = part_as as_bytes in
      on_so s a b (at_end m (length a.parts)) (at_end m (length b.parts)) k
      (λ e. record { same = record { parts = ap (λ n. one_part (made_text m n)) (ap length k.same.parts ∙ map_length as_part b.parts); refused = refl }; core = k.core })
  made_so m w v (Err e) i h told = record { same = record { parts = refl; refused = refl }; core = h }

  pub make_so : (w : bytes.World) (v : World) (m : List ℕ) → is_identifier m ≡ true → Core s w v → AreToldApart (ByMake v m) → Alright s (make_answer bytes.maker m w) (make_answer maker m v)
  make_so w v m i h told =
      let same : order (seen_in w.files) m ≡ order (model.seen_in v) m = ap (λ f. order (seen_in f) m) h.files ∙ orders_seen written v h.library h.kept m i in
      subst (λ r. Alright s (made_in bytes.maker m r w) (make_answer maker m v)) (sym same)
      (made_so m w v (order (model.seen_in v) m) (orders_named written v h.library h.kept m i) h
      (λ xs e front back x u split goes world kept found c p.
      told kept found (x, u, record { front = front; back = back; order = e ∙ ap Ok split; goes_on = goes; world = world }, c) p))
