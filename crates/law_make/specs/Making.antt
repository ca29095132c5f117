-- What a line `make M` compiles: the modules that are stale when their turn comes, each at most once.
use Rattle.std.specs.Prelude.{◌≡◌, ◌⊎◌, ℕ, suc, List, [], ◌∷◌, ◌++◌, Bool, true, false, Ok}
use Rattle.ob_link.specs.Walk.{has}
use Rattle.ob_make.specs.Order.{order}
use Rattle.ob_make.specs.Stale.{is_passed, is_sourceless, is_stale}
use Rattle.ob_make.specs.Folder.{source_name}
use Rattle.ob_make.specs.declared.turns.Turn.{Turn}
use Rattle.ob_make.specs.declared.turns.Turn.TheVariants as turn
use Rattle.ob_shell_reports.specs.Texts.{refused, no_source, made_text}
use Rattle.ob_shell_model.specs.Folds.{Answer, part}
use Rattle.ob_shell_model.specs.Making.{Maker, turn_at, in_turn, and_on, behind, behind_turns, make_answer}

module _ {W C K : Type 0} (maker : Maker W C K) (m : List ℕ) where
  -- a module that is passed over, one that is stale, and one whose source is missing, by what a world has
  abbrev pub passed : W → List ℕ → Bool
  passed w x = is_passed (maker.sees w) m x

  abbrev pub stale : W → List ℕ → Bool
  stale w x = is_stale maker.marks (maker.sees w) x

  abbrev pub sourceless : W → List ℕ → Bool
  sourceless w x = is_sourceless ((maker.sees w).source x)

  -- nothing is done
  abbrev pub nothing : W → Answer W C
  nothing w = record { world = w; parts = []; refused = false }

  -- The turn of module x in a world: one that is passed over or not stale stays as it is, one that is stale is compiled, and the line is
  -- refused where its source is missing.
  pub record TakesTurn (w : W) (x : List ℕ) : Type 0 where
    pub stays : (passed w x ≡ true) ⊎ (stale w x ≡ false) → in_turn maker m w x ≡ nothing w
    pub compiles : passed w x ≡ false → stale w x ≡ true → sourceless w x ≡ false → in_turn maker m w x ≡ maker.compile w x
    pub lacks : passed w x ≡ false → stale w x ≡ true → sourceless w x ≡ true → in_turn maker m w x ≡ record { world = w; parts = part [] (refused (source_name x) no_source); refused = true }

  -- ---- the count

  -- one more where the module is compiled
  abbrev pub and_one : Turn → ℕ → ℕ
  and_one turn.Stays n = n
  and_one turn.Compiles n = suc n
  and_one turn.LacksSource n = n

  -- how many of these modules, which have their turns one behind the other, are compiled
  unfoldable pub count_compiled : List (List ℕ) → W → ℕ
  count_compiled [] w = 0
  count_compiled (x ∷ xs) w = and_one (turn_at maker m w x) (count_compiled xs (in_turn maker m w x).world)

  -- The make of m in world w, whose order is xs. No module has two turns. The turns of some modules and then of others are done one behind
  -- the other. Each turn is done as it is said above, in the world behind those before it. Where none is refused, the line ends with the
  -- number of modules that were compiled.
  pub record MakesExactly (w : W) (xs : List (List ℕ)) : Type 0 where
    pub once : (front back : List (List ℕ)) (x : List ℕ) → xs ≡ front ++ x ∷ back → (has x front ≡ false) × (has x back ≡ false)
    pub in_order : (front back : List (List ℕ)) → xs ≡ front ++ back → behind_turns maker m xs w ≡ and_on (behind_turns maker m front w) (behind_turns maker m back)
    pub turns : (front back : List (List ℕ)) (x : List ℕ) → xs ≡ front ++ x ∷ back → (behind_turns maker m front w).refused ≡ false → TakesTurn (behind_turns maker m front w).world x
    pub count : (behind_turns maker m xs w).refused ≡ false →
        make_answer maker m w ≡ behind (behind_turns maker m xs w).parts (record { world = (behind_turns maker m xs w).world; parts = part [] (made_text m (count_compiled xs w)); refused = false })

-- THE LAW, of a kind of worlds
abbrev pub MakesCompileExactly : {W C K : Type 0} → Maker W C K → Type 0
MakesCompileExactly {W} maker = (m : List ℕ) (w : W) (xs : List (List ℕ)) → order (maker.sees w) m ≡ Ok xs → MakesExactly maker m w xs
