-- A compile that is refused for an object that does not fit: the interfaces of its walk.
use Rattle.std.proofs.Common.{◌≡◌, ℕ, List, length, Bool, true, false, refl, sym, subst, ◌∙◌, Option, Some, None, Result, Ok, Err}
use Rattle.std.specs.Prelude.{bytes_eq, nat_le, map as each}
use Rattle.ob_tree.specs.declared.names.QName.{QName}
use Rattle.ob_tree.specs.declared.decl.Module.{Module as Tree}
use Rattle.ob_tree.specs.declared.which.Which.{Which}
use Rattle.ob_types.specs.declared.typed.TypedModule.{TypedModule}
use Rattle.ob_types.specs.TypedView.{module_view}
use Rattle.ob_rules.specs.declared.broken.Broken.{Broken}
use Rattle.ob_rules.specs.Declarations.{checked, first_break}
use Rattle.ob_layout.specs.LaidOut.{laid_out}
use Rattle.ob_env.specs.Faces.{Face, described, text_in}
use Rattle.ob_env.specs.Shown.{shown}
use Rattle.ob_env.specs.Stale.{StaleUse, first_stale}
use Rattle.ob_env.specs.Fit.{first_unfit}
use Rattle.ob_env.specs.Answer.{if_fit, if_coherent, standing}
use Rattle.ob_env_walk.specs.Walk as walk
use Rattle.ob_env_walk.specs.Walk.{Walked, Left, NoInterface, Damaged, Cycle, TooMany, walk as walked_from}
use Rattle.ob_env_walk.specs.Answer.{after_walk}
use Rattle.ob_parse_grammar.specs.TextReading.{NoModule, reading}
use Rattle.ob_compile_model.specs.Compiling as c
use Rattle.ob_compile_model.specs.Compiling.{Refusal, Compiled, compiled, texts, made, within, exceeds, of_checked, of_break, by_rules, and_limits, unless_deep, is_deep, of_faces, of_standing, of_reached, of_few, of_tree, of_reading, of_short, most_imports, most_source, imported}
use Rattle.ob_builds.specs.Builds.{Text}

abbrev Answer : Type 0
Answer = Result (Compiled Text) (Refusal Text)

-- the object that a compile is refused for, where it is
unfoldable pub no_fit : Answer → Option QName
no_fit (Err (c.NoFit q)) = Some q
no_fit r = None

same_name : (p q : QName) → Some p ≡ Some q → p ≡ q
same_name p q e = cc

no_none : (q : QName) → None ≡ Some q → ⊥
no_none q e = absurd cc

-- what is so of each object for which it is refused
module _ (P : QName → Type 0) where
  abbrev Tells : Answer → Type 0
  Tells r = (q : QName) → no_fit r ≡ Some q → P q

  none : (r : Answer) → no_fit r ≡ None → Tells r
  none r n = λ q e. absurd (no_none q (sym n ∙ e))

  by_within : (y : Compiled Text) (o : Option Which) → Tells (within y o)
  unfolding no_fit
  by_within y (Some w) = none (Err (c.Limit w)) refl
  by_within y None = none (Ok y) refl

  by_limits : (r : Answer) → Tells r → Tells (and_limits texts r)
  by_limits (Ok y) h = by_within y (exceeds texts y)
  by_limits (Err r) h = h

  by_checked : (faces : List (Face Text)) (o : Option TypedModule) → Tells (of_checked texts faces o)
  unfolding no_fit
  by_checked faces None = none (Err c.NoSource) refl
  by_checked faces (Some m) = none (Ok (made texts faces (laid_out (described faces) (module_view m)))) refl

  by_break : (faces : List (Face Text)) (o : Option TypedModule) (b : Option Broken) → Tells (of_break texts faces o b)
  unfolding no_fit
  by_break faces o (Some b) = none (Err (c.Broken b)) refl
  by_break faces o None = by_checked faces o

  by_deep : (b : Bool) (r : Answer) → Tells r → Tells (unless_deep b r)
  unfolding no_fit
  by_deep true r h = none (unless_deep true r) refl
  by_deep false r h = h

  by_faces : (faces : List (Face Text)) (tree : Tree) → Tells (of_faces texts faces tree)
  by_faces faces tree = by_deep (is_deep faces tree) (and_limits texts (by_rules texts faces tree)) (by_limits (by_rules texts faces tree) (by_break faces (checked (shown faces) tree) (first_break (shown faces) tree)))

  by_fit : (faces : List (Face Text)) (tree : Tree) → ((q : QName) → first_unfit faces ≡ Some q → P q) → (o : Option QName) → first_unfit faces ≡ o → Tells (of_standing texts tree (if_fit o faces))
  unfolding no_fit
  by_fit faces tree h (Some q) i = λ p e. subst P (same_name q p e) (h q i)
  by_fit faces tree h None i = by_faces faces tree

  by_standing : (faces : List (Face Text)) (tree : Tree) → (first_stale bytes_eq (text_in faces) faces ≡ None → (q : QName) → first_unfit faces ≡ Some q → P q) → (o : Option (StaleUse Text)) → first_stale bytes_eq (text_in faces) faces ≡ o → Tells (of_standing texts tree (if_coherent o faces))
  unfolding no_fit
  by_standing faces tree h (Some u) i = none (Err (c.Unmet u)) refl
  by_standing faces tree h None i = by_fit faces tree (h i) (first_unfit faces) refl

  by_walk : (tree : Tree) (w : Walked Text) → ((faces : List (Face Text)) → w ≡ Left faces → first_stale bytes_eq (text_in faces) faces ≡ None → (q : QName) → first_unfit faces ≡ Some q → P q) → Tells (of_reached texts tree (after_walk (standing texts.same texts.keeps) w))
  unfolding no_fit
  by_walk tree (Left faces) h = by_standing faces tree (h faces refl) (first_stale bytes_eq (text_in faces) faces) refl
  by_walk tree (NoInterface m) h = none (Err (c.Walk (NoInterface m))) refl
  by_walk tree (Damaged m) h = none (Err (c.Walk (Damaged m))) refl
  by_walk tree (Cycle m) h = none (Err (c.Walk (Cycle m))) refl
  by_walk tree TooMany h = none (Err (c.Walk TooMany)) refl

  by_few : (b : Bool) (r : Answer) → Tells r → Tells (of_few b r)
  unfolding no_fit
  by_few true r h = h
  by_few false r h = none (of_few false r) refl

  by_short : (b : Bool) (r : Answer) → Tells r → Tells (of_short b r)
  unfolding no_fit
  by_short true r h = h
  by_short false r h = none (of_short false r) refl

  module _ (find : List ℕ → walk.Entry Text) (h : (root : List ℕ) (imports : List (List ℕ)) (faces : List (Face Text)) → walked_from find root imports ≡ Left faces → first_stale bytes_eq (text_in faces) faces ≡ None → (q : QName) → first_unfit faces ≡ Some q → P q) where
    by_reading : (r : Result Tree NoModule) → Tells (of_reading texts find r)
    unfolding no_fit
    by_reading (Ok tree) = by_few (nat_le (length tree.imports) most_imports) _ (by_walk tree (walked_from find tree.name.name (each imported tree.imports)) (λ faces e. h tree.name.name (each imported tree.imports) faces e))
    by_reading (Err f) = none (Err (c.Unread f)) refl

    pub by_compile : (source : Option (List ℕ)) → Tells (compiled texts find source)
    unfolding no_fit compiled
    by_compile None = none (Err c.NoSource) refl
    by_compile (Some source) = by_short (nat_le (length source) most_source) (of_reading texts find (reading source)) (by_reading (reading source))
