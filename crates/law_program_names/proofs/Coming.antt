-- What a module that compiles comes from: its tree, checked against interfaces that fit and not too deep, and laid out.
use Rattle.std.proofs.Common.{◌≡◌, ℕ, Bool, true, false, List, [], ◌∷◌, length, map, Option, Some, None, Result, Ok, Err, refl, sym, ap, subst, ◌∙◌}
use Rattle.std.specs.Prelude.{nat_le}
use Rattle.ob_tree.specs.declared.names.QName.{QName}
use Rattle.ob_tree.specs.declared.which.Which.{Which}
use Rattle.ob_tree.specs.declared.decl.Module.{Module as Tree}
use Rattle.ob_types.specs.declared.typed.TypedModule.{TypedModule}
use Rattle.ob_types.specs.TypedView.{module_view}
use Rattle.ob_rules.specs.declared.broken.Broken.{Broken as BrokenRule}
use Rattle.ob_rules.specs.Declarations.{first_break, checked}
use Rattle.ob_layout.specs.LaidOut.{laid_out}
use Rattle.ob_env.specs.Faces.{Face, described}
use Rattle.ob_env.specs.Fit.{first_unfit}
use Rattle.ob_env.specs.Stale.{StaleUse, first_stale}
use Rattle.ob_env.specs.Answer.{Standing, Stands, Stale, Unfit, if_fit, if_coherent, standing}
use Rattle.ob_env.specs.Shown.{shown}
use Rattle.ob_env_walk.specs.Walk.{Entry, Walked, Left, NoInterface, Damaged, Cycle, TooMany, walk}
use Rattle.ob_env_walk.specs.Answer.{Reached, Stopped, Whole, after_walk, env_answer}
use Rattle.ob_parse_grammar.specs.TextReading.{NoModule, reading}
use Rattle.ob_compile_model.specs.Compiling.{texts, Refusal, Compiled, exceeds, within, made, of_checked, of_break, by_rules, and_limits, is_deep, unless_deep, of_faces, of_standing, of_reached, most_imports, of_few, imported, of_reading, most_source, of_short, compiled}
use Rattle.ob_builds.specs.Builds.{Text}

pub record ComesFrom (source : List ℕ) (c : Compiled Text) : Type 0 where
  pub tree : Tree
  pub read : reading source ≡ Ok tree
  pub module_is : TypedModule
  pub fit : first_unfit c.against ≡ None
  pub shallow : is_deep c.against tree ≡ false
  pub unbroken : first_break (shown c.against) tree ≡ None
  pub checked_is : checked (shown c.against) tree ≡ Some module_is
  pub is : c ≡ made texts c.against (laid_out (described c.against) (module_view module_is))
  pub limits : exceeds texts c ≡ None

module _ (source : List ℕ) (c : Compiled Text) where
  module _ (tree : Tree) (read : reading source ≡ Ok tree) where
    from_made : (faces : List (Face Text)) (m : TypedModule) → first_unfit faces ≡ None → is_deep faces tree ≡ false → first_break (shown faces) tree ≡ None → checked (shown faces) tree ≡ Some m →
        made texts faces (laid_out (described faces) (module_view m)) ≡ c → exceeds texts (made texts faces (laid_out (described faces) (module_view m))) ≡ None → ComesFrom source c
    from_made faces m fit deep sound e is small =
        let same : faces ≡ c.against = ap (λ (x : Compiled Text). x.against) is in
        record {
          tree = tree;
          read = read;
          module_is = m;
          fit = subst (λ (fs : List (Face Text)). first_unfit fs ≡ None) same fit;
          shallow = subst (λ (fs : List (Face Text)). is_deep fs tree ≡ false) same deep;
          unbroken = subst (λ (fs : List (Face Text)). first_break (shown fs) tree ≡ None) same sound;
          checked_is = subst (λ (fs : List (Face Text)). checked (shown fs) tree ≡ Some m) same e;
          is = sym is ∙ ap (λ (fs : List (Face Text)). made texts fs (laid_out (described fs) (module_view m))) same;
          limits = ap (exceeds texts) (sym is) ∙ small;
        }

    from_within : (faces : List (Face Text)) (m : TypedModule) → first_unfit faces ≡ None → is_deep faces tree ≡ false → first_break (shown faces) tree ≡ None → checked (shown faces) tree ≡ Some m →
        (o : Option Which) → exceeds texts (made texts faces (laid_out (described faces) (module_view m))) ≡ o → within (made texts faces (laid_out (described faces) (module_view m))) o ≡ Ok c → ComesFrom source c
    from_within faces m fit deep sound e (Some w) i h = absurd cc
    from_within faces m fit deep sound e None i h =
        let same : made texts faces (laid_out (described faces) (module_view m)) ≡ c = cc in
        from_made faces m fit deep sound e same i

    from_checked : (faces : List (Face Text)) → first_unfit faces ≡ None → is_deep faces tree ≡ false → first_break (shown faces) tree ≡ None →
        (found : Option TypedModule) → checked (shown faces) tree ≡ found → and_limits texts (of_checked texts faces found) ≡ Ok c → ComesFrom source c
    from_checked faces fit deep sound None e h = absurd cc
    from_checked faces fit deep sound (Some m) e h = from_within faces m fit deep sound e (exceeds texts (made texts faces (laid_out (described faces) (module_view m)))) refl h

    from_break : (faces : List (Face Text)) → first_unfit faces ≡ None → is_deep faces tree ≡ false → (b : Option BrokenRule) → first_break (shown faces) tree ≡ b → and_limits texts (of_break texts faces (checked (shown faces) tree) b) ≡ Ok c → ComesFrom source c
    from_break faces fit deep (Some b) i h = absurd cc
    from_break faces fit deep None i h = from_checked faces fit deep i (checked (shown faces) tree) refl h

    from_deep : (faces : List (Face Text)) → first_unfit faces ≡ None → (b : Bool) → is_deep faces tree ≡ b → unless_deep b (and_limits texts (by_rules texts faces tree)) ≡ Ok c → ComesFrom source c
    from_deep faces fit true i h = absurd cc
    from_deep faces fit false i h = from_break faces fit i (first_break (shown faces) tree) refl h

    from_fit : (faces : List (Face Text)) (o : Option QName) → first_unfit faces ≡ o → of_standing texts tree (if_fit o faces) ≡ Ok c → ComesFrom source c
    from_fit faces (Some q) i h = absurd cc
    from_fit faces None i h = from_deep faces i (is_deep faces tree) refl h

    from_coherent : (faces : List (Face Text)) (o : Option (StaleUse Text)) → of_standing texts tree (if_coherent o faces) ≡ Ok c → ComesFrom source c
    from_coherent faces (Some u) h = absurd cc
    from_coherent faces None h = from_fit faces (first_unfit faces) refl h

    from_walk : (w : Walked Text) → of_reached texts tree (after_walk (standing texts.same texts.keeps) w) ≡ Ok c → ComesFrom source c
    from_walk (Left faces) h = from_coherent faces (first_stale texts.same (texts.keeps faces) faces) h
    from_walk (NoInterface m) h = absurd cc
    from_walk (Damaged m) h = absurd cc
    from_walk (Cycle m) h = absurd cc
    from_walk TooMany h = absurd cc

    from_few : (b : Bool) (w : Walked Text) → of_few b (of_reached texts tree (after_walk (standing texts.same texts.keeps) w)) ≡ Ok c → ComesFrom source c
    from_few true w h = from_walk w h
    from_few false w h = absurd cc

  from_reading : (entry : List ℕ → Entry Text) (r : Result Tree NoModule) → reading source ≡ r → of_reading texts entry r ≡ Ok c → ComesFrom source c
  from_reading entry (Ok tree) i h = from_few tree i (nat_le (length tree.imports) most_imports) (walk entry tree.name.name (map imported tree.imports)) h
  from_reading entry (Err f) i h = absurd cc

  from_short : (b : Bool) (entry : List ℕ → Entry Text) (r : Result Tree NoModule) → reading source ≡ r → of_short b (of_reading texts entry r) ≡ Ok c → ComesFrom source c
  from_short true entry r i h = from_reading entry r i h
  from_short false entry r i h = absurd cc

  pub comes_from : (entry : List ℕ → Entry Text) → compiled texts entry (Some source) ≡ Ok c → ComesFrom source c
  unfolding compiled
  comes_from entry h = from_short (nat_le (length source) most_source) entry (reading source) refl h
