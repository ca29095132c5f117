-- What the rules say of a module that compiles.
use Rattle.std.proofs.Common.{◌≡◌, ℕ, Bool, true, false, List, [], ◌∷◌, length, map, Option, Some, None, Result, Ok, Err, refl, subst}
use Rattle.std.specs.Prelude.{not, nat_le}
use Rattle.std.specs.List.{AllByRecursion}
use Rattle.std.proofs.lemmas.Bool.{false≢true}
use Rattle.ob_tree.specs.declared.names.QName.{QName}
use Rattle.ob_tree.specs.declared.which.Which.{Which}
use Rattle.ob_tree.specs.declared.ident.Mark.{Mark}
use Rattle.ob_tree.specs.declared.ident.Mark.TheVariants as mark
use Rattle.ob_tree.specs.declared.decl.Module.{Module as Tree}
use Rattle.ob_types.specs.declared.types.TypeRef.{TypeRef}
use Rattle.ob_types.specs.declared.desc.Desc.{Desc}
use Rattle.ob_types.specs.declared.desc.Desc.TheVariants as desc
use Rattle.ob_types.specs.declared.typed.TypedType.{TypedType}
use Rattle.ob_types.specs.declared.typed.TypedProcedure.{TypedProcedure}
use Rattle.ob_types.specs.declared.typed.TypedModule.{TypedModule}
use Rattle.ob_types.specs.Maps.{is_type}
use Rattle.ob_types.specs.TypedSyntax.{Module}
use Rattle.ob_types.specs.TypedView.{procedure_view, module_view}
use Rattle.ob_meaning.specs.Commands.{is_hidden}
use Rattle.ob_rules.specs.declared.broken.Broken.{Broken as BrokenRule}
use Rattle.ob_rules.specs.Declarations.{first_break, checked}
use Rattle.ob_layout.specs.LaidOut.{laid_desc, laid_type, laid_out}
use Rattle.ob_env.specs.Faces.{Face, described}
use Rattle.ob_env.specs.Answer.{Standing, Stands, Stale, Unfit}
use Rattle.ob_env.specs.Shown.{shown}
use Rattle.ob_env_walk.specs.Walk.{Entry}
use Rattle.ob_env_walk.specs.Answer.{Reached, Stopped, Whole, env_answer}
use Rattle.ob_parse_grammar.specs.TextReading.{NoModule, reading}
use Rattle.ob_scheme.specs.Object.{is_full}
use Rattle.ob_compile_model.specs.Compiling.{texts, Refusal, Compiled, exceeds, within, made, of_checked, of_break, by_rules, and_limits, is_deep, unless_deep, of_standing, of_reached, most_imports, of_few, imported, of_reading, most_source, of_short, compiled}
use Rattle.law_methods_described.specs.Described.{AreTypes, is_whole, AreWhole}
use Rattle.law_methods_described.proofs.Blocks.{types_described, procedures_marked}
use Rattle.law_load_plan.specs.Compiled.{Text}
use Rattle.law_load_plan.specs.Laws.{IsMarked, CompiledAreMarked}

abbrev Answer : Type 0
Answer = Result (Compiled Text) (Refusal Text)

-- ---- layout leaves types what they are

desc_laid : (words procedures : TypeRef → ℕ) (q : QName) (d : Desc) → is_type d ≡ true → is_type (laid_desc words procedures q d) ≡ true
desc_laid words procedures q (desc.Const v) h = h
desc_laid words procedures q (desc.Var m t) h = h
desc_laid words procedures q (desc.Proc s) h = h
desc_laid words procedures q (desc.Alias m t) h = h
desc_laid words procedures q (desc.Array m n t) h = h
desc_laid words procedures q (desc.OpenArray m t) h = h
desc_laid words procedures q (desc.Pointer m t) h = h
desc_laid words procedures q (desc.ProcType m s) h = h
desc_laid words procedures q (desc.Record r) h = refl

types_laid : (types : QName → Option Desc) (m : Module) (ts : List TypedType) → AreTypes ts → AreTypes (map (laid_type types m) ts)
types_laid types m [] h = tt
types_laid types m (t ∷ ts) h = (desc_laid _ _ _ t.desc h.0, types_laid types m ts h.1)

whole_is : (m : Mark) → is_whole m ≡ true → is_full m ≡ not (is_hidden m)
whole_is mark.Full e = refl
whole_is mark.ReadOnly e = absurd (false≢true e)
whole_is mark.Hidden e = refl

all_whole : (ps : List TypedProcedure) → AreWhole ps → AllByRecursion (λ p. is_full p.mark ≡ not (is_hidden p.mark)) (map procedure_view ps)
all_whole [] h = tt
all_whole (p ∷ ps) h = (whole_is p.mark h.0, all_whole ps h.1)

-- ---- the steps of a compile

module _ (c : Compiled Text) where
  within_kept : (d : Compiled Text) (o : Option Which) → within d o ≡ Ok c → d ≡ c
  within_kept d (Some w) e = absurd cc
  within_kept d None e = cc

  checked_marked : (faces : List (Face Text)) (tree : Tree) (found : Option TypedModule) → checked (shown faces) tree ≡ found → and_limits texts (of_checked texts faces found) ≡ Ok c → IsMarked c
  checked_marked faces tree None is e = absurd cc
  checked_marked faces tree (Some m) is e =
      let d : Compiled Text = made texts faces (laid_out (described faces) (module_view m)) in
      subst IsMarked (within_kept d (exceeds texts d) e) (record {
        types = types_laid (described faces) (module_view m) m.types (types_described (shown faces) tree m is);
        marks = all_whole m.procedures (procedures_marked (shown faces) tree m is);
      })

  break_marked : (faces : List (Face Text)) (tree : Tree) (b : Option BrokenRule) → and_limits texts (of_break texts faces (checked (shown faces) tree) b) ≡ Ok c → IsMarked c
  break_marked faces tree (Some b) e = absurd cc
  break_marked faces tree None e = checked_marked faces tree (checked (shown faces) tree) refl e

  deep_marked : (b : Bool) (faces : List (Face Text)) (tree : Tree) → unless_deep b (and_limits texts (by_rules texts faces tree)) ≡ Ok c → IsMarked c
  deep_marked true faces tree e = absurd cc
  deep_marked false faces tree e = break_marked faces tree (first_break (shown faces) tree) e

  standing_marked : (tree : Tree) (s : Standing Text) → of_standing texts tree s ≡ Ok c → IsMarked c
  standing_marked tree (Stands faces) e = deep_marked (is_deep faces tree) faces tree e
  standing_marked tree (Stale u) e = absurd cc
  standing_marked tree (Unfit q) e = absurd cc

  reached_marked : (tree : Tree) (r : Reached Text) → of_reached texts tree r ≡ Ok c → IsMarked c
  reached_marked tree (Stopped w) e = absurd cc
  reached_marked tree (Whole s) e = standing_marked tree s e

  few_marked : (b : Bool) (tree : Tree) (r : Reached Text) → of_few b (of_reached texts tree r) ≡ Ok c → IsMarked c
  few_marked true tree r e = reached_marked tree r e
  few_marked false tree r e = absurd cc

  reading_marked : (entry : List ℕ → Entry Text) (r : Result Tree NoModule) → of_reading texts entry r ≡ Ok c → IsMarked c
  reading_marked entry (Ok tree) e = few_marked (nat_le (length tree.imports) most_imports) tree (env_answer texts.same texts.keeps entry tree.name.name (map imported tree.imports)) e
  reading_marked entry (Err f) e = absurd cc

  short_marked : (b : Bool) (entry : List ℕ → Entry Text) (r : Result Tree NoModule) → of_short b (of_reading texts entry r) ≡ Ok c → IsMarked c
  short_marked true entry r e = reading_marked entry r e
  short_marked false entry r e = absurd cc

pub compiled_marked : CompiledAreMarked
unfolding compiled
compiled_marked entry None c e = absurd cc
compiled_marked entry (Some source) c e = short_marked c (nat_le (length source) most_source) entry (reading source) e
