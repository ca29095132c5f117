-- What a build that compiles was made of: a checked module that breaks no rule, laid out against interfaces none of which is of Out
-- or of the module itself.
use Rattle.std.proofs.Common.{◌≡◌, ℕ, ◌<◌, arith, List, [], ◌∷◌, length, Bool, true, false, refl, sym, ap, ◌∙◌, subst, Option, Some, None, Result, Ok, Err}
use Rattle.std.specs.Prelude.{◌||◌, nat_le, bytes_eq, map as each}
use Rattle.std.specs.List.{AllByRecursion}
use Rattle.std.specs.Cmp.Lexicographic.{bytes_decides}
use Rattle.ob_tree.specs.declared.pos.Pos.{Pos}
use Rattle.ob_tree.specs.declared.names.QName.{QName}
use Rattle.ob_tree.specs.declared.ident.Ident.{Ident}
use Rattle.ob_tree.specs.declared.ident.Import.{Import}
use Rattle.ob_tree.specs.declared.decl.Module.{Module as Tree}
use Rattle.ob_tree.specs.declared.which.Which.{Which}
use Rattle.ob_types.specs.declared.desc.Desc.{Desc}
use Rattle.ob_types.specs.declared.typed.TypedModule.{TypedModule}
use Rattle.ob_types.specs.TypedView.{module_view}
use Rattle.ob_rules.specs.declared.broken.Broken.{Broken}
use Rattle.ob_rules.specs.declared.broken.Rule.TheVariants as rule
use Rattle.ob_rules.specs.declared.broken.Rule.{Rule}
use Rattle.ob_rules.specs.Judged.{notes_if}
use Rattle.ob_rules.specs.Names.{is_out}
use Rattle.ob_rules.specs.Declarations.{declaration, is_system, target_of, name_judged, module_part, typed_module, checked, first_break, if_unbroken}
use Rattle.ob_layout.specs.LaidOut.{laid_out}
use Rattle.ob_env.specs.Faces.{Face, described, face_named}
use Rattle.ob_env.specs.Shown.{shown}
use Rattle.ob_env.specs.Stale.{StaleUse, first_stale}
use Rattle.ob_env.specs.Fit.{first_unfit}
use Rattle.ob_env.specs.Answer.{if_fit, if_coherent, standing}
use Rattle.ob_env_walk.specs.Walk as walk
use Rattle.ob_env_walk.specs.Walk.{Walked, Left, NoInterface, Damaged, Cycle, TooMany, walk as walked_from}
use Rattle.ob_env_walk.specs.Answer.{after_walk}
use Rattle.ob_parse_grammar.specs.TextReading.{reading}
use Rattle.ob_compile_model.specs.Compiling as c
use Rattle.ob_compile_model.specs.Compiling.{Refusal, Compiled, compiled, texts, made, within, exceeds, of_break, by_rules, and_limits, unless_deep, is_deep, of_faces, of_standing, of_reached, of_few, of_tree, of_reading, of_short, most_imports, most_source, imported}
use Rattle.ob_builds.specs.Builds.{Text, Build, IsValid, entry_of}
use Rattle.std.proofs.lemmas.Bool.{false≢true, leb-true}
use Rattle.law_local.proofs.Walked.{IsBelow, LeavesBelow, AreNamed, IsNoRoot, is_built_in, walk_below, walk_other, have_none, only_named}
use Rattle.law_local_module.specs.Laws.{AreOthers}
use Rattle.law_local_rules.specs.Laws.{AreApart}
use Rattle.law_lists.proofs.Lists.{front_empty}

abbrev Answer : Type 0
Answer = Result (Compiled Text) (Refusal Text)

abbrev ok_or : Compiled Text → Answer → Compiled Text
ok_or d (Ok x) = x
ok_or d (Err e) = d

abbrev is_ok : Answer → Bool
is_ok (Ok x) = true
is_ok (Err e) = false

abbrev an_ok : Compiled Text → Answer
an_ok x = Ok x

abbrev an_err : Refusal Text → Answer
an_err r = Err r

ok_is : (x y : Compiled Text) → an_ok x ≡ an_ok y → x ≡ y
ok_is x y e = ap (ok_or x) e

err_no : (r : Refusal Text) (y : Compiled Text) → an_err r ≡ an_ok y → ⊥
err_no r y e = false≢true (ap is_ok e)

-- what it was made of
pub record ComesOf (tree : Tree) (x : Compiled Text) : Type 0 where
  pub t : TypedModule
  pub tree_is : checked (shown x.against) tree ≡ Some t
  pub unbroken : first_break (shown x.against) tree ≡ None
  pub is : x ≡ made texts x.against (laid_out (described x.against) (module_view t))
  pub clean : AllByRecursion (IsBelow tree.name.name) x.against
  pub fit : first_unfit x.against ≡ None
  pub imports : AllByRecursion (IsNoRoot tree.name.name) (each imported tree.imports)

-- the interfaces of a walk, from the imports of the tree
abbrev AreClean : Tree → List (Face Text) → Type 0
AreClean tree faces = AllByRecursion (IsBelow tree.name.name) faces × AllByRecursion (IsNoRoot tree.name.name) (each imported tree.imports)

abbrev Good : Tree → Result (Compiled Text) (Refusal Text) → Type 0
Good tree r = (x : Compiled Text) → r ≡ Ok x → ComesOf tree x

bad : (tree : Tree) (r : Refusal Text) → Good tree (Err r)
bad tree r x e = absurd (err_no r x e)

good_break : (faces : List (Face Text)) (tree : Tree) → AreClean tree faces → first_unfit faces ≡ None → (o : Option TypedModule) → checked (shown faces) tree ≡ o → (b : Option Broken) → first_break (shown faces) tree ≡ b → Good tree (of_break texts faces o b)
good_break faces tree clean fit o e (Some b) f = bad tree (c.Broken b)
good_break faces tree clean fit None e None f = bad tree c.NoSource
good_break faces tree clean fit (Some t) e None f = λ x i. subst (ComesOf tree) (ok_is (made texts faces (laid_out (described faces) (module_view t))) x i) (record { t = t; tree_is = e; unbroken = f; is = refl; clean = clean.0; fit = fit; imports = clean.1 })

good_within : (tree : Tree) (y : Compiled Text) (o : Option Which) → ComesOf tree y → Good tree (within y o)
good_within tree y (Some w) h = bad tree (c.Limit w)
good_within tree y None h = λ x i. subst (ComesOf tree) (ok_is y x i) h

good_limits : (tree : Tree) (r : Result (Compiled Text) (Refusal Text)) → Good tree r → Good tree (and_limits texts r)
good_limits tree (Ok y) h = good_within tree y (exceeds texts y) (h y refl)
good_limits tree (Err r) h = h

good_deep : (tree : Tree) (b : Bool) (r : Result (Compiled Text) (Refusal Text)) → Good tree r → Good tree (unless_deep b r)
good_deep tree true r h = bad tree _
good_deep tree false r h = h

good_faces : (faces : List (Face Text)) (tree : Tree) → AreClean tree faces → first_unfit faces ≡ None → Good tree (of_faces texts faces tree)
good_faces faces tree clean fit = good_deep tree (is_deep faces tree) (and_limits texts (by_rules texts faces tree)) (good_limits tree (by_rules texts faces tree) (good_break faces tree clean fit (checked (shown faces) tree) refl (first_break (shown faces) tree) refl))

good_fit : (faces : List (Face Text)) (tree : Tree) → AreClean tree faces → (o : Option QName) → first_unfit faces ≡ o → Good tree (of_standing texts tree (if_fit o faces))
good_fit faces tree clean (Some q) i = bad tree (c.NoFit q)
good_fit faces tree clean None i = good_faces faces tree clean i

good_standing : (faces : List (Face Text)) (tree : Tree) → AreClean tree faces → (o : Option (StaleUse Text)) → Good tree (of_standing texts tree (if_coherent o faces))
good_standing faces tree clean (Some u) = bad tree (c.Unmet u)
good_standing faces tree clean None = good_fit faces tree clean (first_unfit faces) refl

good_walk : (tree : Tree) (w : Walked Text) → LeavesBelow tree.name.name w → ((faces : List (Face Text)) → w ≡ Left faces → AllByRecursion (IsNoRoot tree.name.name) (each imported tree.imports)) → Good tree (of_reached texts tree (after_walk (standing texts.same texts.keeps) w))
good_walk tree (Left faces) clean others = good_standing faces tree (clean, others faces refl) (first_stale texts.same (texts.keeps faces) faces)
good_walk tree (NoInterface m) clean others = bad tree (c.Walk (NoInterface m))
good_walk tree (Damaged m) clean others = bad tree (c.Walk (Damaged m))
good_walk tree (Cycle m) clean others = bad tree (c.Walk (Cycle m))
good_walk tree TooMany clean others = bad tree (c.Walk TooMany)

good_few : (tree : Tree) (b : Bool) (r : Result (Compiled Text) (Refusal Text)) → Good tree r → Good tree (of_few b r)
good_few tree true r h = h
good_few tree false r h = bad tree _

good_tree : (find : List ℕ → walk.Entry Text) → AreNamed find → (tree : Tree) → Good tree (of_tree texts find tree)
good_tree find named tree = good_few tree (nat_le (length tree.imports) most_imports) _ (good_walk tree (walked_from find tree.name.name (each imported tree.imports)) (walk_below tree.name.name find named (each imported tree.imports)) (λ faces e. walk_other tree.name.name find named (each imported tree.imports) faces e))

good_short : (tree : Tree) (b : Bool) (r : Result (Compiled Text) (Refusal Text)) → Good tree r → Good tree (of_short b r)
good_short tree true r h = h
good_short tree false r h = bad tree _

-- A VALID BUILD
pub comes_of : (b : Build) (x : Compiled Text) (tree : Tree) → IsValid b x → reading b.source ≡ Ok tree → ComesOf tree x
unfolding compiled
comes_of b x tree valid read =
    let find : List ℕ → walk.Entry Text = λ name. entry_of (face_named b.against name) in
    good_short tree (nat_le (length b.source) most_source) (of_tree texts find tree) (good_tree find (λ n f h. only_named b.against n f h) tree) x
    (ap (λ r. of_short (nat_le (length b.source) most_source) (of_reading texts find r)) (sym read) ∙ valid.is)

-- its source is no longer than a compile takes
pub short_is : (b : Build) (x : Compiled Text) → IsValid b x → length b.source < 4294967295
unfolding compiled
short_is b x valid = by (nat_le (length b.source) most_source) refl valid.is
  where
    by : (t : Bool) → nat_le (length b.source) most_source ≡ t → of_short t (of_reading texts (λ name. entry_of (face_named b.against name)) (reading b.source)) ≡ Ok x → length b.source < 4294967295
    by true e i = let h = leb-true (length b.source) most_source e in omega (arith, h)
    by false e i = absurd cc

abbrev this_or : TypedModule → Option TypedModule → TypedModule
this_or d None = d
this_or d (Some y) = y

unbroken_is : (bs : List Broken) (x t : TypedModule) → if_unbroken bs x ≡ Some t → x ≡ t
unbroken_is [] x t e = ap (this_or x) e
unbroken_is (b ∷ bs) x t e = absurd cc

-- a checked module has the name of its tree
pub checked_name : (names : QName → Option Desc) (tree : Tree) (t : TypedModule) → checked names tree ≡ Some t → t.name ≡ tree.name.name
checked_name names tree t e = sym (ap (λ (x : TypedModule). x.name) (unbroken_is _ _ t e))

-- ---- imports

quiet_if : (b : Bool) (which : Rule) (at : Pos) → (notes_if b which at).broken ≡ [] → b ≡ false
quiet_if true which at e = absurd cc
quiet_if false which at e = refl

quiet_is : (bs : List Broken) (x t : TypedModule) → if_unbroken bs x ≡ Some t → bs ≡ []
quiet_is [] x t e = refl
quiet_is (b ∷ bs) x t e = absurd cc

-- no checked module is named Out or SYSTEM
name_plain : (names : QName → Option Desc) (tree : Tree) (t : TypedModule) → checked names tree ≡ Some t → is_built_in tree.name.name ≡ false
name_plain names tree t e =
    let p = module_part names tree in
    let k = quiet_is p.notes.broken (typed_module names tree.name tree.imports (each declaration tree.decls) p) t e in
    let a = front_empty (name_judged tree.name tree.closing).broken _ k in
    quiet_if (is_out tree.name.name || is_system tree.name.name) rule.ReservedModule tree.name.pos (front_empty (notes_if (is_out tree.name.name || is_system tree.name.name) rule.ReservedModule tree.name.pos).broken _ a)

other_is : (root m : List ℕ) → is_built_in root ≡ false → IsNoRoot root m → bytes_eq m root ≡ false
other_is root m plain h = go (is_built_in m) refl
  where
    still : (b : Bool) → bytes_eq m root ≡ b → is_built_in m ≡ true → b ≡ false
    still false e i = refl
    still true e i = absurd (false≢true (sym plain ∙ ap is_built_in (sym ((bytes_decides m root).0 e)) ∙ i))

    go : (b : Bool) → is_built_in m ≡ b → bytes_eq m root ≡ false
    go false i = h i
    go true i = still (bytes_eq m root) refl i

target_is : (i : Import) → imported i ≡ (target_of i).name
target_is i = go i.target
  where
    go : (o : Option Ident) → imported (record i { target = o }) ≡ (target_of (record i { target = o })).name
    go None = refl
    go (Some t) = refl

others_are : (root : List ℕ) → is_built_in root ≡ false → (is : List Import) → AllByRecursion (IsNoRoot root) (each imported is) → AreOthers root is
others_are root plain [] h = tt
others_are root plain (i ∷ is) h = (subst (λ (x : List ℕ). bytes_eq x root ≡ false) (target_is i) (other_is root (imported i) plain h.0), others_are root plain is h.1)

-- the interfaces of a valid build
pub apart_of : (x : Compiled Text) (tree : Tree) → ComesOf tree x → AreApart x.against tree
apart_of x tree k = record {
  fit = k.fit;
  out = have_none tree.name.name x.against k.clean;
  others = all_other x.against k.clean;
  imports = others_are tree.name.name (name_plain (shown x.against) tree k.t k.tree_is) tree.imports k.imports;
}
  where
    all_other : (fs : List (Face Text)) → AllByRecursion (IsBelow tree.name.name) fs → AllByRecursion (λ f. bytes_eq f.«module» tree.name.name ≡ false) fs
    all_other [] h = tt
    all_other (f ∷ fs) h = (h.0.other, all_other fs h.1)
