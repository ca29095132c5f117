-- What is known of a module that was compiled.
use Rattle.std.proofs.Common.{◌≡◌, ℕ, ◌≤◌, List, length, Bool, true, false, refl, sym, ap, ◌∙◌, subst, Option, Some, None, Result, Ok, Err}
use Rattle.std.specs.Prelude.{nat_le}
use Rattle.std.proofs.lemmas.Bool.{false≢true}
use Rattle.ob_tree.specs.declared.decl.Module.{Module as Tree}
use Rattle.ob_tree.specs.declared.which.Which.{Which}
use Rattle.ob_types.specs.declared.typed.TypedModule.{TypedModule}
use Rattle.ob_types.specs.TypedSyntax.{Module}
use Rattle.ob_types.specs.TypedView.{module_view}
use Rattle.ob_rules.specs.declared.broken.Broken.{Broken}
use Rattle.ob_rules.specs.Declarations.{checked, first_break}
use Rattle.ob_layout.specs.LaidOut.{laid_out, viewed}
use Rattle.ob_layout.specs.Room.{first_limit}
use Rattle.ob_scheme.specs.Needs.{has_few_operands}
use Rattle.ob_env.specs.Faces.{Face, described}
use Rattle.ob_env.specs.Shown.{shown}
use Rattle.ob_env.specs.Answer.{Standing, Stands, Stale, Unfit}
use Rattle.ob_env_walk.specs.Walk.{Entry, file_limit}
use Rattle.ob_env_walk.specs.Answer.{Reached, Stopped, Whole, env_answer}
use Rattle.ob_parse_grammar.specs.TextReading.{NoModule, reading}
use Rattle.ob_compile_model.specs.Compiling as c
use Rattle.ob_compile_model.specs.Compiling.{Keeping, Refusal, Compiled, compiled, made, within, exceeds, exceeded, or_first, limit_of_operands, limit_of_code, limit_of_files, object_bytes, symbol_bytes, object_by, most_code, of_checked, of_break, by_rules, and_limits, unless_deep, is_deep, of_faces, of_standing, of_reached, of_few, of_tree, of_reading, of_short, most_imports, most_source, imported}

-- it is made of a checked module over its interfaces, and keeps all limits
pub record Comes {K : Type 0} (keeping : Keeping K) (x : Compiled K) : Type 0 where
  pub faces : List (Face K)
  pub tree : Module
  pub is : x ≡ made keeping faces tree
  pub limits : exceeds keeping x ≡ None

abbrev ok_or : {A E : Type 0} → A → Result A E → A
ok_or d (Ok x) = x
ok_or d (Err e) = d

abbrev is_ok : {A E : Type 0} → Result A E → Bool
is_ok (Ok x) = true
is_ok (Err e) = false

abbrev pub an_ok : (A E : Type 0) → A → Result A E
an_ok A E x = Ok x

abbrev pub an_err : (A E : Type 0) → E → Result A E
an_err A E r = Err r

pub ok_is : {A E : Type 0} (x y : A) → an_ok A E x ≡ an_ok A E y → x ≡ y
ok_is x y e = ap (ok_or x) e

pub err_no : {A E : Type 0} (r : E) (y : A) → an_err A E r ≡ an_ok A E y → ⊥
err_no r y e = false≢true (ap is_ok e)

module _ {K : Type 0} (keeping : Keeping K) where
  abbrev Good : Result (Compiled K) (Refusal K) → Type 0
  Good r = (x : Compiled K) → r ≡ Ok x → Comes keeping x

  bad : (r : Refusal K) → Good (Err r)
  bad r x e = absurd (err_no r x e)

  -- what was made, before the limits
  abbrev Made : Result (Compiled K) (Refusal K) → Type 0
  Made (Ok x) = (faces : List (Face K)) × (m : Module) × (x ≡ made keeping faces m)
  Made (Err r) = Unit {0}

  made_checked : (faces : List (Face K)) (o : Option TypedModule) → Made (of_checked keeping faces o)
  made_checked faces None = tt
  made_checked faces (Some m) = (faces, laid_out (described faces) (module_view m), refl)

  made_break : (faces : List (Face K)) (o : Option TypedModule) (b : Option Broken) → Made (of_break keeping faces o b)
  made_break faces o (Some b) = tt
  made_break faces o None = made_checked faces o

  good_within : (y : Compiled K) (o : Option Which) → exceeds keeping y ≡ o → Made (Ok y) → Good (within y o)
  good_within y (Some w) e m x i = bad (c.Limit w) x i
  good_within y None e m x i = subst (Comes keeping) (ok_is y x i) (record { faces = m.0; tree = m.1; is = m.2; limits = e })

  good_limits : (r : Result (Compiled K) (Refusal K)) → Made r → Good (and_limits keeping r)
  good_limits (Ok y) m = good_within y (exceeds keeping y) refl m
  good_limits (Err r) m = bad r

  good_deep : (b : Bool) (r : Result (Compiled K) (Refusal K)) → Good r → Good (unless_deep b r)
  good_deep true r g = bad _
  good_deep false r g = g

  good_faces : (faces : List (Face K)) (tree : Tree) → Good (of_faces keeping faces tree)
  good_faces faces tree = good_deep (is_deep faces tree) (and_limits keeping (by_rules keeping faces tree)) (good_limits (by_rules keeping faces tree) (made_break faces (checked (shown faces) tree) (first_break (shown faces) tree)))

  good_standing : (tree : Tree) (s : Standing K) → Good (of_standing keeping tree s)
  good_standing tree (Stands faces) = good_faces faces tree
  good_standing tree (Stale u) = bad (c.Unmet u)
  good_standing tree (Unfit q) = bad (c.NoFit q)

  good_reached : (tree : Tree) (r : Reached K) → Good (of_reached keeping tree r)
  good_reached tree (Stopped w) = bad (c.Walk w)
  good_reached tree (Whole s) = good_standing tree s

  good_few : (b : Bool) (r : Result (Compiled K) (Refusal K)) → Good r → Good (of_few b r)
  good_few true r g = g
  good_few false r g = bad _

  good_reading : (entry : List ℕ → Entry K) (r : Result Tree NoModule) → Good (of_reading keeping entry r)
  good_reading entry (Ok tree) = good_few _ _ (good_reached tree _)
  good_reading entry (Err f) = bad (c.Unread f)

  good_short : (b : Bool) (r : Result (Compiled K) (Refusal K)) → Good r → Good (of_short b r)
  good_short true r g = g
  good_short false r g = bad _

  pub comes : (entry : List ℕ → Entry K) (file : Option (List ℕ)) (x : Compiled K) → compiled keeping entry file ≡ Ok x → Comes keeping x
  unfolding compiled
  comes entry None x e = bad c.NoSource x e
  comes entry (Some source) x e = good_short (nat_le (length source) most_source) (of_reading keeping entry (reading source)) (good_reading entry (reading source)) x e

  both : {A : Type 0} (a b : Option A) → or_first a b ≡ None → (a ≡ None) × (b ≡ None)
  both None b e = (refl, e)
  both (Some x) b e = absurd cc

  met : (b : Bool) (w : Which) → exceeded b w ≡ None → b ≡ true
  met true w e = refl
  met false w e = absurd cc

  -- both files keep the limit
  pub short : (x : Compiled K) → exceeds keeping x ≡ None → (nat_le (length (object_bytes keeping x)) file_limit ≡ true) × (nat_le (length (symbol_bytes keeping x)) file_limit ≡ true)
  short x e =
      let a = both (first_limit (viewed (described x.against) x.tree) x.tree (length x.shows.objects)) (limit_of_operands keeping x) e in
      let b = both (exceeded (has_few_operands (viewed (described x.against) x.tree) x.tree) _) (limit_of_code keeping x) a.1 in
      let d = both (exceeded (nat_le (length (object_by keeping x).body.code) most_code) _) (limit_of_files (object_bytes keeping x) (symbol_bytes keeping x)) b.1 in
      let f = both (exceeded (nat_le (length (object_bytes keeping x)) file_limit) _) (exceeded (nat_le (length (symbol_bytes keeping x)) file_limit) _) d.1 in
      (met (nat_le (length (object_bytes keeping x)) file_limit) _ f.0, met (nat_le (length (symbol_bytes keeping x)) file_limit) _ f.1)

-- a file that compiles is there
pub some_source : {K : Type 0} (keeping : Keeping K) (entry : List ℕ → Entry K) (file : Option (List ℕ)) (x : Compiled K) → compiled keeping entry file ≡ Ok x → (source : List ℕ) × (file ≡ Some source)
unfolding compiled
some_source keeping entry None x e = absurd (err_no c.NoSource x e)
some_source keeping entry (Some source) x e = (source, refl)
