-- The turns of a make are done one behind the other, each as it is said, and what was compiled is counted.
use Rattle.std.proofs.Common.{◌≡◌, ◌⊎◌, ℕ, if◌then◌else◌, List, [], ◌∷◌, ◌++◌, Bool, true, false, length, refl, sym, ap, ◌∙◌, append_assoc, length-append, arith, inl, inr, Result, Ok, Err}
use Rattle.std.proofs.lemmas.Bool.{false≢true}
use Rattle.ob_tree.specs.declared.print.Print.{Print}
use Rattle.ob_make.specs.Order.{MakeEnd, order}
use Rattle.ob_make.specs.Stale.{turn_of}
use Rattle.ob_make.specs.Folder.{source_name}
use Rattle.ob_make.specs.declared.turns.Turn.{Turn}
use Rattle.ob_make.specs.declared.turns.Turn.TheVariants as turn
use Rattle.ob_make.proofs.Orders.{order_stands}
use Rattle.ob_compile_model.specs.Compiling as compile
use Rattle.ob_compile_model.specs.Compiling.{Compiled}
use Rattle.ob_shell_reports.specs.Texts.{made_text}
use Rattle.ob_shell_model.specs.Folds.{Part, Answer, part}
use Rattle.ob_shell_model.specs.Making.{Maker, turn_at, by_turn, in_turn, and_on, behind, behind_turns, made_in, make_answer}
use Rattle.ob_shell_model.specs.Bytes as bytes
use Rattle.ob_shell_model.specs.Model as model
use Rattle.ob_builds.specs.Builds.{Text}
use Rattle.law_make.specs.Making.{passed, stale, sourceless, nothing, TakesTurn, and_one, count_compiled, MakesExactly, MakesCompileExactly}

-- ---- answers behind one another

abbrev ended : {W C : Type 0} → Bool → W → List (Part C) → Answer W C
ended b w ps = record { world = w; parts = ps; refused = b }

behind_on : {W C : Type 0} (ps : List (Part C)) (b : Bool) (w : W) (qs : List (Part C)) (g : W → Answer W C) → and_on (behind ps (ended b w qs)) g ≡ behind ps (and_on (ended b w qs) g)
behind_on ps true w qs g = refl
behind_on {C = C} ps false w qs g = ap (λ (l : List (Part C)). ended (g w).refused (g w).world l) (append_assoc ps qs (g w).parts)

on_assoc : {W C : Type 0} (b : Bool) (w : W) (ps : List (Part C)) (f g : W → Answer W C) → and_on (and_on (ended b w ps) f) g ≡ and_on (ended b w ps) (λ v. and_on (f v) g)
on_assoc true w ps f g = refl
on_assoc false w ps f g = behind_on ps (f w).refused (f w).world (f w).parts g

-- behind what was not refused it goes on
pub goes_on : {W C : Type 0} (a : Answer W C) (f : W → Answer W C) → a.refused ≡ false → and_on a f ≡ behind a.parts (f a.world)
goes_on a f e = ap (λ (b : Bool). if b then a else behind a.parts (f a.world)) e

pub first_goes : {W C : Type 0} (a : Answer W C) (f : W → Answer W C) → (and_on a f).refused ≡ false → a.refused ≡ false
first_goes a f e = go a.refused refl e
  where
    go : (b : Bool) → a.refused ≡ b → (if b then a else behind a.parts (f a.world)).refused ≡ false → a.refused ≡ false
    go true i h = h
    go false i h = i

pub then_goes : {W C : Type 0} (a : Answer W C) (f : W → Answer W C) → (and_on a f).refused ≡ false → (f a.world).refused ≡ false
then_goes {W = W} {C = C} a f e = sym (ap (λ (x : Answer W C). x.refused) (goes_on a f (first_goes a f e))) ∙ e

module _ {W C K : Type 0} (maker : Maker W C K) (m : List ℕ) where
  pub in_order : (front back : List (List ℕ)) (w : W) → behind_turns maker m (front ++ back) w ≡ and_on (behind_turns maker m front w) (behind_turns maker m back)
  unfolding behind_turns
  in_order [] back w = refl
  in_order (x ∷ front) back w =
      let a = in_turn maker m w x in
      (λ i. and_on a (λ v. in_order front back v i)) ∙ sym (on_assoc a.refused a.world a.parts (behind_turns maker m front) (behind_turns maker m back))

  -- ---- a turn

  abbrev turned : Bool → Bool → Bool → W → List ℕ → Answer W C
  turned p s l w x = by_turn maker (turn_of p s l) w x

  stays_so : (p s l : Bool) (w : W) (x : List ℕ) → (p ≡ true) ⊎ (s ≡ false) → turned p s l w x ≡ nothing maker m w
  stays_so true s l w x h = refl
  stays_so false false l w x h = refl
  stays_so false true l w x (inl e) = absurd (false≢true e)
  stays_so false true l w x (inr e) = absurd (false≢true (sym e))

  pub takes_turn : (w : W) (x : List ℕ) → TakesTurn maker m w x
  takes_turn w x = record {
    stays = stays_so (passed maker m w x) (stale maker m w x) (sourceless maker m w x) w x;
    compiles = λ p s l. ap (λ b. turned b (stale maker m w x) (sourceless maker m w x) w x) p ∙ ap (λ b. turned false b (sourceless maker m w x) w x) s ∙ ap (λ b. turned false true b w x) l;
    lacks = λ p s l. ap (λ b. turned b (stale maker m w x) (sourceless maker m w x) w x) p ∙ ap (λ b. turned false b (sourceless maker m w x) w x) s ∙ ap (λ b. turned false true b w x) l;
  }

  -- ---- the count

  -- a compile that is not refused has one part
  abbrev HasOnePart : Type 0
  HasOnePart = (w : W) (x : List ℕ) → (maker.compile w x).refused ≡ false → length (maker.compile w x).parts ≡ 1

  count_from : HasOnePart → (xs : List (List ℕ)) (w : W) → (behind_turns maker m xs w).refused ≡ false → length (behind_turns maker m xs w).parts ≡ count_compiled maker m xs w
  unfolding behind_turns count_compiled
  count_from one [] w e = refl
  count_from one (x ∷ xs) w e = go (turn_at maker m w x) (λ v. count_from one xs v) e
    where
      go : (t : Turn) → ((v : W) → (behind_turns maker m xs v).refused ≡ false → length (behind_turns maker m xs v).parts ≡ count_compiled maker m xs v) → (and_on (by_turn maker t w x) (behind_turns maker m xs)).refused ≡ false → length (and_on (by_turn maker t w x) (behind_turns maker m xs)).parts ≡ and_one maker m t (count_compiled maker m xs (by_turn maker t w x).world)
      go turn.Stays more h = more w h
      go turn.Compiles more h =
          let a = maker.compile w x in
          let f = behind_turns maker m xs in
          let n : length a.parts ≡ 1 = one w x (first_goes a f h) in
          let k : length (f a.world).parts ≡ count_compiled maker m xs a.world = more a.world (then_goes a f h) in
          ap (λ (y : Answer W C). length y.parts) (goes_on a f (first_goes a f h)) ∙ length-append a.parts (f a.world).parts ∙ omega (arith, n, k)
      go turn.LacksSource more h = absurd (false≢true (sym h))

  counted : HasOnePart → (w : W) (xs : List (List ℕ)) → order (maker.sees w) m ≡ Ok xs → (behind_turns maker m xs w).refused ≡ false →
      make_answer maker m w ≡ behind (behind_turns maker m xs w).parts (record { world = (behind_turns maker m xs w).world; parts = part [] (made_text m (count_compiled maker m xs w)); refused = false })
  counted one w xs e h =
      let a = behind_turns maker m xs w in
      ap (λ (o : Result (List (List ℕ)) MakeEnd). made_in maker m o w) e
      ∙ goes_on a (λ v. record { world = v; parts = part [] (made_text m (length a.parts)); refused = false }) h
      ∙ ap (λ (n : ℕ). behind a.parts (ended false a.world (part [] (made_text m n)))) (count_from one xs w h)

  pub exactly : HasOnePart → (w : W) (xs : List (List ℕ)) → order (maker.sees w) m ≡ Ok xs → MakesExactly maker m w xs
  exactly one w xs e = record {
    once = (order_stands (maker.sees w) m xs e).once;
    in_order = λ front back i. ap (λ l. behind_turns maker m l w) i ∙ in_order front back w;
    turns = λ front back x i h. takes_turn (behind_turns maker m front w).world x;
    count = counted one w xs e;
  }

-- ---- over bytes, and by the meaning

bytes_part : (w : bytes.World) (name : List ℕ) (r : Result (Compiled Print) (compile.Refusal Print)) → length (bytes.compile_answer w name r).parts ≡ 1
bytes_part w name (Ok c) = refl
bytes_part w name (Err r) = refl

meaning_part : (w : model.World) (name text : List ℕ) (r : Result (Compiled Text) (compile.Refusal Text)) → length (model.compile_answer w name text r).parts ≡ 1
meaning_part w name text (Ok c) = refl
meaning_part w name text (Err r) = refl

pub bytes_so : MakesCompileExactly bytes.maker
bytes_so m w xs e = exactly bytes.maker m (λ v x h. bytes_part v (source_name x) (bytes.compiled_in v (v.files (source_name x)))) w xs e

pub meaning_so : MakesCompileExactly model.maker
meaning_so m w xs e = exactly model.maker m (λ v x h. meaning_part v (source_name x) (model.or_empty (v.files (source_name x))) (model.compiled_in v (v.files (source_name x)))) w xs e
