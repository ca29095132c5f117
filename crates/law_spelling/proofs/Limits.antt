-- What holds of a module that exceeds no limit.
use Rattle.std.proofs.Common.{◌≡◌, ℕ, suc, ◌≤◌, Bool, true, false, List, [], ◌∷◌, length, Option, Some, None, refl}
use Rattle.std.specs.Prelude.{nat_le, not, ◌||◌}
use Rattle.std.specs.List.{list_any, AllByRecursion}
use Rattle.std.proofs.lemmas.Bool.{leb-true}
use Rattle.ob_tree.specs.declared.names.QName.{QName}
use Rattle.ob_tree.specs.declared.which.Which.{Which}
use Rattle.ob_tree.specs.declared.which.Which.TheVariants as which
use Rattle.ob_types.specs.declared.desc.Desc.{Desc}
use Rattle.ob_types.specs.TypedSyntax.{Module}
use Rattle.ob_layout.specs.LaidOut.{viewed}
use Rattle.ob_layout.specs.Words.{words_of, described_words, most_words}
use Rattle.ob_layout.specs.Room.{globals_words, hidden_of_all, frame_words, above, is_wide, bound_procedures, first_of, first_limit}
use Rattle.ob_env.specs.Faces.{described}
use Rattle.ob_scheme.specs.Needs.{has_few_operands}
use Rattle.ob_env_walk.specs.Walk.{file_limit}
use Rattle.ob_compile_model.specs.Compiling.{Compiled, texts, or_first, exceeded, most_code, limit_of_files, limit_of_code, limit_of_operands, exceeds, object_by, object_bytes, symbol_bytes}
use Rattle.law_spelling.specs.Laws.{Text}
use Rattle.law_lists.proofs.Lists.{or_parts}

abbrev pub types_of : Compiled Text → QName → Option Desc
types_of c = viewed (described c.against) c.tree

pub record IsWithin (c : Compiled Text) : Type 0 where
  pub objects : length c.shows.objects ≤ 4096
  pub words : AllByRecursion (λ t. described_words (words_of (types_of c)) (Some t.desc) ≤ most_words) c.tree.types
  pub frames : AllByRecursion (λ p. frame_words (words_of (types_of c)) p ≤ most_words) c.tree.procedures
  pub hidden : hidden_of_all c.tree.body ≤ most_words
  pub globals : globals_words (types_of c) c.tree ≤ 262144
  pub procedures : suc (length c.tree.procedures) ≤ 4096
  pub bound : AllByRecursion (λ t. bound_procedures t.desc ≤ most_words) c.tree.types
  pub operands : has_few_operands (types_of c) c.tree ≡ true
  pub code : length (object_by texts c).body.code ≤ most_code
  pub object_file : length (object_bytes texts c) ≤ file_limit
  pub symbol_file : length (symbol_bytes texts c) ≤ file_limit

none_first : {A : Type 0} (a b : Option A) → or_first a b ≡ None → (a ≡ None) × (b ≡ None)
none_first (Some x) b e = absurd cc
none_first None b e = (refl, e)

kept : (b : Bool) (w : Which) → exceeded b w ≡ None → b ≡ true
kept true w e = refl
kept false w e = absurd cc

not_above : (limit n : ℕ) → above limit n ≡ false → n ≤ limit
not_above limit n e = go (nat_le n limit) refl e
  where
    go : (b : Bool) → nat_le n limit ≡ b → not b ≡ false → n ≤ limit
    go true i e = leb-true n limit i
    go false i e = absurd cc

none_above : {A : Type 0} (f : A → ℕ) (limit : ℕ) (xs : List A) → list_any (λ x. above limit (f x)) xs ≡ false → AllByRecursion (λ x. f x ≤ limit) xs
none_above f limit [] e = tt
none_above f limit (x ∷ xs) e =
    let p = or_parts (above limit (f x)) (list_any (λ x. above limit (f x)) xs) e in
    (not_above limit (f x) p.0, none_above f limit xs p.1)

first_none : (w : Which) (b : Bool) (xs : List (Which × Bool)) → first_of ((w, b) ∷ xs) ≡ None → (b ≡ false) × (first_of xs ≡ None)
first_none w true xs e = absurd cc
first_none w false xs e = (refl, e)

pub within : (c : Compiled Text) → exceeds texts c ≡ None → IsWithin c
within c e =
    let sizes = none_first (first_limit (types_of c) c.tree (length c.shows.objects)) (limit_of_operands texts c) e in
    let operands = none_first (exceeded (has_few_operands (types_of c) c.tree) which.Operands) (limit_of_code texts c) sizes.1 in
    let code = none_first (exceeded (nat_le (length (object_by texts c).body.code) most_code) which.Code) (limit_of_files (object_bytes texts c) (symbol_bytes texts c)) operands.1 in
    let files = none_first (exceeded (nat_le (length (object_bytes texts c)) file_limit) which.File) (exceeded (nat_le (length (symbol_bytes texts c)) file_limit) which.File) code.1 in
    let types = types_of c in
    let m : Module = c.tree in
    let l4 : List (Which × Bool) = (which.Procedures, above 4096 (suc (length m.procedures)) || list_any (λ t. above most_words (bound_procedures t.desc)) m.types) ∷ [] in
    let l3 : List (Which × Bool) = (which.Globals, above 262144 (globals_words types m)) ∷ l4 in
    let l2 : List (Which × Bool) = (which.Frame, list_any (λ p. above most_words (frame_words (words_of types) p)) m.procedures || above most_words (hidden_of_all m.body)) ∷ l3 in
    let l1 : List (Which × Bool) = (which.Words, list_any (is_wide types) m.types) ∷ l2 in
    let a = first_none which.Objects (above 4096 (length c.shows.objects)) l1 sizes.0 in
    let b = first_none which.Words (list_any (is_wide types) m.types) l2 a.1 in
    let d = first_none which.Frame (list_any (λ p. above most_words (frame_words (words_of types) p)) m.procedures || above most_words (hidden_of_all m.body)) l3 b.1 in
    let f = first_none which.Globals (above 262144 (globals_words types m)) l4 d.1 in
    let g = first_none which.Procedures (above 4096 (suc (length m.procedures)) || list_any (λ t. above most_words (bound_procedures t.desc)) m.types) [] f.1 in
    let frame = or_parts (list_any (λ p. above most_words (frame_words (words_of (types_of c)) p)) c.tree.procedures) (above most_words (hidden_of_all c.tree.body)) d.0 in
    let many = or_parts (above 4096 (suc (length c.tree.procedures))) (list_any (λ t. above most_words (bound_procedures t.desc)) c.tree.types) g.0 in
    record {
      objects = not_above 4096 (length c.shows.objects) a.0;
      words = none_above (λ t. described_words (words_of (types_of c)) (Some t.desc)) most_words c.tree.types b.0;
      frames = none_above (λ p. frame_words (words_of (types_of c)) p) most_words c.tree.procedures frame.0;
      hidden = not_above most_words (hidden_of_all c.tree.body) frame.1;
      globals = not_above 262144 (globals_words (types_of c) c.tree) f.0;
      procedures = not_above 4096 (suc (length c.tree.procedures)) many.0;
      bound = none_above (λ t. bound_procedures t.desc) most_words c.tree.types many.1;
      operands = kept _ which.Operands operands.0;
      code = leb-true _ _ (kept _ which.Code code.0);
      object_file = leb-true _ _ (kept _ which.File files.0);
      symbol_file = leb-true _ _ (kept _ which.File files.1);
    }
