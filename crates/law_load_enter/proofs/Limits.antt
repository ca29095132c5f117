-- What the limits of a compile say.
use Rattle.std.proofs.Common.{◌≡◌, ℕ, ◌≤◌, Bool, true, false, length, Option, Some, None, refl, sym}
use Rattle.std.specs.Prelude.{cond, not, nat_le}
use Rattle.std.proofs.lemmas.Bool.{false≢true, leb-true}
use Rattle.ob_tree.specs.declared.which.Which.{Which}
use Rattle.ob_tree.specs.declared.which.Which.TheVariants as which
use Rattle.ob_layout.specs.LaidOut.{viewed}
use Rattle.ob_layout.specs.Room.{above, first_limit, globals_words}
use Rattle.ob_env.specs.Faces.{described}
use Rattle.ob_scheme.specs.Needs.{has_few_operands}
use Rattle.ob_compile_model.specs.Compiling.{Compiled, texts, object_by, or_first, exceeded, most_code, limit_of_files, object_bytes, symbol_bytes, limit_of_code, limit_of_operands, exceeds}
use Rattle.ob_builds.specs.Builds.{Text}

both_none : (a b : Option Which) → or_first a b ≡ None → (a ≡ None) × (b ≡ None)
both_none None b e = (refl, e)
both_none (Some w) b e = absurd cc

passed : (b : Bool) (w : Which) (more : Option Which) → cond b (Some w) more ≡ None → (b ≡ false) × (more ≡ None)
passed true w more e = absurd cc
passed false w more e = (refl, e)

kept : (b : Bool) (w : Which) → exceeded b w ≡ None → b ≡ true
kept true w e = refl
kept false w e = absurd cc

not_above : (limit n : ℕ) → above limit n ≡ false → n ≤ limit
not_above limit n e = leb-true n limit (turned (nat_le n limit) e)
  where
    turned : (b : Bool) → not b ≡ false → b ≡ true
    turned true h = refl
    turned false h = absurd (false≢true (sym h))

-- room for the globals
pub room_kept : (c : Compiled Text) → exceeds texts c ≡ None → globals_words (viewed (described c.against) c.tree) c.tree ≤ 262144
room_kept c e =
    let map = viewed (described c.against) c.tree in
    let a = passed _ which.Objects _ (both_none (first_limit map c.tree (length c.shows.objects)) (limit_of_operands texts c) e).0 in
    let b = passed _ which.Words _ a.1 in
    let d = passed _ which.Frame _ b.1 in
    let g = passed (above 262144 (globals_words map c.tree)) which.Globals _ d.1 in
    not_above 262144 (globals_words map c.tree) g.0

-- not too much code
pub code_kept : (c : Compiled Text) → exceeds texts c ≡ None → length (object_by texts c).body.code ≤ 262144
code_kept c e =
    let map = viewed (described c.against) c.tree in
    let a = both_none (first_limit map c.tree (length c.shows.objects)) (limit_of_operands texts c) e in
    let b = both_none (exceeded (has_few_operands map c.tree) which.Operands) (limit_of_code texts c) a.1 in
    let d = both_none (exceeded (nat_le (length (object_by texts c).body.code) most_code) which.Code) (limit_of_files (object_bytes texts c) (symbol_bytes texts c)) b.1 in
    leb-true (length (object_by texts c).body.code) 262144 (kept (nat_le (length (object_by texts c).body.code) most_code) which.Code d.0)
