-- What is known of entries that are read, and of the type test by them.
use Rattle.std.proofs.Common.{◌≡◌, ℕ, suc, ◌-◌, ◌<◌, ◌≤◌, Bool, true, false, List, length, get_or, Option, Some, None, refl, sym, ap, ◌∙◌, subst, arith}
use Rattle.std.specs.Prelude.{nat_eq, ◌||◌}
use Rattle.std.proofs.lemmas.Bool.Decides.{nat_tests}
use Rattle.ob_tdesc.specs.declared.descriptor.Descriptor.{Descriptor}
use Rattle.ob_tdesc.specs.declared.descriptors.Entry.{Entry}
use Rattle.ob_tdesc.specs.declared.descriptors.Descriptors.TheInside.{Inside}
use Rattle.ob_tdesc.specs.Bases.{base_in, base_of, with_bases, line_from, line_of, level_of, is_among, is_or_has_base}
use Rattle.ob_tdesc.specs.Entries.{list_of, IsPlaced, IsKept}
use Rattle.ob_tdesc.proofs.Lines.{AreBelow, line_up, among_is}
use Rattle.ob_tdesc.proofs.Tables.{length_list}
use Rattle.ob_tdesc.proofs.Kept.{entry_at, descriptor_at, below_of}

pub record Known (list : List Descriptor) (a : ℕ) (x : Entry) : Type 0 where
  pub placed : IsPlaced list a x
  pub base : base_of list a ≡ x.base

pub known : (d : Inside) (list : List Descriptor) (a : ℕ) (x : Entry) → IsKept d → list_of d.methods.items d.entries.items ≡ list → a < length list → x ≡ get_or d.entries.items a x → Known list a x
known d list a x kept is lt read =
    let at = entry_at d.methods.items d.entries.items list a x is lt read in
    record {
      placed = subst (λ l. IsPlaced l a x) is (kept.placed a x at);
      base = ap base_in (descriptor_at d.methods.items d.entries.items list a x is at);
    }

pub below_list : (d : Inside) (list : List Descriptor) → IsKept d → list_of d.methods.items d.entries.items ≡ list → AreBelow list
below_list d list kept is = subst AreBelow is (below_of (list_of d.methods.items d.entries.items) d.entries.items (length_list d.methods.items d.entries.items) kept.placed)

pub by_table : (list : List Descriptor) (a b : ℕ) (x : Entry) (low : ℕ) → AreBelow list → IsPlaced list a x → low ≡ level_of list b → low ≤ x.level → low < 16 → nat_eq (get_or x.ancestors low 0) b ≡ is_or_has_base list a b
by_table list a b x low below placed is le lt =
    let level = placed.level in
    let index : x.level - low ≡ level_of list a - level_of list b = omega arith in
    ap (λ k. nat_eq k b) (placed.table low le lt ∙ ap (λ k. get_or (line_of list a) k 0) index) ∙ sym (among_is list below (suc a) a b (omega arith) (omega arith))

first_of_line : (list : List Descriptor) (a : ℕ) → get_or (line_of list a) 0 0 ≡ a
first_of_line list a = go (base_of list a)
  where
    go : (o : Option ℕ) → get_or (with_bases a o (λ b. line_from list a b)) 0 0 ≡ a
    go None = refl
    go (Some b) = refl

pub at_level : (list : List Descriptor) (a b : ℕ) → AreBelow list → level_of list a ≡ level_of list b → nat_eq a b ≡ is_or_has_base list a b
at_level list a b below level =
    let index : level_of list a - level_of list b ≡ 0 = omega arith in
    sym (among_is list below (suc a) a b (omega arith) (omega arith) ∙ ap (λ k. nat_eq (get_or (line_of list a) k 0) b) index ∙ ap (λ k. nat_eq k b) (first_of_line list a))

pub above_level : (list : List Descriptor) (a b c : ℕ) → AreBelow list → base_of list a ≡ Some c → level_of list b < level_of list a → is_or_has_base list c b ≡ is_or_has_base list a b
above_level list a b c below base lt = go (nat_eq b a) refl
  where
    go : (t : Bool) → nat_eq b a ≡ t → is_or_has_base list c b ≡ is_or_has_base list a b
    go true e = let same : b ≡ a = grind (arith, nat_tests) in let level : level_of list b ≡ level_of list a = ap (level_of list) same in absurd (omega arith)
    go false e = sym (ap (is_among b) (line_up list below a c base) ∙ ap (λ t. t || is_among b (line_of list c)) e)
