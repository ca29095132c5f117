-- What was left for later, with other interfaces around.
use Rattle.std.proofs.Common.{◌≡◌, refl, ap, ◌∙◌, ℕ, zero, suc, List, [], ◌∷◌, length, Option, Some, None, Bool, true, false, not}
use Rattle.std.specs.Prelude.{◌&&◌, ◌||◌, bytes_eq}
use Rattle.std.specs.List.{AllByRecursion, find, filter}
use Rattle.ob_tree.specs.declared.names.QName.{QName}
use Rattle.ob_types.specs.declared.types.TypeRef.{TypeRef}
use Rattle.ob_types.specs.declared.types.TypeRef.TheVariants as ref
use Rattle.ob_types.specs.declared.desc.Desc.{Desc}
use Rattle.ob_types.specs.Tests.{target}
use Rattle.ob_rules.specs.declared.notes.Later.{Later}
use Rattle.ob_rules.specs.declared.notes.Later.TheVariants as later
use Rattle.ob_rules.specs.declared.broken.Rule.TheVariants as rule
use Rattle.ob_rules.specs.Judged.{notes_if, joined, no_notes}
use Rattle.ob_rules.specs.Shapes.{is_held, record_of}
use Rattle.ob_rules.specs.Names.{Around, map_of, is_among}
use Rattle.ob_rules.specs.Headings.{is_method, member_of}
use Rattle.ob_rules.specs.Declarations.{Pointers, pointer_name, own_name, base_name, is_wrong, comes_back, is_told, pointer_told, pointer_judged, judge_base, judge_unless, judge_pointer, judge_pointers, is_pointer_left, pointers_judged, field_judged, all_judged}
use Rattle.law_local_judged.specs.Agreement.{Agree}
use Rattle.law_local_judged.specs.Followed.{beside, Agrees}
use Rattle.law_local_judged.specs.Declared.{LaterIn}
use Rattle.law_local_judged.proofs.Tests.{two, target_same, held_same, is_array_same, is_record_same, record_same, record_in, member_same}
use Rattle.law_local_judged.proofs.Values.{three}
use Rattle.law_local_judged.proofs.Names.{maps_agree, found}
use Rattle.law_local_judged.proofs.Heading.{kept_filter}

module _ (P : QName → Type 0) (u : Around) (s : QName → Option Desc) (a : Agrees P u s) where
  abbrev v : Around
  v = beside u s

  abbrev maps : Agree P (map_of u) (map_of v)
  maps = maps_agree P u s a

  own_same : (t : TypeRef) → own_name v t ≡ own_name u t
  own_same (ref.Basic b) = refl
  own_same (ref.Named q) = refl

  base_same : (l : Later) → LaterIn P l → base_name v l ≡ base_name u l
  base_same (later.PointsTo x at t inline) h = ap (own_name v) (target_same P (map_of u) (map_of v) maps 201 t h).0 ∙ own_same (target (map_of u) 201 t)
  base_same (later.Inherits x t) h = refl

  wrong_same : (l : Later) → LaterIn P l → is_wrong (map_of v) l ≡ is_wrong (map_of u) l
  wrong_same (later.PointsTo x at t inline) h =
      let k = target_same P (map_of u) (map_of v) maps 201 t h in
      ap (λ b. inline || b) (three (λ b c d. b && c && not d) (held_same P (map_of u) (map_of v) maps t h) (ap (is_held (map_of v)) k.0 ∙ held_same P (map_of u) (map_of v) maps (target (map_of u) 201 t) k.1)
      (two (λ b c. b || c) (is_array_same P (map_of u) (map_of v) maps t h) (is_record_same P (map_of u) (map_of v) maps t h)))
  wrong_same (later.Inherits x t) h = refl

  judged_same : (l : Later) (p : Pointers) → LaterIn P l → pointer_judged v l p ≡ pointer_judged u l p
  judged_same l p h = two (λ b w. pointer_told l b (is_told w (is_among b p.unsound) (comes_back b p) p) (is_among b p.unsound) (comes_back b p) p) (base_same l h) (wrong_same l h)

  base_by : (o : Option Later) (p : Pointers) (f g : Later → Pointers → Pointers) → ((k : Later) → o ≡ Some k → g k p ≡ f k p) → judge_base o p g ≡ judge_base o p f
  base_by None p f g h = refl
  base_by (Some k) p f g h = h k refl

  unless_same : (b : Bool) (p : Pointers) (f g : Pointers → Pointers) (x : List ℕ) → ((q : Pointers) → g q ≡ f q) → judge_unless b p g x ≡ judge_unless b p f x
  unless_same true p f g x h = refl
  unless_same false p f g x h = h (record p { judged = x ∷ p.judged })

  pointer_same : (ls : List Later) → AllByRecursion (LaterIn P) ls → (n : ℕ) (l : Later) (p : Pointers) → LaterIn P l → judge_pointer v ls n l p ≡ judge_pointer u ls n l p
  pointer_same ls all zero l p h = refl
  pointer_same ls all (suc n) l p h =
      unless_same (is_among (pointer_name l) p.judged) p
      (λ t. pointer_judged u l (judge_base (find (λ k. bytes_eq (pointer_name k) (base_name u l)) ls) t (λ k w. judge_pointer u ls n k w)))
      (λ t. pointer_judged v l (judge_base (find (λ k. bytes_eq (pointer_name k) (base_name v l)) ls) t (λ k w. judge_pointer v ls n k w))) (pointer_name l)
      (λ t. ap (λ b. pointer_judged v l (judge_base (find (λ k. bytes_eq (pointer_name k) b) ls) t (λ k w. judge_pointer v ls n k w))) (base_same l h)
      ∙ (ap (pointer_judged v l) (base_by (find (λ k. bytes_eq (pointer_name k) (base_name u l)) ls) t (λ k w. judge_pointer u ls n k w) (λ k w. judge_pointer v ls n k w) (λ k e. pointer_same ls all n k t (found (LaterIn P) (λ k. bytes_eq (pointer_name k) (base_name u l)) ls k all e)))
      ∙ judged_same l (judge_base (find (λ k. bytes_eq (pointer_name k) (base_name u l)) ls) t (λ k w. judge_pointer u ls n k w)) h))

  in_turn_same : (all ls : List Later) (p : Pointers) → AllByRecursion (LaterIn P) all → AllByRecursion (LaterIn P) ls → judge_pointers v all ls p ≡ judge_pointers u all ls p
  in_turn_same all [] p h k = refl
  in_turn_same all (l ∷ ls) p h k = ap (judge_pointers v all ls) (pointer_same all h (suc (length all)) l p k.0) ∙ in_turn_same all ls (judge_pointer u all (suc (length all)) l p) h k.1

  -- POINTERS that were left are judged the same
  pub pointers_same : (ls : List Later) → AllByRecursion (LaterIn P) ls → pointers_judged v ls ≡ pointers_judged u ls
  pointers_same ls h =
      let all = filter is_pointer_left ls in
      let k = kept_filter (LaterIn P) is_pointer_left ls h in
      ap (λ (p : Pointers). p.notes) (in_turn_same all all (record { judged = []; unsound = []; through = []; rings = []; notes = no_notes }) k k)

  member_by : (o : Option QName) (x : List ℕ) → ((q : QName) → o ≡ Some q → P q) → member_of (map_of v) o x ≡ member_of (map_of u) o x
  member_by None x h = refl
  member_by (Some q) x h = member_same P (map_of u) (map_of v) maps q x (h q refl)

  field_same : (l : Later) → LaterIn P l → field_judged (map_of v) l ≡ field_judged (map_of u) l
  field_same (later.PointsTo x at t inline) h = refl
  field_same (later.Inherits x t) h = ap (λ m. notes_if (is_method m) rule.DeclaredTwice x.pos) (ap (λ o. member_of (map_of v) o x.name) (record_same P (map_of u) (map_of v) maps t h) ∙ member_by (record_of (map_of u) t) x.name (λ q e. record_in P (map_of u) (map_of v) maps t q h e))

  -- FIELDS that were left are judged the same
  pub fields_same : (ls : List Later) → AllByRecursion (LaterIn P) ls → all_judged (field_judged (map_of v)) ls ≡ all_judged (field_judged (map_of u)) ls
  fields_same [] h = refl
  fields_same (l ∷ ls) h = two joined (field_same l h.0) (fields_same ls h.1)
