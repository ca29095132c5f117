-- What is mentioned counts.
use Rattle.std.proofs.Common.{◌≡◌, ℕ, zero, suc, ◌+◌, Bool, true, false, not, List, [], ◌∷◌, ◌++◌, length, map, Option, Some, None, refl, sym, ap, subst, ◌∙◌, inl, inr}
use Rattle.std.specs.Prelude.{◌&&◌, ◌||◌, bytes_eq, codes}
use Rattle.std.specs.Option.{option_map}
use Rattle.std.specs.List.{flat_map}
use Rattle.ob_tree.specs.declared.names.QName.{QName}
use Rattle.ob_tree.specs.declared.ident.Mark.{Mark}
use Rattle.ob_types.specs.declared.types.TypeRef.{TypeRef}
use Rattle.ob_types.specs.declared.types.TypeRef.TheVariants as ref
use Rattle.ob_types.specs.declared.types.Signature.{Signature}
use Rattle.ob_types.specs.declared.desc.Desc.{Desc}
use Rattle.ob_types.specs.declared.desc.Desc.TheVariants as desc
use Rattle.ob_types.specs.declared.typed.TypedModule.{TypedModule}
use Rattle.ob_types.specs.TypedSyntax.{Module}
use Rattle.ob_types.specs.TypedView.{module_view}
use Rattle.ob_desc.specs.Grammar.{same_object}
use Rattle.ob_desc.specs.Laws.{object_decides}
use Rattle.ob_layout.specs.LaidOut.{laid_out}
use Rattle.ob_env.specs.Faces.{Face, described}
use Rattle.ob_env.specs.Fit.{count_of}
use Rattle.ob_env.specs.Shown.{blank, shown}
use Rattle.ob_uses_roots.specs.Counts.{Count, Shapes, Layouts, shapes, counts_of_designator, counts_of_type, counts_of_variable, counts_of_procedure, counts_of_all, counts_of_module}
use Rattle.ob_uses_roots.specs.Noted.{names_of, shape_starts}
use Rattle.ob_uses.specs.Closed.{is_among, of_found, new_before, unseen, reached, reached_from}
use Rattle.ob_uses.specs.Uses.{near_types}
use Rattle.ob_uses.proofs.Searching.{itself, no_both, known, either, left_of, right_of, in_front}
use Rattle.ob_compile_model.specs.Compiling.{Compiled, made, texts}
use Rattle.law_load_plan.specs.Compiled.{Text, is_variable, is_procedure}
use Rattle.law_links_names.specs.Mentions.{IsAmong, IsVariable, IsProcedure}
use Rattle.law_links.specs.Linked.{types_of, names_counted, IsCounted}

-- ---- names that count

abbrev N : List Count → List QName
N cs = names_of (shape_starts cs)

front_more : (xs ys : List Count) (q : QName) → is_among (N xs) q ≡ true → is_among (N (xs ++ ys)) q ≡ true
front_more [] ys q e = absurd cc
front_more (Shapes (ref.Basic b) ∷ xs) ys q e = front_more xs ys q e
front_more (Shapes (ref.Named p) ∷ xs) ys q e = or_more (same_object q p) (is_among (N xs) q) (is_among (N (xs ++ ys)) q) (front_more xs ys q) e
  where
    or_more : (a b c : Bool) → (b ≡ true → c ≡ true) → (a || b) ≡ true → (a || c) ≡ true
    or_more true b c f e = refl
    or_more false b c f e = f e
front_more (Layouts t ∷ xs) ys q e = front_more xs ys q e

objects_start : (ps : List QName) (q : QName) → IsAmong ps q → is_among (N (map (λ p. Shapes (ref.Named p)) ps)) q ≡ true
objects_start [] q h = absurd h
objects_start (p ∷ ps) q (inl e) = left_of (same_object q p) (is_among (N (map (λ p. Shapes (ref.Named p)) ps)) q) (subst (λ z. same_object q z ≡ true) (sym e) (itself q))
objects_start (p ∷ ps) q (inr h) = right_of (same_object q p) (is_among (N (map (λ p. Shapes (ref.Named p)) ps)) q) (objects_start ps q h)

module_start : (types : QName → Option Desc) (m : Module) (q : QName) → IsAmong m.mentioned.objects q → is_among (N (counts_of_module types m)) q ≡ true
module_start types m q h =
    let a = map (λ p. Shapes (ref.Named p)) m.mentioned.objects in
    let b = a ++ shapes m.mentioned.types in
    let c = b ++ flat_map counts_of_designator m.mentioned.lengths in
    let d = c ++ flat_map (counts_of_type m) m.types in
    let e = d ++ flat_map counts_of_variable m.variables in
    let f = e ++ flat_map (counts_of_procedure types) m.procedures in
    front_more f (counts_of_all m.body) q
    (front_more e (flat_map (counts_of_procedure types) m.procedures) q
    (front_more d (flat_map counts_of_variable m.variables) q
    (front_more c (flat_map (counts_of_type m) m.types) q
    (front_more b (flat_map counts_of_designator m.mentioned.lengths) q
    (front_more a (shapes m.mentioned.types) q (objects_start m.mentioned.objects q h))))))

-- ---- the first names are reached

not_either : (a b : Bool) → a ≡ false → b ≡ false → (a || b) ≡ false
not_either true b e f = absurd cc
not_either false b e f = f

unseen_all : (seen qs : List QName) (q : QName) → ((x : QName) → same_object q x ≡ true → q ≡ x) → is_among qs q ≡ true → is_among seen q ≡ false → is_among (unseen seen qs) q ≡ true
unseen_all seen [] q d e f = absurd cc
unseen_all seen (x ∷ xs) q d e f = elim (known (same_object q x)) as (λ _. is_among (unseen seen (x ∷ xs)) q ≡ true) [
  | inl same ↦
      let is : q ≡ x = d x same in
      let new : is_among seen x ≡ false = subst (λ (y : QName). is_among seen y ≡ false) is f in
      ap (λ (b : Bool). is_among (new_before b x (unseen (x ∷ seen) xs)) q) new ∙ left_of (same_object q x) (is_among (unseen (x ∷ seen) xs) q) same
  | inr other ↦
      let more : is_among xs q ≡ true = elim (either (same_object q x) (is_among xs q) e) as (λ _. is_among xs q ≡ true) [ inl s ↦ absurd (no_both (same_object q x) s other) | inr m ↦ m ] in
      let rest : is_among (unseen (x ∷ seen) xs) q ≡ true = unseen_all (x ∷ seen) xs q d more (not_either (same_object q x) (is_among seen q) other f) in
      elim (is_among seen x) as (λ b. is_among (new_before b x (unseen (x ∷ seen) xs)) q ≡ true) [
        | true ↦ rest
        | false ↦ right_of (same_object q x) (is_among (unseen (x ∷ seen) xs) q) rest
      ]
]

grows : (leads : QName → List QName) (n : ℕ) (seen last : List QName) (q : QName) → is_among seen q ≡ true → is_among (reached leads n seen last) q ≡ true
grows leads zero seen last q e = e
grows leads (suc n) seen [] q e = e
grows leads (suc n) seen (x ∷ xs) q e = grows leads n (seen ++ unseen seen (flat_map leads (x ∷ xs))) (unseen seen (flat_map leads (x ∷ xs))) q (in_front seen (unseen seen (flat_map leads (x ∷ xs))) q e)

first_reached : (leads : QName → List QName) (n : ℕ) (starts : List QName) (q : QName) → is_among starts q ≡ true → is_among (reached_from leads n starts) q ≡ true
first_reached leads n starts q e = grows leads n (unseen [] starts) (unseen [] starts) q (unseen_all [] starts q (λ x s. (object_decides q x).0 s) e refl)

-- ---- what is shown is described

blank_var : (d : Desc) (m : Mark) (t : TypeRef) → blank d ≡ desc.Var m t → is_variable d ≡ true
blank_var (desc.Var n u) m t e = refl
blank_var (desc.Const v) m t e = absurd cc
blank_var (desc.Proc s) m t e = absurd cc
blank_var (desc.Alias n u) m t e = absurd cc
blank_var (desc.Array n l u) m t e = absurd cc
blank_var (desc.OpenArray n u) m t e = absurd cc
blank_var (desc.Pointer n u) m t e = absurd cc
blank_var (desc.ProcType n s) m t e = absurd cc
blank_var (desc.Record r) m t e = absurd cc

blank_proc : (d : Desc) (s : Signature) → blank d ≡ desc.Proc s → is_procedure d ≡ true
blank_proc (desc.Proc t) s e = refl
blank_proc (desc.Var n u) s e = absurd cc
blank_proc (desc.Const v) s e = absurd cc
blank_proc (desc.Alias n u) s e = absurd cc
blank_proc (desc.Array n l u) s e = absurd cc
blank_proc (desc.OpenArray n u) s e = absurd cc
blank_proc (desc.Pointer n u) s e = absurd cc
blank_proc (desc.ProcType n t) s e = absurd cc
blank_proc (desc.Record r) s e = absurd cc

pub described_by : (o : Option Desc) (e : Desc) → option_map blank o ≡ Some e → (d : Desc) × (o ≡ Some d) × (blank d ≡ e)
described_by None e h = absurd cc
described_by (Some d) e h = (d, refl, cc)

pub both_not : (a b : Bool) → a ≡ false → b ≡ false → (not a && not b) ≡ true
both_not true b e f = absurd cc
both_not false true e f = absurd cc
both_not false false e f = refl

module _ (faces : List (Face Text)) (m : TypedModule) where
  abbrev pub one : Compiled Text
  one = made texts faces (laid_out (described faces) (module_view m))

  reached_there : (q : QName) → IsAmong m.mentioned.objects q → is_among (names_counted one) q ≡ true
  reached_there q h =
      first_reached (λ q. of_found (λ d. names_of (near_types d)) (types_of one q)) (length one.tree.types + count_of one.against) (N (counts_of_module (types_of one) one.tree)) q (module_start (types_of one) one.tree q h)

  pub variable_counted : (q : QName) → IsVariable (shown faces) m.name (IsAmong m.mentioned.objects) q → IsCounted is_variable one q
  variable_counted q v =
      let d = described_by (described faces q) (desc.Var v.mark v.of) v.is in
      record { desc = d.0; kind_is = blank_var d.0 v.mark v.of d.2; shown = d.1; imported = both_not (bytes_eq q.«module» m.name) (bytes_eq q.«module» (codes "Out")) v.other v.out; counted = reached_there q v.mentioned }

  pub procedure_counted : (q : QName) → IsProcedure (shown faces) m.name (IsAmong m.mentioned.objects) q → IsCounted is_procedure one q
  procedure_counted q v =
      let d = described_by (described faces q) (desc.Proc v.signature) v.is in
      record { desc = d.0; kind_is = blank_proc d.0 v.signature d.2; shown = d.1; imported = both_not (bytes_eq q.«module» m.name) (bytes_eq q.«module» (codes "Out")) v.other v.out; counted = reached_there q v.mentioned }
