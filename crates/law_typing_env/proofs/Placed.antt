-- The map of a module's code has the words and places of the program's records.
use Rattle.std.proofs.Common.{◌≡◌, ⊎_elim, ℕ, List, ◌++◌, map as each, Some, None, refl, sym, ap, subst, ◌∙◌}
use Rattle.std.specs.Prelude.{Bool, true, false, cond}
use Rattle.std.specs.List.{filter}
use Rattle.ob_tree.specs.declared.names.QName.{QName}
use Rattle.ob_types.specs.declared.desc.Desc.{Desc}
use Rattle.ob_types.specs.declared.desc.Desc.TheVariants as desc
use Rattle.ob_types.specs.declared.desc.RecordDesc.{RecordDesc}
use Rattle.ob_types.specs.declared.desc.Field.{Field}
use Rattle.ob_types.specs.Relations.{IsGrounded}
use Rattle.ob_types.specs.TypedSyntax.{Module}
use Rattle.ob_meaning.specs.Values.{Program, description}
use Rattle.law_simulation_relation.proofs.Names.{bytes_true}
use Rattle.ob_desc.specs.Grammar.{is_shown, by_place, seen}
use Rattle.ob_layout.specs.Lists.{in_order}
use Rattle.ob_layout.specs.LaidOut.{type_named, is_own, viewed}
use Rattle.ob_env.specs.Faces.{Face, described}
use Rattle.ob_uses_roots.specs.Counts.{own_name}
use Rattle.ob_uses.specs.Objects.{signature_of, is_exported, constant_object, variable_object, procedure_object, in_places, type_object, types_among, reached_types, by_name, objects_of}
use Rattle.ob_uses.specs.Closed.{is_among}
use Rattle.ob_rules.specs.Names.{out_string}
use Rattle.law_typing_forms.specs.Said.{IsOneOf, IsSound}
use Rattle.law_typing_forms.specs.Whole.{IsWhole}
use Rattle.law_typing_forms.proofs.Modules.{of_all, type_there}
use Rattle.law_typing_env.specs.Ages.{IsShownBy, AreShown}
use Rattle.law_typing_env.specs.Sized.{IsSized, Describes}
use Rattle.law_typing_env.proofs.Shown.{one_joined, one_filtered, one_mapped, one_ordered, face_found, object_found}
use Rattle.law_typing_env.proofs.Views.{type_found, viewed_formed}
use Rattle.law_typing_env.proofs.Sized.{describes}

-- a description of a record type has the words of the declared one, and fields of it with their places
pub record IsPlaced (program : Program) (q : QName) (r : RecordDesc) : Type 0 where
  pub s : RecordDesc
  pub is : description program q ≡ Some (desc.Record s)
  pub words_are : r.words ≡ s.words
  pub fields : (f : Field) → IsOneOf r.fields f → IsOneOf s.fields f

module _ (program : Program) where
  placed_itself : (q : QName) (r : RecordDesc) → description program q ≡ Some (desc.Record r) → IsPlaced program q r
  placed_itself q r e = record { s = r; is = e; words_are = refl; fields = λ f i. i }

  placed_seen : (q : QName) (d : Desc) (r : RecordDesc) → description program q ≡ Some d → seen (in_places d) ≡ desc.Record r → IsPlaced program q r
  placed_seen q (desc.Const v) r e h = absurd cc
  placed_seen q (desc.Var m t) r e h = absurd cc
  placed_seen q (desc.Proc s) r e h = absurd cc
  placed_seen q (desc.Alias m t) r e h = absurd cc
  placed_seen q (desc.Array m n t) r e h = absurd cc
  placed_seen q (desc.OpenArray m t) r e h = absurd cc
  placed_seen q (desc.Pointer m t) r e h = absurd cc
  placed_seen q (desc.ProcType m s) r e h = absurd cc
  placed_seen q (desc.Record s) r e h =
      let x : RecordDesc = record s { fields = filter (λ f. is_shown f.mark) (in_order by_place s.fields); methods = filter (λ m. is_shown m.mark) s.methods } in
      let k : x ≡ r = cc in
      subst (λ r. IsPlaced program q r) k (record { s = s; is = e; words_are = refl; fields = λ f i. one_ordered by_place s.fields f (one_filtered (λ f. is_shown f.mark) (in_order by_place s.fields) f i) })

  module _ (whole : IsWhole program) where
    abbrev at : Module → List ℕ → QName
    at m x = record { «module» = m.name; object = x }

    object_placed : (m : Module) (o : List ℕ × Desc) (r : RecordDesc) → IsOneOf program m → IsOneOf (objects_of m) o → o.1 ≡ desc.Record r → IsPlaced program (at m o.0) r
    object_placed m o r i j e =
        let cs = each constant_object (filter (λ c. is_shown c.mark) m.constants) in
        let vs = each variable_object (filter (λ v. is_shown v.mark) m.variables) in
        let ps = each procedure_object (filter is_exported m.procedures) in
        let ts = each type_object (types_among m (reached_types m)) in
        ⊎_elim
        (λ k. ⊎_elim
        (λ k. ⊎_elim
        (λ k. let x = one_mapped constant_object (filter (λ c. is_shown c.mark) m.constants) o k in let bad : desc.Const x.0.value ≡ desc.Record r = ap (λ (o : List ℕ × Desc). o.1) x.1.1 ∙ e in absurd cc)
        (λ k. let x = one_mapped variable_object (filter (λ v. is_shown v.mark) m.variables) o k in let bad : desc.Var x.0.mark x.0.of ≡ desc.Record r = ap (λ (o : List ℕ × Desc). o.1) x.1.1 ∙ e in absurd cc)
        (one_joined cs vs o k))
        (λ k. let x = one_mapped procedure_object (filter is_exported m.procedures) o k in let bad : desc.Proc (signature_of x.0) ≡ desc.Record r = ap (λ (o : List ℕ × Desc). o.1) x.1.1 ∙ e in absurd cc)
        (one_joined (cs ++ vs) ps o k))
        (λ k.
        let x = one_mapped type_object (types_among m (reached_types m)) o k in
        let there = one_filtered (λ t. is_among (reached_types m) (own_name m t)) m.types x.0 x.1.0 in
        let d : seen (in_places x.0.desc) ≡ desc.Record r = ap (λ (o : List ℕ × Desc). o.1) x.1.1 ∙ e in
        subst (λ (y : List ℕ). IsPlaced program (at m y) r) (ap (λ (o : List ℕ × Desc). o.0) x.1.1) (placed_seen (at m x.0.name) x.0.desc r (type_there program whole m x.0 i there) d))
        (one_joined ((cs ++ vs) ++ ps) ts o (one_ordered by_name (((cs ++ vs) ++ ps) ++ ts) o j))

    module _ {K : Type 0} (faces : List (Face K)) (age : AreShown program faces) where
      described_placed : (q : QName) (r : RecordDesc) → described faces q ≡ Some (desc.Record r) → IsPlaced program q r
      described_placed q r e =
          let f = face_found faces q (desc.Record r) e in
          let s : IsShownBy program f.f = of_all (λ f. IsShownBy program f) faces f.f age f.there in
          let o : IsOneOf (objects_of s.m) (q.object, desc.Record r) = subst (λ os. IsOneOf os (q.object, desc.Record r)) s.objects (object_found f.f.objects q.object (desc.Record r) f.object) in
          let n : q.«module» ≡ s.m.name = f.name ∙ s.name in
          subst (λ (x : List ℕ). IsPlaced program (let p : QName = record { «module» = x; object = q.object } in p) r) (sym n) (object_placed s.m (q.object, desc.Record r) r s.there o refl)

      viewed_placed : (m : Module) → IsOneOf program m → (q : QName) (r : RecordDesc) → viewed (described faces) m q ≡ Some (desc.Record r) → IsPlaced program q r
      viewed_placed m i q r e = by (is_own m q) refl e
        where
          by : (b : Bool) → is_own m q ≡ b → cond b (type_named m.types q.object) (described faces q) ≡ Some (desc.Record r) → IsPlaced program q r
          by true n e =
              let k = type_found m.types q.object (desc.Record r) e in
              let there : description program (record { «module» = m.name; object = k.t.name }) ≡ Some k.t.desc = type_there program whole m k.t i k.there in
              placed_itself q r (ap (λ (x : List ℕ). description program (let p : QName = record { «module» = x; object = q.object } in p)) (bytes_true q.«module» m.name n) ∙ ap (λ (x : List ℕ). description program (let p : QName = record { «module» = m.name; object = x } in p)) (sym k.name) ∙ there ∙ ap (λ x. Some x) k.desc)
          by false n e = described_placed q r e

      -- WHAT THE CODE OF A MODULE TAKES from its map agrees with the program
      pub viewed_describes : (sound : IsSound program) → IsSized program → (m : Module) → IsOneOf program m → IsGrounded (viewed (described faces) m) → viewed (described faces) m out_string ≡ None → Describes (viewed (described faces) m) program
      viewed_describes sound sized m i grounded out =
          describes (viewed (described faces) m) program (viewed_formed program sound whole faces age m i) grounded out
          (λ q r e. let p = viewed_placed m i q r e in p.words_are ∙ sized.words_are q p.s p.is)
          (λ q r f e j. let p = viewed_placed m i q r e in sized.places q p.s f p.is (p.fields f j))
