-- What a layout, and what is shown to the rules, leave of the types that a description names.
use Rattle.std.proofs.Common.{◌≡◌, ℕ, suc, ◌+◌, List, [], ◌∷◌, ◌++◌, Bool, true, false, cond, Option, Some, map as each, refl, ap, ◌∙◌, subst}
use Rattle.std.specs.Prelude.{◌≢◌, bytes_eq}
use Rattle.std.specs.List.{AllByRecursion, flat_map}
use Rattle.std.proofs.lemmas.Slice.Eq.{bytes_eq-Decides}
use Rattle.ob_tree.specs.declared.names.QName.{QName}
use Rattle.ob_types.specs.declared.types.TypeRef.{TypeRef}
use Rattle.ob_types.specs.declared.desc.Desc.{Desc}
use Rattle.ob_types.specs.declared.desc.Desc.TheVariants as desc
use Rattle.ob_types.specs.declared.desc.Field.{Field}
use Rattle.ob_types.specs.declared.desc.Method.{Method}
use Rattle.ob_types.specs.declared.desc.RecordDesc.{RecordDesc}
use Rattle.ob_types.specs.declared.typed.TypedType.{TypedType}
use Rattle.ob_types.specs.TypedSyntax.{Module}
use Rattle.ob_types.specs.Maps.{listed, signature_types}
use Rattle.ob_layout.specs.LaidOut.{type_named, base_of, placed, numbered, laid_record, laid_desc, laid_type}
use Rattle.ob_env.specs.Shown.{unplaced, unnumbered, blank}
use Rattle.law_names_distinct.specs.Distinct.{AreDistinct}
use Rattle.law_local_judged.specs.Agreement.{IsIn, AreIn}
use Rattle.law_local_judged.proofs.Near.{left_in, right_in}
use Rattle.law_local_uses.specs.Settled.{core, NamesIn}
use Rattle.law_lists.proofs.Lists.{all_both, differ_false}

-- ---- the core stays

pub laid_core : (words procedures : TypeRef → ℕ) (q : QName) (d : Desc) → core (laid_desc words procedures q d) ≡ core d
laid_core w p q (desc.Record r) = refl
laid_core w p q (desc.Const v) = refl
laid_core w p q (desc.Var m t) = refl
laid_core w p q (desc.Proc s) = refl
laid_core w p q (desc.Alias m t) = refl
laid_core w p q (desc.Array m n t) = refl
laid_core w p q (desc.OpenArray m t) = refl
laid_core w p q (desc.Pointer m t) = refl
laid_core w p q (desc.ProcType m s) = refl

pub blank_core : (d : Desc) → core (blank d) ≡ core d
blank_core (desc.Record r) = refl
blank_core (desc.Const v) = refl
blank_core (desc.Var m t) = refl
blank_core (desc.Proc s) = refl
blank_core (desc.Alias m t) = refl
blank_core (desc.Array m n t) = refl
blank_core (desc.OpenArray m t) = refl
blank_core (desc.Pointer m t) = refl
blank_core (desc.ProcType m s) = refl

-- ---- and so do the types that are named

module _ (P : QName → Type 0) where
  placed_in : (w : TypeRef → ℕ) (at : ℕ) (fs : List Field) → AreIn P (each (λ f. f.of) fs) → AreIn P (each (λ f. f.of) (placed w at fs))
  placed_in w at [] h = tt
  placed_in w at (f ∷ fs) h = (h.0, placed_in w (at + w f.of) fs h.1)

  numbered_in : (n : ℕ) (ms : List Method) → AreIn P (flat_map (λ m. signature_types m.signature) ms) → AreIn P (flat_map (λ m. signature_types m.signature) (numbered n ms))
  numbered_in n [] h = tt
  numbered_in n (m ∷ ms) h =
      all_both (IsIn P) (signature_types m.signature) (flat_map (λ m. signature_types m.signature) (numbered (suc n) ms)) (left_in P (signature_types m.signature) (flat_map (λ m. signature_types m.signature) ms) h)
      (numbered_in (suc n) ms (right_in P (signature_types m.signature) (flat_map (λ m. signature_types m.signature) ms) h))

  -- fields and bound procedures of a record may change but for their types
  record_in : (r : RecordDesc) (fs : List Field) (ms : List Method) → NamesIn P (desc.Record r) → (AreIn P (each (λ f. f.of) r.fields) → AreIn P (each (λ f. f.of) fs)) → (AreIn P (flat_map (λ m. signature_types m.signature) r.methods) → AreIn P (flat_map (λ m. signature_types m.signature) ms)) →
      AreIn P ((listed r.base ++ each (λ f. f.of) fs) ++ flat_map (λ m. signature_types m.signature) ms)
  record_in r fs ms h f g =
      let front = left_in P (listed r.base ++ each (λ f. f.of) r.fields) (flat_map (λ m. signature_types m.signature) r.methods) h in
      all_both (IsIn P) (listed r.base ++ each (λ f. f.of) fs) (flat_map (λ m. signature_types m.signature) ms)
      (all_both (IsIn P) (listed r.base) (each (λ f. f.of) fs) (left_in P (listed r.base) (each (λ f. f.of) r.fields) front) (f (right_in P (listed r.base) (each (λ f. f.of) r.fields) front)))
      (g (right_in P (listed r.base ++ each (λ f. f.of) r.fields) (flat_map (λ m. signature_types m.signature) r.methods) h))

  pub laid_named : (words procedures : TypeRef → ℕ) (q : QName) (d : Desc) → NamesIn P d → NamesIn P (laid_desc words procedures q d)
  laid_named w p q (desc.Record r) h = record_in r (laid_record w p q r).fields (laid_record w p q r).methods h (placed_in w (base_of w r.base) r.fields) (numbered_in (base_of p r.base) r.methods)
  laid_named w p q (desc.Const v) h = h
  laid_named w p q (desc.Var m t) h = h
  laid_named w p q (desc.Proc s) h = h
  laid_named w p q (desc.Alias m t) h = h
  laid_named w p q (desc.Array m n t) h = h
  laid_named w p q (desc.OpenArray m t) h = h
  laid_named w p q (desc.Pointer m t) h = h
  laid_named w p q (desc.ProcType m s) h = h

  unplaced_in : (fs : List Field) → AreIn P (each (λ f. f.of) fs) → AreIn P (each (λ f. f.of) (each unplaced fs))
  unplaced_in [] h = tt
  unplaced_in (f ∷ fs) h = (h.0, unplaced_in fs h.1)

  unnumbered_in : (ms : List Method) → AreIn P (flat_map (λ m. signature_types m.signature) ms) → AreIn P (flat_map (λ m. signature_types m.signature) (each unnumbered ms))
  unnumbered_in [] h = tt
  unnumbered_in (m ∷ ms) h =
      all_both (IsIn P) (signature_types m.signature) (flat_map (λ m. signature_types m.signature) (each unnumbered ms)) (left_in P (signature_types m.signature) (flat_map (λ m. signature_types m.signature) ms) h)
      (unnumbered_in ms (right_in P (signature_types m.signature) (flat_map (λ m. signature_types m.signature) ms) h))

  pub blank_named : (d : Desc) → NamesIn P d → NamesIn P (blank d)
  blank_named (desc.Record r) h = record_in r (each unplaced r.fields) (each unnumbered r.methods) h (unplaced_in r.fields) (unnumbered_in r.methods)
  blank_named (desc.Const v) h = h
  blank_named (desc.Var m t) h = h
  blank_named (desc.Proc s) h = h
  blank_named (desc.Alias m t) h = h
  blank_named (desc.Array m n t) h = h
  blank_named (desc.OpenArray m t) h = h
  blank_named (desc.Pointer m t) h = h
  blank_named (desc.ProcType m s) h = h

  pub all_laid : (map : QName → Option Desc) (m : Module) (ts : List TypedType) → AllByRecursion (λ t. NamesIn P t.desc) ts → AllByRecursion (λ t. NamesIn P t.desc) (each (laid_type map m) ts)
  all_laid map m [] h = tt
  all_laid map m (t ∷ ts) h = (laid_named _ _ _ t.desc h.0, all_laid map m ts h.1)

  -- a type that is found by its name
  pub found_in : (ts : List TypedType) → AllByRecursion (λ t. NamesIn P t.desc) ts → (x : List ℕ) (d : Desc) → type_named ts x ≡ Some d → NamesIn P d
  found_in [] h x d e = absurd cc
  found_in (t ∷ ts) h x d e = by (bytes_eq x t.name) (found_in ts h.1 x d) e
    where
      by : (b : Bool) → (type_named ts x ≡ Some d → NamesIn P d) → cond b (Some t.desc) (type_named ts x) ≡ Some d → NamesIn P d
      by true r e = let same : t.desc ≡ d = cc in subst (NamesIn P) same h.0
      by false r e = r e

-- ---- types are found by their names, with their layouts

abbrev pub IsFound : (QName → Option Desc) → Module → List TypedType → TypedType → Type 0
IsFound map m ts t = type_named (each (laid_type map m) ts) t.name ≡ Some (laid_type map m t).desc

found_behind : (map : QName → Option Desc) (m : Module) (s : TypedType) (ts us : List TypedType) → AllByRecursion (λ y. y.name ≢ s.name) us → AllByRecursion (IsFound map m ts) us → AllByRecursion (IsFound map m (s ∷ ts)) us
found_behind map m s ts [] d h = tt
found_behind map m s ts (u ∷ us) d h = (
  ap (λ b. cond b (Some (laid_type map m s).desc) (type_named (each (laid_type map m) ts) u.name)) (differ_false u.name s.name d.0) ∙ h.0,
  found_behind map m s ts us d.1 h.1,
)

pub all_found : (map : QName → Option Desc) (m : Module) (ts : List TypedType) → AreDistinct (λ t. t.name) ts → AllByRecursion (IsFound map m ts) ts
all_found map m [] d = tt
all_found map m (t ∷ ts) d = (
  ap (λ b. cond b (Some (laid_type map m t).desc) (type_named (each (laid_type map m) ts) t.name)) ((bytes_eq-Decides t.name t.name).1 refl),
  found_behind map m t ts ts d.0 (all_found map m ts d.1),
)
