-- What code looks up in a module has room.
use Rattle.std.proofs.Common.{◌≡◌, ℕ, zero, suc, ◌+◌, ◌<◌, ◌≤◌, ◌^◌, Bool, true, false, cond, List, [], ◌∷◌, length, Option, Some, None, refl, subst, ◌∙◌, arith}
use Rattle.std.specs.Prelude.{if◌then◌else◌, unwrap_or, bytes_eq}
use Rattle.std.specs.Option.{option_map}
use Rattle.std.specs.List.{AllByRecursion}
use Rattle.ob_tree.specs.declared.names.QName.{QName}
use Rattle.ob_types.specs.declared.types.TypeRef.{TypeRef}
use Rattle.ob_types.specs.declared.types.TypeRef.TheVariants as ref
use Rattle.ob_types.specs.declared.desc.Desc.{Desc}
use Rattle.ob_types.specs.declared.desc.Desc.TheVariants as desc
use Rattle.ob_types.specs.declared.desc.RecordDesc.{RecordDesc}
use Rattle.ob_types.specs.declared.desc.Field.{Field}
use Rattle.ob_types.specs.declared.desc.Method.{Method}
use Rattle.ob_types.specs.Tests.{target, shape_at}
use Rattle.ob_types.specs.TypedSyntax.{Procedure, Module}
use Rattle.ob_desc.specs.Grammar.{field, method, IsSpelled as HasTexts}
use Rattle.ob_layout.specs.Lists.{or_else, sum_of}
use Rattle.ob_layout.specs.Words.{words_of}
use Rattle.ob_layout.specs.Room.{slots, variable_words, frame_words}
use Rattle.ob_layout.specs.Members.{field_named, method_named, from_base, nearest_in, nearest, field_in_record, method_in_record, field_in, method_in}
use Rattle.ob_scheme.specs.Descriptions.{description, elements_in, elements_of, field_place, method_number}
use Rattle.ob_scheme.specs.Context.{before, records, own_types}
use Rattle.ob_scheme.specs.Procedures.{within}
use Rattle.law_spelling.specs.Trees.{TypeIsSpelled, IsLaid}
use Rattle.law_spelling.specs.Lines.{HasRoom}

-- ---- descriptions whose numbers have room

pub record RecordIsSmall (r : RecordDesc) : Type 0 where
  pub words : r.words < 2 ^ 31
  pub places : AllByRecursion (λ f. f.place < 2 ^ 31) r.fields
  pub numbers : AllByRecursion (λ p. p.number < 2 ^ 31) r.methods

abbrev pub DescIsSmall : Desc → Type 0
DescIsSmall (desc.Record r) = RecordIsSmall r
DescIsSmall (desc.Array m n t) = n < 2 ^ 31
DescIsSmall d = Unit {0}

places_of : (fs : List Field) → AllByRecursion field.fits fs → AllByRecursion (λ f. f.place < 2 ^ 31) fs
unfolding field
places_of [] h = tt
places_of (f ∷ fs) h = (h.0.1.1.0.1, places_of fs h.1)

numbers_of : (ps : List Method) → AllByRecursion method.fits ps → AllByRecursion (λ p. p.number < 2 ^ 31) ps
unfolding method
numbers_of [] h = tt
numbers_of (p ∷ ps) h = (h.0.0.1.0.1, numbers_of ps h.1)

-- one that has texts
pub texts_small : (q : QName) (d : Desc) → HasTexts q d → DescIsSmall d
texts_small q (desc.Const v) h = tt
texts_small q (desc.Var m t) h = tt
texts_small q (desc.Proc s) h = tt
texts_small q (desc.Alias m t) h = tt
texts_small q (desc.Array m n t) h = h.shape.0.1.1.0.1
texts_small q (desc.OpenArray m t) h = tt
texts_small q (desc.Pointer m t) h = tt
texts_small q (desc.ProcType m s) h = tt
texts_small q (desc.Record r) h = record { words = h.layout.0; places = places_of r.fields h.shape.1.0.0; numbers = numbers_of r.methods h.shape.1.0.1 }

-- one that is laid out
pub laid_small : (d : Desc) → TypeIsSpelled d → IsLaid d → DescIsSmall d
laid_small (desc.Const v) h k = tt
laid_small (desc.Var m t) h k = tt
laid_small (desc.Proc s) h k = tt
laid_small (desc.Alias m t) h k = tt
laid_small (desc.Array m n t) h k = h.1
laid_small (desc.OpenArray m t) h k = tt
laid_small (desc.Pointer m t) h k = tt
laid_small (desc.ProcType m s) h k = tt
laid_small (desc.Record r) h k = record { words = k.words; places = k.places; numbers = k.numbers }

-- ---- looked up

abbrev pub MapIsSmall : (QName → Option Desc) → Type 0
MapIsSmall types = (q : QName) (d : Desc) → types q ≡ Some d → DescIsSmall d

module _ (types : QName → Option Desc) (small : MapIsSmall types) where
  module _ {A : Type 0} (P : A → Type 0) (pick : RecordDesc → Option A) (picked : (r : RecordDesc) (x : A) → RecordIsSmall r → pick r ≡ Some x → P x) where
    nearest_has : (n : ℕ) (t : TypeRef) (x : A) → nearest pick types n t ≡ Some x → P x
    nearest_has zero t x e = absurd cc
    nearest_has (suc n) (ref.Basic b) x e = absurd cc
    nearest_has (suc n) (ref.Named q) x e = go (types q) refl e (λ t. nearest_has n t x)
      where
        up : (o : Option TypeRef) → ((t : TypeRef) → nearest pick types n t ≡ Some x → P x) → from_base (nearest pick types n) o ≡ Some x → P x
        up None more e = absurd cc
        up (Some t) more e = more t e

        here : (r : RecordDesc) (o : Option A) → pick r ≡ o → RecordIsSmall r → ((t : TypeRef) → nearest pick types n t ≡ Some x → P x) → or_else o (from_base (nearest pick types n) r.base) ≡ Some x → P x
        here r None i s more e = up r.base more e
        here r (Some y) i s more e = picked r x s (i ∙ e)

        go : (o : Option Desc) → types q ≡ o → nearest_in pick (nearest pick types n) o ≡ Some x → ((t : TypeRef) → nearest pick types n t ≡ Some x → P x) → P x
        go None i e more = absurd cc
        go (Some (desc.Const v)) i e more = absurd cc
        go (Some (desc.Var m t)) i e more = absurd cc
        go (Some (desc.Proc s)) i e more = absurd cc
        go (Some (desc.Alias m t)) i e more = more t e
        go (Some (desc.Array m k t)) i e more = absurd cc
        go (Some (desc.OpenArray m t)) i e more = absurd cc
        go (Some (desc.Pointer m t)) i e more = absurd cc
        go (Some (desc.ProcType m s)) i e more = absurd cc
        go (Some (desc.Record r)) i e more = here r (pick r) refl (small q (desc.Record r) i) more e

  place_named : (x : List ℕ) (fs : List Field) (f : Field) → AllByRecursion (λ f. f.place < 2 ^ 31) fs → field_named x fs ≡ Some f → f.place < 2 ^ 31
  place_named x [] f h e = absurd cc
  place_named x (g ∷ gs) f h e = go (bytes_eq x g.name) e (place_named x gs f h.1)
    where
      go : (b : Bool) → cond b (Some g) (field_named x gs) ≡ Some f → (field_named x gs ≡ Some f → f.place < 2 ^ 31) → f.place < 2 ^ 31
      go true e rest = let same : g ≡ f = cc in subst (λ (f : Field). f.place < 2 ^ 31) same h.0
      go false e rest = rest e

  number_named : (x : List ℕ) (ps : List Method) (p : Method) → AllByRecursion (λ p. p.number < 2 ^ 31) ps → method_named x ps ≡ Some p → p.number < 2 ^ 31
  number_named x [] p h e = absurd cc
  number_named x (g ∷ gs) p h e = go (bytes_eq x g.name) e (number_named x gs p h.1)
    where
      go : (b : Bool) → cond b (Some g) (method_named x gs) ≡ Some p → (method_named x gs ≡ Some p → p.number < 2 ^ 31) → p.number < 2 ^ 31
      go true e rest = let same : g ≡ p = cc in subst (λ (p : Method). p.number < 2 ^ 31) same h.0
      go false e rest = rest e

  places : (q : QName) (x : List ℕ) → field_place types q x < 2 ^ 31
  unfolding field_place
  places q x = go (field_in types q x) refl
    where
      go : (o : Option Field) → field_in types q x ≡ o → unwrap_or (option_map (λ f. f.place) o) 0 < 2 ^ 31
      go None e = omega arith
      go (Some f) e = nearest_has (λ f. f.place < 2 ^ 31) (field_in_record x) (λ r f s. place_named x r.fields f s.places) 201 (ref.Named q) f e

  numbers : (q : QName) (x : List ℕ) → method_number types q x < 2 ^ 31
  unfolding method_number
  numbers q x = go (method_in types q x) refl
    where
      go : (o : Option Method) → method_in types q x ≡ o → unwrap_or (option_map (λ p. p.number) o) 0 < 2 ^ 31
      go None e = omega arith
      go (Some p) e = nearest_has (λ p. p.number < 2 ^ 31) (method_in_record x) (λ r p s. number_named x r.methods p s.numbers) 201 (ref.Named q) p e

  elements_small : (o : Option Desc) (n : ℕ) → ((d : Desc) → o ≡ Some d → DescIsSmall d) → elements_in o ≡ Some n → n < 2 ^ 31
  elements_small None n h e = absurd cc
  elements_small (Some (desc.Const v)) n h e = absurd cc
  elements_small (Some (desc.Var m t)) n h e = absurd cc
  elements_small (Some (desc.Proc s)) n h e = absurd cc
  elements_small (Some (desc.Alias m t)) n h e = absurd cc
  elements_small (Some (desc.Array m k t)) n h e = let same : k ≡ n = cc in subst (λ n. n < 2 ^ 31) same (h (desc.Array m k t) refl)
  elements_small (Some (desc.OpenArray m t)) n h e = absurd cc
  elements_small (Some (desc.Pointer m t)) n h e = absurd cc
  elements_small (Some (desc.ProcType m s)) n h e = absurd cc
  elements_small (Some (desc.Record r)) n h e = absurd cc

  shape_small : (t : TypeRef) (d : Desc) → shape_at types t ≡ Some d → DescIsSmall d
  shape_small (ref.Basic b) d e = absurd cc
  shape_small (ref.Named q) d e = small q d e

  elements : (t : TypeRef) (n : ℕ) → elements_of types t ≡ Some n → n < 2 ^ 31
  elements t n e = elements_small (description types t) n (λ d i. shape_small (target types 201 t) d i) e

-- ---- sums

before_few : {A : Type 0} (name : A → List ℕ) (size : A → ℕ) (ys : List A) (x : List ℕ) → before name size ys x ≤ sum_of size ys
before_few name size [] x = omega arith
before_few name size (y ∷ ys) x = go (bytes_eq x (name y)) (before_few name size ys x)
  where
    go : (b : Bool) → before name size ys x ≤ sum_of size ys → (if b then 0 else size y + before name size ys x) ≤ size y + sum_of size ys
    go true h = omega arith
    go false h = omega (arith, h)

pub sum_ones : {A : Type 0} (ys : List A) → sum_of (λ y. 1) ys ≡ length ys
sum_ones [] = refl
sum_ones (y ∷ ys) = let e = sum_ones ys in omega (arith, e)

-- WHAT CODE LOOKS UP has room, in a procedure whose activation has room
pub rooms : (types : QName → Option Desc) (m : Module) (p : Procedure) → MapIsSmall types → ((t : TypeRef) → words_of types t < 2 ^ 31) →
    variable_words (words_of types) m ≤ 262144 → suc (length m.procedures) ≤ 4096 → own_types (within types m p) ≤ 2 ^ 24 → frame_words (words_of types) p ≤ 1048576 → HasRoom (within types m p)
rooms types m p small words variables procedures own frame =
    let c = within types m p in
    record {
      words = words;
      places = places types small;
      numbers = numbers types small;
      elements = elements types small;
      variables = λ x. let a = before_few (λ v. v.name) (λ v. words_of types v.of) m.variables x in omega (arith, a, variables);
      parameters = λ x. let a = before_few (λ v. v.name) (λ v. slots v.passing) p.parameters x in omega (arith, a, frame);
      locals = λ x. let a = before_few (λ v. v.name) (λ v. words_of types v.of) p.locals x in omega (arith, a, frame);
      procedures = λ x. let a = before_few (λ p. p.name) (λ p. 1) m.procedures x in let b = sum_ones m.procedures in omega (arith, a, b, procedures);
      types = λ x. let a = before_few (λ t. t.name) (λ t. 1) (records c) x in omega (arith, a, own);
      own = own;
    }
