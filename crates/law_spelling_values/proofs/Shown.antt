-- What an interface that has a spelling shows of constants and lengths is in range.
use Rattle.std.proofs.Common.{◌≡◌, ℕ, ◌<◌, ◌^◌, Bool, true, false, cond, List, [], ◌∷◌, map, Option, Some, None, refl, subst, arith}
use Rattle.std.specs.Prelude.{ℤ, pos, negsuc, bytes_eq, FitsSigned}
use Rattle.std.specs.Int.{w32}
use Rattle.std.specs.List.{AllByRecursion}
use Rattle.std.specs.Option.{option_map}
use Rattle.ob_tree.specs.declared.names.QName.{QName}
use Rattle.ob_types.specs.declared.typed.Width.TheVariants as width
use Rattle.ob_types.specs.declared.value.Value.{Value}
use Rattle.ob_types.specs.declared.value.Value.TheVariants as literal
use Rattle.ob_types.specs.declared.desc.Desc.{Desc}
use Rattle.ob_types.specs.declared.desc.Desc.TheVariants as desc
use Rattle.ob_format.specs.Format.{◌>>=◌, list_of}
use Rattle.ob_desc.specs.Grammar.{value_fits, IsByte, IsSpelled as IsSpelledDesc}
use Rattle.ob_sym.specs.Grammar.{face as face_form, body, object_in}
use Rattle.ob_types.specs.Numbers.{is_in}
use Rattle.law_simulation_relation.specs.Typed.{AreCharacters}
use Rattle.ob_env.specs.Faces.{Face, object_named, face_named, described, object_of}
use Rattle.ob_env.specs.Shown.{blank, shown}
use Rattle.law_typing.specs.Known.{ConstantIs}
use Rattle.law_spelling.specs.Laws.{Text, IsSpelled}
use Rattle.law_spelling.proofs.Names.{face_found}
use Rattle.law_spelling_values.specs.Laws.{SpelledAreShown}
use Rattle.law_lists.proofs.Lists.{less_true}

-- ---- values

int_in : (z : ℤ) → FitsSigned w32 z → is_in width.LongInt z ≡ true
int_in (pos n) h = let s = h.sfits in let k : n < 2 ^ 31 = omega (arith, s) in less_true n (2 ^ 31) k
int_in (negsuc n) h = let s = h.sfits in let k : n < 2 ^ 31 = omega (arith, s) in less_true n (2 ^ 31) k

characters : (cs : List ℕ) → AllByRecursion IsByte cs → AreCharacters cs
characters [] h = tt
characters (c ∷ cs) h = (h.0, characters cs h.1)

constant_is : (v : Value) → value_fits v → ConstantIs v
constant_is (literal.Bool b) h = tt
constant_is (literal.Char c) h = h.1
constant_is (literal.Int z) h = int_in z h
constant_is (literal.Set n) h = h
constant_is (literal.Str text) h = (characters text h.0, h.1)
constant_is literal.Nil h = absurd h

-- ---- descriptions

-- a constant, or the length of an array
abbrev InRange : Desc → Type 0
InRange (desc.Const v) = ConstantIs v
InRange (desc.Array m n t) = ConstantIs (literal.Int (pos n))
InRange d = Unit {0}

in_range : (q : QName) (d : Desc) → IsSpelledDesc q d → InRange d
in_range q (desc.Const v) h = constant_is v h.shape.1
in_range q (desc.Array m n t) h = less_true n (2 ^ 31) h.shape.0.1.1.0.1
in_range q (desc.Var m t) h = tt
in_range q (desc.Proc s) h = tt
in_range q (desc.Alias m t) h = tt
in_range q (desc.OpenArray m t) h = tt
in_range q (desc.Pointer m t) h = tt
in_range q (desc.ProcType m s) h = tt
in_range q (desc.Record r) h = tt

objects_in : (m : List ℕ) (os : List (List ℕ × Desc)) → AllByRecursion (object_in m).fits (map (object_of m) os) → AllByRecursion (λ o. InRange o.1) os
unfolding object_in
objects_in m [] h = tt
objects_in m (o ∷ os) h = (in_range _ o.1 h.0.spelled, objects_in m os h.1)

face_in : (f : Face Text) → IsSpelled f → AllByRecursion (λ o. InRange o.1) f.objects
unfolding face_form body list_of
face_in f h = objects_in f.«module» f.objects h.0.1.0.0.1

found_in : (os : List (List ℕ × Desc)) → AllByRecursion (λ o. InRange o.1) os → (x : List ℕ) (d : Desc) → object_named os x ≡ Some d → InRange d
found_in [] h x d e = absurd cc
found_in (o ∷ os) h x d e = go (bytes_eq x o.0) e (found_in os h.1 x d)
  where
    go : (b : Bool) → cond b (Some o.1) (object_named os x) ≡ Some d → (object_named os x ≡ Some d → InRange d) → InRange d
    go true i rest = let same : o.1 ≡ d = cc in subst InRange same h.0
    go false i rest = rest i

described_in : (fs : List (Face Text)) → AllByRecursion IsSpelled fs → (q : QName) (d : Desc) → described fs q ≡ Some d → InRange d
described_in fs h q d e = go (face_named fs q.«module») refl e
  where
    go : (o : Option (Face Text)) → face_named fs q.«module» ≡ o → (o >>= λ f. object_named f.objects q.object) ≡ Some d → InRange d
    go None i e = absurd cc
    go (Some f) i e = found_in f.objects (face_in f (face_found fs h q.«module» f i).spelled) q.object d e

-- ---- what is shown

blank_in : (d : Desc) → InRange d → InRange (blank d)
blank_in (desc.Const v) h = h
blank_in (desc.Array m n t) h = h
blank_in (desc.Var m t) h = tt
blank_in (desc.Proc s) h = tt
blank_in (desc.Alias m t) h = tt
blank_in (desc.OpenArray m t) h = tt
blank_in (desc.Pointer m t) h = tt
blank_in (desc.ProcType m s) h = tt
blank_in (desc.Record r) h = tt

shown_in : (fs : List (Face Text)) → AllByRecursion IsSpelled fs → (q : QName) (d : Desc) → shown fs q ≡ Some d → InRange d
shown_in fs h q d e = go (described fs q) refl e
  where
    go : (o : Option Desc) → described fs q ≡ o → option_map blank o ≡ Some d → InRange d
    go None i e = absurd cc
    go (Some x) i e = let same : blank x ≡ d = cc in subst InRange same (blank_in x (described_in fs h q x i))

pub spelled_shown : SpelledAreShown
spelled_shown faces h = record {
  constants = λ q v e. shown_in faces h q (desc.Const v) e;
  lengths = λ q m n t e. shown_in faces h q (desc.Array m n t) e;
}
