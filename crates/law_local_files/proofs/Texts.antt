-- The texts of a description tell it.
use Rattle.std.proofs.Common.{◌≡◌, ℕ, List, [], ◌∷◌, Bool, true, false, cond, Option, Some, None, map as each, refl, sym, ap, ◌∙◌, subst, arith}
use Rattle.std.specs.Prelude.{bytes_eq}
use Rattle.std.specs.List.{AllByRecursion}
use Rattle.std.specs.Cmp.Lexicographic.{bytes_decides}
use Rattle.ob_format.specs.Format.{◌>>=◌, list_of}
use Rattle.ob_format.specs.Exact.{bind_some, cond_then}
use Rattle.ob_tree.specs.declared.names.QName.{QName}
use Rattle.ob_types.specs.declared.desc.Desc.{Desc}
use Rattle.ob_types.specs.declared.desc.Desc.TheVariants as desc
use Rattle.ob_types.specs.Relations.{is_record}
use Rattle.ob_desc.specs.Grammar.{shape_text, layout_text, layout, shape_at, same_object, joined, description_at, IsSpelled, seen}
use Rattle.ob_desc.specs.Laws.{description_again}
use Rattle.ob_sym.specs.Grammar.{face, body, object_in}
use Rattle.ob_sym.proofs.Seen.{seen_is}
use Rattle.ob_env.specs.Faces.{Face, object_named, face_named, described, object_of, printed, interface_of}
use Rattle.law_local_files.specs.Agreeing.{as_shape}

-- ---- a shape's text tells the shape

done_or : (QName × Desc) → Option (QName × Desc) → QName × Desc
done_or x None = x
done_or x (Some y) = y

some_same : (x y : QName × Desc) → Some x ≡ Some y → x ≡ y
unfolding done_or
some_same x y e = ap (done_or x) e

shape_twice : (d : Desc) → as_shape (as_shape d) ≡ as_shape d
shape_twice (desc.Const v) = refl
shape_twice (desc.Var m t) = refl
shape_twice (desc.Proc s) = refl
shape_twice (desc.Alias m t) = refl
shape_twice (desc.Array m n t) = refl
shape_twice (desc.OpenArray m t) = refl
shape_twice (desc.Pointer m t) = refl
shape_twice (desc.ProcType m s) = refl
shape_twice (desc.Record r) = refl

shape_written : (q : QName) (d : Desc) → shape_text q (as_shape d) ≡ shape_text q d
shape_written q (desc.Const v) = refl
shape_written q (desc.Var m t) = refl
shape_written q (desc.Proc s) = refl
shape_written q (desc.Alias m t) = refl
shape_written q (desc.Array m n t) = refl
shape_written q (desc.OpenArray m t) = refl
shape_written q (desc.Pointer m t) = refl
shape_written q (desc.ProcType m s) = refl
shape_written q (desc.Record r) = refl

shape_spelled : (q : QName) (d : Desc) → IsSpelled q d → IsSpelled q (as_shape d)
shape_spelled q (desc.Const v) s = s
shape_spelled q (desc.Var m t) s = s
shape_spelled q (desc.Proc p) s = s
shape_spelled q (desc.Alias m t) s = s
shape_spelled q (desc.Array m n t) s = s
shape_spelled q (desc.OpenArray m t) s = s
shape_spelled q (desc.Pointer m t) s = s
shape_spelled q (desc.ProcType m p) s = s
shape_spelled q (desc.Record r) s = record { shape = s.shape; layout = (omega arith, omega arith) }

joined_tells : (p : QName) (d : Desc) (l : Option (List ℕ)) (y : QName × Desc) → joined p d l ≡ Some y → as_shape d ≡ as_shape y.1
unfolding joined
joined_tells p (desc.Record r) None y e = absurd cc
joined_tells p (desc.Record r) (Some t) y e =
    let l = bind_some (layout.parse t) (λ l. cond (same_object l.0.0 p) (Some (p, desc.Record (record r { words = l.0.1; procedures = l.1 }))) None) y e in
    let g = cond_then (same_object l.0.0.0 p) (Some (p, desc.Record (record r { words = l.0.0.1; procedures = l.0.1 }))) y l.2 in
    ap (λ (z : QName × Desc). as_shape z.1) (some_same (p, desc.Record (record r { words = l.0.0.1; procedures = l.0.1 })) y g.1)
joined_tells p (desc.Const v) None y e = ap (λ (z : QName × Desc). as_shape z.1) (some_same (p, desc.Const v) y e)
joined_tells p (desc.Var m t) None y e = ap (λ (z : QName × Desc). as_shape z.1) (some_same (p, desc.Var m t) y e)
joined_tells p (desc.Proc s) None y e = ap (λ (z : QName × Desc). as_shape z.1) (some_same (p, desc.Proc s) y e)
joined_tells p (desc.Alias m t) None y e = ap (λ (z : QName × Desc). as_shape z.1) (some_same (p, desc.Alias m t) y e)
joined_tells p (desc.Array m n t) None y e = ap (λ (z : QName × Desc). as_shape z.1) (some_same (p, desc.Array m n t) y e)
joined_tells p (desc.OpenArray m t) None y e = ap (λ (z : QName × Desc). as_shape z.1) (some_same (p, desc.OpenArray m t) y e)
joined_tells p (desc.Pointer m t) None y e = ap (λ (z : QName × Desc). as_shape z.1) (some_same (p, desc.Pointer m t) y e)
joined_tells p (desc.ProcType m s) None y e = ap (λ (z : QName × Desc). as_shape z.1) (some_same (p, desc.ProcType m s) y e)
joined_tells p (desc.Const v) (Some l) y e = absurd cc
joined_tells p (desc.Var m t) (Some l) y e = absurd cc
joined_tells p (desc.Proc s) (Some l) y e = absurd cc
joined_tells p (desc.Alias m t) (Some l) y e = absurd cc
joined_tells p (desc.Array m n t) (Some l) y e = absurd cc
joined_tells p (desc.OpenArray m t) (Some l) y e = absurd cc
joined_tells p (desc.Pointer m t) (Some l) y e = absurd cc
joined_tells p (desc.ProcType m s) (Some l) y e = absurd cc

-- what a shape text reads as
record Reads (s : List ℕ) (d : Desc) : Type 0 where
  x : QName × Desc
  found : shape_at s ≡ Some x
  tells : as_shape x.1 ≡ as_shape d

reads : (q : QName) (d : Desc) → IsSpelled q d → Reads (shape_text q d) d
unfolding description_at
reads q d spelled =
    let again = description_again q (as_shape d) (shape_spelled q d spelled) in
    let l = layout_text q (as_shape d) in
    let u = bind_some (shape_at (shape_text q (as_shape d))) (λ x. joined x.0 x.1 l) (q, as_shape d) again in
    record {
      x = u.0;
      found = ap shape_at (sym (shape_written q d)) ∙ u.1;
      tells = joined_tells u.0.0 u.0.1 l (q, as_shape d) u.2 ∙ shape_twice d;
    }

-- THE SHAPE: two descriptions of a name with one text of it
pub shape_tells : (q : QName) (d e : Desc) → IsSpelled q d → IsSpelled q e → shape_text q (seen d) ≡ shape_text q (seen e) → as_shape d ≡ as_shape e
shape_tells q d e s t same =
    let u = reads q d s in
    let v = reads q e t in
    let text : shape_text q d ≡ shape_text q e = ap (shape_text q) (sym (seen_is q d s.shape)) ∙ same ∙ ap (shape_text q) (seen_is q e t.shape) in
    let one : u.x ≡ v.x = some_same u.x v.x (sym u.found ∙ ap shape_at text ∙ v.found) in
    sym u.tells ∙ ap (λ (z : QName × Desc). as_shape z.1) one ∙ v.tells

-- BOTH: two descriptions of a name with one text of each
pub both_tell : (q : QName) (d e : Desc) → IsSpelled q d → IsSpelled q e → shape_text q (seen d) ≡ shape_text q (seen e) → layout_text q d ≡ layout_text q e → d ≡ e
both_tell q d e s t same laid =
    let text : shape_text q d ≡ shape_text q e = ap (shape_text q) (sym (seen_is q d s.shape)) ∙ same ∙ ap (shape_text q) (seen_is q e t.shape) in
    ap (λ (z : QName × Desc). z.1) (some_same (q, d) (q, e) (sym (description_again q d s) ∙ ap (λ x. description_at x (layout_text q d)) text ∙ ap (description_at (shape_text q e)) laid ∙ description_again q e t))

-- what is no record is told by its shape
pub plain_tells : (d e : Desc) → is_record d ≡ false → as_shape d ≡ as_shape e → d ≡ e
plain_tells d e plain same = shape_is d plain ∙ same ∙ sym (shape_is e (other d e plain same))
  where
    shape_is : (d : Desc) → is_record d ≡ false → d ≡ as_shape d
    shape_is (desc.Const v) p = refl
    shape_is (desc.Var m t) p = refl
    shape_is (desc.Proc s) p = refl
    shape_is (desc.Alias m t) p = refl
    shape_is (desc.Array m n t) p = refl
    shape_is (desc.OpenArray m t) p = refl
    shape_is (desc.Pointer m t) p = refl
    shape_is (desc.ProcType m s) p = refl
    shape_is (desc.Record r) p = absurd cc

    kind : (d : Desc) → is_record (as_shape d) ≡ is_record d
    kind (desc.Const v) = refl
    kind (desc.Var m t) = refl
    kind (desc.Proc s) = refl
    kind (desc.Alias m t) = refl
    kind (desc.Array m n t) = refl
    kind (desc.OpenArray m t) = refl
    kind (desc.Pointer m t) = refl
    kind (desc.ProcType m s) = refl
    kind (desc.Record r) = refl

    other : (d e : Desc) → is_record d ≡ false → as_shape d ≡ as_shape e → is_record e ≡ false
    other d e p same = sym (kind e) ∙ ap is_record (sym same) ∙ kind d ∙ p

-- ---- what interfaces of files describe is spelled

abbrev name_in : List ℕ → List ℕ → QName
name_in m x = record { «module» = m; object = x }

objects_fit : (m : List ℕ) (os : List (List ℕ × Desc)) → AllByRecursion (object_in m).fits (each (object_of m) os) → AllByRecursion (λ o. IsSpelled (name_in m o.0) o.1) os
unfolding object_in
objects_fit m [] all = tt
objects_fit m (o ∷ os) all = (all.0.spelled, objects_fit m os all.1)

pub face_spelled : (f : Face (List ℕ)) → face.fits (interface_of (printed f)) → AllByRecursion (λ o. IsSpelled (name_in f.«module» o.0) o.1) f.objects
unfolding face body list_of
face_spelled f h = objects_fit f.«module» f.objects h.0.1.0.0.1

object_found : (m : List ℕ) (os : List (List ℕ × Desc)) (x : List ℕ) (d : Desc) → AllByRecursion (λ o. IsSpelled (name_in m o.0) o.1) os → object_named os x ≡ Some d → IsSpelled (name_in m x) d
object_found m [] x d all e = absurd cc
object_found m (o ∷ os) x d all e = go (bytes_eq x o.0) refl (object_found m os x d all.1) e
  where
    go : (b : Bool) → bytes_eq x o.0 ≡ b → (object_named os x ≡ Some d → IsSpelled (name_in m x) d) → cond b (Some o.1) (object_named os x) ≡ Some d → IsSpelled (name_in m x) d
    go true i h e = let is : o.1 ≡ d = cc in subst (λ (y : List ℕ). IsSpelled (name_in m y) d) (sym ((bytes_decides x o.0).0 i)) (subst (λ (z : Desc). IsSpelled (name_in m o.0) z) is all.0)
    go false i h e = h e

pub described_spelled : (fs : List (Face (List ℕ))) → AllByRecursion (λ f. face.fits (interface_of (printed f))) fs → (q : QName) (d : Desc) → described fs q ≡ Some d → IsSpelled q d
described_spelled [] all q d e = absurd cc
described_spelled (f ∷ fs) all q d e = go (bytes_eq q.«module» f.«module») refl (described_spelled fs all.1 q d) e
  where
    go : (b : Bool) → bytes_eq q.«module» f.«module» ≡ b → (described fs q ≡ Some d → IsSpelled q d) → (cond b (Some f) (face_named fs q.«module») >>= λ g. object_named g.objects q.object) ≡ Some d → IsSpelled q d
    go true i h e = subst (λ (y : List ℕ). IsSpelled (name_in y q.object) d) (sym ((bytes_decides q.«module» f.«module»).0 i)) (object_found f.«module» f.objects q.object d (face_spelled f all.0) e)
    go false i h e = h e
