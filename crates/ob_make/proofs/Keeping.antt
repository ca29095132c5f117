-- What is kept of symbol files, when one more is kept.
use Rattle.std.proofs.Common.{◌≡◌, ℕ, Bool, true, false, List, Option, Some, None, Result, Ok, Err, OnOk, OnErr, refl, sym, ap, subst, ◌∙◌}
use Rattle.std.specs.Prelude.{if◌then◌else◌, Vec}
use Rattle.std.specs.Ordering.{nat_cmp, is_eq, ordering_reverse}
use Rattle.std.specs.Cmp.Lexicographic.{slice_cmp}
use Rattle.std.specs.declared.cmp.Ordering.{Ordering}
use Rattle.std.specs.declared.cmp.Ordering.TheVariants.{Less, Equal, Greater}
use Rattle.std.specs.BTreeMap.{UpdatesBy}
use Rattle.std.specs.Map.{KeepsOthers}
use Rattle.std.specs.declared.alloc.Global.{Global}
use Rattle.std.proofs.lemmas.Bool.{false≢true}
use Rattle.std.proofs.lemmas.Cmp.{nat_list_cmp_total}
use Rattle.ob_tree.specs.declared.print.Print.{Print}
use Rattle.ob_types.specs.declared.face.Interface.{Interface}
use Rattle.ob_obj.specs.Grammar.{by_name}
use Rattle.ob_obj.specs.Images.{same}
use Rattle.ob_link.proofs.Maps.{equal_names}
use Rattle.ob_env.specs.Faces.{Face, face_of}
use Rattle.ob_cmp.specs.Check.{Present}
use Rattle.ob_make.specs.Filing.{IsFaceOf, seen}
use Rattle.ob_make.specs.Faces.{AreFaces, KeepsFaces, IsAsBefore, Puts, is_some, kept_of}
use Rattle.ob_make.specs.declared.files.Filed.{Filed}
use Rattle.ob_make.specs.declared.held.Held.{Held}

abbrev OneFace : Type 0
OneFace = Filed Interface

-- ---- one more

abbrev by_items : Vec ℕ Global → Vec ℕ Global → Ordering
by_items x y = slice_cmp nat_cmp x.items y.items

other_name : (m n : List ℕ) (old new : Held) (w : Option OneFace) → UpdatesBy by_items (λ k. slice_cmp nat_cmp m k.items) old.files new.files w → same n m ≡ false → kept_of new n ≡ kept_of old n
unfolding KeepsOthers
other_name m n old new w h e = h.3 (λ k. same n k.items) (λ x y t. ap (λ l. same l y.items) (equal_names n x.items t)) (λ k t. subst (λ l. same n l ≡ false) (equal_names m k.items t) e)

puts : (m : List ℕ) (old new : Held) (face : OneFace) → UpdatesBy by_items (λ k. slice_cmp nat_cmp m k.items) old.files new.files (Some face) → Puts old new m face
puts m old new face h n = go (same n m) refl
  where
    go : (b : Bool) → same n m ≡ b → kept_of new n ≡ (if b then Some face else kept_of old n)
    go true e = subst (λ l. kept_of new l ≡ Some face) (sym (equal_names n m e)) h.1
    go false e = other_name m n old new (Some face) h e

pub puts_at : (bytes m : List ℕ) (old new : Held) (face : OneFace) → bytes ≡ m → UpdatesBy by_items (λ k. slice_cmp nat_cmp bytes k.items) old.files new.files (Some face) → Puts old new m face
puts_at bytes m old new face e h = subst (λ l. Puts old new l face) e (puts bytes old new face h)

-- ---- what holds of all that is kept

abbrev face_or : OneFace → Option OneFace → OneFace
face_or other None = other
face_or other (Some face) = face

module _ (P : List ℕ → OneFace → Type 0) (old new : Held) where
  all_more : (m : List ℕ) (face : OneFace) → ((n : List ℕ) (f : OneFace) → kept_of old n ≡ Some f → P n f) → P m face → Puts old new m face → (n : List ℕ) (f : OneFace) → kept_of new n ≡ Some f → P n f
  all_more m face all this put n f e = go (same n m) refl
    where
      go : (b : Bool) → same n m ≡ b → P n f
      go true t =
          let is : Some face ≡ Some f = sym (put n ∙ ap (λ b. if b then Some face else kept_of old n) t) ∙ e in
          subst (λ l. P l f) (sym (equal_names n m t)) (subst (P m) (ap (face_or face) is) this)
      go false t = all n f (sym (put n ∙ ap (λ b. if b then Some face else kept_of old n) t) ∙ e)

  all_same : ((n : List ℕ) (f : OneFace) → kept_of old n ≡ Some f → P n f) → IsAsBefore old new → (n : List ℕ) (f : OneFace) → kept_of new n ≡ Some f → P n f
  all_same all same_as n f e = all n f (sym (same_as n) ∙ e)

pub faces_more : (old new : Held) (m : List ℕ) (face : OneFace) → AreFaces old → IsFaceOf m face → Puts old new m face → AreFaces new
faces_more old new m face = all_more IsFaceOf old new m face

pub faces_same : (old new : Held) → AreFaces old → IsAsBefore old new → AreFaces new
faces_same old new = all_same IsFaceOf old new

module _ (find : List ℕ → Present (Face Print)) where
  pub keeps_more : (old new : Held) (m : List ℕ) (face : OneFace) → KeepsFaces find old → find m ≡ seen face_of face → Puts old new m face → KeepsFaces find new
  unfolding KeepsFaces
  keeps_more old new m face = all_more (λ n f. find n ≡ seen face_of f) old new m face

  pub keeps_same : (old new : Held) → KeepsFaces find old → IsAsBefore old new → KeepsFaces find new
  unfolding KeepsFaces
  keeps_same old new = all_same (λ n f. find n ≡ seen face_of f) old new

  pub keeps_none : (kept : Held) → ((m : List ℕ) → kept_of kept m ≡ None) → KeepsFaces find kept
  unfolding KeepsFaces
  keeps_none kept none m f e = absurd (false≢true (ap is_some (sym (none m) ∙ e)))

  pub found : (kept : Held) (m : List ℕ) (face : OneFace) → kept_of kept m ≡ Some face → KeepsFaces find kept → find m ≡ seen face_of face
  unfolding KeepsFaces
  found kept m face e keeps = keeps m face e

-- ---- a name is itself

equal_to_itself : (o : Ordering) → o ≡ ordering_reverse o → is_eq o ≡ true
equal_to_itself Less e = absurd cc
equal_to_itself Equal e = refl
equal_to_itself Greater e = absurd cc

same_itself : (name : List ℕ) → same name name ≡ true
same_itself name = equal_to_itself (by_name name name) (nat_list_cmp_total.antisymm name name)

pub kept_now : (old new : Held) (m : List ℕ) (face : OneFace) → Puts old new m face → is_some (kept_of new m) ≡ true
kept_now old new m face put = ap is_some (put m ∙ ap (λ b. if b then Some face else kept_of old m) (same_itself m))

-- ---- whatever the answer

pub faces_put : {T E : Type 0} (old new : Held) (m : List ℕ) (face : OneFace) (r : Result T E) → AreFaces old → IsFaceOf m face → OnOk r (Puts old new m face) → OnErr r (IsAsBefore old new) → AreFaces new
faces_put old new m face (Ok x) all this ok err = faces_more old new m face all this ok
faces_put old new m face (Err e) all this ok err = faces_same old new all err
