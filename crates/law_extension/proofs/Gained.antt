-- The law of extension.
use Rattle.std.proofs.Common.{◌≡◌, ℕ, List, [], ◌∷◌, Bool, true, false, refl, sym, ap, ◌∙◌, subst, Option, Some, None}
use Rattle.std.specs.Prelude.{bytes_eq, cond}
use Rattle.std.specs.Option.{option_map}
use Rattle.std.proofs.lemmas.Bool.{false≢true}
use Rattle.std.proofs.lemmas.Slice.Eq.{bytes_eq-Decides}
use Rattle.ob_tree.specs.declared.names.QName.{QName}
use Rattle.ob_tree.specs.declared.print.Print.{Print}
use Rattle.ob_types.specs.declared.desc.Desc.{Desc}
use Rattle.ob_types.specs.declared.face.Aspect.{Aspect}
use Rattle.ob_format.specs.Format.{◌>>=◌}
use Rattle.ob_fprint.specs.Print.{print_from}
use Rattle.ob_desc.specs.Grammar.{text_of}
use Rattle.ob_env.specs.Faces.{Face, face_named, object_named, text_in, print_in}
use Rattle.law_extension.specs.Gained.{text_of_object, OnlyGains, AllOnlyGain, Extends, ExtensionOf, Extension}

none_no : {A B : Type 0} (x : A) → (let n : Option A = None in n) ≡ Some x → B
none_no x e = absurd cc

module _ {K : Type 0} where
  -- what is found by a name has it
  found_named : (fs : List (Face K)) (m : List ℕ) (f : Face K) → face_named fs m ≡ Some f → f.«module» ≡ m
  found_named [] m f e = none_no f e
  found_named (g ∷ fs) m f e = go (bytes_eq m g.«module») refl (found_named fs m f) e
    where
      go : (b : Bool) → bytes_eq m g.«module» ≡ b → (face_named fs m ≡ Some f → f.«module» ≡ m) → cond b (Some g) (face_named fs m) ≡ Some f → f.«module» ≡ m
      go true b more e = ap (λ (h : Face K). h.«module») (sym (some_is e)) ∙ sym ((bytes_eq-Decides m g.«module»).0 b)
        where
          some_is : Some g ≡ Some f → g ≡ f
          some_is e = cc
      go false b more e = more e

  module _ (olds news : List (Face K)) (h : AllOnlyGain olds news) (q : QName) (a : Aspect) (t : List ℕ) where
    in_face : (f : Face K) → f.«module» ≡ q.«module» → (object_named f.objects q.object >>= λ d. text_of q d a) ≡ Some t → text_of_object f q.object a ≡ Some t
    in_face f e k = subst (λ (m : List ℕ). (object_named f.objects q.object >>= λ d. text_of (record { «module» = m; object = q.object }) d a) ≡ Some t) (sym e) k

    from_face : (f : Face K) → f.«module» ≡ q.«module» → text_of_object f q.object a ≡ Some t → (object_named f.objects q.object >>= λ d. text_of q d a) ≡ Some t
    from_face f e k = subst (λ (m : List ℕ). (object_named f.objects q.object >>= λ d. text_of (record { «module» = m; object = q.object }) d a) ≡ Some t) e k

    pub text_stays : text_in olds q a ≡ Some t → text_in news q a ≡ Some t
    text_stays e = go (face_named olds q.«module») refl e
      where
        go : (o : Option (Face K)) → face_named olds q.«module» ≡ o → ((o >>= λ f. object_named f.objects q.object) >>= λ d. text_of q d a) ≡ Some t → text_in news q a ≡ Some t
        go None o e = none_no t e
        go (Some f) o e =
            let g = h q.«module» f o in
            subst (λ (o : Option (Face K)). ((o >>= λ f. object_named f.objects q.object) >>= λ d. text_of q d a) ≡ Some t) (sym g.1.0)
            (from_face g.0 (g.1.1.name ∙ found_named olds q.«module» f o) (g.1.1.texts q.object a t (in_face f (found_named olds q.«module» f o) e)))

  pub extension_of : ExtensionOf K
  extension_of olds news h = record {
    texts = text_stays olds news h;
    prints = λ q a p e. print_stays q a p (text_in olds q a) refl e;
  }
    where
      print_stays : (q : QName) (a : Aspect) (p : Print) (o : Option (List ℕ)) → text_in olds q a ≡ o → option_map print_from o ≡ Some p → print_in news q a ≡ Some p
      print_stays q a p None o e = none_no p e
      print_stays q a p (Some t) o e = ap (option_map print_from) (text_stays olds news h q a t o) ∙ e

pub extension : Extension
extension = (extension_of, extension_of)
