-- Interfaces that only gained objects: the law of extension.
use Rattle.std.specs.Prelude.{◌≡◌, ℕ, List, Option, Some}
use Rattle.std.specs.List.{AllByRecursion}
use Rattle.ob_tree.specs.declared.names.QName.{QName}
use Rattle.ob_tree.specs.declared.print.Print.{Print}
use Rattle.ob_types.specs.declared.face.Aspect.{Aspect}
use Rattle.ob_desc.specs.Grammar.{text_of, seen}
use Rattle.ob_env.specs.Faces.{Face, object_named, face_named, text_in, print_in}
use Rattle.ob_cmp.specs.declared.verdict.Kind.TheVariants as kind
use Rattle.ob_cmp.specs.Verdicts.{verdicts}
use Rattle.ob_format.specs.Format.{◌>>=◌}

module _ {K : Type 0} where
  -- the text of an object of that name and of an aspect
  abbrev pub text_of_object : Face K → List ℕ → Aspect → Option (List ℕ)
  text_of_object f x a = object_named f.objects x >>= λ d. text_of (record { «module» = f.«module»; object = x }) d a

  -- The second interface is of the same module, and has all that the first has, with the same texts.
  pub record OnlyGains (old new : Face K) : Type 0 where
    pub name : new.«module» ≡ old.«module»
    pub texts : (x : List ℕ) (a : Aspect) (t : List ℕ) → text_of_object old x a ≡ Some t → text_of_object new x a ≡ Some t

  -- So it is of each of these interfaces; the others may be of more modules.
  abbrev pub AllOnlyGain : List (Face K) → List (Face K) → Type 0
  AllOnlyGain olds news = (m : List ℕ) (f : Face K) → face_named olds m ≡ Some f → (g : Face K) × ((face_named news m ≡ Some g) × OnlyGains f g)

  -- descriptions as files have them, without what is hidden
  abbrev pub AreSeen : Face K → Type 0
  AreSeen f = AllByRecursion (λ o. seen o.1 ≡ o.1) f.objects

  -- What was there, and what uses keep of it, is there still and unchanged, by texts and by prints.
  pub record Extends (olds news : List (Face K)) : Type 0 where
    pub texts : (q : QName) (a : Aspect) (t : List ℕ) → text_in olds q a ≡ Some t → text_in news q a ≡ Some t
    pub prints : (q : QName) (a : Aspect) (p : Print) → print_in olds q a ≡ Some p → print_in news q a ≡ Some p

-- THE LAW OF EXTENSION, for interfaces that keep texts or prints with their uses
abbrev pub ExtensionOf : Type 0 → Type 0
ExtensionOf K = (olds news : List (Face K)) → AllOnlyGain olds news → Extends olds news

abbrev pub Extension : Type 0
Extension = ExtensionOf (List ℕ) × ExtensionOf Print

-- An interface of which a comparison with another says nothing but that objects were added only gained them.
abbrev pub OnlyAdded : Type 0
OnlyAdded = (old new : Face Print) → AreSeen old → AreSeen new → new.«module» ≡ old.«module» → AllByRecursion (λ v. v.kind ≡ kind.Added) (verdicts old new) → OnlyGains old new
