-- Uses that are not met.
use Rattle.std.proofs.Common.{◌≡◌, ℕ, List, [], ◌∷◌, Option, Some, None, refl, sym, ap, subst, ◌∙◌}
use Rattle.std.specs.Prelude.{map}
use Rattle.std.specs.Option.{option_map}
use Rattle.ob_tree.specs.declared.names.QName.{QName}
use Rattle.ob_tree.specs.declared.print.Print.{Print}
use Rattle.ob_types.specs.declared.face.Use.{Use}
use Rattle.ob_types.specs.declared.face.Interface.{Interface}
use Rattle.ob_layout.specs.Lists.{or_else}
use Rattle.ob_env.specs.declared.fault.EnvFault.{EnvFault}
use Rattle.ob_env.specs.declared.fault.EnvFault.TheVariants as fault
use Rattle.ob_env.specs.Faces.{Face, Wanted, wanted_of, face_of, print_in}
use Rattle.ob_env.specs.Stale.{Found, AsWanted, IsAbsent, IsChanged, StaleUse, prints_agree, found_as, unmet, first_among, first_stale}
use Rattle.ob_env.specs.Answer.{Stands, if_fit, if_coherent}
use Rattle.ob_env.specs.Fit.{first_unfit}
use Rattle.ob_env.specs.Faces.{faces_of}
use Rattle.ob_env.specs.Building.{use_fault, stale_fault, fault_of, Named, stands_as, use_answer, uses_answer, stale_answer, unfit_answer}

-- ---- a step of a list

pub named_first : (o rest all : Option EnvFault) (e : EnvFault) → or_else o rest ≡ all → Named o e → Named all e
named_first o rest all fault.Memory same named = tt
named_first o rest all (fault.Absent client object) same named = sym same ∙ ap (λ (p : Option EnvFault). or_else p rest) named
named_first o rest all (fault.Changed client object aspect wanted found) same named = sym same ∙ ap (λ (p : Option EnvFault). or_else p rest) named
named_first o rest all (fault.Unfit object) same named = sym same ∙ ap (λ (p : Option EnvFault). or_else p rest) named

pub named_at : (o all : Option EnvFault) (e : EnvFault) → o ≡ all → Named o e → Named all e
named_at o all e same named = subst (λ (p : Option EnvFault). Named p e) same named

-- ---- the definition's first stale use, and the fault of it

IsFaultOf : Option (StaleUse Print) → Option EnvFault → Type 0
IsFaultOf None o = o ≡ None
IsFaultOf (Some u) o = (e : EnvFault) × ((stale_fault u ≡ Some e) × (o ≡ Some e))

one_fault : (client : List ℕ) (w : Wanted Print) (f : Found Print) → IsFaultOf (unmet client w f) (use_fault client w f)
unfolding IsFaultOf
one_fault client w AsWanted = refl
one_fault client w IsAbsent = (fault.Absent client w.object, (refl, refl))
one_fault client w (IsChanged k) = (fault.Changed client w.object w.aspect w.kept k, (refl, refl))

first_fault : (o p : Option (StaleUse Print)) (f g : Option EnvFault) → IsFaultOf o f → IsFaultOf p g → IsFaultOf (or_else o p) (or_else f g)
unfolding IsFaultOf
first_fault None p f g h k = subst (λ (e : Option EnvFault). IsFaultOf p (or_else e g)) (sym h) k
first_fault (Some u) p f g h k = (h.0, (h.1.0, ap (λ (e : Option EnvFault). or_else e g) h.1.1))

uses_fault : (is : List Interface) (client : List ℕ) (us : List Use) → IsFaultOf (first_among (λ w. unmet client w (found_as prints_agree (print_in (faces_of is)) w)) (map wanted_of us)) (first_among (use_answer is client) us)
unfolding IsFaultOf
uses_fault is client [] = refl
uses_fault is client (u ∷ us) = first_fault _ _ _ _ (one_fault client (wanted_of u) (found_as prints_agree (print_in (faces_of is)) (wanted_of u))) (uses_fault is client us)

faces_fault : (is js : List Interface) → IsFaultOf (first_among (λ f. first_among (λ w. unmet f.«module» w (found_as prints_agree (print_in (faces_of is)) w)) f.uses) (map face_of js)) (first_among (uses_answer is) js)
unfolding IsFaultOf
faces_fault is [] = refl
faces_fault is (j ∷ js) = first_fault _ _ _ _ (uses_fault is j.«module» j.uses) (faces_fault is js)

-- ---- the answer

incoherent : (o : Option (StaleUse Print)) (f : Option EnvFault) (faces : List (Face Print)) (e : EnvFault) → IsFaultOf o f → f ≡ Some e → fault_of (if_coherent o faces) ≡ Some e
unfolding IsFaultOf
incoherent None f faces e h k = absurd (let bad : None ≡ Some e = sym h ∙ k in cc)
incoherent (Some u) f faces e h k = h.1.0 ∙ sym h.1.1 ∙ k

coherent : (o : Option (StaleUse Print)) (f : Option EnvFault) (faces : List (Face Print)) → IsFaultOf o f → f ≡ None → if_coherent o faces ≡ if_fit (first_unfit faces) faces
unfolding IsFaultOf
coherent None f faces h k = refl
coherent (Some u) f faces h k = absurd (let bad : Some h.0 ≡ None = sym h.1.1 ∙ k in cc)

pub stale_named : (is : List Interface) (e : EnvFault) → Named (stale_answer is) e → Named (fault_of (stands_as is)) e
stale_named is fault.Memory named = tt
stale_named is (fault.Absent client object) named = incoherent (first_stale prints_agree (print_in (faces_of is)) (faces_of is)) (stale_answer is) (faces_of is) _ (faces_fault is is) named
stale_named is (fault.Changed client object aspect wanted found) named = incoherent (first_stale prints_agree (print_in (faces_of is)) (faces_of is)) (stale_answer is) (faces_of is) _ (faces_fault is is) named
stale_named is (fault.Unfit object) named = incoherent (first_stale prints_agree (print_in (faces_of is)) (faces_of is)) (stale_answer is) (faces_of is) _ (faces_fault is is) named

pub fresh_stands : (is : List Interface) → stale_answer is ≡ None → stands_as is ≡ if_fit (first_unfit (faces_of is)) (faces_of is)
fresh_stands is none = coherent (first_stale prints_agree (print_in (faces_of is)) (faces_of is)) (stale_answer is) (faces_of is) (faces_fault is is) none

fault_fit : (o : Option QName) (faces : List (Face Print)) → fault_of (if_fit o faces) ≡ option_map fault.Unfit o
fault_fit None faces = refl
fault_fit (Some q) faces = refl

all_fit : (o : Option QName) (faces : List (Face Print)) → option_map fault.Unfit o ≡ None → if_fit o faces ≡ Stands faces
all_fit None faces e = refl
all_fit (Some q) faces e = absurd cc

pub unfit_named : (is : List Interface) (e : EnvFault) → stale_answer is ≡ None → Named (unfit_answer is) e → Named (fault_of (stands_as is)) e
unfit_named is e none named = subst (λ (o : Option EnvFault). Named o e) (sym (ap fault_of (fresh_stands is none) ∙ fault_fit (first_unfit (faces_of is)) (faces_of is))) named

pub all_stand : (is : List Interface) → stale_answer is ≡ None → unfit_answer is ≡ None → stands_as is ≡ Stands (faces_of is)
all_stand is none fit = fresh_stands is none ∙ all_fit (first_unfit (faces_of is)) (faces_of is) fit
