-- What types are stays where one more module is behind modules in order.
use Rattle.std.proofs.Common.{◌≡◌, ◌⊎◌, inl, inr, ℕ, suc, ◌+◌, List, [], ◌∷◌, ◌++◌, map as each, length, length-append, Option, Some, None, refl, sym, ap, subst, ◌∙◌}
use Rattle.std.specs.Prelude.{Bool, true, false, bytes_eq, if◌then◌else◌, MatchOption, IsTrue}
use Rattle.std.specs.List.{AllByRecursion}
use Rattle.ob_tree.specs.declared.names.QName.{QName}
use Rattle.ob_types.specs.declared.types.TypeRef.{TypeRef}
use Rattle.ob_types.specs.declared.types.TypeRef.TheVariants as ref
use Rattle.ob_types.specs.declared.desc.Desc.{Desc}
use Rattle.ob_types.specs.declared.typed.TypedType.{TypedType}
use Rattle.ob_types.specs.declared.typed.TypedVariable.{TypedVariable}
use Rattle.ob_types.specs.Maps.{is_type, IsHeld, IsWithin}
use Rattle.ob_types.specs.TypedSyntax.{Module}
use Rattle.ob_meaning.specs.Values.{Program, Own, type_named, description, number_of_types, form_in, record_in}
use Rattle.ob_meaning.specs.Calls.{held_variable}
use Rattle.law_simulation_relation.specs.Layout.{module_held}
use Rattle.law_simulation_relation.proofs.Names.{bytes_true}
use Rattle.law_typing_forms.specs.Said.{IsOneOf}
use Rattle.law_typing_forms.proofs.Shapes.{basic_is}
use Rattle.law_typing_forms.proofs.Chains.{no_longer}
use Rattle.law_typing_forms.proofs.Staying.{form_stays, more_described, more_types}
use Rattle.law_typing_env.proofs.Ordered.{AreSound, program_sound}
use Rattle.law_builds.proofs.Members.{In, to_in}
use Rattle.law_builds_loaded.specs.Staying.{OrderedStay}
use Rattle.law_lists.proofs.Lists.{length_each}

-- ---- the names of a program's types

named : Module → TypedType → QName
named m t = record { «module» = m.name; object = t.name }

names_of : Program → List QName
names_of [] = []
names_of (m ∷ ms) = each (named m) m.types ++ names_of ms

one_left : {A : Type 0} (xs ys : List A) (x : A) → IsOneOf xs x → IsOneOf (xs ++ ys) x
one_left [] ys x h = absurd h
one_left (y ∷ xs) ys x (inl e) = inl e
one_left (y ∷ xs) ys x (inr k) = inr (one_left xs ys x k)

one_right : {A : Type 0} (xs ys : List A) (x : A) → IsOneOf ys x → IsOneOf (xs ++ ys) x
one_right [] ys x h = h
one_right (y ∷ xs) ys x h = inr (one_right xs ys x h)

as_many : (program : Program) → length (names_of program) ≡ number_of_types program
unfolding names_of
as_many [] = refl
as_many (m ∷ ms) = length-append (each (named m) m.types) (names_of ms) ∙ ap (λ n. n + length (names_of ms)) (length_each (named m) m.types) ∙ ap (λ n. length m.types + n) (as_many ms)

among_types : (m : Module) (ts : List TypedType) (q : QName) (d : Desc) → q.«module» ≡ m.name → type_named ts q.object ≡ Some d → IsOneOf (each (named m) ts) q
unfolding named
among_types m [] q d n e = absurd cc
among_types m (t ∷ ts) q d n e = by (bytes_eq q.object t.name) refl e (λ e. among_types m ts q d n e)
  where
    by : (b : Bool) → bytes_eq q.object t.name ≡ b → (if b then Some t.desc else type_named ts q.object) ≡ Some d → (type_named ts q.object ≡ Some d → IsOneOf (each (named m) ts) q) → ((record { «module» = m.name; object = t.name }) ≡ q) ⊎ IsOneOf (each (named m) ts) q
    by true s e r = inl (ap (λ (x : List ℕ). let p : QName = record { «module» = x; object = t.name } in p) (sym n) ∙ ap (λ (x : List ℕ). let p : QName = record { «module» = q.«module»; object = x } in p) (sym (bytes_true q.object t.name s)))
    by false s e r = inr (r e)

all_named : (program : Program) (q : QName) (d : Desc) → description program q ≡ Some d → IsOneOf (names_of program) q
unfolding names_of
all_named [] q d e = absurd cc
all_named (m ∷ ms) q d e = by (bytes_eq q.«module» m.name) refl e (λ e. all_named ms q d e)
  where
    by : (b : Bool) → bytes_eq q.«module» m.name ≡ b → (if b then type_named m.types q.object else description ms q) ≡ Some d → (description ms q ≡ Some d → IsOneOf (names_of ms) q) → IsOneOf (each (named m) m.types ++ names_of ms) q
    by true s e r = one_left (each (named m) m.types) (names_of ms) q (among_types m m.types q d (bytes_true q.«module» m.name s) e)
    by false s e r = one_right (each (named m) m.types) (names_of ms) q (r e)

-- ---- what stays

module _ (program : Program) (m : Module) (sound : AreSound program) where
  -- no chain is longer than there are types
  chains : (q : QName) (d : Desc) → description program q ≡ Some d → IsWithin (description program) (number_of_types program) (ref.Named q)
  chains q d e = let n = sound.ends q d e in no_longer (number_of_types program) (description program) (names_of program) (as_many program) (all_named program) n.0 (ref.Named q) n.1

  pub record_stays : (q : QName) (d : Desc) → description program q ≡ Some d → record_in (program ++ m ∷ []) q ≡ record_in program q
  record_stays q d e = form_stays (description program) (description (program ++ m ∷ [])) (more_described m program) (number_of_types program) (number_of_types (program ++ m ∷ [])) (ref.Named q) (more_types m program) (chains q d e)

  held_stays : (t : TypeRef) → IsHeld (description program) t → form_in (program ++ m ∷ []) t ≡ form_in program t
  held_stays (ref.Basic b) h = basic_is (program ++ m ∷ []) b ∙ sym (basic_is program b)
  held_stays (ref.Named q) h = by (description program q) refl h
    where
      by : (o : Option Desc) → description program q ≡ o → MatchOption o ⊥ (λ d. IsTrue (is_type d)) → record_in (program ++ m ∷ []) q ≡ record_in program q
      by None e h = absurd h
      by (Some d) e h = record_stays q d e

  variables_stay : (vs : List TypedVariable) → AllByRecursion (λ v. IsHeld (description program) v.of) vs → each (held_variable (program ++ m ∷ [])) vs ≡ each (held_variable program) vs
  variables_stay [] h = refl
  variables_stay (v ∷ vs) h = ap (λ t. Own v.name t ∷ each (held_variable (program ++ m ∷ [])) vs) (held_stays v.of h.0) ∙ ap (λ hs. Own v.name (form_in program v.of) ∷ hs) (variables_stay vs h.1)

  modules_stay : (ks : List Module) → AllByRecursion (λ k. AllByRecursion (λ v. IsHeld (description program) v.of) k.variables) ks → (k : Module) → In ks k → module_held (program ++ m ∷ []) k ≡ module_held program k
  modules_stay [] h k i = absurd i
  modules_stay (j ∷ ks) h k (inl e) = subst (λ x. module_held (program ++ m ∷ []) x ≡ module_held program x) e (variables_stay j.variables h.0)
  modules_stay (j ∷ ks) h k (inr i) = modules_stay ks h.1 k i

pub ordered_stay : OrderedStay
ordered_stay program order held m =
    let s = program_sound program order in
    record { types = record_stays program m s; variables = λ k c. modules_stay program m s program held k (to_in program k c) }
