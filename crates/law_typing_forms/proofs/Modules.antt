-- What a module declares is found in a whole program.
use Rattle.std.proofs.Common.{◌≡◌, ◌≢◌, ◌⊎◌, ⊎_elim, inl, inr, ℕ, List, [], ◌∷◌, map, Some, refl, sym, ap, subst, ◌∙◌}
use Rattle.std.specs.Prelude.{Bool, true, false, bytes_eq, if◌then◌else◌}
use Rattle.std.specs.List.{AllByRecursion}
use Rattle.ob_tree.specs.declared.names.QName.{QName}
use Rattle.ob_types.specs.declared.typed.TypedType.{TypedType}
use Rattle.ob_types.specs.declared.typed.TypedVariable.{TypedVariable}
use Rattle.ob_types.specs.TypedSyntax.{Procedure, Module}
use Rattle.ob_meaning.specs.Values.{Program, form_in, type_named, procedure_named, description, procedure_of}
use Rattle.ob_meaning.specs.Calls.{held_variable}
use Rattle.law_simulation_relation.specs.Layout.{form_named, variables_in, module_held}
use Rattle.law_simulation_relation.specs.Relation.{OrElse, ValueIn, Fresh, AreDifferent, FreshModule, ModulesOk}
use Rattle.law_simulation_relation.proofs.Names.{bytes_true, bytes_same}
use Rattle.law_typing_forms.specs.Formed.{IsVariableOf}
use Rattle.law_typing_forms.specs.Said.{IsOneOf}
use Rattle.law_typing_forms.specs.Whole.{Different, IsWholeModule, IsWhole}

pub of_all : {A : Type 0} (P : A → Type 0) (xs : List A) (x : A) → AllByRecursion P xs → IsOneOf xs x → P x
of_all P [] x h i = absurd i
of_all P (y ∷ ys) x h i = ⊎_elim (λ e. subst P e h.0) (λ k. of_all P ys x h.1 k) i

pub other_name : (x y : List ℕ) → x ≢ y → bytes_eq x y ≡ false
other_name x y n = by (bytes_eq x y) refl
  where
    by : (b : Bool) → bytes_eq x y ≡ b → b ≡ false
    by true e = absurd (n (bytes_true x y e))
    by false e = refl

-- what is sought by its name, the first of that name being it
module _ {A B : Type 0} (name : A → List ℕ) (sought : List A → List ℕ → B) (give : A → B) (steps : (x : A) (xs : List A) (n : List ℕ) → sought (x ∷ xs) n ≡ (if bytes_eq n (name x) then give x else sought xs n)) where
  pub sought_there : (xs : List A) (x : A) → Different name xs → IsOneOf xs x → sought xs (name x) ≡ give x
  sought_there [] x d i = absurd i
  sought_there (y ∷ ys) x d i =
      ⊎_elim
      (λ e. steps y ys (name x) ∙ ap (λ (z : A). if bytes_eq (name z) (name y) then give y else sought ys (name z)) (sym e) ∙ ap (λ (b : Bool). if b then give y else sought ys (name y)) (bytes_same (name y)) ∙ ap give e)
      (λ k. steps y ys (name x) ∙ ap (λ (b : Bool). if b then give y else sought ys (name x)) (other_name (name x) (name y) (of_all (λ z. name z ≢ name y) ys x d.0 k)) ∙ sought_there ys x d.1 k)
      i

module _ (program : Program) (whole : IsWhole program) where
  named : Module → List ℕ → QName
  named m x = record { «module» = m.name; object = x }

  pub own : (m : Module) → IsOneOf program m → IsWholeModule program m
  own m i = of_all (IsWholeModule program) program m whole.modules i

  pub type_there : (m : Module) (t : TypedType) → IsOneOf program m → IsOneOf m.types t → description program (record { «module» = m.name; object = t.name }) ≡ Some t.desc
  type_there m t i j =
      sought_there (λ m. m.name) (λ ms n. description ms (record { «module» = n; object = t.name })) (λ m. type_named m.types t.name) (λ x xs n. refl) program m whole.names i
      ∙ sought_there (λ t. t.name) type_named (λ t. Some t.desc) (λ x xs n. refl) m.types t (own m i).types j

  pub procedure_there : (m : Module) (p : Procedure) → IsOneOf program m → IsOneOf m.procedures p → procedure_of program (record { «module» = m.name; object = p.name }) ≡ Some p
  procedure_there m p i j =
      sought_there (λ m. m.name) (λ ms n. procedure_of ms (record { «module» = n; object = p.name })) (λ m. procedure_named m.procedures p.name) (λ x xs n. refl) program m whole.names i
      ∙ sought_there (λ p. p.name) procedure_named (λ p. Some p) (λ x xs n. refl) m.procedures p (own m i).procedures j

  -- VARIABLES
  values_there : (vs : List TypedVariable) (v : TypedVariable) → IsOneOf vs v → ValueIn (map (held_variable program) vs) v.name
  values_there [] v i = absurd i
  values_there (w ∷ vs) v i = by (bytes_eq v.name w.name) refl i (λ k. values_there vs v k)
    where
      by : (b : Bool) → bytes_eq v.name w.name ≡ b → (w ≡ v) ⊎ IsOneOf vs v → (IsOneOf vs v → ValueIn (map (held_variable program) vs) v.name) → OrElse b (Unit {0}) (ValueIn (map (held_variable program) vs) v.name)
      by true e i r = tt
      by false e (inl k) r = let bad : true ≡ false = sym (bytes_same v.name) ∙ ap (λ (z : TypedVariable). bytes_eq v.name z.name) (sym k) ∙ e in absurd cc
      by false e (inr k) r = r k

  pub variable_there : (m : Module) (v : TypedVariable) → IsOneOf program m → IsOneOf m.variables v → IsVariableOf program (record { «module» = m.name; object = v.name }) v.of
  variable_there m v i j =
      let held : variables_in program program m.name ≡ module_held program m = sought_there (λ m. m.name) (variables_in program) (module_held program) (λ x xs n. refl) program m whole.names i in
      record {
        there = subst (λ hs. ValueIn hs v.name) (sym held) (values_there m.variables v j);
        form = ap (λ hs. form_named hs v.name) held ∙ sought_there (λ v. v.name) (λ vs n. form_named (map (held_variable program) vs) n) (λ v. form_in program v.of) (λ x xs n. refl) m.variables v (own m i).variables j;
      }

  -- MODULES AND THEIR VARIABLES HAVE DIFFERENT NAMES
  fresh_module : (x : List ℕ) (ms : List Module) → AllByRecursion (λ k. k.name ≢ x) ms → FreshModule x ms
  fresh_module x [] h = tt
  fresh_module x (m ∷ ms) h = (other_name x m.name (λ e. h.0 (sym e)), fresh_module x ms h.1)

  fresh_variable : (x : List ℕ) (vs : List TypedVariable) → AllByRecursion (λ v. v.name ≢ x) vs → Fresh x (map (held_variable program) vs)
  fresh_variable x [] h = tt
  fresh_variable x (v ∷ vs) h = (other_name x v.name (λ e. h.0 (sym e)), fresh_variable x vs h.1)

  different_variables : (vs : List TypedVariable) → Different (λ v. v.name) vs → AreDifferent (map (held_variable program) vs)
  different_variables [] h = tt
  different_variables (v ∷ vs) h = (fresh_variable v.name vs h.0, different_variables vs h.1)

  all_ok : (ms : List Module) → Different (λ m. m.name) ms → AllByRecursion (IsWholeModule program) ms → ModulesOk program ms
  all_ok [] d h = tt
  all_ok (m ∷ ms) d h = (fresh_module m.name ms d.0, (different_variables m.variables h.0.variables, all_ok ms d.1 h.1))

  pub modules_ok : ModulesOk program program
  modules_ok = all_ok program whole.names whole.modules
