-- The command that a plan has seen to be there: its procedure in the program and its number in the image.
use Rattle.std.proofs.Common.{◌≡◌, ℕ, suc, ◌+◌, List, [], ◌∷◌, Option, Some, None, Bool, true, false, refl, ap, sym, ◌∙◌, subst, arith}
use Rattle.std.specs.Prelude.{map, bytes_eq, not, ◌&&◌, is_none, if◌then◌else◌}
use Rattle.std.specs.List.{AllByRecursion}
use Rattle.ob_tree.specs.declared.names.QName.{QName}
use Rattle.ob_format.specs.Names.{is_identifier}
use Rattle.ob_types.specs.TypedSyntax.{Procedure, Module}
use Rattle.ob_meaning.specs.Values.{Program, procedure_of, procedure_named}
use Rattle.ob_meaning.specs.Commands.{command_named, when_command, is_command, is_hidden, is_none_of}
use Rattle.law_simulation_relation.specs.Layout.{module_number, procedure_index, procedures_in}
use Rattle.ob_link.specs.Plan.{named, has_command, is_there}
use Rattle.ob_link.specs.Files.{command_at, command_in, or_zero}
use Rattle.ob_builds.specs.Builds.{Build, tree_of, file_of, asks}
use Rattle.law_program_runs.specs.Builds.{HasModule}
use Rattle.law_lists.proofs.Lists.{and_parts}

none_of : {A : Type 0} (xs : List A) → is_none_of xs ≡ true → xs ≡ []
none_of [] e = refl
none_of (x ∷ xs) e = absurd (cc)

none_is : {A : Type 0} (o : Option A) → is_none o ≡ true → o ≡ None
none_is None e = refl
none_is (Some x) e = absurd (cc)

-- a command of a module
record IsCommand (m : Module) (x : List ℕ) : Type 0 where
  p : Procedure
  named : procedure_named m.procedures x ≡ Some p
  is : command_named m x ≡ Some p
  plain : p.parameters ≡ []
  proper : p.result ≡ None

command_is : (m : Module) (x : List ℕ) → is_there (command_named m x) ≡ true → IsCommand m x
command_is m x e = go (procedure_named m.procedures x) refl e
  where
    by : (p : Procedure) (b : Bool) → is_command p ≡ b → procedure_named m.procedures x ≡ Some p → is_there (if b then Some p else None) ≡ true → IsCommand m x
    by p false i f t = absurd (cc)
    by p true i f t =
        let a = (and_parts (not (is_hidden p.mark)) (is_identifier p.name && (is_none p.binding && (is_none_of p.parameters && is_none p.result))) i).1 in
        let b = (and_parts (is_identifier p.name) (is_none p.binding && (is_none_of p.parameters && is_none p.result)) a).1 in
        let c = (and_parts (is_none p.binding) (is_none_of p.parameters && is_none p.result) b).1 in
        let d = and_parts (is_none_of p.parameters) (is_none p.result) c in
        record { p = p; named = f; is = ap when_command f ∙ ap (λ b. if b then Some p else None) i; plain = none_of p.parameters d.0; proper = none_is p.result d.1 }

    go : (o : Option Procedure) → procedure_named m.procedures x ≡ o → is_there (when_command o) ≡ true → IsCommand m x
    go None f t = absurd (cc)
    go (Some p) f t = by p (is_command p) refl f t

-- among the files of builds from a number on
pub record IsFound (xs : List Build) (m x : List ℕ) (n : ℕ) : Type 0 where
  pub p : Procedure
  pub found : procedure_of (map tree_of xs) (record { «module» = m; object = x }) ≡ Some p
  pub plain : p.parameters ≡ []
  pub proper : p.result ≡ None
  pub number : command_at n m x (map file_of xs) ≡ record { «module» = n + module_number (map tree_of xs) m; proc = procedure_index (procedures_in (map tree_of xs) m) x }

pub found : (program : Program) (xs : List Build) (m x : List ℕ) (n : ℕ) → AllByRecursion (HasModule program) xs → has_command asks (named asks m xs) x ≡ true → IsFound xs m x n
found program [] m x n h e = absurd (cc)
found program (b ∷ xs) m x n h e = go (λ c. found program xs m x (suc n) h.1 c) (bytes_eq m (tree_of b).name) refl (subst (λ z. has_command asks (if bytes_eq m z then Some b else named asks m xs) x ≡ true) (sym h.0.name) e)
  where
    q : QName
    q = record { «module» = m; object = x }

    go : (has_command asks (named asks m xs) x ≡ true → IsFound xs m x (suc n)) → (t : Bool) → bytes_eq m (tree_of b).name ≡ t → has_command asks (if t then Some b else named asks m xs) x ≡ true → IsFound (b ∷ xs) m x n
    go behind true f c =
        let k = command_is (tree_of b) x c in
        let number : command_in (file_of b) x ≡ Some (procedure_index (tree_of b).procedures x) = h.0.commands x k.p k.is in
        record {
          p = k.p;
          found = ap (λ t. if t then procedure_named (tree_of b).procedures x else procedure_of (map tree_of xs) q) f ∙ k.named;
          plain = k.plain;
          proper = k.proper;
          number = ap (λ t. if t then record { «module» = n; proc = or_zero (command_in (file_of b) x) } else command_at (suc n) m x (map file_of xs)) f
              ∙ ap (λ o. record { «module» = n; proc = or_zero o }) number
              ∙ ap (λ k. record { «module» = k; proc = procedure_index (tree_of b).procedures x }) (omega arith)
              ∙ ap (λ t. record { «module» = n + (if t then 0 else suc (module_number (map tree_of xs) m)); proc = procedure_index (if t then (tree_of b).procedures else procedures_in (map tree_of xs) m) x }) (sym f);
        }
    go behind false f c =
        let r = behind c in
        record {
          p = r.p;
          found = ap (λ t. if t then procedure_named (tree_of b).procedures x else procedure_of (map tree_of xs) q) f ∙ r.found;
          plain = r.plain;
          proper = r.proper;
          number = ap (λ t. if t then record { «module» = n; proc = or_zero (command_in (file_of b) x) } else command_at (suc n) m x (map file_of xs)) f
              ∙ r.number
              ∙ ap (λ k. record { «module» = k; proc = procedure_index (procedures_in (map tree_of xs) m) x }) (omega arith)
              ∙ ap (λ t. record { «module» = n + (if t then 0 else suc (module_number (map tree_of xs) m)); proc = procedure_index (if t then (tree_of b).procedures else procedures_in (map tree_of xs) m) x }) (sym f);
        }
