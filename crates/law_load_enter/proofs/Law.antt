-- What the object file of a build has of its module.
use Rattle.std.proofs.Common.{◌≡◌, ℕ, suc, ◌+◌, ◌≤◌, Bool, true, false, List, [], ◌∷◌, length, Option, Some, None, refl, sym, ap, subst, ◌∙◌, arith}
use Rattle.std.specs.Prelude.{if◌then◌else◌, bytes_eq, not}
use Rattle.std.proofs.lemmas.Bool.{false≢true, and_parts}
use Rattle.std.proofs.lemmas.Slice.Eq.{bytes_eq-Decides}
use Rattle.ob_types.specs.TypedSyntax.{Procedure, Module}
use Rattle.ob_format.specs.Names.{is_identifier}
use Rattle.ob_obj.specs.Images.{global_words}
use Rattle.ob_meaning.specs.Values.{procedure_named}
use Rattle.ob_meaning.specs.Commands.{is_hidden, is_command, when_command, command_named}
use Rattle.law_simulation_relation.specs.Layout.{procedure_number, procedure_index}
use Rattle.ob_layout.specs.LaidOut.{viewed}
use Rattle.ob_layout.specs.Room.{globals_words}
use Rattle.ob_env.specs.Faces.{described}
use Rattle.ob_scheme.specs.Context.{before}
use Rattle.ob_compile_model.specs.Compiling.{Compiled, texts, object_by, exports_of, interface_by}
use Rattle.ob_link.specs.Files.{command_in}
use Rattle.law_load_plan.specs.Laws.{IsMarked}
use Rattle.law_load_plan.proofs.Checked.{compiled_marked}
use Rattle.law_load_plan.proofs.Globals.{globals_are}
use Rattle.law_load_plan.proofs.Numbered.{numbered_by_names}
use Rattle.ob_builds.specs.Builds.{Text, of}
use Rattle.law_names_procedures.specs.Named.{AreNamedApart}
use Rattle.law_builds.proofs.Apart.{build_apart}
use Rattle.law_builds.proofs.Compiled.{Comes, comes}
use Rattle.law_builds.proofs.Faces.{of_is}
use Rattle.law_load_enter.specs.Filed.{FilesHave, FilesHaveCommands}
use Rattle.law_load_enter.proofs.Limits.{room_kept, code_kept}

-- ---- a command has a name

named_is : (ps : List Procedure) (x : List ℕ) (p : Procedure) → procedure_named ps x ≡ Some p → bytes_eq x p.name ≡ true
named_is [] x p e = absurd cc
named_is (q ∷ ps) x p e = go (bytes_eq x q.name) refl e (λ i. named_is ps x p i)
  where
    go : (b : Bool) → bytes_eq x q.name ≡ b → (if b then Some q else procedure_named ps x) ≡ Some p → (procedure_named ps x ≡ Some p → bytes_eq x p.name ≡ true) → bytes_eq x p.name ≡ true
    go true f i rest = let same : q ≡ p = cc in subst (λ (r : Procedure). bytes_eq x r.name ≡ true) same f
    go false f i rest = rest i

command_if : (b : Bool) (p q : Procedure) → (if b then Some p else None) ≡ Some q → b ≡ true
command_if true p q e = refl
command_if false p q e = absurd cc

when_named : (o : Option Procedure) (q : Procedure) → when_command o ≡ Some q → (p : Procedure) × (o ≡ Some p) × (is_command p ≡ true)
when_named None q e = absurd cc
when_named (Some p) q e = (p, refl, command_if (is_command p) p q e)

no_name : (m : Module) (p : Procedure) → command_named m [] ≡ Some p → ⊥
no_name m p e =
    let w = when_named (procedure_named m.procedures []) p e in
    let named : [] ≡ w.0.name = (bytes_eq-Decides [] w.0.name).0 (named_is m.procedures [] w.0 w.1) in
    let a = and_parts (not (is_hidden w.0.mark)) _ w.2 in
    let b = and_parts (is_identifier w.0.name) _ a.1 in
    false≢true (ap is_identifier named ∙ b.0)

-- ---- numbers of procedures

number_same : (ps : List Procedure) (x : List ℕ) → before (λ p. p.name) (λ p. 1) ps x ≡ procedure_number ps x
number_same [] x = refl
number_same (p ∷ ps) x = go (bytes_eq x p.name) (number_same ps x)
  where
    go : (b : Bool) → before (λ p. p.name) (λ p. 1) ps x ≡ procedure_number ps x → (if b then 0 else 1 + before (λ p. p.name) (λ p. 1) ps x) ≡ (if b then 0 else suc (procedure_number ps x))
    go true h = refl
    go false h = omega (arith, h)

index_same : (m : Module) (x : List ℕ) (p : Procedure) → command_named m x ≡ Some p → suc (before (λ p. p.name) (λ p. 1) m.procedures x) ≡ procedure_index m.procedures x
index_same m [] p e = absurd (no_name m p e)
index_same m (c ∷ x) p e = ap suc (number_same m.procedures (c ∷ x))

-- ---- the law

compiled_has : (c : Compiled Text) → AreNamedApart c → IsMarked c → (x : List ℕ) (p : Procedure) → command_named c.tree x ≡ Some p → command_in (object_by texts c) x ≡ Some (procedure_index c.tree.procedures x)
compiled_has c s k x p e =
    numbered_by_names (viewed (described c.against) c.tree) c.tree (exports_of (interface_by texts c)) (interface_by texts c).uses s.procedures k.marks x p e
    ∙ ap (λ i. Some i) (index_same c.tree x p e)

pub files_have : FilesHave
files_have b c v =
    let o : of b ≡ c = of_is b c v in
    let h : Comes texts c = comes texts _ (Some b.source) c v.is in
    record {
      name = subst (λ (x : Compiled Text). x.tree.name ≡ x.shows.«module») (sym (o ∙ h.is)) refl;
      words = subst (λ (x : Compiled Text). globals_words (viewed (described x.against) x.tree) x.tree ≡ global_words (object_by texts x)) (sym o) (sym (globals_are (viewed (described c.against) c.tree) c.tree (exports_of (interface_by texts c)) (interface_by texts c).uses (room_kept c h.limits)));
      short = subst (λ (x : Compiled Text). length (object_by texts x).body.code ≤ 262144) (sym o) (code_kept c h.limits);
    }

pub files_have_commands : FilesHaveCommands
files_have_commands b c v =
    let s : AreNamedApart c = build_apart b c v in
    let k : IsMarked c = compiled_marked _ (Some b.source) c v.is in
    subst (λ (x : Compiled Text). (y : List ℕ) (p : Procedure) → command_named x.tree y ≡ Some p → command_in (object_by texts x) y ≡ Some (procedure_index x.tree.procedures y)) (sym (of_is b c v)) (compiled_has c s k)
