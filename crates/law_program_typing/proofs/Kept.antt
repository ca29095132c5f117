-- The procedures and the bodies of a program whose bodies are well typed are checked.
use Rattle.std.proofs.Common.{◌≡◌, ◌≢◌, ℕ, ⊎_elim, inl, inr, refl, sym, ap, subst, List, [], ◌∷◌, ◌++◌, map, Option, false}
use Rattle.std.specs.Prelude.{bytes_eq}
use Rattle.std.specs.List.{AllByRecursion, IsDistinct}
use Rattle.ob_tree.specs.declared.names.QName.{QName}
use Rattle.ob_tree.specs.declared.pos.Pos.{Pos}
use Rattle.ob_types.specs.declared.desc.Desc.{Desc}
use Rattle.ob_types.specs.declared.typed.TypedVariable.{TypedVariable}
use Rattle.ob_types.specs.TypedSyntax.{Procedure, Module}
use Rattle.ob_meaning.specs.Values.{Program, form_in}
use Rattle.ob_meaning.specs.Calls.{hidden_of_all, hidden_held, held_variable}
use Rattle.ob_scheme.specs.Procedures.{body_of, within}
use Rattle.law_simulation_relation.specs.Layout.{static_held}
use Rattle.law_simulation_relation.specs.Relation.{FormOk}
use Rattle.law_simulation_relation.specs.Linked.{OwnFormsOk}
use Rattle.law_simulation_relation.specs.Setting.{Setting}
use Rattle.law_simulation_relation.specs.Typed.{StmtsOk}
use Rattle.law_image_code.specs.Fits.{IsNamed}
use Rattle.law_image_code.specs.Compiled.{ParametersFit, IsChecked, ProceduresChecked}
use Rattle.law_image_code.proofs.FittingStatements.{typed_statements_fit}
use Rattle.law_image_links.specs.Files.{Build, KeepsRules, AllKeepRules}
use Rattle.law_image_tables.specs.Image.{AllBodiesChecked}
use Rattle.law_typing_forms.specs.Said.{IsOneOf}
use Rattle.law_typing_forms.specs.Whole.{Different, HeadingOk, IsWholeModule}
use Rattle.law_typing_forms.proofs.Modules.{of_all, other_name}
use Rattle.law_typing.specs.Laws.{Having}
use Rattle.law_typing_values.specs.Valued.{values}
use Rattle.law_program_typing.specs.Accepted.{IsBuilt, AreBuilt, IsWellTyped, AreWellTyped}
use Rattle.law_program_typing.specs.Kept.{IsLeft, AreLeft, IsTyped, WellTypedKeeps}
use Rattle.law_program_typing.proofs.Names.{AllNamed, names_stand}
use Rattle.law_program_typing.proofs.Parameters.{all_fit}

-- ---- forms of variables

hidden_ok : (program : Program) (ats : List Pos) → OwnFormsOk program (map hidden_held ats)
hidden_ok program [] = tt
hidden_ok program (at ∷ ats) = (tt, hidden_ok program ats)

own_ok : (program : Program) (vs : List TypedVariable) (ats : List Pos) → AllByRecursion (λ (v : TypedVariable). FormOk program (form_in program v.of)) vs → OwnFormsOk program (map (held_variable program) vs ++ map hidden_held ats)
own_ok program [] ats h = hidden_ok program ats
own_ok program (v ∷ vs) ats h = (h.0, own_ok program vs ats h.1)

-- ---- names of procedures

apart : (x : List ℕ) (ps : List Procedure) → AllByRecursion (λ (p : Procedure). p.name ≢ x) ps → AllByRecursion (λ y. bytes_eq x y ≡ false) (map (λ (p : Procedure). p.name) ps)
apart x [] h = tt
apart x (p ∷ ps) h = (other_name x p.name (λ e. h.0 (sym e)), apart x ps h.1)

distinct : (ps : List Procedure) → Different (λ (p : Procedure). p.name) ps → IsDistinct bytes_eq (map (λ (p : Procedure). p.name) ps)
unfolding IsDistinct
distinct [] d = tt
distinct (p ∷ ps) d = (apart p.name ps d.0, distinct ps d.1)

-- ---- modules of builds

unit_in : (bs : List Build) (b : Build) → IsOneOf bs b → IsOneOf (map (λ (b : Build). b.unit) bs) b.unit
unit_in [] b i = absurd i
unit_in (k ∷ bs) b i = ⊎_elim (λ e. inl (ap (λ (b : Build). b.unit) e)) (λ j. inr (unit_in bs b j)) i

all_named : (c : Setting) (bs : List Build) → AllByRecursion (AreLeft c) bs → AllNamed (map (λ (b : Build). b.unit) bs)
all_named c [] h = tt
all_named c (b ∷ bs) h = (h.0.named, all_named c bs h.1)

module _ (c : Setting) (builds : List Build) (is : IsTyped c builds) (left : AllByRecursion (AreLeft c) builds) where
  named : AllNamed c.program
  named = subst AllNamed (sym is.program) (all_named c builds left)

  module _ (types : QName → Option Desc) (md : Module) (there : IsOneOf c.program md) where
    is_checked : (p : Procedure) → ParametersFit c.program p.parameters → IsBuilt c.program p → IsWellTyped c.program md p → IsLeft c types md p → IsChecked c types md p
    is_checked p k b w l = record {
      fits = typed_statements_fit c.program (values c.program) (within types md p) md.name (static_held c.program p) p.result p.body false (names_stand c.program is.sound is.whole named types md there p) w l.there;
      parameters = k;
      ok = subst (λ h. StmtsOk c.program (Having h) md.name (static_held c.program p) p.result p.body false) (sym is.has) w;
      different = b.different;
      forms = own_ok c.program p.locals (hidden_of_all p.body) b.locals;
      small = l.small;
      few = l.few;
    }

    all_checked : (ps : List Procedure) → AllByRecursion (HeadingOk c.program) ps → AllByRecursion (IsBuilt c.program) ps → AllByRecursion (IsWellTyped c.program md) ps → AllByRecursion (λ (p : Procedure). IsNamed p.name) ps → AllByRecursion (IsLeft c types md) ps → ProceduresChecked c types md ps
    all_checked [] h b w n l = tt
    all_checked (p ∷ ps) h b w n l = ((n.0, is_checked p (all_fit c.program is.sound p.parameters h.0.0) b.0 w.0 l.0), all_checked ps h.1 b.1 w.1 n.1 l.1)

  module _ (b : Build) (i : IsOneOf builds b) (l : AreLeft c b) where
    there : IsOneOf c.program b.unit
    there = subst (λ (ms : Program). IsOneOf ms b.unit) (sym is.program) (unit_in builds b i)

    built : AreBuilt c.program b.unit
    built = of_all (AreBuilt c.program) c.program b.unit is.built there

    typed : AreWellTyped c.program b.unit
    typed = of_all (AreWellTyped c.program) c.program b.unit is.typed there

    whole : IsWholeModule c.program b.unit
    whole = of_all (IsWholeModule c.program) c.program b.unit is.whole.modules there

    keeps : KeepsRules c b
    keeps = record { described = l.described; checked = all_checked b.types b.unit there b.unit.procedures whole.headings built.procedures typed.procedures l.named l.procedures; different = distinct b.unit.procedures whole.procedures }

    body_checked : IsChecked c b.types b.unit (body_of b.unit)
    body_checked = is_checked b.types b.unit there (body_of b.unit) tt built.body typed.body l.body

  all_keep : (bs : List Build) → ((b : Build) → IsOneOf bs b → IsOneOf builds b) → AllByRecursion (AreLeft c) bs → AllKeepRules c bs
  all_keep [] f l = tt
  all_keep (b ∷ bs) f l = (keeps b (f b (inl refl)) l.0, all_keep bs (λ k i. f k (inr i)) l.1)

  all_bodies : (bs : List Build) → ((b : Build) → IsOneOf bs b → IsOneOf builds b) → AllByRecursion (AreLeft c) bs → AllBodiesChecked c bs
  all_bodies [] f l = tt
  all_bodies (b ∷ bs) f l = (body_checked b (f b (inl refl)) l.0, all_bodies bs (λ k i. f k (inr i)) l.1)

pub well_typed_keeps : WellTypedKeeps
well_typed_keeps c builds is left = (all_keep c builds is left builds (λ b i. i) left, all_bodies c builds is left builds (λ b i. i) left)
