-- The procedures and the bodies of compiled modules stand in an image of their files.
use Rattle.std.proofs.Common.{◌≡◌, ℕ, suc, List, [], ◌∷◌, ◌++◌, refl, sym, ap, ◌∙◌, subst, Option, Some}
use Rattle.std.specs.Prelude.{unwrap_or, Bool, true, false, bytes_eq, if◌then◌else◌, slice_get}
use Rattle.std.proofs.lemmas.Option.{none-some}
use Rattle.ob_tree.specs.declared.names.QName.{QName}
use Rattle.ob_types.specs.declared.desc.Desc.{Desc}
use Rattle.ob_types.specs.TypedSyntax.{Procedure, Module}
use Rattle.ob_instr.specs.Image.{ModuleImage}
use Rattle.ob_meaning.specs.Values.{procedure_named, procedure_of}
use Rattle.ob_scheme.specs.Procedures.{body_of, all_procedures}
use Rattle.law_simulation_relation.specs.Layout.{procedure_number}
use Rattle.law_simulation_relation.specs.Setting.{Setting}
use Rattle.law_simulation_relation.proofs.Names.{bytes_true}
use Rattle.law_image_code.specs.Fits.{IsNamed}
use Rattle.law_image_code.specs.Compiled.{IsCompiled, IsChecked, ProceduresChecked}
use Rattle.law_image_code.proofs.Procedures.{index_named, procedure_stands, procedure_methods}
use Rattle.law_image_links.specs.Files.{Build, AllKeepRules}
use Rattle.law_image_links.specs.Standing.{IsIn, StandsBy, ProceduresStand, BodiesStand}
use Rattle.law_image_links.proofs.Described.{units, in_more}
use Rattle.law_image_links.proofs.Whole.{BuildsCompiled, builds_compiled}

module _ (c : Setting) where
  record Named (types : QName → Option Desc) (md : Module) (ps : List Procedure) (x : List ℕ) (p : Procedure) : Type 0 where
    pub found : slice_get ps (procedure_number ps x) ≡ Some p
    pub named : IsNamed x
    pub checked : IsChecked c types md p

  named_found : (types : QName → Option Desc) (md : Module) (ps : List Procedure) (x : List ℕ) (p : Procedure) → procedure_named ps x ≡ Some p → ProceduresChecked c types md ps → Named types md ps x p
  named_found types md [] x p e h = absurd (none-some _ e)
  named_found types md (r ∷ ps) x p e h = go (bytes_eq x r.name) refl e (λ f. named_found types md ps x p f h.1)
    where
      go : (b : Bool) → bytes_eq x r.name ≡ b → (if b then Some r else procedure_named ps x) ≡ Some p → (procedure_named ps x ≡ Some p → Named types md ps x p) → Named types md (r ∷ ps) x p
      go true t e more = record { found = ap (λ b. slice_get (r ∷ ps) (if b then 0 else suc (procedure_number ps x))) t ∙ e; named = subst IsNamed (sym (bytes_true x r.name t)) h.0.0; checked = subst (IsChecked c types md) (ap (λ o. unwrap_or o r) e) h.0.1 }
      go false t e more =
          let n = more e in
          record { found = ap (λ b. slice_get (r ∷ ps) (if b then 0 else suc (procedure_number ps x))) t ∙ n.found; named = n.named; checked = n.checked }

  abbrev called : List ℕ → List ℕ → QName
  called m x = record { «module» = m; object = x }

  in_front : (b : Build) (bs : List Build) → IsIn (b ∷ bs) b
  in_front b bs = record { front = []; back = bs; is = refl }

  later : (b : Build) (bs : List Build) (q : QName) (p : Procedure) → StandsBy c bs q p → StandsBy c (b ∷ bs) q p
  later b bs q p s = record { build = s.build; among = in_more b bs s.build s.among; stands = s.stands; methods = s.methods }

  -- PROCEDURES
  stand_by : (bs : List Build) (q : QName) (p : Procedure) → BuildsCompiled c bs → AllKeepRules c bs → procedure_of (units bs) q ≡ Some p → StandsBy c bs q p
  stand_by [] q p all rules e = absurd (none-some _ e)
  stand_by (b ∷ bs) q p all rules e = go (bytes_eq q.module b.unit.name) refl e (λ f. stand_by bs q p all.1 rules.1 f)
    where
      go : (t : Bool) → bytes_eq q.module b.unit.name ≡ t → (if t then procedure_named b.unit.procedures q.object else procedure_of (units bs) q) ≡ Some p → (procedure_of (units bs) q ≡ Some p → StandsBy c bs q p) → StandsBy c (b ∷ bs) q p
      go true t e more =
          let n = named_found b.types b.unit b.unit.procedures q.object p e rules.0.checked in
          let f = subst (λ k. slice_get (all_procedures b.unit) k ≡ Some p) (index_named b.unit.procedures q.object n.named) n.found in
          let k = all.0 in
          subst (λ m. StandsBy c (b ∷ bs) (called m q.object) p) (sym (bytes_true q.module b.unit.name t))
          (record {
            build = b;
            among = in_front b bs;
            stands = procedure_stands b.types b.unit c k.0 k.1 k.2 q.object p f n.checked;
            methods = procedure_methods b.types b.unit c k.0 k.1 k.2 q.object p f n.checked;
          })
      go false t e more = later b bs q p (more e)

  -- BODIES
  body_at : (front : List Build) (b : Build) (back : List Build) → BuildsCompiled c (front ++ b ∷ back) → (m : ℕ) × (u : ModuleImage) × IsCompiled c b.types b.unit m u
  body_at [] b back all = all.0
  body_at (a ∷ front) b back all = body_at front b back all.1

pub procedures_stand : ProceduresStand
procedures_stand c builds more files rules q p e = stand_by c builds q p (builds_compiled c builds more files rules) rules (ap (λ ms. procedure_of ms q) (sym files.program) ∙ e)

pub bodies_stand : BodiesStand
bodies_stand c builds more files rules b i h =
    let k = body_at c i.front b i.back (subst (BuildsCompiled c) i.is (builds_compiled c builds more files rules)) in
    record { stands = procedure_stands b.types b.unit c k.0 k.1 k.2 [] (body_of b.unit) refl h; methods = procedure_methods b.types b.unit c k.0 k.1 k.2 [] (body_of b.unit) refl h }
