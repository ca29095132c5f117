-- Modules that were entered are found by their names, and what they export by its names, where the program has it.
use Rattle.std.proofs.Common.{◌≡◌, ℕ, suc, ◌+◌, List, [], ◌∷◌, ◌++◌, length, map, refl, sym, ap, ◌∙◌, subst, arith, append_assoc, Option, Some, None}
use Rattle.std.specs.Prelude.{Bool, true, false, ◌&&◌, bytes_eq, IsSome, if◌then◌else◌}
use Rattle.std.specs.List.{AllByRecursion, IsDistinct}
use Rattle.std.proofs.lemmas.Map.Keys.{IsDistinct-head, IsDistinct-tail}
use Rattle.ob_tree.specs.declared.names.QName.{QName}
use Rattle.ob_tree.specs.declared.proc_ref.ProcRef.{ProcRef}
use Rattle.ob_types.specs.declared.desc.Desc.{Desc}
use Rattle.ob_types.specs.declared.typed.TypedVariable.{TypedVariable}
use Rattle.ob_types.specs.TypedSyntax.{Procedure, Module}
use Rattle.ob_instr.specs.Image.{ModuleImage}
use Rattle.ob_obj.specs.declared.parts.Link.{Link}
use Rattle.ob_obj.specs.Grammar.{by_name}
use Rattle.ob_obj.specs.Images as image
use Rattle.ob_obj.specs.Images.{same, named, module_from, module_at, commands_in, linked_variable, linked_procedure, ref_of, or_zero, or_first}
use Rattle.ob_scheme.specs.Context.{variable_place}
use Rattle.ob_scheme.specs.Object.{is_seen, is_full, is_free, own, seen_variables, variables, commands_among, commands}
use Rattle.law_simulation_relation.specs.Layout.{module_number, module_offset, procedure_number, procedure_index, procedures_in, variables_in, module_held, slot}
use Rattle.law_simulation_relation.specs.Setting.{Setting}
use Rattle.law_simulation_relation.proofs.Names.{bytes_same, bytes_true, bytes_sym}
use Rattle.law_image_code.specs.Fits.{IsNamed}
use Rattle.law_image_code.specs.Compiled.{ProceduresChecked}
use Rattle.law_image_code.proofs.Words.{globals_before}
use Rattle.law_image_links.specs.Files.{Build, KeepsRules, AllKeepRules}
use Rattle.law_image_links.proofs.Lookup.{same_is, Numbered, order_numbered, named_is, find, found}
use Rattle.law_lists.proofs.Lists.{length_last}

-- PROCEDURES OF A MODULE BY THEIR NAMES

abbrev NoneNamed : List ℕ → List Procedure → Type 0
NoneNamed x [] = Unit {0}
NoneNamed x (p ∷ ps) = (bytes_eq x p.name ≡ false) × NoneNamed x ps

abbrev pub ProceduresDiffer : List Procedure → Type 0
ProceduresDiffer [] = Unit {0}
ProceduresDiffer (p ∷ ps) = NoneNamed p.name ps × ProceduresDiffer ps

none_named : (x : List ℕ) (ps : List Procedure) → AllByRecursion (λ y. bytes_eq x y ≡ false) (map (λ p. p.name) ps) → NoneNamed x ps
none_named x [] h = tt
none_named x (p ∷ ps) h = (h.0, none_named x ps h.1)

pub procedures_differ : (ps : List Procedure) → IsDistinct bytes_eq (map (λ p. p.name) ps) → ProceduresDiffer ps
procedures_differ [] h = tt
procedures_differ (p ∷ ps) h = (none_named p.name ps (IsDistinct-head bytes_eq p.name (map (λ p. p.name) ps) h), procedures_differ ps (IsDistinct-tail bytes_eq p.name (map (λ p. p.name) ps) h))

pub index_named : (ps : List Procedure) (x : List ℕ) → IsNamed x → suc (procedure_number ps x) ≡ procedure_index ps x
index_named ps [] n = absurd n
index_named ps (k ∷ x) n = refl

none_at : (x : List ℕ) (front : List Procedure) (p : Procedure) (ps : List Procedure) → NoneNamed x (front ++ p ∷ ps) → bytes_eq x p.name ≡ false
none_at x [] p ps h = h.0
none_at x (k ∷ front) p ps h = none_at x front p ps h.1

pub number_here : (front : List Procedure) (p : Procedure) (ps : List Procedure) → ProceduresDiffer (front ++ p ∷ ps) → procedure_number (front ++ p ∷ ps) p.name ≡ length front
number_here [] p ps d = ap (λ b. if b then 0 else suc (procedure_number ps p.name)) (bytes_same p.name)
number_here (k ∷ front) p ps d = ap (λ b. if b then 0 else suc (procedure_number (front ++ p ∷ ps) p.name)) (bytes_sym p.name k.name ∙ none_at k.name front p ps d.0) ∙ ap suc (number_here front p ps d.1)

module _ (types : QName → Option Desc) (md : Module) where
  pub commands_all_numbered : (front ps : List Procedure) (n : ℕ) → n ≡ suc (length front) → ProceduresDiffer (front ++ ps) → AllByRecursion (λ p. IsNamed p.name) ps → Numbered (λ x. x.name) (λ x. x.procedure) (procedure_index (front ++ ps)) (commands_among types md ps n)
  commands_all_numbered front [] n e d h = tt
  commands_all_numbered front (p ∷ ps) n e d h =
      let is = append_assoc front (p ∷ []) ps in
      let rest = commands_all_numbered (front ++ p ∷ []) ps (suc n) (ap suc (e ∙ sym (length_last front p))) (subst ProceduresDiffer (sym is) d) h.1 in
      go (is_full p.mark && is_free p.binding)
      (e ∙ ap suc (sym (number_here front p ps d)) ∙ index_named (front ++ p ∷ ps) p.name h.0)
      (subst (λ l. Numbered (λ x. x.name) (λ x. x.procedure) (procedure_index l) (commands_among types md ps (suc n))) is rest)
    where
      go : (b : Bool) → n ≡ procedure_index (front ++ p ∷ ps) p.name → Numbered (λ x. x.name) (λ x. x.procedure) (procedure_index (front ++ p ∷ ps)) (commands_among types md ps (suc n)) → Numbered (λ x. x.name) (λ x. x.procedure) (procedure_index (front ++ p ∷ ps)) (if b then record { name = p.name; procedure = n } ∷ commands_among types md ps (suc n) else commands_among types md ps (suc n))
      go true here more = (here, more)
      go false here more = more

  all_named : (c : Setting) (ps : List Procedure) → ProceduresChecked c types md ps → AllByRecursion (λ p. IsNamed p.name) ps
  all_named c [] h = tt
  all_named c (p ∷ ps) h = (h.0.0, all_named c ps h.1)

  seen_numbered : (vs : List TypedVariable) → Numbered (λ x. x.name) (λ x. x.place) (variable_place (own types md)) (seen_variables types md vs)
  seen_numbered [] = tt
  seen_numbered (v ∷ vs) = go (is_seen v.mark) (seen_numbered vs)
    where
      go : (b : Bool) → Numbered (λ x. x.name) (λ x. x.place) (variable_place (own types md)) (seen_variables types md vs) → Numbered (λ x. x.name) (λ x. x.place) (variable_place (own types md)) (if b then record { name = v.name; place = variable_place (own types md) v.name } ∷ seen_variables types md vs else seen_variables types md vs)
      go true more = (refl, more)
      go false more = more

-- MODULES THAT WERE ENTERED

module _ (c : Setting) where
  -- as its file has it, with its globals where the program has them
  pub record ModuleIs (b : Build) (u : ModuleImage) : Type 0 where
    pub name : u.name ≡ b.unit.name
    pub first : u.first ≡ suc (module_offset c.program c.program b.unit.name)
    pub variables : u.variables ≡ map (λ v. (v.name, u.first + v.place)) (variables b.types b.unit)
    pub commands : u.commands ≡ map (λ x. (x.name, x.procedure)) (commands b.types b.unit)

  abbrev pub ModulesAre : List Build → List ModuleImage → Type 0
  ModulesAre [] [] = Unit {0}
  ModulesAre [] (u ∷ us) = ⊥
  ModulesAre (b ∷ bs) [] = ⊥
  ModulesAre (b ∷ bs) (u ∷ us) = ModuleIs b u × ModulesAre bs us

  pub one_more : (bs : List Build) (us : List ModuleImage) (b : Build) (u : ModuleImage) → ModulesAre bs us → ModuleIs b u → ModulesAre (bs ++ b ∷ []) (us ++ u ∷ [])
  one_more [] [] b u h i = (i, tt)
  one_more [] (v ∷ us) b u h i = absurd h
  one_more (a ∷ bs) [] b u h i = absurd h
  one_more (a ∷ bs) (v ∷ us) b u h i = (h.0, one_more bs us b u h.1 i)

  abbrev units : List Build → List Module
  units bs = map (λ b. b.unit) bs

  record Found (n : ℕ) (bs : List Build) (us : List ModuleImage) (rest : List Module) (name : List ℕ) : Type 0 where
    pub build : Build
    pub module_image : ModuleImage
    pub is : ModuleIs build module_image
    pub rules : KeepsRules c build
    pub named : build.unit.name ≡ name
    pub there : find us name ≡ Some module_image
    pub number : module_from n us name ≡ Some (n + module_number (units bs ++ rest) name)
    pub variables : variables_in c.program (units bs ++ rest) name ≡ module_held c.program build.unit
    pub procedures : procedures_in (units bs ++ rest) name ≡ build.unit.procedures

  find_module : (n : ℕ) (bs : List Build) (us : List ModuleImage) (rest : List Module) (name : List ℕ) → ModulesAre bs us → AllKeepRules c bs → IsSome (module_from n us name) → Found n bs us rest name
  find_module n [] [] rest name h r s = absurd (cc)
  find_module n [] (u ∷ us) rest name h r s = absurd h
  find_module n (b ∷ bs) [] rest name h r s = absurd h
  find_module n (b ∷ bs) (u ∷ us) rest name h r s =
      let e : same name u.name ≡ bytes_eq name b.unit.name = same_is name u.name ∙ ap (bytes_eq name) h.0.name in
      go (same name u.name) refl e s (λ t. find_module (suc n) bs us rest name h.1 r.1 t)
    where
      go : (t : Bool) → same name u.name ≡ t → t ≡ bytes_eq name b.unit.name → IsSome (if t then Some n else module_from (suc n) us name) → (IsSome (module_from (suc n) us name) → Found (suc n) bs us rest name) → Found n (b ∷ bs) (u ∷ us) rest name
      go true e f s more = record {
        build = b;
        module_image = u;
        is = h.0;
        rules = r.0;
        named = sym (bytes_true name b.unit.name (sym f));
        there = ap (λ x. if x then Some u else find us name) e;
        number = ap (λ x. if x then Some n else module_from (suc n) us name) e ∙ ap (λ k. Some k) (let z : n ≡ n + 0 = omega arith in z) ∙ ap (λ x. Some (n + (if x then 0 else suc (module_number (units bs ++ rest) name)))) f;
        variables = ap (λ x. if x then module_held c.program b.unit else variables_in c.program (units bs ++ rest) name) (sym f);
        procedures = ap (λ x. if x then b.unit.procedures else procedures_in (units bs ++ rest) name) (sym f);
      }
      go false e f s more =
          let m = more s in
          record {
            build = m.build;
            module_image = m.module_image;
            is = m.is;
            rules = m.rules;
            named = m.named;
            there = ap (λ x. if x then Some u else find us name) e ∙ m.there;
            number = ap (λ x. if x then Some n else module_from (suc n) us name) e ∙ m.number ∙ ap (λ k. Some k) (let z : suc n + module_number (units bs ++ rest) name ≡ n + suc (module_number (units bs ++ rest) name) = omega arith in z) ∙ ap (λ x. Some (n + (if x then 0 else suc (module_number (units bs ++ rest) name)))) f;
            variables = ap (λ x. if x then module_held c.program b.unit else variables_in c.program (units bs ++ rest) name) (sym f) ∙ m.variables;
            procedures = ap (λ x. if x then b.unit.procedures else procedures_in (units bs ++ rest) name) (sym f) ∙ m.procedures;
          }

  -- LINKS

  some_module : (us : List ModuleImage) (o : Option ℕ) (x : List ℕ) → IsSome (named (image.variables_in (module_at us o)) x) → IsSome o
  some_module us None x s = s
  some_module us (Some n) x s = refl

  some_ref : (a b : Option ℕ) → IsSome (ref_of a b) → IsSome a × IsSome b
  some_ref (Some m) (Some p) s = (refl, refl)
  some_ref (Some m) None s = absurd (cc)
  some_ref None b s = absurd (cc)

  module _ (bs : List Build) (us : List ModuleImage) (rest : List Module) (whole : c.program ≡ units bs ++ rest) (are : ModulesAre bs us) (rules : AllKeepRules c bs) where
    pub variable_link : (l : Link) → IsSome (linked_variable us l) → or_zero (linked_variable us l) ≡ suc (module_offset c.program c.program l.«module» + slot (variables_in c.program c.program l.«module») l.name)
    variable_link l s =
        let f = find_module 0 bs us rest l.«module» are rules (some_module us (module_from 0 us l.«module») l.name s) in
        let b = f.build in
        let u = f.module_image in
        let here : image.variables_in (module_at us (module_from 0 us l.«module»)) ≡ map (λ v. (v.name, u.first + v.place)) (variables b.types b.unit) = ap image.variables_in (found us l.«module» ∙ f.there) ∙ f.is.variables in
        let numbered = order_numbered (λ v. v.name) (λ v. v.place) (variable_place (own b.types b.unit)) (λ a d. by_name a.name d.name) (seen_variables b.types b.unit b.unit.variables) (seen_numbered b.types b.unit b.unit.variables) in
        let is = named_is (λ v. v.name) (λ v. v.place) (variable_place (own b.types b.unit)) (λ n. u.first + n) (variables b.types b.unit) l.name numbered (subst (λ t. IsSome (named t l.name)) here s) in
        let place = globals_before b.types c.program f.rules.described b.unit.variables l.name in
        let first = f.is.first ∙ ap (λ x. suc (module_offset c.program c.program x)) f.named in
        let held = ap (λ p. variables_in c.program p l.«module») whole ∙ f.variables in
        ap (λ t. or_zero (named t l.name)) here ∙ ap or_zero is ∙ ap (λ n. n + variable_place (own b.types b.unit) l.name) first ∙ ap (λ n. suc (module_offset c.program c.program l.«module») + n) (place ∙ ap (λ t. slot t l.name) (sym held))
        ∙ (let z : suc (module_offset c.program c.program l.«module») + slot (variables_in c.program c.program l.«module») l.name ≡ suc (module_offset c.program c.program l.«module» + slot (variables_in c.program c.program l.«module») l.name) = omega arith in z)

    abbrev ref : ℕ → ℕ → ProcRef
    ref m p = record { «module» = m; proc = p }

    pub procedure_link : (l : Link) → IsSome (linked_procedure us l) → or_first (linked_procedure us l) ≡ ref (module_number c.program l.«module») (procedure_index (procedures_in c.program l.«module») l.name)
    procedure_link l s =
        let some = some_ref (module_from 0 us l.«module») (named (commands_in (module_at us (module_from 0 us l.«module»))) l.name) s in
        let f = find_module 0 bs us rest l.«module» are rules some.0 in
        let b = f.build in
        let here : commands_in (module_at us (module_from 0 us l.«module»)) ≡ map (λ x. (x.name, x.procedure)) (commands b.types b.unit) = ap commands_in (found us l.«module» ∙ f.there) ∙ f.is.commands in
        let numbered = order_numbered (λ x. x.name) (λ x. x.procedure) (procedure_index b.unit.procedures) (λ a d. by_name a.name d.name) (commands_among b.types b.unit b.unit.procedures 1) (commands_all_numbered b.types b.unit [] b.unit.procedures 1 refl (procedures_differ b.unit.procedures f.rules.different) (all_named b.types b.unit c b.unit.procedures f.rules.checked)) in
        let is = named_is (λ x. x.name) (λ x. x.procedure) (procedure_index b.unit.procedures) (λ n. n) (commands b.types b.unit) l.name numbered (subst (λ t. IsSome (named t l.name)) here some.1) in
        let number : module_from 0 us l.«module» ≡ Some (module_number c.program l.«module») = f.number ∙ ap (λ k. Some k) (let z : 0 + module_number (units bs ++ rest) l.«module» ≡ module_number (units bs ++ rest) l.«module» = omega arith in z) ∙ ap (λ p. Some (module_number p l.«module»)) (sym whole) in
        let held = ap (λ p. procedures_in p l.«module») whole ∙ f.procedures in
        ap (λ o. or_first (ref_of o (named (commands_in (module_at us (module_from 0 us l.«module»))) l.name))) number ∙ ap (λ t. or_first (ref_of (Some (module_number c.program l.«module»)) (named t l.name))) here ∙ ap (λ o. or_first (ref_of (Some (module_number c.program l.«module»)) o)) is ∙ ap (λ ps. ref (module_number c.program l.«module») (procedure_index ps l.name)) (sym held)
