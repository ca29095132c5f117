-- The names in the statements of a checked module.
use Rattle.std.proofs.Common.{◌≡◌, ℕ, zero, suc, arith, List, [], ◌∷◌, Bool, true, false, cond, Option, Some, None, map as each, refl, sym, ap, ◌∙◌, subst}
use Rattle.std.specs.Prelude.{bytes_eq, codes}
use Rattle.std.specs.List.{AllByRecursion, list_all}
use Rattle.std.specs.Option.{option_map}
use Rattle.std.proofs.lemmas.Bool.{false≢true, and_parts}
use Rattle.std.proofs.lemmas.Slice.Eq.{bytes_eq-Decides}
use Rattle.ob_tree.specs.declared.names.QName.{QName}
use Rattle.ob_tree.specs.declared.decl.Module.{Module as Tree}
use Rattle.ob_types.specs.declared.types.TypeRef.{TypeRef}
use Rattle.ob_types.specs.declared.types.TypeRef.TheVariants as ref
use Rattle.ob_types.specs.declared.desc.Desc.{Desc}
use Rattle.ob_types.specs.declared.desc.Desc.TheVariants as desc
use Rattle.ob_types.specs.declared.typed.TypedType.{TypedType}
use Rattle.ob_types.specs.declared.typed.TypedProcedure.{TypedProcedure}
use Rattle.ob_types.specs.declared.typed.TypedModule.{TypedModule}
use Rattle.ob_types.specs.Maps.{named_by}
use Rattle.ob_types.specs.Tests.{target_of, follow, target}
use Rattle.ob_types.specs.TypedSyntax.{Module, Procedure}
use Rattle.ob_types.specs.TypedView.{stmts_view, procedure_view, module_view}
use Rattle.ob_format.specs.Format.{text16}
use Rattle.ob_format.specs.Names.{name, object_name}
use Rattle.ob_layout.specs.LaidOut.{is_own, type_named, laid_type, laid_out, viewed}
use Rattle.ob_env.specs.Faces.{Face, described}
use Rattle.ob_env.specs.Fit.{first_unfit, is_held, steps_of}
use Rattle.ob_env.specs.Shown.{blank, shown}
use Rattle.ob_uses_roots.specs.Counts.{own_name}
use Rattle.ob_uses.specs.Closed.{is_among}
use Rattle.ob_uses.proofs.Searching.{itself, left_of, in_back}
use Rattle.ob_scheme.specs.Descriptions.{name_in}
use Rattle.ob_scheme.specs.Procedures.{body_of, within}
use Rattle.ob_rules.specs.Declarations.{checked}
use Rattle.law_names_distinct.specs.Distinct.{AreDistinct}
use Rattle.law_local_judged.specs.Agreement.{IsIn, AreIn}
use Rattle.law_local_files.specs.Tied.{IsTypeOf}
use Rattle.law_local_uses.specs.Settled.{core, NamesIn}
use Rattle.law_local_uses.specs.Held.{AreHeld, IsThere, SaysShown, ProcedureHeld, ModuleHeld}
use Rattle.law_local_uses.proofs.Modules.{module_tied}
use Rattle.law_local_uses.proofs.Laid.{laid_core, blank_core, blank_named, all_laid, found_in, IsFound, all_found}
use Rattle.law_links_names.specs.Mentions.{IsVariable, IsProcedure, Any, IsAmong, AreMentioned}
use Rattle.law_links_names.specs.Trees.{StmtsNamed}
use Rattle.law_links_names.proofs.Modules.{modules_mention}
use Rattle.law_links_types.specs.Trees.{IsRecordType, StmtsRecorded, ModuleRecorded}
use Rattle.law_links_types.specs.Told.{IsTold}
use Rattle.law_links_types.specs.Told as told
use Rattle.law_links_types.proofs.Modules.{modules_recorded}
use Rattle.law_spelling.specs.Coded.{BodyIsCoded, RecordIsCoded}
use Rattle.law_spelling.specs.Laws.{Text, IsSpelled}
use Rattle.law_spelling.proofs.Names.{described_fits}
use Rattle.law_spelling.proofs.Fit.{described_fit}
use Rattle.law_spelling_stmts.specs.Fits.{BodyFits}
use Rattle.law_spelling_stmts.specs.Laws.{AreCoded, AreFitting, NamesAreCoded}
use Rattle.law_spelling_stmts.proofs.Joined.{AreNames, stmts_coded}
use Rattle.law_spelling_stmts.proofs.Spelled.{shown_named}

-- ---- what a type is equated to

module _ (types : QName → Option Desc) (Held : QName → Type 0) (named : (q : QName) (d : Desc) → types q ≡ Some d → NamesIn Held d) where
  equated_in : (n : ℕ) (q : QName) → Held q → (o : Option Desc) → types q ≡ o → ((u : TypeRef) → IsIn Held u → IsIn Held (target types n u)) → IsIn Held (follow (target_of o) (ref.Named q) (λ u. target types n u))
  equated_in n q h (Some (desc.Alias m u)) e more = more u (named q (desc.Alias m u) e).0
  equated_in n q h None e more = h
  equated_in n q h (Some (desc.Const v)) e more = h
  equated_in n q h (Some (desc.Var m t)) e more = h
  equated_in n q h (Some (desc.Proc s)) e more = h
  equated_in n q h (Some (desc.Array m k t)) e more = h
  equated_in n q h (Some (desc.OpenArray m t)) e more = h
  equated_in n q h (Some (desc.Pointer m t)) e more = h
  equated_in n q h (Some (desc.ProcType m s)) e more = h
  equated_in n q h (Some (desc.Record r)) e more = h

  target_in : (n : ℕ) (t : TypeRef) → IsIn Held t → IsIn Held (target types n t)
  unfolding target
  target_in zero t h = h
  target_in (suc n) (ref.Basic b) h = tt
  target_in (suc n) (ref.Named q) h = equated_in n q h (types q) refl (λ u i. target_in n u i)

  name_held : (t : TypeRef) → IsIn Held t → (q : QName) → name_in t ≡ Some q → Held q
  name_held (ref.Basic b) h q e = absurd cc
  name_held (ref.Named p) h q e = let same : p ≡ q = cc in subst Held same h

-- ---- names of other modules

abbrev Foreign : List ℕ → QName → Type 0
Foreign unit q = bytes_eq q.«module» unit ≡ false → name.fits q.«module» × object_name.fits q.object

out_fits : name.fits (codes "Out") × object_name.fits (codes "String(1")
unfolding name object_name text16
out_fits = ((omega arith, refl), (omega arith, refl))

module _ (faces : List (Face Text)) (spelled : AllByRecursion IsSpelled faces) (fit : first_unfit faces ≡ None) (tree : Tree) (t : TypedModule) (e : checked (shown faces) tree ≡ Some t) (differ : AreDistinct (λ t. t.name) t.types) where
  abbrev M : Module
  M = laid_out (described faces) (module_view t)

  abbrev V : QName → Option Desc
  V = viewed (described faces) M

  abbrev Held : QName → Type 0
  Held q = Foreign t.name q

  abbrev own_q : List ℕ → QName
  own_q x = record { «module» = t.name; object = x }

  itself_eq : (x : List ℕ) → bytes_eq x x ≡ true
  itself_eq x = (bytes_eq-Decides x x).1 refl

  there : (q : QName) (d : Desc) → described faces q ≡ Some d → Held q
  there q d i k = let r = described_fits faces spelled q d i in (r.«module», r.object)

  held_in : (u : TypeRef) → is_held (described faces) (steps_of faces) u ≡ true → IsIn Held u
  held_in (ref.Basic b) h = tt
  held_in (ref.Named q) h = by (described faces q) refl h
    where
      by : (o : Option Desc) → described faces q ≡ o → is_held (λ p. o) (steps_of faces) (ref.Named q) ≡ true → Held q
      by None i h = absurd (false≢true h)
      by (Some d) i h = there q d i

  all_held : (us : List TypeRef) → list_all (is_held (described faces) (steps_of faces)) us ≡ true → AreIn Held us
  all_held [] h = tt
  all_held (u ∷ us) h = let p = and_parts (is_held (described faces) (steps_of faces) u) (list_all (is_held (described faces) (steps_of faces)) us) h in (held_in u p.0, all_held us p.1)

  described_named : (q : QName) (d : Desc) → described faces q ≡ Some d → NamesIn Held d
  described_named q d i = all_held (named_by d) (and_parts _ _ (described_fit faces fit q d i)).0

  shown_by : (q : QName) (o : Option Desc) → described faces q ≡ o → (d : Desc) → option_map blank o ≡ Some d → (a : Desc) × ((described faces q ≡ Some a) × (blank a ≡ d))
  shown_by q None i d k = absurd cc
  shown_by q (Some a) i d k = (a, (i, cc))

  held : AreHeld (shown faces) t.name Held
  held = record {
    own = λ x k. absurd (false≢true (sym k ∙ itself_eq t.name));
    exports = λ q d k. let a = shown_by q (described faces q) refl d k in (there q a.0 a.1.0, subst (NamesIn Held) a.1.1 (blank_named Held a.0 (described_named q a.0 a.1.0)));
    out = λ k. out_fits;
  }

  -- ---- what the view says

  says : SaysShown V t.name (shown faces)
  says q d other k =
      let a = shown_by q (described faces q) refl d k in
      (a.0, (ap (λ b. cond b (type_named M.types q.object) (described faces q)) other ∙ a.1.0, sym (blank_core a.0) ∙ ap core a.1.1))

  own_is : (s : TypedType) → IsFound (described faces) (module_view t) t.types s → V (own_q s.name) ≡ Some (laid_type (described faces) (module_view t) s).desc
  own_is s h = ap (λ b. cond b (type_named M.types s.name) (described faces (own_q s.name))) (itself_eq t.name) ∙ h

  all_there : (ts : List TypedType) → AllByRecursion (IsFound (described faces) (module_view t) t.types) ts → AllByRecursion (λ s. is_among (each (own_name (module_view t)) t.types) (own_q s.name) ≡ true) ts → AllByRecursion (IsThere V (IsTypeOf (module_view t)) t.name) ts
  all_there [] h k = tt
  all_there (s ∷ ts) h k = (record { says = ((laid_type (described faces) (module_view t) s).desc, (own_is s h.0, laid_core _ _ _ s.desc)); own = k.0 }, all_there ts h.1 k.1)

  among_behind : (q : QName) (qs : List QName) (ts : List TypedType) → AllByRecursion (λ s. is_among qs (own_q s.name) ≡ true) ts → AllByRecursion (λ s. is_among (q ∷ qs) (own_q s.name) ≡ true) ts
  among_behind q qs [] h = tt
  among_behind q qs (s ∷ ts) h = (in_back (q ∷ []) qs (own_q s.name) h.0, among_behind q qs ts h.1)

  all_among : (ts : List TypedType) → AllByRecursion (λ s. is_among (each (own_name (module_view t)) ts) (own_q s.name) ≡ true) ts
  all_among [] = tt
  all_among (s ∷ ts) = (left_of _ _ (itself (own_q s.name)), among_behind (own_q s.name) (each (own_name (module_view t)) ts) ts (all_among ts))

  module_is : ModuleHeld V (IsTypeOf (module_view t)) Held t
  module_is = module_tied (shown faces) V tree t e differ (IsTypeOf (module_view t)) Held held says (all_there t.types (all_found (described faces) (module_view t) t.types differ) (all_among t.types))

  view_named : (q : QName) (d : Desc) → V q ≡ Some d → NamesIn Held d
  view_named q d i = by (is_own (module_view t) q) i
    where
      by : (b : Bool) → cond b (type_named M.types q.object) (described faces q) ≡ Some d → NamesIn Held d
      by true i = found_in Held M.types (all_laid Held (described faces) (module_view t) t.types module_is.types) q.object d i
      by false i = described_named q d i

  -- ---- record types

  core_same : (d : Desc) → core d ≡ told.core d
  core_same (desc.Record r) = refl
  core_same (desc.Const v) = refl
  core_same (desc.Var m u) = refl
  core_same (desc.Proc s) = refl
  core_same (desc.Alias m u) = refl
  core_same (desc.Array m n u) = refl
  core_same (desc.OpenArray m u) = refl
  core_same (desc.Pointer m u) = refl
  core_same (desc.ProcType m s) = refl

  own_told : (ts : List TypedType) → AllByRecursion (IsFound (described faces) (module_view t) t.types) ts → AllByRecursion (λ s. IsTold V (own_q s.name) s.desc) ts
  own_told [] h = tt
  own_told (s ∷ ts) h = ((λ l. let d = (laid_type (described faces) (module_view t) s).desc in (d, (own_is s h.0, sym (core_same d) ∙ laid_core _ _ _ s.desc ∙ core_same s.desc))), own_told ts h.1)

  others_told : (q : QName) (d : Desc) → bytes_eq q.«module» t.name ≡ false → shown faces q ≡ Some d → IsTold V q d
  others_told q d other h = λ l. let a = says q d other h in (a.0, (a.1.0, sym (core_same a.0) ∙ a.1.1 ∙ core_same d))

  recorded : ModuleRecorded V t
  recorded = modules_recorded (shown faces) V tree t e differ (record { own = own_told t.types (all_found (described faces) (module_view t) t.types differ); others = others_told })

  mentioned : AreMentioned (shown faces) V t
  mentioned = modules_mention (shown faces) V tree t e

  -- ---- all names

  abbrev Var : QName → Type 0
  Var = IsVariable (shown faces) t.name (IsAmong t.mentioned.objects)

  abbrev Proc : QName → Type 0
  Proc = IsProcedure (shown faces) t.name (IsAmong t.mentioned.objects)

  record_coded : (p : Procedure) (q : QName) → IsRecordType V t.name q → RecordIsCoded (within V M p) q
  record_coded p q r k = there q (desc.Record r.of) (sym (ap (λ b. cond b (type_named M.types q.object) (described faces q)) k) ∙ r.is) k

  names : (p : Procedure) → AreNames (within V M p) Var Proc Held
  names p = record {
    variable = λ q h. shown_named faces spelled q (desc.Var h.mark h.of) h.is;
    procedure = λ q h. shown_named faces spelled q (desc.Proc h.signature) h.is;
    record_type = record_coded p;
    type = λ u h q i. name_held V Held view_named (target V 201 u) (target_in V Held view_named 201 u h) q i;
  }

  bodies_coded : (ps : List TypedProcedure) → AllByRecursion (ProcedureHeld V t.name (IsTypeOf (module_view t)) Held) ps → AllByRecursion (λ p. StmtsNamed V t.name Var Proc Any (stmts_view p.body)) ps → AllByRecursion (λ p. StmtsRecorded V t.name (stmts_view p.body)) ps → AllByRecursion (BodyFits V) (each procedure_view ps) → AllByRecursion (BodyIsCoded V M) (each procedure_view ps)
  bodies_coded [] h n r f = tt
  bodies_coded (p ∷ ps) h n r f = (
    record { at = f.0.at; body = stmts_coded (within V M (procedure_view p)) Var Proc Held (names (procedure_view p)) false (stmts_view p.body) h.0.body.held n.0 r.0 f.0.body },
    bodies_coded ps h.1 n.1 r.1 f.1,
  )

  coded : AreFitting V M → AreCoded V M
  coded f = record {
    bodies = bodies_coded t.procedures module_is.procedures mentioned.procedures recorded.procedures f.bodies;
    body = stmts_coded (within V M (body_of M)) Var Proc Held (names (body_of M)) false (stmts_view t.body) module_is.body.held mentioned.body recorded.body f.body;
  }

pub names_are_coded : NamesAreCoded
names_are_coded faces spelled fit tree m e differ f = coded faces spelled fit tree m e differ f
