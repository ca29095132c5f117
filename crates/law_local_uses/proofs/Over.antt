-- A checked module over the interfaces that it was checked against.
use Rattle.std.proofs.Common.{◌≡◌, ℕ, List, [], ◌∷◌, Bool, true, false, cond, Option, Some, None, map as each, refl, sym, ap, ◌∙◌, subst}
use Rattle.std.specs.Prelude.{bytes_eq, not, ◌&&◌, IsSome, codes}
use Rattle.std.specs.List.{AllByRecursion}
use Rattle.std.specs.Option.{option_map}
use Rattle.std.proofs.lemmas.Slice.Eq.{bytes_eq-Decides}
use Rattle.ob_tree.specs.declared.names.QName.{QName}
use Rattle.ob_tree.specs.declared.decl.Module.{Module as Tree}
use Rattle.ob_types.specs.declared.types.TypeRef.{TypeRef}
use Rattle.ob_types.specs.declared.types.TypeRef.TheVariants as ref
use Rattle.ob_types.specs.declared.desc.Desc.{Desc}
use Rattle.ob_types.specs.declared.typed.TypedType.{TypedType}
use Rattle.ob_types.specs.declared.typed.TypedProcedure.{TypedProcedure}
use Rattle.ob_types.specs.declared.typed.TypedModule.{TypedModule}
use Rattle.ob_types.specs.Maps.{named_by, IsHeld}
use Rattle.ob_types.specs.Relations.{IsGrounded}
use Rattle.ob_types.specs.TypedSyntax.{Module}
use Rattle.ob_types.specs.TypedView.{procedure_view, module_view}
use Rattle.ob_layout.specs.LaidOut.{is_own, type_named, laid_type}
use Rattle.ob_env.specs.Faces.{Face, described}
use Rattle.ob_env.specs.Shown.{blank, shown}
use Rattle.ob_uses_roots.specs.Counts.{Count, Shapes, Layouts, own_name, counts_of_module}
use Rattle.ob_uses_roots.specs.Noted.{shape_starts}
use Rattle.ob_uses.specs.declared.way.Way.TheVariants as way
use Rattle.ob_uses.specs.Uses.{is_imported, near_types}
use Rattle.ob_uses.specs.Closed.{is_among, of_found}
use Rattle.ob_uses.specs.Ways.{desc_leads}
use Rattle.ob_uses.specs.Reaching.{first, onward}
use Rattle.ob_uses.proofs.Searching.{itself, left_of, in_back}
use Rattle.ob_rules.specs.Names.{out_string}
use Rattle.ob_rules.specs.Declarations.{checked}
use Rattle.law_names_distinct.specs.Distinct.{AreDistinct}
use Rattle.law_local_judged.specs.Agreement.{IsIn, AreIn}
use Rattle.law_local_judged.specs.Said.{CountsIn}
use Rattle.law_local_files.specs.Agreeing.{IsNear}
use Rattle.law_local_files.specs.Laws.{Text, over, view}
use Rattle.law_local_files.specs.Tied.{IsTypeOf, ProcedureTied}
use Rattle.law_local_uses.specs.Settled.{core, NamesIn}
use Rattle.law_local_uses.proofs.Chains.{among_on, near_named}
use Rattle.law_local_uses.specs.Held.{AreHeld, IsThere, SaysShown, ProcedureHeld, ModuleHeld}
use Rattle.law_local_uses.proofs.Modules.{module_tied}
use Rattle.law_local_uses.specs.TyingLaws.{IsTiedOver, ModulesTie}
use Rattle.law_local_uses.proofs.Laid.{laid_core, blank_core, blank_named, all_laid, found_in, IsFound, all_found}
use Rattle.law_local_uses.proofs.Counted.{module_count}

-- names whose shapes count are among those of the counts
counted_name : (P : QName → Type 0) (cs : List Count) → CountsIn P cs → AreIn P (shape_starts cs)
counted_name P [] h = tt
counted_name P (Shapes t ∷ cs) h = (h.0, counted_name P cs h.1)
counted_name P (Layouts t ∷ cs) h = counted_name P cs h

-- what is no name of the module and not of Out
false_here : (a b : Bool) → a ≡ true → (not a && b) ≡ true → ⊥
false_here true b e i = absurd cc
false_here false b e i = absurd cc

false_out : (a b : Bool) → b ≡ true → (a && not b) ≡ true → ⊥
false_out true true e i = absurd cc
false_out false b e i = absurd cc
false_out true false e i = absurd cc

module _ (faces : List (Face Text)) (tree : Tree) (t : TypedModule) (e : checked (shown faces) tree ≡ Some t) (grounded : IsGrounded (described faces)) (differ : AreDistinct (λ t. t.name) t.types) where
  abbrev M : Module
  M = module_view t

  abbrev V : QName → Option Desc
  V = view faces (module_view t)

  -- an object of another module is there
  abbrev Held : QName → Type 0
  Held q = is_imported (module_view t) q ≡ true → IsSome (described faces q)

  abbrev own_q : List ℕ → QName
  own_q x = record { «module» = t.name; object = x }

  itself_eq : (x : List ℕ) → bytes_eq x x ≡ true
  itself_eq x = (bytes_eq-Decides x x).1 refl

  -- ---- what is held

  there : (q : QName) (d : Desc) → described faces q ≡ Some d → Held q
  there q d i k = subst IsSome (sym i) refl

  held_in : (u : TypeRef) → IsHeld (described faces) u → IsIn Held u
  held_in (ref.Basic b) h = tt
  held_in (ref.Named q) h = by (described faces q) refl h
    where
      by : (o : Option Desc) → described faces q ≡ o → IsHeld (λ p. o) (ref.Named q) → Held q
      by None i h = absurd h
      by (Some d) i h = there q d i

  all_held : (us : List TypeRef) → AllByRecursion (λ u. IsHeld (described faces) u) us → AreIn Held us
  all_held [] h = tt
  all_held (u ∷ us) h = (held_in u h.0, all_held us h.1)

  described_named : (q : QName) (d : Desc) → described faces q ≡ Some d → NamesIn Held d
  described_named q d i = all_held (named_by d) (grounded.held q d i)

  own_held : (x : List ℕ) → Held (own_q x)
  own_held x k = absurd (false_here (bytes_eq t.name t.name) _ (itself_eq t.name) k)

  shown_by : (q : QName) (o : Option Desc) → described faces q ≡ o → (d : Desc) → option_map blank o ≡ Some d → (a : Desc) × ((described faces q ≡ Some a) × (blank a ≡ d))
  shown_by q None i d k = absurd cc
  shown_by q (Some a) i d k = (a, (i, cc))

  held : AreHeld (shown faces) t.name Held
  held = record {
    own = own_held;
    exports = λ q d k. let a = shown_by q (described faces q) refl d k in (there q a.0 a.1.0, subst (NamesIn Held) a.1.1 (blank_named Held a.0 (described_named q a.0 a.1.0)));
    out = λ k. absurd (false_out (not (is_own (module_view t) out_string)) (bytes_eq (codes "Out") (codes "Out")) (itself_eq (codes "Out")) k);
  }

  -- ---- what the view says

  says : SaysShown V t.name (shown faces)
  says q d other k =
      let a = shown_by q (described faces q) refl d k in
      (a.0, (ap (λ b. cond b (type_named (over faces (module_view t)).types q.object) (described faces q)) other ∙ a.1.0, sym (blank_core a.0) ∙ ap core a.1.1))

  all_there : (ts : List TypedType) → AllByRecursion (IsFound (described faces) (module_view t) t.types) ts → AllByRecursion (λ s. is_among (each (own_name (module_view t)) t.types) (own_q s.name) ≡ true) ts → AllByRecursion (IsThere V (IsTypeOf (module_view t)) t.name) ts
  all_there [] h k = tt
  all_there (s ∷ ts) h k = (
    record {
      says = ((laid_type (described faces) (module_view t) s).desc, (ap (λ b. cond b (type_named (over faces (module_view t)).types s.name) (described faces (own_q s.name))) (itself_eq t.name) ∙ h.0, laid_core _ _ _ s.desc));
      own = k.0;
    },
    all_there ts h.1 k.1,
  )

  among_behind : (q : QName) (qs : List QName) (ts : List TypedType) → AllByRecursion (λ s. is_among qs (own_q s.name) ≡ true) ts → AllByRecursion (λ s. is_among (q ∷ qs) (own_q s.name) ≡ true) ts
  among_behind q qs [] h = tt
  among_behind q qs (s ∷ ts) h = (in_back (q ∷ []) qs (own_q s.name) h.0, among_behind q qs ts h.1)

  all_among : (ts : List TypedType) → AllByRecursion (λ s. is_among (each (own_name (module_view t)) ts) (own_q s.name) ≡ true) ts
  all_among [] = tt
  all_among (s ∷ ts) = (left_of _ _ (itself (own_q s.name)), among_behind (own_q s.name) (each (own_name (module_view t)) ts) ts (all_among ts))

  module_is : ModuleHeld V (IsTypeOf (module_view t)) Held t
  module_is = module_tied (shown faces) V tree t e differ (IsTypeOf (module_view t)) Held held says (all_there t.types (all_found (described faces) (module_view t) t.types differ) (all_among t.types))

  -- ---- tied

  procedures_tied : (ps : List TypedProcedure) → AllByRecursion (ProcedureHeld V t.name (IsTypeOf (module_view t)) Held) ps → AllByRecursion (ProcedureTied V t.name (IsTypeOf (module_view t))) (each procedure_view ps)
  procedures_tied [] h = tt
  procedures_tied (p ∷ ps) h = (record { binding = h.0.binding; body = h.0.body.tied }, procedures_tied ps h.1)

  -- ---- near

  view_named : (q : QName) (d : Desc) → V q ≡ Some d → NamesIn Held d
  view_named q d i = by (is_own (module_view t) q) i
    where
      by : (b : Bool) → cond b (type_named (over faces (module_view t)).types q.object) (described faces q) ≡ Some d → NamesIn Held d
      by true i = found_in Held (over faces (module_view t)).types (all_laid Held (described faces) (module_view t) t.types module_is.types) q.object d i
      by false i = described_named q d i

  counted : CountsIn Held (counts_of_module V (over faces (module_view t)))
  counted = module_count Held V view_named V (IsTypeOf (module_view t)) t module_is own_held (over faces (module_view t)).types (all_laid Held (described faces) (module_view t) t.types module_is.types)

  near : (q : QName) → IsNear V (over faces (module_view t)) q → Held q
  near q (first i) = among_on Held (shape_starts (counts_of_module V (over faces (module_view t)))) (counted_name Held (counts_of_module V (over faces (module_view t))) counted) q i
  near q (onward {p} h i) = by (V p) refl i
    where
      by : (o : Option Desc) → V p ≡ o → is_among (of_found (desc_leads way.Near t.name p) o) q ≡ true → Held q
      by None k i = absurd cc
      by (Some d) k i = among_on Held (near_types d) (near_named Held d (view_named p d k)) q i

  pub tied_over : IsTiedOver faces (module_view t)
  tied_over = record {
    tied = record { procedures = procedures_tied t.procedures module_is.procedures; body = module_is.body.tied };
    held = λ q h i. near q h i;
  }

pub modules_tie : ModulesTie
modules_tie faces tree m e grounded differ = tied_over faces tree m e grounded differ
