-- Modules: all types that they make are whole, and those with bound procedures are among them.
use Rattle.std.proofs.Common.{◌≡◌, ◌⊎◌, ⊎_elim, inl, inr, refl, sym, ap, subst, ◌∙◌, ℕ, Bool, true, false, List, [], ◌∷◌, ◌++◌, map, Option, Some, None}
use Rattle.std.specs.Prelude.{bytes_eq}
use Rattle.std.specs.List.{AllByRecursion, filter_map}
use Rattle.std.proofs.lemmas.Bool.{false≢true}
use Rattle.ob_tree.specs.declared.names.QName.{QName}
use Rattle.ob_tree.specs.declared.ident.Ident.{Ident}
use Rattle.ob_tree.specs.declared.ident.Import.{Import}
use Rattle.ob_tree.specs.declared.decl.Decl.{Decl, roll-Decl, map-Decl}
use Rattle.ob_tree.specs.declared.decl.Decl.TheOpen.{Decl-F}
use Rattle.ob_tree.specs.declared.decl.Decl.TheFolds.{ind-Decl, fold-roll-Decl}
use Rattle.ob_tree.specs.declared.decl.Module.{Module as Tree}
use Rattle.ob_types.specs.declared.desc.Desc.{Desc}
use Rattle.ob_types.specs.declared.typed.TypedType.{TypedType}
use Rattle.ob_rules.specs.declared.broken.Broken.{Broken}
use Rattle.ob_rules.specs.declared.entity.Known.{Known}
use Rattle.ob_rules.specs.declared.broken.Rule.TheVariants as rule
use Rattle.ob_rules.specs.Judged.{notes_if}
use Rattle.ob_rules.specs.Names.{Around, found_in_scope, predeclared, is_out}
use Rattle.ob_rules.specs.Expressions.{phrase_of}
use Rattle.ob_rules.specs.Types.{written, is_module_level}
use Rattle.ob_rules.specs.Statements.{Judging, judging}
use Rattle.ob_rules.specs.Headings.{reversed}
use Rattle.ob_rules.specs.Declarations.{Part, Declared, Declaration, declare_if, in_order, headings_in_order, plain_of, procedure_of, type_name_of, binding_at, block, decl_rule, declaration, is_system, target_of, import_entity, import_declared, imports_declared, twice, around_module, name_judged, module_part}
use Rattle.law_typing_forms.specs.Said.{IsOneOf}
use Rattle.law_names_procedures.proofs.Judges.{not_empty}
use Rattle.law_names_procedures.proofs.Knowing.{IsKnown, AreKnown}
use Rattle.law_local_module.proofs.Expressions.{expr_nil}
use Rattle.law_body_context.specs.Knows.{HasName, EntityStands}
use Rattle.law_body_context.proofs.Lists.{one_right, one_joined}
use Rattle.law_body_context.proofs.Standing.{Lies}
use Rattle.law_body_context.proofs.Binding.{IsFrom, binding_changes}
use Rattle.law_acyclic.specs.Laws.{IsApart}
use Rattle.law_acyclic.specs.Steady.{IsClosed}
use Rattle.law_acyclic.proofs.Firm.{AnyValue}
use Rattle.law_acyclic.proofs.Written.{written_firm, written_parameters_firm}
use Rattle.law_acyclic.proofs.Plain.{constant_firm, type_firm, variables_firm}
use Rattle.law_acyclic.proofs.Blocks.{AreOne, W, Start, VariableIn, Adds, GoodDeclaration, AreGood, w, own_within, bound_is, block_adds}
use Rattle.law_lists.proofs.Lists.{all_both, back_empty, front_empty}

module _ (shown : QName → Option Desc) (unit : List ℕ) (kept : IsClosed shown) (apart : IsApart shown unit) (out : is_out unit ≡ false) (In : TypedType → Type 0) (F : List TypedType) (among : (s : TypedType) → IsOneOf F s → In s) (named : (s : TypedType) → In s → HasName F s.name) (one : AreOne F) where
  -- ---- declarations, by induction

  abbrev Good : Declaration → Type 0
  Good d = GoodDeclaration shown unit kept apart out In F among named one d

  abbrev PD : Decl → Type 0
  PD x = Good (declaration x)

  abbrev SD : Type 0
  SD = (x : Decl) × PD x

  all_good : (xs : List SD) → AreGood shown unit kept apart out In F among named one (map declaration (map (λ (x : SD). x.0) xs))
  all_good [] = tt
  all_good (x ∷ xs) = (x.1, all_good xs)

  layer : (x : Decl-F Decl) → Good (decl_rule (map-Decl Decl Declaration declaration x)) → PD (roll-Decl x)
  layer x h = subst Good (sym (fold-roll-Decl Declaration decl_rule x)) h

  decl_cases : (y : Decl-F SD) → PD (roll-Decl (map-Decl SD Decl (λ x. x.0) y))
  decl_cases (Decl-F.Constant d x) = layer (Decl-F.Constant d x) (λ path names. constant_firm unit shown out path names d (phrase_of x) (λ u. (expr_nil u x).value))
  decl_cases (Decl-F.NamedType d n) = layer (Decl-F.NamedType d n) (λ path names. type_firm unit shown out path names d (written n) (written_firm unit shown out path names n))
  decl_cases (Decl-F.Variables ds n) = layer (Decl-F.Variables ds n) (λ path names. variables_firm unit shown out path names ds (written n) (written_firm unit shown out path names n))
  decl_cases (Decl-F.Procedure h ds body closing) = layer (Decl-F.Procedure h (map (λ (x : SD). x.0) ds) body closing) (record {
    sections = λ path names. written_parameters_firm unit shown out path names h.parameters;
    inside = λ u s level e l. block_adds shown unit kept apart out In F among named one (map declaration (map (λ (x : SD). x.0) ds)) (all_good ds) (map judging body) u s e l (λ y. absurd (false≢true (sym level ∙ y)));
  })
  decl_cases (Decl-F.Forward h) = layer (Decl-F.Forward h) (record {
    sections = λ path names. written_parameters_firm unit shown out path names h.parameters;
    inside = λ u s level e l. record { types = tt; bound = tt; variables = tt };
  })

  decl_good : (x : Decl) → PD x
  decl_good = ind-Decl PD (λ x y is. subst (λ z. PD (roll-Decl z)) is (decl_cases y))

  pub decls_good : (xs : List Decl) → AreGood shown unit kept apart out In F among named one (map declaration xs)
  decls_good [] = tt
  decls_good (x ∷ xs) = (decl_good x, decls_good xs)

-- ---- imports

module _ (shown : QName → Option Desc) (unit : List ℕ) where
  abbrev EK : Known → Type 0
  EK k = EntityStands AnyValue unit shown [] k.what

  -- only more is known behind imports
  pub record AreImports (u : Around) (d : Declared) : Type 0 where
    pub more : List Known
    pub around : d.around ≡ record u { known = more }
    pub known : AreKnown more
    pub entities : AllByRecursion EK more
    pub types : d.part.contents.types ≡ []
    pub bound : d.part.contents.bound ≡ []
    pub variables : d.part.contents.variables ≡ []

  import_is : (b : Bool) (t : Ident) (bs : List Broken) → bytes_eq t.name unit ≡ false → (notes_if b rule.ReservedModule t.pos).broken ++ bs ≡ [] → IsKnown (import_entity b t) × EntityStands AnyValue unit shown [] (import_entity b t)
  import_is true t bs h e = not_empty _ bs e
  import_is false t bs h e = (tt, h)

  declare_is : (o : Option Known) (u : Around) (x : Ident) (b : Bool) (t : Ident) → IsKnown (import_entity b t) × EntityStands AnyValue unit shown [] (import_entity b t) → AreKnown u.known → AllByRecursion EK u.known → (declare_if o u x (import_entity b t) ≡ record u { known = (declare_if o u x (import_entity b t)).known }) × (AreKnown (declare_if o u x (import_entity b t)).known × AllByRecursion EK (declare_if o u x (import_entity b t)).known)
  declare_is (Some k) u x b t h s e = (refl, (s, e))
  declare_is None u x b t h s e = (refl, ((h.0, s), (h.1, e)))

  pub imports_are : (is : List Import) → AllByRecursion (λ i. bytes_eq (target_of i).name unit ≡ false) is → (u : Around) → AreKnown u.known → AllByRecursion EK u.known → (in_order (map (λ i. import_declared i (target_of i)) is) u).part.notes.broken ≡ [] → AreImports u (in_order (map (λ i. import_declared i (target_of i)) is) u)
  imports_are [] h u s k e = record { more = u.known; around = refl; known = s; entities = k; types = refl; bound = refl; variables = refl }
  imports_are (i ∷ is) h u s k e =
      let t = target_of i in
      let a = import_declared i t u in
      let rest = in_order (map (λ i. import_declared i (target_of i)) is) a.around in
      let b = is_system t.name in
      let one = declare_is (found_in_scope u i.ident.name) u i.ident b t (import_is b t (twice u i.ident).broken h.0 (front_empty a.part.notes.broken rest.part.notes.broken e)) s k in
      let r = imports_are is h.1 a.around one.1.0 one.1.1 (back_empty a.part.notes.broken rest.part.notes.broken e) in
      record { more = r.more; around = r.around ∙ ap (λ (z : Around). record z { known = r.more }) one.0; known = r.known; entities = r.entities; types = r.types; bound = r.bound; variables = r.variables }

-- ---- the module

predeclared_known : AreKnown predeclared
predeclared_known = (tt, (tt, (tt, (tt, (tt, (tt, (tt, (tt, (tt, (tt, (tt, (tt, (tt, (tt, (tt, (tt, (tt, (tt, (tt, (tt, (tt, (tt, (tt, (tt, (tt, (tt, (tt, (tt, (tt, (tt, (tt, tt)))))))))))))))))))))))))))))))

predeclared_stand : (unit : List ℕ) (shown : QName → Option Desc) → AllByRecursion (EK shown unit) predeclared
predeclared_stand unit shown = (tt, (tt, (tt, (tt, (tt, (tt, (tt, (tt, (tt, (tt, (tt, (tt, (tt, (tt, (tt, (tt, (tt, (tt, (tt, (tt, (tt, (tt, (tt, (tt, (tt, (tt, (tt, (tt, (tt, (tt, (tt, tt)))))))))))))))))))))))))))))))

module _ (shown : QName → Option Desc) (tree : Tree) (kept : IsClosed shown) (apart : IsApart shown tree.name.name) (out : is_out tree.name.name ≡ false) (imports : AllByRecursion (λ i. bytes_eq (target_of i).name tree.name.name ≡ false) tree.imports) (e : (module_part shown tree).notes.broken ≡ []) (one : AreOne (module_part shown tree).contents.types) where
  abbrev unit : List ℕ
  unit = tree.name.name

  abbrev ds : List Declaration
  ds = map declaration tree.decls

  abbrev J : List Judging
  J = map judging tree.body

  abbrev d : Declared
  d = imports_declared tree.imports (around_module shown unit ds)

  abbrev b : Part
  b = block ds J d.around

  abbrev F : List TypedType
  F = (module_part shown tree).contents.types

  abbrev X : List TypedType
  X = (module_part shown tree).contents.bound

  eF : d.part.notes.broken ++ b.notes.broken ≡ []
  eF = back_empty (name_judged tree.name tree.closing).broken (d.part.notes.broken ++ b.notes.broken) e

  eb : b.notes.broken ≡ []
  eb = back_empty d.part.notes.broken b.notes.broken eF

  are : AreImports shown unit (around_module shown unit ds) d
  are = imports_are shown unit tree.imports imports (around_module shown unit ds) predeclared_known (predeclared_stand unit shown) (front_empty d.part.notes.broken b.notes.broken eF)

  lies : Lies b.contents.types F
  lies t i = one_right d.part.contents.types b.contents.types t i

  types_back : Lies F b.contents.types
  types_back t i = ⊎_elim (λ k. absurd (subst (λ ts. IsOneOf ts t) are.types k)) (λ k. k) (one_joined d.part.contents.types b.contents.types t i)

  bound_back : Lies X b.contents.bound
  bound_back t i = ⊎_elim (λ k. absurd (subst (λ ts. IsOneOf ts t) are.bound k)) (λ k. k) (one_joined d.part.contents.bound b.contents.bound t i)

  module _ (In : TypedType → Type 0) (among : (s : TypedType) → IsOneOf F s → In s) (named : (s : TypedType) → In s → HasName F s.name) where
    abbrev St : Around → Type 0
    St u = Start shown unit kept apart out In F among named one u

    pub start : St d.around
    start = subst St (sym are.around) (record { knows = record { unit_is = refl; shown_is = refl; own = tt; known = are.entities }; sound = are.known; whole = tt; within = λ s i. absurd i })

    pub good : AreGood shown unit kept apart out In F among named one ds
    good = decls_good shown unit kept apart out In F among named one tree.decls

  -- first, what is known at module level is made by the module
  all_named : (s : TypedType) → IsOneOf F s → HasName F s.name
  all_named s i = (s, (i, refl))

  abbrev heads : Around
  heads = w shown unit kept apart out (IsOneOf F) F (λ s i. i) all_named one ds (good (IsOneOf F) (λ s i. i) all_named) J d.around (start (IsOneOf F) (λ s i. i) all_named) eb lies

  heads_lie : Lies heads.own F
  heads_lie s i = own_within shown unit kept apart out (IsOneOf F) F (λ s i. i) all_named one ds (good (IsOneOf F) (λ s i. i) all_named) J d.around (start (IsOneOf F) (λ s i. i) all_named) eb lies s i

  abbrev bound_own : List TypedType
  bound_own = (binding_at (is_module_level d.around) heads (reversed (headings_in_order (filter_map procedure_of ds) (record { around = (in_order (filter_map plain_of ds) (record d.around { later_types = filter_map type_name_of ds })).around; before = [] })).before)).own

  bound_lie : Lies X bound_own
  bound_lie s i = bound_is shown unit kept apart out (IsOneOf F) F (λ s i. i) all_named one ds (good (IsOneOf F) (λ s i. i) all_named) J d.around (start (IsOneOf F) (λ s i. i) all_named) eb lies s (bound_back s i)

  -- what is bound is one of the types, with more bound procedures
  pub bound_from : (s : TypedType) → IsOneOf X s → IsFrom AnyValue F s
  bound_from s i =
      let r = (binding_changes AnyValue (is_module_level d.around) heads _).from s (bound_lie s i) in
      (r.0, (heads_lie r.0 r.1.0, r.1.1))

  pub bound_one : AreOne X
  bound_one a b i j n = (binding_changes AnyValue (is_module_level d.around) heads _).one (λ x y k l m. one x y (heads_lie x k) (heads_lie y l) m) a b (bound_lie a i) (bound_lie b j) n

  -- all that is known in the module
  abbrev pub Made : TypedType → Type 0
  Made s = IsOneOf F s ⊎ IsOneOf X s

  pub made_named : (s : TypedType) → Made s → HasName F s.name
  made_named s (inl i) = all_named s i
  made_named s (inr i) = let r = bound_from s i in (r.0, (r.1.0, r.1.1.0))

  pub module_adds : Adds shown unit kept apart out Made F (λ s i. inl i) made_named one b.contents
  module_adds = block_adds shown unit kept apart out Made F (λ s i. inl i) made_named one ds (good Made (λ s i. inl i) made_named) J d.around (start Made (λ s i. inl i) made_named) eb lies (λ y s i. inr (one_right d.part.contents.bound b.contents.bound s i))

  abbrev pub Whole : TypedType → Type 0
  Whole s = W shown unit kept apart out Made F (λ s i. inl i) made_named one [] F s

  pub types_whole : AllByRecursion Whole F
  types_whole = all_both Whole d.part.contents.types b.contents.types (subst (AllByRecursion Whole) (sym are.types) tt) module_adds.types

  pub bound_whole : AllByRecursion Whole X
  bound_whole = all_both Whole d.part.contents.bound b.contents.bound (subst (AllByRecursion Whole) (sym are.bound) tt) module_adds.bound

  pub variables_whole : AllByRecursion (VariableIn shown unit kept apart out Made F (λ s i. inl i) made_named one) (module_part shown tree).contents.variables
  variables_whole = all_both (VariableIn shown unit kept apart out Made F (λ s i. inl i) made_named one) d.part.contents.variables b.contents.variables (subst (AllByRecursion (VariableIn shown unit kept apart out Made F (λ s i. inl i) made_named one)) (sym are.variables) tt) module_adds.variables
