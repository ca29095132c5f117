-- Headings, where nothing around is broken: each that breaks no rule has its parameters.
use Rattle.std.proofs.Common.{◌≡◌, refl, sym, ap, ◌∙◌, subst, ℕ, Bool, true, false, List, [], ◌∷◌, ◌++◌, Option, Some, None, inl, codes}
use Rattle.std.specs.Prelude.{is_some}
use Rattle.std.specs.List.{AllByRecursion}
use Rattle.ob_tree.specs.declared.names.QName.{QName}
use Rattle.ob_types.specs.declared.types.Signature.{Signature}
use Rattle.ob_rules.specs.Names.{Around, in_unit}
use Rattle.ob_rules.specs.Types.{Parameters, with_types, is_module_level, nothing}
use Rattle.ob_rules.specs.Headings.{Head, Heads, BoundAs, path_by, head_of, entity_as, head_entity, name_twice, declared_head, knows_procedure, known_behind, types_of, add_heading}
use Rattle.ob_rules.specs.Declarations.{Declared, Written_procedure, around_body, headings_in_order}
use Rattle.law_typing_forms.specs.Said.{IsOneOf}
use Rattle.law_names_procedures.specs.Procedures.{ShowBases}
use Rattle.law_names_procedures.proofs.Judges.{Has, has_more}
use Rattle.law_names_procedures.proofs.Knowing.{IsKnown, AreKnown}
use Rattle.law_names_procedures.proofs.Typings.{AreWellSections}
use Rattle.law_names_procedures.proofs.Points.{front_covers, PointsWell, Points, points_alike}
use Rattle.law_names_procedures.proofs.Plain.{OrderIs}
use Rattle.law_names_procedures.proofs.Apart.{IsPlain}
use Rattle.law_names_procedures.proofs.Headings.{AreBased, more_based, known_based, IsHead, head_good}
use Rattle.law_names_procedures.proofs.Sequences.{types_pointed, not_twice}
use Rattle.law_body_context.proofs.Headings.{IsUnbroken, stays_before}
use Rattle.law_lists.proofs.Lists.{all_both}

-- no declaration that is known broke a rule; and where a module begins no type is known, and the bases of pointers are shown
pub record IsQuiet (u : Around) : Type 0 where
  pub known : AreKnown u.known
  pub begins : is_module_level u ≡ true → (u.own ≡ []) × ShowBases u.shown u.unit

-- behind the declarations of constants, types and variables, and behind headings
pub record AreQuiet (u : Around) : Type 0 where
  pub known : AreKnown u.known
  pub based : is_module_level u ≡ true → AreBased u

-- the parts of a heading are those of a text
pub record IsWellHeading (p : Written_procedure) : Type 0 where
  pub sections : AreWellSections p.heading.parameters.sections
  pub plain : IsPlain p.heading.name.ident.name

-- a heading with its parameters, under that path
pub record IsQuietHead (path : List ℕ) (h : Head) : Type 0 where
  pub parameters : Has (λ (p : Parameters). Unit {0}) h.parameters
  pub path_is : h.is_bound ≡ false → h.path ≡ path ++ h.name
  pub known : AreKnown (h.inside ++ h.known)

-- behind the types of a sequence all bases are there
pub quiet_behind : (names : List (List ℕ)) (u : Around) (d : Declared) → IsQuiet u → OrderIs names (record u { later_types = names }) d → AreQuiet d.around
quiet_behind names u d q o =
    let w : Around = record u { later_types = names; known = o.more; own = o.made ++ u.own } in
    subst AreQuiet (sym o.around) (let r : AreQuiet w = record { known = o.known; based = λ l. based l } in r)
  where
    based : is_module_level u ≡ true → AreBased (let z : Around = record u { later_types = names; known = o.more; own = o.made ++ u.own } in z)
    based l =
        let v : Around = record u { later_types = names } in
        let w : Around = record u { later_types = names; known = o.more; own = o.made ++ u.own } in
        let b = q.begins l in
        record {
          pointed = all_both (λ t. PointsWell w t.desc) o.made u.own (points_alike (with_types v o.made) w (record { unit = refl; shown = refl; own = refl; later_types = refl; path = refl }) o.made o.points) (subst (λ ts. AllByRecursion (λ t. PointsWell w t.desc) ts) (sym b.0) tt);
          later = λ x e. front_covers o.made u.own (u.path ++ x) (o.named x e);
          shown = b.1;
        }

-- inside it nothing is broken either
no_level : (x : List ℕ) → nothing (x ++ codes "/") ≡ false
no_level [] = refl
no_level (c ∷ x) = refl

pub inside_quiet : (path : List ℕ) (u : Around) (h : Head) → IsQuietHead path h → IsQuiet (around_body u h)
inside_quiet path u h q = record { known = q.known; begins = λ e. let bad : false ≡ true = sym (no_level h.path) ∙ e in absurd cc }

entity_known : (f : Bool) (q : QName) (s : Signature) → IsKnown (entity_as f q s)
entity_known true q s = tt
entity_known false q s = tt

head_known : (u : Around) (d : Head) (o : Option Parameters) → Has (λ (p : Parameters). Unit {0}) o → IsKnown (head_entity u d o)
head_known u d None h = absurd h
head_known u d (Some p) h = entity_known d.forward (in_unit u d.path) p.signature

not_bound : (o : Option BoundAs) → is_some o ≡ false → o ≡ None
not_bound None e = refl
not_bound (Some b) e = absurd cc

module _ (path : List ℕ) where
  procedure_quiet : (v : Around) → AreQuiet v → v.path ≡ path → (d : Head) → Has (λ (p : Parameters). Unit {0}) d.parameters → (b : Bool) → AreQuiet (knows_procedure v d b) × ((knows_procedure v d b).path ≡ path)
  procedure_quiet v q p d h true = (q, p)
  procedure_quiet v q p d h false = (record { known = (head_known v d d.parameters h, q.known); based = λ e. known_based v (record { name = d.name; scope = v.scope; what = head_entity v d d.parameters } ∷ v.known) (q.based e) }, p)

  -- a heading that is declared once
  declared_quiet : (u v : Around) (d : Head) → IsHead u d → u.path ≡ path → (t : Bool) → t ≡ false → AreKnown (known_behind v t d).known → IsQuietHead path (declared_head t d (known_behind v t d))
  declared_quiet u v d i p true e k = absurd cc
  declared_quiet u v d i p false e k = record {
    parameters = has_more (λ p. Points u p.made) (λ p. Unit {0}) d.parameters (λ p h. tt) i.parameters;
    path_is = λ f. i.path ∙ ap (λ o. u.path ++ path_by (Some o) d.name) (not_bound d.bound (i.bound ∙ f)) ∙ ap (λ x. x ++ d.name) p;
    known = all_both (λ k. IsKnown k.what) d.inside (known_behind v false d).known i.inside k;
  }

  behind_quiet : (v : Around) → AreQuiet v → v.path ≡ path → (d : Head) → Has (λ (p : Parameters). Unit {0}) d.parameters → (t : Bool) → AreQuiet (known_behind v t d) × ((known_behind v t d).path ≡ path)
  behind_quiet v q p d h true = (q, p)
  behind_quiet v q p d h false = procedure_quiet v q p d h d.is_bound

  pub quiet_in_order : (ps : List Written_procedure) → AllByRecursion IsWellHeading ps → (hs : Heads) → AreQuiet hs.around → hs.around.path ≡ path → ((h : Head) → IsOneOf (headings_in_order ps hs).before h → IsUnbroken h) → AllByRecursion (IsQuietHead path) hs.before → AllByRecursion (IsQuietHead path) (headings_in_order ps hs).before
  quiet_in_order [] g hs q e f k = k
  quiet_in_order (p ∷ ps) g hs q e f k =
      let d = head_of hs.around p.heading p.forward in
      let v = with_types hs.around (types_of d.parameters) in
      let t = name_twice v hs.before d in
      let h = declared_head t d (known_behind v t d) in
      let n = not_twice t d (known_behind v t d) (f h (stays_before ps (add_heading hs p.heading p.forward) h (inl refl))) in
      let i = head_good hs.around p.heading p.forward g.0.sections g.0.plain q.known q.based n.1 in
      let has : Has (λ (p : Parameters). Unit {0}) d.parameters = has_more (λ p. Points hs.around p.made) (λ p. Unit {0}) d.parameters (λ p h. tt) i.parameters in
      let w : AreQuiet v = record { known = q.known; based = λ l. more_based hs.around (types_of d.parameters) (types_pointed hs.around d.parameters i.parameters) (q.based l) } in
      let b = behind_quiet v w e d has t in
      quiet_in_order ps g.1 (add_heading hs p.heading p.forward) b.0 b.1 f (declared_quiet hs.around v d i e t n.0 b.0.known, k)
