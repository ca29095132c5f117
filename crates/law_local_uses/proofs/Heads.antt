-- Headings in their order: what they come to is held, and what is bound is bound to types of the module.
use Rattle.std.proofs.Common.{◌≡◌, ◌+◌, suc, Bool, true, false, List, [], ◌∷◌, ◌++◌, length, Option, Some, None, refl, sym, ap, ◌∙◌, subst, arith}
use Rattle.std.specs.Prelude.{bytes_eq, not, ◌&&◌, ◌==◌}
use Rattle.std.specs.List.{AllByRecursion, filter, find, list_any}
use Rattle.std.proofs.lemmas.Slice.Eq.{bytes_eq-Decides}
use Rattle.ob_tree.specs.declared.pos.Pos.{Pos}
use Rattle.ob_tree.specs.declared.names.QName.{QName}
use Rattle.ob_tree.specs.declared.ident.Mark.{Mark}
use Rattle.ob_tree.specs.declared.decl.Receiver.{Receiver as RawReceiver}
use Rattle.ob_types.specs.declared.types.TypeRef.{TypeRef}
use Rattle.ob_types.specs.declared.types.TypeRef.TheVariants as ref
use Rattle.ob_types.specs.declared.types.Signature.{Signature}
use Rattle.ob_types.specs.declared.desc.Desc.{Desc}
use Rattle.ob_types.specs.declared.desc.Desc.TheVariants as desc
use Rattle.ob_types.specs.declared.desc.RecordDesc.{RecordDesc}
use Rattle.ob_types.specs.declared.typed.TypedType.{TypedType}
use Rattle.ob_types.specs.Maps.{signature_types}
use Rattle.ob_types.specs.Tests.{target, shape_at}
use Rattle.ob_rules.specs.declared.entity.Known.{Known}
use Rattle.ob_rules.specs.declared.broken.Rule.TheVariants as rule
use Rattle.ob_rules.specs.Judged.{broken_at, both}
use Rattle.ob_rules.specs.Shapes.{Map, record_at, record_if, pointed, same_name}
use Rattle.ob_rules.specs.Names.{Around, map_of, type_desc, own_desc, in_unit, out_string, type_named}
use Rattle.ob_rules.specs.Types.{Parameters, is_module_level, marked, inner, with_types, parameters_in}
use Rattle.ob_rules.specs.Headings.{WrittenHeading, Head, Heads, BoundAs, received_record, is_own, if_own, own_record, silent_base, bound_to, owner_of, owner_if, knows_receiver, bound_in, as_parameters, heading_parameters, head_of, entity_as, head_entity, declared_head, knows_procedure, known_behind, name_twice, types_of, add_heading, reversed, forward_name, path_by, made_anew, are_there}
use Rattle.ob_rules.specs.Declarations.{Written_procedure, headings_in_order, types_of_head}
use Rattle.law_local_judged.specs.Agreement.{AreIn}
use Rattle.law_local_uses.specs.Settled.{MeansIn}
use Rattle.law_local_uses.proofs.Setting.{none, then_keeps, both_keep, made_keeps, unless_keeps}
use Rattle.law_local_uses.specs.Held.{IsThere}
use Rattle.law_local_uses.proofs.Around.{Given, AreNamed, AreKnown, Fine, base, found_has, name_is}
use Rattle.law_local_uses.proofs.Typings.{In, Holds, ParametersOk, GoodSections, type_held, more_types, marked_held, signature_ok, parameters_in_good, inner_fine}
use Rattle.law_local_uses.proofs.Quiet.{Names}
use Rattle.law_lists.proofs.Lists.{Anything, IfThere, all_both, back_empty, filter_if, length_last}

abbrev pub There : Given → TypedType → Type 0
There g t = IsThere g.map g.Own g.unit t

abbrev pub AreThere : Given → List TypedType → Type 0
AreThere g ts = AllByRecursion (There g) ts

-- ---- a record that a type is, is one of the map

record_found : (map : Map) (t : TypeRef) (q : QName) → record_at t (shape_at map t) ≡ Some q → (r : RecordDesc) × (map q ≡ Some (desc.Record r))
record_found map (ref.Basic b) q e = absurd cc
record_found map (ref.Named p) q e = by (map p) refl e
  where
    here : (r : RecordDesc) → map p ≡ Some (desc.Record r) → Some p ≡ Some q → (r : RecordDesc) × (map q ≡ Some (desc.Record r))
    here r i e = let same : p ≡ q = cc in (r, subst (λ q. map q ≡ Some (desc.Record r)) same i)

    by : (o : Option Desc) → map p ≡ o → record_at (ref.Named p) o ≡ Some q → (r : RecordDesc) × (map q ≡ Some (desc.Record r))
    by (Some (desc.Record r)) i e = here r i e
    by None i e = absurd cc
    by (Some (desc.Const v)) i e = absurd cc
    by (Some (desc.Var m t)) i e = absurd cc
    by (Some (desc.Proc s)) i e = absurd cc
    by (Some (desc.Alias m t)) i e = absurd cc
    by (Some (desc.Array m n t)) i e = absurd cc
    by (Some (desc.OpenArray m t)) i e = absurd cc
    by (Some (desc.Pointer m t)) i e = absurd cc
    by (Some (desc.ProcType m s)) i e = absurd cc

if_found : (map : Map) (o : Option TypeRef) (q : QName) → record_if map o ≡ Some q → (r : RecordDesc) × (map q ≡ Some (desc.Record r))
if_found map None q e = absurd cc
if_found map (Some t) q e = record_found map (target map 201 t) q e

received_found : (map : Map) (var : Bool) (t : TypeRef) (q : QName) → received_record map var t ≡ Some q → (r : RecordDesc) × (map q ≡ Some (desc.Record r))
received_found map true t q e = record_found map (target map 201 t) q e
received_found map false t q e = if_found map (pointed map t) q e

-- ---- receivers

abbrev pub BoundOk : Given → BoundAs → Type 0
BoundOk g b = In g b.of × g.Own b.owner

module _ (g : Given) (u : Around) (f : Fine g u) (own : AreThere g u.own) where
  found_own : (q : QName) (d : Desc) → bytes_eq q.«module» u.unit ≡ true → (o : Option TypedType) → IfThere (λ t. There g t × (bytes_eq t.name q.object ≡ true)) o → own_desc o ≡ Some d → g.Own q
  found_own q d m None h e = absurd cc
  found_own q d m (Some t) h e = subst g.Own (name_is q g.unit t.name ((bytes_eq-Decides q.«module» u.unit).0 m ∙ f.unit) ((bytes_eq-Decides t.name q.object).0 h.1)) h.0.own

  -- a name of the module that is described is one of its types
  described_own : (q : QName) (d : Desc) → bytes_eq q.«module» u.unit ≡ true → map_of u q ≡ Some d → g.Own q
  described_own q d m e =
      found_own q d m (find (λ (t : TypedType). bytes_eq t.name q.object) u.own) (found_has (There g) (λ (t : TypedType). bytes_eq t.name q.object) u.own own)
      (sym (ap (λ b. type_desc b (same_name q out_string) u q) m) ∙ e)

  both_first : (a b : Bool) → (a && b) ≡ true → a ≡ true
  both_first true b e = refl
  both_first false b e = absurd cc

  if_own_is : (b : Bool) (p q : QName) → if_own b p ≡ Some q → (b ≡ true) × (p ≡ q)
  if_own_is true p q e = (refl, cc)
  if_own_is false p q e = absurd cc

  own_found : (o : Option QName) → ((q : QName) → o ≡ Some q → (r : RecordDesc) × (map_of u q ≡ Some (desc.Record r))) → (q : QName) → own_record u o ≡ Some q → g.Own q
  own_found None h q e = absurd cc
  own_found (Some p) h q e =
      let k = if_own_is (is_own u p && is_module_level u) p q e in
      let m = both_first (bytes_eq p.«module» u.unit) (not (list_any (λ c. c == 47) p.object)) (both_first (is_own u p) (is_module_level u) k.0) in
      let r = h p refl in
      subst g.Own k.1 (described_own p (desc.Record r.0) m r.1)

  bound_good : (at : Pos) (var : Bool) (t : TypeRef) (quiet : Bool) (o : Option QName) → In g t → ((q : QName) → o ≡ Some q → g.Own q) → Holds g (BoundOk g) (bound_to at var t quiet o)
  bound_good at var t quiet (Some q) h k = ((h, k q refl), none)
  bound_good at var t true None h k = (tt, none)
  bound_good at var t false None h k = (tt, none)

  owner_good : (r : RawReceiver) → Holds g (BoundOk g) (owner_of u r)
  owner_good r =
      then_keeps (base g) (In g) (BoundOk g) (type_named u (record { qualifier = None; ident = r.owner })) _ (type_held g u f (record { qualifier = None; ident = r.owner }))
      (λ t h. bound_good r.owner.pos r.is_var t (is_module_level u && silent_base (map_of u) r.is_var (pointed (map_of u) t)) (own_record u (received_record (map_of u) r.is_var t)) h (λ q e. own_found (received_record (map_of u) r.is_var t) (λ p i. received_found (map_of u) r.is_var t p i) q e))

  owner_if_good : (o : Option RawReceiver) → Holds g (IfThere (BoundOk g)) (owner_if u o)
  owner_if_good None = (tt, none)
  owner_if_good (Some r) = made_keeps (base g) (BoundOk g) (IfThere (BoundOk g)) (λ b. Some b) (owner_of u r) (owner_good r) (λ b h. h)

-- ---- one heading

pub record HeadOk (g : Given) (h : Head) : Type 0 where
  pub parameters : IfThere (ParametersOk g) h.parameters
  pub bound : IfThere (BoundOk g) h.bound
  pub notes : Names g h.notes
  pub inside : AreKnown g h.inside
  pub known : AreKnown g h.known

receiver_fine : (g : Given) (u : Around) → Fine g u → (o : Option RawReceiver) (b : Option (Option BoundAs)) → IfThere (IfThere (BoundOk g)) b → Fine g (knows_receiver u o b)
receiver_fine g u f None b h = f
receiver_fine g u f (Some r) None h = record { unit = f.unit; shown = f.shown; own = f.own; known = (tt, f.known); guards = f.guards; receiver = f.receiver }
receiver_fine g u f (Some r) (Some None) h = record { unit = f.unit; shown = f.shown; own = f.own; known = (tt, f.known); guards = f.guards; receiver = f.receiver }
receiver_fine g u f (Some r) (Some (Some b)) h = record { unit = f.unit; shown = f.shown; own = f.own; known = (h.0, f.known); guards = f.guards; receiver = f.receiver }

filter_all : {A : Type 0} (Q : A → Type 0) (test : A → Bool) (xs : List A) → AllByRecursion Q xs → AllByRecursion Q (filter test xs)
filter_all Q test [] h = tt
filter_all Q test (x ∷ xs) h = filter_if Q (test x) x (filter test xs) h.0 (filter_all Q test xs h.1)

bound_in_ok : (g : Given) (o : Option (Option BoundAs)) → IfThere (IfThere (BoundOk g)) o → IfThere (BoundOk g) (bound_in o)
bound_in_ok g None h = tt
bound_in_ok g (Some b) h = h

abbrev Triple : Given → (Mark × Option BoundAs) × Parameters → Type 0
Triple g p = (Anything p.0.0 × IfThere (BoundOk g) p.0.1) × ParametersOk g p.1

as_ok : (g : Given) (o : Option ((Mark × Option BoundAs) × Parameters)) → IfThere (Triple g) o → IfThere (ParametersOk g) (as_parameters o)
as_ok g None h = tt
as_ok g (Some p) h = h.1

pub head_good : (g : Given) (u : Around) → Fine g u → AreThere g u.own → (w : WrittenHeading) → GoodSections g w.parameters → (forward : Bool) → HeadOk g (head_of u w forward)
head_good g u f own w good forward =
    let m = marked u false w.name in
    let b = owner_if u w.receiver in
    let s = heading_parameters u w forward b in
    let hb : Holds g (IfThere (BoundOk g)) b = owner_if_good g u f own w.receiver in
    let v = knows_receiver (inner u) w.receiver b.node in
    let k = parameters_in_good g w.parameters good v (receiver_fine g (inner u) (inner_fine g u f) w.receiver b.node hb.0) _ in
    let inside = parameters_in v (forward_name forward (u.path ++ path_by b.node w.name.ident.name)) w.parameters in
    let found : Holds g (ParametersOk g) s.found = then_keeps (base g) (ParametersOk g) (ParametersOk g) inside.found (made_anew u w.name.ident.«pos») k.found (λ q i. unless_keeps (base g) (ParametersOk g) (are_there u q.made) rule.DeclaredTwice w.name.ident.«pos» q i) in
    let all = both_keep (base g) (λ (p : Mark × Option BoundAs). Anything p.0 × IfThere (BoundOk g) p.1) (ParametersOk g) (both m b) s.found (both_keep (base g) Anything (IfThere (BoundOk g)) m b (marked_held g u false w.name) hb) found in
    record {
      parameters = as_ok g (both (both m b) s.found).node all.0;
      bound = bound_in_ok g b.node hb.0;
      notes = all.1;
      inside = filter_all (λ (x : Known). MeansIn g.Held x.what) _ s.known k.known;
      known = f.known;
    }

-- ---- headings in their order

-- a heading that breaks no rule, whose types are there
abbrev pub IsSound : Given → Head → Type 0
IsSound g h = (h.notes.broken ≡ []) × AreThere g (types_of_head h.parameters)

pub record HeadsOk (g : Given) (hs : Heads) : Type 0 where
  pub around : Fine g hs.around
  pub own : AreThere g hs.around.own
  pub before : AllByRecursion (HeadOk g) hs.before

types_same : (o : Option Parameters) → types_of_head o ≡ types_of o
types_same None = refl
types_same (Some p) = refl

types_named : (g : Given) (o : Option Parameters) → IfThere (ParametersOk g) o → AreNamed g (types_of o)
types_named g None h = tt
types_named g (Some p) h = h.made

as_means : (g : Given) (b : Bool) (q : QName) (s : Signature) → AreIn g.Held (signature_types s) → MeansIn g.Held (entity_as b q s)
as_means g true q s h = h
as_means g false q s h = h

entity_means : (g : Given) (u : Around) (h : Head) (o : Option Parameters) → IfThere (ParametersOk g) o → MeansIn g.Held (head_entity u h o)
entity_means g u h None k = tt
entity_means g u h (Some p) k = as_means g h.forward (in_unit u h.path) p.signature (signature_ok g p k)

procedure_fine : (g : Given) (u : Around) → Fine g u → (h : Head) → IfThere (ParametersOk g) h.parameters → (b : Bool) → Fine g (knows_procedure u h b)
procedure_fine g u f h k true = f
procedure_fine g u f h k false = record { unit = f.unit; shown = f.shown; own = f.own; known = (entity_means g u h h.parameters k, f.known); guards = f.guards; receiver = f.receiver }

behind_fine : (g : Given) (u : Around) → Fine g u → (b : Bool) (h : Head) → IfThere (ParametersOk g) h.parameters → Fine g (known_behind u b h)
behind_fine g u f true h k = f
behind_fine g u f false h k = procedure_fine g u f h k h.is_bound

procedure_own : (u : Around) (h : Head) (b : Bool) → (knows_procedure u h b).own ≡ u.own
procedure_own u h true = refl
procedure_own u h false = refl

behind_own : (u : Around) (b : Bool) (h : Head) → (known_behind u b h).own ≡ u.own
behind_own u true h = refl
behind_own u false h = procedure_own u h h.is_bound

declared_ok : (g : Given) (b : Bool) (h : Head) (u : Around) → HeadOk g h → AreKnown g u.known → IsSound g (declared_head b h u) → HeadOk g (declared_head b h u) × AreThere g (types_of h.parameters)
declared_ok g true h u k n s = let e = back_empty h.notes.broken (broken_at rule.DeclaredTwice h.at).broken s.0 in absurd cc
declared_ok g false h u k n s = (record { parameters = k.parameters; bound = k.bound; notes = k.notes; inside = k.inside; known = n }, subst (AreThere g) (types_same h.parameters) s.1)

add_good : (g : Given) (hs : Heads) → HeadsOk g hs → (w : WrittenHeading) → GoodSections g w.parameters → (forward : Bool) → AllByRecursion (IsSound g) (add_heading hs w forward).before → HeadsOk g (add_heading hs w forward)
add_good g hs k w good forward sound =
    let d = head_of hs.around w forward in
    let v = with_types hs.around (types_of d.parameters) in
    let t = name_twice v hs.before d in
    let h = head_good g hs.around k.around k.own w good forward in
    let f = behind_fine g v (more_types g hs.around k.around (types_of d.parameters) (types_named g d.parameters h.parameters)) t d h.parameters in
    let r = declared_ok g t d (known_behind v t d) h f.known sound.0 in
    record { around = f; own = subst (AreThere g) (sym (behind_own v t d)) (all_both (There g) (types_of d.parameters) hs.around.own r.1 k.own); before = (r.0, k.before) }

before_front : (P : Head → Type 0) (ps : List Written_procedure) (hs : Heads) → AllByRecursion P (headings_in_order ps hs).before → AllByRecursion P hs.before
before_front P [] hs h = h
before_front P (p ∷ ps) hs h = (before_front P ps (add_heading hs p.heading p.forward) h).1

abbrev pub GoodHeading : Given → Written_procedure → Type 0
GoodHeading g p = GoodSections g p.heading.parameters

pub headings_good : (g : Given) (ps : List Written_procedure) → AllByRecursion (GoodHeading g) ps → (hs : Heads) → HeadsOk g hs → AllByRecursion (IsSound g) (headings_in_order ps hs).before → HeadsOk g (headings_in_order ps hs)
headings_good g [] good hs k sound = k
headings_good g (p ∷ ps) good hs k sound =
    let next = add_heading hs p.heading p.forward in
    headings_good g ps good.1 next (add_good g hs k p.heading good.0 p.forward (before_front (IsSound g) ps next sound)) sound

pub headings_length : (ps : List Written_procedure) (hs : Heads) → length (headings_in_order ps hs).before ≡ length ps + length hs.before
headings_length [] hs = omega arith
headings_length (p ∷ ps) hs = let i = headings_length ps (add_heading hs p.heading p.forward) in omega (arith, i)

-- ---- the other way round

pub reversed_all : {A : Type 0} (Q : A → Type 0) (xs : List A) → AllByRecursion Q xs → AllByRecursion Q (reversed xs)
reversed_all Q [] h = tt
reversed_all Q (x ∷ xs) h = all_both Q (reversed xs) (x ∷ []) (reversed_all Q xs h.1) (h.0, tt)

all_back : {A : Type 0} (Q : A → Type 0) (xs : List A) (y : A) → AllByRecursion Q (xs ++ y ∷ []) → AllByRecursion Q xs × Q y
all_back Q [] y h = (tt, h.0)
all_back Q (x ∷ xs) y h = let r = all_back Q xs y h.1 in ((h.0, r.0), r.1)

pub reversed_back : {A : Type 0} (Q : A → Type 0) (xs : List A) → AllByRecursion Q (reversed xs) → AllByRecursion Q xs
reversed_back Q [] h = tt
reversed_back Q (x ∷ xs) h = let r = all_back Q (reversed xs) x h in (r.1, reversed_back Q xs r.0)

pub reversed_length : {A : Type 0} (xs : List A) → length (reversed xs) ≡ length xs
reversed_length [] = refl
reversed_length (x ∷ xs) = length_last (reversed xs) x ∙ ap suc (reversed_length xs)
