-- Headings in their order: their parameters and receivers are passed well, and what is known behind them stands.
use Rattle.std.proofs.Common.{◌≡◌, refl, sym, subst, ℕ, Bool, true, false, List, [], ◌∷◌, ◌++◌, Option, Some, None, cond}
use Rattle.std.specs.Prelude.{nat_lt}
use Rattle.std.specs.List.{AllByRecursion}
use Rattle.ob_tree.specs.declared.names.QName.{QName}
use Rattle.ob_tree.specs.declared.ident.Ident.{Ident}
use Rattle.ob_tree.specs.declared.ident.Mark.{Mark}
use Rattle.ob_tree.specs.declared.decl.Receiver.{Receiver as RawReceiver}
use Rattle.ob_types.specs.declared.types.TypeRef.{TypeRef}
use Rattle.ob_types.specs.declared.desc.Desc.{Desc}
use Rattle.ob_types.specs.declared.typed.TypedType.{TypedType}
use Rattle.ob_types.specs.declared.typed.TypedParameter.{TypedParameter}
use Rattle.ob_rules.specs.declared.entity.Known.{Known}
use Rattle.ob_rules.specs.Judged.{both}
use Rattle.ob_rules.specs.Names.{Around, in_unit, is_out}
use Rattle.ob_rules.specs.Types.{Parameters, with_types, marked, inner, parameters_in}
use Rattle.ob_rules.specs.Headings.{WrittenHeading, Head, BoundAs, Heads, path_by, forward_name, bound_in, of_scope, as_parameters, owner_if, self_by, heading_parameters, knows_receiver, head_of, entity_as, head_entity, declared_head, knows_procedure, known_behind, name_twice, types_of, add_heading}
use Rattle.ob_rules.specs.Declarations.{Written_procedure, headings_in_order}
use Rattle.law_methods_described.proofs.Nodes.{Has, second_has, anew_has}
use Rattle.law_body_context.specs.Knows.{EntityStands}
use Rattle.law_body_context.proofs.Lists.{all_of}
use Rattle.law_body_context.proofs.Standing.{Lies, lies_front, grows_as, all_grown}
use Rattle.law_builds_ruled.proofs.ruled_laws.Plain.{Any}
use Rattle.law_builds_ruled.proofs.passed_laws.Sections.{KnownIn, PlainAt, plain_more, Fair, more_types, more_known, GoodSections, Passed, all_more, passed_more, ArePassed, sections_known, parameters_passed, IsReceiver, owner_stands, self_passed, receiver_fair}
use Rattle.law_lists.proofs.Lists.{IfThere}

module _ (unit : List ℕ) (shown : QName → Option Desc) (out : is_out unit ≡ false) where
  abbrev F : Around → Type 0
  F u = Fair unit shown out u

  abbrev P : List TypedType → TypedParameter → Type 0
  P own x = Passed unit shown out own x

  abbrev R : List TypedType → TypeRef → Type 0
  R own t = PlainAt unit shown out own t

  abbrev K : List TypedType → List Known → Type 0
  K own ks = KnownIn unit shown out own ks

  -- a heading, where these types are known in the end
  pub record HeadIn (own : List TypedType) (h : Head) : Type 0 where
    pub parameters : IfThere (λ (p : Parameters). AllByRecursion (P own) p.parameters × IfThere (R own) p.signature.result) h.parameters
    pub self : (x : Ident) → IfThere (λ (b : BoundAs). P own (self_by x b b.receiver)) h.bound
    pub inside : K own h.inside
    pub known : K own h.known

  if_more : {A : Type 0} (P Q : A → Type 0) (o : Option A) → ((x : A) → P x → Q x) → IfThere P o → IfThere Q o
  if_more P Q None f h = tt
  if_more P Q (Some x) f h = f x h

  known_more : (own more : List TypedType) → Lies own more → (ks : List Known) → K own ks → K more ks
  known_more own more l ks h = all_grown unit shown Any own more (grows_as own more l) ks h

  head_more : (own more : List TypedType) → Lies own more → (h : Head) → HeadIn own h → HeadIn more h
  head_more own more l h g = record {
    parameters = if_more _ _ h.parameters (λ p k. (all_more unit shown out own more l p.parameters k.0, if_more (R own) (R more) p.signature.result (λ t. plain_more unit shown out own more l t) k.1)) g.parameters;
    self = λ x. if_more (λ (b : BoundAs). P own (self_by x b b.receiver)) (λ (b : BoundAs). P more (self_by x b b.receiver)) h.bound (λ b. passed_more unit shown out own more l (self_by x b b.receiver)) (g.self x);
    inside = known_more own more l h.inside g.inside;
    known = known_more own more l h.known g.known;
  }

  heads_more : (own more : List TypedType) → Lies own more → (hs : List Head) → AllByRecursion (HeadIn own) hs → AllByRecursion (HeadIn more) hs
  heads_more own more l hs g = all_of (HeadIn own) (HeadIn more) hs (head_more own more l) g

  -- ---- one heading

  as_passed : (own : List TypedType) (o : Option ((Mark × Option BoundAs) × Parameters)) → IfThere (λ p. Unit {0} × ArePassed unit shown out own p.1) o → IfThere (ArePassed unit shown out own) (as_parameters o)
  as_passed own None h = tt
  as_passed own (Some p) h = h.1

  bound_is : (u : Around) (o : Option (Option BoundAs)) → IfThere (IfThere (IsReceiver unit shown out u)) o → IfThere (IsReceiver unit shown out u) (bound_in o)
  bound_is u None h = tt
  bound_is u (Some o) h = h

  receiver_own : (u : Around) (r : Option RawReceiver) (o : Option (Option BoundAs)) → (knows_receiver (inner u) r o).own ≡ u.own
  receiver_own u None o = refl
  receiver_own u (Some r) (Some (Some b)) = refl
  receiver_own u (Some r) (Some None) = refl
  receiver_own u (Some r) None = refl

  kept_known : (own : List TypedType) (n : ℕ) (ks : List Known) → K own ks → K own (of_scope n ks)
  kept_known own n [] h = tt
  kept_known own n (k ∷ ks) h = by (nat_lt n k.scope) (kept_known own n ks h.1)
    where
      by : (b : Bool) → K own (of_scope n ks) → K own (cond b (k ∷ of_scope n ks) (of_scope n ks))
      by true r = (h.0, r)
      by false r = r

  -- what a heading comes to where it stands
  record HeadOf (u : Around) (h : Head) : Type 0 where
    parameters : IfThere (ArePassed unit shown out u.own) h.parameters
    bound : IfThere (IsReceiver unit shown out u) h.bound
    inside : K u.own h.inside

  head_is : (u : Around) → F u → (h : WrittenHeading) (forward : Bool) → GoodSections unit shown out h.parameters.sections → HeadOf u (head_of u h forward)
  head_is u f h forward g =
      let m = marked u false h.name in
      let b = owner_if u h.receiver in
      let v = knows_receiver (inner u) h.receiver b.node in
      let name = forward_name forward (u.path ++ path_by b.node h.name.ident.name) in
      let s = heading_parameters u h forward b in
      let fv = receiver_fair unit shown out u f h.receiver b.node in
      let same = receiver_own u h.receiver b.node in
      record {
        parameters = as_passed u.own (both (both m b) s.found).node (second_has (ArePassed unit shown out u.own) (both m b) s.found (anew_has (ArePassed unit shown out u.own) u h.name.ident.«pos» (parameters_in v name h.parameters) (subst (λ own. Has (ArePassed unit shown out own) (parameters_in v name h.parameters).found) same (parameters_passed unit shown out v fv name h.parameters g))));
        bound = bound_is u b.node (owner_stands unit shown out u f h.receiver);
        inside = kept_known u.own u.scope s.known (sections_known unit shown out u.own h.parameters.sections v name 1 (subst (λ own. K own v.known) same fv.knows.known));
      }

  -- ---- the next heading

  types_fair : (u : Around) → F u → (o : Option Parameters) → IfThere (ArePassed unit shown out u.own) o → F (with_types u (types_of o))
  types_fair u f None h = more_types unit shown out u f [] tt tt
  types_fair u f (Some p) h = more_types unit shown out u f p.made h.made h.aliases

  entity_free : (own : List TypedType) (u : Around) (h : Head) (o : Option Parameters) → EntityStands Any unit shown own (head_entity u h o)
  entity_free own u h None = tt
  entity_free own u h (Some p) = by h.forward
    where
      by : (b : Bool) → EntityStands Any unit shown own (entity_as b (in_unit u h.path) p.signature)
      by true = tt
      by false = tt

  procedure_fair : (u : Around) → F u → (h : Head) (b : Bool) → F (knows_procedure u h b)
  procedure_fair u f h true = f
  procedure_fair u f h false = more_known unit shown out u f _ (entity_free u.own u h h.parameters)

  behind_fair : (u : Around) → F u → (twice : Bool) (h : Head) → F (known_behind u twice h)
  behind_fair u f true h = f
  behind_fair u f false h = procedure_fair u f h h.is_bound

  procedure_own : (u : Around) (h : Head) (b : Bool) → (knows_procedure u h b).own ≡ u.own
  procedure_own u h true = refl
  procedure_own u h false = refl

  behind_own : (u : Around) (twice : Bool) (h : Head) → (known_behind u twice h).own ≡ u.own
  behind_own u true h = refl
  behind_own u false h = procedure_own u h h.is_bound

  made_passed : (own : List TypedType) (o : Option Parameters) → IfThere (ArePassed unit shown out own) o → IfThere (λ (p : Parameters). AllByRecursion (P (types_of o ++ own)) p.parameters × IfThere (R (types_of o ++ own)) p.signature.result) o
  made_passed own None h = tt
  made_passed own (Some p) h = (h.passed, if_more (R own) (R (p.made ++ own)) p.signature.result (λ t. plain_more unit shown out own (p.made ++ own) (lies_front p.made own) t) h.result)

  declared_in : (own : List TypedType) (twice : Bool) (h : Head) → IfThere (λ (p : Parameters). AllByRecursion (P own) p.parameters × IfThere (R own) p.signature.result) h.parameters → ((x : Ident) → IfThere (λ (b : BoundAs). P own (self_by x b b.receiver)) h.bound) → K own h.inside → (u : Around) → K own u.known → HeadIn own (declared_head twice h u)
  declared_in own true h p s i u k = record { parameters = tt; self = s; inside = i; known = k }
  declared_in own false h p s i u k = record { parameters = p; self = s; inside = i; known = k }

  pub record HeadsFair (hs : Heads) : Type 0 where
    pub around : F hs.around
    pub before : AllByRecursion (HeadIn hs.around.own) hs.before

  add_fair : (hs : Heads) → HeadsFair hs → (h : WrittenHeading) (forward : Bool) → GoodSections unit shown out h.parameters.sections → HeadsFair (add_heading hs h forward)
  add_fair hs f h forward g =
      let d = head_of hs.around h forward in
      let e = head_is hs.around f.around h forward g in
      let ts = types_of d.parameters in
      let u = with_types hs.around ts in
      let t = name_twice u hs.before d in
      let v = known_behind u t d in
      let fv = behind_fair u (types_fair hs.around f.around d.parameters e.parameters) t d in
      let same : v.own ≡ ts ++ hs.around.own = behind_own u t d in
      let more : Lies hs.around.own (ts ++ hs.around.own) = lies_front ts hs.around.own in
      record {
        around = fv;
        before = (
          subst (λ own. HeadIn own (declared_head t d v)) (sym same)
              (declared_in (ts ++ hs.around.own) t d (made_passed hs.around.own d.parameters e.parameters)
              (λ x. if_more (IsReceiver unit shown out hs.around) (λ (b : BoundAs). P (ts ++ hs.around.own) (self_by x b b.receiver)) d.bound (λ b k. passed_more unit shown out hs.around.own (ts ++ hs.around.own) more (self_by x b b.receiver) (self_passed unit shown out hs.around f.around x b k)) e.bound)
              (known_more hs.around.own (ts ++ hs.around.own) more d.inside e.inside) v (subst (λ own. K own v.known) same fv.knows.known)),
          subst (λ own. AllByRecursion (HeadIn own) hs.before) (sym same) (heads_more hs.around.own (ts ++ hs.around.own) more hs.before f.before),
        );
      }

  abbrev pub GoodHeadings : List Written_procedure → Type 0
  GoodHeadings ps = AllByRecursion (λ p. GoodSections unit shown out p.heading.parameters.sections) ps

  pub heads_fair : (ps : List Written_procedure) → GoodHeadings ps → (hs : Heads) → HeadsFair hs → HeadsFair (headings_in_order ps hs)
  heads_fair [] g hs f = f
  heads_fair (p ∷ ps) g hs f = heads_fair ps g.1 (add_heading hs p.heading p.forward) (add_fair hs f p.heading p.forward g.0)
