-- Procedures, and sequences of declarations with their statements.
use Rattle.std.proofs.Common.{◌≡◌, ⊎_elim, refl, sym, ap, ◌∙◌, subst, ℕ, suc, ◌≤◌, ◌<◌, Bool, true, false, List, [], ◌∷◌, ◌++◌, Option, Some, None, inl, inr, arith}
use Rattle.std.specs.Prelude.{nat_lt}
use Rattle.std.specs.List.{AllByRecursion}
use Rattle.ob_tree.specs.declared.names.QName.{QName}
use Rattle.ob_types.specs.declared.types.Mode.{Mode}
use Rattle.ob_types.specs.declared.types.TypeRef.{TypeRef}
use Rattle.ob_types.specs.declared.value.Value.{Value}
use Rattle.ob_types.specs.declared.desc.Desc.{Desc}
use Rattle.ob_types.specs.declared.typed.Variable.{Variable}
use Rattle.ob_types.specs.declared.typed.TypedType.{TypedType}
use Rattle.ob_types.specs.declared.typed.TypedVariable.{TypedVariable}
use Rattle.ob_types.specs.declared.typed.TypedParameter.{TypedParameter}
use Rattle.ob_types.specs.declared.typed.TypedProcedure.{TypedProcedure}
use Rattle.ob_types.specs.declared.typed.TypedModule.{TypedModule}
use Rattle.ob_rules.specs.declared.entity.Entity.{Entity}
use Rattle.ob_rules.specs.declared.entity.Entity.TheVariants as entity
use Rattle.ob_rules.specs.declared.entity.Known.{Known}
use Rattle.ob_rules.specs.Shapes.{Map}
use Rattle.ob_rules.specs.Names.{Around, map_of, is_out}
use Rattle.ob_rules.specs.Types.{Parameters, nothing}
use Rattle.ob_tree.specs.declared.ident.Ident.{Ident}
use Rattle.ob_types.specs.declared.desc.Receiver.{Receiver}
use Rattle.ob_types.specs.declared.desc.Receiver.TheVariants as receiver
use Rattle.ob_rules.specs.Headings.{Head, BoundAs, self_by, self_parameter, reversed, types_of}
use Rattle.ob_rules.specs.Declarations.{Contents, Part, Written_procedure, closing_judged, self_parameters, received_by, received, around_body, result_in, bound_to, typed_procedure, types_of_head, procedure_judged, procedures_judged}
use Rattle.law_typing_forms.specs.Said.{IsOneOf}
use Rattle.law_typing.specs.Makes.{IfThere}
use Rattle.law_body_context.specs.Knows.{Grows, Stands, IsDescribed, EntityStands}
use Rattle.law_body_context.specs.Judged.{IsReceivedAs, IsWithin, ReceiverStands, AreOf, IsParameter, IsInside, result_of, NameIs, StandsAround, IsJudged}
use Rattle.law_body_context.proofs.Lists.{one_left, one_right, one_joined, all_of, there_of}
use Rattle.law_body_context.proofs.Standing.{Lies, lies_same, lies_front, lies_behind, lies_then, grows_front, grows_then, stands_grown}
use Rattle.law_body_context.proofs.Heads.{self_is, InsideEntity, SignatureStands, HeadStands, all_parameters}
use Rattle.law_body_context.proofs.Receivers.{received_as}
use Rattle.law_body_context.proofs.Headings.{Aligned, IsUnbroken, AreGoodHeadings}
use Rattle.law_body_context.specs.Order.{IsOver}
use Rattle.law_body_context.proofs.InOrder.{over_all}
use Rattle.law_body_context.proofs.Quiet.{IsQuiet, IsWellHeading, IsQuietHead, inside_quiet}
use Rattle.law_body_context.proofs.Around.{IsJudgedAlso}
use Rattle.law_body_context.proofs.Levels.{Level, AtModule, Within, frame, IsPlaced, IsVariableAt, Included, IsFull, none_full, both_full, first_included, second_included, BlockAt, IsOpened, BoundStands, BodyOwn, not_module, outer_name}
use Rattle.law_lists.proofs.Lists.{all_both, back_empty, both_empty, front_empty}

-- ---- lists

pub one_reversed : {A : Type 0} (xs : List A) (x : A) → IsOneOf xs x → IsOneOf (reversed xs) x
one_reversed [] x h = h
one_reversed (y ∷ xs) x (inl e) = one_right (reversed xs) (y ∷ []) x (inl e)
one_reversed (y ∷ xs) x (inr h) = one_left (reversed xs) (y ∷ []) x (one_reversed xs x h)

pub one_turned : {A : Type 0} (xs : List A) (x : A) → IsOneOf (reversed xs) x → IsOneOf xs x
one_turned [] x h = h
one_turned (y ∷ xs) x h = ⊎_elim (λ i. inr (one_turned xs x i)) (λ i. ⊎_elim (λ e. inl e) (λ k. absurd k) i) (one_joined (reversed xs) (y ∷ []) x h)

pub all_reversed : {A : Type 0} (P : A → Type 0) (xs : List A) → AllByRecursion P xs → AllByRecursion P (reversed xs)
all_reversed P [] h = tt
all_reversed P (x ∷ xs) h = all_both P (reversed xs) (x ∷ []) (all_reversed P xs h.1) (h.0, tt)

no_nothing : {A : Type 0} (xs : List A) (y : A) (ys : List A) → nothing (xs ++ y ∷ ys) ≡ false
no_nothing [] y ys = refl
no_nothing (x ∷ xs) y ys = refl

pub all_empty : {A : Type 0} (P : A → Type 0) (xs : List A) → xs ≡ [] → AllByRecursion P xs
all_empty P xs e = subst (AllByRecursion P) (sym e) tt

one_more : (k n : ℕ) → k ≤ n → k ≤ suc n
one_more k n h = omega (arith, h)

same_most : (k n : ℕ) → k ≡ n → k ≤ n
same_most k n e = omega (arith, e)

-- ---- the procedure of a heading

abbrev typed_of : Map → Head → Parameters → Contents → TypedProcedure
typed_of types h q c = record {
  name = h.path;
  mark = h.mark;
  «pos» = h.at;
  binding = bound_to types h h.bound;
  parameters = all_parameters h q;
  result = q.signature.result;
  locals = c.variables;
  body = c.body;
}

abbrev framed : Map → Head → Option Parameters → Contents → Option TypedProcedure
framed types h None c = None
framed types h (Some q) c = Some (typed_of types h q c)

-- no statements among procedures
judged_body : (u : Around) (p : Written_procedure) (h : Head) (forward : Bool) → (procedure_judged u p h forward).contents.body ≡ []
judged_body u p h true = refl
judged_body u p h false = refl

pub procedures_body : (u : Around) (ps : List Written_procedure) (hs : List Head) → (procedures_judged u ps hs).contents.body ≡ []
procedures_body u [] hs = refl
procedures_body u (p ∷ ps) [] = refl
procedures_body u (p ∷ ps) (h ∷ hs) = both_empty (procedure_judged u p h p.forward).contents.body (procedures_judged u ps hs).contents.body (judged_body u p h p.forward) (procedures_body u ps hs)

module _ (IsConstant : Value → Type 0) (shown : QName → Option Desc) (m : TypedModule) (content : Contents) (out : is_out m.name ≡ false) where
  abbrev S : List TypedType → TypeRef → Type 0
  S own t = Stands m.name shown own t

  abbrev B : Level → Around → Type 0
  B l u = BlockAt IsConstant shown m content l u

  abbrev I : Level → Contents → Type 0
  I l c = Included IsConstant shown m content l c

  abbrev N : List TypedType → Option TypedProcedure → ℕ → ℕ → Entity → Type 0
  N own p level scope e = NameIs IsConstant shown m content own p level scope e

  abbrev HS : List TypedType → ℕ → Head → Type 0
  HS own scope h = HeadStands IsConstant m.name shown out own scope h

  -- THE BODIES IN A PART

  module _ (Also : Around → Type 0) where
    abbrev pub AreJudged : List TypedProcedure → Type 0
    AreJudged ps = AllByRecursion (IsJudgedAlso Also IsConstant shown m content) ps

    -- the bodies of procedures, and that of the part
    pub record PartIs (l : Level) (c : Contents) : Type 0 where
      pub procedures : AreJudged c.procedures
      pub body : IsJudged IsConstant shown m content (frame l) c.body
      pub also : Also body.u
      pub placed : IsPlaced l body.u
      pub full : IsFull IsConstant shown m content c
      pub bound : BoundStands IsConstant shown m content l c
      pub own : BodyOwn IsConstant shown m content l c.bound body.u

    abbrev pub IsBlock : (Around → Part) → Type 0
    IsBlock f = (l : Level) (u : Around) → B l u → Also u → IsOpened IsConstant shown m content l u → IsQuiet u → (f u).notes.broken ≡ [] → I l (f u).contents → PartIs l (f u).contents

    pub record IsProcedure (p : Written_procedure) : Type 0 where
      pub heading : AreGoodHeadings IsConstant m.name shown out (p ∷ [])
      pub well : IsWellHeading p
      pub inside : IsBlock p.inside

    abbrev pub AreProcedures : List Written_procedure → Type 0
    AreProcedures ps = AllByRecursion IsProcedure ps

    pub headings_good : (ps : List Written_procedure) → AreProcedures ps → AreGoodHeadings IsConstant m.name shown out ps
    headings_good [] g = tt
    headings_good (p ∷ ps) g = (g.0.heading.0, headings_good ps g.1)

    pub headings_well : (ps : List Written_procedure) → AreProcedures ps → AllByRecursion IsWellHeading ps
    headings_well ps g = all_of IsProcedure IsWellHeading ps (λ p h. h.well) g

  -- the body of a part, judged at a level
  pub stands_at : (l : Level) (u : Around) → B l u → StandsAround IsConstant shown m content (frame l) u
  stands_at l u b = record { knows = b.knows; below = b.below; names = b.names; guards = b.guards; result = b.result; in_loop = b.in_loop; within = b.within; receiver = b.receiver }

  -- WHAT IS KNOWN IN A PROCEDURE

  -- what is known behind a heading
  pub record KnownBehind (l : Level) (u : Around) (k : Known) : Type 0 where
    pub entity : EntityStands IsConstant m.name shown u.own k.what
    pub below : k.scope ≤ u.scope
    pub name : N u.own (frame l) u.level k.scope k.what

  inside_stands : (own more : List TypedType) (h : Head) (e : Entity) → InsideEntity IsConstant m.name shown out own h e → EntityStands IsConstant m.name shown more e
  inside_stands own more h (entity.Constant v) i = absurd i
  inside_stands own more h (entity.TypeName t) i = absurd i
  inside_stands own more h (entity.Variable v t) i = tt
  inside_stands own more h (entity.Procedure q s) i = tt
  inside_stands own more h (entity.Forward q s) i = tt
  inside_stands own more h (entity.Module n) i = absurd i
  inside_stands own more h (entity.Predeclared c) i = tt
  inside_stands own more h entity.LeftOut i = tt
  inside_stands own more h entity.Unsound i = tt

  inside_frame : (own : List TypedType) (types : Map) (h : Head) (o : Option Parameters) (c : Contents) (v : Variable) (t : TypeRef) → IfThere (λ p. IsParameter (all_parameters h p) v t × S own t) o → IsInside (S own) (framed types h o c) v t
  inside_frame own types h None c v t i = tt
  inside_frame own types h (Some q) c v t i = (inr i.0, i.1)

  no_scope : (k n : ℕ) → k ≡ suc n → 1 ≤ n → nat_lt 1 k ≡ false → ⊥
  no_scope k n e h f = not_module IsConstant shown m content k (deep k n e h) f
    where
      deep : (k n : ℕ) → k ≡ suc n → 1 ≤ n → 1 < k
      deep k n e h = omega (arith, e, h)

  inside_name : (own : List TypedType) (types : Map) (h : Head) (c : Contents) (n k : ℕ) → k ≡ suc n → 1 ≤ n → (e : Entity) → InsideEntity IsConstant m.name shown out own h e → N own (framed types h h.parameters c) (suc n) k e
  inside_name own types h c n k d l (entity.Variable v t) i = record { outside = λ e. absurd (no_scope k n d l e); inside = λ e f. inside_frame own types h h.parameters c v t i }
  inside_name own types h c n k d l (entity.Constant v) i = tt
  inside_name own types h c n k d l (entity.TypeName t) i = tt
  inside_name own types h c n k d l (entity.Procedure q s) i = absurd i
  inside_name own types h c n k d l (entity.Forward q s) i = absurd i
  inside_name own types h c n k d l (entity.Module x) i = tt
  inside_name own types h c n k d l (entity.Predeclared x) i = tt
  inside_name own types h c n k d l entity.LeftOut i = tt
  inside_name own types h c n k d l entity.Unsound i = tt

  some_scope : (l : Level) (u : Around) → IsPlaced l u → 1 ≤ u.scope
  some_scope AtModule u p = let e = p.1.0 in omega (arith, e)
  some_scope (Within f) u p = let e = p.1.1 in omega (arith, e)

  deeper : (n : ℕ) → 1 ≤ n → 1 < suc n
  deeper n h = omega (arith, h)

  framed_result : (types : Map) (h : Head) (o : Option Parameters) (c : Contents) → result_in o ≡ result_of (framed types h o c)
  framed_result types h None c = refl
  framed_result types h (Some q) c = refl

  -- THE RECEIVER

  -- somewhere in the module it is bound to that record
  pub record IsBoundWithin (b : BoundAs) : Type 0 where
    pub w : Around
    pub within : IsWithin IsConstant shown m content w
    pub is : received_as (map_of w) b.receiver b.of ≡ Some b.owner

  abbrev pub HeadBound : Head → Type 0
  HeadBound h = IfThere IsBoundWithin h.bound

  as_self : (types : Map) (x : Ident) (b : BoundAs) (k : Receiver) → received_as types k b.of ≡ Some b.owner → IsReceivedAs types (self_by x b k).passing (self_by x b k).of b.owner
  as_self types x b receiver.Record e = e
  as_self types x b receiver.Pointer e = e

  receiver_stands : (types : Map) (h : Head) (o : Option Parameters) (c : Contents) → HeadBound h → ReceiverStands IsConstant shown m content (framed types h o c) (received h)
  receiver_stands types h None c k = tt
  receiver_stands types h (Some q) c k = by h.self h.bound refl refl k
    where
      by : (s : Option Ident) (o : Option BoundAs) → h.self ≡ s → h.bound ≡ o → IfThere IsBoundWithin o → ReceiverStands IsConstant shown m content (Some (typed_of types h q c)) (received_by s o)
      by None None e f k = tt
      by None (Some b) e f k = tt
      by (Some x) None e f k = tt
      by (Some x) (Some b) e f k =
          let own : self_parameters h h.self h.bound ≡ self_parameter x b ∷ [] = ap (λ s. self_parameters h s h.bound) e ∙ ap (λ o. self_parameters h (Some x) o) f in
          record {
            x = self_parameter x b;
            there = subst (λ l. IsOneOf (l ++ q.parameters) (self_parameter x b)) (sym own) (inl refl);
            is = (self_is x b b.receiver refl).0;
            w = k.w;
            within = k.within;
            record_is = as_self (map_of k.w) x b b.receiver k.is;
          }

  -- what stands around the body of a procedure
  inside_block : (l : Level) (u : Around) → B l u → (h : Head) → HS u.own u.scope h → HeadBound h → AllByRecursion (KnownBehind l u) h.known → (types : Map) (c : Contents) → B (Within (framed types h h.parameters c)) (around_body u h)
  inside_block l u b h s r k types c =
      let p = framed types h h.parameters c in
      record {
        knows = record {
          unit_is = b.knows.unit_is;
          shown_is = b.knows.shown_is;
          own = b.knows.own;
          known = all_both (λ (k : Known). EntityStands IsConstant m.name shown u.own k.what) h.inside h.known
              (all_of (λ (k : Known). (k.scope ≡ suc u.scope) × InsideEntity IsConstant m.name shown out u.own h k.what) (λ (k : Known). EntityStands IsConstant m.name shown u.own k.what) h.inside (λ k i. inside_stands u.own u.own h k.what i.1) s.inside)
              (all_of (KnownBehind l u) (λ (k : Known). EntityStands IsConstant m.name shown u.own k.what) h.known (λ k i. i.entity) k);
        };
        below = all_both (λ (k : Known). k.scope ≤ suc u.scope) h.inside h.known
            (all_of (λ (k : Known). (k.scope ≡ suc u.scope) × InsideEntity IsConstant m.name shown out u.own h k.what) (λ (k : Known). k.scope ≤ suc u.scope) h.inside (λ k i. same_most k.scope (suc u.scope) i.0) s.inside)
            (all_of (KnownBehind l u) (λ (k : Known). k.scope ≤ suc u.scope) h.known (λ k i. one_more k.scope u.scope i.below) k);
        names = all_both (λ (k : Known). N u.own p (suc u.scope) k.scope k.what) h.inside h.known
            (all_of (λ (k : Known). (k.scope ≡ suc u.scope) × InsideEntity IsConstant m.name shown out u.own h k.what) (λ (k : Known). N u.own p (suc u.scope) k.scope k.what) h.inside (λ k i. inside_name u.own types h c u.scope k.scope i.0 (some_scope l u b.placed) k.what i.1) s.inside)
            (all_of (KnownBehind l u) (λ (k : Known). N u.own p (suc u.scope) k.scope k.what) h.known (λ k i. outer_name IsConstant shown m content u.own (frame l) p u.level k.scope u.scope i.below k.what i.name) k);
        placed = (no_nothing h.path 47 [], (refl, deeper u.scope (some_scope l u b.placed)));
        guards = refl;
        result = framed_result types h h.parameters c;
        in_loop = refl;
        grown = b.grown;
        within = record { unit_is = b.within.unit_is; shown_is = b.within.shown_is; own = b.within.own };
        receiver = receiver_stands types h h.parameters c r;
      }

  -- ONE PROCEDURE AND THOSE INSIDE IT

  head_made : (o : Option Parameters) → IfThere (λ p. AllByRecursion (IsDescribed IsConstant) p.made) o → AllByRecursion (IsDescribed IsConstant) (types_of_head o)
  head_made None h = tt
  head_made (Some p) h = h

  head_over : (own : List TypedType) → Grows own m.types → (o : Option Parameters) → IfThere (λ p. AllByRecursion (IsOver (S own)) p.made) o → AllByRecursion (IsOver (S m.types)) (types_of_head o)
  head_over own g None h = tt
  head_over own g (Some p) h = over_all m.name shown own m.types g p.made h

  framed_variables : (types : Map) (h : Head) (o : Option Parameters) (c : Contents) (x : TypedVariable) → IsOneOf c.variables x → IsVariableAt IsConstant shown m content (Within (framed types h o c)) x
  framed_variables types h None c x i = tt
  framed_variables types h (Some q) c x i = i

  -- the types of parameters, by those of the signature
  parameters_stand : (own : List TypedType) (ps : List TypedParameter) (ks : List (Mode × TypeRef)) → AreOf ps ks → AllByRecursion (λ (k : Mode × TypeRef). S own k.1) ks → AllByRecursion (λ (x : TypedParameter). S own x.of) ps
  parameters_stand own [] ks a h = tt
  parameters_stand own (p ∷ ps) [] a h = absurd a
  parameters_stand own (p ∷ ps) (k ∷ ks) a h = (subst (S own) (sym a.0.0) h.0, parameters_stand own ps ks a.1 h.1)

  module _ (Also : Around → Type 0) where
    -- bodies that are judged, and what else is added
    pub record Adds (c : Contents) : Type 0 where
      pub procedures : AreJudged Also c.procedures
      pub full : IsFull IsConstant shown m content c

    framed_judged : (own : List TypedType) → Grows own m.types → (types : Map) (h : Head) → AllByRecursion (λ (x : TypedParameter). S own x.of) (self_parameters h h.self h.bound) → (o : Option Parameters) (c : Contents) → IfThere (SignatureStands IsConstant m.name shown out own) o → (j : IsJudged IsConstant shown m content (framed types h o c) c.body) → Also j.u → AreJudged Also (typed_procedure types h o c)
    framed_judged own g types h self None c s j a = tt
    framed_judged own g types h self (Some q) c s j a =
        let all = all_both (λ (x : TypedParameter). S own x.of) (self_parameters h h.self h.bound) q.parameters self (parameters_stand own q.parameters q.signature.params s.answer s.params) in (
          (
            record {
              body = j;
              result = s.plain;
              parameters = all_of (λ (x : TypedParameter). S own x.of) (λ (x : TypedParameter). S m.types x.of) (all_parameters h q) (λ x. stands_grown m.name shown own m.types g x.of) all;
              answer = there_of (S own) (S m.types) q.signature.result (λ t. stands_grown m.name shown own m.types g t) s.result;
            },
            a,
          ),
          tt,
        )

    procedure_is : (path : List ℕ) (l : Level) (u : Around) → B l u → (p : Written_procedure) → IsProcedure Also p → (h : Head) → HS u.own u.scope h → HeadBound h → AllByRecursion (KnownBehind l u) h.known → IsQuietHead path h → Also (around_body u h) → (forward : Bool) → (procedure_judged u p h forward).notes.broken ≡ [] → I l (procedure_judged u p h forward).contents → Adds (procedure_judged u p h forward).contents
    procedure_is path l u b p g h s r k quiet_head a true n i = record { procedures = tt; full = record { constants = tt; types = head_made h.parameters s.made; bound = tt; over = head_over u.own b.grown h.parameters s.over } }
    procedure_is path l u b p g h s o k quiet_head a false n i =
        let c = (p.inside (around_body u h)).contents in
        let types = map_of u in
        let f = framed types h h.parameters c in
        let own = typed_procedure types h h.parameters c in
        let quiet = back_empty (closing_judged h.name p.closing).broken _ (back_empty h.notes.broken _ n) in
        let r = g.inside (Within f) (around_body u h) (inside_block l u b h s o k types c) a tt (inside_quiet path u h quiet_head) quiet (record { variables = λ x j. framed_variables types h h.parameters c x j; procedures = λ q j. i.procedures q (one_right own c.procedures q j); types = grows_then c.types (types_of_head h.parameters ++ c.types) m.types (grows_front (types_of_head h.parameters) c.types) i.types; made = λ t j. i.made t (one_right (types_of_head h.parameters) c.types t j); bound = tt }) in
        record {
          procedures = all_both (IsJudgedAlso Also IsConstant shown m content) own c.procedures (framed_judged u.own b.grown types h s.self h.parameters c s.signature r.body r.also) r.procedures;
          full = record { constants = tt; types = all_both (IsDescribed IsConstant) (types_of_head h.parameters) c.types (head_made h.parameters s.made) r.full.types; bound = tt; over = all_both (IsOver (S m.types)) (types_of_head h.parameters) c.types (head_over u.own b.grown h.parameters s.over) r.full.over };
        }

    pub procedures_are : (path : List ℕ) (l : Level) (u : Around) → B l u → (ps : List Written_procedure) → AreProcedures Also ps → (hs : List Head) → AllByRecursion (HS u.own u.scope) hs → AllByRecursion HeadBound hs → AllByRecursion (λ (h : Head). AllByRecursion (KnownBehind l u) h.known) hs → AllByRecursion (IsQuietHead path) hs → AllByRecursion (λ (h : Head). Also (around_body u h)) hs → (procedures_judged u ps hs).notes.broken ≡ [] → I l (procedures_judged u ps hs).contents → Adds (procedures_judged u ps hs).contents
    procedures_are path l u b [] g hs s r k q a n i = record { procedures = tt; full = none_full IsConstant shown m content }
    procedures_are path l u b (p ∷ ps) g [] s r k q a n i = record { procedures = tt; full = none_full IsConstant shown m content }
    procedures_are path l u b (p ∷ ps) g (h ∷ hs) s r k q d n i =
        let a = (procedure_judged u p h p.forward).contents in
        let c = (procedures_judged u ps hs).contents in
        let one = (procedure_judged u p h p.forward).notes.broken in
        let x = procedure_is path l u b p g.0 h s.0 r.0 k.0 q.0 d.0 p.forward (front_empty one _ n) (first_included IsConstant shown m content l a c i) in
        let y = procedures_are path l u b ps g.1 hs s.1 r.1 k.1 q.1 d.1 (back_empty one _ n) (second_included IsConstant shown m content l a c i) in
        record { procedures = all_both (IsJudgedAlso Also IsConstant shown m content) a.procedures c.procedures x.procedures y.procedures; full = both_full IsConstant shown m content a c x.full y.full }

  judged_bound : (u : Around) (p : Written_procedure) (h : Head) (forward : Bool) → (procedure_judged u p h forward).contents.bound ≡ []
  judged_bound u p h true = refl
  judged_bound u p h false = refl

  pub procedures_bound : (u : Around) (ps : List Written_procedure) (hs : List Head) → (procedures_judged u ps hs).contents.bound ≡ []
  procedures_bound u [] hs = refl
  procedures_bound u (p ∷ ps) [] = refl
  procedures_bound u (p ∷ ps) (h ∷ hs) = both_empty (procedure_judged u p h p.forward).contents.bound (procedures_judged u ps hs).contents.bound (judged_bound u p h p.forward) (procedures_bound u ps hs)

  -- headings against which nothing is said, and the types that they make
  head_unbroken : (u : Around) (p : Written_procedure) (h : Head) (forward : Bool) → (procedure_judged u p h forward).notes.broken ≡ [] → IsUnbroken h
  head_unbroken u p h true n = n
  head_unbroken u p h false n = front_empty h.notes.broken _ n

  pub heads_unbroken : (u : Around) (ps : List Written_procedure) (hs : List Head) → Aligned ps hs → (procedures_judged u ps hs).notes.broken ≡ [] → (h : Head) → IsOneOf hs h → IsUnbroken h
  heads_unbroken u [] [] a n h i = absurd i
  heads_unbroken u [] (g ∷ hs) a n h i = absurd a
  heads_unbroken u (p ∷ ps) [] a n h i = absurd i
  heads_unbroken u (p ∷ ps) (g ∷ hs) a n h (inl e) = subst IsUnbroken e (head_unbroken u p g p.forward (front_empty (procedure_judged u p g p.forward).notes.broken _ n))
  heads_unbroken u (p ∷ ps) (g ∷ hs) a n h (inr i) = heads_unbroken u ps hs a.1 (back_empty (procedure_judged u p g p.forward).notes.broken _ n) h i

  same_types : (o : Option Parameters) → types_of o ≡ types_of_head o
  same_types None = refl
  same_types (Some p) = refl

  types_judged : (u : Around) (p : Written_procedure) (h : Head) (forward : Bool) → Lies (types_of_head h.parameters) (procedure_judged u p h forward).contents.types
  types_judged u p h true = lies_same (types_of_head h.parameters)
  types_judged u p h false = lies_behind (types_of_head h.parameters) (p.inside (around_body u h)).contents.types

  pub types_there : (u : Around) (ps : List Written_procedure) (hs : List Head) → Aligned ps hs → (h : Head) → IsOneOf hs h → Lies (types_of h.parameters) (procedures_judged u ps hs).contents.types
  types_there u [] [] a h i = absurd i
  types_there u [] (g ∷ hs) a h i = absurd a
  types_there u (p ∷ ps) [] a h i = absurd i
  types_there u (p ∷ ps) (g ∷ hs) a h (inl e) =
      let one = (procedure_judged u p g p.forward).contents.types in
      let rest = (procedures_judged u ps hs).contents.types in
      subst (λ (x : Head). Lies (types_of x.parameters) (one ++ rest)) e
      (subst (λ ts. Lies ts (one ++ rest)) (sym (same_types g.parameters)) (lies_then (types_of_head g.parameters) one (one ++ rest) (types_judged u p g p.forward) (lies_behind one rest)))
  types_there u (p ∷ ps) (g ∷ hs) a h (inr i) =
      let one = (procedure_judged u p g p.forward).contents.types in
      let rest = (procedures_judged u ps hs).contents.types in
      lies_then (types_of h.parameters) rest (one ++ rest) (types_there u ps hs a.1 h i) (lies_front one rest)

  -- THE PROCEDURES ARE THOSE OF THE HEADINGS

  pub record HasProcedure (ps : List TypedProcedure) (h : Head) (q : Parameters) : Type 0 where
    pub p : TypedProcedure
    pub there : IsOneOf ps p
    pub name : p.name ≡ h.path
    pub result : p.result ≡ q.signature.result
    pub parameters : p.parameters ≡ all_parameters h q

  pub grown_left : (xs ys : List TypedProcedure) (h : Head) (q : Parameters) → HasProcedure xs h q → HasProcedure (xs ++ ys) h q
  grown_left xs ys h q r = record { p = r.p; there = one_left xs ys r.p r.there; name = r.name; result = r.result; parameters = r.parameters }

  grown_right : (xs ys : List TypedProcedure) (h : Head) (q : Parameters) → HasProcedure ys h q → HasProcedure (xs ++ ys) h q
  grown_right xs ys h q r = record { p = r.p; there = one_right xs ys r.p r.there; name = r.name; result = r.result; parameters = r.parameters }

  typed_there : (types : Map) (h : Head) (o : Option Parameters) (c : Contents) (q : Parameters) → o ≡ Some q → HasProcedure (typed_procedure types h o c) h q
  typed_there types h None c q e = absurd cc
  typed_there types h (Some r) c q e = record { p = typed_of types h r c; there = inl refl; name = refl; result = ap (λ (x : Parameters). x.signature.result) (same r q e); parameters = ap (λ (x : Parameters). all_parameters h x) (same r q e) }
    where
      same : (r q : Parameters) → Some r ≡ Some q → r ≡ q
      same r q e = cc

  judged_there : (u : Around) (p : Written_procedure) (h : Head) (q : Parameters) → h.parameters ≡ Some q → (forward : Bool) → forward ≡ false → HasProcedure (procedure_judged u p h forward).contents.procedures h q
  judged_there u p h q e true f = absurd cc
  judged_there u p h q e false f =
      let c = (p.inside (around_body u h)).contents in
      grown_left (typed_procedure (map_of u) h h.parameters c) c.procedures h q (typed_there (map_of u) h h.parameters c q e)

  pub heading_there : (u : Around) (ps : List Written_procedure) (hs : List Head) → Aligned ps hs → (h : Head) → IsOneOf hs h → (q : Parameters) → h.parameters ≡ Some q → h.forward ≡ false → HasProcedure (procedures_judged u ps hs).contents.procedures h q
  heading_there u [] [] a h i q e f = absurd i
  heading_there u [] (g ∷ hs) a h i q e f = absurd a
  heading_there u (p ∷ ps) [] a h i q e f = absurd a
  heading_there u (p ∷ ps) (g ∷ hs) a h (inl d) q e f =
      let same : g.parameters ≡ Some q = ap (λ (x : Head). x.parameters) d ∙ e in
      let r = judged_there u p g q same p.forward (sym a.0 ∙ ap (λ (x : Head). x.forward) d ∙ f) in
      subst (λ (x : Head). HasProcedure (procedures_judged u (p ∷ ps) (g ∷ hs)).contents.procedures x q) d (grown_left (procedure_judged u p g p.forward).contents.procedures (procedures_judged u ps hs).contents.procedures g q r)
  heading_there u (p ∷ ps) (g ∷ hs) a h (inr i) q e f = grown_right (procedure_judged u p g p.forward).contents.procedures (procedures_judged u ps hs).contents.procedures h q (heading_there u ps hs a.1 h i q e f)
