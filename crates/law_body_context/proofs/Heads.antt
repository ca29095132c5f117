-- Headings: what is known inside one is its receiver and its parameters, and behind it is its name.
use Rattle.std.proofs.Common.{◌≡◌, refl, sym, ap, ◌∙◌, subst, ℕ, suc, ◌≤◌, Bool, true, false, List, [], ◌∷◌, ◌++◌, Option, Some, None, inl, arith}
use Rattle.std.specs.Prelude.{nat_lt, is_some}
use Rattle.std.specs.Option.{option_map}
use Rattle.std.specs.List.{AllByRecursion}
use Rattle.std.proofs.lemmas.Bool.Decides.{nat_tests}
use Rattle.ob_tree.specs.declared.pos.Pos.{Pos}
use Rattle.ob_tree.specs.declared.names.QName.{QName}
use Rattle.ob_tree.specs.declared.ident.Ident.{Ident}
use Rattle.ob_tree.specs.declared.ident.Mark.{Mark}
use Rattle.ob_tree.specs.declared.decl.Receiver.{Receiver as RawReceiver}
use Rattle.ob_types.specs.declared.types.Mode.{Mode}
use Rattle.ob_types.specs.declared.types.TypeRef.{TypeRef}
use Rattle.ob_types.specs.declared.value.Value.{Value}
use Rattle.ob_types.specs.declared.desc.Desc.{Desc}
use Rattle.ob_types.specs.declared.desc.Receiver.{Receiver}
use Rattle.ob_types.specs.declared.desc.Receiver.TheVariants as receiver
use Rattle.ob_types.specs.declared.typed.Variable.{Variable}
use Rattle.ob_types.specs.declared.typed.Variable.TheVariants as variable
use Rattle.ob_types.specs.declared.typed.TypedType.{TypedType}
use Rattle.ob_types.specs.declared.typed.TypedParameter.{TypedParameter}
use Rattle.ob_rules.specs.declared.entity.Entity.{Entity}
use Rattle.ob_rules.specs.declared.entity.Entity.TheVariants as entity
use Rattle.ob_rules.specs.declared.entity.Known.{Known}
use Rattle.ob_rules.specs.Judged.{Judged, sound, paired}
use Rattle.ob_rules.specs.Names.{Around, type_named, is_out}
use Rattle.ob_rules.specs.Types.{Parameters, Sections, parameters_in, marked, inner}
use Rattle.ob_rules.specs.Headings.{WrittenHeading, Head, BoundAs, bound_to, owner_of, owner_if, self_of, self_parameter, knows_receiver, path_by, forward_name, bound_in, as_parameters, heading_parameters, head_from, head_of, types_of}
use Rattle.ob_rules.specs.Declarations.{self_parameters}
use Rattle.law_typing_forms.specs.Said.{IsOneOf}
use Rattle.law_methods_described.proofs.Nodes.{Has, then_has, anew_has}
use Rattle.law_typing.specs.Makes.{IfThere}
use Rattle.law_body_context.specs.Knows.{Grows, Stands, IsDescribed, EntityStands, Knows, IsPlain}
use Rattle.law_body_context.specs.Judged.{AreOf, IsParameter}
use Rattle.law_body_context.proofs.Lists.{one_right, all_of, all_filtered, there_of}
use Rattle.law_body_context.proofs.Standing.{grows_front, stands_grown}
use Rattle.law_body_context.proofs.Named.{type_named_stands}
use Rattle.law_body_context.specs.Order.{IsOver}
use Rattle.law_body_context.proofs.InOrder.{over_all}
use Rattle.law_body_context.proofs.Over.{AreSectionsOver, ParametersOver, parameters_over}
use Rattle.law_body_context.proofs.Sections.{AreGoodSections, ParametersAre, ParameterEntity, SectionsAre, parameters_are, inner_known, anew_are}

-- the parameters of a procedure, its receiver first
abbrev pub all_parameters : Head → Parameters → List TypedParameter
all_parameters h p = self_parameters h h.self h.bound ++ p.parameters

receiver_around : (u : Around) (r : Option RawReceiver) (b : Option (Option BoundAs)) → knows_receiver u r b ≡ record u { known = (knows_receiver u r b).known }
receiver_around u None b = refl
receiver_around u (Some r) None = refl
receiver_around u (Some r) (Some None) = refl
receiver_around u (Some r) (Some (Some b)) = refl

pub self_is : (x : Ident) (b : BoundAs) (k : Receiver) → b.receiver ≡ k → (self_of x b.receiver ≡ variable.Parameter (self_parameter x b).passing (self_parameter x b).name) × (b.of ≡ (self_parameter x b).of)
self_is x b receiver.Record e = by b e
  where
    by : (b : BoundAs) → b.receiver ≡ receiver.Record → (self_of x b.receiver ≡ variable.Parameter (self_parameter x b).passing (self_parameter x b).name) × (b.of ≡ (self_parameter x b).of)
    by b e = rw e (refl, refl)
self_is x b receiver.Pointer e = by b e
  where
    by : (b : BoundAs) → b.receiver ≡ receiver.Pointer → (self_of x b.receiver ≡ variable.Parameter (self_parameter x b).passing (self_parameter x b).name) × (b.of ≡ (self_parameter x b).of)
    by b e = rw e (refl, refl)

module _ (IsConstant : Value → Type 0) (unit : List ℕ) (shown : QName → Option Desc) (out : is_out unit ≡ false) where
  abbrev S : List TypedType → TypeRef → Type 0
  S own t = Stands unit shown own t

  abbrev K : Around → Type 0
  K u = Knows IsConstant unit shown u

  -- what is known inside is a parameter, where the heading keeps all rules
  abbrev pub InsideEntity : List TypedType → Head → Entity → Type 0
  InsideEntity own h (entity.Variable v t) = IfThere (λ p. IsParameter (all_parameters h p) v t × S own t) h.parameters
  InsideEntity own h entity.Unsound = Unit {0}
  InsideEntity own h e = ⊥

  pub record SignatureStands (own : List TypedType) (p : Parameters) : Type 0 where
    pub params : AllByRecursion (λ (k : Mode × TypeRef). S own k.1) p.signature.params
    pub answer : AreOf p.parameters p.signature.params
    pub result : IfThere (S own) p.signature.result
    pub plain : IfThere (IsPlain IsConstant unit shown) p.signature.result

  -- a heading, where the types that it makes are among the own ones
  pub record HeadStands (own : List TypedType) (scope : ℕ) (h : Head) : Type 0 where
    pub made : IfThere (λ p. AllByRecursion (IsDescribed IsConstant) p.made) h.parameters
    pub signature : IfThere (SignatureStands own) h.parameters
    pub inside : AllByRecursion (λ (k : Known). (k.scope ≡ suc scope) × InsideEntity own h k.what) h.inside
    pub free : h.is_bound ≡ false → self_parameters h h.self h.bound ≡ []
    pub self : AllByRecursion (λ (x : TypedParameter). S own x.of) (self_parameters h h.self h.bound)
    pub over : IfThere (λ p. AllByRecursion (IsOver (S own)) p.made) h.parameters

  inside_grown : (own more : List TypedType) → Grows own more → (h : Head) (e : Entity) → InsideEntity own h e → InsideEntity more h e
  inside_grown own more g h (entity.Variable v t) i = there_of (λ p. IsParameter (all_parameters h p) v t × S own t) (λ p. IsParameter (all_parameters h p) v t × S more t) h.parameters (λ p k. (k.0, stands_grown unit shown own more g t k.1)) i
  inside_grown own more g h (entity.Constant v) i = i
  inside_grown own more g h (entity.TypeName t) i = i
  inside_grown own more g h (entity.Procedure q s) i = i
  inside_grown own more g h (entity.Forward q s) i = i
  inside_grown own more g h (entity.Module n) i = i
  inside_grown own more g h (entity.Predeclared c) i = i
  inside_grown own more g h entity.LeftOut i = i
  inside_grown own more g h entity.Unsound i = i

  -- where nothing is said of the parameters
  pub inside_none : (own : List TypedType) (h g : Head) → g.parameters ≡ None → (e : Entity) → InsideEntity own h e → InsideEntity own g e
  inside_none own h g n (entity.Variable v t) i = subst (λ o. IfThere (λ p. IsParameter (all_parameters g p) v t × S own t) o) (sym n) tt
  inside_none own h g n (entity.Constant v) i = i
  inside_none own h g n (entity.TypeName t) i = i
  inside_none own h g n (entity.Procedure q s) i = i
  inside_none own h g n (entity.Forward q s) i = i
  inside_none own h g n (entity.Module m) i = i
  inside_none own h g n (entity.Predeclared c) i = i
  inside_none own h g n entity.LeftOut i = i
  inside_none own h g n entity.Unsound i = i

  -- the same heading, with other names known behind it
  pub inside_again : (own : List TypedType) (h : Head) (ks : List Known) (e : Entity) → InsideEntity own h e → InsideEntity own (record h { known = ks }) e
  inside_again own h ks (entity.Variable v t) i = i
  inside_again own h ks (entity.Constant v) i = i
  inside_again own h ks (entity.TypeName t) i = i
  inside_again own h ks (entity.Procedure q s) i = i
  inside_again own h ks (entity.Forward q s) i = i
  inside_again own h ks (entity.Module m) i = i
  inside_again own h ks (entity.Predeclared c) i = i
  inside_again own h ks entity.LeftOut i = i
  inside_again own h ks entity.Unsound i = i

  signature_grown : (own more : List TypedType) → Grows own more → (p : Parameters) → SignatureStands own p → SignatureStands more p
  signature_grown own more g p s = record {
    params = all_of (λ (k : Mode × TypeRef). S own k.1) (λ (k : Mode × TypeRef). S more k.1) p.signature.params (λ k. stands_grown unit shown own more g k.1) s.params;
    answer = s.answer;
    result = there_of (S own) (S more) p.signature.result (λ t. stands_grown unit shown own more g t) s.result;
    plain = s.plain;
  }

  pub head_grown : (own more : List TypedType) → Grows own more → (scope : ℕ) (h : Head) → HeadStands own scope h → HeadStands more scope h
  head_grown own more g scope h s = record {
    made = s.made;
    signature = there_of (SignatureStands own) (SignatureStands more) h.parameters (λ p. signature_grown own more g p) s.signature;
    inside = all_of (λ (k : Known). (k.scope ≡ suc scope) × InsideEntity own h k.what) (λ (k : Known). (k.scope ≡ suc scope) × InsideEntity more h k.what) h.inside (λ k i. (i.0, inside_grown own more g h k.what i.1)) s.inside;
    free = s.free;
    self = all_of (λ (x : TypedParameter). S own x.of) (λ (x : TypedParameter). S more x.of) (self_parameters h h.self h.bound) (λ x. stands_grown unit shown own more g x.of) s.self;
    over = there_of (λ p. AllByRecursion (IsOver (S own)) p.made) (λ p. AllByRecursion (IsOver (S more)) p.made) h.parameters (λ p i. over_all unit shown own more g p.made i) s.over;
  }

  -- THE RECEIVER

  bound_stands : (own : List TypedType) (at : Pos) (var : Bool) (t : TypeRef) (quiet : Bool) (q : Option QName) → S own t → Has (λ (b : BoundAs). S own b.of) (bound_to at var t quiet q)
  bound_stands own at var t quiet (Some q) h = h
  bound_stands own at var t true None h = tt
  bound_stands own at var t false None h = tt

  owner_stands : (u : Around) → K u → (r : Option RawReceiver) → Has (IfThere (λ (b : BoundAs). S u.own b.of)) (owner_if u r)
  owner_stands u k None = tt
  owner_stands u k (Some r) =
      then_has (λ (b : BoundAs). S u.own b.of) (IfThere (λ (b : BoundAs). S u.own b.of)) (owner_of u r) (λ b. sound (Some b))
      (then_has (S u.own) (λ (b : BoundAs). S u.own b.of) (type_named u (record { qualifier = None; ident = r.owner })) _ (type_named_stands IsConstant unit shown u k (record { qualifier = None; ident = r.owner })) (λ t h. bound_stands u.own r.owner.pos r.is_var t _ _ h))
      (λ b h. h)

  -- what is known of it, and what was known before
  with_receiver : (P : Known → Type 0) (u : Around) (r : Option RawReceiver) (b : Option (Option BoundAs)) → AllByRecursion P u.known → ((x : RawReceiver) → r ≡ Some x → P (record { name = x.ident.name; scope = u.scope; what = entity.Unsound })) → ((x : RawReceiver) (c : BoundAs) → r ≡ Some x → b ≡ Some (Some c) → P (record { name = x.ident.name; scope = u.scope; what = entity.Variable (self_of x.ident c.receiver) c.of })) → AllByRecursion P (knows_receiver u r b).known
  with_receiver P u None b h f g = h
  with_receiver P u (Some r) None h f g = (f r refl, h)
  with_receiver P u (Some r) (Some None) h f g = (f r refl, h)
  with_receiver P u (Some r) (Some (Some c)) h f g = (g r c refl refl, h)

  receiver_known : (u : Around) → K u → (r : Option RawReceiver) (b : Option (Option BoundAs)) → K (record u { known = (knows_receiver u r b).known })
  receiver_known u k r b = record {
    unit_is = k.unit_is;
    shown_is = k.shown_is;
    own = k.own;
    known = with_receiver (λ k. EntityStands IsConstant unit shown u.own k.what) u r b k.known (λ x e. tt) (λ x c e f. tt);
  }

  -- A HEADING

  abbrev head_parameters : Option Mark → Option (Option BoundAs) → Option Parameters → Option Parameters
  head_parameters m b s = as_parameters (paired (paired m b) s)

  three_have : (P : Parameters → Type 0) (m : Option Mark) (b : Option (Option BoundAs)) (s : Option Parameters) → IfThere P s → IfThere P (head_parameters m b s)
  three_have P None b s h = tt
  three_have P (Some m) None s h = tt
  three_have P (Some m) (Some b) None h = tt
  three_have P (Some m) (Some b) (Some p) h = h

  signature_of : (own : List TypedType) (p : Parameters) → ParametersAre IsConstant unit shown out own p → SignatureStands (p.made ++ own) p
  signature_of own p h = record { params = h.params; answer = h.answer; result = there_of (S own) (S (p.made ++ own)) p.signature.result (λ t. stands_grown unit shown own (p.made ++ own) (grows_front p.made own) t) h.result; plain = h.plain }

  three_signed : (own : List TypedType) (m : Option Mark) (b : Option (Option BoundAs)) (s : Option Parameters) → IfThere (ParametersAre IsConstant unit shown out own) s → IfThere (SignatureStands (types_of (head_parameters m b s) ++ own)) (head_parameters m b s)
  three_signed own None b s h = tt
  three_signed own (Some m) None s h = tt
  three_signed own (Some m) (Some b) None h = tt
  three_signed own (Some m) (Some b) (Some p) h = signature_of own p h

  always : {A : Type 0} (P : A → Type 0) (o : Option A) → ((x : A) → P x) → IfThere P o
  always P None f = tt
  always P (Some x) f = f x

  three_entity : (own : List TypedType) (self : List TypedParameter) (m : Option Mark) (b : Option (Option BoundAs)) (s : Option Parameters) (v : Variable) (t : TypeRef) → IfThere (λ p. IsParameter p.parameters v t × S (p.made ++ own) t) s → IfThere (λ p. IsParameter (self ++ p.parameters) v t × S (types_of (head_parameters m b s) ++ own) t) (head_parameters m b s)
  three_entity own self None b s v t h = tt
  three_entity own self (Some m) None s v t h = tt
  three_entity own self (Some m) (Some b) None v t h = tt
  three_entity own self (Some m) (Some b) (Some p) v t h = ((h.0.0, (one_right self p.parameters h.0.0 h.0.1.0, h.0.1.1)), h.1)

  parameter_inside : (own more : List TypedType) (h : Head) (o : Option Parameters) → ((v : Variable) (t : TypeRef) → IfThere (λ p. IsParameter p.parameters v t × S (p.made ++ own) t) o → IfThere (λ p. IsParameter (all_parameters h p) v t × S more t) h.parameters) → (e : Entity) → ParameterEntity IsConstant unit shown out own o e → InsideEntity more h e
  parameter_inside own more h o f (entity.Constant v) i = i
  parameter_inside own more h o f (entity.TypeName t) i = i
  parameter_inside own more h o f (entity.Variable v t) i = f v t i
  parameter_inside own more h o f (entity.Procedure q s) i = i
  parameter_inside own more h o f (entity.Forward q s) i = i
  parameter_inside own more h o f (entity.Module n) i = i
  parameter_inside own more h o f (entity.Predeclared c) i = i
  parameter_inside own more h o f entity.LeftOut i = i
  parameter_inside own more h o f entity.Unsound i = tt

  free_of : (h : Head) (r : Option RawReceiver) (b : Option BoundAs) → is_some r ≡ false → self_parameters h (option_map (λ r. r.ident) r) b ≡ []
  free_of h None b e = refl
  free_of h (Some r) b e = absurd cc

  not_above : (n k : ℕ) → k ≤ n → nat_lt n k ≡ true → ⊥
  not_above n k h e = grind (arith, nat_tests)

  module _ (u : Around) (below : AllByRecursion (λ (k : Known). k.scope ≤ u.scope) u.known) (h : WrittenHeading) (forward : Bool) (m : Judged Mark) (b : Judged (Option BoundAs)) (s : Sections) (are : SectionsAre IsConstant unit shown out u.own (suc u.scope) (knows_receiver (inner u) h.receiver b.node).known s) (owner : IfThere (IfThere (λ (b : BoundAs). S u.own b.of)) b.node) (over : IfThere (ParametersOver IsConstant unit shown out u.own) s.found.node) where
    abbrev hd : Head
    hd = head_from u h forward m b s

    abbrev more : List TypedType
    more = types_of hd.parameters ++ u.own

    abbrev Inside : Known → Type 0
    Inside k = nat_lt u.scope k.scope ≡ true → (k.scope ≡ suc u.scope) × InsideEntity more hd k.what

    receiver_inside : (x : RawReceiver) (c : BoundAs) → h.receiver ≡ Some x → b.node ≡ Some (Some c) → IfThere (λ p. IsParameter (all_parameters hd p) (self_of x.ident c.receiver) c.of × S more c.of) hd.parameters
    receiver_inside x c e f =
        let own : self_parameters hd hd.self hd.bound ≡ self_parameter x.ident c ∷ [] = ap (λ r. self_parameters hd (option_map (λ (r : RawReceiver). r.ident) r) (bound_in b.node)) e ∙ ap (λ o. self_parameters hd (Some x.ident) (bound_in o)) f in
        let stands : S u.own c.of = subst (IfThere (IfThere (λ (b : BoundAs). S u.own b.of))) f owner in
        always (λ p. IsParameter (all_parameters hd p) (self_of x.ident c.receiver) c.of × S more c.of) hd.parameters
        (λ p. ((self_parameter x.ident c, (subst (λ l. IsOneOf (l ++ p.parameters) (self_parameter x.ident c)) (sym own) (inl refl), self_is x.ident c c.receiver refl)), stands_grown unit shown u.own more (grows_front (types_of hd.parameters) u.own) c.of stands))

    self_stands : (g : Head) (r : Option RawReceiver) (o : Option (Option BoundAs)) → IfThere (IfThere (λ (b : BoundAs). S u.own b.of)) o → AllByRecursion (λ (x : TypedParameter). S more x.of) (self_parameters g (option_map (λ r. r.ident) r) (bound_in o))
    self_stands g None o s = tt
    self_stands g (Some r) None s = tt
    self_stands g (Some r) (Some None) s = tt
    self_stands g (Some r) (Some (Some c)) s = (subst (S more) (self_is r.ident c c.receiver refl).1 (stands_grown unit shown u.own more (grows_front (types_of hd.parameters) u.own) c.of s), tt)

    from_stands : HeadStands more u.scope hd
    from_stands = record {
      made = three_have (λ p. AllByRecursion (IsDescribed IsConstant) p.made) m.node b.node s.found.node (there_of (ParametersAre IsConstant unit shown out u.own) (λ p. AllByRecursion (IsDescribed IsConstant) p.made) s.found.node (λ p i. i.made) are.found);
      signature = three_signed u.own m.node b.node s.found.node are.found;
      inside = all_filtered (λ (k : Known). (k.scope ≡ suc u.scope) × InsideEntity more hd k.what) (λ k. nat_lt u.scope k.scope) s.known
          (are.known Inside
          (with_receiver Inside (inner u) h.receiver b.node (all_of (λ (k : Known). k.scope ≤ u.scope) Inside u.known (λ k i e. absurd (not_above u.scope k.scope i e)) below) (λ x e f. (refl, tt)) (λ x c e f g. (refl, receiver_inside x c e f)))
          (λ k e i f. (e, parameter_inside u.own more hd s.found.node (λ v t. three_entity u.own (self_parameters hd hd.self hd.bound) m.node b.node s.found.node v t) k.what i)));
      free = λ e. free_of hd h.receiver (bound_in b.node) e;
      self = self_stands hd h.receiver b.node owner;
      over = three_have (λ p. AllByRecursion (IsOver (S more)) p.made) m.node b.node s.found.node (there_of (ParametersOver IsConstant unit shown out u.own) (λ p. AllByRecursion (IsOver (S more)) p.made) s.found.node (λ p i. over_all unit shown u.own more (grows_front (types_of hd.parameters) u.own) p.made i) over);
    }

  receiver_over : (u : Around) → K u → (r : Option RawReceiver) (b : Option (Option BoundAs)) → K (record (knows_receiver (inner u) r b) { own = u.own })
  receiver_over u k None b = record { unit_is = k.unit_is; shown_is = k.shown_is; own = k.own; known = k.known }
  receiver_over u k (Some r) None = record { unit_is = k.unit_is; shown_is = k.shown_is; own = k.own; known = (tt, k.known) }
  receiver_over u k (Some r) (Some None) = record { unit_is = k.unit_is; shown_is = k.shown_is; own = k.own; known = (tt, k.known) }
  receiver_over u k (Some r) (Some (Some b)) = record { unit_is = k.unit_is; shown_is = k.shown_is; own = k.own; known = (tt, k.known) }

  parameters_in_over : (u : Around) → K u → (h : WrittenHeading) (forward : Bool) → AreSectionsOver IsConstant unit shown out h.parameters.sections → Has (ParametersOver IsConstant unit shown out u.own) (heading_parameters u h forward (owner_if u h.receiver)).found
  parameters_in_over u k h forward y =
      let b = owner_if u h.receiver in
      anew_has (ParametersOver IsConstant unit shown out u.own) u h.name.ident.«pos» (parameters_in (knows_receiver (inner u) h.receiver b.node) (forward_name forward (u.path ++ path_by b.node h.name.ident.name)) h.parameters)
      (parameters_over IsConstant unit shown out u.own (knows_receiver (inner u) h.receiver b.node) (receiver_over u k h.receiver b.node) (forward_name forward (u.path ++ path_by b.node h.name.ident.name)) h.parameters y)

  -- a heading stands among the types that it makes and those before
  pub head_stands : (u : Around) → K u → AllByRecursion (λ (k : Known). k.scope ≤ u.scope) u.known → (h : WrittenHeading) (forward : Bool) → AreGoodSections IsConstant unit shown out h.parameters.sections → AreSectionsOver IsConstant unit shown out h.parameters.sections → HeadStands (types_of (head_of u h forward).parameters ++ u.own) u.scope (head_of u h forward)
  head_stands u k below h forward g y =
      let b = owner_if u h.receiver in
      let v : Around = record (inner u) { known = (knows_receiver (inner u) h.receiver b.node).known } in
      let name = forward_name forward (u.path ++ path_by b.node h.name.ident.name) in
      from_stands u below h forward (marked u false h.name) b (heading_parameters u h forward b)
      (anew_are IsConstant unit shown out u.own (suc u.scope) v.known u h.name.ident.«pos» (parameters_in (knows_receiver (inner u) h.receiver b.node) name h.parameters)
      (subst (λ (w : Around). SectionsAre IsConstant unit shown out u.own (suc u.scope) v.known (parameters_in w name h.parameters)) (sym (receiver_around (inner u) h.receiver b.node))
      (parameters_are IsConstant unit shown out v (receiver_known (inner u) (inner_known IsConstant unit shown out u k) h.receiver b.node) name h.parameters g)))
      (owner_stands u k h.receiver)
      (parameters_in_over u k h forward y)

  -- the types that it makes are over those before
  pub head_over : (u : Around) → K u → (h : WrittenHeading) (forward : Bool) → AreSectionsOver IsConstant unit shown out h.parameters.sections → AllByRecursion (IsOver (S u.own)) (types_of (head_of u h forward).parameters)
  head_over u k h forward y =
      let b = owner_if u h.receiver in
      let s = heading_parameters u h forward b in
      made_types (head_of u h forward).parameters (three_have (ParametersOver IsConstant unit shown out u.own) (marked u false h.name).node b.node s.found.node (parameters_in_over u k h forward y))
    where
      made_types : (o : Option Parameters) → IfThere (ParametersOver IsConstant unit shown out u.own) o → AllByRecursion (IsOver (S u.own)) (types_of o)
      made_types None h = tt
      made_types (Some p) h = h
