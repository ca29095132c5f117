-- What stands around a sequence of declarations, at the level of the module or in a procedure.
use Rattle.std.proofs.Common.{◌≡◌, ◌⊎◌, ⊎_elim, inl, inr, refl, sym, subst, ℕ, suc, ◌≤◌, ◌<◌, true, false, List, [], ◌∷◌, ◌++◌, Option, Some, None, arith}
use Rattle.std.specs.Prelude.{nat_lt}
use Rattle.std.specs.List.{AllByRecursion}
use Rattle.std.proofs.lemmas.Bool.Decides.{nat_tests}
use Rattle.ob_tree.specs.declared.names.QName.{QName}
use Rattle.ob_tree.specs.declared.ident.Ident.{Ident}
use Rattle.ob_types.specs.declared.types.Mode.{Mode}
use Rattle.ob_types.specs.declared.types.TypeRef.{TypeRef}
use Rattle.ob_types.specs.declared.types.Signature.{Signature}
use Rattle.ob_types.specs.declared.value.Value.{Value}
use Rattle.ob_types.specs.declared.desc.Desc.{Desc}
use Rattle.ob_types.specs.declared.typed.Variable.{Variable}
use Rattle.ob_types.specs.declared.typed.TypedType.{TypedType}
use Rattle.ob_types.specs.declared.typed.TypedConstant.{TypedConstant}
use Rattle.ob_types.specs.declared.typed.TypedVariable.{TypedVariable}
use Rattle.ob_types.specs.declared.typed.TypedProcedure.{TypedProcedure}
use Rattle.ob_types.specs.declared.typed.TypedModule.{TypedModule}
use Rattle.ob_rules.specs.declared.entity.Entity.{Entity}
use Rattle.ob_rules.specs.declared.entity.Entity.TheVariants as entity
use Rattle.ob_rules.specs.declared.entity.Known.{Known}
use Rattle.ob_rules.specs.Names.{Around, found_in_scope}
use Rattle.ob_rules.specs.Types.{with_types, nothing}
use Rattle.ob_rules.specs.Declarations.{Contents, no_contents, together, declare_if, declare}
use Rattle.law_typing_forms.specs.Said.{IsOneOf}
use Rattle.law_body_context.specs.Knows.{Grows, Stands, IsDescribed, EntityStands, Knows}
use Rattle.law_body_context.specs.Judged.{IsMade, IsWithin, ReceiverStands, IsInside, result_of, IsProcedureIn, NameIs, IsBoundBy}
use Rattle.law_body_context.proofs.Lists.{one_left, one_right, one_joined, all_of, there_of}
use Rattle.law_body_context.specs.Order.{IsOver, AreInOrder}
use Rattle.law_body_context.proofs.Binding.{AreOne, IsFrom, Changes}
use Rattle.law_body_context.proofs.Standing.{Lies, grows_front, grows_behind, grows_then, grows_both, stands_grown, with_types_known}
use Rattle.law_lists.proofs.Lists.{all_both}

-- in the module, or in a procedure, whose heading may break a rule
pub data Level : Type 0 where
  AtModule : Level
  Within : (p : Option TypedProcedure) → Level

abbrev pub frame : Level → Option TypedProcedure
frame AtModule = None
frame (Within p) = p

abbrev pub IsPlaced : Level → Around → Type 0
IsPlaced AtModule u = (u.path ≡ []) × ((u.scope ≡ 1) × ((u.level ≡ 1) × (u.receiver ≡ None)))
IsPlaced (Within p) u = (nothing u.path ≡ false) × ((u.level ≡ u.scope) × (1 < u.scope))

abbrev IsLocalOf : Option TypedProcedure → TypedVariable → Type 0
IsLocalOf None x = Unit {0}
IsLocalOf (Some p) x = IsOneOf p.locals x

module _ (IsConstant : Value → Type 0) (shown : QName → Option Desc) (m : TypedModule) (content : Contents) where
  abbrev pub S : List TypedType → TypeRef → Type 0
  S own t = Stands m.name shown own t

  -- a variable that is declared at this level
  abbrev pub IsVariableAt : Level → TypedVariable → Type 0
  IsVariableAt AtModule x = IsOneOf m.variables x
  IsVariableAt (Within p) x = IsLocalOf p x

  -- what is bound at the level of the module is made by it
  abbrev pub IsBoundAt : Level → Contents → Type 0
  IsBoundAt AtModule c = (t : TypedType) → IsOneOf c.bound t → IsMade content t
  IsBoundAt (Within p) c = Unit {0}

  -- at the level of the module what is known before is made by it
  abbrev pub IsOpened : Level → Around → Type 0
  IsOpened AtModule u = Lies u.own content.types × AreInOrder m.name shown u.own
  IsOpened (Within p) u = Unit {0}

  -- what is bound are types of the module, perhaps with more bound procedures
  pub record IsBoundFrom (c : Contents) : Type 0 where
    pub from : (b : TypedType) → IsOneOf c.bound b → IsFrom IsConstant content.types b
    pub one : AreOne IsConstant content.types → AreOne IsConstant c.bound
    pub by : (c.bound ≡ []) ⊎ IsBoundBy m.name shown content.types c.bound

  abbrev pub BoundStands : Level → Contents → Type 0
  BoundStands AtModule c = IsBoundFrom c
  BoundStands (Within p) c = Unit {0}

  pub bound_same : (c d : Contents) → d.bound ≡ c.bound → IsBoundFrom c → IsBoundFrom d
  bound_same c d e h = record { from = λ b i. h.from b (subst (λ ts. IsOneOf ts b) e i); one = λ k a b i j. h.one k a b (subst (λ ts. IsOneOf ts a) e i) (subst (λ ts. IsOneOf ts b) e j); by = subst (λ ts. (ts ≡ []) ⊎ IsBoundBy m.name shown content.types ts) (sym e) h.by }

  pub bound_none : (l : Level) (c : Contents) → c.bound ≡ [] → BoundStands l c
  bound_none AtModule c e = record { from = λ b i. absurd (subst (λ ts. IsOneOf ts b) e i); one = λ k a b i j. absurd (subst (λ ts. IsOneOf ts a) e i); by = inl e }
  bound_none (Within p) c e = tt

  -- what is bound at the level of the module
  abbrev pub BoundBy : Level → List TypedType → Type 0
  BoundBy AtModule own = IsBoundBy m.name shown content.types own
  BoundBy (Within p) own = Unit {0}

  pub bound_changed : (l : Level) (start : Around) → IsOpened l start → (early own : List TypedType) → Changes IsConstant early own → (Lies start.own content.types → Lies early content.types) → BoundBy l own → (c : Contents) → c.bound ≡ own → BoundStands l c
  bound_changed AtModule start o early own ch k y c e = record {
    from = λ b i. let x = ch.from b (subst (λ ts. IsOneOf ts b) e i) in (x.0, (k o.0 x.0 x.1.0, x.1.1));
    one = λ h a b i j. ch.one (λ y z p q. h y z (k o.0 y p) (k o.0 z q)) a b (subst (λ ts. IsOneOf ts a) e i) (subst (λ ts. IsOneOf ts b) e j);
    by = inr (subst (IsBoundBy m.name shown content.types) (sym e) y);
  }
  bound_changed (Within p) start o early own ch k y c e = tt

  -- what is known around the body of the module are the types that are bound
  abbrev pub BodyOwn : Level → List TypedType → Around → Type 0
  BodyOwn AtModule bound u = (bound ≡ []) ⊎ (u.own ≡ bound)
  BodyOwn (Within p) bound u = Unit {0}

  pub own_none : (l : Level) (bound : List TypedType) (u : Around) → bound ≡ [] → BodyOwn l bound u
  own_none AtModule bound u e = inl e
  own_none (Within p) bound u e = tt

  pub own_bound : (l : Level) (bound : List TypedType) (u : Around) → u.own ≡ bound → BodyOwn l bound u
  own_bound AtModule bound u e = inr e
  own_bound (Within p) bound u e = tt

  pub own_same : (l : Level) (bound more : List TypedType) (u : Around) → more ≡ bound → BodyOwn l bound u → BodyOwn l more u
  own_same l bound more u e h = subst (λ ts. BodyOwn l ts u) (sym e) h

  -- what a part adds is in the module
  pub record Included (l : Level) (c : Contents) : Type 0 where
    pub variables : (x : TypedVariable) → IsOneOf c.variables x → IsVariableAt l x
    pub procedures : (p : TypedProcedure) → IsOneOf c.procedures p → IsOneOf m.procedures p
    -- by their names
    pub types : Grows c.types m.types
    pub made : Lies c.types content.types
    pub bound : IsBoundAt l c

  -- the constants of a part are constants, and its types are described
  pub record IsFull (c : Contents) : Type 0 where
    pub constants : AllByRecursion (λ (x : TypedConstant). IsConstant x.value) c.constants
    pub types : AllByRecursion (IsDescribed IsConstant) c.types
    pub bound : AllByRecursion (IsDescribed IsConstant) c.bound
    pub over : AllByRecursion (IsOver (S m.types)) c.types

  pub none_full : IsFull no_contents
  none_full = record { constants = tt; types = tt; bound = tt; over = tt }

  pub both_full : (a b : Contents) → IsFull a → IsFull b → IsFull (together a b)
  both_full a b g h = record {
    constants = all_both (λ (x : TypedConstant). IsConstant x.value) a.constants b.constants g.constants h.constants;
    types = all_both (IsDescribed IsConstant) a.types b.types g.types h.types;
    bound = all_both (IsDescribed IsConstant) a.bound b.bound g.bound h.bound;
    over = all_both (IsOver (S m.types)) a.types b.types g.over h.over;
  }

  first_bound : (l : Level) (a b : Contents) → IsBoundAt l (together a b) → IsBoundAt l a
  first_bound AtModule a b i = λ t h. i t (one_left a.bound b.bound t h)
  first_bound (Within p) a b i = tt

  second_bound : (l : Level) (a b : Contents) → IsBoundAt l (together a b) → IsBoundAt l b
  second_bound AtModule a b i = λ t h. i t (one_right a.bound b.bound t h)
  second_bound (Within p) a b i = tt

  pub first_included : (l : Level) (a b : Contents) → Included l (together a b) → Included l a
  first_included l a b i = record { variables = λ x h. i.variables x (one_left a.variables b.variables x h); procedures = λ p h. i.procedures p (one_left a.procedures b.procedures p h); types = grows_then a.types (a.types ++ b.types) m.types (grows_behind a.types b.types) i.types; made = λ t h. i.made t (one_left a.types b.types t h); bound = first_bound l a b i.bound }

  pub second_included : (l : Level) (a b : Contents) → Included l (together a b) → Included l b
  second_included l a b i = record { variables = λ x h. i.variables x (one_right a.variables b.variables x h); procedures = λ p h. i.procedures p (one_right a.procedures b.procedures p h); types = grows_then b.types (a.types ++ b.types) m.types (grows_front a.types b.types) i.types; made = λ t h. i.made t (one_right a.types b.types t h); bound = second_bound l a b i.bound }

  pub record BlockAt (l : Level) (u : Around) : Type 0 where
    pub knows : Knows IsConstant m.name shown u
    pub below : AllByRecursion (λ (k : Known). k.scope ≤ u.scope) u.known
    pub names : AllByRecursion (λ (k : Known). NameIs IsConstant shown m content u.own (frame l) u.level k.scope k.what) u.known
    pub placed : IsPlaced l u
    pub guards : u.guards ≡ []
    pub result : u.result ≡ result_of (frame l)
    pub in_loop : u.in_loop ≡ false
    -- the types known are the module's, by their names
    pub grown : Grows u.own m.types
    pub within : IsWithin IsConstant shown m content u
    pub receiver : ReceiverStands IsConstant shown m content (frame l) u.receiver

  -- MORE TYPES

  inside_grown : (own more : List TypedType) → Grows own more → (p : Option TypedProcedure) (v : Variable) (t : TypeRef) → IsInside (S own) p v t → IsInside (S more) p v t
  inside_grown own more g None v t h = tt
  inside_grown own more g (Some p) v t h = (h.0, stands_grown m.name shown own more g t h.1)

  procedure_grown : (own more : List TypedType) → Grows own more → (q : QName) (s : Signature) → IsProcedureIn IsConstant shown m content own q s → IsProcedureIn IsConstant shown m content more q s
  procedure_grown own more g q s h = record {
    p = h.p;
    there = h.there;
    name = h.name;
    result = h.result;
    parameters = h.parameters;
    params = all_of (λ (k : Mode × TypeRef). S own k.1) (λ (k : Mode × TypeRef). S more k.1) s.params (λ k. stands_grown m.name shown own more g k.1) h.params;
    result_stands = there_of (S own) (S more) s.result (λ t. stands_grown m.name shown own more g t) h.result_stands;
  }

  pub name_grown : (own more : List TypedType) → Grows own more → (p : Option TypedProcedure) (level scope : ℕ) (e : Entity) → NameIs IsConstant shown m content own p level scope e → NameIs IsConstant shown m content more p level scope e
  name_grown own more g p level scope (entity.Variable v t) h = record { outside = λ e. let r = h.outside e in (r.0, stands_grown m.name shown own more g t r.1); inside = λ e f. inside_grown own more g p v t (h.inside e f) }
  name_grown own more g p level scope (entity.Procedure q s) h = procedure_grown own more g q s h
  name_grown own more g p level scope (entity.Constant v) h = tt
  name_grown own more g p level scope (entity.TypeName t) h = tt
  name_grown own more g p level scope (entity.Forward q s) h = record {
    t = h.t;
    procedure = procedure_grown own more g q h.t h.procedure;
    w = h.w;
    within = h.within;
    alike = h.alike;
    params = all_of (λ (k : Mode × TypeRef). S own k.1) (λ (k : Mode × TypeRef). S more k.1) s.params (λ k. stands_grown m.name shown own more g k.1) h.params;
    result_stands = there_of (S own) (S more) s.result (λ t. stands_grown m.name shown own more g t) h.result_stands;
  }
  name_grown own more g p level scope (entity.Module n) h = tt
  name_grown own more g p level scope (entity.Predeclared c) h = tt
  name_grown own more g p level scope entity.LeftOut h = tt
  name_grown own more g p level scope entity.Unsound h = tt

  pub types_placed : (l : Level) (u : Around) (ts : List TypedType) → IsPlaced l u → IsPlaced l (with_types u ts)
  types_placed AtModule u ts h = h
  types_placed (Within p) u ts h = h

  pub block_typed : (l : Level) (u : Around) → BlockAt l u → (ts : List TypedType) → AllByRecursion (IsDescribed IsConstant) ts → Grows ts m.types → ((t : TypedType) → IsOneOf ts t → IsMade content t) → BlockAt l (with_types u ts)
  block_typed l u b ts h g made = record {
    knows = with_types_known m.name shown IsConstant u b.knows ts h;
    below = b.below;
    names = all_of (λ (k : Known). NameIs IsConstant shown m content u.own (frame l) u.level k.scope k.what) (λ (k : Known). NameIs IsConstant shown m content (ts ++ u.own) (frame l) u.level k.scope k.what) u.known (λ k. name_grown u.own (ts ++ u.own) (grows_front ts u.own) (frame l) u.level k.scope k.what) b.names;
    placed = types_placed l u ts b.placed;
    guards = b.guards;
    result = b.result;
    in_loop = b.in_loop;
    grown = grows_both ts u.own m.types g b.grown;
    within = record { unit_is = b.within.unit_is; shown_is = b.within.shown_is; own = λ t i. ⊎_elim (λ j. made t j) (λ j. b.within.own t j) (one_joined ts u.own t i) };
    receiver = b.receiver;
  }

  -- A NAME THAT IS DECLARED

  name_placed : (l : Level) (u : Around) (ks : List Known) → IsPlaced l u → IsPlaced l (record u { known = ks })
  name_placed AtModule u ks h = h
  name_placed (Within p) u ks h = h

  at_most : (n : ℕ) → n ≤ n
  at_most n = omega arith

  declared_if : (l : Level) (u : Around) → BlockAt l u → (x : Ident) (e : Entity) → EntityStands IsConstant m.name shown u.own e → NameIs IsConstant shown m content u.own (frame l) u.level u.scope e → (o : Option Known) → BlockAt l (declare_if o u x e)
  declared_if l u b x e h n (Some k) = b
  declared_if l u b x e h n None = record {
    knows = record { unit_is = b.knows.unit_is; shown_is = b.knows.shown_is; own = b.knows.own; known = (h, b.knows.known) };
    below = (at_most u.scope, b.below);
    names = (n, b.names);
    placed = name_placed l u (record { name = x.name; scope = u.scope; what = e } ∷ u.known) b.placed;
    guards = b.guards;
    result = b.result;
    in_loop = b.in_loop;
    grown = b.grown;
    within = record { unit_is = b.within.unit_is; shown_is = b.within.shown_is; own = b.within.own };
    receiver = b.receiver;
  }

  pub block_declared : (l : Level) (u : Around) → BlockAt l u → (x : Ident) (e : Entity) → EntityStands IsConstant m.name shown u.own e → NameIs IsConstant shown m content u.own (frame l) u.level u.scope e → BlockAt l (declare u x e)
  block_declared l u b x e h n = declared_if l u b x e h n (found_in_scope u x.name)

  if_own : (o : Option Known) (u : Around) (x : Ident) (e : Entity) → (declare_if o u x e).own ≡ u.own
  if_own (Some k) u x e = refl
  if_own None u x e = refl

  pub declared_own : (u : Around) (x : Ident) (e : Entity) → (declare u x e).own ≡ u.own
  declared_own u x e = if_own (found_in_scope u x.name) u x e

  -- SCOPES

  pub not_outer : nat_lt 1 1 ≡ true → ⊥
  not_outer e = absurd cc

  pub not_module : (n : ℕ) → 1 < n → nat_lt 1 n ≡ false → ⊥
  not_module n h e = grind (arith, nat_tests)

  -- what is known around a procedure is of outer scopes there
  pub not_inner : (k n : ℕ) → k ≤ n → nat_lt k (suc n) ≡ false → ⊥
  not_inner k n h e = grind (arith, nat_tests)

  pub outer_name : (own : List TypedType) (p q : Option TypedProcedure) (level k n : ℕ) → k ≤ n → (e : Entity) → NameIs IsConstant shown m content own p level k e → NameIs IsConstant shown m content own q (suc n) k e
  outer_name own p q level k n below (entity.Variable v t) h = record { outside = h.outside; inside = λ e f. absurd (not_inner k n below f) }
  outer_name own p q level k n below (entity.Procedure r s) h = h
  outer_name own p q level k n below (entity.Constant v) h = tt
  outer_name own p q level k n below (entity.TypeName t) h = tt
  outer_name own p q level k n below (entity.Forward r s) h = h
  outer_name own p q level k n below (entity.Module x) h = tt
  outer_name own p q level k n below (entity.Predeclared c) h = tt
  outer_name own p q level k n below entity.LeftOut h = tt
  outer_name own p q level k n below entity.Unsound h = tt
