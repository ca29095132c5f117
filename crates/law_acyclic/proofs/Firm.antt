-- What is said of descriptions: the types that they name stand, and are of the kinds that the rules ask for.
use Rattle.std.proofs.Common.{◌≡◌, ◌⊎◌, ⊎_elim, inl, inr, refl, sym, subst, ℕ, ◌≤◌, Bool, true, false, List, ◌++◌, Option}
use Rattle.std.specs.List.{AllByRecursion}
use Rattle.ob_tree.specs.declared.pos.Pos.{Pos}
use Rattle.ob_tree.specs.declared.names.QName.{QName}
use Rattle.ob_types.specs.declared.types.Mode.{Mode}
use Rattle.ob_types.specs.declared.types.TypeRef.{TypeRef}
use Rattle.ob_types.specs.declared.types.TypeRef.TheVariants as ref
use Rattle.ob_types.specs.declared.types.Signature.{Signature}
use Rattle.ob_types.specs.declared.value.Value.{Value}
use Rattle.ob_types.specs.declared.desc.Desc.{Desc}
use Rattle.ob_types.specs.declared.desc.Desc.TheVariants as desc
use Rattle.ob_types.specs.declared.desc.Field.{Field}
use Rattle.ob_types.specs.declared.desc.Method.{Method}
use Rattle.ob_types.specs.declared.typed.TypedType.{TypedType}
use Rattle.ob_rules.specs.declared.notes.Later.{Later}
use Rattle.ob_rules.specs.declared.notes.Later.TheVariants as later
use Rattle.ob_rules.specs.Shapes.{Map, is_open, is_record, is_structured}
use Rattle.ob_rules.specs.Names.{Around, map_of, is_among}
use Rattle.law_typing_forms.specs.Said.{IsOneOf}
use Rattle.law_typing.specs.Makes.{IfThere}
use Rattle.law_body_context.specs.Knows.{Grows, Stands, IsDescribed}
use Rattle.law_body_context.proofs.Lists.{all_of, there_of}
use Rattle.law_body_context.proofs.Standing.{Lies, grows_as, stands_grown}

-- the types of the parameters, and of the result
abbrev pub SignatureFirm : (S P : TypeRef → Type 0) → Signature → Type 0
SignatureFirm S P s = AllByRecursion (λ (p : Mode × TypeRef). S p.1) s.params × IfThere (λ t. S t × P t) s.result

-- S: stands; C: no open array; R: a record; P: neither record nor array; B: the base of a pointer
abbrev pub Firm : (S C R P B : TypeRef → Type 0) → Desc → Type 0
Firm S C R P B (desc.Alias m t) = S t × C t
Firm S C R P B (desc.Array m n t) = (1 ≤ n) × (S t × C t)
Firm S C R P B (desc.OpenArray m t) = S t × C t
Firm S C R P B (desc.Pointer m t) = B t
Firm S C R P B (desc.ProcType m s) = SignatureFirm S P s
Firm S C R P B (desc.Record r) = IfThere (λ t. S t × R t) r.base × (AllByRecursion (λ (f : Field). S f.of × C f.of) r.fields × AllByRecursion (λ (m : Method). SignatureFirm S P m.signature) r.methods)
Firm S C R P B d = ⊥

module _ (S C R P B S' C' R' P' B' : TypeRef → Type 0) (s : (t : TypeRef) → S t → S' t) (c : (t : TypeRef) → S t → C t → C' t) (r : (t : TypeRef) → S t → R t → R' t) (p : (t : TypeRef) → S t → P t → P' t) where
  pub signature_more : (g : Signature) → SignatureFirm S P g → SignatureFirm S' P' g
  signature_more g h = (all_of (λ (k : Mode × TypeRef). S k.1) (λ (k : Mode × TypeRef). S' k.1) g.params (λ k. s k.1) h.0, there_of (λ t. S t × P t) (λ t. S' t × P' t) g.result (λ t k. (s t k.0, p t k.0 k.1)) h.1)

  pub firm_more : ((t : TypeRef) → B t → B' t) → (d : Desc) → Firm S C R P B d → Firm S' C' R' P' B' d
  firm_more b (desc.Alias m t) h = (s t h.0, c t h.0 h.1)
  firm_more b (desc.Array m n t) h = (h.0, (s t h.1.0, c t h.1.0 h.1.1))
  firm_more b (desc.OpenArray m t) h = (s t h.0, c t h.0 h.1)
  firm_more b (desc.Pointer m t) h = b t h
  firm_more b (desc.ProcType m g) h = signature_more g h
  firm_more b (desc.Record k) h = (
    there_of (λ t. S t × R t) (λ t. S' t × R' t) k.base (λ t i. (s t i.0, r t i.0 i.1)) h.0,
    (
      all_of (λ (f : Field). S f.of × C f.of) (λ (f : Field). S' f.of × C' f.of) k.fields (λ f i. (s f.of i.0, c f.of i.0 i.1)) h.1.0,
      all_of (λ (m : Method). SignatureFirm S P m.signature) (λ (m : Method). SignatureFirm S' P' m.signature) k.methods (λ m i. signature_more m.signature i) h.1.1,
    ),
  )
  firm_more b (desc.Const v) h = absurd h
  firm_more b (desc.Var m t) h = absurd h
  firm_more b (desc.Proc g) h = absurd h

abbrev pub AnyValue : Value → Type 0
AnyValue v = Unit {0}

pub firm_described : (S C R P B : TypeRef → Type 0) (t : TypedType) → Firm S C R P B t.desc → IsDescribed AnyValue t
firm_described S C R P B t h = by t.desc h refl
  where
    by : (d : Desc) → Firm S C R P B d → t.desc ≡ d → IsDescribed AnyValue t
    by (desc.Alias m u) h e = subst (λ d. IsDescribed AnyValue (record { name = t.name; desc = d })) (sym e) (record { type = refl; length = tt })
    by (desc.Array m n u) h e = subst (λ d. IsDescribed AnyValue (record { name = t.name; desc = d })) (sym e) (record { type = refl; length = (tt, h.0) })
    by (desc.OpenArray m u) h e = subst (λ d. IsDescribed AnyValue (record { name = t.name; desc = d })) (sym e) (record { type = refl; length = tt })
    by (desc.Pointer m u) h e = subst (λ d. IsDescribed AnyValue (record { name = t.name; desc = d })) (sym e) (record { type = refl; length = tt })
    by (desc.ProcType m s) h e = subst (λ d. IsDescribed AnyValue (record { name = t.name; desc = d })) (sym e) (record { type = refl; length = tt })
    by (desc.Record r) h e = subst (λ d. IsDescribed AnyValue (record { name = t.name; desc = d })) (sym e) (record { type = refl; length = tt })
    by (desc.Const v) h e = absurd h
    by (desc.Var m u) h e = absurd h
    by (desc.Proc s) h e = absurd h

-- no alias, and no open array
abbrev pub is_solid : Desc → Bool
is_solid (desc.Array m n t) = true
is_solid (desc.Pointer m t) = true
is_solid (desc.ProcType m s) = true
is_solid (desc.Record r) = true
is_solid d = false

abbrev pub IfAlias : (TypeRef → Type 0) → Desc → Type 0
IfAlias P (desc.Alias m t) = P t
IfAlias P d = Unit {0}

-- what a pointer of that name points to is judged later
pub record IsLeft (ls : List Later) (x : List ℕ) (t : TypeRef) : Type 0 where
  pub at : Pos
  pub inline : Bool
  pub there : IsOneOf ls (later.PointsTo x at t inline)

module _ (unit : List ℕ) (shown : QName → Option Desc) where
  abbrev pub S : List TypedType → TypeRef → Type 0
  S own t = Stands unit shown own t

  -- what aliases are equated to stands
  abbrev pub Aliased : List TypedType → Type 0
  Aliased own = AllByRecursion (λ (s : TypedType). IfAlias (S own) s.desc) own

  -- so a test came out where it stood among some of these types
  pub record Seen (In : TypedType → Type 0) (test : Map → TypeRef → Bool) (b : Bool) (t : TypeRef) : Type 0 where
    pub w : Around
    pub unit_is : w.unit ≡ unit
    pub shown_is : w.shown ≡ shown
    pub within : (s : TypedType) → IsOneOf w.own s → In s
    pub aliases : Aliased w.own
    pub stands : S w.own t
    pub is : test (map_of w) t ≡ b

  pub seen_more : (In More : TypedType → Type 0) → ((s : TypedType) → In s → More s) → (test : Map → TypeRef → Bool) (b : Bool) (t : TypeRef) → Seen In test b t → Seen More test b t
  seen_more In More f test b t h = record { w = h.w; unit_is = h.unit_is; shown_is = h.shown_is; within = λ s i. f s (h.within s i); aliases = h.aliases; stands = h.stands; is = h.is }

  -- a type of the module that is neither alias nor open array
  pub record IsSolid (In : TypedType → Type 0) (t : TypeRef) : Type 0 where
    pub s : TypedType
    pub there : In s
    pub is : t ≡ ref.Named (record { «module» = unit; object = s.name })
    pub solid : is_solid s.desc ≡ true

  abbrev pub Closed : (TypedType → Type 0) → TypeRef → Type 0
  Closed In t = IsSolid In t ⊎ Seen In is_open false t

  pub closed_more : (In More : TypedType → Type 0) → ((s : TypedType) → In s → More s) → (t : TypeRef) → Closed In t → Closed More t
  closed_more In More f t (inl h) = inl (record { s = h.s; there = f h.s h.there; is = h.is; solid = h.solid })
  closed_more In More f t (inr h) = inr (seen_more In More f is_open false t h)

  -- a description whose pointers have bases that stand, and are records or arrays, or left
  abbrev pub WholeBase : (TypedType → Type 0) → List Later → List TypedType → List ℕ → TypeRef → Type 0
  WholeBase In ls own x t = S own t × (Seen In is_structured true t ⊎ IsLeft ls x t)

  abbrev pub WholeAt : (TypedType → Type 0) → List Later → List TypedType → TypedType → Type 0
  WholeAt In ls own s = Firm (S own) (Closed In) (Seen In is_record true) (Seen In is_structured false) (WholeBase In ls own s.name) s.desc

  pub whole_more : (In : TypedType → Type 0) (ls ms : List Later) → ((l : Later) → IsOneOf ls l → IsOneOf ms l) → (own more : List TypedType) → Grows own more → (s : TypedType) → WholeAt In ls own s → WholeAt In ms more s
  whole_more In ls ms f own more g s h =
      firm_more (S own) (Closed In) (Seen In is_record true) (Seen In is_structured false) (WholeBase In ls own s.name) (S more) (Closed In) (Seen In is_record true) (Seen In is_structured false) (WholeBase In ms more s.name)
      (λ t. stands_grown unit shown own more g t) (λ t a b. b) (λ t a b. b) (λ t a b. b) (λ t b. (stands_grown unit shown own more g t b.0, ⊎_elim (λ k. inl k) (λ k. inr (record { at = k.at; inline = k.inline; there = f (later.PointsTo s.name k.at t k.inline) k.there })) b.1)) s.desc h

  pub firm_alias : (C R P B : TypeRef → Type 0) (own : List TypedType) (d : Desc) → Firm (S own) C R P B d → IfAlias (S own) d
  firm_alias C R P B own (desc.Alias m t) h = h.0
  firm_alias C R P B own (desc.Const v) h = tt
  firm_alias C R P B own (desc.Var m t) h = tt
  firm_alias C R P B own (desc.Proc s) h = tt
  firm_alias C R P B own (desc.Array m n t) h = tt
  firm_alias C R P B own (desc.OpenArray m t) h = tt
  firm_alias C R P B own (desc.Pointer m t) h = tt
  firm_alias C R P B own (desc.ProcType m s) h = tt
  firm_alias C R P B own (desc.Record r) h = tt

  module _ (path : List ℕ) (names : List (List ℕ)) where
    -- the type of one of these names, which is declared later in the scope
    pub record IsLate (t : TypeRef) : Type 0 where
      pub x : List ℕ
      pub among : is_among x names ≡ true
      pub is : t ≡ ref.Named (record { «module» = unit; object = path ++ x })

    -- the base of a pointer: a record or array, or what is judged later
    abbrev pub Base : List Later → List TypedType → List ℕ → TypeRef → Type 0
    Base ls own x t = (S own t × Seen (IsOneOf own) is_structured true t) ⊎ ((S own t ⊎ IsLate t) × IsLeft ls x t)

    abbrev pub FirmAt : List Later → List TypedType → TypedType → Type 0
    FirmAt ls own s = Firm (S own) (Closed (IsOneOf own)) (Seen (IsOneOf own) is_record true) (Seen (IsOneOf own) is_structured false) (Base ls own s.name) s.desc

    abbrev pub AreFirm : List Later → List TypedType → List TypedType → Type 0
    AreFirm ls own ts = AllByRecursion (FirmAt ls own) ts

    base_more : (ls ms : List Later) → ((l : Later) → IsOneOf ls l → IsOneOf ms l) → (own more : List TypedType) → Lies own more → (x : List ℕ) (t : TypeRef) → Base ls own x t → Base ms more x t
    base_more ls ms f own more g x t (inl h) = inl (stands_grown unit shown own more (grows_as own more g) t h.0, seen_more (IsOneOf own) (IsOneOf more) g is_structured true t h.1)
    base_more ls ms f own more g x t (inr h) = inr (⊎_elim (λ k. inl (stands_grown unit shown own more (grows_as own more g) t k)) (λ k. inr k) h.0, record { at = h.1.at; inline = h.1.inline; there = f (later.PointsTo x h.1.at t h.1.inline) h.1.there })

    pub desc_more : (ls ms : List Later) → ((l : Later) → IsOneOf ls l → IsOneOf ms l) → (own more : List TypedType) → Lies own more → (x : List ℕ) (d : Desc) → FirmAt ls own (record { name = x; desc = d }) → FirmAt ms more (record { name = x; desc = d })
    desc_more ls ms f own more g x d h =
        firm_more (S own) (Closed (IsOneOf own)) (Seen (IsOneOf own) is_record true) (Seen (IsOneOf own) is_structured false) (Base ls own x) (S more) (Closed (IsOneOf more)) (Seen (IsOneOf more) is_record true) (Seen (IsOneOf more) is_structured false) (Base ms more x)
        (λ t. stands_grown unit shown own more (grows_as own more g) t) (λ t s. closed_more (IsOneOf own) (IsOneOf more) g t) (λ t s. seen_more (IsOneOf own) (IsOneOf more) g is_record true t) (λ t s. seen_more (IsOneOf own) (IsOneOf more) g is_structured false t) (λ t. base_more ls ms f own more g x t) d h

    pub are_more : (ls ms : List Later) → ((l : Later) → IsOneOf ls l → IsOneOf ms l) → (own more : List TypedType) → Lies own more → (ts : List TypedType) → AreFirm ls own ts → AreFirm ms more ts
    are_more ls ms f own more g ts h = all_of (FirmAt ls own) (FirmAt ms more) ts (λ t k. desc_more ls ms f own more g t.name t.desc k) h

    pub are_described : (ls : List Later) (own ts : List TypedType) → AreFirm ls own ts → AllByRecursion (IsDescribed AnyValue) ts
    are_described ls own ts h = all_of (FirmAt ls own) (IsDescribed AnyValue) ts (λ t k. firm_described (S own) (Closed (IsOneOf own)) (Seen (IsOneOf own) is_record true) (Seen (IsOneOf own) is_structured false) (Base ls own t.name) t k) h

    pub are_aliased : (ls : List Later) (own ts : List TypedType) → AreFirm ls own ts → AllByRecursion (λ (s : TypedType). IfAlias (S own) s.desc) ts
    are_aliased ls own ts h = all_of (FirmAt ls own) (λ (s : TypedType). IfAlias (S own) s.desc) ts (λ t k. firm_alias (Closed (IsOneOf own)) (Seen (IsOneOf own) is_record true) (Seen (IsOneOf own) is_structured false) (Base ls own t.name) own t.desc k) h

  if_alias_more : (own more : List TypedType) → Grows own more → (d : Desc) → IfAlias (S own) d → IfAlias (S more) d
  if_alias_more own more g (desc.Alias m t) h = stands_grown unit shown own more g t h
  if_alias_more own more g (desc.Const v) h = tt
  if_alias_more own more g (desc.Var m t) h = tt
  if_alias_more own more g (desc.Proc s) h = tt
  if_alias_more own more g (desc.Array m n t) h = tt
  if_alias_more own more g (desc.OpenArray m t) h = tt
  if_alias_more own more g (desc.Pointer m t) h = tt
  if_alias_more own more g (desc.ProcType m s) h = tt
  if_alias_more own more g (desc.Record r) h = tt

  pub aliases_more : (own more : List TypedType) → Grows own more → (ts : List TypedType) → AllByRecursion (λ (s : TypedType). IfAlias (S own) s.desc) ts → AllByRecursion (λ (s : TypedType). IfAlias (S more) s.desc) ts
  aliases_more own more g ts h = all_of (λ (s : TypedType). IfAlias (S own) s.desc) (λ (s : TypedType). IfAlias (S more) s.desc) ts (λ s. if_alias_more own more g s.desc) h
