-- A type that stands still stands where more types of the module are known.
use Rattle.std.proofs.Common.{◌≡◌, ⊎_elim, sym, ap, subst, ℕ, Bool, true, false, List, ◌++◌, Option}
use Rattle.std.specs.Prelude.{bytes_eq, codes, ◌&&◌}
use Rattle.std.specs.List.{AllByRecursion}
use Rattle.ob_tree.specs.declared.names.QName.{QName}
use Rattle.ob_types.specs.declared.types.TypeRef.{TypeRef}
use Rattle.ob_types.specs.declared.types.TypeRef.TheVariants as ref
use Rattle.ob_types.specs.declared.value.Value.{Value}
use Rattle.ob_types.specs.declared.desc.Desc.{Desc}
use Rattle.ob_types.specs.declared.typed.TypedType.{TypedType}
use Rattle.ob_rules.specs.declared.entity.Entity.{Entity}
use Rattle.ob_rules.specs.declared.entity.Entity.TheVariants as entity
use Rattle.ob_rules.specs.declared.entity.Known.{Known}
use Rattle.ob_rules.specs.Names.{Around}
use Rattle.ob_rules.specs.Types.{with_types}
use Rattle.law_simulation_relation.proofs.Names.{bytes_same}
use Rattle.law_typing_forms.specs.Said.{IsOneOf}
use Rattle.law_body_context.specs.Knows.{HasName, Grows, StandsBy, Stands, IsDescribed, EntityStands, Knows}
use Rattle.law_body_context.proofs.Lists.{one_left, one_right, one_joined, all_of}
use Rattle.law_lists.proofs.Lists.{all_both}

-- each of these is one of those
abbrev pub Lies : List TypedType → List TypedType → Type 0
Lies own more = (t : TypedType) → IsOneOf own t → IsOneOf more t

pub lies_same : (own : List TypedType) → Lies own own
lies_same own t h = h

pub lies_front : (ts own : List TypedType) → Lies own (ts ++ own)
lies_front ts own t h = one_right ts own t h

pub lies_behind : (ts own : List TypedType) → Lies ts (ts ++ own)
lies_behind ts own t h = one_left ts own t h

pub lies_then : (a b c : List TypedType) → Lies a b → Lies b c → Lies a c
lies_then a b c f g t h = g t (f t h)

pub lies_both : (a b c : List TypedType) → Lies a c → Lies b c → Lies (a ++ b) c
lies_both a b c f g t h = ⊎_elim (λ i. f t i) (λ i. g t i) (one_joined a b t h)

-- behind one another
pub lies_on : (a b start middle own : List TypedType) → Lies middle (a ++ start) → Lies own (b ++ middle) → Lies own ((a ++ b) ++ start)
lies_on a b start middle own f g t h = ⊎_elim (λ i. one_left (a ++ b) start t (one_right a b t i)) (λ i. ⊎_elim (λ j. one_left (a ++ b) start t (one_left a b t j)) (λ j. one_right (a ++ b) start t j) (one_joined a start t (f t i))) (one_joined b middle t (g t h))

pub grows_as : (a b : List TypedType) → Lies a b → Grows a b
grows_as a b f x h = (h.0, (f h.0 h.1.0, h.1.1))

pub grows_same : (own : List TypedType) → Grows own own
grows_same own x h = h

pub grows_front : (ts own : List TypedType) → Grows own (ts ++ own)
grows_front ts own x h = (h.0, (one_right ts own h.0 h.1.0, h.1.1))

pub grows_behind : (ts own : List TypedType) → Grows ts (ts ++ own)
grows_behind ts own x h = (h.0, (one_left ts own h.0 h.1.0, h.1.1))

pub grows_then : (a b c : List TypedType) → Grows a b → Grows b c → Grows a c
grows_then a b c f g x h = g x (f x h)

pub grows_both : (a b c : List TypedType) → Grows a c → Grows b c → Grows (a ++ b) c
grows_both a b c f g x h = ⊎_elim (λ i. f x (h.0, (i, h.1.1))) (λ i. g x (h.0, (i, h.1.1))) (one_joined a b h.0 h.1.0)

module _ (unit : List ℕ) (shown : QName → Option Desc) where
  abbrev S : List TypedType → TypeRef → Type 0
  S own t = Stands unit shown own t

  by_grown : (own more : List TypedType) → Grows own more → (q : QName) (b : Bool) → StandsBy b shown own q → StandsBy b shown more q
  by_grown own more g q true h = g q.object h
  by_grown own more g q false h = h

  pub stands_grown : (own more : List TypedType) → Grows own more → (t : TypeRef) → S own t → S more t
  stands_grown own more g (ref.Basic b) h = tt
  stands_grown own more g (ref.Named q) h = (h.0, by_grown own more g q (bytes_eq q.«module» unit) h.1)

  module _ (IsConstant : Value → Type 0) where
    pub entity_grown : (own more : List TypedType) → Grows own more → (e : Entity) → EntityStands IsConstant unit shown own e → EntityStands IsConstant unit shown more e
    entity_grown own more g (entity.Constant v) h = h
    entity_grown own more g (entity.TypeName t) h = stands_grown own more g t h
    entity_grown own more g (entity.Module n) h = h
    entity_grown own more g (entity.Variable v t) h = tt
    entity_grown own more g (entity.Procedure q s) h = tt
    entity_grown own more g (entity.Forward q s) h = tt
    entity_grown own more g (entity.Predeclared p) h = tt
    entity_grown own more g entity.LeftOut h = tt
    entity_grown own more g entity.Unsound h = tt

    pub all_grown : (own more : List TypedType) → Grows own more → (ks : List Known) → AllByRecursion (λ k. EntityStands IsConstant unit shown own k.what) ks → AllByRecursion (λ k. EntityStands IsConstant unit shown more k.what) ks
    all_grown own more g ks h = all_of (λ k. EntityStands IsConstant unit shown own k.what) (λ k. EntityStands IsConstant unit shown more k.what) ks (λ k. entity_grown own more g k.what) h

    pub with_types_known : (u : Around) → Knows IsConstant unit shown u → (ts : List TypedType) → AllByRecursion (IsDescribed IsConstant) ts → Knows IsConstant unit shown (with_types u ts)
    with_types_known u k ts h = record {
      unit_is = k.unit_is;
      shown_is = k.shown_is;
      own = all_both (IsDescribed IsConstant) ts u.own h k.own;
      known = all_grown u.own (ts ++ u.own) (grows_front ts u.own) u.known k.known;
    }

  -- a name of the module stands where its type does
  pub own_stands : bytes_eq unit (codes "Out") ≡ false → (ts : List TypedType) (x : List ℕ) → HasName ts x → S ts (ref.Named (record { «module» = unit; object = x }))
  own_stands out ts x h = (ap (λ b. b && bytes_eq x (codes "String(1")) out, subst (λ b. StandsBy b shown ts (record { «module» = unit; object = x })) (sym (bytes_same unit)) h)
