-- Headings in their order: each stands behind all of them, and what is known behind them are their names.
use Rattle.std.proofs.Common.{◌≡◌, refl, sym, ap, ◌∙◌, subst, ℕ, suc, ◌≤◌, Bool, true, false, List, [], ◌∷◌, ◌++◌, Option, Some, None, inl, inr, append_assoc, arith}
use Rattle.std.specs.List.{AllByRecursion}
use Rattle.ob_tree.specs.declared.names.QName.{QName}
use Rattle.ob_types.specs.declared.types.Signature.{Signature}
use Rattle.ob_types.specs.declared.value.Value.{Value}
use Rattle.ob_types.specs.declared.desc.Desc.{Desc}
use Rattle.ob_types.specs.declared.typed.TypedType.{TypedType}
use Rattle.ob_rules.specs.declared.entity.Known.{Known}
use Rattle.ob_rules.specs.Names.{Around, in_unit, is_out}
use Rattle.ob_rules.specs.Types.{Parameters, with_types}
use Rattle.ob_rules.specs.Headings.{WrittenHeading, Head, Heads, head_of, entity_as, head_entity, name_twice, declared_head, knows_procedure, known_behind, types_of, add_heading, reversed}
use Rattle.ob_rules.specs.Declarations.{Written_procedure, headings_in_order}
use Rattle.law_typing_forms.specs.Said.{IsOneOf}
use Rattle.law_typing.specs.Makes.{IfThere}
use Rattle.law_body_context.specs.Knows.{Grows, IsDescribed, EntityStands, Knows}
use Rattle.law_body_context.proofs.Lists.{all_of}
use Rattle.law_body_context.proofs.Standing.{Lies, lies_front, lies_behind, lies_then, lies_both, grows_front, grows_then, with_types_known}
use Rattle.law_body_context.specs.Order.{AreInOrder}
use Rattle.law_body_context.proofs.InOrder.{made_in_order}
use Rattle.law_body_context.proofs.Over.{AreSectionsOver}
use Rattle.law_body_context.proofs.Sections.{AreGoodSections}
use Rattle.law_body_context.proofs.Heads.{InsideEntity, inside_none, inside_again, HeadStands, head_grown, head_stands, head_over}
use Rattle.law_lists.proofs.Lists.{back_empty}

-- a heading in each place of a procedure
abbrev pub Aligned : List Written_procedure → List Head → Type 0
Aligned [] [] = Unit {0}
Aligned [] (h ∷ hs) = ⊥
Aligned (p ∷ ps) [] = ⊥
Aligned (p ∷ ps) (h ∷ hs) = (h.forward ≡ p.forward) × Aligned ps hs

-- the latest name
abbrev pub named_at : Around → Head → Known
named_at u h = record { name = h.name; scope = u.scope; what = head_entity u h h.parameters }

-- only names and types are added
abbrev pub IsBehind : Around → Around → Type 0
IsBehind base v = v ≡ record base { known = v.known; own = v.own }

forward_kept : (twice : Bool) (h : Head) (u : Around) → (declared_head twice h u).forward ≡ h.forward
forward_kept true h u = refl
forward_kept false h u = refl

-- those behind some others
pub record Behind (ps : List Written_procedure) (before after : List Head) : Type 0 where
  pub heads : List Head
  pub aligned : Aligned ps heads
  pub is : reversed after ≡ reversed before ++ heads

pub aligned_in_order : (ps : List Written_procedure) (hs : Heads) → Behind ps hs.before (headings_in_order ps hs).before
aligned_in_order [] hs = record { heads = []; aligned = tt; is = sym (append_nil (reversed hs.before)) }
  where
    append_nil : {A : Type 0} (xs : List A) → xs ++ [] ≡ xs
    append_nil [] = refl
    append_nil (x ∷ xs) = ap (λ l. x ∷ l) (append_nil xs)
aligned_in_order (p ∷ ps) hs =
    let d = head_of hs.around p.heading p.forward in
    let u = with_types hs.around (types_of d.parameters) in
    let t = name_twice u hs.before d in
    let h = declared_head t d (known_behind u t d) in
    let r = aligned_in_order ps (add_heading hs p.heading p.forward) in
    record { heads = h ∷ r.heads; aligned = (forward_kept t d (known_behind u t d), r.aligned); is = r.is ∙ append_assoc (reversed hs.before) (h ∷ []) r.heads }

-- what comes behind keeps what was before
pub stays_before : (ps : List Written_procedure) (hs : Heads) (h : Head) → IsOneOf hs.before h → IsOneOf (headings_in_order ps hs).before h
stays_before [] hs h i = i
stays_before (p ∷ ps) hs h i = stays_before ps (add_heading hs p.heading p.forward) h (inr i)

behind_behind : (base u : Around) → IsBehind base u → (ks : List Known) (own : List TypedType) → IsBehind base (record u { known = ks; own = own })
behind_behind base u e ks own = ap (λ (x : Around). record x { known = ks; own = own }) e

-- the types that headings make, where nothing is said against these
abbrev pub types_of_all : List Head → List TypedType
types_of_all [] = []
types_of_all (h ∷ hs) = types_of h.parameters ++ types_of_all hs

abbrev pub IsUnbroken : Head → Type 0
IsUnbroken h = h.notes.broken ≡ []

declared_types : (twice : Bool) (h : Head) (u : Around) → IsUnbroken (declared_head twice h u) → types_of (declared_head twice h u).parameters ≡ types_of h.parameters
declared_types true h u e = let bad = back_empty h.notes.broken _ e in absurd cc
declared_types false h u e = refl

named_own : (u : Around) (h : Head) (b : Bool) → (knows_procedure u h b).own ≡ u.own
named_own u h true = refl
named_own u h false = refl

pub known_own : (u : Around) (twice : Bool) (h : Head) → (known_behind u twice h).own ≡ u.own
known_own u true h = refl
known_own u false h = named_own u h h.is_bound

-- behind headings those types are known that they make, and those before
pub lies_in_order : (base : List TypedType) (ps : List Written_procedure) (hs : Heads) → ((h : Head) → IsOneOf (headings_in_order ps hs).before h → IsUnbroken h) → Lies hs.around.own (types_of_all hs.before ++ base) → Lies (headings_in_order ps hs).around.own (types_of_all (headings_in_order ps hs).before ++ base)
lies_in_order base [] hs f g = g
lies_in_order base (p ∷ ps) hs f g =
    let d = head_of hs.around p.heading p.forward in
    let u = with_types hs.around (types_of d.parameters) in
    let t = name_twice u hs.before d in
    let v = known_behind u t d in
    let h = declared_head t d v in
    let more = types_of_all hs.before ++ base in
    let mine : types_of h.parameters ≡ types_of d.parameters = declared_types t d v (f h (stays_before ps (add_heading hs p.heading p.forward) h (inl refl))) in
    let all : Lies (types_of d.parameters ++ hs.around.own) (types_of d.parameters ++ more) = lies_both (types_of d.parameters) hs.around.own (types_of d.parameters ++ more) (lies_behind (types_of d.parameters) more) (lies_then hs.around.own more (types_of d.parameters ++ more) g (lies_front (types_of d.parameters) more)) in
    let as_made : Lies (types_of d.parameters ++ hs.around.own) (types_of h.parameters ++ more) = subst (λ ts. Lies (types_of d.parameters ++ hs.around.own) (ts ++ more)) (sym mine) all in
    let as_joined : Lies (types_of d.parameters ++ hs.around.own) ((types_of h.parameters ++ types_of_all hs.before) ++ base) = subst (λ ts. Lies (types_of d.parameters ++ hs.around.own) ts) (sym (append_assoc (types_of h.parameters) (types_of_all hs.before) base)) as_made in
    lies_in_order base ps (add_heading hs p.heading p.forward) f (subst (λ ts. Lies ts ((types_of h.parameters ++ types_of_all hs.before) ++ base)) (sym (known_own u t d)) as_joined)

-- where each of these makes types of some others, so do all
pub types_lie : (hs : List Head) (more : List TypedType) → ((h : Head) → IsOneOf hs h → Lies (types_of h.parameters) more) → Lies (types_of_all hs) more
types_lie [] more f = λ t i. absurd i
types_lie (h ∷ hs) more f = lies_both (types_of h.parameters) (types_of_all hs) more (f h (inl refl)) (types_lie hs more (λ g i. f g (inr i)))

procedure_behind : (base u : Around) → IsBehind base u → (h : Head) (b : Bool) → IsBehind base (knows_procedure u h b)
procedure_behind base u e h true = e
procedure_behind base u e h false = behind_behind base u e (named_at u h ∷ u.known) u.own

pub known_behind_is : (base u : Around) → IsBehind base u → (twice : Bool) (h : Head) → IsBehind base (known_behind u twice h)
known_behind_is base u e true h = e
known_behind_is base u e false h = procedure_behind base u e h h.is_bound

module _ (base : Around) (P : Known → Type 0) where
  -- each name that the heading adds
  abbrev Names : Head → Type 0
  Names h = h.is_bound ≡ false → P (named_at base h)

  at_same : (u : Around) → IsBehind base u → (h : Head) → P (named_at base h) → P (named_at u h)
  at_same u e h i = subst (λ (x : Around). P (named_at x h)) (sym e) i

  one_known : (u : Around) → IsBehind base u → (h : Head) → AllByRecursion P u.known → (b : Bool) → h.is_bound ≡ b → (h.is_bound ≡ false → P (named_at base h)) → AllByRecursion P (knows_procedure u h b).known
  one_known u e h k true f i = k
  one_known u e h k false f i = (at_same u e h (i f), k)

  head_known : (u : Around) → IsBehind base u → (h : Head) → AllByRecursion P u.known → (twice : Bool) → Names (declared_head twice h (known_behind u twice h)) → AllByRecursion P (known_behind u twice h).known
  head_known u e h k true i = k
  head_known u e h k false i = one_known u e h k h.is_bound refl i

  of_declared : (twice : Bool) (h : Head) (u : Around) → (declared_head twice h u).known ≡ u.known
  of_declared true h u = refl
  of_declared false h u = refl

  -- what holds before, and of each name that a heading adds, holds behind each of them
  pub names_in_order : (ps : List Written_procedure) (hs : Heads) → IsBehind base hs.around → ((h : Head) → IsOneOf (headings_in_order ps hs).before h → Names h) → AllByRecursion P hs.around.known → AllByRecursion (λ (h : Head). AllByRecursion P h.known) hs.before
      → AllByRecursion P (headings_in_order ps hs).around.known × AllByRecursion (λ (h : Head). AllByRecursion P h.known) (headings_in_order ps hs).before
  names_in_order [] hs e f k b = (k, b)
  names_in_order (p ∷ ps) hs e f k b =
      let d = head_of hs.around p.heading p.forward in
      let u = with_types hs.around (types_of d.parameters) in
      let t = name_twice u hs.before d in
      let h = declared_head t d (known_behind u t d) in
      let g = behind_behind base hs.around e hs.around.known (types_of d.parameters ++ hs.around.own) in
      let l = head_known u g d k t (f h (stays_before ps (add_heading hs p.heading p.forward) h (inl refl))) in
      names_in_order ps (add_heading hs p.heading p.forward) (known_behind_is base u g t d) f l (subst (AllByRecursion P) (sym (of_declared t d (known_behind u t d))) l, b)

module _ (IsConstant : Value → Type 0) (unit : List ℕ) (shown : QName → Option Desc) (out : is_out unit ≡ false) where
  abbrev K : Around → Type 0
  K u = Knows IsConstant unit shown u

  abbrev HS : List TypedType → ℕ → Head → Type 0
  HS own scope h = HeadStands IsConstant unit shown out own scope h

  abbrev pub AreGoodHeadings : List Written_procedure → Type 0
  AreGoodHeadings ps = AllByRecursion (λ p. AreGoodSections IsConstant unit shown out p.heading.parameters.sections × AreSectionsOver IsConstant unit shown out p.heading.parameters.sections) ps

  pub record HeadsStand (base : Around) (hs : Heads) : Type 0 where
    pub behind : IsBehind base hs.around
    pub knows : K hs.around
    pub below : AllByRecursion (λ (k : Known). k.scope ≤ base.scope) hs.around.known
    pub before : AllByRecursion (HS hs.around.own base.scope) hs.before
    pub grows : Grows base.own hs.around.own
    pub order : AreInOrder unit shown base.own → AreInOrder unit shown hs.around.own

  entity_fine : (own : List TypedType) (forward : Bool) (q : QName) (s : Signature) → EntityStands IsConstant unit shown own (entity_as forward q s)
  entity_fine own true q s = tt
  entity_fine own false q s = tt

  pub named_fine : (own : List TypedType) (u : Around) (h : Head) (o : Option Parameters) → EntityStands IsConstant unit shown own (head_entity u h o)
  named_fine own u h None = tt
  named_fine own u h (Some p) = entity_fine own h.forward (in_unit u h.path) p.signature

  twice_stands : (own : List TypedType) (scope : ℕ) (twice : Bool) (h : Head) (u : Around) → HS own scope h → HS own scope (declared_head twice h u)
  twice_stands own scope true h u s = record {
    made = tt;
    signature = tt;
    inside = all_of (λ (k : Known). (k.scope ≡ suc scope) × InsideEntity IsConstant unit shown out own h k.what) (λ (k : Known). (k.scope ≡ suc scope) × InsideEntity IsConstant unit shown out own (declared_head true h u) k.what) h.inside (λ k i. (i.0, inside_none IsConstant unit shown out own h (declared_head true h u) refl k.what i.1)) s.inside;
    free = s.free;
    self = s.self;
    over = tt;
  }
  twice_stands own scope false h u s = record {
    made = s.made;
    signature = s.signature;
    inside = all_of (λ (k : Known). (k.scope ≡ suc scope) × InsideEntity IsConstant unit shown out own h k.what) (λ (k : Known). (k.scope ≡ suc scope) × InsideEntity IsConstant unit shown out own (declared_head false h u) k.what) h.inside (λ k i. (i.0, inside_again IsConstant unit shown out own h u.known k.what i.1)) s.inside;
    free = s.free;
    self = s.self;
    over = s.over;
  }

  procedure_own : (u : Around) (h : Head) (b : Bool) → (knows_procedure u h b).own ≡ u.own
  procedure_own u h true = refl
  procedure_own u h false = refl

  behind_own : (u : Around) (twice : Bool) (h : Head) → (known_behind u twice h).own ≡ u.own
  behind_own u true h = refl
  behind_own u false h = procedure_own u h h.is_bound

  procedure_knows : (u : Around) → K u → (h : Head) (b : Bool) → K (knows_procedure u h b)
  procedure_knows u k h true = k
  procedure_knows u k h false = record { unit_is = k.unit_is; shown_is = k.shown_is; own = k.own; known = (named_fine u.own u h h.parameters, k.known) }

  behind_knows : (u : Around) → K u → (twice : Bool) (h : Head) → K (known_behind u twice h)
  behind_knows u k true h = k
  behind_knows u k false h = procedure_knows u k h h.is_bound

  same_below : (n m : ℕ) → n ≡ m → n ≤ m
  same_below n m e = omega (arith, e)

  procedure_below : (n : ℕ) (u : Around) → u.scope ≡ n → (h : Head) (b : Bool) → AllByRecursion (λ (k : Known). k.scope ≤ n) u.known → AllByRecursion (λ (k : Known). k.scope ≤ n) (knows_procedure u h b).known
  procedure_below n u e h true k = k
  procedure_below n u e h false k = (same_below u.scope n e, k)

  behind_below : (n : ℕ) (u : Around) → u.scope ≡ n → (twice : Bool) (h : Head) → AllByRecursion (λ (k : Known). k.scope ≤ n) u.known → AllByRecursion (λ (k : Known). k.scope ≤ n) (known_behind u twice h).known
  behind_below n u e true h k = k
  behind_below n u e false h k = procedure_below n u e h h.is_bound k

  made_of : (o : Option Parameters) → IfThere (λ p. AllByRecursion (IsDescribed IsConstant) p.made) o → AllByRecursion (IsDescribed IsConstant) (types_of o)
  made_of None h = tt
  made_of (Some p) h = h

  add_stands : (base : Around) (hs : Heads) → HeadsStand base hs → (w : WrittenHeading) → AreGoodSections IsConstant unit shown out w.parameters.sections × AreSectionsOver IsConstant unit shown out w.parameters.sections → (forward : Bool) → HeadsStand base (add_heading hs w forward)
  add_stands base hs s w g forward =
      let d = head_of hs.around w forward in
      let n : hs.around.scope ≡ base.scope = ap (λ (x : Around). x.scope) s.behind in
      let a = head_stands IsConstant unit shown out hs.around s.knows (subst (λ n. AllByRecursion (λ (k : Known). k.scope ≤ n) hs.around.known) (sym n) s.below) w forward g.0 g.1 in
      let u = with_types hs.around (types_of d.parameters) in
      let t = name_twice u hs.before d in
      let v = known_behind u t d in
      let b : HS u.own base.scope d = subst (λ n. HS u.own n d) n a in
      let k = with_types_known unit shown IsConstant hs.around s.knows (types_of d.parameters) (made_of d.parameters a.made) in
      let o : u.own ≡ v.own = sym (behind_own u t d) in
      record {
        behind = known_behind_is base u (behind_behind base hs.around s.behind hs.around.known u.own) t d;
        knows = behind_knows u k t d;
        below = behind_below base.scope u n t d s.below;
        before = subst (λ l. AllByRecursion (HS l base.scope) (declared_head t d v ∷ hs.before)) o
            (twice_stands u.own base.scope t d v b, all_of (HS hs.around.own base.scope) (HS u.own base.scope) hs.before (λ h i. head_grown IsConstant unit shown out hs.around.own u.own (grows_front (types_of d.parameters) hs.around.own) base.scope h i) s.before);
        grows = subst (λ l. Grows base.own l) o (grows_then base.own hs.around.own u.own s.grows (grows_front (types_of d.parameters) hs.around.own));
        order = λ i. subst (AreInOrder unit shown) o (made_in_order unit shown hs.around.own (types_of d.parameters) (head_over IsConstant unit shown out hs.around s.knows w forward g.1) (s.order i));
      }

  pub stand_in_order : (base : Around) (ps : List Written_procedure) → AreGoodHeadings ps → (hs : Heads) → HeadsStand base hs → HeadsStand base (headings_in_order ps hs)
  stand_in_order base [] g hs s = s
  stand_in_order base (p ∷ ps) g hs s = stand_in_order base ps g.1 (add_heading hs p.heading p.forward) (add_stands base hs s p.heading g.0 p.forward)
