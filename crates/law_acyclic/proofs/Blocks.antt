-- Sequences of declarations with the procedures in them: all types that they make are whole.
use Rattle.std.proofs.Common.{◌≡◌, ⊎_elim, inl, inr, refl, sym, ap, subst, ◌∙◌, ℕ, zero, suc, Bool, true, false, List, [], ◌∷◌, ◌++◌, Option, Some, None, codes}
use Rattle.std.specs.Prelude.{not, ◌&&◌, ◌||◌}
use Rattle.std.specs.List.{AllByRecursion, filter_map}
use Rattle.std.proofs.lemmas.Bool.{false≢true}
use Rattle.ob_tree.specs.declared.names.QName.{QName}
use Rattle.ob_tree.specs.declared.ident.Mark.{Mark}
use Rattle.ob_types.specs.declared.types.TypeRef.{TypeRef}
use Rattle.ob_types.specs.declared.types.TypeRef.TheVariants as ref
use Rattle.ob_types.specs.declared.desc.Desc.{Desc}
use Rattle.ob_types.specs.declared.desc.Desc.TheVariants as desc
use Rattle.ob_types.specs.declared.typed.TypedType.{TypedType}
use Rattle.ob_types.specs.declared.typed.TypedVariable.{TypedVariable}
use Rattle.ob_types.specs.Maps.{named_by}
use Rattle.ob_types.specs.Tests.{target_of, follow, target}
use Rattle.ob_rules.specs.declared.notes.Later.{Later}
use Rattle.ob_rules.specs.declared.notes.Later.TheVariants as later
use Rattle.ob_rules.specs.declared.broken.Broken.{Broken}
use Rattle.ob_rules.specs.Judged.{Notes, joined}
use Rattle.ob_rules.specs.Shapes.{is_held, is_record, is_structured}
use Rattle.ob_rules.specs.Names.{Around, map_of, is_out}
use Rattle.ob_rules.specs.Types.{Parameters, is_module_level, nothing, with_types}
use Rattle.ob_rules.specs.Statements.{Judging, in_turn}
use Rattle.ob_rules.specs.Headings.{Head, Heads, Binding, types_of, head_of, name_twice, declared_head, known_behind, forwards_judged, reversed}
use Rattle.ob_rules.specs.Declarations.{Contents, Part, Declared, Declaration, Plain, Procedure, plain_of, type_name_of, procedure_of, Written_procedure, in_order, headings_in_order, pointer_name, is_wrong, pointers_judged, is_pointer_left, field_judged, all_judged, around_body, types_of_head, procedure_judged, procedures_judged, body_part, with_bound, binding_at, heads_later, closing_judged, block}
use Rattle.law_typing_forms.specs.Said.{IsOneOf}
use Rattle.law_names_procedures.proofs.Judges.{Has}
use Rattle.law_names_procedures.proofs.Knowing.{AreKnown}
use Rattle.law_local_module.proofs.Heads.{heads_of, heads_are as heads_same}
use Rattle.law_body_context.specs.Knows.{HasName, Grows, IsDescribed, Knows}
use Rattle.law_body_context.proofs.Lists.{one_left, one_right, one_joined, one_all, all_one, all_of}
use Rattle.law_body_context.proofs.Standing.{Lies, lies_front, lies_behind, grows_as, stands_grown, all_grown}
use Rattle.law_body_context.proofs.Binding.{binding_changes}
use Rattle.law_acyclic.specs.Laws.{IsApart}
use Rattle.law_acyclic.specs.Steady.{IsClosed}
use Rattle.law_acyclic.proofs.Firm.{firm_more, SignatureFirm, firm_described, AnyValue, IfAlias, S, Aliased, Seen, Closed, closed_more, IsLeft, WholeBase, WholeAt, whole_more, firm_alias}
use Rattle.law_acyclic.proofs.Typings.{Within, Tells, AreTold, are_told_more, Place}
use Rattle.law_acyclic.proofs.Sections.{AreFirmSections}
use Rattle.law_acyclic.proofs.Plain.{GoodPlain, AreDeclared, HasAll, VariableFirm, next_place, order_one}
use Rattle.law_acyclic.proofs.Stand.{IsOwn, IsOther, at, held_at, shown_names}
use Rattle.law_acyclic.proofs.Headings.{HeadsAre, IsHeadIn, heads_are, head_types, resolved, bindings_whole}
use Rattle.law_acyclic.proofs.Pointers.{HasRight, pointers_right}
use Rattle.law_lists.proofs.Lists.{all_both, back_empty, front_empty}

no_level : (x : List ℕ) → nothing (x ++ codes "/") ≡ false
no_level [] = refl
no_level (c ∷ x) = refl

-- ---- lists

one_turned : {A : Type 0} (xs : List A) (x : A) → IsOneOf (reversed xs) x → IsOneOf xs x
one_turned [] x i = i
one_turned (y ∷ xs) x i = ⊎_elim (λ k. inr (one_turned xs x k)) (λ k. ⊎_elim (λ e. inl e) (λ b. absurd b) k) (one_joined (reversed xs) (y ∷ []) x i)

one_reversed : {A : Type 0} (xs : List A) (x : A) → IsOneOf xs x → IsOneOf (reversed xs) x
one_reversed [] x h = h
one_reversed (y ∷ xs) x (inl e) = one_right (reversed xs) (y ∷ []) x (inl e)
one_reversed (y ∷ xs) x (inr h) = one_left (reversed xs) (y ∷ []) x (one_reversed xs x h)

-- what a heading leaves is left by the headings
later_of : (hs : List Head) (h : Head) → IsOneOf hs h → Within h.notes.later (heads_later hs)
later_of [] h i l k = absurd i
later_of (g ∷ hs) h (inl e) l k = one_left g.notes.later (heads_later hs) l (subst (λ (x : Head). IsOneOf x.notes.later l) (sym e) k)
later_of (g ∷ hs) h (inr i) l k = one_right g.notes.later (heads_later hs) l (later_of hs h i l k)

heads_told : (ts : List TypedType) (hs : List Head) → AllByRecursion (λ (h : Head). AreTold ts h.notes.later) hs → AreTold ts (heads_later hs)
heads_told ts [] h = tt
heads_told ts (g ∷ hs) h = all_both (Tells ts) g.notes.later (heads_later hs) h.0 (heads_told ts hs h.1)

-- types of one name have one description
abbrev pub AreOne : List TypedType → Type 0
AreOne ts = (a b : TypedType) → IsOneOf ts a → IsOneOf ts b → a.name ≡ b.name → a.desc ≡ b.desc

module _ (shown : QName → Option Desc) (unit : List ℕ) (kept : IsClosed shown) (apart : IsApart shown unit) (out : is_out unit ≡ false) (In : TypedType → Type 0) (F : List TypedType) (among : (s : TypedType) → IsOneOf F s → In s) (named : (s : TypedType) → In s → HasName F s.name) (one : AreOne F) where
  abbrev T : List TypedType → TypeRef → Type 0
  T own t = S unit shown own t

  abbrev pub W : List Later → List TypedType → TypedType → Type 0
  W ls own s = WholeAt unit shown In ls own s

  -- ---- what a type stands for stands

  alias_names : (own : List TypedType) (d : Desc) → IfAlias (T own) d → (t : TypeRef) → target_of (Some d) ≡ Some t → T own t
  alias_names own (desc.Alias m u) h t e = let i : u ≡ t = cc in subst (T own) i h
  alias_names own (desc.Const v) h t e = absurd cc
  alias_names own (desc.Var m u) h t e = absurd cc
  alias_names own (desc.Proc s) h t e = absurd cc
  alias_names own (desc.Array m n u) h t e = absurd cc
  alias_names own (desc.OpenArray m u) h t e = absurd cc
  alias_names own (desc.Pointer m u) h t e = absurd cc
  alias_names own (desc.ProcType m s) h t e = absurd cc
  alias_names own (desc.Record r) h t e = absurd cc

  names_alias : (own : List TypedType) (d : Desc) → AllByRecursion (λ t. T own t) (named_by d) → IfAlias (T own) d
  names_alias own (desc.Alias m u) h = h.0
  names_alias own (desc.Const v) h = tt
  names_alias own (desc.Var m u) h = tt
  names_alias own (desc.Proc s) h = tt
  names_alias own (desc.Array m n u) h = tt
  names_alias own (desc.OpenArray m u) h = tt
  names_alias own (desc.Pointer m u) h = tt
  names_alias own (desc.ProcType m s) h = tt
  names_alias own (desc.Record r) h = tt

  module _ (w : Around) (unit_is : w.unit ≡ unit) (shown_is : w.shown ≡ shown) (aliases : Aliased unit shown w.own) where
    pub step_stands : (q : QName) → T w.own (ref.Named q) → (t : TypeRef) → target_of (map_of w q) ≡ Some t → T w.own t
    step_stands q s t e = by (map_of w q) refl e
      where
        by : (o : Option Desc) → map_of w q ≡ o → target_of o ≡ Some t → T w.own t
        by None f e = absurd cc
        by (Some d) f e = ⊎_elim
            (λ (o : IsOwn unit shown w unit_is shown_is q d). alias_names w.own d (subst (IfAlias (T w.own)) o.desc (one_all (λ (x : TypedType). IfAlias (T w.own) x.desc) w.own o.s aliases o.there)) t e)
            (λ (o : IsOther unit shown w unit_is shown_is q d). alias_names w.own d (names_alias w.own d (shown_names shown unit kept apart w.own q d o.is)) t e)
            (at unit shown w unit_is shown_is q s.0 d f)

    follow_stands : (q : QName) (o : Option TypeRef) → T w.own (ref.Named q) → ((t : TypeRef) → o ≡ Some t → T w.own t) → (f : TypeRef → TypeRef) → ((t : TypeRef) → T w.own t → T w.own (f t)) → T w.own (follow o (ref.Named q) f)
    follow_stands q None s h f g = s
    follow_stands q (Some t) s h f g = g t (h t refl)

    pub target_stands : (n : ℕ) (t : TypeRef) → T w.own t → T w.own (target (map_of w) n t)
    unfolding target
    target_stands zero t s = s
    target_stands (suc n) (ref.Basic b) s = tt
    target_stands (suc n) (ref.Named q) s = follow_stands q (target_of (map_of w q)) s (step_stands q s) (λ u. target (map_of w) n u) (λ t k. target_stands n t k)

  -- ---- pointers that were left are right

  right_is : (a b c : Bool) → a ≡ true → b ≡ true → ((a && b) && not c) ≡ false → c ≡ true
  right_is true true true e f g = refl
  right_is true true false e f g = absurd cc
  right_is false b c e f g = absurd cc
  right_is true false c e f g = absurd cc

  not_either : (a b : Bool) → a || b ≡ false → b ≡ false
  not_either true b e = absurd cc
  not_either false b e = e

  pointer_is : (m k : Mark) (t u : TypeRef) → desc.Pointer m t ≡ desc.Pointer k u → t ≡ u
  pointer_is m k t u e = cc

  module _ (w : Around) (k : Knows AnyValue unit shown w) (aliases : Aliased unit shown w.own) (L : List Later) (told : AreTold F L) (within : (s : TypedType) → IsOneOf w.own s → In s) (quiet : (pointers_judged w L).broken ≡ []) where
    left_right : (x : List ℕ) (t : TypeRef) → T w.own t → IsLeft L x t → Seen unit shown In is_structured true t
    left_right x t s l = go (pointers_right w L quiet (later.PointsTo x l.at t l.inline) l.there refl)
      where
        seen : is_structured (map_of w) t ≡ true → Seen unit shown In is_structured true t
        seen e = record { w = w; unit_is = k.unit_is; shown_is = k.shown_is; within = within; aliases = aliases; stands = s; is = e }

        by : (r : Later) → IsOneOf L r → is_pointer_left r ≡ true → pointer_name r ≡ x → is_wrong (map_of w) r ≡ false → Seen unit shown In is_structured true t
        by (later.Inherits y u) i p n e = absurd cc
        by (later.PointsTo y at u inline) i p n e =
            let a = one_all (Tells F) L (later.PointsTo x l.at t l.inline) told l.there in
            let b = one_all (Tells F) L (later.PointsTo y at u inline) told i in
            let same : t ≡ u = pointer_is a.1.1.1.0 b.1.1.1.0 t u (sym a.1.1.1.1 ∙ one a.0 b.0 a.1.0 b.1.0 (a.1.1.0 ∙ sym n ∙ sym b.1.1.0) ∙ b.1.1.1.1) in
            seen (right_is (is_held (map_of w) t) (is_held (map_of w) (target (map_of w) 201 t)) (is_structured (map_of w) t) (held_at unit shown w k.unit_is k.shown_is k.own t s) (held_at unit shown w k.unit_is k.shown_is k.own (target (map_of w) 201 t) (target_stands w k.unit_is k.shown_is aliases 201 t s))
            (not_either inline _ (subst (λ v. is_wrong (map_of w) (later.PointsTo y at v inline) ≡ false) (sym same) e)))

        go : HasRight w L x → Seen unit shown In is_structured true t
        go r = by r.l r.there r.pointer r.name r.right

    pub pointers_fit : (s : TypedType) → W L w.own s → W [] w.own s
    pointers_fit s h =
        firm_more (T w.own) (Closed unit shown In) (Seen unit shown In is_record true) (Seen unit shown In is_structured false) (WholeBase unit shown In L w.own s.name) (T w.own) (Closed unit shown In) (Seen unit shown In is_record true) (Seen unit shown In is_structured false) (WholeBase unit shown In [] w.own s.name)
        (λ t a. a) (λ t a b. b) (λ t a b. b) (λ t a b. b) (λ t b. (b.0, inl (⊎_elim (λ y. y) (λ y. left_right s.name t b.0 y) b.1))) s.desc h

  -- ---- where a block begins

  pub record Start (u : Around) : Type 0 where
    pub knows : Knows AnyValue unit shown u
    pub sound : AreKnown u.known
    pub whole : AllByRecursion (W [] u.own) u.own
    pub within : (s : TypedType) → IsOneOf u.own s → In s

  pub whole_aliases : (ls : List Later) (own ts : List TypedType) → AllByRecursion (W ls own) ts → AllByRecursion (λ (s : TypedType). IfAlias (T own) s.desc) ts
  whole_aliases ls own ts h = all_of (W ls own) (λ (s : TypedType). IfAlias (T own) s.desc) ts (λ s k. firm_alias unit shown (Closed unit shown In) (Seen unit shown In is_record true) (Seen unit shown In is_structured false) (WholeBase unit shown In ls own s.name) own s.desc k) h

  pub whole_described : (ls : List Later) (own ts : List TypedType) → AllByRecursion (W ls own) ts → AllByRecursion (IsDescribed AnyValue) ts
  whole_described ls own ts h = all_of (W ls own) (IsDescribed AnyValue) ts (λ s k. firm_described (T own) (Closed unit shown In) (Seen unit shown In is_record true) (Seen unit shown In is_structured false) (WholeBase unit shown In ls own s.name) s k) h

  -- the type of a variable, among all
  abbrev pub VariableIn : TypedVariable → Type 0
  VariableIn x = T F x.of × Closed unit shown In x.of

  -- what a block adds
  pub record Adds (c : Contents) : Type 0 where
    pub types : AllByRecursion (W [] F) c.types
    pub bound : AllByRecursion (W [] F) c.bound
    pub variables : AllByRecursion VariableIn c.variables

  abbrev pub IsBlock : (Around → Part) → Type 0
  IsBlock f = (u : Around) → Start u → is_module_level u ≡ false → (f u).notes.broken ≡ [] → Lies (f u).contents.types F → Adds (f u).contents

  pub record GoodProcedure (p : Written_procedure) : Type 0 where
    pub sections : (path : List ℕ) (names : List (List ℕ)) → AreFirmSections unit shown out path names p.heading.parameters.sections
    pub inside : IsBlock p.inside

  abbrev pub GoodDeclaration : Declaration → Type 0
  GoodDeclaration (Plain o f) = (path : List ℕ) (names : List (List ℕ)) → GoodPlain unit shown out path names o f
  GoodDeclaration (Procedure p) = GoodProcedure p

  abbrev pub AreGood : List Declaration → Type 0
  AreGood ds = AllByRecursion GoodDeclaration ds

  module _ (path : List ℕ) (names : List (List ℕ)) where
    pub order_good : (ds : List Declaration) → AreGood ds → (u : Around) → Place unit shown out path names u → (in_order (filter_map plain_of ds) u).part.notes.broken ≡ [] → AreDeclared unit shown out path names (HasAll unit shown out path names (filter_map type_name_of ds)) u (in_order (filter_map plain_of ds) u)
    order_good [] g u k e = record { more = u.known; made = []; around = refl; firm = tt; told = tt; known = k.sound; entities = k.knows.known; named = λ x h. absurd (false≢true h); types = λ t i. i; back = λ t i. i; variables = tt; bound = refl; procedures = refl }
    order_good (Procedure p ∷ ds) g u k e = order_good ds g.1 u k e
    order_good (Plain o f ∷ ds) g u k e =
        let a = f u in
        let rest = in_order (filter_map plain_of ds) a.around in
        let p = g.0 path names u k (front_empty a.part.notes.broken rest.part.notes.broken e) in
        let kp = next_place unit shown out path names u k a.part.notes.later p.made p.more p.firm p.known p.entities in
        order_one unit shown out path names o (filter_map type_name_of ds) u a rest p (order_good ds g.1 a.around (subst (Place unit shown out path names) (sym p.around) kp) (back_empty a.part.notes.broken rest.part.notes.broken e))

  procedures_good : (ds : List Declaration) → AreGood ds → AllByRecursion GoodProcedure (filter_map procedure_of ds)
  procedures_good [] g = tt
  procedures_good (Plain o f ∷ ds) g = procedures_good ds g.1
  procedures_good (Procedure p ∷ ds) g = (g.0, procedures_good ds g.1)

  -- ---- procedures

  pub record HeadStarts (U : Around) (h : Head) : Type 0 where
    pub starts : Start (around_body U h)
    pub types : AllByRecursion (W [] F) (types_of_head h.parameters)

  one_adds : (U : Around) (p : Written_procedure) → GoodProcedure p → (h : Head) → HeadStarts U h → (f : Bool) → (procedure_judged U p h f).notes.broken ≡ [] → Lies (procedure_judged U p h f).contents.types F → AllByRecursion (W [] F) (procedure_judged U p h f).contents.types
  one_adds U p g h s true e l = s.types
  one_adds U p g h s false e l =
      let c = p.inside (around_body U h) in
      let q = closing_judged h.name p.closing in
      let r = g.inside (around_body U h) s.starts (no_level h.path) (back_empty q.broken c.notes.broken (back_empty h.notes.broken (joined q c.notes).broken e)) (λ t i. l t (one_right (types_of_head h.parameters) c.contents.types t i)) in
      all_both (W [] F) (types_of_head h.parameters) c.contents.types s.types r.types

  procedures_add : (U : Around) (ps : List Written_procedure) → AllByRecursion GoodProcedure ps → (hs : List Head) → AllByRecursion (HeadStarts U) hs → (procedures_judged U ps hs).notes.broken ≡ [] → Lies (procedures_judged U ps hs).contents.types F → AllByRecursion (W [] F) (procedures_judged U ps hs).contents.types
  procedures_add U [] g hs s e l = tt
  procedures_add U (p ∷ ps) g [] s e l = tt
  procedures_add U (p ∷ ps) g (h ∷ hs) s e l =
      let a = procedure_judged U p h p.forward in
      let b = procedures_judged U ps hs in
      all_both (W [] F) a.contents.types b.contents.types (one_adds U p g.0 h s.0 p.forward (front_empty a.notes.broken b.notes.broken e) (λ t i. l t (one_left a.contents.types b.contents.types t i)))
      (procedures_add U ps g.1 hs s.1 (back_empty a.notes.broken b.notes.broken e) (λ t i. l t (one_right a.contents.types b.contents.types t i)))

  head_types_same : (o : Option Parameters) → types_of o ≡ types_of_head o
  head_types_same None = refl
  head_types_same (Some p) = refl

  made_lie : (U : Around) (ps : List Written_procedure) (hs : Heads) (h : Head) → IsOneOf (heads_of ps hs) h → Lies (types_of h.parameters) (procedures_judged U ps (heads_of ps hs)).contents.types
  unfolding heads_of
  made_lie U [] hs h i t k = absurd i
  made_lie U (p ∷ ps) hs h i t k =
      let d = head_of hs.around p.heading p.forward in
      let v = with_types hs.around (types_of d.parameters) in
      let b = name_twice v hs.before d in
      let g = declared_head b d (known_behind v b d) in
      let next : Heads = record { around = known_behind v b d; before = g ∷ hs.before } in
      let mine = procedure_judged U p g p.forward in
      let rest = procedures_judged U ps (heads_of ps next) in
      ⊎_elim (λ e. one_left mine.contents.types rest.contents.types t (head_types U p g p.forward t (subst (λ (x : Head). IsOneOf (types_of x.parameters) t) (sym e) k)))
      (λ j. one_right mine.contents.types rest.contents.types t (made_lie U ps next h j t k)) i

  one_none : (U : Around) (p : Written_procedure) (h : Head) (f : Bool) → ((procedure_judged U p h f).contents.bound ≡ []) × ((procedure_judged U p h f).contents.variables ≡ [])
  one_none U p h true = (refl, refl)
  one_none U p h false = (refl, refl)

  procedures_none : (U : Around) (ps : List Written_procedure) (hs : List Head) → ((procedures_judged U ps hs).contents.bound ≡ []) × ((procedures_judged U ps hs).contents.variables ≡ [])
  procedures_none U [] hs = (refl, refl)
  procedures_none U (p ∷ ps) [] = (refl, refl)
  procedures_none U (p ∷ ps) (h ∷ hs) =
      let a = one_none U p h p.forward in
      let b = procedures_none U ps hs in
      (ap (λ ts. ts ++ (procedures_judged U ps hs).contents.bound) a.0 ∙ b.0, ap (λ ts. ts ++ (procedures_judged U ps hs).contents.variables) a.1 ∙ b.1)

  -- ---- a block

  names_lie : (own : List TypedType) → ((s : TypedType) → IsOneOf own s → In s) → Grows own F
  names_lie own i x h = subst (HasName F) h.1.1 (named h.0 (i h.0 h.1.0))

  to_all : (own : List TypedType) → ((s : TypedType) → IsOneOf own s → In s) → (s : TypedType) → W [] own s → W [] F s
  to_all own i s h = whole_more unit shown In [] [] (λ l k. k) own F (names_lie own i) s h

  variable_to : (own : List TypedType) → ((s : TypedType) → IsOneOf own s → In s) → (x : TypedVariable) → T own x.of × Closed unit shown (IsOneOf own) x.of → VariableIn x
  variable_to own i x h = (stands_grown unit shown own F (names_lie own i) x.of h.0, closed_more unit shown (IsOneOf own) In i x.of h.1)

  abbrev HeadsIn : List ℕ → List (List ℕ) → List Later → Around → Heads → Type 0
  HeadsIn path names L base hs = HeadsAre shown unit kept apart out path names In L base hs

  first_heads : (path : List ℕ) (names : List (List ℕ)) (L : List Later) (v : Around) → Place unit shown out path names v → AllByRecursion (W [] v.own) v.own → ((s : TypedType) → IsOneOf v.own s → In s) → (d : Declared) → (o : AreDeclared unit shown out path names (HasAll unit shown out path names names) v d) → Within d.part.notes.later L → ((s : TypedType) → IsOneOf o.made s → In s) → HeadsIn path names L d.around (record { around = d.around; before = [] })
  first_heads path names L v k h i d o f m =
      let own = o.made ++ v.own in
      let z : Around = record v { known = o.more; own = own } in
      let all : HasAll unit shown out path names names own = λ x e. grows_as o.made own (lies_behind o.made v.own) (path ++ x) (o.named x e) in
      let within : (s : TypedType) → IsOneOf own s → In s = λ s j. ⊎_elim (λ y. m s y) (λ y. i s y) (one_joined o.made v.own s j) in
      subst (λ z. HeadsIn path names L z (record { around = z; before = [] })) (sym o.around) (record {
        behind = refl;
        place = next_place unit shown out path names v k d.part.notes.later o.made o.more o.firm o.known o.entities;
        all = all;
        whole = all_both (W L own) o.made v.own (resolved shown unit kept apart out path names In L d.part.notes.later f own all within o.made o.firm) (all_of (W [] v.own) (W L own) v.own (λ s y. whole_more unit shown In [] L (λ l b. absurd b) v.own own (grows_as v.own own (lies_front o.made v.own)) s y) h);
        within = within;
      })

  -- what is bound
  pub record IsBinding (own : List TypedType) : Type 0 where
    pub whole : AllByRecursion (W [] own) own
    pub within : (s : TypedType) → IsOneOf own s → In s

  binding_is : (l : Bool) (w : Around) (R : List Head) → AllByRecursion (λ (h : Head). Has (λ (p : Parameters). SignatureFirm (T w.own) (λ t. Seen unit shown In is_structured false t) p.signature) h.parameters) R → AllByRecursion (W [] w.own) w.own → ((s : TypedType) → IsOneOf w.own s → In s) → (l ≡ true → (s : TypedType) → IsOneOf (binding_at l w R).own s → In s) → IsBinding (binding_at l w R).own
  binding_is false w R s h i j = record { whole = h; within = i }
  binding_is true w R s h i j =
      let more = (binding_at true w R).own in
      let c = binding_changes AnyValue true w R in
      record {
        whole = all_of (W [] w.own) (W [] more) more (λ t k. whole_more unit shown In [] [] (λ l b. b) w.own more c.grows t k) (bindings_whole shown unit kept apart out [] [] In [] w.own w R s h);
        within = j refl;
      }

  module _ (ds : List Declaration) (g : AreGood ds) (body : List Judging) (u : Around) (start : Start u) (e : (block ds body u).notes.broken ≡ []) (lies : Lies (block ds body u).contents.types F) where
    abbrev names : List (List ℕ)
    names = filter_map type_name_of ds

    abbrev ps : List Written_procedure
    ps = filter_map procedure_of ds

    abbrev level : Bool
    level = is_module_level u

    abbrev v : Around
    v = record u { later_types = names }

    abbrev d : Declared
    d = in_order (filter_map plain_of ds) v

    abbrev first : Heads
    first = record { around = d.around; before = [] }

    abbrev hs : Heads
    hs = headings_in_order ps first

    -- behind the headings
    abbrev pub w : Around
    w = hs.around

    abbrev pub R : List Head
    R = reversed hs.before

    abbrev b : Binding
    b = binding_at level w R

    abbrev U : Around
    U = with_bound w b

    abbrev Q : Part
    Q = procedures_judged U ps R

    abbrev B : Part
    B = body_part (in_turn body U)

    abbrev L : List Later
    L = d.part.notes.later ++ heads_later hs.before

    abbrev n : Notes
    n = joined b.notes (joined (all_judged (field_judged (map_of U)) L) (forwards_judged (map_of w) R R))

    abbrev pj : Notes
    pj = pointers_judged w L

    -- nothing is broken
    abbrev front : List Broken
    front = d.part.notes.broken ++ pj.broken

    e1 : n.broken ++ (Q.notes.broken ++ B.notes.broken) ≡ []
    e1 = back_empty front (n.broken ++ (Q.notes.broken ++ B.notes.broken)) e

    ef : front ≡ []
    ef = front_empty front (n.broken ++ (Q.notes.broken ++ B.notes.broken)) e

    eQ : Q.notes.broken ≡ []
    eQ = front_empty Q.notes.broken B.notes.broken (back_empty n.broken (Q.notes.broken ++ B.notes.broken) e1)

    -- the types among all
    dF : Lies d.part.contents.types F
    dF t i = lies t (one_left d.part.contents.types (Q.contents.types ++ []) t i)

    qF : Lies Q.contents.types F
    qF t i = lies t (one_right d.part.contents.types (Q.contents.types ++ []) t (one_left Q.contents.types [] t i))

    -- declarations
    kv : Place unit shown out u.path names v
    kv = record { knows = record { unit_is = start.knows.unit_is; shown_is = start.knows.shown_is; own = start.knows.own; known = start.knows.known }; path_is = refl; names_is = refl; sound = start.sound; aliases = whole_aliases [] u.own u.own start.whole }

    o : AreDeclared unit shown out u.path names (HasAll unit shown out u.path names names) v d
    o = order_good u.path names ds g v kv (front_empty d.part.notes.broken pj.broken ef)

    mF : Lies o.made F
    mF t i = dF t (o.types t i)

    -- headings
    same : R ≡ heads_of ps first
    same = heads_same ps first

    left : (h : Head) → IsOneOf hs.before h → Within h.notes.later L
    left h i y k = one_right d.part.notes.later (heads_later hs.before) y (later_of hs.before h i y k)

    abbrev HI : Head → Type 0
    HI h = IsHeadIn shown unit kept apart out u.path names In L w.own h

    headed : HeadsIn u.path names L d.around hs × (AllByRecursion HI (heads_of ps first) × Lies d.around.own w.own)
    headed =
        heads_are shown unit kept apart out u.path names In L d.around U ps (all_of GoodProcedure (λ (p : Written_procedure). AreFirmSections unit shown out u.path names p.heading.parameters.sections) ps (λ p i. i.sections u.path names) (procedures_good ds g)) first
        (first_heads u.path names L v kv start.whole start.within d o (λ y k. one_left d.part.notes.later (heads_later hs.before) y k) (λ t i. among t (mF t i)))
        (subst (λ hs. (procedures_judged U ps hs).notes.broken ≡ []) same eQ) (λ t i. among t (qF t (subst (λ hs. IsOneOf (procedures_judged U ps hs).contents.types t) (sym same) i)))
        (all_one (λ (h : Head). Within h.notes.later L) (heads_of ps first) (λ h i. left h (one_turned hs.before h (subst (λ hs. IsOneOf hs h) (sym same) i))))

    each_head : AllByRecursion HI R
    each_head = subst (AllByRecursion HI) (sym same) headed.1.0

    pub own_within : (s : TypedType) → IsOneOf w.own s → In s
    own_within s i = headed.0.within s i

    none : (Q.contents.bound ≡ []) × (Q.contents.variables ≡ [])
    none = procedures_none U ps R

    -- what is bound
    pub bound_is : (s : TypedType) → IsOneOf (block ds body u).contents.bound s → IsOneOf (binding_at level w R).own s
    bound_is s i =
        ⊎_elim (λ k. absurd (subst (λ ts. IsOneOf ts s) o.bound k))
        (λ k. ⊎_elim (λ j. j) (λ j. absurd (subst (λ ts. IsOneOf (ts ++ []) s) none.0 j)) (one_joined b.own (Q.contents.bound ++ []) s k))
        (one_joined d.part.contents.bound (b.own ++ (Q.contents.bound ++ [])) s i)

    -- pointers
    told_head : (h : Head) → IsOneOf R h → AreTold F h.notes.later
    told_head h i = are_told_more (types_of h.parameters) F (λ t j. qF t (subst (λ hs. IsOneOf (procedures_judged U ps hs).contents.types t) (sym same) (made_lie U ps first h (subst (λ hs. IsOneOf hs h) same i) t j))) h.notes.later (one_all HI R h each_head i).told

    told : AreTold F L
    told = all_both (Tells F) d.part.notes.later (heads_later hs.before) (are_told_more o.made F mF d.part.notes.later o.told) (heads_told F hs.before (all_one (λ (h : Head). AreTold F h.notes.later) hs.before (λ h i. told_head h (one_reversed hs.before h i))))

    fit : AllByRecursion (W [] w.own) w.own
    fit = all_of (W L w.own) (W [] w.own) w.own (λ s i. pointers_fit w headed.0.place.knows headed.0.place.aliases L told headed.0.within (back_empty d.part.notes.broken pj.broken ef) s i) headed.0.whole

    all : (t : TypedType) → IsOneOf w.own t → W [] F t
    all t i = to_all w.own headed.0.within t (one_all (W [] w.own) w.own t fit i)

    module _ (bound : level ≡ true → (s : TypedType) → IsOneOf (block ds body u).contents.bound s → In s) where
      bind : IsBinding b.own
      bind =
          binding_is level w R (all_of HI (λ (h : Head). Has (λ (p : Parameters). SignatureFirm (T w.own) (λ t. Seen unit shown In is_structured false t) p.signature) h.parameters) R (λ h i. i.signature) each_head) fit headed.0.within
          (λ y s i. bound y s (one_right d.part.contents.bound (b.own ++ (Q.contents.bound ++ [])) s (one_left b.own (Q.contents.bound ++ []) s i)))

      -- procedures
      begin : (h : Head) → HI h → HeadStarts U h
      begin h i = record {
        starts = record {
          knows = record { unit_is = headed.0.place.knows.unit_is; shown_is = headed.0.place.knows.shown_is; own = whole_described [] b.own b.own bind.whole; known = all_grown unit shown AnyValue w.own b.own (binding_changes AnyValue level w R).grows (h.inside ++ h.known) i.entities };
          sound = i.sound;
          whole = bind.whole;
          within = bind.within;
        };
        types = subst (AllByRecursion (W [] F)) (head_types_same h.parameters) (all_one (W [] F) (types_of h.parameters) (λ t j. all t (i.made t j)));
      }

      -- what stands around the procedures and statements, and around what is inside each procedure
      pub block_starts : Start U × AllByRecursion (λ (h : Head). Start (around_body U h)) R
      block_starts = (
        record {
          knows = record { unit_is = headed.0.place.knows.unit_is; shown_is = headed.0.place.knows.shown_is; own = whole_described [] b.own b.own bind.whole; known = all_grown unit shown AnyValue w.own b.own (binding_changes AnyValue level w R).grows w.known headed.0.place.knows.known };
          sound = headed.0.place.sound;
          whole = bind.whole;
          within = bind.within;
        },
        all_of HI (λ (h : Head). Start (around_body U h)) R (λ h i. (begin h i).starts) each_head,
      )

      front_own : Lies o.made w.own
      front_own t i = headed.1.1 t (subst (λ (z : Around). IsOneOf z.own t) (sym o.around) (one_left o.made v.own t i))

      pub block_adds : Adds (block ds body u).contents
      block_adds = record {
        types = all_both (W [] F) d.part.contents.types (Q.contents.types ++ []) (all_one (W [] F) d.part.contents.types (λ t i. all t (front_own t (o.back t i)))) (all_both (W [] F) Q.contents.types [] (procedures_add U ps (procedures_good ds g) R (all_of HI (HeadStarts U) R begin each_head) eQ qF) tt);
        bound = all_both (W [] F) d.part.contents.bound (b.own ++ (Q.contents.bound ++ [])) (subst (AllByRecursion (W [] F)) (sym o.bound) tt) (all_both (W [] F) b.own (Q.contents.bound ++ []) (all_of (W [] b.own) (W [] F) b.own (λ t i. to_all b.own bind.within t i) bind.whole) (subst (λ ts. AllByRecursion (W [] F) (ts ++ [])) (sym none.0) tt));
        variables = all_both VariableIn d.part.contents.variables (Q.contents.variables ++ []) (all_of (VariableFirm unit shown out u.path names (o.made ++ v.own)) VariableIn d.part.contents.variables (λ x i. variable_to (o.made ++ v.own) (λ s j. ⊎_elim (λ y. among s (mF s y)) (λ y. start.within s y) (one_joined o.made v.own s j)) x i) o.variables) (subst (λ xs. AllByRecursion VariableIn (xs ++ [])) (sym none.1) tt);
      }
