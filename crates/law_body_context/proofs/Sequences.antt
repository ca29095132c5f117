-- A sequence of declarations with its statements: the bodies of its procedures and its own are judged where what is known is as the module has it.
use Rattle.std.proofs.Common.{◌≡◌, ⊎_elim, refl, sym, ap, ◌∙◌, subst, ℕ, ◌≤◌, Bool, true, false, List, [], ◌++◌, map, Option, Some, None, inl}
use Rattle.std.specs.List.{AllByRecursion}
use Rattle.ob_tree.specs.declared.names.QName.{QName}
use Rattle.ob_tree.specs.declared.stmt.Stmt.{Stmt}
use Rattle.ob_types.specs.declared.value.Value.{Value}
use Rattle.ob_types.specs.declared.desc.Desc.{Desc}
use Rattle.ob_types.specs.declared.typed.TypedType.{TypedType}
use Rattle.ob_types.specs.declared.typed.TypedModule.{TypedModule}
use Rattle.ob_rules.specs.declared.entity.Known.{Known}
use Rattle.ob_rules.specs.declared.entity.Bound.{Bound}
use Rattle.ob_rules.specs.Names.{Around, map_of, in_unit, is_out}
use Rattle.ob_rules.specs.Types.{Parameters, nothing, is_module_level}
use Rattle.ob_rules.specs.Statements.{judging, in_turn}
use Rattle.ob_rules.specs.Headings.{Head, Heads, head_entity, entity_as, forwards_judged, reversed}
use Rattle.ob_rules.specs.Declarations.{Contents, no_contents, together, Part, Declared, Written_procedure, all_judged, field_judged, headings_in_order, procedures_judged, stmts_in, body_part, block_inside, with_bound, binding_at, heads_later, block_declared}
use Rattle.law_typing_forms.specs.Said.{IsOneOf}
use Rattle.law_typing.specs.Makes.{IfThere}
use Rattle.law_typing.specs.Spelled.{all_true}
use Rattle.law_typing.specs.Bodies.{stmt_spelled}
use Rattle.law_body_context.specs.Knows.{Grows, IsDescribed, EntityStands}
use Rattle.law_body_context.specs.Judged.{IsMade, IsWithin, AreOf, IsProcedureIn, IsForwardIn, NameIs}
use Rattle.law_body_context.specs.Order.{AreInOrder}
use Rattle.law_body_context.proofs.Receivers.{IsBoundAmong, bound_in_order}
use Rattle.law_body_context.proofs.Lists.{one_joined, one_all, there_of, all_of}
use Rattle.law_body_context.proofs.Standing.{Lies, lies_same, grows_as, grows_same, grows_then, grows_both, entity_grown}
use Rattle.law_body_context.proofs.Heads.{SignatureStands, HeadStands, head_grown}
use Rattle.law_body_context.proofs.Headings.{Aligned, IsUnbroken, types_of_all, lies_in_order, types_lie, named_at, aligned_in_order, names_in_order, HeadsStand, named_fine, stand_in_order}
use Rattle.law_body_context.proofs.Binding.{binding_changes}
use Rattle.law_body_context.proofs.Around.{HoldsInside, HoldsBehind, IsJudgedAlso}
use Rattle.law_body_context.proofs.Levels.{Level, AtModule, Within, frame, IsPlaced, IsBoundAt, IsOpened, BoundBy, own_none, own_bound, own_same, bound_none, bound_changed, Included, none_full, both_full, first_included, second_included, BlockAt, name_grown}
use Rattle.law_body_context.proofs.Plain.{DeclaredIs}
use Rattle.law_body_context.proofs.Quiet.{AreQuiet, IsQuietHead, quiet_in_order}
use Rattle.law_body_context.proofs.Forwards.{IsAnswered, all_answered}
use Rattle.law_body_context.proofs.Blocks.{one_reversed, one_turned, all_reversed, all_empty, procedures_body, procedures_bound, PartIs, AreProcedures, headings_good, headings_well, stands_at, KnownBehind, IsBoundWithin, HeadBound, procedures_are, heads_unbroken, types_there, HasProcedure, heading_there}
use Rattle.law_lists.proofs.Lists.{all_both, all_pairs, append_none, at_most, back_empty, both_empty, front_empty}

module _ (IsConstant : Value → Type 0) (shown : QName → Option Desc) (m : TypedModule) (content : Contents) (out : is_out m.name ≡ false) (Also : Around → Type 0) where
  abbrev B : Level → Around → Type 0
  B l u = BlockAt IsConstant shown m content l u

  abbrev I : Level → Contents → Type 0
  I l c = Included IsConstant shown m content l c

  abbrev HS : List TypedType → ℕ → Head → Type 0
  HS own scope h = HeadStands IsConstant m.name shown out own scope h

  -- THE NAME OF A PROCEDURE

  signature_at : (own : List TypedType) (o : Option Parameters) (q : Parameters) → o ≡ Some q → IfThere (SignatureStands IsConstant m.name shown out own) o → SignatureStands IsConstant m.name shown out own q
  signature_at own o q e h = subst (IfThere (SignatureStands IsConstant m.name shown out own)) e h

  procedure_in : (base : Around) → base.unit ≡ m.name → (own : List TypedType) (h : Head) → HS own base.scope h → h.is_bound ≡ false → (q : Parameters) → h.parameters ≡ Some q → HasProcedure IsConstant shown m content out m.procedures h q → IsProcedureIn IsConstant shown m content own (in_unit base h.path) q.signature
  procedure_in base unit own h s free q e r =
      let g = signature_at own h.parameters q e s.signature in
      record {
        p = r.p;
        there = r.there;
        name = ap (λ (n : List ℕ). record { «module» = n; object = h.path }) unit ∙ ap (λ (x : List ℕ). record { «module» = m.name; object = x }) (sym r.name);
        result = r.result;
        parameters = subst (λ ps. AreOf ps q.signature.params) (sym (r.parameters ∙ ap (λ l. l ++ q.parameters) (s.free free))) g.answer;
        params = g.params;
        result_stands = g.result;
      }

  -- somewhere in the module the heading of its procedure is known to match that of a forward declaration
  pub record IsAnsweredIn (hs : List Head) (f : Head) (q : Parameters) : Type 0 where
    pub w : Around
    pub within : IsWithin IsConstant shown m content w
    pub answer : IsAnswered (map_of w) hs f q

  module _ (base : Around) (unit : base.unit ≡ m.name) (own : List TypedType) (hs : List Head) (stand : AllByRecursion (HS own base.scope) hs) (has : (h : Head) → IsOneOf hs h → (q : Parameters) → h.parameters ≡ Some q → h.forward ≡ false → HasProcedure IsConstant shown m content out m.procedures h q) where
    forward_in : (h : Head) → HS own base.scope h → (q : Parameters) → h.parameters ≡ Some q → IsAnsweredIn hs h q → IsForwardIn IsConstant shown m content own (in_unit base h.path) q.signature
    forward_in h s q e a =
        let g = a.answer.g in
        let x = one_all (HS own base.scope) hs g stand a.answer.there in
        let mine = signature_at own h.parameters q e s.signature in
        record {
          t = a.answer.r.signature;
          procedure = subst (λ (n : List ℕ). IsProcedureIn IsConstant shown m content own (in_unit base n) a.answer.r.signature) a.answer.path (procedure_in base unit own g x a.answer.free a.answer.r a.answer.is (has g a.answer.there a.answer.r a.answer.is a.answer.written));
          w = a.w;
          within = a.within;
          alike = a.answer.alike;
          params = mine.params;
          result_stands = mine.result;
        }

    head_name : (l : Level) (h : Head) → IsOneOf hs h → h.is_bound ≡ false → ((q : Parameters) → h.parameters ≡ Some q → h.forward ≡ true → IsAnsweredIn hs h q) → (o : Option Parameters) → h.parameters ≡ o → NameIs IsConstant shown m content own (frame l) base.level base.scope (head_entity base h o)
    head_name l h i free answers None e = tt
    head_name l h i free answers (Some q) e = by h.forward refl
      where
        by : (f : Bool) → h.forward ≡ f → NameIs IsConstant shown m content own (frame l) base.level base.scope (entity_as f (in_unit base h.path) q.signature)
        by true f = forward_in h (one_all (HS own base.scope) hs h stand i) q e (answers q e f)
        by false f = procedure_in base unit own h (one_all (HS own base.scope) hs h stand i) free q e (has h i q e f)

  -- PROCEDURES AND STATEMENTS

  placed_with : (l : Level) (u : Around) (ks : List Known) (own : List TypedType) (bs : List Bound) → IsPlaced l u → IsPlaced l (record u { known = ks; own = own; bound = bs; coming = [] })
  placed_with AtModule u ks own bs h = h
  placed_with (Within p) u ks own bs h = h

  module _ (l : Level) (base : Around) (b : B l base) (ps : List Written_procedure) (good : AreProcedures IsConstant shown m content out Also ps) (xs : List Stmt) (spelled : all_true (map stmt_spelled xs) ≡ true) where
    abbrev start : Heads
    start = record { around = base; before = [] }

    abbrev hs : Heads
    hs = headings_in_order ps start

    abbrev heads : List Head
    heads = reversed hs.before

    stand : HeadsStand IsConstant m.name shown out base hs
    stand = stand_in_order IsConstant m.name shown out base ps (headings_good IsConstant shown m content out Also ps good) start (record { behind = refl; knows = b.knows; below = b.below; before = tt; grows = grows_same base.own; order = λ i. i })

    aligned : Aligned ps heads
    aligned = let a = aligned_in_order ps start in subst (Aligned ps) (sym a.is) a.aligned

    module _ (own : List TypedType) (grows : Grows hs.around.own own) (described : AllByRecursion (IsDescribed IsConstant) own) (grown : Grows own m.types) (made : (t : TypedType) → IsOneOf own t → IsMade content t) (heads_bound : AllByRecursion (HeadBound IsConstant shown m content out) hs.before) (quiet : AllByRecursion (IsQuietHead base.path) hs.before) (answered : (h : Head) → IsOneOf hs.before h → h.is_bound ≡ false → (q : Parameters) → h.parameters ≡ Some q → h.forward ≡ true → IsAnsweredIn hs.before h q) (bound : List Bound) where
      -- what stands around the procedures and statements
      abbrev w : Around
      w = record base { known = hs.around.known; own = own; bound = bound; coming = [] }

      abbrev inside : Part
      inside = block_inside w ps heads (map judging xs)

      whole : Grows base.own own
      whole = grows_then base.own hs.around.own own stand.grows grows

      heads_stand : AllByRecursion (HS own base.scope) hs.before
      heads_stand = all_of (HS hs.around.own base.scope) (HS own base.scope) hs.before (λ h i. head_grown IsConstant m.name shown out hs.around.own own grows base.scope h i) stand.before

      module _ (n : inside.notes.broken ≡ []) (i : I l inside.contents) (also : HoldsInside Also w heads) where
        there : (h : Head) → IsOneOf hs.before h → (q : Parameters) → h.parameters ≡ Some q → h.forward ≡ false → HasProcedure IsConstant shown m content out m.procedures h q
        there h j q e f =
            let r = heading_there IsConstant shown m content out w ps heads aligned h (one_reversed hs.before h j) q e f in
            let c = (procedures_judged w ps heads).contents in
            record { p = r.p; there = (first_included IsConstant shown m content l c (body_part (in_turn (map judging xs) w)).contents i).procedures r.p r.there; name = r.name; result = r.result; parameters = r.parameters }

        named : (h : Head) → IsOneOf hs.before h → h.is_bound ≡ false → KnownBehind IsConstant shown m content out l w (named_at base h)
        named h j free = record {
          entity = named_fine IsConstant m.name shown out own base h h.parameters;
          below = at_most base.scope;
          name = head_name base b.knows.unit_is own hs.before heads_stand there l h j free (λ q e f. answered h j free q e f) h.parameters refl;
        }

        before : AllByRecursion (KnownBehind IsConstant shown m content out l w) base.known
        before =
            all_of (λ (k : Known). (EntityStands IsConstant m.name shown base.own k.what × (k.scope ≤ base.scope)) × NameIs IsConstant shown m content base.own (frame l) base.level k.scope k.what) (KnownBehind IsConstant shown m content out l w) base.known
            (λ k h. record { entity = entity_grown m.name shown IsConstant base.own own whole k.what h.0.0; below = h.0.1; name = name_grown IsConstant shown m content base.own own whole (frame l) base.level k.scope k.what h.1 })
            (all_pairs (λ (k : Known). EntityStands IsConstant m.name shown base.own k.what × (k.scope ≤ base.scope)) (λ (k : Known). NameIs IsConstant shown m content base.own (frame l) base.level k.scope k.what) base.known (all_pairs (λ (k : Known). EntityStands IsConstant m.name shown base.own k.what) (λ (k : Known). k.scope ≤ base.scope) base.known b.knows.known b.below) b.names)

        known : AllByRecursion (KnownBehind IsConstant shown m content out l w) hs.around.known × AllByRecursion (λ (h : Head). AllByRecursion (KnownBehind IsConstant shown m content out l w) h.known) hs.before
        known = names_in_order base (KnownBehind IsConstant shown m content out l w) ps start refl named before tt

        around : B l w
        around = record {
          knows = record { unit_is = b.knows.unit_is; shown_is = b.knows.shown_is; own = described; known = all_of (KnownBehind IsConstant shown m content out l w) (λ (k : Known). EntityStands IsConstant m.name shown own k.what) hs.around.known (λ k h. h.entity) known.0 };
          below = all_of (KnownBehind IsConstant shown m content out l w) (λ (k : Known). k.scope ≤ base.scope) hs.around.known (λ k h. h.below) known.0;
          names = all_of (KnownBehind IsConstant shown m content out l w) (λ (k : Known). NameIs IsConstant shown m content own (frame l) base.level k.scope k.what) hs.around.known (λ k h. h.name) known.0;
          placed = placed_with l base hs.around.known own bound b.placed;
          guards = b.guards;
          result = b.result;
          in_loop = b.in_loop;
          grown = grown;
          within = record { unit_is = b.within.unit_is; shown_is = b.within.shown_is; own = made };
          receiver = b.receiver;
        }

        inside_is : PartIs IsConstant shown m content out Also l inside.contents
        inside_is =
            let c = (procedures_judged w ps heads).contents in
            let s = (body_part (in_turn (map judging xs) w)).contents in
            let a = procedures_are IsConstant shown m content out Also base.path l w around ps good heads (all_reversed (HS own base.scope) hs.before heads_stand) (all_reversed (HeadBound IsConstant shown m content out) hs.before heads_bound) (all_reversed (λ (h : Head). AllByRecursion (KnownBehind IsConstant shown m content out l w) h.known) hs.before known.1) (all_reversed (IsQuietHead base.path) hs.before quiet) also.1 (front_empty (procedures_judged w ps heads).notes.broken _ n) (first_included IsConstant shown m content l c s i) in
            record {
              procedures = all_both (IsJudgedAlso Also IsConstant shown m content) c.procedures [] a.procedures tt;
              also = also.0;
              body = record { u = w; xs = xs; is = ap (λ l. l ++ s.body) (procedures_body w ps heads); spelled = spelled; stands = stands_at IsConstant shown m content out l w around };
              placed = around.placed;
              full = both_full IsConstant shown m content c s a.full (record { constants = tt; types = tt; bound = tt; over = tt });
              bound = bound_none IsConstant shown m content l inside.contents (both_empty c.bound s.bound (procedures_bound IsConstant shown m content out w ps heads) refl);
              own = own_none IsConstant shown m content l inside.contents.bound w (both_empty c.bound s.bound (procedures_bound IsConstant shown m content out w ps heads) refl);
            }

        inside_own : inside_is.body.u.own ≡ own
        unfolding inside_is
        inside_own = refl

  -- what is known where procedures are bound is made by the module
  binding_made : (l : Level) (outer : Around) → IsPlaced l outer → (v : Around) (heads : List Head) → ((t : TypedType) → IsOneOf v.own t → IsMade content t) → (c : Contents) → c.bound ≡ (binding_at (is_module_level outer) v heads).own → IsBoundAt IsConstant shown m content l c → (t : TypedType) → IsOneOf (binding_at (is_module_level outer) v heads).own t → IsMade content t
  binding_made AtModule outer p v _ k c e i t h = i t (subst (λ ts. IsOneOf ts t) (sym e) h)
  binding_made (Within f) outer p v ks k c e i t h = k t (subst (λ x. IsOneOf (binding_at x v ks).own t) p.0 h)

  -- what is bound at the level of the module is bound by its headings
  bound_by : (l : Level) (outer : Around) → IsPlaced l outer → (base : Around) → base.unit ≡ m.name → (ps : List Written_procedure) → (headings_in_order ps (record { around = base; before = [] })).around.unit ≡ m.name → (headings_in_order ps (record { around = base; before = [] })).around.shown ≡ shown → (early : Around) → IsOpened IsConstant shown m content l early
      → (AreInOrder m.name shown early.own → AreInOrder m.name shown (headings_in_order ps (record { around = base; before = [] })).around.own)
      → (Lies early.own content.types → Lies (headings_in_order ps (record { around = base; before = [] })).around.own content.types)
      → BoundBy IsConstant shown m content l (binding_at (is_module_level outer) (headings_in_order ps (record { around = base; before = [] })).around (reversed (headings_in_order ps (record { around = base; before = [] })).before)).own
  bound_by AtModule outer p base b ps e f early o g k =
      let hs = headings_in_order ps (record { around = base; before = [] }) in
      record { base = base; ps = ps; base_unit = b; unit_is = e; shown_is = f; order = g o.1; lies = k o.0; is = ap (λ (x : List ℕ). (binding_at (nothing x) hs.around (reversed hs.before)).own) p.0 }
  bound_by (Within q) outer p base b ps e f early o g k = tt

  -- with what is bound, and the declarations before
  pub block_is : (l : Level) (ps : List Written_procedure) → AreProcedures IsConstant shown m content out Also ps → (xs : List Stmt) → all_true (map stmt_spelled xs) ≡ true → (outer : Around) → IsPlaced l outer → (start : Around) → IsOpened IsConstant shown m content l start → (d : Declared) → DeclaredIs IsConstant shown m content out l start d → AreQuiet d.around → HoldsBehind Also outer d.around ps → (block_declared outer ps (map judging xs) d).notes.broken ≡ [] → I l (block_declared outer ps (map judging xs) d).contents → PartIs IsConstant shown m content out Also l (block_declared outer ps (map judging xs) d).contents
  block_is l ps good xs spelled outer placed start opened d g calm also n i =
      let base = d.around in
      let h = hs l base g.around ps good xs spelled in
      let all = reversed h.before in
      let s = stand l base g.around ps good xs spelled in
      let bind = binding_at (is_module_level outer) h.around all in
      let ch = binding_changes IsConstant (is_module_level outer) h.around all in
      let u = with_bound h.around bind in
      let e : u ≡ record base { known = h.around.known; own = bind.own; bound = bind.bound; coming = [] } = ap (λ (x : Around). record x { own = bind.own; bound = bind.bound; coming = [] }) s.behind in
      let c = (block_inside u ps all (map judging xs)).contents in
      let bound : Contents = record no_contents { bound = bind.own } in
      let j : I l c = second_included IsConstant shown m content l bound c (second_included IsConstant shown m content l no_contents (together bound c) (second_included IsConstant shown m content l d.part.contents (together no_contents (together bound c)) i)) in
      let inner = (block_inside u ps all (map judging xs)).notes.broken in
      let quiet : inner ≡ [] = back_empty _ inner (back_empty _ (_ ++ inner) n) in
      let judged = procedures_judged u ps all in
      let align = aligned l base g.around ps good xs spelled in
      let unbroken : (x : Head) → IsOneOf h.before x → IsUnbroken x = λ x k. heads_unbroken IsConstant shown m content out u ps all align (front_empty judged.notes.broken _ quiet) x (one_reversed h.before x k) in
      let calm_heads : AllByRecursion (IsQuietHead base.path) h.before = quiet_in_order base.path ps (headings_well IsConstant shown m content out Also ps good) (record { around = base; before = [] }) calm refl unbroken tt in
      let fields = (all_judged (field_judged (map_of u)) (d.part.notes.later ++ heads_later h.before)).broken in
      let notes = back_empty fields (forwards_judged (map_of h.around) all all).broken (back_empty bind.notes.broken _ (front_empty _ inner (back_empty _ (_ ++ inner) n))) in
      let answered : (f : Head) → IsOneOf h.before f → f.is_bound ≡ false → (q : Parameters) → f.parameters ≡ Some q → f.forward ≡ true → IsAnswered (map_of h.around) all f q =
      λ f k free q e w. all_answered (map_of h.around) all base.path (all_reversed (IsQuietHead base.path) h.before calm_heads) all (λ x j. j) notes f (one_reversed h.before f k) w free q e in
      let inner_included = first_included IsConstant shown m content l judged.contents (body_part (in_turn (map judging xs) u)).contents j in
      let made : Lies (types_of_all h.before) judged.contents.types = types_lie h.before judged.contents.types (λ x k. types_there IsConstant shown m content out u ps all align x (one_reversed h.before x k)) in
      let behind : Lies h.around.own (types_of_all h.before ++ base.own) = lies_in_order base.own ps (record { around = base; before = [] }) unbroken (lies_same base.own) in
      let made_grown : Grows (types_of_all h.before) m.types = grows_then (types_of_all h.before) judged.contents.types m.types (grows_as (types_of_all h.before) judged.contents.types made) inner_included.types in
      let grown : Grows bind.own m.types = grows_then bind.own h.around.own m.types ch.back (grows_then h.around.own (types_of_all h.before ++ base.own) m.types (grows_as h.around.own (types_of_all h.before ++ base.own) behind) (grows_both (types_of_all h.before) base.own m.types made_grown g.around.grown)) in
      let heads_made : (t : TypedType) → IsOneOf h.around.own t → IsMade content t = λ t k. ⊎_elim (λ y. inl (inner_included.made t (made t y))) (λ y. g.around.within.own t y) (one_joined (types_of_all h.before) base.own t (behind t k)) in
      let heads_lie : Lies start.own content.types → Lies h.around.own content.types = λ f t k. ⊎_elim (λ y. inner_included.made t (made t y)) (λ y. ⊎_elim (λ z. (first_included IsConstant shown m content l d.part.contents (together no_contents (together bound c)) i).made t z) (λ z. f t z) (one_joined d.part.contents.types start.own t (g.lies t y))) (one_joined (types_of_all h.before) base.own t (behind t k)) in
      let only_bound : (block_declared outer ps (map judging xs) d).contents.bound ≡ bind.own = ap (λ ts. ts ++ (bind.own ++ c.bound)) g.bound ∙ ap (λ ts. bind.own ++ ts) (both_empty judged.contents.bound [] (procedures_bound IsConstant shown m content out u ps all) refl) ∙ append_none bind.own in
      let rest_included = second_included IsConstant shown m content l no_contents (together bound c) (second_included IsConstant shown m content l d.part.contents (together no_contents (together bound c)) i) in
      let bound_made : (t : TypedType) → IsOneOf bind.own t → IsMade content t = binding_made l outer placed h.around all heads_made bound refl (first_included IsConstant shown m content l bound c rest_included).bound in
      let heads_bound : AllByRecursion (HeadBound IsConstant shown m content out) h.before =
      all_of (λ (x : Head). IfThere (IsBoundAmong m.name shown h.around.own) x.bound) (HeadBound IsConstant shown m content out) h.before
      (λ x. there_of (IsBoundAmong m.name shown h.around.own) (IsBoundWithin IsConstant shown m content out) x.bound (λ b k. record { w = k.w; within = record { unit_is = k.unit_is; shown_is = k.shown_is; own = λ t y. heads_made t (k.lies t y) }; is = k.is }))
      (bound_in_order m.name shown ps (record { around = base; before = [] }) g.around.knows.unit_is g.around.knows.shown_is tt) in
      let all_in : (f : Head) → IsOneOf h.before f → f.is_bound ≡ false → (q : Parameters) → f.parameters ≡ Some q → f.forward ≡ true → IsAnsweredIn h.before f q = λ f k free q e w.
      let a = answered f k free q e w in
      record {
        w = h.around;
        within = record { unit_is = s.knows.unit_is; shown_is = s.knows.shown_is; own = heads_made };
        answer = record { g = a.g; there = one_turned h.before a.g a.there; written = a.written; free = a.free; path = a.path; r = a.r; is = a.is; alike = a.alike };
      } in
      let both : (p : PartIs IsConstant shown m content out Also l c) × (p.body.u.own ≡ bind.own) =
      subst (λ (x : Around). (block_inside x ps all (map judging xs)).notes.broken ≡ [] → I l (block_inside x ps all (map judging xs)).contents → HoldsInside Also x all → (p : PartIs IsConstant shown m content out Also l (block_inside x ps all (map judging xs)).contents) × (p.body.u.own ≡ bind.own)) (sym e)
      (λ k o y. (inside_is l base g.around ps good xs spelled bind.own ch.grows (ch.described s.knows.own) grown bound_made heads_bound calm_heads all_in bind.bound k o y, inside_own l base g.around ps good xs spelled bind.own ch.grows (ch.described s.knows.own) grown bound_made heads_bound calm_heads all_in bind.bound k o y)) quiet j also in
      let p = both.0 in
      record {
        procedures = all_both (IsJudgedAlso Also IsConstant shown m content) d.part.contents.procedures c.procedures (all_empty (IsJudgedAlso Also IsConstant shown m content) d.part.contents.procedures g.procedures) p.procedures;
        body = record { u = p.body.u; xs = p.body.xs; is = ◌∙◌ {c = stmts_in (in_turn (map judging p.body.xs) p.body.u).node} (ap (λ l. l ++ c.body) g.body) p.body.is; spelled = p.body.spelled; stands = p.body.stands };
        also = p.also;
        placed = p.placed;
        full = both_full IsConstant shown m content d.part.contents (together no_contents (together bound c)) g.full (both_full IsConstant shown m content no_contents (together bound c) (none_full IsConstant shown m content) (both_full IsConstant shown m content bound c (record { constants = tt; types = tt; bound = ch.described s.knows.own; over = tt }) p.full));
        bound = bound_changed IsConstant shown m content l start opened h.around.own bind.own ch heads_lie (bound_by l outer placed base g.around.knows.unit_is ps s.knows.unit_is s.knows.shown_is start opened (λ i. s.order (g.order i)) heads_lie) (block_declared outer ps (map judging xs) d).contents only_bound;
        own = own_same IsConstant shown m content l bind.own (block_declared outer ps (map judging xs) d).contents.bound p.body.u only_bound (own_bound IsConstant shown m content l bind.own p.body.u both.1);
      }
