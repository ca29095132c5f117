-- Blocks, and the procedures in them, are judged the same with other interfaces around.
use Rattle.std.proofs.Common.{◌≡◌, refl, sym, ap, ◌∙◌, subst, ℕ, Bool, true, false, List, [], ◌∷◌, ◌++◌, map, Option, Some, None, codes}
use Rattle.std.specs.List.{AllByRecursion, filter_map}
use Rattle.std.proofs.lemmas.Bool.{false≢true}
use Rattle.ob_tree.specs.declared.names.QName.{QName}
use Rattle.ob_tree.specs.declared.ident.Ident.{Ident}
use Rattle.ob_tree.specs.declared.stmt.Stmt.{Stmt}
use Rattle.ob_types.specs.declared.desc.Desc.{Desc}
use Rattle.ob_types.specs.declared.typed.TypedProcedure.{TypedProcedure}
use Rattle.ob_types.specs.declared.typed.TypedStmt.{TypedStmt}
use Rattle.ob_types.specs.declared.typed.TypedType.{TypedType}
use Rattle.ob_rules.specs.declared.notes.Later.{Later}
use Rattle.ob_rules.specs.declared.entity.Known.{Known}
use Rattle.ob_rules.specs.Judged.{Notes, no_notes, joined}
use Rattle.ob_rules.specs.Shapes.{Map, member}
use Rattle.ob_rules.specs.Names.{Around, map_of, is_among}
use Rattle.ob_rules.specs.Types.{Parameters, is_module_level, with_types, nothing}
use Rattle.ob_rules.specs.Statements.{Judging, judging, in_turn}
use Rattle.ob_rules.specs.Headings.{BoundAs, Head, Heads, Binding, head_of, name_twice, declared_head, known_behind, types_of, forwards_judged, bindings, reversed}
use Rattle.ob_rules.specs.Declarations.{Contents, Part, no_contents, with_part, Declared, Declaration, Plain, Procedure, plain_of, type_name_of, procedure_of, Written_procedure, in_order, headings_in_order, pointers_judged, field_judged, all_judged, nothing_later, closing_judged, around_body, binding_of, bound_to, typed_procedure, types_of_head, self_parameters, procedure_contents, procedure_part, procedure_judged, procedures_judged, stmts_in, body_part, only_notes, block_inside, with_bound, block_bound, binding_at, heads_later, block_headed, block_behind, block_declared, block}
use Rattle.law_names_procedures.specs.Procedures.{ShowBases}
use Rattle.law_names_procedures.proofs.Judges.{Has}
use Rattle.law_names_procedures.proofs.Knowing.{AreKnown}
use Rattle.law_names_procedures.proofs.Plain.{OrderIs, GoodPlain, order_one}
use Rattle.law_local_judged.specs.Agreement.{DescIn, Agree}
use Rattle.law_local_judged.specs.Said.{SaidIn, StmtIn}
use Rattle.law_local_judged.specs.Followed.{beside, Agrees}
use Rattle.law_local_judged.specs.Declared.{MadeIn, OwnIn, LaterIn, AreSound, IsPlain, DeclaredSame}
use Rattle.law_local_judged.specs.Headed.{BoundIn, FromGrammar, HeadSaid, HeadIn, HeadsSame, BindingsIn}
use Rattle.law_local_judged.proofs.Following.{said_left, said_right}
use Rattle.law_local_judged.proofs.Tests.{two, member_same}
use Rattle.law_local_judged.proofs.Names.{maps_agree}
use Rattle.law_local_judged.proofs.Bodies.{in_turn_follows}
use Rattle.law_local_judged.proofs.Statements.{stmts_follow}
use Rattle.law_local_judged.proofs.Declaring.{order_same}
use Rattle.law_local_judged.proofs.Heading.{headings_same, body_agrees}
use Rattle.law_local_judged.proofs.Binding.{bindings_same, forwards_same}
use Rattle.law_local_judged.proofs.Later.{pointers_same, fields_same}
use Rattle.law_local_nodes.specs.Quiet.{AreNamed, IsQuiet}
use Rattle.law_local_nodes.proofs.Guards.{no_guards}
use Rattle.law_local_nodes.proofs.Bodies.{in_turn_there}
use Rattle.law_local_nodes.proofs.Statements.{stmts_there}
use Rattle.law_local_module.specs.Laws.{LeavesIn, ContentsIn}
use Rattle.law_local_module.proofs.Steady.{HeldWell, AllHeld, well_to, base_held, based_held, Start, declared_based, known_sound, Names, order_named}
use Rattle.law_local_module.proofs.Heads.{HeadsAre, HeadOk, GoodHeading, heads_of, heads_are, heads_are_ok}
use Rattle.law_local_module.proofs.Bound.{Kept, bindings_kept, Signed, bindings_signed, counted_judged}
use Rattle.law_lists.proofs.Lists.{all_back, all_both, all_from, all_front, back_empty, front_empty}

-- ---- lists

all_reversed : {A : Type 0} (Q : A → Type 0) (xs : List A) → AllByRecursion Q xs → AllByRecursion Q (reversed xs)
all_reversed Q [] h = tt
all_reversed Q (x ∷ xs) h = all_both Q (reversed xs) (x ∷ []) (all_reversed Q xs h.1) (h.0, tt)

all_turned : {A : Type 0} (Q : A → Type 0) (xs : List A) → AllByRecursion Q (reversed xs) → AllByRecursion Q xs
all_turned Q [] h = tt
all_turned Q (x ∷ xs) h = ((all_back Q (reversed xs) (x ∷ []) h).0, all_turned Q xs (all_front Q (reversed xs) (x ∷ []) h))

no_level : (x : List ℕ) → nothing (x ++ codes "/") ≡ false
no_level [] = refl
no_level (c ∷ x) = refl

has_node : {A : Type 0} (o : Option A) → Has (λ x. Unit {0}) o → (x : A) × (o ≡ Some x)
has_node None h = absurd h
has_node (Some x) h = (x, refl)

module _ (P : QName → Type 0) (s : QName → Option Desc) (leaves : LeavesIn P s) where
  abbrev ProceduresIn : List TypedProcedure → Type 0
  ProceduresIn ps = AllByRecursion (λ (p : TypedProcedure). AllByRecursion (StmtIn P) p.body) ps

  contents_left : (a b : Part) → ContentsIn P (with_part a b).contents → ContentsIn P a.contents
  contents_left a b h = (all_front (λ (p : TypedProcedure). AllByRecursion (StmtIn P) p.body) a.contents.procedures b.contents.procedures h.0, all_front (StmtIn P) a.contents.body b.contents.body h.1)

  pub contents_right : (a b : Part) → ContentsIn P (with_part a b).contents → ContentsIn P b.contents
  contents_right a b h = (all_back (λ (p : TypedProcedure). AllByRecursion (StmtIn P) p.body) a.contents.procedures b.contents.procedures h.0, all_back (StmtIn P) a.contents.body b.contents.body h.1)

  -- a procedure whose inside is judged the same
  pub record GoodProcedure (p : Written_procedure) : Type 0 where
    pub heading : GoodHeading p
    pub grammar : FromGrammar p
    pub inside : (u : Around) → Start u → is_module_level u ≡ false → Agrees P u s → OwnIn P u.unit → (p.inside u).notes.broken ≡ [] → SaidIn P (p.inside u).notes → ContentsIn P (p.inside u).contents → p.inside (beside u s) ≡ p.inside u

  abbrev pub GoodDeclaration : Declaration → Type 0
  GoodDeclaration (Plain o f) = GoodPlain o f × IsPlain f
  GoodDeclaration (Procedure p) = GoodProcedure p

  abbrev pub AreGood : List Declaration → Type 0
  AreGood ds = AllByRecursion GoodDeclaration ds

  order_good : (ds : List Declaration) → AreGood ds → (u : Around) → AreKnown u.known → (in_order (filter_map plain_of ds) u).part.notes.broken ≡ [] → OrderIs (filter_map type_name_of ds) u (in_order (filter_map plain_of ds) u)
  order_good [] g u k e = record { more = u.known; made = []; around = refl; known = k; points = tt; named = λ x h. absurd (false≢true h); none = refl }
  order_good (Procedure p ∷ ds) g u k e = order_good ds g.1 u k e
  order_good (Plain o f ∷ ds) g u k e =
      let a = f u in
      let rest = in_order (filter_map plain_of ds) a.around in
      let p = g.0.0 u k (front_empty a.part.notes.broken rest.part.notes.broken e) in
      order_one o (filter_map type_name_of ds) u a rest p (order_good ds g.1 a.around (subst (λ (v : Around). AreKnown v.known) (sym p.around) p.known) (back_empty a.part.notes.broken rest.part.notes.broken e))

  plains_good : (ds : List Declaration) → AreGood ds → AllByRecursion IsPlain (filter_map plain_of ds)
  plains_good [] g = tt
  plains_good (Plain o f ∷ ds) g = (g.0.1, plains_good ds g.1)
  plains_good (Procedure p ∷ ds) g = plains_good ds g.1

  procedures_good : (ds : List Declaration) → AreGood ds → AllByRecursion GoodProcedure (filter_map procedure_of ds)
  procedures_good [] g = tt
  procedures_good (Plain o f ∷ ds) g = procedures_good ds g.1
  procedures_good (Procedure p ∷ ds) g = (g.0, procedures_good ds g.1)

  headings_good : (ps : List Written_procedure) → AllByRecursion GoodProcedure ps → AllByRecursion GoodHeading ps
  headings_good ps g = all_from GoodProcedure GoodHeading (λ p h. h.heading) ps g

  grammars : (ps : List Written_procedure) → AllByRecursion GoodProcedure ps → AllByRecursion FromGrammar ps
  grammars ps g = all_from GoodProcedure FromGrammar (λ p h. h.grammar) ps g

  -- ---- procedures

  -- where all that is bound is known
  pub record Inside (U : Around) : Type 0 where
    pub held : AllHeld U
    pub shown : ShowBases U.shown U.unit
    pub bound : Signed U.bound
    pub agrees : Agrees P U s
    pub own : OwnIn P U.unit

  module _ (U : Around) (i : Inside U) where
    abbrev V : Around
    V = beside U s

    maps : Agree P (map_of U) (map_of V)
    maps = maps_agree P U s i.agrees

    bound_same : (h : Head) (o : Option BoundAs) → BoundIn P o → bound_to (map_of V) h o ≡ bound_to (map_of U) h o
    bound_same h None k = refl
    bound_same h (Some b) k = ap (binding_of b.owner b) (member_same P (map_of U) (map_of V) maps b.owner h.name k.1)

    typed_same : (h : Head) (o : Option Parameters) (c : Contents) → BoundIn P h.bound → typed_procedure (map_of V) h o c ≡ typed_procedure (map_of U) h o c
    typed_same h None c k = refl
    typed_same h (Some p) c k =
        ap (λ b. let t : TypedProcedure = record { name = h.path; mark = h.mark; «pos» = h.at; binding = b; parameters = self_parameters h h.self h.bound ++ p.parameters; result = p.signature.result; locals = c.variables; body = c.body } in t ∷ []) (bound_same h h.bound k)

    part_same : (h : Head) (closing : Option Ident) (p : Part) → BoundIn P h.bound → procedure_part V h closing p ≡ procedure_part U h closing p
    part_same h closing p k =
        ap (λ ps. let c : Contents = record { constants = []; types = types_of_head h.parameters ++ p.contents.types; variables = []; procedures = ps ++ p.contents.procedures; body = []; bound = [] } in let q : Part = record { notes = joined h.notes (joined (closing_judged h.name closing) p.notes); contents = c } in q)
        (typed_same h h.parameters p.contents k)

    typed_in : (h : Head) (o : Option Parameters) (c : Contents) → Has (λ p. Unit {0}) o → ProceduresIn (typed_procedure (map_of U) h o c ++ c.procedures) → ContentsIn P c
    typed_in h None c k m = absurd k
    typed_in h (Some p) c k m = (m.1, m.0)

    starts : (h : Head) → HeadOk U.unit h → Start (around_body U h)
    starts h k = record {
      known = k.known;
      named = k.named;
      held = all_from (λ t. HeldWell U t.desc) (λ t. HeldWell (around_body U h) t.desc) (λ t w. well_to U (around_body U h) refl refl (λ x e. e) t.desc w) U.own i.held;
      shown = i.shown;
      bound = i.bound;
      guards = refl;
    }

    one_same : (p : Written_procedure) → GoodProcedure p → (h : Head) → HeadOk U.unit h → HeadIn P h → (f : Bool) → (procedure_judged U p h f).notes.broken ≡ [] → SaidIn P (procedure_judged U p h f).notes → ContentsIn P (procedure_judged U p h f).contents → procedure_judged V p h f ≡ procedure_judged U p h f
    one_same p g h k w true e said m = refl
    one_same p g h k w false e said m =
        let u = around_body U h in
        let x = p.inside u in
        let c = closing_judged h.name p.closing in
        let b = body_agrees P s U i.agrees h w in
        let quiet = back_empty c.broken x.notes.broken (back_empty h.notes.broken (joined c x.notes).broken e) in
        let said_x = said_right P c x.notes (said_right P h.notes (joined c x.notes) said) in
        let same = g.inside u (starts h k) (no_level h.path) b.0 i.own quiet said_x (typed_in h h.parameters x.contents k.parameters m.0) in
        ap (λ z. procedure_part V h p.closing (p.inside z)) b.1 ∙ (ap (procedure_part V h p.closing) same ∙ part_same h p.closing x w.bound)

    procedures_same : (ps : List Written_procedure) → AllByRecursion GoodProcedure ps → (hs : List Head) → AllByRecursion (HeadOk U.unit) hs → AllByRecursion (HeadIn P) hs → (procedures_judged U ps hs).notes.broken ≡ [] → SaidIn P (procedures_judged U ps hs).notes → ContentsIn P (procedures_judged U ps hs).contents
        → procedures_judged V ps hs ≡ procedures_judged U ps hs
    procedures_same [] g hs k w e said m = refl
    procedures_same (p ∷ ps) g [] k w e said m = refl
    procedures_same (p ∷ ps) g (h ∷ hs) k w e said m =
        let a = procedure_judged U p h p.forward in
        let b = procedures_judged U ps hs in
        two with_part
        (one_same p g.0 h k.0 w.0 p.forward (front_empty a.notes.broken b.notes.broken e) (said_left P a.notes b.notes said) (contents_left a b m))
        (procedures_same ps g.1 hs k.1 w.1 (back_empty a.notes.broken b.notes.broken e) (said_right P a.notes b.notes said) (contents_right a b m))

  -- what the notes of headings mention
  head_said : (U : Around) (p : Written_procedure) (h : Head) (f : Bool) → SaidIn P (procedure_judged U p h f).notes → SaidIn P h.notes
  head_said U p h true m = m
  head_said U p h false m = said_left P h.notes (joined (closing_judged h.name p.closing) (p.inside (around_body U h)).notes) m

  heads_said : (U : Around) (ps : List Written_procedure) (hs : Heads) → SaidIn P (procedures_judged U ps (heads_of ps hs)).notes → AllByRecursion (λ (h : Head). SaidIn P h.notes) (heads_of ps hs)
  unfolding heads_of
  heads_said U [] hs m = tt
  heads_said U (p ∷ ps) hs m =
      let d = head_of hs.around p.heading p.forward in
      let v = with_types hs.around (types_of d.parameters) in
      let t = name_twice v hs.before d in
      let h = declared_head t d (known_behind v t d) in
      let next : Heads = record { around = known_behind v t d; before = h ∷ hs.before } in
      let mine = procedure_judged U p h p.forward in
      let rest = procedures_judged U ps (heads_of ps next) in
      (head_said U p h p.forward (said_left P mine.notes rest.notes m), heads_said U ps next (said_right P mine.notes rest.notes m))

  whole_heads : (unit : List ℕ) (hs : List Head) → AllByRecursion (HeadOk unit) hs → AllByRecursion (λ (h : Head). SaidIn P h.notes) hs → AllByRecursion (HeadSaid P) hs
  whole_heads unit [] k m = tt
  whole_heads unit (h ∷ hs) k m = (record { parameters = has_node h.parameters k.0.parameters; notes = m.0 }, whole_heads unit hs k.1 m.1)

  -- ---- a block

  binding_same : (l : Bool) (w : Around) → Agrees P w s → (hs : List Head) → AllByRecursion (HeadIn P) hs → (l ≡ true → BindingsIn P w hs) → binding_at l (beside w s) hs ≡ binding_at l w hs
  binding_same true w a hs h k = bindings_same P s w a hs h (k refl)
  binding_same false w a hs h k = refl

  binding_kept : (l : Bool) (w : Around) (hs : List Head) → Kept P w w.own → Kept P w (binding_at l w hs).own
  binding_kept true w hs k = bindings_kept P w hs k
  binding_kept false w hs k = k

  binding_signed : (l : Bool) (w : Around) (hs : List Head) → Signed w.bound → (forwards_judged (map_of w) hs hs).broken ≡ [] → AllByRecursion (λ (h : Head). Has (λ p. Unit {0}) h.parameters) hs → (binding_at l w hs).notes.broken ≡ [] → Signed (binding_at l w hs).bound
  binding_signed true w hs b f h e = bindings_signed w hs (counted_judged (map_of w) hs f h) e
  binding_signed false w hs b f h e = b

  with_near : (w : Around) (ts : List TypedType) → AllByRecursion (λ t. HeldWell w t.desc) ts → MadeIn P ts → AllByRecursion (λ t. HeldWell w t.desc × DescIn P (Some t.desc)) ts
  with_near w [] h k = tt
  with_near w (t ∷ ts) h k = ((h.0, k.0), with_near w ts h.1 k.1)

  near_of : (w : Around) (ts : List TypedType) → AllByRecursion (λ t. HeldWell w t.desc × DescIn P (Some t.desc)) ts → MadeIn P ts
  near_of w [] h = tt
  near_of w (t ∷ ts) h = (h.0.1, near_of w ts h.1)

  as_said : (n : Notes) → SaidIn P (nothing_later n) → SaidIn P n
  as_said n m = record { objects = m.objects; types = m.types; lengths = m.lengths }

  body_same : (U : Around) → Inside U → AreKnown U.known → Names U → U.coming ≡ [] → U.guards ≡ [] → (xs : List Stmt) → (in_turn (map judging xs) U).notes.broken ≡ [] → SaidIn P (in_turn (map judging xs) U).notes → AllByRecursion (StmtIn P) (stmts_in (in_turn (map judging xs) U).node) → in_turn (map judging xs) (beside U s) ≡ in_turn (map judging xs) U
  body_same U i known named coming guards xs e said m =
      let j = in_turn (map judging xs) U in
      let q : IsQuiet U = record { known = known_sound U.known known; named = named; held = base_held U i.held i.shown; bound = i.bound; coming = coming } in
      let n = has_node j.node (in_turn_there (map judging xs) (stmts_there xs) U (no_guards U q guards) e) in
      ((in_turn_follows P (map judging xs) (stmts_follow P xs) U s i.agrees).same n.0 n.1 said (subst (λ o. AllByRecursion (StmtIn P) (stmts_in o)) n.1 m)).1

  pub block_same : (ds : List Declaration) → AreGood ds → (xs : List Stmt) (u : Around) → Start u → Agrees P u s → OwnIn P u.unit →
      (is_module_level u ≡ true →
      (let hs = headings_in_order (filter_map procedure_of ds) (record { around = (in_order (filter_map plain_of ds) (record u { later_types = filter_map type_name_of ds })).around; before = [] }) in
      BindingsIn P hs.around (reversed hs.before))) →
      (block ds (map judging xs) u).notes.broken ≡ [] → SaidIn P (block ds (map judging xs) u).notes → ContentsIn P (block ds (map judging xs) u).contents → block ds (map judging xs) (beside u s) ≡ block ds (map judging xs) u
  block_same ds g xs u start agrees own bound e said m =
      let names = filter_map type_name_of ds in
      let fs = filter_map plain_of ds in
      let ps = filter_map procedure_of ds in
      let J = map judging xs in
      let l = is_module_level u in
      let v : Around = record u { later_types = names } in
      let d = in_order fs v in
      let first : Heads = record { around = d.around; before = [] } in
      let hs = headings_in_order ps first in
      let w = hs.around in
      let R = reversed hs.before in
      let b = binding_at l w R in
      let U = with_bound w b in
      let T = procedures_judged U ps R in
      let j = in_turn J U in
      let B = body_part j in
      let L = d.part.notes.later ++ heads_later hs.before in
      let fj = all_judged (field_judged (map_of U)) L in
      let wj = forwards_judged (map_of w) R R in
      let n = joined b.notes (joined fj wj) in
      let pj = pointers_judged w L in
      let A : Part = record { notes = joined (nothing_later d.part.notes) pj; contents = d.part.contents } in
      let N : Part = only_notes n in
      let O : Part = record { notes = no_notes; contents = record no_contents { bound = b.own } } in
      let I = with_part T B in
      -- what is broken: nothing
      let e1 : n.broken ++ (T.notes.broken ++ B.notes.broken) ≡ [] = back_empty A.notes.broken (n.broken ++ (T.notes.broken ++ B.notes.broken)) e in
      let eA : A.notes.broken ≡ [] = front_empty A.notes.broken (n.broken ++ (T.notes.broken ++ B.notes.broken)) e in
      let ed : d.part.notes.broken ≡ [] = front_empty d.part.notes.broken pj.broken eA in
      let en : n.broken ≡ [] = front_empty n.broken (T.notes.broken ++ B.notes.broken) e1 in
      let eb : b.notes.broken ≡ [] = front_empty b.notes.broken (fj.broken ++ wj.broken) en in
      let ew : wj.broken ≡ [] = back_empty fj.broken wj.broken (back_empty b.notes.broken (fj.broken ++ wj.broken) en) in
      let eI : T.notes.broken ++ B.notes.broken ≡ [] = back_empty n.broken (T.notes.broken ++ B.notes.broken) e1 in
      let eT : T.notes.broken ≡ [] = front_empty T.notes.broken B.notes.broken eI in
      let eB : j.notes.broken ≡ [] = back_empty T.notes.broken B.notes.broken eI in
      -- what is mentioned
      let mA : SaidIn P A.notes = said_left P A.notes (joined n (joined no_notes I.notes)) said in
      let md : SaidIn P d.part.notes = as_said d.part.notes (said_left P (nothing_later d.part.notes) pj mA) in
      let mI : SaidIn P I.notes = said_right P no_notes I.notes (said_right P n (joined no_notes I.notes) (said_right P A.notes (joined n (joined no_notes I.notes)) said)) in
      let mT : SaidIn P T.notes = said_left P T.notes B.notes mI in
      let mB : SaidIn P j.notes = said_right P T.notes B.notes mI in
      let cI : ContentsIn P I.contents = contents_right O I (contents_right N (with_part O I) (contents_right A (with_part N (with_part O I)) m)) in
      let cT = contents_left T B cI in
      let cB = contents_right T B cI in
      -- declarations
      let a : Agrees P v s = record { same = agrees.same; near = agrees.near; out = agrees.out; own = agrees.own; known = agrees.known; guards = agrees.guards; receiver = agrees.receiver; result = agrees.result } in
      let o : OrderIs names v d = order_good ds g v start.known ed in
      let known : AreKnown d.around.known = subst (λ (z : Around). AreKnown z.known) (sym o.around) o.known in
      let plain = plains_good ds g in
      let sound : AreSound d.around.known = known_sound d.around.known known in
      let D = order_same P s fs plain v a own ed md sound in
      let own_d : OwnIn P d.around.unit = subst (OwnIn P) (sym D.unit) own in
      let later_d = leaves.declared v a own fs plain ed md sound in
      -- headings
      let good = procedures_good ds g in
      let before_is : R ≡ heads_of ps first = heads_are ps first in
      let start_heads : HeadsAre d.around.unit first = record {
        unit_is = refl;
        known = known;
        named = order_named fs plain v start.named;
        based = declared_based names u start d o;
        bound = subst (λ (z : Around). Signed z.bound) (sym o.around) start.bound;
        guards = subst (λ (z : Around). z.guards ≡ []) (sym o.around) start.guards;
      } in
      let ok = heads_are_ok d.around.unit U ps (headings_good ps good) first start_heads (subst (λ hs. (procedures_judged U ps hs).notes.broken ≡ []) before_is eT) in
      let ok_R : AllByRecursion (HeadOk d.around.unit) R = subst (AllByRecursion (HeadOk d.around.unit)) (sym before_is) ok.1 in
      let said_R : AllByRecursion (HeadSaid P) R = subst (AllByRecursion (HeadSaid P)) (sym before_is) (whole_heads d.around.unit (heads_of ps first) ok.1 (heads_said U ps first (subst (λ hs. SaidIn P (procedures_judged U ps hs).notes) before_is mT))) in
      let said_before = all_turned (HeadSaid P) hs.before said_R in
      let H = headings_same P s ps (grammars ps good) first D.agrees own_d tt said_before in
      let in_R : AllByRecursion (HeadIn P) R = all_reversed (HeadIn P) hs.before H.heads in
      let later_h = leaves.headed d.around D.agrees own_d ps (grammars ps good) said_before in
      let later : AllByRecursion (LaterIn P) L = all_both (LaterIn P) d.part.notes.later (heads_later hs.before) later_d later_h in
      let ptr = pointers_same P w s H.agrees L later in
      -- what is bound
      let held_w = based_held w ok.0.based in
      let kept = binding_kept l w R (record { covers = λ x i. i; stays = with_near w w.own held_w H.agrees.own }) in
      let bind = binding_same l w H.agrees R in_R bound in
      let has_R = all_from (HeadOk d.around.unit) (λ (h : Head). Has (λ p. Unit {0}) h.parameters) (λ h k. k.parameters) R ok_R in
      let agrees_U : Agrees P U s = record { same = H.agrees.same; near = H.agrees.near; out = H.agrees.out; own = near_of w b.own kept.stays; known = H.agrees.known; guards = H.agrees.guards; receiver = H.agrees.receiver; result = H.agrees.result } in
      let inside : Inside U = record {
        held = all_from (λ t. HeldWell w t.desc × DescIn P (Some t.desc)) (λ t. HeldWell U t.desc) (λ t k. well_to w U refl refl kept.covers t.desc k.0) b.own kept.stays;
        shown = ok.0.based.shown;
        bound = binding_signed l w R ok.0.bound ew has_R eb;
        agrees = agrees_U;
        own = subst (OwnIn P) (sym ok.0.unit_is) own_d;
      } in
      -- all parts
      let fields = fields_same P U s agrees_U L later in
      let forwards = forwards_same P (map_of w) (map_of (beside w s)) (maps_agree P w s H.agrees) R R in_R in_R in
      let ok_U : AllByRecursion (HeadOk U.unit) R = subst (λ x. AllByRecursion (HeadOk x) R) (sym ok.0.unit_is) ok_R in
      let procedures = procedures_same U inside ps good R ok_U in_R eT mT cT in
      let body = body_same U inside ok.0.known (subst (λ x. AreNamed x w.known) (sym ok.0.unit_is) ok.0.named) refl ok.0.guards xs eB mB cB.1 in
      let at_body : block_bound u (beside w s) L ps R J b ≡ block_bound u w L ps R J b =
      two (λ x y. with_part (only_notes (joined b.notes (joined x y))) (with_part O (block_inside (beside U s) ps R J))) fields forwards
      ∙ two (λ x y. with_part N (with_part O (with_part x (body_part y)))) procedures body in
      let at_binding : block_headed u d.part.notes.later ps J (record { around = beside w s; before = hs.before }) ≡ block_headed u d.part.notes.later ps J hs =
      ap (block_bound u (beside w s) L ps R J) bind ∙ at_body in
      two (λ x y. block_declared u ps J (record { part = x; around = y })) D.part D.around
      ∙ (two (λ x y. block_behind u ps J d (record { around = x; before = y })) H.around H.before
      ∙ two (λ x y. with_part (record { notes = joined (nothing_later d.part.notes) x; contents = d.part.contents }) y) ptr at_binding)
