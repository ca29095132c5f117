-- The headings of a checked module have their parameters.
use Rattle.std.proofs.Common.{◌≡◌, Bool, true, false, List, [], ◌∷◌, ◌++◌, map, refl, sym, ap, subst}
use Rattle.std.specs.List.{AllByRecursion, filter_map}
use Rattle.std.proofs.lemmas.Bool.{false≢true}
use Rattle.ob_rules.specs.Judged.{joined}
use Rattle.ob_rules.specs.Names.{Around, predeclared, map_of}
use Rattle.ob_rules.specs.Types.{is_module_level, with_types, nothing}
use Rattle.ob_rules.specs.Statements.{Judging, judging, in_turn}
use Rattle.ob_rules.specs.Headings.{Head, Heads, head_of, name_twice, declared_head, known_behind, types_of, forwards_judged, counts, reversed}
use Rattle.ob_rules.specs.Declarations.{Written_procedure, Declaration, declaration, plain_of, procedure_of, type_name_of, in_order, headings_in_order, procedure_judged, procedures_judged, with_part, body_part, with_bound, binding_at, all_judged, field_judged, heads_later, pointers_judged, block, imports_declared, around_module, module_of, name_judged, typed_module}
use Rattle.law_names_procedures.proofs.Judges.{Has, has_more}
use Rattle.law_names_procedures.proofs.Knowing.{AreKnown, filter_has}
use Rattle.law_names_procedures.proofs.Points.{Points}
use Rattle.law_names_procedures.proofs.Headings.{IsHead, head_good}
use Rattle.law_names_procedures.proofs.Sequences.{GoodHeads, types_pointed, typed_good, added, not_twice}
use Rattle.law_names_procedures.proofs.Plain.{OrderIs, imports_good}
use Rattle.law_names_procedures.proofs.Blocks.{Begins, AreGoodProcedures, heads_of, heads_are, head_notes}
use Rattle.law_names_procedures.proofs.Modules.{AreGood, order_good, procedures_good, based_behind, decls_good, unbroken_parts}
use Rattle.law_local_methods.specs.Laws.{IsOwned}
use Rattle.law_local_methods.proofs.Owned.{heads_are_owned}
use Rattle.law_methods_introduced.proofs.Blocks.{heads_gain}
use Rattle.law_local_module.proofs.Bound.{counted_judged}
use Rattle.law_methods_bound.specs.Matched.{HeadingsAre, HeadingsAreJudged}
use Rattle.law_lists.proofs.Lists.{back_empty, front_empty}

abbrev HasParameters : Head → Type 0
HasParameters h = Has (λ p. Unit {0}) h.parameters

heads_have : (U : Around) (ps : List Written_procedure) → AreGoodProcedures ps → (hs : Heads) → GoodHeads hs → (procedures_judged U ps (heads_of ps hs)).notes.broken ≡ [] → AllByRecursion HasParameters (heads_of ps hs)
unfolding heads_of
heads_have U [] g hs k e = tt
heads_have U (x ∷ ps) g hs k e =
    let d = head_of hs.around x.heading x.forward in
    let v = with_types hs.around (types_of d.parameters) in
    step (name_twice v hs.before d) refl (λ h a b f. heads_have U ps g.1 (record { around = a; before = h ∷ hs.before }) b f) e
  where
    step : (t : Bool) → name_twice (with_types hs.around (types_of (head_of hs.around x.heading x.forward).parameters)) hs.before (head_of hs.around x.heading x.forward) ≡ t →
        ((h : Head) (a : Around) → GoodHeads (record { around = a; before = h ∷ hs.before }) → (procedures_judged U ps (heads_of ps (record { around = a; before = h ∷ hs.before }))).notes.broken ≡ [] → AllByRecursion HasParameters (heads_of ps (record { around = a; before = h ∷ hs.before }))) →
        (let d = head_of hs.around x.heading x.forward in
        let v = with_types hs.around (types_of d.parameters) in
        let h = declared_head t d (known_behind v t d) in
        (with_part (procedure_judged U x h x.forward) (procedures_judged U ps (heads_of ps (record { around = known_behind v t d; before = h ∷ hs.before })))).notes.broken ≡ []) →
        (let d = head_of hs.around x.heading x.forward in
        let v = with_types hs.around (types_of d.parameters) in
        let h = declared_head t d (known_behind v t d) in
        HasParameters h × AllByRecursion HasParameters (heads_of ps (record { around = known_behind v t d; before = h ∷ hs.before })))
    step true n more e =
        let d = head_of hs.around x.heading x.forward in
        let v = with_types hs.around (types_of d.parameters) in
        let h = declared_head true d (known_behind v true d) in
        let c = head_notes U x h x.forward (front_empty (procedure_judged U x h x.forward).notes.broken (procedures_judged U ps (heads_of ps (record { around = known_behind v true d; before = h ∷ hs.before }))).notes.broken e) in
        absurd (false≢true (sym (not_twice true d (known_behind v true d) c).0))
    step false n more e =
        let d = head_of hs.around x.heading x.forward in
        let v = with_types hs.around (types_of d.parameters) in
        let h = declared_head false d (known_behind v false d) in
        let mine = procedure_judged U x h x.forward in
        let theirs = procedures_judged U ps (heads_of ps (record { around = known_behind v false d; before = h ∷ hs.before })) in
        let a : mine.notes.broken ≡ [] = front_empty mine.notes.broken theirs.notes.broken e in
        let i : IsHead hs.around d = head_good hs.around x.heading x.forward g.0.heading g.0.plain k.known k.based (head_notes U x h x.forward a) in
        let typed : GoodHeads (record { around = v; before = hs.before }) = typed_good hs (types_of d.parameters) (types_pointed hs.around d.parameters i.parameters) k in
        let has : Has (λ p. Unit {0}) d.parameters = has_more (λ p. Points hs.around p.made) (λ p. Unit {0}) d.parameters (λ p h. tt) i.parameters in
        let next : GoodHeads (record { around = known_behind v false d; before = h ∷ hs.before }) = added (record { around = v; before = hs.before }) typed d i.plain has i.bound n h refl refl refl in
        (has, more h (known_behind v false d) next (back_empty mine.notes.broken theirs.notes.broken e))

all_turned : (P : Head → Type 0) (xs : List Head) → AllByRecursion P xs → AllByRecursion P (reversed xs)
all_turned P [] h = tt
all_turned P (x ∷ xs) h = last P (reversed xs) x (all_turned P xs h.1) h.0
  where
    last : (P : Head → Type 0) (ys : List Head) (x : Head) → AllByRecursion P ys → P x → AllByRecursion P (ys ++ x ∷ [])
    last P [] x h p = (p, tt)
    last P (y ∷ ys) x h p = (h.0, last P ys x h.1 p)

-- a block at module level
block_are : (ds : List Declaration) → AreGood ds → (body : List Judging) (u : Around) → AreKnown u.known → Begins u → u.path ≡ [] → (block ds body u).notes.broken ≡ [] →
    (let hs = headings_in_order (filter_map procedure_of ds) (record { around = (in_order (filter_map plain_of ds) (record u { later_types = filter_map type_name_of ds })).around; before = [] }) in
    HeadingsAre hs.around (reversed hs.before))
block_are ds g body u k s level e =
    let names = filter_map type_name_of ds in
    let v : Around = record u { later_types = names } in
    let d = in_order (filter_map plain_of ds) v in
    let ps = filter_map procedure_of ds in
    let start : Heads = record { around = d.around; before = [] } in
    let hs = headings_in_order ps start in
    let R = reversed hs.before in
    let b = binding_at (is_module_level u) hs.around R in
    let U = with_bound hs.around b in
    let P = procedures_judged U ps R in
    let B = body_part (in_turn body U) in
    let later = d.part.notes.later ++ heads_later hs.before in
    let fj = all_judged (field_judged (map_of U)) later in
    let wj = forwards_judged (map_of hs.around) R R in
    let n = joined b.notes (joined fj wj) in
    let inside : n.broken ++ (P.notes.broken ++ B.notes.broken) ≡ [] = back_empty (d.part.notes.broken ++ (pointers_judged hs.around later).broken) (n.broken ++ (P.notes.broken ++ B.notes.broken)) e in
    let first : d.part.notes.broken ≡ [] = front_empty d.part.notes.broken (pointers_judged hs.around later).broken (front_empty (d.part.notes.broken ++ (pointers_judged hs.around later).broken) (n.broken ++ (P.notes.broken ++ B.notes.broken)) e) in
    let second : n.broken ≡ [] = front_empty n.broken (P.notes.broken ++ B.notes.broken) inside in
    let third : P.notes.broken ≡ [] = front_empty P.notes.broken B.notes.broken (back_empty n.broken (P.notes.broken ++ B.notes.broken) inside) in
    let bound : b.notes.broken ≡ [] = front_empty b.notes.broken (fj.broken ++ wj.broken) second in
    let forwards : wj.broken ≡ [] = back_empty fj.broken wj.broken (back_empty b.notes.broken (fj.broken ++ wj.broken) second) in
    let o : OrderIs names v d = order_good ds g v k first in
    let same : R ≡ heads_of ps start = heads_are ps start in
    let have = heads_have U ps (procedures_good ds g) start (based_behind names u d s o) (subst (λ hs. (procedures_judged U ps hs).notes.broken ≡ []) same third) in
    let have_R : AllByRecursion HasParameters R = subst (AllByRecursion HasParameters) (sym same) have in
    let owned : AllByRecursion (λ (h : Head). IsOwned hs.around.unit h.bound) hs.before = subst (λ n. AllByRecursion (λ (h : Head). IsOwned n h.bound) hs.before) (sym (heads_gain ps start).unit) (heads_are_owned d.around ps) in
    record {
      owned = filter_has (λ (h : Head). IsOwned hs.around.unit h.bound) (counts R) R (all_turned (λ (h : Head). IsOwned hs.around.unit h.bound) hs.before owned);
      judged = counted_judged (map_of hs.around) R forwards have_R;
      quiet = subst (λ p. (binding_at (nothing p) hs.around R).notes.broken ≡ []) level bound;
    }

pub headings_are_judged : HeadingsAreJudged
headings_are_judged shown tree m s n e =
    let ds = map declaration tree.decls in
    let body = map judging tree.body in
    let p = module_of shown tree.name tree.imports ds body tree.closing in
    let q = (unbroken_parts p.notes.broken (typed_module shown tree.name tree.imports ds p) m e).0 in
    let u = around_module shown tree.name.name ds in
    let d = imports_declared tree.imports u in
    let b = block ds body d.around in
    let f = back_empty (name_judged tree.name tree.closing).broken (d.part.notes.broken ++ b.notes.broken) q in
    let i = imports_good tree.imports u known (front_empty d.part.notes.broken b.notes.broken f) in
    let k : AreKnown d.around.known = subst (λ (v : Around). AreKnown v.known) (sym i.around) i.known in
    block_are ds (decls_good tree.decls n) body d.around k (subst (λ (v : Around). Begins v) (sym i.around) (λ l. (refl, s))) (ap (λ (v : Around). v.path) i.around) (back_empty d.part.notes.broken b.notes.broken f)
  where
    known : AreKnown predeclared
    known = (tt, (tt, (tt, (tt, (tt, (tt, (tt, (tt, (tt, (tt, (tt, (tt, (tt, (tt, (tt, (tt, (tt, (tt, (tt, (tt, (tt, (tt, (tt, (tt, (tt, (tt, (tt, (tt, (tt, (tt, (tt, tt)))))))))))))))))))))))))))))))
