-- Blocks, declarations and modules: no two names of procedures are the same.
use Rattle.std.proofs.Common.{◌≡◌, ℕ, Bool, true, false, List, [], ◌∷◌, ◌++◌, map, Option, Some, refl, sym, ap, subst, ◌∙◌, append-nil}
use Rattle.std.specs.Prelude.{bytes_eq, not, ◌||◌, ◌==◌}
use Rattle.std.specs.List.{AllByRecursion, IsDistinct, filter_map}
use Rattle.std.proofs.lemmas.Bool.{false≢true, and_parts}
use Rattle.ob_tree.specs.declared.names.QName.{QName}
use Rattle.ob_tree.specs.declared.ident.Ident.{Ident}
use Rattle.ob_tree.specs.declared.ident.Import.{Import}
use Rattle.ob_tree.specs.declared.decl.Decl.{Decl, roll-Decl, map-Decl}
use Rattle.ob_tree.specs.declared.decl.Decl.TheOpen.{Decl-F}
use Rattle.ob_tree.specs.declared.decl.Decl.TheFolds.{ind-Decl, fold-roll-Decl}
use Rattle.ob_tree.specs.declared.decl.Module.{Module as Tree}
use Rattle.ob_types.specs.declared.desc.Desc.{Desc}
use Rattle.ob_types.specs.declared.typed.TypedProcedure.{TypedProcedure}
use Rattle.ob_types.specs.declared.typed.TypedModule.{TypedModule}
use Rattle.ob_rules.specs.declared.broken.Broken.{Broken}
use Rattle.ob_rules.specs.declared.broken.Rule.TheVariants as rule
use Rattle.ob_rules.specs.Names.{Around, predeclared, map_of, is_out}
use Rattle.ob_rules.specs.Expressions.{phrase_of}
use Rattle.ob_rules.specs.Types.{written, is_module_level, with_types}
use Rattle.ob_rules.specs.Statements.{Judging, judging, in_turn}
use Rattle.ob_rules.specs.Headings.{Heads, forwards_judged, reversed}
use Rattle.ob_tree.specs.declared.pos.Pos.{Pos}
use Rattle.ob_rules.specs.Judged.{joined, notes_if}
use Rattle.ob_rules.specs.Declarations.{Declared, Declaration, Plain, Procedure, plain_of, procedure_of, type_name_of, in_order, headings_in_order, procedures_judged, body_part, with_bound, binding_at, all_judged, field_judged, heads_later, pointers_judged, block, decl_rule, declaration, imports_declared, around_module, module_of, name_judged, typed_module, if_unbroken, checked, is_system, closing_judged}
use Rattle.law_names_procedures.specs.Procedures.{is_plain, all_true, heading_layer, is_named_plainly, ShowBases, ProceduresDiffer}
use Rattle.law_names_procedures.proofs.Judges.{not_empty}
use Rattle.law_names_procedures.proofs.Knowing.{AreKnown}
use Rattle.law_names_procedures.proofs.Points.{front_covers, PointsWell, points_alike}
use Rattle.law_names_procedures.proofs.Written.{written_well, written_parameters_well}
use Rattle.law_names_procedures.proofs.Plain.{OrderIs, GoodPlain, constant_good, type_good, variables_good, imports_good, order_one}
use Rattle.law_names_procedures.proofs.Headings.{AreBased}
use Rattle.law_names_procedures.proofs.Sequences.{GoodHeads}
use Rattle.law_names_procedures.proofs.Apart.{IsPlain, distinct_from}
use Rattle.law_names_procedures.proofs.Blocks.{names_of, IsStem, SequenceIs, BlockIs, Begins, GoodProcedure, AreGoodProcedures, heads_of, heads_are, procedures_differ}
use Rattle.law_lists.proofs.Lists.{all_both, all_from, back_empty, front_empty, not_false, or_parts}

-- ---- declarations

abbrev pub GoodDeclaration : Declaration → Type 0
GoodDeclaration (Plain o f) = GoodPlain o f
GoodDeclaration (Procedure p) = GoodProcedure p

abbrev pub AreGood : List Declaration → Type 0
AreGood ds = AllByRecursion GoodDeclaration ds

pub order_good : (ds : List Declaration) → AreGood ds → (u : Around) → AreKnown u.known → (in_order (filter_map plain_of ds) u).part.notes.broken ≡ [] → OrderIs (filter_map type_name_of ds) u (in_order (filter_map plain_of ds) u)
order_good [] g u k e = record { more = u.known; made = []; around = refl; known = k; points = tt; named = λ x h. absurd (false≢true h); none = refl }
order_good (Procedure p ∷ ds) g u k e = order_good ds g.1 u k e
order_good (Plain o f ∷ ds) g u k e =
    let a = f u in
    let rest = in_order (filter_map plain_of ds) a.around in
    let p = g.0 u k (front_empty a.part.notes.broken rest.part.notes.broken e) in
    order_one o (filter_map type_name_of ds) u a rest p (order_good ds g.1 a.around (subst (λ (v : Around). AreKnown v.known) (sym p.around) p.known) (back_empty a.part.notes.broken rest.part.notes.broken e))

pub procedures_good : (ds : List Declaration) → AreGood ds → AreGoodProcedures (filter_map procedure_of ds)
procedures_good [] g = tt
procedures_good (Plain o f ∷ ds) g = procedures_good ds g.1
procedures_good (Procedure p ∷ ds) g = (g.0, procedures_good ds g.1)

-- ---- blocks

-- behind the types of a sequence all bases are there
pub based_behind : (names : List (List ℕ)) (u : Around) (d : Declared) → Begins u → OrderIs names (record u { later_types = names }) d → GoodHeads (record { around = d.around; before = [] })
based_behind names u d s o =
    let v : Around = record u { later_types = names } in
    let w : Around = record v { known = o.more; own = o.made ++ v.own } in
    let g : GoodHeads (record { around = w; before = [] }) = record { known = o.known; based = λ l. based l; plain = tt; free = tt; bound = tt } in
    subst (λ (z : Around). GoodHeads (record { around = z; before = [] })) (sym o.around) g
  where
    based : is_module_level u ≡ true → AreBased (let z : Around = record u { later_types = names; known = o.more; own = o.made ++ u.own } in z)
    based l =
        let v : Around = record u { later_types = names } in
        let w : Around = record u { later_types = names; known = o.more; own = o.made ++ u.own } in
        let b = s l in
        record {
          pointed = all_both (λ t. PointsWell w t.desc) o.made u.own (points_alike (with_types v o.made) w (record { unit = refl; shown = refl; own = refl; later_types = refl; path = refl }) o.made o.points) (subst (λ ts. AllByRecursion (λ t. PointsWell w t.desc) ts) (sym b.0) tt);
          later = λ x e. front_covers o.made u.own (u.path ++ x) (o.named x e);
          shown = b.1;
        }

block_of : (path : List ℕ) (ps : List TypedProcedure) → SequenceIs path [] ps → BlockIs path ps
block_of path ps s = record { apart = s.apart; behind = all_from (IsStem path []) (λ n. (r : List ℕ) × (n ≡ path ++ r)) (λ n t. (t.key ++ t.rest, t.is)) (names_of ps) s.stems }

block_good : (ds : List Declaration) → AreGood ds → (body : List Judging) (u : Around) → AreKnown u.known → Begins u → (block ds body u).notes.broken ≡ [] → BlockIs u.path (block ds body u).contents.procedures
block_good ds g body u k s e =
    let names = filter_map type_name_of ds in
    let v : Around = record u { later_types = names } in
    let d = in_order (filter_map plain_of ds) v in
    let ps = filter_map procedure_of ds in
    let start : Heads = record { around = d.around; before = [] } in
    let hs = headings_in_order ps start in
    let b = binding_at (is_module_level u) hs.around (reversed hs.before) in
    let U = with_bound hs.around b in
    let P = procedures_judged U ps (reversed hs.before) in
    let B = body_part (in_turn body U) in
    let later = d.part.notes.later ++ heads_later hs.before in
    let n = joined b.notes (joined (all_judged (field_judged (map_of U)) later) (forwards_judged (map_of hs.around) (reversed hs.before) (reversed hs.before))) in
    let inside : n.broken ++ (P.notes.broken ++ B.notes.broken) ≡ [] = back_empty (d.part.notes.broken ++ (pointers_judged hs.around later).broken) (n.broken ++ (P.notes.broken ++ B.notes.broken)) e in
    let first : d.part.notes.broken ≡ [] = front_empty d.part.notes.broken (pointers_judged hs.around later).broken (front_empty (d.part.notes.broken ++ (pointers_judged hs.around later).broken) (n.broken ++ (P.notes.broken ++ B.notes.broken)) e) in
    let third : P.notes.broken ≡ [] = front_empty P.notes.broken B.notes.broken (back_empty n.broken (P.notes.broken ++ B.notes.broken) inside) in
    let o : OrderIs names v d = order_good ds g v k first in
    let same : reversed hs.before ≡ heads_of ps start = heads_are ps start in
    let q : SequenceIs u.path [] (procedures_judged U ps (heads_of ps start)).contents.procedures = procedures_differ U u.path ps (procedures_good ds g) start (based_behind names u d s o) (ap (λ (z : Around). z.path) o.around) (subst (λ hs. (procedures_judged U ps hs).notes.broken ≡ []) same third) in
    let r : SequenceIs u.path [] P.contents.procedures = subst (λ hs. SequenceIs u.path [] (procedures_judged U ps hs).contents.procedures) (sym same) q in
    subst (BlockIs u.path) (sym (ap (λ xs. xs ++ (P.contents.procedures ++ [])) o.none ∙ append-nil P.contents.procedures)) (block_of u.path P.contents.procedures r)

-- ---- by induction over declarations

abbrev PD : Decl → Type 0
PD x = is_named_plainly x ≡ true → GoodDeclaration (declaration x)

abbrev SD : Type 0
SD = (x : Decl) × PD x

all_of : (xs : List SD) → all_true (map is_named_plainly (map (λ (x : SD). x.0) xs)) ≡ true → AreGood (map declaration (map (λ (x : SD). x.0) xs))
all_of [] e = tt
all_of (x ∷ xs) e =
    let p = and_parts (is_named_plainly x.0) (all_true (map is_named_plainly (map (λ (x : SD). x.0) xs))) e in
    (x.1 p.0, all_of xs p.1)

layer : (x : Decl-F Decl) → (heading_layer (map-Decl Decl Bool is_named_plainly x) ≡ true → GoodDeclaration (decl_rule (map-Decl Decl Declaration declaration x))) → PD (roll-Decl x)
layer x h = λ e. subst GoodDeclaration (sym (fold-roll-Decl Declaration decl_rule x)) (h (sym (fold-roll-Decl Bool heading_layer x) ∙ e))

differs : (b c : ℕ) → (c == c) ≡ true → (b == c) ≡ false → b ≡ c → ⊥
differs b c r e i = false≢true (sym e ∙ (ap (λ n. n == c) i ∙ r))

plain_from : (x : List ℕ) → is_plain x ≡ true → IsPlain x
plain_from [] e = (tt, tt)
plain_from (b ∷ x) e =
    let p = and_parts (not (b == 46 || b == 47)) (is_plain x) e in
    let q = or_parts (b == 46) (b == 47) (not_false (b == 46 || b == 47) p.0) in
    let r = plain_from x p.1 in
    ((differs b 46 refl q.0, r.0), (differs b 47 refl q.1, r.1))

decl_cases : (y : Decl-F SD) → PD (roll-Decl (map-Decl SD Decl (λ x. x.0) y))
decl_cases (Decl-F.Constant d x) = layer (Decl-F.Constant d x) (λ e. constant_good d (phrase_of x))
decl_cases (Decl-F.NamedType d n) = layer (Decl-F.NamedType d n) (λ e. type_good d (written n) (written_well n))
decl_cases (Decl-F.Variables ds n) = layer (Decl-F.Variables ds n) (λ e. variables_good ds (written n) (written_well n))
decl_cases (Decl-F.Procedure h ds body closing) = layer (Decl-F.Procedure h (map (λ (x : SD). x.0) ds) body closing) (λ e.
    let p = and_parts (is_plain h.name.ident.name) (all_true (map is_named_plainly (map (λ (x : SD). x.0) ds))) e in
    record {
      heading = written_parameters_well h.parameters;
      plain = plain_from h.name.ident.name p.0;
      inside = λ u k s n. block_good (map declaration (map (λ (x : SD). x.0) ds)) (all_of ds p.1) (map judging body) u k s n;
    })
decl_cases (Decl-F.Forward h) = layer (Decl-F.Forward h) (λ e. record {
  heading = written_parameters_well h.parameters;
  plain = plain_from h.name.ident.name e;
  inside = λ u k s n. record { apart = tt; behind = tt };
})

decl_good : (x : Decl) → PD x
decl_good = ind-Decl PD (λ x y is. subst (λ z. PD (roll-Decl z)) is (decl_cases y))

pub decls_good : (xs : List Decl) → all_true (map is_named_plainly xs) ≡ true → AreGood (map declaration xs)
decls_good [] e = tt
decls_good (x ∷ xs) e =
    let p = and_parts (is_named_plainly x) (all_true (map is_named_plainly xs)) e in
    (decl_good x p.0, decls_good xs p.1)

-- ---- modules

abbrev AreGoodNames : List TypedProcedure → Type 0
AreGoodNames ps = IsDistinct bytes_eq (names_of ps)

module_good : (shown : QName → Option Desc) (name : Ident) (imports : List Import) (ds : List Declaration) → AreGood ds → (body : List Judging) (closing : Ident) → ShowBases shown name.name → (module_of shown name imports ds body closing).notes.broken ≡ [] → AreGoodNames (module_of shown name imports ds body closing).contents.procedures
module_good shown name imports ds g body closing s e =
    let u = around_module shown name.name ds in
    let d = imports_declared imports u in
    let b = block ds body d.around in
    let f = back_empty (name_judged name closing).broken (d.part.notes.broken ++ b.notes.broken) e in
    let i = imports_good imports u known (front_empty d.part.notes.broken b.notes.broken f) in
    let k : AreKnown d.around.known = subst (λ (v : Around). AreKnown v.known) (sym i.around) i.known in
    let r = block_good ds g body d.around k (subst (λ (v : Around). Begins v) (sym i.around) (λ l. (refl, s))) (back_empty d.part.notes.broken b.notes.broken f) in
    subst (λ ps. AreGoodNames ps) (ap (λ ps. ps ++ b.contents.procedures) (sym i.none)) (distinct_from (names_of b.contents.procedures) r.apart)
  where
    known : AreKnown predeclared
    known = (tt, (tt, (tt, (tt, (tt, (tt, (tt, (tt, (tt, (tt, (tt, (tt, (tt, (tt, (tt, (tt, (tt, (tt, (tt, (tt, (tt, (tt, (tt, (tt, (tt, (tt, (tt, (tt, (tt, (tt, (tt, tt)))))))))))))))))))))))))))))))

pub unbroken_parts : (bs : List Broken) (x m : TypedModule) → if_unbroken bs x ≡ Some m → (bs ≡ []) × (x ≡ m)
unbroken_parts [] x m e = (refl, cc)
unbroken_parts (b ∷ bs) x m e = absurd cc

pub procedures_are_apart : ProceduresDiffer
procedures_are_apart shown tree m s n e =
    let p = module_of shown tree.name tree.imports (map declaration tree.decls) (map judging tree.body) tree.closing in
    let u = unbroken_parts p.notes.broken (typed_module shown tree.name tree.imports (map declaration tree.decls) p) m e in
    subst (λ (x : TypedModule). IsDistinct bytes_eq (map (λ p. p.name) x.procedures)) u.1 (module_good shown tree.name tree.imports (map declaration tree.decls) (decls_good tree.decls n) (map judging tree.body) tree.closing s u.0)

out_or : (b c : Bool) (at : Pos) (bs : List Broken) → (notes_if (b || c) rule.ReservedModule at).broken ++ bs ≡ [] → b ≡ false
out_or true c at bs e = not_empty _ bs e
out_or false c at bs e = refl

-- rule 5
pub not_out : (shown : QName → Option Desc) (tree : Tree) (m : TypedModule) → checked shown tree ≡ Some m → is_out m.name ≡ false
not_out shown tree m e =
    let p = module_of shown tree.name tree.imports (map declaration tree.decls) (map judging tree.body) tree.closing in
    let u = unbroken_parts p.notes.broken (typed_module shown tree.name tree.imports (map declaration tree.decls) p) m e in
    let d = imports_declared tree.imports (around_module shown tree.name.name (map declaration tree.decls)) in
    let f = front_empty (name_judged tree.name tree.closing).broken (d.part.notes.broken ++ (block (map declaration tree.decls) (map judging tree.body) d.around).notes.broken) u.0 in
    ap (λ (x : TypedModule). is_out x.name) (sym u.1) ∙ out_or (is_out tree.name.name) (is_system tree.name.name) tree.name.pos (closing_judged tree.name.name (Some tree.closing)).broken f
