-- Sequences of declarations and modules: no two types have one name.
use Rattle.std.proofs.Common.{◌≡◌, ◌≢◌, ℕ, suc, Bool, true, false, List, [], ◌∷◌, ◌++◌, length, map, Option, Some, None, refl, sym, ap, subst, ◌∙◌, codes, append-nil}
use Rattle.std.specs.Prelude.{bytes_eq, not, ◌&&◌}
use Rattle.std.specs.List.{AllByRecursion, find, filter_map, list_all}
use Rattle.std.proofs.lemmas.Bool.{false≢true, and_parts}
use Rattle.ob_tree.specs.declared.names.QName.{QName}
use Rattle.ob_tree.specs.declared.ident.Ident.{Ident}
use Rattle.ob_tree.specs.declared.ident.Import.{Import}
use Rattle.ob_tree.specs.declared.decl.Decl.{Decl, roll-Decl, map-Decl}
use Rattle.ob_tree.specs.declared.decl.Decl.TheOpen.{Decl-F}
use Rattle.ob_tree.specs.declared.decl.Decl.TheFolds.{ind-Decl, fold-roll-Decl}
use Rattle.ob_types.specs.declared.desc.Desc.{Desc}
use Rattle.ob_types.specs.declared.typed.TypedType.{TypedType}
use Rattle.ob_types.specs.declared.typed.TypedModule.{TypedModule}
use Rattle.ob_rules.specs.declared.entity.Known.{Known}
use Rattle.ob_rules.specs.Judged.{joined}
use Rattle.ob_rules.specs.Names.{Around, predeclared, map_of}
use Rattle.ob_rules.specs.Expressions.{phrase_of}
use Rattle.ob_rules.specs.Types.{written, is_module_level}
use Rattle.ob_rules.specs.Statements.{Judging, judging, in_turn}
use Rattle.ob_rules.specs.Headings.{Head, Heads, forwards_judged, leaves_room, reversed}
use Rattle.ob_rules.specs.Declarations.{Declared, Declaration, Plain, Procedure, plain_of, procedure_of, type_name_of, in_order, headings_in_order, Written_procedure, around_body, closing_judged, procedure_judged, procedures_judged, body_part, with_bound, binding_at, all_judged, field_judged, heads_later, pointers_judged, block, decl_rule, declaration, target_of, import_declared, imports_declared, around_module, module_of, name_judged, described, all_described, typed_module}
use Rattle.law_names_distinct.specs.Named.{is_word, all_true, parameters_named, decl_layer, decl_named}
use Rattle.law_names_distinct.proofs.Blocks.{unbroken_is}
use Rattle.law_names_distinct.proofs.Written.{words_are}
use Rattle.law_names_distinct.proofs.FieldHeads.{reversed_good}
use Rattle.law_names_types.proofs.Judged.{headings_quiet}
use Rattle.law_names_read.proofs.Reading.{readings_are_worded}
use Rattle.law_names_procedures.specs.Procedures.{ShowBases}
use Rattle.law_names_procedures.proofs.Knowing.{AreKnown}
use Rattle.law_names_procedures.proofs.Written.{written_well, written_parameters_well}
use Rattle.law_names_procedures.proofs.Plain.{OrderIs, GoodPlain, constant_good, type_good, variables_good, imports_good, order_one}
use Rattle.law_names_procedures.proofs.Blocks.{Begins, heads_of, heads_are, no_level}
use Rattle.law_names_procedures.proofs.Modules.{based_behind}
use Rattle.law_names_types.specs.Unlike.{types_of_heads, IsWithin}
use Rattle.law_names_types.proofs.Blocks.{blocks_differ}
use Rattle.law_names_compiled.specs.Differ.{TypesDiffer, ReadTypesDiffer}
use Rattle.law_names_compiled.proofs.Past.{ArePast, none_forward, more_past, order_past, decls_past, imports_past, IsInner, ArePastHeads, headings_past}
use Rattle.law_names_compiled.proofs.Stand.{word_plain, AllStand, IsWellHeading, heads_stand}
use Rattle.law_names_compiled.proofs.Strokes.{Differ, differ_join, differ_front, differ_back, differ_cross, BlockIs, inner_types, AreInside, covered, heading_rest, procedures_unlike}
use Rattle.law_lists.proofs.Lists.{all_back, all_both, all_from, all_front, back_empty, front_empty}

pub record GoodProcedure (p : Written_procedure) : Type 0 where
  pub heading : IsWellHeading p
  pub inside : (u : Around) → AreKnown u.known → Begins u → ArePast u.scope u.known → (p.inside u).notes.broken ≡ [] → BlockIs u.path (p.inside u).contents.types

abbrev GoodDeclaration : Declaration → Type 0
GoodDeclaration (Plain o f) = GoodPlain o f
GoodDeclaration (Procedure p) = GoodProcedure p

abbrev AreGood : List Declaration → Type 0
AreGood ds = AllByRecursion GoodDeclaration ds

-- ---- plain declarations

order_good : (ds : List Declaration) → AreGood ds → (u : Around) → AreKnown u.known → (in_order (filter_map plain_of ds) u).part.notes.broken ≡ [] → OrderIs (filter_map type_name_of ds) u (in_order (filter_map plain_of ds) u)
order_good [] g u k e = record { more = u.known; made = []; around = refl; known = k; points = tt; named = λ x h. absurd (false≢true h); none = refl }
order_good (Procedure p ∷ ds) g u k e = order_good ds g.1 u k e
order_good (Plain o f ∷ ds) g u k e =
    let a = f u in
    let rest = in_order (filter_map plain_of ds) a.around in
    let p = g.0 u k (front_empty a.part.notes.broken rest.part.notes.broken e) in
    order_one o (filter_map type_name_of ds) u a rest p (order_good ds g.1 a.around (subst (λ (v : Around). AreKnown v.known) (sym p.around) p.known) (back_empty a.part.notes.broken rest.part.notes.broken e))

order_path : (names : List (List ℕ)) (u : Around) (d : Declared) → OrderIs names u d → d.around.path ≡ u.path
order_path names u d o = ap (λ (z : Around). z.path) o.around

order_scope : (names : List (List ℕ)) (u : Around) (d : Declared) → OrderIs names u d → d.around.scope ≡ u.scope
order_scope names u d o = ap (λ (z : Around). z.scope) o.around

-- ---- procedures

procedures_kept : (ds : List Declaration) → AreGood ds → AllByRecursion GoodProcedure (filter_map procedure_of ds)
procedures_kept [] g = tt
procedures_kept (Plain x f ∷ ds) g = procedures_kept ds g.1
procedures_kept (Procedure p ∷ ds) g = (g.0, procedures_kept ds g.1)

one_inside : (u : Around) (p : Written_procedure) → GoodProcedure p → (h : Head) → AreKnown (h.inside ++ h.known) → ArePast (suc u.scope) (h.inside ++ h.known) → (f : Bool) → (procedure_judged u p h f).notes.broken ≡ [] → BlockIs (h.path ++ codes "/") (inner_types f u p h)
one_inside u p g h k l true e = record { differ = tt; behind = tt }
one_inside u p g h k l false e =
    let part = p.inside (around_body u h) in
    g.inside (around_body u h) k (λ i. absurd (false≢true (sym (no_level h.path) ∙ i))) l
    (back_empty (closing_judged h.name p.closing).broken part.notes.broken (back_empty h.notes.broken (joined (closing_judged h.name p.closing) part.notes).broken e))

all_inside : (u : Around) (path : List ℕ) (before : List Head) (ps : List Written_procedure) (hs : List Head) → AllByRecursion GoodProcedure ps → AllStand path before ps hs → AllByRecursion (IsInner u.scope) hs → (procedures_judged u ps hs).notes.broken ≡ [] → AreInside u ps hs
all_inside u path before [] hs g s l e = tt
all_inside u path before (p ∷ ps) [] g s l e = absurd s
all_inside u path before (p ∷ ps) (h ∷ hs) g s l e =
    let a = procedure_judged u p h p.forward in
    let b = procedures_judged u ps hs in
    (one_inside u p g.0 h s.0.1.known l.0 p.forward (front_empty a.notes.broken b.notes.broken e), all_inside u path (h ∷ before) ps hs g.1 s.1 l.1 (back_empty a.notes.broken b.notes.broken e))

as_many : (ps : List Written_procedure) (hs : Heads) → length ps ≡ length (heads_of ps hs)
unfolding heads_of
as_many [] hs = refl
as_many (p ∷ ps) hs = ap suc (as_many ps _)

-- ---- sequences

block_good : (xs : List Decl) → all_true (map decl_named xs) ≡ true → AreGood (map declaration xs) → (body : List Judging) (u : Around) → AreKnown u.known → Begins u → ArePast u.scope u.known → (block (map declaration xs) body u).notes.broken ≡ [] → BlockIs u.path (block (map declaration xs) body u).contents.types
block_good xs named g body u k s l e =
    let ds = map declaration xs in
    let names = filter_map type_name_of ds in
    let v : Around = record u { later_types = names } in
    let d = in_order (filter_map plain_of ds) v in
    let ps = filter_map procedure_of ds in
    let start : Heads = record { around = d.around; before = [] } in
    let hs = headings_in_order ps start in
    let b = binding_at (is_module_level u) hs.around (reversed hs.before) in
    let w = with_bound hs.around b in
    let P = procedures_judged w ps (reversed hs.before) in
    let B = body_part (in_turn body w) in
    let later = d.part.notes.later ++ heads_later hs.before in
    let n = joined b.notes (joined (all_judged (field_judged (map_of w)) later) (forwards_judged (map_of hs.around) (reversed hs.before) (reversed hs.before))) in
    let pointers = (pointers_judged hs.around later).broken in
    let behind : n.broken ++ (P.notes.broken ++ B.notes.broken) ≡ [] = back_empty (d.part.notes.broken ++ pointers) (n.broken ++ (P.notes.broken ++ B.notes.broken)) e in
    let first : d.part.notes.broken ≡ [] = front_empty d.part.notes.broken pointers (front_empty (d.part.notes.broken ++ pointers) (n.broken ++ (P.notes.broken ++ B.notes.broken)) e) in
    let third : P.notes.broken ≡ [] = front_empty P.notes.broken B.notes.broken (back_empty n.broken (P.notes.broken ++ B.notes.broken) behind) in
    let same : reversed hs.before ≡ heads_of ps start = heads_are ps start in
    let quiet : (procedures_judged w ps (heads_of ps start)).notes.broken ≡ [] = subst (λ hs. (procedures_judged w ps hs).notes.broken ≡ []) same third in
    let o : OrderIs names v d = order_good ds g v k first in
    let good = procedures_kept ds g in
    let paths : d.around.path ≡ u.path = order_path names v d o in
    let scopes : d.around.scope ≡ u.scope = order_scope names v d o in
    let stand : AllStand u.path [] ps (heads_of ps start) = heads_stand u.path ps (all_from GoodProcedure IsWellHeading (λ p i. i.heading) ps good) start (based_behind names u d s o) paths (headings_quiet w ps (heads_of ps start) (as_many ps start) quiet) in
    let past : ArePastHeads u.scope hs = headings_past u.scope ps start (record { scope = scopes; known = more_past u.scope d.around.known (order_past (filter_map plain_of ds) (decls_past xs) u.scope v l); before = tt }) in
    let inner : AllByRecursion (IsInner u.scope) (heads_of ps start) = subst (AllByRecursion (IsInner u.scope)) same (reversed_good (IsInner u.scope) hs.before past.before) in
    let inside : AreInside w ps (heads_of ps start) = all_inside w u.path [] ps (heads_of ps start) good stand (subst (λ m. AllByRecursion (IsInner m) (heads_of ps start)) (sym past.scope) inner) quiet in
    let two = blocks_differ xs named body u (record { forward = none_forward u l; own = λ i. (s i).0 }) e in
    let heads = types_of_heads (heads_of ps start) in
    let all : Differ (d.part.contents.types ++ heads) = subst (λ hs. Differ (d.part.contents.types ++ types_of_heads hs)) same two.0 in
    let within : AllByRecursion (λ (t : TypedType). IsWithin u.path t.name) (d.part.contents.types ++ heads) = subst (λ hs. AllByRecursion (λ (t : TypedType). IsWithin u.path t.name) (d.part.contents.types ++ types_of_heads hs)) same two.1 in
    let plain = all_front (λ (t : TypedType). IsWithin u.path t.name) d.part.contents.types heads within in
    let headed = all_back (λ (t : TypedType). IsWithin u.path t.name) d.part.contents.types heads within in
    let Q : TypedType → Type 0 = λ t. (r : List ℕ) × (t.name ≡ u.path ++ r) in
    let its = (procedures_judged w ps (heads_of ps start)).contents.types in
    let known : BlockIs u.path (d.part.contents.types ++ its) = record {
      differ = differ_join d.part.contents.types its (differ_front d.part.contents.types heads all) (procedures_unlike w u.path [] ps (heads_of ps start) stand inside (differ_back d.part.contents.types heads all) headed)
          (heading_rest w u.path [] ps (heads_of ps start) stand inside d.part.contents.types plain (differ_cross d.part.contents.types heads all));
      behind = all_both Q d.part.contents.types its (all_from (λ (t : TypedType). IsWithin u.path t.name) Q (λ t i. (i.rest, i.is)) d.part.contents.types plain)
          (covered w u.path Q [] ps (heads_of ps start) stand inside (all_from (λ (t : TypedType). IsWithin u.path t.name) Q (λ t i. (i.rest, i.is)) heads headed) (λ t i. (i.key ++ 47 ∷ i.rest, i.is)));
    } in
    subst (λ ts. BlockIs u.path (d.part.contents.types ++ ts)) (sym (append-nil P.contents.types))
    (subst (λ hs. BlockIs u.path (d.part.contents.types ++ (procedures_judged w ps hs).contents.types)) (sym same) known)

-- ---- by induction over declarations

abbrev PD : Decl → Type 0
PD x = decl_named x ≡ true → GoodDeclaration (declaration x)

abbrev SD : Type 0
SD = (x : Decl) × PD x

all_of : (xs : List SD) → all_true (map decl_named (map (λ (x : SD). x.0) xs)) ≡ true → AreGood (map declaration (map (λ (x : SD). x.0) xs))
all_of [] e = tt
all_of (x ∷ xs) e =
    let p = and_parts (decl_named x.0) (all_true (map decl_named (map (λ (x : SD). x.0) xs))) e in
    (x.1 p.0, all_of xs p.1)

layer : (x : Decl-F Decl) → (decl_layer (map-Decl Decl Bool decl_named x) ≡ true → GoodDeclaration (decl_rule (map-Decl Decl Declaration declaration x))) → PD (roll-Decl x)
layer x h = λ e. subst GoodDeclaration (sym (fold-roll-Decl Declaration decl_rule x)) (h (sym (fold-roll-Decl Bool decl_layer x) ∙ e))

decl_cases : (y : Decl-F SD) → PD (roll-Decl (map-Decl SD Decl (λ x. x.0) y))
decl_cases (Decl-F.Constant d x) = layer (Decl-F.Constant d x) (λ e. constant_good d (phrase_of x))
decl_cases (Decl-F.NamedType d n) = layer (Decl-F.NamedType d n) (λ e. type_good d (written n) (written_well n))
decl_cases (Decl-F.Variables ds n) = layer (Decl-F.Variables ds n) (λ e. variables_good ds (written n) (written_well n))
decl_cases (Decl-F.Procedure h ds body closing) = layer (Decl-F.Procedure h (map (λ (x : SD). x.0) ds) body closing) (λ e.
    let all = all_true (map decl_named (map (λ (x : SD). x.0) ds)) in
    let p = and_parts (is_word h.name.ident.name) (parameters_named h.parameters && all) e in
    let q = and_parts (parameters_named h.parameters) all p.1 in
    record {
      heading = record { sections = written_parameters_well h.parameters; plain = word_plain h.name.ident.name (words_are h.name.ident.name p.0) };
      inside = λ u k s l n. block_good (map (λ (x : SD). x.0) ds) q.1 (all_of ds q.1) (map judging body) u k s l n;
    })
decl_cases (Decl-F.Forward h) = layer (Decl-F.Forward h) (λ e.
    let p = and_parts (is_word h.name.ident.name) (parameters_named h.parameters) e in
    record {
      heading = record { sections = written_parameters_well h.parameters; plain = word_plain h.name.ident.name (words_are h.name.ident.name p.0) };
      inside = λ u k s l n. record { differ = tt; behind = tt };
    })

decl_good : (x : Decl) → PD x
decl_good = ind-Decl PD (λ x y is. subst (λ z. PD (roll-Decl z)) is (decl_cases y))

decls_good : (xs : List Decl) → all_true (map decl_named xs) ≡ true → AreGood (map declaration xs)
decls_good [] e = tt
decls_good (x ∷ xs) e =
    let p = and_parts (decl_named x) (all_true (map decl_named xs)) e in
    (decl_good x p.0, decls_good xs p.1)

-- ---- modules

imports_make : (is : List Import) (u : Around) → (in_order (map (λ i. import_declared i (target_of i)) is) u).part.contents.types ≡ []
imports_make [] u = refl
imports_make (i ∷ is) u = imports_make is _

past_from : (n : ℕ) (ks : List Known) → list_all (λ (k : Known). not (leaves_room false k.what)) ks ≡ true → ArePast n ks
past_from n [] e = tt
past_from n (k ∷ ks) e =
    let p = and_parts (not (leaves_room false k.what)) (list_all (λ (k : Known). not (leaves_room false k.what)) ks) e in
    ((λ i. absurd (let bad : false ≡ true = sym (ap not i) ∙ p.0 in cc)), past_from n ks p.1)

known_first : AreKnown predeclared
known_first = (tt, (tt, (tt, (tt, (tt, (tt, (tt, (tt, (tt, (tt, (tt, (tt, (tt, (tt, (tt, (tt, (tt, (tt, (tt, (tt, (tt, (tt, (tt, (tt, (tt, (tt, (tt, (tt, (tt, (tt, (tt, tt)))))))))))))))))))))))))))))))

module_good : (shown : QName → Option Desc) (name : Ident) (imports : List Import) (xs : List Decl) → all_true (map decl_named xs) ≡ true → (body : List Judging) (closing : Ident) → ShowBases shown name.name → (module_of shown name imports (map declaration xs) body closing).notes.broken ≡ [] → Differ (module_of shown name imports (map declaration xs) body closing).contents.types
module_good shown name imports xs named body closing s e =
    let ds = map declaration xs in
    let u = around_module shown name.name ds in
    let d = imports_declared imports u in
    let b = block ds body d.around in
    let f = back_empty (name_judged name closing).broken (d.part.notes.broken ++ b.notes.broken) e in
    let i = imports_good imports u known_first (front_empty d.part.notes.broken b.notes.broken f) in
    let k : AreKnown d.around.known = subst (λ (v : Around). AreKnown v.known) (sym i.around) i.known in
    let l : ArePast d.around.scope d.around.known = subst (λ n. ArePast n d.around.known) (sym (ap (λ (v : Around). v.scope) i.around)) (order_past (map (λ i. import_declared i (target_of i)) imports) (imports_past imports) 1 u (past_from 1 predeclared refl)) in
    let r = block_good xs named (decls_good xs named) body d.around k (subst (λ (v : Around). Begins v) (sym i.around) (λ l. (refl, s))) l (back_empty d.part.notes.broken b.notes.broken f) in
    subst (λ ts. Differ (ts ++ b.contents.types)) (sym (imports_make imports u)) r.differ

described_name : (o : Option TypedType) (t : TypedType) → (described o t).name ≡ t.name
described_name None t = refl
described_name (Some b) t = refl

described_unlike : (bound : List TypedType) (x : List ℕ) (ts : List TypedType) → AllByRecursion (λ (t : TypedType). t.name ≢ x) ts → AllByRecursion (λ (t : TypedType). t.name ≢ x) (all_described bound ts)
described_unlike bound x [] h = tt
described_unlike bound x (t ∷ ts) h = ((λ e. h.0 (sym (described_name (find (λ b. bytes_eq b.name t.name) bound) t) ∙ e)), described_unlike bound x ts h.1)

described_differ : (bound ts : List TypedType) → Differ ts → Differ (all_described bound ts)
described_differ bound [] h = tt
described_differ bound (t ∷ ts) h = (subst (λ x. AllByRecursion (λ (u : TypedType). u.name ≢ x) (all_described bound ts)) (sym (described_name (find (λ b. bytes_eq b.name t.name) bound) t)) (described_unlike bound t.name ts h.0), described_differ bound ts h.1)

-- THE TYPES OF A MODULE DIFFER
pub types_differ : TypesDiffer
types_differ shown tree m s named e =
    let p = module_of shown tree.name tree.imports (map declaration tree.decls) (map judging tree.body) tree.closing in
    let u = unbroken_is p.notes.broken (typed_module shown tree.name tree.imports (map declaration tree.decls) p) m e in
    subst (λ (x : TypedModule). Differ x.types) u.1 (described_differ p.contents.bound p.contents.types (module_good shown tree.name tree.imports tree.decls named (map judging tree.body) tree.closing s u.0))

-- SO DO THOSE OF WHAT IS READ
pub read_types_differ : ReadTypesDiffer
read_types_differ text tree shown m few bases read e = types_differ shown tree m bases (readings_are_worded text tree few read) e
