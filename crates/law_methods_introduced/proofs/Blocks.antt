-- Blocks and modules: the procedures that others see are named as the text names them.
use Rattle.std.proofs.Common.{◌≡◌, ◌≢◌, inl, inr, ℕ, Bool, true, false, List, [], ◌∷◌, ◌++◌, map, Option, Some, None, refl, sym, ap, subst, ◌∙◌, append_assoc}
use Rattle.std.specs.Prelude.{codes, bytes_eq}
use Rattle.std.specs.List.{AllByRecursion, filter_map, find}
use Rattle.std.proofs.lemmas.Bool.{and_parts}
use Rattle.std.proofs.lemmas.List.{append-nil}
use Rattle.ob_tree.specs.declared.names.QName.{QName}
use Rattle.ob_tree.specs.declared.ident.Mark.TheVariants as mark
use Rattle.ob_tree.specs.declared.decl.Decl.{Decl, roll-Decl, map-Decl}
use Rattle.ob_tree.specs.declared.decl.Decl.TheOpen.{Decl-F}
use Rattle.ob_tree.specs.declared.decl.Decl.TheFolds.{ind-Decl, fold-roll-Decl}
use Rattle.ob_tree.specs.declared.decl.Module.{Module as Tree}
use Rattle.ob_types.specs.declared.desc.Desc.{Desc}
use Rattle.ob_types.specs.declared.typed.TypedType.{TypedType}
use Rattle.ob_types.specs.declared.typed.TypedProcedure.{TypedProcedure}
use Rattle.ob_types.specs.declared.typed.TypedModule.{TypedModule}
use Rattle.ob_format.specs.Names.{is_identifier}
use Rattle.ob_rules.specs.declared.broken.Broken.{Broken}
use Rattle.ob_rules.specs.declared.broken.Rule.TheVariants as rule
use Rattle.ob_rules.specs.Judged.{broken_at}
use Rattle.ob_rules.specs.Shapes.{Map}
use Rattle.ob_rules.specs.Names.{Around, map_of}
use Rattle.ob_rules.specs.Expressions.{phrase_of}
use Rattle.ob_rules.specs.Types.{Parameters, written, is_module_level, with_types, nothing}
use Rattle.ob_rules.specs.Statements.{Judging, judging, in_turn}
use Rattle.ob_rules.specs.Headings.{Head, Heads, Binding, head_of, name_twice, declared_head, known_behind, knows_procedure, types_of, add_heading, reversed, bindings}
use Rattle.ob_rules.specs.Declarations.{checked, Contents, Part, Declared, Written_procedure, Declaration, Plain, Procedure, plain_of, procedure_of, type_name_of, in_order, headings_in_order, around_body, bound_to, typed_procedure, types_of_head, procedure_judged, procedures_judged, block_inside, body_part, with_bound, binding_at, block_bound, heads_later, block_headed, block, decl_rule, declaration, target_of, imports_declared, import_declared, around_module, module_of, described, all_described, typed_module, if_unbroken}
use Rattle.law_spelling.specs.Raw.{all_true, is_named, parameters_named, heading_named, decl_layer, decl_named}
use Rattle.law_methods_introduced.proofs.Binding.{Among}
use Rattle.law_methods_introduced.proofs.Heads.{IsHeaded, headed, headed_more, head_hidden, head_free}
use Rattle.law_methods_introduced.proofs.Lists.{Differ, swap, drop, joined_right}
use Rattle.law_methods_introduced.proofs.Order.{Moves, GoodPlain, constant_moves, type_moves, variables_declared_move, order_moves, imports_move}
use Rattle.law_lists.proofs.Lists.{all_both, back_empty, front_empty}

-- ---- below module level nothing is exported or bound

abbrev pub IsHidden : TypedProcedure → Type 0
IsHidden p = (p.mark ≡ mark.Hidden) × (p.binding ≡ None)

abbrev IsInner : Head → Type 0
IsInner h = (h.mark ≡ mark.Hidden) × (h.bound ≡ None)

abbrev AreHidden : List TypedProcedure → Type 0
AreHidden ps = AllByRecursion IsHidden ps

record GoodProcedure (p : Written_procedure) : Type 0 where
  pub named : is_identifier p.heading.name.ident.name ≡ true
  pub inside : (u : Around) → is_module_level u ≡ false → AreHidden (p.inside u).contents.procedures

abbrev AreGoodProcedures : List Written_procedure → Type 0
AreGoodProcedures ps = AllByRecursion GoodProcedure ps

no_level : (x : List ℕ) → nothing (x ++ codes "/") ≡ false
no_level [] = refl
no_level (c ∷ x) = refl

pub record IsBehind (u v : Around) : Type 0 where
  pub path : v.path ≡ u.path
  pub unit : v.unit ≡ u.unit
  pub shown : v.shown ≡ u.shown
  pub own : v.own ≡ u.own

knows_like : (u : Around) (h : Head) (b : Bool) → IsBehind u (knows_procedure u h b)
knows_like u h true = record { path = refl; unit = refl; shown = refl; own = refl }
knows_like u h false = record { path = refl; unit = refl; shown = refl; own = refl }

behind_like : (u : Around) (twice : Bool) (h : Head) → IsBehind u (known_behind u twice h)
behind_like u true h = record { path = refl; unit = refl; shown = refl; own = refl }
behind_like u false h = knows_like u h h.is_bound

declared_inner : (twice : Bool) (h : Head) (u : Around) → IsInner h → IsInner (declared_head twice h u)
declared_inner true h u i = i
declared_inner false h u i = i

-- the next heading
abbrev pub next_types : Heads → Head → Around
next_types hs d = with_types hs.around (types_of d.parameters)

abbrev pub next_twice : Heads → Head → Bool
next_twice hs d = name_twice (next_types hs d) hs.before d

abbrev pub next_head : Heads → Head → Head
next_head hs d = declared_head (next_twice hs d) d (known_behind (next_types hs d) (next_twice hs d) d)

pub next_like : (hs : Heads) (d : Head) → IsBehind (next_types hs d) (known_behind (next_types hs d) (next_twice hs d) d)
next_like hs d = behind_like (next_types hs d) (next_twice hs d) d

record HiddenHeads (hs : Heads) : Type 0 where
  pub level : is_module_level hs.around ≡ false
  pub heads : AllByRecursion IsInner hs.before

heads_hidden : (ps : List Written_procedure) (hs : Heads) → HiddenHeads hs → HiddenHeads (headings_in_order ps hs)
heads_hidden [] hs h = h
heads_hidden (p ∷ ps) hs h =
    let d = head_of hs.around p.heading p.forward in
    heads_hidden ps (add_heading hs p.heading p.forward) (record {
      level = ap nothing (next_like hs d).path ∙ h.level;
      heads = (declared_inner (next_twice hs d) d _ (head_hidden hs.around h.level p.heading p.forward, head_free hs.around h.level p.heading p.forward), h.heads);
    })

reversed_all : {A : Type 0} (P : A → Type 0) (xs : List A) → AllByRecursion P xs → AllByRecursion P (reversed xs)
reversed_all P [] h = tt
reversed_all P (x ∷ xs) h = all_both P (reversed xs) (x ∷ []) (reversed_all P xs h.1) (h.0, tt)

typed_hidden : (map : Map) (h : Head) (o : Option Parameters) (c : Contents) → IsInner h → AreHidden (typed_procedure map h o c)
typed_hidden map h None c m = tt
typed_hidden map h (Some p) c m = ((m.0, ap (bound_to map h) m.1), tt)

judged_hidden : (u : Around) (p : Written_procedure) → GoodProcedure p → (h : Head) → IsInner h → (forward : Bool) → AreHidden (procedure_judged u p h forward).contents.procedures
judged_hidden u p g h m true = tt
judged_hidden u p g h m false = all_both IsHidden (typed_procedure (map_of u) h h.parameters (p.inside (around_body u h)).contents) (p.inside (around_body u h)).contents.procedures (typed_hidden (map_of u) h h.parameters (p.inside (around_body u h)).contents m) (g.inside (around_body u h) (no_level h.path))

procedures_hidden : (u : Around) (ps : List Written_procedure) → AreGoodProcedures ps → (hs : List Head) → AllByRecursion IsInner hs → AreHidden (procedures_judged u ps hs).contents.procedures
procedures_hidden u [] g hs m = tt
procedures_hidden u (p ∷ ps) g [] m = tt
procedures_hidden u (p ∷ ps) g (h ∷ hs) m = all_both IsHidden (procedure_judged u p h p.forward).contents.procedures (procedures_judged u ps hs).contents.procedures (judged_hidden u p g.0 h m.0 p.forward) (procedures_hidden u ps g.1 hs m.1)

inside_hidden : (u : Around) (ps : List Written_procedure) → AreGoodProcedures ps → (hs : List Head) → AllByRecursion IsInner hs → (body : List Judging) → AreHidden (block_inside u ps hs body).contents.procedures
inside_hidden u ps g hs m body = all_both IsHidden (procedures_judged u ps hs).contents.procedures [] (procedures_hidden u ps g hs m) tt

abbrev GoodDeclaration : Declaration → Type 0
GoodDeclaration (Plain x f) = GoodPlain f
GoodDeclaration (Procedure p) = GoodProcedure p

abbrev AreGood : List Declaration → Type 0
AreGood ds = AllByRecursion GoodDeclaration ds

plains : (ds : List Declaration) → AreGood ds → AllByRecursion GoodPlain (filter_map plain_of ds)
plains [] g = tt
plains (Plain x f ∷ ds) g = (g.0, plains ds g.1)
plains (Procedure p ∷ ds) g = plains ds g.1

procedures : (ds : List Declaration) → AreGood ds → AreGoodProcedures (filter_map procedure_of ds)
procedures [] g = tt
procedures (Plain x f ∷ ds) g = procedures ds g.1
procedures (Procedure p ∷ ds) g = (g.0, procedures ds g.1)

block_hidden : (ds : List Declaration) → AreGood ds → (body : List Judging) (u : Around) → is_module_level u ≡ false → AreHidden (block ds body u).contents.procedures
block_hidden ds g body u level =
    let v : Around = record u { later_types = filter_map type_name_of ds } in
    let d = in_order (filter_map plain_of ds) v in
    let k = order_moves (filter_map plain_of ds) (plains ds g) v in
    let ps = filter_map procedure_of ds in
    let start : Heads = record { around = d.around; before = [] } in
    let hs = headings_in_order ps start in
    let h = heads_hidden ps start (record { level = ap nothing k.path ∙ level; heads = tt }) in
    all_both IsHidden d.part.contents.procedures (block_headed v d.part.notes.later ps body hs).contents.procedures (subst AreHidden (sym k.procedures) tt)
    (inside_hidden (with_bound hs.around (binding_at (is_module_level v) hs.around (reversed hs.before))) ps (procedures ds g) (reversed hs.before) (reversed_all IsInner hs.before h.heads) body)

-- ---- by induction over declarations

abbrev PD : Decl → Type 0
PD x = decl_named x ≡ true → GoodDeclaration (declaration x)

abbrev SD : Type 0
SD = (x : Decl) × PD x

all_of : (xs : List SD) → all_true (map decl_named (map (λ (x : SD). x.0) xs)) ≡ true → AreGood (map declaration (map (λ (x : SD). x.0) xs))
all_of [] e = tt
all_of (x ∷ xs) e = let p = and_parts (decl_named x.0) (all_true (map decl_named (map (λ (x : SD). x.0) xs))) e in (x.1 p.0, all_of xs p.1)

layer : (x : Decl-F Decl) → (decl_layer (map-Decl Decl Bool decl_named x) ≡ true → GoodDeclaration (decl_rule (map-Decl Decl Declaration declaration x))) → PD (roll-Decl x)
layer x h e = subst GoodDeclaration (sym (fold-roll-Decl Declaration decl_rule x)) (h (sym (fold-roll-Decl Bool decl_layer x) ∙ e))

decl_cases : (y : Decl-F SD) → PD (roll-Decl (map-Decl SD Decl (λ x. x.0) y))
decl_cases (Decl-F.Constant d x) = layer (Decl-F.Constant d x) (λ e. constant_moves d (phrase_of x))
decl_cases (Decl-F.NamedType d n) = layer (Decl-F.NamedType d n) (λ e. type_moves d (written n))
decl_cases (Decl-F.Variables ds n) = layer (Decl-F.Variables ds n) (λ e. variables_declared_move ds (written n))
decl_cases (Decl-F.Procedure h ds body closing) = layer (Decl-F.Procedure h (map (λ (x : SD). x.0) ds) body closing) (λ e.
    let p = and_parts (heading_named h) (all_true (map decl_named (map (λ (x : SD). x.0) ds))) e in
    record {
      named = (and_parts (is_named h.name) (parameters_named h.parameters) p.0).0;
      inside = λ u l. block_hidden (map declaration (map (λ (x : SD). x.0) ds)) (all_of ds p.1) (map judging body) u l;
    })
decl_cases (Decl-F.Forward h) = layer (Decl-F.Forward h) (λ e. record { named = (and_parts (is_named h.name) (parameters_named h.parameters) e).0; inside = λ u l. tt })

decl_good : (x : Decl) → PD x
decl_good = ind-Decl PD (λ x y is. subst (λ z. PD (roll-Decl z)) is (decl_cases y))

decls_good : (xs : List Decl) → AllByRecursion (λ d. decl_named d ≡ true) xs → AreGood (map declaration xs)
decls_good [] h = tt
decls_good (x ∷ xs) h = (decl_good x h.0, decls_good xs h.1)

-- ---- the headings of the module

-- in the order of the text
unfoldable pub heads_of : List Written_procedure → Heads → List Head
heads_of [] hs = []
heads_of (p ∷ ps) hs = next_head hs (head_of hs.around p.heading p.forward) ∷ heads_of ps (add_heading hs p.heading p.forward)

pub heads_are : (ps : List Written_procedure) (hs : Heads) → reversed (headings_in_order ps hs).before ≡ reversed hs.before ++ heads_of ps hs
unfolding heads_of
heads_are [] hs = sym (append-nil (reversed hs.before))
heads_are (p ∷ ps) hs = heads_are ps (add_heading hs p.heading p.forward) ∙ append_assoc (reversed hs.before) (next_head hs (head_of hs.around p.heading p.forward) ∷ []) (heads_of ps (add_heading hs p.heading p.forward))

-- more types are known, and no type is lost
pub record Gains (u v : Around) : Type 0 where
  pub front : List TypedType
  pub is : v.own ≡ front ++ u.own
  pub unit : v.unit ≡ u.unit
  pub shown : v.shown ≡ u.shown

pub heads_gain : (ps : List Written_procedure) (hs : Heads) → Gains hs.around (headings_in_order ps hs).around
heads_gain [] hs = record { front = []; is = refl; unit = refl; shown = refl }
heads_gain (p ∷ ps) hs =
    let d = head_of hs.around p.heading p.forward in
    let k = heads_gain ps (add_heading hs p.heading p.forward) in
    record { front = k.front ++ types_of d.parameters; is = k.is ∙ ap (λ o. k.front ++ o) (next_like hs d).own ∙ sym (append_assoc k.front (types_of d.parameters) hs.around.own); unit = k.unit ∙ (next_like hs d).unit; shown = k.shown ∙ (next_like hs d).shown }

headed_next : (unit : List ℕ) (own : List TypedType) (t : Bool) (d : Head) (u : Around) → IsHeaded unit own d → IsHeaded unit own (declared_head t d u)
headed_next unit own true d u h = h
headed_next unit own false d u h = h

record IsAtModule (unit : List ℕ) (u : Around) : Type 0 where
  pub path : u.path ≡ []
  pub unit_is : u.unit ≡ unit

next_at : (unit : List ℕ) (hs : Heads) (d : Head) → IsAtModule unit hs.around → IsAtModule unit (known_behind (next_types hs d) (next_twice hs d) d)
next_at unit hs d a = record { path = (next_like hs d).path ∙ a.path; unit_is = (next_like hs d).unit ∙ a.unit_is }

-- each heading, among all types that are known in the end
all_headed : (unit : List ℕ) (ps : List Written_procedure) → AreGoodProcedures ps → (hs : Heads) → IsAtModule unit hs.around → Differ (headings_in_order ps hs).around.own → AllByRecursion (IsHeaded unit (headings_in_order ps hs).around.own) (heads_of ps hs)
unfolding heads_of
all_headed unit [] g hs a e = tt
all_headed unit (p ∷ ps) g hs a e =
    let d = head_of hs.around p.heading p.forward in
    let next = add_heading hs p.heading p.forward in
    let F = (headings_in_order ps next).around.own in
    let k = heads_gain (p ∷ ps) hs in
    let h : IsHeaded unit hs.around.own d = subst (λ n. IsHeaded n hs.around.own d) a.unit_is (headed hs.around a.path p.heading g.0.named p.forward) in
    let m : IsHeaded unit F d = subst (λ o. IsHeaded unit o d) (sym k.is) (headed_more unit k.front hs.around.own (subst Differ k.is e) d h) in
    (headed_next unit F (next_twice hs d) d _ m, all_headed unit ps g.1 next (next_at unit hs d a) e)

-- ---- the types of headings differ

types_same : (o : Option Parameters) → types_of_head o ≡ types_of o
types_same None = refl
types_same (Some p) = refl

not_empty : {A : Type 0} {x : A} → x ∷ [] ≡ [] → ⊥
not_empty e = absurd cc

pub quiet_types : (t : Bool) (d : Head) (u : Around) → (declared_head t d u).notes.broken ≡ [] → types_of_head (declared_head t d u).parameters ≡ types_of d.parameters
quiet_types true d u e = absurd (not_empty (back_empty d.notes.broken (broken_at rule.DeclaredTwice d.at).broken e))
quiet_types false d u e = types_same d.parameters

pub judged_quiet : (u : Around) (p : Written_procedure) (h : Head) (forward : Bool) → (procedure_judged u p h forward).notes.broken ≡ [] → h.notes.broken ≡ []
judged_quiet u p h true e = e
judged_quiet u p h false e = front_empty h.notes.broken _ e

-- those of one heading come into what is known
one_moves : (u : Around) (p : Written_procedure) (h : Head) (forward : Bool) (own rest : List TypedType) → Differ (own ++ ((procedure_judged u p h forward).contents.types ++ rest)) → Differ ((types_of_head h.parameters ++ own) ++ rest)
one_moves u p h true own rest e = swap own (types_of_head h.parameters) rest e
one_moves u p h false own rest e =
    let inside = (p.inside (around_body u h)).contents.types in
    let k = swap own (types_of_head h.parameters) (inside ++ rest) (joined_right own (types_of_head h.parameters) inside rest e) in
    drop (types_of_head h.parameters ++ own) inside rest k

heads_move : (u : Around) (ps : List Written_procedure) (hs : Heads) → (procedures_judged u ps (heads_of ps hs)).notes.broken ≡ [] → (rest : List TypedType) → Differ (hs.around.own ++ ((procedures_judged u ps (heads_of ps hs)).contents.types ++ rest)) → Differ ((headings_in_order ps hs).around.own ++ rest)
unfolding heads_of
heads_move u [] hs q rest e = e
heads_move u (p ∷ ps) hs q rest e =
    let d = head_of hs.around p.heading p.forward in
    let h = next_head hs d in
    let next = add_heading hs p.heading p.forward in
    let one = procedure_judged u p h p.forward in
    let more = procedures_judged u ps (heads_of ps next) in
    let first = judged_quiet u p h p.forward (front_empty one.notes.broken more.notes.broken q) in
    let k = one_moves u p h p.forward hs.around.own (more.contents.types ++ rest) (joined_right hs.around.own one.contents.types more.contents.types rest e) in
    let own : types_of_head h.parameters ++ hs.around.own ≡ next.around.own = ap (λ ts. ts ++ hs.around.own) (quiet_types (next_twice hs d) d _ first) ∙ sym (next_like hs d).own in
    heads_move u ps next (back_empty one.notes.broken more.notes.broken q) rest (subst (λ o. Differ (o ++ (more.contents.types ++ rest))) own k)

-- ---- the procedures of the module

hidden_good : (Good : TypedProcedure → Type 0) → ((p : TypedProcedure) → IsHidden p → Good p) → (ps : List TypedProcedure) → AreHidden ps → AllByRecursion Good ps
hidden_good Good nested [] h = tt
hidden_good Good nested (p ∷ ps) h = (nested p h.0, hidden_good Good nested ps h.1)

-- what is so of the procedure of each heading of the module
abbrev pub TypedSo : (TypedProcedure → Type 0) → Around → List Head → Type 0
TypedSo Good U all = (h : Head) → IsHeaded U.unit U.own h → Among h all → h.forward ≡ false → (p : Parameters) → h.parameters ≡ Some p → (c : Contents) → AllByRecursion Good (typed_procedure (map_of (with_bound U (bindings U all))) h (Some p) c)

module _ (Good : TypedProcedure → Type 0) (nested : (p : TypedProcedure) → IsHidden p → Good p) (U : Around) (all : List Head) (so : TypedSo Good U all) where
  abbrev V : Around
  V = with_bound U (bindings U all)

  typed_good : (h : Head) → IsHeaded U.unit U.own h → Among h all → h.forward ≡ false → (o : Option Parameters) → h.parameters ≡ o → (c : Contents) → AllByRecursion Good (typed_procedure (map_of V) h o c)
  typed_good h i a f None e c = tt
  typed_good h i a f (Some p) e c = so h i a f p e c

  judged_good : (p : Written_procedure) → GoodProcedure p → (h : Head) → IsHeaded U.unit U.own h → Among h all → (forward : Bool) → h.forward ≡ forward → AllByRecursion Good (procedure_judged V p h forward).contents.procedures
  judged_good p g h i a true f = tt
  judged_good p g h i a false f =
      let c = (p.inside (around_body V h)).contents in
      all_both Good (typed_procedure (map_of V) h h.parameters c) c.procedures (typed_good h i a f h.parameters refl c) (hidden_good Good nested c.procedures (g.inside (around_body V h) (no_level h.path)))

  same_forward : (t : Bool) (d : Head) (u : Around) → (declared_head t d u).forward ≡ d.forward
  same_forward true d u = refl
  same_forward false d u = refl

  all_good : (ps : List Written_procedure) → AreGoodProcedures ps → (hs : Heads) → AllByRecursion (IsHeaded U.unit U.own) (heads_of ps hs) → ((h : Head) → Among h (heads_of ps hs) → Among h all) → AllByRecursion Good (procedures_judged V ps (heads_of ps hs)).contents.procedures
  unfolding heads_of
  all_good [] g hs i a = tt
  all_good (p ∷ ps) g hs i a =
      let d = head_of hs.around p.heading p.forward in
      let h = next_head hs d in
      let next = add_heading hs p.heading p.forward in
      all_both Good (procedure_judged V p h p.forward).contents.procedures (procedures_judged V ps (heads_of ps next)).contents.procedures
      (judged_good p g.0 h i.0 (a h (inl refl)) p.forward (same_forward (next_twice hs d) d _)) (all_good ps g.1 next i.1 (λ k b. a k (inr b)))

-- ---- the module

described_name : (o : Option TypedType) (t : TypedType) → (described o t).name ≡ t.name
described_name None t = refl
described_name (Some b) t = refl

all_differ : (bound : List TypedType) (x : List ℕ) (ts : List TypedType) → AllByRecursion (λ y. y.name ≢ x) (all_described bound ts) → AllByRecursion (λ y. y.name ≢ x) ts
all_differ bound x [] h = tt
all_differ bound x (t ∷ ts) h = (subst (λ n. n ≢ x) (described_name (find (λ b. bytes_eq b.name t.name) bound) t) h.0, all_differ bound x ts h.1)

pub undescribed : (bound ts : List TypedType) → Differ (all_described bound ts) → Differ ts
undescribed bound [] h = tt
undescribed bound (t ∷ ts) h = (all_differ bound t.name ts (subst (λ n. AllByRecursion (λ y. y.name ≢ n) (all_described bound ts)) (described_name (find (λ b. bytes_eq b.name t.name) bound) t) h.0), undescribed bound ts h.1)

module _ (shown : QName → Option Desc) (tree : Tree) (named : AllByRecursion (λ d. decl_named d ≡ true) tree.decls) where
  abbrev pub ds : List Declaration
  ds = map declaration tree.decls

  abbrev pub body : List Judging
  body = map judging tree.body

  abbrev pub parts : Part
  parts = module_of shown tree.name tree.imports ds body tree.closing

  abbrev pub before : Around
  before = around_module shown tree.name.name ds

  abbrev pub imports : Declared
  imports = imports_declared tree.imports before

  abbrev pub plain : Declared
  plain = in_order (filter_map plain_of ds) (record imports.around { later_types = filter_map type_name_of ds })

  abbrev pub ps : List Written_procedure
  ps = filter_map procedure_of ds

  abbrev pub start : Heads
  start = record { around = plain.around; before = [] }

  abbrev pub behind : Heads
  behind = headings_in_order ps start

  good : AreGood ds
  good = decls_good tree.decls named

  pub imports_are : Moves before imports
  imports_are = order_moves (map (λ i. import_declared i (target_of i)) tree.imports) (imports_move tree.imports) before

  pub plain_is : Moves (record imports.around { later_types = filter_map type_name_of ds }) plain
  plain_is = order_moves (filter_map plain_of ds) (plains ds good) (record imports.around { later_types = filter_map type_name_of ds })

  abbrev pub judged : List Head → Binding → Part
  judged hs b = procedures_judged (with_bound behind.around b) ps hs

  abbrev pub whole : List Head → Binding → Part
  whole hs b = block_bound imports.around behind.around (plain.part.notes.later ++ heads_later behind.before) ps hs body b

  abbrev pub final : Binding
  final = binding_at (is_module_level imports.around) behind.around (reversed behind.before)

  abbrev At : (TypedProcedure → Type 0) → List Head → Binding → Type 0
  At Good hs b = (whole hs b).notes.broken ≡ [] → Differ (plain.around.own ++ ((judged hs b).contents.types ++ [])) → AllByRecursion Good (judged hs b).contents.procedures

  -- what is so of each heading, once nothing is broken
  abbrev pub So : (TypedProcedure → Type 0) → Type 0
  So Good = (bindings behind.around (heads_of ps start)).notes.broken ≡ [] → TypedSo Good behind.around (heads_of ps start)

  pub final_is : final ≡ bindings behind.around (heads_of ps start)
  final_is = ap (λ l. binding_at l behind.around (reversed behind.before)) (ap nothing imports_are.path) ∙ ap (bindings behind.around) (heads_are ps start)

  abbrev Differing : List Head → Binding → Type 0
  Differing hs b = (whole hs b).notes.broken ≡ [] → Differ (plain.around.own ++ ((judged hs b).contents.types ++ [])) → Differ behind.around.own

  heads_differ : Differing (heads_of ps start) (bindings behind.around (heads_of ps start))
  heads_differ q d =
      let hs = heads_of ps start in
      let b = bindings behind.around hs in
      let second = front_empty (judged hs b).notes.broken (body_part (in_turn body (with_bound behind.around b))).notes.broken (back_empty (b.notes.broken ++ _) _ q) in
      subst Differ (append-nil behind.around.own) (heads_move (with_bound behind.around b) ps start second [] d)

  module_differs : Differing (reversed behind.before) final
  module_differs = subst (λ l. Differing (reversed behind.before) (binding_at l behind.around (reversed behind.before))) (sym (ap nothing imports_are.path)) (subst (λ hs. Differing hs (bindings behind.around hs)) (sym (heads_are ps start)) heads_differ)

  -- the types that headings know have different names
  pub own_differ : parts.notes.broken ≡ [] → Differ parts.contents.types → Differ behind.around.own
  own_differ q d =
      let a = back_empty _ _ q in
      let b = back_empty imports.part.notes.broken _ a in
      let c : (whole (reversed behind.before) final).notes.broken ≡ [] = back_empty (plain.part.notes.broken ++ _) _ b in
      let e = imports_are.own (plain.part.contents.types ++ ((judged (reversed behind.before) final).contents.types ++ [])) d in
      module_differs c (plain_is.own ((judged (reversed behind.before) final).contents.types ++ []) e)

  -- each heading has a name of the text, or is bound to a record of the module
  pub headed_all : Differ behind.around.own → AllByRecursion (IsHeaded behind.around.unit behind.around.own) (heads_of ps start)
  headed_all differ = all_headed behind.around.unit ps (procedures ds good) start (record { path = plain_is.path ∙ imports_are.path; unit_is = sym (heads_gain ps start).unit }) differ

  module _ (Good : TypedProcedure → Type 0) (nested : (p : TypedProcedure) → IsHidden p → Good p) (so : So Good) where
    at_heads : At Good (heads_of ps start) (bindings behind.around (heads_of ps start))
    at_heads q d =
        let hs = heads_of ps start in
        let b = bindings behind.around hs in
        let first = front_empty b.notes.broken _ (front_empty (b.notes.broken ++ _) _ q) in
        let second = front_empty (judged hs b).notes.broken (body_part (in_turn body (with_bound behind.around b))).notes.broken (back_empty (b.notes.broken ++ _) _ q) in
        let gain = heads_gain ps start in
        let differ : Differ behind.around.own = subst Differ (append-nil behind.around.own) (heads_move (with_bound behind.around b) ps start second [] d) in
        let at : IsAtModule behind.around.unit start.around = record { path = plain_is.path ∙ imports_are.path; unit_is = sym gain.unit } in
        all_good Good nested behind.around hs (so first) ps (procedures ds good) start (all_headed behind.around.unit ps (procedures ds good) start at differ) (λ h a. a)

    at_module : At Good (reversed behind.before) final
    at_module = subst (λ l. At Good (reversed behind.before) (binding_at l behind.around (reversed behind.before))) (sym (ap nothing imports_are.path)) (subst (λ hs. At Good hs (bindings behind.around hs)) (sym (heads_are ps start)) at_heads)

    pub parts_good : parts.notes.broken ≡ [] → Differ parts.contents.types → AllByRecursion Good parts.contents.procedures
    parts_good q d =
        let a = back_empty _ _ q in
        let b = back_empty imports.part.notes.broken _ a in
        let c : (whole (reversed behind.before) final).notes.broken ≡ [] = back_empty (plain.part.notes.broken ++ _) _ b in
        let e = imports_are.own (plain.part.contents.types ++ ((judged (reversed behind.before) final).contents.types ++ [])) d in
        let f = plain_is.own ((judged (reversed behind.before) final).contents.types ++ []) e in
        let k = at_module c f in
        all_both Good imports.part.contents.procedures _ (subst (AllByRecursion Good) (sym imports_are.procedures) tt)
        (all_both Good plain.part.contents.procedures _ (subst (AllByRecursion Good) (sym plain_is.procedures) tt)
        (all_both Good (judged (reversed behind.before) final).contents.procedures [] k tt))

pub unbroken_is : (bs : List Broken) (x m : TypedModule) → if_unbroken bs x ≡ Some m → (bs ≡ []) × (x ≡ m)
unbroken_is [] x m e = (refl, cc)
unbroken_is (b ∷ bs) x m e = absurd cc

-- THE PROCEDURES of a checked module
pub procedures_good : (Good : TypedProcedure → Type 0) → ((p : TypedProcedure) → IsHidden p → Good p) → (shown : QName → Option Desc) (tree : Tree) (m : TypedModule) → checked shown tree ≡ Some m → Differ m.types → (named : AllByRecursion (λ d. decl_named d ≡ true) tree.decls) → So shown tree named Good → AllByRecursion Good m.procedures
procedures_good Good nested shown tree m e differ named so =
    let p = parts shown tree named in
    let k = unbroken_is p.notes.broken (typed_module shown tree.name tree.imports (map declaration tree.decls) p) m e in
    let d : Differ (all_described p.contents.bound p.contents.types) = subst (λ (x : TypedModule). Differ x.types) (sym k.1) differ in
    subst (λ (x : TypedModule). AllByRecursion Good x.procedures) k.1 (parts_good shown tree named Good nested so k.0 (undescribed p.contents.bound p.contents.types d))
