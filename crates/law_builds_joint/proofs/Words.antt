-- The types that headings make, and those inside procedures, are not named by words.
use Rattle.std.proofs.Common.{◌≡◌, ◌⊎◌, inl, inr, refl, sym, ◌∙◌, subst, ℕ, ◌+◌, ◌<◌, ◌^◌, Bool, true, false, List, [], ◌∷◌, ◌++◌, map, Option, Some, None, append-nil}
use Rattle.std.specs.Prelude.{◌&&◌}
use Rattle.std.specs.Fmt.{decimal}
use Rattle.std.specs.List.{AllByRecursion, filter_map}
use Rattle.std.proofs.lemmas.Bool.{and_parts}
use Rattle.ob_tree.specs.declared.decl.Decl.{Decl, roll-Decl, map-Decl}
use Rattle.ob_tree.specs.declared.decl.Decl.TheOpen.{Decl-F}
use Rattle.ob_tree.specs.declared.decl.Decl.TheFolds.{ind-Decl, fold-roll-Decl}
use Rattle.ob_types.specs.declared.typed.TypedType.{TypedType}
use Rattle.ob_rules.specs.Judged.{joined}
use Rattle.ob_rules.specs.Names.{Around, map_of}
use Rattle.ob_rules.specs.Types.{Parameters, is_module_level, with_types}
use Rattle.ob_rules.specs.Statements.{Judging, judging, in_turn}
use Rattle.ob_rules.specs.Headings.{Head, Heads, head_of, declared_head, known_behind, name_twice, types_of, add_heading, forward_name, forwards_judged, reversed}
use Rattle.ob_rules.specs.Declarations.{Declaration, Plain, Procedure, plain_of, procedure_of, type_name_of, in_order, headings_in_order, Written_procedure, around_body, types_of_head, closing_judged, procedure_judged, procedures_judged, body_part, with_bound, binding_at, all_judged, field_judged, heads_later, pointers_judged, block, decl_rule, declaration}
use Rattle.law_names_distinct.specs.Named.{is_word, all_true, parameters_named, decl_layer, decl_named}
use Rattle.law_names_distinct.specs.Parts.{is_mark, IsWord}
use Rattle.law_names_distinct.proofs.FieldHeads.{reversed_good}
use Rattle.law_names_distinct.proofs.Typings.{IsOfSection, ParametersIn, AreGoodSections, names_of}
use Rattle.law_names_distinct.proofs.Scopes.{IsOfName, sequence_types}
use Rattle.law_names_types.proofs.Written.{parameters_are_nested}
use Rattle.law_names_types.proofs.Heads.{head_types}
use Rattle.law_lists.proofs.Lists.{IfThere, all_both, all_from, back_empty, front_empty}

abbrev pub NoWord : TypedType → Type 0
NoWord t = IsWord t.name → ⊥

-- ---- marks

abbrev pub HasMark : List ℕ → Type 0
HasMark [] = ⊥
HasMark (c ∷ cs) = (is_mark c ≡ true) ⊎ HasMark cs

mark_no_word : (n : List ℕ) → HasMark n → IsWord n → ⊥
mark_no_word [] m w = m
mark_no_word (c ∷ cs) (inl e) w = let bad : true ≡ false = sym e ∙ w.0 in absurd cc
mark_no_word (c ∷ cs) (inr m) w = mark_no_word cs m w.1

mark_front : (n rest : List ℕ) → HasMark n → HasMark (n ++ rest)
mark_front [] rest m = absurd m
mark_front (c ∷ cs) rest (inl e) = inl e
mark_front (c ∷ cs) rest (inr m) = inr (mark_front cs rest m)

mark_there : (r rest : List ℕ) (c : ℕ) → is_mark c ≡ true → HasMark (r ++ c ∷ rest)
mark_there [] rest c e = inl e
mark_there (x ∷ r) rest c e = inr (mark_there r rest c e)

-- ---- headings

section_no_word : (name : List ℕ) (i : ℕ) (n : List ℕ) → IsOfSection name i n → IsWord n → ⊥
section_no_word name i n o w = mark_no_word n (subst HasMark (sym o.part.is) (mark_front (name ++ 40 ∷ decimal o.at) o.part.rest (mark_there name (decimal o.at) 40 refl))) w

parameters_no_word : (name : List ℕ) (o : Option Parameters) → IfThere (ParametersIn name 1) o → AllByRecursion NoWord (types_of_head o)
parameters_no_word name None h = tt
parameters_no_word name (Some p) h = all_from (λ t. IsOfSection name 1 t.name) NoWord (λ t o. section_no_word name 1 t.name o) p.made h.parts

abbrev HeadGood : Head → Type 0
HeadGood h = h.notes.broken ≡ [] → AllByRecursion NoWord (types_of_head h.parameters)

pub record IsWellHeaded (p : Written_procedure) : Type 0 where
  pub good : AreGoodSections p.heading.parameters.sections
  pub few : 1 + names_of p.heading.parameters.sections < 2 ^ 64

head_good : (u : Around) (p : Written_procedure) → IsWellHeaded p → HeadGood (head_of u p.heading p.forward)
head_good u p w = λ e. parameters_no_word (forward_name p.forward (head_of u p.heading p.forward).path) (head_of u p.heading p.forward).parameters (head_types u p.heading p.forward w.good w.few e)

declared_good : (twice : Bool) (h : Head) (u : Around) → HeadGood h → HeadGood (declared_head twice h u)
declared_good true h u g = λ e. tt
declared_good false h u g = g

heads_good : (ps : List Written_procedure) → AllByRecursion IsWellHeaded ps → (hs : Heads) → AllByRecursion HeadGood hs.before → AllByRecursion HeadGood (headings_in_order ps hs).before
heads_good [] w hs g = g
heads_good (p ∷ ps) w hs g =
    let d = head_of hs.around p.heading p.forward in
    let u = with_types hs.around (types_of d.parameters) in
    let t = name_twice u hs.before d in
    heads_good ps w.1 (add_heading hs p.heading p.forward) (declared_good t d (known_behind u t d) (head_good hs.around p w.0), g)

-- ---- procedures

pub record IsGoodProcedure (p : Written_procedure) : Type 0 where
  pub heading : IsWellHeaded p
  pub inside : (u : Around) → HasMark u.path → (p.inside u).notes.broken ≡ [] → AllByRecursion NoWord (p.inside u).contents.types

one_good : (u : Around) (p : Written_procedure) → IsGoodProcedure p → (h : Head) → HeadGood h → (f : Bool) → (procedure_judged u p h f).notes.broken ≡ [] → AllByRecursion NoWord (procedure_judged u p h f).contents.types
one_good u p g h k true e = k e
one_good u p g h k false e =
    let part = p.inside (around_body u h) in
    all_both NoWord (types_of_head h.parameters) part.contents.types
    (k (front_empty h.notes.broken (joined (closing_judged h.name p.closing) part.notes).broken e))
    (g.inside (around_body u h) (mark_there h.path [] 47 refl) (back_empty (closing_judged h.name p.closing).broken part.notes.broken (back_empty h.notes.broken (joined (closing_judged h.name p.closing) part.notes).broken e)))

pub procedures_good : (u : Around) (ps : List Written_procedure) (hs : List Head) → AllByRecursion IsGoodProcedure ps → AllByRecursion HeadGood hs → (procedures_judged u ps hs).notes.broken ≡ [] → AllByRecursion NoWord (procedures_judged u ps hs).contents.types
procedures_good u [] hs g k e = tt
procedures_good u (p ∷ ps) [] g k e = tt
procedures_good u (p ∷ ps) (h ∷ hs) g k e =
    let a = procedure_judged u p h p.forward in
    let b = procedures_judged u ps hs in
    all_both NoWord a.contents.types b.contents.types (one_good u p g.0 h k.0 p.forward (front_empty a.notes.broken b.notes.broken e)) (procedures_good u ps hs g.1 k.1 (back_empty a.notes.broken b.notes.broken e))

-- ---- sequences

abbrev GoodDeclaration : Declaration → Type 0
GoodDeclaration (Plain x f) = Unit {0}
GoodDeclaration (Procedure p) = IsGoodProcedure p

abbrev AreGood : List Declaration → Type 0
AreGood ds = AllByRecursion GoodDeclaration ds

procedures_kept : (ds : List Declaration) → AreGood ds → AllByRecursion IsGoodProcedure (filter_map procedure_of ds)
procedures_kept [] g = tt
procedures_kept (Plain x f ∷ ds) g = procedures_kept ds g.1
procedures_kept (Procedure p ∷ ds) g = (g.0, procedures_kept ds g.1)

name_no_word : (path : List ℕ) (u v : Around) (n : List ℕ) → HasMark path → IsOfName path u v n → IsWord n → ⊥
name_no_word path u v n m o w = mark_no_word n (subst HasMark (sym o.part.is) (mark_front (path ++ o.name) o.part.rest (mark_front path o.name m))) w

-- of the procedures of a sequence
pub headed_good : (ds : List Declaration) → AreGood ds → (body : List Judging) (u : Around) → (let d = in_order (filter_map plain_of ds) (record u { later_types = filter_map type_name_of ds }) in let hs = headings_in_order (filter_map procedure_of ds) (record { around = d.around; before = [] }) in let w = with_bound hs.around (binding_at (is_module_level u) hs.around (reversed hs.before)) in
    (block ds body u).notes.broken ≡ [] → (d.part.notes.broken ≡ []) × AllByRecursion NoWord (procedures_judged w (filter_map procedure_of ds) (reversed hs.before)).contents.types × ((procedures_judged w (filter_map procedure_of ds) (reversed hs.before)).notes.broken ≡ []))
headed_good ds g body u e =
    let v : Around = record u { later_types = filter_map type_name_of ds } in
    let d = in_order (filter_map plain_of ds) v in
    let ps = filter_map procedure_of ds in
    let start : Heads = record { around = d.around; before = [] } in
    let hs = headings_in_order ps start in
    let b = binding_at (is_module_level u) hs.around (reversed hs.before) in
    let w = with_bound hs.around b in
    let P = procedures_judged w ps (reversed hs.before) in
    let B = body_part (in_turn body w) in
    let later = d.part.notes.later ++ heads_later hs.before in
    let n = joined b.notes (joined (all_judged (field_judged (map_of w)) later) (forwards_judged (map_of hs.around) (reversed hs.before) (reversed hs.before))) in
    let pointers = (pointers_judged hs.around later).broken in
    let behind : n.broken ++ (P.notes.broken ++ B.notes.broken) ≡ [] = back_empty (d.part.notes.broken ++ pointers) (n.broken ++ (P.notes.broken ++ B.notes.broken)) e in
    let first : d.part.notes.broken ≡ [] = front_empty d.part.notes.broken pointers (front_empty (d.part.notes.broken ++ pointers) (n.broken ++ (P.notes.broken ++ B.notes.broken)) e) in
    let third : P.notes.broken ≡ [] = front_empty P.notes.broken B.notes.broken (back_empty n.broken (P.notes.broken ++ B.notes.broken) behind) in
    let good = procedures_kept ds g in
    (first, procedures_good w ps (reversed hs.before) good (reversed_good HeadGood hs.before (heads_good ps (all_from IsGoodProcedure IsWellHeaded (λ p i. i.heading) ps good) start tt)) third, third)

block_good : (xs : List Decl) → all_true (map decl_named xs) ≡ true → AreGood (map declaration xs) → (body : List Judging) (u : Around) → HasMark u.path → (block (map declaration xs) body u).notes.broken ≡ [] → AllByRecursion NoWord (block (map declaration xs) body u).contents.types
block_good xs named g body u m e =
    let ds = map declaration xs in
    let v : Around = record u { later_types = filter_map type_name_of ds } in
    let d = in_order (filter_map plain_of ds) v in
    let hs = headings_in_order (filter_map procedure_of ds) (record { around = d.around; before = [] }) in
    let w = with_bound hs.around (binding_at (is_module_level u) hs.around (reversed hs.before)) in
    let its = (procedures_judged w (filter_map procedure_of ds) (reversed hs.before)).contents.types in
    let h = headed_good ds g body u e in
    let plain = all_from (λ t. IsOfName u.path v d.around t.name) NoWord (λ t o. name_no_word u.path v d.around t.name m o) d.part.contents.types ((sequence_types xs named v).types h.0).parts in
    subst (λ ts. AllByRecursion NoWord (d.part.contents.types ++ ts)) (sym (append-nil its)) (all_both NoWord d.part.contents.types its plain h.1)

-- ---- by induction over declarations

abbrev PD : Decl → Type 0
PD x = decl_named x ≡ true → GoodDeclaration (declaration x)

abbrev SD : Type 0
SD = (x : Decl) × PD x

all_of : (xs : List SD) → all_true (map decl_named (map (λ (x : SD). x.0) xs)) ≡ true → AreGood (map declaration (map (λ (x : SD). x.0) xs))
all_of [] e = tt
all_of (x ∷ xs) e =
    let p = and_parts (decl_named x.0) (all_true (map decl_named (map (λ (x : SD). x.0) xs))) e in
    (x.1 p.0, all_of xs p.1)

layer : (x : Decl-F Decl) → (decl_layer (map-Decl Decl Bool decl_named x) ≡ true → GoodDeclaration (decl_rule (map-Decl Decl Declaration declaration x))) → PD (roll-Decl x)
layer x h = λ e. subst GoodDeclaration (sym (fold-roll-Decl Declaration decl_rule x)) (h (sym (fold-roll-Decl Bool decl_layer x) ∙ e))

decl_cases : (y : Decl-F SD) → PD (roll-Decl (map-Decl SD Decl (λ x. x.0) y))
decl_cases (Decl-F.Constant d x) = layer (Decl-F.Constant d x) (λ e. tt)
decl_cases (Decl-F.NamedType d n) = layer (Decl-F.NamedType d n) (λ e. tt)
decl_cases (Decl-F.Variables ds n) = layer (Decl-F.Variables ds n) (λ e. tt)
decl_cases (Decl-F.Procedure h ds body closing) = layer (Decl-F.Procedure h (map (λ (x : SD). x.0) ds) body closing) (λ e.
    let all = all_true (map decl_named (map (λ (x : SD). x.0) ds)) in
    let p = and_parts (is_word h.name.ident.name) (parameters_named h.parameters && all) e in
    let q = and_parts (parameters_named h.parameters) all p.1 in
    let k = parameters_are_nested h.parameters q.0 in
    record {
      heading = record { good = k.good; few = k.few };
      inside = λ u m n. block_good (map (λ (x : SD). x.0) ds) q.1 (all_of ds q.1) (map judging body) u m n;
    })
decl_cases (Decl-F.Forward h) = layer (Decl-F.Forward h) (λ e.
    let p = and_parts (is_word h.name.ident.name) (parameters_named h.parameters) e in
    let k = parameters_are_nested h.parameters p.1 in
    record {
      heading = record { good = k.good; few = k.few };
      inside = λ u m n. tt;
    })

decl_good : (x : Decl) → PD x
decl_good = ind-Decl PD (λ x y is. subst (λ z. PD (roll-Decl z)) is (decl_cases y))

pub decls_good : (xs : List Decl) → all_true (map decl_named xs) ≡ true → AreGood (map declaration xs)
decls_good [] e = tt
decls_good (x ∷ xs) e =
    let p = and_parts (decl_named x) (all_true (map decl_named xs)) e in
    (decl_good x p.0, decls_good xs p.1)
