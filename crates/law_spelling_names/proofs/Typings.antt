-- The names of the types that declarations make are short.
use Rattle.std.proofs.Common.{◌≡◌, ℕ, zero, suc, ◌+◌, ◌*◌, ◌<◌, ◌≤◌, ◌^◌, Bool, true, false, List, [], ◌∷◌, ◌++◌, length, length-append, map, Option, Some, None, refl, sym, ap, subst, ◌∙◌, codes, arith}
use Rattle.std.specs.Prelude.{◌&&◌, bytes_eq, is_none, cond, nat_le}
use Rattle.std.specs.Fmt.{decimal}
use Rattle.std.specs.List.{AllByRecursion, cons_option, find, filter_map}
use Rattle.std.proofs.lemmas.Bool.{false≢true, and_parts, leb-true}
use Rattle.std.proofs.lemmas.Fmt.{length-decimal-le}
use Rattle.std.proofs.lemmas.Slice.Eq.{bytes_eq-Decides}
use Rattle.ob_tree.specs.declared.pos.Pos.{Pos}
use Rattle.ob_tree.specs.declared.names.QName.{QName}
use Rattle.ob_tree.specs.declared.ident.Ident.{Ident}
use Rattle.ob_tree.specs.declared.ident.IdentDef.{IdentDef}
use Rattle.ob_tree.specs.declared.ident.Mark.{Mark}
use Rattle.ob_tree.specs.declared.ident.Mark.TheVariants as mark
use Rattle.ob_tree.specs.declared.ident.Qualident.{Qualident}
use Rattle.ob_types.specs.declared.types.Mode.{Mode}
use Rattle.ob_types.specs.declared.types.TypeRef.{TypeRef}
use Rattle.ob_types.specs.declared.types.TypeRef.TheVariants as ref
use Rattle.ob_types.specs.declared.desc.Desc.{Desc}
use Rattle.ob_types.specs.declared.desc.Desc.TheVariants as desc
use Rattle.ob_types.specs.declared.typed.TypedType.{TypedType}
use Rattle.ob_types.specs.declared.typed.OutProcedure.{OutProcedure}
use Rattle.ob_rules.specs.declared.entity.Entity.{Entity}
use Rattle.ob_rules.specs.declared.entity.Entity.TheVariants as entity
use Rattle.ob_rules.specs.declared.entity.Known.{Known}
use Rattle.ob_rules.specs.declared.broken.Rule.TheVariants as rule
use Rattle.ob_rules.specs.Judged.{Judged, sound, both, made, each_sound, ◌▷◌, behind_quiet}
use Rattle.ob_rules.specs.Names.{Around, map_of, in_unit, find_name, is_enclosing, variable_known, entity_known, shown_of, export_known, exported, type_of_desc, out_type, out_procedure, type_in, type_of_entity, type_behind, unless_variable_is, unless_variable, type_by, type_named, is_out, own_desc, out_string, type_desc, found_in_scope, predeclared}
use Rattle.ob_rules.specs.Phrases.{Phrase}
use Rattle.ob_rules.specs.Shapes.{is_structured, is_pointer, same_name, record_at, record_of, pointed, record_if}
use Rattle.ob_rules.specs.Depth.{is_within}
use Rattle.ob_rules.specs.Types.{Typing, Written, typed_as, with_types, base_name, element_name, field_name, section_name, named_typing, array_length, fixed_array, array, first_of, names_behind, WrittenFields, first_name, Fields, fields_of, with_fields, field_lists, record_with, record_desc, pointer_to, base_judged, pointer_base, pointer_by, later_if, later_by, is_later, Parameters, WrittenSection, WrittenParameters, mode_of, parameter_as, knows, declare_all, parameters_of, with_made, sections, result_of, parameters_in, inner, procedure_type, array_node, record_node, pointer_node, procedure_node, base_if, node_rule, fields_rule, parameters_rule, section_rule, written, written_parameters, nothing, is_module_level, marked}
use Rattle.law_methods_described.proofs.Nodes.{Has, then_has, both_have, first_has, second_has, also_has, unless_has, quiet_has, anew_has}
use Rattle.law_names_distinct.proofs.Typings.{names_of}
use Rattle.law_spelling_names.specs.Nested.{is_short, first_short, Within, all_within, level, in_node, node_layer, fields_layer, parameters_layer, section_layer, type_within, fields_within, parameters_within, section_within, decl_layer, decl_within}
use Rattle.law_spelling_names.specs.Seen.{named_in, IsSeen, ShortRef, ShortDesc, AreOthers}
use Rattle.ob_tree.specs.declared.type_node.TypeNode.{TypeNode, roll-TypeNode, map-TypeNode}
use Rattle.ob_tree.specs.declared.type_node.FieldList.{FieldList, roll-FieldList, map-FieldList}
use Rattle.ob_tree.specs.declared.type_node.FormalPars.{FormalPars, roll-FormalPars, map-FormalPars}
use Rattle.ob_tree.specs.declared.type_node.Section.{Section, roll-Section, map-Section}
use Rattle.ob_tree.specs.declared.type_node.TypeNode.TheOpen.{TypeNode-F, FieldList-F, FormalPars-F, Section-F}
use Rattle.ob_tree.specs.declared.type_node.TypeNode.TheFolds.{fold-FieldList, fold-Section, ind-TypeNode, ind-FormalPars, fold-roll-TypeNode, fold-roll-FieldList, fold-roll-FormalPars, fold-roll-Section}
use Rattle.ob_rules.specs.Expressions.{phrase_of, constant_value}
use Rattle.ob_layout.specs.Lists.{sum_of}
use Rattle.law_names_distinct.specs.Named as wo
use Rattle.law_names_distinct.specs.Named.{all_true, are_words, type_named as type_words, fields_named as fields_words, parameters_named as parameters_words, section_named as section_words, is_word, decl_named as decl_words}
use Rattle.law_names_distinct.proofs.Written.{written_parameters_good as words_good}
use Rattle.ob_tree.specs.declared.ident.Import.{Import}
use Rattle.ob_tree.specs.declared.stmt.Stmt.{Stmt}
use Rattle.ob_tree.specs.declared.decl.Heading.{Heading}
use Rattle.ob_tree.specs.declared.decl.Receiver.{Receiver as RawReceiver}
use Rattle.ob_tree.specs.declared.decl.Decl.{Decl, roll-Decl, map-Decl}
use Rattle.ob_tree.specs.declared.decl.Decl.TheOpen.{Decl-F}
use Rattle.ob_tree.specs.declared.decl.Decl.TheFolds.{ind-Decl, fold-roll-Decl}
use Rattle.ob_types.specs.declared.value.Value.{Value}
use Rattle.ob_types.specs.declared.types.Basic.TheVariants as basic
use Rattle.ob_types.specs.declared.types.Signature.{Signature}
use Rattle.ob_types.specs.Tests.{target, target_of, follow, shape_at, pointer_of}
use Rattle.ob_rules.specs.Statements.{Judging, judging, in_turn}
use Rattle.ob_rules.specs.Headings.{BoundAs, received_record, is_own, if_own, own_record, bound_to, owner_of, owner_if, knows_receiver, WrittenHeading, heading_of, Head, path_by, forward_name, as_parameters, heading_parameters, head_of, entity_as, head_entity, declared_head, knows_procedure, known_behind, Heads, name_twice, types_of, add_heading, reversed, mark_or_hidden}
use Rattle.ob_rules.specs.Declarations.{Contents, no_contents, together, Declared, declare_if, declare, constant_contents, constant_entity, no_nil, constant_declared, equated, typing_as, types_made, type_entity, type_declared, variable_entity, variable_contents, paired_typing, first_name as first_declared, variables_with, made_in, variables_declared, Written_procedure, Declaration, Plain, Procedure, plain_of, procedure_of, type_name_of, in_order, headings_in_order, around_body, types_of_head, procedure_judged, procedures_judged, stmts_in, block_inside, with_bound, binding_at, block_declared, block, procedure_declaration, decl_rule, declaration, import_entity, import_declared, target_of as target_in_import, is_system, imports_declared, around_module, module_of, newly}
use Rattle.law_lists.proofs.Lists.{IfThere, all_back, all_both, all_from, all_front}

-- ---- lists

pub there_more : {A : Type 0} (P Q : A → Type 0) (o : Option A) → ((x : A) → P x → Q x) → IfThere P o → IfThere Q o
there_more P Q None f h = tt
there_more P Q (Some x) f h = f x h

found_if : {A : Type 0} (P : A → Type 0) (b : Bool) (x : A) (o : Option A) → P x → IfThere P o → IfThere P (cond b (Some x) o)
found_if P true x o h k = h
found_if P false x o h k = k

pub find_all : {A : Type 0} (P : A → Type 0) (test : A → Bool) (xs : List A) → AllByRecursion P xs → IfThere P (find test xs)
find_all P test [] h = tt
find_all P test (x ∷ xs) h = found_if P (test x) x (find test xs) h.0 (find_all P test xs h.1)

-- ---- derived names

pub short_length : (x : List ℕ) → is_short x ≡ true → length x ≤ 64
short_length x e = leb-true (length x) 64 e

pub element_length : (n : List ℕ) → length (element_name n) ≡ suc (length n)
element_length n = let e = length-append n (91 ∷ []) in omega (arith, e)

pub base_length : (n : List ℕ) → length (base_name n) ≡ suc (length n)
base_length n = let e = length-append n (94 ∷ []) in omega (arith, e)

pub field_length : (n f : List ℕ) → length (field_name n f) ≡ suc (length n + length f)
field_length n f = let e = length-append (n ++ 46 ∷ []) f in let k = length-append n (46 ∷ []) in omega (arith, e, k)

pub section_length : (n : List ℕ) (i : ℕ) → i < 2 ^ 64 → length (section_name n i) ≤ length n + 21
section_length n i s =
    let few : i < 10 ^ 20 = omega (arith, s) in
    let l : length (decimal i) ≤ 20 = length-decimal-le 20 i (omega arith) few s in
    let e = length-append (n ++ 40 ∷ []) (decimal i) in
    let k = length-append n (40 ∷ []) in
    omega (arith, l, e, k)

pub first_length : (ds : List IdentDef) → first_short ds ≡ true → length (first_name ds) ≤ 64
first_length [] e = omega arith
first_length (d ∷ ds) e = short_length d.ident.name e

-- ---- types that are seen in a map of types, of a module beside others

module _ (types : QName → Option Desc) (unit : List ℕ) (shown : QName → Option Desc) (others : AreOthers shown unit) where
  abbrev pub AreShort : ℕ → List TypedType → Type 0
  AreShort b ts = AllByRecursion (λ t. length t.name ≤ b) ts

  abbrev pub AreSeen : List TypedType → Type 0
  AreSeen ts = AllByRecursion (λ t. IsSeen types unit t) ts

  abbrev pub AreRefs : List TypedType → Type 0
  AreRefs ts = AllByRecursion (λ t. ShortDesc unit (length t.name) t.desc) ts

  -- types that are made where names begin with P: where they are seen, their names have at most b characters
  pub record Made (P : List ℕ) (b : ℕ) (ts : List TypedType) : Type 0 where
    pub short : AreSeen ts → AreShort b ts
    pub refs : P ≡ [] → AreRefs ts

  pub made_none : (P : List ℕ) (b : ℕ) → Made P b []
  made_none P b = record { short = λ s. tt; refs = λ p. tt }

  pub made_both : (P : List ℕ) (b : ℕ) (ts us : List TypedType) → Made P b ts → Made P b us → Made P b (ts ++ us)
  made_both P b ts us g h = record {
    short = λ s. all_both (λ t. length t.name ≤ b) ts us (g.short (all_front (λ t. IsSeen types unit t) ts us s)) (h.short (all_back (λ t. IsSeen types unit t) ts us s));
    refs = λ p. all_both (λ t. ShortDesc unit (length t.name) t.desc) ts us (g.refs p) (h.refs p);
  }

  pub short_more : (a b : ℕ) → a ≤ b → (ts : List TypedType) → AreShort a ts → AreShort b ts
  short_more a b l ts h = all_from (λ t. length t.name ≤ a) (λ t. length t.name ≤ b) (λ t n. omega (arith, n, l)) ts h

  pub made_more : (P : List ℕ) (a b : ℕ) → a ≤ b → (ts : List TypedType) → Made P a ts → Made P b ts
  made_more P a b l ts g = record { short = λ s. short_more a b l ts (g.short s); refs = g.refs }

  pub ref_more : (a b : ℕ) → a ≤ b → (t : TypeRef) → ShortRef unit a t → ShortRef unit b t
  ref_more a b l (ref.Basic c) h = tt
  ref_more a b l (ref.Named q) h = λ e. let n = h e in omega (arith, n, l)

  -- a type under that name
  pub record IsTyping (P : List ℕ) (b : ℕ) (name : List ℕ) (t : Typing) : Type 0 where
    pub made : Made P b t.made
    pub of : P ≡ [] → (c : ℕ) → 64 ≤ c → length name ≤ c → ShortRef unit c t.of

  abbrev EntityShort : Entity → Type 0
  EntityShort (entity.TypeName t) = ShortRef unit 64 t
  EntityShort e = Unit {0}

  abbrev pub KnownShort : Known → Type 0
  KnownShort k = EntityShort k.what

  -- what stands around, where names begin with P
  pub record IsFine (P : List ℕ) (u : Around) : Type 0 where
    pub unit_is : u.unit ≡ unit
    pub path : u.path ≡ P
    pub shown_is : u.shown ≡ shown
    pub known : P ≡ [] → AllByRecursion KnownShort u.known
    pub own : P ≡ [] → AreRefs u.own

  pub typed_around : (P : List ℕ) (b : ℕ) (u : Around) (ts : List TypedType) → Made P b ts → IsFine P u → IsFine P (with_types u ts)
  typed_around P b u ts h g = record { unit_is = g.unit_is; path = g.path; shown_is = g.shown_is; known = g.known; own = λ p. all_both (λ t. ShortDesc unit (length t.name) t.desc) ts u.own (h.refs p) (g.own p) }

  pub knows_around : (P : List ℕ) (u : Around) → IsFine P u → (x : Ident) (e : Entity) → EntityShort e → IsFine P (knows u x e)
  knows_around P u g x e h = record { unit_is = g.unit_is; path = g.path; shown_is = g.shown_is; known = λ p. (h, g.known p); own = g.own }

  -- ---- the name of a type

  abbrev RefShort : List ℕ → TypeRef → Type 0
  RefShort P t = P ≡ [] → ShortRef unit 64 t

  abbrev EntityFine : List ℕ → Entity → Type 0
  EntityFine P e = P ≡ [] → EntityShort e

  variable_has : (P : List ℕ) (b : Bool) (at : Pos) (e : Entity) → EntityFine P e → Has (EntityFine P) (variable_known b at e)
  variable_has P true at e h = tt
  variable_has P false at e h = h

  entity_has : (P : List ℕ) (u : Around) (at : Pos) (scope : ℕ) (e : Entity) → EntityFine P e → Has (EntityFine P) (entity_known u at scope e)
  entity_has P u at scope (entity.Constant v) h = λ p. tt
  entity_has P u at scope (entity.TypeName t) h = h
  entity_has P u at scope (entity.Variable v t) h = variable_has P (is_enclosing u scope) at (entity.Variable v t) (λ p. tt)
  entity_has P u at scope (entity.Procedure q s) h = λ p. tt
  entity_has P u at scope (entity.Forward q s) h = λ p. tt
  entity_has P u at scope (entity.Module n) h = λ p. tt
  entity_has P u at scope (entity.Predeclared x) h = λ p. tt
  entity_has P u at scope entity.LeftOut h = tt
  entity_has P u at scope entity.Unsound h = tt

  one_has : (P : List ℕ) (u : Around) (x : Ident) (f : Entity → Judged TypeRef) → ((e : Entity) → EntityFine P e → Has (RefShort P) (f e)) → (k : Known) (e : Entity) → EntityFine P e → Has (RefShort P) (unless_variable_is u x k e f)
  one_has P u x f g k (entity.Constant v) h = then_has (EntityFine P) (RefShort P) (entity_known u x.pos k.scope (entity.Constant v)) f (entity_has P u x.pos k.scope (entity.Constant v) h) g
  one_has P u x f g k (entity.TypeName t) h = then_has (EntityFine P) (RefShort P) (entity_known u x.pos k.scope (entity.TypeName t)) f (entity_has P u x.pos k.scope (entity.TypeName t) h) g
  one_has P u x f g k (entity.Variable v t) h = tt
  one_has P u x f g k (entity.Procedure q s) h = then_has (EntityFine P) (RefShort P) (entity_known u x.pos k.scope (entity.Procedure q s)) f (entity_has P u x.pos k.scope (entity.Procedure q s) h) g
  one_has P u x f g k (entity.Forward q s) h = then_has (EntityFine P) (RefShort P) (entity_known u x.pos k.scope (entity.Forward q s)) f (entity_has P u x.pos k.scope (entity.Forward q s) h) g
  one_has P u x f g k (entity.Module n) h = then_has (EntityFine P) (RefShort P) (entity_known u x.pos k.scope (entity.Module n)) f (entity_has P u x.pos k.scope (entity.Module n) h) g
  one_has P u x f g k (entity.Predeclared y) h = then_has (EntityFine P) (RefShort P) (entity_known u x.pos k.scope (entity.Predeclared y)) f (entity_has P u x.pos k.scope (entity.Predeclared y) h) g
  one_has P u x f g k entity.LeftOut h = then_has (EntityFine P) (RefShort P) (entity_known u x.pos k.scope entity.LeftOut) f (entity_has P u x.pos k.scope entity.LeftOut h) g
  one_has P u x f g k entity.Unsound h = then_has (EntityFine P) (RefShort P) (entity_known u x.pos k.scope entity.Unsound) f (entity_has P u x.pos k.scope entity.Unsound h) g

  unless_known : (P : List ℕ) (u : Around) (x : Ident) (f : Entity → Judged TypeRef) → ((e : Entity) → EntityFine P e → Has (RefShort P) (f e)) → (o : Option Known) → IfThere (λ k. EntityFine P k.what) o → Has (RefShort P) (unless_variable u x o f)
  unless_known P u x f g None h = tt
  unless_known P u x f g (Some k) h = one_has P u x f g k k.what h

  type_entity_has : (P : List ℕ) (at : Pos) (e : Entity) → EntityFine P e → Has (RefShort P) (type_of_entity at e)
  type_entity_has P at (entity.Constant v) h = tt
  type_entity_has P at (entity.TypeName t) h = h
  type_entity_has P at (entity.Variable v t) h = tt
  type_entity_has P at (entity.Procedure q s) h = tt
  type_entity_has P at (entity.Forward q s) h = tt
  type_entity_has P at (entity.Module n) h = tt
  type_entity_has P at (entity.Predeclared x) h = tt
  type_entity_has P at entity.LeftOut h = tt
  type_entity_has P at entity.Unsound h = tt

  desc_type : (P : List ℕ) (at : Pos) (q : QName) (d : Desc) → length q.object ≤ 64 → Has (RefShort P) (type_of_desc at q d)
  desc_type P at q (desc.Const v) h = tt
  desc_type P at q (desc.Var m t) h = tt
  desc_type P at q (desc.Proc s) h = tt
  desc_type P at q (desc.Alias m t) h = λ p e. h
  desc_type P at q (desc.Array m n t) h = λ p e. h
  desc_type P at q (desc.OpenArray m t) h = λ p e. h
  desc_type P at q (desc.Pointer m t) h = λ p e. h
  desc_type P at q (desc.ProcType m s) h = λ p e. h
  desc_type P at q (desc.Record r) h = λ p e. h

  export_has : (q : QName) (at : Pos) (o : Option Desc) → length q.object ≤ 64 → Has (λ (p : QName × Desc). length p.0.object ≤ 64) (export_known q at o)
  export_has q at None h = tt
  export_has q at (Some d) h = h

  out_has : (P : List ℕ) (at : Pos) (o : Option OutProcedure) → Has (RefShort P) (out_type at o)
  out_has P at None = tt
  out_has P at (Some p) = tt

  in_has : (P : List ℕ) (u : Around) (b : Bool) (m : List ℕ) (x : Ident) → length x.name ≤ 64 → Has (RefShort P) (type_in b u m x)
  in_has P u true m x h = out_has P x.pos (out_procedure x.name)
  in_has P u false m x h =
      let q : QName = record { «module» = m; object = x.name } in
      then_has (λ (p : QName × Desc). length p.0.object ≤ 64) (RefShort P) (exported u m x) (λ e. type_of_desc x.pos e.0 e.1) (export_has q x.pos (shown_of (u.shown q)) h) (λ p k. desc_type P x.pos p.0 p.1 k)

  behind_has : (P : List ℕ) (u : Around) (m x : Ident) → length x.name ≤ 64 → (e : Entity) → Has (RefShort P) (type_behind u m x e)
  behind_has P u m x h (entity.Constant v) = tt
  behind_has P u m x h (entity.TypeName t) = tt
  behind_has P u m x h (entity.Variable v t) = tt
  behind_has P u m x h (entity.Procedure q s) = tt
  behind_has P u m x h (entity.Forward q s) = tt
  behind_has P u m x h (entity.Module n) = in_has P u (is_out n) n x h
  behind_has P u m x h (entity.Predeclared y) = tt
  behind_has P u m x h entity.LeftOut = tt
  behind_has P u m x h entity.Unsound = tt

  known_found : (P : List ℕ) (u : Around) → IsFine P u → (x : List ℕ) (o : Option Known) → find_name u.known x ≡ o → IfThere (λ k. EntityFine P k.what) o
  known_found P u g x None i = tt
  known_found P u g x (Some k) i = λ p. subst (λ (o : Option Known). IfThere KnownShort o) i (find_all KnownShort (λ k. bytes_eq k.name x) u.known (g.known p))

  type_by_has : (P : List ℕ) (u : Around) → IsFine P u → (o : Option Ident) (x : Ident) → length x.name ≤ 64 → Has (RefShort P) (type_by u o x)
  type_by_has P u g None x h = unless_known P u x (type_of_entity x.pos) (type_entity_has P x.pos) (find_name u.known x.name) (known_found P u g x.name (find_name u.known x.name) refl)
  type_by_has P u g (Some m) x h = unless_known P u m (type_behind u m x) (λ e k. behind_has P u m x h e) (find_name u.known m.name) (known_found P u g m.name (find_name u.known m.name) refl)

  pub type_has : (P : List ℕ) (u : Around) → IsFine P u → (q : Qualident) → length q.ident.name ≤ 64 → Has (RefShort P) (type_named u q)
  type_has P u g q h = type_by_has P u g q.qualifier q.ident h

  -- one that is not qualified is of any length
  pub name_has : (P : List ℕ) (u : Around) → IsFine P u → (x : Ident) → Has (RefShort P) (type_named u (record { qualifier = None; ident = x }))
  name_has P u g x = unless_known P u x (type_of_entity x.pos) (type_entity_has P x.pos) (find_name u.known x.name) (known_found P u g x.name (find_name u.known x.name) refl)

  -- ---- written types

  -- a written type makes types whose names have at most D characters more
  abbrev pub IsGood : ℕ → Written → Type 0
  IsGood D w = (P : List ℕ) (u : Around) → IsFine P u → (name : List ℕ) (m : Mark) (open_ok : Bool) → Has (IsTyping P (length name + D) name) (w.typing u name m open_ok)

  abbrev pub ShortName : Qualident → Type 0
  ShortName q = length q.ident.name ≤ 64

  pub record IsNode (D : ℕ) (w : Written) : Type 0 where
    pub typing : IsGood D w
    pub name : IfThere ShortName w.name

  pub good_more : (D E : ℕ) → D ≤ E → (w : Written) → IsGood D w → IsGood E w
  good_more D E l w g P u f name m open_ok = there_more (IsTyping P (length name + D) name) (IsTyping P (length name + E) name) (w.typing u name m open_ok).node (λ t h. record { made = made_more P (length name + D) (length name + E) (omega (arith, l)) t.made h.made; of = h.of }) (g P u f name m open_ok)

  -- a type and more behind it
  as_good : (P : List ℕ) (u : Around) (b : ℕ) (name : List ℕ) (d : Desc) (more : List TypedType) → length name ≤ b → (P ≡ [] → ShortDesc unit (length name) d) → Made P b more → IsTyping P b name (typed_as u name d more)
  as_good P u b name d more l h g = record {
    made = record { short = λ s. (l, g.short s.1); refs = λ p. (h p, g.refs p) };
    of = λ p c k n e. n;
  }

  pub name_good : (q : Qualident) → ShortName q → (P : List ℕ) (u : Around) → IsFine P u → (b : ℕ) (name : List ℕ) (open_ok : Bool) → Has (IsTyping P b name) (type_named u q ▷ named_typing u (first_of q) open_ok)
  name_good q h P u f b name open_ok =
      then_has (RefShort P) (IsTyping P b name) (type_named u q) (named_typing u (first_of q) open_ok) (type_has P u f q h)
      (λ t k. unless_has (IsTyping P b name) _ rule.MisplacedOpenArray (first_of q) (record { of = t; made = [] }) (record { made = made_none P b; of = λ p c l n. ref_more 64 c l t (k p) }))

  -- ---- arrays

  record IsFixed (P : List ℕ) (b : ℕ) (name : List ℕ) (k : ℕ) (t : Typing) : Type 0 where
    typing : IsTyping P b name t
    chain : AreSeen t.made → (c : ℕ) → is_within types c t.of ≡ true → k ≤ c
    few : AreSeen t.made → k ≤ 200

  fixed_good : (D : ℕ) (ls : List Phrase) (element : Written) → IsGood D element → (P : List ℕ) (u : Around) → IsFine P u → (name : List ℕ) (m : Mark) → Has (IsFixed P (length name + (length ls + D)) name (length ls)) (fixed_array u name m ls element)
  fixed_good D [] element g P u f name m = there_more (IsTyping P (length name + D) name) (IsFixed P (length name + (0 + D)) name 0) (element.typing u name m false).node (λ t h. record { typing = record { made = made_more P (length name + D) (length name + (0 + D)) (omega arith) t.made h.made; of = h.of }; chain = λ s c w. omega arith; few = λ s. omega arith }) (g P u f name m false)
  fixed_good D (l ∷ ls) element g P u f name m =
      let n = element_length name in
      let inside = length (element_name name) + (length ls + D) in
      let b = length name + (length (l ∷ ls) + D) in
      then_has (λ (p : ℕ × Typing). Unit {0} × IsFixed P inside (element_name name) (length ls) p.1) (IsFixed P b name (length (l ∷ ls))) (both (array_length u l) (fixed_array u (element_name name) mark.Hidden ls element)) (λ p. sound (typed_as u name (desc.Array m p.0 p.1.of) p.1.made))
      (second_has (IsFixed P inside (element_name name) (length ls)) (array_length u l) (fixed_array u (element_name name) mark.Hidden ls element) (fixed_good D ls element g P u f (element_name name) mark.Hidden))
      (λ p h.
      let d = desc.Array m p.0 p.1.of in
      let on : (s : AreSeen (record { name = name; desc = d } ∷ p.1.made)) (c : ℕ) → is_within types c (named_in unit name) ≡ true → suc (length ls) ≤ c = λ s c w. (let k = s.0.follows c w in let r = h.1.chain s.1 k.0 k.2 in let e = k.1 in omega (arith, r, e)) in
      record {
        typing = as_good P u b name d p.1.made (omega arith) (λ p. tt) (made_more P inside b (omega (arith, n)) p.1.made h.1.typing.made);
        chain = λ s c w. on s c (subst (λ (x : List ℕ). is_within types c (ref.Named (record { «module» = x; object = name })) ≡ true) f.unit_is w);
        few = λ s. on s 200 s.0.within;
      })

  pub array_good : (D : ℕ) (ls : List Phrase) (at : Pos) (element : Written) → IsGood D element → (P : List ℕ) (u : Around) → IsFine P u → (name : List ℕ) (m : Mark) (open_ok : Bool) → Has (IsTyping P (length name + (200 + D)) name) (array u name m at open_ok ls element)
  array_good D [] at element g P u f name m open_ok =
      let n = element_length name in
      let inside = length (element_name name) + D in
      let b = length name + (200 + D) in
      also_has (IsTyping P b name) _ rule.MisplacedOpenArray at _
      (then_has (IsTyping P inside (element_name name)) (IsTyping P b name) (element.typing u (element_name name) mark.Hidden element.open_array) (λ t. sound (typed_as u name (desc.OpenArray m t.of) t.made)) (g P u f (element_name name) mark.Hidden element.open_array)
      (λ t h. as_good P u b name (desc.OpenArray m t.of) t.made (omega arith) (λ p. tt) (made_more P inside b (omega (arith, n)) t.made h.made)))
  array_good D (l ∷ ls) at element g P u f name m open_ok =
      let a = length name + (length (l ∷ ls) + D) in
      let b = length name + (200 + D) in
      there_more (IsFixed P a name (length (l ∷ ls))) (IsTyping P b name) (fixed_array u name m (l ∷ ls) element).node
      (λ t h. record {
        made = record { short = λ s. (let k = h.few s in short_more a b (omega (arith, k)) t.made (h.typing.made.short s)); refs = h.typing.made.refs };
        of = h.typing.of;
      })
      (fixed_good D (l ∷ ls) element g P u f name m)

  -- ---- records

  abbrev pub AreGoodFields : ℕ → List WrittenFields → Type 0
  AreGoodFields D ls = AllByRecursion (λ l. (length (first_name l.names) ≤ 64) × IsGood D l.node) ls

  fields_good : (P : List ℕ) (b : ℕ) (name : List ℕ) (u : Around) (base : Option (Option TypeRef)) (before : List (List ℕ)) (ds : List IdentDef) (t : Judged Typing) → Has (IsTyping P b name) t → Has (λ (f : Fields). Made P b f.made) (with_fields u base before ds t)
  fields_good P b name u base before ds t g =
      then_has (λ p. IsTyping P b name p.0 × Unit {0}) (λ (f : Fields). Made P b f.made) (both t (each_sound (fields_of u base before ds t.node))) (λ p. sound (record { fields = p.1; made = p.0.made }))
      (first_has (IsTyping P b name) t (each_sound (fields_of u base before ds t.node)) g) (λ p h. h.0.made)

  lists_good : (D : ℕ) (ls : List WrittenFields) → AreGoodFields D ls → (P : List ℕ) (u : Around) → IsFine P u → (name : List ℕ) (base : Option (Option TypeRef)) (before : List (List ℕ)) → Has (λ (f : Fields). Made P (length name + (65 + D)) f.made) (field_lists u name base before ls)
  lists_good D [] g P u f name base before = made_none P (length name + (65 + D))
  lists_good D (l ∷ ls) g P u f name base before =
      let b = length name + (65 + D) in
      let r = field_name name (first_name l.names) in
      let t = l.node.typing u r mark.Hidden false in
      let x = with_fields u base before l.names t in
      let y = field_lists u name base (names_behind l.names before) ls in
      let n = field_length name (first_name l.names) in
      let few = g.0.0 in
      then_has (λ (p : Fields × Fields). Made P b p.0.made × Made P b p.1.made) (λ (f : Fields). Made P b f.made) (both x y) _
      (both_have (λ (f : Fields). Made P b f.made) (λ (f : Fields). Made P b f.made) x y
      (there_more (λ (f : Fields). Made P (length r + D) f.made) (λ (f : Fields). Made P b f.made) x.node (λ z k. made_more P (length r + D) b (omega (arith, n, few)) z.made k) (fields_good P (length r + D) r u base before l.names t (g.0.1 P u f r mark.Hidden false)))
      (lists_good D ls g.1 P u f name base (names_behind l.names before)))
      (λ p h. made_both P b p.0.made p.1.made h.0 h.1)

  pub record_good : (D : ℕ) (P : List ℕ) (u : Around) → IsFine P u → (name : List ℕ) (m : Mark) (lists : List WrittenFields) → AreGoodFields D lists → (base : Judged (Option TypeRef)) → Has (IsTyping P (length name + (65 + D)) name) (record_with u name m lists base)
  record_good D P u f name m lists g base =
      let b = length name + (65 + D) in
      let y = field_lists u name base.node [] lists in
      then_has (λ (p : Option TypeRef × Fields). Unit {0} × Made P b p.1.made) (IsTyping P b name) (both base y) (λ p. sound (typed_as u name (record_desc m p.0 p.1.fields) p.1.made))
      (second_has (λ (f : Fields). Made P b f.made) base y (lists_good D lists g P u f name base.node []))
      (λ p h. as_good P u b name (record_desc m p.0 p.1.fields) p.1.made (omega arith) (λ p. tt) h.1)

  -- ---- pointers

  later_short : (b : Bool) (x : Ident) → length x.name ≤ 64 → IfThere (λ (i : Ident). length i.name ≤ 64) (later_if b x)
  later_short true x h = h
  later_short false x h = tt

  by_short : (u : Around) (o : Option Ident) (x : Ident) → length x.name ≤ 64 → IfThere (λ (i : Ident). length i.name ≤ 64) (later_by u o x)
  by_short u None x h = later_short _ x h
  by_short u (Some m) x h = tt

  pub is_later_short : (u : Around) (o : Option Qualident) → IfThere ShortName o → IfThere (λ (i : Ident). length i.name ≤ 64) (is_later u o)
  is_later_short u None h = tt
  is_later_short u (Some q) h = by_short u q.qualifier q.ident h

  judged_good : (P : List ℕ) (b : ℕ) (r : List ℕ) (name : List ℕ) (inline : Bool) (at : Pos) (s p : Bool) (t : Typing) → IsTyping P b r t → Has (IsTyping P b r) (base_judged name inline at s p t)
  judged_good P b r name inline at true p t h = h
  judged_good P b r name inline at false true t h = h
  judged_good P b r name inline at false false t h = tt

  pub at_module : (P : List ℕ) (u : Around) → IsFine P u → P ≡ [] → (x : List ℕ) → length (u.path ++ x) ≡ length x
  at_module P u f p x = ap (λ (y : List ℕ). length (y ++ x)) (f.path ∙ p)

  pub pointer_good : (D : ℕ) (P : List ℕ) (u : Around) → IsFine P u → (name : List ℕ) (m : Mark) (base : Written) → IsGood D base → (o : Option Ident) → IfThere (λ (i : Ident). length i.name ≤ 64) o → Has (IsTyping P (length name + (1 + D)) name) (pointer_by u name m base o)
  pointer_good D P u f name m base g (Some x) i =
      let b = length name + (1 + D) in
      as_good P u b name (desc.Pointer m (ref.Named (in_unit u (u.path ++ x.name)))) [] (omega arith) (λ p e. let n = at_module P u f p x.name in omega (arith, n, i)) (made_none P b)
  pointer_good D P u f name m base g None i =
      let n = base_length name in
      let r = base_name name in
      let a = length r + D in
      let b = length name + (1 + D) in
      then_has (IsTyping P a r) (IsTyping P b name) (base.typing u r mark.Hidden true ▷ pointer_base u name (is_none base.name) base.start) (λ t. sound (pointer_to u name m t))
      (then_has (IsTyping P a r) (IsTyping P a r) (base.typing u r mark.Hidden true) (pointer_base u name (is_none base.name) base.start) (g P u f r mark.Hidden true)
      (λ t h. judged_good P a r name (is_none base.name) base.start (is_structured (map_of (with_types u t.made)) t.of) (is_pointer (map_of (with_types u t.made)) t.of) t h))
      (λ t h. as_good P u b name (desc.Pointer m t.of) t.made (omega arith) (λ p. h.of p (65 + length name) (omega arith) (omega (arith, n))) (made_more P a b (omega (arith, n)) t.made h.made))

  -- ---- parameters

  abbrev pub AreGoodSections : ℕ → List WrittenSection → Type 0
  AreGoodSections D ss = AllByRecursion (λ s. IsGood D s.node) ss

  declared_around : (P : List ℕ) (u : Around) (m : Mode) (t : Option Typing) (xs : List Ident) → IsFine P u → IsFine P (declare_all u m t xs).around
  declared_around P u m t [] g = g
  declared_around P u m None (x ∷ xs) g = declared_around P (knows u x (parameter_as u m x None)) m None xs (knows_around P u g x (parameter_as u m x None) tt)
  declared_around P u m (Some t) (x ∷ xs) g = declared_around P (knows u x (parameter_as u m x (Some t))) m (Some t) xs (knows_around P u g x (parameter_as u m x (Some t)) tt)

  made_around : (P : List ℕ) (b : ℕ) (name : List ℕ) (u : Around) (t : Option Typing) → IfThere (IsTyping P b name) t → IsFine P u → IsFine P (with_made u t)
  made_around P b name u None h g = g
  made_around P b name u (Some t) h g = typed_around P b u t.made h.made g

  sections_good : (D : ℕ) (ss : List WrittenSection) → AreGoodSections D ss → (P : List ℕ) (u : Around) → IsFine P u → (name : List ℕ) (i : ℕ) → i + names_of ss < 2 ^ 64 → Has (λ (p : Parameters). Made P (length name + (21 + D)) p.made) (sections u name i ss).found
  sections_good D [] g P u f name i few = made_none P (length name + (21 + D))
  sections_good D (s ∷ ss) g P u f name i few =
      let b = length name + (21 + D) in
      let m = mode_of s.is_var in
      let r = section_name name i in
      let t = s.node.typing u r mark.Hidden true in
      let h = g.0 P u f r mark.Hidden true in
      let d = declare_all u m t.node s.names in
      let v = with_made d.around t.node in
      let here : i < 2 ^ 64 = omega (arith, few) in
      let n = section_length name i here in
      let rest = sections_good D ss g.1 P v (made_around P (length r + D) r d.around t.node h (declared_around P u m t.node s.names f)) name (i + length s.names) (omega (arith, few)) in
      let more = (sections v name (i + length s.names) ss).found in
      let mine : Judged Parameters = made (parameters_of u m s.names) t in
      then_has (λ (p : Parameters × Parameters). Made P b p.0.made × Made P b p.1.made) (λ (p : Parameters). Made P b p.made) (both (behind_quiet d.notes mine) more) _
      (both_have (λ (p : Parameters). Made P b p.made) (λ (p : Parameters). Made P b p.made) (behind_quiet d.notes mine) more
      (quiet_has (λ (p : Parameters). Made P b p.made) d.notes mine (then_has (IsTyping P (length r + D) r) (λ (p : Parameters). Made P b p.made) t (λ x. sound (parameters_of u m s.names x)) h (λ x k. made_more P (length r + D) b (omega (arith, n)) x.made k.made))) rest)
      (λ p k. made_both P b p.0.made p.1.made k.0 k.1)

  pub parameters_good : (D : ℕ) (P : List ℕ) (u : Around) → IsFine P u → (name : List ℕ) (p : WrittenParameters) → AreGoodSections D p.sections → 1 + names_of p.sections < 2 ^ 64 → Has (λ (p : Parameters). Made P (length name + (21 + D)) p.made) (parameters_in u name p).found
  parameters_good D P u f name p g few =
      let b = length name + (21 + D) in
      let s = sections u name 1 p.sections in
      then_has (λ (q : Parameters × Option TypeRef). Made P b q.0.made × Unit {0}) (λ (p : Parameters). Made P b p.made) (both s.found (result_of (record u { known = s.known }) p.result)) _
      (first_has (λ (p : Parameters). Made P b p.made) s.found (result_of (record u { known = s.known }) p.result) (sections_good D p.sections g P u f name 1 few))
      (λ q h. h.0)

  pub inner_around : (P : List ℕ) (u : Around) → IsFine P u → IsFine P (inner u)
  inner_around P u g = record { unit_is = g.unit_is; path = g.path; shown_is = g.shown_is; known = g.known; own = g.own }

  pub procedure_good : (D : ℕ) (P : List ℕ) (u : Around) → IsFine P u → (name : List ℕ) (m : Mark) (p : WrittenParameters) → AreGoodSections D p.sections → 1 + names_of p.sections < 2 ^ 64 → Has (IsTyping P (length name + (21 + D)) name) (procedure_type u name m p)
  procedure_good D P u f name m p g few =
      let b = length name + (21 + D) in
      then_has (λ (q : Parameters). Made P b q.made) (IsTyping P b name) (parameters_in (inner u) name p).found (λ q. sound (typed_as u name (desc.ProcType m q.signature) q.made)) (parameters_good D P (inner u) (inner_around P u f) name p g few)
      (λ q h. as_good P u b name (desc.ProcType m q.signature) q.made (omega arith) (λ p. tt) h)

  -- ---- each type of the grammar, by induction over its tree

  abbrev written_fields : FieldList → WrittenFields
  written_fields = fold-FieldList Written WrittenFields WrittenParameters WrittenSection node_rule fields_rule parameters_rule section_rule

  abbrev written_section : Section → WrittenSection
  written_section = fold-Section Written WrittenFields WrittenParameters WrittenSection node_rule fields_rule parameters_rule section_rule

  abbrev ParametersGood : ℕ → WrittenParameters → Type 0
  ParametersGood d p = AreGoodSections (276 * d) p.sections × (1 + names_of p.sections < 2 ^ 64)

  abbrev PN : TypeNode → Type 0
  PN x = type_words x ≡ true → (d : ℕ) → type_within x d ≡ true → IsNode (276 * d) (written x)

  abbrev PF : FieldList → Type 0
  PF x = fields_words x ≡ true → (d : ℕ) → fields_within x d ≡ true → (length (first_name (written_fields x).names) ≤ 64) × IsGood (276 * d) (written_fields x).node

  abbrev PP : FormalPars → Type 0
  PP x = parameters_words x ≡ true → (d : ℕ) → parameters_within x d ≡ true → ParametersGood d (written_parameters x)

  abbrev PS : Section → Type 0
  PS x = (section_words x).0 ≡ true → (d : ℕ) → section_within x d ≡ true → IsGood (276 * d) (written_section x).node

  abbrev SN : Type 0
  SN = (x : TypeNode) × PN x

  abbrev SF : Type 0
  SF = (x : FieldList) × PF x

  abbrev SP : Type 0
  SP = (x : FormalPars) × PP x

  abbrev SS : Type 0
  SS = (x : Section) × PS x

  fields_all : (xs : List SF) → all_true (map fields_words (map (λ (x : SF). x.0) xs)) ≡ true → (d : ℕ) → all_within (map fields_within (map (λ (x : SF). x.0) xs)) d ≡ true → AreGoodFields (276 * d) (map written_fields (map (λ (x : SF). x.0) xs))
  fields_all [] e d w = tt
  fields_all (x ∷ xs) e d w =
      let p = and_parts (fields_words x.0) (all_true (map fields_words (map (λ (x : SF). x.0) xs))) e in
      let q = and_parts (fields_within x.0 d) (all_within (map fields_within (map (λ (x : SF). x.0) xs)) d) w in
      (x.1 p.0 d q.0, fields_all xs p.1 d q.1)

  sections_all : (xs : List SS) → all_true (map (λ s. s.0) (map section_words (map (λ (x : SS). x.0) xs))) ≡ true → (d : ℕ) → all_within (map section_within (map (λ (x : SS). x.0) xs)) d ≡ true → AreGoodSections (276 * d) (map written_section (map (λ (x : SS). x.0) xs))
  sections_all [] e d w = tt
  sections_all (x ∷ xs) e d w =
      let p = and_parts (section_words x.0).0 (all_true (map (λ s. s.0) (map section_words (map (λ (x : SS). x.0) xs)))) e in
      let q = and_parts (section_within x.0 d) (all_within (map section_within (map (λ (x : SS). x.0) xs)) d) w in
      (x.1 p.0 d q.0, sections_all xs p.1 d q.1)

  -- a node within so many levels is a level, and its parts are within those behind it
  node_part : (x : TypeNode-F TypeNode FieldList FormalPars Section)
      → (wo.node_layer (map-TypeNode TypeNode FieldList FormalPars Section Bool Bool Bool (Bool × ℕ) type_words fields_words parameters_words section_words x) ≡ true → (d : ℕ) → in_node (map-TypeNode TypeNode FieldList FormalPars Section Within Within Within Within type_within fields_within parameters_within section_within x) d ≡ true → IsNode (276 * suc d) (node_rule (map-TypeNode TypeNode FieldList FormalPars Section Written WrittenFields WrittenParameters WrittenSection written written_fields written_parameters written_section x)))
      → PN (roll-TypeNode x)
  node_part x h e d w = subst (IsNode (276 * d)) (sym (fold-roll-TypeNode Written WrittenFields WrittenParameters WrittenSection node_rule fields_rule parameters_rule section_rule x)) (go d (sym (ap (λ (f : Within). f d) (fold-roll-TypeNode Within Within Within Within node_layer fields_layer parameters_layer section_layer x)) ∙ w))
    where
      words : wo.node_layer (map-TypeNode TypeNode FieldList FormalPars Section Bool Bool Bool (Bool × ℕ) type_words fields_words parameters_words section_words x) ≡ true
      words = sym (fold-roll-TypeNode Bool Bool Bool (Bool × ℕ) wo.node_layer wo.fields_layer wo.parameters_layer wo.section_layer x) ∙ e

      go : (d : ℕ) → level (in_node (map-TypeNode TypeNode FieldList FormalPars Section Within Within Within Within type_within fields_within parameters_within section_within x)) d ≡ true → IsNode (276 * d) (node_rule (map-TypeNode TypeNode FieldList FormalPars Section Written WrittenFields WrittenParameters WrittenSection written written_fields written_parameters written_section x))
      go zero w = absurd (false≢true w)
      go (suc d) w = h words d w

  node_cases : (y : TypeNode-F SN SF SP SS) → PN (roll-TypeNode (map-TypeNode SN SF SP SS TypeNode FieldList FormalPars Section (λ x. x.0) (λ x. x.0) (λ x. x.0) (λ x. x.0) y))
  node_cases (TypeNode-F.Named q) = node_part (TypeNode-F.Named q) (λ e d w. let n = short_length q.ident.name w in record { typing = λ P u f name m ok. name_good q n P u f (length name + 276 * suc d) name ok; name = n })
  node_cases (TypeNode-F.Array at ls t) = node_part (TypeNode-F.Array at ls t.0) (λ e d w. record { typing = good_more (200 + 276 * d) (276 * suc d) (omega arith) (array_node at (map phrase_of ls) (written t.0)) (λ P u f name m ok. array_good (276 * d) (map phrase_of ls) at (written t.0) (t.1 e d w).typing P u f name m ok); name = tt })
  node_cases (TypeNode-F.Record at base ls) = node_part (TypeNode-F.Record at base (map (λ (x : SF). x.0) ls)) (λ e d w. let lists = map written_fields (map (λ (x : SF). x.0) ls) in record { typing = good_more (65 + 276 * d) (276 * suc d) (omega arith) (record_node at base lists) (λ P u f name m ok. record_good (276 * d) P u f name m lists (fields_all ls e d w) (base_if u base)); name = tt })
  node_cases (TypeNode-F.Pointer at b) = node_part (TypeNode-F.Pointer at b.0) (λ e d w. let k = b.1 e d w in record { typing = good_more (1 + 276 * d) (276 * suc d) (omega arith) (pointer_node at (written b.0)) (λ P u f name m ok. pointer_good (276 * d) P u f name m (written b.0) k.typing (is_later u (written b.0).name) (is_later_short u (written b.0).name k.name)); name = tt })
  node_cases (TypeNode-F.Procedure at p) = node_part (TypeNode-F.Procedure at p.0) (λ e d w. let k = p.1 e d w in record { typing = good_more (21 + 276 * d) (276 * suc d) (omega arith) (procedure_node at (written_parameters p.0)) (λ P u f name m ok. procedure_good (276 * d) P u f name m (written_parameters p.0) k.0 k.1); name = tt })

  fields_cases : (y : FieldList-F SN SF SP SS) → PF (roll-FieldList (map-FieldList SN SF SP SS TypeNode FieldList FormalPars Section (λ x. x.0) (λ x. x.0) (λ x. x.0) (λ x. x.0) y))
  fields_cases y e d w =
      let x = map-FieldList SN SF SP SS TypeNode FieldList FormalPars Section (λ x. x.0) (λ x. x.0) (λ x. x.0) (λ x. x.0) y in
      let p = and_parts (are_words (map (λ (d : IdentDef). d.ident.name) y.names)) (type_words y.node.0) (sym (fold-roll-FieldList Bool Bool Bool (Bool × ℕ) wo.node_layer wo.fields_layer wo.parameters_layer wo.section_layer x) ∙ e) in
      let q = and_parts (first_short y.names) (type_within y.node.0 d) (sym (ap (λ (f : Within). f d) (fold-roll-FieldList Within Within Within Within node_layer fields_layer parameters_layer section_layer x)) ∙ w) in
      subst (λ (f : WrittenFields). (length (first_name f.names) ≤ 64) × IsGood (276 * d) f.node) (sym (fold-roll-FieldList Written WrittenFields WrittenParameters WrittenSection node_rule fields_rule parameters_rule section_rule x)) (first_length y.names q.0, (y.node.1 p.1 d q.1).typing)

  parameters_cases : (y : FormalPars-F SN SF SP SS) → PP (roll-FormalPars (map-FormalPars SN SF SP SS TypeNode FieldList FormalPars Section (λ x. x.0) (λ x. x.0) (λ x. x.0) (λ x. x.0) y))
  parameters_cases y e d w =
      let x = map-FormalPars SN SF SP SS TypeNode FieldList FormalPars Section (λ x. x.0) (λ x. x.0) (λ x. x.0) (λ x. x.0) y in
      let all = map section_words (map (λ (x : SS). x.0) y.sections) in
      let p = and_parts (all_true (map (λ s. s.0) all)) (nat_le (sum_of (λ (s : Bool × ℕ). s.1) all) 4294967295) (sym (fold-roll-FormalPars Bool Bool Bool (Bool × ℕ) wo.node_layer wo.fields_layer wo.parameters_layer wo.section_layer x) ∙ e) in
      let q = sym (ap (λ (f : Within). f d) (fold-roll-FormalPars Within Within Within Within node_layer fields_layer parameters_layer section_layer x)) ∙ w in
      let s : AreGoodSections (276 * d) (map written_section (map (λ (x : SS). x.0) y.sections)) = sections_all y.sections p.0 d q in
      (subst (λ (p : WrittenParameters). AreGoodSections (276 * d) p.sections) (sym (fold-roll-FormalPars Written WrittenFields WrittenParameters WrittenSection node_rule fields_rule parameters_rule section_rule x)) s, (words_good (roll-FormalPars x) e).1)

  section_cases : (y : Section-F SN SF SP SS) → PS (roll-Section (map-Section SN SF SP SS TypeNode FieldList FormalPars Section (λ x. x.0) (λ x. x.0) (λ x. x.0) (λ x. x.0) y))
  section_cases y e d w =
      let x = map-Section SN SF SP SS TypeNode FieldList FormalPars Section (λ x. x.0) (λ x. x.0) (λ x. x.0) (λ x. x.0) y in
      let p = and_parts (are_words (map (λ (x : Ident). x.name) y.names)) (type_words y.node.0) (sym (ap (λ (s : Bool × ℕ). s.0) (fold-roll-Section Bool Bool Bool (Bool × ℕ) wo.node_layer wo.fields_layer wo.parameters_layer wo.section_layer x)) ∙ e) in
      let q = sym (ap (λ (f : Within). f d) (fold-roll-Section Within Within Within Within node_layer fields_layer parameters_layer section_layer x)) ∙ w in
      subst (λ (s : WrittenSection). IsGood (276 * d) s.node) (sym (fold-roll-Section Written WrittenFields WrittenParameters WrittenSection node_rule fields_rule parameters_rule section_rule x)) (y.node.1 p.1 d q).typing

  pub written_good : (x : TypeNode) → PN x
  written_good = ind-TypeNode PN PF PP PS (λ x y is. subst (λ z. PN (roll-TypeNode z)) is (node_cases y)) (λ x y is. subst (λ z. PF (roll-FieldList z)) is (fields_cases y)) (λ x y is. subst (λ z. PP (roll-FormalPars z)) is (parameters_cases y)) (λ x y is. subst (λ z. PS (roll-Section z)) is (section_cases y))

  pub written_parameters_good : (x : FormalPars) → PP x
  written_parameters_good = ind-FormalPars PN PF PP PS (λ x y is. subst (λ z. PN (roll-TypeNode z)) is (node_cases y)) (λ x y is. subst (λ z. PF (roll-FieldList z)) is (fields_cases y)) (λ x y is. subst (λ z. PP (roll-FormalPars z)) is (parameters_cases y)) (λ x y is. subst (λ z. PS (roll-Section z)) is (section_cases y))

  -- ---- the record that a receiver is of

  found_both : {A : Type 0} (P : A → Type 0) (test : A → Bool) (xs : List A) → AllByRecursion P xs → IfThere (λ x. P x × (test x ≡ true)) (find test xs)
  found_both P test [] h = tt
  found_both {A} P test (x ∷ xs) h = go (test x) refl (found_both P test xs h.1)
    where
      go : (b : Bool) → test x ≡ b → IfThere (λ y. P y × (test y ≡ true)) (find test xs) → IfThere (λ y. P y × (test y ≡ true)) (cond b (Some x) (find test xs))
      go true e k = (h.0, e)
      go false e k = k

  ref_of_desc : (q : QName) (u : Around) → IsFine [] u → (b : ℕ) → ShortRef unit b (ref.Named q) → (d : Desc) → map_of u q ≡ Some d → ShortDesc unit b d
  ref_of_desc q u f b h d e = go (bytes_eq q.«module» u.unit) refl (same_name q out_string) e
    where
      mono : (a c : ℕ) → a ≤ c → (d : Desc) → ShortDesc unit a d → ShortDesc unit c d
      mono a c l (desc.Const v) k = tt
      mono a c l (desc.Var m t) k = tt
      mono a c l (desc.Proc s) k = tt
      mono a c l (desc.Alias m t) k = k
      mono a c l (desc.Array m n t) k = tt
      mono a c l (desc.OpenArray m t) k = tt
      mono a c l (desc.Pointer m t) k = ref_more (65 + a) (65 + c) (omega (arith, l)) t k
      mono a c l (desc.ProcType m s) k = tt
      mono a c l (desc.Record r) k = tt

      own : length q.object ≤ b → (o : Option TypedType) → IfThere (λ t. ShortDesc unit (length t.name) t.desc × (bytes_eq t.name q.object ≡ true)) o → own_desc o ≡ Some d → ShortDesc unit b d
      own l None k i = absurd cc
      own l (Some t) k i =
          let n : length t.name ≡ length q.object = ap length ((bytes_eq-Decides t.name q.object).0 k.1) in
          let s : t.desc ≡ d = cc in
          subst (λ (d : Desc). ShortDesc unit b d) s (mono (length t.name) b (omega (arith, n, l)) t.desc k.0)

      other : (o : Bool) → type_desc false o u q ≡ Some d → ShortDesc unit b d
      other true i = let s : desc.OpenArray mark.Hidden (ref.Basic basic.Char) ≡ d = cc in subst (λ (d : Desc). ShortDesc unit b d) s tt
      other false i = mono 0 b (omega arith) d (others q d (sym (ap (λ (s : QName → Option Desc). s q) f.shown_is) ∙ i))

      go : (c : Bool) → bytes_eq q.«module» u.unit ≡ c → (o : Bool) → type_desc (bytes_eq q.«module» u.unit) o u q ≡ Some d → ShortDesc unit b d
      go true i o e =
          own (h (subst (λ (x : List ℕ). bytes_eq q.«module» x ≡ true) f.unit_is i)) (find (λ t. bytes_eq t.name q.object) u.own)
          (found_both (λ t. ShortDesc unit (length t.name) t.desc) (λ t. bytes_eq t.name q.object) u.own (f.own refl))
          (ap (λ (c : Bool). type_desc c o u q) (sym i) ∙ e)
      go false i o e = other o (ap (λ (c : Bool). type_desc c o u q) (sym i) ∙ e)

  target_short : (u : Around) → IsFine [] u → (b : ℕ) → 64 ≤ b → (n : ℕ) (t : TypeRef) → ShortRef unit b t → ShortRef unit b (target (map_of u) n t)
  unfolding target
  target_short u f b l zero t h = h
  target_short u f b l (suc n) (ref.Basic c) h = h
  target_short u f b l (suc n) (ref.Named q) h = go (map_of u q) refl (λ t k. target_short u f b l n t k)
    where
      go : (o : Option Desc) → map_of u q ≡ o → ((t : TypeRef) → ShortRef unit b t → ShortRef unit b (target (map_of u) n t)) → ShortRef unit b (follow (target_of o) (ref.Named q) (λ t. target (map_of u) n t))
      go None e more = h
      go (Some (desc.Const v)) e more = h
      go (Some (desc.Var m t)) e more = h
      go (Some (desc.Proc s)) e more = h
      go (Some (desc.Alias m t)) e more = more t (ref_more 64 b l t (ref_of_desc q u f b h (desc.Alias m t) e))
      go (Some (desc.Array m k t)) e more = h
      go (Some (desc.OpenArray m t)) e more = h
      go (Some (desc.Pointer m t)) e more = h
      go (Some (desc.ProcType m s)) e more = h
      go (Some (desc.Record r)) e more = h

  at_short : (b : ℕ) (x : TypeRef) → ShortRef unit b x → (o : Option Desc) (q : QName) → record_at x o ≡ Some q → ShortRef unit b (ref.Named q)
  at_short b (ref.Basic c) h o q e = absurd cc
  at_short b (ref.Named p) h None q e = absurd cc
  at_short b (ref.Named p) h (Some (desc.Const v)) q e = absurd cc
  at_short b (ref.Named p) h (Some (desc.Var m t)) q e = absurd cc
  at_short b (ref.Named p) h (Some (desc.Proc s)) q e = absurd cc
  at_short b (ref.Named p) h (Some (desc.Alias m t)) q e = absurd cc
  at_short b (ref.Named p) h (Some (desc.Array m n t)) q e = absurd cc
  at_short b (ref.Named p) h (Some (desc.OpenArray m t)) q e = absurd cc
  at_short b (ref.Named p) h (Some (desc.Pointer m t)) q e = absurd cc
  at_short b (ref.Named p) h (Some (desc.ProcType m s)) q e = absurd cc
  at_short b (ref.Named p) h (Some (desc.Record r)) q e = let same : p ≡ q = cc in subst (λ (q : QName). ShortRef unit b (ref.Named q)) same h

  record_short : (u : Around) → IsFine [] u → (b : ℕ) → 64 ≤ b → (t : TypeRef) → ShortRef unit b t → (q : QName) → record_of (map_of u) t ≡ Some q → ShortRef unit b (ref.Named q)
  record_short u f b l t h q e = at_short b (target (map_of u) 201 t) (target_short u f b l 201 t h) (shape_at (map_of u) (target (map_of u) 201 t)) q e

  pointed_short : (u : Around) → IsFine [] u → (x : TypeRef) → ShortRef unit 64 x → (t : TypeRef) → pointer_of (shape_at (map_of u) x) ≡ Some t → ShortRef unit 129 t
  pointed_short u f (ref.Basic c) h t e = absurd cc
  pointed_short u f (ref.Named p) h t e = go (map_of u p) refl e
    where
      go : (o : Option Desc) → map_of u p ≡ o → pointer_of o ≡ Some t → ShortRef unit 129 t
      go None i e = absurd cc
      go (Some (desc.Const v)) i e = absurd cc
      go (Some (desc.Var m s)) i e = absurd cc
      go (Some (desc.Proc s)) i e = absurd cc
      go (Some (desc.Alias m s)) i e = absurd cc
      go (Some (desc.Array m n s)) i e = absurd cc
      go (Some (desc.OpenArray m s)) i e = absurd cc
      go (Some (desc.Pointer m s)) i e = let same : s ≡ t = cc in subst (λ (t : TypeRef). ShortRef unit 129 t) same (ref_of_desc p u f 64 h (desc.Pointer m s) i)
      go (Some (desc.ProcType m s)) i e = absurd cc
      go (Some (desc.Record r)) i e = absurd cc

  received_short : (u : Around) → IsFine [] u → (var : Bool) (t : TypeRef) → ShortRef unit 64 t → (q : QName) → received_record (map_of u) var t ≡ Some q → ShortRef unit 129 (ref.Named q)
  received_short u f true t h q e = ref_more 64 129 (omega arith) (ref.Named q) (record_short u f 64 (omega arith) t h q e)
  received_short u f false t h q e = go (pointed (map_of u) t) refl e
    where
      go : (o : Option TypeRef) → pointed (map_of u) t ≡ o → record_if (map_of u) o ≡ Some q → ShortRef unit 129 (ref.Named q)
      go None i e = absurd cc
      go (Some s) i e = record_short u f 129 (omega arith) s (pointed_short u f (target (map_of u) 201 t) (target_short u f 64 (omega arith) 201 t h) s i) q e

  level_path : (P : List ℕ) (u : Around) → IsFine P u → is_module_level u ≡ true → P ≡ []
  level_path P u f e = sym f.path ∙ go u.path e
    where
      go : (x : List ℕ) → nothing x ≡ true → x ≡ []
      go [] e = refl
      go (c ∷ x) e = absurd (false≢true e)

  owner_short : (P : List ℕ) (u : Around) → IsFine P u → (var : Bool) (t : TypeRef) → RefShort P t → (q : QName) → own_record u (received_record (map_of u) var t) ≡ Some q → length q.object ≤ 129
  owner_short P u f var t h q e = go (received_record (map_of u) var t) refl e
    where
      own_if : (p : QName) (b : Bool) → is_own u p && is_module_level u ≡ b → received_record (map_of u) var t ≡ Some p → if_own b p ≡ Some q → length q.object ≤ 129
      own_if p false i r e = absurd cc
      own_if p true i r e =
          let same : p ≡ q = cc in
          let k = and_parts (is_own u p) (is_module_level u) i in
          let top = level_path P u f k.1 in
          let mine = (and_parts (bytes_eq p.«module» u.unit) _ k.0).0 in
          let here : bytes_eq p.«module» unit ≡ true = subst (λ (x : List ℕ). bytes_eq p.«module» x ≡ true) f.unit_is mine in
          subst (λ (q : QName). length q.object ≤ 129) same (received_short u (subst (λ (P : List ℕ). IsFine P u) top f) var t (h top) p r here)

      go : (o : Option QName) → received_record (map_of u) var t ≡ o → own_record u o ≡ Some q → length q.object ≤ 129
      go None i e = absurd cc
      go (Some p) i e = own_if p (is_own u p && is_module_level u) refl i e

  -- ---- receivers

  abbrev IsBound : BoundAs → Type 0
  IsBound b = length b.owner.object ≤ 129

  to_bound : (at : Pos) (var : Bool) (t : TypeRef) (quiet : Bool) (o : Option QName) → ((q : QName) → o ≡ Some q → length q.object ≤ 129) → Has IsBound (bound_to at var t quiet o)
  to_bound at var t quiet (Some q) k = k q refl
  to_bound at var t true None k = tt
  to_bound at var t false None k = tt

  owner_bound : (P : List ℕ) (u : Around) → IsFine P u → (r : RawReceiver) → Has IsBound (owner_of u r)
  owner_bound P u f r = then_has (RefShort P) IsBound (type_named u (record { qualifier = None; ident = r.owner })) _ (name_has P u f r.owner)
      (λ t h. to_bound r.owner.pos r.is_var t _ (own_record u (received_record (map_of u) r.is_var t)) (λ q e. owner_short P u f r.is_var t h q e))

  abbrev MaybeBound : Option BoundAs → Type 0
  MaybeBound o = IfThere IsBound o

  owner_if_bound : (P : List ℕ) (u : Around) → IsFine P u → (r : Option RawReceiver) → Has MaybeBound (owner_if u r)
  owner_if_bound P u f None = tt
  owner_if_bound P u f (Some r) = then_has IsBound MaybeBound (owner_of u r) (λ b. sound (Some b)) (owner_bound P u f r) (λ b h. h)

  receiver_around : (P : List ℕ) (u : Around) → IsFine P u → (r : Option RawReceiver) (b : Option (Option BoundAs)) → IsFine P (knows_receiver u r b)
  receiver_around P u g None b = g
  receiver_around P u g (Some r) (Some (Some b)) = knows_around P u g r.ident _ tt
  receiver_around P u g (Some r) (Some None) = knows_around P u g r.ident _ tt
  receiver_around P u g (Some r) None = knows_around P u g r.ident _ tt

  -- ---- a heading

  -- the bound of names in a scope with so many levels behind it
  abbrev most : ℕ → ℕ → ℕ
  most n d = n + (216 + 276 * d)

  pub record IsHeading (d : ℕ) (h : WrittenHeading) : Type 0 where
    pub inside : ℕ
    pub below : inside ≤ d
    pub name : is_short h.name.ident.name ≡ true
    pub sections : AreGoodSections (276 * inside) h.parameters.sections
    pub few : 1 + names_of h.parameters.sections < 2 ^ 64

  record IsHead (P : List ℕ) (d : ℕ) (h : Head) : Type 0 where
    path : length h.path ≤ length P + 194
    parameters : IfThere (λ (p : Parameters). Made P (most (length P) d) p.made) h.parameters

  abbrev AreHeads : List ℕ → ℕ → List Head → Type 0
  AreHeads P d hs = AllByRecursion (IsHead P d) hs

  path_short : (o : Option (Option BoundAs)) (x : List ℕ) → IfThere MaybeBound o → length x ≤ 64 → length (path_by o x) ≤ 194
  path_short None x h n = omega (arith, n)
  path_short (Some None) x h n = omega (arith, n)
  path_short (Some (Some b)) x h n = let e = length-append (b.owner.object ++ 46 ∷ []) x in let k = length-append b.owner.object (46 ∷ []) in omega (arith, n, h, e, k)

  forward_length : (b : Bool) (n : List ℕ) → length (forward_name b n) ≤ suc (length n)
  forward_length true n = let e = length-append n (94 ∷ []) in omega (arith, e)
  forward_length false n = omega arith

  as_made : (P : List ℕ) (b : ℕ) (o : Option ((Mark × Option BoundAs) × Parameters)) → IfThere (λ p. Unit {0} × Made P b p.1.made) o → IfThere (λ (p : Parameters). Made P b p.made) (as_parameters o)
  as_made P b None h = tt
  as_made P b (Some p) h = h.1

  head_good : (P : List ℕ) (d : ℕ) (u : Around) → IsFine P u → (h : WrittenHeading) (forward : Bool) → IsHeading d h → IsHead P d (head_of u h forward)
  head_good P d u g h forward k =
      let m = marked u false h.name in
      let b = owner_if u h.receiver in
      let x = path_by b.node h.name.ident.name in
      let p = u.path ++ x in
      let n = forward_name forward p in
      let s = heading_parameters u h forward b in
      let inside = parameters_in (knows_receiver (inner u) h.receiver b.node) n h.parameters in
      let few = path_short b.node h.name.ident.name (owner_if_bound P u g h.receiver) (short_length h.name.ident.name k.name) in
      let e = length-append u.path x in
      let at : length u.path ≡ length P = ap length g.path in
      let f = forward_length forward p in
      let a = length n + (21 + 276 * k.inside) in
      let l = k.below in
      let t = parameters_good (276 * k.inside) P (knows_receiver (inner u) h.receiver b.node) (receiver_around P (inner u) (inner_around P u g) h.receiver b.node) n h.parameters k.sections k.few in
      record {
        path = omega (arith, few, e, at);
        parameters = as_made P (most (length P) d) (both (both m b) s.found).node
            (second_has (λ (p : Parameters). Made P (most (length P) d) p.made) (both m b) s.found
            (anew_has (λ (p : Parameters). Made P (most (length P) d) p.made) u h.name.ident.«pos» inside
            (there_more (λ (p : Parameters). Made P a p.made) (λ (p : Parameters). Made P (most (length P) d) p.made) inside.found.node (λ z y. made_more P a (most (length P) d) (omega (arith, few, e, at, f, l)) z.made y) t)));
      }

  -- ---- headings in order

  record AreInOrder (P : List ℕ) (d : ℕ) (hs : Heads) : Type 0 where
    around : IsFine P hs.around
    before : AreHeads P d hs.before

  as_entity : (b : Bool) (q : QName) (s : Signature) → EntityShort (entity_as b q s)
  as_entity true q s = tt
  as_entity false q s = tt

  entity_short : (u : Around) (h : Head) (o : Option Parameters) → EntityShort (head_entity u h o)
  entity_short u h None = tt
  entity_short u h (Some p) = as_entity h.forward (in_unit u h.path) p.signature

  procedure_known : (P : List ℕ) (u : Around) → IsFine P u → (h : Head) (b : Bool) → IsFine P (knows_procedure u h b)
  procedure_known P u g h true = g
  procedure_known P u g h false = record { unit_is = g.unit_is; path = g.path; shown_is = g.shown_is; known = λ p. (entity_short u h h.parameters, g.known p); own = g.own }

  behind_known : (P : List ℕ) (u : Around) → IsFine P u → (twice : Bool) (h : Head) → IsFine P (known_behind u twice h)
  behind_known P u g true h = g
  behind_known P u g false h = procedure_known P u g h h.is_bound

  declared_good : (P : List ℕ) (d : ℕ) (twice : Bool) (h : Head) → IsHead P d h → (u : Around) → IsHead P d (declared_head twice h u)
  declared_good P d true h g u = record { path = g.path; parameters = tt }
  declared_good P d false h g u = record { path = g.path; parameters = g.parameters }

  types_good : (P : List ℕ) (b : ℕ) (o : Option Parameters) → IfThere (λ (p : Parameters). Made P b p.made) o → Made P b (types_of o)
  types_good P b None h = made_none P b
  types_good P b (Some p) h = h

  add_good : (P : List ℕ) (d : ℕ) (hs : Heads) → AreInOrder P d hs → (h : WrittenHeading) → IsHeading d h → (forward : Bool) → AreInOrder P d (add_heading hs h forward)
  add_good P d hs g h k forward =
      let x = head_of hs.around h forward in
      let e = head_good P d hs.around g.around h forward k in
      let u = with_types hs.around (types_of x.parameters) in
      let t = name_twice u hs.before x in
      record {
        around = behind_known P u (typed_around P (most (length P) d) hs.around (types_of x.parameters) (types_good P (most (length P) d) x.parameters e.parameters) g.around) t x;
        before = (declared_good P d t x e (known_behind u t x), g.before);
      }

  reversed_good : {A : Type 0} (P : A → Type 0) (xs : List A) → AllByRecursion P xs → AllByRecursion P (reversed xs)
  reversed_good P [] h = tt
  reversed_good P (x ∷ xs) h = all_both P (reversed xs) (x ∷ []) (reversed_good P xs h.1) (h.0, tt)

  -- ---- what a part adds

  -- where its types are seen, their names have at most b characters
  abbrev IsShortPart : ℕ → Contents → Type 0
  IsShortPart b c = AreSeen c.types → AreShort b c.types

  part_both : (b : ℕ) (x y : Contents) → IsShortPart b x → IsShortPart b y → IsShortPart b (together x y)
  part_both b x y g h s = all_both (λ t. length t.name ≤ b) x.types y.types (g (all_front (λ t. IsSeen types unit t) x.types y.types s)) (h (all_back (λ t. IsSeen types unit t) x.types y.types s))

  part_none : (b : ℕ) → IsShortPart b no_contents
  part_none b s = tt

  pub record IsDeclared (P : List ℕ) (b : ℕ) (d : Declared) : Type 0 where
    pub contents : IsShortPart b d.part.contents
    pub around : IsFine P d.around

  abbrev IsPlain : ℕ → (Around → Declared) → Type 0
  IsPlain d f = (P : List ℕ) (u : Around) → IsFine P u → IsDeclared P (most (length P) d) (f u)

  if_declared : (P : List ℕ) (o : Option Known) (u : Around) → IsFine P u → (x : Ident) (e : Entity) → EntityFine P e → IsFine P (declare_if o u x e)
  if_declared P (Some k) u g x e h = g
  if_declared P None u g x e h = record { unit_is = g.unit_is; path = g.path; shown_is = g.shown_is; known = λ p. (h p, g.known p); own = g.own }

  name_declared : (P : List ℕ) (u : Around) → IsFine P u → (x : Ident) (e : Entity) → EntityFine P e → IsFine P (declare u x e)
  name_declared P u g x e h = if_declared P (found_in_scope u x.name) u g x e h

  -- ---- constants

  constants_good : (b : ℕ) (l : Bool) (x : Ident) (p : Option (Mark × Value)) → IsShortPart b (constant_contents l x p)
  constants_good b true x None = part_none b
  constants_good b true x (Some p) = λ s. tt
  constants_good b false x p = part_none b

  constant_known : (P : List ℕ) (o : Option (Mark × Value)) → EntityFine P (constant_entity o)
  constant_known P None = λ p. tt
  constant_known P (Some x) = λ p. tt

  constant_good : (d : ℕ) (i : IdentDef) (x : Phrase) → IsPlain d (constant_declared i x)
  constant_good d i x P u g =
      let j = both (marked u false i) (constant_value u x ▷ no_nil x.start) in
      record { contents = constants_good (most (length P) d) (is_module_level u) i.ident j.node; around = name_declared P u g i.ident (constant_entity j.node) (constant_known P j.node) }

  -- ---- types

  equated_good : (D : ℕ) (P : List ℕ) (u : Around) → IsFine P u → (name : List ℕ) → (P ≡ [] → length name ≤ 64) → (m : Mark) (w : Written) → IsGood D w → (o : Option Qualident) → Has (IsTyping P (length name + D) name) (typing_as u name m w o)
  equated_good D P u f name n m w g (Some q) =
      let b = length name + D in
      then_has (IsTyping P b name) (IsTyping P b name) (w.typing u name m false) (λ t. sound (equated u name m t)) (g P u f name m false)
      (λ t h. record {
        made = record { short = λ s. (omega arith, h.made.short s.1); refs = λ p. (h.of p 64 (omega arith) (n p), h.made.refs p) };
        of = λ p c k l e. l;
      })
  equated_good D P u f name n m w g None = g P u f name m false

  made_good : (P : List ℕ) (b : ℕ) (name : List ℕ) (o : Option (Mark × Typing)) → IfThere (λ p. Unit {0} × IsTyping P b name p.1) o → Made P b (types_made o)
  made_good P b name None h = made_none P b
  made_good P b name (Some p) h = h.1.made

  type_known : (P : List ℕ) (b : ℕ) (name : List ℕ) → (P ≡ [] → length name ≤ 64) → (o : Option (Mark × Typing)) → IfThere (λ p. Unit {0} × IsTyping P b name p.1) o → EntityFine P (type_entity o)
  type_known P b name n None h = λ p. tt
  type_known P b name n (Some x) h = λ p. h.1.of p 64 (omega arith) (n p)

  type_good : (d : ℕ) (i : IdentDef) (w : Written) → is_short i.ident.name ≡ true → IsNode (276 * d) w → IsPlain d (type_declared i w)
  type_good d i w n g P u f =
      let m = newly u i in
      let name = u.path ++ i.ident.name in
      let short = short_length i.ident.name n in
      let at : length u.path ≡ length P = ap length f.path in
      let e = length-append u.path i.ident.name in
      let top : P ≡ [] → length name ≤ 64 = λ p. (let k = at_module P u f p i.ident.name in omega (arith, k, short)) in
      let a = length name + 276 * d in
      let b = most (length P) d in
      let t = typing_as u name (mark_or_hidden m.node) w w.name in
      let k = second_has (IsTyping P a name) m t (equated_good (276 * d) P u f name top (mark_or_hidden m.node) w g.typing w.name) in
      let made = made_more P a b (omega (arith, short, at, e)) (types_made (both m t).node) (made_good P a name (both m t).node k) in
      record {
        contents = made.short;
        around = name_declared P (with_types u (types_made (both m t).node)) (typed_around P b u (types_made (both m t).node) made f) i.ident (type_entity (both m t).node) (type_known P a name top (both m t).node k);
      }

  -- ---- variables

  of_all_length : (ds : List IdentDef) → first_short ds ≡ true → length (first_declared ds) ≤ 64
  of_all_length [] e = omega arith
  of_all_length (d ∷ ds) e = short_length d.ident.name e

  variable_fine : (P : List ℕ) (u : Around) (x : Ident) (o : Option (Mark × Typing)) → EntityFine P (variable_entity u x o)
  variable_fine P u x None = λ p. tt
  variable_fine P u x (Some t) = λ p. tt

  variable_good : (b : ℕ) (x : Ident) (o : Option (Mark × Typing)) → IsShortPart b (variable_contents x o)
  variable_good b x None = part_none b
  variable_good b x (Some p) = λ s. tt

  variables_good : (b : ℕ) (ds : List IdentDef) (t : Option Typing) (P : List ℕ) (u : Around) → IsFine P u → IsDeclared P b (variables_with ds t u)
  variables_good b [] t P u g = record { contents = part_none b; around = g }
  variables_good b (d ∷ ds) t P u g =
      let p = paired_typing (marked u true d).node t in
      let v = declare u d.ident (variable_entity u d.ident p) in
      let rest = variables_good b ds t P v (name_declared P u g d.ident (variable_entity u d.ident p) (variable_fine P u d.ident p)) in
      record { contents = part_both b (variable_contents d.ident p) (variables_with ds t v).part.contents (variable_good b d.ident p) rest.contents; around = rest.around }

  in_good : (P : List ℕ) (b : ℕ) (name : List ℕ) (o : Option Typing) → IfThere (IsTyping P b name) o → Made P b (made_in o)
  in_good P b name None h = made_none P b
  in_good P b name (Some t) h = h.made

  variables_declared_good : (d : ℕ) (ds : List IdentDef) (w : Written) → first_short ds ≡ true → IsGood (276 * d) w → IsPlain d (variables_declared ds w)
  variables_declared_good d ds w n g P u f =
      let name = u.path ++ first_declared ds ++ codes ":" in
      let few = of_all_length ds n in
      let at : length u.path ≡ length P = ap length f.path in
      let e = length-append (u.path ++ first_declared ds) (58 ∷ []) in
      let k = length-append u.path (first_declared ds) in
      let a = length name + 276 * d in
      let b = most (length P) d in
      let t = w.typing u name mark.Hidden false in
      let h = g P u f name mark.Hidden false in
      let made = made_more P a b (omega (arith, few, at, e, k)) (made_in t.node) (in_good P a name t.node h) in
      let v = with_types u (made_in t.node) in
      let rest = variables_good b ds t.node P v (typed_around P b u (made_in t.node) made f) in
      record { contents = part_both b (record no_contents { types = made_in t.node }) (variables_with ds t.node v).part.contents made.short rest.contents; around = rest.around }

  -- ---- in order

  order_good : (d : ℕ) (fs : List (Around → Declared)) → AllByRecursion (IsPlain d) fs → IsPlain d (in_order fs)
  order_good d [] h P u g = record { contents = part_none (most (length P) d); around = g }
  order_good d (f ∷ fs) h P u g =
      let a = h.0 P u g in
      let b = order_good d fs h.1 P (f u).around a.around in
      record { contents = part_both (most (length P) d) (f u).part.contents (in_order fs (f u).around).part.contents a.contents b.contents; around = b.around }

  -- ---- procedures

  pub record IsProcedure (d : ℕ) (p : Written_procedure) : Type 0 where
    pub heading : IsHeading d p.heading
    pub inside : (P : List ℕ) (u : Around) → IsFine P u → (n : ℕ) → length P ≤ n + 195 → IsShortPart (most n d) (p.inside u).contents

  abbrev AreProcedures : ℕ → List Written_procedure → Type 0
  AreProcedures d ps = AllByRecursion (IsProcedure d) ps

  headings_good : (P : List ℕ) (d : ℕ) (ps : List Written_procedure) → AreProcedures d ps → (hs : Heads) → AreInOrder P d hs → AreInOrder P d (headings_in_order ps hs)
  headings_good P d [] g hs h = h
  headings_good P d (p ∷ ps) g hs h = headings_good P d ps g.1 (add_heading hs p.heading p.forward) (add_good P d hs h p.heading g.0.heading p.forward)

  head_types : (P : List ℕ) (b : ℕ) (o : Option Parameters) → IfThere (λ (p : Parameters). Made P b p.made) o → AreSeen (types_of_head o) → AreShort b (types_of_head o)
  head_types P b None h s = tt
  head_types P b (Some p) h s = h.short s

  not_empty : (x : List ℕ) → (x ++ codes "/") ≡ [] → ⊥
  not_empty [] e = absurd cc
  not_empty (c ∷ x) e = absurd cc

  -- of the module at hand
  record IsOfModule (u : Around) : Type 0 where
    unit_is : u.unit ≡ unit
    shown_is : u.shown ≡ shown

  body_around : (u : Around) → IsOfModule u → (h : Head) → IsFine (h.path ++ codes "/") (around_body u h)
  body_around u g h = record { unit_is = g.unit_is; path = refl; shown_is = g.shown_is; known = λ p. absurd (not_empty h.path p); own = λ p. absurd (not_empty h.path p) }

  judged_part : (P : List ℕ) (d : ℕ) (u : Around) → IsOfModule u → (p : Written_procedure) → IsProcedure d p → (h : Head) → IsHead P d h → (forward : Bool) → IsShortPart (most (length P) d) (procedure_judged u p h forward).contents
  judged_part P d u f p g h k true = head_types P (most (length P) d) h.parameters k.parameters
  judged_part P d u f p g h k false = λ s.
      let b = most (length P) d in
      let c = (p.inside (around_body u h)).contents in
      let e = length-append h.path (47 ∷ []) in
      let few = k.path in
      all_both (λ t. length t.name ≤ b) (types_of_head h.parameters) c.types
      (head_types P b h.parameters k.parameters (all_front (λ t. IsSeen types unit t) (types_of_head h.parameters) c.types s))
      (g.inside (h.path ++ codes "/") (around_body u h) (body_around u f h) (length P) (omega (arith, e, few)) (all_back (λ t. IsSeen types unit t) (types_of_head h.parameters) c.types s))

  procedures_good : (P : List ℕ) (d : ℕ) (u : Around) → IsOfModule u → (ps : List Written_procedure) → AreProcedures d ps → (hs : List Head) → AreHeads P d hs → IsShortPart (most (length P) d) (procedures_judged u ps hs).contents
  procedures_good P d u f [] g hs k = part_none (most (length P) d)
  procedures_good P d u f (p ∷ ps) g [] k = part_none (most (length P) d)
  procedures_good P d u f (p ∷ ps) g (h ∷ hs) k = part_both (most (length P) d) (procedure_judged u p h p.forward).contents (procedures_judged u ps hs).contents (judged_part P d u f p g.0 h k.0 p.forward) (procedures_good P d u f ps g.1 hs k.1)

  -- ---- sequences of declarations

  block_part : (P : List ℕ) (d : ℕ) (outer : Around) (ps : List Written_procedure) → AreProcedures d ps → (body : List Judging) (x : Declared) → IsDeclared P (most (length P) d) x → IsShortPart (most (length P) d) (block_declared outer ps body x).contents
  block_part P d outer ps g body x h =
      let b = most (length P) d in
      let start : Heads = record { around = x.around; before = [] } in
      let hs = headings_in_order ps start in
      let k = headings_good P d ps g start (record { around = h.around; before = tt }) in
      let heads = reversed_good (IsHead P d) hs.before k.before in
      let bs = binding_at (is_module_level outer) hs.around (reversed hs.before) in
      let u = with_bound hs.around bs in
      let f : IsOfModule u = record { unit_is = k.around.unit_is; shown_is = k.around.shown_is } in
      let inside = block_inside u ps (reversed hs.before) body in
      let told : Contents = record no_contents { bound = bs.own } in
      let spoken : Contents = record no_contents { body = stmts_in (in_turn body u).node } in
      let kept : IsShortPart b inside.contents = part_both b (procedures_judged u ps (reversed hs.before)).contents spoken (procedures_good P d u f ps g (reversed hs.before) heads) (λ s. tt) in
      part_both b x.part.contents (together no_contents (together told inside.contents)) h.contents
      (part_both b no_contents (together told inside.contents) (part_none b) (part_both b told inside.contents (λ s. tt) kept))

  -- ---- declarations

  abbrev IsDeclaration : ℕ → Declaration → Type 0
  IsDeclaration d (Plain x f) = IsPlain d f
  IsDeclaration d (Procedure p) = IsProcedure d p

  abbrev AreDeclarations : ℕ → List Declaration → Type 0
  AreDeclarations d ds = AllByRecursion (IsDeclaration d) ds

  one_kept : {B : Type 0} (Q : B → Type 0) (o : Option B) (ys : List B) → IfThere Q o → AllByRecursion Q ys → AllByRecursion Q (cons_option o ys)
  one_kept Q None ys h k = k
  one_kept Q (Some y) ys h k = (h, k)

  kept_all : {A B : Type 0} (P : A → Type 0) (Q : B → Type 0) (f : A → Option B) → ((x : A) → P x → IfThere Q (f x)) → (xs : List A) → AllByRecursion P xs → AllByRecursion Q (filter_map f xs)
  kept_all P Q f k [] h = tt
  kept_all P Q f k (x ∷ xs) h = one_kept Q (f x) (filter_map f xs) (k x h.0) (kept_all P Q f k xs h.1)

  plain_good : (d : ℕ) (x : Declaration) → IsDeclaration d x → IfThere (IsPlain d) (plain_of x)
  plain_good d (Plain x f) h = h
  plain_good d (Procedure p) h = tt

  written_procedure_good : (d : ℕ) (x : Declaration) → IsDeclaration d x → IfThere (IsProcedure d) (procedure_of x)
  written_procedure_good d (Plain x f) h = tt
  written_procedure_good d (Procedure p) h = h

  block_good : (d : ℕ) (ds : List Declaration) → AreDeclarations d ds → (body : List Judging) (P : List ℕ) (u : Around) → IsFine P u → IsShortPart (most (length P) d) (block ds body u).contents
  block_good d ds g body P u a =
      let v : Around = record u { later_types = filter_map type_name_of ds } in
      let f : IsFine P v = record { unit_is = a.unit_is; path = a.path; shown_is = a.shown_is; known = a.known; own = a.own } in
      block_part P d u (filter_map procedure_of ds) (kept_all (IsDeclaration d) (IsProcedure d) procedure_of (written_procedure_good d) ds g) body
      (in_order (filter_map plain_of ds) v)
      (order_good d (filter_map plain_of ds) (kept_all (IsDeclaration d) (IsPlain d) plain_of (plain_good d) ds g) P v f)

  -- ---- by induction over declarations

  abbrev PD : Decl → Type 0
  PD x = decl_words x ≡ true → (d : ℕ) → decl_within x d ≡ true → IsDeclaration d (declaration x)

  abbrev SD : Type 0
  SD = (x : Decl) × PD x

  all_of : (xs : List SD) → all_true (map decl_words (map (λ (x : SD). x.0) xs)) ≡ true → (d : ℕ) → all_within (map decl_within (map (λ (x : SD). x.0) xs)) d ≡ true → AreDeclarations d (map declaration (map (λ (x : SD). x.0) xs))
  all_of [] e d w = tt
  all_of (x ∷ xs) e d w =
      let p = and_parts (decl_words x.0) (all_true (map decl_words (map (λ (x : SD). x.0) xs))) e in
      let q = and_parts (decl_within x.0 d) (all_within (map decl_within (map (λ (x : SD). x.0) xs)) d) w in
      (x.1 p.0 d q.0, all_of xs p.1 d q.1)

  layer : (x : Decl-F Decl) → (wo.decl_layer (map-Decl Decl Bool decl_words x) ≡ true → (d : ℕ) → decl_layer (map-Decl Decl Within decl_within x) d ≡ true → IsDeclaration d (decl_rule (map-Decl Decl Declaration declaration x))) → PD (roll-Decl x)
  layer x h e d w = subst (IsDeclaration d) (sym (fold-roll-Decl Declaration decl_rule x)) (h (sym (fold-roll-Decl Bool wo.decl_layer x) ∙ e) d (sym (ap (λ (f : Within). f d) (fold-roll-Decl Within decl_layer x)) ∙ w))

  heading_good : (d e : ℕ) → e ≤ d → (h : Heading) → is_short h.name.ident.name ≡ true → parameters_words h.parameters ≡ true → parameters_within h.parameters e ≡ true → IsHeading d (heading_of h)
  heading_good d e l h n p w = let k = written_parameters_good h.parameters p e w in record { inside = e; below = l; name = n; sections = k.0; few = k.1 }

  procedure_decl_good : (h : Heading) (xs : List SD) (body : List Stmt) (closing : Ident) → parameters_words h.parameters && all_true (map decl_words (map (λ (x : SD). x.0) xs)) ≡ true → (d : ℕ)
      → level (λ e. is_short h.name.ident.name && (parameters_within h.parameters e && all_within (map decl_within (map (λ (x : SD). x.0) xs)) e)) d ≡ true → IsDeclaration d (procedure_declaration (heading_of h) (map declaration (map (λ (x : SD). x.0) xs)) (map judging body) closing)
  procedure_decl_good h xs body closing e zero w = absurd (false≢true w)
  procedure_decl_good h xs body closing e (suc d) w =
      let ds = map declaration (map (λ (x : SD). x.0) xs) in
      let p = and_parts (parameters_words h.parameters) (all_true (map decl_words (map (λ (x : SD). x.0) xs))) e in
      let q = and_parts (is_short h.name.ident.name) (parameters_within h.parameters d && all_within (map decl_within (map (λ (x : SD). x.0) xs)) d) w in
      let r = and_parts (parameters_within h.parameters d) (all_within (map decl_within (map (λ (x : SD). x.0) xs)) d) q.1 in
      record {
        heading = heading_good (suc d) d (omega arith) h q.0 p.0 r.0;
        inside = λ P u f n l s. short_more (most (length P) d) (most n (suc d)) (omega (arith, l)) (block ds (map judging body) u).contents.types (block_good d ds (all_of xs p.1 d r.1) (map judging body) P u f s);
      }

  decl_cases : (y : Decl-F SD) → PD (roll-Decl (map-Decl SD Decl (λ x. x.0) y))
  decl_cases (Decl-F.Constant i x) = layer (Decl-F.Constant i x) (λ e d w. constant_good d i (phrase_of x))
  decl_cases (Decl-F.NamedType i n) = layer (Decl-F.NamedType i n) (λ e d w.
      let p = and_parts (is_word i.ident.name) (type_words n) e in
      let q = and_parts (is_short i.ident.name) (type_within n d) w in
      type_good d i (written n) q.0 (written_good n p.1 d q.1))
  decl_cases (Decl-F.Variables is n) = layer (Decl-F.Variables is n) (λ e d w.
      let p = and_parts (are_words (map (λ (d : IdentDef). d.ident.name) is)) (type_words n) e in
      let q = and_parts (first_short is) (type_within n d) w in
      variables_declared_good d is (written n) q.0 (written_good n p.1 d q.1).typing)
  decl_cases (Decl-F.Procedure h ds body closing) = layer (Decl-F.Procedure h (map (λ (x : SD). x.0) ds) body closing) (λ e d w.
      procedure_decl_good h ds body closing (and_parts (is_word h.name.ident.name) (parameters_words h.parameters && all_true (map decl_words (map (λ (x : SD). x.0) ds))) e).1 d w)
  decl_cases (Decl-F.Forward h) = layer (Decl-F.Forward h) (λ e d w.
      let p = and_parts (is_word h.name.ident.name) (parameters_words h.parameters) e in
      let q = and_parts (is_short h.name.ident.name) (parameters_within h.parameters d) w in
      record { heading = heading_good d d (omega arith) h q.0 p.1 q.1; inside = λ P u f n l s. tt })

  decl_good : (x : Decl) → PD x
  decl_good = ind-Decl PD (λ x y is. subst (λ z. PD (roll-Decl z)) is (decl_cases y))

  pub decls_good : (d : ℕ) (xs : List Decl) → all_true (map decl_words xs) ≡ true → all_within (map decl_within xs) d ≡ true → AreDeclarations d (map declaration xs)
  decls_good d [] e w = tt
  decls_good d (x ∷ xs) e w =
      let p = and_parts (decl_words x) (all_true (map decl_words xs)) e in
      let q = and_parts (decl_within x d) (all_within (map decl_within xs) d) w in
      (decl_good x p.0 d q.0, decls_good d xs p.1 q.1)

  -- ---- a module

  imported_fine : (P : List ℕ) (b : Bool) (t : Ident) → EntityFine P (import_entity b t)
  imported_fine P true t = λ p. tt
  imported_fine P false t = λ p. tt

  import_good : (d : ℕ) (i : Import) (t : Ident) → IsPlain d (import_declared i t)
  import_good d i t P u g = record { contents = part_none (most (length P) d); around = name_declared P u g i.ident (import_entity (is_system t.name) t) (imported_fine P (is_system t.name) t) }

  imports_good : (d : ℕ) (is : List Import) → AllByRecursion (IsPlain d) (map (λ i. import_declared i (target_in_import i)) is)
  imports_good d [] = tt
  imports_good d (i ∷ is) = (import_good d i (target_in_import i), imports_good d is)

  predeclared_short : AllByRecursion KnownShort predeclared
  predeclared_short = (tt, (tt, (tt, (tt, (tt, (tt, (tt, (tt, (tt, (tt, (tt, (tt, (tt, (tt, (tt, (tt, (tt, (tt, (tt, (tt, (tt, (tt, (tt, (tt, (tt, (tt, (tt, (tt, (tt, (tt, (tt, tt)))))))))))))))))))))))))))))))

  pub module_good : (name : Ident) → name.name ≡ unit → (imports : List Import) (ds : List Declaration) → AreDeclarations 200 ds → (body : List Judging) (closing : Ident) → IsShortPart (most 0 200) (module_of shown name imports ds body closing).contents
  module_good name n imports ds g body closing =
      let b = most 0 200 in
      let u = around_module shown name.name ds in
      let f : IsFine [] u = record { unit_is = n; path = refl; shown_is = refl; known = λ p. predeclared_short; own = λ p. tt } in
      let x = imports_declared imports u in
      let k = order_good 200 (map (λ i. import_declared i (target_in_import i)) imports) (imports_good 200 imports) [] u f in
      part_both b no_contents (together x.part.contents (block ds body x.around).contents) (part_none b) (part_both b x.part.contents (block ds body x.around).contents k.contents (block_good 200 ds g body [] x.around k.around))
