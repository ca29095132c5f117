-- The types that a written type makes are over those that are known by names: what an alias is equated to is one of these, and so is the base of
-- a record.
use Rattle.std.proofs.Common.{◌≡◌, refl, sym, ap, subst, ℕ, ◌+◌, Bool, true, false, List, [], ◌∷◌, length, map, Option, Some, None}
use Rattle.std.specs.Prelude.{is_none, is_some}
use Rattle.std.specs.List.{AllByRecursion}
use Rattle.ob_tree.specs.declared.pos.Pos.{Pos}
use Rattle.ob_tree.specs.declared.names.QName.{QName}
use Rattle.ob_tree.specs.declared.ident.Ident.{Ident}
use Rattle.ob_tree.specs.declared.ident.IdentDef.{IdentDef}
use Rattle.ob_tree.specs.declared.ident.Mark.{Mark}
use Rattle.ob_tree.specs.declared.ident.Mark.TheVariants as mark
use Rattle.ob_tree.specs.declared.ident.Qualident.{Qualident}
use Rattle.ob_tree.specs.declared.type_node.TypeNode.{TypeNode, roll-TypeNode, map-TypeNode}
use Rattle.ob_tree.specs.declared.type_node.FieldList.{FieldList, roll-FieldList, map-FieldList}
use Rattle.ob_tree.specs.declared.type_node.FormalPars.{FormalPars, roll-FormalPars, map-FormalPars}
use Rattle.ob_tree.specs.declared.type_node.Section.{Section, roll-Section, map-Section}
use Rattle.ob_tree.specs.declared.type_node.TypeNode.TheOpen.{TypeNode-F, FieldList-F, FormalPars-F, Section-F}
use Rattle.ob_tree.specs.declared.type_node.TypeNode.TheFolds.{fold-FieldList, fold-Section, ind-TypeNode, ind-FormalPars, fold-roll-TypeNode, fold-roll-FieldList, fold-roll-FormalPars, fold-roll-Section}
use Rattle.ob_types.specs.declared.types.Mode.{Mode}
use Rattle.ob_types.specs.declared.types.TypeRef.{TypeRef}
use Rattle.ob_types.specs.declared.value.Value.{Value}
use Rattle.ob_types.specs.declared.desc.Desc.{Desc}
use Rattle.ob_types.specs.declared.desc.Desc.TheVariants as desc
use Rattle.ob_types.specs.declared.typed.TypedType.{TypedType}
use Rattle.ob_rules.specs.declared.entity.Entity.{Entity}
use Rattle.ob_rules.specs.declared.entity.Entity.TheVariants as entity
use Rattle.ob_rules.specs.declared.entity.Known.{Known}
use Rattle.ob_rules.specs.declared.broken.Rule.TheVariants as rule
use Rattle.ob_rules.specs.Judged.{Judged, sound, wants, both, made, ◌▷◌, each_sound, behind_quiet}
use Rattle.ob_rules.specs.Shapes.{Map, record_of, is_structured, is_pointer}
use Rattle.ob_rules.specs.Names.{Around, map_of, find_name, entity_known, type_of_entity, unless_variable_is, unless_variable, type_in, type_behind, type_by, type_named, is_out}
use Rattle.ob_rules.specs.Phrases.{Phrase}
use Rattle.ob_rules.specs.Expressions.{phrase_of}
use Rattle.ob_rules.specs.Types.{Typing, Written, typed_as, with_types, base_name, element_name, field_name, section_name, named_typing, array_length, fixed_array, array, first_of, base_of, base_if, fields_of, WrittenFields, first_name, names_behind, Fields, with_fields, fields_joined, field_lists, record_desc, record_with, pointer_to, base_judged, pointer_base, pointer_by, is_later, WrittenSection, WrittenParameters, Parameters, parameter_as, mode_of, declare_all, knows, parameters_of, with_made, sections, result_of, with_result, parameters_in, procedure_type, inner, node_rule, fields_rule, section_rule, parameters_rule, written, written_parameters}
use Rattle.law_methods_described.proofs.Nodes.{Has, then_has, both_have, first_has, second_has, also_has, unless_has, quiet_has}
use Rattle.law_typing.specs.Makes.{IfThere}
use Rattle.law_body_context.specs.Knows.{Stands, EntityStands}
use Rattle.law_body_context.specs.Order.{IsFresh, IsBased, IsOver}
use Rattle.law_body_context.proofs.Lists.{there_of}
use Rattle.law_body_context.proofs.Named.{type_named_stands}
use Rattle.law_body_context.proofs.Typings.{AreOver, TypingOver, KnownOver, IsWellOver, AreWellOver}
use Rattle.law_lists.proofs.Lists.{all_both}

-- names do not hang on the types that stand around
entity_own : (u : Around) (start : List TypedType) (x : Ident) (k : Known) (e : Entity) (f : Entity → Judged TypeRef) → unless_variable_is (record u { own = start }) x k e f ≡ unless_variable_is u x k e f
entity_own u start x k (entity.Variable v t) f = refl
entity_own u start x k (entity.Constant v) f = refl
entity_own u start x k (entity.TypeName t) f = refl
entity_own u start x k (entity.Procedure q s) f = refl
entity_own u start x k (entity.Forward q s) f = refl
entity_own u start x k (entity.Module n) f = refl
entity_own u start x k (entity.Predeclared p) f = refl
entity_own u start x k entity.LeftOut f = refl
entity_own u start x k entity.Unsound f = refl

behind_own : (u : Around) (start : List TypedType) (m x : Ident) (e : Entity) → type_behind (record u { own = start }) m x e ≡ type_behind u m x e
behind_own u start m x (entity.Module n) = by (is_out n)
  where
    by : (b : Bool) → type_in b (record u { own = start }) n x ≡ type_in b u n x
    by true = refl
    by false = refl
behind_own u start m x (entity.Variable v t) = refl
behind_own u start m x (entity.Constant v) = refl
behind_own u start m x (entity.TypeName t) = refl
behind_own u start m x (entity.Procedure q s) = refl
behind_own u start m x (entity.Forward q s) = refl
behind_own u start m x (entity.Predeclared p) = refl
behind_own u start m x entity.LeftOut = refl
behind_own u start m x entity.Unsound = refl

-- the entity behind a module's name is asked for alike
module_own : (u : Around) (start : List TypedType) (m x : Ident) (k : Known) (e : Entity) → unless_variable_is (record u { own = start }) m k e (type_behind (record u { own = start }) m x) ≡ unless_variable_is u m k e (type_behind u m x)
module_own u start m x k (entity.Module n) = ap (λ j. entity_known u m.pos k.scope (entity.Module n) ▷ j) (λ i e. behind_own u start m x e i)
module_own u start m x k (entity.Variable v t) = refl
module_own u start m x k (entity.Constant v) = refl
module_own u start m x k (entity.TypeName t) = refl
module_own u start m x k (entity.Procedure q s) = refl
module_own u start m x k (entity.Forward q s) = refl
module_own u start m x k (entity.Predeclared p) = refl
module_own u start m x k entity.LeftOut = refl
module_own u start m x k entity.Unsound = refl

named_own : (u : Around) (start : List TypedType) (q : Qualident) → type_named (record u { own = start }) q ≡ type_named u q
named_own u start q = by q.qualifier
  where
    plain : (o : Option Known) → unless_variable (record u { own = start }) q.ident o (type_of_entity q.ident.pos) ≡ unless_variable u q.ident o (type_of_entity q.ident.pos)
    plain None = refl
    plain (Some k) = entity_own u start q.ident k k.what (type_of_entity q.ident.pos)

    behind : (m : Ident) (o : Option Known) → unless_variable (record u { own = start }) m o (type_behind (record u { own = start }) m q.ident) ≡ unless_variable u m o (type_behind u m q.ident)
    behind m None = refl
    behind m (Some k) = module_own u start m q.ident k k.what

    by : (o : Option Ident) → type_by (record u { own = start }) o q.ident ≡ type_by u o q.ident
    by None = plain (find_name u.known q.ident.name)
    by (Some m) = behind m (find_name u.known m.name)

module _ (IsConstant : Value → Type 0) (unit : List ℕ) (shown : QName → Option Desc) (out : is_out unit ≡ false) where
  abbrev S : List TypedType → TypeRef → Type 0
  S start t = Stands unit shown start t

  abbrev O : List TypedType → List TypedType → Type 0
  O start ts = AreOver IsConstant unit shown out start ts

  abbrev T : List TypedType → Bool → Typing → Type 0
  T start named t = TypingOver IsConstant unit shown out start named t

  abbrev L : List TypedType → Around → Type 0
  L start u = KnownOver IsConstant unit shown out start u

  abbrev W : Written → Type 0
  W w = IsWellOver IsConstant unit shown out w

  name_stands : (start : List TypedType) (u : Around) → L start u → (q : Qualident) → Has (S start) (type_named u q)
  name_stands start u k q = subst (Has (S start)) (named_own u start q) (type_named_stands IsConstant unit shown (record u { own = start }) k q)

  -- one that is made with a name
  as_over : (start : List TypedType) (u : Around) (name : List ℕ) (d : Desc) (more : List TypedType) → IsBased (S start) d → IsFresh d → O start more → T start false (typed_as u name d more)
  as_over start u name d more h f g = record { made = (record { based = h; fresh = f }, g); of = λ e. absurd cc }

  pub name_over : (start : List TypedType) (q : Qualident) (u : Around) → L start u → (open_ok : Bool) → Has (T start true) (type_named u q ▷ named_typing u (first_of q) open_ok)
  name_over start q u k open_ok = then_has (S start) (T start true) (type_named u q) (named_typing u (first_of q) open_ok) (name_stands start u k q) (λ t h. unless_has (T start true) _ rule.MisplacedOpenArray (first_of q) _ (record { made = tt; of = λ e. h }))

  any_name : (start : List TypedType) (b : Bool) (t : Typing) → T start b t → T start false t
  any_name start b t h = record { made = h.made; of = λ e. absurd cc }

  weaker : (start : List TypedType) (b : Bool) (j : Judged Typing) → Has (T start b) j → Has (T start false) j
  weaker start b j h = there_of (T start b) (T start false) j.node (any_name start b) h

  -- ARRAYS

  fixed_over : (ls : List Phrase) (element : Written) → W element → (start : List TypedType) (u : Around) → L start u → (name : List ℕ) (m : Mark) → Has (T start false) (fixed_array u name m ls element)
  fixed_over [] element g start u k name m = weaker start (is_some element.name) (element.typing u name m false) (g start u k name m false)
  fixed_over (l ∷ ls) element g start u k name m =
      then_has (λ p. Unit {0} × T start false p.1) (T start false) (both (array_length u l) (fixed_array u (element_name name) mark.Hidden ls element)) (λ p. sound (typed_as u name (desc.Array m p.0 p.1.of) p.1.made))
      (second_has (T start false) (array_length u l) (fixed_array u (element_name name) mark.Hidden ls element) (fixed_over ls element g start u k (element_name name) mark.Hidden))
      (λ p h. as_over start u name (desc.Array m p.0 p.1.of) p.1.made tt tt h.1.made)

  array_over : (ls : List Phrase) (at : Pos) (element : Written) → W element → (start : List TypedType) (u : Around) → L start u → (name : List ℕ) (m : Mark) (open_ok : Bool) → Has (T start false) (array u name m at open_ok ls element)
  array_over [] at element g start u k name m open_ok =
      also_has (T start false) _ rule.MisplacedOpenArray at _
      (then_has (T start (is_some element.name)) (T start false) (element.typing u (element_name name) mark.Hidden element.open_array) (λ t. sound (typed_as u name (desc.OpenArray m t.of) t.made)) (g start u k (element_name name) mark.Hidden element.open_array) (λ t h. as_over start u name (desc.OpenArray m t.of) t.made tt tt h.made))
  array_over (l ∷ ls) at element g start u k name m open_ok = fixed_over (l ∷ ls) element g start u k name m

  -- RECORDS

  abbrev F : List TypedType → Fields → Type 0
  F start f = O start f.made

  fields_over : (start : List TypedType) (b : Bool) (u : Around) (base : Option (Option TypeRef)) (before : List (List ℕ)) (ds : List IdentDef) (t : Judged Typing) → Has (T start b) t → Has (F start) (with_fields u base before ds t)
  fields_over start b u base before ds t g =
      then_has (λ p. T start b p.0 × Unit {0}) (F start) (both t (each_sound (fields_of u base before ds t.node))) (λ p. sound (record { fields = p.1; made = p.0.made }))
      (first_has (T start b) t (each_sound (fields_of u base before ds t.node)) g) (λ p h. h.0.made)

  lists_over : (ls : List WrittenFields) → AreWellOver IsConstant unit shown out ls → (start : List TypedType) (u : Around) → L start u → (name : List ℕ) (base : Option (Option TypeRef)) (before : List (List ℕ)) → Has (F start) (field_lists u name base before ls)
  lists_over [] g start u k name base before = tt
  lists_over (l ∷ ls) g start u k name base before =
      let a = with_fields u base before l.names (l.node.typing u (field_name name (first_name l.names)) mark.Hidden false) in
      let b = field_lists u name base (names_behind l.names before) ls in
      then_has (λ (p : Fields × Fields). F start p.0 × F start p.1) (F start) (both a b) (λ p. sound (fields_joined p.0 p.1))
      (both_have (F start) (F start) a b (fields_over start (is_some l.node.name) u base before l.names (l.node.typing u (field_name name (first_name l.names)) mark.Hidden false) (g.0 start u k (field_name name (first_name l.names)) mark.Hidden false)) (lists_over ls g.1 start u k name base (names_behind l.names before)))
      (λ p h. all_both (IsOver (S start)) p.0.made p.1.made h.0 h.1)

  base_over : (start : List TypedType) (map : Map) (at : Pos) (t : TypeRef) → S start t → Has (S start) (base_of map at t)
  base_over start map at t h = by (is_some (record_of map t))
    where
      by : (b : Bool) → Has (S start) (wants b rule.UnfitBase at t)
      by true = h
      by false = tt

  base_stands : (start : List TypedType) (u : Around) → L start u → (o : Option Qualident) → Has (IfThere (S start)) (base_if u o)
  base_stands start u k None = tt
  base_stands start u k (Some q) =
      then_has (S start) (IfThere (S start)) (type_named u q ▷ base_of (map_of u) (first_of q)) (λ t. sound (Some t))
      (then_has (S start) (S start) (type_named u q) (base_of (map_of u) (first_of q)) (name_stands start u k q) (λ t h. base_over start (map_of u) (first_of q) t h)) (λ t h. h)

  record_over : (start : List TypedType) (u : Around) → L start u → (name : List ℕ) (m : Mark) (lists : List WrittenFields) → AreWellOver IsConstant unit shown out lists → (o : Option Qualident) → Has (T start false) (record_with u name m lists (base_if u o))
  record_over start u k name m lists g o =
      let base = base_if u o in
      then_has (λ (p : Option TypeRef × Fields). IfThere (S start) p.0 × F start p.1) (T start false) (both base (field_lists u name base.node [] lists)) (λ p. sound (typed_as u name (record_desc m p.0 p.1.fields) p.1.made))
      (both_have (IfThere (S start)) (F start) base (field_lists u name base.node [] lists) (base_stands start u k o) (lists_over lists g start u k name base.node []))
      (λ p h. as_over start u name (record_desc m p.0 p.1.fields) p.1.made h.0 refl h.1)

  -- POINTERS

  judged_over : (start : List TypedType) (c : Bool) (name : List ℕ) (inline : Bool) (at : Pos) (s p : Bool) (t : Typing) → T start c t → Has (T start c) (base_judged name inline at s p t)
  judged_over start c name inline at true p t h = h
  judged_over start c name inline at false true t h = h
  judged_over start c name inline at false false t h = tt

  pointer_over : (start : List TypedType) (u : Around) → L start u → (name : List ℕ) (m : Mark) (base : Written) → W base → (o : Option Ident) → Has (T start false) (pointer_by u name m base o)
  pointer_over start u k name m base g (Some x) = as_over start u name _ [] tt tt tt
  pointer_over start u k name m base g None =
      let c = is_some base.name in
      then_has (T start c) (T start false) (base.typing u (base_name name) mark.Hidden true ▷ pointer_base u name (is_none base.name) base.start) (λ t. sound (pointer_to u name m t))
      (then_has (T start c) (T start c) (base.typing u (base_name name) mark.Hidden true) (pointer_base u name (is_none base.name) base.start) (g start u k (base_name name) mark.Hidden true)
      (λ t h. judged_over start c name (is_none base.name) base.start (is_structured (map_of (with_types u t.made)) t.of) (is_pointer (map_of (with_types u t.made)) t.of) t h))
      (λ t h. as_over start u name (desc.Pointer m t.of) t.made tt tt h.made)

  -- PARAMETERS

  abbrev pub AreSectionsOver : List WrittenSection → Type 0
  AreSectionsOver ss = AllByRecursion (λ s. W s.node) ss

  abbrev pub ParametersOver : List TypedType → Parameters → Type 0
  ParametersOver start p = O start p.made

  parameter_known : (u v : Around) (m : Mode) (x : Ident) (o : Option Typing) (own : List TypedType) → EntityStands IsConstant unit shown own (parameter_as u m x o)
  parameter_known u v m x None own = tt
  parameter_known u v m x (Some t) own = tt

  all_known : (start : List TypedType) (xs : List Ident) (m : Mode) (o : Option Typing) (u : Around) → L start u → L start (declare_all u m o xs).around
  all_known start [] m o u k = k
  all_known start (x ∷ xs) m o u k = all_known start xs m o (knows u x (parameter_as u m x o)) (record { unit_is = k.unit_is; shown_is = k.shown_is; own = k.own; known = (parameter_known u u m x o start, k.known) })

  made_over : (start : List TypedType) (u : Around) (o : Option Typing) → L start u → L start (with_made u o)
  made_over start u None k = k
  made_over start u (Some t) k = record { unit_is = k.unit_is; shown_is = k.shown_is; own = k.own; known = k.known }

  sections_over : (ss : List WrittenSection) → AreSectionsOver ss → (start : List TypedType) (u : Around) → L start u → (name : List ℕ) (i : ℕ) → Has (ParametersOver start) (sections u name i ss).found
  sections_over [] g start u k name i = tt
  sections_over (s ∷ ss) g start u k name i =
      let t = s.node.typing u (section_name name i) mark.Hidden true in
      let n = declare_all u (mode_of s.is_var) t.node s.names in
      let v = with_made n.around t.node in
      let rest = (sections v name (i + length s.names) ss).found in
      let mine : Judged Parameters = made (parameters_of u (mode_of s.is_var) s.names) t in
      let c = is_some s.node.name in
      then_has (λ (p : Parameters × Parameters). ParametersOver start p.0 × ParametersOver start p.1) (ParametersOver start) (both (behind_quiet n.notes mine) rest) _
      (both_have (ParametersOver start) (ParametersOver start) (behind_quiet n.notes mine) rest (quiet_has (ParametersOver start) n.notes mine (then_has (T start c) (ParametersOver start) t (λ x. sound (parameters_of u (mode_of s.is_var) s.names x)) (g.0 start u k (section_name name i) mark.Hidden true) (λ x h. h.made))) (sections_over ss g.1 start v (made_over start n.around t.node (all_known start s.names (mode_of s.is_var) t.node u k)) name (i + length s.names)))
      (λ p h. all_both (IsOver (S start)) p.0.made p.1.made h.0 h.1)

  pub parameters_over : (start : List TypedType) (u : Around) → L start u → (name : List ℕ) (p : WrittenParameters) → AreSectionsOver p.sections → Has (ParametersOver start) (parameters_in u name p).found
  parameters_over start u k name p g =
      let s = sections u name 1 p.sections in
      then_has (λ (q : Parameters × Option TypeRef). ParametersOver start q.0 × Unit {0}) (ParametersOver start) (both s.found (result_of (record u { known = s.known }) p.result)) (λ q. sound (with_result q.0 q.1))
      (first_has (ParametersOver start) s.found (result_of (record u { known = s.known }) p.result) (sections_over p.sections g start u k name 1)) (λ q h. h.0)

  inner_over : (start : List TypedType) (u : Around) → L start u → L start (inner u)
  inner_over start u k = record { unit_is = k.unit_is; shown_is = k.shown_is; own = k.own; known = k.known }

  type_over : (start : List TypedType) (u : Around) → L start u → (name : List ℕ) (m : Mark) (p : WrittenParameters) → AreSectionsOver p.sections → Has (T start false) (procedure_type u name m p)
  type_over start u k name m p g =
      then_has (ParametersOver start) (T start false) (parameters_in (inner u) name p).found (λ q. sound (typed_as u name (desc.ProcType m q.signature) q.made)) (parameters_over start (inner u) (inner_over start u k) name p g)
      (λ q h. as_over start u name (desc.ProcType m q.signature) q.made tt tt h)

  -- BY INDUCTION OVER TYPES

  abbrev written_fields : FieldList → WrittenFields
  written_fields = fold-FieldList Written WrittenFields WrittenParameters WrittenSection node_rule fields_rule parameters_rule section_rule

  abbrev written_section : Section → WrittenSection
  written_section = fold-Section Written WrittenFields WrittenParameters WrittenSection node_rule fields_rule parameters_rule section_rule

  abbrev PN : TypeNode → Type 0
  PN x = W (written x)

  abbrev PF : FieldList → Type 0
  PF x = W (written_fields x).node

  abbrev PP : FormalPars → Type 0
  PP x = AreSectionsOver (written_parameters x).sections

  abbrev PS : Section → Type 0
  PS x = W (written_section x).node

  abbrev SN : Type 0
  SN = (x : TypeNode) × PN x

  abbrev SF : Type 0
  SF = (x : FieldList) × PF x

  abbrev SP : Type 0
  SP = (x : FormalPars) × PP x

  abbrev SS : Type 0
  SS = (x : Section) × PS x

  fields_are : (xs : List SF) → AreWellOver IsConstant unit shown out (map written_fields (map (λ (x : SF). x.0) xs))
  fields_are [] = tt
  fields_are (x ∷ xs) = (x.1, fields_are xs)

  sections_are : (xs : List SS) → AreSectionsOver (map written_section (map (λ (x : SS). x.0) xs))
  sections_are [] = tt
  sections_are (x ∷ xs) = (x.1, sections_are xs)

  node_part : (x : TypeNode-F TypeNode FieldList FormalPars Section) → W (node_rule (map-TypeNode TypeNode FieldList FormalPars Section Written WrittenFields WrittenParameters WrittenSection written written_fields written_parameters written_section x)) → PN (roll-TypeNode x)
  node_part x h = subst W (sym (fold-roll-TypeNode Written WrittenFields WrittenParameters WrittenSection node_rule fields_rule parameters_rule section_rule x)) h

  node_cases : (y : TypeNode-F SN SF SP SS) → PN (roll-TypeNode (map-TypeNode SN SF SP SS TypeNode FieldList FormalPars Section (λ x. x.0) (λ x. x.0) (λ x. x.0) (λ x. x.0) y))
  node_cases (TypeNode-F.Named q) = node_part (TypeNode-F.Named q) (λ start u k name m ok. name_over start q u k ok)
  node_cases (TypeNode-F.Array at ls t) = node_part (TypeNode-F.Array at ls t.0) (λ start u k name m ok. array_over (map phrase_of ls) at (written t.0) t.1 start u k name m ok)
  node_cases (TypeNode-F.Record at base ls) = node_part (TypeNode-F.Record at base (map (λ (x : SF). x.0) ls)) (λ start u k name m ok. record_over start u k name m (map written_fields (map (λ (x : SF). x.0) ls)) (fields_are ls) base)
  node_cases (TypeNode-F.Pointer at b) = node_part (TypeNode-F.Pointer at b.0) (λ start u k name m ok. pointer_over start u k name m (written b.0) b.1 (is_later u (written b.0).name))
  node_cases (TypeNode-F.Procedure at p) = node_part (TypeNode-F.Procedure at p.0) (λ start u k name m ok. type_over start u k name m (written_parameters p.0) p.1)

  fields_cases : (y : FieldList-F SN SF SP SS) → PF (roll-FieldList (map-FieldList SN SF SP SS TypeNode FieldList FormalPars Section (λ x. x.0) (λ x. x.0) (λ x. x.0) (λ x. x.0) y))
  fields_cases y =
      let x = map-FieldList SN SF SP SS TypeNode FieldList FormalPars Section (λ x. x.0) (λ x. x.0) (λ x. x.0) (λ x. x.0) y in
      subst (λ (f : WrittenFields). W f.node) (sym (fold-roll-FieldList Written WrittenFields WrittenParameters WrittenSection node_rule fields_rule parameters_rule section_rule x)) y.node.1

  parameters_cases : (y : FormalPars-F SN SF SP SS) → PP (roll-FormalPars (map-FormalPars SN SF SP SS TypeNode FieldList FormalPars Section (λ x. x.0) (λ x. x.0) (λ x. x.0) (λ x. x.0) y))
  parameters_cases y =
      let x = map-FormalPars SN SF SP SS TypeNode FieldList FormalPars Section (λ x. x.0) (λ x. x.0) (λ x. x.0) (λ x. x.0) y in
      subst (λ (p : WrittenParameters). AreSectionsOver p.sections) (sym (fold-roll-FormalPars Written WrittenFields WrittenParameters WrittenSection node_rule fields_rule parameters_rule section_rule x)) (sections_are y.sections)

  section_cases : (y : Section-F SN SF SP SS) → PS (roll-Section (map-Section SN SF SP SS TypeNode FieldList FormalPars Section (λ x. x.0) (λ x. x.0) (λ x. x.0) (λ x. x.0) y))
  section_cases y =
      let x = map-Section SN SF SP SS TypeNode FieldList FormalPars Section (λ x. x.0) (λ x. x.0) (λ x. x.0) (λ x. x.0) y in
      subst (λ (s : WrittenSection). W s.node) (sym (fold-roll-Section Written WrittenFields WrittenParameters WrittenSection node_rule fields_rule parameters_rule section_rule x)) y.node.1

  pub written_over : (x : TypeNode) → PN x
  written_over = ind-TypeNode PN PF PP PS (λ x y is. subst (λ z. PN (roll-TypeNode z)) is (node_cases y)) (λ x y is. subst (λ z. PF (roll-FieldList z)) is (fields_cases y)) (λ x y is. subst (λ z. PP (roll-FormalPars z)) is (parameters_cases y)) (λ x y is. subst (λ z. PS (roll-Section z)) is (section_cases y))

  pub written_parameters_over : (x : FormalPars) → PP x
  written_parameters_over = ind-FormalPars PN PF PP PS (λ x y is. subst (λ z. PN (roll-TypeNode z)) is (node_cases y)) (λ x y is. subst (λ z. PF (roll-FieldList z)) is (fields_cases y)) (λ x y is. subst (λ z. PP (roll-FormalPars z)) is (parameters_cases y)) (λ x y is. subst (λ z. PS (roll-Section z)) is (section_cases y))
