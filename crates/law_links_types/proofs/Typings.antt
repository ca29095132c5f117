-- The records that a written type makes have bases of record types.
use Rattle.std.proofs.Common.{◌≡◌, ℕ, ◌+◌, Bool, true, false, List, [], ◌∷◌, ◌++◌, length, Option, Some, None, refl, subst}
use Rattle.std.specs.Prelude.{is_none, is_some}
use Rattle.std.specs.List.{AllByRecursion}
use Rattle.ob_tree.specs.declared.pos.Pos.{Pos}
use Rattle.ob_tree.specs.declared.ident.Ident.{Ident}
use Rattle.ob_tree.specs.declared.ident.IdentDef.{IdentDef}
use Rattle.ob_tree.specs.declared.ident.Mark.{Mark}
use Rattle.ob_tree.specs.declared.ident.Mark.TheVariants as mark
use Rattle.ob_tree.specs.declared.ident.Qualident.{Qualident}
use Rattle.ob_types.specs.declared.types.Mode.{Mode}
use Rattle.ob_types.specs.declared.types.TypeRef.{TypeRef}
use Rattle.ob_types.specs.declared.types.TypeRef.TheVariants as ref
use Rattle.ob_types.specs.declared.desc.Desc.TheVariants as desc
use Rattle.ob_types.specs.declared.desc.Field.{Field}
use Rattle.ob_types.specs.declared.typed.TypedType.{TypedType}
use Rattle.ob_rules.specs.declared.notes.Later.TheVariants as later
use Rattle.ob_rules.specs.declared.broken.Rule.TheVariants as rule
use Rattle.ob_rules.specs.Judged.{Judged, if_sound, paired, sound, both, each_sound, ◌▷◌, is_quiet, if_quiet}
use Rattle.ob_rules.specs.Names.{Around, map_of, in_unit, type_named}
use Rattle.ob_rules.specs.Phrases.{Phrase}
use Rattle.ob_rules.specs.Shapes.{record_of, is_structured, is_pointer}
use Rattle.ob_rules.specs.Types.{Typing, Written, typed_as, with_types, base_name, element_name, field_name, section_name, base_of, base_if, fields_joined, named_typing, array_length, fixed_array, array, first_of, names_behind, WrittenFields, first_name, Fields, fields_of, with_fields, field_lists, record_with, record_desc, pointer_to, base_judged, pointer_base, pointer_by, Parameters, WrittenSection, WrittenParameters, mode_of, knows, parameter_as, declare_all, parameters_of, parameters_joined, with_made, sections, result_of, with_result, parameters_in, inner, procedure_type}
use Rattle.law_links_types.specs.Trees.{BaseRecorded, TypeRecorded}
use Rattle.law_links_types.proofs.Setting.{Setting, HasType, Stands, one_stands, Keeps, any_keeps, then_keeps, both_keep, made_keeps, unless_keeps, wants_so, also_keeps, later_keeps}
use Rattle.law_links_types.proofs.Calls.{stands_if}
use Rattle.law_lists.proofs.Lists.{Anything, IfThere, all_back, all_both, all_front}

abbrev pub Have : Setting → List TypedType → Type 0
Have k ts = AllByRecursion (HasType k) ts

abbrev pub AreMade : Setting → List TypedType → Type 0
AreMade k ts = AllByRecursion (λ (t : TypedType). TypeRecorded k.types k.unit t.desc) ts

-- types that are the module's have such bases
abbrev pub MakesOk : Setting → List TypedType → Type 0
MakesOk k ts = Have k ts → AreMade k ts

makes_both : (k : Setting) (xs ys : List TypedType) → MakesOk k xs → MakesOk k ys → MakesOk k (xs ++ ys)
makes_both k xs ys f g h = all_both (λ (t : TypedType). TypeRecorded k.types k.unit t.desc) xs ys (f (all_front (HasType k) xs ys h)) (g (all_back (HasType k) xs ys h))

abbrev pub TypingOk : Setting → Typing → Type 0
TypingOk k t = MakesOk k t.made

abbrev pub IsGood : Setting → Written → Type 0
IsGood k w = (u : Around) → Stands k u → (name : List ℕ) (m : Mark) (open_ok : Bool) → Keeps k (TypingOk k) (w.typing u name m open_ok)

abbrev pub AreGoodFields : Setting → List WrittenFields → Type 0
AreGoodFields k ls = AllByRecursion (λ (l : WrittenFields). IsGood k l.node) ls

abbrev pub AreGoodSections : Setting → List WrittenSection → Type 0
AreGoodSections k ss = AllByRecursion (λ (s : WrittenSection). IsGood k s.node) ss

-- ---- names and arrays

pub name_good : (k : Setting) (q : Qualident) (u : Around) (open_ok : Bool) → Keeps k (TypingOk k) (type_named u q ▷ named_typing u (first_of q) open_ok)
name_good k q u open_ok = then_keeps k Anything (TypingOk k) (type_named u q) (named_typing u (first_of q) open_ok) (any_keeps k (type_named u q)) (λ t h. unless_keeps k (TypingOk k) _ rule.MisplacedOpenArray (first_of q) _ (λ i. tt))

fixed_good : (k : Setting) (ls : List Phrase) (element : Written) → IsGood k element → (u : Around) → Stands k u → (name : List ℕ) (m : Mark) → Keeps k (TypingOk k) (fixed_array u name m ls element)
fixed_good k [] element g u s name m = g u s name m false
fixed_good k (l ∷ ls) element g u s name m =
    then_keeps k (λ (p : ℕ × Typing). Unit {0} × TypingOk k p.1) (TypingOk k) (both (array_length u l) (fixed_array u (element_name name) mark.Hidden ls element)) (λ p. sound (typed_as u name (desc.Array m p.0 p.1.of) p.1.made))
    (both_keep k Anything (TypingOk k) (array_length u l) (fixed_array u (element_name name) mark.Hidden ls element) (any_keeps k (array_length u l)) (fixed_good k ls element g u s (element_name name) mark.Hidden))
    (λ p h. λ i. (tt, h.1 i.1))

pub array_good : (k : Setting) (ls : List Phrase) (at : Pos) (element : Written) → IsGood k element → (u : Around) → Stands k u → (name : List ℕ) (m : Mark) (open_ok : Bool) → Keeps k (TypingOk k) (array u name m at open_ok ls element)
array_good k [] at element g u s name m open_ok =
    also_keeps k (TypingOk k) _ rule.MisplacedOpenArray at _
    (then_keeps k (TypingOk k) (TypingOk k) (element.typing u (element_name name) mark.Hidden element.open_array) (λ t. sound (typed_as u name (desc.OpenArray m t.of) t.made)) (g u s (element_name name) mark.Hidden element.open_array) (λ t h. λ i. (tt, h i.1)))
array_good k (l ∷ ls) at element g u s name m open_ok = fixed_good k (l ∷ ls) element g u s name m

-- ---- records

abbrev FieldsOk : Setting → Fields → Type 0
FieldsOk k f = MakesOk k f.made

fields_good : (k : Setting) (u : Around) (base : Option (Option TypeRef)) (before : List (List ℕ)) (ds : List IdentDef) (t : Judged Typing) → Keeps k (TypingOk k) t → Keeps k (FieldsOk k) (with_fields u base before ds t)
fields_good k u base before ds t g =
    let js = each_sound (fields_of u base before ds t.node) in
    then_keeps k (λ (p : Typing × List Field). TypingOk k p.0 × Unit {0}) (FieldsOk k) (both t js) (λ p. sound (record { fields = p.1; made = p.0.made })) (both_keep k (TypingOk k) Anything t js g (any_keeps k js)) (λ p h. h.0)

lists_good : (k : Setting) (ls : List WrittenFields) → AreGoodFields k ls → (u : Around) → Stands k u → (name : List ℕ) (base : Option (Option TypeRef)) (before : List (List ℕ)) → Keeps k (FieldsOk k) (field_lists u name base before ls)
lists_good k [] g u s name base before = λ i. tt
lists_good k (l ∷ ls) g u s name base before =
    let t = l.node.typing u (field_name name (first_name l.names)) mark.Hidden false in
    let a = with_fields u base before l.names t in
    let b = field_lists u name base (names_behind l.names before) ls in
    then_keeps k (λ (p : Fields × Fields). FieldsOk k p.0 × FieldsOk k p.1) (FieldsOk k) (both a b) (λ p. sound (fields_joined p.0 p.1))
    (both_keep k (FieldsOk k) (FieldsOk k) a b (fields_good k u base before l.names t (g.0 u s (field_name name (first_name l.names)) mark.Hidden false)) (lists_good k ls g.1 u s name base (names_behind l.names before))) (λ p h. makes_both k p.0.made p.1.made h.0 h.1)

base_good : (k : Setting) (u : Around) → Stands k u → (o : Option Qualident) → Keeps k (BaseRecorded k.types k.unit) (base_if u o)
base_good k u s None = tt
base_good k u s (Some q) =
    let R : TypeRef → Type 0 = λ t. BaseRecorded k.types k.unit (Some t) in
    made_keeps k R (BaseRecorded k.types k.unit) (λ t. Some t) (type_named u q ▷ base_of (map_of u) (first_of q))
    (then_keeps k Anything R (type_named u q) (base_of (map_of u) (first_of q)) (any_keeps k (type_named u q)) (λ t h. wants_so k R (is_some (record_of (map_of u) t)) rule.UnfitBase (first_of q) t (λ e. stands_if k t (record_of (map_of u) t) (one_stands k u s t (record_of (map_of u) t) refl) e)))
    (λ t h. h)

pub record_good : (k : Setting) (u : Around) → Stands k u → (name : List ℕ) (m : Mark) (lists : List WrittenFields) → AreGoodFields k lists → (o : Option Qualident) → Keeps k (TypingOk k) (record_with u name m lists (base_if u o))
record_good k u s name m lists g o =
    let base = base_if u o in
    then_keeps k (λ (p : Option TypeRef × Fields). BaseRecorded k.types k.unit p.0 × FieldsOk k p.1) (TypingOk k) (both base (field_lists u name base.node [] lists)) (λ p. sound (typed_as u name (record_desc m p.0 p.1.fields) p.1.made))
    (both_keep k (BaseRecorded k.types k.unit) (FieldsOk k) base (field_lists u name base.node [] lists) (base_good k u s o) (lists_good k lists g u s name base.node []))
    (λ p h. λ i. (h.0, h.1 i.1))

-- ---- pointers

base_typed : (k : Setting) (name : List ℕ) (inline : Bool) (at : Pos) (a b : Bool) (t : Typing) → TypingOk k t → Keeps k (TypingOk k) (base_judged name inline at a b t)
base_typed k name inline at true b t h = h
base_typed k name inline at false true t h = later_keeps k (TypingOk k) (later.PointsTo name at t.of inline ∷ []) (sound t) h
base_typed k name inline at false false t h = tt

pub pointer_good : (k : Setting) (u : Around) → Stands k u → (name : List ℕ) (m : Mark) (base : Written) → IsGood k base → (o : Option Ident) → Keeps k (TypingOk k) (pointer_by u name m base o)
pointer_good k u s name m base g (Some x) =
    let t : TypeRef = ref.Named (in_unit u (u.path ++ x.name)) in
    later_keeps k (TypingOk k) (later.PointsTo name x.pos t false ∷ []) (sound (pointer_to u name m (record { of = t; made = [] }))) (λ i. (tt, tt))
pointer_good k u s name m base g None =
    let t = base.typing u (base_name name) mark.Hidden true in
    made_keeps k (TypingOk k) (TypingOk k) (pointer_to u name m) (t ▷ pointer_base u name (is_none base.name) base.start)
    (then_keeps k (TypingOk k) (TypingOk k) t (pointer_base u name (is_none base.name) base.start) (g u s (base_name name) mark.Hidden true) (λ x h. base_typed k name (is_none base.name) base.start (is_structured (map_of (with_types u x.made)) x.of) (is_pointer (map_of (with_types u x.made)) x.of) x h))
    (λ x h. λ i. (tt, h i.1))

-- ---- parameters

abbrev pub ParametersOk : Setting → Parameters → Type 0
ParametersOk k p = MakesOk k p.made

pub typed_stands : (k : Setting) (u : Around) (ts : List TypedType) → Stands k u → Have k ts → Stands k (with_types u ts)
typed_stands k u ts s h = record { unit = s.unit; shown = s.shown; own = all_both (HasType k) ts u.own h s.own; receiver = s.receiver }

declared_stands : (k : Setting) (xs : List Ident) (u : Around) → Stands k u → (m : Mode) (t : Option Typing) → Stands k (declare_all u m t xs).around
declared_stands k [] u s m t = s
declared_stands k (x ∷ xs) u s m t = declared_stands k xs (knows u x (parameter_as u m x t)) (record { unit = s.unit; shown = s.shown; own = s.own; receiver = s.receiver }) m t

section_ok : (k : Setting) (u : Around) (m : Mode) (xs : List Ident) (quiet : Bool) (o : Option Typing) (r : Option Parameters) → IfThere (TypingOk k) o → ((t : Typing) → o ≡ Some t → Have k t.made → IfThere (ParametersOk k) r) → IfThere (ParametersOk k) (if_sound (paired (if_quiet quiet (if_sound o (λ t. sound (parameters_of u m xs t))).node) r) (λ q. sound (parameters_joined q.0 q.1))).node
section_ok k u m xs false o r h g = tt
section_ok k u m xs true None r h g = tt
section_ok k u m xs true (Some t) None h g = tt
section_ok k u m xs true (Some t) (Some p) h g = λ i. let a = all_front (HasType k) t.made p.made i in all_both (λ (t : TypedType). TypeRecorded k.types k.unit t.desc) t.made p.made (h a) (g t refl a (all_back (HasType k) t.made p.made i))

made_stands : (k : Setting) (u : Around) → Stands k u → (o : Option Typing) (t : Typing) → o ≡ Some t → Have k t.made → Stands k (with_made u o)
made_stands k u s None t e h = s
made_stands k u s (Some x) t e h = typed_stands k u x.made s (let i : t ≡ x = cc in subst (λ (y : Typing). Have k y.made) i h)

sections_good : (k : Setting) (ss : List WrittenSection) → AreGoodSections k ss → (u : Around) → Stands k u → (name : List ℕ) (i : ℕ) → Keeps k (ParametersOk k) (sections u name i ss).found
sections_good k [] g u s name i = λ h. tt
sections_good k (x ∷ xs) g u s name i =
    let t = x.node.typing u (section_name name i) mark.Hidden true in
    let n = declare_all u (mode_of x.is_var) t.node x.names in
    let v = with_made n.around t.node in
    section_ok k u (mode_of x.is_var) x.names (is_quiet n.notes.broken) t.node (sections v name (i + length x.names) xs).found.node (g.0 u s (section_name name i) mark.Hidden true)
    (λ y e h. sections_good k xs g.1 v (made_stands k n.around (declared_stands k x.names u s (mode_of x.is_var) t.node) t.node y e h) name (i + length x.names))

pub parameters_good : (k : Setting) (u : Around) → Stands k u → (name : List ℕ) (p : WrittenParameters) → AreGoodSections k p.sections → Keeps k (ParametersOk k) (parameters_in u name p).found
parameters_good k u s name p g =
    let ss = sections u name 1 p.sections in
    let r = result_of (record u { known = ss.known }) p.result in
    then_keeps k (λ (q : Parameters × Option TypeRef). ParametersOk k q.0 × Unit {0}) (ParametersOk k) (both ss.found r) (λ q. sound (with_result q.0 q.1)) (both_keep k (ParametersOk k) Anything ss.found r (sections_good k p.sections g u s name 1) (any_keeps k r)) (λ q h. h.0)

pub procedure_good : (k : Setting) (u : Around) → Stands k u → (name : List ℕ) (m : Mark) (p : WrittenParameters) → AreGoodSections k p.sections → Keeps k (TypingOk k) (procedure_type u name m p)
procedure_good k u s name m p g =
    then_keeps k (ParametersOk k) (TypingOk k) (parameters_in (inner u) name p).found (λ q. sound (typed_as u name (desc.ProcType m q.signature) q.made)) (parameters_good k (inner u) (record { unit = s.unit; shown = s.shown; own = s.own; receiver = s.receiver }) name p g) (λ q h. λ i. (tt, h i.1))
