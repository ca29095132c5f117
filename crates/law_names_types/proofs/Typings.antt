-- What a written type makes: behind a stop behind a record's name stand the types of its fields.
use Rattle.law_methods_described.proofs.Nodes.{quiet_has}
use Rattle.std.proofs.Common.{◌≡◌, ℕ, ◌+◌, ◌≤◌, ◌<◌, ◌^◌, Bool, true, false, List, [], ◌∷◌, ◌++◌, length, Option, Some, None, refl, sym, ap, ◌∙◌, subst, inl, inr, arith}
use Rattle.std.specs.Prelude.{◌||◌, is_none, is_some, bytes_eq, decimal}
use Rattle.std.specs.List.{AllByRecursion}
use Rattle.std.proofs.lemmas.Slice.Eq.{bytes_eq-Decides}
use Rattle.ob_tree.specs.declared.pos.Pos.{Pos}
use Rattle.ob_tree.specs.declared.ident.Ident.{Ident}
use Rattle.ob_tree.specs.declared.ident.IdentDef.{IdentDef}
use Rattle.ob_tree.specs.declared.ident.Mark.{Mark}
use Rattle.ob_tree.specs.declared.ident.Mark.TheVariants as mark
use Rattle.ob_tree.specs.declared.ident.Qualident.{Qualident}
use Rattle.ob_types.specs.declared.types.TypeRef.{TypeRef}
use Rattle.ob_types.specs.declared.types.TypeRef.TheVariants as ref
use Rattle.ob_types.specs.declared.desc.Desc.{Desc}
use Rattle.ob_types.specs.declared.desc.Desc.TheVariants as desc
use Rattle.ob_types.specs.declared.desc.Field.{Field}
use Rattle.ob_types.specs.declared.typed.TypedType.{TypedType}
use Rattle.ob_rules.specs.declared.broken.Rule.TheVariants as rule
use Rattle.ob_rules.specs.Judged.{Judged, sound, silent, unless, both, each_sound, made, ◌▷◌, behind_quiet}
use Rattle.ob_rules.specs.Shapes.{is_structured, is_pointer}
use Rattle.ob_rules.specs.Names.{Around, map_of, in_unit, type_named, is_among}
use Rattle.ob_rules.specs.Phrases.{Phrase}
use Rattle.ob_rules.specs.Types.{mark_of, is_module_level, Typing, Written, typed_as, with_types, base_name, element_name, field_name, section_name, marked, named_typing, array_length, fixed_array, array, first_of, member_in, record_in, inherits, field_declared, field_if, name_in, fields_of, names_behind, WrittenFields, first_name, Fields, with_fields, fields_joined, field_lists, record_desc, record_with, pointer_to, base_judged, pointer_base, pointer_by, Parameters, WrittenSection, WrittenParameters, mode_of, declare_all, parameters_of, parameters_joined, with_made, sections, result_of, with_result, parameters_in, inner, procedure_type}
use Rattle.law_names_distinct.specs.Parts.{IsWord, IsPart}
use Rattle.law_names_distinct.proofs.Parts.{part_longer, parts_apart, decimal_word, decimal_differs}
use Rattle.law_names_distinct.proofs.Quiet.{Quiet, any_quiet, then_quiet, both_quiet, unless_quiet, also_quiet, later_quiet, later_broken, first_quiet}
use Rattle.law_names_distinct.proofs.Typings.{AreIn, IsIn, IsGood, behind_mark, HasFirst, AreGoodFields, IsOfSection, AreGoodSections, names_of, array_good, behind_has, not_behind}
use Rattle.law_names_types.specs.Nested.{IsNameOf, HasField, IsBehind, AreNested}
use Rattle.law_names_types.proofs.Behind.{part_of, stop_behind, IsOther, over_others, others_over, nested_both, one_before, one_longer}
use Rattle.law_lists.proofs.Lists.{Anything, IfThere, all_both, all_from, back_empty, bytes_itself, front_empty}

-- whatever stands around
abbrev pub MakesNested : Written → Type 0
MakesNested w = (u : Around) (name : List ℕ) (m : Mark) (open_ok : Bool) → Quiet (λ t. AreNested t.made t.made) (w.typing u name m open_ok)

abbrev pub IsNested : Written → Type 0
IsNested w = IsGood w × MakesNested w

abbrev Nested : Typing → Type 0
Nested t = AreNested t.made t.made

-- with what is known of the names
abbrev Named : List ℕ → Typing → Type 0
Named r t = IsIn r t × Nested t

quiet_and : {A : Type 0} (P Q : A → Type 0) (j : Judged A) → Quiet P j → Quiet Q j → Quiet (λ x. P x × Q x) j
quiet_and P Q j h k = λ e. by j.node (h e) (k e)
  where
    by : (o : Option _) → IfThere P o → IfThere Q o → IfThere (λ x. P x × Q x) o
    by None h k = tt
    by (Some x) h k = (h, k)

named_quiet : (w : Written) → IsNested w → (u : Around) (name : List ℕ) (m : Mark) (ok : Bool) → Quiet (Named name) (w.typing u name m ok)
named_quiet w g u name m ok = quiet_and (IsIn name) Nested (w.typing u name m ok) (g.0 u name m ok) (g.1 u name m ok)

-- ---- names and arrays

pub name_nested : (q : Qualident) (u : Around) (open_ok : Bool) → Quiet Nested (type_named u q ▷ named_typing u (first_of q) open_ok)
name_nested q u open_ok = then_quiet Anything Nested (type_named u q) (named_typing u (first_of q) open_ok) (any_quiet (type_named u q)) (λ t h. unless_quiet Nested _ rule.MisplacedOpenArray (first_of q) (record { of = t; made = [] }) tt)

-- all of the part of the name, of lengths or of none
fixed_in : (ls : List Phrase) (element : Written) → IsGood element → (u : Around) (name : List ℕ) (m : Mark) → Quiet (IsIn name) (fixed_array u name m ls element)
fixed_in [] element g u name m = g u name m false
fixed_in (l ∷ ls) element g u name m = array_good (l ∷ ls) l.start element g u name m false

fixed_nested : (ls : List Phrase) (element : Written) → IsNested element → (u : Around) (name : List ℕ) (m : Mark) → Quiet Nested (fixed_array u name m ls element)
fixed_nested [] element g u name m = g.1 u name m false
fixed_nested (l ∷ ls) element g u name m =
    let rest = fixed_array u (element_name name) mark.Hidden ls element in
    then_quiet (λ (p : ℕ × Typing). Anything p.0 × Named (element_name name) p.1) Nested (both (array_length u l) rest) (λ p. sound (typed_as u name (desc.Array m p.0 p.1.of) p.1.made))
    (both_quiet Anything (Named (element_name name)) (array_length u l) rest (any_quiet (array_length u l)) (quiet_and (IsIn (element_name name)) Nested rest (fixed_in ls element g.0 u (element_name name) mark.Hidden) (fixed_nested ls element g u (element_name name) mark.Hidden)))
    (λ p h. λ e. one_before name 91 (desc.Array m p.0 p.1.of) p.1.made (λ x. tt) h.1.0.parts h.1.1)

pub array_nested : (ls : List Phrase) (at : Pos) (element : Written) → IsNested element → (u : Around) (name : List ℕ) (m : Mark) (open_ok : Bool) → Quiet Nested (array u name m at open_ok ls element)
array_nested [] at element g u name m open_ok =
    also_quiet Nested _ rule.MisplacedOpenArray at (element.typing u (element_name name) mark.Hidden element.open_array ▷ λ t. sound (typed_as u name (desc.OpenArray m t.of) t.made))
    (then_quiet (Named (element_name name)) Nested (element.typing u (element_name name) mark.Hidden element.open_array) (λ t. sound (typed_as u name (desc.OpenArray m t.of) t.made)) (named_quiet element g u (element_name name) mark.Hidden element.open_array)
    (λ t h. λ e. one_before name 91 (desc.OpenArray m t.of) t.made (λ x. tt) h.0.parts h.1))
array_nested (l ∷ ls) at element g u name m open_ok = fixed_nested (l ∷ ls) element g u name m

-- ---- pointers

base_nested : (r name : List ℕ) (inline : Bool) (at : Pos) (s p : Bool) (t : Typing) → Named r t → Quiet (Named r) (base_judged name inline at s p t)
base_nested r name inline at true p t h = λ e. h
base_nested r name inline at false true t h = λ e. h
base_nested r name inline at false false t h = λ e. tt

pub pointer_nested : (u : Around) (name : List ℕ) (m : Mark) (w : Written) → IsNested w → (o : Option Ident) → Quiet Nested (pointer_by u name m w o)
pointer_nested u name m w g (Some x) = λ e. (((λ y k p. tt), tt), tt)
pointer_nested u name m w g None =
    then_quiet (Named (base_name name)) Nested (w.typing u (base_name name) mark.Hidden true ▷ pointer_base u name (is_none w.name) w.start) (λ t. sound (pointer_to u name m t))
    (then_quiet (Named (base_name name)) (Named (base_name name)) (w.typing u (base_name name) mark.Hidden true) (pointer_base u name (is_none w.name) w.start) (named_quiet w g u (base_name name) mark.Hidden true)
    (λ t h. base_nested (base_name name) name (is_none w.name) w.start (is_structured (map_of (with_types u t.made)) t.of) (is_pointer (map_of (with_types u t.made)) t.of) t h))
    (λ t h. λ e. one_before name 94 (desc.Pointer m t.of) t.made (λ x. tt) h.0.parts h.1)

-- ---- parameters

-- those of sections behind the first, and of the first
section_other : (name : List ℕ) (i : ℕ) → i < 2 ^ 64 → (n : List ℕ) → IsOfSection name (i + 1) n → IsOther name 40 (decimal i) n
section_other name i s n o = record { word = decimal o.at; is = decimal_word o.at o.small; other = decimal_differs o.at i o.small s (λ same. let b = o.behind in omega (arith, same, b)); part = o.part }

abbrev ParametersNested : List ℕ → ℕ → Parameters → Type 0
ParametersNested name i p = AllByRecursion (λ t. IsOfSection name i t.name) p.made × AreNested p.made p.made

sections_nested : (ss : List WrittenSection) → AllByRecursion (λ s. IsNested s.node) ss → AreGoodSections ss → (u : Around) (name : List ℕ) (i : ℕ) → i + names_of ss < 2 ^ 64 → Quiet (ParametersNested name i) (sections u name i ss).found
sections_nested [] n g u name i few = λ e. (tt, tt)
sections_nested (s ∷ ss) n g u name i few =
    let t = s.node.typing u (section_name name i) mark.Hidden true in
    let d = declare_all u (mode_of s.is_var) t.node s.names in
    let v = with_made d.around t.node in
    let k = i + length s.names in
    let some : 1 ≤ length s.names = g.0.0 in
    let here : i < 2 ^ 64 = omega (arith, few, some) in
    let rest = (sections v name k ss).found in
    let mine : Judged Parameters = made (parameters_of u (mode_of s.is_var) s.names) t in
    let f : Parameters × Parameters → Judged Parameters = λ q. sound (parameters_joined q.0 q.1) in
    then_quiet (λ (p : Parameters × Parameters). (AreIn (section_name name i) p.0.made × AreNested p.0.made p.0.made) × ParametersNested name k p.1) (ParametersNested name i) (both (behind_quiet d.notes mine) rest) f
    (both_quiet (λ (p : Parameters). AreIn (section_name name i) p.made × AreNested p.made p.made) (ParametersNested name k) (behind_quiet d.notes mine) rest
    (λ e. quiet_has (λ (p : Parameters). AreIn (section_name name i) p.made × AreNested p.made p.made) d.notes mine (then_quiet (Named (section_name name i)) (λ (p : Parameters). AreIn (section_name name i) p.made × AreNested p.made p.made) t (λ x. sound (parameters_of u (mode_of s.is_var) s.names x)) (named_quiet s.node n.0 u (section_name name i) mark.Hidden true) (λ x h. λ e. h) (back_empty d.notes.broken mine.notes.broken e)))
    (sections_nested ss n.1 g.1 v name k (omega (arith, few))))
    (λ p h. λ e.
    let own = behind_mark name (decimal i) 40 p.0.made h.0.0.parts in
    let others = all_from (λ x. IsOfSection name k x.name) (λ x. IsOther name 40 (decimal i) x.name) (λ x o. section_other name i here x.name (record { at = o.at; behind = let b = o.behind in omega (arith, b, some); small = o.small; part = o.part })) p.1.made h.1.0 in (
      all_both (λ t. IsOfSection name i t.name) p.0.made p.1.made (all_from (λ t. IsPart (name ++ 40 ∷ decimal i) t.name) (λ t. IsOfSection name i t.name) (λ t q. record { at = i; behind = omega arith; small = here; part = q }) p.0.made own) (all_from (λ t. IsOfSection name k t.name) (λ t. IsOfSection name i t.name) (λ t o. record { at = o.at; behind = let b = o.behind in omega (arith, b); small = o.small; part = o.part }) p.1.made h.1.0),
      nested_both p.0.made p.1.made h.0.1 (over_others name 40 (decimal i) (decimal_word i here) p.0.made p.1.made own others) (others_over name 40 (decimal i) (decimal_word i here) p.1.made p.0.made others own) h.1.1,
    ))

pub parameters_nested : (u : Around) (name : List ℕ) (p : WrittenParameters) → AllByRecursion (λ s. IsNested s.node) p.sections → AreGoodSections p.sections → 1 + names_of p.sections < 2 ^ 64 → Quiet (ParametersNested name 1) (parameters_in u name p).found
parameters_nested u name p n g few =
    let s = sections u name 1 p.sections in
    let r = result_of (record u { known = s.known }) p.result in
    then_quiet (λ (q : Parameters × Option TypeRef). ParametersNested name 1 q.0 × Anything q.1) (ParametersNested name 1) (both s.found r) (λ q. sound (with_result q.0 q.1))
    (both_quiet (ParametersNested name 1) Anything s.found r (sections_nested p.sections n g u name 1 few) (any_quiet r))
    (λ q h. λ e. h.0)

-- none of those of parameters has the type before it behind its own name
parameters_never : (name : List ℕ) (d : Desc) (ts : List TypedType) → AllByRecursion (λ t. IsOfSection name 1 t.name) ts → AllByRecursion (λ t. IsBehind t (record { name = name; desc = d })) ts
parameters_never name d [] h = tt
parameters_never name d (t ∷ ts) h = (
  (λ x w p. absurd (part_longer name (decimal h.0.at) name 40 (part_of (name ++ 40 ∷ decimal h.0.at) t.name name h.0.part (stop_behind t.name x name w p)) refl)),
  parameters_never name d ts h.1,
)

no_field : (y : TypedType) → ((x : List ℕ) → HasField y.desc x) → (ts : List TypedType) → AllByRecursion (IsBehind y) ts
no_field y has [] = tt
no_field y has (t ∷ ts) = (λ x w p. has x, no_field y has ts)

pub procedure_nested : (u : Around) (name : List ℕ) (m : Mark) (p : WrittenParameters) → AllByRecursion (λ s. IsNested s.node) p.sections → AreGoodSections p.sections → 1 + names_of p.sections < 2 ^ 64 → Quiet Nested (procedure_type u name m p)
procedure_nested u name m p n g few =
    let found = (parameters_in (inner u) name p).found in
    then_quiet (ParametersNested name 1) Nested found (λ q. sound (typed_as u name (desc.ProcType m q.signature) q.made))
    (parameters_nested (inner u) name p n g few)
    (λ q h. λ e. one_longer (record { name = name; desc = desc.ProcType m q.signature }) q.made (λ x w k. tt) (no_field (record { name = name; desc = desc.ProcType m q.signature }) (λ x. tt) q.made) (parameters_never name (desc.ProcType m q.signature) q.made h.0) h.1)

-- ---- records

-- a type of a field that is there
pub record IsOfNamed (name : List ℕ) (before : List (List ℕ)) (fs : List Field) (n : List ℕ) : Type 0 where
  pub field : List ℕ
  pub word : IsWord field
  pub new : is_among field before ≡ false
  pub there : IsNameOf fs field
  pub part : IsPart (name ++ 46 ∷ field) n

name_left : (fs gs : List Field) (x : List ℕ) → IsNameOf fs x → IsNameOf (fs ++ gs) x
name_left [] gs x h = absurd h
name_left (f ∷ fs) gs x (inl e) = inl e
name_left (f ∷ fs) gs x (inr h) = inr (name_left fs gs x h)

name_right : (fs gs : List Field) (x : List ℕ) → IsNameOf gs x → IsNameOf (fs ++ gs) x
name_right [] gs x h = h
name_right (f ∷ fs) gs x h = inr (name_right fs gs x h)

declared_name : (u : Around) (b : Option (Option TypeRef)) (before : List (List ℕ)) (d : IdentDef) (t : TypeRef) → Quiet (λ (f : Field). f.name ≡ d.ident.name) (field_declared u b before d t)
declared_name u b before d t =
    let r : Field → Judged Field = λ x. unless (is_among d.ident.name before || is_some (member_in (map_of u) (record_in (map_of u) b) d.ident.name)) rule.DeclaredTwice d.ident.pos x in
    later_quiet (λ (f : Field). f.name ≡ d.ident.name) (inherits b d.ident) (marked u true d ▷ λ m. r (record { name = d.ident.name; mark = m; place = 0; of = t }))
    (then_quiet Anything (λ (f : Field). f.name ≡ d.ident.name) (marked u true d) (λ m. r (record { name = d.ident.name; mark = m; place = 0; of = t })) (any_quiet (marked u true d))
    (λ m h. unless_quiet (λ (f : Field). f.name ≡ d.ident.name) (is_among d.ident.name before || is_some (member_in (map_of u) (record_in (map_of u) b) d.ident.name)) rule.DeclaredTwice d.ident.pos (record { name = d.ident.name; mark = m; place = 0; of = t }) refl))

if_name : (u : Around) (b : Option (Option TypeRef)) (before : List (List ℕ)) (d : IdentDef) (o : Option Typing) → Quiet (λ (f : Field). f.name ≡ d.ident.name) (field_if u b before d o)
if_name u b before d (Some t) = declared_name u b before d t.of
if_name u b before d None = then_quiet (λ (f : Field). f.name ≡ d.ident.name) (λ (f : Field). f.name ≡ d.ident.name) (field_declared u b before d (ref.Named (in_unit u []))) (λ f. silent) (declared_name u b before d (ref.Named (in_unit u []))) (λ f h. λ e. tt)

first_there : (u : Around) (b : Option (Option TypeRef)) (before : List (List ℕ)) (ds : List IdentDef) → HasFirst ds → (o : Option Typing) → Quiet (λ (fs : List Field). IsNameOf fs (first_name ds)) (each_sound (fields_of u b before ds o))
first_there u b before [] h o = absurd h
first_there u b before (d ∷ ds) h o =
    let a = field_if u b before d o in
    let rest = each_sound (fields_of u b (name_in d ∷ before) ds o) in
    then_quiet (λ (p : Field × List Field). (p.0.name ≡ d.ident.name) × Anything p.1) (λ (fs : List Field). IsNameOf fs d.ident.name) (both a rest) (λ p. sound (p.0 ∷ p.1))
    (both_quiet (λ (f : Field). f.name ≡ d.ident.name) Anything a rest (if_name u b before d o) (any_quiet rest)) (λ p h. λ e. inl h.0)

new_or_broken : (a b : Bool) (at : Pos) (f : Field) → (unless (a || b) rule.DeclaredTwice at f).notes.broken ≡ [] → a ≡ false
new_or_broken true b at f e = absurd cc
new_or_broken false b at f e = refl

-- a mark breaks a rule, or is there
marked_new : (u : Around) (level minus : Bool) (at : Pos) (m : Mark) (f : Mark → Judged Field) (Q : Type 0) → ((k : Mark) → (f k).notes.broken ≡ [] → Q) → (mark_of level minus at m ▷ f).notes.broken ≡ [] → Q
marked_new u true true at mark.Full f Q k e = k mark.Full e
marked_new u true true at mark.ReadOnly f Q k e = k mark.ReadOnly e
marked_new u true true at mark.Hidden f Q k e = k mark.Hidden e
marked_new u true false at mark.Full f Q k e = k mark.Full e
marked_new u true false at mark.ReadOnly f Q k e = absurd cc
marked_new u true false at mark.Hidden f Q k e = k mark.Hidden e
marked_new u false minus at mark.Full f Q k e = absurd cc
marked_new u false minus at mark.ReadOnly f Q k e = absurd cc
marked_new u false minus at mark.Hidden f Q k e = k mark.Hidden e

field_new : (u : Around) (base : Option (Option TypeRef)) (before : List (List ℕ)) (d : IdentDef) (t : TypeRef) → (field_declared u base before d t).notes.broken ≡ [] → is_among d.ident.name before ≡ false
field_new u base before d t e =
    let f : Mark → Judged Field = λ m. unless (is_among d.ident.name before || is_some (member_in (map_of u) (record_in (map_of u) base) d.ident.name)) rule.DeclaredTwice d.ident.pos (record { name = d.ident.name; mark = m; place = 0; of = t }) in
    marked_new u (is_module_level u) true d.mark_pos d.mark f (is_among d.ident.name before ≡ false)
    (λ m k. new_or_broken (is_among d.ident.name before) (is_some (member_in (map_of u) (record_in (map_of u) base) d.ident.name)) d.ident.pos (record { name = d.ident.name; mark = m; place = 0; of = t }) k)
    (later_broken (inherits base d.ident) (marked u true d ▷ f) e)

if_new : (u : Around) (base : Option (Option TypeRef)) (before : List (List ℕ)) (d : IdentDef) (o : Option Typing) → (field_if u base before d o).notes.broken ≡ [] → is_among d.ident.name before ≡ false
if_new u base before d (Some t) e = field_new u base before d t.of e
if_new u base before d None e = field_new u base before d (ref.Named (in_unit u [])) (first_quiet (field_declared u base before d (ref.Named (in_unit u []))) (λ f. silent) e)

first_new : (u : Around) (base : Option (Option TypeRef)) (before : List (List ℕ)) (ds : List IdentDef) → HasFirst ds → (o : Option Typing) → (each_sound (fields_of u base before ds o)).notes.broken ≡ [] → is_among (first_name ds) before ≡ false
first_new u base before [] h o e = absurd h
first_new u base before (d ∷ ds) h o e =
    let a = field_if u base before d o in
    let rest = each_sound (fields_of u base (name_in d ∷ before) ds o) in
    if_new u base before d o (front_empty a.notes.broken rest.notes.broken (first_quiet (both a rest) (λ p. sound (p.0 ∷ p.1)) e))

word_first : (ds : List IdentDef) → HasFirst ds → IsWord (first_name ds)
word_first [] h = absurd h
word_first (d ∷ ds) h = h

name_behind : (ds : List IdentDef) → HasFirst ds → (before : List (List ℕ)) → is_among (first_name ds) (names_behind ds before) ≡ true
name_behind [] h before = absurd h
name_behind (d ∷ ds) h before = behind_has ds (name_in d ∷ before) d.ident.name (ap (λ b. b || is_among d.ident.name before) (bytes_itself d.ident.name))

-- what lists of fields come to
abbrev FieldsNested : List ℕ → List (List ℕ) → Fields → Type 0
FieldsNested name before f = AllByRecursion (λ t. IsOfNamed name before f.fields t.name) f.made × AreNested f.made f.made

abbrev ListNested : List ℕ → List (List ℕ) → List ℕ → Fields → Type 0
ListNested name before x f = (IsNameOf f.fields x × (is_among x before ≡ false)) × (AreIn (field_name name x) f.made × AreNested f.made f.made)

list_nested : (u : Around) (name : List ℕ) (b : Option (Option TypeRef)) (before : List (List ℕ)) (ds : List IdentDef) → HasFirst ds → (t : Judged Typing) → Quiet (Named (field_name name (first_name ds))) t → Quiet (ListNested name before (first_name ds)) (with_fields u b before ds t)
list_nested u name b before ds h t g =
    let js = each_sound (fields_of u b before ds t.node) in
    let f : Typing × List Field → Judged Fields = λ p. sound (record { fields = p.1; made = p.0.made }) in
    λ e.
    let new = first_new u b before ds h t.node (back_empty t.notes.broken js.notes.broken (first_quiet (both t js) f e)) in
    then_quiet (λ (p : Typing × List Field). Named (field_name name (first_name ds)) p.0 × IsNameOf p.1 (first_name ds)) (ListNested name before (first_name ds)) (both t js) f
    (both_quiet (Named (field_name name (first_name ds))) (λ (fs : List Field). IsNameOf fs (first_name ds)) t js g (first_there u b before ds h t.node)) (λ p k. λ e. ((k.1, new), k.0)) e

field_other : (name x : List ℕ) (before : List (List ℕ)) → is_among x before ≡ true → (fs : List Field) (n : List ℕ) → IsOfNamed name before fs n → IsOther name 46 x n
field_other name x before i fs n o = record { word = o.field; is = o.word; other = λ same. (let bad : true ≡ false = sym i ∙ ap (λ y. is_among y before) (sym same) ∙ o.new in absurd cc); part = o.part }

abbrev pub AreNestedFields : List WrittenFields → Type 0
AreNestedFields ls = AllByRecursion (λ l. IsNested l.node) ls

lists_nested : (ls : List WrittenFields) → AreNestedFields ls → AreGoodFields ls → (u : Around) (name : List ℕ) (b : Option (Option TypeRef)) (before : List (List ℕ)) → Quiet (FieldsNested name before) (field_lists u name b before ls)
lists_nested [] n g u name b before = λ e. (tt, tt)
lists_nested (l ∷ ls) n g u name b before =
    let x = first_name l.names in
    let r = field_name name x in
    let t = l.node.typing u r mark.Hidden false in
    let a = with_fields u b before l.names t in
    let behind = names_behind l.names before in
    let c = field_lists u name b behind ls in
    then_quiet (λ (p : Fields × Fields). ListNested name before x p.0 × FieldsNested name behind p.1) (FieldsNested name before) (both a c) (λ p. sound (fields_joined p.0 p.1))
    (both_quiet (ListNested name before x) (FieldsNested name behind) a c (list_nested u name b before l.names g.0.0 t (named_quiet l.node n.0 u r mark.Hidden false)) (lists_nested ls n.1 g.1 u name b behind))
    (λ p h. λ e.
    let w = word_first l.names g.0.0 in
    let own = behind_mark name x 46 p.0.made h.0.1.0.parts in
    let others = all_from (λ s. IsOfNamed name behind p.1.fields s.name) (λ s. IsOther name 46 x s.name) (λ s o. field_other name x behind (name_behind l.names g.0.0 before) p.1.fields s.name o) p.1.made h.1.0 in (
      all_both (λ s. IsOfNamed name before (p.0.fields ++ p.1.fields) s.name) p.0.made p.1.made
          (all_from (λ s. IsPart (name ++ 46 ∷ x) s.name) (λ s. IsOfNamed name before (p.0.fields ++ p.1.fields) s.name) (λ s k. record { field = x; word = w; new = h.0.0.1; there = name_left p.0.fields p.1.fields x h.0.0.0; part = k }) p.0.made own)
          (all_from (λ s. IsOfNamed name behind p.1.fields s.name) (λ s. IsOfNamed name before (p.0.fields ++ p.1.fields) s.name) (λ s o. record { field = o.field; word = o.word; new = not_behind l.names before o.field o.new; there = name_right p.0.fields p.1.fields o.field o.there; part = o.part }) p.1.made h.1.0),
      nested_both p.0.made p.1.made h.0.1.1 (over_others name 46 x w p.0.made p.1.made own others) (others_over name 46 x w p.1.made p.0.made others own) h.1.1,
    ))

-- what is behind a stop is of that field
same_field : (name x f n : List ℕ) → IsWord x → IsWord f → IsPart (name ++ 46 ∷ x) n → IsPart (name ++ 46 ∷ f) n → x ≡ f
same_field name x f n w v p q = by (bytes_eq x f) refl
  where
    by : (b : Bool) → bytes_eq x f ≡ b → x ≡ f
    by true e = (bytes_eq-Decides x f).0 e
    by false e = absurd (parts_apart name x f n n 46 w v (λ same. let bad : true ≡ false = sym ((bytes_eq-Decides x f).1 same) ∙ e in absurd cc) p q refl)

record_over : (name : List ℕ) (d : Desc) (fs : List Field) → ((x : List ℕ) → IsNameOf fs x → HasField d x) → (ts : List TypedType) → AllByRecursion (λ t. IsOfNamed name [] fs t.name) ts → AllByRecursion (IsBehind (record { name = name; desc = d })) ts
record_over name d fs k [] h = tt
record_over name d fs k (t ∷ ts) h = ((λ x w p. k x (subst (IsNameOf fs) (sym (same_field name x h.0.field t.name w h.0.word p h.0.part)) h.0.there)), record_over name d fs k ts h.1)

record_never : (name : List ℕ) (d : Desc) (fs : List Field) (ts : List TypedType) → AllByRecursion (λ t. IsOfNamed name [] fs t.name) ts → AllByRecursion (λ t. IsBehind t (record { name = name; desc = d })) ts
record_never name d fs [] h = tt
record_never name d fs (t ∷ ts) h = ((λ x w p. absurd (part_longer name h.0.field name 46 (part_of (name ++ 46 ∷ h.0.field) t.name name h.0.part (stop_behind t.name x name w p)) refl)), record_never name d fs ts h.1)

pub record_nested : (u : Around) (name : List ℕ) (m : Mark) (lists : List WrittenFields) → AreNestedFields lists → AreGoodFields lists → (b : Judged (Option TypeRef)) → Quiet Nested (record_with u name m lists b)
record_nested u name m lists n g b =
    let fs = field_lists u name b.node [] lists in
    then_quiet (λ (p : Option TypeRef × Fields). Anything p.0 × FieldsNested name [] p.1) Nested (both b fs) (λ p. sound (typed_as u name (record_desc m p.0 p.1.fields) p.1.made))
    (both_quiet Anything (FieldsNested name []) b fs (any_quiet b) (lists_nested lists n g u name b.node []))
    (λ p h. λ e.
    let d = record_desc m p.0 p.1.fields in
    one_longer (record { name = name; desc = d }) p.1.made (λ x w k. absurd (part_longer name x name 46 k refl)) (record_over name d p.1.fields (λ x k. k) p.1.made h.1.0) (record_never name d p.1.fields p.1.made h.1.0) h.1.1)
