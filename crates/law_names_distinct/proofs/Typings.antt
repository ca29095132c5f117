-- The types that a written type makes have different names, which begin with its own.
use Rattle.law_methods_described.proofs.Nodes.{quiet_has}
use Rattle.std.proofs.Common.{◌≡◌, ◌≢◌, ℕ, suc, ◌+◌, ◌<◌, ◌≤◌, ◌^◌, Bool, true, false, List, [], ◌∷◌, ◌++◌, length, Option, Some, None, refl, sym, ap, subst, ◌∙◌, arith, append_assoc}
use Rattle.std.specs.Prelude.{zero, ◌==◌, ◌||◌, bytes_eq, is_some, is_none}
use Rattle.std.specs.Fmt.{decimal}
use Rattle.std.specs.List.{AllByRecursion}
use Rattle.ob_tree.specs.declared.pos.Pos.{Pos}
use Rattle.ob_tree.specs.declared.ident.Ident.{Ident}
use Rattle.ob_tree.specs.declared.ident.IdentDef.{IdentDef}
use Rattle.ob_tree.specs.declared.ident.Mark.{Mark}
use Rattle.ob_tree.specs.declared.ident.Mark.TheVariants as mark
use Rattle.ob_tree.specs.declared.ident.Qualident.{Qualident}
use Rattle.ob_types.specs.declared.types.TypeRef.{TypeRef}
use Rattle.ob_types.specs.declared.types.TypeRef.TheVariants as ref
use Rattle.ob_types.specs.declared.desc.Desc.{Desc}
use Rattle.ob_types.specs.declared.desc.Desc.TheVariants as desc
use Rattle.ob_types.specs.declared.desc.Field.{Field}
use Rattle.ob_types.specs.declared.typed.TypedType.{TypedType}
use Rattle.ob_rules.specs.declared.broken.Rule.TheVariants as rule
use Rattle.ob_rules.specs.Judged.{Judged, sound, silent, both, made, each_sound, unless, if_sound, ◌▷◌, behind_quiet}
use Rattle.ob_rules.specs.Names.{Around, map_of, in_unit, is_among, type_named}
use Rattle.ob_rules.specs.Phrases.{Phrase}
use Rattle.ob_rules.specs.Shapes.{is_structured, is_pointer}
use Rattle.ob_rules.specs.Types.{Typing, Written, typed_as, with_types, base_name, element_name, field_name, section_name, is_module_level, mark_of, marked, named_typing, array_length, fixed_array, array, first_of, member_in, record_in, inherits, field_declared, field_if, names_behind, name_in, WrittenFields, first_name, Fields, fields_of, with_fields, fields_joined, field_lists, record_with, record_desc, pointer_to, base_judged, pointer_base, pointer_by, Parameters, WrittenSection, WrittenParameters, mode_of, declare_all, parameters_of, parameters_joined, with_made, sections, result_of, with_result, parameters_in, inner, procedure_type}
use Rattle.ob_layout.specs.Lists.{sum_of}
use Rattle.law_names_distinct.specs.Distinct.{AreDistinct}
use Rattle.law_names_distinct.specs.Parts.{is_mark, IsWord, IsPart}
use Rattle.law_names_distinct.proofs.Parts.{parts_apart, part_itself, part_within, part_longer, decimal_word, decimal_differs}
use Rattle.law_names_distinct.proofs.Quiet.{Quiet, any_quiet, then_quiet, first_quiet, both_quiet, unless_quiet, also_quiet, later_quiet, later_broken, and_there}
use Rattle.law_lists.proofs.Lists.{Anything, all_both, all_from, back_empty, bytes_itself, front_empty}

-- all have names of this part, which differ
pub record AreIn (r : List ℕ) (ts : List TypedType) : Type 0 where
  pub parts : AllByRecursion (λ t. IsPart r t.name) ts
  pub differ : AreDistinct (λ t. t.name) ts

abbrev pub IsIn : List ℕ → Typing → Type 0
IsIn r t = AreIn r t.made

-- whatever stands around, what a written type makes is of the part of its name
abbrev pub IsGood : Written → Type 0
IsGood w = (u : Around) (name : List ℕ) (m : Mark) (open_ok : Bool) → Quiet (IsIn name) (w.typing u name m open_ok)

pub behind_mark : (r w : List ℕ) (c : ℕ) (ts : List TypedType) → AllByRecursion (λ t. IsPart ((r ++ c ∷ []) ++ w) t.name) ts → AllByRecursion (λ t. IsPart (r ++ c ∷ w) t.name) ts
behind_mark r w c ts h = subst (λ x. AllByRecursion (λ t. IsPart x t.name) ts) (append_assoc r (c ∷ []) w) h

pub none_in : (r : List ℕ) → AreIn r []
none_in r = record { parts = tt; differ = tt }

-- one type, and more behind a mark
one_more : (r : List ℕ) (c : ℕ) (d : Desc) (ts : List TypedType) → is_mark c ≡ true → (c == 47) ≡ false → AreIn (r ++ c ∷ []) ts → AreIn r (record { name = r; desc = d } ∷ ts)
one_more r c d ts m s h = record {
  parts = (part_itself r, all_from (λ t. IsPart (r ++ c ∷ []) t.name) (λ t. IsPart r t.name) (λ t p. part_within r [] t.name c m s tt p) ts h.parts);
  differ = (all_from (λ t. IsPart (r ++ c ∷ []) t.name) (λ t. t.name ≢ r) (λ t p. part_longer r [] t.name c p) ts h.parts, h.differ);
}

-- ---- names and arrays

pub name_good : (q : Qualident) (u : Around) (name : List ℕ) (open_ok : Bool) → Quiet (IsIn name) (type_named u q ▷ named_typing u (first_of q) open_ok)
name_good q u name open_ok = then_quiet Anything (IsIn name) (type_named u q) (named_typing u (first_of q) open_ok) (any_quiet (type_named u q)) (λ t h. unless_quiet (IsIn name) _ rule.MisplacedOpenArray (first_of q) (record { of = t; made = [] }) (none_in name))

fixed_good : (ls : List Phrase) (element : Written) → IsGood element → (u : Around) (name : List ℕ) (m : Mark) → Quiet (IsIn name) (fixed_array u name m ls element)
fixed_good [] element g u name m = g u name m false
fixed_good (l ∷ ls) element g u name m =
    then_quiet (λ (p : ℕ × Typing). Anything p.0 × IsIn (element_name name) p.1) (IsIn name) (both (array_length u l) (fixed_array u (element_name name) mark.Hidden ls element)) (λ p. sound (typed_as u name (desc.Array m p.0 p.1.of) p.1.made))
    (both_quiet Anything (IsIn (element_name name)) (array_length u l) (fixed_array u (element_name name) mark.Hidden ls element) (any_quiet (array_length u l)) (fixed_good ls element g u (element_name name) mark.Hidden))
    (λ p h. λ e. one_more name 91 (desc.Array m p.0 p.1.of) p.1.made refl refl h.1)

pub array_good : (ls : List Phrase) (at : Pos) (element : Written) → IsGood element → (u : Around) (name : List ℕ) (m : Mark) (open_ok : Bool) → Quiet (IsIn name) (array u name m at open_ok ls element)
array_good [] at element g u name m open_ok =
    also_quiet (IsIn name) _ rule.MisplacedOpenArray at (element.typing u (element_name name) mark.Hidden element.open_array ▷ λ t. sound (typed_as u name (desc.OpenArray m t.of) t.made))
    (then_quiet (IsIn (element_name name)) (IsIn name) (element.typing u (element_name name) mark.Hidden element.open_array) (λ t. sound (typed_as u name (desc.OpenArray m t.of) t.made)) (g u (element_name name) mark.Hidden element.open_array)
    (λ t h. λ e. one_more name 91 (desc.OpenArray m t.of) t.made refl refl h))
array_good (l ∷ ls) at element g u name m open_ok = fixed_good (l ∷ ls) element g u name m

-- ---- pointers

base_good : (r name : List ℕ) (inline : Bool) (at : Pos) (s p : Bool) (t : Typing) → IsIn r t → Quiet (IsIn r) (base_judged name inline at s p t)
base_good r name inline at true p t h = λ e. h
base_good r name inline at false true t h = λ e. h
base_good r name inline at false false t h = λ e. tt

pub pointer_good : (u : Around) (name : List ℕ) (m : Mark) (base : Written) → IsGood base → (o : Option Ident) → Quiet (IsIn name) (pointer_by u name m base o)
pointer_good u name m base g (Some x) = λ e. record { parts = (part_itself name, tt); differ = (tt, tt) }
pointer_good u name m base g None =
    then_quiet (IsIn (base_name name)) (IsIn name) (base.typing u (base_name name) mark.Hidden true ▷ pointer_base u name (is_none base.name) base.start) (λ t. sound (pointer_to u name m t))
    (then_quiet (IsIn (base_name name)) (IsIn (base_name name)) (base.typing u (base_name name) mark.Hidden true) (pointer_base u name (is_none base.name) base.start) (g u (base_name name) mark.Hidden true)
    (λ t h. base_good (base_name name) name (is_none base.name) base.start (is_structured (map_of (with_types u t.made)) t.of) (is_pointer (map_of (with_types u t.made)) t.of) t h))
    (λ t h. λ e. one_more name 94 (desc.Pointer m t.of) t.made refl refl h)

-- ---- records

-- of a field whose name is none of those
pub record IsOfField (name : List ℕ) (before : List (List ℕ)) (n : List ℕ) : Type 0 where
  pub field : List ℕ
  pub word : IsWord field
  pub new : is_among field before ≡ false
  pub part : IsPart (name ++ 46 ∷ field) n

pub record AreOfFields (name : List ℕ) (before : List (List ℕ)) (ts : List TypedType) : Type 0 where
  pub parts : AllByRecursion (λ t. IsOfField name before t.name) ts
  pub differ : AreDistinct (λ t. t.name) ts

-- a list of names is named by the first, a word
abbrev pub HasFirst : List IdentDef → Type 0
HasFirst [] = ⊥
HasFirst (d ∷ ds) = IsWord d.ident.name

abbrev pub AreGoodFields : List WrittenFields → Type 0
AreGoodFields ls = AllByRecursion (λ l. HasFirst l.names × IsGood l.node) ls

new_or_broken : (a b : Bool) (at : Pos) (f : Field) → (unless (a || b) rule.DeclaredTwice at f).notes.broken ≡ [] → a ≡ false
new_or_broken true b at f e = absurd cc
new_or_broken false b at f e = refl

-- a mark breaks a rule, or is there
marked_new : (u : Around) (level minus : Bool) (at : Pos) (m : Mark) (f : Mark → Judged Field) (Q : Type 0) → ((k : Mark) → (f k).notes.broken ≡ [] → Q) → (mark_of level minus at m ▷ f).notes.broken ≡ [] → Q
marked_new u true true at mark.Full f Q k e = k mark.Full e
marked_new u true true at mark.ReadOnly f Q k e = k mark.ReadOnly e
marked_new u true true at mark.Hidden f Q k e = k mark.Hidden e
marked_new u true false at mark.Full f Q k e = k mark.Full e
marked_new u true false at mark.ReadOnly f Q k e = absurd cc
marked_new u true false at mark.Hidden f Q k e = k mark.Hidden e
marked_new u false minus at mark.Full f Q k e = absurd cc
marked_new u false minus at mark.ReadOnly f Q k e = absurd cc
marked_new u false minus at mark.Hidden f Q k e = k mark.Hidden e

field_new : (u : Around) (base : Option (Option TypeRef)) (before : List (List ℕ)) (d : IdentDef) (t : TypeRef) → (field_declared u base before d t).notes.broken ≡ [] → is_among d.ident.name before ≡ false
field_new u base before d t e =
    let f : Mark → Judged Field = λ m. unless (is_among d.ident.name before || is_some (member_in (map_of u) (record_in (map_of u) base) d.ident.name)) rule.DeclaredTwice d.ident.pos (record { name = d.ident.name; mark = m; place = 0; of = t }) in
    marked_new u (is_module_level u) true d.mark_pos d.mark f (is_among d.ident.name before ≡ false)
    (λ m k. new_or_broken (is_among d.ident.name before) (is_some (member_in (map_of u) (record_in (map_of u) base) d.ident.name)) d.ident.pos (record { name = d.ident.name; mark = m; place = 0; of = t }) k)
    (later_broken (inherits base d.ident) (marked u true d ▷ f) e)

if_new : (u : Around) (base : Option (Option TypeRef)) (before : List (List ℕ)) (d : IdentDef) (o : Option Typing) → (field_if u base before d o).notes.broken ≡ [] → is_among d.ident.name before ≡ false
if_new u base before d (Some t) e = field_new u base before d t.of e
if_new u base before d None e = field_new u base before d (ref.Named (in_unit u [])) (first_quiet (field_declared u base before d (ref.Named (in_unit u []))) (λ f. silent) e)

first_new : (u : Around) (base : Option (Option TypeRef)) (before : List (List ℕ)) (ds : List IdentDef) → HasFirst ds → (o : Option Typing) → (each_sound (fields_of u base before ds o)).notes.broken ≡ [] → is_among (first_name ds) before ≡ false
first_new u base before [] h o e = absurd h
first_new u base before (d ∷ ds) h o e =
    let a = field_if u base before d o in
    let rest = each_sound (fields_of u base (name_in d ∷ before) ds o) in
    if_new u base before d o (front_empty a.notes.broken rest.notes.broken (first_quiet (both a rest) (λ p. sound (p.0 ∷ p.1)) e))

list_good : (u : Around) (name : List ℕ) (base : Option (Option TypeRef)) (before : List (List ℕ)) (ds : List IdentDef) → HasFirst ds → (t : Judged Typing) → Quiet (IsIn (field_name name (first_name ds))) t → Quiet (λ (f : Fields). AreIn (field_name name (first_name ds)) f.made × (is_among (first_name ds) before ≡ false)) (with_fields u base before ds t)
list_good u name base before ds h t g = λ e.
    let r = field_name name (first_name ds) in
    let js = each_sound (fields_of u base before ds t.node) in
    let f : Typing × List Field → Judged Fields = λ p. sound (record { fields = p.1; made = p.0.made }) in
    let quiet = first_quiet (both t js) f e in
    and_there (λ (f : Fields). AreIn r f.made) (is_among (first_name ds) before ≡ false) (with_fields u base before ds t).node
    (then_quiet (λ (p : Typing × List Field). IsIn r p.0 × Anything p.1) (λ (f : Fields). AreIn r f.made) (both t js) f (both_quiet (IsIn r) Anything t js g (any_quiet js)) (λ p k. λ e. k.0) e)
    (first_new u base before ds h t.node (back_empty t.notes.broken js.notes.broken quiet))

-- names before stay among those before
pub behind_has : (ds : List IdentDef) (before : List (List ℕ)) (x : List ℕ) → is_among x before ≡ true → is_among x (names_behind ds before) ≡ true
behind_has [] before x h = h
behind_has (d ∷ ds) before x h = behind_has ds (name_in d ∷ before) x (or_true (bytes_eq (name_in d) x) (is_among x before) h)
  where
    or_true : (a b : Bool) → b ≡ true → (a || b) ≡ true
    or_true true b h = refl
    or_true false b h = h

pub not_behind : (ds : List IdentDef) (before : List (List ℕ)) (x : List ℕ) → is_among x (names_behind ds before) ≡ false → is_among x before ≡ false
not_behind ds before x n = by (is_among x before) refl
  where
    by : (b : Bool) → is_among x before ≡ b → b ≡ false
    by true h = let bad : true ≡ false = sym (behind_has ds before x h) ∙ n in absurd cc
    by false h = refl

first_behind : (ds : List IdentDef) → HasFirst ds → (before : List (List ℕ)) → is_among (first_name ds) (names_behind ds before) ≡ true
first_behind [] h before = absurd h
first_behind (d ∷ ds) h before = behind_has ds (name_in d ∷ before) d.ident.name (ap (λ b. b || is_among d.ident.name before) (bytes_itself d.ident.name))

first_word : (ds : List IdentDef) → HasFirst ds → IsWord (first_name ds)
first_word [] h = absurd h
first_word (d ∷ ds) h = h

-- those of one list differ from those of the lists behind it
apart : (name f : List ℕ) (before : List (List ℕ)) (ts us : List TypedType) → IsWord f → is_among f before ≡ true → AllByRecursion (λ t. IsPart (name ++ 46 ∷ f) t.name) ts → AllByRecursion (λ t. IsOfField name before t.name) us → AreDistinct (λ t. t.name) ts → AreDistinct (λ t. t.name) us → AreDistinct (λ t. t.name) (ts ++ us)
apart name f before [] us w i p q d e = e
apart name f before (t ∷ ts) us w i p q d e = (
  all_both (λ y. y.name ≢ t.name) ts us d.0 (all_from (λ y. IsOfField name before y.name) (λ y. y.name ≢ t.name) (λ y o. parts_apart name o.field f y.name t.name 46 o.word w (other o.field o.new) o.part p.0) us q),
  apart name f before ts us w i p.1 q d.1 e,
)
  where
    other : (g : List ℕ) → is_among g before ≡ false → g ≢ f
    other g n same = let bad : true ≡ false = sym i ∙ ap (λ x. is_among x before) (sym same) ∙ n in absurd cc

lists_good : (ls : List WrittenFields) → AreGoodFields ls → (u : Around) (name : List ℕ) (base : Option (Option TypeRef)) (before : List (List ℕ)) → Quiet (λ (f : Fields). AreOfFields name before f.made) (field_lists u name base before ls)
lists_good [] g u name base before = λ e. record { parts = tt; differ = tt }
lists_good (l ∷ ls) g u name base before =
    let r = field_name name (first_name l.names) in
    let t = l.node.typing u r mark.Hidden false in
    let a = with_fields u base before l.names t in
    let behind = names_behind l.names before in
    let b = field_lists u name base behind ls in
    let f : Fields × Fields → Judged Fields = λ p. sound (fields_joined p.0 p.1) in
    then_quiet (λ (p : Fields × Fields). (AreIn r p.0.made × (is_among (first_name l.names) before ≡ false)) × AreOfFields name behind p.1.made) (λ (f : Fields). AreOfFields name before f.made) (both a b) f
    (both_quiet (λ (f : Fields). AreIn r f.made × (is_among (first_name l.names) before ≡ false)) (λ (f : Fields). AreOfFields name behind f.made) a b (list_good u name base before l.names g.0.0 t (g.0.1 u r mark.Hidden false)) (lists_good ls g.1 u name base behind))
    (λ p h. λ e.
    let w = first_word l.names g.0.0 in
    let mine = behind_mark name (first_name l.names) 46 p.0.made h.0.0.parts in
    record {
      parts = all_both (λ t. IsOfField name before t.name) p.0.made p.1.made
          (all_from (λ t. IsPart (name ++ 46 ∷ first_name l.names) t.name) (λ t. IsOfField name before t.name) (λ t k. record { field = first_name l.names; word = w; new = h.0.1; part = k }) p.0.made mine)
          (all_from (λ t. IsOfField name behind t.name) (λ t. IsOfField name before t.name) (λ t o. record { field = o.field; word = o.word; new = not_behind l.names before o.field o.new; part = o.part }) p.1.made h.1.parts);
      differ = apart name (first_name l.names) behind p.0.made p.1.made w (first_behind l.names g.0.0 before) mine h.1.parts h.0.0.differ h.1.differ;
    })

pub record_good : (u : Around) (name : List ℕ) (m : Mark) (lists : List WrittenFields) → AreGoodFields lists → (base : Judged (Option TypeRef)) → Quiet (IsIn name) (record_with u name m lists base)
record_good u name m lists g base =
    let fs = field_lists u name base.node [] lists in
    then_quiet (λ (p : Option TypeRef × Fields). Anything p.0 × AreOfFields name [] p.1.made) (IsIn name) (both base fs) (λ p. sound (typed_as u name (record_desc m p.0 p.1.fields) p.1.made))
    (both_quiet Anything (λ (f : Fields). AreOfFields name [] f.made) base fs (any_quiet base) (lists_good lists g u name base.node []))
    (λ p h. λ e. record {
      parts = (part_itself name, all_from (λ t. IsOfField name [] t.name) (λ t. IsPart name t.name) (λ t o. part_within name o.field t.name 46 refl refl o.word o.part) p.1.made h.1.parts);
      differ = (all_from (λ t. IsOfField name [] t.name) (λ t. t.name ≢ name) (λ t o. part_longer name o.field t.name 46 o.part) p.1.made h.1.parts, h.1.differ);
    })

-- ---- parameters

-- of a section that is the i-th or behind it
pub record IsOfSection (name : List ℕ) (i : ℕ) (n : List ℕ) : Type 0 where
  pub at : ℕ
  pub behind : i ≤ at
  pub small : at < 2 ^ 64
  pub part : IsPart (name ++ 40 ∷ decimal at) n

pub record AreOfSections (name : List ℕ) (i : ℕ) (ts : List TypedType) : Type 0 where
  pub parts : AllByRecursion (λ t. IsOfSection name i t.name) ts
  pub differ : AreDistinct (λ t. t.name) ts

abbrev pub ParametersIn : List ℕ → ℕ → Parameters → Type 0
ParametersIn name i p = AreOfSections name i p.made

abbrev pub AreGoodSections : List WrittenSection → Type 0
AreGoodSections ss = AllByRecursion (λ s. (1 ≤ length s.names) × IsGood s.node) ss

-- how many names sections have
abbrev pub names_of : List WrittenSection → ℕ
names_of ss = sum_of (λ s. length s.names) ss

sections_apart : (name : List ℕ) (i : ℕ) (ts us : List TypedType) → i < 2 ^ 64 → AllByRecursion (λ t. IsPart (name ++ 40 ∷ decimal i) t.name) ts → AllByRecursion (λ t. IsOfSection name (suc i) t.name) us → AreDistinct (λ t. t.name) ts → AreDistinct (λ t. t.name) us → AreDistinct (λ t. t.name) (ts ++ us)
sections_apart name i [] us s p q d e = e
sections_apart name i (t ∷ ts) us s p q d e = (
  all_both (λ y. y.name ≢ t.name) ts us d.0 (all_from (λ y. IsOfSection name (suc i) y.name) (λ y. y.name ≢ t.name) (λ y o. parts_apart name (decimal o.at) (decimal i) y.name t.name 40 (decimal_word o.at o.small) (decimal_word i s) (decimal_differs o.at i o.small s (λ same. let b = o.behind in omega (arith, same, b))) o.part p.0) us q),
  sections_apart name i ts us s p.1 q d.1 e,
)

sections_good : (ss : List WrittenSection) → AreGoodSections ss → (u : Around) (name : List ℕ) (i : ℕ) → i + names_of ss < 2 ^ 64 → Quiet (ParametersIn name i) (sections u name i ss).found
sections_good [] g u name i few = λ e. record { parts = tt; differ = tt }
sections_good (s ∷ ss) g u name i few =
    let t = s.node.typing u (section_name name i) mark.Hidden true in
    let n = declare_all u (mode_of s.is_var) t.node s.names in
    let v = with_made n.around t.node in
    let k = i + length s.names in
    let some : 1 ≤ length s.names = g.0.0 in
    let here : i < 2 ^ 64 = omega (arith, few, some) in
    let rest = (sections v name k ss).found in
    let mine : Judged Parameters = made (parameters_of u (mode_of s.is_var) s.names) t in
    let f : Parameters × Parameters → Judged Parameters = λ q. sound (parameters_joined q.0 q.1) in
    then_quiet (λ (p : Parameters × Parameters). AreIn (section_name name i) p.0.made × ParametersIn name k p.1) (ParametersIn name i) (both (behind_quiet n.notes mine) rest) f
    (both_quiet (λ (p : Parameters). AreIn (section_name name i) p.made) (ParametersIn name k) (behind_quiet n.notes mine) rest
    (λ e. quiet_has (λ (p : Parameters). AreIn (section_name name i) p.made) n.notes mine (then_quiet (IsIn (section_name name i)) (λ (p : Parameters). AreIn (section_name name i) p.made) t (λ x. sound (parameters_of u (mode_of s.is_var) s.names x)) (g.0.1 u (section_name name i) mark.Hidden true) (λ x h. λ e. h) (back_empty n.notes.broken mine.notes.broken e)))
    (sections_good ss g.1 v name k (omega (arith, few))))
    (λ p h. λ e. let own = behind_mark name (decimal i) 40 p.0.made h.0.parts in record {
      parts = all_both (λ t. IsOfSection name i t.name) p.0.made p.1.made
          (all_from (λ t. IsPart (name ++ 40 ∷ decimal i) t.name) (λ t. IsOfSection name i t.name) (λ t q. record { at = i; behind = omega arith; small = here; part = q }) p.0.made own)
          (all_from (λ t. IsOfSection name k t.name) (λ t. IsOfSection name i t.name) (λ t o. record { at = o.at; behind = let b = o.behind in omega (arith, b); small = o.small; part = o.part }) p.1.made h.1.parts);
      differ = sections_apart name i p.0.made p.1.made here own
          (all_from (λ t. IsOfSection name k t.name) (λ t. IsOfSection name (suc i) t.name) (λ t o. record { at = o.at; behind = let b = o.behind in omega (arith, b, some); small = o.small; part = o.part }) p.1.made h.1.parts)
          h.0.differ h.1.differ;
    })

pub parameters_good : (u : Around) (name : List ℕ) (p : WrittenParameters) → AreGoodSections p.sections → 1 + names_of p.sections < 2 ^ 64 → Quiet (ParametersIn name 1) (parameters_in u name p).found
parameters_good u name p g few =
    let s = sections u name 1 p.sections in
    let r = result_of (record u { known = s.known }) p.result in
    then_quiet (λ (q : Parameters × Option TypeRef). ParametersIn name 1 q.0 × Anything q.1) (ParametersIn name 1) (both s.found r) (λ q. sound (with_result q.0 q.1))
    (both_quiet (ParametersIn name 1) Anything s.found r (sections_good p.sections g u name 1 few) (any_quiet r))
    (λ q h. λ e. record { parts = h.0.parts; differ = h.0.differ })

-- those of parameters are of the part of their name
pub section_part : (name : List ℕ) (i : ℕ) (n : List ℕ) → IsOfSection name i n → IsPart name n
section_part name i n o = part_within name (decimal o.at) n 40 refl refl (decimal_word o.at o.small) o.part

pub type_good : (u : Around) (name : List ℕ) (m : Mark) (p : WrittenParameters) → AreGoodSections p.sections → 1 + names_of p.sections < 2 ^ 64 → Quiet (IsIn name) (procedure_type u name m p)
type_good u name m p g few =
    then_quiet (ParametersIn name 1) (IsIn name) (parameters_in (inner u) name p).found (λ q. sound (typed_as u name (desc.ProcType m q.signature) q.made)) (parameters_good (inner u) name p g few)
    (λ q h. λ e. record {
      parts = (part_itself name, all_from (λ t. IsOfSection name 1 t.name) (λ t. IsPart name t.name) (λ t o. section_part name 1 t.name o) q.made h.parts);
      differ = (all_from (λ t. IsOfSection name 1 t.name) (λ t. t.name ≢ name) (λ t o. part_longer name (decimal o.at) t.name 40 o.part) q.made h.parts, h.differ);
    })
