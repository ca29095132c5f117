-- The records that a written type makes have fields of different names.
use Rattle.std.proofs.Common.{◌≡◌, ◌≢◌, ℕ, ◌+◌, Bool, true, false, List, [], ◌∷◌, length, Option, Some, None, refl, sym, ap, ◌∙◌}
use Rattle.std.specs.Prelude.{is_none, is_some, bytes_eq, ◌||◌}
use Rattle.std.specs.List.{AllByRecursion}
use Rattle.ob_tree.specs.declared.pos.Pos.{Pos}
use Rattle.ob_tree.specs.declared.ident.Ident.{Ident}
use Rattle.ob_tree.specs.declared.ident.IdentDef.{IdentDef}
use Rattle.ob_tree.specs.declared.ident.Mark.{Mark}
use Rattle.ob_tree.specs.declared.ident.Mark.TheVariants as mark
use Rattle.ob_tree.specs.declared.ident.Qualident.{Qualident}
use Rattle.ob_types.specs.declared.types.TypeRef.{TypeRef}
use Rattle.ob_types.specs.declared.types.TypeRef.TheVariants as ref
use Rattle.ob_types.specs.declared.desc.Field.{Field}
use Rattle.ob_types.specs.declared.desc.Desc.TheVariants as desc
use Rattle.ob_rules.specs.declared.broken.Rule.TheVariants as rule
use Rattle.ob_rules.specs.Judged.{Judged, sound, silent, both, made, unless, ◌▷◌, behind_quiet}
use Rattle.ob_rules.specs.Names.{Around, map_of, in_unit, is_among, type_named}
use Rattle.ob_rules.specs.Phrases.{Phrase}
use Rattle.ob_rules.specs.Shapes.{is_structured, is_pointer}
use Rattle.ob_rules.specs.Types.{Typing, Written, typed_as, with_types, base_name, element_name, field_name, section_name, marked, member_in, record_in, inherits, field_declared, field_if, name_in, fields_joined, named_typing, array_length, fixed_array, array, first_of, names_behind, WrittenFields, first_name, Fields, fields_of, with_fields, field_lists, record_with, record_desc, pointer_to, base_judged, pointer_base, pointer_by, Parameters, WrittenSection, WrittenParameters, mode_of, declare_all, parameters_of, with_made, sections, result_of, parameters_in, inner, procedure_type}
use Rattle.law_names_distinct.specs.Fields.{FieldsDiffer, AreApart}
use Rattle.law_methods_described.proofs.Nodes.{Has, then_has, any_then, both_have, first_has, second_has, also_has, unless_has, later_has, quiet_has}
use Rattle.law_names_distinct.specs.Distinct.{AreDistinct}
use Rattle.law_names_distinct.proofs.Fresh.{distinct_both}
use Rattle.law_names_distinct.proofs.Typings.{behind_has, not_behind}
use Rattle.ob_rules.specs.Judged.{each_sound}
use Rattle.law_lists.proofs.Lists.{all_both, all_from, bytes_itself, or_parts}

abbrev pub MakesApart : Typing → Type 0
MakesApart t = AreApart t.made

-- whatever stands around, a written type makes types
abbrev pub IsGood : Written → Type 0
IsGood w = (u : Around) (name : List ℕ) (m : Mark) (open_ok : Bool) → Has MakesApart (w.typing u name m open_ok)

abbrev pub AreGoodFields : List WrittenFields → Type 0
AreGoodFields ls = AllByRecursion (λ l. IsGood l.node) ls

abbrev pub AreGoodSections : List WrittenSection → Type 0
AreGoodSections ss = AllByRecursion (λ s. IsGood s.node) ss

abbrev pub MakeApart : Parameters → Type 0
MakeApart p = AreApart p.made

named_good : (u : Around) (at : Pos) (open_ok : Bool) (t : TypeRef) → Has MakesApart (named_typing u at open_ok t)
named_good u at open_ok t = unless_has MakesApart _ rule.MisplacedOpenArray at _ tt

fixed_good : (ls : List Phrase) (element : Written) → IsGood element → (u : Around) (name : List ℕ) (m : Mark) → Has MakesApart (fixed_array u name m ls element)
fixed_good [] element g u name m = g u name m false
fixed_good (l ∷ ls) element g u name m =
    then_has (λ p. Unit {0} × MakesApart p.1) MakesApart (both (array_length u l) (fixed_array u (element_name name) mark.Hidden ls element)) (λ p. sound (typed_as u name (desc.Array m p.0 p.1.of) p.1.made))
    (second_has MakesApart (array_length u l) (fixed_array u (element_name name) mark.Hidden ls element) (fixed_good ls element g u (element_name name) mark.Hidden))
    (λ p h. (tt, h.1))

pub array_good : (ls : List Phrase) (at : Pos) (element : Written) → IsGood element → (u : Around) (name : List ℕ) (m : Mark) (open_ok : Bool) → Has MakesApart (array u name m at open_ok ls element)
array_good [] at element g u name m open_ok =
    also_has MakesApart _ rule.MisplacedOpenArray at _
    (then_has MakesApart MakesApart (element.typing u (element_name name) mark.Hidden element.open_array) (λ t. sound (typed_as u name (desc.OpenArray m t.of) t.made)) (g u (element_name name) mark.Hidden element.open_array) (λ t h. (tt, h)))
array_good (l ∷ ls) at element g u name m open_ok = fixed_good (l ∷ ls) element g u name m

-- different names, none of which is among those before
record AreNew (before : List (List ℕ)) (fs : List Field) : Type 0 where
  new : AllByRecursion (λ f. is_among f.name before ≡ false) fs
  differ : AreDistinct (λ f. f.name) fs

record IsGoodFields (before : List (List ℕ)) (f : Fields) : Type 0 where
  made : AreApart f.made
  fields : AreNew before f.fields

-- a field has its name, which is new
IsField : IdentDef → List (List ℕ) → Field → Type 0
IsField d before f = (f.name ≡ d.ident.name) × (is_among d.ident.name before ≡ false)

new_field : (a b : Bool) (d : IdentDef) (before : List (List ℕ)) (at : Pos) (f : Field) → is_among d.ident.name before ≡ a → f.name ≡ d.ident.name → Has (IsField d before) (unless (a || b) rule.DeclaredTwice at f)
unfolding IsField
new_field true b d before at f e n = tt
new_field false true d before at f e n = tt
new_field false false d before at f e n = (n, e)

field_is : (u : Around) (base : Option (Option TypeRef)) (before : List (List ℕ)) (d : IdentDef) (t : TypeRef) → Has (IsField d before) (field_declared u base before d t)
field_is u base before d t =
    let f : Mark → Judged Field = λ m. unless (is_among d.ident.name before || is_some (member_in (map_of u) (record_in (map_of u) base) d.ident.name)) rule.DeclaredTwice d.ident.pos (record { name = d.ident.name; mark = m; place = 0; of = t }) in
    later_has (IsField d before) (inherits base d.ident) (marked u true d ▷ f)
    (any_then (IsField d before) (marked u true d) f (λ m. new_field (is_among d.ident.name before) (is_some (member_in (map_of u) (record_in (map_of u) base) d.ident.name)) d before d.ident.pos (record { name = d.ident.name; mark = m; place = 0; of = t }) refl refl))

field_if_is : (u : Around) (base : Option (Option TypeRef)) (before : List (List ℕ)) (d : IdentDef) (o : Option Typing) → Has (IsField d before) (field_if u base before d o)
field_if_is u base before d (Some t) = field_is u base before d t.of
field_if_is u base before d None = any_then (IsField d before) (field_declared u base before d (ref.Named (in_unit u []))) (λ f. silent) (λ f. tt)

-- of the names that a list of fields has, each field has its own
fields_new : (u : Around) (base : Option (Option TypeRef)) (before : List (List ℕ)) (ds : List IdentDef) (t : Option Typing) → Has (λ fs. AreNew before fs × AllByRecursion (λ f. is_among f.name (names_behind ds before) ≡ true) fs) (each_sound (fields_of u base before ds t))
unfolding IsField
fields_new u base before [] t = (record { new = tt; differ = tt }, tt)
fields_new u base before (d ∷ ds) t =
    let a = field_if u base before d t in
    let rest = each_sound (fields_of u base (name_in d ∷ before) ds t) in
    then_has (λ (p : Field × List Field). IsField d before p.0 × (AreNew (name_in d ∷ before) p.1 × AllByRecursion (λ f. is_among f.name (names_behind ds (name_in d ∷ before)) ≡ true) p.1)) (λ fs. AreNew before fs × AllByRecursion (λ f. is_among f.name (names_behind (d ∷ ds) before) ≡ true) fs) (both a rest) (λ p. sound (p.0 ∷ p.1))
    (both_have (IsField d before) (λ fs. AreNew (name_in d ∷ before) fs × AllByRecursion (λ f. is_among f.name (names_behind ds (name_in d ∷ before)) ≡ true) fs) a rest (field_if_is u base before d t) (fields_new u base (name_in d ∷ before) ds t))
    (λ p h.
    let same : p.0.name ≡ d.ident.name = h.0.0 in (
      record {
        new = (ap (λ x. is_among x before) same ∙ h.0.1, all_from (λ f. is_among f.name (name_in d ∷ before) ≡ false) (λ f. is_among f.name before ≡ false) (λ f n. (or_parts (bytes_eq (name_in d) f.name) (is_among f.name before) n).1) p.1 h.1.0.new);
        differ = (all_from (λ f. is_among f.name (name_in d ∷ before) ≡ false) (λ f. f.name ≢ p.0.name) (λ f n e. let k = (or_parts (bytes_eq (name_in d) f.name) (is_among f.name before) n).0 in let bad : true ≡ false = sym (bytes_itself (name_in d)) ∙ ap (bytes_eq (name_in d)) (sym (e ∙ same)) ∙ k in absurd cc) p.1 h.1.0.new, h.1.0.differ);
      },
      (ap (λ x. is_among x (names_behind ds (name_in d ∷ before))) same ∙ behind_has ds (name_in d ∷ before) d.ident.name (ap (λ b. b || is_among d.ident.name before) (bytes_itself d.ident.name)), h.1.1),
    ))

fields_good : (u : Around) (base : Option (Option TypeRef)) (before : List (List ℕ)) (ds : List IdentDef) (t : Judged Typing) → Has MakesApart t → Has (λ (f : Fields). IsGoodFields before f × AllByRecursion (λ g. is_among g.name (names_behind ds before) ≡ true) f.fields) (with_fields u base before ds t)
fields_good u base before ds t g =
    let js = each_sound (fields_of u base before ds t.node) in
    let NewFields : List Field → Type 0 = λ fs. AreNew before fs × AllByRecursion (λ f. is_among f.name (names_behind ds before) ≡ true) fs in
    then_has (λ (p : Typing × List Field). MakesApart p.0 × NewFields p.1) (λ (f : Fields). IsGoodFields before f × AllByRecursion (λ g. is_among g.name (names_behind ds before) ≡ true) f.fields) (both t js) (λ p. sound (record { fields = p.1; made = p.0.made }))
    (both_have MakesApart NewFields t js g (fields_new u base before ds t.node)) (λ p h. (record { made = h.0; fields = h.1.0 }, h.1.1))

lists_good : (ls : List WrittenFields) → AreGoodFields ls → (u : Around) (name : List ℕ) (base : Option (Option TypeRef)) (before : List (List ℕ)) → Has (IsGoodFields before) (field_lists u name base before ls)
lists_good [] g u name base before = record { made = tt; fields = record { new = tt; differ = tt } }
lists_good (l ∷ ls) g u name base before =
    let t = l.node.typing u (field_name name (first_name l.names)) mark.Hidden false in
    let a = with_fields u base before l.names t in
    let behind = names_behind l.names before in
    let b = field_lists u name base behind ls in
    let First : Fields → Type 0 = λ f. IsGoodFields before f × AllByRecursion (λ g. is_among g.name behind ≡ true) f.fields in
    then_has (λ (p : Fields × Fields). First p.0 × IsGoodFields behind p.1) (IsGoodFields before) (both a b) (λ p. sound (fields_joined p.0 p.1))
    (both_have First (IsGoodFields behind) a b (fields_good u base before l.names t (g.0 u (field_name name (first_name l.names)) mark.Hidden false)) (lists_good ls g.1 u name base behind))
    (λ p h. record {
      made = all_both (λ t. FieldsDiffer t.desc) p.0.made p.1.made h.0.0.made h.1.made;
      fields = record {
        new = all_both (λ f. is_among f.name before ≡ false) p.0.fields p.1.fields h.0.0.fields.new (all_from (λ f. is_among f.name behind ≡ false) (λ f. is_among f.name before ≡ false) (λ f n. not_behind l.names before f.name n) p.1.fields h.1.fields.new);
        differ = distinct_both (λ f. f.name) (λ x. is_among x behind) p.0.fields p.1.fields h.0.0.fields.differ h.1.fields.differ h.0.1 h.1.fields.new;
      };
    })

pub record_good : (u : Around) (name : List ℕ) (m : Mark) (lists : List WrittenFields) → AreGoodFields lists → (base : Judged (Option TypeRef)) → Has MakesApart (record_with u name m lists base)
record_good u name m lists g base =
    then_has (λ (p : Option TypeRef × Fields). Unit {0} × IsGoodFields [] p.1) MakesApart (both base (field_lists u name base.node [] lists)) (λ p. sound (typed_as u name (record_desc m p.0 p.1.fields) p.1.made))
    (second_has (IsGoodFields []) base (field_lists u name base.node [] lists) (lists_good lists g u name base.node []))
    (λ p h. (h.1.fields.differ, h.1.made))

base_good : (name : List ℕ) (inline : Bool) (at : Pos) (s p : Bool) (t : Typing) → MakesApart t → Has MakesApart (base_judged name inline at s p t)
base_good name inline at true p t h = h
base_good name inline at false true t h = h
base_good name inline at false false t h = tt

pub pointer_good : (u : Around) (name : List ℕ) (m : Mark) (base : Written) → IsGood base → (o : Option Ident) → Has MakesApart (pointer_by u name m base o)
pointer_good u name m base g (Some x) = (tt, tt)
pointer_good u name m base g None =
    then_has MakesApart MakesApart (base.typing u (base_name name) mark.Hidden true ▷ pointer_base u name (is_none base.name) base.start) (λ t. sound (pointer_to u name m t))
    (then_has MakesApart MakesApart (base.typing u (base_name name) mark.Hidden true) (pointer_base u name (is_none base.name) base.start) (g u (base_name name) mark.Hidden true)
    (λ t h. base_good name (is_none base.name) base.start (is_structured (map_of (with_types u t.made)) t.of) (is_pointer (map_of (with_types u t.made)) t.of) t h))
    (λ t h. (tt, h))

-- ---- parameters

sections_good : (ss : List WrittenSection) → AreGoodSections ss → (u : Around) (name : List ℕ) (i : ℕ) → Has MakeApart (sections u name i ss).found
sections_good [] g u name i = tt
sections_good (s ∷ ss) g u name i =
    let t = s.node.typing u (section_name name i) mark.Hidden true in
    let n = declare_all u (mode_of s.is_var) t.node s.names in
    let v = with_made n.around t.node in
    let rest = (sections v name (i + length s.names) ss).found in
    let mine : Judged Parameters = made (parameters_of u (mode_of s.is_var) s.names) t in
    then_has (λ (p : Parameters × Parameters). MakeApart p.0 × MakeApart p.1) MakeApart (both (behind_quiet n.notes mine) rest) _
    (both_have MakeApart MakeApart (behind_quiet n.notes mine) rest (quiet_has MakeApart n.notes mine (then_has MakesApart MakeApart t (λ x. sound (parameters_of u (mode_of s.is_var) s.names x)) (g.0 u (section_name name i) mark.Hidden true) (λ x h. h))) (sections_good ss g.1 v name (i + length s.names)))
    (λ p h. all_both (λ t. FieldsDiffer t.desc) p.0.made p.1.made h.0 h.1)

pub parameters_good : (u : Around) (name : List ℕ) (p : WrittenParameters) → AreGoodSections p.sections → Has MakeApart (parameters_in u name p).found
parameters_good u name p g =
    let s = sections u name 1 p.sections in
    then_has (λ (q : Parameters × Option TypeRef). MakeApart q.0 × Unit {0}) MakeApart (both s.found (result_of (record u { known = s.known }) p.result)) _
    (first_has MakeApart s.found (result_of (record u { known = s.known }) p.result) (sections_good p.sections g u name 1))
    (λ q h. h.0)

pub type_good : (u : Around) (name : List ℕ) (m : Mark) (p : WrittenParameters) → AreGoodSections p.sections → Has MakesApart (procedure_type u name m p)
type_good u name m p g = then_has MakeApart MakesApart (parameters_in (inner u) name p).found (λ q. sound (typed_as u name (desc.ProcType m q.signature) q.made)) (parameters_good (inner u) name p g) (λ q h. (tt, h))

pub name_good : (q : Qualident) (u : Around) (open_ok : Bool) → Has MakesApart (type_named u q ▷ named_typing u (first_of q) open_ok)
name_good q u open_ok = any_then MakesApart (type_named u q) (named_typing u (first_of q) open_ok) (λ t. named_good u (first_of q) open_ok t)
