-- The types that a written type makes are described as types.
use Rattle.std.proofs.Common.{◌≡◌, ℕ, ◌+◌, Bool, true, false, List, [], ◌∷◌, length, Option, Some, None, refl}
use Rattle.std.specs.Prelude.{is_none}
use Rattle.std.specs.List.{AllByRecursion}
use Rattle.ob_tree.specs.declared.pos.Pos.{Pos}
use Rattle.ob_tree.specs.declared.ident.Ident.{Ident}
use Rattle.ob_tree.specs.declared.ident.IdentDef.{IdentDef}
use Rattle.ob_tree.specs.declared.ident.Mark.{Mark}
use Rattle.ob_tree.specs.declared.ident.Mark.TheVariants as mark
use Rattle.ob_tree.specs.declared.ident.Qualident.{Qualident}
use Rattle.ob_types.specs.declared.types.TypeRef.{TypeRef}
use Rattle.ob_types.specs.declared.desc.Desc.TheVariants as desc
use Rattle.ob_types.specs.Maps.{is_type}
use Rattle.ob_rules.specs.declared.broken.Rule.TheVariants as rule
use Rattle.ob_rules.specs.Judged.{Judged, sound, both, made, ◌▷◌, behind_quiet}
use Rattle.ob_rules.specs.Names.{Around, map_of, type_named}
use Rattle.ob_rules.specs.Phrases.{Phrase}
use Rattle.ob_rules.specs.Shapes.{is_structured, is_pointer}
use Rattle.ob_rules.specs.Types.{Typing, Written, typed_as, with_types, base_name, element_name, field_name, section_name, named_typing, array_length, fixed_array, array, first_of, names_behind, WrittenFields, first_name, Fields, fields_of, with_fields, field_lists, record_with, record_desc, pointer_to, base_judged, pointer_base, pointer_by, Parameters, WrittenSection, WrittenParameters, mode_of, declare_all, parameters_of, with_made, sections, result_of, parameters_in, inner, procedure_type}
use Rattle.law_methods_described.specs.Described.{AreTypes}
use Rattle.law_methods_described.proofs.Nodes.{Has, then_has, any_then, both_have, first_has, second_has, also_has, unless_has, quiet_has}
use Rattle.ob_rules.specs.Judged.{each_sound}
use Rattle.law_lists.proofs.Lists.{all_both}

abbrev pub MakesTypes : Typing → Type 0
MakesTypes t = AreTypes t.made

-- whatever stands around, a written type makes types
abbrev pub IsGood : Written → Type 0
IsGood w = (u : Around) (name : List ℕ) (m : Mark) (open_ok : Bool) → Has MakesTypes (w.typing u name m open_ok)

abbrev pub AreGoodFields : List WrittenFields → Type 0
AreGoodFields ls = AllByRecursion (λ l. IsGood l.node) ls

abbrev pub AreGoodSections : List WrittenSection → Type 0
AreGoodSections ss = AllByRecursion (λ s. IsGood s.node) ss

abbrev pub MakeTypes : Parameters → Type 0
MakeTypes p = AreTypes p.made

named_good : (u : Around) (at : Pos) (open_ok : Bool) (t : TypeRef) → Has MakesTypes (named_typing u at open_ok t)
named_good u at open_ok t = unless_has MakesTypes _ rule.MisplacedOpenArray at _ tt

fixed_good : (ls : List Phrase) (element : Written) → IsGood element → (u : Around) (name : List ℕ) (m : Mark) → Has MakesTypes (fixed_array u name m ls element)
fixed_good [] element g u name m = g u name m false
fixed_good (l ∷ ls) element g u name m =
    then_has (λ p. Unit {0} × MakesTypes p.1) MakesTypes (both (array_length u l) (fixed_array u (element_name name) mark.Hidden ls element)) (λ p. sound (typed_as u name (desc.Array m p.0 p.1.of) p.1.made))
    (second_has MakesTypes (array_length u l) (fixed_array u (element_name name) mark.Hidden ls element) (fixed_good ls element g u (element_name name) mark.Hidden))
    (λ p h. (refl, h.1))

pub array_good : (ls : List Phrase) (at : Pos) (element : Written) → IsGood element → (u : Around) (name : List ℕ) (m : Mark) (open_ok : Bool) → Has MakesTypes (array u name m at open_ok ls element)
array_good [] at element g u name m open_ok =
    also_has MakesTypes _ rule.MisplacedOpenArray at _
    (then_has MakesTypes MakesTypes (element.typing u (element_name name) mark.Hidden element.open_array) (λ t. sound (typed_as u name (desc.OpenArray m t.of) t.made)) (g u (element_name name) mark.Hidden element.open_array) (λ t h. (refl, h)))
array_good (l ∷ ls) at element g u name m open_ok = fixed_good (l ∷ ls) element g u name m

fields_good : (u : Around) (base : Option (Option TypeRef)) (before : List (List ℕ)) (ds : List IdentDef) (t : Judged Typing) → Has MakesTypes t → Has (λ (f : Fields). AreTypes f.made) (with_fields u base before ds t)
fields_good u base before ds t g =
    then_has (λ p. MakesTypes p.0 × Unit {0}) (λ (f : Fields). AreTypes f.made) (both t (each_sound (fields_of u base before ds t.node))) (λ p. sound (record { fields = p.1; made = p.0.made }))
    (first_has MakesTypes t (each_sound (fields_of u base before ds t.node)) g) (λ p h. h.0)

lists_good : (ls : List WrittenFields) → AreGoodFields ls → (u : Around) (name : List ℕ) (base : Option (Option TypeRef)) (before : List (List ℕ)) → Has (λ (f : Fields). AreTypes f.made) (field_lists u name base before ls)
lists_good [] g u name base before = tt
lists_good (l ∷ ls) g u name base before =
    let a = with_fields u base before l.names (l.node.typing u (field_name name (first_name l.names)) mark.Hidden false) in
    let b = field_lists u name base (names_behind l.names before) ls in
    then_has (λ (p : Fields × Fields). AreTypes p.0.made × AreTypes p.1.made) (λ (f : Fields). AreTypes f.made) (both a b) _
    (both_have (λ (f : Fields). AreTypes f.made) (λ (f : Fields). AreTypes f.made) a b (fields_good u base before l.names (l.node.typing u (field_name name (first_name l.names)) mark.Hidden false) (g.0 u (field_name name (first_name l.names)) mark.Hidden false)) (lists_good ls g.1 u name base (names_behind l.names before)))
    (λ p h. all_both (λ t. is_type t.desc ≡ true) p.0.made p.1.made h.0 h.1)

pub record_good : (u : Around) (name : List ℕ) (m : Mark) (lists : List WrittenFields) → AreGoodFields lists → (base : Judged (Option TypeRef)) → Has MakesTypes (record_with u name m lists base)
record_good u name m lists g base =
    then_has (λ (p : Option TypeRef × Fields). Unit {0} × AreTypes p.1.made) MakesTypes (both base (field_lists u name base.node [] lists)) (λ p. sound (typed_as u name (record_desc m p.0 p.1.fields) p.1.made))
    (second_has (λ (f : Fields). AreTypes f.made) base (field_lists u name base.node [] lists) (lists_good lists g u name base.node []))
    (λ p h. (refl, h.1))

base_good : (name : List ℕ) (inline : Bool) (at : Pos) (s p : Bool) (t : Typing) → MakesTypes t → Has MakesTypes (base_judged name inline at s p t)
base_good name inline at true p t h = h
base_good name inline at false true t h = h
base_good name inline at false false t h = tt

pub pointer_good : (u : Around) (name : List ℕ) (m : Mark) (base : Written) → IsGood base → (o : Option Ident) → Has MakesTypes (pointer_by u name m base o)
pointer_good u name m base g (Some x) = (refl, tt)
pointer_good u name m base g None =
    then_has MakesTypes MakesTypes (base.typing u (base_name name) mark.Hidden true ▷ pointer_base u name (is_none base.name) base.start) (λ t. sound (pointer_to u name m t))
    (then_has MakesTypes MakesTypes (base.typing u (base_name name) mark.Hidden true) (pointer_base u name (is_none base.name) base.start) (g u (base_name name) mark.Hidden true)
    (λ t h. base_good name (is_none base.name) base.start (is_structured (map_of (with_types u t.made)) t.of) (is_pointer (map_of (with_types u t.made)) t.of) t h))
    (λ t h. (refl, h))

-- ---- parameters

sections_good : (ss : List WrittenSection) → AreGoodSections ss → (u : Around) (name : List ℕ) (i : ℕ) → Has MakeTypes (sections u name i ss).found
sections_good [] g u name i = tt
sections_good (s ∷ ss) g u name i =
    let t = s.node.typing u (section_name name i) mark.Hidden true in
    let n = declare_all u (mode_of s.is_var) t.node s.names in
    let v = with_made n.around t.node in
    let rest = (sections v name (i + length s.names) ss).found in
    let mine : Judged Parameters = made (parameters_of u (mode_of s.is_var) s.names) t in
    then_has (λ (p : Parameters × Parameters). MakeTypes p.0 × MakeTypes p.1) MakeTypes (both (behind_quiet n.notes mine) rest) _
    (both_have MakeTypes MakeTypes (behind_quiet n.notes mine) rest (quiet_has MakeTypes n.notes mine (then_has MakesTypes MakeTypes t (λ x. sound (parameters_of u (mode_of s.is_var) s.names x)) (g.0 u (section_name name i) mark.Hidden true) (λ x h. h))) (sections_good ss g.1 v name (i + length s.names)))
    (λ p h. all_both (λ t. is_type t.desc ≡ true) p.0.made p.1.made h.0 h.1)

pub parameters_good : (u : Around) (name : List ℕ) (p : WrittenParameters) → AreGoodSections p.sections → Has MakeTypes (parameters_in u name p).found
parameters_good u name p g =
    let s = sections u name 1 p.sections in
    then_has (λ (q : Parameters × Option TypeRef). MakeTypes q.0 × Unit {0}) MakeTypes (both s.found (result_of (record u { known = s.known }) p.result)) _
    (first_has MakeTypes s.found (result_of (record u { known = s.known }) p.result) (sections_good p.sections g u name 1))
    (λ q h. h.0)

pub type_good : (u : Around) (name : List ℕ) (m : Mark) (p : WrittenParameters) → AreGoodSections p.sections → Has MakesTypes (procedure_type u name m p)
type_good u name m p g = then_has MakeTypes MakesTypes (parameters_in (inner u) name p).found (λ q. sound (typed_as u name (desc.ProcType m q.signature) q.made)) (parameters_good (inner u) name p g) (λ q h. (refl, h))

pub name_good : (q : Qualident) (u : Around) (open_ok : Bool) → Has MakesTypes (type_named u q ▷ named_typing u (first_of q) open_ok)
name_good q u open_ok = any_then MakesTypes (type_named u q) (named_typing u (first_of q) open_ok) (λ t. named_good u (first_of q) open_ok t)
