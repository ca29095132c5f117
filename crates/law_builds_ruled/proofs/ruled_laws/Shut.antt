-- A written type makes no aliases, and is no open array where none may stand.
use Rattle.std.proofs.Common.{◌≡◌, refl, ap, ◌∙◌, subst, ℕ, zero, suc, ◌+◌, Bool, true, false, not, List, [], ◌∷◌, ◌++◌, length, Option, Some, None, cond}
use Rattle.std.specs.Prelude.{◌&&◌, ◌||◌, is_none, is_some, bytes_eq}
use Rattle.std.specs.List.{AllByRecursion, find}
use Rattle.ob_tree.specs.declared.pos.Pos.{Pos}
use Rattle.ob_tree.specs.declared.names.QName.{QName}
use Rattle.ob_tree.specs.declared.ident.Ident.{Ident}
use Rattle.ob_tree.specs.declared.ident.IdentDef.{IdentDef}
use Rattle.ob_tree.specs.declared.ident.Mark.{Mark}
use Rattle.ob_tree.specs.declared.ident.Mark.TheVariants as mark
use Rattle.ob_tree.specs.declared.ident.Qualident.{Qualident}
use Rattle.ob_types.specs.declared.types.TypeRef.{TypeRef}
use Rattle.ob_types.specs.declared.types.TypeRef.TheVariants as ref
use Rattle.ob_types.specs.declared.desc.Desc.{Desc}
use Rattle.ob_types.specs.declared.desc.Desc.TheVariants as desc
use Rattle.ob_types.specs.declared.typed.TypedType.{TypedType}
use Rattle.ob_types.specs.Tests.{target_of, follow, target, shape_at}
use Rattle.ob_types.specs.Relations.{is_alias}
use Rattle.ob_types.specs.Relations as relations
use Rattle.ob_rules.specs.declared.broken.Rule.TheVariants as rule
use Rattle.ob_rules.specs.declared.broken.Rule.{Rule}
use Rattle.ob_rules.specs.Judged.{Judged, sound, both, made, unless, also, each_sound, ◌▷◌, behind_quiet}
use Rattle.ob_rules.specs.Shapes.{Map, same_name, open_at, is_open, is_structured, is_pointer}
use Rattle.ob_rules.specs.Names.{Around, in_unit, own_desc, out_string, type_desc, map_of, type_named}
use Rattle.ob_rules.specs.Phrases.{Phrase}
use Rattle.ob_rules.specs.Types.{Typing, Written, typed_as, with_types, base_name, element_name, field_name, section_name, named_typing, array_length, fixed_array, array, first_of, names_behind, WrittenFields, first_name, Fields, fields_of, with_fields, fields_joined, field_lists, record_with, record_desc, pointer_to, base_judged, pointer_base, pointer_by, Parameters, WrittenSection, WrittenParameters, mode_of, declare_all, parameters_of, parameters_joined, with_made, with_result, sections, result_of, parameters_in, inner, procedure_type}
use Rattle.law_simulation_relation.proofs.Names.{bytes_same}
use Rattle.law_methods_described.proofs.Nodes.{Has, then_has, any_then, both_have, first_has, second_has, quiet_has}
use Rattle.law_lists.proofs.Lists.{IfThere, all_both}

abbrev pub NoAliases : List TypedType → Type 0
NoAliases ts = AllByRecursion (λ t. is_alias t.desc ≡ false) ts

-- what is known of a type where open arrays may stand or not
pub record TypingShut (u : Around) (open_ok : Bool) (t : Typing) : Type 0 where
  pub made : NoAliases t.made
  pub shut : open_ok ≡ false → is_open (map_of (with_types u t.made)) t.of ≡ false

-- whatever stands around
abbrev pub IsShut : Written → Type 0
IsShut w = (u : Around) (name : List ℕ) (m : Mark) (open_ok : Bool) → Has (TypingShut u open_ok) (w.typing u name m open_ok)

abbrev pub AreGoodFields : List WrittenFields → Type 0
AreGoodFields ls = AllByRecursion (λ l. IsShut l.node) ls

abbrev pub AreGoodSections : List WrittenSection → Type 0
AreGoodSections ss = AllByRecursion (λ s. IsShut s.node) ss

-- ---- a type that is no alias stands for itself

pub target_own : (map : Map) (q : QName) (d : Desc) → map q ≡ Some d → is_alias d ≡ false → (n : ℕ) → target map n (ref.Named q) ≡ ref.Named q
unfolding target
target_own map q d e a zero = refl
target_own map q d e a (suc n) = ap (λ o. follow (target_of o) (ref.Named q) (λ u. target map n u)) e ∙ ap (λ o. follow o (ref.Named q) (λ u. target map n u)) (none d a)
  where
    none : (d : Desc) → is_alias d ≡ false → target_of (Some d) ≡ None
    none (desc.Alias m t) a = absurd cc
    none (desc.Const v) a = refl
    none (desc.Var m t) a = refl
    none (desc.Proc s) a = refl
    none (desc.Array m n t) a = refl
    none (desc.OpenArray m t) a = refl
    none (desc.Pointer m t) a = refl
    none (desc.ProcType m s) a = refl
    none (desc.Record r) a = refl

open_is : (d : Desc) → is_some (open_at (Some d)) ≡ relations.is_open d
open_is (desc.Const v) = refl
open_is (desc.Var m t) = refl
open_is (desc.Proc s) = refl
open_is (desc.Alias m t) = refl
open_is (desc.Array m n t) = refl
open_is (desc.OpenArray m t) = refl
open_is (desc.Pointer m t) = refl
open_is (desc.ProcType m s) = refl
open_is (desc.Record r) = refl

pub open_own : (map : Map) (q : QName) (d : Desc) → map q ≡ Some d → is_alias d ≡ false → is_open map (ref.Named q) ≡ relations.is_open d
open_own map q d e a = ap (λ t. is_some (open_at (shape_at map t))) (target_own map q d e a 201) ∙ ap (λ o. is_some (open_at o)) e ∙ open_is d

-- the first type of the module that is known
pub first_known : (u : Around) (name : List ℕ) (d : Desc) (more : List TypedType) → map_of (with_types u (record { name = name; desc = d } ∷ more)) (in_unit u name) ≡ Some d
first_known u name d more =
    let t : TypedType = record { name = name; desc = d } in
    ap (λ b. type_desc b (same_name (in_unit u name) out_string) (with_types u (t ∷ more)) (in_unit u name)) (bytes_same u.unit)
    ∙ ap (λ b. own_desc (cond b (Some t) (find (λ s. bytes_eq s.name name) (more ++ u.own)))) (bytes_same name)

made_shut : (u : Around) (open_ok : Bool) (name : List ℕ) (d : Desc) (more : List TypedType) → is_alias d ≡ false → relations.is_open d ≡ false → NoAliases more → TypingShut u open_ok (typed_as u name d more)
made_shut u open_ok name d more a o h = record { made = (a, h); shut = λ e. open_own (map_of (with_types u (record { name = name; desc = d } ∷ more))) (in_unit u name) d (first_known u name d more) a ∙ o }

-- ---- names and arrays

unless_shut : {A : Type 0} (P : A → Type 0) (b : Bool) (which : Rule) (at : Pos) (x : A) → (b ≡ false → P x) → Has P (unless b which at x)
unless_shut P true which at x h = tt
unless_shut P false which at x h = h refl

also_shut : {A : Type 0} (P : A → Type 0) (b : Bool) (which : Rule) (at : Pos) (j : Judged A) → (b ≡ false → Has P j) → Has P (also b which at j)
also_shut P true which at j h = tt
also_shut P false which at j h = h refl

pub name_good : (q : Qualident) (u : Around) (open_ok : Bool) → Has (TypingShut u open_ok) (type_named u q ▷ named_typing u (first_of q) open_ok)
name_good q u open_ok =
    any_then (TypingShut u open_ok) (type_named u q) (named_typing u (first_of q) open_ok)
    (λ t. unless_shut (TypingShut u open_ok) (not open_ok && is_open (map_of u) t) rule.MisplacedOpenArray (first_of q) (record { of = t; made = [] })
    (λ e. record { made = tt; shut = λ k. subst (λ b. (not b && is_open (map_of u) t) ≡ false) k e }))

fixed_good : (ls : List Phrase) (element : Written) → IsShut element → (u : Around) (name : List ℕ) (m : Mark) (open_ok : Bool) → Has (TypingShut u false) (fixed_array u name m ls element)
fixed_good [] element g u name m open_ok = g u name m false
fixed_good (l ∷ ls) element g u name m open_ok =
    then_has (λ p. Unit {0} × TypingShut u false p.1) (TypingShut u false) (both (array_length u l) (fixed_array u (element_name name) mark.Hidden ls element)) (λ p. sound (typed_as u name (desc.Array m p.0 p.1.of) p.1.made))
    (second_has (TypingShut u false) (array_length u l) (fixed_array u (element_name name) mark.Hidden ls element) (fixed_good ls element g u (element_name name) mark.Hidden open_ok))
    (λ p h. made_shut u false name (desc.Array m p.0 p.1.of) p.1.made refl refl h.1.made)

weaker : (u : Around) (open_ok : Bool) (t : Typing) → TypingShut u false t → TypingShut u open_ok t
weaker u open_ok t h = record { made = h.made; shut = λ e. h.shut refl }

has_weaker : (u : Around) (open_ok : Bool) (o : Option Typing) → IfThere (TypingShut u false) o → IfThere (TypingShut u open_ok) o
has_weaker u open_ok None h = tt
has_weaker u open_ok (Some t) h = weaker u open_ok t h

not_ok : (a b : Bool) → (not a || b) ≡ false → a ≡ false → ⊥
not_ok true b e f = absurd cc
not_ok false b e f = absurd cc

pub array_good : (ls : List Phrase) (at : Pos) (element : Written) → IsShut element → (u : Around) (name : List ℕ) (m : Mark) (open_ok : Bool) → Has (TypingShut u open_ok) (array u name m at open_ok ls element)
array_good [] at element g u name m open_ok =
    also_shut (TypingShut u open_ok) (not open_ok || element.open_array) rule.MisplacedOpenArray at _
    (λ e. then_has (TypingShut u element.open_array) (TypingShut u open_ok) (element.typing u (element_name name) mark.Hidden element.open_array) (λ t. sound (typed_as u name (desc.OpenArray m t.of) t.made)) (g u (element_name name) mark.Hidden element.open_array)
    (λ t h. record { made = (refl, h.made); shut = λ k. absurd (not_ok open_ok element.open_array e k) }))
array_good (l ∷ ls) at element g u name m open_ok = has_weaker u open_ok (fixed_array u name m (l ∷ ls) element).node (fixed_good (l ∷ ls) element g u name m open_ok)

-- ---- records

fields_good : (u : Around) (base : Option (Option TypeRef)) (before : List (List ℕ)) (ds : List IdentDef) (t : Judged Typing) → Has (TypingShut u false) t → Has (λ (f : Fields). NoAliases f.made) (with_fields u base before ds t)
fields_good u base before ds t g =
    then_has (λ p. TypingShut u false p.0 × Unit {0}) (λ (f : Fields). NoAliases f.made) (both t (each_sound (fields_of u base before ds t.node))) (λ p. sound (record { fields = p.1; made = p.0.made }))
    (first_has (TypingShut u false) t (each_sound (fields_of u base before ds t.node)) g) (λ p h. h.0.made)

lists_good : (ls : List WrittenFields) → AreGoodFields ls → (u : Around) (name : List ℕ) (base : Option (Option TypeRef)) (before : List (List ℕ)) → Has (λ (f : Fields). NoAliases f.made) (field_lists u name base before ls)
lists_good [] g u name base before = tt
lists_good (l ∷ ls) g u name base before =
    let a = with_fields u base before l.names (l.node.typing u (field_name name (first_name l.names)) mark.Hidden false) in
    let b = field_lists u name base (names_behind l.names before) ls in
    then_has (λ (p : Fields × Fields). NoAliases p.0.made × NoAliases p.1.made) (λ (f : Fields). NoAliases f.made) (both a b) (λ p. sound (fields_joined p.0 p.1))
    (both_have (λ (f : Fields). NoAliases f.made) (λ (f : Fields). NoAliases f.made) a b (fields_good u base before l.names (l.node.typing u (field_name name (first_name l.names)) mark.Hidden false) (g.0 u (field_name name (first_name l.names)) mark.Hidden false)) (lists_good ls g.1 u name base (names_behind l.names before)))
    (λ p h. all_both (λ t. is_alias t.desc ≡ false) p.0.made p.1.made h.0 h.1)

pub record_good : (u : Around) (name : List ℕ) (m : Mark) (open_ok : Bool) (lists : List WrittenFields) → AreGoodFields lists → (base : Judged (Option TypeRef)) → Has (TypingShut u open_ok) (record_with u name m lists base)
record_good u name m open_ok lists g base =
    then_has (λ (p : Option TypeRef × Fields). Unit {0} × NoAliases p.1.made) (TypingShut u open_ok) (both base (field_lists u name base.node [] lists)) (λ p. sound (typed_as u name (record_desc m p.0 p.1.fields) p.1.made))
    (second_has (λ (f : Fields). NoAliases f.made) base (field_lists u name base.node [] lists) (lists_good lists g u name base.node []))
    (λ p h. made_shut u open_ok name (record_desc m p.0 p.1.fields) p.1.made refl refl h.1)

-- ---- pointers

base_good : (u : Around) (name : List ℕ) (inline : Bool) (at : Pos) (s p : Bool) (t : Typing) → TypingShut u true t → Has (TypingShut u true) (base_judged name inline at s p t)
base_good u name inline at true p t h = h
base_good u name inline at false true t h = h
base_good u name inline at false false t h = tt

pub pointer_good : (u : Around) (name : List ℕ) (m : Mark) (open_ok : Bool) (base : Written) → IsShut base → (o : Option Ident) → Has (TypingShut u open_ok) (pointer_by u name m base o)
pointer_good u name m open_ok base g (Some x) = made_shut u open_ok name _ [] refl refl tt
pointer_good u name m open_ok base g None =
    then_has (TypingShut u true) (TypingShut u open_ok) (base.typing u (base_name name) mark.Hidden true ▷ pointer_base u name (is_none base.name) base.start) (λ t. sound (pointer_to u name m t))
    (then_has (TypingShut u true) (TypingShut u true) (base.typing u (base_name name) mark.Hidden true) (pointer_base u name (is_none base.name) base.start) (g u (base_name name) mark.Hidden true)
    (λ t h. base_good u name (is_none base.name) base.start (is_structured (map_of (with_types u t.made)) t.of) (is_pointer (map_of (with_types u t.made)) t.of) t h))
    (λ t h. made_shut u open_ok name (desc.Pointer m t.of) t.made refl refl h.made)

-- ---- parameters

abbrev MakeNone : Parameters → Type 0
MakeNone p = NoAliases p.made

sections_good : (ss : List WrittenSection) → AreGoodSections ss → (u : Around) (name : List ℕ) (i : ℕ) → Has MakeNone (sections u name i ss).found
sections_good [] g u name i = tt
sections_good (s ∷ ss) g u name i =
    let t = s.node.typing u (section_name name i) mark.Hidden true in
    let n = declare_all u (mode_of s.is_var) t.node s.names in
    let v = with_made n.around t.node in
    let rest = (sections v name (i + length s.names) ss).found in
    let mine : Judged Parameters = made (parameters_of u (mode_of s.is_var) s.names) t in
    then_has (λ (p : Parameters × Parameters). MakeNone p.0 × MakeNone p.1) MakeNone (both (behind_quiet n.notes mine) rest) (λ q. sound (parameters_joined q.0 q.1))
    (both_have MakeNone MakeNone (behind_quiet n.notes mine) rest (quiet_has MakeNone n.notes mine (then_has (TypingShut u true) MakeNone t (λ x. sound (parameters_of u (mode_of s.is_var) s.names x)) (g.0 u (section_name name i) mark.Hidden true) (λ x h. h.made))) (sections_good ss g.1 v name (i + length s.names)))
    (λ p h. all_both (λ t. is_alias t.desc ≡ false) p.0.made p.1.made h.0 h.1)

pub type_good : (u : Around) (name : List ℕ) (m : Mark) (open_ok : Bool) (p : WrittenParameters) → AreGoodSections p.sections → Has (TypingShut u open_ok) (procedure_type u name m p)
type_good u name m open_ok p g =
    let s = sections (inner u) name 1 p.sections in
    let r = result_of (record (inner u) { known = s.known }) p.result in
    then_has MakeNone (TypingShut u open_ok) (parameters_in (inner u) name p).found (λ q. sound (typed_as u name (desc.ProcType m q.signature) q.made))
    (then_has (λ (q : Parameters × Option TypeRef). MakeNone q.0 × Unit {0}) MakeNone (both s.found r) (λ p. sound (with_result p.0 p.1)) (first_has MakeNone s.found r (sections_good p.sections g (inner u) name 1)) (λ q h. h.0))
    (λ q h. made_shut u open_ok name (desc.ProcType m q.signature) q.made refl refl h)
