-- The types that a written type makes have no bound procedures yet; parameters are those of their signature.
use Rattle.std.proofs.Common.{◌≡◌, ℕ, zero, suc, ◌≤◌, ◌+◌, arith, Bool, true, false, List, [], ◌∷◌, ◌++◌, length, Option, Some, None, refl}
use Rattle.std.specs.Prelude.{is_none, pos, negsuc}
use Rattle.std.specs.List.{AllByRecursion}
use Rattle.ob_tree.specs.declared.pos.Pos.{Pos}
use Rattle.ob_tree.specs.declared.ident.Ident.{Ident}
use Rattle.ob_tree.specs.declared.ident.IdentDef.{IdentDef}
use Rattle.ob_tree.specs.declared.ident.Mark.{Mark}
use Rattle.ob_tree.specs.declared.ident.Mark.TheVariants as mark
use Rattle.ob_tree.specs.declared.ident.Qualident.{Qualident}
use Rattle.ob_types.specs.declared.types.TypeRef.{TypeRef}
use Rattle.ob_types.specs.declared.value.Value.{Value}
use Rattle.ob_types.specs.declared.value.Value.TheVariants as literal
use Rattle.ob_types.specs.declared.types.Mode.{Mode}
use Rattle.ob_types.specs.declared.types.Mode.TheVariants as mode
use Rattle.ob_types.specs.declared.desc.Desc.TheVariants as desc
use Rattle.ob_types.specs.declared.typed.TypedType.{TypedType}
use Rattle.ob_types.specs.declared.typed.TypedParameter.{TypedParameter}
use Rattle.ob_rules.specs.declared.broken.Rule.TheVariants as rule
use Rattle.ob_rules.specs.Judged.{Judged, sound, both, made, ◌▷◌, behind_quiet}
use Rattle.ob_rules.specs.Names.{Around, map_of, type_named}
use Rattle.ob_rules.specs.Phrases.{Phrase}
use Rattle.ob_rules.specs.Expressions.{constant_value}
use Rattle.ob_rules.specs.Shapes.{Map, is_structured, is_pointer, is_open, is_record, by_value, by_var, passing_of}
use Rattle.ob_rules.specs.Types.{Typing, Written, typed_as, with_types, base_name, element_name, field_name, section_name, named_typing, length_of, array_length, fixed_array, array, first_of, names_behind, WrittenFields, first_name, Fields, fields_of, with_fields, field_lists, record_with, record_desc, pointer_to, base_judged, pointer_base, pointer_by, Parameters, WrittenSection, WrittenParameters, mode_of, declare_all, parameters_of, parameters_joined, with_result, with_made, sections, result_of, parameters_in, inner, procedure_type}
use Rattle.law_body_context.specs.Judged.{mode_of as mode_behind, AreOf}
use Rattle.law_methods_bound.specs.Bound.{methods_of, HasElements}
use Rattle.law_methods_described.proofs.Nodes.{Has, then_has, any_then, both_have, first_has, second_has, also_has, unless_has, quiet_has}
use Rattle.ob_rules.specs.Judged.{each_sound}
use Rattle.law_lists.proofs.Lists.{all_both}

-- as it is declared: without bound procedures; an array has elements
abbrev pub IsRaw : TypedType → Type 0
IsRaw t = (methods_of t.desc ≡ []) × HasElements t.desc

abbrev pub AreRaw : List TypedType → Type 0
AreRaw ts = AllByRecursion IsRaw ts

abbrev pub MakesRaw : Typing → Type 0
MakesRaw t = AreRaw t.made

-- whatever stands around, a written type makes types
abbrev pub IsGood : Written → Type 0
IsGood w = (u : Around) (name : List ℕ) (m : Mark) (open_ok : Bool) → Has MakesRaw (w.typing u name m open_ok)

abbrev pub AreGoodFields : List WrittenFields → Type 0
AreGoodFields ls = AllByRecursion (λ l. IsGood l.node) ls

abbrev pub AreGoodSections : List WrittenSection → Type 0
AreGoodSections ss = AllByRecursion (λ s. IsGood s.node) ss

abbrev pub MakeRaw : Parameters → Type 0
MakeRaw p = AreRaw p.made × AreOf p.parameters p.signature.params

named_good : (u : Around) (at : Pos) (open_ok : Bool) (t : TypeRef) → Has MakesRaw (named_typing u at open_ok t)
named_good u at open_ok t = unless_has MakesRaw _ rule.MisplacedOpenArray at _ tt

some_length : (n : ℕ) → 1 ≤ suc n
some_length n = omega arith

length_is : (at : Pos) (v : Value) → Has (λ n. 1 ≤ n) (length_of at v)
length_is at (literal.Int (pos zero)) = tt
length_is at (literal.Int (pos (suc n))) = some_length n
length_is at (literal.Int (negsuc n)) = tt
length_is at (literal.Bool b) = tt
length_is at (literal.Char c) = tt
length_is at (literal.Set n) = tt
length_is at (literal.Str text) = tt
length_is at literal.Nil = tt

fixed_good : (ls : List Phrase) (element : Written) → IsGood element → (u : Around) (name : List ℕ) (m : Mark) → Has MakesRaw (fixed_array u name m ls element)
fixed_good [] element g u name m = g u name m false
fixed_good (l ∷ ls) element g u name m =
    then_has (λ p. (1 ≤ p.0) × MakesRaw p.1) MakesRaw (both (array_length u l) (fixed_array u (element_name name) mark.Hidden ls element)) (λ p. sound (typed_as u name (desc.Array m p.0 p.1.of) p.1.made))
    (both_have (λ n. 1 ≤ n) MakesRaw (array_length u l) (fixed_array u (element_name name) mark.Hidden ls element) (any_then (λ n. 1 ≤ n) (constant_value u l) (length_of l.start) (λ v. length_is l.start v)) (fixed_good ls element g u (element_name name) mark.Hidden))
    (λ p h. ((refl, h.0), h.1))

pub array_good : (ls : List Phrase) (at : Pos) (element : Written) → IsGood element → (u : Around) (name : List ℕ) (m : Mark) (open_ok : Bool) → Has MakesRaw (array u name m at open_ok ls element)
array_good [] at element g u name m open_ok =
    also_has MakesRaw _ rule.MisplacedOpenArray at _
    (then_has MakesRaw MakesRaw (element.typing u (element_name name) mark.Hidden element.open_array) (λ t. sound (typed_as u name (desc.OpenArray m t.of) t.made)) (g u (element_name name) mark.Hidden element.open_array) (λ t h. ((refl, tt), h)))
array_good (l ∷ ls) at element g u name m open_ok = fixed_good (l ∷ ls) element g u name m

fields_good : (u : Around) (base : Option (Option TypeRef)) (before : List (List ℕ)) (ds : List IdentDef) (t : Judged Typing) → Has MakesRaw t → Has (λ (f : Fields). AreRaw f.made) (with_fields u base before ds t)
fields_good u base before ds t g =
    then_has (λ p. MakesRaw p.0 × Unit {0}) (λ (f : Fields). AreRaw f.made) (both t (each_sound (fields_of u base before ds t.node))) (λ p. sound (record { fields = p.1; made = p.0.made }))
    (first_has MakesRaw t (each_sound (fields_of u base before ds t.node)) g) (λ p h. h.0)

lists_good : (ls : List WrittenFields) → AreGoodFields ls → (u : Around) (name : List ℕ) (base : Option (Option TypeRef)) (before : List (List ℕ)) → Has (λ (f : Fields). AreRaw f.made) (field_lists u name base before ls)
lists_good [] g u name base before = tt
lists_good (l ∷ ls) g u name base before =
    let a = with_fields u base before l.names (l.node.typing u (field_name name (first_name l.names)) mark.Hidden false) in
    let b = field_lists u name base (names_behind l.names before) ls in
    then_has (λ (p : Fields × Fields). AreRaw p.0.made × AreRaw p.1.made) (λ (f : Fields). AreRaw f.made) (both a b) _
    (both_have (λ (f : Fields). AreRaw f.made) (λ (f : Fields). AreRaw f.made) a b (fields_good u base before l.names (l.node.typing u (field_name name (first_name l.names)) mark.Hidden false) (g.0 u (field_name name (first_name l.names)) mark.Hidden false)) (lists_good ls g.1 u name base (names_behind l.names before)))
    (λ p h. all_both IsRaw p.0.made p.1.made h.0 h.1)

pub record_good : (u : Around) (name : List ℕ) (m : Mark) (lists : List WrittenFields) → AreGoodFields lists → (base : Judged (Option TypeRef)) → Has MakesRaw (record_with u name m lists base)
record_good u name m lists g base =
    then_has (λ (p : Option TypeRef × Fields). Unit {0} × AreRaw p.1.made) MakesRaw (both base (field_lists u name base.node [] lists)) (λ p. sound (typed_as u name (record_desc m p.0 p.1.fields) p.1.made))
    (second_has (λ (f : Fields). AreRaw f.made) base (field_lists u name base.node [] lists) (lists_good lists g u name base.node []))
    (λ p h. ((refl, tt), h.1))

base_good : (name : List ℕ) (inline : Bool) (at : Pos) (s p : Bool) (t : Typing) → MakesRaw t → Has MakesRaw (base_judged name inline at s p t)
base_good name inline at true p t h = h
base_good name inline at false true t h = h
base_good name inline at false false t h = tt

pub pointer_good : (u : Around) (name : List ℕ) (m : Mark) (base : Written) → IsGood base → (o : Option Ident) → Has MakesRaw (pointer_by u name m base o)
pointer_good u name m base g (Some x) = ((refl, tt), tt)
pointer_good u name m base g None =
    then_has MakesRaw MakesRaw (base.typing u (base_name name) mark.Hidden true ▷ pointer_base u name (is_none base.name) base.start) (λ t. sound (pointer_to u name m t))
    (then_has MakesRaw MakesRaw (base.typing u (base_name name) mark.Hidden true) (pointer_base u name (is_none base.name) base.start) (g u (base_name name) mark.Hidden true)
    (λ t h. base_good name (is_none base.name) base.start (is_structured (map_of (with_types u t.made)) t.of) (is_pointer (map_of (with_types u t.made)) t.of) t h))
    (λ t h. ((refl, tt), h))

-- ---- parameters

mode_same : (map : Map) (m : Mode) (t : TypeRef) → mode_behind (passing_of map m t) ≡ m
mode_same map mode.Value t = value (is_open map t) (is_structured map t)
  where
    value : (a b : Bool) → mode_behind (by_value a b) ≡ mode.Value
    value true b = refl
    value false true = refl
    value false false = refl
mode_same map mode.Var t = var (is_open map t) (is_record map t)
  where
    var : (a b : Bool) → mode_behind (by_var a b) ≡ mode.Var
    var true b = refl
    var false true = refl
    var false false = refl

are_joined : (ps qs : List TypedParameter) (ks ls : List (Mode × TypeRef)) → AreOf ps ks → AreOf qs ls → AreOf (ps ++ qs) (ks ++ ls)
are_joined [] qs [] ls h k = k
are_joined [] qs (x ∷ ks) ls h k = absurd h
are_joined (p ∷ ps) qs [] ls h k = absurd h
are_joined (p ∷ ps) qs (x ∷ ks) ls h k = (h.0, are_joined ps qs ks ls h.1 k)

names_are : (u : Around) (m : Mode) (t : Typing) (xs : List Ident) → AreOf (parameters_of u m xs t).parameters (parameters_of u m xs t).signature.params
names_are u m t [] = tt
names_are u m t (x ∷ xs) = ((refl, mode_same (map_of (with_types u t.made)) m t.of), names_are u m t xs)

sections_good : (ss : List WrittenSection) → AreGoodSections ss → (u : Around) (name : List ℕ) (i : ℕ) → Has MakeRaw (sections u name i ss).found
sections_good [] g u name i = (tt, tt)
sections_good (s ∷ ss) g u name i =
    let t = s.node.typing u (section_name name i) mark.Hidden true in
    let n = declare_all u (mode_of s.is_var) t.node s.names in
    let v = with_made n.around t.node in
    let rest = (sections v name (i + length s.names) ss).found in
    let mine : Judged Parameters = made (parameters_of u (mode_of s.is_var) s.names) t in
    then_has (λ (p : Parameters × Parameters). MakeRaw p.0 × MakeRaw p.1) MakeRaw (both (behind_quiet n.notes mine) rest) (λ q. sound (parameters_joined q.0 q.1))
    (both_have MakeRaw MakeRaw (behind_quiet n.notes mine) rest (quiet_has MakeRaw n.notes mine (then_has MakesRaw MakeRaw t (λ x. sound (parameters_of u (mode_of s.is_var) s.names x)) (g.0 u (section_name name i) mark.Hidden true) (λ x h. (h, names_are u (mode_of s.is_var) x s.names)))) (sections_good ss g.1 v name (i + length s.names)))
    (λ p h. (all_both IsRaw p.0.made p.1.made h.0.0 h.1.0, are_joined p.0.parameters p.1.parameters p.0.signature.params p.1.signature.params h.0.1 h.1.1))

pub parameters_good : (u : Around) (name : List ℕ) (p : WrittenParameters) → AreGoodSections p.sections → Has MakeRaw (parameters_in u name p).found
parameters_good u name p g =
    let s = sections u name 1 p.sections in
    then_has (λ (q : Parameters × Option TypeRef). MakeRaw q.0 × Unit {0}) MakeRaw (both s.found (result_of (record u { known = s.known }) p.result)) (λ p. sound (with_result p.0 p.1))
    (first_has MakeRaw s.found (result_of (record u { known = s.known }) p.result) (sections_good p.sections g u name 1))
    (λ q h. h.0)

pub type_good : (u : Around) (name : List ℕ) (m : Mark) (p : WrittenParameters) → AreGoodSections p.sections → Has MakesRaw (procedure_type u name m p)
type_good u name m p g = then_has MakeRaw MakesRaw (parameters_in (inner u) name p).found (λ q. sound (typed_as u name (desc.ProcType m q.signature) q.made)) (parameters_good (inner u) name p g) (λ q h. ((refl, tt), h.0))

pub name_good : (q : Qualident) (u : Around) (open_ok : Bool) → Has MakesRaw (type_named u q ▷ named_typing u (first_of q) open_ok)
name_good q u open_ok = any_then MakesRaw (type_named u q) (named_typing u (first_of q) open_ok) (λ t. named_good u (first_of q) open_ok t)
