-- What the rules make of types as they are written has a spelling.
use Rattle.std.proofs.Common.{◌≡◌, ℕ, zero, suc, ◌+◌, ◌<◌, Bool, true, false, List, [], ◌∷◌, ◌++◌, length, map, Option, Some, None, refl, arith}
use Rattle.std.specs.Prelude.{is_none, IfSome, pos, negsuc}
use Rattle.std.specs.List.{AllByRecursion}
use Rattle.std.proofs.lemmas.Bool.{and_parts}
use Rattle.ob_tree.specs.declared.pos.Pos.{Pos}
use Rattle.ob_tree.specs.declared.ident.Ident.{Ident}
use Rattle.ob_tree.specs.declared.ident.IdentDef.{IdentDef}
use Rattle.ob_tree.specs.declared.ident.Mark.{Mark}
use Rattle.ob_tree.specs.declared.ident.Mark.TheVariants as mark
use Rattle.ob_tree.specs.declared.ident.Qualident.{Qualident}
use Rattle.ob_types.specs.declared.types.Mode.{Mode}
use Rattle.ob_types.specs.declared.types.TypeRef.{TypeRef}
use Rattle.ob_types.specs.declared.types.TypeRef.TheVariants as ref
use Rattle.ob_types.specs.declared.value.Value.{Value}
use Rattle.ob_types.specs.declared.value.Value.TheVariants as literal
use Rattle.ob_types.specs.declared.desc.Desc.TheVariants as desc
use Rattle.ob_types.specs.declared.typed.TypedType.{TypedType}
use Rattle.ob_types.specs.declared.typed.TypedParameter.{TypedParameter}
use Rattle.ob_desc.specs.Grammar.{type_fits, param, signature}
use Rattle.ob_format.specs.Names.{is_object}
use Rattle.ob_rules.specs.declared.broken.Rule.TheVariants as rule
use Rattle.ob_rules.specs.declared.broken.Rule.{Rule}
use Rattle.ob_rules.specs.Judged.{Judged, sound, silent, both, made, each_sound, wants, ◌▷◌, behind_quiet}
use Rattle.ob_rules.specs.Names.{Around, map_of, type_named, in_unit}
use Rattle.ob_rules.specs.Phrases.{Phrase}
use Rattle.ob_rules.specs.Expressions.{constant_value}
use Rattle.ob_rules.specs.Shapes.{is_structured, is_pointer}
use Rattle.ob_rules.specs.Types.{Typing, Written, typed_as, with_types, base_name, element_name, field_name, section_name, marked, named_typing, length_of, array_length, fixed_array, array, first_of, base_of, base_if, inherits, field_declared, field_if, fields_of, names_behind, WrittenFields, first_name, Fields, with_fields, field_lists, record_with, record_desc, pointer_to, base_judged, pointer_base, pointer_by, Parameters, WrittenSection, WrittenParameters, Sections, mode_of, parameter_as, knows, Named, declare_all, parameters_of, with_made, sections, result_fits, result_of, parameters_in, inner, procedure_type}
use Rattle.law_methods_described.proofs.Nodes.{Has, then_has, any_then, paired_has, both_have, also_has, unless_has, later_has, quiet_has}
use Rattle.law_spelling.specs.Trees.{IsNamed, FieldIsSpelled}
use Rattle.law_spelling.specs.Raw.{is_named, all_named, are_named}
use Rattle.law_spelling.specs.Ruled.{TypeOk, KnownOk, AroundOk}
use Rattle.law_spelling.proofs.Names.{named_object}
use Rattle.law_spelling.proofs.RuleNames.{AreBytes, object_bytes, base_object, element_object, field_object, section_object, type_has}
use Rattle.law_lists.proofs.Lists.{IfThere, all_both}

abbrev pub AreOk : List TypedType → Type 0
AreOk ts = AllByRecursion TypeOk ts

pub record TypingOk (t : Typing) : Type 0 where
  pub of : type_fits t.of
  pub made : AreOk t.made

abbrev pub HasTyping : Judged Typing → Type 0
HasTyping j = Has TypingOk j

-- whatever stands around, a written type makes types that have a spelling
abbrev pub IsOk : Written → Type 0
IsOk w = (u : Around) → AroundOk u → (name : List ℕ) → is_object name ≡ true → (m : Mark) (open_ok : Bool) → HasTyping (w.typing u name m open_ok)

pub record FieldsWritten (l : WrittenFields) : Type 0 where
  pub names : are_named l.names ≡ true
  pub node : IsOk l.node

abbrev pub AreOkFields : List WrittenFields → Type 0
AreOkFields ls = AllByRecursion FieldsWritten ls

abbrev pub AreOkSections : List WrittenSection → Type 0
AreOkSections ss = AllByRecursion (λ s. IsOk s.node) ss

pub typed_around : (u : Around) (ts : List TypedType) → AreOk ts → AroundOk u → AroundOk (with_types u ts)
typed_around u ts h g = record { unit = g.unit; front = g.front; later = g.later; known = g.known; own = all_both TypeOk ts u.own h g.own; shown = g.shown }

named_ok : (u : Around) (at : Pos) (open_ok : Bool) (t : TypeRef) → type_fits t → HasTyping (named_typing u at open_ok t)
named_ok u at open_ok t h = unless_has TypingOk _ rule.MisplacedOpenArray at _ (record { of = h; made = tt })

own_fits : (u : Around) → AroundOk u → (name : List ℕ) → is_object name ≡ true → type_fits (ref.Named (in_unit u name))
own_fits u g name h = (g.unit, h)

-- ---- arrays

length_ok : (at : Pos) (v : Value) → Has (λ n. 0 < n) (length_of at v)
length_ok at (literal.Bool b) = tt
length_ok at (literal.Char c) = tt
length_ok at (literal.Int (pos zero)) = tt
length_ok at (literal.Int (pos (suc n))) = omega arith
length_ok at (literal.Int (negsuc n)) = tt
length_ok at (literal.Set s) = tt
length_ok at (literal.Str s) = tt
length_ok at literal.Nil = tt

fixed_ok : (ls : List Phrase) (element : Written) → IsOk element → (u : Around) → AroundOk u → (name : List ℕ) → is_object name ≡ true → (m : Mark) → HasTyping (fixed_array u name m ls element)
fixed_ok [] element g u a name n m = g u a name n m false
fixed_ok (l ∷ ls) element g u a name n m =
    let x = array_length u l in
    let y = fixed_array u (element_name name) mark.Hidden ls element in
    then_has (λ p. (0 < p.0) × TypingOk p.1) TypingOk (both x y) (λ p. sound (typed_as u name (desc.Array m p.0 p.1.of) p.1.made))
    (paired_has (λ k. 0 < k) TypingOk x.node y.node (any_then (λ k. 0 < k) (constant_value u l) (length_of l.start) (length_ok l.start)) (fixed_ok ls element g u a (element_name name) (element_object name n) mark.Hidden))
    (λ p h. record { of = own_fits u a name n; made = ((n, (h.0, h.1.of)), h.1.made) })

pub array_ok : (ls : List Phrase) (at : Pos) (element : Written) → IsOk element → (u : Around) → AroundOk u → (name : List ℕ) → is_object name ≡ true → (m : Mark) (open_ok : Bool) → HasTyping (array u name m at open_ok ls element)
array_ok [] at element g u a name n m open_ok =
    also_has TypingOk _ rule.MisplacedOpenArray at _
    (then_has TypingOk TypingOk (element.typing u (element_name name) mark.Hidden element.open_array) (λ t. sound (typed_as u name (desc.OpenArray m t.of) t.made)) (g u a (element_name name) (element_object name n) mark.Hidden element.open_array)
    (λ t h. record { of = own_fits u a name n; made = ((n, h.of), h.made) }))
array_ok (l ∷ ls) at element g u a name n m open_ok = fixed_ok (l ∷ ls) element g u a name n m

-- ---- records

pub record FieldsOk (f : Fields) : Type 0 where
  pub fields : AllByRecursion FieldIsSpelled f.fields
  pub made : AreOk f.made

each_has : {A : Type 0} (P : A → Type 0) (js : List (Judged A)) → AllByRecursion (λ j. Has P j) js → Has (λ xs. AllByRecursion P xs) (each_sound js)
each_has P [] h = tt
each_has P (j ∷ js) h =
    then_has (λ p. P p.0 × AllByRecursion P p.1) (λ xs. AllByRecursion P xs) (both j (each_sound js)) (λ p. sound (p.0 ∷ p.1))
    (both_have P (λ xs. AllByRecursion P xs) j (each_sound js) h.0 (each_has P js h.1)) (λ p k. (k.0, k.1))

declared_ok : (u : Around) (base : Option (Option TypeRef)) (before : List (List ℕ)) (d : IdentDef) (t : TypeRef) → is_named d ≡ true → type_fits t → Has FieldIsSpelled (field_declared u base before d t)
declared_ok u base before d t n h = later_has FieldIsSpelled (inherits base d.ident) _ (any_then FieldIsSpelled (marked u true d) _ (λ m. unless_has FieldIsSpelled _ rule.DeclaredTwice d.ident.pos _ (n, h)))

if_ok : (u : Around) (base : Option (Option TypeRef)) (before : List (List ℕ)) (d : IdentDef) (t : Option Typing) → is_named d ≡ true → IfThere TypingOk t → Has FieldIsSpelled (field_if u base before d t)
if_ok u base before d (Some t) n h = declared_ok u base before d t.of n h.of
if_ok u base before d None n h = any_then FieldIsSpelled (field_declared u base before d (ref.Named (in_unit u []))) (λ f. silent) (λ f. tt)

list_ok : (u : Around) (base : Option (Option TypeRef)) (before : List (List ℕ)) (ds : List IdentDef) (t : Option Typing) → all_named ds ≡ true → IfThere TypingOk t → AllByRecursion (λ j. Has FieldIsSpelled j) (fields_of u base before ds t)
list_ok u base before [] t n h = tt
list_ok u base before (d ∷ ds) t n h = let p = and_parts (is_named d) (all_named ds) n in (if_ok u base before d t p.0 h, list_ok u base (d.ident.name ∷ before) ds t p.1 h)

with_ok : (u : Around) (base : Option (Option TypeRef)) (before : List (List ℕ)) (ds : List IdentDef) → all_named ds ≡ true → (t : Judged Typing) → HasTyping t → Has FieldsOk (with_fields u base before ds t)
with_ok u base before ds n t h =
    let fs = fields_of u base before ds t.node in
    then_has (λ p. TypingOk p.0 × AllByRecursion FieldIsSpelled p.1) FieldsOk (both t (each_sound fs)) (λ p. sound (record { fields = p.1; made = p.0.made }))
    (both_have TypingOk (λ xs. AllByRecursion FieldIsSpelled xs) t (each_sound fs) h (each_has FieldIsSpelled fs (list_ok u base before ds t.node n h))) (λ p k. record { fields = k.1; made = k.0.made })

first_bytes : (ds : List IdentDef) → are_named ds ≡ true → AreBytes (first_name ds)
first_bytes [] e = refl
first_bytes (d ∷ ds) e = object_bytes d.ident.name (named_object d.ident.name (and_parts (is_named d) (all_named ds) e).0)

all_are : (ds : List IdentDef) → are_named ds ≡ true → all_named ds ≡ true
all_are [] e = refl
all_are (d ∷ ds) e = e

lists_ok : (ls : List WrittenFields) → AreOkFields ls → (u : Around) → AroundOk u → (name : List ℕ) → is_object name ≡ true → (base : Option (Option TypeRef)) (before : List (List ℕ)) → Has FieldsOk (field_lists u name base before ls)
lists_ok [] g u a name n base before = record { fields = tt; made = tt }
lists_ok (l ∷ ls) g u a name n base before =
    let t = l.node.typing u (field_name name (first_name l.names)) mark.Hidden false in
    let x = with_fields u base before l.names t in
    let y = field_lists u name base (names_behind l.names before) ls in
    then_has (λ (p : Fields × Fields). FieldsOk p.0 × FieldsOk p.1) FieldsOk (both x y) _
    (both_have FieldsOk FieldsOk x y (with_ok u base before l.names (all_are l.names g.0.names) t (g.0.node u a (field_name name (first_name l.names)) (field_object name (first_name l.names) n (first_bytes l.names g.0.names)) mark.Hidden false)) (lists_ok ls g.1 u a name n base (names_behind l.names before)))
    (λ p h. record { fields = all_both FieldIsSpelled p.0.fields p.1.fields h.0.fields h.1.fields; made = all_both TypeOk p.0.made p.1.made h.0.made h.1.made })

wanted : (b : Bool) (which : Rule) (at : Pos) (t : TypeRef) → type_fits t → Has type_fits (wants b which at t)
wanted true which at t h = h
wanted false which at t h = tt

pub base_ok : (u : Around) → AroundOk u → (o : Option Qualident) → Has (λ o. IfSome o type_fits) (base_if u o)
base_ok u a None = tt
base_ok u a (Some q) =
    then_has type_fits (λ o. IfSome o type_fits) (type_named u q ▷ base_of (map_of u) (first_of q)) (λ t. sound (Some t))
    (then_has type_fits type_fits (type_named u q) (base_of (map_of u) (first_of q)) (type_has u a q) (λ t h. wanted _ rule.UnfitBase (first_of q) t h)) (λ t h. h)

pub record_ok : (u : Around) → AroundOk u → (name : List ℕ) → is_object name ≡ true → (m : Mark) (lists : List WrittenFields) → AreOkFields lists → (base : Judged (Option TypeRef)) → Has (λ o. IfSome o type_fits) base → HasTyping (record_with u name m lists base)
record_ok u a name n m lists g base b =
    let y = field_lists u name base.node [] lists in
    then_has (λ (p : Option TypeRef × Fields). IfSome p.0 type_fits × FieldsOk p.1) TypingOk (both base y) (λ p. sound (typed_as u name (record_desc m p.0 p.1.fields) p.1.made))
    (both_have (λ o. IfSome o type_fits) FieldsOk base y b (lists_ok lists g u a name n base.node []))
    (λ p h. record { of = own_fits u a name n; made = ((n, record { base = h.0; fields = h.1.fields; methods = tt }), h.1.made) })

-- ---- pointers

judged_ok : (name : List ℕ) (inline : Bool) (at : Pos) (s p : Bool) (t : Typing) → TypingOk t → HasTyping (base_judged name inline at s p t)
judged_ok name inline at true p t h = h
judged_ok name inline at false true t h = h
judged_ok name inline at false false t h = tt

pub pointer_ok : (u : Around) → AroundOk u → (name : List ℕ) → is_object name ≡ true → (m : Mark) (base : Written) → IsOk base → (o : Option Ident) → IfThere (λ (i : Ident). IsNamed i.name) o → HasTyping (pointer_by u name m base o)
pointer_ok u a name n m base g (Some x) i = record { of = own_fits u a name n; made = ((n, own_fits u a (u.path ++ x.name) (a.front x.name (named_object x.name i))), tt) }
pointer_ok u a name n m base g None i =
    then_has TypingOk TypingOk (base.typing u (base_name name) mark.Hidden true ▷ pointer_base u name (is_none base.name) base.start) (λ t. sound (pointer_to u name m t))
    (then_has TypingOk TypingOk (base.typing u (base_name name) mark.Hidden true) (pointer_base u name (is_none base.name) base.start) (g u a (base_name name) (base_object name n) mark.Hidden true)
    (λ t h. judged_ok name (is_none base.name) base.start (is_structured (map_of (with_types u t.made)) t.of) (is_pointer (map_of (with_types u t.made)) t.of) t h))
    (λ t h. record { of = own_fits u a name n; made = ((n, h.of), h.made) })

-- ---- parameters

pub record ParametersOk (p : Parameters) : Type 0 where
  pub params : AllByRecursion param.fits p.signature.params
  pub result : IfSome p.signature.result type_fits
  pub parameters : AllByRecursion (λ x. type_fits x.of) p.parameters
  pub made : AreOk p.made

pub record SectionsOk (s : Sections) : Type 0 where
  pub found : Has ParametersOk s.found
  pub known : AllByRecursion KnownOk s.known

parameter_entity : (u : Around) (m : Mode) (x : Ident) (t : Option Typing) → AroundOk u → AroundOk (knows u x (parameter_as u m x t))
parameter_entity u m x None g = record { unit = g.unit; front = g.front; later = g.later; known = (tt, g.known); own = g.own; shown = g.shown }
parameter_entity u m x (Some t) g = record { unit = g.unit; front = g.front; later = g.later; known = (tt, g.known); own = g.own; shown = g.shown }

declared_around : (u : Around) (m : Mode) (t : Option Typing) (xs : List Ident) → AroundOk u → AroundOk (declare_all u m t xs).around
declared_around u m t [] g = g
declared_around u m t (x ∷ xs) g = declared_around (knows u x (parameter_as u m x t)) m t xs (parameter_entity u m x t g)

made_around : (u : Around) (t : Option Typing) → IfThere TypingOk t → AroundOk u → AroundOk (with_made u t)
made_around u None h g = g
made_around u (Some t) h g = typed_around u t.made h.made g

params_ok : (m : Mode) (xs : List Ident) (t : TypeRef) → type_fits t → AllByRecursion param.fits (map (λ x. (m, t)) xs)
params_ok m [] t h = tt
params_ok m (x ∷ xs) t h = (h, params_ok m xs t h)

formals_ok : {A : Type 0} (f : A → TypedParameter) (xs : List A) → ((x : A) → type_fits (f x).of) → AllByRecursion (λ x. type_fits x.of) (map f xs)
formals_ok f [] h = tt
formals_ok f (x ∷ xs) h = (h x, formals_ok f xs h)

of_ok : (u : Around) (m : Mode) (xs : List Ident) (t : Typing) → TypingOk t → ParametersOk (parameters_of u m xs t)
of_ok u m xs t h = record { params = params_ok m xs t.of h.of; result = tt; parameters = formals_ok _ xs (λ x. h.of); made = h.made }

sections_ok : (ss : List WrittenSection) → AreOkSections ss → (u : Around) → AroundOk u → (name : List ℕ) → is_object name ≡ true → (i : ℕ) → SectionsOk (sections u name i ss)
sections_ok [] g u a name n i = record { found = record { params = tt; result = tt; parameters = tt; made = tt }; known = a.known }
sections_ok (s ∷ ss) g u a name n i =
    let m = mode_of s.is_var in
    let t = s.node.typing u (section_name name i) mark.Hidden true in
    let h = g.0 u a (section_name name i) (section_object name i n) mark.Hidden true in
    let d = declare_all u m t.node s.names in
    let v = with_made d.around t.node in
    let rest = sections_ok ss g.1 v (made_around d.around t.node h (declared_around u m t.node s.names a)) name n (i + length s.names) in
    let more = (sections v name (i + length s.names) ss).found in
    let mine : Judged Parameters = made (parameters_of u m s.names) t in
    record {
      found = then_has (λ (p : Parameters × Parameters). ParametersOk p.0 × ParametersOk p.1) ParametersOk (both (behind_quiet d.notes mine) more) _
          (both_have ParametersOk ParametersOk (behind_quiet d.notes mine) more (quiet_has ParametersOk d.notes mine (then_has TypingOk ParametersOk t (λ x. sound (parameters_of u m s.names x)) h (λ x k. of_ok u m s.names x k))) rest.found)
          (λ p k. record {
            params = all_both param.fits p.0.signature.params p.1.signature.params k.0.params k.1.params;
            result = tt;
            parameters = all_both (λ x. type_fits x.of) p.0.parameters p.1.parameters k.0.parameters k.1.parameters;
            made = all_both TypeOk p.0.made p.1.made k.0.made k.1.made;
          });
      known = rest.known;
    }

result_ok : (u : Around) → AroundOk u → (o : Option Qualident) → Has (λ o. IfSome o type_fits) (result_of u o)
result_ok u a None = tt
result_ok u a (Some q) = then_has type_fits (λ o. IfSome o type_fits) (type_named u q) (result_fits u (first_of q)) (type_has u a q) (λ t h. unless_has (λ o. IfSome o type_fits) _ rule.StructuredResult (first_of q) (Some t) h)

known_around : (u : Around) → AroundOk u → (s : Sections) → SectionsOk s → AroundOk (record u { known = s.known })
known_around u g s h = record { unit = g.unit; front = g.front; later = g.later; known = h.known; own = g.own; shown = g.shown }

pub parameters_ok : (u : Around) → AroundOk u → (name : List ℕ) → is_object name ≡ true → (p : WrittenParameters) → AreOkSections p.sections → SectionsOk (parameters_in u name p)
parameters_ok u a name n p g =
    let s = sections u name 1 p.sections in
    let h = sections_ok p.sections g u a name n 1 in
    let r = result_of (record u { known = s.known }) p.result in
    record {
      found = then_has (λ (q : Parameters × Option TypeRef). ParametersOk q.0 × IfSome q.1 type_fits) ParametersOk (both s.found r) _
          (both_have ParametersOk (λ o. IfSome o type_fits) s.found r h.found (result_ok (record u { known = s.known }) (known_around u a s h) p.result))
          (λ q k. record { params = k.0.params; result = k.1; parameters = k.0.parameters; made = k.0.made });
      known = h.known;
    }

pub inner_around : (u : Around) → AroundOk u → AroundOk (inner u)
inner_around u g = record { unit = g.unit; front = g.front; later = g.later; known = g.known; own = g.own; shown = g.shown }

pub type_ok : (u : Around) → AroundOk u → (name : List ℕ) → is_object name ≡ true → (m : Mark) (p : WrittenParameters) → AreOkSections p.sections → HasTyping (procedure_type u name m p)
type_ok u a name n m p g = then_has ParametersOk TypingOk (parameters_in (inner u) name p).found (λ q. sound (typed_as u name (desc.ProcType m q.signature) q.made)) (parameters_ok (inner u) (inner_around u a) name n p g).found (λ q h. record { of = own_fits u a name n; made = ((n, (h.params, h.result)), h.made) })

pub name_ok : (q : Qualident) (u : Around) → AroundOk u → (open_ok : Bool) → HasTyping (type_named u q ▷ named_typing u (first_of q) open_ok)
name_ok q u a open_ok = then_has type_fits TypingOk (type_named u q) (named_typing u (first_of q) open_ok) (type_has u a q) (λ t h. named_ok u (first_of q) open_ok t h)
