-- Types as they are written: where nothing is broken each has a node, its pointers have bases, and what has no other's name has its own.
use Rattle.ob_rules.specs.Declarations.{twice, newly, if_new}
use Rattle.std.proofs.Common.{◌≡◌, ℕ, ◌+◌, Bool, true, false, List, [], ◌∷◌, ◌++◌, length, Option, Some, None, refl, sym, ap, subst, ◌∙◌, inl, inr, cond}
use Rattle.std.specs.Prelude.{pos, suc, not, ◌&&◌, ◌||◌, bytes_eq, is_some, is_none}
use Rattle.std.specs.List.{AllByRecursion}
use Rattle.std.proofs.lemmas.Bool.{and_parts}
use Rattle.ob_tree.specs.declared.pos.Pos.{Pos}
use Rattle.ob_tree.specs.declared.ident.Ident.{Ident}
use Rattle.ob_tree.specs.declared.ident.IdentDef.{IdentDef}
use Rattle.ob_tree.specs.declared.ident.Mark.{Mark}
use Rattle.ob_tree.specs.declared.ident.Mark.TheVariants as mark
use Rattle.ob_tree.specs.declared.ident.Qualident.{Qualident}
use Rattle.ob_types.specs.declared.types.Mode.{Mode}
use Rattle.ob_types.specs.declared.types.TypeRef.{TypeRef}
use Rattle.ob_types.specs.declared.types.TypeRef.TheVariants as ref
use Rattle.ob_types.specs.declared.value.Value.{Value}
use Rattle.ob_types.specs.declared.value.Value.TheVariants as literal
use Rattle.ob_types.specs.declared.desc.Desc.{Desc}
use Rattle.ob_types.specs.declared.desc.Desc.TheVariants as desc
use Rattle.ob_types.specs.declared.desc.Field.{Field}
use Rattle.ob_types.specs.declared.typed.TypedType.{TypedType}
use Rattle.ob_rules.specs.declared.entity.Known.{Known}
use Rattle.ob_rules.specs.declared.broken.Broken.{Broken}
use Rattle.ob_rules.specs.declared.values.Valued.{Valued}
use Rattle.ob_rules.specs.declared.broken.Rule.TheVariants as rule
use Rattle.ob_rules.specs.Judged.{Judged, if_sound, paired, unless, sound, both, made, each_sound, is_quiet, ◌▷◌, if_quiet, behind_quiet, notes_if}
use Rattle.ob_rules.specs.Names.{Around, map_of, own_desc, type_named, in_unit, is_among, is_declared, found_in_scope}
use Rattle.ob_rules.specs.Values.{constant_in}
use Rattle.ob_rules.specs.Expressions.{constant_of, constant_if, constant_value}
use Rattle.ob_rules.specs.Phrases.{Phrase}
use Rattle.ob_rules.specs.Shapes.{is_structured, is_pointer, is_held}
use Rattle.ob_rules.specs.Types.{Typing, Written, typed_as, with_types, base_name, element_name, field_name, section_name, mark_of, is_module_level, marked, named_typing, length_of, array_length, fixed_array, open_array, array, first_of, base_of, base_if, member_in, record_in, inherits, field_declared, names_behind, name_in, WrittenFields, first_name, Fields, fields_of, with_fields, fields_joined, field_lists, record_with, record_desc, pointer_to, base_judged, pointer_base, later_if, later_by, is_later, pointer_by, pointer, Parameters, WrittenSection, WrittenParameters, Sections, mode_of, parameter_as, knows, declare_all, parameters_of, parameters_joined, with_made, sections, result_fits, result_of, with_result, parameters_in, inner, procedure_type}
use Rattle.law_names_procedures.proofs.Judges.{Has, Speaks, both_after, not_empty, has_more, breaks_speaks, then_speaks, both_speak, made_speaks, each_speaks, unless_speaks, wants_speaks, also_speaks, later_speaks}
use Rattle.law_names_procedures.proofs.Knowing.{AreKnown, name_speaks}
use Rattle.law_names_procedures.proofs.Points.{holds, Covers, holds_join, front_covers, both_cover, shape_held, pointer_held, PointsWell, Points, points_more, points_both, points_one, AreAlike, points_alike}
use Rattle.law_lists.proofs.Lists.{Anything, all_both, back_empty, bytes_itself, front_empty}

-- what a type makes
abbrev pub IsMade : Around → List ℕ → Option Qualident → Typing → Type 0
IsMade u name o t = Points u t.made × (o ≡ None → holds t.made name ≡ true)

-- whatever stands around in which nothing is broken, a written type has a node, if it breaks nothing
abbrev pub IsWell : Written → Type 0
IsWell w = (u : Around) (name : List ℕ) (m : Mark) (open_ok : Bool) → AreKnown u.known → Speaks (IsMade u name w.name) (w.typing u name m open_ok)

abbrev pub AreWellFields : List WrittenFields → Type 0
AreWellFields ls = AllByRecursion (λ l. IsWell l.node) ls

abbrev pub AreWellSections : List WrittenSection → Type 0
AreWellSections ss = AllByRecursion (λ s. IsWell s.node) ss

pub one_holds : (name : List ℕ) (t : TypedType) (more : List TypedType) → t.name ≡ name → holds (t ∷ more) name ≡ true
one_holds name t more e = front_covers (t ∷ []) more name (ap (λ b. is_some (own_desc (cond b (Some t) None))) (ap (λ n. bytes_eq n name) e ∙ bytes_itself name))

-- a type with a name of its own
typed_made : (u : Around) (name : List ℕ) (o : Option Qualident) (d : Desc) (more : List TypedType) → PointsWell (with_types u more) d → Points u more → IsMade u name o (typed_as u name d more)
typed_made u name o d more h k = (points_one u (record { name = name; desc = d }) more h k, λ e. one_holds name (record { name = name; desc = d }) more refl)

-- ---- constants and marks

of_constant : (start : Pos) (o : Option Value) → Speaks Anything (constant_of start o)
of_constant start None = breaks_speaks {A = Value} Anything rule.NotConstant start
of_constant start (Some v) = λ e. tt

-- an expression that must be constant speaks even where its value is silent
pub constant_speaks : (u : Around) (x : Phrase) → Speaks Anything (constant_value u x)
constant_speaks u x e =
    let j = x.value u in
    go j.node j.notes.broken (front_empty j.notes.broken (constant_if x.start j.node (is_quiet j.notes.broken)).notes.broken e) (back_empty j.notes.broken (constant_if x.start j.node (is_quiet j.notes.broken)).notes.broken e)
  where
    go : (o : Option Valued) (bs : List Broken) → bs ≡ [] → (constant_if x.start o (is_quiet bs)).notes.broken ≡ [] → Has Anything (constant_if x.start o (is_quiet bs)).node
    go (Some v) bs h k = of_constant x.start (constant_in v) k
    go None [] h k = not_empty _ [] k
    go None (b ∷ bs) h k = not_empty b bs h

mark_speaks_of : (level minus : Bool) (at : Pos) (m : Mark) → Speaks Anything (mark_of level minus at m)
mark_speaks_of true true at mark.Full = λ e. tt
mark_speaks_of true true at mark.ReadOnly = λ e. tt
mark_speaks_of true true at mark.Hidden = λ e. tt
mark_speaks_of true false at mark.Full = λ e. tt
mark_speaks_of true false at mark.ReadOnly = breaks_speaks {A = Mark} Anything rule.MisplacedMark at
mark_speaks_of true false at mark.Hidden = λ e. tt
mark_speaks_of false minus at mark.Full = breaks_speaks {A = Mark} Anything rule.MisplacedMark at
mark_speaks_of false minus at mark.ReadOnly = breaks_speaks {A = Mark} Anything rule.MisplacedMark at
mark_speaks_of false minus at mark.Hidden = λ e. tt

pub mark_speaks : (u : Around) (minus : Bool) (d : IdentDef) → Speaks Anything (marked u minus d)
mark_speaks u minus d = mark_speaks_of (is_module_level u) minus d.mark_pos d.mark

pub newly_has : (u : Around) (d : IdentDef) → (twice u d.ident).broken ≡ [] → Has Anything (marked u false d).node → Has Anything (newly u d).node
newly_has u d e h = by (found_in_scope u d.ident.name) e
  where
    by : (o : Option Known) → (notes_if (is_some o) rule.DeclaredTwice d.ident.«pos»).broken ≡ [] → Has Anything (if_new o (marked u false d).node)
    by None e = h
    by (Some k) e = absurd (not_empty _ [] e)

-- ---- arrays

named_speaks : (u : Around) (name : List ℕ) (at : Pos) (open_ok : Bool) (q : Qualident) (t : TypeRef) → Speaks (IsMade u name (Some q)) (named_typing u at open_ok t)
named_speaks u name at open_ok q t = unless_speaks (IsMade u name (Some q)) _ rule.MisplacedOpenArray at (record { of = t; made = [] }) (tt, λ e. absurd cc)

length_speaks : (at : Pos) (v : Value) → Speaks Anything (length_of at v)
length_speaks at (literal.Int (pos (suc n))) = λ e. tt
length_speaks at v = breaks_speaks {A = ℕ} Anything rule.UnfitLength at

fixed_well : (ls : List Phrase) (element : Written) → IsWell element → (u : Around) (name : List ℕ) (m : Mark) → AreKnown u.known → Speaks (λ t. Points u t.made) (fixed_array u name m ls element)
fixed_well [] element g u name m k = λ e. has_more (IsMade u name element.name) (λ t. Points u t.made) (element.typing u name m false).node (λ t h. h.0) (g u name m false k e)
fixed_well (l ∷ ls) element g u name m k =
    then_speaks (λ (p : ℕ × Typing). Unit {0} × Points u p.1.made) (λ t. Points u t.made) (both (array_length u l) (fixed_array u (element_name name) mark.Hidden ls element)) (λ p. sound (typed_as u name (desc.Array m p.0 p.1.of) p.1.made))
    (both_speak Anything (λ (t : Typing). Points u t.made) (array_length u l) (fixed_array u (element_name name) mark.Hidden ls element) (length_all u l) (fixed_well ls element g u (element_name name) mark.Hidden k))
    (λ p h. λ e. points_one u (record { name = name; desc = desc.Array m p.0 p.1.of }) p.1.made tt h.1)
  where
    length_all : (u : Around) (l : Phrase) → Speaks Anything (array_length u l)
    length_all u l = then_speaks Anything Anything (constant_value u l) (length_of l.start) (constant_speaks u l) (λ v h. length_speaks l.start v)

pub array_well : (ls : List Phrase) (at : Pos) (element : Written) → IsWell element → (u : Around) (name : List ℕ) (m : Mark) (open_ok : Bool) → AreKnown u.known → Speaks (IsMade u name None) (array u name m at open_ok ls element)
array_well [] at element g u name m open_ok k =
    also_speaks (IsMade u name None) _ rule.MisplacedOpenArray at (element.typing u (element_name name) mark.Hidden element.open_array ▷ λ t. sound (typed_as u name (desc.OpenArray m t.of) t.made))
    (then_speaks (IsMade u (element_name name) element.name) (IsMade u name None) (element.typing u (element_name name) mark.Hidden element.open_array) (λ t. sound (typed_as u name (desc.OpenArray m t.of) t.made)) (g u (element_name name) mark.Hidden element.open_array k)
    (λ t h. λ e. typed_made u name None (desc.OpenArray m t.of) t.made tt h.0))
array_well (l ∷ ls) at element g u name m open_ok k =
    then_speaks (λ (p : ℕ × Typing). Unit {0} × Points u p.1.made) (IsMade u name None) (both (array_length u l) (fixed_array u (element_name name) mark.Hidden ls element)) (λ p. sound (typed_as u name (desc.Array m p.0 p.1.of) p.1.made))
    (both_speak Anything (λ (t : Typing). Points u t.made) (array_length u l) (fixed_array u (element_name name) mark.Hidden ls element) (then_speaks Anything Anything (constant_value u l) (length_of l.start) (constant_speaks u l) (λ v h. length_speaks l.start v)) (fixed_well ls element g u (element_name name) mark.Hidden k))
    (λ p h. λ e. typed_made u name None (desc.Array m p.0 p.1.of) p.1.made tt h.1)

-- ---- records

base_speaks : (u : Around) (o : Option Qualident) → AreKnown u.known → Speaks Anything (base_if u o)
base_speaks u None k = λ e. tt
base_speaks u (Some q) k = made_speaks Anything Anything (λ t. Some t) (type_named u q ▷ base_of (map_of u) (first_of q)) (then_speaks Anything Anything (type_named u q) (base_of (map_of u) (first_of q)) (name_speaks u q k) (λ t h. wants_speaks Anything _ rule.UnfitBase (first_of q) t tt)) (λ t h. tt)

field_speaks : (u : Around) (base : Option (Option TypeRef)) (before : List (List ℕ)) (d : IdentDef) (t : TypeRef) → Speaks Anything (field_declared u base before d t)
field_speaks u base before d t =
    later_speaks Anything (inherits base d.ident) (marked u true d ▷ λ m. unless (is_among d.ident.name before || is_some (member_in (map_of u) (record_in (map_of u) base) d.ident.name)) rule.DeclaredTwice d.ident.pos (record { name = d.ident.name; mark = m; place = 0; of = t }))
    (then_speaks Anything Anything (marked u true d) _ (mark_speaks u true d) (λ m h. unless_speaks Anything (is_among d.ident.name before || is_some (member_in (map_of u) (record_in (map_of u) base) d.ident.name)) rule.DeclaredTwice d.ident.pos (record { name = d.ident.name; mark = m; place = 0; of = t }) tt))

fields_each : (u : Around) (base : Option (Option TypeRef)) (before : List (List ℕ)) (ds : List IdentDef) (t : Typing) → AllByRecursion (Speaks Anything) (fields_of u base before ds (Some t))
fields_each u base before [] t = tt
fields_each u base before (d ∷ ds) t = (field_speaks u base before d t.of, fields_each u base (name_in d ∷ before) ds t)

fields_if : (u : Around) (base : Option (Option TypeRef)) (before : List (List ℕ)) (ds : List IdentDef) (o : Option Typing) → Has (λ t. Points u t.made) o → Speaks Anything (each_sound (fields_of u base before ds o))
fields_if u base before ds None h = absurd h
fields_if u base before ds (Some t) h = each_speaks (fields_of u base before ds (Some t)) (fields_each u base before ds t)

fields_well : (u : Around) (base : Option (Option TypeRef)) (before : List (List ℕ)) (ds : List IdentDef) (t : Judged Typing) → Speaks (λ t. Points u t.made) t → Speaks (λ (f : Fields). Points u f.made) (with_fields u base before ds t)
fields_well u base before ds t g =
    then_speaks (λ (p : Typing × List Field). Points u p.0.made × Unit {0}) (λ (f : Fields). Points u f.made) (both t (each_sound (fields_of u base before ds t.node))) (λ p. sound (record { fields = p.1; made = p.0.made }))
    (both_after (λ (t : Typing). Points u t.made) Anything t (each_sound (fields_of u base before ds t.node)) g (fields_if u base before ds t.node))
    (λ p h. λ e. h.0)

made_only : (u : Around) (name : List ℕ) (o : Option Qualident) (j : Judged Typing) → Speaks (IsMade u name o) j → Speaks (λ t. Points u t.made) j
made_only u name o j h = λ e. has_more (IsMade u name o) (λ t. Points u t.made) j.node (λ t k. k.0) (h e)

lists_well : (ls : List WrittenFields) → AreWellFields ls → (u : Around) (name : List ℕ) (base : Option (Option TypeRef)) (before : List (List ℕ)) → AreKnown u.known → Speaks (λ (f : Fields). Points u f.made) (field_lists u name base before ls)
lists_well [] g u name base before k = λ e. tt
lists_well (l ∷ ls) g u name base before k =
    let t = l.node.typing u (field_name name (first_name l.names)) mark.Hidden false in
    let a = with_fields u base before l.names t in
    let b = field_lists u name base (names_behind l.names before) ls in
    then_speaks (λ (p : Fields × Fields). Points u p.0.made × Points u p.1.made) (λ (f : Fields). Points u f.made) (both a b) (λ p. sound (fields_joined p.0 p.1))
    (both_speak (λ (f : Fields). Points u f.made) (λ (f : Fields). Points u f.made) a b (fields_well u base before l.names t (made_only u (field_name name (first_name l.names)) l.node.name t (g.0 u (field_name name (first_name l.names)) mark.Hidden false k))) (lists_well ls g.1 u name base (names_behind l.names before) k))
    (λ p h. λ e. points_both u p.0.made p.1.made h.0 h.1)

pub record_well : (u : Around) (name : List ℕ) (m : Mark) (lists : List WrittenFields) → AreWellFields lists → (o : Option Qualident) → AreKnown u.known → Speaks (IsMade u name None) (record_with u name m lists (base_if u o))
record_well u name m lists g o k =
    then_speaks (λ (p : Option TypeRef × Fields). Unit {0} × Points u p.1.made) (IsMade u name None) (both (base_if u o) (field_lists u name (base_if u o).node [] lists)) (λ p. sound (typed_as u name (record_desc m p.0 p.1.fields) p.1.made))
    (both_speak Anything (λ (f : Fields). Points u f.made) (base_if u o) (field_lists u name (base_if u o).node [] lists) (base_speaks u o k) (lists_well lists g u name (base_if u o).node [] k))
    (λ p h. λ e. typed_made u name None (record_desc m p.0 p.1.fields) p.1.made tt h.1)

-- ---- pointers

later_in : (b : Bool) (y x : Ident) → later_if b y ≡ Some x → (b ≡ true) × (y ≡ x)
later_in true y x e = (refl, cc)
later_in false y x e = absurd cc

later_is_by : (u : Around) (o : Option Ident) (y x : Ident) → later_by u o y ≡ Some x → is_among x.name u.later_types ≡ true
later_is_by u None y x e =
    let p = later_in (is_among y.name u.later_types && not (is_declared u y.name)) y x e in
    ap (λ (i : Ident). is_among i.name u.later_types) (sym p.1) ∙ (and_parts (is_among y.name u.later_types) (not (is_declared u y.name)) p.0).0
later_is_by u (Some m) y x e = absurd cc

later_is : (u : Around) (o : Option Qualident) (x : Ident) → is_later u o ≡ Some x → is_among x.name u.later_types ≡ true
later_is u None x e = absurd cc
later_is u (Some q) x e = later_is_by u q.qualifier q.ident x e

abbrev IsBase : Around → Typing → Type 0
IsBase u t = Points u t.made × (is_held (map_of (with_types u t.made)) t.of ≡ true)

base_judges : (u : Around) (name : List ℕ) (inline : Bool) (at : Pos) (s p : Bool) (t : Typing) → Points u t.made → (s ≡ true → is_held (map_of (with_types u t.made)) t.of ≡ true) → (p ≡ true → is_held (map_of (with_types u t.made)) t.of ≡ true) → Speaks (IsBase u) (base_judged name inline at s p t)
base_judges u name inline at true p t k f g = λ e. (k, f refl)
base_judges u name inline at false true t k f g = λ e. (k, g refl)
base_judges u name inline at false false t k f g = breaks_speaks (IsBase u) rule.UnfitPointerBase at

pointer_well_by : (u : Around) (name : List ℕ) (m : Mark) (base : Written) → IsWell base → AreKnown u.known → (o : Option Ident) → ((x : Ident) → o ≡ Some x → is_among x.name u.later_types ≡ true) → Speaks (IsMade u name None) (pointer_by u name m base o)
pointer_well_by u name m base g k (Some x) h = λ e. typed_made u name None (desc.Pointer m (ref.Named (in_unit u (u.path ++ x.name)))) [] (inr (x.name, h x refl, refl)) tt
pointer_well_by u name m base g k None h =
    let j = base.typing u (base_name name) mark.Hidden true in
    made_speaks (IsBase u) (IsMade u name None) (pointer_to u name m) (j ▷ pointer_base u name (is_none base.name) base.start)
    (then_speaks (IsMade u (base_name name) base.name) (IsBase u) j (pointer_base u name (is_none base.name) base.start) (g u (base_name name) mark.Hidden true k)
    (λ t p. base_judges u name (is_none base.name) base.start (is_structured (map_of (with_types u t.made)) t.of) (is_pointer (map_of (with_types u t.made)) t.of) t p.0 (shape_held (map_of (with_types u t.made)) t.of) (pointer_held (map_of (with_types u t.made)) t.of)))
    (λ t p. typed_made u name None (desc.Pointer m t.of) t.made (inl p.1) p.0)

pub pointer_well : (u : Around) (name : List ℕ) (m : Mark) (base : Written) → IsWell base → AreKnown u.known → Speaks (IsMade u name None) (pointer u name m base)
pointer_well u name m base g k = pointer_well_by u name m base g k (is_later u base.name) (later_is u base.name)

-- ---- parameters

-- where nothing is broken there are parameters, and what is known behind them
abbrev pub SpeakSections : Around → Sections → Type 0
SpeakSections u s = s.found.notes.broken ≡ [] → Has (λ p. Points u p.made) s.found.node × AreKnown s.known

pub declare_all_is : (xs : List Ident) (u : Around) (m : Mode) (o : Option Typing) → (declare_all u m o xs).around ≡ record u { known = (declare_all u m o xs).around.known }
declare_all_is [] u m o = refl
declare_all_is (x ∷ xs) u m o = declare_all_is xs (knows u x (parameter_as u m x o)) m o

declare_all_known : (xs : List Ident) (u : Around) (m : Mode) (o : Option Typing) → Has (λ t. Points u t.made) o → AreKnown u.known → AreKnown (declare_all u m o xs).around.known
declare_all_known xs u m None h k = absurd h
declare_all_known xs u m (Some t) h k = all xs u k
  where
    all : (xs : List Ident) (u : Around) → AreKnown u.known → AreKnown (declare_all u m (Some t) xs).around.known
    all [] u k = k
    all (x ∷ xs) u k = all xs (knows u x (parameter_as u m x (Some t))) (tt, k)

with_made_known : (u : Around) (o : Option Typing) → AreKnown u.known → AreKnown (with_made u o).known
with_made_known u None k = k
with_made_known u (Some t) k = k

swapped : (a b c : Bool) → (a || (b || c)) ≡ true → ((b || a) || c) ≡ true
swapped true true c h = refl
swapped true false c h = refl
swapped false true c h = refl
swapped false false c h = h

swap_covers : (a b c : List TypedType) → Covers (a ++ (b ++ c)) ((b ++ a) ++ c)
swap_covers a b c x h =
    holds_join (b ++ a) c x ∙ ap (λ d. d || holds c x) (holds_join b a x)
    ∙ swapped (holds a x) (holds b x) (holds c x) (ap (λ d. holds a x || d) (sym (holds_join b c x)) ∙ (sym (holds_join a (b ++ c) x) ∙ h))

points_behind : (u : Around) (a b : List TypedType) → Points u a → Points (with_types u a) b → Points u (a ++ b)
points_behind u a b h k =
    all_both (λ t. PointsWell (with_types u (a ++ b)) t.desc) a b
    (points_more u (a ++ u.own) ((a ++ b) ++ u.own) (both_cover a (a ++ b) u.own (front_covers a b)) a h)
    (points_more u (b ++ (a ++ u.own)) ((a ++ b) ++ u.own) (swap_covers b a u.own) b k)

section_joined : (u : Around) (m : Mode) (xs : List Ident) (o : Option Typing) (rest : Option Parameters) → Has (λ t. Points u t.made) o → Has (λ p. Points (with_made u o) p.made) rest → Has (λ p. Points u p.made) (if_sound (paired (if_sound o (λ x. sound (parameters_of u m xs x))).node rest) (λ q. sound (parameters_joined q.0 q.1))).node
section_joined u m xs None rest h k = absurd h
section_joined u m xs (Some t) None h k = absurd k
section_joined u m xs (Some t) (Some p) h k = points_behind u t.made p.made h k

pub quiet_is : (bs : List Broken) → bs ≡ [] → is_quiet bs ≡ true
quiet_is [] e = refl
quiet_is (b ∷ bs) e = absurd cc

sections_well : (ss : List WrittenSection) → AreWellSections ss → (u : Around) (name : List ℕ) (i : ℕ) → AreKnown u.known → SpeakSections u (sections u name i ss)
sections_well [] g u name i k = λ e. (tt, k)
sections_well (s ∷ ss) g u name i k = λ e.
    let M = mode_of s.is_var in
    let t = s.node.typing u (section_name name i) mark.Hidden true in
    let n = declare_all u M t.node s.names in
    let v = with_made n.around t.node in
    let rest = sections v name (i + length s.names) ss in
    let mine = behind_quiet n.notes (made (parameters_of u M s.names) t) in
    let two : mine.notes.broken ++ rest.found.notes.broken ≡ [] = front_empty (mine.notes.broken ++ rest.found.notes.broken) _ e in
    let one : t.notes.broken ≡ [] = front_empty t.notes.broken _ (back_empty n.notes.broken (made (parameters_of u M s.names) t).notes.broken (front_empty mine.notes.broken rest.found.notes.broken two)) in
    let h : Has (λ t. Points u t.made) t.node = made_only u (section_name name i) s.node.name t (g.0 u (section_name name i) mark.Hidden true k) one in
    let r = sections_well ss g.1 v name (i + length s.names) (with_made_known n.around t.node (declare_all_known s.names u M t.node h k)) (back_empty mine.notes.broken rest.found.notes.broken two) in
    let q : Has (λ p. Points (with_made u t.node) p.made) rest.found.node = moved u n.around t.node rest.found.node (declare_all_is s.names u M t.node) r.0 in
    let quiet : is_quiet n.notes.broken ≡ true = quiet_is n.notes.broken (front_empty n.notes.broken (made (parameters_of u M s.names) t).notes.broken (front_empty mine.notes.broken rest.found.notes.broken two)) in
    (subst (λ b. Has (λ p. Points u p.made) (if_sound (paired (if_quiet b (made (parameters_of u M s.names) t).node) rest.found.node) (λ q. sound (parameters_joined q.0 q.1))).node) (sym quiet) (section_joined u M s.names t.node rest.found.node h q), r.1)
  where
    same : (u : Around) (ks : List Known) (own : List TypedType) → AreAlike (record u { known = ks; own = own }) (record u { own = own })
    same u ks own = record { unit = refl; shown = refl; own = refl; later_types = refl; path = refl }

    moved_at : (u : Around) (ks : List Known) (o : Option Typing) (rest : Option Parameters) → Has (λ p. Points (with_made (record u { known = ks }) o) p.made) rest → Has (λ p. Points (with_made u o) p.made) rest
    moved_at u ks None None h = h
    moved_at u ks None (Some p) h = points_alike (record u { known = ks; own = p.made ++ u.own }) (record u { own = p.made ++ u.own }) (same u ks (p.made ++ u.own)) p.made h
    moved_at u ks (Some t) None h = h
    moved_at u ks (Some t) (Some p) h = points_alike (record u { known = ks; own = p.made ++ (t.made ++ u.own) }) (record u { own = p.made ++ (t.made ++ u.own) }) (same u ks (p.made ++ (t.made ++ u.own))) p.made h

    moved : (u v : Around) (o : Option Typing) (rest : Option Parameters) → v ≡ record u { known = v.known } → Has (λ p. Points (with_made v o) p.made) rest → Has (λ p. Points (with_made u o) p.made) rest
    moved u v o rest e h = moved_at u v.known o rest (subst (λ w. Has (λ p. Points (with_made w o) p.made) rest) e h)

result_speaks : (u : Around) (o : Option Qualident) → AreKnown u.known → Speaks Anything (result_of u o)
result_speaks u None k = λ e. tt
result_speaks u (Some q) k = then_speaks Anything Anything (type_named u q) (result_fits u (first_of q)) (name_speaks u q k) (λ t h. unless_speaks Anything _ rule.StructuredResult (first_of q) (Some t) tt)

pub parameters_well : (u : Around) (name : List ℕ) (p : WrittenParameters) → AreWellSections p.sections → AreKnown u.known → SpeakSections u (parameters_in u name p)
parameters_well u name p g k = λ e.
    let s = sections u name 1 p.sections in
    let r = result_of (record u { known = s.known }) p.result in
    let two : s.found.notes.broken ++ r.notes.broken ≡ [] = front_empty (s.found.notes.broken ++ r.notes.broken) _ e in
    let h = sections_well p.sections g u name 1 k (front_empty s.found.notes.broken r.notes.broken two) in
    (then_speaks (λ (q : Parameters × Option TypeRef). Points u q.0.made × Unit {0}) (λ p. Points u p.made) (both s.found r) (λ q. sound (with_result q.0 q.1)) (both_speak (λ p. Points u p.made) Anything s.found r (λ e. h.0) (result_speaks (record u { known = s.known }) p.result h.1)) (λ q h. λ e. h.0) e, h.1)

pub procedure_well : (u : Around) (name : List ℕ) (m : Mark) (p : WrittenParameters) → AreWellSections p.sections → AreKnown u.known → Speaks (IsMade u name None) (procedure_type u name m p)
procedure_well u name m p g k =
    then_speaks (λ (q : Parameters). Points (inner u) q.made) (IsMade u name None) (parameters_in (inner u) name p).found (λ q. sound (typed_as u name (desc.ProcType m q.signature) q.made)) (λ e. (parameters_well (inner u) name p g k e).0)
    (λ q h. λ e. typed_made u name None (desc.ProcType m q.signature) q.made tt (points_alike (with_types (inner u) q.made) (with_types u q.made) (record { unit = refl; shown = refl; own = refl; later_types = refl; path = refl }) q.made h))

pub name_well : (q : Qualident) (u : Around) (name : List ℕ) (open_ok : Bool) → AreKnown u.known → Speaks (IsMade u name (Some q)) (type_named u q ▷ named_typing u (first_of q) open_ok)
name_well q u name open_ok k = then_speaks Anything (IsMade u name (Some q)) (type_named u q) (named_typing u (first_of q) open_ok) (name_speaks u q k) (λ t h. named_speaks u name (first_of q) open_ok q t)
