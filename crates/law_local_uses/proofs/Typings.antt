-- What types as they are written come to: types that are held, and types of the module that are described by held ones.
use Rattle.std.proofs.Common.{ℕ, zero, suc, ◌+◌, Bool, true, false, List, [], ◌∷◌, ◌++◌, length, map as each, Option, Some, None}
use Rattle.std.specs.Prelude.{pos, negsuc, is_none, ◌||◌, is_some}
use Rattle.std.specs.List.{AllByRecursion}
use Rattle.ob_tree.specs.declared.pos.Pos.{Pos}
use Rattle.ob_tree.specs.declared.ident.Ident.{Ident}
use Rattle.ob_tree.specs.declared.ident.IdentDef.{IdentDef}
use Rattle.ob_tree.specs.declared.ident.Mark.{Mark}
use Rattle.ob_tree.specs.declared.ident.Mark.TheVariants as mark
use Rattle.ob_tree.specs.declared.ident.Qualident.{Qualident}
use Rattle.ob_types.specs.declared.types.Mode.{Mode}
use Rattle.ob_types.specs.declared.types.TypeRef.{TypeRef}
use Rattle.ob_types.specs.declared.types.TypeRef.TheVariants as ref
use Rattle.ob_types.specs.declared.value.Value.{Value}
use Rattle.ob_types.specs.declared.value.Value.TheVariants as literal
use Rattle.ob_types.specs.declared.desc.Desc.TheVariants as desc
use Rattle.ob_types.specs.declared.desc.Field.{Field}
use Rattle.ob_types.specs.declared.typed.TypedType.{TypedType}
use Rattle.ob_types.specs.declared.typed.TypedParameter.{TypedParameter}
use Rattle.ob_types.specs.Maps.{listed, signature_types}
use Rattle.ob_rules.specs.declared.entity.Known.{Known}
use Rattle.ob_rules.specs.declared.entity.Entity.{Entity}
use Rattle.ob_rules.specs.declared.notes.Later.{Later}
use Rattle.ob_rules.specs.declared.broken.Rule.TheVariants as rule
use Rattle.ob_rules.specs.Judged.{Judged, sound, silent, unless, both, each_sound, made, judge_later, ◌▷◌, behind_quiet}
use Rattle.ob_rules.specs.Shapes.{is_structured, is_pointer}
use Rattle.ob_rules.specs.Names.{Around, map_of, in_unit, type_named, found_in_scope, is_among}
use Rattle.ob_rules.specs.Phrases.{Phrase}
use Rattle.ob_rules.specs.Expressions.{constant_value}
use Rattle.ob_rules.specs.Types.{Typing, Written, typed_as, with_types, base_name, element_name, field_name, section_name, is_module_level, mark_of, marked, named_typing, length_of, array_length, fixed_array, array, first_of, base_of, base_if, member_in, record_in, inherits, field_declared, field_if, name_in, fields_of, names_behind, WrittenFields, first_name, Fields, with_fields, fields_joined, field_lists, record_desc, record_with, pointer_to, base_judged, pointer_base, pointer_by, Parameters, WrittenSection, WrittenParameters, Sections, mode_of, twice_if, new_name, parameter_as, knows, Named as NamedAll, declare_all, parameters_of, parameters_joined, with_made, sections, result_fits, result_of, with_result, parameters_in, inner, procedure_type}
use Rattle.law_local_judged.specs.Agreement.{IsIn, AreIn}
use Rattle.law_local_uses.specs.Settled.{MeansIn}
use Rattle.law_local_uses.proofs.Setting.{Said, none, Keeps, said_both, then_keeps, both_keep, made_keeps, each_keep, unless_keeps, wants_keeps, also_keeps, later_keeps, quiet_keeps}
use Rattle.law_local_uses.proofs.Names.{type_keeps}
use Rattle.law_local_uses.proofs.Around.{Given, Named, AreNamed, AreKnown, Fine, base, here, own_in, settled_here}
use Rattle.law_lists.proofs.Lists.{Anything, IfThere, all_both}

abbrev pub In : Given → TypeRef → Type 0
In g t = IsIn g.Held t

-- what is judged is so, and what the notes name is held
abbrev pub Holds : Given → {A : Type 0} → (A → Type 0) → Judged A → Type 0
Holds g Q j = Keeps (base g) Q j

abbrev pub TypingOk : Given → Typing → Type 0
TypingOk g t = In g t.of × AreNamed g t.made

-- whatever stands around
abbrev pub GoodWritten : Given → Written → Type 0
GoodWritten g w = (u : Around) → Fine g u → (name : List ℕ) (m : Mark) (open_ok : Bool) → Holds g (TypingOk g) (w.typing u name m open_ok)

abbrev pub GoodPhrase : Given → Phrase → Type 0
GoodPhrase g p = (u : Around) → Fine g u → Holds g Anything (constant_value u p)

pub type_held : (g : Given) (u : Around) → Fine g u → (q : Qualident) → Holds g (In g) (type_named u q)
type_held g u f q = type_keeps (here g u) u (settled_here g u f) q

pub more_types : (g : Given) (u : Around) → Fine g u → (ts : List TypedType) → AreNamed g ts → Fine g (with_types u ts)
more_types g u f ts h = record { unit = f.unit; shown = f.shown; own = all_both (Named g) ts u.own h f.own; known = f.known; guards = f.guards; receiver = f.receiver }

any_mark : (g : Given) (a b : Bool) (at : Pos) (m : Mark) → Holds g Anything (mark_of a b at m)
any_mark g a b at mark.Hidden = (tt, none)
any_mark g false b at mark.Full = (tt, none)
any_mark g false b at mark.ReadOnly = (tt, none)
any_mark g true false at mark.Full = (tt, none)
any_mark g true true at mark.Full = (tt, none)
any_mark g true false at mark.ReadOnly = (tt, none)
any_mark g true true at mark.ReadOnly = (tt, none)

pub marked_held : (g : Given) (u : Around) (minus : Bool) (d : IdentDef) → Holds g Anything (marked u minus d)
marked_held g u minus d = any_mark g (is_module_level u) minus d.mark_pos d.mark

-- ---- names and arrays

pub name_good : (g : Given) (u : Around) → Fine g u → (q : Qualident) (open_ok : Bool) → Holds g (TypingOk g) (type_named u q ▷ named_typing u (first_of q) open_ok)
name_good g u f q open_ok = then_keeps (base g) (In g) (TypingOk g) (type_named u q) (named_typing u (first_of q) open_ok) (type_held g u f q) (λ t h. unless_keeps (base g) (TypingOk g) _ rule.MisplacedOpenArray (first_of q) (record { of = t; made = [] }) (h, tt))

length_held : (g : Given) (at : Pos) (v : Value) → Holds g Anything (length_of at v)
length_held g at (literal.Int (pos zero)) = (tt, none)
length_held g at (literal.Int (pos (suc n))) = (tt, none)
length_held g at (literal.Int (negsuc n)) = (tt, none)
length_held g at (literal.Bool b) = (tt, none)
length_held g at (literal.Char c) = (tt, none)
length_held g at (literal.Set s) = (tt, none)
length_held g at (literal.Str s) = (tt, none)
length_held g at literal.Nil = (tt, none)

array_length_held : (g : Given) (u : Around) → Fine g u → (l : Phrase) → GoodPhrase g l → Holds g Anything (array_length u l)
array_length_held g u f l p = then_keeps (base g) Anything Anything (constant_value u l) (length_of l.start) (p u f) (λ v h. length_held g l.start v)

fixed_good : (g : Given) (ls : List Phrase) → AllByRecursion (GoodPhrase g) ls → (element : Written) → GoodWritten g element → (u : Around) → Fine g u → (name : List ℕ) (m : Mark) → Holds g (TypingOk g) (fixed_array u name m ls element)
fixed_good g [] p element h u f name m = h u f name m false
fixed_good g (l ∷ ls) p element h u f name m =
    then_keeps (base g) (λ (x : ℕ × Typing). Anything x.0 × TypingOk g x.1) (TypingOk g) (both (array_length u l) (fixed_array u (element_name name) mark.Hidden ls element)) (λ x. sound (typed_as u name (desc.Array m x.0 x.1.of) x.1.made))
    (both_keep (base g) Anything (TypingOk g) (array_length u l) (fixed_array u (element_name name) mark.Hidden ls element) (array_length_held g u f l p.0) (fixed_good g ls p.1 element h u f (element_name name) mark.Hidden))
    (λ x q. ((own_in g u f name, ((q.1.0, tt), q.1.1)), none))

pub array_good : (g : Given) (ls : List Phrase) → AllByRecursion (GoodPhrase g) ls → (at : Pos) (element : Written) → GoodWritten g element → (u : Around) → Fine g u → (name : List ℕ) (m : Mark) (open_ok : Bool) → Holds g (TypingOk g) (array u name m at open_ok ls element)
array_good g [] p at element h u f name m open_ok =
    also_keeps (base g) (TypingOk g) _ rule.MisplacedOpenArray at (element.typing u (element_name name) mark.Hidden element.open_array ▷ λ t. sound (typed_as u name (desc.OpenArray m t.of) t.made))
    (then_keeps (base g) (TypingOk g) (TypingOk g) (element.typing u (element_name name) mark.Hidden element.open_array) (λ t. sound (typed_as u name (desc.OpenArray m t.of) t.made)) (h u f (element_name name) mark.Hidden element.open_array)
    (λ t q. ((own_in g u f name, ((q.0, tt), q.1)), none)))
array_good g (l ∷ ls) p at element h u f name m open_ok = fixed_good g (l ∷ ls) p element h u f name m

-- ---- pointers

base_good : (g : Given) (name : List ℕ) (inline : Bool) (at : Pos) (s p : Bool) (t : Typing) → TypingOk g t → Holds g (TypingOk g) (base_judged name inline at s p t)
base_good g name inline at true p t h = (h, none)
base_good g name inline at false true t h = (h, none)
base_good g name inline at false false t h = (tt, none)

pub pointer_good : (g : Given) (u : Around) → Fine g u → (name : List ℕ) (m : Mark) (w : Written) → GoodWritten g w → (o : Option Ident) → Holds g (TypingOk g) (pointer_by u name m w o)
pointer_good g u f name m w h (Some x) = ((own_in g u f name, ((own_in g u f (u.path ++ x.name), tt), tt)), none)
pointer_good g u f name m w h None =
    then_keeps (base g) (TypingOk g) (TypingOk g) (w.typing u (base_name name) mark.Hidden true ▷ pointer_base u name (is_none w.name) w.start) (λ t. sound (pointer_to u name m t))
    (then_keeps (base g) (TypingOk g) (TypingOk g) (w.typing u (base_name name) mark.Hidden true) (pointer_base u name (is_none w.name) w.start) (h u f (base_name name) mark.Hidden true)
    (λ t q. base_good g name (is_none w.name) w.start (is_structured (map_of (with_types u t.made)) t.of) (is_pointer (map_of (with_types u t.made)) t.of) t q))
    (λ t q. ((own_in g u f name, ((q.0, tt), q.1)), none))

-- ---- records

abbrev FieldOk : Given → Field → Type 0
FieldOk g x = In g x.of

abbrev pub FieldsOk : Given → Fields → Type 0
FieldsOk g x = AllByRecursion (FieldOk g) x.fields × AreNamed g x.made

base_if_held : (g : Given) (u : Around) → Fine g u → (o : Option Qualident) → Holds g (IfThere (In g)) (base_if u o)
base_if_held g u f None = (tt, none)
base_if_held g u f (Some q) =
    made_keeps (base g) (In g) (IfThere (In g)) (λ t. Some t) (type_named u q ▷ base_of (map_of u) (first_of q))
    (then_keeps (base g) (In g) (In g) (type_named u q) (base_of (map_of u) (first_of q)) (type_held g u f q) (λ t h. wants_keeps (base g) (In g) _ rule.UnfitBase (first_of q) t (λ e. h))) (λ t h. h)

later_notes : (g : Given) {A : Type 0} (Q : A → Type 0) (ls : List Later) (j : Judged A) → Holds g Q j → Holds g Q (judge_later ls j)
later_notes g Q ls j h = later_keeps (base g) Q ls j h

declared_good : (g : Given) (u : Around) (b : Option (Option TypeRef)) (before : List (List ℕ)) (d : IdentDef) (t : TypeRef) → In g t → Holds g (FieldOk g) (field_declared u b before d t)
declared_good g u b before d t h =
    let r : Field → Judged Field = λ x. unless (is_among d.ident.name before || is_some (member_in (map_of u) (record_in (map_of u) b) d.ident.name)) rule.DeclaredTwice d.ident.pos x in
    later_notes g (FieldOk g) (inherits b d.ident) (marked u true d ▷ λ m. r (record { name = d.ident.name; mark = m; place = 0; of = t }))
    (then_keeps (base g) Anything (FieldOk g) (marked u true d) (λ m. r (record { name = d.ident.name; mark = m; place = 0; of = t })) (marked_held g u true d)
    (λ m q. unless_keeps (base g) (FieldOk g) (is_among d.ident.name before || is_some (member_in (map_of u) (record_in (map_of u) b) d.ident.name)) rule.DeclaredTwice d.ident.pos (record { name = d.ident.name; mark = m; place = 0; of = t }) h))

if_good : (g : Given) (u : Around) → Fine g u → (b : Option (Option TypeRef)) (before : List (List ℕ)) (d : IdentDef) (o : Option Typing) → IfThere (TypingOk g) o → Holds g (FieldOk g) (field_if u b before d o)
if_good g u f b before d (Some t) h = declared_good g u b before d t.of h.0
if_good g u f b before d None h = then_keeps (base g) (FieldOk g) (FieldOk g) (field_declared u b before d (ref.Named (in_unit u []))) (λ x. silent) (declared_good g u b before d (ref.Named (in_unit u [])) (own_in g u f [])) (λ x q. (tt, none))

fields_good : (g : Given) (u : Around) → Fine g u → (b : Option (Option TypeRef)) (before : List (List ℕ)) (ds : List IdentDef) (o : Option Typing) → IfThere (TypingOk g) o → AllByRecursion (Holds g (FieldOk g)) (fields_of u b before ds o)
fields_good g u f b before [] o h = tt
fields_good g u f b before (d ∷ ds) o h = (if_good g u f b before d o h, fields_good g u f b (name_in d ∷ before) ds o h)

list_good : (g : Given) (u : Around) → Fine g u → (b : Option (Option TypeRef)) (before : List (List ℕ)) (ds : List IdentDef) (t : Judged Typing) → Holds g (TypingOk g) t → Holds g (FieldsOk g) (with_fields u b before ds t)
list_good g u f b before ds t h =
    then_keeps (base g) (λ (p : Typing × List Field). TypingOk g p.0 × AllByRecursion (FieldOk g) p.1) (FieldsOk g) (both t (each_sound (fields_of u b before ds t.node))) (λ p. sound (record { fields = p.1; made = p.0.made }))
    (both_keep (base g) (TypingOk g) (AllByRecursion (FieldOk g)) t (each_sound (fields_of u b before ds t.node)) h (each_keep (base g) (FieldOk g) (fields_of u b before ds t.node) (fields_good g u f b before ds t.node h.0)))
    (λ p q. ((q.1, q.0.1), none))

abbrev pub GoodFields : Given → WrittenFields → Type 0
GoodFields g l = GoodWritten g l.node

lists_good : (g : Given) (ls : List WrittenFields) → AllByRecursion (GoodFields g) ls → (u : Around) → Fine g u → (name : List ℕ) (b : Option (Option TypeRef)) (before : List (List ℕ)) → Holds g (FieldsOk g) (field_lists u name b before ls)
lists_good g [] h u f name b before = ((tt, tt), none)
lists_good g (l ∷ ls) h u f name b before =
    let t = l.node.typing u (field_name name (first_name l.names)) mark.Hidden false in
    let x = with_fields u b before l.names t in
    let y = field_lists u name b (names_behind l.names before) ls in
    then_keeps (base g) (λ (p : Fields × Fields). FieldsOk g p.0 × FieldsOk g p.1) (FieldsOk g) (both x y) (λ p. sound (fields_joined p.0 p.1))
    (both_keep (base g) (FieldsOk g) (FieldsOk g) x y (list_good g u f b before l.names t (h.0 u f (field_name name (first_name l.names)) mark.Hidden false)) (lists_good g ls h.1 u f name b (names_behind l.names before)))
    (λ p q. ((all_both (FieldOk g) p.0.fields p.1.fields q.0.0 q.1.0, all_both (Named g) p.0.made p.1.made q.0.1 q.1.1), none))

listed_in : (g : Given) (o : Option TypeRef) → IfThere (In g) o → AreIn g.Held (listed o)
listed_in g None h = tt
listed_in g (Some t) h = (h, tt)

of_fields : (g : Given) (fs : List Field) → AllByRecursion (FieldOk g) fs → AreIn g.Held (each (λ x. x.of) fs)
of_fields g [] h = tt
of_fields g (x ∷ fs) h = (h.0, of_fields g fs h.1)

pub record_good : (g : Given) (u : Around) → Fine g u → (name : List ℕ) (m : Mark) (lists : List WrittenFields) → AllByRecursion (GoodFields g) lists → (o : Option Qualident) → Holds g (TypingOk g) (record_with u name m lists (base_if u o))
record_good g u f name m lists h o =
    let b = base_if u o in
    let x = field_lists u name b.node [] lists in
    then_keeps (base g) (λ (p : Option TypeRef × Fields). IfThere (In g) p.0 × FieldsOk g p.1) (TypingOk g) (both b x) (λ p. sound (typed_as u name (record_desc m p.0 p.1.fields) p.1.made))
    (both_keep (base g) (IfThere (In g)) (FieldsOk g) b x (base_if_held g u f o) (lists_good g lists h u f name b.node []))
    (λ p q. ((own_in g u f name, (all_both (λ t. In g t) (listed p.0 ++ each (λ y. y.of) p.1.fields) [] (all_both (λ t. In g t) (listed p.0) (each (λ y. y.of) p.1.fields) (listed_in g p.0 q.0) (of_fields g p.1.fields q.1.0)) tt, q.1.1)), none))

-- ---- parameters

pub record ParametersOk (g : Given) (p : Parameters) : Type 0 where
  pub params : AreIn g.Held (each (λ x. x.1) p.signature.params)
  pub result : IfThere (In g) p.signature.result
  pub parameters : AllByRecursion (λ (x : TypedParameter). In g x.of) p.parameters
  pub made : AreNamed g p.made

pub signature_ok : (g : Given) (p : Parameters) → ParametersOk g p → AreIn g.Held (signature_types p.signature)
signature_ok g p h = all_both (λ t. In g t) (each (λ x. x.1) p.signature.params) (listed p.signature.result) h.params (listed_in g p.signature.result h.result)

twice_said : (g : Given) (o : Option Known) (at : Pos) → Said (base g) (twice_if o at)
twice_said g None at = none
twice_said g (Some k) at = none

parameter_means : (g : Given) (u : Around) (m : Mode) (x : Ident) (o : Option Typing) → IfThere (TypingOk g) o → MeansIn g.Held (parameter_as u m x o)
parameter_means g u m x None h = tt
parameter_means g u m x (Some t) h = h.0

knows_fine : (g : Given) (u : Around) → Fine g u → (x : Ident) (e : Entity) → MeansIn g.Held e → Fine g (knows u x e)
knows_fine g u f x e h = record { unit = f.unit; shown = f.shown; own = f.own; known = (h, f.known); guards = f.guards; receiver = f.receiver }

-- the notes name what is held, and what is around is fine
record AllDeclared (g : Given) (d : NamedAll) : Type 0 where
  notes : Said (base g) d.notes
  around : Fine g d.around

declare_good : (g : Given) (m : Mode) (o : Option Typing) → IfThere (TypingOk g) o → (xs : List Ident) (u : Around) → Fine g u → AllDeclared g (declare_all u m o xs)
declare_good g m o h [] u f = record { notes = none; around = f }
declare_good g m o h (x ∷ xs) u f =
    let v = knows u x (parameter_as u m x o) in
    let r = declare_good g m o h xs v (knows_fine g u f x (parameter_as u m x o) (parameter_means g u m x o h)) in
    record { notes = said_both (base g) (new_name u x) (declare_all v m o xs).notes (twice_said g (found_in_scope u x.name) x.pos) r.notes; around = r.around }

made_fine : (g : Given) (u : Around) → Fine g u → (o : Option Typing) → IfThere (TypingOk g) o → Fine g (with_made u o)
made_fine g u f None h = f
made_fine g u f (Some t) h = more_types g u f t.made h.1

params_in : (g : Given) (m : Mode) (t : TypeRef) → In g t → (xs : List Ident) → AreIn g.Held (each (λ (x : Mode × TypeRef). x.1) (each (λ (x : Ident). (m, t)) xs))
params_in g m t h [] = tt
params_in g m t h (x ∷ xs) = (h, params_in g m t h xs)

parameters_all : (g : Given) (u : Around) (m : Mode) (t : Typing) → In g t.of → (xs : List Ident) → AllByRecursion (λ (x : TypedParameter). In g x.of) (parameters_of u m xs t).parameters
parameters_all g u m t h [] = tt
parameters_all g u m t h (x ∷ xs) = (h, parameters_all g u m t h xs)

parameters_good : (g : Given) (u : Around) (m : Mode) (xs : List Ident) (t : Typing) → TypingOk g t → ParametersOk g (parameters_of u m xs t)
parameters_good g u m xs t h = record { params = params_in g m t.of h.0 xs; result = tt; parameters = parameters_all g u m t h.0 xs; made = h.1 }

params_joined : (g : Given) (xs ys : List (Mode × TypeRef)) → AreIn g.Held (each (λ x. x.1) xs) → AreIn g.Held (each (λ x. x.1) ys) → AreIn g.Held (each (λ x. x.1) (xs ++ ys))
params_joined g [] ys h i = i
params_joined g (x ∷ xs) ys h i = (h.0, params_joined g xs ys h.1 i)

joined_good : (g : Given) (a b : Parameters) → ParametersOk g a → ParametersOk g b → ParametersOk g (parameters_joined a b)
joined_good g a b h i = record {
  params = params_joined g a.signature.params b.signature.params h.params i.params;
  result = tt;
  parameters = all_both (λ (x : TypedParameter). In g x.of) a.parameters b.parameters h.parameters i.parameters;
  made = all_both (Named g) a.made b.made h.made i.made;
}

-- what sections come to, and what is known behind them
pub record SectionsOk (g : Given) (s : Sections) : Type 0 where
  pub found : Holds g (ParametersOk g) s.found
  pub known : AreKnown g s.known

abbrev pub GoodSection : Given → WrittenSection → Type 0
GoodSection g s = GoodWritten g s.node

abbrev pub GoodSections : Given → WrittenParameters → Type 0
GoodSections g p = AllByRecursion (GoodSection g) p.sections

sections_good : (g : Given) (ss : List WrittenSection) → AllByRecursion (GoodSection g) ss → (u : Around) → Fine g u → (name : List ℕ) (i : ℕ) → SectionsOk g (sections u name i ss)
sections_good g [] h u f name i = record { found = (record { params = tt; result = tt; parameters = tt; made = tt }, none); known = f.known }
sections_good g (s ∷ ss) h u f name i =
    let m = mode_of s.is_var in
    let t = s.node.typing u (section_name name i) mark.Hidden true in
    let q : Holds g (TypingOk g) t = h.0 u f (section_name name i) mark.Hidden true in
    let d = declare_all u m t.node s.names in
    let e = declare_good g m t.node q.0 s.names u f in
    let v = with_made d.around t.node in
    let rest = sections v name (i + length s.names) ss in
    let r = sections_good g ss h.1 v (made_fine g d.around e.around t.node q.0) name (i + length s.names) in
    let mine = made (parameters_of u m s.names) t in
    record {
      found = then_keeps (base g) (λ (p : Parameters × Parameters). ParametersOk g p.0 × ParametersOk g p.1) (ParametersOk g) (both (behind_quiet d.notes mine) rest.found) (λ p. sound (parameters_joined p.0 p.1))
          (both_keep (base g) (ParametersOk g) (ParametersOk g) (behind_quiet d.notes mine) rest.found (quiet_keeps (base g) (ParametersOk g) d.notes mine e.notes (made_keeps (base g) (TypingOk g) (ParametersOk g) (parameters_of u m s.names) t q (λ x k. parameters_good g u m s.names x k))) r.found)
          (λ p k. (joined_good g p.0 p.1 k.0 k.1, none));
      known = r.known;
    }

result_good : (g : Given) (u : Around) → Fine g u → (o : Option Qualident) → Holds g (IfThere (In g)) (result_of u o)
result_good g u f None = (tt, none)
result_good g u f (Some q) = then_keeps (base g) (In g) (IfThere (In g)) (type_named u q) (result_fits u (first_of q)) (type_held g u f q) (λ t h. unless_keeps (base g) (IfThere (In g)) _ rule.StructuredResult (first_of q) (Some t) h)

-- parameters in the innermost scope
pub parameters_in_good : (g : Given) (p : WrittenParameters) → GoodSections g p → (u : Around) → Fine g u → (name : List ℕ) → SectionsOk g (parameters_in u name p)
parameters_in_good g p h u f name =
    let s = sections u name 1 p.sections in
    let k = sections_good g p.sections h u f name 1 in
    let v : Around = record u { known = s.known } in
    let w : Fine g v = record { unit = f.unit; shown = f.shown; own = f.own; known = k.known; guards = f.guards; receiver = f.receiver } in
    record {
      found = then_keeps (base g) (λ (x : Parameters × Option TypeRef). ParametersOk g x.0 × IfThere (In g) x.1) (ParametersOk g) (both s.found (result_of v p.result)) (λ x. sound (with_result x.0 x.1))
          (both_keep (base g) (ParametersOk g) (IfThere (In g)) s.found (result_of v p.result) k.found (result_good g v w p.result))
          (λ x q. (record { params = q.0.params; result = q.1; parameters = q.0.parameters; made = q.0.made }, none));
      known = k.known;
    }

pub inner_fine : (g : Given) (u : Around) → Fine g u → Fine g (inner u)
inner_fine g u f = record { unit = f.unit; shown = f.shown; own = f.own; known = f.known; guards = f.guards; receiver = f.receiver }

pub procedure_good : (g : Given) (u : Around) → Fine g u → (name : List ℕ) (m : Mark) (p : WrittenParameters) → GoodSections g p → Holds g (TypingOk g) (procedure_type u name m p)
procedure_good g u f name m p h =
    then_keeps (base g) (ParametersOk g) (TypingOk g) (parameters_in (inner u) name p).found (λ q. sound (typed_as u name (desc.ProcType m q.signature) q.made)) (parameters_in_good g p h (inner u) (inner_fine g u f) name).found
    (λ q k. ((own_in g u f name, (signature_ok g q k, k.made)), none))
