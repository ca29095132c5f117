-- What types as they are written leave for later is among the names.
use Rattle.std.proofs.Common.{◌≡◌, refl, sym, ap, ◌∙◌, subst, ℕ, Bool, true, false, List, [], ◌∷◌, ◌++◌, Option, Some, None}
use Rattle.std.specs.Prelude.{◌+◌, not, ◌&&◌, ◌||◌, length, suc, pos, is_some, is_none}
use Rattle.std.specs.List.{AllByRecursion}
use Rattle.ob_tree.specs.declared.pos.Pos.{Pos}
use Rattle.ob_tree.specs.declared.names.QName.{QName}
use Rattle.ob_tree.specs.declared.ident.Ident.{Ident}
use Rattle.ob_tree.specs.declared.ident.IdentDef.{IdentDef}
use Rattle.ob_tree.specs.declared.ident.Mark.{Mark}
use Rattle.ob_tree.specs.declared.ident.Mark.TheVariants as mark
use Rattle.ob_tree.specs.declared.ident.Qualident.{Qualident}
use Rattle.ob_types.specs.declared.types.Mode.{Mode}
use Rattle.ob_types.specs.declared.types.TypeRef.{TypeRef}
use Rattle.ob_types.specs.declared.types.TypeRef.TheVariants as ref
use Rattle.ob_types.specs.declared.value.Value.{Value}
use Rattle.ob_types.specs.declared.value.Value.TheVariants as literal
use Rattle.ob_types.specs.declared.desc.Desc.{Desc}
use Rattle.ob_types.specs.declared.desc.Desc.TheVariants as desc
use Rattle.ob_types.specs.declared.desc.Field.{Field}
use Rattle.ob_rules.specs.declared.notes.Later.{Later}
use Rattle.ob_rules.specs.declared.notes.Later.TheVariants as later
use Rattle.ob_rules.specs.declared.entity.Entity.{Entity}
use Rattle.ob_rules.specs.declared.entity.Known.{Known}
use Rattle.ob_rules.specs.declared.values.Valued.{Valued}
use Rattle.ob_rules.specs.declared.broken.Rule.TheVariants as rule
use Rattle.ob_rules.specs.declared.broken.Rule.{Rule}
use Rattle.ob_rules.specs.Judged.{Judged, Notes, if_sound, sound, silent, breaks, both, made, noted, joined, each_sound, also, unless, wants, is_quiet, judge_later, ◌▷◌, behind_quiet}
use Rattle.ob_rules.specs.Shapes.{record_of, is_open, is_structured, is_pointer}
use Rattle.ob_rules.specs.Names.{Around, map_of, in_unit, is_among, type_named, found_in_scope}
use Rattle.ob_rules.specs.Values.{constant_in}
use Rattle.ob_rules.specs.Phrases.{Phrase}
use Rattle.ob_rules.specs.Expressions.{constant_of, constant_if, constant_value}
use Rattle.ob_rules.specs.Types.{Typing, Written, typed_as, with_types, base_name, element_name, field_name, section_name, mark_of, is_module_level, marked, named_typing, length_of, array_length, fixed_array, open_array, array, first_of, base_of, base_if, member_in, record_in, inherits, field_declared, field_if, fields_of, name_in, names_behind, WrittenFields, first_name, Fields, with_fields, fields_joined, field_lists, record_with, record_desc, pointer_to, base_judged, pointer_base, is_later, pointer_by, pointer, Parameters, WrittenSection, WrittenParameters, Sections, mode_of, twice_if, new_name, parameter_as, knows, with_notes, declare_all, parameters_of, parameters_joined, with_made, sections, result_fits, result_of, with_result, parameters_in, inner, procedure_type}
use Rattle.law_local_judged.specs.Agreement.{IsIn}
use Rattle.law_local_judged.specs.Said.{SaidIn}
use Rattle.law_local_judged.specs.Followed.{EntityIn, TypeIn, Agrees}
use Rattle.law_local_judged.specs.Declared.{MadeIn, TypingIn, OwnIn, LaterIn}
use Rattle.law_local_judged.proofs.Following.{said_left, said_right, then_node, made_node}
use Rattle.law_local_judged.proofs.Names.{type_named_follows}
use Rattle.law_local_judged.proofs.Typings.{agrees_with, WrittenFollows}
use Rattle.law_local_judged.proofs.Parameters.{agrees_inner, knows_agrees}
use Rattle.law_local_module.proofs.Leaves.{Nil, then_nil, both_nil, made_nil, unless_nil, wants_nil, type_nil}
use Rattle.law_lists.proofs.Lists.{all_both, both_empty, none_some, some_same}

-- ---- what leaves nothing

mark_nil_of : (level minus : Bool) (at : Pos) (m : Mark) → Nil (mark_of level minus at m)
mark_nil_of true true at mark.Full = refl
mark_nil_of true true at mark.ReadOnly = refl
mark_nil_of true true at mark.Hidden = refl
mark_nil_of true false at mark.Full = refl
mark_nil_of true false at mark.ReadOnly = refl
mark_nil_of true false at mark.Hidden = refl
mark_nil_of false minus at mark.Full = refl
mark_nil_of false minus at mark.ReadOnly = refl
mark_nil_of false minus at mark.Hidden = refl

pub mark_nil : (u : Around) (minus : Bool) (d : IdentDef) → Nil (marked u minus d)
mark_nil u minus d = mark_nil_of (is_module_level u) minus d.mark_pos d.mark

of_constant : (start : Pos) (o : Option Value) → Nil (constant_of start o)
of_constant start None = refl
of_constant start (Some v) = refl

if_constant : (start : Pos) (o : Option Valued) (b : Bool) → Nil (constant_if start o b)
if_constant start (Some x) b = of_constant start (constant_in x)
if_constant start None true = refl
if_constant start None false = refl

-- a phrase that leaves nothing wherever it stands
abbrev pub LengthNil : Phrase → Type 0
LengthNil p = (u : Around) → Nil (p.value u)

pub constant_nil : (u : Around) (p : Phrase) → LengthNil p → Nil (constant_value u p)
constant_nil u p h = both_empty (p.value u).notes.later (constant_if p.start (p.value u).node (is_quiet (p.value u).notes.broken)).notes.later (h u) (if_constant p.start (p.value u).node (is_quiet (p.value u).notes.broken))

length_is : (at : Pos) (v : Value) → Nil (length_of at v)
length_is at (literal.Int (pos (suc n))) = refl
length_is at v = refl

array_nil : (u : Around) (p : Phrase) → LengthNil p → Nil (array_length u p)
array_nil u p h = then_nil (constant_value u p) (length_of p.start) (constant_nil u p h) (λ v. length_is p.start v)

if_twice : (o : Option Known) (at : Pos) → (twice_if o at).later ≡ []
if_twice None at = refl
if_twice (Some k) at = refl

declares_nil : (u : Around) (m : Mode) (o : Option Typing) (xs : List Ident) → (declare_all u m o xs).notes.later ≡ []
declares_nil u m o [] = refl
declares_nil u m o (x ∷ xs) = both_empty (new_name u x).later (declare_all (knows u x (parameter_as u m x o)) m o xs).notes.later (if_twice (found_in_scope u x.name) x.pos) (declares_nil (knows u x (parameter_as u m x o)) m o xs)

module _ (P : QName → Type 0) where
  -- all that is left is among the names
  abbrev pub Left : Notes → Type 0
  Left n = AllByRecursion (LaterIn P) n.later

  pub left_nil : (n : Notes) → n.later ≡ [] → Left n
  left_nil n e = subst (AllByRecursion (LaterIn P)) (sym e) tt

  pub left_both : (a b : Notes) → Left a → Left b → Left (joined a b)
  left_both a b h k = all_both (LaterIn P) a.later b.later h k

  pub left_then : {A B : Type 0} (j : Judged A) (f : A → Judged B) → (SaidIn P j.notes → Left j.notes) → ((x : A) → j.node ≡ Some x → SaidIn P j.notes → SaidIn P (f x).notes → Left (f x).notes) → SaidIn P (j ▷ f).notes → Left (j ▷ f).notes
  left_then {A} j f h k said = by j.node refl said
    where
      by : (o : Option A) → j.node ≡ o → SaidIn P (joined j.notes (if_sound o f).notes) → Left (joined j.notes (if_sound o f).notes)
      by None e said = left_both j.notes (silent {A = A}).notes (h (said_left P j.notes (silent {A = A}).notes said)) tt
      by (Some x) e said =
          let a = said_left P j.notes (f x).notes said in
          left_both j.notes (f x).notes (h a) (k x e a (said_right P j.notes (f x).notes said))

  pub left_made : {A B : Type 0} (f : A → B) (j : Judged A) → (SaidIn P j.notes → Left j.notes) → SaidIn P (made f j).notes → Left (made f j).notes
  left_made f j h said = left_then j (λ x. sound (f x)) h (λ x e a b. tt) said

  pub left_pair : {A B : Type 0} (a : Judged A) (b : Judged B) → (SaidIn P a.notes → Left a.notes) → (SaidIn P b.notes → Left b.notes) → SaidIn P (both a b).notes → Left (both a b).notes
  left_pair a b h k said = left_both a.notes b.notes (h (said_left P a.notes b.notes said)) (k (said_right P a.notes b.notes said))

  also_left : {A : Type 0} (b : Bool) (which : Rule) (at : Pos) (j : Judged A) → (SaidIn P j.notes → Left j.notes) → SaidIn P (also b which at j).notes → Left (also b which at j).notes
  also_left true which at j h said = h (record { objects = said.objects; types = said.types; lengths = said.lengths })
  also_left false which at j h said = h said

  -- A TYPE THAT IS WRITTEN leaves nothing else wherever it stands
  abbrev pub WrittenLeft : Written → Type 0
  WrittenLeft w = (u : Around) (s : QName → Option Desc) → Agrees P u s → OwnIn P u.unit → (name : List ℕ) (m : Mark) (b : Bool) → SaidIn P (w.typing u name m b).notes → Left (w.typing u name m b).notes

  module _ (u : Around) (s : QName → Option Desc) (a : Agrees P u s) (own : OwnIn P u.unit) where
    pub named_left : (q : Qualident) (b : Bool) → SaidIn P (type_named u q ▷ named_typing u (first_of q) b).notes → Left (type_named u q ▷ named_typing u (first_of q) b).notes
    named_left q b said = left_nil (type_named u q ▷ named_typing u (first_of q) b).notes (then_nil (type_named u q) (named_typing u (first_of q) b) (type_nil u q) (λ t. unless_nil (not b && is_open (map_of u) t) rule.MisplacedOpenArray (first_of q) (record { of = t; made = [] })))

    fixed_left : (name : List ℕ) (m : Mark) (ls : List Phrase) (element : Written) → AllByRecursion LengthNil ls → WrittenLeft element → SaidIn P (fixed_array u name m ls element).notes → Left (fixed_array u name m ls element).notes
    fixed_left name m [] element h k said = k u s a own name m false said
    fixed_left name m (l ∷ ls) element h k said =
        let f = fixed_array u (element_name name) mark.Hidden ls element in
        left_then (both (array_length u l) f) (λ p. sound (typed_as u name (desc.Array m p.0 p.1.of) p.1.made))
        (left_pair (array_length u l) f (λ z. left_nil (array_length u l).notes (array_nil u l h.0)) (fixed_left (element_name name) mark.Hidden ls element h.1 k)) (λ x e y z. tt) said

    pub array_left : (name : List ℕ) (m : Mark) (at : Pos) (b : Bool) (ls : List Phrase) (element : Written) → AllByRecursion LengthNil ls → WrittenLeft element → SaidIn P (array u name m at b ls element).notes → Left (array u name m at b ls element).notes
    array_left name m at b [] element h k said =
        let j = element.typing u (element_name name) mark.Hidden element.open_array in
        also_left (not b || element.open_array) rule.MisplacedOpenArray at (j ▷ λ t. sound (typed_as u name (desc.OpenArray m t.of) t.made))
        (left_then j (λ t. sound (typed_as u name (desc.OpenArray m t.of) t.made)) (k u s a own (element_name name) mark.Hidden element.open_array) (λ x e y z. tt)) said
    array_left name m at b (l ∷ ls) element h k said = fixed_left name m (l ∷ ls) element h k said

    -- ---- records

    abbrev NodeIn : Option (Option TypeRef) → Type 0
    NodeIn None = Unit {0}
    NodeIn (Some o) = TypeIn P o

    wanted : (b : Bool) (which : Rule) (at : Pos) (t r : TypeRef) → (wants b which at t).node ≡ Some r → t ≡ r
    wanted true which at t r e = some_same e
    wanted false which at t r e = none_some e

    base_in : (q : Qualident) (o : Option TypeRef) → (base_if u (Some q)).node ≡ Some o → SaidIn P (base_if u (Some q)).notes → TypeIn P o
    base_in q o e said =
        let j = type_named u q ▷ base_of (map_of u) (first_of q) in
        let n = made_node (λ t. Some t) j o e in
        let k = then_node (type_named u q) (base_of (map_of u) (first_of q)) n.0 n.1.0 in
        let said_j = said_left P j.notes (if_sound j.node (λ t. sound (Some t))).notes said in
        let said_t = said_left P (type_named u q).notes (if_sound (type_named u q).node (base_of (map_of u) (first_of q))).notes said_j in
        let h = (type_named_follows P u s a q).keeps k.0 k.1 said_t in
        let same = wanted (is_some (record_of (map_of u) k.0)) rule.UnfitBase (first_of q) k.0 n.0 (sym (ap (λ o. (noted (type_named u q).notes (if_sound o (base_of (map_of u) (first_of q)))).node) k.1) ∙ n.1.0) in
        subst (TypeIn P) n.1.1 (subst (IsIn P) same h)

    node_in : (b : Option Qualident) → SaidIn P (base_if u b).notes → (o : Option (Option TypeRef)) → (base_if u b).node ≡ o → NodeIn o
    node_in b said None e = tt
    node_in None said (Some o) e = subst (TypeIn P) (some_same e) tt
    node_in (Some q) said (Some o) e = base_in q o e said

    base_nil : (b : Option Qualident) → Nil (base_if u b)
    base_nil None = refl
    base_nil (Some q) = made_nil (λ t. Some t) (type_named u q ▷ base_of (map_of u) (first_of q)) (then_nil (type_named u q) (base_of (map_of u) (first_of q)) (type_nil u q) (λ t. wants_nil (is_some (record_of (map_of u) t)) rule.UnfitBase (first_of q) t))

    inherits_left : {A : Type 0} (base : Option (Option TypeRef)) (x : Ident) (j : Judged A) → NodeIn base → Nil j → Left (judge_later (inherits base x) j).notes
    inherits_left None x j h k = left_nil j.notes k
    inherits_left (Some None) x j h k = left_nil j.notes k
    inherits_left (Some (Some t)) x j h k = (h, left_nil j.notes k)

    field_left : (base : Option (Option TypeRef)) (before : List (List ℕ)) (d : IdentDef) (t : TypeRef) → NodeIn base → Left (field_declared u base before d t).notes
    field_left base before d t h =
        let c = is_among d.ident.name before || is_some (member_in (map_of u) (record_in (map_of u) base) d.ident.name) in
        let f : Mark → Field = λ m. record { name = d.ident.name; mark = m; place = 0; of = t } in
        inherits_left base d.ident (marked u true d ▷ λ m. unless c rule.DeclaredTwice d.ident.pos (f m)) h (then_nil (marked u true d) (λ m. unless c rule.DeclaredTwice d.ident.pos (f m)) (mark_nil u true d) (λ m. unless_nil c rule.DeclaredTwice d.ident.pos (f m)))

    one_field : (base : Option (Option TypeRef)) (before : List (List ℕ)) (d : IdentDef) (o : Option Typing) → NodeIn base → Left (field_if u base before d o).notes
    one_field base before d (Some t) h = field_left base before d t.of h
    one_field base before d None h =
        let j = field_declared u base before d (ref.Named (in_unit u [])) in
        by j (field_left base before d (ref.Named (in_unit u [])) h)
      where
        by : (j : Judged Field) → Left j.notes → Left (j ▷ λ f. silent {A = Field}).notes
        by j k = left_both j.notes (if_sound j.node (λ f. silent {A = Field})).notes k (go j.node)
          where
            go : (o : Option Field) → Left (if_sound o (λ f. silent {A = Field})).notes
            go None = tt
            go (Some f) = tt

    all_fields : (base : Option (Option TypeRef)) (before : List (List ℕ)) (ds : List IdentDef) (o : Option Typing) → NodeIn base → Left (each_sound (fields_of u base before ds o)).notes
    all_fields base before [] o h = tt
    all_fields base before (d ∷ ds) o h =
        let j = field_if u base before d o in
        let js = each_sound (fields_of u base (name_in d ∷ before) ds o) in
        left_both (both j js).notes (if_sound (both j js).node (λ (p : Field × List Field). sound (p.0 ∷ p.1))).notes (left_both j.notes js.notes (one_field base before d o h) (all_fields base (name_in d ∷ before) ds o h)) (go (both j js).node)
      where
        go : (o : Option (Field × List Field)) → Left (if_sound o (λ (p : Field × List Field). sound (p.0 ∷ p.1))).notes
        go None = tt
        go (Some p) = tt

    lists_left : (name : List ℕ) (base : Option (Option TypeRef)) (before : List (List ℕ)) (ls : List WrittenFields) → NodeIn base → AllByRecursion (λ l. WrittenLeft l.node) ls → SaidIn P (field_lists u name base before ls).notes → Left (field_lists u name base before ls).notes
    lists_left name base before [] h k said = tt
    lists_left name base before (l ∷ ls) h k said =
        let t = l.node.typing u (field_name name (first_name l.names)) mark.Hidden false in
        let fs = each_sound (fields_of u base before l.names t.node) in
        let one = with_fields u base before l.names t in
        let rest = field_lists u name base (names_behind l.names before) ls in
        left_then (both one rest) (λ p. sound (fields_joined p.0 p.1))
        (left_pair one rest
        (left_then (both t fs) (λ p. sound (record { fields = p.1; made = p.0.made })) (left_pair t fs (k.0 u s a own (field_name name (first_name l.names)) mark.Hidden false) (λ z. all_fields base before l.names t.node h)) (λ x e y z. tt))
        (lists_left name base (names_behind l.names before) ls h k.1)) (λ x e y z. tt) said

    pub record_left : (name : List ℕ) (m : Mark) (ls : List WrittenFields) (o : Option Qualident) → AllByRecursion (λ l. WrittenLeft l.node) ls → SaidIn P (record_with u name m ls (base_if u o)).notes → Left (record_with u name m ls (base_if u o)).notes
    record_left name m ls o k said =
        let b = base_if u o in
        let fs = field_lists u name b.node [] ls in
        let pair_said = said_left P (both b fs).notes (if_sound (both b fs).node (λ p. sound (typed_as u name (record_desc m p.0 p.1.fields) p.1.made))).notes said in
        let h = node_in o (said_left P b.notes fs.notes pair_said) b.node refl in
        left_then (both b fs) (λ p. sound (typed_as u name (record_desc m p.0 p.1.fields) p.1.made)) (left_pair b fs (λ z. left_nil b.notes (base_nil o)) (lists_left name b.node [] ls h k)) (λ x e y z. tt) said

    -- ---- pointers

    judged_left : (name : List ℕ) (inline : Bool) (at : Pos) (b c : Bool) (t : Typing) → IsIn P t.of → Left (base_judged name inline at b c t).notes
    judged_left name inline at true c t h = tt
    judged_left name inline at false true t h = (h, tt)
    judged_left name inline at false false t h = tt

    by_left : (name : List ℕ) (m : Mark) (base : Written) (o : Option Ident) → WrittenFollows P base → WrittenLeft base → SaidIn P (pointer_by u name m base o).notes → Left (pointer_by u name m base o).notes
    by_left name m base (Some x) f k said = (own (u.path ++ x.name), tt)
    by_left name m base None f k said =
        let t = base.typing u (base_name name) mark.Hidden true in
        left_made (pointer_to u name m) (t ▷ pointer_base u name (is_none base.name) base.start)
        (left_then t (pointer_base u name (is_none base.name) base.start) (k u s a own (base_name name) mark.Hidden true)
        (λ x e y z. judged_left name (is_none base.name) base.start (is_structured (map_of (with_types u x.made)) x.of) (is_pointer (map_of (with_types u x.made)) x.of) x ((f u s a own (base_name name) mark.Hidden true).keeps x e y).0)) said

    pub pointer_left : (name : List ℕ) (m : Mark) (base : Written) → WrittenFollows P base → WrittenLeft base → SaidIn P (pointer u name m base).notes → Left (pointer u name m base).notes
    pointer_left name m base f k said = by_left name m base (is_later u base.name) f k said

  -- ---- parameters

  abbrev IfTyping : Option Typing → Type 0
  IfTyping None = Unit {0}
  IfTyping (Some t) = TypingIn P t

  module _ (s : QName → Option Desc) where
    as_in : (u : Around) (m : Mode) (x : Ident) (o : Option Typing) → IfTyping o → EntityIn P (parameter_as u m x o)
    as_in u m x None h = tt
    as_in u m x (Some t) h = h.0

    declare_agrees : (u : Around) (m : Mode) (o : Option Typing) (xs : List Ident) → IfTyping o → Agrees P u s → Agrees P (declare_all u m o xs).around s
    declare_agrees u m o [] h a = a
    declare_agrees u m o (x ∷ xs) h a = declare_agrees (knows u x (parameter_as u m x o)) m o xs h (knows_agrees P s u x (parameter_as u m x o) a (as_in u m x o h))

    declare_unit : (u : Around) (m : Mode) (o : Option Typing) (xs : List Ident) → (declare_all u m o xs).around.unit ≡ u.unit
    declare_unit u m o [] = refl
    declare_unit u m o (x ∷ xs) = declare_unit (knows u x (parameter_as u m x o)) m o xs

    made_agrees : (u : Around) (o : Option Typing) → IfTyping o → Agrees P u s → Agrees P (with_made u o) s
    made_agrees u None h a = a
    made_agrees u (Some t) h a = agrees_with P u s t.made a h.1

    made_unit : (u : Around) (o : Option Typing) → (with_made u o).unit ≡ u.unit
    made_unit u None = refl
    made_unit u (Some t) = refl

    typing_in : (w : Written) (u : Around) (a : Agrees P u s) (own : OwnIn P u.unit) (name : List ℕ) → WrittenFollows P w → SaidIn P (w.typing u name mark.Hidden true).notes → (o : Option Typing) → (w.typing u name mark.Hidden true).node ≡ o → IfTyping o
    typing_in w u a own name f said None e = tt
    typing_in w u a own name f said (Some t) e = (f u s a own name mark.Hidden true).keeps t e said

    pub sections_left : (name : List ℕ) (i : ℕ) (ss : List WrittenSection) → AllByRecursion (λ x. WrittenFollows P x.node) ss → AllByRecursion (λ x. WrittenLeft x.node) ss → (u : Around) → Agrees P u s → OwnIn P u.unit → SaidIn P (sections u name i ss).found.notes → Left (sections u name i ss).found.notes
    sections_left name i [] f k u a own said = tt
    sections_left name i (x ∷ ss) f k u a own said =
        let m = mode_of x.is_var in
        let t = x.node.typing u (section_name name i) mark.Hidden true in
        let d = declare_all u m t.node x.names in
        let w = with_made d.around t.node in
        let rest = sections w name (i + length x.names) ss in
        let ps = made (parameters_of u m x.names) t in
        let front = behind_quiet d.notes ps in
        let pair_said = said_left P (both front rest.found).notes (if_sound (both front rest.found).node (λ q. sound (parameters_joined q.0 q.1))).notes said in
        let said_front = said_left P front.notes rest.found.notes pair_said in
        let said_t = said_left P t.notes (if_sound t.node (λ z. sound (parameters_of u m x.names z))).notes (said_right P d.notes ps.notes said_front) in
        let h = typing_in x.node u a own (section_name name i) f.0 said_t t.node refl in
        let b = made_agrees d.around t.node h (declare_agrees u m t.node x.names h a) in
        let e = sym (made_unit d.around t.node ∙ declare_unit u m t.node x.names) in
        left_then (both front rest.found) (λ q. sound (parameters_joined q.0 q.1))
        (left_pair front rest.found
        (λ z. left_both d.notes ps.notes (left_nil d.notes (declares_nil u m t.node x.names)) (left_made (parameters_of u m x.names) t (k.0 u s a own (section_name name i) mark.Hidden true) (said_right P d.notes ps.notes z)))
        (sections_left name (i + length x.names) ss f.1 k.1 w b (subst (OwnIn P) e own))) (λ x e y z. tt) said

    result_nil : (u : Around) (o : Option Qualident) → Nil (result_of u o)
    result_nil u None = refl
    result_nil u (Some q) = then_nil (type_named u q) (result_fits u (first_of q)) (type_nil u q) (λ t. unless_nil (is_structured (map_of u) t) rule.StructuredResult (first_of q) (Some t))

    pub parameters_left : (name : List ℕ) (p : WrittenParameters) → AllByRecursion (λ x. WrittenFollows P x.node) p.sections → AllByRecursion (λ x. WrittenLeft x.node) p.sections → (u : Around) → Agrees P u s → OwnIn P u.unit → SaidIn P (parameters_in u name p).found.notes → Left (parameters_in u name p).found.notes
    parameters_left name p f k u a own said =
        let ss = sections u name 1 p.sections in
        let r = result_of (record u { known = ss.known }) p.result in
        left_then (both ss.found r) (λ q. sound (with_result q.0 q.1)) (left_pair ss.found r (sections_left name 1 p.sections f k u a own) (λ z. left_nil r.notes (result_nil (record u { known = ss.known }) p.result))) (λ x e y z. tt) said

    pub procedure_left : (name : List ℕ) (m : Mark) (p : WrittenParameters) → AllByRecursion (λ x. WrittenFollows P x.node) p.sections → AllByRecursion (λ x. WrittenLeft x.node) p.sections → (u : Around) → Agrees P u s → OwnIn P u.unit → SaidIn P (procedure_type u name m p).notes → Left (procedure_type u name m p).notes
    procedure_left name m p f k u a own said =
        left_then (parameters_in (inner u) name p).found (λ q. sound (typed_as u name (desc.ProcType m q.signature) q.made)) (parameters_left name p f k (inner u) (agrees_inner P u s a) own) (λ x e y z. tt) said
