-- Types as they are written: each type that they make names types that stand, of the kinds that the rules ask for.
use Rattle.std.proofs.Common.{◌≡◌, ◌⊎◌, ⊎_elim, inl, inr, refl, sym, ap, subst, ◌∙◌, ℕ, suc, ◌≤◌, Bool, true, false, List, [], ◌∷◌, ◌++◌, Option, Some, None, append-nil, arith}
use Rattle.std.specs.Prelude.{zero, pos, negsuc, not, ◌&&◌, ◌||◌, is_some, is_none}
use Rattle.std.specs.List.{AllByRecursion}
use Rattle.std.proofs.lemmas.Bool.{and_parts}
use Rattle.ob_tree.specs.declared.pos.Pos.{Pos}
use Rattle.ob_tree.specs.declared.names.QName.{QName}
use Rattle.ob_tree.specs.declared.ident.Ident.{Ident}
use Rattle.ob_tree.specs.declared.ident.IdentDef.{IdentDef}
use Rattle.ob_tree.specs.declared.ident.Mark.{Mark}
use Rattle.ob_tree.specs.declared.ident.Mark.TheVariants as mark
use Rattle.ob_tree.specs.declared.ident.Qualident.{Qualident}
use Rattle.ob_types.specs.declared.types.TypeRef.{TypeRef}
use Rattle.ob_types.specs.declared.types.TypeRef.TheVariants as ref
use Rattle.ob_types.specs.declared.value.Value.{Value}
use Rattle.ob_types.specs.declared.value.Value.TheVariants as literal
use Rattle.ob_types.specs.declared.desc.Desc.{Desc}
use Rattle.ob_types.specs.declared.desc.Desc.TheVariants as desc
use Rattle.ob_types.specs.declared.desc.Field.{Field}
use Rattle.ob_types.specs.declared.typed.TypedType.{TypedType}
use Rattle.ob_rules.specs.declared.notes.Later.{Later}
use Rattle.ob_rules.specs.declared.notes.Later.TheVariants as later
use Rattle.ob_rules.specs.declared.broken.Rule.TheVariants as rule
use Rattle.ob_rules.specs.Judged.{Judged, Notes, sound, both, made, noted, each_sound, unless, wants, also, judge_later, ◌▷◌}
use Rattle.ob_rules.specs.Shapes.{Map, is_open, is_record, is_structured, is_pointer, record_of}
use Rattle.ob_rules.specs.Names.{Around, map_of, in_unit, is_among, is_declared, type_named, is_out}
use Rattle.ob_rules.specs.Phrases.{Phrase}
use Rattle.ob_rules.specs.Expressions.{constant_value}
use Rattle.ob_rules.specs.Types.{Typing, Written, marked, typed_as, with_types, base_name, element_name, field_name, named_typing, length_of, array_length, fixed_array, array, first_of, base_of, base_if, inherits, member_in, record_in, field_declared, fields_of, name_in, names_behind, WrittenFields, first_name, Fields, with_fields, fields_joined, field_lists, record_with, record_desc, pointer_to, base_judged, pointer_base, later_if, later_by, is_later, pointer_by, pointer}
use Rattle.law_typing_forms.specs.Said.{IsOneOf}
use Rattle.law_typing.specs.Makes.{IfThere}
use Rattle.law_names_procedures.proofs.Judges.{Has, Speaks, not_empty, has_more}
use Rattle.law_names_procedures.proofs.Knowing.{AreKnown, name_speaks}
use Rattle.law_names_procedures.proofs.Typings.{constant_speaks, mark_speaks}
use Rattle.law_local_module.proofs.Leaves.{Nil, type_nil}
use Rattle.law_local_module.proofs.Typings.{LengthNil, constant_nil, mark_nil}
use Rattle.law_body_context.specs.Knows.{HasName, Knows}
use Rattle.law_body_context.proofs.Lists.{one_left, one_right, one_joined, all_of}
use Rattle.law_body_context.proofs.Standing.{Lies, lies_same, lies_front, grows_front, grows_as, stands_grown, own_stands, with_types_known}
use Rattle.law_body_context.proofs.Named.{type_named_stands}
use Rattle.law_acyclic.proofs.Tells.{Tell, then_tell, made_tell, both_tell, unless_tell, wants_tell, also_tell, tell_more}
use Rattle.law_acyclic.proofs.Firm.{AnyValue, is_solid, IfAlias, S, Aliased, Seen, seen_more, Closed, closed_more, Base, FirmAt, AreFirm, desc_more, are_more, are_described, are_aliased, aliases_more}
use Rattle.law_lists.proofs.Lists.{Anything, all_both, back_empty, front_empty}

-- ---- what is left for later

abbrev pub Within : {A : Type 0} → List A → List A → Type 0
Within ls ms = (l : _) → IsOneOf ls l → IsOneOf ms l

-- a pointer that is left is one of these types
abbrev pub Tells : List TypedType → Later → Type 0
Tells ts (later.PointsTo x at t inline) = (s : TypedType) × (IsOneOf ts s × ((s.name ≡ x) × ((m : Mark) × (s.desc ≡ desc.Pointer m t))))
Tells ts (later.Inherits x t) = Unit {0}

abbrev pub AreTold : List TypedType → List Later → Type 0
AreTold ts ls = AllByRecursion (Tells ts) ls

told_more : (ts us : List TypedType) → Lies ts us → (l : Later) → Tells ts l → Tells us l
told_more ts us f (later.PointsTo x at t inline) h = (h.0, (f h.0 h.1.0, h.1.1))
told_more ts us f (later.Inherits x t) h = tt

pub are_told_more : (ts us : List TypedType) → Lies ts us → (ls : List Later) → AreTold ts ls → AreTold us ls
are_told_more ts us f ls h = all_of (Tells ts) (Tells us) ls (told_more ts us f) h

-- no pointer is left
abbrev pub IsField : Later → Type 0
IsField (later.PointsTo x at t inline) = ⊥
IsField (later.Inherits x t) = Unit {0}

field_tells : (ts : List TypedType) (l : Later) → IsField l → Tells ts l
field_tells ts (later.PointsTo x at t inline) h = absurd h
field_tells ts (later.Inherits x t) h = tt

pub fields_tell : (ts : List TypedType) (ls : List Later) → AllByRecursion IsField ls → AreTold ts ls
fields_tell ts ls h = all_of IsField (Tells ts) ls (field_tells ts) h

-- what is judged leaves nothing
pub nil_tell : {A : Type 0} (P : A → Type 0) (Q : List Later → A → Type 0) (j : Judged A) → Nil j → Speaks P j → ((x : A) → P x → Q [] x) → Tell Q j
nil_tell P Q j n h f = λ e. subst (λ ls. Has (Q ls) j.node) (sym n) (has_more P (Q []) j.node f (h e))

module _ (unit : List ℕ) (shown : QName → Option Desc) (out : is_out unit ≡ false) (path : List ℕ) (names : List (List ℕ)) where
  abbrev T : List TypedType → TypeRef → Type 0
  T own t = S unit shown own t

  abbrev FirmIn : List Later → List TypedType → TypedType → Type 0
  FirmIn ls own s = FirmAt unit shown path names ls own s

  abbrev Are : List Later → List TypedType → List TypedType → Type 0
  Are ls own ts = AreFirm unit shown path names ls own ts

  -- where types are written
  pub record Place (u : Around) : Type 0 where
    pub knows : Knows AnyValue unit shown u
    pub path_is : u.path ≡ path
    pub names_is : u.later_types ≡ names
    pub sound : AreKnown u.known
    pub aliases : Aliased unit shown u.own

  -- A type that is written, and those that it makes: they name types that stand. It is no open array where that may not be, and has its name
  -- where it has no other's.
  pub record IsTyping (u : Around) (name : List ℕ) (o : Option Qualident) (open_ok : Bool) (ls : List Later) (t : Typing) : Type 0 where
    pub of : T (t.made ++ u.own) t.of
    pub closed : open_ok ≡ false → Closed unit shown (IsOneOf (t.made ++ u.own)) t.of
    pub made : Are ls (t.made ++ u.own) t.made
    pub told : AreTold t.made ls
    pub named : o ≡ None → HasName t.made name

  abbrev pub IsFirm : Written → Type 0
  IsFirm w = (u : Around) → Place u → (name : List ℕ) (m : Mark) (open_ok : Bool) → Tell (IsTyping u name w.name open_ok) (w.typing u name m open_ok)

  abbrev pub AreFirmFields : List WrittenFields → Type 0
  AreFirmFields ls = AllByRecursion (λ l. IsFirm l.node) ls

  -- with the types that were made
  pub with_place : (u : Around) → Place u → (ls : List Later) (ts : List TypedType) → Are ls (ts ++ u.own) ts → Place (with_types u ts)
  with_place u k ls ts h = record {
    knows = with_types_known unit shown AnyValue u k.knows ts (are_described unit shown path names ls (ts ++ u.own) ts h);
    path_is = k.path_is;
    names_is = k.names_is;
    sound = k.sound;
    aliases = all_both (λ (s : TypedType). IfAlias (T (ts ++ u.own)) s.desc) ts u.own (are_aliased unit shown path names ls (ts ++ u.own) ts h) (aliases_more unit shown u.own (ts ++ u.own) (grows_front ts u.own) u.own k.aliases);
  }

  -- a test that comes out at a place
  pub seen_at : (u : Around) → Place u → (t : TypeRef) → T u.own t → (test : Map → TypeRef → Bool) (b : Bool) → test (map_of u) t ≡ b → Seen unit shown (IsOneOf u.own) test b t
  seen_at u k t s test b e = record { w = u; unit_is = k.knows.unit_is; shown_is = k.knows.shown_is; within = λ x i. i; aliases = k.aliases; stands = s; is = e }

  name_stands : (u : Around) → Place u → (q : Qualident) → Speaks (T u.own) (type_named u q)
  name_stands u k q = λ e. by (type_named u q).node (name_speaks u q k.sound e) (type_named_stands AnyValue unit shown u k.knows q)
    where
      by : (o : Option TypeRef) → Has Anything o → IfThere (T u.own) o → Has (T u.own) o
      by None h i = absurd h
      by (Some t) h i = i

  pub name_tell : (u : Around) → Place u → (q : Qualident) → Tell (λ ls t. (ls ≡ []) × T u.own t) (type_named u q)
  name_tell u k q = nil_tell (T u.own) (λ ls t. (ls ≡ []) × T u.own t) (type_named u q) (type_nil u q) (name_stands u k q) (λ t h. (refl, h))

  -- ---- names

  closed_if : (a b : Bool) → (not a && b) ≡ false → a ≡ false → b ≡ false
  closed_if true b e f = absurd cc
  closed_if false b e f = e

  pub named_firm : (q : Qualident) (u : Around) → Place u → (name : List ℕ) (open_ok : Bool) → Tell (IsTyping u name (Some q) open_ok) (type_named u q ▷ named_typing u (first_of q) open_ok)
  named_firm q u k name open_ok =
      then_tell (λ ls t. (ls ≡ []) × T u.own t) (IsTyping u name (Some q) open_ok) (type_named u q) (named_typing u (first_of q) open_ok) (name_tell u k q)
      (λ t h. unless_tell (λ ms. IsTyping u name (Some q) open_ok ((type_named u q).notes.later ++ ms)) _ rule.MisplacedOpenArray (first_of q) (record { of = t; made = [] }) (λ e. record {
        of = h.1;
        closed = λ f. inr (seen_at u k t h.1 is_open false (closed_if open_ok (is_open (map_of u) t) e f));
        made = tt;
        told = subst (λ ls. AreTold [] (ls ++ [])) (sym h.0) tt;
        named = λ f. absurd cc;
      }))

  -- ---- a type with a name of its own

  own_lies : (name : List ℕ) (d : Desc) (more own : List TypedType) → Lies (more ++ own) ((record { name = name; desc = d } ∷ more) ++ own)
  own_lies name d more own t i = inr i

  pub typed_firm : (u : Around) → Place u → (name : List ℕ) (open_ok : Bool) (d : Desc) (more : List TypedType) (ls ms : List Later) → is_solid d ≡ true ⊎ (open_ok ≡ true) → Within ls ms → FirmIn ms (more ++ u.own) (record { name = name; desc = d }) → Are ls (more ++ u.own) more → AreTold (record { name = name; desc = d } ∷ more) ms → IsTyping u name None open_ok ms (typed_as u name d more)
  typed_firm u k name open_ok d more ls ms s w f g told =
      let t : TypedType = record { name = name; desc = d } in
      let own = (t ∷ more) ++ u.own in
      let e : in_unit u name ≡ record { «module» = unit; object = name } = ap (λ (n : List ℕ). let q : QName = record { «module» = n; object = name } in q) k.knows.unit_is in
      record {
        of = subst (λ (q : QName). T own (ref.Named q)) (sym e) (own_stands unit shown out own name (t, (inl refl, refl)));
        closed = λ o. ⊎_elim (λ i. inl (record { s = t; there = inl refl; is = ap (λ (q : QName). ref.Named q) e; solid = i })) (λ i. let bad : true ≡ false = sym i ∙ o in absurd cc) s;
        made = (desc_more unit shown path names ms ms (λ l i. i) (more ++ u.own) own (own_lies name d more u.own) name d f, are_more unit shown path names ls ms w (more ++ u.own) own (own_lies name d more u.own) more g);
        told = told;
        named = λ f. (t, (inl refl, refl));
      }

  told_one : (t : TypedType) (ts : List TypedType) (ls : List Later) → AreTold ts ls → AreTold (t ∷ ts) ls
  told_one t ts ls h = are_told_more ts (t ∷ ts) (λ s i. inr i) ls h

  same_within : (ls : List Later) → Within ls ls
  same_within ls l i = i

  -- ---- arrays

  some_length : (n : ℕ) → 1 ≤ suc n
  some_length n = omega arith

  length_speaks : (at : Pos) (v : Value) → Speaks (λ n. 1 ≤ n) (length_of at v)
  length_speaks at (literal.Int (pos (suc n))) = λ e. some_length n
  length_speaks at (literal.Int (pos zero)) = λ e. not_empty _ [] e
  length_speaks at (literal.Int (negsuc n)) = λ e. not_empty _ [] e
  length_speaks at (literal.Bool b) = λ e. not_empty _ [] e
  length_speaks at (literal.Char c) = λ e. not_empty _ [] e
  length_speaks at (literal.Set n) = λ e. not_empty _ [] e
  length_speaks at (literal.Str text) = λ e. not_empty _ [] e
  length_speaks at literal.Nil = λ e. not_empty _ [] e

  length_nil : (at : Pos) (v : Value) → Nil (length_of at v)
  length_nil at (literal.Int (pos (suc n))) = refl
  length_nil at v = refl

  length_tell : (u : Around) (l : Phrase) → LengthNil l → Tell (λ ls n. (ls ≡ []) × (1 ≤ n)) (array_length u l)
  length_tell u l h =
      then_tell (λ ls (v : Value). ls ≡ []) (λ ls n. (ls ≡ []) × (1 ≤ n)) (constant_value u l) (length_of l.start)
      (nil_tell Anything (λ ls v. ls ≡ []) (constant_value u l) (constant_nil u l h) (constant_speaks u l) (λ v i. refl))
      (λ v i. nil_tell (λ n. 1 ≤ n) (λ ms n. ((constant_value u l).notes.later ++ ms ≡ []) × (1 ≤ n)) (length_of l.start v) (length_nil l.start v) (length_speaks l.start v) (λ n j. (ap (λ ls. ls ++ []) i, j)))

  abbrev IsPart : Around → List ℕ → List Later → Typing → Type 0
  IsPart u name ls t = (o : Option Qualident) × IsTyping u name o false ls t

  array_step : (l : Phrase) → LengthNil l → (ls : List Phrase) (element : Written) (u : Around) → Place u → (name : List ℕ) (m : Mark) (open_ok : Bool) → Tell (IsPart u (element_name name)) (fixed_array u (element_name name) mark.Hidden ls element) → Tell (IsTyping u name None open_ok) (fixed_array u name m (l ∷ ls) element)
  array_step l c ls element u k name m open_ok r =
      let f = fixed_array u (element_name name) mark.Hidden ls element in
      made_tell (λ ms (p : ℕ × Typing). (1 ≤ p.0) × IsPart u (element_name name) ms p.1) (IsTyping u name None open_ok) (λ p. typed_as u name (desc.Array m p.0 p.1.of) p.1.made) (both (array_length u l) f)
      (both_tell (λ ls n. (ls ≡ []) × (1 ≤ n)) (IsPart u (element_name name)) (λ ms (p : ℕ × Typing). (1 ≤ p.0) × IsPart u (element_name name) ms p.1) (array_length u l) f (length_tell u l c) r
      (λ n t h i. (h.1, subst (λ ls. IsPart u (element_name name) (ls ++ f.notes.later) t) (sym h.0) i)))
      (λ p h.
      let i = h.1.1 in
      let ms = (both (array_length u l) f).notes.later in
      typed_firm u k name open_ok (desc.Array m p.0 p.1.of) p.1.made ms ms (inl refl) (same_within ms) (h.0, (i.of, i.closed refl)) i.made (told_one (record { name = name; desc = desc.Array m p.0 p.1.of }) p.1.made ms i.told))

  -- the rest of an array
  fixed_firm : (ls : List Phrase) → AllByRecursion LengthNil ls → (element : Written) → IsFirm element → (u : Around) → Place u → (name : List ℕ) (m : Mark) → Tell (IsPart u name) (fixed_array u name m ls element)
  fixed_firm [] c element g u k name m = tell_more (IsTyping u name element.name false) (IsPart u name) (element.typing u name m false) (g u k name m false) (λ t h. (element.name, h))
  fixed_firm (l ∷ ls) c element g u k name m = tell_more (IsTyping u name None false) (IsPart u name) (fixed_array u name m (l ∷ ls) element) (array_step l c.0 ls element u k name m false (fixed_firm ls c.1 element g u k (element_name name) mark.Hidden)) (λ t h. (None, h))

  or_false : (a b : Bool) → (a || b) ≡ false → (a ≡ false) × (b ≡ false)
  or_false true b e = absurd cc
  or_false false b e = (refl, e)

  not_false : (a : Bool) → not a ≡ false → a ≡ true
  not_false true e = refl
  not_false false e = absurd cc

  pub array_firm : (ls : List Phrase) → AllByRecursion LengthNil ls → (at : Pos) (element : Written) → IsFirm element → (u : Around) → Place u → (name : List ℕ) (m : Mark) (open_ok : Bool) → Tell (IsTyping u name None open_ok) (array u name m at open_ok ls element)
  array_firm [] c at element g u k name m open_ok =
      let j = element.typing u (element_name name) mark.Hidden element.open_array in
      also_tell (IsTyping u name None open_ok) (not open_ok || element.open_array) rule.MisplacedOpenArray at (made (λ t. typed_as u name (desc.OpenArray m t.of) t.made) j)
      (λ e. let b = or_false (not open_ok) element.open_array e in
      made_tell (IsTyping u (element_name name) element.name element.open_array) (IsTyping u name None open_ok) (λ t. typed_as u name (desc.OpenArray m t.of) t.made) j (g u k (element_name name) mark.Hidden element.open_array)
      (λ t i. typed_firm u k name open_ok (desc.OpenArray m t.of) t.made j.notes.later j.notes.later (inr (not_false open_ok b.0)) (same_within j.notes.later) (i.of, i.closed b.1) i.made (told_one (record { name = name; desc = desc.OpenArray m t.of }) t.made j.notes.later i.told)))
  array_firm (l ∷ ls) c at element g u k name m open_ok = array_step l c.0 ls element u k name m open_ok (fixed_firm ls c.1 element g u k (element_name name) mark.Hidden)

  -- ---- records

  abbrev IsBase : Around → List Later → Option TypeRef → Type 0
  IsBase u ls o = (ls ≡ []) × IfThere (λ t. T u.own t × Seen unit shown (IsOneOf u.own) is_record true t) o

  pub base_tell : (u : Around) → Place u → (o : Option Qualident) → Tell (IsBase u) (base_if u o)
  base_tell u k None = λ e. (refl, tt)
  base_tell u k (Some q) =
      made_tell (λ ls t. (ls ≡ []) × (T u.own t × Seen unit shown (IsOneOf u.own) is_record true t)) (IsBase u) (λ t. Some t) (type_named u q ▷ base_of (map_of u) (first_of q))
      (then_tell (λ ls t. (ls ≡ []) × T u.own t) (λ ls t. (ls ≡ []) × (T u.own t × Seen unit shown (IsOneOf u.own) is_record true t)) (type_named u q) (base_of (map_of u) (first_of q)) (name_tell u k q)
      (λ t h. wants_tell (λ ms t. ((type_named u q).notes.later ++ ms ≡ []) × (T u.own t × Seen unit shown (IsOneOf u.own) is_record true t)) (is_some (record_of (map_of u) t)) rule.UnfitBase (first_of q) t (λ e. (ap (λ ls. ls ++ []) h.0, (h.1, seen_at u k t h.1 is_record true e)))))
      (λ t h. h)

  -- the type of a field, and what fields leave for later
  abbrev IsFieldOf : TypeRef → List Later → Field → Type 0
  IsFieldOf t ls f = (f.of ≡ t) × AllByRecursion IsField ls

  inherits_field : (base : Option (Option TypeRef)) (x : Ident) → AllByRecursion IsField (inherits base x)
  inherits_field None x = tt
  inherits_field (Some None) x = tt
  inherits_field (Some (Some t)) x = (tt, tt)

  later_tell : (t : TypeRef) (ls : List Later) → AllByRecursion IsField ls → (j : Judged Field) → Tell (IsFieldOf t) j → Tell (IsFieldOf t) (judge_later ls j)
  later_tell t [] h j g = g
  later_tell t (later.Inherits x y ∷ ls) h j g = tell_more (IsFieldOf t) (λ ms f. IsFieldOf t (later.Inherits x y ∷ ms) f) (judge_later ls j) (later_tell t ls h.1 j g) (λ f i. (i.0, (tt, i.1)))
  later_tell t (later.PointsTo x at y inline ∷ ls) h j g = absurd h.0

  field_tell : (u : Around) (base : Option (Option TypeRef)) (before : List (List ℕ)) (d : IdentDef) (t : TypeRef) → Tell (IsFieldOf t) (field_declared u base before d t)
  field_tell u base before d t =
      let f : Mark → Field = λ m. record { name = d.ident.name; mark = m; place = 0; of = t } in
      let b = is_among d.ident.name before || is_some (member_in (map_of u) (record_in (map_of u) base) d.ident.name) in
      later_tell t (inherits base d.ident) (inherits_field base d.ident) (marked u true d ▷ λ m. unless b rule.DeclaredTwice d.ident.pos (f m))
      (then_tell (λ ls (m : Mark). ls ≡ []) (IsFieldOf t) (marked u true d) (λ m. unless b rule.DeclaredTwice d.ident.pos (f m)) (nil_tell Anything (λ ls m. ls ≡ []) (marked u true d) (mark_nil u true d) (mark_speaks u true d) (λ m i. refl))
      (λ m h. unless_tell (λ ms. IsFieldOf t ((marked u true d).notes.later ++ ms)) b rule.DeclaredTwice d.ident.pos (f m) (λ e. (refl, subst (λ ls. AllByRecursion IsField (ls ++ [])) (sym h) tt))))

  abbrev AreFieldsOf : TypeRef → List Later → List Field → Type 0
  AreFieldsOf t ls fs = AllByRecursion (λ (f : Field). f.of ≡ t) fs × AllByRecursion IsField ls

  fields_tell_of : (u : Around) (base : Option (Option TypeRef)) (before : List (List ℕ)) (ds : List IdentDef) (t : Typing) → Tell (AreFieldsOf t.of) (each_sound (fields_of u base before ds (Some t)))
  fields_tell_of u base before [] t = λ e. (tt, tt)
  fields_tell_of u base before (d ∷ ds) t =
      let a = field_declared u base before d t.of in
      let r = each_sound (fields_of u base (name_in d ∷ before) ds (Some t)) in
      made_tell (λ ls (p : Field × List Field). AreFieldsOf t.of ls (p.0 ∷ p.1)) (AreFieldsOf t.of) (λ p. p.0 ∷ p.1) (both a r)
      (both_tell (IsFieldOf t.of) (AreFieldsOf t.of) (λ ls (p : Field × List Field). AreFieldsOf t.of ls (p.0 ∷ p.1)) a r (field_tell u base before d t.of) (fields_tell_of u base (name_in d ∷ before) ds t)
      (λ f fs h i. ((h.0, i.0), all_both IsField a.notes.later r.notes.later h.1 i.1)))
      (λ p h. h)

  pub record AreFields (u : Around) (ls : List Later) (f : Fields) : Type 0 where
    pub fields : AllByRecursion (λ (k : Field). T (f.made ++ u.own) k.of × Closed unit shown (IsOneOf (f.made ++ u.own)) k.of) f.fields
    pub made : Are ls (f.made ++ u.own) f.made
    pub told : AreTold f.made ls

  of_one : (P : TypeRef → Type 0) (t : TypeRef) → P t → (fs : List Field) → AllByRecursion (λ (f : Field). f.of ≡ t) fs → AllByRecursion (λ (f : Field). P f.of) fs
  of_one P t p [] h = tt
  of_one P t p (f ∷ fs) h = (subst P (sym h.0) p, of_one P t p fs h.1)

  fields_firm : (u : Around) (base : Option (Option TypeRef)) (before : List (List ℕ)) (ds : List IdentDef) (t : Judged Typing) (name : List ℕ) (o : Option Qualident) → Tell (IsTyping u name o false) t → Tell (AreFields u) (with_fields u base before ds t)
  fields_firm u base before ds t name o g =
      let r = each_sound (fields_of u base before ds t.node) in
      made_tell (λ ls (p : Typing × List Field). AreFields u ls (record { fields = p.1; made = p.0.made })) (AreFields u) (λ p. record { fields = p.1; made = p.0.made }) (both t r)
      (λ e. by t.node refl (g (front_empty t.notes.broken r.notes.broken e)) (back_empty t.notes.broken r.notes.broken e))
      (λ p h. h)
    where
      by : (n : Option Typing) → t.node ≡ n → Has (IsTyping u name o false t.notes.later) n → (each_sound (fields_of u base before ds n)).notes.broken ≡ [] → Has (λ (p : Typing × List Field). AreFields u (t.notes.later ++ (each_sound (fields_of u base before ds n)).notes.later) (record { fields = p.1; made = p.0.made })) (Rattle.ob_rules.specs.Judged.paired n (each_sound (fields_of u base before ds n)).node)
      by None e h q = absurd h
      by (Some x) e h q =
          let r = each_sound (fields_of u base before ds (Some x)) in
          two r.node (fields_tell_of u base before ds x q)
        where
          two : (m : Option (List Field)) → Has (AreFieldsOf x.of (each_sound (fields_of u base before ds (Some x))).notes.later) m → Has (λ (p : Typing × List Field). AreFields u (t.notes.later ++ (each_sound (fields_of u base before ds (Some x))).notes.later) (record { fields = p.1; made = p.0.made })) (Rattle.ob_rules.specs.Judged.paired (Some x) m)
          two None k = absurd k
          two (Some fs) k =
              let rs = (each_sound (fields_of u base before ds (Some x))).notes.later in
              record {
                fields = of_one (λ y. T (x.made ++ u.own) y × Closed unit shown (IsOneOf (x.made ++ u.own)) y) x.of (h.of, h.closed refl) fs k.0;
                made = are_more unit shown path names t.notes.later (t.notes.later ++ rs) (λ l i. one_left t.notes.later rs l i) (x.made ++ u.own) (x.made ++ u.own) (lies_same (x.made ++ u.own)) x.made h.made;
                told = all_both (Tells x.made) t.notes.later rs h.told (fields_tell x.made rs k.1);
              }

  both_lie : (a b c : List TypedType) → Lies a b → Lies (a ++ c) (b ++ c)
  both_lie a b c f t i = ⊎_elim (λ k. one_left b c t (f t k)) (λ k. one_right b c t k) (one_joined a c t i)

  field_more : (own more : List TypedType) → Lies own more → (fs : List Field) → AllByRecursion (λ (k : Field). T own k.of × Closed unit shown (IsOneOf own) k.of) fs → AllByRecursion (λ (k : Field). T more k.of × Closed unit shown (IsOneOf more) k.of) fs
  field_more own more f fs h = all_of (λ (k : Field). T own k.of × Closed unit shown (IsOneOf own) k.of) (λ (k : Field). T more k.of × Closed unit shown (IsOneOf more) k.of) fs (λ k i. (stands_grown unit shown own more (grows_as own more f) k.of i.0, closed_more unit shown (IsOneOf own) (IsOneOf more) f k.of i.1)) h

  pub joined_fields : (u : Around) (ls ms : List Later) (a b : Fields) → AreFields u ls a → AreFields u ms b → AreFields u (ls ++ ms) (fields_joined a b)
  joined_fields u ls ms a b h k =
      let own = (a.made ++ b.made) ++ u.own in
      let f : Lies (a.made ++ u.own) own = both_lie a.made (a.made ++ b.made) u.own (λ t i. one_left a.made b.made t i) in
      let g : Lies (b.made ++ u.own) own = both_lie b.made (a.made ++ b.made) u.own (λ t i. one_right a.made b.made t i) in
      record {
        fields = all_both (λ (k : Field). T own k.of × Closed unit shown (IsOneOf own) k.of) a.fields b.fields (field_more (a.made ++ u.own) own f a.fields h.fields) (field_more (b.made ++ u.own) own g b.fields k.fields);
        made = all_both (FirmIn (ls ++ ms) own) a.made b.made (are_more unit shown path names ls (ls ++ ms) (λ l i. one_left ls ms l i) (a.made ++ u.own) own f a.made h.made) (are_more unit shown path names ms (ls ++ ms) (λ l i. one_right ls ms l i) (b.made ++ u.own) own g b.made k.made);
        told = all_both (Tells (a.made ++ b.made)) ls ms (are_told_more a.made (a.made ++ b.made) (λ t i. one_left a.made b.made t i) ls h.told) (are_told_more b.made (a.made ++ b.made) (λ t i. one_right a.made b.made t i) ms k.told);
      }

  lists_firm : (ls : List WrittenFields) → AreFirmFields ls → (u : Around) → Place u → (name : List ℕ) (base : Option (Option TypeRef)) (before : List (List ℕ)) → Tell (AreFields u) (field_lists u name base before ls)
  lists_firm [] g u k name base before = λ e. record { fields = tt; made = tt; told = tt }
  lists_firm (l ∷ ls) g u k name base before =
      let t = l.node.typing u (field_name name (first_name l.names)) mark.Hidden false in
      let a = with_fields u base before l.names t in
      let b = field_lists u name base (names_behind l.names before) ls in
      made_tell (λ ms (p : Fields × Fields). AreFields u ms (fields_joined p.0 p.1)) (AreFields u) (λ p. fields_joined p.0 p.1) (both a b)
      (both_tell (AreFields u) (AreFields u) (λ ms (p : Fields × Fields). AreFields u ms (fields_joined p.0 p.1)) a b (fields_firm u base before l.names t (field_name name (first_name l.names)) l.node.name (g.0 u k (field_name name (first_name l.names)) mark.Hidden false)) (lists_firm ls g.1 u k name base (names_behind l.names before))
      (λ x y h i. joined_fields u a.notes.later b.notes.later x y h i))
      (λ p h. h)

  pub record_firm : (u : Around) → Place u → (name : List ℕ) (m : Mark) (open_ok : Bool) (lists : List WrittenFields) → AreFirmFields lists → (o : Option Qualident) → Tell (IsTyping u name None open_ok) (record_with u name m lists (base_if u o))
  record_firm u k name m open_ok lists g o =
      let b = base_if u o in
      let f = field_lists u name b.node [] lists in
      made_tell (λ ls (p : Option TypeRef × Fields). IfThere (λ t. T u.own t × Seen unit shown (IsOneOf u.own) is_record true t) p.0 × AreFields u ls p.1) (IsTyping u name None open_ok) (λ p. typed_as u name (record_desc m p.0 p.1.fields) p.1.made) (both b f)
      (both_tell (IsBase u) (AreFields u) (λ ls (p : Option TypeRef × Fields). IfThere (λ t. T u.own t × Seen unit shown (IsOneOf u.own) is_record true t) p.0 × AreFields u ls p.1) b f (base_tell u k o) (lists_firm lists g u k name b.node [])
      (λ x y h i. (h.1, subst (λ ls. AreFields u (ls ++ f.notes.later) y) (sym h.0) i)))
      (λ p h.
      let ls = (both b f).notes.later in
      typed_firm u k name open_ok (record_desc m p.0 p.1.fields) p.1.made ls ls (inl refl) (same_within ls) (based p.1.made p.0 h.0, (h.1.fields, tt)) h.1.made (told_one (record { name = name; desc = record_desc m p.0 p.1.fields }) p.1.made ls h.1.told))
    where
      based : (made : List TypedType) (o : Option TypeRef) → IfThere (λ t. T u.own t × Seen unit shown (IsOneOf u.own) is_record true t) o → IfThere (λ t. T (made ++ u.own) t × Seen unit shown (IsOneOf (made ++ u.own)) is_record true t) o
      based made None h = tt
      based made (Some t) h = (stands_grown unit shown u.own (made ++ u.own) (grows_front made u.own) t h.0, seen_more unit shown (IsOneOf u.own) (IsOneOf (made ++ u.own)) (lies_front made u.own) is_record true t h.1)

  -- ---- pointers

  later_in : (b : Bool) (y x : Ident) → later_if b y ≡ Some x → (b ≡ true) × (y ≡ x)
  later_in true y x e = (refl, cc)
  later_in false y x e = absurd cc

  later_is_by : (u : Around) (o : Option Ident) (y x : Ident) → later_by u o y ≡ Some x → is_among x.name u.later_types ≡ true
  later_is_by u None y x e =
      let p = later_in (is_among y.name u.later_types && not (is_declared u y.name)) y x e in
      ap (λ (i : Ident). is_among i.name u.later_types) (sym p.1) ∙ (and_parts (is_among y.name u.later_types) (not (is_declared u y.name)) p.0).0
  later_is_by u (Some m) y x e = absurd cc

  later_is : (u : Around) (o : Option Qualident) (x : Ident) → is_later u o ≡ Some x → is_among x.name u.later_types ≡ true
  later_is u None x e = absurd cc
  later_is u (Some q) x e = later_is_by u q.qualifier q.ident x e

  -- the base, and what is left of it for later
  pub record IsPointed (u : Around) (name : List ℕ) (ls : List Later) (t : Typing) : Type 0 where
    pub before : List Later
    pub within : Within before ls
    pub base : Base unit shown path names ls (t.made ++ u.own) name t.of
    pub made : Are before (t.made ++ u.own) t.made
    pub told : (s : TypedType) → s.name ≡ name → (m : Mark) → s.desc ≡ desc.Pointer m t.of → AreTold (s ∷ t.made) ls

  base_tells : (u : Around) (name : List ℕ) (inline : Bool) (at : Pos) (s p : Bool) (ls : List Later) (t : Typing) → Are ls (t.made ++ u.own) t.made → AreTold t.made ls → T (t.made ++ u.own) t.of → (s ≡ true → Seen unit shown (IsOneOf (t.made ++ u.own)) is_structured true t.of) → Tell (λ ms. IsPointed u name (ls ++ ms)) (base_judged name inline at s p t)
  base_tells u name inline at true p ls t h told of f = λ e. subst (λ ks. IsPointed u name ks t) (sym (append-nil ls)) (record { before = ls; within = λ l i. i; base = inl (of, f refl); made = h; told = λ s n m d. are_told_more t.made (s ∷ t.made) (λ x i. inr i) ls told })
  base_tells u name inline at false true ls t h told of f = λ e. record {
    before = ls;
    within = λ l i. one_left ls (later.PointsTo name at t.of inline ∷ []) l i;
    base = inr (inl of, record { at = at; inline = inline; there = one_right ls (later.PointsTo name at t.of inline ∷ []) (later.PointsTo name at t.of inline) (inl refl) });
    made = h;
    told = λ s n m d. all_both (Tells (s ∷ t.made)) ls (later.PointsTo name at t.of inline ∷ []) (are_told_more t.made (s ∷ t.made) (λ x i. inr i) ls told) ((s, (inl refl, (n, (m, d)))), tt);
  }
  base_tells u name inline at false false ls t h told of f = λ e. not_empty _ [] e

  pointer_by_firm : (u : Around) → Place u → (name : List ℕ) (m : Mark) (open_ok : Bool) (base : Written) → IsFirm base → (o : Option Ident) → ((x : Ident) → o ≡ Some x → is_among x.name u.later_types ≡ true) → Tell (IsTyping u name None open_ok) (pointer_by u name m base o)
  pointer_by_firm u k name m open_ok base g (Some x) f = λ e.
      let t : TypeRef = ref.Named (in_unit u (u.path ++ x.name)) in
      let l : Later = later.PointsTo name x.pos t false in
      let same : t ≡ ref.Named (record { «module» = unit; object = path ++ x.name }) = ap (λ (n : List ℕ). ref.Named (record { «module» = n; object = u.path ++ x.name })) k.knows.unit_is ∙ ap (λ (n : List ℕ). ref.Named (record { «module» = unit; object = n ++ x.name })) k.path_is in
      typed_firm u k name open_ok (desc.Pointer m t) [] [] (l ∷ []) (inl refl) (λ y i. absurd i)
      (inr (inr (record { x = x.name; among = subst (λ ns. is_among x.name ns ≡ true) k.names_is (f x refl); is = same }), record { at = x.pos; inline = false; there = inl refl }))
      tt ((record { name = name; desc = desc.Pointer m t }, (inl refl, (refl, (m, refl)))), tt)
  pointer_by_firm u k name m open_ok base g None f =
      let j = base.typing u (base_name name) mark.Hidden true in
      made_tell (IsPointed u name) (IsTyping u name None open_ok) (pointer_to u name m) (j ▷ pointer_base u name (is_none base.name) base.start)
      (then_tell (IsTyping u (base_name name) base.name true) (IsPointed u name) j (pointer_base u name (is_none base.name) base.start) (g u k (base_name name) mark.Hidden true)
      (λ t h. base_tells u name (is_none base.name) base.start (is_structured (map_of (with_types u t.made)) t.of) (is_pointer (map_of (with_types u t.made)) t.of) j.notes.later t h.made h.told h.of
      (λ e. seen_at (with_types u t.made) (with_place u k j.notes.later t.made h.made) t.of h.of is_structured true e)))
      (λ t h.
      let ls = (j ▷ pointer_base u name (is_none base.name) base.start).notes.later in
      typed_firm u k name open_ok (desc.Pointer m t.of) t.made h.before ls (inl refl) h.within h.base h.made (h.told (record { name = name; desc = desc.Pointer m t.of }) refl m refl))

  pub pointer_firm : (u : Around) → Place u → (name : List ℕ) (m : Mark) (open_ok : Bool) (base : Written) → IsFirm base → Tell (IsTyping u name None open_ok) (pointer u name m base)
  pointer_firm u k name m open_ok base g = pointer_by_firm u k name m open_ok base g (is_later u base.name) (later_is u base.name)
