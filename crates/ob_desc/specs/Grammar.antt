-- The grammar of descriptions.
use Rattle.std.specs.Prelude.{◌≡◌, ℕ, suc, ◌<◌, ◌≢◌, ◌^◌, ◌+◌, ◌*◌, ◌-◌, ◌/◌, ◌%◌, Bool, true, false, cond, not, ◌&&◌, ◌==◌, nat_lt, List, [], ◌∷◌, ◌++◌, length, drop, Option, Some, None, IfSome, codes, bytes_eq, IsTrue, ℤ, pos, negsuc}
use Rattle.std.specs.Int.{w32, cast_signed, cast_unsigned}
use Rattle.std.specs.Fmt.{signed_decimal}
use Rattle.std.specs.List.{flat_map, AllByRecursion, filter}
use Rattle.std.specs.List.Sorted.{IsStrictlySortedBy}
use Rattle.std.specs.Ordering.{nat_cmp, ordering_then}
use Rattle.std.specs.Cmp.Lexicographic.{slice_cmp}
use Rattle.std.specs.declared.cmp.Ordering.{Ordering}
use Rattle.ob_format.specs.Format.{Format, ◌>>=◌, ◌⊗◌, made, lead}
use Rattle.ob_format.specs.Order.{rises}
use Rattle.ob_format.specs.Names.{is_identifier, is_object}
use Rattle.ob_format.specs.Words.{front, back, Word, after, after_at, all_at, ◌▹◌, signed, numeral, identifier}
use Rattle.ob_tree.specs.declared.names.QName.{QName}
use Rattle.ob_types.specs.declared.types.Basic.{Basic}
use Rattle.ob_types.specs.declared.types.Basic.TheVariants.{Boolean, Char, ShortInt, Integer, LongInt, Set}
use Rattle.ob_types.specs.declared.types.TypeRef.{TypeRef}
use Rattle.ob_types.specs.declared.types.TypeRef.TheVariants as types
use Rattle.ob_tree.specs.declared.ident.Mark.{Mark}
use Rattle.ob_tree.specs.declared.ident.Mark.TheVariants.{Full, ReadOnly, Hidden}
use Rattle.ob_types.specs.declared.types.Mode.{Mode}
use Rattle.ob_types.specs.declared.types.Mode.TheVariants.{Value as ByValue, Var}
use Rattle.ob_types.specs.declared.types.Signature.{Signature}
use Rattle.ob_types.specs.declared.value.Value.{Value}
use Rattle.ob_types.specs.declared.value.Value.TheVariants as value
use Rattle.ob_types.specs.declared.desc.Desc.{Desc}
use Rattle.ob_types.specs.declared.desc.Desc.TheVariants as desc
use Rattle.ob_types.specs.declared.desc.Field.{Field}
use Rattle.ob_types.specs.declared.desc.Method.{Method}
use Rattle.ob_types.specs.declared.desc.Receiver.{Receiver}
use Rattle.ob_types.specs.declared.desc.Receiver.TheVariants as receiver
use Rattle.ob_types.specs.declared.face.Aspect.{Aspect}
use Rattle.ob_types.specs.declared.face.Aspect.TheVariants.{Shape, Layout}
use Rattle.ob_desc.specs.Forms.{lookup, last, led, kept, made_where, chosen_at, run_at}
use Rattle.ob_desc.specs.declared.kind.Kind.{Kind}
use Rattle.ob_desc.specs.declared.kind.Kind.TheVariants as kind
use Rattle.ob_desc.specs.declared.kind.ConstKind.{ConstKind}
use Rattle.ob_desc.specs.declared.kind.ConstKind.TheVariants as const

-- ---- numbers

-- a number from 0 to 2147483647
abbrev pub small : Word ℕ
small = kept numeral (λ n. nat_lt n (2 ^ 31)) (λ n. n < 2 ^ 31)

-- the same from 1 on
abbrev pub count : Word ℕ
count = kept small (λ n. nat_lt 0 n) (λ n. 0 < n)

-- ---- names

-- module, a dot, object
unfoldable pub object_at : List ℕ → List ℕ → Option QName
object_at m [] = None
object_at m (dot ∷ o) = cond (is_object o) (Some (record { «module» = m; object = o })) None

unfoldable pub dotted_at : List ℕ → Option QName
dotted_at t = cond (is_identifier (front 46 t)) (object_at (front 46 t) (back 46 t)) None

abbrev pub dotted : Word QName
dotted = record { parse = dotted_at; print = λ q. q.module ++ 46 ∷ q.object; fits = λ q. IsTrue (is_identifier q.module) × IsTrue (is_object q.object) }

-- the same of a variable or procedure, whose name is an identifier
abbrev pub dotted_identifier : Word QName
dotted_identifier = kept dotted (λ q. is_identifier q.object) (λ q. IsTrue (is_identifier q.object))

-- ---- types

abbrev pub basics : List (List ℕ × Basic)
basics = (codes "BOOLEAN", Boolean) ∷ (codes "CHAR", Char) ∷ (codes "SHORTINT", ShortInt) ∷ (codes "INTEGER", Integer) ∷ (codes "LONGINT", LongInt) ∷ (codes "SET", Set) ∷ []

abbrev pub basic_name : Basic → List ℕ
basic_name Boolean = codes "BOOLEAN"
basic_name Char = codes "CHAR"
basic_name ShortInt = codes "SHORTINT"
basic_name Integer = codes "INTEGER"
basic_name LongInt = codes "LONGINT"
basic_name Set = codes "SET"

-- a basic type's name, or a name with a dot
unfoldable pub type_at : List ℕ → Option TypeRef
type_at t = cond (nat_lt 0 (length (back 46 t))) (dotted_at t >>= λ q. Some (types.Named q)) (lookup basics t >>= λ b. Some (types.Basic b))

abbrev pub type_print : TypeRef → List ℕ
type_print (types.Basic b) = basic_name b
type_print (types.Named q) = dotted.print q

abbrev pub type_fits : TypeRef → Type 0
type_fits (types.Basic b) = Unit {0}
type_fits (types.Named q) = dotted.fits q

abbrev pub type_name : Word TypeRef
type_name = record { parse = type_at; print = type_print; fits = type_fits }

-- NONE, or a type
unfoldable pub base_at : List ℕ → Option (Option TypeRef)
base_at t = cond (bytes_eq t (codes "NONE")) (Some None) (type_at t >>= λ n. Some (Some n))

abbrev pub base_print : Option TypeRef → List ℕ
base_print None = codes "NONE"
base_print (Some n) = type_print n

abbrev pub base : Word (Option TypeRef)
base = record { parse = base_at; print = base_print; fits = λ o. IfSome o type_fits }

-- ---- marks

abbrev pub marks : List (List ℕ × Mark)
marks = (codes "*", Full) ∷ (codes "-", ReadOnly) ∷ (codes ".", Hidden) ∷ []

abbrev pub mark_name : Mark → List ℕ
mark_name Full = codes "*"
mark_name ReadOnly = codes "-"
mark_name Hidden = codes "."

abbrev pub mark : Word Mark
mark = record { parse = lookup marks; print = mark_name; fits = λ _. Unit {0} }

abbrev pub is_shown : Mark → Bool
is_shown Full = true
is_shown ReadOnly = true
is_shown Hidden = false

-- the mark of a field, which is exported
abbrev pub shown_mark : Word Mark
shown_mark = kept mark is_shown (λ m. IsTrue (is_shown m))

-- ---- signatures

-- = by value, & by VAR, and the type
abbrev pub mode_at : ℕ → Option Mode
mode_at c = cond (c == 61) (Some ByValue) (cond (c == 38) (Some Var) None)

abbrev pub mode_byte : Mode → ℕ
mode_byte ByValue = 61
mode_byte Var = 38

unfoldable pub param_at : List ℕ → Option (Mode × TypeRef)
param_at [] = None
param_at (c ∷ t) = do
  m ← mode_at c
  n ← type_at t
  Some (m, n)

abbrev pub param : Word (Mode × TypeRef)
param = record { parse = param_at; print = λ p. mode_byte p.0 ∷ type_print p.1; fits = λ p. type_fits p.1 }

-- parameters with commas between them
unfoldable pub params_at : List ℕ → Option (List (Mode × TypeRef))
params_at [] = Some []
params_at (b ∷ bs) = all_at (after_at 44 param_at) (suc (suc (length bs))) (44 ∷ b ∷ bs)

abbrev pub params_print : List (Mode × TypeRef) → List ℕ
params_print ps = drop 1 (flat_map (λ p. 44 ∷ param.print p) ps)

unfoldable pub result_at : List (Mode × TypeRef) → List ℕ → Option Signature
result_at ps [] = None
result_at ps (b ∷ t) = do
  r ← base_at t
  Some (record { params = ps; result = r })

unfoldable pub signature_at : List ℕ → Option Signature
signature_at [] = None
signature_at (b ∷ bs) = cond (b == 40) (params_at (front 41 bs) >>= λ ps. result_at ps (back 41 bs)) None

-- ( the parameters ) the result
abbrev pub signature : Word Signature
signature = record { parse = signature_at; print = λ s. 40 ∷ params_print s.params ++ 41 ∷ base_print s.result; fits = λ s. AllByRecursion param.fits s.params × IfSome s.result type_fits }

-- ---- constants

abbrev pub truths : List (List ℕ × Bool)
truths = (codes "0", false) ∷ (codes "1", true) ∷ []

abbrev pub truth_name : Bool → List ℕ
truth_name false = codes "0"
truth_name true = codes "1"

abbrev pub truth : Word Bool
truth = record { parse = lookup truths; print = truth_name; fits = λ _. Unit {0} }

abbrev pub character : Word ℕ
character = kept numeral (λ n. nat_lt n 256) (λ n. n < 256)

-- the smallest integer type that has a value
abbrev pub size_kind : ℕ → ConstKind
size_kind n = cond (nat_lt n 128) const.ShortInt (cond (nat_lt n 32768) const.Integer const.LongInt)

abbrev pub int_kind : ℤ → ConstKind
int_kind (pos n) = size_kind n
int_kind (negsuc n) = size_kind n

-- a set as the signed number of its word
abbrev pub set_word : Word ℕ
set_word = record { parse = λ t. signed.parse t >>= λ z. Some (cast_unsigned w32 z); print = λ n. signed_decimal (cast_signed w32 n); fits = λ n. n < 2 ^ 32 }

-- a digit of 0 to 9 and A to F
abbrev pub hex_value : ℕ → Option ℕ
hex_value c = cond (nat_lt c 48) None (cond (nat_lt c 58) (Some (c - 48)) (cond (nat_lt c 65) None (cond (nat_lt c 71) (Some (c - 55)) None)))

abbrev pub hex_digit : ℕ → ℕ
hex_digit n = cond (nat_lt n 10) (n + 48) (n + 55)

-- two digits for each character
unfoldable pub hex_at : List ℕ → Option (List ℕ)
hex_at [] = Some []
hex_at (h ∷ []) = None
hex_at (h ∷ l ∷ t) = do
  high ← hex_value h
  low ← hex_value l
  more ← hex_at t
  Some ((high * 16 + low) ∷ more)

abbrev pub hex_print : List ℕ → List ℕ
hex_print s = flat_map (λ c. hex_digit (c / 16) ∷ hex_digit (c % 16) ∷ []) s

abbrev pub IsByte : ℕ → Type 0
IsByte c = c < 256

-- the digits between two marks
unfoldable pub quoted_at : List ℕ → Option (List ℕ)
quoted_at [] = None
quoted_at (b ∷ bs) = cond (b == 34 && bytes_eq (back 34 bs) (34 ∷ [])) (hex_at (front 34 bs)) None

abbrev pub quoted : Word (List ℕ)
quoted = record { parse = quoted_at; print = λ s. 34 ∷ hex_print s ++ 34 ∷ []; fits = λ s. AllByRecursion IsByte s }

-- a string has not exactly one character
abbrev pub string : Word (List ℕ)
string = kept quoted (λ s. not (length s == 1)) (λ s. length s ≢ 1)

abbrev pub const_kinds : List (List ℕ × ConstKind)
const_kinds = (codes "BOOLEAN", const.Boolean) ∷ (codes "CHAR", const.Char) ∷ (codes "SHORTINT", const.ShortInt) ∷ (codes "INTEGER", const.Integer) ∷ (codes "LONGINT", const.LongInt) ∷ (codes "SET", const.Set) ∷ (codes "STRING", const.String) ∷ []

abbrev pub const_name : ConstKind → List ℕ
const_name const.Boolean = codes "BOOLEAN"
const_name const.Char = codes "CHAR"
const_name const.ShortInt = codes "SHORTINT"
const_name const.Integer = codes "INTEGER"
const_name const.LongInt = codes "LONGINT"
const_name const.Set = codes "SET"
const_name const.String = codes "STRING"

-- an integer whose smallest type is that of k
unfoldable pub int_at : ConstKind → List ℕ → Option Value
int_at k t = (last 32 signed).parse t >>= λ z. cond (bytes_eq (const_name (int_kind z)) (const_name k)) (Some (value.Int z)) None

unfoldable pub const_by : ConstKind → List ℕ → Option Value
const_by const.Boolean t = (last 32 truth).parse t >>= λ b. Some (value.Bool b)
const_by const.Char t = (last 32 character).parse t >>= λ c. Some (value.Char c)
const_by const.ShortInt t = int_at const.ShortInt t
const_by const.Integer t = int_at const.Integer t
const_by const.LongInt t = int_at const.LongInt t
const_by const.Set t = (last 32 set_word).parse t >>= λ n. Some (value.Set n)
const_by const.String t = (last 32 string).parse t >>= λ s. Some (value.Str s)

abbrev pub value_print : Value → List ℕ
value_print (value.Bool b) = codes "BOOLEAN" ++ (last 32 truth).print b
value_print (value.Char c) = codes "CHAR" ++ (last 32 character).print c
value_print (value.Int z) = const_name (int_kind z) ++ (last 32 signed).print z
value_print (value.Set n) = codes "SET" ++ (last 32 set_word).print n
value_print (value.Str s) = codes "STRING" ++ (last 32 string).print s
value_print value.Nil = []

abbrev pub value_fits : Value → Type 0
value_fits (value.Bool b) = Unit {0}
value_fits (value.Char c) = character.fits c
value_fits (value.Int z) = signed.fits z
value_fits (value.Set n) = set_word.fits n
value_fits (value.Str s) = string.fits s
value_fits value.Nil = ⊥

-- K v
abbrev pub constant : Word Value
constant = record { parse = chosen_at 32 const_kinds const_by; print = value_print; fits = value_fits }

-- ---- members of a record

-- f name m place TN
unfoldable pub field : Format Field
field = lead (codes " f") (made (after 32 identifier ⊗ after 32 shown_mark ⊗ after 32 small ⊗ after 32 type_name) (λ p. record { name = p.0; mark = p.1.0; place = p.1.1.0; of = p.1.1.1 }) (λ f. (f.name, (f.mark, (f.place, f.of)))))

abbrev pub receivers : List (List ℕ × Receiver)
receivers = (codes "v", receiver.Record) ∷ (codes "p", receiver.Pointer) ∷ []

abbrev pub receiver_name : Receiver → List ℕ
receiver_name receiver.Record = codes "v"
receiver_name receiver.Pointer = codes "p"

abbrev pub receiver_word : Word Receiver
receiver_word = record { parse = lookup receivers; print = receiver_name; fits = λ _. Unit {0} }

-- p name number k sig
unfoldable pub method : Format Method
method = lead (codes " p") (made_where (after 32 identifier ⊗ after 32 small ⊗ after 32 receiver_word ⊗ after 32 signature) (λ p. record { name = p.0; mark = Full; number = p.1.0; receiver = p.1.1.0; signature = p.1.1.1 }) (λ m. (m.name, (m.number, (m.receiver, m.signature)))) (λ m. m.mark ≡ Full))

-- a text that begins as a field does
abbrev pub begins_field : List ℕ → Bool
begins_field [] = false
begins_field (b ∷ []) = false
begins_field (b ∷ c ∷ t) = b == 32 && c == 102

-- by place, and at one place by name
abbrev pub by_place : Field → Field → Ordering
by_place a b = ordering_then (nat_cmp a.place b.place) (slice_cmp nat_cmp a.name b.name)

abbrev pub by_number : Method → Method → Ordering
by_number a b = nat_cmp a.number b.number

-- fields and then bound procedures, to the end
unfoldable pub members_at : List ℕ → Option (List Field × List Method)
members_at t = do
  fields ← run_at begins_field field.take (length t) t
  methods ← all_at method.take (length fields.1) fields.1
  Some (fields.0, methods)

abbrev pub all_members : Word (List Field × List Method)
all_members = record { parse = members_at; print = λ p. flat_map field.spell p.0 ++ flat_map method.spell p.1; fits = λ p. AllByRecursion field.fits p.0 × AllByRecursion method.fits p.1 }

-- each kind in its order
abbrev pub members : Word (List Field × List Method)
members = kept all_members (λ p. rises by_place p.0 && rises by_number p.1) (λ p. IsStrictlySortedBy by_place p.0 × IsStrictlySortedBy by_number p.1)

-- ---- the texts of shapes, from the object's name on

abbrev pub const_text : Word (QName × Value)
const_text = after 32 dotted ▹ last 32 constant

abbrev pub var_text : Word ((QName × Mark) × TypeRef)
var_text = (after 32 dotted_identifier ⊗ after 32 mark) ▹ last 32 type_name

abbrev pub proc_text : Word (QName × Signature)
proc_text = after 32 dotted_identifier ▹ last 32 signature

-- aliases, open arrays and pointers
abbrev pub marked_text : Word ((QName × Mark) × TypeRef)
marked_text = (after 32 dotted ⊗ after 32 mark) ▹ last 32 type_name

abbrev pub array_text : Word ((QName × (Mark × ℕ)) × TypeRef)
array_text = (after 32 dotted ⊗ after 32 mark ⊗ after 32 count) ▹ last 32 type_name

abbrev pub proctype_text : Word ((QName × Mark) × Signature)
proctype_text = (after 32 dotted ⊗ after 32 mark) ▹ last 32 signature

abbrev pub record_text : Word ((QName × (Mark × Option TypeRef)) × (List Field × List Method))
record_text = (after 32 dotted ⊗ after 32 mark ⊗ after 32 base) ▹ members

abbrev pub kinds : List (List ℕ × Kind)
kinds = (codes "const", kind.Const) ∷ (codes "var", kind.Var) ∷ (codes "proc", kind.Proc) ∷ (codes "alias", kind.Alias) ∷ (codes "array", kind.Array) ∷ (codes "open", kind.OpenArray) ∷ (codes "pointer", kind.Pointer) ∷ (codes "proctype", kind.ProcType) ∷ (codes "record", kind.Record) ∷ []

-- a record as its shape shows it, its words and its number of bound procedures left 0
abbrev pub bare_record : Mark → Option TypeRef → List Field → List Method → Desc
bare_record m b fs ms = desc.Record (record { mark = m; base = b; fields = fs; methods = ms; words = 0; procedures = 0 })

unfoldable pub shape_by : Kind → List ℕ → Option (QName × Desc)
shape_by kind.Const t = const_text.parse t >>= λ x. Some (x.0, desc.Const x.1)
shape_by kind.Var t = var_text.parse t >>= λ x. Some (x.0.0, desc.Var x.0.1 x.1)
shape_by kind.Proc t = proc_text.parse t >>= λ x. Some (x.0, desc.Proc x.1)
shape_by kind.Alias t = marked_text.parse t >>= λ x. Some (x.0.0, desc.Alias x.0.1 x.1)
shape_by kind.Array t = array_text.parse t >>= λ x. Some (x.0.0, desc.Array x.0.1.0 x.0.1.1 x.1)
shape_by kind.OpenArray t = marked_text.parse t >>= λ x. Some (x.0.0, desc.OpenArray x.0.1 x.1)
shape_by kind.Pointer t = marked_text.parse t >>= λ x. Some (x.0.0, desc.Pointer x.0.1 x.1)
shape_by kind.ProcType t = proctype_text.parse t >>= λ x. Some (x.0.0, desc.ProcType x.0.1 x.1)
shape_by kind.Record t = record_text.parse t >>= λ x. Some (x.0.0, bare_record x.0.1.0 x.0.1.1 x.1.0 x.1.1)

-- the shape text of an object
abbrev pub shape_text : QName → Desc → List ℕ
shape_text q (desc.Const v) = codes "const" ++ const_text.print (q, v)
shape_text q (desc.Var m t) = codes "var" ++ var_text.print ((q, m), t)
shape_text q (desc.Proc s) = codes "proc" ++ proc_text.print (q, s)
shape_text q (desc.Alias m t) = codes "alias" ++ marked_text.print ((q, m), t)
shape_text q (desc.Array m n t) = codes "array" ++ array_text.print ((q, (m, n)), t)
shape_text q (desc.OpenArray m t) = codes "open" ++ marked_text.print ((q, m), t)
shape_text q (desc.Pointer m t) = codes "pointer" ++ marked_text.print ((q, m), t)
shape_text q (desc.ProcType m s) = codes "proctype" ++ proctype_text.print ((q, m), s)
shape_text q (desc.Record r) = codes "record" ++ record_text.print ((q, (r.mark, r.base)), (r.fields, r.methods))

-- the descriptions that have a shape text
abbrev pub shape_fits : QName → Desc → Type 0
shape_fits q (desc.Const v) = const_text.fits (q, v)
shape_fits q (desc.Var m t) = var_text.fits ((q, m), t)
shape_fits q (desc.Proc s) = proc_text.fits (q, s)
shape_fits q (desc.Alias m t) = marked_text.fits ((q, m), t)
shape_fits q (desc.Array m n t) = array_text.fits ((q, (m, n)), t)
shape_fits q (desc.OpenArray m t) = marked_text.fits ((q, m), t)
shape_fits q (desc.Pointer m t) = marked_text.fits ((q, m), t)
shape_fits q (desc.ProcType m s) = proctype_text.fits ((q, m), s)
shape_fits q (desc.Record r) = record_text.fits ((q, (r.mark, r.base)), (r.fields, r.methods))

abbrev pub shape_at : List ℕ → Option (QName × Desc)
shape_at t = chosen_at 32 kinds shape_by t

-- ---- layouts

-- layout Q w n
abbrev pub layout : Word ((QName × ℕ) × ℕ)
layout = led (codes "layout") ((after 32 dotted ⊗ after 32 small) ▹ last 32 small)

-- the layout text of a record; nothing else has one
abbrev pub layout_text : QName → Desc → Option (List ℕ)
layout_text q (desc.Record r) = Some (layout.print ((q, r.words), r.procedures))
layout_text q d = None

abbrev pub layout_fits : QName → Desc → Type 0
layout_fits q (desc.Record r) = (r.words < 2 ^ 31) × (r.procedures < 2 ^ 31)
layout_fits q d = Unit {0}

-- ---- both texts

abbrev pub same_object : QName → QName → Bool
same_object a b = bytes_eq a.module b.module && bytes_eq a.object b.object

-- the shape's description with what the layout says
unfoldable pub joined : QName → Desc → Option (List ℕ) → Option (QName × Desc)
joined q (desc.Record r) (Some t) = layout.parse t >>= λ l. cond (same_object l.0.0 q) (Some (q, desc.Record (record r { words = l.0.1; procedures = l.1 }))) None
joined q (desc.Record r) None = None
joined q d (Some t) = None
joined q d None = Some (q, d)

unfoldable pub description_at : List ℕ → Option (List ℕ) → Option (QName × Desc)
description_at shape layout = do
  x ← shape_at shape
  joined x.0 x.1 layout

-- Its texts spell this description of this object.
pub record IsSpelled (q : QName) (d : Desc) : Type 0 where
  pub shape : shape_fits q d
  pub layout : layout_fits q d

-- what other modules see of a description: a record without its Hidden fields and bound procedures
abbrev pub seen : Desc → Desc
seen (desc.Record r) = desc.Record (record r { fields = filter (λ f. is_shown f.mark) r.fields; methods = filter (λ m. is_shown m.mark) r.methods })
seen d = d

-- the text of an aspect
abbrev pub text_of : QName → Desc → Aspect → Option (List ℕ)
text_of q d Shape = Some (shape_text q (seen d))
text_of q d Layout = layout_text q d
