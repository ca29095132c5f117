-- A value is assignable exactly where the tests say so.
use Rattle.std.proofs.Common.{◌≡◌, ℕ, suc, ◌<◌, Bool, true, false, not, ◌&&◌, List, [], ◌∷◌, length, Option, Some, None, refl, ap, subst, ◌∙◌, arith}
use Rattle.std.specs.Prelude.{ℤ, pos, negsuc, MatchOption, IsTrue, nat_lt, nat_eq, codes, bytes_eq}
use Rattle.std.specs.List.{AllByRecursion}
use Rattle.std.specs.Bool.{Decides}
use Rattle.std.specs.Cmp.Lexicographic.{bytes_decides}
use Rattle.std.proofs.lemmas.Bool.Decides.{Decides-and, Decides-not, Decides-ltb, Decides-eqb}
use Rattle.ob_tree.specs.declared.ident.Mark.{Mark}
use Rattle.ob_tree.specs.declared.names.QName.{QName}
use Rattle.ob_format.specs.Names.{is_identifier}
use Rattle.ob_types.specs.declared.types.Basic.{Basic}
use Rattle.ob_types.specs.declared.types.Basic.TheVariants as basic
use Rattle.ob_types.specs.declared.types.TypeRef.{TypeRef}
use Rattle.ob_types.specs.declared.types.TypeRef.TheVariants as ref
use Rattle.ob_types.specs.declared.types.Signature.{Signature}
use Rattle.ob_types.specs.declared.value.Value.{Value}
use Rattle.ob_types.specs.declared.value.Value.TheVariants as literal
use Rattle.ob_types.specs.declared.desc.Desc.{Desc}
use Rattle.ob_types.specs.declared.desc.Desc.TheVariants as desc
use Rattle.ob_types.specs.declared.typed.Width.{Width}
use Rattle.ob_types.specs.declared.typed.Width.TheVariants as width
use Rattle.ob_types.specs.declared.typed.ExprType.{ExprType}
use Rattle.ob_types.specs.declared.typed.ExprType.TheVariants as kind
use Rattle.ob_types.specs.Maps.{IsHeld, signature_types}
use Rattle.ob_types.specs.Relations.{StandsFor, Same, Matches, Extends, Is, is_open, IsGrounded}
use Rattle.ob_types.specs.Tests.{target, same_at, shape_at, signature_of, signatures_alike, equal_at, extends_at}
use Rattle.ob_types.specs.TypedSyntax.{Expr, Constant, ValueOf, ProcedureValue, Monadic, Dyadic, Logical, CompareTexts, IsPointer, IsRecord, Length, Call, CallVariable}
use Rattle.ob_types.specs.TypedKinds.{of_width, smallest, constant_type, type_of}
use Rattle.ob_types.specs.Assigning.{includes, characters, constant_value_type, value_type, is_extensible, has_nil, IsValue, Assignable, same_type, integers, extension, nil, procedure, string, IsTypeHeld}
use Rattle.ob_types.specs.AssigningTests.{described, is_at, widens, takes_type, takes_kind, has_room, takes_text, is_value, alike_to, takes_procedure, takes_constant, takes}
use Rattle.ob_types.proofs.Targets.{unique}
use Rattle.ob_types.proofs.Sameness.{at, same_decides}
use Rattle.ob_types.proofs.Climbs.{extends_sound, extends_complete, or_cases, or_left, or_right, shape_is}
use Rattle.ob_types.proofs.Equals.{calls, both_true, true_both, matches_sound, matches_complete}

-- ---- kinds of types

record Described (map : QName → Option Desc) (u : TypeRef) (kind : Desc → Bool) : Type 0 where
  q : QName
  is : u ≡ ref.Named q
  has : MatchOption (map q) ⊥ (λ d. IsTrue (kind d))

described_some : (kind : Desc → Bool) (o : Option Desc) → described kind o ≡ true → MatchOption o ⊥ (λ d. IsTrue (kind d))
described_some kind None e = absurd cc
described_some kind (Some d) e = e

some_described : (kind : Desc → Bool) (o : Option Desc) → MatchOption o ⊥ (λ d. IsTrue (kind d)) → described kind o ≡ true
some_described kind None h = absurd h
some_described kind (Some d) h = h

described_at : (map : QName → Option Desc) (kind : Desc → Bool) (u : TypeRef) → described kind (shape_at map u) ≡ true → Described map u kind
described_at map kind (ref.Basic b) e = absurd cc
described_at map kind (ref.Named q) e = record { q = q; is = refl; has = described_some kind (map q) e }

is_sound : (map : QName → Option Desc) → IsGrounded map → (kind : Desc → Bool) (t : TypeRef) → IsHeld map t → is_at map kind t ≡ true → Is map kind t
is_sound map grounded kind t held e =
    let x = described_at map kind (target map 201 t) e in
    (x.q, (subst (λ (u : TypeRef). StandsFor map t u) x.is (at map grounded t held).stands, x.has))

is_complete : (map : QName → Option Desc) → IsGrounded map → (kind : Desc → Bool) (t : TypeRef) → IsHeld map t → Is map kind t → is_at map kind t ≡ true
is_complete map grounded kind t held is =
    let one = unique map (at map grounded t held).stands is.1.0 in
    ap (λ (u : TypeRef). described kind (shape_at map u)) one ∙ some_described kind (map is.0) is.1.1

not_true : (b : Bool) → not b ≡ true → b ≡ true → ⊥
not_true true e h = absurd cc
not_true false e h = absurd cc

true_not : (b : Bool) → (b ≡ true → ⊥) → not b ≡ true
true_not true h = absurd (h refl)
true_not false h = refl

-- ---- integers

record Widens (u w : TypeRef) : Type 0 where
  a : Basic
  b : Basic
  narrow : u ≡ ref.Basic a
  wide : w ≡ ref.Basic b
  includes : IsTrue (includes b a)

widens_is : (w u : TypeRef) → widens w u ≡ true → Widens u w
widens_is (ref.Basic b) (ref.Basic a) e = record { a = a; b = b; narrow = refl; wide = refl; includes = e }
widens_is (ref.Basic b) (ref.Named q) e = absurd cc
widens_is (ref.Named q) u e = absurd cc

-- ---- a value of a type

fits_sound : (map : QName → Option Desc) → IsGrounded map → (v t : TypeRef) (e : Expr) → IsHeld map v → IsHeld map t → value_type e ≡ kind.Of t → takes_type map v t ≡ true → Assignable map v e
unfolding takes_type
fits_sound map grounded v t e hv ht is takes =
    or_cases (same_at map t v && not (is_at map is_open v)) _ takes (Assignable map v e)
    (λ one. let x = both_true (same_at map t v) (not (is_at map is_open v)) one in same_type is ((same_decides map grounded t v ht hv).0 x.0) (λ is_so. not_true (is_at map is_open v) x.1 (is_complete map grounded is_open v hv is_so)))
    (λ more. or_cases (widens (target map 201 v) (target map 201 t)) (is_at map is_extensible v && extends_at map t v) more (Assignable map v e)
    (λ two.
    let x = widens_is (target map 201 v) (target map 201 t) two in
    integers is (subst (λ (u : TypeRef). StandsFor map t u) x.narrow (at map grounded t ht).stands) (subst (λ (u : TypeRef). StandsFor map v u) x.wide (at map grounded v hv).stands) x.includes)
    (λ three. let x = both_true (is_at map is_extensible v) (extends_at map t v) three in extension is (is_sound map grounded is_extensible v hv x.0) (extends_sound map grounded t v ht hv x.1)))

fits_same : (map : QName → Option Desc) → IsGrounded map → (v t : TypeRef) → IsHeld map v → IsHeld map t → Same map t v → (Is map is_open v → ⊥) → takes_type map v t ≡ true
unfolding takes_type
fits_same map grounded v t hv ht s closed =
    or_left (same_at map t v && not (is_at map is_open v)) _ (true_both (same_at map t v) (not (is_at map is_open v)) ((same_decides map grounded t v ht hv).1 s) (true_not (is_at map is_open v) (λ e. closed (is_sound map grounded is_open v hv e))))

fits_integers : (map : QName → Option Desc) → IsGrounded map → (v t : TypeRef) (a b : Basic) → IsHeld map v → IsHeld map t → StandsFor map t (ref.Basic a) → StandsFor map v (ref.Basic b) → IsTrue (includes b a) → takes_type map v t ≡ true
unfolding takes_type
fits_integers map grounded v t a b hv ht st sv wide =
    let x = unique map (at map grounded t ht).stands st in
    let y = unique map (at map grounded v hv).stands sv in
    let w : widens (target map 201 v) (target map 201 t) ≡ true = ap (λ (u : TypeRef). widens u (target map 201 t)) y ∙ ap (λ (u : TypeRef). widens (ref.Basic b) u) x ∙ wide in
    or_right (same_at map t v && not (is_at map is_open v)) _ (or_left (widens (target map 201 v) (target map 201 t)) _ w)

fits_extension : (map : QName → Option Desc) → IsGrounded map → (v t : TypeRef) → IsHeld map v → IsHeld map t → Is map is_extensible v → Extends map t v → takes_type map v t ≡ true
unfolding takes_type
fits_extension map grounded v t hv ht is ext =
    or_right (same_at map t v && not (is_at map is_open v)) _ (or_right (widens (target map 201 v) (target map 201 t)) _ (true_both (is_at map is_extensible v) (extends_at map t v) (is_complete map grounded is_extensible v hv is) (extends_complete map grounded t v ht hv ext)))

kind_sound : (map : QName → Option Desc) → IsGrounded map → (v : TypeRef) (e : Expr) (k : ExprType) → IsHeld map v → IsTypeHeld map k → value_type e ≡ k → takes_kind map v k ≡ true → Assignable map v e
kind_sound map grounded v e (kind.Of t) hv hk is takes = fits_sound map grounded v t e hv hk is takes
kind_sound map grounded v e kind.Nil hv hk is takes = nil is (is_sound map grounded has_nil v hv takes)
kind_sound map grounded v e kind.Str hv hk is takes = absurd cc
kind_sound map grounded v e (kind.Procedure s) hv hk is takes = absurd cc
kind_sound map grounded v e kind.Nothing hv hk is takes = absurd cc

-- ---- strings

record Room (map : QName → Option Desc) (u : TypeRef) (k : ℕ) : Type 0 where
  q : QName
  m : Mark
  n : ℕ
  of : TypeRef
  is : u ≡ ref.Named q
  has : map q ≡ Some (desc.Array m n of)
  character : same_at map of (ref.Basic basic.Char) ≡ true
  less : k < n

room_desc : (map : QName → Option Desc) (q : QName) (k : ℕ) (o : Option Desc) → map q ≡ o → has_room map o k ≡ true → Room map (ref.Named q) k
room_desc map q k None e h = absurd cc
room_desc map q k (Some (desc.Array m n of)) e h =
    let x = both_true (nat_lt k n) (same_at map of (ref.Basic basic.Char)) h in
    record { q = q; m = m; n = n; of = of; is = refl; has = e; character = x.1; less = (Decides-ltb k n).0 x.0 }
room_desc map q k (Some (desc.Record r)) e h = absurd cc
room_desc map q k (Some (desc.Const v)) e h = absurd cc
room_desc map q k (Some (desc.Var m t)) e h = absurd cc
room_desc map q k (Some (desc.Proc s)) e h = absurd cc
room_desc map q k (Some (desc.Alias m t)) e h = absurd cc
room_desc map q k (Some (desc.OpenArray m t)) e h = absurd cc
room_desc map q k (Some (desc.Pointer m t)) e h = absurd cc
room_desc map q k (Some (desc.ProcType m s)) e h = absurd cc

room : (map : QName → Option Desc) (u : TypeRef) (k : ℕ) → has_room map (shape_at map u) k ≡ true → Room map u k
room map (ref.Basic b) k h = absurd cc
room map (ref.Named q) k h = room_desc map q k (map q) refl h

text_sound : (map : QName → Option Desc) → IsGrounded map → (v : TypeRef) (e : Expr) (c : Value) (l : List ℕ) → IsHeld map v → e ≡ Constant c → characters c ≡ Some l → takes_text map v (length l) ≡ true → Assignable map v e
unfolding takes_text
text_sound map grounded v e c l hv is spelled takes =
    let x = room map (target map 201 v) (length l) takes in
    let held = (grounded.held x.q (desc.Array x.m x.n x.of) x.has).0 in
    string is spelled (subst (λ (u : TypeRef). StandsFor map v u) x.is (at map grounded v hv).stands) x.has ((same_decides map grounded x.of (ref.Basic basic.Char) held tt).0 x.character) x.less

text_complete : (map : QName → Option Desc) → IsGrounded map → (v : TypeRef) (k : ℕ) (q : QName) (m : Mark) (n : ℕ) (of : TypeRef) → IsHeld map v → StandsFor map v (ref.Named q) → map q ≡ Some (desc.Array m n of) → Same map of (ref.Basic basic.Char) → k < n → takes_text map v k ≡ true
unfolding takes_text
text_complete map grounded v k q m n of hv stands has character less =
    let one = unique map (at map grounded v hv).stands stands in
    let held = (grounded.held q (desc.Array m n of) has).0 in
    let inside : (nat_lt k n && same_at map of (ref.Basic basic.Char)) ≡ true = true_both (nat_lt k n) (same_at map of (ref.Basic basic.Char)) ((Decides-ltb k n).1 less) ((same_decides map grounded of (ref.Basic basic.Char) held tt).1 character) in
    ap (λ (o : Option Desc). has_room map o k) (shape_is map (target map 201 v) q (desc.Array m n of) one has) ∙ inside

-- ---- procedures

value_decides : (name : QName) → Decides (is_value name) (IsValue name)
value_decides name = Decides-and (is_identifier name.object) (not (bytes_eq name.«module» (codes "Out"))) (λ e. e, λ e. e) (Decides-not (bytes_eq name.«module» (codes "Out")) (bytes_decides name.«module» (codes "Out")))

alike_some : (map : QName → Option Desc) (s : Signature) (o : Option Signature) → alike_to map s o ≡ true → (t : Signature) × ((o ≡ Some t) × (signatures_alike (λ x y. equal_at map 201 x y) (λ x y. same_at map x y) s t ≡ true))
alike_some map s None e = absurd cc
alike_some map s (Some t) e = (t, (refl, e))

procedure_sound : (map : QName → Option Desc) → IsGrounded map → (v : TypeRef) (e : Expr) (name : QName) (s : Signature) → IsHeld map v → AllByRecursion (λ t. IsHeld map t) (signature_types s) → e ≡ ProcedureValue name s → takes_procedure map v name s ≡ true → Assignable map v e
unfolding takes_procedure
procedure_sound map grounded v e name s hv hs is takes =
    let x = both_true (is_value name) (alike_to map s (signature_of (shape_at map (target map 201 v)))) takes in
    let y = alike_some map s (signature_of (shape_at map (target map 201 v))) x.1 in
    let z = calls map (target map 201 v) y.0 y.1.0 in
    let ht = grounded.held z.q (desc.ProcType z.m y.0) z.has in
    procedure is ((value_decides name).0 x.0) (subst (λ (u : TypeRef). StandsFor map v u) z.is (at map grounded v hv).stands) z.has (matches_sound map grounded s y.0 hs ht y.1.1)

procedure_complete : (map : QName → Option Desc) → IsGrounded map → (v : TypeRef) (name : QName) (s t : Signature) (q : QName) (m : Mark) → IsHeld map v → AllByRecursion (λ t. IsHeld map t) (signature_types s) → IsValue name → StandsFor map v (ref.Named q) → map q ≡ Some (desc.ProcType m t) → Matches map s t → takes_procedure map v name s ≡ true
unfolding takes_procedure
procedure_complete map grounded v name s t q m hv hs value stands has matches =
    let one = unique map (at map grounded v hv).stands stands in
    let ht = grounded.held q (desc.ProcType m t) has in
    let found : signature_of (shape_at map (target map 201 v)) ≡ Some t = ap signature_of (shape_is map (target map 201 v) q (desc.ProcType m t) one has) in
    true_both (is_value name) (alike_to map s (signature_of (shape_at map (target map 201 v)))) ((value_decides name).1 value) (ap (λ (o : Option Signature). alike_to map s o) found ∙ matches_complete map grounded s t hs ht matches)

-- ---- all values

some_list : (a b : List ℕ) → Some a ≡ Some b → a ≡ b
some_list a b e = cc

width_held : (map : QName → Option Desc) (w : Width) → IsTypeHeld map (of_width w)
width_held map width.ShortInt = tt
width_held map width.Integer = tt
width_held map width.LongInt = tt

integer_held : (map : QName → Option Desc) (n : ℤ) → IsTypeHeld map (constant_type (literal.Int n))
integer_held map (pos n) = width_held map (smallest n)
integer_held map (negsuc n) = width_held map (smallest n)

one_character : (text : List ℕ) → nat_eq (length text) 1 ≡ true → (c : ℕ) × (text ≡ c ∷ [])
one_character [] e = absurd cc
one_character (c ∷ []) e = (c, refl)
one_character (c ∷ (d ∷ text)) e = absurd (let bad : suc (suc (length text)) ≡ 1 = (Decides-eqb (suc (suc (length text))) 1).0 e in omega arith)

constant_sound : (map : QName → Option Desc) → IsGrounded map → (v : TypeRef) (c : Value) → IsHeld map v → takes_constant map v c ≡ true → Assignable map v (Constant c)
constant_sound map grounded v (literal.Str text) hv takes =
    or_cases (takes_text map v (length text)) (nat_eq (length text) 1 && takes_type map v (ref.Basic basic.Char)) takes (Assignable map v (Constant (literal.Str text)))
    (λ one. text_sound map grounded v (Constant (literal.Str text)) (literal.Str text) text hv refl refl one)
    (λ two.
    let x = both_true (nat_eq (length text) 1) (takes_type map v (ref.Basic basic.Char)) two in
    let y = one_character text x.0 in
    fits_sound map grounded v (ref.Basic basic.Char) (Constant (literal.Str text)) hv tt (ap (λ (l : List ℕ). constant_value_type (literal.Str l)) y.1) x.1)
constant_sound map grounded v (literal.Char c) hv takes =
    or_cases (takes_text map v 1) (takes_type map v (ref.Basic basic.Char)) takes (Assignable map v (Constant (literal.Char c)))
    (λ one. text_sound map grounded v (Constant (literal.Char c)) (literal.Char c) (c ∷ []) hv refl refl one)
    (λ two. fits_sound map grounded v (ref.Basic basic.Char) (Constant (literal.Char c)) hv tt refl two)
constant_sound map grounded v (literal.Bool b) hv takes = fits_sound map grounded v (ref.Basic basic.Boolean) (Constant (literal.Bool b)) hv tt refl takes
constant_sound map grounded v (literal.Int n) hv takes = kind_sound map grounded v (Constant (literal.Int n)) (constant_type (literal.Int n)) hv (integer_held map n) refl takes
constant_sound map grounded v (literal.Set n) hv takes = fits_sound map grounded v (ref.Basic basic.Set) (Constant (literal.Set n)) hv tt refl takes
constant_sound map grounded v literal.Nil hv takes = nil refl (is_sound map grounded has_nil v hv takes)

pub takes_sound : (map : QName → Option Desc) → IsGrounded map → (v : TypeRef) (e : Expr) → IsHeld map v → IsTypeHeld map (type_of e) → takes map v e ≡ true → Assignable map v e
takes_sound map grounded v (Constant c) hv he takes = constant_sound map grounded v c hv takes
takes_sound map grounded v (ProcedureValue name s) hv he takes = procedure_sound map grounded v (ProcedureValue name s) name s hv he refl takes
takes_sound map grounded v (ValueOf d) hv he takes = kind_sound map grounded v (ValueOf d) (type_of (ValueOf d)) hv he refl takes
takes_sound map grounded v (Monadic op x at) hv he takes = kind_sound map grounded v (Monadic op x at) (type_of (Monadic op x at)) hv he refl takes
takes_sound map grounded v (Dyadic op x y at) hv he takes = kind_sound map grounded v (Dyadic op x y at) (type_of (Dyadic op x y at)) hv he refl takes
takes_sound map grounded v (Logical op x y) hv he takes = kind_sound map grounded v (Logical op x y) (type_of (Logical op x y)) hv he refl takes
takes_sound map grounded v (CompareTexts r x y at) hv he takes = kind_sound map grounded v (CompareTexts r x y at) (type_of (CompareTexts r x y at)) hv he refl takes
takes_sound map grounded v (IsPointer x q) hv he takes = kind_sound map grounded v (IsPointer x q) (type_of (IsPointer x q)) hv he refl takes
takes_sound map grounded v (IsRecord d q) hv he takes = kind_sound map grounded v (IsRecord d q) (type_of (IsRecord d q)) hv he refl takes
takes_sound map grounded v (Length d) hv he takes = kind_sound map grounded v (Length d) (type_of (Length d)) hv he refl takes
takes_sound map grounded v (Call callee es at t) hv he takes = kind_sound map grounded v (Call callee es at t) (type_of (Call callee es at t)) hv he refl takes
takes_sound map grounded v (CallVariable d es at t) hv he takes = kind_sound map grounded v (CallVariable d es at t) (type_of (CallVariable d es at t)) hv he refl takes

value_held : (map : QName → Option Desc) (e : Expr) → IsTypeHeld map (type_of e) → IsTypeHeld map (value_type e)
value_held map (Constant (literal.Str [])) h = tt
value_held map (Constant (literal.Str (c ∷ []))) h = tt
value_held map (Constant (literal.Str (c ∷ (d ∷ l)))) h = tt
value_held map (Constant (literal.Char c)) h = h
value_held map (Constant (literal.Bool b)) h = h
value_held map (Constant (literal.Int n)) h = h
value_held map (Constant (literal.Set n)) h = h
value_held map (Constant literal.Nil) h = h
value_held map (ProcedureValue name s) h = h
value_held map (ValueOf d) h = h
value_held map (Monadic op x at) h = h
value_held map (Dyadic op x y at) h = h
value_held map (Logical op x y) h = h
value_held map (CompareTexts r x y at) h = h
value_held map (IsPointer x q) h = h
value_held map (IsRecord d q) h = h
value_held map (Length d) h = h
value_held map (Call callee es at t) h = h
value_held map (CallVariable d es at t) h = h

kind_takes : (map : QName → Option Desc) (v : TypeRef) (e : Expr) → takes_kind map v (value_type e) ≡ true → takes map v e ≡ true
kind_takes map v (Constant (literal.Str [])) h = absurd cc
kind_takes map v (Constant (literal.Str (c ∷ []))) h = or_right (takes_text map v 1) _ h
kind_takes map v (Constant (literal.Str (c ∷ (d ∷ l)))) h = absurd cc
kind_takes map v (Constant (literal.Char c)) h = or_right (takes_text map v 1) _ h
kind_takes map v (Constant (literal.Bool b)) h = h
kind_takes map v (Constant (literal.Int n)) h = h
kind_takes map v (Constant (literal.Set n)) h = h
kind_takes map v (Constant literal.Nil) h = h
kind_takes map v (ProcedureValue name s) h = absurd cc
kind_takes map v (ValueOf d) h = h
kind_takes map v (Monadic op x at) h = h
kind_takes map v (Dyadic op x y at) h = h
kind_takes map v (Logical op x y) h = h
kind_takes map v (CompareTexts r x y at) h = h
kind_takes map v (IsPointer x q) h = h
kind_takes map v (IsRecord d q) h = h
kind_takes map v (Length d) h = h
kind_takes map v (Call callee es at t) h = h
kind_takes map v (CallVariable d es at t) h = h

of_value : (map : QName → Option Desc) (v : TypeRef) (e : Expr) (k : ExprType) → value_type e ≡ k → takes_kind map v k ≡ true → takes map v e ≡ true
of_value map v e k is h = kind_takes map v e (ap (λ (x : ExprType). takes_kind map v x) is ∙ h)

text_takes : (map : QName → Option Desc) (v : TypeRef) (c : Value) (l : List ℕ) → characters c ≡ Some l → takes_text map v (length l) ≡ true → takes_constant map v c ≡ true
text_takes map v (literal.Str text) l is h = or_left (takes_text map v (length text)) _ (ap (λ (x : List ℕ). takes_text map v (length x)) (some_list text l is) ∙ h)
text_takes map v (literal.Char c) l is h = or_left (takes_text map v 1) _ (ap (λ (x : List ℕ). takes_text map v (length x)) (some_list (c ∷ []) l is) ∙ h)
text_takes map v (literal.Bool b) l is h = absurd cc
text_takes map v (literal.Int n) l is h = absurd cc
text_takes map v (literal.Set n) l is h = absurd cc
text_takes map v literal.Nil l is h = absurd cc

pub takes_complete : (map : QName → Option Desc) → IsGrounded map → (v : TypeRef) (e : Expr) → IsHeld map v → IsTypeHeld map (type_of e) → Assignable map v e → takes map v e ≡ true
takes_complete map grounded v e hv he (same_type {t = t} is s closed) =
    let ht = subst (λ (k : ExprType). IsTypeHeld map k) is (value_held map e he) in
    of_value map v e (kind.Of t) is (fits_same map grounded v t hv ht s closed)
takes_complete map grounded v e hv he (integers {t = t} {a = a} {b = b} is st sv wide) =
    let ht = subst (λ (k : ExprType). IsTypeHeld map k) is (value_held map e he) in
    of_value map v e (kind.Of t) is (fits_integers map grounded v t a b hv ht st sv wide)
takes_complete map grounded v e hv he (extension {t = t} is record_or_pointer extends) =
    let ht = subst (λ (k : ExprType). IsTypeHeld map k) is (value_held map e he) in
    of_value map v e (kind.Of t) is (fits_extension map grounded v t hv ht record_or_pointer extends)
takes_complete map grounded v e hv he (nil is taken) = of_value map v e kind.Nil is (is_complete map grounded has_nil v hv taken)
takes_complete map grounded v e hv he (procedure {name = name} {s = s} {t = t} {q = q} {m = m} is value stands has matches) =
    let hs = subst (λ (x : Expr). IsTypeHeld map (type_of x)) is he in
    ap (λ (x : Expr). takes map v x) is ∙ procedure_complete map grounded v name s t q m hv hs value stands has matches
takes_complete map grounded v e hv he (string {c = c} {text = text} {q = q} {m = m} {n = n} {of = of} is spelled stands has character less) =
    ap (λ (x : Expr). takes map v x) is ∙ text_takes map v c text spelled (text_complete map grounded v (length text) q m n of hv stands has character less)
