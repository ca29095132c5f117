-- Each word of the grammar is exact.
use Rattle.std.proofs.Common.{◌≡◌, ◌≢◌, ℕ, suc, ◌^◌, ◌<◌, ◌≤◌, ◌+◌, ◌*◌, ◌-◌, ◌/◌, ◌%◌, Bool, true, false, cond, not, ◌&&◌, ◌||◌, ltb, eqb, List, [], ◌∷◌, ◌++◌, length, drop, Option, Some, None, refl, sym, ap, subst, ◌∙◌, arith}
use Rattle.std.specs.Char.{digit_value}
use Rattle.std.specs.Str.Parse.{AllDigits}
use Rattle.std.proofs.lemmas.Fmt.{decimal_is_IsNumeral}
use Rattle.std.specs.Prelude.{ℤ, pos, negsuc, decimal, IfSome, codes, bytes_eq, IsTrue, FitsSigned}
use Rattle.std.specs.Bool.{Decides}
use Rattle.std.specs.Int.{w32, cast_signed, cast_unsigned}
use Rattle.std.specs.Fmt.{signed_decimal}
use Rattle.std.proofs.lemmas.Int.{ints, to_z-of_z, of_z-to_z}
use Rattle.std.specs.List.{list_all, flat_map, AllByRecursion}
use Rattle.std.specs.List.Sorted.{IsStrictlySortedBy}
use Rattle.std.proofs.lemmas.Cmp.{nat_list_cmp_total, nat_cmp_total, on_total, then_total}
use Rattle.std.specs.Char.{is_ascii_alphabetic, is_ascii_alphanumeric}
use Rattle.std.specs.Cmp.Lexicographic.{bytes_decides}
use Rattle.std.proofs.lemmas.Bool.{eqb-true, lt-ltb, ltb-true, ltb-false}
use Rattle.std.proofs.lemmas.Bool.Decides.{Decides-and, Decides-ltb, Decides-eqb, Decides-not, nat_tests}
use Rattle.std.proofs.lemmas.Option.{cond_some}
use Rattle.std.proofs.lemmas.List.{append-nil}
use Rattle.std.proofs.lemmas.List.Concat.{flat_map-cons}
use Rattle.ob_format.specs.Format.{◌>>=◌}
use Rattle.ob_format.specs.Exact.{bind_some, some_is, cond_then, rises_decides}
use Rattle.ob_format.specs.Order.{rises}
use Rattle.ob_format.specs.Names.{is_letters, is_identifier, is_object, is_object_byte}
use Rattle.ob_format.specs.Words.{front, back, IsWord, IsFree, IsClear, after, after_at, IsEnd, IsText, all_at, signed, identifier}
use Rattle.ob_format.specs.WordLaws.{signed_word, numeral_word, identifier_word, then_word, Opens, all_opens, front-back, front_whole, back_whole, after_text, pair_text, made_text, IsLong, lead_text, all_found, all_again}
use Rattle.ob_tree.specs.declared.names.QName.{QName}
use Rattle.ob_types.specs.declared.types.Basic.{Basic}
use Rattle.ob_types.specs.declared.types.Basic.TheVariants.{Boolean, Char, ShortInt, Integer, LongInt, Set}
use Rattle.ob_types.specs.declared.types.TypeRef.{TypeRef}
use Rattle.ob_types.specs.declared.types.TypeRef.TheVariants as types
use Rattle.ob_tree.specs.declared.ident.Mark.{Mark}
use Rattle.ob_tree.specs.declared.ident.Mark.TheVariants.{Full, ReadOnly, Hidden}
use Rattle.ob_types.specs.declared.types.Mode.{Mode}
use Rattle.ob_types.specs.declared.types.Mode.TheVariants.{Value as ByValue, Var}
use Rattle.ob_types.specs.declared.types.Signature.{Signature}
use Rattle.ob_types.specs.declared.value.Value.{Value}
use Rattle.ob_types.specs.declared.value.Value.TheVariants as value
use Rattle.ob_types.specs.declared.desc.Desc.{Desc}
use Rattle.ob_types.specs.declared.desc.Desc.TheVariants as desc
use Rattle.ob_types.specs.declared.desc.Field.{Field}
use Rattle.ob_types.specs.declared.desc.Method.{Method}
use Rattle.ob_types.specs.declared.desc.Receiver.{Receiver}
use Rattle.ob_types.specs.declared.desc.Receiver.TheVariants as receiver
use Rattle.ob_desc.specs.Forms.{lookup, last, run_at}
use Rattle.ob_desc.specs.FormLaws.{found_in, last_word, led_word, kept_word, where_text, chosen_found, keyed, run_found, run_opens, run_again}
use Rattle.ob_desc.specs.declared.kind.Kind.{Kind}
use Rattle.ob_desc.specs.declared.kind.Kind.TheVariants as kind
use Rattle.ob_desc.specs.declared.kind.ConstKind.{ConstKind}
use Rattle.ob_desc.specs.declared.kind.ConstKind.TheVariants as const
use Rattle.ob_desc.specs.Grammar.{small, count, object_at, dotted_at, dotted, dotted_identifier, basics, basic_name, type_at, type_print, type_fits, type_name, base_at, base_print, base, marks, mark_name, mark, is_shown, shown_mark, mode_at, mode_byte, param_at, param, params_at, params_print, result_at, signature_at, signature, truths, truth_name, truth, character, size_kind, int_kind, set_word, hex_value, hex_digit, hex_at, hex_print, IsByte, quoted_at, quoted, string, const_kinds, const_name, int_at, const_by, value_print, value_fits, constant, field, receivers, receiver_name, receiver_word, method, begins_field, by_place, by_number, members_at, members, const_text, var_text, proc_text, marked_text, array_text, proctype_text, record_text, kinds, bare_record, shape_by, shape_text, shape_fits, shape_at, layout, layout_text, layout_fits, same_object, joined, description_at, IsSpelled}

-- ---- numbers

self-decides : (b : Bool) → Decides b (IsTrue b)
self-decides b = (λ e. e, λ e. e)

pub small_word : IsWord small
small_word = kept_word (λ n. ltb n (2 ^ 31)) (λ n. n < 2 ^ 31) (λ n. Decides-ltb n (2 ^ 31)) numeral_word

pub count_word : IsWord count
count_word = kept_word (λ n. ltb 0 n) (λ n. 0 < n) (λ n. Decides-ltb 0 n) small_word

digit_apart32 : (c : ℕ) → digit_value c < 10 → eqb c 32 ≡ false
digit_apart32 c lt = grind (arith, nat_tests)

digits_free : (t : List ℕ) → AllDigits 10 t → IsFree 32 t
digits_free [] all = tt
digits_free (c ∷ cs) all = (digit_apart32 c all.0, digits_free cs all.1)

small_clear : IsClear 32 small
small_clear n fits = digits_free (decimal n) (decimal_is_IsNumeral n (omega arith)).0.1

count_clear : IsClear 32 count
count_clear n fits = small_clear n fits.0

-- ---- bytes apart from those of names

and_parts : (a b : Bool) → (a && b) ≡ true → (a ≡ true) × (b ≡ true)
and_parts true b e = (refl, e)
and_parts false b e = absurd cc

apart : (p : ℕ → Bool) (b c : ℕ) → p b ≡ true → p c ≡ false → eqb b c ≡ false
apart p b c holds fails = elim (eqb b c) as (λ v. eqb b c ≡ v → v ≡ false) [
  | true ↦ λ e. let same : b ≡ c = eqb-true _ _ e in absurd (let both : true ≡ false = sym holds ∙ ap p same ∙ fails in cc)
  | false ↦ λ _. refl
] refl

free_of : (p : ℕ → Bool) (c : ℕ) → p c ≡ false → (t : List ℕ) → list_all p t ≡ true → IsFree c t
free_of p c not_p [] all = tt
free_of p c not_p (b ∷ bs) all =
    let parts = and_parts (p b) (list_all p bs) all in
    (apart p b c parts.0 not_p, free_of p c not_p bs parts.1)

or_true : (a b : Bool) → a ≡ true → (a || b) ≡ true
or_true true b e = refl
or_true false b e = absurd cc

letter_is : (c : ℕ) → is_ascii_alphabetic c ≡ true → is_ascii_alphanumeric c ≡ true
letter_is c e = grind (arith, nat_tests)

letters_free : (c : ℕ) → is_ascii_alphanumeric c ≡ false → (t : List ℕ) → is_letters t ≡ true → IsFree c t
letters_free c fails [] e = absurd cc
letters_free c fails (b ∷ bs) e =
    let parts = and_parts (is_ascii_alphabetic b) (list_all is_ascii_alphanumeric bs) e in
    (apart is_ascii_alphanumeric b c (letter_is b parts.0) fails, free_of is_ascii_alphanumeric c fails bs parts.1)

identifier_free : (c : ℕ) → is_ascii_alphanumeric c ≡ false → (t : List ℕ) → is_identifier t ≡ true → IsFree c t
identifier_free c fails t e = letters_free c fails t (and_parts (is_letters t) _ e).0

object_free : (c : ℕ) → is_object_byte c ≡ false → (t : List ℕ) → is_object t ≡ true → IsFree c t
object_free c fails [] e = absurd cc
object_free c fails (b ∷ bs) e =
    let parts = and_parts (is_ascii_alphabetic b) (list_all is_object_byte bs) e in
    (apart is_object_byte b c (or_true (is_ascii_alphanumeric b) _ (letter_is b parts.0)) fails, free_of is_object_byte c fails bs parts.1)

IsFree-append : (c : ℕ) (a b : List ℕ) → IsFree c a → IsFree c b → IsFree c (a ++ b)
IsFree-append c [] b x y = y
IsFree-append c (h ∷ a) b x y = (x.0, IsFree-append c a b x.1 y)

identifier_clear : IsClear 32 identifier
identifier_clear t fits = identifier_free 32 refl t fits

-- ---- names with a dot

back_begins : (c : ℕ) (t : List ℕ) (b : ℕ) (bs : List ℕ) → back c t ≡ b ∷ bs → b ≡ c
back_begins c [] b bs e = absurd cc
back_begins c (x ∷ xs) b bs e = elim (eqb x c) as (λ v. eqb x c ≡ v → cond v (x ∷ xs) (back c xs) ≡ b ∷ bs → b ≡ c) [
  | true ↦ λ is e. let same : x ≡ c = eqb-true _ _ is in cc
  | false ↦ λ _ e. back_begins c xs b bs e
] refl e

object_found : (m r : List ℕ) (q : QName) → ((b : ℕ) (bs : List ℕ) → r ≡ b ∷ bs → b ≡ 46) → object_at m r ≡ Some q → (q.module ++ 46 ∷ q.object ≡ m ++ r) × (q.module ≡ m) × (is_object q.object ≡ true)
unfolding object_at
object_found m [] q begins e = absurd cc
object_found m (dot ∷ o) q begins e =
    let g = cond_some (is_object o) (record { «module» = m; object = o }) q e in
    let is : dot ≡ 46 = begins dot o refl in
    subst (λ (z : QName). (z.module ++ 46 ∷ z.object ≡ m ++ dot ∷ o) × (z.module ≡ m) × (is_object z.object ≡ true)) g.1 (rw is refl, refl, g.0)

dotted_found : (t : List ℕ) (q : QName) → dotted_at t ≡ Some q → (q.module ++ 46 ∷ q.object ≡ t) × (IsTrue (is_identifier q.module) × IsTrue (is_object q.object))
unfolding dotted_at
dotted_found t q e =
    let g = cond_then (is_identifier (front 46 t)) (object_at (front 46 t) (back 46 t)) q e in
    let o = object_found (front 46 t) (back 46 t) q (λ b bs is. back_begins 46 t b bs is) g.1 in
    (o.0 ∙ sym (front-back 46 t), (subst (λ (l : List ℕ). is_identifier l ≡ true) (sym o.1) g.0, o.2))

dot_back : (m o : List ℕ) → is_identifier m ≡ true → back 46 (m ++ 46 ∷ o) ≡ 46 ∷ o
dot_back m o e = back_whole 46 m (46 ∷ o) (identifier_free 46 refl m e)

dotted_again : (q : QName) → IsTrue (is_identifier q.module) × IsTrue (is_object q.object) → dotted_at (q.module ++ 46 ∷ q.object) ≡ Some q
unfolding dotted_at object_at
dotted_again q fits =
    let f : front 46 (q.module ++ 46 ∷ q.object) ≡ q.module = front_whole 46 q.module (46 ∷ q.object) (identifier_free 46 refl q.module fits.0) ∙ append-nil q.module in
    rw (f, dot_back q.module q.object fits.0, fits.0, fits.1) refl

pub dotted_word : IsWord dotted
dotted_word = record { found = dotted_found; again = dotted_again }

dotted_clear : IsClear 32 dotted
dotted_clear q fits = IsFree-append 32 q.module (46 ∷ q.object) (identifier_free 32 refl q.module fits.0) (refl, object_free 32 refl q.object fits.1)

dotted_text : IsText 32 (after 32 dotted)
dotted_text = after_text dotted_word dotted_clear

dotted_identifier_text : IsText 32 (after 32 dotted_identifier)
dotted_identifier_text = after_text (kept_word (λ q. is_identifier q.object) (λ q. IsTrue (is_identifier q.object)) (λ q. self-decides (is_identifier q.object)) dotted_word) (λ q fits. dotted_clear q fits.0)

-- ---- types

basic_again : (b : Basic) → lookup basics (basic_name b) ≡ Some b
basic_again Boolean = refl
basic_again Char = refl
basic_again ShortInt = refl
basic_again Integer = refl
basic_again LongInt = refl
basic_again Set = refl

-- no byte of a basic type's name is c
IsPlain : ℕ → Type 0
IsPlain c = (b : Basic) → IsFree c (basic_name b)

plain32 : (b : Basic) → IsFree 32 (basic_name b)
plain32 Boolean = (refl, (refl, (refl, (refl, (refl, (refl, (refl, tt)))))))
plain32 Char = (refl, (refl, (refl, (refl, tt))))
plain32 ShortInt = (refl, (refl, (refl, (refl, (refl, (refl, (refl, (refl, tt))))))))
plain32 Integer = (refl, (refl, (refl, (refl, (refl, (refl, (refl, tt)))))))
plain32 LongInt = (refl, (refl, (refl, (refl, (refl, (refl, (refl, tt)))))))
plain32 Set = (refl, (refl, (refl, tt)))

plain44 : (b : Basic) → IsFree 44 (basic_name b)
plain44 Boolean = (refl, (refl, (refl, (refl, (refl, (refl, (refl, tt)))))))
plain44 Char = (refl, (refl, (refl, (refl, tt))))
plain44 ShortInt = (refl, (refl, (refl, (refl, (refl, (refl, (refl, (refl, tt))))))))
plain44 Integer = (refl, (refl, (refl, (refl, (refl, (refl, (refl, tt)))))))
plain44 LongInt = (refl, (refl, (refl, (refl, (refl, (refl, (refl, tt)))))))
plain44 Set = (refl, (refl, (refl, tt)))

plain41 : (b : Basic) → IsFree 41 (basic_name b)
plain41 Boolean = (refl, (refl, (refl, (refl, (refl, (refl, (refl, tt)))))))
plain41 Char = (refl, (refl, (refl, (refl, tt))))
plain41 ShortInt = (refl, (refl, (refl, (refl, (refl, (refl, (refl, (refl, tt))))))))
plain41 Integer = (refl, (refl, (refl, (refl, (refl, (refl, (refl, tt)))))))
plain41 LongInt = (refl, (refl, (refl, (refl, (refl, (refl, (refl, tt)))))))
plain41 Set = (refl, (refl, (refl, tt)))

type_found : (t : List ℕ) (n : TypeRef) → type_at t ≡ Some n → (type_print n ≡ t) × type_fits n
unfolding type_at
type_found t n e =
    elim (ltb 0 (length (back 46 t))) as (λ v. cond v (dotted_at t >>= λ q. Some (types.Named q)) (lookup basics t >>= λ b. Some (types.Basic b)) ≡ Some n → (type_print n ≡ t) × type_fits n) [
      | true ↦ λ e. let q = bind_some (dotted_at t) (λ q. Some (types.Named q)) n e in
          subst (λ (z : TypeRef). (type_print z ≡ t) × type_fits z) (some_is (types.Named q.0) n q.2) (dotted_found t q.0 q.1)
      | false ↦ λ e. let b = bind_some (lookup basics t) (λ b. Some (types.Basic b)) n e in
          subst (λ (z : TypeRef). (type_print z ≡ t) × type_fits z) (some_is (types.Basic b.0) n b.2) (found_in basics basic_name (refl, (refl, (refl, (refl, (refl, (refl, tt)))))) t b.0 b.1, tt)
    ] e

type_again : (n : TypeRef) → type_fits n → type_at (type_print n) ≡ Some n
unfolding type_at
type_again (types.Basic Boolean) fits = refl
type_again (types.Basic Char) fits = refl
type_again (types.Basic ShortInt) fits = refl
type_again (types.Basic Integer) fits = refl
type_again (types.Basic LongInt) fits = refl
type_again (types.Basic Set) fits = refl
type_again (types.Named q) fits =
    let long : ltb 0 (length (back 46 (q.module ++ 46 ∷ q.object))) ≡ true = lt-ltb _ _ (rw (dot_back q.module q.object fits.0) (omega arith)) in
    rw (long, dotted_again q fits) refl

pub type_word : IsWord type_name
type_word = record { found = type_found; again = type_again }

type_clear : (c : ℕ) → eqb 46 c ≡ false → is_ascii_alphanumeric c ≡ false → is_object_byte c ≡ false → ((b : Basic) → IsFree c (basic_name b)) → IsClear c type_name
type_clear c dot alnum obj plain (types.Basic b) fits = plain b
type_clear c dot alnum obj plain (types.Named q) fits = IsFree-append c q.module (46 ∷ q.object) (identifier_free c alnum q.module fits.0) (dot, object_free c obj q.object fits.1)

type_clear32 : IsClear 32 type_name
type_clear32 = type_clear 32 refl refl refl plain32

type_clear44 : IsClear 44 type_name
type_clear44 = type_clear 44 refl refl refl plain44

type_clear41 : IsClear 41 type_name
type_clear41 = type_clear 41 refl refl refl plain41

-- ---- NONE, or a type

not_none : (n : TypeRef) → type_fits n → bytes_eq (type_print n) (codes "NONE") ≡ false
not_none (types.Basic Boolean) fits = refl
not_none (types.Basic Char) fits = refl
not_none (types.Basic ShortInt) fits = refl
not_none (types.Basic Integer) fits = refl
not_none (types.Basic LongInt) fits = refl
not_none (types.Basic Set) fits = refl
not_none (types.Named q) fits =
    elim (bytes_eq (q.module ++ 46 ∷ q.object) (codes "NONE")) as (λ v. bytes_eq (q.module ++ 46 ∷ q.object) (codes "NONE") ≡ v → v ≡ false) [
      | true ↦ λ is. let same = (bytes_decides (q.module ++ 46 ∷ q.object) (codes "NONE")).0 is in
          let dot : 46 ∷ q.object ≡ [] = sym (dot_back q.module q.object fits.0) ∙ ap (back 46) same in absurd cc
      | false ↦ λ _. refl
    ] refl

base_found : (t : List ℕ) (o : Option TypeRef) → base_at t ≡ Some o → (base_print o ≡ t) × IfSome o type_fits
unfolding base_at
base_found t o e =
    elim (bytes_eq t (codes "NONE")) as (λ v. bytes_eq t (codes "NONE") ≡ v → cond v (Some None) (type_at t >>= λ n. Some (Some n)) ≡ Some o → (base_print o ≡ t) × IfSome o type_fits) [
      | true ↦ λ is e. let same = (bytes_decides t (codes "NONE")).0 is in
          subst (λ (z : Option TypeRef). (base_print z ≡ t) × IfSome z type_fits) (some_is None o e) (sym same, tt)
      | false ↦ λ _ e. let n = bind_some (type_at t) (λ n. Some (Some n)) o e in
          subst (λ (z : Option TypeRef). (base_print z ≡ t) × IfSome z type_fits) (some_is (Some n.0) o n.2) (type_found t n.0 n.1)
    ] refl e

base_again : (o : Option TypeRef) → IfSome o type_fits → base_at (base_print o) ≡ Some o
unfolding base_at
base_again None fits = refl
base_again (Some n) fits = rw (not_none n fits, type_again n fits) refl

pub base_word : IsWord base
base_word = record { found = base_found; again = base_again }

base_clear : IsClear 32 base
base_clear None fits = (refl, (refl, (refl, (refl, tt))))
base_clear (Some n) fits = type_clear32 n fits

-- ---- marks

mark_again : (m : Mark) → lookup marks (mark_name m) ≡ Some m
mark_again Full = refl
mark_again ReadOnly = refl
mark_again Hidden = refl

pub mark_word : IsWord mark
mark_word = record { found = λ t m e. (found_in marks mark_name (refl, (refl, (refl, tt))) t m e, tt); again = λ m _. mark_again m }

mark_clear : IsClear 32 mark
mark_clear Full fits = (refl, tt)
mark_clear ReadOnly fits = (refl, tt)
mark_clear Hidden fits = (refl, tt)

mark_text : IsText 32 (after 32 mark)
mark_text = after_text mark_word mark_clear

shown_text : IsText 32 (after 32 shown_mark)
shown_text = after_text (kept_word is_shown (λ m. IsTrue (is_shown m)) (λ m. self-decides (is_shown m)) mark_word) (λ m fits. mark_clear m fits.0)

-- ---- parameters

mode_found : (c : ℕ) (m : Mode) → mode_at c ≡ Some m → mode_byte m ≡ c
mode_found c m e =
    elim (eqb c 61) as (λ v. eqb c 61 ≡ v → cond v (Some ByValue) (cond (eqb c 38) (Some Var) None) ≡ Some m → mode_byte m ≡ c) [
      | true ↦ λ is e. let one = some_is ByValue m e in rw (← one, eqb-true _ _ is) refl
      | false ↦ λ _ e. let g = cond_some (eqb c 38) Var m e in rw (← g.1, eqb-true _ _ g.0) refl
    ] refl e

mode_again : (m : Mode) → mode_at (mode_byte m) ≡ Some m
mode_again ByValue = refl
mode_again Var = refl

param_found : (t : List ℕ) (p : Mode × TypeRef) → param_at t ≡ Some p → (mode_byte p.0 ∷ type_print p.1 ≡ t) × type_fits p.1
unfolding param_at
param_found [] p e = absurd cc
param_found (c ∷ t) p e =
    let m = bind_some (mode_at c) (λ m. type_at t >>= λ n. Some (m, n)) p e in
    let n = bind_some (type_at t) (λ n. Some (m.0, n)) p m.2 in
    let made : Mode × TypeRef = (m.0, n.0) in
    let u = type_found t n.0 n.1 in
    let whole : mode_byte m.0 ∷ type_print n.0 ≡ c ∷ t = cc (mode_found c m.0 m.1, u.0) in
    subst (λ (z : Mode × TypeRef). (mode_byte z.0 ∷ type_print z.1 ≡ c ∷ t) × type_fits z.1) (some_is made p n.2) (whole, u.1)

param_again : (p : Mode × TypeRef) → type_fits p.1 → param_at (mode_byte p.0 ∷ type_print p.1) ≡ Some p
unfolding param_at
param_again p fits = rw (mode_again p.0, type_again p.1 fits) refl

pub param_word : IsWord param
param_word = record { found = param_found; again = param_again }

mode_apart : (c : ℕ) → eqb 61 c ≡ false → eqb 38 c ≡ false → (m : Mode) → eqb (mode_byte m) c ≡ false
mode_apart c a b ByValue = a
mode_apart c a b Var = b

param_clear : (c : ℕ) → eqb 61 c ≡ false → eqb 38 c ≡ false → IsClear c type_name → IsClear c param
param_clear c a b clear p fits = (mode_apart c a b p.0, clear p.1 fits)

param_text : IsText 44 (after 44 param)
param_text = after_text param_word (param_clear 44 refl refl type_clear44)

params_found : (t : List ℕ) (ps : List (Mode × TypeRef)) → params_at t ≡ Some ps → (params_print ps ≡ t) × AllByRecursion param.fits ps
unfolding params_at
params_found [] ps e = subst (λ (z : List (Mode × TypeRef)). (params_print z ≡ []) × AllByRecursion param.fits z) (some_is [] ps e) (refl, tt)
params_found (b ∷ bs) ps e =
    let u = all_found 44 (after 44 param) param_text (suc (suc (length bs))) (44 ∷ b ∷ bs) ps e in
    (ap (drop 1) u.0, u.1)

params_again : (ps : List (Mode × TypeRef)) → AllByRecursion param.fits ps → params_at (params_print ps) ≡ Some ps
unfolding params_at
params_again [] fits = refl
params_again (p ∷ ps) fits =
    let tail = flat_map (λ p. 44 ∷ param.print p) ps in
    let parts : flat_map (λ p. 44 ∷ param.print p) (p ∷ ps) ≡ 44 ∷ mode_byte p.0 ∷ (type_print p.1 ++ tail) = flat_map-cons (λ p. 44 ∷ param.print p) p ps in
    let enough : length (flat_map (λ p. 44 ∷ param.print p) (p ∷ ps)) ≤ suc (suc (length (type_print p.1 ++ tail))) = omega (arith, ap length parts) in
    let all = all_again 44 (after 44 param) param_text (λ x. omega arith) (p ∷ ps) (suc (suc (length (type_print p.1 ++ tail)))) enough fits in
    ap params_at (ap (drop 1) parts) ∙ subst (λ (l : List ℕ). all_at (after_at 44 param_at) (suc (suc (length (type_print p.1 ++ tail)))) l ≡ Some (p ∷ ps)) parts all

params_free : (c : ℕ) → eqb 44 c ≡ false → eqb 61 c ≡ false → eqb 38 c ≡ false → IsClear c type_name → (ps : List (Mode × TypeRef)) → AllByRecursion param.fits ps → IsFree c (flat_map (λ p. 44 ∷ param.print p) ps)
params_free c comma a b clear [] fits = tt
params_free c comma a b clear (p ∷ ps) fits =
    let tail = flat_map (λ p. 44 ∷ param.print p) ps in
    let parts : flat_map (λ p. 44 ∷ param.print p) (p ∷ ps) ≡ 44 ∷ mode_byte p.0 ∷ (type_print p.1 ++ tail) = flat_map-cons (λ p. 44 ∷ param.print p) p ps in
    subst (λ (l : List ℕ). IsFree c l) (sym parts) (comma, (mode_apart c a b p.0, IsFree-append c (type_print p.1) tail (clear p.1 fits.0) (params_free c comma a b clear ps fits.1)))

IsFree-drop : (c : ℕ) (t : List ℕ) → IsFree c t → IsFree c (drop 1 t)
IsFree-drop c [] free = tt
IsFree-drop c (b ∷ bs) free = free.1

-- ---- signatures

result_found : (ps : List (Mode × TypeRef)) (r : List ℕ) (s : Signature) → ((b : ℕ) (bs : List ℕ) → r ≡ b ∷ bs → b ≡ 41) → result_at ps r ≡ Some s → (41 ∷ base_print s.result ≡ r) × (s.params ≡ ps) × IfSome s.result type_fits
unfolding result_at
result_found ps [] s begins e = absurd cc
result_found ps (b ∷ t) s begins e =
    let o = bind_some (base_at t) (λ r. Some (record { params = ps; result = r })) s e in
    let made : Signature = record { params = ps; result = o.0 } in
    let u = base_found t o.0 o.1 in
    let is : b ≡ 41 = begins b t refl in
    let whole : 41 ∷ base_print o.0 ≡ b ∷ t = cc (u.0, is) in
    subst (λ (z : Signature). (41 ∷ base_print z.result ≡ b ∷ t) × (z.params ≡ ps) × IfSome z.result type_fits) (some_is made s o.2) (whole, refl, u.1)

signature_found : (t : List ℕ) (s : Signature) → signature_at t ≡ Some s → (40 ∷ params_print s.params ++ 41 ∷ base_print s.result ≡ t) × (AllByRecursion param.fits s.params × IfSome s.result type_fits)
unfolding signature_at
signature_found [] s e = absurd cc
signature_found (b ∷ bs) s e =
    let g = cond_then (eqb b 40) (params_at (front 41 bs) >>= λ ps. result_at ps (back 41 bs)) s e in
    let ps = bind_some (params_at (front 41 bs)) (λ ps. result_at ps (back 41 bs)) s g.1 in
    let u = params_found (front 41 bs) ps.0 ps.1 in
    let r = result_found ps.0 (back 41 bs) s (λ b' bs' is. back_begins 41 bs b' bs' is) ps.2 in
    let is : b ≡ 40 = eqb-true _ _ g.0 in
    let inner : params_print s.params ≡ front 41 bs = ap params_print r.1 ∙ u.0 in
    let tail : params_print s.params ++ 41 ∷ base_print s.result ≡ bs = rw (inner, r.0) (sym (front-back 41 bs)) in
    (rw (is, tail) refl, (subst (λ (z : List (Mode × TypeRef)). AllByRecursion param.fits z) (sym r.1) u.1, r.2))

signature_again : (s : Signature) → AllByRecursion param.fits s.params × IfSome s.result type_fits → signature_at (40 ∷ params_print s.params ++ 41 ∷ base_print s.result) ≡ Some s
unfolding signature_at result_at
signature_again s fits =
    let free = IsFree-drop 41 (flat_map (λ p. 44 ∷ param.print p) s.params) (params_free 41 refl refl refl type_clear41 s.params fits.0) in
    let f : front 41 (params_print s.params ++ 41 ∷ base_print s.result) ≡ params_print s.params = front_whole 41 (params_print s.params) (41 ∷ base_print s.result) free ∙ append-nil (params_print s.params) in
    let b : back 41 (params_print s.params ++ 41 ∷ base_print s.result) ≡ 41 ∷ base_print s.result = back_whole 41 (params_print s.params) (41 ∷ base_print s.result) free in
    rw (f, params_again s.params fits.0, b, base_again s.result fits.1) refl

pub signature_word : IsWord signature
signature_word = record { found = signature_found; again = signature_again }

signature_clear : IsClear 32 signature
signature_clear s fits =
    let ps = IsFree-drop 32 (flat_map (λ p. 44 ∷ param.print p) s.params) (params_free 32 refl refl refl type_clear32 s.params fits.0) in
    (refl, IsFree-append 32 (params_print s.params) (41 ∷ base_print s.result) ps (refl, base_clear s.result fits.1))

-- ---- constants

truth_again : (b : Bool) → lookup truths (truth_name b) ≡ Some b
truth_again true = refl
truth_again false = refl

pub truth_word : IsWord truth
truth_word = record { found = λ t b e. (found_in truths truth_name (refl, (refl, tt)) t b e, tt); again = λ b _. truth_again b }

pub character_word : IsWord character
character_word = kept_word (λ n. ltb n 256) (λ n. n < 256) (λ n. Decides-ltb n 256) numeral_word

set_small : (z : ℤ) → FitsSigned w32 z → cast_unsigned w32 z < 2 ^ 32
set_small z fits = omega (arith, ints)

set_signed : (n : ℕ) → n < 2 ^ 32 → FitsSigned w32 (cast_signed w32 n)
set_signed n small = grind (arith, ints)

set_found : (t : List ℕ) (n : ℕ) → set_word.parse t ≡ Some n → (set_word.print n ≡ t) × (n < 2 ^ 32)
set_found t n e =
    let z = bind_some (signed.parse t) (λ z. Some (cast_unsigned w32 z)) n e in
    let u = signed_word.found t z.0 z.1 in
    subst (λ (k : ℕ). (set_word.print k ≡ t) × (k < 2 ^ 32)) (some_is (cast_unsigned w32 z.0) n z.2)
    (ap signed_decimal (to_z-of_z w32 z.0 u.1) ∙ u.0, set_small z.0 u.1)

set_again : (n : ℕ) → n < 2 ^ 32 → set_word.parse (set_word.print n) ≡ Some n
set_again n small = rw (signed_word.again (cast_signed w32 n) (set_signed n small)) (ap (λ (k : ℕ). Some k) (of_z-to_z w32 n small))

pub set_law : IsWord set_word
set_law = record { found = set_found; again = set_again }

-- digits

hex_digit_again : (n : ℕ) → n < 16 → hex_value (hex_digit n) ≡ Some n
hex_digit_again n small =
    let one : Decides (ltb n 10) (n < 10) = Decides-ltb n 10 in
    elim (ltb n 10) as (λ v. ltb n 10 ≡ v → hex_value (cond v (n + 48) (n + 55)) ≡ Some n) [
      | true ↦ λ is.
          let low : n < 10 = one.0 is in
          let a : ltb (n + 48) 48 ≡ false = grind (arith, nat_tests) in
          let b : ltb (n + 48) 58 ≡ true = grind (arith, nat_tests) in
          let back : n + 48 - 48 ≡ n = omega arith in
          rw (a, b, back) refl
      | false ↦ λ is.
          let high : 10 ≤ n = ltb-false _ _ is in
          let a : ltb (n + 55) 48 ≡ false = grind (arith, nat_tests) in
          let b : ltb (n + 55) 58 ≡ false = grind (arith, nat_tests) in
          let c : ltb (n + 55) 65 ≡ false = grind (arith, nat_tests) in
          let d : ltb (n + 55) 71 ≡ true = grind (arith, nat_tests) in
          let back : n + 55 - 55 ≡ n = omega arith in
          rw (a, b, c, d, back) refl
    ] refl

guard_not : {A : Type 0} (b : Bool) (x : Option A) (y : A) → cond b None x ≡ Some y → (b ≡ false) × (x ≡ Some y)
guard_not true x y e = absurd cc
guard_not false x y e = (refl, e)

hex_letter_found : (c n : ℕ) → 58 ≤ c → cond (ltb c 65) None (cond (ltb c 71) (Some (c - 55)) None) ≡ Some n → (hex_digit n ≡ c) × (n < 16)
hex_letter_found c n high e =
    let g = guard_not (ltb c 65) (cond (ltb c 71) (Some (c - 55)) None) n e in
    let h = cond_some (ltb c 71) (c - 55) n g.1 in
    let low : 65 ≤ c = ltb-false _ _ g.0 in
    let top : c < 71 = ltb-true _ _ h.0 in
    let is : c - 55 ≡ n = h.1 in
    let big : ltb n 10 ≡ false = grind (arith, nat_tests) in
    let back : n + 55 ≡ c = omega arith in
    (rw big back, omega arith)

hex_digit_found : (c n : ℕ) → hex_value c ≡ Some n → (hex_digit n ≡ c) × (n < 16)
hex_digit_found c n e =
    let g = guard_not (ltb c 48) (cond (ltb c 58) (Some (c - 48)) (cond (ltb c 65) None (cond (ltb c 71) (Some (c - 55)) None))) n e in
    let low : 48 ≤ c = ltb-false _ _ g.0 in
    elim (ltb c 58) as (λ v. ltb c 58 ≡ v → cond v (Some (c - 48)) (cond (ltb c 65) None (cond (ltb c 71) (Some (c - 55)) None)) ≡ Some n → (hex_digit n ≡ c) × (n < 16)) [
      | true ↦ λ is e.
          let top : c < 58 = ltb-true _ _ is in
          let same : c - 48 ≡ n = some_is (c - 48) n e in
          let big : ltb n 10 ≡ true = grind (arith, nat_tests) in
          let back : n + 48 ≡ c = omega arith in
          (rw big back, omega arith)
      | false ↦ λ is e. hex_letter_found c n (ltb-false _ _ is) e
    ] refl g.1

high_part : (h l : ℕ) → l < 16 → (h * 16 + l) / 16 ≡ h
high_part h l small = omega arith

low_part : (h l : ℕ) → l < 16 → (h * 16 + l) % 16 ≡ l
low_part h l small = omega arith

hex_found : (t s : List ℕ) → hex_at t ≡ Some s → (hex_print s ≡ t) × AllByRecursion IsByte s
unfolding hex_at
hex_found [] s e = subst (λ (z : List ℕ). (hex_print z ≡ []) × AllByRecursion IsByte z) (some_is [] s e) (refl, tt)
hex_found (a ∷ []) s e = absurd cc
hex_found (a ∷ b ∷ t) s e =
    let h = bind_some (hex_value a) (λ high. hex_value b >>= λ low. hex_at t >>= λ more. Some ((high * 16 + low) ∷ more)) s e in
    let l = bind_some (hex_value b) (λ low. hex_at t >>= λ more. Some ((h.0 * 16 + low) ∷ more)) s h.2 in
    let m = bind_some (hex_at t) (λ more. Some ((h.0 * 16 + l.0) ∷ more)) s l.2 in
    let x = hex_digit_found a h.0 h.1 in
    let y = hex_digit_found b l.0 l.1 in
    let u = hex_found t m.0 m.1 in
    let first : hex_digit ((h.0 * 16 + l.0) / 16) ≡ a = ap hex_digit (high_part h.0 l.0 y.1) ∙ x.0 in
    let second : hex_digit ((h.0 * 16 + l.0) % 16) ≡ b = ap hex_digit (low_part h.0 l.0 y.1) ∙ y.0 in
    let whole : hex_print ((h.0 * 16 + l.0) ∷ m.0) ≡ a ∷ b ∷ t = flat_map-cons (λ c. hex_digit (c / 16) ∷ hex_digit (c % 16) ∷ []) (h.0 * 16 + l.0) m.0 ∙ cc (first, second, u.0) in
    subst (λ (z : List ℕ). (hex_print z ≡ a ∷ b ∷ t) × AllByRecursion IsByte z) (some_is ((h.0 * 16 + l.0) ∷ m.0) s m.2) (whole, (omega arith, u.1))

hex_again : (s : List ℕ) → AllByRecursion IsByte s → hex_at (hex_print s) ≡ Some s
unfolding hex_at
hex_again [] fits = refl
hex_again (c ∷ s) fits =
    let high : c / 16 < 16 = omega arith in
    let low : c % 16 < 16 = omega arith in
    let back : c / 16 * 16 + c % 16 ≡ c = omega arith in
    let step : hex_at (hex_digit (c / 16) ∷ hex_digit (c % 16) ∷ hex_print s) ≡ Some (c ∷ s) = rw (hex_digit_again (c / 16) high, hex_digit_again (c % 16) low, hex_again s fits.1, back) refl in
    ap hex_at (flat_map-cons (λ c. hex_digit (c / 16) ∷ hex_digit (c % 16) ∷ []) c s) ∙ step

hex_digit_apart : (n : ℕ) → n < 16 → eqb (hex_digit n) 34 ≡ false
hex_digit_apart n small =
    elim (ltb n 10) as (λ v. eqb (cond v (n + 48) (n + 55)) 34 ≡ false) [
      | true ↦ grind (arith, nat_tests)
      | false ↦ grind (arith, nat_tests)
    ]

hex_free : (s : List ℕ) → AllByRecursion IsByte s → IsFree 34 (hex_print s)
hex_free [] fits = tt
hex_free (c ∷ s) fits =
    let high : c / 16 < 16 = omega arith in
    let low : c % 16 < 16 = omega arith in
    subst (λ (l : List ℕ). IsFree 34 l) (sym (flat_map-cons (λ c. hex_digit (c / 16) ∷ hex_digit (c % 16) ∷ []) c s)) (hex_digit_apart (c / 16) high, (hex_digit_apart (c % 16) low, hex_free s fits.1))

quoted_found : (t s : List ℕ) → quoted_at t ≡ Some s → (34 ∷ hex_print s ++ 34 ∷ [] ≡ t) × AllByRecursion IsByte s
unfolding quoted_at
quoted_found [] s e = absurd cc
quoted_found (b ∷ bs) s e =
    let g = cond_then (eqb b 34 && bytes_eq (back 34 bs) (34 ∷ [])) (hex_at (front 34 bs)) s e in
    let both = and_parts (eqb b 34) (bytes_eq (back 34 bs) (34 ∷ [])) g.0 in
    let is : b ≡ 34 = eqb-true _ _ both.0 in
    let end = (bytes_decides (back 34 bs) (34 ∷ [])).0 both.1 in
    let u = hex_found (front 34 bs) s g.1 in
    let tail : hex_print s ++ 34 ∷ [] ≡ bs = rw (u.0, ← end) (sym (front-back 34 bs)) in
    (rw (is, tail) refl, u.1)

quoted_again : (s : List ℕ) → AllByRecursion IsByte s → quoted_at (34 ∷ hex_print s ++ 34 ∷ []) ≡ Some s
unfolding quoted_at
quoted_again s fits =
    let free = hex_free s fits in
    let f : front 34 (hex_print s ++ 34 ∷ []) ≡ hex_print s = front_whole 34 (hex_print s) (34 ∷ []) free ∙ append-nil (hex_print s) in
    let b : back 34 (hex_print s ++ 34 ∷ []) ≡ 34 ∷ [] = back_whole 34 (hex_print s) (34 ∷ []) free in
    rw (f, b) (hex_again s fits)

pub quoted_word : IsWord quoted
quoted_word = record { found = quoted_found; again = quoted_again }

pub string_word : IsWord string
string_word = kept_word (λ s. not (eqb (length s) 1)) (λ s. length s ≢ 1) (λ s. Decides-not (eqb (length s) 1) (Decides-eqb (length s) 1)) quoted_word

-- integers

-- the keyword is that of the value's smallest type
int_found : (k : ConstKind) (t : List ℕ) (v : Value) → int_at k t ≡ Some v → (value_print v ≡ const_name k ++ t) × value_fits v
unfolding int_at
int_found k t v e =
    let z = bind_some ((last 32 signed).parse t) (λ z. cond (bytes_eq (const_name (int_kind z)) (const_name k)) (Some (value.Int z)) None) v e in
    let g = cond_some (bytes_eq (const_name (int_kind z.0)) (const_name k)) (value.Int z.0) v z.2 in
    let same = (bytes_decides (const_name (int_kind z.0)) (const_name k)).0 g.0 in
    let u = (last_word 32 signed_word).found t z.0 z.1 in
    subst (λ (y : Value). (value_print y ≡ const_name k ++ t) × value_fits y) g.1 (rw (same, u.0) refl, u.1)

int_again : (z : ℤ) (t : List ℕ) → (last 32 signed).parse t ≡ Some z → int_at (int_kind z) t ≡ Some (value.Int z)
unfolding int_at
int_again z t e = rw (e, (bytes_decides (const_name (int_kind z)) (const_name (int_kind z))).1 refl) refl

const_by_found : (k : ConstKind) (t : List ℕ) (v : Value) → const_by k t ≡ Some v → (value_print v ≡ const_name k ++ t) × value_fits v
unfolding const_by
const_by_found const.Boolean t v e =
    let b = bind_some ((last 32 truth).parse t) (λ b. Some (value.Bool b)) v e in
    let u = (last_word 32 truth_word).found t b.0 b.1 in
    subst (λ (y : Value). (value_print y ≡ codes "BOOLEAN" ++ t) × value_fits y) (some_is (value.Bool b.0) v b.2) (ap (λ (l : List ℕ). codes "BOOLEAN" ++ l) u.0, u.1)
const_by_found const.Char t v e =
    let b = bind_some ((last 32 character).parse t) (λ c. Some (value.Char c)) v e in
    let u = (last_word 32 character_word).found t b.0 b.1 in
    subst (λ (y : Value). (value_print y ≡ codes "CHAR" ++ t) × value_fits y) (some_is (value.Char b.0) v b.2) (ap (λ (l : List ℕ). codes "CHAR" ++ l) u.0, u.1)
const_by_found const.ShortInt t v e = int_found const.ShortInt t v e
const_by_found const.Integer t v e = int_found const.Integer t v e
const_by_found const.LongInt t v e = int_found const.LongInt t v e
const_by_found const.Set t v e =
    let b = bind_some ((last 32 set_word).parse t) (λ n. Some (value.Set n)) v e in
    let u = (last_word 32 set_law).found t b.0 b.1 in
    subst (λ (y : Value). (value_print y ≡ codes "SET" ++ t) × value_fits y) (some_is (value.Set b.0) v b.2) (ap (λ (l : List ℕ). codes "SET" ++ l) u.0, u.1)
const_by_found const.String t v e =
    let b = bind_some ((last 32 string).parse t) (λ s. Some (value.Str s)) v e in
    let u = (last_word 32 string_word).found t b.0 b.1 in
    subst (λ (y : Value). (value_print y ≡ codes "STRING" ++ t) × value_fits y) (some_is (value.Str b.0) v b.2) (ap (λ (l : List ℕ). codes "STRING" ++ l) u.0, u.1)

constant_found : (t : List ℕ) (v : Value) → constant.parse t ≡ Some v → (value_print v ≡ t) × value_fits v
constant_found t v e = chosen_found 32 const_kinds const_name const_by value_print value_fits (refl, (refl, (refl, (refl, (refl, (refl, (refl, tt))))))) const_by_found t v e

const_name_free : (k : ConstKind) → IsFree 32 (const_name k)
const_name_free const.Boolean = (refl, (refl, (refl, (refl, (refl, (refl, (refl, tt)))))))
const_name_free const.Char = (refl, (refl, (refl, (refl, tt))))
const_name_free const.ShortInt = (refl, (refl, (refl, (refl, (refl, (refl, (refl, (refl, tt))))))))
const_name_free const.Integer = (refl, (refl, (refl, (refl, (refl, (refl, (refl, tt)))))))
const_name_free const.LongInt = (refl, (refl, (refl, (refl, (refl, (refl, (refl, tt)))))))
const_name_free const.Set = (refl, (refl, (refl, tt)))
const_name_free const.String = (refl, (refl, (refl, (refl, (refl, (refl, tt))))))

const_kind_again : (k : ConstKind) → lookup const_kinds (const_name k) ≡ Some k
const_kind_again const.Boolean = refl
const_kind_again const.Char = refl
const_kind_again const.ShortInt = refl
const_kind_again const.Integer = refl
const_kind_again const.LongInt = refl
const_kind_again const.Set = refl
const_kind_again const.String = refl

const_keyed : (k : ConstKind) (t : List ℕ) → IsEnd 32 t → constant.parse (const_name k ++ t) ≡ const_by k t
const_keyed k t end = keyed 32 const_kinds (const_name k) const_by k t (const_name_free k) (const_kind_again k) end

size_kind_by : (n : ℕ) (t : List ℕ) → const_by (size_kind n) t ≡ int_at (size_kind n) t
unfolding const_by
size_kind_by n t =
    elim (ltb n 128) as (λ v. const_by (cond v const.ShortInt (cond (ltb n 32768) const.Integer const.LongInt)) t ≡ int_at (cond v const.ShortInt (cond (ltb n 32768) const.Integer const.LongInt)) t) [
      | true ↦ refl
      | false ↦ elim (ltb n 32768) as (λ v. const_by (cond v const.Integer const.LongInt) t ≡ int_at (cond v const.Integer const.LongInt) t) [ true ↦ refl | false ↦ refl ]
    ]

int_kind_by : (z : ℤ) (t : List ℕ) → const_by (int_kind z) t ≡ int_at (int_kind z) t
int_kind_by (pos n) t = size_kind_by n t
int_kind_by (negsuc n) t = size_kind_by n t

constant_again : (v : Value) → value_fits v → constant.parse (value_print v) ≡ Some v
unfolding const_by
constant_again (value.Bool b) fits = const_keyed const.Boolean ((last 32 truth).print b) refl ∙ ap (λ (o : Option Bool). o >>= λ b. Some (value.Bool b)) ((last_word 32 truth_word).again b fits)
constant_again (value.Char c) fits = const_keyed const.Char ((last 32 character).print c) refl ∙ ap (λ (o : Option ℕ). o >>= λ c. Some (value.Char c)) ((last_word 32 character_word).again c fits)
constant_again (value.Int z) fits = const_keyed (int_kind z) ((last 32 signed).print z) refl ∙ int_kind_by z ((last 32 signed).print z) ∙ int_again z ((last 32 signed).print z) ((last_word 32 signed_word).again z fits)
constant_again (value.Set n) fits = const_keyed const.Set ((last 32 set_word).print n) refl ∙ ap (λ (o : Option ℕ). o >>= λ n. Some (value.Set n)) ((last_word 32 set_law).again n fits)
constant_again (value.Str s) fits = const_keyed const.String ((last 32 string).print s) refl ∙ ap (λ (o : Option (List ℕ)). o >>= λ s. Some (value.Str s)) ((last_word 32 string_word).again s fits)
constant_again value.Nil fits = absurd fits

pub constant_word : IsWord constant
constant_word = record { found = constant_found; again = constant_again }

-- ---- members

small_text : IsText 32 (after 32 small)
small_text = after_text small_word small_clear

identifier_text : IsText 32 (after 32 identifier)
identifier_text = after_text identifier_word identifier_clear

pub field_text : IsText 32 field
unfolding field
field_text = lead_text (102 ∷ []) (made_text (λ p. record { name = p.0; mark = p.1.0; place = p.1.1.0; of = p.1.1.1 }) (λ f. (f.name, (f.mark, (f.place, f.of)))) (pair_text identifier_text (pair_text shown_text (pair_text small_text (after_text type_word type_clear32)))) (λ _. refl) (λ _. refl))

field_long : IsLong field
unfolding field
field_long f = omega arith

receiver_again : (r : Receiver) → lookup receivers (receiver_name r) ≡ Some r
receiver_again receiver.Record = refl
receiver_again receiver.Pointer = refl

receiver_law : IsWord receiver_word
receiver_law = record { found = λ t r e. (found_in receivers receiver_name (refl, (refl, tt)) t r e, tt); again = λ r _. receiver_again r }

receiver_clear : IsClear 32 receiver_word
receiver_clear receiver.Record fits = (refl, tt)
receiver_clear receiver.Pointer fits = (refl, tt)

pub method_text : IsText 32 method
unfolding method
method_text = lead_text (112 ∷ []) (where_text (λ p. record { name = p.0; mark = Full; number = p.1.0; receiver = p.1.1.0; signature = p.1.1.1 }) (λ m. (m.name, (m.number, (m.receiver, m.signature)))) (λ m. m.mark ≡ Full) (pair_text identifier_text (pair_text small_text (pair_text (after_text receiver_law receiver_clear) (after_text signature_word signature_clear)))) (λ _. refl) (λ _. refl) (λ m full. ap (λ (k : Mark). record m { mark = k }) (sym full)))

method_long : IsLong method
unfolding method
method_long m = omega arith

field_begins : (f : Field) (r : List ℕ) → begins_field (field.spell f ++ r) ≡ true
unfolding field
field_begins f r = refl

methods_begin : (ms : List Method) → begins_field (flat_map method.spell ms) ≡ false
unfolding method
methods_begin [] = refl
methods_begin (m ∷ ms) = ap begins_field (flat_map-cons method.spell m ms)

members_found : (t : List ℕ) (p : List Field × List Method) → members_at t ≡ Some p → (flat_map field.spell p.0 ++ flat_map method.spell p.1 ≡ t) × (AllByRecursion field.fits p.0 × AllByRecursion method.fits p.1)
unfolding members_at
members_found t p e =
    let fs = bind_some (run_at begins_field field.take (length t) t) (λ fields. all_at method.take (length fields.1) fields.1 >>= λ methods. Some (fields.0, methods)) p e in
    let ms = bind_some (all_at method.take (length fs.0.1) fs.0.1) (λ methods. Some (fs.0.0, methods)) p fs.2 in
    let u = run_found 32 begins_field field field_text (length t) t fs.0 fs.1 in
    let v = all_found 32 method method_text (length fs.0.1) fs.0.1 ms.0 ms.1 in
    subst (λ (y : List Field × List Method). (flat_map field.spell y.0 ++ flat_map method.spell y.1 ≡ t) × (AllByRecursion field.fits y.0 × AllByRecursion method.fits y.1)) (some_is (fs.0.0, ms.0) p ms.2)
    (ap (λ (l : List ℕ). flat_map field.spell fs.0.0 ++ l) v.0 ∙ sym u.0, (u.1, v.1))

members_again : (p : List Field × List Method) → AllByRecursion field.fits p.0 × AllByRecursion method.fits p.1 → members_at (flat_map field.spell p.0 ++ flat_map method.spell p.1) ≡ Some p
unfolding members_at
members_again p fits =
    let rest = flat_map method.spell p.1 in
    let whole = flat_map field.spell p.0 ++ rest in
    let end : IsEnd 32 rest = all_opens 32 method method_text p.1 fits.1 in
    let fs : run_at begins_field field.take (length whole) whole ≡ Some (p.0, rest) = run_again 32 begins_field field field_text field_long field_begins p.0 rest (length whole) (omega arith) fits.0 end (methods_begin p.1) in
    let ms : all_at method.take (length rest) rest ≡ Some p.1 = all_again 32 method method_text method_long p.1 (length rest) (omega arith) fits.1 in
    rw (fs, ms) refl

members_order : (p : List Field × List Method) → Decides (rises by_place p.0 && rises by_number p.1) (IsStrictlySortedBy by_place p.0 × IsStrictlySortedBy by_number p.1)
members_order p = Decides-and (rises by_place p.0) (rises by_number p.1) (rises_decides by_place (then_total (on_total (λ f. f.place) nat_cmp_total) (on_total (λ f. f.name) nat_list_cmp_total)) p.0) (rises_decides by_number (on_total (λ m. m.number) nat_cmp_total) p.1)

pub members_word : IsWord members
members_word = kept_word (λ p. rises by_place p.0 && rises by_number p.1) (λ p. IsStrictlySortedBy by_place p.0 × IsStrictlySortedBy by_number p.1) members_order (record { found = members_found; again = members_again })

members_open : Opens 32 members
members_open p fits = run_opens 32 field field_text p.0 (flat_map method.spell p.1) fits.0.0 (all_opens 32 method method_text p.1 fits.0.1)

-- ---- shapes

pub const_law : IsWord const_text
const_law = then_word dotted_text (last_word 32 constant_word) (λ _ _. refl)

pub var_law : IsWord var_text
var_law = then_word (pair_text dotted_identifier_text mark_text) (last_word 32 type_word) (λ _ _. refl)

pub proc_law : IsWord proc_text
proc_law = then_word dotted_identifier_text (last_word 32 signature_word) (λ _ _. refl)

pub marked_law : IsWord marked_text
marked_law = then_word (pair_text dotted_text mark_text) (last_word 32 type_word) (λ _ _. refl)

pub array_law : IsWord array_text
array_law = then_word (pair_text dotted_text (pair_text mark_text (after_text count_word count_clear))) (last_word 32 type_word) (λ _ _. refl)

pub proctype_law : IsWord proctype_text
proctype_law = then_word (pair_text dotted_text mark_text) (last_word 32 signature_word) (λ _ _. refl)

pub record_law : IsWord record_text
record_law = then_word (pair_text dotted_text (pair_text mark_text (after_text base_word base_clear))) members_word members_open

kind_name : Kind → List ℕ
kind_name kind.Const = codes "const"
kind_name kind.Var = codes "var"
kind_name kind.Proc = codes "proc"
kind_name kind.Alias = codes "alias"
kind_name kind.Array = codes "array"
kind_name kind.OpenArray = codes "open"
kind_name kind.Pointer = codes "pointer"
kind_name kind.ProcType = codes "proctype"
kind_name kind.Record = codes "record"

-- the words and the number of bound procedures of a record stand in its layout
pub IsBare : Desc → Type 0
IsBare (desc.Record r) = (r.words ≡ 0) × (r.procedures ≡ 0)
IsBare d = Unit {0}

-- what a text with a keyword spells
Spells : List ℕ → QName × Desc → Type 0
Spells t x = (shape_text x.0 x.1 ≡ t) × (shape_fits x.0 x.1 × IsBare x.1)

shape_by_found : (k : Kind) (t : List ℕ) (x : QName × Desc) → shape_by k t ≡ Some x → (shape_text x.0 x.1 ≡ kind_name k ++ t) × (shape_fits x.0 x.1 × IsBare x.1)
unfolding shape_by kind_name Spells IsBare
shape_by_found kind.Const t x e =
    let y = bind_some (const_text.parse t) (λ y. Some (y.0, desc.Const y.1)) x e in
    let u = const_law.found t y.0 y.1 in
    subst (Spells (codes "const" ++ t)) (some_is (y.0.0, desc.Const y.0.1) x y.2) (ap (λ (l : List ℕ). codes "const" ++ l) u.0, (u.1, tt))
shape_by_found kind.Var t x e =
    let y = bind_some (var_text.parse t) (λ y. Some (y.0.0, desc.Var y.0.1 y.1)) x e in
    let u = var_law.found t y.0 y.1 in
    subst (Spells (codes "var" ++ t)) (some_is (y.0.0.0, desc.Var y.0.0.1 y.0.1) x y.2) (ap (λ (l : List ℕ). codes "var" ++ l) u.0, (u.1, tt))
shape_by_found kind.Proc t x e =
    let y = bind_some (proc_text.parse t) (λ y. Some (y.0, desc.Proc y.1)) x e in
    let u = proc_law.found t y.0 y.1 in
    subst (Spells (codes "proc" ++ t)) (some_is (y.0.0, desc.Proc y.0.1) x y.2) (ap (λ (l : List ℕ). codes "proc" ++ l) u.0, (u.1, tt))
shape_by_found kind.Alias t x e =
    let y = bind_some (marked_text.parse t) (λ y. Some (y.0.0, desc.Alias y.0.1 y.1)) x e in
    let u = marked_law.found t y.0 y.1 in
    subst (Spells (codes "alias" ++ t)) (some_is (y.0.0.0, desc.Alias y.0.0.1 y.0.1) x y.2) (ap (λ (l : List ℕ). codes "alias" ++ l) u.0, (u.1, tt))
shape_by_found kind.Array t x e =
    let y = bind_some (array_text.parse t) (λ y. Some (y.0.0, desc.Array y.0.1.0 y.0.1.1 y.1)) x e in
    let u = array_law.found t y.0 y.1 in
    subst (Spells (codes "array" ++ t)) (some_is (y.0.0.0, desc.Array y.0.0.1.0 y.0.0.1.1 y.0.1) x y.2) (ap (λ (l : List ℕ). codes "array" ++ l) u.0, (u.1, tt))
shape_by_found kind.OpenArray t x e =
    let y = bind_some (marked_text.parse t) (λ y. Some (y.0.0, desc.OpenArray y.0.1 y.1)) x e in
    let u = marked_law.found t y.0 y.1 in
    subst (Spells (codes "open" ++ t)) (some_is (y.0.0.0, desc.OpenArray y.0.0.1 y.0.1) x y.2) (ap (λ (l : List ℕ). codes "open" ++ l) u.0, (u.1, tt))
shape_by_found kind.Pointer t x e =
    let y = bind_some (marked_text.parse t) (λ y. Some (y.0.0, desc.Pointer y.0.1 y.1)) x e in
    let u = marked_law.found t y.0 y.1 in
    subst (Spells (codes "pointer" ++ t)) (some_is (y.0.0.0, desc.Pointer y.0.0.1 y.0.1) x y.2) (ap (λ (l : List ℕ). codes "pointer" ++ l) u.0, (u.1, tt))
shape_by_found kind.ProcType t x e =
    let y = bind_some (proctype_text.parse t) (λ y. Some (y.0.0, desc.ProcType y.0.1 y.1)) x e in
    let u = proctype_law.found t y.0 y.1 in
    subst (Spells (codes "proctype" ++ t)) (some_is (y.0.0.0, desc.ProcType y.0.0.1 y.0.1) x y.2) (ap (λ (l : List ℕ). codes "proctype" ++ l) u.0, (u.1, tt))
shape_by_found kind.Record t x e =
    let y = bind_some (record_text.parse t) (λ y. Some (y.0.0, bare_record y.0.1.0 y.0.1.1 y.1.0 y.1.1)) x e in
    let u = record_law.found t y.0 y.1 in
    subst (Spells (codes "record" ++ t)) (some_is (y.0.0.0, bare_record y.0.0.1.0 y.0.0.1.1 y.0.1.0 y.0.1.1) x y.2) (ap (λ (l : List ℕ). codes "record" ++ l) u.0, (u.1, (refl, refl)))

shape_found : (t : List ℕ) (x : QName × Desc) → shape_at t ≡ Some x → (shape_text x.0 x.1 ≡ t) × (shape_fits x.0 x.1 × IsBare x.1)
unfolding kind_name
shape_found t x e = chosen_found 32 kinds kind_name shape_by (λ x. shape_text x.0 x.1) (λ x. shape_fits x.0 x.1 × IsBare x.1) (refl, (refl, (refl, (refl, (refl, (refl, (refl, (refl, (refl, tt))))))))) shape_by_found t x e

-- the description that a shape text alone gives
pub bare : Desc → Desc
bare (desc.Record r) = desc.Record (record r { words = 0; procedures = 0 })
bare d = d

shape_again : (q : QName) (d : Desc) → shape_fits q d → shape_at (shape_text q d) ≡ Some (q, bare d)
unfolding shape_by bare
shape_again q (desc.Const v) fits = keyed 32 kinds (codes "const") shape_by kind.Const (const_text.print (q, v)) (refl, (refl, (refl, (refl, (refl, tt))))) refl refl ∙ ap (λ (o : Option (QName × Value)). o >>= λ y. Some (y.0, desc.Const y.1)) (const_law.again (q, v) fits)
shape_again q (desc.Var m t) fits = keyed 32 kinds (codes "var") shape_by kind.Var (var_text.print ((q, m), t)) (refl, (refl, (refl, tt))) refl refl ∙ ap (λ (o : Option ((QName × Mark) × TypeRef)). o >>= λ y. Some (y.0.0, desc.Var y.0.1 y.1)) (var_law.again ((q, m), t) fits)
shape_again q (desc.Proc s) fits = keyed 32 kinds (codes "proc") shape_by kind.Proc (proc_text.print (q, s)) (refl, (refl, (refl, (refl, tt)))) refl refl ∙ ap (λ (o : Option (QName × Signature)). o >>= λ y. Some (y.0, desc.Proc y.1)) (proc_law.again (q, s) fits)
shape_again q (desc.Alias m t) fits = keyed 32 kinds (codes "alias") shape_by kind.Alias (marked_text.print ((q, m), t)) (refl, (refl, (refl, (refl, (refl, tt))))) refl refl ∙ ap (λ (o : Option ((QName × Mark) × TypeRef)). o >>= λ y. Some (y.0.0, desc.Alias y.0.1 y.1)) (marked_law.again ((q, m), t) fits)
shape_again q (desc.Array m n t) fits = keyed 32 kinds (codes "array") shape_by kind.Array (array_text.print ((q, (m, n)), t)) (refl, (refl, (refl, (refl, (refl, tt))))) refl refl ∙ ap (λ (o : Option ((QName × (Mark × ℕ)) × TypeRef)). o >>= λ y. Some (y.0.0, desc.Array y.0.1.0 y.0.1.1 y.1)) (array_law.again ((q, (m, n)), t) fits)
shape_again q (desc.OpenArray m t) fits = keyed 32 kinds (codes "open") shape_by kind.OpenArray (marked_text.print ((q, m), t)) (refl, (refl, (refl, (refl, tt)))) refl refl ∙ ap (λ (o : Option ((QName × Mark) × TypeRef)). o >>= λ y. Some (y.0.0, desc.OpenArray y.0.1 y.1)) (marked_law.again ((q, m), t) fits)
shape_again q (desc.Pointer m t) fits = keyed 32 kinds (codes "pointer") shape_by kind.Pointer (marked_text.print ((q, m), t)) (refl, (refl, (refl, (refl, (refl, (refl, (refl, tt))))))) refl refl ∙ ap (λ (o : Option ((QName × Mark) × TypeRef)). o >>= λ y. Some (y.0.0, desc.Pointer y.0.1 y.1)) (marked_law.again ((q, m), t) fits)
shape_again q (desc.ProcType m s) fits = keyed 32 kinds (codes "proctype") shape_by kind.ProcType (proctype_text.print ((q, m), s)) (refl, (refl, (refl, (refl, (refl, (refl, (refl, (refl, tt)))))))) refl refl ∙ ap (λ (o : Option ((QName × Mark) × Signature)). o >>= λ y. Some (y.0.0, desc.ProcType y.0.1 y.1)) (proctype_law.again ((q, m), s) fits)
shape_again q (desc.Record r) fits = keyed 32 kinds (codes "record") shape_by kind.Record (record_text.print ((q, (r.mark, r.base)), (r.fields, r.methods))) (refl, (refl, (refl, (refl, (refl, (refl, tt)))))) refl refl ∙ ap (λ (o : Option ((QName × (Mark × Option TypeRef)) × (List Field × List Method))). o >>= λ y. Some (y.0.0, bare_record y.0.1.0 y.0.1.1 y.1.0 y.1.1)) (record_law.again ((q, (r.mark, r.base)), (r.fields, r.methods)) fits)

-- ---- layouts

pub layout_law : IsWord layout
layout_law = led_word (codes "layout") (then_word (pair_text dotted_text small_text) (last_word 32 small_word) (λ _ _. refl))

-- ---- both texts

object_is : (a b : QName) → a.module ≡ b.module → a.object ≡ b.object → a ≡ b
object_is a b m o =
    let first : a ≡ record a { «module» = b.module } = ap (λ (l : List ℕ). record a { «module» = l }) m in
    let second : record a { «module» = b.module } ≡ b = ap (λ (l : List ℕ). record b { object = l }) o in
    first ∙ second

pub object_decides : (a b : QName) → Decides (same_object a b) (a ≡ b)
object_decides a b =
    let both = Decides-and (bytes_eq a.module b.module) (bytes_eq a.object b.object) (bytes_decides a.module b.module) (bytes_decides a.object b.object) in
    (λ e. let p = both.0 e in object_is a b p.0 p.1, λ same. both.1 (ap (λ (q : QName). q.module) same, ap (λ (q : QName). q.object) same))

-- both texts spell the description of the object
pub record AreTexts (shape : List ℕ) (layout : Option (List ℕ)) (x : QName × Desc) : Type 0 where
  pub shape_is : shape ≡ shape_text x.0 x.1
  pub layout_is : layout ≡ layout_text x.0 x.1
  pub spelled : IsSpelled x.0 x.1

as_is : (q : QName) (d : Desc) (x : QName × Desc) → Some (q, d) ≡ Some x → layout_text q d ≡ None → layout_fits q d → shape_fits q d → AreTexts (shape_text q d) None x
as_is q d x e none within fits = subst (λ (z : QName × Desc). AreTexts (shape_text q d) None z) (some_is (q, d) x e) (record { shape_is = refl; layout_is = sym none; spelled = record { shape = fits; layout = within } })

joined_found : (q : QName) (d : Desc) (l : Option (List ℕ)) (x : QName × Desc) → shape_fits q d → joined q d l ≡ Some x → AreTexts (shape_text q d) l x
unfolding joined
joined_found q (desc.Record r) None x fits e = absurd cc
joined_found q (desc.Record r) (Some t) x fits e =
    let l = bind_some (layout.parse t) (λ l. cond (same_object l.0.0 q) (Some (q, desc.Record (record r { words = l.0.1; procedures = l.1 }))) None) x e in
    let g = cond_some (same_object l.0.0.0 q) (q, desc.Record (record r { words = l.0.0.1; procedures = l.0.1 })) x l.2 in
    let same = (object_decides l.0.0.0 q).0 g.0 in
    let u = layout_law.found t l.0 l.1 in
    let text : layout.print ((q, l.0.0.1), l.0.1) ≡ t = ap (λ (z : QName). layout.print ((z, l.0.0.1), l.0.1)) (sym same) ∙ u.0 in
    subst (λ (z : QName × Desc). AreTexts (shape_text q (desc.Record r)) (Some t) z) g.1
    (record { shape_is = refl; layout_is = ap (λ (z : List ℕ). Some z) (sym text); spelled = record { shape = fits; layout = (u.1.0.1.1, u.1.1.1) } })
joined_found q (desc.Const v) None x fits e = as_is q (desc.Const v) x e refl tt fits
joined_found q (desc.Var m t) None x fits e = as_is q (desc.Var m t) x e refl tt fits
joined_found q (desc.Proc s) None x fits e = as_is q (desc.Proc s) x e refl tt fits
joined_found q (desc.Alias m t) None x fits e = as_is q (desc.Alias m t) x e refl tt fits
joined_found q (desc.Array m n t) None x fits e = as_is q (desc.Array m n t) x e refl tt fits
joined_found q (desc.OpenArray m t) None x fits e = as_is q (desc.OpenArray m t) x e refl tt fits
joined_found q (desc.Pointer m t) None x fits e = as_is q (desc.Pointer m t) x e refl tt fits
joined_found q (desc.ProcType m s) None x fits e = as_is q (desc.ProcType m s) x e refl tt fits
joined_found q (desc.Const v) (Some l) x fits e = absurd cc
joined_found q (desc.Var m t) (Some l) x fits e = absurd cc
joined_found q (desc.Proc s) (Some l) x fits e = absurd cc
joined_found q (desc.Alias m t) (Some l) x fits e = absurd cc
joined_found q (desc.Array m n t) (Some l) x fits e = absurd cc
joined_found q (desc.OpenArray m t) (Some l) x fits e = absurd cc
joined_found q (desc.Pointer m t) (Some l) x fits e = absurd cc
joined_found q (desc.ProcType m s) (Some l) x fits e = absurd cc

pub description_found : (shape : List ℕ) (layout : Option (List ℕ)) (x : QName × Desc) → description_at shape layout ≡ Some x → AreTexts shape layout x
unfolding description_at
description_found shape layout x e =
    let s = bind_some (shape_at shape) (λ s. joined s.0 s.1 layout) x e in
    let u = shape_found shape s.0 s.1 in
    subst (λ (t : List ℕ). AreTexts t layout x) u.0 (joined_found s.0.0 s.0.1 layout x u.1.0 s.2)

joined_again : (q : QName) (d : Desc) → IsSpelled q d → joined q (bare d) (layout_text q d) ≡ Some (q, d)
unfolding joined bare
joined_again q (desc.Record r) fits =
    let names : dotted.fits q = fits.shape.0.0 in
    let words : small.fits r.words = (omega (arith, fits.layout.0), fits.layout.0) in
    let number : small.fits r.procedures = (omega (arith, fits.layout.1), fits.layout.1) in
    let same = (object_decides q q).1 refl in
    rw (layout_law.again ((q, r.words), r.procedures) ((names, words), number), same) refl
joined_again q (desc.Const v) fits = refl
joined_again q (desc.Var m t) fits = refl
joined_again q (desc.Proc s) fits = refl
joined_again q (desc.Alias m t) fits = refl
joined_again q (desc.Array m n t) fits = refl
joined_again q (desc.OpenArray m t) fits = refl
joined_again q (desc.Pointer m t) fits = refl
joined_again q (desc.ProcType m s) fits = refl

pub description_again : (q : QName) (d : Desc) → IsSpelled q d → description_at (shape_text q d) (layout_text q d) ≡ Some (q, d)
unfolding description_at
description_again q d fits = rw (shape_again q d fits.shape) (joined_again q d fits)
