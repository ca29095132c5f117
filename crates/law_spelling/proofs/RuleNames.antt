-- Derived names are names of objects, and a type that is named has a spelling.
use Rattle.std.proofs.Common.{◌≡◌, ℕ, zero, suc, ◌<◌, Bool, true, false, cond, List, [], ◌∷◌, ◌++◌, Option, Some, None, refl, subst, arith, codes}
use Rattle.std.specs.Prelude.{◌||◌, ◌/◌, ◌%◌, ◌==◌, if◌then◌else◌, bytes_eq, pos}
use Rattle.std.specs.Fmt.{digit_glyph, digits_onto, digits, signed_decimal}
use Rattle.std.specs.List.{list_all, list_any, find, AllByRecursion}
use Rattle.std.specs.Char.{is_ascii_alphabetic, is_ascii_alphanumeric}
use Rattle.std.specs.Int.{is_in_range}
use Rattle.std.proofs.lemmas.Bool.{false≢true, and_parts}
use Rattle.std.proofs.lemmas.Slice.Eq.{bytes_eq-Decides}
use Rattle.ob_tree.specs.declared.pos.Pos.{Pos}
use Rattle.ob_tree.specs.declared.names.QName.{QName}
use Rattle.ob_tree.specs.declared.ident.Ident.{Ident}
use Rattle.ob_tree.specs.declared.ident.Qualident.{Qualident}
use Rattle.ob_types.specs.declared.types.TypeRef.{TypeRef}
use Rattle.ob_types.specs.declared.types.TypeRef.TheVariants as ref
use Rattle.ob_types.specs.declared.desc.Desc.{Desc}
use Rattle.ob_types.specs.declared.desc.Desc.TheVariants as desc
use Rattle.ob_types.specs.declared.typed.OutProcedure.{OutProcedure}
use Rattle.ob_format.specs.Names.{is_object_byte, is_object}
use Rattle.ob_desc.specs.Grammar.{type_fits}
use Rattle.ob_rules.specs.declared.entity.Entity.{Entity}
use Rattle.ob_rules.specs.declared.entity.Entity.TheVariants as entity
use Rattle.ob_rules.specs.declared.entity.Known.{Known}
use Rattle.ob_rules.specs.Judged.{Judged}
use Rattle.ob_rules.specs.Names.{Around, find_name, is_enclosing, variable_known, entity_known, shown_of, record_unless_hidden, export_known, exported, type_of_desc, out_type, out_procedure, type_in, type_of_entity, type_behind, unless_variable_is, unless_variable, type_by, type_named, is_out, is_among}
use Rattle.ob_rules.specs.Types.{base_name, element_name, field_name, section_name, later_if, later_by, is_later}
use Rattle.law_methods_described.proofs.Nodes.{Has, then_has}
use Rattle.law_spelling.specs.Trees.{IsNamed}
use Rattle.law_spelling.specs.Ruled.{EntityOk, KnownOk, AroundOk}
use Rattle.law_lists.proofs.Lists.{IfThere, both_true, or_first}

-- ---- names

abbrev pub AreBytes : List ℕ → Type 0
AreBytes x = list_all is_object_byte x ≡ true

pub bytes_both : (x y : List ℕ) → AreBytes x → AreBytes y → AreBytes (x ++ y)
bytes_both [] y h k = k
bytes_both (c ∷ x) y h k = let p = and_parts (is_object_byte c) (list_all is_object_byte x) h in both_true (is_object_byte c) (list_all is_object_byte (x ++ y)) p.0 (bytes_both x y p.1 k)

-- a name with more behind it
pub object_more : (x y : List ℕ) → is_object x ≡ true → AreBytes y → is_object (x ++ y) ≡ true
object_more [] y h k = absurd (false≢true h)
object_more (c ∷ x) y h k = let p = and_parts (is_ascii_alphabetic c) (list_all is_object_byte x) h in both_true (is_ascii_alphabetic c) (list_all is_object_byte (x ++ y)) p.0 (bytes_both x y p.1 k)

turned : (d u l : Bool) → (u || l) ≡ true → (d || u) || l ≡ true
turned true u l e = refl
turned false u l e = e

pub object_bytes : (x : List ℕ) → is_object x ≡ true → AreBytes x
object_bytes [] h = absurd (false≢true h)
object_bytes (c ∷ x) h =
    let p = and_parts (is_ascii_alphabetic c) (list_all is_object_byte x) h in
    both_true (is_object_byte c) (list_all is_object_byte x) (or_first (is_ascii_alphanumeric c) _ (turned (is_in_range 48 57 c) (is_in_range 65 90 c) (is_in_range 97 122 c) p.0)) p.1

digit_few : (n : ℕ) → n < 10 → is_object_byte (digit_glyph false n) ≡ true
digit_few zero h = refl
digit_few (suc zero) h = refl
digit_few (suc (suc zero)) h = refl
digit_few (suc (suc (suc zero))) h = refl
digit_few (suc (suc (suc (suc zero)))) h = refl
digit_few (suc (suc (suc (suc (suc zero))))) h = refl
digit_few (suc (suc (suc (suc (suc (suc zero)))))) h = refl
digit_few (suc (suc (suc (suc (suc (suc (suc zero))))))) h = refl
digit_few (suc (suc (suc (suc (suc (suc (suc (suc zero)))))))) h = refl
digit_few (suc (suc (suc (suc (suc (suc (suc (suc (suc zero))))))))) h = refl
digit_few (suc (suc (suc (suc (suc (suc (suc (suc (suc (suc n)))))))))) h = absurd (omega (arith, h))

digits_bytes : (k n : ℕ) (acc : List ℕ) → AreBytes acc → AreBytes (digits_onto k 10 false n acc)
digits_bytes zero n acc h = h
digits_bytes (suc k) n acc h =
    let l : n % 10 < 10 = omega arith in
    let more : AreBytes (digit_glyph false (n % 10) ∷ acc) = both_true (is_object_byte (digit_glyph false (n % 10))) (list_all is_object_byte acc) (digit_few (n % 10) l) h in
    go (n / 10 == 0) more (digits_bytes k (n / 10) (digit_glyph false (n % 10) ∷ acc) more)
  where
    go : (b : Bool) → AreBytes (digit_glyph false (n % 10) ∷ acc) → AreBytes (digits_onto k 10 false (n / 10) (digit_glyph false (n % 10) ∷ acc)) → AreBytes (if b then digit_glyph false (n % 10) ∷ acc else digits_onto k 10 false (n / 10) (digit_glyph false (n % 10) ∷ acc))
    go true h k = h
    go false h k = k

number_bytes : (n : ℕ) → AreBytes (signed_decimal (pos n))
unfolding digits
number_bytes n = digits_bytes 64 n [] refl

pub base_object : (n : List ℕ) → is_object n ≡ true → is_object (base_name n) ≡ true
base_object n h = object_more n (codes "^") h refl

pub element_object : (n : List ℕ) → is_object n ≡ true → is_object (element_name n) ≡ true
element_object n h = object_more n (codes "[") h refl

pub field_object : (n f : List ℕ) → is_object n ≡ true → AreBytes f → is_object (field_name n f) ≡ true
field_object n f h k = object_more (n ++ codes ".") f (object_more n (codes ".") h refl) k

pub section_object : (n : List ℕ) (i : ℕ) → is_object n ≡ true → is_object (section_name n i) ≡ true
section_object n i h = object_more (n ++ codes "(") (signed_decimal (pos i)) (object_more n (codes "(") h refl) (number_bytes i)

-- ---- what is known by a name

found_if : {A : Type 0} (P : A → Type 0) (b : Bool) (x : A) (o : Option A) → P x → IfThere P o → IfThere P (cond b (Some x) o)
found_if P true x o h k = h
found_if P false x o h k = k

pub find_all : {A : Type 0} (P : A → Type 0) (test : A → Bool) (xs : List A) → AllByRecursion P xs → IfThere P (find test xs)
find_all P test [] h = tt
find_all P test (x ∷ xs) h = found_if P (test x) x (find test xs) h.0 (find_all P test xs h.1)

variable_has : (b : Bool) (at : Pos) (e : Entity) → EntityOk e → Has EntityOk (variable_known b at e)
variable_has true at e h = tt
variable_has false at e h = h

entity_has : (u : Around) (at : Pos) (scope : ℕ) (e : Entity) → EntityOk e → Has EntityOk (entity_known u at scope e)
entity_has u at scope (entity.Constant v) h = tt
entity_has u at scope (entity.TypeName t) h = h
entity_has u at scope (entity.Variable v t) h = variable_has (is_enclosing u scope) at (entity.Variable v t) tt
entity_has u at scope (entity.Procedure q s) h = tt
entity_has u at scope (entity.Forward q s) h = tt
entity_has u at scope (entity.Module n) h = tt
entity_has u at scope (entity.Predeclared p) h = tt
entity_has u at scope entity.LeftOut h = tt
entity_has u at scope entity.Unsound h = tt

module _ (u : Around) (x : Ident) (f : Entity → Judged TypeRef) (g : (e : Entity) → EntityOk e → Has type_fits (f e)) where
  one_has : (k : Known) (e : Entity) → EntityOk e → Has type_fits (unless_variable_is u x k e f)
  one_has k (entity.Constant v) h = then_has EntityOk type_fits (entity_known u x.pos k.scope (entity.Constant v)) f (entity_has u x.pos k.scope (entity.Constant v) h) g
  one_has k (entity.TypeName t) h = then_has EntityOk type_fits (entity_known u x.pos k.scope (entity.TypeName t)) f (entity_has u x.pos k.scope (entity.TypeName t) h) g
  one_has k (entity.Variable v t) h = tt
  one_has k (entity.Procedure q s) h = then_has EntityOk type_fits (entity_known u x.pos k.scope (entity.Procedure q s)) f (entity_has u x.pos k.scope (entity.Procedure q s) h) g
  one_has k (entity.Forward q s) h = then_has EntityOk type_fits (entity_known u x.pos k.scope (entity.Forward q s)) f (entity_has u x.pos k.scope (entity.Forward q s) h) g
  one_has k (entity.Module n) h = then_has EntityOk type_fits (entity_known u x.pos k.scope (entity.Module n)) f (entity_has u x.pos k.scope (entity.Module n) h) g
  one_has k (entity.Predeclared p) h = then_has EntityOk type_fits (entity_known u x.pos k.scope (entity.Predeclared p)) f (entity_has u x.pos k.scope (entity.Predeclared p) h) g
  one_has k entity.LeftOut h = then_has EntityOk type_fits (entity_known u x.pos k.scope entity.LeftOut) f (entity_has u x.pos k.scope entity.LeftOut h) g
  one_has k entity.Unsound h = then_has EntityOk type_fits (entity_known u x.pos k.scope entity.Unsound) f (entity_has u x.pos k.scope entity.Unsound h) g

  unless_has : (o : Option Known) → IfThere KnownOk o → Has type_fits (unless_variable u x o f)
  unless_has None h = tt
  unless_has (Some k) h = one_has k k.what h

type_entity : (at : Pos) (e : Entity) → EntityOk e → Has type_fits (type_of_entity at e)
type_entity at (entity.Constant v) h = tt
type_entity at (entity.TypeName t) h = h
type_entity at (entity.Variable v t) h = tt
type_entity at (entity.Procedure q s) h = tt
type_entity at (entity.Forward q s) h = tt
type_entity at (entity.Module n) h = tt
type_entity at (entity.Predeclared p) h = tt
type_entity at entity.LeftOut h = tt
type_entity at entity.Unsound h = tt

desc_type : (at : Pos) (q : QName) (d : Desc) → type_fits (ref.Named q) → Has type_fits (type_of_desc at q d)
desc_type at q (desc.Const v) h = tt
desc_type at q (desc.Var m t) h = tt
desc_type at q (desc.Proc s) h = tt
desc_type at q (desc.Alias m t) h = h
desc_type at q (desc.Array m n t) h = h
desc_type at q (desc.OpenArray m t) h = h
desc_type at q (desc.Pointer m t) h = h
desc_type at q (desc.ProcType m s) h = h
desc_type at q (desc.Record r) h = h

export_has : (q : QName) (at : Pos) (o : Option Desc) → type_fits (ref.Named q) → Has (λ (p : QName × Desc). type_fits (ref.Named p.0)) (export_known q at o)
export_has q at None h = tt
export_has q at (Some d) h = h

exported_has : (u : Around) → AroundOk u → (m : List ℕ) (x : Ident) → Has (λ (p : QName × Desc). type_fits (ref.Named p.0)) (exported u m x)
exported_has u g m x = go (u.shown q) refl
  where
    q : QName
    q = record { «module» = m; object = x.name }

    go : (o : Option Desc) → u.shown q ≡ o → Has (λ (p : QName × Desc). type_fits (ref.Named p.0)) (export_known q x.pos (shown_of o))
    go None e = tt
    go (Some d) e = export_has q x.pos (record_unless_hidden d) (g.shown q d e)

out_has : (at : Pos) (o : Option OutProcedure) → Has type_fits (out_type at o)
out_has at None = tt
out_has at (Some p) = tt

in_has : (u : Around) → AroundOk u → (b : Bool) (m : List ℕ) (x : Ident) → Has type_fits (type_in b u m x)
in_has u g true m x = out_has x.pos (out_procedure x.name)
in_has u g false m x = then_has (λ (p : QName × Desc). type_fits (ref.Named p.0)) type_fits (exported u m x) (λ e. type_of_desc x.pos e.0 e.1) (exported_has u g m x) (λ p h. desc_type x.pos p.0 p.1 h)

behind_has : (u : Around) → AroundOk u → (m x : Ident) (e : Entity) → Has type_fits (type_behind u m x e)
behind_has u g m x (entity.Constant v) = tt
behind_has u g m x (entity.TypeName t) = tt
behind_has u g m x (entity.Variable v t) = tt
behind_has u g m x (entity.Procedure q s) = tt
behind_has u g m x (entity.Forward q s) = tt
behind_has u g m x (entity.Module n) = in_has u g (is_out n) n x
behind_has u g m x (entity.Predeclared p) = tt
behind_has u g m x entity.LeftOut = tt
behind_has u g m x entity.Unsound = tt

by_has : (u : Around) → AroundOk u → (o : Option Ident) (x : Ident) → Has type_fits (type_by u o x)
by_has u g None x = unless_has u x (type_of_entity x.pos) (type_entity x.pos) (find_name u.known x.name) (find_all KnownOk (λ k. bytes_eq k.name x.name) u.known g.known)
by_has u g (Some m) x = unless_has u m (type_behind u m x) (λ e h. behind_has u g m x e) (find_name u.known m.name) (find_all KnownOk (λ k. bytes_eq k.name m.name) u.known g.known)

-- THE NAME OF A TYPE is that of a type that has a spelling
pub type_has : (u : Around) → AroundOk u → (q : Qualident) → Has type_fits (type_named u q)
type_has u g q = by_has u g q.qualifier q.ident

-- ---- a type that is declared later

among_named : (x : List ℕ) (xs : List (List ℕ)) → AllByRecursion IsNamed xs → is_among x xs ≡ true → IsNamed x
among_named x [] h e = absurd (false≢true e)
among_named x (y ∷ ys) h e = go (bytes_eq y x) refl e (among_named x ys h.1)
  where
    go : (b : Bool) → bytes_eq y x ≡ b → (b || list_any (λ z. bytes_eq z x) ys) ≡ true → (is_among x ys ≡ true → IsNamed x) → IsNamed x
    go true f i rest = subst IsNamed ((bytes_eq-Decides y x).0 f) h.0
    go false f i rest = rest i

if_named : (b : Bool) (x : Ident) → (b ≡ true → IsNamed x.name) → IfThere (λ (i : Ident). IsNamed i.name) (later_if b x)
if_named true x h = h refl
if_named false x h = tt

later_by_named : (u : Around) → AroundOk u → (o : Option Ident) (x : Ident) → IfThere (λ (i : Ident). IsNamed i.name) (later_by u o x)
later_by_named u g None x = if_named _ x (λ e. among_named x.name u.later_types g.later (and_parts (is_among x.name u.later_types) _ e).0)
later_by_named u g (Some m) x = tt

pub later_named : (u : Around) → AroundOk u → (o : Option Qualident) → IfThere (λ (i : Ident). IsNamed i.name) (is_later u o)
later_named u g None = tt
later_named u g (Some q) = later_by_named u g q.qualifier q.ident
