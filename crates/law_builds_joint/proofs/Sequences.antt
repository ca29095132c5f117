-- Constants and variables that a sequence of declarations makes have not the names of its types.
use Rattle.std.proofs.Common.{◌≡◌, ◌≢◌, ◌⊎◌, ⊎_elim, inl, inr, refl, sym, ap, ◌∙◌, subst, ℕ, Bool, true, false, List, [], ◌∷◌, ◌++◌, map, Option, Some, None}
use Rattle.std.specs.Prelude.{codes}
use Rattle.std.specs.List.{AllByRecursion, cons_option, filter_map, list_all}
use Rattle.std.proofs.lemmas.Bool.{and_parts}
use Rattle.ob_tree.specs.declared.ident.Ident.{Ident}
use Rattle.ob_tree.specs.declared.ident.IdentDef.{IdentDef}
use Rattle.ob_tree.specs.declared.ident.Mark.{Mark}
use Rattle.ob_tree.specs.declared.ident.Mark.TheVariants as mark
use Rattle.ob_tree.specs.declared.decl.Decl.{Decl, roll-Decl, map-Decl}
use Rattle.ob_tree.specs.declared.decl.Decl.TheOpen.{Decl-F}
use Rattle.ob_tree.specs.declared.decl.Decl.TheFolds.{ind-Decl, fold-roll-Decl}
use Rattle.ob_types.specs.declared.value.Value.{Value}
use Rattle.ob_types.specs.declared.typed.TypedConstant.{TypedConstant}
use Rattle.ob_types.specs.declared.typed.TypedType.{TypedType}
use Rattle.ob_types.specs.declared.typed.TypedVariable.{TypedVariable}
use Rattle.ob_rules.specs.Judged.{both, ◌▷◌}
use Rattle.ob_rules.specs.Names.{Around, found_in_scope}
use Rattle.ob_rules.specs.Expressions.{phrase_of, constant_value}
use Rattle.ob_rules.specs.Phrases.{Phrase}
use Rattle.ob_rules.specs.Types.{Typing, Written, written, is_module_level, marked, with_types}
use Rattle.ob_rules.specs.Declarations.{Contents, together, first_name, Declared, twice, no_nil, constant_contents, constant_entity, constant_declared, type_declared, variable_contents, paired_typing, variable_with, variables_with, made_in, variables_declared, Declaration, Plain, Procedure, plain_of, in_order, then_declared, decl_rule, declaration}
use Rattle.law_typing_forms.specs.Said.{IsOneOf}
use Rattle.law_typing_forms.proofs.Modules.{of_all}
use Rattle.law_typing_env.proofs.Shown.{one_joined}
use Rattle.law_names_distinct.specs.Named.{is_word, are_words, all_true, type_named, decl_layer, decl_named}
use Rattle.law_names_distinct.specs.Parts.{is_mark, IsWord, IsTail, IsPart}
use Rattle.law_names_distinct.proofs.Fresh.{is_known, is_declared, once, not_before}
use Rattle.law_names_distinct.proofs.Typings.{IsIn}
use Rattle.law_names_distinct.proofs.Written.{IsNode, written_good, words_are}
use Rattle.law_names_distinct.proofs.Scopes.{IsOfName, IsPlaced, decls_placed, order_placed}
use Rattle.law_names_distinct.proofs.Blocks.{variables_declared_fresh}
use Rattle.law_lists.proofs.Lists.{IfThere, all_both, back_empty, clash, front_empty}

-- a constant or a variable of that name
abbrev pub IsObject : Contents → List ℕ → Type 0
IsObject c x = ((k : TypedConstant) × (IsOneOf c.constants k × (k.name ≡ x))) ⊎ ((v : TypedVariable) × (IsOneOf c.variables v × (v.name ≡ x)))

object_either : (c e : Contents) (x : List ℕ) → IsObject (together c e) x → IsObject c x ⊎ IsObject e x
object_either c e x (inl k) = ⊎_elim (λ i. inl (inl (k.0, (i, k.1.1)))) (λ i. inr (inl (k.0, (i, k.1.1)))) (one_joined c.constants e.constants k.0 k.1.0)
object_either c e x (inr v) = ⊎_elim (λ i. inl (inr (v.0, (i, v.1.1)))) (λ i. inr (inr (v.0, (i, v.1.1)))) (one_joined c.variables e.variables v.0 v.1.0)

-- ---- words

mark_word : (r rest : List ℕ) (c : ℕ) → is_mark c ≡ true → IsWord ((r ++ c ∷ []) ++ rest) → ⊥
mark_word [] rest c m w = let bad : true ≡ false = sym m ∙ w.0 in absurd cc
mark_word (x ∷ r) rest c m w = mark_word r rest c m w.1

no_tail : (w rest : List ℕ) → IsTail rest → IsWord (w ++ rest) → w ++ rest ≡ w
no_tail [] [] t h = refl
no_tail [] (c ∷ cs) t h = let bad : true ≡ false = sym t ∙ h.0 in absurd cc
no_tail (x ∷ w) rest t h = ap (λ y. x ∷ y) (no_tail w rest t h.1)

-- a type that is named by a word at module level is declared by that name
pub named_at : (path : List ℕ) (u v : Around) (n : List ℕ) → path ≡ [] → IsOfName path u v n → IsWord n → (is_known u n ≡ false) × (is_known v n ≡ true)
named_at path u v n e o w =
    let is : n ≡ o.name ++ o.part.rest = o.part.is ∙ ap (λ p. (p ++ o.name) ++ o.part.rest) e in
    let same : n ≡ o.name = is ∙ no_tail o.name o.part.rest o.part.tail (subst IsWord is w) in
    (ap (is_known u) same ∙ o.new, ap (is_known v) same ∙ o.there)

-- ---- one declaration

-- what it makes is new; and it makes no type that is named by a word, or no constants and no variables
pub record IsItem (u : Around) (d : Declared) : Type 0 where
  pub new : d.part.notes.broken ≡ [] → (x : List ℕ) → IsObject d.part.contents x → (is_known u x ≡ false) × (is_known d.around x ≡ true)
  pub word : (x : List ℕ) → IsObject d.part.contents x → IsWord x
  pub plain : d.part.notes.broken ≡ [] → ((t : TypedType) → IsOneOf d.part.contents.types t → IsWord t.name → ⊥) ⊎ ((x : List ℕ) → IsObject d.part.contents x → ⊥)

abbrev ItemPlain : (Around → Declared) → Type 0
ItemPlain f = (u : Around) → IsItem u (f u)

none_of : {A : Type 0} (xs : List A) (x : A) → xs ≡ [] → IsOneOf xs x → ⊥
none_of xs x e i = subst (λ ys. IsOneOf ys x) e i

constant_name : (b : Bool) (i : Ident) (p : Option (Mark × Value)) (x : List ℕ) → IsObject (constant_contents b i p) x → i.name ≡ x
constant_name true i (Some p) x (inl k) = ⊎_elim (λ e. ap (λ (z : TypedConstant). z.name) e ∙ k.1.1) (λ j. absurd j) k.1.0
constant_name true i (Some p) x (inr v) = absurd v.1.0
constant_name true i None x (inl k) = absurd k.1.0
constant_name true i None x (inr v) = absurd v.1.0
constant_name false i p x (inl k) = absurd k.1.0
constant_name false i p x (inr v) = absurd v.1.0

constant_types : (b : Bool) (x : Ident) (p : Option (Mark × Value)) → (constant_contents b x p).types ≡ []
constant_types true x None = refl
constant_types true x (Some p) = refl
constant_types false x p = refl

constant_item : (d : IdentDef) (x : Phrase) → IsWord d.ident.name → ItemPlain (constant_declared d x)
constant_item d x w u =
    let j = both (marked u false d) (constant_value u x ▷ no_nil x.start) in
    record {
      new = λ b y o.
          let n = constant_name (is_module_level u) d.ident j.node y o in
          subst (λ z. (is_known u z ≡ false) × (is_known (constant_declared d x u).around z ≡ true)) n (once u d.ident (back_empty j.notes.broken (twice u d.ident).broken b), is_declared (found_in_scope u d.ident.name) u d.ident (constant_entity j.node) refl);
      word = λ y o. subst IsWord (constant_name (is_module_level u) d.ident j.node y o) w;
      plain = λ b. inl (λ t i h. none_of (constant_contents (is_module_level u) d.ident j.node).types t (constant_types (is_module_level u) d.ident j.node) i);
    }

no_object : (c : Contents) (x : List ℕ) → c.constants ≡ [] → c.variables ≡ [] → IsObject c x → ⊥
no_object c x e f (inl k) = none_of c.constants k.0 e k.1.0
no_object c x e f (inr v) = none_of c.variables v.0 f v.1.0

type_item : (d : IdentDef) (w : Written) → ItemPlain (type_declared d w)
type_item d w u = record {
  new = λ b x o. absurd (no_object (type_declared d w u).part.contents x refl refl o);
  word = λ x o. absurd (no_object (type_declared d w u).part.contents x refl refl o);
  plain = λ b. inr (λ x o. no_object (type_declared d w u).part.contents x refl refl o);
}

-- variables make no constants and no types
variable_constants : (x : Ident) (o : Option (Mark × Typing)) → (variable_contents x o).constants ≡ []
variable_constants x None = refl
variable_constants x (Some p) = refl

variable_types : (x : Ident) (o : Option (Mark × Typing)) → (variable_contents x o).types ≡ []
variable_types x None = refl
variable_types x (Some p) = refl

variables_constants : (ds : List IdentDef) (t : Option Typing) (u : Around) → (variables_with ds t u).part.contents.constants ≡ []
variables_constants [] t u = refl
variables_constants (d ∷ ds) t u =
    let m = marked u true d in
    let a = variable_with u d.ident m.notes (paired_typing m.node t) in
    subst (λ cs. cs ++ (variables_with ds t a.around).part.contents.constants ≡ []) (sym (variable_constants d.ident (paired_typing m.node t))) (variables_constants ds t a.around)

variables_types : (ds : List IdentDef) (t : Option Typing) (u : Around) → (variables_with ds t u).part.contents.types ≡ []
variables_types [] t u = refl
variables_types (d ∷ ds) t u =
    let m = marked u true d in
    let a = variable_with u d.ident m.notes (paired_typing m.node t) in
    subst (λ ts. ts ++ (variables_with ds t a.around).part.contents.types ≡ []) (sym (variable_types d.ident (paired_typing m.node t))) (variables_types ds t a.around)

abbrev AreWords : List IdentDef → Type 0
AreWords ds = AllByRecursion (λ d. IsWord d.ident.name) ds

variable_words : (x : Ident) (o : Option (Mark × Typing)) → IsWord x.name → AllByRecursion (λ v. IsWord v.name) (variable_contents x o).variables
variable_words x None w = tt
variable_words x (Some p) w = (w, tt)

variables_words : (ds : List IdentDef) → AreWords ds → (t : Option Typing) (u : Around) → AllByRecursion (λ v. IsWord v.name) (variables_with ds t u).part.contents.variables
variables_words [] w t u = tt
variables_words (d ∷ ds) w t u =
    let m = marked u true d in
    let p = paired_typing m.node t in
    let a = variable_with u d.ident m.notes p in
    all_both (λ (v : TypedVariable). IsWord v.name) (variable_contents d.ident p).variables (variables_with ds t a.around).part.contents.variables (variable_words d.ident p w.0) (variables_words ds w.1 t a.around)

list_words : (ds : List IdentDef) → list_all is_word (map (λ (d : IdentDef). d.ident.name) ds) ≡ true → AreWords ds
list_words [] e = tt
list_words (d ∷ ds) e = let p = and_parts (is_word d.ident.name) (list_all is_word (map (λ (d : IdentDef). d.ident.name) ds)) e in (words_are d.ident.name p.0, list_words ds p.1)

all_words : (ds : List IdentDef) → are_words (map (λ (d : IdentDef). d.ident.name) ds) ≡ true → AreWords ds
all_words [] e = tt
all_words (d ∷ ds) e = let p = and_parts (is_word d.ident.name) (list_all is_word (map (λ (d : IdentDef). d.ident.name) ds)) e in (words_are d.ident.name p.0, list_words ds p.1)

made_named : (r : List ℕ) (o : Option Typing) → IfThere (IsIn r) o → (t : TypedType) → IsOneOf (made_in o) t → IsPart r t.name
made_named r None h t i = absurd i
made_named r (Some k) h t i = of_all (λ (y : TypedType). IsPart r y.name) k.made t h.parts i

variables_item : (ds : List IdentDef) → AreWords ds → (w : Written) → IsNode w → ItemPlain (variables_declared ds w)
variables_item ds words w g u = record {
  new = λ b x o. by b x o;
  word = λ x o. of_word x o;
  plain = λ b. inl (λ t i h. no_word b t i h);
}
  where
    of_word : (x : List ℕ) → IsObject (variables_declared ds w u).part.contents x → IsWord x
    of_word x (inl k) = absurd (none_of (variables_declared ds w u).part.contents.constants k.0 (variables_constants ds (w.typing u (u.path ++ first_name ds ++ codes ":") mark.Hidden false).node (with_types u (made_in (w.typing u (u.path ++ first_name ds ++ codes ":") mark.Hidden false).node))) k.1.0)
    of_word x (inr k) =
        let j = w.typing u (u.path ++ first_name ds ++ codes ":") mark.Hidden false in
        subst IsWord k.1.1 (of_all (λ (v : TypedVariable). IsWord v.name) (variables_declared ds w u).part.contents.variables k.0 (variables_words ds words j.node (with_types u (made_in j.node))) k.1.0)

    by : (variables_declared ds w u).part.notes.broken ≡ [] → (x : List ℕ) → IsObject (variables_declared ds w u).part.contents x → (is_known u x ≡ false) × (is_known (variables_declared ds w u).around x ≡ true)
    by b x (inl k) = absurd (none_of (variables_declared ds w u).part.contents.constants k.0 (variables_constants ds (w.typing u (u.path ++ first_name ds ++ codes ":") mark.Hidden false).node (with_types u (made_in (w.typing u (u.path ++ first_name ds ++ codes ":") mark.Hidden false).node))) k.1.0)
    by b x (inr k) =
        let f = variables_declared_fresh ds w u in
        let vs = (variables_declared ds w u).part.contents.variables in
        let n : is_known u k.0.name ≡ false = of_all (λ (z : TypedVariable). is_known u z.name ≡ false) vs k.0 (f.new b) k.1.0 in
        let h : is_known (variables_declared ds w u).around k.0.name ≡ true = of_all (λ (z : TypedVariable). is_known (variables_declared ds w u).around z.name ≡ true) vs k.0 f.there k.1.0 in
        subst (λ z. (is_known u z ≡ false) × (is_known (variables_declared ds w u).around z ≡ true)) k.1.1 (n, h)

    no_word : (variables_declared ds w u).part.notes.broken ≡ [] → (y : TypedType) → IsOneOf (variables_declared ds w u).part.contents.types y → IsWord y.name → ⊥
    no_word b y i h =
        let j = w.typing u (u.path ++ first_name ds ++ codes ":") mark.Hidden false in
        let made = made_in j.node in
        let rest = variables_with ds j.node (with_types u made) in
        let here : IsOneOf made y = ⊎_elim (λ k. k) (λ k. absurd (none_of rest.part.contents.types y (variables_types ds j.node (with_types u made)) k)) (one_joined made rest.part.contents.types y i) in
        let p = made_named (u.path ++ first_name ds ++ codes ":") j.node (g.typing u (u.path ++ first_name ds ++ codes ":") mark.Hidden false (front_empty j.notes.broken rest.part.notes.broken b)) y here in
        mark_word (u.path ++ first_name ds) p.rest 58 refl (subst IsWord p.is h)

-- ---- in their order

pub record IsSequence (u : Around) (d : Declared) : Type 0 where
  pub word : (x : List ℕ) → IsObject d.part.contents x → IsWord x
  pub new : d.part.notes.broken ≡ [] → (x : List ℕ) → IsObject d.part.contents x → (is_known u x ≡ false) × (is_known d.around x ≡ true)
  pub apart : d.part.notes.broken ≡ [] → u.path ≡ [] → (x : List ℕ) → IsObject d.part.contents x → (t : TypedType) → IsOneOf d.part.contents.types t → t.name ≢ x

module _ (u : Around) (a : Declared) (f : Around → Declared) (g : IsItem u a) (p : IsPlaced u a) (h : IsSequence a.around (f a.around)) (q : IsPlaced a.around (f a.around)) where
  abbrev d : Declared
  d = f a.around

  of_word : (x : List ℕ) → IsObject (then_declared a f).part.contents x → IsWord x
  of_word x o = ⊎_elim (λ k. g.word x k) (λ k. h.word x k) (object_either a.part.contents d.part.contents x o)

  new : (then_declared a f).part.notes.broken ≡ [] → (x : List ℕ) → IsObject (then_declared a f).part.contents x → (is_known u x ≡ false) × (is_known d.around x ≡ true)
  new b x o = ⊎_elim
      (λ k. let n = g.new (front_empty a.part.notes.broken d.part.notes.broken b) x k in (n.0, q.keeps x n.1))
      (λ k. let n = h.new (back_empty a.part.notes.broken d.part.notes.broken b) x k in (not_before (is_known u x) (is_known a.around x) (p.keeps x) n.0, n.1))
      (object_either a.part.contents d.part.contents x o)

  apart : (then_declared a f).part.notes.broken ≡ [] → u.path ≡ [] → (x : List ℕ) → IsObject (then_declared a f).part.contents x → (t : TypedType) → IsOneOf (then_declared a f).part.contents.types t → t.name ≢ x
  apart b e x o t i same = by (object_either a.part.contents d.part.contents x o) (one_joined a.part.contents.types d.part.contents.types t i)
    where
      first : a.part.notes.broken ≡ []
      first = front_empty a.part.notes.broken d.part.notes.broken b

      second : d.part.notes.broken ≡ []
      second = back_empty a.part.notes.broken d.part.notes.broken b

      word : IsWord t.name
      word = subst IsWord (sym same) (of_word x o)

      -- a type of the first is known behind it
      known : IsOneOf a.part.contents.types t → is_known a.around x ≡ true
      known j = ap (is_known a.around) (sym same) ∙ (named_at u.path u a.around t.name e (of_all (λ (z : TypedType). IsOfName u.path u a.around z.name) a.part.contents.types t (p.types first).parts j) word).1

      -- and one of the others is not
      fresh : IsOneOf d.part.contents.types t → is_known a.around x ≡ false
      fresh j = ap (is_known a.around) (sym same) ∙ (named_at a.around.path a.around d.around t.name (p.path ∙ e) (of_all (λ (z : TypedType). IsOfName a.around.path a.around d.around z.name) d.part.contents.types t (q.types second).parts j) word).0

      item : ((t : TypedType) → IsOneOf a.part.contents.types t → IsWord t.name → ⊥) ⊎ ((x : List ℕ) → IsObject a.part.contents x → ⊥) → IsObject a.part.contents x → IsOneOf a.part.contents.types t → ⊥
      item (inl n) k j = n t j word
      item (inr n) k j = n x k

      by : IsObject a.part.contents x ⊎ IsObject d.part.contents x → IsOneOf a.part.contents.types t ⊎ IsOneOf d.part.contents.types t → ⊥
      by (inl k) (inl j) = item (g.plain first) k j
      by (inl k) (inr j) = clash (is_known a.around x) (g.new first x k).1 (fresh j)
      by (inr k) (inl j) = clash (is_known a.around x) (known j) (h.new second x k).0
      by (inr k) (inr j) = h.apart second (p.path ∙ e) x k t j same

  then_sequence : IsSequence u (then_declared a f)
  then_sequence = record { new = new; word = of_word; apart = apart }

order_sequence : (fs : List (Around → Declared)) → AllByRecursion ItemPlain fs → AllByRecursion (λ f. (u : Around) → IsPlaced u (f u)) fs → (u : Around) → IsSequence u (in_order fs u)
order_sequence [] g p u = record {
  new = λ b x o. absurd (no_object (in_order [] u).part.contents x refl refl o);
  word = λ x o. absurd (no_object (in_order [] u).part.contents x refl refl o);
  apart = λ b e x o. absurd (no_object (in_order [] u).part.contents x refl refl o);
}
order_sequence (f ∷ fs) g p u =
    then_sequence u (f u) (λ v. in_order fs v) (g.0 u) (p.0 u) (order_sequence fs g.1 p.1 (f u).around) (order_placed fs p.1 (f u).around)

-- ---- by induction over declarations

abbrev ItemDeclaration : Declaration → Type 0
ItemDeclaration (Plain x f) = ItemPlain f
ItemDeclaration (Procedure p) = Unit {0}

abbrev PD : Decl → Type 0
PD x = decl_named x ≡ true → ItemDeclaration (declaration x)

abbrev SD : Type 0
SD = (x : Decl) × PD x

layer : (x : Decl-F Decl) → (decl_layer (map-Decl Decl Bool decl_named x) ≡ true → ItemDeclaration (decl_rule (map-Decl Decl Declaration declaration x))) → PD (roll-Decl x)
layer x h e = subst ItemDeclaration (sym (fold-roll-Decl Declaration decl_rule x)) (h (sym (fold-roll-Decl Bool decl_layer x) ∙ e))

decl_cases : (y : Decl-F SD) → PD (roll-Decl (map-Decl SD Decl (λ x. x.0) y))
decl_cases (Decl-F.Constant d x) = layer (Decl-F.Constant d x) (λ e. constant_item d (phrase_of x) (words_are d.ident.name e))
decl_cases (Decl-F.NamedType d n) = layer (Decl-F.NamedType d n) (λ e. type_item d (written n))
decl_cases (Decl-F.Variables ds n) = layer (Decl-F.Variables ds n) (λ e. let p = and_parts (are_words (map (λ (d : IdentDef). d.ident.name) ds)) (type_named n) e in variables_item ds (all_words ds p.0) (written n) (written_good n p.1))
decl_cases (Decl-F.Procedure h ds body closing) = layer (Decl-F.Procedure h (map (λ (x : SD). x.0) ds) body closing) (λ e. tt)
decl_cases (Decl-F.Forward h) = layer (Decl-F.Forward h) (λ e. tt)

decl_item : (x : Decl) → PD x
decl_item = ind-Decl PD (λ x y is. subst (λ z. PD (roll-Decl z)) is (decl_cases y))

plain_kept : (d : Declaration) → ItemDeclaration d → (fs : List (Around → Declared)) → AllByRecursion ItemPlain fs → AllByRecursion ItemPlain (cons_option (plain_of d) fs)
plain_kept (Plain x f) h fs k = (h, k)
plain_kept (Procedure p) h fs k = k

decls_item : (xs : List Decl) → all_true (map decl_named xs) ≡ true → AllByRecursion ItemPlain (filter_map plain_of (map declaration xs))
decls_item [] e = tt
decls_item (x ∷ xs) e = let p = and_parts (decl_named x) (all_true (map decl_named xs)) e in plain_kept (declaration x) (decl_item x p.0) (filter_map plain_of (map declaration xs)) (decls_item xs p.1)

-- THE DECLARATIONS of a sequence
pub sequence_apart : (xs : List Decl) → all_true (map decl_named xs) ≡ true → (u : Around) → IsSequence u (in_order (filter_map plain_of (map declaration xs)) u)
sequence_apart xs named u = order_sequence (filter_map plain_of (map declaration xs)) (decls_item xs named) (decls_placed xs named) u
