-- The types that the declarations of a sequence make are nested.
use Rattle.std.proofs.Common.{◌≡◌, ℕ, Bool, true, false, List, [], ◌∷◌, ◌++◌, map, Option, Some, None, refl, sym, ap, ◌∙◌, subst}
use Rattle.std.specs.Prelude.{◌≢◌, codes}
use Rattle.std.specs.List.{AllByRecursion, cons_option, filter_map}
use Rattle.std.proofs.lemmas.Bool.{and_parts}
use Rattle.std.proofs.lemmas.List.{append-nil}
use Rattle.ob_tree.specs.declared.ident.Ident.{Ident}
use Rattle.ob_tree.specs.declared.ident.IdentDef.{IdentDef}
use Rattle.ob_tree.specs.declared.ident.Mark.{Mark}
use Rattle.ob_tree.specs.declared.ident.Mark.TheVariants as mark
use Rattle.ob_tree.specs.declared.ident.Qualident.{Qualident}
use Rattle.ob_tree.specs.declared.decl.Decl.{Decl, roll-Decl, map-Decl}
use Rattle.ob_tree.specs.declared.decl.Decl.TheOpen.{Decl-F}
use Rattle.ob_tree.specs.declared.decl.Decl.TheFolds.{ind-Decl, fold-roll-Decl}
use Rattle.ob_types.specs.declared.value.Value.{Value}
use Rattle.ob_types.specs.declared.desc.Desc.TheVariants as desc
use Rattle.ob_types.specs.declared.typed.TypedType.{TypedType}
use Rattle.ob_rules.specs.Judged.{Judged, sound, both, ◌▷◌}
use Rattle.ob_rules.specs.Names.{Around}
use Rattle.ob_rules.specs.Phrases.{Phrase}
use Rattle.ob_rules.specs.Expressions.{phrase_of, constant_value}
use Rattle.ob_rules.specs.Types.{Typing, Written, written, with_types, is_module_level, marked}
use Rattle.ob_rules.specs.Headings.{mark_or_hidden}
use Rattle.ob_rules.specs.Declarations.{Declared, no_nil, twice, constant_contents, constant_declared, equated, typing_as, types_made, type_declared, variable_contents, variable_with, paired_typing, variables_with, made_in, first_name, variables_declared, Declaration, Plain, Procedure, plain_of, in_order, decl_rule, declaration, newly}
use Rattle.law_names_distinct.specs.Parts.{IsWord, IsPart}
use Rattle.law_names_distinct.specs.Named.{is_word, all_true, are_words, type_named, decl_layer, decl_named}
use Rattle.law_names_distinct.proofs.Parts.{parts_differ}
use Rattle.law_names_distinct.proofs.Fresh.{is_known}
use Rattle.law_names_distinct.proofs.Quiet.{Quiet, any_quiet, then_quiet, both_quiet}
use Rattle.law_names_distinct.proofs.Written.{IsNode, written_good}
use Rattle.law_names_distinct.proofs.Scopes.{IsOfName, IsPlaced, order_placed, decls_placed}
use Rattle.law_names_types.specs.Nested.{IsBehind, AreNested, SequencesAreNested}
use Rattle.law_names_types.proofs.Behind.{part_of, stop_behind, nested_both}
use Rattle.law_names_types.proofs.Typings.{IsNested}
use Rattle.law_names_types.proofs.Written.{written_nested}
use Rattle.law_lists.proofs.Lists.{Anything, IfThere, back_empty, front_empty}

-- of different names of one scope
apart : (path f g : List ℕ) → IsWord f → IsWord g → f ≢ g → (t s : TypedType) → IsPart (path ++ f) t.name → IsPart (path ++ g) s.name → IsBehind t s
apart path f g v w other t s p q x z k = absurd (parts_differ path f g s.name s.name v w other (part_of (path ++ f) t.name s.name p (stop_behind t.name x s.name z k)) q refl)

not_same : (u v w : Around) (path : List ℕ) (t s : TypedType) (a : IsOfName path u v t.name) (b : IsOfName path v w s.name) → a.name ≢ b.name
not_same u v w path t s a b same = let bad : true ≡ false = sym a.there ∙ ap (is_known v) same ∙ b.new in absurd cc

-- those of names that come to be known before and behind
pub before_behind : (path : List ℕ) (u v w : Around) (ts us : List TypedType) → AllByRecursion (λ t. IsOfName path u v t.name) ts → AllByRecursion (λ t. IsOfName path v w t.name) us → AreNested ts us × AreNested us ts
before_behind path u v w ts us h k = (over ts h, under us k)
  where
    one : (t : TypedType) → IsOfName path u v t.name → (us : List TypedType) → AllByRecursion (λ t. IsOfName path v w t.name) us → AllByRecursion (IsBehind t) us
    one t a [] k = tt
    one t a (s ∷ us) k = (apart path a.name k.0.name a.word k.0.word (not_same u v w path t s a k.0) t s a.part k.0.part, one t a us k.1)

    over : (ts : List TypedType) → AllByRecursion (λ t. IsOfName path u v t.name) ts → AreNested ts us
    over [] h = tt
    over (t ∷ ts) h = (one t h.0 us k, over ts h.1)

    two : (s : TypedType) → IsOfName path v w s.name → (ts : List TypedType) → AllByRecursion (λ t. IsOfName path u v t.name) ts → AllByRecursion (IsBehind s) ts
    two s b [] h = tt
    two s b (t ∷ ts) h = (apart path b.name h.0.name b.word h.0.word (λ same. not_same u v w path t s h.0 b (sym same)) s t b.part h.0.part, two s b ts h.1)

    under : (us : List TypedType) → AllByRecursion (λ t. IsOfName path v w t.name) us → AreNested us ts
    under [] k = tt
    under (s ∷ us) k = (two s k.0 ts h, under us k.1)

-- two declarations, one behind the other
pub nested_join : (path : List ℕ) (u v w : Around) (ts us : List TypedType) → AllByRecursion (λ t. IsOfName path u v t.name) ts → AllByRecursion (λ t. IsOfName path v w t.name) us → AreNested ts ts → AreNested us us → AreNested (ts ++ us) (ts ++ us)
nested_join path u v w ts us h k a b = let c = before_behind path u v w ts us h k in nested_both ts us a c.0 c.1 b

-- ---- declarations

abbrev NestedPlain : (Around → Declared) → Type 0
NestedPlain f = (u : Around) → (f u).part.notes.broken ≡ [] → AreNested (f u).part.contents.types (f u).part.contents.types

abbrev PlacedPlain : (Around → Declared) → Type 0
PlacedPlain f = (u : Around) → IsPlaced u (f u)

no_types : (ts : List TypedType) → ts ≡ [] → AreNested ts ts
no_types ts e = subst (λ ts. AreNested ts ts) (sym e) tt

constant_types : (b : Bool) (x : Ident) (p : Option (Mark × Value)) → (constant_contents b x p).types ≡ []
constant_types true x None = refl
constant_types true x (Some p) = refl
constant_types false x p = refl

constant_nested : (d : IdentDef) (x : Phrase) → NestedPlain (constant_declared d x)
constant_nested d x u e =
    let j = both (marked u false d) (constant_value u x ▷ no_nil x.start) in
    no_types (constant_contents (is_module_level u) d.ident j.node).types (constant_types (is_module_level u) d.ident j.node)

as_nested : (w : Written) → IsNode w → IsNested w → (u : Around) (name : List ℕ) (m : Mark) (o : Option Qualident) → w.name ≡ o → Quiet (λ (t : Typing). AreNested t.made t.made) (typing_as u name m w o)
as_nested w k n u name m None e = n.1 u name m false
as_nested w k n u name m (Some q) e =
    then_quiet (λ (t : Typing). t.made ≡ []) (λ (t : Typing). AreNested t.made t.made) (w.typing u name m false) (λ t. sound (equated u name m t)) (k.alone q e u name m false)
    (λ t i. λ b. subst (λ ts. AreNested (record { name = name; desc = desc.Alias m t.of } ∷ ts) (record { name = name; desc = desc.Alias m t.of } ∷ ts)) (sym i) (((λ x v p. tt), tt), tt))

made_nested : (o : Option (Mark × Typing)) → IfThere (λ (p : Mark × Typing). Anything p.0 × AreNested p.1.made p.1.made) o → AreNested (types_made o) (types_made o)
made_nested None h = tt
made_nested (Some p) h = h.1

type_nested : (d : IdentDef) (w : Written) → IsNode w → IsNested w → NestedPlain (type_declared d w)
type_nested d w k n u e =
    let m = newly u d in
    let r = u.path ++ d.ident.name in
    let t = typing_as u r (mark_or_hidden m.node) w w.name in
    let j = both m t in
    made_nested j.node (both_quiet Anything (λ (t : Typing). AreNested t.made t.made) m t (any_quiet m) (as_nested w k n u r (mark_or_hidden m.node) w.name refl) (front_empty j.notes.broken (twice u d.ident).broken e))

no_variable_types : (x : Ident) (o : Option (Mark × Typing)) → (variable_contents x o).types ≡ []
no_variable_types x None = refl
no_variable_types x (Some p) = refl

variables_make : (ds : List IdentDef) (t : Option Typing) (u : Around) → (variables_with ds t u).part.contents.types ≡ []
variables_make [] t u = refl
variables_make (d ∷ ds) t u =
    let m = marked u true d in
    let a = variable_with u d.ident m.notes (paired_typing m.node t) in
    subst (λ ts. ts ++ (variables_with ds t a.around).part.contents.types ≡ []) (sym (no_variable_types d.ident (paired_typing m.node t))) (variables_make ds t a.around)

in_nested : (o : Option Typing) → IfThere (λ (t : Typing). AreNested t.made t.made) o → AreNested (made_in o) (made_in o)
in_nested None h = tt
in_nested (Some t) h = h

variables_nested : (ds : List IdentDef) (w : Written) → IsNested w → NestedPlain (variables_declared ds w)
variables_nested ds w n u e =
    let name = u.path ++ first_name ds ++ codes ":" in
    let t : Judged Typing = w.typing u name mark.Hidden false in
    let rest = variables_with ds t.node (with_types u (made_in t.node)) in
    subst (λ ts. AreNested (made_in t.node ++ ts) (made_in t.node ++ ts)) (sym (variables_make ds t.node (with_types u (made_in t.node))))
    (subst (λ ts. AreNested ts ts) (sym (append-nil (made_in t.node))) (in_nested t.node (n.1 u name mark.Hidden false (front_empty t.notes.broken rest.part.notes.broken e))))

pub order_nested : (fs : List (Around → Declared)) → AllByRecursion PlacedPlain fs → AllByRecursion NestedPlain fs → NestedPlain (in_order fs)
order_nested [] p n u e = tt
order_nested (f ∷ fs) p n u e =
    let a = f u in
    let rest = in_order fs a.around in
    let first = front_empty a.part.notes.broken rest.part.notes.broken e in
    let last = back_empty a.part.notes.broken rest.part.notes.broken e in
    let b = order_placed fs p.1 a.around in
    nested_join u.path u a.around rest.around a.part.contents.types rest.part.contents.types ((p.0 u).types first).parts (subst (λ r. AllByRecursion (λ t. IsOfName r a.around rest.around t.name) rest.part.contents.types) (p.0 u).path (b.types last).parts) (n.0 u first) (order_nested fs p.1 n.1 a.around last)

abbrev NestedDeclaration : Declaration → Type 0
NestedDeclaration (Plain x f) = NestedPlain f
NestedDeclaration (Procedure p) = Unit {0}

abbrev PD : Decl → Type 0
PD x = decl_named x ≡ true → NestedDeclaration (declaration x)

abbrev SD : Type 0
SD = (x : Decl) × PD x

layer : (x : Decl-F Decl) → (decl_layer (map-Decl Decl Bool decl_named x) ≡ true → NestedDeclaration (decl_rule (map-Decl Decl Declaration declaration x))) → PD (roll-Decl x)
layer x h e = subst NestedDeclaration (sym (fold-roll-Decl Declaration decl_rule x)) (h (sym (fold-roll-Decl Bool decl_layer x) ∙ e))

decl_cases : (y : Decl-F SD) → PD (roll-Decl (map-Decl SD Decl (λ x. x.0) y))
decl_cases (Decl-F.Constant d x) = layer (Decl-F.Constant d x) (λ e. constant_nested d (phrase_of x))
decl_cases (Decl-F.NamedType d n) = layer (Decl-F.NamedType d n) (λ e. let p = and_parts (is_word d.ident.name) (type_named n) e in type_nested d (written n) (written_good n p.1) (written_nested n p.1))
decl_cases (Decl-F.Variables ds n) = layer (Decl-F.Variables ds n) (λ e. let p = and_parts (are_words (map (λ (d : IdentDef). d.ident.name) ds)) (type_named n) e in variables_nested ds (written n) (written_nested n p.1))
decl_cases (Decl-F.Procedure h ds body closing) = layer (Decl-F.Procedure h (map (λ (x : SD). x.0) ds) body closing) (λ e. tt)
decl_cases (Decl-F.Forward h) = layer (Decl-F.Forward h) (λ e. tt)

decl_nested : (x : Decl) → PD x
decl_nested = ind-Decl PD (λ x y is. subst (λ z. PD (roll-Decl z)) is (decl_cases y))

plain_kept : (d : Declaration) → NestedDeclaration d → (fs : List (Around → Declared)) → AllByRecursion NestedPlain fs → AllByRecursion NestedPlain (cons_option (plain_of d) fs)
plain_kept (Plain x f) h fs k = (h, k)
plain_kept (Procedure p) h fs k = k

pub decls_nested : (xs : List Decl) → all_true (map decl_named xs) ≡ true → AllByRecursion NestedPlain (filter_map plain_of (map declaration xs))
decls_nested [] e = tt
decls_nested (x ∷ xs) e = let p = and_parts (decl_named x) (all_true (map decl_named xs)) e in plain_kept (declaration x) (decl_nested x p.0) (filter_map plain_of (map declaration xs)) (decls_nested xs p.1)

-- THE TYPES OF A SEQUENCE
pub sequences_are_nested : SequencesAreNested
sequences_are_nested xs named u quiet = order_nested (filter_map plain_of (map declaration xs)) (decls_placed xs named) (decls_nested xs named) u quiet
