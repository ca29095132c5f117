-- The types that the declarations of a scope make are of the parts of their names, and differ.
use Rattle.std.proofs.Common.{◌≡◌, ◌≢◌, ℕ, Bool, true, false, List, [], ◌∷◌, ◌++◌, map, Option, Some, None, refl, sym, ap, subst, ◌∙◌}
use Rattle.std.specs.Prelude.{codes}
use Rattle.std.specs.List.{AllByRecursion, cons_option, filter_map}
use Rattle.std.proofs.lemmas.Bool.{and_parts}
use Rattle.std.proofs.lemmas.List.{append-nil}
use Rattle.ob_tree.specs.declared.ident.Ident.{Ident}
use Rattle.ob_tree.specs.declared.ident.IdentDef.{IdentDef}
use Rattle.ob_tree.specs.declared.ident.Import.{Import}
use Rattle.ob_tree.specs.declared.ident.Mark.{Mark}
use Rattle.ob_tree.specs.declared.ident.Mark.TheVariants as mark
use Rattle.ob_tree.specs.declared.ident.Qualident.{Qualident}
use Rattle.ob_tree.specs.declared.decl.Decl.{Decl, roll-Decl, map-Decl}
use Rattle.ob_tree.specs.declared.decl.Decl.TheOpen.{Decl-F}
use Rattle.ob_tree.specs.declared.decl.Decl.TheFolds.{ind-Decl, fold-roll-Decl}
use Rattle.ob_types.specs.declared.value.Value.{Value}
use Rattle.ob_types.specs.declared.desc.Desc.{Desc}
use Rattle.ob_types.specs.declared.desc.Desc.TheVariants as desc
use Rattle.ob_types.specs.declared.typed.TypedType.{TypedType}
use Rattle.ob_rules.specs.declared.entity.Entity.{Entity}
use Rattle.ob_rules.specs.declared.entity.Known.{Known}
use Rattle.ob_rules.specs.declared.broken.Broken.{Broken}
use Rattle.ob_rules.specs.Judged.{Judged, Notes, sound, both, ◌▷◌}
use Rattle.ob_rules.specs.Names.{Around, found_in_scope}
use Rattle.ob_rules.specs.Expressions.{phrase_of, constant_value}
use Rattle.ob_rules.specs.Phrases.{Phrase}
use Rattle.ob_rules.specs.Types.{Typing, Written, written, is_module_level, marked, with_types}
use Rattle.ob_rules.specs.Statements.{judging}
use Rattle.ob_rules.specs.Headings.{mark_or_hidden, heading_of}
use Rattle.ob_rules.specs.Declarations.{Contents, no_contents, first_name, Part, Declared, declare_if, declare, twice, constant_contents, no_nil, constant_declared, equated, typing_as, type_entity, types_made, type_declared, variable_entity, variable_contents, variable_with, variables_with, paired_typing, made_in, variables_typed, variables_declared, Declaration, Plain, Procedure, plain_of, in_order, decl_rule, declaration, import_declared, target_of, behind_part, then_declared, newly}
use Rattle.law_names_distinct.specs.Distinct.{AreDistinct}
use Rattle.law_names_distinct.specs.Parts.{IsWord, IsPart}
use Rattle.law_names_distinct.specs.Named.{is_word, all_true, are_words, type_named, parameters_named, decl_layer, decl_named}
use Rattle.law_names_distinct.proofs.Fresh.{is_known, stays_known, same_scope, is_declared, once, not_before}
use Rattle.law_names_distinct.proofs.Parts.{parts_differ, part_itself, part_within}
use Rattle.law_names_distinct.proofs.Quiet.{Quiet, any_quiet, then_quiet, both_quiet, there_more}
use Rattle.law_names_distinct.proofs.Typings.{AreIn, IsIn, HasFirst, none_in, behind_mark}
use Rattle.law_names_distinct.proofs.Written.{IsNode, written_good, words_are, has_first}
use Rattle.law_lists.proofs.Lists.{Anything, IfThere, all_both, all_from, back_empty, front_empty}

-- of a name that is declared between these
pub record IsOfName (path : List ℕ) (u v : Around) (n : List ℕ) : Type 0 where
  pub name : List ℕ
  pub word : IsWord name
  pub new : is_known u name ≡ false
  pub there : is_known v name ≡ true
  pub part : IsPart (path ++ name) n

pub record AreBetween (path : List ℕ) (u v : Around) (ts : List TypedType) : Type 0 where
  pub parts : AllByRecursion (λ t. IsOfName path u v t.name) ts
  pub differ : AreDistinct (λ t. t.name) ts

pub record IsPlaced (u : Around) (d : Declared) : Type 0 where
  pub scope : d.around.scope ≡ u.scope
  pub path : d.around.path ≡ u.path
  pub keeps : (x : List ℕ) → is_known u x ≡ true → is_known d.around x ≡ true
  pub types : d.part.notes.broken ≡ [] → AreBetween u.path u d.around d.part.contents.types

none_between : (path : List ℕ) (u v : Around) → AreBetween path u v []
none_between path u v = record { parts = tt; differ = tt }

-- ---- one behind another

apart : (path : List ℕ) (u v w : Around) (ts us : List TypedType) → AllByRecursion (λ t. IsOfName path u v t.name) ts → AllByRecursion (λ t. IsOfName path v w t.name) us → AreDistinct (λ t. t.name) ts → AreDistinct (λ t. t.name) us → AreDistinct (λ t. t.name) (ts ++ us)
apart path u v w [] us p q d e = e
apart path u v w (t ∷ ts) us p q d e = (
  all_both (λ y. y.name ≢ t.name) ts us d.0 (all_from (λ y. IsOfName path v w y.name) (λ y. y.name ≢ t.name) (λ y o. parts_differ path o.name p.0.name y.name t.name o.word p.0.word (λ same. let bad : true ≡ false = sym p.0.there ∙ ap (is_known v) (sym same) ∙ o.new in absurd cc) o.part p.0.part) us q),
  apart path u v w ts us p.1 q d.1 e,
)

-- all of two, between the first and the last
pub between_both : (path : List ℕ) (u v w : Around) (ts us : List TypedType) → ((x : List ℕ) → is_known u x ≡ true → is_known v x ≡ true) → ((x : List ℕ) → is_known v x ≡ true → is_known w x ≡ true) → AreBetween path u v ts → AreBetween path v w us → AreBetween path u w (ts ++ us)
between_both path u v w ts us before behind g h = record {
  parts = all_both (λ t. IsOfName path u w t.name) ts us
      (all_from (λ t. IsOfName path u v t.name) (λ t. IsOfName path u w t.name) (λ t o. record { name = o.name; word = o.word; new = o.new; there = behind o.name o.there; part = o.part }) ts g.parts)
      (all_from (λ t. IsOfName path v w t.name) (λ t. IsOfName path u w t.name) (λ t o. record { name = o.name; word = o.word; new = not_before (is_known u o.name) (is_known v o.name) (before o.name) o.new; there = o.there; part = o.part }) us h.parts);
  differ = apart path u v w ts us g.parts h.parts g.differ h.differ;
}

then_placed : (u : Around) (a : Declared) (f : Around → Declared) → IsPlaced u a → IsPlaced a.around (f a.around) → IsPlaced u (then_declared a f)
then_placed u a f g h =
    let d = f a.around in
    record {
      scope = h.scope ∙ g.scope;
      path = h.path ∙ g.path;
      keeps = λ x k. h.keeps x (g.keeps x k);
      types = λ e. between_both u.path u a.around d.around a.part.contents.types d.part.contents.types g.keeps h.keeps (g.types (front_empty a.part.notes.broken d.part.notes.broken e)) (subst (λ p. AreBetween p a.around d.around d.part.contents.types) g.path (h.types (back_empty a.part.notes.broken d.part.notes.broken e)));
    }

same_path : (o : Option Known) (u : Around) (x : Ident) (e : Entity) → (declare_if o u x e).path ≡ u.path
same_path (Some k) u x e = refl
same_path None u x e = refl

-- one that makes no types
plain_placed : (u : Around) (p : Part) (x : Ident) (e : Entity) → p.contents.types ≡ [] → IsPlaced u (record { part = p; around = declare u x e })
plain_placed u p x e n = record {
  scope = same_scope (found_in_scope u x.name) u x e;
  path = same_path (found_in_scope u x.name) u x e;
  keeps = λ y h. stays_known (found_in_scope u x.name) u x e y h;
  types = λ b. subst (AreBetween u.path u (declare u x e)) (sym n) (none_between u.path u (declare u x e));
}

abbrev PlacedPlain : (Around → Declared) → Type 0
PlacedPlain f = (u : Around) → IsPlaced u (f u)

no_types : (b : Bool) (x : Ident) (p : Option (Mark × Value)) → (constant_contents b x p).types ≡ []
no_types true x None = refl
no_types true x (Some p) = refl
no_types false x p = refl

constant_placed : (d : IdentDef) (x : Phrase) → PlacedPlain (constant_declared d x)
constant_placed d x u = let j = both (marked u false d) (constant_value u x ▷ no_nil x.start) in plain_placed u _ d.ident _ (no_types (is_module_level u) d.ident j.node)

pub import_placed : (i : Import) (t : Ident) → PlacedPlain (import_declared i t)
import_placed i t u = plain_placed u _ i.ident _ refl

-- ---- types

-- the types of one name that is declared
named_between : (u v : Around) (x : List ℕ) (ts : List TypedType) → IsWord x → is_known u x ≡ false → is_known v x ≡ true → AreIn (u.path ++ x) ts → AreBetween u.path u v ts
named_between u v x ts w n t h = record {
  parts = all_from (λ y. IsPart (u.path ++ x) y.name) (λ y. IsOfName u.path u v y.name) (λ y p. record { name = x; word = w; new = n; there = t; part = p }) ts h.parts;
  differ = h.differ;
}

one_in : (r : List ℕ) (d : Desc) → AreIn r (record { name = r; desc = d } ∷ [])
one_in r d = record { parts = (part_itself r, tt); differ = (tt, tt) }

as_good : (w : Written) → IsNode w → (u : Around) (name : List ℕ) (m : Mark) (o : Option Qualident) → w.name ≡ o → Quiet (IsIn name) (typing_as u name m w o)
as_good w g u name m None e = g.typing u name m false
as_good w g u name m (Some q) e =
    let t = w.typing u name m false in
    then_quiet (λ (t : Typing). t.made ≡ []) (IsIn name) t (λ t. sound (equated u name m t)) (g.alone q e u name m false)
    (λ t n. λ b. subst (λ ts. AreIn name (record { name = name; desc = desc.Alias m t.of } ∷ ts)) (sym n) (one_in name (desc.Alias m t.of)))

made_types : (r : List ℕ) (o : Option (Mark × Typing)) → IfThere (λ (p : Mark × Typing). Anything p.0 × IsIn r p.1) o → AreIn r (types_made o)
made_types r None h = none_in r
made_types r (Some p) h = h.1

pub type_placed : (d : IdentDef) → IsWord d.ident.name → (w : Written) → IsNode w → PlacedPlain (type_declared d w)
type_placed d word w g u =
    let x = d.ident in
    let m = newly u d in
    let r = u.path ++ x.name in
    let t = typing_as u r (mark_or_hidden m.node) w w.name in
    let j = both m t in
    let ts = types_made j.node in
    let v = with_types u ts in
    let e = type_entity j.node in
    record {
      scope = same_scope (found_in_scope v x.name) v x e;
      path = same_path (found_in_scope v x.name) v x e;
      keeps = λ y h. stays_known (found_in_scope v x.name) v x e y h;
      types = λ b.
          let quiet = front_empty j.notes.broken (twice u x).broken b in
          named_between u (declare v x e) x.name ts word (once u x (back_empty j.notes.broken (twice u x).broken b)) (is_declared (found_in_scope v x.name) v x e refl)
          (made_types r j.node (both_quiet Anything (IsIn r) m t (any_quiet m) (as_good w g u r (mark_or_hidden m.node) w.name refl) quiet));
    }

-- ---- variables

no_variable_types : (x : Ident) (o : Option (Mark × Typing)) → (variable_contents x o).types ≡ []
no_variable_types x None = refl
no_variable_types x (Some p) = refl

variables_make : (ds : List IdentDef) (t : Option Typing) (u : Around) → (variables_with ds t u).part.contents.types ≡ []
variables_make [] t u = refl
variables_make (d ∷ ds) t u =
    let m = marked u true d in
    let a = variable_with u d.ident m.notes (paired_typing m.node t) in
    subst (λ ts. ts ++ (variables_with ds t a.around).part.contents.types ≡ []) (sym (no_variable_types d.ident (paired_typing m.node t))) (variables_make ds t a.around)

nothing_placed : (u : Around) → IsPlaced u (record { part = record { notes = record { broken = []; objects = []; types = []; lengths = []; later = [] }; contents = no_contents }; around = u })
nothing_placed u = record { scope = refl; path = refl; keeps = λ x h. h; types = λ b. none_between u.path u u }

variables_placed : (ds : List IdentDef) (t : Option Typing) → PlacedPlain (variables_with ds t)
variables_placed [] t u = nothing_placed u
variables_placed (d ∷ ds) t u =
    let m = marked u true d in
    let p = paired_typing m.node t in
    then_placed u (variable_with u d.ident m.notes p) (λ v. variables_with ds t v) (plain_placed u (variable_with u d.ident m.notes p).part d.ident (variable_entity u d.ident p) (no_variable_types d.ident p)) (variables_placed ds t (variable_with u d.ident m.notes p).around)

pub variables_declared_placed : (ds : List IdentDef) → HasFirst ds → (w : Written) → IsNode w → PlacedPlain (variables_declared ds w)
variables_declared_placed [] h w g u = absurd h
variables_declared_placed (d ∷ ds) h w g u =
    let r = u.path ++ d.ident.name in
    let t : Judged Typing = w.typing u (r ++ codes ":") mark.Hidden false in
    let made = made_in t.node in
    let v = with_types u made in
    let m = marked v true d in
    let p = paired_typing m.node t.node in
    let e = variable_entity v d.ident p in
    let a = variable_with v d.ident m.notes p in
    let b = variables_with (d ∷ ds) t.node v in
    let k = variables_placed (d ∷ ds) t.node v in
    let rest = variables_placed ds t.node a.around in
    record {
      scope = k.scope;
      path = k.path;
      keeps = k.keeps;
      types = λ q.
          let first = front_empty a.part.notes.broken (variables_with ds t.node a.around).part.notes.broken (back_empty t.notes.broken b.part.notes.broken q) in
          subst (AreBetween u.path u b.around) (sym (ap (λ ts. made ++ ts) (variables_make (d ∷ ds) t.node v) ∙ append-nil made))
          (named_between u b.around d.ident.name made h (once u d.ident (back_empty m.notes.broken (twice v d.ident).broken first)) (rest.keeps d.ident.name (is_declared (found_in_scope v d.ident.name) v d.ident e refl))
          (made_named r t.node (g.typing u (r ++ codes ":") mark.Hidden false (front_empty t.notes.broken b.part.notes.broken q))));
    }
  where
    made_named : (r : List ℕ) (o : Option Typing) → IfThere (IsIn (r ++ codes ":")) o → AreIn r (made_in o)
    made_named r None h = none_in r
    made_named r (Some t) h = record { parts = all_from (λ y. IsPart (r ++ codes ":") y.name) (λ y. IsPart r y.name) (λ y q. part_within r [] y.name 58 refl refl tt q) t.made h.parts; differ = h.differ }

-- ---- in their order

pub order_placed : (fs : List (Around → Declared)) → AllByRecursion PlacedPlain fs → PlacedPlain (in_order fs)
order_placed [] g u = nothing_placed u
order_placed (f ∷ fs) g u = then_placed u (f u) (λ v. in_order fs v) (g.0 u) (order_placed fs g.1 (f u).around)

abbrev PlacedDeclaration : Declaration → Type 0
PlacedDeclaration (Plain x f) = PlacedPlain f
PlacedDeclaration (Procedure p) = Unit {0}

abbrev PD : Decl → Type 0
PD x = decl_named x ≡ true → PlacedDeclaration (declaration x)

abbrev SD : Type 0
SD = (x : Decl) × PD x

layer : (x : Decl-F Decl) → (decl_layer (map-Decl Decl Bool decl_named x) ≡ true → PlacedDeclaration (decl_rule (map-Decl Decl Declaration declaration x))) → PD (roll-Decl x)
layer x h e = subst PlacedDeclaration (sym (fold-roll-Decl Declaration decl_rule x)) (h (sym (fold-roll-Decl Bool decl_layer x) ∙ e))

decl_cases : (y : Decl-F SD) → PD (roll-Decl (map-Decl SD Decl (λ x. x.0) y))
decl_cases (Decl-F.Constant d x) = layer (Decl-F.Constant d x) (λ e. constant_placed d (phrase_of x))
decl_cases (Decl-F.NamedType d n) = layer (Decl-F.NamedType d n) (λ e. let p = and_parts (is_word d.ident.name) (type_named n) e in type_placed d (words_are d.ident.name p.0) (written n) (written_good n p.1))
decl_cases (Decl-F.Variables ds n) = layer (Decl-F.Variables ds n) (λ e. let p = and_parts (are_words (map (λ (d : IdentDef). d.ident.name) ds)) (type_named n) e in variables_declared_placed ds (has_first ds p.0) (written n) (written_good n p.1))
decl_cases (Decl-F.Procedure h ds body closing) = layer (Decl-F.Procedure h (map (λ (x : SD). x.0) ds) body closing) (λ e. tt)
decl_cases (Decl-F.Forward h) = layer (Decl-F.Forward h) (λ e. tt)

decl_placed : (x : Decl) → PD x
decl_placed = ind-Decl PD (λ x y is. subst (λ z. PD (roll-Decl z)) is (decl_cases y))

plain_kept : (d : Declaration) → PlacedDeclaration d → (fs : List (Around → Declared)) → AllByRecursion PlacedPlain fs → AllByRecursion PlacedPlain (cons_option (plain_of d) fs)
plain_kept (Plain x f) h fs k = (h, k)
plain_kept (Procedure p) h fs k = k

pub decls_placed : (xs : List Decl) → all_true (map decl_named xs) ≡ true → AllByRecursion PlacedPlain (filter_map plain_of (map declaration xs))
decls_placed [] e = tt
decls_placed (x ∷ xs) e = let p = and_parts (decl_named x) (all_true (map decl_named xs)) e in plain_kept (declaration x) (decl_placed x p.0) (filter_map plain_of (map declaration xs)) (decls_placed xs p.1)

-- THE TYPES THAT THE DECLARATIONS OF A SEQUENCE MAKE
pub sequence_types : (xs : List Decl) → all_true (map decl_named xs) ≡ true → (u : Around) → IsPlaced u (in_order (filter_map plain_of (map declaration xs)) u)
sequence_types xs e u = order_placed (filter_map plain_of (map declaration xs)) (decls_placed xs e) u
