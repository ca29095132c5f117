-- Declarations that are no procedures: they add to the types that are known no others than they make, and leave the scope without forward declarations.
use Rattle.std.proofs.Common.{◌≡◌, ◌⊎◌, inl, inr, Bool, true, false, List, [], ◌∷◌, ◌++◌, map, Option, Some, None, refl, sym, subst, ◌∙◌}
use Rattle.std.specs.Prelude.{codes, cond}
use Rattle.std.specs.List.{AllByRecursion, cons_option, filter_map}
use Rattle.ob_tree.specs.declared.ident.Ident.{Ident}
use Rattle.ob_tree.specs.declared.ident.IdentDef.{IdentDef}
use Rattle.ob_tree.specs.declared.ident.Mark.{Mark}
use Rattle.ob_tree.specs.declared.ident.Mark.TheVariants as mark
use Rattle.ob_tree.specs.declared.decl.Decl.{Decl, roll-Decl, map-Decl}
use Rattle.ob_tree.specs.declared.decl.Decl.TheOpen.{Decl-F}
use Rattle.ob_tree.specs.declared.decl.Decl.TheFolds.{ind-Decl, fold-roll-Decl}
use Rattle.ob_types.specs.declared.value.Value.{Value}
use Rattle.ob_types.specs.declared.typed.TypedType.{TypedType}
use Rattle.ob_rules.specs.declared.entity.Entity.{Entity}
use Rattle.ob_rules.specs.declared.entity.Known.{Known}
use Rattle.ob_rules.specs.Judged.{Judged, both, ◌▷◌}
use Rattle.ob_rules.specs.Names.{Around, in_scope, found_in_scope}
use Rattle.ob_rules.specs.Expressions.{phrase_of, constant_value}
use Rattle.ob_rules.specs.Phrases.{Phrase}
use Rattle.ob_rules.specs.Types.{Typing, Written, written, marked, with_types}
use Rattle.ob_rules.specs.Headings.{leaves_room, mark_or_hidden}
use Rattle.ob_rules.specs.Declarations.{Part, Declared, declare_if, declare, constant_entity, no_nil, constant_declared, typing_as, types_made, type_entity, type_declared, variable_entity, variable_with, variables_with, paired_typing, made_in, first_name, variables_declared, Declaration, Plain, Procedure, plain_of, in_order, decl_rule, declaration, then_declared, newly}
use Rattle.law_names_types.specs.Once.{HasNoForward}
use Rattle.law_names_types.proofs.Items.{IsAmong, in_either, in_front, in_back}

pub record IsSteady (u : Around) (d : Declared) : Type 0 where
  pub unit : d.around.unit ≡ u.unit
  pub own : (t : TypedType) → IsAmong t d.around.own → IsAmong t d.part.contents.types ⊎ IsAmong t u.own
  pub forward : HasNoForward u → HasNoForward d.around

abbrev SteadyPlain : (Around → Declared) → Type 0
SteadyPlain f = (u : Around) → IsSteady u (f u)

same_unit : (o : Option Known) (u : Around) (x : Ident) (e : Entity) → (declare_if o u x e).unit ≡ u.unit
same_unit (Some k) u x e = refl
same_unit None u x e = refl

same_own : (o : Option Known) (u : Around) (x : Ident) (e : Entity) → (declare_if o u x e).own ≡ u.own
same_own (Some k) u x e = refl
same_own None u x e = refl

none_forward : (o : Option Known) (u : Around) (x : Ident) (e : Entity) → leaves_room false e ≡ false → HasNoForward u → HasNoForward (declare_if o u x e)
none_forward (Some j) u x e r h y k i = h y k i
none_forward None u x e r h y k i = by (in_scope u.scope (record { name = x.name; scope = u.scope; what = e }) y) i
  where
    by : (b : Bool) → cond b (Some (record { name = x.name; scope = u.scope; what = e })) (found_in_scope u y) ≡ Some k → leaves_room false k.what ≡ false
    by true i = let same : record { name = x.name; scope = u.scope; what = e } ≡ k = cc in subst (λ (k : Known). leaves_room false k.what ≡ false) same r
    by false i = h y k i

-- one name, behind types that it makes
declared_steady : (u v : Around) (p : Part) (x : Ident) (e : Entity) → v.unit ≡ u.unit → ((t : TypedType) → IsAmong t v.own → IsAmong t p.contents.types ⊎ IsAmong t u.own) → (HasNoForward u → HasNoForward v) → leaves_room false e ≡ false → IsSteady u (record { part = p; around = declare v x e })
declared_steady u v p x e n o f r = record {
  unit = same_unit (found_in_scope v x.name) v x e ∙ n;
  own = λ t i. o t (subst (λ ts. IsAmong t ts) (same_own (found_in_scope v x.name) v x e) i);
  forward = λ h. none_forward (found_in_scope v x.name) v x e r (f h);
}

then_steady : (u : Around) (a : Declared) (f : Around → Declared) → IsSteady u a → IsSteady a.around (f a.around) → IsSteady u (then_declared a f)
then_steady u a f g h =
    let d = f a.around in
    record {
      unit = h.unit ∙ g.unit;
      own = λ t i. behind t (h.own t i);
      forward = λ k. h.forward (g.forward k);
    }
  where
    before : (t : TypedType) → IsAmong t a.part.contents.types ⊎ IsAmong t u.own → IsAmong t (a.part.contents.types ++ (f a.around).part.contents.types) ⊎ IsAmong t u.own
    before t (inl i) = inl (in_front a.part.contents.types (f a.around).part.contents.types t i)
    before t (inr i) = inr i

    behind : (t : TypedType) → IsAmong t (f a.around).part.contents.types ⊎ IsAmong t a.around.own → IsAmong t (a.part.contents.types ++ (f a.around).part.contents.types) ⊎ IsAmong t u.own
    behind t (inl i) = inl (in_back a.part.contents.types (f a.around).part.contents.types t i)
    behind t (inr i) = before t (g.own t i)

nothing_steady : (u : Around) (d : Declared) → d.around ≡ u → IsSteady u d
nothing_steady u d e = record {
  unit = subst (λ (v : Around). v.unit ≡ u.unit) (sym e) refl;
  own = λ t i. inr (subst (λ (v : Around). IsAmong t v.own) e i);
  forward = λ h. subst HasNoForward (sym e) h;
}

constant_room : (o : Option (Mark × Value)) → leaves_room false (constant_entity o) ≡ false
constant_room None = refl
constant_room (Some p) = refl

type_room : (o : Option (Mark × Typing)) → leaves_room false (type_entity o) ≡ false
type_room None = refl
type_room (Some p) = refl

variable_room : (u : Around) (x : Ident) (o : Option (Mark × Typing)) → leaves_room false (variable_entity u x o) ≡ false
variable_room u x None = refl
variable_room u x (Some p) = refl

constant_steady : (d : IdentDef) (x : Phrase) → SteadyPlain (constant_declared d x)
constant_steady d x u =
    let j = both (marked u false d) (constant_value u x ▷ no_nil x.start) in
    declared_steady u u (constant_declared d x u).part d.ident (constant_entity j.node) refl (λ t i. inr i) (λ h. h) (constant_room j.node)

type_steady : (d : IdentDef) (w : Written) → SteadyPlain (type_declared d w)
type_steady d w u =
    let m = newly u d in
    let j = both m (typing_as u (u.path ++ d.ident.name) (mark_or_hidden m.node) w w.name) in
    declared_steady u (with_types u (types_made j.node)) (type_declared d w u).part d.ident (type_entity j.node) refl (λ t i. in_either (types_made j.node) u.own t i) (λ h. h) (type_room j.node)

variables_steady : (ds : List IdentDef) (t : Option Typing) → SteadyPlain (variables_with ds t)
variables_steady [] t u = nothing_steady u (variables_with [] t u) refl
variables_steady (d ∷ ds) t u =
    let m = marked u true d in
    let p = paired_typing m.node t in
    let a = variable_with u d.ident m.notes p in
    then_steady u a (λ v. variables_with ds t v) (declared_steady u u a.part d.ident (variable_entity u d.ident p) refl (λ t i. inr i) (λ h. h) (variable_room u d.ident p)) (variables_steady ds t a.around)

variables_declared_steady : (ds : List IdentDef) (w : Written) → SteadyPlain (variables_declared ds w)
variables_declared_steady ds w u = record { unit = rest.unit; own = λ t i. by t (rest.own t i); forward = rest.forward }
  where
    t : Judged Typing
    t = w.typing u (u.path ++ first_name ds ++ codes ":") mark.Hidden false

    made : List TypedType
    made = made_in t.node

    others : List TypedType
    others = (variables_with ds t.node (with_types u made)).part.contents.types

    rest : IsSteady (with_types u made) (variables_with ds t.node (with_types u made))
    rest = variables_steady ds t.node (with_types u made)

    first : (x : TypedType) → IsAmong x made ⊎ IsAmong x u.own → IsAmong x (made ++ others) ⊎ IsAmong x u.own
    first x (inl i) = inl (in_front made others x i)
    first x (inr i) = inr i

    by : (x : TypedType) → IsAmong x others ⊎ IsAmong x (made ++ u.own) → IsAmong x (made ++ others) ⊎ IsAmong x u.own
    by x (inl i) = inl (in_back made others x i)
    by x (inr i) = first x (in_either made u.own x i)

pub order_steady : (fs : List (Around → Declared)) → AllByRecursion SteadyPlain fs → SteadyPlain (in_order fs)
order_steady [] g u = nothing_steady u (in_order [] u) refl
order_steady (f ∷ fs) g u = then_steady u (f u) (λ v. in_order fs v) (g.0 u) (order_steady fs g.1 (f u).around)

abbrev SteadyDeclaration : Declaration → Type 0
SteadyDeclaration (Plain x f) = SteadyPlain f
SteadyDeclaration (Procedure p) = Unit {0}

abbrev PD : Decl → Type 0
PD x = SteadyDeclaration (declaration x)

abbrev SD : Type 0
SD = (x : Decl) × PD x

layer : (x : Decl-F Decl) → SteadyDeclaration (decl_rule (map-Decl Decl Declaration declaration x)) → PD (roll-Decl x)
layer x h = subst SteadyDeclaration (sym (fold-roll-Decl Declaration decl_rule x)) h

decl_cases : (y : Decl-F SD) → PD (roll-Decl (map-Decl SD Decl (λ x. x.0) y))
decl_cases (Decl-F.Constant d x) = layer (Decl-F.Constant d x) (constant_steady d (phrase_of x))
decl_cases (Decl-F.NamedType d n) = layer (Decl-F.NamedType d n) (type_steady d (written n))
decl_cases (Decl-F.Variables ds n) = layer (Decl-F.Variables ds n) (variables_declared_steady ds (written n))
decl_cases (Decl-F.Procedure h ds body closing) = layer (Decl-F.Procedure h (map (λ (x : SD). x.0) ds) body closing) tt
decl_cases (Decl-F.Forward h) = layer (Decl-F.Forward h) tt

decl_steady : (x : Decl) → PD x
decl_steady = ind-Decl PD (λ x y is. subst (λ z. PD (roll-Decl z)) is (decl_cases y))

plain_kept : (d : Declaration) → SteadyDeclaration d → (fs : List (Around → Declared)) → AllByRecursion SteadyPlain fs → AllByRecursion SteadyPlain (cons_option (plain_of d) fs)
plain_kept (Plain x f) h fs k = (h, k)
plain_kept (Procedure p) h fs k = k

decls_steady : (xs : List Decl) → AllByRecursion SteadyPlain (filter_map plain_of (map declaration xs))
decls_steady [] = tt
decls_steady (x ∷ xs) = plain_kept (declaration x) (decl_steady x) (filter_map plain_of (map declaration xs)) (decls_steady xs)

pub sequence_steady : (xs : List Decl) (u : Around) → IsSteady u (in_order (filter_map plain_of (map declaration xs)) u)
sequence_steady xs u = order_steady (filter_map plain_of (map declaration xs)) (decls_steady xs) u
