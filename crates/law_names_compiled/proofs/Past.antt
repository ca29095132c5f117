-- Forward declarations stand in outer scopes, where a sequence of declarations begins.
use Rattle.std.proofs.Common.{◌≡◌, ℕ, suc, ◌+◌, ◌<◌, Bool, true, false, List, [], ◌∷◌, ◌++◌, length, map, Option, Some, None, refl, sym, subst, ◌∙◌, cond, arith}
use Rattle.std.specs.Prelude.{nat_eq, nat_lt, bytes_eq}
use Rattle.std.specs.List.{AllByRecursion, cons_option, find, filter, filter_map}
use Rattle.std.proofs.lemmas.Bool.{eqb-true, and_parts}
use Rattle.ob_tree.specs.declared.ident.Ident.{Ident}
use Rattle.ob_tree.specs.declared.ident.IdentDef.{IdentDef}
use Rattle.ob_tree.specs.declared.ident.Import.{Import}
use Rattle.ob_tree.specs.declared.ident.Mark.{Mark}
use Rattle.ob_tree.specs.declared.ident.Mark.TheVariants as mark
use Rattle.ob_tree.specs.declared.decl.Receiver.{Receiver as RawReceiver}
use Rattle.ob_tree.specs.declared.decl.Decl.{Decl, roll-Decl, map-Decl}
use Rattle.ob_tree.specs.declared.decl.Decl.TheOpen.{Decl-F}
use Rattle.ob_tree.specs.declared.decl.Decl.TheFolds.{ind-Decl, fold-roll-Decl}
use Rattle.ob_types.specs.declared.types.Mode.{Mode}
use Rattle.ob_types.specs.declared.value.Value.{Value}
use Rattle.ob_rules.specs.declared.entity.Entity.{Entity}
use Rattle.ob_rules.specs.declared.entity.Known.{Known}
use Rattle.ob_rules.specs.Judged.{both, ◌▷◌}
use Rattle.ob_rules.specs.Names.{Around, in_scope, found_in_scope}
use Rattle.ob_rules.specs.Phrases.{Phrase}
use Rattle.ob_rules.specs.Expressions.{phrase_of, constant_value}
use Rattle.ob_rules.specs.Types.{Typing, Written, WrittenSection, written, with_types, marked, inner, mode_of, parameter_as, declare_all, with_made, section_name, sections}
use Rattle.ob_rules.specs.Headings.{BoundAs, WrittenHeading, Head, Heads, owner_if, knows_receiver, heading_parameters, head_of, leaves_room, name_twice, declared_head, knows_procedure, known_behind, types_of, add_heading, mark_or_hidden}
use Rattle.ob_rules.specs.Declarations.{Declared, declare_if, no_nil, constant_entity, constant_declared, typing_as, type_entity, types_made, type_declared, variable_entity, paired_typing, variable_marked, variables_with, made_in, first_name, variables_declared, Written_procedure, Declaration, Plain, Procedure, plain_of, in_order, headings_in_order, decl_rule, declaration, is_system, import_entity, import_declared, target_of, newly}
use Rattle.std.specs.Prelude.{codes}
use Rattle.law_names_types.specs.Once.{HasNoForward}
use Rattle.law_lists.proofs.Lists.{all_both, all_from}

-- a forward declaration is of a scope below that number
abbrev pub IsPast : ℕ → Known → Type 0
IsPast n k = leaves_room false k.what ≡ true → k.scope < n

abbrev pub ArePast : ℕ → List Known → Type 0
ArePast n ks = AllByRecursion (IsPast n) ks

found_past : (n : ℕ) (x : List ℕ) (k : Known) (ks : List Known) → ArePast n ks → find (λ k. in_scope n k x) ks ≡ Some k → leaves_room false k.what ≡ false
found_past n x k [] h e = absurd cc
found_past n x k (j ∷ ks) h e = by (in_scope n j x) refl e (λ e. found_past n x k ks h.1 e)
  where
    room : (b : Bool) → leaves_room false j.what ≡ b → nat_eq j.scope n ≡ true → b ≡ false
    room true i e = let l = h.0 i in let s = eqb-true j.scope n e in absurd (omega (arith, l, s))
    room false i e = refl

    by : (b : Bool) → in_scope n j x ≡ b → cond b (Some j) (find (λ k. in_scope n k x) ks) ≡ Some k → (find (λ k. in_scope n k x) ks ≡ Some k → leaves_room false k.what ≡ false) → leaves_room false k.what ≡ false
    by true i e r =
        let same : j ≡ k = cc in
        subst (λ (k : Known). leaves_room false k.what ≡ false) same (room (leaves_room false j.what) refl (and_parts (nat_eq j.scope n) (bytes_eq j.name x) i).0)
    by false i e r = r e

-- then none stands in the scope
pub none_forward : (v : Around) → ArePast v.scope v.known → HasNoForward v
none_forward v h x k e = found_past v.scope x k v.known h e

pub more_past : (n : ℕ) (ks : List Known) → ArePast n ks → ArePast (suc n) ks
more_past n ks h = all_from (IsPast n) (IsPast (suc n)) (λ k i. λ e. let l = i e in omega (arith, l)) ks h

-- ---- declarations

never : (n : ℕ) (k : Known) → leaves_room false k.what ≡ false → IsPast n k
never n k h = λ e. absurd (let bad : true ≡ false = sym e ∙ h in cc)

declare_past : (n : ℕ) (o : Option Known) (u : Around) (x : Ident) (e : Entity) → leaves_room false e ≡ false → ArePast n u.known → ArePast n (declare_if o u x e).known
declare_past n (Some k) u x e f h = h
declare_past n None u x e f h = (never n (record { name = x.name; scope = u.scope; what = e }) f, h)

constant_room : (o : Option (Mark × Value)) → leaves_room false (constant_entity o) ≡ false
constant_room None = refl
constant_room (Some p) = refl

type_room : (o : Option (Mark × Typing)) → leaves_room false (type_entity o) ≡ false
type_room None = refl
type_room (Some p) = refl

variable_room : (u : Around) (x : Ident) (o : Option (Mark × Typing)) → leaves_room false (variable_entity u x o) ≡ false
variable_room u x None = refl
variable_room u x (Some p) = refl

import_room : (b : Bool) (t : Ident) → leaves_room false (import_entity b t) ≡ false
import_room true t = refl
import_room false t = refl

abbrev pub PastPlain : (Around → Declared) → Type 0
PastPlain f = (n : ℕ) (u : Around) → ArePast n u.known → ArePast n (f u).around.known

constant_past : (d : IdentDef) (x : Phrase) → PastPlain (constant_declared d x)
constant_past d x n u h =
    let j = both (marked u false d) (constant_value u x ▷ no_nil x.start) in
    declare_past n (found_in_scope u d.ident.name) u d.ident (constant_entity j.node) (constant_room j.node) h

type_past : (d : IdentDef) (w : Written) → PastPlain (type_declared d w)
type_past d w n u h =
    let m = newly u d in
    let j = both m (typing_as u (u.path ++ d.ident.name) (mark_or_hidden m.node) w w.name) in
    let v = with_types u (types_made j.node) in
    declare_past n (found_in_scope v d.ident.name) v d.ident (type_entity j.node) (type_room j.node) h

variables_past : (ds : List IdentDef) (t : Option Typing) → PastPlain (variables_with ds t)
variables_past [] t n u h = h
variables_past (d ∷ ds) t n u h =
    let m = marked u true d in
    let e = variable_entity u d.ident (paired_typing m.node t) in
    variables_past ds t n (variable_marked u d.ident m t).around (declare_past n (found_in_scope u d.ident.name) u d.ident e (variable_room u d.ident (paired_typing m.node t)) h)

variables_declared_past : (ds : List IdentDef) (w : Written) → PastPlain (variables_declared ds w)
variables_declared_past ds w n u h =
    let t = w.typing u (u.path ++ first_name ds ++ codes ":") mark.Hidden false in
    variables_past ds t.node n (with_types u (made_in t.node)) h

import_past : (i : Import) (t : Ident) → PastPlain (import_declared i t)
import_past i t n u h = declare_past n (found_in_scope u i.ident.name) u i.ident (import_entity (is_system t.name) t) (import_room (is_system t.name) t) h

pub order_past : (fs : List (Around → Declared)) → AllByRecursion PastPlain fs → PastPlain (in_order fs)
order_past [] g n u h = h
order_past (f ∷ fs) g n u h = order_past fs g.1 n (f u).around (g.0 n u h)

pub imports_past : (is : List Import) → AllByRecursion PastPlain (map (λ i. import_declared i (target_of i)) is)
imports_past [] = tt
imports_past (i ∷ is) = (import_past i (target_of i), imports_past is)

abbrev PastDeclaration : Declaration → Type 0
PastDeclaration (Plain x f) = PastPlain f
PastDeclaration (Procedure p) = Unit {0}

abbrev PD : Decl → Type 0
PD x = PastDeclaration (declaration x)

abbrev SD : Type 0
SD = (x : Decl) × PD x

layer : (x : Decl-F Decl) → PastDeclaration (decl_rule (map-Decl Decl Declaration declaration x)) → PD (roll-Decl x)
layer x h = subst PastDeclaration (sym (fold-roll-Decl Declaration decl_rule x)) h

decl_cases : (y : Decl-F SD) → PD (roll-Decl (map-Decl SD Decl (λ x. x.0) y))
decl_cases (Decl-F.Constant d x) = layer (Decl-F.Constant d x) (constant_past d (phrase_of x))
decl_cases (Decl-F.NamedType d n) = layer (Decl-F.NamedType d n) (type_past d (written n))
decl_cases (Decl-F.Variables ds n) = layer (Decl-F.Variables ds n) (variables_declared_past ds (written n))
decl_cases (Decl-F.Procedure h ds body closing) = layer (Decl-F.Procedure h (map (λ (x : SD). x.0) ds) body closing) tt
decl_cases (Decl-F.Forward h) = layer (Decl-F.Forward h) tt

decl_past : (x : Decl) → PD x
decl_past = ind-Decl PD (λ x y is. subst (λ z. PD (roll-Decl z)) is (decl_cases y))

plain_kept : (d : Declaration) → PastDeclaration d → (fs : List (Around → Declared)) → AllByRecursion PastPlain fs → AllByRecursion PastPlain (cons_option (plain_of d) fs)
plain_kept (Plain x f) h fs k = (h, k)
plain_kept (Procedure p) h fs k = k

pub decls_past : (xs : List Decl) → AllByRecursion PastPlain (filter_map plain_of (map declaration xs))
decls_past [] = tt
decls_past (x ∷ xs) = plain_kept (declaration x) (decl_past x) (filter_map plain_of (map declaration xs)) (decls_past xs)

-- ---- parameters

parameter_room : (u : Around) (m : Mode) (x : Ident) (o : Option Typing) → leaves_room false (parameter_as u m x o) ≡ false
parameter_room u m x None = refl
parameter_room u m x (Some t) = refl

declare_all_past : (n : ℕ) (u : Around) (m : Mode) (o : Option Typing) (xs : List Ident) → ArePast n u.known → ArePast n (declare_all u m o xs).around.known
declare_all_past n u m o [] h = h
declare_all_past n u m o (x ∷ xs) h =
    let e = parameter_as u m x o in
    let k : Known = record { name = x.name; scope = u.scope; what = e } in
    declare_all_past n (record u { known = k ∷ u.known }) m o xs (never n k (parameter_room u m x o), h)

with_past : (n : ℕ) (u : Around) (o : Option Typing) → ArePast n u.known → ArePast n (with_made u o).known
with_past n u None h = h
with_past n u (Some t) h = h

sections_past : (n : ℕ) (u : Around) (name : List ℕ) (i : ℕ) (ss : List WrittenSection) → ArePast n u.known → ArePast n (sections u name i ss).known
sections_past n u name i [] h = h
sections_past n u name i (s ∷ ss) h =
    let t = s.node.typing u (section_name name i) mark.Hidden true in
    let m = declare_all u (mode_of s.is_var) t.node s.names in
    sections_past n (with_made m.around t.node) name (i + length s.names) ss (with_past n m.around t.node (declare_all_past n u (mode_of s.is_var) t.node s.names h))

receiver_past : (n : ℕ) (u : Around) (r : Option RawReceiver) (o : Option (Option BoundAs)) → ArePast n u.known → ArePast n (knows_receiver u r o).known
receiver_past n u None o h = h
receiver_past n u (Some r) None h = ((λ e. absurd cc), h)
receiver_past n u (Some r) (Some None) h = ((λ e. absurd cc), h)
receiver_past n u (Some r) (Some (Some b)) h = ((λ e. absurd cc), h)

filter_past : (n : ℕ) (test : Known → Bool) (ks : List Known) → ArePast n ks → ArePast n (filter test ks)
filter_past n test [] h = tt
filter_past n test (k ∷ ks) h = by (test k) (filter_past n test ks h.1)
  where
    by : (b : Bool) → ArePast n (filter test ks) → ArePast n (cond b (k ∷ filter test ks) (filter test ks))
    by true r = (h.0, r)
    by false r = r

-- ---- headings

inside_past : (n : ℕ) (u : Around) (w : WrittenHeading) (forward : Bool) → ArePast n u.known → ArePast n (head_of u w forward).inside
inside_past n u w forward h =
    let b = owner_if u w.receiver in
    filter_past n (λ k. nat_lt u.scope k.scope) (heading_parameters u w forward b).known (sections_past n (knows_receiver (inner u) w.receiver b.node) _ 1 w.parameters.sections (receiver_past n (inner u) w.receiver b.node h))

-- what is known in its procedure
abbrev pub IsInner : ℕ → Head → Type 0
IsInner n h = ArePast (suc n) (h.inside ++ h.known)

pub record ArePastHeads (n : ℕ) (hs : Heads) : Type 0 where
  pub scope : hs.around.scope ≡ n
  pub known : ArePast (suc n) hs.around.known
  pub before : AllByRecursion (IsInner n) hs.before

behind_past : (n : ℕ) (u : Around) (h : Head) (t : Bool) → u.scope ≡ n → ArePast (suc n) u.known → ArePast (suc n) (known_behind u t h).known
behind_past n u h true s k = k
behind_past n u h false s k = by h.is_bound
  where
    by : (b : Bool) → ArePast (suc n) (knows_procedure u h b).known
    by true = k
    by false = ((λ e. omega (arith, s)), k)

behind_scope : (u : Around) (h : Head) (t : Bool) → (known_behind u t h).scope ≡ u.scope
behind_scope u h true = refl
behind_scope u h false = by h.is_bound
  where
    by : (b : Bool) → (knows_procedure u h b).scope ≡ u.scope
    by true = refl
    by false = refl

declared_past : (n : ℕ) (u : Around) (h : Head) (t : Bool) → ArePast (suc n) h.inside → ArePast (suc n) u.known → IsInner n (declared_head t h u)
declared_past n u h true i k = all_both (IsPast (suc n)) h.inside u.known i k
declared_past n u h false i k = all_both (IsPast (suc n)) h.inside u.known i k

pub headings_past : (n : ℕ) (ps : List Written_procedure) (hs : Heads) → ArePastHeads n hs → ArePastHeads n (headings_in_order ps hs)
headings_past n [] hs g = g
headings_past n (p ∷ ps) hs g =
    let h = head_of hs.around p.heading p.forward in
    let u = with_types hs.around (types_of h.parameters) in
    let t = name_twice u hs.before h in
    let k = behind_past n u h t g.scope g.known in
    headings_past n ps (add_heading hs p.heading p.forward) (record {
      scope = behind_scope u h t ∙ g.scope;
      known = k;
      before = (declared_past n (known_behind u t h) h t (inside_past (suc n) hs.around p.heading p.forward g.known) k, g.before);
    })
