-- What is judged names record types: what stands around, and how judgements are put together.
use Rattle.std.proofs.Common.{◌≡◌, ℕ, Bool, true, false, List, [], ◌∷◌, Option, Some, None, refl, sym, ap, subst, ◌∙◌, cond}
use Rattle.std.specs.Prelude.{bytes_eq}
use Rattle.std.specs.List.{AllByRecursion, find}
use Rattle.std.proofs.lemmas.Slice.Eq.{bytes_eq-Decides}
use Rattle.ob_tree.specs.declared.pos.Pos.{Pos}
use Rattle.ob_tree.specs.declared.names.QName.{QName}
use Rattle.ob_tree.specs.declared.ident.Mark.TheVariants as mark
use Rattle.ob_types.specs.declared.types.Basic.TheVariants as basic
use Rattle.ob_types.specs.declared.types.TypeRef.{TypeRef}
use Rattle.ob_types.specs.declared.types.TypeRef.TheVariants as ref
use Rattle.ob_types.specs.declared.desc.Desc.{Desc}
use Rattle.ob_types.specs.declared.desc.Desc.TheVariants as desc
use Rattle.ob_types.specs.declared.typed.TypedType.{TypedType}
use Rattle.ob_types.specs.declared.typed.TypedExpr.{TypedExpr}
use Rattle.ob_types.specs.declared.typed.TypedStmt.{TypedStmt}
use Rattle.ob_types.specs.declared.typed.Designator.{Designator}
use Rattle.ob_types.specs.TypedSyntax.{Desig, Expr, ValueOf, Constant}
use Rattle.ob_types.specs.TypedKinds.{variable_type}
use Rattle.ob_types.specs.TypedView.{designator_view, expr_view, stmt_view}
use Rattle.ob_types.proofs.TypedViews.{view_constant, view_value_of}
use Rattle.ob_rules.specs.declared.entity.Received.{Received}
use Rattle.ob_rules.specs.declared.notes.Later.{Later}
use Rattle.ob_rules.specs.declared.values.Place.{Place}
use Rattle.ob_rules.specs.declared.values.Valued.{Valued}
use Rattle.ob_rules.specs.declared.values.Valued.TheVariants as valued
use Rattle.ob_rules.specs.declared.meant.Chosen.{Chosen}
use Rattle.ob_rules.specs.declared.meant.Meant.{Meant}
use Rattle.ob_rules.specs.declared.meant.Meant.TheVariants as means
use Rattle.ob_rules.specs.declared.broken.Rule.{Rule}
use Rattle.ob_rules.specs.Judged.{Judged, sound, if_sound, paired, both, made, each_sound, unless, wants, also, found_or, judge_later, ◌▷◌}
use Rattle.ob_rules.specs.Shapes.{record_of, pointed_record, base_record, same_name}
use Rattle.ob_rules.specs.Names.{Around, map_of, out_string, own_desc, type_desc}
use Rattle.ob_rules.specs.Values.{tree}
use Rattle.ob_rules.specs.Phrases.{receiver_place}
use Rattle.law_links_types.specs.Trees.{StandsFor, StandsForOne, PointsTo, IsBase, DesigRecorded, ExprRecorded, StmtRecorded}
use Rattle.law_links_types.specs.Told.{core, is_linked, IsTold}
use Rattle.law_links_types.proofs.Telling.{record_told, points_told, base_told}
use Rattle.law_lists.proofs.Lists.{Anything, IfThere}

-- the descriptions of code; what the imported modules show; and of each type of the module what they tell of its name and core
pub record Setting : Type 1 where
  pub types : QName → Option Desc
  pub unit : List ℕ
  pub shown : QName → Option Desc
  pub Has : List ℕ → Desc → Type 0
  pub own : (x : List ℕ) (d : Desc) → Has x (core d) → IsTold types (record { «module» = unit; object = x }) d
  pub others : (q : QName) (d : Desc) → bytes_eq q.«module» unit ≡ false → shown q ≡ Some d → IsTold types q d

abbrev pub HasType : Setting → TypedType → Type 0
HasType k t = k.Has t.name (core t.desc)

abbrev pub D : Setting → Designator → Type 0
D k d = DesigRecorded k.types k.unit (designator_view d)

abbrev pub E : Setting → TypedExpr → Type 0
E k e = ExprRecorded k.types k.unit (expr_view e)

abbrev pub S : Setting → TypedStmt → Type 0
S k s = StmtRecorded k.types k.unit (stmt_view s)

-- ---- what stands around

pub record Stands (k : Setting) (u : Around) : Type 0 where
  pub unit : u.unit ≡ k.unit
  pub shown : u.shown ≡ k.shown
  pub own : AllByRecursion (HasType k) u.own
  pub receiver : IfThere (λ (r : Received). bytes_eq r.owner.«module» k.unit ≡ true) u.receiver

-- one that is found is among them, and passes the test
pub record IsFound {A : Type 0} (Q : A → Type 0) (test : A → Bool) (x : A) : Type 0 where
  pub has : Q x
  pub is : test x ≡ true

found_if : {A : Type 0} (Q : A → Type 0) (test : A → Bool) (x : A) (o : Option A) (b : Bool) → test x ≡ b → Q x → IfThere (IsFound Q test) o → IfThere (IsFound Q test) (cond b (Some x) o)
found_if Q test x o true e h g = record { has = h; is = e }
found_if Q test x o false e h g = g

pub found_in : {A : Type 0} (Q : A → Type 0) (test : A → Bool) (xs : List A) → AllByRecursion Q xs → IfThere (IsFound Q test) (find test xs)
found_in Q test [] h = tt
found_in Q test (x ∷ xs) h = found_if Q test x (find test xs) (test x) refl h.0 (found_in Q test xs h.1)

open_is : (q : QName) (types : QName → Option Desc) (d : Desc) → desc.OpenArray mark.Hidden (ref.Basic basic.Char) ≡ d → IsTold types q d
open_is q types d e = λ l. let k : is_linked (desc.OpenArray mark.Hidden (ref.Basic basic.Char)) ≡ true = ap is_linked e ∙ l in absurd cc

module _ (k : Setting) (u : Around) (s : Stands k u) where
  map_told : (q : QName) (d : Desc) → map_of u q ≡ Some d → IsTold k.types q d
  map_told q d h = by (bytes_eq q.«module» u.unit) refl h
    where
      own : (o : Option TypedType) → IfThere (IsFound (HasType k) (λ (t : TypedType). bytes_eq t.name q.object)) o → bytes_eq q.«module» u.unit ≡ true → own_desc o ≡ Some d → IsTold k.types q d
      own None f e h = absurd cc
      own (Some t) f e h =
          let same : t.desc ≡ d = cc in
          let x : t.name ≡ q.object = (bytes_eq-Decides t.name q.object).0 f.is in
          let m : q.«module» ≡ k.unit = (bytes_eq-Decides q.«module» u.unit).0 e ∙ s.unit in
          let its : (let p : QName = record { «module» = k.unit; object = t.name } in p) ≡ q = ap (λ y. let p : QName = record { «module» = k.unit; object = y } in p) x ∙ ap (λ y. let p : QName = record { «module» = y; object = q.object } in p) (sym m) in
          subst (λ (p : QName). IsTold k.types p d) its (k.own t.name d (subst (λ c. k.Has t.name (core c)) same f.has))

      other : (b : Bool) → bytes_eq q.«module» u.unit ≡ false → type_desc false b u q ≡ Some d → IsTold k.types q d
      other true e h = open_is q k.types d (let i : desc.OpenArray mark.Hidden (ref.Basic basic.Char) ≡ d = cc in i)
      other false e h = k.others q d (subst (λ m. bytes_eq q.«module» m ≡ false) s.unit e) (ap (λ f. f q) (sym s.shown) ∙ h)

      by : (b : Bool) → bytes_eq q.«module» u.unit ≡ b → type_desc b (same_name q out_string) u q ≡ Some d → IsTold k.types q d
      by true e h = own (find (λ t. bytes_eq t.name q.object) u.own) (found_in (HasType k) (λ (t : TypedType). bytes_eq t.name q.object) u.own s.own) e h
      by false e h = other (same_name q out_string) e h

  pub record_stands : (t : TypeRef) (q : QName) → record_of (map_of u) t ≡ Some q → StandsFor k.types k.unit t q
  record_stands t q e = record_told (map_of u) k.types map_told k.unit t q e

  pub record_points : (t : TypeRef) (q : QName) → pointed_record (map_of u) t ≡ Some q → PointsTo k.types k.unit t q
  record_points t q e = points_told (map_of u) k.types map_told k.unit t q e

  pub base_stands : (o q : QName) → bytes_eq o.«module» k.unit ≡ true → base_record (map_of u) o ≡ Some q → IsBase k.types k.unit q
  base_stands o q own e = base_told (map_of u) k.types map_told k.unit o q own e

  pub one_stands : (t : TypeRef) (o : Option QName) → record_of (map_of u) t ≡ o → IfThere (λ (q : QName). StandsForOne k.types k.unit t) o
  one_stands t None e = tt
  one_stands t (Some q) e = record { name = q; stands = record_stands t q e }

-- ---- what is judged

-- its type is that of its designator
abbrev pub PlaceOk : Setting → Place → Type 0
PlaceOk k p = D k p.designator.inner × (variable_type (designator_view p.designator.inner) ≡ p.of)

abbrev pub ValuedOk : Setting → Valued → Type 0
ValuedOk k (valued.Constant v) = Unit {0}
ValuedOk k (valued.Place p) = PlaceOk k p
ValuedOk k (valued.Node n) = E k n.tree.inner

-- the record that receives is of a record type, and a base that is called is one
pub record ChosenOk (k : Setting) (c : Chosen) : Type 0 where
  pub receiver : PlaceOk k c.receiver
  pub of : StandsForOne k.types k.unit (receiver_place c).of
  pub base : IfThere (IsBase k.types k.unit) c.base

abbrev pub MeantOk : Setting → Meant → Type 0
MeantOk k (means.Place p) = PlaceOk k p
MeantOk k (means.Bound c) = ChosenOk k c
MeantOk k (means.Call x) = ValuedOk k x
MeantOk k (means.Statement s) = S k s.inner
MeantOk k m = Unit {0}

-- a node, where there is one, has the property
abbrev pub Keeps : Setting → {A : Type 0} → (A → Type 0) → Judged A → Type 0
Keeps k Q j = IfThere Q j.node

pub sure : {A : Type 0} (o : Option A) → IfThere Anything o
sure None = tt
sure (Some x) = tt

pub any_keeps : (k : Setting) {A : Type 0} (j : Judged A) → Keeps k Anything j
any_keeps k j = sure j.node

if_keeps : (k : Setting) {A B : Type 0} (Q : A → Type 0) (R : B → Type 0) (o : Option A) (f : A → Judged B) → IfThere Q o → ((x : A) → Q x → Keeps k R (f x)) → Keeps k R (if_sound o f)
if_keeps k Q R None f h g = tt
if_keeps k Q R (Some x) f h g = g x h

pub then_keeps : (k : Setting) {A B : Type 0} (Q : A → Type 0) (R : B → Type 0) (j : Judged A) (f : A → Judged B) → Keeps k Q j → ((x : A) → Q x → Keeps k R (f x)) → Keeps k R (j ▷ f)
then_keeps k Q R j f h g = if_keeps k Q R j.node f h g

paired_has : {A B : Type 0} (Q : A → Type 0) (R : B → Type 0) (a : Option A) (b : Option B) → IfThere Q a → IfThere R b → IfThere (λ (p : A × B). Q p.0 × R p.1) (paired a b)
paired_has Q R None b h g = tt
paired_has Q R (Some x) None h g = tt
paired_has Q R (Some x) (Some y) h g = (h, g)

pub both_keep : (k : Setting) {A B : Type 0} (Q : A → Type 0) (R : B → Type 0) (a : Judged A) (b : Judged B) → Keeps k Q a → Keeps k R b → Keeps k (λ (p : A × B). Q p.0 × R p.1) (both a b)
both_keep k Q R a b h g = paired_has Q R a.node b.node h g

pub made_keeps : (k : Setting) {A B : Type 0} (Q : A → Type 0) (R : B → Type 0) (f : A → B) (j : Judged A) → Keeps k Q j → ((x : A) → Q x → R (f x)) → Keeps k R (made f j)
made_keeps k Q R f j h g = then_keeps k Q R j (λ x. sound (f x)) h g

pub each_keep : (k : Setting) {A : Type 0} (Q : A → Type 0) (js : List (Judged A)) → AllByRecursion (Keeps k Q) js → Keeps k (AllByRecursion Q) (each_sound js)
each_keep k Q [] h = tt
each_keep k Q (j ∷ js) h = made_keeps k (λ p. Q p.0 × AllByRecursion Q p.1) (AllByRecursion Q) (λ p. p.0 ∷ p.1) (both j (each_sound js)) (both_keep k Q (AllByRecursion Q) j (each_sound js) h.0 (each_keep k Q js h.1)) (λ p q. q)

pub unless_keeps : (k : Setting) {A : Type 0} (Q : A → Type 0) (b : Bool) (rule : Rule) (at : Pos) (x : A) → Q x → Keeps k Q (unless b rule at x)
unless_keeps k Q true rule at x h = tt
unless_keeps k Q false rule at x h = h

pub wants_keeps : (k : Setting) {A : Type 0} (Q : A → Type 0) (b : Bool) (rule : Rule) (at : Pos) (x : A) → Q x → Keeps k Q (wants b rule at x)
wants_keeps k Q true rule at x h = h
wants_keeps k Q false rule at x h = tt

-- what is wanted is so
pub wants_so : (k : Setting) {A : Type 0} (Q : A → Type 0) (b : Bool) (rule : Rule) (at : Pos) (x : A) → (b ≡ true → Q x) → Keeps k Q (wants b rule at x)
wants_so k Q true rule at x h = h refl
wants_so k Q false rule at x h = tt

pub found_keeps : (k : Setting) {A : Type 0} (Q : A → Type 0) (rule : Rule) (at : Pos) (o : Option A) → IfThere Q o → Keeps k Q (found_or rule at o)
found_keeps k Q rule at None h = tt
found_keeps k Q rule at (Some x) h = h

pub also_keeps : (k : Setting) {A : Type 0} (Q : A → Type 0) (b : Bool) (rule : Rule) (at : Pos) (j : Judged A) → Keeps k Q j → Keeps k Q (also b rule at j)
also_keeps k Q true rule at j h = tt
also_keeps k Q false rule at j h = h

pub also_so : (k : Setting) {A : Type 0} (Q : A → Type 0) (b : Bool) (rule : Rule) (at : Pos) (j : Judged A) → (b ≡ false → Keeps k Q j) → Keeps k Q (also b rule at j)
also_so k Q true rule at j h = tt
also_so k Q false rule at j h = h refl

pub later_keeps : (k : Setting) {A : Type 0} (Q : A → Type 0) (ls : List Later) (j : Judged A) → Keeps k Q j → Keeps k Q (judge_later ls j)
later_keeps k Q [] j h = h
later_keeps k Q (l ∷ ls) j h = later_keeps k Q ls j h

-- ---- trees

pub named_e : (k : Setting) (x : TypedExpr) (e : Expr) → expr_view x ≡ e → ExprRecorded k.types k.unit e → E k x
named_e k x e i h = subst (λ e. ExprRecorded k.types k.unit e) (sym i) h

pub named_d : (k : Setting) (x : Designator) (d : Desig) → designator_view x ≡ d → DesigRecorded k.types k.unit d → D k x
named_d k x d i h = subst (λ d. DesigRecorded k.types k.unit d) (sym i) h

-- with its type
pub typed_d : (k : Setting) (x : Designator) (d : Desig) → designator_view x ≡ d → DesigRecorded k.types k.unit d → D k x × (variable_type (designator_view x) ≡ variable_type d)
typed_d k x d i h = (named_d k x d i h, ap variable_type i)

pub tree_ok : (k : Setting) (x : Valued) → ValuedOk k x → E k (tree x)
tree_ok k (valued.Constant v) h = named_e k _ (Constant v) (view_constant v) tt
tree_ok k (valued.Place p) h = named_e k _ (ValueOf (designator_view p.designator.inner)) (view_value_of p.designator.inner) h.0
tree_ok k (valued.Node n) h = h
