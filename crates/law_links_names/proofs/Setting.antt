-- What is judged names variables and procedures of other modules that its notes mention: what stands around, and how judgements are
-- put together.
use Rattle.std.proofs.Common.{◌≡◌, ℕ, Bool, true, false, List, [], ◌∷◌, Option, Some, None, sym, subst, cond}
use Rattle.std.specs.List.{AllByRecursion, find}
use Rattle.ob_tree.specs.declared.pos.Pos.{Pos}
use Rattle.ob_tree.specs.declared.names.QName.{QName}
use Rattle.ob_types.specs.declared.desc.Desc.{Desc}
use Rattle.ob_types.specs.declared.typed.Passing.{Passing}
use Rattle.ob_types.specs.declared.typed.Passing.TheVariants as passing
use Rattle.ob_types.specs.declared.typed.Variable.{Variable}
use Rattle.ob_types.specs.declared.typed.Guarded.{Guarded}
use Rattle.ob_types.specs.declared.typed.Guarded.TheVariants as guarded
use Rattle.ob_types.specs.declared.typed.TypedExpr.{TypedExpr}
use Rattle.ob_types.specs.declared.typed.TypedStmt.{TypedStmt}
use Rattle.ob_types.specs.declared.typed.Designator.{Designator}
use Rattle.ob_types.specs.TypedSyntax.{Desig, Expr, ValueOf, Constant, Call}
use Rattle.ob_types.specs.TypedKinds.{variable_type}
use Rattle.ob_types.specs.TypedView.{designator_view, expr_view, stmt_view}
use Rattle.ob_types.proofs.TypedViews.{view_constant, view_value_of}
use Rattle.ob_scheme.specs.Descriptions.{own_name}
use Rattle.ob_rules.specs.declared.entity.Entity.{Entity}
use Rattle.ob_rules.specs.declared.entity.Entity.TheVariants as entity
use Rattle.ob_rules.specs.declared.notes.Later.{Later}
use Rattle.ob_rules.specs.declared.values.Place.{Place}
use Rattle.ob_rules.specs.declared.values.Valued.{Valued}
use Rattle.ob_rules.specs.declared.values.Valued.TheVariants as valued
use Rattle.ob_rules.specs.declared.meant.Meant.{Meant}
use Rattle.ob_rules.specs.declared.meant.Meant.TheVariants as means
use Rattle.ob_rules.specs.declared.broken.Rule.{Rule}
use Rattle.ob_rules.specs.Judged.{Judged, Notes, sound, if_sound, paired, both, made, each_sound, unless, wants, also, found_or, judge_later, noted, ◌▷◌}
use Rattle.ob_rules.specs.Names.{Around}
use Rattle.ob_rules.specs.Values.{tree}
pub use Rattle.law_links_names.specs.Mentions.{Any}
use Rattle.law_links_names.specs.Mentions.{IsVariable, IsProcedure}
use Rattle.law_links_names.specs.Trees.{IfOther, VariableNamed, NameNamed, TagNamed, GuardNamed, PassedNamed, DesigNamed, ExprNamed, StmtNamed}
use Rattle.law_lists.proofs.Lists.{Anything, IfThere, all_back, all_front}

pub record Setting : Type 1 where
  pub types : QName → Option Desc
  pub unit : List ℕ
  pub shown : QName → Option Desc
  pub Mentioned : QName → Type 0

abbrev pub IsVar : Setting → QName → Type 0
IsVar k q = IsVariable k.shown k.unit k.Mentioned q

abbrev pub IsProc : Setting → QName → Type 0
IsProc k q = IsProcedure k.shown k.unit k.Mentioned q

abbrev pub V : Setting → Variable → Type 0
V k v = VariableNamed k.types k.unit (IsVar k) (IsProc k) Any v

abbrev pub D : Setting → Designator → Type 0
D k d = DesigNamed k.types k.unit (IsVar k) (IsProc k) Any (designator_view d)

abbrev pub E : Setting → TypedExpr → Type 0
E k e = ExprNamed k.types k.unit (IsVar k) (IsProc k) Any (expr_view e)

abbrev pub S : Setting → TypedStmt → Type 0
S k s = StmtNamed k.types k.unit (IsVar k) (IsProc k) Any (stmt_view s)

abbrev pub P : Setting → QName → Type 0
P k q = IfOther k.types k.unit (IsVar k) (IsProc k) Any (IsProc k) q

name_any : (k : Setting) (o : Option QName) → NameNamed k.types k.unit (IsVar k) (IsProc k) Any o
name_any k None = tt
name_any k (Some q) = λ e. tt

tag_any : (k : Setting) (d : Desig) → TagNamed k.types k.unit (IsVar k) (IsProc k) Any d
tag_any k d = λ e. name_any k (own_name k.types (variable_type d))

pub guard_any : (k : Setting) (g : Guarded) (d : Desig) → GuardNamed k.types k.unit (IsVar k) (IsProc k) Any g d
guard_any k guarded.Pointer d = tt
guard_any k guarded.Record d = tag_any k d

pub passed_any : (k : Setting) (how : Passing) (e : Expr) → PassedNamed k.types k.unit (IsVar k) (IsProc k) Any how e
passed_any k passing.VariableRecord (ValueOf d) = tag_any k d
passed_any k how e = tt

-- ---- what stands around

abbrev pub EntityOk : Setting → Entity → Type 0
EntityOk k (entity.Variable v t) = V k v
EntityOk k (entity.Procedure q s) = P k q
EntityOk k (entity.Forward q s) = P k q
EntityOk k e = Unit {0}

pub record Stands (k : Setting) (u : Around) : Type 0 where
  pub unit : u.unit ≡ k.unit
  pub shown : u.shown ≡ k.shown
  pub known : AllByRecursion (λ n. EntityOk k n.what) u.known

-- ---- what is judged

abbrev pub PlaceOk : Setting → Place → Type 0
PlaceOk k p = D k p.designator.inner × V k p.root

abbrev pub ValuedOk : Setting → Valued → Type 0
ValuedOk k (valued.Constant v) = Unit {0}
ValuedOk k (valued.Place p) = PlaceOk k p
ValuedOk k (valued.Node n) = E k n.tree.inner

abbrev pub MeantOk : Setting → Meant → Type 0
MeantOk k (means.Place p) = PlaceOk k p
MeantOk k (means.Bound c) = PlaceOk k c.receiver
MeantOk k (means.Procedure q s) = P k q
MeantOk k (means.Call x) = ValuedOk k x
MeantOk k (means.Statement s) = S k s.inner
MeantOk k m = Unit {0}

abbrev pub AreMentioned : Setting → List QName → Type 0
AreMentioned k qs = AllByRecursion k.Mentioned qs

-- where all that the notes mention is mentioned, a node has the property
abbrev pub Keeps : Setting → {A : Type 0} → (A → Type 0) → Judged A → Type 0
Keeps k Q j = AreMentioned k j.notes.objects → IfThere Q j.node

pub sure : {A : Type 0} (o : Option A) → IfThere Anything o
sure None = tt
sure (Some x) = tt

pub any_keeps : (k : Setting) {A : Type 0} (j : Judged A) → Keeps k Anything j
any_keeps k j h = sure j.node

if_keeps : (k : Setting) {A B : Type 0} (Q : A → Type 0) (R : B → Type 0) (o : Option A) (f : A → Judged B) → IfThere Q o → ((x : A) → Q x → Keeps k R (f x)) → Keeps k R (if_sound o f)
if_keeps k Q R None f h g = λ n. tt
if_keeps k Q R (Some x) f h g = g x h

pub then_keeps : (k : Setting) {A B : Type 0} (Q : A → Type 0) (R : B → Type 0) (j : Judged A) (f : A → Judged B) → Keeps k Q j → ((x : A) → Q x → Keeps k R (f x)) → Keeps k R (j ▷ f)
then_keeps k Q R j f h g = λ n. if_keeps k Q R j.node f (h (all_front k.Mentioned j.notes.objects (if_sound j.node f).notes.objects n)) g (all_back k.Mentioned j.notes.objects (if_sound j.node f).notes.objects n)

paired_has : {A B : Type 0} (Q : A → Type 0) (R : B → Type 0) (a : Option A) (b : Option B) → IfThere Q a → IfThere R b → IfThere (λ (p : A × B). Q p.0 × R p.1) (paired a b)
paired_has Q R None b h g = tt
paired_has Q R (Some x) None h g = tt
paired_has Q R (Some x) (Some y) h g = (h, g)

pub both_keep : (k : Setting) {A B : Type 0} (Q : A → Type 0) (R : B → Type 0) (a : Judged A) (b : Judged B) → Keeps k Q a → Keeps k R b → Keeps k (λ (p : A × B). Q p.0 × R p.1) (both a b)
both_keep k Q R a b h g = λ n. paired_has Q R a.node b.node (h (all_front k.Mentioned a.notes.objects b.notes.objects n)) (g (all_back k.Mentioned a.notes.objects b.notes.objects n))

pub made_keeps : (k : Setting) {A B : Type 0} (Q : A → Type 0) (R : B → Type 0) (f : A → B) (j : Judged A) → Keeps k Q j → ((x : A) → Q x → R (f x)) → Keeps k R (made f j)
made_keeps k Q R f j h g = then_keeps k Q R j (λ x. sound (f x)) h (λ x q. λ n. g x q)

pub each_keep : (k : Setting) {A : Type 0} (Q : A → Type 0) (js : List (Judged A)) → AllByRecursion (Keeps k Q) js → Keeps k (AllByRecursion Q) (each_sound js)
each_keep k Q [] h = λ n. tt
each_keep k Q (j ∷ js) h = made_keeps k (λ p. Q p.0 × AllByRecursion Q p.1) (AllByRecursion Q) (λ p. p.0 ∷ p.1) (both j (each_sound js)) (both_keep k Q (AllByRecursion Q) j (each_sound js) h.0 (each_keep k Q js h.1)) (λ p q. q)

pub unless_keeps : (k : Setting) {A : Type 0} (Q : A → Type 0) (b : Bool) (rule : Rule) (at : Pos) (x : A) → Q x → Keeps k Q (unless b rule at x)
unless_keeps k Q true rule at x h = λ n. tt
unless_keeps k Q false rule at x h = λ n. h

pub wants_keeps : (k : Setting) {A : Type 0} (Q : A → Type 0) (b : Bool) (rule : Rule) (at : Pos) (x : A) → Q x → Keeps k Q (wants b rule at x)
wants_keeps k Q true rule at x h = λ n. h
wants_keeps k Q false rule at x h = λ n. tt

pub found_keeps : (k : Setting) {A : Type 0} (Q : A → Type 0) (rule : Rule) (at : Pos) (o : Option A) → IfThere Q o → Keeps k Q (found_or rule at o)
found_keeps k Q rule at None h = λ n. tt
found_keeps k Q rule at (Some x) h = λ n. h

pub also_keeps : (k : Setting) {A : Type 0} (Q : A → Type 0) (b : Bool) (rule : Rule) (at : Pos) (j : Judged A) → Keeps k Q j → Keeps k Q (also b rule at j)
also_keeps k Q true rule at j h = λ n. tt
also_keeps k Q false rule at j h = h

pub noted_keeps : (k : Setting) {A : Type 0} (Q : A → Type 0) (n : Notes) (j : Judged A) → Keeps k Q j → Keeps k Q (noted n j)
noted_keeps k Q n j h = λ m. h (all_back k.Mentioned n.objects j.notes.objects m)

pub later_keeps : (k : Setting) {A : Type 0} (Q : A → Type 0) (ls : List Later) (j : Judged A) → Keeps k Q j → Keeps k Q (judge_later ls j)
later_keeps k Q [] j h = h
later_keeps k Q (l ∷ ls) j h = later_keeps k Q ls j h

-- ---- trees

pub named_e : (k : Setting) (x : TypedExpr) (e : Expr) → expr_view x ≡ e → ExprNamed k.types k.unit (IsVar k) (IsProc k) Any e → E k x
named_e k x e i h = subst (λ e. ExprNamed k.types k.unit (IsVar k) (IsProc k) Any e) (sym i) h

pub named_d : (k : Setting) (x : Designator) (d : Desig) → designator_view x ≡ d → DesigNamed k.types k.unit (IsVar k) (IsProc k) Any d → D k x
named_d k x d i h = subst (λ d. DesigNamed k.types k.unit (IsVar k) (IsProc k) Any d) (sym i) h

pub tree_ok : (k : Setting) (x : Valued) → ValuedOk k x → E k (tree x)
tree_ok k (valued.Constant v) h = named_e k _ (Constant v) (view_constant v) tt
tree_ok k (valued.Place p) h = named_e k _ (ValueOf (designator_view p.designator.inner)) (view_value_of p.designator.inner) h.0
tree_ok k (valued.Node n) h = h

find_if : {A : Type 0} (Q : A → Type 0) (b : Bool) (x : A) (o : Option A) → Q x → IfThere Q o → IfThere Q (cond b (Some x) o)
find_if Q true x o h g = h
find_if Q false x o h g = g

pub find_has : {A : Type 0} (Q : A → Type 0) (test : A → Bool) (xs : List A) → AllByRecursion Q xs → IfThere Q (find test xs)
find_has Q test [] h = tt
find_has Q test (x ∷ xs) h = find_if Q (test x) x (find test xs) h.0 (find_has Q test xs h.1)
