-- What is judged names variables that are there: what stands around, and how judgements are put together.
use Rattle.std.proofs.Common.{◌≡◌, ℕ, Bool, true, false, List, [], ◌∷◌, Option, Some, None, refl, sym, subst}
use Rattle.std.specs.List.{AllByRecursion}
use Rattle.ob_tree.specs.declared.pos.Pos.{Pos}
use Rattle.ob_types.specs.declared.types.TypeRef.{TypeRef}
use Rattle.ob_types.specs.declared.typed.Variable.{Variable}
use Rattle.ob_types.specs.declared.typed.TypedExpr.{TypedExpr}
use Rattle.ob_types.specs.declared.typed.TypedStmt.{TypedStmt}
use Rattle.ob_types.specs.declared.typed.Designator.{Designator}
use Rattle.ob_types.specs.TypedSyntax.{Desig, Expr, ValueOf, Constant}
use Rattle.ob_types.specs.TypedView.{designator_view, expr_view, stmt_view}
use Rattle.ob_types.proofs.TypedViews.{view_constant, view_value_of}
use Rattle.ob_scheme.specs.Context.{Context}
use Rattle.ob_rules.specs.declared.entity.Entity.{Entity}
use Rattle.ob_rules.specs.declared.entity.Entity.TheVariants as entity
use Rattle.ob_rules.specs.declared.entity.Known.{Known}
use Rattle.ob_rules.specs.declared.values.Place.{Place}
use Rattle.ob_rules.specs.declared.values.Valued.{Valued}
use Rattle.ob_rules.specs.declared.values.Valued.TheVariants as valued
use Rattle.ob_rules.specs.declared.meant.Meant.{Meant}
use Rattle.ob_rules.specs.declared.meant.Meant.TheVariants as means
use Rattle.ob_rules.specs.declared.broken.Rule.{Rule}
use Rattle.ob_rules.specs.Judged.{Judged, sound, if_sound, paired, both, made, each_sound, unless, wants, also, found_or, ◌▷◌}
use Rattle.ob_rules.specs.Names.{Around, find_name, is_enclosing}
use Rattle.ob_rules.specs.Values.{tree}
use Rattle.law_image_code.specs.Fits.{IsThere}
use Rattle.law_image_code.specs.There.{DesigThere, ExprThere, StmtThere}
use Rattle.law_lists.proofs.Lists.{Anything, IfThere}

abbrev pub D : Context → Designator → Type 0
D k d = DesigThere k (designator_view d)

abbrev pub E : Context → TypedExpr → Type 0
E k e = ExprThere k (expr_view e)

abbrev pub S : Context → TypedStmt → Type 0
S k s = StmtThere k (stmt_view s)

-- ---- what stands around

-- each variable that may be named is there
pub record Stands (k : Context) (u : Around) : Type 0 where
  pub known : (x : List ℕ) (n : Known) (v : Variable) (t : TypeRef) → find_name u.known x ≡ Some n → n.what ≡ entity.Variable v t → is_enclosing u n.scope ≡ false → IsThere k v

-- ---- what is judged

abbrev pub EntityOk : Context → Entity → Type 0
EntityOk k (entity.Variable v t) = IsThere k v
EntityOk k e = Unit {0}

abbrev pub PlaceOk : Context → Place → Type 0
PlaceOk k p = D k p.designator.inner × IsThere k p.root

abbrev pub ValuedOk : Context → Valued → Type 0
ValuedOk k (valued.Constant v) = Unit {0}
ValuedOk k (valued.Place p) = PlaceOk k p
ValuedOk k (valued.Node n) = E k n.tree.inner

abbrev pub MeantOk : Context → Meant → Type 0
MeantOk k (means.Place p) = PlaceOk k p
MeantOk k (means.Bound c) = PlaceOk k c.receiver
MeantOk k (means.Call x) = ValuedOk k x
MeantOk k (means.Statement s) = S k s.inner
MeantOk k m = Unit {0}

-- a node, where there is one, has the property
abbrev pub Keeps : {A : Type 0} → (A → Type 0) → Judged A → Type 0
Keeps Q j = IfThere Q j.node

sure : {A : Type 0} (o : Option A) → IfThere Anything o
sure None = tt
sure (Some x) = tt

pub any_keeps : {A : Type 0} (j : Judged A) → Keeps Anything j
any_keeps j = sure j.node

if_keeps : {A B : Type 0} (Q : A → Type 0) (R : B → Type 0) (o : Option A) (f : A → Judged B) → IfThere Q o → ((x : A) → Q x → Keeps R (f x)) → Keeps R (if_sound o f)
if_keeps Q R None f h g = tt
if_keeps Q R (Some x) f h g = g x h

pub then_keeps : {A B : Type 0} (Q : A → Type 0) (R : B → Type 0) (j : Judged A) (f : A → Judged B) → Keeps Q j → ((x : A) → Q x → Keeps R (f x)) → Keeps R (j ▷ f)
then_keeps Q R j f h g = if_keeps Q R j.node f h g

paired_has : {A B : Type 0} (Q : A → Type 0) (R : B → Type 0) (a : Option A) (b : Option B) → IfThere Q a → IfThere R b → IfThere (λ (p : A × B). Q p.0 × R p.1) (paired a b)
paired_has Q R None b h g = tt
paired_has Q R (Some x) None h g = tt
paired_has Q R (Some x) (Some y) h g = (h, g)

pub both_keep : {A B : Type 0} (Q : A → Type 0) (R : B → Type 0) (a : Judged A) (b : Judged B) → Keeps Q a → Keeps R b → Keeps (λ (p : A × B). Q p.0 × R p.1) (both a b)
both_keep Q R a b h g = paired_has Q R a.node b.node h g

pub made_keeps : {A B : Type 0} (Q : A → Type 0) (R : B → Type 0) (f : A → B) (j : Judged A) → Keeps Q j → ((x : A) → Q x → R (f x)) → Keeps R (made f j)
made_keeps Q R f j h g = then_keeps Q R j (λ x. sound (f x)) h g

pub each_keep : {A : Type 0} (Q : A → Type 0) (js : List (Judged A)) → AllByRecursion (Keeps Q) js → Keeps (AllByRecursion Q) (each_sound js)
each_keep Q [] h = tt
each_keep Q (j ∷ js) h = made_keeps (λ p. Q p.0 × AllByRecursion Q p.1) (AllByRecursion Q) (λ p. p.0 ∷ p.1) (both j (each_sound js)) (both_keep Q (AllByRecursion Q) j (each_sound js) h.0 (each_keep Q js h.1)) (λ p q. q)

-- where a rule is kept there is a node
pub unless_so : {A : Type 0} (Q : A → Type 0) (b : Bool) (rule : Rule) (at : Pos) (x : A) → (b ≡ false → Q x) → Keeps Q (unless b rule at x)
unless_so Q true rule at x h = tt
unless_so Q false rule at x h = h refl

pub unless_keeps : {A : Type 0} (Q : A → Type 0) (b : Bool) (rule : Rule) (at : Pos) (x : A) → Q x → Keeps Q (unless b rule at x)
unless_keeps Q b rule at x h = unless_so Q b rule at x (λ e. h)

pub wants_keeps : {A : Type 0} (Q : A → Type 0) (b : Bool) (rule : Rule) (at : Pos) (x : A) → Q x → Keeps Q (wants b rule at x)
wants_keeps Q true rule at x h = h
wants_keeps Q false rule at x h = tt

pub found_keeps : {A : Type 0} (Q : A → Type 0) (rule : Rule) (at : Pos) (o : Option A) → IfThere Q o → Keeps Q (found_or rule at o)
found_keeps Q rule at None h = tt
found_keeps Q rule at (Some x) h = h

pub also_keeps : {A : Type 0} (Q : A → Type 0) (b : Bool) (rule : Rule) (at : Pos) (j : Judged A) → Keeps Q j → Keeps Q (also b rule at j)
also_keeps Q true rule at j h = tt
also_keeps Q false rule at j h = h

-- ---- trees

pub named_e : (k : Context) (x : TypedExpr) (e : Expr) → expr_view x ≡ e → ExprThere k e → E k x
named_e k x e i h = subst (λ e. ExprThere k e) (sym i) h

pub named_d : (k : Context) (x : Designator) (d : Desig) → designator_view x ≡ d → DesigThere k d → D k x
named_d k x d i h = subst (λ d. DesigThere k d) (sym i) h

pub tree_ok : (k : Context) (x : Valued) → ValuedOk k x → E k (tree x)
tree_ok k (valued.Constant v) h = named_e k _ (Constant v) (view_constant v) tt
tree_ok k (valued.Place p) h = named_e k _ (ValueOf (designator_view p.designator.inner)) (view_value_of p.designator.inner) h.0
tree_ok k (valued.Node n) h = h
