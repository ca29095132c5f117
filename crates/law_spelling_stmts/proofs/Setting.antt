-- What is judged fits: what stands around, and how judgements are put together.
use Rattle.std.proofs.Common.{◌≡◌, ℕ, suc, ◌<◌, ◌^◌, Bool, true, false, List, [], ◌∷◌, length, Option, Some, None, refl, sym, subst, cond, arith}
use Rattle.std.specs.Prelude.{ℤ, pos, negsuc, FitsSigned}
use Rattle.std.specs.Int.{w32}
use Rattle.std.specs.List.{AllByRecursion, find}
use Rattle.ob_tree.specs.declared.pos.Pos.{Pos}
use Rattle.ob_tree.specs.declared.names.QName.{QName}
use Rattle.ob_types.specs.declared.types.TypeRef.{TypeRef}
use Rattle.ob_types.specs.declared.value.Value.{Value}
use Rattle.ob_types.specs.declared.value.Value.TheVariants as literal
use Rattle.ob_types.specs.declared.desc.Desc.TheVariants as desc
use Rattle.ob_types.specs.declared.typed.Width.TheVariants as width
use Rattle.ob_types.specs.declared.typed.Variable.{Variable}
use Rattle.ob_types.specs.declared.typed.TypedExpr.{TypedExpr}
use Rattle.ob_types.specs.declared.typed.TypedStmt.{TypedStmt}
use Rattle.ob_types.specs.declared.typed.Designator.{Designator}
use Rattle.ob_types.specs.Numbers.{is_in}
use Rattle.ob_types.specs.AssigningTests.{takes_text}
use Rattle.ob_types.specs.TypedSyntax.{Desig, Expr, ValueOf, Constant}
use Rattle.ob_types.specs.TypedView.{designator_view, expr_view, stmt_view}
use Rattle.ob_types.proofs.TypedViews.{view_constant, view_value_of}
use Rattle.ob_rules.specs.declared.entity.Entity.{Entity}
use Rattle.ob_rules.specs.declared.entity.Entity.TheVariants as entity
use Rattle.ob_rules.specs.declared.entity.Known.{Known}
use Rattle.ob_rules.specs.declared.values.Place.{Place}
use Rattle.ob_rules.specs.declared.values.Valued.{Valued}
use Rattle.ob_rules.specs.declared.values.Valued.TheVariants as valued
use Rattle.ob_rules.specs.declared.meant.Chosen.{Chosen}
use Rattle.ob_rules.specs.declared.meant.Meant.{Meant}
use Rattle.ob_rules.specs.declared.meant.Meant.TheVariants as means
use Rattle.ob_rules.specs.declared.broken.Rule.{Rule}
use Rattle.ob_rules.specs.Judged.{Judged, sound, if_sound, paired, both, made, each_sound, unless, wants, also, found_or, ◌▷◌}
use Rattle.ob_rules.specs.Shapes.{array_of}
use Rattle.ob_rules.specs.Names.{Around, map_of}
use Rattle.ob_rules.specs.Statements.{in_loop}
use Rattle.ob_rules.specs.Values.{tree}
use Rattle.law_typing.specs.Known.{ConstantIs}
use Rattle.law_spelling.specs.Coded.{PosFits, ConstantIsCoded}
use Rattle.law_spelling_stmts.specs.Fits.{DesigFits, ExprFits, StmtFits}
use Rattle.law_lists.proofs.Lists.{Anything, IfThere, less}

-- ---- constants

abbrev pub Short : Value → Type 0
Short (literal.Str text) = suc (length text) < 2 ^ 31
Short v = Unit {0}

-- a constant, and no long string
abbrev pub Con : Value → Type 0
Con v = ConstantIs v × Short v

pub int_fits : (z : ℤ) → is_in width.LongInt z ≡ true → FitsSigned w32 z
int_fits (pos n) h = let k = less n (2 ^ 31) h in record { sfits = omega (arith, k) }
int_fits (negsuc n) h = let k = less n (2 ^ 31) h in record { sfits = omega (arith, k) }

pub small_fits : (n : ℕ) → n < 2 ^ 31 → FitsSigned w32 (pos n)
small_fits n h = record { sfits = omega (arith, h) }

coded : (v : Value) → Con v → ConstantIsCoded v
coded (literal.Bool b) h = tt
coded (literal.Char c) h = h.0
coded (literal.Int z) h = int_fits z h.0
coded (literal.Set n) h = h.0
coded (literal.Str text) h = h.1
coded literal.Nil h = tt

-- ---- what stands around

abbrev pub EntityOk : Entity → Type 0
EntityOk (entity.Constant v) = Con v
EntityOk e = Unit {0}

-- the words of types; and what stands around the parts of a text: there known constants are constants, arrays are short, and a string that an
-- array takes leaves room in its words
pub record Setting : Type 1 where
  pub words : TypeRef → ℕ
  pub Stands : Around → Type 0
  pub known : (u : Around) → Stands u → AllByRecursion (λ (n : Known). EntityOk n.what) u.known
  pub constants : (u : Around) → Stands u → (q : QName) (v : Value) → u.shown q ≡ Some (desc.Const v) → Con v
  pub lengths : (u : Around) → Stands u → (t e : TypeRef) (n : ℕ) → array_of (map_of u) t ≡ Some (Some n, e) → n < 2 ^ 31
  pub room : (u : Around) → Stands u → (t : TypeRef) (n : ℕ) → takes_text (map_of u) t n ≡ true → n < words t
  pub looped : (u : Around) → Stands u → Stands (in_loop u)
  pub guarded : (u : Around) → Stands u → (gs : List (Variable × Option TypeRef)) → Stands (record u { guards = gs })

abbrev pub D : Setting → Designator → Type 0
D k d = DesigFits k.words (designator_view d)

abbrev pub E : Setting → TypedExpr → Type 0
E k e = ExprFits k.words (expr_view e)

abbrev pub S : Setting → Bool → TypedStmt → Type 0
S k l s = StmtFits k.words l (stmt_view s)

-- ---- what is judged

abbrev pub PlaceOk : Setting → Place → Type 0
PlaceOk k p = D k p.designator.inner

-- no string
abbrev pub NoText : Expr → Type 0
NoText (Constant (literal.Str text)) = ⊥
NoText e = Unit {0}

abbrev pub NodeOk : Setting → TypedExpr → Type 0
NodeOk k x = E k x × NoText (expr_view x)

abbrev pub ValuedOk : Setting → Valued → Type 0
ValuedOk k (valued.Constant v) = Con v
ValuedOk k (valued.Place p) = PlaceOk k p
ValuedOk k (valued.Node n) = NodeOk k n.tree.inner

pub record ChosenOk (k : Setting) (c : Chosen) : Type 0 where
  pub receiver : PlaceOk k c.receiver
  pub start : PosFits c.start

abbrev pub MeantOk : Setting → Meant → Type 0
MeantOk k (means.Place p) = PlaceOk k p
MeantOk k (means.Constant v) = Con v
MeantOk k (means.Bound c) = ChosenOk k c
MeantOk k (means.Call x) = ValuedOk k x
MeantOk k (means.Statement s) = (l : Bool) → S k l s.inner
MeantOk k m = Unit {0}

-- a node, where there is one, has the property
abbrev pub Keeps : {A : Type 0} → (A → Type 0) → Judged A → Type 0
Keeps Q j = IfThere Q j.node

pub sure : {A : Type 0} (o : Option A) → IfThere Anything o
sure None = tt
sure (Some x) = tt

pub any_keeps : {A : Type 0} (j : Judged A) → Keeps Anything j
any_keeps j = sure j.node

if_keeps : {A B : Type 0} (Q : A → Type 0) (R : B → Type 0) (o : Option A) (f : A → Judged B) → IfThere Q o → ((x : A) → Q x → Keeps R (f x)) → Keeps R (if_sound o f)
if_keeps Q R None f h g = tt
if_keeps Q R (Some x) f h g = g x h

pub then_keeps : {A B : Type 0} (Q : A → Type 0) (R : B → Type 0) (j : Judged A) (f : A → Judged B) → Keeps Q j → ((x : A) → Q x → Keeps R (f x)) → Keeps R (j ▷ f)
then_keeps Q R j f h g = if_keeps Q R j.node f h g

paired_has : {A B : Type 0} (Q : A → Type 0) (R : B → Type 0) (a : Option A) (b : Option B) → IfThere Q a → IfThere R b → IfThere (λ (p : A × B). Q p.0 × R p.1) (paired a b)
paired_has Q R None b h g = tt
paired_has Q R (Some x) None h g = tt
paired_has Q R (Some x) (Some y) h g = (h, g)

pub both_keep : {A B : Type 0} (Q : A → Type 0) (R : B → Type 0) (a : Judged A) (b : Judged B) → Keeps Q a → Keeps R b → Keeps (λ (p : A × B). Q p.0 × R p.1) (both a b)
both_keep Q R a b h g = paired_has Q R a.node b.node h g

pub made_keeps : {A B : Type 0} (Q : A → Type 0) (R : B → Type 0) (f : A → B) (j : Judged A) → Keeps Q j → ((x : A) → Q x → R (f x)) → Keeps R (made f j)
made_keeps Q R f j h g = then_keeps Q R j (λ x. sound (f x)) h g

pub each_keep : {A : Type 0} (Q : A → Type 0) (js : List (Judged A)) → AllByRecursion (Keeps Q) js → Keeps (AllByRecursion Q) (each_sound js)
each_keep Q [] h = tt
each_keep Q (j ∷ js) h = made_keeps (λ p. Q p.0 × AllByRecursion Q p.1) (AllByRecursion Q) (λ p. p.0 ∷ p.1) (both j (each_sound js)) (both_keep Q (AllByRecursion Q) j (each_sound js) h.0 (each_keep Q js h.1)) (λ p q. q)

pub unless_keeps : {A : Type 0} (Q : A → Type 0) (b : Bool) (rule : Rule) (at : Pos) (x : A) → Q x → Keeps Q (unless b rule at x)
unless_keeps Q true rule at x h = tt
unless_keeps Q false rule at x h = h

-- what is wanted is so
pub wants_so : {A : Type 0} (Q : A → Type 0) (b : Bool) (rule : Rule) (at : Pos) (x : A) → (b ≡ true → Q x) → Keeps Q (wants b rule at x)
wants_so Q true rule at x h = h refl
wants_so Q false rule at x h = tt

pub wants_keeps : {A : Type 0} (Q : A → Type 0) (b : Bool) (rule : Rule) (at : Pos) (x : A) → Q x → Keeps Q (wants b rule at x)
wants_keeps Q b rule at x h = wants_so Q b rule at x (λ e. h)

pub found_keeps : {A : Type 0} (Q : A → Type 0) (rule : Rule) (at : Pos) (o : Option A) → IfThere Q o → Keeps Q (found_or rule at o)
found_keeps Q rule at None h = tt
found_keeps Q rule at (Some x) h = h

pub also_keeps : {A : Type 0} (Q : A → Type 0) (b : Bool) (rule : Rule) (at : Pos) (j : Judged A) → Keeps Q j → Keeps Q (also b rule at j)
also_keeps Q true rule at j h = tt
also_keeps Q false rule at j h = h

-- ---- trees

pub named_e : (k : Setting) (x : TypedExpr) (e : Expr) → expr_view x ≡ e → ExprFits k.words e → E k x
named_e k x e i h = subst (ExprFits k.words) (sym i) h

pub node_e : (k : Setting) (x : TypedExpr) (e : Expr) → expr_view x ≡ e → ExprFits k.words e → NoText e → NodeOk k x
node_e k x e i h n = (named_e k x e i h, subst NoText (sym i) n)

pub named_d : (k : Setting) (x : Designator) (d : Desig) → designator_view x ≡ d → DesigFits k.words d → D k x
named_d k x d i h = subst (DesigFits k.words) (sym i) h

pub constant_e : (k : Setting) (v : Value) (x : TypedExpr) → expr_view x ≡ Constant v → ConstantIsCoded v → E k x
constant_e k v x i h = named_e k x (Constant v) i h

pub tree_ok : (k : Setting) (x : Valued) → ValuedOk k x → E k (tree x)
tree_ok k (valued.Constant v) h = named_e k _ (Constant v) (view_constant v) (coded v h)
tree_ok k (valued.Place p) h = named_e k _ (ValueOf (designator_view p.designator.inner)) (view_value_of p.designator.inner) h
tree_ok k (valued.Node n) h = h.0

find_if : {A : Type 0} (Q : A → Type 0) (b : Bool) (x : A) (o : Option A) → Q x → IfThere Q o → IfThere Q (cond b (Some x) o)
find_if Q true x o h g = h
find_if Q false x o h g = g

pub find_has : {A : Type 0} (Q : A → Type 0) (test : A → Bool) (xs : List A) → AllByRecursion Q xs → IfThere Q (find test xs)
find_has Q test [] h = tt
find_has Q test (x ∷ xs) h = find_if Q (test x) x (find test xs) h.0 (find_has Q test xs h.1)
