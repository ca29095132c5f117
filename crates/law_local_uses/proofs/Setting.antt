-- What is judged is tied to the types that it names, which are held: what stands around, and how judgements are put together.
use Rattle.std.proofs.Common.{◌≡◌, ℕ, Bool, true, false, List, [], ◌∷◌, ◌++◌, Option, Some, None, refl, sym, subst, cond}
use Rattle.std.specs.List.{AllByRecursion, find}
use Rattle.ob_tree.specs.declared.pos.Pos.{Pos}
use Rattle.ob_tree.specs.declared.names.QName.{QName}
use Rattle.ob_types.specs.declared.types.TypeRef.{TypeRef}
use Rattle.ob_types.specs.declared.types.TypeRef.TheVariants as ref
use Rattle.ob_types.specs.declared.value.Value.TheVariants as literal
use Rattle.ob_types.specs.declared.typed.TypedExpr.{TypedExpr}
use Rattle.ob_types.specs.declared.typed.TypedStmt.{TypedStmt}
use Rattle.ob_types.specs.declared.typed.Designator.{Designator}
use Rattle.ob_types.specs.TypedSyntax.{Desig, Expr, Stmt, ValueOf, Constant}
use Rattle.ob_types.specs.TypedKinds.{variable_type}
use Rattle.ob_types.specs.TypedView.{designator_view, expr_view, stmt_view}
use Rattle.ob_types.specs.Maps.{signature_types}
use Rattle.ob_types.proofs.TypedViews.{view_constant, view_value_of}
use Rattle.ob_uses_roots.specs.Counts.{Count, Shapes, Layouts, counts_of_designator, counts_of_expr, counts_of}
use Rattle.ob_rules.specs.declared.notes.Later.{Later}
use Rattle.ob_rules.specs.declared.values.Place.{Place}
use Rattle.ob_rules.specs.declared.values.Valued.{Valued}
use Rattle.ob_rules.specs.declared.values.Valued.TheVariants as valued
use Rattle.ob_rules.specs.declared.meant.Chosen.{Chosen}
use Rattle.ob_rules.specs.declared.meant.Meant.{Meant}
use Rattle.ob_rules.specs.declared.meant.Meant.TheVariants as means
use Rattle.ob_rules.specs.declared.broken.Rule.{Rule}
use Rattle.ob_rules.specs.Judged.{Judged, Notes, joined, sound, if_sound, paired, both, made, each_sound, unless, wants, also, found_or, judge_later, noted, ◌▷◌, is_quiet, if_quiet, behind_quiet}
use Rattle.ob_rules.specs.Shapes.{Map}
use Rattle.ob_rules.specs.Names.{Around}
use Rattle.ob_rules.specs.Values.{tree}
use Rattle.law_local_judged.specs.Agreement.{IsIn, AreIn}
use Rattle.law_local_judged.specs.Said.{CountsIn, DesignatorIn}
use Rattle.law_local_files.specs.Tied.{LeadsTo, DesigTied, ExprTied, StmtTied}
use Rattle.law_local_uses.specs.Settled.{IsSettled}
use Rattle.law_lists.proofs.Lists.{Anything, IfThere, all_both}

pub record Setting : Type 1 where
  pub map : Map
  pub unit : List ℕ
  pub Own : QName → Type 0
  pub Held : QName → Type 0

-- ---- trees: tied, and what counts in them is held

abbrev pub TD : Setting → Desig → Type 0
TD k d = DesigTied k.map k.unit k.Own d × CountsIn k.Held (counts_of_designator d)

abbrev pub TE : Setting → Expr → Type 0
TE k e = ExprTied k.map k.unit k.Own e × CountsIn k.Held (counts_of_expr e)

abbrev pub TS : Setting → Stmt → Type 0
TS k s = StmtTied k.map k.unit k.Own s × CountsIn k.Held (counts_of s)

abbrev pub D : Setting → Designator → Type 0
D k d = TD k (designator_view d)

abbrev pub E : Setting → TypedExpr → Type 0
E k e = TE k (expr_view e)

abbrev pub S : Setting → TypedStmt → Type 0
S k s = TS k (stmt_view s)

abbrev pub In : Setting → TypeRef → Type 0
In k t = IsIn k.Held t

-- no string
abbrev pub NoText : Expr → Type 0
NoText (Constant (literal.Str s)) = ⊥
NoText e = Unit {0}

abbrev pub Leads : Setting → TypeRef → QName → Type 0
Leads k t q = LeadsTo k.map k.unit k.Own t q

-- ---- what stands around

abbrev pub Stands : Setting → Around → Type 0
Stands k u = IsSettled k.map k.Own k.Held u

-- ---- what is judged

abbrev pub PlaceOk : Setting → Place → Type 0
PlaceOk k p = D k p.designator.inner × In k p.of × (variable_type (designator_view p.designator.inner) ≡ p.of)

abbrev pub NodeOk : Setting → TypedExpr → Type 0
NodeOk k e = E k e × NoText (expr_view e)

abbrev pub ValuedOk : Setting → Valued → Type 0
ValuedOk k (valued.Constant v) = Unit {0}
ValuedOk k (valued.Place p) = PlaceOk k p
ValuedOk k (valued.Node n) = NodeOk k n.tree.inner

-- what the receiver of a call leads to: the record that introduces the procedure; of a super call, a type of the module does
abbrev pub CallOk : Setting → Chosen → Option QName → Type 0
CallOk k c None = Leads k c.receiver.of c.introduced × IfThere (λ t. Leads k t c.introduced) c.pointed
CallOk k c (Some b) = (o : QName) × k.Own o × Leads k (ref.Named o) c.introduced

pub record ChosenOk (k : Setting) (c : Chosen) : Type 0 where
  pub receiver : PlaceOk k c.receiver
  pub pointed : IfThere (In k) c.pointed
  pub signature : AreIn k.Held (signature_types c.method.signature)
  pub call : CallOk k c c.base

abbrev pub MeantOk : Setting → Meant → Type 0
MeantOk k (means.Place p) = PlaceOk k p
MeantOk k (means.Bound c) = ChosenOk k c
MeantOk k (means.Procedure q s) = AreIn k.Held (signature_types s)
MeantOk k (means.Call x) = ValuedOk k x
MeantOk k (means.Statement s) = S k s.inner
MeantOk k m = Unit {0}

-- what notes name is held
abbrev pub Said : Setting → Notes → Type 0
Said k n = AllByRecursion k.Held n.objects × AreIn k.Held n.types × AllByRecursion (DesignatorIn k.Held) n.lengths

-- a node has the property, and what the notes name is held
abbrev pub Keeps : Setting → {A : Type 0} → (A → Type 0) → Judged A → Type 0
Keeps k Q j = IfThere Q j.node × Said k j.notes

pub none : Unit {0} × Unit {0} × Unit {0}
none = (tt, tt, tt)

pub said_both : (k : Setting) (a b : Notes) → Said k a → Said k b → Said k (joined a b)
said_both k a b h g = (all_both k.Held a.objects b.objects h.0 g.0, all_both (In k) a.types b.types h.1 g.1, all_both (DesignatorIn k.Held) a.lengths b.lengths h.2 g.2)

sure : {A : Type 0} (o : Option A) → IfThere Anything o
sure None = tt
sure (Some x) = tt

pub weaken : (k : Setting) {A : Type 0} (Q : A → Type 0) (j : Judged A) → Keeps k Q j → Keeps k Anything j
weaken k Q j h = (sure j.node, h.1)

-- where no node is, notes are all
pub only_said : (k : Setting) {A : Type 0} (Q : A → Type 0) (j : Judged A) → j.node ≡ None → Said k j.notes → Keeps k Q j
only_said k Q j e h = (subst (IfThere Q) (sym e) tt, h)

if_keeps : (k : Setting) {A B : Type 0} (Q : A → Type 0) (R : B → Type 0) (o : Option A) (f : A → Judged B) → IfThere Q o → ((x : A) → Q x → Keeps k R (f x)) → Keeps k R (if_sound o f)
if_keeps k Q R None f h g = (tt, none)
if_keeps k Q R (Some x) f h g = g x h

pub then_keeps : (k : Setting) {A B : Type 0} (Q : A → Type 0) (R : B → Type 0) (j : Judged A) (f : A → Judged B) → Keeps k Q j → ((x : A) → Q x → Keeps k R (f x)) → Keeps k R (j ▷ f)
then_keeps k Q R j f h g = let r = if_keeps k Q R j.node f h.0 g in (r.0, said_both k j.notes (if_sound j.node f).notes h.1 r.1)

paired_has : {A B : Type 0} (Q : A → Type 0) (R : B → Type 0) (a : Option A) (b : Option B) → IfThere Q a → IfThere R b → IfThere (λ (p : A × B). Q p.0 × R p.1) (paired a b)
paired_has Q R None b h g = tt
paired_has Q R (Some x) None h g = tt
paired_has Q R (Some x) (Some y) h g = (h, g)

pub both_keep : (k : Setting) {A B : Type 0} (Q : A → Type 0) (R : B → Type 0) (a : Judged A) (b : Judged B) → Keeps k Q a → Keeps k R b → Keeps k (λ (p : A × B). Q p.0 × R p.1) (both a b)
both_keep k Q R a b h g = (paired_has Q R a.node b.node h.0 g.0, said_both k a.notes b.notes h.1 g.1)

pub made_keeps : (k : Setting) {A B : Type 0} (Q : A → Type 0) (R : B → Type 0) (f : A → B) (j : Judged A) → Keeps k Q j → ((x : A) → Q x → R (f x)) → Keeps k R (made f j)
made_keeps k Q R f j h g = then_keeps k Q R j (λ x. sound (f x)) h (λ x q. (g x q, none))

pub each_keep : (k : Setting) {A : Type 0} (Q : A → Type 0) (js : List (Judged A)) → AllByRecursion (Keeps k Q) js → Keeps k (AllByRecursion Q) (each_sound js)
each_keep k Q [] h = (tt, none)
each_keep k Q (j ∷ js) h = made_keeps k (λ p. Q p.0 × AllByRecursion Q p.1) (AllByRecursion Q) (λ p. p.0 ∷ p.1) (both j (each_sound js)) (both_keep k Q (AllByRecursion Q) j (each_sound js) h.0 (each_keep k Q js h.1)) (λ p q. q)

pub unless_keeps : (k : Setting) {A : Type 0} (Q : A → Type 0) (b : Bool) (rule : Rule) (at : Pos) (x : A) → Q x → Keeps k Q (unless b rule at x)
unless_keeps k Q true rule at x h = (tt, none)
unless_keeps k Q false rule at x h = (h, none)

pub wants_keeps : (k : Setting) {A : Type 0} (Q : A → Type 0) (b : Bool) (rule : Rule) (at : Pos) (x : A) → (b ≡ true → Q x) → Keeps k Q (wants b rule at x)
wants_keeps k Q true rule at x h = (h refl, none)
wants_keeps k Q false rule at x h = (tt, none)

pub found_keeps : (k : Setting) {A : Type 0} (Q : A → Type 0) (rule : Rule) (at : Pos) (o : Option A) → IfThere Q o → Keeps k Q (found_or rule at o)
found_keeps k Q rule at None h = (tt, none)
found_keeps k Q rule at (Some x) h = (h, none)

pub also_keeps : (k : Setting) {A : Type 0} (Q : A → Type 0) (b : Bool) (rule : Rule) (at : Pos) (j : Judged A) → Keeps k Q j → Keeps k Q (also b rule at j)
also_keeps k Q true rule at j h = (tt, h.1)
also_keeps k Q false rule at j h = h

pub noted_keeps : (k : Setting) {A : Type 0} (Q : A → Type 0) (n : Notes) (j : Judged A) → Said k n → Keeps k Q j → Keeps k Q (noted n j)
noted_keeps k Q n j s h = (h.0, said_both k n j.notes s h.1)

pub quiet_keeps : (k : Setting) {A : Type 0} (Q : A → Type 0) (n : Notes) (j : Judged A) → Said k n → Keeps k Q j → Keeps k Q (behind_quiet n j)
quiet_keeps k {A = A} Q n j s h = (by (is_quiet n.broken) j.node h.0, said_both k n j.notes s h.1)
  where
    by : (b : Bool) (o : Option A) → IfThere Q o → IfThere Q (if_quiet b o)
    by true o i = i
    by false o i = tt

pub later_keeps : (k : Setting) {A : Type 0} (Q : A → Type 0) (ls : List Later) (j : Judged A) → Keeps k Q j → Keeps k Q (judge_later ls j)
later_keeps k Q [] j h = h
later_keeps k Q (l ∷ ls) j h = later_keeps k Q ls j h

-- ---- trees

pub counts_both : (k : Setting) (cs ds : List Count) → CountsIn k.Held cs → CountsIn k.Held ds → CountsIn k.Held (cs ++ ds)
counts_both k [] ds h g = g
counts_both k (Shapes t ∷ cs) ds h g = (h.0, counts_both k cs ds h.1 g)
counts_both k (Layouts t ∷ cs) ds h g = counts_both k cs ds h g

pub named_e : (k : Setting) (x : TypedExpr) (e : Expr) → expr_view x ≡ e → TE k e → E k x
named_e k x e i h = subst (TE k) (sym i) h

pub node_e : (k : Setting) (x : TypedExpr) (e : Expr) → expr_view x ≡ e → TE k e → NoText e → NodeOk k x
node_e k x e i h g = (subst (TE k) (sym i) h, subst NoText (sym i) g)

pub named_d : (k : Setting) (x : Designator) (d : Desig) → designator_view x ≡ d → TD k d → D k x
named_d k x d i h = subst (TD k) (sym i) h

-- a designator of that type
pub place_of : (k : Setting) (x : Designator) (d : Desig) (t : TypeRef) → designator_view x ≡ d → TD k d → In k t → variable_type d ≡ t → D k x × In k t × (variable_type (designator_view x) ≡ t)
place_of k x d t i h g e = (subst (TD k) (sym i) h, g, subst (λ d. variable_type d ≡ t) (sym i) e)

pub tree_ok : (k : Setting) (x : Valued) → ValuedOk k x → E k (tree x)
tree_ok k (valued.Constant v) h = named_e k _ (Constant v) (view_constant v) (tt, tt)
tree_ok k (valued.Place p) h = named_e k _ (ValueOf (designator_view p.designator.inner)) (view_value_of p.designator.inner) h.0
tree_ok k (valued.Node n) h = h.0

find_if : {A : Type 0} (Q : A → Type 0) (b : Bool) (x : A) (o : Option A) → Q x → IfThere Q o → IfThere Q (cond b (Some x) o)
find_if Q true x o h g = h
find_if Q false x o h g = g

pub find_has : {A : Type 0} (Q : A → Type 0) (test : A → Bool) (xs : List A) → AllByRecursion Q xs → IfThere Q (find test xs)
find_has Q test [] h = tt
find_has Q test (x ∷ xs) h = find_if Q (test x) x (find test xs) h.0 (find_has Q test xs h.1)
