-- A declaration leaves known what was known, and its variables are new.
use Rattle.std.proofs.Common.{◌≡◌, ◌≢◌, ℕ, Bool, true, false, List, [], ◌∷◌, ◌++◌, Option, Some, None, refl, sym, ap, subst, ◌∙◌}
use Rattle.std.proofs.lemmas.Bool.{eq-eqb}
use Rattle.std.specs.Prelude.{bytes_eq, ◌&&◌, cond, is_some}
use Rattle.std.specs.List.{AllByRecursion}
use Rattle.ob_tree.specs.declared.pos.Pos.{Pos}
use Rattle.ob_tree.specs.declared.ident.Ident.{Ident}
use Rattle.ob_types.specs.declared.typed.TypedVariable.{TypedVariable}
use Rattle.ob_rules.specs.declared.entity.Entity.{Entity}
use Rattle.ob_rules.specs.declared.entity.Known.{Known}
use Rattle.ob_rules.specs.declared.broken.Broken.{Broken}
use Rattle.ob_rules.specs.declared.broken.Rule.TheVariants as rule
use Rattle.ob_rules.specs.declared.broken.Rule.{Rule}
use Rattle.ob_rules.specs.Judged.{notes_if}
use Rattle.ob_rules.specs.Names.{Around, in_scope, found_in_scope}
use Rattle.ob_rules.specs.Declarations.{Part, Declared, declare_if, declare, twice, with_part, then_declared}
use Rattle.law_names_distinct.specs.Distinct.{AreDistinct}
use Rattle.law_lists.proofs.Lists.{all_both, all_from, back_empty, bytes_itself, front_empty}

-- ---- lists

-- the names of the first are known, and those of the others are not
pub distinct_both : {A : Type 0} (name : A → List ℕ) (known : List ℕ → Bool) (xs ys : List A) → AreDistinct name xs → AreDistinct name ys → AllByRecursion (λ x. known (name x) ≡ true) xs → AllByRecursion (λ y. known (name y) ≡ false) ys → AreDistinct name (xs ++ ys)
distinct_both name known [] ys d e h k = e
distinct_both {A} name known (x ∷ xs) ys d e h k = (
  all_both (λ y. name y ≢ name x) xs ys d.0 (all_from (λ y. known (name y) ≡ false) (λ y. name y ≢ name x) (λ y n same. let bad : true ≡ false = sym h.0 ∙ ap known (sym same) ∙ n in absurd cc) ys k),
  distinct_both name known xs ys d.1 e h.1 k,
)

-- ---- what is known in the scope

abbrev pub is_known : Around → List ℕ → Bool
is_known u x = is_some (found_in_scope u x)

first_known : (b : Bool) (k : Known) (o : Option Known) → is_some o ≡ true → is_some (cond b (Some k) o) ≡ true
first_known true k o h = refl
first_known false k o h = h

pub stays_known : (o : Option Known) (u : Around) (x : Ident) (e : Entity) (y : List ℕ) → is_known u y ≡ true → is_known (declare_if o u x e) y ≡ true
stays_known (Some k) u x e y h = h
stays_known None u x e y h =
    let k : Known = record { name = x.name; scope = u.scope; what = e } in
    first_known (in_scope u.scope k y) k (found_in_scope u y) h

pub same_scope : (o : Option Known) (u : Around) (x : Ident) (e : Entity) → (declare_if o u x e).scope ≡ u.scope
same_scope (Some k) u x e = refl
same_scope None u x e = refl

pub is_declared : (o : Option Known) (u : Around) (x : Ident) (e : Entity) → found_in_scope u x.name ≡ o → is_known (declare_if o u x e) x.name ≡ true
is_declared (Some k) u x e h = ap is_some h
is_declared None u x e h =
    let k : Known = record { name = x.name; scope = u.scope; what = e } in
    let here : in_scope u.scope k x.name ≡ true = ap (λ b. b && bytes_eq x.name x.name) (eq-eqb u.scope u.scope refl) ∙ bytes_itself x.name in
    ap (λ b. is_some (cond b (Some k) (found_in_scope u x.name))) here

pub quiet_if : (b : Bool) (which : Rule) (at : Pos) → (notes_if b which at).broken ≡ [] → b ≡ false
quiet_if true which at e = absurd cc
quiet_if false which at e = refl

pub once : (u : Around) (x : Ident) → (twice u x).broken ≡ [] → is_known u x.name ≡ false
once u x e = quiet_if (is_known u x.name) rule.DeclaredTwice x.pos e

-- ---- a declaration

pub record IsFresh (u : Around) (d : Declared) : Type 0 where
  pub scope : d.around.scope ≡ u.scope
  pub keeps : (x : List ℕ) → is_known u x ≡ true → is_known d.around x ≡ true
  pub there : AllByRecursion (λ v. is_known d.around v.name ≡ true) d.part.contents.variables
  pub new : d.part.notes.broken ≡ [] → AllByRecursion (λ v. is_known u v.name ≡ false) d.part.contents.variables
  pub differ : d.part.notes.broken ≡ [] → AreDistinct (λ v. v.name) d.part.contents.variables

-- what is not known behind was not before
pub not_before : (a b : Bool) → (a ≡ true → b ≡ true) → b ≡ false → a ≡ false
not_before true b h n = let bad : true ≡ false = sym (h refl) ∙ n in absurd cc
not_before false b h n = refl

pub then_fresh : (u : Around) (a : Declared) (f : Around → Declared) → IsFresh u a → IsFresh a.around (f a.around) → IsFresh u (then_declared a f)
then_fresh u a f g h =
    let xs : List TypedVariable = a.part.contents.variables in
    let ys : List TypedVariable = (f a.around).part.contents.variables in
    let front : List Broken = a.part.notes.broken in
    let back : List Broken = (f a.around).part.notes.broken in
    record {
      scope = h.scope ∙ g.scope;
      keeps = λ x k. h.keeps x (g.keeps x k);
      there = all_both (λ v. is_known (f a.around).around v.name ≡ true) xs ys (all_from (λ v. is_known a.around v.name ≡ true) (λ v. is_known (f a.around).around v.name ≡ true) (λ v k. h.keeps v.name k) xs g.there) h.there;
      new = λ e. all_both (λ v. is_known u v.name ≡ false) xs ys (g.new (front_empty front back e)) (all_from (λ v. is_known a.around v.name ≡ false) (λ v. is_known u v.name ≡ false) (λ v n. not_before (is_known u v.name) (is_known a.around v.name) (g.keeps v.name) n) ys (h.new (back_empty front back e)));
      differ = λ e. distinct_both (λ v. v.name) (is_known a.around) xs ys (g.differ (front_empty front back e)) (h.differ (back_empty front back e)) g.there (h.new (back_empty front back e));
    }

-- one that adds no variables
pub plain_fresh : (u : Around) (p : Part) (o : Option Known) (v : Around) (x : Ident) (e : Entity) → v.scope ≡ u.scope → ((y : List ℕ) → is_known v y ≡ is_known u y) → p.contents.variables ≡ [] → IsFresh u (record { part = p; around = declare v x e })
plain_fresh u p o v x e s k n = record {
  scope = same_scope (found_in_scope v x.name) v x e ∙ s;
  keeps = λ y h. stays_known (found_in_scope v x.name) v x e y (k y ∙ h);
  there = subst (λ vs. AllByRecursion (λ w. is_known (declare v x e) w.name ≡ true) vs) (sym n) tt;
  new = λ b. subst (λ vs. AllByRecursion (λ w. is_known u w.name ≡ false) vs) (sym n) tt;
  differ = λ b. subst (λ vs. AreDistinct (λ w. w.name) vs) (sym n) tt;
}
