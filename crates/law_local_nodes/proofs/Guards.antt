-- Variables under their guards: each guard that stands around has a node.
use Rattle.std.proofs.Common.{◌≡◌, refl, sym, ap, ◌∙◌, subst, ℕ, Bool, true, false, List, [], ◌∷◌, ◌++◌, Option, Some, None, cond}
use Rattle.std.specs.Prelude.{◌&&◌, bytes_eq}
use Rattle.std.specs.List.{AllByRecursion}
use Rattle.std.proofs.lemmas.Bool.{false≢true, and_parts}
use Rattle.std.proofs.lemmas.Slice.Eq.{bytes_eq-Decides}
use Rattle.ob_tree.specs.declared.pos.Pos.{Pos}
use Rattle.ob_tree.specs.declared.names.QName.{QName}
use Rattle.ob_tree.specs.declared.ident.Ident.{Ident}
use Rattle.ob_tree.specs.declared.ident.Mark.{Mark}
use Rattle.ob_types.specs.declared.types.TypeRef.{TypeRef}
use Rattle.ob_types.specs.declared.desc.Desc.{Desc}
use Rattle.ob_types.specs.declared.desc.Desc.TheVariants as desc
use Rattle.ob_types.specs.declared.typed.Guarded.{Guarded}
use Rattle.ob_types.specs.declared.typed.Guarded.TheVariants as guarded
use Rattle.ob_types.specs.declared.typed.Variable.{Variable}
use Rattle.ob_types.specs.declared.typed.Variable.TheVariants as variable
use Rattle.ob_rules.specs.declared.entity.Entity.{Entity}
use Rattle.ob_rules.specs.declared.entity.Entity.TheVariants as entity
use Rattle.ob_rules.specs.declared.entity.Known.{Known}
use Rattle.ob_rules.specs.declared.values.Place.{Place}
use Rattle.ob_rules.specs.Judged.{Judged, if_sound, sound, ◌▷◌}
use Rattle.ob_rules.specs.Shapes.{Map, record_of, pointed_record}
use Rattle.ob_rules.specs.Names.{Around, map_of, find_name}
use Rattle.ob_rules.specs.Designators.{variable_at, same_variable, guarded_by, if_extends, on_record, guard_kind, guard_of, with_guard, guard_if, guard_same, with_guards, variable_named}
use Rattle.law_names_procedures.proofs.Judges.{Has}
use Rattle.law_names_procedures.proofs.Knowing.{IsKnown, AreKnown, find_has}
use Rattle.law_local_judged.specs.Declared.{IsSound, AreSound}
use Rattle.law_local_nodes.specs.Quiet.{name_of, IsOfUnit, IsNamed, AreNamed, IsQuiet}
use Rattle.law_local_nodes.proofs.Maps.{guards_map, loop_map, held_same}
use Rattle.law_local_nodes.proofs.Maps as maps
use Rattle.law_lists.proofs.Lists.{Anything, IfThere}

-- ---- what a name, with one behind a dot, means as a variable

pub data Means (known : List Known) (shown : QName → Option Desc) (x : List ℕ) (dot : Option Ident) : Variable → TypeRef → Type 0 where
  plain : {v : Variable} {t : TypeRef} (k : Known) → find_name known x ≡ Some k → k.what ≡ entity.Variable v t → Means known shown x dot v t
  behind : {t : TypeRef} (k : Known) (m : List ℕ) (y : Ident) (mark : Mark) → find_name known x ≡ Some k → k.what ≡ entity.Module m → dot ≡ Some y → shown (record { «module» = m; object = y.name }) ≡ Some (desc.Var mark t) → Means known shown x dot (variable.Module m y.name) t

-- each such variable has a node under the guards that stand around
abbrev pub GuardsHold : Around → Type 0
GuardsHold u = (x : List ℕ) (dot : Option Ident) (v : Variable) (t : TypeRef) → Means u.known u.shown x dot v t → (at : Pos) (read_only : Bool) → Has Anything (variable_named u at v t read_only).node

pub record Quiet (u : Around) : Type 0 where
  pub quiet : IsQuiet u
  pub guards : GuardsHold u

sound_known : (e : Entity) → IsSound e → IsKnown e
sound_known entity.Unsound h = h
sound_known e h = tt

pub are_known : (ks : List Known) → AreSound ks → AreKnown ks
are_known [] h = tt
are_known (k ∷ ks) h = (sound_known k.what h.0, are_known ks h.1)

-- ---- two names of one variable mean the same

pub found_in : (P : Known → Type 0) (ks : List Known) (x : List ℕ) (k : Known) → AllByRecursion P ks → find_name ks x ≡ Some k → P k
found_in P ks x k h e = subst (IfThere P) e (find_has P (λ k. bytes_eq k.name x) ks h)

found_name : (ks : List Known) (x : List ℕ) (k : Known) → find_name ks x ≡ Some k → k.name ≡ x
found_name [] x k e = absurd cc
found_name (j ∷ ks) x k e = go (bytes_eq j.name x) refl (λ h. found_name ks x k h) e
  where
    go : (b : Bool) → bytes_eq j.name x ≡ b → (find_name ks x ≡ Some k → k.name ≡ x) → cond b (Some j) (find_name ks x) ≡ Some k → k.name ≡ x
    go true i more h = let l : j ≡ k = cc in sym (ap (λ (k : Known). k.name) l) ∙ (bytes_eq-Decides j.name x).0 i
    go false i more h = more h

same_name : (v w : Variable) → same_variable v w ≡ true → name_of v ≡ name_of w
same_name (variable.Module m x) (variable.Module n y) e = (bytes_eq-Decides x y).0 (and_parts (bytes_eq m n) (bytes_eq x y) e).1
same_name (variable.Local x) (variable.Local y) e = (bytes_eq-Decides x y).0 e
same_name (variable.Parameter p x) (variable.Parameter q y) e = (bytes_eq-Decides x y).0 e
same_name (variable.Module m x) (variable.Local y) e = absurd (false≢true e)
same_name (variable.Module m x) (variable.Parameter q y) e = absurd (false≢true e)
same_name (variable.Local x) (variable.Module n y) e = absurd (false≢true e)
same_name (variable.Local x) (variable.Parameter q y) e = absurd (false≢true e)
same_name (variable.Parameter p x) (variable.Module n y) e = absurd (false≢true e)
same_name (variable.Parameter p x) (variable.Local y) e = absurd (false≢true e)

-- a variable of a module is no variable of another one
not_of : (unit m x : List ℕ) (v : Variable) → IsOfUnit unit v → bytes_eq m unit ≡ false → same_variable v (variable.Module m x) ≡ true → ⊥
not_of unit m x (variable.Module n y) h o e =
    let i : n ≡ m = (bytes_eq-Decides n m).0 (and_parts (bytes_eq n m) (bytes_eq y x) e).0 in
    false≢true (sym o ∙ (bytes_eq-Decides m unit).1 (sym i ∙ h))
not_of unit m x (variable.Local y) h o e = false≢true e
not_of unit m x (variable.Parameter p y) h o e = false≢true e

turned : (v w : Variable) → same_variable v w ≡ true → same_variable w v ≡ true
turned (variable.Module m x) (variable.Module n y) e =
    let p = and_parts (bytes_eq m n) (bytes_eq x y) e in
    ap (λ b. b && bytes_eq y x) ((bytes_eq-Decides n m).1 (sym ((bytes_eq-Decides m n).0 p.0))) ∙ (bytes_eq-Decides y x).1 (sym ((bytes_eq-Decides x y).0 p.1))
turned (variable.Local x) (variable.Local y) e = (bytes_eq-Decides y x).1 (sym ((bytes_eq-Decides x y).0 e))
turned (variable.Parameter p x) (variable.Parameter q y) e = (bytes_eq-Decides y x).1 (sym ((bytes_eq-Decides x y).0 e))
turned (variable.Module m x) (variable.Local y) e = absurd (false≢true e)
turned (variable.Module m x) (variable.Parameter q y) e = absurd (false≢true e)
turned (variable.Local x) (variable.Module n y) e = absurd (false≢true e)
turned (variable.Local x) (variable.Parameter q y) e = absurd (false≢true e)
turned (variable.Parameter p x) (variable.Module n y) e = absurd (false≢true e)
turned (variable.Parameter p x) (variable.Local y) e = absurd (false≢true e)

abbrev variable_in : Entity → Variable → Variable
variable_in (entity.Variable v t) d = v
variable_in e d = d

abbrev type_in : Entity → TypeRef → TypeRef
type_in (entity.Variable v t) d = t
type_in e d = d

one_entity : (v w : Variable) (t s : TypeRef) → entity.Variable v t ≡ entity.Variable w s → (v ≡ w) × (t ≡ s)
one_entity v w t s e = (ap (λ x. variable_in x v) e, ap (λ x. type_in x t) e)

module _ (unit : List ℕ) (known : List Known) (shown : QName → Option Desc) (named : AreNamed unit known) where
  pub one_meaning : (x y : List ℕ) (dot dos : Option Ident) (v w : Variable) (t s : TypeRef) → Means known shown x dot v t → Means known shown y dos w s → same_variable v w ≡ true → (v ≡ w) × (t ≡ s)
  one_meaning x y dot dos v w t s (plain k f i) (plain l g j) e =
      let n : (name_of v ≡ k.name) × IsOfUnit unit v = subst (IsNamed unit k.name) i (found_in (λ k. IsNamed unit k.name k.what) known x k named f) in
      let m : (name_of w ≡ l.name) × IsOfUnit unit w = subst (IsNamed unit l.name) j (found_in (λ k. IsNamed unit k.name k.what) known y l named g) in
      let names : x ≡ y = sym (found_name known x k f) ∙ (sym n.0 ∙ (same_name v w e ∙ (m.0 ∙ found_name known y l g))) in
      let one : k ≡ l = let z : Some k ≡ Some l = sym f ∙ (ap (find_name known) names ∙ g) in cc in
      one_entity v w t s (sym i ∙ (ap (λ (k : Known). k.what) one ∙ j))
  one_meaning x y dot dos v w t s (plain k f i) (behind l m z mk g j o p) e =
      let n : (name_of v ≡ k.name) × IsOfUnit unit v = subst (IsNamed unit k.name) i (found_in (λ k. IsNamed unit k.name k.what) known x k named f) in
      let q : bytes_eq m unit ≡ false = subst (IsNamed unit l.name) j (found_in (λ k. IsNamed unit k.name k.what) known y l named g) in
      absurd (not_of unit m z.name v n.1 q e)
  one_meaning x y dot dos v w t s (behind k m z mk f i o p) (plain l g j) e =
      let n : (name_of w ≡ l.name) × IsOfUnit unit w = subst (IsNamed unit l.name) j (found_in (λ k. IsNamed unit k.name k.what) known y l named g) in
      let q : bytes_eq m unit ≡ false = subst (IsNamed unit k.name) i (found_in (λ k. IsNamed unit k.name k.what) known x k named f) in
      absurd (not_of unit m z.name w n.1 q (turned (variable.Module m z.name) w e))
  one_meaning x y dot dos v w t s (behind k m z mk f i o p) (behind l n a ml g j r c) e =
      let both = and_parts (bytes_eq m n) (bytes_eq z.name a.name) e in
      let ms : m ≡ n = (bytes_eq-Decides m n).0 both.0 in
      let zs : z.name ≡ a.name = (bytes_eq-Decides z.name a.name).0 both.1 in
      let q : Some (desc.Var mk t) ≡ Some (desc.Var ml s) = sym p ∙ (ap (λ m. shown (record { «module» = m; object = z.name })) ms ∙ (ap (λ z. shown (record { «module» = n; object = z })) zs ∙ c)) in
      let ts : t ≡ s = cc in
      (ap (λ m. variable.Module m z.name) ms ∙ ap (variable.Module n) zs, ts)

-- ---- one more guard

with_behind : (map : Map) (at : Pos) (v : Variable) (gs : List (Variable × Option TypeRef)) (g : Variable × Option TypeRef) (j : Judged Place) → with_guards map at v (gs ++ g ∷ []) j ≡ guard_same (same_variable v g.0) map at (with_guards map at v gs j) g.1
with_behind map at v [] g j = refl
with_behind map at v (h ∷ gs) g j = with_behind map at v gs g (guard_same (same_variable v h.0) map at j h.1)

-- of a place a guard asks only its type, and whether it is a VAR parameter of a record type
abbrev pub AreAlike : Place → Place → Type 0
AreAlike p q = (p.of ≡ q.of) × (p.var_record ≡ q.var_record)

abbrev OneAlike : Option Place → Option Place → Type 0
OneAlike None None = Unit {0}
OneAlike None (Some q) = ⊥
OneAlike (Some p) None = ⊥
OneAlike (Some p) (Some q) = AreAlike p q

same_guard : (map : Map) (p q : Place) → AreAlike p q → (t : TypeRef) → guard_of map p t ≡ guard_of map q t
same_guard map p q h t = ap (λ y. guard_kind map p t (pointed_record map y)) h.0 ∙ by (pointed_record map q.of)
  where
    on : (b : Bool) → on_record b map p t ≡ on_record b map q t
    on true = ap (λ y. if_extends map guarded.Record (record_of map y) (record_of map t)) h.0
    on false = refl

    by : (o : Option QName) → guard_kind map p t o ≡ guard_kind map q t o
    by (Some a) = refl
    by None = ap (λ b. on_record b map p t) h.1 ∙ on q.var_record

module _ (f g : Map) (same : (q : QName) → g q ≡ f q) where
  by_guard : (p q : Place) → AreAlike p q → (at by : Pos) (t : TypeRef) (o : Option (Guarded × QName)) → OneAlike (with_guard f at p o t).node (with_guard g by q o t).node
  by_guard p q h at by t None = tt
  by_guard p q h at by t (Some k) = (refl, h.1)

  if_alike : (p q : Place) → AreAlike p q → (at by : Pos) (o : Option TypeRef) → OneAlike (guard_if f at p o).node (guard_if g by q o).node
  if_alike p q h at by None = tt
  if_alike p q h at by (Some t) =
      subst (λ o. OneAlike (with_guard f at p (guard_of f p t) t).node (with_guard g by q o t).node) (same_guard f p q h t ∙ sym (maps.guard_same f g same q t)) (by_guard p q h at by t (guard_of f p t))

  one_alike : (o p : Option Place) → OneAlike o p → (at by : Pos) (t : Option TypeRef) → OneAlike (if_sound o (λ q. guard_if f at q t)).node (if_sound p (λ q. guard_if g by q t)).node
  one_alike None None h at by t = tt
  one_alike None (Some q) h at by t = absurd h
  one_alike (Some p) None h at by t = absurd h
  one_alike (Some p) (Some q) h at by t = if_alike p q h at by t

  next_alike : (b : Bool) (at by : Pos) (i j : Judged Place) (t : Option TypeRef) → OneAlike i.node j.node → OneAlike (guard_same b f at i t).node (guard_same b g by j t).node
  next_alike true at by i j t h = one_alike i.node j.node h at by t
  next_alike false at by i j t h = h

  -- places that are alike stay so under guards
  pub guards_alike : (v : Variable) (gs : List (Variable × Option TypeRef)) (at by : Pos) (i j : Judged Place) → OneAlike i.node j.node → OneAlike (with_guards f at v gs i).node (with_guards g by v gs j).node
  guards_alike v [] at by i j h = h
  guards_alike v (k ∷ gs) at by i j h = guards_alike v gs at by (guard_same (same_variable v k.0) f at i k.1) (guard_same (same_variable v k.0) g by j k.1) (next_alike (same_variable v k.0) at by i j k.1 h)

has_alike : (o p : Option Place) → OneAlike o p → Has Anything o → Has Anything p
has_alike None p h k = absurd k
has_alike (Some x) None h k = absurd h
has_alike (Some x) (Some y) h k = tt

module _ (u : Around) (q : Quiet u) where
  -- ---- under one more guard

  module _ (x : List ℕ) (dot : Option Ident) (v : Variable) (t : TypeRef) (means : Means u.known u.shown x dot v t) (start : Pos) (read : Bool) (p : Place) (is : (variable_named u start v t read).node ≡ Some p) (target : TypeRef) (k : Guarded × QName) (guards : guard_of (map_of u) p target ≡ Some k) where
    abbrev more : List (Variable × Option TypeRef)
    more = u.guards ++ (v, Some target) ∷ []

    abbrev w : Around
    w = record u { guards = more }

    passes : (o : Option Place) → OneAlike (Some p) o → (at : Pos) → Has Anything (if_sound o (λ q. guard_if (map_of w) at q (Some target))).node
    passes None h at = absurd h
    passes (Some r) h at =
        let e : guard_of (map_of w) r target ≡ Some k = maps.guard_same (map_of u) (map_of w) (guards_map u more) r target ∙ (sym (same_guard (map_of u) p r h target) ∙ guards) in
        subst (λ o. Has Anything (with_guard (map_of w) at r o target).node) (sym e) tt

    last : (b : Bool) (y : List ℕ) (dos : Option Ident) (a : Variable) (s : TypeRef) → same_variable a v ≡ b → Means u.known u.shown y dos a s → (at : Pos) (ro : Bool) → Has Anything (guard_same b (map_of w) at (with_guards (map_of w) at a u.guards (sound (variable_at a s ro))) (Some target)).node
    last false y dos a s e m at ro =
        has_alike (variable_named u at a s ro).node (with_guards (map_of w) at a u.guards (sound (variable_at a s ro))).node
        (guards_alike (map_of u) (map_of w) (guards_map u more) a u.guards at at (sound (variable_at a s ro)) (sound (variable_at a s ro)) (refl, refl)) (q.guards y dos a s m at ro)
    last true y dos a s e m at ro =
        let one = one_meaning u.unit u.known u.shown q.quiet.named y x dos dot a v s t m means e in
        subst (λ z. Has Anything (guard_same true (map_of w) at (with_guards (map_of w) at z u.guards (sound (variable_at z s ro))) (Some target)).node) (sym one.0)
        (subst (λ z. Has Anything (guard_same true (map_of w) at (with_guards (map_of w) at v u.guards (sound (variable_at v z ro))) (Some target)).node) (sym one.1)
        (passes (with_guards (map_of w) at v u.guards (sound (variable_at v t ro))).node
        (subst (λ o. OneAlike o (with_guards (map_of w) at v u.guards (sound (variable_at v t ro))).node) is
        (guards_alike (map_of u) (map_of w) (guards_map u more) v u.guards start at (sound (variable_at v t read)) (sound (variable_at v t ro)) (refl, refl))) at))

    all_hold : GuardsHold w
    all_hold y dos a s m at ro =
        subst (λ (j : Judged Place). Has Anything j.node) (sym (with_behind (map_of w) at a u.guards (v, Some target) (sound (variable_at a s ro)))) (last (same_variable a v) y dos a s refl m at ro)

    pub entered : Quiet w
    entered = record {
      quiet = record { known = q.quiet.known; named = q.quiet.named; held = held_same (map_of u) (map_of w) (guards_map u more) q.quiet.held; bound = q.quiet.bound; coming = q.quiet.coming };
      guards = all_hold;
    }

  -- ---- in a loop

  abbrev loop : Around
  loop = record u { in_loop = true }

  loop_holds : GuardsHold loop
  loop_holds y dos a s m at ro =
      has_alike (variable_named u at a s ro).node (variable_named loop at a s ro).node
      (guards_alike (map_of u) (map_of loop) (loop_map u) a u.guards at at (sound (variable_at a s ro)) (sound (variable_at a s ro)) (refl, refl)) (q.guards y dos a s m at ro)

  pub looped : Quiet loop
  looped = record {
    quiet = record { known = q.quiet.known; named = q.quiet.named; held = held_same (map_of u) (map_of loop) (loop_map u) q.quiet.held; bound = q.quiet.bound; coming = q.quiet.coming };
    guards = loop_holds;
  }

-- where no guard stands around, each holds
pub no_guards : (u : Around) → IsQuiet u → u.guards ≡ [] → Quiet u
no_guards u q e = record { quiet = q; guards = λ x dot v t m at ro. subst (λ gs. Has Anything (with_guards (map_of u) at v gs (sound (variable_at v t ro))).node) (sym e) tt }
