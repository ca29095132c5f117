-- The names that are declared in a heading.
use Rattle.std.proofs.Common.{◌≡◌, ℕ, zero, suc, ◌+◌, ◌-◌, ◌<◌, ◌≤◌, Bool, true, false, List, [], ◌∷◌, ◌++◌, length, Option, Some, None, refl, sym, ap, subst, ◌∙◌, arith, cond, eq-eqb}
use Rattle.std.specs.Prelude.{◌&&◌, nat_eq, nat_le, bytes_eq}
use Rattle.std.specs.List.{filter, find}
use Rattle.std.proofs.lemmas.List.{append_assoc}
use Rattle.std.proofs.lemmas.Bool.Decides.{nat_tests}
use Rattle.ob_tree.specs.declared.ident.Ident.{Ident}
use Rattle.ob_tree.specs.declared.ident.Mark.TheVariants as mark
use Rattle.ob_tree.specs.declared.decl.Heading.{Heading}
use Rattle.ob_tree.specs.declared.decl.Receiver.{Receiver}
use Rattle.ob_types.specs.declared.types.Mode.{Mode}
use Rattle.ob_rules.specs.declared.entity.Known.{Known}
use Rattle.ob_rules.specs.declared.entity.Entity.{Entity}
use Rattle.ob_rules.specs.Names.{Around, in_scope}
use Rattle.ob_rules.specs.Types.{Typing, WrittenSection, declare_all, knows, parameter_as, with_made, mode_of, section_name, sections, inner, written_parameters}
use Rattle.ob_rules.specs.Headings.{BoundAs, knows_receiver, of_scope}
use Rattle.ob_cdecl_scopes.specs.Bodies.{outer_names}
use Rattle.ob_cdecl_scopes.specs.Descending.{are_of, are_within}
use Rattle.ob_cdecl_heading.specs.Sections.{sections_of, around_inside, latest_in, if_of}

pub entered : (u v : Around) → v ≡ record u { scope = u.scope + 1 } → v ≡ inner u
entered u v e = let s : u.scope + 1 ≡ suc u.scope = omega arith in e ∙ ap (λ n. record u { scope = n }) s

-- the names of the scope n, and those before
pub record Grown (n : ℕ) (old new : List Known) : Type 0 where
  pub names : List Known
  pub all : are_of n names ≡ true
  pub is : new ≡ names ++ old

joined_true : (a b : Bool) → a ≡ true → b ≡ true → a && b ≡ true
joined_true true true e f = refl
joined_true true false e f = absurd cc
joined_true false b e f = absurd cc

both_true : (a b : Bool) → a && b ≡ true → (a ≡ true) × (b ≡ true)
both_true true true e = (refl, refl)
both_true true false e = absurd cc
both_true false b e = absurd cc

are_joined : (n : ℕ) (a b : List Known) → are_of n a ≡ true → are_of n b ≡ true → are_of n (a ++ b) ≡ true
are_joined n [] b e f = f
are_joined n (k ∷ a) b e f = let p = both_true (nat_eq k.scope n) (are_of n a) e in joined_true (nat_eq k.scope n) (are_of n (a ++ b)) p.0 (are_joined n a b p.1 f)

grown_none : (n : ℕ) (old : List Known) → Grown n old old
grown_none n old = record { names = []; all = refl; is = refl }

grown_one : (n : ℕ) (x : List ℕ) (e : Entity) (old : List Known) → Grown n old (record { name = x; scope = n; what = e } ∷ old)
grown_one n x e old = record { names = record { name = x; scope = n; what = e } ∷ []; all = joined_true (nat_eq n n) true (eq-eqb n n refl) refl; is = refl }

grown_then : (n : ℕ) (a b c : List Known) → Grown n a b → Grown n b c → Grown n a c
grown_then n a b c g h = record {
  names = h.names ++ g.names;
  all = are_joined n h.names g.names h.all g.all;
  is = h.is ∙ ap (λ l. h.names ++ l) g.is ∙ sym (append_assoc h.names g.names a);
}

names_grown : (u : Around) (m : Mode) (t : Option Typing) (xs : List Ident) → Grown u.scope u.known (declare_all u m t xs).around.known
names_grown u m t [] = grown_none u.scope u.known
names_grown u m t (x ∷ xs) =
    let e = parameter_as u m x t in
    grown_then u.scope u.known (knows u x e).known (declare_all (knows u x e) m t xs).around.known (grown_one u.scope x.name e u.known) (names_grown (knows u x e) m t xs)

names_scope : (u : Around) (m : Mode) (t : Option Typing) (xs : List Ident) → (declare_all u m t xs).around.scope ≡ u.scope
names_scope u m t [] = refl
names_scope u m t (x ∷ xs) = names_scope (knows u x (parameter_as u m x t)) m t xs

made_known : (v : Around) (t : Option Typing) → (with_made v t).known ≡ v.known
made_known v None = refl
made_known v (Some t) = refl

made_scope : (v : Around) (t : Option Typing) → (with_made v t).scope ≡ v.scope
made_scope v None = refl
made_scope v (Some t) = refl

moved : (n m : ℕ) (a b c : List Known) → n ≡ m → a ≡ b → Grown n a c → Grown m b c
moved n m a b c e f g = subst (λ k. Grown k b c) e (subst (λ l. Grown n l c) f g)

sections_grown : (u : Around) (name : List ℕ) (i : ℕ) (ss : List WrittenSection) → Grown u.scope u.known (sections u name i ss).known
sections_grown u name i [] = grown_none u.scope u.known
sections_grown u name i (s ∷ ss) =
    let m = mode_of s.is_var in
    let t = (s.node.typing u (section_name name i) mark.Hidden true).node in
    let d = (declare_all u m t s.names).around in
    let v = with_made d t in
    let rest = sections_grown v name (i + length s.names) ss in
    let all = (sections v name (i + length s.names) ss).known in
    grown_then u.scope u.known d.known all (names_grown u m t s.names) (moved v.scope u.scope v.known d.known all (made_scope d t ∙ names_scope u m t s.names) (made_known d t) rest)

receiver_grown : (v : Around) (r : Option Receiver) (b : Option (Option BoundAs)) → Grown v.scope v.known (knows_receiver v r b).known
receiver_grown v None b = grown_none v.scope v.known
receiver_grown v (Some r) (Some (Some b)) = grown_one v.scope r.ident.name _ v.known
receiver_grown v (Some r) (Some None) = grown_one v.scope r.ident.name _ v.known
receiver_grown v (Some r) None = grown_one v.scope r.ident.name _ v.known

receiver_scope : (v : Around) (r : Option Receiver) (b : Option (Option BoundAs)) → (knows_receiver v r b).scope ≡ v.scope
receiver_scope v None b = refl
receiver_scope v (Some r) (Some (Some b)) = refl
receiver_scope v (Some r) (Some None) = refl
receiver_scope v (Some r) None = refl

receiver_else : (v : Around) (r : Option Receiver) (b : Option (Option BoundAs)) (n : ℕ) (ks : List Known) → record (knows_receiver v r b) { scope = n; known = ks } ≡ record v { scope = n; known = ks }
receiver_else v None b n ks = refl
receiver_else v (Some r) (Some (Some b)) n ks = refl
receiver_else v (Some r) (Some None) n ks = refl
receiver_else v (Some r) None n ks = refl

pub inside_grown : (u : Around) (h : Heading) (b : Option (Option BoundAs)) (name : List ℕ) → Grown (suc u.scope) u.known (sections_of u h b name).known
inside_grown u h b name =
    let w = knows_receiver (inner u) h.receiver b in
    let all = (sections_of u h b name).known in
    grown_then (suc u.scope) u.known w.known all (receiver_grown (inner u) h.receiver b) (moved w.scope (suc u.scope) w.known w.known all (receiver_scope (inner u) h.receiver b) refl (sections_grown w name 1 (written_parameters h.parameters).sections))

less : (m n : ℕ) → nat_le m n ≡ true → m ≤ n
less m n h = grind (arith, nat_tests)

at_most : (m n : ℕ) → m ≤ n → nat_le m n ≡ true
at_most m n le = grind (arith, nat_tests)

beyond : (m n : ℕ) → nat_eq m (suc n) ≡ true → nat_le m n ≡ false
beyond m n e = grind (arith, nat_tests)

outer_all : (n m : ℕ) (ks : List Known) → m ≤ n → are_within m ks ≡ true → outer_names n ks ≡ ks
outer_all n m [] le e = refl
outer_all n m (k ∷ ks) le e =
    let p = both_true (nat_le k.scope m) (are_within k.scope ks) e in
    let below = less k.scope m p.0 in
    ap (λ b. cond b (k ∷ outer_names n ks) (outer_names n ks)) (at_most k.scope n (omega (arith, below))) ∙ ap (λ l. k ∷ l) (outer_all n k.scope ks (omega (arith, below)) p.1)

outer_none : (n : ℕ) (ds ks : List Known) → are_of (suc n) ds ≡ true → outer_names n (ds ++ ks) ≡ outer_names n ks
outer_none n [] ks e = refl
outer_none n (k ∷ ds) ks e =
    let p = both_true (nat_eq k.scope (suc n)) (are_of (suc n) ds) e in
    ap (λ b. cond b (k ∷ outer_names n (ds ++ ks)) (outer_names n (ds ++ ks))) (beyond k.scope n p.0) ∙ outer_none n ds ks p.1

outer_of : (n : ℕ) (old new : List Known) → Grown (suc n) old new → are_within n old ≡ true → outer_names n new ≡ old
outer_of n old new g e = ap (outer_names n) g.is ∙ outer_none n g.names old g.all ∙ outer_all n n old (omega arith) e

inside_scope : (u : Around) (h : Heading) (b : Option (Option BoundAs)) (name : List ℕ) → (around_inside u h b name).scope - 1 ≡ u.scope
inside_scope u h b name = let e = receiver_scope (inner u) h.receiver b in omega (arith, e)

-- behind the heading all is as before it
pub left_heading : (u w v : Around) (h : Heading) (b : Option (Option BoundAs)) (name : List ℕ) → are_within u.scope u.known ≡ true → w ≡ around_inside u h b name → v ≡ record w { scope = w.scope - 1; known = outer_names (w.scope - 1) w.known } → v ≡ u
left_heading u w v h b name fall is left =
    let a = around_inside u h b name in
    let ks = (sections_of u h b name).known in
    let F : Around → Around = λ x. record x { scope = x.scope - 1; known = outer_names (x.scope - 1) x.known } in
    let G : ℕ → Around = λ n. record a { scope = n; known = outer_names n ks } in
    let H : List Known → Around = λ l. record a { scope = u.scope; known = l } in
    left ∙ ap F is ∙ ap G (inside_scope u h b name) ∙ ap H (outer_of u.scope u.known ks (inside_grown u h b name) fall) ∙ receiver_else (inner u) h.receiver b u.scope u.known

pub left_names : (u w : Around) (h : Heading) (b : Option (Option BoundAs)) (name : List ℕ) (ns : List Known) → w ≡ around_inside u h b name → ns ≡ of_scope (w.scope - 1) w.known → ns ≡ of_scope u.scope (sections_of u h b name).known
left_names u w h b name ns is e =
    let F : Around → List Known = λ x. of_scope (x.scope - 1) x.known in
    e ∙ ap F is ∙ ap (λ n. of_scope n (sections_of u h b name).known) (inside_scope u h b name)

pub left_scope : (u w : Around) (h : Heading) (b : Option (Option BoundAs)) (name : List ℕ) (n : ℕ) → w ≡ around_inside u h b name → n ≡ w.scope → n ≡ suc u.scope
left_scope u w h b name n is e = e ∙ ap (λ x. x.scope) is ∙ receiver_scope (inner u) h.receiver b

pub is_inner : (u w : Around) (h : Heading) (b : Option (Option BoundAs)) (name : List ℕ) → w ≡ around_inside u h b name → 0 < w.scope
is_inner u w h b name is = let e = left_scope u w h b name w.scope is refl in omega (arith, e)

-- THE LATEST OF A NAME IN A SCOPE

none_in : (n s : ℕ) (ks : List Known) (x : List ℕ) → are_within n ks ≡ true → n < s → find (λ k. in_scope s k x) ks ≡ None
none_in n s [] x h lt = refl
none_in n s (k ∷ ks) x h lt = grind (arith, nat_tests, none_in k.scope s ks x)

apart : (m s : ℕ) → nat_eq m s ≡ false → m ≤ s → m < s
apart m s e le = grind (arith, nat_tests)

pub latest_is : (n s : ℕ) (ks : List Known) (x : List ℕ) → n ≤ s → are_within n ks ≡ true → latest_in s (find (λ k. bytes_eq k.name x) ks) ≡ find (λ k. in_scope s k x) ks
latest_is n s [] x le h = refl
latest_is n s (k ∷ ks) x le h =
    let p = both_true (nat_le k.scope n) (are_within k.scope ks) h in
    let below = less k.scope n p.0 in
    go (bytes_eq k.name x) (nat_eq k.scope s) refl (omega (arith, below)) p.1 (latest_is k.scope s ks x (omega (arith, below)) p.1)
  where
    go : (b e : Bool) → nat_eq k.scope s ≡ e → k.scope ≤ s → are_within k.scope ks ≡ true → latest_in s (find (λ y. bytes_eq y.name x) ks) ≡ find (λ y. in_scope s y x) ks → latest_in s (cond b (Some k) (find (λ y. bytes_eq y.name x) ks)) ≡ cond (e && b) (Some k) (find (λ y. in_scope s y x) ks)
    go true true f le w r = ap (λ y. if_of y k) f
    go true false f le w r = ap (λ y. if_of y k) f ∙ sym (none_in k.scope s ks x w (apart k.scope s f le))
    go false true f le w r = r
    go false false f le w r = r
