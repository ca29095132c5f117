-- What is known in a scope, by the latest declaration of the name.
use Rattle.std.proofs.Common.{◌≡◌, ℕ, ◌<◌, ◌≤◌, Bool, true, false, List, [], ◌∷◌, length, Option, Some, None, Result, Ok, Err, OnOk, OnErr, refl, sym, ap, subst, ◌∙◌, arith}
use Rattle.std.specs.Prelude.{bytes_eq, ◌&&◌, ◌||◌, if◌then◌else◌, is_some, nat_eq, nat_le}
use Rattle.std.specs.List.{find, list_any}
use Rattle.std.specs.Option.{option_map}
use Rattle.std.proofs.lemmas.Bool.Decides.{nat_tests}
use Rattle.ob_tree.specs.declared.names.QName.{QName}
use Rattle.ob_types.specs.declared.typed.TypedType.{TypedType}
use Rattle.ob_rules.specs.declared.entity.Known.{Known}
use Rattle.ob_rules.specs.Names.{Around, map_of, type_desc, own_desc, out_string, is_among, in_scope}
use Rattle.ob_rules.specs.Shapes.{same_name}
use Rattle.ob_cdecl_scopes.specs.Stacks.{latest}
use Rattle.ob_cdecl_scopes.specs.Descending.{are_within, is_scope, is_scope_from}

pub among : (ks : List (List ℕ)) (x : List ℕ) → is_some (latest ks x) ≡ is_among x ks
among [] x = refl
among (k ∷ ks) x = go (bytes_eq k x) (among ks x)
  where
    go : (b : Bool) → is_some (latest ks x) ≡ is_among x ks → is_some (if b then Some (length ks) else latest ks x) ≡ b || is_among x ks
    go true r = refl
    go false r = r

both_true : (a b : Bool) → a && b ≡ true → (a ≡ true) × (b ≡ true)
both_true true true e = (refl, refl)
both_true true false e = absurd cc
both_true false b e = absurd cc

parts : (n m : ℕ) (ks : List Known) → nat_le m n && are_within m ks ≡ true → (nat_le m n ≡ true) × (are_within m ks ≡ true)
parts n m ks h = both_true (nat_le m n) (are_within m ks) h

less : (m n : ℕ) → nat_le m n ≡ true → m ≤ n
less m n h = grind (arith, nat_tests)

below : (n m s : ℕ) (ks : List Known) → nat_le m n && are_within m ks ≡ true → n ≤ s → m ≤ s
below n m s ks h le = let lt = less m n (parts n m ks h).0 in omega (arith, lt)

apart : (m s : ℕ) → nat_eq m s ≡ false → m ≤ s → m < s
apart m s e le = grind (arith, nat_tests)

beyond : (s m : ℕ) → nat_le s m ≡ false → m < s
beyond s m e = grind (arith, nat_tests)

none_in : (n s : ℕ) (ks : List Known) (x : List ℕ) → are_within n ks ≡ true → n < s → find (λ k. in_scope s k x) ks ≡ None
none_in n s [] x h lt = refl
none_in n s (k ∷ ks) x h lt = grind (arith, nat_tests, none_in k.scope s ks x)

pub in_scope_by : (n s : ℕ) (ks : List Known) (x : List ℕ) → are_within n ks ≡ true → n ≤ s → is_scope (option_map (λ k. k.scope) (find (λ k. bytes_eq k.name x) ks)) s ≡ is_some (find (λ k. in_scope s k x) ks)
in_scope_by n s [] x h le = refl
in_scope_by n s (k ∷ ks) x h le = go (bytes_eq k.name x) (nat_eq k.scope s) refl (in_scope_by k.scope s ks x (parts n k.scope ks h).1 (below n k.scope s ks h le))
  where
    go : (b e : Bool) → nat_eq k.scope s ≡ e → is_scope (option_map (λ y. y.scope) (find (λ y. bytes_eq y.name x) ks)) s ≡ is_some (find (λ y. in_scope s y x) ks) → is_scope (option_map (λ y. y.scope) (if b then Some k else find (λ y. bytes_eq y.name x) ks)) s ≡ is_some (if e && b then Some k else find (λ y. in_scope s y x) ks)
    go true true f r = f
    go true false f r = f ∙ sym (ap is_some (none_in k.scope s ks x (parts n k.scope ks h).1 (apart k.scope s f (below n k.scope s ks h le))))
    go false true f r = r
    go false false f r = r

none_from : (n s : ℕ) (ks : List Known) (x : List ℕ) → are_within n ks ≡ true → n < s → list_any (λ k. nat_le s k.scope && bytes_eq k.name x) ks ≡ false
none_from n s [] x h lt = refl
none_from n s (k ∷ ks) x h lt = grind (arith, nat_tests, none_from k.scope s ks x)

pub declared_by : (n s : ℕ) (ks : List Known) (x : List ℕ) → are_within n ks ≡ true → is_scope_from (option_map (λ k. k.scope) (find (λ k. bytes_eq k.name x) ks)) s ≡ list_any (λ k. nat_le s k.scope && bytes_eq k.name x) ks
declared_by n s [] x h = refl
declared_by n s (k ∷ ks) x h = go (bytes_eq k.name x) (nat_le s k.scope) refl (declared_by k.scope s ks x (parts n k.scope ks h).1)
  where
    go : (b e : Bool) → nat_le s k.scope ≡ e → is_scope_from (option_map (λ y. y.scope) (find (λ y. bytes_eq y.name x) ks)) s ≡ list_any (λ y. nat_le s y.scope && bytes_eq y.name x) ks → is_scope_from (option_map (λ y. y.scope) (if b then Some k else find (λ y. bytes_eq y.name x) ks)) s ≡ (e && b) || list_any (λ y. nat_le s y.scope && bytes_eq y.name x) ks
    go true true f r = f
    go true false f r = f ∙ sym (none_from k.scope s ks x (parts n k.scope ks h).1 (beyond s k.scope f))
    go false true f r = r
    go false false f r = r

pub own_seen : (u : Around) (q : QName) (o : Option TypedType) → bytes_eq q.«module» u.unit ≡ true → o ≡ find (λ t. bytes_eq t.name q.object) u.own → own_desc o ≡ map_of u q
own_seen u q o e f = ap own_desc f ∙ sym (ap (λ b. type_desc b (same_name q out_string) u q) e)

at_most : (m n : ℕ) → m ≤ n → nat_le m n ≡ true
at_most m n le = grind (arith, nat_tests)

joined_true : (a b : Bool) → a ≡ true → b ≡ true → a && b ≡ true
joined_true true true e f = refl
joined_true true false e f = absurd cc
joined_true false b e f = absurd cc

pub wider : (n m : ℕ) (ks : List Known) → n ≤ m → are_within n ks ≡ true → are_within m ks ≡ true
wider n m [] le h = refl
wider n m (k ∷ ks) le h = let p = parts n k.scope ks h in let lt = less k.scope n p.0 in joined_true (nat_le k.scope m) (are_within k.scope ks) (at_most k.scope m (omega (arith, lt))) p.1

pub one_more : {E : Type 0} (r : Result Unit E) (s : ℕ) (k : Known) (old new : List Known) → OnOk r (new ≡ k ∷ old) → OnErr r (new ≡ old) → k.scope ≡ s → are_within s old ≡ true → are_within s new ≡ true
one_more (Ok x) s k old new ok err e h = subst (λ l. are_within s l ≡ true) (sym ok) (joined_true (nat_le k.scope s) (are_within k.scope old) (at_most k.scope s (omega (arith, e))) (subst (λ n. are_within n old ≡ true) (sym e) h))
one_more (Err x) s k old new ok err e h = subst (λ l. are_within s l ≡ true) (sym err) h
