-- The pairs that two searches find are the pairs of the definition.
use Rattle.std.proofs.Common.{◌≡◌, ℕ, Bool, true, false, cond, not, ◌&&◌, List, [], ◌∷◌, ◌++◌, length, map as mapped, Option, None, refl, sym, ap, subst, ◌∙◌}
use Rattle.std.specs.Prelude.{◌⊎◌}
use Rattle.std.specs.List.{filter}
use Rattle.std.specs.BTreeMap.{is_at}
use Rattle.std.specs.Ordering.{is_eq}
use Rattle.std.specs.Cmp.{IsTotalOrder}
use Rattle.std.specs.declared.cmp.Ordering.{Ordering}
use Rattle.std.specs.declared.cmp.Ordering.TheVariants.{Less, Equal, Greater}
use Rattle.ob_tree.specs.declared.names.QName.{QName}
use Rattle.ob_types.specs.declared.desc.Desc.{Desc}
use Rattle.ob_types.specs.declared.face.Aspect.{Aspect}
use Rattle.ob_types.specs.declared.face.Aspect.TheVariants.{Shape, Layout}
use Rattle.ob_types.specs.TypedSyntax.{Module}
use Rattle.ob_types.specs.Maps.{IsFinite}
use Rattle.ob_types.specs.Relations.{is_record}
use Rattle.ob_types.specs.AssigningTests.{described as is_described}
use Rattle.ob_desc.specs.Grammar.{same_object}
use Rattle.ob_desc.specs.Laws.{object_decides}
use Rattle.ob_layout.specs.Lists.{in_order}
use Rattle.ob_uses_roots.specs.Counts.{Count, counts_of_module}
use Rattle.ob_uses_roots.specs.Noted.{names_of, shape_starts, layout_starts}
use Rattle.ob_uses.specs.declared.pair.Pair.{Pair}
use Rattle.ob_uses.specs.declared.way.Way.{Way}
use Rattle.ob_uses.specs.declared.way.Way.TheVariants as way
use Rattle.ob_uses.specs.Order.{by_pair, pairs_total}
use Rattle.ob_uses.specs.Closed.{is_among, of_found, reached_from}
use Rattle.ob_uses.specs.Reaching.{Reaches, AreEnough}
use Rattle.ob_uses.specs.Uses.{is_imported, as_shape, as_layout, pairs_of}
use Rattle.ob_uses.specs.Ways.{paired, has_pair, AreReached, AreAllNames, leads_by, desc_leads}
use Rattle.ob_uses.proofs.SamePairs.{pair_same}
use Rattle.ob_uses.proofs.Sorting.{Has, has, same_order}
use Rattle.ob_uses.proofs.Searching.{itself, known, no_both, either, left_of, right_of, exact_here}
use Rattle.ob_uses.proofs.Going.{at_same, at_itself}
use mathlib.Core.Logic.{inl, inr}

-- ---- members

pub has_of_pair : (ps : List Pair) (p : Pair) → has_pair ps p ≡ true → Has p ps
unfolding Has
has_of_pair [] p e = absurd cc
has_of_pair (r ∷ ps) p e = elim (either (is_at (by_pair p) r) (has_pair ps p) e) as (λ _. (p ≡ r) ⊎ Has p ps) [ inl h ↦ inl (at_same p r h) | inr h ↦ inr (has_of_pair ps p h) ]

pub pair_of_has : (ps : List Pair) (p : Pair) → Has p ps → has_pair ps p ≡ true
unfolding Has
pair_of_has [] p h = absurd h
pair_of_has (r ∷ ps) p (inl e) = left_of (is_at (by_pair p) r) (has_pair ps p) (subst (λ (s : Pair). is_at (by_pair p) s ≡ true) e (at_itself p))
pair_of_has (r ∷ ps) p (inr h) = right_of (is_at (by_pair p) r) (has_pair ps p) (pair_of_has ps p h)

pub has_of_among : (qs : List QName) (q : QName) → is_among qs q ≡ true → Has q qs
unfolding Has
has_of_among [] q e = absurd cc
has_of_among (r ∷ qs) q e = elim (either (same_object q r) (is_among qs q) e) as (λ _. (q ≡ r) ⊎ Has q qs) [ inl h ↦ inl ((object_decides q r).0 h) | inr h ↦ inr (has_of_among qs q h) ]

pub among_of_has : (qs : List QName) (q : QName) → Has q qs → is_among qs q ≡ true
unfolding Has
among_of_has [] q h = absurd h
among_of_has (r ∷ qs) q (inl e) = left_of (same_object q r) (is_among qs q) (subst (λ (s : QName). same_object q s ≡ true) e (itself q))
among_of_has (r ∷ qs) q (inr h) = right_of (same_object q r) (is_among qs q) (among_of_has qs q h)

pub join_has : {X : Type 0} (z : X) (xs ys : List X) → Has z (xs ++ ys) → Has z xs ⊎ Has z ys
unfolding Has
join_has z [] ys h = inr h
join_has z (x ∷ xs) ys (inl e) = inl (inl e)
join_has z (x ∷ xs) ys (inr h) = elim (join_has z xs ys h) as (λ _. Has z (x ∷ xs) ⊎ Has z ys) [ inl g ↦ inl (inr g) | inr g ↦ inr g ]

pub has_left : {X : Type 0} (z : X) (xs ys : List X) → Has z xs → Has z (xs ++ ys)
unfolding Has
has_left z [] ys h = absurd h
has_left z (x ∷ xs) ys (inl e) = inl e
has_left z (x ∷ xs) ys (inr h) = inr (has_left z xs ys h)

pub has_right : {X : Type 0} (z : X) (xs ys : List X) → Has z ys → Has z (xs ++ ys)
unfolding Has
has_right z [] ys h = h
has_right z (x ∷ xs) ys h = inr (has_right z xs ys h)

kept_step : {X : Type 0} (f : X → Bool) (z x : X) (xs ks : List X) (b : Bool) → f x ≡ b → (Has z ks → Has z xs × (f z ≡ true)) → Has z (cond b (x ∷ ks) ks) → Has z (x ∷ xs) × (f z ≡ true)
unfolding Has
kept_step f z x xs ks true is g (inl e) = (inl e, ap f e ∙ is)
kept_step f z x xs ks true is g (inr h) = let u = g h in (inr u.0, u.1)
kept_step f z x xs ks false is g h = let u = g h in (inr u.0, u.1)

pub kept_only : {X : Type 0} (f : X → Bool) (z : X) (xs : List X) → Has z (filter f xs) → Has z xs × (f z ≡ true)
unfolding Has
kept_only f z [] h = absurd h
kept_only f z (x ∷ xs) h = kept_step f z x xs (filter f xs) (f x) refl (kept_only f z xs) h

kept_first : {X : Type 0} (z x : X) (ks : List X) (b : Bool) → b ≡ true → z ≡ x → Has z (cond b (x ∷ ks) ks)
unfolding Has
kept_first z x ks true e i = inl i
kept_first z x ks false e i = absurd cc

kept_rest : {X : Type 0} (z x : X) (ks : List X) (b : Bool) → Has z ks → Has z (cond b (x ∷ ks) ks)
unfolding Has
kept_rest z x ks true h = inr h
kept_rest z x ks false h = h

pub kept_has : {X : Type 0} (f : X → Bool) (z : X) (xs : List X) → Has z xs → f z ≡ true → Has z (filter f xs)
unfolding Has
kept_has f z [] h e = absurd h
kept_has f z (x ∷ xs) (inl i) e = kept_first z x (filter f xs) (f x) (sym (ap f i) ∙ e) i
kept_has f z (x ∷ xs) (inr h) e = kept_rest z x (filter f xs) (f x) (kept_has f z xs h e)

-- ---- each reached name with its aspect

record Source (g : QName → Pair) (qs : List QName) (z : Pair) : Type 0 where
  q : QName
  there : Has q qs
  is : z ≡ g q

each_only : (g : QName → Pair) (z : Pair) (qs : List QName) → Has z (mapped g qs) → Source g qs z
unfolding Has
each_only g z [] h = absurd h
each_only g z (x ∷ qs) (inl e) = record { q = x; there = inl refl; is = e }
each_only g z (x ∷ qs) (inr h) = let s = each_only g z qs h in record { q = s.q; there = inr s.there; is = s.is }

each_has : (g : QName → Pair) (q : QName) (qs : List QName) → Has q qs → Has (g q) (mapped g qs)
unfolding Has
each_has g q [] h = absurd h
each_has g q (x ∷ qs) (inl e) = inl (ap g e)
each_has g q (x ∷ qs) (inr h) = inr (each_has g q qs h)

name_of_pair : (a : Aspect) (p : Pair) → p.aspect ≡ a → p ≡ paired a p.object
name_of_pair a p e = ap (λ (b : Aspect). record p { aspect = b }) e

module _ (leads : QName → List QName) (starts names : List QName) (enough : AreEnough leads starts names) (a : Aspect) (f : QName → Bool) (ps : List Pair) (r : AreReached leads starts a ps) where
  -- what a search finds, and the definition has
  abbrev wanted : List Pair
  wanted = mapped (paired a) (filter f (reached_from leads (length names) starts))

  abbrev found : List Pair
  found = filter (λ p. f p.object) ps

  pub to_wanted : (z : Pair) → Has z (filter (λ p. f p.object) ps) → Has z (mapped (paired a) (filter f (reached_from leads (length names) starts)))
  to_wanted z h =
      let k = kept_only (λ (p : Pair). f p.object) z ps h in
      let u = r.right z (pair_of_has ps z k.0) in
      let q : Has z.object (reached_from leads (length names) starts) = has_of_among (reached_from leads (length names) starts) z.object ((exact_here leads starts names enough z.object).1 u.1) in
      subst (λ (p : Pair). Has p (mapped (paired a) (filter f (reached_from leads (length names) starts)))) (sym (name_of_pair a z u.0))
      (each_has (paired a) z.object (filter f (reached_from leads (length names) starts)) (kept_has f z.object (reached_from leads (length names) starts) q k.1))

  pub from_wanted : (z : Pair) → Has z (mapped (paired a) (filter f (reached_from leads (length names) starts))) → Has z (filter (λ p. f p.object) ps)
  from_wanted z h =
      let s = each_only (paired a) z (filter f (reached_from leads (length names) starts)) h in
      let k = kept_only f s.q (reached_from leads (length names) starts) s.there in
      let w : has_pair ps (paired a s.q) ≡ true = r.whole s.q ((exact_here leads starts names enough s.q).0 (among_of_has (reached_from leads (length names) starts) s.q k.0)) in
      subst (λ (p : Pair). Has p (filter (λ p. f p.object) ps)) (sym s.is) (kept_has (λ (p : Pair). f p.object) (paired a s.q) ps (has_of_pair ps (paired a s.q) w) k.1)

pub all_enough : (w : Way) (map : QName → Option Desc) (m : List ℕ) (starts names : List QName) → AreAllNames map names → AreEnough (leads_by w map m) starts names
all_enough w map m starts names all = λ q r. elim (all q) as (λ _. (leads_by w map m q ≡ []) ⊎ (is_among names q ≡ true)) [
  | inl none ↦ inl (ap (of_found (desc_leads w m q)) none)
  | inr there ↦ inr there
]

-- the names that a finite map lists are all that it holds
pub finite_names : (map : QName → Option Desc) (f : IsFinite map) → AreAllNames map f.0
finite_names map f = λ q. elim (f.1 q) as (λ _. (map q ≡ None) ⊎ (is_among f.0 q ≡ true)) [
  | inl none ↦ inl none
  | inr there ↦ inr (among_of_has f.0 q (has f.0 q there))
]

pub pairs_are : (map : QName → Option Desc) (m : Module) (names : List QName) → AreAllNames map names → (shapes layouts : List QName) (ps qs : List Pair)
    → shapes ≡ names_of (shape_starts (counts_of_module map m)) → layouts ≡ names_of (layout_starts (counts_of_module map m))
    → AreReached (leads_by way.Near map m.name) shapes Shape ps → AreReached (leads_by way.Flat map m.name) layouts Layout qs
    → in_order by_pair (filter (λ p. is_imported m p.object) ps ++ filter (λ p. is_imported m p.object && is_described is_record (map p.object)) qs) ≡ pairs_of map (length names) m
pairs_are map m names all shapes layouts ps qs s l r t =
    let cs : List Count = counts_of_module map m in
    let f : QName → Bool = is_imported m in
    let g : QName → Bool = λ q. is_imported m q && is_described is_record (map q) in
    let near : QName → List QName = leads_by way.Near map m.name in
    let flat : QName → List QName = leads_by way.Flat map m.name in
    let ss : List QName = names_of (shape_starts cs) in
    let ls : List QName = names_of (layout_starts cs) in
    let r' : AreReached near ss Shape ps = subst (λ (x : List QName). AreReached near x Shape ps) s r in
    let t' : AreReached flat ls Layout qs = subst (λ (x : List QName). AreReached flat x Layout qs) l t in
    let e = all_enough way.Near map m.name ss names all in
    let d = all_enough way.Flat map m.name ls names all in
    let xs : List Pair = filter (λ p. f p.object) ps in
    let ys : List Pair = filter (λ p. g p.object) qs in
    let us : List Pair = mapped (paired Shape) (filter f (reached_from near (length names) ss)) in
    let vs : List Pair = mapped (paired Layout) (filter g (reached_from flat (length names) ls)) in
    same_order pairs_total pair_same (xs ++ ys) (us ++ vs)
    (λ z h. elim (join_has z xs ys h) as (λ _. Has z (us ++ vs)) [
      | inl a ↦ has_left z us vs (to_wanted near ss names e Shape f ps r' z a)
      | inr b ↦ has_right z us vs (to_wanted flat ls names d Layout g qs t' z b)
    ])
    (λ z h. elim (join_has z us vs h) as (λ _. Has z (xs ++ ys)) [
      | inl a ↦ has_left z xs ys (from_wanted near ss names e Shape f ps r' z a)
      | inr b ↦ has_right z xs ys (from_wanted flat ls names d Layout g qs t' z b)
    ])
