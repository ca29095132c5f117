-- Interfaces that have the texts of a module's uses agree on what it uses.
use Rattle.std.proofs.Common.{◌≡◌, ℕ, ◌+◌, List, [], ◌∷◌, ◌++◌, Bool, true, false, cond, not, ◌&&◌, length, Option, Some, None, map as each, refl, sym, ap, ◌∙◌, subst, ⊎_elim, inl, inr}
use Rattle.std.specs.Prelude.{bytes_eq, IsSome, codes}
use Rattle.std.specs.Option.{option_map}
use Rattle.std.specs.List.{filter}
use Rattle.std.specs.Cmp.Lexicographic.{bytes_decides}
use Rattle.std.specs.declared.cmp.Ordering.{Ordering}
use Rattle.std.specs.declared.cmp.Ordering.TheVariants.{Less, Equal, Greater}
use Rattle.ob_format.specs.Format.{◌>>=◌}
use Rattle.ob_tree.specs.declared.names.QName.{QName}
use Rattle.ob_types.specs.declared.desc.Desc.{Desc}
use Rattle.ob_types.specs.declared.desc.Desc.TheVariants as desc
use Rattle.ob_types.specs.declared.face.Aspect.{Aspect}
use Rattle.ob_types.specs.declared.face.Aspect.TheVariants.{Shape, Layout}
use Rattle.ob_types.specs.Relations.{is_record}
use Rattle.ob_types.specs.AssigningTests.{described as is_described}
use Rattle.ob_types.specs.TypedSyntax.{Module}
use Rattle.ob_desc.specs.Grammar.{shape_text, layout_text, text_of, seen}
use Rattle.ob_layout.specs.Lists.{put_before, put_in, in_order}
use Rattle.ob_layout.specs.LaidOut.{type_named, is_own, viewed}
use Rattle.ob_uses_roots.specs.Counts.{counts_of_module}
use Rattle.ob_uses_roots.specs.Noted.{names_of, shape_starts, layout_starts}
use Rattle.ob_env.specs.Faces.{Face, object_named, face_named, described, text_in, printed}
use Rattle.ob_env.specs.Fit.{count_of}
use Rattle.ob_uses.specs.declared.pair.Pair.{Pair}
use Rattle.ob_uses.specs.declared.way.Way.TheVariants as way
use Rattle.ob_uses.specs.Held.{held_names}
use Rattle.ob_uses.specs.Order.{by_pair}
use Rattle.ob_uses.specs.Uses.{is_imported, pairs_of, uses_of}
use Rattle.ob_uses.specs.Ways.{leads_by, paired, AreAllNames}
use Rattle.ob_uses.specs.Closed.{is_among, reached_from}
use Rattle.ob_uses.proofs.SamePairs.{pair_same}
use Rattle.ob_uses.proofs.Sorting.{Has, contains}
use Rattle.ob_uses.proofs.Searching.{exact_here}
use Rattle.ob_uses.proofs.Pairing.{has_of_among, has_left, has_right, kept_has, all_enough}
use Rattle.ob_uses.proofs.Holding.{view_held}
use Rattle.law_local_files.specs.Agreeing.{Map, IsNear, IsFlat, as_shape}
use Rattle.law_local_files.specs.Laws.{Text, AreSpelled, HaveNoOut, AreMet}
use Rattle.law_local_files.proofs.Reached.{wanted_in}
use Rattle.law_local_files.proofs.Texts.{shape_tells, both_tell, plain_tells, described_spelled}

-- ---- an item of a list stands in its order too

put_itself : (x : Pair) (ys : List Pair) → Has x (put_in by_pair x ys)
unfolding Has
put_itself x [] = inl refl
put_itself x (y ∷ ys) = go (by_pair x y) refl (put_itself x ys)
  where
    go : (o : Ordering) → by_pair x y ≡ o → Has x (put_in by_pair x ys) → Has x (put_before o x y ys (put_in by_pair x ys))
    go Less e h = inl refl
    go Equal e h = inl (pair_same x y e)
    go Greater e h = inr h

put_keeps : (x z : Pair) (ys : List Pair) → Has z ys → Has z (put_in by_pair x ys)
unfolding Has
put_keeps x z [] h = absurd h
put_keeps x z (y ∷ ys) h = go (by_pair x y) (λ i. put_keeps x z ys i) h
  where
    go : (o : Ordering) → (Has z ys → Has z (put_in by_pair x ys)) → Has z (y ∷ ys) → Has z (put_before o x y ys (put_in by_pair x ys))
    go Less more h = inr h
    go Equal more h = h
    go Greater more (inl e) = inl e
    go Greater more (inr i) = inr (more i)

order_keeps : (z : Pair) (xs : List Pair) → Has z xs → Has z (in_order by_pair xs)
unfolding Has
order_keeps z [] h = absurd h
order_keeps z (x ∷ xs) (inl e) = subst (λ (w : Pair). Has w (put_in by_pair x (in_order by_pair xs))) (sym e) (put_itself x (in_order by_pair xs))
order_keeps z (x ∷ xs) (inr h) = put_keeps x z (in_order by_pair xs) (order_keeps z xs h)

each_has : (a : Aspect) (q : QName) (qs : List QName) → Has q qs → Has (paired a q) (each (paired a) qs)
unfolding Has
each_has a q [] h = absurd h
each_has a q (x ∷ qs) (inl e) = inl (ap (paired a) e)
each_has a q (x ∷ qs) (inr h) = inr (each_has a q qs h)

-- ---- the names that a view holds

described_printed : (fs : List (Face Text)) (q : QName) → described (each printed fs) q ≡ described fs q
described_printed [] q = refl
described_printed (f ∷ fs) q = go (bytes_eq q.«module» f.«module») (described_printed fs q)
  where
    go : (b : Bool) → described (each printed fs) q ≡ described fs q → (cond b (Some (printed f)) (face_named (each printed fs) q.«module») >>= λ g. object_named g.objects q.object) ≡ (cond b (Some f) (face_named fs q.«module») >>= λ g. object_named g.objects q.object)
    go true e = refl
    go false e = e

count_printed : (fs : List (Face Text)) → count_of (each printed fs) ≡ count_of fs
count_printed [] = refl
count_printed (f ∷ fs) = ap (λ k. length f.objects + k) (count_printed fs)

abbrev pub names_held : List (Face Text) → Module → List QName
names_held fs m = held_names (each printed fs) m

pub all_held : (fs : List (Face Text)) (m : Module) → AreAllNames (viewed (described fs) m) (names_held fs m)
all_held fs m q = ⊎_elim
    (λ (e : viewed (described (each printed fs)) m q ≡ None). inl (ap (λ d. cond (is_own m q) (type_named m.types q.object) d) (sym (described_printed fs q)) ∙ e))
    (λ (h : is_among (names_held fs m) q ≡ true). inr h)
    ((view_held (each printed fs) m).0 q)

pub count_held : (fs : List (Face Text)) (m : Module) → length (names_held fs m) ≡ length m.types + count_of fs
count_held fs m = (view_held (each printed fs) m).1 ∙ ap (λ k. length m.types + k) (count_printed fs)

-- ---- a module that none of them is

pub named_none : (fs : List (Face Text)) (m : List ℕ) → (Has m (each (λ f. f.«module») fs) → ⊥) → face_named fs m ≡ None
unfolding Has
named_none [] m absent = refl
named_none (f ∷ fs) m absent = go (bytes_eq m f.«module») refl (named_none fs m (λ h. absent (inr h)))
  where
    go : (b : Bool) → bytes_eq m f.«module» ≡ b → face_named fs m ≡ None → cond b (Some f) (face_named fs m) ≡ None
    go true e h = absurd (absent (inl ((bytes_decides m f.«module»).0 e)))
    go false e h = h

pub out_none : (fs : List (Face Text)) → HaveNoOut fs → (q : QName) → bytes_eq q.«module» (codes "Out") ≡ true → described fs q ≡ None
out_none fs absent q e =
    let is : q.«module» ≡ codes "Out" = (bytes_decides q.«module» (codes "Out")).0 e in
    let none : face_named fs q.«module» ≡ None = ap (face_named fs) is ∙ named_none fs (codes "Out") (λ h. absent (contains (each (λ f. f.«module») fs) (codes "Out") h)) in
    ap (λ o. o >>= λ (f : Face Text). object_named f.objects q.object) none

-- ---- a text that two have

text_or : Text → Option Text → Text
text_or t None = t
text_or t (Some u) = u

some_text : (t u : Text) → Some t ≡ Some u → t ≡ u
unfolding text_or
some_text t u e = ap (text_or t) e

record Found (o : Option Desc) (q : QName) (a : Aspect) (t : Text) : Type 0 where
  d : Desc
  is : o ≡ Some d
  text : text_of q d a ≡ Some t

found_text : (o : Option Desc) (q : QName) (a : Aspect) (t : Text) → (o >>= λ d. text_of q d a) ≡ Some t → Found o q a t
found_text None q a t e = absurd cc
found_text (Some d) q a t e = record { d = d; is = refl; text = e }

desc_or : Desc → Option Desc → Desc
desc_or d None = d
desc_or d (Some e) = e

some_desc : (d e : Desc) → Some d ≡ Some e → d ≡ e
unfolding desc_or
some_desc d e s = ap (desc_or d) s

pub has_layout : (d : Desc) (q : QName) → is_record d ≡ true → (t : Text) × (layout_text q d ≡ Some t)
has_layout (desc.Record r) q e = (_, refl)
has_layout (desc.Const v) q e = absurd cc
has_layout (desc.Var k t) q e = absurd cc
has_layout (desc.Proc s) q e = absurd cc
has_layout (desc.Alias k t) q e = absurd cc
has_layout (desc.Array k n t) q e = absurd cc
has_layout (desc.OpenArray k t) q e = absurd cc
has_layout (desc.Pointer k t) q e = absurd cc
has_layout (desc.ProcType k s) q e = absurd cc

-- the module is laid out; its uses have their texts in the others
module _ (faces others : List (Face Text)) (m : Module) (spelled : AreSpelled faces) (spelled_too : AreSpelled others) (no_out : HaveNoOut faces) (no_out_too : HaveNoOut others) (met : AreMet others (uses_of (viewed (described faces) m) (length m.types + count_of faces) m (text_in faces))) where
  abbrev types : Map
  types = viewed (described faces) m

  abbrev pairs : List Pair
  pairs = pairs_of types (length m.types + count_of faces) m

  -- what counts stands among the pairs
  shape_pair : (q : QName) → IsNear types m q → is_imported m q ≡ true → Has (paired Shape q) pairs
  shape_pair q near i =
      let names = names_held faces m in
      let starts = names_of (shape_starts (counts_of_module types m)) in
      let leads = leads_by way.Near types m.name in
      let there : Has q (reached_from leads (length names) starts) = has_of_among (reached_from leads (length names) starts) q ((exact_here leads starts names (all_enough way.Near types m.name starts names (all_held faces m)) q).1 near) in
      let us : List Pair = each (paired Shape) (filter (is_imported m) (reached_from leads (length names) starts)) in
      let vs : List Pair = each (paired Layout) (filter (λ p. is_imported m p && is_described is_record (types p)) (reached_from (leads_by way.Flat types m.name) (length names) (names_of (layout_starts (counts_of_module types m))))) in
      let h : Has (paired Shape q) (us ++ vs) = has_left (paired Shape q) us vs (each_has Shape q (filter (is_imported m) (reached_from leads (length names) starts)) (kept_has (is_imported m) q (reached_from leads (length names) starts) there i)) in
      subst (λ n. Has (paired Shape q) (pairs_of types n m)) (count_held faces m) (order_keeps (paired Shape q) (us ++ vs) h)

  layout_pair : (q : QName) → IsFlat types m q → is_imported m q && is_described is_record (types q) ≡ true → Has (paired Layout q) pairs
  layout_pair q flat i =
      let names = names_held faces m in
      let starts = names_of (layout_starts (counts_of_module types m)) in
      let leads = leads_by way.Flat types m.name in
      let f : QName → Bool = λ p. is_imported m p && is_described is_record (types p) in
      let there : Has q (reached_from leads (length names) starts) = has_of_among (reached_from leads (length names) starts) q ((exact_here leads starts names (all_enough way.Flat types m.name starts names (all_held faces m)) q).1 flat) in
      let us : List Pair = each (paired Shape) (filter (is_imported m) (reached_from (leads_by way.Near types m.name) (length names) (names_of (shape_starts (counts_of_module types m))))) in
      let vs : List Pair = each (paired Layout) (filter f (reached_from leads (length names) starts)) in
      let h : Has (paired Layout q) (us ++ vs) = has_right (paired Layout q) us vs (each_has Layout q (filter f (reached_from leads (length names) starts)) (kept_has f q (reached_from leads (length names) starts) there i)) in
      subst (λ n. Has (paired Layout q) (pairs_of types n m)) (count_held faces m) (order_keeps (paired Layout q) (us ++ vs) h)

  met_by : (q : QName) (a : Aspect) (t : Text) → Has (paired a q) pairs → text_in faces q a ≡ Some t → text_in others q a ≡ Some t
  met_by q a t h e = wanted_in (text_in faces) (λ u. text_in others u.object u.aspect ≡ Some u.kept) pairs met (paired a q) h t e

  record Both (q : QName) (d : Desc) : Type 0 where
    e : Desc
    is : described others q ≡ Some e
    shape : shape_text q (seen d) ≡ shape_text q (seen e)

  both_shapes : (q : QName) (d : Desc) → IsNear types m q → is_imported m q ≡ true → described faces q ≡ Some d → Both q d
  both_shapes q d near i e =
      let t = met_by q Shape (shape_text q (seen d)) (shape_pair q near i) (ap (λ o. o >>= λ d. text_of q d Shape) e) in
      let f = found_text (described others q) q Shape (shape_text q (seen d)) t in
      record { e = f.d; is = f.is; shape = sym (some_text (shape_text q (seen f.d)) (shape_text q (seen d)) f.text) }

  both_layouts : (q : QName) (d e : Desc) → IsFlat types m q → is_imported m q ≡ true → described faces q ≡ Some d → types q ≡ Some d → described others q ≡ Some e → is_record d ≡ true → layout_text q d ≡ layout_text q e
  both_layouts q d e flat i is at there r =
      let l = has_layout d q r in
      let yes : is_imported m q && is_described is_record (types q) ≡ true = ap (λ b. b && is_described is_record (types q)) i ∙ ap (is_described is_record) at ∙ r in
      let t = met_by q Layout l.0 (layout_pair q flat yes) (ap (λ o. o >>= λ d. text_of q d Layout) is ∙ l.1) in
      l.1 ∙ sym t ∙ ap (λ o. o >>= λ d. text_of q d Layout) there

  -- SHAPES: of a name of another module that is near
  pub shapes_met : (q : QName) → IsNear types m q → (is_imported m q ≡ true → IsSome (described faces q)) → is_own m q ≡ false → option_map as_shape (described faces q) ≡ option_map as_shape (described others q)
  shapes_met q near held other = go (bytes_eq q.«module» (codes "Out")) refl
    where
      by : (o : Option Desc) → described faces q ≡ o → IsSome o → is_imported m q ≡ true → option_map as_shape (described faces q) ≡ option_map as_shape (described others q)
      by None e some i = let none : false ≡ true = some in absurd cc
      by (Some d) e some i =
          let b = both_shapes q d near i e in
          ap (option_map as_shape) e ∙ ap (λ s. Some s) (shape_tells q d b.e (described_spelled faces spelled q d e) (described_spelled others spelled_too q b.e b.is) b.shape) ∙ sym (ap (option_map as_shape) b.is)

      go : (b : Bool) → bytes_eq q.«module» (codes "Out") ≡ b → option_map as_shape (described faces q) ≡ option_map as_shape (described others q)
      go true e = ap (option_map as_shape) (out_none faces no_out q e ∙ sym (out_none others no_out_too q e))
      go false e = let i : is_imported m q ≡ true = ap (λ b. not b && not (bytes_eq q.«module» (codes "Out"))) other ∙ ap not e in by (described faces q) refl (held i) i

  -- LAYOUTS: of one that is flat
  pub layouts_met : (q : QName) → IsFlat types m q → IsNear types m q → (is_imported m q ≡ true → IsSome (described faces q)) → is_own m q ≡ false → described faces q ≡ described others q
  layouts_met q flat near held other = go (bytes_eq q.«module» (codes "Out")) refl
    where
      at : (d : Desc) → described faces q ≡ Some d → types q ≡ Some d
      at d e = ap (λ b. cond b (type_named m.types q.object) (described faces q)) other ∙ e

      kind : (b : Bool) (d : Desc) → is_record d ≡ b → described faces q ≡ Some d → is_imported m q ≡ true → described faces q ≡ described others q
      kind true d r e i =
          let b = both_shapes q d near i e in
          e ∙ ap (λ s. Some s) (both_tell q d b.e (described_spelled faces spelled q d e) (described_spelled others spelled_too q b.e b.is) b.shape (both_layouts q d b.e flat i e (at d e) b.is r)) ∙ sym b.is
      kind false d r e i =
          let b = both_shapes q d near i e in
          e ∙ ap (λ s. Some s) (plain_tells d b.e r (shape_tells q d b.e (described_spelled faces spelled q d e) (described_spelled others spelled_too q b.e b.is) b.shape)) ∙ sym b.is

      by : (o : Option Desc) → described faces q ≡ o → IsSome o → is_imported m q ≡ true → described faces q ≡ described others q
      by None e some i = let none : false ≡ true = some in absurd cc
      by (Some d) e some i = kind (is_record d) d refl e i

      go : (b : Bool) → bytes_eq q.«module» (codes "Out") ≡ b → described faces q ≡ described others q
      go true e = out_none faces no_out q e ∙ sym (out_none others no_out_too q e)
      go false e = let i : is_imported m q ≡ true = ap (λ b. not b && not (bytes_eq q.«module» (codes "Out"))) other ∙ ap not e in by (described faces q) refl (held i) i

  -- of one that is near, and no record
  pub plain_met : (q : QName) (d : Desc) → IsNear types m q → is_own m q ≡ false → described faces q ≡ Some d → is_record d ≡ false → described faces q ≡ described others q
  plain_met q d near other e r = go (bytes_eq q.«module» (codes "Out")) refl
    where
      go : (b : Bool) → bytes_eq q.«module» (codes "Out") ≡ b → described faces q ≡ described others q
      go true o = out_none faces no_out q o ∙ sym (out_none others no_out_too q o)
      go false o =
          let i : is_imported m q ≡ true = ap (λ b. not b && not (bytes_eq q.«module» (codes "Out"))) other ∙ ap not o in
          let b = both_shapes q d near i e in
          e ∙ ap (λ s. Some s) (plain_tells d b.e r (shape_tells q d b.e (described_spelled faces spelled q d e) (described_spelled others spelled_too q b.e b.is) b.shape)) ∙ sym b.is
