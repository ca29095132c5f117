-- What counts is closed: what is near a type that counts does, and so does what it stands for.
use Rattle.std.proofs.Common.{◌≡◌, ℕ, zero, suc, ◌+◌, Bool, true, false, cond, List, [], ◌∷◌, length, map, Option, Some, None, refl, sym, ap, subst, ◌∙◌, inl, inr, ⊎_elim}
use Rattle.std.specs.Prelude.{bytes_eq, codes}
use Rattle.std.specs.List.{AllByRecursion}
use Rattle.std.proofs.lemmas.Slice.Eq.{bytes_eq-Decides}
use Rattle.ob_format.specs.Format.{◌>>=◌}
use Rattle.ob_tree.specs.declared.names.QName.{QName}
use Rattle.ob_types.specs.declared.types.TypeRef.{TypeRef}
use Rattle.ob_types.specs.declared.types.TypeRef.TheVariants as ref
use Rattle.ob_types.specs.declared.desc.Desc.{Desc}
use Rattle.ob_types.specs.declared.desc.Desc.TheVariants as desc
use Rattle.ob_types.specs.declared.typed.TypedType.{TypedType}
use Rattle.ob_types.specs.Maps.{listed}
use Rattle.ob_types.specs.Tests.{target, target_of, follow, shape_at, pointer_of}
use Rattle.ob_desc.specs.Grammar.{same_object}
use Rattle.ob_layout.specs.LaidOut.{type_named, is_own, viewed}
use Rattle.ob_env.specs.Faces.{Face, object_named, face_named, described, printed}
use Rattle.ob_env.specs.Fit.{count_of}
use Rattle.ob_uses_roots.specs.Counts.{Count, Shapes, Layouts, own_name, counts_of_module}
use Rattle.ob_uses_roots.specs.Noted.{names_of, shape_starts}
use Rattle.ob_uses.specs.Closed.{is_among, of_found, reached_from}
use Rattle.ob_uses.specs.Uses.{near_types}
use Rattle.ob_uses.specs.Reaching.{Reaches, first, onward, AreEnough}
use Rattle.ob_uses.specs.Held.{held_names}
use Rattle.ob_uses.proofs.Searching.{itself, left_of, right_of, exact_here}
use Rattle.ob_uses.proofs.Holding.{view_held}
use Rattle.ob_compile_model.specs.Compiling.{Compiled}
use Rattle.law_load_plan.specs.Compiled.{Text, is_record}
use Rattle.law_links_types.specs.Trees.{IsRecordType, StandsFor, PointsTo, IsBase}
use Rattle.law_links.specs.Linked.{types_of, names_counted, IsCounted}
use Rattle.law_links.proofs.Mentioned.{both_not}

-- ---- the interfaces with their prints hold the same

same_objects : (fs : List (Face Text)) (m x : List ℕ) → (face_named (map printed fs) m >>= λ f. object_named f.objects x) ≡ (face_named fs m >>= λ f. object_named f.objects x)
same_objects [] m x = refl
same_objects (f ∷ fs) m x = by (bytes_eq m f.«module») (same_objects fs m x)
  where
    by : (b : Bool) → (face_named (map printed fs) m >>= λ f. object_named f.objects x) ≡ (face_named fs m >>= λ f. object_named f.objects x) → (cond b (Some (printed f)) (face_named (map printed fs) m) >>= λ f. object_named f.objects x) ≡ (cond b (Some f) (face_named fs m) >>= λ f. object_named f.objects x)
    by true h = refl
    by false h = h

same_count : (fs : List (Face Text)) → count_of (map printed fs) ≡ count_of fs
same_count [] = refl
same_count (f ∷ fs) = ap (λ n. length f.objects + n) (same_count fs)

module _ (c : Compiled Text) where
  abbrev leads : QName → List QName
  leads q = of_found (λ d. names_of (near_types d)) (types_of c q)

  abbrev starts : List QName
  starts = names_of (shape_starts (counts_of_module (types_of c) c.tree))

  abbrev held : List QName
  held = held_names (map printed c.against) c.tree

  enough : AreEnough leads starts held
  enough q r = ⊎_elim (λ (e : viewed (described (map printed c.against)) c.tree q ≡ None). inl (ap (of_found (λ d. names_of (near_types d))) (sym (ap (λ o. cond (is_own c.tree q) (type_named c.tree.types q.object) o) (same_objects c.against q.«module» q.object)) ∙ e))) (λ (e : is_among held q ≡ true). inr e) ((view_held (map printed c.against) c.tree).0 q)

  as_long : length held ≡ length c.tree.types + count_of c.against
  as_long = (view_held (map printed c.against) c.tree).1 ∙ ap (λ n. length c.tree.types + n) (same_count c.against)

  abbrev pub IsNear : QName → Type 0
  IsNear q = is_among (names_counted c) q ≡ true

  near_reached : (q : QName) → Reaches leads starts q → IsNear q
  near_reached q r = subst (λ n. is_among (reached_from leads n starts) q ≡ true) as_long ((exact_here leads starts held enough q).1 r)

  reached_near : (q : QName) → IsNear q → Reaches leads starts q
  reached_near q h = (exact_here leads starts held enough q).0 (subst (λ n. is_among (reached_from leads n starts) q ≡ true) (sym as_long) h)

  near_on : (p q : QName) → IsNear p → is_among (leads p) q ≡ true → IsNear q
  near_on p q h l = near_reached q (onward (reached_near p h) l)

  -- ---- types

  -- its name counts, if it has one
  abbrev pub On : TypeRef → Type 0
  On (ref.Basic b) = Unit {0}
  On (ref.Named q) = IsNear q

  near_one : (q : QName) (d : Desc) (t : TypeRef) → IsNear q → types_of c q ≡ Some d → near_types d ≡ t ∷ [] → On t
  near_one q d (ref.Basic b) h e n = tt
  near_one q d (ref.Named p) h e n =
      let there : leads q ≡ p ∷ [] = ap (of_found (λ d. names_of (near_types d))) e ∙ ap names_of n in
      near_on q p h (subst (λ qs. is_among qs p ≡ true) (sym there) (left_of (same_object p p) false (itself p)))

  follow_on : (n : ℕ) → ((t : TypeRef) → On t → On (target (types_of c) n t)) → (q : QName) → IsNear q → (o : Option Desc) → types_of c q ≡ o → On (follow (target_of o) (ref.Named q) (λ u. target (types_of c) n u))
  follow_on n more q h (Some (desc.Alias m u)) e = more u (near_one q (desc.Alias m u) u h e refl)
  follow_on n more q h None e = h
  follow_on n more q h (Some (desc.Const v)) e = h
  follow_on n more q h (Some (desc.Var m t)) e = h
  follow_on n more q h (Some (desc.Proc s)) e = h
  follow_on n more q h (Some (desc.Array m k t)) e = h
  follow_on n more q h (Some (desc.OpenArray m t)) e = h
  follow_on n more q h (Some (desc.Pointer m t)) e = h
  follow_on n more q h (Some (desc.ProcType m s)) e = h
  follow_on n more q h (Some (desc.Record r)) e = h

  target_on : (n : ℕ) (t : TypeRef) → On t → On (target (types_of c) n t)
  unfolding target
  target_on zero t h = h
  target_on (suc n) (ref.Basic b) h = tt
  target_on (suc n) (ref.Named q) h = follow_on n (λ t i. target_on n t i) q h (types_of c q) refl

  pub stands_near : (t : TypeRef) (q : QName) → On t → StandsFor (types_of c) c.tree.name t q → IsNear q
  stands_near t q h s = subst On s.same (target_on 201 t h)

  pub points_near : (t : TypeRef) (q : QName) → On t → PointsTo (types_of c) c.tree.name t q → IsNear q
  points_near t q h s = stands_near s.base q (at (target (types_of c) 201 t) (target_on 201 t h) s.pointed) s.stands
    where
      of : (p : QName) → IsNear p → (o : Option Desc) → types_of c p ≡ o → pointer_of o ≡ Some s.base → On s.base
      of p k (Some (desc.Pointer m u)) e i = near_one p (desc.Pointer m u) s.base k e (let j : u ≡ s.base = cc in ap (λ x. x ∷ []) j)
      of p k None e i = absurd cc
      of p k (Some (desc.Alias m u)) e i = absurd cc
      of p k (Some (desc.Const v)) e i = absurd cc
      of p k (Some (desc.Var m u)) e i = absurd cc
      of p k (Some (desc.Proc x)) e i = absurd cc
      of p k (Some (desc.Array m n u)) e i = absurd cc
      of p k (Some (desc.OpenArray m u)) e i = absurd cc
      of p k (Some (desc.ProcType m x)) e i = absurd cc
      of p k (Some (desc.Record r)) e i = absurd cc

      at : (w : TypeRef) → On w → pointer_of (shape_at (types_of c) w) ≡ Some s.base → On s.base
      at (ref.Basic b) k i = absurd cc
      at (ref.Named p) k i = of p k (types_of c p) refl i

  -- ---- counts

  abbrev pub CountIn : Count → Type 0
  CountIn (Shapes t) = On t
  CountIn (Layouts t) = Unit {0}

  abbrev pub AreIn : List Count → Type 0
  AreIn cs = AllByRecursion CountIn cs

  in_counts : (cs : List Count) → ((q : QName) → is_among (names_of (shape_starts cs)) q ≡ true → IsNear q) → AreIn cs
  in_counts [] h = tt
  in_counts (Layouts t ∷ cs) h = (tt, in_counts cs h)
  in_counts (Shapes (ref.Basic b) ∷ cs) h = (tt, in_counts cs h)
  in_counts (Shapes (ref.Named p) ∷ cs) h =
      let qs = names_of (shape_starts cs) in
      (h p (left_of (same_object p p) (is_among qs p) (itself p)), in_counts cs (λ q e. h q (right_of (same_object q p) (is_among qs q) e)))

  pub all_in : AreIn (counts_of_module (types_of c) c.tree)
  all_in = in_counts (counts_of_module (types_of c) c.tree) (λ q e. near_reached q (first e))

  -- ---- record types

  -- the module's own types count
  module _ (own : AllByRecursion (λ (t : TypedType). IsNear (own_name c.tree t)) c.tree.types) where
    named_near : (ts : List TypedType) → AllByRecursion (λ (t : TypedType). IsNear (own_name c.tree t)) ts → (x : List ℕ) (d : Desc) → type_named ts x ≡ Some d → IsNear (record { «module» = c.tree.name; object = x })
    named_near [] h x d e = absurd cc
    named_near (t ∷ ts) h x d e = by (bytes_eq x t.name) refl (λ i. named_near ts h.1 x d i) e
      where
        by : (b : Bool) → bytes_eq x t.name ≡ b → (type_named ts x ≡ Some d → IsNear (record { «module» = c.tree.name; object = x })) → cond b (Some t.desc) (type_named ts x) ≡ Some d → IsNear (record { «module» = c.tree.name; object = x })
        by true i more e = subst (λ y. IsNear (record { «module» = c.tree.name; object = y })) (sym ((bytes_eq-Decides x t.name).0 i)) h.0
        by false i more e = more e

    pub base_near : (q : QName) → IsBase (types_of c) c.tree.name q → IsNear q
    base_near q b =
        let p = b.extension in
        let there : type_named c.tree.types p.object ≡ Some (desc.Record b.of) = sym (ap (λ o. cond o (type_named c.tree.types p.object) (described c.against p)) b.own) ∙ b.is in
        let near : IsNear p = subst (λ m. IsNear (record { «module» = m; object = p.object })) (sym ((bytes_eq-Decides p.«module» c.tree.name).0 b.own)) (named_near c.tree.types own p.object (desc.Record b.of) there) in
        stands_near b.base q (near_one p (desc.Record b.of) b.base near b.is (ap (λ o. listed o) b.has)) b.stands

  -- none is of Out
  module _ (out : (q : QName) (d : Desc) → described c.against q ≡ Some d → bytes_eq q.«module» (codes "Out") ≡ false) where
    pub counted : (q : QName) → IsRecordType (types_of c) c.tree.name q → bytes_eq q.«module» c.tree.name ≡ false → IsNear q → IsCounted is_record c q
    counted q r e h =
        let shown : described c.against q ≡ Some (desc.Record r.of) = sym (ap (λ o. cond o (type_named c.tree.types q.object) (described c.against q)) e) ∙ r.is in
        record { desc = desc.Record r.of; kind_is = refl; shown = shown; imported = both_not (bytes_eq q.«module» c.tree.name) (bytes_eq q.«module» (codes "Out")) e (out q (desc.Record r.of) shown); counted = h }
