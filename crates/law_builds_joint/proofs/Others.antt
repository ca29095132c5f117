-- A map that has what other interfaces show, which have the texts of a module's uses, is told of by the view of the module.
use Rattle.std.proofs.Common.{◌≡◌, List, Bool, true, false, cond, not, ◌&&◌, Option, Some, None, refl, sym, ap, ◌∙◌, subst}
use Rattle.std.specs.Prelude.{bytes_eq, IsSome, codes}
use Rattle.std.specs.Option.{option_map}
use Rattle.std.specs.List.{AllByRecursion}
use Rattle.ob_tree.specs.declared.names.QName.{QName}
use Rattle.ob_types.specs.declared.desc.Desc.{Desc}
use Rattle.ob_types.specs.declared.desc.Desc.TheVariants as desc
use Rattle.ob_types.specs.Maps.{is_type}
use Rattle.ob_types.specs.Relations.{is_record}
use Rattle.ob_types.specs.TypedSyntax.{Module}
use Rattle.ob_desc.specs.Grammar.{seen}
use Rattle.ob_layout.specs.LaidOut.{type_named, is_own}
use Rattle.ob_uses_roots.specs.Noted.{names_of}
use Rattle.ob_env.specs.Faces.{Face, described, text_in}
use Rattle.ob_uses.specs.declared.way.Way.TheVariants as way
use Rattle.ob_uses.specs.Objects.{in_places}
use Rattle.ob_uses.specs.Uses.{near_types, flat_types, is_imported}
use Rattle.ob_uses.specs.Ways.{desc_leads, is_of}
use Rattle.ob_uses.specs.Closed.{is_among, of_found}
use Rattle.ob_uses.specs.Reaching.{onward}
use Rattle.ob_uses.specs.Made.{face_from}
use Rattle.law_local_files.specs.Agreeing.{Map, On, IsNear, as_shape}
use Rattle.law_local_files.specs.Laws.{Text, AreSpelled, HaveNoOut, AreMet, room, IsLaid, flat, own, told, over, view, IsTied}
use Rattle.law_local_files.proofs.Told.{all_on}
use Rattle.law_local_files.proofs.Whole.{plain_near}
use Rattle.law_local_files.proofs.Agreed.{shapes_met, layouts_met, plain_met}
use Rattle.law_builds_joint.specs.Named.{MethodsDiffer}
use Rattle.law_builds_joint.proofs.Shown.{FieldsDiffer, Told, same, plain, shown, ToldWhole, same_whole, plain_whole, shown_whole}
use Rattle.law_builds_joint.proofs.Alike.{AreTold}
use Rattle.law_lists.proofs.Lists.{clash}

-- what a map has of a name of which this is shown
pub data Declares (x : Desc) (o : Option Desc) : Type 0 where
  no_type : is_type x ≡ false → o ≡ None → Declares x o
  a_type : (y : Desc) → o ≡ Some y → seen (in_places y) ≡ x → FieldsDiffer y → MethodsDiffer y → Declares x o

shape_type : (d : Desc) → is_type (as_shape d) ≡ is_type d
shape_type (desc.Const v) = refl
shape_type (desc.Var m t) = refl
shape_type (desc.Proc s) = refl
shape_type (desc.Alias m t) = refl
shape_type (desc.Array m n t) = refl
shape_type (desc.OpenArray m t) = refl
shape_type (desc.Pointer m t) = refl
shape_type (desc.ProcType m s) = refl
shape_type (desc.Record r) = refl

flat_same : (b : Bool) (d : Desc) → is_record d ≡ false → flat_types b d ≡ flat_types false d
flat_same b (desc.Alias k t) e = refl
flat_same b (desc.Array k n t) e = refl
flat_same b (desc.OpenArray k t) e = refl
flat_same b (desc.Const v) e = refl
flat_same b (desc.Var k t) e = refl
flat_same b (desc.Proc s) e = refl
flat_same b (desc.Pointer k t) e = refl
flat_same b (desc.ProcType k s) e = refl
flat_same b (desc.Record r) e = absurd cc

some_is : (x y : Desc) → Some x ≡ Some y → x ≡ y
some_is x y e = cc

module _ (faces others : List (Face Text)) (m : Module) (spelled : AreSpelled faces) (spelled_too : AreSpelled others) (no_out : HaveNoOut faces) (no_out_too : HaveNoOut others) (tied : IsTied faces m) (met : AreMet others (face_from text_in faces m).uses)
    (b : Map) (own_is : (q : QName) → is_own m q ≡ true → b q ≡ type_named (over faces m).types q.object) (has : (q : QName) (x : Desc) → described others q ≡ Some x → Declares x (b q)) (out : (q : QName) → bytes_eq q.«module» (codes "Out") ≡ true → b q ≡ None) where
  abbrev M : Module
  M = over faces m

  abbrev V : Map
  V = view faces m

  abbrev S : QName → Type 0
  S = IsNear V M

  abbrev L : QName → Type 0
  L = IsLaid V M

  own_view : (q : QName) → is_own m q ≡ true → V q ≡ b q
  own_view q i = ap (λ k. cond k (type_named M.types q.object) (described faces q)) i ∙ sym (own_is q i)

  foreign_view : (q : QName) → is_own m q ≡ false → V q ≡ described faces q
  foreign_view q i = ap (λ k. cond k (type_named M.types q.object) (described faces q)) i

  -- what no interface has is of Out
  none_told : (q : QName) → S q → is_own m q ≡ false → described faces q ≡ None → V q ≡ b q
  none_told q near other e = go (bytes_eq q.«module» (codes "Out")) refl
    where
      go : (k : Bool) → bytes_eq q.«module» (codes "Out") ≡ k → V q ≡ b q
      go true i = foreign_view q other ∙ e ∙ sym (out q i)
      go false i =
          let imported : is_imported M q ≡ true = ap (λ k. not k && not (bytes_eq q.«module» (codes "Out"))) other ∙ ap not i in
          let there : IsSome (described faces q) = tied.held q near imported in
          let none : false ≡ true = subst IsSome e there in
          absurd cc

  -- ---- shapes

  shape_met : (q : QName) → S q → is_own m q ≡ false → option_map as_shape (described faces q) ≡ option_map as_shape (described others q)
  shape_met q near other = shapes_met faces others M spelled spelled_too no_out no_out_too met q near (tied.held q near) other

  shape_of : (q : QName) (d x : Desc) → V q ≡ Some d → as_shape d ≡ as_shape x → Declares x (b q) → Told (V q) (b q)
  shape_of q d x at k (no_type p n) = plain d at (sym (shape_type d) ∙ ap is_type k ∙ shape_type x ∙ p) n
  shape_of q d x at k (a_type y i s f ms) = shown d y at i (k ∙ ap as_shape (sym s)) f ms

  shape_told : (q : QName) → S q → (k : Bool) → is_own m q ≡ k → Told (V q) (b q)
  shape_told q near true i = same (own_view q i)
  shape_told q near false i = by (described faces q) refl (described others q) refl (shape_met q near i)
    where
      by : (o : Option Desc) → described faces q ≡ o → (p : Option Desc) → described others q ≡ p → option_map as_shape (described faces q) ≡ option_map as_shape (described others q) → Told (V q) (b q)
      by None e p f k = same (none_told q near i e)
      by (Some d) e None f k = let bad : Some (as_shape d) ≡ None = sym (ap (option_map as_shape) e) ∙ k ∙ ap (option_map as_shape) f in absurd cc
      by (Some d) e (Some x) f k =
          let is : Some (as_shape d) ≡ Some (as_shape x) = sym (ap (option_map as_shape) e) ∙ k ∙ ap (option_map as_shape) f in
          shape_of q d x (foreign_view q i ∙ e) (some_is (as_shape d) (as_shape x) is) (has q x f)

  -- ---- layouts

  laid_near : (q : QName) → L q → is_own m q ≡ false → S q
  laid_near q (flat f) other = tied.flat q f
  laid_near q (own r i e) other = absurd (clash (is_own m q) i other)
  laid_near q (told n h) other = n

  layout_met : (q : QName) → L q → is_own m q ≡ false → described faces q ≡ described others q
  layout_met q (flat f) other = layouts_met faces others M spelled spelled_too no_out no_out_too met q f (tied.flat q f) (tied.held q (tied.flat q f)) other
  layout_met q (own r i e) other = absurd (clash (is_own m q) i other)
  layout_met q (told n (room d e r next)) other = plain_met faces others M spelled spelled_too no_out no_out_too met q d n other (sym (foreign_view q other) ∙ e) r

  layout_of : (q : QName) (d : Desc) → V q ≡ Some d → Declares d (b q) → ToldWhole (V q) (b q)
  layout_of q d at (no_type p n) = plain_whole d at p n
  layout_of q d at (a_type y i s f ms) = shown_whole y (at ∙ ap (λ z. Some z) (sym s)) i

  layout_told : (q : QName) → L q → (k : Bool) → is_own m q ≡ k → ToldWhole (V q) (b q)
  layout_told q laid true i = same_whole (own_view q i)
  layout_told q laid false i = by (described faces q) refl
    where
      by : (o : Option Desc) → described faces q ≡ o → ToldWhole (V q) (b q)
      by None e = same_whole (none_told q (laid_near q laid i) i e)
      by (Some d) e = layout_of q d (foreign_view q i ∙ e) (has q d (sym (layout_met q laid i) ∙ e))

  -- ---- what they lead to

  near_on : (q : QName) (d : Desc) → S q → V q ≡ Some d → AllByRecursion (On S) (near_types d)
  near_on q d n e = all_on S (near_types d) (λ r i. onward n (ap (λ (o : Option Desc). is_among (of_found (desc_leads way.Near m.name q) o) r) e ∙ i))

  flat_on : (q r : QName) (d : Desc) → L q → V q ≡ Some d → is_record d ≡ false → is_among (names_of (flat_types (is_of m.name q) d)) r ≡ true → L r
  flat_on q r d (flat f) e n i = flat (onward f (ap (λ (o : Option Desc). is_among (of_found (desc_leads way.Flat m.name q) o) r) e ∙ i))
  flat_on q r d (own k o e') e n i = absurd (clash true refl (ap is_record (some_is (desc.Record k) d (sym e' ∙ e)) ∙ n))
  flat_on q r d (told near (room d' e' n' next)) e n i = told
      (onward near (ap (λ (o : Option Desc). is_among (of_found (desc_leads way.Near m.name q) o) r) e ∙ plain_near (is_of m.name q) d n r i))
      (next r (ap (λ (o : Option Desc). is_among (of_found (desc_leads way.Flat m.name q) o) r) e ∙ i))

  pub are_told : AreTold V b S L
  are_told = record {
    shapes = λ q h. shape_told q h (is_own m q) refl;
    near = λ q d h e. near_on q d h e;
    layouts = λ q h. layout_told q h (is_own m q) refl;
    flat = λ q d h e n. all_on L (flat_types false d) (λ r i. flat_on q r d h e n (ap (λ ts. is_among (names_of ts) r) (flat_same (is_of m.name q) d n) ∙ i));
  }
