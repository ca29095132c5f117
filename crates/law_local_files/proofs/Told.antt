-- What maps that agree tell alike of a type: its words, what it stands for, its members.
use Rattle.std.proofs.Common.{◌≡◌, ℕ, zero, suc, ◌*◌, List, [], ◌∷◌, true, Option, Some, None, refl, sym, ap, ◌∙◌, subst, ⊎_elim}
use Rattle.std.specs.Prelude.{unwrap_or}
use Rattle.std.specs.Option.{option_map}
use Rattle.std.specs.List.{AllByRecursion}
use Rattle.ob_tree.specs.declared.names.QName.{QName}
use Rattle.ob_types.specs.declared.types.TypeRef.{TypeRef}
use Rattle.ob_types.specs.declared.types.TypeRef.TheVariants as ref
use Rattle.ob_types.specs.declared.desc.Desc.{Desc}
use Rattle.ob_types.specs.declared.desc.Desc.TheVariants as desc
use Rattle.ob_types.specs.declared.desc.RecordDesc.{RecordDesc}
use Rattle.ob_types.specs.declared.desc.Field.{Field}
use Rattle.ob_types.specs.declared.desc.Method.{Method}
use Rattle.ob_types.specs.Maps.{listed}
use Rattle.ob_types.specs.Tests.{target, target_of, follow, shape_at}
use Rattle.ob_desc.specs.Grammar.{same_object}
use Rattle.ob_desc.specs.Laws.{object_decides}
use Rattle.ob_layout.specs.Lists.{or_else}
use Rattle.ob_layout.specs.Words.{words_within, words_of, described_words}
use Rattle.ob_layout.specs.Members.{nearest, nearest_in, from_base, field_in_record, method_in_record, method_in}
use Rattle.ob_scheme.specs.Descriptions.{own_name, name_in, elements_of, elements_in, open_words, open_words_in, field_place, method_number}
use Rattle.ob_uses_roots.specs.Noted.{names_of}
use Rattle.ob_uses.specs.declared.way.Way.TheVariants as way
use Rattle.ob_uses.specs.Uses.{near_types, flat_types}
use Rattle.ob_uses.specs.Ways.{desc_leads, is_of}
use Rattle.ob_uses.specs.Closed.{is_among, of_found}
use Rattle.ob_uses.proofs.Searching.{itself, left_of, in_back, either}
use Rattle.law_local_files.specs.Agreeing.{Map, On, Agree, as_shape}

-- what holds of all names among types holds of the types
pub all_on : (P : QName → Type 0) (ts : List TypeRef) → ((q : QName) → is_among (names_of ts) q ≡ true → P q) → AllByRecursion (On P) ts
all_on P [] f = tt
all_on P (ref.Basic b ∷ ts) f = (tt, all_on P ts f)
all_on P (ref.Named q ∷ ts) f = (f q (left_of _ _ (itself q)), all_on P ts (λ r i. f r (in_back (q ∷ []) (names_of ts) r i)))

-- and the other way
pub among_on : (P : QName → Type 0) (ts : List TypeRef) → AllByRecursion (On P) ts → (q : QName) → is_among (names_of ts) q ≡ true → P q
among_on P [] all q i = absurd cc
among_on P (ref.Basic b ∷ ts) all q i = among_on P ts all.1 q i
among_on P (ref.Named r ∷ ts) all q i = ⊎_elim (λ (e : same_object q r ≡ true). subst P (sym ((object_decides q r).0 e)) all.0) (λ (h : is_among (names_of ts) q ≡ true). among_on P ts all.1 q h) (either (same_object q r) (is_among (names_of ts) q) i)

-- a description and its shape tell these alike
target_shape : (o : Option Desc) → target_of o ≡ target_of (option_map as_shape o)
target_shape None = refl
target_shape (Some (desc.Const v)) = refl
target_shape (Some (desc.Var m t)) = refl
target_shape (Some (desc.Proc s)) = refl
target_shape (Some (desc.Alias m t)) = refl
target_shape (Some (desc.Array m n t)) = refl
target_shape (Some (desc.OpenArray m t)) = refl
target_shape (Some (desc.Pointer m t)) = refl
target_shape (Some (desc.ProcType m s)) = refl
target_shape (Some (desc.Record r)) = refl

elements_shape : (o : Option Desc) → elements_in o ≡ elements_in (option_map as_shape o)
elements_shape None = refl
elements_shape (Some (desc.Const v)) = refl
elements_shape (Some (desc.Var m t)) = refl
elements_shape (Some (desc.Proc s)) = refl
elements_shape (Some (desc.Alias m t)) = refl
elements_shape (Some (desc.Array m n t)) = refl
elements_shape (Some (desc.OpenArray m t)) = refl
elements_shape (Some (desc.Pointer m t)) = refl
elements_shape (Some (desc.ProcType m s)) = refl
elements_shape (Some (desc.Record r)) = refl

nearest_shape : {A : Type 0} (pick : RecordDesc → Option A) → ((r : RecordDesc) → pick r ≡ pick (record r { words = 0; procedures = 0 })) → (up : TypeRef → Option A) (o : Option Desc) → nearest_in pick up o ≡ nearest_in pick up (option_map as_shape o)
nearest_shape pick same up None = refl
nearest_shape pick same up (Some (desc.Const v)) = refl
nearest_shape pick same up (Some (desc.Var m t)) = refl
nearest_shape pick same up (Some (desc.Proc s)) = refl
nearest_shape pick same up (Some (desc.Alias m t)) = refl
nearest_shape pick same up (Some (desc.Array m n t)) = refl
nearest_shape pick same up (Some (desc.OpenArray m t)) = refl
nearest_shape pick same up (Some (desc.Pointer m t)) = refl
nearest_shape pick same up (Some (desc.ProcType m s)) = refl
nearest_shape pick same up (Some (desc.Record r)) = ap (λ o. or_else o (from_base up r.base)) (same r)

from_base_same : {A : Type 0} (P : QName → Type 0) (f g : TypeRef → Option A) → ((t : TypeRef) → On P t → f t ≡ g t) → (b : Option TypeRef) → ((t : TypeRef) → b ≡ Some t → On P t) → from_base f b ≡ from_base g b
from_base_same P f g same None on = refl
from_base_same P f g same (Some t) on = same t (on t refl)

module _ (map other : Map) (m : List ℕ) (Shapes Layouts : QName → Type 0) (agree : Agree map other m Shapes Layouts) where
  -- ---- what a name leads to

  pub near_on : (q : QName) (d : Desc) → Shapes q → map q ≡ Some d → AllByRecursion (On Shapes) (near_types d)
  near_on q d on e = all_on Shapes (near_types d) (λ r i. agree.near q r on (ap (λ o. is_among (of_found (desc_leads way.Near m q) o) r) e ∙ i))

  pub flat_on : (q : QName) (d : Desc) → Layouts q → map q ≡ Some d → AllByRecursion (On Layouts) (flat_types (is_of m q) d)
  flat_on q d on e = all_on Layouts (flat_types (is_of m q) d) (λ r i. agree.flat q r on (ap (λ o. is_among (of_found (desc_leads way.Flat m q) o) r) e ∙ i))

  -- ---- words

  words_named : (q : QName) (f g : TypeRef → ℕ) → ((t : TypeRef) → On Layouts t → f t ≡ g t) → Layouts q → (d : Option Desc) → map q ≡ d → described_words f d ≡ described_words g d
  words_named q f g same on None e = refl
  words_named q f g same on (Some (desc.Alias k t)) e = same t (flat_on q (desc.Alias k t) on e).0
  words_named q f g same on (Some (desc.Array k n t)) e = ap (λ w. n * w) (same t (flat_on q (desc.Array k n t) on e).0)
  words_named q f g same on (Some (desc.OpenArray k t)) e = refl
  words_named q f g same on (Some (desc.Record r)) e = refl
  words_named q f g same on (Some (desc.Const v)) e = refl
  words_named q f g same on (Some (desc.Var k t)) e = refl
  words_named q f g same on (Some (desc.Proc s)) e = refl
  words_named q f g same on (Some (desc.Pointer k t)) e = refl
  words_named q f g same on (Some (desc.ProcType k s)) e = refl

  words_within_told : (n : ℕ) (t : TypeRef) → On Layouts t → words_within map n t ≡ words_within other n t
  words_within_told zero t on = refl
  words_within_told (suc n) (ref.Basic b) on = refl
  words_within_told (suc n) (ref.Named q) on =
      words_named q (words_within map n) (words_within other n) (λ t i. words_within_told n t i) on (map q) refl
      ∙ ap (described_words (words_within other n)) (agree.layouts q on)

  -- THE WORDS of a type whose layout is agreed on
  pub words_told : (t : TypeRef) → On Layouts t → words_of map t ≡ words_of other t
  words_told t on = words_within_told 201 t on

  -- ---- what a type stands for

  record Stands (n : ℕ) (t : TypeRef) : Type 0 where
    on : On Shapes (target map n t)
    same : target map n t ≡ target other n t

  alias_told : (q : QName) → Shapes q → target_of (map q) ≡ target_of (other q)
  alias_told q on = target_shape (map q) ∙ ap target_of (agree.shapes q on) ∙ sym (target_shape (other q))

  alias_on : (q : QName) (d : Option Desc) (u : TypeRef) → Shapes q → map q ≡ d → target_of d ≡ Some u → On Shapes u
  alias_on q None u on e f = absurd cc
  alias_on q (Some (desc.Alias k t)) u on e f = let is : t ≡ u = cc in subst (On Shapes) is (near_on q (desc.Alias k t) on e).0
  alias_on q (Some (desc.Array k n t)) u on e f = absurd cc
  alias_on q (Some (desc.OpenArray k t)) u on e f = absurd cc
  alias_on q (Some (desc.Record r)) u on e f = absurd cc
  alias_on q (Some (desc.Const v)) u on e f = absurd cc
  alias_on q (Some (desc.Var k t)) u on e f = absurd cc
  alias_on q (Some (desc.Proc s)) u on e f = absurd cc
  alias_on q (Some (desc.Pointer k t)) u on e f = absurd cc
  alias_on q (Some (desc.ProcType k s)) u on e f = absurd cc

  stands_told : (n : ℕ) (t : TypeRef) → On Shapes t → Stands n t
  unfolding target
  stands_told zero t on = record { on = on; same = refl }
  stands_told (suc n) (ref.Basic b) on = record { on = tt; same = refl }
  stands_told (suc n) (ref.Named q) on = go (target_of (map q)) refl (λ u i. stands_told n u i)
    where
      go : (o : Option TypeRef) → target_of (map q) ≡ o → ((u : TypeRef) → On Shapes u → Stands n u) → Stands (suc n) (ref.Named q)
      go None e more = record {
        on = subst (λ o. On Shapes (follow o (ref.Named q) (λ u. target map n u))) (sym e) on;
        same = ap (λ o. follow o (ref.Named q) (λ u. target map n u)) e ∙ sym (ap (λ o. follow o (ref.Named q) (λ u. target other n u)) (sym (alias_told q on) ∙ e));
      }
      go (Some u) e more =
          let s = more u (alias_on q (map q) u on refl e) in
          record {
            on = subst (λ o. On Shapes (follow o (ref.Named q) (λ u. target map n u))) (sym e) s.on;
            same = ap (λ o. follow o (ref.Named q) (λ u. target map n u)) e ∙ s.same ∙ sym (ap (λ o. follow o (ref.Named q) (λ u. target other n u)) (sym (alias_told q on) ∙ e));
          }

  pub own_name_told : (t : TypeRef) → On Shapes t → own_name map t ≡ own_name other t
  own_name_told t on = ap name_in (stands_told 201 t on).same

  shape_told : (t : TypeRef) → On Shapes t → option_map as_shape (shape_at map t) ≡ option_map as_shape (shape_at other t)
  shape_told (ref.Basic b) on = refl
  shape_told (ref.Named q) on = agree.shapes q on

  pub elements_told : (t : TypeRef) → On Shapes t → elements_of map t ≡ elements_of other t
  elements_told t on =
      let s = stands_told 201 t on in
      elements_shape (shape_at map (target map 201 t)) ∙ ap elements_in (shape_told (target map 201 t) s.on)
      ∙ sym (elements_shape (shape_at other (target map 201 t))) ∙ ap (λ u. elements_in (shape_at other u)) s.same

  -- ---- members

  nearest_base : {A : Type 0} (pick : RecordDesc → Option A) (q : QName) (f g : TypeRef → Option A) → ((t : TypeRef) → On Shapes t → f t ≡ g t) → Shapes q → (d : Option Desc) → map q ≡ d → nearest_in pick f d ≡ nearest_in pick g d
  nearest_base pick q f g same on None e = refl
  nearest_base pick q f g same on (Some (desc.Alias k t)) e = same t (near_on q (desc.Alias k t) on e).0
  nearest_base pick q f g same on (Some (desc.Record r)) e = ap (or_else (pick r)) (from_base_same Shapes f g same r.base (base_on r.base (near_on q (desc.Record r) on e)))
    where
      base_on : (b : Option TypeRef) → AllByRecursion (On Shapes) (listed b) → (t : TypeRef) → b ≡ Some t → On Shapes t
      base_on None a t e = absurd cc
      base_on (Some u) a t e = let is : u ≡ t = cc in subst (On Shapes) is a.0
  nearest_base pick q f g same on (Some (desc.Array k n t)) e = refl
  nearest_base pick q f g same on (Some (desc.OpenArray k t)) e = refl
  nearest_base pick q f g same on (Some (desc.Const v)) e = refl
  nearest_base pick q f g same on (Some (desc.Var k t)) e = refl
  nearest_base pick q f g same on (Some (desc.Proc s)) e = refl
  nearest_base pick q f g same on (Some (desc.Pointer k t)) e = refl
  nearest_base pick q f g same on (Some (desc.ProcType k s)) e = refl

  nearest_told : {A : Type 0} (pick : RecordDesc → Option A) → ((r : RecordDesc) → pick r ≡ pick (record r { words = 0; procedures = 0 })) → (n : ℕ) (t : TypeRef) → On Shapes t → nearest pick map n t ≡ nearest pick other n t
  nearest_told pick alike zero t on = refl
  nearest_told pick alike (suc n) (ref.Basic b) on = refl
  nearest_told pick alike (suc n) (ref.Named q) on =
      nearest_base pick q (nearest pick map n) (nearest pick other n) (λ t i. nearest_told pick alike n t i) on (map q) refl
      ∙ nearest_shape pick alike (nearest pick other n) (map q) ∙ ap (nearest_in pick (nearest pick other n)) (agree.shapes q on)
      ∙ sym (nearest_shape pick alike (nearest pick other n) (other q))

  pub field_place_told : (q : QName) (x : List ℕ) → Shapes q → field_place map q x ≡ field_place other q x
  unfolding field_place
  field_place_told q x on = ap (λ o. unwrap_or (option_map (λ (f : Field). f.place) o) 0) (nearest_told (field_in_record x) (λ r. refl) 201 (ref.Named q) on)

  pub method_told : (q : QName) (x : List ℕ) → Shapes q → method_in map q x ≡ method_in other q x
  method_told q x on = nearest_told (method_in_record x) (λ r. refl) 201 (ref.Named q) on

  pub method_number_told : (q : QName) (x : List ℕ) → Shapes q → method_number map q x ≡ method_number other q x
  unfolding method_number
  method_number_told q x on = ap (λ o. unwrap_or (option_map (λ (p : Method). p.number) o) 0) (method_told q x on)

  -- ---- the words of an element of an open array

  alias_flat : (q : QName) (d : Option Desc) (u : TypeRef) → Layouts q → map q ≡ d → target_of d ≡ Some u → On Layouts u
  alias_flat q None u on e f = absurd cc
  alias_flat q (Some (desc.Alias k t)) u on e f = let is : t ≡ u = cc in subst (On Layouts) is (flat_on q (desc.Alias k t) on e).0
  alias_flat q (Some (desc.Array k n t)) u on e f = absurd cc
  alias_flat q (Some (desc.OpenArray k t)) u on e f = absurd cc
  alias_flat q (Some (desc.Record r)) u on e f = absurd cc
  alias_flat q (Some (desc.Const v)) u on e f = absurd cc
  alias_flat q (Some (desc.Var k t)) u on e f = absurd cc
  alias_flat q (Some (desc.Proc s)) u on e f = absurd cc
  alias_flat q (Some (desc.Pointer k t)) u on e f = absurd cc
  alias_flat q (Some (desc.ProcType k s)) u on e f = absurd cc

  record Lies (n : ℕ) (t : TypeRef) : Type 0 where
    on : On Layouts (target map n t)
    same : target map n t ≡ target other n t

  lies_told : (n : ℕ) (t : TypeRef) → On Layouts t → Lies n t
  unfolding target
  lies_told zero t on = record { on = on; same = refl }
  lies_told (suc n) (ref.Basic b) on = record { on = tt; same = refl }
  lies_told (suc n) (ref.Named q) on = go (target_of (map q)) refl (λ u i. lies_told n u i)
    where
      go : (o : Option TypeRef) → target_of (map q) ≡ o → ((u : TypeRef) → On Layouts u → Lies n u) → Lies (suc n) (ref.Named q)
      go None e more = record {
        on = subst (λ o. On Layouts (follow o (ref.Named q) (λ u. target map n u))) (sym e) on;
        same = ap (λ o. follow o (ref.Named q) (λ u. target map n u)) e ∙ sym (ap (λ o. follow o (ref.Named q) (λ u. target other n u)) (ap target_of (sym (agree.layouts q on)) ∙ e));
      }
      go (Some u) e more =
          let s = more u (alias_flat q (map q) u on refl e) in
          record {
            on = subst (λ o. On Layouts (follow o (ref.Named q) (λ u. target map n u))) (sym e) s.on;
            same = ap (λ o. follow o (ref.Named q) (λ u. target map n u)) e ∙ s.same ∙ sym (ap (λ o. follow o (ref.Named q) (λ u. target other n u)) (ap target_of (sym (agree.layouts q on)) ∙ e));
          }

  open_words_at : (t : TypeRef) → On Layouts t → open_words_in map (shape_at map t) ≡ open_words_in other (shape_at other t)
  open_words_at (ref.Basic b) on = refl
  open_words_at (ref.Named q) on = go (map q) refl ∙ ap (open_words_in other) (agree.layouts q on)
    where
      go : (d : Option Desc) → map q ≡ d → open_words_in map d ≡ open_words_in other d
      go None e = refl
      go (Some (desc.OpenArray k t)) e = words_told t (flat_on q (desc.OpenArray k t) on e).0
      go (Some (desc.Alias k t)) e = refl
      go (Some (desc.Array k n t)) e = refl
      go (Some (desc.Record r)) e = refl
      go (Some (desc.Const v)) e = refl
      go (Some (desc.Var k t)) e = refl
      go (Some (desc.Proc s)) e = refl
      go (Some (desc.Pointer k t)) e = refl
      go (Some (desc.ProcType k s)) e = refl

  pub open_words_told : (t : TypeRef) → On Layouts t → open_words map t ≡ open_words other t
  open_words_told t on = let s = lies_told 201 t on in open_words_at (target map 201 t) s.on ∙ ap (λ u. open_words_in other (shape_at other u)) s.same
