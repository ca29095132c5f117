-- Two maps of which the second declares what the first shows agree on what is read.
use Rattle.std.proofs.Common.{◌≡◌, ℕ, zero, suc, ◌*◌, List, false, Option, Some, None, refl, sym, ap, ◌∙◌, subst}
use Rattle.std.specs.Prelude.{unwrap_or}
use Rattle.std.specs.Option.{option_map}
use Rattle.std.specs.List.{AllByRecursion}
use Rattle.ob_tree.specs.declared.names.QName.{QName}
use Rattle.ob_types.specs.declared.types.TypeRef.{TypeRef}
use Rattle.ob_types.specs.declared.types.TypeRef.TheVariants as ref
use Rattle.ob_types.specs.declared.desc.Desc.{Desc}
use Rattle.ob_types.specs.declared.desc.Desc.TheVariants as desc
use Rattle.ob_types.specs.declared.desc.Field.{Field}
use Rattle.ob_types.specs.declared.desc.Method.{Method}
use Rattle.ob_types.specs.declared.typed.Family.{Family}
use Rattle.ob_types.specs.Relations.{is_record}
use Rattle.ob_types.specs.Tests.{target, target_of, follow, shape_at}
use Rattle.ob_layout.specs.Words.{words_within, words_of, described_words}
use Rattle.ob_layout.specs.Members.{field_in_record, method_in_record}
use Rattle.ob_scheme.specs.Descriptions.{name_in, elements_in, open_words, open_words_in, field_place, method_number}
use Rattle.ob_uses.specs.Uses.{near_types, flat_types}
use Rattle.law_local_files.specs.Agreeing.{Map, On}
use Rattle.law_image_links.specs.Same.{IsSame, IsSameField, IsSameFamily}
use Rattle.law_builds_seen.specs.Seen.{FieldSeen, FamilySeen}
use Rattle.law_builds_joint.specs.Agreement.{AgreeAs}
use Rattle.law_builds_joint.proofs.Shown.{Told, ToldWhole, opened, targets_told, elements_told, targets_whole, words_whole, opened_whole}
use Rattle.law_builds_joint.proofs.Members.{picked, fields_told, methods_told}

-- what is told of the names that are read, and what those lead to
pub record AreTold (a b : Map) (Shapes Layouts : QName → Type 0) : Type 0 where
  pub shapes : (q : QName) → Shapes q → Told (a q) (b q)
  pub near : (q : QName) (d : Desc) → Shapes q → a q ≡ Some d → AllByRecursion (On Shapes) (near_types d)
  pub layouts : (q : QName) → Layouts q → ToldWhole (a q) (b q)
  -- a record's layout is told by its own words
  pub flat : (q : QName) (d : Desc) → Layouts q → a q ≡ Some d → is_record d ≡ false → AllByRecursion (On Layouts) (flat_types false d)

-- what a type is equated to
alias_in : (P : QName → Type 0) (d : Desc) (u : TypeRef) → (is_record d ≡ false → AllByRecursion (On P) (flat_types false d)) → target_of (Some d) ≡ Some u → On P u
alias_in P (desc.Alias k t) u h f = let is : t ≡ u = cc in subst (On P) is (h refl).0
alias_in P (desc.Array k n t) u h f = absurd cc
alias_in P (desc.OpenArray k t) u h f = absurd cc
alias_in P (desc.Record r) u h f = absurd cc
alias_in P (desc.Const v) u h f = absurd cc
alias_in P (desc.Var k t) u h f = absurd cc
alias_in P (desc.Proc s) u h f = absurd cc
alias_in P (desc.Pointer k t) u h f = absurd cc
alias_in P (desc.ProcType k s) u h f = absurd cc

near_alias : (P : QName → Type 0) (d : Desc) (u : TypeRef) → AllByRecursion (On P) (near_types d) → target_of (Some d) ≡ Some u → On P u
near_alias P (desc.Alias k t) u h f = let is : t ≡ u = cc in subst (On P) is h.0
near_alias P (desc.Array k n t) u h f = absurd cc
near_alias P (desc.OpenArray k t) u h f = absurd cc
near_alias P (desc.Record r) u h f = absurd cc
near_alias P (desc.Const v) u h f = absurd cc
near_alias P (desc.Var k t) u h f = absurd cc
near_alias P (desc.Proc s) u h f = absurd cc
near_alias P (desc.Pointer k t) u h f = absurd cc
near_alias P (desc.ProcType k s) u h f = absurd cc

-- ---- what a type stands for, where the names that are told of lead to others that are

module _ (a b : Map) (P : QName → Type 0) (alike : (q : QName) → P q → target_of (a q) ≡ target_of (b q)) (leads : (q : QName) (u : TypeRef) → P q → target_of (a q) ≡ Some u → On P u) where
  record Stands (n : ℕ) (t : TypeRef) : Type 0 where
    pub on : On P (target a n t)
    pub same : target a n t ≡ target b n t

  stands : (n : ℕ) (t : TypeRef) → On P t → Stands n t
  unfolding target
  stands zero t h = record { on = h; same = refl }
  stands (suc n) (ref.Basic x) h = record { on = tt; same = refl }
  stands (suc n) (ref.Named q) h = go (target_of (a q)) refl (λ u i. stands n u i)
    where
      go : (o : Option TypeRef) → target_of (a q) ≡ o → ((u : TypeRef) → On P u → Stands n u) → Stands (suc n) (ref.Named q)
      go None e more = record {
        on = subst (λ o. On P (follow o (ref.Named q) (λ u. target a n u))) (sym e) h;
        same = ap (λ o. follow o (ref.Named q) (λ u. target a n u)) e ∙ sym (ap (λ o. follow o (ref.Named q) (λ u. target b n u)) (sym (alike q h) ∙ e));
      }
      go (Some u) e more =
          let s = more u (leads q u h e) in
          record {
            on = subst (λ o. On P (follow o (ref.Named q) (λ u. target a n u))) (sym e) s.on;
            same = ap (λ o. follow o (ref.Named q) (λ u. target a n u)) e ∙ s.same ∙ sym (ap (λ o. follow o (ref.Named q) (λ u. target b n u)) (sym (alike q h) ∙ e));
          }

  pub stand_on : (t : TypeRef) → On P t → On P (target a 201 t)
  stand_on t h = (stands 201 t h).on

  pub stand_same : (t : TypeRef) → On P t → target a 201 t ≡ target b 201 t
  stand_same t h = (stands 201 t h).same

opened_is : (map : Map) (o : Option Desc) → open_words_in map o ≡ opened (words_of map) o
opened_is map None = refl
opened_is map (Some (desc.OpenArray m t)) = refl
opened_is map (Some (desc.Const v)) = refl
opened_is map (Some (desc.Var m t)) = refl
opened_is map (Some (desc.Proc s)) = refl
opened_is map (Some (desc.Alias m t)) = refl
opened_is map (Some (desc.Array m n t)) = refl
opened_is map (Some (desc.Record r)) = refl
opened_is map (Some (desc.Pointer m t)) = refl
opened_is map (Some (desc.ProcType m s)) = refl

-- the words of a type, by those of what it goes through
words_by : (P : QName → Type 0) (f g : TypeRef → ℕ) → ((t : TypeRef) → On P t → f t ≡ g t) → (o : Option Desc) → ((d : Desc) → o ≡ Some d → is_record d ≡ false → AllByRecursion (On P) (flat_types false d)) → described_words f o ≡ described_words g o
words_by P f g same None h = refl
words_by P f g same (Some (desc.Alias k t)) h = same t (h (desc.Alias k t) refl refl).0
words_by P f g same (Some (desc.Array k n t)) h = ap (λ w. n * w) (same t (h (desc.Array k n t) refl refl).0)
words_by P f g same (Some (desc.OpenArray k t)) h = refl
words_by P f g same (Some (desc.Record r)) h = refl
words_by P f g same (Some (desc.Const v)) h = refl
words_by P f g same (Some (desc.Var k t)) h = refl
words_by P f g same (Some (desc.Proc s)) h = refl
words_by P f g same (Some (desc.Pointer k t)) h = refl
words_by P f g same (Some (desc.ProcType k s)) h = refl

opened_by : (P : QName → Type 0) (f g : TypeRef → ℕ) → ((t : TypeRef) → On P t → f t ≡ g t) → (o : Option Desc) → ((d : Desc) → o ≡ Some d → is_record d ≡ false → AllByRecursion (On P) (flat_types false d)) → opened f o ≡ opened g o
opened_by P f g same None h = refl
opened_by P f g same (Some (desc.OpenArray k t)) h = same t (h (desc.OpenArray k t) refl refl).0
opened_by P f g same (Some (desc.Alias k t)) h = refl
opened_by P f g same (Some (desc.Array k n t)) h = refl
opened_by P f g same (Some (desc.Record r)) h = refl
opened_by P f g same (Some (desc.Const v)) h = refl
opened_by P f g same (Some (desc.Var k t)) h = refl
opened_by P f g same (Some (desc.Proc s)) h = refl
opened_by P f g same (Some (desc.Pointer k t)) h = refl
opened_by P f g same (Some (desc.ProcType k s)) h = refl

module _ (a b : Map) (Shapes Layouts : QName → Type 0) (told : AreTold a b Shapes Layouts) where
  alike : (q : QName) → Shapes q → target_of (a q) ≡ target_of (b q)
  alike q h = targets_told (a q) (b q) (told.shapes q h)

  on : (q : QName) (u : TypeRef) → Shapes q → target_of (a q) ≡ Some u → On Shapes u
  on q u h f = by (a q) refl f
    where
      by : (o : Option Desc) → a q ≡ o → target_of o ≡ Some u → On Shapes u
      by None e f = absurd cc
      by (Some d) e f = near_alias Shapes d u (told.near q d h e) f

  elements_at : (t : TypeRef) → On Shapes t → elements_in (shape_at a t) ≡ elements_in (shape_at b t)
  elements_at (ref.Basic x) h = refl
  elements_at (ref.Named q) h = elements_told (a q) (b q) (told.shapes q h)

  shapes_same : (t : TypeRef) → On Shapes t → IsSame a b t
  shapes_same t h =
      let s = stand_same a b Shapes alike on t h in
      record {
        name = ap name_in s;
        elements = elements_at (target a 201 t) (stand_on a b Shapes alike on t h) ∙ ap (λ u. elements_in (shape_at b u)) s;
      }

  field_same : (o : QName) (x : List ℕ) → Shapes o → FieldSeen a o x → IsSameField a b o x
  unfolding field_place
  field_same o x h s =
      let k = fields_told (a o) (b o) x (told.shapes o h) s in
      ap (λ v. unwrap_or (option_map (λ (f : Field). f.place) v) 0) (picked (field_in_record x) a o k.v k.first ∙ sym (picked (field_in_record x) b o k.v k.second))

  family_same : (f : Family) → Shapes f.owner → FamilySeen a f → IsSameFamily a b f
  unfolding method_number
  family_same f h s =
      let k = methods_told (a f.owner) (b f.owner) f.name (told.shapes f.owner h) s in
      ap (λ v. unwrap_or (option_map (λ (m : Method). m.number) v) 0) (picked (method_in_record f.name) a f.owner k.v k.first ∙ sym (picked (method_in_record f.name) b f.owner k.v k.second))

  -- ---- layouts

  alike_whole : (q : QName) → Layouts q → target_of (a q) ≡ target_of (b q)
  alike_whole q h = targets_whole (a q) (b q) (told.layouts q h)

  on_whole : (q : QName) (u : TypeRef) → Layouts q → target_of (a q) ≡ Some u → On Layouts u
  on_whole q u h f = by (a q) refl f
    where
      by : (o : Option Desc) → a q ≡ o → target_of o ≡ Some u → On Layouts u
      by None e f = absurd cc
      by (Some d) e f = alias_in Layouts d u (told.flat q d h e) f

  words_same : (n : ℕ) (t : TypeRef) → On Layouts t → words_within a n t ≡ words_within b n t
  words_same zero t h = refl
  words_same (suc n) (ref.Basic x) h = refl
  words_same (suc n) (ref.Named q) h =
      words_by Layouts (words_within a n) (words_within b n) (λ t i. words_same n t i) (a q) (λ d e r. told.flat q d h e r)
      ∙ words_whole (words_within b n) (a q) (b q) (told.layouts q h)

  open_at : (t : TypeRef) → On Layouts t → open_words_in a (shape_at a t) ≡ open_words_in b (shape_at b t)
  open_at (ref.Basic x) h = refl
  open_at (ref.Named q) h =
      opened_is a (a q)
      ∙ opened_by Layouts (words_of a) (words_of b) (λ t i. words_same 201 t i) (a q) (λ d e r. told.flat q d h e r)
      ∙ opened_whole (words_of b) (a q) (b q) (told.layouts q h)
      ∙ sym (opened_is b (b q))

  opens_same : (t : TypeRef) → On Layouts t → open_words a t ≡ open_words b t
  opens_same t h =
      open_at (target a 201 t) (stand_on a b Layouts alike_whole on_whole t h)
      ∙ ap (λ u. open_words_in b (shape_at b u)) (stand_same a b Layouts alike_whole on_whole t h)

  -- THEY AGREE
  pub agree_as : AgreeAs a b Shapes Layouts
  agree_as = record {
    shapes = shapes_same;
    fields = field_same;
    families = family_same;
    layouts = λ t h. words_same 201 t h;
    opens = opens_same;
  }
