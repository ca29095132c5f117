-- What a map has of a name, and what another has that declares what the first shows.
use Rattle.std.proofs.Common.{◌≡◌, ℕ, false, Option, Some, None, refl, sym, ap, ◌∙◌}
use Rattle.ob_types.specs.declared.types.TypeRef.{TypeRef}
use Rattle.ob_types.specs.declared.desc.Desc.{Desc}
use Rattle.ob_types.specs.declared.desc.Desc.TheVariants as desc
use Rattle.ob_types.specs.Maps.{is_type}
use Rattle.ob_types.specs.Tests.{target_of}
use Rattle.ob_desc.specs.Grammar.{seen}
use Rattle.ob_layout.specs.Words.{described_words}
use Rattle.ob_scheme.specs.Descriptions.{elements_in}
use Rattle.ob_uses.specs.Objects.{in_places}
use Rattle.law_local_files.specs.Agreeing.{as_shape}
use Rattle.law_typing_forms.specs.Said.{HaveNames}
use Rattle.law_builds_joint.specs.Named.{MethodsDiffer}

-- the fields of a record have different names
abbrev pub FieldsDiffer : Desc → Type 0
FieldsDiffer (desc.Record r) = HaveNames r.fields
FieldsDiffer d = Unit {0}

-- Of a name whose shape is read both have the same; or the first has what is no type, and the second nothing; or the shape in the first
-- is that of what is shown of the second.
pub data Told (d e : Option Desc) : Type 0 where
  same : d ≡ e → Told d e
  plain : (x : Desc) → d ≡ Some x → is_type x ≡ false → e ≡ None → Told d e
  shown : (x y : Desc) → d ≡ Some x → e ≡ Some y → as_shape x ≡ as_shape (seen (in_places y)) → FieldsDiffer y → MethodsDiffer y → Told d e

-- Of one whose layout is read too the first has just what is shown.
pub data ToldWhole (d e : Option Desc) : Type 0 where
  same_whole : d ≡ e → ToldWhole d e
  plain_whole : (x : Desc) → d ≡ Some x → is_type x ≡ false → e ≡ None → ToldWhole d e
  shown_whole : (y : Desc) → d ≡ Some (seen (in_places y)) → e ≡ Some y → ToldWhole d e

-- ---- what types are

target_shape : (d : Desc) → target_of (Some d) ≡ target_of (Some (as_shape d))
target_shape (desc.Const v) = refl
target_shape (desc.Var m t) = refl
target_shape (desc.Proc s) = refl
target_shape (desc.Alias m t) = refl
target_shape (desc.Array m n t) = refl
target_shape (desc.OpenArray m t) = refl
target_shape (desc.Pointer m t) = refl
target_shape (desc.ProcType m s) = refl
target_shape (desc.Record r) = refl

target_seen : (d : Desc) → target_of (Some (seen (in_places d))) ≡ target_of (Some d)
target_seen (desc.Const v) = refl
target_seen (desc.Var m t) = refl
target_seen (desc.Proc s) = refl
target_seen (desc.Alias m t) = refl
target_seen (desc.Array m n t) = refl
target_seen (desc.OpenArray m t) = refl
target_seen (desc.Pointer m t) = refl
target_seen (desc.ProcType m s) = refl
target_seen (desc.Record r) = refl

target_plain : (d : Desc) → is_type d ≡ false → target_of (Some d) ≡ None
target_plain (desc.Const v) e = refl
target_plain (desc.Var m t) e = refl
target_plain (desc.Proc s) e = refl
target_plain (desc.Alias m t) e = absurd cc
target_plain (desc.Array m n t) e = refl
target_plain (desc.OpenArray m t) e = refl
target_plain (desc.Pointer m t) e = refl
target_plain (desc.ProcType m s) e = refl
target_plain (desc.Record r) e = refl

elements_shape : (d : Desc) → elements_in (Some d) ≡ elements_in (Some (as_shape d))
elements_shape (desc.Const v) = refl
elements_shape (desc.Var m t) = refl
elements_shape (desc.Proc s) = refl
elements_shape (desc.Alias m t) = refl
elements_shape (desc.Array m n t) = refl
elements_shape (desc.OpenArray m t) = refl
elements_shape (desc.Pointer m t) = refl
elements_shape (desc.ProcType m s) = refl
elements_shape (desc.Record r) = refl

elements_seen : (d : Desc) → elements_in (Some (seen (in_places d))) ≡ elements_in (Some d)
elements_seen (desc.Const v) = refl
elements_seen (desc.Var m t) = refl
elements_seen (desc.Proc s) = refl
elements_seen (desc.Alias m t) = refl
elements_seen (desc.Array m n t) = refl
elements_seen (desc.OpenArray m t) = refl
elements_seen (desc.Pointer m t) = refl
elements_seen (desc.ProcType m s) = refl
elements_seen (desc.Record r) = refl

elements_plain : (d : Desc) → is_type d ≡ false → elements_in (Some d) ≡ None
elements_plain (desc.Const v) e = refl
elements_plain (desc.Var m t) e = refl
elements_plain (desc.Proc s) e = refl
elements_plain (desc.Alias m t) e = refl
elements_plain (desc.Array m n t) e = absurd cc
elements_plain (desc.OpenArray m t) e = refl
elements_plain (desc.Pointer m t) e = refl
elements_plain (desc.ProcType m s) e = refl
elements_plain (desc.Record r) e = refl

pub targets_told : (d e : Option Desc) → Told d e → target_of d ≡ target_of e
targets_told d e (same i) = ap target_of i
targets_told d e (plain x i p j) = ap target_of i ∙ target_plain x p ∙ sym (ap target_of j)
targets_told d e (shown x y i j k f m) = ap target_of i ∙ target_shape x ∙ ap (λ z. target_of (Some z)) k ∙ sym (target_shape (seen (in_places y))) ∙ target_seen y ∙ sym (ap target_of j)

pub elements_told : (d e : Option Desc) → Told d e → elements_in d ≡ elements_in e
elements_told d e (same i) = ap elements_in i
elements_told d e (plain x i p j) = ap elements_in i ∙ elements_plain x p ∙ sym (ap elements_in j)
elements_told d e (shown x y i j k f m) = ap elements_in i ∙ elements_shape x ∙ ap (λ z. elements_in (Some z)) k ∙ sym (elements_shape (seen (in_places y))) ∙ elements_seen y ∙ sym (ap elements_in j)

pub targets_whole : (d e : Option Desc) → ToldWhole d e → target_of d ≡ target_of e
targets_whole d e (same_whole i) = ap target_of i
targets_whole d e (plain_whole x i p j) = ap target_of i ∙ target_plain x p ∙ sym (ap target_of j)
targets_whole d e (shown_whole y i j) = ap target_of i ∙ target_seen y ∙ sym (ap target_of j)

-- ---- words

words_seen : (f : TypeRef → ℕ) (d : Desc) → described_words f (Some (seen (in_places d))) ≡ described_words f (Some d)
words_seen f (desc.Const v) = refl
words_seen f (desc.Var m t) = refl
words_seen f (desc.Proc s) = refl
words_seen f (desc.Alias m t) = refl
words_seen f (desc.Array m n t) = refl
words_seen f (desc.OpenArray m t) = refl
words_seen f (desc.Pointer m t) = refl
words_seen f (desc.ProcType m s) = refl
words_seen f (desc.Record r) = refl

words_plain : (f : TypeRef → ℕ) (d : Desc) → is_type d ≡ false → described_words f (Some d) ≡ 1
words_plain f (desc.Const v) e = refl
words_plain f (desc.Var m t) e = refl
words_plain f (desc.Proc s) e = refl
words_plain f (desc.Alias m t) e = absurd cc
words_plain f (desc.Array m n t) e = absurd cc
words_plain f (desc.OpenArray m t) e = absurd cc
words_plain f (desc.Pointer m t) e = refl
words_plain f (desc.ProcType m s) e = refl
words_plain f (desc.Record r) e = absurd cc

pub words_whole : (f : TypeRef → ℕ) (d e : Option Desc) → ToldWhole d e → described_words f d ≡ described_words f e
words_whole f d e (same_whole i) = ap (described_words f) i
words_whole f d e (plain_whole x i p j) = ap (described_words f) i ∙ words_plain f x p ∙ sym (ap (described_words f) j)
words_whole f d e (shown_whole y i j) = ap (described_words f) i ∙ words_seen f y ∙ sym (ap (described_words f) j)

abbrev pub opened : (TypeRef → ℕ) → Option Desc → ℕ
opened f (Some (desc.OpenArray m t)) = f t
opened f d = 0

opened_seen : (f : TypeRef → ℕ) (d : Desc) → opened f (Some (seen (in_places d))) ≡ opened f (Some d)
opened_seen f (desc.Const v) = refl
opened_seen f (desc.Var m t) = refl
opened_seen f (desc.Proc s) = refl
opened_seen f (desc.Alias m t) = refl
opened_seen f (desc.Array m n t) = refl
opened_seen f (desc.OpenArray m t) = refl
opened_seen f (desc.Pointer m t) = refl
opened_seen f (desc.ProcType m s) = refl
opened_seen f (desc.Record r) = refl

opened_plain : (f : TypeRef → ℕ) (d : Desc) → is_type d ≡ false → opened f (Some d) ≡ 0
opened_plain f (desc.OpenArray m t) e = absurd cc
opened_plain f (desc.Const v) e = refl
opened_plain f (desc.Var m t) e = refl
opened_plain f (desc.Proc s) e = refl
opened_plain f (desc.Alias m t) e = refl
opened_plain f (desc.Array m n t) e = refl
opened_plain f (desc.Pointer m t) e = refl
opened_plain f (desc.ProcType m s) e = refl
opened_plain f (desc.Record r) e = refl

pub opened_whole : (f : TypeRef → ℕ) (d e : Option Desc) → ToldWhole d e → opened f d ≡ opened f e
opened_whole f d e (same_whole i) = ap (opened f) i
opened_whole f d e (plain_whole x i p j) = ap (opened f) i ∙ opened_plain f x p ∙ sym (ap (opened f) j)
opened_whole f d e (shown_whole y i j) = ap (opened f) i ∙ opened_seen f y ∙ sym (ap (opened f) j)
