-- Types are the same where their targets are one.
use Rattle.std.proofs.Common.{◌≡◌, ℕ, zero, suc, List, Option, refl, sym, ap, subst, ◌∙◌, arith}
use Rattle.std.specs.Prelude.{IsTrue, bytes_eq}
use Rattle.std.specs.Bool.{Decides}
use Rattle.std.specs.Cmp.Lexicographic.{bytes_decides}
use Rattle.std.proofs.lemmas.Bool.Decides.{Decides-and, Decides-eqb}
use Rattle.ob_tree.specs.declared.names.QName.{QName}
use Rattle.ob_types.specs.declared.types.Basic.{Basic}
use Rattle.ob_types.specs.declared.types.Basic.TheVariants.{Boolean, Char, ShortInt, Integer, LongInt, Set}
use Rattle.ob_types.specs.declared.types.TypeRef.{TypeRef}
use Rattle.ob_types.specs.declared.types.TypeRef.TheVariants as types
use Rattle.ob_types.specs.declared.desc.Desc.{Desc}
use Rattle.ob_types.specs.Maps.{IsHeld}
use Rattle.ob_types.specs.Relations.{StandsFor, Same, IsGrounded}
use Rattle.ob_types.specs.Tests.{basic_number, target, type_eq, same_at}
use Rattle.ob_types.proofs.Targets.{unique, IsTarget, is_target}

basic_from : ℕ → Basic
basic_from zero = Boolean
basic_from (suc zero) = Char
basic_from (suc (suc zero)) = ShortInt
basic_from (suc (suc (suc zero))) = Integer
basic_from (suc (suc (suc (suc zero)))) = LongInt
basic_from (suc (suc (suc (suc (suc n))))) = Set

basic_back : (b : Basic) → basic_from (basic_number b) ≡ b
unfolding basic_from
basic_back Boolean = refl
basic_back Char = refl
basic_back ShortInt = refl
basic_back Integer = refl
basic_back LongInt = refl
basic_back Set = refl

basic_is : (a b : Basic) → basic_number a ≡ basic_number b → a ≡ b
basic_is a b e = sym (basic_back a) ∙ ap basic_from e ∙ basic_back b

object_is : (a b : QName) → a.module ≡ b.module → a.object ≡ b.object → a ≡ b
object_is a b m o =
    let first : a ≡ record a { «module» = b.module } = ap (λ (l : List ℕ). record a { «module» = l }) m in
    let second : record a { «module» = b.module } ≡ b = ap (λ (l : List ℕ). record b { object = l }) o in
    first ∙ second

name_of : TypeRef → QName → QName
name_of (types.Basic b) q = q
name_of (types.Named p) q = p

kind_of : TypeRef → Basic → Basic
kind_of (types.Basic b) c = b
kind_of (types.Named p) c = c

pub type_eq_decides : (a b : TypeRef) → Decides (type_eq a b) (a ≡ b)
unfolding name_of kind_of
type_eq_decides (types.Basic a) (types.Basic b) =
    let d = Decides-eqb (basic_number a) (basic_number b) in
    (λ e. ap (λ (x : Basic). types.Basic x) (basic_is a b (d.0 e)), λ e. d.1 (ap (λ (t : TypeRef). basic_number (kind_of t a)) e))
type_eq_decides (types.Basic a) (types.Named q) = (λ e. absurd cc, λ e. absurd cc)
type_eq_decides (types.Named p) (types.Basic b) = (λ e. absurd cc, λ e. absurd cc)
type_eq_decides (types.Named p) (types.Named q) =
    let d = Decides-and (bytes_eq p.module q.module) (bytes_eq p.object q.object) (bytes_decides p.module q.module) (bytes_decides p.object q.object) in
    (λ e. let t = d.0 e in ap (λ (x : QName). types.Named x) (object_is p q t.0 t.1), λ e. d.1 (ap (λ (t : TypeRef). (name_of t p).module) e, ap (λ (t : TypeRef). (name_of t p).object) e))

-- the target of a held type
pub at : (map : QName → Option Desc) → IsGrounded map → (t : TypeRef) → IsHeld map t → IsTarget map 201 t (target map 201 t)
at map grounded t held = is_target map 201 201 t (omega arith) (grounded.chains t held)

pub same_decides : (map : QName → Option Desc) → IsGrounded map → (a b : TypeRef) → IsHeld map a → IsHeld map b → (IsTrue (same_at map a b) → Same map a b) × (Same map a b → IsTrue (same_at map a b))
unfolding same_at
same_decides map grounded a b ha hb =
    let x = at map grounded a ha in
    let y = at map grounded b hb in
    let d = type_eq_decides (target map 201 a) (target map 201 b) in (
      λ e. (target map 201 a, (x.stands, subst (λ (u : TypeRef). StandsFor map b u) (sym (d.0 e)) y.stands)),
      λ s. d.1 (unique map x.stands s.1.0 ∙ sym (unique map y.stands s.1.1)),
    )
