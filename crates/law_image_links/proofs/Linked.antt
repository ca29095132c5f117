-- The bases of a file's record types: those of its own stand before what extends them, the others are among its links.
use Rattle.std.proofs.Common.{◌≡◌, ℕ, zero, suc, ◌+◌, ◌<◌, List, [], ◌∷◌, length, refl, sym, ap, ◌∙◌, subst, arith, Option, Some, None}
use Rattle.std.proofs.lemmas.Bool.Decides.{nat_tests}
use Rattle.std.specs.Prelude.{◌≤◌, Bool, true, false, bytes_eq, ◌&&◌, unwrap_or, slice_get, nat_lt, if◌then◌else◌}
use Rattle.std.proofs.lemmas.Option.{none-some}
use Rattle.ob_tree.specs.declared.names.QName.{QName}
use Rattle.ob_types.specs.declared.desc.Desc.{Desc}
use Rattle.ob_types.specs.declared.desc.Desc.TheVariants as desc
use Rattle.ob_types.specs.declared.desc.RecordDesc.{RecordDesc}
use Rattle.ob_types.specs.declared.typed.TypedType.{TypedType}
use Rattle.ob_types.specs.TypedSyntax.{Module}
use Rattle.ob_obj.specs.declared.parts.Base.TheVariants as base
use Rattle.ob_obj.specs.declared.parts.RecordType.{RecordType}
use Rattle.ob_obj.specs.declared.file.ObjFile.{ObjFile}
use Rattle.ob_obj.specs.Grammar.{file, body, IsSound, base_stands, bases_stand}
use Rattle.ob_meaning.specs.Values.{type_named}
use Rattle.ob_scheme.specs.Context.{is_own}
use Rattle.ob_scheme.specs.Numbers.{same_type, number_among, with_one}
use Rattle.ob_scheme.specs.Object.{own, base_type, with_base, with_record, with_bases}
use Rattle.law_simulation_relation.proofs.Names.{bytes_same, bytes_true}
use Rattle.law_lists.proofs.Lists.{and_parts}

-- WHAT A FILE KEEPS

pub sound : (f : ObjFile) → file.fits f → IsSound f
unfolding file
sound f fits = fits.1

pub few_types : (f : ObjFile) → file.fits f → length f.body.types ≤ 1048576
unfolding file body
few_types f fits = fits.0.1.1.1.0.1.0

-- an own base stands before its type
pub base_before : (many n : ℕ) (ts : List RecordType) (k : ℕ) (t : RecordType) (j : ℕ) → bases_stand many n ts ≡ true → slice_get ts k ≡ Some t → t.base ≡ base.Own j → j < n + k
base_before many n [] k t j h e f = absurd (none-some _ e)
base_before many n (u ∷ ts) zero t j h e f =
    let i : u ≡ t = ap (λ o. unwrap_or o u) e in
    let both = and_parts (base_stands many n u.base) (bases_stand many (n + 1) ts) h in
    let l : nat_lt j n ≡ true = subst (λ b. base_stands many n b ≡ true) (ap (λ r. r.base) i ∙ f) both.0 in
    grind (arith, nat_tests)
base_before many n (u ∷ ts) (suc k) t j h e f =
    let both = and_parts (base_stands many n u.base) (bases_stand many (n + 1) ts) h in
    let r = base_before many (n + 1) ts k t j both.1 e f in
    omega (arith, r)

-- LINKS OF BASES

abbrev pub HasLink : List QName → QName → Type 0
HasLink l q = slice_get l (number_among same_type l q) ≡ Some q

same_true : (a b : QName) → same_type a b ≡ true → a ≡ b
same_true a b e =
    let h = and_parts (bytes_eq a.object b.object) (bytes_eq a.«module» b.«module») e in
    ap (λ m. name m a.object) (bytes_true a.«module» b.«module» h.1) ∙ ap (λ x. name b.«module» x) (bytes_true a.object b.object h.0)
  where
    name : List ℕ → List ℕ → QName
    name m x = record { «module» = m; object = x }

one_there : (l : List QName) (q : QName) → HasLink (with_one same_type l q) q
one_there [] q = ap (λ b. slice_get (q ∷ []) (if b then 0 else 1)) (ap (λ b. b && bytes_eq q.«module» q.«module») (bytes_same q.object) ∙ bytes_same q.«module»)
one_there (y ∷ l) q = go (same_type q y) refl (one_there l q)
  where
    go : (b : Bool) → same_type q y ≡ b → HasLink (with_one same_type l q) q → HasLink (if b then y ∷ l else y ∷ with_one same_type l q) q
    go true e more = ap (λ b. slice_get (y ∷ l) (if b then 0 else suc (number_among same_type l q))) e ∙ ap (λ z. Some z) (sym (same_true q y e))
    go false e more = ap (λ b. slice_get (y ∷ with_one same_type l q) (if b then 0 else suc (number_among same_type (with_one same_type l q) q))) e ∙ more

one_kept : (l : List QName) (p q : QName) → HasLink l q → HasLink (with_one same_type l p) q
one_kept [] p q h = absurd (none-some _ h)
one_kept (y ∷ l) p q h = go (same_type p y) (same_type q y) refl h (λ f. one_kept l p q f)
  where
    go : (a b : Bool) → same_type q y ≡ b → slice_get (y ∷ l) (if b then 0 else suc (number_among same_type l q)) ≡ Some q → (HasLink l q → HasLink (with_one same_type l p) q) → HasLink (if a then y ∷ l else y ∷ with_one same_type l p) q
    go true b e h more = ap (λ b. slice_get (y ∷ l) (if b then 0 else suc (number_among same_type l q))) e ∙ h
    go false true e h more = ap (λ b. slice_get (y ∷ with_one same_type l p) (if b then 0 else suc (number_among same_type (with_one same_type l p) q))) e ∙ h
    go false false e h more = ap (λ b. slice_get (y ∷ with_one same_type l p) (if b then 0 else suc (number_among same_type (with_one same_type l p) q))) e ∙ more h

module _ (types : QName → Option Desc) (md : Module) where
  base_kept : (l : List QName) (o : Option QName) (q : QName) → HasLink l q → HasLink (with_base types md l o) q
  base_kept l None q h = h
  base_kept l (Some p) q h = go (is_own (own types md) p.module)
    where
      go : (b : Bool) → HasLink (if b then l else with_one same_type l p) q
      go true = h
      go false = one_kept l p q h

  record_kept : (l : List QName) (d : Desc) (q : QName) → HasLink l q → HasLink (with_record types md l d) q
  record_kept l (desc.Record r) q h = base_kept l (base_type types md r.base) q h
  record_kept l d q h = h

  bases_kept : (l : List QName) (ts : List TypedType) (q : QName) → HasLink l q → HasLink (with_bases types md l ts) q
  bases_kept l [] q h = h
  bases_kept l (t ∷ ts) q h = bases_kept (with_record types md l t.desc) ts q (record_kept l t.desc q h)

  base_there : (l : List QName) (o : Option QName) (q : QName) → o ≡ Some q → is_own (own types md) q.module ≡ false → HasLink (with_base types md l o) q
  base_there l o q e f = subst (λ x. HasLink (with_base types md l x) q) (sym e) (subst (λ b. HasLink (if b then l else with_one same_type l q) q) (sym f) (one_there l q))

  -- the base of a declared record type, in another module, is among the links
  pub link_there : (l : List QName) (ts : List TypedType) (x : List ℕ) (r : RecordDesc) (q : QName) → type_named ts x ≡ Some (desc.Record r) → base_type types md r.base ≡ Some q → is_own (own types md) q.module ≡ false → HasLink (with_bases types md l ts) q
  link_there l [] x r q e f g = absurd (none-some _ e)
  link_there l (t ∷ ts) x r q e f g = go (bytes_eq x t.name) e (λ h. link_there (with_record types md l t.desc) ts x r q h f g)
    where
      go : (b : Bool) → (if b then Some t.desc else type_named ts x) ≡ Some (desc.Record r) → (type_named ts x ≡ Some (desc.Record r) → HasLink (with_bases types md (with_record types md l t.desc) ts) q) → HasLink (with_bases types md (with_record types md l t.desc) ts) q
      go true h more = bases_kept (with_record types md l t.desc) ts q (subst (λ d. HasLink (with_record types md l d) q) (sym (ap (λ o. unwrap_or o t.desc) h)) (base_there l (base_type types md r.base) q f g))
      go false h more = more h
