-- What types are by one map, they are by another that says the same of what they name, but for members and sizes of records.
use Rattle.std.proofs.Common.{◌≡◌, ℕ, zero, suc, ◌≤◌, Bool, true, false, not, List, [], ◌∷◌, ◌++◌, Option, Some, None, refl, sym, ap, subst, ◌∙◌}
use Rattle.std.specs.Prelude.{◌&&◌, map as each, MatchOption, IfSome, IsTrue}
use Rattle.std.specs.List.{list_all, flat_map, AllByRecursion}
use Rattle.ob_tree.specs.declared.names.QName.{QName}
use Rattle.ob_tree.specs.declared.ident.Mark.{Mark}
use Rattle.ob_types.specs.declared.types.TypeRef.{TypeRef}
use Rattle.ob_types.specs.declared.types.TypeRef.TheVariants as ref
use Rattle.ob_types.specs.declared.types.Signature.{Signature}
use Rattle.ob_types.specs.declared.desc.Desc.{Desc}
use Rattle.ob_types.specs.declared.desc.Desc.TheVariants as desc
use Rattle.ob_types.specs.declared.desc.Field.{Field}
use Rattle.ob_types.specs.declared.desc.Method.{Method}
use Rattle.ob_types.specs.Maps.{is_type, listed, signature_types, named_by, IsHeld}
use Rattle.ob_types.specs.Relations.{StandsFor, Is, is_record, is_structure, is_open, IsPlainResult, Keeps, IsGrounded}
use Rattle.ob_types.specs.Tests.{target, target_of, follow, shape_at}
use Rattle.ob_types.specs.AssigningTests.{described as is_described}
use Rattle.ob_types.proofs.Targets.{unique, is_target}
use Rattle.ob_env.specs.Fit.{is as is_kind, is_held, if_some, names_types, has_bases, has_plain_result, is_closed_field, is_plain_method, keeps_places}
use Rattle.ob_env.proofs.Grounded.{all_left, all_right}
use Rattle.ob_uses.specs.Uses.{near_types}
use Rattle.law_local_files.specs.Agreeing.{Map, On}
use Rattle.law_typing_env.specs.Near.{core}
use Rattle.law_typing_env.proofs.Keeping.{IsPlainKind, record_kind, structure_kind, open_kind}

pub type_kind : IsPlainKind is_type
type_kind (desc.Const v) = refl
type_kind (desc.Var m t) = refl
type_kind (desc.Proc s) = refl
type_kind (desc.Alias m t) = refl
type_kind (desc.Array m n t) = refl
type_kind (desc.OpenArray m t) = refl
type_kind (desc.Pointer m t) = refl
type_kind (desc.ProcType m s) = refl
type_kind (desc.Record r) = refl

pub target_core : (d : Desc) → target_of (Some (core d)) ≡ target_of (Some d)
target_core (desc.Const v) = refl
target_core (desc.Var m t) = refl
target_core (desc.Proc s) = refl
target_core (desc.Alias m t) = refl
target_core (desc.Array m n t) = refl
target_core (desc.OpenArray m t) = refl
target_core (desc.Pointer m t) = refl
target_core (desc.ProcType m s) = refl
target_core (desc.Record r) = refl

record IsAliasOf (d : Desc) (u : TypeRef) : Type 0 where
  k : Mark
  is : d ≡ desc.Alias k u

alias_is : (d : Desc) (u : TypeRef) → target_of (Some d) ≡ Some u → IsAliasOf d u
alias_is (desc.Const v) u e = absurd cc
alias_is (desc.Var m t) u e = absurd cc
alias_is (desc.Proc s) u e = absurd cc
alias_is (desc.Alias m t) u e = let i : t ≡ u = cc in record { k = m; is = ap (desc.Alias m) i }
alias_is (desc.Array m n t) u e = absurd cc
alias_is (desc.OpenArray m t) u e = absurd cc
alias_is (desc.Pointer m t) u e = absurd cc
alias_is (desc.ProcType m s) u e = absurd cc
alias_is (desc.Record r) u e = absurd cc

pub all_true : {A : Type 0} (p : A → Bool) (xs : List A) → AllByRecursion (λ x. p x ≡ true) xs → list_all p xs ≡ true
all_true p [] h = refl
all_true p (x ∷ xs) h = ap (λ b. b && list_all p xs) h.0 ∙ all_true p xs h.1

kind_option : (kind : Desc → Bool) (o : Option Desc) → is_described kind o ≡ true → MatchOption o ⊥ (λ d. IsTrue (kind d))
kind_option kind None e = absurd cc
kind_option kind (Some d) e = e

kind_told : (kind : Desc → Bool) (o : Option Desc) → MatchOption o ⊥ (λ d. IsTrue (kind d)) → is_described kind o ≡ true
kind_told kind None h = absurd h
kind_told kind (Some d) h = h

is_from : (map : Map) (kind : Desc → Bool) (t u : TypeRef) → StandsFor map t u → is_described kind (shape_at map u) ≡ true → Is map kind t
is_from map kind t (ref.Basic b) s e = absurd cc
is_from map kind t (ref.Named q) s e = (q, (s, kind_option kind (map q) e))

is_to : (map : Map) (kind : Desc → Bool) (t u : TypeRef) → StandsFor map t u → Is map kind t → is_described kind (shape_at map u) ≡ true
is_to map kind t u s h = subst (λ (w : TypeRef). is_described kind (shape_at map w) ≡ true) (sym (unique map s h.1.0)) (kind_told kind (map h.0) h.1.1)

-- a map F that says of these names, and of what they lead to, what the grounded map V says, but for members and sizes of records
module _
    (V F : Map) (P : QName → Type 0)
    (says : (q : QName) (e : Desc) → P q → V q ≡ Some e → is_type e ≡ true → (d : Desc) × ((F q ≡ Some d) × (core d ≡ core e)))
    (leads : (q : QName) (e : Desc) → P q → V q ≡ Some e → is_type e ≡ true → AllByRecursion (On P) (near_types e))
    (grounded : IsGrounded V)
  where
    -- a type that is followed
    abbrev pub Good : TypeRef → Type 0
    Good t = On P t × IsHeld V t

    pub record Stands (n : ℕ) (t : TypeRef) : Type 0 where
      pub same : target F n t ≡ target V n t
      pub good : Good (target V n t)

    pub stands : (n : ℕ) (t : TypeRef) → On P t → IsHeld V t → Stands n t
    unfolding target
    stands zero t on h = record { same = refl; good = (on, h) }
    stands (suc n) (ref.Basic b) on h = record { same = refl; good = (tt, tt) }
    stands (suc n) (ref.Named q) on h = by (V q) refl h (λ u o k. stands n u o k)
      where
        by : (o : Option Desc) → V q ≡ o → MatchOption o ⊥ (λ d. IsTrue (is_type d)) → ((u : TypeRef) → On P u → IsHeld V u → Stands n u) → Stands (suc n) (ref.Named q)
        by None i k r = absurd k
        by (Some e) i k r = on_target (target_of (Some e)) refl
          where
            s : (d : Desc) × ((F q ≡ Some d) × (core d ≡ core e))
            s = says q e on i k

            f : target_of (F q) ≡ target_of (Some e)
            f = ap target_of s.1.0 ∙ sym (target_core s.0) ∙ ap (λ x. target_of (Some x)) s.1.1 ∙ target_core e

            on_target : (o : Option TypeRef) → target_of (Some e) ≡ o → Stands (suc n) (ref.Named q)
            on_target None j =
                let v : target V (suc n) (ref.Named q) ≡ ref.Named q = ap (λ x. follow x (ref.Named q) (λ u. target V n u)) (ap target_of i ∙ j) in
                let w : target F (suc n) (ref.Named q) ≡ ref.Named q = ap (λ x. follow x (ref.Named q) (λ u. target F n u)) (f ∙ j) in
                record { same = w ∙ sym v; good = subst Good (sym v) (on, h) }
            on_target (Some u) j =
                let v : target V (suc n) (ref.Named q) ≡ target V n u = ap (λ x. follow x (ref.Named q) (λ u. target V n u)) (ap target_of i ∙ j) in
                let w : target F (suc n) (ref.Named q) ≡ target F n u = ap (λ x. follow x (ref.Named q) (λ u. target F n u)) (f ∙ j) in
                let a = alias_is e u j in
                let near : AllByRecursion (On P) (near_types (desc.Alias a.k u)) = subst (λ x. AllByRecursion (On P) (near_types x)) a.is (leads q e on i k) in
                let held : AllByRecursion (λ t. IsHeld V t) (named_by (desc.Alias a.k u)) = subst (λ x. AllByRecursion (λ t. IsHeld V t) (named_by x)) a.is (grounded.held q e i) in
                let t = r u near.0 held.0 in
                record { same = w ∙ t.same ∙ sym v; good = subst Good (sym v) t.good }

    -- ---- kinds

    shaped : (kind : Desc → Bool) → IsPlainKind kind → (u : TypeRef) → Good u → is_described kind (shape_at F u) ≡ is_described kind (shape_at V u)
    shaped kind plain (ref.Basic b) g = refl
    shaped kind plain (ref.Named q) g = by (V q) refl g.1
      where
        by : (o : Option Desc) → V q ≡ o → MatchOption o ⊥ (λ d. IsTrue (is_type d)) → is_described kind (F q) ≡ is_described kind (V q)
        by None i k = absurd k
        by (Some e) i k =
            let s = says q e g.0 i k in
            ap (is_described kind) s.1.0 ∙ sym (plain s.0) ∙ ap kind s.1.1 ∙ plain e ∙ sym (ap (is_described kind) i)

    kinds : (kind : Desc → Bool) → IsPlainKind kind → (n : ℕ) (t : TypeRef) → Good t → is_kind F n kind t ≡ is_described kind (shape_at V (target V n t))
    kinds kind plain n t g =
        let s = stands n t g.0 g.1 in
        ap (λ u. is_described kind (shape_at F u)) s.same ∙ shaped kind plain (target V n t) s.good

    module _ (n : ℕ) (enough : 201 ≤ n) where
      stands_in : (t : TypeRef) → Good t → StandsFor V t (target V n t)
      stands_in t g = (is_target V 201 n t enough (grounded.chains t g.1)).stands

      ever : (kind : Desc → Bool) → IsPlainKind kind → (t : TypeRef) → Good t → Is V kind t → is_kind F n kind t ≡ true
      ever kind plain t g i = kinds kind plain n t g ∙ is_to V kind t (target V n t) (stands_in t g) i

      never : (kind : Desc → Bool) → IsPlainKind kind → (t : TypeRef) → Good t → (Is V kind t → ⊥) → not (is_kind F n kind t) ≡ true
      never kind plain t g ban = by (is_described kind (shape_at V (target V n t))) refl
        where
          by : (b : Bool) → is_described kind (shape_at V (target V n t)) ≡ b → not (is_kind F n kind t) ≡ true
          by true e = absurd (ban (is_from V kind t (target V n t) (stands_in t g) e))
          by false e = ap not (kinds kind plain n t g ∙ e)

      -- ---- 1. types that are named

      named : (t : TypeRef) → Good t → is_held F n t ≡ true
      named (ref.Basic b) g = refl
      named (ref.Named q) g = by (V q) refl g.1
        where
          by : (o : Option Desc) → V q ≡ o → MatchOption o ⊥ (λ d. IsTrue (is_type d)) → is_described is_type (F q) ≡ true
          by None i k = absurd k
          by (Some e) i k = let s = says q e g.0 i k in ap (is_described is_type) s.1.0 ∙ sym (type_kind s.0) ∙ ap is_type s.1.1 ∙ type_kind e ∙ k

      all_named : (ts : List TypeRef) → AllByRecursion Good ts → list_all (is_held F n) ts ≡ true
      all_named [] g = refl
      all_named (t ∷ ts) g = ap (λ b. b && list_all (is_held F n) ts) (named t g.0) ∙ all_named ts g.1

      pub names : (d : Desc) → AllByRecursion Good (named_by d) → names_types F n d ≡ true
      names d g = all_named (named_by d) g

      -- ---- 3. bases

      base : (o : Option TypeRef) → AllByRecursion Good (listed o) → IfSome o (Is V is_record) → if_some (is_kind F n is_record) o ≡ true
      base None g i = refl
      base (Some t) g i = ever is_record record_kind t g.0 i

      pub bases : (d : Desc) → AllByRecursion Good (named_by d) → Keeps V d → has_bases F n d ≡ true
      bases (desc.Const v) g k = refl
      bases (desc.Var m t) g k = refl
      bases (desc.Proc s) g k = refl
      bases (desc.Alias m t) g k = refl
      bases (desc.Array m c t) g k = refl
      bases (desc.OpenArray m t) g k = refl
      bases (desc.Pointer m t) g k = ever is_structure structure_kind t g.0 k
      bases (desc.ProcType m s) g k = refl
      bases (desc.Record r) g k = base r.base (all_left Good (listed r.base) (each (λ f. f.of) r.fields) (all_left Good (listed r.base ++ each (λ f. f.of) r.fields) (flat_map (λ m. signature_types m.signature) r.methods) g)) k.0

      -- ---- 4. places of open arrays, and results

      plain_option : (o : Option TypeRef) → AllByRecursion Good (listed o) → IfSome o (λ t. Is V is_structure t → ⊥) → if_some (λ t. not (is_kind F n is_structure t)) o ≡ true
      plain_option None g k = refl
      plain_option (Some t) g k = never is_structure structure_kind t g.0 k

      plain_result : (s : Signature) → AllByRecursion Good (signature_types s) → IsPlainResult V s → has_plain_result F n s ≡ true
      plain_result s g k = plain_option s.result (all_right Good (each (λ p. p.1) s.params) (listed s.result) g) k

      fields_closed : (fs : List Field) → AllByRecursion Good (each (λ f. f.of) fs) → AllByRecursion (λ f. Is V is_open f.of → ⊥) fs → list_all (is_closed_field F n) fs ≡ true
      fields_closed [] g k = refl
      fields_closed (f ∷ fs) g k = ap (λ b. b && list_all (is_closed_field F n) fs) (never is_open open_kind f.of g.0 k.0) ∙ fields_closed fs g.1 k.1

      methods_plain : (ms : List Method) → AllByRecursion Good (flat_map (λ m. signature_types m.signature) ms) → AllByRecursion (λ m. IsPlainResult V m.signature) ms → list_all (is_plain_method F n) ms ≡ true
      methods_plain [] g k = refl
      methods_plain (m ∷ ms) g k =
          ap (λ b. b && list_all (is_plain_method F n) ms) (plain_result m.signature (all_left Good (signature_types m.signature) (flat_map (λ m. signature_types m.signature) ms) g) k.0)
          ∙ methods_plain ms (all_right Good (signature_types m.signature) (flat_map (λ m. signature_types m.signature) ms) g) k.1

      pub places : (d : Desc) → AllByRecursion Good (named_by d) → Keeps V d → keeps_places F n d ≡ true
      places (desc.Const v) g k = refl
      places (desc.Var m t) g k = never is_open open_kind t g.0 k
      places (desc.Proc s) g k = plain_result s g k
      places (desc.Alias m t) g k = never is_open open_kind t g.0 k
      places (desc.Array m c t) g k = never is_open open_kind t g.0 k
      places (desc.OpenArray m t) g k = never is_open open_kind t g.0 k
      places (desc.Pointer m t) g k = refl
      places (desc.ProcType m s) g k = plain_result s g k
      places (desc.Record r) g k =
          let front = all_left Good (listed r.base ++ each (λ f. f.of) r.fields) (flat_map (λ m. signature_types m.signature) r.methods) g in
          let bound = all_right Good (listed r.base ++ each (λ f. f.of) r.fields) (flat_map (λ m. signature_types m.signature) r.methods) g in
          ap (λ b. b && list_all (is_plain_method F n) r.methods) (fields_closed r.fields (all_right Good (listed r.base) (each (λ f. f.of) r.fields) front) k.1.0)
          ∙ methods_plain r.methods bound k.1.1
