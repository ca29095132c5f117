-- A call's variables are those that its procedure's code knows; places of the calls below stay when a call is made.
use Rattle.std.proofs.lemmas.Bool.Decides.{nat_tests}
use Rattle.std.proofs.Common.{◌≡◌, ℕ, ◌+◌, List, [], ◌∷◌, ◌++◌, length, refl, sym, ap, ◌∙◌, subst, arith}
use Rattle.std.specs.Prelude.{map, Bool, true, false, nat_eq, bytes_eq, if◌then◌else◌}
use Rattle.ob_types.specs.declared.typed.Passing.{Passing}
use Rattle.ob_types.specs.declared.typed.Passing.TheVariants as passing
use Rattle.ob_types.specs.declared.typed.TypedParameter.{TypedParameter}
use Rattle.ob_types.specs.TypedSyntax.{Procedure}
use Rattle.ob_meaning.specs.Values.{Program, Form, ArrayForm, form_in, Value, OfModule, OfCall, OfObject, Place, At, Held, Own, Referred, Copied, Active, AnObject}
use Rattle.ob_meaning.specs.Calls.{element_form}
use Rattle.law_simulation_relation.specs.Layout.{held_name, held_form, slot, slot_words, form_named, has_copy, static_parameter, static_held, place_form, address}
use Rattle.law_simulation_relation.specs.Relation.{OrElse, ValueIn, PlaceIn, PlaceOf, Sub, HeldFine, call_start}
use Rattle.law_simulation_relation.specs.Typed.{As, IsOwn, IsReferred}
use Rattle.law_simulation_relation.proofs.Names.{bytes_true, nat_same}
use Rattle.law_simulation_relation.proofs.Statements.{ParameterHeld, ParametersHeld, IsCallOf}
use Rattle.law_simulation_relation.specs.Setting.{Setting, has_of}

-- the same variable, but for the length of an open array
pub data Alike : Held → Held → Type 0 where
  own : (x : List ℕ) (t : Form) → Alike (Own x t) (Own x t)
  referred : (x : List ℕ) (n : ℕ) (t : Form) → Alike (Referred x n t) (Referred x n t)
  copied : (x : List ℕ) (n : ℕ) (t u : Form) → Alike (Copied x n t) (Copied x n u)

abbrev pub AllAlike : List Held → List Held → Type 0
AllAlike [] [] = Unit {0}
AllAlike [] (k ∷ ks) = ⊥
AllAlike (h ∷ hs) [] = ⊥
AllAlike (h ∷ hs) (k ∷ ks) = Alike h k × AllAlike hs ks

alike_self : (h : Held) → Alike h h
alike_self (Own x t) = own x t
alike_self (Referred x n t) = referred x n t
alike_self (Copied x n t) = copied x n t t

all_self : (hs : List Held) → AllAlike hs hs
all_self [] = tt
all_self (h ∷ hs) = (alike_self h, all_self hs)

parameter_alike : (program : Program) (p : TypedParameter) (h : Held) → ParameterHeld program p h → Alike (static_parameter program p) h
parameter_alike program p h e = by p.passing refl
  where
    by : (how : Passing) → p.passing ≡ how → Alike (static_parameter program p) h
    by passing.Scalar f = rw f (subst (λ k. Alike (Own p.name (form_in program p.of)) k) (sym (rw f at e)) (own _ _))
    by passing.Structure f = rw f (subst (λ k. Alike (Copied p.name 1 (form_in program p.of)) k) (sym (rw f at e)) (copied _ _ _ _))
    by passing.Variable f = rw f (subst (λ k. Alike (Referred p.name 1 (form_in program p.of)) k) (sym (rw f at e)) (referred _ _ _))
    by passing.VariableRecord f = rw f (subst (λ k. Alike (Referred p.name 2 (form_in program p.of)) k) (sym (rw f at e)) (referred _ _ _))
    by passing.VariableOpenArray f = rw f (subst (λ k. Alike (Referred p.name 2 (form_in program p.of)) k) (sym (rw f at e)) (referred _ _ _))
    by passing.OpenArray f = let g : (n : ℕ) × (h ≡ Copied p.name 2 (ArrayForm n (element_form (form_in program p.of)))) = rw f at e in rw f (subst (λ k. Alike (Copied p.name 2 (form_in program p.of)) k) (sym g.1) (copied _ _ _ _))

params_alike : (program : Program) (ps : List TypedParameter) (hs : List Held) (rest : List Held) → ParametersHeld program ps hs → AllAlike (map (static_parameter program) ps ++ rest) (hs ++ rest)
params_alike program [] [] rest h = all_self rest
params_alike program [] (k ∷ ks) rest h = absurd h
params_alike program (p ∷ ps) [] rest h = absurd h
params_alike program (p ∷ ps) (k ∷ ks) rest h = (parameter_alike program p k h.0, params_alike program ps ks rest h.1)

pub call_alike : (program : Program) (p : Procedure) (a : Active) → IsCallOf program p a → AllAlike (static_held program p) a.held
call_alike program p a h = subst (λ l. AllAlike (static_held program p) l) (sym h.is) (params_alike program p.parameters h.parameters _ h.fit)

slot_words_alike : (h k : Held) → Alike h k → slot_words h ≡ slot_words k
slot_words_alike _ _ (own x t) = refl
slot_words_alike _ _ (referred x n t) = refl
slot_words_alike _ _ (copied x n t u) = refl

name_alike : (h k : Held) → Alike h k → held_name h ≡ held_name k
name_alike _ _ (own x t) = refl
name_alike _ _ (referred x n t) = refl
name_alike _ _ (copied x n t u) = refl

pub slot_alike : (hs ks : List Held) (x : List ℕ) → AllAlike hs ks → slot hs x ≡ slot ks x
slot_alike [] [] x h = refl
slot_alike [] (k ∷ ks) x h = absurd h
slot_alike (h ∷ hs) [] x a = absurd a
slot_alike (h ∷ hs) (k ∷ ks) x a = ap (λ y. if bytes_eq x y then 0 else slot_words h + slot hs x) (name_alike h k a.0) ∙ ap (λ n. if bytes_eq x (held_name k) then 0 else n + slot hs x) (slot_words_alike h k a.0) ∙ ap (λ n. if bytes_eq x (held_name k) then 0 else slot_words k + n) (slot_alike hs ks x a.1)

-- an own variable, or one by VAR, has one kind and form in both
pub record Same (Kind : Held → Type 0) (ks : List Held) (x : List ℕ) (t : Form) : Type 0 where
  pub as_it : As Kind ks x
  pub form : form_named ks x ≡ t

-- what tells own variables and parameters by VAR from others
pub record Fixed (Kind : Held → Type 0) : Type 0 where
  pub no_copy : (x : List ℕ) (n : ℕ) (t : Form) → Kind (Copied x n t) → ⊥

pub own_fixed : Fixed IsOwn
own_fixed = record { no_copy = λ x n t h. h }

pub referred_fixed : (k : ℕ) → Fixed (IsReferred k)
referred_fixed k = record { no_copy = λ x n t h. h }

same_one : (Kind : Held → Type 0) (h : Held) (hs ks : List Held) (x : List ℕ) → As Kind (h ∷ hs) x → (As Kind hs x → Same Kind ks x (form_named hs x)) → Same Kind (h ∷ ks) x (form_named (h ∷ hs) x)
same_one Kind h hs ks x i rest = go (bytes_eq x (held_name h)) refl i rest
  where
    go : (b : Bool) → bytes_eq x (held_name h) ≡ b → OrElse b (Kind h) (As Kind hs x) → (As Kind hs x → Same Kind ks x (form_named hs x)) → Same Kind (h ∷ ks) x (if b then held_form h else form_named hs x)
    go true e i r = record { as_it = rw e i; form = rw e refl }
    go false e i r = let s = r i in record { as_it = rw e s.as_it; form = rw e s.form }

same_copy : (Kind : Held → Type 0) → Fixed Kind → (y : List ℕ) (n : ℕ) (t u : Form) (hs ks : List Held) (x : List ℕ) → As Kind (Copied y n t ∷ hs) x → (As Kind hs x → Same Kind ks x (form_named hs x)) → Same Kind (Copied y n u ∷ ks) x (form_named (Copied y n t ∷ hs) x)
same_copy Kind f y n t u hs ks x i rest = go (bytes_eq x y) refl i rest
  where
    go : (b : Bool) → bytes_eq x y ≡ b → OrElse b (Kind (Copied y n t)) (As Kind hs x) → (As Kind hs x → Same Kind ks x (form_named hs x)) → Same Kind (Copied y n u ∷ ks) x (if b then t else form_named hs x)
    go true e i r = absurd (f.no_copy y n t i)
    go false e i r = let s = r i in record { as_it = rw e s.as_it; form = rw e s.form }

same_case : (Kind : Held → Type 0) → Fixed Kind → (h k : Held) → Alike h k → (hs ks : List Held) (x : List ℕ) → As Kind (h ∷ hs) x → (As Kind hs x → Same Kind ks x (form_named hs x)) → Same Kind (k ∷ ks) x (form_named (h ∷ hs) x)
same_case Kind f _ _ (own y t) hs ks x i rest = same_one Kind (Own y t) hs ks x i rest
same_case Kind f _ _ (referred y n t) hs ks x i rest = same_one Kind (Referred y n t) hs ks x i rest
same_case Kind f _ _ (copied y n t u) hs ks x i rest = same_copy Kind f y n t u hs ks x i rest

pub same_alike : (Kind : Held → Type 0) → Fixed Kind → (hs ks : List Held) (x : List ℕ) → AllAlike hs ks → As Kind hs x → Same Kind ks x (form_named hs x)
same_alike Kind f [] ks x a h = absurd h
same_alike Kind f (h ∷ hs) [] x a i = absurd a
same_alike Kind f (h ∷ hs) (k ∷ ks) x a i = same_case Kind f h k a.0 hs ks x i (λ i. same_alike Kind f hs ks x a.1 i)

module _ (c : Setting) where
  -- places of the calls below
  pub place_up : (os : List AnObject) (cs : List Active) (a : Active) (p : Place) → PlaceIn c.program (has_of c) c.img os cs p → PlaceIn c.program (has_of c) c.img os (a ∷ cs) p
  place_up os cs a (At (OfModule m x) path) h = h
  place_up os cs a (At (OfObject n) path) h = h
  place_up os cs a (At (OfCall k x) path) h =
      let e : nat_eq k (length cs) ≡ false = let l = h.0.0 in grind (arith, nat_tests) in
      ((omega (arith, h.0.0), rw e h.0.1), rw e h.1)

  pub address_up : (os : List AnObject) (cs : List Active) (a : Active) (p : Place) → PlaceIn c.program (has_of c) c.img os cs p → address c.program c.img os (a ∷ cs) p ≡ address c.program c.img os cs p
  address_up os cs a (At (OfModule m x) path) h = refl
  address_up os cs a (At (OfObject n) path) h = refl
  address_up os cs a (At (OfCall k x) path) h = let e : nat_eq k (length cs) ≡ false = let l = h.0.0 in grind (arith, nat_tests) in rw e refl

  pub form_up : (os : List AnObject) (cs : List Active) (a : Active) (p : Place) → PlaceIn c.program (has_of c) c.img os cs p → place_form c.program c.img os (a ∷ cs) p ≡ place_form c.program c.img os cs p
  form_up os cs a (At (OfModule m x) path) h = refl
  form_up os cs a (At (OfObject n) path) h = refl
  form_up os cs a (At (OfCall k x) path) h = let e : nat_eq k (length cs) ≡ false = let l = h.0.0 in grind (arith, nat_tests) in rw e refl

  pub place_of_up : (os : List AnObject) (cs : List Active) (a : Active) (t : Form) (p : Place) → PlaceOf c.program (has_of c) c.img os cs t p → PlaceOf c.program (has_of c) c.img os (a ∷ cs) t p
  place_of_up os cs a t p h = (place_up os cs a p h.0, subst (λ u. Sub u t) (sym (form_up os cs a p h.0)) h.1)

  -- an own variable of the newest call
  pub own_place : (os : List AnObject) (cs : List Active) (a : Active) (x : List ℕ) → ValueIn a.held x → PlaceIn c.program (has_of c) c.img os (a ∷ cs) (At (OfCall (length cs) x) [])
  own_place os cs a x h = let e = nat_same (length cs) in ((omega arith, rw e h), tt)

  pub own_form : (os : List AnObject) (cs : List Active) (a : Active) (x : List ℕ) → place_form c.program c.img os (a ∷ cs) (At (OfCall (length cs) x) []) ≡ form_named a.held x
  own_form os cs a x = let e = nat_same (length cs) in rw e refl

  pub own_address : (os : List AnObject) (cs : List Active) (a : Active) (x : List ℕ) → has_copy a.held x ≡ false → call_start c.program (has_of c) c.img cs + slot a.held x ≡ address c.program c.img os (a ∷ cs) (At (OfCall (length cs) x) [])
  own_address os cs a x h = let e = nat_same (length cs) in rw (e, h) (omega arith)

  -- the place of a parameter by VAR
  pub ref_place : (os : List AnObject) (cs : List Active) (places : List ℕ → Place) (hs : List Held) (k : ℕ) (x : List ℕ) (g : List ℕ → Value) → As (IsReferred k) hs x → HeldFine c.program (has_of c) c.img os cs places hs g → PlaceOf c.program (has_of c) c.img os cs (form_named hs x) (places x)
  ref_place os cs places [] k x g here fine = absurd here
  ref_place os cs places (Own y t ∷ hs) k x g here fine = go (bytes_eq x y) here (λ h. ref_place os cs places hs k x g h fine.1.1)
    where
      go : (b : Bool) → OrElse b ⊥ (As (IsReferred k) hs x) → (As (IsReferred k) hs x → PlaceOf c.program (has_of c) c.img os cs (form_named hs x) (places x)) → PlaceOf c.program (has_of c) c.img os cs (if b then t else form_named hs x) (places x)
      go true h r = absurd h
      go false h r = r h
  ref_place os cs places (Copied y n t ∷ hs) k x g here fine = go (bytes_eq x y) here (λ h. ref_place os cs places hs k x g h fine.1.1)
    where
      go : (b : Bool) → OrElse b ⊥ (As (IsReferred k) hs x) → (As (IsReferred k) hs x → PlaceOf c.program (has_of c) c.img os cs (form_named hs x) (places x)) → PlaceOf c.program (has_of c) c.img os cs (if b then t else form_named hs x) (places x)
      go true h r = absurd h
      go false h r = r h
  ref_place os cs places (Referred y n t ∷ hs) k x g here fine = go (bytes_eq x y) refl here (λ h. ref_place os cs places hs k x g h fine.1.1)
    where
      go : (b : Bool) → bytes_eq x y ≡ b → OrElse b (n ≡ k) (As (IsReferred k) hs x) → (As (IsReferred k) hs x → PlaceOf c.program (has_of c) c.img os cs (form_named hs x) (places x)) → PlaceOf c.program (has_of c) c.img os cs (if b then t else form_named hs x) (places x)
      go true e h r = subst (λ z. PlaceOf c.program (has_of c) c.img os cs t (places z)) (sym (bytes_true x y e)) fine.1.0
      go false e h r = r h
