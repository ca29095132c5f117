-- The slots that the scheme counts are those of the law.
use Rattle.std.proofs.Common.{◌≡◌, ℕ, suc, ◌+◌, List, [], ◌∷◌, ◌++◌, map, refl, sym, ap, ◌∙◌, subst, arith, append_assoc}
use Rattle.std.specs.Prelude.{Option, Bool, true, false, bytes_eq, if◌then◌else◌}
use Rattle.ob_tree.specs.declared.pos.Pos.{Pos}
use Rattle.ob_tree.specs.declared.names.QName.{QName}
use Rattle.ob_types.specs.declared.desc.Desc.{Desc}
use Rattle.ob_types.specs.declared.types.TypeRef.{TypeRef}
use Rattle.ob_types.specs.declared.typed.Passing.{Passing}
use Rattle.ob_types.specs.declared.typed.Passing.TheVariants as passing
use Rattle.ob_types.specs.declared.typed.TypedParameter.{TypedParameter}
use Rattle.ob_types.specs.declared.typed.TypedVariable.{TypedVariable}
use Rattle.ob_types.specs.TypedSyntax.{Procedure}
use Rattle.ob_meaning.specs.Values.{Program, Form, BasicForm, PointerForm, ProcedureForm, ArrayForm, OpenForm, RecordForm, form_in, words as words_in, Held}
use Rattle.ob_meaning.specs.Meaning.{hidden}
use Rattle.ob_meaning.specs.Calls.{held_variable, hidden_held}
use Rattle.ob_layout.specs.Lists.{sum_of}
use Rattle.ob_layout.specs.Words.{words_of}
use Rattle.ob_layout.specs.Room.{slots}
use Rattle.ob_scheme.specs.Context.{before}
use Rattle.law_simulation_relation.specs.Layout.{held_name, slot, slot_words, slots_words, static_parameter, procedure_number}
use Rattle.law_simulation_relation.specs.Relation.{OrElse, Scalar, Fresh, AreDifferent}
use Rattle.law_simulation_relation.proofs.Names.{bytes_same, bytes_true, bytes_sym}
use Rattle.law_simulation_relation.proofs.Enter.{apart, AllFresh}
use Rattle.law_image_code.specs.Described.{IsDescribed}
use Rattle.law_image_code.specs.Fits.{AmongLocals, AmongParameters}
use Rattle.law_image_code.specs.Compiled.{ParameterFits, ParametersFit}

-- PROCEDURES

pub procedures_before : (ps : List Procedure) (x : List ℕ) → before (λ p. p.name) (λ p. 1) ps x ≡ procedure_number ps x
procedures_before [] x = refl
procedures_before (p ∷ ps) x = let h = procedures_before ps x in let e : 1 + before (λ p. p.name) (λ p. 1) ps x ≡ suc (procedure_number ps x) = omega (arith, h) in ap (λ n. if bytes_eq x p.name then 0 else n) e

-- A SLOT BEHIND OTHERS

-- a name that none of these has
abbrev IsNone : List ℕ → List Held → Type 0
IsNone x [] = Unit {0}
IsNone x (h ∷ hs) = (bytes_eq x (held_name h) ≡ false) × IsNone x hs

slot_past : (hs ks : List Held) (x : List ℕ) → IsNone x hs → slot (hs ++ ks) x ≡ slots_words hs + slot ks x
slot_past [] ks x n = omega arith
slot_past (h ∷ hs) ks x n = let r = slot_past hs ks x n.1 in let e : slot_words h + slot (hs ++ ks) x ≡ slot_words h + slots_words hs + slot ks x = omega (arith, r) in ap (λ b. if b then 0 else slot_words h + slot (hs ++ ks) x) n.0 ∙ e

pub words_two : (hs ks : List Held) → slots_words (hs ++ ks) ≡ slots_words hs + slots_words ks
words_two [] ks = omega arith
words_two (h ∷ hs) ks = let r = words_two hs ks in omega (arith, r)

-- a later name is none of the earlier ones
fresh_at : (y : List ℕ) (front : List Held) (h : Held) (back : List Held) → Fresh y (front ++ h ∷ back) → bytes_eq y (held_name h) ≡ false
fresh_at y [] h back f = f.0
fresh_at y (k ∷ front) h back f = fresh_at y front h back f.1

none_before : (front : List Held) (h : Held) (back : List Held) → AreDifferent (front ++ h ∷ back) → IsNone (held_name h) front
none_before [] h back d = tt
none_before (k ∷ front) h back d = (bytes_sym (held_name h) (held_name k) ∙ fresh_at (held_name k) front h back d.0, none_before front h back d.1)

slot_here : (h : Held) (back : List Held) → bytes_eq (held_name h) (held_name h) ≡ true → slot (h ∷ back) (held_name h) ≡ 0
slot_here h back e = ap (λ b. if b then 0 else slot_words h + slot back (held_name h)) e

-- HIDDEN VARIABLES

abbrev pub HiddenIn : List Held → List Pos → ℕ → Type 0
HiddenIn all [] t = Unit {0}
HiddenIn all (p ∷ ps) t = (slot all (hidden p) ≡ t) × HiddenIn all ps (suc t)

pub hidden_in : (front : List Held) (ps : List Pos) (t : ℕ) → t ≡ slots_words front → AreDifferent (front ++ map hidden_held ps) → HiddenIn (front ++ map hidden_held ps) ps t
hidden_in front [] t e d = tt
hidden_in front (p ∷ ps) t e d =
    let h = hidden_held p in
    let back = map hidden_held ps in
    let z = slot_past front (h ∷ back) (hidden p) (none_before front h back d) in
    let s = slot_here h back (bytes_same (hidden p)) in
    let g : front ++ (h ∷ back) ≡ (front ++ h ∷ []) ++ back = sym (append_assoc front (h ∷ []) back) in
    let k : suc t ≡ slots_words (front ++ h ∷ []) = let w = words_two front (h ∷ []) in omega (arith, e, w) in
    let r = hidden_in (front ++ h ∷ []) ps (suc t) k (subst AreDifferent g d) in
    (z ∙ ap (λ n. slots_words front + n) s ∙ (let q : slots_words front + 0 ≡ t = omega (arith, e) in q), subst (λ l. HiddenIn l ps (suc t)) (sym g) r)

module _ (types : QName → Option Desc) (program : Program) (d : IsDescribed types program) where
  -- VARIABLES

  abbrev W : TypeRef → ℕ
  W t = words_of types t

  pub variables_before : (vs : List TypedVariable) (rest : List Held) (x : List ℕ) → AmongLocals vs x → before (λ v. v.name) (λ v. W v.of) vs x ≡ slot (map (held_variable program) vs ++ rest) x
  variables_before [] rest x i = absurd i
  variables_before (v ∷ vs) rest x i = go (bytes_eq x v.name) i (λ j. variables_before vs rest x j)
    where
      go : (b : Bool) → OrElse b (Unit {0}) (AmongLocals vs x) → (AmongLocals vs x → before (λ v. v.name) (λ v. W v.of) vs x ≡ slot (map (held_variable program) vs ++ rest) x) → (if b then 0 else W v.of + before (λ v. v.name) (λ v. W v.of) vs x) ≡ (if b then 0 else words_in (form_in program v.of) + slot (map (held_variable program) vs ++ rest) x)
      go true i f = refl
      go false i f = ap (λ n. n + before (λ v. v.name) (λ v. W v.of) vs x) (d.sizes v.of) ∙ ap (λ n. words_in (form_in program v.of) + n) (f i)

  -- the same for all names, where nothing follows
  pub globals_before : (vs : List TypedVariable) (x : List ℕ) → before (λ v. v.name) (λ v. W v.of) vs x ≡ slot (map (held_variable program) vs) x
  globals_before [] x = refl
  globals_before (v ∷ vs) x =
      let e : W v.of + before (λ v. v.name) (λ v. W v.of) vs x ≡ words_in (form_in program v.of) + slot (map (held_variable program) vs) x = ap (λ n. n + before (λ v. v.name) (λ v. W v.of) vs x) (d.sizes v.of) ∙ ap (λ n. words_in (form_in program v.of) + n) (globals_before vs x) in
      ap (λ n. if bytes_eq x v.name then 0 else n) e

  pub local_sum : (vs : List TypedVariable) → sum_of (λ v. W v.of) vs ≡ slots_words (map (held_variable program) vs)
  local_sum [] = refl
  local_sum (v ∷ vs) = ap (λ n. n + sum_of (λ v. W v.of) vs) (d.sizes v.of) ∙ ap (λ n. words_in (form_in program v.of) + n) (local_sum vs)

-- PARAMETERS

scalar_word : (t : Form) → Scalar t → words_in t ≡ 1
scalar_word (BasicForm b) s = refl
scalar_word (PointerForm t) s = refl
scalar_word (ProcedureForm t) s = refl
scalar_word (ArrayForm n t) s = absurd s
scalar_word (OpenForm t) s = absurd s
scalar_word (RecordForm line fs) s = absurd s

module _ (program : Program) where
  static_name : (p : TypedParameter) → held_name (static_parameter program p) ≡ p.name
  static_name p = by p.passing refl
    where
      by : (how : Passing) → p.passing ≡ how → held_name (static_parameter program p) ≡ p.name
      by passing.Scalar f = rw f refl
      by passing.Structure f = rw f refl
      by passing.OpenArray f = rw f refl
      by passing.Variable f = rw f refl
      by passing.VariableRecord f = rw f refl
      by passing.VariableOpenArray f = rw f refl

  static_words : (p : TypedParameter) → ParameterFits program p.passing (form_in program p.of) → slots p.passing ≡ slot_words (static_parameter program p)
  static_words p fit = by p.passing refl fit
    where
      by : (how : Passing) → p.passing ≡ how → ParameterFits program how (form_in program p.of) → slots p.passing ≡ slot_words (static_parameter program p)
      by passing.Scalar f g = rw f (sym (scalar_word (form_in program p.of) g))
      by passing.Structure f g = rw f refl
      by passing.OpenArray f g = rw f refl
      by passing.Variable f g = rw f refl
      by passing.VariableRecord f g = rw f refl
      by passing.VariableOpenArray f g = rw f refl

  pub parameters_before : (ps : List TypedParameter) (rest : List Held) (x : List ℕ) → ParametersFit program ps → AmongParameters ps x → before (λ p. p.name) (λ p. slots p.passing) ps x ≡ slot (map (static_parameter program) ps ++ rest) x
  parameters_before [] rest x f i = absurd i
  parameters_before (p ∷ ps) rest x f i =
      let h = static_parameter program p in
      let more = slot (map (static_parameter program) ps ++ rest) x in
      subst (λ y. before (λ p. p.name) (λ p. slots p.passing) (p ∷ ps) x ≡ (if bytes_eq x y then 0 else slot_words h + more)) (sym (static_name p))
      (go (bytes_eq x p.name) i (λ j. ap (λ n. n + before (λ p. p.name) (λ p. slots p.passing) ps x) (static_words p f.0) ∙ ap (λ n. slot_words h + n) (parameters_before ps rest x f.1 j)))
    where
      go : (b : Bool) → OrElse b (Unit {0}) (AmongParameters ps x) → (AmongParameters ps x → slots p.passing + before (λ p. p.name) (λ p. slots p.passing) ps x ≡ slot_words (static_parameter program p) + slot (map (static_parameter program) ps ++ rest) x) → (if b then 0 else slots p.passing + before (λ p. p.name) (λ p. slots p.passing) ps x) ≡ (if b then 0 else slot_words (static_parameter program p) + slot (map (static_parameter program) ps ++ rest) x)
      go true i f = refl
      go false i f = f i

  pub parameter_sum : (ps : List TypedParameter) → ParametersFit program ps → sum_of (λ p. slots p.passing) ps ≡ slots_words (map (static_parameter program) ps)
  parameter_sum [] f = refl
  parameter_sum (p ∷ ps) f = ap (λ n. n + sum_of (λ p. slots p.passing) ps) (static_words p f.0) ∙ ap (λ n. slot_words (static_parameter program p) + n) (parameter_sum ps f.1)

  -- a local is none of the variables before it
  local_fresh : (y : List ℕ) (vs : List TypedVariable) (rest : List Held) (x : List ℕ) → Fresh y (map (held_variable program) vs ++ rest) → AmongLocals vs x → bytes_eq x y ≡ false
  local_fresh y [] rest x f i = absurd i
  local_fresh y (v ∷ vs) rest x f i = go (bytes_eq x v.name) refl i (λ j. local_fresh y vs rest x f.1 j)
    where
      go : (b : Bool) → bytes_eq x v.name ≡ b → OrElse b (Unit {0}) (AmongLocals vs x) → (AmongLocals vs x → bytes_eq x y ≡ false) → bytes_eq x y ≡ false
      go true e i more = ap (λ z. bytes_eq z y) (bytes_true x v.name e) ∙ bytes_sym v.name y ∙ f.0
      go false e i more = more i

  local_none : (hs : List Held) (vs : List TypedVariable) (rest : List Held) (x : List ℕ) → AllFresh hs (map (held_variable program) vs ++ rest) → AmongLocals vs x → IsNone x hs
  local_none [] vs rest x f i = tt
  local_none (h ∷ hs) vs rest x f i = (local_fresh (held_name h) vs rest x f.0 i, local_none hs vs rest x f.1 i)

  pub local_past : (hs : List Held) (vs : List TypedVariable) (rest : List Held) (x : List ℕ) → AreDifferent (hs ++ (map (held_variable program) vs ++ rest)) → AmongLocals vs x → slot (hs ++ (map (held_variable program) vs ++ rest)) x ≡ slots_words hs + slot (map (held_variable program) vs ++ rest) x
  local_past hs vs rest x d i = slot_past hs (map (held_variable program) vs ++ rest) x (local_none hs vs rest x (apart hs (map (held_variable program) vs ++ rest) d).1.1 i)
