-- What stands around a part of a module, and what types as they are written come to.
use Rattle.std.proofs.Common.{◌≡◌, ℕ, Bool, true, false, List, [], ◌∷◌, Option, Some, None, refl, sym, ap, ◌∙◌, subst, inl, inr, cond}
use Rattle.std.specs.Prelude.{◌⊎◌, bytes_eq}
use Rattle.std.specs.List.{AllByRecursion, find}
use Rattle.std.proofs.lemmas.Slice.Eq.{bytes_eq-Decides}
use Rattle.ob_tree.specs.declared.names.QName.{QName}
use Rattle.ob_types.specs.declared.types.TypeRef.{TypeRef}
use Rattle.ob_types.specs.declared.desc.Desc.{Desc}
use Rattle.ob_types.specs.declared.typed.Variable.{Variable}
use Rattle.ob_types.specs.declared.typed.TypedType.{TypedType}
use Rattle.ob_rules.specs.declared.entity.Known.{Known}
use Rattle.ob_rules.specs.declared.entity.Received.{Received}
use Rattle.ob_rules.specs.Shapes.{Map, same_name}
use Rattle.ob_rules.specs.Names.{Around, map_of, type_desc, own_desc, in_unit, out_string}
use Rattle.law_local_uses.specs.Settled.{Says, open_chars, NamesIn, MeansIn, GuardIn, IsSettled}
use Rattle.law_local_uses.proofs.Setting.{Setting, find_has}
use Rattle.law_local_uses.specs.Held.{AreHeld, IsThere, SaysShown}
use Rattle.law_lists.proofs.Lists.{IfThere}

-- what is given of the module
pub record Given : Type 1 where
  pub unit : List ℕ
  pub shown : QName → Option Desc
  pub map : Map
  pub Own : QName → Type 0
  pub Held : QName → Type 0
  pub held : AreHeld shown unit Held
  pub says : SaysShown map unit shown

-- a type of the module that is described by held ones
abbrev pub Named : Given → TypedType → Type 0
Named g t = NamesIn g.Held t.desc

abbrev pub AreNamed : Given → List TypedType → Type 0
AreNamed g ts = AllByRecursion (Named g) ts

abbrev pub AreKnown : Given → List Known → Type 0
AreKnown g ks = AllByRecursion (λ (k : Known). MeansIn g.Held k.what) ks

-- what stands around a part of the module
pub record Fine (g : Given) (u : Around) : Type 0 where
  pub unit : u.unit ≡ g.unit
  pub shown : u.shown ≡ g.shown
  pub own : AreNamed g u.own
  pub known : AreKnown g u.known
  pub guards : u.guards ≡ []
  pub receiver : (r : Received) → u.receiver ≡ Some r → g.Own r.owner

-- for what is judged anywhere in the module: what is held
abbrev pub base : Given → Setting
base g = record { map = λ q. None; unit = g.unit; Own = g.Own; Held = g.Held }

-- in the map that is around
abbrev pub here : Given → Around → Setting
here g u = record { map = map_of u; unit = g.unit; Own = g.Own; Held = g.Held }

-- in the map that is given
abbrev pub there : Given → Setting
there g = record { map = g.map; unit = g.unit; Own = g.Own; Held = g.Held }

-- ---- names of the module

pub own_in : (g : Given) (u : Around) → Fine g u → (x : List ℕ) → g.Held (in_unit u x)
own_in g u f x = subst (λ m. g.Held (record { «module» = m; object = x })) (sym f.unit) (g.held.own x)

-- ---- descriptions

found_if : {A : Type 0} (P : A → Type 0) (test : A → Bool) (b : Bool) (x : A) (o : Option A) → test x ≡ b → P x → IfThere (λ x. P x × (test x ≡ true)) o → IfThere (λ x. P x × (test x ≡ true)) (cond b (Some x) o)
found_if P test true x o e h g = (h, e)
found_if P test false x o e h g = g

-- what is found has the property, and passes the test
pub found_has : {A : Type 0} (P : A → Type 0) (test : A → Bool) (xs : List A) → AllByRecursion P xs → IfThere (λ x. P x × (test x ≡ true)) (find test xs)
found_has P test [] h = tt
found_has P test (x ∷ xs) h = found_if P test (test x) x (find test xs) refl h.0 (found_has P test xs h.1)

pub name_is : (q : QName) (m x : List ℕ) → q.«module» ≡ m → x ≡ q.object → record { «module» = m; object = x } ≡ q
name_is q m x e i =
    let first : record { «module» = m; object = x } ≡ record q { object = x } = ap (λ (n : List ℕ). record { «module» = n; object = x }) (sym e) in
    let second : record q { object = x } ≡ q = ap (λ (n : List ℕ). record q { object = n }) i in
    first ∙ second

some_desc : (d e : Desc) → Some d ≡ Some e → d ≡ e
some_desc d e i = cc

own_is : (o : Option TypedType) (d : Desc) → own_desc o ≡ Some d → (t : TypedType) × ((o ≡ Some t) × (t.desc ≡ d))
own_is None d e = absurd cc
own_is (Some t) d e = (t, (refl, some_desc t.desc d e))

module _ (g : Given) (u : Around) (f : Fine g u) where
  found_named : (o : Option TypedType) → IfThere (Named g) o → (d : Desc) → own_desc o ≡ Some d → NamesIn g.Held d
  found_named o h d e = let t = own_is o d e in subst (NamesIn g.Held) t.1.1 (subst (IfThere (Named g)) t.1.0 h)

  desc_named : (b c : Bool) (q : QName) (d : Desc) → type_desc b c u q ≡ Some d → NamesIn g.Held d
  desc_named true c q d e = found_named (find (λ (t : TypedType). bytes_eq t.name q.object) u.own) (find_has (Named g) (λ (t : TypedType). bytes_eq t.name q.object) u.own f.own) d e
  desc_named false true q d e = subst (NamesIn g.Held) (some_desc open_chars d e) (tt, tt)
  desc_named false false q d e = (g.held.exports q d (sym (ap (λ (s : QName → Option Desc). s q) f.shown) ∙ e)).1

  pub map_named : (q : QName) (d : Desc) → map_of u q ≡ Some d → NamesIn g.Held d
  map_named q d e = desc_named (bytes_eq q.«module» u.unit) (same_name q out_string) q d e

  pub shown_named : (q : QName) (d : Desc) → u.shown q ≡ Some d → g.Held q × NamesIn g.Held d
  shown_named q d e = g.held.exports q d (sym (ap (λ (s : QName → Option Desc). s q) f.shown) ∙ e)

  -- ---- all is settled in the map around
  pub settled_here : IsSettled (map_of u) g.Own g.Held u
  settled_here = record {
    says = λ q d e. inl (d, (e, refl));
    named = map_named;
    shown = shown_named;
    out = g.held.out;
    known = f.known;
    guards = subst (λ gs. AllByRecursion (λ (x : Variable × Option TypeRef). GuardIn g.Held x.1) gs) (sym f.guards) tt;
    receiver = f.receiver;
  }

  -- ---- and in the map that is given, where the types of the module are there
  module _ (own : AllByRecursion (IsThere g.map g.Own g.unit) u.own) where
    found_says : (q : QName) (d : Desc) → bytes_eq q.«module» u.unit ≡ true → (o : Option TypedType) → IfThere (λ t. IsThere g.map g.Own g.unit t × (bytes_eq t.name q.object ≡ true)) o → own_desc o ≡ Some d → Says g.map q d
    found_says q d m None h e = absurd cc
    found_says q d m (Some t) h e =
        let n : record { «module» = g.unit; object = t.name } ≡ q = name_is q g.unit t.name ((bytes_eq-Decides q.«module» u.unit).0 m ∙ f.unit) ((bytes_eq-Decides t.name q.object).0 h.1) in
        subst (λ (p : QName). Says g.map p d) n (subst (Says g.map (record { «module» = g.unit; object = t.name })) (some_desc t.desc d e) h.0.says)

    desc_says : (b c : Bool) (q : QName) (d : Desc) → bytes_eq q.«module» u.unit ≡ b → type_desc b c u q ≡ Some d → Says g.map q d ⊎ (d ≡ open_chars)
    desc_says true c q d m e = inl (found_says q d m (find (λ (t : TypedType). bytes_eq t.name q.object) u.own) (found_has (IsThere g.map g.Own g.unit) (λ (t : TypedType). bytes_eq t.name q.object) u.own own) e)
    desc_says false true q d m e = inr (some_desc d open_chars (sym e))
    desc_says false false q d m e = inl (g.says q d (sym (ap (bytes_eq q.«module») f.unit) ∙ m) (sym (ap (λ (s : QName → Option Desc). s q) f.shown) ∙ e))

    pub settled_there : IsSettled g.map g.Own g.Held u
    settled_there = record {
      says = λ q d e. desc_says (bytes_eq q.«module» u.unit) (same_name q out_string) q d refl e;
      named = map_named;
      shown = shown_named;
      out = g.held.out;
      known = f.known;
      guards = settled_here.guards;
      receiver = f.receiver;
    }
