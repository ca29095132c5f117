-- Types inside procedures have a stroke behind the key of their procedure, and so differ from all others of a sequence.
use Rattle.std.proofs.Common.{◌≡◌, ◌≢◌, ℕ, Bool, true, false, List, [], ◌∷◌, ◌++◌, refl, sym, subst, ◌∙◌, codes, append-nil}
use Rattle.std.specs.List.{AllByRecursion}
use Rattle.std.proofs.lemmas.Bool.{false≢true}
use Rattle.ob_types.specs.declared.typed.TypedType.{TypedType}
use Rattle.ob_rules.specs.Names.{Around}
use Rattle.ob_rules.specs.Headings.{Head}
use Rattle.ob_rules.specs.Declarations.{Written_procedure, around_body, types_of_head, procedure_judged, procedures_judged}
use Rattle.law_names_distinct.specs.Distinct.{AreDistinct}
use Rattle.law_names_distinct.specs.Parts.{IsInScope}
use Rattle.law_names_procedures.proofs.Sequences.{key_of}
use Rattle.law_names_procedures.proofs.Apart.{Lacks, keys_agree}
use Rattle.law_names_procedures.proofs.Blocks.{inner_is}
use Rattle.law_names_types.specs.Unlike.{types_of_heads, IsWithin}
use Rattle.law_names_compiled.proofs.Stand.{Stands, AllStand}
use Rattle.law_lists.proofs.Lists.{all_back, all_both, all_from, all_front, same_behind}

-- ---- lists

abbrev pub Differ : List TypedType → Type 0
Differ ts = AreDistinct (λ (t : TypedType). t.name) ts

-- each of the first differs from each of the others
abbrev pub AreUnlike : List TypedType → List TypedType → Type 0
AreUnlike ts us = AllByRecursion (λ (t : TypedType). AllByRecursion (λ (u : TypedType). u.name ≢ t.name) us) ts

pub differ_join : (ts us : List TypedType) → Differ ts → Differ us → AreUnlike ts us → Differ (ts ++ us)
differ_join [] us d e c = e
differ_join (t ∷ ts) us d e c = (all_both (λ (u : TypedType). u.name ≢ t.name) ts us d.0 c.0, differ_join ts us d.1 e c.1)

pub differ_front : (ts us : List TypedType) → Differ (ts ++ us) → Differ ts
differ_front [] us d = tt
differ_front (t ∷ ts) us d = (all_front (λ (u : TypedType). u.name ≢ t.name) ts us d.0, differ_front ts us d.1)

pub differ_back : (ts us : List TypedType) → Differ (ts ++ us) → Differ us
differ_back [] us d = d
differ_back (t ∷ ts) us d = differ_back ts us d.1

pub differ_cross : (ts us : List TypedType) → Differ (ts ++ us) → AreUnlike ts us
differ_cross [] us d = tt
differ_cross (t ∷ ts) us d = (all_back (λ (u : TypedType). u.name ≢ t.name) ts us d.0, differ_cross ts us d.1)

unlike_join : (ts us vs : List TypedType) → AreUnlike ts vs → AreUnlike us vs → AreUnlike (ts ++ us) vs
unlike_join ts us vs c d = all_both (λ (t : TypedType). AllByRecursion (λ (u : TypedType). u.name ≢ t.name) vs) ts us c d

-- ---- names

-- a name behind the path: the key of a procedure that is none of those before, and a stroke
pub record IsStem (path : List ℕ) (before : List Head) (n : List ℕ) : Type 0 where
  pub key : List ℕ
  pub rest : List ℕ
  pub is : n ≡ path ++ (key ++ 47 ∷ rest)
  pub lacks : Lacks 47 key
  pub new : AllByRecursion (λ h. h.forward ≡ false → key ≡ key_of h → ⊥) before

pub record BlockIs (path : List ℕ) (ts : List TypedType) : Type 0 where
  pub differ : Differ ts
  pub behind : AllByRecursion (λ (t : TypedType). (r : List ℕ) × (t.name ≡ path ++ r)) ts

no_stroke : (k r : List ℕ) → IsInScope (k ++ 47 ∷ r) → ⊥
no_stroke [] r h = false≢true (sym h.0)
no_stroke (c ∷ k) r h = no_stroke k r h.1

-- none of the scope is behind a stroke
pub stem_apart : (path : List ℕ) (before : List Head) (n m : List ℕ) → IsWithin path n → IsStem path before m → n ≢ m
stem_apart path before n m w s e = no_stroke s.key s.rest (subst IsInScope (same_behind path w.rest (s.key ++ 47 ∷ s.rest) (sym w.is ∙ e ∙ s.is)) w.scope)

-- those of procedures of different keys differ
stems_apart : (path key r : List ℕ) (before : List Head) (h : Head) (n m : List ℕ) → key_of h ≡ key → Lacks 47 key → h.forward ≡ false → n ≡ path ++ (key ++ 47 ∷ r) → IsStem path (h ∷ before) m → n ≢ m
stems_apart path key r before h n m k l f i s e =
    s.new.0 f (sym (keys_agree key s.key (47 ∷ r) (47 ∷ s.rest) l s.lacks refl refl (same_behind path (key ++ 47 ∷ r) (s.key ++ 47 ∷ s.rest) (sym i ∙ e ∙ s.is))) ∙ sym k)

fewer : (path : List ℕ) (before : List Head) (h : Head) (n : List ℕ) → IsStem path (h ∷ before) n → IsStem path before n
fewer path before h n s = record { key = s.key; rest = s.rest; is = s.is; lacks = s.lacks; new = s.new.1 }

-- ---- the types of procedures

-- those inside a procedure
abbrev pub inner_types : Bool → Around → Written_procedure → Head → List TypedType
inner_types true u p h = []
inner_types false u p h = (p.inside (around_body u h)).contents.types

judged_types : (u : Around) (p : Written_procedure) (h : Head) (f : Bool) → (procedure_judged u p h f).contents.types ≡ types_of_head h.parameters ++ inner_types f u p h
judged_types u p h true = sym (append-nil (types_of_head h.parameters))
judged_types u p h false = refl

abbrev pub AreInside : Around → List Written_procedure → List Head → Type 0
AreInside u (p ∷ ps) (h ∷ hs) = BlockIs (h.path ++ codes "/") (inner_types p.forward u p h) × AreInside u ps hs
AreInside u ps hs = Unit {0}

-- a name inside the procedure
abbrev IsInner : Head → TypedType → Type 0
IsInner h t = (r : List ℕ) × (t.name ≡ (h.path ++ codes "/") ++ r)

module _ (path : List ℕ) (before : List Head) (h : Head) (stands : Stands path before h) where
  inner_stem : (t : TypedType) → IsInner h t → IsStem path before t.name
  inner_stem t b = record { key = key_of h; rest = b.0; is = inner_is path (key_of h) h.path t.name b.0 stands.path_is b.1; lacks = stands.lacks; new = stands.new }

  -- those of the heading, and those inside
  heading_inner : (ts us : List TypedType) → AllByRecursion (λ (t : TypedType). IsWithin path t.name) ts → AllByRecursion (IsInner h) us → AreUnlike ts us
  heading_inner [] us w b = tt
  heading_inner (t ∷ ts) us w b = (all_from (IsInner h) (λ (y : TypedType). y.name ≢ t.name) (λ y i e. stem_apart path before t.name y.name w.0 (inner_stem y i) (sym e)) us b, heading_inner ts us w.1 b)

module _ (u : Around) (path : List ℕ) where
  -- what is so of the types of headings, and of all that have a stroke, is so of all types of procedures
  pub covered : (Q : TypedType → Type 0) (before : List Head) (ps : List Written_procedure) (hs : List Head) → AllStand path before ps hs → AreInside u ps hs → AllByRecursion Q (types_of_heads hs) → ((t : TypedType) → IsStem path before t.name → Q t) → AllByRecursion Q (procedures_judged u ps hs).contents.types
  covered Q before [] [] stand inside heads stems = tt
  covered Q before [] (h ∷ hs) stand inside heads stems = absurd stand
  covered Q before (p ∷ ps) [] stand inside heads stems = absurd stand
  covered Q before (p ∷ ps) (h ∷ hs) stand inside heads stems =
      let mine = types_of_head h.parameters in
      let theirs = inner_types p.forward u p h in
      all_both Q (procedure_judged u p h p.forward).contents.types (procedures_judged u ps hs).contents.types
      (subst (λ ts. AllByRecursion Q ts) (sym (judged_types u p h p.forward)) (all_both Q mine theirs (all_front Q mine (types_of_heads hs) heads)
      (all_from (IsInner h) Q (λ t b. stems t (inner_stem path before h stand.0.1 t b)) theirs inside.0.behind)))
      (covered Q (h ∷ before) ps hs stand.1 inside.1 (all_back Q mine (types_of_heads hs) heads) (λ t s. stems t (fewer path before h t.name s)))

  -- those of a heading and those of the procedures behind it
  pub heading_rest : (before : List Head) (ps : List Written_procedure) (hs : List Head) → AllStand path before ps hs → AreInside u ps hs → (ts : List TypedType) → AllByRecursion (λ (t : TypedType). IsWithin path t.name) ts → AreUnlike ts (types_of_heads hs) → AreUnlike ts (procedures_judged u ps hs).contents.types
  heading_rest before ps hs stand inside [] w c = tt
  heading_rest before ps hs stand inside (t ∷ ts) w c = (covered (λ (y : TypedType). y.name ≢ t.name) before ps hs stand inside c.0 (λ y s e. stem_apart path before t.name y.name w.0 s (sym e)), heading_rest before ps hs stand inside ts w.1 c.1)

  -- those inside a procedure and those of the procedures behind it
  inner_rest : (before : List Head) (h : Head) → Stands path before h → h.forward ≡ false → (ps : List Written_procedure) (hs : List Head) → AllStand path (h ∷ before) ps hs → AreInside u ps hs → AllByRecursion (λ (t : TypedType). IsWithin path t.name) (types_of_heads hs) → (ts : List TypedType) → AllByRecursion (IsInner h) ts → AreUnlike ts (procedures_judged u ps hs).contents.types
  inner_rest before h stands f ps hs stand inside w [] b = tt
  inner_rest before h stands f ps hs stand inside w (t ∷ ts) b = (
    covered (λ (y : TypedType). y.name ≢ t.name) (h ∷ before) ps hs stand inside
        (all_from (λ (y : TypedType). IsWithin path y.name) (λ (y : TypedType). y.name ≢ t.name) (λ y i. stem_apart path before y.name t.name i (inner_stem path before h stands t b.0)) (types_of_heads hs) w)
        (λ y s e. stems_apart path (key_of h) b.0.0 before h t.name y.name refl stands.lacks f (inner_is path (key_of h) h.path t.name b.0.0 stands.path_is b.0.1) s (sym e)),
    inner_rest before h stands f ps hs stand inside w ts b.1,
  )

  inner_by : (before : List Head) (p : Written_procedure) (h : Head) → Stands path before h → (f : Bool) → h.forward ≡ f → (ps : List Written_procedure) (hs : List Head) → AllStand path (h ∷ before) ps hs → AreInside u ps hs → AllByRecursion (λ (t : TypedType). IsWithin path t.name) (types_of_heads hs) → AllByRecursion (IsInner h) (inner_types f u p h) → AreUnlike (inner_types f u p h) (procedures_judged u ps hs).contents.types
  inner_by before p h stands true f ps hs stand inside w b = tt
  inner_by before p h stands false f ps hs stand inside w b = inner_rest before h stands f ps hs stand inside w (inner_types false u p h) b

  -- THE TYPES OF PROCEDURES DIFFER
  pub procedures_unlike : (before : List Head) (ps : List Written_procedure) (hs : List Head) → AllStand path before ps hs → AreInside u ps hs → Differ (types_of_heads hs) → AllByRecursion (λ (t : TypedType). IsWithin path t.name) (types_of_heads hs) → Differ (procedures_judged u ps hs).contents.types
  procedures_unlike before [] [] stand inside d w = tt
  procedures_unlike before [] (h ∷ hs) stand inside d w = absurd stand
  procedures_unlike before (p ∷ ps) [] stand inside d w = absurd stand
  procedures_unlike before (p ∷ ps) (h ∷ hs) stand inside d w =
      let mine = types_of_head h.parameters in
      let theirs = inner_types p.forward u p h in
      let others = types_of_heads hs in
      let rest = (procedures_judged u ps hs).contents.types in
      let here = all_front (λ (t : TypedType). IsWithin path t.name) mine others w in
      let there = all_back (λ (t : TypedType). IsWithin path t.name) mine others w in
      subst (λ ts. Differ (ts ++ rest)) (sym (judged_types u p h p.forward))
      (differ_join (mine ++ theirs) rest
      (differ_join mine theirs (differ_front mine others d) inside.0.differ (heading_inner path before h stand.0.1 mine theirs here inside.0.behind))
      (procedures_unlike (h ∷ before) ps hs stand.1 inside.1 (differ_back mine others d) there)
      (unlike_join mine theirs rest (heading_rest (h ∷ before) ps hs stand.1 inside.1 mine here (differ_cross mine others d)) (inner_by before p h stand.0.1 p.forward (sym stand.0.0) ps hs stand.1 inside.1 there inside.0.behind)))
