-- Procedures in their order, blocks and modules: no two names of procedures are the same.
use Rattle.std.proofs.Common.{◌≡◌, ℕ, Bool, true, false, List, [], ◌∷◌, ◌++◌, map, Option, Some, None, refl, sym, ap, subst, ◌∙◌, codes, append_assoc, append-nil}
use Rattle.std.specs.Prelude.{◌==◌}
use Rattle.std.specs.List.{AllByRecursion}
use Rattle.std.proofs.lemmas.Bool.{false≢true}
use Rattle.ob_types.specs.declared.typed.TypedProcedure.{TypedProcedure}
use Rattle.ob_rules.specs.Judged.{joined}
use Rattle.ob_rules.specs.Shapes.{Map}
use Rattle.ob_rules.specs.Names.{Around, map_of}
use Rattle.ob_rules.specs.Types.{Parameters, is_module_level, with_types, nothing}
use Rattle.ob_rules.specs.Headings.{BoundAs, Head, Heads, head_of, path_by, name_twice, declared_head, knows_procedure, known_behind, types_of, add_heading, reversed}
use Rattle.ob_rules.specs.Declarations.{Contents, with_part, Written_procedure, headings_in_order, around_body, typed_procedure, procedure_judged, procedures_judged, closing_judged}
use Rattle.law_names_procedures.specs.Procedures.{ShowBases}
use Rattle.law_names_procedures.proofs.Judges.{Has, not_empty, has_more}
use Rattle.law_names_procedures.proofs.Knowing.{IsKnown, AreKnown}
use Rattle.law_names_procedures.proofs.Points.{Points}
use Rattle.law_names_procedures.proofs.Typings.{AreWellSections}
use Rattle.law_names_procedures.proofs.Headings.{IsHead, IsOwner, head_good}
use Rattle.law_names_procedures.proofs.Sequences.{key_of, GoodHeads, keys_differ, types_pointed, typed_good, added, not_twice}
use Rattle.law_names_procedures.proofs.Apart.{Lacks, IsPlain, IsRest, keys_agree, dotted, AreApart, apart_both}
use Rattle.law_lists.proofs.Lists.{IfThere, all_both, all_from, back_empty, front_empty, same_behind}

abbrev pub names_of : List TypedProcedure → List (List ℕ)
names_of ps = map (λ p. p.name) ps

names_join : (xs ys : List TypedProcedure) → names_of (xs ++ ys) ≡ names_of xs ++ names_of ys
names_join [] ys = refl
names_join (x ∷ xs) ys = ap (λ ns. x.name ∷ ns) (names_join xs ys)

-- ---- names behind a path

-- a name behind the path: a key that no heading before has, and what stands in it
pub record IsStem (path : List ℕ) (before : List Head) (n : List ℕ) : Type 0 where
  pub key : List ℕ
  pub rest : List ℕ
  pub is : n ≡ path ++ (key ++ rest)
  pub lacks : Lacks 47 key
  pub begins : IsRest rest
  pub new : AllByRecursion (λ h. h.forward ≡ false → key ≡ key_of h → ⊥) before

pub record SequenceIs (path : List ℕ) (before : List Head) (ps : List TypedProcedure) : Type 0 where
  pub apart : AreApart (names_of ps)
  pub stems : AllByRecursion (IsStem path before) (names_of ps)

pub record BlockIs (path : List ℕ) (ps : List TypedProcedure) : Type 0 where
  pub apart : AreApart (names_of ps)
  pub behind : AllByRecursion (λ n. (r : List ℕ) × (n ≡ path ++ r)) (names_of ps)

-- ---- procedures

-- where a block begins: at module level no type is declared yet
abbrev pub Begins : Around → Type 0
Begins u = is_module_level u ≡ true → (u.own ≡ []) × ShowBases u.shown u.unit

pub record GoodProcedure (p : Written_procedure) : Type 0 where
  pub heading : AreWellSections p.heading.parameters.sections
  pub plain : IsPlain p.heading.name.ident.name
  pub inside : (u : Around) → AreKnown u.known → Begins u → (p.inside u).notes.broken ≡ [] → BlockIs u.path (p.inside u).contents.procedures

abbrev pub AreGoodProcedures : List Written_procedure → Type 0
AreGoodProcedures ps = AllByRecursion GoodProcedure ps

-- the headings of procedures, in the order of the text
unfoldable pub heads_of : List Written_procedure → Heads → List Head
heads_of [] hs = []
heads_of (p ∷ ps) hs =
    let d = head_of hs.around p.heading p.forward in
    let v = with_types hs.around (types_of d.parameters) in
    let t = name_twice v hs.before d in
    declared_head t d (known_behind v t d) ∷ heads_of ps (add_heading hs p.heading p.forward)

pub heads_are : (ps : List Written_procedure) (hs : Heads) → reversed (headings_in_order ps hs).before ≡ reversed hs.before ++ heads_of ps hs
unfolding heads_of
heads_are [] hs = sym (append-nil (reversed hs.before))
heads_are (p ∷ ps) hs =
    let next = add_heading hs p.heading p.forward in
    let d = head_of hs.around p.heading p.forward in
    let v = with_types hs.around (types_of d.parameters) in
    let t = name_twice v hs.before d in
    heads_are ps next ∙ append_assoc (reversed hs.before) (declared_head t d (known_behind v t d) ∷ []) (heads_of ps next)

lacks_join : (o x : List ℕ) → Lacks 47 o → Lacks 47 x → Lacks 47 (o ++ 46 ∷ x)
lacks_join o x h k = all_both (λ b. b ≡ 47 → ⊥) o (46 ∷ x) h ((λ e. false≢true (ap (λ n. n == 47) e)), k)

pub key_lacks : (b : Option BoundAs) (x : List ℕ) → IfThere IsOwner b → IsPlain x → Lacks 47 (path_by (Some b) x)
key_lacks None x h p = p.1
key_lacks (Some b) x h p = subst (Lacks 47) (sym (dotted b x)) (lacks_join b.owner.object x h p.1)

pub no_level : (x : List ℕ) → nothing (x ++ codes "/") ≡ false
no_level [] = refl
no_level (c ∷ x) = refl

stays_out : (x r : List ℕ) → x ≡ (x ++ codes "/") ++ r → ⊥
stays_out x r e =
    let k : [] ≡ 47 ∷ r = same_behind x [] (47 ∷ r) (append-nil x ∙ (e ∙ append_assoc x (codes "/") r)) in
    not_empty 47 r (sym k)

pub inner_is : (path key h n r : List ℕ) → h ≡ path ++ key → n ≡ (h ++ codes "/") ++ r → n ≡ path ++ (key ++ 47 ∷ r)
inner_is path key h n r e f = f ∙ append_assoc h (codes "/") r ∙ ap (λ x. x ++ 47 ∷ r) e ∙ append_assoc path key (47 ∷ r)

module _ (path : List ℕ) (before : List Head) (h : Head) (is : h.path ≡ path ++ key_of h) (lacks : Lacks 47 (key_of h)) (new : AllByRecursion (λ k. k.forward ≡ false → key_of h ≡ key_of k → ⊥) before) where
  own_stem : IsStem path before h.path
  own_stem = record { key = key_of h; rest = []; is = is ∙ ap (λ x. path ++ x) (sym (append-nil (key_of h))); lacks = lacks; begins = tt; new = new }

  inner_stem : (n r : List ℕ) → n ≡ (h.path ++ codes "/") ++ r → IsStem path before n
  inner_stem n r e = record { key = key_of h; rest = 47 ∷ r; is = inner_is path (key_of h) h.path n r is e; lacks = lacks; begins = refl; new = new }

  -- all names of the group have the key of the heading
  abbrev IsOfGroup : List ℕ → Type 0
  IsOfGroup n = (r : List ℕ) × (n ≡ path ++ (key_of h ++ r)) × IsRest r

  group_stem : (n : List ℕ) → IsOfGroup n → IsStem path before n
  group_stem n g = record { key = key_of h; rest = g.0; is = g.1; lacks = lacks; begins = g.2; new = new }

  own_group : IsOfGroup h.path
  own_group = ([], is ∙ ap (λ x. path ++ x) (sym (append-nil (key_of h))), tt)

  inner_group : (n : List ℕ) → (r : List ℕ) × (n ≡ (h.path ++ codes "/") ++ r) → IsOfGroup n
  inner_group n g = (47 ∷ g.0, inner_is path (key_of h) h.path n g.0 is g.1, refl)

  group_apart : (n m : List ℕ) → IsOfGroup n → h.forward ≡ false → IsStem path (h ∷ before) m → n ≡ m → ⊥
  group_apart n m g f s e =
      let k : key_of h ++ g.0 ≡ s.key ++ s.rest = same_behind path (key_of h ++ g.0) (s.key ++ s.rest) (sym g.1 ∙ (e ∙ s.is)) in
      s.new.0 f (sym (keys_agree (key_of h) s.key g.0 s.rest lacks s.lacks g.2 s.begins k))

  -- the group of a procedure: itself, and those inside
  typed_group : (map : Map) (o : Option Parameters) (c : Contents) → BlockIs (h.path ++ codes "/") c.procedures → AreApart (names_of (typed_procedure map h o c ++ c.procedures)) × AllByRecursion IsOfGroup (names_of (typed_procedure map h o c ++ c.procedures))
  typed_group map None c b = (b.apart, all_from (λ n. (r : List ℕ) × (n ≡ (h.path ++ codes "/") ++ r)) IsOfGroup inner_group (names_of c.procedures) b.behind)
  typed_group map (Some p) c b = (
    (all_from (λ n. (r : List ℕ) × (n ≡ (h.path ++ codes "/") ++ r)) (λ n. h.path ≡ n → ⊥) (λ n g e. stays_out h.path g.0 (e ∙ g.1)) (names_of c.procedures) b.behind, b.apart),
    (own_group, all_from (λ n. (r : List ℕ) × (n ≡ (h.path ++ codes "/") ++ r)) IsOfGroup inner_group (names_of c.procedures) b.behind),
  )

fewer : (path : List ℕ) (before : List Head) (h : Head) (n : List ℕ) → IsStem path (h ∷ before) n → IsStem path before n
fewer path before h n s = record { key = s.key; rest = s.rest; is = s.is; lacks = s.lacks; begins = s.begins; new = s.new.1 }

all_fewer : (path : List ℕ) (before : List Head) (h : Head) (ns : List (List ℕ)) → AllByRecursion (IsStem path (h ∷ before)) ns → AllByRecursion (IsStem path before) ns
all_fewer path before h ns k = all_from (IsStem path (h ∷ before)) (IsStem path before) (fewer path before h) ns k

-- a procedure behind those before, and those behind it
grouped : (path : List ℕ) (before : List Head) (h : Head) → h.path ≡ path ++ key_of h → Lacks 47 (key_of h) → AllByRecursion (λ k. k.forward ≡ false → key_of h ≡ key_of k → ⊥) before → h.forward ≡ false → (gs rest : List TypedProcedure) → AreApart (names_of gs) → AllByRecursion (λ n. (r : List ℕ) × (n ≡ path ++ (key_of h ++ r)) × IsRest r) (names_of gs) → SequenceIs path (h ∷ before) rest → SequenceIs path before (gs ++ rest)
grouped path before h is lacks new f gs rest a g s = record {
  apart = subst AreApart (sym (names_join gs rest)) (apart_both (names_of gs) (names_of rest) a s.apart
      (all_from (λ n. (r : List ℕ) × (n ≡ path ++ (key_of h ++ r)) × IsRest r) (λ n. AllByRecursion (λ m. n ≡ m → ⊥) (names_of rest))
      (λ n k. all_from (IsStem path (h ∷ before)) (λ m. n ≡ m → ⊥) (λ m t. group_apart path before h is lacks new n m k f t) (names_of rest) s.stems) (names_of gs) g));
  stems = subst (AllByRecursion (IsStem path before)) (sym (names_join gs rest)) (all_both (IsStem path before) (names_of gs) (names_of rest)
      (all_from (λ n. (r : List ℕ) × (n ≡ path ++ (key_of h ++ r)) × IsRest r) (IsStem path before) (group_stem path before h is lacks new) (names_of gs) g) (all_fewer path before h (names_of rest) s.stems));
}

pub head_notes : (U : Around) (p : Written_procedure) (h : Head) (f : Bool) → (procedure_judged U p h f).notes.broken ≡ [] → h.notes.broken ≡ []
head_notes U p h true e = e
head_notes U p h false e = front_empty h.notes.broken (joined (closing_judged h.name p.closing) (p.inside (around_body U h)).notes).broken e

inside_notes : (U : Around) (p : Written_procedure) (h : Head) → (procedure_judged U p h false).notes.broken ≡ [] → (p.inside (around_body U h)).notes.broken ≡ []
inside_notes U p h e = back_empty (closing_judged h.name p.closing).broken (p.inside (around_body U h)).notes.broken (back_empty h.notes.broken (joined (closing_judged h.name p.closing) (p.inside (around_body U h)).notes).broken e)

one_judged : (U : Around) (p : Written_procedure) → GoodProcedure p → (path : List ℕ) (before : List Head) (h : Head) → h.path ≡ path ++ key_of h → Lacks 47 (key_of h) → AllByRecursion (λ k. k.forward ≡ false → key_of h ≡ key_of k → ⊥) before → AreKnown (h.inside ++ h.known) → (f : Bool) → h.forward ≡ f → (procedure_judged U p h f).notes.broken ≡ [] → (rest : List TypedProcedure) → SequenceIs path (h ∷ before) rest → SequenceIs path before ((procedure_judged U p h f).contents.procedures ++ rest)
one_judged U p g path before h is lacks new k true w e rest s = record { apart = s.apart; stems = all_fewer path before h (names_of rest) s.stems }
one_judged U p g path before h is lacks new k false w e rest s =
    let c = (p.inside (around_body U h)).contents in
    let b : BlockIs (h.path ++ codes "/") c.procedures = g.inside (around_body U h) k (λ l. absurd (false≢true (sym (no_level h.path) ∙ l))) (inside_notes U p h e) in
    let t = typed_group path before h is lacks new (map_of U) h.parameters c b in
    grouped path before h is lacks new w (typed_procedure (map_of U) h h.parameters c ++ c.procedures) rest t.0 t.1 s

pub behind_path : (t : Bool) (v : Around) (d : Head) → (known_behind v t d).path ≡ v.path
behind_path true v d = refl
behind_path false v d = by d.is_bound
  where
    by : (b : Bool) → (knows_procedure v d b).path ≡ v.path
    by true = refl
    by false = refl

pub procedures_differ : (U : Around) (path : List ℕ) (ps : List Written_procedure) → AreGoodProcedures ps → (hs : Heads) → GoodHeads hs → hs.around.path ≡ path → (procedures_judged U ps (heads_of ps hs)).notes.broken ≡ [] → SequenceIs path hs.before (procedures_judged U ps (heads_of ps hs)).contents.procedures
unfolding heads_of
procedures_differ U path [] g hs k p e = record { apart = tt; stems = tt }
procedures_differ U path (x ∷ ps) g hs k p e =
    let d = head_of hs.around x.heading x.forward in
    let v = with_types hs.around (types_of d.parameters) in
    step (name_twice v hs.before d) refl (λ h next a b q f. procedures_differ U path ps g.1 (record { around = a; before = h ∷ hs.before }) b q f) e
  where
    step : (t : Bool) → name_twice (with_types hs.around (types_of (head_of hs.around x.heading x.forward).parameters)) hs.before (head_of hs.around x.heading x.forward) ≡ t →
        ((h : Head) (next : Unit {0}) (a : Around) → GoodHeads (record { around = a; before = h ∷ hs.before }) → a.path ≡ path → (procedures_judged U ps (heads_of ps (record { around = a; before = h ∷ hs.before }))).notes.broken ≡ [] → SequenceIs path (h ∷ hs.before) (procedures_judged U ps (heads_of ps (record { around = a; before = h ∷ hs.before }))).contents.procedures) →
        (let d = head_of hs.around x.heading x.forward in
        let v = with_types hs.around (types_of d.parameters) in
        let h = declared_head t d (known_behind v t d) in
        (with_part (procedure_judged U x h x.forward) (procedures_judged U ps (heads_of ps (record { around = known_behind v t d; before = h ∷ hs.before })))).notes.broken ≡ []) →
        (let d = head_of hs.around x.heading x.forward in
        let v = with_types hs.around (types_of d.parameters) in
        let h = declared_head t d (known_behind v t d) in
        SequenceIs path hs.before ((procedure_judged U x h x.forward).contents.procedures ++ (procedures_judged U ps (heads_of ps (record { around = known_behind v t d; before = h ∷ hs.before }))).contents.procedures))
    step true n more e =
        let d = head_of hs.around x.heading x.forward in
        let v = with_types hs.around (types_of d.parameters) in
        let h = declared_head true d (known_behind v true d) in
        let c = head_notes U x h x.forward (front_empty (procedure_judged U x h x.forward).notes.broken (procedures_judged U ps (heads_of ps (record { around = known_behind v true d; before = h ∷ hs.before }))).notes.broken e) in
        absurd (false≢true (sym (not_twice true d (known_behind v true d) c).0))
    step false n more e =
        let d = head_of hs.around x.heading x.forward in
        let v = with_types hs.around (types_of d.parameters) in
        let h = declared_head false d (known_behind v false d) in
        let mine = procedure_judged U x h x.forward in
        let theirs = procedures_judged U ps (heads_of ps (record { around = known_behind v false d; before = h ∷ hs.before })) in
        let a : mine.notes.broken ≡ [] = front_empty mine.notes.broken theirs.notes.broken e in
        let i : IsHead hs.around d = head_good hs.around x.heading x.forward g.0.heading g.0.plain k.known k.based (head_notes U x h x.forward a) in
        let typed : GoodHeads (record { around = v; before = hs.before }) = typed_good hs (types_of d.parameters) (types_pointed hs.around d.parameters i.parameters) k in
        let has : Has (λ p. Unit {0}) d.parameters = has_more (λ p. Points hs.around p.made) (λ p. Unit {0}) d.parameters (λ p h. tt) i.parameters in
        let next : GoodHeads (record { around = known_behind v false d; before = h ∷ hs.before }) = added (record { around = v; before = hs.before }) typed d i.plain has i.bound n h refl refl refl in
        let q : (known_behind v false d).path ≡ path = behind_path false v d ∙ p in
        let s = more h tt (known_behind v false d) next q (back_empty mine.notes.broken theirs.notes.broken e) in
        one_judged U x g.0 path hs.before h (i.path ∙ ap (λ z. z ++ key_of d) p) (key_lacks d.bound d.name i.owner i.plain) (keys_differ (record { around = v; before = hs.before }) typed d i.plain i.bound n) (all_both (λ k. IsKnown k.what) d.inside (known_behind v false d).known i.inside next.known) x.forward refl a theirs.contents.procedures s
