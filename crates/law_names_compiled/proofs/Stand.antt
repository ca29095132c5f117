-- The headings of a sequence that keeps the rules: their keys are of its scope, and no two procedures have one.
use Rattle.std.proofs.Common.{◌≡◌, ℕ, Bool, true, false, List, [], ◌∷◌, ◌++◌, refl, sym, ap, ◌∙◌}
use Rattle.std.specs.List.{AllByRecursion}
use Rattle.std.proofs.lemmas.Bool.{false≢true}
use Rattle.ob_rules.specs.Names.{Around}
use Rattle.ob_rules.specs.Types.{with_types}
use Rattle.ob_rules.specs.Headings.{Head, Heads, head_of, name_twice, declared_head, known_behind, types_of}
use Rattle.ob_rules.specs.Declarations.{Written_procedure}
use Rattle.law_names_distinct.specs.Parts.{is_mark, IsWord}
use Rattle.law_names_types.specs.Once.{AreQuiet}
use Rattle.law_names_procedures.proofs.Judges.{Has, has_more}
use Rattle.law_names_procedures.proofs.Knowing.{IsKnown, AreKnown}
use Rattle.law_names_procedures.proofs.Points.{Points}
use Rattle.law_names_procedures.proofs.Typings.{AreWellSections}
use Rattle.law_names_procedures.proofs.Headings.{IsHead, head_good}
use Rattle.law_names_procedures.proofs.Sequences.{key_of, GoodHeads, keys_differ, types_pointed, typed_good, added, not_twice}
use Rattle.law_names_procedures.proofs.Apart.{Lacks, IsPlain}
use Rattle.law_names_procedures.proofs.Blocks.{heads_of, key_lacks, behind_path}
use Rattle.law_lists.proofs.Lists.{all_both, all_from}

-- ---- keys

-- neither a stop nor a stroke stands in a word
pub word_plain : (x : List ℕ) → IsWord x → IsPlain x
word_plain x h = (all_from (λ c. is_mark c ≡ false) (λ b. b ≡ 46 → ⊥) (λ c m e. false≢true (sym m ∙ ap is_mark e)) x h, all_from (λ c. is_mark c ≡ false) (λ b. b ≡ 47 → ⊥) (λ c m e. false≢true (sym m ∙ ap is_mark e)) x h)

-- a heading behind those before, the latest first
pub record Stands (path : List ℕ) (before : List Head) (h : Head) : Type 0 where
  pub path_is : h.path ≡ path ++ key_of h
  pub lacks : Lacks 47 (key_of h)
  pub new : AllByRecursion (λ k. k.forward ≡ false → key_of h ≡ key_of k → ⊥) before
  pub known : AreKnown (h.inside ++ h.known)

-- procedures, and their headings
abbrev pub AllStand : List ℕ → List Head → List Written_procedure → List Head → Type 0
AllStand path before [] [] = Unit {0}
AllStand path before [] (h ∷ hs) = ⊥
AllStand path before (p ∷ ps) [] = ⊥
AllStand path before (p ∷ ps) (h ∷ hs) = ((p.forward ≡ h.forward) × Stands path before h) × AllStand path (h ∷ before) ps hs

pub record IsWellHeading (p : Written_procedure) : Type 0 where
  pub sections : AreWellSections p.heading.parameters.sections
  pub plain : IsPlain p.heading.name.ident.name

module _ (path : List ℕ) (x : Written_procedure) (ps : List Written_procedure) (well : IsWellHeading x) (hs : Heads) (g : GoodHeads hs) (p : hs.around.path ≡ path) where
  abbrev d : Head
  d = head_of hs.around x.heading x.forward

  abbrev v : Around
  v = with_types hs.around (types_of d.parameters)

  one_stands : (t : Bool) → name_twice v hs.before d ≡ t
      → ((a : Around) (h : Head) → GoodHeads (record { around = a; before = h ∷ hs.before }) → a.path ≡ path → AreQuiet (heads_of ps (record { around = a; before = h ∷ hs.before })) → AllStand path (h ∷ hs.before) ps (heads_of ps (record { around = a; before = h ∷ hs.before })))
      → AreQuiet (declared_head t d (known_behind v t d) ∷ heads_of ps (record { around = known_behind v t d; before = declared_head t d (known_behind v t d) ∷ hs.before }))
      → AllStand path hs.before (x ∷ ps) (declared_head t d (known_behind v t d) ∷ heads_of ps (record { around = known_behind v t d; before = declared_head t d (known_behind v t d) ∷ hs.before }))
  one_stands true n more q = absurd (false≢true (sym (not_twice true d (known_behind v true d) q.0).0))
  one_stands false n more q =
      let h = declared_head false d (known_behind v false d) in
      let i : IsHead hs.around d = head_good hs.around x.heading x.forward well.sections well.plain g.known g.based q.0 in
      let typed : GoodHeads (record { around = v; before = hs.before }) = typed_good hs (types_of d.parameters) (types_pointed hs.around d.parameters i.parameters) g in
      let has : Has (λ p. Unit {0}) d.parameters = has_more (λ p. Points hs.around p.made) (λ p. Unit {0}) d.parameters (λ p h. tt) i.parameters in
      let next : GoodHeads (record { around = known_behind v false d; before = h ∷ hs.before }) = added (record { around = v; before = hs.before }) typed d i.plain has i.bound n h refl refl refl in (
        (
          refl,
          record {
            path_is = i.path ∙ ap (λ z. z ++ key_of d) p;
            lacks = key_lacks d.bound d.name i.owner i.plain;
            new = keys_differ (record { around = v; before = hs.before }) typed d i.plain i.bound n;
            known = all_both (λ k. IsKnown k.what) d.inside (known_behind v false d).known i.inside next.known;
          },
        ),
        more (known_behind v false d) h next (behind_path false v d ∙ p) q.1,
      )

pub heads_stand : (path : List ℕ) (ps : List Written_procedure) → AllByRecursion IsWellHeading ps → (hs : Heads) → GoodHeads hs → hs.around.path ≡ path → AreQuiet (heads_of ps hs) → AllStand path hs.before ps (heads_of ps hs)
unfolding heads_of
heads_stand path [] w hs g p q = tt
heads_stand path (x ∷ ps) w hs g p q = one_stands path x ps w.0 hs g p (name_twice (with_types hs.around (types_of (head_of hs.around x.heading x.forward).parameters)) hs.before (head_of hs.around x.heading x.forward)) refl (λ a h b i r. heads_stand path ps w.1 (record { around = a; before = h ∷ hs.before }) b i r) q
