-- What builds that are loaded together show is closed, and keeps what types have to.
use Rattle.std.proofs.Common.{◌≡◌, ⊎_elim, inr, true, List, [], ◌∷◌, ◌++◌, map as each, Option, Some, None, refl, sym, ap, subst, ◌∙◌, append_assoc}
use Rattle.std.specs.Option.{option_map}
use Rattle.std.specs.List.{AllByRecursion}
use Rattle.ob_tree.specs.declared.names.QName.{QName}
use Rattle.ob_types.specs.declared.types.TypeRef.{TypeRef}
use Rattle.ob_types.specs.declared.types.TypeRef.TheVariants as ref
use Rattle.ob_types.specs.declared.desc.Desc.{Desc}
use Rattle.ob_types.specs.Maps.{is_type, named_by, IsHeld}
use Rattle.ob_types.specs.Relations.{Keeps}
use Rattle.ob_meaning.specs.Values.{description}
use Rattle.ob_env.specs.Faces.{described}
use Rattle.ob_env.specs.Shown.{blank, shown}
use Rattle.law_acyclic.specs.Steady.{IsClosed}
use Rattle.law_typing_env.specs.Near.{core}
use Rattle.law_typing_env.proofs.Keeping.{Says, core_bare}
use Rattle.law_typing_env.proofs.Ordered.{seen_bare, program_sound}
use Rattle.ob_builds.specs.Builds.{Build, shows_of}
use Rattle.ob_builds.specs.Afresh.{AreTogether}
use Rattle.ob_builds.specs.Written.{BuildsAreWritten}
use Rattle.law_program_runs.specs.Builds.{program_of, AreLoaded}
use Rattle.law_program_runs.proofs.Settings.{loaded_front}
use Rattle.law_builds_ruled.specs.ruled_laws.Ruled.{BuildsAreRuled}
use Rattle.law_builds_loaded.proofs.Shown.{builds_show}
use Rattle.law_builds_loaded.proofs.Loaded.{Before, before_more, none, in_order, kept_in}
use Rattle.law_builds_types.specs.closed_laws.Closed.{HeadsAreRuled, LoadedClosed}
use Rattle.law_builds_types.proofs.closed_laws.Heads.{heads_ruled}
use Rattle.law_builds_types.proofs.closed_laws.Objects.{IsTypeIn}
use Rattle.law_builds_types.proofs.closed_laws.Seen.{blank_type, blank_core, blank_named, keeps_blank, keeps_seen, keeps_smaller}
use Rattle.law_builds_types.proofs.closed_laws.Held.{AreHeld, held_next}
use Rattle.law_builds_types.proofs.closed_laws.Kept.{all_keep}
use Rattle.law_lists.proofs.Lists.{all_from}

pub append_none : (xs : List Build) → xs ++ [] ≡ xs
append_none [] = refl
append_none (y ∷ ys) = ap (λ r. y ∷ r) (append_none ys)

-- what is shown of a name
record Told (bs : List Build) (q : QName) (d : Desc) : Type 0 where
  e : Desc
  of : described (each shows_of bs) q ≡ Some e
  is : blank e ≡ d

told : (bs : List Build) (q : QName) (d : Desc) → shown (each shows_of bs) q ≡ Some d → Told bs q d
told bs q d h = by (described (each shows_of bs) q) refl h
  where
    by : (o : Option Desc) → described (each shows_of bs) q ≡ o → option_map blank o ≡ Some d → Told bs q d
    by None e h = absurd cc
    by (Some x) e h = record { e = x; of = e; is = let k : blank x ≡ d = cc in k }

blank_in : (o : Option Desc) → IsTypeIn o → IsTypeIn (option_map blank o)
blank_in None h = h
blank_in (Some d) h = blank_type d ∙ h

module _ (written : BuildsAreWritten) (ruled : BuildsAreRuled) (heads : HeadsAreRuled) where
  -- the builds in their order
  record Walked (bs : List Build) : Type 0 where
    before : Before bs
    held : AreHeld bs

  walk : (done bs : List Build) → Walked done → AreTogether done bs → Walked (done ++ bs)
  walk done [] w h = subst Walked (sym (append_none done)) w
  walk done (b ∷ bs) w h =
      subst Walked (append_assoc done (b ∷ []) bs)
      (walk (done ++ b ∷ []) bs (record { before = before_more written ruled done b w.before h.0; held = held_next written ruled heads done b w.before h.0 w.held }) h.1)

  walked : (bs : List Build) → AreTogether [] bs → Walked bs
  walked bs h = walk [] bs (record { before = none written ruled; held = λ q d e. absurd cc }) h

  module _ (bs : List Build) (l : AreLoaded bs) where
    abbrev S : QName → Option Desc
    S = shown (each shows_of bs)

    abbrev P : QName → Option Desc
    P = description (program_of bs)

    held_shown : (t : TypeRef) → IsHeld (described (each shows_of bs)) t → IsHeld S t
    held_shown (ref.Basic b) h = tt
    held_shown (ref.Named q) h = blank_in (described (each shows_of bs) q) h

    held : (q : QName) (d : Desc) → S q ≡ Some d → AllByRecursion (λ t. IsHeld S t) (named_by d)
    held q d e =
        let t = told bs q d e in
        subst (λ x. AllByRecursion (λ t. IsHeld S t) (named_by x)) t.is
        (subst (AllByRecursion (λ t. IsHeld S t)) (sym (blank_named t.e)) (all_from (λ t. IsHeld (described (each shows_of bs)) t) (λ t. IsHeld S t) held_shown (named_by t.e) ((walked bs l.together).held q t.e t.of)))

    says : (q : QName) (d : Desc) → S q ≡ Some d → is_type d ≡ true → (e : Desc) × ((P q ≡ Some e) × Says e d)
    says q d h ty =
        let t = told bs q d h in
        let s = builds_show bs (walked bs l.together).before.showing q t.e t.of (sym (blank_type t.e) ∙ ap is_type t.is ∙ ty) in
        (s.0, (s.1.0, inr (sym (core_bare s.0) ∙ ap core (seen_bare s.0 t.e s.1.1) ∙ core_bare t.e ∙ sym (blank_core t.e) ∙ ap core t.is)))

    -- by the program it keeps what it has to
    kept : (q : QName) (d : Desc) → described (each shows_of bs) q ≡ Some d → Keeps P d
    kept q d e = ⊎_elim
        (λ ty.
        let s = builds_show bs (walked bs l.together).before.showing q d e ty in
        subst (Keeps P) s.1.1 (keeps_seen P s.0 ((program_sound (program_of bs) (in_order written ruled bs l.together)).keeps q s.0 s.1.0)))
        (λ k. k)
        (all_keep written ruled heads [] bs (none written ruled) l.together (program_of bs) refl (kept_in written ruled bs l.together).closed q d e)

    closed : IsClosed S
    closed = record {
      held = held;
      keeps = λ q d e. let t = told bs q d e in keeps_smaller S P says held d (held q d e) (subst (Keeps P) t.is (keeps_blank P t.e (kept q t.e t.of)));
    }

pub loaded_closed : LoadedClosed
loaded_closed written ruled =
    let heads : HeadsAreRuled = heads_ruled ruled in
    record { all = closed written ruled heads; front = λ before b after l. closed written ruled heads before (loaded_front before (b ∷ after) l) }
