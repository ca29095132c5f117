-- What a load is told of valid builds.
use Rattle.std.proofs.Common.{◌≡◌, ℕ, ◌≤◌, List, [], ◌∷◌, map, length, Bool, true, false, cond, not, refl, sym, ap, ◌∙◌, subst, Option, Some, None}
use Rattle.std.specs.Prelude.{nat_le, bytes_eq, Contains}
use Rattle.std.specs.List.{AllByRecursion}
use Rattle.std.proofs.lemmas.Bool.{false≢true, leb-true}
use Rattle.ob_tree.specs.declared.which.Which.{Which}
use Rattle.ob_tree.specs.declared.names.QName.{QName}
use Rattle.ob_types.specs.declared.face.Aspect.{Aspect}
use Rattle.ob_fprint.specs.Print.{print_from}
use Rattle.ob_layout.specs.LaidOut.{viewed}
use Rattle.ob_layout.specs.Room.{above, first_of, first_limit, limits, globals_words}
use Rattle.ob_env.specs.Faces.{Wanted, described, text_in}
use Rattle.ob_uses.specs.Made.{face_of_laid}
use Rattle.ob_link.specs.Walk as walk
use Rattle.ob_link.specs.Walk.{first_of as first_refusal}
use Rattle.ob_link.specs.Plan.{Asks, most_globals, named, kept_by, present, use_against, use_fails}
use Rattle.ob_link.specs.Files as files
use Rattle.ob_compile_model.specs.Compiling.{Compiled, texts, or_first, limit_of_operands, exceeds, exports_of, interface_by}
use Rattle.law_load_plan.specs.Alike.{FindsAlike, UsesFindAlike, AreAskedAlike}
use Rattle.ob_types.specs.Maps.{is_type}
use Rattle.law_load_plan.specs.Compiled.{IsKnown, AreLinksUsed, AreProceduresNamed, asks_by}
use Rattle.law_load_plan.specs.Laws.{IsMarked}
use Rattle.law_load_plan.proofs.Checked.{compiled_marked}
use Rattle.law_load_plan.proofs.Fitting.{names_spelled}
use Rattle.law_load_plan.proofs.Instance.{compiled_alike}
use Rattle.law_load_plan.proofs.Links.{links_named}
use Rattle.ob_builds.specs.Builds.{Text, Build, IsValid, of, shows_of, name_of, file_of, asks}
use Rattle.ob_builds.specs.Written.{BuildsAreWritten}
use Rattle.ob_shell_model.specs.OneAge.{OfBuilds, AreToldApart}
use Rattle.law_builds.proofs.Compiled.{Comes, comes}
use Rattle.law_builds.proofs.Faces.{of_is}
use Rattle.law_builds.proofs.Members.{has_head, has_more}
use Rattle.law_lists.proofs.Lists.{same_bytes}
use Rattle.law_session.proofs.Checked.{agree_same}
use Rattle.law_builds.specs.Linked.{BuildsAreLinked}
use Rattle.law_builds.proofs.Apart.{build_apart}
use Rattle.law_names_procedures.specs.Named.{AreNamedApart}

-- ROOM

either_none : {A : Type 0} (a b : Option A) → or_first a b ≡ None → a ≡ None
either_none None b e = refl
either_none (Some x) b e = absurd cc

none_exceeded : (ws : List (Which × Bool)) → first_of ws ≡ None → AllByRecursion (λ (x : Which × Bool). x.1 ≡ false) ws
none_exceeded [] e = tt
none_exceeded ((w, true) ∷ ws) e = absurd cc
none_exceeded ((w, false) ∷ ws) e = (refl, none_exceeded ws e)

not_above : (limit n : ℕ) → above limit n ≡ false → n ≤ limit
not_above limit n e = leb-true n limit (turned (nat_le n limit) e)
  where
    turned : (b : Bool) → not b ≡ false → b ≡ true
    turned true h = refl
    turned false h = absurd (false≢true (sym h))

has_room : (c : Compiled Text) → exceeds texts c ≡ None → globals_words (viewed (described c.against) c.tree) c.tree ≤ most_globals
has_room c e =
    let a : first_limit (viewed (described c.against) c.tree) c.tree (length c.shows.objects) ≡ None = either_none (first_limit (viewed (described c.against) c.tree) c.tree (length c.shows.objects)) (limit_of_operands texts c) e in
    let all = none_exceeded (limits (viewed (described c.against) c.tree) c.tree (length c.shows.objects)) a in
    not_above most_globals (globals_words (viewed (described c.against) c.tree) c.tree) all.1.1.1.0

-- all of a list
pub all_there : {A : Type 0} (P : A → Type 0) (xs : List A) → ((x : A) → Contains xs x → P x) → AllByRecursion P xs
all_there P [] h = tt
all_there P (x ∷ xs) h = (h x (has_head x xs), all_there P xs (λ y c. h y (has_more x xs y c)))

-- A BUILD

-- nothing is asked of texts
abbrev AnyText : Text → Type 0
AnyText t = Unit {0}

any_kept : (us : List (Wanted Text)) → AllByRecursion (λ u. AnyText u.kept) us
any_kept [] = tt
any_kept (u ∷ us) = (tt, any_kept us)

known : BuildsAreWritten → (b : Build) (c : Compiled Text) → IsValid b c → IsKnown AnyText (of b)
known written b c v =
    let o : of b ≡ c = of_is b c v in
    let h : Comes texts c = comes texts _ (Some b.source) c v.is in
    let s : AreNamedApart c = build_apart b c v in
    let m : IsMarked c = compiled_marked _ (Some b.source) c v.is in
    let spelled = names_spelled (viewed (described c.against) c.tree) c.tree (exports_of (interface_by texts c)) (interface_by texts c).uses s.procedures (written b c v).object in
    record {
      shows = subst (λ (x : Compiled Text). x.shows ≡ face_of_laid (text_in x.against) x.against x.tree) (sym (o ∙ h.is)) refl;
      room = subst (λ (x : Compiled Text). globals_words (viewed (described x.against) x.tree) x.tree ≤ most_globals) (sym o) (has_room c h.limits);
      procedures = subst (λ (x : Compiled Text). AreProceduresNamed x.tree.procedures) (sym o) (record { names = s.procedures; identifiers = spelled; marks = m.marks });
      types = subst (λ (x : Compiled Text). AllByRecursion (λ t. is_type t.desc ≡ true) x.tree.types) (sym o) m.types;
      has = λ name aspect t e. tt;
      uses = any_kept (shows_of b).uses;
    }

-- a build that a load may meet
pub record IsFit (IsMet : Build → Type 0) (b : Build) : Type 0 where
  pub known : IsKnown AnyText (of b)
  pub valid : (c : Compiled Text) × IsValid b c
  pub met : IsMet b

pub fit : BuildsAreWritten → (IsMet : Build → Type 0) (b : Build) (c : Compiled Text) → IsValid b c → IsMet b → IsFit IsMet b
fit written IsMet b c v i = record { known = known written b c v; valid = (c, v); met = i }

-- ---- the builds that a load may meet, and no others

module _ (IsMet : Build → Type 0) where
  record Fit : Type 0 where
    build : Build
    is : IsFit IsMet build

  abbrev kept_of : Fit → Compiled Text
  kept_of y = of y.build

  abbrev fit_asks : Asks Fit Text
  fit_asks = asks_by kept_of

  abbrev One : Fit → Type 0
  One y = IsKnown AnyText (kept_of y)

  abbrev fit_of : (b : Build) → IsFit IsMet b → Fit
  fit_of b k = record { build = b; is = k }

  lifted : (bs : List Build) → AllByRecursion (IsFit IsMet) bs → List Fit
  lifted [] h = []
  lifted (b ∷ bs) h = fit_of b h.0 ∷ lifted bs h.1

  lifted_files : (bs : List Build) (h : AllByRecursion (IsFit IsMet) bs) → map (λ y. file_of y.build) (lifted bs h) ≡ map file_of bs
  unfolding lifted
  lifted_files [] h = refl
  lifted_files (b ∷ bs) h = ap (λ r. file_of b ∷ r) (lifted_files bs h.1)

  lifted_known : (bs : List Build) (h : AllByRecursion (IsFit IsMet) bs) → AllByRecursion One (lifted bs h)
  unfolding lifted
  lifted_known [] h = tt
  lifted_known (b ∷ bs) h = (h.0.known, lifted_known bs h.1)

  lifted_present : (bs : List Build) (h : AllByRecursion (IsFit IsMet) bs) (q : QName) (a : Aspect) → present fit_asks (lifted bs h) q a ≡ present asks bs q a
  unfolding lifted
  lifted_present [] h q a = refl
  lifted_present (b ∷ bs) h q a = go (bytes_eq q.«module» (name_of b)) (lifted_present bs h.1 q a)
    where
      go : (t : Bool) → kept_by fit_asks (named fit_asks q.«module» (lifted bs h.1)) q.object a ≡ kept_by asks (named asks q.«module» bs) q.object a → kept_by fit_asks (cond t (Some (fit_of b h.0)) (named fit_asks q.«module» (lifted bs h.1))) q.object a ≡ kept_by asks (cond t (Some b) (named asks q.«module» bs)) q.object a
      go true e = refl
      go false e = e

  lifted_uses : (bs : List Build) (h : AllByRecursion (IsFit IsMet) bs) (client : List ℕ) (us : List (Wanted Text)) → first_refusal (use_fails fit_asks (lifted bs h) client) us ≡ first_refusal (use_fails asks bs client) us
  lifted_uses bs h client [] = refl
  lifted_uses bs h client (u ∷ us) =
      ap (λ o. walk.or_first (use_against bytes_eq client u o) (first_refusal (use_fails fit_asks (lifted bs h) client) us)) (lifted_present bs h u.object u.aspect)
      ∙ ap (walk.or_first (use_fails asks bs client u)) (lifted_uses bs h client us)

  links_used : BuildsAreLinked → (y : Fit) → AreLinksUsed (kept_of y)
  links_used linked y =
      let v = y.is.valid in
      subst AreLinksUsed (sym (of_is y.build v.0 v.1)) (linked y.build v.0 v.1)

  pub asked_alike : BuildsAreLinked → AreAskedAlike asks files.asks file_of print_from (IsFit IsMet)
  asked_alike linked =
      let a : AreAskedAlike fit_asks files.asks (λ y. file_of y.build) print_from One = compiled_alike AnyText kept_of (links_named AnyText kept_of (λ y k. links_used linked y)) in
      record {
        name = λ x k. a.name (fit_of x k) k.known;
        imports = λ x k. a.imports (fit_of x k) k.known;
        uses = λ x k. a.uses (fit_of x k) k.known;
        keeps = λ x k. a.keeps (fit_of x k) k.known;
        links = λ xs ks x k met.
            ap (λ fs. files.unlinked fs (file_of x)) (sym (lifted_files xs ks))
            ∙ a.links (lifted xs ks) (lifted_known xs ks) (fit_of x k) k.known (lifted_uses xs ks (name_of x) (shows_of x).uses ∙ met);
        words = λ x k. a.words (fit_of x k) k.known;
        has_command = λ x k. a.has_command (fit_of x k) k.known;
      }

  -- A build's uses are told alike of all builds that prints tell apart from them.
  found_alike : (x y : Build) → AreToldApart (OfBuilds x y) → (u : Wanted Text) → Contains (shows_of x).uses u → FindsAlike asks files.asks print_from y u
  found_alike x y told u c found n e =
      let q : u.object.«module» ≡ name_of y = same_bytes u.object.«module» (name_of y) n in
      agree_same u.kept found (told u.kept found (u, c, refl, subst (λ m. text_in (shows_of y ∷ []) (record { «module» = m; object = u.object.object }) u.aspect ≡ Some found) (sym q) e))

  pub uses_alike : (x : Build) → ((y : Build) → IsMet y → AreToldApart (OfBuilds x y)) → UsesFindAlike asks files.asks print_from (IsFit IsMet) x
  uses_alike x told = all_there (λ u. (y : Build) → IsFit IsMet y → FindsAlike asks files.asks print_from y u) (shows_of x).uses (λ u c y k. found_alike x y (told y k.met) u c)
