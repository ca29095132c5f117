-- Valid builds, and what is there of a use among them and among their files.
use Rattle.std.proofs.Common.{◌≡◌, ℕ, ◌≤◌, List, [], ◌∷◌, map, Bool, true, false, cond, refl, sym, ap, ◌∙◌, subst, Option, Some, None}
use Rattle.std.specs.Prelude.{bytes_eq}
use Rattle.std.specs.Option.{option_map}
use Rattle.std.specs.List.{AllByRecursion}
use Rattle.std.proofs.lemmas.Slice.Eq.{bytes_eq-Decides}
use Rattle.ob_tree.specs.declared.print.Print.{Print}
use Rattle.ob_tree.specs.declared.names.QName.{QName}
use Rattle.ob_types.specs.declared.face.Aspect.{Aspect}
use Rattle.ob_types.specs.Maps.{is_type}
use Rattle.ob_format.specs.Format.{◌>>=◌}
use Rattle.ob_fprint.specs.Print.{print_from}
use Rattle.ob_desc.specs.Grammar.{text_of}
use Rattle.ob_obj.specs.declared.file.ObjFile.{ObjFile}
use Rattle.ob_layout.specs.LaidOut.{viewed}
use Rattle.ob_layout.specs.Room.{globals_words}
use Rattle.ob_env.specs.Faces.{Face, Wanted, described, face_named, object_named, text_in}
use Rattle.ob_uses.specs.Made.{face_of_laid}
use Rattle.ob_compile_model.specs.Compiling.{Compiled, texts, exports_of, interface_by}
use Rattle.ob_link.specs.Walk.{first_of, or_first}
use Rattle.ob_link.specs.Plan.{Asks, Refusal, Changed, named, kept_by, present, use_against, use_fails, most_globals}
use Rattle.ob_link.specs.Files as files
use Rattle.ob_link.specs.Files.{agrees}
use Rattle.law_load_plan.specs.Alike.{wanted_as}
use Rattle.law_load_plan.specs.Compiled.{IsKnown, AreLinksUsed, AreProceduresNamed, asks_by}
use Rattle.law_load_plan.specs.Laws.{IsMarked}
use Rattle.law_load_plan.proofs.Checked.{compiled_marked}
use Rattle.law_load_plan.proofs.Exports.{exports_shown}
use Rattle.law_load_plan.proofs.Fitting.{names_spelled}
use Rattle.law_names_procedures.specs.Named.{AreNamedApart}
use Rattle.ob_builds.specs.Builds.{Text, Build, IsValid, of, shows_of, name_of, file_of}
use Rattle.ob_builds.specs.Local.{AreAsWanted}
use Rattle.ob_builds.specs.Written.{BuildsAreWritten}
use Rattle.law_builds.specs.Linked.{BuildsAreLinked}
use Rattle.law_builds.proofs.Apart.{build_apart}
use Rattle.law_builds.proofs.Compiled.{Comes, comes}
use Rattle.law_builds.proofs.Faces.{of_is}
use Rattle.law_load_enter.proofs.Limits.{room_kept}
use Rattle.law_lists.proofs.Lists.{bytes_same}

abbrev pub Compiles : Build → Type 0
Compiles b = (c : Compiled Text) × IsValid b c

pub record Valid : Type 0 where
  pub build : Build
  pub valid : Compiles build

abbrev pub kept_of : Valid → Compiled Text
kept_of y = of y.build

abbrev pub filed : Valid → ObjFile
filed y = file_of y.build

abbrev pub valid_asks : Asks Valid Text
valid_asks = asks_by kept_of

-- nothing is asked of texts
abbrev pub AnyText : Text → Type 0
AnyText t = Unit {0}

abbrev pub One : Valid → Type 0
One y = IsKnown AnyText (kept_of y)

any_texts : (us : List (Wanted Text)) → AllByRecursion (λ u. AnyText u.kept) us
any_texts [] = tt
any_texts (u ∷ us) = (tt, any_texts us)

pub known : BuildsAreWritten → (y : Valid) → One y
known written y =
    let b : Build = y.build in
    let c : Compiled Text = y.valid.0 in
    let v : IsValid b c = y.valid.1 in
    let o : of b ≡ c = of_is b c v in
    let h : Comes texts c = comes texts _ (Some b.source) c v.is in
    let s : AreNamedApart c = build_apart b c v in
    let m : IsMarked c = compiled_marked _ (Some b.source) c v.is in
    let spelled = names_spelled (viewed (described c.against) c.tree) c.tree (exports_of (interface_by texts c)) (interface_by texts c).uses s.procedures (written b c v).object in
    record {
      shows = subst (λ (x : Compiled Text). x.shows ≡ face_of_laid (text_in x.against) x.against x.tree) (sym (o ∙ h.is)) refl;
      room = subst (λ (x : Compiled Text). globals_words (viewed (described x.against) x.tree) x.tree ≤ most_globals) (sym o) (room_kept c h.limits);
      procedures = subst (λ (x : Compiled Text). AreProceduresNamed x.tree.procedures) (sym o) (record { names = s.procedures; identifiers = spelled; marks = m.marks });
      types = subst (λ (x : Compiled Text). AllByRecursion (λ t. is_type t.desc ≡ true) x.tree.types) (sym o) m.types;
      has = λ name aspect t e. tt;
      uses = any_texts (kept_of y).shows.uses;
    }

pub links_used : BuildsAreLinked → (y : Valid) → AreLinksUsed (kept_of y)
links_used linked y = subst AreLinksUsed (sym (of_is y.build y.valid.0 y.valid.1)) (linked y.build y.valid.0 y.valid.1)

-- ---- lists of them

abbrev pub chosen : (bs : List Build) → AllByRecursion Compiles bs → List Valid
chosen [] h = []
chosen (b ∷ bs) h = record { build = b; valid = h.0 } ∷ chosen bs h.1

pub chosen_files : (bs : List Build) (h : AllByRecursion Compiles bs) → map filed (chosen bs h) ≡ map file_of bs
chosen_files [] h = refl
chosen_files (b ∷ bs) h = ap (λ r. file_of b ∷ r) (chosen_files bs h.1)

pub all_known : BuildsAreWritten → (ys : List Valid) → AllByRecursion One ys
all_known written [] = tt
all_known written (y ∷ ys) = (known written y, all_known written ys)

-- ---- what an object has among them

abbrev of_found : QName → Aspect → Option (Face Text) → Option Text
of_found q a o = (o >>= λ f. object_named f.objects q.object) >>= λ d. text_of q d a

abbrev within : List ℕ → List ℕ → QName
within m x = record { «module» = m; object = x }

present_is : (bs : List Build) (h : AllByRecursion Compiles bs) (q : QName) (a : Aspect) → present valid_asks (chosen bs h) q a ≡ text_in (map shows_of bs) q a
present_is [] h q a = refl
present_is (b ∷ bs) h q a = go (bytes_eq q.«module» (name_of b)) refl (present_is bs h.1 q a)
  where
    go : (t : Bool) → bytes_eq q.«module» (name_of b) ≡ t → kept_by valid_asks (named valid_asks q.«module» (chosen bs h.1)) q.object a ≡ text_in (map shows_of bs) q a → kept_by valid_asks (cond t (Some (record { build = b; valid = h.0 })) (named valid_asks q.«module» (chosen bs h.1))) q.object a ≡ of_found q a (cond t (Some (shows_of b)) (face_named (map shows_of bs) q.«module»))
    go true i rest =
        ap (λ t. of_found (within (name_of b) q.object) a (cond t (Some (shows_of b)) None)) (bytes_same (name_of b) (name_of b) refl)
        ∙ ap (λ m. of_found (within m q.object) a (Some (shows_of b))) (sym ((bytes_eq-Decides q.«module» (name_of b)).0 i))
    go false i rest = rest

-- its print is among their files
file_has : (ys : List Valid) → AllByRecursion One ys → (q : QName) (a : Aspect) → present files.asks (map filed ys) q a ≡ option_map print_from (present valid_asks ys q a)
file_has [] k q a = refl
file_has (y ∷ ys) k q a =
    ap (λ n. kept_by files.asks (cond (bytes_eq q.«module» n) (Some (filed y)) (named files.asks q.«module» (map filed ys))) q.object a) (sym (ap (λ f. f.«module») k.0.shows))
    ∙ go (bytes_eq q.«module» (kept_of y).shows.«module») (file_has ys k.1 q a)
  where
    go : (t : Bool) → kept_by files.asks (named files.asks q.«module» (map filed ys)) q.object a ≡ option_map print_from (kept_by valid_asks (named valid_asks q.«module» ys) q.object a) → kept_by files.asks (cond t (Some (filed y)) (named files.asks q.«module» (map filed ys))) q.object a ≡ option_map print_from (kept_by valid_asks (cond t (Some y) (named valid_asks q.«module» ys)) q.object a)
    go true e = exports_shown (kept_of y).tree (kept_of y).shows (ap (λ f. f.objects) k.0.shows) q.object a
    go false e = e

-- ---- uses that have their texts

abbrev pub Find : List Valid → List (Wanted Text) → Type 0
Find ys us = AllByRecursion (λ u. present valid_asks ys u.object u.aspect ≡ Some u.kept) us

pub uses_find : (bs : List Build) (h : AllByRecursion Compiles bs) (us : List (Wanted Text)) → AreAsWanted (map shows_of bs) us → Find (chosen bs h) us
uses_find bs h [] w = tt
uses_find bs h (u ∷ us) w = (present_is bs h u.object u.aspect ∙ w.0, uses_find bs h us w.1)

pub are_met : (ys : List Valid) (client : List ℕ) (us : List (Wanted Text)) → Find ys us → first_of (use_fails valid_asks ys client) us ≡ None
are_met ys client [] f = refl
are_met ys client (u ∷ us) f =
    let rest : Option (Refusal Text) = first_of (use_fails valid_asks ys client) us in
    let changed : Refusal Text = Changed client u.object u.aspect u.kept u.kept in
    ap (λ o. or_first (use_against bytes_eq client u o) rest) f.0
    ∙ ap (λ t. or_first (cond t None (Some changed)) rest) (bytes_same u.kept u.kept refl)
    ∙ are_met ys client us f.1

-- so are their prints among the files
pub prints_met : (ys : List Valid) → AllByRecursion One ys → (client : List ℕ) (us : List (Wanted Text)) → Find ys us → first_of (use_fails files.asks (map filed ys) client) (map (wanted_as print_from) us) ≡ None
prints_met ys k client [] f = refl
prints_met ys k client (u ∷ us) f =
    let rest : Option (Refusal Print) = first_of (use_fails files.asks (map filed ys) client) (map (wanted_as print_from) us) in
    let changed : Refusal Print = Changed client u.object u.aspect (print_from u.kept) (print_from u.kept) in
    ap (λ o. or_first (use_against agrees client (wanted_as print_from u) o) rest) (file_has ys k u.object u.aspect ∙ ap (option_map print_from) f.0)
    ∙ ap (λ t. or_first (cond t None (Some changed)) rest) (bytes_same (print_from u.kept).0 (print_from u.kept).0 refl)
    ∙ prints_met ys k client us f.1
