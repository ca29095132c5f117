-- What a compile over files does, where what it writes is read again: it replaces the two files of its module.
use Rattle.std.proofs.Common.{◌≡◌, ℕ, List, [], ◌∷◌, Bool, true, false, cond, length, refl, sym, ap, ◌∙◌, subst, codes, Option, Some, None, Ok}
use Rattle.std.specs.Prelude.{nat_le, bytes_eq, map as each}
use Rattle.std.specs.Option.{option_map}
use Rattle.std.specs.List.{AllByRecursion, flat_map}
use Rattle.std.proofs.lemmas.Bool.{false≢true}
use Rattle.ob_tree.specs.declared.names.QName.{QName}
use Rattle.ob_tree.specs.declared.print.Print.{Print}
use Rattle.ob_types.specs.declared.desc.Desc.{Desc}
use Rattle.ob_types.specs.declared.face.Aspect.{Aspect}
use Rattle.ob_types.specs.Maps.{listed}
use Rattle.ob_format.specs.Format.{◌>>=◌, whole}
use Rattle.ob_desc.specs.Grammar.{text_of}
use Rattle.ob_fprint.specs.Print.{print_from}
use Rattle.ob_obj.specs.Grammar.{file as object_form}
use Rattle.ob_sym.specs.Grammar.{face as face_form}
use Rattle.ob_env.specs.Faces.{Face, Wanted, object_named, face_named, print_in, face_of, wanted_of, use_of}
use Rattle.ob_env.specs.Stale.{prints_agree, as_wanted, compared}
use Rattle.ob_env_walk.specs.Walk.{symbol_entry, file_limit}
use Rattle.ob_cmp.specs.Check.{There, symbols_of, in_face, print_of_desc}
use Rattle.ob_link.specs.Walk.{has}
use Rattle.ob_uses.specs.declared.pair.Pair.{Pair}
use Rattle.ob_uses.specs.Uses.{with_kept}
use Rattle.ob_make.specs.Stale.{meets, is_met}
use Rattle.ob_make.specs.Folder.{has_in, seen_in, source_name, prints as marks}
use Rattle.ob_compile_model.specs.Compiling.{Compiled, prints, object_by, interface_by, object_bytes, symbol_bytes}
use Rattle.ob_shell_model.specs.Bytes.{World, maker, changed, files_of, compiled_in}
use Rattle.law_builds.proofs.Compiled.{comes, short}
use Rattle.law_builds.proofs.Faces.{uses_back}
use Rattle.law_lists.proofs.Lists.{bytes_itself, same_bytes, all_both}
use Rattle.law_make.proofs.Entries.{found_there, entry_named}
use Rattle.law_make.proofs.From.{ComesSo}
use Rattle.law_make.proofs.Walked.{IsFound, all_found}
use Rattle.law_make.proofs.Replaced.{two, source_stays, object_stays, symbols_stay, object_is, symbols_are}
use Rattle.law_make.proofs.Turns.{Does}

-- ---- the uses of a module

-- each use has what it keeps
pub all_kept : {K : Type 0} (keeps : QName → Aspect → Option K) (ps : List Pair) → AllByRecursion (λ (u : Wanted K). keeps u.object u.aspect ≡ Some u.kept) (flat_map (with_kept keeps) ps)
all_kept keeps [] = tt
all_kept {K = K} keeps (p ∷ ps) = all_both (λ (u : Wanted K). keeps u.object u.aspect ≡ Some u.kept) (with_kept keeps p) (flat_map (with_kept keeps) ps) (go (keeps p.object p.aspect) refl) (all_kept keeps ps)
  where
    go : (o : Option K) → keeps p.object p.aspect ≡ o → AllByRecursion (λ (u : Wanted K). keeps u.object u.aspect ≡ Some u.kept) (listed (option_map (λ (k : K). let w : Wanted K = record { object = p.object; aspect = p.aspect; kept = k } in w) o))
    go None e = tt
    go (Some k) e = (e, tt)

-- a use of interfaces is of one of them, which has its print
record IsIn (F : Face Print → Type 0) (u : Wanted Print) : Type 0 where
  face : Face Print
  good : F face
  named : face.«module» ≡ u.object.«module»
  kept : in_face print_of_desc face u.object u.aspect ≡ Some u.kept

print_of : (o : Option Desc) (q : QName) (a : Aspect) → option_map print_from (o >>= λ d. text_of q d a) ≡ (o >>= λ d. print_of_desc q d a)
print_of None q a = refl
print_of (Some d) q a = refl

no_print : {X : Type 0} (p : Print) → (let o : Option Print = None in o) ≡ Some p → X
no_print p e = absurd (false≢true (ap some e))
  where
    some : Option Print → Bool
    some None = false
    some (Some p) = true

kept_in : (F : Face Print → Type 0) (fs : List (Face Print)) → AllByRecursion F fs → (u : Wanted Print) → print_in fs u.object u.aspect ≡ Some u.kept → IsIn F u
kept_in F [] h u e = no_print u.kept e
kept_in F (f ∷ fs) h u e = go (bytes_eq u.object.«module» f.«module») refl e (kept_in F fs h.1 u)
  where
    go : (b : Bool) → bytes_eq u.object.«module» f.«module» ≡ b → option_map print_from ((cond b (Some f) (face_named fs u.object.«module») >>= λ g. object_named g.objects u.object.object) >>= λ d. text_of u.object d u.aspect) ≡ Some u.kept → (print_in fs u.object u.aspect ≡ Some u.kept → IsIn F u) → IsIn F u
    go true i e more = record { face = f; good = h.0; named = sym (same_bytes u.object.«module» f.«module» i); kept = sym (print_of (object_named f.objects u.object.object) u.object u.aspect) ∙ e }
    go false i e more = more e

-- ---- a compile that is not refused

-- what is written of a module that compiles is read again
abbrev pub IsReadAgain : Compiled Print → Type 0
IsReadAgain c = (whole object_form (object_bytes prints c) ≡ Some (object_by prints c)) × (whole face_form (symbol_bytes prints c) ≡ Some (interface_by prints c))

module _ (v : World) (x : List ℕ) (ms : List (List ℕ)) (c : Compiled Print) (is : compiled_in v (v.files (source_name x)) ≡ Ok c) (again : IsReadAgain c) (k : ComesSo prints (symbol_entry v.files) x ms c) where
  abbrev now : World
  now = record v { files = changed v.files (files_of c) }

  module_is : c.shows.«module» ≡ x
  module_is = ap (λ (y : Compiled Print). y.shows.«module») k.is ∙ k.name

  files_are : changed v.files (files_of c) ≡ two v.files x (object_bytes prints c) (symbol_bytes prints c)
  files_are = ap (λ n. two v.files n (object_bytes prints c) (symbol_bytes prints c)) module_is

  small : (nat_le (length (object_bytes prints c)) file_limit ≡ true) × (nat_le (length (symbol_bytes prints c)) file_limit ≡ true)
  small = short prints c (comes prints (symbol_entry v.files) (v.files (source_name x)) c is).limits

  uses_kept : AllByRecursion (λ (u : Wanted Print). print_in k.faces u.object u.aspect ≡ Some u.kept) c.shows.uses
  uses_kept = subst (λ (y : Compiled Print). AllByRecursion (λ (u : Wanted Print). print_in k.faces u.object u.aspect ≡ Some u.kept) y.shows.uses) (sym k.is) (all_kept (print_in k.faces) _)

  -- the uses that the object file has
  uses_are : each wanted_of (each use_of c.shows.uses) ≡ c.shows.uses
  uses_are = uses_back c.shows.uses

  print_itself : (p : Print) → is_met (compared prints_agree p (Some p)) ≡ true
  print_itself p = ap (λ b. is_met (as_wanted b p)) (bytes_itself p.0)

  module _ (test : List ℕ → Bool) (first : (n : List ℕ) → has n ms ≡ true → bytes_eq n x ≡ false → bytes_eq n (codes "Out") ≡ false → test n ≡ true) (onward : (p n : List ℕ) (f : Face Print) → test p ≡ true → symbols_of v.files p ≡ There f → has n f.imports ≡ true → bytes_eq n x ≡ false → bytes_eq n (codes "Out") ≡ false → test n ≡ true) where
    faces_found : AllByRecursion (IsFound (symbol_entry v.files) x test) k.faces
    faces_found = all_found (symbol_entry v.files) x test (entry_named v.files) (λ p n f t e. onward p n f t (found_there v.files p f e)) ms k.faces first k.walked

    each_use : (us : List (Wanted Print)) → AllByRecursion (λ (u : Wanted Print). print_in k.faces u.object u.aspect ≡ Some u.kept) us →
        AllByRecursion (λ u. meets marks u (symbols_of v.files u.object.«module») ≡ true) us × AllByRecursion (λ u. test u.object.«module» ≡ true) us
    each_use [] h = (tt, tt)
    each_use (u ∷ us) h =
        let i = kept_in (IsFound (symbol_entry v.files) x test) k.faces faces_found u h.0 in
        let t : symbols_of v.files u.object.«module» ≡ There i.face = ap (symbols_of v.files) (sym i.named) ∙ found_there v.files i.face.«module» i.face i.good.found in
        let more = each_use us h.1 in
        ((ap (meets marks u) t ∙ ap (λ o. is_met (compared prints_agree u.kept o)) i.kept ∙ print_itself u.kept, more.0), (ap test (sym i.named) ∙ i.good.passes, more.1))

  at_once : (nothing : (n : List ℕ) → true ≡ true) → AllByRecursion (λ u. meets marks u (symbols_of v.files u.object.«module») ≡ true) c.shows.uses
  at_once nothing = (each_use (λ n. true) (λ n h e o. refl) (λ p n f t s h e o. refl) c.shows.uses uses_kept).0

  symbol_now : (seen_in (changed v.files (files_of c))).symbols x ≡ There (face_of (interface_by prints c))
  symbol_now = ap (λ f. (seen_in f).symbols x) files_are ∙ symbols_are v.files x (object_bytes prints c) (symbol_bytes prints c) (interface_by prints c) small.1 again.1 (sym module_is)

  pub does_so : Does maker v x ms now
  does_so =
      record {
        not_out = k.not_out;
        source = λ y. ap (λ f. (seen_in f).source y) files_are ∙ source_stays v.files x (object_bytes prints c) (symbol_bytes prints c) y;
        objects = λ y h. ap (λ f. (seen_in f).object y) files_are ∙ object_stays v.files x (object_bytes prints c) (symbol_bytes prints c) y h;
        symbols = λ y h. ap (λ f. (seen_in f).symbols y) files_are ∙ symbols_stay v.files x (object_bytes prints c) (symbol_bytes prints c) y h;
        shows = has_in (object_by prints c);
        object = ap (λ f. (seen_in f).object x) files_are ∙ object_is v.files x (object_bytes prints c) (symbol_bytes prints c) (object_by prints c) small.0 again.0 (sym (ap (λ (y : Compiled Print). y.tree.name) k.is ∙ k.name));
        face = face_of (interface_by prints c);
        symbol = symbol_now;
        imports = λ n h o. k.imports n (ap (λ (y : Compiled Print). has n y.shows.imports) (sym k.is) ∙ h);
        met = subst (λ us. AllByRecursion (λ u. meets marks u (symbols_of v.files u.object.«module») ≡ true) us) (sym uses_are) (at_once (λ n. refl));
        near = λ test first onward. subst (λ us. AllByRecursion (λ u. test u.object.«module» ≡ true) us) (sym uses_are) (each_use test first onward c.shows.uses uses_kept).1;
      }
