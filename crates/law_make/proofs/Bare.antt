-- What compiles over files compiles by texts as well, over the same interfaces without their uses. So what is written of it has a
-- spelling.
use Rattle.std.proofs.Common.{◌≡◌, ℕ, zero, suc, ◌+◌, ◌^◌, ◌<◌, arith, Bool, true, false, cond, List, [], ◌∷◌, ◌++◌, length, Option, Some, None, Ok, refl, sym, ap, ◌∙◌, subst, codes}
use Rattle.std.specs.Prelude.{◌||◌, map as each, nat_le, bytes_eq}
use Rattle.std.specs.Option.{option_map}
use Rattle.std.specs.List.{flat_map, list_any, AllByRecursion}
use Rattle.std.specs.List.Sorted.{IsStrictlySortedBy}
use Rattle.std.proofs.lemmas.Bool.{false≢true}
use Rattle.std.proofs.lemmas.List.{map-append, length-map}
use Rattle.ob_tree.specs.declared.names.QName.{QName}
use Rattle.ob_tree.specs.declared.print.Print.{Print}
use Rattle.ob_tree.specs.declared.which.Which.{Which}
use Rattle.ob_tree.specs.declared.which.Which.TheVariants as which
use Rattle.ob_tree.specs.declared.decl.Module.{Module as Tree}
use Rattle.ob_types.specs.declared.desc.Desc.{Desc}
use Rattle.ob_types.specs.declared.face.Aspect.{Aspect}
use Rattle.ob_types.specs.declared.face.Interface.{Interface}
use Rattle.ob_types.specs.declared.typed.TypedModule.{TypedModule}
use Rattle.ob_types.specs.TypedSyntax.{Module}
use Rattle.ob_types.specs.TypedView.{module_view}
use Rattle.ob_types.specs.Maps.{listed}
use Rattle.ob_format.specs.Format.{◌>>=◌, list_of}
use Rattle.ob_desc.specs.Grammar.{text_of}
use Rattle.ob_fprint.specs.Print.{print_from}
use Rattle.ob_obj.specs.declared.file.ObjFile.{ObjFile}
use Rattle.ob_obj.specs.Grammar.{file}
use Rattle.ob_sym.specs.Grammar.{face, body}
use Rattle.ob_layout.specs.Lists.{or_else}
use Rattle.ob_layout.specs.LaidOut.{laid_out, viewed}
use Rattle.ob_layout.specs.Room.{first_limit}
use Rattle.ob_scheme.specs.Needs.{has_few_operands}
use Rattle.ob_scheme.specs.Object.{object_file}
use Rattle.ob_rules.specs.Declarations.{first_break, checked, deep_of, declaration, module_part}
use Rattle.ob_env.specs.Faces.{Face, Wanted, object_named, face_named, described, text_in, print_in, printed, interface_of}
use Rattle.ob_env.specs.Fit.{count_of, steps_of, misfit, first_unfit}
use Rattle.ob_env.specs.Shown.{blank, shown}
use Rattle.ob_env.specs.Stale.{first_among, first_stale}
use Rattle.ob_env.specs.Answer.{if_coherent, if_fit, standing}
use Rattle.ob_env_walk.specs.Walk.{Entry, Missing, Junk, Holds, Walked, Left, NoInterface, Damaged, Cycle, TooMany, go_on, is_among, is_passed_over, through, entered, at_entry, at_module, entering, visit, walk}
use Rattle.ob_env_walk.specs.Answer.{after_walk}
use Rattle.ob_parse_grammar.specs.TextReading.{reading}
use Rattle.ob_uses.specs.declared.pair.Pair.{Pair}
use Rattle.ob_uses.specs.Uses.{with_kept, pairs_of}
use Rattle.ob_uses.specs.Made.{face_over}
use Rattle.ob_compile_model.specs.Compiling.{Compiled, compiled, texts, prints, made, within, exceeds, exceeded, or_first, most_code, limit_of_files, exports_of, object_by, interface_by, of_checked, of_break, by_rules, and_limits, is_deep, unless_deep, of_standing, of_reached, of_few, of_reading, of_short, imported}
use Rattle.ob_builds.specs.Builds.{Text, Build, IsSpelled}
use Rattle.ob_builds.specs.Written.{IsWritten}
use Rattle.law_builds.proofs.Again.{AreHeld, only, walk_again}
use Rattle.law_builds_written.proofs.Upheld.{builds_are_written}
use Rattle.law_make.proofs.From.{IsCompiled}

-- an interface without its uses
abbrev pub bare : Face Print → Face Text
bare f = record { «module» = f.«module»; imports = f.imports; objects = f.objects; uses = [] }

abbrev pub bare_entry : Entry Print → Entry Text
bare_entry Missing = Missing
bare_entry Junk = Junk
bare_entry (Holds f) = Holds (bare f)

abbrev bared : Walked Print → Walked Text
bared (Left faces) = Left (each bare faces)
bared (NoInterface m) = NoInterface m
bared (Damaged m) = Damaged m
bared (Cycle m) = Cycle m
bared TooMany = TooMany

-- ---- walks

on_bare : (w : Walked Print) (f : List (Face Print) → Walked Print) (g : List (Face Text) → Walked Text) → ((more : List (Face Print)) → g (each bare more) ≡ bared (f more)) → go_on (bared w) g ≡ bared (go_on w f)
on_bare (Left faces) f g h = h faces
on_bare (NoInterface m) f g h = refl
on_bare (Damaged m) f g h = refl
on_bare (Cycle m) f g h = refl
on_bare TooMany f g h = refl

through_bare : (at : List ℕ → List (Face Print) → Walked Print) (by : List ℕ → List (Face Text) → Walked Text) → ((m : List ℕ) (left : List (Face Print)) → by m (each bare left) ≡ bared (at m left)) → (ms : List (List ℕ)) (left : List (Face Print)) → through by ms (each bare left) ≡ bared (through at ms left)
through_bare at by one [] left = refl
through_bare at by one (m ∷ ms) left = ap (λ (w : Walked Text). go_on w (λ more. through by ms more)) (one m left) ∙ on_bare (at m left) (λ more. through at ms more) (λ more. through by ms more) (λ more. through_bare at by one ms more)

into_bare : (b : Bool) (f : Face Print) (below : List (List ℕ) → Walked Print) (under : List (List ℕ) → Walked Text) → under f.imports ≡ bared (below f.imports) → entered b under (bare f) ≡ bared (entered b below f)
into_bare true f below under h = ap (λ (w : Walked Text). go_on w (λ more. Left (more ++ bare f ∷ []))) h ∙ on_bare (below f.imports) (λ more. Left (more ++ f ∷ [])) (λ more. Left (more ++ bare f ∷ [])) (λ more. ap (λ (l : List (Face Text)). Left l) (sym (map-append bare more (f ∷ []))))
into_bare false f below under h = refl

at_bare : (e : Entry Print) (b : Bool) (m : List ℕ) (below : List (List ℕ) → Walked Print) (under : List (List ℕ) → Walked Text) → ((ms : List (List ℕ)) → under ms ≡ bared (below ms)) → at_entry (bare_entry e) b under m ≡ bared (at_entry e b below m)
at_bare Missing b m below under h = refl
at_bare Junk b m below under h = refl
at_bare (Holds f) b m below under h = into_bare b f below under (h f.imports)

passes_bare : (m : List ℕ) (left : List (Face Print)) → is_passed_over m (each bare left) ≡ is_passed_over m left
passes_bare m left = ap (λ (b : Bool). (bytes_eq m (codes "Out") || bytes_eq m (codes "SYSTEM")) || b) (any left)
  where
    any : (left : List (Face Print)) → list_any (λ (f : Face Text). bytes_eq m f.«module») (each bare left) ≡ list_any (λ (f : Face Print). bytes_eq m f.«module») left
    any [] = refl
    any (f ∷ left) = ap (λ (b : Bool). bytes_eq m f.«module» || b) (any left)

by_bare : (a b : Bool) (path : List (List ℕ)) (left : List (Face Print)) (w : Unit {0} → Walked Print) (v : Unit {0} → Walked Text) → v tt ≡ bared (w tt) → at_module a b path (each bare left) v ≡ bared (at_module a b path left w)
by_bare true b path left w v h = refl
by_bare false true path left w v h = refl
by_bare false false path left w v h = h

module _ (find : List ℕ → Entry Print) where
  abbrev pub without : List ℕ → Entry Text
  without n = bare_entry (find n)

  visit_bare : (n : ℕ) (path : List (List ℕ)) (m : List ℕ) (left : List (Face Print)) → visit without n path m (each bare left) ≡ bared (visit find n path m left)
  unfolding visit
  visit_bare zero path m left = refl
  visit_bare (suc n) path m left =
      let at = visit find n (m ∷ path) in
      let by = visit without n (m ∷ path) in
      ap (λ (b : Bool). at_module b (is_among m path) path (each bare left) (λ _. entering without (through by) path m (each bare left))) (passes_bare m left)
      ∙ by_bare (is_passed_over m left) (is_among m path) path left (λ _. entering find (through at) path m left) (λ _. entering without (through by) path m (each bare left))
      (ap (λ (k : ℕ). at_entry (without m) (nat_le (k + length path) 255) (λ imports. through by imports (each bare left)) m) (length-map left bare)
      ∙ at_bare (find m) (nat_le (length left + length path) 255) m (λ imports. through at imports left) (λ imports. through by imports (each bare left)) (λ ms. through_bare at by (λ k more. visit_bare n (m ∷ path) k more) ms left))

  pub walk_bare : (root : List ℕ) (imports : List (List ℕ)) → walk without root imports ≡ bared (walk find root imports)
  walk_bare root imports = through_bare (visit find 257 (root ∷ [])) (visit without 257 (root ∷ [])) (λ m left. visit_bare 257 (root ∷ []) m left) imports []

-- ---- what the interfaces say

named_bare : (fs : List (Face Print)) (m : List ℕ) → face_named (each bare fs) m ≡ option_map bare (face_named fs m)
named_bare [] m = refl
named_bare (f ∷ fs) m = go (bytes_eq m f.«module») (named_bare fs m)
  where
    go : (b : Bool) → face_named (each bare fs) m ≡ option_map bare (face_named fs m) → cond b (Some (bare f)) (face_named (each bare fs) m) ≡ option_map bare (cond b (Some f) (face_named fs m))
    go true e = refl
    go false e = e

described_at : (fs : List (Face Print)) (q : QName) → described (each bare fs) q ≡ described fs q
described_at fs q = ap (λ (o : Option (Face Text)). o >>= λ f. object_named f.objects q.object) (named_bare fs q.«module») ∙ go (face_named fs q.«module»)
  where
    go : (o : Option (Face Print)) → (option_map bare o >>= λ f. object_named f.objects q.object) ≡ (o >>= λ f. object_named f.objects q.object)
    go None = refl
    go (Some f) = refl

described_bare : (fs : List (Face Print)) → described (each bare fs) ≡ described fs
described_bare fs = λ i q. described_at fs q i

shown_bare : (fs : List (Face Print)) → shown (each bare fs) ≡ shown fs
shown_bare fs = λ i q. option_map blank (described_at fs q i)

print_bare : (fs : List (Face Print)) (q : QName) (a : Aspect) → print_in fs q a ≡ option_map print_from (text_in (each bare fs) q a)
print_bare fs q a = ap (λ (o : Option Desc). option_map print_from (o >>= λ d. text_of q d a)) (sym (described_at fs q))

count_bare : (fs : List (Face Print)) → count_of (each bare fs) ≡ count_of fs
count_bare [] = refl
count_bare (f ∷ fs) = ap (λ n. length f.objects + n) (count_bare fs)

-- without uses none is stale
stale_bare : (has : QName → Aspect → Option Text) (fs : List (Face Print)) → first_stale bytes_eq has (each bare fs) ≡ None
stale_bare has [] = refl
stale_bare has (f ∷ fs) = stale_bare has fs

first_over : {K : Type 0} → (QName → Option Desc) → ℕ → List (Face K) → Option QName
first_over map steps fs = first_among (λ f. first_among (misfit map steps f.«module») f.objects) fs

over_bare : (map : QName → Option Desc) (steps : ℕ) (fs : List (Face Print)) → first_over map steps (each bare fs) ≡ first_over map steps fs
unfolding first_over
over_bare map steps [] = refl
over_bare map steps (f ∷ fs) = ap (or_else (first_among (misfit map steps f.«module») f.objects)) (over_bare map steps fs)

unfit_bare : (fs : List (Face Print)) → first_unfit (each bare fs) ≡ first_unfit fs
unfolding first_over
unfit_bare fs = ap (λ (map : QName → Option Desc). first_over map (steps_of (each bare fs)) (each bare fs)) (described_bare fs) ∙ ap (λ (n : ℕ). first_over (described fs) (201 + n) (each bare fs)) (count_bare fs) ∙ over_bare (described fs) (steps_of fs) fs

deep_bare : (fs : List (Face Print)) (tree : Tree) → is_deep (each bare fs) tree ≡ is_deep fs tree
deep_bare fs tree = ap (λ (map : QName → Option Desc). deep_of map tree.name (each declaration tree.decls) (module_part map tree)) (shown_bare fs)

-- ---- the interface that is made

kept_bare : (has : QName → Aspect → Option Text) (one : QName → Aspect → Option Print) → ((q : QName) (a : Aspect) → one q a ≡ option_map print_from (has q a)) → (p : Pair) → with_kept one p ≡ each (λ w. record { object = w.object; aspect = w.aspect; kept = print_from w.kept }) (with_kept has p)
kept_bare has one is p = ap (λ (o : Option Print). listed (option_map (λ k. record { object = p.object; aspect = p.aspect; kept = k }) o)) (is p.object p.aspect) ∙ go (has p.object p.aspect)
  where
    go : (o : Option Text) → listed (option_map (λ (k : Print). let w : Wanted Print = record { object = p.object; aspect = p.aspect; kept = k } in w) (option_map print_from o)) ≡ each (λ w. record { object = w.object; aspect = w.aspect; kept = print_from w.kept }) (listed (option_map (λ (k : Text). let w : Wanted Text = record { object = p.object; aspect = p.aspect; kept = k } in w) o))
    go None = refl
    go (Some t) = refl

all_kept_bare : (has : QName → Aspect → Option Text) (one : QName → Aspect → Option Print) → ((q : QName) (a : Aspect) → one q a ≡ option_map print_from (has q a)) → (ps : List Pair) → flat_map (with_kept one) ps ≡ each (λ w. record { object = w.object; aspect = w.aspect; kept = print_from w.kept }) (flat_map (with_kept has) ps)
all_kept_bare has one is [] = refl
all_kept_bare has one is (p ∷ ps) =
    let f : Wanted Text → Wanted Print = λ w. record { object = w.object; aspect = w.aspect; kept = print_from w.kept } in
    ap (λ (l : List (Wanted Print)). l ++ flat_map (with_kept one) ps) (kept_bare has one is p) ∙ ap (λ (l : List (Wanted Print)). each f (with_kept has p) ++ l) (all_kept_bare has one is ps) ∙ sym (map-append f (with_kept has p) (flat_map (with_kept has) ps))

face_over_bare : (has : QName → Aspect → Option Text) (one : QName → Aspect → Option Print) → ((q : QName) (a : Aspect) → one q a ≡ option_map print_from (has q a)) → (map : QName → Option Desc) (names : ℕ) (m : Module) → face_over map names one m ≡ printed (face_over map names has m)
face_over_bare has one is map names m = ap (λ (us : List (Wanted Print)). let f : Face Print = record { «module» = m.name; imports = m.imports; objects = (face_over map names has m).objects; uses = us } in f) (all_kept_bare has one is (pairs_of map names m))

-- ---- its files

-- the object file, over a map
file_over : Face Print → Module → (QName → Option Desc) → ObjFile
file_over f t map =
    let i : Interface = interface_of f in
    object_file (viewed map t) t (exports_of i) i.uses

-- the first limit that is exceeded, over a map
limit_over : Face Print → Module → (QName → Option Desc) → Option Which
limit_over f t map =
    or_first (first_limit (viewed map t) t (length f.objects))
    (or_first (exceeded (has_few_operands (viewed map t) t) which.Operands)
    (or_first (exceeded (nat_le (length (file_over f t map).body.code) most_code) which.Code)
    (limit_of_files (file.spell (file_over f t map)) (face.spell (interface_of f)))))

module _ (fs : List (Face Print)) (m : TypedModule) where
  -- the module over these interfaces, and over them without their uses
  abbrev pub full : Compiled Print
  full = made prints fs (laid_out (described fs) (module_view m))

  abbrev pub thin : Compiled Text
  thin = made texts (each bare fs) (laid_out (described (each bare fs)) (module_view m))

  shows_same : printed thin.shows ≡ full.shows
  shows_same =
      let v = module_view m in
      sym (face_over_bare (text_in (each bare fs)) (print_in fs) (print_bare fs) (viewed (described (each bare fs)) thin.tree) (length thin.tree.types + count_of (each bare fs)) thin.tree)
      ∙ ap (λ (map : QName → Option Desc). face_over (viewed map (laid_out map v)) (length (laid_out map v).types + count_of (each bare fs)) (print_in fs) (laid_out map v)) (described_bare fs)
      ∙ ap (λ (n : ℕ). face_over (viewed (described fs) full.tree) (length full.tree.types + n) (print_in fs) full.tree) (count_bare fs)

  over_same : {X : Type 0} (f : Face Print → Module → (QName → Option Desc) → X) → f (printed thin.shows) thin.tree (described (each bare fs)) ≡ f full.shows full.tree (described fs)
  over_same f = ap (λ (map : QName → Option Desc). f (printed thin.shows) (laid_out map (module_view m)) map) (described_bare fs) ∙ ap (λ (s : Face Print). f s full.tree (described fs)) shows_same

  pub object_same : object_by texts thin ≡ object_by prints full
  unfolding file_over
  object_same = over_same file_over

  pub interface_same : interface_by texts thin ≡ interface_by prints full
  interface_same = ap interface_of shows_same

  limit_same : exceeds texts thin ≡ exceeds prints full
  unfolding limit_over file_over
  limit_same = over_same limit_over

-- ---- the spelling of interfaces

-- an interface without its uses has a spelling where it has one
no_uses : 0 < 2 ^ 32
no_uses = omega arith

bare_fits : (f : Face Print) → face.fits (interface_of f) → IsSpelled (bare f)
unfolding face body list_of IsStrictlySortedBy
bare_fits f h = ((h.0.0, (h.0.1.0, ((no_uses, tt), tt))), record { objects = h.1.objects; imports = h.1.imports })

-- ---- a text that compiles

module _ (entry : List ℕ → Entry Print) (named : (n : List ℕ) (f : Face Print) → entry n ≡ Holds f → f.«module» ≡ n) (spelled : (n : List ℕ) (f : Face Print) → entry n ≡ Holds f → face.fits (interface_of f)) (text : List ℕ) (c : Compiled Print) (k : IsCompiled prints entry text c) where
  -- it compiles by texts
  compiled_thin : (find : List ℕ → Entry Text) → walk find k.tree.name.name (each imported k.tree.imports) ≡ Left (each bare k.walked.faces) → compiled texts find (Some text) ≡ Ok (thin k.walked.faces k.walked.made_so.checked_module)
  unfolding compiled
  compiled_thin find w =
      let F = k.walked.faces in
      let G = each bare F in
      let t = k.tree in
      let m = k.walked.made_so in
      let d = thin F m.checked_module in
      ap (λ b. of_short b (of_reading texts find (reading text))) k.small
      ∙ ap (of_reading texts find) k.read
      ∙ ap (λ b. of_few b (of_reached texts t (after_walk (standing bytes_eq text_in) (walk find t.name.name (each imported t.imports))))) k.walked.few
      ∙ ap (λ z. of_reached texts t (after_walk (standing bytes_eq text_in) z)) w
      ∙ ap (λ o. of_standing texts t (if_coherent o G)) (stale_bare (text_in G) F)
      ∙ ap (λ o. of_standing texts t (if_fit o G)) (unfit_bare F ∙ m.fit)
      ∙ ap (λ b. unless_deep b (and_limits texts (by_rules texts G t))) (deep_bare F t ∙ m.shallow)
      ∙ ap (λ o. and_limits texts (of_break texts G (checked (shown G) t) o)) (ap (λ s. first_break s t) (shown_bare F) ∙ m.unbroken)
      ∙ ap (λ o. and_limits texts (of_checked texts G o)) (ap (λ s. checked s t) (shown_bare F) ∙ m.checked_so)
      ∙ ap (within d) (limit_same F m.checked_module ∙ m.limits)

  walked_without : walk (without entry) k.tree.name.name (each imported k.tree.imports) ≡ Left (each bare k.walked.faces)
  walked_without = walk_bare entry k.tree.name.name (each imported k.tree.imports) ∙ ap bared k.walked.walked

  -- what is found without uses
  record IsBare (n : List ℕ) (g : Face Text) : Type 0 where
    whole : Face Print
    found : entry n ≡ Holds whole
    is : bare whole ≡ g

  found_bare : (n : List ℕ) (g : Face Text) → bare_entry (entry n) ≡ Holds g → IsBare n g
  found_bare n g e = go (entry n) refl e
    where
      face_or : Face Text → Entry Text → Face Text
      face_or d Missing = d
      face_or d Junk = d
      face_or d (Holds f) = f

      is_held : Entry Text → Bool
      is_held Missing = false
      is_held Junk = false
      is_held (Holds f) = true

      go : (x : Entry Print) → entry n ≡ x → bare_entry x ≡ Holds g → IsBare n g
      go Missing i e = absurd (false≢true (ap is_held e))
      go Junk i e = absurd (false≢true (ap is_held e))
      go (Holds f) i e = record { whole = f; found = i; is = ap (face_or g) e }

  named_bare_so : (n : List ℕ) (g : Face Text) → bare_entry (entry n) ≡ Holds g → g.«module» ≡ n
  named_bare_so n g e = let b = found_bare n g e in ap (λ (f : Face Text). f.«module») (sym b.is) ∙ named n b.whole b.found

  all_spelled : (gs : List (Face Text)) → AreHeld (without entry) gs → AllByRecursion IsSpelled gs
  all_spelled [] h = tt
  all_spelled (g ∷ gs) h =
      let b = found_bare h.0.0 g h.0.1 in
      (subst IsSpelled b.is (bare_fits b.whole (spelled h.0.0 b.whole b.found)), all_spelled gs h.1)

  written_thin : IsWritten (thin k.walked.faces k.walked.made_so.checked_module)
  written_thin =
      let G = each bare k.walked.faces in
      let a = walk_again (without entry) named_bare_so k.tree.name.name (each imported k.tree.imports) G walked_without in
      let b : Build = record { source = text; against = G } in
      builds_are_written b (thin k.walked.faces k.walked.made_so.checked_module) (record { is = compiled_thin (only G) a.0; whole = refl; spelled = all_spelled G a.1 })

  -- WHAT IS WRITTEN of it has a spelling
  pub has_spelling : file.fits (object_by prints c) × face.fits (interface_by prints c)
  has_spelling =
      let F = k.walked.faces in
      let m = k.walked.made_so in
      subst (λ (x : Compiled Print). file.fits (object_by prints x) × face.fits (interface_by prints x)) (sym m.is)
      (subst file.fits (object_same F m.checked_module) written_thin.object, subst face.fits (interface_same F m.checked_module) written_thin.symbols)
