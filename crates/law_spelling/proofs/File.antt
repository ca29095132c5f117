-- The object file of a module has a spelling.
use Rattle.std.proofs.Common.{◌≡◌, ◌≢◌, ℕ, suc, ◌+◌, ◌<◌, ◌≤◌, ◌^◌, Bool, true, false, cond, List, [], ◌∷◌, length, map, Option, Some, None, refl, sym, ap, subst, ◌∙◌, arith}
use Rattle.std.specs.Prelude.{IfSome, IsTrue, ◌&&◌, not, bytes_eq, codes}
use Rattle.std.specs.Option.{option_map}
use Rattle.std.specs.List.{AllByRecursion, IsDistinct}
use Rattle.std.specs.Ordering.{is_eq}
use Rattle.std.proofs.lemmas.Slice.Eq.{bytes_eq-Decides}
use Rattle.std.proofs.lemmas.Map.Text.{is_eq-slice_cmp}
use Rattle.ob_tree.specs.declared.names.QName.{QName}
use Rattle.ob_tree.specs.declared.print.Print.{Print}
use Rattle.ob_types.specs.declared.types.TypeRef.{TypeRef}
use Rattle.ob_types.specs.declared.desc.Desc.{Desc}
use Rattle.ob_types.specs.declared.typed.TypedType.{TypedType}
use Rattle.ob_types.specs.TypedSyntax.{Procedure, Module}
use Rattle.ob_format.specs.Format.{list_of, few, word32, ◌>>=◌}
use Rattle.ob_format.specs.Names.{name, is_object}
use Rattle.ob_desc.specs.Grammar.{shape_text, layout_text, IsSpelled as HasTexts}
use Rattle.ob_fprint.specs.Print.{print_from}
use Rattle.ob_sym.specs.Grammar as sym
use Rattle.ob_sym.specs.Grammar.{object_in}
use Rattle.ob_obj.specs.declared.file.ObjFile.{ObjFile}
use Rattle.ob_obj.specs.Grammar.{by_name, words_of, is_import, head, globals, links, body, IsSound, file, has_procedures}
use Rattle.ob_layout.specs.Words.{words_of as words_in}
use Rattle.ob_layout.specs.LaidOut.{is_own, type_named, viewed, laid_type}
use Rattle.ob_layout.specs.Room.{frame_words}
use Rattle.ob_env.specs.Faces.{Face, object_named, face_named, described, object_of}
use Rattle.ob_env.specs.Fit.{count_of}
use Rattle.ob_uses.specs.Objects.{by_name as by_object_name, objects_of}
use Rattle.ob_scheme.specs.Numbers.{nothing_named}
use Rattle.ob_scheme.specs.Context.{records_among, own_types}
use Rattle.ob_scheme.specs.Procedures.{body_of, all_procedures, within, module_code}
use Rattle.ob_scheme.specs.Object.{own, own_words, all_named, type_links, variables, commands}
use Rattle.ob_compile_model.specs.Compiling.{Compiled, texts, exports_of, object_by, interface_by}
use Rattle.law_load_plan.proofs.Globals.{globals_are}
use Rattle.law_spelling.specs.Trees.{TypedTypeIsSpelled, IsLaid}
use Rattle.law_spelling.specs.Coded.{BodyIsCoded}
use Rattle.law_spelling.specs.Lines.{LinesFit, HasRoom}
use Rattle.law_spelling.specs.Laws.{Text, IsSpelled, compiled_from, IsBuilt, ModulesAreWritten}
use Rattle.law_spelling.proofs.Lists.{each_strict}
use Rattle.law_spelling.proofs.Names.{is_object_of, face_found}
use Rattle.law_spelling.proofs.Limits.{IsWithin, within as limits_of}
use Rattle.law_spelling.proofs.Uses.{print_long, uses_fit, many_uses}
use Rattle.law_spelling.proofs.Laid.{types_spelled}
use Rattle.law_spelling.proofs.Sizes.{named_has, types_laid}
use Rattle.law_spelling.proofs.Fit.{have_few}
use Rattle.law_spelling.proofs.Objects.{ObjectFits, objects_fit, objects_rise}
use Rattle.law_spelling.proofs.Interface.{head_fits, holds_uses, interfaces_written}
use Rattle.law_spelling.proofs.Rooms.{DescIsSmall, texts_small, laid_small, MapIsSmall, sum_ones, rooms}
use Rattle.law_spelling.proofs.ModuleCode.{AreReady, all_lines, rows_fit, entries_inside, rows_many}
use Rattle.law_spelling.proofs.Numbered.{IsFew, instrs_fit, instrs_many, positions_fit, positions_many, are_there, AreNamed, lines_named, strings_fit, few_strings, links_fit, types_fit, lines_next, HasUpTo, lines_up_to}
use Rattle.law_spelling.proofs.Bytes.{types_long, many_variables, holds_types, holds_variables}
use Rattle.law_spelling.proofs.Exports.{ObjectIsPrinted, exports_fit, exports_rise, names_few, exports_many}
use Rattle.law_spelling.proofs.Parts.{bases_there, bases_named, bases_few, records_fit, records_many, records_have, records_apart, all_stand, all_inside, commands_fit, commands_procedures, variables_fit}
use Rattle.law_lists.proofs.Lists.{all_from, all_pairs, length_each}

-- ---- descriptions

texts_in : (m : List ℕ) (os : List (List ℕ × Desc)) → AllByRecursion (object_in m).fits (map (object_of m) os) → AllByRecursion (λ o. HasTexts (record { «module» = m; object = o.0 }) o.1) os
unfolding object_in
texts_in m [] h = tt
texts_in m (o ∷ os) h = (h.0.spelled, texts_in m os h.1)

face_texts : (f : Face Text) → IsSpelled f → AllByRecursion (λ o. HasTexts (record { «module» = f.«module»; object = o.0 }) o.1) f.objects
unfolding sym.face sym.body list_of
face_texts f h = texts_in f.«module» f.objects h.0.1.0.0.1

object_small : (m : List ℕ) (os : List (List ℕ × Desc)) → AllByRecursion (λ o. HasTexts (record { «module» = m; object = o.0 }) o.1) os → (x : List ℕ) (d : Desc) → object_named os x ≡ Some d → DescIsSmall d
object_small m [] h x d e = absurd cc
object_small m (o ∷ os) h x d e = go (bytes_eq x o.0) e (object_small m os h.1 x d)
  where
    go : (b : Bool) → cond b (Some o.1) (object_named os x) ≡ Some d → (object_named os x ≡ Some d → DescIsSmall d) → DescIsSmall d
    go true i rest = let same : o.1 ≡ d = cc in subst DescIsSmall same (texts_small (record { «module» = m; object = o.0 }) o.1 h.0)
    go false i rest = rest i

described_small : (fs : List (Face Text)) → AllByRecursion IsSpelled fs → (q : QName) (d : Desc) → described fs q ≡ Some d → DescIsSmall d
described_small fs h q d e = go (face_named fs q.«module») refl e
  where
    go : (o : Option (Face Text)) → face_named fs q.«module» ≡ o → (o >>= λ f. object_named f.objects q.object) ≡ Some d → DescIsSmall d
    go None i e = absurd cc
    go (Some f) i e = let k = face_found fs h q.«module» f i in object_small f.«module» f.objects (face_texts f k.spelled) q.object d e

viewed_small : (fs : List (Face Text)) → AllByRecursion IsSpelled fs → (m : Module) → AllByRecursion TypedTypeIsSpelled m.types → AllByRecursion (λ t. IsLaid t.desc) m.types → MapIsSmall (viewed (described fs) m)
viewed_small fs h m spelled laid q d e = go (is_own m q) e
  where
    small : AllByRecursion (λ t. DescIsSmall t.desc) m.types
    small = all_from (λ t. TypedTypeIsSpelled t × IsLaid t.desc) (λ t. DescIsSmall t.desc) (λ t k. laid_small t.desc k.0.1 k.1) m.types (all_pairs TypedTypeIsSpelled (λ t. IsLaid t.desc) m.types spelled laid)

    go : (b : Bool) → cond b (type_named m.types q.object) (described fs q) ≡ Some d → DescIsSmall d
    go true i = named_has DescIsSmall m.types small q.object d i
    go false i = described_small fs h q d i

-- ---- the head

allowed : (n : List ℕ) → (n ≢ codes "Out") × (n ≢ codes "SYSTEM") → is_import n ≡ true
allowed n h = both (not (is_eq (by_name n (79 ∷ 117 ∷ 116 ∷ [])))) (not (is_eq (by_name n (83 ∷ 89 ∷ 83 ∷ 84 ∷ 69 ∷ 77 ∷ [])))) (other n (79 ∷ 117 ∷ 116 ∷ []) h.0) (other n (83 ∷ 89 ∷ 83 ∷ 84 ∷ 69 ∷ 77 ∷ []) h.1)
  where
    both : (a b : Bool) → a ≡ true → b ≡ true → a && b ≡ true
    both true b e f = f
    both false b e f = e

    is_false : (b : Bool) → (b ≡ true → ⊥) → not b ≡ true
    is_false true k = absurd (k refl)
    is_false false k = refl

    other : (n x : List ℕ) → (n ≢ x) → not (is_eq (by_name n x)) ≡ true
    other n x k = ap not (is_eq-slice_cmp n x) ∙ is_false (bytes_eq n x) (λ e. k ((bytes_eq-Decides n x).0 e))

printed : (m : List ℕ) (os : List (List ℕ × Desc)) → AllByRecursion (λ o. ObjectFits m o.0 o.1) os → AllByRecursion ObjectIsPrinted (map (object_of m) os)
printed m [] h = tt
printed m (o ∷ os) h = (record { name = h.0.name; shape = print_long (shape_text q o.1); layout = go (layout_text q o.1) }, printed m os h.1)
  where
    q : QName
    q = record { «module» = m; object = o.0 }

    go : (t : Option (List ℕ)) → IfSome (option_map print_from t) (λ (p : Print). length p.0 ≡ 8)
    go None = tt
    go (Some t) = print_long t

-- ---- one build

module _ (faces : List (Face Text)) (raw : Module) (b : IsBuilt faces raw) where
  abbrev c : Compiled Text
  c = compiled_from faces raw

  abbrev m : Module
  m = c.tree

  abbrev types : QName → Option Desc
  types = viewed (described faces) m

  abbrev obj : ObjFile
  obj = object_by texts c

  abbrev w : IsWithin c
  w = limits_of c b.limits

  spelled : AllByRecursion TypedTypeIsSpelled m.types
  spelled = types_spelled (described faces) raw raw.types b.tree.types

  laid : AllByRecursion (λ t. IsLaid t.desc) m.types
  laid = types_laid (described faces) raw (have_few faces b.fit) b.tree.differ w.bound

  small : MapIsSmall types
  small = viewed_small faces b.spelled m spelled laid

  words_small : (t : TypeRef) → words_in types t < 2 ^ 31
  words_small t = let a = b.code.words t in omega (arith, a)

  -- the words of all globals
  all_words : own_words types m + words_of obj.globals.strings ≤ 262144
  all_words = let a = globals_are types m (exports_of (interface_by texts c)) (interface_by texts c).uses w.globals in let l = w.globals in omega (arith, a, l)

  -- record types are not too many
  names_are_objects : (ts : List TypedType) → AllByRecursion TypedTypeIsSpelled ts → AllByRecursion (λ t. is_object t.name ≡ true) ts
  names_are_objects [] h = tt
  names_are_objects (t ∷ ts) h = (is_object_of t.name h.0.0, names_are_objects ts h.1)

  few_records : length obj.body.types ≤ 1048576
  few_records =
      let a = types_long obj.body.types (records_have types m (λ x. is_object x ≡ true) (type_links types m) m.types (names_are_objects m.types spelled)) in
      let h = holds_types obj in
      let l = w.object_file in
      omega (arith, a, h, l)

  few_own : own_types (own types m) ≤ 2 ^ 24
  few_own =
      let a = records_many types m (type_links types m) m.types in
      let s = sum_ones (records_among m.types) in
      let l = few_records in
      omega (arith, a, s, l)

  room_of : (p : Procedure) → frame_words (words_in types) p ≤ 1048576 → HasRoom (within types m p)
  room_of p f = rooms types m p small words_small (let a = all_words in omega (arith, a)) w.procedures few_own f

  ready_all : (ps : List Procedure) → AllByRecursion (λ p. frame_words (words_in types) p ≤ 1048576) ps → AllByRecursion (BodyIsCoded types m) ps → AreReady types m ps
  ready_all [] f h = tt
  ready_all (p ∷ ps) f h = (record { room = room_of p f.0; frame = f.0; coded = h.0 }, ready_all ps f.1 h.1)

  body_frame : frame_words (words_in types) (body_of m) ≤ 1048576
  body_frame = let h = w.hidden in omega (arith, h)

  ready : AreReady types m (all_procedures m)
  ready = (record { room = room_of (body_of m) body_frame; frame = body_frame; coded = record { at = (omega arith, omega arith); body = b.code.body } }, ready_all m.procedures w.frames b.code.bodies)

  code_short : length (module_code types m) ≤ 262144
  code_short = let a = instrs_many (nothing_named (own_words types m)) (module_code types m) in let l = w.code in omega (arith, a, l)

  lines : LinesFit 0 (module_code types m)
  lines = all_lines types m (all_procedures m) 0 ready w.operands (let l = code_short in omega (arith, l))

  named : AreNamed (all_named types m)
  named = lines_named (nothing_named (own_words types m)) 0 (module_code types m) (record { strings = tt; variables = tt; procedures = tt; types = tt }) lines

  up_to : HasUpTo (0 + (length (module_code types m) + length (module_code types m))) (all_named types m)
  up_to = lines_up_to 0 (nothing_named (own_words types m)) (module_code types m) (record { variables = omega arith; procedures = omega arith; types = omega arith })

  few_named : IsFew (all_named types m)
  few_named =
      let n = lines_next (nothing_named (own_words types m)) (module_code types m) in
      let a = all_words in
      let l = code_short in
      let v = up_to.variables in
      let p = up_to.procedures in
      let t = up_to.types in
      record { next = omega (arith, n, a); variables = omega (arith, l, v); procedures = omega (arith, l, p); types = omega (arith, l, t) }

  -- ---- its parts

  abbrev os : List (List ℕ × Desc)
  os = objects_of m

  objects : AllByRecursion (λ o. ObjectFits m.name o.0 o.1) os
  objects = objects_fit m b.tree.name b.tree.constants b.tree.variables b.tree.procedures spelled laid

  few_uses : length (interface_by texts c).uses < 2 ^ 32
  few_uses =
      let i = interface_by texts c in
      let d = holds_uses i.«module» i.imports i.objects i.uses in
      let many = many_uses i.uses in
      let l = w.symbol_file in
      omega (arith, d, many, l)

  head_written : head.fits obj.head
  unfolding head list_of sym.head
  head_written =
      let i = interface_by texts c in
      let h = head_fits m.name m.imports b.tree.name b.tree.imports in
      let sorted = each_strict by_object_name sym.by_name (object_of m.name) (λ x y. refl) os (objects_rise m) in
      let count = w.objects in
      let same = length_each (object_of m.name) os in
      let many = exports_many i.objects in
      let names = names_few i.objects in (
        (
          h.0,
          (
            h.1,
            (
              ((omega (arith, count, same, many), exports_fit i.objects (printed m.name os objects)), exports_rise i.objects sorted),
              uses_fit faces b.spelled types (length m.types + count_of faces) m few_uses,
            ),
          ),
        ),
        record { imports = all_from (λ n. (n ≢ codes "Out") × (n ≢ codes "SYSTEM")) (λ n. IsTrue (is_import n)) allowed m.imports b.tree.imports.others; names = omega (arith, names, count, same) },
      )

  globals_written : globals.fits obj.globals
  unfolding globals list_of word32
  globals_written =
      let a = all_words in
      let strings = strings_fit obj.globals.strings named.strings (omega (arith, a)) in
      let few = few_strings obj.globals.strings named.strings in
      let many = many_variables obj.globals.variables in
      let holds = holds_variables obj in
      let l = w.object_file in
      let r = room_of (body_of m) body_frame in
      ((omega (arith, a), ((omega (arith, a, few), strings), variables_fit types m r.variables b.tree.variables (omega (arith, many, holds, l)))), a)

  links_few : length obj.links.types < 2 ^ 31
  links_few =
      let t = few_named.types in
      let k = bases_few types m (all_named types m).types m.types in
      let a = records_many types m (type_links types m) m.types in
      let l = few_records in
      omega (arith, t, k, a, l)

  links_written : links.fits obj.links
  unfolding links list_of
  links_written =
      let f = few_named in
      let v = f.variables in
      let p = f.procedures in
      let t = links_few in
      ((
        (omega (arith, v), links_fit obj.links.variables named.variables),
        (
          (omega (arith, p), links_fit obj.links.procedures named.procedures),
          (omega (arith, t), types_fit obj.links.types (bases_named types m (all_named types m).types 0 m.types named.types b.code.bases)),
        ),
      ))

  laid_names : (ts : List TypedType) → map (λ t. t.name) (map (laid_type (described faces) raw) ts) ≡ map (λ t. t.name) ts
  laid_names [] = refl
  laid_names (t ∷ ts) = ap (λ (l : List (List ℕ)). t.name ∷ l) (laid_names ts)

  names_differ : IsDistinct bytes_eq (map (λ t. t.name) m.types)
  names_differ = subst (IsDistinct bytes_eq) (sym (laid_names raw.types)) b.tree.differ

  body_written : body.fits obj.body
  unfolding body list_of
  body_written =
      let r = room_of (body_of m) body_frame in
      let code = instrs_many (nothing_named (own_words types m)) (module_code types m) in
      let short = code_short in
      let positions = positions_many 0 (module_code types m) in
      let l = few_records in
      let rows = rows_many types m (all_procedures m) 0 in
      let p = w.procedures in
      let top_short : 0 + length (module_code types m) ≤ 1073741824 = omega (arith, short) in (
        (((omega (arith, l), records_fit types m (type_links types m) w.procedures links_few few_own r.types m.types spelled (bases_there types m (all_named types m).types m.types) w.words w.bound b.code.numbers), (l, records_apart types m (type_links types m) m.types names_differ))),
        (
          (omega (arith, rows, p), rows_fit types m b.code.words (all_procedures m) 0 ready top_short),
          (
            commands_fit types m w.procedures b.tree.procedures,
            (
              (omega (arith, code, short), instrs_fit (nothing_named (own_words types m)) 0 (module_code types m) few_named lines),
              (omega (arith, positions, short), positions_fit 0 (module_code types m) (omega (arith, short)) lines),
            ),
          ),
        ),
      )

  sound_written : IsSound obj
  sound_written =
      let code = instrs_many (nothing_named (own_words types m)) (module_code types m) in
      let rows = rows_many types m (all_procedures m) 0 in
      let p = w.procedures in
      record {
        few_procedures = omega (arith, rows, p);
        few_instructions = w.code;
        bases = all_stand types m (type_links types m) 0 m.types (bases_there types m (all_named types m).types m.types) b.code.bases;
        definitions = all_from (λ t. has_procedures (suc (length m.procedures)) t ≡ true) (λ t. IsTrue (has_procedures (length obj.body.procedures) t)) (λ t e. let same : suc (length m.procedures) ≡ length obj.body.procedures = omega (arith, rows) in subst (λ n. has_procedures n t ≡ true) same e) obj.body.types (all_inside types m (type_links types m) m.types);
        main = refl;
        entries = entries_inside types m (all_procedures m) 0 (length obj.body.code) (omega (arith, code));
        commands = all_from (λ c. c.procedure < suc (length m.procedures)) (λ c. c.procedure < length obj.body.procedures) (λ c l. omega (arith, l, rows)) obj.body.commands (commands_procedures types m b.tree.procedures);
        positions = are_there (nothing_named (own_words types m)) 0 (module_code types m) lines;
      }

  object_written : file.fits obj
  unfolding file
  object_written = ((head_written, (globals_written, (links_written, body_written))), sound_written)

pub modules_written : ModulesAreWritten
modules_written faces raw b = record { object = object_written faces raw b; symbols = interfaces_written faces raw b }
