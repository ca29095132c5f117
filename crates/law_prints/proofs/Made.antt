-- A module that is compiled by prints is the one that is compiled by texts.
use Rattle.std.proofs.Common.{◌≡◌, ℕ, ◌+◌, Bool, true, false, List, [], ◌∷◌, ◌++◌, length, Option, Some, None, Result, Ok, Err, refl, sym, ap, ◌∙◌}
use Rattle.std.specs.Prelude.{map as each, nat_le}
use Rattle.std.specs.Option.{option_map}
use Rattle.std.specs.List.{flat_map}
use Rattle.std.proofs.lemmas.List.{map-append}
use Rattle.ob_tree.specs.declared.names.QName.{QName}
use Rattle.ob_tree.specs.declared.print.Print.{Print}
use Rattle.ob_tree.specs.declared.which.Which.{Which}
use Rattle.ob_tree.specs.declared.which.Which.TheVariants as which
use Rattle.ob_tree.specs.declared.decl.Module.{Module as Tree}
use Rattle.ob_types.specs.declared.desc.Desc.{Desc}
use Rattle.ob_types.specs.declared.face.Aspect.{Aspect}
use Rattle.ob_types.specs.declared.face.Interface.{Interface}
use Rattle.ob_types.specs.declared.typed.TypedModule.{TypedModule}
use Rattle.ob_types.specs.TypedSyntax.{Module}
use Rattle.ob_types.specs.TypedView.{module_view}
use Rattle.ob_types.specs.Maps.{listed}
use Rattle.ob_fprint.specs.Print.{print_from}
use Rattle.ob_obj.specs.declared.file.ObjFile.{ObjFile}
use Rattle.ob_obj.specs.Grammar.{file}
use Rattle.ob_sym.specs.Grammar.{face}
use Rattle.ob_layout.specs.LaidOut.{laid_out, viewed}
use Rattle.ob_layout.specs.Room.{first_limit}
use Rattle.ob_scheme.specs.Needs.{has_few_operands}
use Rattle.ob_scheme.specs.Object.{object_file}
use Rattle.ob_rules.specs.declared.broken.Broken.{Broken as BrokenRule}
use Rattle.ob_rules.specs.Declarations.{first_break, checked, deep_of, declaration, module_part}
use Rattle.ob_env.specs.Faces.{Face, Wanted, described, text_in, print_in, printed, interface_of}
use Rattle.ob_env.specs.Fit.{count_of}
use Rattle.ob_env.specs.Shown.{shown}
use Rattle.ob_uses.specs.declared.pair.Pair.{Pair}
use Rattle.ob_uses.specs.Uses.{with_kept, pairs_of}
use Rattle.ob_uses.specs.Made.{face_over, face_of_laid}
use Rattle.ob_compile_model.specs.Compiling.{Refusal, Compiled, prints, texts, exports_of, or_first, exceeded, most_code, limit_of_files, object_bytes, exceeds, within, made, of_checked, of_break, by_rules, and_limits, is_deep, unless_deep, of_faces}
use Rattle.law_prints.specs.Printed.{Text, wanted_printed, compiled_printed, result_printed}
use Rattle.law_prints.proofs.Faces.{described_same, shown_same, print_is, count_same}

-- ---- its interface

kept_is : (has : QName → Aspect → Option Text) (one : QName → Aspect → Option Print) → ((q : QName) (a : Aspect) → one q a ≡ option_map print_from (has q a)) → (p : Pair) → with_kept one p ≡ each wanted_printed (with_kept has p)
kept_is has one is p = ap (λ (o : Option Print). listed (option_map (λ k. record { object = p.object; aspect = p.aspect; kept = k }) o)) (is p.object p.aspect) ∙ go (has p.object p.aspect)
  where
    go : (o : Option Text) → listed (option_map (λ (k : Print). let w : Wanted Print = record { object = p.object; aspect = p.aspect; kept = k } in w) (option_map print_from o)) ≡ each wanted_printed (listed (option_map (λ (k : Text). let w : Wanted Text = record { object = p.object; aspect = p.aspect; kept = k } in w) o))
    go None = refl
    go (Some t) = refl

all_kept : (has : QName → Aspect → Option Text) (one : QName → Aspect → Option Print) → ((q : QName) (a : Aspect) → one q a ≡ option_map print_from (has q a)) → (ps : List Pair) → flat_map (with_kept one) ps ≡ each wanted_printed (flat_map (with_kept has) ps)
all_kept has one is [] = refl
all_kept has one is (p ∷ ps) = ap (λ (l : List (Wanted Print)). l ++ flat_map (with_kept one) ps) (kept_is has one is p) ∙ ap (λ (l : List (Wanted Print)). each wanted_printed (with_kept has p) ++ l) (all_kept has one is ps) ∙ sym (map-append wanted_printed (with_kept has p) (flat_map (with_kept has) ps))

over_is : (has : QName → Aspect → Option Text) (one : QName → Aspect → Option Print) → ((q : QName) (a : Aspect) → one q a ≡ option_map print_from (has q a)) → (map : QName → Option Desc) (names : ℕ) (m : Module) → face_over map names one m ≡ printed (face_over map names has m)
over_is has one is map names m = ap (λ (us : List (Wanted Print)). let f : Face Print = record { «module» = m.name; imports = m.imports; objects = (face_over map names has m).objects; uses = us } in f) (all_kept has one is (pairs_of map names m))

face_is : (fs : List (Face Text)) (m : Module) → face_of_laid (print_in (each printed fs)) (each printed fs) m ≡ printed (face_of_laid (text_in fs) fs m)
face_is fs m =
    ap (λ (map : QName → Option Desc). face_over (viewed map m) (length m.types + count_of (each printed fs)) (print_in (each printed fs)) m) (described_same fs)
    ∙ ap (λ (n : ℕ). face_over (viewed (described fs) m) (length m.types + n) (print_in (each printed fs)) m) (count_same fs)
    ∙ over_is (text_in fs) (print_in (each printed fs)) (print_is fs) (viewed (described fs) m) (length m.types + count_of fs) m

made_is : (fs : List (Face Text)) (m : Module) → made prints (each printed fs) m ≡ compiled_printed (made texts fs m)
made_is fs m = ap (λ (f : Face Print). let c : Compiled Print = record { tree = m; against = each printed fs; shows = f } in c) (face_is fs m)

-- ---- the rules

checked_is : (fs : List (Face Text)) (found : Option TypedModule) → of_checked prints (each printed fs) found ≡ result_printed (of_checked texts fs found)
checked_is fs None = refl
checked_is fs (Some m) = ap (λ (map : QName → Option Desc). Ok (made prints (each printed fs) (laid_out map (module_view m)))) (described_same fs) ∙ ap (λ (c : Compiled Print). Ok c) (made_is fs (laid_out (described fs) (module_view m)))

break_is : (fs : List (Face Text)) (found : Option TypedModule) (b : Option BrokenRule) → of_break prints (each printed fs) found b ≡ result_printed (of_break texts fs found b)
break_is fs found None = checked_is fs found
break_is fs found (Some b) = refl

rules_are : (fs : List (Face Text)) (tree : Tree) → by_rules prints (each printed fs) tree ≡ result_printed (by_rules texts fs tree)
rules_are fs tree = ap (λ (map : QName → Option Desc). of_break prints (each printed fs) (checked map tree) (first_break map tree)) (shown_same fs) ∙ break_is fs (checked (shown fs) tree) (first_break (shown fs) tree)

-- ---- the limits

-- the object file, over a map
file_over : Compiled Text → (QName → Option Desc) → ObjFile
file_over d map =
    let i : Interface = interface_of (printed d.shows) in
    object_file (viewed map d.tree) d.tree (exports_of i) i.uses

-- the first limit that is exceeded, over a map
limit_over : Compiled Text → (QName → Option Desc) → Option Which
limit_over d map =
    or_first (first_limit (viewed map d.tree) d.tree (length d.shows.objects))
    (or_first (exceeded (has_few_operands (viewed map d.tree) d.tree) which.Operands)
    (or_first (exceeded (nat_le (length (file_over d map).body.code) most_code) which.Code)
    (limit_of_files (file.spell (file_over d map)) (face.spell (interface_of (printed d.shows))))))

exceeds_same : (d : Compiled Text) → exceeds prints (compiled_printed d) ≡ exceeds texts d
unfolding limit_over file_over
exceeds_same d = ap (limit_over d) (described_same d.against)

-- the bytes of the object file
pub bytes_same : (d : Compiled Text) → object_bytes prints (compiled_printed d) ≡ object_bytes texts d
unfolding file_over
bytes_same d = ap (λ (map : QName → Option Desc). file.spell (file_over d map)) (described_same d.against)

within_is : (d : Compiled Text) (o : Option Which) → within (compiled_printed d) o ≡ result_printed (within d o)
within_is d None = refl
within_is d (Some w) = refl

limits_are : (r : Result (Compiled Text) (Refusal Text)) → and_limits prints (result_printed r) ≡ result_printed (and_limits texts r)
limits_are (Ok d) = ap (within (compiled_printed d)) (exceeds_same d) ∙ within_is d (exceeds texts d)
limits_are (Err q) = refl

deep_same : (fs : List (Face Text)) (tree : Tree) → is_deep (each printed fs) tree ≡ is_deep fs tree
deep_same fs tree = ap (λ (map : QName → Option Desc). deep_of map tree.name (each declaration tree.decls) (module_part map tree)) (shown_same fs)

deep_is : (b : Bool) (r : Result (Compiled Text) (Refusal Text)) → unless_deep b (result_printed r) ≡ result_printed (unless_deep b r)
deep_is true r = refl
deep_is false r = refl

-- WHAT A TREE IS against these interfaces
pub faces_are : (fs : List (Face Text)) (tree : Tree) → of_faces prints (each printed fs) tree ≡ result_printed (of_faces texts fs tree)
faces_are fs tree =
    ap (λ (b : Bool). unless_deep b (and_limits prints (by_rules prints (each printed fs) tree))) (deep_same fs tree)
    ∙ ap (λ (r : Result (Compiled Print) (Refusal Print)). unless_deep (is_deep fs tree) (and_limits prints r)) (rules_are fs tree)
    ∙ ap (unless_deep (is_deep fs tree)) (limits_are (by_rules texts fs tree))
    ∙ deep_is (is_deep fs tree) (and_limits texts (by_rules texts fs tree))
