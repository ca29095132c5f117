-- The interface of a module has a spelling.
use Rattle.std.proofs.Common.{ℕ, ◌+◌, ◌<◌, ◌≤◌, ◌^◌, List, [], ◌∷◌, ◌++◌, length, map, Option, Some, None, refl, sym, arith, length-append}
use Rattle.std.specs.List.{AllByRecursion, flat_map}
use Rattle.std.specs.Int.{w32, to_be_bytes}
use Rattle.ob_tree.specs.declared.names.QName.{QName}
use Rattle.ob_types.specs.declared.desc.Desc.{Desc}
use Rattle.ob_types.specs.declared.desc.Desc.TheVariants as desc
use Rattle.ob_types.specs.declared.face.Object.{Object}
use Rattle.ob_types.specs.declared.face.Use.{Use}
use Rattle.ob_types.specs.declared.face.Interface.{Interface}
use Rattle.ob_types.specs.Spelled.{use_form}
use Rattle.ob_format.specs.Format.{text32, optional, list_of, few}
use Rattle.ob_format.specs.Names.{name, object_name}
use Rattle.ob_desc.specs.Grammar.{shape_text, layout_text}
use Rattle.ob_sym.specs.Grammar as sym
use Rattle.ob_sym.specs.Grammar.{object_in, head, body, face}
use Rattle.ob_layout.specs.LaidOut.{viewed}
use Rattle.ob_env.specs.Fit.{count_of}
use Rattle.ob_env.specs.Faces.{described, object_of}
use Rattle.ob_uses.specs.Objects.{by_name, objects_of}
use Rattle.ob_compile_model.specs.Compiling.{texts, interface_by}
use Rattle.law_spelling.specs.Trees.{IsNamed, AreImports}
use Rattle.law_spelling.specs.Laws.{compiled_from, InterfacesAreWritten}
use Rattle.law_spelling.proofs.Lists.{each_strict, flat_long}
use Rattle.law_spelling.proofs.Names.{name_fits}
use Rattle.law_spelling.proofs.Limits.{within}
use Rattle.law_spelling.proofs.Uses.{uses_fit, many_uses}
use Rattle.law_spelling.proofs.Laid.{types_spelled}
use Rattle.law_spelling.proofs.Sizes.{types_laid}
use Rattle.law_spelling.proofs.Fit.{have_few}
use Rattle.law_spelling.proofs.Objects.{ObjectFits, objects_fit, objects_rise}
use Rattle.law_lists.proofs.Lists.{all_from, length_each}

-- ---- how long texts are

long_shape : (m : List ℕ) (o : Object) → length (shape_text (sym.object_of m o.name) o.desc) ≤ length ((object_in m).spell o)
unfolding object_in object_name text32
long_shape m o =
    let shape = shape_text (sym.object_of m o.name) o.desc in
    let last = (optional text32).spell (layout_text (sym.object_of m o.name) o.desc) in
    let a = length-append (object_name.spell o.name) (text32.spell shape ++ last) in
    let b = length-append (text32.spell shape) last in
    let c = length-append (to_be_bytes w32 (length shape)) shape in
    omega (arith, a, b, c)

layout_short : (q : QName) (d : Desc) → length ((optional text32).spell (layout_text q d)) < 2 ^ 32 → (optional text32).fits (layout_text q d)
unfolding optional text32
layout_short q (desc.Const v) h = tt
layout_short q (desc.Var m t) h = tt
layout_short q (desc.Proc s) h = tt
layout_short q (desc.Alias m t) h = tt
layout_short q (desc.Array m n t) h = tt
layout_short q (desc.OpenArray m t) h = tt
layout_short q (desc.Pointer m t) h = tt
layout_short q (desc.ProcType m s) h = tt
layout_short q (desc.Record r) h =
    let t = layout_text q (desc.Record r) in
    go t h
  where
    go : (o : Option (List ℕ)) → length ((optional text32).spell o) < 2 ^ 32 → (optional text32).fits o
    go None h = tt
    go (Some t) h = let c = length-append (to_be_bytes w32 (length t)) t in omega (arith, c, h)

long_layout : (m : List ℕ) (o : Object) → length ((optional text32).spell (layout_text (sym.object_of m o.name) o.desc)) ≤ length ((object_in m).spell o)
unfolding object_in
long_layout m o =
    let shape = shape_text (sym.object_of m o.name) o.desc in
    let last = (optional text32).spell (layout_text (sym.object_of m o.name) o.desc) in
    let a = length-append (object_name.spell o.name) (text32.spell shape ++ last) in
    let b = length-append (text32.spell shape) last in
    omega (arith, a, b)

one_object : (m : List ℕ) (o : List ℕ × Desc) → ObjectFits m o.0 o.1 → length ((object_in m).spell (object_of m o)) < 2 ^ 32 → (object_in m).fits (object_of m o)
unfolding object_in text32
one_object m o h l =
    let a = long_shape m (object_of m o) in
    let b = long_layout m (object_of m o) in
    record {
      spelled = h.spelled;
      within = (h.name, (omega (arith, a, l), layout_short (sym.object_of m o.0) o.1 (omega (arith, b, l))));
      shape = refl;
      layout = refl;
    }

all_objects : (m : List ℕ) (n : ℕ) → n < 2 ^ 32 → (os : List (List ℕ × Desc)) → AllByRecursion (λ o. ObjectFits m o.0 o.1) os → AllByRecursion (λ o. length ((object_in m).spell o) ≤ n) (map (object_of m) os) → AllByRecursion (object_in m).fits (map (object_of m) os)
all_objects m n l [] h k = tt
all_objects m n l (o ∷ os) h k = let b = k.0 in (one_object m o h.0 (omega (arith, b, l)), all_objects m n l os h.1 k.1)

-- ---- the bytes of the file hold those of each object and use

module _ (m : List ℕ) (i : List (List ℕ)) (os : List Object) (us : List Use) where
  abbrev made : Interface
  made = record { «module» = m; imports = i; objects = os; uses = us }

  holds_objects : length (flat_map (object_in m).spell os) ≤ length (face.spell made)
  unfolding face body list_of
  holds_objects =
      let h = head.spell (m, i) in
      let a = to_be_bytes w32 (length os) in
      let b = flat_map (object_in m).spell os in
      let c = to_be_bytes w32 (length us) ++ flat_map use_form.spell us in
      let x = length-append sym.magic (h ++ ((a ++ b) ++ c)) in
      let y = length-append h ((a ++ b) ++ c) in
      let z = length-append (a ++ b) c in
      let w = length-append a b in
      omega (arith, x, y, z, w)

  pub holds_uses : length (flat_map use_form.spell us) ≤ length (face.spell made)
  unfolding face body list_of
  holds_uses =
      let h = head.spell (m, i) in
      let a = to_be_bytes w32 (length os) ++ flat_map (object_in m).spell os in
      let c = to_be_bytes w32 (length us) in
      let d = flat_map use_form.spell us in
      let x = length-append sym.magic (h ++ (a ++ (c ++ d))) in
      let y = length-append h (a ++ (c ++ d)) in
      let z = length-append a (c ++ d) in
      let w = length-append c d in
      omega (arith, x, y, z, w)

-- ---- the whole

pub head_fits : (m : List ℕ) (is : List (List ℕ)) → IsNamed m → AreImports is → head.fits (m, is)
unfolding head list_of
head_fits m is n h = let l = h.few in (name_fits m n, ((omega (arith, l), all_from IsNamed name.fits name_fits is h.names), (h.few, h.once)))

pub interfaces_written : InterfacesAreWritten
unfolding face body list_of
interfaces_written faces raw b =
    let c = compiled_from faces raw in
    let w = within c b.limits in
    let m = c.tree in
    let i = interface_by texts c in
    let os = objects_of m in
    let laid = types_laid (described faces) raw (have_few faces b.fit) b.tree.differ w.bound in
    let fit = objects_fit m b.tree.name b.tree.constants b.tree.variables b.tree.procedures (types_spelled (described faces) raw raw.types b.tree.types) laid in
    let symbols = w.symbol_file in
    let a = holds_objects i.«module» i.imports i.objects i.uses in
    let d = holds_uses i.«module» i.imports i.objects i.uses in
    let many = many_uses i.uses in
    let short : AllByRecursion (λ o. length ((object_in m.name).spell o) ≤ 16777216) i.objects = flat_long (object_in m.name).spell 16777216 i.objects (omega (arith, symbols, a)) in
    let count = w.objects in
    let same = length_each (object_of m.name) os in
    let objects = all_objects m.name 16777216 (omega arith) os fit short in
    let sorted = each_strict by_name sym.by_name (object_of m.name) (λ x y. refl) os (objects_rise m) in
    let few_uses : length i.uses < 2 ^ 32 = omega (arith, symbols, d, many) in (
      (head_fits m.name m.imports b.tree.name b.tree.imports, ((((omega (arith, count, same)), objects), sorted), uses_fit faces b.spelled (viewed (described faces) m) (length m.types + count_of faces) m few_uses)),
      record { objects = omega (arith, count, same); imports = b.tree.imports.others },
    )
