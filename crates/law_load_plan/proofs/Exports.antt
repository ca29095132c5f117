-- The exports of an object file are the objects of the interface, by their prints.
use Rattle.std.proofs.Common.{◌≡◌, ℕ, Bool, true, false, cond, List, [], ◌∷◌, ◌++◌, map, Option, Some, None, refl, sym, ap, subst, ◌∙◌}
use Rattle.std.specs.Prelude.{if◌then◌else◌, bytes_eq, ◌&&◌}
use Rattle.std.specs.Option.{option_map}
use Rattle.std.specs.List.{AllByRecursion, filter, flat_map}
use Rattle.std.specs.List.Sorted.{IsStrictlySortedBy}
use Rattle.std.specs.Ordering.{is_eq}
use Rattle.std.specs.declared.cmp.Ordering.TheVariants.{Less}
use Rattle.std.proofs.lemmas.Cmp.{nat_list_cmp_total, on_total}
use Rattle.std.proofs.lemmas.Slice.Eq.{bytes_eq-Decides}
use Rattle.std.proofs.lemmas.Map.Text.{is_eq-slice_cmp}
use Rattle.ob_tree.specs.declared.names.QName.{QName}
use Rattle.ob_tree.specs.declared.print.Print.{Print}
use Rattle.ob_types.specs.declared.desc.Desc.{Desc}
use Rattle.ob_types.specs.declared.face.Aspect.{Aspect}
use Rattle.ob_types.specs.declared.face.Aspect.TheVariants as aspect
use Rattle.ob_types.specs.TypedSyntax.{Module}
use Rattle.ob_format.specs.Format.{◌>>=◌}
use Rattle.ob_desc.specs.Grammar.{is_shown, seen, shape_text, layout_text, text_of}
use Rattle.ob_fprint.specs.Print.{print_from}
use Rattle.ob_obj.specs.declared.parts.Export.{Export}
use Rattle.ob_env.specs.Faces.{Face, object_named, object_of, interface_of, printed}
use Rattle.ob_uses.specs.Objects.{by_name, is_exported, constant_object, variable_object, procedure_object, in_places, type_object, types_among, reached_types, objects_of}
use Rattle.law_load_plan.proofs.Orders.{all_in_order, order_strict}
use Rattle.ob_uses.proofs.Objecting.{seen_twice}
use Rattle.ob_compile_model.specs.Compiling.{layout_export, object_exports, exports_of}
use Rattle.ob_link.specs.Files.{same_aspect, exported}
use Rattle.law_load_plan.specs.Compiled.{text_shown}
use Rattle.law_load_plan.proofs.Asked.{all_joined}

abbrev Named : Type 0
Named = List ℕ × Desc

pub eq_itself : (n : List ℕ) → bytes_eq n n ≡ true
eq_itself n = (bytes_eq-Decides n n).1 refl

-- ---- names below others

differs : (a b : List ℕ) (o : Named) (y : Named) → a ≡ o.0 → b ≡ y.0 → by_name o y ≡ Less → bytes_eq a b ≡ false
differs a b o y e f h =
    ap (λ n. bytes_eq n b) e ∙ ap (λ n. bytes_eq o.0 n) f ∙ sym (is_eq-slice_cmp o.0 y.0) ∙ ap is_eq h

below_differ : (n : List ℕ) (o : Named) (os : List Named) → n ≡ o.0 → AllByRecursion (λ y. by_name o y ≡ Less) os → AllByRecursion (λ y. bytes_eq n y.0 ≡ false) os
below_differ n o [] e h = tt
below_differ n o (y ∷ ys) e h = (differs n y.0 o y e refl h.0, below_differ n o ys e h.1)

-- ---- one export after the other

abbrev found_first : Bool → Bool → Print → Option Print → Option Print
found_first b c p more = if b && c then Some p else more

skip_layout : (n x : List ℕ) (a : Aspect) (o : Option Print) (rest : List Export) → bytes_eq n x ≡ false → exported n a (layout_export x o ++ rest) ≡ exported n a rest
skip_layout n x a None rest e = refl
skip_layout n x a (Some p) rest e = ap (λ b. found_first b (same_aspect a aspect.Layout) p (exported n a rest)) e

take_layout : (n x : List ℕ) (o : Option Print) (rest : List Export) → bytes_eq n x ≡ true → exported n aspect.Layout rest ≡ None → exported n aspect.Layout (layout_export x o ++ rest) ≡ o
take_layout n x None rest e h = h
take_layout n x (Some p) rest e h = ap (λ b. found_first b (same_aspect aspect.Layout aspect.Layout) p (exported n aspect.Layout rest)) e

module _ (m : List ℕ) where
  abbrev qualified : List ℕ → QName
  qualified n = record { «module» = m; object = n }

  abbrev shape_print : Named → Print
  shape_print o = print_from (shape_text (qualified o.0) o.1)

  abbrev layout_print : Named → Option Print
  layout_print o = option_map print_from (layout_text (qualified o.0) o.1)

  abbrev all_exports : List Named → List Export
  all_exports os = flat_map object_exports (map (object_of m) os)

  skip_object : (n : List ℕ) (a : Aspect) (o : Named) (rest : List Export) → bytes_eq n o.0 ≡ false → exported n a (object_exports (object_of m o) ++ rest) ≡ exported n a rest
  skip_object n a o rest e =
      ap (λ b. found_first b (same_aspect a aspect.Shape) (shape_print o) (exported n a (layout_export o.0 (layout_print o) ++ rest))) e
      ∙ skip_layout n o.0 a (layout_print o) rest e

  none_exported : (n : List ℕ) (a : Aspect) (os : List Named) → AllByRecursion (λ y. bytes_eq n y.0 ≡ false) os → exported n a (all_exports os) ≡ None
  none_exported n a [] h = refl
  none_exported n a (o ∷ os) h = skip_object n a o (all_exports os) h.0 ∙ none_exported n a os h.1

  abbrev shown_print : List ℕ → Aspect → Option Desc → Option Print
  shown_print n a o = option_map print_from (o >>= λ d. text_of (qualified n) d a)

  take_object : (n : List ℕ) (a : Aspect) (o : Named) (os : List Named) → bytes_eq n o.0 ≡ true → seen o.1 ≡ o.1 → AllByRecursion (λ y. by_name o y ≡ Less) os → exported n a (object_exports (object_of m o) ++ all_exports os) ≡ shown_print n a (Some o.1)
  take_object n aspect.Shape o os e s below =
      ap (λ b. found_first b (same_aspect aspect.Shape aspect.Shape) (shape_print o) (exported n aspect.Shape (layout_export o.0 (layout_print o) ++ all_exports os))) e
      ∙ ap (λ x. Some (print_from (shape_text (qualified x) o.1))) (sym ((bytes_eq-Decides n o.0).0 e))
      ∙ ap (λ d. Some (print_from (shape_text (qualified n) d))) (sym s)
  take_object n aspect.Layout o os e s below =
      ap (λ b. found_first b (same_aspect aspect.Layout aspect.Shape) (shape_print o) (exported n aspect.Layout (layout_export o.0 (layout_print o) ++ all_exports os))) e
      ∙ take_layout n o.0 (layout_print o) (all_exports os) e (none_exported n aspect.Layout os (below_differ n o os ((bytes_eq-Decides n o.0).0 e) below))
      ∙ ap (λ x. option_map print_from (layout_text (qualified x) o.1)) (sym ((bytes_eq-Decides n o.0).0 e))

  exported_are : (n : List ℕ) (a : Aspect) (os : List Named) → IsStrictlySortedBy by_name os → AllByRecursion (λ o. seen o.1 ≡ o.1) os → exported n a (all_exports os) ≡ shown_print n a (object_named os n)
  unfolding IsStrictlySortedBy
  exported_are n a [] sorted s = refl
  exported_are n a (o ∷ os) sorted s = go (bytes_eq n o.0) refl (exported_are n a os sorted.1 s.1)
    where
      go : (b : Bool) → bytes_eq n o.0 ≡ b → exported n a (all_exports os) ≡ shown_print n a (object_named os n) → exported n a (object_exports (object_of m o) ++ all_exports os) ≡ shown_print n a (cond b (Some o.1) (object_named os n))
      go true e h = take_object n a o os e s.0 sorted.0
      go false e h = skip_object n a o (all_exports os) e ∙ h

-- ---- the objects of a module

each_seen : {A : Type 0} (f : A → Named) → ((x : A) → seen (f x).1 ≡ (f x).1) → (xs : List A) → AllByRecursion (λ o. seen o.1 ≡ o.1) (map f xs)
each_seen f h [] = tt
each_seen f h (x ∷ xs) = (h x, each_seen f h xs)

objects_seen : (t : Module) → AllByRecursion (λ o. seen o.1 ≡ o.1) (objects_of t)
objects_seen t =
    let P : Named → Type 0 = λ o. seen o.1 ≡ o.1 in
    let cs : List Named = map constant_object (filter (λ c. is_shown c.mark) t.constants) in
    let vs : List Named = map variable_object (filter (λ v. is_shown v.mark) t.variables) in
    let ps : List Named = map procedure_object (filter is_exported t.procedures) in
    let ts : List Named = map type_object (types_among t (reached_types t)) in
    all_in_order by_name P (cs ++ vs ++ ps ++ ts)
    (all_joined P (cs ++ vs ++ ps) ts
    (all_joined P (cs ++ vs) ps (all_joined P cs vs (each_seen constant_object (λ c. refl) (filter (λ c. is_shown c.mark) t.constants)) (each_seen variable_object (λ v. refl) (filter (λ v. is_shown v.mark) t.variables))) (each_seen procedure_object (λ p. refl) (filter is_exported t.procedures)))
    (each_seen type_object (λ x. seen_twice (in_places x.desc)) (types_among t (reached_types t))))

objects_sorted : (t : Module) → IsStrictlySortedBy by_name (objects_of t)
objects_sorted t = order_strict (on_total (λ (o : Named). o.0) nat_list_cmp_total) (map constant_object (filter (λ c. is_shown c.mark) t.constants) ++ map variable_object (filter (λ v. is_shown v.mark) t.variables) ++ map procedure_object (filter is_exported t.procedures) ++ map type_object (types_among t (reached_types t)))

-- WHAT AN OBJECT FILE EXPORTS
pub exports_shown : (t : Module) (face : Face (List ℕ)) → face.objects ≡ objects_of t → (n : List ℕ) (a : Aspect) → exported n a (exports_of (interface_of (printed face))) ≡ option_map print_from (text_shown face n a)
exports_shown t face e n a =
    exported_are face.module n a face.objects (subst (λ os. IsStrictlySortedBy by_name os) (sym e) (objects_sorted t)) (subst (λ os. AllByRecursion (λ o. seen o.1 ≡ o.1) os) (sym e) (objects_seen t))
    ∙ ap (λ b. option_map print_from ((cond b (Some face) None >>= λ f. object_named f.objects n) >>= λ d. text_of (record { «module» = face.module; object = n }) d a)) (sym (eq_itself face.module))
