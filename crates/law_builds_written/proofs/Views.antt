-- The map that a module is compiled with.
use Rattle.std.proofs.Common.{◌≡◌, refl, sym, ap, subst, ◌∙◌, ℕ, suc, ◌+◌, Bool, true, false, List, [], ◌∷◌, map as each, Option, Some, None, cond, codes}
use Rattle.std.specs.Prelude.{bytes_eq, ◌&&◌, MatchOption, IsTrue}
use Rattle.std.specs.Option.{option_map}
use Rattle.std.specs.List.{AllByRecursion, find}
use Rattle.ob_tree.specs.declared.names.QName.{QName}
use Rattle.ob_tree.specs.declared.decl.Module.{Module as Tree}
use Rattle.ob_types.specs.declared.types.TypeRef.{TypeRef}
use Rattle.ob_types.specs.declared.types.TypeRef.TheVariants as ref
use Rattle.ob_types.specs.declared.desc.Desc.{Desc}
use Rattle.ob_types.specs.declared.desc.Desc.TheVariants as desc
use Rattle.ob_types.specs.declared.desc.Field.{Field}
use Rattle.ob_types.specs.declared.desc.Method.{Method}
use Rattle.ob_types.specs.declared.typed.TypedType.{TypedType}
use Rattle.ob_types.specs.declared.typed.TypedModule.{TypedModule}
use Rattle.ob_types.specs.TypedSyntax.{Module}
use Rattle.ob_types.specs.TypedView.{module_view}
use Rattle.ob_types.specs.Maps.{is_type, named_by, IsHeld}
use Rattle.ob_types.specs.Relations.{IsGrounded}
use Rattle.ob_format.specs.Format.{◌>>=◌}
use Rattle.ob_layout.specs.LaidOut.{type_named, viewed, base_of, placed, numbered, laid_record, laid_desc, laid_type, words_in, procedures_in}
use Rattle.ob_env.specs.Faces.{Face, object_named, face_named, described}
use Rattle.ob_env.specs.Fit as fit
use Rattle.ob_env.specs.Shown.{unplaced, unnumbered, blank, shown}
use Rattle.ob_rules.specs.Shapes.{Map, same_name}
use Rattle.ob_rules.specs.Names.{Around, type_desc, own_desc, is_out, out_string}
use Rattle.ob_rules.specs.Depth.{is_within}
use Rattle.ob_rules.specs.Declarations.{declaration, module_part, typed_module}
use Rattle.law_simulation_relation.proofs.Names.{bytes_true, bytes_sym, bytes_same}
use Rattle.law_names_distinct.proofs.Blocks.{unbroken_is, not_out}
use Rattle.law_acyclic.specs.Laws.{IsApart, around_types, types_of, IsChecked, IsNotOut, AreGrounded}
use Rattle.law_acyclic.proofs.Grounded.{modules_are_grounded}
use Rattle.law_builds_written.specs.Laws.{Text, IsCheckedOver, laid, AreShort, ViewsAreGrounded, ViewsAreShort}
use Rattle.law_builds_written.proofs.Same.{blanked, blank_twice, same_grounded, short_to}
use Rattle.law_lists.proofs.Lists.{and_parts}

-- ---- records that are laid out are the same but for places, numbers and words

placed_blank : (words : TypeRef → ℕ) (at : ℕ) (fs : List Field) → each unplaced (placed words at fs) ≡ each unplaced fs
placed_blank words at [] = refl
placed_blank words at (f ∷ fs) = ap (λ gs. unplaced f ∷ gs) (placed_blank words (at + words f.of) fs)

numbered_blank : (n : ℕ) (ms : List Method) → each unnumbered (numbered n ms) ≡ each unnumbered ms
numbered_blank n [] = refl
numbered_blank n (m ∷ ms) = ap (λ gs. unnumbered m ∷ gs) (numbered_blank (suc n) ms)

laid_blank : (words procedures : TypeRef → ℕ) (q : QName) (d : Desc) → blank (laid_desc words procedures q d) ≡ blank d
laid_blank words procedures q (desc.Record r) = ap (λ fs. desc.Record (record r { fields = fs; methods = each unnumbered (numbered (base_of procedures r.base) r.methods); words = 0; procedures = 0 })) (placed_blank words (base_of words r.base) r.fields) ∙ ap (λ ms. desc.Record (record r { fields = each unplaced r.fields; methods = ms; words = 0; procedures = 0 })) (numbered_blank (base_of procedures r.base) r.methods)
laid_blank words procedures q (desc.Const v) = refl
laid_blank words procedures q (desc.Var m t) = refl
laid_blank words procedures q (desc.Proc s) = refl
laid_blank words procedures q (desc.Alias m t) = refl
laid_blank words procedures q (desc.Array m n t) = refl
laid_blank words procedures q (desc.OpenArray m t) = refl
laid_blank words procedures q (desc.Pointer m t) = refl
laid_blank words procedures q (desc.ProcType m s) = refl

shown_blank : (o : Option Desc) → blanked o ≡ blanked (option_map blank o)
shown_blank None = refl
shown_blank (Some d) = ap (λ d. Some d) (sym (blank_twice d))

out_same : (q : QName) → same_name q out_string ≡ true → q ≡ out_string
out_same q e =
    let p = and_parts (bytes_eq q.«module» out_string.«module») (bytes_eq q.object out_string.object) e in
    ap (λ (n : List ℕ). let p : QName = record { «module» = n; object = q.object } in p) (bytes_true q.«module» out_string.«module» p.0) ∙ ap (λ (n : List ℕ). let p : QName = record { «module» = out_string.«module»; object = n } in p) (bytes_true q.object out_string.object p.1)

no_face : (faces : List (Face Text)) (unit x : List ℕ) → AllByRecursion (λ (f : Face Text). bytes_eq f.«module» unit ≡ false) faces → bytes_eq x unit ≡ true → face_named faces x ≡ None
no_face [] unit x h e = refl
no_face (f ∷ fs) unit x h e = by (bytes_eq x f.«module») refl (no_face fs unit x h.1 e)
  where
    by : (b : Bool) → bytes_eq x f.«module» ≡ b → face_named fs x ≡ None → cond b (Some f) (face_named fs x) ≡ None
    by true g r = let bad : false ≡ true = sym h.0 ∙ ap (λ n. bytes_eq n unit) (sym (bytes_true x f.«module» g)) ∙ e in absurd cc
    by false g r = r

module _ (faces : List (Face Text)) (grounded : IsGrounded (described faces)) (out : described faces out_string ≡ None) where
  -- ---- what is shown

  not_out_of : (t : TypeRef) → IsHeld (described faces) t → IsNotOut t
  not_out_of (ref.Basic b) h = tt
  not_out_of (ref.Named q) h = by (same_name q out_string) refl
    where
      by : (b : Bool) → same_name q out_string ≡ b → b ≡ false
      by false e = refl
      by true e = absurd (subst (λ o. MatchOption o ⊥ (λ d. IsTrue (is_type d))) (ap (described faces) (out_same q e) ∙ out) h)

  all_not_out : (ts : List TypeRef) → AllByRecursion (λ t. IsHeld (described faces) t) ts → AllByRecursion IsNotOut ts
  all_not_out [] h = tt
  all_not_out (t ∷ ts) h = (not_out_of t h.0, all_not_out ts h.1)

  none_shown : (q : QName) → same_name q out_string ≡ true → shown faces q ≡ None
  none_shown q e = ap (option_map blank) (ap (described faces) (out_same q e) ∙ out)

  pub shown_grounded : IsGrounded (shown faces)
  shown_grounded = same_grounded (described faces) (shown faces) (λ q o. shown_blank (described faces q)) (λ q d o f. all_not_out (named_by d) (grounded.held q d f)) none_shown grounded

  pub shown_apart : (unit : List ℕ) → AllByRecursion (λ (f : Face Text). bytes_eq f.«module» unit ≡ false) faces → IsApart (shown faces) unit
  shown_apart unit others = record {
    own = λ q e. ap (λ o. option_map blank (o >>= λ f. object_named f.objects q.object)) (no_face faces unit q.«module» others e);
    out = ap (option_map blank) out;
  }

-- ---- the view

module _ (faces : List (Face Text)) (tree : Tree) (m : TypedModule) (c : IsCheckedOver faces tree m) where
  pub checked_so : IsChecked (shown faces) tree m
  checked_so = record {
    is = c.is;
    shallow = c.shallow;
    grounded = shown_grounded faces c.grounded c.out;
    apart = shown_apart faces c.grounded c.out tree.name.name c.others;
    imports = c.imports;
    names = c.names;
  }

  are : AreGrounded (shown faces) tree m
  are = modules_are_grounded (shown faces) tree m checked_so

  abbrev M : Map
  M = types_of (shown faces) tree m

  abbrev V : Map
  V = viewed (described faces) (laid faces m)

  name_is : m.name ≡ tree.name.name
  name_is = let k = unbroken_is (module_part (shown faces) tree).notes.broken (typed_module (shown faces) tree.name tree.imports (each declaration tree.decls) (module_part (shown faces) tree)) m c.is in sym (ap (λ (x : TypedModule). x.name) k.1)

  out_not : is_out m.name ≡ false
  out_not = not_out (shown faces) tree m c.is

  found_same : (ts : List TypedType) (x : List ℕ) → blanked (own_desc (find (λ t. bytes_eq t.name x) ts)) ≡ blanked (type_named (each (laid_type (described faces) (module_view m)) ts) x)
  found_same [] x = refl
  found_same (t ∷ ts) x = by (bytes_eq t.name x) (bytes_eq x t.name) (bytes_sym t.name x) (found_same ts x)
    where
      by : (a b : Bool) → a ≡ b → blanked (own_desc (find (λ t. bytes_eq t.name x) ts)) ≡ blanked (type_named (each (laid_type (described faces) (module_view m)) ts) x) → blanked (own_desc (cond a (Some t) (find (λ t. bytes_eq t.name x) ts))) ≡ blanked (cond b (Some (laid_type (described faces) (module_view m) t).desc) (type_named (each (laid_type (described faces) (module_view m)) ts) x))
      by true true e r = ap (λ d. Some d) (sym (laid_blank _ _ _ t.desc))
      by true false e r = absurd cc
      by false true e r = absurd cc
      by false false e r = r

  agree : (q : QName) → same_name q out_string ≡ false → blanked (M q) ≡ blanked (V q)
  agree q o = by (bytes_eq q.«module» tree.name.name) refl
    where
      view : (b : Bool) → bytes_eq q.«module» tree.name.name ≡ b → V q ≡ cond b (type_named (laid faces m).types q.object) (described faces q)
      view b e = ap (λ b. cond b (type_named (laid faces m).types q.object) (described faces q)) (ap (λ n. bytes_eq q.«module» n) name_is ∙ e)

      by : (b : Bool) → bytes_eq q.«module» tree.name.name ≡ b → blanked (M q) ≡ blanked (V q)
      by true e = ap (λ b. blanked (type_desc b (same_name q out_string) (around_types (shown faces) tree m) q)) e ∙ found_same m.types q.object ∙ sym (ap blanked (view true e))
      by false e = ap (λ b. blanked (type_desc b (same_name q out_string) (around_types (shown faces) tree m) q)) e ∙ ap (λ b. blanked (type_desc false b (around_types (shown faces) tree m) q)) o ∙ sym (shown_blank (described faces q)) ∙ sym (ap blanked (view false e))

  none : (q : QName) → same_name q out_string ≡ true → V q ≡ None
  none q e =
      ap V (out_same q e)
      ∙ (ap (λ b. cond b (type_named (laid faces m).types out_string.object) (described faces out_string)) (bytes_sym (codes "Out") m.name ∙ out_not) ∙ c.out)

  pub view_grounded : IsGrounded V
  view_grounded = same_grounded M V agree are.names none are.grounded

  short_all : (ts : List TypedType) → AllByRecursion (λ (t : TypedType). is_within M 200 (ref.Named (record { «module» = tree.name.name; object = t.name })) ≡ true) ts → AllByRecursion (λ (t : TypedType). fit.is_within V 200 (ref.Named (record { «module» = m.name; object = t.name })) ≡ true) (each (laid_type (described faces) (module_view m)) ts)
  short_all [] h = tt
  short_all (t ∷ ts) h = (
    subst (λ (n : List ℕ). fit.is_within V 200 (ref.Named (record { «module» = n; object = t.name })) ≡ true) (sym name_is) (short_to M V agree are.names none 200 (ref.Named (record { «module» = tree.name.name; object = t.name })) (ap (λ b. b && bytes_eq t.name (codes "String(1")) (ap is_out (sym name_is) ∙ out_not)) h.0),
    short_all ts h.1,
  )

  pub view_short : AreShort faces (laid faces m)
  view_short = short_all m.types are.short

pub views_are_grounded : ViewsAreGrounded
views_are_grounded faces tree m c = view_grounded faces tree m c

pub views_are_short : ViewsAreShort
views_are_short faces tree m c = view_short faces tree m c
