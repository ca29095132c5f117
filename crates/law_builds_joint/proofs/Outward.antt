-- Exported procedures of a checked module that are not bound have not the names of its types.
use Rattle.std.proofs.Common.{◌≡◌, ◌≢◌, inl, inr, refl, sym, ap, ◌∙◌, subst, ℕ, true, false, List, [], ◌∷◌, map, Option, Some, None}
use Rattle.std.specs.Prelude.{◌&&◌, not, is_none}
use Rattle.std.specs.List.{AllByRecursion}
use Rattle.std.proofs.lemmas.Bool.{and_parts, false≢true}
use Rattle.ob_tree.specs.declared.names.QName.{QName}
use Rattle.ob_tree.specs.declared.ident.Mark.{Mark}
use Rattle.ob_tree.specs.declared.ident.Mark.TheVariants as mark
use Rattle.ob_tree.specs.declared.decl.Module.{Module as Tree}
use Rattle.ob_types.specs.declared.desc.Desc.{Desc}
use Rattle.ob_types.specs.declared.typed.TypedType.{TypedType}
use Rattle.ob_types.specs.declared.typed.TypedProcedure.{TypedProcedure}
use Rattle.ob_types.specs.declared.typed.TypedModule.{TypedModule}
use Rattle.ob_types.specs.TypedView.{procedure_view}
use Rattle.ob_desc.specs.Grammar.{is_shown}
use Rattle.ob_rules.specs.Names.{map_of, is_hidden}
use Rattle.ob_rules.specs.Types.{Parameters}
use Rattle.ob_rules.specs.Statements.{judging}
use Rattle.ob_rules.specs.Headings.{Head, bindings, reversed}
use Rattle.ob_rules.specs.Declarations.{with_bound, bound_to, declaration, module_of, typed_module, checked}
use Rattle.ob_uses.specs.Objects.{is_exported}
use Rattle.law_typing_forms.specs.Said.{IsOneOf}
use Rattle.law_names_distinct.specs.Distinct.{AreDistinct}
use Rattle.law_names_distinct.specs.Named.{all_true, decl_named}
use Rattle.law_names_distinct.proofs.Blocks.{unbroken_is}
use Rattle.law_spelling.specs.Raw as raw
use Rattle.law_methods_introduced.specs.Laws.{is_outward}
use Rattle.law_methods_introduced.proofs.Binding.{Among, is_bound}
use Rattle.law_methods_introduced.proofs.Blocks.{IsHidden, So, start, ps, behind, heads_of, heads_are, procedures_good}
use Rattle.law_names_types.proofs.Items.{IsAmong}
use Rattle.law_names_types.proofs.Once.{reversed_among}
use Rattle.law_builds_joint.proofs.Objects.{head_new, word_known, described_of}
use Rattle.law_lists.proofs.Lists.{clash}

to_among : {A : Type 0} (xs : List A) (x : A) → Among x xs → IsAmong x xs
to_among [] x i = i
to_among (y ∷ ys) x (inl e) = inl (sym e)
to_among (y ∷ ys) x (inr i) = inr (to_among ys x i)

module _ (shown : QName → Option Desc) (tree : Tree) (m : TypedModule) (words : all_true (map decl_named tree.decls) ≡ true) (named : AllByRecursion (λ d. raw.decl_named d ≡ true) tree.decls) (e : checked shown tree ≡ Some m) where
  abbrev Free : List ℕ → Type 0
  Free x = (t : TypedType) → IsOneOf m.types t → t.name ≢ x

  abbrev Good : TypedProcedure → Type 0
  Good p = is_outward p ≡ true → Free p.name

  hidden : (p : TypedProcedure) → IsHidden p → Good p
  hidden p h o = absurd (false≢true (sym (ap (λ m. not (is_hidden m) && is_none p.binding) h.0) ∙ o))

  free : (h : Head) → Among h (heads_of (ps shown tree named) (start shown tree named)) → (p : Parameters) → h.parameters ≡ Some p → h.bound ≡ None → Free h.path
  free h a p f n t i same =
      let u = unbroken_is (module_of shown tree.name tree.imports (map declaration tree.decls) (map judging tree.body) tree.closing).notes.broken (typed_module shown tree.name tree.imports (map declaration tree.decls) (module_of shown tree.name tree.imports (map declaration tree.decls) (map judging tree.body) tree.closing)) m e in
      let whole = (module_of shown tree.name tree.imports (map declaration tree.decls) (map judging tree.body) tree.closing).contents in
      let there : IsAmong h (reversed (behind shown tree named).before) = subst (IsAmong h) (sym (heads_are (ps shown tree named) (start shown tree named))) (to_among (heads_of (ps shown tree named) (start shown tree named)) h a) in
      let k = head_new shown tree.name tree.imports tree.decls words (map judging tree.body) tree.closing u.0 h (reversed_among (behind shown tree named).before h there) p f n in
      let s = described_of whole.bound whole.types t (subst (λ (x : TypedModule). IsOneOf x.types t) (sym u.1) i) in
      clash _ (word_known shown tree.name tree.imports tree.decls words (map judging tree.body) tree.closing u.0 h.path k.0 s.0 s.1.0 (s.1.1 ∙ same)) k.1

  typed_so : So shown tree named Good
  typed_so quiet h (inl k) a f p g c = ((λ o. free h a p g k.0), tt)
  typed_so quiet h (inr k) a f p g c =
      let U = (behind shown tree named).around in
      let all = heads_of (ps shown tree named) (start shown tree named) in
      let V = with_bound U (bindings U all) in
      let b = is_bound U h k.0 k.1.1.1.0 k.1.0 f all a k.1.1.0 k.1.1.1.1 quiet in
      ((λ o. absurd (false≢true (sym b ∙ (and_parts (not (is_hidden h.mark)) (is_none (bound_to (map_of V) h h.bound)) o).1))), tt)

  pub outward_free : AreDistinct (λ t. t.name) m.types → AllByRecursion Good m.procedures
  outward_free differ = procedures_good Good hidden shown tree m e differ named typed_so

-- exported is not hidden
shown_is : (m : Mark) → is_shown m ≡ not (is_hidden m)
shown_is mark.Full = refl
shown_is mark.ReadOnly = refl
shown_is mark.Hidden = refl

all_types : (x : List ℕ) (ts us : List TypedType) → ((t : TypedType) → IsOneOf ts t → IsOneOf us t) → ((t : TypedType) → IsOneOf us t → t.name ≢ x) → AllByRecursion (λ t. t.name ≢ x) ts
all_types x [] us i f = tt
all_types x (t ∷ ts) us i f = (f t (i t (inl refl)), all_types x ts us (λ s j. i s (inr j)) f)

-- in the view of the module
pub exported_free : (types us : List TypedType) (qs : List TypedProcedure) → ((x : List ℕ) → ((t : TypedType) → IsOneOf types t → t.name ≢ x) → (t : TypedType) → IsOneOf us t → t.name ≢ x) → AllByRecursion (λ p. is_outward p ≡ true → (t : TypedType) → IsOneOf types t → t.name ≢ p.name) qs → AllByRecursion (λ p. is_exported p ≡ true → AllByRecursion (λ t. t.name ≢ p.name) us) (map procedure_view qs)
exported_free types us [] f h = tt
exported_free types us (p ∷ qs) f h = ((λ o. all_types p.name us us (λ t i. i) (f p.name (h.0 (ap (λ b. b && is_none p.binding) (sym (shown_is p.mark)) ∙ o)))), exported_free types us qs f h.1)
