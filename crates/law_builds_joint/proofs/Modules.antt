-- The bound procedures that the records of a checked module introduce have different names.
use Rattle.std.proofs.Common.{◌≡◌, ◌≢◌, sym, ap, ◌∙◌, subst, ℕ, suc, true, false, List, [], ◌∷◌, ◌++◌, map, Option, Some, None, inl, inr}
use Rattle.std.specs.Prelude.{bytes_eq}
use Rattle.std.specs.List.{AllByRecursion, find}
use Rattle.ob_tree.specs.declared.names.QName.{QName}
use Rattle.ob_tree.specs.declared.decl.Module.{Module as Tree}
use Rattle.ob_types.specs.declared.types.TypeRef.{TypeRef}
use Rattle.ob_types.specs.declared.desc.Desc.{Desc}
use Rattle.ob_types.specs.declared.desc.Desc.TheVariants as desc
use Rattle.ob_types.specs.declared.desc.Method.{Method}
use Rattle.ob_types.specs.declared.typed.TypedType.{TypedType}
use Rattle.ob_types.specs.declared.typed.TypedModule.{TypedModule}
use Rattle.ob_types.specs.TypedSyntax.{Module}
use Rattle.ob_rules.specs.Names.{Around, is_out}
use Rattle.ob_rules.specs.Types.{nothing}
use Rattle.ob_rules.specs.Headings.{Head, BoundAs, Binding, counts, counted, bindings}
use Rattle.ob_rules.specs.Declarations.{binding_at, described, all_described, no_contents, checked}
use Rattle.ob_layout.specs.LaidOut.{base_of, numbered, laid_desc, laid_type, words_in, procedures_in}
use Rattle.law_typing_forms.specs.Said.{IsOneOf}
use Rattle.law_typing.specs.Makes.{IfThere}
use Rattle.law_names_distinct.specs.Distinct.{AreDistinct}
use Rattle.law_names_distinct.proofs.Blocks.{not_out}
use Rattle.law_spelling.specs.Raw.{decl_named}
use Rattle.law_body_context.proofs.Lists.{one_all}
use Rattle.law_body_context.proofs.Blocks.{procedures_bound}
use Rattle.law_body_context.proofs.Modules.{unbroken_is}
use Rattle.law_methods_introduced.proofs.Binding.{HasRecord}
use Rattle.law_methods_introduced.proofs.Heads.{IsHeaded}
use Rattle.law_methods_introduced.proofs.Blocks as outward
use Rattle.law_local_methods.specs.Laws.{IsOwned}
use Rattle.law_local_module.proofs.Bound.{IsJudged}
use Rattle.law_methods_bound.specs.Matched.{HeadingsAre}
use Rattle.law_methods_bound.specs.Bound.{methods_of}
use Rattle.law_methods_bound.proofs.Typings.{IsRaw, AreRaw}
use Rattle.law_methods_bound.proofs.Binding.{one_filtered}
use Rattle.law_methods_bound.proofs.Modules.{parts, M, whole, plain, ps, hs, heads, B, w, judged, imports_are, plain_is, level, known_raw, all_types, found_has}
use Rattle.law_methods_bound.proofs.Introduced.{IsReady}
use Rattle.law_local_files.specs.Agreeing.{Map}
use Rattle.law_builds_joint.specs.Named.{MethodsDiffer}
use Rattle.law_builds_joint.proofs.Bound.{Named, bindings_named}
use Rattle.law_lists.proofs.Lists.{all_both}

-- ---- a module that breaks no rule

module _ (shown : QName → Option Desc) (tree : Tree) (out : is_out (M shown tree).name ≡ false) (named : AllByRecursion (λ d. decl_named d ≡ true) tree.decls) (quiet : (whole shown tree out).notes.broken ≡ []) (differ : AreDistinct (λ t. t.name) (M shown tree).types) (is : HeadingsAre (hs shown tree out).around (heads shown tree out)) where
  abbrev U : Around
  U = (hs shown tree out).around

  abbrev all : List Head
  all = heads shown tree out

  abbrev m : TypedModule
  m = M shown tree

  own_differ : AreDistinct (λ t. t.name) U.own
  own_differ = outward.own_differ shown tree named quiet (outward.undescribed (whole shown tree out).contents.bound (whole shown tree out).contents.types differ)

  headed : AllByRecursion (IsHeaded U.unit U.own) all
  headed = subst (AllByRecursion (IsHeaded U.unit U.own)) (sym (outward.heads_are (ps shown tree out) (outward.start shown tree named))) (outward.headed_all shown tree named own_differ)

  in_all : (h : Head) → IsOneOf (counted all) h → IsOneOf all h
  in_all h i = one_filtered (counts all) all h i

  record_at : (h : Head) → IsHeaded U.unit U.own h → (b : BoundAs) → h.bound ≡ Some b → HasRecord U.own b.owner.object
  record_at h (inl k) b e = absurd (none (sym k.0 ∙ e))
    where
      none : None ≡ Some b → ⊥
      none e = absurd cc
  record_at h (inr k) b e =
      let both : Some k.0 ≡ Some b = sym k.1.0 ∙ e in
      let same : k.0 ≡ b = cc in
      subst (λ (x : BoundAs). HasRecord U.own x.owner.object) same k.1.1.1.1

  ready : (h : Head) → IsOneOf (counted all) h → IsReady U h
  ready h i = record {
    whole = (one_all IsJudged (counted all) h is.judged i).0;
    own = λ b e. subst (IsOwned U.unit) e (one_all (λ (h : Head). IsOwned U.unit h.bound) (counted all) h is.owned i);
    record_is = λ b e. record_at h (one_all (IsHeaded U.unit U.own) all h headed (in_all h i)) b e;
  }

  final : B shown tree out ≡ bindings U all
  final = ap (λ p. binding_at (nothing p) U all) (level shown tree out)

  own_named : AllByRecursion Named (bindings U all).own
  own_named = bindings_named U all ready (known_raw shown tree out) own_differ

  all_bound : AllByRecursion Named (whole shown tree out).contents.bound
  all_bound =
      let b = B shown tree out in
      let j = judged shown tree out in
      let p = plain shown tree out in
      subst (λ bs. AllByRecursion Named (bs ++ (p.part.contents.bound ++ (b.own ++ (j.contents.bound ++ []))))) (sym (imports_are shown tree out).bound)
      (subst (λ bs. AllByRecursion Named (bs ++ (b.own ++ (j.contents.bound ++ [])))) (sym (plain_is shown tree out).bound)
      (all_both Named b.own (j.contents.bound ++ []) (subst (λ (x : Binding). AllByRecursion Named x.own) (sym final) own_named)
      (subst (λ bs. AllByRecursion Named (bs ++ [])) (sym (procedures_bound (λ v. Unit {0}) shown m no_contents out (w shown tree out) (ps shown tree out) all)) tt)))

  described_named : (t : TypedType) → IsRaw t → (o : Option TypedType) → IfThere (λ b. Named b × (bytes_eq b.name t.name ≡ true)) o → Named (described o t)
  described_named t e None h = subst (λ ms. AreDistinct (λ (k : Method). k.name) ms) (sym e.0) tt
  described_named t e (Some b) h = h.0

  types_named : (ts : List TypedType) → AreRaw ts → AllByRecursion Named (all_described (whole shown tree out).contents.bound ts)
  types_named [] h = tt
  types_named (t ∷ ts) h = (described_named t h.0 (find (λ b. bytes_eq b.name t.name) (whole shown tree out).contents.bound) (found_has shown tree out quiet Named (λ b. bytes_eq b.name t.name) (whole shown tree out).contents.bound all_bound), types_named ts h.1)

  pub all_named : AllByRecursion Named m.types
  all_named = types_named (whole shown tree out).contents.types (all_types shown tree out)

pub checked_named : (shown : QName → Option Desc) (tree : Tree) (m : TypedModule) → checked shown tree ≡ Some m → AreDistinct (λ t. t.name) m.types → AllByRecursion (λ d. decl_named d ≡ true) tree.decls → ((out : is_out (M shown tree).name ≡ false) → HeadingsAre (hs shown tree out).around (heads shown tree out)) → AllByRecursion Named m.types
checked_named shown tree m e differ named is =
    let k = unbroken_is (parts shown tree).notes.broken (M shown tree) m e in
    let out : is_out (M shown tree).name ≡ false = ap (λ (x : TypedModule). is_out x.name) k.1 ∙ not_out shown tree m e in
    subst (λ (x : TypedModule). AllByRecursion Named x.types) k.1
    (all_named shown tree out named k.0 (subst (λ (x : TypedModule). AreDistinct (λ t. t.name) x.types) (sym k.1) differ) (is out))

-- ---- laid out

numbered_fresh : (x : List ℕ) (n : ℕ) (ms : List Method) → AllByRecursion (λ k. k.name ≢ x) ms → AllByRecursion (λ k. k.name ≢ x) (numbered n ms)
numbered_fresh x n [] h = tt
numbered_fresh x n (k ∷ ms) h = (h.0, numbered_fresh x (suc n) ms h.1)

numbered_distinct : (n : ℕ) (ms : List Method) → AreDistinct (λ k. k.name) ms → AreDistinct (λ k. k.name) (numbered n ms)
numbered_distinct n [] h = tt
numbered_distinct n (k ∷ ms) h = (numbered_fresh k.name (suc n) ms h.0, numbered_distinct (suc n) ms h.1)

laid_differ : (f g : TypeRef → ℕ) (q : QName) (d : Desc) → AreDistinct (λ k. k.name) (methods_of d) → MethodsDiffer (laid_desc f g q d)
laid_differ f g q (desc.Record r) h = numbered_distinct (base_of g r.base) r.methods h
laid_differ f g q (desc.Const v) h = tt
laid_differ f g q (desc.Var k t) h = tt
laid_differ f g q (desc.Proc s) h = tt
laid_differ f g q (desc.Alias k t) h = tt
laid_differ f g q (desc.Array k l t) h = tt
laid_differ f g q (desc.OpenArray k t) h = tt
laid_differ f g q (desc.Pointer k t) h = tt
laid_differ f g q (desc.ProcType k s) h = tt

pub laid_named : (types : Map) (m : Module) (ts : List TypedType) → AllByRecursion Named ts → AllByRecursion (λ t. MethodsDiffer t.desc) (map (laid_type types m) ts)
laid_named types m [] h = tt
laid_named types m (t ∷ ts) h = (laid_differ (words_in types m) (procedures_in types m) (let q : QName = record { «module» = m.name; object = t.name } in q) t.desc h.0, laid_named types m ts h.1)
