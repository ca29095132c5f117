-- Each bound procedure is bound to a record of the module, and one of its bases introduces it.
use Rattle.std.proofs.Common.{◌≡◌, ◌⊎◌, ⊎_elim, inl, inr, ℕ, Bool, true, false, List, [], ◌∷◌, ◌++◌, map, Option, Some, None, refl, sym, ap, subst, ◌∙◌}
use Rattle.std.specs.Prelude.{bytes_eq, cond}
use Rattle.std.specs.List.{AllByRecursion, find, filter}
use Rattle.std.proofs.lemmas.Bool.{false≢true}
use Rattle.std.proofs.lemmas.Slice.Eq.{bytes_eq-Decides}
use Rattle.ob_tree.specs.declared.names.QName.{QName}
use Rattle.ob_tree.specs.declared.decl.Module.{Module as Tree}
use Rattle.ob_tree.specs.declared.ident.Mark.TheVariants as mark
use Rattle.ob_types.specs.declared.types.Basic.TheVariants as basic
use Rattle.ob_types.specs.declared.types.TypeRef.{TypeRef}
use Rattle.ob_types.specs.declared.types.TypeRef.TheVariants as ref
use Rattle.ob_types.specs.declared.desc.Desc.{Desc}
use Rattle.ob_types.specs.declared.desc.Desc.TheVariants as desc
use Rattle.ob_types.specs.declared.desc.RecordDesc.{RecordDesc}
use Rattle.ob_types.specs.declared.desc.Method.{Method}
use Rattle.ob_types.specs.declared.typed.Binding.{Binding as BoundTo}
use Rattle.ob_types.specs.declared.typed.TypedType.{TypedType}
use Rattle.ob_types.specs.declared.typed.TypedProcedure.{TypedProcedure}
use Rattle.ob_types.specs.declared.typed.TypedModule.{TypedModule}
use Rattle.ob_types.specs.Tests.{target_of}
use Rattle.ob_rules.specs.Judged.{no_notes}
use Rattle.ob_rules.specs.Shapes.{Map, Member, AField, AMethod, member, same_name}
use Rattle.ob_rules.specs.Names.{Around, map_of, own_desc, type_desc, out_string}
use Rattle.ob_rules.specs.Headings.{counted, of_record, reversed, Head, Heads, BoundAs, Binding, head_of, change_type, changed_if, bind_one, bind_all, bind_records, bindings, bind_by, bind_method, redefined, add_heading}
use Rattle.ob_rules.specs.Statements.{in_turn}
use Rattle.ob_rules.specs.Declarations.{body_part, declaration, procedure_judged, Part, Written_procedure, with_bound, bound_to, binding_of, typed_module, described, all_described, headings_in_order, procedures_judged, types_of_head}
use Rattle.law_names_distinct.specs.Distinct.{AreDistinct}
use Rattle.law_spelling.specs.Raw.{decl_named}
use Rattle.law_methods_introduced.specs.Families.{view, Introduces, IsFamily, FamiliesAreThere}
use Rattle.law_methods_introduced.proofs.Binding.{Named, named_front, named_back, named_parts, found_named, desc_in}
use Rattle.law_methods_introduced.proofs.Chains.{Says, member_comes, found_name, line_says, introduces_says}
use Rattle.law_methods_introduced.proofs.Blocks.{imports, plain, whole, body, imports_are, plain_is, heads_are, heads_gain, next_head, next_twice, next_like, quiet_types, judged_quiet, IsHidden, TypedSo, procedures_good, parts, behind, final, final_is, unbroken_is, heads_of, start, ps, judged}
use Rattle.law_lists.proofs.Lists.{back_empty, bytes_turned, front_empty}

-- ---- names of types

if_name : (b : Bool) (f : RecordDesc → RecordDesc) (t : TypedType) → (changed_if b f t).name ≡ t.name
if_name true f t = refl
if_name false f t = refl

change_names : (x y : List ℕ) (f : RecordDesc → RecordDesc) (ts : List TypedType) → Named x (change_type y f ts) → Named x ts
change_names x y f [] h = h
change_names x y f (t ∷ ts) (inl e) = inl (ap (bytes_eq x) (sym (if_name (bytes_eq t.name y) f t)) ∙ e)
change_names x y f (t ∷ ts) (inr h) = inr (change_names x y f ts h)

redefined_names : (x : List ℕ) (c : Bool) (s : Binding) (h : Head) (b : BoundAs) → Named x (redefined c s h b).own → Named x s.own
redefined_names x true s h b n = n
redefined_names x false s h b n = n

method_names : (x : List ℕ) (c : Bool) (u : Around) (map : Map) (s : Binding) (h : Head) (b : BoundAs) (q : QName) (m : Method) → Named x (bind_method c u map s h b q m).own → Named x s.own
method_names x true u map s h b q m n = n
method_names x false u map s h b q m n = redefined_names x _ s h b n

by_names : (x : List ℕ) (u : Around) (map : Map) (s : Binding) (h : Head) (b : BoundAs) (o : Option Member) → Named x (bind_by u map s h b o).own → Named x s.own
by_names x u map s h b None n = change_names x b.owner.object _ s.own n
by_names x u map s h b (Some (AField q f)) n = n
by_names x u map s h b (Some (AMethod q m)) n = method_names x _ u map s h b q m n

one_names : (x : List ℕ) (u : Around) (s : Binding) (h : Head) (o : Option BoundAs) → Named x (bind_one u s h o).own → Named x s.own
one_names x u s h None n = n
one_names x u s h (Some b) n = by_names x u (map_of (record u { own = s.own })) s h b (member (map_of (record u { own = s.own })) b.owner h.name) n

all_names : (x : List ℕ) (u : Around) (hs : List Head) (s : Binding) → Named x (bind_all u s hs).own → Named x s.own
all_names x u [] s n = n
all_names x u (h ∷ hs) s n = one_names x u s h h.bound (all_names x u hs (bind_one u s h h.bound) n)

records_names : (x : List ℕ) (u : Around) (hs : List Head) (ts : List TypedType) (s : Binding) → Named x (bind_records u hs s ts).own → Named x s.own
records_names x u hs [] s n = n
records_names x u hs (t ∷ ts) s n = all_names x u (filter (of_record t.name) hs) s (records_names x u hs ts (bind_all u s (filter (of_record t.name) hs)) n)

bound_names : (x : List ℕ) (u : Around) (hs : List Head) → Named x (bindings u hs).own → Named x u.own
bound_names x u hs n = records_names x u (counted hs) (reversed u.own) (record { own = u.own; bound = []; notes = no_notes }) n

-- those of one heading
one_types : (x : List ℕ) (u : Around) (p : Written_procedure) (h : Head) (forward : Bool) → Named x (types_of_head h.parameters) → Named x (procedure_judged u p h forward).contents.types
one_types x u p h true n = n
one_types x u p h false n = named_front x (types_of_head h.parameters) _ n

heads_names : (x : List ℕ) (u : Around) (ps : List Written_procedure) (hs : Heads) → (procedures_judged u ps (heads_of ps hs)).notes.broken ≡ [] → Named x (headings_in_order ps hs).around.own → Named x (hs.around.own ++ (procedures_judged u ps (heads_of ps hs)).contents.types)
unfolding heads_of
heads_names x u [] hs q n = named_front x hs.around.own [] n
heads_names x u (p ∷ ps) hs q n =
    let d = head_of hs.around p.heading p.forward in
    let h = next_head hs d in
    let next = add_heading hs p.heading p.forward in
    let one = procedure_judged u p h p.forward in
    let more = procedures_judged u ps (heads_of ps next) in
    let ts = one.contents.types in
    let us = more.contents.types in
    let first = judged_quiet u p h p.forward (front_empty one.notes.broken more.notes.broken q) in
    let is : next.around.own ≡ types_of_head h.parameters ++ hs.around.own = (next_like hs d).own ∙ ap (λ zs. zs ++ hs.around.own) (sym (quiet_types (next_twice hs d) d _ first)) in
    ⊎_elim (λ i. ⊎_elim (λ j. named_back x hs.around.own (ts ++ us) (named_front x ts us (one_types x u p h p.forward j))) (λ j. named_front x hs.around.own (ts ++ us) j) (named_parts x (types_of_head h.parameters) hs.around.own (subst (Named x) is i)))
    (λ i. named_back x hs.around.own (ts ++ us) (named_back x ts us i)) (named_parts x next.around.own us (heads_names x u ps next (back_empty one.notes.broken more.notes.broken q) n))

-- ---- descriptions of types

front_found : (ts us : List TypedType) (x : List ℕ) (d : Desc) → desc_in ts x ≡ Some d → desc_in (ts ++ us) x ≡ Some d
front_found [] us x d e = absurd cc
front_found (t ∷ ts) us x d e = go (bytes_eq t.name x) e (front_found ts us x d)
  where
    go : (b : Bool) → own_desc (cond b (Some t) (find (λ t. bytes_eq t.name x) ts)) ≡ Some d → (desc_in ts x ≡ Some d → desc_in (ts ++ us) x ≡ Some d) → own_desc (cond b (Some t) (find (λ t. bytes_eq t.name x) (ts ++ us))) ≡ Some d
    go true e up = e
    go false e up = up e

described_at : (o : Option TypedType) (t : TypedType) (d : Desc) → own_desc o ≡ Some d → (described o t).desc ≡ d
described_at None t d e = absurd cc
described_at (Some b) t d e = cc

described_name : (o : Option TypedType) (t : TypedType) → (described o t).name ≡ t.name
described_name None t = refl
described_name (Some b) t = refl

described_found : (bound : List TypedType) (x : List ℕ) (d : Desc) → desc_in bound x ≡ Some d → (ts : List TypedType) → Named x ts → desc_in (all_described bound ts) x ≡ Some d
described_found bound x d e [] n = absurd n
described_found bound x d e (t ∷ ts) n = go (bytes_eq t.name x) refl n (described_found bound x d e ts)
  where
    k : TypedType
    k = described (find (λ b. bytes_eq b.name t.name) bound) t

    go : (b : Bool) → bytes_eq t.name x ≡ b → (bytes_eq x t.name ≡ true) ⊎ Named x ts → (Named x ts → desc_in (all_described bound ts) x ≡ Some d) → own_desc (cond (bytes_eq k.name x) (Some k) (find (λ t. bytes_eq t.name x) (all_described bound ts))) ≡ Some d
    go true i n up =
        let here : bytes_eq k.name x ≡ true = ap (λ y. bytes_eq y x) (described_name (find (λ b. bytes_eq b.name t.name) bound) t) ∙ i in
        let same : t.name ≡ x = (bytes_eq-Decides t.name x).0 i in
        ap (λ b. own_desc (cond b (Some k) (find (λ t. bytes_eq t.name x) (all_described bound ts)))) here
        ∙ ap (λ (z : Desc). Some z) (described_at (find (λ b. bytes_eq b.name t.name) bound) t d (ap (desc_in bound) same ∙ e))
    go false i n up =
        let here : bytes_eq k.name x ≡ false = ap (λ y. bytes_eq y x) (described_name (find (λ b. bytes_eq b.name t.name) bound) t) ∙ i in
        ap (λ b. own_desc (cond b (Some k) (find (λ t. bytes_eq t.name x) (all_described bound ts)))) here
        ∙ up (⊎_elim (λ e. absurd (false≢true (sym i ∙ bytes_turned x t.name e))) (λ m. m) n)

-- ---- a checked module

module _ (shown : QName → Option Desc) (tree : Tree) (named : AllByRecursion (λ d. decl_named d ≡ true) tree.decls) (quiet : (parts shown tree named).notes.broken ≡ []) where
  abbrev P : Part
  P = parts shown tree named

  abbrev U : Around
  U = (behind shown tree named).around

  abbrev B : Binding
  B = final shown tree named

  abbrev M : TypedModule
  M = typed_module shown tree.name tree.imports (map declaration tree.decls) P

  abbrev NamesAt : List ℕ → List Head → Binding → Type 0
  NamesAt x hs b = (whole shown tree named hs b).notes.broken ≡ [] → Named x U.own → Named x ((plain shown tree named).around.own ++ (judged shown tree named hs b).contents.types)

  at_heads : (x : List ℕ) → NamesAt x (heads_of (ps shown tree named) (start shown tree named)) (bindings U (heads_of (ps shown tree named) (start shown tree named)))
  at_heads x q n =
      let hs = heads_of (ps shown tree named) (start shown tree named) in
      let b = bindings U hs in
      let second = front_empty (judged shown tree named hs b).notes.broken (body_part (in_turn (body shown tree named) (with_bound U b))).notes.broken (back_empty (b.notes.broken ++ _) _ q) in
      heads_names x (with_bound U b) (ps shown tree named) (start shown tree named) second n

  abbrev before : List Head
  before = reversed (behind shown tree named).before

  at_module : (x : List ℕ) → NamesAt x before B
  at_module x = subst (NamesAt x before) (sym (final_is shown tree named)) (subst (λ hs. NamesAt x hs (bindings U (heads_of (ps shown tree named) (start shown tree named)))) (sym (heads_are (ps shown tree named) (start shown tree named))) (at_heads x))

  -- each name that is known in the end is that of a type of the module
  all_there : (x : List ℕ) → Named x U.own → Named x P.contents.types
  all_there x n =
      let i = imports shown tree named in
      let p = plain shown tree named in
      let j = judged shown tree named before B in
      let c : (whole shown tree named before B).notes.broken ≡ [] = back_empty (p.part.notes.broken ++ _) _ (back_empty i.part.notes.broken _ (back_empty _ _ quiet)) in
      let is = i.part.contents.types in
      let ks = p.part.contents.types in
      let js = j.contents.types in
      ⊎_elim (λ a. ⊎_elim (λ b. named_front x is (ks ++ (js ++ [])) ((imports_are shown tree named).names x b)) (λ b. named_back x is (ks ++ (js ++ [])) (named_front x ks (js ++ []) b)) (named_parts x i.around.own ks ((plain_is shown tree named).names x a)))
      (λ b. named_back x is (ks ++ (js ++ [])) (named_back x ks (js ++ []) (named_front x js [] b))) (named_parts x p.around.own js (at_module x c n))

  bound_there : (x : List ℕ) (d : Desc) → desc_in B.own x ≡ Some d → desc_in P.contents.bound x ≡ Some d
  bound_there x d e =
      let j = (judged shown tree named before B).contents.bound in
      subst (λ zs. desc_in (zs ++ ((plain shown tree named).part.contents.bound ++ (B.own ++ (j ++ [])))) x ≡ Some d) (sym (imports_are shown tree named).bound)
      (subst (λ zs. desc_in (zs ++ (B.own ++ (j ++ []))) x ≡ Some d) (sym (plain_is shown tree named).bound) (front_found B.own (j ++ []) x d e))

  -- what is known of a type is what the module has
  pub own_there : (x : List ℕ) (d : Desc) → desc_in B.own x ≡ Some d → desc_in M.types x ≡ Some d
  own_there x d e =
      let n : Named x U.own = bound_names x U (heads_of (ps shown tree named) (start shown tree named)) (subst (λ (b : Binding). Named x b.own) (final_is shown tree named) (found_named x B.own d e)) in
      described_found P.contents.bound x d (bound_there x d e) P.contents.types (all_there x n)

  abbrev b0 : Binding
  b0 = bindings U (heads_of (ps shown tree named) (start shown tree named))

  abbrev f : Map
  f = map_of (with_bound U b0)

  abbrev g : Map
  g = view shown M

  unit_is : U.unit ≡ tree.name.name
  unit_is = (heads_gain (ps shown tree named) (start shown tree named)).unit ∙ (plain_is shown tree named).unit ∙ (imports_are shown tree named).unit

  shown_is : U.shown ≡ shown
  shown_is = (heads_gain (ps shown tree named) (start shown tree named)).shown ∙ (plain_is shown tree named).shown ∙ (imports_are shown tree named).shown

  same_desc : (q : QName) (d : Desc) → f q ≡ Some d → (g q ≡ Some d) ⊎ (d ≡ desc.OpenArray mark.Hidden (ref.Basic basic.Char))
  same_desc q d e = go (bytes_eq q.«module» U.unit) (same_name q out_string) refl e
    where
      go : (b c : Bool) → bytes_eq q.«module» U.unit ≡ b → type_desc b c (with_bound U b0) q ≡ Some d → (g q ≡ Some d) ⊎ (d ≡ desc.OpenArray mark.Hidden (ref.Basic basic.Char))
      go true c i e =
          let here : bytes_eq q.«module» tree.name.name ≡ true = ap (bytes_eq q.«module») (sym unit_is) ∙ i in
          inl (ap (λ b. cond b (desc_in M.types q.object) (shown q)) here ∙ own_there q.object d (subst (λ (z : Binding). desc_in z.own q.object ≡ Some d) (sym (final_is shown tree named)) e))
      go false true i e = inr cc
      go false false i e =
          let here : bytes_eq q.«module» tree.name.name ≡ false = ap (bytes_eq q.«module») (sym unit_is) ∙ i in
          inl (ap (λ b. cond b (desc_in M.types q.object) (shown q)) here ∙ ap (λ s. s q) (sym shown_is) ∙ e)

  says : Says f g
  says = record { alias = aliases; records = records }
    where
      aliases : (q : QName) (t : TypeRef) → target_of (f q) ≡ Some t → target_of (g q) ≡ Some t
      aliases q t e = go (f q) refl e
        where
          go : (o : Option Desc) → f q ≡ o → target_of o ≡ Some t → target_of (g q) ≡ Some t
          go None i e = absurd cc
          go (Some d) i e = ⊎_elim (λ k. ap target_of k ∙ e) (λ k. absurd (no (sym (ap (λ z. target_of (Some z)) k) ∙ e))) (same_desc q d i)
            where
              no : target_of (Some (desc.OpenArray mark.Hidden (ref.Basic basic.Char))) ≡ Some t → ⊥
              no e = absurd cc

      records : (q : QName) (r : RecordDesc) → f q ≡ Some (desc.Record r) → (s : RecordDesc) × ((g q ≡ Some (desc.Record s)) × ((s.base ≡ r.base) × ((x : List ℕ) (m : Method) → find (λ (k : Method). bytes_eq k.name x) r.methods ≡ Some m → (k : Method) × (find (λ (k : Method). bytes_eq k.name x) s.methods ≡ Some k))))
      records q r e = ⊎_elim (λ k. (r, (k, (refl, λ x m h. (m, h))))) (λ k. absurd (no k)) (same_desc q (desc.Record r) e)
        where
          no : desc.Record r ≡ desc.OpenArray mark.Hidden (ref.Basic basic.Char) → ⊥
          no e = absurd cc

  abbrev Good : TypedProcedure → Type 0
  Good p = (b : BoundTo) → p.binding ≡ Some b → IsFamily g tree.name.name b

  family : (h : Head) (k : BoundAs) → bytes_eq k.owner.«module» U.unit ≡ true → (o : Option Member) → member f k.owner h.name ≡ o → (b : BoundTo) → binding_of k.owner k o ≡ Some b → IsFamily g tree.name.name b
  family h k own None i b e = absurd cc
  family h k own (Some (AField q x)) i b e = absurd cc
  family h k own (Some (AMethod q m)) i b e =
      let c = member_comes f k.owner h.name q m i in
      let n : h.name ≡ m.name = sym (found_name h.name c.introduced.r.methods c.introduced.m c.introduced.found) ∙ ap (λ (z : Method). z.name) c.named in
      let w : BoundTo = record { owner = k.owner; receiver = k.receiver; family = record { owner = q; name = m.name } } in
      let same : w ≡ b = cc in
      subst (IsFamily g tree.name.name) same (record {
        own = ap (bytes_eq k.owner.«module») (sym unit_is) ∙ own;
        line = line_says f g says 201 k.owner q c.line;
        introduced = subst (Introduces g q) n (introduces_says f g says q h.name c.introduced);
      })

  typed_so : TypedSo Good U (heads_of (ps shown tree named) (start shown tree named))
  typed_so h (inl k) a w p has c = ((λ b e. none b (sym (ap (bound_to f h) k.0) ∙ e)), tt)
    where
      none : (b : BoundTo) → None ≡ Some b → IsFamily g tree.name.name b
      none b e = absurd cc
  typed_so h (inr k) a w p has c = ((λ b e. family h k.0 k.1.1.1.0 (member f k.0.owner h.name) refl b (sym (ap (bound_to f h) k.1.0) ∙ e)), tt)

  hidden : (p : TypedProcedure) → IsHidden p → Good p
  hidden p h b e = absurd (no (sym h.1 ∙ e))
    where
      no : None ≡ Some b → ⊥
      no e = absurd cc

pub families_there : FamiliesAreThere
families_there shown tree m e differ named =
    let p = parts shown tree named in
    let k = unbroken_is p.notes.broken (typed_module shown tree.name tree.imports (map declaration tree.decls) p) m e in
    subst (λ (x : TypedModule). AllByRecursion (λ p. (b : BoundTo) → p.binding ≡ Some b → IsFamily (view shown x) x.name b) x.procedures) k.1
    (procedures_good (Good shown tree named k.0) (hidden shown tree named k.0) shown tree (M shown tree named k.0) (e ∙ ap (λ (x : TypedModule). Some x) (sym k.1)) (subst (λ (x : TypedModule). AreDistinct (λ t. t.name) x.types) (sym k.1) differ) named (λ q. typed_so shown tree named k.0))
