-- What counts of a checked module is all that its layout and code read.
use Rattle.std.proofs.Common.{◌≡◌, ℕ, ◌+◌, List, [], ◌∷◌, ◌++◌, Bool, true, false, cond, Option, Some, None, map as each, refl, sym, ap, ◌∙◌, subst, ⊎_elim}
use Rattle.std.specs.Prelude.{bytes_eq}
use Rattle.std.specs.List.{AllByRecursion, flat_map}
use Rattle.std.specs.Cmp.Lexicographic.{bytes_decides}
use Rattle.ob_tree.specs.declared.names.QName.{QName}
use Rattle.ob_types.specs.declared.types.TypeRef.{TypeRef}
use Rattle.ob_types.specs.declared.types.TypeRef.TheVariants as ref
use Rattle.ob_types.specs.declared.desc.Desc.{Desc}
use Rattle.ob_types.specs.declared.desc.Desc.TheVariants as desc
use Rattle.ob_types.specs.declared.desc.RecordDesc.{RecordDesc}
use Rattle.ob_types.specs.declared.desc.Field.{Field}
use Rattle.ob_types.specs.declared.typed.TypedType.{TypedType}
use Rattle.ob_types.specs.TypedSyntax.{Module}
use Rattle.ob_types.specs.Maps.{listed}
use Rattle.ob_types.specs.Relations.{is_record}
use Rattle.ob_desc.specs.Grammar.{same_object}
use Rattle.ob_desc.specs.Laws.{object_decides}
use Rattle.ob_layout.specs.LaidOut.{type_named, is_own, base_of, words_in, procedures_in, placed, laid_desc, laid_type, laid_out}
use Rattle.ob_uses_roots.specs.Counts.{Count, Shapes, Layouts, both, own_name, counts_of_mentioned, counts_of_type, counts_of_desc, counts_of_variable, counts_of_procedure, counts_of_all, counts_of_module}
use Rattle.ob_uses_roots.specs.Noted.{names_of, shape_starts, layout_starts}
use Rattle.ob_env.specs.Faces.{Face, described}
use Rattle.ob_uses.specs.declared.way.Way.TheVariants as way
use Rattle.ob_uses.specs.Uses.{flat_types}
use Rattle.ob_uses.specs.Ways.{leads_by, desc_leads, is_of}
use Rattle.ob_uses.specs.Closed.{is_among, of_found}
use Rattle.ob_uses.specs.Reaching.{first, onward}
use Rattle.ob_uses.proofs.Searching.{itself, left_of, in_back, either}
use Rattle.law_local_files.specs.Agreeing.{Map, On, IsNear, IsFlat}
use Rattle.law_local_files.specs.Laws.{Text, IsRoom, room, IsLaid, flat, own, told, over, view, IsTied}
use Rattle.law_local_files.specs.Read.{TypeRead, ModuleRead}
use Rattle.law_local_files.specs.Tied.{IsTypeOf}
use Rattle.law_local_files.specs.Checked.{IsChecked, CountsAreEnough}
use Rattle.law_local_files.proofs.Told.{among_on}
use Rattle.law_local_files.proofs.Whole.{some_desc, plain_near}
use Rattle.law_local_files.proofs.Counted.{CountsOn, counts_front, counts_back, variables_read, procedures_read, stmts_read}
use Rattle.law_local_files.proofs.Nears.{Any, module_near}
use Rattle.law_lists.proofs.Lists.{all_both, all_each}

-- ---- what counts, by the names

shape_counts : (P : QName → Type 0) (cs : List Count) → ((q : QName) → is_among (names_of (shape_starts cs)) q ≡ true → P q) → CountsOn P Any cs
shape_counts P [] f = tt
shape_counts P (Shapes (ref.Basic b) ∷ cs) f = (tt, shape_counts P cs f)
shape_counts P (Shapes (ref.Named q) ∷ cs) f = (f q (left_of _ _ (itself q)), shape_counts P cs (λ r i. f r (in_back (q ∷ []) (names_of (shape_starts cs)) r i)))
shape_counts P (Layouts (ref.Basic b) ∷ cs) f = (tt, shape_counts P cs f)
shape_counts P (Layouts (ref.Named q) ∷ cs) f = (tt, shape_counts P cs f)

both_counts : (P L : QName → Type 0) (cs : List Count) → ((q : QName) → is_among (names_of (shape_starts cs)) q ≡ true → P q) → ((q : QName) → is_among (names_of (layout_starts cs)) q ≡ true → L q) → CountsOn P L cs
both_counts P L [] f g = tt
both_counts P L (Shapes (ref.Basic b) ∷ cs) f g = (tt, both_counts P L cs f g)
both_counts P L (Shapes (ref.Named q) ∷ cs) f g = (f q (left_of _ _ (itself q)), both_counts P L cs (λ r i. f r (in_back (q ∷ []) (names_of (shape_starts cs)) r i)) g)
both_counts P L (Layouts (ref.Basic b) ∷ cs) f g = (tt, both_counts P L cs f g)
both_counts P L (Layouts (ref.Named q) ∷ cs) f g = (g q (left_of _ _ (itself q)), both_counts P L cs f (λ r i. g r (in_back (q ∷ []) (names_of (layout_starts cs)) r i)))

layouts_among : (P L : QName → Type 0) (cs : List Count) → CountsOn P L cs → (q : QName) → is_among (names_of (layout_starts cs)) q ≡ true → L q
layouts_among P L [] on q i = absurd cc
layouts_among P L (Shapes t ∷ cs) on q i = layouts_among P L cs on.1 q i
layouts_among P L (Layouts (ref.Basic b) ∷ cs) on q i = layouts_among P L cs on.1 q i
layouts_among P L (Layouts (ref.Named r) ∷ cs) on q i = ⊎_elim
    (λ (e : same_object q r ≡ true). subst L (sym ((object_decides q r).0 e)) on.0)
    (λ (h : is_among (names_of (layout_starts cs)) q ≡ true). layouts_among P L cs on.1 q h)
    (either (same_object q r) (is_among (names_of (layout_starts cs)) q) i)

-- ---- fields with their places have the types that they had

placed_back : (Q : TypeRef → Type 0) (w : TypeRef → ℕ) (at : ℕ) (fs : List Field) → AllByRecursion (λ g. Q g.of) (placed w at fs) → AllByRecursion (λ g. Q g.of) fs
placed_back Q w at [] all = tt
placed_back Q w at (f ∷ fs) all = (all.0, placed_back Q w (at + w f.of) fs all.1)

-- ---- what counts of types

both_list : (P L : QName → Type 0) (ts : List TypeRef) → CountsOn P L (flat_map both ts) → AllByRecursion (On P) ts × AllByRecursion (On L) ts
both_list P L [] on = (tt, tt)
both_list P L (t ∷ ts) on = let h = both_list P L ts on.1.1 in ((on.0, h.0), (on.1.0, h.1))

both_fields : (P L : QName → Type 0) (fs : List Field) → CountsOn P L (flat_map (λ f. both f.of) fs) → AllByRecursion (λ f. On P f.of) fs × AllByRecursion (λ f. On L f.of) fs
both_fields P L [] on = (tt, tt)
both_fields P L (f ∷ fs) on = let h = both_fields P L fs on.1.1 in ((on.0, h.0), (on.1.0, h.1))

-- the parts of a record of the module that is laid out
record_parts : (P L : QName → Type 0) (k : Module) (ts : List TypedType) → CountsOn P L (flat_map (counts_of_type k) ts) → (x : List ℕ) (r : RecordDesc) → type_named ts x ≡ Some (desc.Record r) → AllByRecursion (On P) (flat_types true (desc.Record r))
record_parts P L k [] on x r e = absurd cc
record_parts P L k (t ∷ ts) on x r e = go (bytes_eq x t.name) (record_parts P L k ts (counts_back P L (counts_of_type k t) (flat_map (counts_of_type k) ts) on) x r) e
  where
    go : (b : Bool) → (type_named ts x ≡ Some (desc.Record r) → AllByRecursion (On P) (flat_types true (desc.Record r))) → cond b (Some t.desc) (type_named ts x) ≡ Some (desc.Record r) → AllByRecursion (On P) (flat_types true (desc.Record r))
    go true more i =
        let c : CountsOn P L (counts_of_desc (desc.Record r)) = subst (λ d. CountsOn P L (counts_of_desc d)) (some_desc t.desc (desc.Record r) i) (counts_front P L (counts_of_type k t) (flat_map (counts_of_type k) ts) on).1 in
        let b = both_list P L (listed r.base) (counts_front P L (flat_map both (listed r.base)) (flat_map (λ f. both f.of) r.fields) c) in
        let f = both_fields P L r.fields (counts_back P L (flat_map both (listed r.base)) (flat_map (λ f. both f.of) r.fields) c) in
        all_both (On P) (listed r.base) (each (λ x. x.of) r.fields) b.0 (all_each (λ x. x.of) (On P) r.fields f.0)
    go false more i = more i

record_layouts : (P L : QName → Type 0) (k : Module) (ts : List TypedType) → CountsOn P L (flat_map (counts_of_type k) ts) → (x : List ℕ) (r : RecordDesc) → type_named ts x ≡ Some (desc.Record r) → AllByRecursion (On L) (flat_types true (desc.Record r))
record_layouts P L k [] on x r e = absurd cc
record_layouts P L k (t ∷ ts) on x r e = go (bytes_eq x t.name) (record_layouts P L k ts (counts_back P L (counts_of_type k t) (flat_map (counts_of_type k) ts) on) x r) e
  where
    go : (b : Bool) → (type_named ts x ≡ Some (desc.Record r) → AllByRecursion (On L) (flat_types true (desc.Record r))) → cond b (Some t.desc) (type_named ts x) ≡ Some (desc.Record r) → AllByRecursion (On L) (flat_types true (desc.Record r))
    go true more i =
        let c : CountsOn P L (counts_of_desc (desc.Record r)) = subst (λ d. CountsOn P L (counts_of_desc d)) (some_desc t.desc (desc.Record r) i) (counts_front P L (counts_of_type k t) (flat_map (counts_of_type k) ts) on).1 in
        let b = both_list P L (listed r.base) (counts_front P L (flat_map both (listed r.base)) (flat_map (λ f. both f.of) r.fields) c) in
        let f = both_fields P L r.fields (counts_back P L (flat_map both (listed r.base)) (flat_map (λ f. both f.of) r.fields) c) in
        all_both (On L) (listed r.base) (each (λ x. x.of) r.fields) b.1 (all_each (λ x. x.of) (On L) r.fields f.1)
    go false more i = more i

own_among : (P L : QName → Type 0) (map : Map) (m : Module) (ts : List TypedType) → CountsOn P L (flat_map (counts_of_type (laid_out map m)) (each (laid_type map m) ts)) → (q : QName) → is_among (each (own_name m) ts) q ≡ true → P q
own_among P L map m [] on q i = absurd cc
own_among P L map m (t ∷ ts) on q i = ⊎_elim
    (λ (e : same_object q (own_name m t) ≡ true). subst P (sym ((object_decides q (own_name m t)).0 e)) (counts_front P L (counts_of_type (laid_out map m) (laid_type map m t)) (flat_map (counts_of_type (laid_out map m)) (each (laid_type map m) ts)) on).0)
    (λ (h : is_among (each (own_name m) ts) q ≡ true). own_among P L map m ts (counts_back P L (counts_of_type (laid_out map m) (laid_type map m t)) (flat_map (counts_of_type (laid_out map m)) (each (laid_type map m) ts)) on) q h)
    (either (same_object q (own_name m t)) (is_among (each (own_name m) ts) q) i)

laid_named : (map : Map) (m : Module) (ts : List TypedType) (x : List ℕ) (r : RecordDesc) → type_named ts x ≡ Some (desc.Record r) → (s : RecordDesc) × (type_named (each (laid_type map m) ts) x ≡ Some (desc.Record s))
laid_named map m [] x r e = absurd cc
laid_named map m (t ∷ ts) x r e = go (bytes_eq x t.name) (laid_named map m ts x r) e
  where
    laid : (d : Desc) → d ≡ desc.Record r → (s : RecordDesc) × (Some (laid_desc (words_in map m) (procedures_in map m) (own_name m t) d) ≡ Some (desc.Record s))
    laid d i = subst (λ k. (s : RecordDesc) × (Some (laid_desc (words_in map m) (procedures_in map m) (own_name m t) k) ≡ Some (desc.Record s))) (sym i) (_, refl)

    go : (b : Bool) → (type_named ts x ≡ Some (desc.Record r) → (s : RecordDesc) × (type_named (each (laid_type map m) ts) x ≡ Some (desc.Record s))) → cond b (Some t.desc) (type_named ts x) ≡ Some (desc.Record r) → (s : RecordDesc) × (cond b (Some (laid_type map m t).desc) (type_named (each (laid_type map m) ts) x) ≡ Some (desc.Record s))
    go true more i = laid t.desc (some_desc t.desc (desc.Record r) i)
    go false more i = more i

module _ (faces : List (Face Text)) (m : Module) (checked : IsChecked faces m) where
  abbrev M : Module
  M = over faces m

  abbrev V : Map
  V = view faces m

  abbrev P : QName → Type 0
  P = IsNear V M

  abbrev L : QName → Type 0
  L = IsLaid V M

  near : (p q : QName) → P p → is_among (leads_by way.Near V m.name p) q ≡ true → P q
  near p q on i = onward on i

  abbrev c2 : List Count
  c2 = flat_map (counts_of_type M) M.types

  abbrev c3 : List Count
  c3 = flat_map counts_of_variable M.variables

  abbrev c4 : List Count
  c4 = flat_map (counts_of_procedure V) M.procedures

  abbrev c5 : List Count
  c5 = counts_of_all M.body

  shapes_on : CountsOn P Any (counts_of_module V M)
  shapes_on = shape_counts P (counts_of_module V M) (λ q i. first i)

  types_part : (Q : QName → Type 0) → CountsOn P Q (counts_of_module V M) → CountsOn P Q c2
  types_part Q on = counts_back P Q (counts_of_mentioned M) c2 (counts_front P Q (counts_of_mentioned M ++ c2) c3 (counts_front P Q (counts_of_mentioned M ++ c2 ++ c3) c4 (counts_front P Q (counts_of_mentioned M ++ c2 ++ c3 ++ c4) c5 on)))

  owned : (q : QName) → IsTypeOf m q → P q
  owned q i = own_among P Any (described faces) m m.types (types_part Any shapes_on) q i

  near_too : CountsOn P P (counts_of_module V M)
  near_too = module_near V m.name (IsTypeOf m) P near owned V M checked.tied.procedures checked.tied.body shapes_on

  -- ---- what is flat is near

  record_step : (p q : QName) (b : Bool) → is_own m p ≡ b → (r : RecordDesc) → V p ≡ Some (desc.Record r) → is_among (names_of (flat_types b (desc.Record r))) q ≡ true → P q
  record_step p q true o r e i = among_on P (flat_types true (desc.Record r)) (record_parts P P M M.types (types_part P near_too) p.object r (sym (ap (λ b. cond b (type_named M.types p.object) (described faces p)) o) ∙ e)) q i
  record_step p q false o r e i = absurd cc

  plain_step : (p q : QName) (d : Desc) → is_record d ≡ false → V p ≡ Some d → P p → is_among (names_of (flat_types (is_of m.name p) d)) q ≡ true → P q
  plain_step p q d r e on i = near p q on (ap (λ o. is_among (of_found (desc_leads way.Near m.name p) o) q) e ∙ plain_near (is_of m.name p) d r q i)

  flat_step : (p q : QName) (o : Option Desc) → V p ≡ o → P p → is_among (of_found (desc_leads way.Flat m.name p) o) q ≡ true → P q
  flat_step p q None e on i = absurd cc
  flat_step p q (Some (desc.Record r)) e on i = record_step p q (is_own m p) refl r e i
  flat_step p q (Some (desc.Alias k t)) e on i = plain_step p q (desc.Alias k t) refl e on i
  flat_step p q (Some (desc.Array k n t)) e on i = plain_step p q (desc.Array k n t) refl e on i
  flat_step p q (Some (desc.OpenArray k t)) e on i = plain_step p q (desc.OpenArray k t) refl e on i
  flat_step p q (Some (desc.Const v)) e on i = plain_step p q (desc.Const v) refl e on i
  flat_step p q (Some (desc.Var k t)) e on i = plain_step p q (desc.Var k t) refl e on i
  flat_step p q (Some (desc.Proc s)) e on i = plain_step p q (desc.Proc s) refl e on i
  flat_step p q (Some (desc.Pointer k t)) e on i = plain_step p q (desc.Pointer k t) refl e on i
  flat_step p q (Some (desc.ProcType k s)) e on i = plain_step p q (desc.ProcType k s) refl e on i

  flat_near : (q : QName) → IsFlat V M q → P q
  flat_near q (first i) = layouts_among P P (counts_of_module V M) near_too q i
  flat_near q (onward {p = p} r i) = flat_step p q (V p) refl (flat_near p r) i

  -- ---- what is read

  laid_on : CountsOn P L (counts_of_module V M)
  laid_on = both_counts P L (counts_of_module V M) (λ q i. first i) (λ q i. flat (first i))

  goes_on : (p q : QName) → L p → is_among (leads_by way.Flat V m.name p) q ≡ true → L q
  goes_on p q (flat f) i = flat (onward f i)
  goes_on p q (own r o e) i = among_on L (flat_types (is_of m.name p) (desc.Record r)) (subst (λ b. AllByRecursion (On L) (flat_types b (desc.Record r))) (sym o) (parts r (sym (ap (λ b. cond b (type_named M.types p.object) (described faces p)) o) ∙ e))) q (sym (ap (λ o. is_among (of_found (desc_leads way.Flat m.name p) o) q) e) ∙ i)
    where
      parts : (s : RecordDesc) → type_named M.types p.object ≡ Some (desc.Record s) → AllByRecursion (On L) (flat_types true (desc.Record s))
      parts s e = record_layouts P L M M.types (types_part L laid_on) p.object s e
  goes_on p q (told n (room d e r next)) i =
      told (near p q n (ap (λ o. is_among (of_found (desc_leads way.Near m.name p) o) q) e ∙ plain_near (is_of m.name p) d r q (sym (ap (λ o. is_among (of_found (desc_leads way.Flat m.name p) o) q) e) ∙ i))) (next q i)

  rooms : (q : QName) → P q → IsRoom V m.name q → L q
  rooms q on r = told on r

  type_read : (t : TypedType) (d : Desc) → t.desc ≡ d → type_named m.types t.name ≡ Some t.desc → CountsOn P L (counts_of_desc (laid_desc (words_in (described faces) m) (procedures_in (described faces) m) (own_name m t) d)) → TypeRead P L (own_name m t) d
  type_read t (desc.Record r) e named on =
      let w = words_in (described faces) m in
      let fs = placed w (base_of w r.base) r.fields in
      let b = both_list P L (listed r.base) (counts_front P L (flat_map both (listed r.base)) (flat_map (λ f. both f.of) fs) on) in
      let f = both_fields P L fs (counts_back P L (flat_map both (listed r.base)) (flat_map (λ f. both f.of) fs) on) in
      let k = laid_named (described faces) m m.types t.name r (named ∙ ap (λ d. Some d) e) in
      let o : is_own m (own_name m t) ≡ true = (bytes_decides m.name m.name).1 refl in
      (own k.0 o (ap (λ b. cond b (type_named M.types t.name) (described faces (own_name m t))) o ∙ k.1), b.0, b.1, placed_back (On L) w (base_of w r.base) r.fields f.1)
  type_read t (desc.Const v) e named on = tt
  type_read t (desc.Var k u) e named on = tt
  type_read t (desc.Proc s) e named on = tt
  type_read t (desc.Alias k u) e named on = tt
  type_read t (desc.Array k n u) e named on = tt
  type_read t (desc.OpenArray k u) e named on = tt
  type_read t (desc.Pointer k u) e named on = tt
  type_read t (desc.ProcType k s) e named on = tt

  types_read : (ts : List TypedType) → AllByRecursion (λ t. type_named m.types t.name ≡ Some t.desc) ts → CountsOn P L (flat_map (counts_of_type M) (each (laid_type (described faces) m) ts)) → AllByRecursion (λ t. TypeRead P L (own_name m t) t.desc) ts
  types_read [] named on = tt
  types_read (t ∷ ts) named on =
      let a = counts_of_type M (laid_type (described faces) m t) in
      let b = flat_map (counts_of_type M) (each (laid_type (described faces) m) ts) in
      (type_read t t.desc refl named.0 (counts_front P L a b on).1, types_read ts named.1 (counts_back P L a b on))

  read : ModuleRead P L m
  read =
      let f4 = counts_front P L (counts_of_mentioned M ++ c2 ++ c3 ++ c4) c5 laid_on in
      let f3 = counts_front P L (counts_of_mentioned M ++ c2 ++ c3) c4 f4 in
      record {
        types = types_read m.types checked.types (types_part L laid_on);
        variables = variables_read V m.name (IsTypeOf m) P L near goes_on owned rooms m.variables (counts_back P L (counts_of_mentioned M ++ c2) c3 f3);
        procedures = procedures_read V m.name (IsTypeOf m) P L near goes_on owned rooms V m.procedures (counts_back P L (counts_of_mentioned M ++ c2 ++ c3) c4 f4) checked.tied.procedures;
        body = stmts_read V m.name (IsTypeOf m) P L near goes_on owned rooms m.body (counts_back P L (counts_of_mentioned M ++ c2 ++ c3 ++ c4) c5 laid_on) checked.tied.body;
      }

  pub enough : IsTied faces m
  enough = record { held = checked.held; flat = flat_near; read = read }

pub counts_are_enough : CountsAreEnough
counts_are_enough faces m checked = enough faces m checked
