-- A module is the same against all interfaces that have the texts of its uses.
use Rattle.std.proofs.Common.{◌≡◌, ℕ, ◌+◌, List, [], ◌∷◌, ◌++◌, Bool, true, false, cond, not, ◌&&◌, length, Option, Some, None, map as each, refl, sym, ap, ◌∙◌, subst, ⊎_elim}
use Rattle.std.specs.Prelude.{bytes_eq, IsSome, codes}
use Rattle.std.specs.Option.{option_map}
use Rattle.std.specs.List.{AllByRecursion, filter, flat_map}
use Rattle.std.proofs.lemmas.Bool.{and_parts}
use Rattle.ob_format.specs.Format.{◌>>=◌}
use Rattle.ob_tree.specs.declared.names.QName.{QName}
use Rattle.ob_types.specs.declared.desc.Desc.{Desc}
use Rattle.ob_types.specs.declared.desc.Desc.TheVariants as desc
use Rattle.ob_types.specs.declared.desc.RecordDesc.{RecordDesc}
use Rattle.ob_types.specs.declared.face.Aspect.TheVariants.{Shape, Layout}
use Rattle.ob_types.specs.declared.typed.TypedType.{TypedType}
use Rattle.ob_types.specs.Maps.{listed}
use Rattle.ob_types.specs.Relations.{is_record}
use Rattle.ob_types.specs.AssigningTests.{described as is_described}
use Rattle.ob_types.specs.TypedSyntax.{Module}
use Rattle.ob_desc.specs.Grammar.{text_of, shape_text, seen}
use Rattle.ob_layout.specs.LaidOut.{type_named, is_own, viewed, laid_desc, laid_type, words_in, procedures_in}
use Rattle.ob_uses_roots.specs.Counts.{own_name, counts_of_module}
use Rattle.ob_uses_roots.specs.Noted.{names_of, shape_starts, layout_starts}
use Rattle.ob_env.specs.Faces.{Face, described, text_in}
use Rattle.ob_env.specs.Fit.{count_of}
use Rattle.ob_uses.specs.declared.pair.Pair.{Pair}
use Rattle.ob_uses.specs.declared.way.Way.TheVariants as way
use Rattle.ob_uses.specs.Order.{pairs_total}
use Rattle.ob_uses.specs.Objects.{objects_of}
use Rattle.ob_uses.specs.Uses.{near_types, flat_types, is_imported, with_kept, pairs_of, uses_of}
use Rattle.ob_uses.specs.Ways.{leads_by, desc_leads, is_of, paired}
use Rattle.ob_uses.specs.Closed.{is_among, of_found, reached_from}
use Rattle.ob_uses.specs.Reaching.{first, onward}
use Rattle.ob_uses.specs.Made.{face_of_laid, face_from}
use Rattle.ob_uses.proofs.SamePairs.{pair_same}
use Rattle.ob_uses.proofs.Sorting.{Has, order_only}
use Rattle.ob_uses.proofs.Searching.{exact_here}
use Rattle.ob_uses.proofs.Pairing.{among_of_has, join_has, kept_only, all_enough}
use Rattle.ob_scheme.specs.Object.{object_file}
use Rattle.law_local_files.specs.Agreeing.{Map, On, Agree, IsNear, as_shape}
use Rattle.law_local_files.specs.Read.{TypeRead, ModuleRead}
use Rattle.law_local_files.specs.Laws.{Text, AreSpelled, HaveNoOut, AreMet, room, IsLaid, flat, own, told, over, view, IsTied, IsSame, ModulesAreLocal}
use Rattle.law_local_files.proofs.Told.{among_on}
use Rattle.law_local_files.proofs.Laid.{laid_is, laid_read, near_named, agree_laid}
use Rattle.law_local_files.proofs.Objects.{object_is}
use Rattle.law_local_files.proofs.Reached.{each_only, pairs_told, kept_told, wanted_in}
use Rattle.law_local_files.proofs.Agreed.{names_held, all_held, count_held, has_layout, shapes_met, layouts_met, plain_met}
use Rattle.law_lists.proofs.Lists.{all_both, all_each, clash}

-- ---- types of the module

-- one that is no record stays as it is
plain_laid : (map : Map) (m : Module) (q : QName) (d : Desc) → is_record d ≡ false → laid_desc (words_in map m) (procedures_in map m) q d ≡ d
plain_laid map m q (desc.Const v) e = refl
plain_laid map m q (desc.Var k t) e = refl
plain_laid map m q (desc.Proc s) e = refl
plain_laid map m q (desc.Alias k t) e = refl
plain_laid map m q (desc.Array k n t) e = refl
plain_laid map m q (desc.OpenArray k t) e = refl
plain_laid map m q (desc.Pointer k t) e = refl
plain_laid map m q (desc.ProcType k s) e = refl
plain_laid map m q (desc.Record r) e = absurd cc

desc_or : Desc → Option Desc → Desc
desc_or d None = d
desc_or d (Some e) = e

pub some_desc : (d e : Desc) → Some d ≡ Some e → d ≡ e
unfolding desc_or
some_desc d e s = ap (desc_or d) s

plain_named : (map : Map) (m : Module) (ts : List TypedType) (x : List ℕ) (d : Desc) → type_named ts x ≡ Some d → is_record d ≡ false → type_named (each (laid_type map m) ts) x ≡ Some d
plain_named map m [] x d e r = e
plain_named map m (t ∷ ts) x d e r = go (bytes_eq x t.name) (λ i. plain_named map m ts x d i r) e
  where
    go : (b : Bool) → (type_named ts x ≡ Some d → type_named (each (laid_type map m) ts) x ≡ Some d) → cond b (Some t.desc) (type_named ts x) ≡ Some d → cond b (Some (laid_type map m t).desc) (type_named (each (laid_type map m) ts) x) ≡ Some d
    go true more i = let is : t.desc ≡ d = some_desc t.desc d i in ap (λ s. Some s) (plain_laid map m (own_name m t) t.desc (ap is_record is ∙ r) ∙ is)
    go false more i = more i

module _ (Shapes Layouts : QName → Type 0) where
  parts_read : (q : QName) (r : RecordDesc) → TypeRead Shapes Layouts q (desc.Record r) → AllByRecursion (On Layouts) (flat_types true (desc.Record r))
  parts_read q r on = all_both (On Layouts) (listed r.base) (each (λ x. x.of) r.fields) on.2 (all_each (λ x. x.of) (On Layouts) r.fields on.3)

  record_read : (m : Module) (ts : List TypedType) → AllByRecursion (λ t. TypeRead Shapes Layouts (own_name m t) t.desc) ts → (x : List ℕ) (r : RecordDesc) → type_named ts x ≡ Some (desc.Record r) → AllByRecursion (On Layouts) (flat_types true (desc.Record r))
  record_read m [] all x r e = absurd cc
  record_read m (t ∷ ts) all x r e = go (bytes_eq x t.name) (record_read m ts all.1 x r) e
    where
      go : (b : Bool) → (type_named ts x ≡ Some (desc.Record r) → AllByRecursion (On Layouts) (flat_types true (desc.Record r))) → cond b (Some t.desc) (type_named ts x) ≡ Some (desc.Record r) → AllByRecursion (On Layouts) (flat_types true (desc.Record r))
      go true more i = parts_read (own_name m t) r (subst (TypeRead Shapes Layouts (own_name m t)) (some_desc t.desc (desc.Record r) i) all.0)
      go false more i = more i

pub plain_near : (b : Bool) (d : Desc) → is_record d ≡ false → (q : QName) → is_among (names_of (flat_types b d)) q ≡ true → is_among (names_of (near_types d)) q ≡ true
plain_near b (desc.Alias k t) e q i = i
plain_near b (desc.Array k n t) e q i = i
plain_near b (desc.OpenArray k t) e q i = i
plain_near b (desc.Const v) e q i = absurd cc
plain_near b (desc.Var k t) e q i = absurd cc
plain_near b (desc.Proc s) e q i = absurd cc
plain_near b (desc.Pointer k t) e q i = absurd cc
plain_near b (desc.ProcType k s) e q i = absurd cc
plain_near b (desc.Record r) e q i = absurd cc

text_there : (o : Option Desc) → IsSome o → (q : QName) → (t : Text) × ((o >>= λ d. text_of q d Shape) ≡ Some t)
text_there None some q = let none : false ≡ true = some in absurd cc
text_there (Some d) some q = (shape_text q (seen d), refl)

layout_there : (o : Option Desc) → is_described is_record o ≡ true → (q : QName) → (t : Text) × ((o >>= λ d. text_of q d Layout) ≡ Some t)
layout_there None e q = absurd cc
layout_there (Some d) e q = has_layout d q e

module _ (faces others : List (Face Text)) (m : Module) (spelled : AreSpelled faces) (spelled_too : AreSpelled others) (no_out : HaveNoOut faces) (no_out_too : HaveNoOut others) (tied : IsTied faces m) (met : AreMet others (face_from text_in faces m).uses) where
  abbrev M : Module
  M = over faces m

  abbrev V : Map
  V = view faces m

  abbrev S : QName → Type 0
  S = IsNear V M

  abbrev L : QName → Type 0
  L = IsLaid V M

  foreign_shape : (q : QName) → S q → is_own m q ≡ false → option_map as_shape (described faces q) ≡ option_map as_shape (described others q)
  foreign_shape q near other = shapes_met faces others M spelled spelled_too no_out no_out_too met q near (tied.held q near) other

  foreign_view : (q : QName) → is_own m q ≡ false → V q ≡ described faces q
  foreign_view q other = ap (λ b. cond b (type_named M.types q.object) (described faces q)) other

  foreign_layout : (q : QName) → L q → is_own m q ≡ false → described faces q ≡ described others q
  foreign_layout q (flat f) other = layouts_met faces others M spelled spelled_too no_out no_out_too met q f (tied.flat q f) (tied.held q (tied.flat q f)) other
  foreign_layout q (own r i e) other = absurd (clash (is_own m q) i other)
  foreign_layout q (told n (room d e r next)) other = plain_met faces others M spelled spelled_too no_out no_out_too met q d n other (sym (foreign_view q other) ∙ e) r

  shape_case : (q : QName) (b : Bool) → is_own m q ≡ b → S q → option_map as_shape (cond b (type_named m.types q.object) (described faces q)) ≡ option_map as_shape (cond b (type_named m.types q.object) (described others q))
  shape_case q true e on = refl
  shape_case q false e on = foreign_shape q on e

  layout_case : (q : QName) (b : Bool) → is_own m q ≡ b → L q → cond b (type_named m.types q.object) (described faces q) ≡ cond b (type_named m.types q.object) (described others q)
  layout_case q true e on = refl
  layout_case q false e on = foreign_layout q on e

  near_case : (p : QName) (b : Bool) → of_found (desc_leads way.Near m.name p) (cond b (type_named (each (laid_type (described faces) m) m.types) p.object) (described faces p)) ≡ of_found (desc_leads way.Near m.name p) (cond b (type_named m.types p.object) (described faces p))
  near_case p true = near_named (described faces) m S L p p.object m.types
  near_case p false = refl

  -- a name goes on to what it is made of, if it is no record of the module
  goes_on : (p q : QName) → L p → ((r : RecordDesc) → is_own m p ≡ true → V p ≡ Some (desc.Record r) → ⊥) → is_among (leads_by way.Flat V m.name p) q ≡ true → L q
  goes_on p q (flat f) none i = flat (onward f i)
  goes_on p q (own r o e) none i = absurd (none r o e)
  goes_on p q (told n (room d e r next)) none i =
      told (onward n (ap (λ o. is_among (of_found (desc_leads way.Near m.name p) o) q) e ∙ plain_near (is_of m.name p) d r q (sym (ap (λ o. is_among (of_found (desc_leads way.Flat m.name p) o) q) e) ∙ i))) (next q i)

  plain_case : (p q : QName) → L p → is_own m p ≡ true → (d : Desc) → is_record d ≡ false → type_named m.types p.object ≡ Some d → is_among (of_found (desc_leads way.Flat m.name p) (Some d)) q ≡ true → L q
  plain_case p q on o d r e i =
      let at : V p ≡ Some d = ap (λ b. cond b (type_named M.types p.object) (described faces p)) o ∙ plain_named (described faces) m m.types p.object d e r in
      goes_on p q on (λ s o f. clash true refl (ap is_record (some_desc (desc.Record s) d (sym f ∙ at)) ∙ r)) (ap (λ x. is_among (of_found (desc_leads way.Flat m.name p) x) q) at ∙ i)

  own_case : (p q : QName) → L p → is_own m p ≡ true → (o : Option Desc) → type_named m.types p.object ≡ o → is_among (of_found (desc_leads way.Flat m.name p) o) q ≡ true → L q
  own_case p q on o None e i = absurd cc
  own_case p q on o (Some (desc.Record r)) e i = among_on L (flat_types (is_of m.name p) (desc.Record r)) (subst (λ b. AllByRecursion (On L) (flat_types b (desc.Record r))) (sym o) (record_read S L m m.types tied.read.types p.object r e)) q i
  own_case p q on o (Some (desc.Alias k t)) e i = plain_case p q on o (desc.Alias k t) refl e i
  own_case p q on o (Some (desc.Array k n t)) e i = plain_case p q on o (desc.Array k n t) refl e i
  own_case p q on o (Some (desc.OpenArray k t)) e i = plain_case p q on o (desc.OpenArray k t) refl e i
  own_case p q on o (Some (desc.Const v)) e i = plain_case p q on o (desc.Const v) refl e i
  own_case p q on o (Some (desc.Var k t)) e i = plain_case p q on o (desc.Var k t) refl e i
  own_case p q on o (Some (desc.Proc s)) e i = plain_case p q on o (desc.Proc s) refl e i
  own_case p q on o (Some (desc.Pointer k t)) e i = plain_case p q on o (desc.Pointer k t) refl e i
  own_case p q on o (Some (desc.ProcType k s)) e i = plain_case p q on o (desc.ProcType k s) refl e i

  flat_case : (p q : QName) (b : Bool) → is_own m p ≡ b → L p → is_among (of_found (desc_leads way.Flat m.name p) (cond b (type_named m.types p.object) (described faces p))) q ≡ true → L q
  flat_case p q true o on i = own_case p q on o (type_named m.types p.object) refl i
  flat_case p q false o on i = goes_on p q on (λ r t e. clash (is_own m p) t o) (ap (λ x. is_among (of_found (desc_leads way.Flat m.name p) x) q) (foreign_view p o) ∙ i)

  agree : Agree (viewed (described faces) m) (viewed (described others) m) m.name S L
  agree = record {
    shapes = λ q on. shape_case q (is_own m q) refl on;
    near = λ p q on i. onward on (ap (λ l. is_among l q) (near_case p (is_own m p)) ∙ i);
    layouts = λ q on. layout_case q (is_own m q) refl on;
    flat = λ p q on i. flat_case p q (is_own m p) refl on i;
  }

  -- ---- the same

  tree_same : over others m ≡ over faces m
  tree_same = sym (laid_is (described faces) (described others) m S L agree tied.read)

  agree_too : Agree V (viewed (described others) M) m.name S L
  agree_too = agree_laid (described faces) (described others) m S L agree

  read_too : ModuleRead S L M
  read_too = laid_read (described faces) m S L tied.read

  abbrev pairs : List Pair
  pairs = pairs_of V (length M.types + count_of faces) M

  pairs_same : pairs_of V (length M.types + count_of faces) M ≡ pairs_of (viewed (described others) M) (length M.types + count_of others) M
  pairs_same =
      ap (λ n. pairs_of V n M) (sym (count_held faces M))
      ∙ pairs_told V (viewed (described others) M) M S L agree_too read_too.procedures (λ q i. first i) (λ q i. flat (first i)) (names_held faces M) (names_held others M) (all_held faces M) (all_held others M)
      ∙ ap (λ n. pairs_of (viewed (described others) M) n M) (count_held others M)

  -- each pair has its text
  has_text : (p : Pair) → Has p pairs → (t : Text) × (text_in faces p.object p.aspect ≡ Some t)
  has_text p h =
      let names = names_held faces M in
      let ss = names_of (shape_starts (counts_of_module V M)) in
      let ls = names_of (layout_starts (counts_of_module V M)) in
      let g : QName → Bool = λ q. is_imported M q && is_described is_record (V q) in
      let us : List Pair = each (paired Shape) (filter (is_imported M) (reached_from (leads_by way.Near V M.name) (length names) ss)) in
      let vs : List Pair = each (paired Layout) (filter g (reached_from (leads_by way.Flat V M.name) (length names) ls)) in
      let k : Has p (us ++ vs) = order_only pairs_total pair_same p (us ++ vs) (subst (λ n. Has p (pairs_of V n M)) (sym (count_held faces M)) h) in
      ⊎_elim
      (λ (a : Has p us).
      let s = each_only (paired Shape) p (filter (is_imported M) (reached_from (leads_by way.Near V M.name) (length names) ss)) a in
      let f = kept_only (is_imported M) s.q (reached_from (leads_by way.Near V M.name) (length names) ss) s.there in
      let r = (exact_here (leads_by way.Near V M.name) ss names (all_enough way.Near V M.name ss names (all_held faces M)) s.q).0 (among_of_has (reached_from (leads_by way.Near V M.name) (length names) ss) s.q f.0) in
      let t = text_there (described faces s.q) (tied.held s.q r f.1) s.q in
      subst (λ (z : Pair). (t : Text) × (text_in faces z.object z.aspect ≡ Some t)) (sym s.is) t)
      (λ (b : Has p vs).
      let s = each_only (paired Layout) p (filter g (reached_from (leads_by way.Flat V M.name) (length names) ls)) b in
      let f = kept_only g s.q (reached_from (leads_by way.Flat V M.name) (length names) ls) s.there in
      let i = and_parts (is_imported M s.q) (is_described is_record (V s.q)) f.1 in
      let other : is_own m s.q ≡ false = foreign (is_own m s.q) (not (bytes_eq s.q.«module» (codes "Out"))) i.0 in
      let t = layout_there (described faces s.q) (ap (is_described is_record) (sym (foreign_view s.q other)) ∙ i.1) s.q in
      subst (λ (z : Pair). (t : Text) × (text_in faces z.object z.aspect ≡ Some t)) (sym s.is) t)
      (join_has p us vs k)
    where
      foreign : (a b : Bool) → not a && b ≡ true → a ≡ false
      foreign true b e = absurd cc
      foreign false b e = refl

  uses_same : uses_of (viewed (described others) M) (length M.types + count_of others) M (text_in others) ≡ uses_of V (length M.types + count_of faces) M (text_in faces)
  uses_same =
      ap (λ ps. flat_map (with_kept (text_in others)) ps) (sym pairs_same)
      ∙ sym (kept_told (text_in faces) (text_in others) pairs (λ p h. let t = has_text p h in t.1 ∙ sym (wanted_in (text_in faces) (λ u. text_in others u.object u.aspect ≡ Some u.kept) pairs met p h t.0 t.1)))

  shows_same : face_from text_in others m ≡ face_from text_in faces m
  shows_same =
      ap (λ (k : Module). face_of_laid (text_in others) others k) tree_same
      ∙ ap (λ us. record { «module» = M.name; imports = M.imports; objects = objects_of M; uses = us }) uses_same

  pub same : IsSame faces others m
  same = record {
    tree = tree_same;
    shows = shows_same;
    object = λ es us. ap (λ (k : Module). object_file (viewed (described others) k) k es us) tree_same ∙ sym (object_is V (viewed (described others) M) M S L agree_too read_too es us);
  }

pub modules_are_local : ModulesAreLocal
modules_are_local faces others m spelled spelled_too no_out no_out_too tied met = same faces others m spelled spelled_too no_out no_out_too tied met
