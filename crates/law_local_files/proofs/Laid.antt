-- A module is laid out the same by maps that agree on what its layout reads.
use Rattle.std.proofs.Common.{◌≡◌, ℕ, zero, suc, ◌+◌, ◌*◌, List, [], ◌∷◌, Bool, true, false, cond, length, Option, Some, None, map as each, refl, sym, ap, ◌∙◌, subst}
use Rattle.std.specs.Prelude.{bytes_eq}
use Rattle.std.specs.Option.{option_map}
use Rattle.std.specs.List.{AllByRecursion}
use Rattle.ob_tree.specs.declared.names.QName.{QName}
use Rattle.ob_types.specs.declared.types.TypeRef.{TypeRef}
use Rattle.ob_types.specs.declared.types.TypeRef.TheVariants as ref
use Rattle.ob_types.specs.declared.desc.Desc.{Desc}
use Rattle.ob_types.specs.declared.desc.Desc.TheVariants as desc
use Rattle.ob_types.specs.declared.desc.RecordDesc.{RecordDesc}
use Rattle.ob_types.specs.declared.desc.Field.{Field}
use Rattle.ob_types.specs.declared.typed.TypedType.{TypedType}
use Rattle.ob_types.specs.TypedSyntax.{Module}
use Rattle.ob_types.specs.Maps.{listed}
use Rattle.ob_layout.specs.Lists.{sum_of}
use Rattle.ob_layout.specs.LaidOut.{type_named, is_own, viewed, base_of, record_words, declared_words, summed, declared_procedures, counted, words_in, procedures_in, kept, placed, numbered, laid_desc, laid_type, laid_out}
use Rattle.ob_uses_roots.specs.Counts.{own_name}
use Rattle.ob_uses_roots.specs.Noted.{names_of}
use Rattle.ob_uses.specs.declared.way.Way.TheVariants as way
use Rattle.ob_uses.specs.Uses.{near_types, flat_types}
use Rattle.ob_uses.specs.Ways.{desc_leads, is_of}
use Rattle.ob_uses.specs.Closed.{is_among, of_found}
use Rattle.law_local_files.specs.Agreeing.{Map, On, Agree, as_shape}
use Rattle.law_local_files.specs.Read.{TypeRead, ModuleRead}
use Rattle.law_local_files.proofs.Joined.{cons}
use Rattle.law_local_files.proofs.Told.{all_on, among_on, flat_on}
use Rattle.law_local_files.proofs.Places.{sum_told}
use Rattle.law_lists.proofs.Lists.{all_back, all_both, all_each, all_from, all_front, all_made}

pub placed_all : (P : TypeRef → Type 0) (f : TypeRef → ℕ) (at : ℕ) (fs : List Field) → AllByRecursion (λ x. P x.of) fs → AllByRecursion (λ x. P x.of) (placed f at fs)
placed_all P f at [] all = tt
placed_all P f at (x ∷ fs) all = (all.0, placed_all P f (at + f x.of) fs all.1)

base_told : (P : QName → Type 0) (f g : TypeRef → ℕ) → ((t : TypeRef) → On P t → f t ≡ g t) → (b : Option TypeRef) → AllByRecursion (On P) (listed b) → base_of f b ≡ base_of g b
base_told P f g same None all = refl
base_told P f g same (Some t) all = same t all.0

placed_told : (P : QName → Type 0) (f g : TypeRef → ℕ) → ((t : TypeRef) → On P t → f t ≡ g t) → (a b : ℕ) → a ≡ b → (fs : List Field) → AllByRecursion (λ x. On P x.of) fs → placed f a fs ≡ placed g b fs
placed_told P f g same a b e [] all = refl
placed_told P f g same a b e (x ∷ fs) all = cons (ap (λ k. record x { place = kept k }) e) (placed_told P f g same (a + f x.of) (b + g x.of) (ap (λ k. k + f x.of) e ∙ ap (λ k. b + k) (same x.of all.0)) fs all.1)

module _ (map other : Map) (m : Module) (Shapes Layouts : QName → Type 0) (agree : Agree (viewed map m) (viewed other m) m.name Shapes Layouts) where
  parts_on : (q : QName) (own : Bool) → is_own m q ≡ own → (d : Desc) → Layouts q → viewed map m q ≡ Some d → AllByRecursion (On Layouts) (flat_types own d)
  parts_on q own i d on e = subst (λ b. AllByRecursion (On Layouts) (flat_types b d)) i (flat_on (viewed map m) (viewed other m) m.name Shapes Layouts agree q d on e)

  -- ---- words

  record_words_told : (q : QName) (own : Bool) → is_own m q ≡ own → (r : RecordDesc) (f g : TypeRef → ℕ) → ((t : TypeRef) → On Layouts t → f t ≡ g t) → Layouts q → viewed map m q ≡ Some (desc.Record r) → record_words f own r ≡ record_words g own r
  record_words_told q true i r f g same on e =
      let all = parts_on q true i (desc.Record r) on e in
      let b = base_told Layouts f g same r.base (all_front (On Layouts) (listed r.base) (each (λ x. x.of) r.fields) all) in
      let s = sum_told (λ x. f x.of) (λ x. g x.of) r.fields (all_from (λ x. On Layouts x.of) (λ x. f x.of ≡ g x.of) (λ x h. same x.of h) r.fields (all_made (λ x. x.of) (On Layouts) r.fields (all_back (On Layouts) (listed r.base) (each (λ x. x.of) r.fields) all))) in
      ap (λ k. k + sum_of (λ x. f x.of) r.fields) b ∙ ap (λ k. base_of g r.base + k) s
  record_words_told q false i r f g same on e = refl

  declared_told : (q : QName) (own : Bool) → is_own m q ≡ own → (f g : TypeRef → ℕ) → ((t : TypeRef) → On Layouts t → f t ≡ g t) → Layouts q → (d : Option Desc) → viewed map m q ≡ d → declared_words f own d ≡ declared_words g own d
  declared_told q own i f g same on None e = refl
  declared_told q own i f g same on (Some (desc.Record r)) e = record_words_told q own i r f g same on e
  declared_told q own i f g same on (Some (desc.Alias k t)) e = same t (parts_on q own i (desc.Alias k t) on e).0
  declared_told q own i f g same on (Some (desc.Array k n t)) e = ap (λ w. n * w) (same t (parts_on q own i (desc.Array k n t) on e).0)
  declared_told q own i f g same on (Some (desc.OpenArray k t)) e = refl
  declared_told q own i f g same on (Some (desc.Const v)) e = refl
  declared_told q own i f g same on (Some (desc.Var k t)) e = refl
  declared_told q own i f g same on (Some (desc.Proc s)) e = refl
  declared_told q own i f g same on (Some (desc.Pointer k t)) e = refl
  declared_told q own i f g same on (Some (desc.ProcType k s)) e = refl

  summed_told : (n : ℕ) (t : TypeRef) → On Layouts t → summed map m n t ≡ summed other m n t
  summed_told zero t on = refl
  summed_told (suc n) (ref.Basic b) on = refl
  summed_told (suc n) (ref.Named q) on =
      declared_told q (is_own m q) refl (summed map m n) (summed other m n) (λ t h. summed_told n t h) on (viewed map m q) refl
      ∙ ap (declared_words (summed other m n) (is_own m q)) (agree.layouts q on)

  -- ---- bound procedures

  record_count_told : (q : QName) (own : Bool) → is_own m q ≡ own → (r : RecordDesc) (f g : TypeRef → ℕ) → ((t : TypeRef) → On Layouts t → f t ≡ g t) → Layouts q → viewed map m q ≡ Some (desc.Record r) → declared_procedures f own (Some (desc.Record r)) ≡ declared_procedures g own (Some (desc.Record r))
  record_count_told q true i r f g same on e = ap (λ k. k + length r.methods) (base_told Layouts f g same r.base (all_front (On Layouts) (listed r.base) (each (λ x. x.of) r.fields) (parts_on q true i (desc.Record r) on e)))
  record_count_told q false i r f g same on e = refl

  declared_count_told : (q : QName) (own : Bool) → is_own m q ≡ own → (f g : TypeRef → ℕ) → ((t : TypeRef) → On Layouts t → f t ≡ g t) → Layouts q → (d : Option Desc) → viewed map m q ≡ d → declared_procedures f own d ≡ declared_procedures g own d
  declared_count_told q own i f g same on None e = refl
  declared_count_told q own i f g same on (Some (desc.Record r)) e = record_count_told q own i r f g same on e
  declared_count_told q own i f g same on (Some (desc.Alias k t)) e = same t (parts_on q own i (desc.Alias k t) on e).0
  declared_count_told q own i f g same on (Some (desc.Array k n t)) e = refl
  declared_count_told q own i f g same on (Some (desc.OpenArray k t)) e = refl
  declared_count_told q own i f g same on (Some (desc.Const v)) e = refl
  declared_count_told q own i f g same on (Some (desc.Var k t)) e = refl
  declared_count_told q own i f g same on (Some (desc.Proc s)) e = refl
  declared_count_told q own i f g same on (Some (desc.Pointer k t)) e = refl
  declared_count_told q own i f g same on (Some (desc.ProcType k s)) e = refl

  counted_told : (n : ℕ) (t : TypeRef) → On Layouts t → counted map m n t ≡ counted other m n t
  counted_told zero t on = refl
  counted_told (suc n) (ref.Basic b) on = refl
  counted_told (suc n) (ref.Named q) on =
      declared_count_told q (is_own m q) refl (counted map m n) (counted other m n) (λ t h. counted_told n t h) on (viewed map m q) refl
      ∙ ap (declared_procedures (counted other m n) (is_own m q)) (agree.layouts q on)

  -- ---- the types of the module

  laid_desc_told : (q : QName) (d : Desc) → TypeRead Shapes Layouts q d → laid_desc (words_in map m) (procedures_in map m) q d ≡ laid_desc (words_in other m) (procedures_in other m) q d
  laid_desc_told q (desc.Record r) on =
      let f = words_in map m in
      let g = words_in other m in
      let c = procedures_in map m in
      let h = procedures_in other m in
      let same : (t : TypeRef) → On Layouts t → f t ≡ g t = λ t i. summed_told 201 t i in
      let counts : (t : TypeRef) → On Layouts t → c t ≡ h t = λ t i. counted_told 201 t i in
      ap (λ fs. desc.Record (record r { fields = fs; methods = numbered (base_of c r.base) r.methods; words = kept (f (ref.Named q)); procedures = c (ref.Named q) })) (placed_told Layouts f g same (base_of f r.base) (base_of g r.base) (base_told Layouts f g same r.base on.2) r.fields on.3)
      ∙ ap (λ k. desc.Record (record r { fields = placed g (base_of g r.base) r.fields; methods = numbered k r.methods; words = kept (f (ref.Named q)); procedures = c (ref.Named q) })) (base_told Layouts c h counts r.base on.2)
      ∙ ap (λ k. desc.Record (record r { fields = placed g (base_of g r.base) r.fields; methods = numbered (base_of h r.base) r.methods; words = kept k; procedures = c (ref.Named q) })) (same (ref.Named q) on.0)
      ∙ ap (λ k. desc.Record (record r { fields = placed g (base_of g r.base) r.fields; methods = numbered (base_of h r.base) r.methods; words = kept (g (ref.Named q)); procedures = k })) (counts (ref.Named q) on.0)
  laid_desc_told q (desc.Const v) on = refl
  laid_desc_told q (desc.Var k t) on = refl
  laid_desc_told q (desc.Proc s) on = refl
  laid_desc_told q (desc.Alias k t) on = refl
  laid_desc_told q (desc.Array k n t) on = refl
  laid_desc_told q (desc.OpenArray k t) on = refl
  laid_desc_told q (desc.Pointer k t) on = refl
  laid_desc_told q (desc.ProcType k s) on = refl

  types_told : (ts : List TypedType) → AllByRecursion (λ t. TypeRead Shapes Layouts (own_name m t) t.desc) ts → each (laid_type map m) ts ≡ each (laid_type other m) ts
  types_told [] all = refl
  types_told (t ∷ ts) all = cons (ap (λ d. record t { desc = d }) (laid_desc_told (own_name m t) t.desc all.0)) (types_told ts all.1)

  -- THE MODULE, LAID OUT
  pub laid_is : ModuleRead Shapes Layouts m → laid_out map m ≡ laid_out other m
  laid_is read = ap (λ ts. record m { types = ts }) (types_told m.types read.types)

-- ---- what is read in a module that is laid out, and agreed on

module _ (map : Map) (m : Module) (Shapes Layouts : QName → Type 0) where
  type_read : (q : QName) (d : Desc) → TypeRead Shapes Layouts q d → TypeRead Shapes Layouts q (laid_desc (words_in map m) (procedures_in map m) q d)
  type_read q (desc.Record r) on = (on.0, on.1, on.2, placed_all (On Layouts) (words_in map m) (base_of (words_in map m) r.base) r.fields on.3)
  type_read q (desc.Const v) on = on
  type_read q (desc.Var k t) on = on
  type_read q (desc.Proc s) on = on
  type_read q (desc.Alias k t) on = on
  type_read q (desc.Array k n t) on = on
  type_read q (desc.OpenArray k t) on = on
  type_read q (desc.Pointer k t) on = on
  type_read q (desc.ProcType k s) on = on

  types_read : (ts : List TypedType) → AllByRecursion (λ t. TypeRead Shapes Layouts (own_name m t) t.desc) ts → AllByRecursion (λ t. TypeRead Shapes Layouts (own_name (laid_out map m) t) t.desc) (each (laid_type map m) ts)
  types_read [] all = tt
  types_read (t ∷ ts) all = (type_read (own_name m t) t.desc all.0, types_read ts all.1)

  pub laid_read : ModuleRead Shapes Layouts m → ModuleRead Shapes Layouts (laid_out map m)
  laid_read read = record { types = types_read m.types read.types; variables = read.variables; procedures = read.procedures; body = read.body }

  -- the types of the module lead to the same as before
  laid_near : (q : QName) (d : Desc) → near_types (laid_desc (words_in map m) (procedures_in map m) q d) ≡ near_types d
  laid_near q (desc.Record r) = refl
  laid_near q (desc.Const v) = refl
  laid_near q (desc.Var k t) = refl
  laid_near q (desc.Proc s) = refl
  laid_near q (desc.Alias k t) = refl
  laid_near q (desc.Array k n t) = refl
  laid_near q (desc.OpenArray k t) = refl
  laid_near q (desc.Pointer k t) = refl
  laid_near q (desc.ProcType k s) = refl

  laid_flat : (q : QName) (own : Bool) (d : Desc) → AllByRecursion (On Layouts) (flat_types own d) → AllByRecursion (On Layouts) (flat_types own (laid_desc (words_in map m) (procedures_in map m) q d))
  laid_flat q true (desc.Record r) all =
      all_both (On Layouts) (listed r.base) (each (λ x. x.of) (placed (words_in map m) (base_of (words_in map m) r.base) r.fields)) (all_front (On Layouts) (listed r.base) (each (λ x. x.of) r.fields) all)
      (all_each (λ x. x.of) (On Layouts) (placed (words_in map m) (base_of (words_in map m) r.base) r.fields)
      (placed_all (On Layouts) (words_in map m) (base_of (words_in map m) r.base) r.fields (all_made (λ x. x.of) (On Layouts) r.fields (all_back (On Layouts) (listed r.base) (each (λ x. x.of) r.fields) all))))
  laid_flat q false (desc.Record r) all = all
  laid_flat q own (desc.Const v) all = all
  laid_flat q own (desc.Var k t) all = all
  laid_flat q own (desc.Proc s) all = all
  laid_flat q own (desc.Alias k t) all = all
  laid_flat q own (desc.Array k n t) all = all
  laid_flat q own (desc.OpenArray k t) all = all
  laid_flat q own (desc.Pointer k t) all = all
  laid_flat q own (desc.ProcType k s) all = all

  pub near_named : (p : QName) (x : List ℕ) (ts : List TypedType) → of_found (desc_leads way.Near m.name p) (type_named (each (laid_type map m) ts) x) ≡ of_found (desc_leads way.Near m.name p) (type_named ts x)
  near_named p x [] = refl
  near_named p x (t ∷ ts) = go (bytes_eq x t.name) (near_named p x ts)
    where
      go : (b : Bool) → of_found (desc_leads way.Near m.name p) (type_named (each (laid_type map m) ts) x) ≡ of_found (desc_leads way.Near m.name p) (type_named ts x) → of_found (desc_leads way.Near m.name p) (cond b (Some (laid_type map m t).desc) (type_named (each (laid_type map m) ts) x)) ≡ of_found (desc_leads way.Near m.name p) (cond b (Some t.desc) (type_named ts x))
      go true e = ap names_of (laid_near (own_name m t) t.desc)
      go false e = e

  -- names among what a description leads to are on what it says
  abbrev pub LeadsOn : QName → Option Desc → Type 0
  LeadsOn p d = (q : QName) → is_among (of_found (desc_leads way.Flat m.name p) d) q ≡ true → Layouts q

  flat_named : (p : QName) (x : List ℕ) (ts : List TypedType) → LeadsOn p (type_named ts x) → LeadsOn p (type_named (each (laid_type map m) ts) x)
  flat_named p x [] = λ h. h
  flat_named p x (t ∷ ts) = go (bytes_eq x t.name) (flat_named p x ts)
    where
      go : (b : Bool) → (LeadsOn p (type_named ts x) → LeadsOn p (type_named (each (laid_type map m) ts) x)) → LeadsOn p (cond b (Some t.desc) (type_named ts x)) → LeadsOn p (cond b (Some (laid_type map m t).desc) (type_named (each (laid_type map m) ts) x))
      go true e h = λ q i. among_on Layouts (flat_types (is_of m.name p) (laid_type map m t).desc) (laid_flat (own_name m t) (is_of m.name p) t.desc (all_on Layouts (flat_types (is_of m.name p) t.desc) h)) q i
      go false e h = e h

module _ (map other : Map) (m : Module) (Shapes Layouts : QName → Type 0) (agree : Agree (viewed map m) (viewed other m) m.name Shapes Layouts) where
  shapes_case : (q : QName) (b : Bool) (x y : Option Desc) → option_map as_shape (cond b x (map q)) ≡ option_map as_shape (cond b x (other q)) → option_map as_shape (cond b y (map q)) ≡ option_map as_shape (cond b y (other q))
  shapes_case q true x y h = refl
  shapes_case q false x y h = h

  layouts_case : (q : QName) (b : Bool) (x y : Option Desc) → cond b x (map q) ≡ cond b x (other q) → cond b y (map q) ≡ cond b y (other q)
  layouts_case q true x y h = refl
  layouts_case q false x y h = h

  near_case : (p q : QName) (b : Bool) → (is_among (of_found (desc_leads way.Near m.name p) (cond b (type_named m.types p.object) (map p))) q ≡ true → Shapes q) → is_among (of_found (desc_leads way.Near m.name p) (cond b (type_named (each (laid_type map m) m.types) p.object) (map p))) q ≡ true → Shapes q
  near_case p q true h i = h (ap (λ l. is_among l q) (sym (near_named map m Shapes Layouts p p.object m.types)) ∙ i)
  near_case p q false h i = h i

  flat_case : (p q : QName) (b : Bool) → ((r : QName) → is_among (of_found (desc_leads way.Flat m.name p) (cond b (type_named m.types p.object) (map p))) r ≡ true → Layouts r) → is_among (of_found (desc_leads way.Flat m.name p) (cond b (type_named (each (laid_type map m) m.types) p.object) (map p))) q ≡ true → Layouts q
  flat_case p q true h i = flat_named map m Shapes Layouts p p.object m.types h q i
  flat_case p q false h i = h q i

  -- the maps agree for the module that is laid out too
  pub agree_laid : Agree (viewed map (laid_out map m)) (viewed other (laid_out map m)) m.name Shapes Layouts
  agree_laid = record {
    shapes = λ q on. shapes_case q (is_own m q) (type_named m.types q.object) (type_named (each (laid_type map m) m.types) q.object) (agree.shapes q on);
    near = λ p q on i. near_case p q (is_own m p) (λ j. agree.near p q on j) i;
    layouts = λ q on. layouts_case q (is_own m q) (type_named m.types q.object) (type_named (each (laid_type map m) m.types) q.object) (agree.layouts q on);
    flat = λ p q on i. flat_case p q (is_own m p) (λ r j. agree.flat p r on j) i;
  }
