-- The view of a checked module that is laid out has the members of the records that its bodies are judged by.
use Rattle.std.proofs.Common.{◌≡◌, inl, inr, ℕ, suc, ◌+◌, Bool, true, false, cond, List, [], ◌∷◌, ◌++◌, map as each, Option, Some, None, refl, sym, ap, subst, ◌∙◌, append-nil}
use Rattle.std.specs.Prelude.{bytes_eq}
use Rattle.std.specs.List.{AllByRecursion, find}
use Rattle.std.specs.Option.{option_map}
use Rattle.ob_tree.specs.declared.names.QName.{QName}
use Rattle.ob_types.specs.declared.types.TypeRef.{TypeRef}
use Rattle.ob_types.specs.declared.desc.Desc.{Desc}
use Rattle.ob_types.specs.declared.desc.Desc.TheVariants as desc
use Rattle.ob_types.specs.declared.desc.RecordDesc.{RecordDesc}
use Rattle.ob_types.specs.declared.desc.Field.{Field}
use Rattle.ob_types.specs.declared.desc.Method.{Method}
use Rattle.ob_types.specs.declared.typed.TypedType.{TypedType}
use Rattle.ob_types.specs.declared.typed.TypedModule.{TypedModule}
use Rattle.ob_types.specs.TypedView.{module_view}
use Rattle.ob_layout.specs.LaidOut.{type_named, viewed, base_of, placed, numbered, laid_record, laid_desc, laid_type, laid_out, words_in, procedures_in}
use Rattle.ob_env.specs.Faces.{Face, described}
use Rattle.ob_env.specs.Shown.{unplaced, unnumbered, blank, shown}
use Rattle.ob_rules.specs.Shapes.{Map, same_name}
use Rattle.ob_rules.specs.Names.{Around, map_of, type_desc, own_desc, out_string}
use Rattle.law_typing_forms.specs.Said.{IsOneOf}
use Rattle.law_body_context.specs.Judged.{with_methods, IsTold}
use Rattle.law_names_distinct.specs.Distinct.{AreDistinct}
use Rattle.law_methods_introduced.specs.Families.{view}
use Rattle.law_local_uses.proofs.Laid.{IsFound, all_found}
use Rattle.law_builds_seen.proofs.Members.{IsNamed, IsLess, HasRecords, found_name}

-- ---- what a layout, what is shown, and more bound procedures leave of names

fields_placed : (w : TypeRef → ℕ) (at : ℕ) (fs : List Field) → each (λ f. f.name) (placed w at fs) ≡ each (λ f. f.name) fs
fields_placed w at [] = refl
fields_placed w at (f ∷ fs) = ap (λ ns. f.name ∷ ns) (fields_placed w (at + w f.of) fs)

methods_numbered : (n : ℕ) (ms : List Method) → each (λ m. m.name) (numbered n ms) ≡ each (λ m. m.name) ms
methods_numbered n [] = refl
methods_numbered n (m ∷ ms) = ap (λ ns. m.name ∷ ns) (methods_numbered (suc n) ms)

fields_blank : (fs : List Field) → each (λ f. f.name) (each unplaced fs) ≡ each (λ f. f.name) fs
fields_blank [] = refl
fields_blank (f ∷ fs) = ap (λ ns. f.name ∷ ns) (fields_blank fs)

methods_blank : (ms : List Method) → each (λ m. m.name) (each unnumbered ms) ≡ each (λ m. m.name) ms
methods_blank [] = refl
methods_blank (m ∷ ms) = ap (λ ns. m.name ∷ ns) (methods_blank ms)

more_named : (x : List ℕ) (ms more : List Method) → IsNamed x (each (λ m. m.name) ms) → IsNamed x (each (λ m. m.name) (ms ++ more))
more_named x [] more h = absurd h
more_named x (m ∷ ms) more (inl e) = inl e
more_named x (m ∷ ms) more (inr h) = inr (more_named x ms more h)

laid_less : (w p : TypeRef → ℕ) (q : QName) (r : RecordDesc) (more : List Method) → IsLess r (laid_record w p q (record r { methods = r.methods ++ more }))
laid_less w p q r more = record {
  fields = λ x h. subst (IsNamed x) (sym (fields_placed w (base_of w r.base) r.fields)) h;
  methods = λ x h. subst (IsNamed x) (sym (methods_numbered (base_of p r.base) (r.methods ++ more))) (more_named x r.methods more h);
}

-- ---- lists

all_at : {A : Type 0} (P : A → Type 0) (xs : List A) → AllByRecursion P xs → (x : A) → IsOneOf xs x → P x
all_at P [] h x i = absurd i
all_at P (y ∷ xs) h x (inl e) = subst P e h.0
all_at P (y ∷ xs) h x (inr i) = all_at P xs h.1 x i

found_in : {A : Type 0} (test : A → Bool) (xs : List A) (y : A) → find test xs ≡ Some y → IsOneOf xs y
found_in test [] y e = absurd cc
found_in test (x ∷ xs) y e = by (test x) e (λ i. found_in test xs y i)
  where
    by : (b : Bool) → cond b (Some x) (find test xs) ≡ Some y → (find test xs ≡ Some y → IsOneOf xs y) → IsOneOf (x ∷ xs) y
    by true e rest = inl cc
    by false e rest = inr (rest e)

same_told : (d : Desc) → d ≡ with_methods [] d
same_told (desc.Record r) = ap (λ ms. desc.Record (record r { methods = ms })) (sym (append-nil r.methods))
same_told (desc.Const v) = refl
same_told (desc.Var m t) = refl
same_told (desc.Proc s) = refl
same_told (desc.Alias m t) = refl
same_told (desc.Array m n t) = refl
same_told (desc.OpenArray m t) = refl
same_told (desc.Pointer m t) = refl
same_told (desc.ProcType m s) = refl

-- a type is told by itself
pub told_itself : (ts : List TypedType) (t : TypedType) → IsOneOf ts t → IsTold ts t
told_itself ts t i = (t, (i, (refl, ([], same_told t.desc))))

module _ (faces : List (Face (List ℕ))) (m : TypedModule) (distinct : AreDistinct (λ t. t.name) m.types) where
  abbrev V : Map
  V = viewed (described faces) (laid_out (described faces) (module_view m))

  abbrev Laid : List TypedType
  Laid = each (laid_type (described faces) (module_view m)) m.types

  -- a record there, which has the members of this one
  abbrev HasRecord : Option Desc → RecordDesc → Type 0
  HasRecord o r = (s : RecordDesc) × ((o ≡ Some (desc.Record s)) × IsLess r s)

  -- a type that is told is laid out with its members
  told_has : (t : TypedType) (r : RecordDesc) → t.desc ≡ desc.Record r → IsTold m.types t → HasRecord (type_named Laid t.name) r
  told_has t r e told =
      let s = told.0 in
      let q : QName = record { «module» = m.name; object = s.name } in
      let w = words_in (described faces) (module_view m) in
      let p = procedures_in (described faces) (module_view m) in
      let more = told.1.1.1.0 in
      let found : type_named Laid s.name ≡ Some (laid_desc w p q s.desc) = all_at (IsFound (described faces) (module_view m) m.types) m.types (all_found (described faces) (module_view m) m.types distinct) s told.1.0 in
      let is : s.desc ≡ desc.Record (record r { methods = r.methods ++ more }) = told.1.1.1.1 ∙ ap (with_methods more) e in
      (laid_record w p q (record r { methods = r.methods ++ more }), (ap (type_named Laid) (sym told.1.1.0) ∙ found ∙ ap (λ d. Some (laid_desc w p q d)) is, laid_less w p q r more))

  own_has : (own : List TypedType) → ((t : TypedType) → IsOneOf own t → IsTold m.types t) → (x : List ℕ) (r : RecordDesc) → own_desc (find (λ t. bytes_eq t.name x) own) ≡ Some (desc.Record r) → HasRecord (type_named Laid x) r
  own_has own told x r e = by (find (λ t. bytes_eq t.name x) own) refl e
    where
      by : (o : Option TypedType) → find (λ t. bytes_eq t.name x) own ≡ o → own_desc o ≡ Some (desc.Record r) → HasRecord (type_named Laid x) r
      by None i e = absurd cc
      by (Some t) i e =
          let is : t.desc ≡ desc.Record r = cc in
          subst (λ y. HasRecord (type_named Laid y) r) (found_name (λ (t : TypedType). t.name) x own t i) (told_has t r is (told t (found_in (λ t. bytes_eq t.name x) own t i)))

  -- what is shown has the members
  blank_has : (d : Desc) (r : RecordDesc) → blank d ≡ desc.Record r → (s : RecordDesc) × ((d ≡ desc.Record s) × IsLess r s)
  blank_has (desc.Record s) r e = (s, (refl, subst (λ r. IsLess r s) same less))
    where
      shows : RecordDesc
      shows = record s { fields = each unplaced s.fields; methods = each unnumbered s.methods; words = 0; procedures = 0 }

      same : shows ≡ r
      same = cc

      less : IsLess shows s
      less = record { fields = λ x h. subst (IsNamed x) (fields_blank s.fields) h; methods = λ x h. subst (IsNamed x) (methods_blank s.methods) h }
  blank_has (desc.Const v) r e = absurd cc
  blank_has (desc.Var k t) r e = absurd cc
  blank_has (desc.Proc s) r e = absurd cc
  blank_has (desc.Alias k t) r e = absurd cc
  blank_has (desc.Array k n t) r e = absurd cc
  blank_has (desc.OpenArray k t) r e = absurd cc
  blank_has (desc.Pointer k t) r e = absurd cc
  blank_has (desc.ProcType k s) r e = absurd cc

  shown_has : (q : QName) (r : RecordDesc) → shown faces q ≡ Some (desc.Record r) → HasRecord (described faces q) r
  shown_has q r e = by (described faces q) e
    where
      by : (o : Option Desc) → option_map blank o ≡ Some (desc.Record r) → HasRecord o r
      by None e = absurd cc
      by (Some d) e = let is : blank d ≡ desc.Record r = cc in let s = blank_has d r is in (s.0, (ap (λ d. Some d) s.1.0, s.1.1))

  viewed_has : (q : QName) (r : RecordDesc) (b : Bool) → bytes_eq q.«module» m.name ≡ b → HasRecord (cond b (type_named Laid q.object) (described faces q)) r → HasRecord (V q) r
  viewed_has q r b i h = subst (λ b. HasRecord (cond b (type_named Laid q.object) (described faces q)) r) (sym i) h

  -- what is known around a body
  pub map_has : (u : Around) → u.unit ≡ m.name → u.shown ≡ shown faces → ((t : TypedType) → IsOneOf u.own t → IsTold m.types t) → HasRecords V (map_of u)
  map_has u unit shows told q r e = by (bytes_eq q.«module» u.unit) refl (same_name q out_string) e
    where
      at : (b : Bool) → bytes_eq q.«module» u.unit ≡ b → bytes_eq q.«module» m.name ≡ b
      at b i = ap (bytes_eq q.«module») (sym unit) ∙ i

      by : (b : Bool) → bytes_eq q.«module» u.unit ≡ b → (c : Bool) → type_desc b c u q ≡ Some (desc.Record r) → HasRecord (V q) r
      by true i c e = viewed_has q r true (at true i) (own_has u.own told q.object r e)
      by false i true e = absurd cc
      by false i false e = viewed_has q r false (at false i) (shown_has q r (ap (λ (f : Map). f q) (sym shows) ∙ e))

  -- the types of the module, and what is shown to it
  pub view_has : HasRecords V (view (shown faces) m)
  view_has q r e = by (bytes_eq q.«module» m.name) refl e
    where
      by : (b : Bool) → bytes_eq q.«module» m.name ≡ b → cond b (own_desc (find (λ t. bytes_eq t.name q.object) m.types)) (shown faces q) ≡ Some (desc.Record r) → HasRecord (V q) r
      by true i e = viewed_has q r true i (own_has m.types (told_itself m.types) q.object r e)
      by false i e = viewed_has q r false i (shown_has q r e)
