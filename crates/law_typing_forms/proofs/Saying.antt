-- A map that says what a sound program declares has to do with it as `Formed` says.
use Rattle.std.proofs.Common.{◌≡◌, ◌⊎◌, ⊎_elim, inl, inr, ℕ, List, [], ◌∷◌, ◌++◌, map as each, Option, Some, None, refl, sym, ap, subst, ◌∙◌}
use Rattle.std.specs.Prelude.{Bool, true, false, ◌&&◌, bytes_eq, if◌then◌else◌, MatchOption, IfSome, IsTrue}
use Rattle.std.specs.List.{flat_map, AllByRecursion}
use Rattle.ob_tree.specs.declared.names.QName.{QName}
use Rattle.ob_types.specs.declared.types.TypeRef.{TypeRef}
use Rattle.ob_types.specs.declared.types.TypeRef.TheVariants as ref
use Rattle.ob_types.specs.declared.types.Signature.{Signature}
use Rattle.ob_types.specs.declared.desc.Desc.{Desc}
use Rattle.ob_types.specs.declared.desc.Desc.TheVariants as desc
use Rattle.ob_types.specs.declared.desc.RecordDesc.{RecordDesc}
use Rattle.ob_types.specs.declared.desc.Field.{Field}
use Rattle.ob_types.specs.declared.desc.Method.{Method}
use Rattle.ob_types.specs.declared.typed.Family.{Family}
use Rattle.ob_types.specs.Maps.{listed, named_by, signature_types, is_type, IsHeld}
use Rattle.ob_types.specs.Relations.{StandsFor, itself, is_alias, Is, is_record, is_open}
use Rattle.ob_types.proofs.Targets.{unique}
use Rattle.ob_meaning.specs.Values.{same_name, Program, Form, RecordForm, Fields, NoField, AField, joined, own_fields, base_line, base_fields, fields_of, form_in, record_in, description, number_of_types}
use Rattle.ob_meaning.specs.Meaning.{declared_for}
use Rattle.law_simulation_relation.specs.Layout.{field_form}
use Rattle.law_simulation_relation.specs.Relation.{OrElse, FieldIn, FormOk}
use Rattle.law_simulation_relation.specs.Typed.{IsRecordForm, ReceiverOk, result_form}
use Rattle.law_simulation_relation.proofs.Names.{bytes_true, name_true, field_same}
use Rattle.ob_rules.specs.Shapes as rules
use Rattle.ob_rules.specs.Names.{out_string}
use Rattle.law_typing_forms.specs.Formed.{IsDeclared, IsRecordOf, IsFieldOf, IsMethodOf, introduced, AreParameters, behind, Formed}
use Rattle.law_typing_forms.proofs.Chains.{chains}
use Rattle.law_typing_forms.specs.Said.{IsOneOf, IsAmong, IsBoundAmong, IsPartOf, IsSaid, IsFreshName, HaveNames, IsSound}
use Rattle.law_typing_forms.proofs.Within.{form_described}
use Rattle.law_typing_forms.proofs.Built.{OwnerIn, base_apart, Found, found, record_base, built}
use Rattle.law_lists.proofs.Lists.{all_back, all_both, all_front, and_left, and_right, false_if_not}

-- the rules compare the module first
pub same_is : (p q : QName) → rules.same_name p q ≡ true → p ≡ q
same_is p q e =
    let m : p.module ≡ q.module = bytes_true p.module q.module (and_left (bytes_eq p.module q.module) (bytes_eq p.object q.object) e) in
    let o : p.object ≡ q.object = bytes_true p.object q.object (and_right (bytes_eq p.module q.module) (bytes_eq p.object q.object) e) in
    ap (λ (x : List ℕ). record { «module» = x; object = p.object }) m ∙ ap (λ (x : List ℕ). record { «module» = q.module; object = x }) o

-- ---- a field of its own

abbrev finds : QName → List ℕ → QName → List ℕ → Bool
finds o x p y = bytes_eq x y && same_name o p

-- behind fields of other owners
past_others : (q : QName) (x : List ℕ) (bs gs : Fields) (t : Form) → (OwnerIn q bs → ⊥) → FieldIn gs q x × (field_form gs q x ≡ t) → FieldIn (joined bs gs) q x × (field_form (joined bs gs) q x ≡ t)
past_others q x NoField gs t never h = h
past_others q x (AField p y u bs) gs t never h = by (finds q x p y) refl (past_others q x bs gs t (λ i. never (inr i)) h)
  where
    by : (b : Bool) → finds q x p y ≡ b → FieldIn (joined bs gs) q x × (field_form (joined bs gs) q x ≡ t) → OrElse b (Unit {0}) (FieldIn (joined bs gs) q x) × ((if b then u else field_form (joined bs gs) q x) ≡ t)
    by true e k = absurd (never (inl (name_true q p (and_right (bytes_eq x y) (same_name q p) e))))
    by false e k = k

not_fresh : (x : List ℕ) (fs : List Field) (g : Field) → IsFreshName x fs → IsOneOf fs g → x ≡ g.name → ⊥
not_fresh x [] g h i e = i
not_fresh x (f ∷ fs) g h i e = ⊎_elim (λ k. h.0 (e ∙ sym (ap (λ (y : Field). y.name) k))) (λ k. not_fresh x fs g h.1 k e) i

own_found : (form : TypeRef → Form) (q : QName) (fs : List Field) (g : Field) → HaveNames fs → IsOneOf fs g → FieldIn (own_fields form q fs) q g.name × (field_form (own_fields form q fs) q g.name ≡ form g.of)
own_found form q [] g h i = absurd i
own_found form q (f ∷ fs) g h i = by (finds q g.name q f.name) refl i (λ k. own_found form q fs g h.1 k)
  where
    by : (b : Bool) → finds q g.name q f.name ≡ b → (f ≡ g) ⊎ IsOneOf fs g → (IsOneOf fs g → FieldIn (own_fields form q fs) q g.name × (field_form (own_fields form q fs) q g.name ≡ form g.of)) → OrElse b (Unit {0}) (FieldIn (own_fields form q fs) q g.name) × ((if b then form f.of else field_form (own_fields form q fs) q g.name) ≡ form g.of)
    by true e (inl k) r = (tt, ap (λ (y : Field). form y.of) k)
    by true e (inr k) r = absurd (not_fresh f.name fs g h.0 k (sym (bytes_true g.name f.name (and_left (bytes_eq g.name f.name) (same_name q q) e))))
    by false e (inl k) r = let bad : true ≡ false = sym (field_same q g.name) ∙ ap (λ (y : Field). finds q g.name q y.name) (sym k) ∙ e in absurd cc
    by false e (inr k) r = r k

one_of : {A : Type 0} (P : A → Type 0) (xs : List A) (x : A) → AllByRecursion P xs → IsOneOf xs x → P x
one_of P [] x h i = absurd i
one_of P (y ∷ ys) x h i = ⊎_elim (λ e. subst P e h.0) (λ k. one_of P ys x h.1 k) i

all_of : {A : Type 0} (P Q : A → Type 0) (xs : List A) → ((x : A) → P x → Q x) → AllByRecursion P xs → AllByRecursion Q xs
all_of P Q [] f h = tt
all_of P Q (x ∷ xs) f h = (f x h.0, all_of P Q xs f h.1)

all_each : {A B : Type 0} (P : B → Type 0) (f : A → B) (xs : List A) → AllByRecursion (λ x. P (f x)) xs → AllByRecursion P (each f xs)
all_each P f [] h = tt
all_each P f (x ∷ xs) h = (h.0, all_each P f xs h.1)

each_all : {A B : Type 0} (P : B → Type 0) (f : A → B) (xs : List A) → AllByRecursion P (each f xs) → AllByRecursion (λ x. P (f x)) xs
each_all P f [] h = tt
each_all P f (x ∷ xs) h = (h.0, each_all P f xs h.1)

all_flat : {A B : Type 0} (P : B → Type 0) (f : A → List B) (xs : List A) → AllByRecursion (λ x. AllByRecursion P (f x)) xs → AllByRecursion P (flat_map f xs)
all_flat P f [] h = tt
all_flat P f (x ∷ xs) h = all_both P (f x) (flat_map f xs) h.0 (all_flat P f xs h.1)

flat_all : {A B : Type 0} (P : B → Type 0) (f : A → List B) (xs : List A) → AllByRecursion P (flat_map f xs) → AllByRecursion (λ x. AllByRecursion P (f x)) xs
flat_all P f [] h = tt
flat_all P f (x ∷ xs) h = (all_front P (f x) (flat_map f xs) h, flat_all P f xs (all_back P (f x) (flat_map f xs) h))

module _ (program : Program) (sound : IsSound program) where
  abbrev form : TypeRef → Form
  form = form_in program

  abbrev types : QName → Option Desc
  types = description program

  -- RECORD TYPES

  field_of : (q : QName) (s : RecordDesc) → types q ≡ Some (desc.Record s) → (f : Field) → IsAmong s.fields f → IsFieldOf program q f
  field_of q s e f h =
      let is = form_described program sound q (desc.Record s) e in
      let own = own_found form q s.fields h.g (sound.fields q s e) h.there in
      let all = past_others q h.g.name (base_fields form s.base) (own_fields form q s.fields) (form h.g.of) (base_apart program sound q s e) own in
      let fs : fields_of (record_in program q) ≡ joined (base_fields form s.base) (own_fields form q s.fields) = ap fields_of is in
      let there : FieldIn (fields_of (record_in program q)) q f.name = subst (λ x. FieldIn (fields_of (record_in program q)) q x) h.name (subst (λ k. FieldIn k q h.g.name) (sym fs) all.0) in
      let has : field_form (fields_of (record_in program q)) q f.name ≡ form f.of = ap (λ x. field_form (fields_of (record_in program q)) q x) (sym h.name) ∙ ap (λ k. field_form k q h.g.name) fs ∙ all.1 ∙ ap form h.of in
      record { there = there; form = has }

  method_of : (q : QName) (s : RecordDesc) → types q ≡ Some (desc.Record s) → (m : Method) → IsBoundAmong s.methods m → IsMethodOf program q m
  method_of q s e m h =
      let k : IsMethodOf program q h.k = one_of (λ m. IsMethodOf program q m) s.methods h.k (sound.methods q s e) h.there in
      let f : introduced q h.k ≡ introduced q m = ap (λ (x : List ℕ). let y : Family = record { owner = q; name = x } in y) h.name in
      record {
        name = k.name;
        p = k.p;
        declared = ap (λ f. declared_for program q f) (sym f) ∙ k.declared;
        found = k.found;
        receives = subst (λ r. ReceiverOk program r q k.p.parameters) h.receiver k.receives;
        result = k.result ∙ ap (λ (g : Signature). result_form program g.result) h.signature;
        parameters = subst (λ (g : Signature). AreParameters program (behind k.p.parameters) g.params) h.signature k.parameters;
      }

  record_fits : (q : QName) (s : RecordDesc) → types q ≡ Some (desc.Record s) → FormOk program (record_in program q)
  record_fits q s e = built program sound (number_of_types program) (ref.Named q) (chains program sound q (desc.Record s) e) (λ h. by (found program sound is_open (ref.Named q) h))
    where
      by : Found program sound is_open (ref.Named q) → ⊥
      by x =
          let own : StandsFor types (ref.Named q) (ref.Named q) = itself (subst (λ o. MatchOption o (Unit {0}) (λ d. is_alias d ≡ false)) (sym e) refl) in
          let same : ref.Named q ≡ ref.Named x.q = unique types own x.stands in
          let n : q ≡ x.q = cc in
          let d : Some (desc.Record s) ≡ Some x.d = sym e ∙ ap types n ∙ x.has in
          let k : desc.Record s ≡ x.d = cc in
          let bad : false ≡ true = ap is_open k ∙ x.is in
          absurd cc

  base_record : (b : Option TypeRef) → IfSome b (Is types is_record) → IfSome b (λ t. IsRecordForm (form t))
  base_record None h = tt
  base_record (Some t) h = record_base program sound t h

  record_of : (q : QName) (r s : RecordDesc) → types q ≡ Some (desc.Record s) → IsPartOf r s → IsRecordOf program q r
  record_of q r s e h =
      let is = form_described program sound q (desc.Record s) e in
      let own : Fields = own_fields form q s.fields in
      record {
        own = own;
        is = is ∙ ap (λ b. RecordForm (q ∷ base_line form b) (joined (base_fields form b) own)) (sym h.base);
        base = subst (λ b. IfSome b (λ t. IsRecordForm (form t))) (sym h.base) (base_record s.base (sound.keeps q (desc.Record s) e).0);
        fits = record_fits q s e;
        fields = all_of (λ f. IsAmong s.fields f) (λ f. IsFieldOf program q f) r.fields (field_of q s e) h.fields;
        methods = all_of (λ m. IsBoundAmong s.methods m) (λ m. IsMethodOf program q m) r.methods (method_of q s e) h.methods;
      }

  -- NAMES OF TYPES

  held_declared : (t : TypeRef) → IsHeld types t → IsDeclared t
  held_declared (ref.Basic b) h = tt
  held_declared (ref.Named q) h = false_if_not (rules.same_name q out_string) (λ e. subst (λ o. MatchOption o ⊥ (λ d. IsTrue (is_type d))) (ap types (same_is q out_string e) ∙ sound.out) h)

  all_declared : (ts : List TypeRef) → AllByRecursion (λ t. IsHeld types t) ts → AllByRecursion IsDeclared ts
  all_declared ts h = all_of (λ t. IsHeld types t) IsDeclared ts held_declared h

  held : (q : QName) (d : Desc) → types q ≡ Some d → AllByRecursion IsDeclared (named_by d)
  held q d e = all_declared (named_by d) (sound.held q d e)

  record_declared : (q : QName) (r s : RecordDesc) → types q ≡ Some (desc.Record s) → IsPartOf r s → AllByRecursion IsDeclared (named_by (desc.Record r))
  record_declared q r s e h =
      let all = held q (desc.Record s) e in
      let front = all_front IsDeclared (listed s.base ++ each (λ f. f.of) s.fields) (flat_map (λ m. signature_types m.signature) s.methods) all in
      let bound = flat_all IsDeclared (λ m. signature_types m.signature) s.methods (all_back IsDeclared (listed s.base ++ each (λ f. f.of) s.fields) (flat_map (λ m. signature_types m.signature) s.methods) all) in
      let base = all_front IsDeclared (listed s.base) (each (λ f. f.of) s.fields) front in
      let fields = each_all IsDeclared (λ f. f.of) s.fields (all_back IsDeclared (listed s.base) (each (λ f. f.of) s.fields) front) in
      all_both IsDeclared (listed r.base ++ each (λ f. f.of) r.fields) (flat_map (λ m. signature_types m.signature) r.methods)
      (all_both IsDeclared (listed r.base) (each (λ f. f.of) r.fields)
      (subst (λ b. AllByRecursion IsDeclared (listed b)) (sym h.base) base)
      (all_each IsDeclared (λ f. f.of) r.fields (all_of (λ f. IsAmong s.fields f) (λ f. IsDeclared f.of) r.fields (λ f k. subst IsDeclared k.of (one_of (λ g. IsDeclared g.of) s.fields k.g fields k.there)) h.fields)))
      (all_flat IsDeclared (λ m. signature_types m.signature) r.methods (all_of (λ m. IsBoundAmong s.methods m) (λ m. AllByRecursion IsDeclared (signature_types m.signature)) r.methods (λ m k. subst (λ g. AllByRecursion IsDeclared (signature_types g)) k.signature (one_of (λ g. AllByRecursion IsDeclared (signature_types g.signature)) s.methods k.k bound k.there)) h.methods))

  module _ (map : QName → Option Desc) (said : (q : QName) (d : Desc) → map q ≡ Some d → IsSaid program q d) where
    declared : (q : QName) (d : Desc) → IsSaid program q d → AllByRecursion IsDeclared (named_by d)
    declared q (desc.Const v) h = tt
    declared q (desc.Var m t) h = (h.1, tt)
    declared q (desc.Proc s) h = h.1
    declared q (desc.Alias m t) h = held q (desc.Alias h.0 t) h.1
    declared q (desc.Array m n t) h = held q (desc.Array h.0 n t) h.1
    declared q (desc.OpenArray m t) h = ⊎_elim (λ k. (subst IsDeclared (sym k.1) tt, tt)) (λ k. held q (desc.OpenArray k.0 t) k.1) h
    declared q (desc.Pointer m t) h = held q (desc.Pointer h.0 t) h.1
    declared q (desc.ProcType m s) h = held q (desc.ProcType h.0 s) h.1
    declared q (desc.Record r) h = record_declared q r h.0 h.1.0 h.1.1

    pub formed : Formed map program
    formed = record {
      aliases = λ q m t e. let h = said q (desc.Alias m t) e in form_described program sound q (desc.Alias h.0 t) h.1;
      arrays = λ q m n t e. let h = said q (desc.Array m n t) e in form_described program sound q (desc.Array h.0 n t) h.1;
      lengths = λ q m n t e. let h = said q (desc.Array m n t) e in sound.lengths q h.0 n t h.1;
      opens = λ q m t e never. ⊎_elim (λ k. let bad : true ≡ false = sym k.0 ∙ never in absurd cc) (λ k. form_described program sound q (desc.OpenArray k.0 t) k.1) (said q (desc.OpenArray m t) e);
      pointers = λ q m t e. let h = said q (desc.Pointer m t) e in form_described program sound q (desc.Pointer h.0 t) h.1;
      procedures = λ q m s e. let h = said q (desc.ProcType m s) e in form_described program sound q (desc.ProcType h.0 s) h.1;
      records = λ q r e. let h = said q (desc.Record r) e in record_of q r h.0 h.1.0 h.1.1;
      variables = λ q m t e. (said q (desc.Var m t) e).0;
      proper = λ q s e. (said q (desc.Proc s) e).0;
      declared = λ q d e. declared q d (said q d e);
    }
