-- The links of object files name something wherever the uses of their modules are met.
use Rattle.std.proofs.Common.{◌≡◌, ℕ, zero, suc, ◌<◌, Bool, true, false, cond, List, [], ◌∷◌, length, map, Option, Some, None, refl, sym, ap, subst, ◌∙◌, arith}
use Rattle.std.specs.Prelude.{if◌then◌else◌, bytes_eq, Contains, slice_index_or}
use Rattle.std.specs.Option.{option_map}
use Rattle.std.specs.List.{AllByRecursion}
use Rattle.std.proofs.lemmas.Slice.Eq.{bytes_eq-Decides}
use Rattle.ob_tree.specs.declared.names.QName.{QName}
use Rattle.ob_types.specs.declared.desc.Desc.{Desc}
use Rattle.ob_types.specs.declared.face.Aspect.TheVariants as aspect
use Rattle.ob_format.specs.Format.{◌>>=◌}
use Rattle.ob_desc.specs.Grammar.{seen, shape_text, text_of}
use Rattle.ob_obj.specs.declared.file.ObjFile.{ObjFile}
use Rattle.ob_layout.specs.LaidOut.{viewed}
use Rattle.ob_env.specs.Faces.{Face, Wanted, object_named, described}
use Rattle.ob_uses.specs.Objects.{objects_of}
use Rattle.ob_scheme.specs.Object.{type_links}
use Rattle.ob_compile_model.specs.Compiling.{Compiled}
use Rattle.ob_link.specs.Walk.{first_of, or_first}
use Rattle.ob_link.specs.Plan.{named, kept_by, present}
use Rattle.ob_link.specs.Files.{has_variable, has_procedure, has_type, file_named, holds, unless, linked, unlinked_variable, unlinked_procedure, unlinked_type}
use Rattle.law_load_plan.specs.Alike.{AreMet}
use Rattle.law_load_plan.specs.Seen.{IsMet}
use Rattle.law_load_plan.specs.Compiled.{Text, text_shown, IsKnown, file_of, asks_by, AreLinked, is_variable, is_procedure, is_record, IsUsedAs, AreLinksUsed}
use Rattle.law_load_plan.proofs.Asked.{IfSome}
use Rattle.law_load_plan.proofs.Seen.{met_all}
use Rattle.law_load_plan.proofs.Exports.{eq_itself}
use Rattle.law_load_plan.proofs.Telling.{variables_told, procedures_told, records_told, variable_seen, procedure_seen, record_seen}
use Rattle.law_load_plan.proofs.Shown.{variable_there, procedure_there, record_there}

-- ---- one of a list

all_at : {A : Type 0} (P : A → Type 0) (xs : List A) (x : A) (k : ℕ) → k < length xs → slice_index_or xs k x ≡ x → AllByRecursion P xs → P x
all_at P [] x k l e h = absurd (omega (arith, l))
all_at P (y ∷ ys) x zero l e h = subst P e h.0
all_at P (y ∷ ys) x (suc k) l e h = all_at P ys x k (omega (arith, l)) e h.1

all_has : {A : Type 0} (P : A → Type 0) (xs : List A) (x : A) → Contains xs x → AllByRecursion P xs → P x
all_has P xs x c h = all_at P xs x c.0 c.1 c.2 h

first_none : {A R : Type 0} (f : A → Option R) (xs : List A) → AllByRecursion (λ x. f x ≡ None) xs → first_of f xs ≡ None
first_none f [] h = refl
first_none f (x ∷ xs) h = ap (λ o. or_first o (first_of f xs)) h.0 ∙ first_none f xs h.1

all_from : {A : Type 0} (P Q : A → Type 0) → ((x : A) → P x → Q x) → (xs : List A) → AllByRecursion P xs → AllByRecursion Q xs
all_from P Q f [] h = tt
all_from P Q f (x ∷ xs) h = (f x h.0, all_from P Q f xs h.1)

-- ---- the object that a text is of

-- the description that the text of an object is the shape of
record IsShape (os : List (List ℕ × Desc)) (q : QName) (t : Text) : Type 0 where
  pub desc : Desc
  pub is : object_named os q.object ≡ Some desc
  pub text : shape_text q (seen desc) ≡ t

shape_in : (os : List (List ℕ × Desc)) (q : QName) (t : Text) (o : Option Desc) → object_named os q.object ≡ o → (o >>= λ d. text_of q d aspect.Shape) ≡ Some t → IsShape os q t
shape_in os q t None e h = absurd cc
shape_in os q t (Some d) e h = record { desc = d; is = e; text = cc }

shape_of : (face : Face Text) (n : List ℕ) (t : Text) → text_shown face n aspect.Shape ≡ Some t → IsShape face.objects (record { «module» = face.«module»; object = n }) t
shape_of face n t h =
    let q : QName = record { «module» = face.«module»; object = n } in
    shape_in face.objects q t (object_named face.objects n) refl
    (ap (λ b. (cond b (Some face) None >>= λ f. object_named f.objects n) >>= λ d. text_of q d aspect.Shape) (sym (eq_itself face.«module»)) ∙ h)

module _ (P : Text → Type 0) {A : Type 0} (of : A → Compiled Text) where
  abbrev IsOne : A → Type 0
  IsOne x = IsKnown P (of x)

  abbrev twin : A → ObjFile
  twin x = file_of (of x)

  -- the file of a name, and the module
  file_chosen : (b : Bool) (x : A) (o : Option A) → (if b then Some (twin x) else option_map twin o) ≡ option_map twin (if b then Some x else o)
  file_chosen true x o = refl
  file_chosen false x o = refl

  file_as : (n : List ℕ) (xs : List A) → AllByRecursion IsOne xs → file_named n (map twin xs) ≡ option_map twin (named (asks_by of) n xs)
  file_as n [] k = refl
  file_as n (x ∷ xs) k =
      ap (λ m. if bytes_eq n m then Some (twin x) else file_named n (map twin xs)) (sym (ap (λ f. f.«module») k.0.shows))
      ∙ ap (λ o. if bytes_eq n (of x).shows.«module» then Some (twin x) else o) (file_as n xs k.1)
      ∙ file_chosen (bytes_eq n (of x).shows.«module») x (named (asks_by of) n xs)

  -- the module of a use that is met, with the text that is used
  record IsThere (xs : List A) (q : QName) (t : Text) : Type 0 where
    pub one : A
    pub named_is : named (asks_by of) q.«module» xs ≡ Some one
    pub known : IsOne one
    pub text : text_shown (of one).shows q.object aspect.Shape ≡ Some t

  there_by : (xs : List A) (q : QName) (t found : Text) (o : Option A) → named (asks_by of) q.«module» xs ≡ o → IfSome IsOne o → kept_by (asks_by of) o q.object aspect.Shape ≡ Some found → bytes_eq t found ≡ true → IsThere xs q t
  there_by xs q t found None e k h same = absurd cc
  there_by xs q t found (Some y) e k h same = record { one = y; named_is = e; known = k; text = h ∙ ap Some (sym ((bytes_eq-Decides t found).0 same)) }

  kept_if : (b : Bool) (y : A) (o : Option A) → IsOne y → IfSome IsOne o → IfSome IsOne (if b then Some y else o)
  kept_if true y o h k = h
  kept_if false y o h k = k

  known_named : (n : List ℕ) (ys : List A) → AllByRecursion IsOne ys → IfSome IsOne (named (asks_by of) n ys)
  known_named n [] k = tt
  known_named n (y ∷ ys) k = kept_if (bytes_eq n (of y).shows.«module») y (named (asks_by of) n ys) k.0 (known_named n ys k.1)

  use_there : (xs : List A) → AllByRecursion IsOne xs → (x : A) → AreMet (asks_by of) xs x → (u : Wanted Text) → u.aspect ≡ aspect.Shape → Contains (of x).shows.uses u → IsThere xs u.object u.kept
  use_there xs ks x met u shape c =
      let m = all_has (IsMet (asks_by of) xs) (of x).shows.uses u c (met_all (asks_by of) xs (of x).shows.«module» (of x).shows.uses met) in
      there_by xs u.object u.kept m.found (named (asks_by of) u.object.«module» xs) refl (known_named u.object.«module» xs ks)
      (subst (λ a. present (asks_by of) xs u.object a ≡ Some m.found) shape m.is) m.same

  -- THE LINKS of one kind: an object used as one of a kind is in the file of its module
  module _ (kind : Desc → Bool) (told : (q p : QName) (d e : Desc) → shape_text q d ≡ shape_text p e → kind d ≡ true → kind e ≡ true) (kind_seen : (d : Desc) → kind (seen d) ≡ kind d) (in_file : List ℕ → ObjFile → Bool) (there : (y : A) → IsOne y → (n : List ℕ) (d : Desc) → object_named (objects_of (of y).tree) n ≡ Some d → kind d ≡ true → in_file n (twin y) ≡ true) where
    kind_there : (xs : List A) → AllByRecursion IsOne xs → (x : A) → AreMet (asks_by of) xs x → (q : QName) → IsUsedAs kind (of x) q → holds (in_file q.object) (file_named q.«module» (map twin xs)) ≡ true
    kind_there xs ks x met q u =
        let y = use_there xs ks x met (record { object = q; aspect = aspect.Shape; kept = shape_text q (seen u.desc) }) refl u.used in
        let s = shape_of (of y.one).shows q.object (shape_text q (seen u.desc)) y.text in
        let here : QName = record { «module» = (of y.one).shows.«module»; object = q.object } in
        let k : kind s.desc ≡ true = sym (kind_seen s.desc) ∙ told q here (seen u.desc) (seen s.desc) (sym s.text) (kind_seen u.desc ∙ u.kind_is) in
        ap (holds (in_file q.object)) (file_as q.«module» xs ks ∙ ap (option_map twin) y.named_is)
        ∙ there y.one y.known q.object s.desc (sym (ap (λ f. object_named f.objects q.object) y.known.shows) ∙ s.is) k

  pub links_named : ((x : A) → IsOne x → AreLinksUsed (of x)) → AreLinked of IsOne
  links_named used xs ks x k met =
      let l = used x k in
      let fs : List ObjFile = map twin xs in
      ap (λ o. or_first o (or_first (first_of (unlinked_procedure fs) (twin x).links.procedures) (first_of (unlinked_type fs) (twin x).links.types)))
      (first_none (unlinked_variable fs) (twin x).links.variables (all_from (λ l. IsUsedAs is_variable (of x) (linked l)) (λ l. unlinked_variable fs l ≡ None)
      (λ l u. ap (unless (linked l)) (kind_there is_variable variables_told variable_seen (λ n f. has_variable n f.globals.variables) (λ y h n d e v. variable_there (viewed (described (of y).against) (of y).tree) (of y).tree h.types n d e v) xs ks x met (linked l) u)) (twin x).links.variables l.variables))
      ∙ ap (λ o. or_first o (first_of (unlinked_type fs) (twin x).links.types))
      (first_none (unlinked_procedure fs) (twin x).links.procedures (all_from (λ l. IsUsedAs is_procedure (of x) (linked l)) (λ l. unlinked_procedure fs l ≡ None)
      (λ l u. ap (unless (linked l)) (kind_there is_procedure procedures_told procedure_seen (λ n f. has_procedure n f.body.commands) (λ y h n d e v. procedure_there (viewed (described (of y).against) (of y).tree) (of y).tree h.types h.procedures n d e v) xs ks x met (linked l) u)) (twin x).links.procedures l.procedures))
      ∙ first_none (unlinked_type fs) (twin x).links.types (all_from (λ q. IsUsedAs is_record (of x) q) (λ q. unlinked_type fs q ≡ None)
      (λ q u. ap (unless q) (kind_there is_record records_told record_seen (λ n f. has_type n f.body.types) (λ y h n d e v. record_there (viewed (described (of y).against) (of y).tree) (of y).tree h.types (type_links (viewed (described (of y).against) (of y).tree) (of y).tree) n d e v) xs ks x met q u)) (twin x).links.types l.types)
