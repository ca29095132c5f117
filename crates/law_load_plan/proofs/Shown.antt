-- What a module shows is in its object file: variables, procedures and record types.
use Rattle.std.proofs.Common.{◌≡◌, ℕ, suc, Bool, true, false, cond, List, [], ◌∷◌, ◌++◌, map, Option, Some, None, refl, sym, ap, subst, ◌∙◌}
use Rattle.std.specs.Prelude.{if◌then◌else◌, bytes_eq, ◌&&◌, ◌||◌, not, is_none}
use Rattle.std.specs.List.{AllByRecursion, filter}
use Rattle.std.specs.Ordering.{is_eq}
use Rattle.std.specs.declared.cmp.Ordering.{Ordering}
use Rattle.std.specs.declared.cmp.Ordering.TheVariants.{Less, Equal, Greater}
use Rattle.std.proofs.lemmas.Bool.{false≢true}
use Rattle.std.proofs.lemmas.Slice.Eq.{bytes_eq-Decides}
use Rattle.std.proofs.lemmas.Map.Text.{is_eq-slice_cmp}
use Rattle.ob_tree.specs.declared.names.QName.{QName}
use Rattle.ob_tree.specs.declared.ident.Mark.{Mark}
use Rattle.ob_tree.specs.declared.ident.Mark.TheVariants as mark
use Rattle.ob_types.specs.declared.desc.Desc.{Desc}
use Rattle.ob_types.specs.declared.desc.Desc.TheVariants as desc
use Rattle.ob_types.specs.declared.typed.Binding.{Binding}
use Rattle.ob_types.specs.declared.typed.TypedType.{TypedType}
use Rattle.ob_types.specs.declared.typed.TypedVariable.{TypedVariable}
use Rattle.ob_types.specs.Maps.{is_type}
use Rattle.ob_types.specs.TypedSyntax.{Procedure, Module}
use Rattle.ob_desc.specs.Grammar.{is_shown, seen}
use Rattle.ob_obj.specs.declared.parts.Variable.{Variable}
use Rattle.ob_obj.specs.declared.parts.Command.{Command}
use Rattle.ob_obj.specs.declared.parts.RecordType.{RecordType}
use Rattle.ob_obj.specs.Grammar.{by_name as by_bytes}
use Rattle.ob_meaning.specs.Commands.{is_hidden}
use Rattle.ob_layout.specs.Lists.{put_before, put_in, in_order}
use Rattle.ob_env.specs.Faces.{object_named}
use Rattle.ob_uses.specs.Objects.{by_name, is_exported, constant_object, variable_object, procedure_object, in_places, type_object, types_among, reached_types, objects_of}
use Rattle.ob_scheme.specs.Context.{variable_place}
use Rattle.ob_scheme.specs.Object.{is_seen, is_full, is_free, own, seen_variables, variables, commands_among, commands, record_in, records_in}
use Rattle.ob_link.specs.Plan.{is_there}
use Rattle.ob_link.specs.Files.{has_variable, has_procedure, has_type, command_number}
use Rattle.law_load_plan.specs.Compiled.{is_variable, is_procedure, is_record, AreProceduresNamed}
use Rattle.law_load_plan.proofs.Asked.{all_joined}
use Rattle.law_load_plan.proofs.Orders.{all_in_order}
use Rattle.law_load_plan.proofs.Turns.{second_true}
use Rattle.law_load_plan.proofs.Exports.{eq_itself}
use Rattle.law_load_plan.proofs.Commands.{order_found, distinct_from, apart_among}

abbrev Named : Type 0
Named = List ℕ × Desc

-- ---- all of a list

all_map : {A : Type 0} (P Q : A → Type 0) → ((x : A) → P x → Q x) → (xs : List A) → AllByRecursion P xs → AllByRecursion Q xs
all_map P Q f [] h = tt
all_map P Q f (x ∷ xs) h = (f x h.0, all_map P Q f xs h.1)

all_each : {A B : Type 0} (f : A → B) (P : B → Type 0) (xs : List A) → AllByRecursion (λ x. P (f x)) xs → AllByRecursion P (map f xs)
all_each f P [] h = tt
all_each f P (x ∷ xs) h = (h.0, all_each f P xs h.1)

kept_if : {A : Type 0} (P : A → Type 0) (b : Bool) (x : A) (xs : List A) → (b ≡ true → P x) → AllByRecursion P xs → AllByRecursion P (cond b (x ∷ xs) xs)
kept_if P true x xs h k = (h refl, k)
kept_if P false x xs h k = k

all_filtered : {A : Type 0} (test : A → Bool) (P : A → Type 0) (xs : List A) → AllByRecursion (λ x. test x ≡ true → P x) xs → AllByRecursion P (filter test xs)
all_filtered test P [] h = tt
all_filtered test P (x ∷ xs) h = kept_if P (test x) x (filter test xs) h.0 (all_filtered test P xs h.1)

-- what all objects have, the one of a name has
pub object_has : (P : List ℕ → Desc → Type 0) (os : List Named) (n : List ℕ) (d : Desc) → AllByRecursion (λ o. P o.0 o.1) os → object_named os n ≡ Some d → P n d
object_has P [] n d h e = absurd cc
object_has P (o ∷ os) n d h e = go (bytes_eq n o.0) refl e (λ i. object_has P os n d h.1 i)
  where
    go : (b : Bool) → bytes_eq n o.0 ≡ b → cond b (Some o.1) (object_named os n) ≡ Some d → (object_named os n ≡ Some d → P n d) → P n d
    go true f i rest = let same : o.1 ≡ d = cc in subst (λ x. P x d) (sym ((bytes_eq-Decides n o.0).0 f)) (subst (λ x. P o.0 x) same h.0)
    go false f i rest = rest i

shown_is : (m : Mark) → is_shown m ≡ true → is_seen m ≡ true
shown_is mark.Full e = refl
shown_is mark.ReadOnly e = refl
shown_is mark.Hidden e = absurd (false≢true e)

-- ---- variables

has_more : (n x : List ℕ) (vs : List Variable) (b : Bool) (v : Variable) → v.name ≡ x → has_variable n vs ≡ true → has_variable n (if b then v ∷ vs else vs) ≡ true
has_more n x vs true v e h = second_true (bytes_eq n v.name) (has_variable n vs) h
has_more n x vs false v e h = h

first_true : (a b : Bool) → a ≡ true → (a || b) ≡ true
first_true true b e = refl
first_true false b e = absurd (false≢true e)

or_parts : (a b : Bool) → (a || b) ≡ true → (a ≡ false) → b ≡ true
or_parts true b e f = absurd (false≢true (sym f))
or_parts false b e f = e

-- a name that stands in a list stands in its order
placed_has : (n : List ℕ) (o : Ordering) (x y : Variable) (ys more : List Variable) → by_bytes x.name y.name ≡ o → (has_variable n (x ∷ ys) ≡ true → has_variable n more ≡ true) → has_variable n (x ∷ y ∷ ys) ≡ true → (a b : Bool) → bytes_eq n x.name ≡ a → bytes_eq n y.name ≡ b → has_variable n (put_before o x y ys more) ≡ true
placed_has n Less x y ys more e h i a b f g = i
placed_has n Equal x y ys more e h i true b f g = first_true (bytes_eq n y.name) (has_variable n ys) (ap (λ m. bytes_eq n m) (sym ((bytes_eq-Decides x.name y.name).0 (sym (is_eq-slice_cmp x.name y.name) ∙ ap is_eq e))) ∙ f)
placed_has n Equal x y ys more e h i false b f g = or_parts (bytes_eq n x.name) (has_variable n (y ∷ ys)) i f
placed_has n Greater x y ys more e h i a true f g = first_true (bytes_eq n y.name) (has_variable n more) g
placed_has n Greater x y ys more e h i true false f g = second_true (bytes_eq n y.name) (has_variable n more) (h (first_true (bytes_eq n x.name) (has_variable n ys) f))
placed_has n Greater x y ys more e h i false false f g = second_true (bytes_eq n y.name) (has_variable n more) (h (second_true (bytes_eq n x.name) (has_variable n ys) (or_parts (bytes_eq n y.name) (has_variable n ys) (or_parts (bytes_eq n x.name) (has_variable n (y ∷ ys)) i f) g)))

abbrev in_their_order : List Variable → List Variable
in_their_order vs = in_order (λ a b. by_bytes a.name b.name) vs

put_has : (n : List ℕ) (x : Variable) (ys : List Variable) → has_variable n (x ∷ ys) ≡ true → has_variable n (put_in (λ a b. by_bytes a.name b.name) x ys) ≡ true
put_has n x [] h = h
put_has n x (y ∷ ys) h = placed_has n (by_bytes x.name y.name) x y ys (put_in (λ a b. by_bytes a.name b.name) x ys) refl (put_has n x ys) h (bytes_eq n x.name) (bytes_eq n y.name) refl refl

more_has : (n : List ℕ) (x : Variable) (xs ys : List Variable) → (has_variable n xs ≡ true → has_variable n ys ≡ true) → has_variable n (x ∷ xs) ≡ true → has_variable n (x ∷ ys) ≡ true
more_has n x xs ys h e = go (bytes_eq n x.name) refl
  where
    go : (b : Bool) → bytes_eq n x.name ≡ b → has_variable n (x ∷ ys) ≡ true
    go true f = first_true (bytes_eq n x.name) (has_variable n ys) f
    go false f = second_true (bytes_eq n x.name) (has_variable n ys) (h (or_parts (bytes_eq n x.name) (has_variable n xs) e f))

order_has : (n : List ℕ) (vs : List Variable) → has_variable n vs ≡ true → has_variable n (in_their_order vs) ≡ true
order_has n [] h = h
order_has n (v ∷ vs) h = put_has n v (in_their_order vs) (more_has n v vs (in_their_order vs) (order_has n vs) h)

module _ (types : QName → Option Desc) (m : Module) where
  seen_here : (v : TypedVariable) (vs : List TypedVariable) → is_shown v.mark ≡ true → has_variable v.name (seen_variables types m (v ∷ vs)) ≡ true
  seen_here v vs e =
      let x : Variable = record { name = v.name; place = variable_place (own types m) v.name } in
      ap (λ b. has_variable v.name (if b then x ∷ seen_variables types m vs else seen_variables types m vs)) (shown_is v.mark e)
      ∙ first_true (bytes_eq v.name v.name) (has_variable v.name (seen_variables types m vs)) (eq_itself v.name)

  seen_all : (vs : List TypedVariable) → AllByRecursion (λ v. is_shown v.mark ≡ true → has_variable v.name (seen_variables types m vs) ≡ true) vs
  seen_all [] = tt
  seen_all (v ∷ vs) = (
    seen_here v vs,
    all_map (λ u. is_shown u.mark ≡ true → has_variable u.name (seen_variables types m vs) ≡ true) (λ u. is_shown u.mark ≡ true → has_variable u.name (seen_variables types m (v ∷ vs)) ≡ true)
        (λ u h e. has_more u.name v.name (seen_variables types m vs) (is_seen v.mark) (record { name = v.name; place = variable_place (own types m) v.name }) refl (h e)) vs (seen_all vs),
  )

  variables_all : AllByRecursion (λ v. has_variable v.name (variables types m) ≡ true) (filter (λ v. is_shown v.mark) m.variables)
  variables_all = all_filtered (λ v. is_shown v.mark) (λ v. has_variable v.name (variables types m) ≡ true) m.variables
      (all_map (λ v. is_shown v.mark ≡ true → has_variable v.name (seen_variables types m m.variables) ≡ true) (λ v. is_shown v.mark ≡ true → has_variable v.name (variables types m) ≡ true)
      (λ v h e. order_has v.name (seen_variables types m m.variables) (h e)) m.variables (seen_all m.variables))

  -- ---- procedures

  exported_is : (p : Procedure) → is_full p.mark ≡ not (is_hidden p.mark) → is_exported p ≡ true → (is_full p.mark && is_free p.binding) ≡ true
  exported_is p k e = go p.mark p.binding k e
    where
      go : (a : Mark) (b : Option Binding) → is_full a ≡ not (is_hidden a) → (is_shown a && is_none b) ≡ true → (is_full a && is_free b) ≡ true
      go mark.Full None k e = refl
      go mark.Full (Some b) k e = absurd (false≢true e)
      go mark.ReadOnly b k e = absurd (false≢true k)
      go mark.Hidden b k e = absurd (false≢true e)

  number_more : (n x : List ℕ) (k : ℕ) (b : Bool) (cs : List Command) → has_procedure n cs ≡ true → has_procedure n (if b then record { name = x; procedure = k } ∷ cs else cs) ≡ true
  number_more n x k true cs h = go (bytes_eq n x)
    where
      go : (t : Bool) → is_there (if t then Some k else command_number n cs) ≡ true
      go true = refl
      go false = h
  number_more n x k false cs h = h

  command_here : (p : Procedure) (ps : List Procedure) (k : ℕ) → (is_full p.mark && is_free p.binding) ≡ true → has_procedure p.name (commands_among types m (p ∷ ps) k) ≡ true
  command_here p ps k e =
      let c : Command = record { name = p.name; procedure = k } in
      ap (λ b. has_procedure p.name (if b then c ∷ commands_among types m ps (suc k) else commands_among types m ps (suc k))) e
      ∙ ap (λ b. is_there (if b then Some k else command_number p.name (commands_among types m ps (suc k)))) (eq_itself p.name)

  commands_all : (ps : List Procedure) (k : ℕ) → AllByRecursion (λ p. is_full p.mark ≡ not (is_hidden p.mark)) ps → AllByRecursion (λ p. is_exported p ≡ true → has_procedure p.name (commands_among types m ps k) ≡ true) ps
  commands_all [] k h = tt
  commands_all (p ∷ ps) k h = (
    λ e. command_here p ps k (exported_is p h.0 e),
    all_map (λ q. is_exported q ≡ true → has_procedure q.name (commands_among types m ps (suc k)) ≡ true) (λ q. is_exported q ≡ true → has_procedure q.name (commands_among types m (p ∷ ps) k) ≡ true)
        (λ q g e. number_more q.name p.name k (is_full p.mark && is_free p.binding) (commands_among types m ps (suc k)) (g e)) ps (commands_all ps (suc k) h.1),
  )

  procedures_all : AreProceduresNamed m.procedures → AllByRecursion (λ p. has_procedure p.name (commands types m) ≡ true) (filter is_exported m.procedures)
  procedures_all h = all_filtered is_exported (λ p. has_procedure p.name (commands types m) ≡ true) m.procedures
      (all_map (λ p. is_exported p ≡ true → has_procedure p.name (commands_among types m m.procedures 1) ≡ true) (λ p. is_exported p ≡ true → has_procedure p.name (commands types m) ≡ true)
      (λ p g e. ap is_there (order_found p.name (commands_among types m m.procedures 1) (apart_among types m m.procedures 1 (distinct_from m.procedures h.names))) ∙ g e) m.procedures (commands_all m.procedures 1 h.marks))

  -- ---- record types

  module _ (links : List QName) where
    abbrev with_record : List ℕ → Desc → List RecordType → List RecordType
    with_record x d rest = record_in types m links x d ++ rest

    type_more : (n x : List ℕ) (d : Desc) (rest : List RecordType) → has_type n rest ≡ true → has_type n (with_record x d rest) ≡ true
    type_more n x (desc.Record r) rest h = second_true (bytes_eq n x) (has_type n rest) h
    type_more n x (desc.Const v) rest h = h
    type_more n x (desc.Var a t) rest h = h
    type_more n x (desc.Proc s) rest h = h
    type_more n x (desc.Alias a t) rest h = h
    type_more n x (desc.Array a l t) rest h = h
    type_more n x (desc.OpenArray a t) rest h = h
    type_more n x (desc.Pointer a t) rest h = h
    type_more n x (desc.ProcType a s) rest h = h

    type_here : (x : List ℕ) (d : Desc) (rest : List RecordType) → is_record (seen (in_places d)) ≡ true → has_type x (with_record x d rest) ≡ true
    type_here x (desc.Record r) rest e = first_true (bytes_eq x x) (has_type x rest) (eq_itself x)
    type_here x (desc.Const v) rest e = absurd (false≢true e)
    type_here x (desc.Var a t) rest e = absurd (false≢true e)
    type_here x (desc.Proc s) rest e = absurd (false≢true e)
    type_here x (desc.Alias a t) rest e = absurd (false≢true e)
    type_here x (desc.Array a l t) rest e = absurd (false≢true e)
    type_here x (desc.OpenArray a t) rest e = absurd (false≢true e)
    type_here x (desc.Pointer a t) rest e = absurd (false≢true e)
    type_here x (desc.ProcType a s) rest e = absurd (false≢true e)

    types_all : (ts : List TypedType) → AllByRecursion (λ t. is_record (seen (in_places t.desc)) ≡ true → has_type t.name (records_in types m links ts) ≡ true) ts
    types_all [] = tt
    types_all (t ∷ ts) = (
      type_here t.name t.desc (records_in types m links ts),
      all_map (λ u. is_record (seen (in_places u.desc)) ≡ true → has_type u.name (records_in types m links ts) ≡ true) (λ u. is_record (seen (in_places u.desc)) ≡ true → has_type u.name (records_in types m links (t ∷ ts)) ≡ true)
          (λ u h e. type_more u.name t.name t.desc (records_in types m links ts) (h e)) ts (types_all ts),
    )

-- a type is neither a variable nor a procedure
no_variable : (d : Desc) → is_type d ≡ true → is_variable (seen (in_places d)) ≡ true → ⊥
no_variable (desc.Const v) h e = false≢true e
no_variable (desc.Var m t) h e = false≢true h
no_variable (desc.Proc s) h e = false≢true e
no_variable (desc.Alias n u) h e = false≢true e
no_variable (desc.Array n l u) h e = false≢true e
no_variable (desc.OpenArray n u) h e = false≢true e
no_variable (desc.Pointer n u) h e = false≢true e
no_variable (desc.ProcType n s) h e = false≢true e
no_variable (desc.Record r) h e = false≢true e

no_procedure : (d : Desc) → is_type d ≡ true → is_procedure (seen (in_places d)) ≡ true → ⊥
no_procedure (desc.Const v) h e = false≢true e
no_procedure (desc.Var m t) h e = false≢true e
no_procedure (desc.Proc s) h e = false≢true h
no_procedure (desc.Alias n u) h e = false≢true e
no_procedure (desc.Array n l u) h e = false≢true e
no_procedure (desc.OpenArray n u) h e = false≢true e
no_procedure (desc.Pointer n u) h e = false≢true e
no_procedure (desc.ProcType n s) h e = false≢true e
no_procedure (desc.Record r) h e = false≢true e

-- what holds of each kind of object holds of all
module _ (t : Module) (P : List ℕ → Desc → Type 0) where
  abbrev constants_shown : List Named
  constants_shown = map constant_object (filter (λ c. is_shown c.mark) t.constants)

  abbrev variables_shown : List Named
  variables_shown = map variable_object (filter (λ v. is_shown v.mark) t.variables)

  abbrev procedures_shown : List Named
  procedures_shown = map procedure_object (filter is_exported t.procedures)

  abbrev types_shown : List Named
  types_shown = map type_object (types_among t (reached_types t))

  all_objects : AllByRecursion (λ o. P o.0 o.1) constants_shown → AllByRecursion (λ o. P o.0 o.1) variables_shown → AllByRecursion (λ o. P o.0 o.1) procedures_shown → AllByRecursion (λ o. P o.0 o.1) types_shown → AllByRecursion (λ o. P o.0 o.1) (objects_of t)
  all_objects a b c d =
      let Q : Named → Type 0 = λ o. P o.0 o.1 in
      all_in_order by_name Q (constants_shown ++ variables_shown ++ procedures_shown ++ types_shown)
      (all_joined Q (constants_shown ++ variables_shown ++ procedures_shown) types_shown (all_joined Q (constants_shown ++ variables_shown) procedures_shown (all_joined Q constants_shown variables_shown a b) c) d)

all_sure : {A : Type 0} (P : A → Type 0) → ((x : A) → P x) → (xs : List A) → AllByRecursion P xs
all_sure P f [] = tt
all_sure P f (x ∷ xs) = (f x, all_sure P f xs)

types_kept : (t : Module) (P : TypedType → Type 0) → AllByRecursion P t.types → AllByRecursion P (types_among t (reached_types t))
types_kept t P h = all_filtered _ P t.types (all_map P _ (λ x k e. k) t.types h)

-- WHAT IS SHOWN AS A VARIABLE, A PROCEDURE OR A RECORD TYPE is in the object file
module _ (types : QName → Option Desc) (t : Module) (described : AllByRecursion (λ x. is_type x.desc ≡ true) t.types) where
  pub variable_there : (n : List ℕ) (d : Desc) → object_named (objects_of t) n ≡ Some d → is_variable d ≡ true → has_variable n (variables types t) ≡ true
  variable_there n d = object_has (λ x e. is_variable e ≡ true → has_variable x (variables types t) ≡ true) (objects_of t) n d
      (all_objects t (λ x e. is_variable e ≡ true → has_variable x (variables types t) ≡ true)
      (all_each constant_object _ (filter (λ c. is_shown c.mark) t.constants) (all_sure _ (λ c e. absurd (false≢true e)) (filter (λ c. is_shown c.mark) t.constants)))
      (all_each variable_object _ (filter (λ v. is_shown v.mark) t.variables) (all_map _ _ (λ v h e. h) (filter (λ v. is_shown v.mark) t.variables) (variables_all types t)))
      (all_each procedure_object _ (filter is_exported t.procedures) (all_sure _ (λ p e. absurd (false≢true e)) (filter is_exported t.procedures)))
      (all_each type_object _ (types_among t (reached_types t)) (all_map _ _ (λ x h e. absurd (no_variable x.desc h e)) (types_among t (reached_types t)) (types_kept t (λ x. is_type x.desc ≡ true) described))))

  pub procedure_there : AreProceduresNamed t.procedures → (n : List ℕ) (d : Desc) → object_named (objects_of t) n ≡ Some d → is_procedure d ≡ true → has_procedure n (commands types t) ≡ true
  procedure_there named n d = object_has (λ x e. is_procedure e ≡ true → has_procedure x (commands types t) ≡ true) (objects_of t) n d
      (all_objects t (λ x e. is_procedure e ≡ true → has_procedure x (commands types t) ≡ true)
      (all_each constant_object _ (filter (λ c. is_shown c.mark) t.constants) (all_sure _ (λ c e. absurd (false≢true e)) (filter (λ c. is_shown c.mark) t.constants)))
      (all_each variable_object _ (filter (λ v. is_shown v.mark) t.variables) (all_sure _ (λ v e. absurd (false≢true e)) (filter (λ v. is_shown v.mark) t.variables)))
      (all_each procedure_object _ (filter is_exported t.procedures) (all_map _ _ (λ p h e. h) (filter is_exported t.procedures) (procedures_all types t named)))
      (all_each type_object _ (types_among t (reached_types t)) (all_map _ _ (λ x h e. absurd (no_procedure x.desc h e)) (types_among t (reached_types t)) (types_kept t (λ x. is_type x.desc ≡ true) described))))

  pub record_there : (links : List QName) (n : List ℕ) (d : Desc) → object_named (objects_of t) n ≡ Some d → is_record d ≡ true → has_type n (records_in types t links t.types) ≡ true
  record_there links n d = object_has (λ x e. is_record e ≡ true → has_type x (records_in types t links t.types) ≡ true) (objects_of t) n d
      (all_objects t (λ x e. is_record e ≡ true → has_type x (records_in types t links t.types) ≡ true)
      (all_each constant_object _ (filter (λ c. is_shown c.mark) t.constants) (all_sure _ (λ c e. absurd (false≢true e)) (filter (λ c. is_shown c.mark) t.constants)))
      (all_each variable_object _ (filter (λ v. is_shown v.mark) t.variables) (all_sure _ (λ v e. absurd (false≢true e)) (filter (λ v. is_shown v.mark) t.variables)))
      (all_each procedure_object _ (filter is_exported t.procedures) (all_sure _ (λ p e. absurd (false≢true e)) (filter is_exported t.procedures)))
      (all_each type_object _ (types_among t (reached_types t)) (types_kept t (λ x. is_record (seen (in_places x.desc)) ≡ true → has_type x.name (records_in types t links t.types) ≡ true) (types_all types t links t.types))))
