-- Types that builds show are types of their modules.
use Rattle.std.proofs.Common.{◌≡◌, ℕ, Bool, true, false, cond, List, [], ◌∷◌, ◌++◌, map, Option, Some, refl, sym, ap, subst, ◌∙◌}
use Rattle.std.specs.Prelude.{bytes_eq, IsSome}
use Rattle.std.specs.List.{AllByRecursion, filter}
use Rattle.std.proofs.lemmas.Bool.{false≢true}
use Rattle.ob_tree.specs.declared.names.QName.{QName}
use Rattle.ob_types.specs.declared.desc.Desc.{Desc}
use Rattle.ob_types.specs.declared.typed.TypedType.{TypedType}
use Rattle.ob_types.specs.Maps.{is_type}
use Rattle.ob_types.specs.TypedSyntax.{Module}
use Rattle.ob_format.specs.Format.{◌>>=◌}
use Rattle.ob_desc.specs.Grammar.{is_shown}
use Rattle.ob_meaning.specs.Values.{type_named, description}
use Rattle.ob_env.specs.Faces.{described, face_named, object_named}
use Rattle.ob_uses.specs.Objects.{by_name, is_exported, constant_object, variable_object, procedure_object, type_object, types_among, reached_types, objects_of}
use Rattle.ob_compile_model.specs.Compiling.{Compiled, texts}
use Rattle.law_load_plan.proofs.Asked.{all_joined}
use Rattle.law_load_plan.proofs.Orders.{all_in_order}
use Rattle.law_load_plan.proofs.Shown.{object_has}
use Rattle.ob_builds.specs.Builds.{Text, Build, IsValid, tree_of, shows_of, name_of}
use Rattle.law_builds.proofs.Compiled.{comes}
use Rattle.law_builds.proofs.Faces.{of_is}
use Rattle.law_builds.proofs.Gone.{all_valid}
use Rattle.law_load_enter.specs.Shown.{ShownAreDeclared}
use Rattle.law_load_enter.proofs.Law.{files_have}
use Rattle.law_load_enter.proofs.Chosen.{Compiles}
use Rattle.law_lists.proofs.Lists.{bytes_same}

abbrev Named : Type 0
Named = List ℕ × Desc

-- ---- a type is named by its name

named_or : (b : Bool) (d : Desc) (o : Option Desc) → IsSome o → IsSome (cond b (Some d) o)
named_or true d o h = refl
named_or false d o h = h

named_more : (t : TypedType) (ts xs : List TypedType) → AllByRecursion (λ x. IsSome (type_named ts x.name)) xs → AllByRecursion (λ x. IsSome (type_named (t ∷ ts) x.name)) xs
named_more t ts [] h = tt
named_more t ts (x ∷ xs) h = (named_or (bytes_eq x.name t.name) t.desc (type_named ts x.name) h.0, named_more t ts xs h.1)

all_named : (ts : List TypedType) → AllByRecursion (λ x. IsSome (type_named ts x.name)) ts
all_named [] = tt
all_named (t ∷ ts) = (subst (λ b. IsSome (cond b (Some t.desc) (type_named ts t.name))) (sym (bytes_same t.name t.name refl)) refl, named_more t ts ts (all_named ts))

-- ---- the objects of a module that are types

module _ (t : Module) where
  abbrev IsThere : Named → Type 0
  IsThere o = is_type o.1 ≡ true → IsSome (type_named t.types o.0)

  no_types : {A : Type 0} (f : A → Named) → ((x : A) → is_type (f x).1 ≡ false) → (xs : List A) → AllByRecursion IsThere (map f xs)
  no_types f never [] = tt
  no_types f never (x ∷ xs) = (λ e. absurd (false≢true (sym (never x) ∙ e)), no_types f never xs)

  some_type : (b : Bool) (x : TypedType) (xs : List TypedType) → IsSome (type_named t.types x.name) → AllByRecursion IsThere (map type_object xs) → AllByRecursion IsThere (map type_object (cond b (x ∷ xs) xs))
  some_type true x xs h k = (λ e. h, k)
  some_type false x xs h k = k

  kept_types : (test : TypedType → Bool) (xs : List TypedType) → AllByRecursion (λ x. IsSome (type_named t.types x.name)) xs → AllByRecursion IsThere (map type_object (filter test xs))
  kept_types test [] h = tt
  kept_types test (x ∷ xs) h = some_type (test x) x (filter test xs) h.0 (kept_types test xs h.1)

  objects_there : AllByRecursion IsThere (objects_of t)
  objects_there =
      let constants : List Named = map constant_object (filter (λ c. is_shown c.mark) t.constants) in
      let variables : List Named = map variable_object (filter (λ v. is_shown v.mark) t.variables) in
      let procedures : List Named = map procedure_object (filter is_exported t.procedures) in
      let types : List Named = map type_object (types_among t (reached_types t)) in
      all_in_order by_name IsThere (constants ++ variables ++ procedures ++ types)
      (all_joined IsThere (constants ++ variables ++ procedures) types
      (all_joined IsThere (constants ++ variables) procedures
      (all_joined IsThere constants variables (no_types constant_object (λ c. refl) (filter (λ c. is_shown c.mark) t.constants)) (no_types variable_object (λ v. refl) (filter (λ v. is_shown v.mark) t.variables))) (no_types procedure_object (λ p. refl) (filter is_exported t.procedures)))
      (kept_types _ t.types (all_named t.types)))

  type_there : (n : List ℕ) (d : Desc) → object_named (objects_of t) n ≡ Some d → is_type d ≡ true → IsSome (type_named t.types n)
  type_there n d = object_has (λ x e. is_type e ≡ true → IsSome (type_named t.types x)) (objects_of t) n d objects_there

-- ---- the builds

shown_objects : (b : Build) (c : Compiled Text) → IsValid b c → (shows_of b).objects ≡ objects_of (tree_of b)
shown_objects b c v = subst (λ (x : Compiled Text). x.shows.objects ≡ objects_of x.tree) (sym (of_is b c v ∙ (comes texts _ (Some b.source) c v.is).is)) refl

declared_in : (bs : List Build) → AllByRecursion Compiles bs → (q : QName) (d : Desc) → described (map shows_of bs) q ≡ Some d → is_type d ≡ true → IsSome (description (map tree_of bs) q)
declared_in [] h q d e i = absurd cc
declared_in (b ∷ bs) h q d e i =
    subst (λ n. IsSome (cond (bytes_eq q.«module» n) (type_named (tree_of b).types q.object) (description (map tree_of bs) q))) (sym (files_have b h.0.0 h.0.1).name)
    (go (bytes_eq q.«module» (name_of b)) e (λ k. declared_in bs h.1 q d k i))
  where
    go : (t : Bool) → (cond t (Some (shows_of b)) (face_named (map shows_of bs) q.«module») >>= λ f. object_named f.objects q.object) ≡ Some d → (described (map shows_of bs) q ≡ Some d → IsSome (description (map tree_of bs) q)) → IsSome (cond t (type_named (tree_of b).types q.object) (description (map tree_of bs) q))
    go true k rest = type_there (tree_of b) q.object d (sym (ap (λ os. object_named os q.object) (shown_objects b h.0.0 h.0.1)) ∙ k) i
    go false k rest = rest k

-- THE LAW
pub shown_are_declared : ShownAreDeclared
shown_are_declared bs t q d e i = declared_in bs (all_valid bs t) q d e i
