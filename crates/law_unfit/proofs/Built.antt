-- What a build declares and shows, as interfaces around it say it now: the types that its objects name are types there, of the same kinds.
use Rattle.std.proofs.Common.{◌≡◌, ⊎_elim, inl, inr, ℕ, zero, suc, ◌+◌, ◌*◌, ◌≤◌, Bool, true, false, cond, List, [], ◌∷◌, ◌++◌, map as each, Option, Some, None, refl, sym, ap, subst, ◌∙◌, arith}
use Rattle.std.specs.Prelude.{bytes_eq, nat_le, nat_lt, MatchOption, IfSome, IsTrue, IsSome}
use Rattle.std.specs.Option.{option_map}
use Rattle.std.specs.List.{filter, flat_map, list_all, AllByRecursion}
use Rattle.std.specs.Cmp.Lexicographic.{bytes_decides}
use Rattle.ob_tree.specs.declared.names.QName.{QName}
use Rattle.ob_tree.specs.declared.ident.Mark.{Mark}
use Rattle.ob_types.specs.declared.types.TypeRef.{TypeRef}
use Rattle.ob_types.specs.declared.types.TypeRef.TheVariants as ref
use Rattle.ob_types.specs.declared.desc.Desc.{Desc}
use Rattle.ob_types.specs.declared.desc.Desc.TheVariants as desc
use Rattle.ob_types.specs.declared.desc.RecordDesc.{RecordDesc}
use Rattle.ob_types.specs.declared.desc.Field.{Field}
use Rattle.ob_types.specs.declared.desc.Method.{Method}
use Rattle.ob_types.specs.declared.typed.TypedType.{TypedType}
use Rattle.ob_types.specs.declared.typed.TypedVariable.{TypedVariable}
use Rattle.ob_types.specs.Maps.{is_type, listed, signature_types, stands_on, named_by, IsHeld, IsWithin}
use Rattle.ob_types.specs.Relations.{Is, Keeps, is_record}
use Rattle.ob_types.specs.Tests.{target, target_of, follow, shape_at}
use Rattle.ob_types.specs.TypedView.{module_view}
use Rattle.ob_types.proofs.Targets.{unique, is_target}
use Rattle.ob_types.specs.TypedSyntax.{Procedure, Module}
use Rattle.ob_format.specs.Format.{◌>>=◌}
use Rattle.ob_desc.specs.Grammar.{is_shown, by_place, seen}
use Rattle.ob_layout.specs.Lists.{in_order}
use Rattle.ob_layout.specs.Room.{bound_procedures}
use Rattle.ob_layout.specs.Words.{described_words, words_within, words_of, most_words}
use Rattle.ob_layout.specs.LaidOut.{type_named, is_own, viewed, base_of, laid_out}
use Rattle.ob_env.specs.Faces.{Face, object_named, face_named, described, text_in}
use Rattle.ob_env.specs.Fit.{chain_described, is_within, record_of as record_in, words_before, procedures_before, base_of as base_in, is_inside, is_numbered, names_types, has_bases, keeps_places, has_sound_sizes}
use Rattle.ob_env.specs.Shown.{shown}
use Rattle.ob_env.proofs.Grounded.{all_left, all_right, stood_held}
use Rattle.ob_uses_roots.specs.Counts.{Count, Shapes, Layouts, both, own_name, counts_of_desc, counts_of_type, counts_of_variable, counts_of_procedure, counts_of_all, counts_of_mentioned, counts_of_module}
use Rattle.ob_uses_roots.specs.Noted.{layout_starts}
use Rattle.ob_uses.specs.declared.way.Way.TheVariants as way
use Rattle.ob_uses.specs.Closed.{is_among, of_found}
use Rattle.ob_uses.specs.Made.{face_of_laid}
use Rattle.ob_uses.specs.Objects.{formal_of, signature_of, is_exported, constant_object, variable_object, procedure_object, in_places, type_object, types_among, by_name, reached_types, shown_types, objects_of}
use Rattle.ob_uses.specs.Reaching.{first, onward}
use Rattle.ob_uses.specs.Uses.{near_types, flat_types}
use Rattle.ob_uses.specs.Ways.{desc_leads, is_of}
use Rattle.ob_uses.proofs.Objecting.{full_name}
use Rattle.ob_uses.proofs.Sorting.{Has}
use Rattle.ob_compile_model.specs.Compiling.{Compiled}
use Rattle.law_local_files.specs.Agreeing.{Map, IsNear, IsFlat, On, as_shape}
use Rattle.law_local_files.specs.Laws.{AreSpelled, HaveNoOut, AreMet}
use Rattle.law_local_files.proofs.Agreed.{named_none, shapes_met, layouts_met}
use Rattle.law_local_files.proofs.Told.{all_on}
use Rattle.law_lists.proofs.Lists.{all_both, all_each, all_from, all_made, all_pairs, both_true, less_true}
use Rattle.law_spelling.proofs.Limits.{IsWithin as KeepsLimits, within}
use Rattle.law_spelling.proofs.Lists.{all_filtered, all_in_order}
use Rattle.law_typing_forms.specs.Said.{IsOneOf}
use Rattle.law_typing_forms.proofs.Modules.{of_all}
use Rattle.law_typing_env.specs.Near.{core}
use Rattle.law_typing_env.specs.Shallow.{passes_to, IsShallow}
use Rattle.law_typing_env.proofs.Shown.{one_joined, one_filtered, one_mapped, one_ordered, object_found}
use Rattle.law_typing_env.proofs.Keeping.{core_bare}
use Rattle.law_typing_env.proofs.Ordered.{seen_bare}
use Rattle.law_typing_env.proofs.Views.{type_found}
use Rattle.law_load_plan.proofs.Checked.{compiled_marked}
use Rattle.law_local.proofs.Named.{found_all}
use Rattle.law_local.proofs.Walked.{have_none, have_no_root}
use Rattle.law_local.proofs.Compiled.{comes_of, checked_name}
use Rattle.law_program_names.proofs.Different.{build_comes}
use Rattle.law_program_names.proofs.Grounded.{against_is_grounded}
use Rattle.ob_builds.specs.Builds.{Text, Build, IsValid, IsSpelled, of, shows_of, tree_of, name_of}
use Rattle.law_builds.proofs.Faces.{of_is, within_limit}
use Rattle.law_builds_ruled.specs.ruled_laws.Ruled.{types_of, IsRuled}
use Rattle.law_builds_loaded.proofs.laying_laws.Chains.{chains_end}
use Rattle.law_builds_loaded.proofs.Shown.{found_type, shown_type}
use Rattle.law_builds_loaded.proofs.Used.{IsInside, near_named, leads_near, own_on, variables_on, parameters_near, insides_near}
use Rattle.law_builds_types.specs.closed_laws.Closed.{IsHeadRuled}
use Rattle.law_builds_types.proofs.closed_laws.Heads.{heads_ruled}
use Rattle.law_builds_types.proofs.closed_laws.Lists.{all_by, sifted}
use Rattle.law_builds_types.proofs.closed_laws.Objects.{IsTypeIn, type_at, objects_have}
use Rattle.law_builds_types.proofs.closed_laws.Reached.{IsIn, type_in, variable_in, head_in}
use Rattle.law_builds_types.proofs.closed_laws.Seen.{keeps_seen, shown_less, seen_named}
use Rattle.law_headline.proofs.owing_laws.Builds.{builds_ruled}
use Rattle.law_unfit.proofs.Around.{named_has, all_two}
use Rattle.law_unfit.proofs.Followed.{Good, all_true, stands, names, bases, places}
use Rattle.law_unfit.specs.Unfit.{is_sized}
use Rattle.law_unfit.proofs.Words.{line_of, words_all, line_now, line_then}
use Rattle.law_unfit.proofs.Sizes.{IsPlaced, IsNumbered, T, W, C, fields_inside, field_words, numbers_behind, base_covered, counts_covered, base_words, base_counts}

same_some : (d e : Desc) → Some d ≡ Some e → d ≡ e
same_some d e h = cc

pub shape_core : (d : Desc) → core (as_shape d) ≡ core d
shape_core (desc.Const v) = refl
shape_core (desc.Var m t) = refl
shape_core (desc.Proc s) = refl
shape_core (desc.Alias m t) = refl
shape_core (desc.Array m n t) = refl
shape_core (desc.OpenArray m t) = refl
shape_core (desc.Pointer m t) = refl
shape_core (desc.ProcType m s) = refl
shape_core (desc.Record r) = refl

-- what is near a type is shown of it
near_shown : (P : TypeRef → Type 0) (d : Desc) → AllByRecursion P (shown_types d) → AllByRecursion P (near_types d)
near_shown P (desc.Const v) h = tt
near_shown P (desc.Var m t) h = tt
near_shown P (desc.Proc s) h = tt
near_shown P (desc.Alias m t) h = h
near_shown P (desc.Array m n t) h = h
near_shown P (desc.OpenArray m t) h = h
near_shown P (desc.Pointer m t) h = h
near_shown P (desc.ProcType m s) h = h
near_shown P (desc.Record r) h =
    let fs = each (λ f. f.of) (filter (λ f. is_shown f.mark) r.fields) in
    let ms = flat_map (λ p. signature_types p.signature) (filter (λ p. is_shown p.mark) r.methods) in
    all_left P (listed r.base) fs (all_left P (listed r.base ++ fs) ms h)

kept_test : {A : Type 0} (test : A → Bool) (xs : List A) (x : A) → IsOneOf (filter test xs) x → test x ≡ true
kept_test test [] x i = absurd i
kept_test test (y ∷ ys) x i = by (test y) refl i (kept_test test ys x)
  where
    by : (k : Bool) → test y ≡ k → IsOneOf (cond k (y ∷ filter test ys) (filter test ys)) x → (IsOneOf (filter test ys) x → test x ≡ true) → test x ≡ true
    by true e (inl s) r = ap test (sym s) ∙ e
    by true e (inr j) r = r j
    by false e j r = r j

-- what is seen of a type stands on what it shows, and on what it stands
stands_seen : (P Q R : TypeRef → Type 0) → ((t : TypeRef) → P t → Q t → R t) → (d : Desc) → AllByRecursion P (shown_types d) → AllByRecursion Q (stands_on d) → AllByRecursion R (stands_on (seen (in_places d)))
stands_seen P Q R f (desc.Alias m t) p q = (f t p.0 q.0, tt)
stands_seen P Q R f (desc.Array m n t) p q = (f t p.0 q.0, tt)
stands_seen P Q R f (desc.OpenArray m t) p q = (f t p.0 q.0, tt)
stands_seen P Q R f (desc.ProcType m s) p q = all_two P Q R f (signature_types s) p q
stands_seen P Q R f (desc.Pointer m t) p q = tt
stands_seen P Q R f (desc.Const v) p q = tt
stands_seen P Q R f (desc.Var m t) p q = tt
stands_seen P Q R f (desc.Proc s) p q = tt
stands_seen P Q R f (desc.Record r) p q =
    let fs = filter (λ f. is_shown f.mark) r.fields in
    let ms = filter (λ m. is_shown m.mark) r.methods in
    let ordered = in_order by_place r.fields in
    let front = all_left P (listed r.base ++ each (λ f. f.of) fs) (flat_map (λ m. signature_types m.signature) ms) p in
    let a = sifted (λ f. is_shown f.mark) (λ (f : Field). P f.of) r.fields (all_made (λ (f : Field). f.of) P fs (all_right P (listed r.base) (each (λ f. f.of) fs) front)) in
    let c = all_made (λ (f : Field). f.of) Q r.fields (all_right Q (listed r.base) (each (λ f. f.of) r.fields) q) in
    let both_of = all_two (λ (g : Field). is_shown g.mark ≡ true → P g.of) (λ (g : Field). Q g.of) (λ (g : Field). is_shown g.mark ≡ true → R g.of) (λ g h k s. f g.of (h s) k) r.fields a c in
    let kept_of = all_filtered (λ g. is_shown g.mark) (λ (g : Field). R g.of) ordered (all_in_order by_place (λ (g : Field). is_shown g.mark ≡ true → R g.of) r.fields both_of) in
    all_both R (listed r.base) (each (λ f. f.of) (filter (λ f. is_shown f.mark) ordered))
    (all_two P Q R f (listed r.base) (all_left P (listed r.base) (each (λ f. f.of) fs) front) (all_left Q (listed r.base) (each (λ f. f.of) r.fields) q))
    (all_each (λ (g : Field). g.of) R (filter (λ f. is_shown f.mark) ordered) kept_of)

-- ---- where layouts count

layouts_front : (P : QName → Type 0) (cs ds : List Count) → AllByRecursion (On P) (layout_starts (cs ++ ds)) → AllByRecursion (On P) (layout_starts cs)
layouts_front P [] ds h = tt
layouts_front P (Shapes t ∷ cs) ds h = layouts_front P cs ds h
layouts_front P (Layouts t ∷ cs) ds h = (h.0, layouts_front P cs ds h.1)

layouts_back : (P : QName → Type 0) (cs ds : List Count) → AllByRecursion (On P) (layout_starts (cs ++ ds)) → AllByRecursion (On P) (layout_starts ds)
layouts_back P [] ds h = h
layouts_back P (Shapes t ∷ cs) ds h = layouts_back P cs ds h
layouts_back P (Layouts t ∷ cs) ds h = layouts_back P cs ds h.1

-- the types in whose words a type counts its own
pub counted_in : Desc → List TypeRef
counted_in (desc.Array m n t) = t ∷ []
counted_in (desc.Record r) = listed r.base ++ each (λ f. f.of) r.fields
counted_in d = []

base_counted : (P : QName → Type 0) (o : Option TypeRef) → AllByRecursion (On P) (layout_starts (flat_map both (listed o))) → AllByRecursion (On P) (listed o)
base_counted P None h = tt
base_counted P (Some t) h = h

fields_counted : (P : QName → Type 0) (fs : List Field) → AllByRecursion (On P) (layout_starts (flat_map (λ f. both f.of) fs)) → AllByRecursion (On P) (each (λ f. f.of) fs)
fields_counted P [] h = tt
fields_counted P (f ∷ fs) h = (h.0, fields_counted P fs h.1)

desc_counted : (P : QName → Type 0) (d : Desc) → AllByRecursion (On P) (layout_starts (counts_of_desc d)) → AllByRecursion (On P) (counted_in d)
unfolding counted_in
desc_counted P (desc.Array m n t) h = h
desc_counted P (desc.Record r) h =
    all_both (On P) (listed r.base) (each (λ f. f.of) r.fields)
    (base_counted P r.base (layouts_front P (flat_map both (listed r.base)) (flat_map (λ f. both f.of) r.fields) h))
    (fields_counted P r.fields (layouts_back P (flat_map both (listed r.base)) (flat_map (λ f. both f.of) r.fields) h))
desc_counted P (desc.Alias m t) h = tt
desc_counted P (desc.OpenArray m t) h = tt
desc_counted P (desc.Const v) h = tt
desc_counted P (desc.Var m t) h = tt
desc_counted P (desc.Proc s) h = tt
desc_counted P (desc.Pointer m t) h = tt
desc_counted P (desc.ProcType m s) h = tt

types_counted : (P : QName → Type 0) (k : Module) (ts : List TypedType) → AllByRecursion (On P) (layout_starts (flat_map (counts_of_type k) ts)) → AllByRecursion (λ t. AllByRecursion (On P) (counted_in t.desc)) ts
types_counted P k [] h = tt
types_counted P k (t ∷ ts) h = (desc_counted P t.desc (layouts_front P (counts_of_desc t.desc) (flat_map (counts_of_type k) ts) h), types_counted P k ts (layouts_back P (counts_of_desc t.desc) (flat_map (counts_of_type k) ts) h))

-- ---- words

-- a description and what is seen of it have the same words
seen_words : (f : TypeRef → ℕ) (d : Desc) → described_words f (Some (seen (in_places d))) ≡ described_words f (Some d)
seen_words f (desc.Alias m t) = refl
seen_words f (desc.Array m n t) = refl
seen_words f (desc.OpenArray m t) = refl
seen_words f (desc.Record r) = refl
seen_words f (desc.Const v) = refl
seen_words f (desc.Var m t) = refl
seen_words f (desc.Proc s) = refl
seen_words f (desc.Pointer m t) = refl
seen_words f (desc.ProcType m s) = refl

words_from : (f g : TypeRef → ℕ) (d : Desc) → AllByRecursion (λ t. f t ≡ g t) (passes_to d) → described_words f (Some d) ≡ described_words g (Some d)
words_from f g (desc.Alias m t) h = h.0
words_from f g (desc.Array m n t) h = ap (λ w. n * w) h.0
words_from f g (desc.OpenArray m t) h = refl
words_from f g (desc.Record r) h = refl
words_from f g (desc.Const v) h = refl
words_from f g (desc.Var m t) h = refl
words_from f g (desc.Proc s) h = refl
words_from f g (desc.Pointer m t) h = refl
words_from f g (desc.ProcType m s) h = refl

passes_near : (P : TypeRef → Type 0) (d : Desc) → AllByRecursion P (near_types d) → AllByRecursion P (passes_to d)
passes_near P (desc.Alias m t) h = h
passes_near P (desc.Array m n t) h = h
passes_near P (desc.OpenArray m t) h = tt
passes_near P (desc.Record r) h = tt
passes_near P (desc.Const v) h = tt
passes_near P (desc.Var m t) h = tt
passes_near P (desc.Proc s) h = tt
passes_near P (desc.Pointer m t) h = tt
passes_near P (desc.ProcType m s) h = tt

passes_flat : (P : TypeRef → Type 0) (own : Bool) (d : Desc) → AllByRecursion P (flat_types own d) → AllByRecursion P (passes_to d)
passes_flat P own (desc.Alias m t) h = h
passes_flat P own (desc.Array m n t) h = h
passes_flat P own (desc.OpenArray m t) h = tt
passes_flat P own (desc.Record r) h = tt
passes_flat P own (desc.Const v) h = tt
passes_flat P own (desc.Var m t) h = tt
passes_flat P own (desc.Proc s) h = tt
passes_flat P own (desc.Pointer m t) h = tt
passes_flat P own (desc.ProcType m s) h = tt

passes_named : (P : TypeRef → Type 0) (d : Desc) → AllByRecursion P (named_by d) → AllByRecursion P (passes_to d)
passes_named P (desc.Alias m t) h = h
passes_named P (desc.Array m n t) h = h
passes_named P (desc.OpenArray m t) h = tt
passes_named P (desc.Record r) h = tt
passes_named P (desc.Const v) h = tt
passes_named P (desc.Var m t) h = tt
passes_named P (desc.Proc s) h = tt
passes_named P (desc.Pointer m t) h = tt
passes_named P (desc.ProcType m s) h = tt

pub shown_objects : (b : Build) (x : Compiled Text) → IsValid b x → (shows_of b).objects ≡ objects_of (tree_of b)
shown_objects b x v = ap (λ (f : Face Text). f.objects) (subst (λ (y : Compiled Text). y.shows ≡ face_of_laid (text_in y.against) y.against y.tree) (sym (build_comes b x v).is) refl)

module _
    (others : List (Face Text)) (spelled_too : AreSpelled others) (no_out_too : HaveNoOut others)
    (b : Build) (x : Compiled Text) (v : IsValid b x)
    (met : AreMet others (shows_of b).uses) (here : face_named others (name_of b) ≡ Some (shows_of b))
  where
    abbrev pub m : Module
    m = tree_of b

    abbrev pub V : Map
    V = types_of (of b)

    abbrev pub F : Map
    F = described others

    abbrev pub Near : QName → Type 0
    Near = IsNear (types_of (of b)) (tree_of b)

    pub valid : IsValid b (of b)
    valid = subst (IsValid b) (sym (of_is b x v)) v

    pub rules : IsRuled (of b)
    rules = builds_ruled b (of b) valid

    pub types_are : AllByRecursion (λ t. is_type t.desc ≡ true) (tree_of b).types
    types_are = (compiled_marked _ _ (of b) valid.is).types

    pub shows_is : shows_of b ≡ face_of_laid (text_in (of b).against) (of b).against (tree_of b)
    shows_is = subst (λ (y : Compiled Text). y.shows ≡ face_of_laid (text_in y.against) y.against y.tree) (sym (build_comes b x v).is) refl

    pub spelled : AreSpelled (of b).against
    spelled = subst (λ fs. AllByRecursion IsSpelled fs) (sym valid.whole) valid.spelled

    pub no_out : HaveNoOut (of b).against
    no_out = let k = build_comes b x v in have_none k.tree.name.name (of b).against (comes_of b (of b) k.tree valid k.read).clean

    pub found : AllByRecursion (λ t. type_named (tree_of b).types t.name ≡ Some t.desc) (tree_of b).types
    found = found_all (tree_of b).types rules.names

    -- nothing that it was compiled against is of its own module
    none_own : (q : QName) → is_own (tree_of b) q ≡ true → described (of b).against q ≡ None
    none_own q own =
        let k = build_comes b x v in
        let root = k.tree.name.name in
        let name : (tree_of b).name ≡ root = ap (λ (y : Compiled Text). y.tree.name) k.is ∙ checked_name (shown (of b).against) k.tree k.module_is k.checked_is in
        let n : face_named (of b).against q.«module» ≡ None = ap (face_named (of b).against) ((bytes_decides q.«module» (tree_of b).name).0 own ∙ name) ∙ named_none (of b).against root (λ (h : Has root (each (λ (f : Face Text). f.«module») (of b).against)). have_no_root root (of b).against (comes_of b (of b) k.tree valid k.read).clean h) in
        ap (λ o. o >>= λ (f : Face Text). object_named f.objects q.object) n

    -- ---- names that are followed: they count, and those of the module are reached from what it shows
    pub record IsFollowed (q : QName) : Type 0 where
      pub near : IsNear (types_of (of b)) (tree_of b) q
      pub reached : is_own (tree_of b) q ≡ true → is_among (reached_types (tree_of b)) q ≡ true

    followed : (t : TypeRef) → On (IsNear (types_of (of b)) (tree_of b)) t → IsIn (tree_of b) t → On IsFollowed t
    followed (ref.Basic k) n i = tt
    followed (ref.Named q) n i = record { near = n; reached = i }

    all_followed : (ts : List TypeRef) → AllByRecursion (On (IsNear (types_of (of b)) (tree_of b))) ts → AllByRecursion (IsIn (tree_of b)) ts → AllByRecursion (On IsFollowed) ts
    all_followed [] n i = tt
    all_followed (t ∷ ts) n i = (followed t n.0 i.0, all_followed ts n.1 i.1)

    -- ---- what is said of them now

    own_view : (q : QName) → is_own (tree_of b) q ≡ true → types_of (of b) q ≡ type_named (tree_of b).types q.object
    own_view q own = ap (λ (k : Bool). cond k (type_named (tree_of b).types q.object) (described (of b).against q)) own

    other_view : (q : QName) → is_own (tree_of b) q ≡ false → types_of (of b) q ≡ described (of b).against q
    other_view q own = ap (λ (k : Bool). cond k (type_named (tree_of b).types q.object) (described (of b).against q)) own

    objects_are : (shows_of b).objects ≡ objects_of (tree_of b)
    objects_are = ap (λ (f : Face Text). f.objects) shows_is

    pub name_is : name_of b ≡ (tree_of b).name
    name_is = ap (λ (f : Face Text). f.«module») shows_is

    now_own : (q : QName) → is_own (tree_of b) q ≡ true → described others q ≡ object_named (objects_of (tree_of b)) q.object
    now_own q own =
        ap (λ o. o >>= λ (f : Face Text). object_named f.objects q.object) (ap (face_named others) ((bytes_decides q.«module» (tree_of b).name).0 own ∙ sym name_is) ∙ here)
        ∙ ap (λ os. object_named os q.object) objects_are

    -- of its own types what is seen of them
    pub own_said : (q : QName) (e : Desc) → is_own (tree_of b) q ≡ true → is_among (reached_types (tree_of b)) q ≡ true → type_named (tree_of b).types q.object ≡ Some e → described others q ≡ Some (seen (in_places e))
    own_said q e own reached te =
        let f = type_found (tree_of b).types q.object e te in
        let same : q ≡ own_name (tree_of b) f.t = full_name (tree_of b) q own ∙ ap (λ (y : List ℕ). let p : QName = record { «module» = (tree_of b).name; object = y } in p) (sym f.name) in
        let there : IsTypeIn (object_named (objects_of (tree_of b)) q.object) = subst (λ (y : List ℕ). IsTypeIn (object_named (objects_of (tree_of b)) y)) f.name (type_at (tree_of b) types_are f.t f.there (subst (λ (p : QName). is_among (reached_types (tree_of b)) p ≡ true) same reached)) in
        now_own q own ∙ by (object_named (objects_of (tree_of b)) q.object) refl there
      where
        by : (o : Option Desc) → object_named (objects_of (tree_of b)) q.object ≡ o → IsTypeIn o → o ≡ Some (seen (in_places e))
        by None i h = absurd h
        by (Some d) i h =
            let s = shown_type (tree_of b) rules.names q.object d i h in
            ap (λ (y : Desc). Some y) (sym s.1.1 ∙ ap (λ y. seen (in_places y)) (same_some s.0 e (sym s.1.0 ∙ te)))

    seen_core : (e : Desc) → core (seen (in_places e)) ≡ core e
    seen_core e = sym (core_bare (seen (in_places e))) ∙ ap core (sym (seen_bare e (seen (in_places e)) refl)) ∙ core_bare e

    pub says : (q : QName) (e : Desc) → IsFollowed q → types_of (of b) q ≡ Some e → is_type e ≡ true → (d : Desc) × ((described others q ≡ Some d) × (core d ≡ core e))
    says q e p at ty = by (is_own (tree_of b) q) refl
      where
        other : is_own (tree_of b) q ≡ false → described (of b).against q ≡ Some e → (o : Option Desc) → described others q ≡ o → option_map as_shape (described (of b).against q) ≡ option_map as_shape o → (d : Desc) × ((described others q ≡ Some d) × (core d ≡ core e))
        other own a None i h = let bad : Some (as_shape e) ≡ None = sym (ap (option_map as_shape) a) ∙ h in absurd cc
        other own a (Some d) i h =
            let k : as_shape e ≡ as_shape d = same_some (as_shape e) (as_shape d) (sym (ap (option_map as_shape) a) ∙ h) in
            (d, (i, sym (shape_core d) ∙ ap core (sym k) ∙ shape_core e))

        by : (k : Bool) → is_own (tree_of b) q ≡ k → (d : Desc) × ((described others q ≡ Some d) × (core d ≡ core e))
        by true own = (seen (in_places e), (own_said q e own (p.reached own) (sym (own_view q own) ∙ at), seen_core e))
        by false own =
            let a : described (of b).against q ≡ Some e = sym (other_view q own) ∙ at in
            let s = shapes_met (of b).against others (tree_of b) spelled spelled_too no_out no_out_too (subst (λ (f : Face Text). AreMet others f.uses) shows_is met) q p.near (λ i. subst IsSome (sym a) refl) own in
            other own a (described others q) refl s

    -- what one leads to
    abbrev IsThere : TypeRef → Type 0
    IsThere t = IsHeld (described (of b).against) t

    not_own : (t : TypeRef) → IsHeld (described (of b).against) t → IsIn (tree_of b) t
    not_own (ref.Basic k) h = tt
    not_own (ref.Named q) h = λ own. absurd (subst IsTypeIn (none_own q own) h)

    pub leads : (q : QName) (e : Desc) → IsFollowed q → types_of (of b) q ≡ Some e → is_type e ≡ true → AllByRecursion (On IsFollowed) (near_types e)
    leads q e p at ty = all_followed (near_types e) (leads_near (of b) rules found types_are spelled no_out shows_is q e p.near at) (by (is_own (tree_of b) q) refl)
      where
        by : (k : Bool) → is_own (tree_of b) q ≡ k → AllByRecursion (IsIn (tree_of b)) (near_types e)
        by true own = near_shown (IsIn (tree_of b)) e (type_in (tree_of b) q e (sym (own_view q own) ∙ at) (p.reached own))
        by false own =
            let held = (against_is_grounded b (of b) valid).held q e (sym (other_view q own) ∙ at) in
            all_from (λ t. IsHeld (described (of b).against) t) (IsIn (tree_of b)) not_own (near_types e) (near_named (λ t. IsHeld (described (of b).against) t) e ty held)

    -- ---- its objects

    abbrev pub G : TypeRef → Type 0
    G t = Good (types_of (of b)) (described others) IsFollowed says leads rules.grounded t

    all_good : (ts : List TypeRef) → AllByRecursion (On (IsNear (types_of (of b)) (tree_of b))) ts → AllByRecursion (IsIn (tree_of b)) ts → AllByRecursion (λ t. IsHeld (types_of (of b)) t) ts → AllByRecursion G ts
    all_good [] n i h = tt
    all_good (t ∷ ts) n i h = ((followed t n.0 i.0, h.0), all_good ts n.1 i.1 h.1)

    -- what an object of the build names is followed, and it keeps what it has to where the build was compiled
    pub record IsGood (d : Desc) : Type 0 where
      pub named : AllByRecursion G (named_by d)
      pub keeps : Keeps (types_of (of b)) d

    pub variable_good : (z : TypedVariable) → IsOneOf (tree_of b).variables z → is_shown z.mark ≡ true → IsGood (desc.Var z.mark z.of)
    variable_good z i s = record {
      named = ((followed z.of (of_all (λ z. On (IsNear (types_of (of b)) (tree_of b)) z.of) (tree_of b).variables z (variables_on (of b) rules found types_are spelled no_out shows_is) i) (variable_in (tree_of b) z i s), of_all (λ z. IsHeld (types_of (of b)) z.of) (tree_of b).variables z rules.variables i), tt);
      keeps = of_all _ (tree_of b).variables z rules.closed i;
    }

    pub procedure_good : (p : Procedure) → IsOneOf (tree_of b).procedures p → is_exported p ≡ true → IsGood (desc.Proc (signature_of p))
    procedure_good p i s =
        let N : TypeRef → Type 0 = On (IsNear (types_of (of b)) (tree_of b)) in
        let takes : AllByRecursion (λ z. N z.of) p.parameters = of_all (λ p. AllByRecursion (λ z. N z.of) p.parameters) (tree_of b).procedures p (parameters_near (of b) rules found types_are spelled no_out shows_is) i in
        let gives : AllByRecursion N (listed p.result) = (of_all (IsInside N) (tree_of b).procedures p (insides_near (of b) rules found types_are spelled no_out shows_is) i).1 in
        let head : IsHeadRuled (types_of (of b)) p = of_all (IsHeadRuled (types_of (of b))) (tree_of b).procedures p (heads_ruled builds_ruled b (of b) valid) i in
        record {
          named = all_good (signature_types (signature_of p)) (all_both N (each (λ k. k.1) (each formal_of p.parameters)) (listed p.result) (all_each (λ k. k.1) N (each formal_of p.parameters) (all_each formal_of (λ k. N k.1) p.parameters takes)) gives) (head_in (tree_of b) p i s) head.held;
          keeps = head.plain;
        }

    pub type_good : (t : TypedType) → IsOneOf (tree_of b).types t → is_among (reached_types (tree_of b)) (own_name (tree_of b) t) ≡ true → IsGood (seen (in_places t.desc))
    type_good t i reached =
        let te = found_type (tree_of b).types t rules.names i in
        let at : types_of (of b) (own_name (tree_of b) t) ≡ Some t.desc = own_view (own_name (tree_of b) t) ((bytes_decides (tree_of b).name (tree_of b).name).1 refl) ∙ te in
        let ty : is_type t.desc ≡ true = of_all (λ t. is_type t.desc ≡ true) (tree_of b).types t types_are i in
        let N : TypeRef → Type 0 = On (IsNear (types_of (of b)) (tree_of b)) in
        let near = shown_less N t.desc ty (of_all (λ t. IsNear (types_of (of b)) (tree_of b) (own_name (tree_of b) t) × AllByRecursion N (named_by t.desc)) (tree_of b).types t (own_on (of b) rules found types_are spelled no_out shows_is) i).1 in
        let held = shown_less (λ t. IsHeld (types_of (of b)) t) t.desc ty (rules.grounded.held (own_name (tree_of b) t) t.desc at) in
        record {
          named = seen_named G t.desc ty (all_good (shown_types t.desc) near (type_in (tree_of b) (own_name (tree_of b) t) t.desc te reached) held);
          keeps = keeps_seen (types_of (of b)) t.desc (rules.grounded.keeps (own_name (tree_of b) t) t.desc at);
        }

    -- what is so of each good description is so of each object that names the build
    pub objects_good : (y : List ℕ) (d : Desc) → object_named (shows_of b).objects y ≡ Some d → IsGood d
    objects_good y d e =
        objects_have (tree_of b) IsGood (λ k. record { named = tt; keeps = tt })
        (all_by (λ z. is_shown z.mark ≡ true → IsGood (desc.Var z.mark z.of)) (tree_of b).variables variable_good)
        (all_by (λ p. is_exported p ≡ true → IsGood (desc.Proc (signature_of p))) (tree_of b).procedures procedure_good)
        (all_by (λ t. is_among (reached_types (tree_of b)) (own_name (tree_of b) t) ≡ true → IsGood (seen (in_places t.desc))) (tree_of b).types type_good)
        y d (ap (λ os. object_named os y) (sym objects_are) ∙ e)

    -- THE CONDITIONS on what an object names
    module _ (n : ℕ) (enough : 201 ≤ n) where
      pub names_fit : (d : Desc) → IsGood d → names_types (described others) n d ≡ true
      names_fit d g = names (types_of (of b)) (described others) IsFollowed says leads rules.grounded n enough d g.named

      pub bases_fit : (d : Desc) → IsGood d → has_bases (described others) n d ≡ true
      bases_fit d g = bases (types_of (of b)) (described others) IsFollowed says leads rules.grounded n enough d g.named g.keeps

      pub places_fit : (d : Desc) → IsGood d → keeps_places (described others) n d ≡ true
      places_fit d g = places (types_of (of b)) (described others) IsFollowed says leads rules.grounded n enough d g.named g.keeps

    -- ---- the words of what is flat

    abbrev pub IsFlatHere : QName → Type 0
    IsFlatHere = IsFlat (types_of (of b)) (tree_of b)

    flat_leads : (q : QName) (e : Desc) → IsFlat (types_of (of b)) (tree_of b) q → types_of (of b) q ≡ Some e → AllByRecursion (On (IsFlat (types_of (of b)) (tree_of b))) (flat_types (is_of (tree_of b).name q) e)
    flat_leads q e f at = all_on (IsFlat (types_of (of b)) (tree_of b)) (flat_types (is_of (tree_of b).name q) e) (λ r i. onward f (ap (λ (o : Option Desc). is_among (of_found (desc_leads way.Flat (tree_of b).name q) o) r) at ∙ i))

    own_counted : AllByRecursion (λ t. AllByRecursion (On (IsFlat (types_of (of b)) (tree_of b))) (counted_in t.desc)) (tree_of b).types
    own_counted =
        let V : Map = types_of (of b) in
        let k : Module = tree_of b in
        let P : QName → Type 0 = IsFlat (types_of (of b)) (tree_of b) in
        let c1 = counts_of_mentioned k in
        let c2 = flat_map (counts_of_type k) k.types in
        let c3 = flat_map counts_of_variable k.variables in
        let c4 = flat_map (counts_of_procedure V) k.procedures in
        let c5 = counts_of_all k.body in
        let all = all_on P (layout_starts (counts_of_module V k)) (λ q i. first i) in
        types_counted P k k.types (layouts_back P c1 c2 (layouts_front P (c1 ++ c2) c3 (layouts_front P (c1 ++ c2 ++ c3) c4 (layouts_front P (c1 ++ c2 ++ c3 ++ c4) c5 all))))

    -- followed, and with a layout that counts
    pub record IsSized (t : TypeRef) : Type 0 where
      pub on : On IsFollowed t
      pub flat : On (IsFlat (types_of (of b)) (tree_of b)) t
      pub held : IsHeld (types_of (of b)) t

    -- the description of another module's name is the very one
    same_flat : (q : QName) (e : Desc) → IsFollowed q → IsFlat (types_of (of b)) (tree_of b) q → is_own (tree_of b) q ≡ false → described (of b).against q ≡ Some e → described others q ≡ Some e
    same_flat q e p f own at =
        sym (layouts_met (of b).against others (tree_of b) spelled spelled_too no_out no_out_too (subst (λ (g : Face Text). AreMet others g.uses) shows_is met) q f p.near (λ i. subst IsSome (sym at) refl) own) ∙ at

    all_sized : (ts : List TypeRef) → AllByRecursion (On IsFollowed) ts → AllByRecursion (On (IsFlat (types_of (of b)) (tree_of b))) ts → AllByRecursion (λ t. IsHeld (types_of (of b)) t) ts → AllByRecursion IsSized ts
    all_sized [] o f h = tt
    all_sized (t ∷ ts) o f h = (record { on = o.0; flat = f.0; held = h.0 }, all_sized ts o.1 f.1 h.1)

    sized_next : (q : QName) (e : Desc) → IsFollowed q → IsFlat (types_of (of b)) (tree_of b) q → types_of (of b) q ≡ Some e → is_type e ≡ true → AllByRecursion IsSized (passes_to e)
    sized_next q e p f at ty =
        all_sized (passes_to e)
        (passes_near (On IsFollowed) e (leads q e p at ty))
        (passes_flat (On (IsFlat (types_of (of b)) (tree_of b))) (is_of (tree_of b).name q) e (flat_leads q e f at))
        (passes_named (λ t. IsHeld (types_of (of b)) t) e (rules.grounded.held q e at))

    pub words_same : (n : ℕ) (t : TypeRef) → IsSized t → words_within (described others) n t ≡ words_within (types_of (of b)) n t
    words_same zero t s = refl
    words_same (suc n) (ref.Basic k) s = refl
    words_same (suc n) (ref.Named q) s = by (types_of (of b) q) refl s.held (λ t k. words_same n t k)
      where
        by : (o : Option Desc) → types_of (of b) q ≡ o → MatchOption o ⊥ (λ d. IsTrue (is_type d)) → ((t : TypeRef) → IsSized t → words_within (described others) n t ≡ words_within (types_of (of b)) n t) → words_within (described others) (suc n) (ref.Named q) ≡ words_within (types_of (of b)) (suc n) (ref.Named q)
        by None i h r = absurd h
        by (Some e) i h r = own (is_own (tree_of b) q) refl
          where
            parts : described_words (words_within (described others) n) (Some e) ≡ described_words (words_within (types_of (of b)) n) (types_of (of b) q)
            parts =
                words_from (words_within (described others) n) (words_within (types_of (of b)) n) e (all_from IsSized (λ t. words_within (described others) n t ≡ words_within (types_of (of b)) n t) r (passes_to e) (sized_next q e s.on s.flat i h))
                ∙ ap (described_words (words_within (types_of (of b)) n)) (sym i)

            own : (k : Bool) → is_own (tree_of b) q ≡ k → described_words (words_within (described others) n) (described others q) ≡ described_words (words_within (types_of (of b)) n) (types_of (of b) q)
            own true j = ap (described_words (words_within (described others) n)) (own_said q e j (s.on.reached j) (sym (own_view q j) ∙ i)) ∙ seen_words (words_within (described others) n) e ∙ parts
            own false j = ap (described_words (words_within (described others) n)) (same_flat q e s.on s.flat j (sym (other_view q j) ∙ i)) ∙ parts

    -- what stands for a flat type is flat
    flat_target : (n : ℕ) (t : TypeRef) → On (IsFlat (types_of (of b)) (tree_of b)) t → On (IsFlat (types_of (of b)) (tree_of b)) (target (types_of (of b)) n t)
    unfolding target
    flat_target zero t f = f
    flat_target (suc n) (ref.Basic k) f = tt
    flat_target (suc n) (ref.Named q) f = by (types_of (of b) q) refl (λ u g. flat_target n u g)
      where
        by : (o : Option Desc) → types_of (of b) q ≡ o → ((u : TypeRef) → On (IsFlat (types_of (of b)) (tree_of b)) u → On (IsFlat (types_of (of b)) (tree_of b)) (target (types_of (of b)) n u)) → On (IsFlat (types_of (of b)) (tree_of b)) (follow (target_of o) (ref.Named q) (λ u. target (types_of (of b)) n u))
        by None i r = f
        by (Some (desc.Alias k u)) i r = r u (flat_leads q (desc.Alias k u) f i).0
        by (Some (desc.Array k c u)) i r = f
        by (Some (desc.OpenArray k u)) i r = f
        by (Some (desc.Record s)) i r = f
        by (Some (desc.Const s)) i r = f
        by (Some (desc.Var k u)) i r = f
        by (Some (desc.Proc s)) i r = f
        by (Some (desc.Pointer k u)) i r = f
        by (Some (desc.ProcType k s)) i r = f

    -- ---- sizes of its records

    abbrev D : Map
    D = described (of b).against

    abbrev M : Module
    M = module_view (build_comes b x v).module_is

    tree_is : tree_of b ≡ laid_out (described (of b).against) (module_view (build_comes b x v).module_is)
    tree_is = ap (λ (y : Compiled Text). y.tree) (build_comes b x v).is

    view_is : types_of (of b) ≡ T (described (of b).against) (module_view (build_comes b x v).module_is)
    view_is = ap (λ (k : Module). viewed (described (of b).against) k) tree_is

    plain_chains : (t : TypeRef) → IsHeld (viewed (described (of b).against) (module_view (build_comes b x v).module_is)) t → IsWithin (viewed (described (of b).against) (module_view (build_comes b x v).module_is)) 201 t
    plain_chains = chains_end (tree_of b) (module_view (build_comes b x v).module_is) (ap (λ (k : Module). k.name) tree_is) (described (of b).against) (ap (λ (k : Module). k.types) tree_is) (described (of b).against) rules.grounded.chains

    pub limits : KeepsLimits (of b)
    limits = within (of b) (build_comes b x v).limits

    -- the base of a record, as it is said now
    record BaseNow (r : RecordDesc) (o : Option RecordDesc) : Type 0 where
      words : words_before o ≤ base_of (W (described (of b).against) (module_view (build_comes b x v).module_is)) r.base
      procedures : procedures_before o ≤ base_of (C (described (of b).against) (module_view (build_comes b x v).module_is)) r.base

    -- an own record that is reached
    module _ (t : TypedType) (i : IsOneOf (tree_of b).types t) (reached : is_among (reached_types (tree_of b)) (own_name (tree_of b) t) ≡ true) (r : RecordDesc) (is : t.desc ≡ desc.Record r) (n : ℕ) (enough : 201 ≤ n) where
      abbrev q : QName
      q = own_name (tree_of b) t

      own : is_own (module_view (build_comes b x v).module_is) (own_name (tree_of b) t) ≡ true
      own = ap (λ (y : List ℕ). bytes_eq (tree_of b).name y) (sym (ap (λ (k : Module). k.name) tree_is)) ∙ (bytes_decides (tree_of b).name (tree_of b).name).1 refl

      at : types_of (of b) (own_name (tree_of b) t) ≡ Some (desc.Record r)
      at = own_view (own_name (tree_of b) t) ((bytes_decides (tree_of b).name (tree_of b).name).1 refl) ∙ found_type (tree_of b).types t rules.names i ∙ ap (λ (d : Desc). Some d) is

      has : T (described (of b).against) (module_view (build_comes b x v).module_is) (own_name (tree_of b) t) ≡ Some (desc.Record r)
      has = ap (λ (f : Map). f (own_name (tree_of b) t)) (sym view_is) ∙ at

      few : r.words ≤ most_words
      few = subst (λ d. described_words (words_of (types_of (of b))) (Some d) ≤ most_words) is (of_all (λ t. described_words (words_of (types_of (of b))) (Some t.desc) ≤ most_words) (tree_of b).types t limits.words i)

      few_bound : r.procedures ≤ most_words
      few_bound = subst (λ d. bound_procedures d ≤ most_words) is (of_all (λ t. bound_procedures t.desc ≤ most_words) (tree_of b).types t limits.bound i)

      good : IsGood (seen (in_places (desc.Record r)))
      good = subst (λ d. IsGood (seen (in_places d))) is (type_good t i reached)

      counted : AllByRecursion (On (IsFlat (types_of (of b)) (tree_of b))) (listed r.base ++ each (λ f. f.of) r.fields)
      unfolding counted_in
      counted = subst (λ d. AllByRecursion (On (IsFlat (types_of (of b)) (tree_of b))) (counted_in d)) is (of_all (λ t. AllByRecursion (On (IsFlat (types_of (of b)) (tree_of b))) (counted_in t.desc)) (tree_of b).types t own_counted i)

      abbrev shown_fields : List Field
      shown_fields = filter (λ f. is_shown f.mark) (in_order by_place r.fields)

      abbrev shown_methods : List Method
      shown_methods = filter (λ m. is_shown m.mark) r.methods

      named_front : AllByRecursion G (listed r.base ++ each (λ f. f.of) shown_fields)
      named_front = all_left G (listed r.base ++ each (λ f. f.of) shown_fields) (flat_map (λ m. signature_types m.signature) shown_methods) good.named

      abbrev r_now : RecordDesc
      r_now = record r { fields = shown_fields; methods = shown_methods }

      -- its base
      base_some : (u : TypeRef) → r.base ≡ Some u → G u → On (IsFlat (types_of (of b)) (tree_of b)) u → Is (types_of (of b)) is_record u → BaseNow r (record_in (shape_at (described others) (target (described others) n u)))
      base_some u e g f k =
          let s = stands (types_of (of b)) (described others) IsFollowed says leads rules.grounded n u g.0 g.1 in
          let st = (is_target (types_of (of b)) 201 n u enough (rules.grounded.chains u g.1)).stands in
          let same : target (types_of (of b)) n u ≡ ref.Named k.0 = unique (types_of (of b)) st k.1.0 in
          let there : Good (types_of (of b)) (described others) IsFollowed says leads rules.grounded (ref.Named k.0) = subst (Good (types_of (of b)) (described others) IsFollowed says leads rules.grounded) same s.good in
          let flat : IsFlat (types_of (of b)) (tree_of b) k.0 = subst (On (IsFlat (types_of (of b)) (tree_of b))) same (flat_target n u f) in
          subst (λ w. BaseNow r (record_in (shape_at (described others) w))) (sym (s.same ∙ same)) (by (types_of (of b) k.0) refl k.1.1 there flat (ap (λ (m : Map). target m n u) (sym view_is) ∙ same))
        where
          now : (s : RecordDesc) (w : RecordDesc) → described others k.0 ≡ Some (desc.Record w) → w.words ≡ s.words → w.procedures ≡ s.procedures → T (described (of b).against) (module_view (build_comes b x v).module_is) k.0 ≡ Some (desc.Record s) → target (T (described (of b).against) (module_view (build_comes b x v).module_is)) n u ≡ ref.Named k.0 → BaseNow r (record_in (described others k.0))
          now s w d ww wp ts tt2 =
              let a = base_words (described (of b).against) (module_view (build_comes b x v).module_is) (own_name (tree_of b) t) r own has few plain_chains n (omega (arith, enough)) u k.0 s e tt2 ts in
              let c = base_counts (described (of b).against) (module_view (build_comes b x v).module_is) (own_name (tree_of b) t) r own has few plain_chains n (omega (arith, enough)) u k.0 s e tt2 ts in
              subst (λ o. BaseNow r (record_in o)) (sym d) (record { words = omega (arith, a, ww); procedures = omega (arith, c, wp) })

          by : (o : Option Desc) → types_of (of b) k.0 ≡ o → MatchOption o ⊥ (λ d. IsTrue (is_record d)) → Good (types_of (of b)) (described others) IsFollowed says leads rules.grounded (ref.Named k.0) → IsFlat (types_of (of b)) (tree_of b) k.0 → target (T (described (of b).against) (module_view (build_comes b x v).module_is)) n u ≡ ref.Named k.0 → BaseNow r (record_in (described others k.0))
          by None j h p fl w = absurd h
          by (Some (desc.Record s)) j h p fl w = of_own (is_own (tree_of b) k.0) refl
            where
              ts : T (described (of b).against) (module_view (build_comes b x v).module_is) k.0 ≡ Some (desc.Record s)
              ts = ap (λ (f : Map). f k.0) (sym view_is) ∙ j

              of_own : (y : Bool) → is_own (tree_of b) k.0 ≡ y → BaseNow r (record_in (described others k.0))
              of_own true o = now s (record s { fields = filter (λ f. is_shown f.mark) (in_order by_place s.fields); methods = filter (λ m. is_shown m.mark) s.methods }) (own_said k.0 (desc.Record s) o (p.0.reached o) (sym (own_view k.0 o) ∙ j)) refl refl ts w
              of_own false o = now s s (same_flat k.0 (desc.Record s) p.0 fl o (sym (other_view k.0 o) ∙ j)) refl refl ts w
          by (Some (desc.Alias c w)) j h p fl z = absurd cc
          by (Some (desc.Array c l w)) j h p fl z = absurd cc
          by (Some (desc.OpenArray c w)) j h p fl z = absurd cc
          by (Some (desc.Const c)) j h p fl z = absurd cc
          by (Some (desc.Var c w)) j h p fl z = absurd cc
          by (Some (desc.Proc c)) j h p fl z = absurd cc
          by (Some (desc.Pointer c w)) j h p fl z = absurd cc
          by (Some (desc.ProcType c w)) j h p fl z = absurd cc

      base_now : BaseNow r (base_in (described others) n r)
      base_now = by r.base refl (all_left G (listed r.base) (each (λ f. f.of) shown_fields) named_front) (all_left (On (IsFlat (types_of (of b)) (tree_of b))) (listed r.base) (each (λ f. f.of) r.fields) counted) (rules.grounded.keeps (own_name (tree_of b) t) (desc.Record r) at).0
        where
          by : (o : Option TypeRef) → r.base ≡ o → AllByRecursion G (listed o) → AllByRecursion (On (IsFlat (types_of (of b)) (tree_of b))) (listed o) → IfSome o (Is (types_of (of b)) is_record) → BaseNow r (o >>= λ u. record_in (shape_at (described others) (target (described others) n u)))
          by None e g f k = record { words = omega arith; procedures = omega arith }
          by (Some u) e g f k = base_some u e g.0 f.0 k

      -- a field that is shown
      record FieldNow (f : Field) : Type 0 where
        placed : IsPlaced (W (described (of b).against) (module_view (build_comes b x v).module_is)) (base_of (W (described (of b).against) (module_view (build_comes b x v).module_is)) r.base) r.words f
        words : words_of (described others) f.of ≤ W (described (of b).against) (module_view (build_comes b x v).module_is) f.of

      abbrev FieldThen : Field → Type 0
      FieldThen f = IsPlaced (W (described (of b).against) (module_view (build_comes b x v).module_is)) (base_of (W (described (of b).against) (module_view (build_comes b x v).module_is)) r.base) r.words f × ((words_of (T (described (of b).against) (module_view (build_comes b x v).module_is)) f.of ≤ W (described (of b).against) (module_view (build_comes b x v).module_is) f.of) × On (IsFlat (types_of (of b)) (tree_of b)) f.of)

      fields_then : AllByRecursion FieldThen shown_fields
      fields_then =
          let A = fields_inside (described (of b).against) (module_view (build_comes b x v).module_is) (own_name (tree_of b) t) r own has few plain_chains in
          let B = field_words (described (of b).against) (module_view (build_comes b x v).module_is) (own_name (tree_of b) t) r own has few plain_chains in
          let E = all_made (λ (f : Field). f.of) (On (IsFlat (types_of (of b)) (tree_of b))) r.fields (all_right (On (IsFlat (types_of (of b)) (tree_of b))) (listed r.base) (each (λ f. f.of) r.fields) counted) in
          let all = all_pairs _ _ r.fields A (all_pairs _ _ r.fields B E) in
          all_filtered (λ f. is_shown f.mark) FieldThen (in_order by_place r.fields) (all_from FieldThen (λ f. is_shown f.mark ≡ true → FieldThen f) (λ f h s. h) (in_order by_place r.fields) (all_in_order by_place FieldThen r.fields all))

      field_now : (f : Field) → FieldThen f → G f.of → FieldNow f
      field_now f h g =
          let s : IsSized f.of = record { on = g.0; flat = h.1.1; held = g.1 } in
          let same : words_of (described others) f.of ≡ words_of (types_of (of b)) f.of = words_same 201 f.of s in
          let then : words_of (types_of (of b)) f.of ≡ words_of (T (described (of b).against) (module_view (build_comes b x v).module_is)) f.of = ap (λ (m : Map). words_of m f.of) view_is in
          let le = h.1.0 in
          record { placed = h.0; words = omega (arith, same, then, le) }

      fields_now : (fs : List Field) → AllByRecursion FieldThen fs → AllByRecursion G (each (λ f. f.of) fs) → AllByRecursion FieldNow fs
      fields_now [] h g = tt
      fields_now (f ∷ fs) h g = (field_now f h.0 g.0, fields_now fs h.1 g.1)

      inside : (before : ℕ) → before ≤ base_of (W (described (of b).against) (module_view (build_comes b x v).module_is)) r.base → (fs : List Field) → AllByRecursion FieldNow fs → list_all (is_inside (described others) before r.words) fs ≡ true
      inside before le [] h = refl
      inside before le (f ∷ fs) h =
          let a = h.0.placed.from in
          let z = h.0.placed.to in
          let w = h.0.words in
          both_true (is_inside (described others) before r.words f) (list_all (is_inside (described others) before r.words) fs)
          (both_true (nat_le before f.place) (nat_le (f.place + words_of (described others) f.of) r.words) (within_limit before f.place (omega (arith, le, a))) (within_limit (f.place + words_of (described others) f.of) r.words (omega (arith, w, z))))
          (inside before le fs h.1)

      numbers : (before : ℕ) → before ≤ base_of (C (described (of b).against) (module_view (build_comes b x v).module_is)) r.base → (ms : List Method) → AllByRecursion (IsNumbered (base_of (C (described (of b).against) (module_view (build_comes b x v).module_is)) r.base) r.procedures) ms → list_all (is_numbered before r.procedures) ms ≡ true
      numbers before le [] h = refl
      numbers before le (m ∷ ms) h =
          let a = h.0.from in
          let z = h.0.to in
          both_true (is_numbered before r.procedures m) (list_all (is_numbered before r.procedures) ms)
          (both_true (nat_le before m.number) (nat_lt m.number r.procedures) (within_limit before m.number (omega (arith, le, a))) (less_true m.number r.procedures z))
          (numbers before le ms h.1)

      -- 6 TO 9
      pub sizes_fit : has_sound_sizes (described others) n r_now ≡ true
      sizes_fit =
          let base = base_now in
          let a = base_covered (described (of b).against) (module_view (build_comes b x v).module_is) (own_name (tree_of b) t) r own has few plain_chains in
          let c = counts_covered (described (of b).against) (module_view (build_comes b x v).module_is) (own_name (tree_of b) t) r own has few plain_chains in
          let bw = base.words in
          let bp = base.procedures in
          let ms = numbers_behind (described (of b).against) (module_view (build_comes b x v).module_is) (own_name (tree_of b) t) r own has few plain_chains in
          let shown_ms = all_filtered (λ m. is_shown m.mark) _ r.methods (all_from _ (λ m. is_shown m.mark ≡ true → IsNumbered (base_of (C (described (of b).against) (module_view (build_comes b x v).module_is)) r.base) r.procedures m) (λ m h s. h) r.methods ms) in
          both_true (nat_le r.procedures most_words) _ (within_limit r.procedures most_words few_bound)
          (both_true _ _ (both_true (nat_le (words_before (base_in (described others) n r)) r.words) (nat_le (procedures_before (base_in (described others) n r)) r.procedures) (within_limit (words_before (base_in (described others) n r)) r.words (omega (arith, a, bw))) (within_limit (procedures_before (base_in (described others) n r)) r.procedures (omega (arith, c, bp))))
          (both_true _ _ (inside (words_before (base_in (described others) n r)) bw shown_fields (fields_now shown_fields fields_then (all_right G (listed r.base) (each (λ f. f.of) shown_fields) named_front)))
          (numbers (procedures_before (base_in (described others) n r)) bp shown_methods shown_ms)))

    -- ---- an object that is a type

    pub record OwnType (y : List ℕ) (d : Desc) : Type 0 where
      pub t : TypedType
      pub there : IsOneOf (tree_of b).types t
      pub name : t.name ≡ y
      pub reached : is_among (reached_types (tree_of b)) (own_name (tree_of b) t) ≡ true
      pub is : seen (in_places t.desc) ≡ d

    pub own_type : (y : List ℕ) (d : Desc) → object_named (shows_of b).objects y ≡ Some d → is_type d ≡ true → OwnType y d
    own_type y d e ty =
        let k : Module = tree_of b in
        let o : List ℕ × Desc = (y, d) in
        let cs = each constant_object (filter (λ c. is_shown c.mark) k.constants) in
        let vs = each variable_object (filter (λ z. is_shown z.mark) k.variables) in
        let ps = each procedure_object (filter is_exported k.procedures) in
        let ts = each type_object (types_among k (reached_types k)) in
        let j = object_found (objects_of k) y d (ap (λ os. object_named os y) (sym objects_are) ∙ e) in
        ⊎_elim
        (λ l. ⊎_elim
        (λ l. ⊎_elim
        (λ l. let z = one_mapped constant_object (filter (λ c. is_shown c.mark) k.constants) o l in let bad : false ≡ true = ap (λ (o : List ℕ × Desc). is_type o.1) z.1.1 ∙ ty in absurd cc)
        (λ l. let z = one_mapped variable_object (filter (λ z. is_shown z.mark) k.variables) o l in let bad : false ≡ true = ap (λ (o : List ℕ × Desc). is_type o.1) z.1.1 ∙ ty in absurd cc)
        (one_joined cs vs o l))
        (λ l. let z = one_mapped procedure_object (filter is_exported k.procedures) o l in let bad : false ≡ true = ap (λ (o : List ℕ × Desc). is_type o.1) z.1.1 ∙ ty in absurd cc)
        (one_joined (cs ++ vs) ps o l))
        (λ l.
        let z = one_mapped type_object (types_among k (reached_types k)) o l in
        record {
          t = z.0;
          there = one_filtered (λ t. is_among (reached_types k) (own_name k t)) k.types z.0 z.1.0;
          name = ap (λ (o : List ℕ × Desc). o.0) z.1.1;
          reached = kept_test (λ t. is_among (reached_types k) (own_name k t)) k.types z.0 z.1.0;
          is = ap (λ (o : List ℕ × Desc). o.1) z.1.1;
        })
        (one_joined ((cs ++ vs) ++ ps) ts o (one_ordered by_name (((cs ++ vs) ++ ps) ++ ts) o j))

    -- ---- its words

    good_next : (q : QName) (e : Desc) → G (ref.Named q) → types_of (of b) q ≡ Some e → is_type e ≡ true → AllByRecursion G (passes_to e)
    good_next q e g at ty = all_pairs (On IsFollowed) (λ t. IsHeld (types_of (of b)) t) (passes_to e) (passes_near (On IsFollowed) e (leads q e g.0 at ty)) (passes_named (λ t. IsHeld (types_of (of b)) t) e (rules.grounded.held q e at))

    module _ (t : TypedType) (i : IsOneOf (tree_of b).types t) (reached : is_among (reached_types (tree_of b)) (own_name (tree_of b) t) ≡ true) where
      at_type : types_of (of b) (own_name (tree_of b) t) ≡ Some t.desc
      at_type = own_view (own_name (tree_of b) t) ((bytes_decides (tree_of b).name (tree_of b).name).1 refl) ∙ found_type (tree_of b).types t rules.names i

      type_is : is_type t.desc ≡ true
      type_is = of_all (λ t. is_type t.desc ≡ true) (tree_of b).types t types_are i

      good_type : G (ref.Named (own_name (tree_of b) t))
      good_type = (
        record { near = (of_all (λ t. IsNear (types_of (of b)) (tree_of b) (own_name (tree_of b) t) × AllByRecursion (On (IsNear (types_of (of b)) (tree_of b))) (named_by t.desc)) (tree_of b).types t (own_on (of b) rules found types_are spelled no_out shows_is) i).0; reached = λ own. reached },
        subst (λ o. MatchOption o ⊥ (λ d. IsTrue (is_type d))) (sym at_type) type_is,
      )

      -- lines of aliases and arrays from it on end
      pub own_line : IsShallow (described others) 201 (ref.Named (own_name (tree_of b) t))
      own_line =
          line_now (types_of (of b)) (described others) G (λ q e p at ty. says q e p.0 at ty) good_next (λ q p. p.1) 201 (ref.Named (own_name (tree_of b) t)) good_type
          (line_of (types_of (of b)) 201 (ref.Named (own_name (tree_of b) t)) (rules.grounded.chains (ref.Named (own_name (tree_of b) t)) good_type.1))

      words_few : described_words (words_of (types_of (of b))) (Some t.desc) ≤ most_words
      words_few = of_all (λ t. described_words (words_of (types_of (of b))) (Some t.desc) ≤ most_words) (tree_of b).types t limits.words i

      -- an array's are those of its elements
      array_few : (k n : ℕ) → k + n ≡ 201 → (c : ℕ) (m : Mark) (u : TypeRef) → t.desc ≡ desc.Array m c u → IsShallow (described others) n u → c * words_within (described others) n u ≤ most_words
      unfolding counted_in
      array_few k n e c m u is line =
          let g = (subst (λ d. AllByRecursion G (passes_to d)) is (good_next (own_name (tree_of b) t) t.desc good_type at_type type_is)).0 in
          let f = (subst (λ d. AllByRecursion (On (IsFlat (types_of (of b)) (tree_of b))) (counted_in d)) is (of_all (λ t. AllByRecursion (On (IsFlat (types_of (of b)) (tree_of b))) (counted_in t.desc)) (tree_of b).types t own_counted i)).0 in
          let then = line_then (types_of (of b)) (described others) G (λ q e p at ty. says q e p.0 at ty) good_next (λ q p. p.1) n u g line in
          let same : words_within (described others) n u ≡ words_of (types_of (of b)) u = words_same n u (record { on = g.0; flat = f; held = g.1 }) ∙ words_all (types_of (of b)) k n u e then in
          let le : c * words_of (types_of (of b)) u ≤ most_words = subst (λ d. described_words (words_of (types_of (of b))) (Some d) ≤ most_words) is words_few in
          subst (λ w. c * w ≤ most_words) (sym same) le

      -- so what is said of it now keeps the limit, where what an alias is equated to does
      pub type_words : (k n : ℕ) → k + n ≡ 201 → (d : Desc) → seen (in_places t.desc) ≡ d → AllByRecursion (λ u. IsShallow (described others) n u) (passes_to d) → ((m : Mark) (u : TypeRef) → d ≡ desc.Alias m u → words_within (described others) n u ≤ most_words) → described_words (words_within (described others) n) (Some d) ≤ most_words
      type_words k n e d is line alias = subst (λ d. described_words (words_within (described others) n) (Some d) ≤ most_words) is (by t.desc refl)
        where
          lines : AllByRecursion (λ u. IsShallow (described others) n u) (passes_to (seen (in_places t.desc)))
          lines = subst (λ d. AllByRecursion (λ u. IsShallow (described others) n u) (passes_to d)) (sym is) line

          by : (y : Desc) → t.desc ≡ y → described_words (words_within (described others) n) (Some (seen (in_places t.desc))) ≤ most_words
          by (desc.Alias m u) j = subst (λ y. described_words (words_within (described others) n) (Some (seen (in_places y))) ≤ most_words) (sym j) (alias m u (sym is ∙ ap (λ y. seen (in_places y)) j))
          by (desc.Array m c u) j = subst (λ y. described_words (words_within (described others) n) (Some (seen (in_places y))) ≤ most_words) (sym j) (array_few k n e c m u j (subst (λ y. AllByRecursion (λ u. IsShallow (described others) n u) (passes_to (seen (in_places y)))) j lines).0)
          by (desc.OpenArray m u) j = subst (λ y. described_words (words_within (described others) n) (Some (seen (in_places y))) ≤ most_words) (sym j) (omega arith)
          by (desc.Record r) j = subst (λ y. described_words (words_within (described others) n) (Some (seen (in_places y))) ≤ most_words) (sym j) (subst (λ d. described_words (words_of (types_of (of b))) (Some d) ≤ most_words) j words_few)
          by (desc.Const z) j = subst (λ y. described_words (words_within (described others) n) (Some (seen (in_places y))) ≤ most_words) (sym j) (omega arith)
          by (desc.Var m u) j = subst (λ y. described_words (words_within (described others) n) (Some (seen (in_places y))) ≤ most_words) (sym j) (omega arith)
          by (desc.Proc s) j = subst (λ y. described_words (words_within (described others) n) (Some (seen (in_places y))) ≤ most_words) (sym j) (omega arith)
          by (desc.Pointer m u) j = subst (λ y. described_words (words_within (described others) n) (Some (seen (in_places y))) ≤ most_words) (sym j) (omega arith)
          by (desc.ProcType m s) j = subst (λ y. described_words (words_within (described others) n) (Some (seen (in_places y))) ≤ most_words) (sym j) (omega arith)

      -- and its sizes are sound
      pub type_sizes : (n : ℕ) → 201 ≤ n → (d : Desc) → seen (in_places t.desc) ≡ d → is_sized (described others) n d ≡ true
      type_sizes n enough d is = subst (λ d. is_sized (described others) n d ≡ true) is (by t.desc refl)
        where
          by : (y : Desc) → t.desc ≡ y → is_sized (described others) n (seen (in_places t.desc)) ≡ true
          by (desc.Record r) j = subst (λ y. is_sized (described others) n (seen (in_places y)) ≡ true) (sym j) (sizes_fit t i reached r j n enough)
          by (desc.Alias m u) j = subst (λ y. is_sized (described others) n (seen (in_places y)) ≡ true) (sym j) refl
          by (desc.Array m c u) j = subst (λ y. is_sized (described others) n (seen (in_places y)) ≡ true) (sym j) refl
          by (desc.OpenArray m u) j = subst (λ y. is_sized (described others) n (seen (in_places y)) ≡ true) (sym j) refl
          by (desc.Const z) j = subst (λ y. is_sized (described others) n (seen (in_places y)) ≡ true) (sym j) refl
          by (desc.Var m u) j = subst (λ y. is_sized (described others) n (seen (in_places y)) ≡ true) (sym j) refl
          by (desc.Proc s) j = subst (λ y. is_sized (described others) n (seen (in_places y)) ≡ true) (sym j) refl
          by (desc.Pointer m u) j = subst (λ y. is_sized (described others) n (seen (in_places y)) ≡ true) (sym j) refl
          by (desc.ProcType m s) j = subst (λ y. is_sized (described others) n (seen (in_places y)) ≡ true) (sym j) refl

    -- ---- where all that it was compiled against is there now, chains are as short as they were

    module _ (age : AllByRecursion (λ (f : Face Text). face_named others f.«module» ≡ Some f) (of b).against) where
      same_now : (q : QName) (e : Desc) → described (of b).against q ≡ Some e → described others q ≡ Some e
      same_now q e i = by (face_named (of b).against q.«module») refl i
        where
          by : (o : Option (Face Text)) → face_named (of b).against q.«module» ≡ o → (o >>= λ (f : Face Text). object_named f.objects q.object) ≡ Some e → described others q ≡ Some e
          by None j h = absurd cc
          by (Some f) j h =
              let n = named_has (λ (f : Face Text). face_named others f.«module» ≡ Some f) (of b).against q.«module» f age j in
              ap (λ o. o >>= λ (f : Face Text). object_named f.objects q.object) (ap (face_named others) n.name ∙ n.has) ∙ h

      short : (n : ℕ) (t : TypeRef) → IsIn (tree_of b) t → IsWithin (types_of (of b)) n t → is_within (described others) n t ≡ true
      unfolding IsWithin
      short n (ref.Basic k) i w = refl
      short zero (ref.Named q) i w = absurd w
      short (suc n) (ref.Named q) i w = by (types_of (of b) q) refl w (λ t j k. short n t j k)
        where
          by : (o : Option Desc) → types_of (of b) q ≡ o → MatchOption o ⊥ (λ d. IsTrue (is_type d) × AllByRecursion (λ t. IsWithin (types_of (of b)) n t) (stands_on d)) → ((t : TypeRef) → IsIn (tree_of b) t → IsWithin (types_of (of b)) n t → is_within (described others) n t ≡ true) → chain_described (is_within (described others) n) (described others q) ≡ true
          by None i w r = absurd w
          by (Some e) said w r = own (is_own (tree_of b) q) refl
            where
              own : (k : Bool) → is_own (tree_of b) q ≡ k → chain_described (is_within (described others) n) (described others q) ≡ true
              own true o =
                  ap (chain_described (is_within (described others) n)) (own_said q e o (i o) (sym (own_view q o) ∙ said))
                  ∙ all_true (is_within (described others) n) (stands_on (seen (in_places e))) (stands_seen (IsIn (tree_of b)) (λ t. IsWithin (types_of (of b)) n t) (λ t. is_within (described others) n t ≡ true) r e (type_in (tree_of b) q e (sym (own_view q o) ∙ said) (i o)) w.1)
              own false o =
                  let here : described (of b).against q ≡ Some e = sym (other_view q o) ∙ said in
                  let held = stood_held (described (of b).against) e ((against_is_grounded b (of b) valid).held q e here) in
                  ap (chain_described (is_within (described others) n)) (same_now q e here)
                  ∙ all_true (is_within (described others) n) (stands_on e) (all_two (IsIn (tree_of b)) (λ t. IsWithin (types_of (of b)) n t) (λ t. is_within (described others) n t ≡ true) r (stands_on e) (all_from (λ t. IsHeld (described (of b).against) t) (IsIn (tree_of b)) not_own (stands_on e) held) w.1)

      pub type_short : (t : TypedType) → IsOneOf (tree_of b).types t → is_among (reached_types (tree_of b)) (own_name (tree_of b) t) ≡ true → is_within (described others) 201 (ref.Named (own_name (tree_of b) t)) ≡ true
      type_short t i reached = short 201 (ref.Named (own_name (tree_of b) t)) (λ own. reached) (rules.grounded.chains (ref.Named (own_name (tree_of b) t)) (good_type t i reached).1)
