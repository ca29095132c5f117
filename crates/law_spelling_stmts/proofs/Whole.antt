-- The statements of a module that is read and keeps the rules fit.
use Rattle.std.proofs.Common.{◌≡◌, ℕ, ◌<◌, ◌^◌, Bool, true, false, cond, List, [], ◌∷◌, map, Option, Some, None, refl, sym, ap, subst, ◌∙◌}
use Rattle.std.specs.Prelude.{bytes_eq}
use Rattle.std.specs.List.{AllByRecursion, find}
use Rattle.std.specs.Option.{option_map}
use Rattle.std.proofs.lemmas.Bool.{false≢true}
use Rattle.std.proofs.lemmas.Slice.Eq.{bytes_eq-Decides}
use Rattle.ob_tree.specs.declared.names.QName.{QName}
use Rattle.ob_tree.specs.declared.ident.Mark.{Mark}
use Rattle.ob_tree.specs.declared.ident.Mark.TheVariants as mark
use Rattle.ob_tree.specs.declared.decl.Module.{Module as Tree}
use Rattle.ob_types.specs.declared.types.Basic.TheVariants as basic
use Rattle.ob_types.specs.declared.types.TypeRef.{TypeRef}
use Rattle.ob_types.specs.declared.types.TypeRef.TheVariants as ref
use Rattle.ob_types.specs.declared.value.Value.{Value}
use Rattle.ob_types.specs.declared.desc.Desc.{Desc}
use Rattle.ob_types.specs.declared.desc.Desc.TheVariants as desc
use Rattle.ob_types.specs.declared.typed.TypedType.{TypedType}
use Rattle.ob_types.specs.declared.typed.TypedProcedure.{TypedProcedure}
use Rattle.ob_types.specs.declared.typed.TypedModule.{TypedModule}
use Rattle.ob_types.specs.Tests.{target, shape_at}
use Rattle.ob_types.specs.TypedSyntax.{Module}
use Rattle.ob_types.specs.TypedView.{procedure_view, module_view}
use Rattle.ob_rules.specs.declared.entity.Entity.{Entity}
use Rattle.ob_rules.specs.declared.entity.Entity.TheVariants as entity
use Rattle.ob_rules.specs.declared.entity.Known.{Known}
use Rattle.ob_rules.specs.Shapes.{same_name, array_at, array_of}
use Rattle.ob_rules.specs.Names.{Around, map_of, own_desc, out_string, type_desc}
use Rattle.ob_rules.specs.Expressions.{phrase_of, constant_value}
use Rattle.ob_rules.specs.Statements.{judging, in_turn}
use Rattle.ob_rules.specs.Declarations.{Contents, declaration, module_of, typed_module, all_described, checked}
use Rattle.ob_layout.specs.Words.{words_of}
use Rattle.ob_layout.specs.LaidOut.{is_own, type_named, laid_desc, laid_type, laid_out, viewed, words_in, procedures_in}
use Rattle.ob_env.specs.Faces.{Face, face_named, object_named, described}
use Rattle.ob_env.specs.Fit.{first_unfit}
use Rattle.ob_env.specs.Shown.{blank, shown}
use Rattle.ob_format.specs.Format.{◌>>=◌}
use Rattle.law_names_distinct.specs.Distinct.{AreDistinct}
use Rattle.law_links_types.specs.Told.{core}
use Rattle.law_links_types.proofs.Setting.{IsFound as IsMet, found_in}
use Rattle.law_links_types.proofs.Modules.{IsOf, all_are_of, described_name, with_its, distinct_back, its_core, unbroken_is}
use Rattle.law_local_uses.proofs.Laid.{IsFound, all_found}
use Rattle.law_spelling.specs.Laws.{Text, IsSpelled}
use Rattle.law_spelling.specs.Seen.{LengthFits}
use Rattle.law_spelling_stmts.specs.Fits.{BodyFits}
use Rattle.law_spelling_stmts.specs.Laws.{AreFitting}
use Rattle.law_spelling_stmts.proofs.Spelled.{described_spelled}
use Rattle.law_spelling_read.specs.ReadPlaces.{tree_fits}
use Rattle.law_spelling_read.proofs.PlacedTrees.{readings_placed}
use Rattle.law_spelling_stmts.specs.FitLaws.{AreInRange, AreBounded, ModulesFit}
use Rattle.law_spelling_stmts.proofs.Setting.{Con, EntityOk, Setting, S, Keeps, any_keeps}
use Rattle.law_spelling_stmts.proofs.Expressions.{constant_keeps, expr_ok}
use Rattle.law_spelling_stmts.proofs.Statements.{stmts_fit, turn_keeps}
use Rattle.law_spelling_stmts.proofs.Bodies.{stmts_ok}
use Rattle.law_spelling_stmts.proofs.Heads as level
use Rattle.law_spelling_stmts.proofs.Heads.{Level, FixedIn, AreKnown, Judges}
use Rattle.law_spelling_stmts.proofs.FitModules.{ProcedureOk, ContentsOk, contents, broken, contents_ok}
use Rattle.law_spelling_stmts.proofs.Views.{is_flat, ends, shape_told, takes_room}
use Rattle.law_spelling_stmts.proofs.Texts.{value_short}
use Rattle.law_spelling_stmts.proofs.Chains.{type_has, all_end}
use Rattle.law_lists.proofs.Lists.{Anything, IfThere}

-- ---- aliases and arrays stay as they are

flat_core : (d : Desc) → is_flat d ≡ true → core d ≡ d
flat_core (desc.Alias m t) h = refl
flat_core (desc.Array m n t) h = refl
flat_core (desc.Const v) h = absurd (false≢true h)
flat_core (desc.Var m t) h = absurd (false≢true h)
flat_core (desc.Proc s) h = absurd (false≢true h)
flat_core (desc.OpenArray m t) h = absurd (false≢true h)
flat_core (desc.Pointer m t) h = absurd (false≢true h)
flat_core (desc.ProcType m s) h = absurd (false≢true h)
flat_core (desc.Record r) h = absurd (false≢true h)

flat_laid : (words procedures : TypeRef → ℕ) (q : QName) (d : Desc) → is_flat (core d) ≡ true → laid_desc words procedures q d ≡ core d
flat_laid words procedures q (desc.Alias m t) h = refl
flat_laid words procedures q (desc.Array m n t) h = refl
flat_laid words procedures q (desc.Const v) h = absurd (false≢true h)
flat_laid words procedures q (desc.Var m t) h = absurd (false≢true h)
flat_laid words procedures q (desc.Proc s) h = absurd (false≢true h)
flat_laid words procedures q (desc.OpenArray m t) h = absurd (false≢true h)
flat_laid words procedures q (desc.Pointer m t) h = absurd (false≢true h)
flat_laid words procedures q (desc.ProcType m s) h = absurd (false≢true h)
flat_laid words procedures q (desc.Record r) h = absurd (false≢true h)

-- what is shown is described so, where it is no record
abbrev IsBare : Desc → Type 0
IsBare (desc.Record r) = ⊥
IsBare d = Unit {0}

bare_is : (a d : Desc) → blank a ≡ d → IsBare d → a ≡ d
bare_is (desc.Record r) d e h = absurd (subst IsBare (sym e) h)
bare_is (desc.Const v) d e h = e
bare_is (desc.Var m t) d e h = e
bare_is (desc.Proc s) d e h = e
bare_is (desc.Alias m t) d e h = e
bare_is (desc.Array m n t) d e h = e
bare_is (desc.OpenArray m t) d e h = e
bare_is (desc.Pointer m t) d e h = e
bare_is (desc.ProcType m s) d e h = e

flat_bare : (d : Desc) → is_flat d ≡ true → IsBare d
flat_bare (desc.Record r) h = absurd (false≢true h)
flat_bare (desc.Const v) h = tt
flat_bare (desc.Var m t) h = tt
flat_bare (desc.Proc s) h = tt
flat_bare (desc.Alias m t) h = tt
flat_bare (desc.Array m n t) h = tt
flat_bare (desc.OpenArray m t) h = tt
flat_bare (desc.Pointer m t) h = tt
flat_bare (desc.ProcType m s) h = tt

described_so : (faces : List (Face Text)) (q : QName) (d : Desc) → IsBare d → shown faces q ≡ Some d → described faces q ≡ Some d
described_so faces q d h e = by (described faces q) refl e
  where
    by : (o : Option Desc) → described faces q ≡ o → option_map blank o ≡ Some d → described faces q ≡ Some d
    by None i e = absurd cc
    by (Some a) i e = let k : blank a ≡ d = cc in i ∙ ap (λ x. Some x) (bare_is a d k h)

shown_so : (faces : List (Face Text)) (q : QName) (d : Desc) → blank d ≡ d → described faces q ≡ Some d → shown faces q ≡ Some d
shown_so faces q d h e = ap (λ o. option_map blank o) e ∙ ap (λ x. Some x) h

-- no interface is of the module itself
apart_named : (root : List ℕ) (fs : List (Face Text)) → AllByRecursion (λ f. bytes_eq f.«module» root ≡ false) fs → (m x : List ℕ) (d : Desc) → (face_named fs m >>= λ f. object_named f.objects x) ≡ Some d → bytes_eq m root ≡ false
apart_named root [] h m x d e = absurd cc
apart_named root (f ∷ fs) h m x d e = by (bytes_eq m f.«module») refl e (apart_named root fs h.1 m x d)
  where
    by : (b : Bool) → bytes_eq m f.«module» ≡ b → (cond b (Some f) (face_named fs m) >>= λ f. object_named f.objects x) ≡ Some d → ((face_named fs m >>= λ f. object_named f.objects x) ≡ Some d → bytes_eq m root ≡ false) → bytes_eq m root ≡ false
    by true i e rest = subst (λ (y : List ℕ). bytes_eq y root ≡ false) (sym ((bytes_eq-Decides m f.«module»).0 i)) h.0
    by false i e rest = rest e

-- the description of an array
array_is : (o : Option Desc) (n : ℕ) (e : TypeRef) → array_at o ≡ Some (Some n, e) → (m : Mark) × (o ≡ Some (desc.Array m n e))
array_is (Some (desc.Array m k t)) n e i =
    let p : ◌≡◌ {A = Option ℕ × TypeRef} (Some k, t) (Some n, e) = cc in
    let s : Some k ≡ Some n = ap (λ (x : Option ℕ × TypeRef). x.0) p in
    let a : k ≡ n = cc in
    let b : t ≡ e = ap (λ (x : Option ℕ × TypeRef). x.1) p in
    (m, ap (λ x. Some (desc.Array m x t)) a ∙ ap (λ x. Some (desc.Array m n x)) b)
array_is (Some (desc.OpenArray m t)) n e i =
    let p : ◌≡◌ {A = Option ℕ × TypeRef} (None, t) (Some n, e) = cc in
    let s : None ≡ Some n = ap (λ (x : Option ℕ × TypeRef). x.0) p in
    absurd cc
array_is None n e i = absurd cc
array_is (Some (desc.Const v)) n e i = absurd cc
array_is (Some (desc.Var m t)) n e i = absurd cc
array_is (Some (desc.Proc s)) n e i = absurd cc
array_is (Some (desc.Alias m t)) n e i = absurd cc
array_is (Some (desc.Pointer m t)) n e i = absurd cc
array_is (Some (desc.ProcType m s)) n e i = absurd cc
array_is (Some (desc.Record r)) n e i = absurd cc

all_anything : {A : Type 0} (xs : List A) → AllByRecursion Anything xs
all_anything [] = tt
all_anything (x ∷ xs) = (tt, all_anything xs)

there_anything : {A : Type 0} (o : Option (List A)) → IfThere (AllByRecursion Anything) o
there_anything None = tt
there_anything (Some xs) = all_anything xs

module _ (faces : List (Face Text)) (spelled : AllByRecursion IsSpelled faces) (range : AreInRange (shown faces)) (fit : first_unfit faces ≡ None) (tree : Tree) (placed : tree_fits tree ≡ true) (apart : AllByRecursion (λ f. bytes_eq f.«module» tree.name.name ≡ false) faces) where
  abbrev F : QName → Option Desc
  F = described faces

  abbrev its : TypedModule
  its = typed_module (shown faces) tree.name tree.imports (map declaration tree.decls) (module_of (shown faces) tree.name tree.imports (map declaration tree.decls) (map judging tree.body) tree.closing)

  abbrev C : Contents
  C = contents (shown faces) tree placed

  abbrev M : Module
  M = laid_out F (module_view its)

  abbrev V : QName → Option Desc
  V = viewed F M

  abbrev own : List ℕ → QName
  own x = record { «module» = tree.name.name; object = x }

  itself_eq : (x : List ℕ) → bytes_eq x x ≡ true
  itself_eq x = (bytes_eq-Decides x x).1 refl

  -- ---- the module's own types, by name and core

  abbrev One : Level
  One = record { unit = tree.name.name; shown = shown faces; Has = IsOf C.types; Fixed = Anything; StmtOk = Anything; truths = λ b. tt }

  judges_one : Judges One
  judges_one = record { fixed = λ u s x e. any_keeps (constant_value u (phrase_of x)); body = λ u s xs e. there_anything (in_turn (map judging xs) u).node }

  -- aliases and arrays are the view's
  abbrev Tells : List ℕ → Desc → Type 0
  Tells x c = is_flat c ≡ true → V (own x) ≡ Some c

  module _ (quiet : broken (shown faces) tree placed ≡ []) (differ : AreDistinct (λ t. t.name) its.types) where
    bound_are : AllByRecursion (λ (b : TypedType). IsOf C.types b.name (core b.desc)) C.bound
    bound_are = (contents_ok (shown faces) tree placed One judges_one refl refl quiet (all_are_of C.types)).bound

    type_tells : (t : TypedType) → IsOf C.types t.name (core t.desc) → IsFound F (module_view its) its.types (with_its C.bound t) → Tells t.name (core t.desc)
    type_tells t o f l =
        let w = with_its C.bound t in
        let name : w.name ≡ t.name = described_name (find (λ b. bytes_eq b.name t.name) C.bound) t in
        let same : core w.desc ≡ core t.desc = its_core C.bound C.types (distinct_back C.bound C.types differ) bound_are t o in
        let here : V (own w.name) ≡ Some (laid_type F (module_view its) w).desc = ap (λ b. cond b (type_named M.types w.name) (F (own w.name))) (itself_eq tree.name.name) ∙ f in
        let laid : (laid_type F (module_view its) w).desc ≡ core w.desc = flat_laid (words_in F (module_view its)) (procedures_in F (module_view its)) (own w.name) w.desc (ap is_flat same ∙ l) in
        subst (λ (x : List ℕ). V (own x) ≡ Some (core t.desc)) name (here ∙ ap (λ d. Some d) (laid ∙ same))

    types_tell : (ts : List TypedType) → AllByRecursion (λ (t : TypedType). IsOf C.types t.name (core t.desc)) ts → AllByRecursion (IsFound F (module_view its) its.types) (all_described C.bound ts) → AllByRecursion (λ (t : TypedType). Tells t.name (core t.desc)) ts
    types_tell [] o f = tt
    types_tell (t ∷ ts) o f = (type_tells t o.0 f.0, types_tell ts o.1 f.1)

    tell : AllByRecursion (λ (t : TypedType). Tells t.name (core t.desc)) C.types
    tell = types_tell C.types (all_are_of C.types) (all_found F (module_view its) its.types differ)

    -- ---- what stands around

    record Stood (u : Around) : Type 0 where
      unit : u.unit ≡ tree.name.name
      shows : u.shown ≡ shown faces
      own_types : AllByRecursion (λ (t : TypedType). Tells t.name (core t.desc)) u.own
      known : AllByRecursion (λ (n : Known). EntityOk n.what) u.known

    other_told : (q : QName) (d : Desc) → is_flat d ≡ true → bytes_eq q.«module» tree.name.name ≡ false → shown faces q ≡ Some d → V q ≡ Some d
    other_told q d l e i = ap (λ b. cond b (type_named M.types q.object) (F q)) e ∙ described_so faces q d (flat_bare d l) i

    own_told : (u : Around) → Stood u → (q : QName) (d : Desc) → is_flat d ≡ true → bytes_eq q.«module» u.unit ≡ true → (o : Option TypedType) → IfThere (IsMet (λ (t : TypedType). Tells t.name (core t.desc)) (λ (t : TypedType). bytes_eq t.name q.object)) o → own_desc o ≡ Some d → V q ≡ Some d
    own_told u s q d l e None f i = absurd cc
    own_told u s q d l e (Some t) f i =
        let same : t.desc ≡ d = cc in
        let cored : core t.desc ≡ d = ap core same ∙ flat_core d l in
        let x : t.name ≡ q.object = (bytes_eq-Decides t.name q.object).0 f.is in
        let m : q.«module» ≡ tree.name.name = (bytes_eq-Decides q.«module» u.unit).0 e ∙ s.unit in
        let name : own t.name ≡ q = ap own x ∙ ap (λ y. let p : QName = record { «module» = y; object = q.object } in p) (sym m) in
        subst (λ (p : QName). V p ≡ Some d) name (f.has (ap is_flat cored ∙ l) ∙ ap (λ c. Some c) cored)

    told : (u : Around) → Stood u → (q : QName) (d : Desc) → is_flat d ≡ true → map_of u q ≡ Some d → V q ≡ Some d
    told u s q d l i = by (bytes_eq q.«module» u.unit) refl i
      where
        other : (b c : Bool) → bytes_eq q.«module» u.unit ≡ false → type_desc false c u q ≡ Some d → V q ≡ Some d
        other b true e i = let no : desc.OpenArray mark.Hidden (ref.Basic basic.Char) ≡ d = cc in absurd (false≢true (ap is_flat no ∙ l))
        other b false e i = other_told q d l (sym (ap (λ x. bytes_eq q.«module» x) s.unit) ∙ e) (sym (ap (λ f. f q) s.shows) ∙ i)

        by : (b : Bool) → bytes_eq q.«module» u.unit ≡ b → type_desc b (same_name q out_string) u q ≡ Some d → V q ≡ Some d
        by true e i = own_told u s q d l e (find (λ t. bytes_eq t.name q.object) u.own) (found_in (λ (t : TypedType). Tells t.name (core t.desc)) (λ (t : TypedType). bytes_eq t.name q.object) u.own s.own_types) i
        by false e i = other true (same_name q out_string) e i

    -- ---- constants, lengths, room

    constant_ok : (q : QName) (v : Value) → shown faces q ≡ Some (desc.Const v) → Con v
    constant_ok q v i = (range.constants q v i, value_short q v (described_spelled faces spelled q (desc.Const v) (described_so faces q (desc.Const v) tt i)).short)

    module _ (bounded : AreBounded V M) where
      length_of : (d : Desc) (m : Mark) (n : ℕ) (t : TypeRef) → d ≡ desc.Array m n t → LengthFits d → n < 2 ^ 31
      length_of d m n t e h = subst LengthFits e h

      view_length : (q : QName) (m : Mark) (n : ℕ) (t : TypeRef) → V q ≡ Some (desc.Array m n t) → n < 2 ^ 31
      view_length q m n t i = by (is_own M q) i
        where
          by : (b : Bool) → cond b (type_named M.types q.object) (F q) ≡ Some (desc.Array m n t) → n < 2 ^ 31
          by true i = let r = type_has (λ (t : TypedType). LengthFits t.desc) M.types bounded.lengths q.object (desc.Array m n t) i in length_of r.0.desc m n t r.1.1.0 r.1.1.1
          by false i = range.lengths q m n t (shown_so faces q (desc.Array m n t) refl i)

      array_short : (u : Around) → Stood u → (t e : TypeRef) (n : ℕ) → array_of (map_of u) t ≡ Some (Some n, e) → n < 2 ^ 31
      array_short u s t e n i =
          let a = array_is (shape_at (map_of u) (target (map_of u) 201 t)) n e i in
          let r = shape_told (map_of u) V (told u s) t (target (map_of u) 201 t) a.0 n e refl a.1 in
          view_length r.0 a.0 n e (told u s r.0 (desc.Array a.0 n e) refl r.1.1)

      ended : (t : TypeRef) → ends V 201 t ≡ true
      ended = all_end faces fit M (λ q d i. apart_named tree.name.name faces apart q.«module» q.object d i) bounded.grounded

      K : Setting
      K = record {
        words = words_of V;
        Stands = Stood;
        known = λ u s. s.known;
        constants = λ u s q v i. constant_ok q v (sym (ap (λ f. f q) s.shows) ∙ i);
        lengths = array_short;
        room = λ u s t n i. takes_room (map_of u) V (told u s) ended t n i;
        looped = λ u s. record { unit = s.unit; shows = s.shows; own_types = s.own_types; known = s.known };
        guarded = λ u s gs. record { unit = s.unit; shows = s.shows; own_types = s.own_types; known = s.known };
      }

      abbrev Two : Level
      Two = record { unit = tree.name.name; shown = shown faces; Has = Tells; Fixed = Con; StmtOk = S K false; truths = λ b. (tt, tt) }

      entity_ok : (e : Entity) → FixedIn Two e → EntityOk e
      entity_ok (entity.Constant v) h = h
      entity_ok (entity.TypeName t) h = tt
      entity_ok (entity.Variable v t) h = tt
      entity_ok (entity.Procedure q s) h = tt
      entity_ok (entity.Forward q s) h = tt
      entity_ok (entity.Module x) h = tt
      entity_ok (entity.Predeclared p) h = tt
      entity_ok entity.LeftOut h = tt
      entity_ok entity.Unsound h = tt

      entities : (ks : List Known) → AreKnown Two ks → AllByRecursion (λ (n : Known). EntityOk n.what) ks
      entities [] h = tt
      entities (n ∷ ns) h = (entity_ok n.what h.0, entities ns h.1)

      stood : (u : Around) → level.Stands Two u → Stood u
      stood u s = record { unit = s.unit; shows = s.shown; own_types = s.own; known = entities u.known s.known }

      judges_two : Judges Two
      unfolding K
      judges_two = record {
        fixed = λ u s x e. constant_keeps K u (stood u s) (phrase_of x) (expr_ok K x e);
        body = λ u s xs e. subst (λ l. Keeps (AllByRecursion (S K l)) (in_turn (map judging xs) u)) s.in_loop (turn_keeps K u (stood u s) (map judging xs) (stmts_ok K xs e));
      }

      ok : ContentsOk Two C
      ok = contents_ok (shown faces) tree placed Two judges_two refl refl quiet tell

      bodies_fit : (ps : List TypedProcedure) → AllByRecursion (ProcedureOk Two) ps → AllByRecursion (BodyFits V) (map procedure_view ps)
      unfolding K
      bodies_fit [] h = tt
      bodies_fit (p ∷ ps) h = (record { at = h.0.0; body = stmts_fit K false p.body h.0.1 }, bodies_fit ps h.1)

      fitting : AreFitting V M
      unfolding K
      fitting = record { bodies = bodies_fit C.procedures ok.procedures; body = stmts_fit K false C.body ok.body }

  abbrev Fitted : TypedModule → Type 0
  Fitted m = AreDistinct (λ t. t.name) m.types → AreBounded (viewed F (laid_out F (module_view m))) (laid_out F (module_view m)) → AreFitting (viewed F (laid_out F (module_view m))) (laid_out F (module_view m))

  module_fits : (m : TypedModule) → checked (shown faces) tree ≡ Some m → Fitted m
  module_fits m e = let k = unbroken_is (broken (shown faces) tree placed) its m e in subst Fitted k.1 (λ d b. fitting k.0 d b)

pub modules_fit : ModulesFit
modules_fit faces spelled range fit text short tree read apart m e differ bounded = module_fits faces spelled range fit tree (readings_placed text short tree read) apart m e differ bounded
