-- The constants and the variables of a checked module have not the names of its types.
use Rattle.std.proofs.Common.{◌≡◌, ◌≢◌, ◌⊎◌, ⊎_elim, inl, inr, refl, sym, ap, ◌∙◌, subst, ℕ, ◌+◌, List, [], ◌∷◌, ◌++◌, length, map, Option, Some, None, arith, length-append}
use Rattle.std.specs.Prelude.{bytes_eq, true, false, Bool, not}
use Rattle.std.specs.List.{AllByRecursion, find, filter_map, list_all}
use Rattle.std.proofs.lemmas.Bool.{and_parts}
use Rattle.ob_tree.specs.declared.names.QName.{QName}
use Rattle.ob_tree.specs.declared.ident.Ident.{Ident}
use Rattle.ob_tree.specs.declared.ident.Import.{Import}
use Rattle.ob_tree.specs.declared.decl.Decl.{Decl}
use Rattle.ob_tree.specs.declared.decl.Module.{Module as Tree}
use Rattle.ob_types.specs.declared.desc.Desc.{Desc}
use Rattle.ob_types.specs.declared.typed.TypedConstant.{TypedConstant}
use Rattle.ob_types.specs.declared.typed.TypedType.{TypedType}
use Rattle.ob_types.specs.declared.typed.TypedVariable.{TypedVariable}
use Rattle.ob_types.specs.declared.typed.TypedModule.{TypedModule}
use Rattle.ob_rules.specs.declared.entity.Known.{Known}
use Rattle.ob_rules.specs.Names.{Around, predeclared}
use Rattle.ob_rules.specs.Types.{Parameters, is_module_level}
use Rattle.ob_rules.specs.Statements.{Judging, judging}
use Rattle.ob_rules.specs.Headings.{Head, Heads, leaves_room, add_heading, reversed}
use Rattle.ob_rules.specs.Declarations.{Contents, together, no_contents, Declared, Declaration, plain_of, procedure_of, type_name_of, in_order, headings_in_order, Written_procedure, procedure_judged, procedures_judged, with_bound, binding_at, block, declaration, target_of, import_declared, imports_declared, around_module, module_of, name_judged, described, all_described, typed_module, checked}
use Rattle.law_typing_forms.specs.Said.{IsOneOf}
use Rattle.law_typing_forms.proofs.Modules.{of_all}
use Rattle.law_typing_env.proofs.Shown.{one_joined, one_mapped}
use Rattle.law_names_distinct.specs.Named.{all_true, decl_named}
use Rattle.law_names_distinct.specs.Parts.{IsWord}
use Rattle.law_names_distinct.proofs.Fresh.{is_known}
use Rattle.law_names_distinct.proofs.Blocks.{unbroken_is}
use Rattle.law_names_distinct.proofs.Scopes.{IsOfName, IsPlaced, import_placed, order_placed, sequence_types}
use Rattle.law_names_types.specs.Once.{HasNoForward, AreQuiet}
use Rattle.law_names_types.proofs.Judged.{headings_quiet}
use Rattle.law_names_types.proofs.Plain.{headings_are_once}
use Rattle.law_names_types.proofs.Items.{IsAmong, all_at, all_of}
use Rattle.law_names_types.proofs.Steady.{sequence_steady}
use Rattle.law_names_types.proofs.DifferentHeads.{IsSound, headings_well}
use Rattle.law_names_types.proofs.Once.{among_reversed, plain_new}
use Rattle.law_names_types.proofs.Order.{HasFacts, headings_all}
use Rattle.law_names_compiled.proofs.Past.{ArePast, none_forward, order_past, imports_past}
use Rattle.law_builds_joint.proofs.Sequences.{IsObject, IsSequence, named_at, sequence_apart}
use Rattle.law_builds_joint.proofs.Words.{NoWord, headed_good, decls_good}
use Rattle.law_lists.proofs.Lists.{back_empty, both_empty}

none_of : {A : Type 0} (xs : List A) (x : A) → xs ≡ [] → IsOneOf xs x → ⊥
none_of xs x e i = subst (λ ys. IsOneOf ys x) e i

-- no constants and no variables, and these types
record HasOnlyTypes (c : Contents) : Type 0 where
  constants : c.constants ≡ []
  variables : c.variables ≡ []

no_object : (c : Contents) (x : List ℕ) → HasOnlyTypes c → IsObject c x → ⊥
no_object c x h (inl k) = none_of c.constants k.0 h.constants k.1.0
no_object c x h (inr v) = none_of c.variables v.0 h.variables v.1.0

object_either : (c e : Contents) (x : List ℕ) → IsObject (together c e) x → IsObject c x ⊎ IsObject e x
object_either c e x (inl k) = ⊎_elim (λ i. inl (inl (k.0, (i, k.1.1)))) (λ i. inr (inl (k.0, (i, k.1.1)))) (one_joined c.constants e.constants k.0 k.1.0)
object_either c e x (inr v) = ⊎_elim (λ i. inl (inr (v.0, (i, v.1.1)))) (λ i. inr (inr (v.0, (i, v.1.1)))) (one_joined c.variables e.variables v.0 v.1.0)

-- ---- imports, and procedures

imports_constants : (is : List Import) (u : Around) → (in_order (map (λ i. import_declared i (target_of i)) is) u).part.contents.constants ≡ []
imports_constants [] u = refl
imports_constants (i ∷ is) u = imports_constants is _

imports_variables : (is : List Import) (u : Around) → (in_order (map (λ i. import_declared i (target_of i)) is) u).part.contents.variables ≡ []
imports_variables [] u = refl
imports_variables (i ∷ is) u = imports_variables is _

imports_types : (is : List Import) (u : Around) → (in_order (map (λ i. import_declared i (target_of i)) is) u).part.contents.types ≡ []
imports_types [] u = refl
imports_types (i ∷ is) u = imports_types is _

judged_only : (u : Around) (p : Written_procedure) (h : Head) (f : Bool) → HasOnlyTypes (procedure_judged u p h f).contents
judged_only u p h true = record { constants = refl; variables = refl }
judged_only u p h false = record { constants = refl; variables = refl }

procedures_only : (u : Around) (ps : List Written_procedure) (hs : List Head) → HasOnlyTypes (procedures_judged u ps hs).contents
procedures_only u [] hs = record { constants = refl; variables = refl }
procedures_only u (p ∷ ps) [] = record { constants = refl; variables = refl }
procedures_only u (p ∷ ps) (h ∷ hs) =
    let a = procedure_judged u p h p.forward in
    let b = procedures_judged u ps hs in
    let k = judged_only u p h p.forward in
    let r = procedures_only u ps hs in
    record { constants = both_empty a.contents.constants b.contents.constants k.constants r.constants; variables = both_empty a.contents.variables b.contents.variables k.variables r.variables }

-- ---- headings

past_from : (n : ℕ) (ks : List Known) → list_all (λ (k : Known). not (leaves_room false k.what)) ks ≡ true → ArePast n ks
past_from n [] e = tt
past_from n (k ∷ ks) e =
    let p = and_parts (not (leaves_room false k.what)) (list_all (λ (k : Known). not (leaves_room false k.what)) ks) e in
    ((λ i. absurd (let bad : false ≡ true = sym (ap not i) ∙ p.0 in cc)), past_from n ks p.1)

reversed_length : {A : Type 0} (xs : List A) → length (reversed xs) ≡ length xs
reversed_length [] = refl
reversed_length (x ∷ xs) =
    let a = length-append (reversed xs) (x ∷ []) in
    let b = reversed_length xs in
    omega (arith, a, b)

headings_length : (ps : List Written_procedure) (hs : Heads) → length (headings_in_order ps hs).before ≡ length ps + length hs.before
headings_length [] hs = omega arith
headings_length (p ∷ ps) hs = let a = headings_length ps (add_heading hs p.heading p.forward) in omega (arith, a)

-- ---- a module

module _ (shown : QName → Option Desc) (name : Ident) (imports : List Import) (xs : List Decl) (named : all_true (map decl_named xs) ≡ true) (body : List Judging) (closing : Ident) (quiet : (module_of shown name imports (map declaration xs) body closing).notes.broken ≡ []) where
  abbrev ds : List Declaration
  ds = map declaration xs

  abbrev whole : Contents
  whole = (module_of shown name imports (map declaration xs) body closing).contents

  abbrev start : Declared
  start = imports_declared imports (around_module shown name.name (map declaration xs))

  abbrev begin : Around
  begin = record start.around { later_types = filter_map type_name_of (map declaration xs) }

  abbrev plain : Declared
  plain = in_order (filter_map plain_of (map declaration xs)) begin

  abbrev hs : Heads
  hs = headings_in_order (filter_map procedure_of (map declaration xs)) (record { around = plain.around; before = [] })

  abbrev w : Around
  w = with_bound hs.around (binding_at (is_module_level start.around) hs.around (reversed hs.before))

  abbrev P : Contents
  P = (procedures_judged w (filter_map procedure_of (map declaration xs)) (reversed hs.before)).contents

  quiet_block : (block (map declaration xs) body start.around).notes.broken ≡ []
  quiet_block = back_empty start.part.notes.broken (block (map declaration xs) body start.around).notes.broken (back_empty (name_judged name closing).broken (start.part.notes.broken ++ (block (map declaration xs) body start.around).notes.broken) quiet)

  headed : (plain.part.notes.broken ≡ []) × AllByRecursion NoWord P.types × ((procedures_judged w (filter_map procedure_of (map declaration xs)) (reversed hs.before)).notes.broken ≡ [])
  headed = headed_good (map declaration xs) (decls_good xs named) body start.around quiet_block

  apart : IsSequence begin plain
  apart = sequence_apart xs named begin

  imports_placed : IsPlaced (around_module shown name.name (map declaration xs)) start
  imports_placed = order_placed (map (λ i. import_declared i (target_of i)) imports) (placed imports) (around_module shown name.name (map declaration xs))
    where
      placed : (is : List Import) → AllByRecursion (λ f. (u : Around) → IsPlaced u (f u)) (map (λ i. import_declared i (target_of i)) is)
      placed [] = tt
      placed (i ∷ is) = (import_placed i (target_of i), placed is)

  path_is : start.around.path ≡ []
  path_is = imports_placed.path

  plain_placed : IsPlaced begin plain
  plain_placed = sequence_types xs named begin

  -- ---- the headings of the module

  past : ArePast start.around.scope start.around.known
  past = subst (λ n. ArePast n start.around.known) (sym imports_placed.scope) (order_past (map (λ i. import_declared i (target_of i)) imports) (imports_past imports) 1 (around_module shown name.name (map declaration xs)) (past_from 1 predeclared refl))

  no_forward : HasNoForward plain.around
  no_forward = (sequence_steady xs begin).forward (none_forward begin past)

  quiet_before : AreQuiet hs.before
  quiet_before =
      let ps = filter_map procedure_of (map declaration xs) in
      let a = headings_length ps (record { around = plain.around; before = [] }) in
      let b = reversed_length hs.before in
      let all = headings_quiet w ps (reversed hs.before) (omega (arith, a, b)) headed.2 in
      all_of (λ (h : Head). h.notes.broken ≡ []) hs.before (λ h i. all_at (λ (h : Head). h.notes.broken ≡ []) (reversed hs.before) all h (among_reversed hs.before h i))

  -- that of a procedure that is not bound is named by a word that was not known before
  pub head_new : (h : Head) → IsAmong h hs.before → (p : Parameters) → h.parameters ≡ Some p → h.bound ≡ None → IsWord h.path × (is_known plain.around h.path ≡ false)
  head_new h i p e n =
      let ps = filter_map procedure_of (map declaration xs) in
      let heads = headings_all plain.around ps (headings_well xs named) (record { around = plain.around; before = [] }) (record { unit = refl; path = refl; made = λ t i. inl i; heads = tt }) quiet_before in
      let facts = all_at (HasFacts hs.around) hs.before heads.heads h i in
      let sound : IsSound hs.around h None = subst (IsSound hs.around h) n (facts.sound p e) in
      let path : h.name ≡ h.path = sym (sound.is ∙ ap (λ q. q ++ h.name) (heads.path ∙ plain_placed.path ∙ path_is)) in
      let once = (headings_are_once plain.around no_forward ps quiet_before).1 in
      (subst IsWord path facts.word, ap (is_known plain.around) (sym path) ∙ plain_new plain.around hs.before once h i sound.flag)

  -- the constants and variables are those of the declarations
  object_plain : (x : List ℕ) → IsObject whole x → IsObject plain.part.contents x
  object_plain x o =
      ⊎_elim (λ k. absurd (no_object start.part.contents x (record { constants = imports_constants imports (around_module shown name.name (map declaration xs)); variables = imports_variables imports (around_module shown name.name (map declaration xs)) }) k))
      (λ k. ⊎_elim (λ j. j) (λ j. absurd (behind j)) (object_either plain.part.contents (together P no_contents) x k))
      (object_either start.part.contents (together plain.part.contents (together P no_contents)) x o)
    where
      behind : IsObject (together P no_contents) x → ⊥
      behind k = ⊎_elim (λ j. no_object P x (procedures_only w (filter_map procedure_of (map declaration xs)) (reversed hs.before)) j) (λ j. no_object no_contents x (record { constants = refl; variables = refl }) j) (object_either P no_contents x k)

  type_either : (t : TypedType) → IsOneOf whole.types t → IsOneOf plain.part.contents.types t ⊎ IsOneOf P.types t
  type_either t i =
      ⊎_elim (λ k. absurd (none_of start.part.contents.types t (imports_types imports (around_module shown name.name (map declaration xs))) k))
      (λ k. ⊎_elim (λ j. inl j) (λ j. ⊎_elim (λ r. inr r) (λ r. absurd r) (one_joined P.types [] t j)) (one_joined plain.part.contents.types (P.types ++ []) t k))
      (one_joined start.part.contents.types (plain.part.contents.types ++ (P.types ++ [])) t i)

  pub objects_apart : (x : List ℕ) → IsObject whole x → (t : TypedType) → IsOneOf whole.types t → t.name ≢ x
  objects_apart x o t i same =
      let k = object_plain x o in
      let word : IsWord t.name = subst IsWord (sym same) (apart.word x k) in
      ⊎_elim (λ j. apart.apart headed.0 path_is x k t j same) (λ j. of_all NoWord P.types t headed.1 j word) (type_either t i)

  -- a type that is named by a word is known behind the declarations
  pub word_known : (x : List ℕ) → IsWord x → (t : TypedType) → IsOneOf whole.types t → t.name ≡ x → is_known plain.around x ≡ true
  word_known x w' t i same =
      let word : IsWord t.name = subst IsWord (sym same) w' in
      ⊎_elim
      (λ j. ap (is_known plain.around) (sym same) ∙ (named_at begin.path begin plain.around t.name path_is (of_all (λ (z : TypedType). IsOfName begin.path begin plain.around z.name) plain.part.contents.types t (plain_placed.types headed.0).parts j) word).1)
      (λ j. absurd (of_all NoWord P.types t headed.1 j word))
      (type_either t i)

described_name : (o : Option TypedType) (t : TypedType) → (described o t).name ≡ t.name
described_name None t = refl
described_name (Some b) t = refl

-- a type with what is bound to it is one of those types
pub described_of : (bound ts : List TypedType) (t : TypedType) → IsOneOf (all_described bound ts) t → (s : TypedType) × (IsOneOf ts s × (s.name ≡ t.name))
described_of bound ts t i =
    let k = one_mapped (λ (y : TypedType). described (find (λ (b : TypedType). bytes_eq b.name y.name) bound) y) ts t i in
    (k.0, (k.1.0, sym (described_name (find (λ (b : TypedType). bytes_eq b.name k.0.name) bound) k.0) ∙ ap (λ (z : TypedType). z.name) k.1.1))

abbrev pub AreApart : TypedModule → Type 0
AreApart m = ((k : TypedConstant) → IsOneOf m.constants k → (t : TypedType) → IsOneOf m.types t → t.name ≢ k.name) × ((v : TypedVariable) → IsOneOf m.variables v → (t : TypedType) → IsOneOf m.types t → t.name ≢ v.name)

pub checked_apart : (shown : QName → Option Desc) (tree : Tree) (m : TypedModule) → all_true (map decl_named tree.decls) ≡ true → checked shown tree ≡ Some m → AreApart m
checked_apart shown tree m named e =
    let p = module_of shown tree.name tree.imports (map declaration tree.decls) (map judging tree.body) tree.closing in
    let u = unbroken_is p.notes.broken (typed_module shown tree.name tree.imports (map declaration tree.decls) p) m e in
    let apart = objects_apart shown tree.name tree.imports tree.decls named (map judging tree.body) tree.closing u.0 in
    subst AreApart u.1 (
      (λ k i t j same. let s = described_of p.contents.bound p.contents.types t j in apart k.name (inl (k, (i, refl))) s.0 s.1.0 (s.1.1 ∙ same)),
      (λ v i t j same. let s = described_of p.contents.bound p.contents.types t j in apart v.name (inr (v, (i, refl))) s.0 s.1.0 (s.1.1 ∙ same)),
    )
