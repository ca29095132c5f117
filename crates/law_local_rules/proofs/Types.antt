-- Each type that bound procedures are bound to has the name of a type that the module makes.
use Rattle.std.proofs.Common.{◌≡◌, ℕ, Bool, true, List, [], ◌∷◌, ◌++◌, map, Option, Some, None, refl, sym, ap, ◌∙◌, cond}
use Rattle.std.specs.Prelude.{◌≢◌, ◌||◌, bytes_eq}
use Rattle.std.specs.List.{AllByRecursion, find, list_any}
use Rattle.ob_tree.specs.declared.names.QName.{QName}
use Rattle.ob_tree.specs.declared.decl.Module.{Module as Tree}
use Rattle.ob_types.specs.declared.types.TypeRef.{TypeRef}
use Rattle.ob_types.specs.declared.types.TypeRef.TheVariants as ref
use Rattle.ob_types.specs.declared.desc.Desc.{Desc}
use Rattle.ob_types.specs.declared.typed.TypedType.{TypedType}
use Rattle.ob_types.specs.Maps.{named_by}
use Rattle.ob_rules.specs.Shapes.{Map}
use Rattle.ob_rules.specs.Names.{Around, own_desc, predeclared}
use Rattle.ob_rules.specs.Statements.{judging}
use Rattle.ob_rules.specs.Declarations.{Part, Declared, declaration, import_declared, target_of, imports_declared, around_module, block, described, all_described}
use Rattle.law_names_distinct.specs.Distinct.{AreDistinct}
use Rattle.law_local_judged.specs.Agreement.{IsIn, AreIn}
use Rattle.law_local_uses.proofs.Bodies.{stmts_ok}
use Rattle.law_local_uses.specs.Held.{AreHeld, SaysShown}
use Rattle.law_local_uses.proofs.Around.{Given, AreKnown, Fine, there}
use Rattle.law_local_uses.proofs.Heads.{There, AreThere}
use Rattle.law_local_uses.proofs.Blocks.{order_good, imports_good, decls_good, block_ok}
use Rattle.law_lists.proofs.Lists.{all_back, all_front, bytes_itself, differ_false, or_second}

-- ---- the first type of each name

-- a type of this name is among them
abbrev pub has_name : List TypedType → List ℕ → Bool
has_name ts x = list_any (λ t. bytes_eq x t.name) ts

abbrev map_by : List ℕ → List TypedType → (QName → Option Desc) → Map
map_by unit ts shown q = cond (bytes_eq q.«module» unit) (own_desc (find (λ t. bytes_eq t.name q.object) ts)) (shown q)

abbrev IsFound : List TypedType → TypedType → Type 0
IsFound ts t = find (λ s. bytes_eq s.name t.name) ts ≡ Some t

found_behind : (s : TypedType) (ts us : List TypedType) → AllByRecursion (λ y. y.name ≢ s.name) us → AllByRecursion (IsFound ts) us → AllByRecursion (IsFound (s ∷ ts)) us
found_behind s ts [] d h = tt
found_behind s ts (u ∷ us) d h = (
  ap (λ b. cond b (Some s) (find (λ x. bytes_eq x.name u.name) ts)) (differ_false s.name u.name (λ e. d.0 (sym e))) ∙ h.0,
  found_behind s ts us d.1 h.1,
)

all_found : (ts : List TypedType) → AreDistinct (λ t. t.name) ts → AllByRecursion (IsFound ts) ts
all_found [] d = tt
all_found (t ∷ ts) d = (ap (λ b. cond b (Some t) (find (λ x. bytes_eq x.name t.name) ts)) (bytes_itself t.name), found_behind t ts ts d.0 (all_found ts d.1))

pub described_name : (o : Option TypedType) (t : TypedType) → (described o t).name ≡ t.name
described_name None t = refl
described_name (Some b) t = refl

others_back : (bound : List TypedType) (x y : List ℕ) → x ≡ y → (ts : List TypedType) → AllByRecursion (λ s. s.name ≢ x) (all_described bound ts) → AllByRecursion (λ s. s.name ≢ y) ts
others_back bound x y e [] h = tt
others_back bound x y e (t ∷ ts) h = (λ i. h.0 (described_name (find (λ b. bytes_eq b.name t.name) bound) t ∙ i ∙ sym e), others_back bound x y e ts h.1)

-- names that differ with the bound procedures differ without
pub distinct_back : (bound ts : List TypedType) → AreDistinct (λ t. t.name) (all_described bound ts) → AreDistinct (λ t. t.name) ts
distinct_back bound [] h = tt
distinct_back bound (t ∷ ts) h = (others_back bound (described (find (λ b. bytes_eq b.name t.name) bound) t).name t.name (described_name (find (λ b. bytes_eq b.name t.name) bound) t) ts h.0, distinct_back bound ts h.1)

name_behind : (s : TypedType) (ts us : List TypedType) → AllByRecursion (λ t. has_name ts t.name ≡ true) us → AllByRecursion (λ t. has_name (s ∷ ts) t.name ≡ true) us
name_behind s ts [] h = tt
name_behind s ts (u ∷ us) h = (or_second (bytes_eq u.name s.name) (has_name ts u.name) h.0, name_behind s ts us h.1)

all_names : (ts : List TypedType) → AllByRecursion (λ t. has_name ts t.name ≡ true) ts
all_names [] = tt
all_names (t ∷ ts) = (ap (λ b. b || has_name ts t.name) (bytes_itself t.name), name_behind t ts ts (all_names ts))

-- ---- all is held

abbrev pub Anywhere : QName → Type 0
Anywhere q = Unit {0}

type_anywhere : (t : TypeRef) → IsIn Anywhere t
type_anywhere (ref.Basic b) = tt
type_anywhere (ref.Named q) = tt

pub all_anywhere : (ts : List TypeRef) → AreIn Anywhere ts
all_anywhere [] = tt
all_anywhere (t ∷ ts) = (type_anywhere t, all_anywhere ts)

pub anywhere : (q : QName) → Anywhere q
anywhere q = tt

module _ (shown : QName → Option Desc) (tree : Tree) where
  abbrev start : Around
  start = around_module shown tree.name.name (map declaration tree.decls)

  abbrev imports : Declared
  imports = imports_declared tree.imports (around_module shown tree.name.name (map declaration tree.decls))

  abbrev pub whole : Part
  whole = block (map declaration tree.decls) (map judging tree.body) (imports_declared tree.imports (around_module shown tree.name.name (map declaration tree.decls))).around

  -- the types that the module makes
  abbrev pub made : List TypedType
  made = imports.part.contents.types ++ whole.contents.types

  all_held : AreHeld shown tree.name.name Anywhere
  all_held = record { own = λ x. tt; exports = λ q d e. (tt, all_anywhere (named_by d)); out = tt }

  says_shown : (ts : List TypedType) → SaysShown (map_by tree.name.name ts shown) tree.name.name shown
  says_shown ts q d e i = (d, (ap (λ b. cond b (own_desc (find (λ t. bytes_eq t.name q.object) ts)) (shown q)) e ∙ i, refl))

  abbrev given : List TypedType → Given
  given ts = record { unit = tree.name.name; shown = shown; map = map_by tree.name.name ts shown; Own = λ q. has_name ts q.object ≡ true; Held = Anywhere; held = all_held; says = says_shown ts }

  by_name : (ts : List TypedType) (t : TypedType) → IsFound ts t → map_by tree.name.name ts shown (record { «module» = tree.name.name; object = t.name }) ≡ Some t.desc
  by_name ts t e = ap (λ b. cond b (own_desc (find (λ s. bytes_eq s.name t.name) ts)) (shown (record { «module» = tree.name.name; object = t.name }))) (bytes_itself tree.name.name) ∙ ap own_desc e

  all_there : (ts us : List TypedType) → AllByRecursion (IsFound ts) us → AllByRecursion (λ t. has_name ts t.name ≡ true) us → AreThere (given ts) us
  all_there ts [] h k = tt
  all_there ts (t ∷ us) h k = (record { says = (t.desc, (by_name ts t h.0, refl)); own = k.0 }, all_there ts us h.1 k.1)

  known_anywhere : AreKnown (given made) predeclared
  known_anywhere = (tt, (tt, (tt, (tt, (tt, (tt, (tt, (tt, (tt, (tt, (tt, (tt, (tt, (tt, (tt, (tt, (tt, (tt, (tt, (tt, (tt, (tt, (tt, (tt, (tt, (tt, (tt, (tt, (tt, (tt, (tt, tt)))))))))))))))))))))))))))))))

  named : (us : List TypedType) → AreThere (given made) us → AllByRecursion (λ t. has_name made t.name ≡ true) us
  named [] h = tt
  named (t ∷ us) h = (h.0.own, named us h.1)

  -- THE TYPES with their bound procedures
  pub bound_named : whole.notes.broken ≡ [] → AreDistinct (λ t. t.name) made → AllByRecursion (λ t. has_name made t.name ≡ true) whole.contents.bound
  bound_named e differ =
      let g : Given = given made in
      let all = all_there made made (all_found made differ) (all_names made) in
      let f : Fine g start = record { unit = refl; shown = refl; own = tt; known = known_anywhere; guards = refl; receiver = λ r e. absurd cc } in
      let d = order_good g (map (λ i. import_declared i (target_of i)) tree.imports) (imports_good g tree.imports) start f in
      let own = d.own tt (all_front (There g) imports.part.contents.types whole.contents.types all) in
      let b = block_ok g (map declaration tree.decls) (decls_good g tree.decls) (map judging tree.body) (stmts_ok (there g) tree.body) imports.around d.around own e (all_back (There g) imports.part.contents.types whole.contents.types all) in
      named whole.contents.bound b.contents.bound.1
