-- Checked modules are tied to the types that they name, all of which are held.
use Rattle.std.proofs.Common.{◌≡◌, ℕ, true, List, [], ◌∷◌, ◌++◌, map, Option, Some, None, refl, sym, ap, ◌∙◌, subst, cond}
use Rattle.std.specs.Prelude.{◌≢◌, ◌||◌, bytes_eq}
use Rattle.std.specs.List.{AllByRecursion, find}
use Rattle.std.proofs.lemmas.Slice.Eq.{bytes_eq-Decides}
use Rattle.ob_tree.specs.declared.names.QName.{QName}
use Rattle.ob_tree.specs.declared.ident.Import.{Import}
use Rattle.ob_tree.specs.declared.decl.Module.{Module as Tree}
use Rattle.ob_types.specs.declared.desc.Desc.{Desc}
use Rattle.ob_types.specs.declared.typed.TypedType.{TypedType}
use Rattle.ob_types.specs.declared.typed.TypedModule.{TypedModule}
use Rattle.ob_rules.specs.declared.broken.Rule.TheVariants as rule
use Rattle.ob_rules.specs.Judged.{notes_if}
use Rattle.ob_rules.specs.Shapes.{Map}
use Rattle.ob_rules.specs.Names.{Around, own_desc, predeclared, is_out}
use Rattle.ob_rules.specs.Statements.{judging}
use Rattle.ob_rules.specs.Declarations.{Part, with_part, Declared, declaration, is_system, closing_judged, only_notes, in_order, import_declared, target_of, imports_declared, around_module, name_judged, module_of, block, checked, typed_module, described, all_described}
use Rattle.law_names_distinct.specs.Distinct.{AreDistinct}
use Rattle.law_names_distinct.proofs.Blocks.{unbroken_is}
use Rattle.law_local_uses.specs.Settled.{core, Says}
use Rattle.law_local_uses.proofs.Statements.{stmts_named}
use Rattle.law_local_uses.proofs.Bodies.{stmts_ok}
use Rattle.law_local_uses.specs.Held.{AreHeld, IsThere, SaysShown, ModuleHeld}
use Rattle.law_local_uses.specs.HeldLaws.{ModulesAreTied}
use Rattle.law_local_uses.proofs.Around.{Given, Named, AreNamed, AreKnown, Fine, there, found_has}
use Rattle.law_local_uses.proofs.Quiet.{if_names, both_name, closing_names}
use Rattle.law_local_uses.proofs.Heads.{There, AreThere}
use Rattle.law_local_uses.proofs.Blocks.{PartOk, part_both, order_good, imports_good, decls_good, block_ok}
use Rattle.law_lists.proofs.Lists.{IfThere, back_empty, bytes_itself, differ_false}

-- ---- the parts of a module

predeclared_known : (g : Given) → AreKnown g predeclared
predeclared_known g = (tt, (tt, (tt, (tt, (tt, (tt, (tt, (tt, (tt, (tt, (tt, (tt, (tt, (tt, (tt, (tt, (tt, (tt, (tt, (tt, (tt, (tt, (tt, (tt, (tt, (tt, (tt, (tt, (tt, (tt, (tt, tt)))))))))))))))))))))))))))))))

import_types : (is : List Import) (u : Around) → (in_order (map (λ i. import_declared i (target_of i)) is) u).part.contents.types ≡ []
import_types [] u = refl
import_types (i ∷ is) u = import_types is _

module _ (shown : QName → Option Desc) (tree : Tree) where
  abbrev part : Part
  part = module_of shown tree.name tree.imports (map declaration tree.decls) (map judging tree.body) tree.closing

  abbrev start : Around
  start = around_module shown tree.name.name (map declaration tree.decls)

  abbrev imports : Declared
  imports = imports_declared tree.imports start

  abbrev whole : Part
  whole = block (map declaration tree.decls) (map judging tree.body) imports.around

  parts_ok : (g : Given) → tree.name.name ≡ g.unit → shown ≡ g.shown → part.notes.broken ≡ [] → AreThere g part.contents.types → PartOk g part
  parts_ok g unit i e t =
      let f : Fine g start = record { unit = unit; shown = i; own = tt; known = predeclared_known g; guards = refl; receiver = λ r e. absurd cc } in
      let d = order_good g (map (λ i. import_declared i (target_of i)) tree.imports) (imports_good g tree.imports) start f in
      let own = d.own tt (subst (AreThere g) (sym (import_types tree.imports start)) tt) in
      let behind = back_empty (name_judged tree.name tree.closing).broken (imports.part.notes.broken ++ whole.notes.broken) e in
      let quiet = back_empty imports.part.notes.broken whole.notes.broken behind in
      let types = subst (λ ts. AreThere g (ts ++ whole.contents.types)) (import_types tree.imports start) t in
      let b = block_ok g (map declaration tree.decls) (decls_good g tree.decls) (map judging tree.body) (stmts_ok (there g) tree.body) imports.around d.around own quiet types in
      part_both g (only_notes (name_judged tree.name tree.closing)) (with_part imports.part whole) (record { contents = record { types = tt; variables = tt; procedures = tt; body = tt; bound = (tt, tt) }; notes = both_name g (notes_if (is_out tree.name.name || is_system tree.name.name) rule.ReservedModule tree.name.pos) (closing_judged tree.name.name (Some tree.closing)) (if_names g (is_out tree.name.name || is_system tree.name.name) rule.ReservedModule tree.name.pos) (closing_names g tree.name.name (Some tree.closing)) }) (part_both g imports.part whole d.part b)

-- ---- types with the bound procedures that they introduce

described_named : (g : Given) (o : Option TypedType) → IfThere (Named g) o → (t : TypedType) → Named g t → Named g (described o t)
described_named g None h t k = k
described_named g (Some b) h t k = h

all_named : (g : Given) (bound : List TypedType) → AreNamed g bound → (ts : List TypedType) → AreNamed g ts → AreNamed g (all_described bound ts)
all_named g bound b [] h = tt
all_named g bound b (t ∷ ts) h = (described_named g (find (λ b. bytes_eq b.name t.name) bound) (named_found bound b) t h.0, all_named g bound b ts h.1)
  where
    drop_test : (o : Option TypedType) → IfThere (λ x. Named g x × (bytes_eq x.name t.name ≡ true)) o → IfThere (Named g) o
    drop_test None h = tt
    drop_test (Some x) h = h.0

    named_found : (bound : List TypedType) → AreNamed g bound → IfThere (Named g) (find (λ b. bytes_eq b.name t.name) bound)
    named_found bound b = drop_test (find (λ b. bytes_eq b.name t.name) bound) (found_has (Named g) (λ b. bytes_eq b.name t.name) bound b)

-- ---- the map of types whose names differ

-- the first of that name, of the module; what is shown of others
abbrev map_by : List ℕ → List TypedType → (QName → Option Desc) → Map
map_by unit ts shown q = cond (bytes_eq q.«module» unit) (own_desc (find (λ t. bytes_eq t.name q.object) ts)) (shown q)

-- a type is found by its name
abbrev IsFound : List TypedType → TypedType → Type 0
IsFound ts t = find (λ s. bytes_eq s.name t.name) ts ≡ Some t

found_behind : (s : TypedType) (ts us : List TypedType) → AllByRecursion (λ y. y.name ≢ s.name) us → AllByRecursion (IsFound ts) us → AllByRecursion (IsFound (s ∷ ts)) us
found_behind s ts [] d h = tt
found_behind s ts (u ∷ us) d h = (
  ap (λ b. cond b (Some s) (find (λ x. bytes_eq x.name u.name) ts)) (differ_false s.name u.name (λ e. d.0 (sym e))) ∙ h.0,
  found_behind s ts us d.1 h.1,
)

all_found : (ts : List TypedType) → AreDistinct (λ t. t.name) ts → AllByRecursion (IsFound ts) ts
all_found [] d = tt
all_found (t ∷ ts) d = (ap (λ b. cond b (Some t) (find (λ x. bytes_eq x.name t.name) ts)) (bytes_itself t.name), found_behind t ts ts d.0 (all_found ts d.1))

described_name : (o : Option TypedType) (t : TypedType) → (described o t).name ≡ t.name
described_name None t = refl
described_name (Some b) t = refl

-- names that differ with the bound procedures differ without
others_back : (bound : List TypedType) (x y : List ℕ) → x ≡ y → (ts : List TypedType) → AllByRecursion (λ s. s.name ≢ x) (all_described bound ts) → AllByRecursion (λ s. s.name ≢ y) ts
others_back bound x y e [] h = tt
others_back bound x y e (t ∷ ts) h = (λ i. h.0 (described_name (find (λ b. bytes_eq b.name t.name) bound) t ∙ i ∙ sym e), others_back bound x y e ts h.1)

distinct_back : (bound ts : List TypedType) → AreDistinct (λ t. t.name) (all_described bound ts) → AreDistinct (λ t. t.name) ts
distinct_back bound [] h = tt
distinct_back bound (t ∷ ts) h = (others_back bound (described (find (λ b. bytes_eq b.name t.name) bound) t).name t.name (described_name (find (λ b. bytes_eq b.name t.name) bound) t) ts h.0, distinct_back bound ts h.1)

-- ---- what the types are for themselves

module _ (shown : QName → Option Desc) (unit : List ℕ) (Held : QName → Type 0) (held : AreHeld shown unit Held) (ts : List TypedType) (differ : AreDistinct (λ t. t.name) ts) where
  says_shown : SaysShown (map_by unit ts shown) unit shown
  says_shown q d e i = (d, (ap (λ b. cond b (own_desc (find (λ t. bytes_eq t.name q.object) ts)) (shown q)) e ∙ i, refl))

  -- the module by itself
  abbrev itself : Given
  itself = record { unit = unit; shown = shown; map = map_by unit ts shown; Own = λ q. Unit {0}; Held = Held; held = held; says = says_shown }

  by_itself : (t : TypedType) (o : Option TypedType) → find (λ s. bytes_eq s.name t.name) ts ≡ o → map_by unit ts shown (record { «module» = unit; object = t.name }) ≡ own_desc o
  by_itself t o e = ap (λ b. cond b (own_desc (find (λ s. bytes_eq s.name t.name) ts)) (shown (record { «module» = unit; object = t.name }))) (bytes_itself unit) ∙ ap own_desc e

  all_there : (us : List TypedType) → AllByRecursion (IsFound ts) us → AreThere itself us
  all_there [] h = tt
  all_there (t ∷ us) h = (record { says = (t.desc, (by_itself t (Some t) h.0, refl)); own = tt }, all_there us h.1)

  some_desc : (d e : Desc) → Some d ≡ Some e → d ≡ e
  some_desc d e i = cc

  -- one that is bound says the same of a type
  bound_core : (t b : TypedType) → IsFound ts t → There itself b → b.name ≡ t.name → core b.desc ≡ core t.desc
  bound_core t b h k e =
      let s : Says (map_by unit ts shown) (record { «module» = unit; object = t.name }) b.desc = subst (λ (x : List ℕ). Says (map_by unit ts shown) (record { «module» = unit; object = x }) b.desc) e k.says in
      let same : s.0 ≡ t.desc = some_desc s.0 t.desc (sym s.1.0 ∙ by_itself t (Some t) h) in
      sym s.1.1 ∙ ap core same

  module _ (g : Given) (bound : List TypedType) (there : AreThere itself bound) where
    described_back : (t : TypedType) → IsFound ts t → (o : Option TypedType) → IfThere (λ b. There itself b × (bytes_eq b.name t.name ≡ true)) o → There g (described o t) → There g t
    described_back t h None k r = r
    described_back t h (Some b) k r = record { says = (r.says.0, (r.says.1.0, r.says.1.1 ∙ bound_core t b h k.0 ((bytes_eq-Decides b.name t.name).0 k.1))); own = r.own }

    all_back : (us : List TypedType) → AllByRecursion (IsFound ts) us → AreThere g (all_described bound us) → AreThere g us
    all_back [] h r = tt
    all_back (t ∷ us) h r = (described_back t h.0 (find (λ b. bytes_eq b.name t.name) bound) (found_has (There itself) (λ b. bytes_eq b.name t.name) bound there) r.0, all_back us h.1 r.1)

-- ---- THE LAW, of any names that are held and any types of the module

pub module_tied : (shown : QName → Option Desc) (map_ : Map) (tree : Tree) (m : TypedModule) → checked shown tree ≡ Some m → AreDistinct (λ t. t.name) m.types
    → (Own Held : QName → Type 0) → AreHeld shown m.name Held → SaysShown map_ m.name shown → AllByRecursion (IsThere map_ Own m.name) m.types → ModuleHeld map_ Own Held m
module_tied shown map_ tree m e differ Own Held held says here =
    let p = part shown tree in
    let x = typed_module shown tree.name tree.imports (map declaration tree.decls) p in
    let k = unbroken_is p.notes.broken x m e in
    let unit = tree.name.name in
    let ts = p.contents.types in
    let bound = p.contents.bound in
    let differ' = distinct_back bound ts (subst (λ (y : TypedModule). AreDistinct (λ t. t.name) y.types) (sym k.1) differ) in
    let held' = subst (λ (y : TypedModule). AreHeld shown y.name Held) (sym k.1) held in
    let g : Given = record { unit = unit; shown = shown; map = map_; Own = Own; Held = Held; held = held'; says = subst (λ (y : TypedModule). SaysShown map_ y.name shown) (sym k.1) says } in
    let own : Given = itself shown unit Held held' ts differ' in
    let found = all_found ts differ' in
    let first : PartOk own p = parts_ok shown tree own refl refl k.0 (all_there shown unit Held held' ts differ' ts found) in
    let back : AreThere g ts = all_back shown unit Held held' ts differ' g bound first.contents.bound.1 ts found (subst (λ (y : TypedModule). AllByRecursion (IsThere map_ Own y.name) y.types) (sym k.1) here) in
    let second : PartOk g p = parts_ok shown tree g refl refl k.0 back in
    let b = stmts_named (there g) p.contents.body second.contents.body in
    subst (ModuleHeld map_ Own Held) k.1
    (record {
      types = all_named g bound second.contents.bound.0 ts second.contents.types;
      variables = second.contents.variables;
      procedures = second.contents.procedures;
      body = record { tied = b.0; held = b.1 };
      objects = second.notes.0;
      named = second.notes.1;
      lengths = second.notes.2;
    })

pub modules_are_tied : ModulesAreTied
modules_are_tied shown map tree m e differ own held h s r = module_tied shown map tree m e differ (λ q. own q ≡ true) (λ q. held q ≡ true) h s r
