-- What is said of a module.
use Rattle.std.proofs.Common.{◌≡◌, ℕ, Bool, true, false, List, [], ◌∷◌, Option, Some, None, map, refl, sym, ap, ◌∙◌}
use Rattle.ob_tree.specs.declared.ident.Ident.{Ident}
use Rattle.ob_tree.specs.declared.ident.Import.{Import}
use Rattle.ob_tree.specs.declared.decl.Module.{Module}
use Rattle.ob_tree.specs.declared.decl.Decl.{Decl}
use Rattle.ob_tree.specs.declared.stmt.Stmt.{Stmt}
use Rattle.ob_tree.specs.declared.names.QName.{QName}
use Rattle.ob_types.specs.declared.desc.Desc.{Desc}
use Rattle.ob_types.specs.declared.typed.TypedModule.{TypedModule}
use Rattle.ob_types.specs.declared.typed.TypedType.{TypedType}
use Rattle.ob_rules.specs.declared.broken.Broken.{Broken}
use Rattle.ob_rules.specs.declared.notes.Notebook.{Notebook}
use Rattle.ob_rules.specs.declared.entity.Known.{Known}
use Rattle.ob_rules.specs.declared.entity.Entity.{Entity}
use Rattle.ob_rules.specs.declared.entity.Coming.{Coming}
use Rattle.ob_rules.specs.Judged.{Notes, least, is_quiet, joined}
use Rattle.ob_rules.specs.Books.{book_after, empty_book}
use Rattle.ob_rules.specs.Names.{Around, found_in_scope}
use Rattle.ob_rules.specs.Types.{is_module_level, nothing}
use Rattle.ob_rules.specs.Declarations.{Part, if_unbroken, Contents, together, no_contents, name_judged, imports_declared, import_entity, is_system, target_of, declare_if, checked, first_break, deep_of, declaration, module_part, typed_module, imported, all_described}
use Rattle.ob_rules.specs.Depth.{is_deep}
use Rattle.ob_rules.proofs.BookLaws.{quiet_if, loud_if, after_joined}
use Rattle.ob_cdecl_scopes.specs.Scopes.{at_start, at_module}
use Rattle.ob_cdecl_scopes.proofs.Predeclaring.{predeclared_are}
use Rattle.ob_cdecl.specs.Order.{coming_within, one_import}
use Rattle.ob_cdecl.proofs.ImportLaws.{imports_nothing}
use Rattle.ob_cdecl_block.specs.Blocks.{block_of, unbound}
use Rattle.ob_cmodule.specs.Wholes.{around_start, module_within, module_parts, checked_as, described_types, tree_from}

start_with : (QName → Option Desc) → Module → List Known → Around
start_with shown m ks = record (at_start m.name.name shown) { known = ks; scope = 1; coming = coming_within m.decls }

pub starts : (shown : QName → Option Desc) (m : Module) (v w : Around) (cs : List Coming) → v ≡ at_module m.name.name shown → cs ≡ coming_within m.decls → w ≡ record v { coming = cs } → w ≡ around_start shown m
unfolding around_start start_with
starts shown m v w cs e f g =
    let F : List Coming → Around = λ x. record v { coming = x } in
    let G : Around → Around = λ x. record x { coming = coming_within m.decls } in
    g ∙ ap F f ∙ ap G e ∙ ap (start_with shown m) predeclared_are

pub level_start : (shown : QName → Option Desc) (m : Module) → is_module_level (around_start shown m) ≡ true
unfolding around_start
level_start shown m = refl

pub level_at : (shown : QName → Option Desc) (m : Module) (u : Around) → u ≡ around_start shown m → is_module_level u ≡ true
unfolding around_start
level_at shown m u e = ap is_module_level e

pub unit_at : (shown : QName → Option Desc) (m : Module) (u : Around) → u ≡ around_start shown m → u.unit ≡ m.name.name
unfolding around_start
unit_at shown m u e = ap (λ v. v.unit) e

pub shown_at : (shown : QName → Option Desc) (m : Module) (u : Around) → u ≡ around_start shown m → u.shown ≡ shown
unfolding around_start
shown_at shown m u e = ap (λ v. v.shown) e

pub tree_at : (shown : QName → Option Desc) (m : Module) (u : Around) (x : Option TypedModule) → u ≡ around_start shown m → x ≡ checked_as m (module_within m u) → x ≡ checked shown m
unfolding around_start
tree_at shown m u x e f = f ∙ ap (λ v. checked_as m (module_within m v)) e

pub broken_at : (shown : QName → Option Desc) (m : Module) (u : Around) (x : Option Broken) → u ≡ around_start shown m → x ≡ least (module_within m u).notes.broken → x ≡ first_break shown m
unfolding around_start
broken_at shown m u x e f = f ∙ ap (λ v. least (module_within m v).notes.broken) e

pub deep_at : (shown : QName → Option Desc) (m : Module) (u : Around) (x : Bool) → u ≡ around_start shown m → x ≡ is_deep (record u { own = described_types (module_within m u) }) → x ≡ deep_of shown m.name (map declaration m.decls) (module_part shown m)
unfolding around_start
deep_at shown m u x e f = f ∙ ap (λ v. is_deep (record v { own = described_types (module_within m v) })) e

-- THE CHECKED MODULE

pub unbroken : {A : Type 0} (bs : List Broken) (x : A) → None ≡ least bs → Some x ≡ if_unbroken bs x
unbroken bs x e = go bs (quiet_if bs e)
  where
    go : (cs : List Broken) → true ≡ is_quiet cs → Some x ≡ if_unbroken cs x
    go [] f = refl
    go (b ∷ cs) f = absurd cc

pub broken_is : {A : Type 0} (bs : List Broken) (b : Broken) (x : A) → Some b ≡ least bs → None ≡ if_unbroken bs x
broken_is bs b x e = go bs (loud_if bs b e)
  where
    go : (cs : List Broken) → false ≡ is_quiet cs → None ≡ if_unbroken cs x
    go [] f = absurd cc
    go (b ∷ cs) f = refl

pub least_in : (b : Notebook) (n : Notes) → b ≡ book_after empty_book n → b.broken ≡ least n.broken
unfolding book_after
least_in b n e = ap (λ x. x.broken) e

-- IMPORTS LEAVE THE PATH, AND ADD NOTHING

path_if : (o : Option Known) (u : Around) (x : Ident) (e : Entity) → (declare_if o u x e).path ≡ u.path
path_if None u x e = refl
path_if (Some k) u x e = refl

imports_path : (is : List Import) (u : Around) → (imports_declared is u).around.path ≡ u.path
imports_path [] u = refl
imports_path (i ∷ is) u =
    imports_path is (one_import i u).around
    ∙ path_if (found_in_scope u i.ident.name) u i.ident (import_entity (is_system (target_of i).name) (target_of i))

pub imports_level : (is : List Import) (u v : Around) → v ≡ (imports_declared is u).around → is_module_level u ≡ true → is_module_level v ≡ true
imports_level is u v e h = ap is_module_level e ∙ ap nothing (imports_path is u) ∙ h

abbrev block_behind : List Import → List Decl → List Stmt → Around → Part
block_behind is ds ss u = block_of ds ss (imports_declared is u).around

adds_within : (x y : Ident) (is : List Import) (ds : List Decl) (ss : List Stmt) (u : Around) → unbound (block_behind is ds ss u).contents ≡ unbound (module_parts x y is ds ss u).contents
adds_within x y is ds ss u = ap (λ c. unbound (together no_contents (together c (block_behind is ds ss u).contents))) (sym (imports_nothing is u))

bound_within : (x y : Ident) (is : List Import) (ds : List Decl) (ss : List Stmt) (u : Around) → (block_behind is ds ss u).contents.bound ≡ (module_parts x y is ds ss u).contents.bound
bound_within x y is ds ss u = ap (λ c. (together no_contents (together c (block_behind is ds ss u).contents)).bound) (sym (imports_nothing is u))

pub within_added : (x y : Ident) (is : List Import) (ds : List Decl) (ss : List Stmt) (u w : Around) (a b : Contents) → w ≡ (imports_declared is u).around → b ≡ together a (unbound (block_of ds ss w).contents) → b ≡ together a (unbound (module_parts x y is ds ss u).contents)
within_added x y is ds ss u w a b e f = f ∙ ap (λ v. together a (unbound (block_of ds ss v).contents)) e ∙ ap (together a) (adds_within x y is ds ss u)

pub within_own : (x y : Ident) (is : List Import) (ds : List Decl) (ss : List Stmt) (u w : Around) (ts : List TypedType) → w ≡ (imports_declared is u).around → ts ≡ (block_of ds ss w).contents.bound → ts ≡ (module_parts x y is ds ss u).contents.bound
within_own x y is ds ss u w ts e f = f ∙ ap (λ v. (block_of ds ss v).contents.bound) e ∙ bound_within x y is ds ss u

pub within_noted : (x y : Ident) (is : List Import) (ds : List Decl) (ss : List Stmt) (u w : Around) (a b c d : Notebook) → w ≡ (imports_declared is u).around → b ≡ book_after a (name_judged x y) → c ≡ book_after b (imports_declared is u).part.notes → d ≡ book_after c (block_of ds ss w).notes → d ≡ book_after a (module_parts x y is ds ss u).notes
within_noted x y is ds ss u w a b c d e f g h =
    let i = imports_declared is u in
    let n = name_judged x y in
    let k = (block_of ds ss i.around).notes in
    h ∙ ap (λ v. book_after c (block_of ds ss v).notes) e
    ∙ ap (λ v. book_after v k) (g ∙ ap (λ v. book_after v i.part.notes) f)
    ∙ after_joined (book_after a n) i.part.notes k
    ∙ after_joined a n (joined i.part.notes k)

-- THE TREE OF A MODULE

tree_parts : (m : Module) (p : Part) → tree_from m.name.name (imported [] m.imports) (described_types p) (unbound p.contents) (book_after empty_book p.notes) ≡ typed_module (λ q. None) m.name m.imports [] p
unfolding book_after
tree_parts m p = refl

tree_is : (m : Module) (p : Part) (is : List (List ℕ)) (ts : List TypedType) (c : Contents) (b : Notebook) → is ≡ imported [] m.imports → ts ≡ described_types p → c ≡ unbound p.contents → b ≡ book_after empty_book p.notes → tree_from m.name.name is ts c b ≡ typed_module (λ q. None) m.name m.imports [] p
tree_is m p is ts c b e f g h =
    ap (λ x. tree_from m.name.name x ts c b) e
    ∙ ap (λ x. tree_from m.name.name (imported [] m.imports) x c b) f
    ∙ ap (λ x. tree_from m.name.name (imported [] m.imports) (described_types p) x b) g
    ∙ ap (λ x. tree_from m.name.name (imported [] m.imports) (described_types p) (unbound p.contents) x) h
    ∙ tree_parts m p

-- the tree, where it is known what is said of the module
pub tree_checked : (m : Module) (p : Part) (is : List (List ℕ)) (ts : List TypedType) (c : Contents) (b : Notebook) (t : TypedModule) (o : Option TypedModule) → is ≡ imported [] m.imports → t ≡ tree_from m.name.name is ts c b → ((bs : List Broken) → b.broken ≡ least bs → o ≡ if_unbroken bs t) → ts ≡ described_types p → c ≡ unbound p.contents → b ≡ book_after empty_book p.notes → o ≡ checked_as m p
tree_checked m p is ts c b t o e d k f g h = k p.notes.broken (least_in b p.notes h) ∙ ap (if_unbroken p.notes.broken) (d ∙ tree_is m p is ts c b e f g h)

-- WHAT A MODULE COMES TO

alone : (c : Contents) → together no_contents (unbound c) ≡ unbound c
alone c = refl

pub only_contents : (c d e : Contents) → d ≡ no_contents → e ≡ together d (unbound c) → e ≡ unbound c
only_contents c d e f g = g ∙ ap (λ x. together x (unbound c)) f ∙ alone c

pub described_all : (p : Part) (own here ts : List TypedType) (c : Contents) → own ≡ p.contents.bound → c ≡ unbound p.contents → here ≡ c.types → ts ≡ all_described own here → ts ≡ described_types p
described_all p own here ts c e f g h = h ∙ ap (λ x. all_described x here) e ∙ ap (all_described p.contents.bound) (g ∙ ap (λ x. x.types) f)

pub only_book : (n : Notes) (a b : Notebook) → a ≡ empty_book → b ≡ book_after a n → b ≡ book_after empty_book n
only_book n a b e f = f ∙ ap (λ x. book_after x n) e
