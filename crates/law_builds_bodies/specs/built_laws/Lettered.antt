-- Modules whose procedures, parameters and variables have the names of a text.
use Rattle.std.specs.Prelude.{◌≡◌, ℕ, Bool, true, false, not, ◌&&◌, ◌==◌, List, [], ◌∷◌, map, Option, Some, None, Ok}
use Rattle.std.specs.List.{list_all}
use Rattle.ob_tree.specs.declared.ident.Ident.{Ident}
use Rattle.ob_tree.specs.declared.ident.IdentDef.{IdentDef}
use Rattle.ob_tree.specs.declared.decl.Receiver.{Receiver}
use Rattle.ob_tree.specs.declared.decl.Heading.{Heading}
use Rattle.ob_tree.specs.declared.decl.Decl.{Decl}
use Rattle.ob_tree.specs.declared.decl.Decl.TheOpen.{Decl-F}
use Rattle.ob_tree.specs.declared.decl.Decl.TheFolds.{fold-Decl}
use Rattle.ob_tree.specs.declared.decl.Module.{Module as Tree}
use Rattle.ob_parse_grammar.specs.TextReading.{reading}
use Rattle.ob_rules.specs.Types.{WrittenSection, written_parameters}
use Rattle.law_typing.specs.Spelled.{all_true}

-- a name that is not empty, and does not begin with 0 as do those under which FOR and CASE keep values
abbrev pub is_lettered : List ℕ → Bool
is_lettered [] = false
is_lettered (c ∷ x) = not (c == 0)

abbrev pub receiver_lettered : Option Receiver → Bool
receiver_lettered None = true
receiver_lettered (Some r) = is_lettered r.ident.name

abbrev pub section_lettered : WrittenSection → Bool
section_lettered s = list_all (λ (x : Ident). is_lettered x.name) s.names

-- a procedure, its receiver and its parameters
abbrev pub heading_lettered : Heading → Bool
heading_lettered h = is_lettered h.name.ident.name && (receiver_lettered h.receiver && list_all section_lettered (written_parameters h.parameters).sections)

abbrev pub decl_layer : Decl-F Bool → Bool
decl_layer (Decl-F.Constant d x) = true
decl_layer (Decl-F.NamedType d n) = true
decl_layer (Decl-F.Variables ds n) = list_all (λ (d : IdentDef). is_lettered d.ident.name) ds
decl_layer (Decl-F.Procedure h ds body closing) = heading_lettered h && all_true ds
decl_layer (Decl-F.Forward h) = heading_lettered h

abbrev pub decl_lettered : Decl → Bool
decl_lettered = fold-Decl Bool decl_layer

abbrev pub tree_lettered : Tree → Bool
tree_lettered m = all_true (map decl_lettered m.decls)

-- THE NAMES of what is read are such.
abbrev pub ReadingsAreLettered : Type 0
ReadingsAreLettered = (text : List ℕ) (tree : Tree) → reading text ≡ Ok tree → tree_lettered tree ≡ true
