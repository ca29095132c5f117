-- The places of FOR and CASE in a module that is read.
use Rattle.std.specs.Prelude.{◌≡◌, ℕ, Bool, true, ◌&&◌, ◌||◌, nat_lt, nat_eq, List, [], ◌∷◌, map, Ok}
use Rattle.ob_tree.specs.declared.pos.Pos.{Pos}
use Rattle.ob_tree.specs.declared.stmt.Stmt.{Stmt}
use Rattle.ob_tree.specs.declared.decl.Decl.{Decl}
use Rattle.ob_tree.specs.declared.decl.Decl.TheOpen.{Decl-F}
use Rattle.ob_tree.specs.declared.decl.Decl.TheFolds.{fold-Decl}
use Rattle.ob_tree.specs.declared.decl.Module.{Module as Tree}
use Rattle.ob_parse_grammar.specs.TextReading.{reading}
use Rattle.law_typing.specs.Spelled.{all_true}
use Rattle.law_typing.specs.Bodies.{in_all, hidden_places}

-- one place stands before another in the text
abbrev pub is_before : Pos → Pos → Bool
is_before p q = nat_lt p.line q.line || (nat_eq p.line q.line && nat_lt p.col q.col)

-- each stands before the next, the first of them behind that one
abbrev pub rise_behind : Pos → List Pos → Bool
rise_behind p [] = true
rise_behind p (q ∷ qs) = is_before p q && rise_behind q qs

abbrev pub are_rising : List Pos → Bool
are_rising [] = true
are_rising (p ∷ ps) = rise_behind p ps

-- those of FOR and CASE in statements
abbrev pub places_of : List Stmt → List Pos
places_of ss = in_all (map hidden_places ss)

abbrev pub decl_layer : Decl-F Bool → Bool
decl_layer (Decl-F.Constant d x) = true
decl_layer (Decl-F.NamedType d n) = true
decl_layer (Decl-F.Variables ds n) = true
decl_layer (Decl-F.Procedure h ds body closing) = all_true ds && are_rising (places_of body)
decl_layer (Decl-F.Forward h) = true

-- in each procedure of a declaration they rise
abbrev pub decl_placed : Decl → Bool
decl_placed = fold-Decl Bool decl_layer

abbrev pub tree_placed : Tree → Bool
tree_placed m = all_true (map decl_placed m.decls) && are_rising (places_of m.body)

-- THE PLACES OF FOR AND CASE in each body of a module that is read rise, so that they differ.
abbrev pub PlacesRise : Type 0
PlacesRise = (text : List ℕ) (tree : Tree) → reading text ≡ Ok tree → tree_placed tree ≡ true
