-- How deep types and declarations are nested, and that what names types is short.
use Rattle.std.specs.Prelude.{ℕ, zero, suc, Bool, true, false, ◌&&◌, nat_le, List, [], ◌∷◌, length, map}
use Rattle.ob_tree.specs.declared.ident.IdentDef.{IdentDef}
use Rattle.ob_tree.specs.declared.type_node.TypeNode.{TypeNode}
use Rattle.ob_tree.specs.declared.type_node.FieldList.{FieldList}
use Rattle.ob_tree.specs.declared.type_node.FormalPars.{FormalPars}
use Rattle.ob_tree.specs.declared.type_node.Section.{Section}
use Rattle.ob_tree.specs.declared.type_node.TypeNode.TheOpen.{TypeNode-F, FieldList-F, FormalPars-F, Section-F}
use Rattle.ob_tree.specs.declared.type_node.TypeNode.TheFolds.{fold-TypeNode, fold-FieldList, fold-FormalPars, fold-Section}
use Rattle.ob_tree.specs.declared.decl.Decl.{Decl}
use Rattle.ob_tree.specs.declared.decl.Decl.TheOpen.{Decl-F}
use Rattle.ob_tree.specs.declared.decl.Decl.TheFolds.{fold-Decl}
use Rattle.ob_tree.specs.declared.decl.Module.{Module as Tree}

-- whether it is nested in no more than so many levels
abbrev pub Within : Type 0
Within = ℕ → Bool

abbrev pub all_within : List Within → Within
all_within [] d = true
all_within (f ∷ fs) d = f d && all_within fs d

-- a level more than what is in it
abbrev pub level : Within → Within
level f zero = false
level f (suc d) = f d

-- a name of at most 64 characters
abbrev pub is_short : List ℕ → Bool
is_short x = nat_le (length x) 64

abbrev pub first_short : List IdentDef → Bool
first_short [] = true
first_short (d ∷ ds) = is_short d.ident.name

-- TYPES: each is a level

abbrev pub in_node : TypeNode-F Within Within Within Within → Within
in_node (TypeNode-F.Named q) d = is_short q.ident.name
in_node (TypeNode-F.Array at ls e) d = e d
in_node (TypeNode-F.Record at base ls) d = all_within ls d
in_node (TypeNode-F.Pointer at b) d = b d
in_node (TypeNode-F.Procedure at p) d = p d

abbrev pub node_layer : TypeNode-F Within Within Within Within → Within
node_layer x = level (in_node x)

abbrev pub fields_layer : FieldList-F Within Within Within Within → Within
fields_layer l d = first_short l.names && l.node d

abbrev pub parameters_layer : FormalPars-F Within Within Within Within → Within
parameters_layer p d = all_within p.sections d

abbrev pub section_layer : Section-F Within Within Within Within → Within
section_layer s d = s.node d

abbrev pub type_within : TypeNode → Within
type_within = fold-TypeNode Within Within Within Within node_layer fields_layer parameters_layer section_layer

abbrev pub fields_within : FieldList → Within
fields_within = fold-FieldList Within Within Within Within node_layer fields_layer parameters_layer section_layer

abbrev pub parameters_within : FormalPars → Within
parameters_within = fold-FormalPars Within Within Within Within node_layer fields_layer parameters_layer section_layer

abbrev pub section_within : Section → Within
section_within = fold-Section Within Within Within Within node_layer fields_layer parameters_layer section_layer

-- DECLARATIONS: a procedure is a level

abbrev pub decl_layer : Decl-F Within → Within
decl_layer (Decl-F.Constant i x) d = true
decl_layer (Decl-F.NamedType i n) d = is_short i.ident.name && type_within n d
decl_layer (Decl-F.Variables is n) d = first_short is && type_within n d
decl_layer (Decl-F.Procedure h ds body closing) d = level (λ e. is_short h.name.ident.name && (parameters_within h.parameters e && all_within ds e)) d
decl_layer (Decl-F.Forward h) d = is_short h.name.ident.name && parameters_within h.parameters d

abbrev pub decl_within : Decl → Within
decl_within = fold-Decl Within decl_layer

abbrev pub tree_within : Tree → Within
tree_within m d = all_within (map decl_within m.decls) d
