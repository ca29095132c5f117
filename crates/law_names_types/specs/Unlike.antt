-- The names of the types that a sequence of declarations and the headings in it make.
use Rattle.std.specs.Prelude.{◌≡◌, ℕ, true, List, [], ◌∷◌, ◌++◌, map as each}
use Rattle.std.specs.List.{AllByRecursion, filter_map}
use Rattle.ob_tree.specs.declared.decl.Decl.{Decl}
use Rattle.ob_types.specs.declared.typed.TypedType.{TypedType}
use Rattle.ob_rules.specs.Names.{Around}
use Rattle.ob_rules.specs.Types.{is_module_level}
use Rattle.ob_rules.specs.Statements.{Judging}
use Rattle.ob_rules.specs.Headings.{Head, reversed}
use Rattle.ob_rules.specs.Declarations.{Declared, plain_of, type_name_of, procedure_of, in_order, types_of_head, declaration, block}
use Rattle.law_names_distinct.specs.Distinct.{AreDistinct}
use Rattle.law_names_distinct.specs.Parts.{IsInScope}
use Rattle.law_names_distinct.specs.Named.{all_true, decl_named}
use Rattle.law_names_types.specs.Once.{HasNoForward, heads_behind}

-- the constants, types and variables of a sequence
abbrev pub plain_in : List Decl → Around → Declared
plain_in xs u = in_order (filter_map plain_of (each declaration xs)) (record u { later_types = filter_map type_name_of (each declaration xs) })

-- the headings behind them, in the order of the text
abbrev pub heads_in : List Decl → Around → List Head
heads_in xs u = reversed (heads_behind (plain_in xs u).around (filter_map procedure_of (each declaration xs)))

abbrev pub types_of_heads : List Head → List TypedType
types_of_heads [] = []
types_of_heads (h ∷ hs) = types_of_head h.parameters ++ types_of_heads hs

-- the types that they make, without those that stand inside procedures
abbrev pub types_in : List Decl → Around → List TypedType
types_in xs u = (plain_in xs u).part.contents.types ++ types_of_heads (heads_in xs u)

-- the name begins with the path, and what is behind it is of the same scope
pub record IsWithin (path n : List ℕ) : Type 0 where
  pub rest : List ℕ
  pub is : n ≡ path ++ rest
  pub scope : IsInScope rest

-- what stands around the beginning of a sequence: no forward declaration is in its scope, and no type before those of a module
pub record IsStart (u : Around) : Type 0 where
  pub forward : HasNoForward u
  pub own : is_module_level u ≡ true → u.own ≡ []

-- where the sequence keeps the rules, these types have different names, which are of its scope
abbrev pub BlocksDiffer : Type 0
BlocksDiffer =
    (xs : List Decl) → all_true (each decl_named xs) ≡ true → (body : List Judging) (u : Around) → IsStart u → (block (each declaration xs) body u).notes.broken ≡ []
    → AreDistinct (λ t. t.name) (types_in xs u) × AllByRecursion (λ t. IsWithin u.path t.name) (types_in xs u)
