-- Identifiers and object names, and their spellings in a file.
use Rattle.std.specs.Prelude.{ℕ, Bool, false, ◌&&◌, ◌||◌, ◌==◌, nat_le, List, [], ◌∷◌, length, IsTrue}
use Rattle.std.specs.List.{list_all, list_any}
use Rattle.std.specs.Char.{is_ascii_alphabetic, is_ascii_alphanumeric}
use Rattle.ob_tree.specs.declared.names.QName.{QName}
use Rattle.ob_format.specs.Format.{Format, text16, such_that, made, ◌⊗◌}

-- a letter, and letters and digits
abbrev pub is_letters : List ℕ → Bool
is_letters [] = false
is_letters (c ∷ cs) = is_ascii_alphabetic c && list_all is_ascii_alphanumeric cs

-- an identifier has at most 64 of them
abbrev pub is_identifier : List ℕ → Bool
is_identifier t = is_letters t && nat_le (length t) 64

-- a letter, digit or one of the bytes : ^ [ . ( /
abbrev pub is_object_byte : ℕ → Bool
is_object_byte b = is_ascii_alphanumeric b || list_any (λ x. x == b) (58 ∷ 94 ∷ 91 ∷ 46 ∷ 40 ∷ 47 ∷ [])

-- an object's name: a letter, and such bytes
abbrev pub is_object : List ℕ → Bool
is_object [] = false
is_object (c ∷ cs) = is_ascii_alphabetic c && list_all is_object_byte cs

-- in a file a name has a length of two bytes
unfoldable pub name : Format (List ℕ)
name = such_that text16 is_identifier (λ n. IsTrue (is_identifier n))

unfoldable pub object_name : Format (List ℕ)
object_name = such_that text16 is_object (λ n. IsTrue (is_object n))

-- a module, and the name of one of its objects
unfoldable pub qname : Format QName
qname = made (name ⊗ object_name) (λ p. record { «module» = p.0; object = p.1 }) (λ q. (q.module, q.object))
