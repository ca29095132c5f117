-- Headings as they are kept.
use Rattle.std.specs.Prelude.{◌≡◌, ℕ, suc, List, [], ◌∷◌, length, map, Option, Some, None}
use Rattle.std.specs.Option.{option_map}
use Rattle.ob_cdecl_scopes.specs.Bodies.{names_in}
use Rattle.ob_cdecl_field.specs.Makes.{parameters_of}
use Rattle.ob_rules.specs.Books.{book_after, empty_book}
use Rattle.ob_rules.specs.Judged.{no_notes}
use Rattle.ob_rules.specs.Headings.{BoundAs, Head}
use Rattle.ob_cdecl_heading.specs.declared.head.BoundAs.{BoundAs as BoundTo}
use Rattle.ob_cdecl_heading.specs.declared.head.Head.{Head as Kept}

abbrev pub bound_seen : BoundTo → BoundAs
bound_seen b = record { of = b.of; owner = b.owner; receiver = b.receiver }

abbrev pub owner_seen : Option (Option BoundTo) → Option (Option BoundAs)
owner_seen b = option_map (option_map bound_seen) b

-- what a heading that is kept shows: all but what is said of it, and what is known behind it
abbrev pub seen : Kept → Head
seen h = record {
  at = h.at;
  name = h.name;
  forward = h.forward;
  is_bound = h.is_bound;
  bound = option_map bound_seen h.bound;
  mark = h.mark;
  path = h.path;
  self = h.receiver;
  parameters = option_map parameters_of h.parameters;
  notes = no_notes;
  inside = names_in h.inside;
  known = [];
}

abbrev pub bare : Head → Head
bare s = record s { notes = no_notes; known = [] }

-- a heading is kept: what is said of it is written down in a notebook of its own, and of what is known behind it how many names there are; its names are of the scope n
pub record IsKept (n : ℕ) (h : Kept) (s : Head) : Type 0 where
  pub same : seen h ≡ bare s
  pub notes : h.notes ≡ book_after empty_book s.notes
  pub behind : h.behind ≡ length s.known
  pub scope : h.inside.scope ≡ n

-- the headings are kept, in order
abbrev pub AreKept : ℕ → List Kept → List Head → Type 0
AreKept n [] [] = Unit {0}
AreKept n [] (s ∷ ss) = ⊥
AreKept n (h ∷ hs) [] = ⊥
AreKept n (h ∷ hs) (s ∷ ss) = IsKept n h s × AreKept n hs ss
