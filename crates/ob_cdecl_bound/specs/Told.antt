-- Pointers whose base was left for later, as they are judged in turn.
use Rattle.std.specs.Prelude.{◌≡◌, ℕ, List, bytes_eq}
use Rattle.std.specs.List.{find, filter}
use Rattle.ob_rules.specs.declared.notes.Later.{Later}
use Rattle.ob_rules.specs.declared.notes.Notebook.{Notebook}
use Rattle.ob_rules.specs.Books.{book_after}
use Rattle.ob_rules.specs.Judged.{Notes}
use Rattle.ob_rules.specs.Names.{Around}
use Rattle.ob_rules.specs.Declarations.{Pointers, pointer_name, base_name, is_pointer_left, judge_pointer, judge_base}
use Rattle.ob_cdecl_bound.specs.declared.pointers.Progress.{Progress}

-- the pointers that were judged, where so much was said
abbrev pub at_notes : Progress → Notes → Pointers
at_notes p n = record { judged = p.judged; unsound = p.unsound; through = p.through; rings = p.rings; notes = n }

-- what was judged is so, and what is said of it is written down
pub record Told (b : Notebook) (s : Pointers) (p : Progress) (book : Notebook) : Type 0 where
  pub judged : p.judged ≡ s.judged
  pub unsound : p.unsound ≡ s.unsound
  pub through : p.through ≡ s.through
  pub rings : p.rings ≡ s.rings
  pub noted : book ≡ book_after b s.notes

abbrev pub left_pointers : List Later → List Later
left_pointers ls = filter is_pointer_left ls

-- the pointer that the base is goes before
abbrev pub base_judged : Around → List Later → ℕ → Later → Pointers → Pointers
base_judged u ls n l s = judge_base (find (λ k. bytes_eq (pointer_name k) (base_name u l)) ls) s (λ k v. judge_pointer u ls n k v)
