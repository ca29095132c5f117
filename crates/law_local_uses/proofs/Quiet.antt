-- What is judged of a sequence besides its parts names nothing: twofold names, pointers that were left, fields, and forward declarations.
use Rattle.std.proofs.Common.{ℕ, zero, suc, Bool, true, false, List, [], ◌∷◌, length, Option, Some, None}
use Rattle.std.specs.List.{find, filter}
use Rattle.std.specs.Prelude.{bytes_eq}
use Rattle.ob_tree.specs.declared.pos.Pos.{Pos}
use Rattle.ob_tree.specs.declared.ident.Ident.{Ident}
use Rattle.ob_rules.specs.declared.notes.Later.{Later}
use Rattle.ob_rules.specs.declared.notes.Later.TheVariants as later
use Rattle.ob_rules.specs.declared.broken.Rule.TheVariants as rule
use Rattle.ob_rules.specs.declared.broken.Rule.{Rule}
use Rattle.ob_rules.specs.Judged.{Notes, notes_if, joined, no_notes}
use Rattle.ob_rules.specs.Shapes.{Map}
use Rattle.ob_rules.specs.Names.{Around, map_of, is_among}
use Rattle.ob_rules.specs.Headings.{Head, forward_broken, answers, forward_if, forwards_judged}
use Rattle.ob_rules.specs.Declarations.{Pointers, pointer_name, base_name, is_wrong, notes_of_wrong, comes_back, is_told, pointer_judged, judge_base, judge_unless, judge_pointer, judge_pointers, is_pointer_left, pointers_judged, field_judged, all_judged, closing_judged}
use Rattle.law_local_uses.proofs.Setting.{Said, none, said_both}
use Rattle.law_local_uses.proofs.Around.{Given, base}

abbrev pub Names : Given → Notes → Type 0
Names g n = Said (base g) n

pub if_names : (g : Given) (b : Bool) (which : Rule) (at : Pos) → Names g (notes_if b which at)
if_names g true which at = none
if_names g false which at = none

pub both_name : (g : Given) (a b : Notes) → Names g a → Names g b → Names g (joined a b)
both_name g a b h i = said_both (base g) a b h i

-- ---- pointers that were left

wrong_names : (g : Given) (b : Bool) (l : Later) → Names g (notes_of_wrong b l)
wrong_names g true (later.PointsTo x at t inline) = none
wrong_names g true (later.Inherits x t) = none
wrong_names g false l = none

abbrev PointersOk : Given → Pointers → Type 0
PointersOk g s = Names g s.notes

judged_ok : (g : Given) (u : Around) (l : Later) (s : Pointers) → PointersOk g s → PointersOk g (pointer_judged u l s)
judged_ok g u l s h =
    let told = is_told (is_wrong (map_of u) l) (is_among (base_name u l) s.unsound) (comes_back (base_name u l) s) s in
    both_name g s.notes (notes_of_wrong told l) h (wrong_names g told l)

base_ok : (g : Given) (o : Option Later) (s : Pointers) (f : Later → Pointers → Pointers) → PointersOk g s → ((l : Later) (s : Pointers) → PointersOk g s → PointersOk g (f l s)) → PointersOk g (judge_base o s f)
base_ok g None s f h k = h
base_ok g (Some l) s f h k = k l s h

unless_ok : (g : Given) (b : Bool) (s : Pointers) (f : Pointers → Pointers) (x : List ℕ) → PointersOk g s → ((s : Pointers) → PointersOk g s → PointersOk g (f s)) → PointersOk g (judge_unless b s f x)
unless_ok g true s f x h k = h
unless_ok g false s f x h k = k (record s { judged = x ∷ s.judged }) h

pointer_ok : (g : Given) (u : Around) (ls : List Later) (n : ℕ) (l : Later) (s : Pointers) → PointersOk g s → PointersOk g (judge_pointer u ls n l s)
pointer_ok g u ls zero l s h = h
pointer_ok g u ls (suc n) l s h =
    unless_ok g (is_among (pointer_name l) s.judged) s (λ t. pointer_judged u l (judge_base (find (λ k. bytes_eq (pointer_name k) (base_name u l)) ls) t (λ k v. judge_pointer u ls n k v))) (pointer_name l) h
    (λ t i. judged_ok g u l (judge_base (find (λ k. bytes_eq (pointer_name k) (base_name u l)) ls) t (λ k v. judge_pointer u ls n k v)) (base_ok g (find (λ k. bytes_eq (pointer_name k) (base_name u l)) ls) t (λ k v. judge_pointer u ls n k v) i (λ k v j. pointer_ok g u ls n k v j)))

all_ok : (g : Given) (u : Around) (all ls : List Later) (s : Pointers) → PointersOk g s → PointersOk g (judge_pointers u all ls s)
all_ok g u all [] s h = h
all_ok g u all (l ∷ ls) s h = all_ok g u all ls (judge_pointer u all (suc (length all)) l s) (pointer_ok g u all (suc (length all)) l s h)

pub pointers_name : (g : Given) (u : Around) (ls : List Later) → Names g (pointers_judged u ls)
pointers_name g u ls = all_ok g u (filter is_pointer_left ls) (filter is_pointer_left ls) (record { judged = []; unsound = []; through = []; rings = []; notes = no_notes }) none

-- ---- fields and forward declarations

field_names : (g : Given) (map : Map) (l : Later) → Names g (field_judged map l)
field_names g map (later.PointsTo x at t inline) = none
field_names g map (later.Inherits x t) = if_names g _ rule.DeclaredTwice x.pos

pub fields_name : (g : Given) (map : Map) (ls : List Later) → Names g (all_judged (field_judged map) ls)
fields_name g map [] = none
fields_name g map (l ∷ ls) = both_name g (field_judged map l) (all_judged (field_judged map) ls) (field_names g map l) (fields_name g map ls)

forward_names : (g : Given) (map : Map) (all : List Head) (h : Head) (b : Bool) → Names g (forward_if b map all h)
forward_names g map all h true = if_names g (forward_broken map h (find (answers h) all)) rule.UnmatchedForward h.at
forward_names g map all h false = none

pub forwards_name : (g : Given) (map : Map) (all hs : List Head) → Names g (forwards_judged map all hs)
forwards_name g map all [] = none
forwards_name g map all (h ∷ hs) = both_name g (forward_if h.forward map all h) (forwards_judged map all hs) (forward_names g map all h h.forward) (forwards_name g map all hs)

pub closing_names : (g : Given) (x : List ℕ) (o : Option Ident) → Names g (closing_judged x o)
closing_names g x None = none
closing_names g x (Some c) = if_names g _ rule.WrongClosingName c.pos
