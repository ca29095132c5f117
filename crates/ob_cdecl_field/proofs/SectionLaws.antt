-- Sections of parameters: their names are declared behind their type, and what is said of the names goes before what is said of it.
use Rattle.std.proofs.Common.{◌≡◌, ℕ, ◌+◌, Bool, true, false, List, [], ◌∷◌, ◌++◌, length, Option, Some, None, cond, refl, sym, ap, ◌∙◌, arith}
use Rattle.std.specs.Option.{option_map}
use Rattle.std.proofs.lemmas.List.{append-nil, append_assoc}
use Rattle.std.proofs.lemmas.Bool.Decides.{nat_tests}
use Rattle.ob_tree.specs.declared.pos.Pos.{Pos}
use Rattle.ob_tree.specs.declared.ident.Ident.{Ident}
use Rattle.ob_types.specs.declared.types.Mode.{Mode}
use Rattle.ob_types.specs.declared.types.TypeRef.{TypeRef}
use Rattle.ob_types.specs.declared.typed.TypedType.{TypedType}
use Rattle.ob_types.specs.declared.typed.TypedParameter.{TypedParameter}
use Rattle.ob_rules.specs.declared.broken.Broken.{Broken}
use Rattle.ob_rules.specs.declared.broken.Rule.{Rule}
use Rattle.ob_rules.specs.declared.entity.Known.{Known}
use Rattle.ob_rules.specs.declared.notes.Notebook.{Notebook}
use Rattle.ob_rules.specs.Judged.{Judged, Notes, number_of, before, earlier, least, joined, paired, if_sound, sound, made, is_quiet, if_quiet, behind_quiet}
use Rattle.ob_rules.specs.Books.{book_after}
use Rattle.ob_rules.specs.Names.{Around}
use Rattle.ob_rules.specs.Types.{Named, Typing, Parameters, WrittenSection, mode_of, new_name, twice_if, knows, parameter_as, with_notes, with_types, declare_all, parameters_of, parameters_joined, sections}
use Rattle.ob_rules.proofs.RuleLaws.{same_number}
use Rattle.ob_rules.proofs.Least.{least_append}
use Rattle.ob_rules.proofs.BookLaws.{after_none, after_joined}
use Rattle.ob_cdecl_field.specs.ParameterMakes.{names_declared, behind_names, no_parameters, join_parameters, section_typing, section_made, behind_section}
use Rattle.ob_cdecl_field.proofs.FieldLaws.{quiet, two_parts}

-- NAMES AMONG THE TYPES THAT THE SECTION MAKES, AND BEFORE THEM

none_same : (u : Around) (m : Mode) (xs : List Ident) → names_declared u m None xs ≡ declare_all u m None xs
none_same u m [] = refl
none_same u m (x ∷ xs) = ap (with_notes (new_name u x)) (none_same (knows u x (parameter_as u m x None)) m xs)

with_more : List TypedType → Named → Named
with_more ts n = record { notes = n.notes; around = with_types n.around ts }

some_same : (u : Around) (m : Mode) (t : Typing) (xs : List Ident) → names_declared (with_types u t.made) m (Some t.of) xs ≡ with_more t.made (declare_all u m (Some t) xs)
unfolding with_more
some_same u m t [] = refl
some_same u m t (x ∷ xs) = ap (with_notes (new_name u x)) (some_same (knows u x (parameter_as u m x (Some t))) m t xs)

pub none_around : (u w : Around) (m : Mode) (xs : List Ident) → w ≡ (names_declared u m None xs).around → w ≡ behind_names u m xs None
none_around u w m xs e = let F : Named → Around = λ n. n.around in e ∙ ap F (none_same u m xs)

pub none_notes : (b c : Notebook) (u : Around) (m : Mode) (xs : List Ident) → c ≡ book_after b (names_declared u m None xs).notes → c ≡ book_after b (declare_all u m None xs).notes
none_notes b c u m xs e = let F : Named → Notebook = λ n. book_after b n.notes in e ∙ ap F (none_same u m xs)

pub some_around : (u v w : Around) (m : Mode) (t : Typing) (xs : List Ident) → w ≡ (names_declared v m (Some t.of) xs).around → v ≡ with_types u t.made → w ≡ behind_names u m xs (Some t)
unfolding with_more
some_around u v w m t xs e f =
    let F : Named → Around = λ n. n.around in
    e ∙ ap (λ a. (names_declared a m (Some t.of) xs).around) f ∙ ap F (some_same u m t xs)

pub some_notes : (b c : Notebook) (u v : Around) (m : Mode) (t : Typing) (xs : List Ident) → c ≡ book_after b (names_declared v m (Some t.of) xs).notes → v ≡ with_types u t.made → c ≡ book_after b (declare_all u m (Some t) xs).notes
unfolding with_more
some_notes b c u v m t xs e f =
    let F : Named → Notebook = λ n. book_after b n.notes in
    e ∙ ap (λ a. book_after b (names_declared a m (Some t.of) xs).notes) f ∙ ap F (some_same u m t xs)

-- WHAT IS SAID OF NAMES IS ONLY WHAT IS BROKEN

abbrev loud : List Broken → Notes
loud bs = record { broken = bs; objects = []; types = []; lengths = []; later = [] }

loud_more : (o : Option Known) (at : Pos) (n : Notes) → n ≡ loud n.broken → joined (twice_if o at) n ≡ loud (joined (twice_if o at) n).broken
loud_more None at n e = e
loud_more (Some k) at n e = ap (joined (twice_if (Some k) at)) e

loud_names : (u : Around) (m : Mode) (t : Option Typing) (xs : List Ident) → (declare_all u m t xs).notes ≡ loud (declare_all u m t xs).notes.broken
loud_names u m t [] = refl
loud_names u m t (x ∷ xs) = loud_more _ x.pos (declare_all (knows u x (parameter_as u m x t)) m t xs).notes (loud_names (knows u x (parameter_as u m x t)) m t xs)

-- THE LEAST IS THE LEAST IN EITHER ORDER

same_line : (a b : Broken) → before a b ≡ false → before b a ≡ false → a.pos.line ≡ b.pos.line
same_line a b e f = grind (arith, nat_tests)

same_col : (a b : Broken) → before a b ≡ false → before b a ≡ false → a.pos.col ≡ b.pos.col
same_col a b e f = grind (arith, nat_tests)

same_told : (a b : Broken) → before a b ≡ false → before b a ≡ false → number_of a.rule ≡ number_of b.rule
same_told a b e f = grind (arith, nat_tests)

same_rule : (a b : Broken) → before a b ≡ false → before b a ≡ false → a.rule ≡ b.rule
same_rule a b e f = same_number a.rule b.rule (same_told a b e f)

same_broken : (a b : Broken) → before a b ≡ false → before b a ≡ false → a ≡ b
same_broken a b e f =
    let put : Rule → ℕ → ℕ → Broken = λ r l c. record { rule = r; «pos» = record { line = l; col = c } } in
    ap (λ r. put r a.pos.line a.pos.col) (same_rule a b e f) ∙ ap (λ l. put b.rule l a.pos.col) (same_line a b e f) ∙ ap (λ c. put b.rule b.pos.line c) (same_col a b e f)

not_both : (a b : Broken) → before a b ≡ true → before b a ≡ true → ⊥
not_both a b e f = grind (arith, nat_tests)

earlier_turned : (a b : Option Broken) → earlier a b ≡ earlier b a
earlier_turned None None = refl
earlier_turned None (Some b) = refl
earlier_turned (Some a) None = refl
earlier_turned (Some a) (Some b) = by_tests (before b a) (before a b) refl refl
  where
    by_tests : (p q : Bool) → before b a ≡ p → before a b ≡ q → cond p (Some b) (Some a) ≡ cond q (Some a) (Some b)
    by_tests true true e f = absurd (not_both a b f e)
    by_tests true false e f = refl
    by_tests false true e f = refl
    by_tests false false e f = ap Some (same_broken a b f e)

least_turned : (xs ys : List Broken) → least (xs ++ ys) ≡ least (ys ++ xs)
least_turned xs ys = least_append xs ys ∙ earlier_turned (least xs) (least ys) ∙ sym (least_append ys xs)

broken_turned : (b : Notebook) (t : Notes) (bs : List Broken) → book_after b (record t { broken = t.broken ++ bs }) ≡ book_after b (record t { broken = bs ++ t.broken })
unfolding book_after
broken_turned b t bs = ap (λ o. record (book_after b t) { broken = earlier b.broken o }) (least_turned t.broken bs)

nothing_more : (t : Notes) (bs : List Broken) → joined t (loud bs) ≡ record t { broken = t.broken ++ bs }
nothing_more t bs =
    let br = t.broken ++ bs in
    ap (λ o. record { broken = br; objects = o; types = t.types ++ []; lengths = t.lengths ++ []; later = t.later ++ [] }) (append-nil t.objects)
    ∙ ap (λ o. record { broken = br; objects = t.objects; types = o; lengths = t.lengths ++ []; later = t.later ++ [] }) (append-nil t.types)
    ∙ ap (λ o. record { broken = br; objects = t.objects; types = t.types; lengths = o; later = t.later ++ [] }) (append-nil t.lengths)
    ∙ ap (λ o. record { broken = br; objects = t.objects; types = t.types; lengths = t.lengths; later = o }) (append-nil t.later)

turned : (b : Notebook) (t d : Notes) → d ≡ loud d.broken → book_after (book_after b t) d ≡ book_after (book_after b d) t
turned b t d e =
    ap (book_after (book_after b t)) e
    ∙ after_joined b t (loud d.broken)
    ∙ ap (book_after b) (nothing_more t d.broken)
    ∙ broken_turned b t d.broken
    ∙ sym (after_joined b (loud d.broken) t)
    ∙ ap (λ n. book_after (book_after b n) t) (sym e)

-- WHETHER THE NAMES SAY ANYTHING

pub quiet_names : (a b c d : Notebook) (before : Option Broken) (q : Bool) (n : Notes) → before ≡ a.broken → b ≡ record a { broken = None } → c ≡ book_after b n
    → ((k : Notebook) (m : Notes) → c ≡ book_after (record k { broken = None }) m → q ≡ is_quiet m.broken)
    → ((k : Notebook) (m : Notes) → c ≡ book_after (record k { broken = None }) m → before ≡ k.broken → d ≡ book_after k m)
    → (q ≡ is_quiet n.broken) × (d ≡ book_after a n)
quiet_names a b c d before q n e f g quiet back =
    let h : c ≡ book_after (record a { broken = None }) n = g ∙ ap (λ k. book_after k n) f in
    (quiet a n h, back a n h e)

-- A SECTION, AND THOSE BEHIND IT

node_of : (b : Bool) (t : Option Typing) (f : Typing → Parameters) (r : Option Parameters) → (if_sound (paired (if_quiet b (if_sound t (λ x. sound (f x))).node) r) (λ q. sound (parameters_joined q.0 q.1))).node ≡ join_parameters (if_quiet b (option_map f t)) r
node_of false t f r = refl
node_of true None f r = refl
node_of true (Some t) f None = refl
node_of true (Some t) f (Some p) = refl

notes_by : (b : Notebook) (t : Judged Typing) (f : Typing → Parameters) (d : Notes) (r : Judged Parameters) → d ≡ loud d.broken
    → book_after (book_after (book_after b t.notes) d) r.notes ≡ book_after b (joined (joined (joined d (made f t).notes) r.notes) (if_sound (paired (behind_quiet d (made f t)).node r.node) (λ q. sound (parameters_joined q.0 q.1))).notes)
notes_by b t f d r e =
    let last = (if_sound t.node (λ x. sound (f x))).notes in
    ap (λ c. book_after c r.notes) (
    turned b t.notes d e
    ∙ sym (after_none (book_after (book_after b d) t.notes))
    ∙ ap (book_after (book_after (book_after b d) t.notes)) (sym (quiet t.node f))
    ∙ after_joined (book_after b d) t.notes last
    ∙ after_joined b d (joined t.notes last)
    )
    ∙ two_parts b (joined d (made f t).notes) r.notes (paired (behind_quiet d (made f t)).node r.node) (λ q. parameters_joined q.0 q.1)

pub sections_node : (u : Around) (name : List ℕ) (i : ℕ) (s : WrittenSection) (ss : List WrittenSection)
    → (sections u name i (s ∷ ss)).found.node ≡ join_parameters (section_made u (mode_of s.is_var) s.names (section_typing u name i s).node) (sections (behind_section u name i s) name (i + length s.names) ss).found.node
sections_node u name i s ss = node_of (is_quiet (declare_all u (mode_of s.is_var) (section_typing u name i s).node s.names).notes.broken) (section_typing u name i s).node (parameters_of u (mode_of s.is_var) s.names) (sections (behind_section u name i s) name (i + length s.names) ss).found.node

pub sections_notes : (b : Notebook) (u : Around) (name : List ℕ) (i : ℕ) (s : WrittenSection) (ss : List WrittenSection)
    → book_after (book_after (book_after b (section_typing u name i s).notes) (declare_all u (mode_of s.is_var) (section_typing u name i s).node s.names).notes) (sections (behind_section u name i s) name (i + length s.names) ss).found.notes ≡ book_after b (sections u name i (s ∷ ss)).found.notes
sections_notes b u name i s ss =
    let t = section_typing u name i s in
    notes_by b t (parameters_of u (mode_of s.is_var) s.names) (declare_all u (mode_of s.is_var) t.node s.names).notes (sections (behind_section u name i s) name (i + length s.names) ss).found (loud_names u (mode_of s.is_var) t.node s.names)

-- PARAMETERS JOINED

joined_again : (a b c : Parameters) → parameters_joined (parameters_joined a b) c ≡ parameters_joined a (parameters_joined b c)
joined_again a b c =
    let put : List (Mode × TypeRef) → List TypedParameter → List TypedType → Parameters = λ x y z. record { signature = record { params = x; result = None }; parameters = y; made = z } in
    let x = a.signature.params ++ (b.signature.params ++ c.signature.params) in
    let y = a.parameters ++ (b.parameters ++ c.parameters) in
    ap (λ l. put l ((a.parameters ++ b.parameters) ++ c.parameters) ((a.made ++ b.made) ++ c.made)) (append_assoc a.signature.params b.signature.params c.signature.params)
    ∙ ap (λ l. put x l ((a.made ++ b.made) ++ c.made)) (append_assoc a.parameters b.parameters c.parameters)
    ∙ ap (put x y) (append_assoc a.made b.made c.made)

joined_end : (a b : Parameters) → parameters_joined (parameters_joined a b) no_parameters ≡ parameters_joined a b
joined_end a b =
    let put : List (Mode × TypeRef) → List TypedParameter → List TypedType → Parameters = λ x y z. record { signature = record { params = x; result = None }; parameters = y; made = z } in
    let x = a.signature.params ++ b.signature.params in
    let y = a.parameters ++ b.parameters in
    let z = a.made ++ b.made in
    ap (λ l. put l (y ++ []) (z ++ [])) (append-nil x) ∙ ap (λ l. put x l (z ++ [])) (append-nil y) ∙ ap (put x y) (append-nil z)

pub join_again : (a b c : Option Parameters) → join_parameters (join_parameters a b) c ≡ join_parameters a (join_parameters b c)
join_again None b c = refl
join_again (Some a) None c = refl
join_again (Some a) (Some b) None = refl
join_again (Some a) (Some b) (Some c) = ap Some (joined_again a b c)

-- with none behind them
pub join_end : (a b : Option Parameters) → join_parameters (join_parameters a b) (Some no_parameters) ≡ join_parameters a b
join_end None b = refl
join_end (Some a) None = refl
join_end (Some a) (Some b) = ap Some (joined_end a b)

join_first : (a b : Option Parameters) → join_parameters (Some no_parameters) (join_parameters a b) ≡ join_parameters a b
join_first None b = refl
join_first (Some a) None = refl
join_first (Some a) (Some b) = refl

-- with none before them
pub sections_first : (u : Around) (name : List ℕ) (i : ℕ) (ss : List WrittenSection) → join_parameters (Some no_parameters) (sections u name i ss).found.node ≡ (sections u name i ss).found.node
sections_first u name i [] = refl
sections_first u name i (s ∷ ss) =
    let t = (section_typing u name i s).node in
    let r = (sections (behind_section u name i s) name (i + length s.names) ss).found.node in
    ap (join_parameters (Some no_parameters)) (sections_node u name i s ss) ∙ join_first (section_made u (mode_of s.is_var) s.names t) r ∙ sym (sections_node u name i s ss)
