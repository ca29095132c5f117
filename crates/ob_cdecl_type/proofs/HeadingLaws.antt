-- Parameters: their sections in turn, their result, and the type that they make.
use Rattle.std.proofs.Common.{◌≡◌, ℕ, ◌+◌, List, [], ◌∷◌, length, map, Option, Some, None, refl, sym, ap, ◌∙◌}
use Rattle.ob_tree.specs.declared.ident.Mark.{Mark}
use Rattle.ob_tree.specs.declared.type_node.Section.{Section}
use Rattle.ob_tree.specs.declared.type_node.FormalPars.{FormalPars, out-FormalPars}
use Rattle.ob_tree.specs.declared.type_node.TypeNode.TheFolds.{fold_out-Section, fold_out-FormalPars}
use Rattle.ob_types.specs.declared.types.TypeRef.{TypeRef}
use Rattle.ob_types.specs.declared.desc.Desc.TheVariants as desc
use Rattle.ob_rules.specs.declared.entity.Known.{Known}
use Rattle.ob_rules.specs.declared.notes.Notebook.{Notebook}
use Rattle.ob_rules.specs.Judged.{Notes, paired, if_sound, sound}
use Rattle.ob_rules.specs.Books.{book_after}
use Rattle.ob_rules.specs.Names.{Around}
use Rattle.ob_rules.specs.Types.{Typing, Parameters, Written, WrittenFields, WrittenParameters, WrittenSection, Sections, node_rule, fields_rule, parameters_rule, section_rule, written_parameters, mode_of, declare_all, sections, result_of, with_result, parameters_in, inner, typed_as, procedure_type}
use Rattle.ob_rules.proofs.BookLaws.{after_none, after_joined}
use Rattle.ob_cdecl_field.specs.ParameterMakes.{no_parameters, join_parameters, result_joined, procedure_made, section_typing, behind_section, section_made}
use Rattle.ob_cdecl_field.proofs.FieldLaws.{quiet, two_parts}
use Rattle.ob_cdecl_field.proofs.SectionLaws.{sections_node, sections_notes, join_again}
use Rattle.ob_cdecl_field.proofs.Scoping.{entered}
use Rattle.ob_cdecl_type.specs.Nested.{written_section, section_as, parameters_as}

section_is : (s : Section) → written_section s ≡ section_as s
section_is s = fold_out-Section Written WrittenFields WrittenParameters WrittenSection node_rule fields_rule parameters_rule section_rule s

parameters_are : (p : FormalPars) → written_parameters p ≡ parameters_as p
parameters_are p = fold_out-FormalPars Written WrittenFields WrittenParameters WrittenSection node_rule fields_rule parameters_rule section_rule p

-- ONE MORE SECTION

split : (u : Around) (name : List ℕ) (i : ℕ) (s : Section) (more all : List Section) → all ≡ s ∷ more → sections u name i (section_as s ∷ map written_section more) ≡ sections u name i (map written_section all)
split u name i s more all step = ap (λ w. sections u name i (w ∷ map written_section more)) (sym (section_is s)) ∙ ap (λ ss. sections u name i (map written_section ss)) (sym step)

pub more_sections : (v w : Around) (name : List ℕ) (i j : ℕ) (s : Section) (more all : List Section) (o n p total : Option Parameters)
    → all ≡ s ∷ more → w ≡ behind_section v name i (section_as s) → j ≡ i + length s.names → p ≡ section_made v (mode_of s.is_var) s.names (section_typing v name i (section_as s)).node → n ≡ join_parameters o p
    → join_parameters o (sections v name i (map written_section all)).found.node ≡ total → join_parameters n (sections w name j (map written_section more)).found.node ≡ total
more_sections v w name i j s more all o n p total step ew ej ep en inv =
    let q = section_made v (mode_of s.is_var) s.names (section_typing v name i (section_as s)).node in
    let r = (sections (behind_section v name i (section_as s)) name (i + length s.names) (map written_section more)).found.node in
    let node_in : Sections → Option Parameters = λ x. x.found.node in
    ap (λ a. join_parameters n (sections a name j (map written_section more)).found.node) ew
    ∙ ap (λ k. join_parameters n (sections (behind_section v name i (section_as s)) name k (map written_section more)).found.node) ej
    ∙ ap (λ x. join_parameters x r) (en ∙ ap (join_parameters o) ep)
    ∙ join_again o q r
    ∙ ap (join_parameters o) (sym (sections_node v name i (section_as s) (map written_section more)) ∙ ap node_in (split v name i s more all step))
    ∙ inv

pub more_section_notes : (v w : Around) (name : List ℕ) (i j : ℕ) (s : Section) (more all : List Section) (b c total : Notebook)
    → all ≡ s ∷ more → w ≡ behind_section v name i (section_as s) → j ≡ i + length s.names
    → c ≡ book_after (book_after b (section_typing v name i (section_as s)).notes) (declare_all v (mode_of s.is_var) (section_typing v name i (section_as s)).node s.names).notes
    → book_after b (sections v name i (map written_section all)).found.notes ≡ total → book_after c (sections w name j (map written_section more)).found.notes ≡ total
more_section_notes v w name i j s more all b c total step ew ej ec inv =
    let r = (sections (behind_section v name i (section_as s)) name (i + length s.names) (map written_section more)).found.notes in
    let notes_in : Sections → Notes = λ x. x.found.notes in
    ap (λ a. book_after c (sections a name j (map written_section more)).found.notes) ew
    ∙ ap (λ k. book_after c (sections (behind_section v name i (section_as s)) name k (map written_section more)).found.notes) ej
    ∙ ap (λ k. book_after k r) ec
    ∙ sections_notes b v name i (section_as s) (map written_section more)
    ∙ ap (book_after b) (ap notes_in (split v name i s more all step))
    ∙ inv

pub more_known : (v w : Around) (name : List ℕ) (i j : ℕ) (s : Section) (more all : List Section) (total : List Known)
    → all ≡ s ∷ more → w ≡ behind_section v name i (section_as s) → j ≡ i + length s.names
    → (sections v name i (map written_section all)).known ≡ total → (sections w name j (map written_section more)).known ≡ total
more_known v w name i j s more all total step ew ej inv =
    let known_in : Sections → List Known = λ x. x.known in
    ap (λ a. (sections a name j (map written_section more)).known) ew
    ∙ ap (λ k. (sections (behind_section v name i (section_as s)) name k (map written_section more)).known) ej
    ∙ ap known_in (split v name i s more all step)
    ∙ inv

-- NO MORE

pub no_more_sections : (v : Around) (name : List ℕ) (i : ℕ) (all : List Section) (o total : Option Parameters) → all ≡ [] → join_parameters o (Some no_parameters) ≡ o → join_parameters o (sections v name i (map written_section all)).found.node ≡ total → o ≡ total
no_more_sections v name i all o total e ends inv = sym ends ∙ ap (λ ss. join_parameters o (sections v name i (map written_section ss)).found.node) (sym e) ∙ inv

pub no_more_section_notes : (v : Around) (name : List ℕ) (i : ℕ) (all : List Section) (b total : Notebook) → all ≡ [] → book_after b (sections v name i (map written_section all)).found.notes ≡ total → b ≡ total
no_more_section_notes v name i all b total e inv = sym (after_none b) ∙ ap (λ ss. book_after b (sections v name i (map written_section ss)).found.notes) (sym e) ∙ inv

pub no_more_known : (v : Around) (name : List ℕ) (i : ℕ) (all : List Section) (total : List Known) → all ≡ [] → (sections v name i (map written_section all)).known ≡ total → v.known ≡ total
no_more_known v name i all total e inv = ap (λ ss. (sections v name i (map written_section ss)).known) (sym e) ∙ inv

-- THE RESULT

result_node_of : (p : Option Parameters) (r : Option (Option TypeRef)) → (if_sound (paired p r) (λ x. sound (with_result x.0 x.1))).node ≡ result_joined p r
result_node_of None r = refl
result_node_of (Some p) None = refl
result_node_of (Some p) (Some r) = refl

pub heading_node : (u v : Around) (name : List ℕ) (p : FormalPars) (ss : List Section) (all : Option Parameters) (r : Option (Option TypeRef)) (o : Option Parameters)
    → o ≡ result_joined all r → all ≡ (sections u name 1 (map written_section ss)).found.node → v ≡ record u { known = (sections u name 1 (map written_section ss)).known } → r ≡ (result_of v (out-FormalPars p).result_type).node → ss ≡ (out-FormalPars p).sections
    → o ≡ (parameters_in u name (written_parameters p)).found.node
heading_node u v name p ss all r o eo ea ev er es =
    let k = λ (l : List Section). sections u name 1 (map written_section l) in
    let w = λ (l : List Section). record u { known = (k l).known } in
    eo
    ∙ ap (result_joined all) (er ∙ ap (λ a. (result_of a (out-FormalPars p).result_type).node) ev)
    ∙ ap (λ x. result_joined x (result_of (w ss) (out-FormalPars p).result_type).node) ea
    ∙ ap (λ l. result_joined (k l).found.node (result_of (w l) (out-FormalPars p).result_type).node) es
    ∙ sym (result_node_of (k (out-FormalPars p).sections).found.node (result_of (w (out-FormalPars p).sections) (out-FormalPars p).result_type).node)
    ∙ ap (λ x. (parameters_in u name x).found.node) (sym (parameters_are p))

pub heading_notes : (b c d : Notebook) (u v : Around) (name : List ℕ) (p : FormalPars) (ss : List Section)
    → d ≡ book_after c (result_of v (out-FormalPars p).result_type).notes → c ≡ book_after b (sections u name 1 (map written_section ss)).found.notes → v ≡ record u { known = (sections u name 1 (map written_section ss)).known } → ss ≡ (out-FormalPars p).sections
    → d ≡ book_after b (parameters_in u name (written_parameters p)).found.notes
heading_notes b c d u v name p ss ed ec ev es =
    let k = λ (l : List Section). sections u name 1 (map written_section l) in
    let w = λ (l : List Section). record u { known = (k l).known } in
    let r = result_of (w (out-FormalPars p).sections) (out-FormalPars p).result_type in
    ed
    ∙ ap (λ a. book_after c (result_of a (out-FormalPars p).result_type).notes) ev
    ∙ ap (λ e. book_after e (result_of (w ss) (out-FormalPars p).result_type).notes) ec
    ∙ ap (λ l. book_after (book_after b (k l).found.notes) (result_of (w l) (out-FormalPars p).result_type).notes) es
    ∙ two_parts b (k (out-FormalPars p).sections).found.notes r.notes (paired (k (out-FormalPars p).sections).found.node r.node) (λ x. with_result x.0 x.1)
    ∙ ap (λ x. book_after b (parameters_in u name x).found.notes) (sym (parameters_are p))

pub heading_known : (u v : Around) (name : List ℕ) (p : FormalPars) (ss : List Section) → v ≡ record u { known = (sections u name 1 (map written_section ss)).known } → ss ≡ (out-FormalPars p).sections → v ≡ record u { known = (parameters_in u name (written_parameters p)).known }
heading_known u v name p ss ev es =
    ev
    ∙ ap (λ l. record u { known = (sections u name 1 (map written_section l)).known }) es
    ∙ ap (λ x. record u { known = (parameters_in u name x).known }) (sym (parameters_are p))

-- THE PROCEDURE TYPE

procedure_node_of : (u : Around) (name : List ℕ) (m : Mark) (p : Option Parameters) → (if_sound p (λ q. sound (typed_as u name (desc.ProcType m q.signature) q.made))).node ≡ procedure_made u name m p
procedure_node_of u name m None = refl
procedure_node_of u name m (Some p) = refl

pub procedure_node : (u v w : Around) (name : List ℕ) (m : Mark) (p : WrittenParameters) (f : Option Parameters) (r : Option Typing)
    → r ≡ procedure_made w name m f → w ≡ u → f ≡ (parameters_in v name p).found.node → v ≡ record u { scope = u.scope + 1 } → r ≡ (procedure_type u name m p).node
procedure_node u v w name m p f r er ew ef ev =
    er ∙ ap (λ a. procedure_made a name m f) ew
    ∙ ap (procedure_made u name m) (ef ∙ ap (λ a. (parameters_in a name p).found.node) (entered u v ev))
    ∙ sym (procedure_node_of u name m (parameters_in (inner u) name p).found.node)

pub procedure_notes : (b c : Notebook) (u v : Around) (name : List ℕ) (m : Mark) (p : WrittenParameters)
    → c ≡ book_after b (parameters_in v name p).found.notes → v ≡ record u { scope = u.scope + 1 } → c ≡ book_after b (procedure_type u name m p).notes
procedure_notes b c u v name m p ec ev =
    let f = (parameters_in (inner u) name p).found in
    let g : Parameters → Typing = λ q. typed_as u name (desc.ProcType m q.signature) q.made in
    ec ∙ ap (λ a. book_after b (parameters_in a name p).found.notes) (entered u v ev)
    ∙ sym (ap (book_after (book_after b f.notes)) (quiet f.node g) ∙ after_none (book_after b f.notes))
    ∙ after_joined b f.notes (if_sound f.node (λ q. sound (g q))).notes
