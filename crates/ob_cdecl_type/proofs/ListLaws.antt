-- The fields of a record, a list of them after the other.
use Rattle.std.proofs.Common.{◌≡◌, ℕ, List, [], ◌∷◌, map, Option, Some, None, false, refl, sym, ap, ap₂, ◌∙◌}
use Rattle.std.proofs.lemmas.List.{append-nil}
use Rattle.ob_tree.specs.declared.ident.Mark.TheVariants as mark
use Rattle.ob_tree.specs.declared.ident.IdentDef.{IdentDef}
use Rattle.ob_tree.specs.declared.type_node.FieldList.{FieldList}
use Rattle.ob_tree.specs.declared.type_node.TypeNode.TheFolds.{fold_out-FieldList}
use Rattle.ob_types.specs.declared.types.TypeRef.{TypeRef}
use Rattle.ob_types.specs.declared.desc.Field.{Field}
use Rattle.ob_types.specs.declared.typed.TypedType.{TypedType}
use Rattle.ob_rules.specs.declared.notes.Notebook.{Notebook}
use Rattle.ob_rules.specs.Books.{book_after}
use Rattle.ob_rules.specs.Names.{Around}
use Rattle.ob_rules.specs.Types.{Typing, Fields, Written, WrittenFields, WrittenParameters, WrittenSection, node_rule, fields_rule, parameters_rule, section_rule, written, field_lists, fields_joined, first_name, field_name, names_behind}
use Rattle.ob_rules.proofs.BookLaws.{after_none}
use Rattle.ob_cdecl_field.specs.FieldMakes.{fields_in, fields_made, join_fields, list_judged}
use Rattle.ob_cdecl_field.proofs.FieldLaws.{with_node, with_notes, lists_node, lists_notes, join_again}
use Rattle.ob_cdecl_type.specs.Nested.{written_fields, fields_as}

fields_are : (l : FieldList) → written_fields l ≡ fields_as l
fields_are l = fold_out-FieldList Written WrittenFields WrittenParameters WrittenSection node_rule fields_rule parameters_rule section_rule l

-- ONE LIST

pub list_node : (u v : Around) (name inner : List ℕ) (base : Option (Option TypeRef)) (before : List (List ℕ)) (l : FieldList) (xs : List IdentDef) (t : Option Typing) (fs : Option (List Field)) (r : Option Fields)
    → r ≡ fields_made t fs → fs ≡ (fields_in v base before xs t).node → v ≡ u → t ≡ ((written l.node).typing u inner mark.Hidden false).node → inner ≡ field_name name (first_name xs) → xs ≡ l.names
    → r ≡ (list_judged u name base before (fields_as l)).node
list_node u v name inner base before l xs t fs r er ef ev et ei ex =
    let w = λ (ys : List IdentDef). (written l.node).typing u (field_name name (first_name ys)) mark.Hidden false in
    let is : t ≡ (w xs).node = et ∙ ap (λ n. ((written l.node).typing u n mark.Hidden false).node) ei in
    er
    ∙ ap (fields_made t) (ef ∙ ap (λ a. (fields_in a base before xs t).node) ev)
    ∙ ap (λ o. fields_made o (fields_in u base before xs o).node) is
    ∙ ap (λ ys. fields_made (w ys).node (fields_in u base before ys (w ys).node).node) ex
    ∙ sym (with_node u base before l.names (w l.names))

pub list_notes : (b c d : Notebook) (u v : Around) (name inner : List ℕ) (base : Option (Option TypeRef)) (before : List (List ℕ)) (l : FieldList) (xs : List IdentDef) (t : Option Typing)
    → d ≡ book_after c (fields_in v base before xs t).notes → c ≡ book_after b ((written l.node).typing u inner mark.Hidden false).notes → v ≡ u → t ≡ ((written l.node).typing u inner mark.Hidden false).node → inner ≡ field_name name (first_name xs) → xs ≡ l.names
    → d ≡ book_after b (list_judged u name base before (fields_as l)).notes
list_notes b c d u v name inner base before l xs t ed ec ev et ei ex =
    let w = λ (n : List ℕ). (written l.node).typing u n mark.Hidden false in
    let k = λ (ys : List IdentDef). w (field_name name (first_name ys)) in
    ed
    ∙ ap (λ e. book_after e (fields_in v base before xs t).notes) ec
    ∙ ap (λ a. book_after (book_after b (w inner).notes) (fields_in a base before xs t).notes) ev
    ∙ ap (λ o. book_after (book_after b (w inner).notes) (fields_in u base before xs o).notes) et
    ∙ ap (λ n. book_after (book_after b (w n).notes) (fields_in u base before xs (w n).node).notes) ei
    ∙ ap (λ ys. book_after (book_after b (k ys).notes) (fields_in u base before ys (k ys).node).notes) ex
    ∙ with_notes b u base before l.names (k l.names)

-- ONE MORE LIST

pub more_lists : (u v : Around) (name : List ℕ) (base : Option (Option TypeRef)) (before behind : List (List ℕ)) (l : FieldList) (more all : List FieldList) (o n j total : Option Fields)
    → all ≡ l ∷ more → v ≡ u → behind ≡ names_behind (fields_as l).names before → j ≡ (list_judged v name base before (fields_as l)).node → n ≡ join_fields o j
    → join_fields o (field_lists u name base before (map written_fields all)).node ≡ total → join_fields n (field_lists u name base behind (map written_fields more)).node ≡ total
more_lists u v name base before behind l more all o n j total step ev pushed ej en inv =
    let r = (field_lists u name base (names_behind l.names before) (map written_fields more)).node in
    let q = (list_judged u name base before (fields_as l)).node in
    ap (λ b. join_fields n (field_lists u name base b (map written_fields more)).node) pushed
    ∙ ap (λ x. join_fields x r) (en ∙ ap (join_fields o) (ej ∙ ap (λ a. (list_judged a name base before (fields_as l)).node) ev))
    ∙ join_again o q r
    ∙ ap (join_fields o) (sym (lists_node u name base before (fields_as l) (map written_fields more)))
    ∙ ap (λ f. join_fields o (field_lists u name base before (f ∷ map written_fields more)).node) (sym (fields_are l))
    ∙ ap (λ ls. join_fields o (field_lists u name base before (map written_fields ls)).node) (sym step)
    ∙ inv

pub more_list_notes : (u v : Around) (name : List ℕ) (base : Option (Option TypeRef)) (before behind : List (List ℕ)) (l : FieldList) (more all : List FieldList) (b c total : Notebook)
    → all ≡ l ∷ more → v ≡ u → behind ≡ names_behind (fields_as l).names before → c ≡ book_after b (list_judged v name base before (fields_as l)).notes
    → book_after b (field_lists u name base before (map written_fields all)).notes ≡ total → book_after c (field_lists u name base behind (map written_fields more)).notes ≡ total
more_list_notes u v name base before behind l more all b c total step ev pushed ec inv =
    let r = (field_lists u name base (names_behind l.names before) (map written_fields more)).notes in
    ap (λ x. book_after c (field_lists u name base x (map written_fields more)).notes) pushed
    ∙ ap (λ k. book_after k r) (ec ∙ ap (λ a. book_after b (list_judged a name base before (fields_as l)).notes) ev)
    ∙ lists_notes b u name base before (fields_as l) (map written_fields more)
    ∙ ap (λ f. book_after b (field_lists u name base before (f ∷ map written_fields more)).notes) (sym (fields_are l))
    ∙ ap (λ ls. book_after b (field_lists u name base before (map written_fields ls)).notes) (sym step)
    ∙ inv

-- NO MORE

ends : (a : Fields) → fields_joined a (record { fields = []; made = [] }) ≡ a
ends a =
    let put : List Field → List TypedType → Fields = λ fs ts. record { fields = fs; made = ts } in
    ap₂ put (append-nil a.fields) (append-nil a.made)

join_end : (o : Option Fields) → join_fields o (Some (record { fields = []; made = [] })) ≡ o
join_end None = refl
join_end (Some a) = ap Some (ends a)

pub no_more_lists : (u : Around) (name : List ℕ) (base : Option (Option TypeRef)) (before : List (List ℕ)) (all : List FieldList) (o total : Option Fields) → all ≡ [] → join_fields o (field_lists u name base before (map written_fields all)).node ≡ total → o ≡ total
no_more_lists u name base before all o total e inv = sym (join_end o) ∙ ap (λ ls. join_fields o (field_lists u name base before (map written_fields ls)).node) (sym e) ∙ inv

pub no_more_list_notes : (u : Around) (name : List ℕ) (base : Option (Option TypeRef)) (before : List (List ℕ)) (all : List FieldList) (b total : Notebook) → all ≡ [] → book_after b (field_lists u name base before (map written_fields all)).notes ≡ total → b ≡ total
no_more_list_notes u name base before all b total e inv = sym (after_none b) ∙ ap (λ ls. book_after b (field_lists u name base before (map written_fields ls)).notes) (sym e) ∙ inv
