-- How the fields of records are collected.
use Rattle.std.proofs.Common.{◌≡◌, ℕ, true, false, List, [], ◌∷◌, Option, Some, None, refl, sym, ap, ap₂, ◌∙◌}
use Rattle.std.proofs.lemmas.List.{append_assoc}
use Rattle.ob_tree.specs.declared.ident.Mark.TheVariants as mark
use Rattle.ob_types.specs.declared.types.TypeRef.{TypeRef}
use Rattle.ob_types.specs.declared.desc.Field.{Field}
use Rattle.ob_types.specs.declared.typed.TypedType.{TypedType}
use Rattle.ob_rules.specs.declared.notes.Notebook.{Notebook}
use Rattle.ob_rules.specs.Judged.{Judged, Notes, joined, no_notes, paired, if_sound, sound, each_sound}
use Rattle.ob_rules.specs.Books.{book_after}
use Rattle.ob_rules.specs.Names.{Around}
use Rattle.ob_tree.specs.declared.ident.Mark.{Mark}
use Rattle.ob_tree.specs.declared.ident.IdentDef.{IdentDef}
use Rattle.ob_rules.specs.Types.{Typing, Fields, WrittenFields, typed_as, record_desc, record_with, fields_joined, field_lists, with_fields, names_behind, first_name, field_name}
use Rattle.ob_rules.proofs.BookLaws.{after_none, after_joined}
use Rattle.ob_cdecl_field.specs.FieldMakes.{finish, one_more, join_fields, fields_in, fields_made, record_made}

pub quiet : {A B : Type 0} (o : Option A) (g : A → B) → (if_sound o (λ p. sound (g p))).notes ≡ no_notes
quiet None g = refl
quiet (Some x) g = refl

-- two parts, and what is made of them says nothing more
pub two_parts : {A B : Type 0} (b : Notebook) (m n : Notes) (o : Option A) (g : A → B) → book_after (book_after b m) n ≡ book_after b (joined (joined m n) (if_sound o (λ p. sound (g p))).notes)
two_parts b m n o g = after_joined b m n ∙ sym (ap (λ k. book_after b (joined (joined m n) k)) (quiet o g) ∙ sym (after_joined b (joined m n) no_notes) ∙ after_none (book_after b (joined m n)))

node_of : (a : Option Field) (r : Option (List Field)) → (if_sound (paired a r) (λ x. sound (x.0 ∷ x.1))).node ≡ one_more a r
node_of None r = refl
node_of (Some f) None = refl
node_of (Some f) (Some fs) = refl

pub each_node : (a : Judged Field) (rest : List (Judged Field)) → (each_sound (a ∷ rest)).node ≡ one_more a.node (each_sound rest).node
each_node a rest = node_of a.node (each_sound rest).node

pub each_notes : (b : Notebook) (a : Judged Field) (rest : List (Judged Field)) → book_after (book_after b a.notes) (each_sound rest).notes ≡ book_after b (each_sound (a ∷ rest)).notes
each_notes b a rest = two_parts b a.notes (each_sound rest).notes (paired a.node (each_sound rest).node) (λ x. x.0 ∷ x.1)

pub all_of : (n : Option (List Field)) → finish true [] n ≡ n
all_of None = refl
all_of (Some fs) = refl

lists_node_of : (a r : Option Fields) → (if_sound (paired a r) (λ p. sound (fields_joined p.0 p.1))).node ≡ join_fields a r
lists_node_of None r = refl
lists_node_of (Some a) None = refl
lists_node_of (Some a) (Some r) = refl

pub lists_node : (u : Around) (name : List ℕ) (base : Option (Option TypeRef)) (before : List (List ℕ)) (l : WrittenFields) (ls : List WrittenFields) → (field_lists u name base before (l ∷ ls)).node ≡ join_fields (with_fields u base before l.names (l.node.typing u (field_name name (first_name l.names)) mark.Hidden false)).node (field_lists u name base (names_behind l.names before) ls).node
lists_node u name base before l ls = lists_node_of (with_fields u base before l.names (l.node.typing u (field_name name (first_name l.names)) mark.Hidden false)).node (field_lists u name base (names_behind l.names before) ls).node

pub lists_notes : (b : Notebook) (u : Around) (name : List ℕ) (base : Option (Option TypeRef)) (before : List (List ℕ)) (l : WrittenFields) (ls : List WrittenFields) → book_after (book_after b (with_fields u base before l.names (l.node.typing u (field_name name (first_name l.names)) mark.Hidden false)).notes) (field_lists u name base (names_behind l.names before) ls).notes ≡ book_after b (field_lists u name base before (l ∷ ls)).notes
lists_notes b u name base before l ls =
    let w = with_fields u base before l.names (l.node.typing u (field_name name (first_name l.names)) mark.Hidden false) in
    let r = field_lists u name base (names_behind l.names before) ls in
    two_parts b w.notes r.notes (paired w.node r.node) (λ p. fields_joined p.0 p.1)

joined_again : (a b c : Fields) → fields_joined (fields_joined a b) c ≡ fields_joined a (fields_joined b c)
joined_again a b c =
    let put : List Field → List TypedType → Fields = λ fs ts. record { fields = fs; made = ts } in
    ap₂ put (append_assoc a.fields b.fields c.fields) (append_assoc a.made b.made c.made)

pub join_again : (a b c : Option Fields) → join_fields (join_fields a b) c ≡ join_fields a (join_fields b c)
join_again None b c = refl
join_again (Some a) None c = refl
join_again (Some a) (Some b) None = refl
join_again (Some a) (Some b) (Some c) = ap Some (joined_again a b c)

pub join_start : (n : Option Fields) → join_fields (Some (record { fields = []; made = [] })) n ≡ n
join_start None = refl
join_start (Some a) = refl

abbrev together : Typing → List Field → Fields
together t fs = record { fields = fs; made = t.made }

with_node_of : (t : Option Typing) (fs : Option (List Field)) → (if_sound (paired t fs) (λ p. sound (together p.0 p.1))).node ≡ fields_made t fs
with_node_of None fs = refl
with_node_of (Some t) None = refl
with_node_of (Some t) (Some fs) = refl

pub with_node : (u : Around) (base : Option (Option TypeRef)) (before : List (List ℕ)) (ds : List IdentDef) (t : Judged Typing) → (with_fields u base before ds t).node ≡ fields_made t.node (fields_in u base before ds t.node).node
with_node u base before ds t = with_node_of t.node (fields_in u base before ds t.node).node

pub with_notes : (b : Notebook) (u : Around) (base : Option (Option TypeRef)) (before : List (List ℕ)) (ds : List IdentDef) (t : Judged Typing) → book_after (book_after b t.notes) (fields_in u base before ds t.node).notes ≡ book_after b (with_fields u base before ds t).notes
with_notes b u base before ds t = two_parts b t.notes (fields_in u base before ds t.node).notes (paired t.node (fields_in u base before ds t.node).node) (λ p. together p.0 p.1)

record_node_of : (u : Around) (name : List ℕ) (m : Mark) (b : Option (Option TypeRef)) (fs : Option Fields) → (if_sound (paired b fs) (λ p. sound (typed_as u name (record_desc m p.0 p.1.fields) p.1.made))).node ≡ record_made u name m b fs
record_node_of u name m None fs = refl
record_node_of u name m (Some b) None = refl
record_node_of u name m (Some b) (Some fs) = refl

pub record_node : (u : Around) (name : List ℕ) (m : Mark) (lists : List WrittenFields) (base : Judged (Option TypeRef)) → (record_with u name m lists base).node ≡ record_made u name m base.node (field_lists u name base.node [] lists).node
record_node u name m lists base = record_node_of u name m base.node (field_lists u name base.node [] lists).node

pub record_notes : (b : Notebook) (u : Around) (name : List ℕ) (m : Mark) (lists : List WrittenFields) (base : Judged (Option TypeRef)) → book_after (book_after b base.notes) (field_lists u name base.node [] lists).notes ≡ book_after b (record_with u name m lists base).notes
record_notes b u name m lists base = two_parts b base.notes (field_lists u name base.node [] lists).notes (paired base.node (field_lists u name base.node [] lists).node) (λ p. typed_as u name (record_desc m p.0 p.1.fields) p.1.made)
