-- A step of a loop over a list, and its end.
use Rattle.std.proofs.Common.{◌≡◌, ℕ, zero, suc, ◌+◌, ◌<◌, ◌≤◌, List, [], ◌∷◌, length, drop, get_or, refl, sym, ap, ◌∙◌, arith}
use Rattle.ob_rules.specs.declared.notes.Notebook.{Notebook}
use Rattle.ob_rules.specs.Books.{book_after}
use Rattle.ob_rules.specs.Names.{Around}
use Rattle.ob_rules.proofs.BookLaws.{after_none, after_joined}
use Rattle.std.specs.Prelude.{Bool, Option}
use Rattle.ob_tree.specs.declared.ident.Ident.{Ident}
use Rattle.ob_tree.specs.declared.ident.IdentDef.{IdentDef}
use Rattle.ob_types.specs.declared.types.Mode.{Mode}
use Rattle.ob_types.specs.declared.types.TypeRef.{TypeRef}
use Rattle.ob_types.specs.declared.desc.Field.{Field}
use Rattle.ob_rules.specs.declared.entity.Entity.{Entity}
use Rattle.ob_rules.specs.Types.{Typing, knows, new_name, field_if, fields_of, name_in, names_behind}
use Rattle.ob_cdecl_field.specs.FieldMakes.{finish, one_more, fields_in}
use Rattle.ob_cdecl_field.specs.ParameterMakes.{parameter_entity, names_declared}
use Rattle.ob_cdecl_field.proofs.FieldLaws.{each_node, each_notes}

step_by : {A : Type 0} (xs : List A) (i : ℕ) (d : A) → i < length xs → drop i xs ≡ get_or xs i d ∷ drop (suc i) xs
step_by [] i d lt = absurd (omega arith)
step_by (x ∷ xs) zero d lt = refl
step_by (x ∷ xs) (suc i) d lt = step_by xs i d (omega arith)

pub step_at : {A : Type 0} (xs : List A) (i : ℕ) (x : A) → i < length xs → x ≡ get_or xs i x → drop i xs ≡ x ∷ drop (i + 1) xs
step_at xs i x lt e =
    let same : suc i ≡ i + 1 = omega arith in
    step_by xs i x lt ∙ ap (λ y. y ∷ drop (suc i) xs) (sym e) ∙ ap (λ j. x ∷ drop j xs) same

pub end_at : {A : Type 0} (xs : List A) (i : ℕ) → length xs ≤ i → drop i xs ≡ []
end_at [] zero le = refl
end_at [] (suc i) le = refl
end_at (x ∷ xs) zero le = absurd (omega arith)
end_at (x ∷ xs) (suc i) le = end_at xs i (omega arith)

-- FIELDS

pub more_fields : (u : Around) (base : Option (Option TypeRef)) (before behind : List (List ℕ)) (d : IdentDef) (more all : List IdentDef) (t : Option Typing) (field : Option Field) (s r : Bool) (fs gs : List Field) (total : Option (List Field)) → all ≡ d ∷ more → behind ≡ name_in d ∷ before → field ≡ (field_if u base before d t).node → ((rest : Option (List Field)) → finish r gs rest ≡ finish s fs (one_more field rest)) → finish s fs (fields_in u base before all t).node ≡ total → finish r gs (fields_in u base behind more t).node ≡ total
more_fields u base before behind d more all t field s r fs gs total step pushed is collects inv =
    ap (λ b. finish r gs (fields_in u base b more t).node) pushed
    ∙ collects (fields_in u base (name_in d ∷ before) more t).node
    ∙ ap (λ f. finish s fs (one_more f (fields_in u base (name_in d ∷ before) more t).node)) is
    ∙ ap (finish s fs) (sym (each_node (field_if u base before d t) (fields_of u base (name_in d ∷ before) more t)))
    ∙ ap (λ l. finish s fs (fields_in u base before l t).node) (sym step)
    ∙ inv

pub more_field_notes : (u : Around) (base : Option (Option TypeRef)) (before behind : List (List ℕ)) (d : IdentDef) (more all : List IdentDef) (t : Option Typing) (b c total : Notebook) → all ≡ d ∷ more → behind ≡ name_in d ∷ before → c ≡ book_after b (field_if u base before d t).notes → book_after b (fields_in u base before all t).notes ≡ total → book_after c (fields_in u base behind more t).notes ≡ total
more_field_notes u base before behind d more all t b c total step pushed is inv =
    ap (λ x. book_after c (fields_in u base x more t).notes) pushed
    ∙ ap (λ k. book_after k (fields_in u base (name_in d ∷ before) more t).notes) is
    ∙ each_notes b (field_if u base before d t) (fields_of u base (name_in d ∷ before) more t)
    ∙ ap (λ l. book_after b (fields_in u base before l t).notes) (sym step)
    ∙ inv

pub more_behind : (before behind : List (List ℕ)) (d : IdentDef) (more all : List IdentDef) (total : List (List ℕ)) → all ≡ d ∷ more → behind ≡ name_in d ∷ before → names_behind all before ≡ total → names_behind more behind ≡ total
more_behind before behind d more all total step pushed inv = ap (names_behind more) pushed ∙ ap (λ l. names_behind l before) (sym step) ∙ inv

pub no_more_fields : (u : Around) (base : Option (Option TypeRef)) (before : List (List ℕ)) (all : List IdentDef) (t : Option Typing) (b total : Notebook) → all ≡ [] → book_after b (fields_in u base before all t).notes ≡ total → b ≡ total
no_more_fields u base before all t b total e inv = sym (after_none b) ∙ ap (λ l. book_after b (fields_in u base before l t).notes) (sym e) ∙ inv

-- NAMES OF PARAMETERS

pub more_known : (v w : Around) (m : Mode) (t : Option TypeRef) (x : Ident) (e : Entity) (more all : List Ident) (total : Around) → all ≡ x ∷ more → w ≡ knows v x e → e ≡ parameter_entity v m x t → (names_declared v m t all).around ≡ total → (names_declared w m t more).around ≡ total
more_known v w m t x e more all total step is what inv =
    ap (λ a. (names_declared a m t more).around) (is ∙ ap (knows v x) what)
    ∙ ap (λ l. (names_declared v m t l).around) (sym step)
    ∙ inv

pub more_name_notes : (v w : Around) (m : Mode) (t : Option TypeRef) (x : Ident) (e : Entity) (more all : List Ident) (b c total : Notebook) → all ≡ x ∷ more → w ≡ knows v x e → e ≡ parameter_entity v m x t → c ≡ book_after b (new_name v x) → book_after b (names_declared v m t all).notes ≡ total → book_after c (names_declared w m t more).notes ≡ total
more_name_notes v w m t x e more all b c total step is what noted inv =
    ap (λ a. book_after c (names_declared a m t more).notes) (is ∙ ap (knows v x) what)
    ∙ ap (λ k. book_after k (names_declared (knows v x (parameter_entity v m x t)) m t more).notes) noted
    ∙ after_joined b (new_name v x) (names_declared (knows v x (parameter_entity v m x t)) m t more).notes
    ∙ ap (λ l. book_after b (names_declared v m t l).notes) (sym step)
    ∙ inv

pub no_more_names : (v : Around) (m : Mode) (t : Option TypeRef) (all : List Ident) (b total : Notebook) → all ≡ [] → book_after b (names_declared v m t all).notes ≡ total → b ≡ total
no_more_names v m t all b total e inv = sym (after_none b) ∙ ap (λ l. book_after b (names_declared v m t l).notes) (sym e) ∙ inv
