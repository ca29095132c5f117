-- Imports in turn, and what is found of types and bound procedures.
use Rattle.std.proofs.Common.{◌≡◌, ℕ, Bool, true, false, List, [], ◌∷◌, ◌++◌, Option, Some, None, Result, IfOk, map, drop, refl, sym, ap, subst, ◌∙◌}
use Rattle.std.specs.Prelude.{bytes_eq, ◌||◌}
use Rattle.std.specs.List.{filter_map, cons_option, find}
use Rattle.std.proofs.lemmas.List.{append_assoc}
use Rattle.std.proofs.lemmas.Slice.Eq.{bytes_eq-Decides}
use Rattle.ob_tree.specs.declared.ident.Import.{Import}
use Rattle.ob_tree.specs.declared.decl.Decl.{Decl}
use Rattle.ob_tree.specs.declared.names.QName.{QName}
use Rattle.ob_types.specs.declared.desc.Desc.{Desc}
use Rattle.ob_types.specs.declared.typed.TypedType.{TypedType}
use Rattle.ob_rules.specs.declared.entity.Coming.{Coming}
use Rattle.ob_rules.specs.declared.notes.Notebook.{Notebook}
use Rattle.ob_rules.specs.Books.{book_after}
use Rattle.ob_rules.specs.Shapes.{same_name}
use Rattle.ob_rules.specs.Names.{Around, map_of, type_desc, own_desc, out_string, is_among, is_out}
use Rattle.ob_rules.specs.Declarations.{Declared, Contents, Written_procedure, together, no_contents, then_declared, imports_declared, import_if, imported, target_of, procedure_of, declaration, coming_in, described, all_described}
use Rattle.ob_rules.proofs.BookLaws.{after_none}
use Rattle.ob_cdecl.specs.Order.{one_import, added_unless, import_added, described_by, described_here, coming_by, coming_within}
use Rattle.ob_cdecl.proofs.OrderLaws.{then_around, then_notes}

pub more_imports_around : (i : Import) (more all : List Import) (v w total : Around) → all ≡ i ∷ more → w ≡ (one_import i v).around → (imports_declared all v).around ≡ total → (imports_declared more w).around ≡ total
more_imports_around i more all v w total step is inv = then_around (one_import i v) (λ x. imports_declared more x) w total is (sym (ap (λ l. (imports_declared l v).around) step) ∙ inv)

pub more_imports_notes : (i : Import) (more all : List Import) (v w : Around) (b c total : Notebook) → all ≡ i ∷ more → w ≡ (one_import i v).around → c ≡ book_after b (one_import i v).part.notes → book_after b (imports_declared all v).part.notes ≡ total → book_after c (imports_declared more w).part.notes ≡ total
more_imports_notes i more all v w b c total step is noted inv = then_notes (one_import i v) (λ x. imports_declared more x) w b c total is noted (sym (ap (λ l. book_after b (imports_declared l v).part.notes) step) ∙ inv)

pub no_more_imports_around : (all : List Import) (v total : Around) → all ≡ [] → (imports_declared all v).around ≡ total → v ≡ total
no_more_imports_around all v total e inv = ap (λ l. (imports_declared l v).around) (sym e) ∙ inv

pub no_more_imports_notes : (all : List Import) (v : Around) (b total : Notebook) → all ≡ [] → book_after b (imports_declared all v).part.notes ≡ total → b ≡ total
no_more_imports_notes all v b total e inv = sym (after_none b) ∙ ap (λ l. book_after b (imports_declared l v).part.notes) (sym e) ∙ inv

-- imports add nothing to a module
pub imports_nothing : (is : List Import) (u : Around) → (imports_declared is u).part.contents ≡ no_contents
imports_nothing [] u = refl
imports_nothing (i ∷ is) u = ap (together no_contents) (imports_nothing is (one_import i u).around)

-- THE IMPORTED MODULES

added_or : (b : Bool) (found rest : List (List ℕ)) (x : List ℕ) → added_unless b found x ++ rest ≡ found ++ import_if b x rest
added_or true found rest x = refl
added_or false found rest x = append_assoc found (x ∷ []) rest

pub more_imported : (i : Import) (more all : List Import) (found new before behind total : List (List ℕ)) → all ≡ i ∷ more → new ≡ import_added found before (target_of i).name → behind ≡ (target_of i).name ∷ before → found ++ imported before all ≡ total → new ++ imported behind more ≡ total
more_imported i more all found new before behind total step is pushed inv =
    ap (λ l. new ++ imported l more) pushed
    ∙ ap (λ l. l ++ imported ((target_of i).name ∷ before) more) is
    ∙ added_or (is_out (target_of i).name || is_among (target_of i).name before) found (imported ((target_of i).name ∷ before) more) (target_of i).name
    ∙ ap (λ l. found ++ imported before l) (sym step)
    ∙ inv

-- COMING

coming_step : (o : Option Written_procedure) (ps : List Written_procedure) → filter_map coming_in (cons_option o ps) ≡ cons_option (coming_by o) (filter_map coming_in ps)
coming_step None ps = refl
coming_step (Some p) ps = refl

put_one : {A : Type 0} (o : Option A) (xs rest : List A) → (xs ++ cons_option o []) ++ rest ≡ xs ++ cons_option o rest
put_one None xs rest = append_assoc xs [] rest
put_one (Some x) xs rest = append_assoc xs (x ∷ []) rest

pub more_coming : (d : Decl) (more all : List Decl) (found new total : List Coming) → all ≡ d ∷ more → new ≡ found ++ cons_option (coming_by (procedure_of (declaration d))) [] → found ++ coming_within all ≡ total → new ++ coming_within more ≡ total
more_coming d more all found new total step is inv =
    ap (λ l. l ++ coming_within more) is
    ∙ put_one (coming_by (procedure_of (declaration d))) found (coming_within more)
    ∙ ap (λ l. found ++ l) (sym (coming_step (procedure_of (declaration d)) (filter_map procedure_of (map declaration more))))
    ∙ ap (λ l. found ++ coming_within l) (sym step)
    ∙ inv

-- TYPES IN THE END

pub more_described : (bound : List TypedType) (t : TypedType) (more all found new total : List TypedType) → all ≡ t ∷ more → new ≡ found ++ described_here bound t ∷ [] → found ++ all_described bound all ≡ total → new ++ all_described bound more ≡ total
more_described bound t more all found new total step is inv =
    ap (λ l. l ++ all_described bound more) is
    ∙ append_assoc found (described_here bound t ∷ []) (all_described bound more)
    ∙ ap (λ l. found ++ all_described bound l) (sym step)
    ∙ inv

own_is : (u : Around) (x : List ℕ) → map_of u (record { «module» = u.unit; object = x }) ≡ own_desc (find (λ t. bytes_eq t.name x) u.own)
own_is u x =
    let q : QName = record { «module» = u.unit; object = x } in
    ap (λ b. type_desc b (same_name q out_string) u q) ((bytes_eq-Decides u.unit u.unit).1 refl)

described_own : (o : Option TypedType) (t : TypedType) → described_by (own_desc o) t ≡ described o t
described_own None t = refl
described_own (Some b) t = refl

pub described_is : (u : Around) (t : TypedType) → described_by (map_of u (record { «module» = u.unit; object = t.name })) t ≡ described_here u.own t
described_is u t = ap (λ o. described_by o t) (own_is u t.name) ∙ described_own (find (λ b. bytes_eq b.name t.name) u.own) t

pub described_ok : {F : Type 0} (r : Result TypedType F) (u : Around) (t : TypedType) (o : Option Desc) (q : QName) → o ≡ map_of u q → q ≡ record { «module» = u.unit; object = t.name } → IfOk r (λ x. x ≡ described_by o t) → IfOk r (λ x. x ≡ described_here u.own t)
described_ok r u t o q e f h =
    let P : TypedType → Type 0 = λ y. IfOk r (λ x. x ≡ y) in
    subst P (ap (λ y. described_by y t) (e ∙ ap (map_of u) f) ∙ described_is u t) h
