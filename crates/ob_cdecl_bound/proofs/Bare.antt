-- What is seen of the headings is enough for what is bound.
use Rattle.std.proofs.Common.{◌≡◌, ℕ, Bool, true, false, List, [], ◌∷◌, map, Option, Some, None, refl, ap, ◌∙◌, cond}
use Rattle.std.specs.Prelude.{◌&&◌, bytes_eq, is_some, is_none}
use Rattle.std.specs.List.{filter, find}
use Rattle.std.specs.Option.{option_map}
use Rattle.ob_types.specs.declared.desc.Method.{Method}
use Rattle.ob_types.specs.declared.typed.TypedType.{TypedType}
use Rattle.ob_tree.specs.declared.names.QName.{QName}
use Rattle.ob_rules.specs.declared.notes.Notebook.{Notebook}
use Rattle.ob_rules.specs.Books.{book_after}
use Rattle.ob_rules.specs.Judged.{no_notes}
use Rattle.ob_rules.specs.Shapes.{Map, Member, AField, AMethod, member}
use Rattle.ob_rules.specs.Names.{Around, map_of}
use Rattle.ob_rules.specs.Headings.{Head, BoundAs, Binding, bind_one, bind_by, bind_method, redefined, bind_all, bind_records, bindings, counts, counts_if, counted, of_record, answers, reversed}
use Rattle.ob_rules.specs.Declarations.{with_bound}
use Rattle.ob_cdecl_heading.specs.declared.head.Head.{Head as Kept}
use Rattle.ob_cdecl_heading.specs.Kept.{AreKept, seen, bare}
use Rattle.ob_cdecl_heading.proofs.HeadLaws.{are_seen}
use Rattle.ob_cdecl_heading.proofs.ForwardLaws.{bare_answer}

bare_redefined : (s : Binding) (h : Head) (b : BoundAs) (d : Bool) → redefined d s (bare h) b ≡ redefined d s h b
bare_redefined s h b true = refl
bare_redefined s h b false = refl

bare_method : (u : Around) (map : Map) (s : Binding) (h : Head) (b : BoundAs) (q : QName) (m : Method) (d : Bool) → bind_method d u map s (bare h) b q m ≡ bind_method d u map s h b q m
bare_method u map s h b q m true = refl
bare_method u map s h b q m false = bare_redefined s h b _

bare_by : (u : Around) (map : Map) (s : Binding) (h : Head) (b : BoundAs) (m : Option Member) → bind_by u map s (bare h) b m ≡ bind_by u map s h b m
bare_by u map s h b None = refl
bare_by u map s h b (Some (AField q f)) = refl
bare_by u map s h b (Some (AMethod q m)) = bare_method u map s h b q m (bytes_eq q.object b.owner.object && bytes_eq q.«module» u.unit)

bare_one : (u : Around) (s : Binding) (h : Head) (o : Option BoundAs) → bind_one u s (bare h) o ≡ bind_one u s h o
bare_one u s h None = refl
bare_one u s h (Some b) = let m = map_of (record u { own = s.own }) in bare_by u m s h b (member m b.owner h.name)

bare_all : (u : Around) (name : List ℕ) (s : Binding) (hs : List Head) → bind_all u s (filter (of_record name) (map bare hs)) ≡ bind_all u s (filter (of_record name) hs)
bare_all u name s [] = refl
bare_all u name s (h ∷ hs) = go (of_record name h) (λ k. bare_all u name k hs)
  where
    go : (b : Bool) → ((k : Binding) → bind_all u k (filter (of_record name) (map bare hs)) ≡ bind_all u k (filter (of_record name) hs)) → bind_all u s (cond b (bare h ∷ filter (of_record name) (map bare hs)) (filter (of_record name) (map bare hs))) ≡ bind_all u s (cond b (h ∷ filter (of_record name) hs) (filter (of_record name) hs))
    go true r = ap (λ k. bind_all u k (filter (of_record name) (map bare hs))) (bare_one u s h h.bound) ∙ r (bind_one u s h h.bound)
    go false r = r s

bare_records : (u : Around) (hs : List Head) (s : Binding) (ts : List TypedType) → bind_records u (map bare hs) s ts ≡ bind_records u hs s ts
bare_records u hs s [] = refl
bare_records u hs s (t ∷ ts) = ap (λ k. bind_records u (map bare hs) k ts) (bare_all u t.name s hs) ∙ bare_records u hs (bind_all u s (filter (of_record t.name) hs)) ts

none_bare : (o : Option Head) → is_none (option_map bare o) ≡ is_none o
none_bare None = refl
none_bare (Some h) = refl

bare_counts : (all : List Head) (h : Head) → counts (map bare all) (bare h) ≡ counts all h
bare_counts all h = ap (λ b. h.is_bound && is_some h.bound && b) (go h.forward)
  where
    go : (f : Bool) → counts_if f (map bare all) (bare h) ≡ counts_if f all h
    go true = ap is_none (bare_answer h all) ∙ none_bare (find (answers h) all)
    go false = refl

bare_counted : (all hs : List Head) → filter (counts (map bare all)) (map bare hs) ≡ map bare (filter (counts all) hs)
bare_counted all [] = refl
bare_counted all (h ∷ hs) = ap (λ b. cond b (bare h ∷ filter (counts (map bare all)) (map bare hs)) (filter (counts (map bare all)) (map bare hs))) (bare_counts all h) ∙ go (counts all h) (bare_counted all hs)
  where
    go : (b : Bool) → filter (counts (map bare all)) (map bare hs) ≡ map bare (filter (counts all) hs) → cond b (bare h ∷ filter (counts (map bare all)) (map bare hs)) (filter (counts (map bare all)) (map bare hs)) ≡ map bare (cond b (h ∷ filter (counts all) hs) (filter (counts all) hs))
    go true r = ap (λ l. bare h ∷ l) r
    go false r = r

bare_bindings : (u : Around) (hs : List Head) → bindings u (map bare hs) ≡ bindings u hs
bare_bindings u hs =
    let s : Binding = record { own = u.own; bound = []; notes = no_notes } in
    ap (λ l. bind_records u l s (reversed u.own)) (bare_counted hs hs) ∙ bare_records u (counted hs) s (reversed u.own)

bindings_seen : (u : Around) (n : ℕ) (hs : List Kept) (ss : List Head) → AreKept n hs ss → bindings u (map seen hs) ≡ bindings u ss
bindings_seen u n hs ss k = ap (bindings u) (are_seen n hs ss k) ∙ bare_bindings u ss

pub around_bound : (u v : Around) (n : ℕ) (hs : List Kept) (ss : List Head) → AreKept n hs ss → v ≡ with_bound u (bindings u (map seen hs)) → v ≡ with_bound u (bindings u ss)
around_bound u v n hs ss k e = e ∙ ap (with_bound u) (bindings_seen u n hs ss k)

pub notes_bound : (u : Around) (n : ℕ) (hs : List Kept) (ss : List Head) (b c : Notebook) → AreKept n hs ss → c ≡ book_after b (bindings u (map seen hs)).notes → c ≡ book_after b (bindings u ss).notes
notes_bound u n hs ss b c k e = e ∙ ap (λ x. book_after b x.notes) (bindings_seen u n hs ss k)
