-- Headings, and how they are kept.
use Rattle.std.proofs.Common.{◌≡◌, ℕ, zero, suc, Bool, true, false, List, [], ◌∷◌, ◌++◌, length, map, Option, Some, None, refl, sym, ap, subst, ◌∙◌, cond}
use Rattle.std.specs.Prelude.{not, ◌||◌, reverse, is_some}
use Rattle.std.specs.List.{find}
use Rattle.std.specs.Option.{option_map}
use Rattle.std.proofs.lemmas.List.{reverse-append}
use Rattle.ob_tree.specs.declared.pos.Pos.{Pos}
use Rattle.ob_tree.specs.declared.names.QName.{QName}
use Rattle.ob_tree.specs.declared.ident.Ident.{Ident}
use Rattle.ob_tree.specs.declared.ident.Mark.{Mark}
use Rattle.ob_tree.specs.declared.decl.Heading.{Heading}
use Rattle.ob_rules.specs.declared.entity.Known.{Known}
use Rattle.ob_rules.specs.declared.notes.Notebook.{Notebook}
use Rattle.ob_rules.specs.declared.broken.Rule.TheVariants as rule
use Rattle.ob_rules.specs.Books.{book_after, empty_book}
use Rattle.ob_rules.specs.Judged.{Notes, Judged, no_notes, joined, broken_at, both, paired}
use Rattle.ob_rules.specs.Names.{Around}
use Rattle.ob_rules.specs.Types.{Parameters, with_types, marked}
use Rattle.ob_rules.specs.Headings.{BoundAs, Head, Heads, WrittenHeading, heading_of, head_of, owner_if, path_by, forward_name, bound_in, of_scope, mark_or_hidden, as_parameters, name_twice, twice_by, head_twice, bound_before, same_key, known_behind, knows_procedure, head_entity, declared_head, types_of, add_heading, reversed}
use Rattle.ob_rules.proofs.BookLaws.{after_joined}
use Rattle.ob_cdecl_field.specs.declared.made.Parameters.{Parameters as Made}
use Rattle.ob_cdecl_field.specs.Makes.{parameters_of}
use Rattle.ob_cdecl_scopes.specs.Bodies.{names_in}
use Rattle.ob_cdecl_heading.specs.declared.head.BoundAs.{BoundAs as BoundTo}
use Rattle.ob_cdecl_heading.specs.declared.head.Head.{Head as Kept}
use Rattle.ob_cdecl_heading.specs.Kept.{IsKept, AreKept, seen, bare, bound_seen, owner_seen}
use Rattle.ob_cdecl_heading.specs.Sections.{sections_of}

-- A HEADING BY ITSELF

abbrev pub put : Pos → List ℕ → Bool → Bool → Option BoundAs → Mark → List ℕ → Option Ident → Option Parameters → List Known → Head
put at name forward bound_at_all bound m path x p inside = record { at = at; name = name; forward = forward; is_bound = bound_at_all; bound = bound; mark = m; path = path; self = x; parameters = p; notes = no_notes; inside = inside; known = [] }

same_put : (at : Pos) (name : List ℕ) (forward is : Bool) (x : Option Ident) {b c : Option BoundAs} {m n : Mark} {path way : List ℕ} {p q : Option Parameters} {ks ls : List Known} → b ≡ c → m ≡ n → path ≡ way → p ≡ q → ks ≡ ls → put at name forward is b m path x p ks ≡ put at name forward is c n way x q ls
same_put at name forward is x {b = b} {c = c} {m = m} {n = n} {path = path} {way = way} {p = p} {q = q} {ks = ks} {ls = ls} e f g h i =
    ap (λ y. put at name forward is y m path x p ks) e ∙ ap (λ y. put at name forward is c y path x p ks) f ∙ ap (λ y. put at name forward is c n y x p ks) g ∙ ap (λ y. put at name forward is c n way x y ks) h ∙ ap (λ y. put at name forward is c n way x q y) i

-- what a heading comes to, by its parts
pub record Parts (u : Around) (h : Heading) (forward : Bool) (m : Option Mark) (ob : Option (Option BoundAs)) (path name : List ℕ) (found : Option Parameters) : Type 0 where
  pub mark : m ≡ (marked u false h.name).node
  pub owner : ob ≡ (owner_if u h.receiver).node
  pub path_is : path ≡ u.path ++ path_by ob h.name.ident.name
  pub name_is : name ≡ forward_name forward path
  pub found_is : found ≡ (sections_of u h ob name).found.node

pub head_seen : (u : Around) (h : Heading) (forward : Bool) (m : Option Mark) (ob : Option (Option BoundAs)) (path name : List ℕ) (found : Option Parameters) (inside : List Known)
    → Parts u h forward m ob path name found → inside ≡ of_scope u.scope (sections_of u h ob name).known
    → put h.name.ident.«pos» h.name.ident.name forward (is_some h.receiver) (bound_in ob) (mark_or_hidden m) path (option_map (λ r. r.ident) h.receiver) (as_parameters (paired (paired m ob) found)) inside ≡ bare (head_of u (heading_of h) forward)
head_seen u h forward m ob path name found inside p e =
    let x = h.name.ident.name in
    let b = (owner_if u h.receiver).node in
    let way : Option (Option BoundAs) → List ℕ = λ o. forward_name forward (u.path ++ path_by o x) in
    let named : name ≡ way ob = p.name_is ∙ ap (forward_name forward) p.path_is in
    let F : Option (Option BoundAs) → Option Parameters = λ o. (sections_of u h o (way o)).found.node in
    let K : Option (Option BoundAs) → List Known = λ o. of_scope u.scope (sections_of u h o (way o)).known in
    let fs : found ≡ F b = p.found_is ∙ ap (λ n. (sections_of u h ob n).found.node) named ∙ ap F p.owner in
    let ks : inside ≡ K b = e ∙ ap (λ n. of_scope u.scope (sections_of u h ob n).known) named ∙ ap K p.owner in
    let ps : as_parameters (paired (paired m ob) found) ≡ as_parameters (paired (paired (marked u false h.name).node b) (F b)) =
    ap (λ y. as_parameters (paired (paired y ob) found)) p.mark ∙ ap (λ y. as_parameters (paired (paired (marked u false h.name).node y) found)) p.owner ∙ ap (λ y. as_parameters (paired (paired (marked u false h.name).node b) y)) fs in
    same_put h.name.ident.«pos» x forward (is_some h.receiver) (option_map (λ r. r.ident) h.receiver) (ap bound_in p.owner) (ap mark_or_hidden p.mark) (p.path_is ∙ ap (λ o. u.path ++ path_by o x) p.owner) ps ks

pub head_noted : (u : Around) (h : Heading) (forward : Bool) (m : Option Mark) (ob : Option (Option BoundAs)) (path name : List ℕ) (found : Option Parameters) (a b c d : Notebook)
    → Parts u h forward m ob path name found → a ≡ empty_book → b ≡ book_after a (marked u false h.name).notes → c ≡ book_after b (owner_if u h.receiver).notes → d ≡ book_after c (sections_of u h ob name).found.notes
    → d ≡ book_after empty_book (head_of u (heading_of h) forward).notes
head_noted u h forward m ob path name found a b c d p new e f g =
    let x = h.name.ident.name in
    let way : Option (Option BoundAs) → List ℕ = λ o. forward_name forward (u.path ++ path_by o x) in
    let named : name ≡ way ob = p.name_is ∙ ap (forward_name forward) p.path_is in
    let N : Option (Option BoundAs) → Notes = λ o. (sections_of u h o (way o)).found.notes in
    let mn = (marked u false h.name).notes in
    let bn = (owner_if u h.receiver).notes in
    g ∙ ap (λ n. book_after c (sections_of u h ob n).found.notes) named ∙ ap (λ o. book_after c (N o)) p.owner
    ∙ ap (λ k. book_after k (N (owner_if u h.receiver).node)) (f ∙ ap (λ k. book_after k bn) (e ∙ ap (λ k. book_after k mn) new) ∙ after_joined empty_book mn bn)
    ∙ after_joined empty_book (joined mn bn) (N (owner_if u h.receiver).node)

-- ALL THAT ARE KEPT

pub are_seen : (n : ℕ) (hs : List Kept) (ss : List Head) → AreKept n hs ss → map seen hs ≡ map bare ss
are_seen n [] [] k = refl
are_seen n [] (s ∷ ss) k = absurd k
are_seen n (h ∷ hs) [] k = absurd k
are_seen n (h ∷ hs) (s ∷ ss) k = ap (λ x. x ∷ map seen hs) k.0.same ∙ ap (λ l. bare s ∷ l) (are_seen n hs ss k.1)

kept_more : (n : ℕ) (hs : List Kept) (ss : List Head) (h : Kept) (s : Head) → AreKept n hs ss → IsKept n h s → AreKept n (hs ++ h ∷ []) (ss ++ s ∷ [])
kept_more n [] [] h s k e = (e, tt)
kept_more n [] (t ∷ ss) h s k e = absurd k
kept_more n (g ∷ hs) [] h s k e = absurd k
kept_more n (g ∷ hs) (t ∷ ss) h s k e = (k.0, kept_more n hs ss h s k.1 e)

map_joined : {A B : Type 0} (f : A → B) (xs ys : List A) → map f (xs ++ ys) ≡ map f xs ++ map f ys
map_joined f [] ys = refl
map_joined f (x ∷ xs) ys = ap (λ l. f x ∷ l) (map_joined f xs ys)

map_turned : {A B : Type 0} (f : A → B) (xs : List A) → map f (reverse xs) ≡ reverse (map f xs)
map_turned f [] = refl
map_turned f (x ∷ xs) = ap (map f) (reverse-append (x ∷ []) xs) ∙ map_joined f (reverse xs) (x ∷ []) ∙ ap (λ l. l ++ f x ∷ []) (map_turned f xs) ∙ sym (reverse-append (f x ∷ []) (map f xs))

turned_back : {A B : Type 0} (f : A → B) (xs : List A) → reverse (map f (reversed xs)) ≡ map f xs
turned_back f [] = refl
turned_back f (x ∷ xs) = ap reverse (map_joined f (reversed xs) (x ∷ [])) ∙ reverse-append (map f (reversed xs)) (f x ∷ []) ∙ ap (λ l. f x ∷ l) (turned_back f xs)

before_seen : (n : ℕ) (hs : List Kept) (before : List Head) → AreKept n hs (reversed before) → map seen (reverse hs) ≡ map bare before
before_seen n hs before k = map_turned seen hs ∙ ap reverse (are_seen n hs (reversed before) k) ∙ turned_back bare before

-- WHAT IS SEEN OF A HEADING IS ENOUGH

bare_before : (forward : Bool) (bs : List Head) (q : QName) (x : List ℕ) → head_twice forward (bound_before (map bare bs) q x) ≡ head_twice forward (bound_before bs q x)
bare_before forward [] q x = refl
bare_before forward (h ∷ bs) q x = go (same_key q x h) (bare_before forward bs q x)
  where
    go : (b : Bool) → head_twice forward (bound_before (map bare bs) q x) ≡ head_twice forward (bound_before bs q x) → head_twice forward (cond b (Some (bare h)) (bound_before (map bare bs) q x)) ≡ head_twice forward (cond b (Some h) (bound_before bs q x))
    go true r = refl
    go false r = r

twice_bare : (u : Around) (bs : List Head) (s : Head) → name_twice u (map bare bs) (bare s) ≡ name_twice u bs s
twice_bare u bs s = go s.is_bound s.bound
  where
    go : (p : Bool) (b : Option BoundAs) → twice_by u (map bare bs) (bare s) p b ≡ twice_by u bs s p b
    go false b = refl
    go true None = refl
    go true (Some b) = bare_before s.forward bs b.owner s.name

known_bare : (u : Around) (twice : Bool) (s : Head) → known_behind u twice (bare s) ≡ known_behind u twice s
known_bare u true s = refl
known_bare u false s = go s.is_bound
  where
    entity : (p : Option Parameters) → head_entity u (bare s) p ≡ head_entity u s p
    entity None = refl
    entity (Some p) = refl

    go : (p : Bool) → knows_procedure u (bare s) p ≡ knows_procedure u s p
    go true = refl
    go false = ap (λ e. record u { known = record { name = s.name; scope = u.scope; what = e } ∷ u.known }) (entity s.parameters)

-- ONE MORE

-- what is found when a heading is added behind those so far
pub record Adding (n : ℕ) (u v w : Around) (before : List Head) (heads : List Kept) (head : Kept) (s : Head) (twice : Bool) : Type 0 where
  pub kept : AreKept n heads (reversed before)
  pub this : IsKept n head s
  pub types : v ≡ with_types u (types_of (option_map parameters_of head.parameters))
  pub again : twice ≡ name_twice v (map seen (reverse heads)) (seen head)
  pub knows : w ≡ known_behind v twice (seen head)

types_added : (n : ℕ) (u v w : Around) (before : List Head) (heads : List Kept) (head : Kept) (s : Head) (twice : Bool) → Adding n u v w before heads head s twice → v ≡ with_types u (types_of s.parameters)
types_added n u v w before heads head s twice a = a.types ∙ ap (λ x. with_types u (types_of x.parameters)) a.this.same

twice_added : (n : ℕ) (u v w : Around) (before : List Head) (heads : List Kept) (head : Kept) (s : Head) (twice : Bool) → Adding n u v w before heads head s twice → twice ≡ name_twice (with_types u (types_of s.parameters)) before s
twice_added n u v w before heads head s twice a =
    let t = with_types u (types_of s.parameters) in
    a.again ∙ ap (λ y. name_twice y (map seen (reverse heads)) (seen head)) (types_added n u v w before heads head s twice a)
    ∙ ap (λ l. name_twice t l (seen head)) (before_seen n heads before a.kept)
    ∙ ap (λ y. name_twice t (map bare before) y) a.this.same
    ∙ twice_bare t before s

behind_added : (n : ℕ) (u v w : Around) (before : List Head) (heads : List Kept) (head : Kept) (s : Head) (twice : Bool) → Adding n u v w before heads head s twice → w ≡ known_behind (with_types u (types_of s.parameters)) (name_twice (with_types u (types_of s.parameters)) before s) s
behind_added n u v w before heads head s twice a =
    let t = with_types u (types_of s.parameters) in
    let b = name_twice t before s in
    a.knows ∙ ap (λ y. known_behind y twice (seen head)) (types_added n u v w before heads head s twice a)
    ∙ ap (λ y. known_behind t y (seen head)) (twice_added n u v w before heads head s twice a)
    ∙ ap (known_behind t b) a.this.same
    ∙ known_bare t b s

pub around_added : (hs : Heads) (h : WrittenHeading) (forward : Bool) (n : ℕ) (u v w : Around) (heads : List Kept) (head : Kept) (twice : Bool) → u ≡ hs.around → Adding n u v w hs.before heads head (head_of u h forward) twice → w ≡ (add_heading hs h forward).around
around_added hs h forward n u v w heads head twice e a =
    behind_added n u v w hs.before heads head (head_of u h forward) twice a ∙ ap (λ x. (add_heading (record { around = x; before = hs.before }) h forward).around) e

pub heads_added : (hs : Heads) (h : WrittenHeading) (forward : Bool) (n : ℕ) (u v w : Around) (heads : List Kept) (head last : Kept) (twice : Bool) → u ≡ hs.around → Adding n u v w hs.before heads head (head_of u h forward) twice → IsKept n last (declared_head twice (head_of u h forward) w) → AreKept n (heads ++ last ∷ []) (reversed (add_heading hs h forward).before)
heads_added hs h forward n u v w heads head last twice e a k =
    let s = head_of u h forward in
    let t = with_types u (types_of s.parameters) in
    let b = name_twice t hs.before s in
    let x = known_behind t b s in
    let one = subst (λ y. IsKept n last (declared_head y s w)) (twice_added n u v w hs.before heads head s twice a) k in
    let two = subst (λ y. IsKept n last (declared_head b s y)) (behind_added n u v w hs.before heads head s twice a) one in
    subst (λ y. AreKept n (heads ++ last ∷ []) (reversed (add_heading (record { around = y; before = hs.before }) h forward).before)) e (kept_more n heads (reversed hs.before) last (declared_head b s x) a.kept two)

-- WHERE IT IS DECLARED

pub kept_again : (n : ℕ) (head : Kept) (s : Head) (u : Around) (book : Notebook) (behind : ℕ) → IsKept n head s → book ≡ book_after head.notes (broken_at rule.DeclaredTwice head.at) → behind ≡ length u.known → IsKept n (record head { parameters = None; notes = book; behind = behind }) (declared_head true s u)
kept_again n head s u book behind k e f =
    let F : Head → Head = λ x. record x { parameters = None } in
    let N : Head → Notebook = λ x. book_after (book_after empty_book s.notes) (broken_at rule.DeclaredTwice x.at) in
    let M : Notebook → Notebook = λ x. book_after x (broken_at rule.DeclaredTwice head.at) in
    let p = ap F k.same in
    let q = e ∙ ap M k.notes ∙ ap N k.same ∙ after_joined empty_book s.notes (broken_at rule.DeclaredTwice s.at) in
    record { same = p; notes = q; behind = f; scope = k.scope }

pub kept_anew : (n : ℕ) (head : Kept) (s : Head) (u : Around) (behind : ℕ) → IsKept n head s → behind ≡ length u.known → IsKept n (record head { behind = behind }) (declared_head false s u)
kept_anew n head s u behind k f = record { same = k.same; notes = k.notes; behind = f; scope = k.scope }
