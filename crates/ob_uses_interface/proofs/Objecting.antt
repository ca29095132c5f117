-- The objects that the code makes are those of the definition.
use Rattle.std.proofs.Common.{◌≡◌, ℕ, Bool, List, [], ◌∷◌, ◌++◌, map, Option, refl, sym, ap, ◌∙◌}
use Rattle.std.specs.List.{filter}
use Rattle.ob_tree.specs.declared.names.QName.{QName}
use Rattle.ob_types.specs.declared.desc.Desc.{Desc}
use Rattle.ob_types.specs.declared.face.Aspect.TheVariants.{Shape}
use Rattle.ob_types.specs.TypedSyntax.{Module}
use Rattle.ob_desc.specs.Grammar.{is_shown}
use Rattle.ob_layout.specs.Lists.{in_order}
use Rattle.ob_env.specs.Faces.{object_of}
use Rattle.ob_uses_roots.specs.Counts.{own_name}
use Rattle.ob_uses.specs.declared.pair.Pair.{Pair}
use Rattle.ob_uses_interface.specs.declared.entry.Entry.{Entry}
use Rattle.ob_uses.specs.declared.way.Way.TheVariants as way
use Rattle.ob_uses_interface.specs.Entries.{by_entry, entry_of}
use Rattle.ob_uses.specs.Objects.{by_name, first_shown, is_exported, reached_types, types_among, constant_object, variable_object, procedure_object, type_object, objects_of, HasOwnTypes}
use Rattle.ob_uses.specs.Ways.{paired, has_pair, AreReached, leads_by}
use Rattle.ob_uses.proofs.Leading.{filter_join, map_join}
use Rattle.ob_layout.proofs.Putting.{order_each}
use Rattle.ob_uses.proofs.Objecting.{types_are}

-- ---- entries part by part

pub entries_cons : {X : Type 0} (m : List ℕ) (g : X → List ℕ × Desc) (f : X → Bool) (x : X) (xs : List X) → map (entry_of m) (map g (filter f (x ∷ xs))) ≡ map (entry_of m) (map g (filter f (x ∷ []))) ++ map (entry_of m) (map g (filter f xs))
entries_cons m g f x xs =
    ap (λ l. map (entry_of m) (map g l)) (filter_join f (x ∷ []) xs)
    ∙ ap (map (entry_of m)) (map_join g (filter f (x ∷ [])) (filter f xs))
    ∙ map_join (entry_of m) (map g (filter f (x ∷ []))) (map g (filter f xs))

-- ---- all objects

map_twice : {X Y Z : Type 0} (f : X → Y) (g : Y → Z) (xs : List X) → map g (map f xs) ≡ map (λ x. g (f x)) xs
map_twice f g [] = refl
map_twice f g (x ∷ xs) = ap (λ l. g (f x) ∷ l) (map_twice f g xs)

pub objects_are : (m : Module) (types : QName → Option Desc) → HasOwnTypes types m → (starts : List QName) → starts ≡ first_shown m → (ps : List Pair) → AreReached (leads_by way.Shown types m.name) starts Shape ps → (found : List Entry)
    → found ≡ ((map (entry_of m.name) (map constant_object (filter (λ c. is_shown c.mark) m.constants)) ++ map (entry_of m.name) (map variable_object (filter (λ v. is_shown v.mark) m.variables))) ++ map (entry_of m.name) (map procedure_object (filter is_exported m.procedures))) ++ map (entry_of m.name) (map type_object (filter (λ t. has_pair ps (paired Shape (own_name m t))) m.types))
    → map (λ e. e.object) (in_order by_entry found) ≡ map (object_of m.name) (objects_of m)
objects_are m types has starts begin ps r found is =
    let cs : List (List ℕ × Desc) = map constant_object (filter (λ c. is_shown c.mark) m.constants) in
    let vs : List (List ℕ × Desc) = map variable_object (filter (λ v. is_shown v.mark) m.variables) in
    let qs : List (List ℕ × Desc) = map procedure_object (filter is_exported m.procedures) in
    let ts : List (List ℕ × Desc) = map type_object (types_among m (reached_types m)) in
    let f : List ℕ × Desc → Entry = entry_of m.name in
    let whole : found ≡ map f (((cs ++ vs) ++ qs) ++ ts) =
    is ∙ ap (λ l. ((map f cs ++ map f vs) ++ map f qs) ++ map f (map type_object l)) (types_are m types has starts begin ps r)
    ∙ ap (λ l. (l ++ map f qs) ++ map f ts) (sym (map_join f cs vs)) ∙ ap (λ l. l ++ map f ts) (sym (map_join f (cs ++ vs) qs)) ∙ sym (map_join f ((cs ++ vs) ++ qs) ts) in
    ap (λ l. map (λ e. e.object) (in_order by_entry l)) whole
    ∙ ap (map (λ e. e.object)) (order_each by_name by_entry f (λ x y. refl) (((cs ++ vs) ++ qs) ++ ts))
    ∙ map_twice f (λ (e : Entry). e.object) (in_order by_name (((cs ++ vs) ++ qs) ++ ts))
