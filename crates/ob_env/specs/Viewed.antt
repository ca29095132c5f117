-- The map that a module sees: its own types, and those of its environment.
use Rattle.std.specs.Prelude.{◌≡◌, ◌⊎◌, ℕ, Bool, true, false, cond, List, [], ◌∷◌, ◌++◌, map as each, Option, Some, None, bytes_eq, refl}
use Rattle.std.specs.Option.{option_map}
use Rattle.std.specs.Cmp.Lexicographic.{bytes_decides}
use Rattle.std.proofs.Common.{sym, ap, subst, inl, inr}
use Rattle.ob_tree.specs.declared.names.QName.{QName}
use Rattle.ob_types.specs.declared.desc.Desc.{Desc}
use Rattle.ob_types.specs.declared.typed.TypedModule.{TypedModule}
use Rattle.ob_types.specs.declared.typed.TypedType.{TypedType}
use Rattle.ob_types.specs.declared.face.Interface.{Interface}
use Rattle.ob_types.specs.Maps.{IsFinite}
use Rattle.ob_types.specs.TypedView.{module_view}
use Rattle.ob_layout.specs.Index.{first_by}
use Rattle.ob_layout.specs.LaidOut.{type_named, viewed}
use Rattle.ob_env.specs.Faces.{described}
use Rattle.ob_env.specs.Faces.{faces_of}
use Rattle.ob_env.specs.Laws.{Has, contains, has_left, has_right, either, among, names_of}

-- THE MAP
abbrev pub seen_from : TypedModule → List Interface → QName → Option Desc
seen_from m env q = viewed (described (faces_of env)) (module_view m) q

abbrev pub type_names : List TypedType → List (List ℕ)
type_names ts = each (λ t. t.name) ts

-- ---- it is finite

abbrev own_names : List ℕ → List TypedType → List QName
own_names m ts = each (λ t. let q : QName = record { «module» = m; object = t.name } in q) ts

type_among : (m : List ℕ) (ts : List TypedType) (x : List ℕ) → (type_named ts x ≡ None) ⊎ Has (let q : QName = record { «module» = m; object = x } in q) (own_names m ts)
unfolding Has
type_among m [] x = inl refl
type_among m (t ∷ ts) x = go (bytes_eq x t.name) refl (type_among m ts x)
  where
    go : (b : Bool) → bytes_eq x t.name ≡ b → (type_named ts x ≡ None) ⊎ Has (let q : QName = record { «module» = m; object = x } in q) (own_names m ts) → (cond b (Some t.desc) (type_named ts x) ≡ None) ⊎ (((let q : QName = record { «module» = m; object = x } in q) ≡ (let q : QName = record { «module» = m; object = t.name } in q)) ⊎ Has (let q : QName = record { «module» = m; object = x } in q) (own_names m ts))
    go true e h = inr (inl (ap (λ (l : List ℕ). let s : QName = record { «module» = m; object = l } in s) ((bytes_decides x t.name).0 e)))
    go false e h = either (λ n. n) (λ k. inr k) h

seen_among : (m : TypedModule) (env : List Interface) (q : QName) → (seen_from m env q ≡ None) ⊎ Has q (own_names m.name m.types ++ names_of (faces_of env))
seen_among m env q = go (bytes_eq q.«module» m.name) refl
  where
    go : (b : Bool) → bytes_eq q.«module» m.name ≡ b → (cond b (type_named m.types q.object) (described (faces_of env) q) ≡ None) ⊎ Has q (own_names m.name m.types ++ names_of (faces_of env))
    go true e = either (λ n. n) (λ k. has_left q (own_names m.name m.types) (names_of (faces_of env)) (subst (λ (l : List ℕ). Has (let s : QName = record { «module» = l; object = q.object } in s) (own_names m.name m.types)) (sym ((bytes_decides q.«module» m.name).0 e)) k)) (type_among m.name m.types q.object)
    go false e = either (λ n. n) (λ k. has_right q (own_names m.name m.types) (names_of (faces_of env)) k) (among (faces_of env) q)

pub seen_finite : (m : TypedModule) (env : List Interface) → IsFinite (seen_from m env)
seen_finite m env = (own_names m.name m.types ++ names_of (faces_of env), λ q. either (λ n. n) (λ k. contains (own_names m.name m.types ++ names_of (faces_of env)) q k) (seen_among m env q))

-- ---- by an index

pub type_found : (ts : List TypedType) (x : List ℕ) → type_named ts x ≡ option_map (λ (t : TypedType). t.desc) (first_by (λ t. t.name) ts x)
type_found [] x = refl
type_found (t ∷ ts) x = go (bytes_eq x t.name) (type_found ts x)
  where
    go : (b : Bool) → type_named ts x ≡ option_map (λ (t : TypedType). t.desc) (first_by (λ t. t.name) ts x) → cond b (Some t.desc) (type_named ts x) ≡ option_map (λ (t : TypedType). t.desc) (cond b (Some t) (first_by (λ t. t.name) ts x))
    go true e = refl
    go false e = e
