-- The names of bound procedures.
use Rattle.std.proofs.Common.{◌≡◌, inl, inr, Bool, true, false, List, [], ◌∷◌, ◌++◌, Option, Some, None, refl, sym, ap, ◌∙◌, subst}
use Rattle.std.specs.Prelude.{codes}
use Rattle.ob_types.specs.declared.desc.Method.{Method}
use Rattle.ob_types.specs.declared.typed.Binding.{Binding as BoundTo}
use Rattle.ob_types.specs.declared.typed.TypedProcedure.{TypedProcedure}
use Rattle.ob_rules.specs.Shapes.{Map, Member, AField, AMethod, member}
use Rattle.ob_rules.specs.Names.{Around, map_of}
use Rattle.ob_rules.specs.Headings.{path_by, bound_in, owner_if, WrittenHeading, Head, Heads, BoundAs, head_of, declared_head, bindings, add_heading}
use Rattle.ob_rules.specs.Declarations.{Written_procedure, with_bound, bound_to, binding_of}
use Rattle.law_methods_introduced.proofs.Binding.{Among}
use Rattle.law_methods_introduced.proofs.Chains.{member_comes, found_name}
use Rattle.law_methods_introduced.proofs.Blocks.{imports_are, plain_is, next_like, next_twice, heads_of, IsHidden, TypedSo, procedures_good, behind, start, ps}
use Rattle.law_program_image.specs.Named.{IsNamed, BindingsAreNamed}

-- ---- a heading at module level is named by what it is bound to

abbrev IsCalled : Head → Type 0
IsCalled h = (b : BoundAs) → h.bound ≡ Some b → h.path ≡ b.owner.object ++ codes "." ++ h.name

head_called : (u : Around) → u.path ≡ [] → (w : WrittenHeading) (forward : Bool) → IsCalled (head_of u w forward)
head_called u level w forward b e = go (owner_if u w.receiver).node refl e
  where
    go : (n : Option (Option BoundAs)) → (owner_if u w.receiver).node ≡ n → bound_in n ≡ Some b → (head_of u w forward).path ≡ b.owner.object ++ codes "." ++ w.name.ident.name
    go None i e = absurd cc
    go (Some None) i e = absurd cc
    go (Some (Some k)) i e =
        let same : k ≡ b = cc in
        ap (λ p. p ++ path_by (owner_if u w.receiver).node w.name.ident.name) level ∙ ap (λ n. path_by n w.name.ident.name) i ∙ ap (λ (z : BoundAs). z.owner.object ++ codes "." ++ w.name.ident.name) same

declared_called : (twice : Bool) (d : Head) (u : Around) → IsCalled d → IsCalled (declared_head twice d u)
declared_called true d u h = h
declared_called false d u h = h

heads_called : (xs : List Written_procedure) (hs : Heads) → hs.around.path ≡ [] → (h : Head) → Among h (heads_of xs hs) → IsCalled h
unfolding heads_of
heads_called [] hs level h i = absurd i
heads_called (p ∷ xs) hs level h (inl e) =
    let d = head_of hs.around p.heading p.forward in
    subst IsCalled e (declared_called (next_twice hs d) d _ (head_called hs.around level p.heading p.forward))
heads_called (p ∷ xs) hs level h (inr i) =
    let d = head_of hs.around p.heading p.forward in
    heads_called xs (add_heading hs p.heading p.forward) ((next_like hs d).path ∙ level) h i

-- ---- a procedure

bound_named : (f : Map) (h : Head) → IsCalled h → (k : BoundAs) → h.bound ≡ Some k → (o : Option Member) → member f k.owner h.name ≡ o → (b : BoundTo) → binding_of k.owner k o ≡ Some b → h.path ≡ b.owner.object ++ codes "." ++ b.family.name
bound_named f h called k bound None i b e = absurd cc
bound_named f h called k bound (Some (AField q x)) i b e = absurd cc
bound_named f h called k bound (Some (AMethod q m)) i b e =
    let c = member_comes f k.owner h.name q m i in
    let n : h.name ≡ m.name = sym (found_name h.name c.introduced.r.methods c.introduced.m c.introduced.found) ∙ ap (λ (z : Method). z.name) c.named in
    let w : BoundTo = record { owner = k.owner; receiver = k.receiver; family = record { owner = q; name = m.name } } in
    let same : w ≡ b = cc in
    called k bound ∙ ap (λ y. k.owner.object ++ codes "." ++ y) n ∙ ap (λ (z : BoundTo). z.owner.object ++ codes "." ++ z.family.name) same

typed_so : (U : Around) (all : List Head) → ((h : Head) → Among h all → IsCalled h) → TypedSo IsNamed U all
typed_so U all called h (inl k) a w p has c = ((λ b e. none b (sym (ap (bound_to (map_of (with_bound U (bindings U all))) h) k.0) ∙ e)), tt)
  where
    none : (b : BoundTo) → None ≡ Some b → h.path ≡ b.owner.object ++ codes "." ++ b.family.name
    none b e = absurd cc
typed_so U all called h (inr k) a w p has c =
    let f = map_of (with_bound U (bindings U all)) in
    ((λ b e. bound_named f h (called h a) k.0 k.1.0 (member f k.0.owner h.name) refl b (sym (ap (bound_to f h) k.1.0) ∙ e)), tt)

hidden : (p : TypedProcedure) → IsHidden p → IsNamed p
hidden p h b e = absurd (no (sym h.1 ∙ e))
  where
    no : None ≡ Some b → ⊥
    no e = absurd cc

pub bindings_are_named : BindingsAreNamed
bindings_are_named shown tree m e differ named =
    procedures_good IsNamed hidden shown tree m e differ named
    (λ quiet. typed_so (behind shown tree named).around (heads_of (ps shown tree named) (start shown tree named)) (heads_called (ps shown tree named) (start shown tree named) ((plain_is shown tree named).path ∙ (imports_are shown tree named).path)))
