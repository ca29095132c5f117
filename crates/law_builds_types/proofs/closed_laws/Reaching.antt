-- The types of a module that its interface leads to are those that are reached, in however many steps.
use Rattle.std.proofs.Common.{◌≡◌, ◌⊎◌, ⊎_elim, inl, inr, true, List, [], ◌∷◌, ◌++◌, map as each, Option, Some, None, refl, sym, ap, subst, ◌∙◌}
use Rattle.std.specs.List.{filter, flat_map}
use Rattle.ob_tree.specs.declared.names.QName.{QName}
use Rattle.ob_types.specs.declared.desc.Desc.{Desc}
use Rattle.ob_types.specs.declared.typed.TypedType.{TypedType}
use Rattle.ob_types.specs.TypedSyntax.{Module}
use Rattle.ob_types.specs.Maps.{signature_types}
use Rattle.ob_desc.specs.Grammar.{is_shown, same_object}
use Rattle.ob_desc.specs.Laws.{object_decides}
use Rattle.ob_layout.specs.LaidOut.{type_named, is_own}
use Rattle.ob_env.specs.Shown.{is_visible}
use Rattle.ob_uses_roots.specs.Counts.{own_name}
use Rattle.ob_uses_roots.specs.Noted.{names_of}
use Rattle.law_simulation_relation.proofs.Names.{bytes_same}
use Rattle.ob_uses.specs.declared.way.Way.TheVariants as way
use Rattle.ob_uses.specs.Closed.{is_among, of_found, reached_from}
use Rattle.ob_uses.specs.Reaching.{Reaches, first, onward, AreEnough}
use Rattle.ob_uses.specs.Objects.{own_names, first_shown, signature_of, is_exported, shown_types, reached_types}
use Rattle.ob_uses.specs.Ways.{leads_by, desc_leads}
use Rattle.ob_uses.proofs.Searching.{either, in_which, exact_here}
use Rattle.ob_uses.proofs.Pairing.{has_of_among, kept_only}
use Rattle.ob_uses.proofs.Objecting.{full_name, named_there, length_each}

module _ (m : Module) where
  -- what the types of the module lead to, as the interface shows them
  abbrev pub leads : QName → List QName
  leads = leads_by way.Shown (λ q. type_named m.types q.object) m.name

  own_each : (ts : List TypedType) (q : QName) → is_among (each (own_name m) ts) q ≡ true → is_own m q ≡ true
  own_each [] q e = absurd cc
  own_each (t ∷ ts) q e = ⊎_elim
      (λ i. ap (is_own m) ((object_decides q (own_name m t)).0 i) ∙ bytes_same m.name)
      (λ k. own_each ts q k)
      (either (same_object q (own_name m t)) (is_among (each (own_name m) ts) q) e)

  own_kept : (qs : List QName) (q : QName) → is_among (filter (is_own m) qs) q ≡ true → is_own m q ≡ true
  own_kept qs q e = (kept_only (is_own m) q qs (has_of_among (filter (is_own m) qs) q e)).1

  first_own : (q : QName) → is_among (first_shown m) q ≡ true → is_own m q ≡ true
  first_own q e =
      let us : List QName = each (own_name m) (filter (λ t. is_visible t.desc) m.types) in
      let vs : List QName = own_names m (each (λ v. v.of) (filter (λ v. is_shown v.mark) m.variables)) in
      let ps : List QName = own_names m (flat_map (λ p. signature_types (signature_of p)) (filter is_exported m.procedures)) in
      ⊎_elim
      (λ k. ⊎_elim
      (λ i. own_each (filter (λ t. is_visible t.desc) m.types) q i)
      (λ i. own_kept (names_of (each (λ v. v.of) (filter (λ v. is_shown v.mark) m.variables))) q i)
      (in_which us vs q k))
      (λ k. own_kept (names_of (flat_map (λ p. signature_types (signature_of p)) (filter is_exported m.procedures))) q k)
      (in_which (us ++ vs) ps q e)

  led_own : (p q : QName) (o : Option Desc) → is_among (of_found (desc_leads way.Shown m.name p) o) q ≡ true → is_own m q ≡ true
  led_own p q None e = absurd cc
  led_own p q (Some d) e = own_kept (names_of (shown_types d)) q e

  abbrev pub IsReached : QName → Type 0
  IsReached q = Reaches leads (first_shown m) q

  own_reached : (q : QName) → IsReached q → is_own m q ≡ true
  own_reached q (first e) = first_own q e
  own_reached q (onward {p} r l) = led_own p q (type_named m.types p.object) l

  enough_at : (q : QName) (o : Option Desc) → type_named m.types q.object ≡ o → is_own m q ≡ true → (of_found (desc_leads way.Shown m.name q) o ≡ []) ⊎ (is_among (each (own_name m) m.types) q ≡ true)
  enough_at q None e own = inl refl
  enough_at q (Some d) e own = inr (subst (λ (p : QName). is_among (each (own_name m) m.types) p ≡ true) (sym (full_name m q own)) (named_there m q.object m.types d e))

  enough : AreEnough leads (first_shown m) (each (own_name m) m.types)
  enough q r = enough_at q (type_named m.types q.object) refl (own_reached q r)

  pub to_reached : (q : QName) → is_among (reached_types m) q ≡ true → IsReached q
  to_reached q e = (exact_here leads (first_shown m) (each (own_name m) m.types) enough q).0 (ap (λ k. is_among (reached_from leads k (first_shown m)) q) (length_each (own_name m) m.types) ∙ e)

  pub from_reached : (q : QName) → IsReached q → is_among (reached_types m) q ≡ true
  from_reached q r = sym (ap (λ k. is_among (reached_from leads k (first_shown m)) q) (length_each (own_name m) m.types)) ∙ (exact_here leads (first_shown m) (each (own_name m) m.types) enough q).1 r
