-- Chains of types where the limit of depth is kept.
use Rattle.std.proofs.Common.{◌≡◌, ℕ, zero, suc, Bool, true, false, List, [], ◌∷◌, length, refl, sym, ap, subst, ◌∙◌}
use Rattle.std.specs.Prelude.{not, ◌||◌}
use Rattle.std.specs.List.{AllByRecursion, list_any}
use Rattle.ob_types.specs.declared.types.TypeRef.TheVariants as ref
use Rattle.ob_types.specs.declared.typed.TypedType.{TypedType}
use Rattle.ob_rules.specs.Shapes.{Map}
use Rattle.ob_rules.specs.Names.{Around, map_of, in_unit}
use Rattle.ob_rules.specs.Depth.{is_within, names_held, keep_if, kept_of, kept_within, kept, deep_among, is_deep}
use Rattle.law_names_distinct.specs.Short.{ChainsAreShort}

-- all stay where each is kept
all_kept : (f : TypedType → Bool) (ts : List TypedType) → AllByRecursion (λ t. f t ≡ true) ts → kept_of f ts ≡ ts
all_kept f [] h = refl
all_kept f (t ∷ ts) h = ap (λ b. keep_if b t (kept_of f ts)) h.0 ∙ ap (λ xs. t ∷ xs) (all_kept f ts h.1)

stay : (u : Around) (n : ℕ) → AllByRecursion (λ t. names_held (map_of u) t ≡ true) u.own → kept_within u n u.own ≡ u.own
stay u zero h = refl
stay u (suc n) h = ap (kept_within u n) (all_kept (names_held (map_of u)) u.own h) ∙ stay u n h

none_any : (f : TypedType → Bool) (ts : List TypedType) → list_any (λ t. not (f t)) ts ≡ false → AllByRecursion (λ t. f t ≡ true) ts
none_any f [] e = tt
none_any f (t ∷ ts) e = by (f t) refl e (λ e. none_any f ts e)
  where
    by : (b : Bool) → f t ≡ b → (not b || list_any (λ t. not (f t)) ts) ≡ false → (list_any (λ t. not (f t)) ts ≡ false → AllByRecursion (λ t. f t ≡ true) ts) → (f t ≡ true) × AllByRecursion (λ t. f t ≡ true) ts
    by true i e r = (i, r e)
    by false i e r = absurd cc

pub chains_are_short : ChainsAreShort
chains_are_short u h e = none_any (λ t. is_within (map_of u) 200 (ref.Named (in_unit u t.name))) u.own (ap (deep_among u) (sym (stay u (length u.own) h)) ∙ e)
