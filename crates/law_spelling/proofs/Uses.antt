-- The uses of a module have a spelling, and rise.
use Rattle.std.proofs.Common.{◌≡◌, ℕ, ◌<◌, ◌≤◌, ◌^◌, List, [], ◌∷◌, ◌++◌, length, map, take, Option, Some, None, refl, sym, ap, subst, arith, length-append, length-take}
use Rattle.std.specs.Option.{option_map}
use Rattle.std.specs.List.{AllByRecursion, flat_map}
use Rattle.std.specs.List.Sorted.{IsStrictlySortedBy}
use Rattle.std.specs.declared.cmp.Ordering.TheVariants.{Less}
use Rattle.sha2.specs.Sha256.{sha256}
use Rattle.sha2.proofs.Facts256.{length-sha256}
use Rattle.ob_tree.specs.declared.names.QName.{QName}
use Rattle.ob_tree.specs.declared.print.Print.{Print}
use Rattle.ob_types.specs.declared.desc.Desc.{Desc}
use Rattle.ob_types.specs.declared.face.Aspect.{Aspect}
use Rattle.ob_types.specs.declared.face.Use.{Use}
use Rattle.ob_types.specs.Maps.{listed}
use Rattle.ob_types.specs.Spelled.{aspect, print_form, use_form, by_object}
use Rattle.ob_types.specs.TypedSyntax.{Module}
use Rattle.ob_format.specs.Format.{list_of, rising, byte, ◌>>=◌}
use Rattle.ob_format.specs.Names.{qname}
use Rattle.ob_desc.specs.Grammar.{text_of}
use Rattle.ob_fprint.specs.Print.{print_from}
use Rattle.ob_env.specs.Faces.{Face, Wanted, described, text_in, use_of}
use Rattle.ob_uses.specs.declared.pair.Pair.{Pair}
use Rattle.ob_uses.specs.Order.{by_pair, pairs_total}
use Rattle.ob_uses.specs.Uses.{with_kept, shape_pairs, layout_pairs, pairs_of, uses_of}
use Rattle.ob_uses_roots.specs.Counts.{counts_of_module}
use Rattle.law_spelling.specs.Laws.{Text, IsSpelled}
use Rattle.law_spelling.proofs.Lists.{order_strict, flat_many}
use Rattle.law_spelling.proofs.Names.{QNameFits, described_fits}
use Rattle.law_lists.proofs.Lists.{all_both, all_each, all_from}

abbrev pub as_print : Wanted Text → Wanted Print
as_print w = record { object = w.object; aspect = w.aspect; kept = print_from w.kept }

abbrev pub as_use : Wanted Text → Use
as_use w = use_of (as_print w)

pub print_long : (t : List ℕ) → length (take 8 (sha256 t)) ≡ 8
print_long t = let a = length-sha256 t in let b = length-take 8 (sha256 t) in omega (arith, a, b)

use_fits : (w : Wanted Text) → QNameFits w.object → use_form.fits (as_use w)
unfolding use_form qname aspect print_form
use_fits w h = ((h.«module», h.object), (tt, print_long w.kept))

-- what is kept was found
module _ (faces : List (Face Text)) (h : AllByRecursion IsSpelled faces) where
  text_fits : (q : QName) (a : Aspect) (t : Text) → text_in faces q a ≡ Some t → QNameFits q
  text_fits q a t e = go (described faces q) refl e
    where
      go : (o : Option Desc) → described faces q ≡ o → (o >>= λ d. text_of q d a) ≡ Some t → QNameFits q
      go None i e = absurd cc
      go (Some d) i e = described_fits faces h q d i

  kept_fits : (p : Pair) → AllByRecursion (λ w. QNameFits w.object) (with_kept (text_in faces) p)
  kept_fits p = go (text_in faces p.object p.aspect) refl
    where
      go : (o : Option Text) → text_in faces p.object p.aspect ≡ o → AllByRecursion (λ (w : Wanted Text). QNameFits w.object) (listed (option_map (λ k. record { object = p.object; aspect = p.aspect; kept = k }) o))
      go None e = tt
      go (Some t) e = (text_fits p.object p.aspect t e, tt)

  all_kept_fit : (ps : List Pair) → AllByRecursion (λ w. QNameFits w.object) (flat_map (with_kept (text_in faces)) ps)
  all_kept_fit [] = tt
  all_kept_fit (p ∷ ps) = all_both (λ w. QNameFits w.object) (with_kept (text_in faces) p) (flat_map (with_kept (text_in faces)) ps) (kept_fits p) (all_kept_fit ps)

module _ (has : QName → Aspect → Option Text) where
  abbrev below_kept : Pair → Use → Type 0
  below_kept p u = by_object (record { object = p.object; aspect = p.aspect; print = u.print }) u ≡ Less

  -- a use stands where its pair stands
  one_below : (q : Pair) (u : Use) → by_object u (record { object = q.object; aspect = q.aspect; print = u.print }) ≡ Less → AllByRecursion (λ w. by_object u w ≡ Less) (map as_use (with_kept has q))
  one_below q u e = go (has q.object q.aspect)
    where
      go : (o : Option Text) → AllByRecursion (λ w. by_object u w ≡ Less) (map as_use (listed (option_map (λ k. record { object = q.object; aspect = q.aspect; kept = k }) o)))
      go None = tt
      go (Some t) = (e, tt)

  mapped : (xs ys : List (Wanted Text)) → map as_use (xs ++ ys) ≡ map as_use xs ++ map as_use ys
  mapped [] ys = refl
  mapped (x ∷ xs) ys = ap (λ (l : List Use). as_use x ∷ l) (mapped xs ys)

  all_below : (p : Pair) (k : Text) (qs : List Pair) → AllByRecursion (λ q. by_pair p q ≡ Less) qs → AllByRecursion (λ w. by_object (as_use (record { object = p.object; aspect = p.aspect; kept = k })) w ≡ Less) (map as_use (flat_map (with_kept has) qs))
  all_below p k [] h = tt
  all_below p k (q ∷ qs) h =
      let u : Use = as_use (record { object = p.object; aspect = p.aspect; kept = k }) in
      subst (AllByRecursion (λ w. by_object u w ≡ Less)) (sym (mapped (with_kept has q) (flat_map (with_kept has) qs)))
      (all_both (λ w. by_object u w ≡ Less) (map as_use (with_kept has q)) (map as_use (flat_map (with_kept has) qs)) (one_below q u h.0) (all_below p k qs h.1))

  uses_rise : (ps : List Pair) → IsStrictlySortedBy by_pair ps → IsStrictlySortedBy by_object (map as_use (flat_map (with_kept has) ps))
  unfolding IsStrictlySortedBy
  uses_rise [] s = tt
  uses_rise (p ∷ ps) s = go (has p.object p.aspect) (uses_rise ps s.1)
    where
      go : (o : Option Text) → IsStrictlySortedBy by_object (map as_use (flat_map (with_kept has) ps)) → IsStrictlySortedBy by_object (map as_use (listed (option_map (λ k. record { object = p.object; aspect = p.aspect; kept = k }) o) ++ flat_map (with_kept has) ps))
      go None more = more
      go (Some t) more = (all_below p t ps s.0, more)

long_use : (u : Use) → 1 ≤ length (use_form.spell u)
unfolding use_form aspect byte
long_use u =
    let a = length-append (qname.spell u.object) (aspect.spell u.aspect ++ print_form.spell u.print) in
    let b = length-append (aspect.spell u.aspect) (print_form.spell u.print) in
    omega (arith, a, b)

pub many_uses : (us : List Use) → length us ≤ length (flat_map use_form.spell us)
many_uses us = flat_many use_form.spell long_use us

two_maps : (us : List (Wanted Text)) → map use_of (map as_print us) ≡ map as_use us
two_maps [] = refl
two_maps (u ∷ us) = ap (λ (l : List Use). as_use u ∷ l) (two_maps us)

-- THE USES have a spelling, where they are not too many
pub uses_fit : (faces : List (Face Text)) → AllByRecursion IsSpelled faces → (types : QName → Option Desc) (n : ℕ) (m : Module) →
    length (map use_of (map as_print (uses_of types n m (text_in faces)))) < 2 ^ 32 → (rising use_form by_object).fits (map use_of (map as_print (uses_of types n m (text_in faces))))
unfolding list_of
uses_fit faces h types n m few =
    let ps = pairs_of types n m in
    let us = uses_of types n m (text_in faces) in
    let fit : AllByRecursion use_form.fits (map as_use us) = all_each as_use use_form.fits us (all_from (λ w. QNameFits w.object) (λ w. use_form.fits (as_use w)) use_fits us (all_kept_fit faces h ps)) in
    let rise : IsStrictlySortedBy by_object (map as_use us) = uses_rise (text_in faces) ps (order_strict pairs_total (shape_pairs types n m (counts_of_module types m) ++ layout_pairs types n m (counts_of_module types m))) in
    ((few, subst (AllByRecursion use_form.fits) (sym (two_maps us)) fit), subst (IsStrictlySortedBy by_object) (sym (two_maps us)) rise)
