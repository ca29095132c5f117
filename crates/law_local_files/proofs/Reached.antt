-- The uses of a module are the same by maps that agree on what it uses.
use Rattle.std.proofs.Common.{◌≡◌, ℕ, List, [], ◌∷◌, ◌++◌, Bool, true, ◌&&◌, length, Option, Some, None, map as each, refl, sym, ap, ◌∙◌, subst, ⊎_elim, inl, inr}
use Rattle.std.specs.Option.{option_map}
use Rattle.std.specs.List.{AllByRecursion, filter, flat_map}
use Rattle.ob_tree.specs.declared.names.QName.{QName}
use Rattle.ob_types.specs.declared.desc.Desc.{Desc}
use Rattle.ob_types.specs.declared.desc.Desc.TheVariants as desc
use Rattle.ob_types.specs.declared.face.Aspect.{Aspect}
use Rattle.ob_types.specs.declared.face.Aspect.TheVariants.{Shape, Layout}
use Rattle.ob_types.specs.declared.typed.Binding.{Binding}
use Rattle.ob_types.specs.Relations.{is_record}
use Rattle.ob_types.specs.AssigningTests.{described as is_described}
use Rattle.ob_types.specs.TypedSyntax.{Procedure, Module}
use Rattle.ob_layout.specs.Lists.{in_order}
use Rattle.ob_uses_roots.specs.Counts.{Count, counts_of_mentioned, counts_of_type, counts_of_variable, counts_of_parameter, shapes, counts_of_method, counts_of_binding, counts_of_procedure, counts_of_all, counts_of_module}
use Rattle.ob_types.specs.Maps.{listed}
use Rattle.ob_uses_roots.specs.Noted.{names_of, shape_starts, layout_starts}
use Rattle.ob_env.specs.Faces.{Wanted}
use Rattle.ob_uses.specs.declared.pair.Pair.{Pair}
use Rattle.ob_uses.specs.declared.way.Way.TheVariants as way
use Rattle.ob_uses.specs.Order.{by_pair, pairs_total}
use Rattle.ob_uses.specs.Uses.{is_imported, with_kept, pairs_of}
use Rattle.ob_uses.specs.Ways.{leads_by, desc_leads, paired, AreAllNames}
use Rattle.ob_uses.specs.Closed.{is_among, of_found, reached_from}
use Rattle.ob_uses.specs.Reaching.{Reaches, first, onward, AreEnough}
use Rattle.ob_uses.proofs.SamePairs.{pair_same}
use Rattle.ob_uses.proofs.Sorting.{Has, same_order}
use Rattle.ob_uses.proofs.Searching.{exact_here}
use Rattle.ob_uses.proofs.Pairing.{has_of_among, among_of_has, join_has, has_left, has_right, kept_only, kept_has, all_enough}
use Rattle.law_local_files.specs.Agreeing.{Map, Agree, as_shape}
use Rattle.law_local_files.specs.Read.{BindingRead, ProcedureRead}
use Rattle.law_local_files.proofs.Told.{method_told}

-- ---- what is reached

-- it is the same where the leads of all that is reached are the same
pub reaches_told : (leads others : QName → List QName) (starts : List QName) (P : QName → Type 0) → ((q : QName) → is_among starts q ≡ true → P q) → ((p q : QName) → P p → is_among (leads p) q ≡ true → P q) → ((p : QName) → P p → leads p ≡ others p) → (q : QName) → Reaches leads starts q → Reaches others starts q × P q
reaches_told leads others starts P begin closed same q (first i) = (first i, begin q i)
reaches_told leads others starts P begin closed same q (onward {p = p} r i) =
    let h = reaches_told leads others starts P begin closed same p r in
    (onward h.0 (subst (λ l. is_among l q ≡ true) (same p h.1) i), closed p q h.1 i)

pub reaches_back : (leads others : QName → List QName) (starts : List QName) (P : QName → Type 0) → ((q : QName) → is_among starts q ≡ true → P q) → ((p q : QName) → P p → is_among (leads p) q ≡ true → P q) → ((p : QName) → P p → leads p ≡ others p) → (q : QName) → Reaches others starts q → Reaches leads starts q × P q
reaches_back leads others starts P begin closed same q r =
    reaches_told others leads starts P begin (λ p q h i. closed p q h (subst (λ l. is_among l q ≡ true) (sym (same p h)) i)) (λ p h. sym (same p h)) q r

near_shape : (m : List ℕ) (p : QName) (o : Option Desc) → of_found (desc_leads way.Near m p) o ≡ of_found (desc_leads way.Near m p) (option_map as_shape o)
near_shape m p None = refl
near_shape m p (Some (desc.Const v)) = refl
near_shape m p (Some (desc.Var k t)) = refl
near_shape m p (Some (desc.Proc s)) = refl
near_shape m p (Some (desc.Alias k t)) = refl
near_shape m p (Some (desc.Array k n t)) = refl
near_shape m p (Some (desc.OpenArray k t)) = refl
near_shape m p (Some (desc.Pointer k t)) = refl
near_shape m p (Some (desc.ProcType k s)) = refl
near_shape m p (Some (desc.Record r)) = refl

-- ---- pairs

pub record Source (g : QName → Pair) (qs : List QName) (z : Pair) : Type 0 where
  pub q : QName
  pub there : Has q qs
  pub is : z ≡ g q

pub each_only : (g : QName → Pair) (z : Pair) (qs : List QName) → Has z (each g qs) → Source g qs z
unfolding Has
each_only g z [] h = absurd h
each_only g z (x ∷ qs) (inl e) = record { q = x; there = inl refl; is = e }
each_only g z (x ∷ qs) (inr h) = let s = each_only g z qs h in record { q = s.q; there = inr s.there; is = s.is }

each_has : (g : QName → Pair) (q : QName) (qs : List QName) → Has q qs → Has (g q) (each g qs)
unfolding Has
each_has g q [] h = absurd h
each_has g q (x ∷ qs) (inl e) = inl (ap g e)
each_has g q (x ∷ qs) (inr h) = inr (each_has g q qs h)

-- what is found in one search is found in the other
moved : (leads others : QName → List QName) (starts names those : List QName) → AreEnough leads starts names → AreEnough others starts those → (a : Aspect) (f g : QName → Bool) → ((q : QName) → Reaches leads starts q → f q ≡ true → Reaches others starts q × (g q ≡ true)) → (z : Pair) → Has z (each (paired a) (filter f (reached_from leads (length names) starts))) → Has z (each (paired a) (filter g (reached_from others (length those) starts)))
moved leads others starts names those enough rest a f g to z h =
    let s = each_only (paired a) z (filter f (reached_from leads (length names) starts)) h in
    let k = kept_only f s.q (reached_from leads (length names) starts) s.there in
    let r = (exact_here leads starts names enough s.q).0 (among_of_has (reached_from leads (length names) starts) s.q k.0) in
    let t = to s.q r k.1 in
    let there : Has s.q (reached_from others (length those) starts) = has_of_among (reached_from others (length those) starts) s.q ((exact_here others starts those rest s.q).1 t.0) in
    subst (λ (p : Pair). Has p (each (paired a) (filter g (reached_from others (length those) starts)))) (sym s.is) (each_has (paired a) s.q (filter g (reached_from others (length those) starts)) (kept_has g s.q (reached_from others (length those) starts) there t.1))

module _ (map other : Map) (m : Module) (Shapes Layouts : QName → Type 0) (agree : Agree map other m.name Shapes Layouts) where
  near_same : (p : QName) → Shapes p → leads_by way.Near map m.name p ≡ leads_by way.Near other m.name p
  near_same p on = near_shape m.name p (map p) ∙ ap (of_found (desc_leads way.Near m.name p)) (agree.shapes p on) ∙ sym (near_shape m.name p (other p))

  flat_same : (p : QName) → Layouts p → leads_by way.Flat map m.name p ≡ leads_by way.Flat other m.name p
  flat_same p on = ap (of_found (desc_leads way.Flat m.name p)) (agree.layouts p on)

  -- ---- what counts

  binding_same : (b : Option Binding) → BindingRead Shapes Layouts b → counts_of_binding map b ≡ counts_of_binding other b
  binding_same None on = refl
  binding_same (Some b) on = ap counts_of_method (method_told map other m.name Shapes Layouts agree b.family.owner b.family.name on)

  procedure_same : (p : Procedure) → ProcedureRead Shapes Layouts p → counts_of_procedure map p ≡ counts_of_procedure other p
  procedure_same p on = ap (λ k. flat_map counts_of_parameter p.parameters ++ shapes (listed p.result) ++ flat_map counts_of_variable p.locals ++ k ++ counts_of_all p.body) (binding_same p.binding on.binding)

  procedures_same : (ps : List Procedure) → AllByRecursion (ProcedureRead Shapes Layouts) ps → flat_map (counts_of_procedure map) ps ≡ flat_map (counts_of_procedure other) ps
  procedures_same [] all = refl
  procedures_same (p ∷ ps) all = ap (λ k. k ++ flat_map (counts_of_procedure map) ps) (procedure_same p all.0) ∙ ap (λ k. counts_of_procedure other p ++ k) (procedures_same ps all.1)

  pub counts_same : AllByRecursion (ProcedureRead Shapes Layouts) m.procedures → counts_of_module map m ≡ counts_of_module other m
  counts_same all = ap (λ k. counts_of_mentioned m ++ flat_map (counts_of_type m) m.types ++ flat_map counts_of_variable m.variables ++ k ++ counts_of_all m.body) (procedures_same m.procedures all)

  -- ---- the pairs

  module _ (all : AllByRecursion (ProcedureRead Shapes Layouts) m.procedures) (near : (q : QName) → is_among (names_of (shape_starts (counts_of_module map m))) q ≡ true → Shapes q) (flat : (q : QName) → is_among (names_of (layout_starts (counts_of_module map m))) q ≡ true → Layouts q) (names those : List QName) (held : AreAllNames map names) (holds : AreAllNames other those) where
    abbrev ss : List QName
    ss = names_of (shape_starts (counts_of_module map m))

    abbrev ls : List QName
    ls = names_of (layout_starts (counts_of_module map m))

    abbrev is_laid : Map → QName → Bool
    is_laid types q = is_imported m q && is_described is_record (types q)

    near_to : (q : QName) → Reaches (leads_by way.Near map m.name) ss q → is_imported m q ≡ true → Reaches (leads_by way.Near other m.name) ss q × (is_imported m q ≡ true)
    near_to q r i = ((reaches_told (leads_by way.Near map m.name) (leads_by way.Near other m.name) ss Shapes near agree.near near_same q r).0, i)

    near_back : (q : QName) → Reaches (leads_by way.Near other m.name) ss q → is_imported m q ≡ true → Reaches (leads_by way.Near map m.name) ss q × (is_imported m q ≡ true)
    near_back q r i = ((reaches_back (leads_by way.Near map m.name) (leads_by way.Near other m.name) ss Shapes near agree.near near_same q r).0, i)

    flat_to : (q : QName) → Reaches (leads_by way.Flat map m.name) ls q → is_laid map q ≡ true → Reaches (leads_by way.Flat other m.name) ls q × (is_laid other q ≡ true)
    flat_to q r i = let h = reaches_told (leads_by way.Flat map m.name) (leads_by way.Flat other m.name) ls Layouts flat agree.flat flat_same q r in (h.0, ap (λ d. is_imported m q && is_described is_record d) (sym (agree.layouts q h.1)) ∙ i)

    flat_back : (q : QName) → Reaches (leads_by way.Flat other m.name) ls q → is_laid other q ≡ true → Reaches (leads_by way.Flat map m.name) ls q × (is_laid map q ≡ true)
    flat_back q r i = let h = reaches_back (leads_by way.Flat map m.name) (leads_by way.Flat other m.name) ls Layouts flat agree.flat flat_same q r in (h.0, ap (λ d. is_imported m q && is_described is_record d) (agree.layouts q h.1) ∙ i)

    pairs_by : Map → List QName → List Count → List Pair
    pairs_by types ns cs =
        each (paired Shape) (filter (is_imported m) (reached_from (leads_by way.Near types m.name) (length ns) (names_of (shape_starts cs))))
        ++ each (paired Layout) (filter (is_laid types) (reached_from (leads_by way.Flat types m.name) (length ns) (names_of (layout_starts cs))))

    pub pairs_told : pairs_of map (length names) m ≡ pairs_of other (length those) m
    unfolding pairs_by
    pairs_told =
        let ne = all_enough way.Near map m.name ss names held in
        let no = all_enough way.Near other m.name ss those holds in
        let fe = all_enough way.Flat map m.name ls names held in
        let fo = all_enough way.Flat other m.name ls those holds in
        let us : List Pair = each (paired Shape) (filter (is_imported m) (reached_from (leads_by way.Near map m.name) (length names) ss)) in
        let vs : List Pair = each (paired Layout) (filter (is_laid map) (reached_from (leads_by way.Flat map m.name) (length names) ls)) in
        let xs : List Pair = each (paired Shape) (filter (is_imported m) (reached_from (leads_by way.Near other m.name) (length those) ss)) in
        let ys : List Pair = each (paired Layout) (filter (is_laid other) (reached_from (leads_by way.Flat other m.name) (length those) ls)) in
        same_order pairs_total pair_same (us ++ vs) (xs ++ ys)
        (λ z h. ⊎_elim
        (λ (a : Has z us). has_left z xs ys (moved (leads_by way.Near map m.name) (leads_by way.Near other m.name) ss names those ne no Shape (is_imported m) (is_imported m) near_to z a))
        (λ (b : Has z vs). has_right z xs ys (moved (leads_by way.Flat map m.name) (leads_by way.Flat other m.name) ls names those fe fo Layout (is_laid map) (is_laid other) flat_to z b))
        (join_has z us vs h))
        (λ z h. ⊎_elim
        (λ (a : Has z xs). has_left z us vs (moved (leads_by way.Near other m.name) (leads_by way.Near map m.name) ss those names no ne Shape (is_imported m) (is_imported m) near_back z a))
        (λ (b : Has z ys). has_right z us vs (moved (leads_by way.Flat other m.name) (leads_by way.Flat map m.name) ls those names fo fe Layout (is_laid other) (is_laid map) flat_back z b))
        (join_has z xs ys h))
        ∙ ap (λ cs. in_order by_pair (pairs_by other those cs)) (counts_same all)

-- ---- uses

pub kept_told : {K : Type 0} (has holds : QName → Aspect → Option K) (ps : List Pair) → ((p : Pair) → Has p ps → has p.object p.aspect ≡ holds p.object p.aspect) → flat_map (with_kept has) ps ≡ flat_map (with_kept holds) ps
unfolding Has
kept_told has holds [] same = refl
kept_told has holds (p ∷ ps) same =
    ap (λ o. listed (option_map (λ k. record { object = p.object; aspect = p.aspect; kept = k }) o) ++ flat_map (with_kept has) ps) (same p (inl refl))
    ∙ ap (λ k. with_kept holds p ++ k) (kept_told has holds ps (λ z h. same z (inr h)))

-- a pair that has something kept stands among the uses
pub wanted_in : {K : Type 0} (has : QName → Aspect → Option K) (Q : Wanted K → Type 0) (ps : List Pair) → AllByRecursion Q (flat_map (with_kept has) ps) → (p : Pair) → Has p ps → (k : K) → has p.object p.aspect ≡ Some k → Q (record { object = p.object; aspect = p.aspect; kept = k })
unfolding Has
wanted_in has Q [] all p h k e = absurd h
wanted_in has Q (x ∷ ps) all p (inl i) k e = (subst (λ o. AllByRecursion Q (listed (option_map (λ k. record { object = p.object; aspect = p.aspect; kept = k }) o) ++ flat_map (with_kept has) ps)) e (subst (λ (z : Pair). AllByRecursion Q (with_kept has z ++ flat_map (with_kept has) ps)) (sym i) all)).0
wanted_in {K} has Q (x ∷ ps) all p (inr h) k e = wanted_in has Q ps (rest (has x.object x.aspect) all) p h k e
  where
    rest : (o : Option K) → AllByRecursion Q (listed (option_map (λ k. record { object = x.object; aspect = x.aspect; kept = k }) o) ++ flat_map (with_kept has) ps) → AllByRecursion Q (flat_map (with_kept has) ps)
    rest None a = a
    rest (Some k) a = a.1
