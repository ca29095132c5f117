-- The bound procedures of a checked module match the methods of their families.
use Rattle.std.proofs.Common.{◌≡◌, inl, inr, Bool, true, false, List, [], ◌∷◌, ◌++◌, Option, Some, None, refl, sym, ap, subst, ◌∙◌}
use Rattle.std.specs.Prelude.{bytes_eq}
use Rattle.std.specs.List.{AllByRecursion}
use Rattle.ob_tree.specs.declared.names.QName.{QName}
use Rattle.ob_types.specs.declared.typed.Binding.{Binding as BoundTo}
use Rattle.ob_types.specs.declared.typed.TypedProcedure.{TypedProcedure}
use Rattle.ob_rules.specs.Shapes.{Map, Member, AField, AMethod, member, same_name}
use Rattle.ob_rules.specs.Names.{Around, map_of, type_desc, out_string}
use Rattle.ob_rules.specs.Types.{Parameters}
use Rattle.ob_rules.specs.Headings.{BoundAs, Head, Binding, counts, counted, bindings}
use Rattle.ob_rules.specs.Declarations.{with_bound, bound_to, binding_of, self_parameters}
use Rattle.law_typing_forms.specs.Said.{IsOneOf}
use Rattle.law_local_methods.specs.Laws.{with_own}
use Rattle.law_methods_introduced.proofs.Binding.{Among, HasRecord, filter_among, counts_true}
use Rattle.law_methods_introduced.proofs.Blocks.{heads_of, heads_are, IsHidden, TypedSo, procedures_good, behind, start, ps}
use Rattle.law_methods_bound.specs.Matched.{HeadingsAre}
use Rattle.law_methods_bound.specs.Procedures.{IsBoundBy, ProceduresMatch}
use Rattle.law_methods_bound.proofs.Matching.{bindings_match}
use Rattle.law_methods_bound.proofs.Judged.{headings_are_judged}

-- the map with what is bound
pub map_same : (u : Around) (b : Binding) → map_of (with_bound u b) ≡ with_own u b.own
map_same u b = λ i q. go (bytes_eq q.«module» u.unit) (same_name q out_string) q i
  where
    go : (c d : Bool) (q : QName) → type_desc c d (with_bound u b) q ≡ type_desc c d (record u { own = b.own }) q
    go true d q = refl
    go false true q = refl
    go false false q = refl

one_among : {A : Type 0} (xs : List A) (x : A) → Among x xs → IsOneOf xs x
one_among [] x i = i
one_among (y ∷ ys) x (inl e) = inl e
one_among (y ∷ ys) x (inr i) = inr (one_among ys x i)

module _ (U : Around) (all : List Head) (is : HeadingsAre U all) where
  abbrev F : Map
  F = map_of (with_bound U (bindings U all))

  abbrev Good : TypedProcedure → Type 0
  Good p = (b : BoundTo) → p.binding ≡ Some b → IsBoundBy U all p b

  bound_by : (h : Head) → Among h all → h.forward ≡ false → (k : BoundAs) → h.bound ≡ Some k → h.is_bound ≡ true → bytes_eq k.owner.«module» U.unit ≡ true → HasRecord U.own k.owner.object → (q : Parameters) → h.parameters ≡ Some q →
      (p : TypedProcedure) → p.parameters ≡ self_parameters h h.self h.bound ++ q.parameters → p.result ≡ q.signature.result →
      (o : Option Member) → member F k.owner h.name ≡ o → (b : BoundTo) → binding_of k.owner k o ≡ Some b → IsBoundBy U all p b
  bound_by h a f k bound is_bound own r q has p parameters result None i b e = absurd cc
  bound_by h a f k bound is_bound own r q has p parameters result (Some (AField n x)) i b e = absurd cc
  bound_by h a f k bound is_bound own r q has p parameters result (Some (AMethod n m)) i b e =
      let w : BoundTo = record { owner = k.owner; receiver = k.receiver; family = record { owner = n; name = m.name } } in
      let same : w ≡ b = cc in
      let counted_in : IsOneOf (counted all) h = one_among (counted all) h (filter_among (counts all) h (counts_true U h k own bound f all is_bound) all a) in
      let final : member (with_own U (bindings U all).own) k.owner h.name ≡ Some (AMethod n m) = ap (λ g. member g k.owner h.name) (sym (map_same U (bindings U all))) ∙ i in
      subst (IsBoundBy U all p) same (record {
        h = h;
        there = one_among all h a;
        k = k;
        bound = bound;
        q = q;
        has = has;
        parameters = parameters ∙ ap (λ o. self_parameters h h.self o ++ q.parameters) bound;
        result = result;
        m = m;
        owner = refl;
        receiver = refl;
        name = refl;
        matches = λ never. bindings_match U all is.owned is.judged is.quiet h k counted_in bound own r n m final never;
      })

  typed_so : TypedSo Good U all
  typed_so h (inl k) a f q has c = ((λ b e. absurd (none b (sym (ap (bound_to F h) k.0) ∙ e))), tt)
    where
      none : (b : BoundTo) → None ≡ Some b → ⊥
      none b e = absurd cc
  typed_so h (inr k) a f q has c = ((λ b e. bound_by h a f k.0 k.1.0 k.1.1.0 k.1.1.1.0 k.1.1.1.1 q has _ refl refl (member F k.0.owner h.name) refl b (sym (ap (bound_to F h) k.1.0) ∙ e)), tt)

  hidden : (p : TypedProcedure) → IsHidden p → Good p
  hidden p h b e = absurd (no (sym h.1 ∙ e))
    where
      no : None ≡ Some b → ⊥
      no e = absurd cc

pub procedures_match : ProceduresMatch
procedures_match shown tree m s n e differ named =
    let U = (behind shown tree named).around in
    let all = heads_of (ps shown tree named) (start shown tree named) in
    let same = heads_are (ps shown tree named) (start shown tree named) in
    let is : HeadingsAre U all = subst (HeadingsAre U) same (headings_are_judged shown tree m s n e) in
    subst (λ xs. AllByRecursion (λ p. (b : BoundTo) → p.binding ≡ Some b → IsBoundBy U xs p b) m.procedures) (sym same)
    (procedures_good (Good U all is) (hidden U all is) shown tree m e differ named (λ quiet. typed_so U all is))
