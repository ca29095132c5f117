-- A checked module: each method of its records is introduced by one of its procedures.
use Rattle.std.proofs.Common.{◌≡◌, refl, sym, ap, ◌∙◌, subst, ℕ, Bool, true, false, List, [], ◌∷◌, ◌++◌, Option, Some, None, inl, inr}
use Rattle.std.specs.Prelude.{bytes_eq}
use Rattle.std.specs.List.{AllByRecursion, find}
use Rattle.std.specs.Option.{option_map}
use Rattle.std.proofs.lemmas.Slice.Eq.{bytes_eq-Decides}
use Rattle.ob_tree.specs.declared.names.QName.{QName}
use Rattle.ob_tree.specs.declared.ident.Ident.{Ident}
use Rattle.ob_tree.specs.declared.decl.Module.{Module as Tree}
use Rattle.ob_tree.specs.declared.decl.Receiver.{Receiver as RawReceiver}
use Rattle.ob_types.specs.declared.types.Signature.{Signature}
use Rattle.ob_types.specs.declared.desc.Desc.{Desc}
use Rattle.ob_types.specs.declared.desc.Method.{Method}
use Rattle.ob_types.specs.declared.desc.Receiver.{Receiver}
use Rattle.ob_types.specs.declared.desc.Receiver.TheVariants as receiver
use Rattle.ob_types.specs.declared.typed.Binding.{Binding as BoundTo}
use Rattle.ob_types.specs.declared.typed.TypedType.{TypedType}
use Rattle.ob_types.specs.declared.typed.TypedParameter.{TypedParameter}
use Rattle.ob_types.specs.declared.typed.TypedProcedure.{TypedProcedure}
use Rattle.ob_types.specs.declared.typed.TypedModule.{TypedModule}
use Rattle.ob_rules.specs.Judged.{no_notes}
use Rattle.ob_rules.specs.Shapes.{Map, Member, AMethod, member}
use Rattle.ob_rules.specs.Names.{Around, map_of, is_out}
use Rattle.ob_rules.specs.Types.{Parameters, nothing, with_types}
use Rattle.ob_rules.specs.Headings.{WrittenHeading, Head, Heads, BoundAs, Binding, bound_in, owner_if, head_of, declared_head, known_behind, name_twice, types_of, add_heading, counts, counted, signature_if, signature_or_none, self_by, self_parameter, new_method, bind_records, bindings, reversed}
use Rattle.ob_rules.specs.Declarations.{Contents, Written_procedure, declaration, binding_at, around_body, with_bound, self_parameters, binding_of, bound_to, procedure_judged, procedures_judged, headings_in_order, described, all_described, typed_procedure, no_contents}
use Rattle.law_typing_forms.specs.Said.{IsOneOf}
use Rattle.law_typing.specs.Makes.{IfThere}
use Rattle.law_names_distinct.specs.Distinct.{AreDistinct}
use Rattle.law_names_distinct.proofs.Blocks.{not_out}
use Rattle.law_spelling.specs.Raw.{decl_named}
use Rattle.law_names_procedures.proofs.Judges.{Has}
use Rattle.law_body_context.specs.Judged.{AreOf}
use Rattle.law_body_context.proofs.Lists.{one_left, one_right, one_all, all_of}
use Rattle.law_body_context.proofs.Standing.{Lies}
use Rattle.law_body_context.proofs.Headings.{Aligned}
use Rattle.law_body_context.proofs.Receivers.{received_as, IsBoundAmong, bound_in_order}
use Rattle.law_body_context.proofs.Blocks.{procedures_bound}
use Rattle.law_body_context.proofs.Modules.{unbroken_is}
use Rattle.law_methods_introduced.proofs.Binding.{HasRecord, desc_in}
use Rattle.law_methods_introduced.proofs.Heads.{IsHeaded}
use Rattle.law_methods_introduced.proofs.Blocks as outward
use Rattle.law_methods_introduced.proofs.Families as families
use Rattle.law_local_methods.specs.Laws.{with_own, IsOwned}
use Rattle.law_local_module.proofs.Bound.{IsJudged}
use Rattle.law_methods_bound.specs.Matched.{HeadingsAre}
use Rattle.law_methods_bound.proofs.Judged.{headings_are_judged}
use Rattle.law_methods_bound.proofs.Procedures.{map_same}
use Rattle.law_methods_bound.specs.Bound.{methods_of}
use Rattle.law_methods_bound.proofs.Typings.{IsRaw, AreRaw, MakeRaw}
use Rattle.law_methods_bound.proofs.Heads.{GoodHead}
use Rattle.law_methods_bound.proofs.Blocks.{reversed_good}
use Rattle.law_methods_bound.proofs.Binding.{one_filtered}
use Rattle.law_methods_bound.proofs.Modules.{parts, M, whole, made, imports, plain, ps, hs, heads, B, w, judged, imports_are, plain_is, level, heads_are, known_raw, aligned, all_types, among, found_has}
use Rattle.law_methods_bound.specs.There.{passed_as, Receives, IsIntroduced, type_in, MethodsAreIntroduced}
use Rattle.law_methods_bound.proofs.Introduced.{IsReady, IsNew, AreNew, bindings_new, Says, records_say, found_one, one_found}
use Rattle.law_lists.proofs.Lists.{all_both}

-- ---- a bound heading has a name for its receiver

abbrev pub IsSelfed : Head → Type 0
IsSelfed h = (b : BoundAs) → h.bound ≡ Some b → (x : Ident) × (h.self ≡ Some x)

receiver_selfed : (u : Around) (r : Option RawReceiver) (b : BoundAs) → bound_in (owner_if u r).node ≡ Some b → (x : Ident) × (option_map (λ (r : RawReceiver). r.ident) r ≡ Some x)
receiver_selfed u None b e = absurd cc
receiver_selfed u (Some r) b e = (r.ident, refl)

head_selfed : (u : Around) (h : WrittenHeading) (forward : Bool) → IsSelfed (head_of u h forward)
head_selfed u h forward b e = receiver_selfed u h.receiver b e

declared_selfed : (twice : Bool) (h : Head) (u : Around) → IsSelfed h → IsSelfed (declared_head twice h u)
declared_selfed true h u s = s
declared_selfed false h u s = s

pub heads_selfed : (xs : List Written_procedure) (ys : Heads) → AllByRecursion IsSelfed ys.before → AllByRecursion IsSelfed (headings_in_order xs ys).before
heads_selfed [] ys s = s
heads_selfed (p ∷ xs) ys s =
    let d = head_of ys.around p.heading p.forward in
    let u = with_types ys.around (types_of d.parameters) in
    let t = name_twice u ys.before d in
    heads_selfed xs (add_heading ys p.heading p.forward) (declared_selfed t d (known_behind u t d) (head_selfed ys.around p.heading p.forward), s)

-- ---- the procedure of a heading

abbrev typed_of : Map → Head → Parameters → Contents → TypedProcedure
typed_of types h q c = record {
  name = h.path;
  mark = h.mark;
  «pos» = h.at;
  binding = bound_to types h h.bound;
  parameters = self_parameters h h.self h.bound ++ q.parameters;
  result = q.signature.result;
  locals = c.variables;
  body = c.body;
}

abbrev HasTyped : Map → Head → Parameters → List TypedProcedure → Type 0
HasTyped types h q xs = (c : Contents) × IsOneOf xs (typed_of types h q c)

typed_there : (types : Map) (h : Head) (o : Option Parameters) (c : Contents) (q : Parameters) → o ≡ Some q → HasTyped types h q (typed_procedure types h o c)
typed_there types h None c q e = absurd cc
typed_there types h (Some r) c q e = let same : r ≡ q = cc in (c, inl (ap (λ x. typed_of types h x c) same))

judged_there : (u : Around) (p : Written_procedure) (h : Head) (q : Parameters) → h.parameters ≡ Some q → (forward : Bool) → forward ≡ false → HasTyped (map_of u) h q (procedure_judged u p h forward).contents.procedures
judged_there u p h q e true f = absurd cc
judged_there u p h q e false f =
    let c = (p.inside (around_body u h)).contents in
    let r = typed_there (map_of u) h h.parameters c q e in
    (r.0, one_left (typed_procedure (map_of u) h h.parameters c) c.procedures (typed_of (map_of u) h q r.0) r.1)

heading_typed : (u : Around) (xs : List Written_procedure) (ys : List Head) → Aligned xs ys → (h : Head) → IsOneOf ys h → (q : Parameters) → h.parameters ≡ Some q → h.forward ≡ false → HasTyped (map_of u) h q (procedures_judged u xs ys).contents.procedures
heading_typed u [] [] a h i q e f = absurd i
heading_typed u [] (g ∷ ys) a h i q e f = absurd a
heading_typed u (p ∷ xs) [] a h i q e f = absurd a
heading_typed u (p ∷ xs) (g ∷ ys) a h (inl d) q e f =
    let same : g.parameters ≡ Some q = ap (λ (x : Head). x.parameters) d ∙ e in
    let r = judged_there u p g q same p.forward (sym a.0 ∙ ap (λ (x : Head). x.forward) d ∙ f) in
    let all = (procedure_judged u p g p.forward).contents.procedures in
    let rest = (procedures_judged u xs ys).contents.procedures in
    subst (λ (x : Head). HasTyped (map_of u) x q (all ++ rest)) d (r.0, one_left all rest (typed_of (map_of u) g q r.0) r.1)
heading_typed u (p ∷ xs) (g ∷ ys) a h (inr i) q e f =
    let r = heading_typed u xs ys a.1 h i q e f in
    let all = (procedure_judged u p g p.forward).contents.procedures in
    let rest = (procedures_judged u xs ys).contents.procedures in
    (r.0, one_right all rest (typed_of (map_of u) h q r.0) r.1)

-- ---- receivers

self_passed : (x : Ident) (b : BoundAs) (k : Receiver) → (self_by x b k).passing ≡ passed_as k
self_passed x b receiver.Record = refl
self_passed x b receiver.Pointer = refl

self_of_type : (x : Ident) (b : BoundAs) (k : Receiver) → (self_by x b k).of ≡ b.of
self_of_type x b receiver.Record = refl
self_of_type x b receiver.Pointer = refl

-- ---- a module that breaks no rule

module _ (shown : QName → Option Desc) (tree : Tree) (out : is_out (M shown tree).name ≡ false) (named : AllByRecursion (λ d. decl_named d ≡ true) tree.decls) (quiet : (whole shown tree out).notes.broken ≡ []) (differ : AreDistinct (λ t. t.name) (M shown tree).types) (is : HeadingsAre (hs shown tree out).around (heads shown tree out)) where
  abbrev U : Around
  U = (hs shown tree out).around

  abbrev all : List Head
  all = heads shown tree out

  abbrev m : TypedModule
  m = M shown tree

  abbrev last : List TypedType
  last = (bindings U all).own

  unit_is : U.unit ≡ m.name
  unit_is = (outward.heads_gain (ps shown tree out) (outward.start shown tree named)).unit ∙ (outward.plain_is shown tree named).unit ∙ (outward.imports_are shown tree named).unit

  plain_unit : (plain shown tree out).around.unit ≡ m.name
  plain_unit = (outward.plain_is shown tree named).unit ∙ (outward.imports_are shown tree named).unit

  plain_shown : (plain shown tree out).around.shown ≡ shown
  plain_shown = (outward.plain_is shown tree named).shown ∙ (outward.imports_are shown tree named).shown

  own_differ : AreDistinct (λ t. t.name) U.own
  own_differ = outward.own_differ shown tree named quiet (outward.undescribed (whole shown tree out).contents.bound (whole shown tree out).contents.types differ)

  headed : AllByRecursion (IsHeaded U.unit U.own) all
  headed = subst (AllByRecursion (IsHeaded U.unit U.own)) (sym (outward.heads_are (ps shown tree out) (outward.start shown tree named))) (outward.headed_all shown tree named own_differ)

  in_all : (h : Head) → IsOneOf (counted all) h → IsOneOf all h
  in_all h i = one_filtered (counts all) all h i

  record_at : (h : Head) → IsHeaded U.unit U.own h → (b : BoundAs) → h.bound ≡ Some b → HasRecord U.own b.owner.object
  record_at h (inl k) b e = absurd (none (sym k.0 ∙ e))
    where
      none : None ≡ Some b → ⊥
      none e = absurd cc
  record_at h (inr k) b e =
      let both : Some k.0 ≡ Some b = sym k.1.0 ∙ e in
      let same : k.0 ≡ b = cc in
      subst (λ (x : BoundAs). HasRecord U.own x.owner.object) same k.1.1.1.1

  ready : (h : Head) → IsOneOf (counted all) h → IsReady U h
  ready h i = record {
    whole = (one_all IsJudged (counted all) h is.judged i).0;
    own = λ b e. subst (IsOwned U.unit) e (one_all (λ (h : Head). IsOwned U.unit h.bound) (counted all) h is.owned i);
    record_is = λ b e. record_at h (one_all (IsHeaded U.unit U.own) all h headed (in_all h i)) b e;
  }

  abbrev New : List ℕ → Method → Type 0
  New x k = IsNew U (counted all) ready last x k

  all_new : AreNew U (counted all) ready last last
  all_new = bindings_new U all ready (known_raw shown tree out)

  final : B shown tree out ≡ bindings U all
  final = ap (λ p. binding_at (nothing p) U all) (level shown tree out)

  found : (b : BoundAs) (h : Head) (k : Method) → member (with_own U last) b.owner h.name ≡ Some (AMethod b.owner k) → member (map_of (w shown tree out)) b.owner h.name ≡ Some (AMethod b.owner k)
  found b h k e =
      ap (λ g. member g b.owner h.name) (map_same U (B shown tree out))
      ∙ (ap (λ (x : Binding). member (with_own U x.own) b.owner h.name) final ∙ e)

  -- types that headings know are types of the module
  told : (own : List TypedType) → Lies own U.own → Says own m.types
  told own lies x d n e =
      let f = found_one own x d e in
      let known : desc_in U.own x ≡ Some d = subst (λ y. desc_in U.own y ≡ Some d) f.1.1.0 (one_found U.own own_differ f.0 (lies f.0 f.1.0) ∙ ap (λ (z : Desc). Some z) f.1.1.1) in
      let behind : desc_in last x ≡ Some d = records_say U (counted all) (record { own = U.own; bound = []; notes = no_notes }) (reversed U.own) x d n known in
      families.own_there shown tree named quiet x d (ap (λ (z : Binding). desc_in z.own x) final ∙ behind)

  selfed : AllByRecursion IsSelfed all
  selfed = reversed_good IsSelfed (hs shown tree out).before (heads_selfed (ps shown tree out) (record { around = (plain shown tree out).around; before = [] }) tt)

  received : AllByRecursion (λ (h : Head). IfThere (IsBoundAmong m.name shown U.own) h.bound) all
  received = reversed_good (λ (h : Head). IfThere (IsBoundAmong m.name shown U.own) h.bound) (hs shown tree out).before
      (bound_in_order m.name shown (ps shown tree out) (record { around = (plain shown tree out).around; before = [] }) plain_unit plain_shown tt)

  receives : (x : Ident) (b : BoundAs) → IsBoundAmong m.name shown U.own b → Receives m.name shown m.types b.owner b.receiver (self_parameter x b)
  receives x b i = record {
    passed = self_passed x b b.receiver;
    w = i.w;
    unit_is = i.unit_is;
    shown_is = i.shown_is;
    told = told i.w.own i.lies;
    is = ap (λ t. received_as (map_of i.w) b.receiver t) (self_of_type x b b.receiver) ∙ i.is;
  }

  -- the procedure of a heading that introduces a method
  introduced : (h : Head) → IsOneOf (counted all) h → (b : BoundAs) → h.bound ≡ Some b → member (with_own U last) b.owner h.name ≡ Some (AMethod b.owner (new_method h b)) → (o : Option Parameters) → h.parameters ≡ o → Has (λ p. Unit {0}) o → IsIntroduced shown m b.owner (new_method h b)
  introduced h i b e f None g has = absurd has
  introduced h i b e f (Some q) g has =
      let here = in_all h i in
      let types = map_of (w shown tree out) in
      let r = heading_typed (w shown tree out) (ps shown tree out) all (aligned shown tree out) h here q g (ready h i).whole in
      let x = one_all IsSelfed all h selfed here b e in
      let good = one_all (GoodHead []) all h (reversed_good (GoodHead []) (hs shown tree out).before (heads_are shown tree out).before) here in
      let makes : MakeRaw q = subst (IfThere MakeRaw) g good.parameters in
      let sig : (new_method h b).signature ≡ q.signature = ap (λ o. signature_or_none (signature_if o)) g in
      let bound_among : IsBoundAmong m.name shown U.own b = subst (IfThere (IsBoundAmong m.name shown U.own)) e (one_all (λ (h : Head). IfThere (IsBoundAmong m.name shown U.own) h.bound) all h received here) in
      record {
        p = typed_of types h q r.0;
        there = among shown tree out quiet (typed_of types h q r.0) r.1;
        name = good.named b e;
        binding = ap (bound_to types h) e ∙ ap (binding_of b.owner b) (found b h (new_method h b) f);
        self = self_parameter x.0 b;
        rest = q.parameters;
        parameters = ap (λ s. self_parameters h s h.bound ++ q.parameters) x.1 ∙ ap (λ o. self_parameters h (Some x.0) o ++ q.parameters) e;
        receives = receives x.0 b bound_among;
        are = subst (λ (s : Signature). AreOf q.parameters s.params) (sym sig) makes.1;
        result = ap (λ (s : Signature). s.result) (sym sig);
      }

  from_new : (x : List ℕ) (k : Method) → New x k → IsIntroduced shown m (record { «module» = m.name; object = x }) k
  from_new x k n =
      let unit : n.b.owner.«module» ≡ m.name = (bytes_eq-Decides n.b.owner.«module» U.unit).0 ((ready n.h n.there).own n.b n.bound) ∙ unit_is in
      let owner : n.b.owner ≡ record { «module» = m.name; object = x } =
      ap (λ (y : List ℕ). let q : QName = record { «module» = y; object = n.b.owner.object } in q) unit
      ∙ ap (λ (y : List ℕ). let q : QName = record { «module» = m.name; object = y } in q) (sym n.name) in
      let it = introduced n.h n.there n.b n.bound n.found n.h.parameters refl (one_all IsJudged (counted all) n.h is.judged n.there).1 in
      subst (λ q. IsIntroduced shown m q k) owner (subst (IsIntroduced shown m n.b.owner) (sym n.is) it)

  abbrev Good : TypedType → Type 0
  Good t = AllByRecursion (IsIntroduced shown m (type_in m t)) (methods_of t.desc)

  abbrev TypeNew : TypedType → Type 0
  TypeNew t = AllByRecursion (New t.name) (methods_of t.desc)

  all_bound : AllByRecursion TypeNew (whole shown tree out).contents.bound
  all_bound =
      let b = B shown tree out in
      let j = judged shown tree out in
      let p = plain shown tree out in
      subst (λ bs. AllByRecursion TypeNew (bs ++ (p.part.contents.bound ++ (b.own ++ (j.contents.bound ++ []))))) (sym (imports_are shown tree out).bound)
      (subst (λ bs. AllByRecursion TypeNew (bs ++ (b.own ++ (j.contents.bound ++ [])))) (sym (plain_is shown tree out).bound)
      (all_both TypeNew b.own (j.contents.bound ++ []) (subst (λ (x : Binding). AllByRecursion TypeNew x.own) (sym final) all_new)
      (subst (λ bs. AllByRecursion TypeNew (bs ++ [])) (sym (procedures_bound (λ v. Unit {0}) shown m no_contents out (w shown tree out) (ps shown tree out) all)) tt)))

  described_good : (t : TypedType) → IsRaw t → (o : Option TypedType) → IfThere (λ b. TypeNew b × (bytes_eq b.name t.name ≡ true)) o → Good (described o t)
  described_good t e None h = subst (AllByRecursion (IsIntroduced shown m (type_in m t))) (sym e.0) tt
  described_good t e (Some b) h =
      let same : b.name ≡ t.name = (bytes_eq-Decides b.name t.name).0 h.1 in
      all_of (New b.name) (IsIntroduced shown m (type_in m t)) (methods_of b.desc) (λ k n. from_new t.name k (subst (λ x. New x k) same n)) h.0

  types_good : (ts : List TypedType) → AreRaw ts → AllByRecursion Good (all_described (whole shown tree out).contents.bound ts)
  types_good [] h = tt
  types_good (t ∷ ts) h = (described_good t h.0 (find (λ b. bytes_eq b.name t.name) (whole shown tree out).contents.bound) (found_has shown tree out quiet TypeNew (λ b. bytes_eq b.name t.name) (whole shown tree out).contents.bound all_bound), types_good ts h.1)

  pub methods_good : AllByRecursion Good m.types
  methods_good = types_good (whole shown tree out).contents.types (all_types shown tree out)

pub methods_introduced : MethodsAreIntroduced
methods_introduced shown tree m bases plainly e differ named =
    let k = unbroken_is (parts shown tree).notes.broken (M shown tree) m e in
    let out : is_out (M shown tree).name ≡ false = ap (λ (x : TypedModule). is_out x.name) k.1 ∙ not_out shown tree m e in
    subst (λ (x : TypedModule). AllByRecursion (λ t. AllByRecursion (IsIntroduced shown x (type_in x t)) (methods_of t.desc)) x.types) k.1
    (methods_good shown tree out named k.0 (subst (λ (x : TypedModule). AreDistinct (λ t. t.name) x.types) (sym k.1) differ) (headings_are_judged shown tree m bases plainly e))
