-- A bound procedure of a program is like the method of its family.
use Rattle.std.proofs.Common.{◌≡◌, refl, sym, ap, ◌∙◌, subst, ℕ, List, [], ◌∷◌, map as each, Option, Some, inl, inr}
use Rattle.std.specs.Prelude.{Bool, true, false, bytes_eq, cond}
use Rattle.std.specs.List.{AllByRecursion}
use Rattle.ob_tree.specs.declared.names.QName.{QName}
use Rattle.ob_tree.specs.declared.ident.Ident.{Ident}
use Rattle.ob_types.specs.declared.types.Mode.{Mode}
use Rattle.ob_types.specs.declared.types.TypeRef.{TypeRef}
use Rattle.ob_types.specs.declared.types.Signature.{Signature}
use Rattle.ob_types.specs.declared.desc.Desc.{Desc}
use Rattle.ob_types.specs.declared.desc.Method.{Method}
use Rattle.ob_types.specs.declared.desc.Receiver.{Receiver}
use Rattle.ob_types.specs.declared.desc.Receiver.TheVariants as receiver
use Rattle.ob_types.specs.declared.typed.Family.{Family}
use Rattle.ob_types.specs.declared.typed.Passing.{Passing}
use Rattle.ob_types.specs.declared.typed.TypedParameter.{TypedParameter}
use Rattle.ob_types.specs.Maps.{listed, signature_types}
use Rattle.ob_types.specs.TypedSyntax.{Procedure}
use Rattle.ob_meaning.specs.Values.{Program, procedure_of}
use Rattle.ob_meaning.specs.Meaning.{declared_for}
use Rattle.ob_layout.specs.Members.{method_named}
use Rattle.law_simulation_relation.specs.Typed.{ReceiverOk, result_form}
use Rattle.law_simulation_relation.proofs.Names.{bytes_true}
use Rattle.law_simulation_calls.specs.Signatures.{Alike}
use Rattle.ob_rules.specs.Shapes.{AMethod, member}
use Rattle.ob_rules.specs.Operators.{signatures_match}
use Rattle.ob_rules.specs.Headings.{BoundAs, same_kind, self_by}
use Rattle.law_body_context.specs.Judged.{AreOf}
use Rattle.law_body_context.proofs.Receivers.{received_as}
use Rattle.law_typing_forms.specs.Formed.{IsDeclared, AreParameters, behind, introduced, IsMethodOf, Formed}
use Rattle.law_typing_forms.specs.Said.{IsOneOf}
use Rattle.law_typing_forms.specs.Whole.{IsPassed}
use Rattle.law_typing_forms.proofs.Members.{member_is}
use Rattle.law_typing_forms.proofs.Shapes as shapes
use Rattle.law_typing_values.specs.Laws.{AreDeclared}
use Rattle.law_typing_values.proofs.Matching.{redefinitions_are_alike}
use Rattle.law_lists.proofs.Lists.{all_front}

-- ---- methods by their names

pub method_found : (x : List ℕ) (ms : List Method) (k : Method) → method_named x ms ≡ Some k → IsOneOf ms k × (k.name ≡ x)
method_found x [] k e = absurd cc
method_found x (m ∷ ms) k e = by (bytes_eq x m.name) refl e (λ e. method_found x ms k e)
  where
    by : (b : Bool) → bytes_eq x m.name ≡ b → cond b (Some m) (method_named x ms) ≡ Some k → (method_named x ms ≡ Some k → IsOneOf ms k × (k.name ≡ x)) → IsOneOf (m ∷ ms) k × (k.name ≡ x)
    by true n e r = let same : m ≡ k = cc in (inl same, ap (λ (z : Method). z.name) (sym same) ∙ sym (bytes_true x m.name n))
    by false n e r = let h = r e in (inr h.0, h.1)

-- ---- receivers

kinds_are : (j k : Receiver) → same_kind j k ≡ true → j ≡ k
kinds_are receiver.Record receiver.Record e = refl
kinds_are receiver.Pointer receiver.Pointer e = refl
kinds_are receiver.Record receiver.Pointer e = absurd cc
kinds_are receiver.Pointer receiver.Record e = absurd cc

module _ (program : Program) where
  -- a procedure has receivers of one kind
  pub of_kind : (j k : Receiver) (q o : QName) (ps qs : List TypedParameter) → ReceiverOk program j q ps → ReceiverOk program k q ps → ReceiverOk program j o qs → ReceiverOk program k o qs
  of_kind receiver.Record receiver.Record q o ps qs r s h = h
  of_kind receiver.Pointer receiver.Pointer q o ps qs r s h = h
  of_kind receiver.Record receiver.Pointer q o [] qs r s h = absurd r
  of_kind receiver.Pointer receiver.Record q o [] qs r s h = absurd r
  of_kind receiver.Record receiver.Pointer q o (p ∷ ps) qs r s h = let x : Passing = p.passing in let a = r.0 in let b = s.0 in absurd cc
  of_kind receiver.Pointer receiver.Record q o (p ∷ ps) qs r s h = let x : Passing = p.passing in let a = r.0 in let b = s.0 in absurd cc

  module _ (map : QName → Option Desc) (formed : Formed map program) where
    pub self_received : (x : Ident) (k : BoundAs) (rest : List TypedParameter) (kind : Receiver) → received_as map kind k.of ≡ Some k.owner → ReceiverOk program kind k.owner (self_by x k kind ∷ rest)
    self_received x k rest receiver.Record e = (refl, (shapes.record_form map program formed k.of k.owner e).form)
    self_received x k rest receiver.Pointer e = let h = shapes.pointed_record_form map program formed k.of k.owner e in (refl, (h.u, h.form, h.to.form))

  -- ---- parameters

  like_alike : (ps qs : List TypedParameter) (ks : List (Mode × TypeRef)) → Alike program ps qs → AreParameters program ps ks → AreParameters program qs ks
  like_alike [] [] [] a h = tt
  like_alike [] [] (k ∷ ks) a h = absurd h
  like_alike [] (q ∷ qs) ks a h = absurd a
  like_alike (p ∷ ps) [] ks a h = absurd a
  like_alike (p ∷ ps) (q ∷ qs) [] a h = absurd h
  like_alike (p ∷ ps) (q ∷ qs) (k ∷ ks) a h = (sym a.0.1 ∙ h.0, (sym a.0.0 ∙ h.1.0, like_alike ps qs ks a.1 h.1.1))

  pub passed_declared : (ps : List TypedParameter) (ks : List (Mode × TypeRef)) → AreOf ps ks → AllByRecursion (IsPassed program) ps → AreDeclared ks
  passed_declared [] [] a h = tt
  passed_declared [] (k ∷ ks) a h = absurd a
  passed_declared (p ∷ ps) [] a h = absurd a
  passed_declared (p ∷ ps) (k ∷ ks) a h = (subst IsDeclared a.0.0 h.0.declared, passed_declared ps ks a.1 h.1)

declared_each : (ks : List (Mode × TypeRef)) → AllByRecursion IsDeclared (each (λ k. k.1) ks) → AreDeclared ks
declared_each [] h = tt
declared_each (k ∷ ks) h = (h.0, declared_each ks h.1)

declared_first : (s : Signature) → AllByRecursion IsDeclared (signature_types s) → AreDeclared s.params
declared_first s h = declared_each s.params (all_front IsDeclared (each (λ k. k.1) s.params) (listed s.result) h)

-- ---- one procedure

module _ (program : Program) (q : QName) where
  -- methods of one name are one procedure
  one_name : (k m : Method) → k.name ≡ m.name → (a : IsMethodOf program q k) → (b : IsMethodOf program q m) → a.p ≡ b.p
  one_name k m n a b =
      let family : introduced q k ≡ introduced q m = ap (λ (x : List ℕ). let f : Family = record { owner = q; name = x } in f) n in
      let names : Some a.name ≡ Some b.name = sym a.declared ∙ ap (declared_for program q) family ∙ b.declared in
      let name : a.name ≡ b.name = cc in
      let found : Some a.p ≡ Some b.p = sym a.found ∙ ap (procedure_of program) name ∙ b.found in
      cc

  -- a procedure is like the method, by its record and its parts
  pub record IsLikely (o : QName) (ps : List TypedParameter) (result : Option TypeRef) (k : Method) : Type 0 where
    pub receives : ReceiverOk program k.receiver o ps
    pub result_is : result_form program result ≡ result_form program k.signature.result
    pub parameters : AreParameters program (behind ps) k.signature.params

  -- what is like one of two methods of one name is like the other
  other_likely : (k m : Method) → k.name ≡ m.name → IsMethodOf program q k → IsMethodOf program q m → (o : QName) (ps : List TypedParameter) (result : Option TypeRef) →
      ReceiverOk program m.receiver o ps → result_form program result ≡ result_form program m.signature.result → ((xs : List TypedParameter) → AreParameters program xs m.signature.params → Alike program xs (behind ps)) → IsLikely o ps result k
  other_likely k m n a b o ps result receives result_is alike =
      let one : a.p ≡ b.p = one_name k m n a b in
      let mine : ReceiverOk program k.receiver q b.p.parameters = subst (λ (p : Procedure). ReceiverOk program k.receiver q p.parameters) one a.receives in
      let gives : result_form program b.p.result ≡ result_form program k.signature.result = subst (λ (p : Procedure). result_form program p.result ≡ result_form program k.signature.result) one a.result in
      let takes : AreParameters program (behind b.p.parameters) k.signature.params = subst (λ (p : Procedure). AreParameters program (behind p.parameters) k.signature.params) one a.parameters in
      record {
        receives = of_kind program m.receiver k.receiver q o b.p.parameters ps b.receives mine receives;
        result_is = result_is ∙ sym b.result ∙ gives;
        parameters = like_alike program (behind b.p.parameters) (behind ps) k.signature.params (alike (behind b.p.parameters) b.parameters) takes;
      }

-- WHAT MATCHES a method by what a map says is like it.
module _ (program : Program) (map : QName → Option Desc) (formed : Formed map program) where
  pub matching_likely : (k m : Method) (q o at : QName) (x : List ℕ) → k.name ≡ m.name → IsMethodOf program q k → member map at x ≡ Some (AMethod q m) → (kind : Receiver) → same_kind m.receiver kind ≡ true → (s : Signature) → signatures_match map (Some m.signature) (Some s) ≡ true → AreDeclared s.params →
      (self : TypedParameter) (rest : List TypedParameter) → ReceiverOk program kind o (self ∷ rest) → AreParameters program rest s.params → IsLikely program q o (self ∷ rest) s.result k
  matching_likely k m q o at x n a found kind same s match declared self rest receives are =
      let h = member_is map program formed 201 at x (AMethod q m) found in
      let b : IsMethodOf program q m = h.1.0 in
      let alike = redefinitions_are_alike program map formed m.signature s (declared_first m.signature h.1.1.1.0) declared match in
      other_likely program q k m n a b o (self ∷ rest) s.result (subst (λ j. ReceiverOk program j o (self ∷ rest)) (sym (kinds_are m.receiver kind same)) receives) (sym alike.0) (λ xs i. alike.1 xs rest i are)
