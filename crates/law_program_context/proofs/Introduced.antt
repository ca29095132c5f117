-- Bound procedures of one name have receivers of one kind where each is introduced once.
use Rattle.std.proofs.Common.{◌≡◌, ◌⊎◌, ⊎_elim, inl, inr, refl, sym, ap, ◌∙◌, subst, append_assoc, ℕ, zero, suc, List, [], ◌∷◌, ◌++◌, Option, Some, None}
use Rattle.std.specs.List.{find}
use Rattle.std.specs.Prelude.{bytes_eq}
use Rattle.ob_tree.specs.declared.names.QName.{QName}
use Rattle.ob_types.specs.declared.desc.Desc.{Desc}
use Rattle.ob_types.specs.declared.desc.Desc.TheVariants as desc
use Rattle.ob_types.specs.declared.desc.Field.{Field}
use Rattle.ob_types.specs.declared.desc.Method.{Method}
use Rattle.ob_meaning.specs.Values.{Program, Form, line_of, bases_in, record_in}
use Rattle.law_simulation_relation.specs.Relation.{Sub, itself, extended, opened}
use Rattle.ob_rules.specs.Shapes.{Map, Member, AMethod, own_member, field_or, base_record, or_in_base, member_within}
use Rattle.law_typing_forms.specs.Formed.{Formed}
use Rattle.law_typing_forms.proofs.Members as members
use Rattle.law_typing.specs.Redefined.{AreOfOneKind}
use Rattle.law_program_context.specs.Left.{AreIntroducedOnce}

-- what a record introduces is its own
own_owner : (q i : QName) (d : Option Desc) (x : List ℕ) (k : Method) → own_member q d x ≡ Some (AMethod i k) → q ≡ i
own_owner q i (Some (desc.Record r)) x k e = by (find (λ f. bytes_eq f.name x) r.fields) (find (λ m. bytes_eq m.name x) r.methods) e
  where
    by : (a : Option Field) (b : Option Method) → field_or q a b ≡ Some (AMethod i k) → q ≡ i
    by None None e = absurd cc
    by None (Some m) e = cc
    by (Some f) b e = absurd cc
own_owner q i None x k e = absurd cc
own_owner q i (Some (desc.Const v)) x k e = absurd cc
own_owner q i (Some (desc.Var m t)) x k e = absurd cc
own_owner q i (Some (desc.Proc s)) x k e = absurd cc
own_owner q i (Some (desc.Alias m t)) x k e = absurd cc
own_owner q i (Some (desc.Array m n t)) x k e = absurd cc
own_owner q i (Some (desc.OpenArray m t)) x k e = absurd cc
own_owner q i (Some (desc.Pointer m t)) x k e = absurd cc
own_owner q i (Some (desc.ProcType m s)) x k e = absurd cc

-- a bound procedure that is a member is introduced by the record that the member names
introducing : (map : Map) (n : ℕ) (q i : QName) (x : List ℕ) (k : Method) → member_within map n q x ≡ Some (AMethod i k) → own_member i (map i) x ≡ Some (AMethod i k)
unfolding member_within
introducing map zero q i x k e = absurd cc
introducing map (suc n) q i x k e = by (own_member q (map q) x) (base_record map q) refl e (λ b f. introducing map n b i x k f)
  where
    by : (o : Option Member) (p : Option QName) → own_member q (map q) x ≡ o → or_in_base o p (λ b. member_within map n b x) ≡ Some (AMethod i k) → ((b : QName) → member_within map n b x ≡ Some (AMethod i k) → own_member i (map i) x ≡ Some (AMethod i k)) → own_member i (map i) x ≡ Some (AMethod i k)
    by (Some m) p is e r = let f : own_member q (map q) x ≡ Some (AMethod i k) = is ∙ e in subst (λ z. own_member z (map z) x ≡ Some (AMethod i k)) (own_owner q i (map q) x k f) f
    by None None is e r = absurd cc
    by None (Some b) is e r = r b e

-- of two ends of one list, one is an end of the other
ends : {A : Type 0} (xs ys a b : List A) → xs ++ a ≡ ys ++ b → ((more : List A) × (a ≡ more ++ b)) ⊎ ((more : List A) × (b ≡ more ++ a))
ends [] ys a b e = inl (ys, e)
ends (x ∷ xs) [] a b e = inr (x ∷ xs, sym e)
ends (x ∷ xs) (y ∷ ys) a b e = let f : xs ++ a ≡ ys ++ b = cc in ends xs ys a b f

sub_line : (t u : Form) → Sub t u → (more : List QName) × (line_of t ≡ more ++ line_of u)
sub_line _ _ itself = ([], refl)
sub_line _ _ (extended more gs) = (more, refl)
sub_line _ _ (opened n) = ([], refl)

module _ (map : Map) (program : Program) (formed : Formed map program) (once : AreIntroducedOnce program map) where
  -- one introduction is one bound procedure
  same_method : (i o : QName) (x : List ℕ) (k m : Method) → i ≡ o → own_member i (map i) x ≡ Some (AMethod i k) → own_member o (map o) x ≡ Some (AMethod o m) → k.receiver ≡ m.receiver
  same_method i o x k m e f g =
      let h : Some (AMethod i k) ≡ Some (AMethod o m) = sym f ∙ ap (λ z. own_member z (map z) x) e ∙ g in
      let s : k ≡ m = cc in
      ap (λ (n : Method). n.receiver) s

  pub of_one_kind : AreOfOneKind program map
  of_one_kind q b i o x k m s e f =
      let u = members.member_is map program formed 201 q x (AMethod i k) e in
      let v = members.member_is map program formed 201 b x (AMethod o m) f in
      let ui = introducing map 201 q i x k e in
      let vo = introducing map 201 b o x m f in
      let qi = sub_line (record_in program q) (record_in program i) u.0.sub in
      let bo = sub_line (record_in program b) (record_in program o) v.0.sub in
      let qb = sub_line (record_in program q) (record_in program b) s in
      let qo : bases_in program q ≡ (qb.0 ++ bo.0) ++ bases_in program o = qb.1 ∙ ap (λ l. qb.0 ++ l) bo.1 ∙ sym (append_assoc qb.0 bo.0 (bases_in program o)) in
      ⊎_elim (λ h. same_method i o x k m (once i o x k m h ui vo) ui vo) (λ h. same_method i o x k m (sym (once o i x m k h vo ui)) ui vo) (ends qi.0 (qb.0 ++ bo.0) (bases_in program i) (bases_in program o) (sym qi.1 ∙ qo))
