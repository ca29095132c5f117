-- The record that declares a member is among the names that count.
use Rattle.std.proofs.Common.{◌≡◌, refl, ap, ◌∙◌, subst, ℕ, zero, suc, List, Option, Some, None}
use Rattle.ob_tree.specs.declared.names.QName.{QName}
use Rattle.ob_types.specs.declared.desc.Desc.{Desc}
use Rattle.ob_types.specs.declared.desc.Desc.TheVariants as desc
use Rattle.ob_types.specs.declared.desc.Field.{Field}
use Rattle.ob_types.specs.declared.desc.Method.{Method}
use Rattle.std.specs.Prelude.{bytes_eq}
use Rattle.std.specs.List.{find}
use Rattle.ob_rules.specs.Shapes.{Map, Member, AField, AMethod, field_or, own_member, base_record, or_in_base, member_within, member}
use Rattle.law_local_judged.specs.Agreement.{Agree}
use Rattle.law_local_judged.proofs.Tests.{base_record_in}
use Rattle.law_lists.proofs.Lists.{none_some, some_same}

abbrev pub owner_of : Member → QName
owner_of (AField o f) = o
owner_of (AMethod o m) = o

field_owner : (q : QName) (a : Option Field) (b : Option Method) (m : Member) → field_or q a b ≡ Some m → q ≡ owner_of m
field_owner q None None m e = none_some e
field_owner q None (Some b) m e = ap owner_of (some_same e)
field_owner q (Some a) b m e = ap owner_of (some_same e)

own_owner : (q : QName) (o : Option Desc) (x : List ℕ) (m : Member) → own_member q o x ≡ Some m → q ≡ owner_of m
own_owner q (Some (desc.Record r)) x m e = field_owner q (find (λ f. bytes_eq f.name x) r.fields) (find (λ m. bytes_eq m.name x) r.methods) m e
own_owner q None x m e = none_some e
own_owner q (Some (desc.Const c)) x m e = none_some e
own_owner q (Some (desc.Var k t)) x m e = none_some e
own_owner q (Some (desc.Proc s)) x m e = none_some e
own_owner q (Some (desc.Alias k t)) x m e = none_some e
own_owner q (Some (desc.Array k n t)) x m e = none_some e
own_owner q (Some (desc.OpenArray k t)) x m e = none_some e
own_owner q (Some (desc.Pointer k t)) x m e = none_some e
own_owner q (Some (desc.ProcType k s)) x m e = none_some e

module _ (P : QName → Type 0) (f : Map) (agree : Agree P f f) where
  within_owner : (n : ℕ) (q : QName) (x : List ℕ) (m : Member) → P q → member_within f n q x ≡ Some m → P (owner_of m)
  unfolding member_within
  within_owner zero q x m h e = none_some e
  within_owner (suc n) q x m h e = by (own_member q (f q) x) (base_record f q) refl refl e (λ b k e. within_owner n b x m k e)
    where
      by : (o : Option Member) (p : Option QName) → own_member q (f q) x ≡ o → base_record f q ≡ p → or_in_base o p (λ b. member_within f n b x) ≡ Some m → ((b : QName) → P b → member_within f n b x ≡ Some m → P (owner_of m)) → P (owner_of m)
      by (Some k) p i j e ih = subst P (own_owner q (f q) x m (i ∙ e)) h
      by None None i j e ih = none_some e
      by None (Some b) i j e ih = ih b (base_record_in P f f agree q b h j) e

  -- THE OWNER OF A MEMBER counts where its record does
  pub member_owner : (q : QName) (x : List ℕ) (m : Member) → P q → member f q x ≡ Some m → P (owner_of m)
  member_owner q x m h e = within_owner 201 q x m h e
