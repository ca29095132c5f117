-- Procedures that redefine others are alike where all are like the methods of their families.
use Rattle.std.proofs.Common.{◌≡◌, inl, inr, ℕ, List, [], ◌∷◌, Option, Some, None, refl, sym, ap, subst, ◌∙◌}
use Rattle.std.specs.Prelude.{Bool, true, false, bytes_eq, if◌then◌else◌}
use Rattle.std.specs.List.{AllByRecursion}
use Rattle.ob_tree.specs.declared.names.QName.{QName}
use Rattle.ob_types.specs.declared.types.Mode.{Mode}
use Rattle.ob_types.specs.declared.types.TypeRef.{TypeRef}
use Rattle.ob_types.specs.declared.desc.Desc.TheVariants as desc
use Rattle.ob_types.specs.declared.desc.Method.{Method}
use Rattle.ob_types.specs.declared.desc.RecordDesc.{RecordDesc}
use Rattle.ob_types.specs.declared.desc.Receiver.{Receiver}
use Rattle.ob_types.specs.declared.desc.Receiver.TheVariants as receiver
use Rattle.ob_types.specs.declared.typed.Binding.{Binding}
use Rattle.ob_types.specs.declared.typed.Family.{Family}
use Rattle.ob_types.specs.declared.typed.Passing.{Passing}
use Rattle.ob_types.specs.declared.typed.TypedParameter.{TypedParameter}
use Rattle.ob_types.specs.TypedSyntax.{Procedure, Module}
use Rattle.ob_meaning.specs.Values.{Program, line_of, procedure_of, bases_in, description}
use Rattle.ob_meaning.specs.Meaning.{is_bound, declared_among, declared_for, first_of_both, nearest}
use Rattle.ob_layout.specs.Members.{method_named}
use Rattle.law_simulation_relation.specs.Typed.{IsRecordType, ReceiverOk}
use Rattle.law_simulation_relation.proofs.Names.{bytes_true}
use Rattle.law_simulation_calls.specs.Signatures.{Alike}
use Rattle.law_typing_forms.specs.Formed.{AreParameters, behind}
use Rattle.law_typing_forms.specs.Said.{IsOneOf, IsSound}
use Rattle.law_typing_forms.specs.Whole.{IsWhole}
use Rattle.law_typing_forms.proofs.Modules.{procedure_there}
use Rattle.law_image_tables.specs.Declared.{above}
use Rattle.law_image_tables.specs.Families.{HasFamily}
use Rattle.law_image_tables.specs.Counted.{Introduced}
use Rattle.law_image_tables.specs.Redefined.{AlikeBehind, Redefines, RedefinitionsKept}
use Rattle.law_image_tables.proofs.Families.{bound_family}
use Rattle.law_program_image.specs.Families.{HasBindings}
use Rattle.law_program_image.specs.Like.{IsLike, AreLike, LikeAreRedefined}
use Rattle.law_program_image.proofs.Introduced.{families_are_introduced}

module _ (program : Program) where
  -- parameters of one signature are alike
  are_alike : (ps qs : List TypedParameter) (ks : List (Mode × TypeRef)) → AreParameters program ps ks → AreParameters program qs ks → Alike program ps qs
  are_alike [] [] [] h k = tt
  are_alike [] (q ∷ qs) [] h k = absurd k
  are_alike (p ∷ ps) [] [] h k = absurd h
  are_alike (p ∷ ps) (q ∷ qs) [] h k = absurd h
  are_alike [] qs (x ∷ ks) h k = absurd h
  are_alike (p ∷ ps) [] (x ∷ ks) h k = absurd k
  are_alike (p ∷ ps) (q ∷ qs) (x ∷ ks) h k = ((h.1.0 ∙ sym k.1.0, h.0 ∙ sym k.0), are_alike ps qs ks h.1.1 k.1.1)

  no_receiver : (k : Receiver) (t : QName) → ReceiverOk program k t [] → ⊥
  no_receiver receiver.Record t h = h
  no_receiver receiver.Pointer t h = h

  alike_behind : (k : Receiver) (t u : QName) (ps qs : List TypedParameter) (ks : List (Mode × TypeRef)) → ReceiverOk program k t ps → ReceiverOk program k u qs → AreParameters program (behind ps) ks → AreParameters program (behind qs) ks → AlikeBehind program ps qs
  alike_behind k t u [] qs ks r s h g = absurd (no_receiver k t r)
  alike_behind k t u (p ∷ ps) [] ks r s h g = absurd (no_receiver k u s)
  alike_behind k t u (p ∷ ps) (q ∷ qs) ks r s h g = are_alike ps qs ks h g

  -- a receiver is of one kind
  one_kind : (j k : Receiver) (t u d : QName) (ps qs : List TypedParameter) → ReceiverOk program k u ps → ReceiverOk program k d qs → ReceiverOk program j t ps → ReceiverOk program j d qs
  one_kind j k t u d [] qs r s h = absurd (no_receiver j t h)
  one_kind receiver.Record receiver.Record t u d (p ∷ ps) qs r s h = s
  one_kind receiver.Pointer receiver.Pointer t u d (p ∷ ps) qs r s h = s
  one_kind receiver.Record receiver.Pointer t u d (p ∷ ps) qs r s h = let x : Passing = p.passing in let a = r.0 in let b = h.0 in absurd cc
  one_kind receiver.Pointer receiver.Record t u d (p ∷ ps) qs r s h = let x : Passing = p.passing in let a = r.0 in let b = h.0 in absurd cc

  module _ (sound : IsSound program) (whole : IsWhole program) (all : AllByRecursion (HasBindings program) program) (likes : AllByRecursion (AreLike program) program) where
    abbrev Bound : Procedure → Type 0
    Bound p = (b : Binding) → p.binding ≡ Some b → (r : RecordDesc) (k : Method) → description program b.family.owner ≡ Some (desc.Record r) → method_named b.family.name r.methods ≡ Some k → IsLike program p b k

    -- the procedure of a family that is declared for a type
    record IsDeclared (s : QName) (f : Family) (name : QName) : Type 0 where
      pub p : Procedure
      pub found : procedure_of program name ≡ Some p
      pub b : Binding
      pub owner : b.owner ≡ s
      pub family : b.family ≡ f
      pub like : (r : RecordDesc) (k : Method) → description program b.family.owner ≡ Some (desc.Record r) → method_named b.family.name r.methods ≡ Some k → IsLike program p b k

    module _ (m : Module) (i : IsOneOf program m) (s : QName) (at : s.«module» ≡ m.name) (f : Family) (name : QName) where
      bound_there : (p : Procedure) → IsOneOf m.procedures p → Bound p → (o : Option Binding) → p.binding ≡ o → is_bound o s f ≡ true → (let q : QName = record { «module» = s.«module»; object = p.name } in q) ≡ name → IsDeclared s f name
      bound_there p j k None e is same = absurd cc
      bound_there p j k (Some b) e is same =
          let x = bound_family b s f is in
          let is_at : (let q : QName = record { «module» = m.name; object = p.name } in q) ≡ name = ap (λ (y : List ℕ). let q : QName = record { «module» = y; object = p.name } in q) (sym at) ∙ same in
          record { p = p; found = ap (procedure_of program) (sym is_at) ∙ procedure_there program whole m p i j; b = b; owner = x.0; family = x.1; like = k b e }

      among_there : (ps : List Procedure) → ((p : Procedure) → IsOneOf ps p → IsOneOf m.procedures p) → AllByRecursion Bound ps → declared_among ps s f ≡ Some name → IsDeclared s f name
      among_there [] j k e = absurd cc
      among_there (p ∷ ps) j k e = by (is_bound p.binding s f) refl e (λ e. among_there ps (λ x y. j x (inr y)) k.1 e)
        where
          by : (c : Bool) → is_bound p.binding s f ≡ c → (if c then Some (record { «module» = s.«module»; object = p.name }) else declared_among ps s f) ≡ Some name → (declared_among ps s f ≡ Some name → IsDeclared s f name) → IsDeclared s f name
          by true is e r = let same : (let q : QName = record { «module» = s.«module»; object = p.name } in q) ≡ name = cc in bound_there p (j p (inl refl)) k.0 p.binding refl is same
          by false is e r = r e

    declared_there : (ms : List Module) → ((m : Module) → IsOneOf ms m → IsOneOf program m) → AllByRecursion (AreLike program) ms → (s : QName) (f : Family) (name : QName) → declared_for ms s f ≡ Some name → IsDeclared s f name
    declared_there [] i k s f name e = absurd cc
    declared_there (m ∷ ms) i k s f name e = by (bytes_eq s.«module» m.name) refl e (λ e. declared_there ms (λ x y. i x (inr y)) k.1 s f name e)
      where
        by : (c : Bool) → bytes_eq s.«module» m.name ≡ c → (if c then declared_among m.procedures s f else declared_for ms s f) ≡ Some name → (declared_for ms s f ≡ Some name → IsDeclared s f name) → IsDeclared s f name
        by true at e r = among_there m (i m (inl refl)) s (bytes_true s.«module» m.name at) f name m.procedures (λ p j. j) k.0 e
        by false at e r = r e

    nearest_there : (line : List QName) (f : Family) (name : QName) → nearest program line f ≡ Some name → (s : QName) × IsDeclared s f name
    nearest_there [] f name e = absurd cc
    nearest_there (s ∷ line) f name e = by (declared_for program s f) refl e (λ e. nearest_there line f name e)
      where
        by : (o : Option QName) → declared_for program s f ≡ o → first_of_both o (nearest program line f) ≡ Some name → (nearest program line f ≡ Some name → (s : QName) × IsDeclared s f name) → (s : QName) × IsDeclared s f name
        by None d e r = r e
        by (Some q) d e r = let same : q ≡ name = cc in (s, declared_there program (λ m i. i) likes s f name (d ∙ ap (λ x. Some x) same))

    -- by the method of the family
    like_method : (s : QName) (f : Family) (name : QName) (x : IsDeclared s f name) (t : QName) (y : Introduced program t f) → IsLike program x.p (let b : Binding = record { owner = s; receiver = x.b.receiver; family = f } in b) y.method
    like_method s f name x t y =
        let here = x.like y.r y.method (subst (λ (g : Family). description program g.owner ≡ Some (desc.Record y.r)) (sym x.family) y.is) (subst (λ (g : Family). method_named g.name y.r.methods ≡ Some y.method) (sym x.family) y.has) in
        record { receives = subst (λ o. ReceiverOk program y.method.receiver o x.p.parameters) x.owner here.receives; result = here.result; parameters = here.parameters }

    first_found : (d : QName) (f : Family) (r : QName) → IsRecordType program d → declared_for program d f ≡ Some r → HasFamily program d f
    first_found d f r is e =
        let line : bases_in program d ≡ d ∷ is.0 = ap line_of is.1 in
        (r, ap (λ l. nearest program l f) line ∙ ap (λ o. first_of_both o (nearest program is.0 f)) e)

    kept : RedefinitionsKept program
    kept d f r q p is e n found =
        let mine = declared_there program (λ m i. i) likes d f r e in
        let other = nearest_there (above (bases_in program d)) f q n in
        let k = families_are_introduced program sound whole all d f is (first_found d f r is e) in
        let a = like_method d f r mine d k in
        let b = like_method other.0 f q other.1 d k in
        let both : Some other.1.p ≡ Some p = sym other.1.found ∙ found in
        let same : other.1.p ≡ p = cc in
        subst (λ (x : Procedure). Redefines program d f x r) same (record {
          procedure = mine.p;
          is = mine.found;
          result = a.result ∙ sym b.result;
          parameters = alike_behind k.method.receiver other.0 d other.1.p.parameters mine.p.parameters k.method.signature.params b.receives a.receives b.parameters a.parameters;
          receiver = λ j t h. one_kind j k.method.receiver t other.0 d other.1.p.parameters mine.p.parameters b.receives a.receives h;
        })

pub like_are_redefined : LikeAreRedefined
like_are_redefined program sound whole all like = kept program sound whole all like
