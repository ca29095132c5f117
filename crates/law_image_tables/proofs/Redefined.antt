-- Each record type has for a family of its base a procedure that is alike but for the receiver.
use Rattle.std.proofs.Common.{◌≡◌, List, [], ◌∷◌, ◌++◌, Option, Some, None, refl, sym, ap, ◌∙◌, subst}
use Rattle.std.specs.Prelude.{◌||◌}
use Rattle.ob_tree.specs.declared.names.QName.{QName}
use Rattle.ob_types.specs.declared.desc.Receiver.{Receiver}
use Rattle.ob_types.specs.declared.desc.Receiver.TheVariants as receiver
use Rattle.ob_types.specs.declared.typed.Family.{Family}
use Rattle.ob_types.specs.declared.typed.TypedParameter.{TypedParameter}
use Rattle.ob_types.specs.TypedSyntax.{Procedure}
use Rattle.ob_meaning.specs.Values.{Program, Form, RecordForm, line_of, fields_of, procedure_of, record_in, bases_in, is_among}
use Rattle.ob_meaning.specs.Meaning.{declared_for, first_of_both, nearest}
use Rattle.law_simulation_relation.specs.Relation.{Sub, itself, extended, opened}
use Rattle.law_simulation_relation.specs.Typed.{IsRecordType, ReceiverOk}
use Rattle.law_simulation_relation.proofs.Names.{name_same}
use Rattle.law_simulation_relation.specs.Setting.{Setting}
use Rattle.law_simulation_records.proofs.Tags.{sub_sub}
use Rattle.law_simulation_calls.specs.Signatures.{Alike}
use Rattle.law_simulation_calls.specs.Tables.{Redefined, Redefinition, FamiliesStand}
use Rattle.law_image_tables.specs.Declared.{above, BasesBuilt}
use Rattle.law_image_tables.proofs.Bases.{extends_all}
use Rattle.law_image_tables.specs.Redefined.{AlikeBehind, RedefinitionsKept}

module _ (program : Program) where
  alike_self : (ps : List TypedParameter) → Alike program ps ps
  alike_self [] = tt
  alike_self (p ∷ ps) = ((refl, refl), alike_self ps)

  alike_two : (ps qs rs : List TypedParameter) → Alike program ps qs → Alike program qs rs → Alike program ps rs
  alike_two [] [] [] h k = tt
  alike_two [] [] (r ∷ rs) h k = absurd k
  alike_two [] (q ∷ qs) rs h k = absurd h
  alike_two (p ∷ ps) [] rs h k = absurd h
  alike_two (p ∷ ps) (q ∷ qs) [] h k = absurd k
  alike_two (p ∷ ps) (q ∷ qs) (r ∷ rs) h k = ((h.0.0 ∙ k.0.0, h.0.1 ∙ k.0.1), alike_two ps qs rs h.1 k.1)

  -- a receiver alone
  receiver_alone : (k : Receiver) (t : QName) (p : TypedParameter) (ps : List TypedParameter) → ReceiverOk program k t (p ∷ ps) → ReceiverOk program k t (p ∷ [])
  receiver_alone receiver.Record t p ps h = h
  receiver_alone receiver.Pointer t p ps h = h

  -- the procedure takes its own records
  own_redefined : (k : Receiver) (t d : QName) (ps : List TypedParameter) → ReceiverOk program k t ps → Sub (record_in program d) (record_in program t) → Redefined program k d ps ps
  own_redefined k t d [] h sub = absurd (none_at k h)
    where
      none_at : (k : Receiver) → ReceiverOk program k t [] → ⊥
      none_at receiver.Record h = h
      none_at receiver.Pointer h = h
  own_redefined k t d (p ∷ ps) h sub = ((t, receiver_alone k t p ps h, sub), alike_self ps)

  -- what takes the records of a type takes those of its extensions
  wider : (k : Receiver) (d e : QName) (ps qs : List TypedParameter) → Sub (record_in program e) (record_in program d) → Redefined program k d ps qs → Redefined program k e ps qs
  wider k d e [] qs sub h = absurd h
  wider k d e (p ∷ ps) [] sub h = absurd h
  wider k d e (p ∷ ps) (q ∷ qs) sub h = ((h.0.0, h.0.1, sub_sub (record_in program e) (record_in program d) (record_in program h.0.0) sub h.0.2), h.1)

  -- one more redefinition
  redefined_more : (k : Receiver) (d : QName) (b : QName) (ps qs rs : List TypedParameter) → Redefined program k b ps qs → AlikeBehind program qs rs → ReceiverOk program k d rs → Redefined program k d ps rs
  redefined_more k d b [] qs rs h a o = absurd h
  redefined_more k d b (p ∷ ps) [] rs h a o = absurd h
  redefined_more k d b (p ∷ ps) (q ∷ qs) [] h a o = absurd a
  redefined_more k d b (p ∷ ps) (q ∷ qs) (r ∷ rs) h a o = ((d, receiver_alone k d r rs o, itself), alike_two ps qs rs h.1 a)

  receiver_from : (k : Receiver) (b : QName) (ps qs : List TypedParameter) → Redefined program k b ps qs → (t : QName) × ReceiverOk program k t qs
  receiver_from k b [] qs h = absurd h
  receiver_from k b (p ∷ ps) [] h = absurd h
  receiver_from k b (p ∷ ps) (q ∷ qs) h = (h.0.0, with_others k h.0.0 h.0.1)
    where
      with_others : (k : Receiver) (t : QName) → ReceiverOk program k t (q ∷ []) → ReceiverOk program k t (q ∷ qs)
      with_others receiver.Record t h = h
      with_others receiver.Pointer t h = h

module _ (c : Setting) (built : BasesBuilt c.program) (kept : RedefinitionsKept c.program) (t : QName) (f : Family) (k : Receiver) (q : QName) (p : Procedure) (is : IsRecordType c.program t) (near : nearest c.program (bases_in c.program t) f ≡ Some q) (found : procedure_of c.program q ≡ Some p) (takes : ReceiverOk c.program k t p.parameters) where
  first : Redefinition c f k p t
  first = record { q = q; procedure = p; near = near; is = found; result = refl; parameters = own_redefined c.program k t t p.parameters takes itself }

  -- to a type from the one that it extends
  step : (d b : QName) (line : List QName) → record_in c.program d ≡ RecordForm (d ∷ b ∷ line) (fields_of (record_in c.program d)) → Redefinition c f k p b → Redefinition c f k p d
  step d b line e r = go (declared_for c.program d f) refl
    where
      up : record_in c.program b ≡ RecordForm (b ∷ line) (fields_of (record_in c.program b))
      up = (built d b line e).0

      bases : bases_in c.program d ≡ d ∷ b ∷ line
      bases = ap line_of e

      behind : nearest c.program (b ∷ line) f ≡ Some r.q
      behind = sym (ap (λ t. nearest c.program (line_of t) f) up) ∙ r.near

      sub : Sub (record_in c.program d) (record_in c.program b)
      sub = extends_all c.program built d (b ∷ line) e b (ap (λ z. z || is_among line b) (name_same b))

      go : (o : Option QName) → declared_for c.program d f ≡ o → Redefinition c f k p d
      go None g = record {
        q = r.q;
        procedure = r.procedure;
        near = ap (λ l. nearest c.program l f) bases ∙ ap (λ o. first_of_both o (nearest c.program (b ∷ line) f)) g ∙ behind;
        is = r.is;
        result = r.result;
        parameters = wider c.program k b d p.parameters r.procedure.parameters sub r.parameters;
      }
      go (Some s) g =
          let x = kept d f s r.q r.procedure (b ∷ line, e) g (ap (λ l. nearest c.program (above l) f) bases ∙ behind) r.is in
          let o = receiver_from c.program k b p.parameters r.procedure.parameters r.parameters in
          record {
            q = s;
            procedure = x.procedure;
            near = ap (λ l. nearest c.program l f) bases ∙ ap (λ o. first_of_both o (nearest c.program (b ∷ line) f)) g;
            is = x.is;
            result = x.result ∙ r.result;
            parameters = redefined_more c.program k d b p.parameters r.procedure.parameters x.procedure.parameters r.parameters x.parameters (x.receiver k o.0 o.1);
          }

  abbrev first_or : QName → List QName → QName
  first_or z [] = z
  first_or z (x ∷ xs) = x

  -- along the line of a type
  along : (more : List QName) (d : QName) (line : List QName) → record_in c.program d ≡ RecordForm (d ∷ line) (fields_of (record_in c.program d)) → d ∷ line ≡ more ++ t ∷ is.0 → Redefinition c f k p d
  along [] d line e whole = subst (Redefinition c f k p) (sym (ap (first_or d) whole)) first
  along (m ∷ []) d line e whole = step d t is.0 (e ∙ ap (λ z. RecordForm (d ∷ z) (fields_of (record_in c.program d))) (ap above whole)) first
  along (m ∷ n ∷ more) d line e whole =
      let e2 = e ∙ ap (λ z. RecordForm (d ∷ z) (fields_of (record_in c.program d))) (ap above whole) in
      step d n (more ++ t ∷ is.0) e2 (along (n ∷ more) n (more ++ t ∷ is.0) (built d n (more ++ t ∷ is.0) e2).0 refl)

sub_line : (x y : Form) → Sub x y → (more : List QName) × (line_of x ≡ more ++ line_of y)
sub_line x _ itself = ([], refl)
sub_line _ _ (extended more gs) = (more, refl)
sub_line _ _ (opened n) = ([], refl)

pub families_stand : (c : Setting) → BasesBuilt c.program → RedefinitionsKept c.program → FamiliesStand c
families_stand c built kept t f k q p is near found takes d extends sub =
    let s = sub_line (record_in c.program d) (record_in c.program t) sub in
    along c built kept t f k q p is near found takes s.0 d extends.0 extends.1 (sym (ap line_of extends.1) ∙ s.1 ∙ ap (λ u. s.0 ++ line_of u) is.1)
