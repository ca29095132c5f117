-- The code of record assignments follows their meaning.
use Rattle.std.proofs.Common.{◌≡◌, ℕ, suc, ◌+◌, ◌≤◌, List, [], ◌∷◌, length, Some, ℤ, refl, sym, ap, ◌∙◌, subst, arith}
use Rattle.std.proofs.lemmas.Bool.Decides.{nat_tests}
use Rattle.std.specs.Prelude.{pos, Bool, true, false, nat_eq}
use Rattle.std.specs.Ordering.{int_eq}
use Rattle.ob_trap.specs.declared.trap.Trap.TheVariants as trap
use Rattle.ob_tree.specs.declared.pos.Pos.{Pos}
use Rattle.ob_tree.specs.declared.names.QName.{QName}
use Rattle.ob_types.specs.declared.typed.Assigned.TheVariants as assigned
use Rattle.ob_types.specs.declared.typed.Passing.TheVariants as passing
use Rattle.ob_types.specs.declared.typed.Variable.TheVariants as variable
use Rattle.ob_types.specs.TypedSyntax.{Desig, OfVariable, Field, Index, Deref, Guard, ValueOf, Assign}
use Rattle.ob_mem.specs.Words.{copied}
use Rattle.ob_instr.specs.declared.opcode.Opcode.TheVariants as op
use Rattle.ob_instr.specs.Image.{World, Point}
use Rattle.ob_instr.specs.Rows.{tag, with_memory}
use Rattle.ob_instr.proofs.Goes as rows
use Rattle.ob_meaning.specs.Values.{same_name, Form, RecordForm, Fields, fields_of, record_in, words, type_of, Place, value_at, AnObject, State}
use Rattle.ob_meaning.specs.Results.{Trapped, Stops, Caller, assign}
use Rattle.ob_meaning.specs.Meaning.{exec, Source, Stands, Text, source, choose, is_exactly, assign_record, as_record}
use Rattle.law_simulation_relation.specs.Layout.{type_number, address, place_form}
use Rattle.law_simulation_relation.specs.Relation.{OrElse, PlaceIn, PlaceOf, Sub, second_word}
use Rattle.law_simulation_relation.specs.Need.{need_place, need_tagged, need_record}
use Rattle.law_simulation_relation.specs.Ends.{end_place, end_tagged, end_target}
use Rattle.law_simulation_relation.specs.Stands as code
use Rattle.law_simulation_relation.specs.Stands.{may_differ}
use Rattle.law_simulation_relation.proofs.Names.{name_true, name_same}
use Rattle.law_simulation_relation.specs.Typed.{IsRecordForm}
use Rattle.law_simulation_relation.proofs.Steps.{Reach, here, Follows, follows_bind, follows_value, follows_stop, stands_any}
use Rattle.law_simulation_relation.proofs.Statements.{Activation, scope, go, fb, K, here_in, Keeps, PlaceTo, PlaceKept, PlaceFollows, StmtFollows, FlowTo, FlowKept, DesigOk, RecordFollows}
use Rattle.law_simulation_relation.proofs.Grow.{address_same, form_same, place_more, place_of_more}
use Rattle.law_simulation_relation.proofs.Moves.{goes, traps}
use Rattle.law_simulation_relation.proofs.Values.{nat_equal}
use Rattle.law_simulation_relation.proofs.Exprs.{from_here, since}
use Rattle.law_simulation_relation.proofs.Stmts.{plain_to, plain_kept}
use Rattle.law_simulation_relation.proofs.Sources.{place_ok}
use Rattle.law_simulation_relation.specs.Setting.{Setting, has_of}
use Rattle.law_simulation_records.specs.Bases.{BasesStand}
use Rattle.law_simulation_records.proofs.Bases.{number_same, first_here}
use Rattle.law_simulation_records.proofs.Tags.{sub_sub, IsRecord, record_below, type_at}
use Rattle.law_simulation_records.proofs.Exact.{ExactKept, ExactFollows}
use Rattle.law_simulation_records.proofs.Copies.{copy_there, copy_stands}

next_same : (m n : ℕ) → nat_eq (suc m) (suc n) ≡ nat_eq m n
next_same m n = go (nat_eq (suc m) (suc n)) (nat_eq m n) refl refl
  where
    go : (x y : Bool) → nat_eq (suc m) (suc n) ≡ x → nat_eq m n ≡ y → x ≡ y
    go true true e f = refl
    go false false e f = refl
    go true false e f = grind (arith, nat_tests)
    go false true e f = grind (arith, nat_tests)

-- what a record's target is taken with, and what is put behind it
needs_differing : (sc : code.Scope) (d : Desig) (n : ℕ) → may_differ sc d ≡ true → (need_tagged d ≤ need_record d n) × (2 + n ≤ need_record d n)
needs_differing sc (OfVariable (variable.Module m x) t) n e = absurd (cc)
needs_differing sc (OfVariable (variable.Local x) t) n e = absurd (cc)
needs_differing sc (OfVariable (variable.Parameter passing.Scalar x) t) n e = absurd (cc)
needs_differing sc (OfVariable (variable.Parameter passing.Structure x) t) n e = absurd (cc)
needs_differing sc (OfVariable (variable.Parameter passing.OpenArray x) t) n e = absurd (cc)
needs_differing sc (OfVariable (variable.Parameter passing.Variable x) t) n e = absurd (cc)
needs_differing sc (OfVariable (variable.Parameter passing.VariableRecord x) t) n e = (omega arith, omega arith)
needs_differing sc (OfVariable (variable.Parameter passing.VariableOpenArray x) t) n e = absurd (cc)
needs_differing sc (Field d o x t) n e = absurd (cc)
needs_differing sc (Index d m i at t) n e = absurd (cc)
needs_differing sc (Deref d at t) n e = (omega arith, omega arith)
needs_differing sc (Guard d g q at t) n e = (omega arith, omega arith)

needs_exact : (sc : code.Scope) (d : Desig) (n : ℕ) → may_differ sc d ≡ false → (need_place d ≤ need_record d n) × (1 + n ≤ need_record d n)
needs_exact sc (OfVariable (variable.Module m x) t) n e = (omega arith, omega arith)
needs_exact sc (OfVariable (variable.Local x) t) n e = (omega arith, omega arith)
needs_exact sc (OfVariable (variable.Parameter passing.Scalar x) t) n e = (omega arith, omega arith)
needs_exact sc (OfVariable (variable.Parameter passing.Structure x) t) n e = (omega arith, omega arith)
needs_exact sc (OfVariable (variable.Parameter passing.OpenArray x) t) n e = (omega arith, omega arith)
needs_exact sc (OfVariable (variable.Parameter passing.Variable x) t) n e = (omega arith, omega arith)
needs_exact sc (OfVariable (variable.Parameter passing.VariableRecord x) t) n e = absurd (cc)
needs_exact sc (OfVariable (variable.Parameter passing.VariableOpenArray x) t) n e = (omega arith, omega arith)
needs_exact sc (Field d o x t) n e = (omega arith, omega arith)
needs_exact sc (Index d m i at t) n e = (omega arith, omega arith)
needs_exact sc (Deref d at t) n e = absurd (cc)
needs_exact sc (Guard d g q at t) n e = absurd (cc)

module _ (c : Setting) (a : Activation c) (n : ℕ) (call : Caller) (b : ℕ) where
  abbrev Kp : List AnObject → State → World → Type 0
  Kp os s w = Keeps c a n call b os s w

  abbrev T : Desig → Form
  T d = code.form_of (scope c a) d

  abbrev form_at : State → Place → Form
  form_at s p = place_form c.program c.img s.made (K c a) p

  abbrev address_at : State → Place → ℕ
  address_at s p = address c.program c.img s.made (K c a) p

  abbrev tag_at : State → Place → ℤ
  tag_at s p = second_word c.program (has_of c) c.img (form_at s p)

  abbrev In : State → Place → Type 0
  In s p = PlaceIn c.program (has_of c) c.img s.made (K c a) p

  abbrev Of : State → Form → Place → Type 0
  Of s t p = PlaceOf c.program (has_of c) c.img s.made (K c a) t p

  abbrev PTo : ℕ → List ℤ → Unit {0} → State → World → Point
  PTo pc ops u s w = plain_to c a n call b pc ops u s w

  abbrev PKept : List AnObject → Unit {0} → State → World → Type 0
  PKept os u s w = plain_kept c a n call b os u s w

  -- the source: a record stands at a place
  abbrev source_to : ℕ → List ℤ → Source → State → World → Point
  source_to pc ops (Stands p) s w = PlaceTo c a n call b pc ops p s w
  source_to pc ops (Text text) s w = go c a pc ops w

  abbrev source_kept : Form → List AnObject → Source → State → World → Type 0
  source_kept t os (Stands p) s w = PlaceKept c a n call b t os p s w
  source_kept t os (Text text) s w = ⊥

  source_follows : (d : Desig) → PlaceFollows c a n call b d → (t : Form) (pc at : ℕ) (ops : List ℤ) (os : List AnObject) (s : State) (w : World) → length ops + need_place d ≤ 256 → code.PlaceCode (scope c a) d pc at → DesigOk c a n call b d → Sub (T d) t → Kp os s w →
      Follows c (go c a pc ops w) (source_to (end_place c.program d pc) ops) (source_kept t os) (source (ValueOf d) (here_in c a n call b) s)
  source_follows d ih t pc k ops os s w le has ok sub st =
      follows_bind c (ih pc k ops os s w le has ok st) λ p s1 w1 k1.
      follows_value c w1 (here c _) ((k1.0.0, sub_sub (form_at s1 p) (T d) t k1.0.1 sub), k1.1)

  -- THE COPY

  -- to a target of the very type
  exact_follows : (q : QName) (p p2 : Place) (os : List AnObject) (s : State) (w : World) (pc : ℕ) (before ops : List ℤ) (at : Pos) (line : List QName) → record_in c.program q ≡ RecordForm (q ∷ line) (fields_of (record_in c.program q)) → In s p → form_at s p ≡ record_in c.program q → Of s (record_in c.program q) p2 → Kp os s w →
      ((l : List ℤ) → copied w.words (pos (address_at s p)) (pos (address_at s p2)) (words (record_in c.program q)) ≡ Some l → Reach c (go c a pc before w) (go c a (suc pc) ops (with_memory w l))) →
      Follows c (go c a pc before w) (PTo (suc pc) ops) (PKept os) (assign_record q p (Stands p2) (here_in c a n call b) at s)
  exact_follows q p p2 os s w pc before ops at line e here_p exact k2 st reach =
      let x = copy_stands c (K c a) s w st.all q line (fields_of (record_in c.program q)) p p2 e here_p exact k2 in
      let r : IsRecord c (form_at s p) = record { name = q; line = line; fields = fields_of (record_in c.program q); is = exact ∙ e; built = e } in
      let same : is_exactly (type_of (value_at s.store p)) q ≡ true = ap (λ o. is_exactly o q) (type_at c (K c a) s w st.all p here_p r) ∙ name_same q in
      subst (λ z. Follows c (go c a pc before w) (PTo (suc pc) ops) (PKept os) (choose z (assign p (as_record c.program q (value_at s.store p2))) (λ s. Stops (Trapped trap.OtherType (pos 0) a.unit at) s) s)) (sym same)
      (follows_value c (with_memory w x.0) (reach x.0 x.1) (record { all = x.2; calls = st.calls; bound = st.bound; objects = st.objects }))

  -- to one that may be of an extension
  tagged_follows : (stand : BasesStand c) (q : QName) (p p2 : Place) (os : List AnObject) (s : State) (w : World) (pc : ℕ) (ops : List ℤ) (at : Pos) (line : List QName) → record_in c.program q ≡ RecordForm (q ∷ line) (fields_of (record_in c.program q)) → length ops ≤ 256 → code.HasCopyRec (scope c a) pc (words (record_in c.program q)) q at → Of s (record_in c.program q) p → Of s (record_in c.program q) p2 → Kp os s w →
      Follows c (go c a pc (pos (address_at s p2) ∷ tag_at s p ∷ pos (address_at s p) ∷ ops) w) (PTo (suc pc) ops) (PKept os) (assign_record q p (Stands p2) (here_in c a n call b) at s)
  tagged_follows stand q p p2 os s w pc ops at line e le has k k2 st = by (same_name r.name q) refl
    where
      fs : Fields
      fs = fields_of (record_in c.program q)

      r : IsRecord c (form_at s p)
      r = record_below c (form_at s p) (record_in c.program q) (q ∷ line) fs k.1 e (place_ok c (K c a) s w st.all p k.0)

      type_is : is_exactly (type_of (value_at s.store p)) q ≡ same_name r.name q
      type_is = ap (λ o. is_exactly o q) (type_at c (K c a) s w st.all p k.0 r)

      tag_is : int_eq (tag_at s p) (tag (type_number c.img.types q)) ≡ same_name r.name q
      tag_is =
          let d = first_here c.img.types q line (stand.lines q line e) in
          ap (λ u. int_eq (second_word c.program (has_of c) c.img u) (tag (type_number c.img.types q))) r.is
          ∙ nat_equal (suc (type_number c.img.types r.name)) (suc (type_number c.img.types q))
          ∙ next_same (type_number c.img.types r.name) (type_number c.img.types q)
          ∙ number_same c.img.types r.name q d.descriptor d.found

      by : (z : Bool) → same_name r.name q ≡ z → Follows c (go c a pc (pos (address_at s p2) ∷ tag_at s p ∷ pos (address_at s p) ∷ ops) w) (PTo (suc pc) ops) (PKept os) (assign_record q p (Stands p2) (here_in c a n call b) at s)
      by true f =
          let exact : form_at s p ≡ record_in c.program q = r.is ∙ sym r.built ∙ ap (record_in c.program) (name_true r.name q f) in
          exact_follows q p p2 os s w pc (pos (address_at s p2) ∷ tag_at s p ∷ pos (address_at s p) ∷ ops) ops at line e k.0 exact k2 st
          (λ l g. goes c a ops (with_memory w l) has.has.has (rows.copy_rec_next c.img a.u a.m a.p (fb c a) pc w (pos (address_at s p)) (tag_at s p) (pos (address_at s p2)) (words (record_in c.program q)) has.number (type_number c.img.types q) l ops has.is g (tag_is ∙ f)) le)
      by false f =
          let x = copy_there c (K c a) s w st.all (record_in c.program q) (q ∷ line) fs p p2 e k k2 in
          subst (λ z. Follows c (go c a pc (pos (address_at s p2) ∷ tag_at s p ∷ pos (address_at s p) ∷ ops) w) (PTo (suc pc) ops) (PKept os) (choose z (assign p (as_record c.program q (value_at s.store p2))) (λ s. Stops (Trapped trap.OtherType (pos 0) a.unit at) s) s)) (sym (type_is ∙ f))
          (follows_stop c w (traps c a trap.OtherType (pos 0) w has.has (rows.copy_rec_traps c.img a.u a.m a.p (fb c a) pc w (pos (address_at s p)) (tag_at s p) (pos (address_at s p2)) (words (record_in c.program q)) has.number (type_number c.img.types q) x.0 ops has.is x.1 (tag_is ∙ f))) (stands_any c st))

  -- ASSIGNMENTS

  yes_code : (A B : Type 0) (z : Bool) → z ≡ true → OrElse z A B → A
  yes_code A B true e h = h
  yes_code A B false e h = absurd (cc)

  no_code : (A B : Type 0) (z : Bool) → z ≡ false → OrElse z A B → B
  no_code A B false e h = h
  no_code A B true e h = absurd (cc)

  abbrev kept_target : (t : Form) (p : Place) (s1 s2 : State) (os : List AnObject) (w1 w2 : World) → PlaceKept c a n call b t os p s1 w1 → Kp s1.made s2 w2 → Of s2 t p
  kept_target t p s1 s2 os w1 w2 k1 k2 = place_of_more c s1.made s2.made k2.objects (K c a) t p k1.0

  record_form : (d : Desig) (q : QName) (line : List QName) → T d ≡ record_in c.program q → record_in c.program q ≡ RecordForm (q ∷ line) (fields_of (record_in c.program q)) → IsRecordForm (T d)
  record_form d q line form e = (q ∷ line, form ∙ e ∙ ap (λ u. RecordForm (q ∷ line) (fields_of u)) (sym form))

  -- of a record to a target whose dynamic type may be another than its static one
  pub assign_tagged_case : (stand : BasesStand c) (d : Desig) (q : QName) (e : Desig) (at : Pos) → may_differ (scope c a) d ≡ true → ((pc : ℕ) → end_target c.program d pc ≡ end_tagged c.program d pc) → RecordFollows c a n call b d → PlaceFollows c a n call b e → StmtFollows c a n call b (Assign d (assigned.Record q) (ValueOf e) at)
  assign_tagged_case stand d q e at may ends ih_d ih_e l exit pc k os s w le inside lies has ok st =
      subst (λ m. Follows c (go c a pc [] w) (FlowTo c a n call b (suc (end_place c.program e m)) exit) (FlowKept c a n call b l os) (exec (Assign d (assigned.Record q) (ValueOf e) at) (here_in c a n call b) s)) (sym (ends pc))
      (follows_bind c (ih_d pc k [] os s w (omega (arith, le, (needs_differing (scope c a) d (need_place e) may).0, (needs_differing (scope c a) d (need_place e) may).1)) code_is.0 ok.0 (record_form d q line form built) st) λ p s1 w1 k1.
      follows_bind c
      (follows_bind c (source_follows e ih_e t p1 _ (tag_at s1 p ∷ pos (address_at s1 p) ∷ []) s1.made s1 w1 (omega (arith, le, (needs_differing (scope c a) d (need_place e) may).0, (needs_differing (scope c a) d (need_place e) may).1)) code_is.1.0 ok.1.1.1.0 (subst (λ u. Sub (T e) u) form ok.1.1.1.1) (from_here c a n call b k1.1)) λ x s2 w2 k2.
      on_source x p s1 s2 w1 w2 k1 k2)
      λ u s3 w3 k3. follows_value c w3 (here c _) (tt, k3))
    where
      p1 : ℕ
      p1 = end_tagged c.program d pc

      p2 : ℕ
      p2 = end_place c.program e p1

      t : Form
      t = record_in c.program q

      form : T d ≡ t
      form = ok.1.0

      line : List QName
      line = ok.1.1.0.0

      built : t ≡ RecordForm (q ∷ line) (fields_of t)
      built = ok.1.1.0.1

      code_is : code.TaggedCode (scope c a) d pc k × (code.PlaceCode (scope c a) e p1 (k + code.dt (scope c a) d) × code.HasCopyRec (scope c a) p2 (words (T d)) q at)
      code_is = yes_code _ _ (may_differ (scope c a) d) may has

      on_source : (x : Source) (p : Place) (s1 s2 : State) (w1 w2 : World) → PlaceKept c a n call b (T d) os p s1 w1 → source_kept t s1.made x s2 w2 → Follows c (source_to p2 (tag_at s1 p ∷ pos (address_at s1 p) ∷ []) x s2 w2) (PTo (suc p2) []) (PKept os) (assign_record q p x (here_in c a n call b) at s2)
      on_source (Stands p3) p s1 s2 w1 w2 k1 k2 =
          let kept = kept_target (T d) p s1 s2 os w1 w2 k1 k2.1 in
          let same = form_same c s1.made s2.made k2.1.objects (K c a) p k1.0.0 in
          let far = address_same c s1.made s2.made k2.1.objects (K c a) p k1.0.0 in
          subst (λ u. Follows c (go c a p2 (pos (address_at s2 p3) ∷ second_word c.program (has_of c) c.img u ∷ pos (address_at s1 p) ∷ []) w2) (PTo (suc p2) []) (PKept os) (assign_record q p (Stands p3) (here_in c a n call b) at s2)) same
          (subst (λ m. Follows c (go c a p2 (pos (address_at s2 p3) ∷ tag_at s2 p ∷ pos m ∷ []) w2) (PTo (suc p2) []) (PKept os) (assign_record q p (Stands p3) (here_in c a n call b) at s2)) far
          (tagged_follows stand q p p3 os s2 w2 p2 [] at line built (omega arith) (subst (λ u. code.HasCopyRec (scope c a) p2 (words u) q at) form code_is.1.1) (subst (λ u. Of s2 u p) form kept) k2.0 (since c a n call b k1.1.objects k2.1)))
      on_source (Text text) p s1 s2 w1 w2 k1 k2 = absurd k2

  -- to a target of the static type
  pub assign_exact_case : (d : Desig) (q : QName) (e : Desig) (at : Pos) → may_differ (scope c a) d ≡ false → ((pc : ℕ) → end_target c.program d pc ≡ end_place c.program d pc) → ExactFollows c a n call b d → PlaceFollows c a n call b e → StmtFollows c a n call b (Assign d (assigned.Record q) (ValueOf e) at)
  assign_exact_case d q e at may ends ih_d ih_e l exit pc k os s w le inside lies has ok st =
      subst (λ m. Follows c (go c a pc [] w) (FlowTo c a n call b (suc (end_place c.program e m)) exit) (FlowKept c a n call b l os) (exec (Assign d (assigned.Record q) (ValueOf e) at) (here_in c a n call b) s)) (sym (ends pc))
      (follows_bind c (ih_d pc k [] os s w (omega (arith, le, (needs_exact (scope c a) d (need_place e) may).0, (needs_exact (scope c a) d (need_place e) may).1)) code_is.0 ok.0 (record_form d q line form built) st) λ p s1 w1 k1.
      follows_bind c
      (follows_bind c (source_follows e ih_e t p1 _ (pos (address_at s1 p) ∷ []) s1.made s1 w1 (omega (arith, le, (needs_exact (scope c a) d (need_place e) may).0, (needs_exact (scope c a) d (need_place e) may).1)) code_is.1.0 ok.1.1.1.0 (subst (λ u. Sub (T e) u) form ok.1.1.1.1) (from_here c a n call b k1.1)) λ x s2 w2 k2.
      on_source x p s1 s2 w1 w2 k1 k2)
      λ u s3 w3 k3. follows_value c w3 (here c _) (tt, k3))
    where
      p1 : ℕ
      p1 = end_place c.program d pc

      p2 : ℕ
      p2 = end_place c.program e p1

      t : Form
      t = record_in c.program q

      form : T d ≡ t
      form = ok.1.0

      line : List QName
      line = ok.1.1.0.0

      built : t ≡ RecordForm (q ∷ line) (fields_of t)
      built = ok.1.1.0.1

      code_is : code.PlaceCode (scope c a) d pc k × (code.PlaceCode (scope c a) e p1 (k + code.dt (scope c a) d) × code.Has (scope c a) p2 (code.with_a op.Copy (words (T d))))
      code_is = no_code _ _ (may_differ (scope c a) d) may has

      on_source : (x : Source) (p : Place) (s1 s2 : State) (w1 w2 : World) → ExactKept c a n call b (T d) os p s1 w1 → source_kept t s1.made x s2 w2 → Follows c (source_to p2 (pos (address_at s1 p) ∷ []) x s2 w2) (PTo (suc p2) []) (PKept os) (assign_record q p x (here_in c a n call b) at s2)
      on_source (Stands p3) p s1 s2 w1 w2 k1 k2 =
          let exact : form_at s2 p ≡ t = form_same c s1.made s2.made k2.1.objects (K c a) p k1.0.0 ∙ k1.0.1 ∙ form in
          let far = address_same c s1.made s2.made k2.1.objects (K c a) p k1.0.0 in
          let copies : code.Has (scope c a) p2 (code.with_a op.Copy (words t)) = subst (λ u. code.Has (scope c a) p2 (code.with_a op.Copy (words u))) form code_is.1.1 in
          subst (λ m. Follows c (go c a p2 (pos (address_at s2 p3) ∷ pos m ∷ []) w2) (PTo (suc p2) []) (PKept os) (assign_record q p (Stands p3) (here_in c a n call b) at s2)) far
          (exact_follows q p p3 os s2 w2 p2 (pos (address_at s2 p3) ∷ pos (address_at s2 p) ∷ []) [] at line built (place_more c s1.made s2.made k2.1.objects (K c a) p k1.0.0) exact k2.0 (since c a n call b k1.1.objects k2.1)
          (λ l g. goes c a [] (with_memory w2 l) copies (rows.copy_next c.img a.u a.m a.p (fb c a) p2 w2 (pos (address_at s2 p)) (pos (address_at s2 p3)) (words t) l [] g) (omega arith)))
      on_source (Text text) p s1 s2 w1 w2 k1 k2 = absurd k2
