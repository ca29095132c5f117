-- The code of fields and elements gives their addresses.
use Rattle.std.proofs.lemmas.Bool.{ltb-true}
use Rattle.std.proofs.Common.{◌≡◌, ℕ, suc, ◌+◌, ◌*◌, ◌≤◌, List, [], ◌∷◌, ◌++◌, length, Some, ℤ, refl, sym, ap, ◌∙◌, subst, arith}
use Rattle.std.specs.Prelude.{pos, negsuc, Bool, true, false, nat_lt, ◌&&◌, bytes_eq, if◌then◌else◌}
use Rattle.ob_trap.specs.declared.trap.Trap.TheVariants as trap
use Rattle.ob_tree.specs.declared.pos.Pos.{Pos}
use Rattle.ob_tree.specs.declared.names.QName.{QName}
use Rattle.ob_types.specs.declared.types.TypeRef.{TypeRef}
use Rattle.ob_types.specs.TypedSyntax.{Desig, Field, Index, Expr}
use Rattle.ob_instr.specs.declared.opcode.Opcode.TheVariants as op
use Rattle.ob_instr.specs.Image.{World}
use Rattle.ob_instr.specs.Rows.{Next}
use Rattle.ob_instr.proofs.Goes as rows
use Rattle.ob_meaning.specs.Values.{same_name, Form, BasicForm, PointerForm, ProcedureForm, ArrayForm, OpenForm, RecordForm, Fields, NoField, AField, joined, fields_of, form_in, record_in, words, Step, FieldStep, ElementStep, Place, At, inside, Active, AnObject, State, integer_of}
use Rattle.ob_meaning.specs.Results.{Trapped, Gives, Stops, Caller}
use Rattle.ob_meaning.specs.Meaning.{element_place, choose}
use Rattle.law_simulation_relation.specs.Layout.{field_offset, field_form, element_of_form, path_form, path_offset, root_form, place_form, address}
use Rattle.law_simulation_relation.specs.Relation.{OrElse, word_of, FieldIn, PathIn, PlaceIn, Sub, itself, extended, opened}
use Rattle.law_simulation_relation.specs.Ends.{end_place, end_expr}
use Rattle.law_simulation_relation.specs.Stands as code
use Rattle.law_simulation_relation.specs.Typed.{longint}
use Rattle.law_simulation_relation.proofs.Steps.{Follows, follows_bind, follows_value, follows_stop, stands_any}
use Rattle.law_simulation_relation.proofs.Statements.{Activation, scope, go, fb, K, here_in, Keeps, PlaceTo, PlaceKept, PlaceFollows, ExprFollows}
use Rattle.law_simulation_relation.proofs.Grow.{address_same, place_of_more}
use Rattle.law_simulation_relation.proofs.Needs.{need_one, need_one_e}
use Rattle.law_simulation_relation.proofs.Moves.{goes, traps, address_small, small_word}
use Rattle.law_simulation_relation.proofs.Exprs.{from_here, since}
use Rattle.law_simulation_relation.specs.Setting.{Setting, has_of}

-- A STEP MORE

pub path_in-append : (p q : List Step) (t : Form) → PathIn t p → PathIn (path_form t p) q → PathIn t (p ++ q)
path_in-append [] q t h k = k
path_in-append (FieldStep o x ∷ p) q (RecordForm line fs) h k = (h.0, path_in-append p q (field_form fs o x) h.1 k)
path_in-append (FieldStep o x ∷ p) q (BasicForm b) h k = absurd h
path_in-append (FieldStep o x ∷ p) q (PointerForm b) h k = absurd h
path_in-append (FieldStep o x ∷ p) q (ProcedureForm b) h k = absurd h
path_in-append (FieldStep o x ∷ p) q (ArrayForm n t) h k = absurd h
path_in-append (FieldStep o x ∷ p) q (OpenForm t) h k = absurd h
path_in-append (ElementStep i ∷ p) q (ArrayForm n t) h k = (h.0, path_in-append p q t h.1 k)
path_in-append (ElementStep i ∷ p) q (BasicForm b) h k = absurd h
path_in-append (ElementStep i ∷ p) q (PointerForm b) h k = absurd h
path_in-append (ElementStep i ∷ p) q (ProcedureForm b) h k = absurd h
path_in-append (ElementStep i ∷ p) q (OpenForm t) h k = absurd h
path_in-append (ElementStep i ∷ p) q (RecordForm line fs) h k = absurd h

pub path_form-append : (p q : List Step) (t : Form) → path_form t (p ++ q) ≡ path_form (path_form t p) q
path_form-append [] q t = refl
path_form-append (FieldStep o x ∷ p) q t = path_form-append p q (field_form (fields_of t) o x)
path_form-append (ElementStep i ∷ p) q t = path_form-append p q (element_of_form t)

path_offset-append : (p q : List Step) (t : Form) → path_offset t (p ++ q) ≡ path_offset t p + path_offset (path_form t p) q
path_offset-append [] q t = omega arith
path_offset-append (FieldStep o x ∷ p) q t = let e = path_offset-append p q (field_form (fields_of t) o x) in omega (arith, e)
path_offset-append (ElementStep i ∷ p) q t = let e = path_offset-append p q (element_of_form t) in omega (arith, e)

module _ (c : Setting) (os : List AnObject) (cs : List Active) where
  pub inside_in : (p : Place) (q : Step) → PlaceIn c.program (has_of c) c.img os cs p → PathIn (place_form c.program c.img os cs p) (q ∷ []) → PlaceIn c.program (has_of c) c.img os cs (inside p q)
  inside_in (At root path) q h k = (h.0, path_in-append path (q ∷ []) (root_form c.program c.img os cs root) h.1 k)

  pub inside_form : (p : Place) (q : Step) → place_form c.program c.img os cs (inside p q) ≡ path_form (place_form c.program c.img os cs p) (q ∷ [])
  inside_form (At root path) q = path_form-append path (q ∷ []) (root_form c.program c.img os cs root)

  pub inside_address : (p : Place) (q : Step) → address c.program c.img os cs p + path_offset (place_form c.program c.img os cs p) (q ∷ []) ≡ address c.program c.img os cs (inside p q)
  inside_address (At root path) q = let e = path_offset-append path (q ∷ []) (root_form c.program c.img os cs root) in omega (arith, e)

-- FIELDS OF AN EXTENSION

-- a field stands in an extension where it stands in the base
pub record Same (t : Form) (o : QName) (x : List ℕ) (fs : Fields) : Type 0 where
  pub in_it : PathIn t (FieldStep o x ∷ [])
  pub form : field_form (fields_of t) o x ≡ field_form fs o x
  pub offset : field_offset (fields_of t) o x ≡ field_offset fs o x

joined_in : (fs gs : Fields) (o : QName) (x : List ℕ) → FieldIn fs o x → FieldIn (joined fs gs) o x
joined_in NoField gs o x h = absurd h
joined_in (AField owner name t fs) gs o x h = go (bytes_eq x name && same_name o owner) h (λ h. joined_in fs gs o x h)
  where
    go : (b : Bool) → OrElse b (Unit {0}) (FieldIn fs o x) → (FieldIn fs o x → FieldIn (joined fs gs) o x) → OrElse b (Unit {0}) (FieldIn (joined fs gs) o x)
    go true h r = h
    go false h r = r h

joined_form : (fs gs : Fields) (o : QName) (x : List ℕ) → FieldIn fs o x → field_form (joined fs gs) o x ≡ field_form fs o x
joined_form NoField gs o x h = absurd h
joined_form (AField owner name t fs) gs o x h = go (bytes_eq x name && same_name o owner) h (λ h. joined_form fs gs o x h)
  where
    go : (b : Bool) → OrElse b (Unit {0}) (FieldIn fs o x) → (FieldIn fs o x → field_form (joined fs gs) o x ≡ field_form fs o x) → (if b then t else field_form (joined fs gs) o x) ≡ (if b then t else field_form fs o x)
    go true h r = refl
    go false h r = r h

joined_offset : (fs gs : Fields) (o : QName) (x : List ℕ) → FieldIn fs o x → field_offset (joined fs gs) o x ≡ field_offset fs o x
joined_offset NoField gs o x h = absurd h
joined_offset (AField owner name t fs) gs o x h = go (bytes_eq x name && same_name o owner) h (λ h. joined_offset fs gs o x h)
  where
    go : (b : Bool) → OrElse b (Unit {0}) (FieldIn fs o x) → (FieldIn fs o x → field_offset (joined fs gs) o x ≡ field_offset fs o x) → (if b then 0 else words t + field_offset (joined fs gs) o x) ≡ (if b then 0 else words t + field_offset fs o x)
    go true h r = refl
    go false h r = ap (λ n. words t + n) (r h)

pub sub_field : (t u : Form) (line : List QName) (fs : Fields) (o : QName) (x : List ℕ) → Sub t u → u ≡ RecordForm line fs → FieldIn fs o x → Same t o x fs
sub_field _ u line fs o x itself e h = subst (λ u. Same u o x fs) (sym e) (record { in_it = (h, tt); form = refl; offset = refl })
sub_field _ _ line fs o x (extended more gs {line = line2} {fs = fs2}) e h =
    let same : fs2 ≡ fs = ap fields_of e in
    let h2 : FieldIn fs2 o x = subst (λ f. FieldIn f o x) (sym same) h in
    record { in_it = (joined_in fs2 gs o x h2, tt); form = joined_form fs2 gs o x h2 ∙ ap (λ f. field_form f o x) same; offset = joined_offset fs2 gs o x h2 ∙ ap (λ f. field_offset f o x) same }
sub_field _ _ line fs o x (opened n) e h = absurd (cc)

pub sub_array : (t u : Form) (n : ℕ) (v : Form) → Sub t u → u ≡ ArrayForm n v → t ≡ ArrayForm n v
sub_array _ u n v itself e = e
sub_array _ _ n v (extended more gs) e = absurd (cc)
sub_array _ _ n v (opened k) e = absurd (cc)

module _ (c : Setting) (a : Activation c) (n : ℕ) (call : Caller) (b : ℕ) where
  abbrev P : Desig → Type 0
  P d = PlaceFollows c a n call b d

  abbrev Kp : List AnObject → State → World → Type 0
  Kp os s w = Keeps c a n call b os s w

  pub field_case : (d : Desig) (o : QName) (x : List ℕ) (t : TypeRef) → P d → P (Field d o x t)
  field_case d o x t ih pc k ops os s w le has ok st =
      let p1 = end_place c.program d pc in
      follows_bind c (ih pc k ops os s w le has.0 ok.0 st) λ p s1 w1 k1.
      let r = sub_field (place_form c.program c.img s1.made (K c a) p) (code.form_of (scope c a) d) ok.1.0 (fields_of (code.form_of (scope c a) d)) o x k1.0.1 ok.1.1 ok.1.2 in
      let in_it = inside_in c s1.made (K c a) p (FieldStep o x) k1.0.0 r.in_it in
      let form : place_form c.program c.img s1.made (K c a) (inside p (FieldStep o x)) ≡ form_in c.program t = inside_form c s1.made (K c a) p (FieldStep o x) ∙ r.form ∙ ok.1.3 in
      let off : field_offset (fields_of (place_form c.program c.img s1.made (K c a) p)) o x ≡ field_offset (fields_of (record_in c.program o)) o x = r.offset ∙ ok.1.4 in
      let far : address c.program c.img s1.made (K c a) p + field_offset (fields_of (record_in c.program o)) o x ≡ address c.program c.img s1.made (K c a) (inside p (FieldStep o x)) = let e = inside_address c s1.made (K c a) p (FieldStep o x) in omega (arith, e, off) in
      let small = small_word c (address c.program c.img s1.made (K c a) p + field_offset (fields_of (record_in c.program o)) o x) (subst (λ m. m ≤ 5505025) (sym far) (address_small c (K c a) s1 w1 (inside p (FieldStep o x)) k1.1.all in_it)) in
      follows_value c w1
      (goes c a _ w1 has.1 (rows.offset_next c.img a.u a.m a.p (fb c a) p1 w1 (pos (address c.program c.img s1.made (K c a) p)) (pos (field_offset (fields_of (record_in c.program o)) o x)) ops small ∙ ap (λ m. Next (pos m ∷ ops) w1) far) (omega (arith, le, need_one d)))
      ((in_it, subst (λ u. Sub u (form_in c.program t)) (sym form) itself), k1.1)

  element_follows : (z : ℤ) (p : Place) (l : ℕ) (t : Form) (at : Pos) (pc : ℕ) (ops : List ℤ) (os : List AnObject) (s : State) (w : World) → length ops + 1 ≤ 256 → code.HasAt (scope c a) pc (code.instr op.Index (pos l) (pos (words t))) at → PlaceIn c.program (has_of c) c.img s.made (K c a) p → place_form c.program c.img s.made (K c a) p ≡ ArrayForm l t → Kp os s w →
      Follows c (go c a pc (z ∷ pos (address c.program c.img s.made (K c a) p) ∷ ops) w) (PlaceTo c a n call b (suc pc) ops) (PlaceKept c a n call b t os) (element_place l p z (here_in c a n call b) at s)
  element_follows (negsuc i) p l t at pc ops os s w le has here_p e st =
      follows_stop c w (traps c a trap.IndexOutside (pos 0) w has (rows.index_traps c.img a.u a.m a.p (fb c a) pc w (pos (address c.program c.img s.made (K c a) p)) (negsuc i) (pos l) (pos (words t)) ops refl)) (stands_any c st)
  element_follows (pos i) p l t at pc ops os s w le has here_p e st = by (nat_lt i l) refl
    where
      by : (z : Bool) → nat_lt i l ≡ z → Follows c (go c a pc (pos i ∷ pos (address c.program c.img s.made (K c a) p) ∷ ops) w) (PlaceTo c a n call b (suc pc) ops) (PlaceKept c a n call b t os) (choose z (Gives (inside p (ElementStep i))) (λ s. Stops (Trapped trap.IndexOutside (pos 0) a.unit at) s) s)
      by false f = follows_stop c w (traps c a trap.IndexOutside (pos 0) w has (rows.index_traps c.img a.u a.m a.p (fb c a) pc w (pos (address c.program c.img s.made (K c a) p)) (pos i) (pos l) (pos (words t)) ops f)) (stands_any c st)
      by true f =
          let lt = ltb-true i l f in
          let in_it = inside_in c s.made (K c a) p (ElementStep i) here_p (subst (λ u. PathIn u (ElementStep i ∷ [])) (sym e) (lt, tt)) in
          let form : place_form c.program c.img s.made (K c a) (inside p (ElementStep i)) ≡ t = inside_form c s.made (K c a) p (ElementStep i) ∙ ap element_of_form e in
          let size : words (element_of_form (place_form c.program c.img s.made (K c a) p)) ≡ words t = ap (λ u. words (element_of_form u)) e in
          let off : path_offset (place_form c.program c.img s.made (K c a) p) (ElementStep i ∷ []) ≡ i * words t = ap (λ k. i * k + 0) size ∙ omega arith in
          let far : address c.program c.img s.made (K c a) p + i * words t ≡ address c.program c.img s.made (K c a) (inside p (ElementStep i)) = ap (λ k. address c.program c.img s.made (K c a) p + k) (sym off) ∙ inside_address c s.made (K c a) p (ElementStep i) in
          let small = small_word c (address c.program c.img s.made (K c a) p + i * words t) (subst (λ m. m ≤ 5505025) (sym far) (address_small c (K c a) s w (inside p (ElementStep i)) st.all in_it)) in
          follows_value c w
          (goes c a _ w has.has (rows.index_next c.img a.u a.m a.p (fb c a) pc w (pos (address c.program c.img s.made (K c a) p)) (pos i) (pos l) (pos (words t)) ops f small ∙ ap (λ m. Next (pos m ∷ ops) w) far) (omega (arith, le)))
          ((in_it, subst (λ u. Sub u t) (sym form) itself), st)

  pub index_case : (d : Desig) (l : ℕ) (i : Expr) (at : Pos) (t : TypeRef) → P d → ExprFollows c a n call b i → P (Index d (Some l) i at t)
  index_case d l i at t ih_d ih_i pc k ops os s w le has ok st =
      let p1 = end_place c.program d pc in
      follows_bind c (ih_d pc k ops os s w (omega (arith, le)) has.0 ok.0 st) λ p s1 w1 k1.
      follows_bind c (ih_i longint p1 _ (pos (address c.program c.img s1.made (K c a) p) ∷ ops) s1.made s1 w1 (omega (arith, le)) has.1.0 ok.1.0 (from_here c a n call b k1.1)) λ v s2 w2 k2.
      let z = k2.0 in
      let same = address_same c s1.made s2.made k2.1.objects (K c a) p k1.0.0 in
      let kept = place_of_more c s1.made s2.made k2.1.objects (K c a) (code.form_of (scope c a) d) p k1.0 in
      let form = sub_array (place_form c.program c.img s2.made (K c a) p) (code.form_of (scope c a) d) l (form_in c.program t) kept.1 ok.1.1 in
      subst (λ v. Follows c (go c a (end_expr c.program i p1) (word_of c.program (has_of c) c.img s2.made v ∷ pos (address c.program c.img s1.made (K c a) p) ∷ ops) w2) (PlaceTo c a n call b (suc (end_expr c.program i p1)) ops) (PlaceKept c a n call b (form_in c.program t) os) (element_place l p (integer_of v) (here_in c a n call b) at s2)) (sym z.2)
      (subst (λ m. Follows c (go c a (end_expr c.program i p1) (z.0 ∷ pos m ∷ ops) w2) (PlaceTo c a n call b (suc (end_expr c.program i p1)) ops) (PlaceKept c a n call b (form_in c.program t) os) (element_place l p z.0 (here_in c a n call b) at s2)) same
      (element_follows z.0 p l (form_in c.program t) at (end_expr c.program i p1) ops os s2 w2 (omega (arith, le, need_one_e i)) has.1.1 kept.0 form (since c a n call b k1.1.objects k2.1)))
