-- Types as they are written, with other interfaces around.
use Rattle.std.proofs.Common.{◌≡◌, refl, sym, ap, ◌∙◌, subst, ℕ, List, [], ◌∷◌, ◌++◌, Option, Some, None, Bool, true, false, not}
use Rattle.std.specs.Prelude.{◌&&◌, ◌||◌, is_some, is_none}
use Rattle.std.specs.List.{AllByRecursion}
use Rattle.ob_tree.specs.declared.pos.Pos.{Pos}
use Rattle.ob_tree.specs.declared.names.QName.{QName}
use Rattle.ob_tree.specs.declared.ident.Ident.{Ident}
use Rattle.ob_tree.specs.declared.ident.IdentDef.{IdentDef}
use Rattle.ob_tree.specs.declared.ident.Mark.{Mark}
use Rattle.ob_tree.specs.declared.ident.Mark.TheVariants as mark
use Rattle.ob_tree.specs.declared.ident.Qualident.{Qualident}
use Rattle.ob_types.specs.declared.types.TypeRef.{TypeRef}
use Rattle.ob_types.specs.declared.types.TypeRef.TheVariants as ref
use Rattle.ob_types.specs.declared.desc.Desc.{Desc}
use Rattle.ob_types.specs.declared.desc.Desc.TheVariants as desc
use Rattle.ob_types.specs.declared.desc.Field.{Field}
use Rattle.ob_types.specs.declared.typed.TypedType.{TypedType}
use Rattle.ob_types.specs.Maps.{listed}
use Rattle.ob_rules.specs.declared.notes.Later.{Later}
use Rattle.ob_rules.specs.declared.notes.Later.TheVariants as later
use Rattle.ob_rules.specs.declared.broken.Rule.TheVariants as rule
use Rattle.ob_rules.specs.Judged.{Judged, sound, silent, breaks, unless, both, each_sound, made, noted, judge_later, if_sound, ◌▷◌}
use Rattle.ob_rules.specs.Shapes.{record_of, is_open, is_structured, is_pointer}
use Rattle.ob_rules.specs.Names.{is_among, Around, map_of, in_unit, type_named}
use Rattle.ob_rules.specs.Phrases.{Phrase}
use Rattle.ob_rules.specs.Expressions.{constant_value}
use Rattle.ob_rules.specs.Types.{Typing, Written, typed_as, with_types, base_name, element_name, field_name, marked, named_typing, length_of, array_length, fixed_array, open_array, array, first_of, base_of, base_if, member_in, record_in, inherits, field_declared, field_if, name_in, fields_of, names_behind, WrittenFields, first_name, Fields, with_fields, fields_joined, field_lists, record_desc, record_with, pointer_to, base_judged, pointer_base, later_by, is_later, pointer_by, pointer}
use Rattle.law_local_judged.specs.Agreement.{IsIn, DescIn, Agree}
use Rattle.law_local_judged.specs.Said.{SaidIn}
use Rattle.law_local_judged.specs.Followed.{beside, TypeIn, Agrees, Follows}
use Rattle.law_local_judged.specs.Declared.{MadeIn, TypingIn, OwnIn}
use Rattle.law_local_judged.proofs.Tests.{two, open_same, record_same, record_in as record_name_in, is_array_same, is_record_same, pointed_same, member_same}
use Rattle.law_local_judged.proofs.Following.{said_left, follows_none, follows_sound, follows_to, follows_wants, follows_unless, follows_also, follows_then, follows_made, follows_both, follows_weaker, made_node, both_node, front_said, Both}
use Rattle.law_local_judged.proofs.Names.{maps_agree, type_named_follows}
use Rattle.law_local_judged.proofs.Actuals.{PhraseFollows}
use Rattle.law_local_judged.proofs.Operators.{each_follows}
use Rattle.law_local_judged.proofs.Expressions.{constant_value_follows}
use Rattle.law_lists.proofs.Lists.{all_both}

module _ (P : QName → Type 0) where
  -- it is tied, and mentions nothing of its own
  abbrev pub TF : {A : Type 0} → (A → Type 0) → Judged A → Judged A → Type 0
  TF T i j = Follows P T (λ x. Unit {0}) (Unit {0}) i j

  pub agrees_with : (u : Around) (s : QName → Option Desc) (ts : List TypedType) → Agrees P u s → MadeIn P ts → Agrees P (with_types u ts) s
  agrees_with u s ts a h = record { same = a.same; near = a.near; out = a.out; own = all_both (λ t. DescIn P (Some t.desc)) ts u.own h a.own; known = a.known; guards = a.guards; receiver = a.receiver; result = a.result }

  -- A TYPE THAT IS WRITTEN follows wherever it stands
  abbrev pub WrittenFollows : Written → Type 0
  WrittenFollows w = (u : Around) (s : QName → Option Desc) → Agrees P u s → OwnIn P u.unit → (name : List ℕ) (m : Mark) (b : Bool) → TF (TypingIn P) (w.typing u name m b) (w.typing (beside u s) name m b)

  abbrev pub LengthFollows : Phrase → Type 0
  LengthFollows p = (u : Around) (s : QName → Option Desc) (a : Agrees P u s) → PhraseFollows P u s a p

  two_tied : {A B C : Type 0} (T : A → Type 0) (U : B → Type 0) (V : C → Type 0) (F : A × B → C) (i j : Judged A) (k l : Judged B) → TF T i j → TF U k l → ((p : A × B) → T p.0 → U p.1 → V (F p)) → TF V (made F (both i k)) (made F (both j l))
  two_tied {A} {B} T U V F i j k l h g f =
      follows_weaker P V (λ x. Unit {0}) (Unit {0} × Unit {0}) (Unit {0}) (made F (both i k)) (made F (both j l)) (λ r. tt)
      (follows_made P (λ p. T p.0 × U p.1) (λ p. Unit {0} × Unit {0}) V (λ x. Unit {0}) (Unit {0} × Unit {0}) F (both i k) (both j l) (follows_both P T (λ x. Unit {0}) U (λ x. Unit {0}) (Unit {0}) (Unit {0}) i j k l h g) (λ p t. f p t.0 t.1) (λ p t m. (tt, tt)))

  tied_none : {A : Type 0} (T : A → Type 0) (i j : Judged A) → i.node ≡ None → TF T i j
  tied_none T i j e = follows_none P T (λ x. Unit {0}) (Unit {0}) i j e

  later_follows : {A : Type 0} (T : A → Type 0) (ls : List Later) (i j : Judged A) → TF T i j → TF T (judge_later ls i) (judge_later ls j)
  later_follows T [] i j h = h
  later_follows T (l ∷ ls) i j h =
      let k = later_follows T ls i j h in
      record { keeps = λ x e said. k.keeps x e (record { objects = said.objects; types = said.types; lengths = said.lengths }); same = λ x e said m. let r = k.same x e (record { objects = said.objects; types = said.types; lengths = said.lengths }) tt in (tt, ap (noted (record { broken = []; objects = []; types = []; lengths = []; later = l ∷ [] })) r.1) }

  module _ (u : Around) (s : QName → Option Desc) (a : Agrees P u s) (own : OwnIn P u.unit) where
    abbrev v : Around
    v = beside u s

    abbrev maps : Agree P (map_of u) (map_of v)
    maps = maps_agree P u s a

    as_in : (name : List ℕ) (d : Desc) (more : List TypedType) → DescIn P (Some d) → MadeIn P more → TypingIn P (typed_as u name d more)
    as_in name d more h k = (own name, (h, k))

    -- ---- names and arrays

    pub named_follows : (q : Qualident) (b : Bool) → TF (TypingIn P) (type_named u q ▷ named_typing u (first_of q) b) (type_named v q ▷ named_typing v (first_of q) b)
    named_follows q b =
        follows_then P (IsIn P) (λ t. Unit {0}) (TypingIn P) (λ t. Unit {0}) (Unit {0}) (type_named u q) (type_named v q) (named_typing u (first_of q) b) (named_typing v (first_of q) b) (type_named_follows P u s a q)
        (λ t h. follows_unless P (TypingIn P) (λ t. Unit {0}) (Unit {0}) (not b && is_open (map_of u) t) (not b && is_open (map_of v) t) rule.MisplacedOpenArray (first_of q) (record { of = t; made = [] }) (h, tt) (λ m. tt) (λ r. ap (λ x. not b && x) (open_same P (map_of u) (map_of v) maps t h)))

    length_follows : (p : Phrase) → LengthFollows p → TF (λ n. Unit {0}) (array_length u p) (array_length v p)
    length_follows p h = follows_then P (λ c. Unit {0}) (λ c. Unit {0}) (λ n. Unit {0}) (λ n. Unit {0}) (Unit {0}) (constant_value u p) (constant_value v p) (length_of p.start) (length_of p.start) (constant_value_follows P u s a p (h u s a)) (λ c t. record { keeps = λ x e said. tt; same = λ x e said m. (tt, refl) })

    fixed_follows : (name : List ℕ) (m : Mark) (ls : List Phrase) (element : Written) → AllByRecursion LengthFollows ls → WrittenFollows element → TF (TypingIn P) (fixed_array u name m ls element) (fixed_array v name m ls element)
    fixed_follows name m [] element h k = k u s a own name m false
    fixed_follows name m (l ∷ ls) element h k =
        two_tied (λ n. Unit {0}) (TypingIn P) (TypingIn P) (λ p. typed_as u name (desc.Array m p.0 p.1.of) p.1.made) (array_length u l) (array_length v l) (fixed_array u (element_name name) mark.Hidden ls element) (fixed_array v (element_name name) mark.Hidden ls element)
        (length_follows l h.0) (fixed_follows (element_name name) mark.Hidden ls element h.1 k) (λ p t w. as_in name (desc.Array m p.0 p.1.of) p.1.made (w.0, tt) w.1)

    open_follows : (name : List ℕ) (m : Mark) (at : Pos) (b : Bool) (element : Written) → WrittenFollows element → TF (TypingIn P) (open_array u name m at b element) (open_array v name m at b element)
    open_follows name m at b element k =
        follows_also P (TypingIn P) (λ t. Unit {0}) (Unit {0}) (not b || element.open_array) (not b || element.open_array) rule.MisplacedOpenArray at
        (element.typing u (element_name name) mark.Hidden element.open_array ▷ λ t. sound (typed_as u name (desc.OpenArray m t.of) t.made)) (element.typing v (element_name name) mark.Hidden element.open_array ▷ λ t. sound (typed_as v name (desc.OpenArray m t.of) t.made))
        (follows_made P (TypingIn P) (λ t. Unit {0}) (TypingIn P) (λ t. Unit {0}) (Unit {0}) (λ t. typed_as u name (desc.OpenArray m t.of) t.made) (element.typing u (element_name name) mark.Hidden element.open_array) (element.typing v (element_name name) mark.Hidden element.open_array)
        (k u s a own (element_name name) mark.Hidden element.open_array) (λ t w. as_in name (desc.OpenArray m t.of) t.made (w.0, tt) w.1) (λ t w m. tt)) (λ r. refl)

    pub array_follows : (name : List ℕ) (m : Mark) (at : Pos) (b : Bool) (ls : List Phrase) (element : Written) → AllByRecursion LengthFollows ls → WrittenFollows element → TF (TypingIn P) (array u name m at b ls element) (array v name m at b ls element)
    array_follows name m at b [] element h k = open_follows name m at b element k
    array_follows name m at b (l ∷ ls) element h k = fixed_follows name m (l ∷ ls) element h k

    -- ---- records

    abbrev BaseIn : Option TypeRef → Type 0
    BaseIn o = TypeIn P o

    base_follows : (o : Option Qualident) → TF BaseIn (base_if u o) (base_if v o)
    base_follows None = follows_sound P BaseIn (λ o. Unit {0}) (Unit {0}) None tt (λ m. tt)
    base_follows (Some q) =
        follows_made P (IsIn P) (λ t. Unit {0}) BaseIn (λ o. Unit {0}) (Unit {0}) (λ t. Some t) (type_named u q ▷ base_of (map_of u) (first_of q)) (type_named v q ▷ base_of (map_of v) (first_of q))
        (follows_then P (IsIn P) (λ t. Unit {0}) (IsIn P) (λ t. Unit {0}) (Unit {0}) (type_named u q) (type_named v q) (base_of (map_of u) (first_of q)) (base_of (map_of v) (first_of q)) (type_named_follows P u s a q)
        (λ t h. follows_wants P (IsIn P) (λ t. Unit {0}) (Unit {0}) (is_some (record_of (map_of u) t)) (is_some (record_of (map_of v) t)) rule.UnfitBase (first_of q) t h (λ m. tt) (λ r. ap (λ o. is_some o) (record_same P (map_of u) (map_of v) maps t h))))
        (λ t h. h) (λ t h m. tt)

    -- the base of a record, where it keeps all rules
    abbrev NodeIn : Option (Option TypeRef) → Type 0
    NodeIn None = Unit {0}
    NodeIn (Some o) = TypeIn P o

    member_by : (o : Option QName) (x : List ℕ) → ((q : QName) → o ≡ Some q → P q) → member_in (map_of v) o x ≡ member_in (map_of u) o x
    member_by None x h = refl
    member_by (Some q) x h = member_same P (map_of u) (map_of v) maps q x (h q refl)

    base_member_same : (base : Option (Option TypeRef)) (x : List ℕ) → NodeIn base → member_in (map_of v) (record_in (map_of v) base) x ≡ member_in (map_of u) (record_in (map_of u) base) x
    base_member_same None x h = refl
    base_member_same (Some None) x h = refl
    base_member_same (Some (Some t)) x h = ap (λ o. member_in (map_of v) o x) (record_same P (map_of u) (map_of v) maps t h) ∙ member_by (record_of (map_of u) t) x (λ q e. record_name_in P (map_of u) (map_of v) maps t q h e)

    marked_same : (b : Bool) (d : IdentDef) → marked v b d ≡ marked u b d
    marked_same b d = refl

    field_follows : (base : Option (Option TypeRef)) (before : List (List ℕ)) (d : IdentDef) (o : Option Typing) → NodeIn base → TF (λ x. Unit {0}) (field_if u base before d o) (field_if v base before d o)
    field_follows base before d (Some t) h =
        later_follows (λ x. Unit {0}) (inherits base d.ident) (marked u true d ▷ λ m. unless (is_among d.ident.name before || is_some (member_in (map_of u) (record_in (map_of u) base) d.ident.name)) rule.DeclaredTwice d.ident.pos (record { name = d.ident.name; mark = m; place = 0; of = t.of }))
        (marked v true d ▷ λ m. unless (is_among d.ident.name before || is_some (member_in (map_of v) (record_in (map_of v) base) d.ident.name)) rule.DeclaredTwice d.ident.pos (record { name = d.ident.name; mark = m; place = 0; of = t.of }))
        (follows_then P (λ m. Unit {0}) (λ m. Unit {0}) (λ x. Unit {0}) (λ x. Unit {0}) (Unit {0}) (marked u true d) (marked v true d)
        (λ m. unless (is_among d.ident.name before || is_some (member_in (map_of u) (record_in (map_of u) base) d.ident.name)) rule.DeclaredTwice d.ident.pos (record { name = d.ident.name; mark = m; place = 0; of = t.of }))
        (λ m. unless (is_among d.ident.name before || is_some (member_in (map_of v) (record_in (map_of v) base) d.ident.name)) rule.DeclaredTwice d.ident.pos (record { name = d.ident.name; mark = m; place = 0; of = t.of }))
        (record { keeps = λ x e said. tt; same = λ x e said m. (tt, refl) })
        (λ m k. follows_unless P (λ x. Unit {0}) (λ x. Unit {0}) (Unit {0}) (is_among d.ident.name before || is_some (member_in (map_of u) (record_in (map_of u) base) d.ident.name)) (is_among d.ident.name before || is_some (member_in (map_of v) (record_in (map_of v) base) d.ident.name)) rule.DeclaredTwice d.ident.pos
        (record { name = d.ident.name; mark = m; place = 0; of = t.of }) tt (λ n. tt) (λ r. ap (λ o. is_among d.ident.name before || is_some o) (base_member_same base d.ident.name h))))
    field_follows base before d None h = tied_none (λ x. Unit {0}) (field_if u base before d None) (field_if v base before d None) (silent_none (field_declared u base before d (ref.Named (in_unit u []))))
      where
        silent_none : (j : Judged Field) → (j ▷ λ f. silent {A = Field}).node ≡ None
        silent_none j = by j.node
          where
            by : (o : Option Field) → (if_sound o (λ f. silent {A = Field})).node ≡ None
            by None = refl
            by (Some x) = refl

    all_fields : (base : Option (Option TypeRef)) (before : List (List ℕ)) (ds : List IdentDef) (o : Option Typing) → NodeIn base → Both P (λ (x : Field). Unit {0}) (λ x. Unit {0}) (fields_of u base before ds o) (fields_of v base before ds o)
    all_fields base before [] o h = tt
    all_fields base before (d ∷ ds) o h = (field_follows base before d o h, all_fields base (name_in d ∷ before) ds o h)

    each_tied : {A : Type 0} (js ks : List (Judged A)) → Both P (λ (x : A). Unit {0}) (λ x. Unit {0}) js ks → TF (λ (xs : List A). Unit {0}) (each_sound js) (each_sound ks)
    each_tied {A} js ks h =
        let f = each_follows P (λ (x : A). Unit {0}) (λ x. Unit {0}) js ks h in
        record { keeps = λ x e said. tt; same = λ x e said m. (tt, (f.same x e said (all_free x)).1) }
      where
        all_free : (xs : List A) → AllByRecursion (λ x. Unit {0}) xs
        all_free [] = tt
        all_free (x ∷ xs) = (tt, all_free xs)

    abbrev FieldsIn : Fields → Type 0
    FieldsIn f = MadeIn P f.made

    -- fields of one type, which is judged first
    with_fields_follow : (base : Option (Option TypeRef)) (before : List (List ℕ)) (ds : List IdentDef) (i j : Judged Typing) → NodeIn base → TF (TypingIn P) i j → TF FieldsIn (with_fields u base before ds i) (with_fields v base before ds j)
    with_fields_follow base before ds i j h k =
        let fs = each_sound (fields_of u base before ds i.node) in
        let f = two_tied (TypingIn P) (λ (xs : List Field). Unit {0}) FieldsIn (λ (p : Typing × List Field). record { fields = p.1; made = p.0.made }) i j fs (each_sound (fields_of v base before ds i.node)) k (each_tied (fields_of u base before ds i.node) (fields_of v base before ds i.node) (all_fields base before ds i.node h)) (λ p t w. t.1) in
        record {
          keeps = f.keeps;
          same = λ x e said m.
              let n = made_node (λ (p : Typing × List Field). record { fields = p.1; made = p.0.made }) (both i fs) x e in
              let q = both_node i fs n.0 n.1.0 in
              let said_i = said_left P i.notes fs.notes (front_said P (both i fs) (λ (p : Typing × List Field). sound (record { fields = p.1; made = p.0.made })) said) in
              let same = (k.same n.0.0 q.0 said_i tt).1 in
              (tt, ap (λ (z : Judged Typing). both j (each_sound (fields_of v base before ds z.node)) ▷ λ p. sound (record { fields = p.1; made = p.0.made })) same ∙ (f.same x e said tt).1);
        }

    pub lists_follow : (name : List ℕ) (base : Option (Option TypeRef)) (before : List (List ℕ)) (ls : List WrittenFields) → NodeIn base → AllByRecursion (λ l. WrittenFollows l.node) ls → TF FieldsIn (field_lists u name base before ls) (field_lists v name base before ls)
    lists_follow name base before [] h k = follows_sound P FieldsIn (λ x. Unit {0}) (Unit {0}) (record { fields = []; made = [] }) tt (λ m. tt)
    lists_follow name base before (l ∷ ls) h k =
        two_tied FieldsIn FieldsIn FieldsIn (λ p. fields_joined p.0 p.1) (with_fields u base before l.names (l.node.typing u (field_name name (first_name l.names)) mark.Hidden false)) (with_fields v base before l.names (l.node.typing v (field_name name (first_name l.names)) mark.Hidden false)) (field_lists u name base (names_behind l.names before) ls) (field_lists v name base (names_behind l.names before) ls)
        (with_fields_follow base before l.names (l.node.typing u (field_name name (first_name l.names)) mark.Hidden false) (l.node.typing v (field_name name (first_name l.names)) mark.Hidden false) h (k.0 u s a own (field_name name (first_name l.names)) mark.Hidden false)) (lists_follow name base (names_behind l.names before) ls h k.1)
        (λ p t w. all_both (λ t. DescIn P (Some t.desc)) p.0.made p.1.made t w)

    base_near : (o : Option TypeRef) → TypeIn P o → AllByRecursion (IsIn P) (listed o)
    base_near None h = tt
    base_near (Some t) h = (h, tt)

    node_in : (j : Judged (Option TypeRef)) (o : Option TypeRef) → j.node ≡ Some o → TypeIn P o → NodeIn j.node
    node_in j o e h = subst NodeIn (sym e) h

    pub record_follows : (name : List ℕ) (m : Mark) (ls : List WrittenFields) (o : Option Qualident) → AllByRecursion (λ l. WrittenFollows l.node) ls → TF (TypingIn P) (record_with u name m ls (base_if u o)) (record_with v name m ls (base_if v o))
    record_follows name m ls o k = record { keeps = λ x e said. (by x e said).0; same = λ x e said n. (tt, (by x e said).1) }
      where
        by : (x : Typing) → (record_with u name m ls (base_if u o)).node ≡ Some x → SaidIn P (record_with u name m ls (base_if u o)).notes → TypingIn P x × (record_with v name m ls (base_if v o) ≡ record_with u name m ls (base_if u o))
        by x e said =
            let i = base_if u o in
            let j = base_if v o in
            let fs = field_lists u name i.node [] ls in
            let made_of : Option TypeRef × Fields → Typing = λ p. typed_as u name (record_desc m p.0 p.1.fields) p.1.made in
            let n = made_node made_of (both i fs) x e in
            let q = both_node i fs n.0 n.1.0 in
            let said_i = said_left P i.notes fs.notes (front_said P (both i fs) (λ p. sound (made_of p)) said) in
            let f = base_follows o in
            let same = (f.same n.0.0 q.0 said_i tt).1 in
            let there = node_in i n.0.0 q.0 (f.keeps n.0.0 q.0 said_i) in
            let parts = two_tied BaseIn FieldsIn (TypingIn P) made_of i j fs (field_lists v name i.node [] ls) f (lists_follow name i.node [] ls there k) (λ p t w. as_in name (record_desc m p.0 p.1.fields) p.1.made (base_near p.0 t) w) in
            (parts.keeps x e said, ap (λ (z : Judged (Option TypeRef)). both j (field_lists v name z.node [] ls) ▷ λ p. sound (typed_as v name (record_desc m p.0 p.1.fields) p.1.made)) same ∙ (parts.same x e said tt).1)

    -- ---- pointers

    later_same : (o : Option Qualident) → is_later v o ≡ is_later u o
    later_same None = refl
    later_same (Some q) = by q.qualifier
      where
        by : (m : Option Ident) → later_by v m q.ident ≡ later_by u m q.ident
        by None = refl
        by (Some m) = refl

    judged_self : (name : List ℕ) (inline : Bool) (at : Pos) (b c : Bool) (t : Typing) → TypingIn P t → TF (TypingIn P) (base_judged name inline at b c t) (base_judged name inline at b c t)
    judged_self name inline at true c t h = follows_sound P (TypingIn P) (λ t. Unit {0}) (Unit {0}) t h (λ m. tt)
    judged_self name inline at false true t h = later_follows (TypingIn P) (later.PointsTo name at t.of inline ∷ []) (sound t) (sound t) (follows_sound P (TypingIn P) (λ t. Unit {0}) (Unit {0}) t h (λ m. tt))
    judged_self name inline at false false t h = tied_none (TypingIn P) (breaks rule.UnfitPointerBase at) (breaks rule.UnfitPointerBase at) refl

    structured_same : (w : Around) (b : Agrees P w s) (t : TypeRef) → IsIn P t → is_structured (map_of (beside w s)) t ≡ is_structured (map_of w) t
    structured_same w b t h = two (λ x y. x || y) (is_array_same P (map_of w) (map_of (beside w s)) (maps_agree P w s b) t h) (is_record_same P (map_of w) (map_of (beside w s)) (maps_agree P w s b) t h)

    base_type_follows : (name : List ℕ) (inline : Bool) (at : Pos) (t : Typing) → TypingIn P t → TF (TypingIn P) (pointer_base u name inline at t) (pointer_base v name inline at t)
    base_type_follows name inline at t h =
        let w = with_types u t.made in
        let b = agrees_with u s t.made a h.1 in
        follows_to P (TypingIn P) (λ t. Unit {0}) (Unit {0}) (pointer_base u name inline at t) (pointer_base v name inline at t) (judged_self name inline at (is_structured (map_of w) t.of) (is_pointer (map_of w) t.of) t h)
        (λ r. two (λ x y. base_judged name inline at x y t) (structured_same w b t.of h.0) (ap (λ o. is_some o) (pointed_same P (map_of w) (map_of (beside w s)) (maps_agree P w s b) t.of h.0)))

    pointer_by_follows : (name : List ℕ) (m : Mark) (base : Written) (o : Option Ident) → WrittenFollows base → TF (TypingIn P) (pointer_by u name m base o) (pointer_by v name m base o)
    pointer_by_follows name m base (Some x) k =
        let t : Typing = pointer_to u name m (record { of = ref.Named (in_unit u (u.path ++ x.name)); made = [] }) in
        later_follows (TypingIn P) (later.PointsTo name x.pos (ref.Named (in_unit u (u.path ++ x.name))) false ∷ []) (sound t) (sound t)
        (follows_sound P (TypingIn P) (λ t. Unit {0}) (Unit {0}) t (own name, ((own (u.path ++ x.name), tt), tt)) (λ m. tt))
    pointer_by_follows name m base None k =
        follows_made P (TypingIn P) (λ t. Unit {0}) (TypingIn P) (λ t. Unit {0}) (Unit {0}) (pointer_to u name m) (base.typing u (base_name name) mark.Hidden true ▷ pointer_base u name (is_none base.name) base.start) (base.typing v (base_name name) mark.Hidden true ▷ pointer_base v name (is_none base.name) base.start)
        (follows_then P (TypingIn P) (λ t. Unit {0}) (TypingIn P) (λ t. Unit {0}) (Unit {0}) (base.typing u (base_name name) mark.Hidden true) (base.typing v (base_name name) mark.Hidden true) (pointer_base u name (is_none base.name) base.start) (pointer_base v name (is_none base.name) base.start)
        (k u s a own (base_name name) mark.Hidden true) (λ t h. base_type_follows name (is_none base.name) base.start t h))
        (λ t h. as_in name (desc.Pointer m t.of) t.made (h.0, tt) h.1) (λ t h n. tt)

    pub pointer_follows : (name : List ℕ) (m : Mark) (base : Written) → WrittenFollows base → TF (TypingIn P) (pointer u name m base) (pointer v name m base)
    pointer_follows name m base k = subst (λ o. TF (TypingIn P) (pointer u name m base) (pointer_by v name m base o)) (sym (later_same base.name)) (pointer_by_follows name m base (is_later u base.name) k)
