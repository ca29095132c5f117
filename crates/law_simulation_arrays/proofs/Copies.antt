-- Words that are copied, and assignments of arrays.
use Rattle.std.proofs.lemmas.Bool.Decides.{nat_tests}
use Rattle.std.proofs.Math.Seq.{take-append_seam, drop-append_seam}
use Rattle.std.proofs.Common.{◌≡◌, ℕ, zero, suc, ◌+◌, ◌-◌, List, [], ◌∷◌, ◌++◌, length, Some, None, ℤ, refl, sym, ap, ◌∙◌, subst, arith, length-append}
use Rattle.std.specs.Prelude.{pos, true, take, drop, nat_le, ◌&&◌, if◌then◌else◌}
use Rattle.ob_tree.specs.declared.pos.Pos.{Pos}
use Rattle.ob_types.specs.declared.typed.Assigned.TheVariants as assigned
use Rattle.ob_types.specs.TypedSyntax.{Desig, ValueOf, Assign}
use Rattle.ob_mem.specs.Words.{are_there, copied, words_at, with_words}
use Rattle.ob_instr.specs.declared.opcode.Opcode.TheVariants as op
use Rattle.ob_instr.specs.Image.{World}
use Rattle.ob_instr.specs.Rows.{with_memory}
use Rattle.ob_instr.proofs.Goes as rows
use Rattle.ob_meaning.specs.Values.{Form, ArrayForm, words, Place, value_at, with_value_at, AnObject, State}
use Rattle.ob_meaning.specs.Results.{Res, Gives, Stops, M, bind, Caller}
use Rattle.ob_meaning.specs.Meaning.{Source, Stands, place, assign_array}
use Rattle.law_simulation_relation.specs.Layout.{address, place_form}
use Rattle.law_simulation_relation.specs.Relation.{Fine, PlaceIn}
use Rattle.law_simulation_relation.specs.Ends.{end_place}
use Rattle.law_simulation_relation.specs.Stands as code
use Rattle.law_simulation_relation.proofs.Steps.{here, Follows, follows_bind, follows_value}
use Rattle.law_simulation_relation.proofs.Statements.{Activation, scope, go, fb, K, here_in, Keeps, PlaceFollows, StmtFollows}
use Rattle.law_simulation_relation.proofs.Grow.{address_same, place_of_more}
use Rattle.law_simulation_relation.proofs.Parts.{W, flat-length}
use Rattle.law_simulation_relation.proofs.Located.{Located, located}
use Rattle.law_simulation_relation.proofs.Moves.{goes}
use Rattle.law_simulation_relation.proofs.Exprs.{from_here, since}
use Rattle.law_simulation_relation.proofs.Paths.{sub_array}
use Rattle.law_simulation_relation.proofs.Rooms.{put_seam}
use Rattle.law_simulation_relation.specs.Setting.{Setting, StandIn, has_of}

-- words stand between others
pub record Between (l part : List ℤ) (x : ℕ) : Type 0 where
  pub before : List ℤ
  pub behind : List ℤ
  pub at : suc (length before) ≡ x
  pub is : l ≡ before ++ (part ++ behind)

no_words : (l : List ℤ) → length l ≡ 0 → l ≡ []
no_words [] e = refl
no_words (x ∷ l) e = absurd (omega (arith, e))

pub are_between : (l part : List ℤ) (x n : ℕ) → Between l part x → length part ≡ n → are_there (length l) (pos x) n ≡ true
are_between l part x zero b e = refl
are_between l part x (suc n) b e =
    let all : length l ≡ length b.before + (length part + length b.behind) = ap length b.is ∙ length-append b.before (part ++ b.behind) ∙ ap (λ n. length b.before + n) (length-append part b.behind) in
    let fits : nat_le (length b.before + suc n) (length l) ≡ true = grind (arith, nat_tests) in
    let there : are_there (length l) (pos (suc (length b.before))) (suc n) ≡ true = fits in
    subst (λ x. are_there (length l) (pos x) (suc n) ≡ true) b.at there

-- a part is read
pub read_between : (l part : List ℤ) (x n : ℕ) → Between l part x → length part ≡ n → words_at l (pos x) n ≡ part
read_between l part x n b e =
    let first : x - 1 ≡ length b.before = let h = b.at in omega (arith, h) in
    ap (λ k. take n (drop k l)) first ∙ ap (λ l. take n (drop (length b.before) l)) b.is ∙ ap (take n) (drop-append_seam b.before (part ++ b.behind)) ∙ ap (λ k. take k (part ++ b.behind)) (sym e) ∙ take-append_seam part b.behind

-- other words in a part's place
pub put_between : (l part new : List ℤ) (x : ℕ) → (b : Between l part x) → length new ≡ length part → with_words l (pos x) new ≡ b.before ++ (new ++ b.behind)
put_between l part new x b e = put_seam l b.before part b.behind new (x - 1) (length part) b.is (let h = b.at in omega (arith, h)) refl e

-- words are copied from one part to another, also where they overlap
pub copied_between : (l to from : List ℤ) (x y n : ℕ) → (b : Between l to x) → Between l from y → length to ≡ n → length from ≡ n → copied l (pos x) (pos y) n ≡ Some (b.before ++ (from ++ b.behind))
copied_between l to from x y zero b f e h =
    ap Some (b.is ∙ ap (λ part. b.before ++ (part ++ b.behind)) (no_words to e ∙ sym (no_words from h)))
copied_between l to from x y (suc n) b f e h =
    let there = are_between l to x (suc n) b e in
    let there2 = are_between l from y (suc n) f h in
    ap (λ t. if t && are_there (length l) (pos y) (suc n) then Some (with_words l (pos x) (words_at l (pos y) (suc n))) else None) there
    ∙ ap (λ t. if t then Some (with_words l (pos x) (words_at l (pos y) (suc n))) else None) there2
    ∙ ap (λ new. Some (with_words l (pos x) new)) (read_between l from y (suc n) f h)
    ∙ ap Some (put_between l to from x b (h ∙ sym e))

-- a source that is a place
pub place_source : {A : Type 0} (r : Res Place) (k : Source → M A) → bind (bind r (λ q s. Gives (Stands q) s)) k ≡ bind r (λ q s. k (Stands q) s)
place_source (Gives q s) k = refl
place_source (Stops y s) k = refl

module _ (c : Setting) (a : Activation c) (n : ℕ) (call : Caller) (b : ℕ) where
  abbrev Kp : List AnObject → State → World → Type 0
  Kp os s w = Keeps c a n call b os s w

  -- the words of a place
  abbrev pub between : (s : State) (w : World) (st : StandIn c (K c a) s w) (p : Place) (t : Form) → (l : Located c (K c a) s w st p) → place_form c.program c.img s.made (K c a) p ≡ t → Between w.words (W c s.made t (value_at s.store p)) (address c.program c.img s.made (K c a) p)
  between s w st p t l e = record { before = l.before; behind = l.behind; at = l.at; is = l.is ∙ ap (λ t. l.before ++ (W c s.made t (value_at s.store p) ++ l.behind)) e }

  array_follows : (p q : Place) (t : Form) (pc : ℕ) (os : List AnObject) (s : State) (w : World) → code.Has (scope c a) pc (code.with_a op.Copy (words t)) → PlaceIn c.program (has_of c) c.img s.made (K c a) p → place_form c.program c.img s.made (K c a) p ≡ t → PlaceIn c.program (has_of c) c.img s.made (K c a) q → place_form c.program c.img s.made (K c a) q ≡ t → Kp os s w →
      Follows c (go c a pc (pos (address c.program c.img s.made (K c a) q) ∷ pos (address c.program c.img s.made (K c a) p) ∷ []) w) (λ u s w. go c a (suc pc) [] w) (λ u s w. Kp os s w) (assign_array p (Stands q) s)
  array_follows p q t pc os s w has in_p form_p in_q form_q st =
      let to = located c (K c a) s w st.all p in_p in
      let from = located c (K c a) s w st.all q in_q in
      let v = value_at s.store q in
      let new = to.before ++ (W c s.made t v ++ to.behind) in
      let is : copied w.words (pos (address c.program c.img s.made (K c a) p)) (pos (address c.program c.img s.made (K c a) q)) (words t) ≡ Some new =
      copied_between w.words (W c s.made t (value_at s.store p)) (W c s.made t v) _ _ (words t) (between s w st.all p t to form_p) (between s w st.all q t from form_q) (flat-length c s.made t (value_at s.store p)) (flat-length c s.made t v) in
      let fine : Fine c.program (has_of c) s.made (place_form c.program c.img s.made (K c a) p) v = subst (λ t. Fine c.program (has_of c) s.made t v) (form_q ∙ sym form_p) from.fine in
      follows_value c (with_memory w new)
      (goes c a [] (with_memory w new) has (rows.copy_next c.img a.u a.m a.p (fb c a) pc w (pos (address c.program c.img s.made (K c a) p)) (pos (address c.program c.img s.made (K c a) q)) (words t) new [] is) (omega arith))
      (record { all = subst (λ t. StandIn c (K c a) (record s { store = with_value_at s.store p v }) (record w { words = to.before ++ (W c s.made t v ++ to.behind) })) form_p (to.stands v fine); calls = st.calls; bound = st.bound; objects = st.objects })

  pub assign_array_case : (d e : Desig) (at : Pos) → PlaceFollows c a n call b d → PlaceFollows c a n call b e → StmtFollows c a n call b (Assign d assigned.Array (ValueOf e) at)
  assign_array_case d e at ih_d ih_e l exit pc k os s w le inside lies has ok st =
      let p1 = end_place c.program d pc in
      let p2 = end_place c.program e p1 in
      let t = code.form_of (scope c a) d in
      let m = ok.1.0.0 in
      let u = ok.1.0.1 in
      follows_bind c (ih_d pc k [] os s w (omega (arith, le)) has.0 ok.0 st) λ p s1 w1 k1.
      follows_bind c
      (subst (λ r. Follows c (go c a p1 (pos (address c.program c.img s1.made (K c a) p) ∷ []) w1) (λ u s w. go c a (suc p2) [] w) (λ u s w. Kp os s w) r) (sym (place_source (place e (here_in c a n call b) s1) (λ x s. assign_array p x s)))
      (follows_bind c (ih_e p1 _ (pos (address c.program c.img s1.made (K c a) p) ∷ []) s1.made s1 w1 (omega (arith, le)) has.1.0 ok.1.1.0 (from_here c a n call b k1.1)) λ q s2 w2 k2.
      let same = address_same c s1.made s2.made k2.1.objects (K c a) p k1.0.0 in
      let kept = place_of_more c s1.made s2.made k2.1.objects (K c a) t p k1.0 in
      let form_p : place_form c.program c.img s2.made (K c a) p ≡ t = sub_array _ t m u kept.1 ok.1.0.2 ∙ sym ok.1.0.2 in
      let form_e : code.form_of (scope c a) e ≡ ArrayForm m u = sub_array (code.form_of (scope c a) e) t m u ok.1.1.1 ok.1.0.2 in
      let form_q : place_form c.program c.img s2.made (K c a) q ≡ t = sub_array _ (code.form_of (scope c a) e) m u k2.0.1 form_e ∙ sym ok.1.0.2 in
      subst (λ x. Follows c (go c a p2 (pos (address c.program c.img s2.made (K c a) q) ∷ pos x ∷ []) w2) (λ u s w. go c a (suc p2) [] w) (λ u s w. Kp os s w) (assign_array p (Stands q) s2)) same
      (array_follows p q t p2 os s2 w2 has.1.1 kept.0 form_p k2.0.0 form_q (since c a n call b k1.1.objects k2.1))))
      λ u s3 w3 k3. follows_value c w3 (here c _) (tt, k3)
