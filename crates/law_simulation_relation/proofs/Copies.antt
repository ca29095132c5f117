-- The copies that the machine makes as a call begins: the words at an argument's address go behind the slots, and their new address into its slot.
use Rattle.std.proofs.Math.Seq.{take-append_seam, drop-append_seam}
use Rattle.std.proofs.lemmas.Bool.Decides.{nat_tests}
use Rattle.std.proofs.lemmas.List.{take-append-drop, length-take-le}
use Rattle.std.proofs.Common.{◌≡◌, ℕ, zero, suc, ◌+◌, ◌*◌, ◌-◌, ◌≤◌, List, [], ◌∷◌, ◌++◌, length, Some, None, refl, sym, ap, ◌∙◌, arith, append_assoc, length-append, length-drop}
use Rattle.std.specs.Prelude.{ℤ, pos, true, take, drop, ◌&&◌, if◌then◌else◌}
use Rattle.ob_mem.specs.Words.{are_there, words_at, with_words, copied}
use Rattle.ob_instr.specs.declared.procedure.Param.{Param}
use Rattle.ob_instr.specs.declared.procedure.Param.TheVariants as param
use Rattle.ob_instr.specs.Rows.{more_words, or_same, with_copy, copy_words, with_copies}

pub put_seam : (l front part back new : List ℤ) (n m : ℕ) → l ≡ front ++ (part ++ back) → length front ≡ n → length part ≡ m → length new ≡ m → take n l ++ (new ++ drop (n + length new) l) ≡ front ++ (new ++ back)
put_seam l front part back new n m e len len2 len3 =
    let f : take n l ≡ front = ap (take n) e ∙ ap (λ k. take k (front ++ (part ++ back))) (sym len) ∙ take-append_seam front (part ++ back) in
    let k : n + length new ≡ length (front ++ part) = omega (arith, length-append front part) in
    let b : drop (n + length new) l ≡ back = ap (drop (n + length new)) (e ∙ sym (append_assoc front part back)) ∙ ap (λ k. drop k ((front ++ part) ++ back)) k ∙ drop-append_seam (front ++ part) back in
    ap (λ f. f ++ (new ++ drop (n + length new) l)) f ∙ ap (λ b. front ++ (new ++ b)) b

-- words at an address
pub record WordsAt (l : List ℤ) (a : ℕ) (ws : List ℤ) : Type 0 where
  pub before : List ℤ
  pub behind : List ℤ
  pub at : suc (length before) ≡ a
  pub is : l ≡ before ++ (ws ++ behind)

there_within : (len a n : ℕ) → a + n ≤ len → are_there len (pos (suc a)) n ≡ true
there_within len a zero le = refl
there_within len a (suc n) le = grind (arith, nat_tests)

pub words_there : (l : List ℤ) (a : ℕ) (ws : List ℤ) → WordsAt l a ws → are_there (length l) (pos a) (length ws) ≡ true
words_there l a ws r =
    let len : length l ≡ length r.before + (length ws + length r.behind) = ap length r.is ∙ length-append r.before (ws ++ r.behind) ∙ ap (λ n. length r.before + n) (length-append ws r.behind) in
    ap (λ n. are_there (length l) (pos n) (length ws)) (sym r.at) ∙ there_within (length l) (length r.before) (length ws) (omega (arith, len))

pub words_got : (l : List ℤ) (a : ℕ) (ws : List ℤ) → WordsAt l a ws → words_at l (pos a) (length ws) ≡ ws
words_got l a ws r =
    let n : a - 1 ≡ length r.before = omega (arith, r.at) in
    let back : drop (a - 1) l ≡ ws ++ r.behind = ap (λ k. drop k l) n ∙ ap (drop (length r.before)) r.is ∙ drop-append_seam r.before (ws ++ r.behind) in
    ap (take (length ws)) back ∙ take-append_seam ws r.behind

-- words that are put at an address, in place of as many others
pub put_at : (l front part back new : List ℤ) (a : ℕ) → l ≡ front ++ (part ++ back) → a ≡ suc (length front) → length part ≡ length new → with_words l (pos a) new ≡ front ++ (new ++ back)
put_at l front part back new a e f len = put_seam l front part back new (a - 1) (length new) e (omega (arith, f)) len refl

copied_is : (l front part back ws : List ℤ) (x a : ℕ) → WordsAt l x ws → l ≡ front ++ (part ++ back) → a ≡ suc (length front) → length part ≡ length ws → copied l (pos a) (pos x) (length ws) ≡ Some (front ++ (ws ++ back))
copied_is l front [] back [] x a r e f len = ap Some e
copied_is l front (y ∷ part) back [] x a r e f len = absurd (omega (arith, len))
copied_is l front part back (z ∷ ws) x a r e f len =
    let new = z ∷ ws in
    let here : WordsAt l a part = record { before = front; behind = back; at = sym f; is = e } in
    let one : are_there (length l) (pos a) (length new) ≡ true = ap (are_there (length l) (pos a)) (sym len) ∙ words_there l a part here in
    let two : are_there (length l) (pos x) (length new) ≡ true = words_there l x new r in
    ap (λ b. if b && are_there (length l) (pos x) (length new) then Some (with_words l (pos a) (words_at l (pos x) (length new))) else None) one
    ∙ ap (λ b. if b then Some (with_words l (pos a) (words_at l (pos x) (length new))) else None) two
    ∙ ap (λ k. Some (with_words l (pos a) k)) (words_got l x new r) ∙ ap Some (put_at l front part back new a e f len)

-- The words between others that stay, which are so many.
module _ (front back : List ℤ) (room : ℕ) where
  abbrev pub among : List ℤ → List ℤ
  among mid = front ++ (mid ++ back)

  abbrev pub total : ℕ
  total = length front + (room + length back)

  pub among_length : (mid : List ℤ) → length mid ≡ room → length (among mid) ≡ total
  among_length mid e = length-append front (mid ++ back) ∙ ap (λ n. length front + n) (length-append mid back ∙ ap (λ n. n + length back) e)

  -- these words stand at an address, whatever stands between
  pub record Source (a : ℕ) (ws : List ℤ) : Type 0 where
    pub stand : (mid : List ℤ) → length mid ≡ room → WordsAt (among mid) a ws

  source_there : (a : ℕ) (ws : List ℤ) (mid : List ℤ) → length mid ≡ room → Source a ws → are_there total (pos a) (length ws) ≡ true
  source_there a ws mid e r = ap (λ n. are_there n (pos a) (length ws)) (sym (among_length mid e)) ∙ words_there (among mid) a ws (r.stand mid e)

  -- What becomes of the words of arguments: what stands in their slots where the copies begin at an address, and the copies. What is done stands
  -- before them, other words behind them, and the copies that are made behind these.
  pub record Becomes (ks : List Param) (ws : List ℤ) (ss : ℕ → List ℤ) (cc : List ℤ) : Type 0 where
    pub slots : (next : ℕ) → length (ss next) ≡ length ws
    pub count : copy_words total ks ws ≡ Some (length cc)
    pub goes : (done rest made cut free : List ℤ) (slot next : ℕ) → length cut ≡ length cc → slot ≡ suc (length front + length done) → next ≡ slot + (length ws + (length rest + length made)) → length done + (length ws + (length rest + (length made + (length cut + length free)))) ≡ room → with_copies (among (done ++ (ws ++ (rest ++ (made ++ (cut ++ free)))))) ks ws slot next ≡ among (done ++ (ss next ++ (rest ++ (made ++ (cc ++ free)))))

  pub becomes_same : (ks : List Param) (ws : List ℤ) (ss ss2 : ℕ → List ℤ) (cc cc2 : List ℤ) → Becomes ks ws ss cc → ((next : ℕ) → ss2 next ≡ ss next) → cc2 ≡ cc → Becomes ks ws ss2 cc2
  becomes_same ks ws ss ss2 cc cc2 r e f = record {
    slots = λ next. ap length (e next) ∙ r.slots next;
    count = r.count ∙ ap (λ l. Some (length l)) (sym f);
    goes = λ done rest made cut free slot next len a b h.
        r.goes done rest made cut free slot next (len ∙ ap length f) a b h ∙ ap (λ l. among (done ++ (l ++ (rest ++ (made ++ (cc ++ free)))))) (sym (e next)) ∙ ap (λ l. among (done ++ (ss2 next ++ (rest ++ (made ++ (l ++ free)))))) (sym f);
  }

  pub none_becomes : Becomes [] [] (λ next. []) []
  none_becomes = record { slots = λ next. refl; count = refl; goes = λ done rest made cut free slot next len a b h. ap (λ l. among (done ++ (rest ++ (made ++ l)))) (empty cut free len) }
    where
      empty : (cut free : List ℤ) → length cut ≡ 0 → cut ++ free ≡ free
      empty [] free e = refl
      empty (x ∷ cut) free e = absurd (omega (arith, e))

  -- words that stay, in front of others
  module _ (ks : List Param) (ws : List ℤ) (ss : ℕ → List ℤ) (cc : List ℤ) (r : Becomes ks ws ss cc) where
    stays : (k : Param) (xs : List ℤ) → (copy_words total (k ∷ ks) (xs ++ ws) ≡ copy_words total ks ws) → ((l : List ℤ) (slot next : ℕ) → with_copies l (k ∷ ks) (xs ++ ws) slot next ≡ with_copies l ks ws (slot + length xs) next) → Becomes (k ∷ ks) (xs ++ ws) (λ next. xs ++ ss next) cc
    stays k xs count step = record {
      slots = λ next. length-append xs (ss next) ∙ ap (λ n. length xs + n) (r.slots next) ∙ sym (length-append xs ws);
      count = count ∙ r.count;
      goes = λ done rest made cut free slot next len a b h.
          let both = length-append xs ws in
          let more = length-append done xs in
          ap (λ l. with_copies (among l) (k ∷ ks) (xs ++ ws) slot next) (ap (λ l. done ++ l) (append_assoc xs ws _) ∙ sym (append_assoc done xs _))
          ∙ step (among ((done ++ xs) ++ (ws ++ (rest ++ (made ++ (cut ++ free)))))) slot next
          ∙ r.goes (done ++ xs) rest made cut free (slot + length xs) next len (omega (arith, a, more)) (omega (arith, b, both)) (omega (arith, h, both, more))
          ∙ ap among (append_assoc done xs _ ∙ ap (λ l. done ++ l) (sym (append_assoc xs (ss next) _)));
    }

    pub scalar_becomes : (x : ℤ) → Becomes (param.Scalar ∷ ks) (x ∷ ws) (λ next. x ∷ ss next) cc
    scalar_becomes x = stays param.Scalar (x ∷ []) refl (λ l slot next. refl)

    pub var_becomes : (x : ℤ) → Becomes (param.Var ∷ ks) (x ∷ ws) (λ next. x ∷ ss next) cc
    var_becomes x = stays param.Var (x ∷ []) refl (λ l slot next. refl)

    pub var_record_becomes : (x g : ℤ) → Becomes (param.VarRecord ∷ ks) (x ∷ g ∷ ws) (λ next. x ∷ g ∷ ss next) cc
    var_record_becomes x g = stays param.VarRecord (x ∷ g ∷ []) refl (λ l slot next. refl)

    pub var_array_becomes : (x n : ℤ) → Becomes (param.VarArray ∷ ks) (x ∷ n ∷ ws) (λ next. x ∷ n ∷ ss next) cc
    var_array_becomes x n = stays param.VarArray (x ∷ n ∷ []) refl (λ l slot next. refl)

    -- an address whose words are copied, with words behind it in further slots
    copies : (k : Param) (a : ℕ) (xs vs : List ℤ) → Source a vs → (copy_words total (k ∷ ks) (pos a ∷ (xs ++ ws)) ≡ more_words (length vs) (are_there total (pos a) (length vs)) (copy_words total ks ws)) → ((l : List ℤ) (slot next : ℕ) → with_copies l (k ∷ ks) (pos a ∷ (xs ++ ws)) slot next ≡ with_copies (with_copy l slot next (pos a) (length vs)) ks ws (slot + suc (length xs)) (next + length vs)) → (mid : List ℤ) → length mid ≡ room → Becomes (k ∷ ks) (pos a ∷ (xs ++ ws)) (λ next. pos next ∷ (xs ++ ss (next + length vs))) (vs ++ cc)
    copies k a xs vs source count step mid there = record {
      slots = λ next. ap suc (length-append xs (ss (next + length vs)) ∙ ap (λ n. length xs + n) (r.slots (next + length vs)) ∙ sym (length-append xs ws));
      count = count ∙ ap (λ b. more_words (length vs) b (copy_words total ks ws)) (source_there a vs mid there source) ∙ ap (more_words (length vs) true) r.count ∙ ap Some (sym (length-append vs cc));
      goes = λ done rest made cut free slot next len f g h. goes done rest made cut free slot next len f g h;
    }
      where
        goes : (done rest made cut free : List ℤ) (slot next : ℕ) → length cut ≡ length (vs ++ cc) → slot ≡ suc (length front + length done) → next ≡ slot + (length (pos a ∷ (xs ++ ws)) + (length rest + length made)) → length done + (length (pos a ∷ (xs ++ ws)) + (length rest + (length made + (length cut + length free)))) ≡ room → with_copies (among (done ++ ((pos a ∷ (xs ++ ws)) ++ (rest ++ (made ++ (cut ++ free)))))) (k ∷ ks) (pos a ∷ (xs ++ ws)) slot next ≡ among (done ++ ((pos next ∷ (xs ++ ss (next + length vs))) ++ (rest ++ (made ++ ((vs ++ cc) ++ free)))))
        goes done rest made cut free slot next len f g h =
            let n = length vs in
            let both = length-append vs cc in
            let args = length-append xs ws in
            let long : n ≤ length cut = omega (arith, len, both) in
            let part = take n cut in
            let cut2 = drop n cut in
            let part_length : length part ≡ n = length-take-le n cut long in
            let cut2_length : length cut2 ≡ length cc = length-drop n cut ∙ omega (arith, len, both) in
            let split : cut ≡ part ++ cut2 = sym (take-append-drop n cut) in
            let tail = cut2 ++ free in
            let words = among (done ++ ((pos a ∷ (xs ++ ws)) ++ (rest ++ (made ++ (cut ++ free))))) in
            let before = front ++ (done ++ ((pos a ∷ (xs ++ ws)) ++ (rest ++ made))) in
            let before_length : length before ≡ length front + (length done + (suc (length xs + length ws) + (length rest + length made))) =
            length-append front (done ++ ((pos a ∷ (xs ++ ws)) ++ (rest ++ made))) ∙ ap (λ m. length front + m) (length-append done ((pos a ∷ (xs ++ ws)) ++ (rest ++ made)) ∙ ap (λ m. length done + m) (length-append (pos a ∷ (xs ++ ws)) (rest ++ made) ∙ omega (arith, args, length-append rest made))) in
            let is : words ≡ before ++ (part ++ (tail ++ back)) = ap (λ l. among (done ++ ((pos a ∷ (xs ++ ws)) ++ (rest ++ (made ++ (l ++ free)))))) split ∙ simp append_assoc in
            let whole : length (done ++ ((pos a ∷ (xs ++ ws)) ++ (rest ++ (made ++ (cut ++ free))))) ≡ room =
            length-append done ((pos a ∷ (xs ++ ws)) ++ (rest ++ (made ++ (cut ++ free)))) ∙ ap (λ m. length done + m) (length-append (pos a ∷ (xs ++ ws)) (rest ++ (made ++ (cut ++ free))) ∙ ap (λ m. length (pos a ∷ (xs ++ ws)) + m) (length-append rest (made ++ (cut ++ free)) ∙ ap (λ m. length rest + m) (length-append made (cut ++ free) ∙ ap (λ m. length made + m) (length-append cut free)))) ∙ h in
            let stands = source.stand (done ++ ((pos a ∷ (xs ++ ws)) ++ (rest ++ (made ++ (cut ++ free))))) whole in
            let copy : copied words (pos next) (pos a) n ≡ Some (before ++ (vs ++ (tail ++ back))) = copied_is words before part (tail ++ back) vs a next stands is (omega (arith, before_length, f, g, args)) part_length in
            let here = front ++ done in
            let here_length = length-append front done in
            let others = (xs ++ ws) ++ (rest ++ (made ++ (vs ++ (tail ++ back)))) in
            let again : before ++ (vs ++ (tail ++ back)) ≡ here ++ ((pos a ∷ []) ++ others) = simp append_assoc in
            let put : with_copy words slot next (pos a) n ≡ here ++ ((pos next ∷ []) ++ others) = ap (λ o. with_words (or_same words o) (pos slot) (pos next ∷ [])) copy ∙ put_at (before ++ (vs ++ (tail ++ back))) here (pos a ∷ []) others (pos next ∷ []) slot again (omega (arith, f, here_length)) refl in
            let done2 = done ++ (pos next ∷ xs) in
            let made2 = made ++ vs in
            let done2_length = length-append done (pos next ∷ xs) in
            let made2_length = length-append made vs in
            let regroup : here ++ ((pos next ∷ []) ++ others) ≡ among (done2 ++ (ws ++ (rest ++ (made2 ++ (cut2 ++ free))))) = simp append_assoc in
            let lens : length cut ≡ n + length cut2 = omega (arith, len, both, cut2_length) in
            step words slot next ∙ ap (λ l. with_copies l ks ws (slot + suc (length xs)) (next + n)) (put ∙ regroup)
            ∙ r.goes done2 rest made2 cut2 free (slot + suc (length xs)) (next + n) cut2_length (omega (arith, f, done2_length)) (omega (arith, g, args, made2_length)) (omega (arith, h, args, done2_length, made2_length, lens))
            ∙ simp append_assoc

    pub value_becomes : (a : ℕ) (vs : List ℤ) (n : ℕ) → Source a vs → n ≡ length vs → (mid : List ℤ) → length mid ≡ room → Becomes (param.Value n ∷ ks) (pos a ∷ ws) (λ next. pos next ∷ ss (next + n)) (vs ++ cc)
    value_becomes a vs n source e mid there = rw e (copies (param.Value (length vs)) a [] vs source refl (λ l slot next. refl) mid there)

    pub value_array_becomes : (a : ℕ) (vs : List ℤ) (l n : ℕ) → Source a vs → l * n ≡ length vs → (mid : List ℤ) → length mid ≡ room → Becomes (param.ValueArray n ∷ ks) (pos a ∷ pos l ∷ ws) (λ next. pos next ∷ pos l ∷ ss (next + l * n)) (vs ++ cc)
    value_array_becomes a vs l n source e mid there =
        becomes_same _ _ _ _ _ _ (copies (param.ValueArray n) a (pos l ∷ []) vs source (ap (λ m. more_words m (are_there total (pos a) m) (copy_words total ks ws)) e) (λ k slot next. ap (λ m. with_copies (with_copy k slot next (pos a) m) ks ws (slot + 2) (next + m)) e) mid there) (λ next. ap (λ m. pos next ∷ pos l ∷ ss (next + m)) e) refl
