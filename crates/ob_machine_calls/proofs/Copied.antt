-- The copies of a call, parameter by parameter.
use Rattle.std.proofs.Common.{◌≡◌, ℕ, zero, suc, ◌+◌, ◌*◌, ◌-◌, ◌<◌, ◌≤◌, Bool, true, false, List, [], ◌∷◌, ◌++◌, length, take, drop, replicate, get_or, Option, Some, None, refl, sym, ap, ◌∙◌, true≢false, arith}
use Rattle.std.specs.Prelude.{ℤ, pos, negsuc, ◌&&◌, if◌then◌else◌, unwrap_or}
use Rattle.std.proofs.Math.Seq.{take-length}
use Rattle.std.proofs.lemmas.List.{length-take-le, length-drop}
use Rattle.std.proofs.lemmas.Bool.Decides.{nat_tests}
use Rattle.ob_mem.specs.Words.{Held, are_there, before, copied, stored, cleared, words_at, with_words}
use Rattle.ob_instr.specs.declared.procedure.Param.{Param}
use Rattle.ob_instr.specs.declared.procedure.Param.TheVariants as param
use Rattle.ob_instr.specs.declared.procedure.Procedure.{Procedure}
use Rattle.ob_instr.specs.Parts.{slots, slots_of}
use Rattle.ob_instr.specs.Rows.{more_words, copy_words, or_same, with_copy, with_copies, entered}
use Rattle.ob_machine_image.specs.WordLaws.{with_none, length_spliced, length_with, put_both, stored_as, cleared_as}
use Rattle.ob_machine_image.specs.Copies.{has_copies}
use Rattle.ob_machine_calls.specs.Copies.{copy_size, added, with_one}

none_more : (o : Option ℕ) → o ≡ added (Some 0) o
none_more None = refl
none_more (Some k) = let e : k ≡ 0 + k = omega arith in ap Some e

more_is : (n : ℕ) (b : Bool) (rest : Option ℕ) → more_words n b rest ≡ added (if b then Some n else None) rest
more_is n true None = refl
more_is n true (Some k) = refl
more_is n false rest = refl

none_added : (o : Option ℕ) → None ≡ added None o
none_added o = refl

pub words_parted : (len : ℕ) (q : Param) (params : List Param) (args : List ℤ) → copy_words len (q ∷ params) args ≡ added (copy_size len q args) (copy_words len params (drop (slots_of q) args))
words_parted len param.Scalar params [] = refl
words_parted len param.Scalar params (x ∷ args) = none_more (copy_words len params args)
words_parted len param.Var params [] = refl
words_parted len param.Var params (x ∷ args) = none_more (copy_words len params args)
words_parted len param.VarRecord params [] = refl
words_parted len param.VarRecord params (x ∷ []) = refl
words_parted len param.VarRecord params (x ∷ g ∷ args) = none_more (copy_words len params args)
words_parted len param.VarArray params [] = refl
words_parted len param.VarArray params (x ∷ []) = refl
words_parted len param.VarArray params (x ∷ l ∷ args) = none_more (copy_words len params args)
words_parted len (param.Value n) params [] = refl
words_parted len (param.Value n) params (x ∷ args) = more_is n (are_there len x n) (copy_words len params args)
words_parted len (param.ValueArray n) params [] = refl
words_parted len (param.ValueArray n) params (x ∷ []) = refl
words_parted len (param.ValueArray n) params (x ∷ pos l ∷ args) = more_is (l * n) (are_there len x (l * n)) (copy_words len params args)
words_parted len (param.ValueArray n) params (x ∷ negsuc l ∷ args) = refl

some_is : (a b : ℕ) → Some a ≡ Some b → a ≡ b
some_is a b e = cc

if_some : (b : Bool) (a n : ℕ) → (if b then Some a else None) ≡ Some n → a ≡ n
if_some true a n e = cc
if_some false a n e = absurd cc

pub copies_parted : (len : ℕ) (w : List ℤ) (q : Param) (params : List Param) (args : List ℤ) (slot next n : ℕ) → copy_size len q args ≡ Some n → with_copies w (q ∷ params) args slot next ≡ with_copies (with_one w q args slot next) params (drop (slots_of q) args) (slot + slots_of q) (next + n)
copies_parted len w param.Scalar params [] slot next n e = absurd cc
copies_parted len w param.Scalar params (x ∷ args) slot next n e = let z : 0 ≡ n = some_is 0 n e in ap (with_copies w params args (slot + 1)) (omega arith)
copies_parted len w param.Var params [] slot next n e = absurd cc
copies_parted len w param.Var params (x ∷ args) slot next n e = let z : 0 ≡ n = some_is 0 n e in ap (with_copies w params args (slot + 1)) (omega arith)
copies_parted len w param.VarRecord params [] slot next n e = absurd cc
copies_parted len w param.VarRecord params (x ∷ []) slot next n e = absurd cc
copies_parted len w param.VarRecord params (x ∷ g ∷ args) slot next n e = let z : 0 ≡ n = some_is 0 n e in ap (with_copies w params args (slot + 2)) (omega arith)
copies_parted len w param.VarArray params [] slot next n e = absurd cc
copies_parted len w param.VarArray params (x ∷ []) slot next n e = absurd cc
copies_parted len w param.VarArray params (x ∷ l ∷ args) slot next n e = let z : 0 ≡ n = some_is 0 n e in ap (with_copies w params args (slot + 2)) (omega arith)
copies_parted len w (param.Value m) params [] slot next n e = absurd cc
copies_parted len w (param.Value m) params (x ∷ args) slot next n e = let z : m ≡ n = if_some (are_there len x m) m n e in ap (λ k. with_copies (with_copy w slot next x m) params args (slot + 1) (next + k)) z
copies_parted len w (param.ValueArray m) params [] slot next n e = absurd cc
copies_parted len w (param.ValueArray m) params (x ∷ []) slot next n e = absurd cc
copies_parted len w (param.ValueArray m) params (x ∷ pos l ∷ args) slot next n e = let z : l * m ≡ n = if_some (are_there len x (l * m)) (l * m) n e in ap (λ k. with_copies (with_copy w slot next x (l * m)) params args (slot + 2) (next + k)) z
copies_parted len w (param.ValueArray m) params (x ∷ negsuc l ∷ args) slot next n e = absurd cc

-- ONE PARAMETER MORE

tail_is : (q : Param) (kinds : List Param) → take (length (q ∷ kinds) - 1) (drop 1 (q ∷ kinds)) ≡ kinds
tail_is q kinds = let n : length (q ∷ kinds) - 1 ≡ length kinds = omega arith in ap (λ k. take k kinds) n ∙ take-length kinds

added_twice : (a b : ℕ) (rest : Option ℕ) → added (Some a) (added (Some b) rest) ≡ added (Some (a + b)) rest
added_twice a b None = refl
added_twice a b (Some k) = let e : a + (b + k) ≡ a + b + k = omega arith in ap Some e

pub counted_step : (len total count n : ℕ) (kinds : List Param) (d : Param) (rest : List ℤ) (target : Option ℕ) → 1 ≤ length kinds → Some count ≡ copy_size len (get_or kinds 0 d) rest → n ≡ slots_of (get_or kinds 0 d) → added (Some total) (copy_words len kinds rest) ≡ target → added (Some (total + count)) (copy_words len (take (length kinds - 1) (drop 1 kinds)) (drop n rest)) ≡ target
counted_step len total count n [] d rest target le size e h = absurd (omega arith)
counted_step len total count n (q ∷ kinds) d rest target le size e h =
    let r = copy_words len kinds (drop (slots_of q) rest) in
    ap (λ l. added (Some (total + count)) (copy_words len l (drop n rest))) (tail_is q kinds) ∙ ap (λ k. added (Some (total + count)) (copy_words len kinds (drop k rest))) e ∙ sym (added_twice total count r) ∙ ap (λ o. added (Some total) (added o r)) size ∙ ap (added (Some total)) (sym (words_parted len q kinds rest)) ∙ h

some_slots : (q : Param) → 1 ≤ slots_of q
some_slots param.Scalar = omega arith
some_slots param.Var = omega arith
some_slots param.VarRecord = omega arith
some_slots param.VarArray = omega arith
some_slots (param.Value n) = omega arith
some_slots (param.ValueArray n) = omega arith

pub slots_step : (kinds : List Param) (d : Param) → 1 ≤ length kinds → (slots kinds ≡ slots_of (get_or kinds 0 d) + slots (take (length kinds - 1) (drop 1 kinds))) × (1 ≤ slots_of (get_or kinds 0 d))
slots_step [] d le = absurd (omega arith)
slots_step (q ∷ kinds) d le = (ap (λ l. slots_of q + slots l) (sym (tail_is q kinds)), some_slots q)

rest_is : (a : ℕ) (o : Option ℕ) (left : ℕ) → added (Some a) o ≡ Some left → (a ≤ left) × (o ≡ Some (left - a))
rest_is a None left e = absurd cc
rest_is a (Some k) left e = let h : a + k ≡ left = cc in let k_is : k ≡ left - a = omega arith in (omega arith, ap Some k_is)

pub left_step : (len count left n : ℕ) (kinds : List Param) (d : Param) (rest : List ℤ) → 1 ≤ length kinds → Some count ≡ copy_size len (get_or kinds 0 d) rest → n ≡ slots_of (get_or kinds 0 d) → copy_words len kinds rest ≡ Some left → (count ≤ left) × (copy_words len (take (length kinds - 1) (drop 1 kinds)) (drop n rest) ≡ Some (left - count))
left_step len count left n [] d rest le size e h = absurd (omega arith)
left_step len count left n (q ∷ kinds) d rest le size e h =
    let r = copy_words len kinds (drop (slots_of q) rest) in
    let sum : added (Some count) r ≡ Some left = ap (λ o. added o r) size ∙ sym (words_parted len q kinds rest) ∙ h in
    let p = rest_is count r left sum in
    (p.0, ap (λ l. copy_words len l (drop n rest)) (tail_is q kinds) ∙ ap (λ k. copy_words len kinds (drop k rest)) e ∙ p.1)

pub copies_step : (len count n place free : ℕ) (m m1 t : Held) (kinds : List Param) (d : Param) (rest : List ℤ) → 1 ≤ length kinds → Some count ≡ copy_size len (get_or kinds 0 d) rest → n ≡ slots_of (get_or kinds 0 d) → m1 ≡ record m { words = with_one m.words (get_or kinds 0 d) rest place free } → record m { words = with_copies m.words kinds rest place free } ≡ t → record m1 { words = with_copies m1.words (take (length kinds - 1) (drop 1 kinds)) (drop n rest) (place + n) (free + count) } ≡ t
copies_step len count n place free m m1 t [] d rest le size e one h = absurd (omega arith)
copies_step len count n place free m m1 t (q ∷ kinds) d rest le size e one h =
    ap (λ l. record m1 { words = with_copies m1.words l (drop n rest) (place + n) (free + count) }) (tail_is q kinds)
    ∙ ap (λ k. record m1 { words = with_copies m1.words kinds (drop k rest) (place + k) (free + count) }) e
    ∙ ap (λ (x : Held). record x { words = with_copies x.words kinds (drop (slots_of q) rest) (place + slots_of q) (free + count) }) one
    ∙ ap (λ l. record m { words = l }) (sym (copies_parted len m.words q kinds rest place free count (sym size)))
    ∙ h

-- ONE OR TWO ARGUMENTS

one_is : (xs : List ℤ) (d : ℤ) → length xs ≡ 1 → xs ≡ get_or xs 0 d ∷ []
one_is [] d e = absurd (omega arith)
one_is (x ∷ []) d e = refl
one_is (x ∷ y ∷ xs) d e = absurd (omega arith)

two_are : (xs : List ℤ) (d : ℤ) → length xs ≡ 2 → xs ≡ get_or xs 0 d ∷ get_or xs 1 d ∷ []
two_are [] d e = absurd (omega arith)
two_are (x ∷ []) d e = absurd (omega arith)
two_are (x ∷ y ∷ []) d e = refl
two_are (x ∷ y ∷ z ∷ xs) d e = absurd (omega arith)

stored_one : (m m1 : Held) (at : ℕ) (z v x : ℤ) → m1 ≡ record m { words = unwrap_or (stored m.words z v) m.words } → z ≡ pos at → v ≡ x → 0 < at → at ≤ length m.words → m1 ≡ record m { words = with_words m.words (pos at) (x ∷ []) }
stored_one m m1 at z v x one ez ev some le = one ∙ ap (λ k. record m { words = unwrap_or (stored m.words k v) m.words }) ez ∙ ap (λ k. record m { words = unwrap_or (stored m.words (pos at) k) m.words }) ev ∙ ap (λ l. record m { words = l }) (stored_as m.words at x some le)

pub one_put : (m m1 : Held) (args : List ℤ) (first : ℕ) (z v d : ℤ) → m1 ≡ record m { words = unwrap_or (stored m.words z v) m.words } → z ≡ pos first → v ≡ get_or args 0 d → length args ≡ 1 → 0 < first → first ≤ length m.words → m1 ≡ record m { words = with_words m.words (pos first) args }
one_put m m1 args first z v d one ez ev n some le = stored_one m m1 first z v (get_or args 0 d) one ez ev some le ∙ ap (λ l. record m { words = with_words m.words (pos first) l }) (sym (one_is args d n))

pub two_put : (m m1 m2 : Held) (args : List ℤ) (first : ℕ) (z1 v1 z2 v2 d : ℤ) → m1 ≡ record m { words = unwrap_or (stored m.words z1 v1) m.words } → m2 ≡ record m1 { words = unwrap_or (stored m1.words z2 v2) m1.words } → z1 ≡ pos first → v1 ≡ get_or args 0 d → z2 ≡ pos (first + 1) → v2 ≡ get_or args 1 d → length args ≡ 2 → 0 < first → first + 2 ≤ length m.words + 1 → m2 ≡ record m { words = with_words m.words (pos first) args }
two_put m m1 m2 args first z1 v1 z2 v2 d one two e1 f1 e2 f2 n some le =
    let x = get_or args 0 d in
    let y = get_or args 1 d in
    let w1 = stored_one m m1 first z1 v1 x one e1 f1 some (omega arith) in
    let l1 : length m1.words ≡ length m.words = ap (λ (h : Held). length h.words) w1 ∙ length_with m.words (x ∷ []) first (omega arith) in
    let w2 = stored_one m1 m2 (first + 1) z2 v2 y two e2 f2 (omega arith) (omega arith) in
    put_both m m1 m2 first (first + 1) (x ∷ []) (y ∷ []) w1 w2 some (omega arith) (omega arith) ∙ ap (λ l. record m { words = with_words m.words (pos first) l }) (sym (two_are args d n))

-- WITHOUT COPIES

pub plain_words : (len : ℕ) (params : List Param) (args : List ℤ) → has_copies params ≡ false → slots params ≡ length args → copy_words len params args ≡ Some 0
plain_words len [] [] h e = refl
plain_words len [] (x ∷ args) h e = absurd (omega arith)
plain_words len (param.Scalar ∷ params) [] h e = absurd (omega arith)
plain_words len (param.Scalar ∷ params) (x ∷ args) h e = plain_words len params args h (omega arith)
plain_words len (param.Var ∷ params) [] h e = absurd (omega arith)
plain_words len (param.Var ∷ params) (x ∷ args) h e = plain_words len params args h (omega arith)
plain_words len (param.VarRecord ∷ params) [] h e = absurd (omega arith)
plain_words len (param.VarRecord ∷ params) (x ∷ []) h e = absurd (omega arith)
plain_words len (param.VarRecord ∷ params) (x ∷ g ∷ args) h e = plain_words len params args h (omega arith)
plain_words len (param.VarArray ∷ params) [] h e = absurd (omega arith)
plain_words len (param.VarArray ∷ params) (x ∷ []) h e = absurd (omega arith)
plain_words len (param.VarArray ∷ params) (x ∷ l ∷ args) h e = plain_words len params args h (omega arith)
plain_words len (param.Value n ∷ params) args h e = absurd (true≢false h)
plain_words len (param.ValueArray n ∷ params) args h e = absurd (true≢false h)

pub plain_same : (words : List ℤ) (params : List Param) (args : List ℤ) (slot next : ℕ) → has_copies params ≡ false → with_copies words params args slot next ≡ words
plain_same words [] args slot next h = refl
plain_same words (param.Scalar ∷ params) [] slot next h = refl
plain_same words (param.Scalar ∷ params) (x ∷ args) slot next h = plain_same words params args (slot + 1) next h
plain_same words (param.Var ∷ params) [] slot next h = refl
plain_same words (param.Var ∷ params) (x ∷ args) slot next h = plain_same words params args (slot + 1) next h
plain_same words (param.VarRecord ∷ params) [] slot next h = refl
plain_same words (param.VarRecord ∷ params) (x ∷ []) slot next h = refl
plain_same words (param.VarRecord ∷ params) (x ∷ g ∷ args) slot next h = plain_same words params args (slot + 2) next h
plain_same words (param.VarArray ∷ params) [] slot next h = refl
plain_same words (param.VarArray ∷ params) (x ∷ []) slot next h = refl
plain_same words (param.VarArray ∷ params) (x ∷ l ∷ args) slot next h = plain_same words params args (slot + 2) next h
plain_same words (param.Value n ∷ params) args slot next h = absurd (true≢false h)
plain_same words (param.ValueArray n ∷ params) args slot next h = absurd (true≢false h)

-- WORDS THAT DIFFER FROM THE KINDS

more_none : (n : ℕ) (b : Bool) → more_words n b None ≡ None
more_none n true = refl
more_none n false = refl

pub words_missing : (len : ℕ) (params : List Param) (args : List ℤ) → (slots params ≡ length args → ⊥) → copy_words len params args ≡ None
words_missing len [] [] n = absurd (n refl)
words_missing len [] (x ∷ args) n = refl
words_missing len (param.Scalar ∷ params) [] n = refl
words_missing len (param.Scalar ∷ params) (x ∷ args) n = words_missing len params args (λ e. n (omega arith))
words_missing len (param.Var ∷ params) [] n = refl
words_missing len (param.Var ∷ params) (x ∷ args) n = words_missing len params args (λ e. n (omega arith))
words_missing len (param.VarRecord ∷ params) [] n = refl
words_missing len (param.VarRecord ∷ params) (x ∷ []) n = refl
words_missing len (param.VarRecord ∷ params) (x ∷ g ∷ args) n = words_missing len params args (λ e. n (omega arith))
words_missing len (param.VarArray ∷ params) [] n = refl
words_missing len (param.VarArray ∷ params) (x ∷ []) n = refl
words_missing len (param.VarArray ∷ params) (x ∷ l ∷ args) n = words_missing len params args (λ e. n (omega arith))
words_missing len (param.Value k ∷ params) [] n = refl
words_missing len (param.Value k ∷ params) (x ∷ args) n = ap (more_words k (are_there len x k)) (words_missing len params args (λ e. n (omega arith))) ∙ more_none k (are_there len x k)
words_missing len (param.ValueArray k ∷ params) [] n = refl
words_missing len (param.ValueArray k ∷ params) (x ∷ []) n = refl
words_missing len (param.ValueArray k ∷ params) (x ∷ pos l ∷ args) n = ap (more_words (l * k) (are_there len x (l * k))) (words_missing len params args (λ e. n (omega arith))) ∙ more_none (l * k) (are_there len x (l * k))
words_missing len (param.ValueArray k ∷ params) (x ∷ negsuc l ∷ args) n = refl

-- A COPY AND ITS ADDRESS

or_same_is : (w : List ℤ) (o : Option (List ℤ)) → unwrap_or o w ≡ or_same w o
or_same_is w None = refl
or_same_is w (Some l) = refl

there_fits : (len : ℕ) (x : ℤ) (n : ℕ) → are_there len x (suc n) ≡ true → before x + suc n ≤ len
there_fits len (pos zero) n e = absurd cc
there_fits len (pos (suc a)) n e = let le : a + suc n ≤ len = grind (arith, nat_tests) in omega arith
there_fits len (negsuc a) n e = absurd cc

both : (a b : Bool) → a && b ≡ true → (a ≡ true) × (b ≡ true)
both true true e = (refl, refl)
both true false e = absurd cc
both false b e = absurd cc

pub length_copied : (w : List ℤ) (x y : ℤ) (n : ℕ) → length (or_same w (copied w x y n)) ≡ length w
length_copied w x y zero = refl
length_copied w x y (suc n) = go (are_there (length w) x (suc n) && are_there (length w) y (suc n)) refl
  where
    go : (b : Bool) → are_there (length w) x (suc n) && are_there (length w) y (suc n) ≡ b → length (or_same w (if b then Some (with_words w x (words_at w y (suc n))) else None)) ≡ length w
    go false e = refl
    go true e =
        let p = both (are_there (length w) x (suc n)) (are_there (length w) y (suc n)) e in
        let fx = there_fits (length w) x n p.0 in
        let fy = there_fits (length w) y n p.1 in
        let t = length-take-le (suc n) (drop (before y) w) (omega (arith, length-drop (before y) w)) in
        length_spliced (before x) (words_at w y (suc n)) w (omega arith)

pub copy_put : (m m1 m2 : Held) (slot next n : ℕ) (x zn zx zs zv : ℤ) → m1 ≡ record m { words = unwrap_or (copied m.words zn zx n) m.words } → zn ≡ pos next → zx ≡ x → m2 ≡ record m1 { words = unwrap_or (stored m1.words zs zv) m1.words } → zs ≡ pos slot → zv ≡ pos next → 0 < slot → slot ≤ length m.words → (m2 ≡ record m { words = with_copy m.words slot next x n }) × (length m2.words ≡ length m.words)
copy_put m m1 m2 slot next n x zn zx zs zv one en ex two es ev some le =
    let w1 : m1.words ≡ or_same m.words (copied m.words (pos next) x n) = ap (λ (h : Held). h.words) one ∙ or_same_is m.words (copied m.words zn zx n) ∙ ap (λ z. or_same m.words (copied m.words z zx n)) en ∙ ap (λ z. or_same m.words (copied m.words (pos next) z n)) ex in
    let l1 : length m1.words ≡ length m.words = ap length w1 ∙ length_copied m.words (pos next) x n in
    let w2 : unwrap_or (stored m1.words zs zv) m1.words ≡ with_words m1.words (pos slot) (pos next ∷ []) = ap (λ z. unwrap_or (stored m1.words z zv) m1.words) es ∙ ap (λ z. unwrap_or (stored m1.words (pos slot) z) m1.words) ev ∙ stored_as m1.words slot (pos next) some (omega arith) in
    let heap : m1.next ≡ m.next = ap (λ (h : Held). h.next) one in
    let l2 : length m2.words ≡ length m.words = ap (λ (h : Held). length h.words) two ∙ ap length w2 ∙ length_with m1.words (pos next ∷ []) slot (omega arith) ∙ l1 in
    (two ∙ ap (λ l. record m1 { words = l }) (w2 ∙ ap (λ l. with_words l (pos slot) (pos next ∷ [])) w1) ∙ ap (λ k. record { words = with_copy m.words slot next x n; next = k }) heap, l2)

-- A CALL BEGINS

pub cleared_some : (m m1 : Held) (at n : ℕ) (z : ℤ) → m1 ≡ record m { words = unwrap_or (cleared m.words z n) m.words } → z ≡ pos at → 0 < at → at + n ≤ length m.words + 1 → m1 ≡ record m { words = with_words m.words (pos at) (replicate n (pos 0)) }
cleared_some m m1 at n z one ez some le = one ∙ ap (λ k. record m { words = unwrap_or (cleared m.words k n) m.words }) ez ∙ ap (λ l. record m { words = l }) (cleared_as m.words at n some le)

pub cleared_none : (m : Held) (at n : ℕ) → n ≡ 0 → m ≡ record m { words = with_words m.words (pos at) (replicate n (pos 0)) }
cleared_none m at n e = ap (λ l. record m { words = l }) (sym (with_none m.words at)) ∙ ap (λ k. record m { words = with_words m.words (pos at) (replicate k (pos 0)) }) (sym e)

pub begun : (m m1 m2 m3 : Held) (q : Procedure) (args : List ℤ) (first at : ℕ) (params : List Param) → m1 ≡ record m { words = with_words m.words (pos first) args } → m2 ≡ record m1 { words = with_words m1.words (pos (first + length args)) (replicate q.locals (pos 0)) } → params ≡ q.params → m3 ≡ record m2 { words = with_copies m2.words params args first at } → slots q.params ≡ length args → at ≡ first + length args + q.locals → 0 < first → first + (length args + q.locals) ≤ length m.words + 1 → m3 ≡ record m { words = entered m.words first q args }
begun m m1 m2 m3 q args first at params one two ep three es ea some le =
    let both : m2 ≡ record m { words = with_words m.words (pos first) (args ++ replicate q.locals (pos 0)) } = put_both m m1 m2 first (first + length args) args (replicate q.locals (pos 0)) one two some (omega arith) refl in
    let end : at ≡ first + (slots q.params + q.locals) = omega arith in
    three ∙ ap (λ (h : Held). record h { words = with_copies h.words params args first at }) both ∙ ap (λ ps. record m { words = with_copies (with_words m.words (pos first) (args ++ replicate q.locals (pos 0))) ps args first at }) ep ∙ ap (λ n. record m { words = with_copies (with_words m.words (pos first) (args ++ replicate q.locals (pos 0))) q.params args first n }) end

pub begun_plain : (m m1 m2 : Held) (q : Procedure) (args : List ℤ) (first : ℕ) → has_copies q.params ≡ false → m1 ≡ record m { words = with_words m.words (pos first) args } → m2 ≡ record m1 { words = with_words m1.words (pos (first + length args)) (replicate q.locals (pos 0)) } → 0 < first → first + (length args + q.locals) ≤ length m.words + 1 → m2 ≡ record m { words = entered m.words first q args }
begun_plain m m1 m2 q args first h one two some le =
    let both : m2 ≡ record m { words = with_words m.words (pos first) (args ++ replicate q.locals (pos 0)) } = put_both m m1 m2 first (first + length args) args (replicate q.locals (pos 0)) one two some (omega arith) refl in
    let same = plain_same (with_words m.words (pos first) (args ++ replicate q.locals (pos 0))) q.params args first (first + (slots q.params + q.locals)) h in
    both ∙ ap (λ l. record m { words = l }) (sym same)
