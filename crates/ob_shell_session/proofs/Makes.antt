-- What a make comes to, turn by turn.
use Rattle.std.proofs.Common.{◌≡◌, ℕ, ◌+◌, ◌≤◌, List, [], ◌∷◌, ◌++◌, length, Bool, true, false, cond, refl, sym, ap, ◌∙◌, subst, append_assoc, Result, Ok, Err, arith}
use Rattle.std.proofs.lemmas.Bool.{false≢true}
use Rattle.std.proofs.lemmas.List.{append-nil, length-append}
use Rattle.ob_load.specs.Standing.{Standing}
use Rattle.ob_tree.specs.declared.print.Print.{Print}
use Rattle.ob_link.specs.Files.{Files}
use Rattle.ob_make.specs.Order.{MakeEnd, Cycle, TooMany, order}
use Rattle.ob_make.specs.Folder.{source_name, seen_in, prints}
use Rattle.ob_make.specs.Stale.{turn_in}
use Rattle.ob_make.specs.Answers.{OrdersAs}
use Rattle.ob_make.specs.declared.fault.MakeFault.{MakeFault}
use Rattle.ob_make.specs.declared.fault.MakeFault.TheVariants as fault
use Rattle.ob_shell_reports.specs.Prints.{PrintDoes}
use Rattle.ob_make.specs.declared.turns.Turn.{Turn}
use Rattle.ob_make.specs.declared.turns.Turn.TheVariants as turn
use Rattle.ob_compile_model.specs.Compiling as compile
use Rattle.ob_compile_model.specs.Compiling.{Compiled}
use Rattle.ob_shell_reports.specs.Texts.{refused, no_source, made_text}
use Rattle.ob_shell_model.specs.Folds.{Part, Answer, part, printed_by, made_by}
use Rattle.ob_shell_model.specs.Making.{turn_at, by_turn, in_turn, behind, and_on, behind_turns, made_in, make_answer, end_text}
use Rattle.ob_shell_model.specs.Bytes.{World, Change, changed, maker, compile_answer, compiled_in, says, told, denied}
use Rattle.ob_shell_model.specs.Session.{first_part}
use Rattle.ob_shell_reports.specs.declared.stop.Stop.{Stop}
use Rattle.ob_shell_reports.specs.declared.stop.Stop.TheVariants.{Sink, Folder, Memory}
use Rattle.ob_shell_session.specs.Does.{Shows, LineDoes, PartsStop, FilesDo, AnswerDo, SaidDoes}
use Rattle.ob_shell_session.specs.Made.{told_behind, rest_of_make, NoOrder}
use Rattle.ob_shell_session.proofs.Parts.{changed_more, files_stop, stop_behind, one_is}
use Rattle.ob_shell_session.proofs.Orders.{few_modules}
use Rattle.ob_shell_session.proofs.Said.{compile_one, compile_line, compile_does, said_line, printed}

-- THE FILES AFTER A MAKE are those that its changes make

made_more : (ps qs : List (Part Change)) → made_by (ps ++ qs) ≡ made_by ps ++ made_by qs
made_more [] qs = refl
made_more (p ∷ ps) qs = ap (λ x. p.changes ++ x) (made_more ps qs) ∙ sym (append_assoc p.changes (made_by ps) (made_by qs))

-- the files of an answer are those that its changes make
abbrev FilesSo : World → Answer World Change → Type 0
FilesSo w a = a.world.files ≡ changed w.files (made_by a.parts)

so_compiled : (w : World) (name : List ℕ) (r : Result (Compiled Print) (compile.Refusal Print)) → FilesSo w (compile_answer w name r)
so_compiled w name (Ok c) = refl
so_compiled w name (Err r) = refl

so_turn : (w : World) (x : List ℕ) (t : Turn) → FilesSo w (by_turn maker t w x)
so_turn w x turn.Stays = refl
so_turn w x turn.Compiles = so_compiled w (source_name x) (compiled_in w (w.files (source_name x)))
so_turn w x turn.LacksSource = refl

so_behind : (w : World) (a b : Answer World Change) → FilesSo w a → FilesSo a.world b → FilesSo w (behind a.parts b)
so_behind w a b e f = f ∙ ap (λ (x : Files). changed x (made_by b.parts)) e ∙ sym (changed_more (made_by a.parts) (made_by b.parts) w.files) ∙ ap (changed w.files) (sym (made_more a.parts b.parts))

so_on : (w : World) (a : Answer World Change) (more : World → Answer World Change) (b : Bool) → FilesSo w a → FilesSo a.world (more a.world) → FilesSo w (cond b a (behind a.parts (more a.world)))
so_on w a more true e f = e
so_on w a more false e f = so_behind w a (more a.world) e f

so_turns : (m : List ℕ) (xs : List (List ℕ)) (w : World) → FilesSo w (behind_turns maker m xs w)
unfolding behind_turns
so_turns m [] w = refl
so_turns m (x ∷ xs) w =
    let a = in_turn maker m w x in
    so_on w a (behind_turns maker m xs) a.refused (so_turn w x (turn_at maker m w x)) (so_turns m xs a.world)

so_made : (m : List ℕ) (r : Result (List (List ℕ)) MakeEnd) (w : World) → FilesSo w (made_in maker m r w)
so_made m (Ok xs) w =
    let a = behind_turns maker m xs w in
    so_on w a (λ v. record { world = v; parts = part [] (made_text m (length a.parts)); refused = false }) a.refused (so_turns m xs w) refl
so_made m (Err e) w = refl

pub make_files : (m : List ℕ) (w : World) → (make_answer maker m w).world.files ≡ changed w.files (made_by (make_answer maker m w).parts)
make_files m w = so_made m (order (maker.sees w) m) w

-- AT LEAST ONE PART

abbrev HasPart : Answer World Change → Type 0
HasPart a = 1 ≤ length a.parts

denied_turn : (w : World) (x : List ℕ) (t : Turn) → (by_turn maker t w x).refused ≡ true → HasPart (by_turn maker t w x)
denied_turn w x turn.Stays e = absurd (false≢true e)
denied_turn w x turn.Compiles e = let h : length (compile_answer w (source_name x) (compiled_in w (w.files (source_name x)))).parts ≡ 1 = ap (λ (ps : List (Part Change)). length ps) (compile_one w (source_name x) (compiled_in w (w.files (source_name x)))) in omega (arith, h)
denied_turn w x turn.LacksSource e = omega arith

denied_on : (a : Answer World Change) (more : World → Answer World Change) (b : Bool) → (b ≡ true → HasPart a) → ((more a.world).refused ≡ true → HasPart (more a.world)) → (cond b a (behind a.parts (more a.world))).refused ≡ true → HasPart (cond b a (behind a.parts (more a.world)))
denied_on a more true h k e = h refl
denied_on a more false h k e = let q = k e in let l = length-append a.parts (more a.world).parts in omega (arith, q, l)

denied_turns : (m : List ℕ) (xs : List (List ℕ)) (w : World) → (behind_turns maker m xs w).refused ≡ true → HasPart (behind_turns maker m xs w)
unfolding behind_turns
denied_turns m [] w e = absurd (false≢true e)
denied_turns m (x ∷ xs) w e =
    let a = in_turn maker m w x in
    denied_on a (behind_turns maker m xs) a.refused (denied_turn w x (turn_at maker m w x)) (denied_turns m xs a.world) e

told_part : (m : List ℕ) (count : ℕ) (a : Answer World Change) (b : Bool) → (b ≡ true → HasPart a) → HasPart (cond b a (behind a.parts (record { world = a.world; parts = part [] (made_text m (count + length a.parts)); refused = false })))
told_part m count a true h = h refl
told_part m count a false h = let l = length-append a.parts (part [] (made_text m (count + length a.parts))) in omega (arith, l)

rest_part : (m : List ℕ) (count : ℕ) (xs : List (List ℕ)) (w : World) → HasPart (rest_of_make m count xs w)
rest_part m count xs w = let a = behind_turns maker m xs w in told_part m count a a.refused (denied_turns m xs w)

-- no module was compiled before the first turn
pub made_is : (m : List ℕ) (xs : List (List ℕ)) (w : World) → rest_of_make m 0 xs w ≡ made_in maker m (Ok xs) w
made_is m xs w =
    let a = behind_turns maker m xs w in
    let e : 0 + length a.parts ≡ length a.parts = omega arith in
    ap (λ n. and_on a (λ v. record { world = v; parts = part [] (made_text m n); refused = false })) e

in_part : (m : List ℕ) (r : Result (List (List ℕ)) MakeEnd) (w : World) → HasPart (made_in maker m r w)
in_part m (Ok xs) w = subst HasPart (made_is m xs w) (rest_part m 0 xs w)
in_part m (Err e) w = omega arith

-- THE TURNS

-- nothing was done
early : (a : Answer World Change) (before now : List ℕ) (old files : Files) (stop : Stop) → (stop ≡ Sink → ⊥) → HasPart a → now ≡ before → files ≡ old → PartsStop a.parts before now old files stop
early a before now old files Sink n h e f = absurd (n refl)
early a before now old files Folder n h e f = (0, 0, e ∙ sym (append-nil before), f)
early a before now old files Memory n h e f = (0, h, e ∙ sym (append-nil before), f)

-- a fault of a turn
pub turn_cut : (m : List ℕ) (count : ℕ) (xs : List (List ℕ)) (w : World) (before : List ℕ) (old files : Files) (stop : Stop) → (stop ≡ Sink → ⊥) → files ≡ old → PartsStop (rest_of_make m count xs w).parts before before old files stop
turn_cut m count xs w before old files stop n f = early (rest_of_make m count xs w) before before old files stop n (rest_part m count xs w) refl f

-- there is no order
order_said : (w : World) (m : List ℕ) (e : MakeEnd) (r : Result (List (List ℕ)) MakeEnd) (tells : Bool) (before now : List ℕ) (old files : Files) (new : Standing) (result : Result Bool Stop) → r ≡ Err e → tells ≡ true → Shows new old w → files ≡ old → PrintDoes tells before now (end_text m e) true result → LineDoes before now old files new (made_in maker m r w) result
order_said w m e r tells before now old files new result is t h f p =
    subst (λ (x : Result (List (List ℕ)) MakeEnd). LineDoes before now old files new (made_in maker m x w) result) (sym is)
    (said_line tells w (denied (end_text m e)) before now old files new result t h f (printed tells before now (denied (end_text m e)) result p))

order_stops : (w : World) (m : List ℕ) (r : Result (List (List ℕ)) MakeEnd) (before now : List ℕ) (old files : Files) (new : Standing) (stop : Stop) (result : Result Bool Stop) → (stop ≡ Sink → ⊥) → result ≡ Err stop → now ≡ before → files ≡ old → LineDoes before now old files new (made_in maker m r w) result
order_stops w m r before now old files new stop result n is e f =
    subst (λ (x : Result Bool Stop). LineDoes before now old files new (made_in maker m r w) x) (sym is)
    (early (made_in maker m r w) before now old files stop n (in_part m r w) e f)

order_line : (w : World) (m : List ℕ) (r : Result (List (List ℕ)) MakeEnd) (x : MakeFault) (tells : Bool) (before now : List ℕ) (old files : Files) (new : Standing) (result : Result Bool Stop) → OrdersAs r (Err x) → tells ≡ true → Shows new old w → files ≡ old → NoOrder tells before now m x result → LineDoes before now old files new (made_in maker m r w) result
order_line w m r (fault.Cycle a) tells before now old files new result o t h f d = order_said w m (Cycle a) r tells before now old files new result o t h f d
order_line w m r (fault.TooMany count) tells before now old files new result o t h f d = order_said w m (TooMany count) r tells before now old files new result o t h f d
order_line w m r fault.Folder tells before now old files new result o t h f d = order_stops w m r before now old files new Folder result (λ e. cc) d.0 d.1 f
order_line w m r fault.Memory tells before now old files new result o t h f d = order_stops w m r before now old files new Memory result (λ e. cc) d.0 d.1 f

-- the last turn is over
rest_none : (m : List ℕ) (count : ℕ) (w : World) → rest_of_make m count [] w ≡ says w (told (made_text m count))
unfolding behind_turns
rest_none m count w = let e : count + 0 ≡ count = omega arith in ap (λ n. says w (told (made_text m n))) e

-- a module stays
rest_stays : (m : List ℕ) (count : ℕ) (x : List ℕ) (xs : List (List ℕ)) (w : World) → turn_at maker m w x ≡ turn.Stays → rest_of_make m count (x ∷ xs) w ≡ rest_of_make m count xs w
unfolding behind_turns
rest_stays m count x xs w e = ap (λ t. told_behind m count (and_on (by_turn maker t w x) (behind_turns maker m xs))) e

-- a module lacks its source
rest_lacks : (m : List ℕ) (count : ℕ) (x : List ℕ) (xs : List (List ℕ)) (w : World) → turn_at maker m w x ≡ turn.LacksSource → rest_of_make m count (x ∷ xs) w ≡ says w (denied (refused (source_name x) no_source))
unfolding behind_turns
rest_lacks m count x xs w e = ap (λ t. told_behind m count (and_on (by_turn maker t w x) (behind_turns maker m xs))) e

-- the compile of a module
abbrev pub compile_of : World → List ℕ → Answer World Change
compile_of w x = compile_answer w (source_name x) (compiled_in w (w.files (source_name x)))

-- a module is compiled
abbrev pub rest_behind : List ℕ → ℕ → List (List ℕ) → Answer World Change → Answer World Change
rest_behind m count xs a = told_behind m count (and_on a (behind_turns maker m xs))

rest_compiles : (m : List ℕ) (count : ℕ) (x : List ℕ) (xs : List (List ℕ)) (w : World) → turn_at maker m w x ≡ turn.Compiles → rest_of_make m count (x ∷ xs) w ≡ rest_behind m count xs (compile_of w x)
unfolding behind_turns
rest_compiles m count x xs w e = ap (λ t. told_behind m count (and_on (by_turn maker t w x) (behind_turns maker m xs))) e

-- the parts behind one that goes on
tell_more : (m : List ℕ) (count : ℕ) (p : Part Change) (b : Answer World Change) (s : Bool) → told_behind m count (behind (p ∷ []) (record { world = b.world; parts = b.parts; refused = s })) ≡ behind (p ∷ []) (told_behind m (count + 1) (record { world = b.world; parts = b.parts; refused = s }))
tell_more m count p b true = refl
tell_more m count p b false = let e : count + length (p ∷ b.parts) ≡ count + 1 + length b.parts = omega arith in ap (λ n. record { world = b.world; parts = p ∷ (b.parts ++ part [] (made_text m n)); refused = false }) e

one_more : (m : List ℕ) (count : ℕ) (p : Part Change) (v : World) (r : Bool) (more : World → Answer World Change) → r ≡ false → told_behind m count (and_on (record { world = v; parts = p ∷ []; refused = r }) more) ≡ behind (p ∷ []) (told_behind m (count + 1) (more v))
one_more m count p v true more e = absurd (false≢true (sym e))
one_more m count p v false more e = tell_more m count p (more v) (more v).refused

one_ends : (m : List ℕ) (count : ℕ) (p : Part Change) (v : World) (r : Bool) (more : World → Answer World Change) → r ≡ true → told_behind m count (and_on (record { world = v; parts = p ∷ []; refused = r }) more) ≡ record { world = v; parts = p ∷ []; refused = r }
one_ends m count p v true more e = refl
one_ends m count p v false more e = absurd (false≢true e)

cut_more : (m : List ℕ) (count : ℕ) (p : Part Change) (b : Answer World Change) (s : Bool) (before now : List ℕ) (old files : Files) (value : Bool) (stop : Stop) → FilesDo before now old files p.changes p.text value (Err stop) → PartsStop (told_behind m count (behind (p ∷ []) (record { world = b.world; parts = b.parts; refused = s }))).parts before now old files stop
cut_more m count p b true before now old files value stop d = files_stop p b.parts before now old files value stop d
cut_more m count p b false before now old files value stop d = files_stop p (b.parts ++ part [] (made_text m (count + length (p ∷ b.parts)))) before now old files value stop d

one_cut : (m : List ℕ) (count : ℕ) (p : Part Change) (v : World) (r : Bool) (more : World → Answer World Change) (before now : List ℕ) (old files : Files) (value : Bool) (stop : Stop) → FilesDo before now old files p.changes p.text value (Err stop) → PartsStop (told_behind m count (and_on (record { world = v; parts = p ∷ []; refused = r }) more)).parts before now old files stop
one_cut m count p v true more before now old files value stop d = files_stop p [] before now old files value stop d
one_cut m count p v false more before now old files value stop d = cut_more m count p (more v) (more v).refused before now old files value stop d

line_behind : (p : Part Change) (b : Answer World Change) (before mid now : List ℕ) (old there files : Files) (new : Standing) (result : Result Bool Stop) → mid ≡ before ++ p.text → there ≡ changed old p.changes → LineDoes mid now there files new b result → LineDoes before now old files new (behind (p ∷ []) b) result
line_behind p b before mid now old there files new (Ok r) m t d = (d.0 ∙ ap (λ x. x ++ printed_by b.parts) m ∙ append_assoc before p.text (printed_by b.parts), d.1, d.2)
line_behind p b before mid now old there files new (Err stop) m t d = stop_behind p b.parts before mid now old there files stop m t d

-- a compile that was refused ends the line
compile_refused : (m : List ℕ) (count : ℕ) (x : List ℕ) (xs : List (List ℕ)) (w : World) (before now : List ℕ) (old files : Files) (new : Standing) → turn_at maker m w x ≡ turn.Compiles → Shows new old w → AnswerDo before now old files (compile_of w x) (Ok true) → LineDoes before now old files new (rest_of_make m count (x ∷ xs) w) (Ok true)
compile_refused m count x xs w before now old files new e h d =
    let a = compile_of w x in
    let p = first_part a.parts in
    let o = compile_one w (source_name x) (compiled_in w (w.files (source_name x))) in
    let same : rest_of_make m count (x ∷ xs) w ≡ a = rest_compiles m count x xs w e ∙ ap (rest_behind m count xs) (one_is a o) ∙ one_ends m count p a.world a.refused (behind_turns maker m xs) (sym d.2) ∙ sym (one_is a o) in
    subst (λ (y : Answer World Change). LineDoes before now old files new y (Ok true)) (sym same)
    (compile_line w (source_name x) (compiled_in w (w.files (source_name x))) before now old files new (Ok true) h d)

-- behind one that was not refused the next have their turns
compile_goes_on : (m : List ℕ) (count more : ℕ) (x : List ℕ) (xs : List (List ℕ)) (w : World) (before mid now : List ℕ) (old there files : Files) (new : Standing) (result : Result Bool Stop) → turn_at maker m w x ≡ turn.Compiles → more ≡ count + 1 → AnswerDo before mid old there (compile_of w x) (Ok false) → LineDoes mid now there files new (rest_of_make m more xs (compile_of w x).world) result → LineDoes before now old files new (rest_of_make m count (x ∷ xs) w) result
compile_goes_on m count more x xs w before mid now old there files new result e k d l =
    let a = compile_of w x in
    let p = first_part a.parts in
    let o = compile_one w (source_name x) (compiled_in w (w.files (source_name x))) in
    let same : rest_of_make m count (x ∷ xs) w ≡ behind (p ∷ []) (rest_of_make m (count + 1) xs a.world) = rest_compiles m count x xs w e ∙ ap (rest_behind m count xs) (one_is a o) ∙ one_more m count p a.world a.refused (behind_turns maker m xs) (sym d.2) in
    subst (λ (y : Answer World Change). LineDoes before now old files new y result) (sym same)
    (line_behind p (rest_of_make m (count + 1) xs a.world) before mid now old there files new result d.0 d.1
    (subst (λ n. LineDoes mid now there files new (rest_of_make m n xs a.world) result) k l))

-- a fault in a compile
compile_cut : (m : List ℕ) (count : ℕ) (x : List ℕ) (xs : List (List ℕ)) (w : World) (before now : List ℕ) (old files : Files) (stop : Stop) → turn_at maker m w x ≡ turn.Compiles → AnswerDo before now old files (compile_of w x) (Err stop) → PartsStop (rest_of_make m count (x ∷ xs) w).parts before now old files stop
compile_cut m count x xs w before now old files stop e d =
    let a = compile_of w x in
    let p = first_part a.parts in
    let o = compile_one w (source_name x) (compiled_in w (w.files (source_name x))) in
    let same : rest_of_make m count (x ∷ xs) w ≡ rest_behind m count xs (record { world = a.world; parts = p ∷ []; refused = a.refused }) = rest_compiles m count x xs w e ∙ ap (rest_behind m count xs) (one_is a o) in
    subst (λ (y : Answer World Change). PartsStop y.parts before now old files stop) (sym same)
    (one_cut m count p a.world a.refused (behind_turns maker m xs) before now old files a.refused stop d)

-- WHAT THE CODE DOES AT A TURN of the first of these modules, seen in the files of the world

-- where a module stands in a make
pub record AtTurn (m : List ℕ) (all : List (List ℕ)) (x : List ℕ) (xs : List (List ℕ)) (w : World) (old mid : Files) (new : Standing) (t : Turn) : Type 0 where
  pub split : all ≡ x ∷ xs
  pub turn : turn_at maker m w x ≡ t
  pub same : mid ≡ old
  pub shows : Shows new mid w

pub at_turn : (m : List ℕ) (all : List (List ℕ)) (x : List ℕ) (xs : List (List ℕ)) (w : World) (old mid : Files) (new : Standing) (s t : Turn) → all ≡ x ∷ xs → turn_in prints (seen_in old) m x ≡ s → s ≡ t → mid ≡ old → Shows new old w → AtTurn m all x xs w old mid new t
at_turn m all x xs w old mid new s t e i k f h = record {
  split = e;
  turn = ap (λ (fs : Files). turn_in prints (seen_in fs) m x) (sym h.files) ∙ i ∙ k;
  same = f;
  shows = subst (λ (fs : Files). Shows new fs w) (sym f) h;
}

moved : (m : List ℕ) (count : ℕ) (all : List (List ℕ)) (x : List ℕ) (xs : List (List ℕ)) (w : World) (before now : List ℕ) (old mid files : Files) (new : Standing) (t : Turn) (result : Result Bool Stop) → AtTurn m all x xs w old mid new t → LineDoes before now mid files new (rest_of_make m count (x ∷ xs) w) result → LineDoes before now old files new (rest_of_make m count all w) result
moved m count all x xs w before now old mid files new t result a l =
    subst (λ (ys : List (List ℕ)). LineDoes before now old files new (rest_of_make m count ys w) result) (sym a.split)
    (subst (λ (fs : Files). LineDoes before now fs files new (rest_of_make m count (x ∷ xs) w) result) a.same l)

pub make_stays : (m : List ℕ) (count : ℕ) (all : List (List ℕ)) (x : List ℕ) (xs : List (List ℕ)) (w : World) (before now : List ℕ) (old mid files : Files) (new : Standing) (result : Result Bool Stop) → AtTurn m all x xs w old mid new turn.Stays → LineDoes before now mid files new (rest_of_make m count xs w) result → LineDoes before now old files new (rest_of_make m count all w) result
make_stays m count all x xs w before now old mid files new result a l =
    moved m count all x xs w before now old mid files new turn.Stays result a
    (subst (λ (y : Answer World Change). LineDoes before now mid files new y result) (sym (rest_stays m count x xs w a.turn)) l)

pub make_lacks : (m : List ℕ) (count : ℕ) (all : List (List ℕ)) (x : List ℕ) (xs : List (List ℕ)) (w : World) (tells : Bool) (before now : List ℕ) (old mid : Files) (new : Standing) (result : Result Bool Stop) → AtTurn m all x xs w old mid new turn.LacksSource → tells ≡ true → SaidDoes tells before now (denied (refused (source_name x) no_source)) result → LineDoes before now old mid new (rest_of_make m count all w) result
make_lacks m count all x xs w tells before now old mid new result a t d =
    moved m count all x xs w before now old mid mid new turn.LacksSource result a
    (subst (λ (y : Answer World Change). LineDoes before now mid mid new y result) (sym (rest_lacks m count x xs w a.turn))
    (said_line tells w (denied (refused (source_name x) no_source)) before now mid mid new result t a.shows refl d))

pub make_refused : (m : List ℕ) (count : ℕ) (all : List (List ℕ)) (x : List ℕ) (xs : List (List ℕ)) (w : World) (before now : List ℕ) (old mid files : Files) (new : Standing) (r : Bool) → AtTurn m all x xs w old mid new turn.Compiles → r ≡ true → AnswerDo before now mid files (compile_of w x) (Ok r) → LineDoes before now old files new (rest_of_make m count all w) (Ok true)
make_refused m count all x xs w before now old mid files new r a e d =
    moved m count all x xs w before now old mid files new turn.Compiles (Ok true) a
    (compile_refused m count x xs w before now mid files new a.turn a.shows (subst (λ (b : Bool). AnswerDo before now mid files (compile_of w x) (Ok b)) e d))

pub make_goes_on : (m : List ℕ) (count more : ℕ) (all : List (List ℕ)) (x : List ℕ) (xs : List (List ℕ)) (w : World) (before then now : List ℕ) (old mid there files : Files) (new : Standing) (r : Bool) (result : Result Bool Stop) → AtTurn m all x xs w old mid new turn.Compiles → r ≡ false → more ≡ count + 1 → AnswerDo before then mid there (compile_of w x) (Ok r) → (Shows new there (compile_of w x).world → LineDoes then now there files new (rest_of_make m more xs (compile_of w x).world) result) → LineDoes before now old files new (rest_of_make m count all w) result
make_goes_on m count more all x xs w before then now old mid there files new r result a e k d l =
    let h = (compile_does w (source_name x) (compiled_in w (w.files (source_name x))) before then mid there new (Ok r) a.shows d).1 in
    moved m count all x xs w before now old mid files new turn.Compiles result a
    (compile_goes_on m count more x xs w before then now mid there files new result a.turn k (subst (λ (b : Bool). AnswerDo before then mid there (compile_of w x) (Ok b)) e d) (l h))

pub make_cut : (m : List ℕ) (count : ℕ) (all : List (List ℕ)) (x : List ℕ) (xs : List (List ℕ)) (w : World) (before now : List ℕ) (old mid files : Files) (new : Standing) (stop : Stop) → AtTurn m all x xs w old mid new turn.Compiles → AnswerDo before now mid files (compile_of w x) (Err stop) → LineDoes before now old files new (rest_of_make m count all w) (Err stop)
make_cut m count all x xs w before now old mid files new stop a d = moved m count all x xs w before now old mid files new turn.Compiles (Err stop) a (compile_cut m count x xs w before now mid files stop a.turn d)

-- the end of the line
pub make_told : (m : List ℕ) (count : ℕ) (all : List (List ℕ)) (w : World) (tells : Bool) (before now : List ℕ) (old : Files) (new : Standing) (result : Result Bool Stop) → all ≡ [] → tells ≡ true → Shows new old w → PrintDoes tells before now (made_text m count) false result → LineDoes before now old old new (rest_of_make m count all w) result
make_told m count all w tells before now old new result e t h p =
    subst (λ (y : Answer World Change). LineDoes before now old old new y result) (sym (ap (λ (xs : List (List ℕ)). rest_of_make m count xs w) e ∙ rest_none m count w))
    (said_line tells w (told (made_text m count)) before now old old new result t h refl (printed tells before now (told (made_text m count)) result p))

-- the turns in their order
pub make_ordered : (m : List ℕ) (xs : List (List ℕ)) (w : World) (before now : List ℕ) (old mid files : Files) (new : Standing) (result : Result Bool Stop) → order (seen_in old) m ≡ Ok xs → mid ≡ old → Shows new old w → (length xs ≤ 255 → Shows new mid w → LineDoes before now mid files new (rest_of_make m 0 xs w) result) → LineDoes before now old files new (make_answer maker m w) result
make_ordered m xs w before now old mid files new result o f h l =
    let is : order (maker.sees w) m ≡ Ok xs = ap (λ (fs : Files). order (seen_in fs) m) (sym h.files) ∙ o in
    subst (λ (fs : Files). LineDoes before now fs files new (make_answer maker m w) result) f
    (subst (λ (a : Answer World Change). LineDoes before now mid files new a result) (made_is m xs w ∙ ap (λ (r : Result (List (List ℕ)) MakeEnd). made_in maker m r w) (sym is))
    (l (few_modules (seen_in old) m xs o) (subst (λ (fs : Files). Shows new fs w) (sym f) h)))

-- there is no order
pub make_unordered : (w : World) (m : List ℕ) (x : MakeFault) (tells : Bool) (before now : List ℕ) (old files : Files) (new : Standing) (result : Result Bool Stop) → OrdersAs (order (seen_in old) m) (Err x) → tells ≡ true → Shows new old w → files ≡ old → NoOrder tells before now m x result → LineDoes before now old files new (make_answer maker m w) result
make_unordered w m x tells before now old files new result o t h f d = order_line w m (order (maker.sees w) m) x tells before now old files new result (subst (λ (fs : Files). OrdersAs (order (seen_in fs) m) (Err x)) h.files o) t h f d
