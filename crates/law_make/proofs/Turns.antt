-- Behind the turns of a make no module that was not passed over is stale: of any kind of worlds, by what a compile does there.
use Rattle.std.proofs.Common.{◌≡◌, ◌⊎◌, ℕ, List, [], ◌∷◌, ◌++◌, Bool, true, false, length, refl, sym, ap, ◌∙◌, subst, append_assoc, inl, inr, ⊎_elim, Result, Ok, codes}
use Rattle.std.specs.Prelude.{◌||◌, ◌&&◌, not, bytes_eq, map as each}
use Rattle.std.specs.List.{AllByRecursion}
use Rattle.std.proofs.lemmas.Bool.{false≢true}
use Rattle.ob_link.specs.Walk.{has}
use Rattle.ob_env.specs.Faces.{Wanted, Face}
use Rattle.ob_cmp.specs.Check.{Present, NotThere, TooLong, Refused, There}
use Rattle.ob_make.specs.Seen.{Has, Source, NoSource, Imports, Seen, object_needs, symbol_needs, source_needs, is_needed, needs}
use Rattle.ob_make.specs.Order.{MakeEnd, order}
use Rattle.ob_make.specs.Stale.{Marks, meets, fails, is_there, stale_with, is_stale, is_passed, is_sourceless, is_missing}
use Rattle.ob_make.specs.Laws.{StandsInOrder}
use Rattle.ob_make.proofs.Names.{has_left, has_right, has_filter, apart, stands_in, of_all}
use Rattle.ob_make.proofs.Orders.{order_stands}
use Rattle.ob_shell_reports.specs.Texts.{made_text}
use Rattle.ob_shell_model.specs.Folds.{Answer, part}
use Rattle.ob_shell_model.specs.Making.{Maker, in_turn, and_on, behind_turns, made_in, make_answer}
use Rattle.law_lists.proofs.Lists.{append_none, all_from, same_bytes, bytes_itself, or_parts}
use Rattle.law_make.specs.Making.{passed, stale, sourceless, TakesTurn}
use Rattle.law_make.proofs.Names.{true_or, has_here, has_last, not_last, all_named}
use Rattle.law_make.proofs.Exactly.{goes_on, first_goes, then_goes, takes_turn}

-- What a compile of module x, whose source has these imports, does in world v, where it comes to world u: no other module's files are
-- seen otherwise; the object file of x is there, its uses are met in v, and each is of a module to which the imports lead; its symbol
-- file is there and imports no more than the source.
pub record Does {W C K : Type 0} (maker : Maker W C K) (v : W) (x : List ℕ) (ms : List (List ℕ)) (u : W) : Type 0 where
  pub not_out : bytes_eq x (codes "Out") ≡ false
  pub source : (y : List ℕ) → (maker.sees u).source y ≡ (maker.sees v).source y
  pub objects : (y : List ℕ) → bytes_eq y x ≡ false → (maker.sees u).object y ≡ (maker.sees v).object y
  pub symbols : (y : List ℕ) → bytes_eq y x ≡ false → (maker.sees u).symbols y ≡ (maker.sees v).symbols y
  pub shows : Has K
  pub object : (maker.sees u).object x ≡ There shows
  pub face : Face K
  pub symbol : (maker.sees u).symbols x ≡ There face
  pub imports : (n : List ℕ) → has n face.imports ≡ true → bytes_eq n (codes "Out") ≡ false → has n ms ≡ true
  pub met : AllByRecursion (λ w. meets maker.marks w ((maker.sees v).symbols w.object.«module») ≡ true) shows.uses
  pub near : (test : List ℕ → Bool) →
      ((n : List ℕ) → has n ms ≡ true → bytes_eq n x ≡ false → bytes_eq n (codes "Out") ≡ false → test n ≡ true) →
      ((p n : List ℕ) (f : Face K) → test p ≡ true → (maker.sees v).symbols p ≡ There f → has n f.imports ≡ true → bytes_eq n x ≡ false → bytes_eq n (codes "Out") ≡ false → test n ≡ true) →
      AllByRecursion (λ w. test w.object.«module» ≡ true) shows.uses

-- so does each compile that is not refused, in worlds of which this holds
abbrev pub AllDo : {W C K : Type 0} → Maker W C K → (W → Type 0) → Type 0
AllDo {W} maker I = (v : W) (x : List ℕ) (ms : List (List ℕ)) → I v → (maker.sees v).source x ≡ Imports ms → (maker.compile v x).refused ≡ false → Does maker v x ms (maker.compile v x).world × I (maker.compile v x).world

-- ---- what is stale

all_met : {K : Type 0} (marks : Marks K) (find : List ℕ → Present (Face K)) (us : List (Wanted K)) → fails marks find us ≡ false → AllByRecursion (λ w. meets marks w (find w.object.«module») ≡ true) us
all_met marks find [] h = tt
all_met marks find (u ∷ us) h =
    let p = or_parts (not (meets marks u (find u.object.«module»))) (fails marks find us) h in
    (unless (meets marks u (find u.object.«module»)) p.0, all_met marks find us p.1)
  where
    unless : (b : Bool) → not b ≡ false → b ≡ true
    unless true e = refl
    unless false e = sym e

none_fails : {K : Type 0} (marks : Marks K) (find : List ℕ → Present (Face K)) (us : List (Wanted K)) → AllByRecursion (λ w. meets marks w (find w.object.«module») ≡ true) us → fails marks find us ≡ false
none_fails marks find [] h = refl
none_fails marks find (u ∷ us) h = ap (λ b. not b || fails marks find us) h.0 ∙ none_fails marks find us h.1

-- a module that is not stale: its object file, its symbol file and its uses
record IsFresh {K : Type 0} (marks : Marks K) (s : Seen K) (y : List ℕ) : Type 0 where
  shows : Has K
  object : s.object y ≡ There shows
  symbol : is_there (s.symbols y) ≡ true
  met : AllByRecursion (λ w. meets marks w (s.symbols w.object.«module») ≡ true) shows.uses

fresh : {K : Type 0} (marks : Marks K) (s : Seen K) (y : List ℕ) → is_stale marks s y ≡ false → IsFresh marks s y
fresh {K = K} marks s y h = go (s.object y) refl h
  where
    go : (o : Present (Has K)) → s.object y ≡ o → stale_with marks s.symbols o (is_there (s.symbols y)) ≡ false → IsFresh marks s y
    go NotThere e h = absurd (false≢true (sym h))
    go TooLong e h = absurd (false≢true (sym h))
    go Refused e h = absurd (false≢true (sym h))
    go (There f) e h =
        let p = or_parts (not (is_there (s.symbols y))) (fails marks s.symbols f.uses) h in
        record { shows = f; object = e; symbol = unless (is_there (s.symbols y)) p.0; met = all_met marks s.symbols f.uses p.1 }
      where
        unless : (b : Bool) → not b ≡ false → b ≡ true
        unless true e = refl
        unless false e = sym e

not_stale : {K : Type 0} (marks : Marks K) (s : Seen K) (y : List ℕ) → IsFresh marks s y → is_stale marks s y ≡ false
not_stale marks s y f =
    ap (λ o. stale_with marks s.symbols o (is_there (s.symbols y))) f.object
    ∙ ap (λ b. not b || fails marks s.symbols f.shows.uses) f.symbol
    ∙ none_fails marks s.symbols f.shows.uses f.met

-- ---- needs

need : {K : Type 0} (s : Seen K) (x n : List ℕ) → has n (object_needs (s.object x) ++ (symbol_needs (s.symbols x) ++ source_needs (s.source x))) ≡ true → is_needed x n ≡ true → has n (needs s x) ≡ true
need s x n h k = has_filter (is_needed x) n (object_needs (s.object x) ++ (symbol_needs (s.symbols x) ++ source_needs (s.source x))) ∙ ap (λ b. b && has n (object_needs (s.object x) ++ (symbol_needs (s.symbols x) ++ source_needs (s.source x)))) k ∙ h

needed : (x n : List ℕ) → bytes_eq n x ≡ false → bytes_eq n (codes "Out") ≡ false → is_needed x n ≡ true
needed x n e f = ap (λ b. not b && not (bytes_eq n (codes "Out"))) e ∙ ap not f

not_own : (x n : List ℕ) → is_needed x n ≡ true → (bytes_eq n x ≡ false) × (bytes_eq n (codes "Out") ≡ false)
not_own x n h = go (bytes_eq n x) (bytes_eq n (codes "Out")) h
  where
    go : (a b : Bool) → not a && not b ≡ true → (a ≡ false) × (b ≡ false)
    go true b h = absurd (false≢true h)
    go false true h = absurd (false≢true h)
    go false false h = (refl, refl)

of_uses : {K : Type 0} (s : Seen K) (x n : List ℕ) (f : Has K) → s.object x ≡ There f → has n (each (λ w. w.object.«module») f.uses) ≡ true → is_needed x n ≡ true → has n (needs s x) ≡ true
of_uses s x n f e h k = need s x n (has_left n (object_needs (s.object x)) (symbol_needs (s.symbols x) ++ source_needs (s.source x)) (ap (λ o. has n (object_needs o)) e ∙ has_right n f.imports (each (λ w. w.object.«module») f.uses) h)) k

of_symbols : {K : Type 0} (s : Seen K) (x n : List ℕ) (f : Face K) → s.symbols x ≡ There f → has n f.imports ≡ true → is_needed x n ≡ true → has n (needs s x) ≡ true
of_symbols s x n f e h k = need s x n (has_right n (object_needs (s.object x)) (symbol_needs (s.symbols x) ++ source_needs (s.source x)) (has_left n (symbol_needs (s.symbols x)) (source_needs (s.source x)) (ap (λ o. has n (symbol_needs o)) e ∙ h))) k

of_source : {K : Type 0} (s : Seen K) (x n : List ℕ) (ms : List (List ℕ)) → s.source x ≡ Imports ms → has n ms ≡ true → is_needed x n ≡ true → has n (needs s x) ≡ true
of_source s x n ms e h k = need s x n (has_right n (object_needs (s.object x)) (symbol_needs (s.symbols x) ++ source_needs (s.source x)) (has_right n (symbol_needs (s.symbols x)) (source_needs (s.source x)) (ap (λ o. has n (source_needs o)) e ∙ h))) k

there_is : {X : Type 0} (x y : X) → (let a : Present X = There x in a) ≡ There y → x ≡ y
there_is x y e = ap (or_it x) e
  where
    or_it : {X : Type 0} → X → Present X → X
    or_it d NotThere = d
    or_it d TooLong = d
    or_it d Refused = d
    or_it d (There y) = y

sourced : (s : Source) → is_sourceless s ≡ false → (ms : List (List ℕ)) × (s ≡ Imports ms)
sourced NoSource h = absurd (false≢true (sym h))
sourced (Imports ms) h = (ms, refl)

-- ---- the turns

module _ {W C K : Type 0} (maker : Maker W C K) (I : W → Type 0) (all_do : AllDo maker I) (m : List ℕ) (w : W) (xs : List (List ℕ)) (stands : StandsInOrder (maker.sees w) m xs) where
  stands_before : (front back : List (List ℕ)) (x n : List ℕ) → xs ≡ front ++ x ∷ back → has n (needs (maker.sees w) x) ≡ true → has n front ≡ true
  stands_before front back x n is h = of_all (λ k. has k front ≡ true) n (needs (maker.sees w) x) (stands.behind front back x is) h

  -- such a module had its turn, or it is Out
  abbrev IsNear : List (List ℕ) → List ℕ → Type 0
  IsNear front n = (has n front ≡ true) ⊎ (bytes_eq n (codes "Out") ≡ true)

  record Stays (front : List (List ℕ)) (v : W) (y : List ℕ) : Type 0 where
    fresh : IsFresh maker.marks (maker.sees v) y
    near : AllByRecursion (λ u. IsNear front u.object.«module») fresh.shows.uses

  -- Behind these turns world v is there: the sources are those of before, and so are the other files of modules that had no turn; what a
  -- symbol file imports was needed before; and those that had their turns, and were not passed over, are not stale.
  record IsBehind (front : List (List ℕ)) (v : W) : Type 0 where
    source : (y : List ℕ) → (maker.sees v).source y ≡ (maker.sees w).source y
    objects : (y : List ℕ) → has y front ≡ false → (maker.sees v).object y ≡ (maker.sees w).object y
    symbols : (y : List ℕ) → has y front ≡ false → (maker.sees v).symbols y ≡ (maker.sees w).symbols y
    imports : (y n : List ℕ) (f : Face K) → (maker.sees v).symbols y ≡ There f → has n f.imports ≡ true → is_needed y n ≡ true → has n (needs (maker.sees w) y) ≡ true
    stay : (y : List ℕ) → has y front ≡ true → passed maker m w y ≡ false → Stays front v y
    holds : I v

  start : I w → IsBehind [] w
  start i = record {
    source = λ y. refl;
    objects = λ y h. refl;
    symbols = λ y h. refl;
    imports = λ y n f e h k. of_symbols (maker.sees w) y n f e h k;
    stay = λ y h p. absurd (false≢true h);
    holds = i;
  }

  nearer : (front more : List (List ℕ)) (n : List ℕ) → IsNear front n → IsNear (front ++ more) n
  nearer front more n (inl h) = inl (has_left n front more h)
  nearer front more n (inr h) = inr h

  wider : (front more : List (List ℕ)) (v : W) (y : List ℕ) → Stays front v y → Stays (front ++ more) v y
  wider front more v y s = record { fresh = s.fresh; near = all_from (λ u. IsNear front u.object.«module») (λ u. IsNear (front ++ more) u.object.«module») (λ u. nearer front more u.object.«module») s.fresh.shows.uses s.near }

  -- the needs of those that had their turns are among these
  behind_needs : (front back : List (List ℕ)) → xs ≡ front ++ back → (p n : List ℕ) → has p front ≡ true → has n (needs (maker.sees w) p) ≡ true → has n front ≡ true
  behind_needs front back e p n h k =
      let s = stands_in p front h in
      let is : xs ≡ s.0 ++ p ∷ (s.1 ++ back) = e ∙ ap (λ l. l ++ back) s.2 ∙ append_assoc s.0 (p ∷ s.1) back in
      subst (λ l. has n l ≡ true) (sym s.2) (has_left n s.0 (p ∷ s.1) (stands_before s.0 (s.1 ++ back) p n is k))

  -- ---- one turn

  module _ (front back : List (List ℕ)) (x : List ℕ) (v : W) (is : xs ≡ front ++ x ∷ back) (b : IsBehind front v) where
    fresh_name : has x front ≡ false
    fresh_name = (stands.once front back x is).0

    now : List (List ℕ)
    now = front ++ x ∷ []

    -- where it stays
    unchanged : (passed maker m w x ≡ false → Stays (front ++ x ∷ []) v x) → IsBehind (front ++ x ∷ []) v
    unchanged own = record {
      source = b.source;
      objects = λ y h. b.objects y (not_last y x front h).0;
      symbols = λ y h. b.symbols y (not_last y x front h).0;
      imports = b.imports;
      stay = λ y h p. ⊎_elim (λ k. wider front (x ∷ []) v y (b.stay y k p)) (λ e. subst (Stays (front ++ x ∷ []) v) (sym e) (own (ap (passed maker m w) (sym e) ∙ p))) (has_last y x front h);
      holds = b.holds;
    }

    -- it is passed over now as before the line
    passed_same : passed maker m v x ≡ passed maker m w x
    passed_same =
        ap (λ s. not (bytes_eq x m) && (is_sourceless s && is_missing ((maker.sees v).object x))) (b.source x)
        ∙ ap (λ o. not (bytes_eq x m) && (is_sourceless ((maker.sees w).source x) && is_missing o)) (b.objects x fresh_name)

    own_stays : stale maker m v x ≡ false → Stays (front ++ x ∷ []) v x
    own_stays h =
        let f = fresh maker.marks (maker.sees v) x h in
        record { fresh = f; near = all_named (λ u. u.object.«module») (IsNear (front ++ x ∷ [])) f.shows.uses (λ n k. go f n k (true_or (bytes_eq n x)) (true_or (bytes_eq n (codes "Out")))) }
      where
        go : (f : IsFresh maker.marks (maker.sees v) x) (n : List ℕ) → has n (each (λ u. u.object.«module») f.shows.uses) ≡ true → (bytes_eq n x ≡ true) ⊎ (bytes_eq n x ≡ false) → (bytes_eq n (codes "Out") ≡ true) ⊎ (bytes_eq n (codes "Out") ≡ false) → IsNear (front ++ x ∷ []) n
        go f n k (inl e) o = inl (ap (λ y. has y (front ++ x ∷ [])) (same_bytes n x e) ∙ has_here x front [])
        go f n k (inr e) (inl o) = inr o
        go f n k (inr e) (inr o) = inl (has_left n front (x ∷ []) (stands_before front back x n is (of_uses (maker.sees w) x n f.shows (sym (b.objects x fresh_name) ∙ f.object) k (needed x n e o))))

    -- where it is compiled
    module _ (ms : List (List ℕ)) (source_is : (maker.sees v).source x ≡ Imports ms) (u : W) (d : Does maker v x ms u) where
      not_x : (n : List ℕ) → IsNear front n → bytes_eq n x ≡ false
      not_x n (inl h) = apart n x front h fresh_name
      not_x n (inr h) = ap (λ y. bytes_eq y x) (same_bytes n (codes "Out") h) ∙ flip
        where
          flip : bytes_eq (codes "Out") x ≡ false
          flip = other_way x (codes "Out") d.not_out
            where
              other_way : (a c : List ℕ) → bytes_eq a c ≡ false → bytes_eq c a ≡ false
              other_way a c e = go (bytes_eq c a) refl
                where
                  go : (t : Bool) → bytes_eq c a ≡ t → bytes_eq c a ≡ false
                  go true k = absurd (false≢true (sym e ∙ ap (λ y. bytes_eq a y) (same_bytes c a k) ∙ bytes_itself a))
                  go false k = k

      still : (n : List ℕ) → IsNear front n → (maker.sees u).symbols n ≡ (maker.sees v).symbols n
      still n h = d.symbols n (not_x n h)

      -- uses that are met, of modules that had their turns, are met still
      met_still : (us : List (Wanted K)) → AllByRecursion (λ a. IsNear front a.object.«module») us → AllByRecursion (λ a. meets maker.marks a ((maker.sees v).symbols a.object.«module») ≡ true) us → AllByRecursion (λ a. meets maker.marks a ((maker.sees u).symbols a.object.«module») ≡ true) us
      met_still [] h k = tt
      met_still (a ∷ us) h k = (ap (λ p. meets maker.marks a p) (still a.object.«module» h.0) ∙ k.0, met_still us h.1 k.1)

      others : (y : List ℕ) → has y front ≡ true → Stays front v y → Stays (front ++ x ∷ []) u y
      others y h s =
          let o = apart y x front h fresh_name in
          record {
            fresh = record { shows = s.fresh.shows; object = d.objects y o ∙ s.fresh.object; symbol = ap is_there (d.symbols y o) ∙ s.fresh.symbol; met = met_still s.fresh.shows.uses s.near s.fresh.met };
            near = all_from (λ a. IsNear front a.object.«module») (λ a. IsNear (front ++ x ∷ []) a.object.«module») (λ a. nearer front (x ∷ []) a.object.«module») s.fresh.shows.uses s.near;
          }

      import_needed : (n : List ℕ) → has n ms ≡ true → bytes_eq n x ≡ false → bytes_eq n (codes "Out") ≡ false → has n (needs (maker.sees w) x) ≡ true
      import_needed n h e o = of_source (maker.sees w) x n ms (sym (b.source x) ∙ source_is) h (needed x n e o)

      onward : (p n : List ℕ) (f : Face K) → has p front ≡ true → (maker.sees v).symbols p ≡ There f → has n f.imports ≡ true → bytes_eq n x ≡ false → bytes_eq n (codes "Out") ≡ false → has n front ≡ true
      onward p n f h e k a o = go (true_or (bytes_eq n p))
        where
          go : (bytes_eq n p ≡ true) ⊎ (bytes_eq n p ≡ false) → has n front ≡ true
          go (inl i) = ap (λ y. has y front) (same_bytes n p i) ∙ h
          go (inr i) = behind_needs front (x ∷ back) is p n h (b.imports p n f e k (needed p n i o))

      own_near : AllByRecursion (λ a. IsNear front a.object.«module») d.shows.uses
      own_near = all_from (λ a. has a.object.«module» front ≡ true) (λ a. IsNear front a.object.«module») (λ a h. inl h) d.shows.uses
          (d.near (λ n. has n front) (λ n h e o. stands_before front back x n is (import_needed n h e o)) (λ p n f. onward p n f))

      own : Stays (front ++ x ∷ []) u x
      own = record {
        fresh = record { shows = d.shows; object = d.object; symbol = ap is_there d.symbol; met = met_still d.shows.uses own_near d.met };
        near = all_from (λ a. IsNear front a.object.«module») (λ a. IsNear (front ++ x ∷ []) a.object.«module») (λ a. nearer front (x ∷ []) a.object.«module») d.shows.uses own_near;
      }

      imports_still : (y n : List ℕ) (f : Face K) → (maker.sees u).symbols y ≡ There f → has n f.imports ≡ true → is_needed y n ≡ true → has n (needs (maker.sees w) y) ≡ true
      imports_still y n f e h k = go (true_or (bytes_eq y x))
        where
          go : (bytes_eq y x ≡ true) ⊎ (bytes_eq y x ≡ false) → has n (needs (maker.sees w) y) ≡ true
          go (inr i) = b.imports y n f (sym (d.symbols y i) ∙ e) h k
          go (inl i) =
              let same : y ≡ x = same_bytes y x i in
              let g : d.face ≡ f = there_is d.face f (sym d.symbol ∙ ap (maker.sees u).symbols (sym same) ∙ e) in
              let q = not_own x n (ap (λ z. is_needed z n) (sym same) ∙ k) in
              ap (λ z. has n (needs (maker.sees w) z)) same ∙ import_needed n (d.imports n (ap (λ (z : Face K). has n z.imports) g ∙ h) q.1) q.0 q.1

      compiled_so : I u → IsBehind (front ++ x ∷ []) u
      compiled_so i = record {
        source = λ y. d.source y ∙ b.source y;
        objects = λ y h. d.objects y (not_last y x front h).1 ∙ b.objects y (not_last y x front h).0;
        symbols = λ y h. d.symbols y (not_last y x front h).1 ∙ b.symbols y (not_last y x front h).0;
        imports = imports_still;
        stay = λ y h p. ⊎_elim (λ k. others y k (b.stay y k p)) (λ e. subst (Stays (front ++ x ∷ []) u) (sym e) own) (has_last y x front h);
        holds = i;
      }

    -- whatever its turn is
    one_turn : (in_turn maker m v x).refused ≡ false → IsBehind (front ++ x ∷ []) (in_turn maker m v x).world
    one_turn h = by_passed (true_or (passed maker m v x))
      where
        t : TakesTurn maker m v x
        t = takes_turn maker m v x

        by_source : passed maker m v x ≡ false → stale maker m v x ≡ true → (sourceless maker m v x ≡ true) ⊎ (sourceless maker m v x ≡ false) → IsBehind (front ++ x ∷ []) (in_turn maker m v x).world
        by_source p s (inl l) = absurd (false≢true (sym h ∙ ap (λ (a : Answer W C). a.refused) (t.lacks p s l)))
        by_source p s (inr l) =
            let a = t.compiles p s l in
            let ms = sourced ((maker.sees v).source x) l in
            let d = all_do v x ms.0 b.holds ms.1 (ap (λ (z : Answer W C). z.refused) (sym a) ∙ h) in
            subst (λ (z : Answer W C). IsBehind (front ++ x ∷ []) z.world) (sym a) (compiled_so ms.0 ms.1 (maker.compile v x).world d.0 d.1)

        by_stale : passed maker m v x ≡ false → (stale maker m v x ≡ true) ⊎ (stale maker m v x ≡ false) → IsBehind (front ++ x ∷ []) (in_turn maker m v x).world
        by_stale p (inl s) = by_source p s (true_or (sourceless maker m v x))
        by_stale p (inr s) = subst (λ (z : Answer W C). IsBehind (front ++ x ∷ []) z.world) (sym (t.stays (inr s))) (unchanged (λ q. own_stays s))

        by_passed : (passed maker m v x ≡ true) ⊎ (passed maker m v x ≡ false) → IsBehind (front ++ x ∷ []) (in_turn maker m v x).world
        by_passed (inl p) = subst (λ (z : Answer W C). IsBehind (front ++ x ∷ []) z.world) (sym (t.stays (inl p))) (unchanged (λ q. absurd (false≢true (sym q ∙ sym passed_same ∙ p))))
        by_passed (inr p) = by_stale p (true_or (stale maker m v x))

  -- ---- all turns

  all_turns : (front back : List (List ℕ)) (v : W) → xs ≡ front ++ back → IsBehind front v → (behind_turns maker m back v).refused ≡ false → IsBehind xs (behind_turns maker m back v).world
  unfolding behind_turns
  all_turns front [] v e b h = subst (λ l. IsBehind l v) (sym (e ∙ append_none front)) b
  all_turns front (x ∷ back) v e b h =
      let a = in_turn maker m v x in
      let f = behind_turns maker m back in
      let one = one_turn front back x v e b (first_goes a f h) in
      let more = all_turns (front ++ x ∷ []) back a.world (e ∙ sym (append_assoc front (x ∷ []) back)) one (then_goes a f h) in
      subst (λ (z : Answer W C). IsBehind xs z.world) (sym (goes_on a f (first_goes a f h))) more

  fresh_behind : I w → (behind_turns maker m xs w).refused ≡ false → (x : List ℕ) → has x xs ≡ true → passed maker m w x ≡ false → stale maker m (behind_turns maker m xs w).world x ≡ false
  fresh_behind i h x k p = not_stale maker.marks (maker.sees (behind_turns maker m xs w).world) x ((all_turns [] xs w refl (start i) h).stay x k p).fresh

-- BEHIND A MAKE that is not refused
pub up_to_date : {W C K : Type 0} (maker : Maker W C K) (I : W → Type 0) → AllDo maker I → (m : List ℕ) (w : W) (xs : List (List ℕ)) → I w → order (maker.sees w) m ≡ Ok xs → (make_answer maker m w).refused ≡ false →
    (x : List ℕ) → has x xs ≡ true → is_passed (maker.sees w) m x ≡ false → is_stale maker.marks (maker.sees (make_answer maker m w).world) x ≡ false
up_to_date {W = W} {C = C} maker I all_do m w xs i e h x k p =
    let a = behind_turns maker m xs w in
    let g : W → Answer W C = λ v. record { world = v; parts = part [] (made_text m (length a.parts)); refused = false } in
    let is : make_answer maker m w ≡ and_on a g = ap (λ (o : Result (List (List ℕ)) MakeEnd). made_in maker m o w) e in
    let n : a.refused ≡ false = first_goes a g (ap (λ (z : Answer W C). z.refused) (sym is) ∙ h) in
    let world : (make_answer maker m w).world ≡ a.world = ap (λ (z : Answer W C). z.world) (is ∙ goes_on a g n) in
    ap (λ v. is_stale maker.marks (maker.sees v) x) world ∙ fresh_behind maker I all_do m w xs (order_stands (maker.sees w) m xs e) i n x k p
