-- From level to level, and the module.
use Rattle.std.proofs.Common.{◌≡◌, refl, sym, ap, subst, ◌∙◌, ℕ, zero, suc, ◌+◌, ◌≤◌, true, false, List, [], ◌∷◌, ◌++◌, None, ⊎_elim, arith, append_assoc}
use Rattle.std.proofs.lemmas.List.{map-append}
use Rattle.ob_tree.specs.declared.symbol.Symbol.TheVariants as s
use Rattle.ob_tree.specs.declared.token.Token.{Token}
use Rattle.ob_tree.specs.declared.expr.Expr.{Expr}
use Rattle.ob_tree.specs.declared.type_node.TypeNode.{TypeNode}
use Rattle.ob_tree.specs.declared.stmt.Stmt.{Stmt}
use Rattle.ob_tree.specs.declared.stmt.Stmt.TheVariants as st
use Rattle.ob_tree.specs.declared.decl.Decl.{Decl}
use Rattle.ob_tree.specs.declared.decl.Module.{Module}
use Rattle.ob_parse_grammar.specs.Phrase.{Tokens, Nest, AnExpr, AType, Statements, Negated, Procedure, Tree}
use Rattle.ob_parse_grammar.specs.Reading.{Fails, Deep, Wrong, Set, starts, first}
use Rattle.ob_parse_grammar.specs.Grammar.{rule, spells, read, reads, read_void, first_of, empty_of, is_full, IsVoid}
use Rattle.ob_parse_grammar.specs.Declarations.{«module»}
use Rattle.ob_parse_grammar.specs.Laws.{IsModule, SameNext}
use Rattle.ob_parse_grammar.proofs.Local.{SameHead}
use Rattle.ob_parse_grammar.proofs.Basics.{chosen, false_not_true}
use Rattle.ob_parse_grammar.proofs.Fine.{every, within, within_starts}
use Rattle.ob_parse_grammar.proofs.Whole.{good_read, more_of, agrees, none_left, module_fine}
use Rattle.ob_parse_grammar.proofs.Alive.{sample_easy, Sample, fails, fails_rest, found_not}
use Rattle.law_nesting.specs.Levels.{token_of, tokens_of, places, IsPlaced, IsFirstTooDeep, IsSpelled, HasPlaces, NextGoesOn, NoneIsEarlier, IsInside}
use Rattle.law_nesting.proofs.Places.{Places, within_as, lower_as, lower}
use Rattle.law_nesting.proofs.Shared.{front_places}
use Rattle.law_nesting.proofs.Opens.{Sampled, Void, Opens, opens_as}
use Rattle.law_nesting.proofs.Deeper.{Deeper, deeper_as, wrong_not_deep}
use Rattle.law_nesting.proofs.Stops.{Stops, at_front, deep_not_wrong, stops_as}

t₀ : Token
t₀ = record { symbol = s.End; text = record { ref_ptr = (0, 0); now = [] }; pos = record { line = 0; col = 0 } }

-- ---- what is spelled within d levels is placed within them, with any number to spare

abbrev up : ℕ → ℕ → ℕ
up j zero = j
up j (suc d) = suc (up j d)

empty_placed : (j k : ℕ) → places (suc j) k Statements (st.Empty ∷ []) []
empty_placed j k = ((st.Empty, []), refl, ([], [], refl, (None, refl, refl), refl))

void_placed : (j k : ℕ) (n : Nest) (x : Tree n) → IsVoid n x → places j k n x []
void_placed zero k n x v = (refl, v)
void_placed (suc j) k AnExpr x v = absurd v
void_placed (suc j) k AType x v = absurd v
void_placed (suc j) k Statements x v = let F = λ (w : List Stmt). places (suc j) k Statements w [] in subst F (sym v) (empty_placed j k)
void_placed (suc j) k Negated x v = absurd v
void_placed (suc j) k Procedure x v = absurd v

room_for : (d k D : ℕ) → suc d + k ≤ D → (n : Nest) → empty_of n ≡ false → (x : Tree n) (ts : Tokens) → spells d n x ts → suc (suc k) ≤ D
room_for zero k D h n e x ts s = absurd (none_left zero n refl e x ts s)
room_for (suc d) k D h n e x ts s = omega arith

place : (j d k D : ℕ) → d + k ≤ D → (n : Nest) → Places D (places (up j d) k n) (spells d n)
place j zero k D h n x ts s = ([], s.0, tt, void_placed j k n x s.1)
place j (suc d) k D h n x ts s =
    let near : suc k ≤ D = omega arith in let far : d + suc k ≤ D = omega arith in
    within_as first_of empty_of more_of (spells d) (places (up j d) (suc k)) (suc k) D near (λ m y us w. place j d (suc k) D far m y us w)
    (room_for d k D h) (rule n) (agrees n).one_ahead x ts s

sample_easily : (n : Nest) → Sample (spells (suc zero) n)
sample_easily AnExpr = sample_easy t₀ (spells zero) (rule AnExpr) refl
sample_easily AType = sample_easy t₀ (spells zero) (rule AType) refl
sample_easily Statements = sample_easy t₀ (spells zero) (rule Statements) refl
sample_easily Negated = sample_easy t₀ (spells zero) (rule Negated) refl
sample_easily Procedure = sample_easy t₀ (spells zero) (rule Procedure) refl

sample_of : (j k : ℕ) (n : Nest) → Sampled (places (suc j) k n)
sample_of j k n =
    let a = sample_easily n in
    let all : suc zero + k ≤ suc zero + k = omega arith in
    let w = place j (suc zero) k (suc zero + k) all n a.0 a.1 a.2 in
    (a.0, w.0, w.3)

void_of : (j k : ℕ) (n : Nest) → empty_of n ≡ true → Void (places (suc j) k n)
void_of j k AnExpr h = absurd (false_not_true false refl h)
void_of j k AType h = absurd (false_not_true false refl h)
void_of j k Statements h = (st.Empty ∷ [], empty_placed j k)
void_of j k Negated h = absurd (false_not_true false refl h)
void_of j k Procedure h = absurd (false_not_true false refl h)

-- ---- which tokens begin it

-- the symbols with which what is nested starts, as far as so many levels show
abbrev shown : ℕ → Nest → Set
shown zero n x = false
shown (suc j) n x = first (shown j) empty_of (rule n) x

shown_opens : (j k : ℕ) (n : Nest) → Opens (suc k) (places (suc j) k n) (shown j n)
shown_opens zero k n t h = absurd (false_not_true false refl h)
shown_opens (suc j) k n t h =
    opens_as t₀ (places (suc j) (suc k)) (suc k) (sample_of j (suc k)) (shown j) empty_of (void_of j (suc k))
    (λ m u g. let w = shown_opens j (suc k) m u g in let less : suc k ≤ w.1 = omega (arith, w.3) in (w.0, w.1, w.2, less, w.4)) (rule n) t h

-- two levels show them all, since only a negation stands at a front
all_shown : (n : Nest) → within (first_of n) (shown (suc (suc zero)) n) ≡ true
unfolding every
all_shown AnExpr = refl
all_shown AType = refl
all_shown Statements = refl
all_shown Negated = refl
all_shown Procedure = refl

opens : (k : ℕ) (n : Nest) → Opens (suc k) (places (suc (suc (suc zero))) k n) (first_of n)
opens k n t h = shown_opens (suc (suc zero)) k n t (within_starts (first_of n) (shown (suc (suc zero)) n) (all_shown n) (t ∷ []) h)

-- ---- from level to level

-- with three levels more each token that is too deep goes on
abbrev enough : ℕ → ℕ
enough d = up (suc (suc (suc zero))) d

sample_enough : (d k : ℕ) (n : Nest) → Sampled (places (enough d) k n)
sample_enough zero k n = sample_of (suc (suc zero)) k n
sample_enough (suc d) k n = sample_of (enough d) k n

void_not_deep : {G : Type 0} (n : Nest) (ts r : Tokens) → read_void n ts ≡ fails Deep r → G
void_not_deep AnExpr ts r h = wrong_not_deep {A = Expr} ts r h
void_not_deep AType ts r h = wrong_not_deep {A = TypeNode} ts r h
void_not_deep Statements ts r h = found_not (st.Empty ∷ []) ts r Deep h
void_not_deep Negated ts r h = wrong_not_deep {A = Expr} ts r h
void_not_deep Procedure ts r h = wrong_not_deep {A = Decl} ts r h

at_bound : (d k D : ℕ) → d + k ≡ D → is_full d ≡ true → D ≤ k
at_bound zero k D e f = omega arith
at_bound (suc d) k D e f = absurd (false_not_true false refl f)

more_room : (d k D : ℕ) → d + k ≡ D → is_full d ≡ false → suc k ≤ D
more_room zero k D e f = absurd (false_not_true true f refl)
more_room (suc d) k D e f = omega arith

read_deeper : (d k D : ℕ) → d + k ≡ D → (n : Nest) → Deeper D (places (enough d) k n) (read d n)
read_deeper zero k D q n [] r h = void_not_deep n [] r h
read_deeper zero k D q n (t ∷ ts) r h =
    ⊎_elim
    (λ (c : (starts (first_of n) (t ∷ ts) ≡ true) × (fails {A = Tree n} Deep (t ∷ ts) ≡ Fails Deep r)).
    let e = fails_rest {A = Tree n} Deep Deep (t ∷ ts) r c.1 in let w = opens k n t c.0 in
    record {
      before = [];
      level = w.1;
      token = t;
      behind = w.2;
      rest = ts;
      tree = w.0;
      front = e;
      next = sym e;
      within = tt;
      beyond = omega (arith, w.3);
      placed = w.4;
    })
    (λ c. void_not_deep n (t ∷ ts) r c.1) (chosen (starts (first_of n) (t ∷ ts)) _ _ (Fails Deep r) h)
read_deeper (suc d) k D q n ts r h =
    let near : suc k ≤ D = omega arith in let far : d + suc k ≤ D = omega arith in let same : d + suc k ≡ D = omega arith in
    deeper_as first_of empty_of more_of t₀ (is_full d) (spells d) (read d) (good_read d) (none_left d) (places (enough d) (suc k)) (suc k) D near
    (at_bound d (suc k) D same) (more_room d (suc k) D same) (place (suc (suc (suc zero))) d (suc k) D far) (sample_enough d (suc k)) (read_deeper d (suc k) D same)
    (rule n) (agrees n).one_ahead ts r h

-- ---- the module

whole_deeper : (d : ℕ) → Deeper d (IsPlaced (enough d)) (reads d «module»)
whole_deeper d ts r h =
    let near : zero ≤ d = omega arith in let far : d + zero ≤ d = omega arith in let same : d + zero ≡ d = omega arith in
    deeper_as first_of empty_of more_of t₀ (is_full d) (spells d) (read d) (good_read d) (none_left d) (places (enough d) zero) zero d near
    (at_bound d zero d same) (more_room d zero d same) (place (suc (suc (suc zero))) d zero d far) (sample_enough d zero) (read_deeper d zero d same)
    «module» module_fine ts r h

pub first_too_deep : (d : ℕ) (ts r : Tokens) → reads d «module» ts ≡ Fails Deep r → IsFirstTooDeep d ts r
first_too_deep d ts r h =
    let w = whole_deeper d ts r h in
    (w.before, w.level, w.token, w.behind, w.rest, enough d, w.tree, w.front, w.next, w.within, w.beyond, w.placed)

pub spelled : (j : ℕ) (m : Module) → IsSpelled j m
spelled j m us s = lower_as (places j zero) (spells j) (lower j zero) zero «module» m us s

pub has_places : (d : ℕ) (m : Module) → HasPlaces d m
has_places d m ts s =
    let far : d + zero ≤ d = omega arith in let near : zero ≤ d = omega arith in
    let w = within_as first_of empty_of more_of (spells d) (places (up zero d) zero) zero d near (place zero d zero d far) (module_room d) «module» module_fine m ts s in
    (w.0, up zero d, w.1, w.2, w.3)
  where
    module_room : (d : ℕ) (n : Nest) → empty_of n ≡ false → (x : Tree n) (ts : Tokens) → spells d n x ts → suc zero ≤ d
    module_room zero n e x ts s = absurd (none_left zero n refl e x ts s)
    module_room (suc d) n e x ts s = omega arith

pub next_goes_on : (d : ℕ) (ts r : Tokens) → reads d «module» ts ≡ Fails Deep r → NextGoesOn ts r
next_goes_on d ts r h =
    let w = whole_deeper d ts r h in
    let e : tokens_of (w.before ++ (w.level, w.token) ∷ w.behind) ≡ (tokens_of w.before ++ w.token ∷ []) ++ tokens_of w.behind
    = map-append token_of w.before ((w.level, w.token) ∷ w.behind) ∙ sym (append_assoc (tokens_of w.before) (w.token ∷ []) (tokens_of w.behind)) in
    let K : Tokens → Type 0 = λ z. IsModule (enough d) w.tree z in
    let go = subst K e (spelled (enough d) w.tree (w.before ++ (w.level, w.token) ∷ w.behind) w.placed) in
    (tokens_of w.before, w.token, w.rest, w.front ∙ ap (λ z. tokens_of w.before ++ z) w.next, w.next, (enough d, tokens_of w.behind, w.tree, go))

same_head : (t : Token) (c d r r' : Tokens) → r ≡ t ∷ d → SameNext r r' → SameHead (t ∷ c) r'
same_head t c d r [] e h = let K : Tokens → Type 0 = λ z. SameNext z [] in subst K e h
same_head t c d r (u ∷ r') e h = let K : Tokens → Type 0 = λ z. SameNext z (u ∷ r') in subst K e h

pub none_is_earlier : (d : ℕ) (ts r : Tokens) → reads d «module» ts ≡ Fails Deep r → NoneIsEarlier d ts r
none_is_earlier d ts r h =
    let w = whole_deeper d ts r h in (
      tokens_of w.before,
      w.front,
      λ j m us r' s e n.
          let q = front_places (enough d) j w.tree m w.before w.level w.token w.behind us r' w.placed s e (same_head w.token (tokens_of w.behind) w.rest r r' w.next n) in
          (w.before, q.0, q.1, refl, w.within),
    )

-- ---- a wrong token

void_wrong : (n : Nest) (ts r : Tokens) → read_void n ts ≡ fails Wrong r → ts ≡ r
void_wrong AnExpr ts r h = fails_rest {A = Expr} Wrong Wrong ts r h
void_wrong AType ts r h = fails_rest {A = TypeNode} Wrong Wrong ts r h
void_wrong Statements ts r h = found_not (st.Empty ∷ []) ts r Wrong h
void_wrong Negated ts r h = fails_rest {A = Expr} Wrong Wrong ts r h
void_wrong Procedure ts r h = fails_rest {A = Decl} Wrong Wrong ts r h

read_stops : (d k D : ℕ) → d + k ≡ D → (n : Nest) → Stops D (places (enough d) k n) (read d n)
read_stops zero k D q n [] r h = at_front D (places (enough zero) k n) [] r (sample_enough zero k n) (void_wrong n [] r h)
read_stops zero k D q n (t ∷ ts) r h =
    ⊎_elim
    (λ (c : (starts (first_of n) (t ∷ ts) ≡ true) × (fails {A = Tree n} Deep (t ∷ ts) ≡ Fails Wrong r)). deep_not_wrong {A = Tree n} (t ∷ ts) r c.1)
    (λ c. at_front D (places (enough zero) k n) (t ∷ ts) r (sample_enough zero k n) (void_wrong n (t ∷ ts) r c.1)) (chosen (starts (first_of n) (t ∷ ts)) _ _ (Fails Wrong r) h)
read_stops (suc d) k D q n ts r h =
    let near : suc k ≤ D = omega arith in let far : d + suc k ≤ D = omega arith in let same : d + suc k ≡ D = omega arith in
    stops_as first_of empty_of more_of t₀ (is_full d) (spells d) (read d) (good_read d) (none_left d) (places (enough d) (suc k)) (suc k) D near
    (more_room d (suc k) D same) (place (suc (suc (suc zero))) d (suc k) D far) (sample_enough d (suc k)) (read_stops d (suc k) D same)
    (rule n) (agrees n).one_ahead ts r h

pub wrong_inside : (d : ℕ) (ts r : Tokens) → reads d «module» ts ≡ Fails Wrong r → IsInside d ts r
wrong_inside d ts r h =
    let near : zero ≤ d = omega arith in let far : d + zero ≤ d = omega arith in let same : d + zero ≡ d = omega arith in
    let w = stops_as first_of empty_of more_of t₀ (is_full d) (spells d) (read d) (good_read d) (none_left d) (places (enough d) zero) zero d near
    (more_room d zero d same) (place (suc (suc (suc zero))) d zero d far) (sample_enough d zero) (read_stops d zero d same)
    «module» module_fine ts r h in
    (w.before, w.behind, enough d, w.tree, w.front, w.within, w.placed)
