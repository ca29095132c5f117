-- From the reading to the verdict.
use Rattle.std.proofs.Common.{◌≡◌, refl, sym, subst, ◌∙◌, ℕ, zero, suc, ◌+◌, Bool, true, false, List, [], ◌∷◌, ◌++◌, None, ◌⊎◌, inl, inr, ⊎_elim, arith, append-nil}
use Rattle.std.proofs.lemmas.List.{append_cancel_right}
use Rattle.ob_tree.specs.declared.symbol.Symbol.{Symbol}
use Rattle.ob_tree.specs.declared.symbol.Symbol.TheVariants as s
use Rattle.ob_tree.specs.declared.token.Token.{Token}
use Rattle.ob_tree.specs.declared.expr.Expr.{Expr}
use Rattle.ob_tree.specs.declared.type_node.TypeNode.{TypeNode}
use Rattle.ob_tree.specs.declared.stmt.Stmt.{Stmt}
use Rattle.ob_tree.specs.declared.stmt.Stmt.TheVariants as st
use Rattle.ob_tree.specs.declared.decl.Decl.{Decl}
use Rattle.ob_tree.specs.declared.decl.Module.{Module}
use Rattle.ob_parse_grammar.specs.Phrase.{Tokens, same, Nest, AnExpr, AType, Statements, Negated, Procedure, Tree}
use Rattle.ob_parse_grammar.specs.Reading.{Fault, Read, Found, Fails, Wrong, Deep, starts, first, may_be_empty}
use Rattle.ob_parse_grammar.specs.Grammar.{rule, spells, read, reads, read_void, first_of, empty_of, is_full}
use Rattle.ob_parse_grammar.specs.Statements.{statement}
use Rattle.ob_parse_grammar.specs.Declarations.{«module»}
use Rattle.ob_parse_grammar.specs.Laws.{IsModule, SameNext, SameNextTwo, CanNotGoOn, CanNotGoOnTwo, IsVerdict, IsReadWhole}
use Rattle.ob_parse_grammar.proofs.Basics.{chosen, false_not_true}
use Rattle.ob_parse_grammar.proofs.Exact.{Good}
use Rattle.ob_parse_grammar.proofs.Fine.{every, more, within, within_stops}
use Rattle.ob_parse_grammar.proofs.Whole.{good_read, good_phrase, more_of, agrees, none_left, module_fine}
use Rattle.ob_parse_grammar.proofs.Local.{Local, Here, local_if, SameHead, SameTwo}
use Rattle.ob_parse_grammar.proofs.Alive.{sample_easy, off, Grows, grows_as, local_as, Raises, raise_as, Sample, Alive, alive_as, fails, fails_rest, found_not}

-- ---- from level to level

raise : (d : ℕ) (n : Nest) → Raises (spells d n) (spells (suc d) n)
raise zero AnExpr x ts v = absurd v.1
raise zero AType x ts v = absurd v.1
raise zero Statements x ts v =
    let K = spells (suc zero) Statements in let e : ts ≡ [] = v.0 in
    let one : spells (suc zero) Statements (st.Empty ∷ []) [] = ((st.Empty, []), refl, ([], [], refl, (None, refl, refl), refl)) in
    let at : spells (suc zero) Statements x [] = (let F = λ (w : List Stmt). spells (suc zero) Statements w [] in subst F (sym v.1) one) in
    let G = spells (suc zero) Statements x in subst G (sym e) at
raise zero Negated x ts v = absurd v.1
raise zero Procedure x ts v = absurd v.1
raise (suc d) n x ts v = raise_as (spells d) (spells (suc d)) (raise d) (rule n) x ts v

raise_by : (j d : ℕ) (n : Nest) → Raises (spells d n) (spells (j + d) n)
raise_by zero d n x ts v = let e : zero + d ≡ d = omega arith in let K : ℕ → Type 0 = λ m. spells m n x ts in subst K (sym e) v
raise_by (suc j) d n x ts v =
    let e : suc j + d ≡ suc (j + d) = omega arith in let K : ℕ → Type 0 = λ m. spells m n x ts in
    subst K (sym e) (raise (j + d) n x ts (raise_by j d n x ts v))

wrong_local : {A : Type 0} → Local (λ ts. fails {A = A} Wrong ts)
wrong_local {A} = record { here = λ ts u h. let K = Here (λ ts. fails {A = A} Wrong ts) ts in subst K h (record { front = []; is = refl; again = λ r s. refl }) }

void_local : (n : Nest) → Local (read_void n)
void_local AnExpr = wrong_local
void_local AType = wrong_local
void_local Statements = record { here = λ ts u h. let K = Here (read_void Statements) ts in subst K h (record { front = []; is = refl; again = λ r s. refl }) }
void_local Negated = wrong_local
void_local Procedure = wrong_local

deep_local : (n : Nest) → Local (λ ts. fails {A = Tree n} Deep ts)
deep_local n = record { here = λ ts u h. let K = Here (λ ts. fails {A = Tree n} Deep ts) ts in subst K h (record { front = []; is = refl; again = λ r s. refl }) }

-- where a rule does not start, it is empty or wrong
zero_off : (n : Nest) (ts : Tokens) → empty_of n ≡ false → starts (first_of n) ts ≡ false → read zero n ts ≡ Fails Wrong ts
zero_off AnExpr ts h e = rw e refl
zero_off AType ts h e = rw e refl
zero_off Statements ts h e = absurd (false_not_true true h refl)
zero_off Negated ts h e = rw e refl
zero_off Procedure ts h e = rw e refl

no_statement : within (first first_of empty_of statement) (first_of Statements) ≡ true
unfolding every
no_statement = refl

off_rule : (n : Nest) (ts : Tokens) → starts (first_of n) ts ≡ false → read (suc zero) n ts ≡ read_void n ts
off_rule AnExpr ts e = off first_of empty_of true (read zero) zero_off (rule AnExpr) refl ts (within_stops _ _ (agrees AnExpr).no_less ts e)
off_rule AType ts e = off first_of empty_of true (read zero) zero_off (rule AType) refl ts (within_stops _ _ (agrees AType).no_less ts e)
off_rule Statements [] e = refl
off_rule Statements (t ∷ ts) e =
    let a = within_stops (first first_of empty_of statement) (first_of Statements) no_statement (t ∷ ts) e in
    let b : same t.symbol s.Semicolon ≡ false = semicolon t.symbol e in
    rw (a, b) refl
  where
    semicolon : (x : Symbol) → first_of Statements x ≡ false → same x s.Semicolon ≡ false
    semicolon s.Semicolon h = absurd (false_not_true true h refl)
    semicolon _ h = refl
off_rule Negated ts e = off first_of empty_of true (read zero) zero_off (rule Negated) refl ts (within_stops _ _ (agrees Negated).no_less ts e)
off_rule Procedure ts e = off first_of empty_of true (read zero) zero_off (rule Procedure) refl ts (within_stops _ _ (agrees Procedure).no_less ts e)

module _ (t₀ : Token) where
  read_local : (d : ℕ) (n : Nest) → Local (read d n)
  read_local zero n = local_if (first_of n) (λ ts. Fails Deep ts) (read_void n) (deep_local n) (void_local n)
  read_local (suc d) n = local_as first_of empty_of more_of t₀ (is_full d) (spells d) (read d) (good_read d) (none_left d) (read_local d) (rule n) (agrees n).one_ahead

  read_grows : (d : ℕ) (n : Nest) → Grows (read d n) (read (suc d) n)
  read_grows zero n ts = by_test (starts (first_of n) ts) refl
    where
      by_test : (b : Bool) → starts (first_of n) ts ≡ b → ((r : Tokens) × (read zero n ts ≡ Fails Deep r)) ⊎ (read (suc zero) n ts ≡ read zero n ts)
      by_test true e = inl (ts, rw e refl)
      by_test false e = inr (off_rule n ts e ∙ rw e refl)
  read_grows (suc d) n ts = grows_as first_of empty_of more_of t₀ (is_full d) (spells d) (read d) (good_read d) (none_left d) false (λ e. refl) (read (suc d)) (λ m us. read_grows d m us) (rule n) ts

  sample_of : (d : ℕ) (n : Nest) → Sample (spells (suc d) n)
  sample_of d AnExpr = sample_easy t₀ (spells d) (rule AnExpr) refl
  sample_of d AType = sample_easy t₀ (spells d) (rule AType) refl
  sample_of d Statements = sample_easy t₀ (spells d) (rule Statements) refl
  sample_of d Negated = sample_easy t₀ (spells d) (rule Negated) refl
  sample_of d Procedure = sample_easy t₀ (spells d) (rule Procedure) refl

  zero_rest : (n : Nest) (ts : Tokens) (k : Fault) (r : Tokens) → read zero n ts ≡ Fails k r → ts ≡ r
  zero_rest n ts k r h = ⊎_elim
      (λ (c : (starts (first_of n) ts ≡ true) × (fails {A = Tree n} Deep ts ≡ Fails k r)). fails_rest {A = Tree n} Deep k ts r c.1)
      (λ c. void_rest n ts k r c.1) (chosen (starts (first_of n) ts) _ _ (Fails k r) h)
    where
      void_rest : (n : Nest) (ts : Tokens) (k : Fault) (r : Tokens) → read_void n ts ≡ fails k r → ts ≡ r
      void_rest AnExpr ts k r h = fails_rest {A = Expr} Wrong k ts r h
      void_rest AType ts k r h = fails_rest {A = TypeNode} Wrong k ts r h
      void_rest Statements ts k r h = found_not (st.Empty ∷ []) ts r k h
      void_rest Negated ts k r h = fails_rest {A = Expr} Wrong k ts r h
      void_rest Procedure ts k r h = fails_rest {A = Decl} Wrong k ts r h

  read_alive : (d : ℕ) (n : Nest) → Alive (spells (suc d) n) (read d n)
  read_alive zero n ts k r h = let w = sample_of zero n in ([], w.1, w.0, zero_rest n ts k r h, w.2)
  read_alive (suc d) n ts k r h =
      alive_as first_of empty_of more_of t₀ (is_full d) (spells d) (read d) (good_read d) (none_left d) (spells (suc d)) (raise d) (sample_of d) (read_alive d) (rule n) (agrees n).one_ahead ts k r h

-- ---- the module

t₀ : Token
t₀ = record { symbol = s.End; text = record { ref_ptr = (0, 0); now = [] }; pos = record { line = 0; col = 0 } }

pub whole_good : (d : ℕ) → Good (IsModule d) (reads d «module») (first first_of empty_of «module») (may_be_empty first_of empty_of «module») (more first_of empty_of more_of «module»)
whole_good d = good_phrase d «module» module_fine

whole_local : (d : ℕ) → Local (reads d «module»)
whole_local d = local_as first_of empty_of more_of t₀ (is_full d) (spells d) (read d) (good_read d) (none_left d) (read_local t₀ d) «module» module_fine

whole_grows : (d : ℕ) → Grows (reads d «module») (reads (suc d) «module»)
whole_grows d ts = grows_as first_of empty_of more_of t₀ (is_full d) (spells d) (read d) (good_read d) (none_left d) false (λ e. refl) (read (suc d)) (λ m us. read_grows t₀ d m us) «module» ts

whole_alive : (d : ℕ) → Alive (IsModule (suc d)) (reads d «module»)
whole_alive d ts k r h = alive_as first_of empty_of more_of t₀ (is_full d) (spells d) (read d) (good_read d) (none_left d) (spells (suc d)) (raise d) (sample_of t₀ d) (read_alive t₀ d) «module» module_fine ts k r h

whole_raise : (j d : ℕ) → Raises (IsModule d) (IsModule (j + d))
whole_raise j d e ts v = raise_as (spells d) (spells (j + d)) (raise_by j d) «module» e ts v

wrong_not_deep : (r r' : Tokens) → fails {A = Module} Deep r ≡ fails Wrong r' → ⊥
wrong_not_deep r r' e = cc

grows_to : (j d : ℕ) (ts r : Tokens) → reads d «module» ts ≡ Fails Wrong r → reads (j + d) «module» ts ≡ Fails Wrong r
grows_to zero d ts r h = let e : zero + d ≡ d = omega arith in let K : ℕ → Type 0 = λ m. reads m «module» ts ≡ Fails Wrong r in subst K (sym e) h
grows_to (suc j) d ts r h =
    let e : suc j + d ≡ suc (j + d) = omega arith in let K : ℕ → Type 0 = λ m. reads m «module» ts ≡ Fails Wrong r in
    let before = grows_to j d ts r h in
    subst K (sym e) (⊎_elim (λ (b : (r' : Tokens) × (reads (j + d) «module» ts ≡ Fails Deep r')). absurd (wrong_not_deep b.0 r (sym b.1 ∙ before))) (λ same'. same' ∙ before) (whole_grows (j + d) ts))

same_next : (r r' : Tokens) → SameNext r r' → SameHead r r'
same_next [] [] h = tt
same_next [] (u ∷ us) h = h
same_next (t ∷ ts) [] h = h
same_next (t ∷ ts) (u ∷ us) h = h

same_two : (r r' : Tokens) → SameNextTwo r r' → SameTwo r r'
same_two [] [] h = tt
same_two [] (u ∷ us) h = h
same_two (t ∷ ts) [] h = h
same_two (t ∷ ts) (u ∷ us) h = (h.0, same_next ts us h.1)

-- read as something and failing is not possible at once
dead : (d : ℕ) (a r' : Tokens) (k : Fault) → reads d «module» (a ++ r') ≡ Fails k r' → (m : Module) → IsModule d m (a ++ r') → ⊥
dead d a r' k again m s =
    let found = (whole_good d).only m (a ++ r') [] s refl in
    let L : Tokens → Type 0 = λ w. reads d «module» w ≡ Found m [] in
    let found' = subst L (append-nil (a ++ r')) found in
    found_not m [] r' k (sym found' ∙ again)

dead_wrong : (d : ℕ) (ts r : Tokens) → reads d «module» ts ≡ Fails Wrong r → (a : Tokens) → ts ≡ a ++ r → CanNotGoOn d a r
dead_wrong d ts r h a q m r' sh s =
    let H = (whole_local d).here ts (Fails Wrong r) h in
    let f : H.front ≡ a = append_cancel_right H.front a r (sym H.is ∙ q) in
    let K : Tokens → Type 0 = λ w. reads d «module» (w ++ r') ≡ Fails Wrong r' in
    dead d a r' Wrong (subst K f (H.again r' (same_next r r' sh))) m s

dead_deep : (d : ℕ) (ts r : Tokens) → reads d «module» ts ≡ Fails Deep r → (a : Tokens) → ts ≡ a ++ r → CanNotGoOnTwo d a r
dead_deep d ts r h a q m r' sh s =
    let H = (whole_local d).here ts (Fails Deep r) h in
    let f : H.front ≡ a = append_cancel_right H.front a r (sym H.is ∙ q) in
    let K : Tokens → Type 0 = λ w. reads d «module» (w ++ r') ≡ Fails Deep r' in
    dead d a r' Deep (subst K f (H.again r' (same_two r r' sh))) m s

pub verdict : (d : ℕ) (ts : Tokens) (u : Read Module) → reads d «module» ts ≡ u → IsVerdict d ts u
verdict d ts (Found m r) h = (whole_good d).sound ts m r h
verdict d ts (Fails Wrong r) h =
    let w = whole_alive d ts Wrong r h in (
      w.0,
      w.3,
      (suc d, w.1, w.2, w.4),
      λ m e r' sh v. let t : d + m ≡ m + d = omega arith in let K : ℕ → Type 0 = λ i. IsModule i e (w.0 ++ r') in
          dead_wrong (m + d) ts r (grows_to m d ts r h) w.0 w.3 e r' sh (subst K t (whole_raise d m e (w.0 ++ r') v)),
    )
verdict d ts (Fails Deep r) h =
    let w = whole_alive d ts Deep r h in
    (w.0, w.3, (suc d, w.1, w.2, w.4), dead_deep d ts r h w.0 w.3)

-- what is a module is read as it
pub read_whole : (d : ℕ) (ts : Tokens) → IsReadWhole d ts (reads d «module» ts)
read_whole d ts m v =
    let found = (whole_good d).only m ts [] v refl in
    let L : Tokens → Type 0 = λ w. reads d «module» w ≡ Found m [] in
    subst L (append-nil ts) found
