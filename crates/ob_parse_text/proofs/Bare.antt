-- A reading looks at nothing of a token but its symbol, its text and its place.
use Rattle.std.proofs.Common.{◌≡◌, refl, ap, ℕ, zero, suc, Bool, true, false, cond, List, [], ◌∷◌, length, Option, Some, None, is_some}
use Rattle.ob_tree.specs.declared.symbol.Symbol.{Symbol}
use Rattle.ob_tree.specs.declared.symbol.Symbol.TheVariants as s
use Rattle.ob_tree.specs.declared.token.Token.{Token}
use Rattle.ob_tree.specs.declared.ident.Ident.{Ident}
use Rattle.ob_tree.specs.declared.expr.Expr.{Expr}
use Rattle.ob_tree.specs.declared.expr.Expr.TheVariants as variant
use Rattle.ob_tree.specs.declared.expr.Element.{Element}
use Rattle.ob_tree.specs.declared.expr.Designator.{Designator}
use Rattle.ob_tree.specs.declared.stmt.Stmt.{Stmt}
use Rattle.ob_parse_grammar.specs.Phrase.{Tokens, same, Nest, AnExpr, AType, Statements, Negated, Procedure, Tree, Phrase, word, both, made, maybe, many, either, nest, fork}
use Rattle.ob_parse_grammar.specs.Reading.{Read, Found, Fails, Wrong, Deep, ◌>>=◌, Reader, Set, starts, take_word, take_many, read_as}
use Rattle.ob_parse_grammar.specs.Expressions as ex
use Rattle.ob_parse_grammar.specs.Types as ty
use Rattle.ob_parse_grammar.specs.Statements as st
use Rattle.ob_parse_grammar.specs.Declarations as dec
use Rattle.ob_parse_grammar.specs.Grammar.{rule, first_of, empty_of, begins, read_void, is_full, read, reads}

-- a token by its symbol, text and place alone
abbrev pub bare : Token → Token
bare t = record { symbol = t.symbol; text = record { ref_ptr = (0, 0); now = t.text.now }; pos = t.pos }

abbrev pub bares : Tokens → Tokens
bares [] = []
bares (t ∷ ts) = bare t ∷ bares ts

-- what a reading gives where the tokens are bare
abbrev pub seen : {A : Type 0} → (A → A) → Read A → Read A
seen g (Found x r) = Found (g x) (bares r)
seen g (Fails k r) = Fails k (bares r)

-- ---- steps of a reading

bind_seen : {A B : Type 0} (g : A → A) (h : B → B) (u : Read A) (F G : A → Tokens → Read B)
    → ((x : A) (r : Tokens) → F (g x) (bares r) ≡ seen h (G x r)) → (seen g u >>= F) ≡ seen h (u >>= G)
bind_seen g h (Found x r) F G k = k x r
bind_seen g h (Fails e r) F G k = refl

cond_seen : {A : Type 0} (g : A → A) (b : Bool) (u v u' v' : Read A) → u' ≡ seen g u → v' ≡ seen g v → cond b u' v' ≡ seen g (cond b u v)
cond_seen g true u v u' v' e f = e
cond_seen g false u v u' v' e f = f

starts_bare : (f : Set) (ts : Tokens) → starts f (bares ts) ≡ starts f ts
starts_bare f [] = refl
starts_bare f (t ∷ ts) = refl

length_bare : (ts : Tokens) → length (bares ts) ≡ length ts
length_bare [] = refl
length_bare (t ∷ ts) = ap (λ n. suc n) (length_bare ts)

word_seen : (x : Symbol) (ts : Tokens) → take_word x (bares ts) ≡ seen bare (take_word x ts)
word_seen x [] = refl
word_seen x (t ∷ ts) = cond_seen bare (same t.symbol x) (Found t ts) (Fails Wrong (t ∷ ts)) _ _ refl refl

many_seen : {A : Type 0} (k : ℕ) (f : Set) (P : Reader A) → ((ts : Tokens) → P (bares ts) ≡ seen (λ x. x) (P ts))
    → (ts : Tokens) → take_many k f P (bares ts) ≡ seen (λ x. x) (take_many k f P ts)
many_seen zero f P h ts = refl
many_seen {A} (suc k) f P h ts =
    rw (starts_bare f ts) (cond_seen (λ x. x) (starts f ts) (P ts >>= λ x rest. take_many k f P rest >>= λ xs rest'. Found (x ∷ xs) rest') (Found [] ts) _ _ (goes (λ r. many_seen k f P h r)) refl)
  where
    goes : ((r : Tokens) → take_many k f P (bares r) ≡ seen (λ x. x) (take_many k f P r))
        → (P (bares ts) >>= λ x rest. take_many k f P rest >>= λ xs rest'. Found (x ∷ xs) rest') ≡ seen (λ x. x) (P ts >>= λ x rest. take_many k f P rest >>= λ xs rest'. Found (x ∷ xs) rest')
    goes rest = rw (h ts) (bind_seen (λ x. x) (λ x. x) (P ts) _ _ (λ x r. rw (rest r) (bind_seen (λ x. x) (λ x. x) (take_many k f P r) _ _ (λ xs r'. refl))))

-- ---- each phrase, where what is nested is read so

abbrev in_option : {A : Type 0} → (A → A) → Option A → Option A
in_option g None = None
in_option g (Some x) = Some (g x)

module _ (full : Bool) (R : (n : Nest) → Reader (Tree n)) (nested : (n : Nest) (ts : Tokens) → R n (bares ts) ≡ seen (λ x. x) (R n ts)) where
  abbrev reading : {A : Type 0} → Phrase A → Reader A
  reading p ts = read_as first_of empty_of full R p ts

  record Same {A : Type 0} (g : A → A) (p : Phrase A) : Type 0 where
    at : (ts : Tokens) → reading p (bares ts) ≡ seen g (reading p ts)

  -- what it gives has no token inside
  abbrev Clear : {A : Type 0} → Phrase A → Type 0
  Clear p = Same (λ x. x) p

  word_is : (x : Symbol) → Same bare (word x)
  word_is x = record { at = λ ts. word_seen x ts }

  both_is : {A B : Type 0} {g : A → A} {h : B → B} {p : Phrase A} {q : Phrase B} → Same g p → Same h q → Same (λ x. (g x.0, h x.1)) (both p q)
  both_is {g = g} {h = h} {p = p} {q = q} P Q = record {
    at = λ ts. rw (P.at ts) (bind_seen g (λ x. (g x.0, h x.1)) (reading p ts) _ _ (λ x r. rw (Q.at r) (bind_seen h (λ x. (g x.0, h x.1)) (reading q r) _ _ (λ y r'. refl))));
  }

  made_is : {A B : Type 0} {g : A → A} {p : Phrase A} {f : A → B} → Same g p → ((x : A) → f (g x) ≡ f x) → Clear (made f p)
  made_is {g = g} {p = p} {f = f} P e = record {
    at = λ ts. rw (P.at ts) (bind_seen g (λ y. y) (reading p ts) _ _ (λ x r. ap (λ w. Found w (bares r)) (e x)));
  }

  maybe_is : {A : Type 0} {g : A → A} {p : Phrase A} → Same g p → Same (in_option g) (maybe p)
  maybe_is {g = g} {p = p} P = record {
    at = λ ts. rw (starts_bare (begins p) ts) (cond_seen (in_option g) (starts (begins p) ts) _ _ _ _ (rw (P.at ts) (bind_seen g (in_option g) (reading p ts) _ _ (λ x r. refl))) refl);
  }

  maybe_clear : {A : Type 0} {p : Phrase A} → Clear p → Clear (maybe p)
  maybe_clear {p = p} P = record {
    at = λ ts. rw (starts_bare (begins p) ts) (cond_seen (λ x. x) (starts (begins p) ts) _ _ _ _ (rw (P.at ts) (bind_seen (λ x. x) (λ x. x) (reading p ts) _ _ (λ x r. refl))) refl);
  }

  many_is : {A : Type 0} {p : Phrase A} → Clear p → Clear (many p)
  many_is {p = p} P = record { at = λ ts. rw (length_bare ts) (many_seen (length ts) (begins p) (reading p) (λ us. P.at us) ts) }

  either_is : {A : Type 0} {g : A → A} {p q : Phrase A} → Same g p → Same g q → Same g (either p q)
  either_is {g = g} {p = p} P Q = record { at = λ ts. rw (starts_bare (begins p) ts) (cond_seen g (starts (begins p) ts) _ _ _ _ (P.at ts) (Q.at ts)) }

  nest_is : (n : Nest) → Clear (nest n)
  nest_is n = record { at = λ ts. nested n ts }

  fork_is : (x : Symbol) (n : Nest) {p : Phrase (Tree n)} → Clear p → Clear (fork x n p)
  fork_is x n {p} P = record {
    at = λ ts. rw (word_seen x ts) (bind_seen bare (λ x. x) (take_word x ts) _ _
        (λ t r. rw (starts_bare (begins p) r) (cond_seen (λ x. x) (starts (begins p) r) _ _ _ _ (P.at r) (cond_seen (λ x. x) full _ _ _ _ refl (nested n r)))));
  }

  -- ---- what several rules are made with

  next_is : {A : Type 0} (by : Symbol) {p : Phrase A} → Clear p → Clear (ex.next_of by p)
  next_is by P = made_is (both_is (word_is by) P) (λ x. refl)

  separated_is : {A : Type 0} (by : Symbol) {p : Phrase A} → Clear p → Clear (ex.separated by p)
  separated_is by P = made_is (both_is P (many_is (next_is by P))) (λ x. refl)

  optional_is : {A : Type 0} {p : Phrase (List A)} → Clear p → Clear (ex.optional p)
  optional_is P = made_is (maybe_clear P) (λ x. refl)

  -- ---- names

  ident_is : Clear ex.ident
  ident_is = made_is (word_is s.Ident) (λ t. refl)

  ident_def_same : (i : Ident × Option Token) → ex.ident_def_of (i.0, in_option bare i.1) ≡ ex.ident_def_of i
  ident_def_same (i, None) = refl
  ident_def_same (i, Some t) = refl

  ident_def_is : Clear ex.ident_def
  ident_def_is = made_is (both_is ident_is (maybe_is (either_is (word_is s.Star) (word_is s.Minus)))) ident_def_same

  ident_list_is : Clear ex.ident_list
  ident_list_is = separated_is s.Comma ident_def_is

  qualident_is : Clear ex.qualident
  qualident_is = made_is (both_is ident_is (maybe_clear (next_is s.Dot ident_is))) (λ x. refl)

  -- ---- designators and expressions

  expr_nest : Clear (nest AnExpr)
  expr_nest = nest_is AnExpr

  field_is : Clear ex.field
  field_is = made_is (both_is (word_is s.Dot) ident_is) (λ x. refl)

  further_index_is : Clear ex.further_index
  further_index_is = made_is (both_is (word_is s.Comma) expr_nest) (λ x. refl)

  index_is : Clear ex.index
  index_is = made_is (both_is (word_is s.LeftSquare) (both_is expr_nest (both_is (many_is further_index_is) (word_is s.RightSquare)))) (λ x. refl)

  deref_is : Clear ex.deref
  deref_is = made_is (word_is s.Caret) (λ x. refl)

  exprs_is : Clear ex.exprs
  exprs_is = separated_is s.Comma expr_nest

  call_is : Clear ex.call
  call_is = made_is (both_is (word_is s.LeftRound) (both_is (maybe_clear exprs_is) (word_is s.RightRound))) (λ x. refl)

  selectors_is : Clear ex.selectors
  selectors_is = made_is (many_is (either_is field_is (either_is index_is (either_is deref_is call_is)))) (λ x. refl)

  designator_is : Clear ex.designator
  designator_is = made_is (both_is ident_is selectors_is) (λ x. refl)

  element_is : Clear ex.element
  element_is = made_is (both_is expr_nest (maybe_clear (next_is s.DotDot expr_nest))) (λ x. refl)

  elements_is : Clear ex.elements
  elements_is = separated_is s.Comma element_is

  set_is : Clear ex.set
  set_is = made_is (both_is (word_is s.LeftCurly) (both_is (maybe_clear elements_is) (word_is s.RightCurly))) (λ x. refl)

  paren_is : Clear ex.paren
  paren_is = made_is (both_is (word_is s.LeftRound) (both_is expr_nest (word_is s.RightRound))) (λ x. refl)

  int_is : Clear ex.int
  int_is = made_is (word_is s.Int) (λ t. refl)

  char_is : Clear ex.char
  char_is = made_is (word_is s.Char) (λ t. refl)

  string_is : Clear ex.string
  string_is = made_is (word_is s.Str) (λ t. refl)

  nil_is : Clear ex.nil
  nil_is = made_is (word_is s.KwNil) (λ t. refl)

  named_factor_is : Clear (made variant.Designator ex.designator)
  named_factor_is = made_is designator_is (λ x. refl)

  factor_is : Clear ex.factor
  factor_is = either_is named_factor_is (either_is int_is (either_is char_is (either_is string_is (either_is nil_is (either_is set_is (either_is paren_is (nest_is Negated)))))))

  negated_is : Clear ex.negated
  negated_is = made_is (both_is (word_is s.Tilde) factor_is) (λ x. refl)

  mul_op_is : Same bare ex.mul_op
  mul_op_is = either_is (word_is s.Star) (either_is (word_is s.Slash) (either_is (word_is s.KwDiv) (either_is (word_is s.KwMod) (word_is s.Ampersand))))

  add_op_is : Same bare ex.add_op
  add_op_is = either_is (word_is s.Plus) (either_is (word_is s.Minus) (word_is s.KwOr))

  sign_is : Same bare ex.sign_symbol
  sign_is = either_is (word_is s.Plus) (word_is s.Minus)

  relation_is : Same bare ex.relation
  relation_is =
      either_is (word_is s.Equal) (either_is (word_is s.Hash) (either_is (word_is s.Less) (either_is (word_is s.LessEqual)
      (either_is (word_is s.Greater) (either_is (word_is s.GreaterEqual) (either_is (word_is s.KwIn) (word_is s.KwIs)))))))

  mul_tail_is : Clear ex.mul_tail
  mul_tail_is = made_is (both_is mul_op_is factor_is) (λ x. refl)

  term_is : Clear ex.term
  term_is = made_is (both_is factor_is (many_is mul_tail_is)) (λ x. refl)

  signed_same : (a : Option Token × Expr) → ex.signed_of (in_option bare a.0, a.1) ≡ ex.signed_of a
  signed_same (None, a) = refl
  signed_same (Some t, a) = refl

  signed_is : Clear ex.signed
  signed_is = made_is (both_is (maybe_is sign_is) term_is) signed_same

  add_tail_is : Clear ex.add_tail
  add_tail_is = made_is (both_is add_op_is term_is) (λ x. refl)

  simple_is : Clear ex.simple
  simple_is = made_is (both_is signed_is (many_is add_tail_is)) (λ x. refl)

  related_same : (a : Expr × Option (Token × Expr)) → ex.related_of (a.0, in_option (λ b. (bare b.0, b.1)) a.1) ≡ ex.related_of a
  related_same (a, None) = refl
  related_same (a, Some b) = refl

  expr_is : Clear ex.expr
  expr_is = made_is (both_is simple_is (maybe_is (both_is relation_is simple_is))) related_same

  -- ---- types

  type_nest : Clear (nest AType)
  type_nest = nest_is AType

  is_var_same : (o : Option Token) → is_some (in_option bare o) ≡ is_some o
  is_var_same None = refl
  is_var_same (Some t) = refl

  is_var_is : Clear ty.is_var
  is_var_is = made_is (maybe_is (word_is s.KwVar)) is_var_same

  section_is : Clear ty.section
  section_is = made_is (both_is is_var_is (both_is (separated_is s.Comma ident_is) (both_is (word_is s.Colon) type_nest))) (λ x. refl)

  result_type_is : Clear ty.result_type
  result_type_is = maybe_clear (next_is s.Colon qualident_is)

  formal_pars_is : Clear ty.formal_pars
  formal_pars_is =
      made_is (both_is (word_is s.LeftRound) (both_is (optional_is (separated_is s.Semicolon section_is)) (both_is (word_is s.RightRound) result_type_is))) (λ x. refl)

  parameters_is : Clear ty.parameters
  parameters_is = made_is (maybe_clear formal_pars_is) (λ x. refl)

  fields_is : Clear ty.fields
  fields_is = made_is (both_is ident_list_is (both_is (word_is s.Colon) type_nest)) (λ x. refl)

  field_list_is : Clear ty.field_list
  field_list_is = made_is (maybe_clear fields_is) (λ x. refl)

  field_lists_is : Clear ty.field_lists
  field_lists_is = made_is (separated_is s.Semicolon field_list_is) (λ x. refl)

  base_is : Clear ty.base
  base_is = made_is (both_is (word_is s.LeftRound) (both_is qualident_is (word_is s.RightRound))) (λ x. refl)

  array_is : Clear ty.array
  array_is = made_is (both_is (word_is s.KwArray) (both_is (optional_is exprs_is) (both_is (word_is s.KwOf) type_nest))) (λ x. refl)

  record_type_is : Clear ty.record_type
  record_type_is = made_is (both_is (word_is s.KwRecord) (both_is (maybe_clear base_is) (both_is field_lists_is (word_is s.KwEnd)))) (λ x. refl)

  pointer_is : Clear ty.pointer
  pointer_is = made_is (both_is (word_is s.KwPointer) (both_is (word_is s.KwTo) type_nest)) (λ x. refl)

  procedure_type_is : Clear ty.procedure_type
  procedure_type_is = made_is (both_is (word_is s.KwProcedure) parameters_is) (λ x. refl)

  named_is : Clear ty.named
  named_is = made_is qualident_is (λ x. refl)

  type_node_is : Clear ty.type_node
  type_node_is = either_is named_is (either_is array_is (either_is record_type_is (either_is pointer_is procedure_type_is)))

  -- ---- statements

  body_nest : Clear (nest Statements)
  body_nest = nest_is Statements

  plain_same : (x : Designator × Option (Token × Expr)) → st.plain_of (x.0, in_option (λ b. (bare b.0, b.1)) x.1) ≡ st.plain_of x
  plain_same (d, None) = refl
  plain_same (d, Some x) = refl

  plain_is : Clear st.plain
  plain_is = made_is (both_is designator_is (maybe_is (both_is (word_is s.Becomes) expr_nest))) plain_same

  otherwise_is : Clear st.otherwise
  otherwise_is = maybe_clear (next_is s.KwElse body_nest)

  branch_is : Clear st.branch
  branch_is = made_is (both_is expr_nest (both_is (word_is s.KwThen) body_nest)) (λ x. refl)

  choice_is : Clear st.choice
  choice_is =
      made_is (both_is (word_is s.KwIf) (both_is branch_is (both_is (many_is (next_is s.KwElsif branch_is)) (both_is otherwise_is (word_is s.KwEnd))))) (λ x. refl)

  case_same : (o : Option (List Element × (Token × List Stmt))) → st.case_of (in_option (λ x. (x.0, (bare x.1.0, x.1.1))) o) ≡ st.case_of o
  case_same None = refl
  case_same (Some x) = refl

  case_branch_is : Clear st.case_branch
  case_branch_is = made_is (maybe_is (both_is elements_is (both_is (word_is s.Colon) body_nest))) case_same

  case_statement_is : Clear st.case_statement
  case_statement_is =
      made_is (both_is (word_is s.KwCase) (both_is expr_nest (both_is (word_is s.KwOf) (both_is (separated_is s.Bar case_branch_is) (both_is otherwise_is (word_is s.KwEnd)))))) (λ x. refl)

  while_loop_is : Clear st.while_loop
  while_loop_is = made_is (both_is (word_is s.KwWhile) (both_is expr_nest (both_is (word_is s.KwDo) (both_is body_nest (word_is s.KwEnd))))) (λ x. refl)

  repeat_loop_is : Clear st.repeat_loop
  repeat_loop_is = made_is (both_is (word_is s.KwRepeat) (both_is body_nest (both_is (word_is s.KwUntil) expr_nest))) (λ x. refl)

  step_is : Clear st.step
  step_is = maybe_clear (next_is s.KwBy expr_nest)

  for_loop_is : Clear st.for_loop
  for_loop_is =
      made_is
      (both_is (word_is s.KwFor) (both_is ident_is (both_is (word_is s.Becomes) (both_is expr_nest (both_is (word_is s.KwTo) (both_is expr_nest
      (both_is step_is (both_is (word_is s.KwDo) (both_is body_nest (word_is s.KwEnd))))))))))
      (λ x. refl)

  endless_loop_is : Clear st.endless_loop
  endless_loop_is = made_is (both_is (word_is s.KwLoop) (both_is body_nest (word_is s.KwEnd))) (λ x. refl)

  exit_is : Clear st.exit_statement
  exit_is = made_is (word_is s.KwExit) (λ t. refl)

  return_is : Clear st.return_statement
  return_is = made_is (both_is (word_is s.KwReturn) (maybe_clear expr_nest)) (λ x. refl)

  guard_is : Clear st.guard
  guard_is = made_is (both_is qualident_is (both_is (word_is s.Colon) qualident_is)) (λ x. refl)

  guarded_is : Clear st.guarded
  guarded_is = made_is (both_is guard_is (both_is (word_is s.KwDo) body_nest)) (λ x. refl)

  with_is : Clear st.with_statement
  with_is = made_is (both_is (word_is s.KwWith) (both_is (separated_is s.Bar guarded_is) (both_is otherwise_is (word_is s.KwEnd)))) (λ x. refl)

  some_statement_is : Clear st.some_statement
  some_statement_is =
      either_is plain_is (either_is choice_is (either_is case_statement_is (either_is while_loop_is (either_is repeat_loop_is (either_is for_loop_is
      (either_is endless_loop_is (either_is exit_is (either_is return_is with_is))))))))

  statement_is : Clear st.statement
  statement_is = made_is (maybe_clear some_statement_is) (λ x. refl)

  statements_is : Clear st.statements
  statements_is = separated_is s.Semicolon statement_is

  -- ---- declarations

  constant_is : Clear dec.constant
  constant_is = made_is (both_is ident_def_is (both_is (word_is s.Equal) (both_is expr_nest (word_is s.Semicolon)))) (λ x. refl)

  named_type_is : Clear dec.named_type
  named_type_is = made_is (both_is ident_def_is (both_is (word_is s.Equal) (both_is type_nest (word_is s.Semicolon)))) (λ x. refl)

  variables_is : Clear dec.variables
  variables_is = made_is (both_is ident_list_is (both_is (word_is s.Colon) (both_is type_nest (word_is s.Semicolon)))) (λ x. refl)

  block_is : Clear dec.block
  block_is =
      either_is (next_is s.KwConst (many_is constant_is)) (either_is (next_is s.KwType (many_is named_type_is)) (next_is s.KwVar (many_is variables_is)))

  receiver_is : Clear dec.receiver
  receiver_is =
      made_is (both_is (word_is s.LeftRound) (both_is is_var_is (both_is ident_is (both_is (word_is s.Colon) (both_is ident_is (word_is s.RightRound)))))) (λ x. refl)

  heading_is : Clear dec.heading
  heading_is = made_is (both_is (maybe_clear receiver_is) (both_is ident_def_is parameters_is)) (λ x. refl)

  forward_is : Clear dec.forward
  forward_is = made_is (both_is (word_is s.Caret) heading_is) (λ x. refl)

  procedure_item_is : Clear dec.procedure_item
  procedure_item_is = made_is (both_is (fork_is s.KwProcedure Procedure forward_is) (word_is s.Semicolon)) (λ x. refl)

  blocks_is : Clear dec.blocks
  blocks_is = made_is (many_is block_is) (λ x. refl)

  declarations_is : Clear dec.declarations
  declarations_is = made_is (both_is blocks_is (many_is procedure_item_is)) (λ x. refl)

  body_is : Clear dec.body
  body_is = optional_is (next_is s.KwBegin body_nest)

  procedure_is : Clear dec.procedure
  procedure_is =
      made_is (both_is heading_is (both_is (word_is s.Semicolon) (both_is declarations_is (both_is body_is (both_is (word_is s.KwEnd) ident_is))))) (λ x. refl)

  import_item_is : Clear dec.import_item
  import_item_is = made_is (both_is ident_is (maybe_clear (next_is s.Becomes ident_is))) (λ x. refl)

  imports_is : Clear dec.imports
  imports_is = made_is (both_is (word_is s.KwImport) (both_is (separated_is s.Comma import_item_is) (word_is s.Semicolon))) (λ x. refl)

  module_is : Clear dec.«module»
  module_is =
      made_is
      (both_is (word_is s.KwModule) (both_is ident_is (both_is (word_is s.Semicolon) (both_is (optional_is imports_is) (both_is declarations_is (both_is body_is
      (both_is (word_is s.KwEnd) (both_is ident_is (both_is (word_is s.Dot) (word_is s.End))))))))))
      (λ x. refl)

  rule_is : (n : Nest) → Clear (rule n)
  rule_is AnExpr = expr_is
  rule_is AType = type_node_is
  rule_is Statements = statements_is
  rule_is Negated = negated_is
  rule_is Procedure = procedure_is

  rule_seen : (n : Nest) (ts : Tokens) → reading (rule n) (bares ts) ≡ seen (λ x. x) (reading (rule n) ts)
  rule_seen n ts = (rule_is n).at ts

  module_seen : (ts : Tokens) → reading dec.«module» (bares ts) ≡ seen (λ x. x) (reading dec.«module» ts)
  module_seen ts = module_is.at ts

-- ---- within a number of levels

void_seen : (n : Nest) (ts : Tokens) → read_void n (bares ts) ≡ seen (λ x. x) (read_void n ts)
void_seen AnExpr ts = refl
void_seen AType ts = refl
void_seen Statements ts = refl
void_seen Negated ts = refl
void_seen Procedure ts = refl

read_seen : (k : ℕ) (n : Nest) (ts : Tokens) → read k n (bares ts) ≡ seen (λ x. x) (read k n ts)
read_seen zero n ts = rw (starts_bare (first_of n) ts) (cond_seen (λ x. x) (starts (first_of n) ts) (Fails Deep ts) (read_void n ts) _ _ refl (void_seen n ts))
read_seen (suc k) n ts = rule_seen (is_full k) (read k) (λ m us. read_seen k m us) n ts

-- a module is read from bare tokens as from any like them
pub module_read : (k : ℕ) (ts : Tokens) → reads k dec.«module» (bares ts) ≡ seen (λ x. x) (reads k dec.«module» ts)
module_read k ts = module_seen (is_full k) (read k) (λ m us. read_seen k m us) ts
