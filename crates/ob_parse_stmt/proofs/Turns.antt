-- What is repeated takes a token each time; and where an item fails, the whole does.
use Rattle.std.proofs.Common.{◌≡◌, refl, ap, ◌∙◌, sym, subst, ℕ, true, List, Result, Ok, Err}
use Rattle.std.specs.Result.{IsErrAnd}
use Rattle.ob_tree.specs.declared.symbol.Symbol.TheVariants as s
use Rattle.ob_parse_grammar.specs.Phrase.{Tokens, Phrase}
use Rattle.ob_parse_grammar.specs.Reading.{Read, Wrong, Deep, starts}
use Rattle.ob_parse_grammar.specs.Expressions.{next_of}
use Rattle.ob_parse_grammar.specs.Statements as spec
use Rattle.ob_parse_grammar.specs.Grammar.{reads, begins}
use Rattle.ob_parse_grammar.proofs.Fine.{every}
use Rattle.ob_parse_grammar.proofs.Local.{Takes}
use Rattle.ob_parse_grammar.proofs.Loops.{takes, many_fails, GoesOn, after}
use Rattle.ob_parse_grammar.specs.declared.fault.ParseFault.{ParseFault}
use Rattle.ob_parse_grammar.specs.declared.fault.ParseFault.TheVariants as fault
use Rattle.ob_parse_expr.specs.Contract.{FailsAs, Reads}

pub takes_statement : (d : ℕ) → Takes (begins (next_of s.Semicolon spec.statement)) (reads d (next_of s.Semicolon spec.statement))
unfolding every
takes_statement d = takes d (next_of s.Semicolon spec.statement) refl refl

pub takes_branch : (d : ℕ) → Takes (begins (next_of s.KwElsif spec.branch)) (reads d (next_of s.KwElsif spec.branch))
unfolding every
takes_branch d = takes d (next_of s.KwElsif spec.branch) refl refl

pub takes_case : (d : ℕ) → Takes (begins (next_of s.Bar spec.case_branch)) (reads d (next_of s.Bar spec.case_branch))
unfolding every
takes_case d = takes d (next_of s.Bar spec.case_branch) refl refl

pub takes_guarded : (d : ℕ) → Takes (begins (next_of s.Bar spec.guarded)) (reads d (next_of s.Bar spec.guarded))
unfolding every
takes_guarded d = takes d (next_of s.Bar spec.guarded) refl refl

-- where an item fails, the whole does
pub fails_on : {A : Type 0} (d : ℕ) (p : Phrase A) (T : Takes (begins p) (reads d p)) (whole : Read (List A)) (xs : List A) (ts : Tokens) (e : ParseFault)
    → GoesOn whole d p xs ts → starts (begins p) ts ≡ true → FailsAs e (reads d p ts) → FailsAs e whole
fails_on d p T whole xs ts fault.Memory g st h = tt
fails_on d p T whole xs ts (fault.Syntax pos) g st h = (h.0, g ∙ ap (after xs) (many_fails (begins p) (reads d p) T ts Wrong h.0 st h.1), h.2)
fails_on d p T whole xs ts (fault.TooDeep pos) g st h = (h.0, g ∙ ap (after xs) (many_fails (begins p) (reads d p) T ts Deep h.0 st h.1), h.2)

pub fails_by : {A : Type 0} (d : ℕ) (p : Phrase A) (T : Takes (begins p) (reads d p)) (whole : Read (List A)) (xs : List A) (ts : Tokens) (e : ParseFault) (r : Result (List A) ParseFault) (new : Tokens)
    → GoesOn whole d p xs ts → starts (begins p) ts ≡ true → FailsAs e (reads d p ts) → IsErrAnd r (λ f. f ≡ e) → Reads whole r new
fails_by d p T whole xs ts e (Ok x) new g st h q = absurd q
fails_by {A} d p T whole xs ts e (Err f) new g st h q =
    fails_on d p T whole xs ts f g st (let P : ParseFault → Type 0 = λ x. FailsAs x (reads d p ts) in subst P (sym q) h)
