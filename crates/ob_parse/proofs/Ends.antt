-- A module leaves no token.
use Rattle.std.proofs.Common.{◌≡◌, refl, sym, ap, subst, ◌∙◌, [], ◌∷◌, ◌++◌, Result, Ok, Err, IfOk, append_assoc}
use Rattle.ob_tree.specs.declared.symbol.Symbol.TheVariants as s
use Rattle.ob_tree.specs.declared.token.Token.{Token}
use Rattle.ob_tree.specs.declared.decl.Module.{Module}
use Rattle.ob_parse_grammar.specs.Phrase.{Tokens, Nest, Tree, Phrase, both, word, made, Spelling, spells_as}
use Rattle.ob_parse_grammar.specs.Reading.{Found}
use Rattle.ob_parse_grammar.specs.Declarations.{«module»}
use Rattle.ob_parse_grammar.specs.Grammar.{reads, spells}
use Rattle.ob_parse_grammar.proofs.Whole.{good_phrase, module_fine}
use Rattle.ob_parse_grammar.specs.declared.fault.ParseFault.{ParseFault}
use Rattle.ob_parse_grammar.specs.declared.fault.ParseFault.TheVariants as fault
use Rattle.ob_parse_expr.specs.Contract.{Reads}
use Rattle.ob_parse_grammar.specs.Depth.{limit}
use Rattle.ob_parse.specs.Parsed.{EndsOnce, Says}

-- the last of these is the end
abbrev EndsSo : Tokens → Type 0
EndsSo a = (x : Tokens) × (t : Token) × (a ≡ x ++ t ∷ []) × (t.symbol ≡ s.End)

module _ (S : (n : Nest) → Spelling (Tree n)) where
  -- a phrase that the end is the last symbol of
  record Ends {A : Type 0} (p : Phrase A) : Type 0 where
    all : (x : A) (a : Tokens) → spells_as S p x a → EndsSo a

  at_end : Ends (word s.End)
  at_end = record { all = λ t a h. ([], t, h.0, h.1) }

  behind : {A B : Type 0} (p : Phrase A) (q : Phrase B) → Ends q → Ends (both p q)
  behind p q E = record {
    all = λ x a h.
        let e = E.all x.1 h.1 h.4 in
        (h.0 ++ e.0, e.1, h.2 ∙ ap (λ w. h.0 ++ w) e.2 ∙ sym (append_assoc h.0 e.0 (e.1 ∷ [])), e.3);
  }

  in_made : {A B : Type 0} (f : A → B) (p : Phrase A) → Ends p → Ends (made f p)
  in_made f p E = record { all = λ y a h. E.all h.0 a h.2 }

  module_ends : Ends «module»
  module_ends = in_made _ _ (behind _ _ (behind _ _ (behind _ _ (behind _ _ (behind _ _ (behind _ _ (behind _ _ (behind _ _ (behind _ _ at_end)))))))))

last_end : (x : Tokens) (t : Token) (r : Tokens) → t.symbol ≡ s.End → EndsOnce (x ++ t ∷ r) → r ≡ []
last_end [] t [] e h = refl
last_end [] t (u ∷ us) e h = absurd (h.0 e)
last_end (y ∷ []) t r e h = last_end [] t r e h.1
last_end (y ∷ z ∷ zs) t r e h = last_end (z ∷ zs) t r e h.1

-- a module that is read has the end before the tokens that are left
pub ends_before : (ts : Tokens) (m : Module) (r : Tokens) → reads limit «module» ts ≡ Found m r → (x : Tokens) × (t : Token) × (ts ≡ x ++ t ∷ r) × (t.symbol ≡ s.End)
ends_before ts m r q =
    let v = (good_phrase limit «module» module_fine).sound ts m r q in
    let e = (module_ends (spells limit)).all m v.0 v.2 in
    (e.0, e.1, v.1 ∙ ap (λ w. w ++ r) e.2 ∙ append_assoc e.0 (e.1 ∷ []) r, e.3)

none_left : (ts : Tokens) (m : Module) (r : Tokens) → EndsOnce ts → reads limit «module» ts ≡ Found m r → r ≡ []
none_left ts m r once q = let e = ends_before ts m r q in last_end e.0 e.1 r e.3 (subst EndsOnce e.2 once)

pub says : (ts : Tokens) (r : Result Module ParseFault) (new : Tokens) → EndsOnce ts → Reads (reads limit «module» ts) r new → Says r ts
says ts (Ok m) new once h = h ∙ ap (λ w. Found m w) (none_left ts m new once h)
says ts (Err fault.Memory) new once h = tt
says ts (Err (fault.Syntax pos)) new once h = h
says ts (Err (fault.TooDeep pos)) new once h = h

pub leaves_none : (ts : Tokens) (r : Result Module ParseFault) (new : Tokens) → EndsOnce ts → Reads (reads limit «module» ts) r new → IfOk r (λ m. new ≡ [])
leaves_none ts (Ok m) new once h = none_left ts m new once h
leaves_none ts (Err f) new once h = tt
