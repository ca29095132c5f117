use Rattle.ob_parse_text.proofs.One.{same_lexemes, one_answer}
use Rattle.ob_parse_text.proofs.law.answers_are_one.Goals as goal

pub returns-clause-tokens : goal.returns-clause-tokens
returns-clause-tokens c = λ i ts us h g. same_lexemes i ts us h g

pub returns-clause-answer : goal.returns-clause-answer
returns-clause-answer c = λ i r q. one_answer i r q
