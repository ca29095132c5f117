-- The law of makes over kept files.
use Rattle.law_session.proofs.MakesSeen.{orders_seen, turns_same}
use Rattle.law_session.proofs.makes_alike.Goals as goal

pub returns : goal.returns
returns c = λ written w m library kept i. (orders_seen written w library kept m i, λ x j told. turns_same written w library kept x j told m)
