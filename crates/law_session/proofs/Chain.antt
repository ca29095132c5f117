-- What a session leaves is what the next one starts from.
use Rattle.law_session.specs.Chain.{SessionsChain}

pub chain : SessionsChain
chain s next before now old new l script more status h apart = record { library = h.keeps.library; kept = h.keeps.kept; apart = apart }
