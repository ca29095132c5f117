-- What is there, and what is not.
use Rattle.std.proofs.Common.{◌≡◌, Option, Some, None}

pub same_some : {A : Type 0} (a b : A) → Some a ≡ Some b → a ≡ b
same_some a b e = cc

pub never : {A B : Type 0} (o : Option A) (a : A) → None ≡ o → o ≡ Some a → B
never None a n e = absurd cc
never (Some b) a n e = absurd cc
