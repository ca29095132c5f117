-- What the bytes of a module's file are read as.
use Rattle.std.proofs.Common.{◌≡◌, ℕ, Bool, true, false, cond, leb, List, length, Option, Some, None, refl}
use Rattle.ob_cmp.specs.Check.{Present, TooLong, There, within}
use Rattle.ob_make.specs.Filing.{bytes_within, onto}

read_if : {X : Type 0} (read : List ℕ → Present X) (b : Bool) (text : List ℕ) → cond b (read text) TooLong ≡ onto read (cond b (There text) TooLong)
read_if read true text = refl
read_if read false text = refl

pub within_is : {X : Type 0} (read : List ℕ → Present X) (o : Option (List ℕ)) → within read o ≡ onto read (bytes_within 16777216 o)
within_is read None = refl
within_is read (Some text) = read_if read (leb (length text) 16777216) text
