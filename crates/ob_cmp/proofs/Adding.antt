-- Verdicts that are added one after the other.
use Rattle.std.proofs.Common.{◌≡◌, ℕ, Bool, List, [], ◌∷◌, ◌++◌, map, append_assoc, refl, sym, ap, ◌∙◌}
use Rattle.ob_uses.proofs.Leading.{map_join}
use Rattle.ob_cmp.specs.declared.verdict.Kind.{Kind}
use Rattle.ob_cmp.specs.declared.verdict.Verdict.{Verdict}
use Rattle.ob_cmp.specs.Verdicts.{verdict_of}

pub both_kinds : (x : List ℕ) (a b : List Kind) (v0 v1 v2 : List Verdict) → v1 ≡ v0 ++ map (verdict_of x) a → v2 ≡ v1 ++ map (verdict_of x) b → v2 ≡ v0 ++ map (verdict_of x) (a ++ b)
both_kinds x a b v0 v1 v2 h k = k ∙ ap (λ v. v ++ map (verdict_of x) b) h ∙ append_assoc v0 (map (verdict_of x) a) (map (verdict_of x) b) ∙ ap (λ l. v0 ++ l) (sym (map_join (verdict_of x) a b))
