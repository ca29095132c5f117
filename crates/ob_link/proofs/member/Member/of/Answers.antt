use Rattle.std.proofs.Common.{rules, sym, subst}
use Rattle.ob_link.specs.Members.{IsMember}
use Rattle.ob_link.proofs.Fits.{fits_member, member_is}
use Rattle.ob_link.proofs.member.Member.of.Goals as goal

pub invariant_of-result : goal.invariant_of-result
invariant_of-result c = subst IsMember (sym (member_is c.args.file.now _ _ _ _ _ (search rules) (search rules) (search rules) (search rules) (search rules))) (fits_member c.args.file.now c.requires)
