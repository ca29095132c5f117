use Rattle.std.proofs.Common.{◌≡◌, sym, ap, ◌∙◌, None, Some}
use Rattle.std.specs.Option.{option_copied, option_map}
use Rattle.std.proofs.lemmas.Result.{IfOk-weaker}
use Rattle.ob_rules.specs.Shapes.{own_member, base_record}
use Rattle.ob_cexpr_name.specs.Members.{member_seen}
use Rattle.ob_cexpr_name.proofs.MemberLaws.{goes_up}
use Rattle.ob_cexpr_name.proofs.shapes.+member_within.Goals as goal

pub returns-in-Some-base_record : goal.returns-in-Some-base_record
returns-in-Some-base_record g t c =
    let map = g.T.Types.types c.args.types.now in
    let q = c.args.owner.now in
    let x = c.args.name.now in
    let none : None ≡ own_member q (map q) x = ap (option_map member_seen) (sym c.in-None.is) ∙ c.in_ok-found.ensures ∙ ap (λ d. own_member q d x) c.desc_of.ensures in
    let base : Some c.in-Some-base_record.base.now ≡ base_record map q = ap option_copied (sym c.in-Some-base_record.is) ∙ c.base_record.ensures in
    IfOk-weaker c.member_within.result _ _ (λ r h. goes_up map c.args.left q c.in-Some-base_record.base.now x (option_map member_seen r) c.if-left-eq0.false none base h) c.member_within.ensures
