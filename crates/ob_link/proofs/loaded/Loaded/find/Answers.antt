use Rattle.std.proofs.Common.{◌≡◌, List, Some, None, map, sym, ap, subst, ◌∙◌}
use Rattle.std.specs.Prelude.{slice_get}
use Rattle.std.specs.Option.{option_copied}
use Rattle.ob_link.specs.Index.{place_from}
use Rattle.ob_link.specs.Members.{Known, member_named}
use Rattle.ob_link.proofs.Places.{no_member, member_at, placed}
use Rattle.ob_link.proofs.loaded.Loaded.find.Goals as goal

pub returns-in_err-place : goal.returns-in_err-place
returns-in_err-place c =
    let ks = c.self.inside.members.items in
    let name = c.args.name.now in
    let p : place_from 0 (map (λ k. k.name) ks) name ≡ None = placed c.self.inside.names ks c.as_bytes.result.now name None c.self.invariant.0 c.as_bytes.ensures c.in_err-place.ensures in
    ap option_copied c.from_residual.ensures ∙ sym (subst (λ (l : List Known). member_named name l ≡ None) c.self.view_is (no_member name ks p))

pub returns : goal.returns
returns c =
    let ks = c.self.inside.members.items in
    let name = c.args.name.now in
    let p : place_from 0 (map (λ k. k.name) ks) name ≡ Some c.in_ok-place.place = placed c.self.inside.names ks c.as_bytes.result.now name (Some c.in_ok-place.place) c.self.invariant.0 c.as_bytes.ensures c.in_ok-place.ensures in
    let e : slice_get c.deref.result.now c.in_ok-place.place ≡ slice_get ks c.in_ok-place.place = ap (λ (l : List Known). slice_get l c.in_ok-place.place) c.deref.ensures.value in
    c.member_at.ensures ∙ e ∙ sym (subst (λ (l : List Known). member_named name l ≡ slice_get ks c.in_ok-place.place) c.self.view_is (member_at name ks c.in_ok-place.place p))
