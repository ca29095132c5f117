use Rattle.std.proofs.Common.{◌≡◌, ◌<◌, ◌++◌, ◌∷◌, [], IsOk, length, vec_len, vec_capacity, sym, subst, refl, ◌∙◌, arith}
use Rattle.ob_link.specs.Index.{IsIndexed}
use Rattle.ob_link.proofs.Indexing.{indexed_more, pushed}
use Rattle.ob_link.proofs.names.Names.push.Goals as goal

pub invariant_of-self-2 : goal.invariant_of-self-2
invariant_of-self-2 c =
    let old = c.self.inside.names.items in
    let name : c.in_ok-copy.copy ≡ c.args.name.now = c.in_ok-copy.ensures in
    let room : vec_len c.reserve.new.self < vec_capacity c.reserve.new.self = omega (arith, c.in_ok-reserve.ensures.ok) in
    let ok : IsOk c.push.result = c.push.ensures.succeeds room in
    let names : c.push.new.self.items ≡ old ++ c.args.name.now ∷ [] = c.push.ensures.items ∙ pushed c.push.result _ _ ok ∙ rw (c.reserve.ensures.items, name) refl in
    let number : c.len.result ≡ length old = c.len.ensures ∙ c.reserve.ensures.len ∙ c.self.inside.names.ok.0 in
    subst (IsIndexed c.note.new.self.places) (sym names) (indexed_more c.self.inside.index.places c.note.new.self.places old c.args.name.now c.len.result number c.self.invariant c.in_ok-note.ensures.ok)
