use Rattle.std.proofs.Common.{◌≡◌, ◌++◌, List, length, sym, ap, ◌∙◌}
use Rattle.ob_types.specs.declared.face.Interface.{Interface}
use Rattle.ob_env_coherent.proofs.More.{ranked_behind, grown_stands}
use Rattle.ob_env_coherent.proofs.behind.grown_ranks.Goals as goal

pub objects_stand-requires : goal.objects_stand-requires
objects_stand-requires c =
    let same : c.args.faces.now ≡ c.args.before.now ++ c.in_ok-more.more.now = sym c.faces.ensures.faces ∙ c.in_ok-more.ensures ∙ ap (λ (l : List Interface). l ++ c.in_ok-more.more.now) c.faces-2.ensures.faces in
    let few : c.len-known.result ≡ length c.args.before.now = c.if-known-faces.false ∙ ap (λ (l : List Interface). length l) c.faces-3.ensures.faces in
    ranked_behind c.args.faces.now c.args.before.now c.in_ok-more.more.now c.in-Ok.all c.args.heights c.len-known.result same c.requires.ranked c.len-known.ensures few c.in-Ok.ensures (c.rest_keeps.ensures c.if-not-rest_keeps.false)

pub returns : goal.returns
returns c =
    let same : c.args.faces.now ≡ c.args.before.now ++ c.in_ok-more.more.now = sym c.faces.ensures.faces ∙ c.in_ok-more.ensures ∙ ap (λ (l : List Interface). l ++ c.in_ok-more.more.now) c.faces-2.ensures.faces in
    let few : c.len-known.result ≡ length c.args.before.now = c.if-known-faces.false ∙ ap (λ (l : List Interface). length l) c.faces-3.ensures.faces in
    let ranked = ranked_behind c.args.faces.now c.args.before.now c.in_ok-more.more.now c.in-Ok.all c.args.heights c.len-known.result same c.requires.ranked c.len-known.ensures few c.in-Ok.ensures (c.rest_keeps.ensures c.if-not-rest_keeps.false) in
    (grown_stands c.args.faces.now c.args.before.now c.in_ok-more.more.now same c.requires.stand.0 c.requires.stand.1 (c.uses_stand.ensures c.if-not-uses_stand.false) (c.objects_stand.ensures c.if-not-objects_stand.false), ranked)
