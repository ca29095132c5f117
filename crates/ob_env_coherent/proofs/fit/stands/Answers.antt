use Rattle.std.proofs.Common.{◌≡◌, Bool, not, List, sym, ap, subst, ◌∙◌}
use Rattle.std.specs.Prelude.{◌||◌}
use Rattle.ob_types.specs.declared.types.TypeRef.TheVariants as ref
use Rattle.ob_env.specs.Mapped.{map_of}
use Rattle.ob_env.specs.Fit.{is_within}
use Rattle.ob_env_ranks.specs.Marks.{is_marked}
use Rattle.ob_env_coherent.proofs.fit.stands.Goals as goal

pub returns-else-not-describes_type : goal.returns-else-not-describes_type
returns-else-not-describes_type c =
    let m : c.is_name_marked.result ≡ is_within (map_of c.args.env.now) 201 (ref.Named c.args.name.now) = subst (λ (ms : List (List Bool)). c.is_name_marked.result ≡ is_marked c.args.env.now ms (ref.Named c.args.name.now)) c.as_slice.ensures c.is_name_marked.ensures ∙ sym (c.requires (ref.Named c.args.name.now)) in
    m ∙ ap (λ b. not b || is_within (map_of c.args.env.now) 201 (ref.Named c.args.name.now)) c.if-not-describes_type.ensures
