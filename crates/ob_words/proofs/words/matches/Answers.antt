use Rattle.std.proofs.Common.{rules, ◌≡◌, ap, ap₂, ◌∙◌, refl, codes, map, List}
use Rattle.std.specs.Prelude.{true}
use Rattle.clap.specs.Words.{Text, app_of, new_app, rule_of, with_rule}
use Rattle.clap.specs.declared.builder.command.Command.{Command}
use Rattle.clap.specs.declared.builder.command.Command.TheOpen.{Command-F}
use Rattle.clap.specs.Simple.{app_of_fields}
use Rattle.ob_words.specs.Settings.{oberon, option_named, without_flags}
use Rattle.ob_words.proofs.Parses.{takes_so, fails_so}
use Rattle.ob_words.proofs.words.matches.Goals as goal

pub returns-clause-ok : goal.returns-clause-ok
returns-clause-ok c =
    let turns_is : rule_of c.action-turns.result ≡ option_named (codes "turns") = search rules in
    let heap_is : rule_of c.action-heap.result ≡ option_named (codes "heap") = search rules in
    let base : app_of c.disable_version_flag.result ≡ without_flags (new_app (codes "oberon")) =
    ap app_of_fields (c.disable_version_flag.ensures ∙ ap (λ (f : Command-F Command). record f { disable_version_flag = true }) (c.disable_help_flag.ensures ∙ ap (λ (f : Command-F Command). record f { disable_help_flag = true }) c.no_binary_name.ensures)) ∙ ap without_flags c.new-3.ensures.app in
    let is : app_of c.in_ok-command.command ≡ oberon = c.in_ok-command.ensures.shape (search rules) ∙ ap₂ with_rule (c.in_ok-arg.ensures.shape (search rules) ∙ ap₂ with_rule base turns_is) heap_is in
    let parse = c.try_get_matches_from in
    takes_so _ _ _ parse.result is refl parse.ensures.matches parse.ensures.kinds

pub returns-clause-err : goal.returns-clause-err
returns-clause-err c =
    let turns_is : rule_of c.action-turns.result ≡ option_named (codes "turns") = search rules in
    let heap_is : rule_of c.action-heap.result ≡ option_named (codes "heap") = search rules in
    let base : app_of c.disable_version_flag.result ≡ without_flags (new_app (codes "oberon")) =
    ap app_of_fields (c.disable_version_flag.ensures ∙ ap (λ (f : Command-F Command). record f { disable_version_flag = true }) (c.disable_help_flag.ensures ∙ ap (λ (f : Command-F Command). record f { disable_help_flag = true }) c.no_binary_name.ensures)) ∙ ap without_flags c.new-3.ensures.app in
    let is : app_of c.in_ok-command.command ≡ oberon = c.in_ok-command.ensures.shape (search rules) ∙ ap₂ with_rule (c.in_ok-arg.ensures.shape (search rules) ∙ ap₂ with_rule base turns_is) heap_is in
    let parse = c.try_get_matches_from in
    fails_so _ _ _ parse.result is refl parse.ensures.kinds
