-- What is left gives all that is owed.
use Rattle.law_typing_values.specs.Valued.{values}
use Rattle.law_program_image.proofs.Whole.{builds_stand}
use Rattle.law_program_names.proofs.Different.{modules_differ}
use Rattle.law_load_enter.proofs.Whole.{names_are_shown, words_are_counted, commands_are_there, loaded_fit, loaded_enter}
use Rattle.law_local.proofs.Following.{locality_holds}
use Rattle.law_builds_loaded.proofs.Loaded.{loaded_forms_stay, loaded_values_stay}
use Rattle.law_builds_loaded.proofs.Owing.{loaded_variables, loaded_describe}
use Rattle.law_builds_loaded.proofs.whole_laws.Whole.{loaded_whole}
use Rattle.law_builds_loaded.proofs.whole_laws.Passing.{loaded_passed}
use Rattle.law_builds_loaded.proofs.laying_laws.Loaded.{loaded_laid}
use Rattle.law_builds_methods.proofs.belonging_laws.Loaded.{bound_there}
use Rattle.law_headline.specs.owing_laws.Left.{LeftGives, LeftStands}
use Rattle.law_headline.proofs.owing_laws.Builds.{builds_ruled}

pub left_gives : LeftGives
left_gives l =
    let r = builds_ruled in
    let bound = bound_there l.written r locality_holds in
    record {
      values = values;
      different = modules_differ;
      fits = loaded_fit l.written;
      enterable = loaded_enter l.written l.linked;
      same = l.same;
      described = loaded_describe l.written r bound (loaded_whole r (loaded_passed l.written r)) (loaded_laid l.written r locality_holds);
      rules = l.rules;
      names = names_are_shown;
      words = words_are_counted;
      commands = commands_are_there;
      variables = loaded_variables l.written r bound;
      forms_stay = loaded_forms_stay l.written r;
      values_stay = loaded_values_stay l.written r;
    }

pub left_stands : LeftStands
left_stands l = builds_stand (left_gives l)
