use Rattle.std.proofs.Common.{rules, Err}
use Rattle.ob_scan.specs.Scanning.{start_of}
use Rattle.ob_parse_text.proofs.Tokens.{parses, parses_whole}
use Rattle.ob_parse_text.proofs.text.parse_text.Goals as goal

pub returns-in-Ok : goal.returns-in-Ok
returns-in-Ok c = parses_whole (start_of c.args.text.now) c.in-Ok.tree c.of_text-tokens.result c.read_module.new.tokens c.of_text-tokens.ensures c.in-Ok.ensures

pub returns-in-Ok-scan_through : goal.returns-in-Ok-scan_through
returns-in-Ok-scan_through c = (
  search rules,
  parses (start_of c.args.text.now) c.in-Ok-scan_through.ensures.0 (Err c.in-Err.at_token) c.of_text-tokens.result c.in-Ok-scan_through.ensures.1 c.of_text-tokens.ensures c.in-Err.ensures,
)
