-- What compiles is written, where what is left is seen of its module.
use Rattle.std.proofs.Common.{sym}
use Rattle.law_names_compiled.proofs.Compiled.{compiled_types_differ}
use Rattle.law_spelling.proofs.Compiled.{compiled_written}
use Rattle.law_spelling_values.specs.Left.{LeftAreWritten}
use Rattle.law_spelling_values.proofs.Compiled.{compiled_in_range}
use Rattle.law_spelling_values.proofs.Bodies.{compiled_coded}
use Rattle.law_spelling_values.proofs.Outward.{compiled_named}
use Rattle.law_spelling_values.proofs.Numbered.{compiled_numbered}

pub left_written : LeftAreWritten
left_written entry entries source c is spelled left =
    let r = compiled_in_range entry entries source c is spelled in
    let differ = compiled_types_differ entry (λ m f e. sym (entries m f e)) source c is in
    let coded = compiled_coded entry entries source c is spelled differ (record { lengths = r.lengths; grounded = left.grounded }) in
    compiled_written entry entries source c is spelled (record {
      short = left.short;
      differ = differ;
      lengths = r.lengths;
      constants = r.constants;
      procedures = compiled_named entry entries source c is differ;
      grounded = left.grounded;
      bodies = coded.bodies;
      body = coded.body;
      bases = left.bases;
      numbers = compiled_numbered entry entries source c is differ left.grounded;
    })
