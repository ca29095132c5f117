use Rattle.std.proofs.Common.{◌≡◌, ◌<◌, List, sym, subst, arith}
use Rattle.ob_obj.specs.declared.parts.StringConst.{StringConst}
use Rattle.ob_obj.specs.Grammar.{words_of}
use Rattle.ob_link.proofs.Fits.{few_words}
use Rattle.ob_link.proofs.member.global_words.Goals as goal

pub string_words-requires : goal.string_words-requires
string_words-requires c =
    let few = few_words c.args.file.now c.requires in
    let small : words_of c.args.file.now.globals.strings < 4294967296 = omega (arith, few) in
    subst (λ (l : List StringConst). words_of l < 4294967296) (sym c.as_slice.ensures) small

pub overflow_add-result : goal.overflow_add-result
overflow_add-result c =
    let few = few_words c.args.file.now c.requires in
    let same : c.string_words.result ≡ words_of c.args.file.now.globals.strings = subst (λ (l : List StringConst). c.string_words.result ≡ words_of l) c.as_slice.ensures c.string_words.ensures in
    omega (arith, few, same)
