-- A compile over kept files is a compile over the library.
use Rattle.std.proofs.Common.{◌≡◌, Result, Ok, Err, refl, ap, ◌∙◌}
use Rattle.ob_tree.specs.declared.print.Print.{Print}
use Rattle.ob_env.specs.Stale.{Found, AsWanted, IsAbsent, IsChanged, StaleUse}
use Rattle.ob_env_walk.specs.Walk.{Walked, Left, NoInterface, Damaged, Cycle, TooMany, symbol_entry}
use Rattle.ob_compile_model.specs.Compiling as c
use Rattle.ob_compile_model.specs.Compiling.{Compiled, Refusal, compiled, prints, texts}
use Rattle.ob_shell_reports.specs.Texts.{walk_text, unmet_text, compile_reason}
use Rattle.ob_parse_grammar.specs.Identifiers.{is_identifier}
use Rattle.law_prints.specs.Printed.{Text, walked_printed, found_printed, stale_printed, refusal_printed}
use Rattle.law_prints.specs.Alike.{ComeToTheSame}
use Rattle.law_prints.proofs.Law.{alike_among}
use Rattle.ob_shell_model.specs.Model.{interface_in}
use Rattle.law_session.specs.Composing.{SameCompile}
use Rattle.law_session.specs.Kept.{KeptCompilesAlike}
use Rattle.law_session.proofs.Imports.{imports_are_named}
use Rattle.law_session.proofs.SymbolEntries.{entries_same, imports_found}

-- ---- the same reason is printed

walk_same : (w : Walked Text) → walk_text (walked_printed w) ≡ walk_text w
walk_same (Left faces) = refl
walk_same (NoInterface m) = refl
walk_same (Damaged m) = refl
walk_same (Cycle m) = refl
walk_same TooMany = refl

unmet_same : (u : StaleUse Text) (f : Found Text) → unmet_text (stale_printed u) (found_printed f) ≡ unmet_text u f
unmet_same u AsWanted = refl
unmet_same u IsAbsent = refl
unmet_same u (IsChanged k) = refl

reason_same : (q : Refusal Text) → compile_reason (refusal_printed q) ≡ compile_reason q
reason_same c.NoSource = refl
reason_same c.Long = refl
reason_same (c.Unread f) = refl
reason_same (c.Broken b) = refl
reason_same (c.Walk w) = walk_same w
reason_same (c.Unmet u) = unmet_same u u.found
reason_same (c.NoFit q) = refl
reason_same (c.Limit w) = refl

same_compile : (r : Result (Compiled Print) (Refusal Print)) (q : Result (Compiled Text) (Refusal Text)) → ComeToTheSame r q → SameCompile r q
same_compile (Ok c) (Ok d) h = (h.shows, h.object, h.symbol)
same_compile (Err r) (Err q) h = ap compile_reason h ∙ reason_same q
same_compile (Ok c) (Err q) h = h
same_compile (Err r) (Ok d) h = h

pub kept_compiles_alike : KeptCompilesAlike
kept_compiles_alike written files l source library kept told =
    same_compile (compiled prints (symbol_entry files) source) (compiled texts (interface_in l) source)
    (alike_among is_identifier (interface_in l) (symbol_entry files) source
    (record { first = λ text tree e r. imports_are_named text tree r; further = λ m f n e. imports_found written l library m f e })
    (entries_same written files l library kept)
    (λ k t c p. told k t (c.0, c.1, c.2, c.3, c.4, c.5, c.6.0, c.6.1, (c.6.2, c.6.3, c.6.4, c.6.5)) p))
