-- Behind a make over files, modules are up to date.
use Rattle.std.proofs.Common.{◌≡◌, false, refl, sym, Result, Ok, Err}
use Rattle.std.proofs.lemmas.Bool.{false≢true}
use Rattle.ob_tree.specs.declared.print.Print.{Print}
use Rattle.ob_env_walk.specs.Walk.{symbol_entry}
use Rattle.ob_make.specs.Folder.{source_name}
use Rattle.ob_make.proofs.Fresh.{fresh_is_up_to_date}
use Rattle.ob_compile_model.specs.Compiling as compile
use Rattle.ob_compile_model.specs.Compiling.{Compiled, prints}
use Rattle.ob_shell_model.specs.Folds.{world_from}
use Rattle.ob_shell_model.specs.Making.{make_answer}
use Rattle.ob_shell_model.specs.Bytes.{World, maker, compile_answer, compiled_in, start, answer}
use Rattle.law_make.specs.UpToDate.{BringsUpToDate, MakesBringUpToDate, SessionsBringUpToDate}
use Rattle.law_make.proofs.Turns.{Does, AllDo, up_to_date}
use Rattle.law_make.proofs.From.{comes_so}
use Rattle.law_make.proofs.Does.{does_so}
use Rattle.law_make.proofs.Spelled.{AreSpelled, bytes_spelled, written}
use Rattle.law_make.proofs.Keeping.{written_on, lines_keep}

all_do : AllDo maker (λ w. AreSpelled w.files)
all_do v x ms i s h = go (compiled_in v (v.files (source_name x))) refl h
  where
    go : (r : Result (Compiled Print) (compile.Refusal Print)) → compiled_in v (v.files (source_name x)) ≡ r → (compile_answer v (source_name x) r).refused ≡ false → Does maker v x ms (compile_answer v (source_name x) r).world × AreSpelled (compile_answer v (source_name x) r).world.files
    go (Err r) e h = absurd (false≢true (sym h))
    go (Ok c) e h =
        let w = written v.files i (v.files (source_name x)) c e in
        (does_so v x ms c e w.again (comes_so prints (symbol_entry v.files) x ms c (v.files (source_name x)) s e), written_on v.files (v.files (source_name x)) c e i)

brings : (w : World) → AreSpelled w.files → BringsUpToDate w
brings w i m xs e h x k p = fresh_is_up_to_date (make_answer maker m w).world.files x (up_to_date maker (λ v. AreSpelled v.files) all_do m w xs i e h x k p)

pub makes_bring : MakesBringUpToDate
makes_bring w bytes = brings w (bytes_spelled w.files bytes)

pub sessions_bring : SessionsBringUpToDate
sessions_bring s files past bytes = brings (world_from (answer s) (start s files) 1 past) (lines_keep s (start s files) 1 past (bytes_spelled files bytes))
