use Rattle.ob_cdecl.proofs.BookJoins.{appended_ok}
use Rattle.ob_cdecl.proofs.books.append_notes.Goals as goal

pub returns : goal.returns
returns c n e = appended_ok c.append-4.result c.args.book.now c.args.other c.earlier-book.result c.append.new.self c.append-2.new.self c.append-3.new.self c.append-4.new.self n e c.earlier-book.ensures c.in_ok-append.ensures.ok c.in_ok-append-2.ensures.ok c.in_ok-append-3.ensures.ok c.append-4.ensures.ok
