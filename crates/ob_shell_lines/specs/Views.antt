-- What a line says, by what the code gives.
use Rattle.ob_shell_lines.specs.declared.lines.LineWords.{LineWords}
use Rattle.ob_shell_lines.specs.declared.lines.LineWords.TheVariants as words
use Rattle.ob_shell_lines.specs.Lines.{Line, Compile, Compare, Check, Show, Make, Demo, Command, Unknown, Nothing}

abbrev pub line_view : LineWords → Line
line_view (words.Compile file) = Compile file.now
line_view (words.Compare old new) = Compare old.now new.now
line_view (words.Check m) = Check m
line_view (words.Show m) = Show m
line_view (words.Make m) = Make m
line_view (words.Demo n) = Demo n
line_view (words.Command m command) = Command m command
line_view words.Unknown = Unknown
line_view words.Nothing = Nothing
