-- What a line of a session asks.
use Rattle.std.specs.Prelude.{ℕ, List, [], ◌∷◌, Option, Some, None, if◌then◌else◌, codes, bytes_eq}
use Rattle.mlt_event_text.specs.{Forms.only_op, declared.command.Command.Command}
use Rattle.mlt_object_kinds.specs.declared.operation.ObjOp.{ObjOp}
use Rattle.mlt_text_words.specs.Words.{raw_words, words_of}

-- what a word asks that is alone on its line
abbrev pub command_word : List ℕ → Option Command
command_word word =
    if bytes_eq word (codes "begin") then Some Command.Begin
    else (if bytes_eq word (codes "commit") then Some Command.Commit
    else (if bytes_eq word (codes "abort") then Some Command.Abort
    else (if bytes_eq word (codes "quit") then Some Command.Quit else None)))

abbrev pub op_command : Option ObjOp → Command
op_command (Some op) = Command.Op op
op_command None = Command.Other

abbrev pub command_or : Option Command → Command → Command
command_or (Some r) otherwise = r
command_or None otherwise = otherwise

-- what these words ask, where this is what they ask as an operation
abbrev pub asked : List (List ℕ) → Command → Command
asked [] op = Command.Blank
asked (word ∷ []) op = command_or (command_word word) op
asked (word ∷ other ∷ words) op = op

-- what a line asks, without its LF and a CR before it: one of four words, or an operation whose amount is a number
unfoldable pub command_of : List ℕ → Command
command_of line = asked (raw_words line) (op_command (only_op (words_of line)))
