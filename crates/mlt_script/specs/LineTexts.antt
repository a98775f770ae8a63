-- The texts of the lines of a script.
use Rattle.std.specs.Prelude.{ℕ, List, ◌∷◌, ◌++◌, codes, decimal}
use Rattle.mlt_object_kinds.specs.{declared.operation.ObjReply.ObjReply, declared.operation.ObjReply.TheVariants.Is, Texts.with_number, Texts.op_text, Texts.reply_text}
use Rattle.mlt_text_words.specs.Letters.{letter_text}
use Rattle.mlt_script.specs.declared.statement.{AmountOp.AmountOp, AmountOp.TheVariants.Deposit, AmountOp.TheVariants.Withdraw, AmountOp.TheVariants.Up, AmountOp.TheVariants.Down, Asking.Asking, Asking.TheVariants.Fixed, Asking.TheVariants.By, Wanted.Wanted, Wanted.TheVariants.Reply, Wanted.TheVariants.ValueOf, Source.Source, Source.TheVariants.Balance, Source.TheVariants.Read, Source.TheVariants.Size, Statement.Statement, Statement.TheVariants.Ask, Statement.TheVariants.Need, Statement.TheVariants.Let, Line.Line, Ending.Ending, Ending.TheVariants.Commit, Ending.TheVariants.Abort}

-- words and a word after them, parted by a space
abbrev pub with_word : List ℕ → List ℕ → List ℕ
with_word words word = words ++ 32 ∷ word

-- the text of an operation up to its amount
abbrev pub amount_op_text : AmountOp → List ℕ
amount_op_text (Deposit a) = with_number (codes "deposit") a
amount_op_text (Withdraw a) = with_number (codes "withdraw") a
amount_op_text (Up c) = with_number (codes "up") c
amount_op_text (Down c) = with_number (codes "down") c

-- the text of what a line asks
abbrev pub asking_text : Asking → List ℕ
asking_text (Fixed op) = op_text op
asking_text (By op l) = with_word (amount_op_text op) (letter_text l)

-- a reply word, or the value alone
abbrev pub reply_wanted : ObjReply → List ℕ
reply_wanted (Is v) = decimal v
reply_wanted r = reply_text r

-- the text of what a reply is compared with
abbrev pub wanted_text : Wanted → List ℕ
wanted_text (Reply r) = reply_wanted r
wanted_text (ValueOf l) = letter_text l

-- the text of what a variable is set by
abbrev pub source_text : Source → List ℕ
source_text (Balance a) = with_number (codes "balance") a
source_text (Read c) = with_number (codes "read") c
source_text (Size s) = with_number (codes "size") s

-- the text of a statement of one line
abbrev pub statement_text : Statement → List ℕ
statement_text (Ask a) = asking_text a
statement_text (Need a w) = with_word (with_word (with_word (codes "need") (asking_text a)) (codes "is")) (wanted_text w)
statement_text (Let l s) = with_word (with_word (with_word (codes "let") (letter_text l)) (codes "=")) (source_text s)

-- the text of a line
abbrev pub line_text : Line → List ℕ
line_text (Line.Plain s) = statement_text s
line_text (Line.If a w) = with_word (with_word (with_word (codes "if") (asking_text a)) (codes "is")) (wanted_text w)
line_text Line.Else = codes "else"
line_text Line.End = codes "end"

-- the text of an ending
abbrev pub ending_text : Ending → List ℕ
ending_text Commit = codes "commit"
ending_text Abort = codes "abort"
