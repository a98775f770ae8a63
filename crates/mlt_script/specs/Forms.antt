-- The forms of a line. A function reads from the front of the words, and gives what it read and the words after it.
use Rattle.std.specs.Prelude.{◌≡◌, ℕ, ◌^◌, List, [], ◌∷◌, Option, Some, None, option_and_then, option_map, nat_lt, if◌then◌else◌}
use denote.Ref.{Bor}
use Rattle.mlt_object_kinds.specs.declared.{account.AccountOp.AccountOp, element.ElementOp.ElementOp, counter.CounterOp.CounterOp, operation.ObjOp.ObjOp, operation.ObjOp.TheVariants.Account, operation.ObjOp.TheVariants.Element, operation.ObjOp.TheVariants.Counter, operation.ObjOp.TheVariants.Size, operation.ObjReply.ObjReply}
use Rattle.mlt_script.specs.{declared.forms.LineForm.LineForm, declared.forms.LineForm.TheVariants.Begins, declared.forms.LineForm.TheVariants.Says, declared.forms.LineForm.TheVariants.Closes, declared.statement.AmountOp.AmountOp, declared.statement.Asking.Asking, declared.statement.Asking.TheVariants.Fixed, declared.statement.Asking.TheVariants.By, declared.statement.Wanted.Wanted, declared.statement.Source.Source, declared.statement.Ending.TheVariants.Commit, declared.statement.Ending.TheVariants.Abort, declared.statement.Statement.TheVariants.Ask, declared.statement.Statement.TheVariants.Need, declared.statement.Statement.TheVariants.Let, declared.statement.Line.Line, Amounts.with_amount}
use Rattle.mlt_text_words.specs.{declared.keyword.Keyword.Keyword, declared.keyword.Word.Word, declared.keyword.Word.TheVariants.Key, declared.keyword.Word.TheVariants.Variable, declared.keyword.Word.TheVariants.Number, declared.keyword.Word.TheVariants.Other, declared.letter.Letter.Letter, Words.number_at, Words.words_of, Words.word_at}

infixl 10 ◌>>=◌
abbrev pub ◌>>=◌ : {A B : Type 0} → Option A → (A → Option B) → Option B
o >>= f = option_and_then f o

-- a function of the program gave what is read here, and a text of the words after it
abbrev pub Reads : {A : Type 0} → Option (A × Bor (List ℕ)) → Option (A × List Word) → Type 0
Reads result read = option_map (λ x. (x.0, words_of x.1.now)) result ≡ read

abbrev pub key_in : Word → List Word → Option (Keyword × List Word)
key_in (Key k) rest = Some (k, rest)
key_in w rest = None

-- a keyword
unfoldable pub key_at : List Word → Option (Keyword × List Word)
key_at words = do
  w ← word_at words
  key_in w.0 w.1

abbrev pub number_in : ℕ → Word → List Word → Option (ℕ × List Word)
number_in limit (Number n) rest = if nat_lt n limit then Some (n, rest) else None
number_in limit w rest = None

-- a number below the limit
unfoldable pub number_below : ℕ → List Word → Option (ℕ × List Word)
number_below limit words = do
  w ← word_at words
  number_in limit w.0 w.1

abbrev pub letter_in : Word → List Word → Option (Letter × List Word)
letter_in (Variable l) rest = Some (l, rest)
letter_in w rest = None

-- the name of a variable
unfoldable pub letter_at : List Word → Option (Letter × List Word)
letter_at words = do
  w ← word_at words
  letter_in w.0 w.1

abbrev pub amount_in : AmountOp → Word → List Word → Option (Asking × List Word)
amount_in op (Number n) rest = Some (Fixed (with_amount op n), rest)
amount_in op (Variable l) rest = Some (By op l, rest)
amount_in op w rest = None

-- the amount of an operation: a number, or a variable
unfoldable pub amount_at : AmountOp → List Word → Option (Asking × List Word)
amount_at op words = do
  w ← word_at words
  amount_in op w.0 w.1

-- what is made of a number, where it is below the limit
abbrev pub if_below : {A : Type 0} → ℕ → ℕ → A → Option A
if_below limit n made = if nat_lt n limit then Some made else None

-- an OP of a keyword and one number
unfoldable pub op_of_one : Keyword → ℕ → Option ObjOp
op_of_one Keyword.Open n = if_below (2 ^ 32) n (Account n AccountOp.Open)
op_of_one Keyword.Close n = if_below (2 ^ 32) n (Account n AccountOp.Close)
op_of_one Keyword.Balance n = if_below (2 ^ 32) n (Account n AccountOp.Balance)
op_of_one Keyword.Read n = if_below (2 ^ 32) n (Counter n CounterOp.Read)
op_of_one Keyword.Size n = if_below (2 ^ 16) n (Size n)
op_of_one keyword n = None

-- an OP of a keyword, a number and an amount, without the amount
unfoldable pub op_of_amount : Keyword → ℕ → Option AmountOp
op_of_amount Keyword.Deposit n = if_below (2 ^ 32) n (AmountOp.Deposit n)
op_of_amount Keyword.Withdraw n = if_below (2 ^ 32) n (AmountOp.Withdraw n)
op_of_amount Keyword.Up n = if_below (2 ^ 32) n (AmountOp.Up n)
op_of_amount Keyword.Down n = if_below (2 ^ 32) n (AmountOp.Down n)
op_of_amount keyword n = None

-- what a keyword asks of an element
unfoldable pub element_op : Keyword → Option ElementOp
element_op Keyword.Add = Some ElementOp.Add
element_op Keyword.Remove = Some ElementOp.Remove
element_op Keyword.Has = Some ElementOp.Has
element_op keyword = None

-- an OP of a keyword, a set and an element
unfoldable pub op_of_element : Keyword → ℕ → ℕ → Option ObjOp
op_of_element keyword set number = do
  op ← element_op keyword
  if nat_lt set (2 ^ 16) then if_below (2 ^ 32) number (Element set number op) else None

-- the OP, where the keyword and its first number are all of it, or where an amount follows, or else an element
abbrev pub asking_of : Keyword → ℕ → List Word → Option ObjOp → Option AmountOp → Option (Asking × List Word)
asking_of keyword number words (Some op) by_amount = Some (Fixed op, words)
asking_of keyword number words None (Some op) = amount_at op words
asking_of keyword number words None None = do
  e ← number_at words
  op ← op_of_element keyword number e.0
  Some (Fixed op, e.1)

-- an OP whose first word is the keyword
unfoldable pub asking_at : Keyword → List Word → Option (Asking × List Word)
asking_at keyword words = do
  n ← number_at words
  asking_of keyword n.0 n.1 (op_of_one keyword n.0) (op_of_amount keyword n.0)

abbrev pub fixed : Asking → List Word → Option (ObjOp × List Word)
fixed (Fixed op) rest = Some (op, rest)
fixed (By op l) rest = None

-- the operation that a list of words begins with, its amount a number, and the words after it
unfoldable pub op_at : List Word → Option (ObjOp × List Word)
op_at words = do
  k ← key_at words
  a ← asking_at k.0 k.1
  fixed a.0 a.1

-- a reply of one word
unfoldable pub reply_word : Keyword → Option ObjReply
reply_word Keyword.Opened = Some ObjReply.Opened
reply_word Keyword.Exists = Some ObjReply.Exists
reply_word Keyword.Closed = Some ObjReply.Closed
reply_word Keyword.NotEmpty = Some ObjReply.NotEmpty
reply_word Keyword.Done = Some ObjReply.Done
reply_word Keyword.Over = Some ObjReply.Over
reply_word Keyword.Short = Some ObjReply.Short
reply_word Keyword.Missing = Some ObjReply.Missing
reply_word Keyword.Added = Some ObjReply.Added
reply_word Keyword.Present = Some ObjReply.Present
reply_word Keyword.Removed = Some ObjReply.Removed
reply_word Keyword.Absent = Some ObjReply.Absent
reply_word Keyword.Yes = Some ObjReply.Yes
reply_word Keyword.No = Some ObjReply.No
reply_word keyword = None

abbrev pub with_reply : List Word → Option ObjReply → Option (ObjReply × List Word)
with_reply rest (Some r) = Some (r, rest)
with_reply rest None = None

abbrev pub value_at : List Word → Option (ObjReply × List Word)
value_at words = do
  n ← number_below (2 ^ 64) words
  Some (ObjReply.Is n.0, n.1)

unfoldable pub reply_after : Keyword → List Word → Option (ObjReply × List Word)
reply_after Keyword.Is rest = value_at rest
reply_after keyword rest = with_reply rest (reply_word keyword)

-- the reply that a list of words begins with, a word or `is v`, and the words after it
unfoldable pub reply_at : List Word → Option (ObjReply × List Word)
reply_at words = do
  k ← key_at words
  reply_after k.0 k.1

abbrev pub with_wanted : List Word → Option ObjReply → Option (Wanted × List Word)
with_wanted rest (Some r) = Some (Wanted.Reply r, rest)
with_wanted rest None = None

abbrev pub wanted_in : Word → List Word → Option (Wanted × List Word)
wanted_in (Key keyword) rest = with_wanted rest (reply_word keyword)
wanted_in (Number n) rest = Some (Wanted.Reply (ObjReply.Is n), rest)
wanted_in (Variable l) rest = Some (Wanted.ValueOf l, rest)
wanted_in Other rest = None

-- a REPLY of a script: a reply word, or an amount, which stands for `is v`
unfoldable pub wanted_at : List Word → Option (Wanted × List Word)
wanted_at words = do
  w ← word_at words
  wanted_in w.0 w.1

abbrev pub is_wanted : Asking → Keyword → List Word → Option ((Asking × Wanted) × List Word)
is_wanted a Keyword.Is rest = do
  w ← wanted_at rest
  Some ((a, w.0), w.1)
is_wanted a keyword rest = None

-- OP is REPLY
unfoldable pub asking_is_at : List Word → Option ((Asking × Wanted) × List Word)
asking_is_at words = do
  k ← key_at words
  a ← asking_at k.0 k.1
  i ← key_at a.1
  is_wanted a.0 i.0 i.1

-- the form, where no word is left
abbrev pub finish : LineForm → List Word → Option LineForm
finish form [] = Some form
finish form (w ∷ ws) = None

-- begin, or begin K
unfoldable pub begin_form : List Word → Option LineForm
begin_form [] = Some (Begins 0)
begin_form (w ∷ ws) = do
  c ← number_below 1000 (w ∷ ws)
  finish (Begins c.0) c.1

-- what a variable is set from, whose first word is the keyword
unfoldable pub source_at : Keyword → List Word → Option (Source × List Word)
source_at Keyword.Balance words = do
  a ← number_below (2 ^ 32) words
  Some (Source.Balance a.0, a.1)
source_at Keyword.Read words = do
  c ← number_below (2 ^ 32) words
  Some (Source.Read c.0, c.1)
source_at Keyword.Size words = do
  s ← number_below (2 ^ 16) words
  Some (Source.Size s.0, s.1)
source_at keyword words = None

abbrev pub equals_source : Letter → Keyword → List Word → Option LineForm
equals_source l Keyword.Equals rest = do
  k ← key_at rest
  s ← source_at k.0 k.1
  finish (Says (Line.Plain (Let l s.0))) s.1
equals_source l keyword rest = None

-- let v = balance A, let v = read C, or let v = size S
unfoldable pub let_form : List Word → Option LineForm
let_form words = do
  l ← letter_at words
  k ← key_at l.1
  equals_source l.0 k.0 k.1

unfoldable pub need_form : List Word → Option LineForm
need_form words = do
  a ← asking_is_at words
  finish (Says (Line.Plain (Need a.0.0 a.0.1))) a.1

unfoldable pub if_form : List Word → Option LineForm
if_form words = do
  a ← asking_is_at words
  finish (Says (Line.If a.0.0 a.0.1)) a.1

unfoldable pub ask_form : Keyword → List Word → Option LineForm
ask_form keyword words = do
  a ← asking_at keyword words
  finish (Says (Line.Plain (Ask a.0))) a.1

-- a line whose first word is the keyword
unfoldable pub key_form : Keyword → List Word → Option LineForm
key_form Keyword.Begin rest = begin_form rest
key_form Keyword.Commit rest = finish (Closes Commit) rest
key_form Keyword.Abort rest = finish (Closes Abort) rest
key_form Keyword.Need rest = need_form rest
key_form Keyword.Let rest = let_form rest
key_form Keyword.If rest = if_form rest
key_form Keyword.Else rest = finish (Says Line.Else) rest
key_form Keyword.End rest = finish (Says Line.End) rest
key_form keyword rest = ask_form keyword rest

-- the form of a line of these words, if they are one
unfoldable pub form_of : List Word → Option LineForm
form_of words = do
  k ← key_at words
  key_form k.0 k.1
