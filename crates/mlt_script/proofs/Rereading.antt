-- Printed lines say what they were written for.
use Rattle.std.proofs.Common.{◌≡◌, ℕ, suc, ◌-◌, ◌^◌, ◌<◌, List, [], ◌∷◌, ◌++◌, length, get_or, zero, nat_lt, ◌==◌, ◌&&◌, Bool, true, false, cond, Some, refl, sym, ap, subst, ◌∙◌, append_assoc, arith, decimal, append-nil, lt-ltb}
use Rattle.std.specs.List.{list_all}
use Rattle.mlt_object_kinds.specs.{declared.account.AccountOp.AccountOp, declared.element.ElementOp.ElementOp, declared.counter.CounterOp.CounterOp, declared.operation.ObjOp.ObjOp, declared.operation.ObjOp.TheVariants.Account, declared.operation.ObjOp.TheVariants.Element, declared.operation.ObjOp.TheVariants.Counter, declared.operation.ObjOp.TheVariants.Size, declared.operation.ObjReply.ObjReply, Texts.op_text, Ranges.FitsOp, Ranges.FitsReply}
use Rattle.mlt_script.{specs.declared.forms.LineForm.TheVariants.Begins, specs.declared.forms.LineForm.TheVariants.Says, specs.declared.forms.LineForm.TheVariants.Closes, specs.declared.line.ScriptReading.TheVariants.Form, specs.declared.statement.AmountOp.AmountOp, specs.declared.statement.Asking.Asking, specs.declared.statement.Asking.TheVariants.Fixed, specs.declared.statement.Asking.TheVariants.By, specs.declared.statement.Wanted.Wanted, specs.declared.statement.Source.Source, specs.declared.statement.Statement.TheVariants.Ask, specs.declared.statement.Statement.TheVariants.Need, specs.declared.statement.Statement.TheVariants.Let, specs.declared.statement.Line.Line, specs.declared.statement.Ending.Ending, specs.declared.statement.Ending.TheVariants.Commit, specs.declared.statement.Ending.TheVariants.Abort, specs.Printing.begin_text, specs.Readings.reading, proofs.Saying.says_so}
use Rattle.mlt_text_words.specs.{declared.keyword.Keyword.Keyword, declared.keyword.Word.Word, declared.keyword.Word.TheVariants.Key, declared.keyword.Word.TheVariants.Variable, declared.keyword.Word.TheVariants.Number, declared.letter.Letter.Letter, Lines.without_cr, Lines.is_comment, Letters.letter_text, Words.spelling, Fronts.TextIs, Fronts.is_printable}
use Rattle.mlt_script.specs.Forms.{form_of, key_form, key_at, asking_at, op_of_one, op_of_amount, element_op, op_of_element, number_below, amount_at, op_at, reply_word, wanted_at, asking_is_at, begin_form, let_form, letter_at, source_at, need_form, if_form, ask_form}
use Rattle.mlt_script.specs.LineTexts.{amount_op_text, asking_text, wanted_text, reply_wanted, source_text, line_text, ending_text}
use Rattle.mlt_script.specs.Ranges.{FitsAmount, FitsAsking, FitsWanted, FitsSource, FitsLine}
use Rattle.mlt_text_words.proofs.Pieces.{first_and, beside, at_most, key_text, letter_is, number_is}

-- A printable line without a comment says what its words say.

printable_at : (t : List ℕ) (k : ℕ) → list_all is_printable t ≡ true → k < length t → is_printable (get_or t k 0) ≡ true
printable_at [] k h l = absurd (omega (arith, l))
printable_at (b ∷ t) zero h l = (first_and (is_printable b) (list_all is_printable t) h).0
printable_at (b ∷ t) (suc k) h l = printable_at t k (first_and (is_printable b) (list_all is_printable t) h).1 (omega (arith, l))

no_cr : (b : ℕ) → is_printable b ≡ true → (b == 13) ≡ false
no_cr b h = grind arith

and_false : (a : Bool) → (a && false) ≡ false
and_false true = refl
and_false false = refl

pub keeps_its_end : (t : List ℕ) → list_all is_printable t ≡ true → without_cr t ≡ t
keeps_its_end [] h = refl
keeps_its_end (b ∷ t) h =
    let e : (get_or (b ∷ t) (length (b ∷ t) - 1) 0 == 13) ≡ false = no_cr _ (printable_at (b ∷ t) (length (b ∷ t) - 1) h (omega arith)) in
    rw (e, and_false (nat_lt 0 (length (b ∷ t)))) refl

-- The words of an operation.
abbrev op_key : ObjOp → Keyword
op_key (Account a AccountOp.Open) = Keyword.Open
op_key (Account a AccountOp.Close) = Keyword.Close
op_key (Account a (AccountOp.Deposit n)) = Keyword.Deposit
op_key (Account a (AccountOp.Withdraw n)) = Keyword.Withdraw
op_key (Account a AccountOp.Balance) = Keyword.Balance
op_key (Element s e ElementOp.Add) = Keyword.Add
op_key (Element s e ElementOp.Remove) = Keyword.Remove
op_key (Element s e ElementOp.Has) = Keyword.Has
op_key (Counter c (CounterOp.Up n)) = Keyword.Up
op_key (Counter c (CounterOp.Down n)) = Keyword.Down
op_key (Counter c CounterOp.Read) = Keyword.Read
op_key (Size s) = Keyword.Size

abbrev op_rest : ObjOp → List Word
op_rest (Account a AccountOp.Open) = Number a ∷ []
op_rest (Account a AccountOp.Close) = Number a ∷ []
op_rest (Account a (AccountOp.Deposit n)) = Number a ∷ Number n ∷ []
op_rest (Account a (AccountOp.Withdraw n)) = Number a ∷ Number n ∷ []
op_rest (Account a AccountOp.Balance) = Number a ∷ []
op_rest (Element s e ElementOp.Add) = Number s ∷ Number e ∷ []
op_rest (Element s e ElementOp.Remove) = Number s ∷ Number e ∷ []
op_rest (Element s e ElementOp.Has) = Number s ∷ Number e ∷ []
op_rest (Counter c (CounterOp.Up n)) = Number c ∷ Number n ∷ []
op_rest (Counter c (CounterOp.Down n)) = Number c ∷ Number n ∷ []
op_rest (Counter c CounterOp.Read) = Number c ∷ []
op_rest (Size s) = Number s ∷ []

abbrev amount_key : AmountOp → Keyword
amount_key (AmountOp.Deposit a) = Keyword.Deposit
amount_key (AmountOp.Withdraw a) = Keyword.Withdraw
amount_key (AmountOp.Up c) = Keyword.Up
amount_key (AmountOp.Down c) = Keyword.Down

abbrev amount_rest : AmountOp → List Word
amount_rest (AmountOp.Deposit a) = Number a ∷ []
amount_rest (AmountOp.Withdraw a) = Number a ∷ []
amount_rest (AmountOp.Up c) = Number c ∷ []
amount_rest (AmountOp.Down c) = Number c ∷ []

abbrev asking_key : Asking → Keyword
asking_key (Fixed op) = op_key op
asking_key (By op l) = amount_key op

abbrev asking_rest : Asking → List Word
asking_rest (Fixed op) = op_rest op
asking_rest (By op l) = amount_rest op ++ Variable l ∷ []

-- all of them
abbrev pub op_words : ObjOp → List Word
op_words op = Key (op_key op) ∷ op_rest op

pub op_is : (op : ObjOp) → FitsOp op → TextIs (op_text op) (op_words op) 50
op_is (Account a AccountOp.Open) h = at_most _ _ 29 50 (omega arith) (beside (spelling Keyword.Open) (decimal a) (Key Keyword.Open ∷ []) (Number a ∷ []) 8 20 (key_text Keyword.Open) (number_is a (let p = h.0 in omega (arith, p))))
op_is (Account a AccountOp.Close) h = at_most _ _ 29 50 (omega arith) (beside (spelling Keyword.Close) (decimal a) (Key Keyword.Close ∷ []) (Number a ∷ []) 8 20 (key_text Keyword.Close) (number_is a (let p = h.0 in omega (arith, p))))
op_is (Account a (AccountOp.Deposit n)) h = beside (spelling Keyword.Deposit ++ 32 ∷ decimal a) (decimal n) (Key Keyword.Deposit ∷ Number a ∷ []) (Number n ∷ []) 29 20 (beside (spelling Keyword.Deposit) (decimal a) (Key Keyword.Deposit ∷ []) (Number a ∷ []) 8 20 (key_text Keyword.Deposit) (number_is a (let p = h.0 in omega (arith, p)))) (number_is n (let p = h.1 in omega (arith, p)))
op_is (Account a (AccountOp.Withdraw n)) h = beside (spelling Keyword.Withdraw ++ 32 ∷ decimal a) (decimal n) (Key Keyword.Withdraw ∷ Number a ∷ []) (Number n ∷ []) 29 20 (beside (spelling Keyword.Withdraw) (decimal a) (Key Keyword.Withdraw ∷ []) (Number a ∷ []) 8 20 (key_text Keyword.Withdraw) (number_is a (let p = h.0 in omega (arith, p)))) (number_is n (let p = h.1 in omega (arith, p)))
op_is (Account a AccountOp.Balance) h = at_most _ _ 29 50 (omega arith) (beside (spelling Keyword.Balance) (decimal a) (Key Keyword.Balance ∷ []) (Number a ∷ []) 8 20 (key_text Keyword.Balance) (number_is a (let p = h.0 in omega (arith, p))))
op_is (Element s e ElementOp.Add) h = beside (spelling Keyword.Add ++ 32 ∷ decimal s) (decimal e) (Key Keyword.Add ∷ Number s ∷ []) (Number e ∷ []) 29 20 (beside (spelling Keyword.Add) (decimal s) (Key Keyword.Add ∷ []) (Number s ∷ []) 8 20 (key_text Keyword.Add) (number_is s (let p = h.0 in omega (arith, p)))) (number_is e (let p = h.1 in omega (arith, p)))
op_is (Element s e ElementOp.Remove) h = beside (spelling Keyword.Remove ++ 32 ∷ decimal s) (decimal e) (Key Keyword.Remove ∷ Number s ∷ []) (Number e ∷ []) 29 20 (beside (spelling Keyword.Remove) (decimal s) (Key Keyword.Remove ∷ []) (Number s ∷ []) 8 20 (key_text Keyword.Remove) (number_is s (let p = h.0 in omega (arith, p)))) (number_is e (let p = h.1 in omega (arith, p)))
op_is (Element s e ElementOp.Has) h = beside (spelling Keyword.Has ++ 32 ∷ decimal s) (decimal e) (Key Keyword.Has ∷ Number s ∷ []) (Number e ∷ []) 29 20 (beside (spelling Keyword.Has) (decimal s) (Key Keyword.Has ∷ []) (Number s ∷ []) 8 20 (key_text Keyword.Has) (number_is s (let p = h.0 in omega (arith, p)))) (number_is e (let p = h.1 in omega (arith, p)))
op_is (Counter c (CounterOp.Up n)) h = beside (spelling Keyword.Up ++ 32 ∷ decimal c) (decimal n) (Key Keyword.Up ∷ Number c ∷ []) (Number n ∷ []) 29 20 (beside (spelling Keyword.Up) (decimal c) (Key Keyword.Up ∷ []) (Number c ∷ []) 8 20 (key_text Keyword.Up) (number_is c (let p = h.0 in omega (arith, p)))) (number_is n (let p = h.1 in omega (arith, p)))
op_is (Counter c (CounterOp.Down n)) h = beside (spelling Keyword.Down ++ 32 ∷ decimal c) (decimal n) (Key Keyword.Down ∷ Number c ∷ []) (Number n ∷ []) 29 20 (beside (spelling Keyword.Down) (decimal c) (Key Keyword.Down ∷ []) (Number c ∷ []) 8 20 (key_text Keyword.Down) (number_is c (let p = h.0 in omega (arith, p)))) (number_is n (let p = h.1 in omega (arith, p)))
op_is (Counter c CounterOp.Read) h = at_most _ _ 29 50 (omega arith) (beside (spelling Keyword.Read) (decimal c) (Key Keyword.Read ∷ []) (Number c ∷ []) 8 20 (key_text Keyword.Read) (number_is c (let p = h.0 in omega (arith, p))))
op_is (Size s) h = at_most _ _ 29 50 (omega arith) (beside (spelling Keyword.Size) (decimal s) (Key Keyword.Size ∷ []) (Number s ∷ []) 8 20 (key_text Keyword.Size) (number_is s (omega (arith, h))))

amount_is : (op : AmountOp) → FitsAmount op → TextIs (amount_op_text op) (Key (amount_key op) ∷ amount_rest op) 40
amount_is (AmountOp.Deposit a) h = at_most _ _ 29 40 (omega arith) (beside (spelling Keyword.Deposit) (decimal a) (Key Keyword.Deposit ∷ []) (Number a ∷ []) 8 20 (key_text Keyword.Deposit) (number_is a (omega (arith, h))))
amount_is (AmountOp.Withdraw a) h = at_most _ _ 29 40 (omega arith) (beside (spelling Keyword.Withdraw) (decimal a) (Key Keyword.Withdraw ∷ []) (Number a ∷ []) 8 20 (key_text Keyword.Withdraw) (number_is a (omega (arith, h))))
amount_is (AmountOp.Up c) h = at_most _ _ 29 40 (omega arith) (beside (spelling Keyword.Up) (decimal c) (Key Keyword.Up ∷ []) (Number c ∷ []) 8 20 (key_text Keyword.Up) (number_is c (omega (arith, h))))
amount_is (AmountOp.Down c) h = at_most _ _ 29 40 (omega arith) (beside (spelling Keyword.Down) (decimal c) (Key Keyword.Down ∷ []) (Number c ∷ []) 8 20 (key_text Keyword.Down) (number_is c (omega (arith, h))))

asking_is : (a : Asking) → FitsAsking a → TextIs (asking_text a) (Key (asking_key a) ∷ asking_rest a) 60
asking_is (Fixed op) h = at_most _ _ 50 60 (omega arith) (op_is op h)
asking_is (By op l) h = at_most _ _ 42 60 (omega arith) (beside (amount_op_text op) (letter_text l) (Key (amount_key op) ∷ amount_rest op) (Variable l ∷ []) 40 1 (amount_is op h) (letter_is l))

abbrev reply_of : ObjReply → Word
reply_of (ObjReply.Is v) = Number v
reply_of ObjReply.Opened = Key Keyword.Opened
reply_of ObjReply.Exists = Key Keyword.Exists
reply_of ObjReply.Closed = Key Keyword.Closed
reply_of ObjReply.NotEmpty = Key Keyword.NotEmpty
reply_of ObjReply.Done = Key Keyword.Done
reply_of ObjReply.Over = Key Keyword.Over
reply_of ObjReply.Short = Key Keyword.Short
reply_of ObjReply.Missing = Key Keyword.Missing
reply_of ObjReply.Added = Key Keyword.Added
reply_of ObjReply.Present = Key Keyword.Present
reply_of ObjReply.Removed = Key Keyword.Removed
reply_of ObjReply.Absent = Key Keyword.Absent
reply_of ObjReply.Yes = Key Keyword.Yes
reply_of ObjReply.No = Key Keyword.No

abbrev wanted_of : Wanted → Word
wanted_of (Wanted.Reply r) = reply_of r
wanted_of (Wanted.ValueOf l) = Variable l

reply_is : (r : ObjReply) → FitsReply r → TextIs (reply_wanted r) (reply_of r ∷ []) 20
reply_is (ObjReply.Is v) h = number_is v h
reply_is ObjReply.Opened h = at_most (spelling Keyword.Opened) (Key Keyword.Opened ∷ []) 8 20 (omega arith) (key_text Keyword.Opened)
reply_is ObjReply.Exists h = at_most (spelling Keyword.Exists) (Key Keyword.Exists ∷ []) 8 20 (omega arith) (key_text Keyword.Exists)
reply_is ObjReply.Closed h = at_most (spelling Keyword.Closed) (Key Keyword.Closed ∷ []) 8 20 (omega arith) (key_text Keyword.Closed)
reply_is ObjReply.NotEmpty h = at_most (spelling Keyword.NotEmpty) (Key Keyword.NotEmpty ∷ []) 8 20 (omega arith) (key_text Keyword.NotEmpty)
reply_is ObjReply.Done h = at_most (spelling Keyword.Done) (Key Keyword.Done ∷ []) 8 20 (omega arith) (key_text Keyword.Done)
reply_is ObjReply.Over h = at_most (spelling Keyword.Over) (Key Keyword.Over ∷ []) 8 20 (omega arith) (key_text Keyword.Over)
reply_is ObjReply.Short h = at_most (spelling Keyword.Short) (Key Keyword.Short ∷ []) 8 20 (omega arith) (key_text Keyword.Short)
reply_is ObjReply.Missing h = at_most (spelling Keyword.Missing) (Key Keyword.Missing ∷ []) 8 20 (omega arith) (key_text Keyword.Missing)
reply_is ObjReply.Added h = at_most (spelling Keyword.Added) (Key Keyword.Added ∷ []) 8 20 (omega arith) (key_text Keyword.Added)
reply_is ObjReply.Present h = at_most (spelling Keyword.Present) (Key Keyword.Present ∷ []) 8 20 (omega arith) (key_text Keyword.Present)
reply_is ObjReply.Removed h = at_most (spelling Keyword.Removed) (Key Keyword.Removed ∷ []) 8 20 (omega arith) (key_text Keyword.Removed)
reply_is ObjReply.Absent h = at_most (spelling Keyword.Absent) (Key Keyword.Absent ∷ []) 8 20 (omega arith) (key_text Keyword.Absent)
reply_is ObjReply.Yes h = at_most (spelling Keyword.Yes) (Key Keyword.Yes ∷ []) 8 20 (omega arith) (key_text Keyword.Yes)
reply_is ObjReply.No h = at_most (spelling Keyword.No) (Key Keyword.No ∷ []) 8 20 (omega arith) (key_text Keyword.No)

wanted_is : (w : Wanted) → FitsWanted w → TextIs (wanted_text w) (wanted_of w ∷ []) 20
wanted_is (Wanted.Reply r) h = reply_is r h
wanted_is (Wanted.ValueOf l) h = at_most (letter_text l) (Variable l ∷ []) 1 20 (omega arith) (letter_is l)

-- Their words are read as what they stand for, whatever words follow.
asking_again : (a : Asking) (more : List Word) → FitsAsking a → asking_at (asking_key a) (asking_rest a ++ more) ≡ Some (a, more)
unfolding asking_at op_of_one op_of_amount element_op op_of_element amount_at
asking_again (Fixed (Account a AccountOp.Open)) more h = rw (lt-ltb a (2 ^ 32) h.0) refl
asking_again (Fixed (Account a AccountOp.Close)) more h = rw (lt-ltb a (2 ^ 32) h.0) refl
asking_again (Fixed (Account a (AccountOp.Deposit n))) more h = rw (lt-ltb a (2 ^ 32) h.0) refl
asking_again (Fixed (Account a (AccountOp.Withdraw n))) more h = rw (lt-ltb a (2 ^ 32) h.0) refl
asking_again (Fixed (Account a AccountOp.Balance)) more h = rw (lt-ltb a (2 ^ 32) h.0) refl
asking_again (Fixed (Element s e ElementOp.Add)) more h = rw (lt-ltb s (2 ^ 16) h.0, lt-ltb e (2 ^ 32) h.1) refl
asking_again (Fixed (Element s e ElementOp.Remove)) more h = rw (lt-ltb s (2 ^ 16) h.0, lt-ltb e (2 ^ 32) h.1) refl
asking_again (Fixed (Element s e ElementOp.Has)) more h = rw (lt-ltb s (2 ^ 16) h.0, lt-ltb e (2 ^ 32) h.1) refl
asking_again (Fixed (Counter c (CounterOp.Up n))) more h = rw (lt-ltb c (2 ^ 32) h.0) refl
asking_again (Fixed (Counter c (CounterOp.Down n))) more h = rw (lt-ltb c (2 ^ 32) h.0) refl
asking_again (Fixed (Counter c CounterOp.Read)) more h = rw (lt-ltb c (2 ^ 32) h.0) refl
asking_again (Fixed (Size s)) more h = rw (lt-ltb s (2 ^ 16) h) refl
asking_again (By (AmountOp.Deposit a) l) more h = rw (lt-ltb a (2 ^ 32) h) refl
asking_again (By (AmountOp.Withdraw a) l) more h = rw (lt-ltb a (2 ^ 32) h) refl
asking_again (By (AmountOp.Up c) l) more h = rw (lt-ltb c (2 ^ 32) h) refl
asking_again (By (AmountOp.Down c) l) more h = rw (lt-ltb c (2 ^ 32) h) refl

pub op_again : (op : ObjOp) (more : List Word) → FitsOp op → op_at (op_words op ++ more) ≡ Some (op, more)
unfolding op_at key_at
op_again op more h = rw (asking_again (Fixed op) more h) refl

wanted_again : (w : Wanted) (more : List Word) → wanted_at (wanted_of w ∷ more) ≡ Some (w, more)
unfolding wanted_at reply_word
wanted_again (Wanted.ValueOf l) more = refl
wanted_again (Wanted.Reply (ObjReply.Is v)) more = refl
wanted_again (Wanted.Reply ObjReply.Opened) more = refl
wanted_again (Wanted.Reply ObjReply.Exists) more = refl
wanted_again (Wanted.Reply ObjReply.Closed) more = refl
wanted_again (Wanted.Reply ObjReply.NotEmpty) more = refl
wanted_again (Wanted.Reply ObjReply.Done) more = refl
wanted_again (Wanted.Reply ObjReply.Over) more = refl
wanted_again (Wanted.Reply ObjReply.Short) more = refl
wanted_again (Wanted.Reply ObjReply.Missing) more = refl
wanted_again (Wanted.Reply ObjReply.Added) more = refl
wanted_again (Wanted.Reply ObjReply.Present) more = refl
wanted_again (Wanted.Reply ObjReply.Removed) more = refl
wanted_again (Wanted.Reply ObjReply.Absent) more = refl
wanted_again (Wanted.Reply ObjReply.Yes) more = refl
wanted_again (Wanted.Reply ObjReply.No) more = refl

-- OP is REPLY
abbrev is_words : Asking → Wanted → List Word
is_words a w = Key (asking_key a) ∷ (asking_rest a ++ Key Keyword.Is ∷ wanted_of w ∷ [])

is_again : (a : Asking) (w : Wanted) → FitsAsking a → asking_is_at (is_words a w) ≡ Some ((a, w), [])
unfolding asking_is_at key_at
is_again a w h = rw (asking_again a (Key Keyword.Is ∷ wanted_of w ∷ []) h, wanted_again w []) refl

is_text : (k : Keyword) (a : Asking) (w : Wanted) → FitsAsking a → FitsWanted w
    → TextIs (((spelling k ++ 32 ∷ asking_text a) ++ 32 ∷ spelling Keyword.Is) ++ 32 ∷ wanted_text w) (Key k ∷ is_words a w) 200
is_text k a w h f =
    let t = beside (spelling k) (asking_text a) (Key k ∷ []) (Key (asking_key a) ∷ asking_rest a) 8 60 (key_text k) (asking_is a h) in
    let u = beside (spelling k ++ 32 ∷ asking_text a) (spelling Keyword.Is) (Key k ∷ Key (asking_key a) ∷ asking_rest a) (Key Keyword.Is ∷ []) 69 8 t (key_text Keyword.Is) in
    let v = beside ((spelling k ++ 32 ∷ asking_text a) ++ 32 ∷ spelling Keyword.Is) (wanted_text w) (Key k ∷ Key (asking_key a) ∷ (asking_rest a ++ Key Keyword.Is ∷ [])) (wanted_of w ∷ []) 78 20 u (wanted_is w f) in
    let same : Key k ∷ Key (asking_key a) ∷ ((asking_rest a ++ Key Keyword.Is ∷ []) ++ wanted_of w ∷ []) ≡ Key k ∷ is_words a w =
    ap (λ (ws : List Word). Key k ∷ Key (asking_key a) ∷ ws) (append_assoc (asking_rest a) (Key Keyword.Is ∷ []) (wanted_of w ∷ [])) in
    at_most _ _ 99 200 (omega arith) (subst (λ (ws : List Word). TextIs (((spelling k ++ 32 ∷ asking_text a) ++ 32 ∷ spelling Keyword.Is) ++ 32 ∷ wanted_text w) ws 99) same v)

abbrev source_key : Source → Keyword
source_key (Source.Balance a) = Keyword.Balance
source_key (Source.Read c) = Keyword.Read
source_key (Source.Size s) = Keyword.Size

abbrev source_number : Source → ℕ
source_number (Source.Balance a) = a
source_number (Source.Read c) = c
source_number (Source.Size s) = s

source_is : (s : Source) → FitsSource s → TextIs (source_text s) (Key (source_key s) ∷ Number (source_number s) ∷ []) 29
source_is (Source.Balance a) h = beside (spelling Keyword.Balance) (decimal a) (Key Keyword.Balance ∷ []) (Number a ∷ []) 8 20 (key_text Keyword.Balance) (number_is a (omega (arith, h)))
source_is (Source.Read c) h = beside (spelling Keyword.Read) (decimal c) (Key Keyword.Read ∷ []) (Number c ∷ []) 8 20 (key_text Keyword.Read) (number_is c (omega (arith, h)))
source_is (Source.Size s) h = beside (spelling Keyword.Size) (decimal s) (Key Keyword.Size ∷ []) (Number s ∷ []) 8 20 (key_text Keyword.Size) (number_is s (omega (arith, h)))

source_again : (s : Source) → FitsSource s → source_at (source_key s) (Number (source_number s) ∷ []) ≡ Some (s, [])
unfolding source_at number_below
source_again (Source.Balance a) h = rw (lt-ltb a (2 ^ 32) h) refl
source_again (Source.Read c) h = rw (lt-ltb c (2 ^ 32) h) refl
source_again (Source.Size s) h = rw (lt-ltb s (2 ^ 16) h) refl

let_text : (l : Letter) (s : Source) → FitsSource s
    → TextIs (((spelling Keyword.Let ++ 32 ∷ letter_text l) ++ 32 ∷ spelling Keyword.Equals) ++ 32 ∷ source_text s) (Key Keyword.Let ∷ Variable l ∷ Key Keyword.Equals ∷ Key (source_key s) ∷ Number (source_number s) ∷ []) 200
let_text l s h =
    let t = beside (spelling Keyword.Let) (letter_text l) (Key Keyword.Let ∷ []) (Variable l ∷ []) 8 1 (key_text Keyword.Let) (letter_is l) in
    let u = beside (spelling Keyword.Let ++ 32 ∷ letter_text l) (spelling Keyword.Equals) (Key Keyword.Let ∷ Variable l ∷ []) (Key Keyword.Equals ∷ []) 10 8 t (key_text Keyword.Equals) in
    at_most _ _ 49 200 (omega arith) (beside ((spelling Keyword.Let ++ 32 ∷ letter_text l) ++ 32 ∷ spelling Keyword.Equals) (source_text s) (Key Keyword.Let ∷ Variable l ∷ Key Keyword.Equals ∷ []) (Key (source_key s) ∷ Number (source_number s) ∷ []) 19 29 u (source_is s h))

let_again : (l : Letter) (s : Source) → FitsSource s
    → form_of (Key Keyword.Let ∷ Variable l ∷ Key Keyword.Equals ∷ Key (source_key s) ∷ Number (source_number s) ∷ []) ≡ Some (Says (Line.Plain (Let l s)))
unfolding form_of key_form let_form letter_at key_at
let_again l s h = rw (source_again s h) refl

need_again : (a : Asking) (w : Wanted) → FitsAsking a → form_of (Key Keyword.Need ∷ is_words a w) ≡ Some (Says (Line.Plain (Need a w)))
unfolding form_of key_form need_form key_at
need_again a w h = rw (is_again a w h) refl

if_again : (a : Asking) (w : Wanted) → FitsAsking a → form_of (Key Keyword.If ∷ is_words a w) ≡ Some (Says (Line.If a w))
unfolding form_of key_form if_form key_at
if_again a w h = rw (is_again a w h) refl

keyed_as_asked : (a : Asking) (rest : List Word) → key_form (asking_key a) rest ≡ ask_form (asking_key a) rest
unfolding key_form
keyed_as_asked (Fixed (Account a AccountOp.Open)) rest = refl
keyed_as_asked (Fixed (Account a AccountOp.Close)) rest = refl
keyed_as_asked (Fixed (Account a (AccountOp.Deposit n))) rest = refl
keyed_as_asked (Fixed (Account a (AccountOp.Withdraw n))) rest = refl
keyed_as_asked (Fixed (Account a AccountOp.Balance)) rest = refl
keyed_as_asked (Fixed (Element s e ElementOp.Add)) rest = refl
keyed_as_asked (Fixed (Element s e ElementOp.Remove)) rest = refl
keyed_as_asked (Fixed (Element s e ElementOp.Has)) rest = refl
keyed_as_asked (Fixed (Counter c (CounterOp.Up n))) rest = refl
keyed_as_asked (Fixed (Counter c (CounterOp.Down n))) rest = refl
keyed_as_asked (Fixed (Counter c CounterOp.Read)) rest = refl
keyed_as_asked (Fixed (Size s)) rest = refl
keyed_as_asked (By (AmountOp.Deposit a) l) rest = refl
keyed_as_asked (By (AmountOp.Withdraw a) l) rest = refl
keyed_as_asked (By (AmountOp.Up c) l) rest = refl
keyed_as_asked (By (AmountOp.Down c) l) rest = refl

ask_again : (a : Asking) → FitsAsking a → form_of (Key (asking_key a) ∷ asking_rest a) ≡ Some (Says (Line.Plain (Ask a)))
unfolding form_of ask_form key_at
ask_again a h =
    keyed_as_asked a (asking_rest a)
    ∙ ap (λ (ws : List Word). ask_form (asking_key a) ws) (sym (append-nil (asking_rest a))) ∙ rw (asking_again a [] h) refl

no_comment : (a : Asking) → is_comment (asking_text a) ≡ false
no_comment (Fixed (Account a AccountOp.Open)) = refl
no_comment (Fixed (Account a AccountOp.Close)) = refl
no_comment (Fixed (Account a (AccountOp.Deposit n))) = refl
no_comment (Fixed (Account a (AccountOp.Withdraw n))) = refl
no_comment (Fixed (Account a AccountOp.Balance)) = refl
no_comment (Fixed (Element s e ElementOp.Add)) = refl
no_comment (Fixed (Element s e ElementOp.Remove)) = refl
no_comment (Fixed (Element s e ElementOp.Has)) = refl
no_comment (Fixed (Counter c (CounterOp.Up n))) = refl
no_comment (Fixed (Counter c (CounterOp.Down n))) = refl
no_comment (Fixed (Counter c CounterOp.Read)) = refl
no_comment (Fixed (Size s)) = refl
no_comment (By (AmountOp.Deposit a) l) = refl
no_comment (By (AmountOp.Withdraw a) l) = refl
no_comment (By (AmountOp.Up c) l) = refl
no_comment (By (AmountOp.Down c) l) = refl

else_form : form_of (Key Keyword.Else ∷ []) ≡ Some (Says Line.Else)
unfolding form_of key_form key_at
else_form = refl

end_form : form_of (Key Keyword.End ∷ []) ≡ Some (Says Line.End)
unfolding form_of key_form key_at
end_form = refl

commit_form : form_of (Key Keyword.Commit ∷ []) ≡ Some (Closes Commit)
unfolding form_of key_form key_at
commit_form = refl

abort_form : form_of (Key Keyword.Abort ∷ []) ≡ Some (Closes Abort)
unfolding form_of key_form key_at
abort_form = refl

pub line_again : (l : Line) → FitsLine l → reading record { bytes = line_text l; ended = true } ≡ Form (Says l)
line_again (Line.Plain (Ask a)) h = says_so (asking_text a) (Key (asking_key a)) (asking_rest a) _ (at_most _ _ 60 200 (omega arith) (asking_is a h)) (no_comment a) (ask_again a h)
line_again (Line.Plain (Need a w)) h = says_so _ (Key Keyword.Need) (is_words a w) _ (is_text Keyword.Need a w h.0 h.1) refl (need_again a w h.0)
line_again (Line.Plain (Let l s)) h = says_so _ (Key Keyword.Let) _ _ (let_text l s h) refl (let_again l s h)
line_again (Line.If a w) h = says_so _ (Key Keyword.If) (is_words a w) _ (is_text Keyword.If a w h.0 h.1) refl (if_again a w h.0)
line_again Line.Else h = says_so (spelling Keyword.Else) (Key Keyword.Else) [] (Says Line.Else) (at_most _ _ 8 200 (omega arith) (key_text Keyword.Else)) refl else_form
line_again Line.End h = says_so (spelling Keyword.End) (Key Keyword.End) [] (Says Line.End) (at_most _ _ 8 200 (omega arith) (key_text Keyword.End)) refl end_form

pub line_printable : (l : Line) → FitsLine l → list_all is_printable (line_text l) ≡ true
line_printable (Line.Plain (Ask a)) h = (asking_is a h).1
line_printable (Line.Plain (Need a w)) h = (is_text Keyword.Need a w h.0 h.1).1
line_printable (Line.Plain (Let l s)) h = (let_text l s h).1
line_printable (Line.If a w) h = (is_text Keyword.If a w h.0 h.1).1
line_printable Line.Else h = (key_text Keyword.Else).1
line_printable Line.End h = (key_text Keyword.End).1

begin_is : (c : ℕ) → c < 1000 → TextIs (spelling Keyword.Begin ++ 32 ∷ decimal c) (Key Keyword.Begin ∷ Number c ∷ []) 29
begin_is c h = beside (spelling Keyword.Begin) (decimal c) (Key Keyword.Begin ∷ []) (Number c ∷ []) 8 20 (key_text Keyword.Begin) (number_is c (omega (arith, h)))

begin_form_again : (c : ℕ) → c < 1000 → form_of (Key Keyword.Begin ∷ Number c ∷ []) ≡ Some (Begins c)
unfolding form_of key_form begin_form key_at number_below
begin_form_again c h = rw (lt-ltb c 1000 h) refl

alone_form : form_of (Key Keyword.Begin ∷ []) ≡ Some (Begins 0)
unfolding form_of key_form begin_form key_at
alone_form = refl

abbrev BeginAgain : ℕ → List ℕ → Type 0
BeginAgain c t = (reading record { bytes = t; ended = true } ≡ Form (Begins c)) × (list_all is_printable t ≡ true)

pub begin_again : (c : ℕ) → c < 1000 → BeginAgain c (begin_text c)
begin_again c h = by_client (c == 0) c refl h where
  by_client : (b : Bool) (c : ℕ) → (c == 0) ≡ b → c < 1000 → BeginAgain c (cond b (spelling Keyword.Begin) (spelling Keyword.Begin ++ 32 ∷ decimal c))
  by_client true c e h =
      let z : 0 ≡ c = grind arith in
      (says_so (spelling Keyword.Begin) (Key Keyword.Begin) [] _ (at_most _ _ 8 200 (omega arith) (key_text Keyword.Begin)) refl alone_form ∙ ap (λ (k : ℕ). Form (Begins k)) z, (key_text Keyword.Begin).1)
  by_client false c e h = (says_so _ (Key Keyword.Begin) _ _ (at_most _ _ 29 200 (omega arith) (begin_is c h)) refl (begin_form_again c h), (begin_is c h).1)

ending_form : (e : Ending) → reading record { bytes = ending_text e; ended = true } ≡ Form (Closes e)
ending_form Commit = says_so (spelling Keyword.Commit) (Key Keyword.Commit) [] _ (at_most _ _ 8 200 (omega arith) (key_text Keyword.Commit)) refl commit_form
ending_form Abort = says_so (spelling Keyword.Abort) (Key Keyword.Abort) [] _ (at_most _ _ 8 200 (omega arith) (key_text Keyword.Abort)) refl abort_form

ending_printable : (e : Ending) → list_all is_printable (ending_text e) ≡ true
ending_printable Commit = (key_text Keyword.Commit).1
ending_printable Abort = (key_text Keyword.Abort).1

pub ending_again : (e : Ending) → (reading record { bytes = ending_text e; ended = true } ≡ Form (Closes e)) × (list_all is_printable (ending_text e) ≡ true)
ending_again e = (ending_form e, ending_printable e)
