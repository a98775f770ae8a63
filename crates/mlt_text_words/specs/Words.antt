-- The words of a line.
use Rattle.std.specs.Prelude.{ℕ, ◌-◌, List, [], ◌∷◌, ◌++◌, map, Option, Some, None, option_and_then, ◌==◌, Bool, true, ◌&&◌, ◌||◌, not, length, slice_index, if◌then◌else◌, codes, bytes_eq}
use Rattle.mlt_text_words.specs.{declared.keyword.Keyword.Keyword, declared.keyword.Word.Word, declared.letter.Letter.Letter, Letters.letter_of, Numbers.number_of}

-- how a keyword is written
abbrev pub spelling : Keyword → List ℕ
spelling Keyword.Begin = codes "begin"
spelling Keyword.Commit = codes "commit"
spelling Keyword.Abort = codes "abort"
spelling Keyword.Need = codes "need"
spelling Keyword.Let = codes "let"
spelling Keyword.If = codes "if"
spelling Keyword.Else = codes "else"
spelling Keyword.End = codes "end"
spelling Keyword.Is = codes "is"
spelling Keyword.Equals = codes "="
spelling Keyword.Open = codes "open"
spelling Keyword.Close = codes "close"
spelling Keyword.Deposit = codes "deposit"
spelling Keyword.Withdraw = codes "withdraw"
spelling Keyword.Balance = codes "balance"
spelling Keyword.Add = codes "add"
spelling Keyword.Remove = codes "remove"
spelling Keyword.Has = codes "has"
spelling Keyword.Up = codes "up"
spelling Keyword.Down = codes "down"
spelling Keyword.Read = codes "read"
spelling Keyword.Size = codes "size"
spelling Keyword.Opened = codes "opened"
spelling Keyword.Exists = codes "exists"
spelling Keyword.Closed = codes "closed"
spelling Keyword.NotEmpty = codes "notempty"
spelling Keyword.Done = codes "done"
spelling Keyword.Over = codes "over"
spelling Keyword.Short = codes "short"
spelling Keyword.Missing = codes "missing"
spelling Keyword.Added = codes "added"
spelling Keyword.Present = codes "present"
spelling Keyword.Removed = codes "removed"
spelling Keyword.Absent = codes "absent"
spelling Keyword.Yes = codes "yes"
spelling Keyword.No = codes "no"

abbrev pub all_keywords : List Keyword
all_keywords =
    Keyword.Begin ∷ Keyword.Commit ∷ Keyword.Abort ∷ Keyword.Need ∷ Keyword.Let ∷ Keyword.If ∷ Keyword.Else ∷ Keyword.End ∷ Keyword.Is ∷
    Keyword.Equals ∷ Keyword.Open ∷ Keyword.Close ∷ Keyword.Deposit ∷ Keyword.Withdraw ∷ Keyword.Balance ∷ Keyword.Add ∷
    Keyword.Remove ∷ Keyword.Has ∷ Keyword.Up ∷ Keyword.Down ∷ Keyword.Read ∷ Keyword.Size ∷ Keyword.Opened ∷ Keyword.Exists ∷
    Keyword.Closed ∷ Keyword.NotEmpty ∷ Keyword.Done ∷ Keyword.Over ∷ Keyword.Short ∷ Keyword.Missing ∷ Keyword.Added ∷
    Keyword.Present ∷ Keyword.Removed ∷ Keyword.Absent ∷ Keyword.Yes ∷ Keyword.No ∷ []

-- whether the keyword has this first byte, this length and this last byte
abbrev pub has_ends : ℕ → ℕ → ℕ → Keyword → Bool
has_ends first size last k =
    slice_index (spelling k) 0 == first && (length (spelling k) == size && slice_index (spelling k) (length (spelling k) - 1) == last)

-- the one of the keywords that is spelled so
abbrev pub spelled_among : List Keyword → List ℕ → Option Keyword
spelled_among [] bytes = None
spelled_among (k ∷ keys) bytes = if bytes_eq (spelling k) bytes then Some k else spelled_among keys bytes

-- the keyword that is spelled so
unfoldable pub keyword_of : List ℕ → Option Keyword
keyword_of bytes = spelled_among all_keywords bytes

abbrev pub number_or_other : Option ℕ → Word
number_or_other (Some n) = Word.Number n
number_or_other None = Word.Other

abbrev pub keyword_or : Option Keyword → Word → Word
keyword_or (Some k) otherwise = Word.Key k
keyword_or None otherwise = otherwise

-- a word of one letter
abbrev pub letter_word : List ℕ → Option Letter
letter_word [] = None
letter_word (b ∷ []) = letter_of b
letter_word (b ∷ c ∷ bs) = None

abbrev pub letter_or : Option Letter → Word → Word
letter_or (Some l) otherwise = Word.Variable l
letter_or None otherwise = otherwise

-- a keyword, or else a letter, or else a number, or else none of these
unfoldable pub word_of : List ℕ → Word
word_of bytes = keyword_or (keyword_of bytes) (letter_or (letter_word bytes) (number_or_other (number_of bytes)))

-- spaces and tabs
abbrev pub is_blank : ℕ → Bool
is_blank byte = byte == 32 || byte == 9

-- any other byte
abbrev pub is_black : ℕ → Bool
is_black byte = not (is_blank byte)

-- the bytes between two blanks, where there are any
abbrev pub word_if : List ℕ → List (List ℕ)
word_if [] = []
word_if (b ∷ bs) = (b ∷ bs) ∷ []

-- the words of a line whose front was begun, a part of a word
unfoldable pub words_from : List ℕ → List ℕ → List (List ℕ)
words_from begun [] = word_if begun
words_from begun (b ∷ bs) = if is_blank b then word_if begun ++ words_from [] bs else words_from (begun ++ b ∷ []) bs

-- the words of a line as their bytes
abbrev pub raw_words : List ℕ → List (List ℕ)
raw_words line = words_from [] line

-- the first of some words as their bytes, and those after it
abbrev pub first_word : List (List ℕ) → Option (List ℕ × List (List ℕ))
first_word [] = None
first_word (word ∷ words) = Some (word, words)

-- the words of a line: keywords, letters, numbers and others, separated by spaces and tabs
unfoldable pub words_of : List ℕ → List Word
words_of line = map word_of (raw_words line)

-- the first word, and those after it
abbrev pub word_at : List Word → Option (Word × List Word)
word_at [] = None
word_at (w ∷ ws) = Some (w, ws)

abbrev pub number_word : Word → List Word → Option (ℕ × List Word)
number_word (Word.Number n) rest = Some (n, rest)
number_word w rest = None

-- the first word, where it is a number, and those after it
abbrev pub number_at : List Word → Option (ℕ × List Word)
number_at words = option_and_then (λ w. number_word w.0 w.1) (word_at words)

-- whether a word that stands before these bytes ends there
abbrev pub is_over : List ℕ → Bool
is_over [] = true
is_over (b ∷ bs) = is_blank b
