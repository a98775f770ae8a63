-- What a line of a trace is by itself, wherever it stands.
use Rattle.std.specs.Prelude.{ℕ, List, map, length, nat_lt, Option, Some, None, if◌then◌else◌, codes, bytes_eq}
use Rattle.std.specs.List.{list_all}
use Rattle.mlt_types.specs.declared.refusal.TraceCause.{TraceCause}
use Rattle.mlt_script.specs.Forms.{◌>>=◌}
use Rattle.mlt_text_words.specs.{Lines.Raw, Lines.content, Lines.is_allowed, Words.first_word, Words.raw_words, Words.word_of}
use Rattle.mlt_trace.specs.declared.item.TraceItem.{TraceItem}
use Rattle.mlt_trace.specs.declared.item.TraceItem.TheVariants.{Begin, Op, Back, Commit, Abort}
use Rattle.mlt_trace_check.specs.{declared.reading.TraceReading.TraceReading, declared.reading.TraceReading.TheVariants.Bad, declared.reading.TraceReading.TheVariants.Says, Words.done_at, Words.no_more, Words.positive_at}

abbrev pub alone : TraceItem → List (List ℕ) → Option TraceItem
alone item words = no_more item words

abbrev pub op_with : ℕ → List (List ℕ) → Option TraceItem
op_with tx words = do
  done ← done_at (map word_of words)
  Some (Op tx done)

abbrev pub commit_with : ℕ → List (List ℕ) → Option TraceItem
commit_with tx words = do
  number ← positive_at words
  alone (Commit tx number.0) number.1

-- a line whose first word is this, and which goes on with the number of a transaction
unfoldable pub item_with : List ℕ → ℕ → List (List ℕ) → Option TraceItem
item_with word tx words =
    if bytes_eq word (codes "begin") then alone (Begin tx) words
    else (if bytes_eq word (codes "op") then op_with tx words
    else (if bytes_eq word (codes "back") then alone (Back tx) words
    else (if bytes_eq word (codes "commit") then commit_with tx words
    else (if bytes_eq word (codes "abort") then alone (Abort tx) words else None))))

-- the item of a line of these words, if it has one of the five forms
unfoldable pub item_of : List (List ℕ) → Option TraceItem
item_of words = do
  word ← first_word words
  tx ← positive_at word.1
  item_with word.0 tx.0 tx.1

abbrev pub item_or_fault : Option TraceItem → TraceReading
item_or_fault (Some item) = Says item
item_or_fault None = Bad TraceCause.Words

-- a line that ends in LF
abbrev pub in_words : Raw → TraceReading
in_words raw = if raw.ended then item_or_fault (item_of (raw_words (content raw))) else Bad TraceCause.Cut

-- what a line of a trace says, or its fault: more than 200 bytes, a CR counted, or a byte that is
-- not allowed, or words that are none of the five forms
unfoldable pub reading : Raw → TraceReading
reading raw = if nat_lt 200 (length raw.bytes) then Bad TraceCause.Line else (if list_all is_allowed (content raw) then in_words raw else Bad TraceCause.Line)
