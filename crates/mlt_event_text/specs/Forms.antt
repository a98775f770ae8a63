-- The forms of a line of an event text, over its words as their bytes.
use Rattle.std.specs.Prelude.{ℕ, List, [], ◌∷◌, map, Option, Some, None, nat_le, ◌&&◌, if◌then◌else◌, codes, bytes_eq}
use Rattle.mlt_event.specs.declared.event.Event.{Event}
use Rattle.mlt_event.specs.declared.event.Event.TheVariants.{Begin, Call, Step, Cancel, Commit, Abort, Whole, WholeUndo}
use Rattle.mlt_event_text.specs.declared.forms.Asked.{Asked}
use Rattle.mlt_object_kinds.specs.declared.operation.ObjOp.{ObjOp}
use Rattle.mlt_script.specs.Forms.{◌>>=◌, op_at}
use Rattle.mlt_text_words.specs.{declared.keyword.Word.Word, Numbers.number_of, Words.first_word, Words.word_of}

-- a number below 2^64, and the words after it
unfoldable pub number_at : List (List ℕ) → Option (ℕ × List (List ℕ))
number_at words = do
  w ← first_word words
  n ← number_of w.0
  Some (n, w.1)

abbrev pub once : Event → Asked
once event = record { event = event; times = 1 }

-- the event once, where no word is left
abbrev pub alone : Event → List (List ℕ) → Option Asked
alone event [] = Some (once event)
alone event (word ∷ words) = None

abbrev pub no_more : ObjOp → List Word → Option ObjOp
no_more op [] = Some op
no_more op (word ∷ words) = None

-- an operation, its amount a number, and no further word
unfoldable pub only_op : List Word → Option ObjOp
only_op words = do
  op ← op_at words
  no_more op.0 op.1

abbrev pub if_count : ℕ → Option ℕ
if_count n = if nat_le 1 n && nat_le n 1000 then Some n else None

-- how many steps: one where it is not said, and else a number from 1 to 1,000, and no further word
unfoldable pub step_count : List (List ℕ) → Option ℕ
step_count [] = Some 1
step_count (word ∷ []) = do
  n ← number_of word
  if_count n
step_count (word ∷ other ∷ words) = None

abbrev pub steps_of : ℕ → List (List ℕ) → Option Asked
steps_of tx words = do
  n ← step_count words
  Some (record { event = Step tx; times = n })

abbrev pub call_of : ℕ → List (List ℕ) → Option Asked
call_of tx words = do
  op ← only_op (map word_of words)
  Some (once (Call tx op))

abbrev pub whole_of : ℕ → List (List ℕ) → Option Asked
whole_of tx words = do
  op ← only_op (map word_of words)
  Some (once (Whole tx op))

-- a line whose first word is this, and which goes on with the number of a transaction
unfoldable pub asked_of_tx : List ℕ → ℕ → List (List ℕ) → Option Asked
asked_of_tx word tx words =
    if bytes_eq word (codes "step") then steps_of tx words
    else (if bytes_eq word (codes "call") then call_of tx words
    else (if bytes_eq word (codes "whole") then whole_of tx words
    else (if bytes_eq word (codes "cancel") then alone (Cancel tx) words
    else (if bytes_eq word (codes "commit") then alone (Commit tx) words
    else (if bytes_eq word (codes "abort") then alone (Abort tx) words
    else (if bytes_eq word (codes "undo") then alone (WholeUndo tx) words else None))))))

abbrev pub with_tx : List ℕ → List (List ℕ) → Option Asked
with_tx word words = do
  tx ← number_at words
  asked_of_tx word tx.0 tx.1

-- what a line asks for whose first word is this, if it has one of the eight forms
unfoldable pub asked_by : List ℕ → List (List ℕ) → Option Asked
asked_by word words = if bytes_eq word (codes "begin") then alone Begin words else with_tx word words
