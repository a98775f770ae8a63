-- The words of a line of a trace, as their bytes.
use Rattle.std.specs.Prelude.{ℕ, List, [], ◌∷◌, Option, Some, None, if◌then◌else◌, ◌==◌}
use Rattle.mlt_object_kinds.specs.declared.operation.{ObjOp.ObjOp, ObjReply.ObjReply}
use Rattle.mlt_text_words.specs.{declared.keyword.Word.Word, Numbers.number_of, Words.first_word}
use Rattle.mlt_script.specs.Forms.{◌>>=◌, op_at, reply_at}

abbrev pub if_positive : ℕ → List (List ℕ) → Option (ℕ × List (List ℕ))
if_positive number words = if number == 0 then None else Some (number, words)

-- a number from 1 on, and the words after it
unfoldable pub positive_at : List (List ℕ) → Option (ℕ × List (List ℕ))
positive_at words = do
  w ← first_word words
  n ← number_of w.0
  if_positive n w.1

abbrev pub no_more : {A B : Type 0} → A → List B → Option A
no_more x [] = Some x
no_more x (word ∷ words) = None

-- an operation, its reply, and no further word
unfoldable pub done_at : List Word → Option (ObjOp × ObjReply)
done_at words = do
  op ← op_at words
  reply ← reply_at op.1
  no_more (op.0, reply.0) reply.1
