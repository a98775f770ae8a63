-- Operations, replies and lines of a plain form, which has one space between words and nothing else.
use Rattle.std.specs.Prelude.{◌≡◌, ◌<◌, ℕ, List, ◌∷◌, ◌++◌, length, Some, false}
use Rattle.mlt_object_kinds.specs.declared.operation.{ObjOp.ObjOp, ObjReply.ObjReply}
use Rattle.mlt_script.specs.{declared.forms.LineForm.LineForm, declared.line.ScriptReading.TheVariants.Form, Forms.asking_at, Forms.op_at, Forms.reply_at, Readings.reading, declared.statement.Asking.TheVariants.Fixed}
use Rattle.mlt_text_words.specs.{declared.keyword.Keyword.Keyword, declared.keyword.Word.Word, Fronts.BeginsWithWords, Fronts.TextIs, Lines.Raw, Lines.is_comment, Lines.lines}

-- the text begins with the words that follow the keyword in this operation, and then comes the rest
abbrev pub GoesOnWithOp : Keyword → List ℕ → ObjOp → List ℕ → Type 0
GoesOnWithOp keyword text op rest =
    (words : List Word)
    × BeginsWithWords text words 41 rest
    × ((more : List Word) → asking_at keyword (words ++ more) ≡ Some (Fixed op, more))

-- the text begins with an operation, at most 60 printable bytes that are no comment, and then comes the rest
abbrev pub BeginsWithOp : List ℕ → ObjOp → List ℕ → Type 0
BeginsWithOp text op rest =
    (t : List ℕ) × (words : List Word)
    × (text ≡ t ++ rest)
    × TextIs t words 60
    × (is_comment t ≡ false)
    × ((more : List Word) → op_at (words ++ more) ≡ Some (op, more))

-- the text begins with a reply, at most 29 printable bytes, and then comes the rest
abbrev pub BeginsWithReply : List ℕ → ObjReply → List ℕ → Type 0
BeginsWithReply text reply rest =
    (t : List ℕ) × (words : List Word)
    × (text ≡ t ++ rest)
    × TextIs t words 29
    × ((more : List Word) → reply_at (words ++ more) ≡ Some (reply, more))

-- the first line of the text is of the form, and then comes the rest
abbrev pub BeginsWithForm : List ℕ → LineForm → List ℕ → Type 0
BeginsWithForm text form rest =
    (raw : Raw) × (lines text ≡ raw ∷ lines rest) × (Form form ≡ reading raw)
    × (length rest < length text)
