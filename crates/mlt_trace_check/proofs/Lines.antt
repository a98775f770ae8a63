-- The lines of a written trace say its items, also with spaces before their ends.
use Rattle.std.proofs.Common.{◌≡◌, ◌≢◌, ℕ, zero, suc, ◌+◌, ◌^◌, ◌<◌, ◌≤◌, List, [], ◌∷◌, ◌++◌, length, map, replicate, true, Some, codes, refl, sym, ap, ◌∙◌, append_assoc, append-nil, length-append, arith, decimal, le-ltb, lt-ltb, ne_eqb}
use Rattle.std.{specs.List.list_all, proofs.lemmas.List.length-replicate}
use Rattle.mlt_object_kinds.specs.{declared.operation.ObjOp.ObjOp, declared.operation.ObjReply.ObjReply, Texts.with_number, Texts.op_text, Texts.reply_text, Texts.done_text, Ranges.FitsDone, Ranges.FitsReply}
use Rattle.mlt_order.proofs.RunLemmas.{contains-first, contains-later}
use Rattle.mlt_text_words.{specs.declared.keyword.Keyword.Keyword, specs.declared.keyword.Word.Word, specs.declared.keyword.Word.TheVariants.Key, specs.declared.keyword.Word.TheVariants.Number, specs.Lines.lines, specs.Fronts.TextIs, specs.Fronts.is_printable, proofs.Cutting.line_cut, proofs.Allowed.all_allowed}
use Rattle.mlt_text_words.specs.Words.{raw_words, words_of, words_from, spelling, word_of}
use Rattle.mlt_text_words.proofs.Pieces.{all_append, at_most, beside, key_text, number_again, number_alone, number_is, words_apart}
use Rattle.mlt_script.specs.Forms.{key_at, number_below, reply_after, reply_at, reply_word}
use Rattle.mlt_script.proofs.{Printed.no_lines, Rereading.keeps_its_end, Rereading.op_again, Rereading.op_is, Rereading.op_words}
use Rattle.mlt_trace.specs.{declared.item.TraceItem.TraceItem, Items.item_text, Items.trace_text, Lines.AreLinesOf, Lines.spaced_line}
use Rattle.mlt_trace.specs.declared.item.TraceItem.TheVariants.{Begin, Op, Back, Commit, Abort}
use Rattle.mlt_trace_check.{specs.declared.reading.TraceReading.TheVariants.Says, specs.Plain.PieceIs, proofs.PlainItems.both, specs.Readings.item_of, specs.Readings.item_with, specs.Readings.reading, specs.Words.done_at, specs.Words.positive_at, specs.Writable.AreWritable, specs.Writable.IsWritable}

-- ---- pieces of a line

numbered : (t : List ℕ) (ws : List (List ℕ)) (n number : ℕ) → PieceIs t ws n → number < 2 ^ 64 → PieceIs (with_number t number) (ws ++ decimal number ∷ []) (n + 21)
numbered t ws n number h k =
    let is = number_is number k in
    let p = both t (decimal number) ws (decimal number ∷ []) n 20 h (number_alone number k, is.1, is.2) in
    (p.0, p.1, let l = p.2 in omega (arith, l))

-- ---- an operation and its reply

abbrev word_of_reply : ObjReply → Keyword
word_of_reply (ObjReply.Is v) = Keyword.Is
word_of_reply ObjReply.Opened = Keyword.Opened
word_of_reply ObjReply.Exists = Keyword.Exists
word_of_reply ObjReply.Closed = Keyword.Closed
word_of_reply ObjReply.NotEmpty = Keyword.NotEmpty
word_of_reply ObjReply.Done = Keyword.Done
word_of_reply ObjReply.Over = Keyword.Over
word_of_reply ObjReply.Short = Keyword.Short
word_of_reply ObjReply.Missing = Keyword.Missing
word_of_reply ObjReply.Added = Keyword.Added
word_of_reply ObjReply.Present = Keyword.Present
word_of_reply ObjReply.Removed = Keyword.Removed
word_of_reply ObjReply.Absent = Keyword.Absent
word_of_reply ObjReply.Yes = Keyword.Yes
word_of_reply ObjReply.No = Keyword.No

abbrev reply_words : ObjReply → List Word
reply_words (ObjReply.Is v) = Key Keyword.Is ∷ Number v ∷ []
reply_words reply = Key (word_of_reply reply) ∷ []

is_text : TextIs (spelling Keyword.Is) (Key Keyword.Is ∷ []) 2
is_text = let text = key_text Keyword.Is in (text.0, text.1, omega arith)

reply_is : (r : ObjReply) → FitsReply r → TextIs (reply_text r) (reply_words r) 23
reply_is r = elim r as (λ r. FitsReply r → TextIs (reply_text r) (reply_words r) 23) [
  | ObjReply.Is v ↦ λ h. beside (spelling Keyword.Is) (decimal v) (Key Keyword.Is ∷ []) (Number v ∷ []) 2 20 is_text (number_is v h)
  | r ↦ λ h. at_most (spelling (word_of_reply r)) (Key (word_of_reply r) ∷ []) 8 23 (omega arith) (key_text (word_of_reply r))
]

reply_again : (r : ObjReply) → FitsReply r → reply_at (reply_words r) ≡ Some (r, [])
unfolding reply_at reply_after reply_word key_at number_below
reply_again r = elim r as (λ r. FitsReply r → reply_at (reply_words r) ≡ Some (r, [])) [ ObjReply.Is v ↦ λ h. rw (lt-ltb v (2 ^ 64) h) refl | _ ↦ λ h. refl ]

done_is : (done : ObjOp × ObjReply) → FitsDone done → TextIs (done_text done) (op_words done.0 ++ reply_words done.1) 74
done_is done h = beside (op_text done.0) (reply_text done.1) (op_words done.0) (reply_words done.1) 50 23 (op_is done.0 h.op) (reply_is done.1 h.reply)

done_again : (done : ObjOp × ObjReply) → FitsDone done → done_at (map word_of (raw_words (done_text done))) ≡ Some done
unfolding done_at words_of
done_again done h = rw ((done_is done h).0, op_again done.0 (reply_words done.1) h.op, reply_again done.1 h.reply) refl

-- ---- an item

positive_again : (n : ℕ) (ws : List (List ℕ)) → 1 ≤ n → n < 2 ^ 64 → positive_at (decimal n ∷ ws) ≡ Some (n, ws)
unfolding positive_at
positive_again n ws from_one h = let not_zero : n ≢ 0 = omega (arith, from_one) in rw (number_again n h, ne_eqb n 0 not_zero) refl

-- a line of such words says the item, and is so short that spaces may follow
abbrev Reads : TraceItem → Type 0
Reads item = (ws : List (List ℕ)) × PieceIs (item_text item) ws 104 × (item_of ws ≡ Some item)

at_most_104 : (t : List ℕ) (ws : List (List ℕ)) (n : ℕ) → n ≤ 104 → PieceIs t ws n → PieceIs t ws 104
at_most_104 t ws n l h = (h.0, h.1, let p = h.2 in omega (arith, p, l))

begin_reads : (tx : ℕ) → 1 ≤ tx → tx < 2 ^ 64 → Reads (Begin tx)
unfolding item_of item_with words_from
begin_reads tx from_one h = (codes "begin" ∷ decimal tx ∷ [], at_most_104 (item_text (Begin tx)) _ 29 (omega arith) (numbered (codes "begin") (codes "begin" ∷ []) 8 tx (refl, refl, omega arith) h), rw (positive_again tx [] from_one h) refl)

back_reads : (tx : ℕ) → 1 ≤ tx → tx < 2 ^ 64 → Reads (Back tx)
unfolding item_of item_with words_from
back_reads tx from_one h = (codes "back" ∷ decimal tx ∷ [], at_most_104 (item_text (Back tx)) _ 29 (omega arith) (numbered (codes "back") (codes "back" ∷ []) 8 tx (refl, refl, omega arith) h), rw (positive_again tx [] from_one h) refl)

abort_reads : (tx : ℕ) → 1 ≤ tx → tx < 2 ^ 64 → Reads (Abort tx)
unfolding item_of item_with words_from
abort_reads tx from_one h = (codes "abort" ∷ decimal tx ∷ [], at_most_104 (item_text (Abort tx)) _ 29 (omega arith) (numbered (codes "abort") (codes "abort" ∷ []) 8 tx (refl, refl, omega arith) h), rw (positive_again tx [] from_one h) refl)

commit_reads : (tx number : ℕ) → (1 ≤ tx) × (1 ≤ number) → tx < 2 ^ 64 → number < 2 ^ 64 → Reads (Commit tx number)
unfolding item_of item_with words_from
commit_reads tx number from_one h k = (
  codes "commit" ∷ decimal tx ∷ decimal number ∷ [],
  at_most_104 (item_text (Commit tx number)) _ 50 (omega arith) (numbered (with_number (codes "commit") tx) (codes "commit" ∷ decimal tx ∷ []) 29 number (numbered (codes "commit") (codes "commit" ∷ []) 8 tx (refl, refl, omega arith) h) k),
  rw (positive_again tx (decimal number ∷ []) from_one.0 h, positive_again number [] from_one.1 k) refl,
)

op_reads : (tx : ℕ) (done : ObjOp × ObjReply) → 1 ≤ tx → tx < 2 ^ 64 → FitsDone done → Reads (Op tx done)
unfolding item_of item_with words_from
op_reads tx done from_one h k =
    let rest = raw_words (done_text done) in
    let is = done_is done k in (
      codes "op" ∷ decimal tx ∷ rest,
      at_most_104 (item_text (Op tx done)) _ 98 (omega arith) (both (with_number (codes "op") tx) (done_text done) (codes "op" ∷ decimal tx ∷ []) rest 23 74 (numbered (codes "op") (codes "op" ∷ []) 2 tx (refl, refl, omega arith) h) (refl, is.1, is.2)),
      rw (positive_again tx rest from_one h, done_again done k) refl,
    )

item_reads : (item : TraceItem) → IsWritable item → Reads item
item_reads (Begin tx) h = begin_reads tx h.numbered h.fits
item_reads (Op tx done) h = op_reads tx done h.numbered h.fits.0 h.fits.1
item_reads (Back tx) h = back_reads tx h.numbered h.fits
item_reads (Commit tx number) h = commit_reads tx number h.numbered h.fits.0 h.fits.1
item_reads (Abort tx) h = abort_reads tx h.numbered h.fits

line_says : (t : List ℕ) (ws : List (List ℕ)) (item : TraceItem) → PieceIs t ws 200 → item_of ws ≡ Some item → reading record { bytes = t; ended = true } ≡ Says item
unfolding reading
line_says t ws item h is = rw (le-ltb 200 (length t) h.2, keeps_its_end t h.1, all_allowed t h.1, h.0, is) refl

-- ---- spaces behind it

blank_words : (spaces : ℕ) → raw_words (replicate spaces 32) ≡ []
unfolding words_from
blank_words zero = refl
blank_words (suc spaces) = blank_words spaces

printable_spaces : (spaces : ℕ) → list_all is_printable (replicate spaces 32) ≡ true
printable_spaces zero = refl
printable_spaces (suc spaces) = printable_spaces spaces

same_words : (t : List ℕ) (spaces : ℕ) → raw_words (t ++ replicate spaces 32) ≡ raw_words t
same_words t zero = ap raw_words (append-nil t)
same_words t (suc spaces) =
    words_apart t [] (replicate spaces 32) ∙ ap (λ ws. raw_words t ++ ws) (blank_words spaces) ∙ append-nil (raw_words t)

spaced : (t : List ℕ) (ws : List (List ℕ)) (spaces : ℕ) → spaces < 96 → PieceIs t ws 104 → PieceIs (t ++ replicate spaces 32) ws 200
spaced t ws spaces few h = (
  same_words t spaces ∙ h.0,
  all_append t (replicate spaces 32) h.1 (printable_spaces spaces),
  rw (length-append, length-replicate) (let p = h.2 in omega (arith, p, few)),
)

-- ---- all items

first_line : (t rest : List ℕ) (spaces : ℕ) → list_all is_printable (t ++ replicate spaces 32) ≡ true
    → lines ((t ++ (replicate spaces 32 ++ 10 ∷ [])) ++ rest) ≡ record { bytes = t ++ replicate spaces 32; ended = true } ∷ lines rest
first_line t rest spaces h =
    ap lines (ap (λ text. text ++ rest) (sym (append_assoc t (replicate spaces 32) (10 ∷ []))) ∙ append_assoc (t ++ replicate spaces 32) (10 ∷ []) rest)
    ∙ line_cut (t ++ replicate spaces 32) rest h

-- a text of such lines
pub spaced_lines_say_items : (items : List TraceItem) (text : List ℕ) → AreWritable items → AreLinesOf items text → map reading (lines text) ≡ map Says items
spaced_lines_say_items [] text h none = ap (λ text. map reading (lines text)) none ∙ ap (map reading) no_lines
spaced_lines_say_items (item ∷ items) text h (spaces, few, rest, is, more) =
    let reads = item_reads item (h item (contains-first item items)) in
    let piece = spaced (item_text item) reads.0 spaces few reads.1 in
    let said = line_says (item_text item ++ replicate spaces 32) reads.0 item piece reads.2 in
    let others = spaced_lines_say_items items rest (λ one there. h one (contains-later item one items there)) more in
    ap (λ text. map reading (lines text)) is ∙ ap (map reading) (first_line (item_text item) rest spaces piece.1) ∙ ap (λ r. r ∷ map reading (lines rest)) said ∙ ap (λ rs. Says item ∷ rs) others

-- the text of the items has such lines, without spaces
plain_lines : (items : List TraceItem) → AreLinesOf items (trace_text items)
plain_lines [] = refl
plain_lines (item ∷ items) = (0, omega arith, trace_text items, refl, plain_lines items)

pub lines_say_items : (items : List TraceItem) → AreWritable items → map reading (lines (trace_text items)) ≡ map Says items
lines_say_items items h = spaced_lines_say_items items (trace_text items) h (plain_lines items)
