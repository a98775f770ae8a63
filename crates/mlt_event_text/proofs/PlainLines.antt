-- The next line of a text, where it is of the plain form.
use Rattle.std.proofs.Common.{◌≡◌, ℕ, ◌-◌, List, [], ◌∷◌, ◌++◌, length, map, Some, None, option_and_then, codes, refl, sym, ap, ◌∙◌, append-nil, arith}
use Rattle.mlt_object_kinds.specs.declared.operation.ObjOp.{ObjOp}
use Rattle.mlt_event_text.{specs.declared.command.Command.Command, specs.Commands.asked, specs.Commands.command_of, specs.Commands.op_command, specs.Forms.no_more, specs.Forms.only_op, specs.Inputs.NextLine, specs.declared.session_line.SessionLine.TheVariants.Says, proofs.Cutting.next_plain}
use Rattle.mlt_script.specs.{Forms.asking_at, Forms.key_at, Forms.op_at, Plain.BeginsWithOp}
use Rattle.mlt_text_words.{specs.Words.raw_words, specs.Words.word_of, specs.Words.words_from, specs.Words.words_of, specs.declared.keyword.Word.Word, specs.declared.keyword.Word.TheVariants.Key, specs.declared.keyword.Word.TheVariants.Variable, specs.declared.keyword.Word.TheVariants.Number, specs.declared.keyword.Word.TheVariants.Other, proofs.Pieces.at_most}

-- an operation has a number behind its keyword
one_word : (w : Word) → op_at (w ∷ []) ≡ None
unfolding op_at key_at asking_at
one_word (Key k) = refl
one_word (Variable l) = refl
one_word (Number n) = refl
one_word Other = refl

-- so its words are none of the four that are alone on their line
op_words : (words : List (List ℕ)) (op : ObjOp) → op_at (map word_of words) ≡ Some (op, []) → asked words (op_command (only_op (map word_of words))) ≡ Command.Op op
unfolding only_op op_at key_at
op_words [] op h = absurd (cc h)
op_words (word ∷ []) op h = absurd (let none = one_word (word_of word) in cc (h, none))
op_words (word ∷ other ∷ words) op h = ap (λ o. op_command (option_and_then (λ x. no_more x.0 x.1) o)) h

pub next_op : (text rest : List ℕ) (op : ObjOp) → BeginsWithOp text op (10 ∷ rest) → NextLine text (Some (Says (Command.Op op), length text - length rest))
unfolding command_of words_of
next_op text rest op (t, words, e, h, c, f) =
    let few = at_most t words 60 200 (omega arith) h in
    next_plain text t rest (Command.Op op) e few.1 few.2 (sym (op_words (raw_words t) op (ap op_at (h.0 ∙ sym (append-nil words)) ∙ f [])))

pub next_commit : (text rest : List ℕ) → text ≡ codes "commit" ++ 10 ∷ rest → NextLine text (Some (Says Command.Commit, length text - length rest))
unfolding command_of words_from
next_commit text rest e = next_plain text (codes "commit") rest Command.Commit e refl (omega arith) refl

pub next_begin : (text rest : List ℕ) → text ≡ codes "begin" ++ 10 ∷ rest → NextLine text (Some (Says Command.Begin, length text - length rest))
unfolding command_of words_from
next_begin text rest e = next_plain text (codes "begin") rest Command.Begin e refl (omega arith) refl
