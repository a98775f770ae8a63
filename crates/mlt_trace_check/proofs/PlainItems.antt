-- Lines of a trace of a plain form, as they are read in the general way.
use Rattle.std.proofs.Common.{◌≡◌, ◌≢◌, ℕ, ◌+◌, ◌<◌, ◌≤◌, List, [], ◌∷◌, ◌++◌, length, map, true, Some, codes, refl, sym, ap, ◌∙◌, append_assoc, length-append, arith, le-ltb, ne_eqb, append-nil}
use Rattle.mlt_trace_check.proofs.Names.{list_all, map-append, ObjOp, ObjReply, lines, raw_words, TraceItem, Abort, Back, Begin, Commit, Op}
use Rattle.mlt_text_words.{specs.declared.keyword.Word.Word, specs.Numbers.is_digit, specs.Numbers.number_of, specs.Words.words_of, specs.Words.words_from, specs.Words.word_of, proofs.Cutting.line_cut, proofs.Allowed.all_allowed}
use Rattle.mlt_text_words.proofs.Pieces.{all_append, digits_printable, digits_word, word_alone, words_apart}
use Rattle.mlt_script.specs.{Forms.reply_at, Plain.BeginsWithOp, Plain.BeginsWithReply}
use Rattle.mlt_trace_check.{specs.Plain.BeginsWithDone, specs.Plain.BeginsWithItem, specs.Plain.BeginsWithNumbered, specs.Plain.PieceIs, specs.Readings.item_of, specs.Readings.item_with, specs.Words.done_at, specs.Words.positive_at, proofs.Allowed.allowed_reading}

-- two pieces with a space between them
pub both : (t u : List ℕ) (ws vs : List (List ℕ)) (n m : ℕ) → PieceIs t ws n → PieceIs u vs m → PieceIs (t ++ 32 ∷ u) (ws ++ vs) (n + 1 + m)
both t u ws vs n m h k = (
  words_apart t [] u ∙ ap (λ (xs : List (List ℕ)). xs ++ raw_words u) h.0 ∙ ap (λ (xs : List (List ℕ)). ws ++ xs) k.0,
  all_append t (32 ∷ u) h.1 k.1,
  rw length-append (let p = h.2 in let q = k.2 in omega (arith, p, q)),
)

-- text behind text behind a space
then : (text middle rest t u : List ℕ) → text ≡ t ++ 32 ∷ middle → middle ≡ u ++ rest → text ≡ (t ++ 32 ∷ u) ++ rest
then text middle rest t u e f = e ∙ ap (λ (xs : List ℕ). t ++ 32 ∷ xs) f ∙ sym (append_assoc t (32 ∷ u) rest)

-- a printable line of these words
line_says : (text t rest : List ℕ) (ws : List (List ℕ)) (n : ℕ) (item : TraceItem) → n ≤ 200 → text ≡ t ++ 10 ∷ rest → PieceIs t ws n → item_of ws ≡ Some item
    → BeginsWithItem text item rest
line_says text t rest ws n item few e h f =
    let short : length t ≤ 200 = let p = h.2 in omega (arith, p, few) in (
      record { bytes = t; ended = true },
      ap lines e ∙ line_cut t rest h.1,
      sym (allowed_reading t (all_allowed t h.1) ∙ rw (le-ltb 200 (length t) short, h.0, f) refl),
      let l = ap length e in let n = length-append t (10 ∷ rest) in omega (arith, l, n),
    )

digits_alone : (ds : List ℕ) → list_all is_digit ds ≡ true → 0 < length ds → length ds ≤ 19 → PieceIs ds (ds ∷ []) 20
digits_alone ds digits some few = (digits_word ds [] digits ∙ word_alone ds some, digits_printable ds digits, omega (arith, few))

positive : (n : ℕ) (ds : List ℕ) (ws : List (List ℕ)) → number_of ds ≡ Some n → 0 < n → positive_at (ds ∷ ws) ≡ Some (n, ws)
unfolding positive_at
positive n ds ws e h = let not_zero : n ≢ 0 = omega (arith, h) in rw (e, ne_eqb n 0 not_zero) refl

-- ---- each item

-- a word and the number of a transaction
numbered_item : (text word after rest : List ℕ) (tx : ℕ) (item : TraceItem) → PieceIs word (word ∷ []) 8 → ((ds : List ℕ) → number_of ds ≡ Some tx → 0 < tx → item_of (word ∷ ds ∷ []) ≡ Some item)
    → BeginsWithNumbered text (word ++ 32 ∷ []) tx after → after ≡ 10 ∷ rest → BeginsWithItem text item rest
numbered_item text word after rest tx item piece says (middle, e, (ds, is, digits, value, few, all), from_one) l =
    line_says text (word ++ 32 ∷ ds) rest (word ∷ ds ∷ []) 29 item (omega arith)
    (then text middle (10 ∷ rest) word ds (e ∙ append_assoc word (32 ∷ []) middle) (is ∙ ap (λ (xs : List ℕ). ds ++ xs) l))
    (both word ds (word ∷ []) (ds ∷ []) 8 20 piece (digits_alone ds digits few.0 few.1))
    (says ds value from_one)

module _ (text after rest : List ℕ) (tx : ℕ) where
  pub begin_item : BeginsWithNumbered text (codes "begin ") tx after → after ≡ 10 ∷ rest → BeginsWithItem text (Begin tx) rest
  unfolding item_of item_with words_from
  begin_item = numbered_item text (codes "begin") after rest tx (Begin tx) (refl, refl, omega arith) (λ ds value from_one. rw (positive tx ds [] value from_one) refl)

  pub back_item : BeginsWithNumbered text (codes "back ") tx after → after ≡ 10 ∷ rest → BeginsWithItem text (Back tx) rest
  unfolding item_of item_with words_from
  back_item = numbered_item text (codes "back") after rest tx (Back tx) (refl, refl, omega arith) (λ ds value from_one. rw (positive tx ds [] value from_one) refl)

  pub abort_item : BeginsWithNumbered text (codes "abort ") tx after → after ≡ 10 ∷ rest → BeginsWithItem text (Abort tx) rest
  unfolding item_of item_with words_from
  abort_item = numbered_item text (codes "abort") after rest tx (Abort tx) (refl, refl, omega arith) (λ ds value from_one. rw (positive tx ds [] value from_one) refl)

pub commit_item : (text first after rest : List ℕ) (tx number : ℕ) → BeginsWithNumbered text (codes "commit ") tx first → BeginsWithNumbered first (codes " ") number after → after ≡ 10 ∷ rest
    → BeginsWithItem text (Commit tx number) rest
unfolding item_of item_with words_from
commit_item text first after rest tx number (middle, e, (ds, is, digits, value, few, all), from_one) (more, f, (es, also, tens, count, short, every), from_two) l =
    line_says text ((codes "commit" ++ 32 ∷ ds) ++ 32 ∷ es) rest (codes "commit" ∷ ds ∷ es ∷ []) 50 _ (omega arith)
    (then text more (10 ∷ rest) (codes "commit" ++ 32 ∷ ds) es (then text middle (32 ∷ more) (codes "commit") ds e (is ∙ ap (λ (xs : List ℕ). ds ++ xs) f)) (also ∙ ap (λ (xs : List ℕ). es ++ xs) l))
    (both (codes "commit" ++ 32 ∷ ds) es (codes "commit" ∷ ds ∷ []) (es ∷ []) 29 20
    (both (codes "commit") ds (codes "commit" ∷ []) (ds ∷ []) 8 20 (refl, refl, omega arith) (digits_alone ds digits few.0 few.1)) (digits_alone es tens short.0 short.1))
    (rw (positive tx ds (es ∷ []) value from_one, positive number es [] count from_two) refl)

pub op_item : (text first middle after rest : List ℕ) (tx : ℕ) (done : ObjOp × ObjReply) → BeginsWithNumbered text (codes "op ") tx first → first ≡ 32 ∷ middle → BeginsWithDone middle done after
    → after ≡ 10 ∷ rest → BeginsWithItem text (Op tx done) rest
unfolding item_of item_with words_from words_of
op_item text first middle after rest tx done (behind, e, (ds, is, digits, value, few, all), from_one) f (t, also, piece, does) l =
    line_says text ((codes "op" ++ 32 ∷ ds) ++ 32 ∷ t) rest (codes "op" ∷ ds ∷ raw_words t) 120 _ (omega arith)
    (then text middle (10 ∷ rest) (codes "op" ++ 32 ∷ ds) t (then text behind (32 ∷ middle) (codes "op") ds e (is ∙ ap (λ (xs : List ℕ). ds ++ xs) f)) (also ∙ ap (λ (xs : List ℕ). t ++ xs) l))
    (both (codes "op" ++ 32 ∷ ds) t (codes "op" ∷ ds ∷ []) (raw_words t) 29 90
    (both (codes "op") ds (codes "op" ∷ []) (ds ∷ []) 8 20 (refl, refl, omega arith) (digits_alone ds digits few.0 few.1)) piece)
    (rw (positive tx ds (raw_words t) value from_one, does) refl)

-- an operation and its reply
pub done_begins : (text first middle rest : List ℕ) (op : ObjOp) (reply : ObjReply) → BeginsWithOp text op first → first ≡ 32 ∷ middle → BeginsWithReply middle reply rest
    → BeginsWithDone text (op, reply) rest
unfolding done_at words_of
done_begins text first middle rest op reply (t, ws, e, h, c, f) l (u, vs, is, k, g) =
    let words : map word_of (raw_words (t ++ 32 ∷ u)) ≡ ws ++ vs =
    ap (map word_of) (words_apart t [] u) ∙ map-append word_of (raw_words t) (raw_words u) ∙ ap (λ (xs : List Word). xs ++ map word_of (raw_words u)) h.0 ∙ ap (λ (xs : List Word). ws ++ xs) k.0 in
    let replies : reply_at vs ≡ Some (reply, []) = ap reply_at (sym (append-nil vs)) ∙ g [] in (
      t ++ 32 ∷ u,
      then text middle rest t u (e ∙ ap (λ (xs : List ℕ). t ++ xs) l) is,
      (refl, all_append t (32 ∷ u) h.1 k.1, rw length-append (let p = h.2 in let q = k.2 in omega (arith, p, q))),
      rw (words, f vs, replies) refl,
    )
