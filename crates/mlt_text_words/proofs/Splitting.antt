-- The first word of a text.
use Rattle.std.proofs.Common.{◌≡◌, ℕ, suc, zero, ◌+◌, ◌-◌, ◌<◌, ◌≤◌, List, [], ◌∷◌, ◌++◌, length, take, drop, get_or, map, option_map, is_some, not, Bool, true, false, cond, ltb, Option, Some, None, refl, sym, ap, subst, ◌∙◌, append_assoc, arith, position, append-nil, get_or-drop, length-drop, take_all, ltb-false}
use Rattle.mlt_text_words.proofs.Names.{position_or_len, fails_before_first, position-Some, word_if, word_at, raw_words, first_word, is_blank, is_black}
use Rattle.mlt_text_words.specs.Words.{words_from, word_of, words_of}

blank_of : (b : Bool) → not b ≡ false → b ≡ true
blank_of true h = refl
blank_of false h = absurd (cc h)

black_of : (b : Bool) → not b ≡ true → b ≡ false
black_of true h = absurd (cc h)
black_of false h = refl

past_blank : (b : ℕ) (bs : List ℕ) → is_black b ≡ false → words_from [] (b ∷ bs) ≡ words_from [] bs
unfolding words_from
past_blank b bs h = rw (blank_of (is_blank b) h) refl

skips : (text : List ℕ) (i : ℕ) → i < length text → ((k : ℕ) → k < i → is_black (get_or text k 0) ≡ false) → words_from [] text ≡ words_from [] (drop i text)
skips [] i h o = absurd (omega arith)
skips (b ∷ bs) zero h o = refl
skips (b ∷ bs) (suc i) h o = past_blank b bs (o zero (omega arith)) ∙ skips bs i (omega arith) (λ k l. o (suc k) (omega arith))

blanks : (text : List ℕ) → ((k : ℕ) → k < length text → is_black (get_or text k 0) ≡ false) → words_from [] text ≡ []
unfolding words_from
blanks [] o = refl
blanks (b ∷ bs) o = past_blank b bs (o zero (omega arith)) ∙ blanks bs (λ k l. o (suc k) (omega arith))

pub at_blank : (begun : List ℕ) (b : ℕ) (bs : List ℕ) → is_blank b ≡ true → words_from begun (b ∷ bs) ≡ word_if begun ++ words_from [] (b ∷ bs)
unfolding words_from
at_blank begun b bs h = rw h refl

pub at_other : (begun : List ℕ) (b : ℕ) (bs : List ℕ) → is_blank b ≡ false → words_from begun (b ∷ bs) ≡ words_from (begun ++ b ∷ []) bs
unfolding words_from
at_other begun b bs h = rw h refl

up_to : (text begun : List ℕ) (i : ℕ) → i < length text → is_blank (get_or text i 0) ≡ true → ((k : ℕ) → k < i → is_blank (get_or text k 0) ≡ false)
    → words_from begun text ≡ word_if (begun ++ take i text) ++ words_from [] (drop i text)
up_to [] begun i h e o = absurd (omega arith)
up_to (b ∷ bs) begun zero h e o = at_blank begun b bs e ∙ ap (λ (w : List ℕ). word_if w ++ words_from [] (b ∷ bs)) (sym (append-nil begun))
up_to (b ∷ bs) begun (suc i) h e o =
    at_other begun b bs (o zero (omega arith)) ∙ up_to bs (begun ++ b ∷ []) i (omega arith) e (λ k l. o (suc k) (omega arith))
    ∙ ap (λ (w : List ℕ). word_if w ++ words_from [] (drop i bs)) (append_assoc begun (b ∷ []) (take i bs))

to_end : (text begun : List ℕ) → ((k : ℕ) → k < length text → is_blank (get_or text k 0) ≡ false) → words_from begun text ≡ word_if (begun ++ text)
unfolding words_from
to_end [] begun o = ap word_if (sym (append-nil begun))
to_end (b ∷ bs) begun o =
    at_other begun b bs (o zero (omega arith)) ∙ to_end bs (begun ++ b ∷ []) (λ k l. o (suc k) (omega arith)) ∙ ap word_if (append_assoc begun (b ∷ []) bs)

pub is_word : (w : List ℕ) → 0 < length w → word_if w ≡ w ∷ []
is_word [] h = absurd (omega arith)
is_word (b ∷ bs) h = refl

pub none_found : (b : Bool) (i : ℕ) → cond b (Some i) None ≡ None → b ≡ false
none_found true i h = absurd (cc h)
none_found false i h = refl

none_of : (f : ℕ → Bool) (text : List ℕ) → position f text ≡ None → (k : ℕ) → k < length text → f (get_or text k 0) ≡ false
none_of f text e k l =
    let h : length text ≤ position_or_len f text = ltb-false _ _ (none_found (ltb (position_or_len f text) (length text)) _ e) in
    fails_before_first f text k 0 (omega arith)

pub no_word : (text : List ℕ) → position is_black text ≡ None → raw_words text ≡ []
no_word text e = blanks text (none_of is_black text e)

pub at_word : (text : List ℕ) (start : ℕ) → position is_black text ≡ Some start
    → (raw_words text ≡ raw_words (drop start text)) × (start < length text) × (is_blank (get_or (drop start text) 0 0) ≡ false)
at_word text start e =
    let h = position-Some is_black text start 0 e in
    let z : start + 0 ≡ start = omega arith in
    (skips text start h.0 h.2, h.0, rw (get_or-drop, z) (black_of (is_blank (get_or text start 0)) h.1))

later : (front : List ℕ) (i : ℕ) → is_blank (get_or front 0 0) ≡ false → is_blank (get_or front i 0) ≡ true → 0 < i
later front zero b e = absurd (let h : false ≡ true = sym b ∙ e in cc h)
later front (suc i) b e = omega arith

taken : (front : List ℕ) (i : ℕ) → 0 < i → i < length front → 0 < length (take i front)
taken [] i h l = absurd (omega arith)
taken (b ∷ bs) zero h l = absurd (omega arith)
taken (b ∷ bs) (suc i) h l = omega arith

cut : (front : List ℕ) (end : ℕ) → is_blank (get_or front 0 0) ≡ false → position is_blank front ≡ Some end
    → raw_words front ≡ take end front ∷ raw_words (drop end front)
cut front end b e =
    let h = position-Some is_blank front end 0 e in
    let w = is_word (take end front) (taken front end (later front end b h.1) h.0) in
    up_to front [] end h.0 h.1 h.2 ∙ ap (λ (ws : List (List ℕ)). ws ++ words_from [] (drop end front)) w

only : (front : List ℕ) → 0 < length front → position is_blank front ≡ None → raw_words front ≡ front ∷ raw_words []
unfolding words_from
only front l e = to_end front [] (none_of is_blank front e) ∙ is_word front l

pub to_the_end : (text : List ℕ) (start : ℕ) → take (length text - start) (drop start text) ≡ drop start text
to_the_end text start = take_all (length text - start) (drop start text) (rw length-drop (omega arith))

-- the first word with a blank behind it, and the text from the blank on
pub first_of_more : (text front : List ℕ) (start end : ℕ) → front ≡ take (length text - start) (drop start text) → position is_black text ≡ Some start
    → position is_blank front ≡ Some end → Some (take end front, raw_words (take (length front - end) (drop end front))) ≡ first_word (raw_words text)
first_of_more text front start end f s e =
    let a = at_word text start s in
    let same : drop start text ≡ front = sym (to_the_end text start) ∙ sym f in
    let b : is_blank (get_or front 0 0) ≡ false = ap (λ (xs : List ℕ). is_blank (get_or xs 0 0)) (sym same) ∙ a.2 in
    let k = cut front end b e in
    rw (to_the_end front end) (ap first_word (sym (a.0 ∙ ap raw_words same ∙ k)))

-- the only word of a text
pub first_of_one : (text front : List ℕ) (start : ℕ) → front ≡ take (length text - start) (drop start text) → position is_black text ≡ Some start
    → position is_blank front ≡ None → Some (front, raw_words []) ≡ first_word (raw_words text)
first_of_one text front start f s e =
    let a = at_word text start s in
    let same : drop start text ≡ front = sym (to_the_end text start) ∙ sym f in
    let l : 0 < length front = subst (λ (xs : List ℕ). 0 < length xs) same (rw length-drop (let h = a.1 in omega (arith, h))) in
    let k = only front l e in
    ap first_word (sym (a.0 ∙ ap raw_words same ∙ k))

as_what_it_is : (words : List (List ℕ)) → option_map (λ x. (word_of x.0, map word_of x.1)) (first_word words) ≡ word_at (map word_of words)
as_what_it_is [] = refl
as_what_it_is (w ∷ ws) = refl

-- what the first word is, from its bytes
pub first_as_what_it_is : (text : List ℕ) (first : Option (List ℕ × List (List ℕ))) → first ≡ first_word (raw_words text)
    → option_map (λ x. (word_of x.0, map word_of x.1)) first ≡ word_at (words_of text)
unfolding words_of
first_as_what_it_is text first e = ap (option_map (λ x. (word_of x.0, map word_of x.1))) e ∙ as_what_it_is (raw_words text)

-- a text has a word where it has a byte that is not blank
module _ (text : List ℕ) where
  told : (word rest : List ℕ) → Some (word, raw_words rest) ≡ first_word (raw_words text) → is_some (word_at (words_of text)) ≡ true
  told word rest h = sym (ap is_some (first_as_what_it_is text _ h))

  pub word_there : (found : Option ℕ) → position is_black text ≡ found → is_some found ≡ is_some (word_at (words_of text))
  word_there None e = ap is_some (first_as_what_it_is text None (ap first_word (sym (no_word text e))))
  word_there (Some start) s =
      let front = take (length text - start) (drop start text) in
      let by : (end : Option ℕ) → position is_blank front ≡ end → is_some (word_at (words_of text)) ≡ true =
      λ end. elim end as (λ end. position is_blank front ≡ end → is_some (word_at (words_of text)) ≡ true) [
        | Some at ↦ λ e. told _ _ (first_of_more text front start at refl s e)
        | None ↦ λ e. told _ _ (first_of_one text front start refl s e)
      ]
      in sym (by _ refl)
