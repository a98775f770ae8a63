-- The first line of a text.
use Rattle.std.proofs.Common.{◌≡◌, ℕ, suc, zero, ◌+◌, ◌-◌, ◌<◌, ◌≤◌, List, [], ◌∷◌, ◌++◌, length, take, drop, get_or, Bool, true, false, cond, ltb, Some, None, refl, ap, ◌∙◌, arith, position, take_all, length-drop, ltb-false}
use Rattle.mlt_text_words.proofs.Names.{list_all, position_or_len, fails_before_first, position-Some, is_printable, is_lf, is_allowed}
use Rattle.mlt_text_words.{specs.Lines.lines, specs.Lines.onto, specs.Lines.is_unprintable, proofs.Pieces.first_and}

pub no_lines : (rest : List ℕ) → length rest ≡ 0 → lines rest ≡ []
unfolding lines
no_lines [] e = refl
no_lines (b ∷ bs) e = absurd (omega arith)

pub at_lf : (b : ℕ) (bs : List ℕ) → is_lf b ≡ true → lines (b ∷ bs) ≡ record { bytes = []; ended = true } ∷ lines bs
unfolding lines
at_lf b bs h = rw h refl

pub at_other : (b : ℕ) (bs : List ℕ) → is_lf b ≡ false → lines (b ∷ bs) ≡ onto b (lines bs)
unfolding lines
at_other b bs h = rw h refl

up_to : (text : List ℕ) (i : ℕ) → i < length text → is_lf (get_or text i 0) ≡ true → ((k : ℕ) → k < i → is_lf (get_or text k 0) ≡ false)
    → lines text ≡ record { bytes = take i text; ended = true } ∷ lines (drop (suc i) text)
up_to [] i h e o = absurd (omega arith)
up_to (b ∷ bs) zero h e o = at_lf b bs e
up_to (b ∷ bs) (suc i) h e o =
    at_other b bs (o zero (omega arith)) ∙ ap (onto b) (up_to bs i (omega arith) e (λ k l. o (suc k) (omega arith)))

pub found : (text : List ℕ) (i : ℕ) → position is_lf text ≡ Some i
    → lines text ≡ record { bytes = take i text; ended = true } ∷ lines (take (length text - (i + 1)) (drop (i + 1) text))
found text i e =
    let h = position-Some is_lf text i 0 e in
    let s : i + 1 ≡ suc i = omega arith in
    let t : take (length text - (i + 1)) (drop (i + 1) text) ≡ drop (i + 1) text = take_all (length text - (i + 1)) (drop (i + 1) text) (rw length-drop (omega arith)) in
    rw (t, s) (up_to text i h.0 h.1 h.2)

whole : (b : ℕ) (bs : List ℕ) → ((k : ℕ) → k < length (b ∷ bs) → is_lf (get_or (b ∷ bs) k 0) ≡ false) → lines (b ∷ bs) ≡ record { bytes = b ∷ bs; ended = false } ∷ lines []
unfolding lines
whole b [] o = at_other b [] (o zero (omega arith))
whole b (c ∷ bs) o = at_other b (c ∷ bs) (o zero (omega arith)) ∙ ap (onto b) (whole c bs (λ k l. o (suc k) (omega arith)))

none_found : (b : Bool) (i : ℕ) → cond b (Some i) None ≡ None → b ≡ false
none_found true i h = absurd (cc h)
none_found false i h = refl

pub not_found : (text : List ℕ) → 0 < length text → position is_lf text ≡ None → lines text ≡ record { bytes = text; ended = false } ∷ lines []
not_found [] h e = absurd (omega arith)
not_found (b ∷ bs) h e =
    let l : length (b ∷ bs) ≤ position_or_len is_lf (b ∷ bs) = ltb-false _ _ (none_found (ltb (position_or_len is_lf (b ∷ bs)) (length (b ∷ bs))) _ e) in
    whole b bs (λ k m. fails_before_first is_lf (b ∷ bs) k 0 (omega arith))

no_lf : (b : ℕ) → is_unprintable b ≡ false → is_lf b ≡ false
no_lf b h = grind arith

allowed : (b : ℕ) → is_unprintable b ≡ false → is_allowed b ≡ true
allowed b h = grind arith

all_allowed : (text : List ℕ) (i : ℕ) → ((k : ℕ) → k < i → is_unprintable (get_or text k 0) ≡ false) → i < length text → list_all is_allowed (take i text) ≡ true
all_allowed [] i o h = absurd (omega arith)
all_allowed (b ∷ bs) zero o h = refl
all_allowed (b ∷ bs) (suc i) o h = rw (allowed b (o zero (omega arith))) (all_allowed bs i (λ k l. o (suc k) (omega arith)) (omega arith))

-- a line of printable bytes up to its LF
pub printable : (text : List ℕ) (i : ℕ) → position is_unprintable text ≡ Some i → is_lf (get_or text i 0) ≡ true
    → (lines text ≡ record { bytes = take i text; ended = true } ∷ lines (take (length text - (i + 1)) (drop (i + 1) text)))
    × (list_all is_allowed (take i text) ≡ true)
printable text i e f =
    let h = position-Some is_unprintable text i 0 e in
    let s : i + 1 ≡ suc i = omega arith in
    let t : take (length text - (i + 1)) (drop (i + 1) text) ≡ drop (i + 1) text = take_all (length text - (i + 1)) (drop (i + 1) text) (rw length-drop (omega arith)) in
    (rw (t, s) (up_to text i h.0 f (λ k l. no_lf (get_or text k 0) (h.2 k l))), all_allowed text i h.2 h.0)

printable_no_lf : (b : ℕ) → is_printable b ≡ true → is_lf b ≡ false
printable_no_lf b h = grind arith

-- a printable text and its LF are a line of their own
pub line_cut : (t rest : List ℕ) → list_all is_printable t ≡ true → lines (t ++ 10 ∷ rest) ≡ record { bytes = t; ended = true } ∷ lines rest
line_cut [] rest h = at_lf 10 rest refl
line_cut (b ∷ t) rest h =
    let p = first_and (is_printable b) (list_all is_printable t) h in
    at_other b (t ++ 10 ∷ rest) (printable_no_lf b p.0) ∙ ap (onto b) (line_cut t rest p.1)
