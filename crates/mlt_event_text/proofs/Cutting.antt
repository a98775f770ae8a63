-- The next line of a text.
use Rattle.std.proofs.Common.{◌≡◌, ℕ, suc, zero, ◌+◌, ◌-◌, ◌<◌, ◌≤◌, List, [], ◌∷◌, ◌++◌, length, take, drop, get_or, true, false, Some, None, refl, sym, ap, ◌∙◌, arith, append-nil, length-take, length-append, append_assoc, take-append-drop, add-one, position, flat_map, lt-ltb, le-ltb}
use Rattle.std.{specs.List.list_all, proofs.lemmas.List.Concat.flat_map-cons, proofs.lemmas.List.Quantifiers.position-Some, proofs.Math.Seq.take-append_seam}
use Rattle.mlt_event_text.specs.Inputs.{IsNext, NextLine, Splits, heard, lines_of}
use Rattle.mlt_event_text.specs.{Commands.command_of, declared.session_line.SessionLine.SessionLine, declared.session_line.SessionLine.TheVariants.Says, declared.session_line.SessionLine.TheVariants.TooLong, declared.command.Command.Command}
use Rattle.mlt_text_words.{specs.Fronts.is_printable, proofs.Allowed.all_allowed, proofs.Allowed.no_cr, proofs.Cutting.at_lf, proofs.Cutting.at_other, proofs.Cutting.line_cut, proofs.Cutting.not_found}
use Rattle.mlt_text_words.specs.Lines.{Raw, lines, onto, is_lf, without_cr}

up_to : (text more : List ℕ) (i : ℕ) → i < length text → is_lf (get_or text i 0) ≡ true → ((k : ℕ) → k < i → is_lf (get_or text k 0) ≡ false)
    → lines (take (suc i) text ++ more) ≡ record { bytes = take i text; ended = true } ∷ lines more
up_to [] more i h e o = absurd (omega arith)
up_to (b ∷ bs) more zero h e o = at_lf b more e
up_to (b ∷ bs) more (suc i) h e o =
    at_other b (take (suc i) bs ++ more) (o zero (omega arith)) ∙ ap (onto b) (up_to bs more i (omega arith) e (λ k l. o (suc k) (omega arith)))

-- a line that ends, whatever stands behind it
found : (text more : List ℕ) (i : ℕ) → position is_lf text ≡ Some i → lines (take (i + 1) text ++ more) ≡ record { bytes = take i text; ended = true } ∷ lines more
found text more i e =
    let h = position-Some is_lf text i 0 e in
    rw add-one (up_to text more i h.0 h.1 h.2)

heard_short : (bytes : List ℕ) → length bytes ≤ 200 → heard (record { bytes = bytes; ended = true }) ≡ Says (command_of (without_cr bytes)) ∷ []
heard_short bytes l = rw (le-ltb 200 (length bytes) l) refl

heard_long : (raw : Raw) → 200 < length raw.bytes → heard raw ≡ TooLong ∷ []
heard_long raw l = rw (lt-ltb 200 (length raw.bytes) l) refl

heard_cut : (bytes : List ℕ) → length bytes ≤ 200 → heard (record { bytes = bytes; ended = false }) ≡ []
heard_cut bytes l = rw (le-ltb 200 (length bytes) l) refl

first_of : (raw : Raw) (rest : List Raw) (ls : List SessionLine) → heard raw ≡ ls → flat_map heard (raw ∷ rest) ≡ ls ++ flat_map heard rest
first_of raw rest ls h = flat_map-cons heard raw rest ∙ ap (λ (l : List SessionLine). l ++ flat_map heard rest) h

-- no byte has no line
pub empty : lines_of [] ≡ []
unfolding lines_of lines
empty = refl

-- a prefix that is one short line, whatever stands behind it
module _ (prefix bytes : List ℕ) (line : (more : List ℕ) → lines (prefix ++ more) ≡ record { bytes = bytes; ended = true } ∷ lines more) (l : length bytes ≤ 200) where
  short : (more : List ℕ) → lines_of (prefix ++ more) ≡ Says (command_of (without_cr bytes)) ∷ lines_of more
  unfolding lines_of
  short more = ap (flat_map heard) (line more) ∙ first_of (record { bytes = bytes; ended = true }) (lines more) _ (heard_short bytes l)

  alone : lines_of prefix ≡ Says (command_of (without_cr bytes)) ∷ []
  alone = ap lines_of (sym (append-nil prefix)) ∙ short [] ∙ ap (λ (rest : List SessionLine). Says (command_of (without_cr bytes)) ∷ rest) empty

  splits : Splits prefix
  splits more = short more ∙ ap (λ (ls : List SessionLine). ls ++ lines_of more) (sym alone)

  is_next : (text : List ℕ) (count : ℕ) (r : Command) → take count text ≡ prefix → r ≡ command_of (without_cr bytes) → IsNext text (Says r) count
  is_next text count r e q = rw (e, q) (alone, splits)

pub next_found : (text : List ℕ) (i : ℕ) (r : Command) → position is_lf text ≡ Some i → i ≤ 200 → r ≡ command_of (without_cr (take i text)) → NextLine text (Some (Says r, i + 1))
next_found text i r e l q =
    let h = position-Some is_lf text i 0 e in
    let n : length (take i text) ≤ 200 = omega (arith, length-take i text) in (
      omega arith,
      (let k = h.0 in omega arith),
      is_next (take (i + 1) text) (take i text) (λ more. found text more i e) n text (i + 1) r refl q,
    )

-- a line of the plain form, by the length of what stands behind it
pub next_plain : (text t rest : List ℕ) (r : Command) → text ≡ t ++ 10 ∷ rest → list_all is_printable t ≡ true → length t ≤ 200 → r ≡ command_of t
    → NextLine text (Some (Says r, length text - length rest))
next_plain text t rest r e h l q =
    let n : length text - length rest ≡ length (t ++ 10 ∷ []) = let k = ap length e in omega (arith, k, length-append t (10 ∷ rest), length-append t (10 ∷ [])) in
    let f : take (length text - length rest) text ≡ t ++ 10 ∷ [] =
    ap (λ (c : ℕ). take c text) n ∙ ap (take (length (t ++ 10 ∷ []))) (e ∙ sym (append_assoc t (10 ∷ []) rest)) ∙ take-append_seam (t ++ 10 ∷ []) rest in
    let m = length-append t (10 ∷ rest) in
    let k = ap length e in (
      omega (arith, k, m),
      omega arith,
      is_next (t ++ 10 ∷ []) t (λ more. ap lines (append_assoc t (10 ∷ []) more) ∙ line_cut t more h) l text (length text - length rest) r f (q ∙ ap command_of (sym (no_cr t (all_allowed t h)))),
    )

pub next_long : (text : List ℕ) (i : ℕ) → position is_lf text ≡ Some i → 200 < i → NextLine text (Some (TooLong, length text))
unfolding lines_of
next_long text i e l =
    let h = position-Some is_lf text i 0 e in
    let k = h.0 in
    let n : 200 < length (take i text) = omega (arith, length-take i text) in
    let same : lines_of text ≡ TooLong ∷ lines_of (drop (i + 1) text) =
    ap lines_of (sym (take-append-drop (i + 1) text)) ∙ ap (flat_map heard) (found text (drop (i + 1) text) i e)
    ∙ first_of (record { bytes = take i text; ended = true }) (lines (drop (i + 1) text)) _ (heard_long (record { bytes = take i text; ended = true }) n) in
    (omega arith, omega arith, (lines_of (drop (i + 1) text), same))

-- the only line of a text without an LF
cut : (text : List ℕ) (ls : List SessionLine) → 0 < length text → position is_lf text ≡ None → heard (record { bytes = text; ended = false }) ≡ ls → lines_of text ≡ ls
unfolding lines_of
cut text ls some e h =
    ap (flat_map heard) (not_found text some e) ∙ first_of (record { bytes = text; ended = false }) (lines []) ls h ∙ ap (λ (rest : List SessionLine). ls ++ rest) empty ∙ append-nil ls

pub next_endless : (text : List ℕ) → position is_lf text ≡ None → 200 < length text → NextLine text (Some (TooLong, length text))
next_endless text e l =
    (omega arith, omega arith, ([], cut text (TooLong ∷ []) (omega arith) e (heard_long (record { bytes = text; ended = false }) l)))

pub next_none : (text : List ℕ) → position is_lf text ≡ None → length text ≤ 200 → NextLine text None
next_none [] e l = (empty, l)
next_none (b ∷ bs) e l = (cut (b ∷ bs) [] (omega arith) e (heard_cut (b ∷ bs) l), l)
