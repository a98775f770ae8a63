-- Lines that end, whatever stands behind them.
use Rattle.std.proofs.Common.{◌≡◌, ◌≤◌, ◌+◌, ℕ, Bool, true, false, cond, List, [], ◌∷◌, ◌++◌, length, refl, sym, ap, subst, ◌∙◌, append_assoc, arith}
use Rattle.mlt_trace_check.proofs.Names.{Raw, is_lf}
use Rattle.mlt_text_words.{specs.Lines.lines, specs.Lines.onto, proofs.Cutting.at_lf, proofs.Cutting.at_other}

-- the text of these lines
abbrev joined : List Raw → List ℕ
joined [] = []
joined (raw ∷ raws) = raw.bytes ++ cond raw.ended (10 ∷ joined raws) (joined raws)

joined_onto : (b : ℕ) (ls : List Raw) → joined (onto b ls) ≡ b ∷ joined ls
joined_onto b [] = refl
joined_onto b (raw ∷ raws) = refl

is_ten : (b : ℕ) → is_lf b ≡ true → 10 ≡ b
is_ten b h = grind arith

whether : (v : Bool) (P : Type 0) → (v ≡ true → P) → (v ≡ false → P) → P
whether true P f g = f refl
whether false P f g = g refl

joined_lines : (t : List ℕ) → joined (lines t) ≡ t
unfolding lines
joined_lines [] = refl
joined_lines (b ∷ bs) =
    whether (is_lf b) (joined (lines (b ∷ bs)) ≡ b ∷ bs)
    (λ lf. ap joined (at_lf b bs lf) ∙ (let ten = is_ten b lf in let rest = joined_lines bs in λ i. ten i ∷ rest i))
    (λ other. ap joined (at_other b bs other) ∙ joined_onto b (lines bs) ∙ ap (λ t. b ∷ t) (joined_lines bs))

-- texts of the same lines
same_text : (s t : List ℕ) → lines s ≡ lines t → s ≡ t
same_text s t e = sym (joined_lines s) ∙ ap joined e ∙ joined_lines t

by_end : (v : Bool) (bytes rest : List ℕ) → (front : List ℕ) × (bytes ++ cond v (10 ∷ rest) rest ≡ front ++ rest)
by_end true bytes rest = (bytes ++ 10 ∷ [], sym (append_assoc bytes (10 ∷ []) rest))
by_end false bytes rest = (bytes, refl)

-- what stands behind the first line
pub behind_first : (text rest : List ℕ) (raw : Raw) → lines text ≡ raw ∷ lines rest → (front : List ℕ) × (text ≡ front ++ rest)
behind_first text rest raw e =
    let cut = by_end raw.ended raw.bytes rest in (
      cut.0,
      sym (joined_lines text) ∙ ap joined e ∙ ap (λ t. raw.bytes ++ cond raw.ended (10 ∷ t) t) (joined_lines rest) ∙ cut.1,
    )

-- an LF ends each line
abbrev pub AllEnd : List Raw → Type 0
AllEnd [] = Unit {0}
AllEnd (raw ∷ raws) = (raw.ended ≡ true) × AllEnd raws

-- a front of the text has these lines, whatever stands behind it, and the rest stands behind it
pub record HasFront (text rest : List ℕ) (raws : List Raw) : Type 0 where
  pub front : List ℕ
  pub cut : text ≡ front ++ rest
  pub whole : (more : List ℕ) → lines (front ++ more) ≡ raws ++ lines more

front_none : (text rest : List ℕ) → lines text ≡ lines rest → HasFront text rest []
front_none text rest e = record { front = []; cut = same_text text rest e; whole = λ more. refl }

front_lf : (b : ℕ) (bs rest : List ℕ) (raw : Raw) (raws : List Raw) → is_lf b ≡ true → record { bytes = []; ended = true } ≡ raw → HasFront bs rest raws → HasFront (b ∷ bs) rest (raw ∷ raws)
front_lf b bs rest raw raws lf head h = record {
  front = b ∷ h.front;
  cut = ap (λ t. b ∷ t) h.cut;
  whole = λ more. at_lf b (h.front ++ more) lf ∙ (let tail = h.whole more in λ i. head i ∷ tail i);
}

front_other : (b : ℕ) (bs rest : List ℕ) (first raw : Raw) (raws : List Raw) → is_lf b ≡ false → record { bytes = b ∷ first.bytes; ended = first.ended } ≡ raw
    → HasFront bs rest (first ∷ raws) → HasFront (b ∷ bs) rest (raw ∷ raws)
front_other b bs rest first raw raws other head h = record {
  front = b ∷ h.front;
  cut = ap (λ t. b ∷ t) h.cut;
  whole = λ more. at_other b (h.front ++ more) other ∙ ap (onto b) (h.whole more) ∙ ap (λ r. r ∷ (raws ++ lines more)) head;
}

front_onto : (b : ℕ) (bs rest : List ℕ) (raw : Raw) (raws ls : List Raw) → is_lf b ≡ false → AllEnd (raw ∷ raws) → lines bs ≡ ls → onto b ls ≡ raw ∷ (raws ++ lines rest)
    → ((others : List Raw) → AllEnd others → lines bs ≡ others ++ lines rest → HasFront bs rest others) → HasFront (b ∷ bs) rest (raw ∷ raws)
front_onto b bs rest raw raws [] other all is e ih =
    let head : record { bytes = b ∷ []; ended = false } ≡ raw = cc e in
    absurd (let f : false ≡ true = ap (λ (r : Raw). r.ended) head ∙ all.0 in cc f)
front_onto b bs rest raw raws (first ∷ ls) other all is e ih =
    let head : record { bytes = b ∷ first.bytes; ended = first.ended } ≡ raw = cc e in
    let tail : ls ≡ raws ++ lines rest = cc e in
    front_other b bs rest first raw raws other head (ih (first ∷ raws) (ap (λ (r : Raw). r.ended) head ∙ all.0, all.1) (is ∙ ap (λ rs. first ∷ rs) tail))

pub has_front : (text rest : List ℕ) (raws : List Raw) → AllEnd raws → lines text ≡ raws ++ lines rest → HasFront text rest raws
unfolding lines
has_front text rest [] all e = front_none text rest e
has_front [] rest (raw ∷ raws) all e = absurd (cc e)
has_front (b ∷ bs) rest (raw ∷ raws) all e =
    whether (is_lf b) (HasFront (b ∷ bs) rest (raw ∷ raws))
    (λ lf.
    let cut : record { bytes = []; ended = true } ∷ lines bs ≡ raw ∷ (raws ++ lines rest) = sym (at_lf b bs lf) ∙ e in
    let head : record { bytes = []; ended = true } ≡ raw = cc cut in
    let tail : lines bs ≡ raws ++ lines rest = cc cut in
    front_lf b bs rest raw raws lf head (has_front bs rest raws all.1 tail))
    (λ other. front_onto b bs rest raw raws (lines bs) other all refl (sym (at_other b bs other) ∙ e) (has_front bs rest))

-- the lines behind some that end, where more stands behind the text
pub lines_behind : (text rest more : List ℕ) (raws : List Raw) → AllEnd raws → lines text ≡ raws ++ lines rest → lines (text ++ more) ≡ raws ++ lines (rest ++ more)
lines_behind text rest more raws all e =
    let h = has_front text rest raws all e in
    ap lines (ap (λ t. t ++ more) h.cut ∙ append_assoc h.front rest more) ∙ h.whole (rest ++ more)

-- ---- a first line that is long

-- the first line has at least so many bytes
pub record BeginsLong (ls : List Raw) (n : ℕ) : Type 0 where
  pub first : Raw
  pub after : List Raw
  pub cut : ls ≡ first ∷ after
  pub long : n ≤ length first.bytes

onto_long : (b : ℕ) (ls : List Raw) (n : ℕ) → BeginsLong ls n → BeginsLong (onto b ls) (n + 1)
onto_long b ls n h = record {
  first = record { bytes = b ∷ h.first.bytes; ended = h.first.ended };
  after = h.after;
  cut = ap (onto b) h.cut;
  long = let long = h.long in omega arith;
}

onto_some : (b : ℕ) (ls : List Raw) → BeginsLong (onto b ls) 1
onto_some b [] = record { first = record { bytes = b ∷ []; ended = false }; after = []; cut = refl; long = omega arith }
onto_some b (raw ∷ raws) = record { first = record { bytes = b ∷ raw.bytes; ended = raw.ended }; after = raws; cut = refl; long = omega arith }

long_onto : (b : ℕ) (bs more : List ℕ) (raw : Raw) (raws ls : List Raw) → lines bs ≡ ls → onto b ls ≡ raw ∷ raws
    → ((first : Raw) (after : List Raw) → lines bs ≡ first ∷ after → BeginsLong (lines (bs ++ more)) (length first.bytes))
    → BeginsLong (onto b (lines (bs ++ more))) (length raw.bytes)
long_onto b bs more raw raws [] is e ih =
    let head : record { bytes = b ∷ []; ended = false } ≡ raw = cc e in
    let one : length raw.bytes ≡ 1 = sym (ap (λ (r : Raw). length r.bytes) head) in
    subst (BeginsLong (onto b (lines (bs ++ more)))) (sym one) (onto_some b (lines (bs ++ more)))
long_onto b bs more raw raws (first ∷ ls) is e ih =
    let head : record { bytes = b ∷ first.bytes; ended = first.ended } ≡ raw = cc e in
    let one : length (b ∷ first.bytes) ≡ length raw.bytes = ap (λ (r : Raw). length r.bytes) head in
    let count : length first.bytes + 1 ≡ length raw.bytes = omega (arith, one) in
    subst (BeginsLong (onto b (lines (bs ++ more)))) count (onto_long b (lines (bs ++ more)) (length first.bytes) (ih first ls is))

-- where more stands behind a text, its first line is no shorter
pub stays_long : (text more : List ℕ) (raw : Raw) (raws : List Raw) → lines text ≡ raw ∷ raws → BeginsLong (lines (text ++ more)) (length raw.bytes)
unfolding lines
stays_long [] more raw raws e = absurd (cc e)
stays_long (b ∷ bs) more raw raws e =
    whether (is_lf b) (BeginsLong (lines ((b ∷ bs) ++ more)) (length raw.bytes))
    (λ lf.
    let cut : record { bytes = []; ended = true } ∷ lines bs ≡ raw ∷ raws = sym (at_lf b bs lf) ∙ e in
    let head : record { bytes = []; ended = true } ≡ raw = cc cut in
    let none : length raw.bytes ≡ 0 = sym (ap (λ (r : Raw). length r.bytes) head) in
    record { first = record { bytes = []; ended = true }; after = lines (bs ++ more); cut = at_lf b (bs ++ more) lf; long = omega (arith, none) })
    (λ other. subst (λ ls. BeginsLong ls (length raw.bytes)) (sym (at_other b (bs ++ more) other))
    (long_onto b bs more raw raws (lines bs) refl (sym (at_other b bs other) ∙ e) (stays_long bs more)))
