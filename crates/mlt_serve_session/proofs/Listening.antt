-- A session that goes on, and how it ends.
use Rattle.std.proofs.Common.{◌≡◌, ◌⊎◌, inl, inr, ℕ, ◌+◌, ◌≤◌, List, [], ◌++◌, length, take, drop, Option, Bool, true, false, refl, sym, ap, subst, ◌∙◌, arith, append_assoc, append-nil, take-append-drop, length-append, length-take, take_all, flat_map}
use Rattle.std.{proofs.Math.Seq.take-append_seam, proofs.lemmas.List.map-append, proofs.lemmas.List.nil_from_length, specs.Io.KnownBytes.Appends, specs.Io.KnownBytes.Consumes, specs.Io.KnownBytes.IsAtEnd, proofs.KnownBytes.Appends-trans, proofs.KnownBytes.Consumes-trans}
use Rattle.mlt_serve_session.proofs.Names.{flat_map-append, empty, Appends-nil, Consumes-nil, AppendsFront, SessionLine, Covers, IsRest, Reaches, lines_in, lines_of, Splits, Listens, Talked, Broken, BrokenHeard, AreLines, EndsInput, streams, Turn, turn_text, TalkState, Goes, splits_both, Moves}
use Rattle.mlt_serve_session.{specs.Batches.Front, specs.Rounds.Heard, specs.Rounds.Replied, specs.Rounds.Stopped, specs.Rounds.Streams, specs.Rounds.Unwritten, proofs.Reaching.covers_all, proofs.Reaching.goes_on, proofs.Reaching.reaches_begin}
use Rattle.mlt_event_text.proofs.Splitting.{splits_none, prefix_lines, prefix_begins}

-- a session of which nothing was read
pub starts : {D : Type 0} (moves : Moves D) (client : ℕ) (p : TalkState D) (a w : Option (List ℕ)) → p.progress.lines ≡ 0 → Listens moves client p (streams a a w w) [] 0 p
starts moves client p a w l =
    record {
      turns = [];
      prefix = [];
      goes = refl;
      consumed = Consumes-nil a;
      wrote = Appends-nil w;
      splits = splits_none;
      lines = empty;
      rest = empty;
      short = omega arith;
      sum = omega arith;
      counted = omega arith;
    }

-- the lines of a text behind those that were heard
lines_behind : (over : Bool) (prefix text : List ℕ) (ls ms : List SessionLine) → Splits prefix → lines_of prefix ≡ ls → AreLines over text ms → AreLines over (prefix ++ text) (ls ++ ms)
lines_behind false prefix text ls ms s e h = prefix_lines prefix text ls s e ∙ ap (λ (l : List SessionLine). ls ++ l) h
lines_behind true prefix text ls ms s e h = prefix_begins prefix text ls ms s e h

-- the bytes up to the limit
up_to_limit : (front piece : List ℕ) (total limit : ℕ) → length front ≡ total → total ≤ limit → (length piece ≡ 0) ⊎ (total ≡ limit) → take limit (front ++ piece) ≡ front
up_to_limit front piece total limit n fits (inl none) =
    ap (λ (l : List ℕ). take limit (front ++ l)) (nil_from_length piece none) ∙ ap (take limit) (append-nil front) ∙ take_all limit front (omega arith)
up_to_limit front piece total limit n fits (inr full) = subst (λ (l : ℕ). take l (front ++ piece) ≡ front) (n ∙ full) (take-append_seam front piece)

-- one more piece was read
module _ {D : Type 0} {moves : Moves D} {client : ℕ} {p m : TalkState D} {bytes : Streams} {held : List ℕ} {total : ℕ} (h : Listens moves client p bytes held total m)
    (piece : List ℕ) (c : Option (List ℕ)) (read : Consumes bytes.read_after c piece) where
  taken_length : (most : ℕ) → total + length piece ≤ most → length ((h.prefix ++ held) ++ piece) ≤ most
  taken_length most fits = let s = h.sum in omega (arith, length-append (h.prefix ++ held) piece, length-append h.prefix held)

  -- what was read so far and this piece, with the turns so far and more
  abbrev heard_more : (q : TalkState D) (most : ℕ) (us : List Turn) → total + length piece ≤ most → Goes moves client m us q → Heard moves client p bytes.read_before c most q
  heard_more q most us fits goes =
      record {
        taken = (h.prefix ++ held) ++ piece;
        turns = h.turns ++ us;
        consumed = Consumes-trans bytes.read_before bytes.read_after c (h.prefix ++ held) piece h.consumed read;
        within = taken_length most fits;
        goes = goes_on moves client p m q h.turns us h.goes goes;
      }

  lines_more : (over : Bool) (all text : List ℕ) (us : List Turn) → all ≡ h.prefix ++ text → AreLines over text (lines_in us) → AreLines over all (lines_in (h.turns ++ us))
  lines_more over all text us is are =
      subst (λ l. AreLines over l (lines_in (h.turns ++ us))) (sym is)
      (subst (AreLines over (h.prefix ++ text)) (sym (map-append (λ (t : Turn). t.line) h.turns us)) (lines_behind over h.prefix text (lines_in h.turns) (lines_in us) h.splits h.lines are))

  wrote_more : (u : Option (List ℕ)) (us : List Turn) → Appends bytes.wrote_after u (flat_map turn_text us) → Appends bytes.wrote_before u (flat_map turn_text (h.turns ++ us))
  wrote_more u us wrote =
      subst (Appends bytes.wrote_before u) (sym (flat_map-append turn_text h.turns us))
      (Appends-trans bytes.wrote_before bytes.wrote_after u (flat_map turn_text h.turns) (flat_map turn_text us) h.wrote wrote)

  -- the input ended
  pub ends_here : total + length piece ≤ 16777216 → m.progress.over ≡ false → length piece ≡ 0 → IsAtEnd c → Talked moves client p (streams bytes.read_before c bytes.wrote_before bytes.wrote_after) m
  ends_here fits o n end =
      let none : lines_of (held ++ piece) ≡ [] = ap (λ (l : List ℕ). lines_of (held ++ l)) (nil_from_length piece n) ∙ ap lines_of (append-nil held) ∙ h.rest in
      record {
        heard = heard_more m 16777216 [] fits refl;
        lines = lines_more m.progress.over _ (held ++ piece) [] (append_assoc h.prefix held piece) (subst (λ over. AreLines over (held ++ piece) []) (sym o) none);
        wrote = wrote_more bytes.wrote_after [] (Appends-nil bytes.wrote_after);
        ended = subst (λ over. EndsInput over c) (sym o) end;
      }

  -- a line ended the session
  pub is_over : {u : Option (List ℕ)} {up_to : Front} {q : TalkState D} → total + length piece ≤ 16777216 → up_to.text ≡ held ++ piece → Replied moves client m up_to bytes.wrote_after u q
      → q.progress.over ≡ true → Talked moves client p (streams bytes.read_before c bytes.wrote_before u) q
  is_over {u} {up_to} {q} fits same r o =
      let are = covers_all q.progress.over up_to.text up_to.at (lines_in r.turns) r.covers r.rest in
      record {
        heard = heard_more q 16777216 r.turns fits r.goes;
        lines = lines_more q.progress.over _ (held ++ piece) r.turns (append_assoc h.prefix held piece) (subst (λ text. AreLines q.progress.over text (lines_in r.turns)) same are);
        wrote = wrote_more u r.turns r.wrote;
        ended = subst (λ over. EndsInput over c) (sym o) tt;
      }

  -- an answer was not written, or not kept
  pub stops : {u : Option (List ℕ)} {text : List ℕ} {q : TalkState D} → total + length piece ≤ 16777217 → text ≡ held ++ piece → Stopped moves client m text bytes.wrote_after u q
      → Broken moves client p (streams bytes.read_before c bytes.wrote_before u) q
  stops {u} {text} {q} fits same s =
      let wrote = s.wrote in
      record {
        heard = heard_more q 16777217 s.turns fits s.goes;
        begins = lines_more true _ (held ++ piece) s.turns (append_assoc h.prefix held piece) (subst (λ bytes. AreLines true bytes (lines_in s.turns)) same s.begins);
        wrote = (
          flat_map turn_text h.turns ++ wrote.0,
          wrote.1,
          flat_map-append turn_text h.turns s.turns ∙ ap (λ (t : List ℕ). flat_map turn_text h.turns ++ t) wrote.2 ∙ sym (append_assoc (flat_map turn_text h.turns) wrote.0 wrote.1),
          Appends-trans bytes.wrote_before bytes.wrote_after u (flat_map turn_text h.turns) wrote.0 h.wrote wrote.3,
        );
      }

  -- a read failed, or gave too much
  pub breaks : total + length piece ≤ 16777217 → Broken moves client p (streams bytes.read_before c bytes.wrote_before bytes.wrote_after) m
  breaks fits = stops fits refl (record { turns = []; goes = refl; begins = (lines_of (held ++ piece), refl); wrote = ([], [], refl, Appends-nil bytes.wrote_after) })

  -- the same, and all lines up to the limit were heard
  pub breaks_heard : total ≤ 16777216 → total + length piece ≤ 16777217 → (length piece ≡ 0) ⊎ (total ≡ 16777216) → m.progress.over ≡ false
      → BrokenHeard moves client p (streams bytes.read_before c bytes.wrote_before bytes.wrote_after) m
  unfolding breaks stops
  breaks_heard fits few cut o =
      let n : length (h.prefix ++ held) ≡ total = (let s = h.sum in omega (arith, length-append h.prefix held)) in
      record {
        broken = breaks few;
        lines = lines_more m.progress.over _ held [] (up_to_limit (h.prefix ++ held) piece total 16777216 n fits cut) (subst (λ over. AreLines over held []) (sym o) h.rest);
        whole = λ _. wrote_more bytes.wrote_after [] (Appends-nil bytes.wrote_after);
      }

  -- an answer was not written: all lines were heard
  pub stops_heard : {u : Option (List ℕ)} {text : List ℕ} {q : TalkState D} → total + length piece ≤ 16777216 → text ≡ held ++ piece → Unwritten moves client m text bytes.wrote_after u q
      → BrokenHeard moves client p (streams bytes.read_before c bytes.wrote_before u) q
  unfolding stops
  stops_heard {u} {text} {q} fits same s =
      let few = taken_length 16777216 fits in
      record {
        broken = stops (omega arith) same s.stopped;
        lines = lines_more q.progress.over _ (held ++ piece) s.stopped.turns (take_all 16777216 ((h.prefix ++ held) ++ piece) few ∙ append_assoc h.prefix held piece)
            (subst (λ l. AreLines q.progress.over l (lines_in s.stopped.turns)) same s.lines);
        whole = λ past. absurd (omega arith);
      }

  -- the session goes on
  pub goes_further : {u : Option (List ℕ)} {up_to : Front} {q : TalkState D} {left : List ℕ} (next : ℕ) → next ≡ total + length piece → up_to.text ≡ held ++ piece
      → Replied moves client m up_to bytes.wrote_after u q → q.progress.over ≡ false → q.progress.lines ≤ m.progress.lines + up_to.at → left ≡ drop up_to.at up_to.text
      → Listens moves client p (streams bytes.read_before c bytes.wrote_before u) left next q
  goes_further {u} {up_to} {q} {left} next all same r o few cut =
      let text = up_to.text in
      let at = up_to.at in
      let covers = subst (λ over. Covers over text at (lines_in r.turns)) o r.covers in
      let rest = subst (λ over. IsRest over (drop at text)) o r.rest in
      let whole : (h.prefix ++ take at text) ++ left ≡ (h.prefix ++ held) ++ piece =
      append_assoc h.prefix (take at text) left ∙ ap (λ (l : List ℕ). h.prefix ++ l) (ap (λ (l : List ℕ). take at text ++ l) cut ∙ take-append-drop at text ∙ same)
      ∙ sym (append_assoc h.prefix held piece) in
      let n : length (take at text) ≡ at = (let k = r.within in omega (arith, length-take at text)) in
      record {
        turns = h.turns ++ r.turns;
        prefix = h.prefix ++ take at text;
        goes = goes_on moves client p m q h.turns r.turns h.goes r.goes;
        consumed = subst (Consumes bytes.read_before c) (sym whole) (Consumes-trans bytes.read_before bytes.read_after c (h.prefix ++ held) piece h.consumed read);
        wrote = wrote_more u r.turns r.wrote;
        splits = splits_both h.prefix (take at text) h.splits covers.0;
        lines = lines_more false _ (take at text) r.turns refl covers.1;
        rest = ap lines_of cut ∙ rest.0;
        short = subst (λ (l : List ℕ). length l ≤ 200) (sym cut) rest.1;
        sum = (let t = h.sum in omega (arith, ap length whole, length-append (h.prefix ++ take at text) left, length-append (h.prefix ++ held) piece, length-append h.prefix held));
        counted = (let k = h.counted in omega (arith, length-append h.prefix (take at text)));
      }

-- the lines of a text were answered, and the answers not all written
pub not_written : {D : Type 0} {moves : Moves D} {client : ℕ} {p q : TalkState D} {up_to : Front} {before out : List ℕ} (w v : Option (List ℕ)) (r : Reaches moves client p up_to before out q)
    → IsRest q.progress.over (drop up_to.at up_to.text) → before ≡ [] → AppendsFront w v out → Unwritten moves client p up_to.text w v q
not_written {q = q} {up_to = up_to} w v r rest none written =
    record {
      stopped = record {
        turns = r.turns;
        goes = r.goes;
        begins = reaches_begin r;
        wrote = subst (AppendsFront w v) (r.says ∙ ap (λ (front : List ℕ). front ++ flat_map turn_text r.turns) none) written;
      };
      lines = covers_all q.progress.over up_to.text up_to.at (lines_in r.turns) r.covers rest;
    }
