-- How far the lines of a text were answered.
use Rattle.std.proofs.Common.{◌≡◌, ℕ, ◌+◌, ◌-◌, List, [], ◌∷◌, ◌++◌, length, take, drop, Bool, true, false, Some, refl, sym, ap, subst, ◌∙◌, arith, append_assoc, append-nil, take-append-drop, length-drop, flat_map, Result, Err, IsErrAnd, IsErrOf}
use Rattle.std.proofs.{Math.Seq.take-add, lemmas.List.map_push, lemmas.List.take_rest}
use Rattle.mlt_serve_session.proofs.Names.{flat_map-append, err_from_is_err_and, empty, SessionLine, Says, TooLong, Covers, IsRest, Reaches, front, lines_in, AreLines, lines_of, Splits, splits_both, Turn, turn_text, ends, TalkState, Goes, Moves}
use Rattle.mlt_serve_session.specs.{declared.said.Said.Said, Batches.BrokeOff, Batches.Front, Texts.said_text, Turns.TakesTurn, Turns.turn_at}
use Rattle.mlt_event_text.{specs.Inputs.Begins, specs.Inputs.NextLine, specs.Inputs.IsNext, proofs.Splitting.prefix_lines}

-- an error that was passed on is the same one
pub same_error : {S T E : Type 0} (result : Result T E) (e x : E) → IsErrAnd result (λ y. y ≡ e) → IsErrOf result x → IsErrOf {T = S} {E = E} (Err e) x
same_error result e x passed is = let p = err_from_is_err_and result passed in cc (p.1, p.2, is)

-- turns, and then more turns
pub goes_on : {D : Type 0} (moves : Moves D) (client : ℕ) (p m q : TalkState D) (ts us : List Turn) → Goes moves client p ts m → Goes moves client m us q → Goes moves client p (ts ++ us) q
goes_on moves client p m q [] us h k = subst (λ o. Goes moves client o us q) h k
goes_on moves client p m q (t ∷ ts) us h k = (h.0, h.1, goes_on moves client h.0 m q ts us h.2 k)

-- the lines up to here, and then those of the rest
lines_cut : (text : List ℕ) (at : ℕ) (ls : List SessionLine) → Covers false text at ls → lines_of text ≡ ls ++ lines_of (drop at text)
lines_cut text at ls h = ap lines_of (sym (take-append-drop at text)) ∙ prefix_lines (take at text) (drop at text) ls h.0 h.1

-- the lines up to here are the first ones
covers_begin : (over : Bool) (text : List ℕ) (at : ℕ) (ls : List SessionLine) → Covers over text at ls → Begins text ls
covers_begin true text at ls h = h
covers_begin false text at ls h = (lines_of (drop at text), lines_cut text at ls h)

-- they are all its lines
pub covers_all : (over : Bool) (text : List ℕ) (at : ℕ) (ls : List SessionLine) → Covers over text at ls → IsRest over (drop at text) → AreLines over text ls
covers_all true text at ls h rest = h
covers_all false text at ls h rest = lines_cut text at ls h ∙ ap (λ (more : List SessionLine). ls ++ more) rest.0 ∙ append-nil ls

more_covered : (text : List ℕ) (at n : ℕ) (ls : List SessionLine) (l : SessionLine) → Covers false text at ls → lines_of (take n (drop at text)) ≡ l ∷ [] → Splits (take n (drop at text))
    → Covers false text (at + n) (ls ++ l ∷ [])
more_covered text at n ls l h e s =
    let cut = take-add at n text in (
      subst Splits (sym cut) (splits_both (take at text) (take n (drop at text)) h.0 s),
      ap lines_of cut ∙ prefix_lines (take at text) (take n (drop at text)) ls h.0 h.1 ∙ ap (λ (rest : List SessionLine). ls ++ rest) e,
    )

covers_more : (text : List ℕ) (at n : ℕ) (ls : List SessionLine) (l : SessionLine) (over : Bool) → over ≡ ends l → Covers false text at ls → IsNext (drop at text) l n
    → Covers over text (at + n) (ls ++ l ∷ [])
covers_more text at n ls (Says r) false e h i = more_covered text at n ls (Says r) h i.0 i.1
covers_more text at n ls (Says r) true e h i = covers_begin false text (at + n) (ls ++ Says r ∷ []) (more_covered text at n ls (Says r) h i.0 i.1)
covers_more text at n ls TooLong false e h i = absurd (cc e)
covers_more text at n ls TooLong true e h i =
    (i.0, lines_cut text at ls h ∙ ap (λ (rest : List SessionLine). ls ++ rest) i.1 ∙ sym (append_assoc ls (TooLong ∷ []) i.0))

module _ {D : Type 0} {moves : Moves D} {client : ℕ} {p m : TalkState D} {up_to : Front} {before mid : List ℕ} (r : Reaches moves client p up_to before mid m) where
  -- one more line was answered
  pub reaches_more : {q : TalkState D} {line : SessionLine} {said : Said} {after : List ℕ} (n : ℕ) → m.progress.over ≡ false
      → NextLine (take (length up_to.text - up_to.at) (drop up_to.at up_to.text)) (Some (line, n)) → TakesTurn moves client m line said q → after ≡ mid ++ said_text said
      → Reaches moves client p (front up_to.text (up_to.at + n)) before after q
  reaches_more {q} {line} {said} {after} n o next t e =
      let turn : Turn = turn_at m.progress.tx line t.answer in
      let nx = subst (λ (rest : List ℕ). NextLine rest (Some (line, n))) (take_rest up_to.text up_to.at) next in
      let here = subst (λ b. Covers b up_to.text up_to.at (lines_in r.turns)) o r.covers in
      record {
        turns = r.turns ++ turn ∷ [];
        goes = goes_on moves client p m q r.turns (turn ∷ []) r.goes (q, t.step, refl);
        says = e ∙ ap (λ (prefix : List ℕ). prefix ++ said_text said) r.says ∙ append_assoc before (flat_map turn_text r.turns) (said_text said)
            ∙ ap (λ (rest : List ℕ). before ++ (flat_map turn_text r.turns ++ rest)) (ap said_text t.says ∙ sym (append-nil (turn_text turn)))
            ∙ ap (λ (rest : List ℕ). before ++ rest) (sym (flat_map-append turn_text r.turns (turn ∷ [])));
        within = (let w = r.within in let k = nx.1 in omega (arith, length-drop up_to.at up_to.text));
        covers = subst (Covers q.progress.over up_to.text (up_to.at + n)) (sym (map_push (λ (u : Turn). u.line) r.turns turn))
            (covers_more up_to.text up_to.at n (lines_in r.turns) line q.progress.over (ap (λ s. s.over) t.step.after) here nx.2);
      }

  -- the lines up to here are the first ones of the text
  pub reaches_begin : Begins up_to.text (lines_in r.turns)
  reaches_begin = covers_begin m.progress.over up_to.text up_to.at (lines_in r.turns) r.covers

  -- nothing more was asked
  pub broke_here : {q : TalkState D} → q ≡ m → BrokeOff moves client p up_to.text q
  broke_here e = record { turns = r.turns; goes = subst (Goes moves client p r.turns) (sym e) r.goes; begins = reaches_begin }

-- at the start
pub reaches_none : {D : Type 0} (moves : Moves D) (client : ℕ) (p : TalkState D) (text before : List ℕ) → p.progress.over ≡ false → Reaches moves client p (front text 0) before before p
reaches_none moves client p text before o =
    record {
      turns = [];
      goes = refl;
      says = sym (append-nil before);
      within = omega arith;
      covers = subst (λ b. Covers b text 0 []) (sym o) (λ more. ap (λ (prefix : List SessionLine). prefix ++ lines_of more) (sym empty), empty);
    }
