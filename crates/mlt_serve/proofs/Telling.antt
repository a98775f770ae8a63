-- A history tells all that is in outcomes, as it grows, and as others come behind them.
use Rattle.std.proofs.Common.{◌≡◌, ◌++◌, List, [], ◌∷◌, All, ℕ, ap, subst, sym, get_or, Contains, IsPermutation}
use Rattle.std.proofs.lemmas.{Grind.merely, List.Elements.Contains-append_left, List.Elements.Contains-append_right}
use Rattle.mlt_serve.proofs.Names.{All-append, All-nil, All-weaker, All-permutation, TraceItem, Outcome, Moves, StartsWith, GrowsFor, TellsOutcomes, DeskAnswer, DeskCall, ops_of-append, ops_of, IsSubsequence}
use mathlib.Core.Logic.{∥∥₁_map}
use Rattle.mlt_script_serial.specs.declared.outcome.End.{End}
use Rattle.mlt_serve_session.specs.{Desks.Answers, Given.Gave, Given.GaveAll, Given.GaveEnd}
use Rattle.mlt_work_desk.{specs.Holds.Begins, specs.Holds.SeesAnswer, proofs.Seeing.more_than, proofs.Seeing.no_more, proofs.Subsequences.before_more}
use Rattle.mlt_serve.{specs.Tellings.TellsAll, specs.Tellings.TellsEnd, specs.Tellings.TellsOutcome}

module _ {D : Type 0} (view : D → List TraceItem) (begun : D → List ℕ) where
  -- how a desk moves, by what it has seen of the history, and has begun
  abbrev pub moves_of : Moves D
  moves_of old call given new = SeesAnswer (view old) call given (view new) × Begins (begun old) call given (begun new)

  -- what it has seen
  abbrev pub seen : D → List TraceItem
  seen d = view d

  -- it has seen what it had seen
  pub run_more : (old : D) (calls : List DeskCall) (answers : List DeskAnswer) (new : D) → Answers moves_of old calls answers new → StartsWith (seen new) (seen old)
  run_more old [] [] new same = no_more (seen old) (seen new) (ap seen same)
  run_more old (c ∷ calls) (a ∷ answers) new (mid, moved, rest) =
      more_than (seen old) (seen mid) (seen new) (run_more mid calls answers new rest) (moved.1.0.more, moved.1.0.whole)
  run_more old [] (a ∷ answers) new none = absurd none
  run_more old (c ∷ calls) [] new none = absurd none

  module _ (last : D) where
    -- what it saw by an answer it has seen at last
    contains_last : (c : DeskCall) (a : DeskAnswer) (gave : Gave moves_of last c a) (item : TraceItem) → Contains gave.moved.0.more item → Contains (seen last) item
    contains_last c a gave item have =
        let sees = gave.moved.0 in
        let more = run_more gave.after gave.leads.calls gave.leads.answers last gave.leads.run in
        let here = subst (λ xs. Contains xs item) (sym sees.whole) (Contains-append_right (seen gave.before) sees.more item have) in
        subst (λ xs. Contains xs item) (sym more.1) (Contains-append_left (seen gave.after) more.0 item here)

    end_told : (tx : ℕ) (e : End) → GaveEnd moves_of last tx e → TellsEnd (seen last) tx e
    end_told tx (End.Committed n) gave = contains_last _ _ gave (TraceItem.Commit tx n) gave.moved.0.have
    end_told tx End.Aborted gave = tt
    end_told tx (End.Refused r) gave = tt

    outcome_told : (o : Outcome) → GaveAll moves_of last o → IsSubsequence o.done (ops_of o.tx (seen last)) → TellsOutcome (seen last) o
    outcome_told o gave in_order = merely (record {
      begun = contains_last _ _ gave.begun (TraceItem.Begin o.tx) gave.begun.moved.0.have;
      replies = in_order;
      end = end_told o.tx o.end gave.end;
    })

    -- the history that such a desk has seen tells what it answered
    pub all_told : (outcomes : List Outcome) → All (GaveAll moves_of last) outcomes → All (λ o. IsSubsequence o.done (ops_of o.tx (seen last))) outcomes → TellsOutcomes (seen last) outcomes
    all_told outcomes gave in_order = λ k d within. outcome_told (get_or outcomes k d) (gave k d within) (in_order k d within)

-- where there are none
pub none_told : (items : List TraceItem) (outcomes : List Outcome) → outcomes ≡ [] → TellsOutcomes items outcomes
none_told items outcomes none = subst (TellsOutcomes items) (sym none) (All-nil (TellsOutcome items))

-- what the first items tell, all of them tell
module _ (items first : List TraceItem) (more : StartsWith items first) where
  still_contains : (item : TraceItem) → Contains first item → Contains items item
  still_contains item have = subst (λ xs. Contains xs item) (sym more.1) (Contains-append_left first more.0 item have)

  still_ended : (tx : ℕ) (e : End) → TellsEnd first tx e → TellsEnd items tx e
  still_ended tx (End.Committed n) tells = still_contains (TraceItem.Commit tx n) tells
  still_ended tx End.Aborted tells = tt
  still_ended tx (End.Refused r) tells = tt

  still_tells : (o : Outcome) → TellsOutcome first o → TellsOutcome items o
  still_tells o told = ∥∥₁_map told (λ (tells : TellsAll first o). record {
    begun = still_contains (TraceItem.Begin o.tx) tells.begun;
    replies = subst (λ xs. IsSubsequence o.done (ops_of o.tx xs)) (sym more.1) (subst (λ l. IsSubsequence o.done l) (sym (ops_of-append o.tx first more.0)) (before_more o.done (ops_of o.tx first) (ops_of o.tx more.0) tells.replies));
    end = still_ended o.tx o.end tells.end;
  })

  pub still_told : (outcomes : List Outcome) → TellsOutcomes first outcomes → TellsOutcomes items outcomes
  still_told outcomes told = All-weaker (TellsOutcome first) (TellsOutcome items) still_tells outcomes told

-- after a session
pub grown_told : (items first : List TraceItem) (client : ℕ) (old new : List Outcome) → StartsWith items first → TellsOutcomes first old → GrowsFor items client old new → TellsOutcomes items new
grown_told items first client old new more told grows =
    subst (TellsOutcomes items) (sym grows.appended) (All-append (TellsOutcome items) old grows.more (still_told items first more old told) grows.told)

-- after those of another thread were taken in
pub both_told : (items first : List TraceItem) (old more new : List Outcome) → StartsWith items first → IsPermutation (old ++ more) new → TellsOutcomes items old → TellsOutcomes first more
    → TellsOutcomes items new
both_told items first old more new longer same told more_told =
    All-permutation (TellsOutcome items) (old ++ more) new same (All-append (TellsOutcome items) old more told (still_told items first longer more more_told))
