-- Whose outcomes a session adds.
use Rattle.std.proofs.Common.{◌≡◌, ◌⊎◌, inl, inr, ℕ, ◌+◌, ◌++◌, ◌∙◌, [], ◌∷◌, List, refl, ap, subst, sym, All, Option, Some, None, Result, Ok, Err, IfOk, IfErr, OnOk, IsPermutation, flat_map}
use Rattle.std.proofs.lemmas.{Grind.merely, List.map-append}
use Rattle.mlt_serve.proofs.Names.{All-append, All-nil, All-permutation, All-push, All-weaker, TraceItem, Outcome, Moves, StartsWith, GrowsFor, IsOf, DeskAnswer, DeskCall}
use Rattle.mlt_types.specs.declared.refusal.Refusal.{Refusal}
use Rattle.mlt_event_text.specs.Inputs.{lines_of}
use Rattle.mlt_serve_session.specs.Talks.{Turn, closing, closing_answers, open_at_end, turn_text}
use Rattle.mlt_serve_session.specs.Outcomes.{begins_by, begun_in, call_of, outcome_if, outcome_behind, outcomes_of}
use Rattle.mlt_serve_session.specs.Sessions.{Acted, BrokenOff, Scene, SessionAnswers, Spoken, Summed, all_answers, all_calls}
use Rattle.mlt_serve_session.specs.declared.sessions.Summary.{Summary}
use Rattle.mlt_work_desk.specs.Views.{DeskView}
use Rattle.mlt_work_desk.specs.declared.tries.Tries.{Tries}
use Rattle.mlt_serve_session.specs.{Desks.Answers, Given.GaveAll}
use Rattle.mlt_serve.specs.Desks.{AnswersOrHolds, AreGiven, WasGiven}
use Rattle.mlt_serve.proofs.Viewing.{acted_of, all_of, answer_keeps, begun_of, items_of, scene_of, sees_and_begins}
use Rattle.mlt_serve.{specs.Loads.Heard, specs.Loads.ends, specs.Tellings.txs_of, proofs.Following.AreTurns, proofs.Following.all_in_order, proofs.Following.begins_all, proofs.Following.are_turns, proofs.Following.first_turns, proofs.Telling.all_told, proofs.Telling.moves_of, proofs.Telling.run_more}

one_of_client : (client number : ℕ) (began : Option ℕ) (behind : List Turn) → All (IsOf client) (outcome_if client number began behind)
one_of_client client number None behind = All-nil (IsOf client)
one_of_client client number (Some tx) behind = All-push (IsOf client) [] (outcome_behind client number tx behind) (All-nil (IsOf client)) refl

-- the outcomes of a session are those of its client
pub all_of_client : (client begun : ℕ) (turns : List Turn) → All (IsOf client) (outcomes_of client begun turns)
all_of_client client begun [] = All-nil (IsOf client)
all_of_client client begun (t ∷ ts) =
    All-append (IsOf client) (outcome_if client (begun + 1) (begun_in (call_of t) t.answer) ts) (outcomes_of client (begun + begins_by t.answer) ts)
    (one_of_client client (begun + 1) (begun_in (call_of t) t.answer) ts) (all_of_client client (begun + begins_by t.answer) ts)

-- where there are none
pub none_given : {P : Type 0} (bits_of : P → ℕ → ℕ) (tries : Tries) (outcomes : List Outcome) → outcomes ≡ [] → AreGiven bits_of tries outcomes
none_given bits_of tries outcomes none = subst (AreGiven bits_of tries) (sym none) (All-nil (WasGiven bits_of tries))

-- after those of another thread were taken in
pub both_given : {P : Type 0} (bits_of : P → ℕ → ℕ) (tries : Tries) (old more new : List Outcome) → IsPermutation (old ++ more) new → AreGiven bits_of tries old
    → AreGiven bits_of tries more → AreGiven bits_of tries new
both_given bits_of tries old more new same given given_more =
    All-permutation (WasGiven bits_of tries) (old ++ more) new same (All-append (WasGiven bits_of tries) old more given given_more)

-- in another order
pub reordered_given : {P : Type 0} (bits_of : P → ℕ → ℕ) (tries : Tries) (old new : List Outcome) → IsPermutation old new → AreGiven bits_of tries old → AreGiven bits_of tries new
reordered_given bits_of tries old new same given = All-permutation (WasGiven bits_of tries) old new same given

-- at a desk that answers as its view says, or holds a begin back
module _ {P D : Type 0} (bits_of : P → ℕ → ℕ) (view : D → DeskView) (moves : Moves D)
    (is : (old : D) (c : DeskCall) (a : DeskAnswer) (new : D) → moves old c a new → AnswersOrHolds bits_of (view old) c a (view new))
    (client : ℕ) (old new : Scene D) where
  abbrev seen : Moves DeskView
  seen = moves_of items_of begun_of

  abbrev items : List TraceItem
  items = items_of (view new.desk)

  run_keeps : (from : D) (calls : List DeskCall) (answers : List DeskAnswer) (to : D) → Answers moves from calls answers to → (view to).tries.given ≡ (view from).tries.given
  run_keeps from [] [] to same = ap (λ d. (view d).tries.given) same
  run_keeps from (c ∷ calls) (a ∷ answers) to (mid, moved, rest) = run_keeps mid calls answers to rest ∙ answer_keeps bits_of (view from) c a (view mid) (is from c a mid moved.1)
  run_keeps from [] (a ∷ answers) to none = absurd none
  run_keeps from (c ∷ calls) [] to none = absurd none

  -- the session has taken some turns, and has acted by them
  record HasActed : Type 0 where
    pub answers : List DeskAnswer
    pub turns : List Turn
    pub are : AreTurns None turns
    pub asked : Answers moves old.desk (all_calls turns) (all_answers turns) new.desk
    pub gave : All (GaveAll moves new.desk) (outcomes_of client 0 turns)
    pub acted : Acted seen client (scene_of view old) (scene_of view new) answers turns

  acts : (answers : List DeskAnswer) (turns : List Turn) → Acted moves client old new answers turns → Acted seen client (scene_of view old) (scene_of view new) answers turns
  acts = acted_of view moves seen (λ o c a n moved. sees_and_begins bits_of (view o) c a (view n) (is o c a n moved)) client old new

  of_spoken : Spoken moves client old new → HasActed
  of_spoken spoken = record {
    answers = spoken.answers;
    turns = spoken.turns;
    are = subst (AreTurns None) spoken.is (are_turns None (lines_of spoken.taken) spoken.answers);
    asked = spoken.acted.asked;
    gave = spoken.acted.gave;
    acted = acts spoken.answers spoken.turns spoken.acted;
  }

  of_off : BrokenOff moves client old new → HasActed
  of_off off = record {
    answers = off.answers;
    turns = off.heard;
    are = first_turns None off.heard off.unheard (subst (AreTurns None) off.is (are_turns None (lines_of off.taken) off.answers));
    asked = off.acted.asked;
    gave = off.acted.gave;
    acted = acts off.answers off.heard off.acted;
  }

  -- however it ends
  module _ (result : Result Summary Refusal) (session : SessionAnswers moves client old new result)
      (why : IfErr result (λ r. (r ≡ Refusal.LineTooLong) ⊎ (r ≡ Refusal.OutOfMemory) ⊎ (r ≡ Refusal.Io))) where
    by_refusal : (r : Refusal) → result ≡ Err r → ((r ≡ Refusal.LineTooLong) ⊎ (r ≡ Refusal.OutOfMemory) ⊎ (r ≡ Refusal.Io)) → HasActed
    by_refusal r is (inl e) = of_spoken (session.long (is ∙ ap (λ (x : Refusal). Err x) e)).spoken
    by_refusal r is (inr (inl e)) = of_off (session.memory (is ∙ ap (λ (x : Refusal). Err x) e))
    by_refusal r is (inr (inr e)) = of_off (session.io (is ∙ ap (λ (x : Refusal). Err x) e)).off

    by_result : (r : Result Summary Refusal) → result ≡ r → HasActed
    by_result (Ok s) is =
        of_spoken (subst (λ (x : Result Summary Refusal). IfOk x (λ t. Summed moves client old new t.lines t.commits)) is session.ok).spoken
    by_result (Err r) is = by_refusal r is (subst (λ (x : Result Summary Refusal). IfErr x (λ t. (t ≡ Refusal.LineTooLong) ⊎ (t ≡ Refusal.OutOfMemory) ⊎ (t ≡ Refusal.Io))) is why)

    has_acted : HasActed
    has_acted = by_result result refl

    -- it adds outcomes of its client alone
    pub grows : GrowsFor items client old.outcomes new.outcomes
    grows =
        let h = has_acted in
        let in_order = all_in_order items_of begun_of (view new.desk) client 0 None h.turns (closing (open_at_end None h.turns)) (closing_answers (open_at_end None h.turns)) (view old.desk) h.are h.acted.asked in
        record { more = outcomes_of client 0 h.turns; appended = h.acted.noted; of_client = all_of_client client 0 h.turns; told = all_told items_of begun_of (view new.desk) _ h.acted.gave in_order }

    -- the desk has seen what it had seen
    pub sees_on : StartsWith items (items_of (view old.desk))
    sees_on = run_more items_of begun_of (view old.desk) _ _ (view new.desk) has_acted.acted.asked

    -- and has begun the transactions of all outcomes, if it had
    pub begins_on : begun_of (view old.desk) ≡ txs_of old.outcomes → begun_of (view new.desk) ≡ txs_of new.outcomes
    begins_on had =
        let h = has_acted in
        let more = outcomes_of client 0 h.turns in
        begins_all items_of begun_of client 0 None (open_at_end None h.turns) h.turns (view old.desk) (view new.desk) h.are h.acted.asked
        ∙ ap (λ txs. txs ++ txs_of more) had
        ∙ sym (map-append (λ (o : Outcome). o.tx) old.outcomes more)
        ∙ ap txs_of (sym h.acted.noted)

    -- the desk has the tries that it was given, and has told all outcomes
    pub given_on : (tries : Tries) → (view old.desk).tries.given ≡ tries → AreGiven bits_of tries old.outcomes → AreGiven bits_of tries new.outcomes
    given_on tries given had =
        let h = has_acted in
        let more = outcomes_of client 0 h.turns in
        subst (AreGiven bits_of tries) (sym h.acted.noted) (All-append (WasGiven bits_of tries) old.outcomes more had
        (All-weaker (GaveAll moves new.desk) (WasGiven bits_of tries) (λ o gave. merely (record { desk = view new.desk; given = run_keeps old.desk _ _ new.desk h.asked ∙ given; gave = all_of view moves (AnswersOrHolds bits_of) is new.desk o gave })) more h.gave))

  -- what was heard and told where it ends by itself
  pub hears : (result : Result Summary Refusal) → SessionAnswers moves client old new result
      → OnOk result (Heard client (ends old.unread old.written) (ends new.unread new.written) old.outcomes new.outcomes)
  hears (Ok s) session =
      let spoken = session.ok.spoken in
      record {
        lines = spoken.taken;
        text = flat_map turn_text spoken.turns;
        more = outcomes_of client 0 spoken.turns;
        heard = record { given = spoken.answers; told = ap (λ ts. flat_map turn_text ts) spoken.is; are = ap (λ ts. outcomes_of client 0 ts) (sym spoken.is) };
        consumed = spoken.consumed;
        wrote = spoken.wrote;
        appended = spoken.acted.noted;
      }
  hears (Err r) session = tt
