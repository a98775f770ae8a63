-- Sessions at a desk, as they are for one who sees a view of its states.
use Rattle.std.proofs.Common.{◌≡◌, inl, inr, ℕ, List, [], ◌∷◌, Result, Ok, Err, IfOk, ap, append-nil, refl, subst, sym}
use Rattle.mlt_types.specs.declared.refusal.Refusal.{Refusal}
use Rattle.mlt_script_serial.specs.declared.outcome.End.{End}
use Rattle.mlt_serve_session.specs.{Desks.Answers, Given.Gave, Given.GaveAll, Given.GaveEnd, Given.GaveReply, Outcomes.outcomes_of, Talks.Turn}
use Rattle.mlt_serve_session.specs.Sessions.{Acted, BrokenOff, HeardAll, Scene, SessionAnswers, Spoken, Summed, scene}
use Rattle.mlt_serve_session.specs.declared.sessions.Summary.{Summary}
use Rattle.mlt_work_desk.specs.{Views.DeskView}
use Rattle.mlt_work_desk.specs.declared.tries.TriesLeft.{TriesLeft}
use Rattle.mlt_serve.specs.Desks.{AnswersOrHolds}
use Rattle.mlt_serve.proofs.Names.{All-weaker, TraceItem, Outcome, Moves, DeskAnswer, DeskCall}
use Rattle.mlt_serve.proofs.Telling.{moves_of}

-- a begin is held back
pub held_back : {P : Type 0} (bits_of : P → ℕ → ℕ) (v : DeskView) → AnswersOrHolds bits_of v DeskCall.Begin (DeskAnswer.Refused Refusal.OutOfMemory) v
held_back bits_of v = inr (record { begins = refl; refused = refl; same = refl })

-- what a view has seen of the history, and has begun
abbrev pub items_of : DeskView → List TraceItem
items_of v = v.past.items

abbrev pub begun_of : DeskView → List ℕ
begun_of v = v.begun

nothing_seen : (v : DeskView) → moves_of items_of begun_of v DeskCall.Begin (DeskAnswer.Refused Refusal.OutOfMemory) v
nothing_seen v = (record { more = []; whole = sym (append-nil v.past.items); have = tt }, refl)

-- a desk that may hold a begin back has seen each answer, and has begun what it says
pub sees_and_begins : {P : Type 0} (bits_of : P → ℕ → ℕ) (old : DeskView) (c : DeskCall) (a : DeskAnswer) (new : DeskView) → AnswersOrHolds bits_of old c a new → moves_of items_of begun_of old c a new
sees_and_begins bits_of old c a new (inl answers) = (answers.sees, answers.begins)
sees_and_begins bits_of old c a new (inr held) =
    subst (λ x. moves_of items_of begun_of old x a new) (sym held.begins)
    (subst (λ x. moves_of items_of begun_of old DeskCall.Begin x new) (sym held.refused)
    (subst (λ x. moves_of items_of begun_of old DeskCall.Begin (DeskAnswer.Refused Refusal.OutOfMemory) x) (sym held.same) (nothing_seen old)))

-- what one who sees a view of the desk sees of the scene
abbrev pub scene_of : {D V : Type 0} → (D → V) → Scene D → Scene V
scene_of view s = scene (view s.desk) s.unread s.written s.outcomes

-- such a desk keeps the tries that it was given
pub answer_keeps : {P : Type 0} (bits_of : P → ℕ → ℕ) (old : DeskView) (c : DeskCall) (a : DeskAnswer) (new : DeskView) → AnswersOrHolds bits_of old c a new
    → new.tries.given ≡ old.tries.given
answer_keeps bits_of old DeskCall.Begin a new (inl answers) = ap (λ (tries : TriesLeft). tries.given) answers.spends
answer_keeps bits_of old (DeskCall.Operation tx op) a new (inl answers) = answers.spends.given
answer_keeps bits_of old (DeskCall.Commit tx) a new (inl answers) = ap (λ (tries : TriesLeft). tries.given) answers.spends
answer_keeps bits_of old (DeskCall.Abort tx) a new (inl answers) = ap (λ (tries : TriesLeft). tries.given) answers.spends
answer_keeps bits_of old c a new (inr held) = ap (λ (v : DeskView). v.tries.given) held.same

module _ {D V : Type 0} (view : D → V) (moves : Moves D) (seen : Moves V) (is : (old : D) (c : DeskCall) (a : DeskAnswer) (new : D) → moves old c a new → seen (view old) c a (view new)) where
  run_of : (old : D) (calls : List DeskCall) (answers : List DeskAnswer) (new : D) → Answers moves old calls answers new → Answers seen (view old) calls answers (view new)
  run_of old [] [] new same = ap view same
  run_of old (c ∷ calls) (a ∷ answers) new (mid, moved, rest) = (view mid, (moved.0, is old c a mid moved.1), run_of mid calls answers new rest)
  run_of old [] (a ∷ answers) new none = absurd none
  run_of old (c ∷ calls) [] new none = absurd none

  gave_of : (last : D) (c : DeskCall) (a : DeskAnswer) → Gave moves last c a → Gave seen (view last) c a
  gave_of last c a gave = record {
    before = view gave.before;
    after = view gave.after;
    moved = is gave.before c a gave.after gave.moved;
    leads = record { calls = gave.leads.calls; answers = gave.leads.answers; run = run_of gave.after gave.leads.calls gave.leads.answers last gave.leads.run };
  }

  end_of : (last : D) (tx : ℕ) (e : End) → GaveEnd moves last tx e → GaveEnd seen (view last) tx e
  end_of last tx (End.Committed n) gave = gave_of last _ _ gave
  end_of last tx End.Aborted gave = tt
  end_of last tx (End.Refused r) gave = tt

  pub all_of : (last : D) (o : Outcome) → GaveAll moves last o → GaveAll seen (view last) o
  all_of last o gave = record {
    begun = gave_of last _ _ gave.begun;
    replies = All-weaker (GaveReply moves last o.tx) (GaveReply seen (view last) o.tx) (λ done. gave_of last (DeskCall.Operation o.tx done.0) (DeskAnswer.Replied done.1)) o.done gave.replies;
    end = end_of last o.tx o.end gave.end;
  }

  module _ (client : ℕ) (old new : Scene D) where
    pub acted_of : (answers : List DeskAnswer) (turns : List Turn) → Acted moves client old new answers turns → Acted seen client (scene_of view old) (scene_of view new) answers turns
    acted_of answers turns acted = record {
      given = acted.given;
      asked = run_of old.desk _ _ new.desk acted.asked;
      noted = acted.noted;
      gave = All-weaker (GaveAll moves new.desk) (GaveAll seen (view new.desk)) (all_of new.desk) (outcomes_of client 0 turns) acted.gave;
    }

    spoken_of : Spoken moves client old new → Spoken seen client (scene_of view old) (scene_of view new)
    spoken_of spoken = record {
      taken = spoken.taken;
      answers = spoken.answers;
      turns = spoken.turns;
      is = spoken.is;
      consumed = spoken.consumed;
      within = spoken.within;
      ended = spoken.ended;
      acted = acted_of spoken.answers spoken.turns spoken.acted;
      wrote = spoken.wrote;
    }

    off_of : BrokenOff moves client old new → BrokenOff seen client (scene_of view old) (scene_of view new)
    off_of off = record {
      taken = off.taken;
      answers = off.answers;
      heard = off.heard;
      unheard = off.unheard;
      is = off.is;
      consumed = off.consumed;
      within = off.within;
      acted = acted_of off.answers off.heard off.acted;
      wrote = off.wrote;
    }

    heard_of : HeardAll moves client old new → HeardAll seen client (scene_of view old) (scene_of view new)
    unfolding off_of
    heard_of heard = record { off = off_of heard.off; all = heard.all; whole = heard.whole }

    ok_of : (result : Result Summary Refusal) → IfOk result (λ summary. Summed moves client old new summary.lines summary.commits)
        → IfOk result (λ summary. Summed seen client (scene_of view old) (scene_of view new) summary.lines summary.commits)
    unfolding spoken_of
    ok_of (Ok summary) summed = record { spoken = spoken_of summed.spoken; lines_are = summed.lines_are; commits_are = summed.commits_are; short = summed.short }
    ok_of (Err refusal) none = tt

    -- **A session at the desk is one at its view.**
    pub session_of : (result : Result Summary Refusal) → SessionAnswers moves client old new result → SessionAnswers seen client (scene_of view old) (scene_of view new) result
    unfolding spoken_of
    session_of result answers = record {
      ok = ok_of result answers.ok;
      long = λ is_long. record { spoken = spoken_of (answers.long is_long).spoken; long = (answers.long is_long).long };
      io = λ is_io. heard_of (answers.io is_io);
      memory = λ is_want. off_of (answers.memory is_want);
    }
