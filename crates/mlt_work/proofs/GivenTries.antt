-- A desk keeps the tries that it was given.
use Rattle.std.proofs.Common.{◌≡◌, ◌∙◌, ℕ, List, [], ◌∷◌, Result, Ok, Err, ap, inl, inr, sym}
use Rattle.mlt_types.specs.declared.refusal.Refusal.{Refusal}
use Rattle.mlt_object_kinds.specs.Bases.{Transcript}
use Rattle.mlt_script.specs.{declared.statement.Ending.Ending, declared.statement.Ending.TheVariants.Commit, declared.statement.Ending.TheVariants.Abort, Scripts.ScriptForm}
use Rattle.mlt_script_serial.specs.{declared.call.DeskAnswer.DeskAnswer, declared.call.DeskCall.DeskCall, Plays.Gives, Plays.PlaysAt, declared.outcome.End.End, declared.outcome.End.TheVariants.Committed, declared.outcome.End.TheVariants.Aborted, declared.outcome.End.TheVariants.Refused, declared.outcome.Outcome.Outcome, Clients.AreRunsAt, Clients.IsServedAt, DeskRuns.ClosesAs}
use Rattle.mlt_work_desk.specs.{Holds.Answers, Views.DeskView, declared.tries.TriesLeft.TriesLeft}

-- the tries that the desk was given are the same
abbrev pub KeepsGiven : DeskView → DeskView → Type 0
KeepsGiven before after = after.tries.given ≡ before.tries.given

module _ {P : Type 0} (bits_of : P → ℕ → ℕ) where
  answer_keeps : (before : DeskView) (asked : DeskCall) (reply : DeskAnswer) (after : DeskView) → Answers bits_of before asked reply after → KeepsGiven before after
  answer_keeps before DeskCall.Begin reply after answers = ap (λ (tries : TriesLeft). tries.given) answers.spends
  answer_keeps before (DeskCall.Operation tx op) reply after answers = answers.spends.given
  answer_keeps before (DeskCall.Commit tx) reply after answers = ap (λ (tries : TriesLeft). tries.given) answers.spends
  answer_keeps before (DeskCall.Abort tx) reply after answers = ap (λ (tries : TriesLeft). tries.given) answers.spends

  gives_keep : (tx : ℕ) (d : DeskView) (t : Transcript) (e : DeskView) → Gives (Answers bits_of) tx d t e → KeepsGiven d e
  gives_keep tx d [] e same = ap (λ (view : DeskView). view.tries.given) (sym same)
  gives_keep tx d (x ∷ t) e (m, moved, more) = gives_keep tx m t e more ∙ answer_keeps d _ _ m moved

  plays_keep : (s : ScriptForm) (tx : ℕ) (d : DeskView) (t : Transcript) (ended : Result Ending Refusal) (e : DeskView) → PlaysAt (Answers bits_of) s tx d t ended e → KeepsGiven d e
  plays_keep s tx d t (Ok ending) e (follows, gives) = gives_keep tx d t e gives
  plays_keep s tx d t (Err refusal) e stops = answer_keeps stops.middle _ _ e stops.refused ∙ gives_keep tx d t stops.middle stops.gives

  closes_keep : (tx : ℕ) (ended : Result Ending Refusal) (d : DeskView) (end : End) (e : DeskView) → ClosesAs (Answers bits_of) tx ended d end e → KeepsGiven d e
  closes_keep tx (Ok Commit) d (Committed number) e closed = answer_keeps d _ _ e closed
  closes_keep tx (Ok Commit) d (Refused other) e (reason, same, (m, commits, aborts)) = answer_keeps m _ _ e aborts ∙ answer_keeps d _ _ m commits
  closes_keep tx (Ok Commit) d Aborted e closed = absurd closed
  closes_keep tx (Ok Abort) d Aborted e closed = answer_keeps d _ _ e closed
  closes_keep tx (Ok Abort) d (Committed number) e closed = absurd closed
  closes_keep tx (Ok Abort) d (Refused other) e closed = absurd closed
  closes_keep tx (Err refusal) d (Refused other) e (same, closed) = answer_keeps d _ _ e closed
  closes_keep tx (Err refusal) d (Committed number) e closed = absurd closed
  closes_keep tx (Err refusal) d Aborted e closed = absurd closed

  run_keeps : (s : ScriptForm) (d : DeskView) (tx : ℕ) (t : Transcript) (end : End) (e : DeskView) → IsServedAt (Answers bits_of) s d tx t end e → KeepsGiven d e
  run_keeps s d tx t end e (inl none) = ap (λ (view : DeskView). view.tries.given) none.unasked
  run_keeps s d tx t end e (inr (inl unbegun)) = answer_keeps d _ _ e unbegun.begins_none
  run_keeps s d tx t end e (inr (inr begun)) =
      closes_keep tx begun.ended begun.after_script end e begun.closes ∙ plays_keep s tx begun.after_begin t begun.ended begun.after_script begun.plays
      ∙ answer_keeps d _ _ begun.after_begin begun.begun

  -- **The tries that a desk was given are the same after runs of scripts at it.**
  pub runs_keep : (ss : List ScriptForm) (d : DeskView) (os : List Outcome) (e : DeskView) → AreRunsAt (Answers bits_of) ss d os e → KeepsGiven d e
  runs_keep [] d [] e same = ap (λ (view : DeskView). view.tries.given) (sym same)
  runs_keep [] d (o ∷ os) e none = absurd none
  runs_keep (s ∷ ss) d [] e none = absurd none
  runs_keep (s ∷ ss) d (o ∷ os) e (m, run, more) = runs_keep ss m os e more ∙ run_keeps s d o.tx o.done o.end m run
