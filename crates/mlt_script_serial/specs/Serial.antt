-- Scripts that run one after another: what becomes of each, and the base that is reached.
use Rattle.std.specs.Prelude.{◌≡◌, ℕ, ◌+◌, List, [], ◌∷◌, ◌++◌, length, map, Option, Some, None, ◌==◌, count_by}
use Rattle.mlt_types.specs.declared.refusal.Refusal.{Refusal}
use Rattle.mlt_object_kinds.specs.Bases.{Base, TranscriptLeads, Transcript, empty_base}
use Rattle.mlt_script.specs.{declared.statement.Ending.TheVariants.Commit, declared.statement.Ending.TheVariants.Abort, Scripts.ScriptForm}
use Rattle.mlt_script_serial.specs.{Follows.Follows, Follows.IsPartial, declared.outcome.End.End, declared.outcome.End.TheVariants.Committed, declared.outcome.End.TheVariants.Aborted, declared.outcome.End.TheVariants.Refused, declared.outcome.Outcome.Outcome}

-- A script runs from the base b, n scripts having committed before it. It is told the replies of the transcript, ends so,
-- and leaves the base c, k scripts having committed.
abbrev pub IsScriptRun : ScriptForm → Base → ℕ → Transcript → End → Base → ℕ → Type 0
-- a commit keeps the new base, under the next commit number
IsScriptRun s b n t (Committed number) c k = Follows s t Commit × TranscriptLeads b t c × (k ≡ n + 1) × (number ≡ k)
-- an abort gives the old base back
IsScriptRun s b n t Aborted c k = Follows s t Abort × ((m : Base) × TranscriptLeads b t m) × (c ≡ b) × (k ≡ n)
-- a refused script was told the replies of a partial transcript, and leaves the old base
IsScriptRun s b n t (Refused refusal) c k = IsPartial s t × ((m : Base) × TranscriptLeads b t m) × (c ≡ b) × (k ≡ n)

-- The scripts run in order, from the base b and after n commits; the base c is reached, after k commits.
abbrev pub AreRuns : List ScriptForm → Base → ℕ → List Outcome → Base → ℕ → Type 0
AreRuns [] b n [] c k = (b ≡ c) × (n ≡ k)
AreRuns (s ∷ ss) b n (o ∷ os) c k = (m : Base) × (j : ℕ) × IsScriptRun s b n o.done o.end m j × AreRuns ss m j os c k
AreRuns [] b n (o ∷ os) c k = ⊥
AreRuns (s ∷ ss) b n [] c k = ⊥

-- The mark of a script that was refused: how many replies it was told before, and the refusal.
abbrev pub mark_of_end : Transcript → End → Option (ℕ × Refusal)
mark_of_end t (Refused refusal) = Some (length t, refusal)
mark_of_end t end = None

-- the mark of an outcome, if its script was refused: how many replies it was told before, and the
-- refusal
abbrev pub mark_of : Outcome → Option (ℕ × Refusal)
mark_of o = mark_of_end o.done o.end

-- the marks of scripts none of which is refused
abbrev pub unmarked : List ScriptForm → List (Option (ℕ × Refusal))
unmarked scripts = map (λ s. None) scripts

-- every mark is of this refusal
abbrev pub AreMarksOf : Refusal → List (Option (ℕ × Refusal)) → Type 0
AreMarksOf refusal [] = Unit {0}
AreMarksOf refusal (None ∷ marks) = AreMarksOf refusal marks
AreMarksOf refusal (Some mark ∷ marks) = (mark.1 ≡ refusal) × AreMarksOf refusal marks

-- The scripts run in order from the empty base, and just the marked ones are refused, at their marks.
abbrev pub IsSerialRun : List ScriptForm → List (Option (ℕ × Refusal)) → List Outcome → Base → Type 0
IsSerialRun scripts marks outcomes base = (k : ℕ) × AreRuns scripts empty_base 0 outcomes base k × (map mark_of outcomes ≡ marks)

-- The outcomes name their scripts: by client, and by number within the client. The scripts of before came before these.
abbrev pub AreNumbered : List ScriptForm → List ScriptForm → List Outcome → Type 0
AreNumbered before [] [] = Unit {0}
AreNumbered before (s ∷ ss) (o ∷ os) =
    (o.client ≡ s.client) × (o.number ≡ count_by (λ p. p.client == s.client) before + 1) × AreNumbered (before ++ s ∷ []) ss os
AreNumbered before [] (o ∷ os) = ⊥
AreNumbered before (s ∷ ss) [] = ⊥

-- the commit number after an outcome, n being the one before
abbrev pub commits_after : ℕ → End → ℕ
commits_after n (Committed number) = number
commits_after n end = n

-- what is told of an outcome: what was done, and how it ended
abbrev pub answers_of : Outcome → Transcript × End
answers_of o = (o.done, o.end)

-- no transaction has a number, since none was begun by a manager
abbrev pub AreWithoutTx : List Outcome → Type 0
AreWithoutTx [] = Unit {0}
AreWithoutTx (o ∷ os) = (o.tx ≡ 0) × AreWithoutTx os
