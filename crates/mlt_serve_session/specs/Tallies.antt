-- How many of the outcomes are commits.
use Rattle.std.specs.Prelude.{ℕ, List, sum_by}
use Rattle.mlt_script_serial.specs.declared.outcome.{End.End, End.TheVariants.Committed, End.TheVariants.Aborted, End.TheVariants.Refused, Outcome.Outcome}

-- 1 for a commit, and 0 for any other end
abbrev pub commits_by : End → ℕ
commits_by (Committed number) = 1
commits_by Aborted = 0
commits_by (Refused refusal) = 0

-- how many of the outcomes are commits
abbrev pub commits_told : List Outcome → ℕ
commits_told outcomes = sum_by (λ o. commits_by o.end) outcomes
