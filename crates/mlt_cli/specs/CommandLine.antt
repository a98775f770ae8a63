-- The ranges of the numbers of a job, and the status where the words of a command line give none.
use Rattle.std.specs.Prelude.{◌≤◌, ◌<◌, ℕ}
use Rattle.clap.specs.declared.error.kind.ErrorKind.{ErrorKind, TheVariants.DisplayHelp, TheVariants.DisplayVersion, TheVariants.OutOfMemory}
use Rattle.mlt_cli.specs.declared.words.{Connections.Connections, Connections.TheVariants.Limit, Connections.TheVariants.Endless, Times.Times, Job.Job}

-- each is at most a day, in seconds
abbrev pub AreWithinDay : Times → Type 0
AreWithinDay times = (times.idle ≤ 86400) × (times.wait ≤ 86400) × (times.transaction ≤ 86400)

-- a limit is from 1 to a million, and of clients at once from 1 to a hundred thousand
abbrev pub IsWithinLimit : Connections → Type 0
IsWithinLimit (Limit limit) = (0 < limit) × (limit ≤ 1000000)
IsWithinLimit (Endless clients) = (0 < clients) × (clients ≤ 100000)

-- the numbers of a job are within their bounds
abbrev pub IsWithinBounds : Job → Type 0
IsWithinBounds (Job.Work work) = (0 < work.workers) × (work.workers ≤ 8)
    × (0 < work.tries) × (work.tries ≤ 1000000)
IsWithinBounds (Job.Serve serve) = (0 < serve.sessions) × (serve.sessions ≤ 64)
    × IsWithinLimit serve.connections × (0 < serve.tries) × (serve.tries ≤ 1000000)
    × AreWithinDay serve.times
IsWithinBounds other = Unit {0}

-- the status of a command line that gives no job: to ask for help or the version is no mistake
abbrev pub words_status : ErrorKind → ℕ
words_status DisplayHelp = 0
words_status DisplayVersion = 0
words_status OutOfMemory = 1
words_status _ = 2
