-- What a cursor still asks.
use Rattle.std.specs.Prelude.{ℕ, ◌-◌, length, drop}
use Rattle.mlt_script_serial.specs.{declared.cursor.Cursor.Cursor, declared.skipping.Skipping.TheVariants.Nowhere, Follows.Questions, Runs.run}

-- what a script still asks, from the cursor on
abbrev pub questions_of : Cursor → Questions
questions_of c = run (drop c.at c.lines.now) Nowhere c.variables c.ending

-- how many lines are left, of which each asks at most one operation
abbrev pub left_of : Cursor → ℕ
left_of c = length c.lines.now - c.at

-- which line of the script asks next, or how many there are at its end
abbrev pub line_of : Cursor → ℕ
line_of c = c.at
