-- What the lines of a script ask, line by line, where a part that is left out is skipped.
use Rattle.std.specs.Prelude.{ℕ, zero, suc, List, [], ◌∷◌, Bool, true, false, if◌then◌else◌}
use Rattle.mlt_script.specs.declared.statement.{Line.Line, Ending.Ending, Ending.TheVariants.Abort}
use Rattle.mlt_script_serial.specs.{declared.skipping.Skipping.Skipping, declared.skipping.Skipping.TheVariants.Nowhere, declared.skipping.Skipping.TheVariants.ToElse, declared.skipping.Skipping.TheVariants.ToEnd, Follows.Questions.Ends, Follows.Questions.Asks}
use Rattle.mlt_script_serial.specs.Follows.{Questions, Variables, asked, asked_by, goes_on, set_by, is_wanted}

-- where it is skipped to once a line is skipped
abbrev pub skipped : Line → Skipping → Skipping
skipped Line.Else Nowhere = ToEnd 0
skipped l Nowhere = Nowhere
skipped Line.Else (ToElse zero) = Nowhere
skipped Line.End (ToElse zero) = Nowhere
skipped Line.End (ToElse (suc n)) = ToElse n
skipped (Line.If a w) (ToElse n) = ToElse (suc n)
skipped l (ToElse n) = ToElse n
skipped Line.End (ToEnd zero) = Nowhere
skipped Line.End (ToEnd (suc n)) = ToEnd n
skipped (Line.If a w) (ToEnd n) = ToEnd (suc n)
skipped l (ToEnd n) = ToEnd n

unfoldable pub run : List Line → Skipping → Variables → Ending → Questions
run [] m vs end = Ends end
run (Line.Plain s ∷ ls) Nowhere vs end = Asks (asked_by vs s) (λ r. if goes_on vs s r then run ls Nowhere (set_by vs s r) end else Ends Abort)
run (Line.If a w ∷ ls) Nowhere vs end = Asks (asked vs a) (λ r. run ls (if is_wanted vs w r then Nowhere else ToElse 0) vs end)
run (l ∷ ls) m vs end = run ls (skipped l m) vs end

-- below how many ifs it is skipped
abbrev pub level : Skipping → ℕ
level Nowhere = 0
level (ToElse n) = n
level (ToEnd n) = n

-- whether the line asks, and is not skipped
abbrev pub stops_at : Line → Skipping → Bool
stops_at (Line.Plain s) Nowhere = true
stops_at (Line.If a w) Nowhere = true
stops_at l m = false

-- the lines are at their end, or begin with one that asks
abbrev pub is_settled : List Line → Bool
is_settled [] = true
is_settled (l ∷ ls) = stops_at l Nowhere
