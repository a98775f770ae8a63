-- The open ifs of a script that is read up to somewhere.
use Rattle.std.specs.Prelude.{◌+◌, List, [], ◌∷◌, true, false}
use Rattle.mlt_script.specs.{declared.frame.Frame.Frame, Blocks.Open, Blocks.path, Blocks.longest, Blocks.Open.Top, Blocks.Open.InFirst, Blocks.Open.InSecond}

-- the open ifs, the innermost first
abbrev pub frames_of : Open → List Frame
frames_of (Top b) = []
frames_of (InFirst o a w first) = record { other = path o + 1; turned = false } ∷ frames_of o
frames_of (InSecond o a w first second) = record { other = path o + 1 + longest first; turned = true } ∷ frames_of o
