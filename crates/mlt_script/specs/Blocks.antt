-- The statements of a script, as a tree; a script that is read up to somewhere; and the lines of both.
use Rattle.std.specs.Prelude.{ℕ, ◌+◌, ◌≤◌, max, List, [], ◌∷◌, ◌++◌}
use Rattle.mlt_script.specs.declared.statement.{Asking.Asking, Wanted.Wanted, Statement.Statement, Line.Line}

-- Nothing more; or a statement of one line and those after it; or an if with its first part, its second part, which
-- may be empty, and the statements after it.
pub data Block : Type 0 where
  Nothing : Block
  Then : Statement → Block → Block
  If : Asking → Wanted → Block → Block → Block → Block

-- how many operations the longest path asks
abbrev pub longest : Block → ℕ
longest Nothing = 0
longest (Then s rest) = 1 + longest rest
longest (If a w first second rest) = 1 + max (longest first) (longest second) + longest rest

-- how deep ifs stand in ifs
abbrev pub nesting : Block → ℕ
nesting Nothing = 0
nesting (Then s rest) = nesting rest
nesting (If a w first second rest) = max (1 + max (nesting first) (nesting second)) (nesting rest)

-- the statements of a block and then those of another
abbrev pub join : Block → Block → Block
join Nothing more = more
join (Then s rest) more = Then s (join rest more)
join (If a w first second rest) more = If a w first second (join rest more)

-- the lines of statements as a script keeps them: each if with its else and its end
abbrev pub lines_of : Block → List Line
lines_of Nothing = []
lines_of (Then s rest) = Line.Plain s ∷ lines_of rest
lines_of (If a w first second rest) = Line.If a w ∷ (lines_of first ++ Line.Else ∷ (lines_of second ++ Line.End ∷ lines_of rest))

-- A script that is read up to somewhere: the statements so far; or it is read into the first part of an if, and these
-- are the statements of that part so far; or into the second part, behind the whole first part.
pub data Open : Type 0 where
  Top : Block → Open
  InFirst : Open → Asking → Wanted → Block → Open
  InSecond : Open → Asking → Wanted → Block → Block → Open

-- the operations on the longest path from the begin to here
abbrev pub path : Open → ℕ
path (Top b) = longest b
path (InFirst o a w first) = path o + 1 + longest first
path (InSecond o a w first second) = path o + 1 + longest second

-- how many ifs are open here
abbrev pub depth : Open → ℕ
depth (Top b) = 0
depth (InFirst o a w first) = depth o + 1
depth (InSecond o a w first second) = depth o + 1

-- the operations on the longest path to here or to the end of a part that is read
abbrev pub widest : Open → ℕ
widest (Top b) = longest b
widest (InFirst o a w first) = max (widest o) (path o + 1 + longest first)
widest (InSecond o a w first second) = max (widest o) (max (path o + 1 + longest first) (path o + 1 + longest second))

-- the most ifs that were open anywhere
abbrev pub deepest : Open → ℕ
deepest (Top b) = nesting b
deepest (InFirst o a w first) = max (deepest o) (depth o + 1 + nesting first)
deepest (InSecond o a w first second) = max (deepest o) (max (depth o + 1 + nesting first) (depth o + 1 + nesting second))

-- at most 256 operations on each path, and no if in 16 others
abbrev pub IsWithin : Open → Type 0
IsWithin o = (widest o ≤ 256) × (deepest o ≤ 16)

-- more statements at the end of the part that is open
abbrev pub grow : Open → Block → Open
grow (Top b) more = Top (join b more)
grow (InFirst o a w first) more = InFirst o a w (join first more)
grow (InSecond o a w first second) more = InSecond o a w first (join second more)

-- its lines so far
abbrev pub lines_open : Open → List Line
lines_open (Top b) = lines_of b
lines_open (InFirst o a w first) = lines_open o ++ Line.If a w ∷ lines_of first
lines_open (InSecond o a w first second) = lines_open o ++ Line.If a w ∷ (lines_of first ++ Line.Else ∷ lines_of second)
