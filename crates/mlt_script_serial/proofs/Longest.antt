-- How many operations a script asks at most.
use Rattle.std.proofs.Common.{◌≤◌, ◌+◌, max, ℕ, Bool, true, false, cond, [], ◌∷◌, ◌++◌, length, arith, length-append}
use Rattle.mlt_script_serial.proofs.Names.{Ending, Abort, Line, Block, lines_of, longest, Nothing, Then, If, ScriptForm, AsksAtMost, Questions, Variables, goes_on, is_wanted, no_values, questions, questions_of_script, set_by, Ends}

end_asks_none : (e : Ending) (n : ℕ) → AsksAtMost n (Ends e)
end_asks_none e n [] q h = omega arith
end_asks_none e n (x ∷ t) q h = absurd h

either_asks : (b : Bool) (p q : Questions) (n : ℕ) → AsksAtMost n p → AsksAtMost n q → AsksAtMost n (cond b p q)
either_asks true p q n h k = h
either_asks false p q n h k = k

-- the statements of a block, and then what comes after them
block_asks : (b : Block) (vs : Variables) (after : Variables → Questions) (n m : ℕ) → ((us : Variables) → AsksAtMost n (after us)) → longest b + n ≤ m → AsksAtMost m (questions b vs after)
block_asks Nothing vs after n m h le t q r = let short : length t ≤ n = h vs t q r in omega (arith, short, le)
block_asks (Then s rest) vs after n m h le [] q r = omega arith
block_asks (Then s rest) vs after n m h le (x ∷ t) q r =
    let one : 1 + longest rest + n ≤ m = le in
    let go : AsksAtMost (longest rest + n) (questions rest (set_by vs s x.1) after) = block_asks rest (set_by vs s x.1) after n (longest rest + n) h (omega arith) in
    let short : length t ≤ longest rest + n = either_asks (goes_on vs s x.1) (questions rest (set_by vs s x.1) after) (Ends Abort) (longest rest + n) go (end_asks_none Abort (longest rest + n)) t q r.1 in
    omega (arith, short, one)
block_asks (If a w first second rest) vs after n m h le [] q r = omega arith
block_asks (If a w first second rest) vs after n m h le (x ∷ t) q r =
    let one : 1 + max (longest first) (longest second) + longest rest + n ≤ m = le in
    let more : ℕ = longest rest + n in
    let most : ℕ = max (longest first) (longest second) + more in
    let then : (us : Variables) → AsksAtMost more (questions rest us after) = λ us. block_asks rest us after n more h (omega arith) in
    let one_way : AsksAtMost most (questions first vs (λ us. questions rest us after)) = block_asks first vs (λ us. questions rest us after) more most then (omega arith) in
    let other_way : AsksAtMost most (questions second vs (λ us. questions rest us after)) = block_asks second vs (λ us. questions rest us after) more most then (omega arith) in
    let short : length t ≤ most = either_asks (is_wanted vs w x.1) (questions first vs (λ us. questions rest us after)) (questions second vs (λ us. questions rest us after)) most one_way other_way t q r.1 in
    omega (arith, short, one)

-- **No path asks more than its longest one.**
pub longest_asked : (s : ScriptForm) (most : ℕ) → longest s.block ≤ most → AsksAtMost most (questions_of_script s)
longest_asked s most le = block_asks s.block no_values (λ vs. Ends s.ending) 0 most (λ vs. end_asks_none s.ending 0) (omega (arith, le))

-- each operation on a path stands in a line of its own
pub longest_lines : (b : Block) → longest b ≤ length (lines_of b)
longest_lines Nothing = omega arith
longest_lines (Then s rest) = let more = longest_lines rest in omega (arith, more)
longest_lines (If a w first second rest) =
    let one = longest_lines first in
    let other = longest_lines second in
    let more = longest_lines rest in
    let all = length-append (lines_of first) (Line.Else ∷ (lines_of second ++ Line.End ∷ lines_of rest)) in
    let later = length-append (lines_of second) (Line.End ∷ lines_of rest) in
    omega (arith, one, other, more, all, later)
