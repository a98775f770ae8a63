-- The lines of a tree ask what the tree asks.
use Rattle.std.proofs.Common.{◌≡◌, ℕ, suc, List, [], ◌∷◌, ◌++◌, Bool, true, false, cond, refl, sym, ap, ◌∙◌, append-nil}
use Rattle.mlt_script_serial.proofs.Names.{Line, Ending, Abort, Nowhere, ToElse, ToEnd, Block, lines_of, Nothing, Then, If, Questions, Variables, questions, goes_on, set_by, is_wanted, Ends, Asks}
use Rattle.mlt_script.specs.TreeLaws.{regroup}
use Rattle.mlt_script_serial.specs.{Follows.asked, Follows.asked_by, Runs.run}

ext : {A : Type 0} {B : Type 0} (f g : A → B) → ((x : A) → f x ≡ g x) → f ≡ g
ext f g h = λ i. λ x. h x i

-- a part is skipped whole
skips_else : (b : Block) (more : List Line) (n : ℕ) (vs : Variables) (end : Ending) → run (lines_of b ++ more) (ToElse n) vs end ≡ run more (ToElse n) vs end
unfolding run
skips_else Nothing more n vs end = refl
skips_else (Then s rest) more n vs end = skips_else rest more n vs end
skips_else (If a w first second rest) more n vs end =
    let tail : List Line = Line.End ∷ (lines_of rest ++ more) in
    ap (λ (xs : List Line). run xs (ToElse (suc n)) vs end) (regroup (lines_of first) (lines_of second) Line.Else Line.End (lines_of rest) more)
    ∙ skips_else first (Line.Else ∷ (lines_of second ++ tail)) (suc n) vs end
    ∙ skips_else second tail (suc n) vs end
    ∙ skips_else rest more n vs end

skips_end : (b : Block) (more : List Line) (n : ℕ) (vs : Variables) (end : Ending) → run (lines_of b ++ more) (ToEnd n) vs end ≡ run more (ToEnd n) vs end
unfolding run
skips_end Nothing more n vs end = refl
skips_end (Then s rest) more n vs end = skips_end rest more n vs end
skips_end (If a w first second rest) more n vs end =
    let tail : List Line = Line.End ∷ (lines_of rest ++ more) in
    ap (λ (xs : List Line). run xs (ToEnd (suc n)) vs end) (regroup (lines_of first) (lines_of second) Line.Else Line.End (lines_of rest) more)
    ∙ skips_end first (Line.Else ∷ (lines_of second ++ tail)) (suc n) vs end
    ∙ skips_end second tail (suc n) vs end
    ∙ skips_end rest more n vs end

-- at the else behind a first part, and at that behind one that was left out
at_else : (xs : List Line) (vs : Variables) (end : Ending) → run (Line.Else ∷ xs) Nowhere vs end ≡ run xs (ToEnd 0) vs end
unfolding run
at_else xs vs end = refl

to_else : (xs : List Line) (vs : Variables) (end : Ending) → run (Line.Else ∷ xs) (ToElse 0) vs end ≡ run xs Nowhere vs end
unfolding run
to_else xs vs end = refl

at_end : (xs : List Line) (vs : Variables) (end : Ending) → run (Line.End ∷ xs) Nowhere vs end ≡ run xs Nowhere vs end
unfolding run
at_end xs vs end = refl

to_end : (xs : List Line) (vs : Variables) (end : Ending) → run (Line.End ∷ xs) (ToEnd 0) vs end ≡ run xs Nowhere vs end
unfolding run
to_end xs vs end = refl

either : (m : Bool) (xs : List Line) (vs : Variables) (end : Ending) (p q : Questions) → run xs Nowhere vs end ≡ p → run xs (ToElse 0) vs end ≡ q
    → run xs (cond m Nowhere (ToElse 0)) vs end ≡ cond m p q
either true xs vs end p q t u = t
either false xs vs end p q t u = u

tree : (b : Block) (more : List Line) (vs : Variables) (end : Ending) → run (lines_of b ++ more) Nowhere vs end ≡ questions b vs (λ us. run more Nowhere us end)
unfolding run
tree Nothing more vs end = refl
tree (Then s rest) more vs end = ap (Asks (asked_by vs s)) (ext _ _ (λ r. ap (λ (q : Questions). cond (goes_on vs s r) q (Ends Abort)) (tree rest more (set_by vs s r) end)))
tree (If a w first second rest) more vs end =
    let tail : List Line = lines_of rest ++ more in
    let part : List Line = Line.Else ∷ (lines_of second ++ Line.End ∷ tail) in
    let xs : List Line = (lines_of first ++ Line.Else ∷ (lines_of second ++ Line.End ∷ lines_of rest)) ++ more in
    let next : Variables → Questions = λ us. questions rest us (λ ts. run more Nowhere ts end) in
    let e : xs ≡ lines_of first ++ part = regroup (lines_of first) (lines_of second) Line.Else Line.End (lines_of rest) more in
    let t : run xs Nowhere vs end ≡ questions first vs next =
    ap (λ (ls : List Line). run ls Nowhere vs end) e ∙ tree first part vs end
    ∙ ap (questions first vs) (ext (λ us. run part Nowhere us end) next
    (λ us. at_else (lines_of second ++ Line.End ∷ tail) us end ∙ skips_end second (Line.End ∷ tail) 0 us end ∙ to_end tail us end ∙ tree rest more us end)) in
    let u : run xs (ToElse 0) vs end ≡ questions second vs next =
    ap (λ (ls : List Line). run ls (ToElse 0) vs end) e ∙ skips_else first part 0 vs end ∙ to_else (lines_of second ++ Line.End ∷ tail) vs end ∙ tree second (Line.End ∷ tail) vs end
    ∙ ap (questions second vs) (ext (λ us. run (Line.End ∷ tail) Nowhere us end) next (λ us. at_end tail us end ∙ tree rest more us end)) in
    ap (Asks (asked vs a)) (ext _ _ (λ r. either (is_wanted vs w r) xs vs end (questions first vs next) (questions second vs next) t u))

out_of_lines : (us : Variables) (end : Ending) → run [] Nowhere us end ≡ Ends end
unfolding run
out_of_lines us end = refl

-- the lines of a tree, up to the end of the script
pub whole : (b : Block) (vs : Variables) (end : Ending) → run (lines_of b) Nowhere vs end ≡ questions b vs (λ us. Ends end)
whole b vs end =
    ap (λ (ls : List Line). run ls Nowhere vs end) (sym (append-nil (lines_of b))) ∙ tree b [] vs end
    ∙ ap (questions b vs) (ext (λ us. run [] Nowhere us end) (λ us. Ends end) (λ us. out_of_lines us end))
