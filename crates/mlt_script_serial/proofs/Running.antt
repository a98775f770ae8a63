-- What lines ask, line by line.
use Rattle.std.proofs.Common.{Some, None, cond, ⊎_elim, ◌≡◌, ℕ, ◌+◌, ◌<◌, ◌≤◌, List, [], ◌∷◌, length, drop, get_or, Bool, true, false, refl, sym, ap, ◌∙◌, subst, add-one, drop-cons}
use Rattle.mlt_script_serial.proofs.Names.{drop_all, ObjOp, ObjReply, Line, Ending, Abort, Nowhere, ToElse, ToEnd, Next, Questions, Variables, IsNext, answered, goes_on, set_by, Ends, Asks, heard, heard_values, after_hearing}
use Rattle.std.proofs.lemmas.Bool.{cases_lt}
use Rattle.mlt_object_kinds.specs.declared.{account.AccountOp.TheVariants.Open, operation.ObjOp.TheVariants.Account}
use Rattle.mlt_script.specs.declared.statement.{Asking.TheVariants.Fixed, Statement.TheVariants.Ask, Ending.TheVariants.Commit}
use Rattle.mlt_script_serial.specs.{declared.skipping.Skipping.Skipping, Follows.IsAsking, Hearing.question, Runs.run, Runs.skipped, Runs.stops_at, Runs.is_settled}

-- the line that is read past the end of lines
abbrev pub some_line : Line
some_line = Line.Plain (Ask (Fixed (Account 0 Open)))

pub passes : (l : Line) (ls : List Line) (m : Skipping) (vs : Variables) (end : Ending) → stops_at l m ≡ false
    → run (l ∷ ls) m vs end ≡ run ls (skipped l m) vs end
unfolding run
passes Line.Else ls Nowhere vs end h = refl
passes Line.End ls Nowhere vs end h = refl
passes (Line.Plain s) ls Nowhere vs end h = absurd (cc h)
passes (Line.If a w) ls Nowhere vs end h = absurd (cc h)
passes (Line.Plain s) ls (ToElse n) vs end h = refl
passes (Line.If a w) ls (ToElse n) vs end h = refl
passes Line.Else ls (ToElse n) vs end h = refl
passes Line.End ls (ToElse n) vs end h = refl
passes (Line.Plain s) ls (ToEnd n) vs end h = refl
passes (Line.If a w) ls (ToEnd n) vs end h = refl
passes Line.Else ls (ToEnd n) vs end h = refl
passes Line.End ls (ToEnd n) vs end h = refl

pub at_end : (m : Skipping) (vs : Variables) (end : Ending) → run [] m vs end ≡ run [] Nowhere vs end
unfolding run
at_end m vs end = refl

-- the lines from at on are the one at at, and those after it
pub front : (ls : List Line) (at : ℕ) (d : Line) → at < length ls → drop at ls ≡ get_or ls at d ∷ drop (at + 1) ls
front ls at d h = rw (add-one at) (drop-cons ls at d h)

pub turn : (ls : List Line) (at : ℕ) (m : Skipping) (d : Line) (vs : Variables) (end : Ending) → at < length ls → stops_at (get_or ls at d) m ≡ false
    → run (drop (at + 1) ls) (skipped (get_or ls at d) m) vs end ≡ run (drop at ls) m vs end
turn ls at m d vs end h s = sym (ap (λ (xs : List Line). run xs m vs end) (front ls at d h) ∙ passes (get_or ls at d) (drop (at + 1) ls) m vs end s)

asks_first : (l : Line) (ls : List Line) (vs : Variables) (end : Ending) → stops_at l Nowhere ≡ true → IsNext (question l vs) (run (l ∷ ls) Nowhere vs end)
unfolding run
asks_first (Line.Plain s) ls vs end h = refl
asks_first (Line.If a w) ls vs end h = refl
asks_first Line.Else ls vs end h = absurd (cc h)
asks_first Line.End ls vs end h = absurd (cc h)

pub next_line : (ls : List Line) (at : ℕ) (d : Line) (vs : Variables) (end : Ending) → at < length ls → is_settled (drop at ls) ≡ true
    → IsNext (question (get_or ls at d) vs) (run (drop at ls) Nowhere vs end)
next_line ls at d vs end h s =
    let e : drop at ls ≡ get_or ls at d ∷ drop (at + 1) ls = front ls at d h in
    let t : is_settled (get_or ls at d ∷ drop (at + 1) ls) ≡ true = ap is_settled (sym e) ∙ s in
    subst (λ (xs : List Line). IsNext (question (get_or ls at d) vs) (run xs Nowhere vs end)) (sym e) (asks_first (get_or ls at d) (drop (at + 1) ls) vs end t)

pub end_of : Ending → Next
end_of Commit = Next.Commit
end_of Abort = Next.Abort

pub run_out : (ls : List Line) (at : ℕ) (vs : Variables) (end : Ending) → length ls ≤ at → run (drop at ls) Nowhere vs end ≡ Ends end
unfolding run
run_out ls at vs end h = rw (drop_all at ls h) refl

-- where an operation comes next, it is being asked
pub asks : (o : ObjOp) (p : Questions) → IsNext (Next.Op o) p → IsAsking p
asks o (Asks op after) h = tt
asks o (Ends e) h = absurd h

not_past : (ls : List Line) (at : ℕ) (vs : Variables) (end : Ending) → length ls ≤ at → IsAsking (run (drop at ls) Nowhere vs end) → ⊥
not_past ls at vs end h a = subst IsAsking (run_out ls at vs end h) a

pub in_range : (ls : List Line) (at : ℕ) (vs : Variables) (end : Ending) → IsAsking (run (drop at ls) Nowhere vs end) → at < length ls
in_range ls at vs end a = ⊎_elim (λ h. h) (λ h. absurd (not_past ls at vs end h a)) (cases_lt at (length ls))

goes_or_ends : (b : Bool) (ls : List Line) (vs : Variables) (end : Ending) → cond b (run ls Nowhere vs end) (Ends Abort) ≡ after_hearing (cond b (Some Nowhere) None) ls vs end
goes_or_ends true ls vs end = refl
goes_or_ends false ls vs end = refl

answers : (l : Line) (ls : List Line) (vs : Variables) (end : Ending) (r : ObjReply) → stops_at l Nowhere ≡ true
    → answered (run (l ∷ ls) Nowhere vs end) r ≡ after_hearing (heard l vs r) ls (heard_values l vs r) end
unfolding run
answers (Line.Plain s) ls vs end r h = goes_or_ends (goes_on vs s r) ls (set_by vs s r) end
answers (Line.If a w) ls vs end r h = refl
answers Line.Else ls vs end r h = absurd (cc h)
answers Line.End ls vs end r h = absurd (cc h)

pub tells : (ls : List Line) (at : ℕ) (d : Line) (vs : Variables) (end : Ending) (r : ObjReply) → at < length ls → is_settled (drop at ls) ≡ true
    → answered (run (drop at ls) Nowhere vs end) r ≡ after_hearing (heard (get_or ls at d) vs r) (drop (at + 1) ls) (heard_values (get_or ls at d) vs r) end
tells ls at d vs end r h s =
    let e : drop at ls ≡ get_or ls at d ∷ drop (at + 1) ls = front ls at d h in
    let t : is_settled (get_or ls at d ∷ drop (at + 1) ls) ≡ true = ap is_settled (sym e) ∙ s in
    ap (λ (xs : List Line). answered (run xs Nowhere vs end) r) e ∙ answers (get_or ls at d) (drop (at + 1) ls) vs end r t
