-- The outcomes that are kept turn by turn are those of the whole list of turns.
use Rattle.std.proofs.Common.{◌≡◌, ℕ, ◌+◌, List, [], ◌∷◌, ◌++◌, Option, Some, None, refl, sym, ap, ◌∙◌, append_assoc, append-nil}
use Rattle.mlt_serve_session.proofs.Names.{ObjOp, ObjReply, End, Outcome, Command, DeskAnswer, Begun, Replied, Committed, DeskCall, SessionLine, Says, TooLong, outcome_of, begins_by, begun_in, done_in, end_in, call_of, up_to, before_next, all_done, ended_by, outcome_behind, outcome_if, outcomes_of, Turn, turns, call_for}
use Rattle.mlt_serve_session.{proofs.Closing.at_last_end, specs.Noting.noted}

-- the outcomes after a turn
abbrev pub noted_by : ℕ → ℕ → List Outcome → Option DeskCall → Option DeskAnswer → List Outcome
noted_by client begun rs (Some c) (Some a) = noted client begun rs c a
noted_by client begun rs asked answer = rs

-- the outcomes after turns, where so many transactions were begun before
abbrev pub noted_all : ℕ → ℕ → List Outcome → List Turn → List Outcome
noted_all client begun rs [] = rs
noted_all client begun rs (t ∷ ts) = noted_all client (begun + begins_by t.answer) (noted_by client begun rs (call_for t.open_before t.line) t.answer) ts

-- the last outcome, after turns in which no other begins
abbrev grown : Outcome → List (ObjOp × ObjReply) → End → Outcome
grown r done end = record { client = r.client; number = r.number; tx = r.tx; done = r.done ++ done; end = end }

-- nothing was done
nothing_more : (rs : List Outcome) (r : Outcome) (later : List Outcome) → rs ++ r ∷ later ≡ rs ++ grown r [] r.end ∷ later
nothing_more rs r later = ap (λ (d : List (ObjOp × ObjReply)). rs ++ record r { done = d } ∷ later) (sym (append-nil r.done))

-- what one turn makes of the outcomes, the last of which is open
one_noted : (client b : ℕ) (rs : List Outcome) (r : Outcome) (c : Option DeskCall) (a : Option DeskAnswer) → begun_in c a ≡ None → noted_by client b (rs ++ r ∷ []) c a ≡ rs ++ grown r (done_in c a) (end_in r.end c a) ∷ []
one_noted client b rs r (Some DeskCall.Begin) (Some (Begun tx)) e = absurd (cc e)
one_noted client b rs r (Some (DeskCall.Operation tx op)) (Some (Replied reply)) e = at_last_end _ rs r
one_noted client b rs r (Some (DeskCall.Operation tx op)) (Some a) e = at_last_end _ rs r ∙ nothing_more rs r []
one_noted client b rs r (Some (DeskCall.Commit tx)) (Some (Committed n)) e = at_last_end _ rs r ∙ nothing_more rs (record r { end = End.Committed n }) []
one_noted client b rs r (Some (DeskCall.Commit tx)) (Some a) e = at_last_end _ rs r ∙ nothing_more rs r []
one_noted client b rs r (Some (DeskCall.Abort tx)) (Some a) e = nothing_more rs r []
one_noted client b rs r c a e = nothing_more rs r []

begin_noted : (client b : ℕ) (rs : List Outcome) (c : Option DeskCall) (a : Option DeskAnswer) (tx : ℕ) → begun_in c a ≡ Some tx
    → noted_by client b rs c a ≡ rs ++ outcome_of client (b + 1) tx [] End.Aborted ∷ []
begin_noted client b rs (Some DeskCall.Begin) (Some (Begun t)) tx e =
    let same : t ≡ tx = cc in ap (λ (n : ℕ). rs ++ outcome_of client (b + 1) n [] End.Aborted ∷ []) same
begin_noted client b rs c a tx e = absurd (cc e)

-- a turn, and those behind it
open_case : (client b : ℕ) (rs : List Outcome) (r : Outcome) (t : Turn) (ts : List Turn) (x : Option ℕ) → begun_in (call_of t) t.answer ≡ x
    → ((n : ℕ) (ss : List Outcome) (s : Outcome) → noted_all client n (ss ++ s ∷ []) ts ≡ ss ++ grown s (all_done (before_next ts)) (ended_by s.end (before_next ts)) ∷ outcomes_of client n ts)
    → noted_all client b (rs ++ r ∷ []) (t ∷ ts)
    ≡ rs ++ grown r (all_done (up_to x t (before_next ts))) (ended_by r.end (up_to x t (before_next ts))) ∷ (outcome_if client (b + 1) x ts ++ outcomes_of client (b + begins_by t.answer) ts)
open_case client b rs r t ts None e ih =
    let c = call_of t in
    let d = done_in c t.answer in
    let n = b + begins_by t.answer in
    ap (λ (l : List Outcome). noted_all client n l ts) (one_noted client b rs r c t.answer e) ∙ ih n rs (grown r d (end_in r.end c t.answer))
    ∙ ap (λ (l : List (ObjOp × ObjReply)). rs ++ record r { done = l; end = ended_by (end_in r.end c t.answer) (before_next ts) } ∷ outcomes_of client n ts)
    (append_assoc r.done d (all_done (before_next ts)))
open_case client b rs r t ts (Some tx) e ih =
    let n = b + begins_by t.answer in
    let new : Outcome = outcome_of client (b + 1) tx [] End.Aborted in
    ap (λ (l : List Outcome). noted_all client n l ts) (begin_noted client b (rs ++ r ∷ []) (call_of t) t.answer tx e) ∙ ih n (rs ++ r ∷ []) new
    ∙ append_assoc rs (r ∷ []) (outcome_behind client (b + 1) tx ts ∷ outcomes_of client n ts)
    ∙ nothing_more rs r (outcome_behind client (b + 1) tx ts ∷ outcomes_of client n ts)

-- turns behind an open outcome
open_noted : (client b : ℕ) (rs : List Outcome) (r : Outcome) (ts : List Turn)
    → noted_all client b (rs ++ r ∷ []) ts ≡ rs ++ grown r (all_done (before_next ts)) (ended_by r.end (before_next ts)) ∷ outcomes_of client b ts
open_noted client b rs r [] = nothing_more rs r []
open_noted client b rs r (t ∷ ts) = open_case client b rs r t ts (begun_in (call_of t) t.answer) refl (λ n ss s. open_noted client n ss s ts)

-- turns with nothing open before them
pub all_noted : (client b : ℕ) (rs : List Outcome) (ls : List SessionLine) (answers : List DeskAnswer) → noted_all client b rs (turns None ls answers) ≡ rs ++ outcomes_of client b (turns None ls answers)
all_noted client b rs [] answers = sym (append-nil rs)
all_noted client b rs (Says Command.Begin ∷ ls) [] = sym (append-nil rs)
all_noted client b rs (Says Command.Begin ∷ ls) (Begun tx ∷ answers) =
    open_noted client (b + 1) rs (outcome_of client (b + 1) tx [] End.Aborted) (turns (Some tx) ls answers)
all_noted client b rs (Says Command.Begin ∷ ls) (a ∷ answers) = all_noted client (b + 0) rs ls answers
all_noted client b rs (Says Command.Quit ∷ ls) answers = sym (append-nil rs)
all_noted client b rs (TooLong ∷ ls) answers = sym (append-nil rs)
all_noted client b rs (l ∷ ls) answers = all_noted client (b + 0) rs ls answers
