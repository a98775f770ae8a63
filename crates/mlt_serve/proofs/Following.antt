-- The operations of a session stand in the history in the order in which they were made.
use Rattle.std.proofs.Common.{◌≡◌, inl, inr, ℕ, ◌+◌, ◌++◌, List, [], ◌∷◌, Option, Some, None, Bool, true, false, if◌then◌else◌, All, Contains, refl, sym, ap, subst, ◌∙◌, append_assoc, append-nil}
use Rattle.std.proofs.lemmas.List.{map-append}
use Rattle.mlt_serve.proofs.Names.{All-append, All-nil, All-push, TraceItem, Outcome, Moves, StartsWith, ObjOp, ObjReply, DeskAnswer, DeskCall, IsSubsequence, ops_of-append, ops_of}
use Rattle.mlt_event_text.specs.declared.{command.Command.Command, session_line.SessionLine.SessionLine, session_line.SessionLine.TheVariants.Says, session_line.SessionLine.TheVariants.TooLong}
use Rattle.mlt_script_serial.specs.Calls.{answer_to}
use Rattle.mlt_script_serial.specs.declared.call.DeskAnswer.TheVariants.{Begun, Replied, Committed, Aborted, Refused}
use Rattle.mlt_serve_session.{proofs.Giving.IsOpenOrNone, specs.Desks.Answers, specs.Desks.Moved}
use Rattle.mlt_serve_session.specs.Outcomes.{all_done, before_next, begins_by, begun_in, call_of, done_in, outcome_behind, outcome_if, outcomes_of, up_to}
use Rattle.mlt_serve_session.specs.Talks.{Turn, answers_in, call_alone, call_for, call_within, calls_in, closing, closing_answers, ends, one_turn, open_after, option_list, turns}
use Rattle.mlt_work_desk.proofs.{Seeing.no_more, Subsequences.behind_more, Subsequences.both_parts}
use Rattle.mlt_serve.specs.Tellings.{txs_of}
use Rattle.mlt_serve.proofs.{Operations.has_op, Telling.moves_of, Telling.run_more}

-- ---- turns

-- the desk answers just where it is asked
abbrev AreAsked : Option DeskCall → Option DeskAnswer → Type 0
AreAsked None None = Unit {0}
AreAsked (Some c) (Some a) = Unit {0}
AreAsked None (Some a) = ⊥
AreAsked (Some c) None = ⊥

-- the first turn finds this open, and each what the one before left
abbrev pub AreTurns : Option ℕ → List Turn → Type 0
AreTurns before [] = Unit {0}
AreTurns before (t ∷ ts) = (t.open_before ≡ before) × AreAsked (call_of t) t.answer × AreTurns (open_after before t.answer) ts

unless : (over : Bool) (next : Option ℕ) (rest : List Turn) → AreTurns next rest → AreTurns next (if over then [] else rest)
unless true next rest are = tt
unless false next rest are = are

one_are : (before : Option ℕ) (line : SessionLine) (c : Option DeskCall) (answers : List DeskAnswer) (lines : List SessionLine) → c ≡ call_for before line
    → ((next : Option ℕ) (left : List DeskAnswer) → AreTurns next (turns next lines left)) → AreTurns before (one_turn before line c answers (λ next left. turns next lines left))
one_are before line None answers lines is behind = (refl, subst (λ x. AreAsked x None) is tt, unless (ends line) before (turns before lines answers) (behind before answers))
one_are before line (Some c) [] lines is behind = tt
one_are before line (Some c) (a ∷ answers) lines is behind =
    let next = open_after before (Some a) in
    (refl, subst (λ x. AreAsked x (Some a)) is tt, unless (ends line) next (turns next lines answers) (behind next answers))

pub are_turns : (before : Option ℕ) (lines : List SessionLine) (answers : List DeskAnswer) → AreTurns before (turns before lines answers)
are_turns before [] answers = tt
are_turns before (line ∷ lines) answers = one_are before line (call_for before line) answers lines refl (λ next left. are_turns next lines left)

pub first_turns : (before : Option ℕ) (ts more : List Turn) → AreTurns before (ts ++ more) → AreTurns before ts
first_turns before [] more are = tt
first_turns before (t ∷ ts) more are = (are.0, are.1, first_turns (open_after before t.answer) ts more are.2)

-- an operation is one of the transaction that is open
not_alone : (x : ℕ) (op : ObjOp) (line : SessionLine) → Some (DeskCall.Operation x op) ≡ call_alone line → ⊥
not_alone x op (Says Command.Begin) is = cc is
not_alone x op (Says (Command.Op other)) is = cc is
not_alone x op (Says Command.Commit) is = cc is
not_alone x op (Says Command.Abort) is = cc is
not_alone x op (Says Command.Quit) is = cc is
not_alone x op (Says Command.Blank) is = cc is
not_alone x op (Says Command.Other) is = cc is
not_alone x op TooLong is = cc is

within_it : (x tx : ℕ) (op : ObjOp) (line : SessionLine) → Some (DeskCall.Operation x op) ≡ call_within tx line → x ≡ tx
within_it x tx op (Says Command.Begin) is = absurd (cc is)
within_it x tx op (Says (Command.Op other)) is = cc
within_it x tx op (Says Command.Commit) is = absurd (cc is)
within_it x tx op (Says Command.Abort) is = absurd (cc is)
within_it x tx op (Says Command.Quit) is = absurd (cc is)
within_it x tx op (Says Command.Blank) is = absurd (cc is)
within_it x tx op (Says Command.Other) is = absurd (cc is)
within_it x tx op TooLong is = absurd (cc is)

of_open : (x tx : ℕ) (op : ObjOp) (before : Option ℕ) (line : SessionLine) → IsOpenOrNone tx before → Some (DeskCall.Operation x op) ≡ call_for before line → x ≡ tx
of_open x tx op before line (inl is) asks = within_it x tx op line (asks ∙ ap (λ b. call_for b line) is)
of_open x tx op before line (inr is) asks = absurd (not_alone x op line (asks ∙ ap (λ b. call_for b line) is))

-- the transaction stays open, or none is, until the next one begins
stays : (tx : ℕ) (before : Option ℕ) (c : DeskCall) (a : DeskAnswer) → answer_to c a ≡ a → begun_in (Some c) (Some a) ≡ None → IsOpenOrNone tx before
    → IsOpenOrNone tx (open_after before (Some a))
stays tx before DeskCall.Begin (Begun x) fits none o = absurd (cc none)
stays tx before (DeskCall.Operation y op) (Begun x) fits none o = absurd (cc fits)
stays tx before (DeskCall.Commit y) (Begun x) fits none o = absurd (cc fits)
stays tx before (DeskCall.Abort y) (Begun x) fits none o = absurd (cc fits)
stays tx before c (Replied reply) fits none o = o
stays tx before c (Committed n) fits none o = inr refl
stays tx before c Aborted fits none o = inr refl
stays tx before c (Refused r) fits none o = o

-- ---- desks

module _ {D : Type 0} (view : D → List TraceItem) (begun_by : D → List ℕ) where
  abbrev moves : Moves D
  moves = moves_of view begun_by

  -- from the one state to the other the desk saw more items, which have these operations of the transaction, in this order
  record Saw (tx : ℕ) (done : List (ObjOp × ObjReply)) (old new : D) : Type 0 where
    pub more : List TraceItem
    pub whole : view new ≡ view old ++ more
    pub has : IsSubsequence done (ops_of tx more)

  nothing : (tx : ℕ) (old new : D) → StartsWith (view new) (view old) → Saw tx [] old new
  nothing tx old new more = record { more = more.0; whole = more.1; has = tt }

  both : (tx : ℕ) (one other : List (ObjOp × ObjReply)) (old mid new : D) → Saw tx one old mid → Saw tx other mid new → Saw tx (one ++ other) old new
  both tx one other old mid new a b = record {
    more = a.more ++ b.more;
    whole = b.whole ∙ ap (λ l. l ++ b.more) a.whole ∙ append_assoc (view old) a.more b.more;
    has = subst (λ l. IsSubsequence (one ++ other) l) (sym (ops_of-append tx a.more b.more)) (both_parts one other (ops_of tx a.more) (ops_of tx b.more) a.has b.has);
  }

  -- one call
  acts : (tx : ℕ) (before : Option ℕ) (line : SessionLine) (c : DeskCall) (a : DeskAnswer) (old mid : D) → Some c ≡ call_for before line → IsOpenOrNone tx before → Moved moves old c a mid
      → Saw tx (done_in (Some c) (Some a)) old mid
  acts tx before line DeskCall.Begin a old mid is o moved = nothing tx old mid (moved.1.0.more, moved.1.0.whole)
  acts tx before line (DeskCall.Operation x op) (Begun y) old mid is o moved = nothing tx old mid (moved.1.0.more, moved.1.0.whole)
  acts tx before line (DeskCall.Operation x op) (Replied reply) old mid is o moved =
      let have = subst (λ y. Contains moved.1.0.more (TraceItem.Op y (op, reply))) (of_open x tx op before line o is) moved.1.0.have in
      record { more = moved.1.0.more; whole = moved.1.0.whole; has = has_op tx (op, reply) moved.1.0.more have.0 have.1 have.2 }
  acts tx before line (DeskCall.Operation x op) (Committed n) old mid is o moved = nothing tx old mid (moved.1.0.more, moved.1.0.whole)
  acts tx before line (DeskCall.Operation x op) Aborted old mid is o moved = nothing tx old mid (moved.1.0.more, moved.1.0.whole)
  acts tx before line (DeskCall.Operation x op) (Refused r) old mid is o moved = nothing tx old mid (moved.1.0.more, moved.1.0.whole)
  acts tx before line (DeskCall.Commit x) a old mid is o moved = nothing tx old mid (moved.1.0.more, moved.1.0.whole)
  acts tx before line (DeskCall.Abort x) a old mid is o moved = nothing tx old mid (moved.1.0.more, moved.1.0.whole)

  -- one turn
  abbrev StepsIf : D → Option DeskCall → Option DeskAnswer → D → Type 0
  StepsIf old None None mid = mid ≡ old
  StepsIf old (Some c) (Some a) mid = Moved moves old c a mid
  StepsIf old None (Some a) mid = ⊥
  StepsIf old (Some c) None mid = ⊥

  abbrev Starts : Option DeskCall → Option DeskAnswer → List DeskCall → List DeskAnswer → D → D → Type 0
  Starts c a calls answers old new = (mid : D) × StepsIf old c a mid × Answers moves mid calls answers new

  one_starts : (c : Option DeskCall) (a : Option DeskAnswer) (calls : List DeskCall) (answers : List DeskAnswer) (old new : D) → AreAsked c a
      → Answers moves old (option_list c ++ calls) (option_list a ++ answers) new → Starts c a calls answers old new
  one_starts None None calls answers old new are run = (old, refl, run)
  one_starts (Some c) (Some a) calls answers old new are run = run
  one_starts None (Some a) calls answers old new are run = absurd are
  one_starts (Some c) None calls answers old new are run = absurd are

  starts : (t : Turn) (ts : List Turn) (calls : List DeskCall) (answers : List DeskAnswer) (old new : D) → AreAsked (call_of t) t.answer
      → Answers moves old (calls_in (t ∷ ts) ++ calls) (answers_in (t ∷ ts) ++ answers) new → Starts (call_of t) t.answer (calls_in ts ++ calls) (answers_in ts ++ answers) old new
  starts t ts calls answers old new are run =
      one_starts (call_of t) t.answer (calls_in ts ++ calls) (answers_in ts ++ answers) old new are
      (subst (λ cs. Answers moves old cs (option_list t.answer ++ (answers_in ts ++ answers)) new) (append_assoc (option_list (call_of t)) (calls_in ts) calls)
      (subst (λ (gave : List DeskAnswer). Answers moves old (calls_in (t ∷ ts) ++ calls) gave new) (append_assoc (option_list t.answer) (answers_in ts) answers) run))

  did : (tx : ℕ) (before : Option ℕ) (line : SessionLine) (c : Option DeskCall) (a : Option DeskAnswer) (old mid : D) → c ≡ call_for before line → IsOpenOrNone tx before → StepsIf old c a mid
      → Saw tx (done_in c a) old mid
  did tx before line None None old mid is o steps = nothing tx old mid (no_more (view old) (view mid) (ap view steps))
  did tx before line (Some c) (Some a) old mid is o steps = acts tx before line c a old mid is o steps
  did tx before line None (Some a) old mid is o steps = absurd steps
  did tx before line (Some c) None old mid is o steps = absurd steps

  remains : (tx : ℕ) (before : Option ℕ) (c : Option DeskCall) (a : Option DeskAnswer) (old mid : D) → StepsIf old c a mid → begun_in c a ≡ None → IsOpenOrNone tx before
      → IsOpenOrNone tx (open_after before a)
  remains tx before None None old mid steps none o = o
  remains tx before (Some c) (Some a) old mid steps none o = stays tx before c a steps.0 none o
  remains tx before None (Some a) old mid steps none o = absurd steps
  remains tx before (Some c) None old mid steps none o = absurd steps

  -- what was done up to the next begin
  up_to_next : (tx : ℕ) (t : Turn) (rest : List Turn) (next : Option ℕ) (old new : D) → begun_in (call_of t) t.answer ≡ next → StartsWith (view new) (view old)
      → (begun_in (call_of t) t.answer ≡ None → Saw tx (done_in (call_of t) t.answer ++ all_done rest) old new) → Saw tx (all_done (up_to next t rest)) old new
  up_to_next tx t rest None old new is more on = on is
  up_to_next tx t rest (Some x) old new is more on = nothing tx old new more

  follows : (tx : ℕ) (before : Option ℕ) (ts : List Turn) (calls : List DeskCall) (answers : List DeskAnswer) (old new : D) → IsOpenOrNone tx before → AreTurns before ts
      → Answers moves old (calls_in ts ++ calls) (answers_in ts ++ answers) new → Saw tx (all_done (before_next ts)) old new
  follows tx before [] calls answers old new o are run = nothing tx old new (run_more view begun_by old calls answers new run)
  follows tx before (t ∷ ts) calls answers old new o are run =
      let start = starts t ts calls answers old new are.1 run in
      let is : call_of t ≡ call_for before t.line = ap (λ b. call_for b t.line) are.0 in
      up_to_next tx t (before_next ts) (begun_in (call_of t) t.answer) old new refl (run_more view begun_by old (calls_in (t ∷ ts) ++ calls) (answers_in (t ∷ ts) ++ answers) new run)
      (λ none. both tx (done_in (call_of t) t.answer) (all_done (before_next ts)) old start.0 new (did tx before t.line (call_of t) t.answer old start.0 is o start.1)
      (follows tx (open_after before t.answer) ts calls answers start.0 new (remains tx before (call_of t) t.answer old start.0 start.1 none o) are.2 start.2))

  -- all that the last state has seen has the operations of an outcome in their order
  module _ (new : D) where
    abbrev pub InOrder : Outcome → Type 0
    InOrder o = IsSubsequence o.done (ops_of o.tx (view new))

    in_all : (tx : ℕ) (done : List (ObjOp × ObjReply)) (mid : D) → Saw tx done mid new → IsSubsequence done (ops_of tx (view new))
    in_all tx done mid saw =
        subst (λ l. IsSubsequence done (ops_of tx l)) (sym saw.whole)
        (subst (λ l. IsSubsequence done l) (sym (ops_of-append tx (view mid) saw.more)) (behind_more done (ops_of tx (view mid)) (ops_of tx saw.more) saw.has))

    begins : (client number : ℕ) (before : Option ℕ) (c : Option DeskCall) (a : Option DeskAnswer) (ts : List Turn) (mid : D)
        → ((tx : ℕ) → open_after before a ≡ Some tx → Saw tx (all_done (before_next ts)) mid new) → All InOrder (outcome_if client number (begun_in c a) ts)
    begins client number before None a ts mid behind = All-nil InOrder
    begins client number before (Some DeskCall.Begin) None ts mid behind = All-nil InOrder
    begins client number before (Some DeskCall.Begin) (Some (Begun tx)) ts mid behind =
        All-push InOrder [] (outcome_behind client number tx ts) (All-nil InOrder) (in_all tx (all_done (before_next ts)) mid (behind tx refl))
    begins client number before (Some DeskCall.Begin) (Some (Replied reply)) ts mid behind = All-nil InOrder
    begins client number before (Some DeskCall.Begin) (Some (Committed n)) ts mid behind = All-nil InOrder
    begins client number before (Some DeskCall.Begin) (Some Aborted) ts mid behind = All-nil InOrder
    begins client number before (Some DeskCall.Begin) (Some (Refused r)) ts mid behind = All-nil InOrder
    begins client number before (Some (DeskCall.Operation tx op)) a ts mid behind = All-nil InOrder
    begins client number before (Some (DeskCall.Commit tx)) a ts mid behind = All-nil InOrder
    begins client number before (Some (DeskCall.Abort tx)) a ts mid behind = All-nil InOrder

    pub all_in_order : (client begun : ℕ) (before : Option ℕ) (ts : List Turn) (calls : List DeskCall) (answers : List DeskAnswer) (old : D) → AreTurns before ts
        → Answers moves old (calls_in ts ++ calls) (answers_in ts ++ answers) new → All InOrder (outcomes_of client begun ts)
    all_in_order client begun before [] calls answers old are run = All-nil InOrder
    all_in_order client begun before (t ∷ ts) calls answers old are run =
        let start = starts t ts calls answers old new are.1 run in
        let next = open_after before t.answer in
        All-append InOrder (outcome_if client (begun + 1) (begun_in (call_of t) t.answer) ts) (outcomes_of client (begun + begins_by t.answer) ts)
        (begins client (begun + 1) before (call_of t) t.answer ts start.0 (λ tx is. follows tx next ts calls answers start.0 new (inl is) are.2 start.2))
        (all_in_order client (begun + begins_by t.answer) next ts calls answers start.0 are.2 start.2)

  -- ---- what a desk has begun

  -- by one turn
  begins_one : (c : Option DeskCall) (a : Option DeskAnswer) (client number : ℕ) (ts : List Turn) (old mid : D) → StepsIf old c a mid
      → begun_by mid ≡ begun_by old ++ txs_of (outcome_if client number (begun_in c a) ts)
  begins_one None None client number ts old mid same = ap begun_by same ∙ sym (append-nil (begun_by old))
  begins_one None (Some a) client number ts old mid none = absurd none
  begins_one (Some c) None client number ts old mid none = absurd none
  begins_one (Some DeskCall.Begin) (Some (Begun tx)) client number ts old mid moved = moved.1.1
  begins_one (Some DeskCall.Begin) (Some (Replied reply)) client number ts old mid moved = moved.1.1 ∙ sym (append-nil (begun_by old))
  begins_one (Some DeskCall.Begin) (Some (Committed n)) client number ts old mid moved = moved.1.1 ∙ sym (append-nil (begun_by old))
  begins_one (Some DeskCall.Begin) (Some Aborted) client number ts old mid moved = moved.1.1 ∙ sym (append-nil (begun_by old))
  begins_one (Some DeskCall.Begin) (Some (Refused r)) client number ts old mid moved = moved.1.1 ∙ sym (append-nil (begun_by old))
  begins_one (Some (DeskCall.Operation tx op)) (Some a) client number ts old mid moved = moved.1.1 ∙ sym (append-nil (begun_by old))
  begins_one (Some (DeskCall.Commit tx)) (Some a) client number ts old mid moved = moved.1.1 ∙ sym (append-nil (begun_by old))
  begins_one (Some (DeskCall.Abort tx)) (Some a) client number ts old mid moved = moved.1.1 ∙ sym (append-nil (begun_by old))

  -- by the end of a session
  begins_none : (before : Option ℕ) (old new : D) → Answers moves old (closing before) (closing_answers before) new → begun_by new ≡ begun_by old
  begins_none None old new same = ap begun_by same
  begins_none (Some tx) old new (mid, moved, same) = ap begun_by same ∙ moved.1.1

  -- by a session: the transactions of its outcomes, in their order
  pub begins_all : (client number : ℕ) (before last : Option ℕ) (ts : List Turn) (old new : D) → AreTurns before ts
      → Answers moves old (calls_in ts ++ closing last) (answers_in ts ++ closing_answers last) new → begun_by new ≡ begun_by old ++ txs_of (outcomes_of client number ts)
  begins_all client number before last [] old new are run = begins_none last old new run ∙ sym (append-nil (begun_by old))
  begins_all client number before last (t ∷ ts) old new are run =
      let start = starts t ts (closing last) (closing_answers last) old new are.1 run in
      let one = outcome_if client (number + 1) (begun_in (call_of t) t.answer) ts in
      let rest = outcomes_of client (number + begins_by t.answer) ts in
      begins_all client (number + begins_by t.answer) (open_after before t.answer) last ts start.0 new are.2 start.2
      ∙ ap (λ l. l ++ txs_of rest) (begins_one (call_of t) t.answer client (number + 1) ts old start.0 start.1)
      ∙ append_assoc (begun_by old) (txs_of one) (txs_of rest)
      ∙ ap (λ l. begun_by old ++ l) (sym (map-append (λ (o : Outcome). o.tx) one rest))
