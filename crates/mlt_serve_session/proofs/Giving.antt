-- All that is in the outcomes of turns is what the desk answered.
use Rattle.std.proofs.Common.{◌≡◌, ◌⊎◌, inl, inr, ℕ, ◌+◌, List, [], ◌∷◌, All, Option, Some, None, refl, sym, ap, subst, ◌∙◌}
use Rattle.mlt_serve_session.proofs.Names.{All-nil, Command, SessionLine, Says, End, DeskAnswer, Begun, Replied, Committed, DeskCall, Moves, GaveAll, all_done, before_next, begins_by, begun_in, call_of, done_in, end_in, ended_by, outcome_behind, outcome_if, outcomes_of, up_to, Turn, call_for, open_after, Asked, Goes, TalkState}
use Rattle.std.proofs.lemmas.List.Elements.{All-append, All-push}
use Rattle.mlt_script_serial.specs.{Calls.answer_to, declared.call.DeskAnswer.TheVariants.Aborted}
use Rattle.mlt_serve_session.specs.Given.{Gave, GaveEnd, GaveReply, LeadsTo}

-- the transaction is open, or none is
abbrev pub IsOpenOrNone : ℕ → Option ℕ → Type 0
IsOpenOrNone tx open_tx = (open_tx ≡ Some tx) ⊎ (open_tx ≡ None)

module _ {D : Type 0} (moves : Moves D) (last : D) where
  -- the desk gave the answer to the call, if there was one
  abbrev pub GaveIf : Option DeskCall → Option DeskAnswer → Type 0
  GaveIf None None = Unit {0}
  GaveIf (Some c) (Some a) = (answer_to c a ≡ a) × Gave moves last c a
  GaveIf other answer = ⊥

  -- in each turn, the first of which finds this open
  abbrev pub AreGiven : Option ℕ → List Turn → Type 0
  AreGiven before [] = Unit {0}
  AreGiven before (t ∷ ts) = (t.open_before ≡ before) × GaveIf (call_of t) t.answer × AreGiven (open_after t.open_before t.answer) ts

  -- from before a turn, too, the desk came to its last state
  gave_asked : (client : ℕ) (p q : TalkState D) (c : Option DeskCall) (a : Option DeskAnswer) → Asked moves client p c a q → LeadsTo moves q.desk last → GaveIf c a × LeadsTo moves p.desk last
  gave_asked client p q None None h k = (tt, subst (λ d. LeadsTo moves d last) h.0 k)
  gave_asked client p q (Some c) (Some a) h k =
      ((h.0.0, record { before = p.desk; after = q.desk; moved = h.0.1; leads = k }), record { calls = c ∷ k.calls; answers = a ∷ k.answers; run = (q.desk, h.0, k.run) })
  gave_asked client p q other answer h k = absurd h

  given_turns : (client : ℕ) (p q : TalkState D) (ts : List Turn) → Goes moves client p ts q → LeadsTo moves q.desk last → AreGiven p.progress.tx ts × LeadsTo moves p.desk last
  given_turns client p q [] h k = (tt, subst (λ r. LeadsTo moves r.desk last) h k)
  given_turns client p q (t ∷ ts) h k =
      let later = given_turns client h.0 q ts h.2 k in
      let first = gave_asked client p h.0 (call_of t) t.answer h.1.asked later.1 in
      let on : h.0.progress.tx ≡ open_after t.open_before t.answer = ap (λ r. r.tx) h.1.after ∙ ap (λ b. open_after b t.answer) (sym h.1.before) in
      ((h.1.before, first.0, subst (λ b. AreGiven b ts) on later.0), first.1)

  -- the transaction that is open stays so, or none is open, where no other begins
  stays : (tx : ℕ) (before : Option ℕ) (c : Option DeskCall) (a : Option DeskAnswer) → IsOpenOrNone tx before → GaveIf c a → begun_in c a ≡ None → IsOpenOrNone tx (open_after before a)
  stays tx before c (Some (Committed n)) o g none = inr refl
  stays tx before c (Some Aborted) o g none = inr refl
  stays tx before None (Some (Begun x)) o g none = absurd g
  stays tx before (Some DeskCall.Begin) (Some (Begun x)) o g none = absurd (cc none)
  stays tx before (Some c) (Some (Begun x)) o g none = absurd (cc (g.0))
  stays tx before c a o g none = o

  -- what a turn adds to the transaction that is open, if one is
  record Turned (tx : ℕ) (c : Option DeskCall) (a : Option DeskAnswer) : Type 0 where
    pub done : All (GaveReply moves last tx) (done_in c a)
    pub end : (e : End) → GaveEnd moves last tx e → GaveEnd moves last tx (end_in e c a)

  turned_within : (tx : ℕ) (line : SessionLine) (a : Option DeskAnswer) → GaveIf (call_for (Some tx) line) a → Turned tx (call_for (Some tx) line) a
  turned_within tx (Says (Command.Op op)) (Some (Replied reply)) g =
      record { done = All-push (GaveReply moves last tx) [] (op, reply) (All-nil (GaveReply moves last tx)) g.1; end = λ e k. k }
  turned_within tx (Says Command.Commit) (Some (Committed n)) g = record { done = All-nil (GaveReply moves last tx); end = λ e k. g.1 }
  turned_within tx line a g = record { done = All-nil (GaveReply moves last tx); end = λ e k. k }

  turned_alone : (tx : ℕ) (line : SessionLine) (a : Option DeskAnswer) → Turned tx (call_for None line) a
  turned_alone tx (Says Command.Begin) a = record { done = All-nil (GaveReply moves last tx); end = λ e k. k }
  turned_alone tx line a = record { done = All-nil (GaveReply moves last tx); end = λ e k. k }

  turned : (tx : ℕ) (before : Option ℕ) (line : SessionLine) (a : Option DeskAnswer) → IsOpenOrNone tx before → GaveIf (call_for before line) a → Turned tx (call_for before line) a
  turned tx before line a (inl is) g = subst (λ b. Turned tx (call_for b line) a) (sym is) (turned_within tx line a (subst (λ b. GaveIf (call_for b line) a) is g))
  turned tx before line a (inr is) g = subst (λ b. Turned tx (call_for b line) a) (sym is) (turned_alone tx line a)

  -- what the turns up to the next begin make of the transaction that is open, if one is
  record Behind (tx : ℕ) (ts : List Turn) : Type 0 where
    pub done : All (GaveReply moves last tx) (all_done ts)
    pub end : (e : End) → GaveEnd moves last tx e → GaveEnd moves last tx (ended_by e ts)

  nothing_behind : (tx : ℕ) → Behind tx []
  nothing_behind tx = record { done = All-nil (GaveReply moves last tx); end = λ e k. k }

  one_before : (tx : ℕ) (t : Turn) (rest : List Turn) → Turned tx (call_of t) t.answer → Behind tx rest → Behind tx (t ∷ rest)
  one_before tx t rest one behind = record {
    done = All-append (GaveReply moves last tx) (done_in (call_of t) t.answer) (all_done rest) one.done behind.done;
    end = λ e k. behind.end (end_in e (call_of t) t.answer) (one.end e k);
  }

  up_to_next : (tx : ℕ) (t : Turn) (rest : List Turn) (next : Option ℕ) → (next ≡ None → Behind tx (t ∷ rest)) → Behind tx (up_to next t rest)
  up_to_next tx t rest None all = all refl
  up_to_next tx t rest (Some x) all = nothing_behind tx

  behind : (tx : ℕ) (before : Option ℕ) (ts : List Turn) → IsOpenOrNone tx before → AreGiven before ts → Behind tx (before_next ts)
  behind tx before [] o h = nothing_behind tx
  behind tx before (t ∷ ts) o h =
      let here = subst (IsOpenOrNone tx) (sym h.0) o in
      up_to_next tx t (before_next ts) (begun_in (call_of t) t.answer) (λ none. one_before tx t (before_next ts) (turned tx t.open_before t.line t.answer here h.1)
      (behind tx (open_after t.open_before t.answer) ts (stays tx t.open_before (call_of t) t.answer here h.1 none) h.2))

  begins : (client number : ℕ) (before : Option ℕ) (c : Option DeskCall) (a : Option DeskAnswer) (ts : List Turn) → GaveIf c a → AreGiven (open_after before a) ts
      → All (GaveAll moves last) (outcome_if client number (begun_in c a) ts)
  begins client number before (Some DeskCall.Begin) (Some (Begun tx)) ts g h =
      let rest = behind tx (Some tx) ts (inl refl) h in
      All-push (GaveAll moves last) [] (outcome_behind client number tx ts) (All-nil (GaveAll moves last)) (record { begun = g.1; replies = rest.done; end = rest.end End.Aborted tt })
  begins client number before c a ts g h = All-nil (GaveAll moves last)

  given_outcomes : (client begun : ℕ) (before : Option ℕ) (ts : List Turn) → AreGiven before ts → All (GaveAll moves last) (outcomes_of client begun ts)
  given_outcomes client begun before [] h = All-nil (GaveAll moves last)
  given_outcomes client begun before (t ∷ ts) h =
      All-append (GaveAll moves last) (outcome_if client (begun + 1) (begun_in (call_of t) t.answer) ts) (outcomes_of client (begun + begins_by t.answer) ts)
      (begins client (begun + 1) t.open_before (call_of t) t.answer ts h.1 h.2)
      (given_outcomes client (begun + begins_by t.answer) (open_after t.open_before t.answer) ts h.2)

  -- all that is in the outcomes of turns is what the desk answered
  pub gave_all : (client begun : ℕ) (p q : TalkState D) (ts : List Turn) → Goes moves client p ts q → LeadsTo moves q.desk last → All (GaveAll moves last) (outcomes_of client begun ts)
  gave_all client begun p q ts h k = given_outcomes client begun p.progress.tx ts (given_turns client p q ts h k).0
