-- The turns that were taken are those that the whole input and the answers fix, and what a session answers by how it went.
use Rattle.std.proofs.Common.{◌≡◌, ◌⊎◌, inl, inr, ℕ, ◌+◌, List, [], ◌∷◌, ◌++◌, length, take, Option, Bool, true, false, ◌||◌, Some, None, refl, sym, ap, subst, ◌∙◌, arith, append-nil, cond, Result, Ok, Err, IfOk, IsErrAnd, IsErrOf}
use Rattle.std.proofs.{Math.Bool.or-false, lemmas.Bool.cond_both}
use Rattle.mlt_types.specs.declared.refusal.Refusal.{Refusal, TheVariants.Io, TheVariants.LineTooLong, TheVariants.OutOfMemory}
use Rattle.mlt_serve_session.proofs.Names.{err_from_is_err_and, Appends-nil, Consumes-nil, All-nil, empty, Outcome, DeskAnswer, DeskCall, SessionLine, Says, TooLong, lines_in, Moves, GaveAll, begins_by, outcomes_of, Talked, Broken, BrokenHeard, AreLines, EndsInput, streams, Turn, turns, ends, open_after, call_for, TalkState, Goes, Asked}
use Rattle.mlt_serve_session.{proofs.Giving.gave_all, proofs.Receiving.noted_by, proofs.Receiving.noted_all, proofs.Receiving.all_noted, specs.Desks.Answers, specs.Turns.start, specs.Turns.Step, specs.declared.notes.SessionProgress.SessionProgress, specs.declared.sessions.Summary.Summary}
use Rattle.mlt_serve_session.specs.Sessions.{Acted, BrokenOff, HeardAll, Scene, SessionAnswers, Spoken, Summed, all_calls, all_answers}
use Rattle.mlt_serve_session.specs.Talks.{one_turn, unless_ended, option_list, calls_in, answers_in, open_at_end, closing, closing_answers, session_turns, commits_in, ends_in, long_in, is_long}

-- the turns that are left to a session: none where it is over
abbrev turns_left : SessionProgress → List SessionLine → List DeskAnswer → List Turn
turns_left r ls answers = cond r.over [] (turns r.tx ls answers)

long_ends : (l : SessionLine) → ends l ≡ false → is_long l ≡ false
long_ends (Says r) e = refl
long_ends TooLong e = absurd (cc e)

module _ {D : Type 0} (moves : Moves D) (client : ℕ) where
  one_case : (p q : TalkState D) (before : Option ℕ) (line : SessionLine) (c : Option DeskCall) (a : Option DeskAnswer) (answers : List DeskAnswer) (behind : Option ℕ → List DeskAnswer → List Turn)
      → Asked moves client p c a q
      → one_turn before line c (option_list a ++ answers) behind ≡ record { open_before = before; line = line; answer = a } ∷ unless_ended line (behind (open_after before a) answers)
  one_case p q before line None None answers behind h = refl
  one_case p q before line (Some c) (Some a) answers behind h = refl
  one_case p q before line c a answers behind h = absurd h

  -- one turn of those that are fixed
  first_turn : (p m : TalkState D) (t : Turn) (ls : List SessionLine) (answers : List DeskAnswer) → Step moves client p t m
      → turns_left p.progress (t.line ∷ ls) (option_list t.answer ++ answers) ≡ t ∷ turns_left m.progress ls answers
  first_turn p m t ls answers s =
      ap (λ over. cond over [] (turns p.progress.tx (t.line ∷ ls) (option_list t.answer ++ answers))) s.going
      ∙ ap (λ b. turns b (t.line ∷ ls) (option_list t.answer ++ answers)) (sym s.before)
      ∙ one_case p m t.open_before t.line (call_for t.open_before t.line) t.answer answers (λ next more. turns next ls more) s.asked
      ∙ ap (λ b. t ∷ cond (ends t.line) [] (turns (open_after b t.answer) ls answers)) s.before
      ∙ ap (λ (r : SessionProgress). t ∷ turns_left r ls answers) (sym s.after)

  turns_go : (p q : TalkState D) (ts : List Turn) (more : List SessionLine) → Goes moves client p ts q → turns_left p.progress (lines_in ts ++ more) (answers_in ts) ≡ ts ++ turns_left q.progress more []
  turns_go p q [] more h = ap (λ m. turns_left m.progress more []) (sym h)
  turns_go p q (t ∷ ts) more h = first_turn p h.0 t (lines_in ts ++ more) (answers_in ts) h.1 ∙ ap (λ us. t ∷ us) (turns_go h.0 q ts more h.2)

  -- the calls of the turns, and more
  ask_one : (p m : TalkState D) (new : D) (c : Option DeskCall) (a : Option DeskAnswer) (calls more : List DeskCall) (answers later : List DeskAnswer) → Asked moves client p c a m
      → Answers moves m.desk (calls ++ more) (answers ++ later) new → Answers moves p.desk ((option_list c ++ calls) ++ more) ((option_list a ++ answers) ++ later) new
  ask_one p m new None None calls more answers later h k = subst (λ d. Answers moves d (calls ++ more) (answers ++ later) new) h.0 k
  ask_one p m new (Some c) (Some a) calls more answers later h k = (m.desk, h.0, k)
  ask_one p m new c a calls more answers later h k = absurd h

  asked_all : (p q : TalkState D) (new : D) (ts : List Turn) (more : List DeskCall) (later : List DeskAnswer) → Goes moves client p ts q → Answers moves q.desk more later new
      → Answers moves p.desk (calls_in ts ++ more) (answers_in ts ++ later) new
  asked_all p q new [] more later h k = subst (λ m. Answers moves m.desk more later new) h k
  asked_all p q new (t ∷ ts) more later h k =
      ask_one p h.0 new (call_for t.open_before t.line) t.answer (calls_in ts) more (answers_in ts) later h.1.asked (asked_all h.0 q new ts more later h.2 k)

  opens : (p q : TalkState D) (ts : List Turn) → Goes moves client p ts q → q.progress.tx ≡ open_at_end p.progress.tx ts
  opens p q [] h = ap (λ m. m.progress.tx) h
  opens p q (t ∷ ts) h = opens h.0 q ts h.2 ∙ ap (λ r. open_at_end r.tx ts) h.1.after

  note_one : (p m : TalkState D) (c : Option DeskCall) (a : Option DeskAnswer) → Asked moves client p c a m → m.outcomes ≡ noted_by client p.progress.begun p.outcomes c a
  note_one p m None None h = h.1
  note_one p m (Some c) (Some a) h = h.1
  note_one p m c a h = absurd h

  notes : (p q : TalkState D) (ts : List Turn) → Goes moves client p ts q → q.outcomes ≡ noted_all client p.progress.begun p.outcomes ts
  notes p q [] h = ap (λ m. m.outcomes) h
  notes p q (t ∷ ts) h =
      notes h.0 q ts h.2 ∙ ap (λ r. noted_all client r.begun h.0.outcomes ts) h.1.after
      ∙ ap (λ (rs : List Outcome). noted_all client (p.progress.begun + begins_by t.answer) rs ts) (note_one p h.0 (call_for t.open_before t.line) t.answer h.1.asked)

  counted : (p q : TalkState D) (ts : List Turn) → Goes moves client p ts q → (q.progress.lines ≡ p.progress.lines + length ts) × (q.progress.commits ≡ p.progress.commits + commits_in ts)
  counted p q [] h = (ap (λ m. m.progress.lines) h ∙ omega arith, ap (λ m. m.progress.commits) h ∙ omega arith)
  counted p q (t ∷ ts) h =
      let later = counted h.0 q ts h.2 in
      (omega (arith, later.0, ap (λ (r : SessionProgress). r.lines) h.1.after), omega (arith, later.1, ap (λ (r : SessionProgress). r.commits) h.1.after))

  -- whether the session is over is whether it was or its turns say so, and so is whether a line was too long
  over_or_long : (p q : TalkState D) (ts : List Turn) → Goes moves client p ts q → (p.progress.over ≡ false → p.progress.long ≡ false)
      → (p.progress.over || ends_in ts ≡ q.progress.over) × (p.progress.long || long_in ts ≡ q.progress.long)
  over_or_long p q [] h short = (or-false p.progress.over ∙ ap (λ m. m.progress.over) (sym h), or-false p.progress.long ∙ ap (λ m. m.progress.long) (sym h))
  over_or_long p q (t ∷ ts) h short =
      let later = over_or_long h.0 q ts h.2 (λ on. ap (λ r. r.long) h.1.after ∙ long_ends t.line (sym (ap (λ r. r.over) h.1.after) ∙ on)) in (
        ap (λ b. b || ends_in (t ∷ ts)) h.1.going ∙ ap (λ r. r.over || ends_in ts) (sym h.1.after) ∙ later.0,
        ap (λ b. b || long_in (t ∷ ts)) (short h.1.going) ∙ ap (λ r. r.long || long_in ts) (sym h.1.after) ∙ later.1,
      )

-- a session at which nothing was read, and at whose end what was open was taken back
module _ {D : Type 0} (moves : Moves D) (client : ℕ) (old new : Scene D) (p q : TalkState D) (fresh : p.progress ≡ start) (same : p.desk ≡ old.desk) (before : p.outcomes ≡ old.outcomes)
    (after : new.outcomes ≡ q.outcomes) (closed : Answers moves q.desk (closing q.progress.tx) (closing_answers q.progress.tx) new.desk) where
  told_turns : (ts : List Turn) (more : List SessionLine) → Goes moves client p ts q → turns None (lines_in ts ++ more) (answers_in ts) ≡ ts ++ turns_left q.progress more []
  told_turns ts more h = ap (λ (r : SessionProgress). turns_left r (lines_in ts ++ more) (answers_in ts)) (sym fresh) ∙ turns_go moves client p q ts more h

  -- the turns that were heard are those of their lines and answers
  heard_turns : (ts : List Turn) → Goes moves client p ts q → turns None (lines_in ts) (answers_in ts) ≡ ts
  heard_turns ts h =
      ap (λ ls. turns None ls (answers_in ts)) (sym (append-nil (lines_in ts))) ∙ told_turns ts [] h
      ∙ cond_both q.progress.over [] [] (λ us. ts ++ us ≡ ts) (λ _. append-nil ts) (λ _. append-nil ts)

  exact_turns : (taken : List ℕ) (ts : List Turn) (over : Bool) → q.progress.over ≡ over → Goes moves client p ts q → AreLines over taken (lines_in ts) → session_turns taken (answers_in ts) ≡ ts
  exact_turns taken ts false o h l = ap (λ ls. turns None ls (answers_in ts)) l ∙ heard_turns ts h
  exact_turns taken ts true o h l =
      ap (λ ls. turns None ls (answers_in ts)) l.1 ∙ told_turns ts l.0 h ∙ ap (λ over. ts ++ cond over [] (turns q.progress.tx l.0 [])) o ∙ append-nil ts

  -- what came of the turns
  acts : (ts : List Turn) → Goes moves client p ts q → Acted moves client old new (answers_in ts) ts
  acts ts h =
      record {
        given = refl;
        asked = subst (λ d. Answers moves d (all_calls ts) (all_answers ts) new.desk) same
            (subst (λ tx. Answers moves p.desk (calls_in ts ++ closing tx) (answers_in ts ++ closing_answers tx) new.desk) (opens moves client p q ts h ∙ ap (λ r. open_at_end r.tx ts) fresh)
            (asked_all moves client p q new.desk ts (closing q.progress.tx) (closing_answers q.progress.tx) h closed));
        noted = after ∙ notes moves client p q ts h ∙ ap (λ r. noted_all client r.begun p.outcomes ts) fresh ∙ ap (λ (rs : List Outcome). noted_all client 0 rs ts) before
            ∙ subst (λ us. noted_all client 0 old.outcomes us ≡ old.outcomes ++ outcomes_of client 0 us) (heard_turns ts h) (all_noted client 0 old.outcomes (lines_in ts) (answers_in ts));
        gave = gave_all moves new.desk client 0 p q ts h (record { calls = closing q.progress.tx; answers = closing_answers q.progress.tx; run = closed });
      }

  turns_say : (ts : List Turn) → Goes moves client p ts q → (ends_in ts ≡ q.progress.over) × (long_in ts ≡ q.progress.long)
  turns_say ts h =
      let say = over_or_long moves client p q ts h (λ _. ap (λ r. r.long) fresh) in
      (ap (λ r. r.over || ends_in ts) (sym fresh) ∙ say.0, ap (λ r. r.long || long_in ts) (sym fresh) ∙ say.1)

  -- a session that ended by itself
  abbrev speaks : Talked moves client p (streams old.unread new.unread old.written new.written) q → Spoken moves client old new
  speaks t =
      let h = t.heard in
      record {
        taken = h.taken;
        answers = answers_in h.turns;
        turns = h.turns;
        is = exact_turns h.taken h.turns q.progress.over refl h.goes t.lines;
        consumed = h.consumed;
        within = h.within;
        ended = λ no. subst (λ over. EndsInput over new.unread) (sym (turns_say h.turns h.goes).0 ∙ no) t.ended;
        acted = acts h.turns h.goes;
        wrote = t.wrote;
      }

  pub answers_done : (summary : Summary) → summary.lines ≡ q.progress.lines → summary.commits ≡ q.progress.commits → Talked moves client p (streams old.unread new.unread old.written new.written) q
      → q.progress.long ≡ false → SessionAnswers moves client old new (Ok summary)
  answers_done summary lines commits t short =
      let counts = counted moves client p q t.heard.turns t.heard.goes in
      record {
        ok = record {
          spoken = speaks t;
          lines_are = lines ∙ counts.0 ∙ ap (λ r. r.lines + length t.heard.turns) fresh ∙ omega arith;
          commits_are = commits ∙ counts.1 ∙ ap (λ r. r.commits + commits_in t.heard.turns) fresh ∙ omega arith;
          short = (turns_say t.heard.turns t.heard.goes).1 ∙ short;
        };
        long = λ is. absurd (cc is);
        io = λ is. absurd (cc is);
        memory = λ is. absurd (cc is);
      }

  -- a line was too long
  pub answers_long : Talked moves client p (streams old.unread new.unread old.written new.written) q → q.progress.long ≡ true → SessionAnswers moves client old new (Err LineTooLong)
  answers_long t long = record { ok = tt; long = λ _. record { spoken = speaks t; long = (turns_say t.heard.turns t.heard.goes).1 ∙ long }; io = λ is. absurd (cc is); memory = λ is. absurd (cc is) }

  -- a session that was broken off
  abbrev breaks_off : Broken moves client p (streams old.unread new.unread old.written new.written) q → BrokenOff moves client old new
  breaks_off t =
      let h = t.heard in
      record {
        taken = h.taken;
        answers = answers_in h.turns;
        heard = h.turns;
        unheard = turns_left q.progress t.begins.0 [];
        is = ap (λ ls. turns None ls (answers_in h.turns)) t.begins.1 ∙ told_turns h.turns t.begins.0 h.goes;
        consumed = h.consumed;
        within = h.within;
        acted = acts h.turns h.goes;
        wrote = t.wrote;
      }

  -- the same, when it had heard all lines
  hears_all : BrokenHeard moves client p (streams old.unread new.unread old.written new.written) q → HeardAll moves client old new
  hears_all t = record { off = breaks_off t.broken; all = exact_turns (take 16777216 t.broken.heard.taken) t.broken.heard.turns q.progress.over refl t.broken.heard.goes t.lines; whole = t.whole }

  -- the refusal that broke it off was passed on
  pub answers_broken : (result : Result Summary Refusal) (why : Refusal) → IsErrAnd result (λ e. e ≡ why) → (why ≡ OutOfMemory) ⊎ (why ≡ Io)
      → Broken moves client p (streams old.unread new.unread old.written new.written) q
      → (IsErrOf result Io → BrokenHeard moves client p (streams old.unread new.unread old.written new.written) q) → SessionAnswers moves client old new result
  answers_broken result why passed cause t heard =
      let e = err_from_is_err_and result passed in
      let is : result ≡ Err why = e.1 ∙ ap (λ x. Err x) e.2 in
      record {
        ok = subst (λ (r : Result Summary Refusal). IfOk r (λ summary. Summed moves client old new summary.lines summary.commits)) (sym is) tt;
        long = λ long. elim cause [ inl o ↦ absurd (cc) | inr o ↦ absurd (cc) ];
        io = λ io. hears_all (heard io);
        memory = λ _. breaks_off t;
      }

-- there was no memory, and nothing was read
pub answers_nothing : {D : Type 0} (moves : Moves D) (client : ℕ) (old : Scene D) → SessionAnswers moves client old old (Err OutOfMemory)
answers_nothing moves client old =
    let off : BrokenOff moves client old old = record {
      taken = [];
      answers = [];
      heard = [];
      unheard = [];
      consumed = Consumes-nil old.unread;
      within = omega arith;
      is = ap (λ ls. turns None ls []) empty;
      acted = record { given = refl; asked = refl; noted = sym (append-nil old.outcomes); gave = All-nil (GaveAll moves old.desk) };
      wrote = ([], [], refl, Appends-nil old.written);
    } in
    record { ok = tt; long = λ is. absurd (cc is); io = λ is. absurd (cc is); memory = λ _. off }
