-- Runs of scripts, one more at the end.
use Rattle.std.proofs.Common.{take, zero, suc, add-zero, ◌<◌, ◌≤◌, ◌≢◌, Bool, true, false, cond, length, get_or, set, arith, inl, inr, ◌≡◌, ℕ, ◌+◌, List, [], ◌∷◌, ◌++◌, Option, Some, None, map, count_by, ◌==◌, refl, sym, ap, ◌∙◌, subst, append_assoc, append-nil, get_or-set_same, get_or-set_other}
use Rattle.std.proofs.lemmas.{List.take_more, List.map-append, List.Sums.fold-append, Bool.Decides.eqb_tells}
use Rattle.mlt_types.specs.declared.refusal.Refusal.{Refusal}
use Rattle.mlt_object_kinds.specs.Bases.{Base}
use Rattle.mlt_script.specs.Scripts.{ScriptForm}
use Rattle.mlt_script_serial.specs.declared.outcome.{End.End, End.TheVariants.Committed, End.TheVariants.Aborted, End.TheVariants.Refused, Outcome.Outcome}
use Rattle.mlt_script_serial.specs.Serial.{IsScriptRun, AreRuns, AreNumbered, AreMarksOf, AreWithoutTx, mark_of, mark_of_end, unmarked}

-- one more script runs
pub runs_push : (ss : List ScriptForm) (b c d : Base) (n k j : ℕ) (os : List Outcome) (s : ScriptForm) (o : Outcome) → AreRuns ss b n os c k → IsScriptRun s c k o.done o.end d j
    → AreRuns (ss ++ s ∷ []) b n (os ++ o ∷ []) d j
runs_push [] b c d n k j [] s o h r =
    (d, j, subst (λ (z : Base). IsScriptRun s z n o.done o.end d j) (sym h.0) (subst (λ (z : ℕ). IsScriptRun s c z o.done o.end d j) (sym h.1) r), (refl, refl))
runs_push [] b c d n k j (p ∷ os) s o h r = absurd h
runs_push (x ∷ ss) b c d n k j [] s o h r = absurd h
runs_push (x ∷ ss) b c d n k j (p ∷ os) s o h r = (h.0, h.1, h.2, runs_push ss h.0 c d h.1 k j os s o h.3 r)

-- one more outcome is numbered
pub numbered_push : (before ss : List ScriptForm) (os : List Outcome) (s : ScriptForm) (o : Outcome) → AreNumbered before ss os → o.client ≡ s.client
    → o.number ≡ count_by (λ p. p.client == s.client) (before ++ ss) + 1 → AreNumbered before (ss ++ s ∷ []) (os ++ o ∷ [])
numbered_push before [] [] s o h c n =
    (c, n ∙ ap (λ (l : List ScriptForm). count_by (λ p. p.client == s.client) l + 1) (append-nil before), tt)
numbered_push before [] (p ∷ os) s o h c n = absurd h
numbered_push before (x ∷ ss) [] s o h c n = absurd h
numbered_push before (x ∷ ss) (p ∷ os) s o h c n =
    (h.0, h.1, numbered_push (before ++ x ∷ []) ss os s o h.2 c (n ∙ ap (λ (l : List ScriptForm). count_by (λ p. p.client == s.client) l + 1) (sym (append_assoc before (x ∷ []) ss))))

-- one more mark
marks_push : (refusal : Refusal) (ms : List (Option (ℕ × Refusal))) (m : Option (ℕ × Refusal)) → AreMarksOf refusal ms → AreMarksOf refusal (m ∷ []) → AreMarksOf refusal (ms ++ m ∷ [])
marks_push refusal [] m h k = k
marks_push refusal (None ∷ ms) m h k = marks_push refusal ms m h k
marks_push refusal (Some x ∷ ms) m h k = (h.0, marks_push refusal ms m h.1 k)

mark_is : (refusal : Refusal) (o : Outcome) (end : End) → o.end ≡ end → ((r : Refusal) → end ≡ Refused r → r ≡ refusal) → AreMarksOf refusal (mark_of_end o.done end ∷ [])
mark_is refusal o (Committed n) e h = tt
mark_is refusal o Aborted e h = tt
mark_is refusal o (Refused r) e h = (h r refl, tt)

pub outcome_marks_push : (refusal : Refusal) (os : List Outcome) (o : Outcome) → AreMarksOf refusal (map mark_of os) → ((r : Refusal) → o.end ≡ Refused r → r ≡ refusal)
    → AreMarksOf refusal (map mark_of (os ++ o ∷ []))
outcome_marks_push refusal os o h k =
    subst (AreMarksOf refusal) (sym (map-append mark_of os (o ∷ []))) (marks_push refusal (map mark_of os) (mark_of o) h (mark_is refusal o o.end refl k))

pub without_tx_push : (os : List Outcome) (o : Outcome) → AreWithoutTx os → o.tx ≡ 0 → AreWithoutTx (os ++ o ∷ [])
without_tx_push [] o h e = (e, tt)
without_tx_push (p ∷ os) o h e = (h.0, without_tx_push os o h.1 e)

counts_one : (p : ScriptForm → Bool) (ss : List ScriptForm) (s : ScriptForm) (b : Bool) → p s ≡ b → count_by p (ss ++ s ∷ []) ≡ cond b (count_by p ss + 1) (count_by p ss)
counts_one p ss s true h = fold-append (λ n x. n + cond (p x) 1 0) 0 ss (s ∷ []) ∙ rw h refl
counts_one p ss s false h = fold-append (λ n x. n + cond (p x) 1 0) 0 ss (s ∷ []) ∙ rw h (add-zero (count_by p ss))

-- the scripts of each client, with one more script
pub counted_push : (numbers : List ℕ) (ss : List ScriptForm) (s : ScriptForm) → length numbers ≡ 1000 → s.client < 1000
    → ((q : ℕ) → q < 1000 → get_or numbers q 0 ≡ count_by (λ p. p.client == q) ss)
    → (q : ℕ) → q < 1000 → get_or (set numbers s.client (get_or numbers s.client 0 + 1)) q 0 ≡ count_by (λ p. p.client == q) (ss ++ s ∷ [])
counted_push numbers ss s long small h q below =
    elim (eqb_tells s.client q) [
      | inl t ↦
          let here : s.client < length numbers = omega arith in
          let same : get_or (set numbers s.client (get_or numbers s.client 0 + 1)) q 0 ≡ get_or numbers s.client 0 + 1 = ap (λ (i : ℕ). get_or (set numbers s.client (get_or numbers s.client 0 + 1)) i 0) (sym t.1) ∙ get_or-set_same numbers s.client (get_or numbers s.client 0 + 1) 0 here in
          let was : get_or numbers s.client 0 ≡ count_by (λ p. p.client == q) ss = ap (λ (i : ℕ). get_or numbers i 0) t.1 ∙ h q below in
          same ∙ ap (λ (n : ℕ). n + 1) was ∙ sym (counts_one (λ (p : ScriptForm). p.client == q) ss s true t.0)
      | inr t ↦
          let other : q ≢ s.client = λ e. t.1 (sym e) in
          get_or-set_other numbers s.client q (get_or numbers s.client 0 + 1) 0 other ∙ h q below
          ∙ sym (counts_one (λ (p : ScriptForm). p.client == q) ss s false t.0)
    ]

-- the number of the next script of a client
pub next_number : (numbers : List ℕ) (ss : List ScriptForm) (s : ScriptForm) → length numbers ≡ 1000 → s.client < 1000
    → ((q : ℕ) → q < 1000 → get_or numbers q 0 ≡ count_by (λ p. p.client == q) ss)
    → get_or (set numbers s.client (get_or numbers s.client 0 + 1)) s.client 0 ≡ count_by (λ p. p.client == s.client) ss + 1
next_number numbers ss s long small h =
    let here : s.client < length numbers = omega arith in
    get_or-set_same numbers s.client (get_or numbers s.client 0 + 1) 0 here ∙ ap (λ (n : ℕ). n + 1) (h s.client small)

commits_le : (s : ScriptForm) (b c : Base) (n k : ℕ) (o : Outcome) (end : End) → IsScriptRun s b n o.done end c k → k ≤ n + 1
commits_le s b c n k o (Committed number) h = omega arith
commits_le s b c n k o Aborted h = omega arith
commits_le s b c n k o (Refused refusal) h = omega arith

-- a script adds one commit at most
pub commits_after-le : (s : ScriptForm) (b c : Base) (n k : ℕ) (o : Outcome) → IsScriptRun s b n o.done o.end c k → k ≤ n + 1
commits_after-le s b c n k o h = commits_le s b c n k o o.end h

-- the mark of a refused outcome says so
mark_says : (refusal q : Refusal) (o : Outcome) (end : End) (ms : List (Option (ℕ × Refusal))) → o.end ≡ end → end ≡ Refused q → AreMarksOf refusal (mark_of_end o.done end ∷ ms) → q ≡ refusal
mark_says refusal q o (Committed number) ms e h m = absurd (cc h)
mark_says refusal q o Aborted ms e h m = absurd (cc h)
mark_says refusal q o (Refused r) ms e h m = let same : r ≡ q = cc in sym same ∙ m.0

rest_of_marks : (refusal : Refusal) (m : Option (ℕ × Refusal)) (ms : List (Option (ℕ × Refusal))) → AreMarksOf refusal (m ∷ ms) → AreMarksOf refusal ms
rest_of_marks refusal None ms h = h
rest_of_marks refusal (Some m) ms h = h.1

pub refusal_at : (refusal q : Refusal) (os : List Outcome) (i : ℕ) (d : Outcome) → i < length os → AreMarksOf refusal (map mark_of os) → (get_or os i d).end ≡ Refused q → q ≡ refusal
refusal_at refusal q [] i d below m e = absurd (omega arith)
refusal_at refusal q (o ∷ os) zero d below m e = mark_says refusal q o o.end (map mark_of os) refl e m
refusal_at refusal q (o ∷ os) (suc i) d below m e = refusal_at refusal q os i d (omega arith) (rest_of_marks refusal (mark_of o) (map mark_of os) m) e

abbrev pub no_mark : Outcome → Option (ℕ × Refusal)
no_mark o = None

-- there are as many outcomes as scripts
pub none_of_each : (ss : List ScriptForm) (b c : Base) (n k : ℕ) (os : List Outcome) → AreRuns ss b n os c k → map no_mark os ≡ unmarked ss
none_of_each [] b c n k [] h = refl
none_of_each [] b c n k (o ∷ os) h = absurd h
none_of_each (s ∷ ss) b c n k [] h = absurd h
none_of_each (s ∷ ss) b c n k (o ∷ os) h = ap (λ (ms : List (Option (ℕ × Refusal))). None ∷ ms) (none_of_each ss h.0 c h.1 k os h.3)

-- one more outcome without a mark
pub unmarked_more : (os : List Outcome) (i : ℕ) (d : Outcome) → i < length os → map mark_of (take i os) ≡ map no_mark (take i os) → mark_of (get_or os i d) ≡ None
    → map mark_of (take (i + 1) os) ≡ map no_mark (take (i + 1) os)
unmarked_more os i d below h none =
    let more = take_more os i d below in
    let front : map mark_of (take i os ++ get_or os i d ∷ []) ≡ map mark_of (take i os) ++ mark_of (get_or os i d) ∷ [] = map-append mark_of (take i os) (get_or os i d ∷ []) in
    let back : map no_mark (take i os ++ get_or os i d ∷ []) ≡ map no_mark (take i os) ++ None ∷ [] = map-append no_mark (take i os) (get_or os i d ∷ []) in
    ap (map mark_of) more ∙ front
    ∙ ap (λ (ms : List (Option (ℕ × Refusal))). ms ++ mark_of (get_or os i d) ∷ []) h
    ∙ ap (λ (m : Option (ℕ × Refusal)). map no_mark (take i os) ++ m ∷ []) none
    ∙ sym back ∙ ap (map no_mark) (sym more)
