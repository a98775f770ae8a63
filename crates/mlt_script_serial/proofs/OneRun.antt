-- The scripts and the marks fix the outcomes and the base.
use Rattle.std.proofs.Common.{map, ◌≡◌, ℕ, List, [], ◌∷◌, length, refl, sym, ap, ◌∙◌, subst, arith}
use Rattle.mlt_object_kinds.{specs.declared.operation.ObjOp.ObjOp, specs.declared.operation.ObjReply.ObjReply, proofs.BaseLaws.base_one_answer, specs.Bases.Base, specs.Bases.Step, specs.Bases.TranscriptLeads, specs.Bases.Transcript}
use Rattle.mlt_script.specs.{declared.statement.Ending.Ending, declared.statement.Ending.TheVariants.Commit, declared.statement.Ending.TheVariants.Abort, Scripts.ScriptForm}
use Rattle.mlt_script_serial.{specs.Follows.Questions, specs.Follows.Reaches, specs.Follows.Follows, specs.Follows.questions_of_script, specs.declared.outcome.End.End, specs.declared.outcome.End.TheVariants.Committed, specs.declared.outcome.End.TheVariants.Aborted, specs.declared.outcome.End.TheVariants.Refused, specs.declared.outcome.Outcome.Outcome, proofs.Transcripts.reaches_front, specs.Follows.Questions.Ends, specs.Follows.Questions.Asks}
use Rattle.mlt_types.specs.declared.refusal.Refusal.{Refusal}
use Rattle.mlt_script_serial.specs.Serial.{IsScriptRun, AreRuns, mark_of, mark_of_end, answers_of}

-- Two transcripts of the same questions from one base are one, where both come to an end.
one_transcript : (p : Questions) (b m n : Base) (t u : Transcript) (e f : Ending) → Reaches p t (Ends e) → Reaches p u (Ends f) → TranscriptLeads b t m → TranscriptLeads b u n
    → (t ≡ u) × (e ≡ f) × (m ≡ n)
one_transcript (Ends d) b m n [] [] e f h k r s = let same : e ≡ f = cc in (refl, same, sym r ∙ s)
one_transcript (Ends d) b m n (x ∷ t) u e f h k r s = absurd h
one_transcript (Ends d) b m n [] (y ∷ u) e f h k r s = absurd k
one_transcript (Asks o after) b m n [] u e f h k r s = absurd (cc h)
one_transcript (Asks o after) b m n (x ∷ t) [] e f h k r s = absurd (cc k)
one_transcript (Asks o after) b m n ((op, rx) ∷ t) ((oq, ry) ∷ u) e f h k r s =
    let op_is : op ≡ o = h.0 in
    let oq_is : oq ≡ o = k.0 in
    let sx : Step b (o, rx) r.0 = subst (λ (z : ObjOp). Step b (z, rx) r.0) op_is r.1 in
    let sy : Step b (o, ry) s.0 = subst (λ (z : ObjOp). Step b (z, ry) s.0) oq_is s.1 in
    let one = base_one_answer b r.0 s.0 o rx ry sx sy in
    let k' : Reaches (after rx) u (Ends f) = subst (λ (z : ObjReply). Reaches (after z) u (Ends f)) (sym one.0) k.1 in
    let s' : TranscriptLeads r.0 u n = subst (λ (z : Base). TranscriptLeads z u n) (sym one.1) s.2 in
    let rest = one_transcript (after rx) r.0 m n t u e f h.1 k' r.2 s' in
    let first : ◌≡◌ {A = ObjOp × ObjReply} (op, rx) (oq, ry) = λ i. ((op_is ∙ sym oq_is) i, one.0 i) in
    let same : (op, rx) ∷ t ≡ (oq, ry) ∷ u = λ i. first i ∷ rest.0 i in
    (same, rest.1, rest.2)

-- Two transcripts of the same questions from one base are one, where they have one length.
one_front : (p q s : Questions) (b m n : Base) (t u : Transcript) → Reaches p t q → Reaches p u s → TranscriptLeads b t m → TranscriptLeads b u n → length t ≡ length u → t ≡ u
one_front p q s b m n [] [] h k r v l = refl
one_front p q s b m n [] (y ∷ u) h k r v l = absurd (omega arith)
one_front p q s b m n (x ∷ t) [] h k r v l = absurd (omega arith)
one_front (Ends d) q s b m n (x ∷ t) (y ∷ u) h k r v l = absurd h
one_front (Asks o after) q s b m n ((op, rx) ∷ t) ((oq, ry) ∷ u) h k r v l =
    let op_is : op ≡ o = h.0 in
    let oq_is : oq ≡ o = k.0 in
    let sx : Step b (o, rx) r.0 = subst (λ (z : ObjOp). Step b (z, rx) r.0) op_is r.1 in
    let sy : Step b (o, ry) v.0 = subst (λ (z : ObjOp). Step b (z, ry) v.0) oq_is v.1 in
    let one = base_one_answer b r.0 v.0 o rx ry sx sy in
    let k' : Reaches (after rx) u s = subst (λ (z : ObjReply). Reaches (after z) u s) (sym one.0) k.1 in
    let v' : TranscriptLeads r.0 u n = subst (λ (z : Base). TranscriptLeads z u n) (sym one.1) v.2 in
    let rest = one_front (after rx) q s r.0 m n t u h.1 k' r.2 v' (omega arith) in
    let first : ◌≡◌ {A = ObjOp × ObjReply} (op, rx) (oq, ry) = λ i. ((op_is ∙ sym oq_is) i, one.0 i) in
    λ i. first i ∷ rest i

-- what one run fixes
abbrev Same : Transcript → Transcript → End → End → Base → Base → ℕ → ℕ → Type 0
Same t u e f c d k j = (t ≡ u) × (e ≡ f) × (c ≡ d) × (k ≡ j)

-- a script that commits and one that aborts end differently
commits_or_aborts : (s : ScriptForm) (b m n : Base) (t u : Transcript) → Follows s t Commit → Follows s u Abort → TranscriptLeads b t m → TranscriptLeads b u n → ⊥
commits_or_aborts s b m n t u h k r v =
    let same : Commit ≡ Abort = (one_transcript (questions_of_script s) b m n t u Commit Abort h k r v).1 in cc

one_mark : (t u : Transcript) (p q : Refusal) → mark_of_end t (Refused p) ≡ mark_of_end u (Refused q) → (length t ≡ length u) × (p ≡ q)
one_mark t u p q h =
    let pair : ◌≡◌ {A = ℕ × Refusal} (length t, p) (length u, q) = cc in
    (ap (λ (x : ℕ × Refusal). x.0) pair, ap (λ (x : ℕ × Refusal). x.1) pair)

-- One script, one base and one mark have one run.
one_run : (s : ScriptForm) (b c d : Base) (n k j : ℕ) (t u : Transcript) (e f : End) → mark_of_end t e ≡ mark_of_end u f → IsScriptRun s b n t e c k → IsScriptRun s b n u f d j
    → Same t u e f c d k j
one_run s b c d n k j t u (Committed x) (Committed y) m h g =
    let one = one_transcript (questions_of_script s) b c d t u Commit Commit h.0 g.0 h.1 g.1 in
    let numbers : k ≡ j = h.2 ∙ sym g.2 in
    let ends : x ≡ y = h.3 ∙ numbers ∙ sym g.3 in
    (one.0, ap Committed ends, one.2, numbers)
one_run s b c d n k j t u (Committed x) Aborted m h g = absurd (commits_or_aborts s b c g.1.0 t u h.0 g.0 h.1 g.1.1)
one_run s b c d n k j t u (Committed x) (Refused q) m h g = absurd (cc m)
one_run s b c d n k j t u Aborted (Committed y) m h g = absurd (commits_or_aborts s b d h.1.0 u t g.0 h.0 g.1 h.1.1)
one_run s b c d n k j t u Aborted Aborted m h g =
    let one = one_transcript (questions_of_script s) b h.1.0 g.1.0 t u Abort Abort h.0 g.0 h.1.1 g.1.1 in
    (one.0, refl, h.2 ∙ sym g.2, h.3 ∙ sym g.3)
one_run s b c d n k j t u Aborted (Refused q) m h g = absurd (cc m)
one_run s b c d n k j t u (Refused p) (Committed y) m h g = absurd (cc m)
one_run s b c d n k j t u (Refused p) Aborted m h g = absurd (cc m)
one_run s b c d n k j t u (Refused p) (Refused q) m h g =
    let marks = one_mark t u p q m in
    let questions = questions_of_script s in
    let front = reaches_front questions t h.0.0 (Ends h.0.1) h.0.2 in
    let other = reaches_front questions u g.0.0 (Ends g.0.1) g.0.2 in
    let same : t ≡ u = one_front questions front.0 other.0 b h.1.0 g.1.0 t u front.1 other.1 h.1.1 g.1.1 marks.0 in
    (same, ap Refused marks.1, h.2 ∙ sym g.2, h.3 ∙ sym g.3)

-- One list of scripts, one base and one list of marks have one run.
pub one_serial_run : (ss : List ScriptForm) (b c d : Base) (n k j : ℕ) (os ps : List Outcome) → map mark_of os ≡ map mark_of ps → AreRuns ss b n os c k → AreRuns ss b n ps d j
    → (map answers_of os ≡ map answers_of ps) × (c ≡ d)
one_serial_run [] b c d n k j [] [] m h g = (refl, sym h.0 ∙ g.0)
one_serial_run [] b c d n k j [] (p ∷ ps) m h g = absurd g
one_serial_run [] b c d n k j (o ∷ os) ps m h g = absurd h
one_serial_run (s ∷ ss) b c d n k j [] ps m h g = absurd h
one_serial_run (s ∷ ss) b c d n k j (o ∷ os) [] m h g = absurd g
one_serial_run (s ∷ ss) b c d n k j (o ∷ os) (p ∷ ps) m h g =
    let first : mark_of o ≡ mark_of p = cc in
    let later : map mark_of os ≡ map mark_of ps = cc in
    let one = one_run s b h.0 g.0 n h.1 g.1 o.done p.done o.end p.end first h.2 g.2 in
    let g' : AreRuns ss h.0 h.1 ps d j = subst (λ (z : Base). AreRuns ss z h.1 ps d j) (sym one.2) (subst (λ (z : ℕ). AreRuns ss g.0 z ps d j) (sym one.3) g.3) in
    let rest = one_serial_run ss h.0 c d h.1 k j os ps later h.3 g' in
    let answered_one : answers_of o ≡ answers_of p = λ i. (one.0 i, one.1 i) in
    let answered : answers_of o ∷ map answers_of os ≡ answers_of p ∷ map answers_of ps = λ i. answered_one i ∷ rest.0 i in
    (answered, rest.1)
