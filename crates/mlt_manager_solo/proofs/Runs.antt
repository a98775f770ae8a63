-- Runs of a manager, one after another, and the events of scripts as they grow
use Rattle.std.proofs.Common.{ℕ, List, [], ◌∷◌, ◌++◌, Option, None, Some, map, refl, sym, ap, subst, ◌∙◌, append_assoc, append-nil}
use Rattle.std.proofs.lemmas.List.{map-append}
use Rattle.mlt_manager_solo.proofs.Names.{Refusal, Transcript, ScriptForm, End, Refused, Outcome, mark_of, ManagerFields}
use Rattle.mlt_script_serial.specs.Serial.{mark_of_end}
use Rattle.mlt_manager_solo.specs.{Asking.CanBeMarks, Asking.CanEnd, Events.AreEventsOf, Events.AreEventsOfAll, Events.Exchange, Events.IsRunOf}

-- **Two runs, one after another, are a run.**
pub run_on : {P : Type 0} (bits_of : P → ℕ → ℕ) (old mid new : ManagerFields P) (first later : List Exchange) → IsRunOf bits_of old first mid → IsRunOf bits_of mid later new → IsRunOf bits_of old (first ++ later) new
run_on bits_of old mid new [] later same run = subst (λ (m : ManagerFields _). IsRunOf bits_of m later new) same run
run_on bits_of old mid new (e ∷ first) later (next, meets, rest) run = (next, meets, run_on bits_of next mid new first later rest run)

-- **The events of one more script.**
pub events_push : (ss : List ScriptForm) (os : List Outcome) (es later : List Exchange) (s : ScriptForm) (o : Outcome) → AreEventsOfAll ss os es → AreEventsOf s o.tx o.done o.end later
    → AreEventsOfAll (ss ++ s ∷ []) (os ++ o ∷ []) (es ++ later)
events_push [] [] es later s o none are = (later, [], ap (λ (l : List Exchange). l ++ later) none ∙ sym (append-nil later), are, refl)
events_push (x ∷ ss) (p ∷ os) es later s o (first, rest, is, own, others) are =
    (first, rest ++ later, ap (λ (l : List Exchange). l ++ later) is ∙ append_assoc first rest later, own, events_push ss os rest later s o others are)
events_push ss os es later s o none are = absurd none

marks_push : (ms : List (Option (ℕ × Refusal))) (m : Option (ℕ × Refusal)) → CanBeMarks ms → CanBeMarks (m ∷ []) → CanBeMarks (ms ++ m ∷ [])
marks_push [] m can also = also
marks_push (None ∷ ms) m can also = marks_push ms m can also
marks_push (Some x ∷ ms) m can also = (can.0, marks_push ms m can.1 also)

mark_can : (t : Transcript) (end : End) → CanEnd end → CanBeMarks (mark_of_end t end ∷ [])
mark_can t (Refused reason) can = (can, tt)
mark_can t other can = tt

-- **The mark of one more script.**
pub outcome_marks_push : (os : List Outcome) (o : Outcome) → CanBeMarks (map mark_of os) → CanEnd o.end → CanBeMarks (map mark_of (os ++ o ∷ []))
outcome_marks_push os o can end = subst CanBeMarks (sym (map-append mark_of os (o ∷ []))) (marks_push (map mark_of os) (mark_of o) can (mark_can o.done o.end end))
