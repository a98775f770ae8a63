-- What the steps of `steps` give together.
use Rattle.std.proofs.Common.{◌≡◌, ℕ, Bool, List, [], ◌∷◌, ◌++◌, Result, Ok, Err, OnOk, is_err, false, sym, ap, subst, ◌∙◌}
use Rattle.std.proofs.lemmas.List.{flat_map_more, map-append}
use Rattle.mlt_types.specs.declared.limits.Limits.{Limits}
use Rattle.mlt_event.specs.declared.{event.Event.Event, told.Told.Told}
use Rattle.mlt_event_text.specs.Grammar.{Spells}
use Rattle.mlt_manager.specs.Managers.{ManagerFields}
use Rattle.mlt_manager_steps.specs.Steps.{AreExplained, ArePlayedLines, IsStepsText, IsTextBehind, explained_lines}

-- the events are played, and what they were told is written
pub is_steps_text : {P : Type 0} (bits_of : P → ℕ → ℕ) (limits : Limits) (pseudo : P) (explains : Bool) (bytes input : List ℕ) (played events : List Event) (lines text : List ℕ) (manager : ManagerFields P)
    → bytes ≡ input → played ≡ events → Spells bytes events → ArePlayedLines bits_of limits pseudo explains played manager lines → IsTextBehind lines manager text
    → IsStepsText bits_of limits pseudo explains input text manager
is_steps_text bits_of limits pseudo explains bytes input played events lines text manager same_bytes same_events spells plays is_text = record {
  events = events;
  spelled = subst (λ (b : List ℕ). Spells b events) same_bytes spells;
  lines = lines;
  played = subst (λ (e : List Event). ArePlayedLines bits_of limits pseudo explains e manager lines) same_events plays;
  written = is_text;
}

-- one more event was told this, and its lines stand behind those of the events before
pub explained_on : (tolds tolds' : List Told) (told : Told) (text text' reasons : List ℕ) → tolds' ≡ tolds ++ told ∷ [] → text' ≡ text ++ explained_lines (told, reasons) → AreExplained tolds text → AreExplained tolds' text'
explained_on tolds tolds' told text text' reasons more is so_far = record {
  explained = so_far.explained ++ (told, reasons) ∷ [];
  told = map-append (λ (one : Told × List ℕ). one.0) so_far.explained ((told, reasons) ∷ []) ∙ ap (λ (ts : List Told). ts ++ told ∷ []) so_far.told ∙ sym more;
  written = is ∙ ap (λ (t : List ℕ). t ++ explained_lines (told, reasons)) so_far.written ∙ flat_map_more explained_lines [] so_far.explained (told, reasons);
}

-- what is so on Ok, where a test says that it is no error
pub on_ok : {T E Q : Type 0} (r : Result T E) → is_err r ≡ false → OnOk r Q → Q
on_ok (Ok value) not_err is = is
on_ok (Err reason) not_err is = absurd cc
