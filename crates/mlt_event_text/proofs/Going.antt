-- A text that is gone over line by line.
use Rattle.std.proofs.Common.{◌≡◌, ℕ, ◌+◌, Bool, true, false, cond, List, [], ◌∷◌, ◌++◌, length, Option, Some, None, nat_lt, sym, ap, subst, ◌∙◌, append_assoc, length-append, append-nil}
use Rattle.std.{proofs.lemmas.List.flat_map_more, proofs.lemmas.List.Elements.All-push, specs.List.list_all}
use Rattle.mlt_types.specs.declared.refusal.ScriptCause.{ScriptCause}
use Rattle.mlt_event.specs.declared.event.Event.{Event}
use Rattle.mlt_event_text.specs.{declared.forms.Asked.Asked, declared.line.EventReading.EventReading, declared.line.EventReading.TheVariants.Bad, declared.line.EventReading.TheVariants.Skip, declared.line.EventReading.TheVariants.Asks, Answering.WentOver, Forms.asked_by, Readings.asked_or_fault, Readings.reading, Readings.said_by}
use Rattle.mlt_event_text.specs.Grammar.{AreEvents, IsFault, IsLawful, Spells, events_of}
use Rattle.mlt_text_words.specs.Lines.{Raw, lines, content, is_comment, is_allowed}
use Rattle.mlt_text_words.{specs.Words.raw_words, proofs.Cutting.no_lines}

-- ---- the faults of lines

-- a fault that a line can have
abbrev IsOwn : EventReading → Type 0
IsOwn (Bad ScriptCause.Line) = Unit {0}
IsOwn (Bad ScriptCause.Words) = Unit {0}
IsOwn (Bad other) = ⊥
IsOwn Skip = Unit {0}
IsOwn (Asks asked) = Unit {0}

own_either : (b : Bool) (x y : EventReading) → IsOwn x → IsOwn y → IsOwn (cond b x y)
own_either true x y h k = h
own_either false x y h k = k

own_asked : (o : Option Asked) → IsOwn (asked_or_fault o)
own_asked None = tt
own_asked (Some asked) = tt

own_said : (words : List (List ℕ)) → IsOwn (said_by words)
own_said [] = tt
own_said (word ∷ words) = own_asked (asked_by word words)

own_reading : (raw : Raw) → IsOwn (reading raw)
unfolding reading
own_reading raw =
    own_either (nat_lt 200 (length raw.bytes)) _ _ tt
    (own_either (is_comment (content raw)) _ _ tt (own_either (list_all is_allowed (content raw)) _ _ (own_said (raw_words (content raw))) tt))

own_fault : (raw : Raw) (fault : ScriptCause) → IsOwn (Bad fault) → reading raw ≡ Bad fault → IsFault raw fault
own_fault raw ScriptCause.Line own is = is
own_fault raw ScriptCause.Words own is = is
own_fault raw other own is = absurd own

-- what is bad is faulty
pub bad_line : (raw : Raw) (fault : ScriptCause) → reading raw ≡ Bad fault → IsFault raw fault
bad_line raw fault is = own_fault raw fault (subst IsOwn is (own_reading raw)) is

-- ---- one more line

pub went_on : (old new : List Event) (line : ℕ) (text rest more : List ℕ) (raw : Raw) → lines rest ≡ raw ∷ lines more
    → IsLawful raw → new ≡ old ++ events_of raw → WentOver old line text rest → WentOver new (line + 1) text more
went_on old new line text rest more raw first lawful added over = record {
  before = over.before ++ raw ∷ [];
  cut = over.cut ∙ ap (λ rs. over.before ++ rs) first ∙ sym (append_assoc over.before (raw ∷ []) (lines more));
  counted = ap (λ n. n + 1) over.counted ∙ sym (length-append over.before (raw ∷ []));
  spelled = record {
    lawful = All-push IsLawful over.before raw over.spelled.lawful lawful;
    appended = added ∙ ap (λ es. es ++ events_of raw) over.spelled.appended ∙ flat_map_more events_of [] over.before raw;
  };
}

pub went_to_end : (events : List Event) (line : ℕ) (text rest : List ℕ) → length rest ≡ 0 → WentOver events line text rest → Spells text events
went_to_end events line text rest none over =
    let all : over.before ≡ lines text = sym (over.cut ∙ ap (λ rs. over.before ++ rs) (no_lines rest none) ∙ append-nil over.before) in
    subst (λ raws. AreEvents raws events) all over.spelled
