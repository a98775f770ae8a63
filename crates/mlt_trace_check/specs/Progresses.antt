-- How far a check has gone, and how it goes over the lines of a text, whatever comes behind it.
use Rattle.std.specs.Prelude.{◌≡◌, ℕ, Bool, true, List, [], ◌∷◌, ◌++◌, length, map, Result, Ok, Err}
use Rattle.mlt_types.specs.declared.refusal.Refusal.{Refusal}
use Rattle.mlt_text_words.specs.Lines.{Raw, lines}
use Rattle.mlt_trace.specs.{declared.item.TraceItem.TraceItem, Numbers.committed_txs}
use Rattle.mlt_trace_check.specs.{declared.progress.Progress.Progress, declared.reading.TraceReading.TraceReading, declared.reading.TraceReading.TheVariants.Says, Checkers.Knows, Readings.reading, Refusing.IsRefusalBy, Traces.ArePlaced, Traces.IsFirstFault}

-- The lines of what was taken, before the rest, were gone over. By them the transactions committed that were told, and then
-- those that are not told yet.
pub record WentOver (progress : Progress) (told taken rest : List ℕ) : Type 0 where
  pub before : List Raw
  pub items : List TraceItem
  pub cut : lines taken ≡ before ++ lines rest
  pub counted : progress.line ≡ length items
  pub order : told ++ progress.txs.items ≡ committed_txs items
  pub said : map reading before ≡ map Says items
  pub placed : ArePlaced items
  pub knows : Knows progress.checker items

-- from a text to the rest of it, behind some of its lines
pub record GoesOver (old new : Progress) (text rest : List ℕ) : Type 0 where
  pub front : List ℕ
  pub cut : text ≡ front ++ rest
  pub over : (told taken behind : List ℕ) → WentOver old told taken (text ++ behind) → WentOver new told taken (rest ++ behind)

-- some lines of the text were gone over, and their commits are kept
abbrev pub StopsIn : Progress → Progress → List ℕ → Type 0
StopsIn old new text = (mid : Progress) × (rest : List ℕ) × GoesOver old mid text rest × (new.txs.items ≡ mid.txs.items)

-- a fault in the text is the first of all that was read, whatever comes behind; but behind the end nothing does
abbrev pub Refuses : Refusal → Progress → List ℕ → Bool → Type 0
Refuses refusal progress text ended = IsRefusalBy (λ line cause.
    (told taken behind : List ℕ) → (ended ≡ true → behind ≡ [])
    → WentOver progress told taken (text ++ behind) → IsFirstFault taken line cause) refusal

-- the first line of the rest, which says this, was gone over, or refused
abbrev pub TakesLine : Result (Unit {0}) Refusal → Progress → Progress → TraceReading → Type 0
TakesLine (Ok done) old new found =
    ((item : TraceItem) × (found ≡ Says item))
    × ((raw : Raw) (told taken rest after : List ℕ) → reading raw ≡ found → lines rest ≡ raw ∷ lines after
    → WentOver old told taken rest → WentOver new told taken after)
TakesLine (Err refusal) old new found = IsRefusalBy (λ line cause.
    (raw : Raw) (told taken rest : List ℕ) (after : List Raw) → reading raw ≡ found → lines rest ≡ raw ∷ after
    → WentOver old told taken rest → IsFirstFault taken line cause) refusal
