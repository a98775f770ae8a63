-- Bases that were loaded.
use Rattle.std.specs.Prelude.{◌≡◌, ℕ, ◌+◌, List, [], ◌∷◌, ◌++◌, Option, IsPermutation, flat_map}
use Rattle.std.specs.Io.KnownBytes.{Appends, Consumes}
use Rattle.mlt_script_serial.specs.declared.{call.DeskAnswer.DeskAnswer, outcome.Outcome.Outcome}
use Rattle.mlt_serve.specs.declared.operating.Piece.{Piece}
use Rattle.mlt_serve_session.specs.{Outcomes.outcomes_of, Talks.session_turns, Talks.turn_text}

-- a session of this client heard just these lines, was told just this text, and has these outcomes, by the answers that a desk has given
pub record IsHeard (client : ℕ) (lines text : List ℕ) (outcomes : List Outcome) : Type 0 where
  pub given : List DeskAnswer
  pub told : flat_map turn_text (session_turns lines given) ≡ text
  pub are : outcomes ≡ outcomes_of client 0 (session_turns lines given)

-- what a reader has left, and what a writer took, where these are known
pub record Ends : Type 0 where
  pub unread : Option (List ℕ)
  pub written : Option (List ℕ)

abbrev pub ends : Option (List ℕ) → Option (List ℕ) → Ends
ends unread written = record { unread = unread; written = written }

-- between these ends a session heard lines and was told a text, and its outcomes came behind those that there were
pub record Heard (client : ℕ) (old new : Ends) (before after : List Outcome) : Type 0 where
  pub lines : List ℕ
  pub text : List ℕ
  pub more : List Outcome
  pub heard : IsHeard client lines text more
  pub consumed : Consumes old.unread new.unread lines
  pub wrote : Appends old.written new.written text
  pub appended : after ≡ before ++ more

-- Connections with the numbers from this one on each heard the lines of one piece and were told just its answers, in the order of the
-- pieces, and these are their outcomes.
abbrev pub AreHeard : ℕ → List Piece → List Outcome → Type 0
AreHeard first [] outcomes = outcomes ≡ []
AreHeard first (piece ∷ pieces) outcomes = (own : List Outcome) × (rest : List Outcome) × (outcomes ≡ own ++ rest)
    × IsHeard first piece.lines.items piece.answers.items own × AreHeard (first + 1) pieces rest

-- Connections 1, 2, 3 and so on each heard the lines of one of these pieces and were told just its answers, and their outcomes are among
-- these. Where the answers have 'begun' and 'committed' with the numbers 1, 2, 3 and so on, their transactions are the first ones that
-- began, and committed.
pub record HasLoaded (pieces : List Piece) (outcomes : List Outcome) : Type 0 where
  pub loaded : List Outcome
  pub others : List Outcome
  pub heard : AreHeard 1 pieces loaded
  pub among : IsPermutation (others ++ loaded) outcomes
