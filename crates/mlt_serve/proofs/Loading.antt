-- A base that was loaded.
use Rattle.std.proofs.Common.{◌≡◌, ◌∙◌, ℕ, ◌+◌, List, [], ◌∷◌, ◌++◌, Some, IsPermutation, refl, ap, subst, sym, append_assoc, append-nil, length, arith}
use Rattle.std.proofs.lemmas.List.{nil_from_length}
use Rattle.mlt_serve.proofs.Names.{Outcome, IsPermutation-trans}
use Rattle.mlt_serve.specs.{Loads.AreHeard, Loads.HasLoaded, Loads.Heard, Loads.IsHeard, Loads.ends, declared.operating.Piece.Piece}

-- where a session has heard all lines
pub all_heard : (client : ℕ) (lines answers text rest : List ℕ) (before after : List Outcome) → Heard client (ends (Some lines) (Some [])) (ends (Some rest) (Some text)) before after
    → length rest ≡ 0 → text ≡ answers → (own : List Outcome) × IsHeard client lines answers own × (after ≡ before ++ own)
all_heard client lines answers text rest before after heard empty same =
    let is : heard.lines ≡ lines = sym (heard.consumed ∙ ap (λ xs. heard.lines ++ xs) (nil_from_length rest empty) ∙ append-nil heard.lines) in (
      heard.more,
      subst (λ xs. IsHeard client xs answers heard.more) is
          (record { given = heard.heard.given; told = heard.heard.told ∙ sym heard.wrote ∙ same; are = heard.heard.are }),
      heard.appended,
    )

-- one more connection has heard one more piece
pub one_more_heard : (first client : ℕ) (pieces : List Piece) (piece : Piece) (outcomes own : List Outcome) → AreHeard first pieces outcomes
    → client ≡ first + length pieces → IsHeard client piece.lines.items piece.answers.items own → AreHeard first (pieces ++ piece ∷ []) (outcomes ++ own)
one_more_heard first client [] piece outcomes own none is heard =
    let at : client ≡ first = omega (arith, is) in
    (own, [], ap (λ xs. xs ++ own) none ∙ sym (append-nil own), subst (λ n. IsHeard n piece.lines.items piece.answers.items own) at heard, refl)
one_more_heard first client (p ∷ pieces) piece outcomes own (mine, rest, are, first_heard, others) is heard = (
  mine,
  rest ++ own,
  ap (λ xs. xs ++ own) are ∙ append_assoc mine rest own,
  first_heard,
  one_more_heard (first + 1) client pieces piece rest own others (omega (arith, is)) heard,
)

-- where their outcomes were put together with others
pub among : (pieces : List Piece) (loaded others all : List Outcome) → AreHeard 1 pieces loaded → IsPermutation (others ++ loaded) all → HasLoaded pieces all
among pieces loaded others all heard same = record { loaded = loaded; others = others; heard = heard; among = same }

-- and then in another order
pub reordered : (pieces : List Piece) (all new : List Outcome) → IsPermutation all new → HasLoaded pieces all → HasLoaded pieces new
reordered pieces all new same is =
    record { loaded = is.loaded; others = is.others; heard = is.heard; among = IsPermutation-trans (is.others ++ is.loaded) all new is.among same }
