-- What a writer has of a text whose next bytes stand in a piece.
use Rattle.std.proofs.Common.{◌≡◌, ◌∙◌, ◌++◌, ℕ, List, [], sym, ap, subst, append-nil, append_assoc}
use Rattle.std.{specs.declared.option.Option.Option, specs.Io.KnownBytes.Appends, proofs.KnownBytes.Appends-trans}
use Rattle.mlt_text.specs.Texts.{AppendsFront}

-- the writer got a front of the text, which goes on with the piece, and then with the rest
pub record GoesOn (old new : Option (List ℕ)) (text piece rest : List ℕ) : Type 0 where
  pub front : List ℕ
  pub written : Appends old new front
  pub is : text ≡ front ++ (piece ++ rest)

module _ {a b : Option (List ℕ)} {text piece rest : List ℕ} (on : GoesOn a b text piece rest) where
  -- the writer got a front of the piece
  pub moved : (c : Option (List ℕ)) (out left : List ℕ) → piece ≡ out ++ left → Appends b c out → GoesOn a c text left rest
  moved c out left parts q = record {
    front = on.front ++ out;
    written = Appends-trans a b c on.front out on.written q;
    is = on.is ∙ ap (λ (l : List ℕ). on.front ++ (l ++ rest)) parts ∙ ap (λ (l : List ℕ). on.front ++ l) (append_assoc out left rest)
        ∙ sym (append_assoc on.front out (left ++ rest));
  }

  -- the piece got the next line
  pub longer : (new line left : List ℕ) → new ≡ piece ++ line → rest ≡ line ++ left → GoesOn a b text new left
  longer new line left grown parts = record {
    front = on.front;
    written = on.written;
    is = on.is ∙ ap (λ (l : List ℕ). on.front ++ l)
        (ap (λ (l : List ℕ). piece ++ l) parts ∙ sym (append_assoc piece line left) ∙ ap (λ (l : List ℕ). l ++ left) (sym grown));
  }

  -- no more is written
  pub stopped : AppendsFront a b text
  stopped = (on.front, piece ++ rest, on.is, on.written)

  -- the piece was to be written, and nothing comes after it
  pub last_moved : (c : Option (List ℕ)) (sent : List ℕ) → rest ≡ [] → sent ≡ piece → Appends b c sent → Appends a c text
  last_moved c sent end same q =
      let all : text ≡ on.front ++ sent = on.is ∙ ap (λ (l : List ℕ). on.front ++ (piece ++ l)) end
      ∙ ap (λ (l : List ℕ). on.front ++ l) (append-nil piece ∙ sym same) in
      subst (Appends a c) (sym all) (Appends-trans a b c on.front sent on.written q)

-- the writer failed within the piece
pub failed : {a b : Option (List ℕ)} {text piece rest : List ℕ} (on : GoesOn a b text piece rest) (c : Option (List ℕ)) (sent : List ℕ) → sent ≡ piece
    → AppendsFront b c sent → AppendsFront a c text
failed on c sent same fails = stopped (moved on c fails.0 fails.1 (sym same ∙ fails.2) fails.3)
