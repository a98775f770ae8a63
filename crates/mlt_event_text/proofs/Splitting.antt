-- The lines of inputs that are parts of one.
use Rattle.std.proofs.Common.{◌≡◌, List, ℕ, [], ◌++◌, sym, ap, ◌∙◌, append_assoc}
use Rattle.mlt_event_text.{specs.Inputs.lines_of, specs.Inputs.Splits, specs.Inputs.Begins, specs.declared.session_line.SessionLine.SessionLine, proofs.Cutting.empty}

pub splits_none : Splits []
splits_none more = ap (λ (ls : List SessionLine). ls ++ lines_of more) (sym empty)

pub splits_both : (a b : List ℕ) → Splits a → Splits b → Splits (a ++ b)
splits_both a b p q more =
    ap lines_of (append_assoc a b more) ∙ p (b ++ more) ∙ ap (λ (rest : List SessionLine). lines_of a ++ rest) (q more)
    ∙ sym (append_assoc (lines_of a) (lines_of b) (lines_of more)) ∙ ap (λ (ls : List SessionLine). ls ++ lines_of more) (sym (p b))

-- the lines of a prefix, and then those of the rest
pub prefix_lines : (prefix more : List ℕ) (ls : List SessionLine) → Splits prefix → lines_of prefix ≡ ls → lines_of (prefix ++ more) ≡ ls ++ lines_of more
prefix_lines prefix more ls s e = s more ∙ ap (λ (l : List SessionLine). l ++ lines_of more) e

-- the lines of a prefix, and then the first ones of the rest
pub prefix_begins : (prefix more : List ℕ) (ls ms : List SessionLine) → Splits prefix → lines_of prefix ≡ ls → Begins more ms → Begins (prefix ++ more) (ls ++ ms)
prefix_begins prefix more ls ms s e b =
    (b.0, prefix_lines prefix more ls s e ∙ ap (λ (l : List SessionLine). ls ++ l) b.1 ∙ sym (append_assoc ls ms b.0))
