use Rattle.std.proofs.Common.{◌≡◌, true, false, refl, sym, ◌∙◌, arith}
use Rattle.mlt_trace_check.proofs.{Settling.settled_by, first_line.may_go_on.Goals.then-ended-via-then-ended, first_line.may_go_on.Goals.then-ended-via-else-ended+then-text-gt-MOST_LINE_BYTES}
use Rattle.mlt_trace_check.proofs.first_line.may_go_on.Goals as goal

pub returns-then-ended-clause-settled : goal.returns-then-ended-clause-settled
returns-then-ended-clause-settled c = λ no going raw after e. elim c.then-ended.branch [
  | then-ended-via-then-ended w ↦ absurd (let f : true ≡ false = sym w.if-ended.true ∙ going in cc f)
  | then-ended-via-else-ended+then-text-gt-MOST_LINE_BYTES w ↦
      settled_by _ c.args.text.now raw after refl c.requires (λ none. let long = w.if-text-gt-MOST_LINE_BYTES.true in omega arith) e
]

pub returns-in-Some-clause-settled : goal.returns-in-Some-clause-settled
returns-in-Some-clause-settled c = λ no going raw after e.
    settled_by c.find_lf.result c.args.text.now raw after (sym c.find_lf.ensures) c.requires (λ none. let f = sym c.in-Some.is ∙ none in absurd (cc f)) e
