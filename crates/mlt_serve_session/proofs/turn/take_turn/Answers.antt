use Rattle.std.proofs.Common.{Some, sym, ap, ◌∙◌, refl}
use Rattle.mlt_serve_session.specs.Turns.{after_line}
use Rattle.mlt_serve_session.proofs.turn.take_turn.Goals as goal

pub returns-in_ok-answer-in-Some-clause-ok : goal.returns-in_ok-answer-in-Some-clause-ok
returns-in_ok-answer-in-Some-clause-ok g c =
    let told = c.in_ok-answer-in-Some.ensures.told in
    record {
      answer = Some c.in_ok-answer-in-Some.answer;
      step = record {
        going = c.requires.going;
        before = refl;
        asked = rw (sym c.call_for.ensures.value ∙ c.in-Some.is) (told.moved, c.note_answered.ensures.outcomes c.args.client ∙ told.noted_so);
        after = c.note_answered.ensures.progress ∙ ap (λ p. after_line p c.args.line) told.after;
      };
      says = c.said_with.ensures;
    }
