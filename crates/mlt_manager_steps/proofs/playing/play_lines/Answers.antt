use Rattle.std.proofs.Common.{◌∙◌, Bool, IfOk, ap, string_bytes, subst, sym}
use Rattle.mlt_event_text.specs.TellTexts.{told_text}
use Rattle.mlt_manager_steps.specs.Steps.{AreToldLines, ArePlayedLines}
use Rattle.mlt_manager_steps.proofs.playing.play_lines.Goals as goal

pub returns-then-explains-clause-plays : goal.returns-then-explains-clause-plays
returns-then-explains-clause-plays g c =
    subst (λ (explains : Bool). IfOk c.play_explained.result (λ played. ArePlayedLines g.P.Pseudo.bits_of c.args.limits c.args.pseudo explains c.args.events.now played.0 (string_bytes played.1)))
    (sym c.if-explains.true) c.play_explained.ensures.plays

pub returns-in-Ok-clause-plays : goal.returns-in-Ok-clause-plays
returns-in-Ok-clause-plays g c = record {
  tolds = c.in_ok-manager.tolds.items;
  played = c.in_ok-manager.ensures.plays;
  course = c.in_ok-manager.ensures.course.0;
  told = subst (λ (explains : Bool). AreToldLines explains c.in_ok-manager.tolds.items (string_bytes c.in-Ok.lines)) (sym c.if-explains.false)
      (c.in-Ok.ensures.text ∙ ap told_text c.as_slice.ensures.value);
}
