use Rattle.std.proofs.Common.{◌≡◌, ◌∷◌, ◌++◌, ◌+◌, [], take, sym, ap, subst, ◌∙◌, string_bytes, take_all}
use Rattle.std.proofs.lemmas.List.{take_more}
use Rattle.mlt_script.{specs.Again.AreScriptsAgain, specs.Printing.scripts_text, specs.Scripts.ScriptForm, proofs.Printed.text_more, proofs.Printed.again_more, proofs.Printed.spells}
use Rattle.mlt_script.proofs.printer.print.Goals as goal

pub loop-script-preserved : goal.loop-script-preserved
loop-script-preserved c =
    let l = c.loop-script in
    let scripts = c.args.scripts.now in
    let s = c.script-item.result in
    let before = take l.script-index scripts in
    let more : take (l.script-index + 1) scripts ≡ before ++ s ∷ [] =
    take_more scripts l.script-index s c.loop-script-test.true ∙ ap (λ (x : ScriptForm). before ++ x ∷ []) (sym c.script-item.is) in
    rw more record {
      text = text_more before s (string_bytes l.text) (string_bytes c.push_script.new.text) l.invariant.text c.in_ok-push_script.ensures.text;
      again = again_more before s l.invariant.again c.in_ok-push_script.ensures.again;
    }

pub returns-clause-spells : goal.returns-clause-spells
returns-clause-spells c =
    let l = c.loop-script in
    let scripts = c.args.scripts.now in
    let whole : take l.script-index scripts ≡ scripts = take_all l.script-index scripts c.loop-script-test.false in
    let text : string_bytes l.text ≡ scripts_text scripts = l.invariant.text ∙ ap scripts_text whole in
    let again : AreScriptsAgain scripts = subst AreScriptsAgain whole l.invariant.again in
    rw text (spells scripts again)
