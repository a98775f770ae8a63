use Rattle.std.proofs.Common.{◌≡◌, ◌++◌, List, ℕ, OnErr, OnOk, ap, subst, ◌∙◌}
use Rattle.std.{proofs.lemmas.Fmt.contents_after_writes, specs.Io.KnownBytes.Appends}
use Rattle.mlt_text.specs.Texts.{AppendsFront}
use Rattle.mlt_cli.{specs.Faults.fault_text, proofs.fault.report_fault.Given.Over, proofs.fault.report_fault.Goals.After-as_bytes}
use Rattle.mlt_cli.proofs.fault.report_fault.Goals as goal

-- the bytes that are written are the line
is_line : (g : Over) (c : After-as_bytes g) → c.as_bytes.result.now ≡ fault_text c.args.refusal.now
is_line g c =
    let line = fault_text c.args.refusal.now in
    let wrote : c.write.new.self.bytes ≡ line =
    contents_after_writes _ (λ s. s.bytes) (λ s bytes t is. is) c.new-line.result line c.write.new.self c.in-Ok.ensures.writes
    ∙ ap (λ (front : List ℕ). front ++ line) c.new-line.ensures in
    c.as_bytes.ensures.value ∙ c.as_str.ensures.value ∙ wrote

pub returns-in-Ok-clause-ok : goal.returns-in-Ok-clause-ok
returns-in-Ok-clause-ok g c =
    subst (λ (t : List ℕ). OnOk c.write_text.result (Appends (g.W.Write.contents c.args.errors.now) (g.W.Write.contents c.write_text.new.writer) t))
    (is_line g (goal.at.returns-in-Ok-clause-ok g c).After-as_bytes) c.write_text.ensures.ok

pub returns-in-Ok-clause-err : goal.returns-in-Ok-clause-err
returns-in-Ok-clause-err g c =
    subst (λ (t : List ℕ). OnErr c.write_text.result (AppendsFront (g.W.Write.contents c.args.errors.now) (g.W.Write.contents c.write_text.new.writer) t))
    (is_line g (goal.at.returns-in-Ok-clause-err g c).After-as_bytes) c.write_text.ensures.err
