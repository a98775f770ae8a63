use Rattle.std.proofs.Common.{◌∙◌, ◌++◌, ◌∷◌, [], ap, sym, append_assoc}
use Rattle.mlt_work_desk.proofs.locked_state.LockedState.ends_with.Goals as goal

pub returns-clause-is : goal.returns-clause-is
returns-clause-is g c = λ is.
    let handed = c.args.self.now.manager.shared.history.handed in
    let last = c.in-Some.last.now in
    let rest = c.in-Some.field-0-1.now in
    record {
      front = handed ++ rest;
      last = last;
      whole = c.kept_history.ensures ∙ ap (λ xs. handed ++ xs) c.in-Some.ensures.cases.0 ∙ sym (append_assoc handed rest (last ∷ []));
      tells = c.is_op.ensures.0 is;
    }
