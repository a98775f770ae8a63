use Rattle.mlt_object_locks.proofs.Names.{noted_of}
use Rattle.mlt_object_locks.proofs.Notes.{notes_none, notes_one}
use Rattle.mlt_object_locks.proofs.cells.grant.Goals as goal

pub returns-then-grant_at-clause-notes : goal.returns-then-grant_at-clause-notes
returns-then-grant_at-clause-notes c =
    notes_one (noted_of c.args.noted.now c.args.tx).keys (noted_of c.note.new.self c.args.tx).keys c.args.key c.note.ensures.added

pub returns-else-grant_at-clause-notes : goal.returns-else-grant_at-clause-notes
returns-else-grant_at-clause-notes c =
    let had = c.grant_at.ensures.idle c.if-grant_at.false in
    notes_none (noted_of c.args.noted.now c.args.tx).keys c.args.key (c.requires.noted c.args.key c.args.tx had.0 had.1)
