use Rattle.mlt_hash_file.proofs.Names.{nothing_before, nothing_written, view_of, context_alone}
use Rattle.mlt_hash_file.proofs.{AloneInsertions.pass_is_later, AloneInsertions.splits_are_later, AloneWalks.ready_on, AloneWalks.same_context}
use Rattle.mlt_hash_file.proofs.runner.Runner.add_with_splits.Goals as goal

pub split-requires : goal.split-requires
split-requires g c κs within =
    let may = (c.in-NeedSplit.ensures.tells.later c.requires.later).may in
    (within, (ready_on nothing_before g.P.Pseudo.bits_of c.args.root.now c.args.self.now c.add_again.new.self c.add_again.new.walk c.in-NeedSplit.ensures.keeps (nothing_written (view_of c.add_again.new.self)) c.requires.file may.stands, may.adds))

pub returns-in-NeedSplit-clause-tells : goal.returns-in-NeedSplit-clause-tells
returns-in-NeedSplit-clause-tells g c =
    splits_are_later (context_alone nothing_before g.P.Pseudo.bits_of c.args.root.now c.args.self.now) c.add_again.new.self c.split.new.self _ c.add_again.new.walk c.split.new.walk c.args.value c.split.result c.split.ensures.keeps c.in-NeedSplit.ensures.tells c.requires.later
    (rw (same_context nothing_before g.P.Pseudo.bits_of c.args.root.now c.args.self.now c.add_again.new.self c.in-NeedSplit.ensures.keeps) at c.split.ensures.tells)

pub returns-in_default-clause-tells : goal.returns-in_default-clause-tells
returns-in_default-clause-tells g c = pass_is_later (context_alone nothing_before g.P.Pseudo.bits_of c.args.root.now c.args.self.now) c.add_again.new.self _ c.add_again.new.walk c.args.value c.add_again.result c.in_default.not-NeedSplit c.add_again.ensures.tells
