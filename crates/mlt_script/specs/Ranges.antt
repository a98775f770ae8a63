-- What numbers the lines of a script can have.
use Rattle.std.specs.Prelude.{◌<◌, ◌^◌}
use Rattle.mlt_object_kinds.specs.Ranges.{FitsOp, FitsReply}
use Rattle.mlt_script.specs.declared.statement.{AmountOp.AmountOp, Asking.Asking, Asking.TheVariants.Fixed, Asking.TheVariants.By, Wanted.Wanted, Wanted.TheVariants.Reply, Wanted.TheVariants.ValueOf, Source.Source, Statement.Statement, Statement.TheVariants.Ask, Statement.TheVariants.Need, Statement.TheVariants.Let, Line.Line}

abbrev pub FitsAmount : AmountOp → Type 0
FitsAmount (AmountOp.Deposit a) = a < 2 ^ 32
FitsAmount (AmountOp.Withdraw a) = a < 2 ^ 32
FitsAmount (AmountOp.Up c) = c < 2 ^ 32
FitsAmount (AmountOp.Down c) = c < 2 ^ 32

abbrev pub FitsAsking : Asking → Type 0
FitsAsking (Fixed op) = FitsOp op
FitsAsking (By op l) = FitsAmount op

abbrev pub FitsWanted : Wanted → Type 0
FitsWanted (Reply r) = FitsReply r
FitsWanted (ValueOf l) = Unit {0}

abbrev pub FitsSource : Source → Type 0
FitsSource (Source.Balance a) = a < 2 ^ 32
FitsSource (Source.Read c) = c < 2 ^ 32
FitsSource (Source.Size s) = s < 2 ^ 16

abbrev pub FitsStatement : Statement → Type 0
FitsStatement (Ask a) = FitsAsking a
FitsStatement (Need a w) = FitsAsking a × FitsWanted w
FitsStatement (Let l s) = FitsSource s

abbrev pub FitsLine : Line → Type 0
FitsLine (Line.Plain s) = FitsStatement s
FitsLine (Line.If a w) = FitsAsking a × FitsWanted w
FitsLine l = Unit {0}
