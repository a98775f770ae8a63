use Rattle.std.proofs.Common.{[]}
use Rattle.mltx.proofs.loading.ServedBase.new.Given as goal

abbrev pub ghost-of : goal.ghost-of
ghost-of g a = []
