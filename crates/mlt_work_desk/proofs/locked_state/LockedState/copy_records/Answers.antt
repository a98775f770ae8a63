use Rattle.std.proofs.Common.{Some, Option, ℕ, subst}
use Rattle.mlt_work_desk.specs.Listings.{AddsRecords}
use Rattle.mlt_work_desk.proofs.Listings.{adds_both, adds_none}
use Rattle.mlt_work_desk.proofs.locked_state.LockedState.copy_records.Goals as goal

pub loop-init : goal.loop-init
loop-init g c = adds_none g.P.Pseudo.bits_of c.args.self.now.manager (g.met.P.Pseudo.has_64_bits c.args.self.now.manager.root.pseudo) (Some c.args.from) c.args.records.now.items

pub loop-preserved : goal.loop-preserved
loop-preserved g c =
    let m = c.args.self.now.manager in
    let bits_of = g.P.Pseudo.bits_of in
    let before = c.args.records.now.items in
    let kept = c.loop.records.items in
    let so_far = subst (λ (next : Option ℕ). AddsRecords bits_of m (Some c.args.from) before kept next) c.in-Some.is c.loop.invariant in
    adds_both bits_of m (g.met.P.Pseudo.has_64_bits m.root.pseudo) (Some c.args.from) (Some c.in-Some.place) c.in_ok-next.next before kept c.copy_bucket.new.records.items so_far c.in_ok-next.ensures

pub returns-in_default : goal.returns-in_default
returns-in_default g c =
    subst (λ (next : Option ℕ). AddsRecords g.P.Pseudo.bits_of c.args.self.now.manager (Some c.args.from) c.args.records.now.items c.loop.records.items next) c.in_default.is c.loop.invariant
