use Rattle.std.proofs.Common.{sym, ap, ◌∙◌}
use Rattle.mlt_tx_two_records.proofs.Names.{LocalState, local, WalkContext}
use Rattle.mlt_tx_two_records.proofs.WideOver.{goes_over, has_changed, may_turn}
use Rattle.mlt_tx_two_records.proofs.wide.go_over.Goals as goal

pub go_on_to-requires : goal.go_on_to-requires
go_on_to-requires g c κs within =
    let first = ap (λ (b : WalkContext). b.before) (sym c.requires.1.0) in (
      within,
      (
        ap (λ (b : WalkContext). b.root) c.requires.1.0,
        (
          ap (λ (b : WalkContext). b.bits) c.requires.1.0,
          (
            first,
            (
              c.requires.1.1.may.to_key.wide,
              (
                has_changed g.context _ c.args.request.now c.args.walk.now c.requires.1.1,
                may_turn g.context _ c.args.request.now c.args.walk.now c.requires.1.1 first,
              ),
            ),
          ),
        ),
      ),
    )

pub returns-clause-goes : goal.returns-clause-goes
returns-clause-goes g c =
    let walk = c.go_on_to.ensures.walk in
    goes_over g.context _ c.args.request.now c.args.walk.now c.requires.1.1 c.go_on_to.new.self c.in-Some.size walk.0 walk.1 walk.2 (sym c.size_key.ensures ∙ c.in-Some.is) walk.3 c.go_on_to.ensures.ready c.go_on_to.ensures.stood
