use Rattle.std.proofs.Common.{◌∙◌, arith}
use Rattle.mlt_page_locks.proofs.LockLaws.{room_for_few}
use Rattle.mlt_hash_tests.{specs.Desks.IsSmall, proofs.SmallNumbers.few_of_small_numbers, proofs.SmallNumbers.small_answered}
use Rattle.mlt_hash_tests.proofs.page_locks.PageDesk.ask.Goals as goal

pub ask-requires : goal.ask-requires
ask-requires g c = let desk = c.args.self.now in
    room_for_few desk.locks c.args.tx c.args.page 32 c.args.mode (few_of_small_numbers desk.locks desk.small) (omega (arith, desk.room)) (omega arith)

pub invariant_of-self : goal.invariant_of-self
invariant_of-self g c =
    let desk = c.args.self.now in
    let tx : IsSmall c.args.tx = grind (arith, c.is_small.ensures) in
    let page : IsSmall c.args.page = grind (arith, c.is_small-2.ensures) in
    let next = small_answered desk.locks c.args.tx c.args.page c.args.mode c.ask.result c.ask.new.self desk.small tx page c.ask.ensures.answer in
    record { small = next.0; room = next.1 ∙ desk.room }
