-- What is held once all is rolled back
use Rattle.std.proofs.Common.{◌≡◌, subst, ap, ◌∙◌, arith}
use Rattle.std.specs.FinMap as map
use Rattle.std.proofs.lemmas.Bool.Decides.{nat_tests}
use Rattle.mlt_page_locks.{specs.LockTables.LockTable, specs.LockTables.pages_of, specs.Requests.released, proofs.LockLaws.pages_of-released}
use Rattle.mlt_page_subtx.specs.Images.{Running, put_back, started}
use Rattle.mlt_tx_two_records.proofs.Names.{LocalState, IsRolledBack, view_of}
use Rattle.mlt_hash.{specs.Walks.IsAtStart, proofs.Laws.at_start}

-- a state is rolled back, to what the parts say
pub rolls_back : (m old new : LocalState) → old ≡ m → new.store ≡ record old.store { pages = put_back old.running.images old.store.pages }
    → new.locks ≡ released old.locks old.running.tx → new.running ≡ started old.running.tx → IsRolledBack m new
rolls_back m old new stays store locks running =
    subst (λ (n : LocalState). IsRolledBack n new) stays (record { locks = locks; running = running; store = store })

nothing_held : (old new : LocalState) → IsRolledBack old new → pages_of new.locks new.running.tx ≡ map.empty
nothing_held old new back =
    ap (λ (l : LockTable). pages_of l new.running.tx) back.locks ∙ ap (λ (r : Running). pages_of (released old.locks old.running.tx) r.tx) back.running
    ∙ grind (arith, nat_tests, pages_of-released old.locks old.running.tx old.running.tx)

-- **Nothing is held, and nothing is written.**
pub starts_again : (old new : LocalState) → IsRolledBack old new → IsAtStart (view_of new)
starts_again old new back = at_start new (nothing_held old new back)
