-- Reservations in their list.
use Rattle.std.proofs.Common.{◌≡◌, ℕ, List, [], ◌∷◌, refl, arith}
use Rattle.mlt_object_locks.proofs.Names.{nat_tests, Cell, reservation_of, value_of}

-- a reservation is the cell of the first entry of its transaction
pub reservation_found : (entries : List (ℕ × Cell)) (tx : ℕ) → reservation_of entries tx ≡ value_of entries tx
reservation_found [] tx = refl
reservation_found (entry ∷ entries) tx = let rest = reservation_found entries tx in grind (arith, nat_tests)
