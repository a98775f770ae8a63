-- The empty base holds nothing. Other crates cite this module.
use Rattle.std.proofs.Common.{◌≡◌, ℕ, Option, None, is_some, refl, ap, inr, nat_cmp}
use Rattle.std.specs.FinMap as map
use Rattle.mlt_types.specs.declared.cell.Cell.{Cell}
use Rattle.mlt_object_kinds.specs.Bases.{Base, counter_value, element_cmp, empty_base, state_at}
use Rattle.mlt_object_kinds.specs.Cells.CellState.{AccountState, CounterState, ElementState}
use Rattle.mlt_object_base.specs.Records.{state_of_record}
use Rattle.mlt_manager_invariant.specs.Copies.{IsPartOf}

holds_nothing : (c : Cell) → state_at empty_base c ≡ state_of_record c None
holds_nothing (Cell.Account a) = ap AccountState (map.get-empty {X = ℕ} nat_cmp a)
holds_nothing (Cell.Element s e) = ap (λ (o : Option (Unit {0})). ElementState (is_some o)) (map.get-empty {X = Unit {0}} element_cmp (s, e))
holds_nothing (Cell.Counter c) = ap (λ (o : Option ℕ). CounterState (counter_value o)) (map.get-empty {X = ℕ} nat_cmp c)
holds_nothing (Cell.Size s) = refl

-- **It is a part of each base.**
pub empty_part : (whole : Base) → IsPartOf empty_base whole
empty_part whole c = inr (holds_nothing c)
