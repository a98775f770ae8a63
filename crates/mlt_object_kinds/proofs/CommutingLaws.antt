-- Which steps of whole bases right commute backward: those on different cells that change no size that the other tells, and those
-- that do so on their one cell.
use Rattle.std.proofs.Common.{◌≡◌, ◌≢◌, inl, inr, ℕ, ◌≤◌, length, Contains, refl, sym, ap, subst, ◌∙◌, arith}
use Rattle.mlt_types.specs.declared.cell.Cell.{Cell}
use Rattle.mlt_object_kinds.{specs.declared.element.ElementOp.TheVariants.Add, specs.declared.element.ElementOp.TheVariants.Remove, specs.declared.operation.ObjOp.ObjOp, specs.declared.operation.ObjReply.ObjReply, specs.declared.operation.ObjReply.TheVariants.Is, specs.Cells.CellStep, specs.Operations.AreApart, specs.Operations.cell_of, specs.Operations.cells_of, specs.Sizes.put_into, specs.Sizes.taken_from, proofs.Sizes.other_set_untouched, proofs.Sizes.size_after_step}
use Rattle.mlt_object_kinds.specs.Bases.{Base, Step, TellsSize, size_at, state_at, with_state}
use Rattle.mlt_order.specs.Runs.{RightCommutesBackward}
use Rattle.mlt_object_kinds.proofs.BaseLaws.{cell_step_states, one_cell_or_two, state_beside, state_here, step_to}

-- ---- sizes that are told

-- the first changes no size that the second tells
abbrev pub LeavesTold : ObjOp × ObjReply → ObjOp × ObjReply → Type 0
LeavesTold p (ObjOp.Size t, reply) = (put_into t p ≡ 0) × (taken_from t p ≡ 0)
LeavesTold p _ = Unit {0}

size_left : (p : ObjOp × ObjReply) (b m : Base) (t : ℕ) → LeavesTold p (ObjOp.Size t, Is 0) → Step b p m → size_at m t ≡ size_at b t
size_left p b m t left h = let sizes = size_after_step b m p t h in omega arith

-- then what the second tells is so before the first, where it is so after it
told_before : (p q : ObjOp × ObjReply) (b m : Base) → LeavesTold p q → Step b p m → TellsSize m q → TellsSize b q
told_before p (ObjOp.Size t, reply) b m left h told = told ∙ ap Is (size_left p b m t left h)
told_before p (ObjOp.Account a o, reply) b m left h told = tt
told_before p (ObjOp.Element s e o, reply) b m left h told = tt
told_before p (ObjOp.Counter c o, reply) b m left h told = tt

-- and the other way round
told_after : (p q : ObjOp × ObjReply) (b m : Base) → LeavesTold p q → Step b p m → TellsSize b q → TellsSize m q
told_after p (ObjOp.Size t, reply) b m left h told = told ∙ ap Is (sym (size_left p b m t left h))
told_after p (ObjOp.Account a o, reply) b m left h told = tt
told_after p (ObjOp.Element s e o, reply) b m left h told = tt
told_after p (ObjOp.Counter c o, reply) b m left h told = tt

-- an operation changes the size of no set on whose size it is not locked
untouched : (p : ObjOp × ObjReply) (t : ℕ) → (Contains (cells_of p.0) (Cell.Size t) → ⊥) → (put_into t p ≡ 0) × (taken_from t p ≡ 0)
untouched (ObjOp.Element s e Add, r) t n = other_set_untouched s e Add r t (λ same. n (1, omega arith, ap Cell.Size same))
untouched (ObjOp.Element s e Remove, r) t n = other_set_untouched s e Remove r t (λ same. n (1, omega arith, ap Cell.Size same))
untouched _ t n = (refl, refl)

-- operations that are locked on no cell of both change no size that the other tells
pub apart_leaves_told : (p q : ObjOp × ObjReply) → AreApart p.0 q.0 → LeavesTold p q
apart_leaves_told p (ObjOp.Size t, reply) apart = untouched p t (λ there. apart (Cell.Size t) there (0, omega arith, refl))
apart_leaves_told p (ObjOp.Account a o, reply) apart = tt
apart_leaves_told p (ObjOp.Element s e o, reply) apart = tt
apart_leaves_told p (ObjOp.Counter c o, reply) apart = tt

-- nor do operations on one cell
one_cell_leaves_told : (p q : ObjOp × ObjReply) → cell_of p.0 ≡ cell_of q.0 → LeavesTold p q
one_cell_leaves_told (ObjOp.Size s, r) (ObjOp.Size t, reply) one = (refl, refl)
one_cell_leaves_told (ObjOp.Account a o, r) (ObjOp.Size t, reply) one = absurd (cc)
one_cell_leaves_told (ObjOp.Element s e o, r) (ObjOp.Size t, reply) one = absurd (cc)
one_cell_leaves_told (ObjOp.Counter c o, r) (ObjOp.Size t, reply) one = absurd (cc)
one_cell_leaves_told p (ObjOp.Account a o, reply) one = tt
one_cell_leaves_told p (ObjOp.Element s e o, reply) one = tt
one_cell_leaves_told p (ObjOp.Counter c o, reply) one = tt

-- ---- commuting

-- operations that are locked on no cell of both are on different cells
own_cell : (op : ObjOp) → Contains (cells_of op) (cell_of op)
own_cell op = (0, omega arith, refl)

-- an operation is locked on two cells at most
pub few_cells : (op : ObjOp) → length (cells_of op) ≤ 2
few_cells (ObjOp.Element s e Add) = omega arith
few_cells (ObjOp.Element s e Remove) = omega arith
few_cells _ = omega arith

pub apart_on_two_cells : (op other : ObjOp) → AreApart op other → cell_of op ≢ cell_of other
apart_on_two_cells op other apart e = apart (cell_of op) (own_cell op) (subst (Contains (cells_of other)) (sym e) (own_cell other))

-- operations on different cells right commute backward, where neither changes a size that the other tells
pub two_cells_commute : (p q : ObjOp × ObjReply) → cell_of p.0 ≢ cell_of q.0 → LeavesTold p q → LeavesTold q p → RightCommutesBackward Step p q
two_cells_commute p q apart left other_left b m s h k =
    let c = cell_of p.0 in
    let d = cell_of q.0 in
    let back : d ≢ c = λ e. apart (sym e) in
    let first : CellStep (state_at b d) q (state_at s d) = subst (λ x. CellStep x q (state_at s d)) (h.1 d back) k.0 in
    let n = with_state b d (state_at s d) in
    let to : Step b q n = step_to b q (state_at s d) first (told_before p q b m left h k.2) in
    let here : state_at n d ≡ state_at s d = state_here b d (state_at s d) (cell_step_states q _ _ first).1 in
    let there : state_at b c ≡ state_at n c = sym (state_beside b d (state_at s d) c apart) in
    let second : CellStep (state_at n c) p (state_at s c) =
    subst (λ x. CellStep x p (state_at s c)) there (subst (CellStep (state_at b c) p) (sym (k.1 c apart)) h.0)
    in (
      n,
      to,
      (
        second,
        λ other o. elim (one_cell_or_two other d) [
          | inl e ↦ subst (λ (x : Cell). state_at s x ≡ state_at n x) (sym e) (sym here)
          | inr f ↦ k.1 other f ∙ h.1 other o ∙ sym (state_beside b d (state_at s d) other f)
        ],
        told_after q p b n other_left to h.2,
      ),
    )

-- operations that are locked on no cell of both right commute backward
pub apart_steps_commute : (p q : ObjOp × ObjReply) → AreApart p.0 q.0 → RightCommutesBackward Step p q
apart_steps_commute p q apart =
    two_cells_commute p q (apart_on_two_cells p.0 q.0 apart) (apart_leaves_told p q apart) (apart_leaves_told q p (λ c there here. apart c here there))

-- operations on one cell right commute backward, where they do so on the cell
pub cell_steps_commute : (p q : ObjOp × ObjReply) → cell_of p.0 ≡ cell_of q.0 → RightCommutesBackward CellStep p q → RightCommutesBackward Step p q
cell_steps_commute p q one commute b m s h k =
    let c = cell_of p.0 in
    let d = cell_of q.0 in
    let h' : CellStep (state_at b d) p (state_at m d) = subst (λ (x : Cell). CellStep (state_at b x) p (state_at m x)) one h.0 in
    let way = commute (state_at b d) (state_at m d) (state_at s d) h' k.0 in
    let n = with_state b d way.0 in
    let to : Step b q n = step_to b q way.0 way.1 (told_before p q b m (one_cell_leaves_told p q one) h k.2) in
    let here : way.0 ≡ state_at n d = sym (state_here b d way.0 (cell_step_states q _ _ way.1).1) in
    let second : CellStep (state_at n d) p (state_at s d) = subst (λ x. CellStep x p (state_at s d)) here way.2 in
    let second' : CellStep (state_at n c) p (state_at s c) = subst (λ (x : Cell). CellStep (state_at n x) p (state_at s x)) (sym one) second in (
      n,
      to,
      (
        second',
        λ other o.
            let o' : other ≢ d = λ e. o (e ∙ sym one) in
            k.1 other o' ∙ h.1 other o ∙ sym (state_beside b d way.0 other o'),
        told_after q p b n (one_cell_leaves_told q p (sym one)) to h.2,
      ),
    )
