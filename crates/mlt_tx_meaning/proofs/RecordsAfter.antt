-- What counters need to be counted back, once records have changed.
use Rattle.std.proofs.Common.{◌≡◌, ℕ, List, [], ◌∷◌, ◌++◌, Option, None, Some, IsSome, refl, sym, subst, ap, ◌∙◌, inl, inr, nat_cmp}
use Rattle.std.specs.FinMap as map
use Rattle.mlt_tx_meaning.proofs.Names.{IsInRange, Cell, Up, Down, Read, ObjOp, Account, Element, Counter, Size, ObjReply, cell_of, RecordChanges, RecChange, changes_on, own_change_on, size_change_on, changes_back, changes_of, record_in, records_after, size_record_in, told_by, HasWhatIsUndone, record_after, record_beside, Presence, presence_of}
use Rattle.mlt_object_kinds.proofs.BaseLaws.{one_cell_or_two}
use Rattle.mlt_object_base.proofs.{Meanings.changed, Meanings.record_here, OperationChanges.after_both, OperationChanges.after_own}
use Rattle.mlt_tx_meaning.proofs.Inverses.{by_inverse, by_size_inverse}
use Rattle.mlt_tx_meaning.proofs.Replies.{IsCount, by_reply, by_size_change, count_says_nothing, reply_leaves_counters}

-- ---- records that stay

-- the change leaves a record where there is one
abbrev LeavesRecord : RecChange → Type 0
LeavesRecord RecChange.ToGhost = ⊥
LeavesRecord change = Unit {0}

abbrev LeavesRecordIf : Option RecChange → Type 0
LeavesRecordIf None = Unit {0}
LeavesRecordIf (Some change) = LeavesRecord change

leaves : (change : RecChange) (live : Option ℕ) → LeavesRecord change → IsSome live → IsSome (record_after (Some change) live)
leaves (RecChange.Add v) live is some = refl
leaves (RecChange.Set v) live is some = refl
leaves RecChange.ToGhost live is some = absurd is
leaves RecChange.Revive live is some = refl
leaves (RecChange.Plus n) (Some v) is some = refl
leaves (RecChange.Plus n) None is some = absurd (cc some)
leaves (RecChange.Minus n) (Some v) is some = refl
leaves (RecChange.Minus n) None is some = absurd (cc some)

-- changes leave the record of this cell, if there is one
abbrev pub KeepsRecord : Cell → List (Cell × RecChange) → Type 0
KeepsRecord c [] = Unit {0}
KeepsRecord c (change ∷ changes) = IsInRange change.0 × (c ≡ change.0 → LeavesRecord change.1) × KeepsRecord c changes

keeps_both : (c : Cell) (first second : List (Cell × RecChange)) → KeepsRecord c first → KeepsRecord c second → KeepsRecord c (first ++ second)
keeps_both c [] second keeps also = also
keeps_both c (change ∷ first) second keeps also = (keeps.0, keeps.1, keeps_both c first second keeps.2 also)

still_there : (records : map.FinMap nat_cmp ℕ) (c : Cell) (changes : List (Cell × RecChange)) → IsInRange c → KeepsRecord c changes → IsSome (record_in records c) → IsSome (record_in (records_after records changes) c)
still_there records c [] range keeps some = some
still_there records c (change ∷ changes) range keeps some =
    let live = record_after (Some change.1) (record_in records change.0) in
    let first : IsSome (record_in (changed records change.0 live) c) =
    elim (one_cell_or_two c change.0) [
      | inl same ↦
          let there : IsSome live = leaves change.1 (record_in records change.0) (keeps.1 same) (subst (λ (d : Cell). IsSome (record_in records d)) same some) in
          subst (λ (d : Cell). IsSome (record_in (changed records change.0 live) d)) (sym same) (subst IsSome (sym (record_here records change.0 live)) there)
      | inr n ↦ subst IsSome (sym (record_beside records change.0 c live keeps.0 range n)) some
    ]
    in
    still_there (changed records change.0 live) c changes range keeps.2 first

-- the changes of an operation, and what undoes it, leave the records of counts
own_keeps : (c : Cell) (op : ObjOp) (own : Option RecChange) → IsInRange (cell_of op) → (c ≡ cell_of op → LeavesRecordIf own) → KeepsRecord c (own_change_on op own)
own_keeps c op None range leaves = tt
own_keeps c op (Some change) range leaves = (range, leaves, tt)

size_keeps : (c : Cell) (op : ObjOp) (size : Option RecChange) → IsInRange (cell_of op) → LeavesRecordIf size → KeepsRecord c (size_change_on op size)
size_keeps c (Element s e op) (Some change) range leaves = (range.0, λ same. leaves, tt)
size_keeps c (Element s e op) None range leaves = tt
size_keeps c (Account a op) size range leaves = tt
size_keeps c (Counter d op) size range leaves = tt
size_keeps c (Size s) size range leaves = tt

all_keep : (c : Cell) (item : ObjOp × ObjReply) (changes : RecordChanges) → IsCount c → IsInRange (cell_of item.0) → (presence_of item ≡ None → LeavesRecordIf changes.own) → LeavesRecordIf changes.size → KeepsRecord c (changes_on item.0 changes)
all_keep c item changes on range own size =
    keeps_both c (own_change_on item.0 changes.own) (size_change_on item.0 changes.size)
    (own_keeps c item.0 changes.own range (λ same. own (count_says_nothing item c (sym same) on))) (size_keeps c item.0 changes.size range size)

pub done_keeps : (records : map.FinMap nat_cmp ℕ) (c : Cell) (op : ObjOp) → IsCount c → IsInRange (cell_of op) → KeepsRecord c (changes_on op (changes_of records op))
done_keeps records c op on range =
    let Leaves : Option Presence → Option RecChange → Type 0 = λ p change. p ≡ None → LeavesRecordIf change in
    all_keep c (op, told_by records op) (changes_of records op) on range
    (by_reply op (record_in records (cell_of op)) Leaves (record { added = λ v e. tt; removed = λ e. absurd (cc e); updated = λ v e. tt; counted = λ on v e. tt; stays = λ e. tt }))
    (by_size_change (op, told_by records op) (size_record_in records op) LeavesRecordIf tt (record { raised = tt; lowered = tt; stays = tt }))

pub undone_keeps : (c : Cell) (item : ObjOp × ObjReply) → IsCount c → IsInRange (cell_of item.0) → KeepsRecord c (changes_on item.0 (changes_back item))
undone_keeps c item on range =
    let Leaves : Option Presence → Option RecChange → Type 0 = λ p change. p ≡ None → LeavesRecordIf change in
    all_keep c item (changes_back item) on range
    (by_inverse item Leaves (record { added = λ e. absurd (cc e); removed = λ e. tt; lowered = λ n e. tt; raised = λ n e. tt; stays = λ e. tt }))
    (by_size_inverse item LeavesRecordIf (record { raised = tt; lowered = tt; stays = tt }))

module _ (records : map.FinMap nat_cmp ℕ) (changes : List (Cell × RecChange)) (keeps : (c : Cell) → IsCount c → KeepsRecord c changes) where
  -- **What an item that stands needs to be taken back is there still.**
  pub counted_still : (item : ObjOp × ObjReply) → IsInRange (cell_of item.0) → HasWhatIsUndone item (record_in records (cell_of item.0)) → HasWhatIsUndone item (record_in (records_after records changes) (cell_of item.0))
  counted_still (Account a op, reply) range has = tt
  counted_still (Element s e op, reply) range has = tt
  counted_still (Counter c (Up n), reply) range has = still_there records (Cell.Counter c) changes range (keeps (Cell.Counter c) tt) has
  counted_still (Counter c (Down n), reply) range has = still_there records (Cell.Counter c) changes range (keeps (Cell.Counter c) tt) has
  counted_still (Counter c Read, reply) range has = tt
  counted_still (Size s, reply) range has = tt

-- ---- what a new item needs

pub counted_now : (records : map.FinMap nat_cmp ℕ) (op : ObjOp) → HasWhatIsUndone (op, told_by records op) (record_in (records_after records (changes_on op (changes_of records op))) (cell_of op))
counted_now records (Account a op) = tt
counted_now records (Element s e op) = tt
counted_now records (Counter c op) =
    let o = Counter c op in
    let own = (changes_of records o).own in
    let live = record_in records (Cell.Counter c) in
    let is : record_in (records_after records (changes_on o (changes_of records o))) (Cell.Counter c) ≡ record_after own live =
    ap (λ (r : map.FinMap nat_cmp ℕ). record_in r (Cell.Counter c)) (after_both records (own_change_on o own) [] ∙ after_own records o own) ∙ record_here records (Cell.Counter c) (record_after own live)
    in
    subst (HasWhatIsUndone (o, told_by records o)) (sym is) (reply_leaves_counters o live)
counted_now records (Size s) = tt
