-- Size records are never removed, what undoes an operation finds the one that it changes, and each change of one can be
-- made.
use Rattle.std.proofs.Common.{◌≡◌, ◌≢◌, ◌⊎◌, inl, inr, ℕ, ◌+◌, ◌^◌, ◌<◌, ◌≤◌, [], Option, None, Some, IsSome, refl, sym, ap, subst, ◌∙◌, arith, eq-eqb, nat_cmp}
use Rattle.mlt_object_base.proofs.Names.{cases_eq, Account, Element, Counter, Size, IsInRange, ElementOp, ObjOp, ObjReply, size_after_step, Base, size_at, CellStep, cell_of, put_into, taken_from, RecordChanges, RecChange, changes_on, inverse_of, own_change_on, size_change_of, size_inverse_of, Means, changes_back, changes_of, record_in, records_after, size_record_in, told_by, HasSizeToUndo, IsRecord, counter_of_record, record_after, state_of_record}
use Rattle.std.specs.FinMap as map
use Rattle.mlt_object_base.{specs.declared.request.Request.Request, specs.declared.request.Request.TheVariants.Do, specs.declared.request.Request.TheVariants.TakeBack, specs.Records.CanChange, specs.Requests.CanResize, specs.Requests.size_decision, proofs.Meanings.cells_meant, proofs.Meanings.changed, proofs.Meanings.record_beside, proofs.Meanings.record_here}
use Rattle.mlt_object_base.proofs.OperationChanges.{after_both, after_own, bounded, element_changes, means_step, means_step_back, now_of, size_stays, undone_of}

-- ---- size records stay

change_keeps : (x : ObjOp × ObjReply) (found live : Option ℕ) → IsSome live → IsSome (record_after (size_change_of x found) live)
change_keeps (ObjOp.Element s e ElementOp.Add, ObjReply.Added) None live some = refl
change_keeps (ObjOp.Element s e ElementOp.Add, ObjReply.Added) (Some v) None some = absurd (cc some)
change_keeps (ObjOp.Element s e ElementOp.Add, ObjReply.Added) (Some v) (Some w) some = refl
change_keeps (ObjOp.Element s e ElementOp.Remove, ObjReply.Removed) found None some = absurd (cc some)
change_keeps (ObjOp.Element s e ElementOp.Remove, ObjReply.Removed) found (Some w) some = refl
change_keeps x found live some = some

inverse_keeps : (x : ObjOp × ObjReply) (live : Option ℕ) → IsSome live → IsSome (record_after (size_inverse_of x) live)
inverse_keeps (ObjOp.Element s e ElementOp.Add, ObjReply.Added) None some = absurd (cc some)
inverse_keeps (ObjOp.Element s e ElementOp.Add, ObjReply.Added) (Some v) some = refl
inverse_keeps (ObjOp.Element s e ElementOp.Remove, ObjReply.Removed) None some = absurd (cc some)
inverse_keeps (ObjOp.Element s e ElementOp.Remove, ObjReply.Removed) (Some v) some = refl
inverse_keeps x live some = some

-- the change of the own record, of a cell that is no size
own_beside : (records : map.FinMap nat_cmp ℕ) (o : ObjOp) (own : Option RecChange) (t : ℕ) → IsInRange (cell_of o) → t < 2 ^ 16 → Size t ≢ cell_of o
    → record_in (records_after records (own_change_on o own)) (Size t) ≡ record_in records (Size t)
own_beside records o own t range is apart =
    let now = record_after own (record_in records (cell_of o)) in
    ap (λ (r : map.FinMap nat_cmp ℕ). record_in r (Size t)) (after_own records o own) ∙ record_beside records (cell_of o) (Size t) now range is apart

-- a size record is what it was, or what the change of a size leaves
abbrev IsKept : map.FinMap nat_cmp ℕ → ObjOp → RecordChanges → ℕ → Type 0
IsKept records o changes t =
    let after = record_in (records_after records (changes_on o changes)) (Size t) in
    (after ≡ record_in records (Size t)) ⊎ (after ≡ record_after changes.size (record_in records (Size t)))

element_keeps : (records : map.FinMap nat_cmp ℕ) (s e : ℕ) (o : ElementOp) (changes : RecordChanges) (t : ℕ) → IsInRange (Element s e) → t < 2 ^ 16 → IsKept records (ObjOp.Element s e o) changes t
element_keeps records s e o changes t range is =
    let own = record_after changes.own (record_in records (Element s e)) in
    let between = changed records (Element s e) own in
    let size = record_after changes.size (record_in records (Size s)) in
    let after : record_in (records_after records (changes_on (ObjOp.Element s e o) changes)) (Size t) ≡ record_in (changed between (Size s) size) (Size t) =
    ap (λ (r : map.FinMap nat_cmp ℕ). record_in r (Size t)) (element_changes records s e o changes range)
    in
    elim (cases_eq t s) [
      | inl same ↦ inr (after ∙ subst (λ t. record_in (changed between (Size s) size) (Size t) ≡ record_after changes.size (record_in records (Size t))) (sym same) (record_here between (Size s) size))
      | inr n ↦ inl (
          after ∙ record_beside between (Size s) (Size t) size range.0 is (λ (e : Size t ≡ Size s). n (cc))
          ∙ record_beside records (Element s e) (Size t) own range is (λ (x : Size t ≡ Element s e). cc)
          )
    ]

done_keeps : (records : map.FinMap nat_cmp ℕ) (o : ObjOp) (t : ℕ) → IsInRange (cell_of o) → t < 2 ^ 16 → IsKept records o (changes_of records o) t
done_keeps records (ObjOp.Account a o) t range is =
    let x = ObjOp.Account a o in
    let own = (changes_of records x).own in
    inl (ap (λ (r : map.FinMap nat_cmp ℕ). record_in r (Size t)) (after_both records (own_change_on x own) []) ∙ own_beside records x own t range is (λ (e : Size t ≡ Account a). cc))
done_keeps records (ObjOp.Counter c o) t range is =
    let x = ObjOp.Counter c o in
    let own = (changes_of records x).own in
    inl (ap (λ (r : map.FinMap nat_cmp ℕ). record_in r (Size t)) (after_both records (own_change_on x own) []) ∙ own_beside records x own t range is (λ (e : Size t ≡ Counter c). cc))
done_keeps records (ObjOp.Element s e o) t range is = element_keeps records s e o (changes_of records (ObjOp.Element s e o)) t range is
done_keeps records (ObjOp.Size s) t range is =
    let x = ObjOp.Size s in
    let own = (changes_of records x).own in
    let live = record_in records (Size s) in
    let after : record_in (records_after records (changes_on x (changes_of records x))) (Size t) ≡ record_in (changed records (Size s) live) (Size t) =
    ap (λ (r : map.FinMap nat_cmp ℕ). record_in r (Size t)) (after_both records (own_change_on x own) [] ∙ after_own records x own ∙ ap (changed records (Size s)) (size_stays live))
    in
    inl (elim (cases_eq t s) [
      | inl same ↦ after ∙ subst (λ t. record_in (changed records (Size s) live) (Size t) ≡ record_in records (Size t)) (sym same) (record_here records (Size s) live)
      | inr n ↦ after ∙ record_beside records (Size s) (Size t) live range is (λ (e : Size t ≡ Size s). n (cc))
    ])

undone_keeps : (records : map.FinMap nat_cmp ℕ) (x : ObjOp × ObjReply) (t : ℕ) → IsInRange (cell_of x.0) → t < 2 ^ 16 → IsKept records x.0 (changes_back x) t
undone_keeps records (ObjOp.Account a o, r) t range is =
    let x : ObjOp × ObjReply = (ObjOp.Account a o, r) in
    inl (ap (λ (r : map.FinMap nat_cmp ℕ). record_in r (Size t)) (after_both records (own_change_on x.0 (inverse_of x)) []) ∙ own_beside records x.0 (inverse_of x) t range is (λ (e : Size t ≡ Account a). cc))
undone_keeps records (ObjOp.Counter c o, r) t range is =
    let x : ObjOp × ObjReply = (ObjOp.Counter c o, r) in
    inl (ap (λ (r : map.FinMap nat_cmp ℕ). record_in r (Size t)) (after_both records (own_change_on x.0 (inverse_of x)) []) ∙ own_beside records x.0 (inverse_of x) t range is (λ (e : Size t ≡ Counter c). cc))
undone_keeps records (ObjOp.Element s e o, r) t range is = element_keeps records s e o (changes_back (ObjOp.Element s e o, r)) t range is
undone_keeps records (ObjOp.Size s, r) t range is = inl refl

-- a size record that is there is there after an operation,
pub size_record_stays : (records : map.FinMap nat_cmp ℕ) (o : ObjOp) (t : ℕ) → IsInRange (cell_of o) → t < 2 ^ 16 → IsSome (record_in records (Size t))
    → IsSome (record_in (records_after records (changes_on o (changes_of records o))) (Size t))
size_record_stays records o t range is there =
    elim (done_keeps records o t range is) [
      | inl same ↦ subst IsSome (sym same) there
      | inr now ↦ subst IsSome (sym now) (change_keeps (o, told_by records o) (size_record_in records o) (record_in records (Size t)) there)
    ]

-- and after the undoing of one
pub size_record_stays_back : (records : map.FinMap nat_cmp ℕ) (x : ObjOp × ObjReply) (t : ℕ) → IsInRange (cell_of x.0) → t < 2 ^ 16 → IsSome (record_in records (Size t))
    → IsSome (record_in (records_after records (changes_on x.0 (changes_back x))) (Size t))
size_record_stays_back records x t range is there =
    elim (undone_keeps records x t range is) [
      | inl same ↦ subst IsSome (sym same) there
      | inr now ↦ subst IsSome (sym now) (inverse_keeps x (record_in records (Size t)) there)
    ]

-- ---- what undoes an operation finds the size record

-- what holds an item's size record to be undone holds it where its set's record stays
has_size : (x : ObjOp × ObjReply) (old new : map.FinMap nat_cmp ℕ) → IsInRange (cell_of x.0) → ((t : ℕ) → t < 2 ^ 16 → IsSome (record_in old (Size t)) → IsSome (record_in new (Size t)))
    → HasSizeToUndo x (size_record_in old x.0) → HasSizeToUndo x (size_record_in new x.0)
has_size (ObjOp.Element s e ElementOp.Add, ObjReply.Added) old new range stays has = stays s range.0 has
has_size (ObjOp.Element s e ElementOp.Remove, ObjReply.Removed) old new range stays has = stays s range.0 has
has_size (ObjOp.Element s e o, r) old new range stays has = tt
has_size (ObjOp.Account a o, r) old new range stays has = tt
has_size (ObjOp.Counter c o, r) old new range stays has = tt
has_size (ObjOp.Size s, r) old new range stays has = tt

-- what was there to undo an item is there after an operation, and after the undoing of one
pub has_size_still : (records : map.FinMap nat_cmp ℕ) (o : ObjOp) (x : ObjOp × ObjReply) → IsInRange (cell_of o) → IsInRange (cell_of x.0) → HasSizeToUndo x (size_record_in records x.0)
    → HasSizeToUndo x (size_record_in (records_after records (changes_on o (changes_of records o))) x.0)
has_size_still records o x range in_range = has_size x records (records_after records (changes_on o (changes_of records o))) in_range (λ t is. size_record_stays records o t range is)

pub has_size_still_back : (records : map.FinMap nat_cmp ℕ) (undone x : ObjOp × ObjReply) → IsInRange (cell_of undone.0) → IsInRange (cell_of x.0) → HasSizeToUndo x (size_record_in records x.0)
    → HasSizeToUndo x (size_record_in (records_after records (changes_on undone.0 (changes_back undone))) x.0)
has_size_still_back records undone x range in_range = has_size x records (records_after records (changes_on undone.0 (changes_back undone))) in_range (λ t is. size_record_stays_back records undone t range is)

-- ---- an operation leaves the size record that undoes it, and its change of one can be made

-- what a step says of its set's size: the size after it, the record before it
abbrev Counts : ℕ → ObjOp × ObjReply → Option ℕ → ℕ → Type 0
Counts s x found now = now + taken_from s x ≡ counter_of_record found + put_into s x

has_now : (s e : ℕ) (o : ElementOp) (r : ObjReply) (found : Option ℕ) (now : ℕ) → Counts s (ObjOp.Element s e o, r) found now
    → HasSizeToUndo (ObjOp.Element s e o, r) (record_after (size_change_of (ObjOp.Element s e o, r) found) found)
has_now s e ElementOp.Add ObjReply.Added None now is = refl
has_now s e ElementOp.Add ObjReply.Added (Some v) now is = refl
has_now s e ElementOp.Remove ObjReply.Removed None now is =
    let less : now + 1 ≡ 0 + 0 = rw (eq-eqb s s refl) at is in
    absurd (omega arith)
has_now s e ElementOp.Remove ObjReply.Removed (Some v) now is = refl
has_now s e o r found now is = tt

can_do : (s e : ℕ) (o : ElementOp) (r : ObjReply) (found : Option ℕ) (now : ℕ) → now ≤ 2 ^ 32 → Counts s (ObjOp.Element s e o, r) found now
    → CanResize (Do (ObjOp.Element s e o)) r found
can_do s e ElementOp.Add ObjReply.Added found now small is =
    let more : now + 0 ≡ counter_of_record found + 1 = rw (eq-eqb s s refl) at is in
    omega (arith, more)
can_do s e ElementOp.Remove ObjReply.Removed found now small is =
    let less : now + 1 ≡ counter_of_record found + 0 = rw (eq-eqb s s refl) at is in
    omega (arith, less)
can_do s e o r found now small is = tt

can_go_back : (s e : ℕ) (o : ElementOp) (r reply : ObjReply) (found : Option ℕ) (before : ℕ) → before ≤ 2 ^ 32 → HasSizeToUndo (ObjOp.Element s e o, r) found
    → counter_of_record found + taken_from s (ObjOp.Element s e o, r) ≡ before + put_into s (ObjOp.Element s e o, r)
    → CanResize (TakeBack (ObjOp.Element s e o, r)) reply found
can_go_back s e ElementOp.Add ObjReply.Added reply found before small has is =
    let less : counter_of_record found + 0 ≡ before + 1 = rw (eq-eqb s s refl) at is in
    omega (arith, less)
can_go_back s e ElementOp.Remove ObjReply.Removed reply found before small has is =
    let more : counter_of_record found + 1 ≡ before + 0 = rw (eq-eqb s s refl) at is in
    (has, omega (arith, more))
can_go_back s e o r reply found before small has is = tt

-- the change can be made where the size can be changed
pub size_change_fits : (request : Request) (reply : ObjReply) (found : Option ℕ) → CanResize request reply found → CanChange (size_decision request reply found) found
size_change_fits (Do (ObjOp.Element s e ElementOp.Add)) ObjReply.Added None can = refl
size_change_fits (Do (ObjOp.Element s e ElementOp.Add)) ObjReply.Added (Some v) can = refl
size_change_fits (Do (ObjOp.Element s e ElementOp.Remove)) ObjReply.Removed None can = absurd (omega arith)
size_change_fits (Do (ObjOp.Element s e ElementOp.Remove)) ObjReply.Removed (Some v) can = refl
size_change_fits (TakeBack (ObjOp.Element s e ElementOp.Add, ObjReply.Added)) reply None can = absurd (omega arith)
size_change_fits (TakeBack (ObjOp.Element s e ElementOp.Add, ObjReply.Added)) reply (Some v) can = refl
size_change_fits (TakeBack (ObjOp.Element s e ElementOp.Remove, ObjReply.Removed)) reply found can = can.0
size_change_fits request reply found can = tt

-- the step that an operation on an element makes, in numbers
counts_after : (records : map.FinMap nat_cmp ℕ) (b : Base) (s e : ℕ) (o : ElementOp) → Means records b → IsInRange (Element s e) → IsRecord (Element s e) (now_of records (ObjOp.Element s e o))
    → CellStep (state_of_record (Element s e) (record_in records (Element s e))) (ObjOp.Element s e o, told_by records (ObjOp.Element s e o)) (state_of_record (Element s e) (now_of records (ObjOp.Element s e o)))
    → (now : ℕ) × (now ≤ 2 ^ 32) × Counts s (ObjOp.Element s e o, told_by records (ObjOp.Element s e o)) (record_in records (Size s)) now
counts_after records b s e o h range can cell =
    let x = ObjOp.Element s e o in
    let done : ObjOp × ObjReply = (x, told_by records x) in
    let step = means_step records b x h range can cell in
    let small = bounded (records_after records (changes_on x (changes_of records x))) step.0 s (cells_meant _ step.0 step.2) in
    (size_at step.0 s, small, size_after_step b step.0 done s step.1 ∙ ap (λ n. n + put_into s done) (sym (h.sized s range.0)))

counts_before : (records : map.FinMap nat_cmp ℕ) (b : Base) (s e : ℕ) (o : ElementOp) (r : ObjReply) → Means records b → IsInRange (Element s e) → IsRecord (Element s e) (undone_of records (ObjOp.Element s e o, r))
    → CellStep (state_of_record (Element s e) (undone_of records (ObjOp.Element s e o, r))) (ObjOp.Element s e o, r) (state_of_record (Element s e) (record_in records (Element s e)))
    → HasSizeToUndo (ObjOp.Element s e o, r) (record_in records (Size s))
    → (before : ℕ) × (before ≤ 2 ^ 32) × (counter_of_record (record_in records (Size s)) + taken_from s (ObjOp.Element s e o, r) ≡ before + put_into s (ObjOp.Element s e o, r))
counts_before records b s e o r h range can cell has =
    let x : ObjOp × ObjReply = (ObjOp.Element s e o, r) in
    let step = means_step_back records b x h range can cell has tt in
    let small = bounded (records_after records (changes_on x.0 (changes_back x))) step.0 s (cells_meant _ step.0 step.2) in
    (size_at step.0 s, small, ap (λ n. n + taken_from s x) (h.sized s range.0) ∙ size_after_step step.0 b x s step.1)

-- **An operation leaves the size record that undoes it.**
pub has_size_now : (records : map.FinMap nat_cmp ℕ) (b : Base) (o : ObjOp) → Means records b → IsInRange (cell_of o) → IsRecord (cell_of o) (now_of records o)
    → CellStep (state_of_record (cell_of o) (record_in records (cell_of o))) (o, told_by records o) (state_of_record (cell_of o) (now_of records o))
    → HasSizeToUndo (o, told_by records o) (size_record_in (records_after records (changes_on o (changes_of records o))) o)
has_size_now records b (ObjOp.Element s e o) h range can cell =
    let x = ObjOp.Element s e o in
    let r = told_by records x in
    let changes = changes_of records x in
    let found = record_in records (Size s) in
    let between = changed records (Element s e) (now_of records x) in
    let size = record_after changes.size found in
    let now : record_in (records_after records (changes_on x changes)) (Size s) ≡ size =
    ap (λ (m : map.FinMap nat_cmp ℕ). record_in m (Size s)) (element_changes records s e o changes range) ∙ record_here between (Size s) size
    in
    let counts = counts_after records b s e o h range can cell in
    subst (HasSizeToUndo (x, r)) (sym now) (has_now s e o r found counts.0 counts.2)
has_size_now records b (ObjOp.Account a o) h range can cell = tt
has_size_now records b (ObjOp.Counter c o) h range can cell = tt
has_size_now records b (ObjOp.Size s) h range can cell = tt

-- **What it changes of a size can be changed.**
pub can_resize : (records : map.FinMap nat_cmp ℕ) (b : Base) (o : ObjOp) → Means records b → IsInRange (cell_of o) → IsRecord (cell_of o) (now_of records o)
    → CellStep (state_of_record (cell_of o) (record_in records (cell_of o))) (o, told_by records o) (state_of_record (cell_of o) (now_of records o))
    → CanResize (Do o) (told_by records o) (size_record_in records o)
can_resize records b (ObjOp.Element s e o) h range can cell =
    let counts = counts_after records b s e o h range can cell in
    can_do s e o (told_by records (ObjOp.Element s e o)) (record_in records (Size s)) counts.0 counts.1 counts.2
can_resize records b (ObjOp.Account a o) h range can cell = tt
can_resize records b (ObjOp.Counter c o) h range can cell = tt
can_resize records b (ObjOp.Size s) h range can cell = tt

-- **And so can what is changed of it to undo an operation.**
pub can_resize_back : (records : map.FinMap nat_cmp ℕ) (b : Base) (x : ObjOp × ObjReply) (reply : ObjReply) → Means records b → IsInRange (cell_of x.0) → IsRecord (cell_of x.0) (undone_of records x)
    → CellStep (state_of_record (cell_of x.0) (undone_of records x)) x (state_of_record (cell_of x.0) (record_in records (cell_of x.0)))
    → HasSizeToUndo x (size_record_in records x.0) → CanResize (TakeBack x) reply (size_record_in records x.0)
can_resize_back records b (ObjOp.Element s e o, r) reply h range can cell has =
    let counts = counts_before records b s e o r h range can cell has in
    can_go_back s e o r reply (record_in records (Size s)) counts.0 counts.1 has counts.2
can_resize_back records b (ObjOp.Account a o, r) reply h range can cell has = tt
can_resize_back records b (ObjOp.Counter c o, r) reply h range can cell has = tt
can_resize_back records b (ObjOp.Size s, r) reply h range can cell has = tt
