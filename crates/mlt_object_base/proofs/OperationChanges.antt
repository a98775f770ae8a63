-- What an operation, or the undoing of one, changes of the records is its step of the base that they mean.
use Rattle.std.proofs.Common.{◌≡◌, ◌≢◌, inl, inr, ℕ, ◌+◌, ◌^◌, ◌<◌, ◌≤◌, true, false, List, [], ◌∷◌, ◌++◌, Option, None, Some, refl, sym, ap, subst, ◌∙◌, arith, eq-eqb, nat_cmp}
use Rattle.mlt_object_base.proofs.Names.{cases_eq, nat_cmp_total, Cell, Account, Element, Counter, Size, IsInRange, key_number, with_entry, ElementOp, ObjOp, ObjReply, entry_beside, entry_here, state_beside, state_here, step_to, size_after_step, size_below, Base, Step, TellsSize, size_at, state_at, with_state, CellStep, ElementState, cell_of, put_into, taken_from, RecordChanges, RecChange, changes_on, inverse_of, own_change_on, size_change_of, size_inverse_of, Means, changes_back, changes_of, record_in, records_after, size_record_in, told_by, HasSizeToUndo, IsRecord, counter_of_record, record_after, state_of_record}
use Rattle.std.specs.FinMap as map
use Rattle.mlt_object_kinds.{proofs.Sizes.other_set_untouched, specs.Bases.element_at}
use Rattle.mlt_object_base.specs.Effects.{size_change_on, size_reply_of}
use Rattle.mlt_object_base.proofs.Meanings.{MeansCells, a_state, below_or_not, cells_changed, cells_meant, changed, record_beside, record_here}

-- ---- the records after changes

-- an entry that stays
same_entry : (records : map.FinMap nat_cmp ℕ) (k : ℕ) → records ≡ with_entry records k (map.get records k)
same_entry records k =
    map.same_map nat_cmp_total map.nat_cmp-IsAntisymmetric _ _ (λ q. elim (cases_eq q k) [
      | inl e ↦ ap (map.get records) e ∙ sym (entry_here nat_cmp_total records k (map.get records k)) ∙ ap (map.get (with_entry records k (map.get records k))) (sym e)
      | inr n ↦ sym (entry_beside nat_cmp_total map.nat_cmp-IsAntisymmetric records k (map.get records k) q n)
    ])

-- changes one after the other
pub after_both : (records : map.FinMap nat_cmp ℕ) (first second : List (Cell × RecChange)) → records_after records (first ++ second) ≡ records_after (records_after records first) second
after_both records [] second = refl
after_both records (change ∷ first) second = after_both (changed records change.0 (record_after (Some change.1) (record_in records change.0))) first second

-- what the change of the own record leaves
pub after_own : (records : map.FinMap nat_cmp ℕ) (o : ObjOp) (own : Option RecChange)
    → records_after records (own_change_on o own) ≡ changed records (cell_of o) (record_after own (record_in records (cell_of o)))
after_own records o None = same_entry records (key_number (cell_of o))
after_own records o (Some change) = refl

-- and what the change of the size record leaves
pub after_size : (records : map.FinMap nat_cmp ℕ) (s e : ℕ) (o : ElementOp) (size : Option RecChange)
    → records_after records (size_change_on (ObjOp.Element s e o) size) ≡ changed records (Size s) (record_after size (record_in records (Size s)))
after_size records s e o None = same_entry records (key_number (Size s))
after_size records s e o (Some change) = refl

-- ---- sizes

-- what the records mean is in range, so that no size is beyond 2^32
there_in_range : (records : map.FinMap nat_cmp ℕ) (b : Base) (s e : ℕ) → MeansCells records b → element_at b s e ≡ true → e < 2 ^ 32
there_in_range records b s e h there =
    elim (below_or_not e (2 ^ 32)) [
      | inl is ↦ is
      | inr not ↦ let gone : state_at b (Element s e) ≡ ElementState false = h.elsewhere (Element s e) (λ range. not range.1) in absurd (cc (gone, there))
    ]

pub bounded : (records : map.FinMap nat_cmp ℕ) (b : Base) (s : ℕ) → MeansCells records b → size_at b s ≤ 2 ^ 32
bounded records b s h = size_below (2 ^ 32) b s (λ e. there_in_range records b s e h)

-- what an operation makes of its set's size is what its step makes of it
size_changes : (s e : ℕ) (o : ElementOp) (reply : ObjReply) (found : Option ℕ) (now : ℕ) → now ≤ 2 ^ 32
    → now + taken_from s (ObjOp.Element s e o, reply) ≡ counter_of_record found + put_into s (ObjOp.Element s e o, reply)
    → counter_of_record (record_after (size_change_of (ObjOp.Element s e o, reply) found) found) ≡ now
size_changes s e ElementOp.Add ObjReply.Added None now small is =
    let first : now + 0 ≡ 0 + 1 = rw (eq-eqb s s refl) at is in
    omega arith
size_changes s e ElementOp.Add ObjReply.Added (Some v) now small is =
    let more : now + 0 ≡ v + 1 = rw (eq-eqb s s refl) at is in
    omega arith
size_changes s e ElementOp.Remove ObjReply.Removed None now small is =
    let less : now + 1 ≡ 0 + 0 = rw (eq-eqb s s refl) at is in
    absurd (omega arith)
size_changes s e ElementOp.Remove ObjReply.Removed (Some v) now small is =
    let less : now + 1 ≡ v + 0 = rw (eq-eqb s s refl) at is in
    omega arith
size_changes s e o reply found now small is = omega arith

-- and what undoes the operation takes it back
size_goes_back : (s e : ℕ) (o : ElementOp) (reply : ObjReply) (found : Option ℕ) (before : ℕ) → before ≤ 2 ^ 32 → HasSizeToUndo (ObjOp.Element s e o, reply) found
    → counter_of_record found + taken_from s (ObjOp.Element s e o, reply) ≡ before + put_into s (ObjOp.Element s e o, reply)
    → counter_of_record (record_after (size_inverse_of (ObjOp.Element s e o, reply)) found) ≡ before
size_goes_back s e ElementOp.Add ObjReply.Added None before small has is = absurd (cc has)
size_goes_back s e ElementOp.Add ObjReply.Added (Some v) before small has is =
    let less : v + 0 ≡ before + 1 = rw (eq-eqb s s refl) at is in
    omega arith
size_goes_back s e ElementOp.Remove ObjReply.Removed None before small has is = absurd (cc has)
size_goes_back s e ElementOp.Remove ObjReply.Removed (Some v) before small has is =
    let more : v + 1 ≡ before + 0 = rw (eq-eqb s s refl) at is in
    omega arith
size_goes_back s e o reply found before small has is = omega arith

-- ---- the records of both cells

module _ (records : map.FinMap nat_cmp ℕ) (b : Base) (h : Means records b) where
  -- the records with another one of a cell that is no size, where no size changes
  plain_means : (c : Cell) (live : Option ℕ) → ((s : ℕ) → Size s ≢ c) → IsInRange c → IsRecord c live
      → ((s : ℕ) → size_at (with_state b c (state_of_record c live)) s ≡ size_at b s)
      → Means (changed records c live) (with_state b c (state_of_record c live))
  plain_means c live none range can same =
      let cells = cells_changed records b c live (cells_meant records b h) range can in record {
        can_be = cells.can_be;
        holds = cells.holds;
        elsewhere = cells.elsewhere;
        sized = λ s is. ap counter_of_record (record_beside records c (Size s) live range is (none s)) ∙ h.sized s is ∙ sym (same s);
      }

  -- the records with another one of an element, and one of its set's size
  both_mean : (s e : ℕ) (live size : Option ℕ) → IsInRange (Element s e) → IsRecord (Element s e) live
      → counter_of_record size ≡ size_at (with_state b (Element s e) (state_of_record (Element s e) live)) s
      → ((t : ℕ) → t ≢ s → size_at (with_state b (Element s e) (state_of_record (Element s e) live)) t ≡ size_at b t)
      → Means (changed (changed records (Element s e) live) (Size s) size) (with_state b (Element s e) (state_of_record (Element s e) live))
  both_mean s e live size range can now beside =
      let after = with_state b (Element s e) (state_of_record (Element s e) live) in
      let between = changed records (Element s e) live in
      let first = cells_changed records b (Element s e) live (cells_meant records b h) range can in
      let small : size_at after s ≤ 2 ^ 32 = bounded between after s first in
      let fits : counter_of_record size < 2 ^ 64 = omega (arith, now, small) in
      let cells = cells_changed between after (Size s) size first range.0 fits in record {
        can_be = cells.can_be;
        holds = cells.holds;
        elsewhere = cells.elsewhere;
        sized = λ t is. elim (cases_eq t s) [
          | inl same ↦ subst (λ t. counter_of_record (record_in (changed between (Size s) size) (Size t)) ≡ size_at after t) (sym same)
              (ap counter_of_record (record_here between (Size s) size) ∙ now)
          | inr n ↦
              ap counter_of_record (record_beside between (Size s) (Size t) size range.0 is (λ (same : Size t ≡ Size s). n (cc)))
              ∙ ap counter_of_record (record_beside records (Element s e) (Size t) live range is (λ (same : Size t ≡ Element s e). cc))
              ∙ h.sized t is ∙ sym (beside t n)
        ];
      }

-- all that an operation on an element changes
pub element_changes : (records : map.FinMap nat_cmp ℕ) (s e : ℕ) (o : ElementOp) (changes : RecordChanges) → IsInRange (Element s e)
    → records_after records (changes_on (ObjOp.Element s e o) changes)
    ≡ changed (changed records (Element s e) (record_after changes.own (record_in records (Element s e)))) (Size s) (record_after changes.size (record_in records (Size s)))
element_changes records s e o changes range =
    let x = ObjOp.Element s e o in
    let now = record_after changes.own (record_in records (Element s e)) in
    let between = changed records (Element s e) now in
    let found : record_in between (Size s) ≡ record_in records (Size s) = record_beside records (Element s e) (Size s) now range range.0 (λ (same : Size s ≡ Element s e). cc) in
    after_both records (own_change_on x changes.own) (size_change_on x changes.size)
    ∙ ap (λ (r : map.FinMap nat_cmp ℕ). records_after r (size_change_on x changes.size)) (after_own records x changes.own)
    ∙ after_size between s e o changes.size
    ∙ ap (λ (live : Option ℕ). changed between (Size s) (record_after changes.size live)) found

-- a size is read and stays
pub size_stays : (live : Option ℕ) → record_after (size_reply_of live).1 live ≡ live
size_stays None = refl
size_stays (Some v) = refl

size_told : (live : Option ℕ) (size : ℕ) → counter_of_record live ≡ size → (size_reply_of live).0 ≡ ObjReply.Is size
size_told None size is = ap ObjReply.Is is
size_told (Some v) size is = ap ObjReply.Is is

-- ---- steps

-- what an operation is told of a size by the records is the size
pub tells_size : (records : map.FinMap nat_cmp ℕ) (b : Base) (o : ObjOp) → Means records b → IsInRange (cell_of o) → TellsSize b (o, told_by records o)
tells_size records b (ObjOp.Account a o) h range = tt
tells_size records b (ObjOp.Element s e o) h range = tt
tells_size records b (ObjOp.Counter c o) h range = tt
tells_size records b (ObjOp.Size s) h range = size_told (record_in records (Size s)) (size_at b s) (h.sized s range)

-- the record of the operation's cell after it, and the base
abbrev pub now_of : map.FinMap nat_cmp ℕ → ObjOp → Option ℕ
now_of records o = record_after (changes_of records o).own (record_in records (cell_of o))

abbrev base_after : map.FinMap nat_cmp ℕ → Base → ObjOp → Base
base_after records b o = with_state b (cell_of o) (state_of_record (cell_of o) (now_of records o))

-- what the records mean after all that an operation changes
means_after : (records : map.FinMap nat_cmp ℕ) (b : Base) (o : ObjOp) → Means records b → IsInRange (cell_of o) → IsRecord (cell_of o) (now_of records o)
    → Step b (o, told_by records o) (base_after records b o)
    → Means (records_after records (changes_on o (changes_of records o))) (base_after records b o)
means_after records b (ObjOp.Account a o) h range can step =
    let x = ObjOp.Account a o in
    subst (λ (r : map.FinMap nat_cmp ℕ). Means r (base_after records b x)) (sym (after_both records (own_change_on x (changes_of records x).own) [] ∙ after_own records x (changes_of records x).own))
    (plain_means records b h (Account a) (now_of records x) (λ s (e : Size s ≡ Account a). cc) range can
    (λ s. let is = size_after_step b (base_after records b x) (x, told_by records x) s step in omega (arith, is)))
means_after records b (ObjOp.Counter c o) h range can step =
    let x = ObjOp.Counter c o in
    subst (λ (r : map.FinMap nat_cmp ℕ). Means r (base_after records b x)) (sym (after_both records (own_change_on x (changes_of records x).own) [] ∙ after_own records x (changes_of records x).own))
    (plain_means records b h (Counter c) (now_of records x) (λ s (e : Size s ≡ Counter c). cc) range can
    (λ s. let is = size_after_step b (base_after records b x) (x, told_by records x) s step in omega (arith, is)))
means_after records b (ObjOp.Element s e o) h range can step =
    let x = ObjOp.Element s e o in
    let c = Element s e in
    let done : ObjOp × ObjReply = (x, told_by records x) in
    let after = base_after records b x in
    let changes = changes_of records x in
    let first = cells_changed records b c (now_of records x) (cells_meant records b h) range can in
    let small = bounded (changed records c (now_of records x)) after s first in
    let count = size_after_step b after done s step in
    let sized = h.sized s range.0 in
    let now : counter_of_record (record_after changes.size (record_in records (Size s))) ≡ size_at after s =
    size_changes s e o (told_by records x) (record_in records (Size s)) (size_at after s) small (count ∙ ap (λ n. n + put_into s done) (sym sized))
    in
    let beside : (t : ℕ) → t ≢ s → size_at after t ≡ size_at b t = λ t n.
    let none = other_set_untouched s e o (told_by records x) t (λ (is : s ≡ t). n (sym is)) in
    let is = size_after_step b after done t step in
    omega (arith, is, none.0, none.1)
    in
    subst (λ (r : map.FinMap nat_cmp ℕ). Means r after) (sym (element_changes records s e o changes range))
    (both_mean records b h s e (now_of records x) (record_after changes.size (record_in records (Size s))) range can now beside)
means_after records b (ObjOp.Size s) h range can step =
    let x = ObjOp.Size s in
    let live = record_in records (Size s) in
    let own = (changes_of records x).own in
    let same : records_after records (changes_on x (changes_of records x)) ≡ records =
    after_both records (own_change_on x own) [] ∙ after_own records x own ∙ ap (changed records (Size s)) (size_stays live) ∙ sym (same_entry records (key_number (Size s)))
    in
    subst (λ (r : map.FinMap nat_cmp ℕ). Means r b) (sym same) h

-- An operation leads from the records to others, and the base that they mean makes its step.
pub means_step : (records : map.FinMap nat_cmp ℕ) (b : Base) (o : ObjOp) → Means records b → IsInRange (cell_of o) → IsRecord (cell_of o) (now_of records o)
    → CellStep (state_of_record (cell_of o) (record_in records (cell_of o))) (o, told_by records o) (state_of_record (cell_of o) (now_of records o))
    → (after : Base) × Step b (o, told_by records o) after × Means (records_after records (changes_on o (changes_of records o))) after
means_step records b o h range can cell =
    let c = cell_of o in
    let s = state_of_record c (now_of records o) in
    let step : Step b (o, told_by records o) (base_after records b o) =
    step_to b (o, told_by records o) s (subst (λ t. CellStep t (o, told_by records o) s) (sym (h.holds c range)) cell) (tells_size records b o h range)
    in
    (base_after records b o, step, means_after records b o h range can step)

-- ---- steps back

-- the record of the operation's cell once it is undone, and the base
abbrev pub undone_of : map.FinMap nat_cmp ℕ → ObjOp × ObjReply → Option ℕ
undone_of records x = record_after (inverse_of x) (record_in records (cell_of x.0))

abbrev base_before : map.FinMap nat_cmp ℕ → Base → ObjOp × ObjReply → Base
base_before records b x = with_state b (cell_of x.0) (state_of_record (cell_of x.0) (undone_of records x))

-- a size is told as it is before the operation too
told_before : (records : map.FinMap nat_cmp ℕ) (b : Base) (x : ObjOp × ObjReply) → TellsSize b x → TellsSize (base_before records b x) x
told_before records b (ObjOp.Account a o, r) tells = tt
told_before records b (ObjOp.Element s e o, r) tells = tt
told_before records b (ObjOp.Counter c o, r) tells = tt
told_before records b (ObjOp.Size s, r) tells = tells

-- what the records mean after all that the undoing of an operation changes
means_before : (records : map.FinMap nat_cmp ℕ) (b : Base) (x : ObjOp × ObjReply) → Means records b → IsInRange (cell_of x.0) → IsRecord (cell_of x.0) (undone_of records x)
    → HasSizeToUndo x (size_record_in records x.0) → Step (base_before records b x) x b
    → Means (records_after records (changes_on x.0 (changes_back x))) (base_before records b x)
means_before records b (ObjOp.Account a o, r) h range can has step =
    let x : ObjOp × ObjReply = (ObjOp.Account a o, r) in
    subst (λ (m : map.FinMap nat_cmp ℕ). Means m (base_before records b x)) (sym (after_both records (own_change_on x.0 (inverse_of x)) [] ∙ after_own records x.0 (inverse_of x)))
    (plain_means records b h (Account a) (undone_of records x) (λ s (e : Size s ≡ Account a). cc) range can
    (λ s. let is = size_after_step (base_before records b x) b x s step in omega (arith, is)))
means_before records b (ObjOp.Counter c o, r) h range can has step =
    let x : ObjOp × ObjReply = (ObjOp.Counter c o, r) in
    subst (λ (m : map.FinMap nat_cmp ℕ). Means m (base_before records b x)) (sym (after_both records (own_change_on x.0 (inverse_of x)) [] ∙ after_own records x.0 (inverse_of x)))
    (plain_means records b h (Counter c) (undone_of records x) (λ s (e : Size s ≡ Counter c). cc) range can
    (λ s. let is = size_after_step (base_before records b x) b x s step in omega (arith, is)))
means_before records b (ObjOp.Element s e o, r) h range can has step =
    let x : ObjOp × ObjReply = (ObjOp.Element s e o, r) in
    let c = Element s e in
    let before = base_before records b x in
    let first = cells_changed records b c (undone_of records x) (cells_meant records b h) range can in
    let small = bounded (changed records c (undone_of records x)) before s first in
    let count = size_after_step before b x s step in
    let sized = h.sized s range.0 in
    let now : counter_of_record (record_after (size_inverse_of x) (record_in records (Size s))) ≡ size_at before s =
    size_goes_back s e o r (record_in records (Size s)) (size_at before s) small has (ap (λ n. n + taken_from s x) sized ∙ count)
    in
    let beside : (t : ℕ) → t ≢ s → size_at before t ≡ size_at b t = λ t n.
    let none = other_set_untouched s e o r t (λ (is : s ≡ t). n (sym is)) in
    let is = size_after_step before b x t step in
    omega (arith, is, none.0, none.1)
    in
    subst (λ (m : map.FinMap nat_cmp ℕ). Means m before) (sym (element_changes records s e o (changes_back x) range))
    (both_mean records b h s e (undone_of records x) (record_after (size_inverse_of x) (record_in records (Size s))) range can now beside)
means_before records b (ObjOp.Size s, r) h range can has step = h

-- Undoing an operation leads from the records to others, and the base that they mean goes back before its step.
pub means_step_back : (records : map.FinMap nat_cmp ℕ) (b : Base) (x : ObjOp × ObjReply) → Means records b → IsInRange (cell_of x.0) → IsRecord (cell_of x.0) (undone_of records x)
    → CellStep (state_of_record (cell_of x.0) (undone_of records x)) x (state_of_record (cell_of x.0) (record_in records (cell_of x.0)))
    → HasSizeToUndo x (size_record_in records x.0) → TellsSize b x
    → (before : Base) × Step before x b × Means (records_after records (changes_on x.0 (changes_back x))) before
means_step_back records b x h range can cell has tells =
    let c = cell_of x.0 in
    let s = state_of_record c (undone_of records x) in
    let before = base_before records b x in
    let here : s ≡ state_at before c = sym (state_here b c s (a_state c (undone_of records x))) in
    let first : CellStep (state_at before c) x (state_of_record c (record_in records c)) = subst (λ t. CellStep t x (state_of_record c (record_in records c))) here cell in
    let step : Step before x b =
    (subst (CellStep (state_at before c) x) (sym (h.holds c range)) first, λ d n. sym (state_beside b c s d n), told_before records b x tells)
    in
    (before, step, means_before records b x h range can has step)
