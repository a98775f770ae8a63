-- The records of cells mean one base at most, and a change of one record is a change of one cell of it.
use Rattle.std.proofs.Common.{◌≡◌, ◌≢◌, ◌⊎◌, inl, inr, ℕ, ◌^◌, ◌<◌, true, false, true≢false, ltb, Option, None, refl, sym, ap, subst, ◌∙◌, arith, lt-ltb, ltb-true, nat_cmp}
use Rattle.mlt_object_base.proofs.Names.{nat_cmp_total, Cell, Account, Element, Counter, Size, IsInRange, key_number, with_entry, entry_beside, entry_here, state_beside, state_here, Base, state_at, with_state, Means, IsRecord, state_of_record}
use Rattle.std.specs.FinMap as map
use Rattle.mlt_object_kinds.proofs.BaseLaws.{IsStateOf, one_cell_or_two, same_base}

-- different cells have different keys
pub same_cell : (c d : Cell) → IsInRange c → IsInRange d → key_number c ≡ key_number d → c ≡ d
same_cell (Account a) (Account b) h k e = let same : a ≡ b = omega arith in ap Account same
same_cell (Counter a) (Counter b) h k e = let same : a ≡ b = omega arith in ap Counter same
same_cell (Element s e) (Element t f) h k is =
    let sets : s ≡ t = omega arith in
    let elements : e ≡ f = omega arith in
    λ i. Element (sets i) (elements i)
same_cell (Account a) (Counter b) h k e = absurd (omega arith)
same_cell (Account a) (Element t f) h k e = absurd (omega arith)
same_cell (Counter a) (Account b) h k e = absurd (omega arith)
same_cell (Counter a) (Element t f) h k e = absurd (omega arith)
same_cell (Element s e) (Account b) h k is = absurd (omega arith)
same_cell (Element s e) (Counter b) h k is = absurd (omega arith)
same_cell (Size s) (Size t) h k e = let same : s ≡ t = omega arith in ap Size same
same_cell (Size s) (Account b) h k e = absurd (omega arith)
same_cell (Size s) (Counter b) h k e = absurd (omega arith)
same_cell (Size s) (Element t f) h k e = absurd (omega arith)
same_cell (Account a) (Size t) h k e = absurd (omega arith)
same_cell (Counter a) (Size t) h k e = absurd (omega arith)
same_cell (Element s e) (Size t) h k is = absurd (omega arith)

pub a_state : (c : Cell) (live : Option ℕ) → IsStateOf c (state_of_record c live)
a_state (Account a) live = tt
a_state (Element s e) live = tt
a_state (Counter c) live = tt
a_state (Size s) live = tt

pub below_or_not : (n m : ℕ) → (n < m) ⊎ (n < m → ⊥)
below_or_not n m = elim (ltb n m) as (λ b. ltb n m ≡ b → (n < m) ⊎ (n < m → ⊥)) [ true ↦ λ e. inl (ltb-true n m e) | false ↦ λ e. inr (λ h. absurd (true≢false (sym (lt-ltb n m h) ∙ e))) ] refl

in_range_or_not : (c : Cell) → IsInRange c ⊎ (IsInRange c → ⊥)
in_range_or_not (Account a) = below_or_not a (2 ^ 32)
in_range_or_not (Counter c) = below_or_not c (2 ^ 32)
in_range_or_not (Size s) = below_or_not s (2 ^ 16)
in_range_or_not (Element s e) =
    elim (below_or_not s (2 ^ 16)) [
      | inl h ↦ elim (below_or_not e (2 ^ 32)) [ inl k ↦ inl (h, k) | inr n ↦ inr (λ x. n x.1) ]
      | inr n ↦ inr (λ x. n x.0)
    ]

-- records mean one base
pub one_meaning : (records : map.FinMap nat_cmp ℕ) (b d : Base) → Means records b → Means records d → b ≡ d
one_meaning records b d h k =
    same_base b d (λ c. elim (in_range_or_not c) [
      | inl is ↦ h.holds c is ∙ sym (k.holds c is)
      | inr not ↦ h.elsewhere c not ∙ sym (k.elsewhere c not)
    ])

-- The records mean the base but for the sizes of its sets: so they do between the two changes of one operation.
pub record MeansCells (records : map.FinMap nat_cmp ℕ) (base : Base) : Type 0 where
  pub can_be : (c : Cell) → IsInRange c → IsRecord c (map.get records (key_number c))
  pub holds : (c : Cell) → IsInRange c → state_at base c ≡ state_of_record c (map.get records (key_number c))
  pub elsewhere : (c : Cell) → (IsInRange c → ⊥) → state_at base c ≡ state_of_record c None

pub cells_meant : (records : map.FinMap nat_cmp ℕ) (b : Base) → Means records b → MeansCells records b
cells_meant records b h = record { can_be = h.can_be; holds = h.holds; elsewhere = h.elsewhere }

-- the records with another one of this cell
abbrev pub changed : map.FinMap nat_cmp ℕ → Cell → Option ℕ → map.FinMap nat_cmp ℕ
changed records c live = with_entry records (key_number c) live

pub record_here : (records : map.FinMap nat_cmp ℕ) (c : Cell) (live : Option ℕ) → map.get (changed records c live) (key_number c) ≡ live
record_here records c live = entry_here nat_cmp_total records (key_number c) live

pub record_beside : (records : map.FinMap nat_cmp ℕ) (c d : Cell) (live : Option ℕ) → IsInRange c → IsInRange d → d ≢ c
    → map.get (changed records c live) (key_number d) ≡ map.get records (key_number d)
record_beside records c d live h k n =
    entry_beside nat_cmp_total map.nat_cmp-IsAntisymmetric records (key_number c) live (key_number d) (λ e. n (same_cell d c k h e))

-- a change of one record
pub cells_changed : (records : map.FinMap nat_cmp ℕ) (b : Base) (c : Cell) (live : Option ℕ) → MeansCells records b → IsInRange c → IsRecord c live
    → MeansCells (changed records c live) (with_state b c (state_of_record c live))
cells_changed records b c live h is can =
    record {
      can_be = λ d k. elim (one_cell_or_two d c) [
        | inl e ↦ subst (λ (x : Cell). IsRecord x (map.get (changed records c live) (key_number x))) (sym e) (subst (IsRecord c) (sym (record_here records c live)) can)
        | inr n ↦ subst (IsRecord d) (sym (record_beside records c d live is k n)) (h.can_be d k)
      ];
      holds = λ d k. elim (one_cell_or_two d c) [
        | inl e ↦ subst (λ (x : Cell). state_at (with_state b c (state_of_record c live)) x ≡ state_of_record x (map.get (changed records c live) (key_number x))) (sym e) (
            state_here b c (state_of_record c live) (a_state c live) ∙ ap (state_of_record c) (sym (record_here records c live))
            )
        | inr n ↦ state_beside b c (state_of_record c live) d n ∙ h.holds d k ∙ ap (state_of_record d) (sym (record_beside records c d live is k n))
      ];
      elsewhere = λ d not.
          let n : d ≢ c = λ e. not (subst IsInRange (sym e) is) in
          state_beside b c (state_of_record c live) d n ∙ h.elsewhere d not;
    }
