-- The rows of counters, and which classes right commute backward.
use Rattle.std.proofs.Common.{◌≡◌, ℕ, ◌+◌, ◌-◌, ◌<◌, ◌%◌, ◌^◌, false, refl, arith}
use Rattle.mlt_object_conflicts.proofs.Names.{IsLegalOnCounter, counter_after, CounterOp, ObjReply, Is, CounterClass, counter_class, counter_marks}
use Rattle.mlt_object_kinds.specs.{declared.counter.CounterOp.TheVariants.Up, declared.counter.CounterOp.TheVariants.Down, declared.counter.CounterOp.TheVariants.Read, declared.operation.ObjReply.TheVariants.Done, CounterLaws.below}
use Rattle.mlt_object_conflicts.proofs.Rows.{RowIsLegal, row_after, HasRows}

-- where a class is legal, with what is added modulo 2^64, or the value that is read
abbrev pub Legal : CounterClass → ℕ → ℕ → Type 0
Legal CounterClass.Counted n s = s < 2 ^ 64
Legal CounterClass.Read v s = (s < 2 ^ 64) × (s ≡ v)

-- what it leaves there
abbrev pub after : CounterClass → ℕ → ℕ → ℕ
after CounterClass.Counted n s = (s + n) % 2 ^ 64
after CounterClass.Read v s = s

-- the amount is one
abbrev pub Fits : CounterOp → Type 0
Fits (Up n) = n < 2 ^ 64
Fits (Down n) = n < 2 ^ 64
Fits Read = Unit {0}

-- what is added modulo 2^64, or the value that is read
abbrev pub amount : CounterOp → ObjReply → ℕ
amount (Up n) reply = n
amount (Down n) reply = 2 ^ 64 - n
amount Read (Is v) = v
amount Read _ = 0

abbrev RowLegal : CounterOp → ObjReply → ℕ → Type 0
RowLegal o r s = RowIsLegal counter_class IsLegalOnCounter counter_after amount Fits Legal after (counter_class o r) (amount o r) s

abbrev Fitting : CounterOp → ObjReply → ℕ → Type 0
Fitting o r s =
    (IsLegalOnCounter o r s → RowLegal o r s × Fits o) × (RowLegal o r s → Fits o → IsLegalOnCounter o r s) ×
    (RowLegal o r s → counter_after o r s ≡ row_after counter_class IsLegalOnCounter counter_after amount Fits Legal after (counter_class o r) (amount o r) s)

fitting : (o : CounterOp) (r : ObjReply) (s : ℕ) → Fitting o r s
fitting o r s =
    elim o as (λ o. Fitting o r s) [
      | Up n ↦ elim r as (λ r. Fitting (Up n) r s) [ Done ↦ (λ h. (h.1, h.0), λ h f. (f, h), λ h. refl) | _ ↦ (λ h. absurd h, λ h f. absurd h, λ h. absurd h) ]
      | Down n ↦ elim r as (λ r. Fitting (Down n) r s) [ Done ↦ (λ h. (h.1, h.0), λ h f. (f, h), λ h. refl) | _ ↦ (λ h. absurd h, λ h f. absurd h, λ h. absurd h) ]
      | Read ↦ elim r as (λ r. Fitting Read r s) [ Is v ↦ (λ h. (h, tt), λ h f. h, λ h. refl) | _ ↦ (λ h. absurd h, λ h f. absurd h, λ h. absurd h) ]
    ]

pub counter_has_rows : HasRows counter_class IsLegalOnCounter counter_after amount Fits Legal after
counter_has_rows = record { into = λ o r s. (fitting o r s).0; from = λ o r s. (fitting o r s).1; next = λ o r s. (fitting o r s).2 }

-- sums modulo 2^64 may be taken in either order
either_order : (s n k : ℕ) → ((s + n) % 2 ^ 64 + k) % 2 ^ 64 ≡ ((s + k) % 2 ^ 64 + n) % 2 ^ 64
either_order s n k = omega arith

-- classes that are not marked right commute backward
pub counter_rows_commute : (p q : CounterClass) → counter_marks p q ≡ false → (n k s : ℕ) → Legal p n s → Legal q k (after p n s) →
    Legal q k s × Legal p n (after q k s) × (after q k (after p n s) ≡ after p n (after q k s))
counter_rows_commute CounterClass.Counted CounterClass.Counted free n k s h i = (h, below (s + k), either_order s n k)
counter_rows_commute CounterClass.Counted CounterClass.Read free n k s h i = absurd (cc free)
counter_rows_commute CounterClass.Read CounterClass.Counted free n k s h i = absurd (cc free)
counter_rows_commute CounterClass.Read CounterClass.Read free n k s h i = (i, h, refl)
