-- The laws of the table of counters: one answer, one start, and states stay in range.
use Rattle.std.proofs.Common.{◌≡◌, ℕ, ◌+◌, ◌-◌, ◌<◌, ◌^◌, ◌%◌, refl, sym, ◌∙◌, ap, subst, arith}
use Rattle.mlt_object_kinds.specs.{declared.counter.CounterOp.CounterOp, declared.counter.CounterOp.TheVariants.Up, declared.counter.CounterOp.TheVariants.Down, declared.counter.CounterOp.TheVariants.Read, declared.operation.ObjReply.ObjReply, declared.operation.ObjReply.TheVariants.Done, declared.operation.ObjReply.TheVariants.Is, Counters.CounterStep, Counters.IsCounter, Counters.IsLegalOnCounter, Counters.counter_after}

-- what an operation is told
abbrev reply_of : CounterOp → ℕ → ObjReply
reply_of (Up n) s = Done
reply_of (Down n) s = Done
reply_of Read s = Is s

the_reply : (o : CounterOp) (r : ObjReply) (s : ℕ) → IsLegalOnCounter o r s → r ≡ reply_of o s
the_reply o r s =
    elim o as (λ o. IsLegalOnCounter o r s → r ≡ reply_of o s) [
      | Up n ↦ elim r as (λ r. IsLegalOnCounter (Up n) r s → r ≡ Done) [ Done ↦ λ h. refl | _ ↦ λ h. absurd h ]
      | Down n ↦ elim r as (λ r. IsLegalOnCounter (Down n) r s → r ≡ Done) [ Done ↦ λ h. refl | _ ↦ λ h. absurd h ]
      | Read ↦ elim r as (λ r. IsLegalOnCounter Read r s → r ≡ Is s) [ Is v ↦ λ h. ap Is (sym h.1) | _ ↦ λ h. absurd h ]
    ]

pub counter_one_answer : (s : ℕ) (o : CounterOp) (r q : ObjReply) (t u : ℕ) → CounterStep s o r t → CounterStep s o q u → (r ≡ q) × (t ≡ u)
counter_one_answer s o r q t u h k =
    let same : r ≡ q = the_reply o r s h.0 ∙ sym (the_reply o q s k.0) in
    (same, sym h.1 ∙ ap (λ r. counter_after o r s) same ∙ k.1)

up_injective : (n s u : ℕ) → n < 2 ^ 64 → s < 2 ^ 64 → u < 2 ^ 64 → (s + n) % 2 ^ 64 ≡ (u + n) % 2 ^ 64 → s ≡ u
up_injective n s u hn hs hu e = omega arith

down_injective : (n s u : ℕ) → n < 2 ^ 64 → s < 2 ^ 64 → u < 2 ^ 64 → (s + (2 ^ 64 - n)) % 2 ^ 64 ≡ (u + (2 ^ 64 - n)) % 2 ^ 64 → s ≡ u
down_injective n s u hn hs hu e = omega arith

abbrev OneStart : CounterOp → ObjReply → ℕ → ℕ → Type 0
OneStart o r s u = IsLegalOnCounter o r s → IsLegalOnCounter o r u → counter_after o r s ≡ counter_after o r u → s ≡ u

starts : (o : CounterOp) (r : ObjReply) (s u : ℕ) → OneStart o r s u
starts o r s u =
    elim o as (λ o. OneStart o r s u) [
      | Up n ↦ elim r as (λ r. OneStart (Up n) r s u) [ Done ↦ λ h k e. up_injective n s u h.0 h.1 k.1 e | _ ↦ λ h k e. absurd h ]
      | Down n ↦ elim r as (λ r. OneStart (Down n) r s u) [ Done ↦ λ h k e. down_injective n s u h.0 h.1 k.1 e | _ ↦ λ h k e. absurd h ]
      | Read ↦ elim r as (λ r. OneStart Read r s u) [ Is v ↦ λ h k e. e | _ ↦ λ h k e. absurd h ]
    ]

pub counter_one_start : (s u t : ℕ) (o : CounterOp) (r : ObjReply) → CounterStep s o r t → CounterStep u o r t → s ≡ u
counter_one_start s u t o r h k = starts o r s u h.0 k.0 (h.1 ∙ sym k.1)

abbrev Stays : CounterOp → ObjReply → ℕ → Type 0
Stays o r s = IsLegalOnCounter o r s → IsCounter s × IsCounter (counter_after o r s)

pub below : (s : ℕ) → s % 2 ^ 64 < 2 ^ 64
below s = omega arith

stays : (o : CounterOp) (r : ObjReply) (s : ℕ) → Stays o r s
stays o r s =
    elim o as (λ o. Stays o r s) [
      | Up n ↦ elim r as (λ r. Stays (Up n) r s) [ Done ↦ λ h. (h.1, below (s + n)) | _ ↦ λ h. absurd h ]
      | Down n ↦ elim r as (λ r. Stays (Down n) r s) [ Done ↦ λ h. (h.1, below (s + (2 ^ 64 - n))) | _ ↦ λ h. absurd h ]
      | Read ↦ elim r as (λ r. Stays Read r s) [ Is v ↦ λ h. (h.0, h.0) | _ ↦ λ h. absurd h ]
    ]

pub counter_stays : (s t : ℕ) (o : CounterOp) (r : ObjReply) → CounterStep s o r t → IsCounter s × IsCounter t
counter_stays s t o r h = let k = stays o r s h.0 in (k.0, subst IsCounter h.1 k.1)
