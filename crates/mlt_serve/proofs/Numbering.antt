-- Whose outcomes they are, where others come behind them.
use Rattle.std.proofs.Common.{◌≡◌, ◌↔◌, ℕ, ◌+◌, ◌<◌, ◌≤◌, ◌++◌, List, [], ◌∷◌, length, get_or, drop, max, All, subst, sym, arith, IsPermutation, add-one, drop-cons, drop_of_length-le}
use Rattle.mlt_serve.proofs.Names.{All-append, All-nil, All-weaker, All-permutation, TraceItem, Outcome, AreOfClients, GrowsFor, IsOf, IsOfClient}
use Rattle.mlt_serve.specs.Clients.{AreNumbered, ComesNext}

-- those of the first connections are among those of more connections
pub of_more : (least most : ℕ) (outcomes : List Outcome) → least ≤ most → AreOfClients least outcomes → AreOfClients most outcomes
of_more least most outcomes below are =
    All-weaker (IsOfClient least) (IsOfClient most) (λ o is. (is.0, omega (arith, is.1, below))) outcomes are

-- those of a client among them
one_of_more : (client most : ℕ) (outcomes : List Outcome) → 1 ≤ client → client ≤ most → All (IsOf client) outcomes → AreOfClients most outcomes
one_of_more client most outcomes some below are =
    All-weaker (IsOf client) (IsOfClient most) (λ o is. (omega (arith, some, is), omega (arith, below, is))) outcomes are

-- where there are none
pub none_of : (limit : ℕ) (outcomes : List Outcome) → outcomes ≡ [] → AreOfClients limit outcomes
none_of limit outcomes none = subst (AreOfClients limit) (sym none) (All-nil (IsOfClient limit))

-- after a session of a client
pub grown : (items : List TraceItem) (client last : ℕ) (old new : List Outcome) → 1 ≤ client → AreOfClients last old → GrowsFor items client old new → AreOfClients (max last client) new
grown items client last old new some are grows =
    subst (AreOfClients (max last client)) (sym grows.appended)
    (All-append (IsOfClient (max last client)) old grows.more (of_more last (max last client) old (omega arith) are)
    (one_of_more client (max last client) grows.more some (omega arith) grows.of_client))

-- after those of another thread were taken in
pub gathered : (one other : ℕ) (old more new : List Outcome) → IsPermutation (old ++ more) new → AreOfClients one old → AreOfClients other more → AreOfClients (max one other) new
gathered one other old more new same are are_more =
    All-permutation (IsOfClient (max one other)) (old ++ more) new same
    (All-append (IsOfClient (max one other)) old more (of_more one (max one other) old (omega arith) are) (of_more other (max one other) more (omega arith) are_more))

-- ---- numbers, from an outcome on

module _ (outcomes : List Outcome) (i client number : ℕ) (so_far : AreNumbered client number (drop i outcomes) ↔ AreNumbered 0 0 outcomes) where
  pub all_numbered : length outcomes ≤ i → AreNumbered 0 0 outcomes
  all_numbered past = so_far.0 (subst (AreNumbered client number) (sym (drop_of_length-le outcomes past)) tt)

  module _ (o : Outcome) (within : i < length outcomes) (is : o ≡ get_or outcomes i o) where
    from_here : drop i outcomes ≡ o ∷ drop (i + 1) outcomes
    from_here = subst (λ x. drop i outcomes ≡ x ∷ drop (i + 1) outcomes) (sym is) (rw (add-one i) (drop-cons outcomes i o within))

    pub numbered_here : AreNumbered 0 0 outcomes → ComesNext client number o
    numbered_here all = (subst (AreNumbered client number) from_here (so_far.1 all)).0

    pub numbered_on : ComesNext client number o → AreNumbered o.client o.number (drop (i + 1) outcomes) ↔ AreNumbered 0 0 outcomes
    numbered_on next = (λ rest. so_far.0 (subst (AreNumbered client number) (sym from_here) (next, rest)), λ all. (subst (AreNumbered client number) from_here (so_far.1 all)).1)
