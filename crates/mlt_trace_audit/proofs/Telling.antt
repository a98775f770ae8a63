-- What items have told of an outcome, one item more, and that nothing else may follow.
use Rattle.std.proofs.Common.{◌≡◌, ◌≢◌, ◌↔◌, ℕ, ◌+◌, ◌-◌, ◌<◌, ◌≤◌, List, [], ◌∷◌, ◌++◌, true, false, cond, length, get_or, take, drop, refl, sym, ap, ◌∙◌, inl, inr, arith, ◌==◌, sum_by, eq-eqb, append-nil, length-append, take-append-drop, take_all}
use Rattle.std.proofs.lemmas.{Bool.cases_Bool, Bool.cases_lt, List.take_more, List.length-take-le, List.at_drop_more, List.get_or-append_right, List.get_or-take, List.Sums.sum_by_more_le}
use Rattle.mlt_trace_audit.proofs.Names.{ObjOp, ObjReply, TraceItem, Back, Begin, Op, Outcome, is_told, number_in, tx_of, count_of, HasNothing, closing_by, closings_of, ops_of}
use Rattle.mlt_trace_audit.proofs.Placed.{closings_of-append, ops_of-append, ops_own, same_other}
use Rattle.mlt_trace_audit.specs.{Outcomes.Closing, Outcomes.IsClosedSo, Telling.HasTold, Telling.IsWhole, declared.progress.Progress.Progress}

-- a list is what stands before a place, what stands there, and what stands behind
pub parted : {X : Type 0} (xs : List X) (i : ℕ) (x : X) → i < length xs → x ≡ get_or xs i x → take i xs ++ x ∷ drop (i + 1) xs ≡ xs
parted xs i x within is =
    ap (λ y. take i xs ++ y ∷ drop (i + 1) xs) is ∙ sym (at_drop_more (λ l. take i xs ++ l) xs i x within) ∙ take-append-drop i xs

pub taken : {X : Type 0} (xs : List X) (i : ℕ) (x : X) → i < length xs → x ≡ get_or xs i x → take (i + 1) xs ≡ take i xs ++ x ∷ []
taken xs i x within is = take_more xs i x within ∙ ap (λ y. take i xs ++ y ∷ []) (sym is)

-- at the end of a front that ends with it stands what follows
follows : {X : Type 0} (xs rest : List X) (n : ℕ) (x : X) → n ≤ length xs → take n xs ++ x ∷ rest ≡ xs → (n < length xs) × (get_or xs n x ≡ x)
follows xs rest n x few whole =
    let front : length (take n xs) ≡ n = length-take-le n xs few in
    let long : length (take n xs ++ x ∷ rest) ≡ n + 1 + length rest = omega (arith, length-append (take n xs) (x ∷ rest), front) in
    let here : get_or (take n xs ++ x ∷ rest) n x ≡ get_or (x ∷ rest) (n - n) x = get_or-append_right (take n xs) (x ∷ rest) n n x front (omega arith) in
    let first : n - n ≡ 0 = omega arith in
    (omega (arith, long, ap length whole), ap (λ l. get_or l n x) (sym whole) ∙ here ∙ ap (λ k. get_or (x ∷ rest) k x) first)

-- an item of which outcomes tell nothing, and one of another transaction, have nothing of it
pub nothing_untold : (tx : ℕ) (item : TraceItem) → is_told item ≡ false → HasNothing tx (item ∷ [])
nothing_untold tx (Begin i) untold = record { ops = refl; closed = refl }
nothing_untold tx (Back i) untold = record { ops = refl; closed = refl }
nothing_untold tx other untold = absurd (cc untold)

pub nothing_of_other : (tx : ℕ) (item : TraceItem) → tx ≢ tx_of item → HasNothing tx (item ∷ [])
nothing_of_other tx item apart = let same = same_other tx item [] (λ is. apart (is ∙ number_is item)) in record { ops = same.ops; closed = same.closed }
  where
    number_is : (item : TraceItem) → number_in item ≡ tx_of item
    number_is (Begin i) = refl
    number_is other = refl

module _ (o : Outcome) (items : List TraceItem) (p : Progress) (told : HasTold o items p) where
  -- an item of which the outcome tells nothing
  pub told_nothing : (item : TraceItem) → HasNothing o.tx (item ∷ []) → HasTold o (items ++ item ∷ []) p
  told_nothing item none = record {
    few = told.few;
    ops = ops_of-append o.tx items (item ∷ []) ∙ ap (λ l. ops_of o.tx items ++ l) none.ops ∙ append-nil (ops_of o.tx items) ∙ told.ops;
    closed = closings_of-append o.tx items (item ∷ []) ∙ ap (λ l. closings_of o.tx items ++ l) none.closed ∙ append-nil (closings_of o.tx items) ∙ told.closed;
  }

  -- an operation
  pub told_op : (done : ObjOp × ObjReply) → p.ops < length o.done → get_or o.done p.ops done ≡ done → HasTold o (items ++ Op o.tx done ∷ []) (record { ops = p.ops + 1; closed = p.closed })
  told_op done within is = record {
    few = omega (arith, within);
    ops = ops_of-append o.tx items (Op o.tx done ∷ []) ∙ ap (λ l. ops_of o.tx items ++ l) (ops_own o.tx done []) ∙ ap (λ l. l ++ done ∷ []) told.ops ∙ sym (taken o.done p.ops done within (sym is));
    closed = closings_of-append o.tx items (Op o.tx done ∷ []) ∙ append-nil (closings_of o.tx items) ∙ told.closed;
  }

  pub no_other_op : (done : ObjOp × ObjReply) (later : List TraceItem) → ((p.ops < length o.done) × (get_or o.done p.ops done ≡ done) → ⊥) → IsClosedSo o.tx o.done o.end (items ++ Op o.tx done ∷ later) → ⊥
  no_other_op done later apart whole =
      let all : take p.ops o.done ++ done ∷ ops_of o.tx later ≡ o.done =
      ap (λ l. l ++ done ∷ ops_of o.tx later) (sym told.ops) ∙ ap (λ l. ops_of o.tx items ++ l) (sym (ops_own o.tx done later)) ∙ sym (ops_of-append o.tx items (Op o.tx done ∷ later)) ∙ whole.ops in
      apart (follows o.done (ops_of o.tx later) p.ops done told.few all)

  -- a close
  module _ (item : TraceItem) (how : Closing) (one : (later : List TraceItem) → closings_of o.tx (item ∷ later) ≡ how ∷ closings_of o.tx later) (none : ops_of o.tx (item ∷ []) ≡ []) where
    pub told_close : p.closed ≡ false → closing_by o.end ≡ how → HasTold o (items ++ item ∷ []) (record { ops = p.ops; closed = true })
    told_close not_yet is = record {
      few = told.few;
      ops = ops_of-append o.tx items (item ∷ []) ∙ ap (λ l. ops_of o.tx items ++ l) none ∙ append-nil (ops_of o.tx items) ∙ told.ops;
      closed = closings_of-append o.tx items (item ∷ []) ∙ ap (λ l. closings_of o.tx items ++ l) (one []) ∙ ap (λ l. l ++ how ∷ []) (told.closed ∙ ap (λ b. cond b (closing_by o.end ∷ []) []) not_yet) ∙ ap (λ c. c ∷ []) (sym is);
    }

    pub no_other_close : (later : List TraceItem) → ((p.closed ≡ false) × (closing_by o.end ≡ how) → ⊥) → IsClosedSo o.tx o.done o.end (items ++ item ∷ later) → ⊥
    no_other_close later apart whole =
        let all : cond p.closed (closing_by o.end ∷ []) [] ++ how ∷ closings_of o.tx later ≡ closing_by o.end ∷ [] =
        ap (λ l. l ++ how ∷ closings_of o.tx later) (sym told.closed) ∙ ap (λ l. closings_of o.tx items ++ l) (sym (one later)) ∙ sym (closings_of-append o.tx items (item ∷ later)) ∙ whole.closed in
        elim (cases_Bool p.closed) [
          | inl done ↦ let twice : closing_by o.end ∷ how ∷ closings_of o.tx later ≡ closing_by o.end ∷ [] = rw done at all in absurd (let long = ap length twice in omega (arith, long))
          | inr not_yet ↦ let once : how ∷ closings_of o.tx later ≡ closing_by o.end ∷ [] = rw not_yet at all in apart (not_yet, cc)
        ]

  pub whole_is_closed : IsWhole p o ↔ IsClosedSo o.tx o.done o.end items
  whole_is_closed = (
    (λ (whole : IsWhole p o). record {
      ops = told.ops ∙ ap (λ n. take n o.done) whole.1 ∙ take_all (length o.done) o.done (omega arith);
      closed = told.closed ∙ ap (λ b. cond b (closing_by o.end ∷ []) []) whole.0;
    }),
    (λ (closed : IsClosedSo o.tx o.done o.end items).
        let all : take p.ops o.done ≡ o.done = sym told.ops ∙ closed.ops in
        let long = ap length all in
        let some : cond p.closed (closing_by o.end ∷ []) [] ≡ closing_by o.end ∷ [] = sym told.closed ∙ closed.closed in
        (elim (cases_Bool p.closed) [ inl done ↦ done | inr not_yet ↦ let none : [] ≡ closing_by o.end ∷ [] = rw not_yet at some in absurd (let long = ap length none in omega (arith, long)) ], omega (arith, told.few, long, length-take-le p.ops o.done told.few))),
  )

-- a number that counts once stands at one place
pub one_place : (outcomes : List Outcome) (tx i j : ℕ) (d : Outcome) → count_of tx outcomes ≡ 1 → i < length outcomes → j < length outcomes
    → (get_or outcomes i d).tx ≡ tx → (get_or outcomes j d).tx ≡ tx → i ≡ j
one_place outcomes tx i j d once low high one other = elim (cases_lt i j) [
  | inl lt ↦ absurd (before i j lt high one other)
  | inr le ↦ elim (cases_lt j i) [ inl lt ↦ absurd (before j i lt low other one) | inr same ↦ omega (arith, le, same) ]
]
  where
    counts : Outcome → ℕ
    counts o = cond (o.tx == tx) 1 0

    before : (i j : ℕ) → i < j → j < length outcomes → (get_or outcomes i d).tx ≡ tx → (get_or outcomes j d).tx ≡ tx → ⊥
    before i j lt within one other =
        let first = sum_by_more_le counts (take j outcomes) i d (let long = length-take-le j outcomes (omega (arith, within)) in omega (arith, lt, long)) in
        let second = sum_by_more_le counts outcomes j d within in
        let same = get_or-take j outcomes i d lt in
        let front : sum_by counts (take i (take j outcomes)) + counts (get_or (take j outcomes) i d) ≤ sum_by counts (take j outcomes) = first in
        let c : counts (get_or outcomes i d) ≡ 1 = ap (λ b. cond b 1 0) (eq-eqb _ _ one) in
        let e : counts (get_or outcomes j d) ≡ 1 = ap (λ b. cond b 1 0) (eq-eqb _ _ other) in
        omega (arith, first, second, ap counts same, c, e, once)
