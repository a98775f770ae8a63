-- What a desk makes, and what the waits among that spend.
use Rattle.std.proofs.Common.{◌≡◌, ◌∙◌, inl, inr, ◌+◌, ◌++◌, ℕ, List, [], ◌∷◌, All, Bool, true, false, cond, ap, arith, refl, append_assoc, append-nil, length-append, sym}
use Rattle.std.proofs.lemmas.List.{Elements.All-append, Elements.All-cons, Elements.All-nil, Sums.sum_by-append}
use Rattle.mlt_work_desk.proofs.Names.{Answer, Event, Told, IsToldTo, StartsWith}
use Rattle.mlt_work_waits.specs.Gates.{is_to_wait}
use Rattle.mlt_work_desk.specs.{Acts.IsStepOf, Tries.SpendsByWaits, Tries.StepsByTries, Tries.StepsWithoutWait, Tries.tries_spent, Tries.waits_in, Views.DeskView, Views.HasMade, declared.tries.TriesLeft.TriesLeft}
use Rattle.mlt_work_desk.proofs.Subsequences.{both_parts}

-- nothing, and one thing after another
pub made_nothing : (a b : DeskView) → b.past ≡ a.past → b.events ≡ a.events → HasMade a b []
made_nothing a b past events = record {
  added = [];
  whole = ap (λ p. p.acts) past ∙ sym (append-nil a.past.acts);
  among = tt;
  counted = omega (arith, events);
}

pub made_from : (a from b : DeskView) (own : List (Event × Told)) → from.past ≡ a.past → from.events ≡ a.events → HasMade from b own → HasMade a b own
made_from a from b own past events made = record {
  added = made.added;
  whole = made.whole ∙ ap (λ p. p.acts ++ made.added) past;
  among = made.among;
  counted = omega (arith, made.counted, events);
}

pub made_more : (a b c : DeskView) (one more : List (Event × Told)) → HasMade a b one → HasMade b c more → HasMade a c (one ++ more)
made_more a b c one more first then = record {
  added = first.added ++ then.added;
  whole = then.whole ∙ ap (λ l. l ++ then.added) first.whole ∙ append_assoc a.past.acts first.added then.added;
  among = both_parts one more first.added then.added first.among then.among;
  counted = omega (arith, first.counted, then.counted, length-append one more);
}

-- one event, which was told this
pub has_made : (a b : DeskView) (e : Event) (t : Told) (past : List (Event × Told)) → StartsWith past a.past.acts → b.past.acts ≡ past ++ (e, t) ∷ []
    → b.events ≡ a.events + 1 → HasMade a b ((e, t) ∷ [])
has_made a b e t past (between, is) acts events = record {
  added = between ++ (e, t) ∷ [];
  whole = acts ∙ ap (λ l. l ++ (e, t) ∷ []) is ∙ append_assoc a.past.acts between ((e, t) ∷ []);
  among = (between, [], refl, tt);
  counted = events;
}

waits_more : (one more : List (Event × Told)) → waits_in (one ++ more) ≡ waits_in one + waits_in more
waits_more one more = sum_by-append (λ act. cond (is_to_wait act.1) 1 0) one more

waits_once : (e : Event) (t : Told) (b : Bool) → is_to_wait t ≡ b → waits_in ((e, t) ∷ []) ≡ cond b 1 0
waits_once e t b is = let one : cond (is_to_wait t) 1 0 ≡ cond b 1 0 = ap {B = ℕ} (λ x. cond x 1 0) is in omega (arith, one)

-- nothing, and one step
pub without_steps : (tx : ℕ) (a b : DeskView) → b.past ≡ a.past → b.events ≡ a.events → StepsWithoutWait tx a b
without_steps tx a b past events = record { own = []; made = made_nothing a b past events; each = All-nil (IsStepOf tx); none = refl }

pub cancel_alone : (tx : ℕ) (a b : DeskView) (t : Told) → is_to_wait t ≡ false → HasMade a b ((Event.Cancel tx, t) ∷ []) → StepsWithoutWait tx a b
cancel_alone tx a b t not made = record {
  own = (Event.Cancel tx, t) ∷ [];
  made = made;
  each = All-cons (IsStepOf tx) (Event.Cancel tx, t) [] (inr refl) (All-nil (IsStepOf tx));
  none = waits_once (Event.Cancel tx) t false not;
}

-- no cancelled operation is to wait
pub cancel_waits_not : {P : Type 0} (bits_of : P → ℕ → ℕ) (tx : ℕ) (t : Told) → IsToldTo bits_of (Event.Cancel tx) t → is_to_wait t ≡ false
cancel_waits_not bits_of tx (Told.Answered (Answer.Waiting page by)) told = absurd told.meets
cancel_waits_not bits_of tx (Told.Answered (Answer.Blocked by)) told = absurd told.meets
cancel_waits_not bits_of tx other told = refl

-- one step
one_step : (tx : ℕ) (t : Told) → All (IsStepOf tx) ((Event.Step tx, t) ∷ [])
one_step tx t = All-cons (IsStepOf tx) (Event.Step tx, t) [] (inl refl) (All-nil (IsStepOf tx))

-- no try is spent
pub spends_nothing : (tx : ℕ) (a : DeskView) → StepsByTries tx a a
spends_nothing tx a = record { own = []; made = made_nothing a a refl refl; each = All-nil (IsStepOf tx); spends = record { given = refl; left = omega arith } }

pub spends_none : (tx : ℕ) (a from b : DeskView) (t : Told) (patient : Bool) → from.past ≡ a.past → from.events ≡ a.events → is_to_wait t ≡ false
    → HasMade from b ((Event.Step tx, t) ∷ []) → b.tries ≡ record a.tries { is_patient = patient } → StepsByTries tx a b
spends_none tx a from b t patient past events not made same =
    let left = ap (λ (x : TriesLeft). x.left) same in
    record {
      own = (Event.Step tx, t) ∷ [];
      made = made_from a from b ((Event.Step tx, t) ∷ []) past events made;
      each = one_step tx t;
      spends = record { given = ap (λ (x : TriesLeft). x.given) same; left = omega (arith, left, waits_once (Event.Step tx) t false not) };
    }

-- one is
pub spends_one : (tx : ℕ) (a from b c : DeskView) (t : Told) (patient : Bool) → from.past ≡ a.past → from.events ≡ a.events → is_to_wait t ≡ true
    → HasMade from b ((Event.Step tx, t) ∷ []) → b.tries ≡ record a.tries { is_patient = patient } → StepsWithoutWait tx b c → c.tries ≡ tries_spent b.tries
    → StepsByTries tx a c
spends_one tx a from b c t patient past events waits made same then spent =
    let all = spent ∙ ap tries_spent same in
    let left = ap (λ (x : TriesLeft). x.left) all in
    let one = (Event.Step tx, t) ∷ [] in
    record {
      own = one ++ then.own;
      made = made_more a b c one then.own (made_from a from b one past events made) then.made;
      each = All-append (IsStepOf tx) one then.own (one_step tx t) then.each;
      spends = record {
        given = ap (λ (x : TriesLeft). x.given) all;
        left = omega (arith, left, waits_more one then.own, waits_once (Event.Step tx) t true waits, then.none);
      };
    }

-- and more
pub spends_more : (tx : ℕ) (a b c : DeskView) → StepsByTries tx a b → StepsByTries tx b c → StepsByTries tx a c
spends_more tx a b c some more = record {
  own = some.own ++ more.own;
  made = made_more a b c some.own more.own some.made more.made;
  each = All-append (IsStepOf tx) some.own more.own some.each more.each;
  spends = record { given = more.spends.given ∙ some.spends.given; left = omega (arith, some.spends.left, more.spends.left, waits_more some.own more.own) };
}

-- behind an event that was not told to wait
pub spends_behind : (before mid after : TriesLeft) (e : Event) (t : Told) (own : List (Event × Told)) → is_to_wait t ≡ false → mid ≡ before
    → SpendsByWaits mid after own → SpendsByWaits before after ((e, t) ∷ own)
spends_behind before mid after e t own not same spends =
    let left = ap (λ (x : TriesLeft). x.left) same in
    record {
      given = spends.given ∙ ap (λ (x : TriesLeft). x.given) same;
      left = omega (arith, spends.left, left, waits_more ((e, t) ∷ []) own, waits_once e t false not);
    }

pub spends_before : (before after : TriesLeft) (e : Event) (t : Told) → is_to_wait t ≡ false → after ≡ before → SpendsByWaits before after ((e, t) ∷ [])
spends_before before after e t not same =
    let left = ap (λ (x : TriesLeft). x.left) same in
    record { given = ap (λ (x : TriesLeft). x.given) same; left = omega (arith, left, waits_once e t false not) }
