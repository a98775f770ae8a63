-- What desks see of the history.
use Rattle.std.proofs.Common.{◌≡◌, ◌∙◌, ℕ, List, [], ◌∷◌, ◌++◌, length, sym, ap, subst, refl, arith, Contains, append_assoc, append-nil, length-append}
use Rattle.std.proofs.lemmas.List.Elements.{Contains-append_right}
use Rattle.mlt_work_desk.proofs.Names.{Refusal, ObjOp, ObjReply, TraceItem, Answer, Event, Told, Replied, Aborted, DeskCall, StartsWith, EndsWithOp, SeesAnswer, SeesEvent}
use Rattle.mlt_script_serial.specs.declared.call.DeskAnswer.{DeskAnswer, TheVariants.Begun, TheVariants.Committed, TheVariants.Refused}
use Rattle.mlt_work_desk.specs.Holds.{HaveAnswer}

-- the last ones of two lists that are the same
same_last : {X : Type 0} (xs ys : List X) (x y : X) → xs ++ x ∷ [] ≡ ys ++ y ∷ [] → x ≡ y
same_last [] [] x y is = cc
same_last [] (b ∷ ys) x y is = let long = ap length is in absurd (omega (arith, length-append ys (y ∷ [])))
same_last (a ∷ xs) [] x y is = let long = ap length is in absurd (omega (arith, length-append xs (x ∷ [])))
same_last (a ∷ xs) (b ∷ ys) x y is = same_last xs ys x y cc

last_of : (items : List TraceItem) (item : TraceItem) → Contains (items ++ item ∷ []) item
last_of items item = Contains-append_right items (item ∷ []) item (0, omega arith, refl)

-- a desk has seen what it had seen
pub sees_more : (before : List TraceItem) (e : Event) (t : Told) (after : List TraceItem) → SeesEvent before e t after → StartsWith after before
sees_more before e t after sees = (sees.between ++ sees.here, sees.whole ∙ append_assoc before sees.between sees.here)

with_item : (before : List TraceItem) (e : Event) (t : Told) (after : List TraceItem) (sees : SeesEvent before e t after) (item : TraceItem) → sees.here ≡ item ∷ []
    → (more : List TraceItem) × (after ≡ before ++ more) × Contains more item
unfolding sees_more
with_item before e t after sees item is =
    let more = sees_more before e t after sees in
    (more.0, more.1, subst (λ xs. Contains (sees.between ++ xs) item) (sym is) (last_of sees.between item))

op_of : TraceItem → ObjOp → ObjOp
op_of (TraceItem.Op tx done) other = done.0
op_of item other = other

op_is : (tx last : ℕ) (op asked : ObjOp) (reply given : ObjReply) → TraceItem.Op tx (op, reply) ≡ TraceItem.Op last (asked, given) → op ≡ asked
unfolding op_of
op_is tx last op asked reply given is = ap (λ item. op_of item asked) is

module _ (before : List TraceItem) where
  -- what it answers to a begin, a commit and an operation
  pub sees_begun : (tx : ℕ) (after : List TraceItem) → SeesEvent before Event.Begin (Told.Begun tx) after → SeesAnswer before DeskCall.Begin (Begun tx) after
  sees_begun tx after sees = let one = with_item before _ _ after sees (TraceItem.Begin tx) sees.adds in record { more = one.0; whole = one.1; have = one.2 }

  pub sees_committed : (tx number : ℕ) (after : List TraceItem) → SeesEvent before (Event.Commit tx) (Told.Committed number) after
      → SeesAnswer before (DeskCall.Commit tx) (Committed number) after
  sees_committed tx number after sees = let one = with_item before _ _ after sees (TraceItem.Commit tx number) sees.adds in record { more = one.0; whole = one.1; have = one.2 }

  pub sees_replied : (tx : ℕ) (asked : ObjOp) (reply : ObjReply) (after : List TraceItem) → EndsWithOp after asked
      → SeesEvent before (Event.Step tx) (Told.Answered (Answer.Done reply)) after → SeesAnswer before (DeskCall.Operation tx asked) (Replied reply) after
  sees_replied tx asked reply after ends sees =
      let op = sees.adds.0 in
      let here : after ≡ (before ++ sees.between) ++ TraceItem.Op tx (op, reply) ∷ [] = sees.whole ∙ ap (λ xs. (before ++ sees.between) ++ xs) sees.adds.2 in
      let last = same_last (before ++ sees.between) ends.front (TraceItem.Op tx (op, reply)) ends.last (sym here ∙ ends.whole) in
      let same : op ≡ asked = op_is tx ends.tells.0 op asked reply ends.tells.1 (last ∙ ends.tells.2) in
      let one = with_item before _ _ after sees (TraceItem.Op tx (asked, reply)) (sees.adds.2 ∙ ap (λ o. TraceItem.Op tx (o, reply) ∷ []) same) in
      record { more = one.0; whole = one.1; have = one.2 }

  -- a refusal stands nowhere
  have_refusal : (items : List TraceItem) (c : DeskCall) (reason : Refusal) → HaveAnswer items c (Refused reason)
  have_refusal items DeskCall.Begin reason = tt
  have_refusal items (DeskCall.Operation tx op) reason = tt
  have_refusal items (DeskCall.Commit tx) reason = tt
  have_refusal items (DeskCall.Abort tx) reason = tt

  pub sees_refused : (c : DeskCall) (reason : Refusal) (after : List TraceItem) → StartsWith after before → SeesAnswer before c (Refused reason) after
  sees_refused c reason after more = record { more = more.0; whole = more.1; have = have_refusal more.0 c reason }

  pub sees_abort : (tx : ℕ) (after : List TraceItem) → StartsWith after before → SeesAnswer before (DeskCall.Abort tx) Aborted after
  sees_abort tx after more = record { more = more.0; whole = more.1; have = tt }

  -- what stands in the last items stands in more of them
  pub have_later : (items : List TraceItem) (c : DeskCall) (a : DeskAnswer) → HaveAnswer items c a → HaveAnswer (before ++ items) c a
  have_later items DeskCall.Begin (Begun tx) have = Contains-append_right before items (TraceItem.Begin tx) have
  have_later items DeskCall.Begin (Replied reply) have = tt
  have_later items DeskCall.Begin (Committed number) have = tt
  have_later items DeskCall.Begin Aborted have = tt
  have_later items DeskCall.Begin (Refused reason) have = tt
  have_later items (DeskCall.Operation tx op) (Begun x) have = tt
  have_later items (DeskCall.Operation tx op) (Replied reply) have = Contains-append_right before items (TraceItem.Op tx (op, reply)) have
  have_later items (DeskCall.Operation tx op) (Committed number) have = tt
  have_later items (DeskCall.Operation tx op) Aborted have = tt
  have_later items (DeskCall.Operation tx op) (Refused reason) have = tt
  have_later items (DeskCall.Commit tx) (Begun x) have = tt
  have_later items (DeskCall.Commit tx) (Replied reply) have = tt
  have_later items (DeskCall.Commit tx) (Committed number) have = Contains-append_right before items (TraceItem.Commit tx number) have
  have_later items (DeskCall.Commit tx) Aborted have = tt
  have_later items (DeskCall.Commit tx) (Refused reason) have = tt
  have_later items (DeskCall.Abort tx) (Begun x) have = tt
  have_later items (DeskCall.Abort tx) (Replied reply) have = tt
  have_later items (DeskCall.Abort tx) (Committed number) have = tt
  have_later items (DeskCall.Abort tx) Aborted have = tt
  have_later items (DeskCall.Abort tx) (Refused reason) have = tt

-- and after what was seen before
pub sees_later : (first before : List TraceItem) (c : DeskCall) (a : DeskAnswer) (after : List TraceItem) → StartsWith before first
    → SeesAnswer before c a after → SeesAnswer first c a after
sees_later first before c a after more sees = record {
  more = more.0 ++ sees.more;
  whole = sees.whole ∙ ap (λ xs. xs ++ sees.more) more.1 ∙ append_assoc first more.0 sees.more;
  have = have_later more.0 sees.more c a sees.have;
}

-- what was seen before it was seen before that
pub more_than : (first before after : List TraceItem) → StartsWith after before → StartsWith before first → StartsWith after first
more_than first before after (more, is) (between, was) = (between ++ more, (is ∙ ap (λ xs. xs ++ more) was ∙ append_assoc first between more))

pub no_more : (before after : List TraceItem) → after ≡ before → StartsWith after before
no_more before after same = ([], same ∙ sym (append-nil before))
