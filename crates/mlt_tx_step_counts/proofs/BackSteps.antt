-- The steps of an inverse, of an operation on one record or on two
use Rattle.std.proofs.Common.{◌≡◌, ◌⊎◌, List, [], ◌∷◌, ◌++◌, Option, None, Some, IsSome, ℕ, ◌≤◌, refl, sym, ap, subst, ◌∙◌, inl, inr, arith}
use Rattle.mlt_tx_step_counts.proofs.Names.{ObjOp, ObjReply, TakeBack, inverse_of, local, View, view_of, WalkContext, one_key, First, Owing, Wide, WideStage, AccessPath, One, Two, StepsOn, IsInFirst, OperationFields, started_for, Answer, At, Transaction, TellsAt, TellsOfTransaction, IsTakenBack, IsToTakeBack, AreOwnSteps, GoesThen, OwnStep, answers_of, context_at, view_in, with_answer}
use Rattle.mlt_object_base.specs.Undo.{Undo}
use Rattle.mlt_tx_operation.specs.{Answers.Waits, Operating.steps_by, Operating.steps_left}
use Rattle.mlt_tx.{specs.Steps.EndsBack, specs.Steps.InverseSteps, specs.Steps.inverse_from, specs.Transactions.StepsBack, specs.Transactions.tx_state_of, proofs.Backing.one_last}
use Rattle.mlt_tx_step_counts.proofs.{Answers.is_wait, Answers.then_after, PendingSteps.Goes, PendingSteps.Runner, PendingSteps.Stays, PendingSteps.not_both}

-- The abort takes this operation back, the last that stands: its inverse runs, or is to begin.
pub record Inverts (last : ObjOp × ObjReply) (o : OperationFields) (t : Transaction) : Type 0 where
  pub inverting : Option OperationFields
  pub undoing : t.at ≡ At.Undoing inverting
  pub front : List (ObjOp × ObjReply)
  pub entries : t.undo.entries ≡ front ++ last ∷ []
  pub begins : inverting ≡ None → IsSome (inverse_of last)
  pub is : inverse_from inverting last ≡ o
  pub first : IsInFirst o.access_path

-- an end of an inverse comes once its reply is told
ends_at_last : (inverting : Option OperationFields) (last : ObjOp × ObjReply) (o : OperationFields) → inverse_from inverting last ≡ o → (inverting ≡ None → IsSome (inverse_of last)) → o.reply ≡ None
    → (inverting ≡ None → inverse_of last ≡ None) → ((x : OperationFields) → inverting ≡ Some x → IsSome x.reply) → ⊥
ends_at_last None last o is begins untold without at_end = not_both (inverse_of last) (begins refl) (without refl)
ends_at_last (Some x) last o is begins untold without at_end = not_both x.reply (at_end x refl) (ap (λ (y : OperationFields). y.reply) is ∙ untold)

-- it goes on, in its first pass
record GoesBack (context : WalkContext) (last : ObjOp × ObjReply) (o : OperationFields) (t : Transaction) (own : OwnStep) : Type 0 where
  goes : Goes (one_key context) (Inverts last) o t own
  on : StepsOn (context_at (one_key context) own) (local t.subtx own.old.pages) (local own.after.subtx own.new.pages) o goes.next

-- it is at its end
record Ended (o : OperationFields) (own : OwnStep) : Type 0 where
  taken : IsTakenBack own.told
  told : o.reply ≡ None → ⊥

abbrev BackOutcome : WalkContext → ObjOp × ObjReply → OperationFields → Transaction → OwnStep → Type 0
BackOutcome context last o t own = Stays (Inverts last) o t own ⊎ GoesBack (one_key context) last o t own ⊎ Ended o own

module _ (context : WalkContext) (last : ObjOp × ObjReply) (o : OperationFields) (t : Transaction) (own : OwnStep) (inv : Inverts last o t) where
  -- where it takes a step, it runs then
  steps_on : (next : Option OperationFields) (Is : OperationFields → OperationFields → Type 0) → own.after.at ≡ At.Undoing next
      → (w : InverseSteps inv.inverting next t.undo own.after.undo own.old own.new Is)
      → Is o w.after × ((o' : OperationFields) → w.after ≡ o' → Inverts last o' own.after)
  steps_on next Is now_at w =
      let same : w.last ≡ last = one_last t.undo.entries w.front inv.front w.last last w.entries inv.entries in (
        subst (λ (x : OperationFields). Is x w.after) (ap (inverse_from inv.inverting) same ∙ inv.is) w.tells,
        λ o' is. record {
          inverting = Some w.after;
          undoing = now_at ∙ ap At.Undoing w.is;
          front = inv.front;
          entries = ap (λ (u : Undo). u.entries) w.rest.undo_kept ∙ inv.entries;
          begins = λ none. cc;
          is = is;
          first = subst (λ (x : OperationFields). IsInFirst x.access_path) is w.inverts.first;
        },
      )

  ended : (told : Answer) (next : Option OperationFields) → own.told ≡ told → IsTakenBack told
      → EndsBack inv.inverting next (tx_state_of t own.old) (tx_state_of own.after own.new) told → BackOutcome (one_key context) last o t own
  ended told next is taken e = inr (inr (record {
    taken = subst IsTakenBack (sym is) taken;
    told = λ untold. ends_at_last inv.inverting last o inv.is inv.begins untold (λ none. e.without inv.front last none inv.entries) (λ x some. (e.at_end x some).0);
  }))

  by_answer : (told : Answer) → own.told ≡ told → StepsBack (context_at (one_key context) own) inv.inverting t own.after own.old own.new told → BackOutcome (one_key context) last o t own
  by_answer Answer.Going is s =
      let w = steps_on s.next (StepsOn (context_at (one_key context) own) (local t.subtx own.old.pages) (local own.after.subtx own.new.pages)) s.now_at s.tells in
      inr (inl (record { goes = record { going = is; next = s.tells.after; runs = w.1 s.tells.after refl; tells = inl w.0 }; on = w.0 }))
  by_answer (Answer.Waiting page by) is s =
      let w = steps_on s.next (λ x x'. Waits (context_at (one_key context) own) (local t.subtx own.old.pages) (local own.after.subtx own.new.pages) x x' page by) s.now_at s.tells in
      inl (record { waits = is_wait own.told page by is; runs = w.1 o w.0.stays; same = ap view_of w.0.pages })
  by_answer Answer.Undone is s = ended Answer.Undone s.next is tt s.tells
  by_answer Answer.Aborted is s = ended Answer.Aborted s.next is tt s.tells
  by_answer other is s = absurd s.tells

  back_step : TellsOfTransaction (context_at (one_key context) own) t own.after own.old own.new own.told → BackOutcome (one_key context) last o t own
  back_step tells = by_answer own.told refl (subst (λ (a : At). TellsAt a (context_at (one_key context) own) t own.after own.old own.new own.told) inv.undoing tells)

taken_then : (told : Answer) (rest : List Answer) → IsTakenBack told → GoesThen 0 IsTakenBack (with_answer told rest)
taken_then Answer.Undone rest is = tt
taken_then Answer.Aborted rest is = tt
taken_then other rest is = absurd is

-- a step is left, at least, of each
some_left : (path : AccessPath) (root : ℕ) (reply : Option ObjReply) (view : View) → 1 ≤ steps_by path root reply view
some_left (One walk) root reply view = omega arith
some_left (Two two_records) root (Some told) view = omega arith
some_left (Two (First pair)) root None view = omega arith
some_left (Two (Owing pair told)) root None view = omega arith
some_left (Two (Wide WideStage.Own walk)) root None view = omega arith
some_left (Two (Wide WideStage.Size walk)) root None view = omega arith

last_steps : (context : WalkContext) (last : ObjOp × ObjReply) (o : OperationFields) (t : Transaction) (seen : View) (steps : List OwnStep) → Inverts last o t → steps_left context.root o seen ≡ 1
    → AreOwnSteps (one_key context) t seen steps → GoesThen 0 IsTakenBack (answers_of steps)
last_steps context last o t seen [] inv left own = tt
last_steps context last o t seen (step ∷ more) inv left own = elim (back_step (one_key context) last o t step inv own.1) [
  | inl stays ↦ then_after step.told 0 0 IsTakenBack (answers_of more) (stays.waits 0)
      (last_steps (one_key context) last o step.after (view_in step.after step.new) more stays.runs (ap (steps_left context.root o) (stays.same ∙ own.0) ∙ left) own.2)
  | inr (inl back) ↦
      let some = some_left back.goes.next.access_path context.root back.goes.next.reply (view_in step.after step.new) in
      let was : steps_left context.root o (view_in t step.old) ≡ 1 = ap (steps_left context.root o) own.0 ∙ left in
      absurd (omega (arith, back.on.fewer, some, was))
  | inr (inr end) ↦ taken_then step.told (answers_of more) end.taken
]

-- **The steps of an inverse.**
pub inverse_runner : (context : WalkContext) (last : ObjOp × ObjReply) → Runner (one_key context) (Inverts last) IsTakenBack
inverse_runner context last = record {
  step = λ o t own inv untold tells. elim (back_step (one_key context) last o t own inv tells) [
    | inl stays ↦ inl stays
    | inr (inl back) ↦ inr (inl back.goes)
    | inr (inr end) ↦ absurd (end.told untold)
  ];
  ends = λ o t seen steps inv told left own. last_steps (one_key context) last o t seen steps inv left own;
}

-- the inverse is to begin
pub to_begin : (t : Transaction) (last : ObjOp × ObjReply) (o : OperationFields) → IsToTakeBack t last → IsSome (inverse_of last) → started_for (TakeBack last) ≡ o
    → IsInFirst o.access_path → Inverts last o t
to_begin t last o to some is first = record { inverting = None; undoing = to.undoing; front = to.front; entries = to.entries; begins = λ none. some; is = is; first = first }

-- one without an inverse
module _ (context : WalkContext) (t : Transaction) (last : ObjOp × ObjReply) (step : OwnStep) (to : IsToTakeBack t last) (none : inverse_of last ≡ None) where
  none_begins : {A : Type 0} (next : Option OperationFields) (Is : OperationFields → OperationFields → Type 0) → InverseSteps None next t.undo step.after.undo step.old step.new Is → A
  none_begins next Is w = not_both (inverse_of w.last) (w.begins refl) (ap inverse_of (one_last t.undo.entries w.front to.front w.last last w.entries to.entries) ∙ none)

  at_once : (told : Answer) → StepsBack (context_at (one_key context) step) None t step.after step.old step.new told → IsTakenBack told
  at_once Answer.Undone s = tt
  at_once Answer.Aborted s = tt
  at_once Answer.Going s = none_begins s.next _ s.tells
  at_once (Answer.Waiting page by) s = none_begins s.next _ s.tells
  at_once other s = absurd s.tells

pub without_inverse : (context : WalkContext) (t : Transaction) (last : ObjOp × ObjReply) (seen : View) (steps : List OwnStep) → IsToTakeBack t last → AreOwnSteps (one_key context) t seen steps → inverse_of last ≡ None → GoesThen 0 IsTakenBack (answers_of steps)
without_inverse context t last seen [] to own none = tt
without_inverse context t last seen (step ∷ more) to own none =
    taken_then step.told (answers_of more) (at_once (one_key context) t last step to none step.told
    (subst (λ (a : At). TellsAt a (context_at (one_key context) step) t step.after step.old step.new step.told) to.undoing own.1))
