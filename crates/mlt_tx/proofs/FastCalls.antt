-- Steps of one transaction at once, in the table of open ones
use Rattle.std.proofs.Common.{◌≡◌, ℕ, None, Option, Some, refl, sym, ap, subst, ◌∙◌, inl, inr, arith, Err, IfOk, Ok, Result}
use Rattle.std.specs.FinMap as map
use Rattle.mlt_tx.proofs.Names.{cases_eq, nat_tests, get_inserted, same_entries, ObjOp, ObjReply, WalkContext, SharedState, Transaction, ChangesOne, Table}
use Rattle.mlt_page_subtx.specs.Images.{Running}
use Rattle.mlt_event.specs.declared.answer.Answer.{Answer}
use Rattle.mlt_tx.specs.{Fast.CallsFast, Fast.StepsFast, Fast.TakesStep, Tables.CallsOneFast, Tables.StepsOne, Tables.StepsOneFast}

inserted_here : (table : Table) (tx : ℕ) (t : Transaction) → map.get (map.insert table tx t) tx ≡ Some t
inserted_here table tx t = grind (arith, nat_tests, get_inserted table tx t tx)

inserted_twice : (table : Table) (tx : ℕ) (t u : Transaction) → map.insert (map.insert table tx t) tx u ≡ map.insert table tx u
inserted_twice table tx t u =
    same_entries (map.insert (map.insert table tx t) tx u) (map.insert table tx u) (λ q.
    elim (cases_eq q tx) [
      | inl own ↦ grind (arith, nat_tests, get_inserted (map.insert table tx t) tx u q, get_inserted table tx u q, own)
      | inr other ↦ grind (arith, nat_tests, get_inserted (map.insert table tx t) tx u q, get_inserted table tx u q, get_inserted table tx t q, other)
    ])

-- a step of the transaction of this number, in its table
steps_one : (context : ℕ → WalkContext) (tx : ℕ) (table : Table) (before after : Transaction) (old new : SharedState) (told : Answer) → map.get table tx ≡ Some before
    → TakesStep (context before.subtx.tx) before after old new told → StepsOne context tx table (map.insert table tx after) old new told
steps_one context tx table before after old new told was step = record {
  changes = record { before = before; after = after; was = was; is = refl };
  tells = step.tells;
}

-- **Four steps of the transaction are four steps of its table.**
pub steps_one_fast : (context : ℕ → WalkContext) (tx : ℕ) (old new : Table) (shared shared' : SharedState) (reply : ObjReply) (changes : ChangesOne tx old new)
    → StepsFast (context changes.before.subtx.tx) changes.before changes.after shared shared' reply → StepsOneFast context tx old new shared shared' reply
steps_one_fast context tx old new shared shared' reply changes steps =
    let headed : Table = map.insert old tx steps.headed in
    let placed : Table = map.insert headed tx steps.placed in
    let told : Table = map.insert placed tx steps.told in
    let number : ℕ = changes.before.subtx.tx in
    let at_header : steps.headed.subtx.tx ≡ number = steps.first.number in
    let at_directory : steps.placed.subtx.tx ≡ number = steps.second.number ∙ at_header in
    let at_bucket : steps.told.subtx.tx ≡ number = steps.third.number ∙ at_directory in
    let last : map.insert told tx changes.after ≡ new =
    inserted_twice placed tx steps.told changes.after ∙ inserted_twice headed tx steps.placed changes.after ∙ inserted_twice old tx steps.headed changes.after ∙ sym changes.is in
    record {
      headed = headed;
      placed = placed;
      told = told;
      with_header = steps.with_header;
      with_directory = steps.with_directory;
      with_bucket = steps.with_bucket;
      first = steps_one context tx old changes.before steps.headed shared steps.with_header Answer.Going changes.was steps.first;
      second =
          steps_one context tx headed steps.headed steps.placed steps.with_header steps.with_directory Answer.Going (inserted_here old tx steps.headed)
          (subst (λ (n : ℕ). TakesStep (context n) steps.headed steps.placed steps.with_header steps.with_directory Answer.Going) (sym at_header) steps.second);
      third =
          steps_one context tx placed steps.placed steps.told steps.with_directory steps.with_bucket Answer.Going (inserted_here headed tx steps.placed)
          (subst (λ (n : ℕ). TakesStep (context n) steps.placed steps.told steps.with_directory steps.with_bucket Answer.Going) (sym at_directory) steps.third);
      ends =
          subst (λ (table : Table). StepsOne context tx told table steps.with_bucket shared' (Answer.Done reply)) last
          (steps_one context tx told steps.told changes.after steps.with_bucket shared' (Answer.Done reply) (inserted_here placed tx steps.told)
          (subst (λ (n : ℕ). TakesStep (context n) steps.told changes.after steps.with_bucket shared' (Answer.Done reply)) (sym at_bucket) steps.ends));
    }

-- **A call of the transaction, and its steps, are those of its table.**
calls_one_fast : (context : ℕ → WalkContext) (tx : ℕ) (op : ObjOp) (old new : Table) (shared shared' : SharedState) (told : Option ObjReply) (changes : ChangesOne tx old new)
    → CallsFast told (context changes.before.subtx.tx) op changes.before changes.after shared shared' → CallsOneFast told context tx op old new shared shared'
calls_one_fast context tx op old new shared shared' None changes calls = record { changes = changes; tells = calls }
calls_one_fast context tx op old new shared shared' (Some reply) changes does =
    let called : Table = map.insert old tx does.called in
    let again : ChangesOne tx called new = record {
      before = does.called;
      after = changes.after;
      was = inserted_here old tx does.called;
      is = changes.is ∙ sym (inserted_twice old tx does.called changes.after);
    } in
    let number : does.called.subtx.tx ≡ changes.before.subtx.tx = ap (λ (r : Running). r.tx) does.calls.makes.subtx_kept in
    record {
      called = called;
      with_room = does.with_room;
      calls = record { changes = record { before = changes.before; after = does.called; was = changes.was; is = refl }; tells = does.calls };
      steps =
          steps_one_fast context tx called new does.with_room shared' reply again
          (subst (λ (n : ℕ). StepsFast (context n) does.called changes.after does.with_room shared' reply) (sym number) does.steps);
    }

-- the same of each answer
pub calls_if_ok : {E : Type 0} (context : ℕ → WalkContext) (tx : ℕ) (op : ObjOp) (old new : Table) (shared shared' : SharedState) (result : Result (Option ObjReply) E) (changes : ChangesOne tx old new)
    → IfOk result (λ told. CallsFast told (context changes.before.subtx.tx) op changes.before changes.after shared shared') → IfOk result (λ told. CallsOneFast told context tx op old new shared shared')
calls_if_ok context tx op old new shared shared' (Ok told) changes calls = calls_one_fast context tx op old new shared shared' told changes calls
calls_if_ok context tx op old new shared shared' (Err reason) changes calls = tt
