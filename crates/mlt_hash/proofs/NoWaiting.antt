-- A narrow pass that splits never waits
use Rattle.std.proofs.Common.{◌≡◌, ℕ, true, false, Option, Some, None, is_some, refl, sym, ◌∙◌, subst, inl, inr, arith}
use Rattle.std.specs.FinMap as map
use Rattle.mlt_hash.proofs.Names.{cases_eq, false≢true, nat_tests, Mode, Exclusive, Page, mode_held, HasForm, Agrees, MayStep, LocalState, view_of, may_write, SplitFields, IsNextPage, TellsOfSplitting, WalkStep, WalkContext, IsSplitting, split_target, view_for, WalkAnswer, Pass}
use Rattle.mlt_page_locks.specs.Requests.{conflicts, is_against}
use Rattle.mlt_hash.proofs.{Passed.narrow_holds_next, StepsLeft.some_is_one}

against_is_held : (o : Option Mode) (mode : Mode) → is_against o mode ≡ true → is_some o ≡ true
against_is_held None mode against = absurd (false≢true against)
against_is_held (Some held) mode against = refl

-- nobody's lock stands against a page that is held exclusively
nobody_against : (m : LocalState) (q by : ℕ) → MayStep m → map.get (view_of m).modes q ≡ Some Exclusive → conflicts m.locks m.running.tx q Exclusive by ≡ true → ⊥
nobody_against m q by may held against =
    elim (cases_eq by m.running.tx) [
      | inl mine ↦ let none : conflicts m.locks m.running.tx q Exclusive by ≡ false = grind (arith, nat_tests) in false≢true (sym none ∙ against)
      | inr differ ↦
          let stands : is_against (mode_held m.locks by q) Exclusive ≡ true = grind (arith, nat_tests, against) in
          differ (sym (may.compatible m.running.tx by q (may_write m q held) (against_is_held (mode_held m.locks by q) Exclusive stands)))
    ]

-- **A narrow pass that splits never waits.**
pub narrow_never_waits : (context : WalkContext) (step : WalkStep) (value room_depth page by : ℕ) (clean : ℕ → Option Page) → MayStep step.old → IsSplitting context step.before (view_for context step.old) room_depth → step.before.pass ≡ Pass.Narrow
    → Agrees (view_for context step.old).seen clean → HasForm context.bits clean context.root → TellsOfSplitting context step value room_depth (WalkAnswer.Waiting page by) → ⊥
narrow_never_waits context step value room_depth page by clean may splits narrow agree form tells =
    let same : tells.0.0 ≡ splits.split = some_is_one tells.0.0 splits.split step.before.split tells.0.1 splits.split_is in
    let next : IsNextPage splits.split.phase (split_target context step.before room_depth) (view_for context step.old) page = subst (λ (s : SplitFields). IsNextPage s.phase (split_target context step.before room_depth) (view_for context step.old) page) same tells.0.2 in
    nobody_against step.old page by may (narrow_holds_next context step.before (view_for context step.old) room_depth page clean splits narrow agree form next) tells.1.has_it
