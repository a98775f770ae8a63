use Rattle.std.proofs.Common.{rules, ◌≡◌, ◌≢◌, ◌∙◌, ℕ, length, false, true, ap, sym, nat_cmp}
use Rattle.std.proofs.lemmas.Bool.{false≢true}
use Rattle.std.specs.FinSet as set
use Rattle.mlt_order.specs.Histories.Stage.{Running}
use Rattle.mlt_trace.specs.Numbers.{begin_count, commit_count}
use Rattle.mlt_trace_check.specs.Traces.{told}
use Rattle.mlt_serve_session.specs.Tallies.{commits_told}
use Rattle.mlt_serve.proofs.Closing.{have_closes, numbers_agree}
use Rattle.mlt_serve.proofs.tallying.tally_of.Goals as goal

pub returns-clause-numbers : goal.returns-clause-numbers
returns-clause-numbers g c =
    let items = c.args.manager.now.shared.history.items in
    let outcomes = c.args.gathered.outcomes.told.items in
    let short : c.args.gathered.is_short ≡ false = search rules in
    let counted : length outcomes ≡ c.args.manager.now.begun = search rules in
    let begun : c.args.manager.now.begun ≡ begin_count items = c.keeps_its_invariant.ensures.sound.count in
    numbers_agree items outcomes c.keeps_a_placed_history.ensures.begun (c.requires.begun short) (counted ∙ begun)

pub returns-clause-closes : goal.returns-clause-closes
returns-clause-closes g c =
    let items = c.args.manager.now.shared.history.items in
    let outcomes = c.args.gathered.outcomes.told.items in
    let active = c.args.manager.now.active in
    let short : c.args.gathered.is_short ≡ false = search rules in
    let counted : length outcomes ≡ c.args.manager.now.begun = search rules in
    let begun : c.args.manager.now.begun ≡ begin_count items = c.keeps_its_invariant.ensures.sound.count in
    let commits_counted : commits_told outcomes ≡ c.args.manager.now.commits = search rules in
    let commits : c.args.manager.now.commits ≡ commit_count items = c.keeps_its_invariant.ensures.limits.counted in
    let none : set.len active ≡ 0 = search rules in
    let none_runs : (tx : ℕ) → (told items).stage tx ≢ Running = λ tx runs.
    let has : set.contains active tx ≡ true = (c.keeps_its_promises.ensures.history.in_history tx).1 runs in
    let has_not : set.contains active tx ≡ false = ap (λ (s : set.FinSet nat_cmp). set.contains s tx) (set.empty_of_len active none) ∙ set.contains-empty nat_cmp tx in
    absurd (false≢true (sym has_not ∙ has)) in
    have_closes items outcomes c.keeps_a_placed_history.ensures.begun (c.requires.begun short) (counted ∙ begun) (c.requires.told short) (commits_counted ∙ commits) none_runs
