use Rattle.std.proofs.Common.{◌≡◌, ℕ, sym, ap, subst, ◌∙◌}
use Rattle.mlt_hash_pair.proofs.Names.{LocalState, local, IsUnderWay, MayFind, PairFields, mode_next, page_next, next_mode, next_page, descent_after, TellsOfStep}
use Rattle.mlt_hash_pair.proofs.{Finding.pair_next_there, Finding.reads_small, Finding.tells, pair.Pair.advance.Given.Over, pair.Pair.advance.Goals.After-next_mode}
use Rattle.mlt_hash_pair.proofs.pair.Pair.advance.Goals as goal

-- the pair, its page and its mode
abbrev pair : (g : Over) → After-next_mode g → PairFields
pair g c = record { left = c.self.inside.left; right = c.self.inside.right; left_descent = c.self.inside.left_descent; right_descent = c.self.inside.right_descent; owed = c.self.inside.owed }

abbrev bits : (g : Over) → After-next_mode g → ℕ → ℕ
bits g c = g.P.Pseudo.bits_of c.args.root.now.pseudo

abbrev before : (g : Over) → After-next_mode g → LocalState
before g c = local c.args.subtx.now c.args.pages.now

ready : (g : Over) (c : After-next_mode g) → MayFind (bits g c) c.args.root.now.page (before g c) (pair g c)
ready g c = subst (MayFind (bits g c) c.args.root.now.page (before g c)) (sym c.self.view_is) c.requires.ready

under : (g : Over) (c : After-next_mode g) → IsUnderWay (pair g c)
under g c = subst IsUnderWay (sym c.self.view_is) c.requires.under_way

number_is : (g : Over) (c : After-next_mode g) → c.next_page-number.result ≡ page_next c.args.root.now.page (pair g c)
number_is g c = c.next_page-number.ensures ∙ ap (next_page c.args.root.now.page) c.first_way-next.ensures

mode_is : (g : Over) (c : After-next_mode g) → c.next_mode.result ≡ mode_next (pair g c)
mode_is g c = c.next_mode.ensures ∙ ap next_mode c.first_way-next.ensures

pub lock-requires-clause-there : goal.lock-requires-clause-there
lock-requires-clause-there g c = pair_next_there (bits g c) c.args.root.now.page (before g c) (pair g c) (ready g c) (under g c) c.next_page-number.result (number_is g c)

pub after-self-inside-requires-clause-small : goal.after-self-inside-requires-clause-small
after-self-inside-requires-clause-small g c =
    let s = (goal.at.after-self-inside-requires-clause-small g c).After-next_mode in
    reads_small (bits g s) s.args.root.now.page (before g s) (pair g s) (ready g s) (under g s) (local c.args.subtx.now c.lock.new.pages) s.next_page-number.result s.next_mode.result (number_is g s) (mode_is g s) c.read_held-page.result.now c.in_default.ensures.locks c.lock.ensures.leaves c.in_default.ensures.view c.read_held-page.ensures.reads

pub after-self-inside-requires-2-clause-small : goal.after-self-inside-requires-2-clause-small
after-self-inside-requires-2-clause-small g c =
    let s = (goal.at.after-self-inside-requires-2-clause-small g c).After-next_mode in
    reads_small (bits g s) s.args.root.now.page (before g s) (pair g s) (ready g s) (under g s) (local c.args.subtx.now c.lock.new.pages) s.next_page-number.result s.next_mode.result (number_is g s) (mode_is g s) c.read_held-page.result.now c.in_default.ensures.locks c.lock.ensures.leaves c.in_default.ensures.view c.read_held-page.ensures.reads

pub returns-clause-tells : goal.returns-clause-tells
returns-clause-tells g c =
    let s = (goal.at.returns-clause-tells g c).After-next_mode in
    let after : LocalState = local c.args.subtx.now c.lock.new.pages in
    let read = c.read_held-page.result.now in
    let left : c.after-self-inside.result ≡ descent_after (bits g s) s.args.root.now.page (pair g s).left (pair g s).left_descent (page_next s.args.root.now.page (pair g s)) read = c.after-self-inside.ensures ∙ ap (λ n. descent_after (bits g s) s.args.root.now.page (pair g s).left (pair g s).left_descent n read) (number_is g s) in
    let right : c.after-self-inside-2.result ≡ descent_after (bits g s) s.args.root.now.page (pair g s).right (pair g s).right_descent (page_next s.args.root.now.page (pair g s)) read = c.after-self-inside-2.ensures ∙ ap (λ n. descent_after (bits g s) s.args.root.now.page (pair g s).right (pair g s).right_descent n read) (number_is g s) in
    subst (λ b. TellsOfStep (bits g s) s.args.root.now.page (before g s) after b (record (pair g s) { left_descent = c.after-self-inside.result; right_descent = c.after-self-inside-2.result }) c.found.result) c.self.view_is
    (tells (bits g s) s.args.root.now.page (before g s) (pair g s) (ready g s) (under g s) after s.next_page-number.result s.next_mode.result (number_is g s) (mode_is g s) read c.in_default.ensures.locks c.lock.ensures.leaves c.in_default.ensures.view c.read_held-page.ensures.reads
    (record (pair g s) { left_descent = c.after-self-inside.result; right_descent = c.after-self-inside-2.result }) c.found.result (λ i. record (pair g s) { left_descent = left i; right_descent = right i }) c.found.ensures)
