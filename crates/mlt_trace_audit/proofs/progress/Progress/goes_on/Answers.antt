use Rattle.std.proofs.Common.{◌≡◌, ◌<◌, ◌++◌, ◌∷◌, ◌+◌, [], true, length, get_or, inl, inr, refl, sym, ap, subst, ◌∙◌}
use Rattle.mlt_trace_audit.proofs.Names.{Abort, Commit, Op, ByAbort, ByCommit, is_told, tx_of}
use Rattle.mlt_trace_audit.specs.{Outcomes.IsClosedSo, Telling.HasTold}
use Rattle.mlt_trace_audit.proofs.{Placed.closings_abort, Placed.closings_commit, Telling.no_other_close, Telling.no_other_op, Telling.nothing_untold, Telling.told_close, Telling.told_nothing, Telling.told_op}
use Rattle.mlt_trace_audit.proofs.progress.Progress.goes_on.Goals as goal

pub returns-then-fits-clause-told : goal.returns-then-fits-clause-told
returns-then-fits-clause-told c = λ _ items told.
    let o = c.args.outcome.now in
    let one = c.in-Op.one in
    let own : Op o.tx one ≡ c.args.item.now = ap (λ tx. Op tx one) (sym c.requires.own ∙ ap tx_of c.in-Op.is) ∙ sym c.in-Op.is in
    let fits = rw c.as_slice.ensures at (c.stands_at-fits.ensures.0 c.if-fits.true) in
    subst (λ item. HasTold o (items ++ item ∷ []) (record { ops = c.args.self.now.ops + 1; closed = c.args.self.now.closed })) own (told_op o items c.args.self.now told one fits.0 fits.1)

pub returns-else-fits-clause-other : goal.returns-else-fits-clause-other
returns-else-fits-clause-other c = λ _ items later told.
    let o = c.args.outcome.now in
    let p = c.args.self.now in
    let one = c.in-Op.one in
    let own : Op o.tx one ≡ c.args.item.now = ap (λ tx. Op tx one) (sym c.requires.own ∙ ap tx_of c.in-Op.is) ∙ sym c.in-Op.is in
    let other = no_other_op o items p told one later (λ both.
    let fits = c.stands_at-fits.ensures.1 (subst (λ done. (p.ops < length done) × (get_or done p.ops one ≡ one)) (sym c.as_slice.ensures) both) in cc) in
    subst (λ item. IsClosedSo o.tx o.done o.end (items ++ item ∷ later) → ⊥) own other

pub returns-in-Commit-clause-told : goal.returns-in-Commit-clause-told
returns-in-Commit-clause-told c = λ fits items told.
    let o = c.args.outcome.now in
    let number = c.in-Commit.number in
    let own : Commit o.tx number ≡ c.args.item.now = ap (λ tx. Commit tx number) (sym c.requires.own ∙ ap tx_of c.in-Commit.is) ∙ sym c.in-Commit.is in
    let both = c.closes.ensures.result.0 fits in
    let closed = told_close o items c.args.self.now told (Commit o.tx number) (ByCommit number) (closings_commit o.tx number) refl both.0 (c.is_commit_of.ensures.0 both.1) in
    subst (λ p. HasTold o (items ++ c.args.item.now ∷ []) p) (sym (c.closes.ensures.closed fits)) (subst (λ item. HasTold o (items ++ item ∷ []) (record { ops = c.args.self.now.ops; closed = true })) own closed)

pub returns-in-Commit-clause-other : goal.returns-in-Commit-clause-other
returns-in-Commit-clause-other c = λ not_told items later told.
    let o = c.args.outcome.now in
    let number = c.in-Commit.number in
    let own : Commit o.tx number ≡ c.args.item.now = ap (λ tx. Commit tx number) (sym c.requires.own ∙ ap tx_of c.in-Commit.is) ∙ sym c.in-Commit.is in
    let other = no_other_close o items c.args.self.now told (Commit o.tx number) (ByCommit number) (closings_commit o.tx number) refl later (λ both.
    let fits = c.closes.ensures.result.1 (both.0, c.is_commit_of.ensures.1 both.1) in cc) in
    subst (λ item. IsClosedSo o.tx o.done o.end (items ++ item ∷ later) → ⊥) own other

pub returns-in-Abort-clause-told : goal.returns-in-Abort-clause-told
returns-in-Abort-clause-told c = λ fits items told.
    let o = c.args.outcome.now in
    let own : Abort o.tx ≡ c.args.item.now = ap Abort (sym c.requires.own ∙ ap tx_of c.in-Abort.is) ∙ sym c.in-Abort.is in
    let both = c.closes-in-Abort.ensures.result.0 fits in
    let closed = told_close o items c.args.self.now told (Abort o.tx) ByAbort (closings_abort o.tx) refl both.0 (c.is_no_commit.ensures.0 both.1) in
    subst (λ p. HasTold o (items ++ c.args.item.now ∷ []) p) (sym (c.closes-in-Abort.ensures.closed fits)) (subst (λ item. HasTold o (items ++ item ∷ []) (record { ops = c.args.self.now.ops; closed = true })) own closed)

pub returns-in-Abort-clause-other : goal.returns-in-Abort-clause-other
returns-in-Abort-clause-other c = λ not_told items later told.
    let o = c.args.outcome.now in
    let own : Abort o.tx ≡ c.args.item.now = ap Abort (sym c.requires.own ∙ ap tx_of c.in-Abort.is) ∙ sym c.in-Abort.is in
    let other = no_other_close o items c.args.self.now told (Abort o.tx) ByAbort (closings_abort o.tx) refl later (λ both.
    let fits = c.closes-in-Abort.ensures.result.1 (both.0, c.is_no_commit.ensures.1 both.1) in cc) in
    subst (λ item. IsClosedSo o.tx o.done o.end (items ++ item ∷ later) → ⊥) own other

pub returns-in-Begin-clause-told : goal.returns-in-Begin-clause-told
returns-in-Begin-clause-told c = λ _ items told. told_nothing c.args.outcome.now items c.args.self.now told c.args.item.now (nothing_untold c.args.outcome.now.tx c.args.item.now (elim c.in-Begin.is [ inl begin ↦ ap is_told begin.1 | inr back ↦ ap is_told back.1 ]))

pub returns-in-Begin-2-clause-told : goal.returns-in-Begin-2-clause-told
returns-in-Begin-2-clause-told c = λ _ items told. told_nothing c.args.outcome.now items c.args.self.now told c.args.item.now (nothing_untold c.args.outcome.now.tx c.args.item.now (elim c.in-Begin.is [ inl begin ↦ ap is_told begin.1 | inr back ↦ ap is_told back.1 ]))
