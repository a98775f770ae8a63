-- A step of a pair to its buckets
use Rattle.std.proofs.Common.{◌≡◌, ℕ, ◌<◌, ◌≤◌, true, Option, Some, is_some, refl, sym, ap, subst, ◌∙◌, inl, inr, arith}
use Rattle.mlt_hash_pair.proofs.Names.{Mode, Page, HeadFields, HasForm, header_of, Agrees, LocalState, view_of, GoTogether, IsFinding, IsUnderWay, MayFind, PairFields, later_of, mode_next, most_steps, page_next, next_page, next_descent, descent_after, TellsOfStep, told_by, IsThere, page_of, pages_to_read, Descent, PairAnswer}
use Rattle.mlt_page.specs.Stores.{page_at}
use Rattle.mlt_page_locks.specs.LockTables.{page_count}
use Rattle.mlt_hash_access.{specs.PageSteps.Leaves, specs.PageSteps.LocksPage, specs.Views.ReadsHeldPage, specs.Views.ReadsPage, specs.Views.SeesPage, proofs.Unwritten.sees_page, proofs.Unwritten.unwritten_still, proofs.Views.agrees, proofs.Views.count_after_read, proofs.Views.page_count_of_view, proofs.Views.reads_seen}
use Rattle.mlt_hash_pair.{specs.Steps.GoesOn, specs.Steps.HasFound, proofs.Locks.holds_after, proofs.Readings.read_after}
use Rattle.mlt_hash_pair.proofs.Nexts.{KindIs, NextIs, has_next, kind_of_next, next_is, next_there, reads_on}
use Rattle.mlt_hash_pair.proofs.Together.{IsFurther, either_way, goes_further, lead_goes_on, more_to_come}

-- a header that a descent reads is no deeper than 16 bits
small_header : (bits : ℕ → ℕ) (clean : ℕ → Option Page) (root : ℕ) (lead : Descent) (read : Page) (header : HeadFields) → HasForm bits clean root → clean (next_page root lead) ≡ Some read → KindIs lead read → read ≡ Page.Head header → header.depth ≤ 16
small_header bits clean root Descent.Start read header form sees kind is = subst (λ (h : HeadFields). h.depth ≤ 16) (ap header_of (sees ∙ ap Some is)) form.listed.small
small_header bits clean root (Descent.Headed place dir row) read header form sees kind is = let both : Page.Dir kind.0 ≡ Page.Head header = sym kind.1 ∙ is in let none : ⊥ = cc in absurd none
small_header bits clean root (Descent.Placed dir bucket) read header form sees kind is = let both : Page.Bucket kind.0 ≡ Page.Head header = sym kind.1 ∙ is in let none : ⊥ = cc in absurd none
small_header bits clean root (Descent.AtBucket dir bucket found) read header form sees kind is = absurd kind

-- what a pair is told that went on, by where it is now
tells_by : (bits : ℕ → ℕ) (root : ℕ) (old new : LocalState) (before after : PairFields) (left right : Descent) → GoTogether left right → (IsThere left → IsThere right → page_next root before ≡ later_of (page_of left) (page_of right)) → after.left_descent ≡ left → after.right_descent ≡ right → GoesOn bits root old new before after → TellsOfStep bits root old new before after (told_by left right)
tells_by bits root old new before after (Descent.AtBucket d b found) (Descent.AtBucket d' b' found') together last left_is right_is on = (
  on,
  subst (λ w. HasFound w found) (sym left_is) refl,
  subst (λ w. HasFound w found') (sym right_is) refl,
  last tt tt ∙ (λ i. later_of (page_of (sym left_is i)) (page_of (sym right_is i))),
)
tells_by bits root old new before after left right together last left_is right_is on = (on, subst (λ w. 0 < most_steps w after.right_descent) (sym left_is) (subst (λ w. 0 < most_steps left w) (sym right_is) (more_to_come left right together refl)))

module _ (bits : ℕ → ℕ) (root : ℕ) (old : LocalState) (before : PairFields) (ready : MayFind bits root old before) (under : IsUnderWay before) where
  abbrev lead : Descent
  lead = next_descent before.left_descent before.right_descent

  agree : Agrees (view_of old).seen ready.file.clean
  agree = agrees old ready.file.clean ready.may ready.file.is_clean

  goes : 0 < pages_to_read lead
  goes = lead_goes_on before.left_descent before.right_descent ready.finding.together under

  left_is : NextIs ready.file.clean root before.left_descent
  left_is = next_is bits ready.file.clean root before.left (view_of old) before.left_descent (ready.bounded before.left) agree ready.file.form ready.finding.left

  right_is : NextIs ready.file.clean root before.right_descent
  right_is = next_is bits ready.file.clean root before.right (view_of old) before.right_descent (ready.bounded before.right) agree ready.file.form ready.finding.right

  lead_is : NextIs ready.file.clean root lead
  lead_is =
      elim (either_way before.left_descent before.right_descent) [
        | inl one ↦ subst (NextIs ready.file.clean root) (sym one) left_is
        | inr other ↦ subst (NextIs ready.file.clean root) (sym other) right_is
      ]

  -- **The next page of a pair is there,**
  pub pair_next_there : (n : ℕ) → n ≡ page_next root before → is_some (page_at old.store.pages n) ≡ true
  pair_next_there n is = ap (λ n. is_some (page_at old.store.pages n)) is ∙ ready.file.is_clean.there (page_next root before) (next_there ready.file.clean root lead goes lead_is)

  -- and few are held
  pub few_held : page_count old.locks old.running.tx < 300
  few_held = let few = ready.finding.few in omega (arith, page_count_of_view old, few)

  module _ (new : LocalState) (n : ℕ) (mode : Mode) (n_is : n ≡ page_next root before) (mode_is : mode ≡ mode_next before) (read : Page) (locks : LocksPage old new n mode) (leaves : Leaves old new) (view : SeesPage (view_of old) (view_of new) n mode) (held : ReadsHeldPage (view_of new) n read) where
    reads : ReadsPage (view_of old) (view_of new) (page_next root before) (mode_next before) (Some read)
    reads = subst (λ n. ReadsPage (view_of old) (view_of new) n (mode_next before) (Some read)) n_is
        (subst (λ mode. ReadsPage (view_of old) (view_of new) n mode (Some read)) mode_is (reads_seen (view_of old) (view_of new) n mode read view held))

    sees : (view_of new).seen (page_next root before) ≡ Some (Some read)
    sees = sees_page (view_of old) (view_of new) (page_next root before) (mode_next before) (Some read) ready.finding.unwritten reads

    clean_has : ready.file.clean (page_next root before) ≡ Some read
    clean_has = agrees new ready.file.clean leaves.may (leaves.clean ready.file.clean ready.file.is_clean) (page_next root before) (Some read) sees

    kind : KindIs lead read
    kind = kind_of_next ready.file.clean root lead (page_next root before) read lead_is clean_has (has_next root lead goes)

    -- **A header that is read is small.**
    pub reads_small : (header : HeadFields) → read ≡ Page.Head header → header.depth ≤ 16
    reads_small header is = small_header bits ready.file.clean root lead read header ready.file.form clean_has kind is

    abbrev after : PairFields
    after = record before {
      left_descent = descent_after bits root before.left before.left_descent (page_next root before) read;
      right_descent = descent_after bits root before.right before.right_descent (page_next root before) read;
    }

    further : IsFurther before.left_descent before.right_descent after.left_descent after.right_descent (page_next root before)
    further = goes_further bits root before.left before.right before.left_descent before.right_descent read ready.finding.together under kind

    finding : IsFinding bits root after (view_of new)
    finding = record {
      apart = ready.finding.apart;
      none_owed = ready.finding.none_owed;
      together = further.together;
      left = read_after bits root before.left (view_of old) (view_of new) reads.before before.left_descent (page_next root before) read sees ready.finding.left;
      right = read_after bits root before.right (view_of old) (view_of new) reads.before before.right_descent (page_next root before) read sees ready.finding.right;
      unwritten = unwritten_still (view_of old) (view_of new) (page_next root before) (mode_next before) (Some read) ready.finding.unwritten reads;
      holds = holds_after bits root before.left before.right (view_of old) (view_of new) before.left_descent before.right_descent lead (page_next root before) read reads.before ready.finding.left ready.finding.right ready.finding.holds (either_way before.left_descent before.right_descent) kind refl (has_next root lead goes) reads.modes sees;
      few = let was = ready.finding.few in let one = count_after_read (view_of old) (view_of new) (page_next root before) (mode_next before) (Some read) reads in let most = further.most in omega (arith, was, one, most);
    }

    -- **The pair goes on.**
    goes_on : GoesOn bits root old new before after
    goes_on = record {
      left_key = refl;
      right_key = refl;
      locks = subst (λ n. LocksPage old new n (mode_next before)) n_is (subst (λ mode. LocksPage old new n mode) mode_is locks);
      left = reads_on bits ready.file.clean root before.left before.left_descent (page_next root before) read left_is clean_has;
      right = reads_on bits ready.file.clean root before.right before.right_descent (page_next root before) read right_is clean_has;
      finding = finding;
      least = further.least;
      most = further.most;
    }

    -- what is known of the descents that a step leaves
    abbrev Tells : PairFields → Type 0
    Tells pair = TellsOfStep bits root old new before pair (told_by pair.left_descent pair.right_descent)

    pub tells : (pair : PairFields) (told : PairAnswer) → pair ≡ after → told ≡ told_by pair.left_descent pair.right_descent → TellsOfStep bits root old new before pair told
    tells pair told pair_is told_is = subst (λ told. TellsOfStep bits root old new before pair told) (sym told_is) (subst Tells (sym pair_is) (tells_by bits root old new before after after.left_descent after.right_descent further.together further.last refl refl goes_on))
