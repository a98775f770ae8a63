-- How the two descents go on together
use Rattle.std.proofs.Common.{◌≡◌, ◌≢◌, ◌⊎◌, ℕ, ◌<◌, ◌≤◌, ◌+◌, false, true, List, Option, slice_index, refl, sym, ap, subst, ◌∙◌, inl, inr, arith, ◌==◌, nat_le, nat_lt, eq-eqb, le-ltb, leb-false, leb-true, lt-ltb, ne_eqb}
use Rattle.mlt_hash_pair.proofs.Names.{cases_eq, cond-false, cond-true, BucketFields, HeadFields, Page, GoTogether, later_of, most_steps, value_in, next_page, next_descent, descent_after, told_by, IsThere, page_of, pages_to_read, PairAnswer, Descent}
use Rattle.std.proofs.lemmas.Bool.{cases_Bool}
use Rattle.mlt_hash_pair.{specs.Pairs.least_steps, specs.Pairs.steps_for, specs.Reading.is_before, specs.Reading.descent_by_header, proofs.Nexts.KindIs, proofs.Nexts.after_next, proofs.Nexts.after_other, proofs.Nexts.done_stays}
use Rattle.mlt_hash_form.specs.File.{dir_of}

-- the descent whose page is read is one of the two
pub which : (left right : Descent) → ((next_descent left right ≡ left) × (is_before left right ≡ true)) ⊎ ((next_descent left right ≡ right) × (is_before left right ≡ false))
which left right =
    elim (cases_Bool (is_before left right)) [
      | inl before ↦ inl (cond-true (is_before left right) left right before, before)
      | inr behind ↦ inr (cond-false (is_before left right) left right behind, behind)
    ]

pub either_way : (left right : Descent) → (next_descent left right ≡ left) ⊎ (next_descent left right ≡ right)
either_way left right =
    elim (which left right) [
      | inl one ↦ inl one.0
      | inr other ↦ inr other.0
    ]

-- and it is not done, as long as the pair is not
pub lead_goes_on : (left right : Descent) → GoTogether left right → 0 < most_steps left right → 0 < pages_to_read (next_descent left right)
lead_goes_on Descent.Start Descent.Start together more = omega arith
lead_goes_on (Descent.Headed place dir row) (Descent.Headed place' dir' row') together more =
    elim (cases_Bool (nat_le place place')) [
      | inl before ↦ subst (λ w. 0 < pages_to_read w) (sym (cond-true (nat_le place place') (Descent.Headed place dir row) (Descent.Headed place' dir' row') before)) (omega arith)
      | inr behind ↦ subst (λ w. 0 < pages_to_read w) (sym (cond-false (nat_le place place') (Descent.Headed place dir row) (Descent.Headed place' dir' row') behind)) (omega arith)
    ]
lead_goes_on (Descent.Headed place dir row) (Descent.Placed dir' bucket') together more = omega arith
lead_goes_on (Descent.Placed dir bucket) (Descent.Headed place' dir' row') together more = omega arith
lead_goes_on (Descent.Placed dir bucket) (Descent.Placed dir' bucket') together more =
    elim (cases_Bool (nat_le bucket bucket')) [
      | inl before ↦ subst (λ w. 0 < pages_to_read w) (sym (cond-true (nat_le bucket bucket') (Descent.Placed dir bucket) (Descent.Placed dir' bucket') before)) (omega arith)
      | inr behind ↦ subst (λ w. 0 < pages_to_read w) (sym (cond-false (nat_le bucket bucket') (Descent.Placed dir bucket) (Descent.Placed dir' bucket') behind)) (omega arith)
    ]
lead_goes_on (Descent.Placed dir bucket) (Descent.AtBucket dir' bucket' found') together more = omega arith
lead_goes_on (Descent.AtBucket dir bucket found) (Descent.Placed dir' bucket') together more = omega arith
lead_goes_on (Descent.AtBucket dir bucket found) (Descent.AtBucket dir' bucket' found') together more = omega (arith, more)
lead_goes_on left right together more = absurd together

-- the steps for two pages
one_or_two : (p q : ℕ) → (1 ≤ steps_for p q) × (steps_for p q ≤ 2)
one_or_two p q =
    elim (cases_Bool (p == q)) [
      | inl same ↦ let is : steps_for p q ≡ 1 = cond-true (p == q) 1 2 same in (omega (arith, is), omega (arith, is))
      | inr apart ↦ let is : steps_for p q ≡ 2 = cond-false (p == q) 1 2 apart in (omega (arith, is), omega (arith, is))
    ]

one_step : (p q : ℕ) → p ≡ q → steps_for p q ≡ 1
one_step p q same = cond-true (p == q) 1 2 (eq-eqb p q same)

two_steps : (p q : ℕ) → p ≢ q → steps_for p q ≡ 2
two_steps p q apart = cond-false (p == q) 1 2 (ne_eqb p q apart)

-- a pair that is told to go on has more to read
pub more_to_come : (left right : Descent) → GoTogether left right → told_by left right ≡ PairAnswer.Going → 0 < most_steps left right
more_to_come Descent.Start Descent.Start together going = omega arith
more_to_come (Descent.Headed p d r) (Descent.Headed p' d' r') together going = omega arith
more_to_come (Descent.Headed p d r) (Descent.Placed d' b') together going = omega arith
more_to_come (Descent.Placed d b) (Descent.Headed p' d' r') together going = omega arith
more_to_come (Descent.Placed d b) (Descent.Placed d' b') together going = let few = one_or_two b b' in omega (arith, few)
more_to_come (Descent.Placed d b) (Descent.AtBucket d' b' found') together going = omega arith
more_to_come (Descent.AtBucket d b found) (Descent.Placed d' b') together going = omega arith
more_to_come (Descent.AtBucket d b found) (Descent.AtBucket d' b' found') together going = let none : ⊥ = cc in absurd none
more_to_come left right together going = absurd together

-- the later of two pages
pub later_right : (left right : ℕ) → left < right → later_of left right ≡ right
later_right left right lt = cond-true (nat_lt left right) right left (lt-ltb left right lt)

pub later_left : (left right : ℕ) → right ≤ left → later_of left right ≡ left
later_left left right le = cond-false (nat_lt left right) right left (le-ltb left right le)

-- the descents are one step further, and that is the only step that is gone
pub record IsFurther (left right left' right' : Descent) (n : ℕ) : Type 0 where
  pub together : GoTogether left' right'
  pub least : least_steps left right ≤ least_steps left' right' + 1
  pub most : most_steps left' right' + 1 ≤ most_steps left right
  -- the bucket that is read last is the later one
  pub last : IsThere left' → IsThere right' → n ≡ later_of (page_of left') (page_of right')

-- the same, of descents that are known to be these
further_as : (left right left' right' a b : Descent) (n : ℕ) → left' ≡ a → right' ≡ b → IsFurther left right a b n → IsFurther left right left' right' n
further_as left right left' right' a b n is_a is_b further = subst (λ w. IsFurther left right w right' n) (sym is_a) (subst (λ w. IsFurther left right a w n) (sym is_b) further)

module _ (bits : ℕ → ℕ) (root left_key right_key : ℕ) where
  abbrev Goes : Descent → Descent → ℕ → Page → Type 0
  Goes left right n read = IsFurther left right (descent_after bits root left_key left n read) (descent_after bits root right_key right n read) n

  -- what each of them is once this page is read
  goes_as : (left right a b : Descent) (n : ℕ) (read : Page) → descent_after bits root left_key left n read ≡ a → descent_after bits root right_key right n read ≡ b → IsFurther left right a b n → Goes left right n read
  goes_as left right a b n read is_a is_b further = further_as left right (descent_after bits root left_key left n read) (descent_after bits root right_key right n read) a b n is_a is_b further

  from_start : (header : HeadFields) → Goes Descent.Start Descent.Start root (Page.Head header)
  from_start header =
      let few = one_or_two (dir_of header (bits left_key)) (dir_of header (bits right_key)) in
      goes_as Descent.Start Descent.Start (descent_by_header bits left_key header) (descent_by_header bits right_key header) root (Page.Head header)
      (after_next bits root left_key Descent.Start root (Page.Head header) refl) (after_next bits root right_key Descent.Start root (Page.Head header) refl)
      (record { together = tt; least = omega (arith, few); most = omega (arith, few); last = λ there other_there. absurd there })

  from_header : (p d r p' d' r' n : ℕ) (entries : List ℕ) → (n ≡ d) ⊎ (n ≡ d') → Goes (Descent.Headed p d r) (Descent.Headed p' d' r') n (Page.Dir entries)
  from_header p d r p' d' r' n entries either = go (cases_eq n d) (cases_eq n d')
    where
      go : (n ≡ d) ⊎ (n ≢ d) → (n ≡ d') ⊎ (n ≢ d') → Goes (Descent.Headed p d r) (Descent.Headed p' d' r') n (Page.Dir entries)
      go (inl one) (inl other) =
          let step = one_step d d' (sym one ∙ other) in
          let few = one_or_two (slice_index entries r) (slice_index entries r') in
          goes_as (Descent.Headed p d r) (Descent.Headed p' d' r') (Descent.Placed d (slice_index entries r)) (Descent.Placed d' (slice_index entries r')) n (Page.Dir entries) (after_next bits root left_key (Descent.Headed p d r) n (Page.Dir entries) one) (after_next bits root right_key (Descent.Headed p' d' r') n (Page.Dir entries) other)
          (record { together = tt; least = omega (arith, step, few); most = omega (arith, step, few); last = λ there other_there. absurd there })
      go (inl one) (inr apart) =
          let steps = two_steps d d' (λ same. apart (one ∙ same)) in
          goes_as (Descent.Headed p d r) (Descent.Headed p' d' r') (Descent.Placed d (slice_index entries r)) (Descent.Headed p' d' r') n (Page.Dir entries) (after_next bits root left_key (Descent.Headed p d r) n (Page.Dir entries) one) (after_other bits root right_key (Descent.Headed p' d' r') n (Page.Dir entries) apart)
          (record { together = tt; least = omega (arith, steps); most = omega (arith, steps); last = λ there other_there. absurd there })
      go (inr apart) (inl other) =
          let steps = two_steps d d' (λ same. apart (other ∙ sym same)) in
          goes_as (Descent.Headed p d r) (Descent.Headed p' d' r') (Descent.Headed p d r) (Descent.Placed d' (slice_index entries r')) n (Page.Dir entries) (after_other bits root left_key (Descent.Headed p d r) n (Page.Dir entries) apart) (after_next bits root right_key (Descent.Headed p' d' r') n (Page.Dir entries) other)
          (record { together = tt; least = omega (arith, steps); most = omega (arith, steps); last = λ there other_there. absurd there })
      go (inr apart) (inr aside) = elim either [
        | inl one ↦ absurd (apart one)
        | inr other ↦ absurd (aside other)
      ]

  -- a descent that waits for a bucket reads no page of the directory
  waits_left : (d b n : ℕ) (entries : List ℕ) → descent_after bits root left_key (Descent.Placed d b) n (Page.Dir entries) ≡ Descent.Placed d b
  waits_left d b n entries = elim (cases_eq n b) [
    | inl same ↦ after_next bits root left_key (Descent.Placed d b) n (Page.Dir entries) same
    | inr apart ↦ after_other bits root left_key (Descent.Placed d b) n (Page.Dir entries) apart
  ]

  waits_right : (d b n : ℕ) (entries : List ℕ) → descent_after bits root right_key (Descent.Placed d b) n (Page.Dir entries) ≡ Descent.Placed d b
  waits_right d b n entries = elim (cases_eq n b) [
    | inl same ↦ after_next bits root right_key (Descent.Placed d b) n (Page.Dir entries) same
    | inr apart ↦ after_other bits root right_key (Descent.Placed d b) n (Page.Dir entries) apart
  ]

  second_dir_left : (p d r d' b' : ℕ) (entries : List ℕ) → Goes (Descent.Headed p d r) (Descent.Placed d' b') d (Page.Dir entries)
  second_dir_left p d r d' b' entries =
      let few = one_or_two (slice_index entries r) b' in
      goes_as (Descent.Headed p d r) (Descent.Placed d' b') (Descent.Placed d (slice_index entries r)) (Descent.Placed d' b') d (Page.Dir entries)
      (after_next bits root left_key (Descent.Headed p d r) d (Page.Dir entries) refl) (waits_right d' b' d entries)
      (record { together = tt; least = omega (arith, few); most = omega (arith, few); last = λ there other_there. absurd there })

  second_dir_right : (d b p' d' r' : ℕ) (entries : List ℕ) → Goes (Descent.Placed d b) (Descent.Headed p' d' r') d' (Page.Dir entries)
  second_dir_right d b p' d' r' entries =
      let few = one_or_two b (slice_index entries r') in
      goes_as (Descent.Placed d b) (Descent.Headed p' d' r') (Descent.Placed d b) (Descent.Placed d' (slice_index entries r')) d' (Page.Dir entries)
      (waits_left d b d' entries) (after_next bits root right_key (Descent.Headed p' d' r') d' (Page.Dir entries) refl)
      (record { together = tt; least = omega (arith, few); most = omega (arith, few); last = λ there other_there. absurd there })

  -- the bucket of the lower page is read first, and the other one with it where they are one
  from_dirs : (d b d' b' n : ℕ) (fields : BucketFields) → ((n ≡ b) × (b ≤ b')) ⊎ ((n ≡ b') × (b' < b)) → Goes (Descent.Placed d b) (Descent.Placed d' b') n (Page.Bucket fields)
  from_dirs d b d' b' n fields either = go (cases_eq n b) (cases_eq n b')
    where
      go : (n ≡ b) ⊎ (n ≢ b) → (n ≡ b') ⊎ (n ≢ b') → Goes (Descent.Placed d b) (Descent.Placed d' b') n (Page.Bucket fields)
      go (inl one) (inl other) =
          let step = one_step b b' (sym one ∙ other) in
          goes_as (Descent.Placed d b) (Descent.Placed d' b') (Descent.AtBucket d b (value_in left_key fields.slots)) (Descent.AtBucket d' b' (value_in right_key fields.slots)) n (Page.Bucket fields) (after_next bits root left_key (Descent.Placed d b) n (Page.Bucket fields) one) (after_next bits root right_key (Descent.Placed d' b') n (Page.Bucket fields) other)
          (record { together = tt; least = omega (arith, step); most = omega (arith, step); last = λ there other_there. let le : b' ≤ b = omega (arith, one, other) in one ∙ sym (later_left b b' le) })
      go (inl one) (inr apart) =
          let steps = two_steps b b' (λ same. apart (one ∙ same)) in
          let low : b < b' = elim either [
            | inl first ↦ let le = first.1 in let ne : b ≢ b' = λ same. apart (one ∙ same) in omega (arith, le, ne)
            | inr second ↦ absurd (apart second.0)
          ] in
          goes_as (Descent.Placed d b) (Descent.Placed d' b') (Descent.AtBucket d b (value_in left_key fields.slots)) (Descent.Placed d' b') n (Page.Bucket fields) (after_next bits root left_key (Descent.Placed d b) n (Page.Bucket fields) one) (after_other bits root right_key (Descent.Placed d' b') n (Page.Bucket fields) apart)
          (record { together = low; least = omega (arith, steps); most = omega (arith, steps); last = λ there other_there. absurd other_there })
      go (inr apart) (inl other) =
          let steps = two_steps b b' (λ same. apart (other ∙ sym same)) in
          let low : b' < b = elim either [
            | inl first ↦ absurd (apart first.0)
            | inr second ↦ second.1
          ] in
          goes_as (Descent.Placed d b) (Descent.Placed d' b') (Descent.Placed d b) (Descent.AtBucket d' b' (value_in right_key fields.slots)) n (Page.Bucket fields) (after_other bits root left_key (Descent.Placed d b) n (Page.Bucket fields) apart) (after_next bits root right_key (Descent.Placed d' b') n (Page.Bucket fields) other)
          (record { together = low; least = omega (arith, steps); most = omega (arith, steps); last = λ there other_there. absurd there })
      go (inr apart) (inr aside) = elim either [
        | inl one ↦ absurd (apart one.0)
        | inr other ↦ absurd (aside other.0)
      ]

  second_bucket_left : (d b d' b' : ℕ) (found' : Option ℕ) (fields : BucketFields) → b' < b → Goes (Descent.Placed d b) (Descent.AtBucket d' b' found') b (Page.Bucket fields)
  second_bucket_left d b d' b' found' fields low =
      goes_as (Descent.Placed d b) (Descent.AtBucket d' b' found') (Descent.AtBucket d b (value_in left_key fields.slots)) (Descent.AtBucket d' b' found') b (Page.Bucket fields)
      (after_next bits root left_key (Descent.Placed d b) b (Page.Bucket fields) refl) (done_stays bits root right_key d' b' found' b (Page.Bucket fields))
      (record { together = tt; least = omega arith; most = omega arith; last = λ there other_there. let le : b' ≤ b = omega (arith, low) in sym (later_left b b' le) })

  second_bucket_right : (d b : ℕ) (found : Option ℕ) (d' b' : ℕ) (fields : BucketFields) → b < b' → Goes (Descent.AtBucket d b found) (Descent.Placed d' b') b' (Page.Bucket fields)
  second_bucket_right d b found d' b' fields low =
      goes_as (Descent.AtBucket d b found) (Descent.Placed d' b') (Descent.AtBucket d b found) (Descent.AtBucket d' b' (value_in right_key fields.slots)) b' (Page.Bucket fields)
      (done_stays bits root left_key d b found b' (Page.Bucket fields)) (after_next bits root right_key (Descent.Placed d' b') b' (Page.Bucket fields) refl)
      (record { together = tt; least = omega arith; most = omega arith; last = λ there other_there. sym (later_right b b' low) })

  -- a page of the directory is read for either of two descents
  by_header : (p d r p' d' r' n : ℕ) (lead : Descent) (read : Page) → n ≡ next_page root lead → KindIs lead read → ((lead ≡ Descent.Headed p d r) ⊎ (lead ≡ Descent.Headed p' d' r')) → Goes (Descent.Headed p d r) (Descent.Headed p' d' r') n read
  by_header p d r p' d' r' n lead read next kind (inl is) =
      let dir = subst (λ w. KindIs w read) is kind in
      subst (Goes (Descent.Headed p d r) (Descent.Headed p' d' r') n) (sym dir.1) (from_header p d r p' d' r' n dir.0 (inl (next ∙ ap (next_page root) is)))
  by_header p d r p' d' r' n lead read next kind (inr is) =
      let dir = subst (λ w. KindIs w read) is kind in
      subst (Goes (Descent.Headed p d r) (Descent.Headed p' d' r') n) (sym dir.1) (from_header p d r p' d' r' n dir.0 (inr (next ∙ ap (next_page root) is)))

  -- and a bucket
  by_dirs : (d b d' b' n : ℕ) (lead : Descent) (read : Page) → n ≡ next_page root lead → KindIs lead read → ((lead ≡ Descent.Placed d b) × (nat_le b b' ≡ true)) ⊎ ((lead ≡ Descent.Placed d' b') × (nat_le b b' ≡ false)) → Goes (Descent.Placed d b) (Descent.Placed d' b') n read
  by_dirs d b d' b' n lead read next kind (inl is) =
      let bucket = subst (λ w. KindIs w read) is.0 kind in
      subst (Goes (Descent.Placed d b) (Descent.Placed d' b') n) (sym bucket.1) (from_dirs d b d' b' n bucket.0 (inl (next ∙ ap (next_page root) is.0, leb-true b b' is.1)))
  by_dirs d b d' b' n lead read next kind (inr is) =
      let bucket = subst (λ w. KindIs w read) is.0 kind in
      subst (Goes (Descent.Placed d b) (Descent.Placed d' b') n) (sym bucket.1) (from_dirs d b d' b' n bucket.0 (inr (next ∙ ap (next_page root) is.0, leb-false b b' is.1)))

  -- **A step takes the two descents one step further.**
  pub goes_further : (left right : Descent) (read : Page) → GoTogether left right → 0 < most_steps left right → KindIs (next_descent left right) read → Goes left right (next_page root (next_descent left right)) read
  goes_further Descent.Start Descent.Start read together more kind = subst (Goes Descent.Start Descent.Start root) (sym kind.1) (from_start kind.0)
  goes_further (Descent.Headed p d r) (Descent.Headed p' d' r') read together more kind = by_header p d r p' d' r' _ (next_descent (Descent.Headed p d r) (Descent.Headed p' d' r')) read refl kind (either_way (Descent.Headed p d r) (Descent.Headed p' d' r'))
  goes_further (Descent.Headed p d r) (Descent.Placed d' b') read together more kind = subst (Goes (Descent.Headed p d r) (Descent.Placed d' b') d) (sym kind.1) (second_dir_left p d r d' b' kind.0)
  goes_further (Descent.Placed d b) (Descent.Headed p' d' r') read together more kind = subst (Goes (Descent.Placed d b) (Descent.Headed p' d' r') d') (sym kind.1) (second_dir_right d b p' d' r' kind.0)
  goes_further (Descent.Placed d b) (Descent.Placed d' b') read together more kind = by_dirs d b d' b' _ (next_descent (Descent.Placed d b) (Descent.Placed d' b')) read refl kind (which (Descent.Placed d b) (Descent.Placed d' b'))
  goes_further (Descent.Placed d b) (Descent.AtBucket d' b' found') read together more kind = subst (Goes (Descent.Placed d b) (Descent.AtBucket d' b' found') b) (sym kind.1) (second_bucket_left d b d' b' found' kind.0 together)
  goes_further (Descent.AtBucket d b found) (Descent.Placed d' b') read together more kind = subst (Goes (Descent.AtBucket d b found) (Descent.Placed d' b') b') (sym kind.1) (second_bucket_right d b found d' b' kind.0 together)
  goes_further (Descent.AtBucket d b found) (Descent.AtBucket d' b' found') read together more kind = let none : ⊥ = omega (arith, more) in absurd none
  goes_further left right read together more kind = absurd together
