-- Where writing the directory's pages begins and ends, and what each page is to hold.
-- Other crates cite this module.
use Rattle.std.proofs.Common.{ℕ, ◌≡◌, ◌<◌, ◌≤◌, ◌+◌, ◌-◌, ◌*◌, ◌/◌, ◌%◌, ◌^◌, ◌==◌, cond, List, slice_index, Option, refl, sym, ◌∙◌, ap, arith, inl, inr, ◌⊎◌, eq-eqb, ne_eqb, pow_pos}
use Rattle.mlt_hash_form.proofs.Names.{cases_eq, cases_lt, cond-true, cond-false, shr_below, Page, entries_of, entry, IsDirectory, target, IsFilling, directory_change}
use Rattle.std.proofs.{lemmas.Nat.div-mul-add, lemmas.Nat.div_below, lemmas.Nat.le-div, Math.Nat.pow-le-pow_right}

page_of_place : (q r : ℕ) → r < 256 → (256 * q + r) / 256 ≡ q
page_of_place q r h = omega arith

index_of_place : (q r : ℕ) → r < 256 → (256 * q + r) % 256 ≡ r
index_of_place q r h = omega arith

place_parts : (i : ℕ) → 256 * (i / 256) + i % 256 ≡ i
place_parts i = omega arith

-- the page of a place is listed
pub page_listed : (g i : ℕ) → i < 2 ^ g → i / 256 < 2 ^ (g - 8)
page_listed g i h =
    elim (cases_lt g 8) [
      | inl lt ↦
          let e : g - 8 ≡ 0 = omega arith in
          let le : g ≤ 8 = omega arith in
          let top : 2 ^ g ≤ 2 ^ 8 = pow-le-pow_right {n = 2} (omega arith) le in
          rw e (omega (arith, top, h))
      | inr le ↦
          let e : g ≡ (g - 8) + 8 = omega arith in
          shr_below i (g - 8) 8 (rw (← e) h)
    ]

pub entry_at : (pages : ℕ → Option Page) (dirs : List ℕ) (q r : ℕ) → r < 256 → entry pages dirs (256 * q + r) ≡ slice_index (entries_of (pages (slice_index dirs q))) r
entry_at pages dirs q r h = rw (page_of_place q r h, index_of_place q r h)

-- once the pages that a depth asks for are written, the places read as they are to be
pub filled_reads : (pages : ℕ → Option Page) (made dirs : List ℕ) (to old : ℕ → ℕ) (g k count : ℕ) → IsFilling (directory_change dirs to old count) pages made (2 ^ (g - 8)) k → (i : ℕ) → i < 2 ^ g → entry pages made i ≡ to i
filled_reads pages made dirs to old g k count f i h = f.filled (i / 256) (i % 256) (page_listed g i h) (omega arith) ∙ ap to (place_parts i)

pub filled_listed : (pages : ℕ → Option Page) (made dirs : List ℕ) (to old : ℕ → ℕ) (g k count : ℕ) → g ≤ 16 → IsFilling (directory_change dirs to old count) pages made (2 ^ (g - 8)) k → IsDirectory pages g made
filled_listed pages made dirs to old g k count small f = record { small = small; full = f.sized; once = f.once }

-- doubling begins with no page
pub double_none : (base pages : ℕ → Option Page) (made dirs : List ℕ) (to : ℕ → ℕ) (g : ℕ) → IsDirectory base g dirs → ((q : ℕ) → q < 2 ^ (g - 8) → pages (slice_index dirs q) ≡ base (slice_index dirs q)) → IsFilling (directory_change dirs to (entry base dirs) (2 ^ (g - 8))) pages made 0 0
double_none base pages made dirs to g l same = record {
  filled = λ q r h k. absurd (omega arith);
  sized = λ q h. absurd (omega arith);
  rest = λ q r h k m. rw (same q k) (sym (entry_at base dirs q r m));
  rest_sized = λ q h k. rw (same q k) (l.full q k);
  apart = λ q r h k m e. absurd (omega arith);
  once = λ q r h k e. absurd (omega arith);
}

-- a target of a doubled directory, where the bucket split was as deep as the directory
pub target_double : (old : ℕ → ℕ) (g prefix new i : ℕ) → target old g (g + 1) g prefix new i ≡ cond (i == prefix) new (old (i / 2))
target_double old g prefix new i =
    let a : (g + 1) - (g + 1) ≡ 0 = omega arith in
    let b : (g + 1) - g ≡ 1 = omega arith in
    let c : i / 2 ^ 0 ≡ i = omega arith in
    rw (a, b, c) refl

-- the half of an old page, each entry twice, with the new page at its place
pub double_right : (old : ℕ → ℕ) (page entries : List ℕ) (g j prefix new : ℕ) →
    ((r : ℕ) → r < 256 → slice_index page r ≡ old (256 * (j / 2) + r)) →
    ((r : ℕ) → r < 256 → (256 * j + r ≡ prefix → ⊥) → slice_index entries r ≡ slice_index page (128 * (j % 2) + r / 2)) →
    ((r : ℕ) → r < 256 → 256 * j + r ≡ prefix → slice_index entries r ≡ new) →
    (r : ℕ) → r < 256 → slice_index entries r ≡ target old g (g + 1) g prefix new (256 * j + r)
double_right old page entries g j prefix new was else here r h =
    rw target_double (elim (cases_eq (256 * j + r) prefix) [
      | inl e ↦ here r h e ∙ sym (cond-true _ new _ (eq-eqb _ _ e))
      | inr ne ↦
          let e : 256 * (j / 2) + (128 * (j % 2) + r / 2) ≡ (256 * j + r) / 2 = omega arith in
          else r h ne ∙ was (128 * (j % 2) + r / 2) (omega arith) ∙ ap old e ∙ sym (cond-false _ new _ (ne_eqb _ _ ne))
    ])

succ_times : (a n : ℕ) → (a + 1) * n ≡ a * n + n
succ_times a n = grind arith

-- in place: the run of n places from prefix * n on
off_below : (n prefix i : ℕ) → 0 < n → i < prefix * n → i / n ≡ prefix → ⊥
off_below n prefix i h k e = let d = div_below i n prefix h k in omega arith

off_above : (n prefix i : ℕ) → 0 < n → prefix * n + n ≤ i → i / n ≡ prefix → ⊥
off_above n prefix i h k e =
    let m : (prefix + 1) * n ≤ i = rw (succ_times prefix n) k in
    let d = le-div (prefix + 1) i n h m in
    omega arith

on_run : (n prefix i : ℕ) → prefix * n ≤ i → i < prefix * n + n → i / n ≡ prefix
on_run n prefix i h k =
    let e : prefix * n + (i - prefix * n) ≡ i = omega arith in
    rw (← e) (div-mul-add prefix n (i - prefix * n) (omega arith))

target_off : (old : ℕ → ℕ) (g l prefix new i : ℕ) → (i / 2 ^ (g - (l + 1)) ≡ prefix → ⊥) → target old g g l prefix new i ≡ old i
target_off old g l prefix new i ne =
    let b : g - g ≡ 0 = omega arith in
    let c : i / 2 ^ 0 ≡ i = omega arith in
    cond-false _ new _ (ne_eqb _ _ ne) ∙ rw (b, c) refl

module _ (base pages : ℕ → Option Page) (dirs : List ℕ) (g l prefix new : ℕ) (s : IsDirectory base g dirs) where
  abbrev run : ℕ
  run = 2 ^ (g - (l + 1))

  -- the old directory
  abbrev old : ℕ → ℕ
  old = entry base dirs

  pub place_none : (q0 : ℕ) → ((q : ℕ) → q < 2 ^ (g - 8) → pages (slice_index dirs q) ≡ base (slice_index dirs q)) → 256 * q0 ≤ prefix * run → q0 ≤ 2 ^ (g - 8) → IsFilling (directory_change dirs (target old g g l prefix new) old (2 ^ (g - 8))) pages dirs q0 q0
  place_none q0 same h m = record {
    filled = λ q r k n. rw (same q (omega arith)) (sym (entry_at base dirs q r n) ∙ sym (target_off old g l prefix new (256 * q + r) (off_below run prefix (256 * q + r) (pow_pos (g - (l + 1))) (omega arith))));
    sized = λ q k. rw (same q (omega arith)) (s.full q (omega arith));
    rest = λ q r k n o. rw (same q n) (sym (entry_at base dirs q r o));
    rest_sized = λ q k n. rw (same q n) (s.full q n);
    apart = λ q r k n o e. let f = s.once q r (omega arith) o e in omega arith;
    once = λ q r k n e. s.once q r (omega arith) (omega arith) e;
  }

  pub place_all : (q1 : ℕ) → IsFilling (directory_change dirs (target old g g l prefix new) old (2 ^ (g - 8))) pages dirs q1 q1 → prefix * run + run ≤ 256 * q1 → IsFilling (directory_change dirs (target old g g l prefix new) old (2 ^ (g - 8))) pages dirs (2 ^ (g - 8)) (2 ^ (g - 8))
  place_all q1 f h = record {
    filled = λ q r k n. elim (cases_lt q q1) [
      | inl lt ↦ f.filled q r lt n
      | inr le ↦ f.rest q r le k n ∙ sym (target_off old g l prefix new (256 * q + r) (off_above run prefix (256 * q + r) (pow_pos (g - (l + 1))) (omega arith)))
    ];
    sized = λ q k. elim (cases_lt q q1) [ inl lt ↦ f.sized q lt | inr le ↦ f.rest_sized q le k ];
    rest = λ q r k n o. absurd (omega arith);
    rest_sized = λ q k n. absurd (omega arith);
    apart = λ q r k n o e. absurd (omega arith);
    once = s.once;
  }

  -- a page whose entries in the run are the new page, and the others as they were
  pub place_right : (page entries : List ℕ) (q : ℕ) →
      ((r : ℕ) → r < 256 → slice_index page r ≡ old (256 * q + r)) →
      ((r : ℕ) → r < 256 → prefix * run ≤ 256 * q + r → 256 * q + r < prefix * run + run → slice_index entries r ≡ new) →
      ((r : ℕ) → r < 256 → (256 * q + r < prefix * run) ⊎ (prefix * run + run ≤ 256 * q + r) → slice_index entries r ≡ slice_index page r) →
      (r : ℕ) → r < 256 → slice_index entries r ≡ target old g g l prefix new (256 * q + r)
  place_right page entries q was inside outside r h =
      elim (cases_lt (256 * q + r) (prefix * run)) [
        | inl lt ↦ outside r h (inl lt) ∙ was r h ∙ sym (target_off old g l prefix new (256 * q + r) (off_below run prefix (256 * q + r) (pow_pos (g - (l + 1))) lt))
        | inr le ↦ elim (cases_lt (256 * q + r) (prefix * run + run)) [
          | inl lt ↦ inside r h le lt ∙ sym (cond-true _ new _ (eq-eqb _ _ (on_run run prefix (256 * q + r) le lt)))
          | inr up ↦ outside r h (inr up) ∙ was r h ∙ sym (target_off old g l prefix new (256 * q + r) (off_above run prefix (256 * q + r) (pow_pos (g - (l + 1))) up))
        ]
      ]

-- a place lies on one of the directory's pages
pub place_within : (g p : ℕ) → g ≤ 16 → p < 2 ^ g → (p / 256 < 256) × (p / 256 < 2 ^ (g - 8)) × (p % 256 < 256)
place_within g p small h =
    let listed = page_listed g p h in
    let few : g - 8 ≤ 8 = omega arith in
    let top : 2 ^ (g - 8) ≤ 2 ^ 8 = pow-le-pow_right {n = 2} (omega arith) few in
    (omega (arith, listed, top), listed, omega arith)
