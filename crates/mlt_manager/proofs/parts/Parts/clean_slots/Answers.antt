use Rattle.std.proofs.Common.{◌≡◌, ℕ, ◌+◌, ◌*◌, ◌/◌, ◌%◌, ◌<◌, ◌≤◌, ◌^◌, ◌++◌, List, Some, slice_index, sym, ap, subst, ◌∙◌, arith}
use Rattle.std.{specs.Int.div_ceil, proofs.Math.Nat.le-min, proofs.Math.Nat.min-le_left, proofs.Math.Nat.min-le_right, proofs.lemmas.Grind.div_ceil_times}
use Rattle.std.specs.FinMap as map
use Rattle.mlt_manager.proofs.Names.{pow-le-pow_right, BucketFields, Page, Slot, fields_of}
use Rattle.mlt_hash_form.specs.File.{dirs_of}
use Rattle.mlt_manager.{specs.Images.HasSlotsBelow, proofs.ListedSlots.all_listed, proofs.ListedSlots.bucket_listed, proofs.ListedSlots.fewer_listed}
use Rattle.mlt_manager.proofs.parts.Parts.clean_slots.Goals as goal

-- how many places there are
places_are : (depth : ℕ) → depth ≤ 16 → 1 * 2 ^ depth % 2 ^ 64 ≡ 2 ^ depth
places_are depth low = let most : 2 ^ depth ≤ 2 ^ 16 = pow-le-pow_right {n = 2} (omega arith) low in omega (arith, most)

-- each page of the directory has its first place, and all of them have all places
has_first : (places pages number : ℕ) → pages ≡ div_ceil places 256 → number < pages → number * 256 < places
has_first places pages number is within =
    let bound : pages * 256 < places + 256 = subst (λ (n : ℕ). n * 256 < places + 256) (sym is) (div_ceil_times places 256 (omega arith)).1 in
    omega (arith, within, bound)

has_all : (places pages : ℕ) → pages ≡ div_ceil places 256 → places ≤ pages * 256
has_all places pages is = subst (λ (n : ℕ). places ≤ n * 256) (sym is) (div_ceil_times places 256 (omega arith)).0

pub clean_directory-directory-requires : goal.clean_directory-directory-requires
clean_directory-directory-requires g c =
    let places = places_are c.depth.result c.depth.ensures.most in
    let first = has_first (1 * 2 ^ c.depth.result % 2 ^ 64) c.div_ceil-number-end.result c.loop-number.number c.div_ceil-number-end.ensures c.loop-number-test.true in
    record { sound = c.requires.sound; within = (c.depth.result, c.depth.ensures.depth, omega (arith, places, first)) }

pub loop-place-init : goal.loop-place-init
loop-place-init g c =
    let places = places_are c.depth.result c.depth.ensures.most in
    let within = has_first (1 * 2 ^ c.depth.result % 2 ^ 64) c.div_ceil-number-end.result c.loop-number.number c.div_ceil-number-end.ensures c.loop-number-test.true in
    c.loop-number.invariant (c.loop-number.number * 256) (omega arith) (omega (arith, within))

pub bucket_in-bucket-requires-clause-within : goal.bucket_in-bucket-requires-clause-within
bucket_in-bucket-requires-clause-within g c =
    let places = places_are c.depth.result c.depth.ensures.most in
    let last = min-le_left (1 * 2 ^ c.depth.result % 2 ^ 64) (c.loop-number.number * 256 + 256) in
    let end = c.min-place-end.ensures in
    let within = c.loop-place-test.true in
    (c.depth.result, c.depth.ensures.depth, omega (arith, places, last, end, within))

pub bucket_in-bucket-requires-clause-directory : goal.bucket_in-bucket-requires-clause-directory
bucket_in-bucket-requires-clause-directory g c = λ clean is.
    let last = min-le_right (1 * 2 ^ c.depth.result % 2 ^ 64) (c.loop-number.number * 256 + 256) in
    let end = c.min-place-end.ensures in
    let from = c.loop-place.auto.place in
    let within = c.loop-place-test.true in
    let same : c.loop-number.number * 256 / 256 ≡ c.loop-place.place / 256 = omega (arith, last, end, from, within) in
    subst (λ (at : ℕ). map.get clean (slice_index (dirs_of (map.get clean) c.args.self.now.root.page) at) ≡ Some (Page.Dir c.clean_directory-directory.result.now)) same
    (c.clean_directory-directory.ensures.directory clean is)

pub loop-place-preserved : goal.loop-place-preserved
loop-place-preserved g c =
    let m = fields_of c.args.self.now in
    let before = c.loop-place.slots.items in
    let bucket = c.bucket_in-bucket.result.now in
    let items : c.extend_from_slice.new.self.items ≡ before ++ bucket.slots = c.in_ok-extend_from_slice.ensures.items ∙ ap (λ (b : BucketFields). before ++ b.slots) c.bucket.view_is in
    subst (λ (slots : List Slot). HasSlotsBelow m slots (c.loop-place.place + 1)) (sym items)
    (bucket_listed g.P.Pseudo.bits_of m c.requires.sound c.loop-place.place bucket before c.bucket_in-bucket.ensures.bucket c.loop-place.invariant)

pub loop-number-preserved : goal.loop-number-preserved
loop-number-preserved g c = λ count few most.
    let least : count ≤ c.min-place-end.result = subst (λ (n : ℕ). count ≤ n) (sym c.min-place-end.ensures) (le-min most (omega (arith, few))) in
    let over = c.loop-place-test.false in
    fewer_listed g.P.Pseudo.bits_of (fields_of c.args.self.now) c.requires.sound c.loop-place.slots.items count c.loop-place.place (omega (arith, least, over)) c.loop-place.invariant

pub returns-clause-slots : goal.returns-clause-slots
returns-clause-slots g c =
    let m = fields_of c.args.self.now in
    let places = places_are c.depth.result c.depth.ensures.most in
    let all = has_all (1 * 2 ^ c.depth.result % 2 ^ 64) c.div_ceil-number-end.result c.div_ceil-number-end.ensures in
    let over = c.loop-number-test.false in
    let listed = c.loop-number.invariant (2 ^ c.depth.result) (omega (arith, places, all, over)) (omega (arith, places)) in
    all_listed g.P.Pseudo.bits_of m c.requires.sound c.loop-number.slots.items (2 ^ c.depth.result) c.depth.result c.depth.ensures.depth (omega arith) listed
