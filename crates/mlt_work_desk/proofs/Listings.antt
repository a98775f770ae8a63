-- Lists that are read bit by bit
use Rattle.std.proofs.Common.{◌≡◌, ◌∙◌, ◌<◌, ◌≤◌, ◌+◌, ◌-◌, ◌*◌, ◌/◌, ◌%◌, ◌^◌, ℕ, Bool, true, false, cond, eqb, ltb, List, [], ◌∷◌, ◌++◌, map, option_to_list, Option, None, Some, ap, append-nil, append_assoc, refl, subst, sym, inl, inr, arith, pow_pos, mod-lt, div-lt_iff_lt-mul, div-add-mod', add-mul, one-mul, mul-div_cancel, shr-shr}
use Rattle.std.proofs.lemmas.{Bool.cases_Bool, Bool.cases_lt, Bool.cond-false, Bool.cond-true, Bool.eq-eqb, Bool.eqb-true, Bool.le-ltb, Bool.lt-ltb, Bool.ltb_from_iff, Nat.le-div, List.Concat.flat_map-append, List.Elements.Contains-append_right}
use Rattle.mlt_hash_form.proofs.Bits.{first_bits_below}
use Rattle.mlt_page.specs.{Bits.first_bits, Values.BucketFields, declared.slot.Slot.Slot, declared.slot.Slot.TheVariants.Free, declared.slot.Slot.TheVariants.Ghost, declared.slot.Slot.TheVariants.Live}
use Rattle.mlt_manager.specs.{CleanBuckets.Finds, CleanBuckets.IsBucketOfPseudokey, CleanBuckets.live_value, CleanBuckets.live_values, Managers.ManagerFields}
use Rattle.mlt_work_desk.specs.declared.listing.ListedRecord.{ListedRecord}
use Rattle.mlt_work_desk.specs.Listings.{AddsRecords, AreFound, AreNotFound, AreReadings, Reading, TellsFound, TellsOne, all_told, place_behind, place_of, record_in, records_in, start_of, told_value, told_values}

-- ## What slots tell

abbrev nothing : List ℕ
nothing = []

none_either_way : (b : Bool) → cond b nothing nothing ≡ nothing
none_either_way true = refl
none_either_way false = refl

both_or_none : (b : Bool) (xs ys : List ℕ) → cond b [] xs ++ cond b [] ys ≡ cond b [] (xs ++ ys)
both_or_none true xs ys = refl
both_or_none false xs ys = refl

module _ (key : ℕ) where
  told_append : (xs ys : List ListedRecord) → told_values key (xs ++ ys) ≡ told_values key xs ++ told_values key ys
  told_append xs ys = flat_map-append (told_value key) xs ys

  one_told : (b : Bool) (other value : ℕ) → told_values key (cond b [] ((record { key = other; value = value }) ∷ [])) ≡ cond b [] (cond (eqb other key) (value ∷ []) [])
  one_told true other value = refl
  one_told false other value = append-nil (cond (eqb other key) (value ∷ []) [])

  module _ (bits : ℕ → ℕ) (place : ℕ) where
    abbrev is_before : ℕ → Bool
    is_before k = ltb (place_of (bits k)) place

    told_of_slot : (s : Slot) → told_values key (record_in bits place s) ≡ cond (is_before key) [] (live_value key s)
    told_of_slot Free = sym (none_either_way (is_before key))
    told_of_slot (Ghost other value owner) = sym (none_either_way (is_before key))
    told_of_slot (Live other value) =
        one_told (is_before other) other value ∙ elim (cases_Bool (eqb other key)) [
          | inl same ↦ ap (λ (k : ℕ). cond (is_before k) [] (cond (eqb other key) (value ∷ []) [])) (eqb-true other key same)
          | inr not ↦
              ap (λ (l : List ℕ). cond (is_before other) [] l) (cond-false _ _ _ not)
              ∙ none_either_way (is_before other)
              ∙ sym (none_either_way (is_before key))
              ∙ sym (ap (λ (l : List ℕ). cond (is_before key) [] l) (cond-false (eqb other key) (value ∷ []) [] not))
        ]

    told_of_slots : (slots : List Slot) → told_values key (records_in bits place slots) ≡ cond (is_before key) [] (live_values key slots)
    told_of_slots [] = sym (none_either_way (is_before key))
    told_of_slots (slot ∷ rest) =
        told_append (record_in bits place slot) (records_in bits place rest)
        ∙ ap (λ (l : List ℕ). l ++ told_values key (records_in bits place rest)) (told_of_slot slot)
        ∙ ap (λ (l : List ℕ). cond (is_before key) [] (live_value key slot) ++ l) (told_of_slots rest)
        ∙ both_or_none (is_before key) (live_value key slot) (live_values key rest)

-- ## The places of a bucket

-- the first bits of the first bits
front : (depth x : ℕ) → depth ≤ 32 → place_of x / 2 ^ (32 - depth) ≡ first_bits depth x
front depth x low =
    let sum : 32 + (32 - depth) ≡ 64 - depth = omega (arith, low) in
    shr-shr x 32 (32 - depth) ∙ ap (λ (n : ℕ). x / 2 ^ n) sum

module _ (place p count : ℕ) (some : 0 < count) (later : place ≤ p) where
  behind_is : place - place % count + count ≡ (place / count + 1) * count
  behind_is =
      let whole = div-add-mod' place count in
      let more : (place / count + 1) * count ≡ place / count * count + count = add-mul (place / count) 1 count ∙ ap (λ (n : ℕ). place / count * count + n) (one-mul count) in
      omega (arith, whole, more)

  same_front : p / count ≡ place / count → p < place - place % count + count
  same_front same =
      let low : p / count < place / count + 1 = omega (arith, same) in
      subst (λ (n : ℕ). p < n) (sym behind_is) ((div-lt_iff_lt-mul some).0 low)

  front_same : p < place - place % count + count → p / count ≡ place / count
  front_same before =
      let low : p / count < place / count + 1 = (div-lt_iff_lt-mul some).1 (subst (λ (n : ℕ). p < n) behind_is before) in
      let whole = div-add-mod' place count in
      let least : place / count ≤ p / count = le-div (place / count) p count some (omega (arith, whole, later)) in
      omega (arith, low, least)

-- the start behind a bucket is behind its place,
start_behind : (place depth p : ℕ) → p < 2 ^ 32 → (p < start_of (place_behind place depth) → p < place - place % 2 ^ (32 - depth) + 2 ^ (32 - depth))
    × (p < place - place % 2 ^ (32 - depth) + 2 ^ (32 - depth) → p < start_of (place_behind place depth))
start_behind place depth p few =
    let count = 2 ^ (32 - depth) in
    let behind = place - place % count + count in
    elim (cases_lt behind (2 ^ 32)) [
      | inl within ↦
          let is : place_behind place depth ≡ Some behind = cond-true _ _ _ (lt-ltb behind (2 ^ 32) within) in
          (λ before. subst (λ (n : Option ℕ). p < start_of n) is before, λ before. subst (λ (n : Option ℕ). p < start_of n) (sym is) before)
      | inr past ↦
          let is : place_behind place depth ≡ None = cond-false _ _ _ (le-ltb behind (2 ^ 32) past) in
          (λ before. omega (arith, few, past), λ before. subst (λ (n : Option ℕ). p < start_of n) (sym is) few)
    ]

-- and no less
starts_later : (place depth : ℕ) → place < 2 ^ 32 → place ≤ start_of (place_behind place depth)
starts_later place depth few =
    let count = 2 ^ (32 - depth) in
    let behind = place - place % count + count in
    let most = mod-lt place {m = count} (pow_pos (32 - depth)) in
    let whole = div-add-mod' place count in
    let after : place ≤ behind = omega (arith, most, whole) in
    elim (cases_lt behind (2 ^ 32)) [
      | inl within ↦
          let is : place_behind place depth ≡ Some behind = cond-true _ _ _ (lt-ltb behind (2 ^ 32) within) in
          subst (λ (n : Option ℕ). place ≤ start_of n) (sym is) after
      | inr past ↦
          let is : place_behind place depth ≡ None = cond-false _ _ _ (le-ltb behind (2 ^ 32) past) in
          subst (λ (n : Option ℕ). place ≤ start_of n) (sym is) (omega (arith, few))
    ]

-- ## What is told from one place to another

module _ (place : ℕ → ℕ) (found : ℕ → Option ℕ) where
  -- what is told of a key
  abbrev told_between : Option ℕ → Option ℕ → ℕ → List ℕ
  told_between from next key = cond (ltb (place key) (start_of from)) [] (cond (ltb (place key) (start_of next)) (option_to_list (found key)) [])

  between_before : (from next : Option ℕ) (key : ℕ) → place key < start_of from → told_between from next key ≡ []
  between_before from next key before = cond-true _ _ _ (lt-ltb (place key) (start_of from) before)

  between_within : (from next : Option ℕ) (key : ℕ) → start_of from ≤ place key → place key < start_of next → told_between from next key ≡ option_to_list (found key)
  between_within from next key since before = cond-false _ _ _ (le-ltb (place key) (start_of from) since) ∙ cond-true _ _ _ (lt-ltb (place key) (start_of next) before)

  between_behind : (from next : Option ℕ) (key : ℕ) → start_of from ≤ start_of next → start_of next ≤ place key → told_between from next key ≡ []
  between_behind from next key order behind =
      cond-false _ _ _ (le-ltb (place key) (start_of from) (omega (arith, order, behind))) ∙ cond-false _ _ _ (le-ltb (place key) (start_of next) behind)

  tells_none : (from : Option ℕ) (key : ℕ) → told_between from from key ≡ []
  tells_none from key =
      elim (cases_lt (place key) (start_of from)) [
        | inl before ↦ between_before from from key before
        | inr since ↦ between_behind from from key (omega arith) since
      ]

  pub tells_both : (from middle next : Option ℕ) (one two : List ListedRecord) → start_of from ≤ start_of middle → start_of middle ≤ start_of next
      → TellsFound place found from middle one → TellsFound place found middle next two → TellsFound place found from next (one ++ two)
  tells_both from middle next one two first second tells_one tells_two key =
      told_append key one two
      ∙ ap (λ (l : List ℕ). l ++ told_values key two) (tells_one key)
      ∙ ap (λ (l : List ℕ). told_between from middle key ++ l) (tells_two key)
      ∙ elim (cases_lt (place key) (start_of from)) [
        | inl before ↦
            ap (λ (l : List ℕ). l ++ told_between middle next key) (between_before from middle key before)
            ∙ between_before middle next key (omega (arith, before, first))
            ∙ sym (between_before from next key before)
        | inr since ↦ elim (cases_lt (place key) (start_of middle)) [
          | inl within ↦
              ap (λ (l : List ℕ). told_between from middle key ++ l) (between_before middle next key within)
              ∙ append-nil (told_between from middle key)
              ∙ between_within from middle key since within
              ∙ sym (between_within from next key since (omega (arith, within, second)))
          | inr later ↦
              ap (λ (l : List ℕ). l ++ told_between middle next key) (between_behind from middle key first later)
              ∙ cond-false _ _ _ (le-ltb (place key) (start_of middle) later)
              ∙ sym (cond-false _ _ _ (le-ltb (place key) (start_of from) since))
        ]
      ]

module _ {P : Type 0} (bits_of : P → ℕ → ℕ) (m : ManagerFields P) (bounded : (key : ℕ) → bits_of m.root.pseudo key < 2 ^ 64) where
  abbrev bits : ℕ → ℕ
  bits = bits_of m.root.pseudo

  abbrev key_place : ℕ → ℕ
  key_place key = place_of (bits key)

  few_places : (key : ℕ) → key_place key < 2 ^ 32
  few_places key = first_bits_below 32 (bits key) (omega arith) (bounded key)

  module _ (place : ℕ) (few : place < 2 ^ 32) (bucket : BucketFields) (is : IsBucketOfPseudokey bits_of m (place * 2 ^ 32) bucket) where
    abbrev next : Option ℕ
    next = place_behind place bucket.depth

    abbrev agrees : ℕ → Bool
    agrees key = eqb (first_bits bucket.depth (bits key)) (first_bits bucket.depth (place * 2 ^ 32))

    here : place_of (place * 2 ^ 32) ≡ place
    here = mul-div_cancel place (pow_pos 32)

    agrees_before : (key : ℕ) → place ≤ key_place key → agrees key ≡ ltb (key_place key) (start_of next)
    agrees_before key later =
        let count = 2 ^ (32 - bucket.depth) in
        let some : 0 < count = pow_pos (32 - bucket.depth) in
        let mine = front bucket.depth (bits key) is.shallow in
        let other : place / count ≡ first_bits bucket.depth (place * 2 ^ 32) = ap (λ (n : ℕ). n / count) (sym here) ∙ front bucket.depth (place * 2 ^ 32) is.shallow in
        let ends = start_behind place bucket.depth (key_place key) (few_places key) in
        ltb_from_iff (
          λ same. ends.1 (same_front place (key_place key) count some later (mine ∙ eqb-true _ _ same ∙ sym other)),
          λ before. eq-eqb _ _ (sym mine ∙ front_same place (key_place key) count some later (ends.0 before) ∙ other),
        )

    -- **The records of a bucket from a place on are what is found of the keys from there on up to the place behind it.**
    pub bucket_tells : (found : ℕ → Option ℕ) → Finds bits_of m found → TellsFound key_place found (Some place) next (records_in bits place bucket.slots)
    bucket_tells found finds key =
        told_of_slots key bits place bucket.slots ∙ elim (cases_lt (key_place key) place) [
          | inl before ↦
              let test = lt-ltb (key_place key) place before in
              cond-true _ _ _ test ∙ sym (cond-true _ _ _ test)
          | inr later ↦
              let test = le-ltb (key_place key) place later in
              cond-false _ _ _ test
              ∙ is.has found finds key
              ∙ ap (λ (b : Bool). cond b (option_to_list (found key)) []) (agrees_before key later)
              ∙ sym (cond-false _ _ _ test)
        ]

    pub adds_bucket : (old : List ListedRecord) → AddsRecords bits_of m (Some place) old (old ++ records_in bits place bucket.slots) next
    adds_bucket old = record {
      added = records_in bits place bucket.slots;
      list = refl;
      tells = bucket_tells;
      goes_on = starts_later place bucket.depth few;
    }

  pub adds_none : (from : Option ℕ) (old : List ListedRecord) → AddsRecords bits_of m from old old from
  adds_none from old = record {
    added = [];
    list = sym (append-nil old);
    tells = λ found finds key. sym (tells_none key_place found from key);
    goes_on = omega arith;
  }

  -- **What is added after what was added.**
  pub adds_both : (from middle next : Option ℕ) (old kept new : List ListedRecord) → AddsRecords bits_of m from old kept middle → AddsRecords bits_of m middle kept new next → AddsRecords bits_of m from old new next
  adds_both from middle next old kept new first second = record {
    added = first.added ++ second.added;
    list = second.list ∙ ap (λ (l : List ListedRecord). l ++ second.added) first.list ∙ append_assoc old first.added second.added;
    tells = λ found finds. tells_both key_place found from middle next first.added second.added first.goes_on second.goes_on (first.tells found finds) (second.tells found finds);
    goes_on = let one = first.goes_on in let two = second.goes_on in omega (arith, one, two);
  }

-- ## Readings that follow one another

module _ (place : ℕ → ℕ) (key : ℕ) where
  -- what is told of a key before their first place,
  told_before : (from next : Option ℕ) (readings : List Reading) → AreReadings place from readings next → place key < start_of from → told_values key (all_told readings) ≡ []
  told_before from next [] are before = refl
  told_before from next (reading ∷ rest) (is, tells, order, more) before =
      let early : place key < start_of reading.from = subst (λ (n : Option ℕ). place key < start_of n) is before in
      told_append key reading.told (all_told rest)
      ∙ ap (λ (l : List ℕ). l ++ told_values key (all_told rest)) (tells key ∙ between_before place reading.found reading.from reading.next key early)
      ∙ told_before reading.next next rest more (omega (arith, early, order))

  -- of one that is never found,
  absent_between : (from next : Option ℕ) (found : ℕ → Option ℕ) → found key ≡ None → told_between place found from next key ≡ []
  absent_between from next found absent =
      ap (λ (o : Option ℕ). cond (ltb (place key) (start_of from)) [] (cond (ltb (place key) (start_of next)) (option_to_list o) [])) absent
      ∙ ap (λ (l : List ℕ). cond (ltb (place key) (start_of from)) [] l) (none_either_way (ltb (place key) (start_of next)))
      ∙ none_either_way (ltb (place key) (start_of from))

  pub told_never : (from next : Option ℕ) (readings : List Reading) → AreReadings place from readings next → AreNotFound key readings → told_values key (all_told readings) ≡ []
  told_never from end [] are none = refl
  told_never from end (reading ∷ rest) (is, tells, order, more) (absent, none) =
      told_append key reading.told (all_told rest)
      ∙ ap (λ (l : List ℕ). l ++ told_values key (all_told rest)) (tells key ∙ absent_between reading.from reading.next reading.found absent)
      ∙ told_never reading.next end rest more none

  -- **Of one that is always found, behind their first place and before their last.**
  pub told_once : (from next : Option ℕ) (readings : List Reading) → AreReadings place from readings next → AreFound key readings → start_of from ≤ place key → place key < start_of next → TellsOne key readings
  told_once from next [] are found since before = absurd (let same = ap start_of are in omega (arith, same, since, before))
  told_once from next (reading ∷ rest) (is, tells, order, more) (here, found) since before =
      let later : start_of reading.from ≤ place key = subst (λ (n : Option ℕ). start_of n ≤ place key) is since in
      elim (cases_lt (place key) (start_of reading.next)) [
        | inl within ↦ (
          here.0,
          told_append key reading.told (all_told rest)
              ∙ ap (λ (l : List ℕ). l ++ told_values key (all_told rest)) (tells key ∙ between_within place reading.found reading.from reading.next key later within ∙ ap option_to_list here.1)
              ∙ ap (λ (l : List ℕ). here.0 ∷ l) (told_before reading.next next rest more within),
          (0, omega arith, here.1),
        )
        | inr behind ↦
            let one = told_once reading.next next rest more found behind before in (
              one.0,
              told_append key reading.told (all_told rest)
                  ∙ ap (λ (l : List ℕ). l ++ told_values key (all_told rest)) (tells key ∙ between_behind place reading.found reading.from reading.next key order behind)
                  ∙ one.1,
              Contains-append_right (reading.found key ∷ []) (map (λ r. r.found key) rest) (Some one.0) one.2,
            )
      ]
