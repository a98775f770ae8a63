-- The sizes that are kept beside the elements of a base are those of their sets.
use Rattle.std.proofs.Common.{◌≡◌, ◌≢◌, ℕ, ◌+◌, ◌^◌, ◌<◌, ◌≤◌, Bool, true, false, cond, List, [], is_some, refl, sym, ap, subst, ◌∙◌, inl, inr, arith, nat_cmp}
use Rattle.mlt_object_base.proofs.Names.{cases_eq, with_entry, Base, element_cmp, element_entry, size_at, element_cmp_tells_apart, element_cmp_total, entry_beside, size_below, AreCounted, base_of, kept_size, with_nothing}
use Rattle.std.specs.FinMap as finmap
use Rattle.mlt_object_kinds.proofs.Sizes.{same_size, size_beside_element, size_of_empty, size_with_element}
use Rattle.mlt_object_base.specs.Kept.{size_in}

-- the elements of sets
abbrev pub Elements : Type 0
Elements = finmap.FinMap element_cmp (Unit {0})

abbrev of_elements : Elements → Base
of_elements elements = base_of finmap.empty elements finmap.empty

abbrev pub elements_of : List (ℕ × ℕ) → Elements
elements_of keys = finmap.from_entries {R = element_cmp} (with_nothing keys)

-- the size of a set of a base is that of the set among its elements
pub size_in_base : (accounts counters : finmap.FinMap nat_cmp ℕ) (elements : Elements) (b : Base) (set : ℕ) → base_of accounts elements counters ≡ b → size_in elements set ≡ size_at b set
size_in_base accounts counters elements b set is = same_size (of_elements elements) (base_of accounts elements counters) set (λ e. refl) ∙ ap (λ (b : Base). size_at b set) is

-- nothing is counted where there is nothing
pub nothing_counted : AreCounted [] []
nothing_counted = (
  λ set. sym (size_of_empty set),
  λ set element there.
      let nothing : is_some (finmap.get (elements_of []) (set, element)) ≡ false = ap is_some (finmap.get-empty element_cmp (set, element)) in
      absurd (cc (there, nothing)),
)

module _ (keys : List (ℕ × ℕ)) (sizes : List (ℕ × ℕ)) (counted : AreCounted keys sizes) where
  -- no set has more elements than there are numbers
  pub few_counted : (set : ℕ) → kept_size sizes set ≤ 2 ^ 32
  few_counted set =
      let few : size_in (elements_of keys) set ≤ 2 ^ 32 = size_below (2 ^ 32) (of_elements (elements_of keys)) set (λ e. counted.1 set e) in
      let is = counted.0 set in
      omega (arith, few, is)

  -- a set with an element has one at least
  pub one_counted : (set element : ℕ) → is_some (finmap.get (elements_of keys) (set, element)) ≡ true → 1 ≤ kept_size sizes set
  one_counted set element there =
      let is = counted.0 set in
      let less = size_with_element (of_elements (elements_of keys)) set element false in
      let here : cond (is_some (finmap.get (elements_of keys) (set, element))) 1 0 ≡ 1 = ap (λ b. cond {A = ℕ} b 1 0) there in
      omega (arith, is, less, here)

  module _ (set element : ℕ) (present : Bool) (keys' sizes' : List (ℕ × ℕ)) (now : elements_of keys' ≡ with_entry (elements_of keys) (set, element) (element_entry present)) where
    -- sets whose sizes follow when an element comes or goes
    pub still_counted : kept_size sizes' set + cond (is_some (finmap.get (elements_of keys) (set, element))) 1 0 ≡ kept_size sizes set + cond present 1 0
        → ((s : ℕ) → s ≢ set → kept_size sizes' s ≡ kept_size sizes s) → element < 2 ^ 32 → AreCounted keys' sizes'
    still_counted here beside range =
        let before = elements_of keys in
        let after = with_entry before (set, element) (element_entry present) in
        let changes : size_in after set + cond (is_some (finmap.get before (set, element))) 1 0 ≡ size_in before set + cond present 1 0 =
        size_with_element (of_elements before) set element present
        in
        let was = counted.0 set in
        let size_here : kept_size sizes' set ≡ size_in after set = omega (arith, here, changes, was) in
        let sizes_after : (s : ℕ) → kept_size sizes' s ≡ size_in after s = λ s.
        elim (cases_eq s set) [
          | inl e ↦ subst (λ s. kept_size sizes' s ≡ size_in after s) (sym e) size_here
          | inr n ↦ beside s n ∙ counted.0 s ∙ sym (size_beside_element (of_elements before) set element present s (λ e. n (sym e)))
        ]
        in
        let small_after : (s e : ℕ) → is_some (finmap.get after (s, e)) ≡ true → e < 2 ^ 32 = λ s e there.
        elim (cases_eq e element) [
          | inl is ↦ subst (λ e. e < 2 ^ 32) (sym is) range
          | inr n ↦
              let apart : ◌≢◌ {A = ℕ × ℕ} (s, e) (set, element) = λ same. n (ap (λ (k : ℕ × ℕ). k.1) same) in
              counted.1 s e (ap is_some (sym (entry_beside element_cmp_total element_cmp_tells_apart before (set, element) (element_entry present) (s, e) apart)) ∙ there)
        ]
        in
        subst (λ (m : Elements). ((s : ℕ) → kept_size sizes' s ≡ size_in m s) × ((s e : ℕ) → is_some (finmap.get m (s, e)) ≡ true → e < 2 ^ 32)) (sym now) (sizes_after, small_after)
