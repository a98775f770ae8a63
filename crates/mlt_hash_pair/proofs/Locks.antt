-- Which pages the two descents hold, as one more is locked
use Rattle.std.proofs.Common.{◌≡◌, ◌≢◌, ◌⊎◌, ℕ, Option, None, Some, refl, sym, ap, subst, ◌∙◌, inl, inr, ◌==◌, eqb-true}
use Rattle.std.specs.FinMap as map
use Rattle.mlt_hash_pair.proofs.Names.{cases_eq, cond_both, Mode, Exclusive, Page, View, SeesMore, HoldsDescents, next_mode, next_page, descent_after, descent_by, HasRead, IsLocked, IsNext, Descent}
use Rattle.mlt_types.specs.declared.mode.Mode.TheVariants.{Shared}
use Rattle.mlt_page_locks.specs.Requests.{stronger, with_page}
use Rattle.mlt_hash_access.{specs.Reading.HasReadPlace, proofs.Views.mode_of_others, proofs.Views.mode_of_page}
use Rattle.mlt_hash_pair.proofs.{Nexts.KindIs, Nexts.after_next, Readings.read_after}

-- the mode in which pages of a kind are locked
abbrev mode_for : Page → Mode
mode_for (Page.Head header) = Shared
mode_for (Page.Dir entries) = Shared
mode_for (Page.Bucket fields) = Exclusive

-- a page is seen, and locked in the mode of its kind
abbrev SeenIn : View → ℕ → Mode → Type 0
SeenIn view q mode = (read : Page) × (view.seen q ≡ Some (Some read)) × (mode ≡ mode_for read)

-- each page of a descent is
placed_kind : (bits : ℕ → ℕ) (root key : ℕ) (view : View) (dir bucket q : ℕ) (mode : Mode) → HasReadPlace bits root key view dir bucket → IsLocked root (Descent.Placed dir bucket) q mode → SeenIn view q mode
placed_kind bits root key view dir bucket q mode read locked =
    elim locked.0 [
      | inl here ↦ (Page.Head read.header, ap view.seen here ∙ read.head, locked.1)
      | inr here ↦ (Page.Dir read.entries, ap view.seen here ∙ read.listed, locked.1)
    ]

locked_kind : (bits : ℕ → ℕ) (root key : ℕ) (view : View) (descent : Descent) (q : ℕ) (mode : Mode) → HasRead bits root key view descent → IsLocked root descent q mode → SeenIn view q mode
locked_kind bits root key view Descent.Start q mode read locked = absurd locked
locked_kind bits root key view (Descent.Headed place dir row) q mode read locked = (Page.Head read.header, ap view.seen locked.0 ∙ read.head, locked.1)
locked_kind bits root key view (Descent.Placed dir bucket) q mode read locked = placed_kind bits root key view dir bucket q mode read locked
locked_kind bits root key view (Descent.AtBucket dir bucket found) q mode read locked =
    elim locked [
      | inl before ↦ placed_kind bits root key view dir bucket q mode read.placed before
      | inr here ↦ (Page.Bucket read.fields, ap view.seen here.0 ∙ read.at, here.1)
    ]

module _ (bits : ℕ → ℕ) (root key : ℕ) (q : ℕ) (mode : Mode) where
  locked_by : (descent : Descent) (read : Page) → IsLocked root descent q mode → IsLocked root (descent_by bits key descent read) q mode
  locked_by Descent.Start read locked = absurd locked
  locked_by (Descent.Headed place dir row) (Page.Dir entries) locked = (inl locked.0, locked.1)
  locked_by (Descent.Headed place dir row) (Page.Head header) locked = locked
  locked_by (Descent.Headed place dir row) (Page.Bucket fields) locked = locked
  locked_by (Descent.Placed dir bucket) (Page.Bucket fields) locked = inl locked
  locked_by (Descent.Placed dir bucket) (Page.Head header) locked = locked
  locked_by (Descent.Placed dir bucket) (Page.Dir entries) locked = locked
  locked_by (Descent.AtBucket dir bucket found) (Page.Head header) locked = locked
  locked_by (Descent.AtBucket dir bucket found) (Page.Dir entries) locked = locked
  locked_by (Descent.AtBucket dir bucket found) (Page.Bucket fields) locked = locked

  -- a descent keeps its pages as it goes on,
  locked_on : (descent : Descent) (n : ℕ) (read : Page) → IsLocked root descent q mode → IsLocked root (descent_after bits root key descent n read) q mode
  locked_on descent n read locked = cond_both (n == next_page root descent) (descent_by bits key descent read) descent (λ w. IsLocked root w q mode) (λ here. locked_by descent read locked) (λ elsewhere. locked)

  back_by : (descent : Descent) (read : Page) → q ≢ next_page root descent → IsLocked root (descent_by bits key descent read) q mode → IsLocked root descent q mode
  back_by Descent.Start (Page.Head header) ne locked = absurd (ne locked.0)
  back_by Descent.Start (Page.Dir entries) ne locked = locked
  back_by Descent.Start (Page.Bucket fields) ne locked = locked
  back_by (Descent.Headed place dir row) (Page.Dir entries) ne locked =
      elim locked.0 [
        | inl here ↦ (here, locked.1)
        | inr here ↦ absurd (ne here)
      ]
  back_by (Descent.Headed place dir row) (Page.Head header) ne locked = locked
  back_by (Descent.Headed place dir row) (Page.Bucket fields) ne locked = locked
  back_by (Descent.Placed dir bucket) (Page.Bucket fields) ne locked =
      elim locked [
        | inl before ↦ before
        | inr here ↦ absurd (ne here.0)
      ]
  back_by (Descent.Placed dir bucket) (Page.Head header) ne locked = locked
  back_by (Descent.Placed dir bucket) (Page.Dir entries) ne locked = locked
  back_by (Descent.AtBucket dir bucket found) (Page.Head header) ne locked = locked
  back_by (Descent.AtBucket dir bucket found) (Page.Dir entries) ne locked = locked
  back_by (Descent.AtBucket dir bucket found) (Page.Bucket fields) ne locked = locked

  -- and gets no other than the page that is read
  locked_back : (descent : Descent) (n : ℕ) (read : Page) → q ≢ n → IsLocked root (descent_after bits root key descent n read) q mode → IsLocked root descent q mode
  locked_back descent n read ne = cond_both (n == next_page root descent) (descent_by bits key descent read) descent (λ w. IsLocked root w q mode → IsLocked root descent q mode)
      (λ here. back_by descent read (λ e. ne (e ∙ sym (eqb-true n (next_page root descent) here)))) (λ elsewhere locked. locked)

-- the page that is read is locked for the descent, in the mode of its kind
locked_here : (bits : ℕ → ℕ) (root key : ℕ) (descent : Descent) (read : Page) → KindIs descent read → IsLocked root (descent_by bits key descent read) (next_page root descent) (next_mode descent)
locked_here bits root key Descent.Start read kind = subst (λ p. IsLocked root (descent_by bits key Descent.Start p) root Shared) (sym kind.1) (refl, refl)
locked_here bits root key (Descent.Headed place dir row) read kind = subst (λ p. IsLocked root (descent_by bits key (Descent.Headed place dir row) p) dir Shared) (sym kind.1) (inr refl, refl)
locked_here bits root key (Descent.Placed dir bucket) read kind = subst (λ p. IsLocked root (descent_by bits key (Descent.Placed dir bucket) p) bucket Exclusive) (sym kind.1) (inr (refl, refl))
locked_here bits root key (Descent.AtBucket dir bucket found) read kind = absurd kind

mode_is : (descent : Descent) (read : Page) → KindIs descent read → next_mode descent ≡ mode_for read
mode_is (Descent.AtBucket dir bucket found) read kind = absurd kind
mode_is other read kind = sym (ap mode_for kind.1)

-- a page that is locked again in its mode keeps it
same_mode : (mode : Mode) → stronger (Some mode) mode ≡ mode
same_mode Shared = refl
same_mode Exclusive = refl

one_mode : (view : View) (q : ℕ) (mode : Mode) (read : Page) → view.seen q ≡ Some (Some read) → SeenIn view q mode → mode ≡ mode_for read
one_mode view q mode read sees seen =
    let both : Some (Some seen.0) ≡ Some (Some read) = sym seen.1 ∙ sees in
    let same : seen.0 ≡ read = cc in
    seen.2 ∙ ap mode_for same

module _ (bits : ℕ → ℕ) (root left_key right_key : ℕ) (old new : View) (left right lead : Descent) (n : ℕ) (read : Page)
    (more : SeesMore old new) (left_read : HasRead bits root left_key old left) (right_read : HasRead bits root right_key old right)
    (holds : HoldsDescents root left right old)
    (leads : (lead ≡ left) ⊎ (lead ≡ right)) (kind : KindIs lead read) (next : n ≡ next_page root lead) (is_next : IsNext root lead n)
    (modes : new.modes ≡ with_page old.modes n (next_mode lead)) (sees : new.seen n ≡ Some (Some read)) where
  abbrev left_after : Descent
  left_after = descent_after bits root left_key left n read

  abbrev right_after : Descent
  right_after = descent_after bits root right_key right n read

  -- the page has the mode of its kind,
  mode_of_kind : next_mode lead ≡ mode_for read
  mode_of_kind = mode_is lead read kind

  was_seen : (mode : Mode) → IsLocked root left n mode ⊎ IsLocked root right n mode → SeenIn old n mode
  was_seen mode (inl locked) = locked_kind bits root left_key old left n mode left_read locked
  was_seen mode (inr locked) = locked_kind bits root right_key old right n mode right_read locked

  is_seen : (q : ℕ) (mode : Mode) → IsLocked root left_after q mode ⊎ IsLocked root right_after q mode → SeenIn new q mode
  is_seen q mode (inl locked) = locked_kind bits root left_key new left_after q mode (read_after bits root left_key old new more left n read sees left_read) locked
  is_seen q mode (inr locked) = locked_kind bits root right_key new right_after q mode (read_after bits root right_key old new more right n read sees right_read) locked

  strong : (held : Option Mode) → map.get old.modes n ≡ held → stronger held (next_mode lead) ≡ next_mode lead
  strong None is = refl
  strong (Some mode) is =
      let seen = was_seen mode ((holds n mode).0 is) in
      let same : mode ≡ next_mode lead = one_mode new n mode read sees (seen.0, more n (Some seen.0) seen.1, seen.2) ∙ sym mode_of_kind in
      ap (λ mode. stronger (Some mode) (next_mode lead)) same ∙ same_mode (next_mode lead)

  here : map.get new.modes n ≡ Some (next_mode lead)
  here = ap (λ modes. map.get modes n) modes ∙ mode_of_page old.modes n (next_mode lead) ∙ ap Some (strong (map.get old.modes n) refl)

  elsewhere : (q : ℕ) → q ≢ n → map.get new.modes q ≡ map.get old.modes q
  elsewhere q ne = ap (λ modes. map.get modes q) modes ∙ mode_of_others old.modes n (next_mode lead) q ne

  -- it is locked for the descent that leads,
  lead_locks : (key : ℕ) (descent : Descent) → lead ≡ descent → IsLocked root (descent_after bits root key descent n read) n (next_mode lead)
  lead_locks key descent same = subst (λ w. IsLocked root (descent_after bits root key w n read) n (next_mode lead)) same
      (subst (λ w. IsLocked root w n (next_mode lead)) (sym (after_next bits root key lead n read is_next))
      (subst (λ q. IsLocked root (descent_by bits key lead read) q (next_mode lead)) (sym next) (locked_here bits root key lead read kind)))

  locks_it : IsLocked root left_after n (next_mode lead) ⊎ IsLocked root right_after n (next_mode lead)
  locks_it =
      elim leads [
        | inl same ↦ inl (lead_locks left_key left same)
        | inr same ↦ inr (lead_locks right_key right same)
      ]

  to_descents : (q : ℕ) (mode : Mode) → map.get new.modes q ≡ Some mode → IsLocked root left_after q mode ⊎ IsLocked root right_after q mode
  to_descents q mode held =
      elim (cases_eq q n) [
        | inl same ↦
            let both : Some (next_mode lead) ≡ Some mode = sym here ∙ sym (ap (map.get new.modes) same) ∙ held in
            let is : next_mode lead ≡ mode = cc in
            subst (λ q. IsLocked root left_after q mode ⊎ IsLocked root right_after q mode) (sym same)
            (subst (λ mode. IsLocked root left_after n mode ⊎ IsLocked root right_after n mode) is locks_it)
        | inr ne ↦ elim ((holds q mode).0 (sym (elsewhere q ne) ∙ held)) [
          | inl locked ↦ inl (locked_on bits root left_key q mode left n read locked)
          | inr locked ↦ inr (locked_on bits root right_key q mode right n read locked)
        ]
      ]

  was_locked : (q : ℕ) (mode : Mode) → q ≢ n → IsLocked root left_after q mode ⊎ IsLocked root right_after q mode → IsLocked root left q mode ⊎ IsLocked root right q mode
  was_locked q mode ne (inl locked) = inl (locked_back bits root left_key q mode left n read ne locked)
  was_locked q mode ne (inr locked) = inr (locked_back bits root right_key q mode right n read ne locked)

  from_descents : (q : ℕ) (mode : Mode) → IsLocked root left_after q mode ⊎ IsLocked root right_after q mode → map.get new.modes q ≡ Some mode
  from_descents q mode locked =
      elim (cases_eq q n) [
        | inl same ↦ ap (map.get new.modes) same ∙ here ∙ ap Some (mode_of_kind ∙ sym (one_mode new q mode read (ap new.seen same ∙ sees) (is_seen q mode locked)))
        | inr ne ↦ elsewhere q ne ∙ (holds q mode).1 (was_locked q mode ne locked)
      ]

  -- **Once a page is locked, exactly the pages of the two descents are held.**
  pub holds_after : HoldsDescents root left_after right_after new
  holds_after q mode = (to_descents q mode, from_descents q mode)
