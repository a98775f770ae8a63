-- What the next page of a descent is on the clean pages, and how far the descent is once it is read
use Rattle.std.proofs.Common.{◌≡◌, ◌≢◌, ℕ, ◌<◌, ◌+◌, ◌^◌, true, List, Option, Some, is_some, refl, sym, ap, ◌∙◌, inl, inr, arith, ◌==◌, eq-eqb, ne_eqb}
use Rattle.mlt_hash_pair.proofs.Names.{cases_eq, cond-false, cond-true, BucketFields, HeadFields, Page, HasForm, header_of, Agrees, View, next_page, descent_after, descent_by, HasRead, IsNext, pages_to_read, Descent}
use Rattle.mlt_hash_form.proofs.Paths.{one_page, path_from_dir, path_from_header}
use Rattle.mlt_hash_pair.specs.Steps.{ReadsOn}

-- the clean pages have the next page of the descent, and it is of the kind that the descent reads
abbrev pub NextIs : (ℕ → Option Page) → ℕ → Descent → Type 0
NextIs clean root Descent.Start = (header : HeadFields) × (clean root ≡ Some (Page.Head header))
NextIs clean root (Descent.Headed place dir row) = (entries : List ℕ) × (clean dir ≡ Some (Page.Dir entries))
NextIs clean root (Descent.Placed dir bucket) = (fields : BucketFields) × (clean bucket ≡ Some (Page.Bucket fields))
NextIs clean root (Descent.AtBucket dir bucket found) = Unit {0}

-- **The next page of a descent is on the clean pages.**
pub next_is : (bits : ℕ → ℕ) (clean : ℕ → Option Page) (root key : ℕ) (view : View) (descent : Descent) → bits key < 2 ^ 64 → Agrees view.seen clean → HasForm bits clean root → HasRead bits root key view descent → NextIs clean root descent
next_is bits clean root key view Descent.Start below agree form read = (header_of (clean root), form.head)
next_is bits clean root key view (Descent.Headed place dir row) below agree form read =
    let path = path_from_header bits clean root (bits key) read.header below form (agree root (Some (Page.Head read.header)) read.head) in
    (path.0, ap clean read.dir_is ∙ path.3.listed)
next_is bits clean root key view (Descent.Placed dir bucket) below agree form read =
    let path = path_from_dir bits clean root (bits key) read.header read.entries below form (agree root (Some (Page.Head read.header)) read.head) (sym (ap clean read.dir_is) ∙ agree dir (Some (Page.Dir read.entries)) read.listed) in
    (path.0, ap clean read.bucket_is ∙ path.1.found)
next_is bits clean root key view (Descent.AtBucket dir bucket found) below agree form read = tt

-- a descent that is not done has a next page,
pub has_next : (root : ℕ) (descent : Descent) → 0 < pages_to_read descent → IsNext root descent (next_page root descent)
has_next root (Descent.AtBucket dir bucket found) more = let none : ⊥ = omega (arith, more) in absurd none
has_next root other more = refl

pub next_is_page : (root : ℕ) (descent : Descent) (q : ℕ) → IsNext root descent q → q ≡ next_page root descent
next_is_page root (Descent.AtBucket dir bucket found) q next = absurd next
next_is_page root other q next = next

-- which is there
pub next_there : (clean : ℕ → Option Page) (root : ℕ) (descent : Descent) → 0 < pages_to_read descent → NextIs clean root descent → is_some (clean (next_page root descent)) ≡ true
next_there clean root (Descent.AtBucket dir bucket found) more next = let none : ⊥ = omega (arith, more) in absurd none
next_there clean root other more next = ap is_some next.1

-- a descent reads its next page, and no other
pub after_next : (bits : ℕ → ℕ) (root key : ℕ) (descent : Descent) (q : ℕ) (read : Page) → IsNext root descent q → descent_after bits root key descent q read ≡ descent_by bits key descent read
after_next bits root key descent q read next = cond-true (q == next_page root descent) (descent_by bits key descent read) descent (eq-eqb q (next_page root descent) (next_is_page root descent q next))

pub after_other : (bits : ℕ → ℕ) (root key : ℕ) (descent : Descent) (q : ℕ) (read : Page) → (q ≢ next_page root descent) → descent_after bits root key descent q read ≡ descent
after_other bits root key descent q read other = cond-false (q == next_page root descent) (descent_by bits key descent read) descent (ne_eqb q (next_page root descent) other)

-- a descent that is done reads no more
pub done_stays : (bits : ℕ → ℕ) (root key dir bucket : ℕ) (found : Option ℕ) (q : ℕ) (read : Page) → descent_after bits root key (Descent.AtBucket dir bucket found) q read ≡ Descent.AtBucket dir bucket found
done_stays bits root key dir bucket found q read =
    elim (cases_eq q bucket) [
      | inl here ↦ cond-true (q == bucket) _ (Descent.AtBucket dir bucket found) (eq-eqb q bucket here)
      | inr elsewhere ↦ after_other bits root key (Descent.AtBucket dir bucket found) q read elsewhere
    ]

pub stays : (bits : ℕ → ℕ) (root key : ℕ) (descent : Descent) (q : ℕ) (read : Page) → (IsNext root descent q → ⊥) → descent_after bits root key descent q read ≡ descent
stays bits root key Descent.Start q read other = after_other bits root key Descent.Start q read other
stays bits root key (Descent.Headed place dir row) q read other = after_other bits root key (Descent.Headed place dir row) q read other
stays bits root key (Descent.Placed dir bucket) q read other = after_other bits root key (Descent.Placed dir bucket) q read other
stays bits root key (Descent.AtBucket dir bucket found) q read other = done_stays bits root key dir bucket found q read

-- a page is of the kind that a descent reads next
abbrev pub KindIs : Descent → Page → Type 0
KindIs Descent.Start read = (header : HeadFields) × (read ≡ Page.Head header)
KindIs (Descent.Headed place dir row) read = (entries : List ℕ) × (read ≡ Page.Dir entries)
KindIs (Descent.Placed dir bucket) read = (fields : BucketFields) × (read ≡ Page.Bucket fields)
KindIs (Descent.AtBucket dir bucket found) read = ⊥

-- its next page is of the kind that it reads,
pub kind_of_next : (clean : ℕ → Option Page) (root : ℕ) (descent : Descent) (q : ℕ) (read : Page) → NextIs clean root descent → clean q ≡ Some read → IsNext root descent q → KindIs descent read
kind_of_next clean root Descent.Start q read next is here = (next.0, one_page (clean root) read (Page.Head next.0) (ap clean (sym here) ∙ is) next.1)
kind_of_next clean root (Descent.Headed place dir row) q read next is here = (next.0, one_page (clean dir) read (Page.Dir next.0) (ap clean (sym here) ∙ is) next.1)
kind_of_next clean root (Descent.Placed dir bucket) q read next is here = (next.0, one_page (clean bucket) read (Page.Bucket next.0) (ap clean (sym here) ∙ is) next.1)
kind_of_next clean root (Descent.AtBucket dir bucket found) q read next is here = absurd here

-- so that it is one page further
one_fewer : (bits : ℕ → ℕ) (key : ℕ) (descent : Descent) (read : Page) → KindIs descent read → pages_to_read (descent_by bits key descent read) + 1 ≡ pages_to_read descent
one_fewer bits key Descent.Start read kind = ap (λ p. pages_to_read (descent_by bits key Descent.Start p) + 1) kind.1
one_fewer bits key (Descent.Headed place dir row) read kind = ap (λ p. pages_to_read (descent_by bits key (Descent.Headed place dir row) p) + 1) kind.1
one_fewer bits key (Descent.Placed dir bucket) read kind = ap (λ p. pages_to_read (descent_by bits key (Descent.Placed dir bucket) p) + 1) kind.1
one_fewer bits key (Descent.AtBucket dir bucket found) read kind = absurd kind

-- **A descent reads its next page, and stays where it is when another is read.**
pub reads_on : (bits : ℕ → ℕ) (clean : ℕ → Option Page) (root key : ℕ) (descent : Descent) (q : ℕ) (read : Page) → NextIs clean root descent → clean q ≡ Some read → ReadsOn root q descent (descent_after bits root key descent q read)
reads_on bits clean root key descent q read next is = record {
  next = λ here. ap (λ w. pages_to_read w + 1) (after_next bits root key descent q read here) ∙ one_fewer bits key descent read (kind_of_next clean root descent q read next is here);
  other = stays bits root key descent q read;
}
