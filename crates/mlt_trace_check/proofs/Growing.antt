-- What one more item makes of what the items tell.
use Rattle.std.proofs.Common.{◌≡◌, ◌≢◌, ◌⊎◌, ℕ, List, [], ◌∷◌, ◌++◌, Contains, refl, sym, ap, subst, ◌∙◌, inl, inr}
use Rattle.mlt_trace_check.proofs.Names.{Contains-append_left, ObjOp, ObjReply, Lists, after_entry, no_lists, Running, Ended, contains-first, changed, TraceItem, Begin, Op, Back, Commit, Abort, entry_of, entries_of, begun_txs, committed_txs, begun_txs-append, entries_of-append, told}
use Rattle.std.proofs.lemmas.List.Elements.{Contains-append_cases, Contains-append_right}
use Rattle.mlt_order.{specs.Histories.lists_of, proofs.Growing.after_entries-push, proofs.Stages.contains-one}

-- the number of the item's transaction
abbrev pub number_in : TraceItem → ℕ
number_in (Begin tx) = tx
number_in (Op tx done) = tx
number_in (Back tx) = tx
number_in (Commit tx number) = tx
number_in (Abort tx) = tx

pub told-push : (items : List TraceItem) (item : TraceItem) → told (items ++ item ∷ []) ≡ after_entry (told items) (entry_of item)
told-push items item = ap lists_of (entries_of-append items (item ∷ [])) ∙ after_entries-push (entries_of items) no_lists (entry_of item)

stage_of_others : (lists : Lists (ObjOp × ObjReply)) (item : TraceItem) (tx : ℕ) → tx ≢ number_in item → (after_entry lists (entry_of item)).stage tx ≡ lists.stage tx
stage_of_others lists (Begin i) tx apart = (changed lists.stage i Running).1 tx apart
stage_of_others lists (Op i done) tx apart = refl
stage_of_others lists (Back i) tx apart = refl
stage_of_others lists (Commit i number) tx apart = (changed lists.stage i Ended).1 tx apart
stage_of_others lists (Abort i) tx apart = (changed lists.stage i Ended).1 tx apart

transcript_of_others : (lists : Lists (ObjOp × ObjReply)) (item : TraceItem) (tx : ℕ) → tx ≢ number_in item → (after_entry lists (entry_of item)).transcripts tx ≡ lists.transcripts tx
transcript_of_others lists (Begin i) tx apart = refl
transcript_of_others lists (Op i done) tx apart = (changed lists.transcripts i _).1 tx apart
transcript_of_others lists (Back i) tx apart = (changed lists.transcripts i _).1 tx apart
transcript_of_others lists (Commit i number) tx apart = (changed lists.transcripts i _).1 tx apart
transcript_of_others lists (Abort i) tx apart = (changed lists.transcripts i _).1 tx apart

pub stage-other : (items : List TraceItem) (item : TraceItem) (tx : ℕ) → tx ≢ number_in item → (told (items ++ item ∷ [])).stage tx ≡ (told items).stage tx
stage-other items item tx apart = ap (λ (l : Lists (ObjOp × ObjReply)). l.stage tx) (told-push items item) ∙ stage_of_others (told items) item tx apart

pub transcript-other : (items : List TraceItem) (item : TraceItem) (tx : ℕ) → tx ≢ number_in item → (told (items ++ item ∷ [])).transcripts tx ≡ (told items).transcripts tx
transcript-other items item tx apart = ap (λ (l : Lists (ObjOp × ObjReply)). l.transcripts tx) (told-push items item) ∙ transcript_of_others (told items) item tx apart

pub committed_txs-append : (items later : List TraceItem) → committed_txs (items ++ later) ≡ committed_txs items ++ committed_txs later
committed_txs-append [] later = refl
committed_txs-append (Commit tx number ∷ items) later = ap (λ ns. tx ∷ ns) (committed_txs-append items later)
committed_txs-append (Begin tx ∷ items) later = committed_txs-append items later
committed_txs-append (Op tx done ∷ items) later = committed_txs-append items later
committed_txs-append (Back tx ∷ items) later = committed_txs-append items later
committed_txs-append (Abort tx ∷ items) later = committed_txs-append items later

pub append_nil : {A : Type 0} (xs : List A) → xs ++ [] ≡ xs
append_nil [] = refl
append_nil (x ∷ xs) = ap (λ ys. x ∷ ys) (append_nil xs)

pub no_commit : (items : List TraceItem) (item : TraceItem) → committed_txs (item ∷ []) ≡ [] → committed_txs (items ++ item ∷ []) ≡ committed_txs items
no_commit items item none = committed_txs-append items (item ∷ []) ∙ ap (λ ns. committed_txs items ++ ns) none ∙ append_nil (committed_txs items)

pub last_one : {X : Type 0} (xs : List X) (x : X) → Contains (xs ++ x ∷ []) x
last_one xs x = Contains-append_right xs (x ∷ []) x (contains-first x [])

pub earlier_or_last : {X : Type 0} (xs : List X) (x y : X) → Contains (xs ++ x ∷ []) y → Contains xs y ⊎ (x ≡ y)
earlier_or_last xs x y h = elim (Contains-append_cases xs (x ∷ []) y h) [ inl before ↦ inl before | inr last ↦ inr (contains-one x y last) ]

pub begun_stays : (items : List TraceItem) (item : TraceItem) (tx : ℕ) → Contains (begun_txs items) tx → Contains (begun_txs (items ++ item ∷ [])) tx
begun_stays items item tx h = subst (λ ns. Contains ns tx) (sym (begun_txs-append items (item ∷ []))) (Contains-append_left (begun_txs items) (begun_txs (item ∷ [])) tx h)

-- a list that ends with an element, cut at one of its elements
pub split_last : {A : Type 0} (xs front rest : List A) (x y : A) → xs ++ x ∷ [] ≡ front ++ y ∷ rest → ((rest0 : List A) × (xs ≡ front ++ y ∷ rest0)) ⊎ ((xs ≡ front) × (x ≡ y))
split_last [] [] rest x y e = inr (refl, cc e)
split_last [] (z ∷ []) rest x y e = absurd (cc e)
split_last [] (z ∷ w ∷ front) rest x y e = absurd (cc e)
split_last (w ∷ xs) [] rest x y e = inl (xs, let same : w ≡ y = cc e in ap (λ v. v ∷ xs) same)
split_last {A} (w ∷ xs) (z ∷ front) rest x y e =
    let heads : w ≡ z = cc e in
    let tails : xs ++ x ∷ [] ≡ front ++ y ∷ rest = cc e in
    elim (split_last xs front rest x y tails) [
      | inl h ↦ inl (h.0, let k : xs ≡ front ++ y ∷ h.0 = h.1 in cc (heads, k))
      | inr h ↦ inr (let k : xs ≡ front = h.0 in cc (heads, k), h.1)
    ]

pub no_cut : {A : Type 0} (front rest : List A) (x : A) → [] ≡ front ++ x ∷ rest → ⊥
no_cut [] rest x e = cc e
no_cut (y ∷ front) rest x e = cc e
