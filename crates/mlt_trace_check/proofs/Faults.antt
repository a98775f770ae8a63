-- A text has one first fault.
use Rattle.std.proofs.Common.{◌≡◌, ◌⊎◌, ℕ, ◌+◌, List, [], ◌∷◌, ◌++◌, length, refl, sym, ap, subst, ◌∙◌, inl, inr, append_assoc}
use Rattle.mlt_trace_check.proofs.Names.{TraceCause, ObjOp, ObjReply, Base, Step, Lists, Runs, changed, Raw, TraceItem, Op, Commit, TraceReading, Bad, Says, ArePlaced, HasFalseReply, IsFirstFaultOf, IsItemFault, IsLineFault, IsTrace, told}
use Rattle.mlt_trace_check.{specs.Readings.reading, proofs.Deciding.item_fault, proofs.Deciding.no_fault_inside, proofs.Deciding.no_run_past, proofs.Fronts.one_trace, proofs.Growing.begun_stays, proofs.Growing.told-push, proofs.Lasting.grows, proofs.Lasting.runs_begun}

-- one list, cut at two of its elements
abbrev pub CutTwice : {A : Type 0} → List A → List A → A → A → Type 0
CutTwice {A} xs us x u = ((middle : List A) × (us ≡ xs ++ x ∷ middle)) ⊎ ((xs ≡ us) ⊎ ((middle : List A) × (xs ≡ us ++ u ∷ middle)))

pub cut_twice : {A : Type 0} (xs us ys vs : List A) (x u : A) → xs ++ x ∷ ys ≡ us ++ u ∷ vs → CutTwice xs us x u
cut_twice [] [] ys vs x u e = inr (inl refl)
cut_twice [] (w ∷ us) ys vs x u e = inl (us, let head : w ≡ x = cc e in ap (λ z. z ∷ us) head)
cut_twice (z ∷ xs) [] ys vs x u e = inr (inr (xs, let head : z ≡ u = cc e in ap (λ w. w ∷ xs) head))
cut_twice {A} (z ∷ xs) (w ∷ us) ys vs x u e =
    let heads : z ≡ w = cc e in
    let tails : xs ++ x ∷ ys ≡ us ++ u ∷ vs = cc e in
    elim (cut_twice xs us ys vs x u tails) [
      | inl more ↦ inl (more.0, (let same = more.1 in λ i. sym heads i ∷ same i))
      | inr rest ↦ elim rest [
        | inl same ↦ inr (inl (λ i. heads i ∷ same i))
        | inr less ↦ inr (inr (less.0, (let same = less.1 in λ i. heads i ∷ same i)))
      ]
    ]

front_placed : (items front : List TraceItem) (item : TraceItem) (later : List TraceItem) → items ≡ front ++ item ∷ later → ArePlaced items → ArePlaced front
front_placed items front item later e placed before rest one f = placed before (rest ++ item ∷ later) one (e ∙ ap (λ is. is ++ item ∷ later) f ∙ append_assoc before (one ∷ rest) (item ∷ later))

-- an operation that is false is in no run of the operations before a later one
no_false_before : (items upto other later after middle_items : List TraceItem) (tx : ℕ) (done next : ObjOp × ObjReply) (base middle end : Base)
    → ArePlaced items → items ≡ upto ++ Op tx done ∷ later → items ≡ other ++ Op tx next ∷ after → other ≡ upto ++ Op tx done ∷ middle_items
    → Runs Step base ((told upto).transcripts tx) middle → ((last : Base) → Step middle done last → ⊥)
    → Runs Step base ((told other).transcripts tx) end → ⊥
no_false_before items upto other later after middle_items tx done next base middle end placed cut cut_again between runs never whole =
    let place = placed upto later (Op tx done) cut in
    let place_again = placed other after (Op tx next) cut_again in
    let grown = grows middle_items (upto ++ Op tx done ∷ []) other tx (between ∙ sym (append_assoc upto (Op tx done ∷ []) middle_items)) (front_placed items other (Op tx next) after cut_again placed)
    (begun_stays upto (Op tx done) tx (runs_begun upto tx place.0)) place_again.0 place_again.1 in
    let with_done : (told (upto ++ Op tx done ∷ [])).transcripts tx ≡ (told upto).transcripts tx ++ done ∷ [] =
    ap (λ (l : Lists (ObjOp × ObjReply)). l.transcripts tx) (told-push upto (Op tx done)) ∙ (changed (told upto).transcripts tx _).0 in
    let all : (told other).transcripts tx ≡ (told upto).transcripts tx ++ done ∷ grown.0 =
    grown.1 ∙ ap (λ t. t ++ grown.0) with_done ∙ append_assoc ((told upto).transcripts tx) (done ∷ []) grown.0 in
    no_run_past ((told upto).transcripts tx) grown.0 done base middle end runs never (subst (λ t. Runs Step base t end) all whole)

one_false_reply : (items : List TraceItem) (base : Base) (tx line other : ℕ) → ArePlaced items → HasFalseReply items base tx line → HasFalseReply items base tx other → line ≡ other
one_false_reply items base tx line other placed h k =
    elim (cut_twice h.0 k.0 h.1 k.1 (Op tx h.2) (Op tx k.2) (sym h.5 ∙ k.5)) [
      | inl more ↦ absurd (no_false_before items h.0 k.0 h.1 k.1 more.0 tx h.2 k.2 base h.4 k.4 placed h.5 k.5 more.1 h.8 h.9 k.8)
      | inr rest ↦ elim rest [
        | inl same ↦ h.6 ∙ ap (λ (is : List TraceItem). length is + 1) same ∙ sym k.6
        | inr less ↦ absurd (no_false_before items k.0 h.0 k.1 h.1 less.0 tx k.2 h.2 base k.4 h.4 placed k.5 h.5 less.1 k.8 k.9 h.8)
      ]
    ]

abbrev pub SameFault : ℕ → ℕ → TraceCause → TraceCause → Type 0
SameFault line other fault another = (line ≡ other) × (fault ≡ another)

pub one_item_fault : (items : List TraceItem) (base : Base) (item : TraceItem) (line other : ℕ) (fault another : TraceCause) → ArePlaced items
    → IsItemFault items base item line fault → IsItemFault items base item other another → SameFault line other fault another
one_item_fault items base item line other TraceCause.Place TraceCause.Place placed h k = (h.1 ∙ sym k.1, refl)
one_item_fault items base item line other TraceCause.Place TraceCause.Reply placed h k = absurd (h.0 k.3)
one_item_fault items base item line other TraceCause.Reply TraceCause.Place placed h k = absurd (k.0 h.3)
one_item_fault items base item line other TraceCause.Reply TraceCause.Reply placed h k =
    let same : Commit k.0 k.1 ≡ Commit h.0 h.1 = sym k.2 ∙ h.2 in
    let one : k.0 ≡ h.0 = cc same in
    (one_false_reply items base h.0 line other placed h.4 (subst (λ tx. HasFalseReply items base tx other) one k.4), refl)
one_item_fault items base item line other TraceCause.Line another placed h k = absurd h
one_item_fault items base item line other TraceCause.Cut another placed h k = absurd h
one_item_fault items base item line other TraceCause.Words another placed h k = absurd h
one_item_fault items base item line other TraceCause.Place TraceCause.Line placed h k = absurd k
one_item_fault items base item line other TraceCause.Place TraceCause.Cut placed h k = absurd k
one_item_fault items base item line other TraceCause.Place TraceCause.Words placed h k = absurd k
one_item_fault items base item line other TraceCause.Reply TraceCause.Line placed h k = absurd k
one_item_fault items base item line other TraceCause.Reply TraceCause.Cut placed h k = absurd k
one_item_fault items base item line other TraceCause.Reply TraceCause.Words placed h k = absurd k

same_bad : (raw : Raw) (one other : TraceCause) → reading raw ≡ Bad one → reading raw ≡ Bad other → one ≡ other
same_bad raw one other e f = let g : Bad one ≡ Bad other = sym e ∙ f in cc g

not_both : (raw : Raw) (item : TraceItem) (fault : TraceCause) → reading raw ≡ Says item → reading raw ≡ Bad fault → ⊥
not_both raw item fault e f = let g : Says item ≡ Bad fault = sym e ∙ f in cc g

-- the fault of a line that is bad by itself
bad_fault : (items : List TraceItem) (base : Base) (raw : Raw) (found : TraceCause) (line : ℕ) (fault : TraceCause) → reading raw ≡ Bad found → IsLineFault items base raw line fault → (line ≡ length items + 1) × (fault ≡ found)
bad_fault items base raw found line TraceCause.Line is h = (h.1, same_bad raw TraceCause.Line found h.0 is)
bad_fault items base raw found line TraceCause.Cut is h = (h.1, same_bad raw TraceCause.Cut found h.0 is)
bad_fault items base raw found line TraceCause.Words is h = (h.1, same_bad raw TraceCause.Words found h.0 is)
bad_fault items base raw found line TraceCause.Place is h = absurd (not_both raw h.0 found h.1 is)
bad_fault items base raw found line TraceCause.Reply is h = absurd (not_both raw h.0 found h.1 is)

one_line_fault : (items : List TraceItem) (base : Base) (raw : Raw) (found : TraceReading) (line other : ℕ) (fault another : TraceCause) → reading raw ≡ found → ArePlaced items
    → IsLineFault items base raw line fault → IsLineFault items base raw other another → SameFault line other fault another
one_line_fault items base raw (Bad found) line other fault another is placed h k =
    let one = bad_fault items base raw found line fault is h in
    let two = bad_fault items base raw found other another is k in
    (one.0 ∙ sym two.0, one.1 ∙ sym two.1)
one_line_fault items base raw (Says item) line other fault another is placed h k =
    one_item_fault items base item line other fault another placed (item_fault items base raw item line fault is h) (item_fault items base raw item other another is k)

-- what stands behind a front
pub next_same : {A : Type 0} (front ys vs : List A) (x u : A) → front ++ x ∷ ys ≡ front ++ u ∷ vs → x ≡ u
next_same [] ys vs x u e = cc e
next_same (z ∷ front) ys vs x u e = let tails : front ++ x ∷ ys ≡ front ++ u ∷ vs = cc e in next_same front ys vs x u tails

pub one_first_fault : (raws : List Raw) (line other : ℕ) (fault another : TraceCause) → IsFirstFaultOf raws line fault → IsFirstFaultOf raws other another → SameFault line other fault another
one_first_fault raws line other fault another h k =
    elim (cut_twice h.0 k.0 h.2 k.2 h.1 k.1 (sym h.5 ∙ k.5)) [
      | inl more ↦ absurd (no_fault_inside h.0 more.0 h.1 h.3 k.3 h.4 k.4 line fault (subst (λ rs. IsTrace rs k.3 k.4) more.1 k.6) h.6 h.7)
      | inr rest ↦ elim rest [
        | inl same ↦ at_one same
        | inr less ↦ absurd (no_fault_inside k.0 less.0 k.1 k.3 h.3 k.4 h.4 other another (subst (λ rs. IsTrace rs h.3 h.4) less.1 h.6) k.6 k.7)
      ]
    ] where
      at_one : h.0 ≡ k.0 → SameFault line other fault another
      at_one same =
          let rests : h.0 ++ h.1 ∷ h.2 ≡ h.0 ++ k.1 ∷ k.2 = sym h.5 ∙ k.5 ∙ ap (λ rs. rs ++ k.1 ∷ k.2) (sym same) in
          let raw_same : k.1 ≡ h.1 = sym (next_same h.0 h.2 k.2 h.1 k.1 rests) in
          let traces = one_trace k.0 h.3 k.3 h.4 k.4 (subst (λ rs. IsTrace rs h.3 h.4) same h.6) k.6 in
          let here : IsLineFault h.3 h.4 h.1 other another =
          subst (λ b. IsLineFault h.3 b h.1 other another) (sym traces.1) (subst (λ is. IsLineFault is k.4 h.1 other another) (sym traces.0) (subst (λ raw. IsLineFault k.3 k.4 raw other another) raw_same k.7)) in
          one_line_fault h.3 h.4 h.1 (reading h.1) line other fault another refl h.6.placed h.7 here
