-- A transaction that runs to the end of placed items, with nothing taken back: its transcript only grows.
use Rattle.std.proofs.Common.{◌≡◌, ◌≢◌, ℕ, List, [], ◌∷◌, ◌++◌, Contains, refl, sym, ap, subst, ◌∙◌, inl, inr, append_assoc, arith}
use Rattle.mlt_trace_check.proofs.Names.{cases_eq, Contains-append_left, ObjOp, ObjReply, Lists, Stage, after_entry, Fresh, Running, Ended, changed, TraceItem, Begin, Op, Back, Commit, Abort, entry_of, begun_txs, begun_txs-append, ArePlaced, HasPlace, IsRunning, IsWhole, told}
use Rattle.mlt_trace_check.proofs.Growing.{append_nil, begun_stays, last_one, number_in, stage-other, told-push, transcript-other}

abbrev pub one_more : List TraceItem → TraceItem → List TraceItem
one_more items item = items ++ item ∷ []

stage_more : (items : List TraceItem) (item : TraceItem) (tx : ℕ) (stage : Stage) → (after_entry (told items) (entry_of item)).stage tx ≡ stage → (told (one_more items item)).stage tx ≡ stage
stage_more items item tx stage h = ap (λ (l : Lists (ObjOp × ObjReply)). l.stage tx) (told-push items item) ∙ h

-- ---- what runs was begun

running_other : (one other : Stage) → one ≡ other → other ≢ Running → one ≡ Running → ⊥
running_other one other e no_run h = no_run (sym e ∙ h)

runs_begun_more : (items : List TraceItem) (item : TraceItem) (tx : ℕ) → (IsRunning items tx → Contains (begun_txs items) tx) → IsRunning (one_more items item) tx → Contains (begun_txs (one_more items item)) tx
runs_begun_more items item tx before h = elim (cases_eq tx (number_in item)) [
  | inl own ↦ at_own item own h
  | inr apart ↦ begun_stays items item tx (before (sym (stage-other items item tx apart) ∙ h))
] where
  at_own : (item : TraceItem) → tx ≡ number_in item → IsRunning (one_more items item) tx → Contains (begun_txs (one_more items item)) tx
  at_own (Begin i) e run = subst (λ ns. Contains ns tx) (sym (begun_txs-append items (Begin i ∷ []))) (subst (λ n. Contains (begun_txs items ++ i ∷ []) n) (sym e) (last_one (begun_txs items) i))
  at_own (Op i done) e run = begun_stays items (Op i done) tx (before (sym (stage_more items (Op i done) tx _ refl) ∙ run))
  at_own (Back i) e run = begun_stays items (Back i) tx (before (sym (stage_more items (Back i) tx _ refl) ∙ run))
  at_own (Commit i number) e run =
      absurd (running_other _ Ended (subst (λ n. (told (one_more items (Commit i number))).stage n ≡ Ended) (sym e) (stage_more items (Commit i number) i Ended (changed (told items).stage i Ended).0)) (λ f. cc f) run)
  at_own (Abort i) e run =
      absurd (running_other _ Ended (subst (λ n. (told (one_more items (Abort i))).stage n ≡ Ended) (sym e) (stage_more items (Abort i) i Ended (changed (told items).stage i Ended).0)) (λ f. cc f) run)

runs_begun_from : (later items all : List TraceItem) (tx : ℕ) → all ≡ items ++ later → (IsRunning items tx → Contains (begun_txs items) tx) → IsRunning all tx → Contains (begun_txs all) tx
runs_begun_from [] items all tx e before h =
    let same : all ≡ items = e ∙ append_nil items in
    let F : List TraceItem → Type 0 = λ is. IsRunning is tx → Contains (begun_txs is) tx in
    subst F (sym same) before h
runs_begun_from (item ∷ later) items all tx e before h =
    runs_begun_from later (one_more items item) all tx (e ∙ sym (append_assoc items (item ∷ []) later)) (runs_begun_more items item tx before) h

pub runs_begun : (items : List TraceItem) (tx : ℕ) → IsRunning items tx → Contains (begun_txs items) tx
runs_begun items tx = runs_begun_from items [] items tx refl (λ h. absurd (let f : Fresh ≡ Running = h in cc f))

-- ---- what has ended has ended for good

not_again : (items : List TraceItem) (tx i : ℕ) → tx ≡ i → Contains (begun_txs items) tx → HasPlace items (Begin i) → ⊥
not_again items tx i e begun place = let low = place tx begun in absurd (omega (arith, low, e))

ended_stays : (later items all : List TraceItem) (tx : ℕ) → all ≡ items ++ later → ArePlaced all → Contains (begun_txs items) tx → (told items).stage tx ≡ Ended → (told all).stage tx ≡ Ended
ended_stays [] items all tx e placed begun ended = ap (λ is. (told is).stage tx) (e ∙ append_nil items) ∙ ended
ended_stays (item ∷ later) items all tx e placed begun ended =
    ended_stays later (one_more items item) all tx (e ∙ sym (append_assoc items (item ∷ []) later)) placed (begun_stays items item tx begun) (elim (cases_eq tx (number_in item)) [
      | inl own ↦ at_own item own (placed items later item e)
      | inr apart ↦ stage-other items item tx apart ∙ ended
    ]) where
      at_own : (item : TraceItem) → tx ≡ number_in item → HasPlace items item → (told (one_more items item)).stage tx ≡ Ended
      at_own (Begin i) own place = absurd (not_again items tx i own begun place)
      at_own (Op i done) own place = stage_more items (Op i done) tx Ended ended
      at_own (Back i) own place = stage_more items (Back i) tx Ended ended
      at_own (Commit i number) own place = subst (λ n. (told (one_more items (Commit i number))).stage n ≡ Ended) (sym own) (stage_more items (Commit i number) i Ended (changed (told items).stage i Ended).0)
      at_own (Abort i) own place = subst (λ n. (told (one_more items (Abort i))).stage n ≡ Ended) (sym own) (stage_more items (Abort i) i Ended (changed (told items).stage i Ended).0)

-- ---- the transcript grows

abbrev Grown : List TraceItem → List TraceItem → ℕ → Type 0
Grown items all tx = (more : List (ObjOp × ObjReply)) × ((told all).transcripts tx ≡ (told items).transcripts tx ++ more)

grown_by : (items all : List TraceItem) (item : TraceItem) (tx : ℕ) (new : List (ObjOp × ObjReply)) → (told (one_more items item)).transcripts tx ≡ (told items).transcripts tx ++ new → Grown (one_more items item) all tx → Grown items all tx
grown_by items all item tx new is rest = (new ++ rest.0, rest.1 ∙ ap (λ t. t ++ rest.0) is ∙ append_assoc ((told items).transcripts tx) new rest.0)

still : (items : List TraceItem) (item : TraceItem) (tx : ℕ) → (told (one_more items item)).transcripts tx ≡ (told items).transcripts tx → (told (one_more items item)).transcripts tx ≡ (told items).transcripts tx ++ []
still items item tx e = e ∙ sym (append_nil ((told items).transcripts tx))

no_end : (later items all : List TraceItem) (item : TraceItem) (tx : ℕ) → all ≡ one_more items item ++ later → ArePlaced all → Contains (begun_txs items) tx → (told (one_more items item)).stage tx ≡ Ended → IsRunning all tx → ⊥
no_end later items all item tx e placed begun ended run = let f : Ended ≡ Running = sym (ended_stays later (one_more items item) all tx e placed (begun_stays items item tx begun) ended) ∙ run in cc f

grows_at_own : (later items all : List TraceItem) (tx : ℕ) (one : TraceItem) → tx ≡ number_in one → all ≡ one_more items one ++ later → HasPlace items one
    → ArePlaced all → Contains (begun_txs items) tx → IsRunning all tx → IsWhole all tx → Grown (one_more items one) all tx → Grown items all tx
grows_at_own later items all tx (Begin i) own after place placed begun run whole grown = absurd (not_again items tx i own begun place)
grows_at_own later items all tx (Op i done) own after place placed begun run whole grown =
    grown_by items all (Op i done) tx (done ∷ [])
    (subst (λ n. (told (one_more items (Op i done))).transcripts n ≡ (told items).transcripts n ++ done ∷ []) (sym own)
    (ap (λ (l : Lists (ObjOp × ObjReply)). l.transcripts i) (told-push items (Op i done)) ∙ (changed (told items).transcripts i _).0)) grown
grows_at_own later items all tx (Back i) own after place placed begun run whole grown =
    absurd (whole (subst (λ is. Contains is (Back tx)) (sym after) (Contains-append_left (one_more items (Back i)) later (Back tx) (subst (λ n. Contains (one_more items (Back i)) (Back n)) (sym own) (last_one items (Back i))))))
grows_at_own later items all tx (Commit i number) own after place placed begun run whole grown =
    absurd (no_end later items all (Commit i number) tx after placed begun
    (subst (λ n. (told (one_more items (Commit i number))).stage n ≡ Ended) (sym own) (stage_more items (Commit i number) i Ended (changed (told items).stage i Ended).0)) run)
grows_at_own later items all tx (Abort i) own after place placed begun run whole grown =
    absurd (no_end later items all (Abort i) tx after placed begun
    (subst (λ n. (told (one_more items (Abort i))).stage n ≡ Ended) (sym own) (stage_more items (Abort i) i Ended (changed (told items).stage i Ended).0)) run)

pub grows : (later items all : List TraceItem) (tx : ℕ) → all ≡ items ++ later → ArePlaced all → Contains (begun_txs items) tx → IsRunning all tx → IsWhole all tx → Grown items all tx
grows [] items all tx e placed begun run whole = ([], ap (λ is. (told is).transcripts tx) (e ∙ append_nil items) ∙ sym (append_nil ((told items).transcripts tx)))
grows (item ∷ later) items all tx e placed begun run whole =
    let next : all ≡ one_more items item ++ later = e ∙ sym (append_assoc items (item ∷ []) later) in
    let rest = grows later (one_more items item) all tx next placed (begun_stays items item tx begun) run whole in
    elim (cases_eq tx (number_in item)) [
      | inl own ↦ grows_at_own later items all tx item own next (placed items later item e) placed begun run whole rest
      | inr apart ↦ grown_by items all item tx [] (still items item tx (transcript-other items item tx apart)) rest
    ]
