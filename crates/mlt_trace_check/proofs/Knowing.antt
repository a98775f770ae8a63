-- What a checker knows, item by item.
use Rattle.std.proofs.Common.{◌≡◌, ◌≢◌, ℕ, suc, zero, get_or, take, drop, Err, ◌+◌, ◌<◌, ◌≤◌, List, [], ◌∷◌, ◌++◌, Contains, length, true, false, Option, Some, None, refl, sym, ap, subst, ◌∙◌, inl, inr, append_assoc, arith, is_some, option_to_list, nat_cmp}
use Rattle.mlt_trace_check.proofs.Names.{map-append, Contains-append_left, Refusal, OutOfMemory, TraceFault, TraceCause, ObjOp, ObjReply, Base, Step, empty_base, base_one_answer, Lists, Stage, Running, Ended, IsSerialBase, Runs, serial_push, at_each, changed, TraceItem, Begin, Op, Back, Commit, Abort, begun_txs, commit_count, begun_txs-append, OpenTx, Checker, dones, IsFalseAt, Replays, Knows, Takes, HasFalseReply, HasPlace, IsRunning, IsWhole, told}
use Rattle.std.specs.BTreeMap as tree
use Rattle.mlt_order.{specs.Histories.but_last, proofs.Growing.but_last-push, proofs.RunLemmas.runs_append}
use Rattle.mlt_trace.proofs.ItemLaws.{commits_counted, no_begin, no_commit}
use Rattle.mlt_trace_check.specs.{Replaying.DoneAt, Replaying.ReplaysOne, Checkers.AreInLines, Checkers.KnowsBegun, Checkers.KnowsRunning, Checkers.KnowsTx}
use Rattle.mlt_trace_check.proofs.Growing.{number_in, told-push, stage-other, transcript-other, last_one, earlier_or_last, begun_stays, split_last, no_cut}

in_lines_more : (tx : ℕ) (items : List TraceItem) (item : TraceItem) (ops : List DoneAt) → AreInLines tx items ops → AreInLines tx (items ++ item ∷ []) ops
in_lines_more tx items item ops h front rest op e =
    let there = h front rest op e in
    (there.0, there.1 ++ item ∷ [], ap (λ is. is ++ item ∷ []) there.2 ∙ append_assoc there.0 (Op tx op.1 ∷ there.1) (item ∷ []), there.3, there.4)

back_is_of : (item : TraceItem) (tx : ℕ) → item ≡ Back tx → tx ≡ number_in item
back_is_of item tx e = sym (ap number_in e)

-- what is known of others stays
knows_other : (o : Option OpenTx) (tx : ℕ) (items : List TraceItem) (item : TraceItem) → tx ≢ number_in item → KnowsTx o tx items → KnowsTx o tx (items ++ item ∷ [])
knows_other None tx items item apart h = (λ e. h.0 (sym (stage-other items item tx apart) ∙ e), transcript-other items item tx apart ∙ h.1)
knows_other (Some one) tx items item apart h = record {
  running = stage-other items item tx apart ∙ h.running;
  begun = begun_stays items item tx h.begun;
  ops = h.ops ∙ sym (transcript-other items item tx apart);
  undoing = λ e. Contains-append_left items (item ∷ []) (Back tx) (h.undoing e);
  whole = λ e back. elim (earlier_or_last items item (Back tx) back) [ inl before ↦ h.whole e before | inr last ↦ apart (back_is_of item tx last) ];
  lines = λ e. in_lines_more tx items item one.ops.items (h.lines e);
}

abbrev pub at_tx : Checker → ℕ → Option OpenTx
at_tx checker tx = tree.get nat_cmp checker.running tx

-- all that is known, where the item's own transaction is known
knows_all : (old new : Checker) (items : List TraceItem) (item : TraceItem)
    → ((tx : ℕ) → KnowsTx (at_tx old tx) tx items)
    → ((tx : ℕ) → tx ≢ number_in item → at_tx new tx ≡ at_tx old tx)
    → KnowsTx (at_tx new (number_in item)) (number_in item) (items ++ item ∷ [])
    → (tx : ℕ) → KnowsTx (at_tx new tx) tx (items ++ item ∷ [])
knows_all old new items item known same own =
    at_each (number_in item) (λ tx. KnowsTx (at_tx new tx) tx (items ++ item ∷ [])) own
    (λ tx apart. subst (λ o. KnowsTx o tx (items ++ item ∷ [])) (sym (same tx apart)) (knows_other (at_tx old tx) tx items item apart (known tx)))

backs_more : (items : List TraceItem) (item : TraceItem) → ((tx : ℕ) → Contains items (Back tx) → Contains (begun_txs items) tx)
    → ((tx : ℕ) → item ≡ Back tx → Contains (begun_txs items) tx)
    → (tx : ℕ) → Contains (items ++ item ∷ []) (Back tx) → Contains (begun_txs (items ++ item ∷ [])) tx
backs_more items item backs own tx h =
    begun_stays items item tx (elim (earlier_or_last items item (Back tx) h) [ inl before ↦ backs tx before | inr last ↦ own tx last ])

-- ---- a begin

place_to_begin : (b : Option ℕ) (txs : List ℕ) (tx : ℕ) → KnowsBegun b txs → ((last : ℕ) → b ≡ Some last → last < tx) → (other : ℕ) → Contains txs other → other < tx
place_to_begin None txs tx h above other c = absurd (h other c)
place_to_begin (Some last) txs tx h above other c = let one = h.0 other c in let two = above last refl in omega (arith, one, two)

pub no_place_to_begin : (b : Option ℕ) (txs : List ℕ) (tx last : ℕ) → KnowsBegun b txs → b ≡ Some last → tx ≤ last → ((other : ℕ) → Contains txs other → other < tx) → ⊥
no_place_to_begin None txs tx last h e low place = absurd (cc e)
no_place_to_begin (Some found) txs tx last h e low place = let same : found ≡ last = cc e in let one = place found h.1 in absurd (omega (arith, same, one, low))

not_begun : (o : Option OpenTx) (tx : ℕ) (items : List TraceItem) → HasPlace items (Begin tx) → KnowsTx o tx items → (told items).transcripts tx ≡ []
not_begun None tx items place h = h.1
not_begun (Some one) tx items place h = absurd (let low = place tx h.begun in omega (arith, low))

begun_greatest : (items : List TraceItem) (tx : ℕ) → HasPlace items (Begin tx) → KnowsBegun (Some tx) (begun_txs (items ++ Begin tx ∷ []))
begun_greatest items tx place = subst (KnowsBegun (Some tx)) (sym (begun_txs-append items (Begin tx ∷ []))) (
  λ other c. elim (earlier_or_last (begun_txs items) tx other c) [ inl before ↦ let low = place other before in omega (arith, low) | inr last ↦ omega (arith, last) ],
  last_one (begun_txs items) tx,
)

pub knows_begin : (old new : Checker) (items : List TraceItem) (tx : ℕ) (one : OpenTx) → one.ops.items ≡ [] → one.undoing ≡ false
    → ((last : ℕ) → old.begun ≡ Some last → last < tx)
    → at_tx new tx ≡ Some one → ((other : ℕ) → other ≢ tx → at_tx new other ≡ at_tx old other)
    → new.begun ≡ Some tx → new.commits ≡ old.commits → new.base ≡ old.base
    → Knows old items → HasPlace items (Begin tx) × Knows new (items ++ Begin tx ∷ [])
knows_begin old new items tx one empty whole above there same begun commits base h =
    let place : HasPlace items (Begin tx) = place_to_begin old.begun (begun_txs items) tx h.begun above in
    let none = not_begun (at_tx old tx) tx items place (h.open_txs tx) in
    let own : KnowsRunning one tx (items ++ Begin tx ∷ []) = record {
      running = ap (λ (l : Lists (ObjOp × ObjReply)). l.stage tx) (told-push items (Begin tx)) ∙ (changed (told items).stage tx Running).0;
      begun = (begun_greatest items tx place).1;
      ops = ap dones empty ∙ sym (ap (λ (l : Lists (ObjOp × ObjReply)). l.transcripts tx) (told-push items (Begin tx)) ∙ none);
      undoing = λ e. absurd (let f : false ≡ true = sym whole ∙ e in cc f);
      whole = λ e back. elim (earlier_or_last items (Begin tx) (Back tx) back) [
        | inl before ↦ let low = place tx (h.backs tx before) in absurd (omega (arith, low))
        | inr last ↦ absurd (cc last)
      ];
      lines = λ e front rest op cut. absurd (no_cut front rest op (sym empty ∙ cut));
    } in (
      place,
      record {
        open_txs = knows_all old new items (Begin tx) h.open_txs same (subst (λ o. KnowsTx o tx (items ++ Begin tx ∷ [])) (sym there) own);
        begun = subst (λ b. KnowsBegun b (begun_txs (items ++ Begin tx ∷ []))) (sym begun) (begun_greatest items tx place);
        backs = backs_more items (Begin tx) h.backs (λ other e. absurd (cc e));
        commits = commits ∙ h.commits ∙ sym (ap length (no_commit items (Begin tx) refl));
        serial = subst (IsSerialBase Step empty_base (told (items ++ Begin tx ∷ [])).committed) (sym base)
            (subst (λ (l : Lists (ObjOp × ObjReply)). IsSerialBase Step empty_base l.committed old.base) (sym (told-push items (Begin tx))) h.serial);
      },
    )

-- ---- an item of a running transaction

in_lines_done : (tx line : ℕ) (done : ObjOp × ObjReply) (items : List TraceItem) (ops more : List DoneAt) → more ≡ ops ++ (line, done) ∷ [] → line ≡ length items + 1
    → dones ops ≡ (told items).transcripts tx → AreInLines tx items ops → AreInLines tx (items ++ Op tx done ∷ []) more
in_lines_done tx line done items ops more is at same h front rest op e =
    elim (split_last ops front rest (line, done) op (sym is ∙ e)) [
      | inl before ↦ in_lines_more tx items (Op tx done) ops h front before.0 op before.1
      | inr last ↦ (
        items,
        [],
        ap (λ (d : DoneAt). items ++ Op tx d.1 ∷ []) last.1,
        ap (λ (d : DoneAt). d.0) (sym last.1) ∙ at,
        sym same ∙ ap dones last.0,
      )
    ]

pub knows_done : (old new : Checker) (items : List TraceItem) (tx line : ℕ) (done : ObjOp × ObjReply) (one next : OpenTx)
    → at_tx old tx ≡ Some one → one.undoing ≡ false → next.ops.items ≡ one.ops.items ++ (line, done) ∷ [] → next.undoing ≡ one.undoing
    → at_tx new tx ≡ Some next → ((other : ℕ) → other ≢ tx → at_tx new other ≡ at_tx old other)
    → new.begun ≡ old.begun → new.commits ≡ old.commits → new.base ≡ old.base
    → Knows old items → line ≡ length items + 1 → HasPlace items (Op tx done) × Knows new (items ++ Op tx done ∷ [])
knows_done old new items tx line done one next was whole ops undoing there same begun commits base h at =
    let had : KnowsRunning one tx items = subst (λ o. KnowsTx o tx items) was (h.open_txs tx) in
    let after = told-push items (Op tx done) in
    let own : KnowsRunning next tx (items ++ Op tx done ∷ []) = record {
      running = ap (λ (l : Lists (ObjOp × ObjReply)). l.stage tx) after ∙ had.running;
      begun = begun_stays items (Op tx done) tx had.begun;
      ops = ap dones ops ∙ map-append (λ (d : DoneAt). d.1) one.ops.items ((line, done) ∷ []) ∙ ap (λ ds. ds ++ done ∷ []) had.ops
          ∙ sym (ap (λ (l : Lists (ObjOp × ObjReply)). l.transcripts tx) after ∙ (changed (told items).transcripts tx _).0);
      undoing = λ e. absurd (let f : false ≡ true = sym whole ∙ sym undoing ∙ e in cc f);
      whole = λ e back. elim (earlier_or_last items (Op tx done) (Back tx) back) [ inl before ↦ had.whole whole before | inr last ↦ absurd (cc last) ];
      lines = λ e. in_lines_done tx line done items one.ops.items next.ops.items ops at had.ops (had.lines whole);
    } in (
      (had.running, had.whole whole),
      record {
        open_txs = knows_all old new items (Op tx done) h.open_txs same (subst (λ o. KnowsTx o tx (items ++ Op tx done ∷ [])) (sym there) own);
        begun = subst (λ b. KnowsBegun b (begun_txs (items ++ Op tx done ∷ []))) (sym begun) (subst (KnowsBegun old.begun) (sym (no_begin items (Op tx done) refl)) h.begun);
        backs = backs_more items (Op tx done) h.backs (λ other e. absurd (cc e));
        commits = commits ∙ h.commits ∙ sym (ap length (no_commit items (Op tx done) refl));
        serial = subst (IsSerialBase Step empty_base (told (items ++ Op tx done ∷ [])).committed) (sym base)
            (subst (λ (l : Lists (ObjOp × ObjReply)). IsSerialBase Step empty_base l.committed old.base) (sym after) h.serial);
      },
    )

not_empty : (ops : List DoneAt) (last : DoneAt) → dones (ops ++ last ∷ []) ≡ [] → ⊥
not_empty [] last e = cc e
not_empty (op ∷ ops) last e = cc e

pub knows_back : (old new : Checker) (items : List TraceItem) (tx : ℕ) (one next : OpenTx) (last : DoneAt)
    → at_tx old tx ≡ Some one → one.ops.items ≡ next.ops.items ++ last ∷ [] → next.undoing ≡ true
    → at_tx new tx ≡ Some next → ((other : ℕ) → other ≢ tx → at_tx new other ≡ at_tx old other)
    → new.begun ≡ old.begun → new.commits ≡ old.commits → new.base ≡ old.base
    → Knows old items → HasPlace items (Back tx) × Knows new (items ++ Back tx ∷ [])
knows_back old new items tx one next last was ops undoing there same begun commits base h =
    let had : KnowsRunning one tx items = subst (λ o. KnowsTx o tx items) was (h.open_txs tx) in
    let after = told-push items (Back tx) in
    let front : (told items).transcripts tx ≡ dones next.ops.items ++ last.1 ∷ [] = sym had.ops ∙ ap dones ops ∙ map-append (λ (d : DoneAt). d.1) next.ops.items (last ∷ []) in
    let own : KnowsRunning next tx (items ++ Back tx ∷ []) = record {
      running = ap (λ (l : Lists (ObjOp × ObjReply)). l.stage tx) after ∙ had.running;
      begun = begun_stays items (Back tx) tx had.begun;
      ops = sym (but_last-push (dones next.ops.items) last.1) ∙ ap but_last (sym front)
          ∙ sym (ap (λ (l : Lists (ObjOp × ObjReply)). l.transcripts tx) after ∙ (changed (told items).transcripts tx _).0);
      undoing = λ e. last_one items (Back tx);
      whole = λ e. absurd (let f : false ≡ true = sym e ∙ undoing in cc f);
      lines = λ e. absurd (let f : false ≡ true = sym e ∙ undoing in cc f);
    } in (
      (had.running, λ none. not_empty next.ops.items last (ap dones (sym ops) ∙ had.ops ∙ none)),
      record {
        open_txs = knows_all old new items (Back tx) h.open_txs same (subst (λ o. KnowsTx o tx (items ++ Back tx ∷ [])) (sym there) own);
        begun = subst (λ b. KnowsBegun b (begun_txs (items ++ Back tx ∷ []))) (sym begun) (subst (KnowsBegun old.begun) (sym (no_begin items (Back tx) refl)) h.begun);
        backs = backs_more items (Back tx) h.backs (λ other e. let same_tx : tx ≡ other = cc e in subst (Contains (begun_txs items)) same_tx had.begun);
        commits = commits ∙ h.commits ∙ sym (ap length (no_commit items (Back tx) refl));
        serial = subst (IsSerialBase Step empty_base (told (items ++ Back tx ∷ [])).committed) (sym base)
            (subst (λ (l : Lists (ObjOp × ObjReply)). IsSerialBase Step empty_base l.committed old.base) (sym after) h.serial);
      },
    )

-- ---- an item that ends its transaction

not_running : {stage : Stage} → stage ≡ Ended → stage ≡ Running → ⊥
not_running e f = let g : Ended ≡ Running = sym e ∙ f in cc g

pub knows_abort : (old new : Checker) (items : List TraceItem) (tx : ℕ) (one : OpenTx)
    → at_tx old tx ≡ Some one → one.ops.items ≡ []
    → at_tx new tx ≡ None → ((other : ℕ) → other ≢ tx → at_tx new other ≡ at_tx old other)
    → new.begun ≡ old.begun → new.commits ≡ old.commits → new.base ≡ old.base
    → Knows old items → HasPlace items (Abort tx) × Knows new (items ++ Abort tx ∷ [])
knows_abort old new items tx one was none gone same begun commits base h =
    let had : KnowsRunning one tx items = subst (λ o. KnowsTx o tx items) was (h.open_txs tx) in
    let after = told-push items (Abort tx) in
    let own : KnowsTx None tx (items ++ Abort tx ∷ []) = (
      not_running (ap (λ (l : Lists (ObjOp × ObjReply)). l.stage tx) after ∙ (changed (told items).stage tx Ended).0),
      ap (λ (l : Lists (ObjOp × ObjReply)). l.transcripts tx) after ∙ (changed (told items).transcripts tx _).0,
    ) in (
      (had.running, sym had.ops ∙ ap dones none),
      record {
        open_txs = knows_all old new items (Abort tx) h.open_txs same (subst (λ o. KnowsTx o tx (items ++ Abort tx ∷ [])) (sym gone) own);
        begun = subst (λ b. KnowsBegun b (begun_txs (items ++ Abort tx ∷ []))) (sym begun) (subst (KnowsBegun old.begun) (sym (no_begin items (Abort tx) refl)) h.begun);
        backs = backs_more items (Abort tx) h.backs (λ other e. absurd (cc e));
        commits = commits ∙ h.commits ∙ sym (ap length (no_commit items (Abort tx) refl));
        serial = subst (IsSerialBase Step empty_base (told (items ++ Abort tx ∷ [])).committed) (sym base)
            (subst (λ (l : Lists (ObjOp × ObjReply)). IsSerialBase Step empty_base l.committed old.base) (sym after) h.serial);
      },
    )

pub knows_commit : (old new : Checker) (items : List TraceItem) (tx number : ℕ) (one : OpenTx)
    → at_tx old tx ≡ Some one → one.undoing ≡ false → number ≡ old.commits + 1 → Runs Step old.base (dones one.ops.items) new.base
    → at_tx new tx ≡ None → ((other : ℕ) → other ≢ tx → at_tx new other ≡ at_tx old other)
    → new.begun ≡ old.begun → new.commits ≡ number
    → Knows old items → HasPlace items (Commit tx number) × Knows new (items ++ Commit tx number ∷ [])
knows_commit old new items tx number one was whole counted runs gone same begun commits h =
    let had : KnowsRunning one tx items = subst (λ o. KnowsTx o tx items) was (h.open_txs tx) in
    let after = told-push items (Commit tx number) in
    let own : KnowsTx None tx (items ++ Commit tx number ∷ []) = (
      not_running (ap (λ (l : Lists (ObjOp × ObjReply)). l.stage tx) after ∙ (changed (told items).stage tx Ended).0),
      ap (λ (l : Lists (ObjOp × ObjReply)). l.transcripts tx) after ∙ (changed (told items).transcripts tx _).0,
    ) in
    let next : number ≡ commit_count items + 1 = counted ∙ ap (λ n. n + 1) h.commits in (
      (had.running, had.whole whole, next),
      record {
        open_txs = knows_all old new items (Commit tx number) h.open_txs same (subst (λ o. KnowsTx o tx (items ++ Commit tx number ∷ [])) (sym gone) own);
        begun = subst (λ b. KnowsBegun b (begun_txs (items ++ Commit tx number ∷ []))) (sym begun) (subst (KnowsBegun old.begun) (sym (no_begin items (Commit tx number) refl)) h.begun);
        backs = backs_more items (Commit tx number) h.backs (λ other e. absurd (cc e));
        commits = commits ∙ next ∙ sym (commits_counted items tx number);
        serial = subst (λ (l : Lists (ObjOp × ObjReply)). IsSerialBase Step empty_base l.committed new.base) (sym after)
            (serial_push Step (told items).committed ((told items).transcripts tx) empty_base old.base new.base h.serial
            (subst (λ t. Runs Step old.base t new.base) had.ops runs));
      },
    )

-- ---- items that have no place

pub not_there : (old : Checker) (items : List TraceItem) (tx : ℕ) → at_tx old tx ≡ None → Knows old items → IsRunning items tx → ⊥
not_there old items tx none h running = let own : KnowsTx None tx items = subst (λ o. KnowsTx o tx items) none (h.open_txs tx) in own.0 running

pub is_undoing : (old : Checker) (items : List TraceItem) (tx : ℕ) (one : OpenTx) → at_tx old tx ≡ Some one → one.undoing ≡ true → Knows old items → IsWhole items tx → ⊥
is_undoing old items tx one was undoing h whole = let own : KnowsRunning one tx items = subst (λ o. KnowsTx o tx items) was (h.open_txs tx) in whole (own.undoing undoing)

pub ops_of : (old : Checker) (items : List TraceItem) (tx : ℕ) (one : OpenTx) → at_tx old tx ≡ Some one → Knows old items → dones one.ops.items ≡ (told items).transcripts tx
ops_of old items tx one was h = let own : KnowsRunning one tx items = subst (λ o. KnowsTx o tx items) was (h.open_txs tx) in own.ops

pub no_ops : (ops : List DoneAt) → dones ops ≡ [] → length ops ≡ 0
no_ops [] e = refl
no_ops (op ∷ ops) e = absurd (cc e)

-- the operation that is false where it is done anew
pub false_reply : (old : Checker) (items : List TraceItem) (tx line : ℕ) (one : OpenTx) (front rest : List DoneAt) (done : ObjOp × ObjReply) (middle : Base)
    → at_tx old tx ≡ Some one → one.undoing ≡ false → one.ops.items ≡ front ++ (line, done) ∷ rest → Runs Step old.base (dones front) middle → IsFalseAt middle done
    → Knows old items → HasFalseReply items old.base tx line
false_reply old items tx line one front rest done middle was whole cut runs never h =
    let own : KnowsRunning one tx items = subst (λ o. KnowsTx o tx items) was (h.open_txs tx) in
    let there = own.lines whole front rest (line, done) cut in
    let parts : dones one.ops.items ≡ (told there.0).transcripts tx ++ done ∷ dones rest =
    ap dones cut ∙ map-append (λ (d : DoneAt). d.1) front ((line, done) ∷ rest) ∙ ap (λ ds. ds ++ done ∷ dones rest) (sym there.4) in
    (there.0, there.1, done, dones rest, middle, there.2, there.3, sym own.ops ∙ parts, subst (λ t. Runs Step old.base t middle) (sym there.4) runs, never)

-- what was popped was the last
pub one_popped : (before after : List DoneAt) (popped : Option DoneAt) → is_some popped ≡ true → before ≡ after ++ option_to_list popped → (last : DoneAt) × (before ≡ after ++ last ∷ [])
one_popped before after None some is = absurd (cc some)
one_popped before after (Some last) some is = (last, is)

-- ---- operations that are done anew

-- of a base and an operation there is one reply
pub false_where_other : (before after : Base) (op : ObjOp) (reply : ObjReply) (done : ObjOp × ObjReply) → op ≡ done.0 → Step before (op, reply) after → (reply ≡ done.1 → ⊥) → IsFalseAt before done
false_where_other before after op reply done same step other next false_step =
    other (base_one_answer before after next done.0 reply done.1 (subst (λ o. Step before (o, reply) after) same step) false_step).0

-- a list, cut at the element at a place
pub cut_at : {A : Type 0} (xs : List A) (i : ℕ) (x : A) → i < length xs → x ≡ get_or xs i x → xs ≡ take i xs ++ x ∷ drop (suc i) xs
cut_at [] i x within is = absurd (omega arith)
cut_at (y ∷ xs) zero x within is = ap (λ z. z ∷ xs) (sym is)
cut_at (y ∷ xs) (suc i) x within is = ap (λ zs. y ∷ zs) (cut_at xs i x (omega arith) is)

take_one : {A : Type 0} (xs : List A) (i : ℕ) (x : A) → i < length xs → x ≡ get_or xs i x → take (suc i) xs ≡ take i xs ++ x ∷ []
take_one [] i x within is = absurd (omega arith)
take_one (y ∷ xs) zero x within is = ap (λ z. z ∷ []) (sym is)
take_one (y ∷ xs) (suc i) x within is = ap (λ zs. y ∷ zs) (take_one xs i x (omega arith) is)

pub replays_more : (start base next : Base) (ops : List DoneAt) (i : ℕ) (item : DoneAt) → i < length ops → item ≡ get_or ops i item
    → Runs Step start (dones (take i ops)) base → Step base item.1 next → Runs Step start (dones (take (i + 1) ops)) next
replays_more start base next ops i item within is runs step =
    let next_place : i + 1 ≡ suc i = omega arith in
    let one_more : take (i + 1) ops ≡ take i ops ++ item ∷ [] = ap (λ k. take k ops) next_place ∙ take_one ops i item within is in
    subst (λ ds. Runs Step start ds next) (sym (ap dones one_more ∙ map-append (λ (d : DoneAt). d.1) (take i ops) (item ∷ [])))
    (runs_append Step (dones (take i ops)) (item.1 ∷ []) start base next runs (next, step, refl))

pub replay_fails : (e : Refusal) (start base next last : Base) (ops : List DoneAt) (i : ℕ) (item : DoneAt) → i < length ops → item ≡ get_or ops i item
    → Runs Step start (dones (take i ops)) base → ReplaysOne (Err e) item.0 item.1 base next → Replays (Err e) ops start last
replay_fails OutOfMemory start base next last ops i item within is runs h = tt
replay_fails (TraceFault line TraceCause.Reply) start base next last ops i item within is runs h =
    (take i ops, drop (suc i) ops, item.1, base, cut_at ops i item within is ∙ ap (λ n. take i ops ++ (n, item.1) ∷ drop (suc i) ops) (sym h.0), runs, h.1)
replay_fails e start base next last ops i item within is runs h = absurd h

pub commit_fails : (e : Refusal) (old new : Checker) (tx number line : ℕ) (one : OpenTx) (last : Base)
    → at_tx old tx ≡ Some one → one.undoing ≡ false → number ≡ old.commits + 1 → Replays (Err e) one.ops.items old.base last → Takes (Err e) old new line (Commit tx number)
commit_fails OutOfMemory old new tx number line one last was whole counted h = tt
commit_fails (TraceFault n TraceCause.Reply) old new tx number line one last was whole counted h = λ items known at.
    let had : KnowsRunning one tx items = subst (λ o. KnowsTx o tx items) was (known.open_txs tx) in (
      tx,
      number,
      refl,
      (had.running, had.whole whole, counted ∙ ap (λ k. k + 1) known.commits),
      false_reply old items tx n one h.0 h.1 h.2 h.3 was whole h.4 h.5 h.6 known,
    )
commit_fails e old new tx number line one last was whole counted h = absurd h
