-- The front of a trace up to one of its lines.
use Rattle.std.proofs.Common.{◌≡◌, ℕ, List, [], ◌∷◌, ◌++◌, map, refl, sym, ap, subst, ◌∙◌, append_assoc}
use Rattle.mlt_trace_check.proofs.Names.{ObjOp, ObjReply, Base, Step, empty_base, base_one_answer, Lists, after_entry, no_lists, IsSerialBase, Runs, Raw, TraceItem, Begin, Op, Back, Commit, Abort, entries_of, entries_of-append, Says, HasPlace, IsTrace, told}
use Rattle.mlt_order.{specs.Histories.Entry, specs.Histories.after_entries, specs.Runs.IsFunctional, proofs.RunLemmas.serial_to_one}
use Rattle.mlt_trace_check.{specs.Readings.reading, proofs.Growing.append_nil}

pub base_functional : IsFunctional Step
base_functional before one other item h k = (base_one_answer before one other item.0 item.1 item.1 h k).1

-- ---- the items of lines

same_item : (one other : TraceItem) → Says one ≡ Says other → one ≡ other
same_item one other e = cc e

pub same_items : (one other : List TraceItem) → map Says one ≡ map Says other → one ≡ other
same_items [] [] e = refl
same_items [] (y ∷ other) e = absurd (cc e)
same_items (x ∷ one) [] e = absurd (cc e)
same_items (x ∷ one) (y ∷ other) e =
    let heads : Says x ≡ Says y = cc e in
    let tails : map Says one ≡ map Says other = cc e in
    let first = same_item x y heads in
    let rest = same_items one other tails in
    λ i. first i ∷ rest i

abbrev SaidUpTo : List Raw → Raw → List TraceItem → Type 0
SaidUpTo before raw items = (front : List TraceItem) × (item : TraceItem) × (rest : List TraceItem)
    × (items ≡ front ++ item ∷ rest) × (map reading before ≡ map Says front) × (reading raw ≡ Says item)

said_up_to : (before after : List Raw) (raw : Raw) (items : List TraceItem) → map reading (before ++ raw ∷ after) ≡ map Says items → SaidUpTo before raw items
said_up_to [] after raw [] e = absurd (cc e)
said_up_to [] after raw (item ∷ items) e = ([], item, items, refl, refl, cc e)
said_up_to (r ∷ before) after raw [] e = absurd (cc e)
said_up_to (r ∷ before) after raw (item ∷ items) e =
    let head : reading r ≡ Says item = cc e in
    let tails : map reading (before ++ raw ∷ after) ≡ map Says items = cc e in
    let rest = said_up_to before after raw items tails in
    (item ∷ rest.0, rest.1, rest.2, (let cut = rest.3 in λ i. item ∷ cut i), (let same = rest.4 in λ i. head i ∷ same i), rest.5)

-- ---- the commits of items

after_entries-append : (xs ys : List (Entry (ObjOp × ObjReply))) (lists : Lists (ObjOp × ObjReply)) → after_entries lists (xs ++ ys) ≡ after_entries (after_entries lists xs) ys
after_entries-append [] ys lists = refl
after_entries-append (x ∷ xs) ys lists = after_entries-append xs ys (after_entry lists x)

pub told-append : (items later : List TraceItem) → told (items ++ later) ≡ after_entries (told items) (entries_of later)
told-append items later = ap (after_entries no_lists) (entries_of-append items later) ∙ after_entries-append (entries_of items) (entries_of later) no_lists

committed_more : (later : List TraceItem) (lists : Lists (ObjOp × ObjReply)) → (more : List (List (ObjOp × ObjReply))) × ((after_entries lists (entries_of later)).committed ≡ lists.committed ++ more)
committed_more [] lists = ([], sym (append_nil lists.committed))
committed_more (Begin tx ∷ later) lists = committed_more later (after_entry lists (Entry.Begun tx))
committed_more (Op tx done ∷ later) lists = committed_more later (after_entry lists (Entry.Did tx done))
committed_more (Back tx ∷ later) lists = committed_more later (after_entry lists (Entry.TookBack tx))
committed_more (Commit tx number ∷ later) lists =
    let rest = committed_more later (after_entry lists (Entry.Committed tx)) in
    (lists.transcripts tx ∷ rest.0, rest.1 ∙ append_assoc lists.committed (lists.transcripts tx ∷ []) rest.0)
committed_more (Abort tx ∷ later) lists = committed_more later (after_entry lists (Entry.Closed tx))

serial_split : (xs ys : List (List (ObjOp × ObjReply))) (start base : Base) → IsSerialBase Step start (xs ++ ys) base
    → (middle : Base) × IsSerialBase Step start xs middle × IsSerialBase Step middle ys base
serial_split [] ys start base h = (start, refl, h)
serial_split (x ∷ xs) ys start base h = let rest = serial_split xs ys h.0 base h.2 in (rest.0, (h.0, h.1, rest.1), rest.2)

-- where the item commits a transaction, its transcript runs from the base
abbrev pub RunsOn : List TraceItem → Base → TraceItem → Type 0
RunsOn items base item = (tx number : ℕ) → item ≡ Commit tx number → (next : Base) × Runs Step base ((told items).transcripts tx) next

front_serial : (front rest : List TraceItem) (base : Base) → IsSerialBase Step empty_base (told (front ++ rest)).committed base
    → (middle : Base) × IsSerialBase Step empty_base (told front).committed middle
front_serial front rest base h =
    let more = committed_more rest (told front) in
    let parts = serial_split (told front).committed more.0 empty_base base
    (subst (λ ts. IsSerialBase Step empty_base ts base) (ap (λ (l : Lists (ObjOp × ObjReply)). l.committed) (told-append front rest) ∙ more.1) h) in
    (parts.0, parts.1)

pub commit_runs : (front rest : List TraceItem) (tx number : ℕ) (base middle : Base) → IsSerialBase Step empty_base (told (front ++ Commit tx number ∷ rest)).committed base
    → IsSerialBase Step empty_base (told front).committed middle → (next : Base) × Runs Step middle ((told front).transcripts tx) next
commit_runs front rest tx number base middle h serial =
    let more = committed_more rest (after_entry (told front) (Entry.Committed tx)) in
    let parts = serial_split (told front).committed ((told front).transcripts tx ∷ more.0) empty_base base
    (subst (λ ts. IsSerialBase Step empty_base ts base)
    (ap (λ (l : Lists (ObjOp × ObjReply)). l.committed) (told-append front (Commit tx number ∷ rest)) ∙ more.1 ∙ append_assoc (told front).committed ((told front).transcripts tx ∷ []) more.0) h) in
    let same : parts.0 ≡ middle = serial_to_one Step base_functional (told front).committed empty_base parts.0 middle parts.1 serial in
    let F : Base → Type 0 = λ b. Runs Step b ((told front).transcripts tx) (parts.2).0 in
    ((parts.2).0, subst F same (parts.2).1)

abbrev pub TraceUpTo : List Raw → Raw → Type 0
TraceUpTo before raw = (front : List TraceItem) × (item : TraceItem) × (base : Base)
    × IsTrace before front base × (reading raw ≡ Says item) × HasPlace front item × RunsOn front base item

pub trace_up_to : (before after : List Raw) (raw : Raw) (items : List TraceItem) (base : Base) → IsTrace (before ++ raw ∷ after) items base → TraceUpTo before raw
trace_up_to before after raw items base trace =
    let said = said_up_to before after raw items trace.said in
    let whole : IsSerialBase Step empty_base (told (said.0 ++ said.1 ∷ said.2)).committed base = subst (λ is. IsSerialBase Step empty_base (told is).committed base) said.3 trace.serial in
    let serial = front_serial said.0 (said.1 ∷ said.2) base whole in (
      said.0,
      said.1,
      serial.0,
      record {
        said = said.4;
        placed = λ b l one e. trace.placed b (l ++ said.1 ∷ said.2) one (said.3 ∙ ap (λ fs. fs ++ said.1 ∷ said.2) e ∙ append_assoc b (one ∷ l) (said.1 ∷ said.2));
        serial = serial.1;
      },
      said.5,
      trace.placed said.0 said.2 said.1 said.3,
      λ tx number is. commit_runs said.0 said.2 tx number base serial.0 (subst (λ one. IsSerialBase Step empty_base (told (said.0 ++ one ∷ said.2)).committed base) is whole) serial.1,
    )

-- lines have one list of items, and that leads to one base
pub one_trace : (raws : List Raw) (items others : List TraceItem) (base other : Base) → IsTrace raws items base → IsTrace raws others other → (items ≡ others) × (base ≡ other)
one_trace raws items others base other one two =
    let same = same_items items others (sym one.said ∙ two.said) in (
      same,
      serial_to_one Step base_functional (told items).committed empty_base base other one.serial
          (subst (λ is. IsSerialBase Step empty_base (told is).committed other) (sym same) two.serial),
    )
