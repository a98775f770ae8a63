-- A text that is an accepted trace has one answer, and no fault.
use Rattle.std.proofs.Common.{◌≡◌, ℕ, List, ◌∷◌, ◌++◌, sym, subst, ◌∙◌}
use Rattle.mlt_trace_check.proofs.Names.{TraceCause, ObjOp, ObjReply, Base, Step, Runs, Raw, TraceItem, Bad, Says, HasFalseReply, HasPlace, IsFirstFaultOf, IsItemFault, IsLineFault, IsTrace, told}
use Rattle.mlt_order.proofs.RunLemmas.{runs_split, runs_to_one}
use Rattle.mlt_trace_check.{specs.Readings.reading, proofs.Fronts.RunsOn, proofs.Fronts.base_functional, proofs.Fronts.one_trace, proofs.Fronts.trace_up_to}

-- no run goes past an operation that is false where it stands
pub no_run_past : (front rest : List (ObjOp × ObjReply)) (done : ObjOp × ObjReply) (base middle end : Base) → Runs Step base front middle → ((next : Base) → Step middle done next → ⊥)
    → Runs Step base (front ++ done ∷ rest) end → ⊥
no_run_past front rest done base middle end runs never whole =
    let parts = runs_split Step front (done ∷ rest) base end whole in
    let same : parts.0 ≡ middle = runs_to_one Step base_functional front base parts.0 middle parts.1 runs in
    let F : Base → Type 0 = λ b. Step b done (parts.2).0 in
    never (parts.2).0 (subst F same (parts.2).1)

not_false : (items : List TraceItem) (base : Base) (tx line : ℕ) (next : Base) → Runs Step base ((told items).transcripts tx) next → HasFalseReply items base tx line → ⊥
not_false items base tx line next runs h =
    no_run_past ((told h.0).transcripts tx) h.3 h.2 base h.4 next h.8 h.9 (subst (λ t. Runs Step base t next) h.7 runs)

-- of the items that a line says there is one
pub same_said : (raw : Raw) (one other : TraceItem) → reading raw ≡ Says one → reading raw ≡ Says other → one ≡ other
same_said raw one other e f = let g : Says one ≡ Says other = sym e ∙ f in cc g

pub item_fault : (items : List TraceItem) (base : Base) (raw : Raw) (item : TraceItem) (line : ℕ) (fault : TraceCause) → reading raw ≡ Says item → IsLineFault items base raw line fault → IsItemFault items base item line fault
item_fault items base raw item line TraceCause.Line is h = absurd (let g : Says item ≡ Bad TraceCause.Line = sym is ∙ h.0 in cc g)
item_fault items base raw item line TraceCause.Cut is h = absurd (let g : Says item ≡ Bad TraceCause.Cut = sym is ∙ h.0 in cc g)
item_fault items base raw item line TraceCause.Words is h = absurd (let g : Says item ≡ Bad TraceCause.Words = sym is ∙ h.0 in cc g)
item_fault items base raw item line TraceCause.Place is h = subst (λ one. IsItemFault items base one line TraceCause.Place) (same_said raw h.0 item h.1 is) h.2
item_fault items base raw item line TraceCause.Reply is h = subst (λ one. IsItemFault items base one line TraceCause.Reply) (same_said raw h.0 item h.1 is) h.2

-- what has its place and runs on is no fault
pub no_item_fault : (items : List TraceItem) (base : Base) (item : TraceItem) (line : ℕ) (fault : TraceCause) → HasPlace items item → RunsOn items base item → IsItemFault items base item line fault → ⊥
no_item_fault items base item line TraceCause.Line place runs h = h
no_item_fault items base item line TraceCause.Cut place runs h = h
no_item_fault items base item line TraceCause.Words place runs h = h
no_item_fault items base item line TraceCause.Place place runs h = h.0 place
no_item_fault items base item line TraceCause.Reply place runs h = let run = runs h.0 h.1 h.2 in not_false items base h.0 line run.0 run.1 h.4

-- what goes on as a trace has no fault there
pub no_fault_inside : (before after : List Raw) (raw : Raw) (items all : List TraceItem) (base end : Base) (line : ℕ) (fault : TraceCause)
    → IsTrace (before ++ raw ∷ after) all end → IsTrace before items base → IsLineFault items base raw line fault → ⊥
no_fault_inside before after raw items all base end line fault whole front h =
    let inside = trace_up_to before after raw all end whole in
    let same = one_trace before inside.0 items inside.2 base inside.3 front in
    let here : IsLineFault inside.0 inside.2 raw line fault = subst (λ b. IsLineFault inside.0 b raw line fault) (sym same.1) (subst (λ is. IsLineFault is base raw line fault) (sym same.0) h) in
    no_item_fault inside.0 inside.2 inside.1 line fault inside.5 inside.6 (item_fault inside.0 inside.2 raw inside.1 line fault inside.4 here)

pub accepted_no_fault : (raws : List Raw) (all : List TraceItem) (end : Base) (line : ℕ) (fault : TraceCause) → IsTrace raws all end → IsFirstFaultOf raws line fault → ⊥
accepted_no_fault raws all end line fault trace h =
    no_fault_inside h.0 h.2 h.1 h.3 all h.4 end line fault (subst (λ rs. IsTrace rs all end) h.5 trace) h.6 h.7
