-- Operations that were blocked, in order, and which may clash.
use Rattle.std.specs.Prelude.{ℕ, ◌≡◌, ◌==◌, ◌&&◌, not, nat_lt, Bool, true, false, List, [], ◌∷◌, ◌++◌, length, if◌then◌else◌, Option, None, Some, filter}
use Rattle.std.specs.{List.list_any, Option.option_or}
use Rattle.mlt_object_kinds.specs.declared.{account.AccountOp.AccountOp, counter.CounterOp.CounterOp, element.ElementOp.ElementOp, operation.ObjOp.ObjOp, operation.ObjOp.TheVariants.Account, operation.ObjOp.TheVariants.Element, operation.ObjOp.TheVariants.Counter, operation.ObjOp.TheVariants.Size, operation.ObjReply.ObjReply}
use Rattle.mlt_object_conflicts.specs.Clashes.{clashes}
use Rattle.mlt_work_waits.specs.declared.blocked_queue.Blocked.{Blocked}

-- By some replies the one, held, clashes with the other, requested later.
abbrev pub MayClash : ObjOp → ObjOp → Type 0
MayClash held requested =
    (reply : ObjReply) × (answer : ObjReply) × (clashes (held, reply) (requested, answer) ≡ true)

-- by none they do
abbrev pub NeverClash : ObjOp → ObjOp → Type 0
NeverClash held requested =
    (reply answer : ObjReply) → clashes (held, reply) (requested, answer) ≡ false

-- what only reads
abbrev pub reads_account : AccountOp → Bool
reads_account AccountOp.Balance = true
reads_account other = false

abbrev pub reads_element : ElementOp → Bool
reads_element ElementOp.Has = true
reads_element other = false

abbrev pub reads_counter : CounterOp → Bool
reads_counter CounterOp.Read = true
reads_counter other = false

-- exactly one of the two
abbrev pub is_one : Bool → Bool → Bool
is_one true false = true
is_one false true = true
is_one one other = false

-- the table of those that may clash
abbrev pub may_clash : ObjOp → ObjOp → Bool
may_clash (Account a op) (Account b other) = a == b && not (reads_account op && reads_account other)
may_clash (Element s e op) (Element t f other) =
    s == t && e == f && not (reads_element op && reads_element other)
may_clash (Counter c op) (Counter d other) =
    c == d && is_one (reads_counter op) (reads_counter other)
may_clash (Element s e op) (Size t) = s == t && not (reads_element op)
may_clash (Size s) (Element t f op) = s == t && not (reads_element op)
may_clash held requested = false

-- the transaction is one of them
abbrev pub stands : ℕ → List Blocked → Bool
stands x queue = list_any (λ blocked. blocked.tx == x) queue

-- one more that is blocked stands in it, as the last, unless it does already, or there is no room
abbrev pub with_blocked : ℕ → ObjOp → List Blocked → List Blocked
with_blocked x op queue =
    if not (stands x queue) && nat_lt (length queue) 64
    then queue ++ (record { tx = x; op = op }) ∷ []
    else queue

-- the others
abbrev pub without : ℕ → List Blocked → List Blocked
without x queue = filter (λ blocked. not (blocked.tx == x)) queue

-- one of these, held, may clash with what is requested later
abbrev pub holds_clash : List (ObjOp × ObjReply) → ObjOp → Bool
holds_clash held requested = list_any (λ done. may_clash done.0 requested) held

-- the last of them with whose operation this one may clash, and none of these that are held
abbrev pub last_before : ObjOp → List (ObjOp × ObjReply) → List Blocked → Option ℕ
last_before op held [] = None
last_before op held (first ∷ more) =
    option_or (last_before op held more)
    (if may_clash op first.op && not (holds_clash held first.op) then Some first.tx else None)
