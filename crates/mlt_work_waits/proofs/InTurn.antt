-- Who waits for its turn waits for one that stands in the queue
use Rattle.std.proofs.Common.{◌≡◌, ◌∙◌, ◌⊎◌, ℕ, ◌==◌, ◌&&◌, ◌||◌, Bool, true, false, not, cond, nat_lt, is_none, is_some, List, [], ◌∷◌, ◌++◌, length, Option, None, Some, refl, sym, subst, ap, inl, inr, eq-eqb, eqb-true}
use Rattle.std.{specs.List.list_all, specs.Option.option_or, proofs.lemmas.Bool.false≢true}
use Rattle.mlt_object_kinds.specs.declared.operation.{ObjOp.ObjOp, ObjReply.ObjReply}
use Rattle.mlt_work_waits.specs.Queues.{with_blocked, without, holds_clash, last_before, may_clash, stands}
use Rattle.mlt_work_waits.specs.{Waits.is_for, Waits.others_in, declared.wait.Waiting.Waiting, declared.wait.Whose.Whose, declared.blocked_queue.Blocked.Blocked, Turns.AreInTurn, Turns.waits_in_turn}

-- the same by cases
abbrev WaitsInTurn : Waiting → List Blocked → Type 0
WaitsInTurn wait queue = wait.timestamp ≡ None → stands wait.holder queue ≡ true

abbrev WaitInTurn : List Waiting → List Blocked → Type 0
WaitInTurn [] queue = Unit {0}
WaitInTurn (wait ∷ more) queue = WaitsInTurn wait queue × WaitInTurn more queue

and_both : (a b : Bool) → (a && b) ≡ true → (a ≡ true) × (b ≡ true)
and_both true b is = (refl, is)
and_both false b is = absurd (false≢true is)

and_true : (a b : Bool) → a ≡ true → b ≡ true → (a && b) ≡ true
and_true true b is also = also
and_true false b is also = absurd (false≢true is)

by_cases : (timestamp : Option ℕ) (b : Bool) → (is_some timestamp || b) ≡ true → timestamp ≡ None → b ≡ true
by_cases None b is none = is
by_cases (Some t) b is some = let none : Some t ≡ None = some in cc

in_all : (timestamp : Option ℕ) (b : Bool) → (timestamp ≡ None → b ≡ true) → (is_some timestamp || b) ≡ true
in_all None b is = is refl
in_all (Some t) b is = refl

each_of : (waits : List Waiting) (queue : List Blocked) → AreInTurn waits queue → WaitInTurn waits queue
each_of [] queue all = tt
each_of (wait ∷ more) queue all =
    let both = and_both (waits_in_turn queue wait) (list_all (waits_in_turn queue) more) all in
    (by_cases wait.timestamp (stands wait.holder queue) both.0, each_of more queue both.1)

all_of : (waits : List Waiting) (queue : List Blocked) → WaitInTurn waits queue → AreInTurn waits queue
all_of [] queue each = refl
all_of (wait ∷ more) queue (first, rest) =
    and_true (waits_in_turn queue wait) (list_all (waits_in_turn queue) more) (in_all wait.timestamp (stands wait.holder queue) first) (all_of more queue rest)

not_both : (same : Bool) (timestamp : Option ℕ) → timestamp ≡ None → (same && is_none timestamp) ≡ false → same ≡ false
not_both false timestamp none is = refl
not_both true timestamp none is = absurd (false≢true (sym is ∙ ap is_none none))

only_some : (b : Bool) (x y : ℕ) → cond b (Some x) None ≡ Some y → x ≡ y
only_some true x y is = cc
only_some false x y is = let none : None ≡ Some y = is in cc

-- those of them that stay wait as before
stay : (given : Whose) (waits : List Waiting) (queue : List Blocked) → WaitInTurn waits queue → WaitInTurn (others_in given waits) queue
stay given [] queue were = tt
stay given (wait ∷ more) queue (first, rest) =
    elim (is_for given wait) as (λ b. WaitInTurn (cond (not b) (wait ∷ others_in given more) (others_in given more)) queue) [
      | true ↦ stay given more queue rest
      | false ↦ (first, stay given more queue rest)
    ]

-- one more waits for a lock, or for one that stands in the queue
one_more : (waits : List Waiting) (one : Waiting) (queue : List Blocked) → WaitInTurn waits queue → WaitsInTurn one queue → WaitInTurn (waits ++ one ∷ []) queue
one_more [] one queue were is = (is, tt)
one_more (wait ∷ more) one queue (first, rest) is = (first, one_more more one queue rest is)

or_else : (a b : Bool) → (a || b) ≡ true → (a ≡ true) ⊎ (b ≡ true)
or_else true b is = inl refl
or_else false b is = inr is

or_left : (a b : Bool) → a ≡ true → (a || b) ≡ true
or_left true b is = refl
or_left false b is = absurd (false≢true is)

or_right : (a b : Bool) → b ≡ true → (a || b) ≡ true
or_right true b is = refl
or_right false b is = is

-- who stands in the queue stands there without another one,
still_stands : (y x : ℕ) (queue : List Blocked) → (y == x) ≡ false → stands y queue ≡ true → stands y (without x queue) ≡ true
still_stands y x [] other is = is
still_stands y x (first ∷ more) other is =
    elim (first.tx == x) as (λ b. (first.tx == x) ≡ b → stands y (cond (not b) (first ∷ without x more) (without x more)) ≡ true) [
      | true ↦ λ gone. elim (or_else (first.tx == y) (stands y more) is) [
        | inl same ↦ absurd (false≢true (sym other ∙ eq-eqb y x (sym (eqb-true first.tx y same) ∙ eqb-true first.tx x gone)))
        | inr later ↦ still_stands y x more other later
      ]
      | false ↦ λ _. elim (or_else (first.tx == y) (stands y more) is) [
        | inl same ↦ or_left (first.tx == y) (stands y (without x more)) same
        | inr later ↦ or_right (first.tx == y) (stands y (without x more)) (still_stands y x more other later)
      ]
    ] refl

-- and with one more
stands_before : (y : ℕ) (one : Blocked) (queue : List Blocked) → stands y queue ≡ true → stands y (queue ++ one ∷ []) ≡ true
stands_before y one [] is = absurd (false≢true is)
stands_before y one (first ∷ more) is = elim (or_else (first.tx == y) (stands y more) is) [
  | inl same ↦ or_left (first.tx == y) (stands y (more ++ one ∷ [])) same
  | inr later ↦ or_right (first.tx == y) (stands y (more ++ one ∷ [])) (stands_before y one more later)
]

stands_with : (y x : ℕ) (op : ObjOp) (queue : List Blocked) → stands y queue ≡ true → stands y (with_blocked x op queue) ≡ true
stands_with y x op queue is =
    elim (not (stands x queue) && nat_lt (length queue) 64) as (λ b. stands y (cond b (queue ++ (record { tx = x; op = op }) ∷ []) queue) ≡ true) [
      | true ↦ stands_before y (record { tx = x; op = op }) queue is
      | false ↦ is
    ]

-- What comes to stand in the queue changes nobody's turn.
also_with : (waits : List Waiting) (x : ℕ) (op : ObjOp) (queue : List Blocked) → WaitInTurn waits queue → WaitInTurn waits (with_blocked x op queue)
also_with [] x op queue were = tt
also_with (wait ∷ more) x op queue (first, rest) = (λ none. stands_with wait.holder x op queue (first none), also_with more x op queue rest)

-- Where those who wait for a turn behind one are awake, it can leave,
turn_left : (x : ℕ) (waits : List Waiting) (queue : List Blocked) → WaitInTurn waits queue → WaitInTurn (others_in (Whose.Turn x) waits) (without x queue)
turn_left x [] queue were = tt
turn_left x (wait ∷ more) queue (first, rest) =
    elim (is_for (Whose.Turn x) wait) as (λ b. is_for (Whose.Turn x) wait ≡ b → WaitInTurn (cond (not b) (wait ∷ others_in (Whose.Turn x) more) (others_in (Whose.Turn x) more)) (without x queue)) [
      | true ↦ λ _. turn_left x more queue rest
      | false ↦ λ not_its. (
        λ none. still_stands wait.holder x queue (not_both (wait.holder == x) wait.timestamp none not_its) (first none),
        turn_left x more queue rest,
      )
    ] refl

-- as where all are who wait for it
holder_left : (x : ℕ) (waits : List Waiting) (queue : List Blocked) → WaitInTurn waits queue → WaitInTurn (others_in (Whose.One x) waits) (without x queue)
holder_left x [] queue were = tt
holder_left x (wait ∷ more) queue (first, rest) =
    elim (wait.holder == x) as (λ b. (wait.holder == x) ≡ b → WaitInTurn (cond (not b) (wait ∷ others_in (Whose.One x) more) (others_in (Whose.One x) more)) (without x queue)) [
      | true ↦ λ _. holder_left x more queue rest
      | false ↦ λ other. (λ none. still_stands wait.holder x queue other (first none), holder_left x more queue rest)
    ] refl

-- The last one that may clash stands in the queue.
pub last_stands : (op : ObjOp) (held : List (ObjOp × ObjReply)) (queue : List Blocked) (y : ℕ) → last_before op held queue ≡ Some y → stands y queue ≡ true
last_stands op held [] y none = let is : None ≡ Some y = none in cc
last_stands op held (first ∷ more) y found =
    let clashes = may_clash op first.op && not (holds_clash held first.op) in
    elim (last_before op held more) as (λ o. last_before op held more ≡ o → option_or o (cond clashes (Some first.tx) None) ≡ Some y → stands y (first ∷ more) ≡ true) [
      | Some z ↦ λ is same. let one : Some z ≡ Some y = same in or_right (first.tx == y) (stands y more) (last_stands op held more y (is ∙ one))
      | None ↦ λ _ here. or_left (first.tx == y) (stands y more) (eq-eqb first.tx y (only_some clashes first.tx y here))
    ] refl found

-- **Those of them that stay wait as before.**
pub stay_in_turn : (given : Whose) (waits : List Waiting) (queue : List Blocked) → AreInTurn waits queue → AreInTurn (others_in given waits) queue
stay_in_turn given waits queue were = all_of (others_in given waits) queue (stay given waits queue (each_of waits queue were))

-- **What comes to stand in the queue changes nobody's turn.**
pub turns_with : (waits : List Waiting) (x : ℕ) (op : ObjOp) (queue : List Blocked) → AreInTurn waits queue → AreInTurn waits (with_blocked x op queue)
turns_with waits x op queue were = all_of waits (with_blocked x op queue) (also_with waits x op queue (each_of waits queue were))

-- **Where those who wait for a turn behind one are awake, or all who wait for it, it can leave.**
pub turn_is_left : (x : ℕ) (waits : List Waiting) (queue : List Blocked) → AreInTurn waits queue → AreInTurn (others_in (Whose.Turn x) waits) (without x queue)
turn_is_left x waits queue were = all_of (others_in (Whose.Turn x) waits) (without x queue) (turn_left x waits queue (each_of waits queue were))

pub holder_is_left : (x : ℕ) (waits : List Waiting) (queue : List Blocked) → AreInTurn waits queue → AreInTurn (others_in (Whose.One x) waits) (without x queue)
holder_is_left x waits queue were = all_of (others_in (Whose.One x) waits) (without x queue) (holder_left x waits queue (each_of waits queue were))

pub same_turns : (before after : List Waiting) (was is : List Blocked) → after ≡ before → is ≡ was → AreInTurn before was → AreInTurn after is
same_turns before after was is waits queue all = subst (AreInTurn after) (sym queue) (subst (λ w. AreInTurn w was) (sym waits) all)
