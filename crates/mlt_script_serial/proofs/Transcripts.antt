-- Transcripts of questions, as they grow.
use Rattle.std.proofs.Common.{◌+◌, ◌≤◌, ◌<◌, [], ◌∷◌, ◌++◌, length, ℕ, ◌≡◌, refl, sym, subst, arith, length-append}
use Rattle.mlt_script_serial.proofs.Names.{ObjOp, ObjReply, Transcript, Ending, ScriptForm, Next, AsksAtMost, Questions, Reaches, IsNext, answered, questions_of_script, Ends, Asks}
use Rattle.mlt_object_kinds.specs.declared.operation.ObjReply.TheVariants.{Missing}
use Rattle.mlt_script_serial.specs.Follows.{IsPartial}

answers_next : (q : Questions) (op : ObjOp) (r : ObjReply) → IsNext (Next.Op op) q → Reaches q ((op, r) ∷ []) (answered q r)
answers_next (Ends e) op r h = absurd h
answers_next (Asks o after) op r h = (h, refl)

-- one more operation is asked and told its reply
pub reaches_more : (p : Questions) (t : Transcript) (q : Questions) (op : ObjOp) (r : ObjReply) → Reaches p t q → IsNext (Next.Op op) q → Reaches p (t ++ (op, r) ∷ []) (answered q r)
reaches_more p [] q op r h n = subst (λ (z : Questions). Reaches z ((op, r) ∷ []) (answered q r)) (sym h) (answers_next q op r n)
reaches_more (Ends e) (x ∷ t) q op r h n = absurd h
reaches_more (Asks o after) (x ∷ t) q op r h n = (h.0, reaches_more (after x.1) t q op r h.1 n)

-- where one more operation is asked, there was room for its reply
pub room_for_more : (most : ℕ) (p : Questions) (t : Transcript) (q : Questions) (op : ObjOp) → AsksAtMost most p → Reaches p t q → IsNext (Next.Op op) q → length t < most
room_for_more most p t q op within reaches asked =
    let more : length (t ++ (op, Missing) ∷ []) ≤ most = within (t ++ (op, Missing) ∷ []) (answered q Missing) (reaches_more p t q op Missing reaches asked) in
    let long : length (t ++ (op, Missing) ∷ []) ≡ length t + 1 = length-append t ((op, Missing) ∷ []) in
    omega (arith, more, long)

-- two transcripts, one after the other
reaches-append : (p : Questions) (t u : Transcript) (q s : Questions) → Reaches p t q → Reaches q u s → Reaches p (t ++ u) s
reaches-append p [] u q s h k = subst (λ (z : Questions). Reaches z u s) (sym h) k
reaches-append (Ends e) (x ∷ t) u q s h k = absurd h
reaches-append (Asks o after) (x ∷ t) u q s h k = (h.0, reaches-append (after x.1) t u q s h.1 k)

-- all questions come to an end, whatever they are told
comes_to_end : (p : Questions) → (t : Transcript) × (e : Ending) × Reaches p t (Ends e)
comes_to_end (Ends e) = ([], e, refl)
comes_to_end (Asks o after) = let k = comes_to_end (after Missing) in ((o, Missing) ∷ k.0, k.1, (refl, k.2))

-- what is asked so far is the front of what follows the script
pub is_partial : (s : ScriptForm) (t : Transcript) (q : Questions) → Reaches (questions_of_script s) t q → IsPartial s t
is_partial s t q h =
    let rest = comes_to_end q in
    (rest.0, rest.1, reaches-append (questions_of_script s) t rest.0 q (Ends rest.1) h rest.2)

-- the front of a transcript reaches something
pub reaches_front : (p : Questions) (t u : Transcript) (s : Questions) → Reaches p (t ++ u) s → (q : Questions) × Reaches p t q
reaches_front p [] u s h = (p, refl)
reaches_front (Ends e) (x ∷ t) u s h = absurd h
reaches_front (Asks o after) (x ∷ t) u s h = let k = reaches_front (after x.1) t u s h.1 in (k.0, (h.0, k.1))
