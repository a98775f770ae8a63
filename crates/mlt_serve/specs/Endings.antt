-- What is answered of how the accepting ended, and why a server refuses to answer what it has done.
use Rattle.std.specs.Prelude.{ℕ, ◌≡◌, ◌≤◌, ◌⊎◌, Bool, false, true, Result, Ok, Err, IfErr, IsOk, IsOkUnless}
use Rattle.mlt_types.specs.declared.refusal.Refusal.{Refusal}
use Rattle.mlt_serve_connections.specs.declared.note.ListenerEnd.{ListenerEnd}

-- a failed accept is told as Io, and a growth that was refused as OutOfMemory
abbrev pub result_of_accepting : ListenerEnd → Result (Unit {0}) Refusal
result_of_accepting (ListenerEnd.Limit _) = Ok tt
result_of_accepting ListenerEnd.Stop = Ok tt
result_of_accepting (ListenerEnd.Accept _) = Err Refusal.Io
result_of_accepting ListenerEnd.Memory = Err Refusal.OutOfMemory

-- whether as many were taken as may be
abbrev pub is_limit : ListenerEnd → Bool
is_limit (ListenerEnd.Limit _) = true
is_limit other = false

-- The accepting ended without a fault, having taken so many: where that was since as many were taken as may be, these are all.
pub record HasAccepted (limit connections : ℕ) (end : ListenerEnd) : Type 0 where
  pub faultless : result_of_accepting end ≡ Ok tt
  pub few : connections ≤ limit
  pub whole : is_limit end ≡ true → connections ≡ limit

-- The result is refused where the accepting ended by a fault, for that; else where a growth was refused; else where, if at all, what was
-- served does not agree.
abbrev pub IsRefusedFor : {A : Type 0} → ListenerEnd → Bool → Result A Refusal → Type 0
IsRefusedFor end is_short result =
    IfErr (result_of_accepting end) (λ refusal. result ≡ Err refusal)
    × (IsOk (result_of_accepting end) → is_short ≡ true → result ≡ Err Refusal.OutOfMemory)
    × (IsOk (result_of_accepting end) → is_short ≡ false → IsOkUnless result Refusal.Audit)

-- one of the refusals of a server
abbrev pub IsOfServer : Refusal → Type 0
IsOfServer refusal = (refusal ≡ Refusal.Io) ⊎ (refusal ≡ Refusal.OutOfMemory) ⊎ (refusal ≡ Refusal.Audit)
